-- Worked runs: the state of each is what it should be.
use Rattle.std.proofs.Common.{◌≡◌, refl, ℕ, ◌*◌, List, [], ◌∷◌, Option, Some, None, pos, negsuc, true, false, lit<, lit≤}
use Rattle.std.specs.Prelude.{codes}
use Rattle.std.specs.Str.{chars, is_utf8}
use Rattle.lola_value.specs.declared.text.Field.{Field}
use Rattle.lola_value.specs.declared.text.Field.TheVariants as field
use Rattle.lola_value.specs.declared.value.Kind.TheVariants as kind
use Rattle.lola_value.specs.declared.value.Value.TheVariants as value
use Rattle.lola_model.specs.declared.expr.Expr.TheVariants.{Literal}
use Rattle.lola_model.specs.declared.journal.Row.{Row}
use Rattle.lola_model.specs.declared.plan.Plan.{Plan}
use Rattle.lola_model.specs.declared.spec.Agg.{Agg}
use Rattle.lola_model.specs.declared.spec.Agg.TheVariants as agg
use Rattle.lola_model.specs.Runs.{settled_model}
use Rattle.lola_model.proofs.Build.{Around, named, input, output, on_a, plan_of, row_at, accepted_all, int}
use Rattle.lola_model.proofs.Rows.{second, sum_and_trigger, count_of_ten_seconds, counts_of_values}
use Rattle.lola_panes.specs.declared.partial.Partial.TheVariants.{Number, Extreme, Mean, Truth}
use Rattle.lola_save_text.specs.Fitting.{is_value}
use Rattle.lola_save_text.specs.declared.forms.WindowForm.{WindowForm}
use Rattle.lola_save_text.specs.declared.state.SavedPanes.{SavedPanes}
use Rattle.lola_save_text.specs.declared.state.SavedInstance.{SavedInstance}
use Rattle.lola_save_text.specs.declared.state.SavedState.{SavedState}
use Rattle.lola_save_text.specs.PaneFolds.{panes_of}
use Rattle.lola_save_text.specs.JournalStates.{state_of, IsJournalOf}

-- an instance of a stream without a spawn clause
abbrev pub alone : List Field → List (Option SavedPanes) → List SavedInstance
alone ring panes = record { born = None; params = []; ring = ring; panes = panes } ∷ []

-- one row at 0 with the value 1: an input, an output of one more, and a trigger that is false
abbrev pub first_row : SavedState
first_row = record { start = Some 0; last = Some 0; steps = 1; streams = alone (int 1 ∷ []) [] ∷ alone (int 2 ∷ []) [] ∷ alone (field.Bool false ∷ []) [] ∷ [] }

pub first-row : (u : Around) → state_of (sum_and_trigger u) None (accepted_all (row_at 0 (int 1) ∷ [])) ≡ first_row
unfolding settled_model
first-row u = refl

-- it is a journal that a run can take
pub first-journal : (u : Around) → IsJournalOf (sum_and_trigger u) None (accepted_all (row_at 0 (int 1) ∷ []))
unfolding settled_model
first-journal u = record {
  option = refl;
  legal = (lit≤ tt, tt);
  fits = (record { fields = (record { integer = refl; within = refl }, tt); source = lit< tt; number = lit< tt; stamp = lit≤ tt; mark = tt }, tt);
  steps = lit≤ tt;
}

-- without a row only a start is known, if it was given
pub no-row : (u : Around) → state_of (sum_and_trigger u) None [] ≡ record { start = None; last = None; steps = 0; streams = alone [] [] ∷ alone [] [] ∷ alone [] [] ∷ [] }
unfolding settled_model
no-row u = refl

pub no-row-started : (u : Around) → state_of (sum_and_trigger u) (Some second) [] ≡ record { start = Some second; last = None; steps = 0; streams = alone [] [] ∷ alone [] [] ∷ alone [] [] ∷ [] }
unfolding settled_model
no-row-started u = refl

-- a window of ten seconds that counts, in panes of one second: the deadline at the last row is still to come
abbrev pub counts_each_second : Plan
counts_each_second = record count_of_ten_seconds { panes = record { pane = 1000000000; count = 10 } ∷ [] }

abbrev pub two_rows : List Row
two_rows = row_at 0 (int 5) ∷ row_at second (int 6) ∷ []

pub two-panes : state_of counts_each_second None (accepted_all two_rows)
    ≡ record {
      start = Some 0;
      last = Some second;
      steps = 2;
      streams = alone (int 6 ∷ []) (Some (record { last = 1; partials = Number (pos 1) ∷ Number (pos 1) ∷ [] }) ∷ []) ∷ alone [] [] ∷ [];
    }
unfolding settled_model
two-panes = refl

-- with one more row half a second later that deadline is a step, and its count is kept
pub a-deadline-between : state_of counts_each_second None (accepted_all (row_at 0 (int 5) ∷ row_at second (int 6) ∷ row_at (3 * 500000000) (int 7) ∷ []))
    ≡ record {
      start = Some 0;
      last = Some (3 * 500000000);
      steps = 4;
      streams =
          alone (int 7 ∷ []) (Some (record { last = 2; partials = Number (pos 1) ∷ Number (pos 1) ∷ Number (pos 1) ∷ [] }) ∷ [])
          ∷ alone (int 2 ∷ []) [] ∷ [];
    }
unfolding settled_model
a-deadline-between = refl

-- instances that count the rows of a value, of which the second is closed: what is left was born at its own row
abbrev counts_two : Around → Plan
counts_two u = record (counts_of_values u) { kept = 1 ∷ 2 ∷ [] }

pub one-lives : (u : Around) → state_of (counts_two u) None (accepted_all (row_at 0 (int 0) ∷ row_at second (int 0) ∷ row_at (2 * second) (int 1) ∷ row_at (3 * second) (int 1) ∷ []))
    ≡ record {
      start = Some 0;
      last = Some (3 * second);
      steps = 4;
      streams = alone (int 1 ∷ []) [] ∷ (record { born = Some (2 * second); params = int 1 ∷ []; ring = int 1 ∷ int 2 ∷ []; panes = [] } ∷ []) ∷ [];
    }
unfolding settled_model
one-lives u = refl

-- panes of each aggregation over values at the start, at 10 and at 25, of which three are kept

abbrev form : Agg → WindowForm
form how = record { number = 0; how = how; pane = 10; count = 3 }

abbrev numbers : List (ℕ × Field)
numbers = (0, field.Int (pos 5)) ∷ (10, field.Int (pos 7)) ∷ (10, field.Int (negsuc 1)) ∷ (25, field.Int (pos 4)) ∷ []

pub of-count : panes_of 0 (form agg.Count) numbers ≡ Some (record { last = 3; partials = Number (pos 2) ∷ Number (pos 0) ∷ Number (pos 1) ∷ [] })
of-count = refl

pub of-sum : panes_of 0 (form agg.Sum) numbers ≡ Some (record { last = 3; partials = Number (pos 5) ∷ Number (pos 0) ∷ Number (pos 4) ∷ [] })
of-sum = refl

pub of-min : panes_of 0 (form agg.Min) numbers ≡ Some (record { last = 3; partials = Extreme (Some (negsuc 1)) ∷ Extreme None ∷ Extreme (Some (pos 4)) ∷ [] })
of-min = refl

pub of-max : panes_of 0 (form agg.Max) numbers ≡ Some (record { last = 3; partials = Extreme (Some (pos 7)) ∷ Extreme None ∷ Extreme (Some (pos 4)) ∷ [] })
of-max = refl

pub of-avg : panes_of 0 (form agg.Avg) numbers ≡ Some (record { last = 3; partials = Mean (pos 5) 2 ∷ Mean (pos 0) 0 ∷ Mean (pos 4) 1 ∷ [] })
of-avg = refl

abbrev truths : List (ℕ × Field)
truths = (0, field.Bool false) ∷ (10, field.Bool true) ∷ (10, field.Bool false) ∷ (25, field.Bool true) ∷ []

pub of-forall : panes_of 0 (form agg.Forall) truths ≡ Some (record { last = 3; partials = Truth false ∷ Truth true ∷ Truth true ∷ [] })
of-forall = refl

pub of-exists : panes_of 0 (form agg.Exists) truths ≡ Some (record { last = 3; partials = Truth true ∷ Truth false ∷ Truth true ∷ [] })
of-exists = refl

-- fewer panes than are kept, where the newest is an early one
pub of-few : panes_of 0 (form agg.Count) ((0, field.Int (pos 5)) ∷ (7, field.Int (pos 6)) ∷ []) ≡ Some (record { last = 1; partials = Number (pos 1) ∷ Number (pos 1) ∷ [] })
of-few = refl

-- offsets count from the start
pub from-a-start : panes_of 100 (form agg.Count) ((100, field.Int (pos 5)) ∷ (101, field.Int (pos 6)) ∷ []) ≡ Some (record { last = 1; partials = Number (pos 1) ∷ Number (pos 1) ∷ [] })
from-a-start = refl

pub of-nothing : panes_of 0 (form agg.Sum) [] ≡ None
of-nothing = refl

-- a literal that is not in UTF-8 comes to a value that no state may have: why the law asks that of the plan's texts

abbrev odd_text : Plan
odd_text =
    record (plan_of (named (codes "a") input ∷ named (codes "b") (output kind.Text (Literal (record { at = 0; kind = Some kind.Text }) (value.Text (record { 0 = 0 })))) ∷ []) [] (on_a ∷ on_a ∷ []))
    { spec = record { streams = named (codes "a") input ∷ named (codes "b") (output kind.Text (Literal (record { at = 0; kind = Some kind.Text }) (value.Text (record { 0 = 0 })))) ∷ []; windows = []; texts = (255 ∷ []) ∷ []; constants = []; refused = [] } }

pub odd-state : state_of odd_text None (accepted_all (row_at 0 (int 1) ∷ []))
    ≡ record { start = Some 0; last = Some 0; steps = 1; streams = alone (int 1 ∷ []) [] ∷ alone (field.Text (255 ∷ []) ∷ []) [] ∷ [] }
unfolding settled_model
odd-state = refl

pub odd-value : is_value kind.Text (field.Text (255 ∷ [])) ≡ false
unfolding is_utf8 chars
odd-value = refl
