-- Runs with local deadlines, computed: their steps, outcomes and verdict lines.
use Rattle.std.proofs.Common.{◌≡◌, refl, ℕ, ◌*◌, List, [], ◌∷◌, Some, None, map, length, true}
use Rattle.std.specs.Prelude.{codes}
use Rattle.lola_value.specs.Answer.{Given, Missing}
use Rattle.lola_value.specs.declared.value.Kind.TheVariants as kind
use Rattle.lola_model.specs.declared.expr.Access.TheVariants as access
use Rattle.lola_model.specs.declared.expr.Arguments.TheVariants.{End, More'}
use Rattle.lola_model.specs.declared.expr.Binary.TheVariants as binary
use Rattle.lola_model.specs.declared.expr.Expr.{Expr}
use Rattle.lola_model.specs.declared.expr.Expr.TheVariants.{Literal, Parameter, Read}
use Rattle.lola_value.specs.declared.value.Value.TheVariants as value
use Rattle.lola_model.specs.declared.plan.Plan.{Plan}
use Rattle.lola_model.specs.declared.journal.Row.{Row}
use Rattle.lola_model.specs.declared.journal.Show.TheVariants.{Outputs}
use Rattle.lola_model.specs.declared.spec.Stream.{Stream}
use Rattle.lola_model.specs.declared.pacing.Pacing.TheVariants.{Event, Local}
use Rattle.lola_model.specs.declared.pacing.ClausePacings.{ClausePacings}
use Rattle.lola_model.specs.Runs.{whole_model, settled_model, final_lines, steps_of, settled_steps_of}
use Rattle.lola_model.specs.Texts.{output_line}
use Rattle.lola_model.proofs.Build.{Around, here, num, direct, or, both, with, input, output, named, on_a, hz, plan_of, row_at, accepted_all, int, gist, last_at}

-- tenths of a second
abbrev tenths : ℕ → ℕ
tenths n = n * 100000000

-- output z(p: Int64): Int64 spawn with a eval @Local(2Hz) with z(p).last(or: 0) + 1 close @a when a == 0
abbrev counter : Around → Stream
counter u =
    record (output kind.Int64 (num 0)) {
      name = codes "z";
      parameters = kind.Int64 ∷ [];
      spawn = with (direct 0);
      eval = with (both u binary.Add (or u (last_at u 1 (Parameter here 0)) (num 0)) (num 1));
      close = Some (record { place = 0; pace = None; when = Some (both u binary.Equal (direct 0) (num 0)); when_at = 0; with_at = []; with = [] });
    }

abbrev two_a_second : ClausePacings
two_a_second = record { spawn = Some (Event (record { 0 = 1 } ∷ [])); eval = Some (Local (record { num = 2; den = 1 })); close = Some (Event (record { 0 = 1 } ∷ [])) }

abbrev counts_from_birth : Around → Plan
counts_from_birth u = plan_of (named (codes "a") input ∷ counter u ∷ []) [] (on_a ∷ two_a_second ∷ [])

abbrev four_rows : List Row
four_rows = row_at (tenths 2) (int 1) ∷ row_at (tenths 10) (int 2) ∷ row_at (tenths 17) (int 0) ∷ row_at (tenths 25) (int 3) ∷ []

-- the row at 1.7 closes the instance of 1, whose deadline at 1.7 is therefore no step; the instance of 0 closes with it
a_closed_instance_has_no_deadline : (u : Around) → map gist (whole_model (counts_from_birth u) None (accepted_all four_rows))
    ≡ (tenths 2, (Given (int 1) ∷ []) ∷ (Missing ∷ []) ∷ [])
    ∷ (tenths 7, (Missing ∷ []) ∷ (Given (int 1) ∷ []) ∷ [])
    ∷ (tenths 10, (Given (int 2) ∷ []) ∷ (Missing ∷ Missing ∷ []) ∷ [])
    ∷ (tenths 12, (Missing ∷ []) ∷ (Given (int 2) ∷ Missing ∷ []) ∷ [])
    ∷ (tenths 15, (Missing ∷ []) ∷ (Missing ∷ Given (int 1) ∷ []) ∷ [])
    ∷ (tenths 17, (Given (int 0) ∷ []) ∷ (Missing ∷ Missing ∷ Missing ∷ []) ∷ [])
    ∷ (tenths 25, (Given (int 3) ∷ []) ∷ (Missing ∷ []) ∷ []) ∷ []
unfolding whole_model
a_closed_instance_has_no_deadline u = refl

-- of 4 accepted rows and 3 deadlines
seven_steps : (u : Around) → length (steps_of (counts_from_birth u) None (accepted_all four_rows)) ≡ 7
unfolding whole_model
seven_steps u = refl

abbrev counter_lines : Around → List (List ℕ)
counter_lines u =
    output_line (tenths 7) (counter u) (int 1 ∷ []) (int 1) ∷ output_line (tenths 12) (counter u) (int 1 ∷ []) (int 2)
    ∷ output_line (tenths 15) (counter u) (int 2 ∷ []) (int 1) ∷ []

its_lines : (u : Around) → final_lines (counts_from_birth u) None (accepted_all four_rows) Outputs ≡ counter_lines u
unfolding final_lines whole_model
its_lines u = refl

-- output z(p: Int64): Int64 spawn with a eval @Local(1Hz) with 1
abbrev ones : Stream
ones = record (output kind.Int64 (num 1)) { name = codes "z"; parameters = kind.Int64 ∷ []; spawn = with (direct 0) }

-- output g: Int64 @Global(1Hz) := z(5).hold(or: 0)
abbrev held : Around → Expr
held u = or u (Read here 1 access.Hold (More' u (num 5) u End)) (num 0)

abbrev local_and_global : Around → Plan
local_and_global u =
    plan_of (named (codes "a") input ∷ ones ∷ named (codes "g") (output kind.Int64 (held u)) ∷ []) []
    (on_a ∷ record { spawn = Some (Event (record { 0 = 1 } ∷ [])); eval = Some (Local (record { num = 1; den = 1 })); close = None } ∷ hz 1 ∷ [])

abbrev two_rows : List Row
two_rows = row_at 0 (int 5) ∷ row_at (tenths 10) (int 6) ∷ []

-- a global and a local deadline of one moment are one step
deadlines_of_a_moment_are_one_step : (u : Around) → map gist (whole_model (local_and_global u) None (accepted_all two_rows))
    ≡ (0, (Given (int 5) ∷ []) ∷ (Missing ∷ []) ∷ (Missing ∷ []) ∷ [])
    ∷ (tenths 10, (Given (int 6) ∷ []) ∷ (Missing ∷ Missing ∷ []) ∷ (Missing ∷ []) ∷ [])
    ∷ (tenths 10, (Missing ∷ []) ∷ (Given (int 1) ∷ Missing ∷ []) ∷ (Given (int 1) ∷ []) ∷ []) ∷ []
unfolding whole_model
deadlines_of_a_moment_are_one_step u = refl

its_lines_too : (u : Around) → final_lines (local_and_global u) None (accepted_all two_rows) Outputs
    ≡ output_line (tenths 10) ones (int 5 ∷ []) (int 1) ∷ output_line (tenths 10) (named (codes "g") input) [] (int 1) ∷ []
unfolding final_lines whole_model
its_lines_too u = refl

-- without the deadlines of the last stamp, two steps
two_settled_steps : (u : Around) → length (settled_steps_of (local_and_global u) None (accepted_all two_rows)) ≡ 2
unfolding settled_model
two_settled_steps u = refl

-- output z(p: Int64): Int64 spawn with a eval @Local(1Hz) with 1 close @Local(1Hz) when true
abbrev short_lives : Stream
short_lives = record ones { close = Some (record { place = 0; pace = None; when = Some (Literal here (value.Bool true)); when_at = 0; with_at = []; with = [] }) }

abbrev closes_at_its_first : Plan
closes_at_its_first =
    plan_of (named (codes "a") input ∷ short_lives ∷ []) []
    (on_a ∷ record { spawn = Some (Event (record { 0 = 1 } ∷ [])); eval = Some (Local (record { num = 1; den = 1 })); close = Some (Local (record { num = 1; den = 1 })) } ∷ [])

abbrev three_rows : List Row
three_rows = row_at 0 (int 5) ∷ row_at (tenths 5) (int 6) ∷ row_at (tenths 20) (int 7) ∷ []

-- each instance is closed at its own first deadline, and the other lives on; nothing is due at 2.0
each_closes_at_its_own_deadline : map gist (whole_model closes_at_its_first None (accepted_all three_rows))
    ≡ (0, (Given (int 5) ∷ []) ∷ (Missing ∷ []) ∷ [])
    ∷ (tenths 5, (Given (int 6) ∷ []) ∷ (Missing ∷ Missing ∷ []) ∷ [])
    ∷ (tenths 10, (Missing ∷ []) ∷ (Given (int 1) ∷ Missing ∷ []) ∷ [])
    ∷ (tenths 15, (Missing ∷ []) ∷ (Given (int 1) ∷ []) ∷ [])
    ∷ (tenths 20, (Given (int 7) ∷ []) ∷ (Missing ∷ []) ∷ []) ∷ []
unfolding whole_model
each_closes_at_its_own_deadline = refl
