-- What is read of the first lines of a state.
use Rattle.std.specs.Prelude.{ℕ, ◌≡◌, ◌≤◌, ◌+◌, List, [], ◌∷◌, ◌++◌, Option, Some, true, codes, decimal}
use Rattle.lola_model.specs.Acceptance.{IsAccepted}
use Rattle.lola_model.specs.declared.plan.Plan.{Plan}
use Rattle.lola_save_text.specs.Damage.{IsDamagedAt}
use Rattle.lola_save_text.specs.declared.forms.StreamForm.{StreamForm}
use Rattle.lola_save_text.specs.Lines.{StartLine, LastLine, StepsLine, head_text, lines_text, time_or_dash}
use Rattle.lola_save_text.specs.Places.{AtStart, AtStream}
use Rattle.lola_save_text.specs.Runs.{count_lines, run}
use Rattle.lola_save_text.specs.Fitting.{is_last, is_start, most_steps}
use Rattle.lola_save_text.specs.declared.state.Times.{Times}

-- bytes that begin with a line of a time or a dash behind a text, and what stands behind the line
pub record IsTimedLine (front bytes : List ℕ) (o : Option ℕ) (rest : List ℕ) : Type 0 where
  pub time : is_start o ≡ true
  pub written : bytes ≡ front ++ (time_or_dash o ++ 10 ∷ rest)

-- bytes that begin with the line of a last accepted row, in a run with this start, and what stands behind it
pub record IsLastLine (start : Option ℕ) (bytes : List ℕ) (o : Option ℕ) (rest : List ℕ) : Type 0 where
  pub order : is_last start o ≡ true
  pub written : bytes ≡ codes "last " ++ (time_or_dash o ++ 10 ∷ rest)

-- bytes that begin with the line of a number of steps, and what stands behind it
pub record IsStepsLine (bytes : List ℕ) (n : ℕ) (rest : List ℕ) : Type 0 where
  pub few : n ≤ most_steps
  pub written : bytes ≡ codes "steps " ++ (decimal n ++ 10 ∷ rest)

-- the first three lines of bytes are those of a state, and say this; what stands behind them
pub record AreTimesRead (bytes : List ℕ) (t : Times) (rest : List ℕ) : Type 0 where
  pub order : is_last t.start t.last ≡ true
  pub few : t.steps ≤ most_steps
  pub begun : bytes ≡ lines_text (StartLine t.start ∷ LastLine t.last ∷ StepsLine t.steps ∷ []) ++ rest
  pub accepted : (forms : List StreamForm) → run forms AtStart (StartLine t.start ∷ LastLine t.last ∷ StepsLine t.steps ∷ [])
      ≡ Some (AtStream (record { start = t.start; last = t.last; steps = t.steps }) 0 forms)

-- behind the head of a state text, bytes are damaged at the k-th of the first lines of the state
abbrev pub AreTimesRefused : List ℕ → ℕ → Type 0
AreTimesRefused bytes k =
    (spec : List ℕ) (plan : Plan) → IsAccepted plan → IsDamagedAt spec plan (head_text spec ++ bytes) (count_lines (head_text spec) + k)
