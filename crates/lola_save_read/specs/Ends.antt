-- What is read of bytes: a state, or why they are no state text.
use Rattle.std.specs.Prelude.{ℕ, ◌≡◌, List}
use Rattle.lola_model.specs.declared.plan.Plan.{Plan}
use Rattle.lola_save_text.specs.Damage.{IsDamagedAt, IsOtherSpec, IsStateText}
use Rattle.lola_save_text.specs.Forms.{forms_of}
use Rattle.lola_save_text.specs.Lines.{state_text}
use Rattle.lola_save_text.specs.Validity.{IsSaved}
use Rattle.lola_save_text.specs.declared.state.SavedState.{SavedState}
use Rattle.lola_save_read.specs.declared.read.ReadEnd.{ReadEnd}
use Rattle.lola_save_read.specs.declared.read.ReadEnd.TheVariants as end

-- a state that the plan can have, whose text these bytes are
pub record IsRead (spec : List ℕ) (plan : Plan) (bytes : List ℕ) (s : SavedState) : Type 0 where
  pub saved : IsSaved (forms_of plan) s
  pub written : bytes ≡ state_text spec plan s

-- the bytes are of another specification, and no state text of the plan; or they are not, and are damaged at this line, and so no
-- state text of the plan either; of want of memory nothing is said
abbrev pub IsReadEnd : List ℕ → Plan → List ℕ → ReadEnd → Type 0
IsReadEnd spec plan bytes end.OtherSpec = IsOtherSpec spec bytes × (IsStateText spec plan bytes → ⊥)
IsReadEnd spec plan bytes (end.Damaged n) = (IsOtherSpec spec bytes → ⊥) × IsDamagedAt spec plan bytes n
IsReadEnd spec plan bytes end.Memory = Unit {0}
