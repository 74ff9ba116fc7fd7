-- How bytes begin, where they are compared with what stands before the lines of a state.
use Rattle.std.specs.Prelude.{ℕ, ◌≡◌, List, ◌∷◌, ◌++◌, true, codes, decimal, length}
use Rattle.lola_model.specs.declared.plan.Plan.{Plan}
use Rattle.lola_model.specs.Acceptance.{IsAccepted}
use Rattle.lola_report.specs.Lines.{has_no_lf}
use Rattle.lola_save_text.specs.Damage.{IsDamagedAt, IsOtherSpec, is_number}
use Rattle.lola_save_text.specs.Lines.{head_text}
use Rattle.lola_save_read.specs.declared.head.HeadEnd.{HeadEnd}
use Rattle.lola_save_read.specs.declared.head.HeadEnd.TheVariants as end

-- why bytes do not begin as they should: they are of another specification, or they are not and are damaged at this line, for
-- every accepted plan
abbrev pub IsHeadEnd : List ℕ → List ℕ → HeadEnd → Type 0
IsHeadEnd spec bytes end.OtherSpec = IsOtherSpec spec bytes
IsHeadEnd spec bytes (end.Damaged n) =
    (IsOtherSpec spec bytes → ⊥) × ((plan : Plan) → IsAccepted plan → IsDamagedAt spec plan bytes n)

-- the bytes begin with what stands before the lines of a state, and these are behind it; then they are of no other specification
pub record IsBehindHead (spec bytes rest : List ℕ) : Type 0 where
  pub begun : bytes ≡ head_text spec ++ rest
  pub same : IsOtherSpec spec bytes → ⊥

-- the byte LF, and what stands before and behind the first of some bytes
pub record IsCutAtLf (bytes front back : List ℕ) : Type 0 where
  pub whole : bytes ≡ front ++ 10 ∷ back
  pub plain : has_no_lf front ≡ true

-- a line behind a text with which bytes begin, and what stands behind that line
pub record IsLineBehind (front bytes body rest : List ℕ) : Type 0 where
  pub written : bytes ≡ front ++ (body ++ 10 ∷ rest)
  pub plain : has_no_lf body ≡ true

-- bytes that begin with the line of a specification's length: the digits, and what stands behind the line
pub record IsSecondLine (bytes digits left : List ℕ) : Type 0 where
  pub written : bytes ≡ codes "spec " ++ (digits ++ 10 ∷ left)
  pub number : is_number digits ≡ true

-- the digits are those of the length of the specification, which follows with an LF
pub record HasSpec (spec digits left rest : List ℕ) : Type 0 where
  pub same : digits ≡ decimal (length spec)
  pub follows : left ≡ spec ++ 10 ∷ rest
