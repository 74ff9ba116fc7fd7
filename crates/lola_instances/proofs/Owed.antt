-- How much room is owed, in the step in which it is used and after.
use Rattle.std.proofs.Common.{◌≡◌, ℕ, ◌+◌, ◌≤◌, ap, ◌∙◌, arith, if◌then◌else◌, Bool, true, false, not, ◌&&◌, eq-eqb, refl}
use Rattle.std.proofs.lemmas.Bool.{ne_eqb}
use Rattle.lola_instances_stream.specs.Rights.{owed}

owed_told : (prepared running : Bool) (step at : ℕ) → at ≡ step → owed prepared running step at ≡ (if prepared then 1 else 0) + 0
owed_told prepared running step at e =
    ap (λ b. (if prepared then 1 else 0) + (if running && not b then 1 else 0)) (eq-eqb at step e) ∙ ap (λ b. (if prepared then 1 else 0) + (if b then 1 else 0)) (and_false running)
  where
    and_false : (b : Bool) → (b && false) ≡ false
    and_false true = refl
    and_false false = refl

owed_untold : (prepared running : Bool) (step at : ℕ) → running ≡ true → (at ≡ step → ⊥) → owed prepared running step at ≡ (if prepared then 1 else 0) + 1
owed_untold prepared running step at r h = λ i. (if prepared then 1 else 0) + (if r i && not (ne_eqb at step h i) then 1 else 0)

pub owed_fall : (prepared running : Bool) (step at later : ℕ) → running ≡ true → (at ≡ step → ⊥) → later ≡ step → owed prepared running step later + 1 ≤ owed prepared running step at
owed_fall prepared running step at later r h e = omega (arith, owed_told prepared running step later e, owed_untold prepared running step at r h)

pub owed_some : (prepared running : Bool) (step at : ℕ) → running ≡ true → (at ≡ step → ⊥) → 1 ≤ owed prepared running step at
owed_some prepared running step at r h = omega (arith, owed_untold prepared running step at r h)
