-- The least moment of which something holds, or none, up to the latest time.
use Rattle.std.proofs.Common.{◌≡◌, ℕ, ◌<◌, ◌≤◌, refl, Option, Some, None, Bool, true, false, if◌then◌else◌, nat_le, arith}
use Rattle.std.proofs.lemmas.Bool.{leb-true, leb-false}
use Rattle.std.specs.Option.{option_and_then}
use Rattle.lola_value.specs.Times.{latest, up_to_latest}
use Rattle.lola_model.specs.NextStep.{IsLeast}

-- up to the latest time
in_time : (P : ℕ → Type 0) (t : ℕ) (b : Bool) → nat_le t latest ≡ b → IsLeast P (Some t) → IsLeast (λ u. P u × (u ≤ latest)) (if b then Some t else None)
in_time P t true e h = ((h.0, leb-true t latest e), λ u w. h.1 u w.0)
in_time P t false e h = λ u w. let above : latest < t = leb-false t latest e in let no_later : t ≤ u = h.1 u w.0 in let within : u ≤ latest = w.1 in absurd (omega arith)

pub least_in_time : (P : ℕ → Type 0) (o : Option ℕ) → IsLeast P o → IsLeast (λ u. P u × (u ≤ latest)) (option_and_then up_to_latest o)
least_in_time P None h = λ t w. h t w.0
least_in_time P (Some t) h = in_time P t (nat_le t latest) refl h
