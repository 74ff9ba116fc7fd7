-- The forms of a plan's streams do not depend on their pacings.
use Rattle.std.proofs.Common.{◌≡◌, ◌∷◌, ℕ, ◌+◌, List, [], drop, refl, ap}
use Rattle.std.specs.Prelude.{slice_get, unwrap_or}
use Rattle.lola_model.specs.Store.{layouts_from}
use Rattle.lola_model.specs.declared.pacing.ClausePacings.{ClausePacings}
use Rattle.lola_model.specs.declared.plan.Plan.{Plan}
use Rattle.lola_model.specs.declared.spec.Stream.{Stream}
use Rattle.lola_save_text.specs.Forms.{form_with, stream_forms}

pub any-pacings : (plan : Plan) (n : ℕ) (ss : List Stream) (kept : List ℕ) (p q : List ClausePacings) → stream_forms plan n (layouts_from ss kept p) ≡ stream_forms plan n (layouts_from ss kept q)
any-pacings plan n [] kept p q = refl
any-pacings plan n (s ∷ ss) kept p q = ap (λ t. form_with plan n s (unwrap_or (slice_get kept 0) 1) ∷ t) (any-pacings plan (n + 1) ss (drop 1 kept) (drop 1 p) (drop 1 q))
