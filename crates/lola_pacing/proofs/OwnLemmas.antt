-- Lists that grow stream by stream.
use Rattle.std.proofs.Common.{◌≡◌, refl, ap, sym, subst, ℕ, List, [], ◌∷◌, ◌++◌, Option, arith, length, drop}
use Rattle.std.proofs.lemmas.List.{drop_all}
use Rattle.lola_value.specs.declared.front.Code.{Code}
use Rattle.lola_model.specs.declared.spec.Stream.{Stream}
use Rattle.lola_model.specs.declared.spec.WindowSpec.{WindowSpec}
use Rattle.lola_model.specs.PacingFound.{AreOwn}
use Rattle.lola_model.specs.declared.finding.FoundPacing.{FoundPacing}
use Rattle.lola_model.specs.Pacings.{InStep, AreWindowRefusals}
use Rattle.lola_pacing.specs.Steps.{Grows, GrowsOwn}

append_none : {X : Type 0} (xs : List X) → xs ++ [] ≡ xs
append_none [] = refl
append_none (x ∷ xs) = ap (λ ys. x ∷ ys) (append_none xs)

-- where all streams are done
pub grown : (R : ℕ → Stream → FoundPacing → Type 0) (all ss : List Stream) (i n : ℕ) (made : List FoundPacing) → i ≡ length ss → Grows R all n (drop i ss) made → InStep R 0 all made
grown R all ss i n made e g =
    subst (λ (fs : List FoundPacing). InStep R 0 all fs) (append_none made) (g [] (subst (λ (ts : List Stream). InStep R n ts []) (sym (drop_all i ss (omega arith))) tt))

pub grown_own : (all ss : List Stream) (i n : ℕ) (made : List FoundPacing) → i ≡ length ss → GrowsOwn all n (drop i ss) made → AreOwn 0 all made
grown_own all ss i n made e g =
    subst (λ (fs : List FoundPacing). AreOwn 0 all fs) (append_none made) (g [] (subst (λ (ts : List Stream). AreOwn n ts []) (sym (drop_all i ss (omega arith))) tt))

pub window_refusals_all : (spawns evals closes : List FoundPacing) (all ws : List WindowSpec) (i : ℕ) (made : List (Option Code)) → i ≡ length ws
    → ((rest : List (Option Code)) → AreWindowRefusals spawns evals closes (drop i ws) rest → AreWindowRefusals spawns evals closes all (made ++ rest))
    → AreWindowRefusals spawns evals closes all made
window_refusals_all spawns evals closes all ws i made e g =
    subst (λ (vs : List (Option Code)). AreWindowRefusals spawns evals closes all vs) (append_none made)
    (g [] (subst (λ (vs : List WindowSpec). AreWindowRefusals spawns evals closes vs []) (sym (drop_all i ws (omega arith))) tt))
