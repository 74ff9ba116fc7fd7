-- Before the first step.
use Rattle.std.proofs.Common.{◌≡◌, refl, ℕ, ◌+◌, ◌≤◌, List, [], ◌∷◌, Option, Some, None, arith, if◌then◌else◌, length}
use Rattle.lola_model.specs.Model.{is_input}
use Rattle.lola_model.specs.declared.plan.Plan.{Plan}
use Rattle.lola_model.specs.declared.spec.Clause.{Clause}
use Rattle.lola_model.specs.declared.spec.Stream.{Stream}
use Rattle.lola_replay_step.specs.Rests.{AreBornIn, RestLives, Rests, RestsFrom, first_lives, fresh_from}
use Rattle.std.specs.List.{AllByRecursion}
use Rattle.lola_model.specs.Table.{Instance}
use Rattle.lola_model.specs.Model.{the_instance}

first-rest : (n : ℕ) (o : Option Clause) → RestLives [] n (elim o [ None ↦ the_instance ∷ [] | Some k ↦ [] ]) (first_lives 0 o)
first-rest n None = (record { params = refl; born = refl; earlier = refl; outcome = refl; placed = tt }, tt)
first-rest n (Some k) = tt

fresh-rests : (n i : ℕ) (ss : List Stream) → RestsFrom [] n i ss (fresh_from 0 i ss)
fresh-rests n i [] = tt
fresh-rests n i (s ∷ ss) = (record { input = refl; spawned = refl; lives = first-rest n s.spawn }, fresh-rests (n + 1) (if is_input s then i + 1 else i) ss)

pub fresh-rest : (plan : Plan) → Rests plan [] (fresh_from 0 0 plan.spec.streams)
fresh-rest plan = fresh-rests 0 0 plan.spec.streams

pub born-none : AreBornIn []
born-none n s = go s.spawn
  where
    go : (o : Option Clause) → AllByRecursion (λ (x : Instance). x.born ≤ 0) (elim o [ None ↦ the_instance ∷ [] | Some k ↦ [] ])
    go None = (omega arith, tt)
    go (Some k) = tt

pub fresh-long : (time i : ℕ) (ss : List Stream) → length (fresh_from time i ss) ≡ length ss
fresh-long time i [] = refl
fresh-long time i (s ∷ ss) = (let rest = fresh-long time (if is_input s then i + 1 else i) ss in omega (arith, rest))
