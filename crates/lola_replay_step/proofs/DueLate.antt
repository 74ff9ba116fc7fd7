-- The first deadline from a moment on is not before it.
use Rattle.std.proofs.Common.{◌≡◌, refl, sym, subst, inl, inr, ℕ, ◌+◌, ◌-◌, ◌<◌, ◌≤◌, List, [], ◌∷◌, IfSome, Option, Some, None, Bool, true, false, if◌then◌else◌, arith, min, nat_le, slice_get}
use Rattle.std.specs.Option.{option_map}
use Rattle.lola_value.specs.Ratio.{Ratio}
use Rattle.lola_value.specs.Times.{latest, up_to_latest}
use Rattle.lola_model.proofs.Deadlines.{first_after_above}
use Rattle.lola_model.specs.NextStep.{HasRates, earlier, local_rates}
use Rattle.lola_model.specs.StepOrder.{AreRates}
use Rattle.lola_model.specs.Steps.{first_after, rates_of}
use Rattle.lola_model.specs.declared.plan.Plan.{Plan}
use Rattle.lola_replay_table.specs.declared.table.KnownLife.{KnownLife}
use Rattle.lola_replay_table.specs.declared.table.KnownStream.{KnownStream}
use Rattle.lola_replay_step.specs.Dues.{clauses_due, due_of_known, due_of_lives, due_of_stream, in_time, known_due, timely_due}
use Rattle.lola_replay_step.proofs.DueLemmas.{start-due, stream-due}

module _ (from : ℕ) where
  abbrev IsLate : Option ℕ → Type 0
  IsLate o = IfSome o (λ t. from ≤ t)

  earlier-late : (a b : Option ℕ) → IsLate a → IsLate b → IsLate (earlier a b)
  earlier-late None b x y = y
  earlier-late (Some t) None x y = x
  earlier-late (Some t) (Some s) x y = omega (arith, x, y)

  up-late : (t : ℕ) → from ≤ t → IsLate (up_to_latest t)
  up-late t late = go (nat_le t latest)
    where
      go : (b : Bool) → IsLate (if b then Some t else None)
      go true = late
      go false = tt

  timely-late : (counted : ℕ) (rates : List Ratio) → AreRates rates → IsLate (timely_due counted rates from)
  timely-late counted rates positive = go (first_after rates (from - counted - 1)) refl
    where
      go : (o : Option ℕ) → first_after rates (from - counted - 1) ≡ o → IsLate (in_time (option_map (λ t. counted + t) o))
      go None e = tt
      go (Some s) e = let above : from - counted - 1 < s = first_after_above rates (from - counted - 1) s positive e in up-late (counted + s) (omega (arith, above))

  lives-late : (rates : List Ratio) → AreRates rates → (best : Option ℕ) (ls : List KnownLife) → IsLate best → IsLate (due_of_lives rates from best ls)
  lives-late rates positive best [] late = late
  lives-late rates positive best (l ∷ ls) late =
      lives-late rates positive (earlier best (timely_due l.born rates from)) ls (earlier-late best (timely_due l.born rates from) late (timely-late l.born rates positive))

  module _ (plan : Plan) (has : HasRates plan.pacings) where
    streams-late : (n : ℕ) (ks : List KnownStream) → IsLate (due_of_known plan from n ks)
    streams-late n [] = tt
    streams-late n (k ∷ ks) =
        let here : IsLate (due_of_stream (slice_get plan.pacings n) from k.lives) =
        subst IsLate (sym (stream-due (slice_get plan.pacings n) from k.lives)) (lives-late (local_rates (slice_get plan.pacings n)) (has.counted_from_births n) None k.lives tt) in
        earlier-late (due_of_stream (slice_get plan.pacings n) from k.lives) (due_of_known plan from (n + 1) ks) here (streams-late (n + 1) ks)

    pub due-late : (start : ℕ) (known : List KnownStream) → IfSome (known_due plan from start known) (λ t. from ≤ t)
    due-late start known =
        earlier-late (clauses_due start from plan.pacings) (due_of_known plan from 0 known)
        (subst IsLate (sym (start-due start from plan.pacings)) (timely-late start (rates_of plan.pacings) has.counted_from_start)) (streams-late 0 known)
