-- An instance in a step in which it was told nothing.
use Rattle.std.proofs.Common.{◌≡◌, ◌∙◌, ℕ, List, ◌++◌, ap, sym, subst, append-nil, map}
use Rattle.circular_buffer.specs.Buffer.{keep_last}
use Rattle.lola_value.specs.declared.text.Field.{Field}
use Rattle.lola_value.specs.declared.value.Outcome.TheVariants as outcome
use Rattle.lola_value.specs.Naming.{Naming, read_outcome, IsHeldIn}
use Rattle.lola_model.specs.Accesses.{one_more}
use Rattle.lola_instances_one.specs.Holdings.{Holdings, shown}
use Rattle.lola_instances_one.specs.Memories.{shifted, AllSince, AllStandFor, life_values, Remembers}
use Rattle.lola_instances_one.specs.Saved.{MayHaveHad}

pub silent-remembers : (start time step : ℕ) (names : Naming) (s : Holdings) (values : List (ℕ × Field)) → shown step s ≡ outcome.Missing → MayHaveHad start names s values → Remembers start time step names s values
silent-remembers start time step names s values none h =
    let e : life_values time step names s values ≡ values = ap (λ o. values ++ one_more time (read_outcome names o)) none ∙ append-nil values in
    record {
      ring = h.ring ∙ ap (λ vs. keep_last s.ring.capacity (map (λ (v : ℕ × Field). v.1) vs)) (sym e);
      panes = subst (λ vs. AllStandFor s.panes (map (shifted start) vs)) (sym e) h.panes;
      since = subst (AllSince start) (sym e) h.since;
      held = h.held;
      now_held = subst (IsHeldIn names) (sym none) tt;
    }
