-- What a close clause may ask of a store in a step, and where local clauses stand.
use Rattle.std.proofs.Common.{◌≡◌, refl, ap, ◌∙◌, sym, subst, ℕ, ◌<◌, List, Option, Some, None, true, IsTrue, slice_get, length, arith}
use Rattle.std.proofs.lemmas.Option.{slice_get_within}
use Rattle.lola_value.specs.declared.value.Kind.{Kind}
use Rattle.lola_value.specs.Kinds.{are_of_kinds}
use Rattle.lola_value.specs.Naming.{the_values}
use Rattle.lola_model.specs.Acceptance.{IsAccepted}
use Rattle.lola_model.specs.Model.{close_pacing, eval_pacing}
use Rattle.lola_model.specs.NextStep.{is_local}
use Rattle.lola_model.specs.Store.{IsRunning, Layout, Seen, layout_of, parameters_of, spawns_in}
use Rattle.lola_model.specs.declared.pacing.Pacing.{Pacing}
use Rattle.lola_model.specs.declared.plan.Plan.{Plan}
use Rattle.lola_model.specs.declared.spec.Clause.{Clause}
use Rattle.lola_model.specs.declared.spec.Stream.{Stream}
use Rattle.lola_model.proofs.LocalsSpawn.{locals_spawn}
use Rattle.lola_step_contents.specs.Ready.{IsAtStep}
use Rattle.lola_step_contents.proofs.Clauses.{close_may_ask}
use Rattle.lola_step_contents.proofs.Shapes.{never_closes, passes_at}
use Rattle.lola_step.specs.Closings.{MayAskClosing}
use Rattle.lola_step.specs.Moments.{active_for_in}
use Rattle.lola_step.specs.Progress.{IsMomentOf, IsOf}
use Rattle.lola_step.specs.declared.moment.Moment.{Moment}
use Rattle.lola_step.proofs.Activities.{active_for_is}
use Rattle.lola_step.proofs.Layouts.{layouts_length, parameters_there, spawns_there}

module _ (plan : Plan) (accepted : IsAccepted plan) where
  module _ (s : Seen) (of : IsOf plan s) (n : ℕ) (x : Stream) (at : slice_get plan.spec.streams n ≡ Some x) where
    -- the layout has the stream
    pub laid_out : n < length s.layout.streams
    laid_out = omega (arith, slice_get_within plan.spec.streams n x at, layouts_length plan.spec.streams plan.kept plan.pacings, ap (λ (l : Layout). length l.streams) of.layout)

    module _ (k : Clause) (closes : x.close ≡ Some k) where
      spawns : (o : Option Clause) → x.spawn ≡ o → spawns_in (slice_get (layout_of plan).streams n) ≡ true
      spawns None e = let none : x.close ≡ None = never_closes x (passes_at _ plan.spec.streams n x accepted.named.shapes at) e in absurd (cc)
      spawns (Some j) e = spawns_there plan.spec.streams plan.kept plan.pacings n x j at e

      -- a stream with a close clause has a spawn clause
      pub closes_spawned : IsTrue (spawns_in (slice_get s.layout.streams n))
      closes_spawned = ap (λ (l : Layout). spawns_in (slice_get l.streams n)) of.layout ∙ spawns x.spawn refl

      -- where the close clause is active for an instance, it may be asked for it
      pub closes_asked : (m : Moment) → IsMomentOf m s → IsRunning s → (o : Option Pacing) → o ≡ close_pacing (slice_get plan.pacings n) → MayAskClosing plan m o s n k
      closes_asked m h running o e born active p kinds =
          let same : parameters_of (slice_get s.layout.streams n) ≡ x.parameters = ap (λ (l : Layout). parameters_of (slice_get l.streams n)) of.layout ∙ parameters_there plan.spec.streams plan.kept plan.pacings n x at in
          let at_step : IsAtStep plan m.start h.step s = record {
            running = running;
            layout = of.layout;
            start_is = sym h.start_is;
            time_is = sym h.time_is ∙ h.is.time_is;
            order = omega (arith, of.order, h.start_is, h.time_is, h.is.time_is);
          } in
          let in_step = sym (active_for_is m.start h.step m h.is born born (close_pacing (slice_get plan.pacings n)) (λ l. refl)) ∙ (ap (active_for_in m born) (sym e) ∙ active) in
          close_may_ask plan m.start h.step s n x k p accepted at_step at closes born in_step (subst (λ (ks : List Kind). IsTrue (are_of_kinds ks (the_values p))) same kinds)

    -- a stream with a local clause has a spawn clause
    spawned_by : (x.spawn ≡ None → ⊥) → (o : Option Clause) → x.spawn ≡ o → spawns_in (slice_get (layout_of plan).streams n) ≡ true
    spawned_by some None e = absurd (some e)
    spawned_by some (Some j) e = spawns_there plan.spec.streams plan.kept plan.pacings n x j at e

    is_spawned : (x.spawn ≡ None → ⊥) → IsTrue (spawns_in (slice_get s.layout.streams n))
    is_spawned some = ap (λ (l : Layout). spawns_in (slice_get l.streams n)) of.layout ∙ spawned_by some x.spawn refl

    pub evals_locally : is_local (eval_pacing (slice_get plan.pacings n)) ≡ true → IsTrue (spawns_in (slice_get s.layout.streams n))
    evals_locally local = is_spawned (λ e. (let global = (locals_spawn plan.spec plan.pacings accepted.paced n x at).eval_global e in cc))

    pub closes_locally : is_local (close_pacing (slice_get plan.pacings n)) ≡ true → IsTrue (spawns_in (slice_get s.layout.streams n))
    closes_locally local = is_spawned (λ e. (let global = (locals_spawn plan.spec plan.pacings accepted.paced n x at).close_global e in cc))
