use Rattle.std.proofs.Common.{◌≡◌, ◌∙◌, ◌+◌, ◌-◌, ap, arith, drop, length, List, ℕ, refl, subst, sym, take}
use Rattle.std.proofs.lemmas.List.{length-drop, take_all}
use Rattle.lola_model.specs.Content.{Content}
use Rattle.lola_model.specs.Store.{Seen, Stands}
use Rattle.lola_step.specs.Given.{AreHeldIn, AreKnown, CanGiveAll, after_all, told_outcomes}
use Rattle.lola_step.proofs.Together.{all_parts, can_later, held_dropped, known_later, layout_all, told_parts}
use Rattle.lola_step.proofs.giving.give_shared.Goals as goal

-- what is left, to its end
left : {X : Type 0} (xs : List X) (i : ℕ) → take (length xs - i) (drop i xs) ≡ drop i xs
left xs i = take_all (length xs - i) (drop i xs) (omega (arith, length-drop i xs))

pub give_next-at-requires-clause-known : goal.give_next-at-requires-clause-known
give_next-at-requires-clause-known g c κs within =
    let tasks = c.args.tasks.now in
    let at = c.loop-at.at in
    let old = g.S.StreamStore.seen c.args.store.now in
    let now = g.S.StreamStore.seen c.loop-at.store in
    let layout = ap (λ (s : Seen). s.layout) c.loop-at.invariant.seen ∙ layout_all old (take at tasks) (take at c.args.results.now) in
    subst (AreKnown now) (sym (left tasks at)) (known_later old now tasks at layout c.requires.known)

pub give_next-at-requires-clause-can : goal.give_next-at-requires-clause-can
give_next-at-requires-clause-can g c κs within =
    let tasks = c.args.tasks.now in
    let results = c.args.results.now in
    let at = c.loop-at.at in
    let now = g.S.StreamStore.seen c.loop-at.store in
    subst (λ us. CanGiveAll now us (take (length results - at) (drop at results))) (sym (left tasks at))
    (subst (λ qs. CanGiveAll now (drop at tasks) qs) (sym (left results at))
    (subst (λ (s : Seen). CanGiveAll s (drop at tasks) (drop at results)) (sym c.loop-at.invariant.seen)
    (can_later (g.S.StreamStore.seen c.args.store.now) tasks results at c.requires.can)))

pub loop-at-preserved : goal.loop-at-preserved
loop-at-preserved g c =
    let tasks = c.args.tasks.now in
    let results = c.args.results.now in
    let at = c.loop-at.at in
    let k = c.give_next-at.result in
    let old = g.S.StreamStore.seen c.args.store.now in
    let now = g.S.StreamStore.seen c.loop-at.store in
    let qs = take (length results - at) (drop at results) in
    record {
      within = omega (arith, c.give_next-at.ensures.within, ap length (left tasks at), length-drop at tasks, c.loop-at.invariant.within);
      seen = c.give_next-at.ensures.seen
          ∙ (ap (λ vs. after_all now (take k vs) (take k qs)) (left tasks at)
          ∙ (ap (λ vs. after_all now (take k (drop at tasks)) (take k vs)) (left results at)
          ∙ (ap (λ (s : Seen). after_all s (take k (drop at tasks)) (take k (drop at results))) c.loop-at.invariant.seen
          ∙ all_parts old tasks results at k (at + k) c.requires.places refl)));
      stands = λ names d held h.
          let before = told_outcomes names d (take at tasks) (take at results) in
          subst (λ (e : Content). Stands names (g.S.StreamStore.remembers c.give_next-at.new.store) (g.S.StreamStore.seen c.give_next-at.new.store) e)
          (ap (λ vs. told_outcomes names before (take k vs) (take k qs)) (left tasks at)
          ∙ (ap (λ vs. told_outcomes names before (take k (drop at tasks)) (take k vs)) (left results at)
          ∙ told_parts names d tasks results at k (at + k) c.requires.places refl))
          (c.give_next-at.ensures.stands names before (subst (AreHeldIn names) (sym (left results at)) (held_dropped names results at held)) (c.loop-at.invariant.stands names d held h));
    }
