use Rattle.std.proofs.Common.{◌≡◌, ◌∙◌, ◌++◌, ◌∷◌, [], ◌+◌, ◌<◌, length, map, drop, ap, sym, subst, arith}
use Rattle.std.proofs.lemmas.List.{map-append}
use Rattle.std.proofs.Common.{append_assoc}
use Rattle.lola_model.specs.Store.{layouts_from}
use Rattle.lola_instances_stream.specs.Each.{Each}
use Rattle.lola_instances.specs.Layouts.{first_kept, first_locals, stream_layout}
use Rattle.lola_store.specs.Opening.{IsOpened}
use Rattle.lola_store.specs.Populations.{population_layout}
use Rattle.lola_instances_stream.proofs.Lists.{each-append}
use Rattle.lola_instances.proofs.Layouts.{layouts_more}
use Rattle.lola_store.proofs.opening.open_all.Goals as goal

pub loop-i-preserved : goal.loop-i-preserved
loop-i-preserved c =
    let ss = c.args.streams.now in
    let kept = c.args.kept.now in
    let ps = c.args.pacings.now in
    let i = c.loop-i.i in
    let made = c.loop-i.made.items in
    let p = c.in_ok-population.population in
    let s = c.index-streams-i.result in
    let rest = layouts_from (drop (i + 1) ss) (drop (i + 1) kept) (drop (i + 1) ps) in
    let g : c.push.new.self.items ≡ made ++ p ∷ [] = c.in_ok-push.ensures.items in
    let lay : population_layout p ≡ stream_layout s (first_kept (drop i kept)) (first_locals (drop i ps)) =
    c.in_ok-population.ensures.layout ∙ (λ j. stream_layout s (c.kept_at.ensures j) (c.in_ok-locals.ensures j)) in
    let l : i < length ss = omega arith in
    let more = layouts_more ss kept ps i s l c.index-streams-i.is in
    record {
      layouts = ap (λ xs. map population_layout xs ++ rest) g
          ∙ (ap (λ xs. xs ++ rest) (map-append population_layout made (p ∷ []))
          ∙ (append_assoc (map population_layout made) (population_layout p ∷ []) rest
          ∙ (ap (λ x. map population_layout made ++ (x ∷ rest)) lay
          ∙ (ap (λ xs. map population_layout made ++ xs) (sym more) ∙ c.loop-i.invariant.layouts))));
      opened = subst (Each IsOpened) (sym g) (each-append IsOpened made p c.loop-i.invariant.opened c.in_ok-population.ensures.opened);
    }
