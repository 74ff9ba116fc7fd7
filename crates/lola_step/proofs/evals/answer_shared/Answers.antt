use Rattle.std.proofs.Common.{◌≡◌, ◌∙◌, ap, drop, take}
use Rattle.std.proofs.lemmas.List.{with_items_is}
use Rattle.std.specs.Vec.{with_items}
use Rattle.lola_step.proofs.Results.{answered_is}
use Rattle.lola_step.proofs.evals.answer_shared.Goals as goal

pub returns-clause-answered : goal.returns-clause-answered
returns-clause-answered g c =
    let from = c.len-from.result in
    let kept : (with_items c.add_places.new.results c.share_tasks.new.results).items ≡ c.share_tasks.new.results =
    with_items_is c.add_places.new.results c.share_tasks.new.results (c.share_tasks.auto.results ∙ c.as_mut_slice.ensures.len) in
    record {
      fresh = drop from c.share_tasks.new.results;
      is = kept ∙ answered_is from c.args.results.now.items _ c.add_places.new.results.items c.share_tasks.new.results
          (c.len-from.ensures ∙ c.args.results.now.ok.0) c.add_places.ensures.items (c.share_tasks.ensures.before ∙ ap (take from) c.as_mut_slice.ensures.value);
      are = c.share_tasks.ensures.results;
    }
