-- Both parts are ready, and where each was given its outcomes the whole was.
use Rattle.std.proofs.Common.{rules}
use Rattle.lola_instances_stream.proofs.Parts.{both_given, first_ready, halves, others_ready}
use Rattle.lola_instances_stream.proofs.giving.+fn-give_among-join_mut+arg3+give_among.Goals as goal

pub join_mut-requires-after_bounds : goal.join_mut-requires-after_bounds
join_mut-requires-after_bounds g t c κs within =
    let outcomes = halves c.args.size c.args.outcomes.now c.split_at.result.0.now c.split_at.result.1.now c.split_at.ensures.front c.split_at.ensures.back in
    let first = first_ready c.args.offset c.args.size _ _ _ _ _ _ outcomes c.split_at_mut-first.ensures.value c.split_at.ensures.front_len c.split_at_mut-first.ensures.front_len c.requires in
    let others = others_ready c.args.offset c.args.size _ _ _ _ _ _ outcomes c.split_at_mut-first.ensures.value c.split_at.ensures.front_len c.split_at_mut-first.ensures.front_len c.requires in
    (first, (search rules, (λ a m. m, ((search rules, others), search rules))))

pub returns : goal.returns
returns g t c =
    let outcomes = halves c.args.size c.args.outcomes.now c.split_at.result.0.now c.split_at.result.1.now c.split_at.ensures.front c.split_at.ensures.back in
    both_given c.args.offset c.args.size _ _ _ _ c.split_at_mut-first.result.0.now c.split_at_mut-first.result.1.now outcomes c.split_at_mut-first.ensures.value c.split_at.ensures.front_len c.split_at_mut-first.ensures.front_len
    c.args.step c.first-1.given.0 c.others-1.given.0 (search rules) (search rules)
