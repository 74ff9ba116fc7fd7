use Rattle.std.proofs.Common.{ap, sym, ◌∙◌, ◌≡◌, [], None, flat_map}
use Rattle.lola_model.specs.Wholes.{wholes_from}
use Rattle.lola_types.specs.Around.{setting}
use Rattle.lola_types.specs.LeftOut.{setting_of}
use Rattle.lola_types.specs.Refused.{with_more, constant_refusals, refusals_of_whole, range_refusals}
use Rattle.lola_types.proofs.WholeLemmas.{first_of_three}
use Rattle.lola_types.proofs.wholes.first_refusal.Goals as goal

pub returns : goal.returns
returns c =
    let streams : c.standing.result.streams.now ≡ c.args.spec.now.streams = ap (λ s. s.streams) c.standing.ensures in
    let kinds : c.standing.result.kinds.now ≡ c.args.kinds.now = ap (λ s. s.kinds) c.standing.ensures in
    cc (streams, kinds, first_of_three (flat_map constant_refusals c.args.spec.now.constants) (flat_map (refusals_of_whole (setting_of c.args.spec.now c.args.kinds.now [])) (wholes_from 0 c.args.spec.now.streams c.args.kinds.now)) (range_refusals c.args.spec.now.refused))
