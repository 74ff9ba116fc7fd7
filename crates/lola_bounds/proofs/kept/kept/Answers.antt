use Rattle.std.proofs.Common.{◌≡◌, ◌∙◌, ◌+◌, ◌≤◌, ap, List, arith}
use Rattle.lola_model.specs.Bounds.{offset_onto, offsets_onto, greatest_offset}
use Rattle.lola_model.specs.Parts.{listed_streams}
use Rattle.lola_model.specs.declared.spec.Stream.{Stream}
use Rattle.lola_bounds.proofs.KeptLemmas.{greatest_small}
use Rattle.lola_bounds.proofs.kept.kept.Goals as goal

pub overflow_add-result : goal.overflow_add-result
overflow_add-result c =
    let e : c.greatest_onto.result ≡ greatest_offset (offsets_onto c.args.stream c.args.spec.now) =
    c.greatest_onto.ensures ∙ ap (λ (ss : List Stream). greatest_offset (listed_streams (offset_onto c.args.stream) ss)) c.as_slice.ensures in
    let small : greatest_offset (offsets_onto c.args.stream c.args.spec.now) ≤ 4096 = greatest_small (offsets_onto c.args.stream c.args.spec.now) (c.requires.small c.args.stream) in
    omega arith

pub returns : goal.returns
returns c = ap (λ k. 1 + k) (c.greatest_onto.ensures ∙ ap (λ (ss : List Stream). greatest_offset (listed_streams (offset_onto c.args.stream) ss)) c.as_slice.ensures)
