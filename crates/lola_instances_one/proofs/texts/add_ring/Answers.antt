-- The ring's values are told from the oldest on, so each is followed by those behind it.
use Rattle.std.proofs.Common.{◌≡◌, List, ◌++◌, ◌+◌, ◌-◌, length, drop, ap, sym, ◌∙◌, arith, append_assoc}
use Rattle.lola_value.specs.declared.value.TextId.{TextId}
use Rattle.lola_text.specs.Needed.{texts_in, text_of_outcome}
use Rattle.lola_buffer.specs.Kept.{before_newest}
use Rattle.lola_instances_one.specs.Holdings.{value_or_missing}
use Rattle.lola_instances_one.proofs.Needing.{texts_from}
use Rattle.lola_instances_one.proofs.texts.add_ring.Goals as goal

pub loop-i-preserved : goal.loop-i-preserved
loop-i-preserved c =
    let vs = c.args.ring.now.values in
    let i = c.loop-i.i in
    let k = c.len-count.result - 1 - i in
    let n = c.len-count.ensures.length in
    let l = c.loop-i-test.true in
    let places : i + k + 1 ≡ length vs = omega arith in
    let here : c.or_missing.result ≡ value_or_missing (before_newest k vs) = c.or_missing.ensures ∙ ap value_or_missing c.back.ensures.value in
    let told : c.add_outcome.new.into ≡ c.loop-i.into ++ text_of_outcome (value_or_missing (before_newest k vs)) = c.in_ok-add_outcome.ensures ∙ ap (λ o. c.loop-i.into ++ text_of_outcome o) (c.widen.ensures ∙ here) in
    ap (λ (ids : List TextId). ids ++ texts_in (drop (i + 1) vs)) told
    ∙ (append_assoc c.loop-i.into (text_of_outcome (value_or_missing (before_newest k vs))) (texts_in (drop (i + 1) vs))
    ∙ (ap (λ (ids : List TextId). c.loop-i.into ++ ids) (sym (texts_from vs i k places)) ∙ c.loop-i.invariant))
