use Rattle.std.proofs.Common.{◌≡◌, ◌++◌, [], ◌∷◌, List, None, ap, sym, ◌∙◌, subst, length, drop, slice_get, unwrap_or, arith}
use Rattle.std.proofs.Math.Seq.{drop-length}
use Rattle.lola_value.specs.declared.value.Kind.{Kind}
use Rattle.lola_value.specs.declared.value.Kind.TheVariants as kind
use Rattle.lola_model.specs.declared.spec.Stream.{Stream}
use Rattle.lola_types.specs.Around.{setting}
use Rattle.lola_types.specs.Filled.{FilledStream, FilledStreams}
use Rattle.lola_types.proofs.FullLemmas.{stream_filled, nothing_more}
use Rattle.lola_types.proofs.full.fill_streams.Goals as goal

pub loop-number-preserved : goal.loop-number-preserved
loop-number-preserved c =
    let t : FilledStream (setting c.args.around.now) (unwrap_or (unwrap_or (slice_get c.args.kinds.now c.loop-number.number) None) kind.Int64) c.index-streams-number.result c.in_ok-item.item =
    subst (λ (k : Kind). FilledStream (setting c.args.around.now) k c.index-streams-number.result c.in_ok-item.item) c.stream_kind.ensures c.in_ok-item.ensures in
    let p : c.push.new.self ≡ c.loop-number.full ++ c.in_ok-item.item ∷ [] = c.in_ok-push.ensures.ok in
    λ rest r. subst (λ (z : List Stream). FilledStreams (setting c.args.around.now) c.args.kinds.now c.args.streams.now (z ++ rest)) (sym p)
    (stream_filled (setting c.args.around.now) c.args.kinds.now c.args.streams.now c.loop-number.full c.loop-number.number c.index-streams-number.result c.in_ok-item.item c.loop-number-test.true c.index-streams-number.is t c.loop-number.invariant rest r)

pub returns : goal.returns
returns c =
    let h : c.loop-number.number ≡ length c.args.streams.now = omega (arith, c.loop-number-test.false, c.loop-number.auto) in
    let e : drop c.loop-number.number c.args.streams.now ≡ [] = ap (λ z. drop z c.args.streams.now) h ∙ drop-length c.args.streams.now in
    subst (λ (z : List Stream). FilledStreams (setting c.args.around.now) c.args.kinds.now c.args.streams.now z) (nothing_more c.loop-number.full)
    (c.loop-number.invariant [] (subst (λ (z : List Stream). FilledStreams (setting c.args.around.now) (drop c.loop-number.number c.args.kinds.now) z []) (sym e) tt))
