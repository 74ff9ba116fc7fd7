use Rattle.std.proofs.Common.{◌≡◌, ◌∙◌, ◌<◌, length, Some, slice_get, slice_set, refl, ap, sym, arith, add-one}
use Rattle.std.proofs.lemmas.Option.{slice_get_read}
use Rattle.lola_instances.proofs.Resuming.{up_to, up_to_none, up_to_more, up_to_length, up_to_all}
use Rattle.lola_instances.proofs.restoring.resume_each.Goals as goal

pub loop-i-init : goal.loop-i-init
loop-i-init c = up_to_none c.args.step c.args.streams.now.items

pub loop-i-preserved : goal.loop-i-preserved
loop-i-preserved c =
    let cs = c.args.streams.now.items in
    let ds = c.loop-i.streams.items in
    let i = c.loop-i.i in
    let x = c.index_mut-lives.result.now in
    let n : length ds ≡ length cs = ap length c.loop-i.invariant ∙ up_to_length c.args.step i cs in
    let l : i < length ds = omega (arith, n, c.args.streams.now.ok.0, c.len-i-end.ensures) in
    let e : slice_get ds i ≡ Some x = slice_get_read ds (length ds) i x refl l c.index_mut-lives.ensures.value in
    let at : slice_get (up_to c.args.step i cs) i ≡ Some x = ap (λ zs. slice_get zs i) (sym c.loop-i.invariant) ∙ e in
    (λ j. slice_set (c.loop-i.invariant j) i (c.resume.ensures j))
    ∙ (up_to_more c.args.step i cs x at ∙ ap (λ k. up_to c.args.step k cs) (sym (add-one i)))

pub returns : goal.returns
returns c =
    let cs = c.args.streams.now.items in
    let n : c.loop-i.i ≡ length cs = omega (arith, c.args.streams.now.ok.0, c.len-i-end.ensures) in
    c.loop-i.invariant ∙ (ap (λ k. up_to c.args.step k cs) n ∙ up_to_all c.args.step cs)
