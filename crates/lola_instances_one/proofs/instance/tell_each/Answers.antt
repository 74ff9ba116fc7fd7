use Rattle.std.proofs.Common.{◌≡◌, ◌<◌, length, Some, slice_get, slice_set, refl, arith, add-one, subst, ℕ, sym}
use Rattle.std.proofs.lemmas.Option.{slice_get_read}
use Rattle.lola_instances_one.proofs.Passing.{ToldUpTo, told_more, told_ready, told_length, told_all}
use Rattle.lola_instances_one.proofs.instance.tell_each.Goals as goal

pub give-requires : goal.give-requires
give-requires c =
    let ps = c.args.panes.now.items in
    let qs = c.loop-i.panes.items in
    let l : c.loop-i.i < length qs = omega (arith, told_length c.args.offset c.args.value c.loop-i.i ps qs c.loop-i.invariant, c.args.panes.now.ok.0, c.len-i-end.ensures) in
    let e : slice_get qs c.loop-i.i ≡ Some c.index_mut-p.result.now = slice_get_read qs (length qs) c.loop-i.i c.index_mut-p.result.now refl l c.index_mut-p.ensures.value in
    told_ready c.args.offset c.args.value c.loop-i.i ps qs c.index_mut-p.result.now c.loop-i.invariant c.requires e

pub loop-i-preserved : goal.loop-i-preserved
loop-i-preserved c =
    let ps = c.args.panes.now.items in
    let qs = c.loop-i.panes.items in
    let l : c.loop-i.i < length qs = omega (arith, told_length c.args.offset c.args.value c.loop-i.i ps qs c.loop-i.invariant, c.args.panes.now.ok.0, c.len-i-end.ensures) in
    let e : slice_get qs c.loop-i.i ≡ Some c.index_mut-p.result.now = slice_get_read qs (length qs) c.loop-i.i c.index_mut-p.result.now refl l c.index_mut-p.ensures.value in
    subst (λ (n : ℕ). ToldUpTo c.args.offset c.args.value n ps (slice_set qs c.loop-i.i c.give.new.panes)) (sym (add-one c.loop-i.i))
    (told_more c.args.offset c.args.value c.loop-i.i ps qs c.index_mut-p.result.now c.give.new.panes c.loop-i.invariant e c.give.ensures)

pub returns : goal.returns
returns c =
    let ps = c.args.panes.now.items in
    let n : c.loop-i.i ≡ length ps = omega (arith, c.args.panes.now.ok.0, c.len-i-end.ensures) in
    told_all c.args.offset c.args.value ps c.loop-i.panes.items (subst (λ (k : ℕ). ToldUpTo c.args.offset c.args.value k ps c.loop-i.panes.items) n c.loop-i.invariant)
