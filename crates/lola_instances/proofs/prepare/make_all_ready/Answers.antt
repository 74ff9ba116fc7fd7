use Rattle.std.proofs.Common.{◌≡◌, ◌∙◌, ◌+◌, ◌<◌, List, ◌∷◌, length, drop, ap, sym, subst, arith, get_or, drop-cons, add-one, IsTrue}
use Rattle.std.proofs.Math.Seq.{drop-length}
use Rattle.lola_model.specs.Store.{StreamLayout, never_spawns}
use Rattle.lola_instances.proofs.Preparing.{all_kept, all_kept_trans, layout_still, ready_none, ready_more, ready_all}
use Rattle.lola_instances.proofs.prepare.make_all_ready.Goals as goal

pub loop-number-init : goal.loop-number-init
loop-number-init c = record { kept = all_kept c.args.streams.now.items; done = ready_none c.args.streams.now.items c.args.numbers.now }

pub returns-in-Err-clause-kept : goal.returns-in-Err-clause-kept
returns-in-Err-clause-kept c = all_kept_trans c.args.streams.now.items c.loop-number.streams.items c.make_ready.new.streams.items c.loop-number.invariant.kept c.make_ready.ensures.kept

pub returns-in-Err-clause-plain : goal.returns-in-Err-clause-plain
returns-in-Err-clause-plain c = λ h.
    c.in-Err.ensures.plain (subst (λ (ls : List StreamLayout). IsTrue (never_spawns ls)) (sym (layout_still c.args.streams.now.items c.loop-number.streams.items c.loop-number.invariant.kept)) h)

pub loop-number-preserved : goal.loop-number-preserved
loop-number-preserved c =
    let ns = c.args.numbers.now in
    let i = c.loop-number.number-index in
    let l : i < length ns = omega (arith, c.loop-number-test.true) in
    record {
      kept = all_kept_trans c.args.streams.now.items c.loop-number.streams.items c.make_ready.new.streams.items c.loop-number.invariant.kept c.make_ready.ensures.kept;
      done = ready_more c.loop-number.streams.items c.make_ready.new.streams.items ns (drop i ns) (drop (i + 1) ns) (get_or ns i 0) c.loop-number.invariant.done
          (drop-cons ns i 0 l ∙ ap (λ j. get_or ns i 0 ∷ drop j ns) (sym (add-one i))) c.make_ready.ensures.kept c.in-Ok.ensures.ok;
    }

pub returns-clause-ok : goal.returns-clause-ok
returns-clause-ok c =
    let ns = c.args.numbers.now in
    let e : c.loop-number.number-index ≡ length ns = omega (arith, c.loop-number-test.false) in
    ready_all c.loop-number.streams.items ns (drop c.loop-number.number-index ns) c.loop-number.invariant.done (ap (λ j. drop j ns) e ∙ drop-length ns)
