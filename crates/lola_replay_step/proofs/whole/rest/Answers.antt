use Rattle.std.proofs.Common.{◌≡◌, ◌∙◌, ◌+◌, ◌≤◌, Bool, List, Some, ap, arith, drop, length, refl, slice_get, sym}
use Rattle.std.proofs.lemmas.Option.{slice_get_read}
use Rattle.lola_replay_table.specs.Resting.{rested_stream}
use Rattle.lola_replay_table.specs.declared.table.KnownLife.{KnownLife}
use Rattle.lola_replay_table.specs.declared.table.KnownStream.{KnownStream}
use Rattle.lola_replay_step.specs.Rests.{rested_behind}
use Rattle.lola_replay_step.proofs.OpenQuestions.{changed-long}
use Rattle.lola_replay_step.proofs.RestLemmas.{rested-next, rested-past}
use Rattle.lola_replay_step.proofs.whole.rest.Goals as goal

pub loop-number-smaller : goal.loop-number-smaller
loop-number-smaller c =
    let n = c.loop-number.number in
    let ks = c.loop-number.known in
    let test = c.loop-number-test.true in
    let seen = ap (λ (ls : List KnownStream). length ls) c.as_slice.ensures in
    let long = ap (λ (ls : List KnownStream). length ls) c.in_ok-rest.ensures ∙ changed-long (rested_stream c.args.time c.loop-number.left.now) n ks in
    omega (arith, long, seen, test)

pub loop-number-preserved : goal.loop-number-preserved
loop-number-preserved c =
    let time = c.args.time in
    let n = c.loop-number.number in
    let ks = c.loop-number.known in
    let cs = c.loop-number.left.now in
    let k = c.index-as_slice-number.result in
    let seen = c.as_slice-in-loop-number.result.now in
    let test = c.loop-number-test.true in
    let first = ap (λ (ls : List KnownStream). length ls) c.as_slice.ensures in
    let second = ap (λ (ls : List KnownStream). length ls) c.as_slice-in-loop-number.ensures in
    let at : slice_get ks n ≡ Some k =
    ap (λ (ls : List KnownStream). slice_get ls n) (sym c.as_slice-in-loop-number.ensures) ∙ slice_get_read seen (length seen) n k refl (omega (arith, test, first, second)) c.index-as_slice-number.is in
    ap (λ (bs : List Bool). rested_behind (n + 1) time bs c.rest.new.self) (c.behind-left.ensures ∙ ap (λ (ls : List KnownLife). drop (length ls) cs) (c.as_slice-count.ensures ∙ ap (λ (j : KnownStream). j.lives) (sym c.index-as_slice-number.is)))
    ∙ ap (rested_behind (n + 1) time (drop (length k.lives) cs)) c.in_ok-rest.ensures
    ∙ rested-next time n cs ks k at
    ∙ c.loop-number.invariant

pub returns : goal.returns
returns c =
    let seen = ap (λ (ls : List KnownStream). length ls) c.as_slice.ensures in
    let test = c.loop-number-test.false in
    let past : length c.loop-number.known ≤ c.loop-number.number = omega (arith, seen, test) in
    sym (rested-past c.args.time c.loop-number.number c.loop-number.left.now c.loop-number.known past) ∙ c.loop-number.invariant
