use Rattle.std.proofs.Common.{◌≡◌, ◌+◌, ◌∙◌, Some, ap, arith, drop, length, refl, slice_get, sym}
use Rattle.std.proofs.lemmas.Option.{slice_get_read}
use Rattle.lola_replay_step.specs.Rests.{known_lines, life_lines}
use Rattle.lola_replay_table.specs.declared.table.KnownStream.{KnownStream}
use Rattle.lola_replay.specs.Comparing.{after_lines, comparison}
use Rattle.lola_replay.proofs.ShownStreams.{lines-more}
use Rattle.lola_replay.proofs.lines.compare_streams.Goals as goal

pub loop-number-preserved : goal.loop-number-preserved
loop-number-preserved c =
    let show = c.args.show in
    let time = c.args.time in
    let n = c.loop-number.number in
    let ss = c.args.streams.now in
    let ks = c.args.known.now in
    let s = c.index-streams-number.result in
    let k = c.index-known-number.result in
    let test = c.loop-number-test.true in
    let long = c.requires.long in
    let at : slice_get ss n ≡ Some s = slice_get_read ss (length ss) n s refl test c.index-streams-number.is in
    let there : slice_get ks n ≡ Some k = slice_get_read ks (length ks) n k refl (omega (arith, test, long)) c.index-known-number.is in
    let before = comparison c.loop-number.after in
    let room = c.in_ok-after.ensures.room in
    let was = c.loop-number.invariant.room in
    record {
      lines = ap (λ d. after_lines d (known_lines show time (drop (n + 1) ss) (drop (n + 1) ks))) (c.in_ok-after.ensures.lines ∙ ap (λ ls. after_lines before (life_lines show time s ls)) (c.as_slice-lives.ensures ∙ ap (λ (j : KnownStream). j.lives) (sym c.index-known-number.is)))
          ∙ lines-more show time before n ss ks s k at there
          ∙ c.loop-number.invariant.lines;
      room = omega (arith, room, was);
    }
