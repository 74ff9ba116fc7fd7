use Rattle.std.proofs.Common.{◌≡◌, true, false, arith}
use Rattle.lola_pacing.proofs.LeafLemmas.{ends_same, ends_more, end_at}
use Rattle.lola_pacing.proofs.leaves.put_end.Goals as goal

pub returns-then-not-flags-stream : goal.returns-then-not-flags-stream
returns-then-not-flags-stream c =
    ends_same c.args.streams.now c.args.flags.now c.args.stream c.args.leaves.now c.requires.before (λ e. (let a = c.if-not-flags-stream.true in let b = e.flagged in let q : true ≡ false = cc in absurd (cc)))

pub returns-then-not-is_end : goal.returns-then-not-is_end
returns-then-not-is_end c =
    let at = end_at c.args.streams.now c.args.stream c.index-streams-stream.result c.requires.stream c.index-streams-stream.is in
    ends_same c.args.streams.now c.args.flags.now c.args.stream c.args.leaves.now c.requires.before (λ e. (let a = c.if-not-is_end.true in let b = e.ends in let q : true ≡ false = cc (at, c.is_end.ensures) in absurd (cc)))

pub returns : goal.returns
returns c =
    let at = end_at c.args.streams.now c.args.stream c.index-streams-stream.result c.requires.stream c.index-streams-stream.is in
    rw c.in_ok-push.ensures.ok (ends_more c.args.streams.now c.args.flags.now c.args.stream c.args.leaves.now c.requires.before (record { below = omega arith; flagged = c.if-not-flags-stream.false; ends = cc (at, c.is_end.ensures, c.if-not-is_end.false) }))
