use Rattle.std.proofs.Common.{◌≡◌, arith, below_more, subst}
use Rattle.std.specs.Bool.{MatchBool}
use Rattle.lola_report.specs.Ends.{unreadable_text}
use Rattle.lola_replay.proofs.written.is_unreadable.Goals as goal

pub loop-source-preserved : goal.loop-source-preserved
loop-source-preserved c =
    let s = c.loop-source.source in
    below_more (λ s. c.args.line.now ≡ unreadable_text s → ⊥) s c.loop-source.invariant
    (subst (λ b. MatchBool b (c.args.line.now ≡ unreadable_text s) (c.args.line.now ≡ unreadable_text s → ⊥)) c.if-branch.false c.in_ok-is_end.ensures)

pub returns : goal.returns
returns c = λ is.
    let known = is.known in
    let all = c.loop-source-test.false in
    c.loop-source.invariant is.source (omega (arith, known, all)) is.written
