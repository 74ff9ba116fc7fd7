use Rattle.std.proofs.Common.{arith, below_more, subst}
use Rattle.std.specs.Bool.{MatchBool}
use Rattle.lola_replay.specs.EndLines.{IsMalformedAt}
use Rattle.lola_replay.proofs.written.is_malformed.Goals as goal

pub returns-then-branch : goal.returns-then-branch
returns-then-branch c =
    let s = c.loop-source.source in
    let is = subst (λ b. MatchBool b (IsMalformedAt s c.args.line.now) (IsMalformedAt s c.args.line.now → ⊥)) c.if-branch.true c.in_ok-is_malformed_source.ensures in
    record { source = s; row = is.row; kind = is.kind; known = c.loop-source-test.true; in_range = is.in_range; written = is.written }

pub loop-source-preserved : goal.loop-source-preserved
loop-source-preserved c =
    let s = c.loop-source.source in
    below_more (λ s. IsMalformedAt s c.args.line.now → ⊥) s c.loop-source.invariant
    (subst (λ b. MatchBool b (IsMalformedAt s c.args.line.now) (IsMalformedAt s c.args.line.now → ⊥)) c.if-branch.false c.in_ok-is_malformed_source.ensures)

pub returns : goal.returns
returns c = λ is.
    let known = is.known in
    let all = c.loop-source-test.false in
    c.loop-source.invariant is.source (omega (arith, known, all)) (record { row = is.row; kind = is.kind; in_range = is.in_range; written = is.written })
