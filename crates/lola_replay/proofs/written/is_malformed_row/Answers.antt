use Rattle.std.proofs.Common.{◌≡◌, arith, below_more, subst}
use Rattle.std.specs.Bool.{MatchBool}
use Rattle.lola_model.specs.declared.source.MalformedKind.{MalformedKind}
use Rattle.lola_report.specs.Ends.{malformed_text}
use Rattle.lola_replay.specs.EndLines.{kind_at}
use Rattle.lola_replay.proofs.WrittenLemmas.{all-kinds}
use Rattle.lola_replay.proofs.written.is_malformed_row.Goals as goal

pub returns-then-branch : goal.returns-then-branch
returns-then-branch c =
    let line = c.args.line.now in
    let k = c.kind_at-kind.result in (
      k,
      subst (λ b. MatchBool b (line ≡ malformed_text c.args.source c.args.row k) (line ≡ malformed_text c.args.source c.args.row k → ⊥)) c.if-branch.true c.in_ok-is_end.ensures,
    )

pub loop-number-preserved : goal.loop-number-preserved
loop-number-preserved c =
    let line = c.args.line.now in
    let k = c.kind_at-kind.result in
    below_more (λ j. line ≡ malformed_text c.args.source c.args.row (kind_at j) → ⊥) c.loop-number.number c.loop-number.invariant
    (subst (λ (k : MalformedKind). line ≡ malformed_text c.args.source c.args.row k → ⊥) c.kind_at-kind.ensures
    (subst (λ b. MatchBool b (line ≡ malformed_text c.args.source c.args.row k) (line ≡ malformed_text c.args.source c.args.row k → ⊥)) c.if-branch.false c.in_ok-is_end.ensures))

pub returns : goal.returns
returns c =
    let all = c.loop-number-test.false in
    all-kinds (λ k. c.args.line.now ≡ malformed_text c.args.source c.args.row k → ⊥) (λ j low. c.loop-number.invariant j (omega (arith, low, all)))
