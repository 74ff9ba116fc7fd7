use Rattle.std.proofs.Common.{◌∙◌, ◌+◌, ℕ, List, ap, arith, drop, length, subst, sym, take}
use Rattle.std.proofs.lemmas.List.{length-drop}
use Rattle.lola_replay.specs.Comparing.{line_long}
use Rattle.lola_replay.specs.LinesOf.{IsFirstLine, lines_of}
use Rattle.lola_replay.specs.Running.{IsLineTaken, IsTaking}
use Rattle.lola_replay.specs.Traces.{IsWrongAt}
use Rattle.lola_replay.proofs.ComparingLemmas.{empty-is, line-some, not-empty}
use Rattle.lola_replay.proofs.RunningLemmas.{taken-line, whole-trace, wrong-line}
use Rattle.lola_replay.proofs.entries.take_lines.Goals as goal

pub returns-then-not-branch-clause-taken : goal.returns-then-not-branch-clause-taken
returns-then-not-branch-clause-taken c = λ start text on.
    let plan = c.args.course.now.plan.now in
    let show = c.args.course.now.show in
    let trace = c.args.trace.now in
    let rest = c.loop-rest.rest.now in
    let taking = c.loop-rest.invariant.taking start text on in
    let some = not-empty rest c.loop-rest-test.ensures in
    let taken = subst (λ n. IsLineTaken plan start show text taking.journal (take n rest) c.take_line.new.run c.in_ok-take_line.field-0) c.line_length-long.ensures.value
    (c.in_ok-take_line.ensures.taken start text taking.journal taking.on) in
    let wrong = subst (IsLineTaken plan start show text taking.journal (take (line_long rest) rest) c.take_line.new.run) c.if-not-branch.true taken in
    let number = ap (λ n. n + 1) (sym (c.in_ok-take_line.ensures.wrong c.if-not-branch.true ∙ taking.on.tracks.entries_are)) in
    subst (IsFirstLine (IsWrongAt plan start (lines_of trace))) number (wrong-line plan start show text trace rest c.loop-rest.run taking some wrong)

pub loop-rest-smaller : goal.loop-rest-smaller
loop-rest-smaller c =
    let rest = c.loop-rest.rest.now in
    let left = length-drop c.line_length-long.result rest in
    let whole = ap (λ (l : List ℕ). length l) c.behind-rest.ensures in
    let within = c.line_length-long.ensures.within in
    let long = line-some rest (not-empty rest c.loop-rest-test.ensures) c.line_length-long.result c.line_length-long.ensures.value in
    omega (arith, whole, left, within, long)

pub loop-rest-preserved : goal.loop-rest-preserved
loop-rest-preserved c =
    let plan = c.args.course.now.plan.now in
    let show = c.args.course.now.show in
    let trace = c.args.trace.now in
    let rest = c.loop-rest.rest.now in
    let fit = c.in_ok-take_line.ensures.fit c.if-not-branch.false in
    let left = length-drop c.line_length-long.result rest in
    let whole = ap (λ (l : List ℕ). length l) c.behind-rest.ensures in
    let few = c.loop-rest.invariant.few in
    let entries = fit.1 in
    let some = not-empty rest c.loop-rest-test.ensures in
    let within = c.line_length-long.ensures.within in
    let long = line-some rest some c.line_length-long.result c.line_length-long.ensures.value in
    record {
      fit = fit.0;
      kinds = c.in_ok-take_line.ensures.kinds ∙ c.loop-rest.invariant.kinds;
      few = omega (arith, few, entries, whole, left, within, long);
      taking = λ start text on.
          let taking = c.loop-rest.invariant.taking start text on in
          let taken = subst (λ n. IsLineTaken plan start show text taking.journal (take n rest) c.take_line.new.run c.in_ok-take_line.field-0) c.line_length-long.ensures.value
          (c.in_ok-take_line.ensures.taken start text taking.journal taking.on) in
          let going = subst (IsLineTaken plan start show text taking.journal (take (line_long rest) rest) c.take_line.new.run) c.if-not-branch.false taken in
          let behind = c.behind-rest.ensures ∙ ap (λ n. drop n rest) c.line_length-long.ensures.value in
          subst (λ (l : List ℕ). IsTaking plan start show text trace l c.take_line.new.run) (sym behind) (taken-line plan start show text trace rest c.loop-rest.run taking c.take_line.new.run some going);
    }

pub returns-clause-taken : goal.returns-clause-taken
returns-clause-taken c = λ start text on.
    let plan = c.args.course.now.plan.now in
    let rest = c.loop-rest.rest.now in
    let taking = c.loop-rest.invariant.taking start text on in
    let none = empty-is rest c.loop-rest-test.ensures in
    whole-trace plan start c.args.course.now.show text c.args.trace.now rest c.loop-rest.run taking none
