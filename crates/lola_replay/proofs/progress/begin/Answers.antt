use Rattle.std.proofs.Common.{◌∙◌, List, [], ap, arith, length, refl, subst, sym}
use Rattle.lola_replay_step.specs.Rests.{Rests}
use Rattle.lola_replay_table.specs.declared.table.KnownStream.{KnownStream}
use Rattle.lola_replay.specs.Comparing.{Comparison, IsCompared}
use Rattle.lola_replay.proofs.BeginningLemmas.{born-none, fresh-long, fresh-rest}
use Rattle.lola_replay.proofs.ComparingLemmas.{compared-none}
use Rattle.lola_replay.proofs.progress.begin.Goals as goal

pub returns-clause-fit : goal.returns-clause-fit
returns-clause-fit c =
    let few = c.requires.few in
    let lines = ap (λ (d : Comparison). d.lines) c.uncompared.ensures in
    let rest = ap (λ (d : Comparison). length d.rest) c.uncompared.ensures in (
      record {
        long = ap (λ (ks : List KnownStream). length ks) c.in_ok-fresh.ensures ∙ fresh-long 0 0 c.args.course.now.plan.now.spec.streams;
        room = omega (arith, few, lines, rest);
        counted = omega arith;
      },
      refl,
      refl,
    )

pub returns-clause-at : goal.returns-clause-at
returns-clause-at c = record {
  rests = subst (λ (ks : List KnownStream). Rests c.args.course.now.plan.now [] ks) (sym c.in_ok-fresh.ensures) (fresh-rest c.args.course.now.plan.now);
  first_is = tt;
  born_in = born-none;
  from_is = refl;
  steps_are = refl;
  compared_by = subst (λ (d : Comparison). IsCompared c.args.verdicts.now [] d d.other) (sym c.uncompared.ensures) (compared-none c.args.verdicts.now);
}
