use Rattle.std.proofs.Common.{◌≡◌, take, replicate}
use Rattle.lola_step.specs.Scratches.{no_span}
use Rattle.lola_step.proofs.scratch.forget_spans.Given as goal

abbrev pub invariant-loop-span : goal.invariant-loop-span
invariant-loop-span l = take l.span-index l.spans ≡ replicate l.span-index no_span
