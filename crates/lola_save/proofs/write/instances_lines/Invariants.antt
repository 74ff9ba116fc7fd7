use Rattle.std.proofs.Common.{drop, flat_map}
use Rattle.lola_save_text.specs.Lines.{instance_lines, lines_text}
use Rattle.lola_save.proofs.SoFar.{IsSoFar}
use Rattle.lola_save.proofs.write.instances_lines.Given as goal

abbrev pub invariant-loop-instance : goal.invariant-loop-instance
invariant-loop-instance l = IsSoFar l.initial.to l.to (lines_text (flat_map (instance_lines l.form) l.instances)) (lines_text (flat_map (instance_lines l.form) (drop l.instance-index l.instances)))
