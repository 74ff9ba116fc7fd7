use Rattle.std.proofs.Common.{Some}
use Rattle.lola_intake.specs.declared.event.Event.TheVariants.{Took}
use Rattle.lola_intake.proofs.intake.Intake.try_take.Given as goal

abbrev pub ghosts-leave : goal.ghosts-leave
ghosts-leave g a = record { event = Some (Took a._of.now a._and.now) }
