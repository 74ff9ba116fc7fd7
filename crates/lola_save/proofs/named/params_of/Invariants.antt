-- The parameters from a place on.
use Rattle.std.proofs.Common.{◌≡◌, ◌≤◌, length, true}
use Rattle.lola_value.specs.Kinds.{is_well_formed}
use Rattle.lola_save.specs.Loaded.{HasMore}
use Rattle.lola_save.proofs.Naming.{AreNamedFrom}
use Rattle.lola_save.proofs.named.params_of.Given as goal

abbrev pub invariant-loop-left : goal.invariant-loop-left
invariant-loop-left l = record {
  left_le : l.left ≤ length l.fields;
  named : AreNamedFrom l.texts.held l.fields l.left l.params;
  formed : is_well_formed l.params ≡ true;
  more : HasMore l.fn.texts l.texts;
}

abbrev pub decreases-loop-left : goal.decreases-loop-left
decreases-loop-left l = l.left
