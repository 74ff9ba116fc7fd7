use Rattle.std.proofs.Common.{◌≡◌, take}
use Rattle.lola_save_text.proofs.forms.kinds_of.Given as goal

abbrev pub invariant-loop-kind : goal.invariant-loop-kind
invariant-loop-kind l = l.same ≡ take l.kind-index l.kinds
