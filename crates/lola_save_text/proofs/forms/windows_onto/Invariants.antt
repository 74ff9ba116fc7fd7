use Rattle.std.proofs.Common.{◌≡◌, ◌++◌, drop}
use Rattle.lola_save_text.specs.Forms.{windows_onto}
use Rattle.lola_save_text.proofs.forms.windows_onto.Given as goal

abbrev pub invariant-loop-number : goal.invariant-loop-number
invariant-loop-number l = l.onto ++ windows_onto l.stream l.number (drop l.number l.windows) l.left ≡ windows_onto l.stream 0 l.windows l.fn.sizes
