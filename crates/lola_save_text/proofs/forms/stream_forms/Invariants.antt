use Rattle.std.proofs.Common.{◌≡◌, ◌++◌, [], drop}
use Rattle.lola_model.specs.Store.{layouts_from}
use Rattle.lola_save_text.specs.Forms.{stream_forms}
use Rattle.lola_save_text.proofs.forms.stream_forms.Given as goal

abbrev pub invariant-loop-number : goal.invariant-loop-number
invariant-loop-number l = l.forms ++ stream_forms l.plan l.number (layouts_from (drop l.number l.plan.spec.streams) l.kept []) ≡ stream_forms l.plan 0 (layouts_from l.plan.spec.streams l.plan.kept [])
