use Rattle.std.proofs.Common.{◌≡◌, ◌++◌, drop}
use Rattle.std.specs.List.{flat_map}
use Rattle.lola_model.specs.PacingRefused.{use_refusals}
use Rattle.lola_pacing.proofs.refused.put_uses.Given as goal

abbrev pub invariant-loop-part : goal.invariant-loop-part
invariant-loop-part l =
    l.initial.list.items ++ flat_map (use_refusals l.streams l.evals l.window_refusals l.own) l.parts
    ≡ l.list.items ++ flat_map (use_refusals l.streams l.evals l.window_refusals l.own) (drop l.part-index l.parts)
