use Rattle.std.proofs.Common.{◌≡◌, ◌++◌, List, Option, drop, true}
use Rattle.lola_value.specs.declared.front.Code.{Code}
use Rattle.lola_model.specs.Named.{all_windows, is_span}
use Rattle.lola_model.specs.Pacings.{AreWindowRefusals}
use Rattle.lola_pacing.proofs.window_refusals.of_windows.Given as goal

abbrev pub invariant-loop-window : goal.invariant-loop-window
invariant-loop-window l = record {
  spans : all_windows is_span (drop l.window-index l.windows) ≡ true;
  grows : (rest : List (Option Code)) → AreWindowRefusals l.spawns l.evals l.closes (drop l.window-index l.windows) rest → AreWindowRefusals l.spawns l.evals l.closes l.windows (l.window_refusals.items ++ rest);
}
