-- The law.
use Rattle.lola_pacing.proofs.WindowLemmas.{paces_windows}
use Rattle.lola_pacing.proofs.law.each_window_is_paced.Goals as goal

pub returns : goal.returns
returns c = paces_windows
