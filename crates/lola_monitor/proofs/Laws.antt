-- Laws as lemmas take them: a proof hands over what the law's call ensures.
use Rattle.std.specs.Prelude.{◌≡◌, ℕ, List, ◌++◌}
use Rattle.lola_port.specs.States.{SinkState, grown}
use Rattle.lola_replay.specs.Findings.{HasOneFinding, Told}

-- a text that is put in two parts is put as one
abbrev pub PutsAddUp : Type 0
PutsAddUp = (sink : SinkState) (first second : List ℕ) → grown (grown sink first) second ≡ grown sink (first ++ second)

-- a trace and verdicts have one finding at most
abbrev pub OneFinding : Type 0
OneFinding = (told : Told) → HasOneFinding told
