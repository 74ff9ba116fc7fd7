-- How many instances a step may have to note.
use Rattle.std.specs.Prelude.{ℕ, ◌+◌, List, [], ◌∷◌, ◌||◌, if◌then◌else◌, map, length}
use Rattle.lola_model.specs.Model.{is_input}
use Rattle.lola_model.specs.Store.{Seen, SeenStream}
use Rattle.lola_model.specs.declared.spec.Stream.{Stream}
use Rattle.lola_step_contents.specs.Stages.{Stage, is_evaluated}

-- of a stream: its instances, and one that may be born yet in this step
abbrev pub room_of : SeenStream → ℕ
room_of s = length s.instances + (if s.spawned then 0 else 1)

-- of all streams
abbrev pub rooms : Seen → List ℕ
rooms s = map room_of s.streams

abbrev pub total : List ℕ → ℕ
total [] = 0
total (k ∷ ks) = k + total ks

-- of the streams from number n on whose instances are still to be evaluated
abbrev pub to_come : List ℕ → Stage → ℕ → List Stream → List ℕ → ℕ
to_come layers g n (s ∷ ss) (k ∷ ks) = (if is_input s || is_evaluated layers g n s then 0 else k) + to_come layers g (n + 1) ss ks
to_come layers g n _ _ = 0
