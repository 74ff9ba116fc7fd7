-- Which deadline of the instances of a store comes next.
use Rattle.std.specs.Prelude.{ℕ, List, [], ◌∷◌, Option, None}
use Rattle.lola_model.specs.NextStep.{earlier}
use Rattle.lola_instances_stream.specs.Births.{births_of}
use Rattle.lola_instances_stream.specs.Crowds.{Crowd}
use Rattle.lola_instances_stream.specs.Dues.{due_since}

-- the first deadline, from a moment on, of the instances of these streams
abbrev pub due_of_crowds : ℕ → List Crowd → Option ℕ
due_of_crowds from [] = None
due_of_crowds from (c ∷ cs) = earlier (due_since c.layout.locals from (births_of c.slots)) (due_of_crowds from cs)
