-- A specification whose kinds are filled in, and of which nothing is refused, is typed and named.
use Rattle.std.specs.Prelude.{◌≡◌, []}
use Rattle.lola_model.specs.Named.{IsNamed}
use Rattle.lola_model.specs.Typed.{IsTyped}
use Rattle.lola_model.specs.declared.spec.Spec.{Spec}
use Rattle.lola_types.specs.Refused.{kind_refusals}
use Rattle.lola_types.specs.Filled.{IsFilled}
use Rattle.lola_model.specs.Constants.{NotesConstants}

-- each part has its kind by its row of the table of kinds, and each literal is in the range of its kind
abbrev pub FilledIsTyped : Type 0
FilledIsTyped = (spec full : Spec) → IsNamed spec → NotesConstants spec → kind_refusals spec ≡ [] → IsFilled spec full → IsTyped full

-- names, numbers and windows stay as they are
abbrev pub FilledIsNamed : Type 0
FilledIsNamed = (spec full : Spec) → IsNamed spec → IsFilled spec full → IsNamed full
