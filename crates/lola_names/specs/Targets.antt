-- What names stand for, by numbers: streams in the order of the text, inputs counted by themselves too, constants by their places
-- among the declarations, parameters by their places.
use Rattle.std.specs.Prelude.{ℕ, ◌+◌, List, [], ◌∷◌, ◌++◌, Option, length}
use Rattle.lola_parser_grammar.specs.declared.literals.Typed.{Typed}
use Rattle.lola_parser_grammar.specs.declared.declarations.Declaration.{Declaration}
use Rattle.lola_parser_grammar.specs.declared.declarations.Declaration.TheVariants as d
use Rattle.lola_names_refused.specs.Table.{meant}
use Rattle.lola_names.specs.declared.targets.Target.{Target}
use Rattle.lola_names.specs.declared.targets.Target.TheVariants as target

-- names, each with what it stands for
abbrev pub Targets : Type 0
Targets = List (List ℕ × Target)

-- inputs, of which the first is this stream and this input
abbrev pub input_targets : ℕ → ℕ → List Typed → Targets
input_targets stream input [] = []
input_targets stream input (t ∷ ts) = (t.name.text, target.Input stream input) ∷ input_targets (stream + 1) (input + 1) ts

-- how many streams, inputs and declarations stand before
pub record Count : Type 0 where
  pub streams : ℕ
  pub inputs : ℕ
  pub declarations : ℕ

-- behind a declaration
abbrev pub counted_with : Count → Declaration → Count
counted_with c (d.Inputs x) = record { streams = c.streams + length x.inputs; inputs = c.inputs + length x.inputs; declarations = c.declarations + 1 }
counted_with c (d.Constant x) = record { streams = c.streams; inputs = c.inputs; declarations = c.declarations + 1 }
counted_with c (d.Output x) = record { streams = c.streams + 1; inputs = c.inputs; declarations = c.declarations + 1 }
counted_with c (d.Trigger x) = record { streams = c.streams + 1; inputs = c.inputs; declarations = c.declarations + 1 }

-- what a declaration declares, behind so many; a trigger has no name
abbrev pub targets_with : Count → Declaration → Targets
targets_with c (d.Inputs x) = input_targets c.streams c.inputs x.inputs
targets_with c (d.Constant x) = (x.name.text, target.Constant c.declarations) ∷ []
targets_with c (d.Output x) = (x.name.text, target.Output c.streams) ∷ []
targets_with c (d.Trigger x) = []

abbrev pub targets_from : Count → List Declaration → Targets
targets_from c [] = []
targets_from c (x ∷ xs) = targets_with c x ++ targets_from (counted_with c x) xs

-- all names of a specification
abbrev pub targets_of : List Declaration → Targets
targets_of xs = targets_from (record { streams = 0; inputs = 0; declarations = 0 }) xs

-- the parameters of a stream, from number n on
abbrev pub parameter_targets : ℕ → List Typed → Targets
parameter_targets n [] = []
parameter_targets n (t ∷ ts) = (t.name.text, target.Parameter n) ∷ parameter_targets (n + 1) ts

-- what a name stands for where these parameters are in scope: a parameter hides other names
abbrev pub target_of : Targets → Targets → List ℕ → Option Target
target_of parameters targets text = meant parameters targets text
