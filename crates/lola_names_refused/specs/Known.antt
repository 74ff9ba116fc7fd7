-- The names that are declared, and what each means.
use Rattle.std.specs.Prelude.{ℕ, List, [], ◌∷◌, length, map}
use Rattle.lola_parser_grammar.specs.declared.literals.Name.{Name}
use Rattle.lola_parser_grammar.specs.declared.literals.Typed.{Typed}
use Rattle.lola_parser_grammar.specs.declared.declarations.Declaration.{Declaration}
use Rattle.lola_parser_grammar.specs.declared.declarations.Declaration.TheVariants as d
use Rattle.lola_names_refused.specs.declared.names.Meaning.{Meaning}
use Rattle.lola_names_refused.specs.declared.names.Meaning.TheVariants as meaning
use Rattle.lola_names_refused.specs.Table.{with_name}

-- names with their meanings
abbrev pub Known : Type 0
Known = List (List ℕ × Meaning)

-- a name is declared as it stands in the text
abbrev pub Declared : Type 0
Declared = Name × Meaning

-- behind known names these are declared
abbrev pub with_names : Known → List Declared → Known
with_names known [] = known
with_names known (n ∷ ns) = with_names (with_name known n) ns

-- the names of declarations; a trigger declares none
abbrev pub declared : Declaration → List Declared
declared (d.Inputs x) = map (λ (t : Typed). (t.name, meaning.Input)) x.inputs
declared (d.Constant x) = (x.name, meaning.Constant) ∷ []
declared (d.Output x) = (x.name, meaning.Output (length x.parameters)) ∷ []
declared (d.Trigger x) = []

-- the parameters of a stream
abbrev pub parameters_of : List Typed → List Declared
parameters_of ps = map (λ (t : Typed). (t.name, meaning.Parameter)) ps

abbrev pub with_declarations : Known → List Declaration → Known
with_declarations known [] = known
with_declarations known (x ∷ xs) = with_declarations (with_names known (declared x)) xs

-- the names that a specification declares
abbrev pub names_of : List Declaration → Known
names_of xs = with_declarations [] xs
