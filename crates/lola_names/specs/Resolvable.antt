-- Each list of declarations is resolved to a specification.
use Rattle.std.specs.Prelude.{List}
use Rattle.lola_parser_grammar.specs.declared.declarations.Declaration.{Declaration}
use Rattle.lola_model.specs.declared.spec.Spec.{Spec}
use Rattle.lola_names.specs.Specification.{Resolves}

-- there is one for each
abbrev pub ResolvesEach : Type 0
ResolvesEach = (ds : List Declaration) → (spec : Spec) × Resolves ds spec
