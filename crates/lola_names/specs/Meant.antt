-- A specification whose names are resolved, and of whose names nothing is refused, is named.
use Rattle.std.specs.Prelude.{◌≡◌, ℕ, List, [], ◌∷◌, Option, Some, None, IsSome}
use Rattle.lola_parser_grammar.specs.Syntax.{Lexeme, Spells}
use Rattle.lola_parser_grammar.specs.Grammar.{specification}
use Rattle.lola_parser_grammar.specs.declared.clauses.Spawn.{Spawn}
use Rattle.lola_parser_grammar.specs.declared.clauses.Close.{Close}
use Rattle.lola_parser_grammar.specs.declared.declarations.Declaration.{Declaration}
use Rattle.lola_parser_grammar.specs.declared.declarations.Declaration.TheVariants as d
use Rattle.lola_model.specs.Named.{IsNamed}
use Rattle.lola_model.specs.declared.spec.Spec.{Spec}
use Rattle.lola_names_refused.specs.Refused.{refusals_of}
use Rattle.lola_names.specs.Specification.{Resolves}
use Rattle.lola_model.specs.Constants.{NotesConstants}

-- a close clause stands only with a spawn clause
abbrev pub ClosesSpawned : Option Spawn → Option Close → Type 0
ClosesSpawned spawn None = Unit {0}
ClosesSpawned spawn (Some c) = IsSome spawn

-- each output with a close clause has a spawn clause
abbrev pub ClosesAreSpawned : List Declaration → Type 0
ClosesAreSpawned [] = Unit {0}
ClosesAreSpawned (d.Output x ∷ ds) = ClosesSpawned x.spawn x.close × ClosesAreSpawned ds
ClosesAreSpawned (_ ∷ ds) = ClosesAreSpawned ds

-- names have their numbers, within the limits of the language
abbrev pub ResolvedIsNamed : Type 0
ResolvedIsNamed = (ds : List Declaration) (spec : Spec) → ClosesAreSpawned ds → refusals_of ds ≡ [] → Resolves ds spec → IsNamed spec

-- literals have a kind noted only where they stand for constants
abbrev pub ResolvedNotesConstants : Type 0
ResolvedNotesConstants = (ds : List Declaration) (spec : Spec) → ClosesAreSpawned ds → refusals_of ds ≡ [] → Resolves ds spec → NotesConstants spec

-- what the grammar of the language gives, of at most so many levels of nesting
abbrev pub SpelledClosesAreSpawned : Type 0
SpelledClosesAreSpawned = (n : ℕ) (ts : List Lexeme) (ds : List Declaration) → Spells (specification n) ts ds → ClosesAreSpawned ds
