-- What the names of a specification mean, in short: a name means what its first declaration says.
use Rattle.std.specs.Prelude.{ℕ, ◌≡◌, List, map}
use Rattle.std.specs.List.{flat_map}
use Rattle.lola_parser_grammar.specs.declared.declarations.Declaration.{Declaration}
use Rattle.lola_names_refused.specs.Table.{meaning_in}
use Rattle.lola_names_refused.specs.Known.{Known, Declared, declared, names_of}

-- declared names, in order, repeated ones too
abbrev pub plain : List Declared → Known
plain ns = map (λ (n : Declared). (n.0.text, n.1)) ns

pub record MeansFirstDeclaration : Type 0 where
  pub meaning : (ds : List Declaration) (text : List ℕ) → meaning_in (names_of ds) text ≡ meaning_in (plain (flat_map declared ds)) text
