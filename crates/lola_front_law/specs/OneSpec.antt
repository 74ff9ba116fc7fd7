-- What declarations and texts are resolved to differs in addresses alone.
use Rattle.std.specs.Prelude.{ℕ, List}
use Rattle.lola_parser_grammar.specs.declared.declarations.Declaration.{Declaration}
use Rattle.lola_model.specs.declared.spec.Spec.{Spec}
use Rattle.lola_front_law.specs.Alike.{AreSpecsAlike}
use Rattle.lola_names.specs.Specification.{Resolves}
use Rattle.lola_types.specs.Filled.{IsFilled}
use Rattle.lola_front.specs.Front.{IsFull}

-- all specifications that a list of declarations is resolved to are alike
abbrev pub ResolvedAreAlike : Type 0
ResolvedAreAlike = (ds : List Declaration) (spec other : Spec) → Resolves ds spec → Resolves ds other → AreSpecsAlike spec other

-- kinds are filled in of specifications that are alike, and these stay alike
abbrev pub FilledAreAlike : Type 0
FilledAreAlike = (spec other full whole : Spec) → AreSpecsAlike spec other → IsFilled spec full → IsFilled other whole → AreSpecsAlike full whole

-- all specifications of a text, kinds filled in, are alike
abbrev pub FullAreAlike : Type 0
FullAreAlike = (bytes : List ℕ) (full other : Spec) → IsFull bytes full → IsFull bytes other → AreSpecsAlike full other
