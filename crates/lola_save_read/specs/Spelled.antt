-- The words that spell parameters.
use Rattle.std.specs.Prelude.{ℕ, ◌≡◌, List, [], ◌∷◌, ◌++◌, Bool, true, Vec, if◌then◌else◌, map}
use Rattle.std.specs.List.{list_all, list_any}
use Rattle.std.specs.declared.alloc.Global.{Global}
use Rattle.lola_value.specs.Arithmetic.{bytes_equal}
use Rattle.lola_value.specs.declared.text.Field.{Field}
use Rattle.lola_save_text.specs.Lines.{values_text}

-- the words of a table's keys
abbrev pub words_in : List (Vec ℕ Global) → List (List ℕ)
words_in ks = map (λ (k : Vec ℕ Global). k.items) ks

-- whether words are in a table
abbrev pub has_words : List (List ℕ) → List ℕ → Bool
has_words table words = list_any (bytes_equal words) table

-- the table with these words, which go behind the others unless they are there
abbrev pub with_words : List (List ℕ) → List ℕ → List (List ℕ)
with_words table words = if has_words table words then table else table ++ words ∷ []

-- whether the words that spell parameters are in a table
abbrev pub is_spelled : List (List ℕ) → List Field → Bool
is_spelled table params = has_words table (values_text params)

-- the words of all these parameters are in a table
pub record AreSpelled (table : List (List ℕ)) (seen : List (List Field)) : Type 0 where
  pub each : list_all (is_spelled table) seen ≡ true
