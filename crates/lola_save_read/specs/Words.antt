-- The words of a line: what stands up to a space, and values and partial results that are spelled so.
use Rattle.std.specs.Prelude.{ℕ, ◌≡◌, ◌≤◌, List, [], ◌∷◌, ◌++◌, Bool, true, not, length, nat_eq, decimal}
use Rattle.std.specs.List.{list_all}
use Rattle.lola_value.specs.declared.text.Field.{Field}
use Rattle.lola_value.specs.declared.value.Kind.{Kind}
use Rattle.lola_model.specs.Texts.{value_text}
use Rattle.lola_save_text.specs.Fitting.{is_value}
use Rattle.lola_save_text.specs.Lines.{word}

-- a byte that is no space
abbrev pub is_no_space : ℕ → Bool
is_no_space b = not (nat_eq b 32)

-- behind a word a space stands, or nothing
abbrev pub IsWordEnd : List ℕ → Type 0
IsWordEnd [] = Unit {0}
IsWordEnd (b ∷ bs) = b ≡ 32

-- what stands up to the first space, and what from it on
pub record IsWordCut (bytes front rest : List ℕ) : Type 0 where
  pub whole : bytes ≡ front ++ rest
  pub plain : list_all is_no_space front ≡ true
  pub ends : IsWordEnd rest

-- bytes that begin with a space: the word behind it, and what stands behind that
pub record IsNextWord (bytes front rest : List ℕ) : Type 0 where
  pub whole : bytes ≡ 32 ∷ (front ++ rest)
  pub plain : list_all is_no_space front ≡ true
  pub ends : IsWordEnd rest

-- the name of a line, and what stands behind it
pub record IsBehindName (name body rest : List ℕ) : Type 0 where
  pub whole : body ≡ name ++ rest
  pub ends : IsWordEnd rest

-- bytes that begin with a space and this number behind it, and what stands behind that
pub record IsBehindNumber (number : ℕ) (bytes rest : List ℕ) : Type 0 where
  pub whole : bytes ≡ word (decimal number) ++ rest
  pub ends : IsWordEnd rest

-- a byte that is no slash
abbrev pub is_no_slash : ℕ → Bool
is_no_slash b = not (nat_eq b 47)

-- the first slash, and what stands before and behind it
pub record IsCutAtSlash (bytes front back : List ℕ) : Type 0 where
  pub whole : bytes ≡ front ++ 47 ∷ back
  pub plain : list_all is_no_slash front ≡ true

-- bytes that begin with a value of a kind, and what stands behind it
pub record IsValueRead (kind : Kind) (bytes : List ℕ) (value : Field) (rest : List ℕ) : Type 0 where
  pub fits : is_value kind value ≡ true
  pub ends : IsWordEnd rest
  pub whole : bytes ≡ value_text value ++ rest

-- bytes that begin with a space and a value behind it
pub record IsNextValue (kind : Kind) (bytes : List ℕ) (value : Field) (rest : List ℕ) : Type 0 where
  pub fits : is_value kind value ≡ true
  pub ends : IsWordEnd rest
  pub whole : bytes ≡ 32 ∷ (value_text value ++ rest)

-- values of one kind, at most so many
pub record AreValuesOf (kind : Kind) (most : ℕ) (values : List Field) : Type 0 where
  pub fit : list_all (is_value kind) values ≡ true
  pub few : length values ≤ most
