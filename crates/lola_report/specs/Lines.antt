-- What a line is.
use Rattle.std.specs.Prelude.{ℕ, ◌≡◌, List, [], ◌∷◌, ◌++◌, Bool, true, not, nat_eq, IsTrue, Option, Some, None}
use Rattle.std.specs.List.{list_all}
use Rattle.lola_value.specs.declared.text.Field.{Field}
use Rattle.lola_value.specs.declared.text.Field.TheVariants as field
use Rattle.lola_model.specs.declared.spec.Stream.{Stream}
use Rattle.lola_report.specs.declared.end.EndLine.{EndLine}
use Rattle.lola_report.specs.declared.end.EndLine.TheVariants as end

abbrev pub is_not_lf : ℕ → Bool
is_not_lf b = not (nat_eq b 10)

abbrev pub has_no_lf : List ℕ → Bool
has_no_lf t = list_all is_not_lf t

-- bytes without LF, and then one
pub record IsLine (text : List ℕ) : Type 0 where
  pub body : List ℕ
  pub ended : text ≡ body ++ 10 ∷ []
  pub plain : IsTrue (has_no_lf body)

-- a field whose text has no LF
abbrev pub is_plain : Field → Bool
is_plain (field.Text t) = has_no_lf t
is_plain _ = true

-- a stream whose name has no LF
abbrev pub has_plain_name : Option Stream → Bool
has_plain_name None = true
has_plain_name (Some s) = has_no_lf s.name

-- an end that names no stream whose name has LF
abbrev pub is_plain_end : EndLine → Bool
is_plain_end (end.Fault name kind time) = has_no_lf name
is_plain_end _ = true
