-- Names, each with what it means.
use Rattle.std.specs.Prelude.{ℕ, List, [], ◌∷◌, ◌++◌, Option, Some, None, if◌then◌else◌, is_some}
use Rattle.lola_value.specs.Arithmetic.{bytes_equal}
use Rattle.lola_parser_grammar.specs.declared.literals.Name.{Name}

-- what a name means; where it stands more than once the first counts
abbrev pub meaning_in : {M : Type 0} → List (List ℕ × M) → List ℕ → Option M
meaning_in [] text = None
meaning_in (e ∷ es) text = if bytes_equal text e.0 then Some e.1 else meaning_in es text

-- behind known names one more; one that is known keeps its meaning
abbrev pub with_name : {M : Type 0} → List (List ℕ × M) → Name × M → List (List ℕ × M)
with_name known n = if is_some (meaning_in known n.0.text) then known else (known ++ (n.0.text, n.1) ∷ [])

-- what a name means in an expression that stands in the scope of parameters: a parameter hides other names. (One that is declared
-- before its parameter of the same name is refused at the parameter, which stands before every use.)
abbrev pub hides : {M : Type 0} → Option M → Option M → Option M
hides None m = m
hides (Some p) m = Some p

abbrev pub meant : {M : Type 0} → List (List ℕ × M) → List (List ℕ × M) → List ℕ → Option M
meant parameters names text = hides (meaning_in parameters text) (meaning_in names text)
