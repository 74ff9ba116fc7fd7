-- The tokens before the first that does not fit.
use Rattle.std.specs.Prelude.{◌≡◌, List, [], ◌∷◌, ◌++◌}
use Rattle.lola_parser_grammar.specs.Syntax.{Lexeme, Syntax, Begins}

-- no sentence begins with p and the token behind it
abbrev pub EndsThere : {A : Type 0} → Syntax A → List Lexeme → List Lexeme → Type 0
EndsThere s p [] = Unit {0}
EndsThere s p (t ∷ rest) = Begins s (p ++ t ∷ []) → ⊥

-- p is what stands before the first token such that no sentence begins with the tokens up to it, or all tokens where there
-- is none such. What stands behind it is `rest`.
abbrev pub IsLongestFront : {A : Type 0} → Syntax A → List Lexeme → List Lexeme → List Lexeme → Type 0
IsLongestFront s ts p rest = (ts ≡ p ++ rest) × Begins s p × EndsThere s p rest
