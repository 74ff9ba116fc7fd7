-- What a part of the grammar leaves of a text, where no nesting is counted and no value is kept.
use Rattle.std.specs.Prelude.{ℕ, zero, suc, if◌then◌else◌, List, [], ◌∷◌, length, Some, None}
use Rattle.lola_parser_grammar.specs.Syntax.{Lexeme, Terminal, Syntax, Past, Token, Nesting, Whole, Known, Then, Map, Either, Maybe, Many, Fork, starts, first}
use Rattle.lola_parser.specs.Turns.{Left, ◌>->◌, behind}

-- as often as it begins, which is no more often than there are tokens
abbrev pub again : (List Lexeme → Left) → List Terminal → ℕ → List Lexeme → Left
again f ks zero ts = Some ts
again f ks (suc n) ts = if starts ks ts then (f ts >-> again f ks n) else Some ts

-- what the longest front that is a sentence leaves, or nothing where there is none
unfoldable pub skim : {A : Type 0} → Syntax A → List Lexeme → Left
skim (Past a) ts = skim a ts
skim (Token k) ts = behind (k ∷ []) ts
skim (Nesting k) ts = behind (k ∷ []) ts
skim (Whole a) ts = skim a ts
skim (Known fs ms a) ts = skim a ts
skim (Then a b) ts = skim a ts >-> skim b
skim (Map f a) ts = skim a ts
skim (Either a b) ts = if starts (first a) ts then skim a ts else skim b ts
skim (Maybe a) ts = if starts (first a) ts then skim a ts else Some ts
skim (Many a) ts = again (skim a) (first a) (length ts) ts
skim (Fork ks a b c) ts = skim a ts >-> λ rest. if starts (first b) rest then skim b rest else if starts (first c) rest then skim c rest else None
