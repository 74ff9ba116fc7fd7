-- What is returned, in the words of the grammar.
use Rattle.std.proofs.Common.{ℕ, List, Result, Ok, Err, inl, inr}
use Rattle.lola_value.specs.declared.front.FrontEnd.{FrontEnd}
use Rattle.lola_value.specs.declared.front.FrontEnd.TheVariants as front_end
use Rattle.lola_parser_grammar.specs.declared.declarations.Declaration.{Declaration}
use Rattle.lola_parser_grammar.specs.Syntax.{Lexeme}
use Rattle.lola_parser_grammar.proofs.Ends as ends
use Rattle.lola_parser.specs.Places.{Answers, Refuses}

pub refuses : (ts : List Lexeme) (end : ℕ) (r : Result (List Declaration) FrontEnd) → Answers ts end r → Refuses ts end r
refuses ts end (Ok v) h = ends.refuses ts end (Ok v) h
refuses ts end (Err front_end.Memory) h = tt
refuses ts end (Err (front_end.Refused r)) (inl h) = elim (ends.refuses ts end (Err (front_end.Refused r)) (inl h)) [ inl k ↦ inl k | inr k ↦ absurd (let a = h.0 in let b = k.0 in cc) ]
refuses ts end (Err (front_end.Refused r)) (inr h) = inr h
