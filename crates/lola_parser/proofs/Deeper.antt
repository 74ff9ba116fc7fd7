-- More levels than there are tokens change nothing.
use Rattle.std.proofs.Common.{◌≡◌, ℕ, suc, ◌<◌, ◌≤◌, Bool, true, false, List, [], ◌∷◌, length, Ok, Err, refl, sym, ap, ◌∙◌, arith}
use Rattle.std.proofs.lemmas.List.{length-append}
use Rattle.lola_parser_grammar.specs.Syntax.{Lexeme, Syntax, Unexpected, TooDeep, Outcome, read}
use Rattle.lola_parser_grammar.specs.Nestings.{is_nesting, one_if, nestings_in}
use Rattle.lola_parser_grammar.proofs.Over.{over}
use Rattle.lola_parser_grammar.specs.Grammar.{all_nestings, level, expr_in, other_in}
use Rattle.lola_parser_grammar.proofs.Depth.{level_tallies, level_deep}
use Rattle.lola_parser_grammar.proofs.Levels.{levels_same}
use Rattle.lola_parser.specs.Skims.{skim}
use Rattle.lola_parser.proofs.Skims.{skims_read, skims_misses}

one_most : (b : Bool) → one_if all_nestings b ≤ 1
one_most true = omega arith
one_most false = omega arith

pub at_most : (u : List Lexeme) → nestings_in all_nestings u ≤ length u
at_most [] = omega arith
at_most (t ∷ u) = omega (arith, one_most (is_nesting all_nestings t), at_most u)

same_left : {A : Type 0} (s s' : Syntax A) (m : ℕ) (ts : List Lexeme) → read s m ts ≡ read s' m ts → ((d : List Lexeme) → read s m ts ≡ Err (TooDeep d) → ⊥) → skim s ts ≡ skim s' ts
same_left {A} s s' m ts e never = by (read s m ts) refl
  where
    by : (o : Outcome A) → read s m ts ≡ o → skim s ts ≡ skim s' ts
    by (Ok (x, i, rest)) is = skims_read s m ts x i rest is ∙ sym (skims_read s' m ts x i rest (sym e ∙ is))
    by (Err (Unexpected d)) is = skims_misses s m ts d is ∙ sym (skims_misses s' m ts d (sym e ∙ is))
    by (Err (TooDeep d)) is = absurd (never d is)

never_deep : (b : Bool) (n : ℕ) (ts : List Lexeme) → length ts < n → (d : List Lexeme) → read (level b n) (length ts) ts ≡ Err (TooDeep d) → ⊥
never_deep b n ts less d h =
    let p = over all_nestings (level b n) (level_tallies b n) n (level_deep b n n (omega arith)) (length ts) ts d less h in
    omega (arith, p.5, at_most p.0, ap length p.4, length-append p.0 (p.1 ∷ p.2))

pub expr_deeper : (n : ℕ) (ts : List Lexeme) → length ts < n → skim (expr_in n) ts ≡ skim (expr_in (suc n)) ts
unfolding read
expr_deeper n ts less =
    let p = levels_same n n (suc n) (omega arith) (omega arith) in
    same_left (expr_in n) (expr_in (suc n)) (length ts) ts (p.0.reads (length ts) ts less) (never_deep true n ts less)

pub other_deeper : (n : ℕ) (ts : List Lexeme) → length ts < n → skim (other_in n) ts ≡ skim (other_in (suc n)) ts
unfolding read
other_deeper n ts less =
    let p = levels_same n n (suc n) (omega arith) (omega arith) in
    same_left (other_in n) (other_in (suc n)) (length ts) ts (p.1.reads (length ts) ts less) (never_deep false n ts less)
