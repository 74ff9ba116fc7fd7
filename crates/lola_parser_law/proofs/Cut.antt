-- What is printed is cut into the same tokens.
use Rattle.std.specs.Bool.{if◌then◌else◌}
use Rattle.std.specs.Prelude.{nat_lt}
use Rattle.std.proofs.Common.{◌≡◌, ℕ, ◌+◌, Bool, true, false, List, [], ◌∷◌, ◌++◌, length, map, take, drop, Ok, Err, refl, sym, ap, ap₂, subst, ◌∙◌, arith, ltb-false}
use Rattle.std.specs.List.{All}
use Rattle.std.proofs.lemmas.List.{drop-drop}
use Rattle.std.proofs.lemmas.List.Elements.{All-nil, All-cons}
use Rattle.lola_value.specs.declared.front.Code.TheVariants.{TooLong}
use Rattle.lola_lexer.specs.declared.scan.thing.Thing.{Thing}
use Rattle.lola_lexer.specs.declared.scan.thing.Thing.TheVariants as thing
use Rattle.lola_lexer.specs.declared.token.Token.{Token}
use Rattle.lola_lexer.specs.Spelling.{Bytes, IsToken}
use Rattle.lola_lexer.specs.Tokens.{tokens_of, tokens_from}
use Rattle.lola_lexer.specs.Written.{Spaced, IsSpaced, written, spaced_at, bytes_of}
use Rattle.lola_lexer.specs.Cuts.{Covers, IsWhole, tokens_among}
use Rattle.lola_lexer.proofs.Cutting.{given_is_cut}
use Rattle.lola_lexer.proofs.Writing.{written_is_cut, texts_are}
use Rattle.lola_parser_grammar.specs.Syntax.{Lexeme}
use Rattle.lola_parser_grammar.specs.Cursor.{lexemes}
use Rattle.lola_parser_print.specs.Print.{spelled_out}
use Rattle.lola_parser_law.specs.Places.{AreLexed, AreSame, CutIsLexed, PrintedIsCut}

-- ---- what is printed

abbrev nesting_of : Lexeme → Spaced
nesting_of t = record { shape = t.shape; text = t.text; blank = 32 }

printed_is : (ts : List Lexeme) → spelled_out ts ≡ written (map nesting_of ts)
printed_is [] = refl
printed_is (t ∷ ts) = ap (λ l. t.text ++ (32 ∷ l)) (printed_is ts)

are_nestings : (ts : List Lexeme) → AreLexed ts → All IsSpaced (map nesting_of ts)
are_nestings [] h = All-nil IsSpaced
are_nestings (t ∷ ts) h = All-cons IsSpaced (nesting_of t) (map nesting_of ts) (record { token = h.0; blank = refl }) (are_nestings ts h.1)

same_from : (z : Bytes) (ts : List Lexeme) (at : ℕ) → map (bytes_of z) (spaced_at at (map nesting_of ts)) ≡ map (λ m. m.text) (map nesting_of ts)
    → AreSame ts (lexemes z (spaced_at at (map nesting_of ts)))
same_from z [] at h = tt
same_from z (t ∷ ts) at h = (record { shape = refl; text = cc }, same_from z ts (at + length t.text + 1) cc)

pub printed_cut : PrintedIsCut
printed_cut ts h short =
    let ms = map nesting_of ts in
    let e = printed_is ts in
    let cut : tokens_of (written ms) ≡ Ok (spaced_at 0 ms) = written_is_cut ms (are_nestings ts h) (omega (arith, short, ap length e)) in (
      spaced_at 0 ms,
      ap tokens_of e ∙ cut,
      subst (λ (z : List ℕ). AreSame ts (lexemes z (spaced_at 0 ms))) (sym e) (same_from (written ms) ts 0 (texts_are ms)),
    )

-- ---- what is cut

lexed_among : (whole z : Bytes) (at : ℕ) (things : List Thing) → drop at whole ≡ z → Covers z things [] → AreLexed (lexemes whole (tokens_among at things))
lexed_among whole z at [] is h = tt
lexed_among whole z at (thing.Gap n ∷ more) is h =
    lexed_among whole (drop n z) (at + n) more (sym (drop-drop n at whole) ∙ ap (drop n) is) h.1
lexed_among whole z at (thing.Token s n ∷ more) is h = (
  subst (λ (w : Bytes). IsToken s w) (sym (ap₂ take (omega arith) is)) h.0.token,
  lexed_among whole (drop n z) (at + n) more (sym (drop-drop n at whole) ∙ ap (drop n) is) h.1,
)
lexed_among whole z at (thing.Bad ∷ more) is h = absurd h

whole_lexed : (z : Bytes) (ts : List Token) → IsWhole z 0 ts → AreLexed (lexemes z ts)
whole_lexed z ts h = subst (λ (l : List Token). AreLexed (lexemes z l)) (sym h.among) (lexed_among z z 0 h.things refl h.covers)

by_length : (z : Bytes) (ts : List Token) (b : Bool) → nat_lt 1_048_576 (length z) ≡ b
    → (if b then Err (record { code = TooLong; at = 1_048_576 }) else tokens_from 0 0 z) ≡ Ok ts → AreLexed (lexemes z ts)
by_length z ts true e h = absurd cc
by_length z ts false e h =
    whole_lexed z ts (given_is_cut z (Ok ts) (ltb-false 1_048_576 (length z) e) h).1

pub cut_lexed : CutIsLexed
unfolding tokens_of
cut_lexed z ts h = by_length z ts (nat_lt 1_048_576 (length z)) refl h
