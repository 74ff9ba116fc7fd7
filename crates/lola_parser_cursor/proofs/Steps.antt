-- Single tokens.
use Rattle.std.proofs.Common.{not, ◌≡◌, ℕ, zero, suc, ◌+◌, ◌-◌, ◌<◌, Bool, true, false, ◌||◌, ◌&&◌, List, [], ◌∷◌, length, get_or, drop, Ok, Err, refl, sym, ap, ◌∙◌, arith}
use Rattle.lola_lexer.specs.declared.shape.TokenShape.{TokenShape}
use Rattle.lola_lexer.specs.declared.token.Token.{Token}
use Rattle.lola_parser_grammar.specs.Syntax.{Lexeme, Of, Word, Other, fits, same_shape, starts, read, Unexpected, TooDeep}
use Rattle.lola_parser_grammar.specs.Cursor.{lexemes, text_of}
use Rattle.lola_parser_grammar.specs.Grammar.{token, nesting, word}
use Rattle.lola_lexer.specs.declared.shape.TokenShape.TheVariants as is
use Rattle.std.specs.Str.{bytes_eq}

pub front_is : (bytes : List ℕ) (ts : List Token) (at : ℕ) (d : Token) → at < length ts
    → lexemes bytes (drop at ts) ≡ record { shape = (get_or ts at d).shape; text = text_of (lexemes bytes (drop at ts)); from = (get_or ts at d).from; to = (get_or ts at d).to } ∷ drop 1 (lexemes bytes (drop at ts))
front_is bytes [] at d h = absurd (omega (arith, h))
front_is bytes (t ∷ ts) zero d h = refl
front_is bytes (t ∷ ts) (suc at) d h = front_is bytes ts at d (omega (arith, h))

pub tail_is : (bytes : List ℕ) (ts : List Token) (at : ℕ) → lexemes bytes (drop (at + 1) ts) ≡ drop 1 (lexemes bytes (drop at ts))
tail_is bytes ts at = let e : at + 1 ≡ suc at = omega arith in ap (λ n. lexemes bytes (drop n ts)) e ∙ tail_of bytes ts at
  where
    tail_of : (bytes : List ℕ) (ts : List Token) (at : ℕ) → lexemes bytes (drop (suc at) ts) ≡ drop 1 (lexemes bytes (drop at ts))
    tail_of bytes [] zero = refl
    tail_of bytes [] (suc at) = refl
    tail_of bytes (t ∷ ts) zero = refl
    tail_of bytes (t ∷ ts) (suc at) = tail_of bytes ts at

abbrev pub Front : Token → List Lexeme → Type 0
Front t ts = ts ≡ record { shape = t.shape; text = text_of ts; from = t.from; to = t.to } ∷ drop 1 ts

pub sees_is : (s : TokenShape) (t : Token) (ts : List Lexeme) → Front t ts → same_shape s t.shape ≡ starts (Of s ∷ []) ts
unfolding fits
sees_is s t ts h = rw h (no_other (same_shape s t.shape))
  where
    no_other : (b : Bool) → b ≡ (b || false)
    no_other true = refl
    no_other false = refl

pub token_taken : (s : TokenShape) (t : Token) (m : ℕ) (ts : List Lexeme) → Front t ts → same_shape s t.shape ≡ true → read (token s) m ts ≡ Ok (t.from, m, drop 1 ts)
unfolding token read fits
token_taken s t m ts h e = ap (read (token s) m) h ∙ rw e refl

pub token_missed : (s : TokenShape) (t : Token) (m : ℕ) (ts : List Lexeme) → Front t ts → same_shape s t.shape ≡ false → read (token s) m ts ≡ Err (Unexpected ts)
unfolding token read fits
token_missed s t m ts h e = ap (read (token s) m) h ∙ rw e (ap (λ w. Err (Unexpected w)) (sym h))

pub token_ended : (s : TokenShape) (m : ℕ) (ts : List Lexeme) → ts ≡ [] → read (token s) m ts ≡ Err (Unexpected ts)
unfolding token read
token_ended s m ts h = rw h refl

pub nesting_taken : (s : TokenShape) (t : Token) (m : ℕ) (ts : List Lexeme) → Front t ts → same_shape s t.shape ≡ true → 0 < m → read (nesting s) m ts ≡ Ok (t.from, m - 1, drop 1 ts)
unfolding nesting read fits
nesting_taken s t zero ts h e some = absurd (omega (arith, some))
nesting_taken s t (suc m) ts h e some = let k : m ≡ suc m - 1 = omega arith in ap (read (nesting s) (suc m)) h ∙ rw e (ap (λ i. Ok (t.from, i, drop 1 ts)) k)

pub nesting_deep : (s : TokenShape) (t : Token) (m : ℕ) (ts : List Lexeme) → Front t ts → same_shape s t.shape ≡ true → m ≡ 0 → read (nesting s) m ts ≡ Err (TooDeep ts)
unfolding nesting read fits
nesting_deep s t zero ts h e none = ap (read (nesting s) zero) h ∙ rw e (ap (λ w. Err (TooDeep w)) (sym h))
nesting_deep s t (suc m) ts h e none = absurd (omega (arith, none))

pub nesting_missed : (s : TokenShape) (t : Token) (m : ℕ) (ts : List Lexeme) → Front t ts → same_shape s t.shape ≡ false → read (nesting s) m ts ≡ Err (Unexpected ts)
unfolding nesting read fits
nesting_missed s t m ts h e = ap (read (nesting s) m) h ∙ rw e (ap (λ w. Err (Unexpected w)) (sym h))

pub nesting_ended : (s : TokenShape) (m : ℕ) (ts : List Lexeme) → ts ≡ [] → read (nesting s) m ts ≡ Err (Unexpected ts)
unfolding nesting read
nesting_ended s m ts h = rw h refl

pub sees_word_is : (w : List ℕ) (t : Token) (ts : List Lexeme) → Front t ts → (same_shape is.Name t.shape && bytes_eq w (text_of ts)) ≡ starts (Word w ∷ []) ts
unfolding fits
sees_word_is w t ts h = rw h (no_other (same_shape is.Name t.shape && bytes_eq w (text_of ts)))
  where
    no_other : (b : Bool) → b ≡ (b || false)
    no_other true = refl
    no_other false = refl

pub or_false : (b c : Bool) → (b || false) ≡ c → b ≡ c
or_false true c e = e
or_false false c e = e

pub word_taken : (w : List ℕ) (t : Token) (m : ℕ) (ts : List Lexeme) → Front t ts → starts (Word w ∷ []) ts ≡ true → read (word w) m ts ≡ Ok (t.from, m, drop 1 ts)
unfolding word read fits
word_taken w t m ts h e =
    let f : (same_shape is.Name t.shape && bytes_eq w (text_of ts)) ≡ true = sees_word_is w t ts h ∙ e in
    ap (read (word w) m) h ∙ rw f refl

pub word_missed : (w : List ℕ) (m : ℕ) (ts : List Lexeme) → starts (Word w ∷ []) ts ≡ false → read (word w) m ts ≡ Err (Unexpected ts)
unfolding word read fits
word_missed w m [] e = refl
word_missed w m (t ∷ ts) e = rw (or_false (fits (Word w) t) false e) refl

pub word_ended : (w : List ℕ) (m : ℕ) (ts : List Lexeme) → ts ≡ [] → read (word w) m ts ≡ Err (Unexpected ts)
unfolding word read
word_ended w m ts h = rw h refl

-- ---- a name that is none of some words

pub sees_other_is : (v w : List ℕ) (t : Token) (ts : List Lexeme) → Front t ts → (same_shape is.Name t.shape && not (bytes_eq v (text_of ts) || bytes_eq w (text_of ts))) ≡ starts (Other (v ∷ w ∷ []) ∷ []) ts
unfolding fits
sees_other_is v w t ts h = rw h (no_more (same_shape is.Name t.shape) (bytes_eq v (text_of ts)) (bytes_eq w (text_of ts)))
  where
    no_more : (a b c : Bool) → (a && not (b || c)) ≡ ((a && not (b || (c || false))) || false)
    no_more true true c = refl
    no_more true false true = refl
    no_more true false false = refl
    no_more false b c = refl
