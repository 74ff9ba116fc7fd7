-- A token by another of its values than its place.
use Rattle.std.proofs.Common.{◌≡◌, ℕ, Bool, true, false, cond, not, ◌&&◌, ◌||◌, List, [], ◌∷◌, Ok, Err, refl, sym, ap, ◌∙◌}
use Rattle.lola_lexer.specs.declared.shape.TokenShape.TheVariants as is
use Rattle.lola_parser_grammar.specs.Syntax.{Lexeme, Terminal, Of, Other, is_among, Map, Token, ◌>>=◌, fits, same_shape, starts, read, Refusal, Unexpected, TooDeep}
use Rattle.lola_parser_grammar.proofs.Laws.{done, done_is}
use Rattle.lola_parser_grammar.specs.Cursor.{Cursor, Reads, text_of}
use Rattle.lola_parser_grammar.specs.declared.error.ParseError.{ParseError}
use Rattle.lola_parser_grammar.specs.declared.error.ParseError.TheVariants as errors
use Rattle.lola_parser_grammar.specs.Grammar.{place}
use Rattle.lola_parser_cursor.proofs.Steps.{or_false}

abbrev valued : {A : Type 0} → (List ℕ → ℕ → A) → Lexeme → A
valued g t = g t.text t.from

by_place : {A : Type 0} (g : List ℕ → ℕ → A) (b : Bool) (t : Lexeme) (m i at : ℕ) (ts rest : List Lexeme) → (cond b (done t m ts) (Err (Unexpected (t ∷ ts))) >>= λ x j end. Ok (place x, j, end)) ≡ Ok (at, i, rest)
    → (cond b (done t m ts) (Err (Unexpected (t ∷ ts))) >>= λ x j end. Ok (valued g x, j, end)) ≡ Ok (g t.text at, i, rest)
by_place g true t m i at ts rest h = let q = done_is t.from at m i ts rest h in rw (q.0, q.1, q.2) refl
by_place g false t m i at ts rest h = absurd cc

by_refusal : {A : Type 0} (g : List ℕ → ℕ → A) (b : Bool) (t : Lexeme) (m : ℕ) (ts : List Lexeme) (d : Refusal) → (cond b (done t m ts) (Err (Unexpected (t ∷ ts))) >>= λ x j end. Ok (place x, j, end)) ≡ Err d
    → (cond b (done t m ts) (Err (Unexpected (t ∷ ts))) >>= λ x j end. Ok (valued g x, j, end)) ≡ Err d
by_refusal g true t m ts d h = absurd cc
by_refusal g false t m ts d h = let e : Unexpected (t ∷ ts) ≡ d = cc in ap (λ x. Err x) e

pub value_taken : {A : Type 0} (g : List ℕ → ℕ → A) (k : Terminal) (m i at : ℕ) (ts rest : List Lexeme) → read (Map place (Token k)) m ts ≡ Ok (at, i, rest) → read (Map (valued g) (Token k)) m ts ≡ Ok (g (text_of ts) at, i, rest)
unfolding read
value_taken g k m i at [] rest h = absurd cc
value_taken g k m i at (t ∷ ts) rest h = by_place g (fits k t) t m i at ts rest h

pub value_missed : {A : Type 0} (g : List ℕ → ℕ → A) (k : Terminal) (m : ℕ) (ts : List Lexeme) (d : Refusal) → read (Map place (Token k)) m ts ≡ Err d → read (Map (valued g) (Token k)) m ts ≡ Err d
unfolding read
value_missed g k m [] d h = let e : Unexpected [] ≡ d = cc in ap (λ x. Err x) e
value_missed g k m (t ∷ ts) d h = by_refusal g (fits k t) t m ts d h

-- a name is read as any other, if it is none of the words
fits_other : (ws : List (List ℕ)) (t : Lexeme) → (fits (Other ws) t || false) ≡ true → fits (Other ws) t ≡ fits (Of is.Name) t
unfolding fits
fits_other ws t h = (or_false (fits (Other ws) t) true h) ∙ sym (and_left (same_shape is.Name t.shape) (not (is_among t.text ws)) (or_false (fits (Other ws) t) true h))
  where
    and_left : (a b : Bool) → (a && b) ≡ true → a ≡ true
    and_left true b e = refl
    and_left false b e = absurd cc

pub as_any_name : {A : Type 0} (g : Lexeme → A) (ws : List (List ℕ)) (m : ℕ) (ts : List Lexeme) → starts (Other ws ∷ []) ts ≡ true → read (Map g (Token (Other ws))) m ts ≡ read (Map g (Token (Of is.Name))) m ts
unfolding read
as_any_name g ws m [] h = absurd cc
as_any_name g ws m (t ∷ ts) h = rw (fits_other ws t h) refl

pub other_missed : {A : Type 0} (g : Lexeme → A) (ws : List (List ℕ)) (m : ℕ) (ts : List Lexeme) → starts (Other ws ∷ []) ts ≡ false → read (Map g (Token (Other ws))) m ts ≡ Err (Unexpected ts)
unfolding read
other_missed g ws m [] h = refl
other_missed g ws m (t ∷ ts) h = rw (or_false (fits (Other ws) t) false h) refl

-- ---- the same as clauses of the parser

pub missed_as : {A : Type 0} (g : List ℕ → ℕ → A) (k : Terminal) (m : ℕ) (ts : List Lexeme) (e : ParseError) (new : Cursor) → Reads (read (Map place (Token k)) m ts) (Err e) new → Reads (read (Map (valued g) (Token k)) m ts) (Err e) new
missed_as g k m ts errors.Memory new h = tt
missed_as g k m ts errors.Unexpected new h = value_missed g k m ts (Unexpected new.rest) h
missed_as g k m ts errors.TooDeep new h = value_missed g k m ts (TooDeep new.rest) h
