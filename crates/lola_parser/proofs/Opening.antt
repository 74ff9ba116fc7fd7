-- Grammars of which each token that they may begin with begins some sentence.
use Rattle.std.proofs.Common.{◌≡◌, Bool, true, false, not, ◌&&◌, ◌||◌, cond, List, [], ◌∷◌, ◌++◌, Some, refl, sym, ap, append_assoc, inl, inr, ◌⊎◌}
use Rattle.std.proofs.lemmas.List.{append-nil}
use Rattle.std.proofs.lemmas.Bool.{and_parts, or_cases, not-true}
use Rattle.lola_parser_grammar.specs.Syntax.{Lexeme, Terminal, fits, any_fits, within, Syntax, Past, Token, Nesting, Whole, Known, Then, Map, Either, Maybe, Many, Fork, Spells, nullable, first}
use Rattle.lola_parser_grammar.proofs.Tests.{within_fits}
use Rattle.lola_parser_grammar.proofs.Viable.{sample}

-- something that begins with these tokens
abbrev pub Opens : {A : Type 0} → (List Lexeme → A → Type 0) → List Lexeme → Type 0
Opens {A} P z = (v : List Lexeme) × (x : A) × P (z ++ v) x

pub opens_then : {A B : Type 0} (a : Syntax A) (b : Syntax B) (z : List Lexeme) → Opens (Spells a) z → Opens (Spells (Then a b)) z
unfolding Spells
opens_then a b z h = let q = sample b in (h.0 ++ q.0, (h.1, q.1), (z ++ h.0, q.0, sym (append_assoc z h.0 q.0), h.2, q.2))

-- each token that it may begin with begins a sentence
unfoldable pub is_open : {A : Type 0} → Syntax A → Bool
is_open (Past a) = is_open a
is_open (Token k) = true
is_open (Nesting k) = true
is_open (Whole a) = is_open a
is_open (Known fs ms a) = within fs (first a) && is_open a
is_open (Then a b) = not (nullable a) && is_open a
is_open (Map f a) = is_open a
is_open (Either a b) = is_open a && is_open b
is_open (Maybe a) = is_open a
is_open (Many a) = is_open a
is_open (Fork ks a b c) = is_open a

any_either : (ks ls : List Terminal) (t : Lexeme) → any_fits (ks ++ ls) t ≡ true → (any_fits ks t ≡ true) ⊎ (any_fits ls t ≡ true)
any_either [] ls t h = inr h
any_either (k ∷ ks) ls t h =
    elim (or_cases (fits k t) (any_fits (ks ++ ls) t) h) [
      | inl e ↦ inl (ap (λ b. b || any_fits ks t) e)
      | inr e ↦ elim (any_either ks ls t e) [ inl i ↦ inl (or_both (fits k t) (any_fits ks t) i) | inr i ↦ inr i ]
    ]
  where
    or_both : (a b : Bool) → b ≡ true → (a || b) ≡ true
    or_both true b e = refl
    or_both false b e = e

one_of : (k : Terminal) (t : Lexeme) → any_fits (k ∷ []) t ≡ true → fits k t ≡ true
one_of k t h = elim (or_cases (fits k t) false h) [ inl e ↦ e | inr e ↦ absurd cc ]

of_first : (b : Bool) (fs gs : List Terminal) (t : Lexeme) → b ≡ false → any_fits (cond b (fs ++ gs) fs) t ≡ true → any_fits fs t ≡ true
of_first true fs gs t e h = absurd cc
of_first false fs gs t e h = h

pub first_begins : {A : Type 0} (s : Syntax A) → is_open s ≡ true → (t : Lexeme) → any_fits (first s) t ≡ true → Opens (Spells s) (t ∷ [])
unfolding is_open first Spells
first_begins (Past a) fine t h = first_begins a fine t h
first_begins (Token k) fine t h = ([], t, (refl, one_of k t h))
first_begins (Nesting k) fine t h = ([], t, (refl, one_of k t h))
first_begins (Whole a) fine t h = first_begins a fine t h
first_begins (Known fs ms a) fine t h =
    let f = and_parts (within fs (first a)) (is_open a) fine in
    first_begins a f.1 t (within_fits fs (first a) t f.0 h)
first_begins (Then a b) fine t h =
    let f = and_parts (not (nullable a)) (is_open a) fine in
    opens_then a b (t ∷ []) (first_begins a f.1 t (of_first (nullable a) (first a) (first b) t (not-true (nullable a) f.0) h))
first_begins (Map f a) fine t h = let p = first_begins a fine t h in (p.0, f p.1, (p.1, refl, p.2))
first_begins (Either a b) fine t h =
    let f = and_parts (is_open a) (is_open b) fine in
    elim (any_either (first a) (first b) t h) [
      | inl e ↦ let p = first_begins a f.0 t e in (p.0, p.1, inl p.2)
      | inr e ↦ let p = first_begins b f.1 t e in (p.0, p.1, inr p.2)
    ]
first_begins (Maybe a) fine t h = let p = first_begins a fine t h in (p.0, Some p.1, p.2)
first_begins (Many a) fine t h = let p = first_begins a fine t h in (p.0, p.1 ∷ [], ((t ∷ []) ++ p.0, [], sym (append-nil ((t ∷ []) ++ p.0)), p.2, refl))
first_begins (Fork ks a b c) fine t h =
    let p = first_begins a fine t h in
    let q = sample b in
    (p.0 ++ q.0, (p.1, q.1), ((t ∷ []) ++ p.0, q.0, refl, p.2, inl q.2))

-- the same of what goes an expression on behind a bracket that is a nesting
unfoldable pub forks_open : {A : Type 0} → Syntax A → Bool
forks_open (Past a) = true
forks_open (Token k) = true
forks_open (Nesting k) = true
forks_open (Whole a) = true
forks_open (Known fs ms a) = forks_open a
forks_open (Then a b) = forks_open a && forks_open b
forks_open (Map f a) = forks_open a
forks_open (Either a b) = forks_open a && forks_open b
forks_open (Maybe a) = forks_open a
forks_open (Many a) = forks_open a
forks_open (Fork ks a b c) = is_open c && forks_open b
