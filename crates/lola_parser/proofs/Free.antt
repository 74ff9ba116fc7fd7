-- The same grammar with no nesting counted: a text has one front that is a sentence which what follows does not go on.
use Rattle.std.proofs.Common.{◌≡◌, ℕ, zero, suc, Bool, true, false, not, ◌||◌, List, [], ◌∷◌, ◌++◌, length, Some, None, Ok, Err, refl, sym, ap, ◌∙◌, inl, inr, Result, subst}
use Rattle.std.proofs.lemmas.List.{append-nil, append_cancel_right}
use Rattle.std.proofs.lemmas.Bool.{and_parts, not-true}
use Rattle.lola_parser_grammar.specs.Syntax.{Lexeme, Terminal, fits, clash, clashes, apart, within, Syntax, Past, Token, Nesting, Whole, Known, Then, Map, Either, Maybe, Many, Fork, Repeats, Spells, starts, first, nullable, more, is_fine, Unexpected, TooDeep, Reader, max_nestings, repeated, read, Outcome, all_read, read_all, Begins, IsFirstMisfit, Refusal}
use Rattle.lola_parser_grammar.proofs.Laws.{chosen, done_is}
use Rattle.lola_parser_grammar.proofs.Complete.{and_three, choice_parts, known_parts, fork_is, complete}
use Rattle.lola_parser_grammar.proofs.Viable.{bind_err}
use Rattle.lola_parser_grammar.proofs.Refusal.{read_is_spelled, refused_at}
use Rattle.lola_parser.specs.Fronts.{IsLongestFront}

unfoldable pub free : {A : Type 0} → Syntax A → Syntax A
free (Past a) = free a
free (Token k) = Token k
free (Nesting k) = Token k
free (Whole a) = free a
free (Known fs ms a) = Known fs ms (free a)
free (Then a b) = Then (free a) (free b)
free (Map f a) = Map f (free a)
free (Either a b) = Either (free a) (free b)
free (Maybe a) = Maybe (free a)
free (Many a) = Many (free a)
free (Fork ks a b c) = Then (free a) (Either (free b) (free c))

repeats_free : {A : Type 0} (P Q : List Lexeme → A → Type 0) → ((u : List Lexeme) (x : A) → P u x → Q u x) → (u : List Lexeme) (xs : List A) → Repeats P u xs → Repeats Q u xs
repeats_free P Q f u [] h = h
repeats_free P Q f u (x ∷ xs) h = (h.0, h.1, h.2, f h.0 x h.3, repeats_free P Q f h.1 xs h.4)

spells_free : {A : Type 0} (s : Syntax A) (u : List Lexeme) (x : A) → Spells s u x → Spells (free s) u x
unfolding free Spells
spells_free (Past a) u x h = spells_free a u x h
spells_free (Token k) u x h = h
spells_free (Nesting k) u x h = h
spells_free (Whole a) u x h = spells_free a u x h
spells_free (Known fs ms a) u x h = spells_free a u x h
spells_free (Then a b) u x h = (h.0, h.1, h.2, spells_free a h.0 x.0 h.3, spells_free b h.1 x.1 h.4)
spells_free (Map f a) u y h = (h.0, h.1, spells_free a u h.0 h.2)
spells_free (Either a b) u x (inl h) = inl (spells_free a u x h)
spells_free (Either a b) u x (inr h) = inr (spells_free b u x h)
spells_free (Maybe a) u None h = h
spells_free (Maybe a) u (Some x) h = spells_free a u x h
spells_free (Many a) u xs h = repeats_free (Spells a) (Spells (free a)) (spells_free a) u xs h
spells_free (Fork ks a b c) u x h = (h.0, h.1, h.2, spells_free a h.0 x.0 h.3, elim h.4 [ inl p ↦ inl (spells_free b h.1 x.1 p) | inr p ↦ inr (spells_free c h.1 x.1 p) ])

spells_back : {A : Type 0} (s : Syntax A) (u : List Lexeme) (x : A) → Spells (free s) u x → Spells s u x
unfolding free Spells
spells_back (Past a) u x h = spells_back a u x h
spells_back (Token k) u x h = h
spells_back (Nesting k) u x h = h
spells_back (Whole a) u x h = spells_back a u x h
spells_back (Known fs ms a) u x h = spells_back a u x h
spells_back (Then a b) u x h = (h.0, h.1, h.2, spells_back a h.0 x.0 h.3, spells_back b h.1 x.1 h.4)
spells_back (Map f a) u y h = (h.0, h.1, spells_back a u h.0 h.2)
spells_back (Either a b) u x (inl h) = inl (spells_back a u x h)
spells_back (Either a b) u x (inr h) = inr (spells_back b u x h)
spells_back (Maybe a) u None h = h
spells_back (Maybe a) u (Some x) h = spells_back a u x h
spells_back (Many a) u xs h = repeats_free (Spells (free a)) (Spells a) (spells_back a) u xs h
spells_back (Fork ks a b c) u x h = (h.0, h.1, h.2, spells_back a h.0 x.0 h.3, elim h.4 [ inl p ↦ inl (spells_back b h.1 x.1 p) | inr p ↦ inr (spells_back c h.1 x.1 p) ])

clashes_append : (k : Terminal) (ls ms : List Terminal) → clashes k ls ≡ false → clashes k ms ≡ false → clashes k (ls ++ ms) ≡ false
clashes_append k [] ms h i = i
clashes_append k (l ∷ ls) ms h i = both (clash k l) (clashes k ls) (clashes k (ls ++ ms)) h (λ e. clashes_append k ls ms e i)
  where
    both : (a b c : Bool) → (a || b) ≡ false → (b ≡ false → c ≡ false) → (a || c) ≡ false
    both true b c e f = absurd cc
    both false b c e f = f e

apart_append : (ks ls ms : List Terminal) → apart ks ls ≡ true → apart ks ms ≡ true → apart ks (ls ++ ms) ≡ true
apart_append [] ls ms h i = refl
apart_append (k ∷ ks) ls ms h i =
    let f = and_parts (not (clashes k ls)) (apart ks ls) h in
    let g = and_parts (not (clashes k ms)) (apart ks ms) i in
    rw (clashes_append k ls ms (not-true (clashes k ls) f.0) (not-true (clashes k ms) g.0), apart_append ks ls ms f.1 g.1) refl

-- it begins and goes on as before
abbrev FreeIs : {A : Type 0} → Syntax A → Type 0
FreeIs s = (first (free s) ≡ first s) × (nullable (free s) ≡ nullable s) × (more (free s) ≡ more s) × (is_fine (free s) ≡ true)

free_is : {A : Type 0} (s : Syntax A) → is_fine s ≡ true → FreeIs s
unfolding free first nullable more is_fine
free_is (Past a) fine = free_is a fine
free_is (Token k) fine = (refl, refl, refl, refl)
free_is (Nesting k) fine = (refl, refl, refl, refl)
free_is (Whole a) fine = free_is a fine
free_is (Known fs ms a) fine =
    let f = known_parts (is_fine a) (nullable a) (within (first a) fs) (within (more a) ms) fine in
    let p = free_is a f.0 in
    (refl, refl, refl, rw (p.3, p.1, f.1, p.0, p.2, f.2, f.3) refl)
free_is (Then a b) fine =
    let f = and_three (is_fine a) (is_fine b) (apart (more a) (first b)) fine in
    let p = free_is a f.0 in
    let q = free_is b f.1 in
    (rw (p.1, p.0, q.0) refl, rw (p.1, q.1) refl, rw (q.1, q.2, p.2) refl, rw (p.3, q.3, p.2, q.0, f.2) refl)
free_is (Map g a) fine = free_is a fine
free_is (Either a b) fine =
    let f = choice_parts (is_fine a) (is_fine b) (nullable a) (nullable b) (apart (first a) (first b)) fine in
    let p = free_is a f.0 in
    let q = free_is b f.1 in
    (rw (p.0, q.0) refl, rw (p.1, q.1) refl, rw (p.2, q.2) refl, rw (p.3, q.3, p.1, q.1, f.2, f.3, p.0, q.0, f.4) refl)
free_is (Maybe a) fine =
    let f = and_parts (is_fine a) (not (nullable a)) fine in
    let p = free_is a f.0 in
    (p.0, refl, rw (p.0, p.2) refl, rw (p.3, p.1, f.1) refl)
free_is (Many a) fine =
    let f = and_three (is_fine a) (not (nullable a)) (apart (more a) (first a)) fine in
    let p = free_is a f.0 in
    (p.0, refl, rw (p.0, p.2) refl, rw (p.3, p.1, f.1, p.0, p.2, f.2) refl)
free_is (Fork ks a b c) fine =
    let f = fork_is ks a b c fine in
    let p = free_is a f.head in
    let q = free_is b f.one.0 in
    let r = free_is c f.two.0 in
    let away = apart_append (more a) (first b) (first c) f.one.2 f.two.2 in (
      rw (p.1, f.some, p.0) refl,
      rw (p.1, f.some) refl,
      rw (q.1, r.1, f.one.1, f.two.1, q.2, r.2) refl,
      rw (p.3, q.3, r.3, q.1, r.1, f.one.1, f.two.1, q.0, r.0, f.clear, p.2, away) refl,
    )

-- ---- it is never too deep

NeverDeep : {A : Type 0} → Reader A → Type 0
NeverDeep r = (m : ℕ) (ts d : List Lexeme) → r m ts ≡ Err (TooDeep d) → ⊥

repeated_never : {A : Type 0} (r : Reader A) (ks : List Terminal) → NeverDeep r → (n : ℕ) → NeverDeep (repeated r ks n)
unfolding NeverDeep
repeated_never r ks never zero m ts d h = absurd cc
repeated_never r ks never (suc n) m ts d h =
    elim (chosen (starts ks ts) _ _ _ h) [
      | inl c ↦
          elim (bind_err (r m ts) _ (TooDeep d) c.1) [
            | inl e ↦ never m ts d e
            | inr q ↦
                elim (bind_err (repeated r ks n q.1 q.2) _ (TooDeep d) q.4) [
                  | inl e ↦ repeated_never r ks never n q.1 q.2 d e
                  | inr z ↦ absurd (let w = z.4 in cc)
                ]
          ]
      | inr c ↦ absurd (let w = c.1 in cc)
    ]

token_never : (k : Terminal) (m : ℕ) (ts d : List Lexeme) → read (Token k) m ts ≡ Err (TooDeep d) → ⊥
unfolding read
token_never k m [] d h = absurd (let e : Unexpected [] ≡ TooDeep d = cc in cc)
token_never k m (t ∷ ts) d h = elim (chosen (fits k t) _ _ _ h) [ inl c ↦ absurd (let w = c.1 in cc) | inr c ↦ absurd (let w = c.1 in let e : Unexpected (t ∷ ts) ≡ TooDeep d = cc in cc) ]

then_never : {A B : Type 0} (a : Syntax A) (b : Syntax B) → NeverDeep (read a) → NeverDeep (read b) → NeverDeep (read (Then a b))
unfolding read NeverDeep
then_never a b f g m ts d h =
    elim (bind_err (read a m ts) _ (TooDeep d) h) [
      | inl e ↦ f m ts d e
      | inr q ↦ elim (bind_err (read b q.1 q.2) _ (TooDeep d) q.4) [ inl e ↦ g q.1 q.2 d e | inr z ↦ absurd (let w = z.4 in cc) ]
    ]

either_never : {A : Type 0} (a b : Syntax A) → NeverDeep (read a) → NeverDeep (read b) → NeverDeep (read (Either a b))
unfolding read NeverDeep
either_never a b f g m ts d h = elim (chosen (starts (first a) ts) _ _ _ h) [ inl c ↦ f m ts d c.1 | inr c ↦ g m ts d c.1 ]

never_deep : {A : Type 0} (s : Syntax A) → NeverDeep (read (free s))
unfolding free read NeverDeep
never_deep (Past a) m ts d h = never_deep a m ts d h
never_deep (Token k) m ts d h = token_never k m ts d h
never_deep (Nesting k) m ts d h = token_never k m ts d h
never_deep (Whole a) m ts d h = never_deep a m ts d h
never_deep (Known fs ms a) m ts d h = never_deep a m ts d h
never_deep (Then a b) m ts d h = then_never (free a) (free b) (never_deep a) (never_deep b) m ts d h
never_deep (Map f a) m ts d h = elim (bind_err (read (free a) m ts) _ (TooDeep d) h) [ inl e ↦ never_deep a m ts d e | inr z ↦ absurd (let w = z.4 in cc) ]
never_deep (Either a b) m ts d h = either_never (free a) (free b) (never_deep a) (never_deep b) m ts d h
never_deep (Maybe a) m ts d h =
    elim (chosen (starts (first (free a)) ts) _ _ _ h) [
      | inl c ↦ elim (bind_err (read (free a) m ts) _ (TooDeep d) c.1) [ inl e ↦ never_deep a m ts d e | inr z ↦ absurd (let w = z.4 in cc) ]
      | inr c ↦ absurd (let w = c.1 in cc)
    ]
never_deep (Many a) m ts d h = repeated_never (read (free a)) (first (free a)) (never_deep a) (length ts) m ts d h
never_deep (Fork ks a b c) m ts d h = then_never (free a) (Either (free b) (free c)) (never_deep a) (either_never (free b) (free c) (never_deep b) (never_deep c)) m ts d h

-- ---- one front

reads_free : {A : Type 0} (s : Syntax A) → is_fine s ≡ true → (u : List Lexeme) (x : A) (rest : List Lexeme) → Spells s u x → starts (more s) rest ≡ false → (i : ℕ) × (read (free s) max_nestings (u ++ rest) ≡ Ok (x, i, rest))
unfolding NeverDeep
reads_free s fine u x rest h stop =
    let f = free_is s fine in
    let stop' : starts (more (free s)) rest ≡ false = ap (λ (ks : List Terminal). starts ks rest) f.2 ∙ stop in
    elim (complete (free s) f.3 max_nestings u x rest (spells_free s u x h) stop') [
      | inl e ↦ e
      | inr e ↦ absurd (never_deep s max_nestings (u ++ rest) e.0 e.1)
    ]

-- a text begins with one sentence that what follows it does not go on, and that has one value
pub unique : {A : Type 0} (s : Syntax A) → is_fine s ≡ true → (u v : List Lexeme) (x y : A) (rest after : List Lexeme) → Spells s u x → Spells s v y → starts (more s) rest ≡ false → starts (more s) after ≡ false
    → u ++ rest ≡ v ++ after → (u ≡ v) × (rest ≡ after) × (x ≡ y)
unique s fine u v x y rest after h g stop stops e =
    let p = reads_free s fine u x rest h stop in
    let q = reads_free s fine v y after g stops in
    let same = done_is x y p.0 q.0 rest after (sym p.1 ∙ ap (λ (w : List Lexeme). read (free s) max_nestings w) e ∙ q.1) in
    (append_cancel_right u v rest (e ∙ ap (λ (w : List Lexeme). v ++ w) (sym same.2)), same.2, same.0)

-- ---- the longest front

begins_back : {A : Type 0} (s : Syntax A) (p : List Lexeme) → Begins (free s) p → Begins s p
begins_back s p b = (b.0, b.1, spells_back s (p ++ b.0) b.1 b.2)

begins_free : {A : Type 0} (s : Syntax A) (p : List Lexeme) → Begins s p → Begins (free s) p
begins_free s p b = (b.0, b.1, spells_free s (p ++ b.0) b.1 b.2)

all_deep : {A : Type 0} (s : Syntax A) (ts d : List Lexeme) → read_all (free s) ts ≡ Err (TooDeep d) → ⊥
unfolding read_all NeverDeep
all_deep {A} s ts d h = by (read (free s) max_nestings ts) refl h
  where
    by : (o : Outcome A) → read (free s) max_nestings ts ≡ o → all_read o ≡ Err (TooDeep d) → ⊥
    by (Ok (x, i, [])) is e = absurd cc
    by (Ok (x, i, (t ∷ rest))) is e = let c : Unexpected (t ∷ rest) ≡ TooDeep d = cc in absurd cc
    by (Err c) is e = let k : c ≡ TooDeep d = cc in never_deep s max_nestings ts d (is ∙ ap (λ z. Err z) k)

pub has_front : {A : Type 0} (s : Syntax A) → is_fine s ≡ true → (ts : List Lexeme) → (p : List Lexeme) × (rest : List Lexeme) × IsLongestFront s ts p rest
has_front {A} s fine ts = by (read_all (free s) ts) refl
  where
    misfit : (rest : List Lexeme) → IsFirstMisfit (free s) ts rest → (p : List Lexeme) × (rest : List Lexeme) × IsLongestFront s ts p rest
    misfit [] h = (ts, [], (sym (append-nil ts), begins_back s ts h.0, tt))
    misfit (t ∷ rest) h = (h.0, t ∷ rest, (h.1, begins_back s h.0 h.2, λ b. h.3 (begins_free s (h.0 ++ t ∷ []) b)))

    by : (o : Result A Refusal) → read_all (free s) ts ≡ o → (p : List Lexeme) × (rest : List Lexeme) × IsLongestFront s ts p rest
    by (Ok x) is =
        let h = spells_back s ts x (read_is_spelled (free s) ts x is) in
        (ts, [], (sym (append-nil ts), ([], x, subst (λ (w : List Lexeme). Spells s w x) (sym (append-nil ts)) h), tt))
    by (Err (Unexpected rest)) is = misfit rest (refused_at (free s) (free_is s fine).3 ts rest is)
    by (Err (TooDeep d)) is = absurd (all_deep s ts d is)
