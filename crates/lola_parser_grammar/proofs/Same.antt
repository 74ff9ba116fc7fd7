-- Two grammars that are read alike, where fewer nestings may come than some number.
use Rattle.std.proofs.Common.{◌≡◌, ℕ, zero, suc, ◌-◌, ◌≤◌, ◌<◌, Bool, true, cond, ◌||◌, ◌&&◌, List, [], ◌∷◌, ◌++◌, length, Option, Some, None, Ok, Err, refl, ap, ◌∙◌, arith, inl, inr}
use Rattle.lola_parser_grammar.specs.Syntax.{Lexeme, Terminal, fits, Syntax, Nesting, Whole, Known, Then, Map, Either, Maybe, Many, Fork, starts, first, nullable, Unexpected, Outcome, Reader, ◌>>=◌, counted, take_nesting, repeated, charged, either_rest, last_nesting, max_nestings, read}
use Rattle.lola_parser_grammar.specs.Nestings.{tallies}
use Rattle.lola_parser_grammar.proofs.Laws.{bind_ok, done_is, chosen}
use Rattle.lola_parser_grammar.proofs.Over.{counts}

-- no more nestings may come after it than before
abbrev pub Spends : {A : Type 0} → Reader A → Type 0
Spends {A} r = (m : ℕ) (ts : List Lexeme) (x : A) (i : ℕ) (rest : List Lexeme) → r m ts ≡ Ok (x, i, rest) → i ≤ m

-- read alike where fewer than k nestings may come
pub record SameBelow {A : Type 0} (k : ℕ) (s t : Syntax A) : Type 0 where
  pub reads : (m : ℕ) (ts : List Lexeme) → m < k → read s m ts ≡ read t m ts
  pub firsts : first s ≡ first t
  pub fulls : nullable s ≡ nullable t
  pub spends : Spends (read s)

-- read alike however many nestings may come
pub record SameAlways {A : Type 0} (s t : Syntax A) : Type 0 where
  pub reads : (m : ℕ) (ts : List Lexeme) → read s m ts ≡ read t m ts
  pub firsts : first s ≡ first t
  pub fulls : nullable s ≡ nullable t

alike : {A B : Type 0} (o : Outcome A) (f g : A → Reader B) → ((x : A) (i : ℕ) (rest : List Lexeme) → o ≡ Ok (x, i, rest) → f x i rest ≡ g x i rest) → (o >>= f) ≡ (o >>= g)
alike (Ok p) f g same = same p.0 p.1 p.2 refl
alike (Err d) f g same = refl

same_cond : {A : Type 0} (c d : Bool) (x y x' y' : A) → c ≡ d → x ≡ x' → y ≡ y' → cond c x y ≡ cond d x' y'
same_cond c d x y x' y' e f g = rw (e, f, g) refl

same_start : (ks ls : List Terminal) (ts : List Lexeme) → ks ≡ ls → starts ks ts ≡ starts ls ts
same_start ks ls ts e = ap (λ (w : List Terminal). starts w ts) e

then_first : (b c : Bool) (fs gs fs' gs' : List Terminal) → b ≡ c → fs ≡ fs' → gs ≡ gs' → cond b (fs ++ gs) fs ≡ cond c (fs' ++ gs') fs'
then_first b c fs gs fs' gs' e f g = rw (e, f, g) refl

both_first : (fs gs fs' gs' : List Terminal) → fs ≡ fs' → gs ≡ gs' → fs ++ gs ≡ fs' ++ gs'
both_first fs gs fs' gs' f g = rw (f, g) refl

both_full : (a b c d : Bool) → a ≡ c → b ≡ d → (a && b) ≡ (c && d)
both_full a b c d e f = rw (e, f) refl

either_full : (a b c d : Bool) → a ≡ c → b ≡ d → (a || b) ≡ (c || d)
either_full a b c d e f = rw (e, f) refl

-- ---- where fewer than k nestings may come

pub tallied_spends : {A : Type 0} (nestings : List Terminal) (s : Syntax A) → tallies nestings s ≡ true → Spends (read s)
tallied_spends nestings s tally m ts x i rest e = let p = counts nestings s tally m ts x i rest e in omega (arith, p.3)

pub same_self : {A : Type 0} (nestings : List Terminal) (s : Syntax A) (k : ℕ) → tallies nestings s ≡ true → SameBelow k s s
same_self nestings s k tally = record { reads = λ m ts low. refl; firsts = refl; fulls = refl; spends = tallied_spends nestings s tally }

pub same_less : {A : Type 0} (k j : ℕ) (s t : Syntax A) → j ≤ k → SameBelow k s t → SameBelow j s t
same_less k j s t le h = record { reads = λ m ts low. h.reads m ts (omega (arith, le, low)); firsts = h.firsts; fulls = h.fulls; spends = h.spends }

map_spends : {A B : Type 0} (f : A → B) (r : Reader A) → Spends r → Spends (λ m ts. r m ts >>= λ x i rest. Ok (f x, i, rest))
map_spends f r h m ts y i rest e =
    let p = bind_ok (r m ts) _ y i rest e in
    let q = done_is (f p.0) y p.1 i p.2 rest p.4 in
    omega (arith, h m ts p.0 p.1 p.2 p.3, q.1)

pub same_map : {A B : Type 0} (f : A → B) (k : ℕ) (s t : Syntax A) → SameBelow k s t → SameBelow k (Map f s) (Map f t)
unfolding read first nullable
same_map f k s t h = record {
  reads = λ m ts low. ap (λ (o : Outcome _). o >>= λ x i rest. Ok (f x, i, rest)) (h.reads m ts low);
  firsts = h.firsts;
  fulls = h.fulls;
  spends = map_spends f (read s) h.spends;
}

pub same_known : {A : Type 0} (fs ms : List Terminal) (k : ℕ) (s t : Syntax A) → SameBelow k s t → SameBelow k (Known fs ms s) (Known fs ms t)
unfolding read first nullable
same_known fs ms k s t h = record { reads = h.reads; firsts = refl; fulls = refl; spends = h.spends }

then_spends : {A B : Type 0} (r : Reader A) (s : Reader B) → Spends r → Spends s → Spends {A = A × B} (λ m ts. r m ts >>= λ x i rest. s i rest >>= λ y j end. Ok ((x, y), j, end))
then_spends r s h g m ts x i rest e =
    let p = bind_ok (r m ts) _ x i rest e in
    let q = bind_ok (s p.1 p.2) _ x i rest p.4 in
    let d = done_is (p.0, q.0) x q.1 i q.2 rest q.4 in
    omega (arith, h m ts p.0 p.1 p.2 p.3, g p.1 p.2 q.0 q.1 q.2 q.3, d.1)

abbrev with_next : {A B : Type 0} → Reader B → A → Reader (A × B)
with_next s x i rest = s i rest >>= λ y j end. Ok ((x, y), j, end)

next_same : {A B : Type 0} (s t : Reader B) (x : A) (i : ℕ) (rest : List Lexeme) → s i rest ≡ t i rest → with_next s x i rest ≡ with_next t x i rest
next_same s t x i rest e = ap (λ (o : Outcome _). o >>= λ y j end. Ok ((x, y), j, end)) e

pub same_then : {A B : Type 0} (k : ℕ) (a a' : Syntax A) (b b' : Syntax B) → SameBelow k a a' → SameBelow k b b' → SameBelow k (Then a b) (Then a' b')
unfolding read first nullable
same_then k a a' b b' h g = record {
  reads = λ m ts low.
      alike (read a m ts) (with_next (read b)) (with_next (read b')) (λ x i rest e. let few : i ≤ m = h.spends m ts x i rest e in next_same (read b) (read b') x i rest (g.reads i rest (omega (arith, few, low))))
      ∙ ap (λ (o : Outcome _). o >>= with_next (read b')) (h.reads m ts low);
  firsts = then_first (nullable a) (nullable a') (first a) (first b) (first a') (first b') h.fulls h.firsts g.firsts;
  fulls = both_full (nullable a) (nullable b) (nullable a') (nullable b') h.fulls g.fulls;
  spends = then_spends (read a) (read b) h.spends g.spends;
}

counted_less : (t : Lexeme) (m : ℕ) (ts : List Lexeme) (x : Lexeme) (i : ℕ) (rest : List Lexeme) → counted t m ts ≡ Ok (x, i, rest) → i < m
counted_less t zero ts x i rest e = absurd cc
counted_less t (suc m) ts x i rest e = let q = done_is t x m i ts rest e in omega (arith, q.1)

nesting_less : (k : Terminal) (m : ℕ) (ts : List Lexeme) (x : Lexeme) (i : ℕ) (rest : List Lexeme) → take_nesting k m ts ≡ Ok (x, i, rest) → i < m
nesting_less k m [] x i rest e = absurd cc
nesting_less k m (t ∷ ts) x i rest e = elim (chosen (fits k t) _ _ _ e) [ inl c ↦ counted_less t m ts x i rest c.1 | inr c ↦ absurd cc ]

with_nestings_less : {A : Type 0} (f : Lexeme → A) (k : Terminal) (m : ℕ) (ts : List Lexeme) (x : A) (i : ℕ) (rest : List Lexeme) → read (Map f (Nesting k)) m ts ≡ Ok (x, i, rest) → i < m
unfolding read
with_nestings_less f k m ts x i rest e =
    let p = bind_ok (take_nesting k m ts) _ x i rest e in
    let q = done_is (f p.0) x p.1 i p.2 rest p.4 in
    let less = nesting_less k m ts p.0 p.1 p.2 p.3 in
    omega (arith, less, q.1)

with_nestings_spends : {A : Type 0} (f : Lexeme → A) (k : Terminal) → Spends (read (Map f (Nesting k)))
with_nestings_spends f k m ts x i rest e = let less = with_nestings_less f k m ts x i rest e in omega (arith, less)

-- behind a nesting one more may come
pub same_behind : {A B : Type 0} (f : Lexeme → A) (t : Terminal) (k : ℕ) (b b' : Syntax B) → SameBelow k b b' → SameBelow (suc k) (Then (Map f (Nesting t)) b) (Then (Map f (Nesting t)) b')
unfolding read first nullable
same_behind f t k b b' g = record {
  reads = λ m ts low. alike (read (Map f (Nesting t)) m ts) (with_next (read b)) (with_next (read b')) (λ x i rest e. let less = with_nestings_less f t m ts x i rest e in next_same (read b) (read b') x i rest (g.reads i rest (omega (arith, less, low))));
  firsts = refl;
  fulls = refl;
  spends = then_spends (read (Map f (Nesting t))) (read b) (with_nestings_spends f t) g.spends;
}

choice_spends : {A : Type 0} (ks : List Terminal) (r s : Reader A) → Spends r → Spends s → Spends (λ m ts. cond (starts ks ts) (r m ts) (s m ts))
choice_spends ks r s h g m ts x i rest e = elim (chosen (starts ks ts) (r m ts) (s m ts) (Ok (x, i, rest)) e) [ inl c ↦ h m ts x i rest c.1 | inr c ↦ g m ts x i rest c.1 ]

pub same_either : {A : Type 0} (k : ℕ) (a a' b b' : Syntax A) → SameBelow k a a' → SameBelow k b b' → SameBelow k (Either a b) (Either a' b')
unfolding read first nullable
same_either k a a' b b' h g = record {
  reads = λ m ts low. same_cond (starts (first a) ts) (starts (first a') ts) (read a m ts) (read b m ts) (read a' m ts) (read b' m ts) (same_start (first a) (first a') ts h.firsts) (h.reads m ts low) (g.reads m ts low);
  firsts = both_first (first a) (first b) (first a') (first b') h.firsts g.firsts;
  fulls = either_full (nullable a) (nullable b) (nullable a') (nullable b') h.fulls g.fulls;
  spends = choice_spends (first a) (read a) (read b) h.spends g.spends;
}

abbrev some_of : {A : Type 0} → Reader A → Reader (Option A)
some_of r m ts = r m ts >>= λ x i rest. Ok (Some x, i, rest)

abbrev none_of : {A : Type 0} → Reader (Option A)
none_of m ts = Ok (None, m, ts)

none_spends : {A : Type 0} → Spends (none_of {A = A})
none_spends {A} m ts x i rest e = let q = done_is {A = Option A} None x m i ts rest e in omega (arith, q.1)

pub same_maybe : {A : Type 0} (k : ℕ) (a a' : Syntax A) → SameBelow k a a' → SameBelow k (Maybe a) (Maybe a')
unfolding read first nullable
same_maybe k a a' h = record {
  reads = λ m ts low. same_cond (starts (first a) ts) (starts (first a') ts) (some_of (read a) m ts) (none_of m ts) (some_of (read a') m ts) (none_of m ts) (same_start (first a) (first a') ts h.firsts) (ap (λ (o : Outcome _). o >>= λ x i rest. Ok (Some x, i, rest)) (h.reads m ts low)) refl;
  firsts = h.firsts;
  fulls = refl;
  spends = choice_spends (first a) (some_of (read a)) none_of (map_spends (λ x. Some x) (read a) h.spends) none_spends;
}

abbrev with_rest : {A : Type 0} → (ℕ → Reader (List A)) → ℕ → A → Reader (List A)
with_rest r n x i rest = r n i rest >>= λ xs j end. Ok (x ∷ xs, j, end)

repeated_spends : {A : Type 0} (r : Reader A) (ks : List Terminal) → Spends r → (n : ℕ) → Spends (repeated r ks n)
repeated_spends {A} r ks h zero m ts x i rest e = let q = done_is {A = List A} [] x m i ts rest e in omega (arith, q.1)
repeated_spends {A} r ks h (suc n) m ts x i rest e =
    elim (chosen (starts ks ts) _ _ _ e) [
      | inl c ↦
          let p = bind_ok (r m ts) _ x i rest c.1 in
          let q = bind_ok (repeated r ks n p.1 p.2) _ x i rest p.4 in
          let d = done_is (p.0 ∷ q.0) x q.1 i q.2 rest q.4 in
          omega (arith, h m ts p.0 p.1 p.2 p.3, repeated_spends r ks h n p.1 p.2 q.0 q.1 q.2 q.3, d.1)
      | inr c ↦ let q = done_is {A = List A} [] x m i ts rest c.1 in omega (arith, q.1)
    ]

repeated_same : {A : Type 0} (r s : Reader A) (ks : List Terminal) (k : ℕ) → Spends r → ((m : ℕ) (ts : List Lexeme) → m < k → r m ts ≡ s m ts) → (n m : ℕ) (ts : List Lexeme) → m < k → repeated r ks n m ts ≡ repeated s ks n m ts
repeated_same r s ks k h same zero m ts low = refl
repeated_same {A} r s ks k h same (suc n) m ts low =
    ap (λ (o : Outcome (List A)). cond (starts ks ts) o (Ok ([], m, ts)))
    (alike (r m ts) (with_rest (repeated r ks) n) (with_rest (repeated s ks) n) (λ x i rest e. let few = h m ts x i rest e in ap (λ (o : Outcome (List A)). o >>= λ xs j end. Ok (x ∷ xs, j, end)) (repeated_same r s ks k h same n i rest (omega (arith, few, low))))
    ∙ ap (λ (o : Outcome A). o >>= with_rest (repeated s ks) n) (same m ts low))

pub same_many : {A : Type 0} (k : ℕ) (a a' : Syntax A) → SameBelow k a a' → SameBelow k (Many a) (Many a')
unfolding read first nullable
same_many k a a' h = record {
  reads = λ m ts low. repeated_same (read a) (read a') (first a) k h.spends h.reads (length ts) m ts low ∙ ap (λ (ks : List Terminal). repeated (read a') ks (length ts) m ts) h.firsts;
  firsts = h.firsts;
  fulls = refl;
  spends = λ m ts. repeated_spends (read a) (first a) h.spends (length ts) m ts;
}

-- ---- however many may come

pub always_self : {A : Type 0} (s : Syntax A) → SameAlways s s
always_self s = record { reads = λ m ts. refl; firsts = refl; fulls = refl }

pub always_whole : {A : Type 0} (a a' : Syntax A) → SameBelow (suc max_nestings) a a' → SameAlways (Whole a) (Whole a')
unfolding read first nullable
always_whole a a' h = record { reads = λ m ts. h.reads max_nestings ts (omega arith); firsts = h.firsts; fulls = h.fulls }

pub always_known : {A : Type 0} (fs ms : List Terminal) (a a' : Syntax A) → SameAlways a a' → SameAlways (Known fs ms a) (Known fs ms a')
unfolding read first nullable
always_known fs ms a a' h = record { reads = h.reads; firsts = refl; fulls = refl }

pub always_map : {A B : Type 0} (f : A → B) (s t : Syntax A) → SameAlways s t → SameAlways (Map f s) (Map f t)
unfolding read first nullable
always_map f s t h = record { reads = λ m ts. ap (λ (o : Outcome _). o >>= λ x i rest. Ok (f x, i, rest)) (h.reads m ts); firsts = h.firsts; fulls = h.fulls }

pub always_then : {A B : Type 0} (a a' : Syntax A) (b b' : Syntax B) → SameAlways a a' → SameAlways b b' → SameAlways (Then a b) (Then a' b')
unfolding read first nullable
always_then a a' b b' h g = record {
  reads = λ m ts.
      alike (read a m ts) (with_next (read b)) (with_next (read b')) (λ x i rest e. next_same (read b) (read b') x i rest (g.reads i rest))
      ∙ ap (λ (o : Outcome _). o >>= with_next (read b')) (h.reads m ts);
  firsts = then_first (nullable a) (nullable a') (first a) (first b) (first a') (first b') h.fulls h.firsts g.firsts;
  fulls = both_full (nullable a) (nullable b) (nullable a') (nullable b') h.fulls g.fulls;
}

pub always_either : {A : Type 0} (a a' b b' : Syntax A) → SameAlways a a' → SameAlways b b' → SameAlways (Either a b) (Either a' b')
unfolding read first nullable
always_either a a' b b' h g = record {
  reads = λ m ts. same_cond (starts (first a) ts) (starts (first a') ts) (read a m ts) (read b m ts) (read a' m ts) (read b' m ts) (same_start (first a) (first a') ts h.firsts) (h.reads m ts) (g.reads m ts);
  firsts = both_first (first a) (first b) (first a') (first b') h.firsts g.firsts;
  fulls = either_full (nullable a) (nullable b) (nullable a') (nullable b') h.fulls g.fulls;
}

pub always_maybe : {A : Type 0} (a a' : Syntax A) → SameAlways a a' → SameAlways (Maybe a) (Maybe a')
unfolding read first nullable
always_maybe a a' h = record {
  reads = λ m ts. same_cond (starts (first a) ts) (starts (first a') ts) (some_of (read a) m ts) (none_of m ts) (some_of (read a') m ts) (none_of m ts) (same_start (first a) (first a') ts h.firsts) (ap (λ (o : Outcome _). o >>= λ x i rest. Ok (Some x, i, rest)) (h.reads m ts)) refl;
  firsts = h.firsts;
  fulls = refl;
}

always_repeated : {A : Type 0} (r s : Reader A) (ks : List Terminal) → ((m : ℕ) (ts : List Lexeme) → r m ts ≡ s m ts) → (n m : ℕ) (ts : List Lexeme) → repeated r ks n m ts ≡ repeated s ks n m ts
always_repeated r s ks same zero m ts = refl
always_repeated {A} r s ks same (suc n) m ts =
    ap (λ (o : Outcome (List A)). cond (starts ks ts) o (Ok ([], m, ts)))
    (alike (r m ts) (with_rest (repeated r ks) n) (with_rest (repeated s ks) n) (λ x i rest e. ap (λ (o : Outcome (List A)). o >>= λ xs j end. Ok (x ∷ xs, j, end)) (always_repeated r s ks same n i rest))
    ∙ ap (λ (o : Outcome A). o >>= with_rest (repeated s ks) n) (same m ts))

pub always_many : {A : Type 0} (a a' : Syntax A) → SameAlways a a' → SameAlways (Many a) (Many a')
unfolding read first nullable
always_many a a' h = record {
  reads = λ m ts. always_repeated (read a) (read a') (first a) h.reads (length ts) m ts ∙ ap (λ (ks : List Terminal). repeated (read a') ks (length ts) m ts) h.firsts;
  firsts = h.firsts;
  fulls = refl;
}

charged_same : {A : Type 0} (k : ℕ) (deep : List Lexeme) (r s : Reader A) → ((m : ℕ) (ts : List Lexeme) → m < k → r m ts ≡ s m ts) → (i : ℕ) (ts : List Lexeme) → i < k → charged deep r i ts ≡ charged deep s i ts
charged_same k deep r s same zero ts low = refl
charged_same k deep r s same (suc m) ts low = same m ts (omega (arith, low))

pub always_fork : {A B : Type 0} (ks : List Terminal) (a a' : Syntax A) (b b' c c' : Syntax B) → SameBelow (suc max_nestings) a a' → SameAlways b b' → SameBelow (suc max_nestings) c c' → SameAlways (Fork ks a b c) (Fork ks a' b' c')
unfolding read first nullable
always_fork {A} {B} ks a a' b b' c c' h g f = record {
  reads = λ m ts.
      let deep = λ (rest : List Lexeme). last_nesting ks (length ts - length rest) rest ts in
      let one : ℕ → List Lexeme → Outcome B = λ i rest. either_rest (first b) (read b) (first c) (charged (deep rest) (read c)) i rest in
      let two : ℕ → List Lexeme → Outcome B = λ i rest. either_rest (first b') (read b') (first c') (charged (deep rest) (read c')) i rest in
      let same : (i : ℕ) (rest : List Lexeme) → i ≤ max_nestings → one i rest ≡ two i rest = λ i rest few.
      same_cond (starts (first b) rest) (starts (first b') rest) (read b i rest) _ (read b' i rest) _ (same_start (first b) (first b') rest g.firsts) (g.reads i rest)
      (same_cond (starts (first c) rest) (starts (first c') rest) (charged (deep rest) (read c) i rest) (Err (Unexpected rest)) (charged (deep rest) (read c') i rest) (Err (Unexpected rest)) (same_start (first c) (first c') rest f.firsts) (charged_same (suc max_nestings) (deep rest) (read c) (read c') f.reads i rest (omega (arith, few))) refl) in
      alike (read a max_nestings ts) (λ x i rest. one i rest >>= λ y j end. Ok ((x, y), j, end)) (λ x i rest. two i rest >>= λ y j end. Ok ((x, y), j, end)) (λ x i rest e. let few = h.spends max_nestings ts x i rest e in ap (λ (o : Outcome B). o >>= λ y j end. Ok ((x, y), j, end)) (same i rest few))
      ∙ ap (λ (o : Outcome A). o >>= λ x i rest. two i rest >>= λ y j end. Ok ((x, y), j, end)) (h.reads max_nestings ts (omega arith));
  firsts = h.firsts;
  fulls = refl;
}
