-- What is spelled so is read, if one token ahead is enough to choose.
use Rattle.std.proofs.Common.{◌≡◌, ℕ, zero, suc, ◌-◌, ◌≤◌, Bool, true, false, cond, not, ◌&&◌, List, [], ◌∷◌, ◌++◌, length, Some, None, Ok, Err, refl, sym, ap, subst, ◌∙◌, append_assoc, arith, inl, inr, ◌⊎◌}
use Rattle.std.proofs.lemmas.List.{length-append}
use Rattle.std.proofs.lemmas.Bool.{and_parts, or_left, not-true, false_from_ne_true}
use Rattle.lola_parser_grammar.specs.Syntax.{Lexeme, Terminal, fits, any_fits, Syntax, Past, Token, Nesting, Whole, Known, Then, Map, Either, Maybe, Many, Fork, charged, either_rest, last_nesting, is_rest, Repeats, Spells, starts, first, nullable, more, apart, within, is_fine, TooDeep, Outcome, Reader, ◌>>=◌, counted, max_nestings, repeated, read}
use Rattle.lola_parser_grammar.proofs.Tests.{apart_excludes, any_left, any_right, within_fits}

pub nil_parts : (u v : List Lexeme) → [] ≡ u ++ v → (u ≡ []) × (v ≡ [])
nil_parts [] v e = (refl, sym e)
nil_parts (t ∷ u) v e = absurd cc

abbrev pub pair_parts : Bool → Bool → Bool → Type 0
pair_parts a b c = (a ≡ true) × (b ≡ true) × (c ≡ true)

pub and_three : (a b c : Bool) → (a && (b && c)) ≡ true → pair_parts a b c
and_three a b c e = let f = and_parts a (b && c) e in let g = and_parts b c f.1 in (f.0, g.0, g.1)

pub choice_parts : (a b c d e : Bool) → (a && (b && (not c && (not d && e)))) ≡ true → (a ≡ true) × (b ≡ true) × (c ≡ false) × (d ≡ false) × (e ≡ true)
choice_parts a b c d e h =
    let f = and_three a b (not c && (not d && e)) h in
    let g = and_three (not c) (not d) e f.2 in
    (f.0, f.1, not-true c g.0, not-true d g.1, g.2)

pub known_parts : (a b c d : Bool) → (a && (not b && (c && d))) ≡ true → (a ≡ true) × (b ≡ false) × (c ≡ true) × (d ≡ true)
known_parts a b c d h =
    let f = and_three a (not b) (c && d) h in
    let g = and_parts c d f.2 in
    (f.0, not-true b f.1, g.0, g.1)

-- what a rest is, and what a fork is, by the parts of the test
abbrev pub rest_parts : List Terminal → Bool → Bool → List Terminal → Type 0
rest_parts ms fine empty fs = (fine ≡ true) × (empty ≡ false) × (apart ms fs ≡ true)

pub rest_is : (ms : List Terminal) (fine empty : Bool) (fs : List Terminal) → is_rest ms fine empty fs ≡ true → rest_parts ms fine empty fs
rest_is ms fine empty fs e = let f = and_three fine (not empty) (apart ms fs) e in (f.0, not-true empty f.1, f.2)

pub fork_parts : (a b c d e : Bool) → (a && (not b && (c && (d && e)))) ≡ true → (a ≡ true) × (b ≡ false) × (c ≡ true) × (d ≡ true) × (e ≡ true)
fork_parts a b c d e h =
    let f = and_three a (not b) (c && (d && e)) h in
    let g = and_three c d e f.2 in
    (f.0, not-true b f.1, g.0, g.1, g.2)

pub record ForkParts {A B : Type 0} (a : Syntax A) (b c : Syntax B) : Type 0 where
  pub head : is_fine a ≡ true
  pub some : nullable a ≡ false
  pub one : rest_parts (more a) (is_fine b) (nullable b) (first b)
  pub two : rest_parts (more a) (is_fine c) (nullable c) (first c)
  pub clear : apart (first b) (first c) ≡ true

pub fork_is : {A B : Type 0} (ks : List Terminal) (a : Syntax A) (b c : Syntax B) → is_fine (Fork ks a b c) ≡ true → ForkParts a b c
unfolding is_fine
fork_is ks a b c fine =
    let f = fork_parts (is_fine a) (nullable a) (is_rest (more a) (is_fine b) (nullable b) (first b)) (is_rest (more a) (is_fine c) (nullable c) (first c)) (apart (first b) (first c)) fine in
    record { head = f.0; some = f.1; one = rest_is (more a) (is_fine b) (nullable b) (first b) f.2; two = rest_is (more a) (is_fine c) (nullable c) (first c) f.3; clear = f.4 }

pub spells_nil : {A : Type 0} (s : Syntax A) → is_fine s ≡ true → (x : A) → Spells s [] x → nullable s ≡ true
unfolding Spells nullable is_fine
spells_nil (Past a) fine x h = spells_nil a fine x h
spells_nil (Token k) fine x h = absurd (let e = h.0 in cc)
spells_nil (Nesting k) fine x h = absurd (let e = h.0 in cc)
spells_nil (Whole a) fine x h = spells_nil a fine x h
spells_nil (Known fs ms a) fine x h =
    let f = known_parts (is_fine a) (nullable a) (within (first a) fs) (within (more a) ms) fine in
    absurd (let e = spells_nil a f.0 x h in let d = f.1 in cc)
spells_nil (Then a b) fine x h =
    let f = and_three (is_fine a) (is_fine b) (apart (more a) (first b)) fine in
    let p = nil_parts h.0 h.1 h.2 in
    rw (spells_nil a f.0 x.0 (subst (λ u. Spells a u x.0) p.0 h.3), spells_nil b f.1 x.1 (subst (λ u. Spells b u x.1) p.1 h.4)) refl
spells_nil (Map f a) fine x h = spells_nil a fine h.0 h.2
spells_nil (Either a b) fine x (inl h) =
    let f = choice_parts (is_fine a) (is_fine b) (nullable a) (nullable b) (apart (first a) (first b)) fine in
    absurd (let e = spells_nil a f.0 x h in let d = f.2 in cc)
spells_nil (Either a b) fine x (inr h) =
    let f = choice_parts (is_fine a) (is_fine b) (nullable a) (nullable b) (apart (first a) (first b)) fine in
    absurd (let e = spells_nil b f.1 x h in let d = f.3 in cc)
spells_nil (Maybe a) fine x h = refl
spells_nil (Many a) fine x h = refl
spells_nil (Fork ks a b c) fine x h =
    let f = fork_is ks a b c fine in
    let p = nil_parts h.0 h.1 h.2 in
    absurd (let e = spells_nil a f.head x.0 (subst (λ u. Spells a u x.0) p.0 h.3) in let d = f.some in cc)

cons_parts : (t : Lexeme) (ts u v : List Lexeme) → t ∷ ts ≡ u ++ v → ((u ≡ []) × (v ≡ t ∷ ts)) ⊎ ((u' : List Lexeme) × (u ≡ t ∷ u'))
cons_parts t ts [] v e = inl (refl, sym e)
cons_parts t ts (w ∷ u) v e = let q : w ≡ t = cc in inr (u, ap (λ (x : Lexeme). x ∷ u) q)

pub repeats_begin : {A : Type 0} (P : List Lexeme → A → Type 0) (ks : List Terminal) (each : (t : Lexeme) (ts : List Lexeme) (x : A) → P (t ∷ ts) x → any_fits ks t ≡ true) (t : Lexeme) (ts : List Lexeme) (xs : List A)
    → Repeats P (t ∷ ts) xs → any_fits ks t ≡ true
repeats_begin P ks each t ts [] h = absurd cc
repeats_begin P ks each t ts (x ∷ xs) h =
    elim (cons_parts t ts h.0 h.1 h.2) [
      | inl p ↦ repeats_begin P ks each t ts xs (subst (λ u. Repeats P u xs) p.1 h.4)
      | inr p ↦ each t p.0 x (subst (λ u. P u x) p.1 h.3)
    ]

pub begins : {A : Type 0} (s : Syntax A) → is_fine s ≡ true → (t : Lexeme) (ts : List Lexeme) (x : A) → Spells s (t ∷ ts) x → any_fits (first s) t ≡ true
unfolding Spells first is_fine
begins (Past a) fine t ts x h = begins a fine t ts x h
begins (Token k) fine t ts x h = let e : x ≡ t = (let d = h.0 in cc) in or_left (fits k t) false (subst (λ w. fits k w ≡ true) e h.1)
begins (Nesting k) fine t ts x h = let e : x ≡ t = (let d = h.0 in cc) in or_left (fits k t) false (subst (λ w. fits k w ≡ true) e h.1)
begins (Whole a) fine t ts x h = begins a fine t ts x h
begins (Known fs ms a) fine t ts x h =
    let f = known_parts (is_fine a) (nullable a) (within (first a) fs) (within (more a) ms) fine in
    within_fits (first a) fs t f.2 (begins a f.0 t ts x h)
begins (Then a b) fine t ts x h =
    let f = and_three (is_fine a) (is_fine b) (apart (more a) (first b)) fine in
    elim (cons_parts t ts h.0 h.1 h.2) [
      | inl p ↦
          rw (spells_nil a f.0 x.0 (subst (λ u. Spells a u x.0) p.0 h.3)) (any_right (first a) (first b) t (begins b f.1 t ts x.1 (subst (λ u. Spells b u x.1) p.1 h.4)))
      | inr p ↦
          let one = begins a f.0 t p.0 x.0 (subst (λ u. Spells a u x.0) p.1 h.3) in
          let P : Bool → Type 0 = λ c. any_fits (cond c (first a ++ first b) (first a)) t ≡ true in
          elim (nullable a) as P [ true ↦ any_left (first a) (first b) t one | false ↦ one ]
    ]
begins (Map f a) fine t ts x h = begins a fine t ts h.0 h.2
begins (Either a b) fine t ts x (inl h) =
    let f = choice_parts (is_fine a) (is_fine b) (nullable a) (nullable b) (apart (first a) (first b)) fine in
    any_left (first a) (first b) t (begins a f.0 t ts x h)
begins (Either a b) fine t ts x (inr h) =
    let f = choice_parts (is_fine a) (is_fine b) (nullable a) (nullable b) (apart (first a) (first b)) fine in
    any_right (first a) (first b) t (begins b f.1 t ts x h)
begins (Maybe a) fine t ts (Some x) h = begins a (and_parts (is_fine a) (not (nullable a)) fine).0 t ts x h
begins (Maybe a) fine t ts None h = absurd cc
begins (Many a) fine t ts x h = repeats_begin (Spells a) (first a) (begins a (and_parts (is_fine a) (not (nullable a) && apart (more a) (first a)) fine).0) t ts x h
begins (Fork ks a b c) fine t ts x h =
    let f = fork_is ks a b c fine in
    elim (cons_parts t ts h.0 h.1 h.2) [
      | inl p ↦ absurd (let e = spells_nil a f.head x.0 (subst (λ u. Spells a u x.0) p.0 h.3) in let d = f.some in cc)
      | inr p ↦ begins a f.head t p.0 x.0 (subst (λ u. Spells a u x.0) p.1 h.3)
    ]

-- ---- reading

abbrev pub OkOrDeep : {A : Type 0} → Outcome A → A → List Lexeme → Type 0
OkOrDeep r x rest = ((i : ℕ) × (r ≡ Ok (x, i, rest))) ⊎ ((d : List Lexeme) × (r ≡ Err (TooDeep d)))

bind_again : {A B : Type 0} (r : Outcome A) (f : A → Reader B) (x : A) (mid : List Lexeme) (y : B) (rest : List Lexeme) → OkOrDeep r x mid → ((i : ℕ) → OkOrDeep (f x i mid) y rest) → OkOrDeep (r >>= f) y rest
bind_again r f x mid y rest (inl e) next = rw e.1 (next e.0)
bind_again r f x mid y rest (inr d) next = inr (d.0, rw d.1 refl)

pub any_split : (ks ls : List Terminal) (rest : List Lexeme) → starts (ks ++ ls) rest ≡ false → (starts ks rest ≡ false) × (starts ls rest ≡ false)
any_split ks ls [] h = (refl, refl)
any_split ks ls (t ∷ ts) h =
    (false_from_ne_true (any_fits ks t) (λ e. let d = any_left ks ls t e in absurd cc), false_from_ne_true (any_fits ls t) (λ e. let d = any_right ks ls t e in absurd cc))

-- what follows a sentence of a, where one of b and then the rest comes
pub follows : {B : Type 0} (ks : List Terminal) (b : Syntax B) → is_fine b ≡ true → (w : List Lexeme) (y : B) (rest : List Lexeme) → apart ks (first b) ≡ true → Spells b w y → (nullable b ≡ true → starts ks rest ≡ false) → starts ks (w ++ rest) ≡ false
follows ks b fine [] y rest a h e = e (spells_nil b fine y h)
follows ks b fine (t ∷ w) y rest a h e = false_from_ne_true (any_fits ks t) (λ c. apart_excludes ks (first b) t a c (begins b fine t w y h))

pub tail_stops : (n : Bool) (ks ls : List Terminal) (rest : List Lexeme) → starts (cond n (ks ++ ls) ks) rest ≡ false → (starts ks rest ≡ false) × (n ≡ true → starts ls rest ≡ false)
tail_stops true ks ls rest h = let p = any_split ks ls rest h in (p.0, λ e. p.1)
tail_stops false ks ls rest h = (h, λ e. absurd cc)

abbrev IsComplete : {A : Type 0} → Reader A → (List Lexeme → A → Type 0) → List Terminal → Type 0
IsComplete {A} r P ks = (m : ℕ) (u : List Lexeme) (x : A) (rest : List Lexeme) → P u x → starts ks rest ≡ false → OkOrDeep (r m (u ++ rest)) x rest

-- what Many needs of its part
record Part {A : Type 0} (r : Reader A) (P : List Lexeme → A → Type 0) (firsts mores : List Terminal) : Type 0 where
  whole : IsComplete r P mores
  some : (x : A) → P [] x → ⊥
  opens : (t : Lexeme) (ts : List Lexeme) (x : A) → P (t ∷ ts) x → any_fits firsts t ≡ true
  clear : apart mores firsts ≡ true

one_more : {A : Type 0} (r : Reader A) (P : List Lexeme → A → Type 0) (firsts mores : List Terminal) → Part r P firsts mores → (n m : ℕ) (u v : List Lexeme) (x : A) (xs : List A) (rest : List Lexeme)
    → length (u ++ (v ++ rest)) ≤ suc n → P u x → Repeats P v xs → starts (firsts ++ mores) rest ≡ false
    → (length (v ++ rest) ≤ n → (i : ℕ) → OkOrDeep (repeated r firsts n i (v ++ rest)) xs rest)
    → OkOrDeep (repeated r firsts (suc n) m (u ++ (v ++ rest))) (x ∷ xs) rest
one_more r P firsts mores part n m [] v x xs rest le h hs stop next = absurd (part.some x h)
one_more {A} r P firsts mores part n m (t ∷ u) v x xs rest le h hs stop next =
    let opens : starts firsts (t ∷ u ++ (v ++ rest)) ≡ true = part.opens t u x h in
    let shorter : length (v ++ rest) ≤ n = omega (arith, le, length-append u (v ++ rest)) in
    let clear : starts mores (v ++ rest) ≡ false = behind v hs in
    let one : OkOrDeep (r m ((t ∷ u) ++ (v ++ rest))) x (v ++ rest) = part.whole m (t ∷ u) x (v ++ rest) h clear in
    let two : (i : ℕ) → OkOrDeep (repeated r firsts n i (v ++ rest) >>= λ ys j end. Ok (x ∷ ys, j, end)) (x ∷ xs) rest =
    λ i. bind_again (repeated r firsts n i (v ++ rest)) (λ ys j end. Ok (x ∷ ys, j, end)) xs rest (x ∷ xs) rest (next shorter i) (λ j. inl (j, refl)) in
    rw opens (bind_again (r m ((t ∷ u) ++ (v ++ rest))) (λ y i end. repeated r firsts n i end >>= λ ys j end. Ok (y ∷ ys, j, end)) x (v ++ rest) (x ∷ xs) rest one two)
  where
    behind : (w : List Lexeme) → Repeats P w xs → starts mores (w ++ rest) ≡ false
    behind [] gs = (any_split firsts mores rest stop).1
    behind (s ∷ w) gs = false_from_ne_true (any_fits mores s) (λ c. apart_excludes mores firsts s part.clear c (repeats_begin P firsts part.opens s w xs gs))

repeated_complete : {A : Type 0} (r : Reader A) (P : List Lexeme → A → Type 0) (firsts mores : List Terminal) → Part r P firsts mores → (n m : ℕ) (u : List Lexeme) (xs : List A) (rest : List Lexeme)
    → length (u ++ rest) ≤ n → Repeats P u xs → starts (firsts ++ mores) rest ≡ false → OkOrDeep (repeated r firsts n m (u ++ rest)) xs rest
repeated_complete r P firsts mores part zero m u [] rest le h stop = inl (m, rw h refl)
repeated_complete r P firsts mores part (suc n) m u [] rest le h stop = rw (h, (any_split firsts mores rest stop).0) (inl (m, refl))
repeated_complete r P firsts mores part zero m u (x ∷ xs) rest le h stop = absurd (none h.0 h.3 (omega (arith, le, ap length (h.2), length-append u rest, length-append h.0 h.1)))
  where
    none : (v : List Lexeme) → P v x → length v ≤ 0 → ⊥
    none [] g e = part.some x g
    none (t ∷ v) g e = omega (arith, e)
repeated_complete r P firsts mores part (suc n) m u (x ∷ xs) rest le h stop =
    let regrouped : u ++ rest ≡ h.0 ++ (h.1 ++ rest) = ap (λ (w : List Lexeme). w ++ rest) h.2 ∙ append_assoc h.0 h.1 rest in
    let fits : length (h.0 ++ (h.1 ++ rest)) ≤ suc n = rw (← regrouped) le in
    let next : length (h.1 ++ rest) ≤ n → (i : ℕ) → OkOrDeep (repeated r firsts n i (h.1 ++ rest)) xs rest = λ shorter i. repeated_complete r P firsts mores part n i h.1 xs rest shorter h.4 stop in
    rw regrouped (one_more r P firsts mores part n m h.0 h.1 x xs rest fits h.3 h.4 stop next)

nesting_read : (t : Lexeme) (m : ℕ) (rest : List Lexeme) → OkOrDeep (counted t m rest) t rest
nesting_read t zero rest = inr (t ∷ rest, refl)
nesting_read t (suc m) rest = inl (m, refl)

pub stops_within : (ks ls : List Terminal) (rest : List Lexeme) → within ks ls ≡ true → starts ls rest ≡ false → starts ks rest ≡ false
stops_within ks ls [] e h = refl
stops_within ks ls (t ∷ rest) e h = false_from_ne_true (any_fits ks t) (λ c. let d = within_fits ks ls t e c in absurd cc)

charged_complete : {A : Type 0} (deep : List Lexeme) (r : Reader A) (P : List Lexeme → A → Type 0) (ks : List Terminal) → IsComplete r P ks → IsComplete (charged deep r) P ks
charged_complete deep r P ks one zero u x rest h stop = inr (deep, refl)
charged_complete deep r P ks one (suc m) u x rest h stop = one m u x rest h stop

-- a part that always has a token
record Rest {A : Type 0} (r : Reader A) (P : List Lexeme → A → Type 0) (firsts mores : List Terminal) : Type 0 where
  whole : IsComplete r P mores
  some : (x : A) → P [] x → ⊥
  opens : (t : Lexeme) (ts : List Lexeme) (x : A) → P (t ∷ ts) x → any_fits firsts t ≡ true

rest_complete : {A : Type 0} (fs gs ks ls : List Terminal) (r s : Reader A) (P Q : List Lexeme → A → Type 0) → Rest r P fs ks → Rest s Q gs ls → apart fs gs ≡ true
    → (m : ℕ) (u : List Lexeme) (x : A) (rest : List Lexeme) → (P u x ⊎ Q u x) → starts ks rest ≡ false → starts ls rest ≡ false → OkOrDeep (either_rest fs r gs s m (u ++ rest)) x rest
rest_complete fs gs ks ls r s P Q one two a m [] x rest (inl h) stop stop' = absurd (one.some x h)
rest_complete fs gs ks ls r s P Q one two a m [] x rest (inr h) stop stop' = absurd (two.some x h)
rest_complete fs gs ks ls r s P Q one two a m (t ∷ u) x rest (inl h) stop stop' = rw (one.opens t u x h) (one.whole m (t ∷ u) x rest h stop)
rest_complete fs gs ks ls r s P Q one two a m (t ∷ u) x rest (inr h) stop stop' =
    let misses : any_fits fs t ≡ false = false_from_ne_true (any_fits fs t) (λ c. apart_excludes fs gs t a c (two.opens t u x h)) in
    rw (misses, two.opens t u x h) (two.whole m (t ∷ u) x rest h stop')

pub full_is : {A : Type 0} (s : Syntax A) → is_fine s ≡ true → nullable s ≡ false → (x : A) → Spells s [] x → ⊥
full_is s fine full x h = let e = spells_nil s fine x h in let d : true ≡ false = cc in cc

-- what follows the first part of a fork
pub fork_follows : {B : Type 0} (ks : List Terminal) (b c : Syntax B) → rest_parts ks (is_fine b) (nullable b) (first b) → rest_parts ks (is_fine c) (nullable c) (first c)
    → (v : List Lexeme) (y : B) (rest : List Lexeme) → (Spells b v y ⊎ Spells c v y) → starts ks (v ++ rest) ≡ false
fork_follows ks b c f g v y rest (inl h) = follows ks b f.0 v y rest f.2 h (λ e. let d = f.1 in absurd cc)
fork_follows ks b c f g v y rest (inr h) = follows ks c g.0 v y rest g.2 h (λ e. let d = g.1 in absurd cc)

pub complete : {A : Type 0} (s : Syntax A) → is_fine s ≡ true → IsComplete (read s) (Spells s) (more s)
unfolding read Spells more is_fine nullable first
complete (Past a) fine m u x rest h stop = inr (u ++ rest, refl)
complete (Token k) fine m u x rest h stop = inl (m, rw (h.0, h.1) refl)
complete (Nesting k) fine m u x rest h stop = rw (h.0, h.1) (nesting_read x m rest)
complete (Whole a) fine m u x rest h stop = complete a fine max_nestings u x rest h stop
complete (Known fs ms a) fine m u x rest h stop =
    let f = known_parts (is_fine a) (nullable a) (within (first a) fs) (within (more a) ms) fine in
    complete a f.0 m u x rest h (stops_within (more a) ms rest f.3 stop)
complete (Then a b) fine m u x rest h stop =
    let f = and_three (is_fine a) (is_fine b) (apart (more a) (first b)) fine in
    let t = tail_stops (nullable b) (more b) (more a) rest stop in
    let clear : starts (more a) (h.1 ++ rest) ≡ false = follows (more a) b f.1 h.1 x.1 rest f.2 h.4 t.1 in
    let one = complete a f.0 m h.0 x.0 (h.1 ++ rest) h.3 clear in
    let two : (i : ℕ) → OkOrDeep (read b i (h.1 ++ rest) >>= λ z j end. Ok ((x.0, z), j, end)) x rest =
    λ i. bind_again (read b i (h.1 ++ rest)) (λ z j end. Ok ((x.0, z), j, end)) x.1 rest x rest (complete b f.1 i h.1 x.1 rest h.4 t.0) (λ j. inl (j, refl)) in
    let regrouped : u ++ rest ≡ h.0 ++ (h.1 ++ rest) = ap (λ (w : List Lexeme). w ++ rest) h.2 ∙ append_assoc h.0 h.1 rest in
    rw regrouped (bind_again (read a m (h.0 ++ (h.1 ++ rest))) (λ y i end. read b i end >>= λ z j end. Ok ((y, z), j, end)) x.0 (h.1 ++ rest) x rest one two)
complete (Map f a) fine m u y rest h stop =
    let one = complete a fine m u h.0 rest h.2 stop in
    bind_again (read a m (u ++ rest)) (λ x i end. Ok (f x, i, end)) h.0 rest y rest one (λ i. inl (i, rw (← h.1) refl))
complete (Either a b) fine m [] x rest (inl h) stop =
    let f = choice_parts (is_fine a) (is_fine b) (nullable a) (nullable b) (apart (first a) (first b)) fine in
    absurd (let e = spells_nil a f.0 x h in let d = f.2 in cc)
complete (Either a b) fine m [] x rest (inr h) stop =
    let f = choice_parts (is_fine a) (is_fine b) (nullable a) (nullable b) (apart (first a) (first b)) fine in
    absurd (let e = spells_nil b f.1 x h in let d = f.3 in cc)
complete (Either a b) fine m (t ∷ u) x rest (inl h) stop =
    let f = choice_parts (is_fine a) (is_fine b) (nullable a) (nullable b) (apart (first a) (first b)) fine in
    rw (begins a f.0 t u x h) (complete a f.0 m (t ∷ u) x rest h (any_split (more a) (more b) rest stop).0)
complete (Either a b) fine m (t ∷ u) x rest (inr h) stop =
    let f = choice_parts (is_fine a) (is_fine b) (nullable a) (nullable b) (apart (first a) (first b)) fine in
    let misses : any_fits (first a) t ≡ false = false_from_ne_true (any_fits (first a) t) (λ c. apart_excludes (first a) (first b) t f.4 c (begins b f.1 t u x h)) in
    rw misses (complete b f.1 m (t ∷ u) x rest h (any_split (more a) (more b) rest stop).1)
complete (Maybe a) fine m u None rest h stop = rw (h, (any_split (first a) (more a) rest stop).0) (inl (m, refl))
complete (Maybe a) fine m [] (Some x) rest h stop =
    let f = and_parts (is_fine a) (not (nullable a)) fine in
    absurd (let e = spells_nil a f.0 x h in let d = not-true (nullable a) f.1 in cc)
complete (Maybe a) fine m (t ∷ u) (Some x) rest h stop =
    let f = and_parts (is_fine a) (not (nullable a)) fine in
    let one = complete a f.0 m (t ∷ u) x rest h (any_split (first a) (more a) rest stop).1 in
    rw (begins a f.0 t u x h) (bind_again (read a m ((t ∷ u) ++ rest)) (λ y i end. Ok (Some y, i, end)) x rest (Some x) rest one (λ i. inl (i, refl)))
complete (Many a) fine m u x rest h stop =
    let f = and_three (is_fine a) (not (nullable a)) (apart (more a) (first a)) fine in
    let part : Part (read a) (Spells a) (first a) (more a) = record { whole = complete a f.0; some = λ y k. (let e = spells_nil a f.0 y k in let d = not-true (nullable a) f.1 in absurd cc); opens = begins a f.0; clear = f.2 } in
    repeated_complete (read a) (Spells a) (first a) (more a) part (length (u ++ rest)) m u x rest (omega arith) h stop
complete (Fork ks a b c) fine m u x rest h stop =
    let f = fork_is ks a b c fine in
    let s = any_split (more b) (more c) rest stop in
    let clear : starts (more a) (h.1 ++ rest) ≡ false = fork_follows (more a) b c f.one f.two h.1 x.1 rest h.4 in
    let one = complete a f.head max_nestings h.0 x.0 (h.1 ++ rest) h.3 clear in
    let deep = last_nesting ks (length (h.0 ++ (h.1 ++ rest)) - length (h.1 ++ rest)) (h.1 ++ rest) (h.0 ++ (h.1 ++ rest)) in
    let rest_b : Rest (read b) (Spells b) (first b) (more b) = record { whole = complete b f.one.0; some = full_is b f.one.0 f.one.1; opens = begins b f.one.0 } in
    let rest_c : Rest (charged deep (read c)) (Spells c) (first c) (more c) = record { whole = charged_complete deep (read c) (Spells c) (more c) (complete c f.two.0); some = full_is c f.two.0 f.two.1; opens = begins c f.two.0 } in
    let r = either_rest (first b) (read b) (first c) (charged deep (read c)) in
    let two : (i : ℕ) → OkOrDeep (r i (h.1 ++ rest) >>= λ z j end. Ok ((x.0, z), j, end)) x rest =
    λ i. bind_again (r i (h.1 ++ rest)) (λ z j end. Ok ((x.0, z), j, end)) x.1 rest x rest
    (rest_complete (first b) (first c) (more b) (more c) (read b) (charged deep (read c)) (Spells b) (Spells c) rest_b rest_c f.clear i h.1 x.1 rest h.4 s.0 s.1) (λ j. inl (j, refl)) in
    let regrouped : u ++ rest ≡ h.0 ++ (h.1 ++ rest) = ap (λ (w : List Lexeme). w ++ rest) h.2 ∙ append_assoc h.0 h.1 rest in
    rw regrouped (bind_again (read a max_nestings (h.0 ++ (h.1 ++ rest)))
    (λ y i end. either_rest (first b) (read b) (first c) (charged (last_nesting ks (length (h.0 ++ (h.1 ++ rest)) - length end) end (h.0 ++ (h.1 ++ rest))) (read c)) i end >>= λ z j last. Ok ((y, z), j, last))
    x.0 (h.1 ++ rest) x rest one two)
