-- Within the limit of nestings, what is spelled so is read.
use Rattle.std.proofs.Common.{◌≡◌, ℕ, zero, suc, ◌-◌, ◌≤◌, true, false, not, List, [], ◌∷◌, ◌++◌, length, Some, None, Ok, refl, ap, subst, ◌∙◌, append_assoc, arith, inl, inr, ◌⊎◌}
use Rattle.std.proofs.lemmas.List.{append-nil, length-append}
use Rattle.std.proofs.lemmas.Bool.{and_parts, not-true, false_from_ne_true}
use Rattle.lola_parser_grammar.specs.Syntax.{Lexeme, Terminal, any_fits, Syntax, Past, Token, Nesting, Whole, Known, Then, Map, Either, Maybe, Many, Fork, charged, either_rest, last_nesting, Repeats, Spells, starts, first, nullable, more, apart, within, is_fine, Outcome, Reader, ◌>>=◌, repeated, read, max_nestings, read_all}
use Rattle.lola_parser_grammar.specs.Nestings.{nestings_in, tallies, guards, is_counted, Fits}
use Rattle.lola_parser_grammar.proofs.Tests.{apart_excludes}
use Rattle.lola_parser_grammar.proofs.Complete.{spells_nil, begins, and_three, choice_parts, known_parts, any_split, follows, tail_stops, stops_within, repeats_begin, fork_is, full_is, fork_follows}
use Rattle.lola_parser_grammar.proofs.Within.{complete_within}
use Rattle.lola_parser_grammar.proofs.Over.{fork_counted}

abbrev IsDone : {A : Type 0} → Outcome A → A → List Lexeme → Type 0
IsDone r x rest = (i : ℕ) × (r ≡ Ok (x, i, rest))

bind_done : {A B : Type 0} (r : Outcome A) (f : A → Reader B) (x : A) (mid : List Lexeme) (y : B) (rest : List Lexeme) → IsDone r x mid → ((i : ℕ) → IsDone (f x i mid) y rest) → IsDone (r >>= f) y rest
bind_done r f x mid y rest e next = rw e.1 (next e.0)

repeats_of : {A : Type 0} (P Q : List Lexeme → A → Type 0) → ((u : List Lexeme) (x : A) → P u x → Q u x) → (u : List Lexeme) (xs : List A) → Repeats P u xs → Repeats Q u xs
repeats_of P Q f u [] h = h
repeats_of P Q f u (x ∷ xs) h = (h.0, h.1, h.2, f h.0 x h.3, repeats_of P Q f h.1 xs h.4)

module _ (nestings : List Terminal) where
  pub fits_spells : {A : Type 0} (s : Syntax A) (u : List Lexeme) (x : A) → Fits nestings s u x → Spells s u x
  unfolding Fits Spells
  fits_spells (Past a) u x h = fits_spells a u x h
  fits_spells (Token k) u x h = h
  fits_spells (Nesting k) u x h = h
  fits_spells (Whole a) u x h = h.0
  fits_spells (Known fs ms a) u x h = fits_spells a u x h
  fits_spells (Then a b) u x h = (h.0, h.1, h.2, fits_spells a h.0 x.0 h.3, fits_spells b h.1 x.1 h.4)
  fits_spells (Map f a) u y h = (h.0, h.1, fits_spells a u h.0 h.2)
  fits_spells (Either a b) u x (inl h) = inl (fits_spells a u x h)
  fits_spells (Either a b) u x (inr h) = inr (fits_spells b u x h)
  fits_spells (Maybe a) u None h = h
  fits_spells (Maybe a) u (Some x) h = fits_spells a u x h
  fits_spells (Many a) u xs h = repeats_of (Fits nestings a) (Spells a) (fits_spells a) u xs h
  fits_spells (Fork ks a b c) u x h = (h.0, h.1, h.2, h.3, elim h.4 [ inl p ↦ inl (fits_spells b h.1 x.1 p.1) | inr p ↦ inr p.1 ])

  abbrev IsAll : {A : Type 0} → Reader A → (List Lexeme → A → Type 0) → List Terminal → Type 0
  IsAll {A} r P ks = (m : ℕ) (u : List Lexeme) (x : A) (rest : List Lexeme) → P u x → starts ks rest ≡ false → IsDone (r m (u ++ rest)) x rest

  record Part {A : Type 0} (r : Reader A) (P : List Lexeme → A → Type 0) (firsts mores : List Terminal) : Type 0 where
    whole : IsAll r P mores
    some : (x : A) → P [] x → ⊥
    opens : (t : Lexeme) (ts : List Lexeme) (x : A) → P (t ∷ ts) x → any_fits firsts t ≡ true
    clear : apart mores firsts ≡ true

  one_more : {A : Type 0} (r : Reader A) (P : List Lexeme → A → Type 0) (firsts mores : List Terminal) → Part r P firsts mores → (n m : ℕ) (u v : List Lexeme) (x : A) (xs : List A) (rest : List Lexeme)
      → length (u ++ (v ++ rest)) ≤ suc n → P u x → Repeats P v xs → starts (firsts ++ mores) rest ≡ false
      → (length (v ++ rest) ≤ n → (i : ℕ) → IsDone (repeated r firsts n i (v ++ rest)) xs rest)
      → IsDone (repeated r firsts (suc n) m (u ++ (v ++ rest))) (x ∷ xs) rest
  one_more r P firsts mores part n m [] v x xs rest le h hs stop next = absurd (part.some x h)
  one_more {A} r P firsts mores part n m (t ∷ u) v x xs rest le h hs stop next =
      let opens : starts firsts (t ∷ u ++ (v ++ rest)) ≡ true = part.opens t u x h in
      let shorter : length (v ++ rest) ≤ n = omega (arith, le, length-append u (v ++ rest)) in
      let one : IsDone (r m ((t ∷ u) ++ (v ++ rest))) x (v ++ rest) = part.whole m (t ∷ u) x (v ++ rest) h (behind v hs) in
      let two : (i : ℕ) → IsDone (repeated r firsts n i (v ++ rest) >>= λ ys j end. Ok (x ∷ ys, j, end)) (x ∷ xs) rest =
      λ i. bind_done (repeated r firsts n i (v ++ rest)) (λ ys j end. Ok (x ∷ ys, j, end)) xs rest (x ∷ xs) rest (next shorter i) (λ j. (j, refl)) in
      rw opens (bind_done (r m ((t ∷ u) ++ (v ++ rest))) (λ y i end. repeated r firsts n i end >>= λ ys j end. Ok (y ∷ ys, j, end)) x (v ++ rest) (x ∷ xs) rest one two)
    where
      behind : (w : List Lexeme) → Repeats P w xs → starts mores (w ++ rest) ≡ false
      behind [] gs = (any_split firsts mores rest stop).1
      behind (s ∷ w) gs = false_from_ne_true (any_fits mores s) (λ c. apart_excludes mores firsts s part.clear c (repeats_begin P firsts part.opens s w xs gs))

  repeated_all : {A : Type 0} (r : Reader A) (P : List Lexeme → A → Type 0) (firsts mores : List Terminal) → Part r P firsts mores → (n m : ℕ) (u : List Lexeme) (xs : List A) (rest : List Lexeme)
      → length (u ++ rest) ≤ n → Repeats P u xs → starts (firsts ++ mores) rest ≡ false → IsDone (repeated r firsts n m (u ++ rest)) xs rest
  repeated_all r P firsts mores part zero m u [] rest le h stop = (m, rw h refl)
  repeated_all r P firsts mores part (suc n) m u [] rest le h stop = rw (h, (any_split firsts mores rest stop).0) (m, refl)
  repeated_all r P firsts mores part zero m u (x ∷ xs) rest le h stop = absurd (none h.0 h.3 (omega (arith, le, ap length (h.2), length-append u rest, length-append h.0 h.1)))
    where
      none : (v : List Lexeme) → P v x → length v ≤ 0 → ⊥
      none [] g e = part.some x g
      none (t ∷ v) g e = omega (arith, e)
  repeated_all r P firsts mores part (suc n) m u (x ∷ xs) rest le h stop =
      let regrouped : u ++ rest ≡ h.0 ++ (h.1 ++ rest) = ap (λ (w : List Lexeme). w ++ rest) h.2 ∙ append_assoc h.0 h.1 rest in
      let fit : length (h.0 ++ (h.1 ++ rest)) ≤ suc n = rw (← regrouped) le in
      let next : length (h.1 ++ rest) ≤ n → (i : ℕ) → IsDone (repeated r firsts n i (h.1 ++ rest)) xs rest = λ shorter i. repeated_all r P firsts mores part n i h.1 xs rest shorter h.4 stop in
      rw regrouped (one_more r P firsts mores part n m h.0 h.1 x xs rest fit h.3 h.4 stop next)

  -- the first token of a part that always has one
  opens_part : {A : Type 0} (s : Syntax A) → is_fine s ≡ true → nullable s ≡ false → (v : List Lexeme) (x : A) (rest : List Lexeme) → Spells s v x → starts (first s) (v ++ rest) ≡ true
  opens_part s fine full [] x rest h = absurd (full_is s fine full x h)
  opens_part s fine full (t ∷ v) x rest h = begins s fine t v x h

  misses_part : {A : Type 0} (ks : List Terminal) (s : Syntax A) → is_fine s ≡ true → nullable s ≡ false → apart ks (first s) ≡ true → (v : List Lexeme) (x : A) (rest : List Lexeme) → Spells s v x → starts ks (v ++ rest) ≡ false
  misses_part ks s fine full away [] x rest h = absurd (full_is s fine full x h)
  misses_part ks s fine full away (t ∷ v) x rest h = false_from_ne_true (any_fits ks t) (λ c. apart_excludes ks (first s) t away c (begins s fine t v x h))

  charged_done : {A : Type 0} (deep : List Lexeme) (r : Reader A) (i : ℕ) (ts : List Lexeme) (x : A) (rest : List Lexeme) → 1 ≤ i → ((j : ℕ) → i ≡ suc j → IsDone (r j ts) x rest) → IsDone (charged deep r i ts) x rest
  charged_done deep r zero ts x rest some next = absurd (omega (arith, some))
  charged_done deep r (suc j) ts x rest some next = next j refl

  bind_at : {A B : Type 0} (r : Outcome A) (f : A → Reader B) (x : A) (i : ℕ) (mid : List Lexeme) (y : B) (rest : List Lexeme) → r ≡ Ok (x, i, mid) → IsDone (f x i mid) y rest → IsDone (r >>= f) y rest
  bind_at r f x i mid y rest e next = rw e next

  pub complete_all : {A : Type 0} (s : Syntax A) → is_fine s ≡ true → is_counted nestings s ≡ true → IsAll (read s) (Fits nestings s) (more s)
  unfolding read Fits more is_fine nullable first is_counted
  complete_all (Past a) fine count m u x rest h stop = absurd cc
  complete_all (Token k) fine count m u x rest h stop = (m, rw (h.0, h.1) refl)
  complete_all (Nesting k) fine count m u x rest h stop = absurd cc
  complete_all (Whole a) fine count m u x rest h stop =
      let c = and_parts (tallies nestings a) (guards (suc max_nestings) a) count in
      (_, complete_within nestings a fine c.0 (suc max_nestings) c.1 max_nestings u x rest (omega arith) h.0 stop h.1)
  complete_all (Known fs ms a) fine count m u x rest h stop =
      let f = known_parts (is_fine a) (nullable a) (within (first a) fs) (within (more a) ms) fine in
      complete_all a f.0 count m u x rest h (stops_within (more a) ms rest f.3 stop)
  complete_all (Then a b) fine count m u x rest h stop =
      let f = and_three (is_fine a) (is_fine b) (apart (more a) (first b)) fine in
      let c = and_parts (is_counted nestings a) (is_counted nestings b) count in
      let t = tail_stops (nullable b) (more b) (more a) rest stop in
      let clear : starts (more a) (h.1 ++ rest) ≡ false = follows (more a) b f.1 h.1 x.1 rest f.2 (fits_spells b h.1 x.1 h.4) t.1 in
      let one = complete_all a f.0 c.0 m h.0 x.0 (h.1 ++ rest) h.3 clear in
      let two : (i : ℕ) → IsDone (read b i (h.1 ++ rest) >>= λ z j end. Ok ((x.0, z), j, end)) x rest =
      λ i. bind_done (read b i (h.1 ++ rest)) (λ z j end. Ok ((x.0, z), j, end)) x.1 rest x rest (complete_all b f.1 c.1 i h.1 x.1 rest h.4 t.0) (λ j. (j, refl)) in
      let regrouped : u ++ rest ≡ h.0 ++ (h.1 ++ rest) = ap (λ (w : List Lexeme). w ++ rest) h.2 ∙ append_assoc h.0 h.1 rest in
      rw regrouped (bind_done (read a m (h.0 ++ (h.1 ++ rest))) (λ y i end. read b i end >>= λ z j end. Ok ((y, z), j, end)) x.0 (h.1 ++ rest) x rest one two)
  complete_all (Map f a) fine count m u y rest h stop =
      bind_done (read a m (u ++ rest)) (λ x i end. Ok (f x, i, end)) h.0 rest y rest (complete_all a fine count m u h.0 rest h.2 stop) (λ i. (i, rw (← h.1) refl))
  complete_all (Either a b) fine count m [] x rest (inl h) stop =
      let f = choice_parts (is_fine a) (is_fine b) (nullable a) (nullable b) (apart (first a) (first b)) fine in
      absurd (let e = spells_nil a f.0 x (fits_spells a [] x h) in let d = f.2 in cc)
  complete_all (Either a b) fine count m [] x rest (inr h) stop =
      let f = choice_parts (is_fine a) (is_fine b) (nullable a) (nullable b) (apart (first a) (first b)) fine in
      absurd (let e = spells_nil b f.1 x (fits_spells b [] x h) in let d = f.3 in cc)
  complete_all (Either a b) fine count m (t ∷ u) x rest (inl h) stop =
      let f = choice_parts (is_fine a) (is_fine b) (nullable a) (nullable b) (apart (first a) (first b)) fine in
      let c = and_parts (is_counted nestings a) (is_counted nestings b) count in
      rw (begins a f.0 t u x (fits_spells a (t ∷ u) x h)) (complete_all a f.0 c.0 m (t ∷ u) x rest h (any_split (more a) (more b) rest stop).0)
  complete_all (Either a b) fine count m (t ∷ u) x rest (inr h) stop =
      let f = choice_parts (is_fine a) (is_fine b) (nullable a) (nullable b) (apart (first a) (first b)) fine in
      let c = and_parts (is_counted nestings a) (is_counted nestings b) count in
      let misses : any_fits (first a) t ≡ false = false_from_ne_true (any_fits (first a) t) (λ k. apart_excludes (first a) (first b) t f.4 k (begins b f.1 t u x (fits_spells b (t ∷ u) x h))) in
      rw misses (complete_all b f.1 c.1 m (t ∷ u) x rest h (any_split (more a) (more b) rest stop).1)
  complete_all (Maybe a) fine count m u None rest h stop = rw (h, (any_split (first a) (more a) rest stop).0) (m, refl)
  complete_all (Maybe a) fine count m [] (Some x) rest h stop =
      let f = and_parts (is_fine a) (not (nullable a)) fine in
      absurd (let e = spells_nil a f.0 x (fits_spells a [] x h) in let d = not-true (nullable a) f.1 in cc)
  complete_all (Maybe a) fine count m (t ∷ u) (Some x) rest h stop =
      let f = and_parts (is_fine a) (not (nullable a)) fine in
      let one = complete_all a f.0 count m (t ∷ u) x rest h (any_split (first a) (more a) rest stop).1 in
      rw (begins a f.0 t u x (fits_spells a (t ∷ u) x h)) (bind_done (read a m ((t ∷ u) ++ rest)) (λ y i end. Ok (Some y, i, end)) x rest (Some x) rest one (λ i. (i, refl)))
  complete_all (Many a) fine count m u x rest h stop =
      let f = and_three (is_fine a) (not (nullable a)) (apart (more a) (first a)) fine in
      let part : Part (read a) (Fits nestings a) (first a) (more a) = record { whole = complete_all a f.0 count; some = λ y k. (let e = spells_nil a f.0 y (fits_spells a [] y k) in let d = not-true (nullable a) f.1 in absurd cc); opens = λ t ts y k. begins a f.0 t ts y (fits_spells a (t ∷ ts) y k); clear = f.2 } in
      repeated_all (read a) (Fits nestings a) (first a) (more a) part (length (u ++ rest)) m u x rest (omega arith) h stop
  complete_all (Fork ks a b c) fine count m u x rest h stop =
      let f = fork_is ks a b c fine in
      let g = fork_counted nestings ks a b c count in
      let s = any_split (more b) (more c) rest stop in
      let either : Spells b h.1 x.1 ⊎ Spells c h.1 x.1 = elim h.4 [ inl p ↦ inl (fits_spells b h.1 x.1 p.1) | inr p ↦ inr p.1 ] in
      let clear : starts (more a) (h.1 ++ rest) ≡ false = fork_follows (more a) b c f.one f.two h.1 x.1 rest either in
      let few : nestings_in nestings h.0 ≤ max_nestings = elim h.4 [ inl p ↦ p.0 | inr p ↦ omega (arith, p.0) ] in
      let i = max_nestings - nestings_in nestings h.0 in
      let one : read a max_nestings (h.0 ++ (h.1 ++ rest)) ≡ Ok (x.0, i, h.1 ++ rest) = complete_within nestings a f.head g.head (suc max_nestings) g.head_guard max_nestings h.0 x.0 (h.1 ++ rest) (omega arith) h.3 clear few in
      let deep = last_nesting ks (length (h.0 ++ (h.1 ++ rest)) - length (h.1 ++ rest)) (h.1 ++ rest) (h.0 ++ (h.1 ++ rest)) in
      let behind : IsDone (either_rest (first b) (read b) (first c) (charged deep (read c)) i (h.1 ++ rest)) x.1 rest = elim h.4 [
        | inl p ↦ rw (opens_part b f.one.0 f.one.1 h.1 x.1 rest (fits_spells b h.1 x.1 p.1)) (complete_all b f.one.0 g.one i h.1 x.1 rest p.1 s.0)
        | inr p ↦
            rw (misses_part (first b) c f.two.0 f.two.1 f.clear h.1 x.1 rest p.1, opens_part c f.two.0 f.two.1 h.1 x.1 rest p.1)
            (charged_done deep (read c) i (h.1 ++ rest) x.1 rest (omega (arith, p.0))
            (λ j e. (_, complete_within nestings c f.two.0 g.two (suc max_nestings) g.two_guard j h.1 x.1 rest (omega (arith, e)) p.1 s.1 (omega (arith, e, p.0)))))
      ] in
      let two : IsDone (either_rest (first b) (read b) (first c) (charged deep (read c)) i (h.1 ++ rest) >>= λ z j end. Ok ((x.0, z), j, end)) x rest = bind_done (either_rest (first b) (read b) (first c) (charged deep (read c)) i (h.1 ++ rest)) (λ z j end. Ok ((x.0, z), j, end)) x.1 rest x rest behind (λ j. (j, refl)) in
      let regrouped : u ++ rest ≡ h.0 ++ (h.1 ++ rest) = ap (λ (w : List Lexeme). w ++ rest) h.2 ∙ append_assoc h.0 h.1 rest in
      rw regrouped (bind_at (read a max_nestings (h.0 ++ (h.1 ++ rest)))
      (λ y j end. either_rest (first b) (read b) (first c) (charged (last_nesting ks (length (h.0 ++ (h.1 ++ rest)) - length end) end (h.0 ++ (h.1 ++ rest))) (read c)) j end >>= λ z l last. Ok ((y, z), l, last))
      x.0 i (h.1 ++ rest) x rest one two)

  pub fitting_is_read : {A : Type 0} (s : Syntax A) → is_fine s ≡ true → is_counted nestings s ≡ true → (ts : List Lexeme) (x : A) → Fits nestings s ts x → read_all s ts ≡ Ok x
  unfolding read_all
  fitting_is_read s fine count ts x h =
      let o : IsDone (read s max_nestings ts) x [] = subst (λ (w : List Lexeme). IsDone (read s max_nestings w) x []) (append-nil ts) (complete_all s fine count max_nestings ts x [] h refl) in
      rw o.1 refl
