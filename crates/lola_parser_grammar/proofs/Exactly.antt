-- What is spelled so is read, or is refused at a nesting that is one too many in it.
use Rattle.std.proofs.Common.{◌≡◌, ℕ, zero, suc, ◌+◌, ◌-◌, ◌≤◌, ◌<◌, true, false, not, List, [], ◌∷◌, ◌++◌, length, Some, None, Ok, Err, refl, sym, ap, subst, ◌∙◌, append_assoc, arith, inl, inr, ◌⊎◌}
use Rattle.std.proofs.lemmas.List.{append-nil, length-append, append_cancel_right}
use Rattle.std.proofs.lemmas.Bool.{and_parts, not-true, false_from_ne_true}
use Rattle.lola_parser_grammar.specs.Syntax.{Lexeme, Terminal, any_fits, Syntax, Past, Token, Nesting, Whole, Known, Then, Map, Either, Maybe, Many, Fork, charged, either_rest, last_nesting, Repeats, Spells, starts, first, nullable, more, apart, within, is_fine, TooDeep, Outcome, Reader, ◌>>=◌, repeated, read, max_nestings}
use Rattle.lola_parser_grammar.specs.Nestings.{is_nesting, nestings_in, tallies, guards, is_counted}
use Rattle.lola_parser_grammar.specs.Exceeding.{Exceeds, ExceedsAmong}
use Rattle.lola_parser_grammar.proofs.Tests.{apart_excludes}
use Rattle.lola_parser_grammar.proofs.Complete.{spells_nil, begins, and_three, choice_parts, known_parts, any_split, follows, tail_stops, stops_within, repeats_begin, complete, fork_is, full_is, fork_follows}
use Rattle.lola_parser_grammar.proofs.Within.{nestings-append, complete_within}
use Rattle.lola_parser_grammar.proofs.Over.{last_is, counts, over, fork_counted}

-- two splits of one list
split_two : (a b c : List Lexeme) (t : Lexeme) (d : List Lexeme) → a ++ b ≡ c ++ t ∷ d
    → ((w : List Lexeme) × (a ≡ c ++ t ∷ w) × (d ≡ w ++ b)) ⊎ ((w : List Lexeme) × (c ≡ a ++ w))
split_two [] b c t d e = inr (c, refl)
split_two (x ∷ a) b [] t d e = let p : x ≡ t = cc in let q : a ++ b ≡ d = cc in inl (a, ap (λ (y : Lexeme). y ∷ a) p, sym q)
split_two (x ∷ a) b (y ∷ c) t d e =
    let p : x ≡ y = cc in
    let q : a ++ b ≡ c ++ t ∷ d = cc in
    elim (split_two a b c t d q) [
      | inl s ↦ inl (s.0, ap (λ (w : List Lexeme). x ∷ w) s.1 ∙ ap (λ (z : Lexeme). z ∷ (c ++ t ∷ s.0)) p, s.2)
      | inr s ↦ inr (s.0, ap (λ (w : List Lexeme). y ∷ w) s.1 ∙ ap (λ (z : Lexeme). z ∷ (a ++ s.0)) (sym p))
    ]

pub few_or_more : (a b : ℕ) → (a ≤ b) ⊎ (b < a)
few_or_more zero b = inl (omega arith)
few_or_more (suc a) zero = inr (omega arith)
few_or_more (suc a) (suc b) = elim (few_or_more a b) [ inl h ↦ inl (omega (arith, h)) | inr h ↦ inr (omega (arith, h)) ]

module _ (nestings : List Terminal) where
  abbrev IsDone : {A : Type 0} → Outcome A → A → List Lexeme → Type 0
  IsDone r x rest = (i : ℕ) × (r ≡ Ok (x, i, rest))

  -- the reading of u ends at a nesting that exceeds
  abbrev pub IsDeep : {A : Type 0} → Outcome A → (List Lexeme → Lexeme → List Lexeme → Type 0) → List Lexeme → List Lexeme → Type 0
  IsDeep r Q u rest = (v : List Lexeme) × (t : Lexeme) × (w : List Lexeme) × (u ≡ v ++ t ∷ w) × (r ≡ Err (TooDeep (t ∷ (w ++ rest)))) × Q v t w

  abbrev IsEither : {A : Type 0} → Reader A → (List Lexeme → A → Type 0) → (List Lexeme → Lexeme → List Lexeme → A → Type 0) → List Terminal → Type 0
  IsEither {A} r P Q ks = (m : ℕ) (u : List Lexeme) (x : A) (rest : List Lexeme) → P u x → starts ks rest ≡ false → IsDone (r m (u ++ rest)) x rest ⊎ IsDeep (r m (u ++ rest)) (λ v t w. Q v t w x) u rest

  -- more nestings than may come: the reading of the part ends at the one that is too many
  pub too_many : {A : Type 0} (a : Syntax A) → is_fine a ≡ true → tallies nestings a ≡ true → guards (suc max_nestings) a ≡ true → (m : ℕ) → m ≤ max_nestings → (u : List Lexeme) (x : A) (rest : List Lexeme) → Spells a u x → starts (more a) rest ≡ false → m < nestings_in nestings u
      → IsDeep (read a m (u ++ rest)) (λ v t w. (nestings_in nestings v ≡ m) × (is_nesting nestings t ≡ true)) u rest
  too_many a fine tally guard m low u x rest h stop many =
      elim (complete a fine m u x rest h stop) [
        | inl e ↦
            let c = counts nestings a tally m (u ++ rest) x e.0 rest e.1 in
            let same : c.0 ≡ u = append_cancel_right c.0 u rest (sym c.1) in
            absurd (omega (arith, c.3, ap (nestings_in nestings) same, many))
        | inr e ↦
            let p = over nestings a tally (suc max_nestings) guard m (u ++ rest) e.0 (omega (arith, low)) e.1 in
            elim (split_two u rest p.0 p.1 p.2 p.4) [
              | inl s ↦ (p.0, p.1, s.0, s.1, e.1 ∙ ap (λ (d : List Lexeme). Err (TooDeep d)) (p.3 ∙ ap (λ (w : List Lexeme). p.1 ∷ w) s.2), (p.5, p.6))
              | inr s ↦ absurd (omega (arith, p.5, ap (nestings_in nestings) s.1, nestings-append nestings u s.0, many))
            ]
      ]

  -- ---- what Many needs of its part
  record Part {A : Type 0} (r : Reader A) (P : List Lexeme → A → Type 0) (Q : List Lexeme → Lexeme → List Lexeme → A → Type 0) (firsts mores : List Terminal) : Type 0 where
    whole : IsEither r P Q mores
    some : (x : A) → P [] x → ⊥
    opens : (t : Lexeme) (ts : List Lexeme) (x : A) → P (t ∷ ts) x → any_fits firsts t ≡ true
    clear : apart mores firsts ≡ true

  module _ {A : Type 0} (r : Reader A) (P : List Lexeme → A → Type 0) (Q : List Lexeme → Lexeme → List Lexeme → A → Type 0) (firsts mores : List Terminal) (part : Part r P Q firsts mores) where
    abbrev add : A → List A → ℕ → List Lexeme → Outcome (List A)
    add x xs j end = Ok (x ∷ xs, j, end)

    behind : (xs : List A) (rest w : List Lexeme) → starts (firsts ++ mores) rest ≡ false → Repeats P w xs → starts mores (w ++ rest) ≡ false
    behind xs rest [] stop gs = (any_split firsts mores rest stop).1
    behind xs rest (s ∷ w) stop gs = false_from_ne_true (any_fits mores s) (λ c. apart_excludes mores firsts s part.clear c (repeats_begin P firsts part.opens s w xs gs))

    turn_done : (n m : ℕ) (ts mid rest : List Lexeme) (x : A) (xs : List A) (i j : ℕ) → starts firsts ts ≡ true → r m ts ≡ Ok (x, i, mid) → repeated r firsts n i mid ≡ Ok (xs, j, rest) → repeated r firsts (suc n) m ts ≡ Ok (x ∷ xs, j, rest)
    turn_done n m ts mid rest x xs i j o e g = rw (o, e, g) refl

    turn_deep : (n m : ℕ) (ts mid d : List Lexeme) (x : A) (i : ℕ) → starts firsts ts ≡ true → r m ts ≡ Ok (x, i, mid) → repeated r firsts n i mid ≡ Err (TooDeep d) → repeated r firsts (suc n) m ts ≡ Err (TooDeep d)
    turn_deep n m ts mid d x i o e g = rw (o, e, g) refl

    turn_ends : (n m : ℕ) (ts d : List Lexeme) → starts firsts ts ≡ true → r m ts ≡ Err (TooDeep d) → repeated r firsts (suc n) m ts ≡ Err (TooDeep d)
    turn_ends n m ts d o e = rw (o, e) refl

    one_more : (n m : ℕ) (u v : List Lexeme) (x : A) (xs : List A) (rest : List Lexeme) → length (u ++ (v ++ rest)) ≤ suc n → P u x → Repeats P v xs → starts (firsts ++ mores) rest ≡ false
        → ((i : ℕ) → length (v ++ rest) ≤ n → IsDone (repeated r firsts n i (v ++ rest)) xs rest ⊎ IsDeep (repeated r firsts n i (v ++ rest)) (λ v' t w. ExceedsAmong Q P v' t w xs) v rest)
        → IsDone (repeated r firsts (suc n) m (u ++ (v ++ rest))) (x ∷ xs) rest ⊎ IsDeep (repeated r firsts (suc n) m (u ++ (v ++ rest))) (λ v' t w. ExceedsAmong Q P v' t w (x ∷ xs)) (u ++ v) rest
    one_more n m [] v x xs rest le h hs stop next = absurd (part.some x h)
    one_more n m (t ∷ u) v x xs rest le h hs stop next =
        let ts = (t ∷ u) ++ (v ++ rest) in
        let opens : starts firsts ts ≡ true = part.opens t u x h in
        let shorter : length (v ++ rest) ≤ n = omega (arith, le, length-append u (v ++ rest)) in
        elim (part.whole m (t ∷ u) x (v ++ rest) h (behind xs rest v stop hs)) [
          | inl d ↦
              elim (next d.0 shorter) [
                | inl e ↦ inl (e.0, turn_done n m ts (v ++ rest) rest x xs d.0 e.0 opens d.1 e.1)
                | inr e ↦
                    inr (
                      (t ∷ u) ++ e.0,
                      e.1,
                      e.2,
                      ap (λ (w : List Lexeme). (t ∷ u) ++ w) e.3 ∙ sym (append_assoc (t ∷ u) e.0 (e.1 ∷ e.2)),
                      turn_deep n m ts (v ++ rest) (e.1 ∷ (e.2 ++ rest)) x d.0 opens d.1 e.4,
                      inr (t ∷ u, e.0, refl, h, e.5),
                    )
              ]
          | inr d ↦
              inr (
                d.0,
                d.1,
                d.2 ++ v,
                ap (λ (w : List Lexeme). w ++ v) d.3 ∙ append_assoc d.0 (d.1 ∷ d.2) v,
                turn_ends n m ts (d.1 ∷ (d.2 ++ (v ++ rest))) opens d.4 ∙ ap (λ (w : List Lexeme). Err (TooDeep (d.1 ∷ w))) (sym (append_assoc d.2 v rest)),
                inl (d.2, v, refl, d.5, hs),
              )
        ]

    repeated_either : (n m : ℕ) (u : List Lexeme) (xs : List A) (rest : List Lexeme) → length (u ++ rest) ≤ n → Repeats P u xs → starts (firsts ++ mores) rest ≡ false
        → IsDone (repeated r firsts n m (u ++ rest)) xs rest ⊎ IsDeep (repeated r firsts n m (u ++ rest)) (λ v t w. ExceedsAmong Q P v t w xs) u rest
    repeated_either zero m u [] rest le h stop = inl (m, rw h refl)
    repeated_either (suc n) m u [] rest le h stop = inl (m, rw (h, (any_split firsts mores rest stop).0) refl)
    repeated_either zero m u (x ∷ xs) rest le h stop = absurd (none h.0 h.3 (omega (arith, le, ap length (h.2), length-append u rest, length-append h.0 h.1)))
      where
        none : (v : List Lexeme) → P v x → length v ≤ 0 → ⊥
        none [] g e = part.some x g
        none (t ∷ v) g e = omega (arith, e)
    repeated_either (suc n) m u (x ∷ xs) rest le h stop =
        let regrouped : u ++ rest ≡ h.0 ++ (h.1 ++ rest) = ap (λ (w : List Lexeme). w ++ rest) h.2 ∙ append_assoc h.0 h.1 rest in
        let fit : length (h.0 ++ (h.1 ++ rest)) ≤ suc n = omega (arith, le, ap length regrouped) in
        let found = one_more n m h.0 h.1 x xs rest fit h.3 h.4 stop (λ i shorter. repeated_either n i h.1 xs rest shorter h.4 stop) in
        let back : repeated r firsts (suc n) m (u ++ rest) ≡ repeated r firsts (suc n) m (h.0 ++ (h.1 ++ rest)) = ap (λ (w : List Lexeme). repeated r firsts (suc n) m w) regrouped in
        elim found [ inl e ↦ inl (e.0, back ∙ e.1) | inr e ↦ inr (e.0, e.1, e.2, h.2 ∙ e.3, back ∙ e.4, e.5) ]

  -- ---- each grammar
  map_ok : {A B : Type 0} (f : A → B) (r : Outcome A) (x : A) (y : B) (i : ℕ) (rest : List Lexeme) → r ≡ Ok (x, i, rest) → y ≡ f x → (r >>= λ z j end. Ok (f z, j, end)) ≡ Ok (y, i, rest)
  map_ok f r x y i rest e g = rw (e, g) refl

  bind_deep : {A B : Type 0} (r : Outcome A) (f : A → Reader B) (d : List Lexeme) → r ≡ Err (TooDeep d) → (r >>= f) ≡ Err (TooDeep d)
  bind_deep r f d e = rw e refl

  then_ok : {A B : Type 0} (r : Outcome A) (f : A → Reader B) (x : A) (i : ℕ) (mid : List Lexeme) (o : Outcome B) → r ≡ Ok (x, i, mid) → f x i mid ≡ o → (r >>= f) ≡ o
  then_ok r f x i mid o e g = rw e g

  pub opens_part : {A : Type 0} (s : Syntax A) → is_fine s ≡ true → nullable s ≡ false → (v : List Lexeme) (x : A) (rest : List Lexeme) → Spells s v x → starts (first s) (v ++ rest) ≡ true
  opens_part s fine full [] x rest h = absurd (full_is s fine full x h)
  opens_part s fine full (t ∷ v) x rest h = begins s fine t v x h

  pub misses_part : {A : Type 0} (ks : List Terminal) (s : Syntax A) → is_fine s ≡ true → nullable s ≡ false → apart ks (first s) ≡ true → (v : List Lexeme) (x : A) (rest : List Lexeme) → Spells s v x → starts ks (v ++ rest) ≡ false
  misses_part ks s fine full away [] x rest h = absurd (full_is s fine full x h)
  misses_part ks s fine full away (t ∷ v) x rest h = false_from_ne_true (any_fits ks t) (λ c. apart_excludes ks (first s) t away c (begins s fine t v x h))

  zero_or_suc : (n : ℕ) → (n ≡ 0) ⊎ ((k : ℕ) × (n ≡ suc k))
  zero_or_suc zero = inl refl
  zero_or_suc (suc k) = inr (k, refl)

  module _ {A B : Type 0} (ks : List Terminal) (a : Syntax A) (b c : Syntax B) (m : ℕ) (ts : List Lexeme) where
    abbrev deep_of : List Lexeme → List Lexeme
    deep_of mid = last_nesting ks (length ts - length mid) mid ts

    abbrev rest_of : Reader B
    rest_of i mid = either_rest (first b) (read b) (first c) (charged (deep_of mid) (read c)) i mid

    fork_first : (d : List Lexeme) → read a max_nestings ts ≡ Err (TooDeep d) → read (Fork ks a b c) m ts ≡ Err (TooDeep d)
    unfolding read
    fork_first d e = rw e refl

    module _ (x : A) (i : ℕ) (mid : List Lexeme) (was : read a max_nestings ts ≡ Ok (x, i, mid)) where
      fork_ok : (y : B) (j : ℕ) (rest : List Lexeme) → rest_of i mid ≡ Ok (y, j, rest) → read (Fork ks a b c) m ts ≡ Ok ((x, y), j, rest)
      unfolding read
      fork_ok y j rest g = rw (was, g) refl

      fork_err : (d : List Lexeme) → rest_of i mid ≡ Err (TooDeep d) → read (Fork ks a b c) m ts ≡ Err (TooDeep d)
      unfolding read
      fork_err d g = rw (was, g) refl

    rest_b : (i : ℕ) (mid : List Lexeme) → starts (first b) mid ≡ true → rest_of i mid ≡ read b i mid
    rest_b i mid h = rw h refl

    rest_c : (i j : ℕ) (mid : List Lexeme) → starts (first b) mid ≡ false → starts (first c) mid ≡ true → i ≡ suc j → rest_of i mid ≡ read c j mid
    rest_c i j mid h k e = rw (h, k, e) refl

    rest_none : (i : ℕ) (mid : List Lexeme) → starts (first b) mid ≡ false → starts (first c) mid ≡ true → i ≡ 0 → rest_of i mid ≡ Err (TooDeep (deep_of mid))
    rest_none i mid h k e = rw (h, k, e) refl

  pub exactly : {A : Type 0} (s : Syntax A) → is_fine s ≡ true → is_counted nestings s ≡ true → IsEither (read s) (Spells s) (Exceeds nestings s) (more s)
  unfolding read Spells Exceeds more is_fine nullable first is_counted
  exactly (Past a) fine count m u x rest h stop = absurd cc
  exactly (Token k) fine count m u x rest h stop = inl (m, rw (h.0, h.1) refl)
  exactly (Nesting k) fine count m u x rest h stop = absurd cc
  exactly (Whole a) fine count m u x rest h stop =
      let c = and_parts (tallies nestings a) (guards (suc max_nestings) a) count in
      elim (few_or_more (nestings_in nestings u) max_nestings) [
        | inl few ↦ inl (_, complete_within nestings a fine c.0 (suc max_nestings) c.1 max_nestings u x rest (omega arith) h stop few)
        | inr many ↦
            let d = too_many a fine c.0 c.1 max_nestings (omega arith) u x rest h stop many in
            inr (d.0, d.1, d.2, d.3, d.4, (subst (λ (w : List Lexeme). Spells a w x) d.3 h, d.5.0, d.5.1))
      ]
  exactly (Known fs ms a) fine count m u x rest h stop =
      let f = known_parts (is_fine a) (nullable a) (within (first a) fs) (within (more a) ms) fine in
      exactly a f.0 count m u x rest h (stops_within (more a) ms rest f.3 stop)
  exactly (Then a b) fine count m u x rest h stop =
      let f = and_three (is_fine a) (is_fine b) (apart (more a) (first b)) fine in
      let c = and_parts (is_counted nestings a) (is_counted nestings b) count in
      let t = tail_stops (nullable b) (more b) (more a) rest stop in
      let clear : starts (more a) (h.1 ++ rest) ≡ false = follows (more a) b f.1 h.1 x.1 rest f.2 h.4 t.1 in
      let regrouped : u ++ rest ≡ h.0 ++ (h.1 ++ rest) = ap (λ (w : List Lexeme). w ++ rest) h.2 ∙ append_assoc h.0 h.1 rest in
      let back : read (Then a b) m (u ++ rest) ≡ read (Then a b) m (h.0 ++ (h.1 ++ rest)) = ap (λ (w : List Lexeme). read (Then a b) m w) regrouped in
      elim (exactly a f.0 c.0 m h.0 x.0 (h.1 ++ rest) h.3 clear) [
        | inl d ↦
            elim (exactly b f.1 c.1 d.0 h.1 x.1 rest h.4 t.0) [
              | inl e ↦
                  inl (
                    e.0,
                    back ∙ then_ok (read a m (h.0 ++ (h.1 ++ rest))) (λ y j end. read b j end >>= λ z l last. Ok ((y, z), l, last)) x.0 d.0 (h.1 ++ rest) (Ok (x, e.0, rest)) d.1
                        (then_ok (read b d.0 (h.1 ++ rest)) (λ z l last. Ok ((x.0, z), l, last)) x.1 e.0 rest (Ok (x, e.0, rest)) e.1 refl),
                  )
              | inr e ↦
                  inr (
                    h.0 ++ e.0,
                    e.1,
                    e.2,
                    h.2 ∙ ap (λ (w : List Lexeme). h.0 ++ w) e.3 ∙ sym (append_assoc h.0 e.0 (e.1 ∷ e.2)),
                    back ∙ then_ok (read a m (h.0 ++ (h.1 ++ rest))) (λ y j end. read b j end >>= λ z l last. Ok ((y, z), l, last)) x.0 d.0 (h.1 ++ rest) (Err (TooDeep (e.1 ∷ (e.2 ++ rest)))) d.1
                        (bind_deep (read b d.0 (h.1 ++ rest)) (λ z l last. Ok ((x.0, z), l, last)) (e.1 ∷ (e.2 ++ rest)) e.4),
                    inr (h.0, e.0, refl, h.3, e.5),
                  )
            ]
        | inr d ↦
            inr (
              d.0,
              d.1,
              d.2 ++ h.1,
              h.2 ∙ ap (λ (w : List Lexeme). w ++ h.1) d.3 ∙ append_assoc d.0 (d.1 ∷ d.2) h.1,
              back ∙ bind_deep (read a m (h.0 ++ (h.1 ++ rest))) (λ y j end. read b j end >>= λ z l last. Ok ((y, z), l, last)) (d.1 ∷ (d.2 ++ (h.1 ++ rest))) d.4 ∙ ap (λ (w : List Lexeme). Err (TooDeep (d.1 ∷ w))) (sym (append_assoc d.2 h.1 rest)),
              inl (d.2, h.1, refl, d.5, h.4),
            )
      ]
  exactly (Map f a) fine count m u y rest h stop =
      elim (exactly a fine count m u h.0 rest h.2 stop) [
        | inl d ↦ inl (d.0, map_ok f (read a m (u ++ rest)) h.0 y d.0 rest d.1 h.1)
        | inr d ↦ inr (d.0, d.1, d.2, d.3, bind_deep (read a m (u ++ rest)) (λ z j end. Ok (f z, j, end)) (d.1 ∷ (d.2 ++ rest)) d.4, (h.0, h.1, d.5))
      ]
  exactly (Either a b) fine count m [] x rest (inl h) stop =
      let f = choice_parts (is_fine a) (is_fine b) (nullable a) (nullable b) (apart (first a) (first b)) fine in
      absurd (let e = spells_nil a f.0 x h in let d = f.2 in cc)
  exactly (Either a b) fine count m [] x rest (inr h) stop =
      let f = choice_parts (is_fine a) (is_fine b) (nullable a) (nullable b) (apart (first a) (first b)) fine in
      absurd (let e = spells_nil b f.1 x h in let d = f.3 in cc)
  exactly (Either a b) fine count m (t ∷ u) x rest (inl h) stop =
      let f = choice_parts (is_fine a) (is_fine b) (nullable a) (nullable b) (apart (first a) (first b)) fine in
      let c = and_parts (is_counted nestings a) (is_counted nestings b) count in
      let back : read (Either a b) m ((t ∷ u) ++ rest) ≡ read a m ((t ∷ u) ++ rest) = rw (begins a f.0 t u x h) refl in
      elim (exactly a f.0 c.0 m (t ∷ u) x rest h (any_split (more a) (more b) rest stop).0) [ inl d ↦ inl (d.0, back ∙ d.1) | inr d ↦ inr (d.0, d.1, d.2, d.3, back ∙ d.4, inl d.5) ]
  exactly (Either a b) fine count m (t ∷ u) x rest (inr h) stop =
      let f = choice_parts (is_fine a) (is_fine b) (nullable a) (nullable b) (apart (first a) (first b)) fine in
      let c = and_parts (is_counted nestings a) (is_counted nestings b) count in
      let misses : any_fits (first a) t ≡ false = false_from_ne_true (any_fits (first a) t) (λ k. apart_excludes (first a) (first b) t f.4 k (begins b f.1 t u x h)) in
      let back : read (Either a b) m ((t ∷ u) ++ rest) ≡ read b m ((t ∷ u) ++ rest) = rw misses refl in
      elim (exactly b f.1 c.1 m (t ∷ u) x rest h (any_split (more a) (more b) rest stop).1) [ inl d ↦ inl (d.0, back ∙ d.1) | inr d ↦ inr (d.0, d.1, d.2, d.3, back ∙ d.4, inr d.5) ]
  exactly (Maybe a) fine count m u None rest h stop = inl (m, rw (h, (any_split (first a) (more a) rest stop).0) refl)
  exactly (Maybe a) fine count m [] (Some x) rest h stop =
      let f = and_parts (is_fine a) (not (nullable a)) fine in
      absurd (let e = spells_nil a f.0 x h in let d = not-true (nullable a) f.1 in cc)
  exactly (Maybe a) fine count m (t ∷ u) (Some x) rest h stop =
      let f = and_parts (is_fine a) (not (nullable a)) fine in
      let back : read (Maybe a) m ((t ∷ u) ++ rest) ≡ (read a m ((t ∷ u) ++ rest) >>= λ y i end. Ok (Some y, i, end)) = rw (begins a f.0 t u x h) refl in
      elim (exactly a f.0 count m (t ∷ u) x rest h (any_split (first a) (more a) rest stop).1) [
        | inl d ↦ inl (d.0, back ∙ map_ok (λ y. Some y) (read a m ((t ∷ u) ++ rest)) x (Some x) d.0 rest d.1 refl)
        | inr d ↦ inr (d.0, d.1, d.2, d.3, back ∙ bind_deep (read a m ((t ∷ u) ++ rest)) (λ y i end. Ok (Some y, i, end)) (d.1 ∷ (d.2 ++ rest)) d.4, d.5)
      ]
  exactly (Many a) fine count m u x rest h stop =
      let f = and_three (is_fine a) (not (nullable a)) (apart (more a) (first a)) fine in
      let part : Part (read a) (Spells a) (Exceeds nestings a) (first a) (more a) = record { whole = exactly a f.0 count; some = λ y k. (let e = spells_nil a f.0 y k in let d = not-true (nullable a) f.1 in absurd cc); opens = begins a f.0; clear = f.2 } in
      repeated_either (read a) (Spells a) (Exceeds nestings a) (first a) (more a) part (length (u ++ rest)) m u x rest (omega arith) h stop
  exactly (Fork ks a b c) fine count m u x rest h stop =
      let f = fork_is ks a b c fine in
      let g = fork_counted nestings ks a b c count in
      let s = any_split (more b) (more c) rest stop in
      let mid = h.1 ++ rest in
      let ts = h.0 ++ mid in
      let clear : starts (more a) mid ≡ false = fork_follows (more a) b c f.one f.two h.1 x.1 rest h.4 in
      let regrouped : u ++ rest ≡ ts = ap (λ (w : List Lexeme). w ++ rest) h.2 ∙ append_assoc h.0 h.1 rest in
      let back : read (Fork ks a b c) m (u ++ rest) ≡ read (Fork ks a b c) m ts = ap (λ (w : List Lexeme). read (Fork ks a b c) m w) regrouped in
      elim (few_or_more (nestings_in nestings h.0) max_nestings) [
        | inr many ↦
            let d = too_many a f.head g.head g.head_guard max_nestings (omega arith) h.0 x.0 mid h.3 clear many in
            inr (
              d.0,
              d.1,
              d.2 ++ h.1,
              h.2 ∙ ap (λ (w : List Lexeme). w ++ h.1) d.3 ∙ append_assoc d.0 (d.1 ∷ d.2) h.1,
              back ∙ fork_first ks a b c m ts (d.1 ∷ (d.2 ++ mid)) d.4 ∙ ap (λ (w : List Lexeme). Err (TooDeep (d.1 ∷ w))) (sym (append_assoc d.2 h.1 rest)),
              inl (inl (d.2, h.1, refl, subst (λ (w : List Lexeme). Spells a w x.0) d.3 h.3, h.4, d.5.0, d.5.1)),
            )
        | inl few ↦
            let i = max_nestings - nestings_in nestings h.0 in
            let one : read a max_nestings ts ≡ Ok (x.0, i, mid) = complete_within nestings a f.head g.head (suc max_nestings) g.head_guard max_nestings h.0 x.0 mid (omega arith) h.3 clear few in
            elim h.4 [
              | inl hb ↦
                  let o = opens_part b f.one.0 f.one.1 h.1 x.1 rest hb in
                  elim (exactly b f.one.0 g.one i h.1 x.1 rest hb s.0) [
                    | inl e ↦ inl (e.0, back ∙ fork_ok ks a b c m ts x.0 i mid one x.1 e.0 rest (rest_b ks a b c m ts i mid o ∙ e.1))
                    | inr e ↦
                        inr (
                          h.0 ++ e.0,
                          e.1,
                          e.2,
                          h.2 ∙ ap (λ (w : List Lexeme). h.0 ++ w) e.3 ∙ sym (append_assoc h.0 e.0 (e.1 ∷ e.2)),
                          back ∙ fork_err ks a b c m ts x.0 i mid one (e.1 ∷ (e.2 ++ rest)) (rest_b ks a b c m ts i mid o ∙ e.4),
                          inr (inl (h.0, e.0, refl, h.3, e.5)),
                        )
                  ]
              | inr hc ↦
                  let n = misses_part (first b) c f.two.0 f.two.1 f.clear h.1 x.1 rest hc in
                  let o = opens_part c f.two.0 f.two.1 h.1 x.1 rest hc in
                  elim (zero_or_suc i) [
                    | inl z ↦
                        let full : nestings_in nestings h.0 ≡ suc 511 = omega (arith, z, few) in
                        let p = last_is nestings ks g.same h.0 mid mid 511 full in
                        let len : length ts - length mid ≡ length h.0 = omega (arith, length-append h.0 mid) in
                        let there : last_nesting ks (length ts - length mid) mid ts ≡ p.1 ∷ (p.2 ++ mid) = ap (λ (k : ℕ). last_nesting ks k mid ts) len ∙ p.7 in
                        inr (
                          p.0,
                          p.1,
                          p.2 ++ h.1,
                          h.2 ∙ ap (λ (w : List Lexeme). w ++ h.1) p.3 ∙ append_assoc p.0 (p.1 ∷ p.2) h.1,
                          back ∙ fork_err ks a b c m ts x.0 i mid one (last_nesting ks (length ts - length mid) mid ts) (rest_none ks a b c m ts i mid n o z)
                              ∙ ap (λ (w : List Lexeme). Err (TooDeep w)) (there ∙ ap (λ (w : List Lexeme). p.1 ∷ w) (sym (append_assoc p.2 h.1 rest))),
                          inl (inr (p.2, h.1, refl, subst (λ (w : List Lexeme). Spells a w x.0) p.3 h.3, hc, omega (arith, p.5), p.4)),
                        )
                    | inr k ↦
                        elim (few_or_more (nestings_in nestings h.1) k.0) [
                          | inl low ↦
                              inl (
                                _,
                                back ∙ fork_ok ks a b c m ts x.0 i mid one x.1 (k.0 - nestings_in nestings h.1) rest (rest_c ks a b c m ts i k.0 mid n o k.1
                                    ∙ complete_within nestings c f.two.0 g.two (suc max_nestings) g.two_guard k.0 h.1 x.1 rest (omega (arith, k.1)) hc s.1 low),
                              )
                          | inr many ↦
                              let d = too_many c f.two.0 g.two g.two_guard k.0 (omega (arith, k.1)) h.1 x.1 rest hc s.1 many in
                              inr (
                                h.0 ++ d.0,
                                d.1,
                                d.2,
                                h.2 ∙ ap (λ (w : List Lexeme). h.0 ++ w) d.3 ∙ sym (append_assoc h.0 d.0 (d.1 ∷ d.2)),
                                back ∙ fork_err ks a b c m ts x.0 i mid one (d.1 ∷ (d.2 ++ rest)) (rest_c ks a b c m ts i k.0 mid n o k.1 ∙ d.4),
                                inr (inr (h.0, d.0, refl, h.3, subst (λ (w : List Lexeme). Spells c w x.1) d.3 hc, omega (arith, k.1, d.5.0, few), d.5.1)),
                              )
                        ]
                  ]
            ]
      ]

  -- of a whole text that is a sentence: where its reading is too deep, the token is one nesting too many in it
  pub deep_in_sentence : {A : Type 0} (s : Syntax A) → is_fine s ≡ true → is_counted nestings s ≡ true → (m : ℕ) (ts d : List Lexeme) (x : A) → read s m ts ≡ Err (TooDeep d) → Spells s ts x
      → (u : List Lexeme) × (t : Lexeme) × (v : List Lexeme) × (ts ≡ u ++ t ∷ v) × (d ≡ t ∷ v) × Exceeds nestings s u t v x
  deep_in_sentence s fine count m ts d x deep h =
      let whole : ts ++ [] ≡ ts = append-nil ts in
      let again : read s m (ts ++ []) ≡ Err (TooDeep d) = ap (λ (w : List Lexeme). read s m w) whole ∙ deep in
      elim (exactly s fine count m ts x [] h refl) [
        | inl e ↦ absurd (let k = e.1 in cc)
        | inr e ↦
            let same : e.1 ∷ (e.2 ++ []) ≡ d = (let k = e.4 in let q : TooDeep (e.1 ∷ (e.2 ++ [])) ≡ TooDeep d = cc in cc) in
            (e.0, e.1, e.2, e.3, sym same ∙ ap (λ (w : List Lexeme). e.1 ∷ w) (append-nil e.2), e.5)
      ]
