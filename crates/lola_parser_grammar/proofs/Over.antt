-- Where reading is too deep, the token is one nesting more than may come.
use Rattle.std.proofs.Common.{◌≡◌, ℕ, zero, suc, ◌+◌, ◌-◌, ◌<◌, Bool, true, false, cond, ◌&&◌, List, [], ◌∷◌, ◌++◌, length, Some, None, Ok, Err, refl, sym, ap, subst, ◌∙◌, append_assoc, arith, inl, inr, ◌⊎◌}
use Rattle.std.proofs.lemmas.List.{append-nil, length-append}
use Rattle.std.proofs.lemmas.Bool.{and_parts, false_from_ne_true}
use Rattle.lola_parser_grammar.specs.Syntax.{Lexeme, Terminal, fits, any_fits, Syntax, Past, Token, Nesting, Whole, Known, Then, Map, Either, Maybe, Many, Fork, charged, either_rest, last_nesting, within, Repeats, Perhaps, Spells, starts, first, Unexpected, TooDeep, Reader, counted, repeated, read, max_nestings, Begins}
use Rattle.lola_parser_grammar.specs.Nestings.{lower, least, guards, is_nesting, nestings_in, tallies, one_if, IsFullAfterAll, IsOver, is_counted}
use Rattle.lola_parser_grammar.proofs.Laws.{IsSound, sound, bind_ok, done_is, chosen}
use Rattle.lola_parser_grammar.proofs.Tests.{listed_fits, within_fits}
use Rattle.lola_parser_grammar.proofs.Complete.{and_three}
use Rattle.lola_parser_grammar.proofs.Viable.{bind_err, sample}
use Rattle.lola_parser_grammar.proofs.Within.{lower_is, none_is, nestings-append, token_none, nesting_one, spells_least}

module _ (nestings : List Terminal) where
  -- it took a sentence, and its nestings from what may come
  abbrev pub Counts : {A : Type 0} → Reader A → (List Lexeme → A → Type 0) → Type 0
  Counts {A} r P = (m : ℕ) (ts : List Lexeme) (x : A) (i : ℕ) (rest : List Lexeme) → r m ts ≡ Ok (x, i, rest) → (u : List Lexeme) × (ts ≡ u ++ rest) × P u x × (m ≡ i + nestings_in nestings u)

  repeated_counts : {A : Type 0} (r : Reader A) (P : List Lexeme → A → Type 0) (ks : List Terminal) → Counts r P → (n : ℕ) → Counts (repeated r ks n) (Repeats P)
  repeated_counts r P ks each zero m ts xs i rest e = let q = done_is [] xs m i ts rest e in ([], q.2, subst (Repeats P []) q.0 refl, omega (arith, q.1))
  repeated_counts {A} r P ks each (suc n) m ts xs i rest e =
      elim (chosen (starts ks ts) _ _ _ e) [
        | inl c ↦
            let a = bind_ok (r m ts) _ xs i rest c.1 in
            let b = bind_ok (repeated r ks n a.1 a.2) _ xs i rest a.4 in
            let q = done_is (a.0 ∷ b.0) xs b.1 i b.2 rest b.4 in
            let t = each m ts a.0 a.1 a.2 a.3 in
            let u = repeated_counts r P ks each n a.1 a.2 b.0 b.1 b.2 b.3 in
            let parts : ts ≡ (t.0 ++ u.0) ++ rest = t.1 ∙ ap (λ (w : List Lexeme). t.0 ++ w) (u.1 ∙ ap (λ (w : List Lexeme). u.0 ++ w) q.2) ∙ sym (append_assoc t.0 u.0 rest) in
            (t.0 ++ u.0, parts, subst (Repeats P (t.0 ++ u.0)) q.0 (t.0, u.0, refl, t.2, u.2), omega (arith, q.1, t.3, u.3, nestings-append nestings t.0 u.0))
        | inr c ↦ let q = done_is [] xs m i ts rest c.1 in ([], q.2, subst (Repeats P []) q.0 refl, omega (arith, q.1))
      ]

  one_counted : (t : Lexeme) (m : ℕ) (ts : List Lexeme) (x : Lexeme) (i : ℕ) (rest : List Lexeme) → counted t m ts ≡ Ok (x, i, rest) → (t ≡ x) × (m ≡ suc i) × (ts ≡ rest)
  one_counted t zero ts x i rest e = absurd cc
  one_counted t (suc m) ts x i rest e = let q = done_is t x m i ts rest e in (q.0, ap suc q.1, q.2)

  pub counts : {A : Type 0} (s : Syntax A) → tallies nestings s ≡ true → Counts (read s) (Spells s)
  unfolding read Spells tallies
  counts (Past a) tally m ts x i rest e = absurd cc
  counts (Token k) tally m [] x i rest e = absurd cc
  counts (Token k) tally m (t ∷ ts) x i rest e =
      elim (chosen (fits k t) _ _ _ e) [
        | inl c ↦
            let q = done_is t x m i ts rest c.1 in
            (t ∷ [], ap (λ (w : List Lexeme). t ∷ w) q.2, (ap (λ (w : Lexeme). w ∷ []) q.0, subst (λ w. fits k w ≡ true) q.0 c.0), omega (arith, q.1, token_none nestings k t tally c.0))
        | inr c ↦ absurd cc
      ]
  counts (Nesting k) tally m [] x i rest e = absurd cc
  counts (Nesting k) tally m (t ∷ ts) x i rest e =
      elim (chosen (fits k t) _ _ _ e) [
        | inl c ↦
            let q = one_counted t m ts x i rest c.1 in
            (t ∷ [], ap (λ (w : List Lexeme). t ∷ w) q.2, (ap (λ (w : Lexeme). w ∷ []) q.0, subst (λ w. fits k w ≡ true) q.0 c.0), omega (arith, q.1, nesting_one nestings k t tally c.0))
        | inr c ↦ absurd cc
      ]
  counts (Whole a) tally m ts x i rest e = absurd cc
  counts (Known fs ms a) tally m ts x i rest e = counts a tally m ts x i rest e
  counts (Then a b) tally m ts x i rest e =
      let w = and_parts (tallies nestings a) (tallies nestings b) tally in
      let p = bind_ok (read a m ts) _ x i rest e in
      let q = bind_ok (read b p.1 p.2) _ x i rest p.4 in
      let d = done_is (p.0, q.0) x q.1 i q.2 rest q.4 in
      let t = counts a w.0 m ts p.0 p.1 p.2 p.3 in
      let u = counts b w.1 p.1 p.2 q.0 q.1 q.2 q.3 in
      let parts : ts ≡ (t.0 ++ u.0) ++ rest = t.1 ∙ ap (λ (w : List Lexeme). t.0 ++ w) (u.1 ∙ ap (λ (w : List Lexeme). u.0 ++ w) d.2) ∙ sym (append_assoc t.0 u.0 rest) in
      (t.0 ++ u.0, parts, subst (Spells (Then a b) (t.0 ++ u.0)) d.0 (t.0, u.0, refl, t.2, u.2), omega (arith, d.1, t.3, u.3, nestings-append nestings t.0 u.0))
  counts (Map f a) tally m ts x i rest e =
      let p = bind_ok (read a m ts) _ x i rest e in
      let d = done_is (f p.0) x p.1 i p.2 rest p.4 in
      let t = counts a tally m ts p.0 p.1 p.2 p.3 in
      (t.0, t.1 ∙ ap (λ (w : List Lexeme). t.0 ++ w) d.2, (p.0, sym d.0, t.2), omega (arith, d.1, t.3))
  counts (Either a b) tally m ts x i rest e =
      let w = and_parts (tallies nestings a) (tallies nestings b) tally in
      elim (chosen (starts (first a) ts) _ _ _ e) [
        | inl c ↦ let t = counts a w.0 m ts x i rest c.1 in (t.0, t.1, inl t.2, t.3)
        | inr c ↦ let t = counts b w.1 m ts x i rest c.1 in (t.0, t.1, inr t.2, t.3)
      ]
  counts (Maybe a) tally m ts x i rest e =
      elim (chosen (starts (first a) ts) _ _ _ e) [
        | inl c ↦
            let p = bind_ok (read a m ts) _ x i rest c.1 in
            let d = done_is (Some p.0) x p.1 i p.2 rest p.4 in
            let t = counts a tally m ts p.0 p.1 p.2 p.3 in
            (t.0, t.1 ∙ ap (λ (w : List Lexeme). t.0 ++ w) d.2, subst (Perhaps (Spells a) t.0) d.0 t.2, omega (arith, d.1, t.3))
        | inr c ↦ let d = done_is None x m i ts rest c.1 in ([], d.2, subst (Perhaps (Spells a) []) d.0 refl, omega (arith, d.1))
      ]
  counts (Many a) tally m ts x i rest e = repeated_counts (read a) (Spells a) (first a) (counts a tally) (length ts) m ts x i rest e
  counts (Fork ks a b c) tally m ts x i rest e = absurd cc

  -- ---- too deep

  abbrev pub Over : {A : Type 0} → Reader A → (List Lexeme → A → Type 0) → ℕ → Type 0
  Over {A} r P k = (m : ℕ) (ts d : List Lexeme) → m < k → r m ts ≡ Err (TooDeep d)
      → (u : List Lexeme) × (t : Lexeme) × (rest : List Lexeme) × (d ≡ t ∷ rest) × (ts ≡ u ++ t ∷ rest) × (nestings_in nestings u ≡ m) × (is_nesting nestings t ≡ true) × ((v : List Lexeme) × (x : A) × P (u ++ t ∷ v) x)

  repeated_over : {A : Type 0} (r : Reader A) (P : List Lexeme → A → Type 0) (ks : List Terminal) (k : ℕ) → Counts r P → Over r P k → (n : ℕ) → Over (repeated r ks n) (Repeats P) k
  repeated_over r P ks k each over zero m ts d low h = absurd cc
  repeated_over {A} r P ks k each over (suc n) m ts d low h =
      elim (chosen (starts ks ts) _ _ _ h) [
        | inl c ↦
            elim (bind_err (r m ts) _ (TooDeep d) c.1) [
              | inl e ↦
                  let p = over m ts d low e in
                  (p.0, p.1, p.2, p.3, p.4, p.5, p.6, (p.7.0, p.7.1 ∷ [], (p.0 ++ p.1 ∷ p.7.0, [], sym (append-nil (p.0 ++ p.1 ∷ p.7.0)), p.7.2, refl)))
              | inr q ↦
                  elim (bind_err (repeated r ks n q.1 q.2) _ (TooDeep d) q.4) [
                    | inl e ↦
                        let t = each m ts q.0 q.1 q.2 q.3 in
                        let p = repeated_over r P ks k each over n q.1 q.2 d (omega (arith, t.3, low)) e in
                        let parts : ts ≡ (t.0 ++ p.0) ++ p.1 ∷ p.2 = t.1 ∙ ap (λ (w : List Lexeme). t.0 ++ w) p.4 ∙ sym (append_assoc t.0 p.0 (p.1 ∷ p.2)) in
                        (t.0 ++ p.0, p.1, p.2, p.3, parts, omega (arith, p.5, t.3, nestings-append nestings t.0 p.0), p.6, (p.7.0, q.0 ∷ p.7.1, (t.0, p.0 ++ p.1 ∷ p.7.0, append_assoc t.0 p.0 (p.1 ∷ p.7.0), t.2, p.7.2)))
                    | inr z ↦ absurd (let w = z.4 in cc)
                  ]
            ]
        | inr c ↦ absurd (let w = c.1 in cc)
      ]

  pub one_over : (t : Lexeme) (m : ℕ) (ts d : List Lexeme) → counted t m ts ≡ Err (TooDeep d) → (m ≡ 0) × (d ≡ t ∷ ts)
  one_over t zero ts d h = (refl, let e : TooDeep (t ∷ ts) ≡ TooDeep d = cc in cc)
  one_over t (suc m) ts d h = absurd cc

  pub over : {A : Type 0} (s : Syntax A) → tallies nestings s ≡ true → (k : ℕ) → guards k s ≡ true → Over (read s) (Spells s) k
  unfolding read Spells tallies guards
  over (Past a) tally k guard m ts d low h = absurd (omega (arith, low, none_is k guard))
  over (Token k) tally n guard m [] d low h = absurd (let e : Unexpected [] ≡ TooDeep d = cc in cc)
  over (Token k) tally n guard m (t ∷ ts) d low h =
      elim (chosen (fits k t) _ _ _ h) [ inl c ↦ absurd (let w = c.1 in cc) | inr c ↦ absurd (let w = c.1 in let e : Unexpected (t ∷ ts) ≡ TooDeep d = cc in cc) ]
  over (Nesting k) tally n guard m [] d low h = absurd (let e : Unexpected [] ≡ TooDeep d = cc in cc)
  over (Nesting k) tally n guard m (t ∷ ts) d low h =
      elim (chosen (fits k t) _ _ _ h) [
        | inl c ↦ let q = one_over t m ts d c.1 in ([], t, ts, q.1, refl, sym q.0, listed_fits k nestings t tally c.0, ([], t, (refl, c.0)))
        | inr c ↦ absurd (let w = c.1 in let e : Unexpected (t ∷ ts) ≡ TooDeep d = cc in cc)
      ]
  over (Whole a) tally k guard m ts d low h = absurd cc
  over (Known fs ms a) tally k guard m ts d low h = over a tally k guard m ts d low h
  over (Then a b) tally k guard m ts d low h =
      let w = and_parts (tallies nestings a) (tallies nestings b) tally in
      let g = and_parts (guards k a) (guards (lower k (least a)) b) guard in
      elim (bind_err (read a m ts) _ (TooDeep d) h) [
        | inl e ↦
            let p = over a w.0 k g.0 m ts d low e in
            let q = sample b in
            (p.0, p.1, p.2, p.3, p.4, p.5, p.6, (p.7.0 ++ q.0, (p.7.1, q.1), (p.0 ++ p.1 ∷ p.7.0, q.0, sym (append_assoc p.0 (p.1 ∷ p.7.0) q.0), p.7.2, q.2)))
        | inr q ↦
            elim (bind_err (read b q.1 q.2) _ (TooDeep d) q.4) [
              | inl e ↦
                  let t = counts a w.0 m ts q.0 q.1 q.2 q.3 in
                  let p = over b w.1 (lower k (least a)) g.1 q.1 q.2 d (omega (arith, t.3, low, spells_least nestings a w.0 t.0 q.0 t.2, lower_is k (least a))) e in
                  let parts : ts ≡ (t.0 ++ p.0) ++ p.1 ∷ p.2 = t.1 ∙ ap (λ (w : List Lexeme). t.0 ++ w) p.4 ∙ sym (append_assoc t.0 p.0 (p.1 ∷ p.2)) in
                  (t.0 ++ p.0, p.1, p.2, p.3, parts, omega (arith, p.5, t.3, nestings-append nestings t.0 p.0), p.6, (p.7.0, (q.0, p.7.1), (t.0, p.0 ++ p.1 ∷ p.7.0, append_assoc t.0 p.0 (p.1 ∷ p.7.0), t.2, p.7.2)))
              | inr z ↦ absurd (let w = z.4 in cc)
            ]
      ]
  over (Map f a) tally k guard m ts d low h =
      elim (bind_err (read a m ts) _ (TooDeep d) h) [
        | inl e ↦ let p = over a tally k guard m ts d low e in (p.0, p.1, p.2, p.3, p.4, p.5, p.6, (p.7.0, f p.7.1, (p.7.1, refl, p.7.2)))
        | inr z ↦ absurd (let w = z.4 in cc)
      ]
  over (Either a b) tally k guard m ts d low h =
      let w = and_parts (tallies nestings a) (tallies nestings b) tally in
      let g = and_parts (guards k a) (guards k b) guard in
      elim (chosen (starts (first a) ts) _ _ _ h) [
        | inl c ↦ let p = over a w.0 k g.0 m ts d low c.1 in (p.0, p.1, p.2, p.3, p.4, p.5, p.6, (p.7.0, p.7.1, inl p.7.2))
        | inr c ↦ let p = over b w.1 k g.1 m ts d low c.1 in (p.0, p.1, p.2, p.3, p.4, p.5, p.6, (p.7.0, p.7.1, inr p.7.2))
      ]
  over (Maybe a) tally k guard m ts d low h =
      elim (chosen (starts (first a) ts) _ _ _ h) [
        | inl c ↦
            elim (bind_err (read a m ts) _ (TooDeep d) c.1) [
              | inl e ↦ let p = over a tally k guard m ts d low e in (p.0, p.1, p.2, p.3, p.4, p.5, p.6, (p.7.0, Some p.7.1, p.7.2))
              | inr z ↦ absurd (let w = z.4 in cc)
            ]
        | inr c ↦ absurd (let w = c.1 in cc)
      ]
  over (Many a) tally k guard m ts d low h = repeated_over (read a) (Spells a) (first a) k (counts a tally) (over a tally k guard) (length ts) m ts d low h
  over (Fork ks a b c) tally k guard m ts d low h = absurd cc

  -- ---- whole expressions

  abbrev Overs : {A : Type 0} → Reader A → (List Lexeme → Lexeme → List Lexeme → Type 0) → Type 0
  Overs r Q = (m : ℕ) (ts d : List Lexeme) → r m ts ≡ Err (TooDeep d) → (u : List Lexeme) × (t : Lexeme) × (rest : List Lexeme) × (d ≡ t ∷ rest) × (ts ≡ u ++ t ∷ rest) × Q u t rest

  repeated_overs : {A : Type 0} (r : Reader A) (P : List Lexeme → A → Type 0) (Q : List Lexeme → Lexeme → List Lexeme → Type 0) (ks : List Terminal) → IsSound r P → Overs r Q → (n : ℕ)
      → Overs (repeated r ks n) (λ u t rest. (v w : List Lexeme) × (xs : List A) × (u ≡ v ++ w) × Repeats P v xs × Q w t rest)
  repeated_overs r P Q ks sure each zero m ts d h = absurd cc
  repeated_overs {A} r P Q ks sure each (suc n) m ts d h =
      elim (chosen (starts ks ts) _ _ _ h) [
        | inl c ↦
            elim (bind_err (r m ts) _ (TooDeep d) c.1) [
              | inl e ↦ let p = each m ts d e in (p.0, p.1, p.2, p.3, p.4, ([], p.0, [], refl, refl, p.5))
              | inr q ↦
                  elim (bind_err (repeated r ks n q.1 q.2) _ (TooDeep d) q.4) [
                    | inl e ↦
                        let t = sure m ts q.0 q.1 q.2 q.3 in
                        let p = repeated_overs r P Q ks sure each n q.1 q.2 d e in
                        let parts : ts ≡ (t.0 ++ p.0) ++ p.1 ∷ p.2 = t.1 ∙ ap (λ (w : List Lexeme). t.0 ++ w) p.4 ∙ sym (append_assoc t.0 p.0 (p.1 ∷ p.2)) in
                        let front : t.0 ++ p.0 ≡ (t.0 ++ p.5.0) ++ p.5.1 = ap (λ (w : List Lexeme). t.0 ++ w) p.5.3 ∙ sym (append_assoc t.0 p.5.0 p.5.1) in
                        (t.0 ++ p.0, p.1, p.2, p.3, parts, (t.0 ++ p.5.0, p.5.1, q.0 ∷ p.5.2, front, (t.0, p.5.0, refl, t.2, p.5.4), p.5.5))
                    | inr z ↦ absurd (let w = z.4 in cc)
                  ]
            ]
        | inr c ↦ absurd (let w = c.1 in cc)
      ]

  -- ---- the last nesting of what was read

  -- the tokens are split at their last nesting, before which there are n
  abbrev pub SplitsAtLast : ℕ → List Lexeme → List Lexeme → List Lexeme → Type 0
  SplitsAtLast n u rest d = (v : List Lexeme) × (t : Lexeme) × (w : List Lexeme) × (u ≡ v ++ t ∷ w) × (is_nesting nestings t ≡ true) × (nestings_in nestings v ≡ n) × (nestings_in nestings w ≡ 0) × (d ≡ t ∷ (w ++ rest))

  module _ (ks : List Terminal) (same : (t : Lexeme) → any_fits ks t ≡ is_nesting nestings t) where
    more_nestings : (t : Lexeme) (u : List Lexeme) (b : Bool) → is_nesting nestings t ≡ b → nestings_in nestings (t ∷ u) ≡ one_if nestings b + nestings_in nestings u
    more_nestings t u b e = ap (λ c. one_if nestings c + nestings_in nestings u) e

    next_last : (t : Lexeme) (u best : List Lexeme) (n : ℕ) (b : Bool) → is_nesting nestings t ≡ b → last_nesting ks (suc n) best (t ∷ u) ≡ last_nesting ks n (cond b (t ∷ u) best) u
    next_last t u best n b e = ap (λ c. last_nesting ks n (cond c (t ∷ u) best) u) (same t ∙ e)

    -- no further nesting
    last_none : (u rest best : List Lexeme) → nestings_in nestings u ≡ 0 → last_nesting ks (length u) best (u ++ rest) ≡ best
    last_none [] [] best h = refl
    last_none [] (t ∷ rest) best h = refl
    last_none (t ∷ u) rest best h =
        let none : is_nesting nestings t ≡ false = false_from_ne_true (is_nesting nestings t) (λ e. omega (arith, more_nestings t u true e, h)) in
        next_last t (u ++ rest) best (length u) false none ∙ last_none u rest best (omega (arith, more_nestings t u false none, h))

    abbrev pub LastIn : List Lexeme → List Lexeme → Type 0
    LastIn u rest = (best : List Lexeme) (n : ℕ) → nestings_in nestings u ≡ suc n → SplitsAtLast n u rest (last_nesting ks (length u) best (u ++ rest))

    last_here : (t : Lexeme) (u rest best : List Lexeme) (n : ℕ) → is_nesting nestings t ≡ true → nestings_in nestings u ≡ 0 → nestings_in nestings (t ∷ u) ≡ suc n → SplitsAtLast n (t ∷ u) rest (last_nesting ks (suc (length u)) best (t ∷ (u ++ rest)))
    last_here t u rest best n e none h =
        ([], t, u, refl, e, omega (arith, more_nestings t u true e, none, h), none, next_last t (u ++ rest) best (length u) true e ∙ last_none u rest (t ∷ (u ++ rest)) none)

    last_later : (t : Lexeme) (u rest best : List Lexeme) (n k : ℕ) (b : Bool) → is_nesting nestings t ≡ b → LastIn u rest → nestings_in nestings u ≡ suc k → nestings_in nestings (t ∷ u) ≡ suc n → SplitsAtLast n (t ∷ u) rest (last_nesting ks (suc (length u)) best (t ∷ (u ++ rest)))
    last_later t u rest best n k b e later q h =
        let p = later (cond b (t ∷ (u ++ rest)) best) k q in
        (t ∷ p.0, p.1, p.2, ap (λ (w : List Lexeme). t ∷ w) p.3, p.4, omega (arith, more_nestings t u b e, more_nestings t p.0 b e, p.5, q, h), p.6, next_last t (u ++ rest) best (length u) b e ∙ p.7)

    last_cases : (t : Lexeme) (u rest best : List Lexeme) (n : ℕ) (b : Bool) → is_nesting nestings t ≡ b → (k : ℕ) → nestings_in nestings u ≡ k → LastIn u rest → nestings_in nestings (t ∷ u) ≡ suc n → SplitsAtLast n (t ∷ u) rest (last_nesting ks (suc (length u)) best (t ∷ (u ++ rest)))
    last_cases t u rest best n true e zero q later h = last_here t u rest best n e q h
    last_cases t u rest best n false e zero q later h = absurd (omega (arith, more_nestings t u false e, q, h))
    last_cases t u rest best n b e (suc k) q later h = last_later t u rest best n k b e later q h

    pub last_is : (u rest : List Lexeme) → LastIn u rest
    last_is [] rest best n h = absurd (omega (arith, h))
    last_is (t ∷ u) rest best n h = last_cases t u rest best n (is_nesting nestings t) refl (nestings_in nestings u) refl (last_is u rest) h

  same_tests : (a b : Bool) → (a ≡ true → b ≡ true) → (b ≡ true → a ≡ true) → a ≡ b
  same_tests true true f g = refl
  same_tests true false f g = sym (f refl)
  same_tests false true f g = g refl
  same_tests false false f g = refl

  same_nestings : (ks : List Terminal) → within ks nestings ≡ true → within nestings ks ≡ true → (t : Lexeme) → any_fits ks t ≡ is_nesting nestings t
  same_nestings ks f g t = same_tests (any_fits ks t) (is_nesting nestings t) (within_fits ks nestings t f) (within_fits nestings ks t g)

  pub record ForkCounted {A B : Type 0} (ks : List Terminal) (a : Syntax A) (b c : Syntax B) : Type 0 where
    pub head : tallies nestings a ≡ true
    pub head_guard : guards (suc max_nestings) a ≡ true
    pub one : is_counted nestings b ≡ true
    pub two : tallies nestings c ≡ true
    pub two_guard : guards (suc max_nestings) c ≡ true
    pub same : (t : Lexeme) → any_fits ks t ≡ is_nesting nestings t

  pub fork_counted : {A B : Type 0} (ks : List Terminal) (a : Syntax A) (b c : Syntax B) → is_counted nestings (Fork ks a b c) ≡ true → ForkCounted ks a b c
  unfolding is_counted
  fork_counted ks a b c fine =
      let f = and_three (tallies nestings a) (guards (suc max_nestings) a) (is_counted nestings b && (tallies nestings c && (guards (suc max_nestings) c && (within ks nestings && within nestings ks)))) fine in
      let g = and_three (is_counted nestings b) (tallies nestings c) (guards (suc max_nestings) c && (within ks nestings && within nestings ks)) f.2 in
      let k = and_three (guards (suc max_nestings) c) (within ks nestings) (within nestings ks) g.2 in
      record { head = f.0; head_guard = f.1; one = g.0; two = g.1; two_guard = k.0; same = same_nestings ks k.1 k.2 }

  pub charged_ends : {B : Type 0} (r : Reader B) (deep mid d : List Lexeme) (i : ℕ) → charged deep r i mid ≡ Err (TooDeep d) → ((i ≡ 0) × (d ≡ deep)) ⊎ ((j : ℕ) × (i ≡ suc j) × (r j mid ≡ Err (TooDeep d)))
  charged_ends r deep mid d zero h = inl (refl, let e : TooDeep deep ≡ TooDeep d = cc in cc)
  charged_ends r deep mid d (suc j) h = inr (j, refl, h)

  abbrev Found : List Lexeme → List Lexeme → (List Lexeme → Lexeme → List Lexeme → Type 0) → Type 0
  Found ts d Q = (u : List Lexeme) × (t : Lexeme) × (rest : List Lexeme) × (d ≡ t ∷ rest) × (ts ≡ u ++ t ∷ rest) × Q u t rest

  after_all : {A B : Type 0} (ks : List Terminal) (same : (t : Lexeme) → any_fits ks t ≡ is_nesting nestings t) (a : Syntax A) (c : Syntax B) (u mid : List Lexeme) (y : A) (ts d : List Lexeme) → ts ≡ u ++ mid → Spells a u y → max_nestings ≡ nestings_in nestings u
      → starts (first c) mid ≡ true → d ≡ last_nesting ks (length ts - length mid) mid ts → Found ts d (IsFullAfterAll nestings a c)
  after_all ks same a c u mid y ts d parts spelled full opens deep =
      let s = last_is ks same u mid mid 511 (omega (arith, full)) in
      let len : length ts - length mid ≡ length u = omega (arith, ap length parts, length-append u mid) in
      let there : d ≡ s.1 ∷ (s.2 ++ mid) = deep ∙ ap (λ (k : ℕ). last_nesting ks k mid ts) len ∙ ap (λ (w : List Lexeme). last_nesting ks (length u) mid w) parts ∙ s.7 in
      let front : ts ≡ s.0 ++ s.1 ∷ (s.2 ++ mid) = parts ∙ ap (λ (w : List Lexeme). w ++ mid) s.3 ∙ append_assoc s.0 (s.1 ∷ s.2) mid in
      (s.0, s.1, s.2 ++ mid, there, front, (s.2, mid, y, refl, subst (λ (w : List Lexeme). Spells a w y) s.3 spelled, omega (arith, s.5), s.4, s.6, opens))

  pub over_whole : {A : Type 0} (s : Syntax A) → is_counted nestings s ≡ true → Overs (read s) (IsOver nestings s)
  unfolding read is_counted IsOver
  over_whole (Past a) fine m ts d h = absurd cc
  over_whole (Token k) fine m [] d h = absurd (let e : Unexpected [] ≡ TooDeep d = cc in cc)
  over_whole (Token k) fine m (t ∷ ts) d h =
      elim (chosen (fits k t) _ _ _ h) [ inl c ↦ absurd (let w = c.1 in cc) | inr c ↦ absurd (let w = c.1 in let e : Unexpected (t ∷ ts) ≡ TooDeep d = cc in cc) ]
  over_whole (Nesting k) fine m ts d h = absurd cc
  over_whole (Whole a) fine m ts d h =
      let f = and_parts (tallies nestings a) (guards (suc max_nestings) a) fine in
      let p = over a f.0 (suc max_nestings) f.1 max_nestings ts d (omega arith) h in
      let begun : Begins a (p.0 ++ p.1 ∷ []) = (p.7.0, p.7.1, rw (append_assoc p.0 (p.1 ∷ []) p.7.0) p.7.2) in
      (p.0, p.1, p.2, p.3, p.4, (p.5, p.6, begun))
  over_whole (Known fs ms a) fine m ts d h = over_whole a fine m ts d h
  over_whole (Then a b) fine m ts d h =
      let f = and_parts (is_counted nestings a) (is_counted nestings b) fine in
      elim (bind_err (read a m ts) _ (TooDeep d) h) [
        | inl e ↦ let p = over_whole a f.0 m ts d e in (p.0, p.1, p.2, p.3, p.4, inl p.5)
        | inr q ↦
            elim (bind_err (read b q.1 q.2) _ (TooDeep d) q.4) [
              | inl e ↦
                  let t = sound a m ts q.0 q.1 q.2 q.3 in
                  let p = over_whole b f.1 q.1 q.2 d e in
                  let parts : ts ≡ (t.0 ++ p.0) ++ p.1 ∷ p.2 = t.1 ∙ ap (λ (w : List Lexeme). t.0 ++ w) p.4 ∙ sym (append_assoc t.0 p.0 (p.1 ∷ p.2)) in
                  (t.0 ++ p.0, p.1, p.2, p.3, parts, inr (t.0, p.0, q.0, refl, t.2, p.5))
              | inr z ↦ absurd (let w = z.4 in cc)
            ]
      ]
  over_whole (Map f a) fine m ts d h =
      elim (bind_err (read a m ts) _ (TooDeep d) h) [ inl e ↦ over_whole a fine m ts d e | inr z ↦ absurd (let w = z.4 in cc) ]
  over_whole (Either a b) fine m ts d h =
      let f = and_parts (is_counted nestings a) (is_counted nestings b) fine in
      elim (chosen (starts (first a) ts) _ _ _ h) [
        | inl c ↦ let p = over_whole a f.0 m ts d c.1 in (p.0, p.1, p.2, p.3, p.4, inl p.5)
        | inr c ↦ let p = over_whole b f.1 m ts d c.1 in (p.0, p.1, p.2, p.3, p.4, inr p.5)
      ]
  over_whole (Maybe a) fine m ts d h =
      elim (chosen (starts (first a) ts) _ _ _ h) [
        | inl c ↦ elim (bind_err (read a m ts) _ (TooDeep d) c.1) [ inl e ↦ over_whole a fine m ts d e | inr z ↦ absurd (let w = z.4 in cc) ]
        | inr c ↦ absurd (let w = c.1 in cc)
      ]
  over_whole (Many a) fine m ts d h = repeated_overs (read a) (Spells a) (IsOver nestings a) (first a) (sound a) (over_whole a fine) (length ts) m ts d h
  over_whole (Fork ks a b c) fine m ts d h =
      let f = fork_counted ks a b c fine in
      elim (bind_err (read a max_nestings ts) _ (TooDeep d) h) [
        | inl e ↦
            let p = over a f.head (suc max_nestings) f.head_guard max_nestings ts d (omega arith) e in
            (p.0, p.1, p.2, p.3, p.4, inl (inl (p.5, p.6, (p.7.0, p.7.1, rw (append_assoc p.0 (p.1 ∷ []) p.7.0) p.7.2))))
        | inr q ↦
            let t = counts a f.head max_nestings ts q.0 q.1 q.2 q.3 in
            let deep = last_nesting ks (length ts - length q.2) q.2 ts in
            elim (bind_err (either_rest (first b) (read b) (first c) (charged deep (read c)) q.1 q.2) _ (TooDeep d) q.4) [
              | inl e ↦
                  elim (chosen (starts (first b) q.2) _ _ _ e) [
                    | inl g ↦
                        let p = over_whole b f.one q.1 q.2 d g.1 in
                        let parts : ts ≡ (t.0 ++ p.0) ++ p.1 ∷ p.2 = t.1 ∙ ap (λ (w : List Lexeme). t.0 ++ w) p.4 ∙ sym (append_assoc t.0 p.0 (p.1 ∷ p.2)) in
                        (t.0 ++ p.0, p.1, p.2, p.3, parts, inl (inr (t.0, p.0, q.0, refl, t.2, p.5)))
                    | inr g ↦
                        elim (chosen (starts (first c) q.2) _ _ _ g.1) [
                          | inl k ↦
                              elim (charged_ends (read c) deep q.2 d q.1 k.1) [
                                | inl z ↦
                                    let s = after_all ks f.same a c t.0 q.2 q.0 ts d t.1 t.2 (omega (arith, t.3, z.0)) k.0 z.1 in
                                    (s.0, s.1, s.2, s.3, s.4, inr (inr s.5))
                                | inr z ↦
                                    let p = over c f.two (suc max_nestings) f.two_guard z.0 q.2 d (omega (arith, t.3, z.1)) z.2 in
                                    let parts : ts ≡ (t.0 ++ p.0) ++ p.1 ∷ p.2 = t.1 ∙ ap (λ (w : List Lexeme). t.0 ++ w) p.4 ∙ sym (append_assoc t.0 p.0 (p.1 ∷ p.2)) in
                                    let begun : Begins c (p.0 ++ p.1 ∷ []) = (p.7.0, p.7.1, rw (append_assoc p.0 (p.1 ∷ []) p.7.0) p.7.2) in
                                    (t.0 ++ p.0, p.1, p.2, p.3, parts, inr (inl (t.0, p.0, q.0, refl, t.2, omega (arith, t.3, z.1, p.5), p.6, begun)))
                              ]
                          | inr k ↦ absurd (let w = k.1 in let e : Unexpected q.2 ≡ TooDeep d = cc in cc)
                        ]
                  ]
              | inr z ↦ absurd (let w = z.4 in cc)
            ]
      ]
