-- Where reading stops at a token that does not fit, what stands before it begins a sentence in which none of these tokens is a
-- nesting too many.
use Rattle.std.proofs.Common.{◌≡◌, ℕ, zero, suc, ◌+◌, ◌-◌, ◌≤◌, true, not, List, [], ◌∷◌, ◌++◌, length, Some, Ok, Err, refl, sym, ap, subst, ◌∙◌, append_assoc, arith, inl, inr, ◌⊎◌}
use Rattle.std.proofs.lemmas.List.{append-nil, length-append, append_cancel_right}
use Rattle.std.proofs.lemmas.Bool.{and_parts}
use Rattle.lola_parser_grammar.specs.Syntax.{Lexeme, Terminal, fits, apart, within, Syntax, Past, Token, Nesting, Whole, Known, Then, Map, Either, Maybe, Many, Fork, charged, either_rest, last_nesting, Repeats, Spells, starts, first, nullable, more, is_fine, Unexpected, TooDeep, Reader, counted, max_nestings, repeated, read}
use Rattle.lola_parser_grammar.specs.Nestings.{guards, nestings_in, tallies, is_counted}
use Rattle.lola_parser_grammar.proofs.Laws.{chosen}
use Rattle.lola_parser_grammar.proofs.Complete.{and_three, choice_parts, known_parts, fork_is}
use Rattle.lola_parser_grammar.proofs.Viable.{sample, bind_err, viable}
use Rattle.lola_parser_grammar.proofs.Within.{nestings-append}
use Rattle.lola_parser_grammar.proofs.Over.{Counts, counts, fork_counted}
use Rattle.lola_parser.specs.Late.{IsNestingBehind}
use Rattle.lola_parser.proofs.Keeps.{Keeps, KeepsAmong, few_all, few_front, keeps_none, keeps_whole, keeps_then, keeps_left, keeps_right, keeps_map, keeps_some, keeps_nil, keeps_cons, keeps_list, keeps_bracket}
use Rattle.lola_parser.proofs.Kept.{IsKept, read_kept}

module _ (nestings : List Terminal) where
  -- ---- where each nesting counts, no more of them stand before the place than may come

  abbrev IsBound : {A : Type 0} → Reader A → Type 0
  IsBound r = (m : ℕ) (ts rest : List Lexeme) → r m ts ≡ Err (Unexpected rest) → (p : List Lexeme) × (ts ≡ p ++ rest) × (nestings_in nestings p ≤ m)

  next_bound : (m i : ℕ) (ts mid u p rest : List Lexeme) → ts ≡ u ++ mid → m ≡ i + nestings_in nestings u → mid ≡ p ++ rest → nestings_in nestings p ≤ i → (q : List Lexeme) × (ts ≡ q ++ rest) × (nestings_in nestings q ≤ m)
  next_bound m i ts mid u p rest parts count there le =
      (u ++ p, parts ∙ ap (λ (w : List Lexeme). u ++ w) there ∙ sym (append_assoc u p rest), omega (arith, count, le, nestings-append nestings u p))

  repeated_bound : {A : Type 0} (r : Reader A) (P : List Lexeme → A → Type 0) (ks : List Terminal) → Counts nestings r P → IsBound r → (n : ℕ) → IsBound (repeated r ks n)
  repeated_bound r P ks each bound zero m ts rest h = absurd cc
  repeated_bound r P ks each bound (suc n) m ts rest h =
      elim (chosen (starts ks ts) _ _ _ h) [
        | inl c ↦
            elim (bind_err (r m ts) _ (Unexpected rest) c.1) [
              | inl e ↦ bound m ts rest e
              | inr q ↦
                  elim (bind_err (repeated r ks n q.1 q.2) _ (Unexpected rest) q.4) [
                    | inl e ↦
                        let t = each m ts q.0 q.1 q.2 q.3 in
                        let p = repeated_bound r P ks each bound n q.1 q.2 rest e in
                        next_bound m q.1 ts q.2 t.0 p.0 rest t.1 t.3 p.1 p.2
                    | inr z ↦ absurd (let w = z.4 in cc)
                  ]
            ]
        | inr c ↦ absurd (let w = c.1 in cc)
      ]

  at_once : (m : ℕ) (ts rest : List Lexeme) → ts ≡ rest → (p : List Lexeme) × (ts ≡ p ++ rest) × (nestings_in nestings p ≤ m)
  at_once m ts rest e = ([], e, omega arith)

  counted_not : (t : Lexeme) (m : ℕ) (ts rest : List Lexeme) → counted t m ts ≡ Err (Unexpected rest) → ⊥
  counted_not t zero ts rest h = let e : TooDeep (t ∷ ts) ≡ Unexpected rest = cc in absurd cc
  counted_not t (suc m) ts rest h = absurd cc

  bound : {A : Type 0} (s : Syntax A) → tallies nestings s ≡ true → IsBound (read s)
  unfolding read tallies
  bound (Past a) tally m ts rest h = absurd (let e : TooDeep ts ≡ Unexpected rest = cc in cc)
  bound (Token k) tally m [] rest h = at_once m [] rest (let e : Unexpected [] ≡ Unexpected rest = cc in cc)
  bound (Token k) tally m (t ∷ ts) rest h =
      elim (chosen (fits k t) _ _ _ h) [ inl c ↦ absurd (let w = c.1 in cc) | inr c ↦ at_once m (t ∷ ts) rest (let w = c.1 in let e : Unexpected (t ∷ ts) ≡ Unexpected rest = cc in cc) ]
  bound (Nesting k) tally m [] rest h = at_once m [] rest (let e : Unexpected [] ≡ Unexpected rest = cc in cc)
  bound (Nesting k) tally m (t ∷ ts) rest h =
      elim (chosen (fits k t) _ _ _ h) [ inl c ↦ absurd (counted_not t m ts rest c.1) | inr c ↦ at_once m (t ∷ ts) rest (let w = c.1 in let e : Unexpected (t ∷ ts) ≡ Unexpected rest = cc in cc) ]
  bound (Whole a) tally m ts rest h = absurd cc
  bound (Known fs ms a) tally m ts rest h = bound a tally m ts rest h
  bound (Then a b) tally m ts rest h =
      let w = and_parts (tallies nestings a) (tallies nestings b) tally in
      elim (bind_err (read a m ts) _ (Unexpected rest) h) [
        | inl e ↦ bound a w.0 m ts rest e
        | inr q ↦
            elim (bind_err (read b q.1 q.2) _ (Unexpected rest) q.4) [
              | inl e ↦
                  let t = counts nestings a w.0 m ts q.0 q.1 q.2 q.3 in
                  let p = bound b w.1 q.1 q.2 rest e in
                  next_bound m q.1 ts q.2 t.0 p.0 rest t.1 t.3 p.1 p.2
              | inr z ↦ absurd (let v = z.4 in cc)
            ]
      ]
  bound (Map f a) tally m ts rest h = elim (bind_err (read a m ts) _ (Unexpected rest) h) [ inl e ↦ bound a tally m ts rest e | inr z ↦ absurd (let w = z.4 in cc) ]
  bound (Either a b) tally m ts rest h =
      let w = and_parts (tallies nestings a) (tallies nestings b) tally in
      elim (chosen (starts (first a) ts) _ _ _ h) [ inl c ↦ bound a w.0 m ts rest c.1 | inr c ↦ bound b w.1 m ts rest c.1 ]
  bound (Maybe a) tally m ts rest h =
      elim (chosen (starts (first a) ts) _ _ _ h) [
        | inl c ↦ elim (bind_err (read a m ts) _ (Unexpected rest) c.1) [ inl e ↦ bound a tally m ts rest e | inr z ↦ absurd (let w = z.4 in cc) ]
        | inr c ↦ absurd (let w = c.1 in cc)
      ]
  bound (Many a) tally m ts rest h = repeated_bound (read a) (Spells a) (first a) (counts nestings a tally) (bound a tally) (length ts) m ts rest h
  bound (Fork ks a b c) tally m ts rest h = absurd cc

  -- what stands before the place begins a sentence, and few nestings stand there
  abbrev IsBegun : {A : Type 0} → Syntax A → ℕ → List Lexeme → List Lexeme → Type 0
  IsBegun {A} s m ts rest = (p : List Lexeme) × (q : List Lexeme) × (x : A) × (ts ≡ p ++ rest) × Spells s (p ++ q) x × (nestings_in nestings p ≤ m)

  begun : {A : Type 0} (s : Syntax A) → tallies nestings s ≡ true → (m : ℕ) (ts rest : List Lexeme) → read s m ts ≡ Err (Unexpected rest) → IsBegun s m ts rest
  begun s tally m ts rest h =
      let v = viable s m ts rest h in
      let b = bound s tally m ts rest h in
      let same : b.0 ≡ v.0 = append_cancel_right b.0 v.0 rest (sym b.1 ∙ v.1) in
      (v.0, v.2, v.3, v.1, v.4, subst (λ (w : List Lexeme). nestings_in nestings w ≤ m) same b.2)

  -- ---- whole expressions

  -- What stands before the place begins the sentence z, and none of these tokens is a nesting too many in it.
  abbrev pub IsGoing : {A : Type 0} → Syntax A → List Lexeme → List Lexeme → Type 0
  IsGoing {A} s ts rest = (p : List Lexeme) × (q : List Lexeme) × (z : List Lexeme) × (x : A) × (ts ≡ p ++ rest) × (z ≡ p ++ q) × Spells s z x × Keeps nestings max_nestings s (length p) z x

  abbrev IsGoingAmong : {A : Type 0} → Syntax A → List Lexeme → List Lexeme → Type 0
  IsGoingAmong {A} a ts rest = (p : List Lexeme) × (q : List Lexeme) × (z : List Lexeme) × (xs : List A) × (ts ≡ p ++ rest) × (z ≡ p ++ q) × Repeats (Spells a) z xs × KeepsAmong nestings max_nestings a (length p) z xs

  behind : (ts u mid p rest : List Lexeme) → ts ≡ u ++ mid → mid ≡ p ++ rest → ts ≡ (u ++ p) ++ rest
  behind ts u mid p rest e f = e ∙ ap (λ (w : List Lexeme). u ++ w) f ∙ sym (append_assoc u p rest)

  longer : (z p q : List Lexeme) → z ≡ p ++ q → length p ≤ length z
  longer z p q e = omega (arith, ap length e, length-append p q)

  repeated_going : {A : Type 0} (a : Syntax A) → is_fine a ≡ true → apart (more a) (first a) ≡ true → ((m : ℕ) (ts : List Lexeme) (x : A) (i : ℕ) (rest : List Lexeme) → read a m ts ≡ Ok (x, i, rest) → IsKept nestings a ts x rest)
      → ((m : ℕ) (ts rest : List Lexeme) → read a m ts ≡ Err (Unexpected rest) → IsGoing a ts rest) → (n m : ℕ) (ts rest : List Lexeme) → repeated (read a) (first a) n m ts ≡ Err (Unexpected rest) → IsGoingAmong a ts rest
  repeated_going a fine away each goes zero m ts rest h = absurd cc
  repeated_going a fine away each goes (suc n) m ts rest h =
      elim (chosen (starts (first a) ts) _ _ _ h) [
        | inl c ↦
            elim (bind_err (read a m ts) _ (Unexpected rest) c.1) [
              | inl e ↦
                  let g = goes m ts rest e in
                  let one = keeps_cons nestings max_nestings a fine away (length g.0) 0 g.2 [] [] g.3 [] g.6 refl refl g.7 (keeps_nil nestings max_nestings a 0 []) (let le = longer g.2 g.0 g.1 g.5 in omega (arith, le)) in
                  (g.0, g.1, g.2 ++ [], g.3 ∷ [], g.4, append-nil g.2 ∙ g.5, (g.2, [], refl, g.6, refl), one)
              | inr q ↦
                  elim (bind_err (repeated (read a) (first a) n q.1 q.2) _ (Unexpected rest) q.4) [
                    | inl e ↦
                        let t = each m ts q.0 q.1 q.2 q.3 in
                        let g = repeated_going a fine away each goes n q.1 q.2 rest e in (
                          t.0 ++ g.0,
                          g.1,
                          t.0 ++ g.2,
                          q.0 ∷ g.3,
                          behind ts t.0 q.2 g.0 rest t.1 g.4,
                          ap (λ (w : List Lexeme). t.0 ++ w) g.5 ∙ sym (append_assoc t.0 g.0 g.1),
                          (t.0, g.2, refl, t.2, g.6),
                          keeps_cons nestings max_nestings a fine away (length (t.0 ++ g.0)) (length g.0) t.0 g.2 [] q.0 g.3 t.2 g.6 refl (t.3 (length (t.0 ++ g.0))) g.7 (omega (arith, length-append t.0 g.0)),
                        )
                    | inr z ↦ absurd (let w = z.4 in cc)
                  ]
            ]
        | inr c ↦ absurd (let w = c.1 in cc)
      ]

  charged_stops : {B : Type 0} (r : Reader B) (deep mid : List Lexeme) (i : ℕ) (rest : List Lexeme) → charged deep r i mid ≡ Err (Unexpected rest) → (j : ℕ) × (i ≡ suc j) × (r j mid ≡ Err (Unexpected rest))
  charged_stops r deep mid zero rest h = absurd (let e : TooDeep deep ≡ Unexpected rest = cc in cc)
  charged_stops r deep mid (suc j) rest h = (j, refl, h)

  either_stops : {B : Type 0} (fs gs : List Terminal) (r s : Reader B) (i : ℕ) (mid rest : List Lexeme) → either_rest fs r gs s i mid ≡ Err (Unexpected rest) → (r i mid ≡ Err (Unexpected rest)) ⊎ ((s i mid ≡ Err (Unexpected rest)) ⊎ (mid ≡ rest))
  either_stops fs gs r s i mid rest h =
      elim (chosen (starts fs mid) _ _ _ h) [
        | inl c ↦ inl c.1
        | inr c ↦ elim (chosen (starts gs mid) _ _ _ c.1) [ inl d ↦ inr (inl d.1) | inr d ↦ inr (inr (let w = d.1 in let e : Unexpected mid ≡ Unexpected rest = cc in cc)) ]
      ]

  pub going : {A : Type 0} (s : Syntax A) → is_fine s ≡ true → is_counted nestings s ≡ true → (m : ℕ) (ts rest : List Lexeme) → read s m ts ≡ Err (Unexpected rest) → IsGoing s ts rest
  unfolding read Spells is_fine is_counted IsNestingBehind
  going (Past a) fine count m ts rest h = absurd (let e : TooDeep ts ≡ Unexpected rest = cc in cc)
  going (Token k) fine count m ts rest h =
      let v = viable (Token k) m ts rest h in
      (v.0, v.2, v.0 ++ v.2, v.3, v.1, refl, v.4, λ j u s w parts low g. absurd g)
  going (Nesting k) fine count m ts rest h = absurd (let c = count in cc)
  going (Whole a) fine count m ts rest h =
      let c = and_parts (tallies nestings a) (guards (suc max_nestings) a) count in
      let g = begun a c.0 max_nestings ts rest h in
      (g.0, g.1, g.0 ++ g.1, g.2, g.3, refl, g.4, keeps_whole nestings max_nestings a (length g.0) (g.0 ++ g.1) g.2 (few_front nestings max_nestings 0 (g.0 ++ g.1) g.0 g.1 refl (omega (arith, g.5))))
  going (Known fs ms a) fine count m ts rest h =
      let f = known_parts (is_fine a) (nullable a) (within (first a) fs) (within (more a) ms) fine in
      going a f.0 count m ts rest h
  going (Then a b) fine count m ts rest h =
      let f = and_three (is_fine a) (is_fine b) (apart (more a) (first b)) fine in
      let c = and_parts (is_counted nestings a) (is_counted nestings b) count in
      elim (bind_err (read a m ts) _ (Unexpected rest) h) [
        | inl e ↦
            let g = going a f.0 c.0 m ts rest e in
            let o = sample b in (
              g.0,
              g.1 ++ o.0,
              g.2 ++ o.0,
              (g.3, o.1),
              g.4,
              ap (λ (w : List Lexeme). w ++ o.0) g.5 ∙ append_assoc g.0 g.1 o.0,
              (g.2, o.0, refl, g.6, o.2),
              keeps_then nestings max_nestings a b f.0 f.1 f.2 (length g.0) 0 g.2 o.0 [] (g.3, o.1) g.6 o.2 refl g.7 (keeps_none nestings max_nestings b o.0 o.1) (let le = longer g.2 g.0 g.1 g.5 in omega (arith, le)),
            )
        | inr q ↦
            elim (bind_err (read b q.1 q.2) _ (Unexpected rest) q.4) [
              | inl e ↦
                  let t = read_kept nestings a f.0 c.0 m ts q.0 q.1 q.2 q.3 in
                  let g = going b f.1 c.1 q.1 q.2 rest e in (
                    t.0 ++ g.0,
                    g.1,
                    t.0 ++ g.2,
                    (q.0, g.3),
                    behind ts t.0 q.2 g.0 rest t.1 g.4,
                    ap (λ (w : List Lexeme). t.0 ++ w) g.5 ∙ sym (append_assoc t.0 g.0 g.1),
                    (t.0, g.2, refl, t.2, g.6),
                    keeps_then nestings max_nestings a b f.0 f.1 f.2 (length (t.0 ++ g.0)) (length g.0) t.0 g.2 [] (q.0, g.3) t.2 g.6 refl (t.3 (length (t.0 ++ g.0))) g.7 (omega (arith, length-append t.0 g.0)),
                  )
              | inr z ↦ absurd (let w = z.4 in cc)
            ]
      ]
  going (Map f a) fine count m ts rest h =
      elim (bind_err (read a m ts) _ (Unexpected rest) h) [
        | inl e ↦ let g = going a fine count m ts rest e in (g.0, g.1, g.2, f g.3, g.4, g.5, (g.3, refl, g.6), keeps_map nestings max_nestings f a fine (length g.0) g.2 g.3 g.6 g.7)
        | inr z ↦ absurd (let w = z.4 in cc)
      ]
  going (Either a b) fine count m ts rest h =
      let f = choice_parts (is_fine a) (is_fine b) (nullable a) (nullable b) (apart (first a) (first b)) fine in
      let c = and_parts (is_counted nestings a) (is_counted nestings b) count in
      elim (chosen (starts (first a) ts) _ _ _ h) [
        | inl k ↦ let g = going a f.0 c.0 m ts rest k.1 in (g.0, g.1, g.2, g.3, g.4, g.5, inl g.6, keeps_left nestings max_nestings a b f.0 f.1 f.4 (length g.0) g.2 g.3 g.6 g.7)
        | inr k ↦ let g = going b f.1 c.1 m ts rest k.1 in (g.0, g.1, g.2, g.3, g.4, g.5, inr g.6, keeps_right nestings max_nestings a b f.0 f.1 f.4 (length g.0) g.2 g.3 g.6 g.7)
      ]
  going (Maybe a) fine count m ts rest h =
      let f = and_parts (is_fine a) (not (nullable a)) fine in
      elim (chosen (starts (first a) ts) _ _ _ h) [
        | inl k ↦
            elim (bind_err (read a m ts) _ (Unexpected rest) k.1) [
              | inl e ↦ let g = going a f.0 count m ts rest e in (g.0, g.1, g.2, Some g.3, g.4, g.5, g.6, keeps_some nestings max_nestings a (length g.0) g.2 g.3 g.7)
              | inr z ↦ absurd (let w = z.4 in cc)
            ]
        | inr k ↦ absurd (let w = k.1 in cc)
      ]
  going (Many a) fine count m ts rest h =
      let f = and_three (is_fine a) (not (nullable a)) (apart (more a) (first a)) fine in
      repeated_going a f.0 f.2 (read_kept nestings a f.0 count) (going a f.0 count) (length ts) m ts rest h
  going (Fork ks a b c) fine count m ts rest h =
      let f = fork_is ks a b c fine in
      let k = fork_counted nestings ks a b c count in
      let o = sample b in
      elim (bind_err (read a max_nestings ts) _ (Unexpected rest) h) [
        | inl e ↦
            let g = begun a k.head max_nestings ts rest e in (
              g.0,
              g.1 ++ o.0,
              (g.0 ++ g.1) ++ o.0,
              (g.2, o.1),
              g.3,
              append_assoc g.0 g.1 o.0,
              (g.0 ++ g.1, o.0, refl, g.4, inl o.2),
              keeps_list nestings max_nestings ks a b c f (length g.0) 0 (g.0 ++ g.1) o.0 (g.2, o.1) g.4 o.2 (few_front nestings max_nestings 0 (g.0 ++ g.1) g.0 g.1 refl (omega (arith, g.5))) (keeps_none nestings max_nestings b o.0 o.1) (omega (arith, length-append g.0 g.1)),
            )
        | inr q ↦
            let t = counts nestings a k.head max_nestings ts q.0 q.1 q.2 q.3 in
            let deep = last_nesting ks (length ts - length q.2) q.2 ts in
            elim (bind_err (either_rest (first b) (read b) (first c) (charged deep (read c)) q.1 q.2) _ (Unexpected rest) q.4) [
              | inl e ↦
                  elim (either_stops (first b) (first c) (read b) (charged deep (read c)) q.1 q.2 rest e) [
                    | inl l ↦
                        let g = going b f.one.0 k.one q.1 q.2 rest l in (
                          t.0 ++ g.0,
                          g.1,
                          t.0 ++ g.2,
                          (q.0, g.3),
                          behind ts t.0 q.2 g.0 rest t.1 g.4,
                          ap (λ (w : List Lexeme). t.0 ++ w) g.5 ∙ sym (append_assoc t.0 g.0 g.1),
                          (t.0, g.2, refl, t.2, inl g.6),
                          keeps_list nestings max_nestings ks a b c f (length (t.0 ++ g.0)) (length g.0) t.0 g.2 (q.0, g.3) t.2 g.6 (few_all nestings max_nestings 0 (length (t.0 ++ g.0)) t.0 (omega (arith, t.3))) g.7 (omega (arith, length-append t.0 g.0)),
                        )
                    | inr l ↦
                        elim l [
                          | inl n ↦
                              let j = charged_stops (read c) deep q.2 q.1 rest n in
                              let g = begun c k.two j.0 q.2 rest j.2 in (
                                t.0 ++ g.0,
                                g.1,
                                t.0 ++ (g.0 ++ g.1),
                                (q.0, g.2),
                                behind ts t.0 q.2 g.0 rest t.1 g.3,
                                sym (append_assoc t.0 g.0 g.1),
                                (t.0, g.0 ++ g.1, refl, t.2, inr g.4),
                                keeps_bracket nestings max_nestings ks a b c f (length (t.0 ++ g.0)) (length g.0) t.0 (g.0 ++ g.1) (q.0, g.2) t.2 g.4 (few_all nestings max_nestings 1 (length (t.0 ++ g.0)) t.0 (omega (arith, t.3, j.1)))
                                    (few_front nestings max_nestings (suc (nestings_in nestings t.0)) (g.0 ++ g.1) g.0 g.1 refl (omega (arith, t.3, j.1, g.5))) (omega (arith, length-append t.0 g.0)),
                              )
                          | inr n ↦ (
                            t.0,
                            o.0,
                            t.0 ++ o.0,
                            (q.0, o.1),
                            t.1 ∙ ap (λ (w : List Lexeme). t.0 ++ w) n,
                            refl,
                            (t.0, o.0, refl, t.2, inl o.2),
                            keeps_list nestings max_nestings ks a b c f (length t.0) 0 t.0 o.0 (q.0, o.1) t.2 o.2 (few_all nestings max_nestings 0 (length t.0) t.0 (omega (arith, t.3))) (keeps_none nestings max_nestings b o.0 o.1) (omega arith),
                          )
                        ]
                  ]
              | inr z ↦ absurd (let w = z.4 in cc)
            ]
      ]
