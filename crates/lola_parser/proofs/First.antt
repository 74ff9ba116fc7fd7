-- Which nesting of a sentence its reading ends at: the first that is too many, or behind a bracket that is a nesting the next one,
-- and then no nesting before the last one is too many.
use Rattle.std.proofs.Common.{◌≡◌, ℕ, zero, suc, ◌+◌, ◌-◌, ◌≤◌, Bool, true, false, cond, not, List, [], ◌∷◌, ◌++◌, length, Some, None, Ok, Err, refl, sym, ap, subst, ◌∙◌, append_assoc, arith, inl, inr, ◌⊎◌}
use Rattle.std.proofs.lemmas.List.{length-append, append_cancel_right}
use Rattle.std.proofs.lemmas.Bool.{and_parts, not-true, false_from_ne_true}
use Rattle.lola_parser_grammar.specs.Syntax.{Lexeme, Terminal, fits, any_fits, apart, within, Syntax, Past, Token, Nesting, Whole, Known, Then, Map, Either, Maybe, Many, Fork, charged, either_rest, last_nesting, Repeats, Spells, starts, first, nullable, more, is_fine, Unexpected, TooDeep, Outcome, ◌>>=◌, take_token, max_nestings, repeated, read}
use Rattle.lola_parser_grammar.specs.Nestings.{guards, is_nesting, nestings_in, tallies, is_counted}
use Rattle.lola_parser_grammar.specs.Exceeding.{ExceedsAmong}
use Rattle.lola_parser_grammar.proofs.Tests.{apart_excludes}
use Rattle.lola_parser_grammar.proofs.Laws.{chosen, done_is}
use Rattle.lola_parser_grammar.proofs.Complete.{and_three, choice_parts, known_parts, fork_is, begins, spells_nil, any_split, follows, tail_stops, stops_within, fork_follows, complete, OkOrDeep, ForkParts}
use Rattle.lola_parser_grammar.proofs.Viable.{bind_err}
use Rattle.lola_parser_grammar.proofs.Within.{complete_within}
use Rattle.lola_parser_grammar.proofs.Over.{counts, ForkCounted, fork_counted, charged_ends, last_is}
use Rattle.lola_parser_grammar.proofs.Exactly.{few_or_more, too_many, opens_part, misses_part}
use Rattle.lola_parser.specs.Late.{IsNestingBehind, IsNextBehindBracket}
use Rattle.lola_parser.proofs.Keeps.{Keeps, KeepsAmong, few_all, few_front, keeps_none, keeps_whole, keeps_then, keeps_left, keeps_right, keeps_map, keeps_some, keeps_cons, keeps_list, keeps_bracket, after_item}
use Rattle.lola_parser.proofs.Kept.{read_kept}

-- what was read of a sentence, where reading it ended
pub done_or_not : {A : Type 0} (o : Outcome A) (x y : A) (i : ℕ) (rest mid : List Lexeme) → OkOrDeep o x rest → o ≡ Ok (y, i, mid) → (x ≡ y) × (rest ≡ mid)
done_or_not o x y i rest mid (inl e) h = let q = done_is x y e.0 i rest mid (sym e.1 ∙ h) in (q.0, q.2)
done_or_not o x y i rest mid (inr e) h = absurd (let d = e.1 in cc)

pub chosen_true : {A : Type 0} (b : Bool) (x y z : A) → b ≡ true → cond b x y ≡ z → x ≡ z
chosen_true true x y z e h = h
chosen_true false x y z e h = absurd cc

pub chosen_false : {A : Type 0} (b : Bool) (x y z : A) → b ≡ false → cond b x y ≡ z → y ≡ z
chosen_false true x y z e h = absurd cc
chosen_false false x y z e h = h

pub token_never : (k : Terminal) (m : ℕ) (ts d : List Lexeme) → take_token k m ts ≡ Err (TooDeep d) → ⊥
token_never k m [] d g = absurd (let q : Unexpected [] ≡ TooDeep d = cc in cc)
token_never k m (t ∷ ts) d g = elim (chosen (fits k t) _ _ _ g) [ inl c ↦ absurd (let w = c.1 in cc) | inr c ↦ absurd (let w = c.1 in let q : Unexpected (t ∷ ts) ≡ TooDeep d = cc in cc) ]

module _ (nestings : List Terminal) where
  abbrev WithNestings : Type 1
  WithNestings = List Lexeme → Lexeme → List Lexeme → Type 0

  -- none before the last nesting of u is too many
  abbrev pub IsBehindLast : WithNestings → (ℕ → Type 0) → WithNestings
  IsBehindLast N K u t v = N u t v × (a : List Lexeme) × (m : Lexeme) × (b : List Lexeme) × (u ≡ a ++ m ∷ b) × (nestings_in nestings b ≡ 0) × (is_nesting nestings m ≡ true) × K (length a)

  abbrev Firsts : WithNestings → WithNestings → (ℕ → Type 0) → List Lexeme → List Lexeme → List Lexeme → Type 0
  Firsts Q N K z rest d = (u : List Lexeme) × (t : Lexeme) × (v : List Lexeme) × (z ≡ u ++ t ∷ v) × (d ≡ t ∷ (v ++ rest)) × ((Q u t v × K (length u)) ⊎ IsBehindLast N K u t v)

  -- of the sentence z and what follows it, reading ended at its first nesting too many, or at the next nesting
  abbrev pub IsFirst : {A : Type 0} → Syntax A → List Lexeme → A → List Lexeme → List Lexeme → Type 0
  IsFirst s z x rest d = Firsts (λ u t v. IsNestingBehind nestings max_nestings s u t v x) (λ u t v. IsNextBehindBracket nestings s u t v x) (λ n. Keeps nestings max_nestings s n z x) z rest d

  abbrev IsFirstAmong : {A : Type 0} → Syntax A → List Lexeme → List A → List Lexeme → List Lexeme → Type 0
  IsFirstAmong a z xs rest d = Firsts (λ u t v. ExceedsAmong (IsNestingBehind nestings max_nestings a) (Spells a) u t v xs) (λ u t v. ExceedsAmong (IsNextBehindBracket nestings a) (Spells a) u t v xs) (λ n. KeepsAmong nestings max_nestings a n z xs) z rest d

  -- it stands in the first of two parts
  in_first : (Q N R M : WithNestings) (K L : ℕ → Type 0) (z1 z2 rest d : List Lexeme) → Firsts Q N K z1 (z2 ++ rest) d
      → ((u : List Lexeme) (t : Lexeme) (v : List Lexeme) → Q u t v → R u t (v ++ z2)) → ((u : List Lexeme) (t : Lexeme) (v : List Lexeme) → N u t v → M u t (v ++ z2)) → ((n : ℕ) → n ≤ length z1 → K n → L n) → Firsts R M L (z1 ++ z2) rest d
  in_first Q N R M K L z1 z2 rest d p grow next keep = (
    p.0,
    p.1,
    p.2 ++ z2,
    ap (λ (w : List Lexeme). w ++ z2) p.3 ∙ append_assoc p.0 (p.1 ∷ p.2) z2,
    p.4 ∙ ap (λ (w : List Lexeme). p.1 ∷ w) (sym (append_assoc p.2 z2 rest)),
    elim p.5 [
      | inl q ↦ inl (grow p.0 p.1 p.2 q.0, keep (length p.0) (omega (arith, ap length p.3, length-append p.0 (p.1 ∷ p.2))) q.1)
      | inr q ↦ inr (next p.0 p.1 p.2 q.0, q.1, q.2, q.3, q.4, q.5, q.6, keep (length q.1) (omega (arith, ap length p.3, length-append p.0 (p.1 ∷ p.2), ap length q.4, length-append q.1 (q.2 ∷ q.3))) q.7)
    ],
  )

  -- it stands in the second
  in_next : (Q N R M : WithNestings) (K L : ℕ → Type 0) (z1 z2 rest d : List Lexeme) → Firsts Q N K z2 rest d
      → ((u : List Lexeme) (t : Lexeme) (v : List Lexeme) → Q u t v → R (z1 ++ u) t v) → ((u : List Lexeme) (t : Lexeme) (v : List Lexeme) → N u t v → M (z1 ++ u) t v) → ((n j : ℕ) → n ≡ length z1 + j → K j → L n) → Firsts R M L (z1 ++ z2) rest d
  in_next Q N R M K L z1 z2 rest d p grow next keep = (
    z1 ++ p.0,
    p.1,
    p.2,
    ap (λ (w : List Lexeme). z1 ++ w) p.3 ∙ sym (append_assoc z1 p.0 (p.1 ∷ p.2)),
    p.4,
    elim p.5 [
      | inl q ↦ inl (grow p.0 p.1 p.2 q.0, keep (length (z1 ++ p.0)) (length p.0) (omega (arith, length-append z1 p.0)) q.1)
      | inr q ↦
          inr (
            next p.0 p.1 p.2 q.0,
            z1 ++ q.1,
            q.2,
            q.3,
            ap (λ (w : List Lexeme). z1 ++ w) q.4 ∙ sym (append_assoc z1 q.1 (q.2 ∷ q.3)),
            q.5,
            q.6,
            keep (length (z1 ++ q.1)) (length q.1) (omega (arith, length-append z1 q.1)) q.7,
          )
    ],
  )

  regrouped : (z z1 z2 rest : List Lexeme) → z ≡ z1 ++ z2 → z ++ rest ≡ z1 ++ (z2 ++ rest)
  regrouped z z1 z2 rest e = ap (λ (w : List Lexeme). w ++ rest) e ∙ append_assoc z1 z2 rest

  -- what was read of a first part keeps the limit
  first_kept : {A : Type 0} (a : Syntax A) → is_fine a ≡ true → is_counted nestings a ≡ true → (m : ℕ) (z1 after : List Lexeme) (x : A) (i : ℕ) → read a m (z1 ++ after) ≡ Ok (x, i, after) → (n : ℕ) → Keeps nestings max_nestings a n z1 x
  first_kept a fine count m z1 after x i h n =
      let k = read_kept nestings a fine count m (z1 ++ after) x i after h in
      subst (λ (w : List Lexeme). Keeps nestings max_nestings a n w x) (append_cancel_right k.0 z1 after (sym k.1)) (k.3 n)

  -- the sentence by its parts
  of_parts : {A : Type 0} (s : Syntax A) (z y : List Lexeme) (x : A) (rest d : List Lexeme) → z ≡ y → IsFirst s y x rest d → IsFirst s z x rest d
  of_parts s z y x rest d e h = subst (λ (w : List Lexeme). IsFirst s w x rest d) (sym e) h

  abbrev EachFirst : {A : Type 0} → Syntax A → Type 0
  EachFirst {A} a = (m : ℕ) (z : List Lexeme) (x : A) (rest d : List Lexeme) → Spells a z x → starts (more a) rest ≡ false → read a m (z ++ rest) ≡ Err (TooDeep d) → IsFirst a z x rest d

  repeated_first : {A : Type 0} (a : Syntax A) → is_fine a ≡ true → is_counted nestings a ≡ true → apart (more a) (first a) ≡ true → EachFirst a
      → (n m : ℕ) (z : List Lexeme) (xs : List A) (rest d : List Lexeme) → Repeats (Spells a) z xs → starts (first a ++ more a) rest ≡ false → repeated (read a) (first a) n m (z ++ rest) ≡ Err (TooDeep d) → IsFirstAmong a z xs rest d
  repeated_first a fine count away each zero m z xs rest d h stop e = absurd cc
  repeated_first a fine count away each (suc n) m z [] rest d h stop e =
      let none : starts (first a) (z ++ rest) ≡ false = ap (λ (w : List Lexeme). starts (first a) (w ++ rest)) h ∙ (any_split (first a) (more a) rest stop).0 in
      elim (chosen (starts (first a) (z ++ rest)) _ _ _ e) [ inl c ↦ absurd (let w = c.0 in cc) | inr c ↦ absurd (let w = c.1 in cc) ]
  repeated_first {A} a fine count away each (suc n) m z (x ∷ xs) rest d h stop e =
      let clear : starts (more a) (h.1 ++ rest) ≡ false = after_item nestings max_nestings a fine away h.1 xs rest h.4 stop in
      let split : z ++ rest ≡ h.0 ++ (h.1 ++ rest) = regrouped z h.0 h.1 rest h.2 in
      let e' : repeated (read a) (first a) (suc n) m (h.0 ++ (h.1 ++ rest)) ≡ Err (TooDeep d) = ap (λ (w : List Lexeme). repeated (read a) (first a) (suc n) m w) (sym split) ∙ e in
      let found : IsFirstAmong a (h.0 ++ h.1) (x ∷ xs) rest d = elim (chosen (starts (first a) (h.0 ++ (h.1 ++ rest))) _ _ _ e') [
        | inl c ↦
            elim (bind_err (read a m (h.0 ++ (h.1 ++ rest))) _ (TooDeep d) c.1) [
              | inl g ↦
                  let p = each m h.0 x (h.1 ++ rest) d h.3 clear g in
                  in_first (λ u t v. IsNestingBehind nestings max_nestings a u t v x) (λ u t v. IsNextBehindBracket nestings a u t v x) (λ u t v. ExceedsAmong (IsNestingBehind nestings max_nestings a) (Spells a) u t v (x ∷ xs)) (λ u t v. ExceedsAmong (IsNextBehindBracket nestings a) (Spells a) u t v (x ∷ xs)) (λ l. Keeps nestings max_nestings a l h.0 x) (λ l. KeepsAmong nestings max_nestings a l (h.0 ++ h.1) (x ∷ xs)) h.0 h.1 rest d p
                  (λ u t v q. inl (v, h.1, refl, q, h.4)) (λ u t v q. inl (v, h.1, refl, q, h.4))
                  (λ l le q. keeps_cons nestings max_nestings a fine away l 0 h.0 h.1 [] x xs h.3 h.4 refl q (λ k u t v parts low r. absurd (omega (arith, low))) (omega (arith, le)))
              | inr q ↦
                  elim (bind_err (repeated (read a) (first a) n q.1 q.2) _ (TooDeep d) q.4) [
                    | inl g ↦
                        let same = done_or_not (read a m (h.0 ++ (h.1 ++ rest))) x q.0 q.1 (h.1 ++ rest) q.2 (complete a fine m h.0 x (h.1 ++ rest) h.3 clear) q.3 in
                        let ok : read a m (h.0 ++ (h.1 ++ rest)) ≡ Ok (x, q.1, h.1 ++ rest) = q.3 ∙ ap (λ (w : List Lexeme). Ok (q.0, q.1, w)) (sym same.1) ∙ ap (λ (y : A). Ok (y, q.1, h.1 ++ rest)) (sym same.0) in
                        let g' : repeated (read a) (first a) n q.1 (h.1 ++ rest) ≡ Err (TooDeep d) = ap (λ (w : List Lexeme). repeated (read a) (first a) n q.1 w) same.1 ∙ g in
                        let p = repeated_first a fine count away each n q.1 h.1 xs rest d h.4 stop g' in
                        in_next (λ u t v. ExceedsAmong (IsNestingBehind nestings max_nestings a) (Spells a) u t v xs) (λ u t v. ExceedsAmong (IsNextBehindBracket nestings a) (Spells a) u t v xs) (λ u t v. ExceedsAmong (IsNestingBehind nestings max_nestings a) (Spells a) u t v (x ∷ xs)) (λ u t v. ExceedsAmong (IsNextBehindBracket nestings a) (Spells a) u t v (x ∷ xs)) (λ l. KeepsAmong nestings max_nestings a l h.1 xs) (λ l. KeepsAmong nestings max_nestings a l (h.0 ++ h.1) (x ∷ xs)) h.0 h.1 rest d p
                        (λ u t v r. inr (h.0, u, refl, h.3, r)) (λ u t v r. inr (h.0, u, refl, h.3, r))
                        (λ l j le r. keeps_cons nestings max_nestings a fine away l j h.0 h.1 [] x xs h.3 h.4 refl (first_kept a fine count m h.0 (h.1 ++ rest) x q.1 ok l) r (omega (arith, le)))
                    | inr y ↦ absurd (let w = y.4 in cc)
                  ]
            ]
        | inr c ↦ absurd (let w = c.1 in cc)
      ] in
      subst (λ (w : List Lexeme). IsFirstAmong a w (x ∷ xs) rest d) (sym h.2) found

  -- ---- each grammar

  same_part : (Q N R M : WithNestings) (K L : ℕ → Type 0) (z rest d : List Lexeme) → Firsts Q N K z rest d
      → ((u : List Lexeme) (t : Lexeme) (v : List Lexeme) → Q u t v → R u t v) → ((u : List Lexeme) (t : Lexeme) (v : List Lexeme) → N u t v → M u t v) → ((n : ℕ) → K n → L n) → Firsts R M L z rest d
  same_part Q N R M K L z rest d p grow next keep = (
    p.0,
    p.1,
    p.2,
    p.3,
    p.4,
    elim p.5 [
      | inl q ↦ inl (grow p.0 p.1 p.2 q.0, keep (length p.0) q.1)
      | inr q ↦ inr (next p.0 p.1 p.2 q.0, q.1, q.2, q.3, q.4, q.5, q.6, keep (length q.1) q.7)
    ],
  )

  not_deep : {A : Type 0} (o : Outcome A) (p : A × ℕ × List Lexeme) (d : List Lexeme) → o ≡ Ok p → o ≡ Err (TooDeep d) → ⊥
  not_deep o p d h e = absurd cc

  same_deep : {A : Type 0} (o : Outcome A) (c d : List Lexeme) → o ≡ Err (TooDeep c) → o ≡ Err (TooDeep d) → d ≡ c
  same_deep {A} o c d h e = let k : ◌≡◌ {A = Outcome A} (Err (TooDeep d)) (Err (TooDeep c)) = sym e ∙ h in let q : TooDeep d ≡ TooDeep c = cc in cc

  -- of a part whose nestings are counted
  abbrev IsCountedFirst : ℕ → List Lexeme → List Lexeme → List Lexeme → Type 0
  IsCountedFirst m z rest d = (v : List Lexeme) × (t : Lexeme) × (w : List Lexeme) × (z ≡ v ++ t ∷ w) × (d ≡ t ∷ (w ++ rest)) × (nestings_in nestings v ≡ m) × (is_nesting nestings t ≡ true)

  counted_first : {A : Type 0} (a : Syntax A) → is_fine a ≡ true → tallies nestings a ≡ true → guards (suc max_nestings) a ≡ true → (m : ℕ) → m ≤ max_nestings → (z : List Lexeme) (x : A) (rest d : List Lexeme) → Spells a z x → starts (more a) rest ≡ false
      → read a m (z ++ rest) ≡ Err (TooDeep d) → IsCountedFirst m z rest d
  counted_first a fine tally guard m le z x rest d h stop e =
      elim (few_or_more (nestings_in nestings z) m) [
        | inl few ↦ absurd (not_deep (read a m (z ++ rest)) (x, m - nestings_in nestings z, rest) d (complete_within nestings a fine tally (suc max_nestings) guard m z x rest (omega (arith, le)) h stop few) e)
        | inr many ↦
            let p = too_many nestings a fine tally guard m le z x rest h stop many in
            (p.0, p.1, p.2, p.3, same_deep (read a m (z ++ rest)) (p.1 ∷ (p.2 ++ rest)) d p.4 e, p.5.0, p.5.1)
      ]

  module _ {A B : Type 0} (ks : List Terminal) (a : Syntax A) (b c : Syntax B) (f : ForkParts a b c) (g : ForkCounted nestings ks a b c) (z1 z2 rest d : List Lexeme) (x : A × B) (ha : Spells a z1 x.0) where
    -- reading ended in the first part
    head_first : (hz : Spells b z2 x.1 ⊎ Spells c z2 x.1) → IsCountedFirst max_nestings z1 (z2 ++ rest) d → IsFirst (Fork ks a b c) (z1 ++ z2) x rest d
    unfolding IsNestingBehind IsNextBehindBracket
    head_first hz p =
        let there : Spells a (p.0 ++ p.1 ∷ p.2) x.0 = subst (λ (w : List Lexeme). Spells a w x.0) p.3 ha in (
          p.0,
          p.1,
          p.2 ++ z2,
          ap (λ (w : List Lexeme). w ++ z2) p.3 ∙ append_assoc p.0 (p.1 ∷ p.2) z2,
          p.4 ∙ ap (λ (w : List Lexeme). p.1 ∷ w) (sym (append_assoc p.2 z2 rest)),
          elim hz [
            | inl hb ↦
                inl (
                  inl (inl (p.2, z2, refl, there, hb, p.5, p.6)),
                  keeps_list nestings max_nestings ks a b c f (length p.0) 0 z1 z2 x ha hb (few_front nestings max_nestings 0 z1 p.0 (p.1 ∷ p.2) p.3 (omega (arith, p.5))) (keeps_none nestings max_nestings b z2 x.1) (omega (arith, ap length p.3, length-append p.0 (p.1 ∷ p.2))),
                )
            | inr hc ↦
                let l = last_is nestings ks g.same p.0 (p.1 ∷ p.2) (p.1 ∷ p.2) 511 (omega (arith, p.5)) in
                let whole : z1 ≡ l.0 ++ l.1 ∷ (l.2 ++ p.1 ∷ p.2) = p.3 ∙ ap (λ (w : List Lexeme). w ++ p.1 ∷ p.2) l.3 ∙ append_assoc l.0 (l.1 ∷ l.2) (p.1 ∷ p.2) in
                inr (
                  inl (p.2, z2, refl, there, hc, p.5, p.6),
                  l.0,
                  l.1,
                  l.2,
                  l.3,
                  l.6,
                  l.4,
                  keeps_bracket nestings max_nestings ks a b c f (length l.0) 0 z1 z2 x ha hc (few_front nestings max_nestings 1 z1 l.0 (l.1 ∷ (l.2 ++ p.1 ∷ p.2)) whole (omega (arith, l.5))) (λ u t v parts low nesting. absurd (omega (arith, low))) (omega (arith, ap length whole, length-append l.0 (l.1 ∷ (l.2 ++ p.1 ∷ p.2)))),
                )
          ],
        )

    module _ (i : ℕ) (full : max_nestings ≡ i + nestings_in nestings z1) where
      list_first : Spells b z2 x.1 → IsFirst b z2 x.1 rest d → IsFirst (Fork ks a b c) (z1 ++ z2) x rest d
      unfolding IsNestingBehind IsNextBehindBracket
      list_first hb p =
          in_next (λ u t v. IsNestingBehind nestings max_nestings b u t v x.1) (λ u t v. IsNextBehindBracket nestings b u t v x.1) (λ u t v. IsNestingBehind nestings max_nestings (Fork ks a b c) u t v x) (λ u t v. IsNextBehindBracket nestings (Fork ks a b c) u t v x) (λ n. Keeps nestings max_nestings b n z2 x.1) (λ n. Keeps nestings max_nestings (Fork ks a b c) n (z1 ++ z2) x) z1 z2 rest d p
          (λ u t v q. inr (inl (z1, u, refl, ha, q))) (λ u t v q. inr (z1, u, refl, ha, q))
          (λ n j le q. keeps_list nestings max_nestings ks a b c f n j z1 z2 x ha hb (few_all nestings max_nestings 0 n z1 (omega (arith, full))) q (omega (arith, le)))

      -- the last nesting of the first part is too many, since the bracket was one
      last_first : Spells c z2 x.1 → i ≡ 0 → d ≡ last_nesting ks (length (z1 ++ (z2 ++ rest)) - length (z2 ++ rest)) (z2 ++ rest) (z1 ++ (z2 ++ rest)) → IsFirst (Fork ks a b c) (z1 ++ z2) x rest d
      unfolding IsNestingBehind IsNextBehindBracket
      last_first hc none is =
          let mid = z2 ++ rest in
          let p = last_is nestings ks g.same z1 mid mid 511 (omega (arith, full, none)) in
          let len : length (z1 ++ mid) - length mid ≡ length z1 = omega (arith, length-append z1 mid) in
          let there : d ≡ p.1 ∷ (p.2 ++ mid) = is ∙ ap (λ (k : ℕ). last_nesting ks k mid (z1 ++ mid)) len ∙ p.7 in (
            p.0,
            p.1,
            p.2 ++ z2,
            ap (λ (w : List Lexeme). w ++ z2) p.3 ∙ append_assoc p.0 (p.1 ∷ p.2) z2,
            there ∙ ap (λ (w : List Lexeme). p.1 ∷ w) (sym (append_assoc p.2 z2 rest)),
            inl (
              inl (inr (p.2, z2, refl, subst (λ (w : List Lexeme). Spells a w x.0) p.3 ha, hc, omega (arith, p.5), p.4)),
              keeps_bracket nestings max_nestings ks a b c f (length p.0) 0 z1 z2 x ha hc (few_front nestings max_nestings 1 z1 p.0 (p.1 ∷ p.2) p.3 (omega (arith, p.5))) (λ u t v parts low nesting. absurd (omega (arith, low))) (omega (arith, ap length p.3, length-append p.0 (p.1 ∷ p.2))),
            ),
          )

      bracket_first : Spells c z2 x.1 → (j : ℕ) → i ≡ suc j → IsCountedFirst j z2 rest d → IsFirst (Fork ks a b c) (z1 ++ z2) x rest d
      unfolding IsNestingBehind IsNextBehindBracket
      bracket_first hc j is p = (
        z1 ++ p.0,
        p.1,
        p.2,
        ap (λ (w : List Lexeme). z1 ++ w) p.3 ∙ sym (append_assoc z1 p.0 (p.1 ∷ p.2)),
        p.4,
        inl (
          inr (inr (z1, p.0, refl, ha, subst (λ (w : List Lexeme). Spells c w x.1) p.3 hc, omega (arith, full, is, p.5), p.6)),
          keeps_bracket nestings max_nestings ks a b c f (length (z1 ++ p.0)) (length p.0) z1 z2 x ha hc (few_all nestings max_nestings 1 (length (z1 ++ p.0)) z1 (omega (arith, full, is)))
              (few_front nestings max_nestings (suc (nestings_in nestings z1)) z2 p.0 (p.1 ∷ p.2) p.3 (omega (arith, full, is, p.5))) (omega (arith, length-append z1 p.0)),
        ),
      )

  pub first_late : {A : Type 0} (s : Syntax A) → is_fine s ≡ true → is_counted nestings s ≡ true → EachFirst s
  unfolding read Spells more is_fine is_counted nullable first IsNestingBehind IsNextBehindBracket
  first_late (Past a) fine count m z x rest d h stop e = absurd (let c = count in cc)
  first_late (Token k) fine count m z x rest d h stop e = absurd (token_never k m (z ++ rest) d e)
  first_late (Nesting k) fine count m z x rest d h stop e = absurd (let c = count in cc)
  first_late (Whole a) fine count m z x rest d h stop e =
      let c = and_parts (tallies nestings a) (guards (suc max_nestings) a) count in
      let p = counted_first a fine c.0 c.1 max_nestings (omega arith) z x rest d h stop e in (
        p.0,
        p.1,
        p.2,
        p.3,
        p.4,
        inl (
          (subst (λ (w : List Lexeme). Spells a w x) p.3 h, p.5, p.6),
          keeps_whole nestings max_nestings a (length p.0) z x (few_front nestings max_nestings 0 z p.0 (p.1 ∷ p.2) p.3 (omega (arith, p.5))),
        ),
      )
  first_late (Known fs ms a) fine count m z x rest d h stop e =
      let f = known_parts (is_fine a) (nullable a) (within (first a) fs) (within (more a) ms) fine in
      first_late a f.0 count m z x rest d h (stops_within (more a) ms rest f.3 stop) e
  first_late (Then a b) fine count m z x rest d h stop e =
      let f = and_three (is_fine a) (is_fine b) (apart (more a) (first b)) fine in
      let c = and_parts (is_counted nestings a) (is_counted nestings b) count in
      let s = tail_stops (nullable b) (more b) (more a) rest stop in
      let clear : starts (more a) (h.1 ++ rest) ≡ false = follows (more a) b f.1 h.1 x.1 rest f.2 h.4 s.1 in
      let split : z ++ rest ≡ h.0 ++ (h.1 ++ rest) = regrouped z h.0 h.1 rest h.2 in
      let e' : read (Then a b) m (h.0 ++ (h.1 ++ rest)) ≡ Err (TooDeep d) = ap (λ (w : List Lexeme). read (Then a b) m w) (sym split) ∙ e in
      of_parts (Then a b) z (h.0 ++ h.1) x rest d h.2
      (elim (bind_err (read a m (h.0 ++ (h.1 ++ rest))) _ (TooDeep d) e') [
        | inl g ↦
            let p = first_late a f.0 c.0 m h.0 x.0 (h.1 ++ rest) d h.3 clear g in
            in_first (λ u t v. IsNestingBehind nestings max_nestings a u t v x.0) (λ u t v. IsNextBehindBracket nestings a u t v x.0) (λ u t v. IsNestingBehind nestings max_nestings (Then a b) u t v x) (λ u t v. IsNextBehindBracket nestings (Then a b) u t v x) (λ l. Keeps nestings max_nestings a l h.0 x.0) (λ l. Keeps nestings max_nestings (Then a b) l (h.0 ++ h.1) x) h.0 h.1 rest d p
            (λ u t v q. inl (v, h.1, refl, q, h.4)) (λ u t v q. inl (v, h.1, refl, q, h.4))
            (λ l le q. keeps_then nestings max_nestings a b f.0 f.1 f.2 l 0 h.0 h.1 [] x h.3 h.4 refl q (keeps_none nestings max_nestings b h.1 x.1) (omega (arith, le)))
        | inr q ↦
            elim (bind_err (read b q.1 q.2) _ (TooDeep d) q.4) [
              | inl g ↦
                  let same = done_or_not (read a m (h.0 ++ (h.1 ++ rest))) x.0 q.0 q.1 (h.1 ++ rest) q.2 (complete a f.0 m h.0 x.0 (h.1 ++ rest) h.3 clear) q.3 in
                  let ok : read a m (h.0 ++ (h.1 ++ rest)) ≡ Ok (x.0, q.1, h.1 ++ rest) = q.3 ∙ ap (λ (w : List Lexeme). Ok (q.0, q.1, w)) (sym same.1) ∙ ap (λ y. Ok (y, q.1, h.1 ++ rest)) (sym same.0) in
                  let p = first_late b f.1 c.1 q.1 h.1 x.1 rest d h.4 s.0 (ap (λ (w : List Lexeme). read b q.1 w) same.1 ∙ g) in
                  in_next (λ u t v. IsNestingBehind nestings max_nestings b u t v x.1) (λ u t v. IsNextBehindBracket nestings b u t v x.1) (λ u t v. IsNestingBehind nestings max_nestings (Then a b) u t v x) (λ u t v. IsNextBehindBracket nestings (Then a b) u t v x) (λ l. Keeps nestings max_nestings b l h.1 x.1) (λ l. Keeps nestings max_nestings (Then a b) l (h.0 ++ h.1) x) h.0 h.1 rest d p
                  (λ u t v r. inr (h.0, u, refl, h.3, r)) (λ u t v r. inr (h.0, u, refl, h.3, r))
                  (λ l j le r. keeps_then nestings max_nestings a b f.0 f.1 f.2 l j h.0 h.1 [] x h.3 h.4 refl (first_kept a f.0 c.0 m h.0 (h.1 ++ rest) x.0 q.1 ok l) r (omega (arith, le)))
              | inr y ↦ absurd (let w = y.4 in cc)
            ]
      ])
  first_late (Map g a) fine count m z y rest d h stop e =
      elim (bind_err (read a m (z ++ rest)) _ (TooDeep d) e) [
        | inl k ↦
            let p = first_late a fine count m z h.0 rest d h.2 stop k in
            same_part (λ u t v. IsNestingBehind nestings max_nestings a u t v h.0) (λ u t v. IsNextBehindBracket nestings a u t v h.0) (λ u t v. IsNestingBehind nestings max_nestings (Map g a) u t v y) (λ u t v. IsNextBehindBracket nestings (Map g a) u t v y) (λ l. Keeps nestings max_nestings a l z h.0) (λ l. Keeps nestings max_nestings (Map g a) l z y) z rest d p
            (λ u t v q. (h.0, h.1, q)) (λ u t v q. (h.0, h.1, q))
            (λ l q. subst (Keeps nestings max_nestings (Map g a) l z) (sym h.1) (keeps_map nestings max_nestings g a fine l z h.0 h.2 q))
        | inr k ↦ absurd (let w = k.4 in cc)
      ]
  first_late (Either a b) fine count m [] x rest d (inl h) stop e =
      let f = choice_parts (is_fine a) (is_fine b) (nullable a) (nullable b) (apart (first a) (first b)) fine in
      absurd (let k = spells_nil a f.0 x h in let v = f.2 in cc)
  first_late (Either a b) fine count m [] x rest d (inr h) stop e =
      let f = choice_parts (is_fine a) (is_fine b) (nullable a) (nullable b) (apart (first a) (first b)) fine in
      absurd (let k = spells_nil b f.1 x h in let v = f.3 in cc)
  first_late (Either a b) fine count m (t ∷ z) x rest d (inl h) stop e =
      let f = choice_parts (is_fine a) (is_fine b) (nullable a) (nullable b) (apart (first a) (first b)) fine in
      let c = and_parts (is_counted nestings a) (is_counted nestings b) count in
      let back : read (Either a b) m ((t ∷ z) ++ rest) ≡ read a m ((t ∷ z) ++ rest) = rw (begins a f.0 t z x h) refl in
      let p = first_late a f.0 c.0 m (t ∷ z) x rest d h (any_split (more a) (more b) rest stop).0 (sym back ∙ e) in
      same_part (λ u s v. IsNestingBehind nestings max_nestings a u s v x) (λ u s v. IsNextBehindBracket nestings a u s v x) (λ u s v. IsNestingBehind nestings max_nestings (Either a b) u s v x) (λ u s v. IsNextBehindBracket nestings (Either a b) u s v x) (λ l. Keeps nestings max_nestings a l (t ∷ z) x) (λ l. Keeps nestings max_nestings (Either a b) l (t ∷ z) x) (t ∷ z) rest d p
      (λ u s v q. inl q) (λ u s v q. inl q) (λ l q. keeps_left nestings max_nestings a b f.0 f.1 f.4 l (t ∷ z) x h q)
  first_late (Either a b) fine count m (t ∷ z) x rest d (inr h) stop e =
      let f = choice_parts (is_fine a) (is_fine b) (nullable a) (nullable b) (apart (first a) (first b)) fine in
      let c = and_parts (is_counted nestings a) (is_counted nestings b) count in
      let misses : any_fits (first a) t ≡ false = false_from_ne_true (any_fits (first a) t) (λ k. apart_excludes (first a) (first b) t f.4 k (begins b f.1 t z x h)) in
      let back : read (Either a b) m ((t ∷ z) ++ rest) ≡ read b m ((t ∷ z) ++ rest) = rw misses refl in
      let p = first_late b f.1 c.1 m (t ∷ z) x rest d h (any_split (more a) (more b) rest stop).1 (sym back ∙ e) in
      same_part (λ u s v. IsNestingBehind nestings max_nestings b u s v x) (λ u s v. IsNextBehindBracket nestings b u s v x) (λ u s v. IsNestingBehind nestings max_nestings (Either a b) u s v x) (λ u s v. IsNextBehindBracket nestings (Either a b) u s v x) (λ l. Keeps nestings max_nestings b l (t ∷ z) x) (λ l. Keeps nestings max_nestings (Either a b) l (t ∷ z) x) (t ∷ z) rest d p
      (λ u s v q. inr q) (λ u s v q. inr q) (λ l q. keeps_right nestings max_nestings a b f.0 f.1 f.4 l (t ∷ z) x h q)
  first_late (Maybe a) fine count m z None rest d h stop e =
      let back : read (Maybe a) m (z ++ rest) ≡ Ok (None, m, rest) = rw (h, (any_split (first a) (more a) rest stop).0) refl in
      absurd (not_deep (read (Maybe a) m (z ++ rest)) (None, m, rest) d back e)
  first_late (Maybe a) fine count m [] (Some x) rest d h stop e =
      let f = and_parts (is_fine a) (not (nullable a)) fine in
      absurd (let k = spells_nil a f.0 x h in let v = not-true (nullable a) f.1 in cc)
  first_late (Maybe a) fine count m (t ∷ z) (Some x) rest d h stop e =
      let f = and_parts (is_fine a) (not (nullable a)) fine in
      let back : read (Maybe a) m ((t ∷ z) ++ rest) ≡ (read a m ((t ∷ z) ++ rest) >>= λ y i end. Ok (Some y, i, end)) = rw (begins a f.0 t z x h) refl in
      elim (bind_err (read a m ((t ∷ z) ++ rest)) _ (TooDeep d) (sym back ∙ e)) [
        | inl k ↦
            let p = first_late a f.0 count m (t ∷ z) x rest d h (any_split (first a) (more a) rest stop).1 k in
            same_part (λ u s v. IsNestingBehind nestings max_nestings a u s v x) (λ u s v. IsNextBehindBracket nestings a u s v x) (λ u s v. IsNestingBehind nestings max_nestings (Maybe a) u s v (Some x)) (λ u s v. IsNextBehindBracket nestings (Maybe a) u s v (Some x)) (λ l. Keeps nestings max_nestings a l (t ∷ z) x) (λ l. Keeps nestings max_nestings (Maybe a) l (t ∷ z) (Some x)) (t ∷ z) rest d p
            (λ u s v q. q) (λ u s v q. q) (λ l q. keeps_some nestings max_nestings a l (t ∷ z) x q)
        | inr k ↦ absurd (let w = k.4 in cc)
      ]
  first_late (Many a) fine count m z xs rest d h stop e =
      let f = and_three (is_fine a) (not (nullable a)) (apart (more a) (first a)) fine in
      repeated_first a f.0 count f.2 (first_late a f.0 count) (length (z ++ rest)) m z xs rest d h stop e
  first_late (Fork ks a b c) fine count m z x rest d h stop e =
      let f = fork_is ks a b c fine in
      let g = fork_counted nestings ks a b c count in
      let s = any_split (more b) (more c) rest stop in
      let mid = h.1 ++ rest in
      let ts = h.0 ++ mid in
      let clear : starts (more a) mid ≡ false = fork_follows (more a) b c f.one f.two h.1 x.1 rest h.4 in
      let e' : read (Fork ks a b c) m ts ≡ Err (TooDeep d) = ap (λ (w : List Lexeme). read (Fork ks a b c) m w) (sym (regrouped z h.0 h.1 rest h.2)) ∙ e in
      of_parts (Fork ks a b c) z (h.0 ++ h.1) x rest d h.2
      (elim (bind_err (read a max_nestings ts) _ (TooDeep d) e') [
        | inl k ↦ head_first ks a b c f g h.0 h.1 rest d x h.3 h.4 (counted_first a f.head g.head g.head_guard max_nestings (omega arith) h.0 x.0 mid d h.3 clear k)
        | inr q ↦
            let t = counts nestings a g.head max_nestings ts q.0 q.1 q.2 q.3 in
            let same = done_or_not (read a max_nestings ts) x.0 q.0 q.1 mid q.2 (complete a f.head max_nestings h.0 x.0 mid h.3 clear) q.3 in
            let front : t.0 ≡ h.0 = append_cancel_right t.0 h.0 mid (ap (λ (w : List Lexeme). t.0 ++ w) same.1 ∙ sym t.1) in
            let full : max_nestings ≡ q.1 + nestings_in nestings h.0 = t.3 ∙ ap (λ (w : List Lexeme). q.1 + nestings_in nestings w) front in
            elim (bind_err (either_rest (first b) (read b) (first c) (charged (last_nesting ks (length ts - length q.2) q.2 ts) (read c)) q.1 q.2) _ (TooDeep d) q.4) [
              | inl k ↦
                  let k' : either_rest (first b) (read b) (first c) (charged (last_nesting ks (length ts - length mid) mid ts) (read c)) q.1 mid ≡ Err (TooDeep d) =
                  ap (λ (w : List Lexeme). either_rest (first b) (read b) (first c) (charged (last_nesting ks (length ts - length w) w ts) (read c)) q.1 w) same.1 ∙ k in
                  elim h.4 [
                    | inl hb ↦
                        let o = opens_part nestings b f.one.0 f.one.1 h.1 x.1 rest hb in
                        let k'' : read b q.1 mid ≡ Err (TooDeep d) = chosen_true (starts (first b) mid) _ _ _ o k' in
                        list_first ks a b c f g h.0 h.1 rest d x h.3 q.1 full hb (first_late b f.one.0 g.one q.1 h.1 x.1 rest d hb s.0 k'')
                    | inr hc ↦
                        let n = misses_part nestings (first b) c f.two.0 f.two.1 f.clear h.1 x.1 rest hc in
                        let o = opens_part nestings c f.two.0 f.two.1 h.1 x.1 rest hc in
                        let k'' = chosen_true (starts (first c) mid) _ _ _ o (chosen_false (starts (first b) mid) _ _ _ n k') in
                        elim (charged_ends nestings (read c) (last_nesting ks (length ts - length mid) mid ts) mid d q.1 k'') [
                          | inl r ↦ last_first ks a b c f g h.0 h.1 rest d x h.3 q.1 full hc r.0 r.1
                          | inr r ↦ bracket_first ks a b c f g h.0 h.1 rest d x h.3 q.1 full hc r.0 r.1 (counted_first c f.two.0 g.two g.two_guard r.0 (omega (arith, full, r.1)) h.1 x.1 rest d hc s.1 r.2)
                        ]
                  ]
              | inr y ↦ absurd (let w = y.4 in cc)
            ]
      ])
