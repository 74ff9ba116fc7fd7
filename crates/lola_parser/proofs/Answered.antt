-- A text that has a nesting too many, whatever follows, is refused as too deep.
use Rattle.std.proofs.Common.{◌≡◌, true, List, [], ◌∷◌, ◌++◌, length, Result, Ok, Err, refl, sym, ap, subst, ◌∙◌, append_assoc, arith}
use Rattle.std.proofs.lemmas.List.{append-nil, length-append, append_cancel_right}
use Rattle.lola_parser_grammar.specs.Syntax.{Lexeme, Terminal, Syntax, Spells, is_fine, Refusal, Unexpected, TooDeep, Outcome, max_nestings, read, all_read, read_all, IsFirstMisfit}
use Rattle.lola_parser_grammar.specs.Nestings.{is_counted}
use Rattle.lola_parser_grammar.proofs.Refusal.{refused_at}
use Rattle.lola_parser.specs.Late.{IsLateInEvery, NoneIsLate}
use Rattle.lola_parser.specs.Fronts.{IsLongestFront}
use Rattle.lola_parser.proofs.Placed.{in_front}
use Rattle.lola_parser.proofs.Kept.{IsKept, read_kept}
use Rattle.lola_parser.proofs.Going.{IsGoing, going}

-- ---- the longest front

pub misfit_front : {A : Type 0} (s : Syntax A) (ts rest : List Lexeme) → IsFirstMisfit s ts rest → (p : List Lexeme) × IsLongestFront s ts p rest
misfit_front s ts [] h = (ts, (sym (append-nil ts), h.0, tt))
misfit_front s ts (t ∷ rest) h = (h.0, (h.1, h.2, h.3))

pub sentence_front : {A : Type 0} (s : Syntax A) (ts : List Lexeme) (x : A) → Spells s ts x → IsLongestFront s ts ts []
sentence_front s ts x h = (sym (append-nil ts), ([], x, subst (λ (w : List Lexeme). Spells s w x) (sym (append-nil ts)) h), tt)

no_more_list : (y : List Lexeme) → length y ≡ 0 → y ≡ []
no_more_list [] e = refl
no_more_list (t ∷ y) e = absurd (omega (arith, e))

pub one_front : {A : Type 0} (s : Syntax A) (ts p rest q after : List Lexeme) → IsLongestFront s ts p rest → IsLongestFront s ts q after → (p ≡ q) × (rest ≡ after)
one_front s ts p rest q after h g =
    let a = in_front s p rest q after h.1 (sym h.0 ∙ g.0, g.1, g.2) in
    let b = in_front s q after p rest g.1 (sym g.0 ∙ h.0, h.1, h.2) in
    let none : a.0 ≡ [] = no_more_list a.0 (omega (arith, ap length a.1, length-append p a.0, ap length b.1, length-append q b.0)) in
    (sym (append-nil p) ∙ ap (λ (w : List Lexeme). p ++ w) (sym none) ∙ sym a.1, a.2 ∙ ap (λ (w : List Lexeme). w ++ after) none)

module _ (nestings : List Terminal) where
  -- the tokens p begin a sentence in which none of them is a nesting too many
  abbrev pub KeepsTheLimit : {A : Type 0} → Syntax A → List Lexeme → Type 0
  KeepsTheLimit {A} s p = (q : List Lexeme) × (x : A) × Spells s (p ++ q) x × NoneIsLate nestings s (length p) (p ++ q) x

  kept_keeps : {A : Type 0} (s : Syntax A) (ts : List Lexeme) (x : A) (rest : List Lexeme) → (k : IsKept nestings s ts x rest) → KeepsTheLimit s k.0
  kept_keeps s ts x rest k =
      ([], x, subst (λ (w : List Lexeme). Spells s w x) (sym (append-nil k.0)) k.2, subst (λ (w : List Lexeme). NoneIsLate nestings s (length k.0) w x) (sym (append-nil k.0)) (k.3 (length k.0)))

  going_keeps : {A : Type 0} (s : Syntax A) (ts rest : List Lexeme) → (g : IsGoing nestings s ts rest) → KeepsTheLimit s g.0
  going_keeps s ts rest g = (g.1, g.3, subst (λ (w : List Lexeme). Spells s w g.3) g.5 g.6, subst (λ (w : List Lexeme). NoneIsLate nestings s (length g.0) w g.3) g.5 g.7)

  front_keeps : {A : Type 0} (s : Syntax A) (ts p q rest : List Lexeme) → ts ≡ p ++ rest → ts ≡ q ++ rest → KeepsTheLimit s p → KeepsTheLimit s q
  front_keeps s ts p q rest e f h = subst (λ (w : List Lexeme). KeepsTheLimit s w) (append_cancel_right p q rest (sym e ∙ f)) h

  -- where a token does not fit
  pub unexpected_keeps : {A : Type 0} (s : Syntax A) → is_fine s ≡ true → is_counted nestings s ≡ true → (ts rest : List Lexeme) → read_all s ts ≡ Err (Unexpected rest) → (p : List Lexeme) × IsLongestFront s ts p rest × KeepsTheLimit s p
  unfolding read_all
  unexpected_keeps {A} s fine count ts rest h =
      let f = misfit_front s ts rest (refused_at s fine ts rest h) in
      (f.0, f.1, by (read s max_nestings ts) refl rest h f.0 (f.1.0))
    where
      by : (o : Outcome A) → read s max_nestings ts ≡ o → (rest : List Lexeme) → all_read o ≡ Err (Unexpected rest) → (p : List Lexeme) → ts ≡ p ++ rest → KeepsTheLimit s p
      by (Ok (x, i, [])) is rest e p parts = absurd cc
      by (Ok (x, i, (t ∷ after))) is rest e p parts =
          let same : t ∷ after ≡ rest = (let c : Unexpected (t ∷ after) ≡ Unexpected rest = cc in cc) in
          let k = read_kept nestings s fine count max_nestings ts x i (t ∷ after) is in
          front_keeps s ts k.0 p rest (k.1 ∙ ap (λ (w : List Lexeme). k.0 ++ w) same) parts (kept_keeps s ts x (t ∷ after) k)
      by (Err d) is rest e p parts =
          let same : d ≡ Unexpected rest = cc in
          let g = going nestings s fine count max_nestings ts rest (is ∙ ap (λ c. Err c) same) in
          front_keeps s ts g.0 p rest g.4 parts (going_keeps s ts rest g)

  ok_keeps : {A : Type 0} (s : Syntax A) → is_fine s ≡ true → is_counted nestings s ≡ true → (ts : List Lexeme) (x : A) → read_all s ts ≡ Ok x → IsLongestFront s ts ts [] × KeepsTheLimit s ts
  unfolding read_all
  ok_keeps {A} s fine count ts x h = by (read s max_nestings ts) refl h
    where
      by : (o : Outcome A) → read s max_nestings ts ≡ o → all_read o ≡ Ok x → IsLongestFront s ts ts [] × KeepsTheLimit s ts
      by (Ok (y, i, [])) is e =
          let k = read_kept nestings s fine count max_nestings ts y i [] is in
          let whole : k.0 ≡ ts = sym (append-nil k.0) ∙ sym k.1 in
          (sentence_front s ts y (subst (λ (w : List Lexeme). Spells s w y) whole k.2), subst (λ (w : List Lexeme). KeepsTheLimit s w) whole (kept_keeps s ts y [] k))
      by (Ok (y, i, (t ∷ after))) is e = absurd cc
      by (Err d) is e = absurd cc

  not_late : {A : Type 0} (s : Syntax A) (p u : List Lexeme) (t : Lexeme) (w : List Lexeme) → p ≡ u ++ t ∷ w → KeepsTheLimit s p → IsLateInEvery nestings s u t w → ⊥
  not_late s p u t w e k late =
      let whole : p ++ k.0 ≡ u ++ t ∷ (w ++ k.0) = ap (λ (y : List Lexeme). y ++ k.0) e ∙ append_assoc u (t ∷ w) k.0 in
      let l = late k.0 k.1 (subst (λ (y : List Lexeme). Spells s y k.1) whole k.2) in
      let less = k.3 l.0 u t (w ++ k.0) whole (omega (arith, ap length e, length-append u (t ∷ w))) l.2 in
      omega (arith, less, l.1)

  pub late_is_deep : {A : Type 0} (s : Syntax A) → is_fine s ≡ true → is_counted nestings s ≡ true → (ts p rest : List Lexeme) → IsLongestFront s ts p rest → (u : List Lexeme) (t : Lexeme) (w : List Lexeme) → p ≡ u ++ t ∷ w
      → IsLateInEvery nestings s u t w → (d : List Lexeme) × (read_all s ts ≡ Err (TooDeep d))
  late_is_deep {A} s fine count ts p rest front u t w e late = by (read_all s ts) refl
    where
      by : (o : Result A Refusal) → read_all s ts ≡ o → (d : List Lexeme) × (o ≡ Err (TooDeep d))
      by (Ok x) is =
          let k = ok_keeps s fine count ts x is in
          let same = one_front s ts ts [] p rest k.0 front in
          absurd (not_late s p u t w e (subst (λ (y : List Lexeme). KeepsTheLimit s y) same.0 k.1) late)
      by (Err (Unexpected after)) is =
          let k = unexpected_keeps s fine count ts after is in
          let same = one_front s ts k.0 after p rest k.1 front in
          absurd (not_late s p u t w e (subst (λ (y : List Lexeme). KeepsTheLimit s y) same.0 k.2) late)
      by (Err (TooDeep d)) is = (d, refl)
