-- In place of a bracketed expression with too many nestings, a list: no nesting before the one at which reading ends is then too many.
use Rattle.std.proofs.Common.{◌≡◌, ℕ, ◌-◌, ◌≤◌, true, not, List, [], ◌∷◌, ◌++◌, length, Some, None, refl, sym, ap, subst, ◌∙◌, append_assoc, arith, inl, inr}
use Rattle.std.proofs.lemmas.List.{append-nil, length-append}
use Rattle.std.proofs.lemmas.Bool.{and_parts}
use Rattle.lola_lexer.specs.declared.shape.TokenShape.TheVariants as is
use Rattle.lola_parser_grammar.specs.declared.expressions.Expr.{Expr}
use Rattle.lola_parser_grammar.specs.Syntax.{Lexeme, Terminal, Of, fits, starts, apart, within, Syntax, Known, Then, Map, Either, Maybe, Many, Repeats, Spells, first, nullable, more, is_fine, max_nestings}
use Rattle.lola_parser_grammar.specs.Nestings.{nestings_in}
use Rattle.lola_parser_grammar.specs.Exceeding.{ExceedsAmong}
use Rattle.lola_parser_grammar.proofs.Complete.{and_three, choice_parts, known_parts, fork_is}
use Rattle.lola_parser_grammar.proofs.Exactly.{opens_part}
use Rattle.lola_parser_grammar.proofs.Viable.{sample}
use Rattle.lola_parser.specs.Late.{IsNestingBehind, IsNextBehindBracket}
use Rattle.lola_parser.proofs.Keeps.{Keeps, KeepsAmong, few_front, keeps_none, keeps_then, keeps_left, keeps_right, keeps_map, keeps_some, keeps_cons, keeps_list}
use Rattle.lola_parser_grammar.specs.Grammar as g
use Rattle.lola_parser_grammar.specs.Grammar.{all_nestings, expr_in, specification}
use Rattle.lola_parser_grammar.proofs.Fine.{one_part_first}
use Rattle.lola_parser.specs.Places.{cut_last}
use Rattle.lola_parser.proofs.Lacks.{words, front_none, none_in, expr_lacks}
use Rattle.lola_parser_law.proofs.Next.{Never, next_spells, more_never, name_never, parameters_never, kind_never, when_never, pacing_never, after_never, short_never, eval_never, constant_never, inputs_never, trigger_never}

starts_more : (ks : List Terminal) (y z : List Lexeme) → starts ks y ≡ true → starts ks (y ++ z) ≡ true
starts_more ks [] z h = absurd cc
starts_more ks (t ∷ y) z h = h

-- no suffix of u with as many nestings as may come begins behind the first j tokens
abbrev pub IsLow : List Lexeme → ℕ → Type 0
IsLow u j = (front head : List Lexeme) → u ≡ front ++ head → nestings_in all_nestings head ≡ max_nestings → length front ≤ j

abbrev pub Few : {A : Type 0} → Syntax A → ℕ → List Lexeme → A → Type 0
Few s j z x = Keeps all_nestings max_nestings s j z x

few_all : {A : Type 0} (a : Syntax A) (z : List Lexeme) (x : A) (m : ℕ) → Few a (length z) z x → Few a m z x
few_all a z x m h k u t v parts low q = h k u t v parts (omega (arith, ap length parts, length-append u (t ∷ v))) q

module _ (n : ℕ) where
  -- Behind `head` goes an expression past t and ends at a closing bracket. With a list in its place, some sentence begins so in
  -- which no nesting before t is too many.
  abbrev pub IsListed : {A : Type 0} → (List Lexeme → Type 0) → Syntax A → List Lexeme → Lexeme → List Lexeme → Type 0
  IsListed {A} L s u t v =
      (pre : List Lexeme) × (head : List Lexeme) × (w : List Lexeme) × (y : List Lexeme) × (v' : List Lexeme) × (x : A) × (e : Expr) × (u ≡ pre ++ head) × L pre × (v ≡ w ++ y) × (starts (Of is.Shut ∷ []) y ≡ true) × Spells (expr_in n) (head ++ t ∷ w) e
      × (nestings_in all_nestings head ≡ max_nestings) × (cut_last words head ≡ None) × Spells s (u ++ t ∷ (w ++ v')) x × Few s (length u) (u ++ t ∷ (w ++ v')) x

  abbrev Walk : {A : Type 0} → (List Lexeme → Type 0) → Syntax A → Type 0
  Walk {A} L s = is_fine s ≡ true → (u : List Lexeme) (t : Lexeme) (v : List Lexeme) (x : A) (j : ℕ) → IsNextBehindBracket all_nestings s u t v x → Few s j (u ++ t ∷ v) x → IsLow u j → IsListed L s u t v

  module _ {A B : Type 0} (a : Syntax A) (b : Syntax B) where
    listed_left : (L : List Lexeme → Type 0) → is_fine a ≡ true → is_fine b ≡ true → apart (more a) (first b) ≡ true → (u : List Lexeme) (t : Lexeme) (v z : List Lexeme) (x : B) → Spells b z x → IsListed L a u t v → IsListed L (Then a b) u t (v ++ z)
    unfolding Spells more
    listed_left L fa fb away u t v z x hb r =
        let new = u ++ t ∷ (r.2 ++ r.4) in
        let group : new ++ z ≡ u ++ t ∷ (r.2 ++ (r.4 ++ z)) = append_assoc u (t ∷ (r.2 ++ r.4)) z ∙ ap (λ (w : List Lexeme). u ++ t ∷ w) (append_assoc r.2 r.4 z) in (
          r.0,
          r.1,
          r.2,
          r.3 ++ z,
          r.4 ++ z,
          (r.5, x),
          r.6,
          r.7,
          r.8,
          ap (λ (w : List Lexeme). w ++ z) r.9 ∙ append_assoc r.2 r.3 z,
          starts_more (Of is.Shut ∷ []) r.3 z r.10,
          r.11,
          r.12,
          r.13,
          subst (λ (w : List Lexeme). Spells (Then a b) w (r.5, x)) group (new, z, refl, r.14, hb),
          subst (λ (w : List Lexeme). Few (Then a b) (length u) w (r.5, x)) group
              (keeps_then all_nestings max_nestings a b fa fb away (length u) 0 new z [] (r.5, x) r.14 hb refl r.15 (keeps_none all_nestings max_nestings b z x) (omega (arith, length-append u (t ∷ (r.2 ++ r.4))))),
        )

    listed_right : (L M : List Lexeme → Type 0) → is_fine a ≡ true → is_fine b ≡ true → apart (more a) (first b) ≡ true → (z : List Lexeme) (x : A) → Spells a z x → Few a (length z) z x → ((pre : List Lexeme) → L pre → M (z ++ pre))
        → (u : List Lexeme) (t : Lexeme) (v : List Lexeme) → IsListed L b u t v → IsListed M (Then a b) (z ++ u) t v
    unfolding Spells more
    listed_right L M fa fb away z x ha one grow u t v r =
        let new = u ++ t ∷ (r.2 ++ r.4) in
        let group : z ++ new ≡ (z ++ u) ++ t ∷ (r.2 ++ r.4) = sym (append_assoc z u (t ∷ (r.2 ++ r.4))) in (
          z ++ r.0,
          r.1,
          r.2,
          r.3,
          r.4,
          (x, r.5),
          r.6,
          ap (λ (w : List Lexeme). z ++ w) r.7 ∙ sym (append_assoc z r.0 r.1),
          grow r.0 r.8,
          r.9,
          r.10,
          r.11,
          r.12,
          r.13,
          subst (λ (w : List Lexeme). Spells (Then a b) w (x, r.5)) group (z, new, refl, ha, r.14),
          subst (λ (w : List Lexeme). Few (Then a b) (length (z ++ u)) w (x, r.5)) group
              (keeps_then all_nestings max_nestings a b fa fb away (length (z ++ u)) (length u) z new [] (x, r.5) ha r.14 refl (few_all a z x (length (z ++ u)) one) r.15 (omega (arith, length-append z u))),
        )

    walk_left : (L : List Lexeme → Type 0) → Never b → Walk L a → Walk L (Then a b)
    unfolding is_fine IsNextBehindBracket IsNestingBehind
    walk_left L nev walk fine u t v x j (inr h) keep low = absurd (nev h.1 t v x.1 h.4)
    walk_left L nev walk fine u t v x j (inl h) keep low =
        let f = and_three (is_fine a) (is_fine b) (apart (more a) (first b)) fine in
        let whole : u ++ t ∷ v ≡ (u ++ t ∷ h.0) ++ h.1 = ap (λ (w : List Lexeme). u ++ t ∷ w) h.2 ∙ sym (append_assoc u (t ∷ h.0) h.1) in
        let keep' : Few a j (u ++ t ∷ h.0) x.0 = λ k p s q parts less m. keep k p s (q ++ h.1) (whole ∙ ap (λ (w : List Lexeme). w ++ h.1) parts ∙ append_assoc p (s ∷ q) h.1) less (inl (q, h.1, refl, m, h.4)) in
        subst (IsListed L (Then a b) u t) (sym h.2) (listed_left L f.0 f.1 f.2 u t h.0 h.1 x.1 h.4 (walk f.0 u t h.0 x.0 j h.3 keep' low))

    walk_right : (L M : List Lexeme → Type 0) → Never a → ((z : List Lexeme) (x : A) → Spells a z x → (pre : List Lexeme) → L pre → M (z ++ pre)) → Walk L b → Walk M (Then a b)
    unfolding is_fine IsNextBehindBracket IsNestingBehind
    walk_right L M nev grow walk fine u t v x j (inl h) keep low = absurd (nev u t h.0 x.0 h.3)
    walk_right L M nev grow walk fine u t v x j (inr h) keep low =
        let f = and_three (is_fine a) (is_fine b) (apart (more a) (first b)) fine in
        let z = h.0 in
        let tail = h.1 ++ t ∷ v in
        let whole : u ++ t ∷ v ≡ z ++ tail = ap (λ (w : List Lexeme). w ++ t ∷ v) h.2 ∙ append_assoc z h.1 (t ∷ v) in
        let keep' : Few b (j - length z) tail x.1 = λ k p s q parts less m.
        keep k (z ++ p) s q (whole ∙ ap (λ (w : List Lexeme). z ++ w) parts ∙ sym (append_assoc z p (s ∷ q))) (omega (arith, less, length-append z p)) (inr (z, p, refl, h.3, m)) in
        let low' : IsLow h.1 (j - length z) = λ front head e m.
        let l = low (z ++ front) head (h.2 ∙ ap (λ (w : List Lexeme). z ++ w) e ∙ sym (append_assoc z front head)) m in
        omega (arith, l, length-append z front) in
        let r = walk f.1 h.1 t v x.1 (j - length z) h.4 keep' low' in
        let le = low (z ++ r.0) r.1 (h.2 ∙ ap (λ (w : List Lexeme). z ++ w) r.7 ∙ sym (append_assoc z r.0 r.1)) r.12 in
        let there = next_spells b h.1 t v x.1 h.4 in
        let one : Few a (length z) z x.0 = λ k p s q parts less m.
        keep k p s (q ++ tail) (whole ∙ ap (λ (w : List Lexeme). w ++ tail) parts ∙ append_assoc p (s ∷ q) tail) (omega (arith, less, le, length-append z r.0)) (inl (q, tail, refl, m, there)) in
        subst (λ (w : List Lexeme). IsListed M (Then a b) w t v) (sym h.2) (listed_right L M f.0 f.1 f.2 z x.0 h.3 one (grow z x.0 h.3) h.1 t v r)

  walk_map : {A B : Type 0} (L : List Lexeme → Type 0) (f : A → B) (a : Syntax A) → Walk L a → Walk L (Map f a)
  unfolding is_fine IsNextBehindBracket IsNestingBehind Spells
  walk_map L f a walk fine u t v y j h keep low =
      let r = walk fine u t v h.0 j h.2 (λ k p s q parts less m. keep k p s q parts less (h.0, h.1, m)) low in
      (r.0, r.1, r.2, r.3, r.4, f r.5, r.6, r.7, r.8, r.9, r.10, r.11, r.12, r.13, (r.5, refl, r.14), keeps_map all_nestings max_nestings f a fine (length u) (u ++ t ∷ (r.2 ++ r.4)) r.5 r.14 r.15)

  walk_either : {A : Type 0} (L : List Lexeme → Type 0) (a b : Syntax A) → Walk L a → Walk L b → Walk L (Either a b)
  unfolding is_fine IsNextBehindBracket IsNestingBehind Spells
  walk_either L a b one two fine u t v x j (inl h) keep low =
      let f = choice_parts (is_fine a) (is_fine b) (nullable a) (nullable b) (apart (first a) (first b)) fine in
      let r = one f.0 u t v x j h (λ k p s q parts less m. keep k p s q parts less (inl m)) low in
      (r.0, r.1, r.2, r.3, r.4, r.5, r.6, r.7, r.8, r.9, r.10, r.11, r.12, r.13, inl r.14, keeps_left all_nestings max_nestings a b f.0 f.1 f.4 (length u) (u ++ t ∷ (r.2 ++ r.4)) r.5 r.14 r.15)
  walk_either L a b one two fine u t v x j (inr h) keep low =
      let f = choice_parts (is_fine a) (is_fine b) (nullable a) (nullable b) (apart (first a) (first b)) fine in
      let r = two f.1 u t v x j h (λ k p s q parts less m. keep k p s q parts less (inr m)) low in
      (r.0, r.1, r.2, r.3, r.4, r.5, r.6, r.7, r.8, r.9, r.10, r.11, r.12, r.13, inr r.14, keeps_right all_nestings max_nestings a b f.0 f.1 f.4 (length u) (u ++ t ∷ (r.2 ++ r.4)) r.5 r.14 r.15)

  walk_never : {A : Type 0} (L : List Lexeme → Type 0) (a : Syntax A) → Never a → Walk L a
  walk_never L a nev fine u t v x j h keep low = absurd (nev u t v x h)

  walk_maybe : {A : Type 0} (L : List Lexeme → Type 0) (a : Syntax A) → Walk L a → Walk L (Maybe a)
  unfolding is_fine IsNextBehindBracket IsNestingBehind Spells
  walk_maybe L a walk fine u t v None j h keep low = absurd h
  walk_maybe L a walk fine u t v (Some x) j h keep low =
      let f = and_parts (is_fine a) (not (nullable a)) fine in
      let r = walk f.0 u t v x j h (λ k p s q parts less m. keep k p s q parts less m) low in
      (r.0, r.1, r.2, r.3, r.4, Some r.5, r.6, r.7, r.8, r.9, r.10, r.11, r.12, r.13, r.14, keeps_some all_nestings max_nestings a (length u) (u ++ t ∷ (r.2 ++ r.4)) r.5 r.15)

  walk_known : {A : Type 0} (L : List Lexeme → Type 0) (fs ms : List Terminal) (a : Syntax A) → Walk L a → Walk L (Known fs ms a)
  unfolding is_fine IsNextBehindBracket IsNestingBehind Spells
  walk_known L fs ms a walk fine u t v x j h keep low =
      let f = known_parts (is_fine a) (nullable a) (within (first a) fs) (within (more a) ms) fine in
      let r = walk f.0 u t v x j h (λ k p s q parts less m. keep k p s q parts less m) low in
      (r.0, r.1, r.2, r.3, r.4, r.5, r.6, r.7, r.8, r.9, r.10, r.11, r.12, r.13, r.14, r.15)

  module _ {A : Type 0} (L : List Lexeme → Type 0) (grow : (z pre : List Lexeme) → L pre → L (z ++ pre)) (a : Syntax A) (walk : Walk L a) (fine : is_fine a ≡ true) (away : apart (more a) (first a) ≡ true) where
    walk_among : (u : List Lexeme) (t : Lexeme) (v : List Lexeme) (xs : List A) (j : ℕ) → ExceedsAmong (IsNextBehindBracket all_nestings a) (Spells a) u t v xs → KeepsAmong all_nestings max_nestings a j (u ++ t ∷ v) xs → IsLow u j → IsListed L (Many a) u t v
    unfolding Spells IsNestingBehind IsNextBehindBracket
    walk_among u t v [] j h keep low = absurd h
    walk_among u t v (x ∷ xs) j (inl h) keep low =
        let z = h.1 in
        let whole : u ++ t ∷ v ≡ (u ++ t ∷ h.0) ++ z = ap (λ (w : List Lexeme). u ++ t ∷ w) h.2 ∙ sym (append_assoc u (t ∷ h.0) z) in
        let keep' : Few a j (u ++ t ∷ h.0) x = λ k p s q parts less m. keep k p s (q ++ z) (whole ∙ ap (λ (w : List Lexeme). w ++ z) parts ∙ append_assoc p (s ∷ q) z) less (inl (q, z, refl, m, h.4)) in
        let r = walk fine u t h.0 x j h.3 keep' low in
        let new = u ++ t ∷ (r.2 ++ r.4) in
        let group : new ++ z ≡ u ++ t ∷ (r.2 ++ (r.4 ++ z)) = append_assoc u (t ∷ (r.2 ++ r.4)) z ∙ ap (λ (w : List Lexeme). u ++ t ∷ w) (append_assoc r.2 r.4 z) in (
          r.0,
          r.1,
          r.2,
          r.3 ++ z,
          r.4 ++ z,
          r.5 ∷ xs,
          r.6,
          r.7,
          r.8,
          h.2 ∙ ap (λ (w : List Lexeme). w ++ z) r.9 ∙ append_assoc r.2 r.3 z,
          starts_more (Of is.Shut ∷ []) r.3 z r.10,
          r.11,
          r.12,
          r.13,
          subst (λ (w : List Lexeme). Repeats (Spells a) w (r.5 ∷ xs)) group (new, z, refl, r.14, h.4),
          subst (λ (w : List Lexeme). KeepsAmong all_nestings max_nestings a (length u) w (r.5 ∷ xs)) group
              (keeps_cons all_nestings max_nestings a fine away (length u) 0 new z [] r.5 xs r.14 h.4 refl r.15 (λ k p s q parts less m. absurd (omega (arith, less))) (omega (arith, length-append u (t ∷ (r.2 ++ r.4))))),
        )
    walk_among u t v (x ∷ xs) j (inr h) keep low =
        let z = h.0 in
        let tail = h.1 ++ t ∷ v in
        let whole : u ++ t ∷ v ≡ z ++ tail = ap (λ (w : List Lexeme). w ++ t ∷ v) h.2 ∙ append_assoc z h.1 (t ∷ v) in
        let keep' : KeepsAmong all_nestings max_nestings a (j - length z) tail xs = λ k p s q parts less m.
        keep k (z ++ p) s q (whole ∙ ap (λ (w : List Lexeme). z ++ w) parts ∙ sym (append_assoc z p (s ∷ q))) (omega (arith, less, length-append z p)) (inr (z, p, refl, h.3, m)) in
        let low' : IsLow h.1 (j - length z) = λ front head e m.
        let l = low (z ++ front) head (h.2 ∙ ap (λ (w : List Lexeme). z ++ w) e ∙ sym (append_assoc z front head)) m in
        omega (arith, l, length-append z front) in
        let r = walk_among h.1 t v xs (j - length z) h.4 keep' low' in
        let le = low (z ++ r.0) r.1 (h.2 ∙ ap (λ (w : List Lexeme). z ++ w) r.7 ∙ sym (append_assoc z r.0 r.1)) r.12 in
        let there : Repeats (Spells a) tail xs = next_spells (Many a) h.1 t v xs h.4 in
        let one : Few a (length z) z x = λ k p s q parts less m.
        keep k p s (q ++ tail) (whole ∙ ap (λ (w : List Lexeme). w ++ tail) parts ∙ append_assoc p (s ∷ q) tail) (omega (arith, less, le, length-append z r.0)) (inl (q, tail, refl, m, there)) in
        let new = h.1 ++ t ∷ (r.2 ++ r.4) in
        let group : z ++ new ≡ u ++ t ∷ (r.2 ++ r.4) = sym (append_assoc z h.1 (t ∷ (r.2 ++ r.4))) ∙ ap (λ (w : List Lexeme). w ++ t ∷ (r.2 ++ r.4)) (sym h.2) in (
          z ++ r.0,
          r.1,
          r.2,
          r.3,
          r.4,
          x ∷ r.5,
          r.6,
          h.2 ∙ ap (λ (w : List Lexeme). z ++ w) r.7 ∙ sym (append_assoc z r.0 r.1),
          grow z r.0 r.8,
          r.9,
          r.10,
          r.11,
          r.12,
          r.13,
          subst (λ (w : List Lexeme). Repeats (Spells a) w (x ∷ r.5)) group (z, new, refl, h.3, r.14),
          subst (λ (w : List Lexeme). KeepsAmong all_nestings max_nestings a (length u) w (x ∷ r.5)) group
              (keeps_cons all_nestings max_nestings a fine away (length u) (length h.1) z new [] x r.5 h.3 r.14 refl (few_all a z x (length u) one) r.15 (omega (arith, ap length h.2, length-append z h.1))),
        )

  walk_many : {A : Type 0} (L : List Lexeme → Type 0) → ((z pre : List Lexeme) → L pre → L (z ++ pre)) → (a : Syntax A) → Walk L a → Walk L (Many a)
  unfolding is_fine IsNextBehindBracket IsNestingBehind
  walk_many L grow a walk fine u t v xs j h keep low =
      let f = and_three (is_fine a) (not (nullable a)) (apart (more a) (first a)) fine in
      walk_among L grow a walk f.0 f.2 u t v xs j h keep low

  -- ---- the specification, from the bracket on

  abbrev AtOnce : List Lexeme → Type 0
  AtOnce pre = pre ≡ []

  abbrev Opened : List Lexeme → Type 0
  Opened pre = (o : Lexeme) × (pre ≡ o ∷ []) × (fits (Of is.Open) o ≡ true)

  -- up to a bracket behind a `with`
  abbrev pub Led : List Lexeme → Type 0
  Led pre = (a : List Lexeme) × (wt : Lexeme) × (o : Lexeme) × (pre ≡ a ++ wt ∷ (o ∷ [])) × (fits (Of is.With) wt ≡ true) × (fits (Of is.Open) o ≡ true)

  led_more : (z pre : List Lexeme) → Led pre → Led (z ++ pre)
  led_more z pre h = (z ++ h.0, h.1, h.2, ap (λ (w : List Lexeme). z ++ w) h.3 ∙ sym (append_assoc z h.0 (h.1 ∷ (h.2 ∷ []))), h.4, h.5)

  walk_forked : Walk AtOnce (g.forked n)
  unfolding g.forked IsNextBehindBracket Spells
  walk_forked fine u t v x j (inr h) keep low = absurd (more_never n h.1 t v x.1 h.4)
  walk_forked fine u t v x j (inl h) keep low =
      let f = fork_is all_nestings (expr_in n) (g.more_parts n) (g.one_part n) fine in
      let q = sample (g.more_parts n) in
      let new = u ++ t ∷ h.0 in
      let group : new ++ q.0 ≡ u ++ t ∷ (h.0 ++ q.0) = append_assoc u (t ∷ h.0) q.0 in
      let o = opens_part all_nestings (g.one_part n) f.two.0 f.two.1 h.1 x.1 [] h.4 in
      let shut : starts (Of is.Shut ∷ []) h.1 ≡ true = ap (λ (w : List Lexeme). starts (Of is.Shut ∷ []) w) (sym (append-nil h.1)) ∙ ap (λ (ks : List Terminal). starts ks (h.1 ++ [])) (sym (one_part_first n)) ∙ o in (
        [],
        u,
        h.0,
        h.1,
        q.0,
        (x.0, q.1),
        x.0,
        refl,
        refl,
        h.2,
        shut,
        h.3,
        h.5,
        front_none words u (t ∷ h.0) (none_in words (expr_in n) (expr_lacks n) new x.0 h.3),
        subst (λ (w : List Lexeme). Spells (g.forked n) w (x.0, q.1)) group (new, q.0, refl, h.3, inl q.2),
        subst (λ (w : List Lexeme). Few (g.forked n) (length u) w (x.0, q.1)) group
            (keeps_list all_nestings max_nestings all_nestings (expr_in n) (g.more_parts n) (g.one_part n) f (length u) 0 new q.0 (x.0, q.1) h.3 q.2 (few_front all_nestings max_nestings 0 new u (t ∷ h.0) refl (omega (arith, h.5)))
            (keeps_none all_nestings max_nestings (g.more_parts n) q.0 q.1) (omega (arith, length-append u (t ∷ h.0)))),
      )

  open_grows : (z : List Lexeme) (x : ℕ) → Spells (g.token is.Open) z x → (pre : List Lexeme) → AtOnce pre → Opened (z ++ pre)
  unfolding g.token Spells
  open_grows z x h pre e = (h.0, ap (λ (w : List Lexeme). w ++ pre) h.2.0 ∙ ap (λ (w : List Lexeme). h.0 ∷ w) e, h.2.1)

  with_grows : (z : List Lexeme) (x : ℕ) → Spells (g.token is.With) z x → (pre : List Lexeme) → Opened pre → Led (z ++ pre)
  unfolding g.token Spells
  with_grows z x h pre e = ([], h.0, e.0, ap (λ (w : List Lexeme). w ++ pre) h.2.0 ∙ ap (λ (w : List Lexeme). h.0 ∷ w) e.1, h.2.1, e.2)

  token_never : (s : _) → Never (g.token s)
  unfolding g.token IsNextBehindBracket
  token_never s u t v x h = absurd h.2

  walk_parts : Walk Opened (g.parts n)
  unfolding g.parts g.whole_unbracketed IsNextBehindBracket
  walk_parts =
      walk_known Opened g.expr_begins g.expr_goes_on _
      (walk_either Opened _ _ (walk_map Opened _ _ (walk_right (g.token is.Open) (g.forked n) AtOnce Opened (token_never is.Open) open_grows walk_forked)) (walk_never Opened _ (λ u t v x h. absurd h.2)))

  walk_with : Walk Led (g.with_parts n)
  unfolding g.with_parts
  walk_with = walk_map Led _ _ (walk_right (g.token is.With) (g.parts n) Opened Led (token_never is.With) with_grows walk_parts)

  more_led : {A : Type 0} (a : Syntax A) (z : List Lexeme) (x : A) → Spells a z x → (pre : List Lexeme) → Led pre → Led (z ++ pre)
  more_led a z x h pre e = led_more z pre e

  walk_next : {A B : Type 0} (a : Syntax A) (b : Syntax B) → Never a → Walk Led b → Walk Led (Then a b)
  walk_next a b nev walk = walk_right a b Led Led nev (more_led a) walk

  walk_spawn : Walk Led (g.spawn n)
  unfolding g.spawn
  walk_spawn =
      walk_map Led _ _ (walk_next (g.token is.Spawn) _ (token_never is.Spawn) (walk_next (Maybe (g.pacing n)) _ (pacing_never n)
      (walk_next (Maybe (g.part_behind n is.When)) (Maybe (g.with_parts n)) (when_never n) (walk_maybe Led (g.with_parts n) walk_with))))

  walk_body : Walk Led (g.body n)
  unfolding g.body IsNextBehindBracket
  walk_body =
      walk_either Led _ _ (walk_never Led _ (λ u t v x h. short_never n u t v h.0 h.2)) (walk_either Led _ _ (walk_never Led _ (λ u t v x h. eval_never n u t v h.0 h.2))
      (walk_map Led _ _ (walk_left (g.spawn n) (Then (g.eval n) (Maybe (g.close n))) Led (after_never n) walk_spawn)))

  walk_output : Walk Led (g.output n)
  unfolding g.output
  walk_output =
      walk_map Led _ _ (walk_next (g.token is.Output) _ (token_never is.Output) (walk_next g.name _ name_never (walk_next (Maybe g.parameters) _ parameters_never (walk_next (Maybe g.kind) (g.body n) kind_never walk_body))))

  walk_declaration : Walk Led (g.declaration n)
  unfolding g.declaration
  walk_declaration =
      walk_either Led _ _ (walk_never Led g.inputs inputs_never) (walk_either Led _ _ (walk_never Led g.constant constant_never)
      (walk_either Led (g.output n) (g.trigger n) walk_output (walk_never Led (g.trigger n) (trigger_never n))))

  pub walk_specification : Walk Led (specification n)
  unfolding g.specification
  walk_specification = walk_many Led led_more (g.declaration n) walk_declaration
