-- What decides that reading is too deep: no token behind it matters, and some sentence begins with it.
use Rattle.std.proofs.Common.{◌≡◌, ℕ, zero, suc, ◌+◌, ◌-◌, ◌<◌, Bool, true, false, cond, not, List, [], ◌∷◌, ◌++◌, length, Some, Ok, Err, refl, sym, ap, subst, ◌∙◌, append_assoc, arith, inl, inr, ◌⊎◌}
use Rattle.std.proofs.lemmas.List.{append-nil, length-append, append_cancel_right}
use Rattle.std.proofs.lemmas.Bool.{and_parts, not-true}
use Rattle.lola_parser_grammar.specs.Syntax.{Lexeme, Terminal, fits, any_fits, Syntax, Past, Token, Nesting, Whole, Known, Then, Map, Either, Maybe, Many, Fork, charged, either_rest, last_nesting, Repeats, Spells, starts, first, nullable, more, apart, within, is_fine, Refusal, Unexpected, TooDeep, Outcome, Reader, ◌>>=◌, max_nestings, repeated, read}
use Rattle.lola_parser_grammar.specs.Nestings.{lower, least, guards, is_nesting, nestings_in, tallies, is_counted}
use Rattle.lola_parser_grammar.proofs.Laws.{IsSound, sound, chosen}
use Rattle.lola_parser_grammar.proofs.Complete.{and_three, choice_parts, known_parts, fork_is}
use Rattle.lola_parser_grammar.proofs.Local.{IsLocal, local, through, same_start, fuel, eats}
use Rattle.lola_parser_grammar.proofs.Viable.{sample, bind_err}
use Rattle.lola_parser_grammar.proofs.Within.{lower_is, none_is, spells_least}
use Rattle.lola_parser_grammar.proofs.Over.{counts, one_over, charged_ends, last_is, fork_counted}
use Rattle.lola_parser.proofs.Opening.{Opens, opens_then, is_open, first_begins, forks_open}

-- Reading ends at t, the tokens up to w decide that, and something begins with them.
abbrev pub IsDecided : {A : Type 0} → Reader A → (List Lexeme → A → Type 0) → ℕ → List Lexeme → List Lexeme → Type 0
IsDecided r P m ts d =
    (u : List Lexeme) × (t : Lexeme) × (w : List Lexeme) × (rest : List Lexeme) × (ts ≡ u ++ t ∷ (w ++ rest)) × (d ≡ t ∷ (w ++ rest))
    × ((other : List Lexeme) → r m (u ++ t ∷ (w ++ other)) ≡ Err (TooDeep (t ∷ (w ++ other)))) × Opens P (u ++ t ∷ w)

-- a reader that begins as r does
first_decided : {A B : Type 0} (r : Reader A) (g : Reader B) (P : List Lexeme → A → Type 0) (R : List Lexeme → B → Type 0) (j m : ℕ) (ts d : List Lexeme) (p : IsDecided r P j ts d)
    → ((other e : List Lexeme) → r j (p.0 ++ p.1 ∷ (p.2 ++ other)) ≡ Err (TooDeep e) → g m (p.0 ++ p.1 ∷ (p.2 ++ other)) ≡ Err (TooDeep e)) → ((z : List Lexeme) → Opens P z → Opens R z) → IsDecided g R m ts d
first_decided r g P R j m ts d p pass grow = (p.0, p.1, p.2, p.3, p.4, p.5, λ other. pass other (p.1 ∷ (p.2 ++ other)) (p.6 other), grow (p.0 ++ p.1 ∷ p.2) p.7)

-- a reader that goes on as h does, behind what r has read
next_decided : {A B C : Type 0} (r : Reader A) (h : Reader C) (g : Reader B) (Q : List Lexeme → C → Type 0) (R : List Lexeme → B → Type 0) → IsLocal r → (m : ℕ) (ts d : List Lexeme) (x : A) (i j : ℕ) (mid : List Lexeme) → r m ts ≡ Ok (x, i, mid)
    → (p : IsDecided h Q j mid d)
    → ((u other e : List Lexeme) → ts ≡ u ++ mid → r m (u ++ (p.0 ++ p.1 ∷ (p.2 ++ other))) ≡ Ok (x, i, p.0 ++ p.1 ∷ (p.2 ++ other)) → h j (p.0 ++ p.1 ∷ (p.2 ++ other)) ≡ Err (TooDeep e)
    → g m (u ++ (p.0 ++ p.1 ∷ (p.2 ++ other))) ≡ Err (TooDeep e))
    → ((u : List Lexeme) → ts ≡ u ++ mid → (z : List Lexeme) → Opens Q z → Opens R (u ++ z)) → IsDecided g R m ts d
next_decided r h g Q R loc m ts d x i j mid ok p pass grow =
    let there : r m ts ≡ Ok (x, i, p.0 ++ p.1 ∷ (p.2 ++ p.3)) = ok ∙ ap (λ (w : List Lexeme). Ok (x, i, w)) p.4 in
    let q = through r loc m ts x i p.0 p.1 (p.2 ++ p.3) there in
    let regroup : (other : List Lexeme) → (q.0 ++ p.0) ++ p.1 ∷ other ≡ q.0 ++ (p.0 ++ p.1 ∷ other) = λ other. append_assoc q.0 p.0 (p.1 ∷ other) in
    let parts : ts ≡ q.0 ++ mid = q.1 ∙ ap (λ (w : List Lexeme). q.0 ++ w) (sym p.4) in (
      q.0 ++ p.0,
      p.1,
      p.2,
      p.3,
      q.1 ∙ sym (regroup (p.2 ++ p.3)),
      p.5,
      λ other. ap (λ (w : List Lexeme). g m w) (regroup (p.2 ++ other)) ∙ pass q.0 other (p.1 ∷ (p.2 ++ other)) parts (q.2 (p.2 ++ other)) (p.6 other),
      subst (Opens R) (sym (append_assoc q.0 p.0 (p.1 ∷ p.2))) (grow q.0 parts (p.0 ++ p.1 ∷ p.2) p.7),
    )

same_after : (ks : List Terminal) (u v : List Lexeme) (t : Lexeme) (rest other : List Lexeme) → starts ks (u ++ (v ++ t ∷ rest)) ≡ starts ks (u ++ (v ++ t ∷ other))
same_after ks [] v t rest other = same_start ks v t rest other
same_after ks (s ∷ u) v t rest other = refl

starts_so : (ks : List Terminal) (b : Bool) (ts u : List Lexeme) (t : Lexeme) (rest other : List Lexeme) → ts ≡ u ++ t ∷ rest → starts ks ts ≡ b → starts ks (u ++ t ∷ other) ≡ b
starts_so ks b ts u t rest other parts e = same_start ks u t other rest ∙ ap (starts ks) (sym parts) ∙ e

starts_there : (ks : List Terminal) (b : Bool) (ts u v : List Lexeme) (t : Lexeme) (rest other : List Lexeme) → ts ≡ u ++ (v ++ t ∷ rest) → starts ks ts ≡ b → starts ks (u ++ (v ++ t ∷ other)) ≡ b
starts_there ks b ts u v t rest other parts e = same_after ks u v t other rest ∙ ap (starts ks) (sym parts) ∙ e

-- ---- repetitions

-- more turns change no refusal
one_turn : {A : Type 0} (r : Reader A) (ks : List Terminal) (n m : ℕ) (ts : List Lexeme) (d : Refusal) → repeated r ks n m ts ≡ Err d → repeated r ks (suc n) m ts ≡ Err d
one_turn r ks zero m ts d h = absurd cc
one_turn {A} r ks (suc n) m ts d h =
    elim (chosen (starts ks ts) _ _ _ h) [
      | inl c ↦
          elim (bind_err (r m ts) _ d c.1) [
            | inl e ↦ rw (c.0, e) refl
            | inr q ↦
                elim (bind_err (repeated r ks n q.1 q.2) _ d q.4) [
                  | inl e ↦ rw (c.0, q.3, one_turn r ks n q.1 q.2 d e) refl
                  | inr z ↦ absurd (let w = z.4 in cc)
                ]
          ]
      | inr c ↦ absurd (let w = c.1 in cc)
    ]

more_turns : {A : Type 0} (r : Reader A) (ks : List Terminal) (k n m : ℕ) (ts : List Lexeme) (d : Refusal) → repeated r ks n m ts ≡ Err d → (l : ℕ) → l ≡ k + n → repeated r ks l m ts ≡ Err d
more_turns r ks zero n m ts d h l e = let same : l ≡ n = omega (arith, e) in rw same h
more_turns r ks (suc k) n m ts d h zero e = absurd (omega (arith, e))
more_turns r ks (suc k) n m ts d h (suc l) e = one_turn r ks l m ts d (more_turns r ks k n m ts d h l (omega (arith, e)))

module _ {A : Type 0} (r : Reader A) (P : List Lexeme → A → Type 0) (ks : List Terminal) (G : ℕ → Type 0) (loc : IsLocal r) (sure : IsSound r P) where
  abbrev Each : Type 0
  Each = (m : ℕ) (ts d : List Lexeme) → G m → r m ts ≡ Err (TooDeep d) → IsDecided r P m ts d

  abbrev Keeps : Type 0
  Keeps = (m : ℕ) (ts : List Lexeme) (x : A) (i : ℕ) (rest : List Lexeme) → G m → r m ts ≡ Ok (x, i, rest) → G i

  took : (m : ℕ) (ts : List Lexeme) (x : A) (i : ℕ) (mid : List Lexeme) → r m ts ≡ Ok (x, i, mid) → (u : List Lexeme) → ts ≡ u ++ mid → P u x
  took m ts x i mid e u parts =
      let t = sure m ts x i mid e in
      subst (λ (w : List Lexeme). P w x) (append_cancel_right t.0 u mid (sym t.1 ∙ parts)) t.2

  turn_deep : (n m i : ℕ) (x : A) (ts mid e : List Lexeme) → starts ks ts ≡ true → r m ts ≡ Ok (x, i, mid) → repeated r ks n i mid ≡ Err (TooDeep e) → repeated r ks (suc n) m ts ≡ Err (TooDeep e)
  turn_deep n m i x ts mid e o g h = rw (o, g, h) refl

  turn_ends : (n m : ℕ) (ts e : List Lexeme) → starts ks ts ≡ true → r m ts ≡ Err (TooDeep e) → repeated r ks (suc n) m ts ≡ Err (TooDeep e)
  turn_ends n m ts e o g = rw (o, g) refl

  repeated_decided : Each → Keeps → (n m : ℕ) (ts d : List Lexeme) → G m → repeated r ks n m ts ≡ Err (TooDeep d) → IsDecided (repeated r ks n) (Repeats P) m ts d
  repeated_decided each keep zero m ts d g h = absurd cc
  repeated_decided each keep (suc n) m ts d g h =
      elim (chosen (starts ks ts) _ _ _ h) [
        | inl c ↦
            elim (bind_err (r m ts) _ (TooDeep d) c.1) [
              | inl e ↦
                  let p = each m ts d g e in
                  first_decided r (repeated r ks (suc n)) P (Repeats P) m m ts d p
                  (λ other f k. turn_ends n m (p.0 ++ p.1 ∷ (p.2 ++ other)) f (starts_so ks true ts p.0 p.1 (p.2 ++ p.3) (p.2 ++ other) p.4 c.0) k)
                  (λ z o. (o.0, o.1 ∷ [], (z ++ o.0, [], sym (append-nil (z ++ o.0)), o.2, refl)))
              | inr q ↦
                  elim (bind_err (repeated r ks n q.1 q.2) _ (TooDeep d) q.4) [
                    | inl e ↦
                        let p = repeated_decided each keep n q.1 q.2 d (keep m ts q.0 q.1 q.2 g q.3) e in
                        next_decided r (repeated r ks n) (repeated r ks (suc n)) (Repeats P) (Repeats P) loc m ts d q.0 q.1 q.1 q.2 q.3 p
                        (λ u other f parts ok k.
                        let whole : ts ≡ u ++ (p.0 ++ p.1 ∷ (p.2 ++ p.3)) = parts ∙ ap (λ (w : List Lexeme). u ++ w) p.4 in
                        turn_deep n m q.1 q.0 (u ++ (p.0 ++ p.1 ∷ (p.2 ++ other))) (p.0 ++ p.1 ∷ (p.2 ++ other)) f (starts_there ks true ts u p.0 p.1 (p.2 ++ p.3) (p.2 ++ other) whole c.0) ok k)
                        (λ u parts z o. (o.0, q.0 ∷ o.1, (u, z ++ o.0, append_assoc u z o.0, took m ts q.0 q.1 q.2 q.3 u parts, o.2)))
                    | inr z ↦ absurd (let w = z.4 in cc)
                  ]
            ]
        | inr c ↦ absurd (let w = c.1 in cc)
      ]

-- ---- each grammar

many_decided : {A : Type 0} (a : Syntax A) → is_fine a ≡ true → nullable a ≡ false → (m : ℕ) (ts d : List Lexeme) → IsDecided (repeated (read a) (first a) (length ts)) (Repeats (Spells a)) m ts d
    → IsDecided (λ k us. repeated (read a) (first a) (length us) k us) (Repeats (Spells a)) m ts d
many_decided a fine full m ts d p = (
  p.0,
  p.1,
  p.2,
  p.3,
  p.4,
  p.5,
  λ other.
      let us = p.0 ++ p.1 ∷ (p.2 ++ other) in
      let raised = more_turns (read a) (first a) (length us) (length ts) m us (TooDeep (p.1 ∷ (p.2 ++ other))) (p.6 other) (length us + length ts) refl in
      fuel (read a) (first a) (eats a fine full) (length us) (length us + length ts) m us (omega arith) (omega arith) ∙ raised,
  p.7,
)

-- the tokens from the last nesting on, whatever follows
last_step : (ks : List Terminal) (t : Lexeme) (u best rest : List Lexeme) → ((b : List Lexeme) → last_nesting ks (length u) (b ++ rest) (u ++ rest) ≡ last_nesting ks (length u) b u ++ rest) → (b : Bool)
    → last_nesting ks (length u) (cond b (t ∷ (u ++ rest)) (best ++ rest)) (u ++ rest) ≡ last_nesting ks (length u) (cond b (t ∷ u) best) u ++ rest
last_step ks t u best rest next true = next (t ∷ u)
last_step ks t u best rest next false = next best

last_append : (ks : List Terminal) (u best rest : List Lexeme) → last_nesting ks (length u) (best ++ rest) (u ++ rest) ≡ last_nesting ks (length u) best u ++ rest
last_append ks [] best [] = refl
last_append ks [] best (t ∷ rest) = refl
last_append ks (t ∷ u) best rest = last_step ks t u best rest (λ b. last_append ks u b rest) (any_fits ks t)

module _ (nestings : List Terminal) where
  -- its nestings are counted, and what is nested too deep is never read
  abbrev pub Guarded : {A : Type 0} → Syntax A → ℕ → Type 0
  Guarded s m = ((k : ℕ) × (tallies nestings s ≡ true) × (guards k s ≡ true) × (m < k)) ⊎ ((is_counted nestings s ≡ true) × (forks_open s ≡ true))

  guard_first : {A B : Type 0} (a : Syntax A) (b : Syntax B) (m : ℕ) → Guarded (Then a b) m → Guarded a m
  unfolding tallies guards is_counted forks_open
  guard_first a b m (inl g) = inl (g.0, (and_parts (tallies nestings a) (tallies nestings b) g.1).0, (and_parts (guards g.0 a) (guards (lower g.0 (least a)) b) g.2).0, g.3)
  guard_first a b m (inr g) = inr ((and_parts (is_counted nestings a) (is_counted nestings b) g.0).0, (and_parts (forks_open a) (forks_open b) g.1).0)

  guard_next : {A B : Type 0} (a : Syntax A) (b : Syntax B) (m : ℕ) → Guarded (Then a b) m → (ts : List Lexeme) (x : A) (i : ℕ) (mid : List Lexeme) → read a m ts ≡ Ok (x, i, mid) → Guarded b i
  unfolding tallies guards is_counted forks_open
  guard_next a b m (inl g) ts x i mid e =
      let w = and_parts (tallies nestings a) (tallies nestings b) g.1 in
      let t = counts nestings a w.0 m ts x i mid e in
      inl (lower g.0 (least a), w.1, (and_parts (guards g.0 a) (guards (lower g.0 (least a)) b) g.2).1, omega (arith, t.3, g.3, spells_least nestings a w.0 t.0 x t.2, lower_is g.0 (least a)))
  guard_next a b m (inr g) ts x i mid e = inr ((and_parts (is_counted nestings a) (is_counted nestings b) g.0).1, (and_parts (forks_open a) (forks_open b) g.1).1)

  guard_left : {A : Type 0} (a b : Syntax A) (m : ℕ) → Guarded (Either a b) m → Guarded a m
  unfolding tallies guards is_counted forks_open
  guard_left a b m (inl g) = inl (g.0, (and_parts (tallies nestings a) (tallies nestings b) g.1).0, (and_parts (guards g.0 a) (guards g.0 b) g.2).0, g.3)
  guard_left a b m (inr g) = inr ((and_parts (is_counted nestings a) (is_counted nestings b) g.0).0, (and_parts (forks_open a) (forks_open b) g.1).0)

  guard_right : {A : Type 0} (a b : Syntax A) (m : ℕ) → Guarded (Either a b) m → Guarded b m
  unfolding tallies guards is_counted forks_open
  guard_right a b m (inl g) = inl (g.0, (and_parts (tallies nestings a) (tallies nestings b) g.1).1, (and_parts (guards g.0 a) (guards g.0 b) g.2).1, g.3)
  guard_right a b m (inr g) = inr ((and_parts (is_counted nestings a) (is_counted nestings b) g.0).1, (and_parts (forks_open a) (forks_open b) g.1).1)

  guard_keeps : {A : Type 0} (a : Syntax A) (m : ℕ) (ts : List Lexeme) (x : A) (i : ℕ) (mid : List Lexeme) → Guarded a m → read a m ts ≡ Ok (x, i, mid) → Guarded a i
  guard_keeps a m ts x i mid (inl g) e = let t = counts nestings a g.1 m ts x i mid e in inl (g.0, g.1, g.2, omega (arith, t.3, g.3))
  guard_keeps a m ts x i mid (inr g) e = inr g

  taken : {A : Type 0} (a : Syntax A) (m : ℕ) (ts : List Lexeme) (x : A) (i : ℕ) (mid : List Lexeme) → read a m ts ≡ Ok (x, i, mid) → (u : List Lexeme) → ts ≡ u ++ mid → Spells a u x
  taken a m ts x i mid e u parts =
      let t = sound a m ts x i mid e in
      subst (λ (w : List Lexeme). Spells a w x) (append_cancel_right t.0 u mid (sym t.1 ∙ parts)) t.2

  bind_deep : {A B : Type 0} (o : Outcome A) (f : A → Reader B) (d : List Lexeme) → o ≡ Err (TooDeep d) → (o >>= f) ≡ Err (TooDeep d)
  bind_deep o f d e = rw e refl

  abbrev paired : {A B : Type 0} → Reader B → A → Reader (A × B)
  paired r y j rest = r j rest >>= λ z l end. Ok ((y, z), l, end)

  pair_deep : {A B : Type 0} (o : Outcome A) (r : Reader B) (x : A) (i : ℕ) (mid d : List Lexeme) → o ≡ Ok (x, i, mid) → r i mid ≡ Err (TooDeep d) → (o >>= paired r) ≡ Err (TooDeep d)
  pair_deep o r x i mid d e h = rw (e, h) refl

  choice_left : {A : Type 0} (b : Bool) (o q : Outcome A) (d : List Lexeme) → b ≡ true → o ≡ Err (TooDeep d) → cond b o q ≡ Err (TooDeep d)
  choice_left b o q d e h = rw (e, h) refl

  choice_right : {A : Type 0} (b : Bool) (o q : Outcome A) (d : List Lexeme) → b ≡ false → q ≡ Err (TooDeep d) → cond b o q ≡ Err (TooDeep d)
  choice_right b o q d e h = rw (e, h) refl

  module _ {A B : Type 0} (ks : List Terminal) (a : Syntax A) (b c : Syntax B) (m : ℕ) (ts : List Lexeme) (x : A) (i : ℕ) (mid : List Lexeme) (was : read a max_nestings ts ≡ Ok (x, i, mid)) where
    fork_list : (d : List Lexeme) → starts (first b) mid ≡ true → read b i mid ≡ Err (TooDeep d) → read (Fork ks a b c) m ts ≡ Err (TooDeep d)
    unfolding read
    fork_list d e h = rw (was, e, h) refl

    fork_goes : (d : List Lexeme) (j : ℕ) → starts (first b) mid ≡ false → starts (first c) mid ≡ true → i ≡ suc j → read c j mid ≡ Err (TooDeep d) → read (Fork ks a b c) m ts ≡ Err (TooDeep d)
    unfolding read
    fork_goes d j e f g h = rw (was, e, f, g, h) refl

    fork_none : starts (first b) mid ≡ false → starts (first c) mid ≡ true → i ≡ 0 → read (Fork ks a b c) m ts ≡ Err (TooDeep (last_nesting ks (length ts - length mid) mid ts))
    unfolding read
    fork_none e f g = rw (was, e, f, g) refl

  -- where the token behind the first part of a fork shows that its bracket was a nesting, of which there are too many then
  module _ {A B : Type 0} (ks : List Terminal) (a : Syntax A) (b c : Syntax B) (fine : is_fine a ≡ true) (same : (t : Lexeme) → any_fits ks t ≡ is_nesting nestings t) (opens : is_open c ≡ true) (m : ℕ) (x : A) where
    abbrev SplitsLast : List Lexeme → Type 0
    SplitsLast u = (v : List Lexeme) × (t : Lexeme) × (w : List Lexeme) × (u ≡ v ++ t ∷ w) × (last_nesting ks (length u) [] u ≡ t ∷ w)

    last_here : (u rest : List Lexeme) → (p : SplitsLast u) → last_nesting ks (length (u ++ rest) - length rest) rest (u ++ rest) ≡ p.1 ∷ (p.2 ++ rest)
    last_here u rest p =
        let len : length (u ++ rest) - length rest ≡ length u = omega (arith, length-append u rest) in
        ap (λ (k : ℕ). last_nesting ks k rest (u ++ rest)) len ∙ last_append ks u [] rest ∙ ap (λ (w : List Lexeme). w ++ rest) p.4

    last_decided : (ts d u : List Lexeme) (s : Lexeme) (mid : List Lexeme) → read a max_nestings ts ≡ Ok (x, 0, s ∷ mid) → ts ≡ u ++ s ∷ mid → max_nestings ≡ nestings_in nestings u → Spells a u x
        → any_fits (first b) s ≡ false → any_fits (first c) s ≡ true → d ≡ last_nesting ks (length ts - length (s ∷ mid)) (s ∷ mid) ts → IsDecided (read (Fork ks a b c)) (Spells (Fork ks a b c)) m ts d
    unfolding Spells
    last_decided ts d u s mid ok parts full spelled misses fits_c is =
        let l = last_is nestings ks same u [] [] 511 (omega (arith, full)) in
        let none : u ++ [] ≡ u = append-nil u in
        let found : last_nesting ks (length u) [] u ≡ l.1 ∷ l.2 = ap (λ (w : List Lexeme). last_nesting ks (length u) [] w) (sym none) ∙ l.7 ∙ ap (λ (w : List Lexeme). l.1 ∷ w) (append-nil l.2) in
        let p : SplitsLast u = (l.0, l.1, l.2, l.3, found) in
        let q = through (read a) (local a fine) max_nestings ts x 0 [] s mid ok in
        let front : q.0 ≡ u = append_cancel_right q.0 u (s ∷ mid) (sym q.1 ∙ parts) in
        let again : (other : List Lexeme) → read a max_nestings (u ++ s ∷ other) ≡ Ok (x, 0, s ∷ other) = λ other. subst (λ (w : List Lexeme). read a max_nestings (w ++ s ∷ other) ≡ Ok (x, 0, s ∷ other)) front (q.2 other) in
        let regroup : (other : List Lexeme) → l.0 ++ l.1 ∷ ((l.2 ++ s ∷ []) ++ other) ≡ u ++ s ∷ other =
        λ other. ap (λ (w : List Lexeme). l.0 ++ l.1 ∷ w) (append_assoc l.2 (s ∷ []) other) ∙ sym (append_assoc l.0 (l.1 ∷ l.2) (s ∷ other)) ∙ ap (λ (w : List Lexeme). w ++ s ∷ other) (sym l.3) in
        let o = first_begins c opens s fits_c in (
          l.0,
          l.1,
          l.2 ++ s ∷ [],
          mid,
          parts ∙ sym (regroup mid),
          is ∙ ap (λ (w : List Lexeme). last_nesting ks (length w - length (s ∷ mid)) (s ∷ mid) w) parts ∙ last_here u (s ∷ mid) p ∙ ap (λ (w : List Lexeme). l.1 ∷ w) (sym (append_assoc l.2 (s ∷ []) mid)),
          λ other.
              ap (λ (w : List Lexeme). read (Fork ks a b c) m w) (regroup other) ∙ fork_none ks a b c m (u ++ s ∷ other) x 0 (s ∷ other) (again other) misses fits_c refl
              ∙ ap (λ (w : List Lexeme). Err (TooDeep w)) (last_here u (s ∷ other) p ∙ ap (λ (w : List Lexeme). l.1 ∷ w) (sym (append_assoc l.2 (s ∷ []) other))),
          (
            o.0,
            (x, o.1),
            (
              u,
              s ∷ o.0,
              append_assoc l.0 (l.1 ∷ (l.2 ++ s ∷ [])) o.0 ∙ regroup o.0,
              spelled,
              inr o.2,
            ),
          ),
        )

    last_any : (ts d u mid : List Lexeme) (i : ℕ) → read a max_nestings ts ≡ Ok (x, i, mid) → i ≡ 0 → ts ≡ u ++ mid → max_nestings ≡ nestings_in nestings u → Spells a u x
        → starts (first b) mid ≡ false → starts (first c) mid ≡ true → d ≡ last_nesting ks (length ts - length mid) mid ts → IsDecided (read (Fork ks a b c)) (Spells (Fork ks a b c)) m ts d
    last_any ts d u [] i ok none parts full spelled misses fits_c is = absurd cc
    last_any ts d u (s ∷ mid) i ok none parts full spelled misses fits_c is = last_decided ts d u s mid (ok ∙ ap (λ (j : ℕ). Ok (x, j, s ∷ mid)) none) parts full spelled misses fits_c is

  pub decided : {A : Type 0} (s : Syntax A) → is_fine s ≡ true → (m : ℕ) (ts d : List Lexeme) → Guarded s m → read s m ts ≡ Err (TooDeep d) → IsDecided (read s) (Spells s) m ts d
  unfolding read Spells is_fine tallies guards is_counted forks_open
  decided (Past a) fine m ts d (inl g) h = absurd (omega (arith, g.3, none_is g.0 g.2))
  decided (Past a) fine m ts d (inr g) h = absurd (let e = g.0 in cc)
  decided (Token k) fine m [] d g h = absurd (let e : Unexpected [] ≡ TooDeep d = cc in cc)
  decided (Token k) fine m (t ∷ ts) d g h =
      elim (chosen (fits k t) _ _ _ h) [ inl c ↦ absurd (let w = c.1 in cc) | inr c ↦ absurd (let w = c.1 in let e : Unexpected (t ∷ ts) ≡ TooDeep d = cc in cc) ]
  decided (Nesting k) fine m [] d g h = absurd (let e : Unexpected [] ≡ TooDeep d = cc in cc)
  decided (Nesting k) fine m (t ∷ ts) d g h =
      elim (chosen (fits k t) _ _ _ h) [
        | inl c ↦ let q = one_over nestings t m ts d c.1 in ([], t, [], ts, refl, q.1, λ other. rw (q.0, c.0) refl, ([], t, (refl, c.0)))
        | inr c ↦ absurd (let w = c.1 in let e : Unexpected (t ∷ ts) ≡ TooDeep d = cc in cc)
      ]
  decided (Whole a) fine m ts d (inl g) h = absurd (let e = g.1 in cc)
  decided (Whole a) fine m ts d (inr g) h =
      let c = and_parts (tallies nestings a) (guards (suc max_nestings) a) g.0 in
      decided a fine max_nestings ts d (inl (suc max_nestings, c.0, c.1, omega arith)) h
  decided (Known fs ms a) fine m ts d g h =
      let f = known_parts (is_fine a) (nullable a) (within (first a) fs) (within (more a) ms) fine in
      decided a f.0 m ts d g h
  decided (Then a b) fine m ts d g h =
      let f = and_three (is_fine a) (is_fine b) (apart (more a) (first b)) fine in
      elim (bind_err (read a m ts) _ (TooDeep d) h) [
        | inl e ↦
            let p = decided a f.0 m ts d (guard_first a b m g) e in
            first_decided (read a) (read (Then a b)) (Spells a) (Spells (Then a b)) m m ts d p (λ other c k. bind_deep (read a m (p.0 ++ p.1 ∷ (p.2 ++ other))) (paired (read b)) c k) (opens_then a b)
        | inr q ↦
            elim (bind_err (read b q.1 q.2) _ (TooDeep d) q.4) [
              | inl e ↦
                  let p = decided b f.1 q.1 q.2 d (guard_next a b m g ts q.0 q.1 q.2 q.3) e in
                  next_decided (read a) (read b) (read (Then a b)) (Spells b) (Spells (Then a b)) (local a f.0) m ts d q.0 q.1 q.1 q.2 q.3 p
                  (λ u other c parts ok k. pair_deep (read a m (u ++ (p.0 ++ p.1 ∷ (p.2 ++ other)))) (read b) q.0 q.1 (p.0 ++ p.1 ∷ (p.2 ++ other)) c ok k)
                  (λ u parts z o. (o.0, (q.0, o.1), (u, z ++ o.0, append_assoc u z o.0, taken a m ts q.0 q.1 q.2 q.3 u parts, o.2)))
              | inr z ↦ absurd (let w = z.4 in cc)
            ]
      ]
  decided (Map f a) fine m ts d g h =
      elim (bind_err (read a m ts) _ (TooDeep d) h) [
        | inl e ↦
            let p = decided a fine m ts d g e in
            first_decided (read a) (read (Map f a)) (Spells a) (Spells (Map f a)) m m ts d p (λ other c k. bind_deep (read a m (p.0 ++ p.1 ∷ (p.2 ++ other))) (λ x i rest. Ok (f x, i, rest)) c k) (λ z o. (o.0, f o.1, (o.1, refl, o.2)))
        | inr z ↦ absurd (let w = z.4 in cc)
      ]
  decided (Either a b) fine m ts d g h =
      let f = choice_parts (is_fine a) (is_fine b) (nullable a) (nullable b) (apart (first a) (first b)) fine in
      elim (chosen (starts (first a) ts) _ _ _ h) [
        | inl c ↦
            let p = decided a f.0 m ts d (guard_left a b m g) c.1 in
            first_decided (read a) (read (Either a b)) (Spells a) (Spells (Either a b)) m m ts d p
            (λ other e k. choice_left (starts (first a) (p.0 ++ p.1 ∷ (p.2 ++ other))) (read a m (p.0 ++ p.1 ∷ (p.2 ++ other))) (read b m (p.0 ++ p.1 ∷ (p.2 ++ other))) e (starts_so (first a) true ts p.0 p.1 (p.2 ++ p.3) (p.2 ++ other) p.4 c.0) k)
            (λ z o. (o.0, o.1, inl o.2))
        | inr c ↦
            let p = decided b f.1 m ts d (guard_right a b m g) c.1 in
            first_decided (read b) (read (Either a b)) (Spells b) (Spells (Either a b)) m m ts d p
            (λ other e k. choice_right (starts (first a) (p.0 ++ p.1 ∷ (p.2 ++ other))) (read a m (p.0 ++ p.1 ∷ (p.2 ++ other))) (read b m (p.0 ++ p.1 ∷ (p.2 ++ other))) e (starts_so (first a) false ts p.0 p.1 (p.2 ++ p.3) (p.2 ++ other) p.4 c.0) k)
            (λ z o. (o.0, o.1, inr o.2))
      ]
  decided (Maybe a) fine m ts d g h =
      let f = and_parts (is_fine a) (not (nullable a)) fine in
      elim (chosen (starts (first a) ts) _ _ _ h) [
        | inl c ↦
            elim (bind_err (read a m ts) _ (TooDeep d) c.1) [
              | inl e ↦
                  let p = decided a f.0 m ts d g e in
                  first_decided (read a) (read (Maybe a)) (Spells a) (Spells (Maybe a)) m m ts d p
                  (λ other e k.
                  choice_left (starts (first a) (p.0 ++ p.1 ∷ (p.2 ++ other))) _ _ e (starts_so (first a) true ts p.0 p.1 (p.2 ++ p.3) (p.2 ++ other) p.4 c.0)
                  (bind_deep (read a m (p.0 ++ p.1 ∷ (p.2 ++ other))) (λ x i rest. Ok (Some x, i, rest)) e k))
                  (λ z o. (o.0, Some o.1, o.2))
              | inr z ↦ absurd (let w = z.4 in cc)
            ]
        | inr c ↦ absurd (let w = c.1 in cc)
      ]
  decided (Many a) fine m ts d g h =
      let f = and_three (is_fine a) (not (nullable a)) (apart (more a) (first a)) fine in
      many_decided a f.0 (not-true (nullable a) f.1) m ts d
      (repeated_decided (read a) (Spells a) (first a) (Guarded a) (local a f.0) (sound a) (decided a f.0) (guard_keeps a) (length ts) m ts d g h)
  decided (Fork ks a b c) fine m ts d (inl g) h = absurd (let e = g.1 in cc)
  decided (Fork ks a b c) fine m ts d (inr g) h =
      let f = fork_is ks a b c fine in
      let k = fork_counted nestings ks a b c g.0 in
      let opens = and_parts (is_open c) (forks_open b) g.1 in
      elim (bind_err (read a max_nestings ts) _ (TooDeep d) h) [
        | inl e ↦
            let p = decided a f.head max_nestings ts d (inl (suc max_nestings, k.head, k.head_guard, omega arith)) e in
            first_decided (read a) (read (Fork ks a b c)) (Spells a) (Spells (Fork ks a b c)) max_nestings m ts d p
            (λ other c k. bind_deep (read a max_nestings (p.0 ++ p.1 ∷ (p.2 ++ other))) _ c k)
            (λ z o. let q = sample b in (o.0 ++ q.0, (o.1, q.1), (z ++ o.0, q.0, sym (append_assoc z o.0 q.0), o.2, inl q.2)))
        | inr q ↦
            let t = counts nestings a k.head max_nestings ts q.0 q.1 q.2 q.3 in
            let deep = last_nesting ks (length ts - length q.2) q.2 ts in
            elim (bind_err (either_rest (first b) (read b) (first c) (charged deep (read c)) q.1 q.2) _ (TooDeep d) q.4) [
              | inl e ↦
                  elim (chosen (starts (first b) q.2) _ _ _ e) [
                    | inl s ↦
                        let p = decided b f.one.0 q.1 q.2 d (inr (k.one, opens.1)) s.1 in
                        next_decided (λ l us. read a max_nestings us) (read b) (read (Fork ks a b c)) (Spells b) (Spells (Fork ks a b c)) (λ l. local a f.head max_nestings) m ts d q.0 q.1 q.1 q.2 q.3 p
                        (λ u other c' parts ok l. fork_list ks a b c m (u ++ (p.0 ++ p.1 ∷ (p.2 ++ other))) q.0 q.1 (p.0 ++ p.1 ∷ (p.2 ++ other)) ok c' (starts_so (first b) true q.2 p.0 p.1 (p.2 ++ p.3) (p.2 ++ other) p.4 s.0) l)
                        (λ u parts z o. (o.0, (q.0, o.1), (u, z ++ o.0, append_assoc u z o.0, taken a max_nestings ts q.0 q.1 q.2 q.3 u parts, inl o.2)))
                    | inr s ↦
                        elim (chosen (starts (first c) q.2) _ _ _ s.1) [
                          | inl v ↦
                              elim (charged_ends nestings (read c) deep q.2 d q.1 v.1) [
                                | inl z ↦ last_any ks a b c f.head k.same opens.0 m q.0 ts d t.0 q.2 q.1 q.3 z.0 t.1 (omega (arith, t.3, z.0)) t.2 s.0 v.0 z.1
                                | inr z ↦
                                    let p = decided c f.two.0 z.0 q.2 d (inl (suc max_nestings, k.two, k.two_guard, omega (arith, t.3, z.1))) z.2 in
                                    next_decided (λ l us. read a max_nestings us) (read c) (read (Fork ks a b c)) (Spells c) (Spells (Fork ks a b c)) (λ l. local a f.head max_nestings) m ts d q.0 q.1 z.0 q.2 q.3 p
                                    (λ u other c' parts ok l.
                                    fork_goes ks a b c m (u ++ (p.0 ++ p.1 ∷ (p.2 ++ other))) q.0 q.1 (p.0 ++ p.1 ∷ (p.2 ++ other)) ok c' z.0 (starts_so (first b) false q.2 p.0 p.1 (p.2 ++ p.3) (p.2 ++ other) p.4 s.0)
                                    (starts_so (first c) true q.2 p.0 p.1 (p.2 ++ p.3) (p.2 ++ other) p.4 v.0) z.1 l)
                                    (λ u parts z' o. (o.0, (q.0, o.1), (u, z' ++ o.0, append_assoc u z' o.0, taken a max_nestings ts q.0 q.1 q.2 q.3 u parts, inr o.2)))
                              ]
                          | inr v ↦ absurd (let w = v.1 in let e : Unexpected q.2 ≡ TooDeep d = cc in cc)
                        ]
                  ]
              | inr z ↦ absurd (let w = z.4 in cc)
            ]
      ]
