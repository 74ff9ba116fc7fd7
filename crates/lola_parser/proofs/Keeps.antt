-- In a sentence, which of its first tokens may be nestings too many, by the parts of the sentence.
use Rattle.std.proofs.Common.{◌≡◌, ℕ, suc, ◌+◌, ◌≤◌, ◌<◌, Bool, true, false, List, [], ◌∷◌, ◌++◌, length, Some, None, refl, sym, ap, subst, ◌∙◌, append_assoc, arith, inl, inr, ◌⊎◌}
use Rattle.std.proofs.lemmas.List.{length-append, append_cancel_right}
use Rattle.std.proofs.lemmas.Bool.{false_from_ne_true}
use Rattle.lola_parser_grammar.specs.Syntax.{Lexeme, Terminal, any_fits, apart, Syntax, Past, Token, Nesting, Whole, Known, Then, Map, Either, Maybe, Many, Fork, Repeats, Spells, starts, first, nullable, more, is_fine}
use Rattle.lola_parser_grammar.specs.Nestings.{is_nesting, nestings_in, one_if}
use Rattle.lola_parser_grammar.specs.Exceeding.{ExceedsAmong}
use Rattle.lola_parser_grammar.proofs.Tests.{apart_excludes}
use Rattle.lola_parser_grammar.proofs.Complete.{begins, any_split, follows, tail_stops, repeats_begin, ForkParts, full_is, fork_follows}
use Rattle.lola_parser_grammar.proofs.Within.{nestings-append}
use Rattle.lola_parser.specs.Late.{IsNestingBehind}
use Rattle.lola_parser.proofs.Placed.{fronts}
use Rattle.lola_parser.proofs.Free.{unique}

module _ (nestings : List Terminal) where
  among_spells : {A : Type 0} (P : List Lexeme → A → Type 0) (Q : List Lexeme → Lexeme → List Lexeme → A → Type 0) → ((u : List Lexeme) (t : Lexeme) (v : List Lexeme) (x : A) → Q u t v x → P (u ++ t ∷ v) x)
      → (u : List Lexeme) (t : Lexeme) (v : List Lexeme) (xs : List A) → ExceedsAmong Q P u t v xs → Repeats P (u ++ t ∷ v) xs
  among_spells P Q f u t v [] h = absurd h
  among_spells P Q f u t v (x ∷ xs) (inl h) = (u ++ t ∷ h.0, h.1, ap (λ (w : List Lexeme). u ++ t ∷ w) h.2 ∙ sym (append_assoc u (t ∷ h.0) h.1), f u t h.0 x h.3, h.4)
  among_spells P Q f u t v (x ∷ xs) (inr h) = (h.0, h.1 ++ t ∷ v, ap (λ (w : List Lexeme). w ++ t ∷ v) h.2 ∙ append_assoc h.0 h.1 (t ∷ v), h.3, among_spells P Q f h.1 t v xs h.4)

  -- where a token is such a nesting, it stands in a sentence
  pub nesting_spells : {A : Type 0} (s : Syntax A) (k : ℕ) (u : List Lexeme) (t : Lexeme) (v : List Lexeme) (x : A) → IsNestingBehind nestings k s u t v x → Spells s (u ++ t ∷ v) x
  unfolding IsNestingBehind Spells
  nesting_spells (Past a) k u t v x h = absurd h
  nesting_spells (Token c) k u t v x h = absurd h
  nesting_spells (Nesting c) k u t v x h = absurd h
  nesting_spells (Whole a) k u t v x h = h.0
  nesting_spells (Known fs ms a) k u t v x h = nesting_spells a k u t v x h
  nesting_spells (Then a b) k u t v x (inl h) = (u ++ t ∷ h.0, h.1, ap (λ (w : List Lexeme). u ++ t ∷ w) h.2 ∙ sym (append_assoc u (t ∷ h.0) h.1), nesting_spells a k u t h.0 x.0 h.3, h.4)
  nesting_spells (Then a b) k u t v x (inr h) = (h.0, h.1 ++ t ∷ v, ap (λ (w : List Lexeme). w ++ t ∷ v) h.2 ∙ append_assoc h.0 h.1 (t ∷ v), h.3, nesting_spells b k h.1 t v x.1 h.4)
  nesting_spells (Map f a) k u t v y h = (h.0, h.1, nesting_spells a k u t v h.0 h.2)
  nesting_spells (Either a b) k u t v x (inl h) = inl (nesting_spells a k u t v x h)
  nesting_spells (Either a b) k u t v x (inr h) = inr (nesting_spells b k u t v x h)
  nesting_spells (Maybe a) k u t v None h = absurd h
  nesting_spells (Maybe a) k u t v (Some x) h = nesting_spells a k u t v x h
  nesting_spells (Many a) k u t v xs h = among_spells (Spells a) (IsNestingBehind nestings k a) (nesting_spells a k) u t v xs h
  nesting_spells (Fork ks a b c) k u t v x (inl (inl h)) = (u ++ t ∷ h.0, h.1, ap (λ (w : List Lexeme). u ++ t ∷ w) h.2 ∙ sym (append_assoc u (t ∷ h.0) h.1), h.3, inl h.4)
  nesting_spells (Fork ks a b c) k u t v x (inl (inr h)) = (u ++ t ∷ h.0, h.1, ap (λ (w : List Lexeme). u ++ t ∷ w) h.2 ∙ sym (append_assoc u (t ∷ h.0) h.1), h.3, inr h.4)
  nesting_spells (Fork ks a b c) k u t v x (inr (inl h)) = (h.0, h.1 ++ t ∷ v, ap (λ (w : List Lexeme). w ++ t ∷ v) h.2 ∙ append_assoc h.0 h.1 (t ∷ v), h.3, inl (nesting_spells b k h.1 t v x.1 h.4))
  nesting_spells (Fork ks a b c) k u t v x (inr (inr h)) = (h.0, h.1 ++ t ∷ v, ap (λ (w : List Lexeme). w ++ t ∷ v) h.2 ∙ append_assoc h.0 h.1 (t ∷ v), h.3, inr h.4)

  module _ (l : ℕ) where
    -- in the sentence z, none of the first n tokens is a nesting with l nestings or more before it in its whole expression
    abbrev pub Keeps : {A : Type 0} → Syntax A → ℕ → List Lexeme → A → Type 0
    Keeps s n z x = (k : ℕ) (u : List Lexeme) (t : Lexeme) (v : List Lexeme) → z ≡ u ++ t ∷ v → length u < n → IsNestingBehind nestings k s u t v x → k < l

    abbrev pub KeepsAmong : {A : Type 0} → Syntax A → ℕ → List Lexeme → List A → Type 0
    KeepsAmong a n z xs = (k : ℕ) (u : List Lexeme) (t : Lexeme) (v : List Lexeme) → z ≡ u ++ t ∷ v → length u < n → ExceedsAmong (IsNestingBehind nestings k a) (Spells a) u t v xs → k < l

    -- where `base` nestings stand before z, none of its first n tokens is a nesting with l nestings or more before it
    abbrev pub IsFew : ℕ → ℕ → List Lexeme → Type 0
    IsFew base n z = (u : List Lexeme) (t : Lexeme) (v : List Lexeme) → z ≡ u ++ t ∷ v → length u < n → is_nesting nestings t ≡ true → base + nestings_in nestings u < l

    more_by : (t : Lexeme) (v : List Lexeme) (b : Bool) → is_nesting nestings t ≡ b → nestings_in nestings (t ∷ v) ≡ one_if nestings b + nestings_in nestings v
    more_by t v b e = ap (λ c. one_if nestings c + nestings_in nestings v) e

    pub few_all : (base n : ℕ) (z : List Lexeme) → base + nestings_in nestings z ≤ l → IsFew base n z
    few_all base n z le u t v parts low nesting = omega (arith, le, ap (nestings_in nestings) parts, nestings-append nestings u (t ∷ v), more_by t v true nesting)

    pub few_front : (base : ℕ) (z p q : List Lexeme) → z ≡ p ++ q → base + nestings_in nestings p ≤ l → IsFew base (length p) z
    few_front base z p q whole le u t v parts low nesting =
        elim (fronts p q u (t ∷ v) (sym whole ∙ parts)) [
          | inl f ↦ absurd (omega (arith, low, ap length f.1, length-append p f.0))
          | inr f ↦
              let same : f.0 ≡ t = (let e = f.3 in cc) in
              let nesting' : is_nesting nestings f.0 ≡ true = subst (λ (y : Lexeme). is_nesting nestings y ≡ true) (sym same) nesting in
              omega (arith, le, ap (nestings_in nestings) f.2, nestings-append nestings u (f.0 ∷ f.1), more_by f.0 f.1 true nesting')
        ]

    pub keeps_none : {A : Type 0} (s : Syntax A) (z : List Lexeme) (x : A) → Keeps s 0 z x
    keeps_none s z x k u t v parts low h = absurd (omega (arith, low))

    pub keeps_whole : {A : Type 0} (a : Syntax A) (n : ℕ) (z : List Lexeme) (x : A) → IsFew 0 n z → Keeps (Whole a) n z x
    unfolding IsNestingBehind
    keeps_whole a n z x few k u t v parts low h = let less = few u t v parts low h.2 in omega (arith, less, h.1)

    -- ---- two parts in turn

    regroup_first : (u w y rest z1 z2 v : List Lexeme) (t : Lexeme) → z1 ++ z2 ≡ u ++ t ∷ v → v ≡ w ++ y → (u ++ t ∷ w) ++ (y ++ rest) ≡ z1 ++ (z2 ++ rest)
    regroup_first u w y rest z1 z2 v t parts e =
        sym (append_assoc (u ++ t ∷ w) y rest) ∙ ap (λ (q : List Lexeme). q ++ rest) (append_assoc u (t ∷ w) y ∙ ap (λ (q : List Lexeme). u ++ t ∷ q) (sym e) ∙ sym parts) ∙ append_assoc z1 z2 rest

    regroup_next : (u w y rest z1 z2 v : List Lexeme) (t : Lexeme) → z1 ++ z2 ≡ u ++ t ∷ v → u ≡ w ++ y → w ++ ((y ++ t ∷ v) ++ rest) ≡ z1 ++ (z2 ++ rest)
    regroup_next u w y rest z1 z2 v t parts e =
        sym (append_assoc w (y ++ t ∷ v) rest) ∙ ap (λ (q : List Lexeme). q ++ rest) (sym (append_assoc w y (t ∷ v)) ∙ ap (λ (q : List Lexeme). q ++ t ∷ v) (sym e) ∙ sym parts) ∙ append_assoc z1 z2 rest

    low_next : (u w y z1 : List Lexeme) (n j : ℕ) → u ≡ w ++ y → w ≡ z1 → length u < n → n ≤ length z1 + j → length y < j
    low_next u w y z1 n j e f low le = omega (arith, ap length e, ap length f, length-append w y, low, le)

    pub keeps_then : {A B : Type 0} (a : Syntax A) (b : Syntax B) → is_fine a ≡ true → is_fine b ≡ true → apart (more a) (first b) ≡ true → (n j : ℕ) (z1 z2 rest : List Lexeme) (x : A × B)
        → Spells a z1 x.0 → Spells b z2 x.1 → starts (more (Then a b)) rest ≡ false → Keeps a n z1 x.0 → Keeps b j z2 x.1 → n ≤ length z1 + j → Keeps (Then a b) n (z1 ++ z2) x
    unfolding IsNestingBehind more
    keeps_then a b fa fb away n j z1 z2 rest x ha hb stop one two le k u t v parts low (inl h) =
        let s = tail_stops (nullable b) (more b) (more a) rest stop in
        let p = unique a fa (u ++ t ∷ h.0) z1 x.0 x.0 (h.1 ++ rest) (z2 ++ rest) (nesting_spells a k u t h.0 x.0 h.3) ha (follows (more a) b fb h.1 x.1 rest away h.4 s.1) (follows (more a) b fb z2 x.1 rest away hb s.1)
        (regroup_first u h.0 h.1 rest z1 z2 v t parts h.2) in
        one k u t h.0 (sym p.0) low h.3
    keeps_then a b fa fb away n j z1 z2 rest x ha hb stop one two le k u t v parts low (inr h) =
        let s = tail_stops (nullable b) (more b) (more a) rest stop in
        let there = nesting_spells b k h.1 t v x.1 h.4 in
        let p = unique a fa h.0 z1 x.0 x.0 ((h.1 ++ t ∷ v) ++ rest) (z2 ++ rest) h.3 ha (follows (more a) b fb (h.1 ++ t ∷ v) x.1 rest away there s.1) (follows (more a) b fb z2 x.1 rest away hb s.1)
        (regroup_next u h.0 h.1 rest z1 z2 v t parts h.2) in
        let whole : z2 ≡ h.1 ++ t ∷ v = append_cancel_right z2 (h.1 ++ t ∷ v) rest (sym p.1) in
        two k h.1 t v whole (low_next u h.0 h.1 z1 n j h.2 p.0 low le) h.4

    -- ---- one of two

    only_left : {A : Type 0} (a b : Syntax A) → is_fine a ≡ true → is_fine b ≡ true → apart (first a) (first b) ≡ true → (z : List Lexeme) (t : Lexeme) (u v : List Lexeme) (x y : A) → Spells a z x → z ≡ u ++ t ∷ v → Spells b (u ++ t ∷ v) y → ⊥
    only_left a b fa fb away z t [] v x y ha e hb = apart_excludes (first a) (first b) t away (begins a fa t v x (subst (λ (w : List Lexeme). Spells a w x) e ha)) (begins b fb t v y hb)
    only_left a b fa fb away z t (s ∷ u) v x y ha e hb = apart_excludes (first a) (first b) s away (begins a fa s (u ++ t ∷ v) x (subst (λ (w : List Lexeme). Spells a w x) e ha)) (begins b fb s (u ++ t ∷ v) y hb)

    pub keeps_left : {A : Type 0} (a b : Syntax A) → is_fine a ≡ true → is_fine b ≡ true → apart (first a) (first b) ≡ true → (n : ℕ) (z : List Lexeme) (x : A) → Spells a z x → Keeps a n z x → Keeps (Either a b) n z x
    unfolding IsNestingBehind
    keeps_left a b fa fb away n z x ha one k u t v parts low (inl h) = one k u t v parts low h
    keeps_left a b fa fb away n z x ha one k u t v parts low (inr h) = absurd (only_left a b fa fb away z t u v x x ha parts (nesting_spells b k u t v x h))

    pub keeps_right : {A : Type 0} (a b : Syntax A) → is_fine a ≡ true → is_fine b ≡ true → apart (first a) (first b) ≡ true → (n : ℕ) (z : List Lexeme) (x : A) → Spells b z x → Keeps b n z x → Keeps (Either a b) n z x
    unfolding IsNestingBehind
    keeps_right a b fa fb away n z x hb one k u t v parts low (inr h) = one k u t v parts low h
    keeps_right a b fa fb away n z x hb one k u t v parts low (inl h) = absurd (only_left a b fa fb away (u ++ t ∷ v) t u v x x (nesting_spells a k u t v x h) refl (subst (λ (w : List Lexeme). Spells b w x) parts hb))

    -- ---- the same part with another value

    pub keeps_map : {A B : Type 0} (f : A → B) (a : Syntax A) → is_fine a ≡ true → (n : ℕ) (z : List Lexeme) (x : A) → Spells a z x → Keeps a n z x → Keeps (Map f a) n z (f x)
    unfolding IsNestingBehind
    keeps_map f a fine n z x ha one k u t v parts low h =
        let p = unique a fine z (u ++ t ∷ v) x h.0 [] [] ha (nesting_spells a k u t v h.0 h.2) refl refl (ap (λ (w : List Lexeme). w ++ []) parts) in
        one k u t v parts low (subst (IsNestingBehind nestings k a u t v) (sym p.2) h.2)

    pub keeps_some : {A : Type 0} (a : Syntax A) (n : ℕ) (z : List Lexeme) (x : A) → Keeps a n z x → Keeps (Maybe a) n z (Some x)
    unfolding IsNestingBehind
    keeps_some a n z x one = one

    -- ---- repetitions

    pub after_item : {A : Type 0} (a : Syntax A) → is_fine a ≡ true → apart (more a) (first a) ≡ true → (w : List Lexeme) (xs : List A) (rest : List Lexeme) → Repeats (Spells a) w xs → starts (first a ++ more a) rest ≡ false → starts (more a) (w ++ rest) ≡ false
    after_item a fine away [] xs rest h stop = (any_split (first a) (more a) rest stop).1
    after_item a fine away (s ∷ w) xs rest h stop = false_from_ne_true (any_fits (more a) s) (λ c. apart_excludes (more a) (first a) s away c (repeats_begin (Spells a) (first a) (begins a fine) s w xs h))

    pub keeps_nil : {A : Type 0} (a : Syntax A) (n : ℕ) (z : List Lexeme) → KeepsAmong a n z []
    keeps_nil a n z k u t v parts low h = absurd h

    pub keeps_cons : {A : Type 0} (a : Syntax A) → is_fine a ≡ true → apart (more a) (first a) ≡ true → (n j : ℕ) (z1 z2 rest : List Lexeme) (x : A) (xs : List A)
        → Spells a z1 x → Repeats (Spells a) z2 xs → starts (first a ++ more a) rest ≡ false → Keeps a n z1 x → KeepsAmong a j z2 xs → n ≤ length z1 + j → KeepsAmong a n (z1 ++ z2) (x ∷ xs)
    keeps_cons a fine away n j z1 z2 rest x xs ha hb stop one two le k u t v parts low (inl h) =
        let p = unique a fine (u ++ t ∷ h.0) z1 x x (h.1 ++ rest) (z2 ++ rest) (nesting_spells a k u t h.0 x h.3) ha (after_item a fine away h.1 xs rest h.4 stop) (after_item a fine away z2 xs rest hb stop)
        (regroup_first u h.0 h.1 rest z1 z2 v t parts h.2) in
        one k u t h.0 (sym p.0) low h.3
    keeps_cons a fine away n j z1 z2 rest x xs ha hb stop one two le k u t v parts low (inr h) =
        let there = among_spells (Spells a) (IsNestingBehind nestings k a) (nesting_spells a k) h.1 t v xs h.4 in
        let p = unique a fine h.0 z1 x x ((h.1 ++ t ∷ v) ++ rest) (z2 ++ rest) h.3 ha (after_item a fine away (h.1 ++ t ∷ v) xs rest there stop) (after_item a fine away z2 xs rest hb stop)
        (regroup_next u h.0 h.1 rest z1 z2 v t parts h.2) in
        let whole : z2 ≡ h.1 ++ t ∷ v = append_cancel_right z2 (h.1 ++ t ∷ v) rest (sym p.1) in
        two k h.1 t v whole (low_next u h.0 h.1 z1 n j h.2 p.0 low le) h.4

    pub keeps_many : {A : Type 0} (a : Syntax A) (n : ℕ) (z : List Lexeme) (xs : List A) → KeepsAmong a n z xs → Keeps (Many a) n z xs
    unfolding IsNestingBehind
    keeps_many a n z xs h = h

    -- ---- behind a bracket

    module _ {A B : Type 0} (ks : List Terminal) (a : Syntax A) (b c : Syntax B) (f : ForkParts a b c) where
      not_both : (z : List Lexeme) (x y : B) → Spells b z x → Spells c z y → ⊥
      not_both [] x y hb hc = full_is b f.one.0 f.one.1 x hb
      not_both (s ∷ z) x y hb hc = apart_excludes (first b) (first c) s f.clear (begins b f.one.0 s z x hb) (begins c f.two.0 s z y hc)

      stops_there : (z rest : List Lexeme) (y : B) → (Spells b z y ⊎ Spells c z y) → starts (more a) (z ++ rest) ≡ false
      stops_there z rest y h = fork_follows (more a) b c f.one f.two z y rest h

      -- the parts of one sentence
      same_first : (u w y z1 z2 v : List Lexeme) (t : Lexeme) (x : A × B) → z1 ++ z2 ≡ u ++ t ∷ v → v ≡ w ++ y → Spells a z1 x.0 → Spells a (u ++ t ∷ w) x.0 → (Spells b z2 x.1 ⊎ Spells c z2 x.1) → (Spells b y x.1 ⊎ Spells c y x.1)
          → (z1 ≡ u ++ t ∷ w) × (z2 ≡ y)
      same_first u w y z1 z2 v t x parts e ha hw hz hy =
          let p = unique a f.head (u ++ t ∷ w) z1 x.0 x.0 (y ++ []) (z2 ++ []) hw ha (stops_there y [] x.1 hy) (stops_there z2 [] x.1 hz) (regroup_first u w y [] z1 z2 v t parts e) in
          (sym p.0, append_cancel_right z2 y [] (sym p.1))

      same_next : (u w y z1 z2 v : List Lexeme) (t : Lexeme) (x : A × B) → z1 ++ z2 ≡ u ++ t ∷ v → u ≡ w ++ y → Spells a z1 x.0 → Spells a w x.0 → (Spells b z2 x.1 ⊎ Spells c z2 x.1) → (Spells b (y ++ t ∷ v) x.1 ⊎ Spells c (y ++ t ∷ v) x.1)
          → (w ≡ z1) × (z2 ≡ y ++ t ∷ v)
      same_next u w y z1 z2 v t x parts e ha hw hz hy =
          let p = unique a f.head w z1 x.0 x.0 ((y ++ t ∷ v) ++ []) (z2 ++ []) hw ha (stops_there (y ++ t ∷ v) [] x.1 hy) (stops_there z2 [] x.1 hz) (regroup_next u w y [] z1 z2 v t parts e) in
          (p.0, append_cancel_right z2 (y ++ t ∷ v) [] (sym p.1))

      pub keeps_list : (n j : ℕ) (z1 z2 : List Lexeme) (x : A × B) → Spells a z1 x.0 → Spells b z2 x.1 → IsFew 0 n z1 → Keeps b j z2 x.1 → n ≤ length z1 + j → Keeps (Fork ks a b c) n (z1 ++ z2) x
      unfolding IsNestingBehind
      keeps_list n j z1 z2 x ha hb one two le k u t v parts low (inl (inl h)) =
          let p = same_first u h.0 h.1 z1 z2 v t x parts h.2 ha h.3 (inl hb) (inl h.4) in
          let less = one u t h.0 p.0 low h.6 in
          omega (arith, less, h.5)
      keeps_list n j z1 z2 x ha hb one two le k u t v parts low (inl (inr h)) =
          let p = same_first u h.0 h.1 z1 z2 v t x parts h.2 ha h.3 (inl hb) (inr h.4) in
          absurd (not_both h.1 x.1 x.1 (subst (λ (w : List Lexeme). Spells b w x.1) p.1 hb) h.4)
      keeps_list n j z1 z2 x ha hb one two le k u t v parts low (inr (inl h)) =
          let p = same_next u h.0 h.1 z1 z2 v t x parts h.2 ha h.3 (inl hb) (inl (nesting_spells b k h.1 t v x.1 h.4)) in
          two k h.1 t v p.1 (low_next u h.0 h.1 z1 n j h.2 p.0 low le) h.4
      keeps_list n j z1 z2 x ha hb one two le k u t v parts low (inr (inr h)) =
          let p = same_next u h.0 h.1 z1 z2 v t x parts h.2 ha h.3 (inl hb) (inr h.4) in
          absurd (not_both (h.1 ++ t ∷ v) x.1 x.1 (subst (λ (w : List Lexeme). Spells b w x.1) p.1 hb) h.4)

      pub keeps_bracket : (n j : ℕ) (z1 z2 : List Lexeme) (x : A × B) → Spells a z1 x.0 → Spells c z2 x.1 → IsFew 1 n z1 → IsFew (suc (nestings_in nestings z1)) j z2 → n ≤ length z1 + j → Keeps (Fork ks a b c) n (z1 ++ z2) x
      unfolding IsNestingBehind
      keeps_bracket n j z1 z2 x ha hc one two le k u t v parts low (inl (inl h)) =
          let p = same_first u h.0 h.1 z1 z2 v t x parts h.2 ha h.3 (inr hc) (inl h.4) in
          absurd (not_both h.1 x.1 x.1 h.4 (subst (λ (w : List Lexeme). Spells c w x.1) p.1 hc))
      keeps_bracket n j z1 z2 x ha hc one two le k u t v parts low (inl (inr h)) =
          let p = same_first u h.0 h.1 z1 z2 v t x parts h.2 ha h.3 (inr hc) (inr h.4) in
          let less = one u t h.0 p.0 low h.6 in
          omega (arith, less, h.5)
      keeps_bracket n j z1 z2 x ha hc one two le k u t v parts low (inr (inl h)) =
          let there = nesting_spells b k h.1 t v x.1 h.4 in
          let p = same_next u h.0 h.1 z1 z2 v t x parts h.2 ha h.3 (inr hc) (inl there) in
          absurd (not_both (h.1 ++ t ∷ v) x.1 x.1 there (subst (λ (w : List Lexeme). Spells c w x.1) p.1 hc))
      keeps_bracket n j z1 z2 x ha hc one two le k u t v parts low (inr (inr h)) =
          let p = same_next u h.0 h.1 z1 z2 v t x parts h.2 ha h.3 (inr hc) (inr h.4) in
          let less = two h.1 t v p.1 (low_next u h.0 h.1 z1 n j h.2 p.0 low le) h.6 in
          omega (arith, less, h.5, ap (nestings_in nestings) p.0)
