-- What has no more nestings than may come is read.
use Rattle.std.proofs.Common.{◌≡◌, ℕ, zero, suc, ◌+◌, ◌-◌, ◌≤◌, ◌<◌, true, false, not, List, [], ◌∷◌, ◌++◌, length, Some, None, Ok, refl, ap, ◌∙◌, append_assoc, arith, inl, inr}
use Rattle.std.proofs.lemmas.List.{length-append}
use Rattle.std.proofs.lemmas.Bool.{and_parts, not-true, false_from_ne_true}
use Rattle.lola_parser_grammar.specs.Syntax.{Lexeme, Terminal, fits, any_fits, clashes, listed, Syntax, Past, Token, Nesting, Whole, Known, Then, Map, Either, Maybe, Many, Fork, Repeats, Spells, starts, first, nullable, more, apart, within, is_fine, Outcome, Reader, ◌>>=◌, counted, take_token, take_nesting, repeated, read}
use Rattle.lola_parser_grammar.specs.Nestings.{lower, none_left, least, guards, is_nesting, nestings_in, tallies}
use Rattle.lola_parser_grammar.proofs.Tests.{apart_excludes, clashes_true, listed_fits}
use Rattle.lola_parser_grammar.proofs.Complete.{spells_nil, begins, and_three, choice_parts, known_parts, any_split, follows, tail_stops, stops_within, repeats_begin}

pub lower_is : (k j : ℕ) → lower k j ≡ k - j
lower_is k zero = omega arith
lower_is zero (suc j) = omega arith
lower_is (suc k) (suc j) = lower_is k j ∙ omega arith

pub none_is : (k : ℕ) → none_left k ≡ true → k ≡ 0
none_is zero e = refl
none_is (suc k) e = absurd cc

module _ (nestings : List Terminal) where
  pub nestings-append : (u v : List Lexeme) → nestings_in nestings (u ++ v) ≡ nestings_in nestings u + nestings_in nestings v
  nestings-append [] v = omega arith
  nestings-append (t ∷ u) v = omega (arith, nestings-append u v)

  pub token_none : (k : Terminal) (t : Lexeme) → not (clashes k nestings) ≡ true → fits k t ≡ true → nestings_in nestings (t ∷ []) ≡ 0
  token_none k t h e =
      let c : is_nesting nestings t ≡ false = false_from_ne_true (is_nesting nestings t) (λ m. let d = clashes_true k nestings t e m in let f = not-true (clashes k nestings) h in absurd cc) in
      rw c refl

  pub nesting_one : (k : Terminal) (t : Lexeme) → listed k nestings ≡ true → fits k t ≡ true → nestings_in nestings (t ∷ []) ≡ 1
  nesting_one k t h e = rw (listed_fits k nestings t h e) refl

  pub spells_least : {A : Type 0} (s : Syntax A) → tallies nestings s ≡ true → (u : List Lexeme) (x : A) → Spells s u x → least s ≤ nestings_in nestings u
  unfolding Spells least tallies
  spells_least (Past a) tally u x h = omega arith
  spells_least (Token k) tally u x h = omega arith
  spells_least (Nesting k) tally u x h = omega (arith, ap (nestings_in nestings) h.0, nesting_one k x tally h.1)
  spells_least (Whole a) tally u x h = omega arith
  spells_least (Known fs ms a) tally u x h = omega arith
  spells_least (Then a b) tally u x h =
      let t = and_parts (tallies nestings a) (tallies nestings b) tally in
      omega (arith, ap (nestings_in nestings) h.2, nestings-append h.0 h.1, spells_least a t.0 h.0 x.0 h.3, spells_least b t.1 h.1 x.1 h.4)
  spells_least (Map f a) tally u x h = spells_least a tally u h.0 h.2
  spells_least (Either a b) tally u x (inl h) = omega (arith, spells_least a (and_parts (tallies nestings a) (tallies nestings b) tally).0 u x h)
  spells_least (Either a b) tally u x (inr h) = omega (arith, spells_least b (and_parts (tallies nestings a) (tallies nestings b) tally).1 u x h)
  spells_least (Maybe a) tally u x h = omega arith
  spells_least (Many a) tally u x h = omega arith
  spells_least (Fork ks a b c) tally u x h = absurd cc

  abbrev pub IsReadWithin : {A : Type 0} → Reader A → ℕ → (List Lexeme → A → Type 0) → List Terminal → Type 0
  IsReadWithin {A} r k P ks = (m : ℕ) (u : List Lexeme) (x : A) (rest : List Lexeme) → m < k → P u x → starts ks rest ≡ false → nestings_in nestings u ≤ m → r m (u ++ rest) ≡ Ok (x, m - nestings_in nestings u, rest)

  step : {A B : Type 0} (r : Outcome A) (f : A → Reader B) (x : A) (i : ℕ) (mid : List Lexeme) (o : Outcome B) → r ≡ Ok (x, i, mid) → f x i mid ≡ o → (r >>= f) ≡ o
  step r f x i mid o e g = rw e g

  record Part {A : Type 0} (r : Reader A) (k : ℕ) (P : List Lexeme → A → Type 0) (firsts mores : List Terminal) : Type 0 where
    whole : IsReadWithin r k P mores
    some : (x : A) → P [] x → ⊥
    opens : (t : Lexeme) (ts : List Lexeme) (x : A) → P (t ∷ ts) x → any_fits firsts t ≡ true
    clear : apart mores firsts ≡ true

  module _ {A : Type 0} (r : Reader A) (k : ℕ) (P : List Lexeme → A → Type 0) (firsts mores : List Terminal) (part : Part r k P firsts mores) where
    behind : (xs : List A) (rest w : List Lexeme) → starts (firsts ++ mores) rest ≡ false → Repeats P w xs → starts mores (w ++ rest) ≡ false
    behind xs rest [] stop gs = (any_split firsts mores rest stop).1
    behind xs rest (s ∷ w) stop gs = false_from_ne_true (any_fits mores s) (λ c. apart_excludes mores firsts s part.clear c (repeats_begin P firsts part.opens s w xs gs))

    abbrev add : A → List A → ℕ → List Lexeme → Outcome (List A)
    add x xs j end = Ok (x ∷ xs, j, end)

    one_more : (n m : ℕ) (u v : List Lexeme) (x : A) (xs : List A) (rest : List Lexeme) → m < k → nestings_in nestings u + nestings_in nestings v ≤ m → length (u ++ (v ++ rest)) ≤ suc n → P u x → Repeats P v xs → starts (firsts ++ mores) rest ≡ false
        → ((i : ℕ) → length (v ++ rest) ≤ n → i < k → nestings_in nestings v ≤ i → repeated r firsts n i (v ++ rest) ≡ Ok (xs, i - nestings_in nestings v, rest))
        → repeated r firsts (suc n) m (u ++ (v ++ rest)) ≡ Ok (x ∷ xs, m - (nestings_in nestings u + nestings_in nestings v), rest)
    one_more n m [] v x xs rest low few le h hs stop next = absurd (part.some x h)
    one_more n m (t ∷ u) v x xs rest low few le h hs stop next =
        let opens : starts firsts (t ∷ u ++ (v ++ rest)) ≡ true = part.opens t u x h in
        let shorter : length (v ++ rest) ≤ n = omega (arith, le, length-append u (v ++ rest)) in
        let i = m - nestings_in nestings (t ∷ u) in
        let one : r m ((t ∷ u) ++ (v ++ rest)) ≡ Ok (x, i, v ++ rest) = part.whole m (t ∷ u) x (v ++ rest) low h (behind xs rest v stop hs) (omega (arith, few)) in
        let two : repeated r firsts n i (v ++ rest) ≡ Ok (xs, i - nestings_in nestings v, rest) = next i shorter (omega (arith, low)) (omega (arith, few)) in
        let left : i - nestings_in nestings v ≡ m - (nestings_in nestings (t ∷ u) + nestings_in nestings v) = omega (arith, few) in
        rw opens (step (r m ((t ∷ u) ++ (v ++ rest))) (λ y j end. repeated r firsts n j end >>= add y) x i (v ++ rest) _ one
        (step (repeated r firsts n i (v ++ rest)) (add x) xs (i - nestings_in nestings v) rest _ two (ap (λ (j : ℕ). Ok (x ∷ xs, j, rest)) left)))

    repeated_within : (n m : ℕ) (u : List Lexeme) (xs : List A) (rest : List Lexeme) → m < k → nestings_in nestings u ≤ m → length (u ++ rest) ≤ n → Repeats P u xs → starts (firsts ++ mores) rest ≡ false
        → repeated r firsts n m (u ++ rest) ≡ Ok (xs, m - nestings_in nestings u, rest)
    repeated_within zero m u [] rest low few le h stop = let z : m ≡ m - nestings_in nestings u = omega (arith, ap (nestings_in nestings) h) in ap (λ (w : List Lexeme). Ok ([], m, w ++ rest)) h ∙ ap (λ (j : ℕ). Ok ([], j, rest)) z
    repeated_within (suc n) m u [] rest low few le h stop =
        let z : m ≡ m - nestings_in nestings u = omega (arith, ap (nestings_in nestings) h) in
        ap (λ (w : List Lexeme). repeated r firsts (suc n) m (w ++ rest)) h ∙ rw (any_split firsts mores rest stop).0 (ap (λ (j : ℕ). Ok ([], j, rest)) z)
    repeated_within zero m u (x ∷ xs) rest low few le h stop = absurd (none h.0 h.3 (omega (arith, le, ap length (h.2), length-append u rest, length-append h.0 h.1)))
      where
        none : (v : List Lexeme) → P v x → length v ≤ 0 → ⊥
        none [] g e = part.some x g
        none (t ∷ v) g e = omega (arith, e)
    repeated_within (suc n) m u (x ∷ xs) rest low few le h stop =
        let regrouped : u ++ rest ≡ h.0 ++ (h.1 ++ rest) = ap (λ (w : List Lexeme). w ++ rest) h.2 ∙ append_assoc h.0 h.1 rest in
        let count : nestings_in nestings u ≡ nestings_in nestings h.0 + nestings_in nestings h.1 = ap (nestings_in nestings) h.2 ∙ nestings-append h.0 h.1 in
        let fit : length (h.0 ++ (h.1 ++ rest)) ≤ suc n = rw (← regrouped) le in
        let next : (i : ℕ) → length (h.1 ++ rest) ≤ n → i < k → nestings_in nestings h.1 ≤ i → repeated r firsts n i (h.1 ++ rest) ≡ Ok (xs, i - nestings_in nestings h.1, rest) =
        λ i shorter below fewer. repeated_within n i h.1 xs rest below fewer shorter h.4 stop in
        rw (regrouped, count) (one_more n m h.0 h.1 x xs rest low (omega (arith, few, count)) fit h.3 h.4 stop next)

  nesting_read : (t : Lexeme) (m : ℕ) (rest : List Lexeme) → 1 ≤ m → counted t m rest ≡ Ok (t, m - 1, rest)
  nesting_read t zero rest h = absurd (omega (arith, h))
  nesting_read t (suc m) rest h = let z : m ≡ suc m - 1 = omega arith in ap (λ (j : ℕ). Ok (t, j, rest)) z

  pub complete_within : {A : Type 0} (s : Syntax A) → is_fine s ≡ true → tallies nestings s ≡ true → (k : ℕ) → guards k s ≡ true → IsReadWithin (read s) k (Spells s) (more s)
  unfolding read Spells more is_fine nullable first tallies guards
  complete_within (Past a) fine tally k guard m u x rest low h stop few = absurd (omega (arith, low, none_is k guard))
  complete_within (Token t) fine tally k guard m u x rest low h stop few =
      let z : m ≡ m - nestings_in nestings u = omega (arith, ap (nestings_in nestings) h.0, token_none t x tally h.1) in
      ap (λ (w : List Lexeme). take_token t m (w ++ rest)) h.0 ∙ rw h.1 (ap (λ (j : ℕ). Ok (x, j, rest)) z)
  complete_within (Nesting t) fine tally k guard m u x rest low h stop few =
      let one : nestings_in nestings u ≡ 1 = ap (nestings_in nestings) h.0 ∙ nesting_one t x tally h.1 in
      ap (λ (w : List Lexeme). take_nesting t m (w ++ rest)) h.0 ∙ rw (h.1, one) (nesting_read x m rest (omega (arith, one, few)))
  complete_within (Whole a) fine tally k guard m u x rest low h stop few = absurd cc
  complete_within (Known fs ms a) fine tally k guard m u x rest low h stop few =
      let f = known_parts (is_fine a) (nullable a) (within (first a) fs) (within (more a) ms) fine in
      complete_within a f.0 tally k guard m u x rest low h (stops_within (more a) ms rest f.3 stop) few
  complete_within (Then a b) fine tally k guard m u x rest low h stop few =
      let f = and_three (is_fine a) (is_fine b) (apart (more a) (first b)) fine in
      let t = and_parts (tallies nestings a) (tallies nestings b) tally in
      let g = and_parts (guards k a) (guards (lower k (least a)) b) guard in
      let s = tail_stops (nullable b) (more b) (more a) rest stop in
      let clear : starts (more a) (h.1 ++ rest) ≡ false = follows (more a) b f.1 h.1 x.1 rest f.2 h.4 s.1 in
      let count : nestings_in nestings u ≡ nestings_in nestings h.0 + nestings_in nestings h.1 = ap (nestings_in nestings) h.2 ∙ nestings-append h.0 h.1 in
      let low_a : least a ≤ nestings_in nestings h.0 = spells_least a t.0 h.0 x.0 h.3 in
      let i = m - nestings_in nestings h.0 in
      let one : read a m (h.0 ++ (h.1 ++ rest)) ≡ Ok (x.0, i, h.1 ++ rest) = complete_within a f.0 t.0 k g.0 m h.0 x.0 (h.1 ++ rest) low h.3 clear (omega (arith, few, count)) in
      let two : read b i (h.1 ++ rest) ≡ Ok (x.1, i - nestings_in nestings h.1, rest) = complete_within b f.1 t.1 (lower k (least a)) g.1 i h.1 x.1 rest (omega (arith, low, low_a, few, count, lower_is k (least a))) h.4 s.0 (omega (arith, few, count)) in
      let left : i - nestings_in nestings h.1 ≡ m - nestings_in nestings u = omega (arith, few, count) in
      let regrouped : u ++ rest ≡ h.0 ++ (h.1 ++ rest) = ap (λ (w : List Lexeme). w ++ rest) h.2 ∙ append_assoc h.0 h.1 rest in
      ap (λ (w : List Lexeme). read a m w >>= λ y j end. read b j end >>= λ z l last. Ok ((y, z), l, last)) regrouped
      ∙ step (read a m (h.0 ++ (h.1 ++ rest))) (λ y j end. read b j end >>= λ z l last. Ok ((y, z), l, last)) x.0 i (h.1 ++ rest) _ one
      (step (read b i (h.1 ++ rest)) (λ z l last. Ok ((x.0, z), l, last)) x.1 (i - nestings_in nestings h.1) rest _ two (ap (λ (j : ℕ). Ok (x, j, rest)) left))
  complete_within (Map f a) fine tally k guard m u y rest low h stop few =
      step (read a m (u ++ rest)) (λ x i end. Ok (f x, i, end)) h.0 (m - nestings_in nestings u) rest _ (complete_within a fine tally k guard m u h.0 rest low h.2 stop few) (rw (← h.1) refl)
  complete_within (Either a b) fine tally k guard m [] x rest low (inl h) stop few =
      let f = choice_parts (is_fine a) (is_fine b) (nullable a) (nullable b) (apart (first a) (first b)) fine in
      absurd (let e = spells_nil a f.0 x h in let d = f.2 in cc)
  complete_within (Either a b) fine tally k guard m [] x rest low (inr h) stop few =
      let f = choice_parts (is_fine a) (is_fine b) (nullable a) (nullable b) (apart (first a) (first b)) fine in
      absurd (let e = spells_nil b f.1 x h in let d = f.3 in cc)
  complete_within (Either a b) fine tally k guard m (t ∷ u) x rest low (inl h) stop few =
      let f = choice_parts (is_fine a) (is_fine b) (nullable a) (nullable b) (apart (first a) (first b)) fine in
      let w = and_parts (tallies nestings a) (tallies nestings b) tally in
      let g = and_parts (guards k a) (guards k b) guard in
      rw (begins a f.0 t u x h) (complete_within a f.0 w.0 k g.0 m (t ∷ u) x rest low h (any_split (more a) (more b) rest stop).0 few)
  complete_within (Either a b) fine tally k guard m (t ∷ u) x rest low (inr h) stop few =
      let f = choice_parts (is_fine a) (is_fine b) (nullable a) (nullable b) (apart (first a) (first b)) fine in
      let w = and_parts (tallies nestings a) (tallies nestings b) tally in
      let g = and_parts (guards k a) (guards k b) guard in
      let misses : any_fits (first a) t ≡ false = false_from_ne_true (any_fits (first a) t) (λ c. apart_excludes (first a) (first b) t f.4 c (begins b f.1 t u x h)) in
      rw misses (complete_within b f.1 w.1 k g.1 m (t ∷ u) x rest low h (any_split (more a) (more b) rest stop).1 few)
  complete_within (Maybe a) fine tally k guard m u None rest low h stop few =
      let z : m ≡ m - nestings_in nestings u = omega (arith, ap (nestings_in nestings) h) in
      ap (λ (w : List Lexeme). read (Maybe a) m (w ++ rest)) h ∙ rw (any_split (first a) (more a) rest stop).0 (ap (λ (j : ℕ). Ok (None, j, rest)) z)
  complete_within (Maybe a) fine tally k guard m [] (Some x) rest low h stop few =
      let f = and_parts (is_fine a) (not (nullable a)) fine in
      absurd (let e = spells_nil a f.0 x h in let d = not-true (nullable a) f.1 in cc)
  complete_within (Maybe a) fine tally k guard m (t ∷ u) (Some x) rest low h stop few =
      let f = and_parts (is_fine a) (not (nullable a)) fine in
      let one = complete_within a f.0 tally k guard m (t ∷ u) x rest low h (any_split (first a) (more a) rest stop).1 few in
      rw (begins a f.0 t u x h) (step (read a m ((t ∷ u) ++ rest)) (λ y i end. Ok (Some y, i, end)) x (m - nestings_in nestings (t ∷ u)) rest _ one refl)
  complete_within (Many a) fine tally k guard m u x rest low h stop few =
      let f = and_three (is_fine a) (not (nullable a)) (apart (more a) (first a)) fine in
      let part : Part (read a) k (Spells a) (first a) (more a) = record { whole = complete_within a f.0 tally k guard; some = λ y g. (let e = spells_nil a f.0 y g in let d = not-true (nullable a) f.1 in absurd cc); opens = begins a f.0; clear = f.2 } in
      repeated_within (read a) k (Spells a) (first a) (more a) part (length (u ++ rest)) m u x rest low few (omega arith) h stop
  complete_within (Fork ks a b c) fine tally k guard m u x rest low h stop few = absurd cc
