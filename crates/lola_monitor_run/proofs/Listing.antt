-- Rows that come in rounds, by source.
use Rattle.std.proofs.Common.{◌≡◌, ℕ, zero, suc, ◌<◌, ◌≤◌, ◌⊎◌, List, [], ◌∷◌, ◌++◌, Option, Some, map, length, refl, sym, ap, ◌∙◌, subst, inl, inr, arith, append_assoc, length-append}
use Rattle.std.proofs.lemmas.List.{append-nil}
use Rattle.std.proofs.lemmas.Option.{slice_get_past}
use Rattle.std.specs.Prelude.{slice_get}
use Rattle.std.specs.Option.{option_to_list}
use Rattle.std.specs.Prelude.{unwrap_or}
use mathlib.Core.Logic.{dite}
use native.Mathlib.Decide.{ℕ_discrete}
use Rattle.std.proofs.Math.Decide.{dec_lt}
use Rattle.lola_model.specs.declared.journal.Row.{Row}
use Rattle.lola_model.specs.declared.journal.Entry.{Entry}
use Rattle.lola_model.proofs.Growing.{slice_get-append, slice_get_last}
use Rattle.lola_monitor_run.specs.Rounds.{AreFirst, InTurn, in_rounds, round_of, rounds, row_at, turns}

-- two lists that are joined, each by an equation
joined_both : (a b c d : List Row) → a ≡ b → c ≡ d → a ++ c ≡ b ++ d
joined_both a b c d first second = ap (λ l. l ++ c) first ∙ ap (λ l. b ++ l) second

-- the same rows stand at these places
agree_turns : (f g : ℕ → List Row) (n k : ℕ) → ((s : ℕ) → s < k → row_at n (f s) ≡ row_at n (g s)) → turns f n k ≡ turns g n k
agree_turns f g n zero same = refl
agree_turns f g n (suc k) same = joined_both _ _ _ _ (agree_turns f g n k (λ s less. same s (omega arith))) (same k (omega arith))

agree_rounds : (f g : ℕ → List Row) (m n : ℕ) → ((i s : ℕ) → i < n → s < m → row_at i (f s) ≡ row_at i (g s)) → rounds f m n ≡ rounds g m n
agree_rounds f g m zero same = refl
agree_rounds f g m (suc n) same =
    joined_both _ _ _ _ (agree_rounds f g m n (λ i s below less. same i s (omega arith) less)) (agree_turns f g n m (λ s less. same n s (omega arith) less))

-- a row of the front of a list
row_of_front : (i : ℕ) (xs ys : List Row) → i < length xs → row_at i (xs ++ ys) ≡ row_at i xs
row_of_front i xs ys below = ap option_to_list (slice_get-append xs ys i below)

row_behind : (i : ℕ) (xs : List Row) (row : Row) → i ≡ length xs → row_at i (xs ++ row ∷ []) ≡ row ∷ []
row_behind i xs row is = ap option_to_list (slice_get_last xs row i is)

no_row_at : (i : ℕ) (xs : List Row) → length xs ≤ i → row_at i xs ≡ []
no_row_at i xs past = ap option_to_list (slice_get_past xs i past)

-- before the first turn
pub starts : (m : ℕ) (goes : ℕ → Type 0) (f : ℕ → List Row) → ((s : ℕ) → f s ≡ []) → InTurn m 0 0 goes f []
starts m goes f none = record {
  joined = refl;
  before = λ s less of_them on. absurd (omega arith);
  behind = λ s from less on. ap length (none s);
  most_before = λ s less of_them. absurd (omega arith);
  most_behind = λ s from less. let e = ap length (none s) in omega arith;
}

module _ (m n k : ℕ) (goes goes' : ℕ → Type 0) (f : ℕ → List Row) (rows : List Row) (i : InTurn m n k goes f rows) (there : k < m) (still : (s : ℕ) → goes' s → goes s) where
  -- the source whose turn it is gave a row
  module _ (g : ℕ → List Row) (row : Row) (on : goes k) (own : g k ≡ f k ++ row ∷ []) (others : (s : ℕ) → (s ≡ k → ⊥) → g s ≡ f s) where
    gave : length (f k) ≡ n
    gave = i.behind k (omega arith) there on

    longer : length (g k) ≡ suc n
    longer = ap length own ∙ (length-append (f k) (row ∷ []) ∙ (let e = gave in omega arith))

    earlier : (j s : ℕ) → j < n → row_at j (f s) ≡ row_at j (g s)
    earlier j s below = dite (ℕ_discrete s k)
        (λ same. sym (ap (λ t. row_at j (g t)) same ∙ (ap (row_at j) own ∙ (row_of_front j (f k) (row ∷ []) (let e = gave in omega arith) ∙ ap (λ t. row_at j (f t)) (sym same)))))
        (λ apart. ap (row_at j) (sym (others s apart)))

    joins : rows ++ row ∷ [] ≡ rounds g m n ++ turns g n (suc k)
    joins =
        ap (λ l. l ++ row ∷ []) i.joined
        ∙ (append_assoc (rounds f m n) (turns f n k) (row ∷ [])
        ∙ joined_both _ _ _ _ (agree_rounds f g m n (λ j s below less. earlier j s below))
        (joined_both _ _ _ _ (agree_turns f g n k (λ s less. ap (row_at n) (sym (others s (λ e. omega arith)))))
        (sym (ap (row_at n) own ∙ row_behind n (f k) row (sym gave)))))

    pub moves : InTurn m n (suc k) goes' g (rows ++ row ∷ [])
    moves = record {
      joined = joins;
      before = λ s less of_them on'. dite (ℕ_discrete s k) (λ same. ap (λ t. length (g t)) same ∙ longer)
          (λ apart. ap length (others s apart) ∙ i.before s (omega arith) of_them (still s on'));
      behind = λ s from less on'. ap length (others s (λ e. omega arith)) ∙ i.behind s (omega arith) less (still s on');
      most_before = λ s less of_them. dite (ℕ_discrete s k) (λ same. let e = ap (λ t. length (g t)) same ∙ longer in omega arith)
          (λ apart. let e = ap length (others s apart) in let l = i.most_before s (omega arith) of_them in omega arith);
      most_behind = λ s from less. let e = ap length (others s (λ e. omega arith)) in let l = i.most_behind s (omega arith) less in omega arith;
    }

  -- it gave none, and has ended
  pub sits_out : (goes' k → ⊥) → InTurn m n (suc k) goes' f rows
  sits_out over = record {
    joined = i.joined ∙ ap (λ l. rounds f m n ++ l) (sym (ap (λ l. turns f n k ++ l) (no_row_at n (f k) (i.most_behind k (omega arith) there)) ∙ append-nil (turns f n k)));
    before = λ s less of_them on'. dite (ℕ_discrete s k) (λ same. absurd (over (subst goes' same on')))
        (λ apart. i.before s (omega arith) of_them (still s on'));
    behind = λ s from less on'. i.behind s (omega arith) less (still s on');
    most_before = λ s less of_them. dite (ℕ_discrete s k) (λ same. let l = i.most_behind s (omega arith) of_them in omega arith)
        (λ apart. i.most_before s (omega arith) of_them);
    most_behind = λ s from less. i.most_behind s (omega arith) less;
  }

-- a round is over, and the next begins
pub next_round : (m n : ℕ) (goes : ℕ → Type 0) (f : ℕ → List Row) (rows : List Row) → InTurn m n m goes f rows → InTurn m (suc n) 0 goes f rows
next_round m n goes f rows i = record {
  joined = i.joined ∙ sym (append-nil (rounds f m n ++ turns f n m));
  before = λ s less of_them on. absurd (omega arith);
  behind = λ s from less on. i.before s less less on;
  most_before = λ s less of_them. absurd (omega arith);
  most_behind = λ s from less. i.most_before s less less;
}

-- the lists of so many sources
abbrev pub table : (ℕ → List Row) → ℕ → List (List Row)
table f zero = []
table f (suc m) = table f m ++ f m ∷ []

pub table_many : (f : ℕ → List Row) (m : ℕ) → length (table f m) ≡ m
table_many f zero = refl
table_many f (suc m) = length-append (table f m) (f m ∷ []) ∙ (let e = table_many f m in omega arith)

-- a list of the table is that of its source
pub table_get : (f : ℕ → List Row) (m s : ℕ) (rows : List Row) → s < m → slice_get (table f m) s ≡ Some rows → rows ≡ f s
table_get f zero s rows below is = absurd (omega arith)
table_get f (suc m) s rows below is = dite (ℕ_discrete s m)
    (λ same. some_is (sym is ∙ slice_get_last (table f m) (f m) s (same ∙ sym (table_many f m))) ∙ ap f (sym same))
    (λ apart. table_get f m s rows (omega arith) (sym (slice_get-append (table f m) (f m ∷ []) s (let e = table_many f m in omega arith)) ∙ is))
  where
    some_is : {x y : List Row} → Some x ≡ Some y → x ≡ y
    some_is e = ap (λ (o : Option (List Row)). unwrap_or o []) e

round_joined : (n : ℕ) (xs ys : List (List Row)) → round_of n (xs ++ ys) ≡ round_of n xs ++ round_of n ys
round_joined n [] ys = refl
round_joined n (x ∷ xs) ys = ap (λ l. row_at n x ++ l) (round_joined n xs ys) ∙ sym (append_assoc (row_at n x) (round_of n xs) (round_of n ys))

round_is : (f : ℕ → List Row) (n m : ℕ) → round_of n (table f m) ≡ turns f n m
round_is f n zero = refl
round_is f n (suc m) = round_joined n (table f m) (f m ∷ []) ∙ joined_both _ _ _ _ (round_is f n m) (append-nil (row_at n (f m)))

rounds_are : (f : ℕ → List Row) (m n : ℕ) → in_rounds n (table f m) ≡ rounds f m n
rounds_are f m zero = refl
rounds_are f m (suc n) = joined_both _ _ _ _ (rounds_are f m n) (round_is f n m)

-- the turns of the first sources stand in front
turns_front : (f : ℕ → List Row) (n k m : ℕ) → k ≤ m → (rest : List Row) × (turns f n m ≡ turns f n k ++ rest)
turns_front f n k zero within = ([], ap (turns f n) (let e : 0 ≡ k = omega arith in e) ∙ sym (append-nil (turns f n k)))
turns_front f n k (suc m) within = dite (ℕ_discrete k (suc m))
    (λ same. ([], ap (turns f n) (sym same) ∙ sym (append-nil (turns f n k))))
    (λ apart. let front = turns_front f n k m (omega arith) in (front.0 ++ row_at n (f m), ap (λ l. l ++ row_at n (f m)) front.1 ∙ append_assoc (turns f n k) front.0 (row_at n (f m))))

-- a list is that which a source gave, or it goes on
abbrev pub Prolongs : Type 0 → List Row → List Row → Type 0
Prolongs goes given list = (list ≡ given) ⊎ (goes × ((more : List Row) × (list ≡ given ++ more)))

prolonged : (goes : Type 0) (given list : List Row) (j : ℕ) → Prolongs goes given list → (goes → j < length given) → row_at j list ≡ row_at j given
prolonged goes given list j (inl same) below = ap (row_at j) same
prolonged goes given list j (inr on) below = ap (row_at j) on.1.1 ∙ row_of_front j given on.1.0 (below on.0)

-- rows that came in rounds are the first of such lists
pub are_first : (m n k : ℕ) (goes : ℕ → Type 0) (f list : ℕ → List Row) (journal : List Entry) → InTurn m n k goes f (map (λ e. e.row) journal) → k ≤ m
    → ((s : ℕ) → s < m → Prolongs (goes s) (f s) (list s)) → AreFirst (table list m) journal
are_first m n k goes f list journal i within longer =
    let front = turns_front list n k m within in
    record {
      rounds = suc n;
      rest = front.0;
      joined = rounds_are list m (suc n)
          ∙ (ap (λ l. rounds list m n ++ l) front.1
          ∙ (sym (append_assoc (rounds list m n) (turns list n k) front.0)
          ∙ ap (λ l. l ++ front.0) (joined_both _ _ _ _
          (agree_rounds list f m n (λ j s below less. prolonged (goes s) (f s) (list s) j (longer s less) (λ on. gave_before j s below less on)))
          (agree_turns list f n k (λ s less. prolonged (goes s) (f s) (list s) n (longer s (omega arith)) (λ on. let e = i.before s less (omega arith) on in omega arith)))
          ∙ sym i.joined)));
    }
  where
    gave_before : (j s : ℕ) → j < n → s < m → goes s → j < length (f s)
    gave_before j s below less on = dite (dec_lt s k)
        (λ early. let e = i.before s early less on in omega arith)
        (λ late. let e = i.behind s (omega arith) less on in omega arith)
