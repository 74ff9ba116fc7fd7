-- A journal of the first rows of two sources, in rounds, goes on to all rows of both.
use Rattle.std.proofs.Common.{◌≡◌, ℕ, zero, suc, ◌<◌, ◌≤◌, ◌+◌, List, [], ◌∷◌, ◌++◌, Option, Bool, true, false, cond, nat_eq, map, length, refl, sym, ap, ◌∙◌, subst, arith, append_assoc}
use Rattle.std.proofs.lemmas.List.{append-nil}
use Rattle.std.proofs.lemmas.Bool.{eq-eqb, ne_eqb}
use Rattle.std.proofs.lemmas.List.Elements.{All-from_recursion}
use Rattle.std.specs.List.{AllByRecursion}
use mathlib.Core.Logic.{dite}
use native.Mathlib.Decide.{ℕ_discrete}
use Rattle.lola_model.specs.Journal.{IsLegal, merged_from, opening_time, rows_of}
use Rattle.lola_model.specs.declared.journal.Row.{Row}
use Rattle.lola_model.specs.declared.journal.Entry.{Entry}
use Rattle.lola_model.proofs.Journals.{IsLegalFrom-append}
use Rattle.lola_monitor_run.specs.Verdicts.{AreOfSources}
use Rattle.lola_monitor_run.specs.Rounds.{AreFirst, in_rounds, round_of, row_at}
use Rattle.lola_monitor.proofs.Marking.{all_marked}
use Rattle.lola_monitor.proofs.SourceNumbers.{AreOf}

-- the rows of a source, among rows
abbrev own : ℕ → List Row → List Row
own source [] = []
own source (r ∷ rows) = cond (nat_eq r.source source) (r ∷ own source rows) (own source rows)

own_rows : (source : ℕ) (journal : List Entry) → rows_of source journal ≡ own source (map (λ e. e.row) journal)
own_rows source [] = refl
own_rows source (e ∷ es) = ap (λ rows. cond (nat_eq e.row.source source) (e.row ∷ rows) rows) (own_rows source es)

own_step : (b : Bool) (r : Row) (xs ys : List Row) → cond b (r ∷ (xs ++ ys)) (xs ++ ys) ≡ cond b (r ∷ xs) xs ++ ys
own_step true r xs ys = refl
own_step false r xs ys = refl

own_joined : (source : ℕ) (xs ys : List Row) → own source (xs ++ ys) ≡ own source xs ++ own source ys
own_joined source [] ys = refl
own_joined source (r ∷ xs) ys =
    ap (λ rows. cond (nat_eq r.source source) (r ∷ rows) rows) (own_joined source xs ys) ∙ own_step (nat_eq r.source source) r (own source xs) (own source ys)

-- of its own rows all, and none of another's
own_all : (source : ℕ) (rows : List Row) → AreOf source rows → own source rows ≡ rows
own_all source [] are = refl
own_all source (r ∷ rows) are =
    ap (λ b. cond b (r ∷ own source rows) (own source rows)) (eq-eqb r.source source are.0) ∙ ap (λ rs. r ∷ rs) (own_all source rows are.1)

own_none : (source other : ℕ) (rows : List Row) → (other ≡ source → ⊥) → AreOf other rows → own source rows ≡ []
own_none source other [] apart are = refl
own_none source other (r ∷ rows) apart are =
    ap (λ b. cond b (r ∷ own source rows) (own source rows)) (ne_eqb r.source source (λ e. apart (sym are.0 ∙ e))) ∙ own_none source other rows apart are.1

-- the row at a place is one of the list
at_of : (P : Row → Type 0) (n : ℕ) (rows : List Row) → AllByRecursion P rows → AllByRecursion P (row_at n rows)
at_of P n [] all = tt
at_of P zero (r ∷ rows) all = (all.0, tt)
at_of P (suc n) (r ∷ rows) all = at_of P n rows all.1

all_joined : (P : Row → Type 0) (xs ys : List Row) → AllByRecursion P xs → AllByRecursion P ys → AllByRecursion P (xs ++ ys)
all_joined P [] ys first second = second
all_joined P (x ∷ xs) ys first second = (first.0, all_joined P xs ys first.1 second)

all_weaker : (P Q : Row → Type 0) → ((r : Row) → P r → Q r) → (rows : List Row) → AllByRecursion P rows → AllByRecursion Q rows
all_weaker P Q so [] all = tt
all_weaker P Q so (r ∷ rows) all = (so r all.0, all_weaker P Q so rows all.1)

-- the rows at the first places of a list, and all of them
abbrev front : ℕ → List Row → List Row
front zero rows = []
front (suc n) rows = front n rows ++ row_at n rows

front_none : (n : ℕ) → front n [] ≡ []
front_none zero = refl
front_none (suc n) = ap (λ rows. rows ++ []) (front_none n)

front_more : (n : ℕ) (r : Row) (rows : List Row) → front (suc n) (r ∷ rows) ≡ r ∷ front n rows
front_more zero r rows = refl
front_more (suc n) r rows = ap (λ rs. rs ++ row_at n rows) (front_more n r rows)

front_all : (n : ℕ) (rows : List Row) → length rows ≤ n → front n rows ≡ rows
front_all n [] long = front_none n
front_all zero (r ∷ rows) long = absurd (omega arith)
front_all (suc n) (r ∷ rows) long = front_more n r rows ∙ ap (λ rs. r ∷ rs) (front_all n rows (omega arith))

-- more rounds begin with fewer
more_rounds : (lists : List (List Row)) (few many : ℕ) → few ≤ many → (later : List Row) × (in_rounds many lists ≡ in_rounds few lists ++ later)
more_rounds lists few zero within = ([], ap (λ n. in_rounds n lists) (let e : 0 ≡ few = omega arith in e) ∙ sym (append-nil (in_rounds few lists)))
more_rounds lists few (suc many) within = dite (ℕ_discrete few (suc many))
    (λ same. ([], ap (λ n. in_rounds n lists) (sym same) ∙ sym (append-nil (in_rounds few lists))))
    (λ apart.
    let first = more_rounds lists few many (omega arith) in
    (first.0 ++ round_of many lists, ap (λ rows. rows ++ round_of many lists) first.1 ∙ append_assoc (in_rounds few lists) first.0 (round_of many lists)))

entries_of : (P : Row → Type 0) (es : List Entry) → AllByRecursion P (map (λ e. e.row) es) → AllByRecursion (λ (e : Entry). P e.row) es
entries_of P [] all = tt
entries_of P (e ∷ es) all = (all.0, entries_of P es all.1)

rows_joined : (xs ys : List Entry) → map (λ e. e.row) (xs ++ ys) ≡ map (λ e. e.row) xs ++ map (λ e. e.row) ys
rows_joined [] ys = refl
rows_joined (x ∷ xs) ys = ap (λ rows. x.row ∷ rows) (rows_joined xs ys)

-- what follows a journal, so that it has all rows of both
pub record GoesOn (start : Option ℕ) (zeroth first : List Row) (journal : List Entry) : Type 0 where
  pub more : List Entry
  pub legal : IsLegal start (journal ++ more)
  pub sources : AreOfSources 2 (journal ++ more)
  pub turns : AreFirst (zeroth ∷ first ∷ []) (journal ++ more)
  pub zeroth_rows : rows_of 0 (journal ++ more) ≡ zeroth
  pub first_rows : rows_of 1 (journal ++ more) ≡ first

module _ (a b : List Row) (are_a : AreOf 0 a) (are_b : AreOf 1 b) where
  abbrev both : List (List Row)
  both = a ∷ b ∷ []

  below : (n : ℕ) → AllByRecursion (λ (r : Row). r.source < 2) (in_rounds n both)
  below zero = tt
  below (suc n) =
      let P : Row → Type 0 = λ r. r.source < 2 in
      all_joined P (in_rounds n both) (round_of n both) (below n)
      (all_joined P (row_at n a) (row_at n b ++ []) (at_of P n a (all_weaker (λ r. r.source ≡ 0) P (λ r is. omega arith) a are_a))
      (all_joined P (row_at n b) [] (at_of P n b (all_weaker (λ r. r.source ≡ 1) P (λ r is. omega arith) b are_b)) tt))

  own_round : (source n : ℕ) → own source (round_of n both) ≡ own source (row_at n a) ++ (own source (row_at n b) ++ [])
  own_round source n = own_joined source (row_at n a) (row_at n b ++ []) ∙ ap (λ rows. own source (row_at n a) ++ rows) (own_joined source (row_at n b) [])

  own_zeroth : (n : ℕ) → own 0 (in_rounds n both) ≡ front n a
  own_zeroth zero = refl
  own_zeroth (suc n) =
      own_joined 0 (in_rounds n both) (round_of n both)
      ∙ (ap (λ rows. rows ++ own 0 (round_of n both)) (own_zeroth n)
      ∙ ap (λ rows. front n a ++ rows) (own_round 0 n
      ∙ (ap (λ rows. rows ++ (own 0 (row_at n b) ++ [])) (own_all 0 (row_at n a) (at_of (λ r. r.source ≡ 0) n a are_a))
      ∙ (ap (λ rows. row_at n a ++ (rows ++ [])) (own_none 0 1 (row_at n b) (λ e. absurd (omega arith)) (at_of (λ r. r.source ≡ 1) n b are_b))
      ∙ append-nil (row_at n a)))))

  own_first : (n : ℕ) → own 1 (in_rounds n both) ≡ front n b
  own_first zero = refl
  own_first (suc n) =
      own_joined 1 (in_rounds n both) (round_of n both)
      ∙ (ap (λ rows. rows ++ own 1 (round_of n both)) (own_first n)
      ∙ ap (λ rows. front n b ++ rows) (own_round 1 n
      ∙ (ap (λ rows. rows ++ (own 1 (row_at n b) ++ [])) (own_none 1 0 (row_at n a) (λ e. absurd (omega arith)) (at_of (λ r. r.source ≡ 0) n a are_a))
      ∙ (ap (λ rows. rows ++ []) (own_all 1 (row_at n b) (at_of (λ r. r.source ≡ 1) n b are_b))
      ∙ append-nil (row_at n b)))))

  pub goes_on : (start : Option ℕ) (journal : List Entry) → IsLegal start journal → AreFirst both journal → GoesOn start a b journal
  goes_on start journal legal turns =
      let last : ℕ = turns.rounds + (length a + length b) in
      let later = more_rounds both turns.rounds last (omega arith) in
      let next = all_marked (merged_from (opening_time start) journal) (turns.rest ++ later.0) in
      let whole : in_rounds last both ≡ map (λ e. e.row) (journal ++ next.entries) =
      later.1 ∙ (ap (λ rows. rows ++ later.0) turns.joined
      ∙ (append_assoc (map (λ e. e.row) journal) turns.rest later.0
      ∙ (ap (λ rows. map (λ e. e.row) journal ++ rows) (sym next.rows_are)
      ∙ sym (rows_joined journal next.entries)))) in
      record {
        more = next.entries;
        legal = IsLegalFrom-append (opening_time start) journal next.entries legal next.legal;
        sources = All-from_recursion (λ (e : Entry). e.row.source < 2) (journal ++ next.entries)
            (entries_of (λ r. r.source < 2) (journal ++ next.entries) (subst (AllByRecursion (λ (r : Row). r.source < 2)) whole (below last)));
        turns = record { rounds = last; rest = []; joined = whole ∙ sym (append-nil (map (λ e. e.row) (journal ++ next.entries))) };
        zeroth_rows = own_rows 0 (journal ++ next.entries) ∙ (ap (own 0) (sym whole) ∙ (own_zeroth last ∙ front_all last a (omega arith)));
        first_rows = own_rows 1 (journal ++ next.entries) ∙ (ap (own 1) (sym whole) ∙ (own_first last ∙ front_all last b (omega arith)));
      }
