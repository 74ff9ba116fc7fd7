-- What is left of a table that was swept, and what a row adds to it.
use Rattle.std.proofs.Common.{◌≡◌, ℕ, zero, suc, ◌+◌, ◌*◌, ◌<◌, ◌≤◌, Bool, true, false, not, ◌&&◌, IsTrue, List, [], ◌∷◌, ◌++◌, Option, Some, None, filter, length, take, drop, get_or, nat_eq, nat_lt, refl, sym, ap, ◌∙◌, subst, append_assoc, append-nil, length-append, inl, inr, arith}
use Rattle.std.specs.List.{Contains}
use Rattle.std.proofs.lemmas.Bool.{cases_Bool, eq-eqb, eqb-true, ltb-false, or_left, or_right}
use Rattle.std.proofs.lemmas.List.{drop_more, take_more}
use Rattle.std.proofs.lemmas.List.Elements.{All-append, All-cons, All-nil, All-weaker, Contains-append_left, Contains-append_right, Contains-push}
use Rattle.std.proofs.lemmas.List.Filters.{length-filter_both}
use Rattle.std.proofs.lemmas.List.Folds.{list_any-append}
use Rattle.lola_value.specs.declared.text.Field.{Field}
use Rattle.lola_value.specs.declared.text.Field.TheVariants as field
use Rattle.lola_value.specs.declared.value.TextId.{TextId}
use Rattle.lola_value.specs.Naming.{Naming, text_at}
use Rattle.lola_model.specs.Reading.{IsHeldBy}
use Rattle.lola_model.proofs.Growing.{slice_get_some}
use Rattle.lola_step_contents.specs.Ready.{HasTexts}
use Rattle.lola_text.specs.Needed.{KeepsTexts}
use Rattle.lola_text.specs.Texts.{AreBetween, Gives, Interns, IsTable, Texts, is_among, number_in, swept}
use Rattle.lola_engine.specs.Sweeps.{AddsTexts, LetsGo, TakesTexts, count_left, has_too_many, literals_from, needed, texts_left}

-- a table has no more texts than numbers were given
pub count_between : (low high : ℕ) (names : Naming) → AreBetween low names high → low + length names ≤ high
count_between low high [] all = omega (arith, all)
count_between low high (e ∷ es) all = let more = count_between (e.0 + 1) high es all.1 in omega (arith, all.0, more)

-- a number that is listed in one of two lists

among_left : (xs ys : List TextId) (id : ℕ) → IsTrue (is_among xs id) → IsTrue (is_among (xs ++ ys) id)
among_left xs ys id is = list_any-append (λ (x : TextId). nat_eq x.0 id) xs ys ∙ or_left (is_among xs id) (is_among ys id) is

among_right : (xs ys : List TextId) (id : ℕ) → IsTrue (is_among ys id) → IsTrue (is_among (xs ++ ys) id)
among_right xs ys id is = list_any-append (λ (x : TextId). nat_eq x.0 id) xs ys ∙ or_right (is_among xs id) (is_among ys id) is

-- each literal's number is listed
literal_among : (n k : ℕ) (ts : List (List ℕ)) (i : ℕ) → n + i ≡ k → i < length ts → IsTrue (is_among (literals_from n ts) k)
literal_among n k [] i at within = absurd (omega arith)
literal_among n k (t ∷ ts) zero at within = or_left (nat_eq n k) (is_among (literals_from (n + 1) ts) k) (eq-eqb n k (omega arith))
literal_among n k (t ∷ ts) (suc i) at within =
    or_right (nat_eq n k) (is_among (literals_from (n + 1) ts) k) (literal_among (n + 1) k ts i (omega arith) (omega arith))

-- the numbers of the literals so far, and of those to come
pub next_literal : (ids ids' : List TextId) (ts : List (List ℕ)) (i : ℕ) → i < length ts → ids' ≡ ids ++ record { 0 = i } ∷ []
    → ids' ++ literals_from (i + 1) (drop (i + 1) ts) ≡ ids ++ literals_from i (drop i ts)
next_literal ids ids' ts i within pushed =
    let rest : List TextId = literals_from (i + 1) (drop (i + 1) ts) in
    let this : TextId = record { 0 = i } in
    ap (λ (l : List TextId). l ++ rest) pushed ∙ append_assoc ids (this ∷ []) rest ∙ ap (λ (us : List (List ℕ)). ids ++ literals_from i us) (sym (drop_more ts i [] within))

-- a text whose number is listed stays
stays_at : (kept : List TextId) (names : Naming) (id : ℕ) → IsTrue (is_among kept id) → text_at (filter (λ e. is_among kept e.0) names) id ≡ text_at names id
stays_at kept [] id listed = refl
stays_at kept (e ∷ es) id listed = elim (cases_Bool (nat_eq e.0 id)) [
  | inl hit ↦
      let kept_here : is_among kept e.0 ≡ true = ap (is_among kept) (eqb-true e.0 id hit) ∙ listed in
      rw (kept_here, hit) refl
  | inr miss ↦ elim (cases_Bool (is_among kept e.0)) [
    | inl here ↦ rw (here, miss) (stays_at kept es id listed)
    | inr gone ↦ rw (gone, miss) (stays_at kept es id listed)
  ]
]

-- texts are let go
module _ (bounded : Bool) (holds : List TextId) (literals : List (List ℕ)) (old : Texts) (left : ℕ) (new : Texts) (left' : ℕ) (g : LetsGo bounded holds literals old left new left') where
  abbrev kept : List TextId
  kept = needed holds literals

  held_by : (goes : Bool) → new ≡ texts_left goes kept old → (id : ℕ) → IsTrue (is_among kept id) → text_at new.held id ≡ text_at old.held id
  held_by true e id listed = ap (λ (t : Texts). text_at t.held id) e ∙ stays_at kept old.held id listed
  held_by false e id listed = ap (λ (t : Texts). text_at t.held id) e

  -- what is needed stays
  still_held : (id : ℕ) → IsTrue (is_among kept id) → text_at new.held id ≡ text_at old.held id
  still_held = held_by (has_too_many bounded (length old.held) left) g.texts

  pub keeps_held : KeepsTexts holds old.held new.held
  keeps_held id t listed is = still_held id (among_left holds (literals_from 0 literals) id listed) ∙ is

  pub keeps_literals : HasTexts old.held literals → HasTexts new.held literals
  keeps_literals has i within =
      still_held i (among_right holds (literals_from 0 literals) i (literal_among 0 i literals i (omega arith) within)) ∙ has i within

  -- numbers are given as before
  given_by : (goes : Bool) → new ≡ texts_left goes kept old → new.given ≡ old.given
  given_by true e = ap (λ (t : Texts). t.given) e
  given_by false e = ap (λ (t : Texts). t.given) e

  pub same_given : new.given ≡ old.given
  same_given = given_by (has_too_many bounded (length old.held) left) g.texts

  -- there is room for the texts of a row
  room_by : (goes : Bool) → bounded ≡ true → has_too_many bounded (length old.held) left ≡ goes → new ≡ texts_left goes kept old → left' ≡ count_left goes kept old left
      → length new.held + 64 ≤ 2 * left' + 1024
  room_by true is full texts count = let many : length new.held ≡ length (swept old kept).held = ap (λ (t : Texts). length t.held) texts in omega (arith, many, count)
  room_by false is full texts count =
      let many : length new.held ≡ length old.held = ap (λ (t : Texts). length t.held) texts in
      let test : nat_lt (2 * left + 1024) (length old.held + 64) ≡ false = ap (λ b. b && nat_lt (2 * left + 1024) (length old.held + 64)) (sym is) ∙ full in
      let low = ltb-false (2 * left + 1024) (length old.held + 64) test in
      omega (arith, many, count, low)

  pub room_left : IsTrue bounded → length new.held + 64 ≤ 2 * left' + 1024
  room_left is = room_by (has_too_many bounded (length old.held) left) is refl g.texts g.count

  -- and the count has a bound
  left_by : (goes : Bool) (most : ℕ) → IsTable old → left' ≡ count_left goes kept old left → left ≤ most → old.given ≤ most → left' ≤ most
  left_by true most table count low few =
      let all = count_between 0 old.given old.held table.numbers in
      let fewer = length-filter_both (λ (e : ℕ × List ℕ). is_among kept e.0) (λ e. not (is_among kept e.0)) (λ e. refl) old.held in
      omega (arith, count, all, fewer)
  left_by false most table count low few = omega (arith, count)

  pub few_left : (most : ℕ) → IsTable old → left ≤ most → old.given ≤ most → left' ≤ most
  few_left most table = left_by (has_too_many bounded (length old.held) left) most table g.count

-- literals stay in a table that is swept by the numbers that are needed
pub literals_stay : (holds : List TextId) (literals : List (List ℕ)) (old new : Texts) (ids : List TextId) → ids ≡ needed holds literals → new ≡ swept old ids → HasTexts old.held literals → HasTexts new.held literals
literals_stay holds literals old new ids listed is has i within =
    ap (λ (t : Texts). text_at t.held i) (is ∙ ap (swept old) listed)
    ∙ (stays_at (needed holds literals) old.held i (among_right holds (literals_from 0 literals) i (literal_among 0 i literals i (omega arith) within)) ∙ has i within)

-- a longer table has the texts of a plan too
pub has_more_texts : (names more : Naming) (texts : List (List ℕ)) → IsHeldBy names more → HasTexts names texts → HasTexts more texts
has_more_texts names more texts held h i lt =
    let w = slice_get_some texts i lt in
    held i w.0 (h i lt ∙ w.1) ∙ sym w.1

-- no text more
pub adds_none : (fields : List Field) (names : Naming) → AddsTexts fields names names
adds_none fields names = record { more = []; joined = sym (append-nil names); few = omega arith; of_fields = All-nil (λ (e : ℕ × List ℕ). Contains fields (field.Text e.1)) }

-- a text that was asked for
adds_by : (o : Option ℕ) (text : List ℕ) (id : ℕ) (old new : Texts) → Gives o text id old new → AddsTexts (field.Text text ∷ []) old.held new.held
adds_by (Some number) text id old new gives =
    let none = adds_none (field.Text text ∷ []) old.held in
    record { more = none.more; joined = ap (λ (t : Texts). t.held) gives.1 ∙ none.joined; few = none.few; of_fields = none.of_fields }
adds_by None text id old new gives = record {
  more = (old.given, text) ∷ [];
  joined = ap (λ (t : Texts). t.held) gives.1;
  few = omega arith;
  of_fields = All-cons (λ (e : ℕ × List ℕ). Contains (field.Text text ∷ []) (field.Text e.1)) (old.given, text) [] (Contains-push [] (field.Text text)) (All-nil (λ (e : ℕ × List ℕ). Contains (field.Text text ∷ []) (field.Text e.1)));
}

pub adds_one : (f : Field) (t bytes : List ℕ) (id : ℕ) (old new : Texts) → f ≡ field.Text t → bytes ≡ t → Interns bytes id old new → AddsTexts (f ∷ []) old.held new.held
adds_one f t bytes id old new is same gives =
    let this : field.Text bytes ≡ f = ap (λ (b : List ℕ). field.Text b) same ∙ sym is in
    subst (λ (g : Field). AddsTexts (g ∷ []) old.held new.held) this (adds_by (number_in old.held bytes) bytes id old new gives)

-- texts of fields, and then of more fields
pub adds_then : (fs gs : List Field) (a b c : Naming) → AddsTexts fs a b → AddsTexts gs b c → AddsTexts (fs ++ gs) a c
adds_then fs gs a b c first second = record {
  more = first.more ++ second.more;
  joined = second.joined ∙ ap (λ (l : Naming). l ++ second.more) first.joined ∙ append_assoc a first.more second.more;
  few = omega (arith, length-append first.more second.more, length-append fs gs, first.few, second.few);
  of_fields = All-append (λ (e : ℕ × List ℕ). Contains (fs ++ gs) (field.Text e.1)) first.more second.more
      (All-weaker (λ (e : ℕ × List ℕ). Contains fs (field.Text e.1)) (λ e. Contains (fs ++ gs) (field.Text e.1)) (λ e. Contains-append_left fs gs (field.Text e.1)) first.more first.of_fields)
      (All-weaker (λ (e : ℕ × List ℕ). Contains gs (field.Text e.1)) (λ e. Contains (fs ++ gs) (field.Text e.1)) (λ e. Contains-append_right fs gs (field.Text e.1)) second.more second.of_fields);
}

-- the texts of the fields up to one, and its own
pub one_adds : (fs : List Field) (i : ℕ) (f : Field) (a b c : Naming) → i < length fs → f ≡ get_or fs i f → AddsTexts (take i fs) a b → AddsTexts (f ∷ []) b c → AddsTexts (take (i + 1) fs) a c
one_adds fs i f a b c within is first second =
    let front : take i fs ++ f ∷ [] ≡ take (i + 1) fs = ap (λ g. take i fs ++ g ∷ []) is ∙ sym (take_more fs i f within) in
    subst (λ (gs : List Field). AddsTexts gs a c) front (adds_then (take i fs) (f ∷ []) a b c first second)

-- a row of at most 64 fields stays within the bound
pub few_held : (bounded : Bool) (holds : List TextId) (literals : List (List ℕ)) (fields : List Field) (old : Texts) (left : ℕ) (new : Texts) (left' : ℕ)
    → TakesTexts bounded holds literals fields old left new left' → length fields ≤ 64 → IsTrue bounded → length new.held ≤ 2 * left' + 1024
few_held bounded holds literals fields old left new left' h few is =
    let room = room_left bounded holds literals old left h.between left' h.goes is in
    let long : length new.held ≡ length h.between.held + length h.adds.more = ap length h.adds.joined ∙ length-append h.between.held h.adds.more in
    omega (arith, room, long, h.adds.few)

-- and steps change nothing of it
pub takes_on : (bounded : Bool) (holds : List TextId) (literals : List (List ℕ)) (fields : List Field) (old : Texts) (left : ℕ) (new : Texts) (left' : ℕ) (later : Texts) (left'' : ℕ)
    → later ≡ new → left'' ≡ left' → TakesTexts bounded holds literals fields old left new left' → TakesTexts bounded holds literals fields old left later left''
takes_on bounded holds literals fields old left new left' later left'' texts count h =
    subst (λ (t : Texts). TakesTexts bounded holds literals fields old left t left'') (sym texts)
    (subst (λ (n : ℕ). TakesTexts bounded holds literals fields old left new n) (sym count) h)
