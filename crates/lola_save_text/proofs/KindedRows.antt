-- The values and parameters in the rows of a table are of their streams' kinds.
use Rattle.std.proofs.Common.{◌≡◌, ℕ, zero, suc, ◌+◌, ◌≤◌, List, [], ◌∷◌, ◌++◌, length, drop, map, refl, sym, subst, ap, arith, Bool, true, false, Option, Some, None, if◌then◌else◌, slice_get}
use Rattle.std.specs.List.{cons_option}
use Rattle.std.proofs.lemmas.List.{length-drop}
use Rattle.lola_value.specs.declared.value.Kind.{Kind}
use Rattle.lola_value.specs.declared.text.Field.{Field}
use Rattle.lola_value.specs.Answer.{Answer, Given, Missing, Faulted, Poisoned}
use Rattle.lola_model.specs.Content.{StreamContent, seen, outcome_among, outcome_in, timed, value_in, values_over, life_of, streams_from, content, is_bad}
use Rattle.lola_model.specs.Model.{filled_kind, survivors, survivors_in, surviving, is_closed, last_row, the_instance}
use Rattle.lola_model.specs.Store.{kind_in, layouts_from}
use Rattle.lola_model.specs.Table.{Instance, is_instance, Living, StreamRow, TableRow}
use Rattle.lola_model.specs.declared.pacing.ClausePacings.{ClausePacings}
use Rattle.lola_model.specs.declared.spec.Clause.{Clause}
use Rattle.lola_model.specs.declared.spec.Stream.{Stream}
use Rattle.lola_save_text.specs.Fitting.{are_values}
use Rattle.lola_save_text.proofs.Seen.{is_answer, AreOfKind, AreLivesOf, IsContentOf}
use Rattle.lola_save_text.proofs.ClauseKinds.{IsNaming}

-- instances with their outcomes: parameters are of their kinds, and values of the stream's
abbrev pub AreLivingOf : Stream → List Living → Type 0
AreLivingOf s [] = Unit {0}
AreLivingOf s (l ∷ ls) = (are_values s.parameters l.instance.params ≡ true) × (is_answer (filled_kind s) l.outcome ≡ true) × AreLivingOf s ls

-- instances: their parameters are of their kinds
abbrev pub AreInstancesOf : Stream → List Instance → Type 0
AreInstancesOf s [] = Unit {0}
AreInstancesOf s (i ∷ is) = (are_values s.parameters i.params ≡ true) × AreInstancesOf s is

-- a stream in a row
pub record IsRowOf (s : Stream) (r : StreamRow) : Type 0 where
  pub spawned : IsNaming s.parameters r.spawned
  pub living : AreLivingOf s r.living

-- all streams in a row
abbrev pub AreRowsOf : List Stream → List StreamRow → Type 0
AreRowsOf [] [] = Unit {0}
AreRowsOf [] (r ∷ rs) = ⊥
AreRowsOf (s ∷ ss) [] = ⊥
AreRowsOf (s ∷ ss) (r ∷ rs) = IsRowOf s r × AreRowsOf ss rs

-- all rows of a table
abbrev pub IsTableOf : List Stream → List TableRow → Type 0
IsTableOf ss [] = Unit {0}
IsTableOf ss (row ∷ rows) = AreRowsOf ss row.streams × IsTableOf ss rows

pub table-more : (ss : List Stream) (rows : List TableRow) (row : TableRow) → IsTableOf ss rows → AreRowsOf ss row.streams → IsTableOf ss (rows ++ row ∷ [])
table-more ss [] row h g = (g, tt)
table-more ss (r ∷ rows) row h g = (h.0, table-more ss rows row h.1 g)

table-drop : (ss : List Stream) (n : ℕ) (rows : List TableRow) → IsTableOf ss rows → IsTableOf ss (drop n rows)
table-drop ss zero rows h = h
table-drop ss (suc n) [] h = tt
table-drop ss (suc n) (r ∷ rows) h = table-drop ss n rows h.1

-- the row of a stream, if there is one
abbrev IsRowIn : Stream → Option StreamRow → Type 0
IsRowIn s None = Unit {0}
IsRowIn s (Some r) = IsRowOf s r

row-at : (ss : List Stream) (rs : List StreamRow) (n : ℕ) (s : Stream) → AreRowsOf ss rs → slice_get ss n ≡ Some s → IsRowIn s (slice_get rs n)
row-at [] rs n s h e = absurd (cc)
row-at (t ∷ ss) [] n s h e = absurd h
row-at (t ∷ ss) (r ∷ rs) zero s h e = let p : t ≡ s = cc in subst (λ (x : Stream). IsRowOf x r) p h.0
row-at (t ∷ ss) (r ∷ rs) (suc n) s h e = row-at ss rs n s h.1 e

-- who lives after a row
surviving-of : (s : Stream) (closed : List Instance) (ls : List Living) → AreLivingOf s ls → AreInstancesOf s (surviving closed ls)
surviving-of s closed [] h = tt
surviving-of s closed (l ∷ ls) h = by (is_closed closed l.instance) (surviving-of s closed ls h.2)
  where
    by : (b : Bool) → AreInstancesOf s (surviving closed ls) → AreInstancesOf s (if b then surviving closed ls else l.instance ∷ surviving closed ls)
    by true on = on
    by false on = (h.0, on)

survivors-in : (s : Stream) (o : Option StreamRow) → IsRowIn s o → AreInstancesOf s (survivors_in o)
survivors-in s None h = tt
survivors-in s (Some r) h = surviving-of s r.closed r.living h.living

-- the last row of a table
abbrev IsLastOf : List Stream → Option TableRow → Type 0
IsLastOf ss None = Unit {0}
IsLastOf ss (Some row) = AreRowsOf ss row.streams

last-of : (ss : List Stream) (rows : List TableRow) → IsTableOf ss rows → IsLastOf ss (last_row rows)
last-of ss [] h = tt
last-of ss (r ∷ []) h = h.0
last-of ss (r ∷ q ∷ rows) h = last-of ss (q ∷ rows) h.1

survivors-by : (ss : List Stream) (n : ℕ) (s : Stream) → slice_get ss n ≡ Some s → (s.spawn ≡ None → s.parameters ≡ []) → (o : Option TableRow) → IsLastOf ss o → AreInstancesOf s (survivors n s o)
survivors-by ss n s at plain None h = by s.spawn refl
  where
    by : (o : Option Clause) → s.spawn ≡ o → AreInstancesOf s (elim o as (λ _. List Instance) [ None ↦ the_instance ∷ [] | Some k ↦ [] ])
    by None e = (subst (λ (ks : List Kind). are_values ks [] ≡ true) (sym (plain e)) refl, tt)
    by (Some k) e = tt
survivors-by ss n s at plain (Some row) h = survivors-in s (slice_get row.streams n) (row-at ss row.streams n s h at)

-- who lives after the rows of a table
pub survivors-of : (ss : List Stream) (rows : List TableRow) → IsTableOf ss rows → (n : ℕ) (s : Stream) → slice_get ss n ≡ Some s → (s.spawn ≡ None → s.parameters ≡ []) → AreInstancesOf s (survivors n s (last_row rows))
survivors-of ss rows h n s at plain = survivors-by ss n s at plain (last_row rows) (last-of ss rows h)

-- the values of an instance over rows

outcome-among : (s : Stream) (i : Instance) (ls : List Living) → AreLivingOf s ls → is_answer (filled_kind s) (outcome_among i ls) ≡ true
outcome-among s i [] h = refl
outcome-among s i (l ∷ ls) h = by (is_instance i l.instance) (outcome-among s i ls h.2)
  where
    by : (b : Bool) → is_answer (filled_kind s) (outcome_among i ls) ≡ true → is_answer (filled_kind s) (if b then l.outcome else outcome_among i ls) ≡ true
    by true on = h.1
    by false on = on

outcome-in : (s : Stream) (i : Instance) (o : Option StreamRow) → IsRowIn s o → is_answer (filled_kind s) (outcome_in i o) ≡ true
outcome-in s i None h = refl
outcome-in s i (Some r) h = outcome-among s i r.living h.living

-- what a row gives of a value, if it is one
one-value : (k : Kind) (time : ℕ) (a : Answer) (vs : List (ℕ × Field)) → is_answer k a ≡ true → AreOfKind k vs → AreOfKind k (cons_option (timed time a) vs)
one-value k time (Given v) vs h g = (h, g)
one-value k time Missing vs h g = g
one-value k time (Faulted f) vs h g = g
one-value k time Poisoned vs h g = g

module _ (ss : List Stream) (n : ℕ) (s : Stream) (at : slice_get ss n ≡ Some s) (i : Instance) where
  pub values-of : (rows : List TableRow) → IsTableOf ss rows → AreOfKind (filled_kind s) (values_over n i rows)
  values-of [] h = tt
  values-of (row ∷ rows) h =
      one-value (filled_kind s) row.step.time (outcome_in i (slice_get row.streams n)) (values_over n i rows)
      (outcome-in s i (slice_get row.streams n) (row-at ss row.streams n s h.0 at)) (values-of rows h.1)

few-option : {X : Type 0} (o : Option X) (xs : List X) → length (cons_option o xs) ≤ suc (length xs)
few-option None xs = omega arith
few-option (Some x) xs = omega arith

pub few-values : (n : ℕ) (i : Instance) (rows : List TableRow) → length (values_over n i rows) ≤ length rows
few-values n i [] = omega arith
few-values n i (row ∷ rows) =
    let on = few-values n i rows in
    let one = few-option (value_in n i row) (values_over n i rows) in
    omega (arith, on, one)

pub few-since : (n : ℕ) (i : Instance) (rows : List TableRow) → length (values_over n i (drop i.born rows)) ≤ length rows
few-since n i rows =
    let a = few-values n i (drop i.born rows) in
    let b = length-drop i.born rows in
    omega (arith, a, b)

pub values-since : (ss : List Stream) (rows : List TableRow) → IsTableOf ss rows → (n : ℕ) (s : Stream) → slice_get ss n ≡ Some s → (i : Instance) → AreOfKind (filled_kind s) (values_over n i (drop i.born rows))
values-since ss rows h n s at i = values-of ss n s at i (drop i.born rows) (table-drop ss i.born rows h)

-- the content at a row

seen-is : (k : Kind) (a : Answer) → is_answer k a ≡ true → is_answer k (seen a) ≡ true
seen-is k (Given v) h = h
seen-is k Missing h = refl
seen-is k (Faulted f) h = refl
seen-is k Poisoned h = refl

lives-of : (ss : List Stream) (rows : List TableRow) (most time : ℕ) → IsTableOf ss rows → length rows ≤ most → (n : ℕ) (s : Stream) → slice_get ss n ≡ Some s → (ls : List Living) → AreLivingOf s ls
    → AreLivesOf (filled_kind s) most (map (life_of rows time n) ls)
lives-of ss rows most time h few n s at [] g = tt
lives-of ss rows most time h few n s at (l ∷ ls) g = (
  record {
    earlier = values-since ss rows h n s at l.instance;
    outcome = seen-is (filled_kind s) l.outcome g.1;
    few = let a = few-since n l.instance rows in omega (arith, a, few);
  },
  lives-of ss rows most time h few n s at ls g.2,
)

kind-at : (ss : List Stream) (kept : List ℕ) (pacings : List ClausePacings) (n : ℕ) (s : Stream) → slice_get ss n ≡ Some s → filled_kind s ≡ kind_in (slice_get (layouts_from ss kept pacings) n)
kind-at [] kept pacings n s e = absurd (cc)
kind-at (t ∷ ss) kept pacings zero s e = let p : s ≡ t = cc in ap filled_kind p
kind-at (t ∷ ss) kept pacings (suc n) s e = kind-at ss (drop 1 kept) (drop 1 pacings) n s e

module _ (all : List Stream) (rows : List TableRow) (most time : ℕ) (table : IsTableOf all rows) (few : length rows ≤ most) where
  stream-lives : (m : ℕ) (ss : List Stream) (rs : List StreamRow) → AreRowsOf ss rs → ((j : ℕ) (s : Stream) → slice_get ss j ≡ Some s → slice_get all (m + j) ≡ Some s)
      → (n : ℕ) (c : StreamContent) → slice_get (streams_from rows time m rs) n ≡ Some c → (s : Stream) × (slice_get all (m + n) ≡ Some s) × AreLivesOf (filled_kind s) most c.lives
  stream-lives m ss [] h at n c e = absurd (cc)
  stream-lives m [] (r ∷ rs) h at n c e = absurd h
  stream-lives m (s ∷ ss) (r ∷ rs) h at zero c e =
      let here : slice_get all (m + 0) ≡ Some s = at 0 s refl in
      let there : slice_get all m ≡ Some s = subst (λ (x : ℕ). slice_get all x ≡ Some s) (omega arith) here in
      let lives : AreLivesOf (filled_kind s) most (map (life_of rows time m) r.living) = lives-of all rows most time table few m s there r.living h.0.living in
      let same : record { bad = is_bad r.spawned; lives = map (life_of rows time m) r.living } ≡ c = cc in
      (s, here, subst (λ (x : StreamContent). AreLivesOf (filled_kind s) most x.lives) same lives)
  stream-lives m (s ∷ ss) (r ∷ rs) h at (suc n) c e =
      let w = stream-lives (m + 1) ss rs h.1 (λ j t q. subst (λ (x : ℕ). slice_get all x ≡ Some t) (omega arith) (at (suc j) t q)) n c e in
      (w.0, subst (λ (x : ℕ). slice_get all x ≡ Some w.0) (omega arith) w.1, w.2)

  -- whose rows are of their kinds
  pub content-of : (start : ℕ) (row : TableRow) → row.step.time ≡ time → AreRowsOf all row.streams → IsContentOf (layouts_from all [] []) most (content start rows row)
  content-of start row same h n c e =
      let e' : slice_get (streams_from rows time 0 row.streams) n ≡ Some c = subst (λ (t : ℕ). slice_get (streams_from rows t 0 row.streams) n ≡ Some c) same e in
      let w = stream-lives 0 all row.streams h (λ j s q. subst (λ (x : ℕ). slice_get all x ≡ Some s) (omega arith) q) n c e' in
      let at : slice_get all n ≡ Some w.0 = subst (λ (x : ℕ). slice_get all x ≡ Some w.0) (omega arith) w.1 in
      subst (λ (k : Kind). AreLivesOf k most c.lives) (kind-at all [] [] n w.0 at) w.2
