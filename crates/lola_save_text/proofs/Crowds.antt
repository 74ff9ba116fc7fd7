-- The instances of a stream that live after the rows of a table: each once, in the order of birth, and not too many.
use Rattle.std.proofs.Common.{◌≡◌, ℕ, zero, suc, ◌+◌, ◌<◌, ◌≤◌, List, [], ◌∷◌, ◌++◌, length, map, refl, sym, subst, ap, ◌∙◌, arith, Bool, true, false, ◌&&◌, not, Option, Some, None, nat_lt, if◌then◌else◌, slice_get, length-append, append-nil}
use Rattle.std.proofs.lemmas.Bool.{and_parts, or_parts, ltb-true, not-true}
use Rattle.lola_value.specs.declared.text.Field.{Field}
use Rattle.lola_value.specs.Answer.{Answer, Poisoned}
use Rattle.lola_value.specs.Arithmetic.{all_equal}
use Rattle.lola_model.specs.Acceptance.{IsAccepted}
use Rattle.lola_model.specs.Activity.{is_active}
use Rattle.lola_model.specs.Content.{Content, content}
use Rattle.lola_model.specs.Graph.{nodes_of}
use Rattle.lola_model.specs.Model.{is_input, survivors, survivors_in, surviving, is_closed, is_among, most_instances, newborn, spawned_in, unknown_spawned, spawn_outcome, outcome_of, outcomes_from, unknown_from, asked, closed_among, asked_to_close, closes_from, closing, has_evaluation_fault, answered, last_row, the_instance, spawn_pacing}
use Rattle.lola_model.specs.Named.{is_well_shaped}
use Rattle.lola_model.specs.Table.{Step, Instance, Spawned, Idle, Named, SpawnFaulted, SpawnPoisoned, Living, StreamRow, TableRow}
use Rattle.lola_model.specs.declared.plan.Plan.{Plan}
use Rattle.lola_model.specs.declared.spec.Clause.{Clause}
use Rattle.lola_model.specs.declared.spec.Spec.{Spec}
use Rattle.lola_model.specs.declared.spec.Stream.{Stream}
use Rattle.lola_model.proofs.Growth.{last_row-append}
use Rattle.lola_step_contents.proofs.Shapes.{passes_at, never_closes}

-- one instance behind another: not born before it, and of other parameters
pub record IsBehind (i j : Instance) : Type 0 where
  pub born : i.born ≤ j.born
  pub other : all_equal j.params i.params ≡ false

abbrev pub AreBehind : Instance → List Instance → Type 0
AreBehind i [] = Unit {0}
AreBehind i (j ∷ js) = IsBehind i j × AreBehind i js

-- each is behind all before it
abbrev pub AreInLine : List Instance → Type 0
AreInLine [] = Unit {0}
AreInLine (i ∷ is) = AreBehind i is × AreInLine is

-- all were born in a step before this number
abbrev pub AreBornBefore : ℕ → List Instance → Type 0
AreBornBefore n [] = Unit {0}
AreBornBefore n (i ∷ is) = (i.born < n) × AreBornBefore n is

-- the instances of a stream after so many steps
pub record IsCrowd (s : Stream) (number : ℕ) (is : List Instance) : Type 0 where
  pub line : AreInLine is
  pub born : (k : Clause) → s.spawn ≡ Some k → AreBornBefore number is
  pub few : length is ≤ 65536
  pub plain : s.spawn ≡ None → is ≡ the_instance ∷ []

-- of those that live some are left

module _ (closed : List Instance) where
  left-behind : (i : Instance) (ls : List Living) → AreBehind i (map (λ (l : Living). l.instance) ls) → AreBehind i (surviving closed ls)
  left-behind i [] h = tt
  left-behind i (l ∷ ls) h = by (is_closed closed l.instance) (left-behind i ls h.1)
    where
      by : (b : Bool) → AreBehind i (surviving closed ls) → AreBehind i (if b then surviving closed ls else l.instance ∷ surviving closed ls)
      by true on = on
      by false on = (h.0, on)

  left-line : (ls : List Living) → AreInLine (map (λ (l : Living). l.instance) ls) → AreInLine (surviving closed ls)
  left-line [] h = tt
  left-line (l ∷ ls) h = by (is_closed closed l.instance) (left-line ls h.1)
    where
      by : (b : Bool) → AreInLine (surviving closed ls) → AreInLine (if b then surviving closed ls else l.instance ∷ surviving closed ls)
      by true on = on
      by false on = (left-behind l.instance ls h.0, on)

  left-born : (n : ℕ) (ls : List Living) → AreBornBefore n (map (λ (l : Living). l.instance) ls) → AreBornBefore n (surviving closed ls)
  left-born n [] h = tt
  left-born n (l ∷ ls) h = by (is_closed closed l.instance) (left-born n ls h.1)
    where
      by : (b : Bool) → AreBornBefore n (surviving closed ls) → AreBornBefore n (if b then surviving closed ls else l.instance ∷ surviving closed ls)
      by true on = on
      by false on = (h.0, on)

  left-few : (ls : List Living) → length (surviving closed ls) ≤ length (map (λ (l : Living). l.instance) ls)
  left-few [] = omega arith
  left-few (l ∷ ls) = by (is_closed closed l.instance) (left-few ls)
    where
      by : (b : Bool) → length (surviving closed ls) ≤ length (map (λ (l : Living). l.instance) ls)
          → length (if b then surviving closed ls else l.instance ∷ surviving closed ls) ≤ suc (length (map (λ (l : Living). l.instance) ls))
      by true on = omega (arith, on)
      by false on = omega (arith, on)

none-closed : (ls : List Living) → surviving [] ls ≡ map (λ (l : Living). l.instance) ls
none-closed [] = refl
none-closed (l ∷ ls) = ap (λ is. l.instance ∷ is) (none-closed ls)

-- one more is born

behind-join : (i : Instance) (xs ys : List Instance) → AreBehind i xs → AreBehind i ys → AreBehind i (xs ++ ys)
behind-join i [] ys h g = g
behind-join i (x ∷ xs) ys h g = (h.0, behind-join i xs ys h.1 g)

one-behind : (p : List Field) (n : ℕ) (xs : List Instance) → AreInLine xs → AreBornBefore n xs → is_among p xs ≡ false → AreInLine (xs ++ record { params = p; born = n } ∷ [])
one-behind p n [] h b e = (tt, tt)
one-behind p n (x ∷ xs) h b e =
    let parts = or_parts (all_equal p x.params) (is_among p xs) e in
    let newest : IsBehind x (record { params = p; born = n }) = record { born = (let lt = b.0 in omega (arith, lt)); other = parts.0 } in
    (behind-join x xs (record { params = p; born = n } ∷ []) h.0 (newest, tt), one-behind p n xs h.1 b.1 parts.1)

born-more : (n : ℕ) (xs ys : List Instance) → AreBornBefore n xs → AreBornBefore (n + 1) ys → AreBornBefore (n + 1) (xs ++ ys)
born-more n [] ys h g = g
born-more n (x ∷ xs) ys h g = ((let lt = h.0 in omega (arith, lt)), born-more n xs ys h.1 g)

born-later : (n : ℕ) (xs : List Instance) → AreBornBefore n xs → AreBornBefore (n + 1) xs
born-later n [] h = tt
born-later n (x ∷ xs) h = ((let lt = h.0 in omega (arith, lt)), born-later n xs h.1)

-- the same instances a step later
crowd-later : (s : Stream) (n : ℕ) (xs : List Instance) → IsCrowd s n xs → IsCrowd s (n + 1) xs
crowd-later s n xs h = record { line = h.line; born = λ k e. born-later n xs (h.born k e); few = h.few; plain = h.plain }

crowd-nil : (s : Stream) (n : ℕ) (xs : List Instance) → IsCrowd s n xs → IsCrowd s (n + 1) (xs ++ [])
crowd-nil s n xs h = subst (λ (ys : List Instance). IsCrowd s (n + 1) ys) (sym (append-nil xs)) (crowd-later s n xs h)

module _ (s : Stream) (n : ℕ) (xs : List Instance) (h : IsCrowd s n xs) where
  -- a new one, where there is a spawn clause
  crowd-born : (k : Clause) → s.spawn ≡ Some k → (p : List Field) → (b : Bool) → (not (is_among p xs) && nat_lt (length xs) most_instances) ≡ b
      → IsCrowd s (n + 1) (xs ++ (if b then record { params = p; born = n } ∷ [] else []))
  crowd-born k e p false q = crowd-nil s n xs h
  crowd-born k e p true q =
      let parts = and_parts (not (is_among p xs)) (nat_lt (length xs) most_instances) q in
      let fresh : is_among p xs ≡ false = not-true (is_among p xs) parts.0 in
      let room = ltb-true (length xs) most_instances parts.1 in
      record {
        line = one-behind p n xs h.line (h.born k e) fresh;
        born = λ j f. born-more n xs (record { params = p; born = n } ∷ []) (h.born j f) (omega arith, tt);
        few = omega (arith, room, length-append xs (record { params = p; born = n } ∷ []));
        plain = λ f. absurd (cc);
      }

  -- with what a spawn clause did, which is nothing where there is none
  crowd-grows : (sp : Spawned) → (s.spawn ≡ None → sp ≡ Idle) → IsCrowd s (n + 1) (xs ++ newborn sp xs n)
  crowd-grows Idle idle = crowd-nil s n xs h
  crowd-grows (SpawnFaulted f) idle = crowd-nil s n xs h
  crowd-grows SpawnPoisoned idle = crowd-nil s n xs h
  crowd-grows (Named p) idle = by s.spawn refl
    where
      by : (o : Option Clause) → s.spawn ≡ o → IsCrowd s (n + 1) (xs ++ newborn (Named p) xs n)
      by None e = absurd (let q : Named p ≡ Idle = idle e in cc)
      by (Some k) e = crowd-born k e p (not (is_among p xs) && nat_lt (length xs) most_instances) refl

-- a stream in a row after so many steps, that row's with them
pub record IsCrowdRow (s : Stream) (number : ℕ) (r : StreamRow) : Type 0 where
  pub idle : s.spawn ≡ None → r.spawned ≡ Idle
  pub crowd : IsCrowd s number (map (λ (l : Living). l.instance) r.living)
  pub unclosed : s.spawn ≡ None → r.closed ≡ []

abbrev pub AreCrowdRows : ℕ → List Stream → List StreamRow → Type 0
AreCrowdRows number [] [] = Unit {0}
AreCrowdRows number [] (r ∷ rs) = ⊥
AreCrowdRows number (s ∷ ss) [] = ⊥
AreCrowdRows number (s ∷ ss) (r ∷ rs) = IsCrowdRow s number r × AreCrowdRows number ss rs

-- who is left of it
crowd-left : (s : Stream) (n : ℕ) (r : StreamRow) → IsCrowdRow s n r → IsCrowd s n (surviving r.closed r.living)
crowd-left s n r h = record {
  line = left-line r.closed r.living h.crowd.line;
  born = λ k e. left-born r.closed n r.living (h.crowd.born k e);
  few = let a = left-few r.closed r.living in let b = h.crowd.few in omega (arith, a, b);
  plain = λ e. ap (λ (cs : List Instance). surviving cs r.living) (h.unclosed e) ∙ (none-closed r.living ∙ h.crowd.plain e);
}

same-instances : (f : Instance → Answer) (xs : List Instance) → map (λ (l : Living). l.instance) (map (λ x. record { instance = x; outcome = f x }) xs) ≡ xs
same-instances f [] = refl
same-instances f (x ∷ xs) = ap (λ is. x ∷ is) (same-instances f xs)

idle-outcome : (spec : Spec) (c : Content) (active : Bool) (o : Option Clause) (alive : List Instance) → o ≡ None → spawn_outcome spec c active o alive ≡ Idle
idle-outcome spec c active o alive e = ap (λ (k : Option Clause). spawn_outcome spec c active k alive) e

idle-unknown : (o : Option Clause) → o ≡ None → unknown_spawned o ≡ Idle
idle-unknown o e = ap unknown_spawned e

-- what the spawn clause of a stream did, in a row of all streams
idle-at : (n : ℕ) (ss : List Stream) (rs : List StreamRow) (j : ℕ) (s : Stream) → AreCrowdRows n ss rs → slice_get ss j ≡ Some s → s.spawn ≡ None → spawned_in (slice_get rs j) ≡ Idle
idle-at n [] rs j s h e q = absurd (cc)
idle-at n (t ∷ ss) [] j s h e q = absurd h
idle-at n (t ∷ ss) (r ∷ rs) zero s h e q = let p : s ≡ t = cc in h.0.idle (subst (λ (x : Stream). x.spawn ≡ None) p q)
idle-at n (t ∷ ss) (r ∷ rs) (suc j) s h e q = idle-at n ss rs j s h.1 e q

-- a stream without a close clause closes nothing
none-asked : (spec : Spec) (c : Content) (ls : List Living) → closed_among spec c None ls ≡ []
none-asked spec c [] = refl
none-asked spec c (l ∷ ls) = none-asked spec c ls

-- who lives after the rows of a table, of each stream
abbrev pub IsCrowdTable : List Stream → List TableRow → Type 0
IsCrowdTable ss rows = (n : ℕ) (s : Stream) → slice_get ss n ≡ Some s → IsCrowd s (length rows) (survivors n s (last_row rows))

module _ (plan : Plan) (accepted : IsAccepted plan) (start : ℕ) (rows : List TableRow) (step : Step) (table : IsCrowdTable plan.spec.streams rows) where
  abbrev all : List Stream
  all = plan.spec.streams

  abbrev number : ℕ
  number = length rows + 1

  evaluated-crowds : (row : TableRow) → AreCrowdRows number all row.streams → (n i : ℕ) (ss : List Stream) → ((j : ℕ) (s : Stream) → slice_get ss j ≡ Some s → slice_get all (n + j) ≡ Some s)
      → AreCrowdRows number ss (outcomes_from plan start rows step row n i ss)
  evaluated-crowds row h n i [] at = tt
  evaluated-crowds row h n i (s ∷ ss) at =
      let here : slice_get all n ≡ Some s = subst (λ (x : ℕ). slice_get all x ≡ Some s) (omega arith) (at 0 s refl) in
      let sp : Spawned = spawned_in (slice_get row.streams n) in
      let alive : List Instance = survivors n s (last_row rows) in
      let f : Instance → Answer = λ x. outcome_of plan start rows step (content start rows row) n i s sp x in (
        record {
          idle = λ e. idle-outcome plan.spec (content start rows row) (is_active start step (spawn_pacing (slice_get plan.pacings n))) s.spawn alive e;
          crowd = subst (λ (is : List Instance). IsCrowd s number is) (sym (same-instances f (alive ++ newborn sp alive (length rows))))
              (crowd-grows s (length rows) alive (table n s here) sp (λ e. idle-at number all row.streams n s h here e));
          unclosed = λ e. refl;
        },
        evaluated-crowds row h (n + 1) (if is_input s then i + 1 else i) ss (λ j t q. subst (λ (x : ℕ). slice_get all x ≡ Some t) (omega arith) (at (suc j) t q)),
      )

  unknown-crowds : (n : ℕ) (ss : List Stream) → ((j : ℕ) (s : Stream) → slice_get ss j ≡ Some s → slice_get all (n + j) ≡ Some s) → AreCrowdRows number ss (unknown_from plan start rows step n ss)
  unknown-crowds n [] at = tt
  unknown-crowds n (s ∷ ss) at =
      let here : slice_get all n ≡ Some s = subst (λ (x : ℕ). slice_get all x ≡ Some s) (omega arith) (at 0 s refl) in
      let alive : List Instance = survivors n s (last_row rows) in (
        record {
          idle = λ e. idle-unknown s.spawn e;
          crowd = subst (λ (is : List Instance). IsCrowd s number is) (sym (same-instances (λ x. Poisoned) alive)) (crowd-later s (length rows) alive (table n s here));
          unclosed = λ e. refl;
        },
        unknown-crowds (n + 1) ss (λ j t q. subst (λ (x : ℕ). slice_get all x ≡ Some t) (omega arith) (at (suc j) t q)),
      )

  abbrev same_numbers : (j : ℕ) (s : Stream) → slice_get all j ≡ Some s → slice_get all (0 + j) ≡ Some s
  same_numbers j s q = subst (λ (x : ℕ). slice_get all x ≡ Some s) (let e : j ≡ 0 + j = omega arith in e) q

  asked-crowds : (d : ℕ) → AreCrowdRows number all (asked plan start rows step d).streams
  asked-crowds zero = unknown-crowds 0 all same_numbers
  asked-crowds (suc d) = evaluated-crowds (asked plan start rows step d) (asked-crowds d) 0 0 all same_numbers

  closes-crowds : (row : TableRow) (n : ℕ) (ss : List Stream) (rs : List StreamRow) → ((j : ℕ) (s : Stream) → slice_get ss j ≡ Some s → slice_get all (n + j) ≡ Some s)
      → AreCrowdRows number ss rs → AreCrowdRows number ss (closes_from plan start rows row n ss rs)
  closes-crowds row n [] rs at h = h
  closes-crowds row n (s ∷ ss) [] at h = absurd h
  closes-crowds row n (s ∷ ss) (r ∷ rs) at h =
      let here : slice_get all n ≡ Some s = subst (λ (x : ℕ). slice_get all x ≡ Some s) (omega arith) (at 0 s refl) in
      let asks : List Living = asked_to_close plan start rows row.step n r.living in (
        record {
          idle = h.0.idle;
          crowd = h.0.crowd;
          unclosed = λ e.
              ap (λ (o : Option Clause). closed_among plan.spec (content start rows row) o asks) (never_closes s (passes_at is_well_shaped all n s accepted.named.shapes here) e)
              ∙ none-asked plan.spec (content start rows row) asks;
        },
        closes-crowds row (n + 1) ss rs (λ j t q. subst (λ (x : ℕ). slice_get all x ≡ Some t) (omega arith) (at (suc j) t q)) h.1,
      )

  closing-crowds : (row : TableRow) → AreCrowdRows number all row.streams → AreCrowdRows number all (closing plan start rows row).streams
  closing-crowds row h = by (has_evaluation_fault row.streams)
    where
      by : (b : Bool) → AreCrowdRows number all (if b then row else record { step = row.step; streams = closes_from plan start rows row 0 plan.spec.streams row.streams }).streams
      by true = h
      by false = closes-crowds row 0 all row.streams same_numbers h

  answered-crowds : AreCrowdRows number all (answered plan start rows step).streams
  answered-crowds = closing-crowds (asked plan start rows step (length (nodes_of plan.spec))) (asked-crowds (length (nodes_of plan.spec)))

  crowd-at : (ss : List Stream) (rs : List StreamRow) (n : ℕ) (s : Stream) → AreCrowdRows number ss rs → slice_get ss n ≡ Some s → IsCrowd s number (survivors_in (slice_get rs n))
  crowd-at [] rs n s h e = absurd (cc)
  crowd-at (t ∷ ss) [] n s h e = absurd h
  crowd-at (t ∷ ss) (r ∷ rs) zero s h e = let p : t ≡ s = cc in subst (λ (x : Stream). IsCrowd x number (surviving r.closed r.living)) p (crowd-left t number r h.0)
  crowd-at (t ∷ ss) (r ∷ rs) (suc n) s h e = crowd-at ss rs n s h.1 e

  -- with one more row
  pub crowds-more : IsCrowdTable plan.spec.streams (rows ++ answered plan start rows step ∷ [])
  crowds-more n s at =
      let row : TableRow = answered plan start rows step in
      let grown : length (rows ++ row ∷ []) ≡ number = length-append rows (row ∷ []) in
      subst (λ (m : ℕ). IsCrowd s m (survivors n s (last_row (rows ++ row ∷ [])))) (sym grown)
      (subst (λ (o : Option TableRow). IsCrowd s number (survivors n s o)) (sym (last_row-append rows row)) (crowd-at all row.streams n s answered-crowds at))

-- before the first row
pub crowds-first : (ss : List Stream) → IsCrowdTable ss []
crowds-first ss n s at = by s.spawn refl
  where
    by : (o : Option Clause) → s.spawn ≡ o → IsCrowd s 0 (elim o as (λ _. List Instance) [ None ↦ the_instance ∷ [] | Some k ↦ [] ])
    by None e = record { line = (tt, tt); born = λ k f. absurd (cc); few = omega arith; plain = λ f. refl }
    by (Some k) e = record { line = tt; born = λ j f. tt; few = omega arith; plain = λ f. absurd (cc) }
