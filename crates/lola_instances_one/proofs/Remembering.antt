-- What an instance remembers, and what it answers by that.
use Rattle.std.proofs.Common.{◌≡◌, ℕ, zero, suc, ◌+◌, ◌-◌, ◌*◌, ◌≤◌, ◌<◌, List, [], ◌∷◌, ◌++◌, length, map, drop, refl, ap, sym, ◌∙◌, subst, arith, Option, Some, None, slice_get, nat_lt, if◌then◌else◌, inl, inr, true, false, Bool, ◌&&◌, IsTrue, MatchOption}
use Rattle.std.specs.Prelude.{filter}
use Rattle.std.proofs.lemmas.Bool.{ne_eqb}
use Rattle.std.proofs.lemmas.List.{append-nil, map-append}
use Rattle.circular_buffer.specs.Buffer.{keep_last}
use Rattle.circular_buffer.proofs.Places.{below_or_not}
use Rattle.lola_value.specs.declared.text.Field.{Field}
use Rattle.lola_value.specs.declared.value.Kind.{Kind}
use Rattle.lola_value.specs.declared.value.FaultKind.{FaultKind}
use Rattle.lola_value.specs.declared.value.Value.{Value}
use Rattle.lola_value.specs.declared.value.Value.TheVariants as value
use Rattle.lola_value.specs.declared.value.Outcome.{Outcome}
use Rattle.lola_value.specs.declared.value.Outcome.TheVariants as outcome
use Rattle.lola_value.specs.Answer.{Answer, Given, Missing, Poisoned}
use Rattle.lola_value.specs.Kinds.{is_outcome_of}
use Rattle.lola_value.specs.Shorts.{is_given, widened}
use Rattle.lola_value.specs.declared.short.Short.{Short}
use Rattle.lola_value.specs.declared.short.Short.TheVariants as short
use Rattle.lola_value.specs.Naming.{Naming, read, read_outcome, the_text, IsHeld, AreHeld, IsHeldIn}
use Rattle.lola_model.specs.Accesses.{from_end, one_more}
use Rattle.lola_model.specs.Reading.{held_answer, spoiled, IsHeldBy}
use Rattle.lola_model.specs.Windows.{is_within_window, values_within, aggregated}
use Rattle.lola_buffer.specs.Kept.{before_newest}
use Rattle.lola_panes.specs.Standing.{Partials, StandFor}
use Rattle.lola_panes.proofs.Noting.{lt_yes, lt_no}
use Rattle.lola_instances_one.specs.Holdings.{Holdings, shown, value_or_missing, AllOf}
use Rattle.lola_instances_one.specs.Memories.{shifted, AllSince, AllStandFor, life_values, Remembers}
use Rattle.lola_instances_one.specs.Telling.{ToldAll}
use Rattle.lola_instances_one.specs.WindowAnswers.{folded, window_value, IsFold, IsWindowAnswer}
use Rattle.lola_instances_one.proofs.Ends.{ring_told, ring_answers, from_end-more}

-- outcomes in short

pub none_given : (o : Outcome) → is_given o ≡ false → (v : Value) → o ≡ outcome.Value v → ⊥
none_given (outcome.Value w) h v e = cc
none_given outcome.Missing h v e = cc
none_given (outcome.Fault k) h v e = cc
none_given outcome.Poison h v e = cc

not_missing_widened : (s : Short) → (s ≡ short.Missing → ⊥) → widened s ≡ outcome.Missing → ⊥
not_missing_widened short.False h e = cc
not_missing_widened short.True h e = cc
not_missing_widened (short.Int z) h e = cc
not_missing_widened (short.Large n) h e = cc
not_missing_widened (short.Text id) h e = cc
not_missing_widened short.Missing h e = h refl
not_missing_widened short.Overflow h e = cc
not_missing_widened short.DivZero h e = cc
not_missing_widened short.TooManyInstances h e = cc
not_missing_widened short.Poison h e = cc

pub not_missing : (s : Short) (o : Outcome) → widened s ≡ o → (s ≡ short.Missing → ⊥) → o ≡ outcome.Missing → ⊥
not_missing s o e h q = not_missing_widened s h (e ∙ q)

held_now : (o : Outcome) (names : Naming) (values : List (ℕ × Field)) → (o ≡ outcome.Missing → ⊥) → read_outcome names o ≡ held_answer (read_outcome names o) values
held_now (outcome.Value v) names values h = refl
held_now outcome.Missing names values h = absurd (h refl)
held_now (outcome.Fault k) names values h = refl
held_now outcome.Poison names values h = refl

-- what the ring answers

no_more : (time : ℕ) (names : Naming) (o : Outcome) → ((v : Value) → o ≡ outcome.Value v → ⊥) → one_more time (read_outcome names o) ≡ []
no_more time names (outcome.Value v) h = absurd (h v refl)
no_more time names outcome.Missing h = refl
no_more time names (outcome.Fault k) h = refl
no_more time names outcome.Poison h = refl

held_at : (names : Naming) (vs : List Value) (j : ℕ) → AreHeld names vs → IsHeldIn names (value_or_missing (slice_get vs j))
held_at names [] zero h = tt
held_at names [] (suc j) h = tt
held_at names (v ∷ vs) zero h = h.0
held_at names (v ∷ vs) (suc j) h = held_at names vs j h.1

-- the naming has the text of what a ring answers
answer_held : (names : Naming) (vs : List Value) (k : ℕ) → AreHeld names vs → IsHeldIn names (value_or_missing (before_newest k vs))
answer_held names vs k h =
    elim (nat_lt k (length vs)) as (λ b. IsHeldIn names (value_or_missing (if b then slice_get vs (length vs - k - 1) else None))) [
      | true ↦ held_at names vs (length vs - k - 1) h
      | false ↦ tt
    ]

kind_at : (k : Kind) (vs : List Value) (j : ℕ) → AllOf k vs → IsTrue (is_outcome_of k (value_or_missing (slice_get vs j)))
kind_at k [] zero h = refl
kind_at k [] (suc j) h = refl
kind_at k (v ∷ vs) zero h = h.0
kind_at k (v ∷ vs) (suc j) h = kind_at k vs j h.1

-- it is of the kind of the values
pub answer_kind : (k : Kind) (vs : List Value) (j : ℕ) (r : Outcome) (o : Option Value) → r ≡ value_or_missing o → o ≡ before_newest j vs → AllOf k vs → IsTrue (is_outcome_of k r)
answer_kind k vs j r o e q h =
    subst (λ (x : Outcome). IsTrue (is_outcome_of k x)) (sym (e ∙ ap value_or_missing q))
    (elim (nat_lt j (length vs)) as (λ b. IsTrue (is_outcome_of k (value_or_missing (if b then slice_get vs (length vs - j - 1) else None)))) [
      | true ↦ kind_at k vs (length vs - j - 1) h
      | false ↦ refl
    ])

module _ (start time step : ℕ) (names : Naming) (s : Holdings) (values : List (ℕ × Field)) (h : Remembers start time step names s values) where
  ring_held : (r : Outcome) (o : Option Value) (k : ℕ) → r ≡ value_or_missing o → o ≡ before_newest k s.ring.values → IsHeldIn names r
  ring_held r o k e q = subst (IsHeldIn names) (sym (e ∙ ap value_or_missing q)) (answer_held names s.ring.values k h.held)

  -- the newest value, where this step has an outcome
  pub newest-now : (r : Outcome) → r ≡ shown step s → (r ≡ outcome.Missing → ⊥) → (read_outcome names r ≡ held_answer (read_outcome names (shown step s)) values) × IsHeldIn names r
  newest-now r e some = (held_now r names values some ∙ ap (λ o. held_answer (read_outcome names o) values) e, subst (IsHeldIn names) (sym e) h.now_held)

  -- the newest value, where this step has no outcome
  pub newest-answers : (r : Outcome) (o : Option Value) → shown step s ≡ outcome.Missing → r ≡ value_or_missing o → o ≡ before_newest 0 s.ring.values → 1 ≤ s.ring.capacity
      → (read_outcome names r ≡ held_answer (read_outcome names (shown step s)) values) × IsHeldIn names r
  newest-answers r o none e q c =
      let all : life_values time step names s values ≡ values = ap (λ r. values ++ one_more time (read_outcome names r)) none ∙ append-nil values in (
        ap (read_outcome names) e
            ∙ (ring_answers names s.ring.values s.ring.capacity (life_values time step names s values) 0 o h.ring (omega arith) q
            ∙ (ap (λ vs. from_end vs (0 + 1)) all ∙ (ap (from_end values) one ∙ sym (ap (λ r. held_answer (read_outcome names r) values) none)))),
        ring_held r o 0 e q,
      )
    where
      one : 0 + 1 ≡ 1
      one = omega arith

  -- an earlier value, where this step has one
  pub back-value : (r : Outcome) (o : Option Value) (v : Value) (k : ℕ) → shown step s ≡ outcome.Value v → r ≡ value_or_missing o → o ≡ before_newest k s.ring.values → 1 ≤ k → k ≤ s.ring.capacity - 1
      → (read_outcome names r ≡ from_end values k) × IsHeldIn names r
  back-value r o v k some e q l c =
      let all : life_values time step names s values ≡ values ++ (time, read names v) ∷ [] = ap (λ r. values ++ one_more time (read_outcome names r)) some in (
        ap (read_outcome names) e
            ∙ (ring_answers names s.ring.values s.ring.capacity (life_values time step names s values) k o h.ring (omega arith) q
            ∙ (ap (λ vs. from_end vs (k + 1)) all ∙ from_end-more values (time, read names v) k l)),
        ring_held r o k e q,
      )

  -- an earlier value, where this step has none
  pub back-else : (r : Outcome) (o : Option Value) (k : ℕ) → ((v : Value) → shown step s ≡ outcome.Value v → ⊥) → r ≡ value_or_missing o → o ≡ before_newest (k - 1) s.ring.values → 1 ≤ k → k ≤ s.ring.capacity - 1
      → (read_outcome names r ≡ from_end values k) × IsHeldIn names r
  back-else r o k none e q l c =
      let all : life_values time step names s values ≡ values = ap (λ vs. values ++ vs) (no_more time names (shown step s) none) ∙ append-nil values in
      let i : k - 1 + 1 ≡ k = omega arith in (
        ap (read_outcome names) e
            ∙ (ring_answers names s.ring.values s.ring.capacity (life_values time step names s values) (k - 1) o h.ring (omega arith) q
            ∙ (λ j. from_end (all j) (i j))),
        ring_held r o (k - 1) e q,
      )

-- windows

pub stand_at : (ps : List Partials) (i : ℕ) (p : Partials) (all : List (ℕ × Field)) → slice_get ps i ≡ Some p → AllStandFor ps all → StandFor p all
stand_at [] zero p all e h = absurd (cc)
stand_at [] (suc i) p all e h = absurd (cc)
stand_at (x ∷ ps) zero p all e h = let b : x ≡ p = cc in subst (λ (z : Partials). StandFor z all) b h.0
stand_at (x ∷ ps) (suc i) p all e h = stand_at ps i p all e h.1

-- windows by offsets are windows by times
within_shifted : (start over time : ℕ) (vs : List (ℕ × Field)) → start ≤ time → AllSince start vs → values_within over (time - start) (map (shifted start) vs) ≡ values_within over time vs
within_shifted start over time [] l h = refl
within_shifted start over time (v ∷ vs) l h =
    let k = h.0 in
    let e : is_within_window over (time - start) (shifted start v) ≡ is_within_window over time v = same_test start over time v.0 l k in
    let r = within_shifted start over time vs l h.1 in
    ap (λ b. map (λ (v : ℕ × Field). v.1) (if b then shifted start v ∷ filter (is_within_window over (time - start)) (map (shifted start) vs) else filter (is_within_window over (time - start)) (map (shifted start) vs))) e
    ∙ elim (is_within_window over time v) as (λ b. map (λ (v : ℕ × Field). v.1) (if b then shifted start v ∷ filter (is_within_window over (time - start)) (map (shifted start) vs) else filter (is_within_window over (time - start)) (map (shifted start) vs))
    ≡ map (λ (v : ℕ × Field). v.1) (if b then v ∷ filter (is_within_window over time) vs else filter (is_within_window over time) vs)) [
      | true ↦ ap (λ l. v.1 ∷ l) r
      | false ↦ r
    ]
  where
    same_test : (start over time t : ℕ) → start ≤ time → start ≤ t → nat_lt (time - start) (t - start + over) ≡ nat_lt time (t + over)
    same_test start over time t l k =
        elim (below_or_not time (t + over)) [
          | inl less ↦ lt_yes (time - start) (t - start + over) (omega arith) ∙ sym (lt_yes time (t + over) less)
          | inr more ↦ lt_no (time - start) (t - start + over) (omega arith) ∙ sym (lt_no time (t + over) more)
        ]

-- and so is the start
early_shifted : (start over time : ℕ) → start ≤ time → nat_lt (time - start) over ≡ nat_lt time (start + over)
early_shifted start over time l =
    elim (below_or_not time (start + over)) [
      | inl less ↦ lt_yes (time - start) over (omega arith) ∙ sym (lt_yes time (start + over) less)
      | inr more ↦ lt_no (time - start) over (omega arith) ∙ sym (lt_no time (start + over) more)
    ]

-- the answer of the panes at a place
pub window-answers : (start time step offset : ℕ) (names : Naming) (s : Holdings) (values : List (ℕ × Field)) (i : ℕ) (p : Partials) (a : Answer) → Remembers start time step names s values → slice_get s.panes i ≡ Some p
    → offset ≡ time - start → start ≤ time
    → ((all : List (ℕ × Field)) → StandFor p all → a ≡ (if p.exact && nat_lt offset (p.count * p.pane) then Missing else aggregated p.aggregation p.kind (values_within (p.count * p.pane) offset all)))
    → a ≡ folded start time p (read_outcome names (shown step s)) values
window-answers start time step offset names s values i p a h e o l f =
    let all = life_values time step names s values in
    f (map (shifted start) all) (stand_at s.panes i p (map (shifted start) all) e h.panes)
    ∙ (ap (λ (t : ℕ). if p.exact && nat_lt t (p.count * p.pane) then Missing else aggregated p.aggregation p.kind (values_within (p.count * p.pane) t (map (shifted start) all))) o
    ∙ (λ j. if p.exact && early_shifted start (p.count * p.pane) time l j then Missing else aggregated p.aggregation p.kind (within_shifted start (p.count * p.pane) time all l h.since j)))

not_spoiled : (names : Naming) (o : Outcome) → ((k : FaultKind) → o ≡ outcome.Fault k → ⊥) → (o ≡ outcome.Poison → ⊥) → spoiled (read_outcome names o) ≡ false
not_spoiled names (outcome.Value v) f p = refl
not_spoiled names outcome.Missing f p = refl
not_spoiled names (outcome.Fault k) f p = absurd (f k refl)
not_spoiled names outcome.Poison f p = absurd (p refl)

-- where this step's outcome poisons nothing, the answer is the fold
pub unspoiled : (start time : ℕ) (p : Partials) (names : Naming) (o : Outcome) (values : List (ℕ × Field)) → ((k : FaultKind) → o ≡ outcome.Fault k → ⊥) → (o ≡ outcome.Poison → ⊥)
    → folded start time p (read_outcome names o) values ≡ window_value start time p (read_outcome names o) values
unspoiled start time p names o values f q = sym (ap (λ (b : Bool). if b then Poisoned else folded start time p (read_outcome names o) values) (not_spoiled names o f q))

-- the answer of the panes at a place, where there are some
pub window-found : (step offset : ℕ) (s : Holdings) (i : ℕ) (r : Outcome) → ((k : FaultKind) → shown step s ≡ outcome.Fault k → ⊥) → (shown step s ≡ outcome.Poison → ⊥)
    → MatchOption (slice_get s.panes i) ⊥ (IsFold offset r) → MatchOption (slice_get s.panes i) ⊥ (IsWindowAnswer step offset s r)
window-found step offset s i r f q h = found (slice_get s.panes i) refl h
  where
    found : (o : Option Partials) → slice_get s.panes i ≡ o → MatchOption o ⊥ (IsFold offset r) → MatchOption o ⊥ (IsWindowAnswer step offset s r)
    found None e h = h
    found (Some p) e h = λ start time names values m o l.
        window-answers start time step offset names s values i p (read_outcome names r) m e o l (h names) ∙ unspoiled start time p names (shown step s) values f q

-- a value that is told

pub stand_told : (offset : ℕ) (v : Value) (names : Naming) (ps qs : List Partials) (all : List (ℕ × Field)) → ToldAll offset v ps qs → AllStandFor ps all → AllStandFor qs (all ++ (offset, read names v) ∷ [])
stand_told offset v names [] [] all t h = tt
stand_told offset v names [] (q ∷ qs) all t h = absurd t
stand_told offset v names (p ∷ ps) [] all t h = absurd t
stand_told offset v names (p ∷ ps) (q ∷ qs) all t h = (t.0.all names all h.0, stand_told offset v names ps qs all t.1 h.1)

since_more : (start : ℕ) (vs : List (ℕ × Field)) (v : ℕ × Field) → AllSince start vs → start ≤ v.0 → AllSince start (vs ++ v ∷ [])
since_more start [] v h l = (l, tt)
since_more start (x ∷ vs) v h l = (h.0, since_more start vs v h.1 l)

held_more : (names : Naming) (vs : List Value) (v : Value) → AreHeld names vs → IsHeld names v → AreHeld names (vs ++ v ∷ [])
held_more names [] v h k = (k, tt)
held_more names (x ∷ vs) v h k = (h.0, held_more names vs v h.1 k)

held_dropped : (names : Naming) (d : ℕ) (vs : List Value) → AreHeld names vs → AreHeld names (drop d vs)
held_dropped names zero vs h = h
held_dropped names (suc d) [] h = tt
held_dropped names (suc d) (x ∷ vs) h = held_dropped names d vs h.1

-- an instance that is told its value of this step
pub remembers-told : (start time step offset : ℕ) (names : Naming) (s s' : Holdings) (v : Value) (values : List (ℕ × Field)) → Remembers start time step names s values → IsHeld names v
    → shown step s ≡ outcome.Missing → offset ≡ time - start → start ≤ time → shown step s' ≡ outcome.Value v
    → s'.ring.capacity ≡ s.ring.capacity → s'.ring.values ≡ keep_last s.ring.capacity (s.ring.values ++ v ∷ []) → ToldAll offset v s.panes s'.panes
    → Remembers start time step names s' values
remembers-told start time step offset names s s' v values h nv none o l some cap ring panes =
    let before : life_values time step names s values ≡ values = ap (λ r. values ++ one_more time (read_outcome names r)) none ∙ append-nil values in
    let after : life_values time step names s' values ≡ values ++ (time, read names v) ∷ [] = ap (λ r. values ++ one_more time (read_outcome names r)) some in
    let r : map (read names) s.ring.values ≡ keep_last s.ring.capacity (map (λ (v : ℕ × Field). v.1) values) = h.ring ∙ ap (λ vs. keep_last s.ring.capacity (map (λ (v : ℕ × Field). v.1) vs)) before in
    let p : AllStandFor s.panes (map (shifted start) values) = subst (λ vs. AllStandFor s.panes (map (shifted start) vs)) before h.panes in
    let f : AllSince start values = subst (AllSince start) before h.since in
    let t : AllStandFor s'.panes (map (shifted start) values ++ (offset, read names v) ∷ []) = stand_told offset v names s.panes s'.panes (map (shifted start) values) panes p in
    let m : map (shifted start) values ++ (offset, read names v) ∷ [] ≡ map (shifted start) (values ++ (time, read names v) ∷ []) =
    ap (λ k. map (shifted start) values ++ (k, read names v) ∷ []) o ∙ sym (map-append (shifted start) values ((time, read names v) ∷ [])) in
    record {
      ring = ap (map (read names)) ring ∙ (ring_told names s.ring.values s.ring.capacity values v time r
          ∙ (λ i. keep_last (sym cap i) (map (λ (v : ℕ × Field). v.1) (sym after i))));
      panes = subst (λ vs. AllStandFor s'.panes (map (shifted start) vs)) (sym after) (subst (AllStandFor s'.panes) m t);
      since = subst (AllSince start) (sym after) (since_more start values (time, read names v) f l);
      held = subst (AreHeld names) (sym ring) (held_dropped names (length (s.ring.values ++ v ∷ []) - s.ring.capacity) (s.ring.values ++ v ∷ []) (held_more names s.ring.values v h.held nv));
      now_held = subst (IsHeldIn names) (sym some) nv;
    }

-- a later step, in which its value is an earlier one

pub not_shown : (step : ℕ) (s : Holdings) → s.stamp < step → shown step s ≡ outcome.Missing
not_shown step s h = ap (λ b. if b then s.outcome else outcome.Missing) (ne_eqb s.stamp step (λ q. omega arith))

pub remembers-begun : (start time step later next : ℕ) (names : Naming) (s : Holdings) (values : List (ℕ × Field)) → Remembers start time step names s values → s.stamp < next
    → Remembers start later next names s (life_values time step names s values)
remembers-begun start time step later next names s values h l =
    let all = life_values time step names s values in
    let e : life_values later next names s all ≡ all = ap (λ o. all ++ one_more later (read_outcome names o)) (not_shown next s l) ∙ append-nil all in
    record {
      ring = h.ring ∙ ap (λ vs. keep_last s.ring.capacity (map (λ (v : ℕ × Field). v.1) vs)) (sym e);
      panes = subst (λ vs. AllStandFor s.panes (map (shifted start) vs)) (sym e) h.panes;
      since = subst (AllSince start) (sym e) h.since;
      held = h.held;
      now_held = subst (IsHeldIn names) (sym (not_shown next s l)) tt;
    }

-- more texts

module _ (names more : Naming) (k : IsHeldBy names more) where
  value_read : (v : Value) → IsHeld names v → read more v ≡ read names v
  value_read (value.Bool b) h = refl
  value_read (value.Int z) h = refl
  value_read (value.Text id) h = ap the_text (k id.0 h.0 h.1) ∙ sym (ap the_text h.1)

  value_held : (v : Value) → IsHeld names v → IsHeld more v
  value_held (value.Bool b) h = tt
  value_held (value.Int z) h = tt
  value_held (value.Text id) h = (h.0, k id.0 h.0 h.1)

  all_read : (vs : List Value) → AreHeld names vs → map (read more) vs ≡ map (read names) vs
  all_read [] h = refl
  all_read (v ∷ vs) h = λ i. value_read v h.0 i ∷ all_read vs h.1 i

  all_held : (vs : List Value) → AreHeld names vs → AreHeld more vs
  all_held [] h = tt
  all_held (v ∷ vs) h = (value_held v h.0, all_held vs h.1)

  outcome_read : (o : Outcome) → IsHeldIn names o → read_outcome more o ≡ read_outcome names o
  outcome_read (outcome.Value v) h = ap Given (value_read v h)
  outcome_read outcome.Missing h = refl
  outcome_read (outcome.Fault f) h = refl
  outcome_read outcome.Poison h = refl

  outcome_held : (o : Outcome) → IsHeldIn names o → IsHeldIn more o
  outcome_held (outcome.Value v) h = value_held v h
  outcome_held outcome.Missing h = tt
  outcome_held (outcome.Fault f) h = tt
  outcome_held outcome.Poison h = tt

  -- a naming that has more texts serves as well
  pub remembers-renamed : (start time step : ℕ) (s : Holdings) (values : List (ℕ × Field)) → Remembers start time step names s values → Remembers start time step more s values
  remembers-renamed start time step s values h =
      let e : life_values time step more s values ≡ life_values time step names s values = ap (λ r. values ++ one_more time r) (outcome_read (shown step s) h.now_held) in
      record {
        ring = all_read s.ring.values h.held ∙ (h.ring ∙ ap (λ vs. keep_last s.ring.capacity (map (λ (v : ℕ × Field). v.1) vs)) (sym e));
        panes = subst (λ vs. AllStandFor s.panes (map (shifted start) vs)) (sym e) h.panes;
        since = subst (AllSince start) (sym e) h.since;
        held = all_held s.ring.values h.held;
        now_held = outcome_held (shown step s) h.now_held;
      }
