-- What an instance shows and remembers, through a naming that has the texts that it holds.
use Rattle.std.proofs.Common.{◌≡◌, ℕ, zero, suc, ◌+◌, ◌-◌, ◌≤◌, ◌<◌, List, [], ◌∷◌, ◌++◌, length, map, drop, refl, ap, sym, ◌∙◌, subst, arith, None, Some, slice_get, nat_eq, nat_lt, if◌then◌else◌, true, false, length-append}
use Rattle.circular_buffer.specs.Buffer.{keep_last}
use Rattle.lola_value.specs.declared.text.Field.{Field}
use Rattle.lola_value.specs.declared.value.TextId.{TextId}
use Rattle.lola_value.specs.declared.value.Value.{Value}
use Rattle.lola_value.specs.declared.value.Outcome.{Outcome}
use Rattle.lola_value.specs.declared.value.Outcome.TheVariants as outcome
use Rattle.lola_value.specs.Naming.{Naming, the_values}
use Rattle.lola_model.specs.Accesses.{one_more}
use Rattle.lola_text.specs.Needed.{text_in, texts_in, text_of_outcome, AreAmong, IsAmong, IsAmongIn, KeepsTexts}
use Rattle.lola_buffer.specs.Kept.{before_newest}
use Rattle.lola_buffer.proofs.Ends.{before_newest-kept}
use Rattle.lola_panes.proofs.Noting.{lt_yes}
use Rattle.lola_instances_one.specs.Holdings.{Holdings, shown, value_or_missing}
use Rattle.lola_instances_one.specs.Memories.{Remembers, life_values, shifted, AllSince, AllStandFor}
use Rattle.lola_instances_one.specs.Texts.{slot_texts, KeepsOutcome}
use Rattle.lola_text.proofs.Among.{within_front, within_back, value_within, all_within, outcome_within, value_among, all_among, all_read, all_held, outcome_read, outcome_held}

-- a value of a list has its text among those of the list
got_among : (vs : List Value) (i : ℕ) (v : Value) → slice_get vs i ≡ Some v → IsAmong (texts_in vs) v
got_among [] zero v e = absurd (cc)
got_among [] (suc i) v e = absurd (cc)
got_among (w ∷ vs) zero v e =
    let same : w ≡ v = cc in
    subst (IsAmong (text_in w ++ texts_in vs)) same (value_within (text_in w) (text_in w ++ texts_in vs) (within_front (text_in w) (texts_in vs)) w (value_among w))
got_among (w ∷ vs) (suc i) v e = value_within (texts_in vs) (text_in w ++ texts_in vs) (within_back (text_in w) (texts_in vs)) v (got_among vs i v e)

newest_among : (vs : List Value) (v : Value) → before_newest 0 vs ≡ Some v → IsAmong (texts_in vs) v
newest_among [] v e = absurd (cc)
newest_among (w ∷ vs) v e =
    let less : nat_lt 0 (length (w ∷ vs)) ≡ true = lt_yes 0 (length (w ∷ vs)) (omega arith) in
    let i = length (w ∷ vs) - 0 - 1 in
    got_among (w ∷ vs) i v (sym (ap (λ b. if b then slice_get (w ∷ vs) i else None) less) ∙ e)

outcome_kept : (vs : List Value) (o : Outcome) → ((v : Value) → o ≡ outcome.Value v → before_newest 0 vs ≡ Some v) → IsAmongIn (texts_in vs) o
outcome_kept vs (outcome.Value v) f = newest_among vs v (f v refl)
outcome_kept vs outcome.Missing f = tt
outcome_kept vs (outcome.Fault k) f = tt
outcome_kept vs outcome.Poison f = tt

module _ (s : Holdings) where
  abbrev its_params : List TextId
  its_params = texts_in (the_values s.params)

  abbrev its_ring : List TextId
  its_ring = texts_in s.ring.values

  pub params_among : AreAmong (slot_texts s) (the_values s.params)
  params_among = all_within its_params (slot_texts s) (within_front its_params its_ring) (the_values s.params) (all_among (the_values s.params))

  pub ring_among : AreAmong (slot_texts s) s.ring.values
  ring_among = all_within its_ring (slot_texts s) (within_back its_params its_ring) s.ring.values (all_among s.ring.values)

  pub shown_among : KeepsOutcome s → (step : ℕ) → IsAmongIn (slot_texts s) (shown step s)
  shown_among keeps step =
      outcome_within its_ring (slot_texts s) (within_back its_params its_ring) (shown step s)
      (elim (nat_eq s.stamp step) as (λ b. IsAmongIn its_ring (if b then s.outcome else outcome.Missing)) [ true ↦ outcome_kept s.ring.values s.outcome keeps | false ↦ tt ])

got_end : (vs : List Value) (v : Value) → slice_get (vs ++ v ∷ []) (length vs) ≡ Some v
got_end [] v = refl
got_end (w ∷ vs) v = got_end vs v

newest_is : (vs : List Value) (v : Value) → before_newest 0 (vs ++ v ∷ []) ≡ Some v
newest_is vs v =
    let l : length (vs ++ v ∷ []) ≡ length vs + 1 = length-append vs (v ∷ []) in
    let less : nat_lt 0 (length (vs ++ v ∷ [])) ≡ true = lt_yes 0 (length (vs ++ v ∷ [])) (omega arith) in
    let place : length (vs ++ v ∷ []) - 0 - 1 ≡ length vs = omega arith in
    ap (λ b. if b then slice_get (vs ++ v ∷ []) (length (vs ++ v ∷ []) - 0 - 1) else None) less ∙ (ap (slice_get (vs ++ v ∷ [])) place ∙ got_end vs v)

-- a value that was just told is the newest of those that are kept
pub told_kept : (n : ℕ) (vs : List Value) (v : Value) → 1 ≤ n → before_newest 0 (keep_last n (vs ++ v ∷ [])) ≡ Some v
told_kept n vs v h = before_newest-kept 0 n (vs ++ v ∷ []) (omega arith) ∙ newest_is vs v

-- it remembers through each naming that has the texts that it holds
pub remembers-kept : (start time step : ℕ) (names fewer : Naming) (s : Holdings) (values : List (ℕ × Field)) → KeepsOutcome s → KeepsTexts (slot_texts s) names fewer
    → Remembers start time step names s values → Remembers start time step fewer s values
remembers-kept start time step names fewer s values keeps k h =
    let ids = slot_texts s in
    let ring = ring_among s in
    let now = shown_among s keeps step in
    let e : life_values time step fewer s values ≡ life_values time step names s values = ap (λ r. values ++ one_more time r) (outcome_read ids names fewer k (shown step s) now h.now_held) in
    record {
      ring = all_read ids names fewer k s.ring.values ring h.held ∙ (h.ring ∙ ap (λ vs. keep_last s.ring.capacity (map (λ (v : ℕ × Field). v.1) vs)) (sym e));
      panes = subst (λ vs. AllStandFor s.panes (map (shifted start) vs)) (sym e) h.panes;
      since = subst (AllSince start) (sym e) h.since;
      held = all_held ids names fewer k s.ring.values ring h.held;
      now_held = outcome_held ids names fewer k (shown step s) now h.now_held;
    }

-- the texts from a place on are that of the value there, and those behind it

texts_at : (vs : List Value) (i : ℕ) → i < length vs → texts_in (drop i vs) ≡ text_of_outcome (value_or_missing (slice_get vs i)) ++ texts_in (drop (suc i) vs)
texts_at [] i l = absurd (omega arith)
texts_at (v ∷ vs) zero l = refl
texts_at (v ∷ vs) (suc i) l = texts_at vs i (omega arith)

pub texts_from : (vs : List Value) (i k : ℕ) → i + k + 1 ≡ length vs → texts_in (drop i vs) ≡ text_of_outcome (value_or_missing (before_newest k vs)) ++ texts_in (drop (i + 1) vs)
texts_from vs i k e =
    let less : nat_lt k (length vs) ≡ true = lt_yes k (length vs) (omega arith) in
    let place : length vs - k - 1 ≡ i = omega arith in
    let next : suc i ≡ i + 1 = omega arith in
    let here : before_newest k vs ≡ slice_get vs i = ap (λ b. if b then slice_get vs (length vs - k - 1) else None) less ∙ ap (slice_get vs) place in
    texts_at vs i (omega arith) ∙ (λ j. text_of_outcome (value_or_missing (sym here j)) ++ texts_in (drop (next j) vs))
