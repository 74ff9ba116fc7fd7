-- What is asked of an instance of a stream.
use Rattle.std.proofs.Common.{◌≡◌, ℕ, zero, suc, ◌+◌, ◌-◌, ◌*◌, ◌≤◌, ◌<◌, List, [], ◌∷◌, ◌++◌, length, refl, ap, sym, ◌∙◌, subst, arith, Option, Some, None, slice_get, nat_eq, nat_lt, if◌then◌else◌, inl, inr, true, false, ◌&&◌, IsTrue, MatchOption}
use Rattle.circular_buffer.proofs.Places.{below_or_not}
use Rattle.lola_value.specs.declared.text.Field.{Field}
use Rattle.lola_value.specs.declared.value.Kind.{Kind}
use Rattle.lola_value.specs.declared.value.Params.{Params}
use Rattle.lola_value.specs.declared.value.Outcome.{Outcome}
use Rattle.lola_value.specs.declared.value.Outcome.TheVariants as outcome
use Rattle.lola_value.specs.Answer.{Answer, Missing, Poisoned}
use Rattle.lola_value.specs.Kinds.{is_outcome_of}
use Rattle.lola_value.specs.Naming.{Naming, read_outcome, IsHeldIn}
use Rattle.lola_model.specs.Accesses.{from_end, one_more}
use Rattle.lola_model.specs.Reading.{held_answer, spoiled}
use Rattle.lola_model.specs.Store.{gives_kind}
use Rattle.lola_model.specs.Windows.{aggregated, values_within}
use Rattle.lola_panes.specs.Standing.{Partials}
use Rattle.lola_panes.proofs.Noting.{lt_yes, lt_no}
use Rattle.lola_instances_one.specs.declared.window.WindowPanes.{WindowPanes}
use Rattle.lola_instances_one.specs.Holdings.{Holdings, shown}
use Rattle.lola_instances_one.specs.Memories.{Remembers}
use Rattle.lola_instances_one.specs.Telling.{AllGiven}
use Rattle.lola_instances_one.specs.Unborn.{ArePanesOf, AllPanesOf, IsSound, AllSound}
use Rattle.lola_instances_one.specs.WindowAnswers.{IsWindowAnswer, window_value}
use Rattle.lola_instances_stream.specs.Crowds.{Crowd, RemembersAt, now_in, place_in, shown_at, shown_among}
use Rattle.lola_instances_stream.specs.Windowed.{IsWhole, windowed}
use Rattle.lola_instances_stream.proofs.Outcomes.{item_at}

-- the outcome of a step

pub now_bad : (step : ℕ) (c : Crowd) (p : Params) → true ≡ nat_eq c.bad_at step → now_in step c p ≡ outcome.Poison
now_bad step c p g = ap (λ b. if b then outcome.Poison else shown_among step c.slots (place_in p c.slots 0)) (sym g)

pub now_none : (step : ℕ) (c : Crowd) (p : Params) → false ≡ nat_eq c.bad_at step → None ≡ place_in p c.slots 0 → now_in step c p ≡ outcome.Missing
now_none step c p g f = ap (λ b. if b then outcome.Poison else shown_among step c.slots (place_in p c.slots 0)) (sym g) ∙ ap (shown_among step c.slots) (sym f)

pub now_found : (step : ℕ) (c : Crowd) (p : Params) (i : ℕ) (x : Holdings) → false ≡ nat_eq c.bad_at step → Some i ≡ place_in p c.slots 0 → slice_get c.slots i ≡ Some x → now_in step c p ≡ shown step x
now_found step c p i x g f at =
    ap (λ b. if b then outcome.Poison else shown_among step c.slots (place_in p c.slots 0)) (sym g) ∙ (ap (shown_among step c.slots) (sym f) ∙ ap (shown_at step) at)

-- the newest value, and an earlier one

pub newest_found : (step : ℕ) (c : Crowd) (p : Params) (i : ℕ) (x : Holdings) (r : Outcome) → false ≡ nat_eq c.bad_at step → Some i ≡ place_in p c.slots 0 → slice_get c.slots i ≡ Some x
    → ((start time : ℕ) (names : Naming) (values : List (ℕ × Field)) → Remembers start time step names x values
    → (read_outcome names r ≡ held_answer (read_outcome names (shown step x)) values) × IsHeldIn names r)
    → MatchOption (place_in p c.slots 0) (r ≡ now_in step c p)
    (λ i. (start time : ℕ) (names : Naming) (values : List (ℕ × Field)) → RemembersAt start time step names (slice_get c.slots i) values
    → (read_outcome names r ≡ held_answer (read_outcome names (now_in step c p)) values) × IsHeldIn names r)
newest_found step c p i x r g f at a =
    subst (λ (o : Option ℕ). MatchOption o (r ≡ now_in step c p)
    (λ i. (start time : ℕ) (names : Naming) (values : List (ℕ × Field)) → RemembersAt start time step names (slice_get c.slots i) values
    → (read_outcome names r ≡ held_answer (read_outcome names (now_in step c p)) values) × IsHeldIn names r)) f
    (λ start time names values m.
    let b = a start time names values (subst (λ (o : Option Holdings). RemembersAt start time step names o values) at m) in
    (b.0 ∙ ap (λ o. held_answer (read_outcome names o) values) (sym (now_found step c p i x g f at)), b.1))

pub newest_bad : (step : ℕ) (c : Crowd) (p : Params) → true ≡ nat_eq c.bad_at step
    → MatchOption (place_in p c.slots 0) (outcome.Poison ≡ now_in step c p)
    (λ i. (start time : ℕ) (names : Naming) (values : List (ℕ × Field)) → RemembersAt start time step names (slice_get c.slots i) values
    → (read_outcome names outcome.Poison ≡ held_answer (read_outcome names (now_in step c p)) values) × IsHeldIn names outcome.Poison)
newest_bad step c p g =
    let e = now_bad step c p g in
    elim (place_in p c.slots 0) as (λ o. MatchOption o (outcome.Poison ≡ now_in step c p)
    (λ i. (start time : ℕ) (names : Naming) (values : List (ℕ × Field)) → RemembersAt start time step names (slice_get c.slots i) values
    → (read_outcome names outcome.Poison ≡ held_answer (read_outcome names (now_in step c p)) values) × IsHeldIn names outcome.Poison)) [
      | None ↦ sym e
      | Some i ↦ λ start time names values m. (sym (ap (λ o. held_answer (read_outcome names o) values) e), tt)
    ]

pub back_found : (step : ℕ) (c : Crowd) (p : Params) (i : ℕ) (x : Holdings) (r : Outcome) (k : ℕ) → Some i ≡ place_in p c.slots 0 → slice_get c.slots i ≡ Some x
    → ((start time : ℕ) (names : Naming) (values : List (ℕ × Field)) → Remembers start time step names x values → (read_outcome names r ≡ from_end values k) × IsHeldIn names r)
    → MatchOption (place_in p c.slots 0) (r ≡ outcome.Missing)
    (λ i. (start time : ℕ) (names : Naming) (values : List (ℕ × Field)) → RemembersAt start time step names (slice_get c.slots i) values
    → (read_outcome names r ≡ from_end values k) × IsHeldIn names r)
back_found step c p i x r k f at a =
    subst (λ (o : Option ℕ). MatchOption o (r ≡ outcome.Missing)
    (λ i. (start time : ℕ) (names : Naming) (values : List (ℕ × Field)) → RemembersAt start time step names (slice_get c.slots i) values
    → (read_outcome names r ≡ from_end values k) × IsHeldIn names r)) f
    (λ start time names values m. a start time names values (subst (λ (o : Option Holdings). RemembersAt start time step names o values) at m))

-- the panes of a window stand where the window does

module _ (P : WindowPanes → Type 0) (Q : Partials → Type 0) where
  pub to_panes : ((w : WindowPanes) (p : Partials) → ArePanesOf w p → P w → Q p) → (ws : List WindowPanes) (ps : List Partials) → AllPanesOf ws ps → (i : ℕ) → MatchOption (slice_get ws i) ⊥ P → MatchOption (slice_get ps i) ⊥ Q
  to_panes f [] [] a zero h = absurd h
  to_panes f [] [] a (suc i) h = absurd h
  to_panes f [] (p ∷ ps) a i h = absurd a
  to_panes f (w ∷ ws) [] a i h = absurd a
  to_panes f (w ∷ ws) (p ∷ ps) a zero h = f w p a.0 h
  to_panes f (w ∷ ws) (p ∷ ps) a (suc i) h = to_panes f ws ps a.1 i h

  pub from_panes : ((w : WindowPanes) (p : Partials) → ArePanesOf w p → Q p → P w) → (ws : List WindowPanes) (ps : List Partials) → AllPanesOf ws ps → (i : ℕ) → MatchOption (slice_get ps i) ⊥ Q → MatchOption (slice_get ws i) ⊥ P
  from_panes f [] [] a zero h = absurd h
  from_panes f [] [] a (suc i) h = absurd h
  from_panes f [] (p ∷ ps) a i h = absurd a
  from_panes f (w ∷ ws) [] a i h = absurd a
  from_panes f (w ∷ ws) (p ∷ ps) a zero h = f w p a.0 h
  from_panes f (w ∷ ws) (p ∷ ps) a (suc i) h = from_panes f ws ps a.1 i h

pub panes_below : (ws : List WindowPanes) (ps : List Partials) (i : ℕ) → AllPanesOf ws ps → i < length ws → i < length ps
panes_below [] [] i a l = l
panes_below [] (p ∷ ps) i a l = absurd a
panes_below (w ∷ ws) [] i a l = absurd a
panes_below (w ∷ ws) (p ∷ ps) zero a l = omega arith
panes_below (w ∷ ws) (p ∷ ps) (suc i) a l = let k = panes_below ws ps i a.1 (omega arith) in omega arith

pub panes_newest : (offset most : ℕ) (kind : Kind) (ps : List Partials) (i : ℕ) → AllGiven offset most kind ps → i < length ps → MatchOption (slice_get ps i) ⊥ (λ p. p.newest ≤ offset)
panes_newest offset most kind [] i g l = absurd (omega arith)
panes_newest offset most kind (p ∷ ps) zero g l = g.0.0
panes_newest offset most kind (p ∷ ps) (suc i) g l = panes_newest offset most kind ps i g.1 (omega arith)

pub panes_whole : (offset : ℕ) (ws : List WindowPanes) (ps : List Partials) (i : ℕ) → AllPanesOf ws ps → MatchOption (slice_get ws i) ⊥ (IsWhole offset) → MatchOption (slice_get ps i) ⊥ (λ p. (k : ℕ) × (offset ≡ k * p.pane))
panes_whole offset ws ps i a h =
    to_panes (IsWhole offset) (λ p. (k : ℕ) × (offset ≡ k * p.pane)) (λ w p b q. (q.0, q.1 ∙ ap (λ n. q.0 * n) (sym b.pane))) ws ps a i h

pub sound_at : (ws : List WindowPanes) (i : ℕ) (w : WindowPanes) → AllSound ws → slice_get ws i ≡ Some w → IsSound w
sound_at [] zero w h e = absurd (cc)
sound_at [] (suc i) w h e = absurd (cc)
sound_at (x ∷ ws) zero w h e = let q : x ≡ w = cc in subst IsSound q h.0
sound_at (x ∷ ws) (suc i) w h e = sound_at ws i w h.1 e

-- windows

same_window : (start time : ℕ) (w : WindowPanes) (p : Partials) (now : Answer) (values : List (ℕ × Field)) → ArePanesOf w p → window_value start time p now values ≡ windowed start time w now values
same_window start time w p now values a =
    λ j. if spoiled now then Poisoned
    else if a.exact j && nat_lt time (start + a.count j * a.pane j) then Missing
    else aggregated (a.aggregation j) (a.kind j) (values_within (a.count j * a.pane j) time (values ++ one_more time now))

-- what the window of an instance that was found answers
abbrev pub WindowClause : ℕ → ℕ → Crowd → Params → Outcome → WindowPanes → Type 0
WindowClause step offset c p r w = MatchOption (place_in p c.slots 0)
    ((start time : ℕ) (names : Naming) → offset ≡ time - start → start ≤ time → read_outcome names r ≡ windowed start time w (read_outcome names (now_in step c p)) [])
    (λ i. (start time : ℕ) (names : Naming) (values : List (ℕ × Field)) → RemembersAt start time step names (slice_get c.slots i) values → offset ≡ time - start → start ≤ time
    → read_outcome names r ≡ windowed start time w (read_outcome names (now_in step c p)) values)

pub window_found : (step offset : ℕ) (c : Crowd) (p : Params) (i : ℕ) (x : Holdings) (r : Outcome) (place : ℕ) → false ≡ nat_eq c.bad_at step → Some i ≡ place_in p c.slots 0 → slice_get c.slots i ≡ Some x
    → AllPanesOf c.windows x.panes → MatchOption (slice_get x.panes place) ⊥ (IsWindowAnswer step offset x r) → MatchOption (slice_get c.windows place) ⊥ (WindowClause step offset c p r)
window_found step offset c p i x r place g f at a h =
    from_panes (WindowClause step offset c p r) (IsWindowAnswer step offset x r)
    (λ w q b answer.
    subst (λ (o : Option ℕ). MatchOption o
    ((start time : ℕ) (names : Naming) → offset ≡ time - start → start ≤ time → read_outcome names r ≡ windowed start time w (read_outcome names (now_in step c p)) [])
    (λ i. (start time : ℕ) (names : Naming) (values : List (ℕ × Field)) → RemembersAt start time step names (slice_get c.slots i) values → offset ≡ time - start → start ≤ time
    → read_outcome names r ≡ windowed start time w (read_outcome names (now_in step c p)) values)) f
    (λ start time names values m o l.
    answer start time names values (subst (λ (o : Option Holdings). RemembersAt start time step names o values) at m) o l
    ∙ (same_window start time w q (read_outcome names (shown step x)) values b
    ∙ ap (λ o. windowed start time w (read_outcome names o) values) (sym (now_found step c p i x g f at)))))
    c.windows x.panes a place h

pub window_bad : (step offset : ℕ) (c : Crowd) (p : Params) (place : ℕ) → true ≡ nat_eq c.bad_at step → place < length c.windows → MatchOption (slice_get c.windows place) ⊥ (WindowClause step offset c p outcome.Poison)
window_bad step offset c p place g l =
    let e = now_bad step c p g in
    let w = item_at c.windows place l in
    subst (λ o. MatchOption o ⊥ (WindowClause step offset c p outcome.Poison)) (sym w.1)
    (elim (place_in p c.slots 0) as (λ o. MatchOption o
    ((start time : ℕ) (names : Naming) → offset ≡ time - start → start ≤ time → read_outcome names outcome.Poison ≡ windowed start time w.0 (read_outcome names (now_in step c p)) [])
    (λ i. (start time : ℕ) (names : Naming) (values : List (ℕ × Field)) → RemembersAt start time step names (slice_get c.slots i) values → offset ≡ time - start → start ≤ time
    → read_outcome names outcome.Poison ≡ windowed start time w.0 (read_outcome names (now_in step c p)) values)) [
      | None ↦ λ start time names o l. sym (ap (λ o. windowed start time w.0 (read_outcome names o) []) e)
      | Some i ↦ λ start time names values m o l. sym (ap (λ o. windowed start time w.0 (read_outcome names o) values) e)
    ])

early_shifted : (start over time : ℕ) → start ≤ time → nat_lt (time - start) over ≡ nat_lt time (start + over)
early_shifted start over time l =
    elim (below_or_not time (start + over)) [
      | inl less ↦ lt_yes (time - start) over (omega arith) ∙ sym (lt_yes time (start + over) less)
      | inr more ↦ lt_no (time - start) over (omega arith) ∙ sym (lt_no time (start + over) more)
    ]

pub window_none : (step offset : ℕ) (c : Crowd) (p : Params) (place : ℕ) (w : WindowPanes) (r : Outcome) → false ≡ nat_eq c.bad_at step → None ≡ place_in p c.slots 0 → slice_get c.windows place ≡ Some w
    → ((names : Naming) → read_outcome names r ≡ (if w.exact && nat_lt offset (w.count * w.pane) then Missing else aggregated w.aggregation w.kind []))
    → MatchOption (slice_get c.windows place) ⊥ (WindowClause step offset c p r)
window_none step offset c p place w r g f at h =
    let e = now_none step c p g f in
    subst (λ o. MatchOption o ⊥ (WindowClause step offset c p r)) (sym at)
    (subst (λ (o : Option ℕ). MatchOption o
    ((start time : ℕ) (names : Naming) → offset ≡ time - start → start ≤ time → read_outcome names r ≡ windowed start time w (read_outcome names (now_in step c p)) [])
    (λ i. (start time : ℕ) (names : Naming) (values : List (ℕ × Field)) → RemembersAt start time step names (slice_get c.slots i) values → offset ≡ time - start → start ≤ time
    → read_outcome names r ≡ windowed start time w (read_outcome names (now_in step c p)) values)) f
    (λ start time names o l.
    h names
    ∙ (ap (λ t. if w.exact && nat_lt t (w.count * w.pane) then Missing else aggregated w.aggregation w.kind []) o
    ∙ (ap (λ t. if w.exact && t then Missing else aggregated w.aggregation w.kind []) (early_shifted start (w.count * w.pane) time l)
    ∙ sym (ap (λ o. windowed start time w (read_outcome names o) []) e)))))

-- their kinds

pub kind_found : (ws : List WindowPanes) (ps : List Partials) (i : ℕ) (r : Outcome) → AllPanesOf ws ps → MatchOption (slice_get ps i) ⊥ (λ p. IsTrue (is_outcome_of (gives_kind p.aggregation p.kind) r))
    → MatchOption (slice_get ws i) ⊥ (λ w. IsTrue (is_outcome_of (gives_kind w.aggregation w.kind) r))
kind_found ws ps i r a h =
    from_panes (λ w. IsTrue (is_outcome_of (gives_kind w.aggregation w.kind) r)) (λ p. IsTrue (is_outcome_of (gives_kind p.aggregation p.kind) r))
    (λ w p b q. subst (λ t. t) (λ j. IsTrue (is_outcome_of (gives_kind (b.aggregation j) (b.kind j)) r)) q) ws ps a i h

pub kind_poison : (ws : List WindowPanes) (i : ℕ) → i < length ws → MatchOption (slice_get ws i) ⊥ (λ w. IsTrue (is_outcome_of (gives_kind w.aggregation w.kind) outcome.Poison))
kind_poison ws i l = let w = item_at ws i l in subst (λ o. MatchOption o ⊥ (λ w. IsTrue (is_outcome_of (gives_kind w.aggregation w.kind) outcome.Poison))) (sym w.1) refl

-- how many panes there are, of what is said of them
pub panes_count : (o : Option Partials) (r : ℕ) → MatchOption o ⊥ (λ p. (r ≡ length p.panes) × (r ≤ p.count)) → MatchOption o ⊥ (λ p. r ≡ length p.panes)
panes_count None r h = h
panes_count (Some p) r h = h.0
