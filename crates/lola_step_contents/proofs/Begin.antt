-- As a step begins nothing of it is done: what is seen is what was there before, but for when the one instance of a
-- stream without a spawn clause was born.
use Rattle.std.proofs.Common.{◌≡◌, refl, ap, ◌∙◌, sym, subst, ℕ, zero, suc, ◌+◌, ◌<◌, List, [], ◌∷◌, Option, Some, None, Bool, true, false, ◌&&◌, nat_eq, arith, map, length, drop, slice_get, if◌then◌else◌}
use Rattle.std.proofs.lemmas.Bool.{le-ltb}
use Rattle.lola_model.specs.Content.{Content, Life, life_of, streams_from, is_bad, time_of}
use Rattle.lola_model.specs.Model.{asked, is_input, outcomes_from, unknown_from, survivors, last_row}
use Rattle.lola_model.specs.Graph.{nodes_of, eval_node, spawn_node, layer_of}
use Rattle.lola_model.specs.Runs.{begun, content_after, rested, life_after, streams_after}
use Rattle.lola_model.specs.Store.{Layout, Memories, Seen, StreamLayout, layout_of, layouts_from, spawns_in}
use Rattle.lola_model.specs.Table.{Step, Instance, StreamRow, TableRow}
use Rattle.lola_model.specs.declared.pacing.ClausePacings.{ClausePacings}
use Rattle.lola_model.specs.declared.plan.Plan.{Plan}
use Rattle.lola_model.specs.declared.spec.Clause.{Clause}
use Rattle.lola_model.specs.declared.spec.Stream.{Stream}
use Rattle.lola_step_contents.specs.Changed.{IsSameStream, AreSameLives, AreSameStreams, AreSameButBorn}
use Rattle.lola_step_contents.proofs.Births.{stands_unborn}
use Rattle.lola_step_contents.specs.Nexts.{BeginsSo}
use Rattle.lola_step_contents.specs.Stages.{AreBornBefore, AreSettled, is_behind, is_evaluated, so_far, silent_living, rows_so_far, full_row, content_so_far, first_stage}

-- whether a stream of a plan has a spawn clause, by its layout
spawns_at : (ss : List Stream) (kept : List ℕ) (pacings : List ClausePacings) (n : ℕ) (s : Stream) → slice_get ss n ≡ Some s
    → spawns_in (slice_get (layouts_from ss kept pacings) n) ≡ true → (k : Clause) × (s.spawn ≡ Some k)
spawns_at [] kept pacings n s at spawns = absurd (cc)
spawns_at (r ∷ ss) kept pacings zero s at spawns = let e : r ≡ s = cc in subst (λ (x : Stream). (k : Clause) × (x.spawn ≡ Some k)) e (has r.spawn spawns)
  where
    has : (o : Option Clause) → (elim o as (λ _. Bool) [ None ↦ false | Some k ↦ true ]) ≡ true → (k : Clause) × (o ≡ Some k)
    has None e = absurd (cc)
    has (Some k) e = (k, refl)
spawns_at (r ∷ ss) kept pacings (suc n) s at spawns = spawns_at ss (drop 1 kept) (drop 1 pacings) n s at spawns

-- the time of a row, whatever stands for rows to come
time_in : (rows : List TableRow) (n a b : ℕ) → n < length rows → time_of a (slice_get rows n) ≡ time_of b (slice_get rows n)
time_in [] n a b lt = absurd (omega arith)
time_in (r ∷ rows) zero a b lt = refl
time_in (r ∷ rows) (suc n) a b lt = time_in rows n a b (omega arith)

-- no node is behind the first stage
none_behind : (l n : ℕ) → is_behind l n 0 0 ≡ false
none_behind l n = rw (le-ltb l 0 (omega arith), le-ltb n 0 (omega arith)) (go (nat_eq l 0))
  where
    go : (b : Bool) → (b && false) ≡ false
    go true = refl
    go false = refl

-- of no stream
none_evaluated : (layers : List ℕ) (n : ℕ) (s : Stream) → is_evaluated layers first_stage n s ≡ false
none_evaluated layers n s = go (is_input s) _ _ (le-ltb n 0 (omega arith)) (none_behind (layer_of layers (eval_node n)) n)
  where
    go : (b x y : Bool) → x ≡ false → y ≡ false → (if b then x else y) ≡ false
    go true x y e f = e
    go false x y e f = f

module _ (plan : Plan) (start : ℕ) (rows : List TableRow) (step : Step) where
  length_outcomes : (row : TableRow) (n i : ℕ) (ss : List Stream) → length (outcomes_from plan start rows step row n i ss) ≡ length ss
  length_outcomes row n i [] = refl
  length_outcomes row n i (s ∷ ss) = ap suc (length_outcomes row (n + 1) _ ss)

  length_unknown : (n : ℕ) (ss : List Stream) → length (unknown_from plan start rows step n ss) ≡ length ss
  length_unknown n [] = refl
  length_unknown n (s ∷ ss) = ap suc (length_unknown (n + 1) ss)

  length_asked : (d : ℕ) → length (asked plan start rows step d).streams ≡ length plan.spec.streams
  length_asked zero = length_unknown 0 plan.spec.streams
  length_asked (suc d) = length_outcomes (asked plan start rows step d) 0 0 plan.spec.streams

  -- the row has all streams
  pub length_full : length (full_row plan start rows step).streams ≡ length plan.spec.streams
  length_full = length_asked (length (nodes_of plan.spec))

  quiet_lives : (n : ℕ) (is : List Instance) → AreSameLives (map (life_after rows n) is) (map (life_of rows step.time n) (map silent_living is))
  quiet_lives n [] = tt
  quiet_lives n (i ∷ is) = (record { params = refl; earlier = refl; outcome = refl }, quiet_lives n is)

  quiet_births : (n : ℕ) (is : List Instance) → AreBornBefore (length rows) is
      → map (λ (l : Life). l.born) (map (life_after rows n) is) ≡ map (λ (l : Life). l.born) (map (life_of rows step.time n) (map silent_living is))
  quiet_births n [] h = refl
  quiet_births n (i ∷ is) h =
      ap (λ t. t ∷ map (λ (l : Life). l.born) (map (life_after rows n) is)) (time_in rows i.born 0 step.time h.0)
      ∙ ap (λ ts. time_of step.time (slice_get rows i.born) ∷ ts) (quiet_births n is h.1)

  quiet_stream : (n : ℕ) (spawns spawned evaluated : Bool) (alive : List Instance) (y : StreamRow) → (spawns ≡ true → AreBornBefore (length rows) alive) → spawned ≡ false → evaluated ≡ false
      → IsSameStream spawns (record { bad = false; lives = map (life_after rows n) alive })
      (record { bad = is_bad (so_far spawned evaluated alive y).spawned; lives = map (life_of rows step.time n) (so_far spawned evaluated alive y).living })
  quiet_stream n spawns true evaluated alive y born e f = absurd (cc)
  quiet_stream n spawns false true alive y born e f = absurd (cc)
  quiet_stream n spawns false false alive y born e f = record { bad = refl; lives = quiet_lives n alive; births = λ h. quiet_births n alive (born h) }

  module _ (settled : AreSettled plan rows) where
    abbrev layouts : List StreamLayout
    layouts = (layout_of plan).streams

    born_at : (n : ℕ) (s : Stream) → slice_get plan.spec.streams n ≡ Some s → spawns_in (slice_get layouts n) ≡ true → AreBornBefore (length rows) (survivors n s (last_row rows))
    born_at n s at spawns = let has = spawns_at plan.spec.streams plan.kept plan.pacings n s at spawns in settled.born n s has.0 has.1

    quiet_streams : (n : ℕ) (ss : List Stream) (ys : List StreamRow) → length ys ≡ length ss
        → ((k m : ℕ) (s : Stream) → k ≡ n + m → slice_get ss m ≡ Some s → slice_get plan.spec.streams k ≡ Some s)
        → AreSameStreams layouts n (streams_after rows n ss) (streams_from rows step.time n (rows_so_far plan rows first_stage n ss ys))
    quiet_streams n [] [] e at = tt
    quiet_streams n [] (y ∷ ys) e at = absurd (omega arith)
    quiet_streams n (s ∷ ss) [] e at = absurd (omega arith)
    quiet_streams n (s ∷ ss) (y ∷ ys) e at = (
      quiet_stream n _ _ _ (survivors n s (last_row rows)) y (born_at n s (at n 0 s (omega arith) refl)) (none_behind (layer_of plan.layers (spawn_node n)) n) (none_evaluated plan.layers n s),
      quiet_streams (n + 1) ss ys (omega arith) (λ k m r q f. at k (suc m) r (omega arith) f),
    )

    same_at_first : (whole : Content) → rested whole ≡ content_after plan start rows → AreSameButBorn layouts (begun whole step.time) (content_so_far plan start rows step first_stage)
    unfolding content_so_far
    same_at_first whole e =
        let at_rest : begun whole step.time ≡ record { start = start; time = step.time; streams = streams_after rows 0 plan.spec.streams } =
        ap (λ (c : Content). record { start = c.start; time = step.time; streams = c.streams }) e in
        subst (λ (c : Content). AreSameButBorn layouts c (content_so_far plan start rows step first_stage)) (sym at_rest)
        (record {
          start = refl;
          time = refl;
          streams = quiet_streams 0 plan.spec.streams (full_row plan start rows step).streams length_full
              (λ k m s q f. let same : k ≡ m = omega arith in ap (slice_get plan.spec.streams) same ∙ f);
        })

    -- the law, at these
    pub begins : (remembers : Memories) (s : Seen) → BeginsSo plan start rows step remembers s
    begins remembers s layout names whole e h =
        stands_unborn names remembers s (begun whole step.time) (content_so_far plan start rows step first_stage)
        (subst (λ (l : Layout). AreSameButBorn l.streams (begun whole step.time) (content_so_far plan start rows step first_stage)) (sym layout) (same_at_first whole e)) h
