-- A step has a row; what is known as it begins agrees with the row.
use Rattle.std.proofs.Common.{◌≡◌, ◌∙◌, refl, sym, ap, subst, ℕ, zero, suc, ◌+◌, ◌<◌, List, [], ◌∷◌, Option, Some, None, Bool, true, false, if◌then◌else◌, arith, length, slice_get}
use Rattle.std.specs.List.{Contains}
use Rattle.lola_value.specs.Answer.{Answer}
use Rattle.lola_model.proofs.Layers.{has_one_row}
use Rattle.lola_model.proofs.OneModel.{HasOneRow}
use Rattle.lola_model.proofs.OneRow.{contents_kept, spawns_kept}
use Rattle.lola_model.proofs.Targets.{among, among_acyclic, from_among, lead_to_nodes}
use Rattle.lola_model.proofs.Walks.{depth_of, layer_exists}
use Rattle.lola_model.specs.Accepted.{IsAcyclic}
use Rattle.lola_model.specs.Content.{content, streams_from, time_of}
use Rattle.lola_model.specs.Graph.{edges_of, nodes_of}
use Rattle.lola_model.specs.Model.{answered, closes_from, closing, has_evaluation_fault, IsRow, is_input, last_row, outcomes_from, spawned_in, stream_outcome, survivors, the_instance}
use Rattle.lola_model.specs.Table.{Step, Instance, StreamRow, TableRow}
use Rattle.lola_model.specs.declared.graph.Edge.{Edge}
use Rattle.lola_model.specs.declared.plan.Plan.{Plan}
use Rattle.lola_model.specs.declared.spec.Clause.{Clause}
use Rattle.lola_model.specs.declared.spec.Spec.{Spec}
use Rattle.lola_model.specs.declared.spec.Stream.{Stream}
use Rattle.lola_replay_table.specs.declared.table.KeptSpawn.{KeptSpawn}
use Rattle.lola_replay_table.specs.declared.table.KnownLife.{KnownLife}
use Rattle.lola_replay_table.specs.declared.table.KnownStream.{KnownStream}
use Rattle.lola_replay_step.specs.Agreements.{Knows, KnowsFrom, KnowsLives, Solves, comes_to, living_by}
use Rattle.lola_replay_step.specs.Rests.{IsFirst, IsPlaced, RestLives, Rests, RestsFrom, begun, first_lives, fresh_from}
use Rattle.lola_replay_step.proofs.Bridges.{AreStreamsOf}

-- each step has one row

targets-among : (spec : Spec) (e : Edge) → Contains (among (length spec.streams) (edges_of spec)) e → Contains (nodes_of spec) e.to
targets-among spec e c = let k = from_among (length spec.streams) (edges_of spec) e c in lead_to_nodes spec e k.0 k.1

pub has-row : (plan : Plan) → IsAcyclic plan.spec → (start : ℕ) → HasOneRow plan start
has-row plan a start =
    let count = length plan.spec.streams in
    let edges = among count (edges_of plan.spec) in
    let nodes = nodes_of plan.spec in
    has_one_row plan start (depth_of edges (length nodes)) (layer_exists edges nodes (targets-among plan.spec) (among_acyclic count (edges_of plan.spec) a.none))

module _ (plan : Plan) (start : ℕ) (rows : List TableRow) (step : Step) where
  abbrev pub row-with : List StreamRow → TableRow
  row-with xs = record { step = step; streams = xs }

  same-reading : (xs ys : List StreamRow) → streams_from rows step.time 0 xs ≡ streams_from rows step.time 0 ys → ((k : ℕ) → spawned_in (slice_get xs k) ≡ spawned_in (slice_get ys k))
      → (n i : ℕ) (ss : List Stream) → outcomes_from plan start rows step (row-with xs) n i ss ≡ outcomes_from plan start rows step (row-with ys) n i ss
  same-reading xs ys e h n i [] = refl
  same-reading xs ys e h n i (s ∷ ss) =
      let j = if is_input s then i + 1 else i in
      ap (λ cs. stream_outcome plan start rows step (record { start = start; time = step.time; streams = cs }) n i s (spawned_in (slice_get xs n)) ∷ outcomes_from plan start rows step (row-with xs) (n + 1) j ss) e
      ∙ (ap (λ sp. stream_outcome plan start rows step (content start rows (row-with ys)) n i s sp ∷ outcomes_from plan start rows step (row-with xs) (n + 1) j ss) (h n)
      ∙ ap (λ r. stream_outcome plan start rows step (content start rows (row-with ys)) n i s (spawned_in (slice_get ys n)) ∷ r) (same-reading xs ys e h (n + 1) j ss))

  -- streams with their closes, where there is no fault
  abbrev pub closed-if : Bool → List StreamRow → List StreamRow
  closed-if b xs = if b then xs else closes_from plan start rows (row-with xs) 0 plan.spec.streams xs

  closing-is : (xs : List StreamRow) → closing plan start rows (row-with xs) ≡ row-with (closed-if (has_evaluation_fault xs) xs)
  closing-is xs = go (has_evaluation_fault xs)
    where
      go : (b : Bool) → (if b then row-with xs else row-with (closes_from plan start rows (row-with xs) 0 plan.spec.streams xs)) ≡ row-with (closed-if b xs)
      go true = refl
      go false = refl

  contents-closed : (b : Bool) (xs : List StreamRow) → streams_from rows step.time 0 (closed-if b xs) ≡ streams_from rows step.time 0 xs
  contents-closed true xs = refl
  contents-closed false xs = contents_kept plan start rows (row-with xs) step.time 0 0 plan.spec.streams xs

  spawns-closed : (b : Bool) (xs : List StreamRow) (k : ℕ) → spawned_in (slice_get (closed-if b xs) k) ≡ spawned_in (slice_get xs k)
  spawns-closed true xs k = refl
  spawns-closed false xs k = spawns_kept plan start rows (row-with xs) 0 plan.spec.streams xs k

  -- the streams of the step's row, with nothing closed
  abbrev pub open-streams : List StreamRow
  open-streams = outcomes_from plan start rows step (answered plan start rows step) 0 0 plan.spec.streams

  pub answered-is : IsRow plan start rows step (answered plan start rows step) → answered plan start rows step ≡ row-with (closed-if (has_evaluation_fault open-streams) open-streams)
  answered-is lawful = lawful ∙ closing-is open-streams

  -- they solve the equations
  pub open-solves : IsRow plan start rows step (answered plan start rows step) → Solves plan start rows step (row-with open-streams)
  open-solves lawful =
      let b = has_evaluation_fault open-streams in
      ap (λ (r : TableRow). outcomes_from plan start rows step r 0 0 plan.spec.streams) (answered-is lawful)
      ∙ same-reading (closed-if b open-streams) open-streams (contents-closed b open-streams) (λ k. spawns-closed b open-streams k) 0 0 plan.spec.streams

-- what is known as a step begins

time-kept : (b t : ℕ) (rows : List TableRow) → b < length rows → time_of t (slice_get rows b) ≡ time_of 0 (slice_get rows b)
time-kept b t [] low = absurd (omega (arith, low))
time-kept zero t (r ∷ rs) low = refl
time-kept (suc b) t (r ∷ rs) low = time-kept b t rs (omega (arith, low))

placed-time : (rows : List TableRow) (x : Instance) (t : ℕ) → IsFirst false rows → IsPlaced rows x → time_of t (slice_get rows x.born) ≡ time_of 0 (slice_get rows x.born)
placed-time [] x t later placed = absurd later
placed-time (r ∷ rs) x t later placed = time-kept x.born t (r ∷ rs) placed

module _ (rows : List TableRow) (later : IsFirst false rows) (time n : ℕ) (comes : Instance → Answer) where
  lives-begin : (xs : List Instance) (ks : List KnownLife) → RestLives rows n xs ks → KnowsLives rows time n comes xs ks
  lives-begin [] [] rests = tt
  lives-begin [] (k ∷ ks) rests = absurd rests
  lives-begin (x ∷ xs) [] rests = absurd rests
  lives-begin (x ∷ xs) (k ∷ ks) rests = (
    record {
      params = rests.0.params;
      born = rests.0.born ∙ sym (placed-time rows x time later rests.0.placed);
      earlier = rests.0.earlier;
      outcome = λ a e. let both : None ≡ Some a = sym rests.0.outcome ∙ e in absurd (cc both);
    },
    lives-begin xs ks rests.1,
  )

module _ (plan : Plan) (start : ℕ) (step : Step) (row : TableRow) where
  from-begins : (rows : List TableRow) → IsFirst false rows → (n i : ℕ) (ss : List Stream) (rs : List StreamRow) (ks : List KnownStream) → AreStreamsOf plan start rows step row n i ss rs
      → RestsFrom rows n i ss ks → KnowsFrom plan start rows step row n i ss rs ks
  from-begins rows later n i [] [] [] are rests = tt
  from-begins rows later n i [] [] (k ∷ ks) are rests = absurd rests
  from-begins rows later n i [] (r ∷ rs) ks are rests = absurd are
  from-begins rows later n i (s ∷ ss) [] ks are rests = absurd are
  from-begins rows later n i (s ∷ ss) (r ∷ rs) [] are rests = absurd rests
  from-begins rows later n i (s ∷ ss) (r ∷ rs) (k ∷ ks) are rests = (
    record {
      input = rests.0.input;
      spawned = λ sp e. let both : None ≡ Some sp = sym rests.0.spawned ∙ e in absurd (cc both);
      lives = subst (λ (o : Option KeptSpawn). KnowsLives rows step.time n (comes_to plan start rows step row n i s r) (living_by (length rows) (survivors n s (last_row rows)) o) k.lives) (sym rests.0.spawned)
          (lives-begin rows later step.time n (comes_to plan start rows step row n i s r) (survivors n s (last_row rows)) k.lives rests.0.lives);
    },
    from-begins rows later (n + 1) (if is_input s then i + 1 else i) ss rs ks are.1 rests.1,
  )

  fresh-begins : (n i : ℕ) (ss : List Stream) (rs : List StreamRow) → AreStreamsOf plan start [] step row n i ss rs → KnowsFrom plan start [] step row n i ss rs (fresh_from step.time i ss)
  fresh-begins n i [] [] are = tt
  fresh-begins n i [] (r ∷ rs) are = absurd are
  fresh-begins n i (s ∷ ss) [] are = absurd are
  fresh-begins n i (s ∷ ss) (r ∷ rs) are = (
    record {
      input = refl;
      spawned = λ sp e. absurd (cc e);
      lives = born s.spawn;
    },
    fresh-begins (n + 1) (if is_input s then i + 1 else i) ss rs are.1,
  )
    where
      born : (o : Option Clause) → KnowsLives [] step.time n (comes_to plan start [] step row n i s r) (elim o [ None ↦ the_instance ∷ [] | Some k ↦ [] ]) (first_lives step.time o)
      born None = (record { params = refl; born = refl; earlier = refl; outcome = λ a e. absurd (cc e) }, tt)
      born (Some k) = tt

  pub begins : (first : Bool) (rows : List TableRow) (known : List KnownStream) → IsFirst first rows → AreStreamsOf plan start rows step row 0 0 plan.spec.streams row.streams → Rests plan rows known
      → Knows plan start rows step row (begun plan first step.time known)
  begins true [] known is are rests = fresh-begins 0 0 plan.spec.streams row.streams are
  begins true (r ∷ rs) known is are rests = absurd is
  begins false [] known is are rests = absurd is
  begins false (r ∷ rs) known is are rests = from-begins (r ∷ rs) tt 0 0 plan.spec.streams row.streams known are rests
