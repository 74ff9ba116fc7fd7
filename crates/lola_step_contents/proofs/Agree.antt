-- Where all inputs are told, a step as far as it is done agrees with the whole at the nodes of lower layers, and so a round of
-- questions over it finds what the clauses of its layer come to.
use Rattle.std.proofs.Common.{◌≡◌, refl, ap, ◌∙◌, sym, subst, ℕ, zero, suc, ◌+◌, ◌<◌, ◌≤◌, ◌⊎◌, inl, inr, List, [], ◌∷◌, ◌++◌, Option, Some, None, Bool, true, false, slice_get, arith, map, length, if◌then◌else◌}
use Rattle.std.proofs.lemmas.Bool.{lt-ltb}
use Rattle.lola_value.specs.declared.text.Field.{Field}
use Rattle.lola_value.specs.Answer.{Answer, Missing}
use Rattle.lola_model.specs.Acceptance.{IsAccepted}
use Rattle.lola_model.specs.Accepted.{HasLayers, IsAcyclic}
use Rattle.lola_model.specs.Activity.{is_active}
use Rattle.lola_model.specs.Content.{Content, content}
use Rattle.lola_model.specs.Graph.{eval_node, spawn_node, layer_of, edges_of}
use Rattle.lola_model.specs.Model.{is_input, outcomes_from, outcome_of, spawned_in, spawn_outcome, spawn_pacing, stream_outcome, survivors, last_row, newborn}
use Rattle.lola_model.specs.Table.{Step, Instance, Spawned, Idle, Living, StreamRow, TableRow}
use Rattle.lola_model.specs.declared.plan.Plan.{Plan}
use Rattle.lola_model.specs.declared.spec.Clause.{Clause}
use Rattle.lola_model.specs.declared.spec.Stream.{Stream}
use Rattle.lola_model.proofs.Layers.{layers_fall}
use Rattle.lola_model.proofs.Outcomes.{Falls}
use Rattle.lola_model.proofs.Rounds.{SameStream, SameRows, earlier_with, earlier_among, before_outcomes, before_alone, round_same, row_of}
use Rattle.lola_step_contents.specs.Nexts.{inputs_before}
use Rattle.lola_step_contents.specs.Stages.{Stage, is_behind, is_spawned, is_evaluated, so_far, silent_living, instances_in, rows_so_far}
use Rattle.lola_step_contents.proofs.Fixed.{count_more, full, fixed, full_at}

-- instances with outcomes
abbrev pub living_with : (Instance → Answer) → List Instance → List Living
living_with o xs = map (λ x. record { instance = x; outcome = o x }) xs

pub instances_kept : (o : Instance → Answer) (xs : List Instance) → instances_in (living_with o xs) ≡ xs
instances_kept o [] = refl
instances_kept o (x ∷ xs) = ap (λ ys. x ∷ ys) (instances_kept o xs)

-- a node of a lower layer is done
pub lower_is_behind : (l n now below : ℕ) → l < now → is_behind l n now below ≡ true
lower_is_behind l n now below lt = rw (lt-ltb l now lt) refl

-- an input is done, and what is of a lower layer
pub lower_is_evaluated : (layers : List ℕ) (g : Stage) (n : ℕ) (s : Stream) → n < g.inputs → layer_of layers (eval_node n) < g.layer → is_evaluated layers g n s ≡ true
lower_is_evaluated layers g n s told low = go (is_input s) _ _ (lt-ltb n g.inputs told) (lower_is_behind (layer_of layers (eval_node n)) n g.layer g.evals low)
  where
    go : (b x y : Bool) → x ≡ true → y ≡ true → (if b then x else y) ≡ true
    go true x y e f = e
    go false x y e f = f

either_spawned : (b : Bool) (a : Spawned) → (a ≡ Idle) ⊎ (b ≡ true) → (if b then a else Idle) ≡ a
either_spawned true a h = refl
either_spawned false a (inl e) = sym e
either_spawned false a (inr e) = absurd (cc)

module _ (plan : Plan) (start : ℕ) (rows : List TableRow) (step : Step) where
  abbrev rank : ℕ → ℕ
  rank n = layer_of plan.layers n

  abbrev streams : List Stream
  streams = plan.spec.streams

  -- the rows of all streams as far as a stage is
  abbrev pub rows_at : Stage → List StreamRow
  rows_at g = rows_so_far plan rows g 0 streams (full plan start rows step)

  -- neither a silent instance nor a newborn one matters to what was before
  earlier_so_far : (n : ℕ) (spawned evaluated : Bool) (o : Instance → Answer) (a b : Spawned) (alive : List Instance) (k : ℕ) (p : List Field)
      → earlier_with rows step.time n k p (so_far spawned evaluated alive (record { spawned = a; living = living_with o (alive ++ newborn b alive (length rows)); closed = []; close_faults = [] })).living
      ≡ earlier_among rows step.time n k p alive
  earlier_so_far n spawned true o a b alive k p = before_outcomes rows step.time n o k p b alive
  earlier_so_far n false false o a b alive k p = before_alone rows step.time n (λ x. Missing) k p alive
  earlier_so_far n true false o a b alive k p =
      ap (λ xs. earlier_with rows step.time n k p (map silent_living xs)) (instances_kept o (alive ++ newborn b alive (length rows)))
      ∙ before_outcomes rows step.time n (λ x. Missing) k p b alive

  pub idle_without : (c : Content) (active : Bool) (k : Option Clause) (alive : List Instance) → k ≡ None → spawn_outcome plan.spec c active k alive ≡ Idle
  idle_without c active k alive e = rw e refl

  same_so_far : (g : Stage) (c : Content) (n j : ℕ) (s : Stream) (b : Spawned) → n < g.inputs
      → SameStream rank rows step.time g.layer n s
      (so_far (is_spawned plan.layers g n) (is_evaluated plan.layers g n s) (survivors n s (last_row rows)) (stream_outcome plan start rows step c n j s b))
      (stream_outcome plan start rows step c n j s b)
  same_so_far g c n j s b told =
      let alive = survivors n s (last_row rows) in
      let y = stream_outcome plan start rows step c n j s b in
      record {
        spawned = λ known. either_spawned (is_spawned plan.layers g n) y.spawned (of_spawn known);
        living = λ low. ap (λ t. if t then y.living else map silent_living (if is_spawned plan.layers g n then instances_in y.living else alive)) (lower_is_evaluated plan.layers g n s told low);
        earlier = λ k p.
            earlier_so_far n (is_spawned plan.layers g n) (is_evaluated plan.layers g n s) (λ x. outcome_of plan start rows step c n j s b x) y.spawned b alive k p
            ∙ sym (before_outcomes rows step.time n (λ x. outcome_of plan start rows step c n j s b x) k p b alive);
        closed = refl;
        close_faults = refl;
      }
    where
      of_spawn : (s.spawn ≡ None) ⊎ (rank (spawn_node n) < g.layer)
          → (spawn_outcome plan.spec c (is_active start step (spawn_pacing (slice_get plan.pacings n))) s.spawn (survivors n s (last_row rows)) ≡ Idle) ⊎ (is_spawned plan.layers g n ≡ true)
      of_spawn (inl e) = inl (idle_without c _ s.spawn _ e)
      of_spawn (inr low) = inr (lower_is_behind (rank (spawn_node n)) n g.layer g.spawns low)

  same_rows : (g : Stage) (row : TableRow) (n i : ℕ) (ss : List Stream) → n + length ss ≤ g.inputs
      → SameRows rank rows step.time g.layer n ss (rows_so_far plan rows g n ss (outcomes_from plan start rows step row n i ss)) (outcomes_from plan start rows step row n i ss)
  same_rows g row n i [] told = tt
  same_rows g row n i (s ∷ ss) told = (
    same_so_far g (content start rows row) n i s (spawned_in (slice_get row.streams n)) (omega arith),
    same_rows g row (n + 1) (if is_input s then i + 1 else i) ss (omega arith),
  )

  -- agreement at the nodes of lower layers
  pub agrees : IsAcyclic plan.spec → (g : Stage) → length streams ≤ g.inputs → SameRows rank rows step.time g.layer 0 streams (rows_at g) (full plan start rows step)
  agrees acyclic g told =
      subst (λ ys. SameRows rank rows step.time g.layer 0 streams (rows_so_far plan rows g 0 streams ys) ys) (sym (fixed plan start rows step acyclic))
      (same_rows g (row_of step (full plan start rows step)) 0 0 streams (omega arith))

  falls : HasLayers plan → Falls rank (length streams) (edges_of plan.spec)
  falls layers e c w lt = layers_fall (edges_of plan.spec) rank layers.layers e c w

  same_outcome_at : (d : ℕ) (x y : TableRow) (n i m k j : ℕ) (ss : List Stream) (s : Stream) → k ≡ n + m → j ≡ i + inputs_before ss m → slice_get ss m ≡ Some s
      → SameRows rank rows step.time d n ss (outcomes_from plan start rows step x n i ss) (outcomes_from plan start rows step y n i ss)
      → SameStream rank rows step.time d k s
      (stream_outcome plan start rows step (content start rows x) k j s (spawned_in (slice_get x.streams k)))
      (stream_outcome plan start rows step (content start rows y) k j s (spawned_in (slice_get y.streams k)))
  same_outcome_at d x y n i m k j [] s e f g h = absurd (cc)
  same_outcome_at d x y n i zero k j (r ∷ ss) s e f g h =
      let a : k ≡ n = omega arith in
      let b : j ≡ i = omega arith in
      let c : r ≡ s = cc in
      rw (a, b, ← c) h.0
  same_outcome_at d x y n i (suc m) k j (r ∷ ss) s e f g h =
      same_outcome_at d x y (n + 1) (if is_input r then i + 1 else i) m k j ss s (omega arith) (f ∙ sym (count_more (is_input r) i (inputs_before ss m))) g h.1

  module _ (accepted : IsAccepted plan) (g : Stage) (told : length plan.spec.streams ≤ g.inputs) (n : ℕ) (s : Stream) (at : slice_get plan.spec.streams n ≡ Some s) where
    abbrev reached : Content
    reached = content start rows (row_of step (rows_at g))

    same_found : SameStream rank rows step.time (suc g.layer) n s
        (stream_outcome plan start rows step reached n (inputs_before streams n) s (spawned_in (slice_get (rows_at g) n)))
        (full_at plan start rows step n s)
    same_found =
        same_outcome_at (suc g.layer) (row_of step (rows_at g)) (row_of step (full plan start rows step)) 0 0 n n (inputs_before streams n) streams s (omega arith) (omega arith) at
        (round_same rank plan start rows step g.layer (rows_at g) (full plan start rows step) (falls accepted.layers) (agrees accepted.acyclic g told))

    -- what a spawn clause of this layer did
    pub spawn_found : rank (spawn_node n) ≤ g.layer
        → spawn_outcome plan.spec reached (is_active start step (spawn_pacing (slice_get plan.pacings n))) s.spawn (survivors n s (last_row rows)) ≡ (full_at plan start rows step n s).spawned
    spawn_found low = same_found.spawned (inr (omega arith))

    -- what the instances of a stream of this layer come to, once it is known what its spawn clause did
    pub living_found : rank (eval_node n) ≤ g.layer → spawned_in (slice_get (rows_at g) n) ≡ spawned_in (slice_get (full plan start rows step) n)
        → (full_at plan start rows step n s).living
        ≡ living_with (λ x. outcome_of plan start rows step reached n (inputs_before streams n) s (spawned_in (slice_get (full plan start rows step) n)) x)
        (survivors n s (last_row rows) ++ newborn (spawned_in (slice_get (full plan start rows step) n)) (survivors n s (last_row rows)) (length rows))
    living_found low known =
        sym (same_found.living (omega arith))
        ∙ ap (λ sp. living_with (λ x. outcome_of plan start rows step reached n (inputs_before streams n) s sp x) (survivors n s (last_row rows) ++ newborn sp (survivors n s (last_row rows)) (length rows))) known
