-- What streams do in a step, whatever the addresses of boxes.
use mathlib.Core.Path.{fun_ext}
use Rattle.std.proofs.Common.{◌≡◌, refl, ap, ap₂, ◌∙◌, ℕ, zero, suc, ◌+◌, List, [], ◌∷◌, ◌++◌, Option, Some, None, map, if◌then◌else◌, slice_get, option_map, length}
use Rattle.lola_value.specs.declared.value.FaultKind.{FaultKind}
use Rattle.lola_value.specs.Answer.{Answer, Poisoned}
use Rattle.lola_model.specs.Activity.{is_active, is_active_for}
use Rattle.lola_model.specs.Content.{Content, content, is_bad, time_of}
use Rattle.lola_model.specs.Graph.{nodes_from, nodes_of, eval_node, spawn_nodes}
use Rattle.lola_model.specs.Model.{add_closed, add_fault, answered, asked, asked_to_close, close_faults_among, closed_among, closes_from, closing, eval_pacing, evaluated, has_evaluation_fault, input_outcome, is_input, last_row, newborn, outcome_of, outcomes_from, spawn_outcome, spawn_pacing, spawned_in, stream_outcome, survivors, the_instance, unknown_from, unknown_spawned, unknown_stream}
use Rattle.lola_model.specs.Table.{Instance, Living, Spawned, Step, StreamRow, TableRow}
use Rattle.lola_model.specs.declared.plan.Plan.{Plan}
use Rattle.lola_model.specs.declared.spec.Clause.{Clause}
use Rattle.lola_model.specs.declared.spec.Spec.{Spec}
use Rattle.lola_model.specs.declared.spec.Stream.{Stream}
use Rattle.lola_front_law.specs.Alike.{plain_clause, plain_plan, plain_spec, plain_stream}
use Rattle.lola_front_law.proofs.PlainExpressions.{same_close, same_eval, same_spawn}

-- ---- who lives

born_with : (o : Option Clause) → elim (option_map plain_clause o) as (λ x. List Instance) [ None ↦ the_instance ∷ [] | Some k ↦ [] ] ≡ elim o as (λ x. List Instance) [ None ↦ the_instance ∷ [] | Some k ↦ [] ]
born_with None = refl
born_with (Some k) = refl

pub same_survivors : (n : ℕ) (s : Stream) (o : Option TableRow) → survivors n (plain_stream s) o ≡ survivors n s o
same_survivors n s None = born_with s.spawn
same_survivors n s (Some row) = refl

-- ---- graph

same_nodes_of : (n : ℕ) (o : Option Clause) → spawn_nodes n (option_map plain_clause o) ≡ spawn_nodes n o
same_nodes_of n None = refl
same_nodes_of n (Some k) = refl

same_nodes : (n : ℕ) (ss : List Stream) → nodes_from n (map plain_stream ss) ≡ nodes_from n ss
same_nodes n [] = refl
same_nodes n (s ∷ ss) = ap₂ (λ (xs ys : List ℕ). eval_node n ∷ (xs ++ ys)) (same_nodes_of n s.spawn) (same_nodes (n + 1) ss)

-- ---- rows

same_unknown_spawned : (o : Option Clause) → unknown_spawned (option_map plain_clause o) ≡ unknown_spawned o
same_unknown_spawned None = refl
same_unknown_spawned (Some k) = refl

module _ (plan : Plan) (start : ℕ) (rows : List TableRow) (step : Step) where
  same_outcome : (c : Content) (n i : ℕ) (s : Stream) (spawned : Spawned) (x : Instance)
      → outcome_of (plain_plan plan) start rows step c n i (plain_stream s) spawned x ≡ outcome_of plan start rows step c n i s spawned x
  same_outcome c n i s spawned x =
      ap (λ (a : Answer). if is_input s then input_outcome i step.fields else a)
      (same_eval plan.spec c (is_bad spawned) (is_active_for start (time_of step.time (slice_get rows x.born)) step (eval_pacing (slice_get plan.pacings n))) s.eval x.params)

  -- a stream's row, by what its spawn clause does, how its instances come out, and who lives
  abbrev row_by : Spawned → (Instance → Answer) → Spawned → List Instance → StreamRow
  row_by did outcome spawned alive =
      record {
        spawned = did;
        living = map (λ x. record { instance = x; outcome = outcome x }) (alive ++ newborn spawned alive (length rows));
        closed = [];
        close_faults = [];
      }

  same_stream : (c : Content) (n i : ℕ) (s : Stream) (spawned : Spawned)
      → stream_outcome (plain_plan plan) start rows step c n i (plain_stream s) spawned ≡ stream_outcome plan start rows step c n i s spawned
  same_stream c n i s spawned =
      let active = is_active start step (spawn_pacing (slice_get plan.pacings n)) in
      let after = last_row rows in
      ap (λ (alive : List Instance). row_by (spawn_outcome (plain_spec plan.spec) c active (option_map plain_clause s.spawn) alive) (outcome_of (plain_plan plan) start rows step c n i (plain_stream s) spawned) spawned alive)
      (same_survivors n s after)
      ∙ ap₂ (λ (did : Spawned) (f : Instance → Answer). row_by did f spawned (survivors n s after))
      (same_spawn plan.spec c active s.spawn (survivors n s after)) (fun_ext (same_outcome c n i s spawned))

  same_outcomes : (row : TableRow) (n i : ℕ) (ss : List Stream) → outcomes_from (plain_plan plan) start rows step row n i (map plain_stream ss) ≡ outcomes_from plan start rows step row n i ss
  same_outcomes row n i [] = refl
  same_outcomes row n i (s ∷ ss) =
      ap₂ (λ (r : StreamRow) (rs : List StreamRow). r ∷ rs) (same_stream (content start rows row) n i s (spawned_in (slice_get row.streams n)))
      (same_outcomes row (n + 1) (if is_input s then i + 1 else i) ss)

  pub same_evaluated : (row : TableRow) → evaluated (plain_plan plan) start rows step row ≡ evaluated plan start rows step row
  same_evaluated row = ap (λ (ss : List StreamRow). let r : TableRow = record { step = step; streams = ss } in r) (same_outcomes row 0 0 plan.spec.streams)

  -- where nothing is known
  same_unknown : (n : ℕ) (s : Stream) → unknown_stream (plain_plan plan) start rows step n (plain_stream s) ≡ unknown_stream plan start rows step n s
  same_unknown n s =
      ap₂ (λ (did : Spawned) (alive : List Instance). let r : StreamRow = record { spawned = did; living = map (λ x. record { instance = x; outcome = Poisoned }) alive; closed = []; close_faults = [] } in r)
      (same_unknown_spawned s.spawn) (same_survivors n s (last_row rows))

  same_unknowns : (n : ℕ) (ss : List Stream) → unknown_from (plain_plan plan) start rows step n (map plain_stream ss) ≡ unknown_from plan start rows step n ss
  same_unknowns n [] = refl
  same_unknowns n (s ∷ ss) = ap₂ (λ (r : StreamRow) (rs : List StreamRow). r ∷ rs) (same_unknown n s) (same_unknowns (n + 1) ss)

  same_asked : (depth : ℕ) → asked (plain_plan plan) start rows step depth ≡ asked plan start rows step depth
  same_asked zero = ap (λ (ss : List StreamRow). let r : TableRow = record { step = step; streams = ss } in r) (same_unknowns 0 plan.spec.streams)
  same_asked (suc depth) = same_evaluated (asked (plain_plan plan) start rows step depth) ∙ ap (evaluated plan start rows step) (same_asked depth)

-- ---- closes

module _ (spec : Spec) (c : Content) (o : Option Clause) where
  same_closed : (ls : List Living) → closed_among (plain_spec spec) c (option_map plain_clause o) ls ≡ closed_among spec c o ls
  same_closed [] = refl
  same_closed (l ∷ ls) = ap₂ (λ (a : Answer) (is : List Instance). add_closed a l.instance is) (same_close spec c o l.instance.params) (same_closed ls)

  same_faults : (ls : List Living) → close_faults_among (plain_spec spec) c (option_map plain_clause o) ls ≡ close_faults_among spec c o ls
  same_faults [] = refl
  same_faults (l ∷ ls) = ap₂ add_fault (same_close spec c o l.instance.params) (same_faults ls)

module _ (plan : Plan) (start : ℕ) (rows : List TableRow) where
  same_closes : (row : TableRow) (n : ℕ) (ss : List Stream) (rs : List StreamRow) → closes_from (plain_plan plan) start rows row n (map plain_stream ss) rs ≡ closes_from plan start rows row n ss rs
  same_closes row n [] rs = refl
  same_closes row n (s ∷ ss) [] = refl
  same_closes row n (s ∷ ss) (r ∷ rs) =
      let among = asked_to_close plan start rows row.step n r.living in
      let c = content start rows row in
      ap₂ (λ (q : StreamRow) (qs : List StreamRow). q ∷ qs)
      (ap₂ (λ (is : List Instance) (ks : List FaultKind). record r { closed = is; close_faults = ks }) (same_closed plan.spec c s.close among) (same_faults plan.spec c s.close among))
      (same_closes row (n + 1) ss rs)

  pub same_closing : (row : TableRow) → closing (plain_plan plan) start rows row ≡ closing plan start rows row
  same_closing row =
      ap (λ (ss : List StreamRow). if has_evaluation_fault row.streams then row else record { step = row.step; streams = ss }) (same_closes row 0 plan.spec.streams row.streams)

  -- the equations of a step
  pub same_row : (step : Step) (row : TableRow) → closing (plain_plan plan) start rows (evaluated (plain_plan plan) start rows step row) ≡ closing plan start rows (evaluated plan start rows step row)
  same_row step row = same_closing (evaluated (plain_plan plan) start rows step row) ∙ ap (closing plan start rows) (same_evaluated plan start rows step row)

  -- the row that is made on demand
  pub same_answered : (step : Step) → answered (plain_plan plan) start rows step ≡ answered plan start rows step
  same_answered step =
      same_closing (asked (plain_plan plan) start rows step (length (nodes_of (plain_spec plan.spec))))
      ∙ ap (closing plan start rows)
      (same_asked plan start rows step (length (nodes_of (plain_spec plan.spec)))
      ∙ ap (λ (ns : List ℕ). asked plan start rows step (length ns)) (same_nodes 0 plan.spec.streams))
