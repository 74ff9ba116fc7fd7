-- What a question asks is open and of lower rank.
use Rattle.std.proofs.Common.{◌≡◌, ◌∙◌, refl, sym, ap, subst, inl, inr, ℕ, zero, suc, ◌+◌, ◌*◌, ◌<◌, ◌≤◌, ◌-◌, pos, List, [], ◌∷◌, ◌++◌, Option, Some, None, Bool, true, false, if◌then◌else◌, not, ◌&&◌, Result, Ok, Err, arith, slice_get}
use Rattle.std.specs.List.{AllByRecursion, Contains}
use Rattle.std.proofs.lemmas.List.Elements.{Contains-append_right}
use Rattle.lola_value.specs.declared.text.Field.{Field}
use Rattle.lola_value.specs.declared.text.Field.TheVariants as field
use Rattle.lola_value.specs.Answer.{Answer, Given, Missing, Faulted, Poisoned}
use Rattle.lola_value.specs.Arithmetic.{all_equal}
use Rattle.lola_model.specs.Activity.{is_active_for}
use Rattle.lola_model.specs.Content.{is_bad}
use Rattle.lola_model.specs.Denotation.{target_kind}
use Rattle.lola_model.specs.Graph.{IsLayer, clause_reads, edges_from, edges_of, eval_node, spawn_node, reads, to_spawn, weight_of, when_reads, window_edge, with_reads}
use Rattle.lola_model.specs.Model.{eval_pacing, input_outcome, is_input}
use Rattle.lola_model.specs.Table.{Step, Idle}
use Rattle.lola_model.specs.declared.expr.Access.{Access}
use Rattle.lola_model.specs.declared.expr.Access.TheVariants as access
use Rattle.lola_model.specs.declared.expr.Expr.{Expr}
use Rattle.lola_model.specs.declared.graph.Edge.{Edge}
use Rattle.lola_model.specs.declared.plan.Plan.{Plan}
use Rattle.lola_model.specs.declared.spec.Clause.{Clause}
use Rattle.lola_model.specs.declared.spec.Stream.{Stream}
use Rattle.lola_model.specs.declared.spec.WindowSpec.{WindowSpec}
use Rattle.lola_replay_table.specs.Answers.{kept_spawn}
use Rattle.lola_replay_table.specs.Clauses.{SpawnTry, clause_tried, eval_tried, expr_tried, first_tried, instance_tried, outcome_tried, params_tried, spawn_clause_tried, then_guarded, then_named, then_spawn, when_tried}
use Rattle.lola_replay_table.specs.Open.{IsOpen, rank_of, spawn_rank, stream_spawn_rank}
use Rattle.lola_replay_table.specs.Tries.{Try, found, read_at, read_in, window_at, window_in, window_of_spec}
use Rattle.lola_replay_table.specs.declared.question.Question.{Question}
use Rattle.lola_replay_table.specs.declared.question.Question.TheVariants.{SpawnOf}
use Rattle.lola_replay_table.specs.declared.table.KeptSpawn.{KeptSpawn}
use Rattle.lola_replay_table.specs.declared.table.KnownLife.{KnownLife}
use Rattle.lola_replay_table.specs.declared.table.KnownStream.{KnownStream}
use Rattle.lola_model.proofs.Layers.{layers_fall}
use Rattle.lola_replay_step.proofs.AskLemmas.{Asks, all-left, all-right, argument-asks, known-asks, try-asks}
use Rattle.lola_replay_step.proofs.OpenLemmas.{AsksOf, read-asks, window-asks}

-- the instance that is found stands at its place
found-if : (b : Bool) (p : List Field) (at : ℕ) (l : KnownLife) (ls : List KnownLife) (f : ℕ × KnownLife)
    → (found p (at + 1) ls ≡ Some f → (at + 1 ≤ f.0) × (slice_get ls (f.0 - (at + 1)) ≡ Some f.1))
    → (if b then Some (at, l) else found p (at + 1) ls) ≡ Some f → (at ≤ f.0) × (slice_get (l ∷ ls) (f.0 - at) ≡ Some f.1)
found-if true p at l ls f rest e =
    let same : (at, l) ≡ f = cc e in
    let place : at ≡ f.0 = ap (λ (g : ℕ × KnownLife). g.0) same in
    let zero-is : f.0 - at ≡ 0 = omega arith in
    (omega arith, ap (slice_get (l ∷ ls)) zero-is ∙ ap (λ (g : ℕ × KnownLife). Some g.1) same)
found-if false p at l ls f rest e =
    let r = rest e in
    let low = r.0 in
    let next : f.0 - at ≡ suc (f.0 - (at + 1)) = omega (arith, low) in
    (omega (arith, low), ap (slice_get (l ∷ ls)) next ∙ r.1)

pub found-there : (p : List Field) (at : ℕ) (ls : List KnownLife) (f : ℕ × KnownLife) → found p at ls ≡ Some f → (at ≤ f.0) × (slice_get ls (f.0 - at) ≡ Some f.1)
found-there p at [] f e = absurd (cc e)
found-there p at (l ∷ ls) f e = found-if (all_equal p l.params) p at l ls f (found-there p (at + 1) ls f) e

-- along an edge of weight 0 the layer falls
abbrev pub Descends : (ℕ → ℕ) → Edge → Type 0
Descends layer e = e.weight ≡ pos 0 → layer e.to < layer e.from

-- an edge of weight 0 leads to a lower layer
abbrev pub IsLower : (ℕ → ℕ) → Edge → Type 0
IsLower layer e = e.weight ≡ pos 0 → layer e.to < layer e.from

-- what is so of each edge that a list contains is so of all
all-contained : (P : Edge → Type 0) (es : List Edge) → ((e : Edge) → Contains es e → P e) → AllByRecursion P es
all-contained P [] each = tt
all-contained P (e ∷ es) each = (each e (0, omega arith, refl), all-contained P es (λ f c. each f (Contains-append_right (e ∷ []) es f c)))

-- the edges of a stream lead to lower layers
pub record LowStream (layer : ℕ → ℕ) (ws : List WindowSpec) (n : ℕ) (s : Stream) : Type 0 where
  pub to_spawn : AllByRecursion (IsLower layer) (to_spawn n s.spawn)
  pub spawn : AllByRecursion (IsLower layer) (clause_reads ws (spawn_node n) s.spawn)
  pub eval : AllByRecursion (IsLower layer) (clause_reads ws (eval_node n) s.eval)

module _ (layer : ℕ → ℕ) (ws : List WindowSpec) where
  low-from : (n : ℕ) (ss : List Stream) → AllByRecursion (IsLower layer) (edges_from ws n ss) → (m k : ℕ) (s : Stream) → k ≡ n + m → slice_get ss m ≡ Some s → LowStream layer ws k s
  low-from n [] all m k s is at = absurd (cc at)
  low-from n (s' ∷ ss) all zero k s is at =
      let here : s' ≡ s = cc at in
      let place : n ≡ k = omega (arith, is) in
      let rest = all-right (IsLower layer) (to_spawn n s'.spawn) (clause_reads ws (spawn_node n) s'.spawn ++ (clause_reads ws (eval_node n) s'.eval ++ edges_from ws (n + 1) ss)) all in
      let more = all-right (IsLower layer) (clause_reads ws (spawn_node n) s'.spawn) (clause_reads ws (eval_node n) s'.eval ++ edges_from ws (n + 1) ss) rest in
      let low : LowStream layer ws n s' = record {
        to_spawn = all-left (IsLower layer) (to_spawn n s'.spawn) (clause_reads ws (spawn_node n) s'.spawn ++ (clause_reads ws (eval_node n) s'.eval ++ edges_from ws (n + 1) ss)) all;
        spawn = all-left (IsLower layer) (clause_reads ws (spawn_node n) s'.spawn) (clause_reads ws (eval_node n) s'.eval ++ edges_from ws (n + 1) ss) rest;
        eval = all-left (IsLower layer) (clause_reads ws (eval_node n) s'.eval) (edges_from ws (n + 1) ss) more;
      } in
      subst (λ j. LowStream layer ws j s) place (subst (LowStream layer ws n) here low)
  low-from n (s' ∷ ss) all (suc m) k s is at =
      let rest = all-right (IsLower layer) (to_spawn n s'.spawn) (clause_reads ws (spawn_node n) s'.spawn ++ (clause_reads ws (eval_node n) s'.eval ++ edges_from ws (n + 1) ss)) all in
      let more = all-right (IsLower layer) (clause_reads ws (spawn_node n) s'.spawn) (clause_reads ws (eval_node n) s'.eval ++ edges_from ws (n + 1) ss) rest in
      low-from (n + 1) ss (all-right (IsLower layer) (clause_reads ws (eval_node n) s'.eval) (edges_from ws (n + 1) ss) more) m k s (omega (arith, is)) at

-- each stream's edges, where the layers are those of the graph
pub low-streams : (plan : Plan) (layer : ℕ → ℕ) → ((n : ℕ) → IsLayer (edges_of plan.spec) n (layer n)) → (n : ℕ) (s : Stream) → slice_get plan.spec.streams n ≡ Some s → LowStream layer plan.spec.windows n s
low-streams plan layer is n s at =
    low-from layer plan.spec.windows 0 plan.spec.streams (all-contained (IsLower layer) (edges_of plan.spec) (λ e c w. layers_fall (edges_of plan.spec) layer is e c w)) n n s (omega arith) at

-- so a spawn clause is of lower rank than the instances
pub spawn-low : (layer : ℕ → ℕ) (n : ℕ) (o : Option Clause) → AllByRecursion (IsLower layer) (to_spawn n o) → spawn_rank (layer (spawn_node n)) o < 2 * layer (eval_node n) + 1
spawn-low layer n None low = omega arith
spawn-low layer n (Some k) low = let less : layer (spawn_node n) < layer (eval_node n) = low.0 refl in omega (arith, less)

pub spawns-low : (plan : Plan) (layer : ℕ → ℕ) → ((n : ℕ) → IsLayer (edges_of plan.spec) n (layer n)) → (n : ℕ) → stream_spawn_rank (layer (spawn_node n)) (slice_get plan.spec.streams n) < 2 * layer (eval_node n) + 1
spawns-low plan layer is n = go (slice_get plan.spec.streams n) refl
  where
    go : (o : Option Stream) → slice_get plan.spec.streams n ≡ o → stream_spawn_rank (layer (spawn_node n)) o < 2 * layer (eval_node n) + 1
    go None at = omega arith
    go (Some s) at = spawn-low layer n s.spawn (low-streams plan layer is n s at).to_spawn

guarded-asks : (P : Question → Type 0) (r s : Try) → Asks P r → Asks P s → Asks P (then_guarded r s)
guarded-asks P (Err o) s hr hs = hr
guarded-asks P (Ok (Given (field.Bool true))) s hr hs = hs
guarded-asks P (Ok (Given (field.Bool false))) s hr hs = known-asks P _
guarded-asks P (Ok (Given (field.Int z))) s hr hs = known-asks P _
guarded-asks P (Ok (Given (field.Text t))) s hr hs = known-asks P _
guarded-asks P (Ok (Given field.Absent)) s hr hs = known-asks P _
guarded-asks P (Ok Missing) s hr hs = known-asks P _
guarded-asks P (Ok (Faulted k)) s hr hs = known-asks P _
guarded-asks P (Ok Poisoned) s hr hs = known-asks P _

same-question : (o q : Question) → (let r : Try = Err o in r) ≡ Err q → o ≡ q
same-question o q e = cc e

spawn-asks : (P : Question → Type 0) (r : Try) (s : SpawnTry) → Asks P r → Asks P s → Asks P (then_spawn r s)
spawn-asks P (Err o) s hr hs = λ q e. hr q (ap (λ x. Err x) (inner o q e))
  where
    inner : (o q : Question) → (let x : SpawnTry = Err o in x) ≡ Err q → o ≡ q
    inner o q e = cc e
spawn-asks P (Ok (Given (field.Bool true))) s hr hs = hs
spawn-asks P (Ok (Given (field.Bool false))) s hr hs = known-asks P _
spawn-asks P (Ok (Given (field.Int z))) s hr hs = known-asks P _
spawn-asks P (Ok (Given (field.Text t))) s hr hs = known-asks P _
spawn-asks P (Ok (Given field.Absent)) s hr hs = known-asks P _
spawn-asks P (Ok Missing) s hr hs = known-asks P _
spawn-asks P (Ok (Faulted k)) s hr hs = known-asks P _
spawn-asks P (Ok Poisoned) s hr hs = known-asks P _

named-asks : (P : Question → Type 0) (r : Result (Result (List Field) Answer) Question) (lives : List KnownLife) → Asks P r → Asks P (then_named r lives)
named-asks P (Err o) lives hr = λ q e. hr q (ap (λ x. Err x) (inner o q e))
  where
    inner : (o q : Question) → (let x : SpawnTry = Err o in x) ≡ Err q → o ≡ q
    inner o q e = cc e
named-asks P (Ok (Ok p)) lives hr = known-asks P _
named-asks P (Ok (Err a)) lives hr = known-asks P _

module _ (layer : ℕ → ℕ) (plan : Plan) (start : ℕ) (step : Step) (known : List KnownStream) where
  -- a question that is open, and of lower rank than this
  abbrev pub Below : ℕ → Question → Type 0
  Below bound q = IsOpen known q × (rank_of layer plan.spec.streams q < bound)

  -- a stream's spawn clause is of lower rank than its instances
  abbrev pub IsSpawnLow : ℕ → Type 0
  IsSpawnLow n = stream_spawn_rank (layer (spawn_node n)) (slice_get plan.spec.streams n) < 2 * layer (eval_node n) + 1

  of-stream : (n bound : ℕ) (p : List Field) (k : KnownStream) → slice_get known n ≡ Some k → IsSpawnLow n → 2 * layer (eval_node n) + 1 < bound
      → (q : Question) → AsksOf n p k q → Below bound q
  of-stream n bound p k at low under q (inl asks) =
      subst (Below bound) (sym asks.is)
      (record { stream = k; at = at; unanswered = asks.open-yet }, (let a = low in let b = under in omega (arith, a, b)))
  of-stream n bound p k at low under q (inr asks) =
      let there = found-there p 0 k.lives asks.found-is asks.there in
      let same : asks.found-is.0 - 0 ≡ asks.found-is.0 = omega arith in
      subst (Below bound) (sym asks.is)
      (record { stream = k; at = at; life = asks.found-is.1; there = ap (slice_get k.lives) (sym same) ∙ there.1; unanswered = asks.open-yet }, under)

  module _ (spawns : (n : ℕ) → IsSpawnLow n) where
    module _ (from bound : ℕ) (above : (n : ℕ) → layer (eval_node n) < layer from → 2 * layer (eval_node n) + 1 < bound) where
      asks-stream : (how : Access) (n : ℕ) (p : List Field) (o : Option KnownStream) → slice_get known n ≡ o → (weight_of how ≡ pos 0 → layer (eval_node n) < layer from)
          → Asks (Below bound) (read_at how n p o)
      asks-stream how n p None at good = known-asks (Below bound) _
      asks-stream access.Direct n p (Some k) at good = λ q e. of-stream n bound p k at (spawns n) (above n (good refl)) q (read-asks n p k access.Direct q e)
      asks-stream access.Get n p (Some k) at good = λ q e. of-stream n bound p k at (spawns n) (above n (good refl)) q (read-asks n p k access.Get q e)
      asks-stream access.Hold n p (Some k) at good = λ q e. of-stream n bound p k at (spawns n) (above n (good refl)) q (read-asks n p k access.Hold q e)
      asks-stream (access.Offset d) n p (Some k) at good = known-asks (Below bound) _

      asks-target : (w : WindowSpec) (p : List Field) (o : Option KnownStream) → slice_get known w.target ≡ o → layer (eval_node w.target) < layer from
          → Asks (Below bound) (window_at start step.time w (target_kind plan.spec.streams w) p o)
      asks-target w p None at good = known-asks (Below bound) _
      asks-target w p (Some k) at good =
          λ q e. of-stream w.target bound p k at (spawns w.target) (above w.target good) q (window-asks start step.time w (target_kind plan.spec.streams w) p k q e)

      asks-window : (o : Option WindowSpec) (p : List Field) → AllByRecursion (IsLower layer) (window_edge from o) → Asks (Below bound) (window_of_spec plan.spec start step.time known o p)
      asks-window None p good = known-asks (Below bound) _
      asks-window (Some w) p good = asks-target w p (slice_get known w.target) refl (good.0 refl)

      expr-asks : (p : List Field) (e : Expr) → AllByRecursion (IsLower layer) (reads plan.spec.windows from e) → Asks (Below bound) (expr_tried plan start step known p e)
      expr-asks p e good =
          try-asks (Below bound) plan.spec from (IsLower layer) (read_in plan.spec start step.time known) (window_in plan.spec start step.time known)
          (λ how n vs low. asks-stream how n vs (slice_get known n) refl low) (λ w vs low. asks-window (slice_get plan.spec.windows w) vs low) p e good

      pub when-asks : (p : List Field) (o : Option Expr) → AllByRecursion (IsLower layer) (when_reads plan.spec.windows from o) → Asks (Below bound) (when_tried plan start step known p o)
      when-asks p None good = known-asks (Below bound) _
      when-asks p (Some e) good = expr-asks p e good

      first-asks : (p : List Field) (es : List Expr) → AllByRecursion (IsLower layer) (with_reads plan.spec.windows from es) → Asks (Below bound) (first_tried plan start step known p es)
      first-asks p [] good = known-asks (Below bound) _
      first-asks p (e ∷ es) good = expr-asks p e (all-left (IsLower layer) (reads plan.spec.windows from e) (with_reads plan.spec.windows from es) good)

      params-asks : (es : List Expr) → AllByRecursion (IsLower layer) (with_reads plan.spec.windows from es) → Asks (Below bound) (params_tried plan start step known es)
      params-asks [] good = known-asks (Below bound) _
      params-asks (e ∷ es) good =
          argument-asks (Below bound) (expr_tried plan start step known [] e) (params_tried plan start step known es)
          (expr-asks [] e (all-left (IsLower layer) (reads plan.spec.windows from e) (with_reads plan.spec.windows from es) good))
          (params-asks es (all-right (IsLower layer) (reads plan.spec.windows from e) (with_reads plan.spec.windows from es) good))

      eval-asks : (bad active : Bool) (o : Option Clause) (p : List Field) → AllByRecursion (IsLower layer) (clause_reads plan.spec.windows from o) → Asks (Below bound) (eval_tried plan start step known bad active o p)
      eval-asks bad active None p good = known-asks (Below bound) _
      eval-asks bad active (Some k) p good = go (not bad && active)
        where
          go : (b : Bool) → Asks (Below bound) (if b then clause_tried plan start step known p k else Ok Missing)
          go true =
              guarded-asks (Below bound) (when_tried plan start step known p k.when) (first_tried plan start step known p k.with)
              (when-asks p k.when (all-left (IsLower layer) (when_reads plan.spec.windows from k.when) (with_reads plan.spec.windows from k.with) good))
              (first-asks p k.with (all-right (IsLower layer) (when_reads plan.spec.windows from k.when) (with_reads plan.spec.windows from k.with) good))
          go false = known-asks (Below bound) _

      clause-asks : (active : Bool) (o : Option Clause) (lives : List KnownLife) → AllByRecursion (IsLower layer) (clause_reads plan.spec.windows from o) → Asks (Below bound) (spawn_clause_tried plan start step known active o lives)
      clause-asks active None lives good = known-asks (Below bound) _
      clause-asks active (Some k) lives good = go active
        where
          go : (b : Bool) → Asks (Below bound) (if b then then_spawn (when_tried plan start step known [] k.when) (then_named (params_tried plan start step known k.with) lives) else Ok Idle)
          go true =
              spawn-asks (Below bound) (when_tried plan start step known [] k.when) (then_named (params_tried plan start step known k.with) lives)
              (when-asks [] k.when (all-left (IsLower layer) (when_reads plan.spec.windows from k.when) (with_reads plan.spec.windows from k.with) good))
              (named-asks (Below bound) (params_tried plan start step known k.with) lives
              (params-asks k.with (all-right (IsLower layer) (when_reads plan.spec.windows from k.when) (with_reads plan.spec.windows from k.with) good)))
          go false = known-asks (Below bound) _

    -- what an instance of a stream asks
    pub outcome-asks : (n : ℕ) (s : Stream) (k : KnownStream) (l : KnownLife) → slice_get known n ≡ Some k
        → AllByRecursion (IsLower layer) (clause_reads plan.spec.windows (eval_node n) s.eval)
        → Asks (Below (2 * layer (eval_node n) + 1)) (outcome_tried plan start step known n s k l)
    outcome-asks n s k l at good = by-sort (is_input s)
      where
        by-spawn : (o : Option KeptSpawn) → k.spawned ≡ o → Asks (Below (2 * layer (eval_node n) + 1)) (instance_tried plan start step known n s o l)
        by-spawn None none = λ q e. subst (Below (2 * layer (eval_node n) + 1)) (same-question (SpawnOf n) q e) (record { stream = k; at = at; unanswered = none }, spawns n)
        by-spawn (Some sp) some =
            eval-asks (eval_node n) (2 * layer (eval_node n) + 1) (λ m low. omega (arith, low)) (is_bad (kept_spawn sp))
            (is_active_for start l.born step (eval_pacing (slice_get plan.pacings n))) s.eval l.params good

        by-sort : (b : Bool) → Asks (Below (2 * layer (eval_node n) + 1)) (if b then Ok (input_outcome k.input step.fields) else instance_tried plan start step known n s k.spawned l)
        by-sort true = known-asks (Below (2 * layer (eval_node n) + 1)) _
        by-sort false = by-spawn k.spawned refl

    -- what a spawn clause asks
    pub spawn-clause-asks : (n : ℕ) (active : Bool) (o : Option Clause) (lives : List KnownLife)
        → AllByRecursion (IsLower layer) (clause_reads plan.spec.windows (spawn_node n) o)
        → Asks (Below (spawn_rank (layer (spawn_node n)) o)) (spawn_clause_tried plan start step known active o lives)
    spawn-clause-asks n active None lives good = known-asks (Below 0) _
    spawn-clause-asks n active (Some k) lives good = clause-asks (spawn_node n) (2 * layer (spawn_node n)) (λ m low. omega (arith, low)) active (Some k) lives good
