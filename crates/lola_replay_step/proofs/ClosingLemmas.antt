-- Once all is answered a close condition asks nothing, and comes to what it comes to over the content of the row.
use Rattle.std.proofs.Common.{◌≡◌, ◌∙◌, refl, sym, ap, subst, ℕ, ◌-◌, List, [], ◌∷◌, Option, Some, None, Bool, true, false, inl, inr, if◌then◌else◌, ◌||◌, Ok, Err, arith, nat_eq, slice_get}
use Rattle.std.specs.List.{AllByRecursion}
use Rattle.std.proofs.lemmas.Bool.{and_parts, eqb-true}
use Rattle.lola_value.specs.declared.text.Field.{Field}
use Rattle.lola_value.specs.declared.text.Field.TheVariants as field
use Rattle.lola_value.specs.declared.value.FaultKind.{FaultKind}
use Rattle.lola_value.specs.Arithmetic.{all_equal}
use Rattle.lola_value.specs.Answer.{Answer, Given, Missing, Faulted, Poisoned}
use Rattle.lola_model.proofs.Orderly.{IsOneOf, all_exact, instance_self}
use Rattle.lola_model.specs.Accesses.{answer_of}
use Rattle.lola_model.specs.Activity.{is_active_for}
use Rattle.lola_model.specs.Content.{Content, time_of}
use Rattle.lola_model.specs.Denotation.{target_kind, window_of}
use Rattle.lola_model.specs.Faults.{least_kind}
use Rattle.lola_model.specs.Graph.{reads}
use Rattle.lola_model.specs.Model.{add_closed, add_fault, asked_to_close, close_answer, close_faults_among, close_pacing, closed_among, is_closed, is_closing_for}
use Rattle.lola_model.specs.Table.{Step, Instance, is_instance, Living, TableRow}
use Rattle.lola_model.specs.declared.expr.Access.{Access}
use Rattle.lola_model.specs.declared.expr.Access.TheVariants as access
use Rattle.lola_model.specs.declared.expr.Expr.{Expr}
use Rattle.lola_model.specs.declared.graph.Edge.{Edge}
use Rattle.lola_model.specs.declared.plan.Plan.{Plan}
use Rattle.lola_model.specs.declared.spec.Clause.{Clause}
use Rattle.lola_model.specs.declared.spec.Stream.{Stream}
use Rattle.lola_model.specs.declared.spec.WindowSpec.{WindowSpec}
use Rattle.lola_replay_table.specs.Clauses.{close_tried, expr_tried, when_tried}
use Rattle.lola_replay_table.specs.Open.{IsOpen}
use Rattle.lola_replay_table.specs.Tries.{Try, read_at, read_in, window_at, window_in, window_of_spec}
use Rattle.lola_replay_table.specs.declared.question.Question.{Question}
use Rattle.lola_replay_table.specs.declared.table.KnownLife.{KnownLife}
use Rattle.lola_replay_table.specs.declared.table.KnownStream.{KnownStream}
use Rattle.lola_replay_step.specs.Closings.{answer_in, closes_by, closes_to, faulted_of, least_of}
use Rattle.lola_replay_step.proofs.AskLemmas.{Asks, known-asks, try-asks}
use Rattle.lola_replay_step.proofs.ClauseLemmas.{close-right}
use Rattle.lola_replay_step.proofs.OpenLemmas.{AsksOf, read-asks, window-asks}
use Rattle.lola_replay_step.proofs.Ranks.{found-there}
use Rattle.lola_replay_step.proofs.TryLemmas.{Answers}

module _ (plan : Plan) (start : ℕ) (step : Step) (known : List KnownStream) where
  -- what is asked of a stream is open
  of-stream : (n : ℕ) (p : List Field) (k : KnownStream) → slice_get known n ≡ Some k → (q : Question) → AsksOf n p k q → IsOpen known q
  of-stream n p k at q (inl asks) = subst (IsOpen known) (sym asks.is) (record { stream = k; at = at; unanswered = asks.open-yet })
  of-stream n p k at q (inr asks) =
      let there = found-there p 0 k.lives asks.found-is asks.there in
      let same : asks.found-is.0 - 0 ≡ asks.found-is.0 = omega arith in
      subst (IsOpen known) (sym asks.is)
      (record { stream = k; at = at; life = asks.found-is.1; there = ap (slice_get k.lives) (sym same) ∙ there.1; unanswered = asks.open-yet })

  reads-open : (how : Access) (n : ℕ) (p : List Field) (o : Option KnownStream) → slice_get known n ≡ o → Asks (IsOpen known) (read_at how n p o)
  reads-open how n p None at = known-asks (IsOpen known) _
  reads-open access.Direct n p (Some k) at = λ q e. of-stream n p k at q (read-asks n p k access.Direct q e)
  reads-open access.Get n p (Some k) at = λ q e. of-stream n p k at q (read-asks n p k access.Get q e)
  reads-open access.Hold n p (Some k) at = λ q e. of-stream n p k at q (read-asks n p k access.Hold q e)
  reads-open (access.Offset d) n p (Some k) at = known-asks (IsOpen known) _

  target-open : (w : WindowSpec) (p : List Field) (o : Option KnownStream) → slice_get known w.target ≡ o → Asks (IsOpen known) (window_at start step.time w (target_kind plan.spec.streams w) p o)
  target-open w p None at = known-asks (IsOpen known) _
  target-open w p (Some k) at = λ q e. of-stream w.target p k at q (window-asks start step.time w (target_kind plan.spec.streams w) p k q e)

  windows-open : (o : Option WindowSpec) (p : List Field) → Asks (IsOpen known) (window_of_spec plan.spec start step.time known o p)
  windows-open None p = known-asks (IsOpen known) _
  windows-open (Some w) p = target-open w p (slice_get known w.target) refl

  abbrev any-edge : Edge → Type 0
  any-edge e = Unit {0}

  all-edges : (es : List Edge) → AllByRecursion any-edge es
  all-edges [] = tt
  all-edges (e ∷ es) = (tt, all-edges es)

  expr-open : (p : List Field) (e : Expr) → Asks (IsOpen known) (expr_tried plan start step known p e)
  expr-open p e =
      try-asks (IsOpen known) plan.spec 0 any-edge (read_in plan.spec start step.time known) (window_in plan.spec start step.time known)
      (λ how n vs low. reads-open how n vs (slice_get known n) refl) (λ w vs low. windows-open (slice_get plan.spec.windows w) vs) p e (all-edges (reads plan.spec.windows 0 e))

  -- and what a close condition asks
  pub close-open : (o : Option Clause) (p : List Field) → Asks (IsOpen known) (close_tried plan start step known o p)
  close-open None p = known-asks (IsOpen known) _
  close-open (Some k) p = of-when k.when
    where
      of-when : (o : Option Expr) → Asks (IsOpen known) (when_tried plan start step known p o)
      of-when None = known-asks (IsOpen known) _
      of-when (Some e) = expr-open p e

  module _ (none : (q : Question) → ¬ (IsOpen known q)) (c : Content)
      (reading : (how : Access) (m : ℕ) (p : List Field) → Answers (read_in plan.spec start step.time known how m p) (answer_of c how m p))
      (windows : (w : ℕ) (p : List Field) → Answers (window_in plan.spec start step.time known w p) (window_of plan.spec c (slice_get plan.spec.windows w) p)) where
    close-known : (o : Option Clause) (p : List Field) → answer_in (close_tried plan start step known o p) ≡ close_answer plan.spec c o p
    close-known o p = go (close_tried plan start step known o p) (close-open o p) (close-right plan start step known c reading windows o p)
      where
        go : (t : Try) → Asks (IsOpen known) t → Answers t (close_answer plan.spec c o p) → answer_in t ≡ close_answer plan.spec c o p
        go (Ok a) asks answers = sym (answers a refl)
        go (Err q) asks answers = absurd (none q (asks q refl))

    -- what an instance's close clause comes to: nothing, where it is not active
    abbrev pub closes : List TableRow → ℕ → Stream → Instance → Answer
    closes rows n s x = if is_closing_for plan start rows step n x then close_answer plan.spec c s.close x.params else Missing

    pub closes-known : (rows : List TableRow) (n : ℕ) (s : Stream) (x : Instance) (k : KnownLife) → k.params ≡ x.params → k.born ≡ time_of step.time (slice_get rows x.born)
        → closes_to plan start step known n s k ≡ closes rows n s x
    closes-known rows n s x k params born =
        ap (λ b. answer_in (if is_active_for start b step (close_pacing (slice_get plan.pacings n)) then close_tried plan start step known s.close k.params else Ok Missing)) born
        ∙ ap (λ (p : List Field). answer_in (if is_closing_for plan start rows step n x then close_tried plan start step known s.close p else Ok Missing)) params
        ∙ go (is_closing_for plan start rows step n x)
      where
        go : (b : Bool) → answer_in (if b then close_tried plan start step known s.close x.params else Ok Missing) ≡ (if b then close_answer plan.spec c s.close x.params else Missing)
        go true = close-known s.close x.params
        go false = refl

-- two that are the same instance are equal
same-instance : (x y : Instance) → is_instance x y ≡ true → x ≡ y
same-instance x y e =
    let h = and_parts (nat_eq x.born y.born) (all_equal x.params y.params) e in
    ap (λ (b : ℕ). record { params = x.params; born = b }) (eqb-true x.born y.born h.0)
    ∙ ap (λ (p : List Field). record { params = p; born = y.born }) (all_exact x.params y.params h.1)

-- the instances of a row
abbrev pub instances_of : List Living → List Instance
instances_of [] = []
instances_of (l ∷ ls) = l.instance ∷ instances_of ls

-- the instances that a close clause closes

module _ (closes : Instance → Answer) where
  abbrev pub closed_list : List Living → List Instance
  closed_list [] = []
  closed_list (l ∷ ls) = if closes_by (closes l.instance) then l.instance ∷ closed_list ls else closed_list ls

  -- and the least of its faults
  abbrev pub least_list : List Living → Option FaultKind
  least_list [] = None
  least_list (l ∷ ls) = least_of (faulted_of (closes l.instance)) (least_list ls)

  not-among : (x : Instance) → closes_by (closes x) ≡ false → (ls : List Living) → is_closed (closed_list ls) x ≡ false
  not-among x miss [] = refl
  not-among x miss (l ∷ ls) = go (not-among x miss ls) (closes_by (closes l.instance)) refl
    where
      other : is_closed (closed_list ls) x ≡ false → (b : Bool) → is_instance l.instance x ≡ b → closes_by (closes l.instance) ≡ true → (b || is_closed (closed_list ls) x) ≡ false
      other rest true same hit =
          let both : true ≡ false = sym hit ∙ ap (λ y. closes_by (closes y)) (same-instance l.instance x same) ∙ miss in
          absurd (cc both)
      other rest false same hit = rest

      go : is_closed (closed_list ls) x ≡ false → (b : Bool) → closes_by (closes l.instance) ≡ b → is_closed (if b then l.instance ∷ closed_list ls else closed_list ls) x ≡ false
      go rest true hit = other rest (is_instance l.instance x) refl hit
      go rest false hit = rest

  among : (x : Instance) → closes_by (closes x) ≡ true → (ls : List Living) → IsOneOf x (instances_of ls) → is_closed (closed_list ls) x ≡ true
  among x hit [] one = absurd one
  among x hit (l ∷ ls) (inl same) =
      ap (λ b. is_closed (if b then l.instance ∷ closed_list ls else closed_list ls) x) (ap (λ y. closes_by (closes y)) same ∙ hit)
      ∙ ap (λ b. b || is_closed (closed_list ls) x) (ap (λ y. is_instance y x) same ∙ instance_self x)
  among x hit (l ∷ ls) (inr one) = go (closes_by (closes l.instance)) (among x hit ls one)
    where
      either : (b : Bool) → is_closed (closed_list ls) x ≡ true → (b || is_closed (closed_list ls) x) ≡ true
      either true e = refl
      either false e = e

      go : (b : Bool) → is_closed (closed_list ls) x ≡ true → is_closed (if b then l.instance ∷ closed_list ls else closed_list ls) x ≡ true
      go true e = either (is_instance l.instance x) e
      go false e = e

  -- of these an instance is closed as its own clause says
  pub is-closed : (x : Instance) (ls : List Living) → IsOneOf x (instances_of ls) → is_closed (closed_list ls) x ≡ closes_by (closes x)
  is-closed x ls one = go (closes_by (closes x)) refl
    where
      go : (b : Bool) → closes_by (closes x) ≡ b → is_closed (closed_list ls) x ≡ b
      go true hit = among x hit ls one
      go false miss = not-among x miss ls

-- what the model says of the closes of a stream

added : (a : Answer) (i : Instance) (is : List Instance) → add_closed a i is ≡ (if closes_by a then i ∷ is else is)
added (Given (field.Bool true)) i is = refl
added (Given (field.Bool false)) i is = refl
added (Given (field.Int z)) i is = refl
added (Given (field.Text t)) i is = refl
added (Given field.Absent) i is = refl
added Missing i is = refl
added (Faulted k) i is = refl
added Poisoned i is = refl

added-fault : (a : Answer) (ks : List FaultKind) → least_kind (add_fault a ks) ≡ least_of (faulted_of a) (least_kind ks)
added-fault (Given v) ks = refl
added-fault Missing ks = refl
added-fault (Faulted k) ks = refl
added-fault Poisoned ks = refl

module _ (plan : Plan) (start : ℕ) (rows : List TableRow) (step : Step) (n : ℕ) (s : Stream) (c : Content) where
  -- what a close clause comes to for an instance
  abbrev pub closing_of : Instance → Answer
  closing_of x = if is_closing_for plan start rows step n x then close_answer plan.spec c s.close x.params else Missing

  pub closed-are : (ls : List Living) → closed_among plan.spec c s.close (asked_to_close plan start rows step n ls) ≡ closed_list closing_of ls
  closed-are [] = refl
  closed-are (l ∷ ls) = go (is_closing_for plan start rows step n l.instance) (closed-are ls)
    where
      go : (b : Bool) → closed_among plan.spec c s.close (asked_to_close plan start rows step n ls) ≡ closed_list closing_of ls
          → closed_among plan.spec c s.close (if b then l ∷ asked_to_close plan start rows step n ls else asked_to_close plan start rows step n ls)
          ≡ (if closes_by (if b then close_answer plan.spec c s.close l.instance.params else Missing) then l.instance ∷ closed_list closing_of ls else closed_list closing_of ls)
      go true e =
          added (close_answer plan.spec c s.close l.instance.params) l.instance (closed_among plan.spec c s.close (asked_to_close plan start rows step n ls))
          ∙ ap (λ is. if closes_by (close_answer plan.spec c s.close l.instance.params) then l.instance ∷ is else is) e
      go false e = e

  pub faults-are : (ls : List Living) → least_kind (close_faults_among plan.spec c s.close (asked_to_close plan start rows step n ls)) ≡ least_list closing_of ls
  faults-are [] = refl
  faults-are (l ∷ ls) = go (is_closing_for plan start rows step n l.instance) (faults-are ls)
    where
      go : (b : Bool) → least_kind (close_faults_among plan.spec c s.close (asked_to_close plan start rows step n ls)) ≡ least_list closing_of ls
          → least_kind (close_faults_among plan.spec c s.close (if b then l ∷ asked_to_close plan start rows step n ls else asked_to_close plan start rows step n ls))
          ≡ least_of (faulted_of (if b then close_answer plan.spec c s.close l.instance.params else Missing)) (least_list closing_of ls)
      go true e =
          added-fault (close_answer plan.spec c s.close l.instance.params) (close_faults_among plan.spec c s.close (asked_to_close plan start rows step n ls))
          ∙ ap (least_of (faulted_of (close_answer plan.spec c s.close l.instance.params))) e
      go false e = e
