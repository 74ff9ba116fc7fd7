-- What is tried of a clause is what the clause comes to.
use Rattle.std.proofs.Common.{◌≡◌, ◌∙◌, refl, sym, ap, ℕ, List, [], ◌∷◌, Option, Some, None, Bool, true, false, if◌then◌else◌, not, ◌&&◌, ◌||◌, Result, Ok, Err, arith, length, nat_lt, slice_get}
use Rattle.lola_value.specs.declared.text.Field.{Field}
use Rattle.lola_value.specs.declared.text.Field.TheVariants as field
use Rattle.lola_value.specs.declared.value.FaultKind.TheVariants as fault
use Rattle.lola_value.specs.Answer.{Answer, Given, Missing, Faulted, Poisoned}
use Rattle.lola_value.specs.Arithmetic.{all_equal}
use Rattle.lola_model.specs.Accesses.{answer_of}
use Rattle.lola_model.specs.Activity.{is_active_for}
use Rattle.lola_model.specs.Content.{Content, content, is_bad, time_of}
use Rattle.lola_model.specs.Denotation.{den, window_of}
use Rattle.lola_model.specs.Model.{clause_answer, close_answer, eval_outcome, eval_pacing, first_answer, guarded, input_outcome, is_among, is_input, most_instances, named_params, naming_outcome, spawn_guarded, spawn_outcome, when_answer}
use Rattle.lola_model.specs.Table.{Step, Instance, Spawned, Idle, Named, SpawnFaulted, SpawnPoisoned, StreamRow, TableRow}
use Rattle.lola_model.specs.declared.expr.Access.{Access}
use Rattle.lola_model.specs.declared.expr.Expr.{Expr}
use Rattle.lola_model.specs.declared.plan.Plan.{Plan}
use Rattle.lola_model.specs.declared.spec.Clause.{Clause}
use Rattle.lola_model.specs.declared.spec.Stream.{Stream}
use Rattle.lola_replay_step.specs.Agreements.{KnowsLife, KnowsLives, KnowsStream, comes_to}
use Rattle.lola_replay_table.specs.Answers.{kept_spawn}
use Rattle.lola_replay_table.specs.Clauses.{SpawnTry, clause_tried, close_tried, eval_tried, expr_tried, first_tried, instance_tried, is_known_among, named_among, outcome_tried, params_tried, spawn_clause_tried, then_guarded, then_named, then_spawn, when_tried}
use Rattle.lola_replay_table.specs.Tries.{Try, read_in, window_in}
use Rattle.lola_replay_table.specs.declared.question.Question.{Question}
use Rattle.lola_replay_table.specs.declared.table.KeptSpawn.{KeptSpawn}
use Rattle.lola_replay_table.specs.declared.table.KnownLife.{KnownLife}
use Rattle.lola_replay_table.specs.declared.table.KnownStream.{KnownStream}
use Rattle.lola_replay_step.proofs.TryLemmas.{Answers, argument-right, is-ok, try-right}

guarded-right : (r s : Try) (x y : Answer) → Answers r x → Answers s y → Answers (then_guarded r s) (guarded x y)
guarded-right (Err q) s x y hx hy a e = absurd (cc e)
guarded-right (Ok (Given (field.Bool true))) s x y hx hy a e = ap (λ z. guarded z y) (hx (Given (field.Bool true)) refl) ∙ hy a e
guarded-right (Ok (Given (field.Bool false))) s x y hx hy a e = ap (λ z. guarded z y) (hx (Given (field.Bool false)) refl) ∙ is-ok Missing a e
guarded-right (Ok (Given (field.Int z))) s x y hx hy a e = ap (λ w. guarded w y) (hx (Given (field.Int z)) refl) ∙ is-ok Missing a e
guarded-right (Ok (Given (field.Text t))) s x y hx hy a e = ap (λ w. guarded w y) (hx (Given (field.Text t)) refl) ∙ is-ok Missing a e
guarded-right (Ok (Given field.Absent)) s x y hx hy a e = ap (λ w. guarded w y) (hx (Given field.Absent) refl) ∙ is-ok Missing a e
guarded-right (Ok Missing) s x y hx hy a e = ap (λ w. guarded w y) (hx Missing refl) ∙ is-ok Missing a e
guarded-right (Ok (Faulted k)) s x y hx hy a e = ap (λ w. guarded w y) (hx (Faulted k) refl) ∙ is-ok (Faulted k) a e
guarded-right (Ok Poisoned) s x y hx hy a e = ap (λ w. guarded w y) (hx Poisoned refl) ∙ is-ok Poisoned a e

spawn-guarded-right : (r : Try) (s : SpawnTry) (x : Answer) (y : Spawned) → Answers r x → Answers s y → Answers (then_spawn r s) (spawn_guarded x y)
spawn-guarded-right (Err q) s x y hx hy a e = absurd (cc e)
spawn-guarded-right (Ok (Given (field.Bool true))) s x y hx hy a e = ap (λ z. spawn_guarded z y) (hx (Given (field.Bool true)) refl) ∙ hy a e
spawn-guarded-right (Ok (Given (field.Bool false))) s x y hx hy a e = ap (λ z. spawn_guarded z y) (hx (Given (field.Bool false)) refl) ∙ is-ok Idle a e
spawn-guarded-right (Ok (Given (field.Int z))) s x y hx hy a e = ap (λ w. spawn_guarded w y) (hx (Given (field.Int z)) refl) ∙ is-ok Idle a e
spawn-guarded-right (Ok (Given (field.Text t))) s x y hx hy a e = ap (λ w. spawn_guarded w y) (hx (Given (field.Text t)) refl) ∙ is-ok Idle a e
spawn-guarded-right (Ok (Given field.Absent)) s x y hx hy a e = ap (λ w. spawn_guarded w y) (hx (Given field.Absent) refl) ∙ is-ok Idle a e
spawn-guarded-right (Ok Missing) s x y hx hy a e = ap (λ w. spawn_guarded w y) (hx Missing refl) ∙ is-ok Idle a e
spawn-guarded-right (Ok (Faulted k)) s x y hx hy a e = ap (λ w. spawn_guarded w y) (hx (Faulted k) refl) ∙ is-ok (SpawnFaulted k) a e
spawn-guarded-right (Ok Poisoned) s x y hx hy a e = ap (λ w. spawn_guarded w y) (hx Poisoned refl) ∙ is-ok SpawnPoisoned a e

-- what is known of living instances has their parameters and their number
module _ (rows : List TableRow) (time n : ℕ) (comes : Instance → Answer) where
  pub among-known : (p : List Field) (xs : List Instance) (ks : List KnownLife) → KnowsLives rows time n comes xs ks → is_known_among p ks ≡ is_among p xs
  among-known p [] [] knows = refl
  among-known p [] (k ∷ ks) knows = absurd knows
  among-known p (x ∷ xs) [] knows = absurd knows
  among-known p (x ∷ xs) (k ∷ ks) knows =
      ap (λ (q : List Field). if all_equal p q then true else is_known_among p ks) knows.0.params
      ∙ go (all_equal p x.params) (among-known p xs ks knows.1)
    where
      go : (b : Bool) → is_known_among p ks ≡ is_among p xs → (if b then true else is_known_among p ks) ≡ (b || is_among p xs)
      go true e = refl
      go false e = e

  pub known-length : (xs : List Instance) (ks : List KnownLife) → KnowsLives rows time n comes xs ks → length ks ≡ length xs
  known-length [] [] knows = refl
  known-length [] (k ∷ ks) knows = absurd knows
  known-length (x ∷ xs) [] knows = absurd knows
  known-length (x ∷ xs) (k ∷ ks) knows = let rest = known-length xs ks knows.1 in omega (arith, rest)

  abbrev named_if : Bool → ℕ → List Field → Spawned
  named_if among many p = if not among && not (nat_lt many most_instances) then SpawnFaulted fault.TooManyInstances else Named p

  naming-right : (r : Result (Result (List Field) Answer) Question) (x : Result (List Field) Answer) (xs : List Instance) (ks : List KnownLife) → KnowsLives rows time n comes xs ks
      → Answers r x → Answers (then_named r ks) (naming_outcome x xs)
  naming-right (Err q) x xs ks knows hx a e = absurd (cc e)
  naming-right (Ok (Ok p)) x xs ks knows hx a e =
      ap (λ z. naming_outcome z xs) (hx (Ok p) refl)
      ∙ ap (λ b. named_if b (length xs) p) (sym (among-known p xs ks knows))
      ∙ ap (λ m. named_if (is_known_among p ks) m p) (sym (known-length xs ks knows)) ∙ is-ok (named_among p ks) a e
  naming-right (Ok (Err (Given v))) x xs ks knows hx a e = ap (λ z. naming_outcome z xs) (hx (Err (Given v)) refl) ∙ is-ok SpawnPoisoned a e
  naming-right (Ok (Err Missing)) x xs ks knows hx a e = ap (λ z. naming_outcome z xs) (hx (Err Missing) refl) ∙ is-ok Idle a e
  naming-right (Ok (Err (Faulted k))) x xs ks knows hx a e = ap (λ z. naming_outcome z xs) (hx (Err (Faulted k)) refl) ∙ is-ok (SpawnFaulted k) a e
  naming-right (Ok (Err Poisoned)) x xs ks knows hx a e = ap (λ z. naming_outcome z xs) (hx (Err Poisoned) refl) ∙ is-ok SpawnPoisoned a e

module _ (plan : Plan) (start : ℕ) (step : Step) (known : List KnownStream) (c : Content)
    (reads : (how : Access) (m : ℕ) (p : List Field) → Answers (read_in plan.spec start step.time known how m p) (answer_of c how m p))
    (windows : (w : ℕ) (p : List Field) → Answers (window_in plan.spec start step.time known w p) (window_of plan.spec c (slice_get plan.spec.windows w) p)) where
  expr-right : (p : List Field) (e : Expr) → Answers (expr_tried plan start step known p e) (den plan.spec c p e)
  expr-right p e = try-right plan.spec c (read_in plan.spec start step.time known) (window_in plan.spec start step.time known) reads windows p e

  pub when-right : (p : List Field) (o : Option Expr) → Answers (when_tried plan start step known p o) (when_answer plan.spec c p o)
  when-right p None = λ a e. is-ok _ a e
  when-right p (Some e) = expr-right p e

  first-right : (p : List Field) (es : List Expr) → Answers (first_tried plan start step known p es) (first_answer plan.spec c p es)
  first-right p [] = λ a e. is-ok Missing a e
  first-right p (e ∷ es) = expr-right p e

  clause-right : (p : List Field) (k : Clause) → Answers (clause_tried plan start step known p k) (clause_answer plan.spec c p k)
  clause-right p k =
      guarded-right (when_tried plan start step known p k.when) (first_tried plan start step known p k.with) (when_answer plan.spec c p k.when) (first_answer plan.spec c p k.with)
      (when-right p k.when) (first-right p k.with)

  eval-right : (bad active : Bool) (o : Option Clause) (p : List Field) → Answers (eval_tried plan start step known bad active o p) (eval_outcome plan.spec c bad active o p)
  eval-right bad active None p = λ a e. is-ok Missing a e
  eval-right bad active (Some k) p = go (not bad && active)
    where
      go : (b : Bool) → Answers (if b then clause_tried plan start step known p k else Ok Missing) (if b then clause_answer plan.spec c p k else Missing)
      go true = clause-right p k
      go false = λ a e. is-ok Missing a e

  params-right : (es : List Expr) → Answers (params_tried plan start step known es) (named_params plan.spec c es)
  params-right [] = λ a e. is-ok _ a e
  params-right (e ∷ es) =
      argument-right (expr_tried plan start step known [] e) (params_tried plan start step known es) (den plan.spec c [] e) (named_params plan.spec c es) (expr-right [] e) (params-right es)

  -- a close condition
  pub close-right : (o : Option Clause) (p : List Field) → Answers (close_tried plan start step known o p) (close_answer plan.spec c o p)
  close-right None p = λ a e. is-ok Missing a e
  close-right (Some k) p = when-right p k.when

  -- a spawn clause, where what is known has the instances that lived before the step
  pub spawn-right : (rows : List TableRow) (time n : ℕ) (comes : Instance → Answer) (active : Bool) (o : Option Clause) (xs : List Instance) (ks : List KnownLife) → KnowsLives rows time n comes xs ks
      → Answers (spawn_clause_tried plan start step known active o ks) (spawn_outcome plan.spec c active o xs)
  spawn-right rows time n comes active None xs ks knows = λ a e. is-ok Idle a e
  spawn-right rows time n comes active (Some k) xs ks knows = go active
    where
      go : (b : Bool) → Answers (if b then then_spawn (when_tried plan start step known [] k.when) (then_named (params_tried plan start step known k.with) ks) else Ok Idle)
          (if b then spawn_guarded (when_answer plan.spec c [] k.when) (naming_outcome (named_params plan.spec c k.with) xs) else Idle)
      go true =
          spawn-guarded-right (when_tried plan start step known [] k.when) (then_named (params_tried plan start step known k.with) ks) (when_answer plan.spec c [] k.when)
          (naming_outcome (named_params plan.spec c k.with) xs) (when-right [] k.when)
          (naming-right rows time n comes (params_tried plan start step known k.with) (named_params plan.spec c k.with) xs ks knows (params-right k.with))
      go false = λ a e. is-ok Idle a e

module _ (plan : Plan) (start : ℕ) (rows : List TableRow) (step : Step) (row : TableRow) (known : List KnownStream)
    (reads : (how : Access) (m : ℕ) (p : List Field) → Answers (read_in plan.spec start step.time known how m p) (answer_of (content start rows row) how m p))
    (windows : (w : ℕ) (p : List Field) → Answers (window_in plan.spec start step.time known w p) (window_of plan.spec (content start rows row) (slice_get plan.spec.windows w) p)) where
  -- what an instance without a row's field comes to
  abbrev comes-by : ℕ → Stream → Spawned → ℕ → List Field → Answer
  comes-by n s sp born p =
      eval_outcome plan.spec (content start rows row) (is_bad sp) (is_active_for start born step (eval_pacing (slice_get plan.pacings n))) s.eval p

  by-spawn : (n : ℕ) (s : Stream) (sp : Spawned) (x : Instance) (l : KnownLife) → l.born ≡ time_of step.time (slice_get rows x.born) → l.params ≡ x.params
      → (o : Option KeptSpawn) → ((q : KeptSpawn) → o ≡ Some q → sp ≡ kept_spawn q)
      → Answers (instance_tried plan start step known n s o l) (comes-by n s sp (time_of step.time (slice_get rows x.born)) x.params)
  by-spawn n s sp x l born params None is a e = absurd (cc e)
  by-spawn n s sp x l born params (Some q) is a e =
      ap (λ z. comes-by n s z (time_of step.time (slice_get rows x.born)) x.params) (is q refl)
      ∙ ap (λ t. comes-by n s (kept_spawn q) t x.params) (sym born)
      ∙ ap (λ (p : List Field). comes-by n s (kept_spawn q) l.born p) (sym params)
      ∙ eval-right plan start step known (content start rows row) reads windows (is_bad (kept_spawn q)) (is_active_for start l.born step (eval_pacing (slice_get plan.pacings n))) s.eval l.params a e

  -- an instance
  pub outcome-right : (n i : ℕ) (s : Stream) (r : StreamRow) (k : KnownStream) (x : Instance) (l : KnownLife) → KnowsStream plan start rows step row n i s r k
      → KnowsLife rows step.time n (comes_to plan start rows step row n i s r) x l → Answers (outcome_tried plan start step known n s k l) (comes_to plan start rows step row n i s r x)
  outcome-right n i s r k x l knows life = by-sort (is_input s)
    where
      by-sort : (b : Bool) → Answers (if b then Ok (input_outcome k.input step.fields) else instance_tried plan start step known n s k.spawned l)
          (if b then input_outcome i step.fields else comes-by n s r.spawned (time_of step.time (slice_get rows x.born)) x.params)
      by-sort true = λ a e. ap (λ j. input_outcome j step.fields) (sym knows.input) ∙ is-ok _ a e
      by-sort false = by-spawn n s r.spawned x l life.born life.params k.spawned knows.spawned
