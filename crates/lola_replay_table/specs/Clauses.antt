-- What clauses come to, of what is known of a step; or the first question that they wait for.
use Rattle.std.specs.Prelude.{ℕ, ◌≡◌, List, [], ◌∷◌, Option, Some, None, Bool, true, false, not, ◌&&◌, if◌then◌else◌, nat_lt, length, slice_get, Result, Ok, Err}
use Rattle.lola_value.specs.declared.text.Field.{Field}
use Rattle.lola_value.specs.declared.text.Field.TheVariants as field
use Rattle.lola_value.specs.declared.value.FaultKind.TheVariants as fault
use Rattle.lola_value.specs.Answer.{Answer, Given, Missing, Faulted, Poisoned}
use Rattle.lola_value.specs.Arithmetic.{all_equal}
use Rattle.lola_model.specs.Activity.{is_active, is_active_for}
use Rattle.lola_model.specs.Content.{is_bad}
use Rattle.lola_model.specs.Model.{eval_pacing, input_outcome, is_input, most_instances, spawn_pacing}
use Rattle.lola_model.specs.Table.{Step, Spawned, Idle, Named, SpawnFaulted, SpawnPoisoned}
use Rattle.lola_model.specs.declared.expr.Expr.{Expr}
use Rattle.lola_model.specs.declared.plan.Plan.{Plan}
use Rattle.lola_model.specs.declared.spec.Clause.{Clause}
use Rattle.lola_model.specs.declared.spec.Stream.{Stream}
use Rattle.lola_replay_table.specs.Answers.{kept_spawn, the_answer}
use Rattle.lola_replay_table.specs.Tries.{Try, then_argument, tried_in}
use Rattle.lola_replay_table.specs.declared.question.Question.{Question}
use Rattle.lola_replay_table.specs.declared.question.Question.TheVariants.{SpawnOf}
use Rattle.lola_replay_table.specs.declared.question.Unanswered.{Unanswered}
use Rattle.lola_replay_table.specs.declared.question.Unanswered.TheVariants as stop
use Rattle.lola_replay_table.specs.declared.answer.LentAnswer.{LentAnswer}
use Rattle.lola_replay_table.specs.declared.table.KeptSpawn.{KeptSpawn}
use Rattle.lola_replay_table.specs.declared.table.KnownLife.{KnownLife}
use Rattle.lola_replay_table.specs.declared.table.KnownStream.{KnownStream}

-- goes on where the `when` of a clause is true; where it is false, the clause is silent
abbrev pub then_guarded : Try → Try → Try
then_guarded (Ok (Given (field.Bool true))) a = a
then_guarded (Ok (Given v)) a = Ok Missing
then_guarded (Ok b) a = Ok b
then_guarded (Err q) a = Err q

-- what is tried of a spawn clause
abbrev pub SpawnTry : Type 0
SpawnTry = Result Spawned Question

-- parameters of one of these instances
abbrev pub is_known_among : List Field → List KnownLife → Bool
is_known_among p [] = false
is_known_among p (l ∷ ls) = if all_equal p l.params then true else is_known_among p ls

-- what a spawn clause does that names these parameters, where these instances live
abbrev pub named_among : List Field → List KnownLife → Spawned
named_among p lives =
    if not (is_known_among p lives) && not (nat_lt (length lives) most_instances) then SpawnFaulted fault.TooManyInstances else Named p

-- what it does where a parameter has no value
abbrev pub named_none : Answer → Spawned
named_none (Faulted k) = SpawnFaulted k
named_none Missing = Idle
named_none a = SpawnPoisoned

-- goes on with the parameters
abbrev pub then_named : Result (Result (List Field) Answer) Question → List KnownLife → SpawnTry
then_named (Ok (Ok p)) lives = Ok (named_among p lives)
then_named (Ok (Err a)) lives = Ok (named_none a)
then_named (Err q) lives = Err q

-- goes on where the `when` of a spawn clause is true
abbrev pub then_spawn : Try → SpawnTry → SpawnTry
then_spawn (Ok (Given (field.Bool true))) s = s
then_spawn (Ok (Given v)) s = Ok Idle
then_spawn (Ok Missing) s = Ok Idle
then_spawn (Ok (Faulted k)) s = Ok (SpawnFaulted k)
then_spawn (Ok Poisoned) s = Ok SpawnPoisoned
then_spawn (Err q) s = Err q

module _ (plan : Plan) (start : ℕ) (step : Step) (known : List KnownStream) where
  -- an expression
  abbrev pub expr_tried : List Field → Expr → Try
  expr_tried p e = tried_in plan.spec start step.time known p e

  -- a `when`, true where it is left out
  abbrev pub when_tried : List Field → Option Expr → Try
  when_tried p None = Ok (Given (field.Bool true))
  when_tried p (Some e) = expr_tried p e

  -- the one expression of an eval clause
  abbrev pub first_tried : List Field → List Expr → Try
  first_tried p [] = Ok Missing
  first_tried p (e ∷ es) = expr_tried p e

  -- an eval clause, where it is active
  abbrev pub clause_tried : List Field → Clause → Try
  clause_tried p k = then_guarded (when_tried p k.when) (first_tried p k.with)

  -- an eval clause of an instance: silent where its stream is bad or its pacing is not active
  abbrev pub eval_tried : Bool → Bool → Option Clause → List Field → Try
  eval_tried bad active None p = Ok Missing
  eval_tried bad active (Some k) p = if not bad && active then clause_tried p k else Ok Missing

  -- an instance whose stream's spawn clause is answered or not
  abbrev pub instance_tried : ℕ → Stream → Option KeptSpawn → KnownLife → Try
  instance_tried n s None l = Err (SpawnOf n)
  instance_tried n s (Some sp) l =
      eval_tried (is_bad (kept_spawn sp)) (is_active_for start l.born step (eval_pacing (slice_get plan.pacings n))) s.eval l.params

  -- the outcome of an instance of a stream; an input asks nothing
  abbrev pub outcome_tried : ℕ → Stream → KnownStream → KnownLife → Try
  outcome_tried n s k l = if is_input s then Ok (input_outcome k.input step.fields) else instance_tried n s k.spawned l

  -- the parameters that a spawn clause names
  abbrev pub params_tried : List Expr → Result (Result (List Field) Answer) Question
  params_tried [] = Ok (Ok [])
  params_tried (e ∷ es) = then_argument (expr_tried [] e) (params_tried es)

  -- what the spawn clause of a stream does
  abbrev pub spawn_clause_tried : Bool → Option Clause → List KnownLife → SpawnTry
  spawn_clause_tried active None lives = Ok Idle
  spawn_clause_tried active (Some k) lives =
      if active then then_spawn (when_tried [] k.when) (then_named (params_tried k.with) lives) else Ok Idle

  abbrev pub spawn_tried : ℕ → Stream → KnownStream → SpawnTry
  spawn_tried n s k = spawn_clause_tried (is_active start step (spawn_pacing (slice_get plan.pacings n))) s.spawn k.lives

  -- the close condition of an instance
  abbrev pub close_tried : Option Clause → List Field → Try
  close_tried None p = Ok Missing
  close_tried (Some k) p = when_tried p k.when

-- what the code of such a try gives
abbrev pub GivesSpawn : SpawnTry → Result KeptSpawn Unanswered → Type 0
GivesSpawn t (Ok kept) = t ≡ Ok (kept_spawn kept)
GivesSpawn t (Err (stop.Asks q)) = t ≡ Err q
GivesSpawn t (Err stop.Memory) = Unit {0}

-- and of parameters
abbrev pub GivesParams : Result (Result (List Field) Answer) Question → Result (Result (List Field) LentAnswer) Unanswered → Type 0
GivesParams t (Ok (Ok params)) = t ≡ Ok (Ok params)
GivesParams t (Ok (Err a)) = t ≡ Ok (Err (the_answer a))
GivesParams t (Err (stop.Asks q)) = t ≡ Err q
GivesParams t (Err stop.Memory) = Unit {0}
