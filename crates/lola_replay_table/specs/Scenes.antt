-- What is tried in a scene.
use Rattle.std.specs.Prelude.{ℕ, List, Result, Bool, Option, slice_get}
use Rattle.lola_value.specs.declared.text.Field.{Field}
use Rattle.lola_value.specs.Answer.{Answer}
use Rattle.lola_model.specs.declared.expr.Access.{Access}
use Rattle.lola_model.specs.declared.expr.Arguments.{Arguments}
use Rattle.lola_model.specs.declared.expr.Expr.{Expr}
use Rattle.lola_model.specs.Activity.{is_active}
use Rattle.lola_model.specs.Model.{spawn_pacing}
use Rattle.lola_model.specs.Table.{Step}
use Rattle.lola_model.specs.declared.spec.Clause.{Clause}
use Rattle.lola_replay_table.specs.Clauses.{SpawnTry, clause_tried, eval_tried, first_tried, instance_tried, outcome_tried, params_tried, spawn_clause_tried, when_tried}
use Rattle.lola_replay_table.specs.Moments.{the_step}
use Rattle.lola_replay_table.specs.declared.question.Question.{Question}
use Rattle.lola_model.specs.declared.spec.Stream.{Stream}
use Rattle.lola_replay_table.specs.declared.table.KeptSpawn.{KeptSpawn}
use Rattle.lola_replay_table.specs.declared.table.KnownLife.{KnownLife}
use Rattle.lola_replay_table.specs.declared.table.KnownStream.{KnownStream}
use Rattle.lola_replay_table.specs.declared.scene.Scene.{Scene}
use Rattle.lola_replay_table.specs.Tries.{Try, read_in, tried_all_in, tried_in, window_in}

-- an expression, for an instance with these parameters
abbrev pub tried_at : Scene → List Field → Expr → Try
tried_at s p e = tried_in s.plan.now.spec s.moment.start s.moment.time s.known.now p e

-- arguments
abbrev pub tried_all_at : Scene → List Field → Arguments → Result (Result (List Field) Answer) Question
tried_all_at s p args = tried_all_in s.plan.now.spec s.moment.start s.moment.time s.known.now p args

-- an access
abbrev pub read_by : Scene → Access → ℕ → List Field → Try
read_by s how n p = read_in s.plan.now.spec s.moment.start s.moment.time s.known.now how n p

-- a window
abbrev pub window_by : Scene → ℕ → List Field → Try
window_by s n p = window_in s.plan.now.spec s.moment.start s.moment.time s.known.now n p

-- the step of a scene
abbrev pub step_at : Scene → Step
step_at s = the_step s.moment

-- a condition
abbrev pub when_at : Scene → List Field → Option Expr → Try
when_at s p e = when_tried s.plan.now s.moment.start (step_at s) s.known.now p e

-- the one expression of an eval clause
abbrev pub first_at : Scene → List Field → List Expr → Try
first_at s p es = first_tried s.plan.now s.moment.start (step_at s) s.known.now p es

-- an eval clause
abbrev pub clause_at : Scene → List Field → Clause → Try
clause_at s p k = clause_tried s.plan.now s.moment.start (step_at s) s.known.now p k

-- of an instance
abbrev pub eval_at : Scene → Bool → Bool → Option Clause → List Field → Try
eval_at s bad active k p = eval_tried s.plan.now s.moment.start (step_at s) s.known.now bad active k p

-- of an instance whose stream's spawn clause is answered or not
abbrev pub instance_at : Scene → ℕ → Stream → Option KeptSpawn → KnownLife → Try
instance_at s n stream spawned l = instance_tried s.plan.now s.moment.start (step_at s) s.known.now n stream spawned l

-- of an instance of a stream
abbrev pub outcome_at : Scene → ℕ → Stream → KnownStream → KnownLife → Try
outcome_at s n stream k l = outcome_tried s.plan.now s.moment.start (step_at s) s.known.now n stream k l

-- the parameters that a spawn clause names
abbrev pub params_at : Scene → List Expr → Result (Result (List Field) Answer) Question
params_at s es = params_tried s.plan.now s.moment.start (step_at s) s.known.now es

-- what the spawn clause of a stream does, of which these instances live
abbrev pub spawn_at : Scene → ℕ → Stream → List KnownLife → SpawnTry
spawn_at s n stream lives =
    spawn_clause_tried s.plan.now s.moment.start (step_at s) s.known.now (is_active s.moment.start (step_at s) (spawn_pacing (slice_get s.plan.now.pacings n))) stream.spawn lives
