-- What lent and kept outcomes are.
use Rattle.std.specs.Prelude.{ℤ, ◌+ℤ◌, ◌-ℤ◌, ◌*ℤ◌, int_div, int_rem, int_lt, int_le, Bool, false, not}
use Rattle.lola_value.specs.declared.text.Field.{Field}
use Rattle.lola_value.specs.declared.text.Field.TheVariants as field
use Rattle.lola_value.specs.Answer.{Answer, Given, Missing, Faulted, Poisoned}
use Rattle.lola_value.specs.Arithmetic.{divided, within}
use Rattle.lola_value.specs.declared.value.Kind.{Kind}
use Rattle.lola_model.specs.Denotation.{truth}
use Rattle.lola_model.specs.declared.expr.Binary.{Binary}
use Rattle.lola_model.specs.declared.expr.Binary.TheVariants as binary
use Rattle.lola_model.specs.Table.{Spawned, Idle, Named, SpawnFaulted, SpawnPoisoned}
use Rattle.lola_replay_table.specs.declared.answer.LentField.{LentField}
use Rattle.lola_replay_table.specs.declared.answer.LentField.TheVariants as lent
use Rattle.lola_replay_table.specs.declared.answer.LentAnswer.{LentAnswer}
use Rattle.lola_replay_table.specs.declared.answer.LentAnswer.TheVariants as lent_answer
use Rattle.lola_replay_table.specs.declared.answer.KeptAnswer.{KeptAnswer}
use Rattle.lola_replay_table.specs.declared.answer.KeptAnswer.TheVariants as kept
use Rattle.lola_replay_table.specs.declared.table.KeptSpawn.{KeptSpawn}
use Rattle.lola_replay_table.specs.declared.table.KeptSpawn.TheVariants as spawn

-- the field that is lent
abbrev pub the_field : LentField → Field
the_field lent.Absent = field.Absent
the_field (lent.Bool b) = field.Bool b
the_field (lent.Int z) = field.Int z
the_field (lent.Text t) = field.Text t.now

-- the outcome whose value is lent
abbrev pub the_answer : LentAnswer → Answer
the_answer (lent_answer.Given v) = Given (the_field v)
the_answer lent_answer.Missing = Missing
the_answer (lent_answer.Fault k) = Faulted k
the_answer lent_answer.Poisoned = Poisoned

-- the outcome that is kept
abbrev pub kept_answer : KeptAnswer → Answer
kept_answer (kept.Given v) = Given v
kept_answer kept.Missing = Missing
kept_answer (kept.Fault k) = Faulted k
kept_answer kept.Poisoned = Poisoned

-- what a spawn clause did
abbrev pub kept_spawn : KeptSpawn → Spawned
kept_spawn spawn.Idle = Idle
kept_spawn (spawn.Named p) = Named p
kept_spawn (spawn.Fault k) = SpawnFaulted k
kept_spawn spawn.Poisoned = SpawnPoisoned

-- an operator between two numbers
abbrev pub of_numbers : Binary → Kind → ℤ → ℤ → Answer
of_numbers binary.Add k x y = within k (x +ℤ y)
of_numbers binary.Sub k x y = within k (x -ℤ y)
of_numbers binary.Mul k x y = within k (x *ℤ y)
of_numbers binary.Div k x y = divided k (int_div x y) y
of_numbers binary.Rem k x y = divided k (int_rem x y) y
of_numbers binary.Less k x y = truth (int_lt x y)
of_numbers binary.LessEqual k x y = truth (int_le x y)
of_numbers binary.Greater k x y = truth (int_lt y x)
of_numbers binary.GreaterEqual k x y = truth (int_le y x)
of_numbers _ k x y = Missing

-- whether the left operand decides alone
abbrev pub decides : Binary → Field → Bool
decides binary.And (field.Bool b) = not b
decides binary.Or (field.Bool b) = b
decides _ _ = false
