-- What an evaluation is given, and what it gives.
use Rattle.std.specs.Prelude.{ℕ, ◌≡◌, List, Option, Some, None, Bool, true, false, IsTrue, slice_get}
use Rattle.lola_value.specs.declared.value.Value.{Value}
use Rattle.lola_value.specs.declared.value.Value.TheVariants as value
use Rattle.lola_value.specs.declared.value.Params.{Params}
use Rattle.lola_value.specs.declared.value.Outcome.{Outcome}
use Rattle.lola_value.specs.declared.value.Outcome.TheVariants as outcome
use Rattle.lola_value.specs.Arithmetic.{bytes_equal}
use Rattle.lola_value.specs.Naming.{Naming, IsNaming, AreHeld, IsHeldIn, text_at, the_values, read_outcome, read_params}
use Rattle.lola_model.specs.Content.{Content}
use Rattle.lola_model.specs.Denotation.{den}
use Rattle.lola_model.specs.Store.{Seen, Memories, Stands, layout_of}
use Rattle.lola_model.specs.Typing.{each_part, each_argument}
use Rattle.lola_model.specs.declared.plan.Plan.{Plan}
use Rattle.lola_model.specs.declared.expr.Expr.{Expr}
use Rattle.lola_model.specs.declared.expr.Expr.TheVariants.{Literal}
use Rattle.lola_model.specs.declared.expr.Arguments.{Arguments}

-- a store that was made for a plan stands for a content, read through a naming that has the parameters' texts
pub record Sees (plan : Plan) (names : Naming) (c : Content) (remembers : Memories) (s : Seen) (p : Params) : Type 0 where
  pub naming : IsNaming names
  pub layout : s.layout ≡ layout_of plan
  pub held : AreHeld names (the_values p)
  pub stands : Stands names remembers s c

-- both are texts, and they have the same bytes
abbrev pub same_text : Option (List ℕ) → Option (List ℕ) → Bool
same_text (Some s) (Some t) = bytes_equal s t
same_text _ _ = false

-- a literal that is a text has, as a number of the naming, the text that stands at that place of the list
abbrev pub literal_is_named : Naming → List (List ℕ) → Value → Bool
literal_is_named names texts (value.Bool b) = true
literal_is_named names texts (value.Int z) = true
literal_is_named names texts (value.Text id) = same_text (text_at names id.0) (slice_get texts id.0)

-- the same of a part of an expression, if it is a literal
abbrev pub part_is_named : Naming → List (List ℕ) → Expr → Bool
part_is_named names texts (Literal place v) = literal_is_named names texts v
part_is_named names texts _ = true

-- the naming has the text literals of an expression by their places in a specification's list of texts
abbrev pub is_named : Naming → List (List ℕ) → Expr → Bool
is_named names texts e = each_part (part_is_named names texts) e

-- the same of arguments
abbrev pub are_named : Naming → List (List ℕ) → Arguments → Bool
are_named names texts args = each_argument (part_is_named names texts) args

-- what an evaluation gives: whatever plan, naming and content the store stands for, the outcome reads as the denotation
-- of the expression on that content, and the naming has its text
abbrev pub IsDenoted : Memories → Seen → Params → Expr → Outcome → Type 0
IsDenoted remembers s p e r =
    (plan : Plan) (names : Naming) (c : Content) → Sees plan names c remembers s p → IsTrue (is_named names plan.spec.texts e)
    → (read_outcome names r ≡ den plan.spec c (read_params names p) e) × IsHeldIn names r

-- a value, and missing where there is none
abbrev pub value_or_missing : Option Value → Outcome
value_or_missing None = outcome.Missing
value_or_missing (Some v) = outcome.Value v

-- no value: missing, a fault or poison
abbrev pub is_no_value : Outcome → Bool
is_no_value (outcome.Value v) = false
is_no_value _ = true
