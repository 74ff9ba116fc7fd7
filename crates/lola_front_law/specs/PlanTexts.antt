-- The text literals of a plan.
use Rattle.std.specs.Prelude.{ℕ, ◌≡◌, List, true}
use Rattle.std.specs.List.{list_all}
use Rattle.std.specs.Str.{is_utf8}
use Rattle.lola_model.specs.declared.plan.Plan.{Plan}
use Rattle.lola_front.specs.Front.{IsPlanOf}

-- those of a compiled text are in UTF-8
abbrev pub AreInUtf8 : Type 0
AreInUtf8 = (bytes : List ℕ) (plan : Plan) → IsPlanOf bytes plan → list_all is_utf8 plan.spec.texts ≡ true
