-- The kinds of streams that leave them out: found in rounds.
use Rattle.std.specs.Prelude.{ℕ, ◌+◌, List, [], ◌∷◌, Option, Some, None, Bool, true, false, if◌then◌else◌, nat_eq, length, map, slice_get, zero, suc}
use Rattle.lola_value.specs.declared.value.Kind.{Kind}
use Rattle.lola_value.specs.declared.value.Kind.TheVariants as kind
use Rattle.lola_model.specs.declared.expr.Expr.{Expr}
use Rattle.lola_model.specs.declared.spec.Spec.{Spec}
use Rattle.lola_model.specs.declared.spec.Stream.{Stream}
use Rattle.lola_model.specs.declared.spec.Clause.{Clause}
use Rattle.lola_types.specs.Found.{Setting, found}
use Rattle.lola_types.specs.declared.found.Found.{Found}
use Rattle.lola_types.specs.declared.found.Found.TheVariants.{Of, Free, Unknown, Broken}

-- the one expression of an eval clause
abbrev pub first_expression : Option Clause → Option Expr
first_expression None = None
first_expression (Some c) = slice_get c.with 0

abbrev pub part_kind : Found → Option Kind
part_kind (Of k c) = Some k
part_kind Free = None
part_kind Unknown = None
part_kind Broken = None

abbrev pub kind_of_expression : Setting → Option Expr → Option Kind
kind_of_expression s None = None
kind_of_expression s (Some e) = part_kind (found s e)

-- the kinds that are declared
abbrev pub declared_kinds : List Stream → List (Option Kind)
declared_kinds ss = map (λ s. s.kind) ss

-- where a stream's clauses stand in which parameters of these kinds are in scope
abbrev pub setting_of : Spec → List (Option Kind) → List Kind → Setting
setting_of spec kinds ks = record { streams = spec.streams; windows = spec.windows; kinds = kinds; parameters = ks }

-- the kind of a stream after a round: where it is not found yet, that of its eval clause's expression, if it has one by
-- the kinds from before the round
abbrev pub kind_after : Spec → List (Option Kind) → Option Kind → Stream → Option Kind
kind_after spec before (Some k) s = Some k
kind_after spec before None s = kind_of_expression (setting_of spec before s.parameters) (first_expression s.eval)

abbrev pub round_from : Spec → List (Option Kind) → List (Option Kind) → List Stream → List (Option Kind)
round_from spec before (k ∷ ks) (s ∷ ss) = kind_after spec before k s ∷ round_from spec before ks ss
round_from spec before _ _ = []

-- the kinds after a round
abbrev pub round : Spec → List (Option Kind) → List (Option Kind)
round spec kinds = round_from spec kinds kinds spec.streams

-- how many kinds are not found
abbrev pub missing_kinds : List (Option Kind) → ℕ
missing_kinds [] = 0
missing_kinds (None ∷ ks) = missing_kinds ks + 1
missing_kinds (Some k ∷ ks) = missing_kinds ks

-- the least stream without a kind gets Int64
abbrev pub with_least : List (Option Kind) → List (Option Kind)
with_least [] = []
with_least (None ∷ ks) = Some kind.Int64 ∷ ks
with_least (Some k ∷ ks) = Some k ∷ with_least ks

-- after a round; where it found nothing, the least stream without a kind gets one
abbrev pub after_round : List (Option Kind) → List (Option Kind) → List (Option Kind)
after_round kinds next = if nat_eq (missing_kinds next) (missing_kinds kinds) then with_least kinds else next

-- after so many rounds
abbrev pub rounds : ℕ → Spec → List (Option Kind) → List (Option Kind)
rounds zero spec kinds = kinds
rounds (suc most) spec kinds = rounds most spec (after_round kinds (round spec kinds))

-- the kinds of all streams: each round finds at least one, so that as many rounds as there are streams are enough
abbrev pub kinds_of : Spec → List (Option Kind)
kinds_of spec = rounds (length spec.streams) spec (declared_kinds spec.streams)
