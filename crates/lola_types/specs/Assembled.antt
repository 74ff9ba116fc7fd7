-- Expressions over operands whose kinds are filled in, wherever the boxes of these are.
use Rattle.std.specs.Prelude.{◌≡◌, Option}
use Rattle.lola_value.specs.declared.value.Kind.{Kind}
use Rattle.lola_model.specs.declared.expr.Place.{Place}
use Rattle.lola_model.specs.declared.expr.Prefix.{Prefix}
use Rattle.lola_model.specs.declared.expr.Binary.{Binary}
use Rattle.lola_model.specs.declared.expr.Expr.{Expr}
use Rattle.lola_model.specs.declared.expr.Expr.TheVariants.{Defaults', Unary', Both', Choice'}
use Rattle.lola_model.specs.declared.expr.Arguments.{Arguments}
use Rattle.lola_model.specs.declared.expr.Arguments.TheVariants.{More'}
use Rattle.lola_types.specs.declared.filled.Filled.{Filled}
use Rattle.lola_types.specs.Filled.{filled_if_free}

-- an operand, with the kind that it takes, if there is one and it is free
abbrev pub operand : Option Kind → Filled → Expr
operand kind filled = filled_if_free kind filled.part filled.expr

-- `a.defaults(to: b)` of these operands, each of which takes this kind
abbrev pub IsDefaults : Place → Option Kind → (first second : Filled) → Expr → Type 0
IsDefaults place kind first second (Defaults' p u a v b) = (p ≡ place) × (a ≡ operand kind first) × (b ≡ operand kind second)
IsDefaults place kind first second _ = ⊥

-- an operator before this operand
abbrev pub IsUnary : Place → Prefix → Option Kind → Filled → Expr → Type 0
IsUnary place operator kind first (Unary' p r u a) = (p ≡ place) × (r ≡ operator) × (a ≡ operand kind first)
IsUnary place operator kind first _ = ⊥

-- an operator between these operands, each of which takes this kind
abbrev pub IsBoth : Place → Binary → Option Kind → (first second : Filled) → Expr → Type 0
IsBoth place operator kind first second (Both' p r u a v b) = (p ≡ place) × (r ≡ operator) × (a ≡ operand kind first) × (b ≡ operand kind second)
IsBoth place operator kind first second _ = ⊥

-- `if test then first else second`, where first and second take this kind
abbrev pub IsChoice : Place → Option Kind → (test first second : Filled) → Expr → Type 0
IsChoice place kind test first second (Choice' p u t v a w b) = (p ≡ place) × (t ≡ test.expr) × (a ≡ operand kind first) × (b ≡ operand kind second)
IsChoice place kind test first second _ = ⊥

-- an argument for a parameter of this kind, before others
abbrev pub IsMore : Option Kind → Filled → Arguments → Arguments → Type 0
IsMore kind first others (More' u a v rest) = (a ≡ operand kind first) × (rest ≡ others)
IsMore kind first others _ = ⊥
