-- Operators over operands, wherever the boxes of these are.
use Rattle.std.specs.Prelude.{ℕ, ◌≡◌}
use Rattle.lola_model.specs.declared.expr.Prefix.{Prefix}
use Rattle.lola_model.specs.declared.expr.Binary.{Binary}
use Rattle.lola_model.specs.declared.expr.Expr.{Expr}
use Rattle.lola_model.specs.declared.expr.Expr.TheVariants.{Defaults', Unary', Both', Choice'}
use Rattle.lola_names.specs.Resolved.{place_at}

-- `a.defaults(to: b)` at this place
abbrev pub IsDefaults : ℕ → Expr → Expr → Expr → Type 0
IsDefaults at a b (Defaults' place u s v t) = (place ≡ place_at at) × (s ≡ a) × (t ≡ b)
IsDefaults at a b _ = ⊥

-- an operator before `a`
abbrev pub IsUnary : ℕ → Prefix → Expr → Expr → Type 0
IsUnary at operator a (Unary' place op u s) = (place ≡ place_at at) × (op ≡ operator) × (s ≡ a)
IsUnary at operator a _ = ⊥

-- an operator between `a` and `b`
abbrev pub IsBoth : ℕ → Binary → Expr → Expr → Expr → Type 0
IsBoth at operator a b (Both' place op u s v t) = (place ≡ place_at at) × (op ≡ operator) × (s ≡ a) × (t ≡ b)
IsBoth at operator a b _ = ⊥

-- `if a then b else d`
abbrev pub IsChoice : ℕ → Expr → Expr → Expr → Expr → Type 0
IsChoice at a b d (Choice' place u s v t w q) = (place ≡ place_at at) × (s ≡ a) × (t ≡ b) × (q ≡ d)
IsChoice at a b d _ = ⊥
