-- Operators over operands that are resolved.
use Rattle.std.proofs.Common.{◌≡◌, ◌++◌, ℕ, refl, sym, subst}
use Rattle.lola_parser_grammar.specs.declared.expressions.Prefix.{Prefix}
use Rattle.lola_parser_grammar.specs.declared.expressions.Binary.{Binary}
use Rattle.lola_parser_grammar.specs.declared.expressions.Expr.{Expr as TreeExpr}
use Rattle.lola_parser_grammar.specs.declared.expressions.Expr.TheVariants as e
use Rattle.lola_model.specs.Parts.{listed}
use Rattle.lola_model.specs.Named.{window_number, literal_text}
use Rattle.lola_model.specs.declared.expr.Prefix.{Prefix as ModelPrefix}
use Rattle.lola_model.specs.declared.expr.Binary.{Binary as ModelBinary}
use Rattle.lola_model.specs.declared.expr.Expr.{Expr}
use Rattle.lola_model.specs.declared.expr.Expr.TheVariants.{Defaults', Unary', Both', Choice'}
use Rattle.lola_names.specs.Resolved.{prefix_of, binary_of}
use Rattle.lola_names.specs.Made.{Grows, GrowsBy, ResolvesTo}
use Rattle.lola_names.specs.Operators.{IsDefaults, IsUnary, IsBoth, IsChoice}
use Rattle.lola_names.specs.declared.made.Made.{Made}
use Rattle.lola_names.specs.declared.scope.Scope.{Scope}
use Rattle.lola_names.proofs.Growth.{grows_then}
use Rattle.lola_names.proofs.TreeLemmas.{carried, resolves-Prefix, resolves-Defaults, resolves-Binary, resolves-If}

module _ (scope : Scope) (made : Made) where
  -- equal expressions
  same_resolved : (x : TreeExpr) (r r' : Expr) → r' ≡ r → ResolvesTo scope made x r → ResolvesTo scope made x r'
  same_resolved x r r' is f = carried scope made x x r r' refl is f

  pub defaults_resolve : (at : ℕ) (x y : TreeExpr) (a b r : Expr) → ResolvesTo scope made x a → ResolvesTo scope made y b → IsDefaults at a b r → ResolvesTo scope made (e.Defaults at x y) r
  defaults_resolve at x y a b (Defaults' place u s v t) f g is = resolves-Defaults scope made at x y place u s v t is.0 (same_resolved x a s is.1 f) (same_resolved y b t is.2 g)
  defaults_resolve at x y a b _ f g is = absurd is

  pub unary_resolves : (operator : Prefix) (at : ℕ) (x : TreeExpr) (a r : Expr) → ResolvesTo scope made x a → IsUnary at (prefix_of operator) a r → ResolvesTo scope made (e.Prefix operator at x) r
  unary_resolves operator at x a (Unary' place op u s) f is = resolves-Prefix scope made operator at x place op u s is.0 is.1 (same_resolved x a s is.2 f)
  unary_resolves operator at x a _ f is = absurd is

  pub both_resolve : (operator : Binary) (at : ℕ) (x y : TreeExpr) (a b r : Expr) → ResolvesTo scope made x a → ResolvesTo scope made y b → IsBoth at (binary_of operator) a b r
      → ResolvesTo scope made (e.Binary operator at x y) r
  both_resolve operator at x y a b (Both' place op u s v t) f g is =
      resolves-Binary scope made operator at x y place op u s v t is.0 is.1 (same_resolved x a s is.2 f) (same_resolved y b t is.3 g)
  both_resolve operator at x y a b _ f g is = absurd is

  pub choice_resolves : (at : ℕ) (x y z : TreeExpr) (a b d r : Expr) → ResolvesTo scope made x a → ResolvesTo scope made y b → ResolvesTo scope made z d → IsChoice at a b d r
      → ResolvesTo scope made (e.If at x y z) r
  choice_resolves at x y z a b d (Choice' place u s v t w q) f g h is =
      resolves-If scope made at x y z place u s v t w q is.0 (same_resolved x a s is.1 f) (same_resolved y b t is.2 g) (same_resolved z d q is.3 h)
  choice_resolves at x y z a b d _ f g h is = absurd is

same_growth : (old new : Made) (r r' : Expr) → r' ≡ r → GrowsBy old new r → GrowsBy old new r'
same_growth old new r r' is g = subst (λ (q : Expr). GrowsBy old new q) (sym is) g

both_grow : (old mid new : Made) (r r' s s' : Expr) → r' ≡ r → s' ≡ s → GrowsBy old mid r → GrowsBy mid new s
    → Grows old new (listed window_number r' ++ listed window_number s') (listed literal_text r' ++ listed literal_text s')
both_grow old mid new r r' s s' is so g h =
    grows_then old mid new (listed window_number r') (listed literal_text r') (listed window_number s') (listed literal_text s') (same_growth old mid r r' is g) (same_growth mid new s s' so h)

pub defaults_grow : (old mid new : Made) (at : ℕ) (a b r : Expr) → GrowsBy old mid a → GrowsBy mid new b → IsDefaults at a b r → GrowsBy old new r
defaults_grow old mid new at a b (Defaults' place u s v t) g h is = both_grow old mid new a s b t is.1 is.2 g h
defaults_grow old mid new at a b _ g h is = absurd is

pub unary_grows : (old new : Made) (at : ℕ) (operator : ModelPrefix) (a r : Expr) → GrowsBy old new a → IsUnary at operator a r → GrowsBy old new r
unary_grows old new at operator a (Unary' place op u s) g is = same_growth old new a s is.2 g
unary_grows old new at operator a _ g is = absurd is

pub both_grow_by : (old mid new : Made) (at : ℕ) (operator : ModelBinary) (a b r : Expr) → GrowsBy old mid a → GrowsBy mid new b → IsBoth at operator a b r → GrowsBy old new r
both_grow_by old mid new at operator a b (Both' place op u s v t) g h is = both_grow old mid new a s b t is.2 is.3 g h
both_grow_by old mid new at operator a b _ g h is = absurd is

pub choice_grows : (old one two new : Made) (at : ℕ) (a b d r : Expr) → GrowsBy old one a → GrowsBy one two b → GrowsBy two new d → IsChoice at a b d r → GrowsBy old new r
choice_grows old one two new at a b d (Choice' place u s v t w q) g h k is =
    grows_then old one new (listed window_number s) (listed literal_text s) (listed window_number t ++ listed window_number q) (listed literal_text t ++ listed literal_text q)
    (same_growth old one a s is.1 g) (both_grow one two new b t d q is.2 is.3 h k)
choice_grows old one two new at a b d _ g h k is = absurd is
