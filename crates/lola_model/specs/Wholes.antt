-- The whole expressions of a specification, in the order of the text, each with what is asked of it where it stands.
use Rattle.std.specs.Prelude.{ℕ, ◌+◌, List, [], ◌∷◌, ◌++◌, Option, Some, None, Bool, true, ◌&&◌, flat_map, map, drop, unwrap_or, slice_get}
use Rattle.lola_value.specs.declared.value.Kind.{Kind}
use Rattle.lola_value.specs.declared.value.Kind.TheVariants as kind
use Rattle.lola_model.specs.Parts.{listed}
use Rattle.lola_model.specs.declared.expr.Expr.{Expr}
use Rattle.lola_model.specs.declared.spec.Spec.{Spec}
use Rattle.lola_model.specs.declared.spec.Stream.{Stream}
use Rattle.lola_model.specs.declared.spec.Clause.{Clause}
use Rattle.lola_model.specs.declared.spec.Part.{Part}
use Rattle.lola_model.specs.declared.spec.Part.TheVariants as part

-- a whole expression: its stream and clause, the parameters in its scope, the kind that it has to be of, and the
-- place of the token before it
pub record Whole : Type 0 where
  pub stream : ℕ
  pub clause : Part
  pub parameters : List Kind
  pub want : Kind
  pub before : ℕ
  pub expr : Expr

-- a condition, which is a truth value
abbrev pub condition_wholes : ℕ → Part → List Kind → ℕ → Option Expr → List Whole
condition_wholes n p ks at None = []
condition_wholes n p ks at (Some e) = record { stream = n; clause = p; parameters = ks; want = kind.Bool; before = at; expr = e } ∷ []

-- expressions with the kinds that they have to be of; those that have none are of Int64
abbrev pub with_wholes : ℕ → Part → List Kind → List Kind → List ℕ → List Expr → List Whole
with_wholes n p ks wants ats [] = []
with_wholes n p ks wants ats (e ∷ es) =
    record { stream = n; clause = p; parameters = ks; want = unwrap_or (slice_get wants 0) kind.Int64; before = unwrap_or (slice_get ats 0) 0; expr = e }
    ∷ with_wholes n p ks (drop 1 wants) (drop 1 ats) es

-- a clause, whose parameters and wanted kinds are these
abbrev pub clause_wholes : ℕ → Part → List Kind → List Kind → Option Clause → List Whole
clause_wholes n p ks wants None = []
clause_wholes n p ks wants (Some c) = condition_wholes n p ks c.when_at c.when ++ with_wholes n p ks wants c.with_at c.with

-- a spawn clause has no parameters in scope, and names them
abbrev pub stream_wholes : ℕ → Stream → Kind → List Whole
stream_wholes n s k =
    clause_wholes n part.Spawn [] s.parameters s.spawn
    ++ (clause_wholes n part.Eval s.parameters (k ∷ []) s.eval
    ++ clause_wholes n part.Close s.parameters [] s.close)

-- the streams from number n on, whose kinds are these; those that have none are of Int64
abbrev pub wholes_from : ℕ → List Stream → List (Option Kind) → List Whole
wholes_from n [] kinds = []
wholes_from n (s ∷ ss) kinds =
    stream_wholes n s (unwrap_or (unwrap_or (slice_get kinds 0) None) kind.Int64) ++ wholes_from (n + 1) ss (drop 1 kinds)

-- the kinds that streams have noted
abbrev pub noted_kinds : List Stream → List (Option Kind)
noted_kinds ss = map (λ s. s.kind) ss

-- of a specification whose kinds are noted
abbrev pub wholes_of : Spec → List Whole
wholes_of spec = wholes_from 0 spec.streams (noted_kinds spec.streams)

-- each of them passes a test
abbrev pub all_wholes : (Whole → Bool) → List Whole → Bool
all_wholes f [] = true
all_wholes f (w ∷ ws) = f w && all_wholes f ws

-- what is listed of each part of them
abbrev pub in_wholes : {A : Type 0} → (Expr → List A) → List Whole → List A
in_wholes f ws = flat_map (λ w. listed f w.expr) ws
