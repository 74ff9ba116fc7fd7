-- What is said of instances is said in at most one way.
use Rattle.std.specs.Prelude.{ℕ, List, [], ◌∷◌}
use Rattle.std.proofs.Props.{props}
use Rattle.lola_value.specs.declared.value.Kind.{Kind}
use Rattle.lola_value.specs.declared.value.Value.{Value}
use Rattle.lola_panes.specs.Standing.{Partials}
use Rattle.lola_instances_one.specs.declared.window.WindowPanes.{WindowPanes}
use Rattle.lola_instances_one.specs.Holdings.{AllOf}
use Rattle.lola_instances_one.specs.Telling.{AllGiven}
use Rattle.lola_instances_one.specs.Unborn.{AllPanesOf}

pub AllOf-prop : (k : Kind) (vs : List Value) → IsProp (AllOf k vs)
AllOf-prop k [] = hlevel props
AllOf-prop k (v ∷ vs) = hlevel (props, AllOf-prop k vs)

pub AllGiven-prop : (offset most : ℕ) (kind : Kind) (ps : List Partials) → IsProp (AllGiven offset most kind ps)
AllGiven-prop offset most kind [] = hlevel props
AllGiven-prop offset most kind (p ∷ ps) = hlevel (props, AllGiven-prop offset most kind ps)

pub AllPanesOf-prop : (ws : List WindowPanes) (ps : List Partials) → IsProp (AllPanesOf ws ps)
AllPanesOf-prop [] [] = hlevel props
AllPanesOf-prop [] (p ∷ ps) = hlevel props
AllPanesOf-prop (w ∷ ws) [] = hlevel props
AllPanesOf-prop (w ∷ ws) (p ∷ ps) = hlevel (props, AllPanesOf-prop ws ps)
