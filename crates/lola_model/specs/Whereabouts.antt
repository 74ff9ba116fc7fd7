-- Where an instance stands that is looked for.
use Rattle.std.specs.Prelude.{ℕ, ◌≡◌, Some, Bool, true, false, List, IsTrue, nat_eq, slice_get}
use Rattle.lola_value.specs.declared.value.Kind.{Kind}
use Rattle.lola_value.specs.declared.value.Params.{Params}
use Rattle.lola_value.specs.Kinds.{are_of_kinds, same_params}
use Rattle.lola_value.specs.Naming.{the_values}
use Rattle.lola_model.specs.Store.{SeenInstance}
use Rattle.lola_model.specs.declared.store.Whereabouts.{Whereabouts}
use Rattle.lola_model.specs.declared.store.Whereabouts.TheVariants.{At, Nowhere, Unknown}

-- it may stand at a place
abbrev pub may_stand_at : Whereabouts → ℕ → Bool
may_stand_at (At i) j = nat_eq i j
may_stand_at Nowhere j = false
may_stand_at Unknown j = true

-- other parameters than these, of the kinds of a stream
pub record AreOthers (kinds : List Kind) (p q : Params) : Type 0 where
  pub kinds_are : IsTrue (are_of_kinds kinds (the_values q))
  pub other : same_params p q ≡ false

-- of the instances of a stream, each that stands elsewhere has other parameters than these
abbrev pub StandsOnlyAt : Whereabouts → List Kind → Params → List SeenInstance → Type 0
StandsOnlyAt w kinds p xs = (i : ℕ) (x : SeenInstance) → slice_get xs i ≡ Some x → may_stand_at w i ≡ false → AreOthers kinds p x.params
