-- A new store.
use Rattle.std.specs.Prelude.{◌≡◌, List, [], ◌∷◌, Bool, true, false, IsTrue, slice_get}
use Rattle.lola_value.specs.Naming.{Naming}
use Rattle.lola_model.specs.Store.{StreamLayout, opened, no_params, kind_in, layout_of}
use Rattle.lola_model.specs.Typing.{takes}
use Rattle.lola_model.specs.declared.plan.Plan.{Plan}
use Rattle.lola_model.specs.declared.spec.WindowSpec.{WindowSpec}
use Rattle.lola_store.specs.declared.instance.Instance.{Instance}
use Rattle.lola_store.specs.declared.population.Population.{Population}
use Rattle.lola_instances_stream.specs.Each.{Each}
use Rattle.lola_store.specs.Instances.{Recalls}
use Rattle.lola_store.specs.Populations.{IsNewborn, PopulationRight, population_layout, population_seen}

-- what of an accepted plan a store stands on: each window's target has a kind that its aggregation takes, and a stream
-- without a spawn clause has no parameters
pub record IsStorable (plan : Plan) : Type 0 where
  pub taken : Each (λ (w : WindowSpec). IsTrue (takes w.using (kind_in (slice_get (layout_of plan).streams w.target)))) (layout_of plan).windows
  pub plain : Each (λ (s : StreamLayout). s.spawns ≡ false → s.parameters ≡ []) (layout_of plan).streams

-- the first instances of a stream: one that was just born, or none where they spawn
abbrev pub AreFirst : Bool → List Instance → Type 0
AreFirst true xs = xs ≡ []
AreFirst false xs = (x : Instance) × (xs ≡ x ∷ []) × IsNewborn 0 no_params x

-- a stream of a new store
pub record IsOpened (l : Population) : Type 0 where
  pub seen : population_seen 1 l ≡ opened (population_layout l)
  pub right : (l.spawns ≡ false → l.parameters ≡ []) → PopulationRight false false 1 l
  pub blank : (names : Naming) → Each (λ x. Recalls 0 1 names x []) l.lives.items
