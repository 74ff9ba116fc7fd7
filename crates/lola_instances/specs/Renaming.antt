-- A naming that has more texts serves as well.
use Rattle.std.specs.Prelude.{ℕ, List}
use Rattle.lola_value.specs.declared.text.Field.{Field}
use Rattle.lola_value.specs.Naming.{Naming}
use Rattle.lola_model.specs.Reading.{IsHeldBy}
use Rattle.lola_instances_stream.proofs.Beginnings.{renamed_at}
use Rattle.lola_instances.specs.declared.store.BoundedStore.{BoundedStore}
use Rattle.lola_instances.specs.Phases.{start_in, time_in}
use Rattle.lola_instances.specs.Stores.{bounded_remembers}
use Rattle.lola_instances.specs.Streams.{slot_at}

pub bounded_renamed : (s : BoundedStore) (names more : Naming) (n i : ℕ) (values : List (ℕ × Field)) → IsHeldBy names more → bounded_remembers s names n i values → bounded_remembers s more n i values
bounded_renamed s names more n i values k h = renamed_at names more (start_in s.phase) (time_in s.phase) s.step (slot_at s.streams.items n i) values k h
