use Rattle.std.proofs.Common.{◌≡◌, [], Bool, true, false, not, IsTrue, refl, if◌then◌else◌, subst, slice_get}
use Rattle.lola_value.specs.declared.value.Outcome.{Outcome}
use Rattle.lola_value.specs.declared.value.Outcome.TheVariants as outcome
use Rattle.lola_value.specs.Naming.{Naming, read_outcome}
use Rattle.lola_model.specs.Reading.{spoiled}
use Rattle.lola_model.specs.Store.{is_bad_seen, now_at_place, place_of}
use Rattle.lola_store.specs.Stores.{whole_seen}
use Rattle.lola_store.proofs.reading.answered.Goals as goal

good_of : (b : Bool) (o : Outcome) → ((names : Naming) → false ≡ spoiled (read_outcome names (if b then outcome.Poison else o))) → IsTrue (not b)
good_of true o h = let q : false ≡ true = h [] in cc
good_of false o h = refl

pub folded-requires-clause-good : goal.folded-requires-clause-good
folded-requires-clause-good c =
    let s = whole_seen c.args.s.now in
    let n = c.args.w.now.target in
    good_of (is_bad_seen (slice_get s.streams n)) (now_at_place s n (place_of s n c.args.params.now))
    (λ names. subst (λ (o : Outcome). false ≡ spoiled (read_outcome names o)) c.now.ensures.value (c.if-spoils.ensures names))
