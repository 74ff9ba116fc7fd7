use Rattle.std.proofs.Common.{◌≡◌, ◌∙◌, ℕ, Option, List, MatchOption, subst, ap}
use Rattle.lola_value.specs.declared.text.Field.{Field}
use Rattle.lola_value.specs.Naming.{Naming, read_outcome, IsHeldIn}
use Rattle.lola_model.specs.Reading.{held_answer}
use Rattle.lola_model.specs.Store.{instances_seen, now_of}
use Rattle.lola_store.specs.declared.instance.Instance.{Instance}
use Rattle.lola_store.specs.Instances.{RecallsAt}
use Rattle.lola_instances.specs.Phases.{time_in}
use Rattle.lola_store.specs.Stores.{whole_seen, whole_remembers}
use Rattle.lola_store.proofs.Asking.{now_found, of_kind}
use Rattle.lola_store.proofs.Places.{found_below}
use Rattle.lola_store.proofs.reading.newest.Goals as goal

pub instance-requires : goal.instance-requires
instance-requires c = found_below c.args.params.now (instances_seen (whole_seen c.args.s.now) c.args.stream) c.in-Some.i c.in-Some.ensures

pub returns-in-Some-clause-living : goal.returns-in-Some-clause-living
returns-in-Some-clause-living c =
    let s = c.args.s.now in
    let n = c.args.stream in
    let p = c.args.params.now in
    let r = c.newest.result in
    let e = now_found s n p c.in-Some.i c.instance.result.now c.if-is_bad.ensures c.in-Some.ensures c.instance.ensures in
    subst (λ (o : Option ℕ). MatchOption o (r ≡ now_of (whole_seen s) n p)
    (λ i. (names : Naming) (values : List (ℕ × Field)) → whole_remembers s names n i values
    → IsHeldIn names (now_of (whole_seen s) n p)
    → (read_outcome names r ≡ held_answer (read_outcome names (now_of (whole_seen s) n p)) values) × IsHeldIn names r)) c.in-Some.ensures
    (λ names values m held.
    let h = subst (λ (o : Option Instance). RecallsAt (time_in s.phase) s.step names o values) c.instance.ensures m in
    let a = c.newest.ensures.value (time_in s.phase) names values h in
    (a.0 ∙ ap (λ o. held_answer (read_outcome names o) values) e, a.1))

pub returns-in-Some-clause-kind : goal.returns-in-Some-clause-kind
returns-in-Some-clause-kind c =
    of_kind c.args.s.now c.args.stream c.in-Some.i c.instance.result.now c.newest.result c.instance.ensures (λ k ps h. c.newest.ensures.kind k h.outcome h.values)
