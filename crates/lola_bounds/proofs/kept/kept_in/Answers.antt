use Rattle.std.proofs.Common.{◌≡◌, ◌+◌, ℕ, sym, subst, List, Some, length, map}
use Rattle.std.proofs.lemmas.Result.{IfOk-weaker}
use Rattle.std.specs.List.{slice_get}
use Rattle.lola_model.specs.Bounds.{offset_onto, offsets_onto, IsKept}
use Rattle.lola_model.specs.Parts.{listed_streams}
use Rattle.lola_model.specs.declared.spec.Stream.{Stream}
use Rattle.lola_bounds.specs.Offsets.{IsRaised}
use Rattle.lola_bounds.proofs.KeptLemmas.{raised_small, kept_each}
use Rattle.lola_bounds.proofs.kept.kept_in.Goals as goal

pub one_more-requires : goal.one_more-requires
one_more-requires c =
    let found : IsRaised (λ n. listed_streams (offset_onto n) c.as_slice.result.now) c.args.room.now.items c.deref.result.now =
    subst (λ (xs : List ℕ). IsRaised (λ n. listed_streams (offset_onto n) c.as_slice.result.now) c.args.room.now.items xs) (sym c.deref.ensures.value) c.raise_by_streams.ensures in
    raised_small c.args.spec.now (length c.args.spec.now.streams) c.args.room.now.items c.deref.result.now c.requires.small c.requires.room
    (subst (λ (ss : List Stream). IsRaised (λ n. listed_streams (offset_onto n) ss) c.args.room.now.items c.deref.result.now) c.as_slice.ensures found)

pub returns-clause-each : goal.returns-clause-each
returns-clause-each c =
    let found : IsRaised (λ n. listed_streams (offset_onto n) c.as_slice.result.now) c.args.room.now.items c.deref.result.now =
    subst (λ (xs : List ℕ). IsRaised (λ n. listed_streams (offset_onto n) c.as_slice.result.now) c.args.room.now.items xs) (sym c.deref.ensures.value) c.raise_by_streams.ensures in
    let raised : IsRaised (λ n. offsets_onto n c.args.spec.now) c.args.room.now.items c.deref.result.now =
    subst (λ (ss : List Stream). IsRaised (λ n. listed_streams (offset_onto n) ss) c.args.room.now.items c.deref.result.now) c.as_slice.ensures found in
    IfOk-weaker c.one_more.result (λ (numbers : List ℕ). numbers ≡ map (λ k. 1 + k) c.deref.result.now) (λ (numbers : List ℕ). (n k : ℕ) → slice_get numbers n ≡ Some k → IsKept c.args.spec.now n k)
    (λ numbers e n k at. kept_each c.args.spec.now (length c.args.spec.now.streams) c.args.room.now.items c.deref.result.now c.requires.room raised n k (subst (λ (xs : List ℕ). slice_get xs n ≡ Some k) e at))
    c.one_more.ensures
