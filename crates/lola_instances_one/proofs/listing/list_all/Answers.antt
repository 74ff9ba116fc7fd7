use Rattle.std.proofs.Common.{◌≡◌, ℕ, ◌<◌, ◌++◌, ◌∷◌, [], List, length, get_or, ap, sym, ◌∙◌, arith, true, false}
use Rattle.std.specs.Vec.{vec_capacity}
use Rattle.std.proofs.lemmas.List.{get_or_default, length-append}
use Rattle.lola_model.specs.Dues.{is_due}
use Rattle.lola_instances_one.proofs.DuePlaces.{due_no, due_yes}
use Rattle.lola_instances_one.proofs.listing.list_all.Goals as goal
use Rattle.lola_instances_one.proofs.listing.list_all.Goals.{then-is_due, else-is_due}

pub loop-place-preserved : goal.loop-place-preserved
loop-place-preserved c =
    let rates = c.args.rates.now in
    let time = c.args.time in
    let bs = c.args.births.now in
    let n = c.loop-place.place in
    let b = get_or bs n 0 in
    let within : n < length bs = omega arith in
    let is : b ≡ get_or bs n b = get_or_default bs n 0 b within in
    elim c.if-is_due.branch [
      | then-is_due w ↦
          let made : c.if-is_due.places.items ≡ c.loop-place.places.items ++ n ∷ [] = (λ j. (w.places-is j).items) ∙ w.push_reserved.ensures.items in
          let due : is_due rates b time ≡ true = sym c.is_due.ensures ∙ w.if-is_due.true in
          record {
            places = made ∙ (ap (λ ps. ps ++ n ∷ []) c.loop-place.invariant.places ∙ sym (due_yes rates time bs n b within is due));
            few = let e = ap (λ (ps : List ℕ). length ps) made in let more = length-append c.loop-place.places.items (n ∷ []) in let h = c.loop-place.invariant.few in omega arith;
            capacity = ap vec_capacity w.places-is ∙ (w.push_reserved.ensures.capacity ∙ c.loop-place.invariant.capacity);
          }
      | else-is_due w ↦
          let not_due : is_due rates b time ≡ false = sym c.is_due.ensures ∙ w.if-is_due.false in
          record {
            places = (λ j. (w.places-is j).items) ∙ (c.loop-place.invariant.places ∙ sym (due_no rates time bs n b within is not_due));
            few = let e = ap (λ p. length p.items) w.places-is in let h = c.loop-place.invariant.few in omega arith;
            capacity = ap vec_capacity w.places-is ∙ c.loop-place.invariant.capacity;
          }
    ]
