use Rattle.std.proofs.Common.{Bool, ◌≡◌, ℕ, ◌+◌, ◌<◌, ◌++◌, ◌∷◌, [], List, cond, length, ap, sym, subst, ◌∙◌, arith, true, false}
use Rattle.std.specs.Vec.{vec_capacity}
use Rattle.std.proofs.lemmas.List.{length-append}
use Rattle.lola_model.specs.Dues.{is_due}
use Rattle.lola_instances_one.specs.Queues.{births_of, IsEntry}
use Rattle.lola_instances_one.proofs.DuePlaces.{IsListing, listing_all, listing_more, no_entry, none_behind, number_due, one_due, same_sum}
use Rattle.lola_instances_one.proofs.listing.list_first.Goals as goal
use Rattle.lola_instances_one.proofs.listing.list_first.Goals.{then-is_entry_due+else-place-births, else-is_entry_due}

pub returns-then-time-entry-clause-places : goal.returns-then-time-entry-clause-places
returns-then-time-entry-clause-places c = λ _.
    let rates = c.args.rates.now in
    let time = c.args.time in
    let bs = c.args.births.now in
    let queue = c.args.queue.now.items in
    let h = c.loop-i.invariant in
    let none = none_behind rates time c.args.passed queue c.loop-i.i c.index-entry.result.now c.requires.queue c.requires.in_time (omega arith) c.index-entry.ensures c.if-passed-time.true c.if-time-entry.true in
    let same : number_due rates time bs ≡ number_due rates time (births_of queue) = same_sum (λ b. cond (is_due rates b time) 1 0) bs (births_of queue) c.requires.same in
    listing_all rates time bs c.loop-i.places.items c.loop-i.from h.listing (let e = h.number in omega arith)

pub is_entry_due-requires-clause-right : goal.is_entry_due-requires-clause-right
is_entry_due-requires-clause-right c =
    subst (IsEntry c.args.rates.now c.args.passed) (sym c.index-entry.ensures) (c.requires.queue.entries c.loop-i.i c.index-entry.result.now (omega arith))

pub loop-i-preserved : goal.loop-i-preserved
loop-i-preserved c =
    let rates = c.args.rates.now in
    let time = c.args.time in
    let bs = c.args.births.now in
    let queue = c.args.queue.now.items in
    let i = c.loop-i.i in
    let e = c.index-entry.result.now in
    let h = c.loop-i.invariant in
    let number = h.number in
    let split = one_due rates time queue i e (omega arith) c.index-entry.ensures in
    elim c.if-is_entry_due.branch [
      | then-is_entry_due+else-place-births w ↦
          let place = w.place_from-place.result in
          let due : is_due rates e.born time ≡ true = sym c.is_entry_due.ensures ∙ w.if-is_entry_due.true in
          let one : cond {A = ℕ} (is_due rates e.born time) 1 0 ≡ 1 = ap (λ (t : Bool). cond {A = ℕ} t 1 0) due in
          let within : place < length bs = omega (arith, w.place_from-place.ensures.within, w.if-place-births.false) in
          let made : c.if-is_entry_due.places.items ≡ c.loop-i.places.items ++ place ∷ [] = (λ j. (w.places-is j).items) ∙ w.push_reserved.ensures.items in
          let longer = ap (λ (ps : List ℕ). length ps) made ∙ length-append c.loop-i.places.items (place ∷ []) in
          let listing : IsListing rates time bs (c.loop-i.places.items ++ place ∷ []) (place + 1) =
          listing_more rates time bs c.loop-i.places.items c.loop-i.from place e.born h.listing w.place_from-place.ensures.from within (sym (w.place_from-place.ensures.born e.born within)) due in
          record {
            listing = subst (λ n. IsListing rates time bs c.if-is_entry_due.places.items n) (sym w.from-is) (subst (λ ps. IsListing rates time bs ps (place + 1)) (sym made) listing);
            number = omega arith;
            few = let few = h.few in let from = w.place_from-place.ensures.from in let is = w.from-is in omega arith;
            capacity = ap vec_capacity w.places-is ∙ (w.push_reserved.ensures.capacity ∙ h.capacity);
          }
      | else-is_entry_due w ↦
          let not_due : is_due rates e.born time ≡ false = sym c.is_entry_due.ensures ∙ w.if-is_entry_due.false in
          let none : cond {A = ℕ} (is_due rates e.born time) 1 0 ≡ 0 = ap (λ (t : Bool). cond {A = ℕ} t 1 0) not_due in
          let made : c.if-is_entry_due.places.items ≡ c.loop-i.places.items = λ j. (w.places-is j).items in
          let longer = ap (λ (ps : List ℕ). length ps) made in
          record {
            listing = subst (λ n. IsListing rates time bs c.if-is_entry_due.places.items n) (sym w.from-is) (subst (λ ps. IsListing rates time bs ps c.loop-i.from) (sym made) h.listing);
            number = omega arith;
            few = let few = h.few in let is = w.from-is in omega arith;
            capacity = ap vec_capacity w.places-is ∙ h.capacity;
          }
    ]

pub returns-clause-places : goal.returns-clause-places
returns-clause-places c = λ _.
    let rates = c.args.rates.now in
    let time = c.args.time in
    let bs = c.args.births.now in
    let queue = c.args.queue.now.items in
    let h = c.loop-i.invariant in
    let none = no_entry rates time queue c.loop-i.i (omega arith) in
    let same : number_due rates time bs ≡ number_due rates time (births_of queue) = same_sum (λ b. cond (is_due rates b time) 1 0) bs (births_of queue) c.requires.same in
    listing_all rates time bs c.loop-i.places.items c.loop-i.from h.listing (let e = h.number in omega arith)
