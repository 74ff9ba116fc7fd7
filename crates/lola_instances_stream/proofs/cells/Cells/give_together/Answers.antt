-- Where no cell is empty, the cells are the instances that live, and each is given its outcome.
use Rattle.std.proofs.Common.{◌≡◌, ◌∙◌, ℕ, ◌<◌, ◌++◌, List, Option, Some, Bool, length, map, take, drop, sym, ap, subst, arith, slice_get, get_or}
use Rattle.std.proofs.lemmas.List.{length-map}
use Rattle.lola_value.specs.declared.value.Outcome.{Outcome}
use Rattle.lola_instances_one.specs.Holdings.{Holdings}
use Rattle.lola_instances_stream.specs.Cells.{AreKnown, IsLine, IsSlotChanged, Line, living}
use Rattle.lola_instances_stream.specs.Givings.{AreGiven, AreReadyFor, HasGivenAt, IsReadyAt}
use Rattle.lola_instances_stream.specs.Listings.{Listing}
use Rattle.lola_instances_stream.proofs.Gifts.{cells_full, cells_given, cells_ready, known_given, ready_count, written_back}
use Rattle.lola_instances_stream.proofs.cells.Cells.give_together.Goals as goal

module _ (step offset : ℕ) (cells lent : List (Option Holdings)) (value : lent ≡ cells) (full : length (living cells) ≡ length cells) (rs : List Outcome) (ready : AreReadyFor offset (living cells) rs) where
  all : lent ≡ map Some (living cells)
  all = value ∙ cells_full cells full

  lent_ready : (i : ℕ) (d : Option Holdings) → i < length lent → IsReadyAt offset (slice_get rs i) (get_or lent i d)
  lent_ready i d l = subst (λ xs. i < length xs → IsReadyAt offset (slice_get rs i) (get_or xs i d)) (sym all) (cells_ready offset (living cells) rs ready i d) l

  module _ (ys : List (Option Holdings)) (count : length ys ≡ length lent)
      (each : (i : ℕ) (d : Option Holdings) → i < length lent → IsSlotChanged (HasGivenAt step offset (slice_get rs i)) (get_or lent i d) (get_or ys i d)) where
    got : (ys ≡ map Some (living ys)) × AreGiven step offset (living cells) rs (living ys)
    got =
        cells_given step offset (living cells) rs ys (ready_count offset (living cells) rs ready) (count ∙ ap length value ∙ sym full)
        (subst (λ xs. (i : ℕ) (d : Option Holdings) → i < length xs → IsSlotChanged (HasGivenAt step offset (slice_get rs i)) (get_or xs i d) (get_or ys i d)) all each)

    back : (n : ℕ) → n ≡ length cells → take n (ys ++ drop (length ys) cells) ≡ ys
    back n e = written_back n cells ys e (count ∙ ap length value)

    line : (bits : List Bool) (table : Listing) (empty capacity memory n : ℕ) → n ≡ length cells → empty ≡ 0 → IsLine cells bits table empty capacity memory
        → IsLine (take n (ys ++ drop (length ys) cells)) bits table empty capacity memory
    line bits table empty capacity memory n e z was = subst (λ zs. IsLine zs bits table empty capacity memory) (sym (back n e))
        (record {
          known = subst (λ zs. AreKnown zs bits table) (sym got.0) (known_given step offset (living cells) rs (living ys) got.1 bits table (subst (λ zs. AreKnown zs bits table) (cells_full cells full) was.known));
          count = let k = ap length got.0 ∙ length-map (living ys) Some in omega arith;
          room = was.room;
          long = was.long;
        })

pub give_cells-requires-clause-ready : goal.give_cells-requires-clause-ready
give_cells-requires-clause-ready g c κs within =
    let cells = c.self.inside.cells.items in
    let full : length (living cells) ≡ length cells = (let was = c.self.invariant.count in omega arith) in
    let ready = subst (λ (l : Line). AreReadyFor c.args.offset l.items c.args.outcomes.now) (sym c.self.view_is) c.requires.ready in
    record {
      count = ready_count c.args.offset (living cells) c.args.outcomes.now ready ∙ (full ∙ sym (ap length c.as_mut_slice.ensures.value));
      each = lent_ready c.args.step c.args.offset cells c.as_mut_slice.result.now c.as_mut_slice.ensures.value full c.args.outcomes.now ready;
    }

pub invariant_of-self : goal.invariant_of-self
invariant_of-self g c =
    let cells = c.self.inside.cells.items in
    let full : length (living cells) ≡ length cells = (let was = c.self.invariant.count in omega arith) in
    line c.args.step c.args.offset cells c.as_mut_slice.result.now c.as_mut_slice.ensures.value full c.args.outcomes.now
    (subst (λ (l : Line). AreReadyFor c.args.offset l.items c.args.outcomes.now) (sym c.self.view_is) c.requires.ready)
    c.give_cells.new.cells c.give_cells.ensures.count c.give_cells.ensures.each c.self.inside.flags c.self.inside.table c.self.inside.empty c.self.inside.capacity c.self.inside.cells.cap c.self.inside.cells.len
    (omega (arith, c.self.inside.cells.ok.0)) (omega arith) c.self.invariant

pub returns-clause-given : goal.returns-clause-given
returns-clause-given g c = λ yes.
    let cells = c.self.inside.cells.items in
    let full : length (living cells) ≡ length cells = (let was = c.self.invariant.count in omega arith) in
    let ready = subst (λ (l : Line). AreReadyFor c.args.offset l.items c.args.outcomes.now) (sym c.self.view_is) c.requires.ready in
    let given = c.give_cells.ensures in
    let all = (got c.args.step c.args.offset cells c.as_mut_slice.result.now c.as_mut_slice.ensures.value full c.args.outcomes.now ready c.give_cells.new.cells given.count given.each).1 in
    let same = back c.args.step c.args.offset cells c.as_mut_slice.result.now c.as_mut_slice.ensures.value full c.args.outcomes.now ready c.give_cells.new.cells given.count given.each c.self.inside.cells.len (omega (arith, c.self.inside.cells.ok.0)) in
    subst (λ zs. AreGiven c.args.step c.args.offset c.args.self.now.items c.args.outcomes.now (living zs)) (sym same)
    (subst (λ (l : Line). AreGiven c.args.step c.args.offset l.items c.args.outcomes.now (living c.give_cells.new.cells)) c.self.view_is all)
