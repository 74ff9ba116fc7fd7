use Rattle.std.proofs.Common.{rules, ◌≡◌, ◌∙◌, ◌+◌, ◌++◌, ◌∷◌, [], ℕ, List, ap, sym, subst, map, length, slice_get, Some, append_assoc, append-nil}
use Rattle.std.proofs.lemmas.List.{map-append}
use Rattle.lola_model.specs.declared.journal.Entry.{Entry}
use Rattle.lola_intake.specs.Intakes.{Shown, Whole, shown}
use Rattle.lola_intake.proofs.Seating.{seat_of}
use Rattle.lola_intake.proofs.Telling.{knows, get_mid, get_more, none_left, whole}
use Rattle.lola_intake.proofs.intake.Intake.end.Goals as goal

pub take_back-requires-clause-own : goal.take_back-requires-clause-own
take_back-requires-clause-own c = let inv = c.loop-seat.invariant in let p = c.in-Some.seat in
    let at : slice_get c.args.seats.items (length c.loop-seat.yielded) ≡ Some p = ap (λ l. slice_get l (length c.loop-seat.yielded)) (sym (ap (λ l. c.loop-seat.yielded ++ l) (sym c.in-Some.ensures.steps.0) ∙ (inv.split ∙ c.into_iter-seat-iterator.ensures.into_iter_gives.0)))
    ∙ get_mid c.loop-seat.yielded c.next.new.self.rest.items p in
    (inv.own, ap (λ z. z.intake) c.seat.view_is ∙ (seat_of c.args.self c.args.seats.items c.requires.seats (length c.loop-seat.yielded) p at ∙ sym c.self.view_is))

pub loop-seat-preserved : goal.loop-seat-preserved
loop-seat-preserved c = let inv = c.loop-seat.invariant in let taken = c.take_back.ensures.taken in let p = c.in-Some.seat in record {
  goes = search rules;
  own = search rules;
  first = (c.take_back.ensures.same.0.1 ∙ inv.first.0, c.take_back.ensures.same.1);
  same = (ap (λ v. v.setting) taken ∙ inv.same.0, ap (λ v. v.caller) taken ∙ inv.same.1, ap (λ v. v.made) taken ∙ inv.same.2, ap (λ v. v.seen) taken ∙ inv.same.3, ap (λ v. v.mine) taken ∙ inv.same.4);
  split = append_assoc c.loop-seat.yielded (p ∷ []) c.next.new.self.rest.items ∙ (ap (λ l. c.loop-seat.yielded ++ l) (sym c.in-Some.ensures.steps.0) ∙ inv.split);
  right = get_more (λ (q : Shown). q.caller ≡ q.source + 1) c.loop-seat.yielded p inv.right (subst (λ (q : Shown). q.caller ≡ q.source + 1) c.seat.view_is c.seat.invariant.1);
  known = ap (λ v. v.known) taken ∙ (ap (λ k. k ++ knows (shown c.seat.inside.seat.table_id c.seat.inside.source c.seat.inside.seat.me.0) ∷ []) inv.known
      ∙ (ap (λ q. map knows c.loop-seat.yielded ++ knows q ∷ []) c.seat.view_is ∙ sym (map-append knows c.loop-seat.yielded (p ∷ []))));
}

pub returns : goal.returns
returns c = let inv = c.loop-seat.invariant in let p = c.engine.inside.seat in let left = c.loop-seat.seat-iterator.rest in let k = c.engine.invariant in
    let all : c.loop-seat.yielded ≡ c.args.seats.items = sym (append-nil c.loop-seat.yielded) ∙ (ap (λ l. c.loop-seat.yielded ++ l) (sym (none_left left.items (sym left.ok.0 ∙ c.in-None.ensures.steps.0))) ∙ (inv.split ∙ c.into_iter-seat-iterator.ensures.into_iter_gives.0)) in
    let right : (s : ℕ) (q : Shown) → slice_get c.args.seats.items s ≡ Some q → q.caller ≡ q.source + 1 = subst (λ l. (s : ℕ) (q : Shown) → slice_get l s ≡ Some q → q.caller ≡ q.source + 1) all inv.right in
    subst (λ z. Whole z c.args.seats.items c.take.new.into) c.engine.view_is (subst (λ (l : List Entry). Whole (shown p.table_id 0 p.me.0) c.args.seats.items l) (sym c.take.ensures.moved)
    (whole p.table_id c.loop-seat.first.me.0 p.me.0 c.args.seats.items c.end-merging.result k.0.0.1.0 c.end-merging.ensures k.0.0.1.1 inv.same.0 k.2 inv.same.1 k.3 inv.same.2 inv.same.3 inv.same.4 (inv.known ∙ ap (map knows) all)
    (c.requires.all ∙ ap (λ (z : Shown). z.setting.sources) (sym c.engine.view_is)) right))
