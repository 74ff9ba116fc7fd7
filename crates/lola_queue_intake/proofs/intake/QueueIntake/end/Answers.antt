use Rattle.std.proofs.Common.{rules, ◌≡◌, ◌∙◌, ◌++◌, ◌∷◌, [], ℕ, List, ap, refl, sym, subst, arith, length, slice_get, Some, append_assoc, append-nil, length-append}
use Rattle.crossbeam_queue.specs.Passes.{Pass, view}
use Rattle.lola_model.specs.Journal.{opening_time}
use Rattle.lola_merge.proofs.Answering.{none_left}
use Rattle.lola_queue_intake.specs.declared.item.Item.{Item}
use Rattle.lola_queue_intake.specs.declared.delivery.Known.{Known}
use Rattle.lola_queue_intake.specs.declared.delivery.View.{View}
use Rattle.lola_queue_intake.specs.Deliveries.{number_of, known_of, with_returned, with_items}
use Rattle.lola_queue_intake.specs.Intakes.{IntakeId, SourceShown, TakerShown, AgreesWith, entries, taken, Mirrors}
use Rattle.lola_queue_intake.proofs.QueueSteps.{merges}
use Rattle.lola_queue_intake.proofs.Views.{get_mid, each_more}
use Rattle.lola_queue_intake.proofs.Seating.{seat_of}
use Rattle.lola_queue_intake.proofs.Finishing.{whole}
use Rattle.lola_queue_intake.proofs.intake.QueueIntake.end.Goals as goal

abbrev knows : Pass Item View → View
knows p = view p

-- the taker's view, with these sources back
abbrev with_known : List Known → View → View
with_known known v = record v { known = known }

pub absorb-requires-clause-queue : goal.absorb-requires-clause-queue
absorb-requires-clause-queue g c =
    let inv = c.loop-seat.invariant in
    let p = c.in-Some.seat in
    let done = c.loop-seat.yielded in
    let at : slice_get c.args.seats.items (length done) ≡ Some p = ap (λ l. slice_get l (length done)) (sym (ap (λ l. done ++ l) (sym c.in-Some.ensures.steps.0) ∙ (inv.split ∙ c.into_iter-seat-iterator.ensures.into_iter_gives.0)))
    ∙ get_mid done c.next.new.self.rest.items p in
    let own = seat_of c.args.self c.args.seats.items c.requires.seats (length done) p at in
    let e = c.into_pass-theirs.ensures in
    (inv.own, (ap (λ z. z.table_id) e ∙ (ap (λ (z : SourceShown). z.intake.queue) c.seat.view_is ∙ (ap (λ (z : IntakeId). z.queue) own ∙ sym (ap (λ (z : IntakeId). z.queue) c.self.view_is))), ap (λ z. z.me.1) e ∙ c.seat.invariant.0))

pub absorb-requires-clause-rule : goal.absorb-requires-clause-rule
absorb-requires-clause-rule g c =
    let t = c.into_pass-theirs.result in
    let p = c.loop-seat.pass in
    merges p.id (view p) t.id (view t) c.seat.inside.source
    (ap (λ (u : View). u.role) c.loop-seat.invariant.known.1 ∙ (ap (λ (z : Pass Item View). (knows z).role) c.into_pass-pass.ensures ∙ c.taker.invariant.1))
    (ap (λ (z : Pass Item View). (knows z).role) c.into_pass-theirs.ensures ∙ c.seat.invariant.1)

pub take_back-requires-clause-own : goal.take_back-requires-clause-own
take_back-requires-clause-own g c =
    let inv = c.loop-seat.invariant in
    let p = c.in-Some.seat in
    let done = c.loop-seat.yielded in
    let at : slice_get c.args.seats.items (length done) ≡ Some p = ap (λ l. slice_get l (length done)) (sym (ap (λ l. done ++ l) (sym c.in-Some.ensures.steps.0) ∙ (inv.split ∙ c.into_iter-seat-iterator.ensures.into_iter_gives.0)))
    ∙ get_mid done c.next.new.self.rest.items p in
    let own = seat_of c.args.self c.args.seats.items c.requires.seats (length done) p at in
    (inv.word.0, ap (λ (z : SourceShown). z.intake.word) c.seat.view_is ∙ (ap (λ (z : IntakeId). z.word) own ∙ sym (ap (λ (z : IntakeId). z.word) c.self.view_is)))

pub loop-seat-preserved : goal.loop-seat-preserved
loop-seat-preserved g c =
    let inv = c.loop-seat.invariant in
    let p = c.in-Some.seat in
    let done = c.loop-seat.yielded in
    let theirs = view c.into_pass-theirs.result in
    let known = inv.known.0 in
    let back = c.take_back.ensures in
    let seen = c.loop-seat.word_seat.me.0.known in
    let found : ℕ = c.seat.inside.word.me.0.found in
    let tells : AgreesWith (known_of theirs) p = subst (λ (z : Pass Item View). AgreesWith (known_of (knows z)) p) (sym c.into_pass-theirs.ensures)
    (subst (λ (q : SourceShown). AgreesWith (known_of (view c.seat.inside.pass.pass)) q) c.seat.view_is (ap number_of c.seat.invariant.1, refl, refl)) in
    let their_word = each_more (λ (n : ℕ) (q : SourceShown). n ≡ q.closed) seen done found p inv.their_word.0 inv.their_word.1 (ap (λ (z : SourceShown). z.closed) c.seat.view_is) in record {
      goes = search rules;
      own = (c.absorb.ensures.queue.0 ∙ inv.own.0, c.absorb.ensures.queue.2 ∙ inv.own.1);
      word = (back.same.0 ∙ inv.word.0, back.same.1 ∙ inv.word.1, ap (λ m. m.1) back.taken ∙ inv.word.2);
      known = (
        known ++ known_of theirs ∷ [],
        c.absorb.ensures.rule ∙ ap (λ (u : View). with_returned u theirs) inv.known.1,
        (let e = inv.known.2 in omega (arith, length-append known (known_of theirs ∷ []), length-append done (p ∷ []))),
        each_more AgreesWith known done (known_of theirs) p inv.known.2 inv.known.3 tells,
      );
      split = append_assoc done (p ∷ []) c.next.new.self.rest.items ∙ (ap (λ l. done ++ l) (sym c.in-Some.ensures.steps.0) ∙ inv.split);
      closed = ap (λ m. m.0.closed) back.taken ∙ inv.closed;
      their_word = subst (λ (l : List ℕ). (length l ≡ length (done ++ p ∷ [])) × ((s : ℕ) (q : SourceShown) → slice_get (done ++ p ∷ []) s ≡ Some q → (n : ℕ) × (slice_get l s ≡ Some n) × (n ≡ q.closed))) (sym (ap (λ m. m.0.known) back.taken))
          ((let e = inv.their_word.0 in omega (arith, length-append seen (found ∷ []), length-append done (p ∷ []))), their_word);
    }

pub drain-requires-clause-queue : goal.drain-requires-clause-queue
drain-requires-clause-queue g c = let inv = c.loop-seat.invariant in let of = c.of-pass.ensures.0 in (ap (λ z. z.table_id) of ∙ inv.own.0, ap (λ z. z.me.1) of ∙ inv.own.1)

pub drain-requires-clause-taker : goal.drain-requires-clause-taker
drain-requires-clause-taker g c =
    let inv = c.loop-seat.invariant in
    let known = inv.known.0 in
    let done = c.loop-seat.yielded in
    let left = c.loop-seat.seat-iterator.rest in
    let all : done ≡ c.args.seats.items = sym (append-nil done) ∙ (ap (λ l. done ++ l) (sym (none_left left.items (sym left.ok.0 ∙ c.in-None.ensures.steps.0))) ∙ (inv.split ∙ c.into_iter-seat-iterator.ensures.into_iter_gives.0)) in
    let u : view c.of-pass.result.pass ≡ with_known known (view c.taker.inside.pass.pass) = ap knows c.of-pass.ensures.0 ∙ (inv.known.1 ∙ ap (λ (z : Pass Item View). with_known known (knows z)) c.into_pass-pass.ensures) in (
      ap (λ (x : View). x.role) u ∙ c.taker.invariant.1,
      ap (λ (x : View). length x.known) u ∙ (inv.known.2 ∙ (ap length all ∙ (c.requires.all ∙ (sym (ap (λ (z : TakerShown). z.sources) c.taker.view_is) ∙ (sym c.taker.invariant.3 ∙ sym (ap (λ (x : View). x.made) u)))))),
    )

pub drain-requires-clause-empty : goal.drain-requires-clause-empty
drain-requires-clause-empty g c = (c.taker.invariant.7, c.taker.invariant.8.closed)

pub returns : goal.returns
returns g c =
    let inv = c.loop-seat.invariant in
    let known = inv.known.0 in
    let done = c.loop-seat.yielded in
    let left = c.loop-seat.seat-iterator.rest in
    let all : done ≡ c.args.seats.items = sym (append-nil done) ∙ (ap (λ l. done ++ l) (sym (none_left left.items (sym left.ok.0 ∙ c.in-None.ensures.steps.0))) ∙ (inv.split ∙ c.into_iter-seat-iterator.ensures.into_iter_gives.0)) in
    let s = c.taker.inside in
    let v0 = view s.pass.pass in
    let v = view c.drain.new.pass.pass in
    let popped = c.drain.ensures.popped in
    let more = popped.0 in
    let before : view c.of-pass.result.pass ≡ with_known known v0 = ap knows c.of-pass.ensures.0 ∙ (inv.known.1 ∙ ap (λ (z : Pass Item View). with_known known (knows z)) c.into_pass-pass.ensures) in
    let is : v ≡ with_items (with_known known v0) more = popped.1 ∙ ap (λ (u : View). with_items u more) before in
    let whole_mirror = c.drain.ensures.mirrors s.start (entries (opening_time s.start) v0.mine)
    (subst (λ (u : View). Mirrors s.start u.mine (entries (opening_time s.start) v0.mine) s.merging) (sym before) c.taker.invariant.8) in
    whole c.args.taker v more c.args.seats.items c.take.new.into c.drain.new.merging c.loop-seat.word_seat.me.0
    (ap (λ (u : View). u.made) is ∙ (c.taker.invariant.3 ∙ ap (λ (z : TakerShown). z.sources) c.taker.view_is))
    (ap (λ (u : View). u.mine) is ∙ ap (λ (z : TakerShown). z.popped ++ more) c.taker.view_is)
    c.drain.ensures.settled
    (subst (λ (z : TakerShown). Mirrors z.start v.mine (taken z) c.drain.new.merging) c.taker.view_is whole_mirror)
    c.take.ensures.moved
    (subst (λ (l : List SourceShown). (s : ℕ) (p : SourceShown) → slice_get l s ≡ Some p → (k : Known) × (slice_get v.known s ≡ Some k) × AgreesWith k p) all
    (λ s p at. let k = inv.known.3 s p at in (k.0, ap (λ (u : View). slice_get u.known s) is ∙ k.1, k.2)))
    (subst (λ (l : List SourceShown). (s : ℕ) (p : SourceShown) → slice_get l s ≡ Some p → slice_get c.loop-seat.word_seat.me.0.known s ≡ Some p.closed) all
    (λ s p at. let k = inv.their_word.1 s p at in k.1 ∙ ap Some k.2))
    c.end.ensures
    (inv.closed ∙ ap (λ (z : TakerShown). z.closed) c.taker.view_is)
