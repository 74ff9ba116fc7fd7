use Rattle.std.proofs.Common.{◌≡◌, ◌∙◌, length, take, refl, sym, ap, subst, add-one, arith, slice_get, Some, IsTrue}
use Rattle.std.proofs.lemmas.Option.{slice_get_read}
use Rattle.lola_value.specs.Kinds.{is_outcome_of}
use Rattle.lola_model.specs.Given.{after_each, after_given}
use Rattle.lola_model.specs.Store.{Seen, IsRunning, instances_seen, is_silent, kind_in, now_seen}
use Rattle.lola_model.proofs.Giving.{count_given, each_next, given_none, now_given, outcome_held, outcome_of_kind}
use Rattle.lola_store.specs.Stores.{whole_seen}
use Rattle.lola_store.proofs.giving.give_each.Goals as goal

pub loop-i-init : goal.loop-i-init
loop-i-init c = record {
  seen = given_none (whole_seen c.args.s.now) c.args.stream;
  past = λ names n i values held h. h;
}

pub give-requires-clause-running : goal.give-requires-clause-running
give-requires-clause-running c = subst IsRunning (sym c.loop-i.invariant.seen) c.requires.running

pub give-requires-clause-index : goal.give-requires-clause-index
give-requires-clause-index c =
    let same = ap (λ (s : Seen). length (instances_seen s c.args.stream)) c.loop-i.invariant.seen ∙ count_given (whole_seen c.args.s.now) c.args.stream (take c.loop-i.i c.args.outcomes.now) in
    omega arith

pub give-requires-clause-silent : goal.give-requires-clause-silent
give-requires-clause-silent c =
    let s = whole_seen c.args.s.now in
    let same = ap (λ (s : Seen). now_seen s c.args.stream c.loop-i.i) c.loop-i.invariant.seen ∙ now_given s c.args.stream c.args.outcomes.now c.loop-i.i in
    subst (λ o. IsTrue (is_silent o)) (sym same) (c.requires.silent c.loop-i.i)

pub give-requires-clause-kind : goal.give-requires-clause-kind
give-requires-clause-kind c =
    let rs = c.args.outcomes.now in
    let read = c.index-outcomes-i.result in
    let r = c.widen.result in
    let at : slice_get rs c.loop-i.i ≡ Some r = slice_get_read rs (length rs) c.loop-i.i read refl (omega arith) c.index-outcomes-i.is ∙ ap Some (sym c.widen.ensures) in
    subst (λ (s : Seen). IsTrue (is_outcome_of (kind_in (slice_get s.layout.streams c.args.stream)) r)) (sym c.loop-i.invariant.seen)
    (outcome_of_kind (kind_in (slice_get (whole_seen c.args.s.now).layout.streams c.args.stream)) rs c.loop-i.i r c.requires.kinds at)

pub loop-i-preserved : goal.loop-i-preserved
loop-i-preserved c =
    let s = whole_seen c.args.s.now in
    let n = c.args.stream in
    let i = c.loop-i.i in
    let rs = c.args.outcomes.now in
    let read = c.index-outcomes-i.result in
    let r = c.widen.result in
    let at : slice_get rs i ≡ Some r = slice_get_read rs (length rs) i read refl (omega arith) c.index-outcomes-i.is ∙ ap Some (sym c.widen.ensures) in
    record {
      seen = c.give.ensures.seen ∙ ap (λ (t : Seen). after_given t n i r) c.loop-i.invariant.seen ∙ each_next s n rs i r at ∙ ap (λ k. after_each s n (take k rs)) (sym (add-one i));
      past = λ names m j values held h. c.give.ensures.past names m j values (outcome_held names rs i r held at) (c.loop-i.invariant.past names m j values held h);
    }
