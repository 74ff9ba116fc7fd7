use Rattle.std.proofs.Common.{◌≡◌, ◌∙◌, length, map, take, refl, sym, ap, subst, add-one, slice_get, Some, IsTrue}
use Rattle.std.proofs.lemmas.Option.{slice_get_read}
use Rattle.lola_value.specs.Kinds.{is_outcome_of}
use Rattle.lola_model.specs.Given.{given_at, given_each}
use Rattle.lola_model.specs.Store.{is_silent, now_at}
use Rattle.lola_model.proofs.Giving.{given_later, given_next, given_nothing, outcome_held, outcome_of_kind}
use Rattle.lola_instances_one.specs.Holdings.{slot_seen}
use Rattle.lola_instances_stream.specs.Crowds.{Crowd, shown_at}
use Rattle.lola_instances_stream.proofs.Finding.{seen_at}
use Rattle.lola_instances_stream.proofs.giving.give_in_turn.Goals as goal

pub loop-i-init : goal.loop-i-init
loop-i-init c = record {
  right = c.requires.right;
  rest = refl;
  count = refl;
  seen = given_nothing (map (slot_seen c.args.step) c.args.lives.now.slots);
  past = λ start time names i values o l held m. m;
}

pub give_one-requires-clause-silent : goal.give_one-requires-clause-silent
give_one-requires-clause-silent c =
    let step = c.args.step in
    let i = c.loop-i.i in
    let old = c.args.lives.now.slots in
    let same : shown_at step (slice_get c.loop-i.lives.slots i) ≡ shown_at step (slice_get old i) =
    sym (seen_at step c.loop-i.lives.slots i) ∙ ap (λ xs. now_at (slice_get xs i)) c.loop-i.invariant.seen
    ∙ ap now_at (given_later (map (slot_seen step) old) c.args.outcomes.now i) ∙ seen_at step old i in
    subst (λ o. IsTrue (is_silent o)) (sym same) (c.requires.silent i)

pub give_one-requires-clause-kind : goal.give_one-requires-clause-kind
give_one-requires-clause-kind c =
    let rs = c.args.outcomes.now in
    let r = c.index-outcomes-i.result in
    let at : slice_get rs c.loop-i.i ≡ Some r = slice_get_read rs (length rs) c.loop-i.i r refl c.loop-i-test.true c.index-outcomes-i.is in
    subst (λ k. IsTrue (is_outcome_of k r)) (sym (ap (λ (l : Crowd). l.layout.kind) c.loop-i.invariant.rest))
    (outcome_of_kind c.args.lives.now.layout.kind rs c.loop-i.i r c.requires.kinds at)

pub loop-i-preserved : goal.loop-i-preserved
loop-i-preserved c =
    let step = c.args.step in
    let i = c.loop-i.i in
    let rs = c.args.outcomes.now in
    let r = c.index-outcomes-i.result in
    let at : slice_get rs i ≡ Some r = slice_get_read rs (length rs) i r refl c.loop-i-test.true c.index-outcomes-i.is in
    let old = map (slot_seen step) c.args.lives.now.slots in
    record {
      right = c.give_one.ensures.right;
      rest = c.give_one.ensures.rest ∙ ap (λ (l : Crowd). record l { slots = c.give_one.new.lives.slots }) c.loop-i.invariant.rest;
      count = c.give_one.ensures.count ∙ c.loop-i.invariant.count;
      seen = c.give_one.ensures.seen ∙ ap (λ xs. given_at xs i r) c.loop-i.invariant.seen ∙ given_next r old rs i at ∙ ap (λ k. given_each old (take k rs)) (sym (add-one i));
      past = λ start time names j values o l held m.
          c.give_one.ensures.past start time names j values o l (outcome_held names rs i r held at) (c.loop-i.invariant.past start time names j values o l held m);
    }
