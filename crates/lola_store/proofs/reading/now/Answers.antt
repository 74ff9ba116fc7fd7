use Rattle.std.proofs.Common.{◌∙◌, sym, subst, IsTrue}
use Rattle.lola_value.specs.declared.value.Outcome.{Outcome}
use Rattle.lola_model.specs.Store.{instances_seen, is_outcome_of}
use Rattle.lola_store.specs.Stores.{whole_seen}
use Rattle.lola_store.proofs.Asking.{now_found, of_kind}
use Rattle.lola_store.proofs.Places.{found_below}
use Rattle.lola_store.proofs.Recalling.{shown_kind}
use Rattle.lola_store.proofs.reading.now.Goals as goal

pub instance-requires : goal.instance-requires
instance-requires c = found_below c.args.params.now (instances_seen (whole_seen c.args.s.now) c.args.stream) c.in-Some.i c.in-Some.ensures

pub returns-in-Some-clause-value : goal.returns-in-Some-clause-value
returns-in-Some-clause-value c =
    c.now.ensures ∙ now_found c.args.s.now c.args.stream c.args.params.now c.in-Some.i c.instance.result.now c.if-is_bad.ensures c.in-Some.ensures c.instance.ensures

pub returns-in-Some-clause-kind : goal.returns-in-Some-clause-kind
returns-in-Some-clause-kind c =
    of_kind c.args.s.now c.args.stream c.in-Some.i c.instance.result.now c.now.result c.instance.ensures
    (λ k ps h. subst (λ (o : Outcome). IsTrue (is_outcome_of k o)) (sym c.now.ensures) (shown_kind k c.args.s.now.step c.instance.result.now h.outcome))
