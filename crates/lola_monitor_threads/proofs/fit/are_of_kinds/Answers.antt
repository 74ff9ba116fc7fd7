use Rattle.std.proofs.Common.{◌<◌, length, get_or, subst, arith}
use Rattle.lola_value.specs.declared.value.Kind.TheVariants as kind
use Rattle.lola_model.specs.Trace.{IsFieldOf}
use Rattle.lola_monitor_threads.proofs.Fitting.{as_many, first_left, with_first}
use Rattle.lola_monitor_threads.proofs.fit.are_of_kinds.Goals as goal

pub returns-then-fields-kinds : goal.returns-then-fields-kinds
returns-then-fields-kinds c = (λ t. absurd (cc t), λ all. absurd (c.if-fields-kinds.true (as_many c.args.kinds.now c.args.fields.now all)))

pub loop-at-preserved : goal.loop-at-preserved
loop-at-preserved c =
    let ks = c.args.kinds.now in
    let fs = c.args.fields.now in
    let i = c.loop-at.at in
    let f = c.index-fields-at.result in
    let in_fs : i < length fs = omega arith in
    let in_ks : i < length ks = omega arith in
    let here : IsFieldOf (get_or ks i kind.Bool) (get_or fs i f) = subst (IsFieldOf (get_or ks i kind.Bool)) c.index-fields-at.is (c.is_of_kind.ensures.0 c.if-not-is_of_kind.false) in
    (λ all. (first_left ks fs i kind.Bool f in_ks in_fs (c.loop-at.invariant.0 all)).1, λ rest. c.loop-at.invariant.1 (with_first ks fs i kind.Bool f in_ks in_fs here rest))
