use Rattle.std.proofs.Common.{◌∙◌, sym, ap, slice_index_or, arith}
use Rattle.lola_model.specs.Activity.{satisfies_some}
use Rattle.lola_pacing_normal.proofs.KeptLemmas.{kept_skip, kept_put_in, many_kept, kept_others}
use Rattle.lola_pacing_normal.proofs.least.least_of.Goals as goal

pub loop-candidate-preserved-then-has_all_of_one : goal.loop-candidate-preserved-then-has_all_of_one
loop-candidate-preserved-then-has_all_of_one c =
    kept_skip c.args.candidates.now c.loop-candidate.candidate-index c.loop-candidate.kept.items c.loop-candidate-test.true
    (ap (satisfies_some (slice_index_or c.args.candidates.now c.loop-candidate.candidate-index 0)) (sym c.deref.ensures.value) ∙ (sym c.has_all_of_one.ensures ∙ c.if-has_all_of_one.true))
    c.loop-candidate.invariant

pub returns-then-len-eq-WIDEST-clause-many : goal.returns-then-len-eq-WIDEST-clause-many
returns-then-len-eq-WIDEST-clause-many c e =
    many_kept c.args.candidates.now c.loop-candidate.candidate-index c.loop-candidate.kept.items c.loop-candidate-test.true c.requires
    (ap (satisfies_some (slice_index_or c.args.candidates.now c.loop-candidate.candidate-index 0)) (sym c.deref.ensures.value) ∙ (sym c.has_all_of_one.ensures ∙ c.if-has_all_of_one.false))
    c.loop-candidate.invariant (omega (arith, c.len.ensures, c.if-len-eq-WIDEST.true, c.loop-candidate.kept.ok))

pub put_in-requires-clause-other : goal.put_in-requires-clause-other
put_in-requires-clause-other c =
    kept_others (slice_index_or c.args.candidates.now c.loop-candidate.candidate-index 0) c.loop-candidate.kept.items
    (ap (satisfies_some (slice_index_or c.args.candidates.now c.loop-candidate.candidate-index 0)) (sym c.deref.ensures.value) ∙ (sym c.has_all_of_one.ensures ∙ c.if-has_all_of_one.false))

pub loop-candidate-preserved : goal.loop-candidate-preserved
loop-candidate-preserved c =
    kept_put_in c.args.candidates.now c.loop-candidate.candidate-index c.loop-candidate.kept.items c.put_in.new.sets.items c.loop-candidate-test.true c.requires
    (ap (satisfies_some (slice_index_or c.args.candidates.now c.loop-candidate.candidate-index 0)) (sym c.deref.ensures.value) ∙ (sym c.has_all_of_one.ensures ∙ c.if-has_all_of_one.false))
    c.loop-candidate.invariant (λ e. c.if-len-eq-WIDEST.false (omega (arith, c.len.ensures, e, c.loop-candidate.kept.ok))) c.in_ok-put_in.ensures
