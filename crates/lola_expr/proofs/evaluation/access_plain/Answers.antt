-- An access without arguments: each way of reading answers as the content does.
use Rattle.std.proofs.Common.{◌∙◌, [], ap, sym, subst}
use Rattle.lola_value.specs.declared.value.Outcome.{Outcome}
use Rattle.lola_value.specs.Naming.{IsHeldIn, read_outcome}
use Rattle.lola_model.specs.Accesses.{answer_of}
use Rattle.lola_model.specs.Store.{no_params}
use Rattle.lola_expr.proofs.Located.{now_answers, newest_answers}
use Rattle.lola_model.proofs.Lookups.{back_answers}
use Rattle.lola_expr.proofs.evaluation.access_plain.Goals as goal

pub returns-in-Direct-clause-value : goal.returns-in-Direct-clause-value
returns-in-Direct-clause-value g c = λ names c' h s.
    let w = now_answers names h (g.S.StreamStore.remembers c.args.store.now) (g.S.StreamStore.seen c.args.store.now) c' s c.args.stream no_params tt in
    let same = c.widen.ensures ∙ c.now_alone.ensures.value in (
      ap (read_outcome names) same ∙ (w.value ∙ ap (λ how. answer_of c' how c.args.stream []) (sym c.in-Direct.is)),
      subst (λ (o : Outcome). IsHeldIn names o) (sym same) w.held,
    )

pub returns-in-Get-clause-value : goal.returns-in-Get-clause-value
returns-in-Get-clause-value g c = λ names c' h s.
    let w = now_answers names h (g.S.StreamStore.remembers c.args.store.now) (g.S.StreamStore.seen c.args.store.now) c' s c.args.stream no_params tt in
    let same = c.widen-in-Get.ensures ∙ c.now_alone-in-Get.ensures.value in (
      ap (read_outcome names) same ∙ (w.value ∙ ap (λ how. answer_of c' how c.args.stream []) (sym c.in-Get.is)),
      subst (λ (o : Outcome). IsHeldIn names o) (sym same) w.held,
    )

pub returns-in-Hold-clause-value : goal.returns-in-Hold-clause-value
returns-in-Hold-clause-value g c = λ names c' h s.
    let w = newest_answers names h (g.S.StreamStore.remembers c.args.store.now) (g.S.StreamStore.seen c.args.store.now) c' s c.args.stream no_params tt c.newest_alone.result c.newest_alone.ensures.living in (
      ap (read_outcome names) c.widen-in-Hold.ensures ∙ (w.value ∙ ap (λ how. answer_of c' how c.args.stream []) (sym c.in-Hold.is)),
      subst (λ (o : Outcome). IsHeldIn names o) (sym c.widen-in-Hold.ensures) w.held,
    )

pub returns-in-Offset-clause-value : goal.returns-in-Offset-clause-value
returns-in-Offset-clause-value g c = λ names c' h s.
    let w = back_answers names h (g.S.StreamStore.remembers c.args.store.now) (g.S.StreamStore.seen c.args.store.now) c' s c.args.stream no_params tt c.in-Offset.k c.back_alone.result c.back_alone.ensures.living in (
      ap (read_outcome names) c.widen-in-Offset.ensures ∙ (w.0 ∙ ap (λ how. answer_of c' how c.args.stream []) (sym c.in-Offset.is)),
      subst (λ (o : Outcome). IsHeldIn names o) (sym c.widen-in-Offset.ensures) w.1,
    )
