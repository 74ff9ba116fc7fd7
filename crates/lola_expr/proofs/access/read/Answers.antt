-- Each way of reading answers as the content does.
use Rattle.std.proofs.Common.{◌∙◌, ap, sym, subst}
use Rattle.lola_value.specs.declared.value.Outcome.{Outcome}
use Rattle.lola_value.specs.Naming.{IsHeldIn, read_outcome, read_params}
use Rattle.lola_model.specs.Accesses.{answer_of}
use Rattle.lola_expr.proofs.Located.{now_answers, newest_answers}
use Rattle.lola_model.proofs.Lookups.{back_answers}
use Rattle.lola_expr.proofs.access.read.Goals as goal

pub returns-in-Direct-clause-value : goal.returns-in-Direct-clause-value
returns-in-Direct-clause-value g c = λ names c' h k s.
    let w = now_answers names h (g.S.StreamStore.remembers c.args.store.now) (g.S.StreamStore.seen c.args.store.now) c' s c.args.stream c.args.params.now k in (
      ap (read_outcome names) c.now.ensures.value ∙ (w.value ∙ ap (λ how. answer_of c' how c.args.stream (read_params names c.args.params.now)) (sym c.in-Direct.is)),
      subst (λ (o : Outcome). IsHeldIn names o) (sym c.now.ensures.value) w.held,
    )

pub returns-in-Get-clause-value : goal.returns-in-Get-clause-value
returns-in-Get-clause-value g c = λ names c' h k s.
    let w = now_answers names h (g.S.StreamStore.remembers c.args.store.now) (g.S.StreamStore.seen c.args.store.now) c' s c.args.stream c.args.params.now k in (
      ap (read_outcome names) c.now-in-Get.ensures.value ∙ (w.value ∙ ap (λ how. answer_of c' how c.args.stream (read_params names c.args.params.now)) (sym c.in-Get.is)),
      subst (λ (o : Outcome). IsHeldIn names o) (sym c.now-in-Get.ensures.value) w.held,
    )

pub returns-in-Hold-clause-value : goal.returns-in-Hold-clause-value
returns-in-Hold-clause-value g c = λ names c' h k s.
    let w = newest_answers names h (g.S.StreamStore.remembers c.args.store.now) (g.S.StreamStore.seen c.args.store.now) c' s c.args.stream c.args.params.now k c.newest.result c.newest.ensures.living in
    (w.value ∙ ap (λ how. answer_of c' how c.args.stream (read_params names c.args.params.now)) (sym c.in-Hold.is), w.held)

pub returns-in-Offset-clause-value : goal.returns-in-Offset-clause-value
returns-in-Offset-clause-value g c = λ names c' h k s.
    let w = back_answers names h (g.S.StreamStore.remembers c.args.store.now) (g.S.StreamStore.seen c.args.store.now) c' s c.args.stream c.args.params.now k c.in-Offset.k c.back.result c.back.ensures.living in
    (w.0 ∙ ap (λ how. answer_of c' how c.args.stream (read_params names c.args.params.now)) (sym c.in-Offset.is), w.1)
