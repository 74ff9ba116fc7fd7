use Rattle.std.proofs.Common.{◌≡◌, length, ap, subst, sym, ◌∙◌, arith}
use Rattle.std.specs.List.{list_all}
use Rattle.lola_merge.proofs.Answering.{TakeFits, all_at, some_at}
use Rattle.lola_merge.proofs.state.MergeState.take.Goals as goal
use Rattle.lola_merge.proofs.state.MergeState.take.Goals.{then-all, else-all}

pub returns-clause-cause : goal.returns-clause-cause
returns-clause-cause c = let s = c.self.inside in
    let none : length s.pending ≡ 0 = (let e = ap length c.swap.ensures.y_after in let n = c.len-count.ensures in let z = c.if-count-gt0.false in omega arith) in
    let all = ap (λ bits. list_all (λ b. b) bits) c.as_slice.ensures.value in
    subst (λ m. TakeFits m c.if-all.result) c.self.view_is (elim c.if-all.branch [
      | then-all w ↦ subst (TakeFits record { pending = s.pending; merged = s.merged; finished = s.finished.items; closed = s.closed }) (sym w.result-is) (none, λ k l. all_at s.finished.items k (sym all ∙ (sym c.all.ensures ∙ w.if-all.true)) l)
      | else-all w ↦ subst (TakeFits record { pending = s.pending; merged = s.merged; finished = s.finished.items; closed = s.closed }) (sym w.result-is) (none, some_at s.finished.items (sym all ∙ (sym c.all.ensures ∙ w.if-all.false)))
    ])
