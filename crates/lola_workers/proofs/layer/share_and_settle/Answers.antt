use Rattle.std.proofs.Common.{◌≡◌, ℕ, ◌+◌, ◌-◌, ◌<◌, ◌≤◌, ◌∙◌, inl, inr, List, IsSomeAnd, arith, length, slice_get, subst, sym}
use Rattle.std.proofs.lemmas.Bool.{cases_lt}
use Rattle.lola_value.specs.declared.value.Outcome.{Outcome}
use Rattle.lola_workers.proofs.layer.share_and_settle.Goals as goal

-- where the tasks below a place are settled and so many more are, those below the place behind them are
settled_more : (Gives : ℕ → Outcome → Type 0) (old new : List Outcome) (start more : ℕ)
    → ((k : ℕ) → k < start → IsSomeAnd (slice_get old k) (Gives k))
    → ((k : ℕ) → k < start → slice_get new k ≡ slice_get old k)
    → ((k : ℕ) → k < more → IsSomeAnd (slice_get new (start + k)) (Gives (start + k)))
    → (k : ℕ) → k < start + more → IsSomeAnd (slice_get new k) (Gives k)
settled_more Gives old new start more settled before done k within =
    elim (cases_lt k start) [
      | inl below ↦ subst (λ o. IsSomeAnd o (Gives k)) (sym (before k below)) (settled k below)
      | inr above ↦
          let at : start + (k - start) ≡ k = omega (arith, above) in
          subst (λ n. IsSomeAnd (slice_get new n) (Gives n)) at (done (k - start) (omega (arith, within, above)))
    ]

pub loop-start-preserved : goal.loop-start-preserved
loop-start-preserved g c = record {
  same_length = c.settle-start.ensures.length ∙ c.loop-start.invariant.same_length;
  within = omega (arith, c.settle-start.ensures.within, c.settle-start.ensures.length);
  settled = settled_more (g.J.Job.gives c.args.job.now) c.loop-start.results c.settle-start.new.results c.loop-start.start c.settle-start.result
      c.loop-start.invariant.settled c.settle-start.ensures.before c.settle-start.ensures.done;
}
