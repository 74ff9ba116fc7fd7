use Rattle.std.proofs.Common.{◌≡◌, ◌∙◌, ◌+◌, ◌-◌, ℕ, Some, ap, arith, refl, slice_get, slice_index_or, subst, sym}
use Rattle.std.proofs.lemmas.Option.{slice_get-get_or}
use Rattle.lola_model.specs.Store.{Seen, Stands}
use Rattle.lola_step.specs.Notes.{IsClosable}
use Rattle.lola_step.specs.declared.tasks.Task.{Task}
use Rattle.lola_step.proofs.Closable.{earlier_before}
use Rattle.lola_step.proofs.Leaving.{stands_closing, stands_first, still_of, stays_closable}
use Rattle.lola_step.proofs.closes.close_all.Goals as goal

pub loop-left-init : goal.loop-left-init
loop-left-init g c = record {
  within = omega arith;
  of = c.requires.of;
  phase = refl;
  steps = refl;
  closable = λ i t lt e. c.requires.closable.each i t e;
  stands = λ names content stands. stands_first names (g.S.StreamStore.remembers c.args.store.now) (g.S.StreamStore.seen c.args.store.now) content c.args.closing.now stands;
}

pub close-requires-clause-spawns : goal.close-requires-clause-spawns
close-requires-clause-spawns g c =
    let i : ℕ = c.loop-left.left - 1 in
    (c.loop-left.invariant.closable i (slice_index_or c.args.closing.now i (record { stream = 0; index = 0 })) (omega arith) (slice_get-get_or c.args.closing.now i _ (omega arith))).spawns

pub close-requires-clause-index : goal.close-requires-clause-index
close-requires-clause-index g c =
    let i : ℕ = c.loop-left.left - 1 in
    (c.loop-left.invariant.closable i (slice_index_or c.args.closing.now i (record { stream = 0; index = 0 })) (omega arith) (slice_get-get_or c.args.closing.now i _ (omega arith))).lives

pub loop-left-preserved : goal.loop-left-preserved
loop-left-preserved g c =
    let ts = c.args.closing.now in
    let i : ℕ = c.loop-left.left - 1 in
    let t : Task = slice_index_or ts i (record { stream = 0; index = 0 }) in
    let at : slice_get ts i ≡ Some t = slice_get-get_or ts i _ (omega arith) in
    let s : Seen = g.S.StreamStore.seen c.loop-left.store in
    let now : Seen = g.S.StreamStore.seen c.close.new.store in
    let here : IsClosable s t = c.loop-left.invariant.closable i t (omega arith) at in
    let left : c.loop-left.left ≡ i + 1 = omega arith in
    record {
      within = omega arith;
      of = still_of s t.stream t.index here.lives c.args.plan.now c.loop-left.invariant.of here.spawns now c.close.ensures.seen;
      phase = ap (λ (r : Seen). r.phase) c.close.ensures.seen ∙ c.loop-left.invariant.phase;
      steps = ap (λ (r : Seen). r.steps) c.close.ensures.seen ∙ c.loop-left.invariant.steps;
      closable = λ j u lt e.
          stays_closable s t.stream t.index here.lives now c.close.ensures.seen u (c.loop-left.invariant.closable j u (omega arith) e)
          (earlier_before (g.S.StreamStore.seen c.args.store.now) ts c.requires.closable (i - j - 1) j u t e (subst (λ k. slice_get ts k ≡ Some t) (omega arith) at));
      stands = λ names content stands.
          stands_closing names (g.S.StreamStore.remembers c.close.new.store) now content ts c.loop-left.left i t at left
          (λ d e. c.close.ensures.stands names d (subst (Stands names (g.S.StreamStore.remembers c.loop-left.store) s) (sym e) (c.loop-left.invariant.stands names content stands)));
    }
