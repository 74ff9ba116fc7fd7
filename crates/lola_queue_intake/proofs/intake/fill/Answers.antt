use mathlib.Core.Logic.{dite}
use native.Mathlib.Decide.{ℕ_discrete}
use Rattle.std.proofs.Common.{ℕ, ◌≡◌, ◌<◌, ◌≤◌, ◌+◌, ◌++◌, ◌∷◌, [], ◌∙◌, ap, sym, refl, subst, arith, length, append_assoc, append-nil}
use Rattle.crossbeam_queue.specs.Passes.{view}
use Rattle.lola_queue_intake.specs.Deliveries.{rows_in, with_item}
use Rattle.lola_queue_intake.specs.Intakes.{Mirrors, after_item}
use Rattle.lola_queue_intake.proofs.QueueSteps.{pops, settles}
use Rattle.lola_queue_intake.proofs.Mirroring.{mirrors_more, pending_more, still_open, at_most_one}
use Rattle.lola_queue_intake.proofs.intake.fill.Goals as goal

pub loop-init : goal.loop-init
loop-init g c = let v = view c.args.pass.now.pass in record {
  same = (refl, refl, refl);
  popped = ([], ap (λ l. record v { mine = l }) (sym (append-nil v.mine)));
  counts = refl;
  rows = sym (ap length c.requires.empty.0);
  room = omega arith;
  not_closed = c.requires.empty.1;
  mirrors = λ start done h. h;
  sources = refl;
}

pub pop-requires-clause-rule : goal.pop-requires-clause-rule
pop-requires-clause-rule g c = let p = c.loop.pass.pass in let role = ap (λ v. v.role) c.loop.invariant.popped.1 ∙ c.requires.taker in (pops p.id (view p) role, settles p.id (view p) role)

pub loop-preserved : goal.loop-preserved
loop-preserved g c =
    let inv = c.loop.invariant in
    let x = c.in-Some-pop.item in
    let told = c.in-Some-pop.ensures.popped in
    let same = c.in-Some-pop.ensures.queue in
    let m = c.loop.merging in
    let v0 = view c.args.pass.now.pass in
    let after = c.receive-rows.ensures.after in
    let room : length m.pending < 1024 = below c.loop.rows (length m.pending) inv.rows inv.room c.if-rows-eq-MOST.false in record {
      same = (same.0 ∙ inv.same.0, same.1 ∙ inv.same.1, same.2 ∙ inv.same.2);
      popped = (inv.popped.0 ++ x ∷ [], told.0.0 ∙ (ap (λ u. with_item u x) inv.popped.1 ∙ ap (λ l. record v0 { mine = l }) (append_assoc v0.mine inv.popped.0 (x ∷ []))));
      counts = told.1 ∙ inv.counts;
      rows = let a = ap (λ n. length n.pending) after ∙ pending_more m x inv.not_closed room in rows_more c.loop.rows (length m.pending) c.receive-rows.result (length (rows_in (x ∷ []))) (length c.receive-rows.new.merging.pending) inv.rows c.receive-rows.ensures.rows a;
      room = let a = at_most_one x in room_more c.loop.rows (length m.pending) c.receive-rows.result (length (rows_in (x ∷ []))) inv.rows room c.receive-rows.ensures.rows a;
      not_closed = ap (λ n. n.closed) after ∙ still_open m x inv.not_closed room;
      mirrors = λ start done h. subst (λ n. Mirrors start (view c.pop.new.self.pass).mine done n) (sym after)
          (subst (λ l. Mirrors start l done (after_item m x)) (sym (ap (λ u. u.mine) told.0.0)) (mirrors_more start (view c.loop.pass.pass).mine done m x room (inv.mirrors start done h)));
      sources = c.receive-rows.ensures.sources ∙ inv.sources;
    }
  where
    below : (r n : ℕ) → r ≡ n → r ≤ 1024 → (r ≡ 1024 → ⊥) → n < 1024
    below r n e le ne = dite (ℕ_discrete r 1024) (λ is. absurd (ne is)) (λ other. omega arith)

    rows_more : (r n k l m : ℕ) → r ≡ n → k ≡ l → m ≡ n + l → r + k ≡ m
    rows_more r n k l m a b e = omega arith

    room_more : (r n k l : ℕ) → r ≡ n → n < 1024 → k ≡ l → l ≤ 1 → r + k ≤ 1024
    room_more r n k l a b e f = omega arith

pub returns-in-None-pop-clause-mirrors : goal.returns-in-None-pop-clause-mirrors
returns-in-None-pop-clause-mirrors g c = λ start done h. subst (λ v. Mirrors start v.mine done c.loop.merging) (sym c.in-None-pop.ensures.popped.0) (c.loop.invariant.mirrors start done h)
