use Rattle.std.proofs.Common.{ℕ, ◌≡◌, ◌<◌, ◌≤◌, ◌+◌, ◌++◌, ◌∷◌, [], List, ◌∙◌, ap, sym, subst, arith, length, length-append, append_assoc, append-nil}
use Rattle.crossbeam_queue.specs.Passes.{view}
use Rattle.lola_merge.proofs.Answering.{none_left}
use Rattle.lola_queue_intake.specs.declared.item.Item.{Item}
use Rattle.lola_queue_intake.specs.declared.delivery.View.{View}
use Rattle.lola_queue_intake.specs.Deliveries.{rows_in, with_item, items_of_known, Accounts}
use Rattle.lola_queue_intake.specs.Intakes.{Mirrors, after_item}
use Rattle.lola_queue_intake.proofs.QueueSteps.{pops, settles}
use Rattle.lola_queue_intake.proofs.Mirroring.{mirrors_more, pending_more, still_open, at_most_one}
use Rattle.lola_queue_intake.proofs.intake.drain.Goals as goal

pub learn-requires-clause-rule : goal.learn-requires-clause-rule
learn-requires-clause-rule g c = let p = c.args.pass.now.pass in settles p.id (view p) c.requires.taker.0

pub loop-init : goal.loop-init
loop-init g c = let v = view c.args.pass.now.pass in let told = c.learn.ensures in record {
  same = told.queue.0;
  popped = ([], told.queue.1 ∙ ap (λ l. record v { mine = l }) (sym (append-nil v.mine)), let e = ap length c.requires.empty.0 in omega arith);
  room = told.rule.1.room c.requires.taker.1;
  not_closed = c.requires.empty.1;
  mirrors = λ start done h. subst (λ (w : View). Mirrors start w.mine done c.args.merging.now) (sym told.queue.1) h;
}

pub pop-requires-clause-rule : goal.pop-requires-clause-rule
pop-requires-clause-rule g c = let p = c.loop.pass.pass in let role = ap (λ v. v.role) c.loop.invariant.popped.1 ∙ c.requires.taker.0 in (pops p.id (view p) role, settles p.id (view p) role)

pub loop-preserved : goal.loop-preserved
loop-preserved g c =
    let inv = c.loop.invariant in
    let x = c.in-Some-pop.item in
    let told = c.in-Some-pop.ensures.popped in
    let same = c.in-Some-pop.ensures.queue in
    let m = c.loop.merging in
    let v = view c.loop.pass.pass in
    let v0 = view c.args.pass.now.pass in
    let more = inv.popped.0 in
    let is = inv.popped.1 in
    let after = c.receive.ensures.after in
    let left : length (v0.mine ++ more) < items_of_known v0.known = subst (λ (u : View). length u.mine < items_of_known u.known) is (told.0.1 (subst (λ (u : View). length u.known ≡ u.made) (sym is) c.requires.taker.1)) in
    let room : length m.pending < 1024 = below (length m.pending) v0.mine more (items_of_known v0.known) inv.popped.2 left inv.room in record {
      same = (same.0 ∙ inv.same.0, same.1 ∙ inv.same.1, same.2 ∙ inv.same.2);
      popped = (
        more ++ x ∷ [],
        told.0.0 ∙ (ap (λ u. with_item u x) is ∙ ap (λ l. record v0 { mine = l }) (append_assoc v0.mine more (x ∷ []))),
        one_more_pending more x (length m.pending) (length c.receive.new.merging.pending) (ap (λ n. length n.pending) after ∙ pending_more m x inv.not_closed room) inv.popped.2,
      );
      room = inv.room;
      not_closed = ap (λ n. n.closed) after ∙ still_open m x inv.not_closed room;
      mirrors = λ start done h. subst (λ n. Mirrors start (view c.pop.new.self.pass).mine done n) (sym after)
          (subst (λ l. Mirrors start l done (after_item m x)) (sym (ap (λ u. u.mine) told.0.0)) (mirrors_more start v.mine done m x room (inv.mirrors start done h)));
    }
  where
    below : (n : ℕ) (mine more : List Item) (k : ℕ) → n ≤ length more → length (mine ++ more) < k → k ≤ length mine + 1024 → n < 1024
    below n mine more k a b e = omega (arith, length-append mine more)

    one_more_pending : (more : List Item) (x : Item) (n m : ℕ) → m ≡ n + length (rows_in (x ∷ [])) → n ≤ length more → m ≤ length (more ++ x ∷ [])
    one_more_pending more x n m e le = let one = at_most_one x in omega (arith, length-append more (x ∷ []))

pub returns-in-None-pop-clause-settled : goal.returns-in-None-pop-clause-settled
returns-in-None-pop-clause-settled g c =
    let told = c.in-None-pop.ensures.popped in
    let held = told.1 in
    subst (λ (u : View). Accounts u []) (sym told.0) (subst (λ (l : List Item). Accounts (view c.loop.pass.pass) l) (none_left held.0 held.1) held.2)

pub returns-in-None-pop-clause-mirrors : goal.returns-in-None-pop-clause-mirrors
returns-in-None-pop-clause-mirrors g c = λ start done h. subst (λ v. Mirrors start v.mine done c.loop.merging) (sym c.in-None-pop.ensures.popped.0) (c.loop.invariant.mirrors start done h)
