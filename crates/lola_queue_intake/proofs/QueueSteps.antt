-- Each step of the queue keeps its rule.
use Rattle.std.proofs.Common.{◌≡◌, ◌≢◌, ℕ, zero, suc, ◌+◌, ◌<◌, false, List, [], ◌∷◌, ◌++◌, cond, length, set, sym, refl, ap, ◌∙◌, subst, ⊎_elim, arith, append_assoc, length-append, length-set, eqb, eq-eqb, ne_eqb, slice_get, Some}
use mathlib.Core.Logic.{dite}
use native.Mathlib.Decide.{ℕ_discrete}
use mathlib.Core.Option.{some, some-injective, some-ne-none}
use lib.ListN.{get_elem?}
use Rattle.atomic_table.proofs.Lists.{at_set}
use Rattle.crossbeam_queue.specs.Fifo.{Pushes, Pops, Forks, Merges, Learns}
use Rattle.lola_queue_intake.specs.declared.item.Item.{Item}
use Rattle.lola_queue_intake.specs.declared.delivery.Role.{Role}
use Rattle.lola_queue_intake.specs.declared.delivery.Role.TheVariants.{Taker, Source, Returned}
use Rattle.lola_queue_intake.specs.declared.delivery.Known.{Known}
use Rattle.lola_queue_intake.specs.declared.delivery.View.{View}
use Rattle.lola_queue_intake.specs.Deliveries.{most_items, total, source_of, items_of, has_finish, FinishesLast, items_of_known, source_passes, answers_for, taker, with_source_made, pass_made, number_of, known_of, with_returned, spent, with_item, IsViewOf, Delivers, AfterPop, Accounts}
use Rattle.lola_queue_intake.proofs.Views.{all_set, inside, at_snoc, get_snoc, total_set, total_snoc, term_le, total_none}
use Rattle.lola_queue_intake.proofs.Items.{own_item, other_item, finishes_last}

abbrev answered : View → ℕ
answered v = answers_for v.role v.mine v.known

abbrev living : View → ℕ
living v = source_passes v.role

-- a pass has one role
not_both : (r : Role) (s : ℕ) → r ≡ Source s → r ≡ Taker → ⊥
not_both r s a b = let no : Source s ≡ Taker = sym a ∙ b in cc

one_source : (r : Role) (s t : ℕ) → r ≡ Source s → r ≡ Source t → s ≡ t
one_source r s t a b = ap number_of (sym a ∙ b)

pub begins : Delivers [] (taker ∷ [])
begins = record {
  all = [];
  popped = [];
  made = 0;
  known = [];
  seat = λ s. 0;
  split = refl;
  fits = omega arith;
  theirs = λ s le. refl;
  last = λ s. tt;
  living = refl;
  counted = refl;
  each_known = λ j k a. absurd (cc);
  each_pass = all_set (IsViewOf [] [] 0 [] (λ s. 0)) (taker ∷ []) 0 taker
      record { source = λ s e. absurd (not_both Taker s e refl); with_returned = λ e. (refl, refl, refl, refl); first = λ z. refl }
      (λ j v n a. absurd (n (only j v a)));
}
  where
    only : (j : ℕ) (v : View) → get_elem? (taker ∷ []) j ≡ some v → j ≡ 0
    only zero v a = refl
    only (suc j) v a = absurd (some-ne-none v (sym a))

-- a source that has not finished queues an item
pub pushes : (id : ℕ) (v : View) (s : ℕ) (x : Item) → v.role ≡ Source s → source_of x ≡ s → has_finish v.mine ≡ false → Pushes Delivers most_items id v x (λ w. w ≡ with_item v x)
pushes id v s x role own unfinished items views room d at =
    let w : View = with_item v x in
    let all : List Item = d.all ++ x ∷ [] in
    let m = d.each_pass id v at in
    let mine = m.source s role in
    let apart : id ≢ 0 = λ z. not_both v.role s role (m.first z) in
    let other : (t : ℕ) → d.seat t ≢ id → source_of x ≢ t = λ t ne e. ne (ap d.seat (sym e ∙ own) ∙ mine.0) in (
      w,
      record {
        all = all;
        popped = d.popped;
        made = d.made;
        known = d.known;
        seat = d.seat;
        split = ap (λ l. l ++ x ∷ []) d.split ∙ append_assoc d.popped items (x ∷ []);
        fits = omega (arith, length-append items (x ∷ []));
        theirs = λ t le. other_item t x d.all (λ e. let a = mine.1 in let b : s ≡ t = sym own ∙ e in absurd (omega arith)) ∙ d.theirs t le;
        last = λ t. dite (ℕ_discrete (source_of x) t)
            (λ is. subst FinishesLast (sym (own_item t x d.all is ∙ ap (λ l. l ++ x ∷ []) (ap (λ q. items_of q d.all) (sym is ∙ own) ∙ mine.2))) (finishes_last v.mine x unfinished))
            (λ ne. subst FinishesLast (sym (other_item t x d.all ne)) (d.last t));
        living = let t = total_set living views id v w at in let l = d.living in omega arith;
        counted = let t = total_set answered views id v w at in let c = d.counted in
            let before : answered v ≡ length v.mine = ap (λ r. answers_for r v.mine v.known) role in
            let after : answered w ≡ length (v.mine ++ x ∷ []) = ap (λ r. answers_for r (v.mine ++ x ∷ []) v.known) role in
            omega (arith, length-append v.mine (x ∷ []), length-append d.all (x ∷ []));
        each_known = λ j k a. let e = d.each_known j k a in (e.0, e.1, other_item k.source x d.all (other k.source (λ z. apart (sym z ∙ e.0))) ∙ e.2);
        each_pass = all_set (IsViewOf all d.popped d.made d.known d.seat) views id w
            record {
              source = λ t e. let o = m.source t e in (o.0, o.1, own_item t x d.all (own ∙ one_source v.role s t role e) ∙ ap (λ l. l ++ x ∷ []) o.2);
              with_returned = λ e. absurd (not_both v.role s role e);
              first = m.first;
            }
            (λ j u n a. let f = d.each_pass j u a in record {
              source = λ t e. let o = f.source t e in (o.0, o.1, other_item t x d.all (other t (λ z. n (sym o.0 ∙ z))) ∙ o.2);
              with_returned = f.with_returned;
              first = f.first;
            });
      },
      refl,
    )

answers_nothing : (r : Role) (mine : List Item) (known : List Known) → source_passes r ≡ 0 → (r ≡ Taker → ⊥) → answers_for r mine known ≡ 0
answers_nothing Taker mine known none other = absurd (other refl)
answers_nothing (Source s) mine known none other = absurd (omega arith)
answers_nothing Returned mine known none other = refl

-- where all sources came back, the taker answers for all that was queued
alone : (items : List Item) (views : List View) (d : Delivers items views) (id : ℕ) (v : View) → get_elem? views id ≡ some v → v.role ≡ Taker → length v.known ≡ v.made → items_of_known v.known ≡ length d.all
alone items views d id v at role back =
    let t = (d.each_pass id v at).with_returned role in
    let here : get_elem? views 0 ≡ some v = subst (λ z. get_elem? views z ≡ some v) t.0 at in
    let l = d.living in
    let none : total living views ≡ 0 = let a : length v.known ≡ length d.known = ap length t.3 in let b : v.made ≡ d.made = t.2 in omega arith in
    let sum = first_alone views here none (λ j u a e. ((d.each_pass j u a).with_returned e).0) in
    sum ∙ d.counted
  where
    mine : answered v ≡ items_of_known v.known
    mine = ap (λ r. answers_for r v.mine v.known) role

    first_alone : (vs : List View) → get_elem? vs 0 ≡ some v → total living vs ≡ 0 → ((j : ℕ) (u : View) → get_elem? vs j ≡ some u → u.role ≡ Taker → j ≡ 0) → items_of_known v.known ≡ total answered vs
    first_alone [] a none only = absurd (some-ne-none v (sym a))
    first_alone (u ∷ us) a none only =
        let rest : total answered us ≡ 0 = total_none answered us (λ j z b. answers_nothing z.role z.mine z.known (let le = term_le living us j z b in omega arith) (λ e. let o : suc j ≡ 0 = only (suc j) z b e in omega arith)) in
        let same : answered u ≡ items_of_known v.known = ap answered (some-injective u v a) ∙ mine in
        omega arith

-- the taker pops an item
pub pops : (id : ℕ) (v : View) → v.role ≡ Taker → Pops Delivers id v (AfterPop v)
pops id v role x items views d at =
    let w : View = with_item v x in
    let m = d.each_pass id v at in
    let t = m.with_returned role in
    let popped : List Item = d.popped ++ x ∷ [] in (
      w,
      record {
        all = d.all;
        popped = popped;
        made = d.made;
        known = d.known;
        seat = d.seat;
        split = d.split ∙ sym (append_assoc d.popped (x ∷ []) items);
        fits = let f = d.fits in omega arith;
        theirs = d.theirs;
        last = d.last;
        living = let a = total_set living views id v w at in let l = d.living in omega arith;
        counted = let a = total_set answered views id v w at in let c = d.counted in
            let before : answered v ≡ items_of_known v.known = ap (λ r. answers_for r v.mine v.known) role in
            let after : answered w ≡ items_of_known v.known = ap (λ r. answers_for r (v.mine ++ x ∷ []) v.known) role in omega arith;
        each_known = d.each_known;
        each_pass = all_set (IsViewOf d.all popped d.made d.known d.seat) views id w
            record { source = λ s e. absurd (not_both v.role s e role); with_returned = λ e. (t.0, ap (λ l. l ++ x ∷ []) t.1, t.2, t.3); first = m.first }
            (λ j u n a. let f = d.each_pass j u a in record { source = f.source; with_returned = λ e. absurd (n ((f.with_returned e).0 ∙ sym t.0)); first = f.first });
      },
      (
        refl,
        λ back. let n = alone (x ∷ items) views d id v at role back in let s : length d.all ≡ length (d.popped ++ x ∷ items) = ap length d.split in let p : length v.mine ≡ length d.popped = ap length t.1 in
            omega (arith, length-append d.popped (x ∷ items)),
      ),
    )

-- what the taker learns
pub settles : (id : ℕ) (v : View) → v.role ≡ Taker → Learns Delivers id v (Accounts v)
settles id v role items views d at =
    let t = (d.each_pass id v at).with_returned role in
    let whole : v.mine ++ items ≡ d.all = ap (λ l. l ++ items) t.1 ∙ sym d.split in record {
      theirs = λ s le. ap (items_of s) whole ∙ d.theirs s (let e : v.made ≡ d.made = t.2 in omega arith);
      last = λ s. subst (λ l. FinishesLast (items_of s l)) (sym whole) (d.last s);
      known = λ j k a. let e = d.each_known j k (subst (λ l. slice_get l j ≡ Some k) t.3 a) in (subst (λ n. k.source < n) (sym t.2) e.1, ap (items_of k.source) whole ∙ e.2);
      room = λ back. let n = alone items views d id v at role back in let s : length d.all ≡ length (v.mine ++ items) = ap length (sym whole) in let f = d.fits in omega (arith, length-append v.mine items);
    }

-- the taker makes the pass of one more source
pub forks : (id : ℕ) (v : View) → v.role ≡ Taker → Forks Delivers id v (with_source_made v) (pass_made v)
forks id v role items views d at =
    let l : View = with_source_made v in
    let r : View = pass_made v in
    let m = d.each_pass id v at in
    let t = m.with_returned role in
    let vs : List View = set views id l in
    let n : ℕ = length vs in
    let seat : ℕ → ℕ = λ s. cond (eqb s d.made) n (d.seat s) in
    let old : (s : ℕ) → s < d.made → seat s ≡ d.seat s = λ s less. ap (λ b. cond b n (d.seat s)) (ne_eqb s d.made (λ e. omega arith)) in
    let many : 0 < n = let i = inside views id v at in let e : n ≡ length views = length-set views id l in omega arith in
    let F : ℕ → View → Type 0 = IsViewOf d.all d.popped (d.made + 1) d.known seat in
    let before : (j : ℕ) (u : View) → get_elem? vs j ≡ some u → F j u = all_set F views id l
    record { source = λ s e. absurd (not_both v.role s e role); with_returned = λ e. (t.0, t.1, ap (λ k. k + 1) t.2, t.3); first = m.first }
    (λ j u ne a. let f = d.each_pass j u a in record {
      source = λ s e. let o = f.source s e in let less = o.1 in (old s less ∙ o.0, omega arith, o.2);
      with_returned = λ e. absurd (ne ((f.with_returned e).0 ∙ sym t.0));
      first = f.first;
    }) in record {
      all = d.all;
      popped = d.popped;
      made = d.made + 1;
      known = d.known;
      seat = seat;
      split = d.split;
      fits = d.fits;
      theirs = λ s le. d.theirs s (omega arith);
      last = d.last;
      living = let a = total_set living views id v l at in let b = total_snoc living vs r in let c = d.living in omega arith;
      counted = let a = total_set answered views id v l at in let b = total_snoc answered vs r in let c = d.counted in omega arith;
      each_known = λ j k a. let e = d.each_known j k a in let less = e.1 in (old k.source less ∙ e.0, omega arith, e.2);
      each_pass = λ j u a. ⊎_elim (before j u)
          (λ (is : (j ≡ n) × (r ≡ u)). subst (F j) is.1 record {
            source = λ s e. let same : v.made ≡ s = ap number_of e in let e2 : v.made ≡ d.made = t.2 in let at_end : s ≡ d.made = sym same ∙ e2 in
                (ap (λ b. cond b n (d.seat s)) (eq-eqb s d.made at_end) ∙ sym is.0, omega arith, d.theirs s (omega arith));
            with_returned = λ e. absurd (not_both (Source v.made) v.made refl e);
            first = λ z. let e = is.0 in absurd (omega arith);
          })
          (at_snoc vs r u j a);
    }

-- the taker takes a source's pass back
pub merges : (id : ℕ) (v : View) (other : ℕ) (w : View) (s : ℕ) → v.role ≡ Taker → w.role ≡ Source s → Merges Delivers id v other w (with_returned v w) spent
merges id v other w s role source items views d at apart at' =
    let both : View = with_returned v w in
    let vs : List View = set views id both in
    let m = d.each_pass id v at in
    let t = m.with_returned role in
    let was : get_elem? views other ≡ some w = ⊎_elim (λ (x : (other ≡ id) × (both ≡ w)). absurd (apart x.0)) (λ (x : (other ≢ id) × (get_elem? views other ≡ some w)). x.1) (at_set views id other both w at') in
    let theirs = (d.each_pass other w was).source s source in
    let number : number_of w.role ≡ s = ap number_of source in
    let known : List Known = d.known ++ known_of w ∷ [] in
    let seat : ℕ → ℕ = λ q. cond (eqb q s) 0 (d.seat q) in
    let home : (q : ℕ) → q ≡ s → seat q ≡ 0 = λ q e. ap (λ b. cond b 0 (d.seat q)) (eq-eqb q s e) in
    let old : (q : ℕ) → q ≢ s → seat q ≡ d.seat q = λ q ne. ap (λ b. cond b 0 (d.seat q)) (ne_eqb q s ne) in
    let F : ℕ → View → Type 0 = IsViewOf d.all d.popped d.made known seat in
    let G : ℕ → View → Type 0 = λ j u. j ≢ other → F j u in
    let now : (j : ℕ) (u : View) → get_elem? vs j ≡ some u → G j u = all_set G views id both
    (λ _. record { source = λ q e. absurd (not_both v.role q e role); with_returned = λ e. (t.0, t.1, t.2, ap (λ l. l ++ known_of w ∷ []) t.3); first = m.first })
    (λ j u ne a away. let f = d.each_pass j u a in record {
      source = λ q e. let o = f.source q e in (old q (λ is. away (sym o.0 ∙ (ap d.seat is ∙ theirs.0))) ∙ o.0, o.1, o.2);
      with_returned = λ e. absurd (ne ((f.with_returned e).0 ∙ sym t.0));
      first = f.first;
    }) in record {
      all = d.all;
      popped = d.popped;
      made = d.made;
      known = known;
      seat = seat;
      split = d.split;
      fits = d.fits;
      theirs = d.theirs;
      last = d.last;
      living = let a = total_set living views id v both at in let b = total_set living vs other w spent at' in let c = d.living in let one : living w ≡ 1 = ap source_passes source in
          omega (arith, length-append d.known (known_of w ∷ []));
      counted = let a = total_set answered views id v both at in let b = total_set answered vs other w spent at' in let c = d.counted in
          let mine : answered v ≡ items_of_known v.known = ap (λ r. answers_for r v.mine v.known) role in
          let more : answered both ≡ items_of_known (v.known ++ known_of w ∷ []) = ap (λ r. answers_for r v.mine (v.known ++ known_of w ∷ [])) role in
          let its : answered w ≡ length w.mine = ap (λ r. answers_for r w.mine w.known) source in
          let sum = total_snoc (λ (k : Known). length k.queued) v.known (known_of w) in omega arith;
      each_known = λ j k a. ⊎_elim
          (λ (o : slice_get d.known j ≡ Some k). let e = d.each_known j k o in (dite (ℕ_discrete k.source s) (home k.source) (λ ne. old k.source ne ∙ e.0), e.1, e.2))
          (λ (is : known_of w ≡ k). subst (λ (z : Known). (seat z.source ≡ 0) × (z.source < d.made) × (items_of z.source d.all ≡ z.queued)) is
          (home (number_of w.role) number, subst (λ q. q < d.made) (sym number) theirs.1, ap (λ q. items_of q d.all) number ∙ theirs.2))
          (get_snoc d.known (known_of w) k j a);
      each_pass = all_set F vs other spent
          record {
            source = λ q e. let no : Returned ≡ Source q = e in absurd (cc);
            with_returned = λ e. let no : Returned ≡ Taker = e in absurd (cc);
            first = λ z. absurd (apart (z ∙ sym t.0));
          }
          (λ j u ne a. now j u a ne);
    }
