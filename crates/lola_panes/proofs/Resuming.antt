-- Panes that are restored stand for the values that their partial results are of, and are in order.
use Rattle.std.proofs.Common.{◌≡◌, ℕ, ◌+◌, ◌-◌, ◌*◌, ◌≤◌, ◌<◌, ◌^◌, min, List, [], length, ap, sym, ◌∙◌, subst, arith, Some, ℤ, pos, Bool, true, inl, inr}
use Rattle.std.specs.List.{sum_by}
use Rattle.std.proofs.lemmas.Int.{ints}
use Rattle.std.proofs.Math.Nat.{min-le_left, min-le_right, min-eq_left, min-eq_right, le-min}
use Rattle.circular_buffer.specs.Buffer.{buffer, Buffer}
use Rattle.circular_buffer.proofs.Places.{below_or_not}
use Rattle.lola_model.specs.declared.spec.Agg.{Agg}
use Rattle.lola_value.specs.declared.value.Kind.{Kind}
use Rattle.lola_value.specs.declared.text.Field.{Field}
use Rattle.lola_panes.specs.declared.pane.Pane.{Pane}
use Rattle.lola_panes.specs.declared.partial.Partial.{Partial}
use Rattle.lola_panes.specs.Answers.{is_extreme}
use Rattle.lola_panes.specs.Weights.{number_at, best_of}
use Rattle.lola_panes.specs.Rings.{AllUpTo}
use Rattle.lola_panes.specs.Holding.{HoldsPanes, HoldsBest}
use Rattle.lola_panes.specs.Parts.{ArePartials, counted, total_size}
use Rattle.lola_panes.specs.Tallies.{InReach, weights}
use Rattle.lola_panes.specs.Restored.{AreRestored, first_offset, restored_panes, restored_best, whole_of}
use Rattle.lola_panes.specs.Standing.{partials, AreInOrder, StandFor}
use Rattle.lola_panes.proofs.Cutting.{cut_restored}
use Rattle.lola_panes.proofs.Grouping.{all_gone, AllLeft-later, weaker}
use Rattle.lola_panes.proofs.Offsets.{first_number}
use Rattle.lola_panes.proofs.Refilling.{grouped_restored, best_restored, best_rising, restored_rising}
use Rattle.lola_panes.proofs.Sizes.{room_of, room_reach, size_all, sized}
use Rattle.lola_panes.proofs.Rising.{Rising-lower}

-- as many partial results as the window has panes up to the last one: those before the first of them have left
pub behind_first : (last count first n : ℕ) → n ≡ min (last + 1) count → first + n ≡ last + 1 → 0 < first → first + count ≤ last + 1
behind_first last count first n e f l =
    elim (below_or_not (last + 1) count) [
      | inl less ↦ let m : min (last + 1) count ≡ last + 1 = min-eq_left (omega arith) in absurd (omega arith)
      | inr more ↦ let m : min (last + 1) count ≡ count = min-eq_right more in omega arith
    ]

pub some_parts : (last count n : ℕ) → 1 ≤ count → n ≡ min (last + 1) count → (1 ≤ n) × (n ≤ last + 1) × (n ≤ count)
some_parts last count n c e =
    let a : 1 ≤ last + 1 = omega arith in
    let m : 1 ≤ min (last + 1) count = le-min a c in
    let l = min-le_left (last + 1) count in
    let r = min-le_right (last + 1) count in
    (omega arith, omega arith, omega arith)

pub stands-restored : (how : Agg) (kind : Kind) (pane count : ℕ) (exact : Bool) (last added first before : ℕ) (whole : ℤ) (parts : List Partial) (ring best : List Pane) (all : List (ℕ × Field))
    → 1 ≤ pane → 1 ≤ count → added < 2 ^ 63 → length parts ≤ 9223372036854775808 → length parts ≡ min (last + 1) count → first + length parts ≡ last + 1
    → before + sum_by (counted how) parts ≡ added → sum_by (total_size how) parts ≤ added * 2 ^ 64
    → whole ≡ whole_of how parts → ring ≡ restored_panes how first before (pos 0) parts → (is_extreme how ≡ true → best ≡ restored_best count how first parts [])
    → AreRestored how kind pane last parts all
    → StandFor (partials how kind pane count exact true (first_offset pane last) added whole ring best) all
stands-restored how kind pane count exact last added first before whole parts ring best all g m few long len fl ce te we re be h =
    let place : first ≡ last + 1 - length parts = omega arith in
    let cut = cut_restored how pane g count last first parts all fl (behind_first last count first (length parts) len fl) h.order h.newest (subst (λ k. ArePartials how pane k parts all) (sym place) h.folds) in
    let room = room_of how added parts few long te in
    let n : last ≡ number_at pane (first_offset pane last) = sym (first_number pane last g) in
    let grouped = grouped_restored how pane whole added first before (pos 0) parts cut.1 cut.4 ce (omega (arith, ints, we)) room in
    let up = restored_rising how first before last (pos 0) parts (omega arith) in
    let holds : HoldsPanes how pane count last whole added (restored_panes how first before (pos 0) parts) all = (
      cut.0,
      cut.1,
      record {
        split = cut.2;
        left = cut.3;
        grouped = weaker how pane whole added first 0 (restored_panes how first before (pos 0) parts) cut.1 (omega arith) grouped;
        up_to = up.1;
        reach = subst (InReach how added) (sym we) (room_reach how added (sized how parts) (whole_of how parts) room (size_all how parts));
      },
    ) in
    let gone : HoldsBest how pane count last [] cut.0 =
    record {
      best = λ k j. ap (λ vs. best_of how (weights how vs)) (all_gone how pane count k g cut.0 (AllLeft-later how pane count last k cut.0 cut.3 j));
      worsening = tt;
    } in
    record {
      holds = subst (λ k. HoldsPanes how pane count k whole added ring all) n (subst (λ rs. HoldsPanes how pane count last whole added rs all) (sym re) holds);
      bests = λ x.
          subst (λ k. HoldsBest how pane count k best all) n
          (subst (λ rs. HoldsBest how pane count last rs all) (sym (be x))
          (subst (HoldsBest how pane count last (restored_best count how first parts [])) (sym cut.2)
          (best_restored how count pane last g m first parts [] cut.0 cut.1 x (omega arith) tt tt cut.4 gone)));
      within = h.within;
      newest = h.newest ∙ ap Some n;
    }

pub order-restored : (how : Agg) (kind : Kind) (pane count : ℕ) (exact told : Bool) (newest was added last first before : ℕ) (sum whole : ℤ) (parts : List Partial) (ring best : List Pane) (ring' best' : Buffer Pane) (capacity best_capacity : ℕ)
    → AreInOrder (partials how kind pane count exact told newest was sum ring best) capacity best_capacity → added < 2 ^ 63 → length parts ≡ min (last + 1) count → first + length parts ≡ last + 1
    → ring' ≡ buffer (restored_panes how first before (pos 0) parts) capacity → best' ≡ buffer (restored_best best_capacity how first parts []) best_capacity
    → AreInOrder (partials how kind pane count exact true (first_offset pane last) added whole ring'.items best'.items) ring'.capacity best'.capacity
order-restored how kind pane count exact told newest was added last first before sum whole parts ring best ring' best' capacity best_capacity o few len fl re be =
    let n : last ≡ number_at pane (first_offset pane last) = sym (first_number pane last o.pane) in
    let rs = restored_panes how first before (pos 0) parts in
    let bs = restored_best best_capacity how first parts [] in
    let up = restored_rising how first before last (pos 0) parts (omega arith) in
    let top = best_rising how best_capacity first last parts [] (omega arith) tt tt tt in
    let l = up.2 in
    let p = some_parts last count (length parts) o.count len in
    let q = p.2 in
    let e = o.capacity_is in
    subst (λ (b : Buffer Pane). AreInOrder (partials how kind pane count exact true (first_offset pane last) added whole b.items best'.items) b.capacity best'.capacity) (sym re)
    (subst (λ (b : Buffer Pane). AreInOrder (partials how kind pane count exact true (first_offset pane last) added whole rs b.items) capacity b.capacity) (sym be) (record {
      pane = o.pane;
      count = o.count;
      capacity_is = o.capacity_is;
      best_capacity_is = o.best_capacity_is;
      length_le = omega arith;
      added = omega arith;
      rising = Rising-lower first 0 rs (omega arith) up.0;
      up_to = subst (λ k. AllUpTo k rs) n up.1;
      best_rising = top.0;
      best_up_to = subst (λ k. AllUpTo k bs) n top.1;
      kind = o.kind;
    }))
