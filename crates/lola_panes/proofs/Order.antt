-- Panes stay in order with one more value.
use Rattle.std.proofs.Common.{◌≡◌, ℕ, ◌+◌, ◌-◌, ◌≤◌, ◌<◌, ◌^◌, List, length, sym, subst, arith, ℤ, pos, Bool, true, false, if◌then◌else◌, length-drop}
use Rattle.circular_buffer.specs.Buffer.{keep_last, buffer, Buffer}
use Rattle.lola_model.specs.declared.spec.Agg.{Agg}
use Rattle.lola_value.specs.declared.value.Kind.{Kind}
use Rattle.lola_panes.specs.declared.pane.Pane.{Pane}
use Rattle.lola_panes.specs.Answers.{is_extreme}
use Rattle.lola_panes.specs.Weights.{number_at}
use Rattle.lola_panes.specs.Rings.{noted, unbeaten, bettered, Rising, AllUpTo}
use Rattle.lola_panes.specs.Standing.{partials, AreInOrder}
use Rattle.lola_panes.proofs.Offsets.{number_monotone}
use Rattle.lola_panes.proofs.Extremes.{Rising-unbeaten, AllUpTo-unbeaten}
use Rattle.lola_panes.proofs.Rising.{noted-rising, Rising-drop, AllUpTo-drop, AllUpTo-later}

-- the best of the panes with one more value
bettered-rising : (most : ℕ) (how : Agg) (number : ℕ) (z : ℤ) (rs : List Pane) → Rising 0 rs → AllUpTo number rs
    → Rising 0 (bettered most how number z rs) × AllUpTo number (bettered most how number z rs)
bettered-rising most how number z rs h u =
    let ts = noted how number 0 (pos 0) z (unbeaten how z rs) in
    let on = noted-rising how number 0 (pos 0) z 0 (unbeaten how z rs) (omega arith) (Rising-unbeaten how z 0 rs h) (AllUpTo-unbeaten how z number rs u) in
    elim (is_extreme how) as (λ b. Rising 0 (if b then keep_last most ts else rs) × AllUpTo number (if b then keep_last most ts else rs)) [
      | true ↦ (Rising-drop 0 (length ts - most) ts on.0, AllUpTo-drop number (length ts - most) ts on.1)
      | false ↦ (h, u)
    ]

pub order-added : (how : Agg) (kind : Kind) (pane count : ℕ) (exact told : Bool) (newest added : ℕ) (sum before weight after : ℤ) (ring best : List Pane) (ring' best' : Buffer Pane) (capacity best_capacity offset number : ℕ)
    → AreInOrder (partials how kind pane count exact told newest added sum ring best) capacity best_capacity → newest ≤ offset → added < 2 ^ 63 → number ≡ number_at pane offset
    → ring' ≡ buffer (keep_last capacity (noted how number added before weight ring)) capacity
    → best' ≡ buffer (bettered best_capacity how number weight best) best_capacity
    → AreInOrder (partials how kind pane count exact true offset (added + 1) after ring'.items best'.items) ring'.capacity best'.capacity
order-added how kind pane count exact told newest added sum before weight after ring best ring' best' capacity best_capacity offset number o l a e r t =
    let rs = noted how number added before weight ring in
    let later : number_at pane newest ≤ number = subst (λ n. number_at pane newest ≤ n) (sym e) (number_monotone pane newest offset o.pane l) in
    let on = noted-rising how number added before weight 0 ring (omega arith) o.rising (AllUpTo-later (number_at pane newest) number ring o.up_to later) in
    let up : AllUpTo number (keep_last capacity rs) = AllUpTo-drop number (length rs - capacity) rs on.1 in
    let top = bettered-rising best_capacity how number weight best o.best_rising (AllUpTo-later (number_at pane newest) number best o.best_up_to later) in
    subst (λ (b : Buffer Pane). AreInOrder (partials how kind pane count exact true offset (added + 1) after b.items best'.items) b.capacity best'.capacity) (sym r)
    (subst (λ (b : Buffer Pane). AreInOrder (partials how kind pane count exact true offset (added + 1) after (keep_last capacity rs) b.items) capacity b.capacity) (sym t) (record {
      pane = o.pane;
      count = o.count;
      capacity_is = o.capacity_is;
      best_capacity_is = o.best_capacity_is;
      length_le = omega (arith, length-drop (length rs - capacity) rs);
      added = omega arith;
      rising = Rising-drop 0 (length rs - capacity) rs on.0;
      up_to = subst (λ n. AllUpTo n (keep_last capacity rs)) e up;
      best_rising = top.0;
      best_up_to = subst (λ n. AllUpTo n (bettered best_capacity how number weight best)) e top.1;
      kind = o.kind;
    }))
