-- A queue in the order of deadlines: entries that come and go, and the first deadline that is not before a moment.
use Rattle.std.proofs.Common.{◌≡◌, ℕ, suc, ◌+◌, ◌<◌, ◌≤◌, ◌⊎◌, inl, inr, List, [], ◌∷◌, min, length, get_or, drop, ap, sym, ◌∙◌, subst, arith, add-one, drop-cons}
use Rattle.std.specs.List.{All, remove}
use Rattle.std.specs.List.Sorted.{IsPermutation}
use Rattle.std.proofs.lemmas.Bool.{cases_lt}
use Rattle.std.proofs.lemmas.List.{drop_all}
use Rattle.std.proofs.lemmas.List.Edits.{get_or-remove_below, get_or-remove_above, length-remove}
use Rattle.std.proofs.lemmas.List.Elements.{All-cons, All-drop, All-head, All-tail, All-weaker}
use Rattle.std.proofs.lemmas.List.Sorted.{All-permutation, IsNonDecreasingBy-drop, IsPermutation-map}
use Rattle.lola_value.specs.Ratio.{Ratio}
use Rattle.lola_model.specs.StepOrder.{AreRates}
use Rattle.lola_instances_one.specs.declared.queue.Birth.{Birth}
use Rattle.lola_instances_one.specs.Moments.{due_at, least_due, after_latest}
use Rattle.lola_instances_one.specs.Queues.{births_of, AreInOrder, IsEntry, IsQueue, IsWithout}
use Rattle.lola_instances_one.proofs.Moments.{due_stays, due_within}

-- an entry that is set at a moment
pub is_entry : (rates : List Ratio) (moment : ℕ) (e : Birth) → AreRates rates → e.due ≡ due_at rates e.born moment → IsEntry rates moment e
is_entry rates moment e are due = record {
  are = are;
  next = λ from later until. due_stays rates e.born moment from are later (omega arith) ∙ sym due;
}

-- what is right from a moment on is so from a later one on
pub still_right : (rates : List Ratio) (passed moment : ℕ) (queue : List Birth) → passed ≤ moment → IsQueue rates passed queue → IsQueue rates moment queue
still_right rates passed moment queue later h = record {
  order = h.order;
  entries = All-weaker (IsEntry rates passed) (IsEntry rates moment) (λ (e : Birth) k. record { are = k.are; next = λ from above until. k.next from (omega arith) until }) queue h.entries;
}

-- one more entry
pub one_more : (rates : List Ratio) (passed : ℕ) (old new : List Birth) (e : Birth) → All (IsEntry rates passed) old → IsEntry rates passed e → AreInOrder new → IsPermutation (e ∷ old) new → IsQueue rates passed new
one_more rates passed old new e all one order put = record {
  order = order;
  entries = All-permutation (IsEntry rates passed) (e ∷ old) new put (All-cons (IsEntry rates passed) e old one all);
}

-- the first entry and the others
pub split_first : (old rest : List Birth) (first : Birth) → 0 < length old → first ≡ get_or old 0 first → rest ≡ drop 1 old → old ≡ first ∷ rest
split_first old rest first some is others = drop-cons old 0 first some ∙ (ap (λ x. x ∷ drop 1 old) (sym is) ∙ ap (λ xs. first ∷ xs) (sym others))

-- the first entry, set anew
pub renewed : (rates : List Ratio) (moment : ℕ) (old rest new : List Birth) (first e : Birth) → IsQueue rates moment old → old ≡ first ∷ rest → AreRates rates → e.due ≡ due_at rates e.born moment
    → AreInOrder new → IsPermutation (e ∷ rest) new → IsQueue rates moment new
renewed rates moment old rest new first e h split are due order put =
    let all : All (IsEntry rates moment) (first ∷ rest) = subst (All (IsEntry rates moment)) split h.entries in
    one_more rates moment rest new e (All-tail (IsEntry rates moment) first rest all) (is_entry rates moment e are due) order put

pub same_births : (old rest new : List Birth) (first e : Birth) → old ≡ first ∷ rest → e.born ≡ first.born → IsPermutation (e ∷ rest) new → IsPermutation (births_of old) (births_of new)
same_births old rest new first e split born put =
    let was : births_of old ≡ births_of (e ∷ rest) = ap births_of split ∙ ap (λ (b : ℕ). b ∷ births_of rest) (sym born) in
    subst (λ bs. IsPermutation bs (births_of new)) (sym was) (IsPermutation-map (λ (x : Birth). x.born) (e ∷ rest) new put)

-- an entry less
pub order_without : (queue : List Birth) (n : ℕ) → n < length queue → AreInOrder queue → AreInOrder (remove queue n)
order_without queue n within order = λ i j d le lt. go i j d le lt (cases_lt i n) (cases_lt j n)
  where
    go : (i j : ℕ) (d : Birth) → i ≤ j → j < length (remove queue n) → (i < n) ⊎ (n ≤ i) → (j < n) ⊎ (n ≤ j) → (get_or (remove queue n) i d).due ≤ (get_or (remove queue n) j d).due
    go i j d le lt (inl a) (inl b) =
        let e = ap (λ (x : Birth). x.due) (get_or-remove_below queue n d i a within) in
        let g = ap (λ (x : Birth). x.due) (get_or-remove_below queue n d j b within) in
        let k = order i j d le (omega arith) in
        omega arith
    go i j d le lt (inl a) (inr b) =
        let e = ap (λ (x : Birth). x.due) (get_or-remove_below queue n d i a within) in
        let g = ap (λ (x : Birth). x.due) (get_or-remove_above queue n d j b within) in
        let k = order i (j + 1) d (omega arith) (omega (arith, length-remove queue n within)) in
        omega arith
    go i j d le lt (inr a) (inl b) = absurd (omega arith)
    go i j d le lt (inr a) (inr b) =
        let e = ap (λ (x : Birth). x.due) (get_or-remove_above queue n d i a within) in
        let g = ap (λ (x : Birth). x.due) (get_or-remove_above queue n d j b within) in
        let k = order (i + 1) (j + 1) d (omega arith) (omega (arith, length-remove queue n within)) in
        omega arith

-- where an entry is taken out, the others are right
pub others_right : (rates : List Ratio) (passed born : ℕ) (old new : List Birth) → IsQueue rates passed old → IsWithout born old new → IsQueue rates passed new
others_right rates passed born old new h w =
    let kept : IsQueue rates passed (remove old w.place) = record {
      order = order_without old w.place w.within h.order;
      entries = λ k d lt. go k d lt (cases_lt k w.place);
    } in
    subst (IsQueue rates passed) (sym w.rest) kept
  where
    go : (k : ℕ) (d : Birth) → k < length (remove old w.place) → (k < w.place) ⊎ (w.place ≤ k) → IsEntry rates passed (get_or (remove old w.place) k d)
    go k d lt (inl a) =
        let in_old : k < length old = (let l = w.within in omega arith) in
        subst (IsEntry rates passed) (sym (get_or-remove_below old w.place d k a w.within)) (h.entries k d in_old)
    go k d lt (inr a) =
        let in_old : k + 1 < length old = (let l = length-remove old w.place w.within in omega arith) in
        subst (IsEntry rates passed) (sym (get_or-remove_above old w.place d k a w.within)) (h.entries (k + 1) d in_old)

-- the first entry that is due no earlier than a moment has the least deadline of all behind it
module _ (rates : List Ratio) (passed from : ℕ) where
  not_before : (t : ℕ) (es : List Birth) → t ≤ after_latest → All (λ (x : Birth). t ≤ due_at rates x.born from) es → t ≤ least_due rates from (births_of es)
  not_before t [] within all = within
  not_before t (e ∷ es) within all =
      let P = λ (x : Birth). t ≤ due_at rates x.born from in
      let one : t ≤ due_at rates e.born from = All-head P e es all in
      let rest : t ≤ least_due rates from (births_of es) = not_before t es within (All-tail P e es all) in
      omega arith

  first_is_least : (e : Birth) (es : List Birth) → IsQueue rates passed (e ∷ es) → passed ≤ from → from ≤ e.due → least_due rates from (births_of (e ∷ es)) ≡ e.due
  first_is_least e es h later until =
      let own : due_at rates e.born from ≡ e.due = (All-head (IsEntry rates passed) e es h.entries).next from later until in
      let within : due_at rates e.born from ≤ after_latest = due_within rates e.born from in
      let others : e.due ≤ least_due rates from (births_of es) = not_before e.due es (omega arith) behind in
      omega arith
    where
      behind : All (λ (x : Birth). e.due ≤ due_at rates x.born from) es
      behind = λ k d lt.
          let x : Birth = get_or es k d in
          let above : e.due ≤ x.due = h.order 0 (suc k) d (omega arith) (omega arith) in
          let is : due_at rates x.born from ≡ x.due = (h.entries (suc k) d (omega arith)).next from later (omega arith) in
          omega arith

  -- in a walk from the front
  pub walk_ends : (queue : List Birth) (i least : ℕ) (e : Birth) → IsQueue rates passed queue → i < length queue → e ≡ get_or queue i e → passed ≤ from → from ≤ e.due
      → min least (least_due rates from (births_of (drop i queue))) ≡ least_due rates from (births_of queue) → min e.due least ≡ least_due rates from (births_of queue)
  walk_ends queue i least e h within is later until so_far =
      let split : drop i queue ≡ e ∷ drop (i + 1) queue = rw (add-one) (drop-cons queue i e within ∙ ap (λ x. x ∷ drop (suc i) queue) (sym is)) in
      let left : IsQueue rates passed (drop i queue) = record { order = IsNonDecreasingBy-drop (λ (x : Birth). x.due) i queue h.order; entries = All-drop (IsEntry rates passed) i queue h.entries } in
      let first : least_due rates from (births_of (drop i queue)) ≡ e.due =
      ap (λ es. least_due rates from (births_of es)) split ∙ first_is_least e (drop (i + 1) queue) (subst (IsQueue rates passed) split left) later until in
      omega arith

  pub walk_on : (queue : List Birth) (i least one : ℕ) (e : Birth) → i < length queue → e ≡ get_or queue i e → one ≡ due_at rates e.born from
      → min least (least_due rates from (births_of (drop i queue))) ≡ least_due rates from (births_of queue) → min (min one least) (least_due rates from (births_of (drop (i + 1) queue))) ≡ least_due rates from (births_of queue)
  walk_on queue i least one e within is due so_far =
      let split : drop i queue ≡ e ∷ drop (i + 1) queue = rw (add-one) (drop-cons queue i e within ∙ ap (λ x. x ∷ drop (suc i) queue) (sym is)) in
      let first : least_due rates from (births_of (drop i queue)) ≡ min (due_at rates e.born from) (least_due rates from (births_of (drop (i + 1) queue))) =
      ap (λ es. least_due rates from (births_of es)) split in
      omega arith

  pub walk_done : (queue : List Birth) (i least : ℕ) → length queue ≤ i → least ≤ after_latest
      → min least (least_due rates from (births_of (drop i queue))) ≡ least_due rates from (births_of queue) → least ≡ least_due rates from (births_of queue)
  walk_done queue i least end within so_far =
      let none : least_due rates from (births_of (drop i queue)) ≡ after_latest = ap (λ es. least_due rates from (births_of es)) (drop_all i queue end) in
      omega arith

  pub least_within : (bs : List ℕ) → least_due rates from bs ≤ after_latest
  least_within [] = omega arith
  least_within (b ∷ bs) = let k = least_within bs in omega arith
