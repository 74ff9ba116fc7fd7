-- Where no spawn clause failed and no outcome is a fault, no stream has one.
use Rattle.std.proofs.Common.{◌≡◌, refl, ap, ◌∙◌, sym, ℕ, zero, suc, ◌+◌, ◌<◌, ◌≤◌, ◌⊎◌, inl, inr, List, [], ◌∷◌, ◌++◌, Option, Some, None, Bool, true, false, ◌||◌, get_or, replicate, set, length, slice_get, take, drop}
use Rattle.std.proofs.lemmas.Bool.{cases_eq, or_parts, or_from}
use Rattle.std.proofs.lemmas.List.{drop_more, get_or-replicate}
use Rattle.std.proofs.lemmas.Option.{get_or_from_slice_get, slice_get_within}
use Rattle.lola_value.specs.declared.value.FaultKind.{FaultKind}
use Rattle.lola_value.specs.declared.value.Outcome.{Outcome}
use Rattle.lola_value.specs.declared.value.Outcome.TheVariants as outcome
use Rattle.lola_step.specs.Found.{NoneFaulted, add_fault, fault_of, fault_or, first_among, has_fault, is_faulted, is_fault, least_among}
use Rattle.lola_step.specs.Notes.{in_span}
use Rattle.lola_step.specs.declared.spawn_result.SpawnResult.{SpawnResult}
use Rattle.lola_step.specs.declared.spawn_result.SpawnResult.TheVariants as spawn_result
use Rattle.lola_step.specs.declared.scratch.Span.{Span}
use Rattle.lola_step.proofs.Elements.{drop_past}
use Rattle.lola_step.proofs.Shown.{set_else, set_here}

-- one of several

or_assoc : (a b c : Bool) → ((a || b) || c) ≡ (a || (b || c))
or_assoc true b c = refl
or_assoc false b c = refl

or_swap : (a b c : Bool) → ((a || b) || c) ≡ (b || (a || c))
or_swap true true c = refl
or_swap true false c = refl
or_swap false b c = refl

or_false : (a : Bool) → a ≡ (a || false)
or_false true = refl
or_false false = refl

-- outcomes

joined : (os rs : List Outcome) → has_fault (os ++ rs) ≡ (has_fault os || has_fault rs)
joined [] rs = refl
joined (o ∷ os) rs = ap (λ b. is_fault o || b) (joined os rs) ∙ sym (or_assoc (is_fault o) (has_fault os) (has_fault rs))

-- those of one more layer
pub faultless_more : (os rs all : List Outcome) → os ++ rs ≡ all → has_fault os ≡ false → has_fault rs ≡ false → has_fault all ≡ false
faultless_more os rs all e f g = ap has_fault (sym e) ∙ (joined os rs ∙ or_from (has_fault os) (has_fault rs) f g)

-- of one more among those to come
pub fault_step : (os : List Outcome) (i : ℕ) (d : Outcome) (was now : Bool) → i < length os → now ≡ (is_fault (get_or os i d) || was)
    → (was || has_fault (drop i os)) ≡ has_fault os → (now || has_fault (drop (i + 1) os)) ≡ has_fault os
fault_step os i d was now lt e so =
    ap (λ b. b || has_fault (drop (i + 1) os)) e
    ∙ (or_swap (is_fault (get_or os i d)) was (has_fault (drop (i + 1) os))
    ∙ (ap (λ ys. was || has_fault ys) (sym (drop_more os i d lt)) ∙ so))

pub fault_end : (os : List Outcome) (i : ℕ) (was : Bool) → length os ≤ i → (was || has_fault (drop i os)) ≡ has_fault os → was ≡ has_fault os
fault_end os i was past so = or_false was ∙ (ap (λ ys. was || has_fault ys) (sym (drop_past os i past)) ∙ so)

fault_taken : (k : ℕ) (os : List Outcome) → has_fault os ≡ false → has_fault (take k os) ≡ false
fault_taken zero os e = refl
fault_taken (suc k) [] e = refl
fault_taken (suc k) (o ∷ os) e =
    let p = or_parts (is_fault o) (has_fault os) e in
    or_from (is_fault o) (has_fault (take k os)) p.0 (fault_taken k os p.1)

fault_dropped : (k : ℕ) (os : List Outcome) → has_fault os ≡ false → has_fault (drop k os) ≡ false
fault_dropped zero os e = e
fault_dropped (suc k) [] e = refl
fault_dropped (suc k) (o ∷ os) e = fault_dropped k os (or_parts (is_fault o) (has_fault os) e).1

one_least : (o : Outcome) (rest : Option FaultKind) → is_fault o ≡ false → add_fault o rest ≡ rest
one_least (outcome.Fault k) rest e = absurd (cc)
one_least (outcome.Value v) rest e = refl
one_least outcome.Missing rest e = refl
one_least outcome.Poison rest e = refl

none_least : (os : List Outcome) → has_fault os ≡ false → least_among os ≡ None
none_least [] e = refl
none_least (o ∷ os) e =
    let p = or_parts (is_fault o) (has_fault os) e in
    one_least o (least_among os) p.0 ∙ none_least os p.1

-- spawn results

pub fine_first : (spawn_results : List SpawnResult) → spawn_results ≡ replicate (length spawn_results) spawn_result.Fine → NoneFaulted spawn_results
fine_first spawn_results e n k at =
    let within : n < length spawn_results = slice_get_within spawn_results n k at in
    let fine : get_or spawn_results n spawn_result.Fine ≡ spawn_result.Fine = ap (λ ms. get_or ms n spawn_result.Fine) e ∙ get_or-replicate (length spawn_results) n spawn_result.Fine spawn_result.Fine within in
    ap is_faulted (sym (get_or_from_slice_get spawn_results n k spawn_result.Fine at) ∙ fine)

pub fine_next : (spawn_results : List SpawnResult) (n : ℕ) (m : SpawnResult) → n < length spawn_results → is_faulted m ≡ false → NoneFaulted spawn_results → NoneFaulted (set spawn_results n m)
fine_next spawn_results n m lt e h i k at = by (cases_eq i n)
  where
    by : (i ≡ n) ⊎ (i ≡ n → ⊥) → is_faulted k ≡ false
    by (inl q) =
        let a : slice_get (set spawn_results n m) n ≡ Some k = ap (λ j. slice_get (set spawn_results n m) j) (sym q) ∙ at in
        let b : Some m ≡ Some k = sym (set_here spawn_results n m lt) ∙ a in
        let p : m ≡ k = cc in
        ap is_faulted (sym p) ∙ e
    by (inr d) = h i k (sym (set_else spawn_results n i m d) ∙ at)

with_spawn_results : (m : SpawnResult) (os : List Outcome) → is_faulted m ≡ false → fault_of m os ≡ least_among os
with_spawn_results spawn_result.Fine os e = refl
with_spawn_results (spawn_result.Fault k) os e = absurd (cc)
with_spawn_results spawn_result.Poisoned os e = refl

-- all streams
pub none_first : (results : List Outcome) (n : ℕ) (ms : List SpawnResult) (ps : List Span) → NoneFaulted ms → has_fault results ≡ false → first_among results n ms ps ≡ None
none_first results n [] ps h e = refl
none_first results n (m ∷ ms) [] h e = refl
none_first results n (m ∷ ms) (p ∷ ps) h e =
    ap (λ o. fault_or n o (first_among results (n + 1) ms ps))
    (with_spawn_results m (in_span results (Some p)) (h 0 m refl) ∙ none_least (in_span results (Some p)) (fault_taken p.count (drop p.from results) (fault_dropped p.from results e)))
    ∙ none_first results (n + 1) ms ps (λ i k at. h (suc i) k at) e
