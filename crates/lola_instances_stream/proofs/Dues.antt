-- The first deadline of many, one after another, and those that are at a moment.
use Rattle.std.proofs.Common.{◌≡◌, ℕ, ◌+◌, ◌≤◌, ◌<◌, List, [], ◌∷◌, min, refl, ap, sym, ◌∙◌, arith, Option, Some, None, nat_le, Bool, true, false, if◌then◌else◌}
use Rattle.std.proofs.lemmas.Bool.{leb-true, leb-false, le-leb, lt-leb}
use Rattle.lola_value.specs.Ratio.{Ratio}
use Rattle.lola_value.specs.Times.{latest, up_to_latest}
use Rattle.lola_model.specs.NextStep.{earlier}
use Rattle.lola_instances_one.specs.declared.window.WindowPanes.{WindowPanes}
use Rattle.lola_instances_one.specs.Holdings.{Holdings}
use Rattle.lola_instances_one.specs.Dues.{due_births, is_timed}
use Rattle.lola_instances_stream.specs.Births.{births_of, firsts}
use Rattle.lola_instances_stream.specs.Changes.{IsChangedAt}
use Rattle.lola_instances_stream.specs.Dues.{due_at_births, due_since, in_time}
use Rattle.lola_instances_stream.proofs.Lists.{map_set}

-- the earlier of moments

pub earlier_none : (a : Option ℕ) → earlier a None ≡ a
earlier_none None = refl
earlier_none (Some t) = refl

least_of_three : (s t u : ℕ) → min u (min s t) ≡ min (min u s) t
least_of_three s t u = omega arith

pub earlier_assoc : (a b c : Option ℕ) → earlier (earlier a b) c ≡ earlier a (earlier b c)
earlier_assoc None b c = refl
earlier_assoc (Some t) None c = refl
earlier_assoc (Some t) (Some s) None = refl
earlier_assoc (Some t) (Some s) (Some u) = ap Some (least_of_three s t u)

-- the earlier of two moments is a time where one of them is

abbrev up_to : ℕ → ℕ → Option ℕ
up_to limit t = if nat_le t limit then Some t else None

is_up_to : (limit t : ℕ) → t ≤ limit → up_to limit t ≡ Some t
is_up_to limit t h = ap (λ b. if b then Some t else None) (le-leb t limit h)

is_above : (limit t : ℕ) → limit < t → up_to limit t ≡ None
is_above limit t h = ap (λ b. if b then Some t else None) (lt-leb t limit h)

earlier_up_to : (limit s t : ℕ) → up_to limit (min s t) ≡ earlier (up_to limit t) (up_to limit s)
earlier_up_to limit s t = by_tests (nat_le t limit) (nat_le s limit) refl refl
  where
    by_tests : (a b : Bool) → nat_le t limit ≡ a → nat_le s limit ≡ b → up_to limit (min s t) ≡ earlier (if a then Some t else None) (if b then Some s else None)
    by_tests true true p q = let h = leb-true t limit p in is_up_to limit (min s t) (omega arith) ∙ refl
    by_tests true false p q =
        let h = leb-true t limit p in
        let k = leb-false s limit q in
        let e : min s t ≡ t = omega arith in
        ap (up_to limit) e ∙ is_up_to limit t h
    by_tests false true p q =
        let h = leb-false t limit p in
        let k = leb-true s limit q in
        let e : min s t ≡ s = omega arith in
        ap (up_to limit) e ∙ is_up_to limit s k
    by_tests false false p q =
        let h = leb-false t limit p in
        let k = leb-false s limit q in
        is_above limit (min s t) (omega arith)

pub earlier_in_time : (a b : Option ℕ) → in_time (earlier a b) ≡ earlier (in_time a) (in_time b)
earlier_in_time None b = refl
earlier_in_time (Some t) None = sym (earlier_none (up_to_latest t))
earlier_in_time (Some t) (Some s) = earlier_up_to latest s t

-- rates that count from none

none_since : (from : ℕ) (bs : List ℕ) → due_since [] from bs ≡ None
none_since from [] = refl
none_since from (b ∷ bs) = none_since from bs

-- where no rate counts from births it does not matter which they are
pub due_known : (rates : List Ratio) (from : ℕ) (births bs : List ℕ) → (is_timed rates ≡ true → births ≡ bs) → in_time (due_since rates from births) ≡ in_time (due_since rates from bs)
due_known [] from births bs h = ap in_time (none_since from births ∙ sym (none_since from bs))
due_known (r ∷ rs) from births bs h = ap (λ (l : List ℕ). in_time (due_since (r ∷ rs) from l)) (h refl)

none_at : (time i : ℕ) (bs : List ℕ) → due_births [] time i bs ≡ []
none_at time i [] = refl
none_at time i (b ∷ bs) = none_at time (i + 1) bs

pub places_known : (rates : List Ratio) (time : ℕ) (births bs : List ℕ) → (is_timed rates ≡ true → births ≡ bs) → due_at_births rates time births ≡ due_at_births rates time bs
places_known [] time births bs h = none_at time 0 births ∙ sym (none_at time 0 bs)
places_known (r ∷ rs) time births bs h = ap (λ (l : List ℕ). due_at_births (r ∷ rs) time l) (h refl)

-- the births of instances of which one changed, and of the first instances

pub changed_births : (R : Holdings → Holdings → Type 0) (i : ℕ) (xs ys : List Holdings) (h : IsChangedAt R i xs ys) → h.y.born ≡ h.x.born → births_of ys ≡ births_of xs
changed_births R i xs ys h q = ap births_of h.set ∙ map_set (λ (s : Holdings). s.born) xs i h.x h.y h.at q

pub first_births : (spawns : Bool) (kept : ℕ) (windows : List WindowPanes) → (if spawns then [] else 0 ∷ []) ≡ births_of (firsts spawns kept windows)
first_births true kept windows = refl
first_births false kept windows = refl
