-- Births in their order, and in the order of a queue.
use Rattle.std.proofs.Common.{◌≡◌, ℕ, suc, ◌+◌, ◌<◌, ◌≤◌, List, [], ◌∷◌, ◌++◌, min, length, get_or, refl, ap, sym, ◌∙◌, subst, arith, Bool, true, false, cond, nat_eq, Option, Some, None, nat_le, if◌then◌else◌}
use Rattle.std.specs.List.{Contains, remove}
use Rattle.std.specs.List.Sorted.{IsPermutation}
use Rattle.std.specs.Option.{option_and_then}
use Rattle.std.proofs.lemmas.Bool.{eqb-true, eq-eqb, leb-true, leb-false}
use Rattle.std.proofs.lemmas.List.{length-append, get_or_default}
use Rattle.std.proofs.lemmas.List.Edits.{length-remove}
use Rattle.std.proofs.lemmas.List.Sums.{sum_by-cons, sum_by_push}
use Rattle.std.proofs.lemmas.List.Sorted.{IsPermutation-map, IsPermutation-remove, length_permutation, sum_by-IsPermutation}
use Rattle.lola_value.specs.Ratio.{Ratio}
use Rattle.lola_value.specs.Times.{latest, up_to_latest}
use Rattle.lola_model.specs.NextStep.{earlier, first_due}
use Rattle.lola_model.proofs.Strictly.{Contains-here, Contains-there}
use Rattle.lola_instances_one.specs.declared.queue.Birth.{Birth}
use Rattle.lola_instances_one.specs.Dues.{due_of_births}
use Rattle.lola_instances_one.specs.Moments.{cut, due_at, least_due, after_latest}
use Rattle.lola_instances_one.specs.Queues.{births_at, births_of, HasBirths, IsWithout}
use Rattle.lola_instances_one.proofs.Queues.{least_within}

-- 1 for a birth at a moment
abbrev one_at : ℕ → ℕ → ℕ
one_at b x = cond (nat_eq x b) 1 0

pub births_more : (b x : ℕ) (xs : List ℕ) → births_at b (x ∷ xs) ≡ one_at b x + births_at b xs
births_more b x xs = sum_by-cons (one_at b) x xs

pub own : (b : ℕ) → one_at b b ≡ 1
own b = ap (λ t. cond t 1 0) (eq-eqb b b refl)

-- a birth is found where there is one
pub found : (b : ℕ) (xs : List ℕ) → 0 < births_at b xs → Contains xs b
found b [] some = absurd (omega arith)
found b (x ∷ xs) some = go (nat_eq x b) refl (λ more. found b xs more)
  where
    go : (t : Bool) → nat_eq x b ≡ t → (0 < births_at b xs → Contains xs b) → Contains (x ∷ xs) b
    go true e rest = subst (λ z. Contains (x ∷ xs) z) (eqb-true x b e) (Contains-here x xs)
    go false e rest =
        let none : one_at b x ≡ 0 = ap (λ t. cond t 1 0) e in
        let more = births_more b x xs in
        Contains-there x b xs (rest (omega arith))

-- the least of the same births is the same
module _ (rates : List Ratio) (from : ℕ) where
  at_most : (b : ℕ) (xs : List ℕ) → 0 < births_at b xs → least_due rates from xs ≤ due_at rates b from
  at_most b [] some = absurd (omega arith)
  at_most b (x ∷ xs) some = go (nat_eq x b) refl (λ more. at_most b xs more)
    where
      go : (t : Bool) → nat_eq x b ≡ t → (0 < births_at b xs → least_due rates from xs ≤ due_at rates b from) → least_due rates from (x ∷ xs) ≤ due_at rates b from
      go true e rest = let q : due_at rates x from ≡ due_at rates b from = ap (λ z. due_at rates z from) (eqb-true x b e) in omega arith
      go false e rest =
          let none : one_at b x ≡ 0 = ap (λ t. cond t 1 0) e in
          let more = births_more b x xs in
          let behind : least_due rates from xs ≤ due_at rates b from = rest (omega arith) in
          omega arith

  at_least : (t : ℕ) (xs : List ℕ) → t ≤ after_latest → ((b : ℕ) → 0 < births_at b xs → t ≤ due_at rates b from) → t ≤ least_due rates from xs
  at_least t [] within all = within
  at_least t (x ∷ xs) within all =
      let one : t ≤ due_at rates x from = all x (let more = births_more x x xs in let mine = own x in omega arith) in
      let rest : t ≤ least_due rates from xs = at_least t xs within (λ b some. all b (let more = births_more b x xs in omega arith)) in
      omega arith

  half : (xs ys : List ℕ) → ((b : ℕ) → births_at b xs ≡ births_at b ys) → least_due rates from xs ≤ least_due rates from ys
  half xs ys same = at_least (least_due rates from xs) ys (least_within rates 0 from xs) (λ b some. at_most b xs (let e = same b in omega arith))

  pub same_least : (xs ys : List ℕ) → HasBirths xs ys → least_due rates from ys ≡ least_due rates from xs
  same_least xs ys h =
      let there : least_due rates from xs ≤ least_due rates from ys = half xs ys h.same in
      let back : least_due rates from ys ≤ least_due rates from xs = half ys xs (λ b. sym (h.same b)) in
      omega arith

-- the least moment is the first deadline, where it is a time, and else none
earliest : (a b : Option ℕ) → cut (earlier a b) ≡ min (cut a) (cut b)
earliest None None = omega arith
earliest None (Some t) = omega arith
earliest (Some s) None = omega arith
earliest (Some s) (Some t) = omega arith

least_cut : (rates : List Ratio) (from : ℕ) (bs : List ℕ) → cut (due_of_births rates from bs) ≡ least_due rates from bs
unfolding due_at
least_cut rates from [] = refl
least_cut rates from (b ∷ bs) = earliest (first_due b rates from) (due_of_births rates from bs) ∙ ap (λ n. min (cut (first_due b rates from)) n) (least_cut rates from bs)

time_if : (t : Bool) (x least : ℕ) → nat_le x latest ≡ t → cut (Some x) ≡ least → least ≤ latest → Some least ≡ (if t then Some x else None)
time_if true x least e is in_time = let k : x ≤ latest = leb-true x latest e in ap Some (omega arith)
time_if false x least e is in_time = let k : latest < x = leb-false x latest e in absurd (omega arith)

none_if : (t : Bool) (x least : ℕ) → nat_le x latest ≡ t → cut (Some x) ≡ least → latest < least → ◌≡◌ {A = Option ℕ} None (if t then Some x else None)
none_if true x least e is late = let k : x ≤ latest = leb-true x latest e in absurd (omega arith)
none_if false x least e is late = refl

in_time_of : (o : Option ℕ) (least : ℕ) → cut o ≡ least → least ≤ latest → Some least ≡ option_and_then up_to_latest o
in_time_of None least is in_time = absurd (omega arith)
in_time_of (Some x) least is in_time = time_if (nat_le x latest) x least refl is in_time

late_of : (o : Option ℕ) (least : ℕ) → cut o ≡ least → latest < least → ◌≡◌ {A = Option ℕ} None (option_and_then up_to_latest o)
late_of None least is late = refl
late_of (Some x) least is late = none_if (nat_le x latest) x least refl is late

pub next_is : (rates : List Ratio) (from least : ℕ) (births queue : List ℕ) → HasBirths births queue → least ≡ least_due rates from queue → least ≤ latest → Some least ≡ option_and_then up_to_latest (due_of_births rates from births)
next_is rates from least births queue h is in_time =
    in_time_of (due_of_births rates from births) least (least_cut rates from births ∙ sym (is ∙ same_least rates from births queue h)) in_time

pub none_is : (rates : List Ratio) (from least : ℕ) (births queue : List ℕ) → HasBirths births queue → least ≡ least_due rates from queue → latest < least → ◌≡◌ {A = Option ℕ} None (option_and_then up_to_latest (due_of_births rates from births))
none_is rates from least births queue h is late =
    late_of (due_of_births rates from births) least (least_cut rates from births ∙ sym (is ∙ same_least rates from births queue h)) late

-- births that come and go
pub moved : (births old new : List ℕ) → HasBirths births old → IsPermutation old new → HasBirths births new
moved births old new h p = record {
  many = h.many ∙ sym (length_permutation old new p);
  same = λ b. h.same b ∙ sym (sum_by-IsPermutation (one_at b) old new p);
}

pub added : (births : List ℕ) (old new : List Birth) (e : Birth) → HasBirths births (births_of old) → IsPermutation (e ∷ old) new → HasBirths (births ++ e.born ∷ []) (births_of new)
added births old new e h p =
    let q : IsPermutation (e.born ∷ births_of old) (births_of new) = IsPermutation-map (λ (x : Birth). x.born) (e ∷ old) new p in
    let longer : length (births_of new) ≡ suc (length (births_of old)) = length_permutation (e.born ∷ births_of old) (births_of new) q in
    record {
      many = (let one = h.many in let m = length-append births (e.born ∷ []) in omega arith);
      same = λ b.
          let one = h.same b in
          let pushed : births_at b (births ++ e.born ∷ []) ≡ births_at b births + one_at b e.born = sum_by_push (one_at b) births e.born in
          let queued : births_at b (births_of new) ≡ births_at b (e.born ∷ births_of old) = sum_by-IsPermutation (one_at b) (e.born ∷ births_of old) (births_of new) q in
          let first = births_more b e.born (births_of old) in
          omega arith;
    }

-- one birth less on both sides
pub fewer : (xs : List ℕ) (i b x : ℕ) → i < length xs → x ≡ get_or xs i x → births_at b xs ≡ one_at b x + births_at b (remove xs i)
fewer xs i b x within is =
    let p : IsPermutation xs (x ∷ remove xs i) = IsPermutation-remove xs i x within is in
    sym (sum_by-IsPermutation (one_at b) xs (x ∷ remove xs i) p) ∙ births_more b x (remove xs i)

pub removed : (births : List ℕ) (index born : ℕ) (old new : List Birth) → HasBirths births (births_of old) → index < length births → born ≡ get_or births index born → IsWithout born old new → HasBirths (remove births index) (births_of new)
removed births index born old new h within is w =
    let e : Birth = get_or old w.place (record { due = 0; born = 0 }) in
    let p : IsPermutation old (e ∷ remove old w.place) = IsPermutation-remove old w.place e w.within (get_or_default old w.place (record { due = 0; born = 0 }) e w.within) in
    let q : IsPermutation (births_of old) (e.born ∷ births_of (remove old w.place)) = IsPermutation-map (λ (x : Birth). x.born) old (e ∷ remove old w.place) p in
    let mine : e.born ≡ born = w.is (record { due = 0; born = 0 }) in
    let rest : births_of new ≡ births_of (remove old w.place) = ap births_of w.rest in
    let gone : length (births_of old) ≡ suc (length (births_of (remove old w.place))) = sym (length_permutation (births_of old) (e.born ∷ births_of (remove old w.place)) q) in
    let less = length-remove births index within in
    let many = h.many in
    let same_rest : length (births_of new) ≡ length (births_of (remove old w.place)) = ap (λ bs. length bs) rest in
    record {
      many = omega arith;
      same = λ b.
          let before = h.same b in
          let left = fewer births index b born within is in
          let right : births_at b (e.born ∷ births_of (remove old w.place)) ≡ births_at b (births_of old) = sum_by-IsPermutation (one_at b) (births_of old) (e.born ∷ births_of (remove old w.place)) q in
          let first = births_more b e.born (births_of (remove old w.place)) in
          let born_same : one_at b e.born ≡ one_at b born = ap (λ x. one_at b x) mine in
          let here : births_at b (births_of new) ≡ births_at b (births_of (remove old w.place)) = ap (λ bs. births_at b bs) rest in
          omega arith;
    }

-- a birth of the list is one of the queue
pub is_queued : (births queue : List ℕ) (index born : ℕ) → HasBirths births queue → index < length births → born ≡ get_or births index born → Contains queue born
is_queued births queue index born h within is =
    let left = fewer births index born born within is in
    let mine = own born in
    let same = h.same born in
    found born queue (omega arith)
