-- How a loop goes over the streams that have a duty: those between two of them have none.
use Rattle.std.proofs.Common.{◌≡◌, refl, ap, ◌∙◌, sym, subst, ℕ, zero, suc, ◌+◌, ◌<◌, ◌≤◌, ◌⊎◌, inl, inr, List, [], ◌∷◌, ◌++◌, Some, Bool, true, false, if◌then◌else◌, get_or, length, slice_get, drop, arith}
use Rattle.std.proofs.lemmas.List.{drop_more}
use Rattle.std.proofs.lemmas.Option.{slice_get_within}
use Rattle.lola_model.specs.declared.plan.Plan.{Plan}
use Rattle.lola_model.specs.declared.spec.Stream.{Stream}
use Rattle.lola_step.specs.Schedules.{IsLayerOf, numbers_of}
use Rattle.lola_step.specs.declared.schedule.LayerDuties.{LayerDuties}
use Rattle.lola_step.proofs.Elements.{AreFrom, drop_past, from_first, from_here, from_later}

-- the numbers left of a list of duties are those of the streams from a place on, of those that pass, and so much holds of that place
pub record IsWalk (test : ℕ → Stream → Bool) (streams : List Stream) (P : ℕ → Type 0) (left : List ℕ) : Type 0 where
  pub place : ℕ
  pub others : List Stream
  pub from : AreFrom streams place others
  pub long : place + length others ≡ length streams
  pub rest : left ≡ numbers_of test place others
  pub holds : P place

-- before the first
pub walk_first : (test : ℕ → Stream → Bool) (streams : List Stream) (P : ℕ → Type 0) (left : List ℕ) → left ≡ numbers_of test 0 streams → P 0 → IsWalk test streams P left
walk_first test streams P left e p = record { place = 0; others = streams; from = from_first streams; long = omega arith; rest = e; holds = p }

-- the next stream that has a duty, and those behind it
pub record IsDuty (test : ℕ → Stream → Bool) (streams : List Stream) (P : ℕ → Type 0) (n : ℕ) (left : List ℕ) : Type 0 where
  pub at : Stream
  pub is : slice_get streams n ≡ Some at
  pub below : n < length streams
  pub passes : test n at ≡ true
  pub holds : P n
  pub others : List Stream
  pub from : AreFrom streams (n + 1) others
  pub long : (n + 1) + length others ≡ length streams
  pub rest : left ≡ numbers_of test (n + 1) others

-- and on from there
pub walk_on : (test : ℕ → Stream → Bool) (streams : List Stream) (P Q : ℕ → Type 0) (n : ℕ) (left : List ℕ) → IsDuty test streams P n left → Q (n + 1) → IsWalk test streams Q left
walk_on test streams P Q n left t q = record { place = n + 1; others = t.others; from = t.from; long = t.long; rest = t.rest; holds = q }

module _ (test : ℕ → Stream → Bool) (streams : List Stream) (P : ℕ → Type 0) (skip : (n : ℕ) (x : Stream) → slice_get streams n ≡ Some x → test n x ≡ false → P n → P (n + 1)) where
  -- what holds goes on to hold up to the next one
  module _ (i : ℕ) (left : List ℕ) where
    duty_from : (n : ℕ) (xs : List Stream) → AreFrom streams n xs → n + length xs ≡ length streams → i ∷ left ≡ numbers_of test n xs → P n → IsDuty test streams P i left
    duty_from n [] from long e p = absurd (cc)
    duty_from n (x ∷ xs) from long e p = by (test n x) refl (λ f q. duty_from (n + 1) xs (from_later streams n x xs from) (omega (arith, long)) f q)
      where
        there : slice_get streams n ≡ Some x
        there = from_here streams n x xs from

        by : (b : Bool) → test n x ≡ b → (i ∷ left ≡ numbers_of test (n + 1) xs → P (n + 1) → IsDuty test streams P i left) → IsDuty test streams P i left
        by true q later =
            let f : i ∷ left ≡ n ∷ numbers_of test (n + 1) xs = e ∙ ap (λ b. if b then n ∷ numbers_of test (n + 1) xs else numbers_of test (n + 1) xs) q in
            let same : n ≡ i = cc in
            let rest : left ≡ numbers_of test (n + 1) xs = cc in
            let T : ℕ → Type 0 = λ k. IsDuty test streams P k left in
            subst T same (record {
              at = x;
              is = there;
              below = slice_get_within streams n x there;
              passes = q;
              holds = p;
              others = xs;
              from = from_later streams n x xs from;
              long = omega (arith, long);
              rest = rest;
            })
        by false q later = later (e ∙ ap (λ b. if b then n ∷ numbers_of test (n + 1) xs else numbers_of test (n + 1) xs) q) (skip n x there q p)

    pub walk_next : IsWalk test streams P (i ∷ left) → IsDuty test streams P i left
    walk_next w = duty_from w.place w.others w.from w.long w.rest w.holds

  -- and to the end
  end_from : (n : ℕ) (xs : List Stream) → AreFrom streams n xs → n + length xs ≡ length streams → [] ≡ numbers_of test n xs → P n → P (length streams)
  end_from n [] from long e p = subst P (omega (arith, long)) p
  end_from n (x ∷ xs) from long e p = by (test n x) refl (λ f q. end_from (n + 1) xs (from_later streams n x xs from) (omega (arith, long)) f q)
    where
      by : (b : Bool) → test n x ≡ b → ([] ≡ numbers_of test (n + 1) xs → P (n + 1) → P (length streams)) → P (length streams)
      by true q later =
          let f : [] ≡ n ∷ numbers_of test (n + 1) xs = e ∙ ap (λ b. if b then n ∷ numbers_of test (n + 1) xs else numbers_of test (n + 1) xs) q in
          absurd (cc)
      by false q later = later (e ∙ ap (λ b. if b then n ∷ numbers_of test (n + 1) xs else numbers_of test (n + 1) xs) q) (skip n x (from_here streams n x xs from) q p)

  pub walk_end : IsWalk test streams P [] → P (length streams)
  walk_end w = end_from w.place w.others w.from w.long w.rest w.holds

-- the same where a loop reads the numbers by their places
module _ (test : ℕ → Stream → Bool) (streams : List Stream) (P : ℕ → Type 0) (skip : (n : ℕ) (x : Stream) → slice_get streams n ≡ Some x → test n x ≡ false → P n → P (n + 1)) (duties : List ℕ) (k : ℕ) where
  pub walk_item : k < length duties → IsWalk test streams P (drop k duties) → IsDuty test streams P (get_or duties k 0) (drop (k + 1) duties)
  walk_item lt w = walk_next test streams P skip (get_or duties k 0) (drop (k + 1) duties) (subst (IsWalk test streams P) (drop_more duties k 0 lt) w)

  pub walk_done : length duties ≤ k → IsWalk test streams P (drop k duties) → P (length streams)
  walk_done past w = walk_end test streams P skip (subst (IsWalk test streams P) (drop_past duties k past) w)

-- the layers, one after the other

last_or : {A : Type 0} (xs : List A) (y : A) (i : ℕ) (x : A) → slice_get (xs ++ y ∷ []) i ≡ Some x → (slice_get xs i ≡ Some x) ⊎ ((i ≡ length xs) × (y ≡ x))
last_or [] y zero x e = let p : y ≡ x = cc in inr (refl, p)
last_or [] y (suc i) x e = absurd (cc)
last_or (z ∷ xs) y zero x e = inl e
last_or (z ∷ xs) y (suc i) x e = elim (last_or xs y i x e) [ inl h ↦ inl h | inr h ↦ inr (ap suc h.0, h.1) ]

pub layers_more : (plan : Plan) (layers more : List LayerDuties) (y : LayerDuties) (k : ℕ) → more ≡ layers ++ y ∷ [] → length layers ≡ k → IsLayerOf plan k y
    → ((i : ℕ) (x : LayerDuties) → slice_get layers i ≡ Some x → IsLayerOf plan i x) → (i : ℕ) (x : LayerDuties) → slice_get more i ≡ Some x → IsLayerOf plan i x
layers_more plan layers more y k e count here each i x at = by (last_or layers y i x (ap (λ ls. slice_get ls i) (sym e) ∙ at))
  where
    by : (slice_get layers i ≡ Some x) ⊎ ((i ≡ length layers) × (y ≡ x)) → IsLayerOf plan i x
    by (inl h) = each i x h
    by (inr h) =
        let P : ℕ → Type 0 = λ j. IsLayerOf plan j x in
        subst P (sym (h.0 ∙ count)) (subst (IsLayerOf plan k) h.1 here)
