-- Texts that are among others, and a naming that has no others.
use Rattle.std.proofs.Common.{◌≡◌, ℕ, zero, suc, List, [], ◌∷◌, ◌++◌, map, refl, ap, sym, ◌∙◌, subst, Some, slice_get, nat_eq, Bool, true, false, IsTrue, eq-eqb}
use Rattle.std.specs.Prelude.{◌||◌, flat_map}
use Rattle.std.proofs.lemmas.Bool.{or_right}
use Rattle.lola_value.specs.declared.value.TextId.{TextId}
use Rattle.lola_value.specs.declared.value.Value.{Value}
use Rattle.lola_value.specs.declared.value.Value.TheVariants as value
use Rattle.lola_value.specs.declared.value.Outcome.{Outcome}
use Rattle.lola_value.specs.declared.value.Outcome.TheVariants as outcome
use Rattle.lola_value.specs.Answer.{Given}
use Rattle.lola_value.specs.Naming.{Naming, read, read_outcome, the_text, IsHeld, AreHeld, IsHeldIn}
use Rattle.lola_text.specs.Texts.{is_among}
use Rattle.lola_text.specs.Needed.{text_in, texts_in, text_of_outcome, IsAmong, AreAmong, IsAmongIn, KeepsTexts}

-- numbers that stand in one list stand in another
abbrev pub AreWithin : List TextId → List TextId → Type 0
AreWithin xs ys = (id : ℕ) → IsTrue (is_among xs id) → IsTrue (is_among ys id)

or_more : (a b c : Bool) → (b ≡ true → c ≡ true) → (a || b) ≡ true → (a || c) ≡ true
or_more true b c f h = refl
or_more false b c f h = f h

pub within_front : (xs ys : List TextId) → AreWithin xs (xs ++ ys)
within_front [] ys id h = cc
within_front (x ∷ xs) ys id h = or_more (nat_eq x.0 id) (is_among xs id) (is_among (xs ++ ys) id) (within_front xs ys id) h

pub within_back : (xs ys : List TextId) → AreWithin ys (xs ++ ys)
within_back [] ys id h = h
within_back (x ∷ xs) ys id h = or_right (nat_eq x.0 id) (is_among (xs ++ ys) id) (within_back xs ys id h)

-- what one item has is among what all have
pub item_within : {X : Type 0} (f : X → List TextId) (xs : List X) (i : ℕ) (x : X) → slice_get xs i ≡ Some x → AreWithin (f x) (flat_map f xs)
item_within f [] zero x e = absurd (cc)
item_within f [] (suc i) x e = absurd (cc)
item_within f (y ∷ xs) zero x e = let same : y ≡ x = cc in subst (λ z. AreWithin (f z) (f y ++ flat_map f xs)) same (within_front (f y) (flat_map f xs))
item_within f (y ∷ xs) (suc i) x e = λ id h. within_back (f y) (flat_map f xs) id (item_within f xs i x e id h)

-- what is among numbers is among more of them

pub value_within : (xs ys : List TextId) → AreWithin xs ys → (v : Value) → IsAmong xs v → IsAmong ys v
value_within xs ys w (value.Bool b) h = tt
value_within xs ys w (value.Int z) h = tt
value_within xs ys w (value.Text id) h = w id.0 h

pub all_within : (xs ys : List TextId) → AreWithin xs ys → (vs : List Value) → AreAmong xs vs → AreAmong ys vs
all_within xs ys w [] h = tt
all_within xs ys w (v ∷ vs) h = (value_within xs ys w v h.0, all_within xs ys w vs h.1)

pub outcome_within : (xs ys : List TextId) → AreWithin xs ys → (o : Outcome) → IsAmongIn xs o → IsAmongIn ys o
outcome_within xs ys w (outcome.Value v) h = value_within xs ys w v h
outcome_within xs ys w outcome.Missing h = tt
outcome_within xs ys w (outcome.Fault k) h = tt
outcome_within xs ys w outcome.Poison h = tt

pub keeps_within : (xs ys : List TextId) (names fewer : Naming) → AreWithin xs ys → KeepsTexts ys names fewer → KeepsTexts xs names fewer
keeps_within xs ys names fewer w k id t h e = k id t (w id h) e

-- what is listed is among what is listed

pub value_among : (v : Value) → IsAmong (text_in v) v
value_among (value.Bool b) = tt
value_among (value.Int z) = tt
value_among (value.Text id) = ap (λ b. b || false) (eq-eqb id.0 id.0 refl)

pub all_among : (vs : List Value) → AreAmong (texts_in vs) vs
all_among [] = tt
all_among (v ∷ vs) =
    (value_within (text_in v) (text_in v ++ texts_in vs) (within_front (text_in v) (texts_in vs)) v (value_among v), all_within (texts_in vs) (text_in v ++ texts_in vs) (within_back (text_in v) (texts_in vs)) vs (all_among vs))

pub outcome_among : (o : Outcome) → IsAmongIn (text_of_outcome o) o
outcome_among (outcome.Value v) = value_among v
outcome_among outcome.Missing = tt
outcome_among (outcome.Fault k) = tt
outcome_among outcome.Poison = tt

-- a naming that has these texts reads what is among them alike

module _ (ids : List TextId) (names fewer : Naming) (k : KeepsTexts ids names fewer) where
  pub value_read : (v : Value) → IsAmong ids v → IsHeld names v → read fewer v ≡ read names v
  value_read (value.Bool b) a h = refl
  value_read (value.Int z) a h = refl
  value_read (value.Text id) a h = ap the_text (k id.0 h.0 a h.1) ∙ sym (ap the_text h.1)

  pub value_held : (v : Value) → IsAmong ids v → IsHeld names v → IsHeld fewer v
  value_held (value.Bool b) a h = tt
  value_held (value.Int z) a h = tt
  value_held (value.Text id) a h = (h.0, k id.0 h.0 a h.1)

  pub all_read : (vs : List Value) → AreAmong ids vs → AreHeld names vs → map (read fewer) vs ≡ map (read names) vs
  all_read [] a h = refl
  all_read (v ∷ vs) a h = λ i. value_read v a.0 h.0 i ∷ all_read vs a.1 h.1 i

  pub all_held : (vs : List Value) → AreAmong ids vs → AreHeld names vs → AreHeld fewer vs
  all_held [] a h = tt
  all_held (v ∷ vs) a h = (value_held v a.0 h.0, all_held vs a.1 h.1)

  pub outcome_read : (o : Outcome) → IsAmongIn ids o → IsHeldIn names o → read_outcome fewer o ≡ read_outcome names o
  outcome_read (outcome.Value v) a h = ap Given (value_read v a h)
  outcome_read outcome.Missing a h = refl
  outcome_read (outcome.Fault f) a h = refl
  outcome_read outcome.Poison a h = refl

  pub outcome_held : (o : Outcome) → IsAmongIn ids o → IsHeldIn names o → IsHeldIn fewer o
  outcome_held (outcome.Value v) a h = value_held v a h
  outcome_held outcome.Missing a h = tt
  outcome_held (outcome.Fault f) a h = tt
  outcome_held outcome.Poison a h = tt
