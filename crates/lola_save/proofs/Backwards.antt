-- Values that are read one by one, from the oldest on: those so many places before the newest.
use Rattle.std.proofs.Common.{◌≡◌, ℕ, zero, suc, ◌+◌, ◌-◌, ◌<◌, ◌≤◌, List, [], ◌∷◌, ◌++◌, length, map, drop, refl, subst, ap, sym, ◌∙◌, arith, Bool, None, slice_get, if◌then◌else◌, append_assoc, append-nil}
use Rattle.std.proofs.lemmas.Bool.{lt-ltb}
use Rattle.std.proofs.lemmas.List.{map-append}
use Rattle.lola_value.specs.declared.text.Field.{Field}
use Rattle.lola_value.specs.declared.value.Value.{Value}
use Rattle.lola_buffer.specs.Kept.{before_newest}
use Rattle.lola_save.specs.Taken.{value_in}

-- so many of the last values
abbrev pub values_back : ℕ → List Value → List Value
values_back zero vs = []
values_back (suc k) vs = value_in (before_newest k vs) ++ values_back k vs

-- an item and those behind it
from-item : (vs : List Value) (i : ℕ) → i < length vs → value_in (slice_get vs i) ++ drop (suc i) vs ≡ drop i vs
from-item [] i h = absurd (omega arith)
from-item (v ∷ vs) zero h = refl
from-item (v ∷ vs) (suc i) h = from-item vs i (omega arith)

back-one : (vs : List Value) (k : ℕ) → k < length vs → before_newest k vs ≡ slice_get vs (length vs - k - 1)
back-one vs k h = ap (λ (b : Bool). if b then slice_get vs (length vs - k - 1) else None) (lt-ltb k (length vs) h)

back-drop : (vs : List Value) (k i : ℕ) → i + k ≡ length vs → values_back k vs ≡ drop i vs
back-drop vs zero i e = sym (drop-all vs i (omega arith))
  where
    drop-all : (vs : List Value) (i : ℕ) → length vs ≤ i → drop i vs ≡ []
    drop-all [] zero h = refl
    drop-all [] (suc i) h = refl
    drop-all (v ∷ vs) zero h = absurd (omega arith)
    drop-all (v ∷ vs) (suc i) h = drop-all vs i (omega arith)
back-drop vs (suc k) i e =
    let at : length vs - k - 1 ≡ i = omega arith in
    let on : values_back k vs ≡ drop (suc i) vs = back-drop vs k (suc i) (omega arith) in
    let one : before_newest k vs ≡ slice_get vs i = back-one vs k (omega arith) ∙ ap (slice_get vs) at in
    (λ j. value_in (one j) ++ on j) ∙ from-item vs i (omega arith)

-- all of them
pub back-all : (vs : List Value) (k : ℕ) → k ≡ length vs → values_back k vs ≡ vs
back-all vs k e = back-drop vs k 0 (omega arith)

module _ (f : Value → Field) (vs : List Value) where
  -- what was read so far and what is left are all
  abbrev pub IsReadTo : ℕ → List Field → Type 0
  IsReadTo left fields = fields ++ map f (values_back left vs) ≡ map f vs

  pub read-none : (k : ℕ) (fields : List Field) → fields ≡ [] → k ≡ length vs → IsReadTo k fields
  read-none k fields none e = ap (λ (fs : List Field). fs ++ map f (values_back k vs)) none ∙ ap (map f) (back-all vs k e)

  one-less : (k : ℕ) (fields more : List Field) → more ≡ fields ++ map f (value_in (before_newest k vs)) → IsReadTo (suc k) fields → IsReadTo k more
  one-less k fields more e h =
      ap (λ (fs : List Field). fs ++ map f (values_back k vs)) e
      ∙ append_assoc fields (map f (value_in (before_newest k vs))) (map f (values_back k vs))
      ∙ ap (λ (fs : List Field). fields ++ fs) (sym (map-append f (value_in (before_newest k vs)) (values_back k vs)))
      ∙ h

  pub read-more : (left : ℕ) (fields more : List Field) → 0 < left → more ≡ fields ++ map f (value_in (before_newest (left - 1) vs)) → IsReadTo left fields → IsReadTo (left - 1) more
  read-more zero fields more lt e h = absurd (omega arith)
  read-more (suc k) fields more lt e h =
      let s : suc k - 1 ≡ k = omega arith in
      subst (λ (m : ℕ). IsReadTo m more) (sym s) (one-less k fields more (e ∙ ap (λ (m : ℕ). fields ++ map f (value_in (before_newest m vs))) s) h)

  pub read-all : (left : ℕ) (fields : List Field) → left ≡ 0 → IsReadTo left fields → fields ≡ map f vs
  read-all zero fields none h = sym (append-nil fields) ∙ h
  read-all (suc k) fields none h = absurd (omega arith)
