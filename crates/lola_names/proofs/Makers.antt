-- What is made while texts and windows are numbered.
use Rattle.std.proofs.Common.{◌≡◌, ℕ, zero, suc, List, [], ◌∷◌, ◌++◌, true, false, Some, length, ◌⊎◌, inl, inr, refl, sym, ap, subst, ◌∙◌, Box}
use Rattle.std.specs.Prelude.{IsTrue, slice_get}
use Rattle.std.proofs.lemmas.Bool.{cases_Bool}
use Rattle.std.specs.declared.alloc.Global.{Global}
use denote.RawPtr.{null_ptr}
use Rattle.std.proofs.Handle.{handle}
use Rattle.lola_value.specs.Arithmetic.{bytes_equal}
use Rattle.lola_model.proofs.Lookups.{bytes_equal-true, bytes_equal-same}
use Rattle.lola_model.specs.Named.{are_distinct}
use Rattle.lola_model.specs.declared.spec.WindowSpec.{WindowSpec}
use Rattle.lola_names.specs.Made.{FromNowOn, Grows}
use Rattle.lola_names.specs.declared.made.Made.{Made}
use Rattle.lola_names.proofs.Growth.{begin_before, grows_none, grows_text, grows_then, grows_window, text_there, window_there}
use Rattle.lola_names.proofs.Numbering.{distinct-pushed, numbers_known, numbers_new}

-- a box around a part, whatever it is
abbrev pub around : Box (Unit {0}) Global
around = record { ptr = null_ptr; alloc = handle; value = tt }

-- ---- makers

-- behind these texts and windows something is made for which P holds, whatever is made later; ws and ts list the numbers of windows
-- and texts in it
pub record Makes (A : Type 0) (ws ts : A → List ℕ) (P : List (List ℕ) → List WindowSpec → A → Type 0) (old : Made) : Type 0 where
  pub new : Made
  pub apart : IsTrue (are_distinct new.texts)
  pub made : A
  pub holds : FromNowOn new (λ texts windows. P texts windows made)
  pub grown : Grows old new (ws made) (ts made)

-- .. behind whatever texts and windows
pub record Maker (A : Type 0) (ws ts : A → List ℕ) (P : List (List ℕ) → List WindowSpec → A → Type 0) : Type 0 where
  pub run : (old : Made) → IsTrue (are_distinct old.texts) → Makes A ws ts P old

-- the same numbers
pub grows_as : (a b : Made) (ws us ts vs : List ℕ) → ws ≡ us → ts ≡ vs → Grows a b ws ts → Grows a b us vs
grows_as a b ws us ts vs e f g =
    let P : List ℕ → Type 0 = λ l. Grows a b l vs in
    let Q : List ℕ → Type 0 = λ l. Grows a b ws l in
    subst P e (subst Q f g)

-- what has no windows and no texts in it
pub made_of : {A : Type 0} {ws ts : A → List ℕ} {P : List (List ℕ) → List WindowSpec → A → Type 0}
    → (x : A) → [] ≡ ws x → [] ≡ ts x → ((texts : List (List ℕ)) (windows : List WindowSpec) → P texts windows x) → Maker A ws ts P
made_of {ws = ws} {ts = ts} x e f h = record {
  run = λ old apart. record {
    new = old;
    apart = apart;
    made = x;
    holds = λ texts windows begins. h texts windows;
    grown = grows_as old old [] (ws x) [] (ts x) e f (grows_none old);
  };
}

-- something of what is made
pub mapped : {A B : Type 0} {ws ts : A → List ℕ} {P : List (List ℕ) → List WindowSpec → A → Type 0} {us vs : B → List ℕ} {Q : List (List ℕ) → List WindowSpec → B → Type 0}
    → (f : A → B) → ((x : A) → ws x ≡ us (f x)) → ((x : A) → ts x ≡ vs (f x))
    → ((texts : List (List ℕ)) (windows : List WindowSpec) (x : A) → P texts windows x → Q texts windows (f x)) → Maker A ws ts P → Maker B us vs Q
mapped {A = A} {B = B} {ws = ws} {ts = ts} {P = P} {us = us} {vs = vs} {Q = Q} f e g h m = record { run = λ old apart. once old (m.run old apart) }
  where
    once : (old : Made) → Makes A ws ts P old → Makes B us vs Q old
    once old made = record {
      new = made.new;
      apart = made.apart;
      made = f made.made;
      holds = λ texts windows begins. h texts windows made.made (made.holds texts windows begins);
      grown = grows_as old made.new (ws made.made) (us (f made.made)) (ts made.made) (vs (f made.made)) (e made.made) (g made.made) made.grown;
    }

-- two things, one after another
abbrev pub Both : (A B : Type 0) → (A → List ℕ) → (A → List ℕ) → (List (List ℕ) → List WindowSpec → A → Type 0) → (B → List ℕ) → (B → List ℕ) → (List (List ℕ) → List WindowSpec → B → Type 0) → Made → Type 0
Both A B ws ts P us vs Q old = Makes (A × B) (λ p. ws p.0 ++ us p.1) (λ p. ts p.0 ++ vs p.1) (λ texts windows p. P texts windows p.0 × Q texts windows p.1) old

-- one after another
pub paired : {A B : Type 0} {ws ts : A → List ℕ} {P : List (List ℕ) → List WindowSpec → A → Type 0} {us vs : B → List ℕ} {Q : List (List ℕ) → List WindowSpec → B → Type 0}
    → Maker A ws ts P → Maker B us vs Q
    → Maker (A × B) (λ p. ws p.0 ++ us p.1) (λ p. ts p.0 ++ vs p.1) (λ texts windows p. P texts windows p.0 × Q texts windows p.1)
paired {A = A} {B = B} {ws = ws} {ts = ts} {P = P} {us = us} {vs = vs} {Q = Q} m n = record { run = λ old apart. first old (m.run old apart) }
  where
    second : (old : Made) (a : Makes A ws ts P old) → Makes B us vs Q a.new → Both A B ws ts P us vs Q old
    second old a b = record {
      new = b.new;
      apart = b.apart;
      made = (a.made, b.made);
      holds = λ texts windows begins. (a.holds texts windows (begin_before a.new b.new _ _ texts windows b.grown begins), b.holds texts windows begins);
      grown = grows_then old a.new b.new _ _ _ _ a.grown b.grown;
    }

    first : (old : Made) → Makes A ws ts P old → Both A B ws ts P us vs Q old
    first old a = second old a (n.run a.new a.apart)

-- ---- texts and windows

-- a text stands in a list or not
pub placed : (ts : List (List ℕ)) (t : List ℕ) → ((i : ℕ) × (slice_get ts i ≡ Some t)) ⊎ ((i : ℕ) → slice_get ts i ≡ Some t → ⊥)
placed [] t = inr (λ i at. cc at)
placed (u ∷ ts) t = elim (cases_Bool (bytes_equal t u)) [
  | inl hit ↦ inl (0, ap Some (sym (bytes_equal-true t u hit)))
  | inr miss ↦ behind (placed ts t) miss
]
  where
    differ : bytes_equal t u ≡ false → u ≡ t → ⊥
    differ miss e =
        let hit : bytes_equal t u ≡ true = ap (bytes_equal t) e ∙ bytes_equal-same t in
        cc (hit, miss)

    not_at : bytes_equal t u ≡ false → ((i : ℕ) → slice_get ts i ≡ Some t → ⊥) → (i : ℕ) → slice_get (u ∷ ts) i ≡ Some t → ⊥
    not_at miss none zero at = differ miss (cc at)
    not_at miss none (suc i) at = none i at

    behind : ((i : ℕ) × (slice_get ts i ≡ Some t)) ⊎ ((i : ℕ) → slice_get ts i ≡ Some t → ⊥) → bytes_equal t u ≡ false
        → ((i : ℕ) × (slice_get (u ∷ ts) i ≡ Some t)) ⊎ ((i : ℕ) → slice_get (u ∷ ts) i ≡ Some t → ⊥)
    behind (inl there) miss = inl (suc there.0, there.1)
    behind (inr none) miss = inr (not_at miss none)

abbrev pub Numbered : List ℕ → Made → Type 0
Numbered t old = Makes ℕ (λ i. []) (λ i. i ∷ []) (λ texts windows i. slice_get texts i ≡ Some t) old

-- the number of a text
pub numbered_text : (t : List ℕ) → Maker ℕ (λ i. []) (λ i. i ∷ []) (λ texts windows i. slice_get texts i ≡ Some t)
numbered_text t = record { run = λ old apart. numbered old apart (placed old.texts t) }
  where
    numbered : (old : Made) → IsTrue (are_distinct old.texts) → ((i : ℕ) × (slice_get old.texts i ≡ Some t)) ⊎ ((i : ℕ) → slice_get old.texts i ≡ Some t → ⊥) → Numbered t old
    numbered old apart (inl there) =
        let numbers = numbers_known old.texts t there.0 there.1 in
        record {
          new = old;
          apart = apart;
          made = there.0;
          holds = text_there old old.texts t there.0 numbers;
          grown = grows_text old old t there.0 numbers refl;
        }
    numbered old apart (inr none) =
        let new : Made = record { texts = old.texts ++ t ∷ []; windows = old.windows } in
        let numbers = numbers_new old.texts t in
        record {
          new = new;
          apart = distinct-pushed old.texts t apart none;
          made = length old.texts;
          holds = text_there new old.texts t (length old.texts) numbers;
          grown = grows_text old new t (length old.texts) numbers refl;
        }

-- the number of a window
pub numbered_window : (w : WindowSpec) → Maker ℕ (λ i. i ∷ []) (λ i. []) (λ texts windows i. slice_get windows i ≡ Some w)
numbered_window w = record { run = λ old apart. numbered old apart }
  where
    numbered : (old : Made) → IsTrue (are_distinct old.texts) → Makes ℕ (λ i. i ∷ []) (λ i. []) (λ texts windows i. slice_get windows i ≡ Some w) old
    numbered old apart =
        let new : Made = record { texts = old.texts; windows = old.windows ++ w ∷ [] } in
        record {
          new = new;
          apart = apart;
          made = length old.windows;
          holds = window_there new old.windows w refl;
          grown = grows_window old new w refl refl;
        }
