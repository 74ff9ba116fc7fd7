-- Texts and windows that grow.
use Rattle.std.proofs.Common.{◌≡◌, ℕ, zero, suc, ◌+◌, ◌<◌, ◌≤◌, List, [], ◌∷◌, ◌++◌, Some, length, refl, sym, ap, ap₂, subst, ◌∙◌, inl, inr, arith, lit<, append_assoc, append-nil, length-append, add-zero}
use Rattle.std.specs.Prelude.{slice_get, Contains}
use Rattle.std.proofs.lemmas.Bool.{cases_lt}
use Rattle.std.proofs.lemmas.List.Elements.{Contains-append_left, Contains-append_right}
use Rattle.lola_model.specs.Named.{counted}
use Rattle.lola_model.specs.declared.spec.WindowSpec.{WindowSpec}
use Rattle.lola_names.specs.Made.{Grows, BeginWith, FromNowOn}
use Rattle.lola_names.specs.Numbered.{IsInOrder, NumbersText}
use Rattle.lola_names.specs.declared.made.Made.{Made}

-- ---- lists

-- so many numbers, and then so many behind them
pub counted-append : {A : Type 0} (n : ℕ) (xs ys : List A) → counted n (length xs) ++ counted (n + length xs) (length ys) ≡ counted n (length (xs ++ ys))
counted-append n [] ys = ap (λ m. counted m (length ys)) (add-zero n)
counted-append n (x ∷ xs) ys =
    let e : n + suc (length xs) ≡ (n + 1) + length xs = omega arith in
    ap (λ m. n ∷ (counted (n + 1) (length xs) ++ counted m (length ys))) e ∙ ap (λ l. n ∷ l) (counted-append (n + 1) xs ys)

-- what stands at a place still stands there with more behind
pub got-append : {A : Type 0} (xs ys : List A) (i : ℕ) (x : A) → slice_get xs i ≡ Some x → slice_get (xs ++ ys) i ≡ Some x
got-append [] ys i x is = absurd (cc is)
got-append (z ∷ xs) ys zero x is = is
got-append (z ∷ xs) ys (suc i) x is = got-append xs ys i x is

-- the first behind a list stands at its length
pub got-seam : {A : Type 0} (xs : List A) (y : A) (ys : List A) → slice_get (xs ++ y ∷ ys) (length xs) ≡ Some y
got-seam [] y ys = refl
got-seam (x ∷ xs) y ys = got-seam xs y ys

-- ---- numbers in order

-- some numbers, and then some more
pub in_order-append : (n m k : ℕ) (is js : List ℕ) → IsInOrder n is m → IsInOrder m js k → IsInOrder n (is ++ js) k
in_order-append n m k [] js e after = subst (λ x. IsInOrder x js k) (sym e) after
in_order-append n m k (i ∷ is) js (inl (known, rest)) after = inl (known, in_order-append n m k is js rest after)
in_order-append n m k (i ∷ is) js (inr (next, rest)) after = inr (next, in_order-append (n + 1) m k is js rest after)

-- each new number is used
pub in_order-used : (n m : ℕ) (is : List ℕ) → IsInOrder n is m → (i : ℕ) → n ≤ i → i < m → Contains is i
in_order-used n m [] e i low high = absurd (omega arith)
in_order-used n m (j ∷ is) (inl (known, rest)) i low high = Contains-append_right (j ∷ []) is i (in_order-used n m is rest i low high)
in_order-used n m (j ∷ is) (inr (next, rest)) i low high = elim (cases_lt n i) [
  | inl above ↦ let more : n + 1 ≤ i = omega arith in Contains-append_right (j ∷ []) is i (in_order-used (n + 1) m is rest i more high)
  | inr here ↦ let same : j ≡ i = omega arith in Contains-append_left (j ∷ []) is i (subst (λ x. Contains (j ∷ []) x) same (0, lit< tt, refl))
]

-- ---- growth

-- nothing is made
pub grows_none : (made : Made) → Grows made made [] []
grows_none made = record {
  more_texts = [];
  texts = sym (append-nil made.texts);
  more_windows = [];
  windows = sym (append-nil made.windows);
  numbered = refl;
  in_order = refl;
}

-- one growth after another
pub grows_then : (a b c : Made) (ws ts us vs : List ℕ) → Grows a b ws ts → Grows b c us vs → Grows a c (ws ++ us) (ts ++ vs)
grows_then a b c ws ts us vs g h = record {
  more_texts = g.more_texts ++ h.more_texts;
  texts = h.texts ∙ ap (λ l. l ++ h.more_texts) g.texts ∙ append_assoc a.texts g.more_texts h.more_texts;
  more_windows = g.more_windows ++ h.more_windows;
  windows = h.windows ∙ ap (λ l. l ++ h.more_windows) g.windows ∙ append_assoc a.windows g.more_windows h.more_windows;
  numbered =
      ap₂ (λ m n. m ++ n) g.numbered
      (h.numbered ∙ ap (λ n. counted n (length h.more_windows)) (ap length g.windows ∙ length-append a.windows g.more_windows))
      ∙ counted-append (length a.windows) g.more_windows h.more_windows;
  in_order = in_order-append (length a.texts) (length b.texts) (length c.texts) ts vs g.in_order h.in_order;
}

-- what begins with all that is made begins with what was made before
pub begin_before : (old new : Made) (ws ts : List ℕ) (texts : List (List ℕ)) (windows : List WindowSpec) → Grows old new ws ts → BeginWith new texts windows → BeginWith old texts windows
begin_before old new ws ts texts windows g b = record {
  more_texts = g.more_texts ++ b.more_texts;
  texts_are = b.texts_are ∙ ap (λ l. l ++ b.more_texts) g.texts ∙ append_assoc old.texts g.more_texts b.more_texts;
  more_windows = g.more_windows ++ b.more_windows;
  windows_are = b.windows_are ∙ ap (λ l. l ++ b.more_windows) g.windows ∙ append_assoc old.windows g.more_windows b.more_windows;
}

-- what holds from then on holds from now on
pub from_then : (old new : Made) (ws ts : List ℕ) (P : List (List ℕ) → List WindowSpec → Type 0) → Grows old new ws ts → FromNowOn old P → FromNowOn new P
from_then old new ws ts P g f texts windows b = f texts windows (begin_before old new ws ts texts windows g b)

-- ---- steps

-- a text is numbered
pub grows_text : (old new : Made) (text : List ℕ) (id : ℕ) → NumbersText text id old.texts new.texts → new.windows ≡ old.windows → Grows old new [] (id ∷ [])
grows_text old new text id n same = record {
  more_texts = n.more;
  texts = n.grown;
  more_windows = [];
  windows = same ∙ sym (append-nil old.windows);
  numbered = refl;
  in_order = n.in_order;
}

-- a window is numbered
pub grows_window : (old new : Made) (w : WindowSpec) → new.texts ≡ old.texts → new.windows ≡ old.windows ++ w ∷ [] → Grows old new (length old.windows ∷ []) []
grows_window old new w same more = record {
  more_texts = [];
  texts = same ∙ sym (append-nil old.texts);
  more_windows = w ∷ [];
  windows = more;
  numbered = refl;
  in_order = ap length (sym same);
}

-- a text stands at its number from now on
pub text_there : (made : Made) (old : List (List ℕ)) (text : List ℕ) (id : ℕ) → NumbersText text id old made.texts → FromNowOn made (λ texts windows. slice_get texts id ≡ Some text)
text_there made old text id n texts windows b = ap (λ (l : List (List ℕ)). slice_get l id) b.texts_are ∙ got-append made.texts b.more_texts id text n.there

-- a window stands at its number from now on
pub window_there : (made : Made) (old : List WindowSpec) (w : WindowSpec) → made.windows ≡ old ++ w ∷ [] → FromNowOn made (λ texts windows. slice_get windows (length old) ≡ Some w)
window_there made old w is texts windows b =
    ap (λ (l : List WindowSpec). slice_get l (length old)) b.windows_are
    ∙ got-append made.windows b.more_windows (length old) w (ap (λ (l : List WindowSpec). slice_get l (length old)) is ∙ got-seam old w [])
