-- Runs of bytes without a comma, as a search for the next one finds them.
use Rattle.std.specs.Prelude.{◌||◌}
use Rattle.std.proofs.Common.{◌≡◌, ℕ, zero, suc, ◌+◌, ◌-◌, ◌<◌, ◌≤◌, Bool, true, false, List, [], ◌∷◌, ◌++◌, append_assoc, Option, Some, None, length, take, drop, get_or, refl, sym, ap, subst, ◌∙◌, arith, drop-drop}
use Rattle.std.specs.List.{list_any}
use Rattle.std.specs.Option.{is_some}
use Rattle.std.proofs.lemmas.Bool.{false_from_ne_true, or_parts}
use Rattle.std.proofs.lemmas.List.{append-nil, drop_more, length-drop, length-take-le, take-take}
use Rattle.std.proofs.lemmas.List.Folds.{list_any-append, list_any_at}
use lib.Seq.{take-add}
use Rattle.memchr.specs.Find.{IsFirstByte, is_byte}
use Rattle.lola_rows.specs.Line.{is_quote}
use Rattle.lola_rows.proofs.LineFacts.{IsQuoting, quoting-more, run-none, run-step}

-- a test passes at none of the first places
pub none-before : (p : ℕ → Bool) (xs : List ℕ) (n : ℕ) → n ≤ length xs → ((k : ℕ) → k < n → p (get_or xs k 0) ≡ false) → list_any p (take n xs) ≡ false
none-before p xs zero le none = refl
none-before p [] (suc n) le none = refl
none-before p (x ∷ xs) (suc n) le none = rw (none 0 (omega arith)) (none-before p xs n (omega arith) (λ k lt. none (suc k) (omega arith)))

-- and nowhere
pub none-at-all : (p : ℕ → Bool) (xs : List ℕ) → ((k : ℕ) → k < length xs → p (get_or xs k 0) ≡ false) → list_any p xs ≡ false
none-at-all p [] none = refl
none-at-all p (x ∷ xs) none = rw (none 0 (omega arith)) (none-at-all p xs (λ k lt. none (suc k) (omega arith)))

-- whether a search finds a byte
pub found-any : (p : ℕ → Bool) (xs : List ℕ) (r : Option ℕ) → IsFirstByte p xs r → is_some r ≡ list_any p xs
found-any p xs None first = sym (none-at-all p xs (λ k lt. false_from_ne_true _ (first k (omega arith) lt)))
found-any p xs (Some k) first = sym (list_any_at p xs k 0 first.0.high first.1)

-- two runs that meet
pub runs-join : (p : ℕ → Bool) (xs : List ℕ) (a b c : ℕ) → a ≤ b → b ≤ c → list_any p (take (b - a) (drop a xs)) ≡ false → list_any p (take (c - b) (drop b xs)) ≡ false
    → list_any p (take (c - a) (drop a xs)) ≡ false
runs-join p xs a b c ab bc first second =
    let whole : c - a ≡ (b - a) + (c - b) = omega arith in
    let there : a + (b - a) ≡ b = omega arith in
    let rest : drop (b - a) (drop a xs) ≡ drop b xs = drop-drop (b - a) a xs ∙ ap (λ j. drop j xs) there in
    ap (λ j. list_any p (take j (drop a xs))) whole
    ∙ ap (list_any p) (take-add (b - a) (c - b) (drop a xs))
    ∙ list_any-append p (take (b - a) (drop a xs)) (take (c - b) (drop (b - a) (drop a xs)))
    ∙ ap (λ t. t || list_any p (take (c - b) (drop (b - a) (drop a xs)))) first
    ∙ ap (λ (l : List ℕ). list_any p (take (c - b) l)) rest ∙ second

-- the bytes before the one that a search found
pub run-found : (byte : ℕ) (line : List ℕ) (start at : ℕ) (r : Option ℕ) → start ≤ length line → IsFirstByte (is_byte byte) (take (length line - start) (drop start line)) r → r ≡ Some at
    → list_any (is_byte byte) (take (start + at - start) (drop start line)) ≡ false
run-found byte line start at r within first is =
    let hay = take (length line - start) (drop start line) in
    let found = subst (λ (o : Option ℕ). IsFirstByte (is_byte byte) hay o) is first in
    let long : length hay ≡ length line - start = length-take-le (length line - start) (drop start line) (omega (arith, length-drop start line)) in
    let high = found.0.high in
    let same : start + at - start ≡ at = omega arith in
    ap (λ j. list_any (is_byte byte) (take j (drop start line))) same
    ∙ ap (list_any (is_byte byte)) (sym (take-take at (length line - start) (drop start line) (omega (arith, high, long))))
    ∙ none-before (is_byte byte) hay at (omega (arith, high)) (λ k lt. false_from_ne_true _ (found.0.before k (omega arith) lt))

-- where it found none
pub run-to-end : (byte : ℕ) (line : List ℕ) (start : ℕ) (r : Option ℕ) → IsFirstByte (is_byte byte) (take (length line - start) (drop start line)) r → r ≡ None
    → list_any (is_byte byte) (take (length line - start) (drop start line)) ≡ false
run-to-end byte line start r first is =
    let hay = take (length line - start) (drop start line) in
    let found = subst (λ (o : Option ℕ). IsFirstByte (is_byte byte) hay o) is first in
    none-at-all (is_byte byte) hay (λ k lt. false_from_ne_true _ (found k (omega arith) lt))

-- a byte, and a run behind it
pub run-begun : (p : ℕ → Bool) (xs : List ℕ) (s e : ℕ) → s < length xs → s + 1 ≤ e → p (get_or xs s 0) ≡ false → list_any p (take (e - (s + 1)) (drop (s + 1) xs)) ≡ false
    → list_any p (take (e - s) (drop s xs)) ≡ false
run-begun p xs s e within behind here rest = runs-join p xs s (s + 1) e (omega arith) behind (run-step p xs s s (omega arith) within (run-none p xs s) here) rest

quoting-at : (line : List ℕ) (s a b : ℕ) (x y : List ℕ) → a ≡ b → x ≡ y → IsQuoting line s a true x → IsQuoting line s b true y
quoting-at line s a b x y e f h = subst (λ (z : List ℕ). IsQuoting line s b true z) f (subst (λ n. IsQuoting line s n true x) e h)

-- a run of bytes between quotes
quoting-run : (line field : List ℕ) (s at n : ℕ) → at + n ≤ length line → list_any is_quote (take n (drop at line)) ≡ false → IsQuoting line s at true field
    → IsQuoting line s (at + n) true (field ++ take n (drop at line))
quoting-run line field s at zero fits none old = quoting-at line s at (at + 0) field (field ++ []) (omega arith) (sym (append-nil field)) old
quoting-run line field s at (suc m) fits none old =
    let here : drop at line ≡ get_or line at 0 ∷ drop (at + 1) line = drop_more line at 0 (omega arith) in
    let whole : take (suc m) (drop at line) ≡ get_or line at 0 ∷ take m (drop (at + 1) line) = ap (take (suc m)) here in
    let parts = or_parts (is_quote (get_or line at 0)) (list_any is_quote (take m (drop (at + 1) line))) (sym (ap (list_any is_quote) whole) ∙ none) in
    let more = quoting-run line (field ++ (get_or line at 0 ∷ [])) s (at + 1) m (omega arith) parts.1 (quoting-more line field s at (omega arith) parts.0 old) in
    quoting-at line s (at + 1 + m) (at + suc m) _ _ (omega arith)
    (append_assoc field (get_or line at 0 ∷ []) (take m (drop (at + 1) line)) ∙ ap (λ (l : List ℕ). field ++ l) (sym whole)) more

-- the same by the place behind it
pub quoting-to : (line field : List ℕ) (s at e : ℕ) → at ≤ e → e ≤ length line → list_any is_quote (take (e - at) (drop at line)) ≡ false → IsQuoting line s at true field
    → IsQuoting line s e true (field ++ take (e - at) (drop at line))
quoting-to line field s at e le within none old =
    let there : at + (e - at) ≡ e = omega arith in
    subst (λ n. IsQuoting line s n true (field ++ take (e - at) (drop at line))) there (quoting-run line field s at (e - at) (omega arith) none old)
