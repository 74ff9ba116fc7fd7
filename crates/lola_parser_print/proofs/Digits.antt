-- Digits with a point among them.
use Rattle.std.proofs.Common.{◌≡◌, ℕ, zero, suc, ◌+◌, ◌-◌, ◌≤◌, ◌<◌, max, List, [], ◌∷◌, ◌++◌, length, take, drop, refl, sym, ap, ◌∙◌, append_assoc, arith, length-append, take-append-drop}
use Rattle.std.proofs.lemmas.List.{take_at, drop_at, replicate-append-replicate, length-take-le}
use Rattle.lola_parser_print.specs.Print.{zeros, padded, pointed}

length_zeros : (n : ℕ) → length (zeros n) ≡ n
length_zeros zero = refl
length_zeros (suc n) = omega (arith, length_zeros n)

pointed_is : (k : ℕ) (ds : List ℕ) → 0 < k → pointed k ds ≡ take (length ds - k) ds ++ (46 ∷ drop (length ds - k) ds)
pointed_is zero ds h = absurd (omega (arith, h))
pointed_is (suc k) ds h = refl

cut_at : (k : ℕ) (ds front back : List ℕ) → 0 < k → ds ≡ front ++ back → length ds - k ≡ length front → pointed k ds ≡ front ++ (46 ∷ back)
cut_at k ds front back some is long =
    pointed_is k ds some ∙ ap (λ n. take n ds ++ (46 ∷ drop n ds)) long
    ∙ ap (λ l. take (length front) l ++ (46 ∷ drop (length front) l)) is
    ∙ ap (λ l. l ++ (46 ∷ drop (length front) (front ++ back))) (take_at front back (length front) refl)
    ∙ ap (λ l. front ++ (46 ∷ l)) (drop_at front back (length front) refl)

length_padded : (count : ℕ) (ds : List ℕ) → length (padded count ds) ≡ max count (length ds)
length_padded count ds =
    let n = length_zeros (count - length ds) in
    let long : length (padded count ds) ≡ count - length ds + length ds = length-append (zeros (count - length ds)) ds ∙ omega (arith, n) in
    omega (arith, long)

-- the point among the zeros, and among the digits
pub cut_low : (count k : ℕ) (ds : List ℕ) (pad cut : ℕ) → pad ≡ count - length ds → cut ≡ max count (length ds) - k → 0 < k → cut ≤ pad
    → (zeros cut ++ 46 ∷ []) ++ (zeros (pad - cut) ++ ds) ≡ pointed k (padded count ds)
cut_low count k ds pad cut pad_is cut_is some low =
    let split : padded count ds ≡ zeros cut ++ (zeros (pad - cut) ++ ds) =
    ap (λ n. zeros n ++ ds) (sym pad_is ∙ omega (arith, low)) ∙ ap (λ l. l ++ ds) (sym (replicate-append-replicate cut (pad - cut) 48)) ∙ append_assoc (zeros cut) (zeros (pad - cut)) ds in
    let long : length (padded count ds) - k ≡ length (zeros cut) = omega (arith, length_padded count ds, length_zeros cut, cut_is) in
    append_assoc (zeros cut) (46 ∷ []) (zeros (pad - cut) ++ ds) ∙ sym (cut_at k (padded count ds) (zeros cut) (zeros (pad - cut) ++ ds) some split long)

pub cut_high : (count k : ℕ) (ds : List ℕ) (pad cut : ℕ) → pad ≡ count - length ds → cut ≡ max count (length ds) - k → 0 < k → pad < cut
    → (zeros pad ++ take (cut - pad) ds) ++ (46 ∷ drop (cut - pad) ds) ≡ pointed k (padded count ds)
cut_high count k ds pad cut pad_is cut_is some high =
    let front = zeros pad ++ take (cut - pad) ds in
    let split : padded count ds ≡ front ++ drop (cut - pad) ds =
    ap (λ n. zeros n ++ ds) (sym pad_is) ∙ ap (λ l. zeros pad ++ l) (sym (take-append-drop (cut - pad) ds)) ∙ sym (append_assoc (zeros pad) (take (cut - pad) ds) (drop (cut - pad) ds)) in
    let part : length (take (cut - pad) ds) ≡ cut - pad = length-take-le (cut - pad) ds (omega (arith, pad_is, cut_is, high)) in
    let whole : length front ≡ length (zeros pad) + length (take (cut - pad) ds) = length-append (zeros pad) (take (cut - pad) ds) in
    let long : length (padded count ds) - k ≡ length front = omega (arith, length_padded count ds, length_zeros pad, cut_is, high, part, whole) in
    sym (cut_at k (padded count ds) front (drop (cut - pad) ds) some split long)
