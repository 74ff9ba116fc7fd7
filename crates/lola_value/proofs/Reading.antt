-- Numbers from digits.
use Rattle.std.proofs.Common.{◌≡◌, ◌<◌, ◌≤◌, ◌+◌, ◌-◌, ◌*◌, ◌^◌, ℕ, List, [], ◌∷◌, ◌++◌, min, length, take, drop, get_or, replicate, refl, sym, ap, ◌∙◌, arith, ⊎_elim, unwrap_or}
use Rattle.std.specs.List.{position, position_or_len}
use Rattle.std.proofs.lemmas.Bool.{cases_lt}
use Rattle.std.proofs.lemmas.Grind.{common_steps}
use Rattle.std.proofs.lemmas.List.{drop_more, get_or-take, get_or_append_left, get_or-append_right, get_or_past, get_or-replicate}
use Rattle.std.proofs.lemmas.List.Sums.{prefix_len-le-length}
use Rattle.lola_value.specs.Times.{is_point, number_after}

-- digits make a number no smaller
number_grows : (n : ℕ) (ds : List ℕ) → n ≤ number_after n ds
number_grows n [] = omega arith
number_grows n (d ∷ ds) = omega (arith, number_grows (n * 10 + (d - 48)) ds)

-- a number that is cut at a limit before the last digits, or behind them
capped : (n limit : ℕ) (ds : List ℕ) → min (number_after (min n limit) ds) limit ≡ min (number_after n ds) limit
capped n limit ds = ⊎_elim
    (λ below. let same : min n limit ≡ n = omega arith in ap (λ k. min (number_after k ds) limit) same)
    (λ above. let same : min n limit ≡ limit = omega arith in
    ap (λ k. min (number_after k ds) limit) same
    ∙ (let a = number_grows limit ds in let b = number_grows n ds in let both : min (number_after limit ds) limit ≡ min (number_after n ds) limit = omega (arith, a, b) in both))
    (cases_lt n limit)

-- one digit more, under a limit
pub capped_more : (digits : List ℕ) (i n next limit whole : ℕ) → i < length digits → next ≡ min (n * 10 + (get_or digits i 0 - 48)) limit → min (number_after n (drop i digits)) limit ≡ whole → min (number_after next (drop (i + 1) digits)) limit ≡ whole
capped_more digits i n next limit whole inside is was =
    ap (λ k. min (number_after k (drop (i + 1) digits)) limit) is
    ∙ capped (n * 10 + (get_or digits i 0 - 48)) limit (drop (i + 1) digits)
    ∙ ap (λ (l : List ℕ). min (number_after n l) limit) (sym (drop_more digits i 0 inside))
    ∙ was

-- one digit more
pub number_more : (digits : List ℕ) (i n next whole : ℕ) → i < length digits → next ≡ n * 10 + (get_or digits i 48 - 48) → number_after n (drop i digits) ≡ whole → number_after next (drop (i + 1) digits) ≡ whole
number_more digits i n next whole inside is was =
    ap (λ k. number_after k (drop (i + 1) digits)) is
    ∙ ap (number_after n) (sym (drop_more digits i 48 inside))
    ∙ was

-- a digit, or the zero behind the last
pub in_padding : (digits : List ℕ) (i : ℕ) → i < 9 → get_or (take 9 (digits ++ replicate 9 48)) i 48 ≡ get_or digits i 48
in_padding digits i inside =
    get_or-take 9 (digits ++ replicate 9 48) i 48 inside
    ∙ ⊎_elim
    (λ here. get_or_append_left digits (replicate 9 48) 48 i here)
    (λ past. get_or-append_right digits (replicate 9 48) (length digits) i 48 refl past ∙ get_or-replicate 9 (i - length digits) 48 48 (omega arith) ∙ sym (get_or_past digits i 48 past))
    (cases_lt i (length digits))

-- the place of the first point, or the length
pub place_is : (xs : List ℕ) → unwrap_or (position is_point xs) (length xs) ≡ position_or_len is_point xs
place_is xs = grind (arith, common_steps, prefix_len-le-length)

-- a number of so many digits, and one digit more
pub below_more : (n digit place : ℕ) → n < 10 ^ place → digit < 10 → n * 10 + digit < 10 ^ (place + 1)
below_more n digit place below small = grind (arith, common_steps)
