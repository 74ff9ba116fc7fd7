-- What writes of digits leave in the room for the head of a line.
use Rattle.std.proofs.Common.{◌≡◌, ℕ, ◌+◌, ◌-◌, ◌<◌, ◌≤◌, ◌^◌, List, [], ◌∷◌, ◌++◌, length, take, drop, set, replicate, sym, ap, ◌∙◌, arith, take-append-drop, append_assoc}
use Rattle.std.specs.Fmt.{decimal}
use Rattle.std.proofs.lemmas.Fmt.{length-decimal-le}
use Rattle.std.proofs.lemmas.List.{length-replicate, take-replicate, take-set-le, drop-replicate, drop-append-le, drop-set, drop_all}

-- a comma before what begins at a place
pub comma_at : (room : List ℕ) (comma before : ℕ) → comma + 1 ≡ before → comma < length room → drop comma (set room comma 44) ≡ 44 ∷ drop before room
comma_at room comma before next inside = drop-set room comma 44 inside ∙ ap (λ n. 44 ∷ drop n room) next

-- a comma at the end
pub comma_last : (room : List ℕ) → length room ≡ 64 → drop 63 (set room 63 44) ≡ 44 ∷ []
comma_last room long =
    let inside : 63 < length room = omega arith in
    let end : length room ≤ 64 = omega arith in
    drop-set room 63 44 inside ∙ ap (λ (l : List ℕ). 44 ∷ l) (drop_all 64 room end)

-- digits before the comma have zeros before them
pub zeros_lead : (room new digits : List ℕ) (from : ℕ) → room ≡ replicate 64 48 → from + length digits ≡ 63 → length digits ≤ 9 → drop from new ≡ digits ++ 44 ∷ [] → take from new ≡ take from (set room 63 44)
    → drop 54 new ≡ (replicate (9 - length digits) 48 ++ digits) ++ 44 ∷ []
zeros_lead room new digits from zeros_are ends few written before =
    let within : from ≤ 63 = omega arith in
    let inside : from ≤ 64 = omega arith in
    let zeros : take from new ≡ replicate from 48 = before ∙ take-set-le from room 63 44 within ∙ ap (take from) zeros_are ∙ take-replicate from 64 48 inside in
    let long : 54 ≤ length {A = ℕ} (replicate from 48) = omega (arith, length-replicate {A = ℕ} from 48) in
    let left : from - 54 ≡ 9 - length digits = omega arith in
    ap (drop 54) (sym (take-append-drop from new))
    ∙ ap (λ (l : List ℕ). drop 54 (l ++ drop from new)) zeros
    ∙ ap (λ (l : List ℕ). drop 54 (replicate from 48 ++ l)) written
    ∙ drop-append-le 54 (replicate from 48) (digits ++ 44 ∷ []) long
    ∙ ap (λ (l : List ℕ). l ++ (digits ++ 44 ∷ [])) (drop-replicate 54 from 48 ∙ ap (λ n. replicate n 48) left)
    ∙ sym (append_assoc (replicate (9 - length digits) 48) digits (44 ∷ []))

-- a point before them, and digits before the point
pub point_between : (room whole text tail : List ℕ) → length room ≡ 64 → drop 54 room ≡ tail ++ 44 ∷ [] → text ≡ whole ++ drop 53 (set room 53 46) → text ≡ (whole ++ 46 ∷ tail) ++ 44 ∷ []
point_between room whole text tail long behind written =
    let inside : 53 < length room = omega arith in
    written ∙ ap (λ (l : List ℕ). whole ++ l) (drop-set room 53 46 inside ∙ ap (λ (l : List ℕ). 46 ∷ l) behind) ∙ sym (append_assoc whole (46 ∷ tail) (44 ∷ []))

-- a number of 64 bits has twenty digits at most
pub twenty_at_most : (n : ℕ) → n < 2 ^ 64 → length (decimal n) ≤ 20
twenty_at_most n small = length-decimal-le 20 n (omega arith) (omega (arith, small)) (omega (arith, small))
