-- What two writes of digits leave in the room for a time.
use Rattle.std.proofs.Common.{◌≡◌, ℕ, ◌+◌, ◌-◌, ◌<◌, ◌≤◌, List, [], ◌∷◌, ◌++◌, length, take, drop, set, replicate, sym, ap, ◌∙◌, arith, take-append-drop, append-nil, ◌^◌, ◌/◌, ◌%◌}
use Rattle.std.specs.Fmt.{decimal}
use Rattle.std.proofs.lemmas.Fmt.{length-decimal-le}
use Rattle.std.proofs.lemmas.List.{length-replicate, take-replicate, drop-replicate, drop-append-le, drop-set}

-- digits at the end of a room of zeros have zeros before them
pub zeros_lead : (new digits : List ℕ) (from : ℕ) → from + length digits ≡ 21 → length digits ≤ 9 → drop from new ≡ digits ++ [] → take from new ≡ take from (replicate 21 48) → drop 12 new ≡ replicate (9 - length digits) 48 ++ digits
zeros_lead new digits from ends few written before =
    let within : from ≤ 21 = omega arith in
    let zeros : take from new ≡ replicate from 48 = before ∙ take-replicate from 21 48 within in
    let room : 12 ≤ length {A = ℕ} (replicate from 48) = omega (arith, length-replicate {A = ℕ} from 48) in
    let left : from - 12 ≡ 9 - length digits = omega arith in
    ap (drop 12) (sym (take-append-drop from new))
    ∙ ap (λ (l : List ℕ). drop 12 (l ++ drop from new)) zeros
    ∙ ap (λ (l : List ℕ). drop 12 (replicate from 48 ++ l)) (written ∙ append-nil digits)
    ∙ drop-append-le 12 (replicate from 48) digits room
    ∙ ap (λ (l : List ℕ). l ++ digits) (drop-replicate 12 from 48 ∙ ap (λ n. replicate n 48) left)

-- a point before them, and digits before the point
pub point_between : (room whole digits tail : List ℕ) → length room ≡ 21 → drop 12 room ≡ tail → digits ≡ whole ++ drop 11 (set room 11 46) → digits ≡ whole ++ 46 ∷ tail
point_between room whole digits tail long behind written =
    let inside : 11 < length room = omega arith in
    written ∙ ap (λ (l : List ℕ). whole ++ l) (drop-set room 11 46 inside ∙ ap (λ (l : List ℕ). 46 ∷ l) behind)

-- nanoseconds have nine digits at most
pub nine_at_most : (t : ℕ) → length (decimal (t % 1000000000)) ≤ 9
nine_at_most t =
    let below : t % 1000000000 < 1000000000 = omega arith in
    length-decimal-le 9 (t % 1000000000) (omega arith) (omega (arith, below)) (omega (arith, below))

-- the seconds of a u64 have eleven
pub eleven_at_most : (t : ℕ) → t < 2 ^ 64 → length (decimal (t / 1000000000)) ≤ 11
eleven_at_most t small =
    let below : t / 1000000000 < 100000000000 = omega arith in
    length-decimal-le 11 (t / 1000000000) (omega arith) (omega (arith, below)) (omega (arith, below))
