-- The bytes that are left behind those that were moved, and those that come behind them.
use Rattle.std.proofs.Common.{◌≡◌, ◌+◌, ◌-◌, ◌^◌, ◌<◌, ◌≤◌, List, ℕ, Result, Ok, Err, OnErr, length, take, drop, ◌++◌, sym, ◌∙◌, ap, ap₂, subst, append-nil, arith, length-take, length-take-le, length-drop}
use Rattle.std.proofs.lemmas.List.{drop-drop, drop-take, drop-append-le}
use lib.Seq.{take-append-add, take-append-le}
use Rattle.std.specs.Io.KnownBytes.{Consumes, IsAtEnd}
use Rattle.std.specs.declared.option.Option.{Option}
use Rattle.lola_port.specs.Bytes.{PieceState, IsFilled}

-- what stands between two places, once some of it was moved
pub left_behind : (s : List ℕ) (at end n : ℕ) → n ≤ end - at → take (end - (at + n)) (drop (at + n) s) ≡ drop n (take (end - at) (drop at s))
left_behind s at end n within =
    let rest : end - at ≡ n + (end - (at + n)) = omega arith in
    ap (λ (l : List ℕ). take (end - (at + n)) l) (sym (drop-drop n at s)) ∙ sym (drop-take n (end - (at + n)) (drop at s)) ∙ ap (λ k. drop n (take k (drop at s))) (sym rest)

-- what stands between two places, where bytes came behind the second and some of them count
pub come_behind : (s t : List ℕ) (at end n : ℕ) → at ≤ end → end ≤ length s → take (end + n - at) (drop at (take end s ++ t)) ≡ take (end - at) (drop at s) ++ take n t
come_behind s t at end n first within =
    let old = take (end - at) (drop at s) in
    let long : length (take end s) ≡ end = omega (arith, length-take end s) in
    let much : length old ≡ end - at = omega (arith, length-take (end - at) (drop at s), length-drop at s) in
    let whole : at + (end - at) ≡ end = omega arith in
    let kept : drop at (take end s) ≡ old = ap (λ k. drop at (take k s)) (sym whole) ∙ drop-take at (end - at) s in
    let parts : drop at (take end s ++ t) ≡ old ++ t = drop-append-le at (take end s) t (omega arith) ∙ ap (λ (l : List ℕ). l ++ t) kept in
    let many : end + n - at ≡ length old + n = omega arith in
    ap₂ (λ k (l : List ℕ). take k l) many parts ∙ take-append-add old t n

-- a piece of such bytes, where a part of the room behind them was written
pub filled : (old : PieceState) (s shown t tail items : List ℕ) (at end n : ℕ) (before after : Option (List ℕ)) → at ≤ end → end ≤ length s → shown ≡ s → items ≡ take end shown ++ (t ++ tail)
    → n ≤ length t → Consumes before after (take n t) → (n ≡ 0 → 0 < 2 ^ 17 - end → IsAtEnd after) → end + n ≤ 2 ^ 17
    → record { bytes = take (end - at) (drop at s); room = 2 ^ 17 - end } ≡ old
    → IsFilled old (record { bytes = take (end + n - at) (drop at items); room = 2 ^ 17 - (end + n) }) before after n
filled old s shown t tail items at end n before after first within same is some taken ended most was =
    let now : PieceState = record { bytes = take (end + n - at) (drop at items); room = 2 ^ 17 - (end + n) } in
    let front : take n (t ++ tail) ≡ take n t = take-append-le n t tail some in
    subst (λ p. IsFilled p now before after n) was (record {
      come = take n t;
      many = length-take-le n t some;
      taken = taken;
      behind = ap (λ (l : List ℕ). take (end + n - at) (drop at l)) (is ∙ ap (λ (l : List ℕ). take end l ++ (t ++ tail)) same)
          ∙ come_behind s (t ++ tail) at end n first within
          ∙ ap (λ (l : List ℕ). take (end - at) (drop at s) ++ l) front;
      room = omega arith;
      end = ended;
    })

-- none of them counts
pub unfilled : (s shown t items : List ℕ) (at end : ℕ) → at ≤ end → end ≤ length s → shown ≡ s → items ≡ take end shown ++ t → take (end - at) (drop at items) ≡ take (end - at) (drop at s)
unfilled s shown t items at end first within same is =
    let none : end - at ≡ end + 0 - at = omega arith in
    ap (λ (l : List ℕ). take (end - at) (drop at l)) (is ∙ ap (λ (l : List ℕ). take end l ++ t) same)
    ∙ ap (λ k. take k (drop at (take end s ++ t))) none ∙ come_behind s t at end 0 first within ∙ append-nil (take (end - at) (drop at s))

-- what holds holds at each error
pub at_error : {A E : Type 0} (r : Result A E) (P : Type 0) → P → OnErr r P
at_error (Ok x) P p = tt
at_error (Err e) P p = p
