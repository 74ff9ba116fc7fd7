-- Texts of the bytes of a list, in which runs of bytes stand for themselves.
use Rattle.std.proofs.Common.{◌≡◌, List, [], ◌∷◌, ◌++◌, ℕ, ◌+◌, ◌-◌, ◌<◌, ◌≤◌, length, get_or, take, drop, sym, ap, ◌∙◌, append_assoc, append-nil, flat_map, arith, take-append-drop}
use Rattle.std.specs.List.{between}
use Rattle.std.proofs.lemmas.List.{take-take, take_all}
use Rattle.std.proofs.lemmas.List.Edits.{between_none, between_more}
use Rattle.std.proofs.lemmas.List.Concat.{flat_map-append}
use Rattle.std.proofs.lemmas.Slice.{between_is}

-- up to i, the bytes up to `done` and the run between them
pub run_behind : (xs : List ℕ) (done i : ℕ) → done ≤ i → take i xs ≡ take done xs ++ between done i xs
run_behind xs done i within =
    sym (take-append-drop done (take i xs))
    ∙ ap (λ (l : List ℕ). l ++ drop done (take i xs)) (take-take done i xs within)
    ∙ ap (λ (l : List ℕ). take done xs ++ l) (sym (between_is xs done i))

-- a run that stands for itself
pub run_appended : (f : ℕ → List ℕ) (xs : List ℕ) (done i : ℕ) (old mid new : List ℕ)
    → done ≤ i → mid ≡ old ++ flat_map f (take done xs) → flat_map f (between done i xs) ≡ between done i xs → new ≡ mid ++ between done i xs
    → new ≡ old ++ flat_map f (take i xs)
run_appended f xs done i old mid new within before plain after =
    after ∙ ap (λ (l : List ℕ). l ++ between done i xs) before
    ∙ append_assoc old (flat_map f (take done xs)) (between done i xs)
    ∙ ap (λ (l : List ℕ). old ++ l)
    (ap (λ (l : List ℕ). flat_map f (take done xs) ++ l) (sym plain)
    ∙ sym (flat_map-append f (take done xs) (between done i xs))
    ∙ ap (flat_map f) (sym (run_behind xs done i within)))

-- a byte more that stands for itself
pub run_more : (f : ℕ → List ℕ) (xs : List ℕ) (done i : ℕ)
    → done ≤ i → i < length xs → flat_map f (between done i xs) ≡ between done i xs → f (get_or xs i 0) ≡ get_or xs i 0 ∷ []
    → flat_map f (between done (i + 1) xs) ≡ between done (i + 1) xs
run_more f xs done i behind within plain same =
    let more = between_more xs done i 0 behind within in
    ap (flat_map f) more
    ∙ flat_map-append f (between done i xs) (get_or xs i 0 ∷ [])
    ∙ ap (λ (l : List ℕ). l ++ (f (get_or xs i 0) ++ [])) plain
    ∙ ap (λ (l : List ℕ). between done i xs ++ l) (append-nil (f (get_or xs i 0)) ∙ same)
    ∙ sym more

-- no run
pub run_none : (f : ℕ → List ℕ) (xs : List ℕ) (i : ℕ) → flat_map f (between i i xs) ≡ between i i xs
run_none f xs i = ap (flat_map f) (between_none xs i) ∙ sym (between_none xs i)

-- the last run, up to the end
pub run_to_end : (f : ℕ → List ℕ) (xs : List ℕ) (done i : ℕ) (old mid new : List ℕ)
    → done ≤ i → i ≡ length xs → mid ≡ old ++ flat_map f (take done xs) → flat_map f (between done i xs) ≡ between done i xs
    → new ≡ mid ++ take (length xs - done) (drop done xs)
    → new ≡ old ++ flat_map f xs
run_to_end f xs done i old mid new behind end before plain after =
    run_appended f xs done i old mid new behind before plain (after ∙ ap (λ n. mid ++ take (n - done) (drop done xs)) (sym end))
    ∙ ap (λ (l : List ℕ). old ++ flat_map f l) (ap (λ n. take n xs) end ∙ take_all (length xs) xs (omega arith))
