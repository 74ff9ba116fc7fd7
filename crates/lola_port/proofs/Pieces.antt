-- The bytes that a read moves out of a source in memory.
use Rattle.std.proofs.Common.{◌≡◌, ◌+◌, List, ℕ, length, take, drop, ◌++◌, sym, ◌∙◌, ap, take-append-drop}
use Rattle.std.proofs.lemmas.List.{take_at, drop-drop}

-- the bytes moved, and those behind them, are those that were left
pub moved : (s tail new : List ℕ) (at n : ℕ) → new ≡ take n (drop at s) → length new ≡ n → drop at s ≡ take n (new ++ tail) ++ drop (at + n) s
moved s tail new at n is long =
    sym (take-append-drop n (drop at s))
    ∙ ap (λ (l : List ℕ). l ++ drop n (drop at s)) (sym is ∙ sym (take_at new tail n long))
    ∙ ap (λ (l : List ℕ). take n (new ++ tail) ++ l) (drop-drop n at s)
