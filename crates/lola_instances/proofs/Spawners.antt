-- One more number behind a list of them.
use Rattle.std.proofs.Common.{◌≡◌, ◌∙◌, ℕ, List, [], ◌∷◌, ◌++◌, refl, ap, nat_eq, eq-eqb, ◌||◌, Bool, true, false}
use Rattle.lola_instances.specs.Spawning.{is_among}

or_true : (b : Bool) → (b || true) ≡ true
or_true true = refl
or_true false = refl

pub among_last : (n : ℕ) (ns : List ℕ) → is_among n (ns ++ n ∷ []) ≡ true
among_last n [] = ap (λ b. b || false) (eq-eqb n n refl)
among_last n (m ∷ ns) = ap (λ b. nat_eq n m || b) (among_last n ns) ∙ or_true (nat_eq n m)

pub among_more : (n k : ℕ) (ns : List ℕ) → is_among n ns ≡ true → is_among n (ns ++ k ∷ []) ≡ true
among_more n k [] h = cc
among_more n k (m ∷ ns) h =
    elim (nat_eq n m) as (λ b. (b || is_among n ns) ≡ true → (b || is_among n (ns ++ k ∷ [])) ≡ true) [
      | true ↦ λ e. refl
      | false ↦ λ e. among_more n k ns e
    ] h
