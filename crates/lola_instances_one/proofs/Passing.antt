-- The loop that gives a value to each window's panes.
use Rattle.std.proofs.Common.{◌≡◌, ℕ, zero, suc, List, [], ◌∷◌, length, refl, ap, sym, subst, Some, slice_get, slice_set}
use Rattle.lola_value.specs.declared.value.Value.{Value}
use Rattle.lola_panes.specs.Standing.{Partials}
use Rattle.lola_instances_one.specs.Telling.{IsReady, AllReady, Told, ToldAll}

-- up to a place they were given it
abbrev pub ToldUpTo : ℕ → Value → ℕ → List Partials → List Partials → Type 0
ToldUpTo offset v zero ps qs = ps ≡ qs
ToldUpTo offset v (suc i) (p ∷ ps) (q ∷ qs) = Told offset v p q × ToldUpTo offset v i ps qs
ToldUpTo offset v (suc i) [] [] = Unit {0}
ToldUpTo offset v (suc i) _ _ = ⊥

pub told_more : (offset : ℕ) (v : Value) (i : ℕ) (ps qs : List Partials) (p q : Partials) → ToldUpTo offset v i ps qs → slice_get qs i ≡ Some p → Told offset v p q → ToldUpTo offset v (suc i) ps (slice_set qs i q)
told_more offset v zero [] qs p q h e t = absurd (let k : slice_get [] 0 ≡ Some p = subst (λ (l : List Partials). slice_get l 0 ≡ Some p) (sym h) e in cc)
told_more offset v zero (x ∷ ps) [] p q h e t = absurd (cc)
told_more offset v zero (x ∷ ps) (y ∷ qs) p q h e t = let a : y ≡ p = cc in let b : x ≡ p = cc in let d : ps ≡ qs = cc in (subst (λ (z : Partials). Told offset v z q) (sym b) t, d)
told_more offset v (suc i) [] [] p q h e t = absurd (cc)
told_more offset v (suc i) [] (y ∷ qs) p q h e t = absurd h
told_more offset v (suc i) (x ∷ ps) [] p q h e t = absurd h
told_more offset v (suc i) (x ∷ ps) (y ∷ qs) p q h e t = (h.0, told_more offset v i ps qs p q h.1 e t)

pub told_ready : (offset : ℕ) (v : Value) (i : ℕ) (ps qs : List Partials) (p : Partials) → ToldUpTo offset v i ps qs → AllReady offset v ps → slice_get qs i ≡ Some p → IsReady offset v p
told_ready offset v zero [] qs p h r e = absurd (let k : slice_get [] 0 ≡ Some p = subst (λ (l : List Partials). slice_get l 0 ≡ Some p) (sym h) e in cc)
told_ready offset v zero (x ∷ ps) [] p h r e = absurd (cc)
told_ready offset v zero (x ∷ ps) (y ∷ qs) p h r e = let b : x ≡ p = cc in subst (IsReady offset v) b r.0
told_ready offset v (suc i) [] [] p h r e = absurd (cc)
told_ready offset v (suc i) [] (y ∷ qs) p h r e = absurd h
told_ready offset v (suc i) (x ∷ ps) [] p h r e = absurd h
told_ready offset v (suc i) (x ∷ ps) (y ∷ qs) p h r e = told_ready offset v i ps qs p h.1 r.1 e

pub told_length : (offset : ℕ) (v : Value) (i : ℕ) (ps qs : List Partials) → ToldUpTo offset v i ps qs → length qs ≡ length ps
told_length offset v zero ps qs h = ap length (sym h)
told_length offset v (suc i) [] [] h = refl
told_length offset v (suc i) [] (y ∷ qs) h = absurd h
told_length offset v (suc i) (x ∷ ps) [] h = absurd h
told_length offset v (suc i) (x ∷ ps) (y ∷ qs) h = ap suc (told_length offset v i ps qs h.1)

pub told_all : (offset : ℕ) (v : Value) (ps qs : List Partials) → ToldUpTo offset v (length ps) ps qs → ToldAll offset v ps qs
told_all offset v [] qs h = subst (ToldAll offset v []) h tt
told_all offset v (x ∷ ps) [] h = absurd h
told_all offset v (x ∷ ps) (y ∷ qs) h = (h.0, told_all offset v ps qs h.1)
