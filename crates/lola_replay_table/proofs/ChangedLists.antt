-- A list that is written at one place.
use Rattle.std.proofs.Common.{◌≡◌, ap, ℕ, zero, suc, ◌<◌, List, [], ◌∷◌, Result, Ok, Err, OnOk, arith, get_or, length, slice_set}
use Rattle.lola_replay_table.specs.Open.{changed_at}

pub set-changed : {A : Type 0} (f : A → A) (n : ℕ) (xs : List A) (x : A) → n < length xs → x ≡ get_or xs n x → slice_set xs n (f x) ≡ changed_at n f xs
set-changed f n [] x within is = absurd (omega (arith, within))
set-changed f zero (y ∷ ys) x within is = ap (λ z. f z ∷ ys) is
set-changed f (suc n) (y ∷ ys) x within is = ap (λ zs. y ∷ zs) (set-changed f n ys x (omega (arith, within)) is)

pub on-ok : {A E : Type 0} (P Q : Type 0) (r : Result A E) → (P → Q) → OnOk r P → OnOk r Q
on-ok P Q (Ok x) f p = f p
on-ok P Q (Err e) f p = p
