-- Choices and tests.
use Rattle.std.proofs.Common.{◌≡◌, ℕ, ◌≤◌, Bool, true, false, ◌&&◌, Option, Some, None, refl, ap, ◌∙◌, arith, nat_le, nat_eq}
use Rattle.std.proofs.lemmas.Bool.Decides.{nat_tests}
use Rattle.lola_save_text.specs.Places.{chosen, where_so}

pub where-so : {X : Type 0} (b : Bool) (x y : X) → where_so b x ≡ Some y → (b ≡ true) × (x ≡ y)
where-so true x y e = (refl, grind (arith, e))
where-so false x y e = absurd (cc)

pub chosen-so : {X Y : Type 0} (o : Option X) (f : X → Option Y) (y : Y) → chosen o f ≡ Some y → (x : X) × (o ≡ Some x) × (f x ≡ Some y)
chosen-so None f y e = absurd (cc)
chosen-so (Some x) f y e = (x, refl, e)

pub both-so : (a b : Bool) → a ≡ true → b ≡ true → (a && b) ≡ true
both-so a b e f = ap (λ c. c && b) e ∙ f

pub le-so : (a b : ℕ) → nat_le a b ≡ true → a ≤ b
le-so a b e = grind (arith, nat_tests)

pub so-le : (a b : ℕ) → a ≤ b → nat_le a b ≡ true
so-le a b e = grind (arith, nat_tests)

pub so-eq : (a : ℕ) → nat_eq a a ≡ true
so-eq a = grind (arith, nat_tests)

pub eq-so : (a b : ℕ) → nat_eq a b ≡ true → a ≡ b
eq-so a b e = grind (arith, nat_tests)

pub ne-so : (a : ℕ) → nat_eq a 0 ≡ false → 1 ≤ a
ne-so a e = grind (arith, nat_tests)

pub so-ne : (a : ℕ) → 1 ≤ a → nat_eq a 0 ≡ false
so-ne a e = grind (arith, nat_tests)
