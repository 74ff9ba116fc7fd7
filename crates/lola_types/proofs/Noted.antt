-- One list of refusals after another.
use Rattle.std.proofs.Common.{◌≡◌, refl, ap, sym, ◌∙◌, List, [], ◌∷◌, ◌++◌, Option, Some, None, Bool, true, false, if◌then◌else◌}
use Rattle.lola_value.specs.declared.front.Refusal.{Refusal}
use Rattle.lola_model.specs.Refusals.{earlier, first_of}
use Rattle.lola_model.proofs.FirstRefusal.{grouped, first_of_both}
use Rattle.lola_types.specs.Refused.{with_more}

earlier_none : (o : Option Refusal) → earlier o None ≡ o
earlier_none None = refl
earlier_none (Some r) = refl

pub more_of_none : (o : Option Refusal) → with_more o [] ≡ o
unfolding with_more
more_of_none o = earlier_none o

pub more_of_one : (o : Option Refusal) (r : Refusal) → earlier o (Some r) ≡ with_more o (r ∷ [])
unfolding with_more
more_of_one o r = refl

pub more_of_both : (o : Option Refusal) (xs ys : List Refusal) → with_more o (xs ++ ys) ≡ with_more (with_more o xs) ys
unfolding with_more
more_of_both o xs ys = ap (earlier o) (first_of_both xs ys) ∙ sym (grouped o (first_of xs) (first_of ys))

pub more_of_all : (xs : List Refusal) → with_more None xs ≡ first_of xs
unfolding with_more
more_of_all xs = refl

pub more_where : (b : Bool) (o : Option Refusal) (xs : List Refusal) → (if b then o else earlier o (with_more None xs)) ≡ with_more o (if b then [] else xs)
unfolding with_more
more_where true o xs = sym (earlier_none o)
more_where false o xs = refl
