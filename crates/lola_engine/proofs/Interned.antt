-- What a table that was asked for a text holds.
use Rattle.std.proofs.Common.{◌≡◌, ℕ, ◌+◌, ◌≤◌, List, [], ◌∷◌, ◌++◌, Option, Some, None, nat_eq, refl, sym, ap, subst, arith, inl, inr}
use Rattle.std.proofs.lemmas.Bool.{cases_Bool, eq-eqb, ne_eqb}
use Rattle.lola_value.specs.Arithmetic.{bytes_equal}
use Rattle.lola_value.specs.Naming.{Naming, text_at}
use Rattle.lola_model.specs.Reading.{IsHeldBy}
use Rattle.lola_model.proofs.Lookups.{bytes_equal-true}
use Rattle.lola_text.specs.Texts.{AreBetween, Gives, Interns, IsTable, Texts, number_in, with_text}

-- numbers between bounds need room
in_order : (low high : ℕ) (names : Naming) → AreBetween low names high → low ≤ high
in_order low high [] all = all
in_order low high (e ∷ es) all = let more = in_order (e.0 + 1) high es all.1 in omega (arith, all.0, more)

-- the number of a text that is held
number-least : (low high : ℕ) (names : Naming) (text : List ℕ) (number : ℕ) → AreBetween low names high → number_in names text ≡ Some number → low ≤ number
number-least low high [] text number all is = absurd (cc is)
number-least low high (e ∷ es) text number all is = elim (cases_Bool (bytes_equal text e.1)) [
  | inl hit ↦ let is' = rw hit at is in let same : e.0 ≡ number = cc is' in omega (arith, all.0, same)
  | inr miss ↦ let is' = rw miss at is in let more = number-least (e.0 + 1) high es text number all.1 is' in omega (arith, all.0, more)
]

-- has that text
number-has : (low high : ℕ) (names : Naming) (text : List ℕ) (number : ℕ) → AreBetween low names high → number_in names text ≡ Some number → text_at names number ≡ Some text
number-has low high [] text number all is = absurd (cc is)
number-has low high (e ∷ es) text number all is = elim (cases_Bool (bytes_equal text e.1)) [
  | inl hit ↦
      let is' = rw hit at is in
      let same : e.0 ≡ number = cc is' in
      rw (eq-eqb e.0 number same) (ap Some (sym (bytes_equal-true text e.1 hit)))
  | inr miss ↦
      let is' = rw miss at is in
      let above = number-least (e.0 + 1) high es text number all.1 is' in
      rw (ne_eqb e.0 number (λ same. absurd (omega (arith, same, above)))) (number-has (e.0 + 1) high es text number all.1 is')
]

-- a text behind all others is found by its number
last-has : (low high : ℕ) (names : Naming) (text : List ℕ) → AreBetween low names high → text_at (names ++ (high, text) ∷ []) high ≡ Some text
last-has low high [] text all = rw (eq-eqb high high refl) refl
last-has low high (e ∷ es) text all =
    let above = in_order (e.0 + 1) high es all.1 in
    rw (ne_eqb e.0 high (λ same. absurd (omega (arith, same, above)))) (last-has (e.0 + 1) high es text all.1)

-- what was held is found before what came behind it
found-before : (names more : Naming) (id : ℕ) (t : List ℕ) → text_at names id ≡ Some t → text_at (names ++ more) id ≡ Some t
found-before [] more id t is = absurd (cc is)
found-before (e ∷ es) more id t is = elim (cases_Bool (nat_eq e.0 id)) [
  | inl hit ↦ let is' = rw hit at is in rw hit is'
  | inr miss ↦ let is' = rw miss at is in rw miss (found-before es more id t is')
]

-- a naming has its own texts, and those of one before it
pub held-self : (names : Naming) → IsHeldBy names names
held-self names id t is = is

pub held-on : (a b c : Naming) → IsHeldBy a b → IsHeldBy b c → IsHeldBy a c
held-on a b c first second id t is = second id t (first id t is)

-- a text that was asked for is held under its number, all others are as before, and at most one number was given
pub record IsAsked (text : List ℕ) (id : ℕ) (old new : Texts) : Type 0 where
  pub there : text_at new.held id ≡ Some text
  pub held : IsHeldBy old.held new.held
  pub given : new.given ≤ old.given + 1

asked-by : (text : List ℕ) (id : ℕ) (old new : Texts) (o : Option ℕ) → IsTable old → number_in old.held text ≡ o → Gives o text id old new → IsAsked text id old new
asked-by text id old new (Some number) table is gives =
    let there : text_at old.held id ≡ Some text = rw gives.0 (number-has 0 old.given old.held text number table.numbers is) in
    subst (λ (t : Texts). IsAsked text id old t) (sym gives.1) (record { there = there; held = held-self old.held; given = omega arith })
asked-by text id old new None table is gives =
    let there : text_at (with_text old text).held id ≡ Some text = rw gives.0 (last-has 0 old.given old.held text table.numbers) in
    subst (λ (t : Texts). IsAsked text id old t) (sym gives.1)
    (record { there = there; held = λ i t. found-before old.held ((old.given, text) ∷ []) i t; given = omega arith })

pub asked : (text : List ℕ) (id : ℕ) (old new : Texts) → IsTable old → Interns text id old new → IsAsked text id old new
asked text id old new table gives = asked-by text id old new (number_in old.held text) table refl gives
