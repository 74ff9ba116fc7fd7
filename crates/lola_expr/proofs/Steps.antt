-- Instructions that are passed are left out, and values are taken off a stack from its end.
use Rattle.std.proofs.Common.{◌≡◌, ℕ, zero, suc, ◌≤◌, arith, Bool, true, false, refl, sym, ap, ◌∙◌, subst, List, [], ◌∷◌, ◌++◌, length, take, drop, reverse, append_assoc}
use Rattle.std.proofs.lemmas.List.{reverse-append, length-drop}
use Rattle.lola_value.specs.declared.value.Value.{Value}
use Rattle.lola_value.specs.declared.value.Outcome.{Outcome}
use Rattle.lola_value.specs.declared.value.Outcome.TheVariants as outcome
use Rattle.lola_value.specs.declared.value.Params.{Params}
use Rattle.lola_model.specs.Store.{Memories, Seen}
use Rattle.lola_model.specs.declared.expr.Access.TheVariants as access
use Rattle.lola_model.specs.declared.expr.Binary.{Binary}
use Rattle.lola_value.specs.declared.value.Kind.{Kind}
use Rattle.lola_expr.specs.Operands.{operands_fit, truth_in}
use Rattle.lola_expr.specs.declared.instr.Instr.{Instr}
use Rattle.lola_expr.specs.declared.instr.Instr.TheVariants as instr
use Rattle.lola_expr.specs.Machine.{Asked, Leads, Operates, or_short, top}
use Rattle.lola_value.specs.Shorts.{has_value, value_in, widened}
use Rattle.lola_value.specs.declared.short.Short.{Short}
use Rattle.lola_value.specs.declared.short.Short.TheVariants as short
use Rattle.lola_expr.proofs.Shorts.{is_no_value, is_the_value}

pub drop_shorter : (n : ℕ) (is : List Instr) → length (drop n is) ≤ length is
drop_shorter n is = omega (arith, length-drop n is)

-- what was pushed last is the newest
pub push_turned : (items : List Value) (v : Value) → reverse (items ++ v ∷ []) ≡ v ∷ reverse items
push_turned items v = reverse-append items (v ∷ [])

-- and what is popped was
pub pop_turned : (old new : List Value) (v : Value) → old ≡ new ++ v ∷ [] → reverse old ≡ v ∷ reverse new
pop_turned old new v e = ap reverse e ∙ push_turned new v

-- to pass instructions is to leave them out
pub leads_drop : (remembers : Memories) (s : Seen) (p : Params) (wanted : Outcome → Type 0) (is : List Instr) (n : ℕ) (o : Outcome) (st : List Value)
    → Leads remembers s p wanted is n o st → Leads remembers s p wanted (drop n is) 0 o st
leads_drop remembers s p wanted [] zero o st h = h
leads_drop remembers s p wanted [] (suc n) o st h = h
leads_drop remembers s p wanted (i ∷ is) zero o st h = h
leads_drop remembers s p wanted (i ∷ is) (suc n) o st h = leads_drop remembers s p wanted is n o st h

-- one value less is to be taken off
pub taken : (n m : ℕ) (v : Value) (vs st : List Value) → n ≡ suc m → top n (v ∷ st) ++ vs ≡ top m st ++ (v ∷ vs)
taken n m v vs st e =
    let f : top n (v ∷ st) ≡ reverse (v ∷ take m st) = ap (λ k. top k (v ∷ st)) e in
    let g : reverse (v ∷ take m st) ≡ top m st ++ v ∷ [] = reverse-append (v ∷ []) (take m st) in
    ap (λ l. l ++ vs) (f ∙ g) ∙ append_assoc (top m st) (v ∷ []) vs

pub gone : (n m : ℕ) (v : Value) (st : List Value) → n ≡ suc m → drop n (v ∷ st) ≡ drop m st
gone n m v st e = ap (λ k. drop k (v ∷ st)) e

-- nothing is taken off where nothing stands
pub taken_none : (n : ℕ) (vs : List Value) → top n [] ++ vs ≡ vs
taken_none zero vs = refl
taken_none (suc n) vs = refl

pub gone_none : (n : ℕ) → drop n (reverse {A = Value} []) ≡ []
gone_none zero = refl
gone_none (suc n) = refl

module _ (remembers : Memories) (s : Seen) (p : Params) (wanted : Outcome → Type 0) where
  abbrev Goes : List Instr → ℕ → Outcome → List Value → Type 0
  Goes is n o st = Leads remembers s p wanted is n o st

  -- at the end what is in hand is wanted
  pub ended : (code : List Instr) (o : Outcome) (st : List Value) → length code ≡ 0 → Goes code 0 o st → wanted o
  ended [] o st e h = h
  ended (i ∷ is) o st e h = absurd (omega (arith, e))

  -- an instruction that passes others
  pub jumps : (code rest js : List Instr) (i : Instr) (n : ℕ) (o : Outcome) (st st' : List Value) → code ≡ i ∷ rest → js ≡ drop n rest
      → (Goes (i ∷ rest) 0 o st → Goes rest n o st') → Goes code 0 o st → Goes js 0 o st'
  jumps code rest js i n o st st' e d f h = subst (λ l. Goes l 0 o st') (sym d) (leads_drop remembers s p wanted rest n o st' (f (subst (λ l. Goes l 0 o st) e h)))

  -- a value that is not there is not kept
  pub none_kept : (rest : List Instr) (i : Instr) (n : ℕ) (o : Outcome) (st : List Value) → i ≡ instr.Keep n → ((v : Value) → o ≡ outcome.Value v → ⊥) → Goes (i ∷ rest) 0 o st → Goes rest n o st
  none_kept rest i n o st e ne h = by_hand o ne (subst (λ i. Goes (i ∷ rest) 0 o st) e h)
    where
      by_hand : (o : Outcome) → ((v : Value) → o ≡ outcome.Value v → ⊥) → Goes (instr.Keep n ∷ rest) 0 o st → Goes rest n o st
      by_hand (outcome.Value v) ne h = absurd (ne v refl)
      by_hand outcome.Missing ne h = h
      by_hand (outcome.Fault k) ne h = h
      by_hand outcome.Poison ne h = h

  pub no_argument : (rest : List Instr) (i : Instr) (n k : ℕ) (o : Outcome) (st st' : List Value) → i ≡ instr.KeepArgument n k → st' ≡ drop k st
      → ((v : Value) → o ≡ outcome.Value v → ⊥) → Goes (i ∷ rest) 0 o st → Goes rest n o st'
  no_argument rest i n k o st st' e d ne h = subst (λ l. Goes rest n o l) (sym d) (by_hand o ne (subst (λ i. Goes (i ∷ rest) 0 o st) e h))
    where
      by_hand : (o : Outcome) → ((v : Value) → o ≡ outcome.Value v → ⊥) → Goes (instr.KeepArgument n k ∷ rest) 0 o st → Goes rest n o (drop k st)
      by_hand (outcome.Value v) ne h = absurd (ne v refl)
      by_hand outcome.Missing ne h = h
      by_hand (outcome.Fault k) ne h = h
      by_hand outcome.Poison ne h = h

  -- what is not missing needs no default
  pub there_already : (rest : List Instr) (i : Instr) (n : ℕ) (o : Outcome) (st : List Value) → i ≡ instr.Otherwise n → (o ≡ outcome.Missing → ⊥) → Goes (i ∷ rest) 0 o st → Goes rest n o st
  there_already rest i n o st e ne h = by_hand o ne (subst (λ i. Goes (i ∷ rest) 0 o st) e h)
    where
      by_hand : (o : Outcome) → (o ≡ outcome.Missing → ⊥) → Goes (instr.Otherwise n ∷ rest) 0 o st → Goes rest n o st
      by_hand (outcome.Value v) ne h = h
      by_hand outcome.Missing ne h = absurd (ne refl)
      by_hand (outcome.Fault k) ne h = h
      by_hand outcome.Poison ne h = h

  -- the same instruction, with the value that is in hand
  with_value : (rest : List Instr) (i j : Instr) (v : Value) (o : Outcome) (st : List Value) → i ≡ j → o ≡ outcome.Value v → Goes (i ∷ rest) 0 o st → Goes (j ∷ rest) 0 (outcome.Value v) st
  with_value rest i j v o st e d h = subst (λ o. Goes (j ∷ rest) 0 o st) d (subst (λ i. Goes (i ∷ rest) 0 o st) e h)

  -- an operator between two values takes them
  pub operator_taken : (rest : List Instr) (i : Instr) (operator : Binary) (k : Kind) (x y : Value) (o : Outcome) (st st' : List Value) → i ≡ instr.Operator operator k → o ≡ outcome.Value y → st ≡ x ∷ st' → Goes (i ∷ rest) 0 o st
      → (operands_fit operator k x y ≡ true) × ((r : Outcome) → Operates operator k x y r → Goes rest 0 r st')
  operator_taken rest i operator k x y o st st' e d q h = with_value rest i (instr.Operator operator k) y o (x ∷ st') e d (subst (λ l. Goes (i ∷ rest) 0 o l) q h)

  -- an operator between a value and a literal takes them
  pub given_taken : (rest : List Instr) (i : Instr) (operator : Binary) (k : Kind) (y : Short) (x : Value) (o : Outcome) (st : List Value) → i ≡ instr.OperatorGiven operator k y → o ≡ outcome.Value x → Goes (i ∷ rest) 0 o st
      → (operands_fit operator k x (value_in y) ≡ true) × ((r : Outcome) → Operates operator k x (value_in y) r → Goes rest 0 r st)
  given_taken rest i operator k y x o st e d h = with_value rest i (instr.OperatorGiven operator k y) x o st e d h

  -- an operator between a value and what a store answers, or a literal: what stands for the right operand is there
  pub now_taken : (rest : List Instr) (i : Instr) (operator : Binary) (k : Kind) (n : ℕ) (v : Short) (x : Value) (o : Outcome) (st : List Value) → i ≡ instr.OperatorNowOr operator k n v → o ≡ outcome.Value x
      → Goes (i ∷ rest) 0 o st → Asked remembers s n access.Direct (λ r. Goes (instr.Operator operator k ∷ rest) 0 (or_short r v) (x ∷ st))
  now_taken rest i operator k n v x o st e d h = with_value rest i (instr.OperatorNowOr operator k n v) x o st e d h

  pub newest_taken : (rest : List Instr) (i : Instr) (operator : Binary) (k : Kind) (n : ℕ) (v : Short) (x : Value) (o : Outcome) (st : List Value) → i ≡ instr.OperatorNewestOr operator k n v → o ≡ outcome.Value x
      → Goes (i ∷ rest) 0 o st → Asked remembers s n access.Hold (λ r. Goes (instr.Operator operator k ∷ rest) 0 (or_short r v) (x ∷ st))
  newest_taken rest i operator k n v x o st e d h = with_value rest i (instr.OperatorNewestOr operator k n v) x o st e d h

  pub back_taken : (rest : List Instr) (i : Instr) (operator : Binary) (k : Kind) (n b : ℕ) (v : Short) (x : Value) (o : Outcome) (st : List Value) → i ≡ instr.OperatorBackOr operator k n b v → o ≡ outcome.Value x
      → Goes (i ∷ rest) 0 o st → Asked remembers s n (access.Offset b) (λ r. Goes (instr.Operator operator k ∷ rest) 0 (or_short r v) (x ∷ st))
  back_taken rest i operator k n b v x o st e d h = with_value rest i (instr.OperatorBackOr operator k n b v) x o st e d h

  -- and where no literal stands for what is missing
  pub direct_taken : (rest : List Instr) (i : Instr) (operator : Binary) (k : Kind) (n : ℕ) (x : Value) (o : Outcome) (st : List Value) → i ≡ instr.OperatorNow operator k n → o ≡ outcome.Value x
      → Goes (i ∷ rest) 0 o st → Asked remembers s n access.Direct (λ r. Goes (instr.Operator operator k ∷ rest) 0 r (x ∷ st))
  direct_taken rest i operator k n x o st e d h = with_value rest i (instr.OperatorNow operator k n) x o st e d h

  -- a right operand that is no value stays in hand
  pub no_operand : (rest : List Instr) (operator : Binary) (k : Kind) (x : Value) (o : Outcome) (st : List Value) → ((v : Value) → o ≡ outcome.Value v → ⊥) → Goes (instr.Operator operator k ∷ rest) 0 o (x ∷ st) → Goes rest 0 o st
  no_operand rest operator k x (outcome.Value v) st ne h = absurd (ne v refl)
  no_operand rest operator k x outcome.Missing st ne h = h
  no_operand rest operator k x (outcome.Fault f) st ne h = h
  no_operand rest operator k x outcome.Poison st ne h = h

  -- what stands for the right operand of an operator is one that it takes, if it is a value
  pub right_fits : (rest : List Instr) (operator : Binary) (k : Kind) (x : Value) (right : Short) (st : List Value) → Goes (instr.Operator operator k ∷ rest) 0 (widened right) (x ∷ st)
      → has_value right ≡ true → operands_fit operator k x (value_in right) ≡ true
  right_fits rest operator k x right st h e = (operator_taken rest (instr.Operator operator k) operator k x (value_in right) (widened right) (x ∷ st) st refl (is_the_value right e) refl h).0

  -- and what the operator gives of it comes next
  pub right_joined : (rest : List Instr) (operator : Binary) (k : Kind) (x : Value) (right result : Short) (st : List Value) → Goes (instr.Operator operator k ∷ rest) 0 (widened right) (x ∷ st)
      → (has_value right ≡ true → Operates operator k x (value_in right) (widened result)) → (has_value right ≡ false → widened result ≡ widened right) → Goes rest 0 (widened result) st
  right_joined rest operator k x right result st h value none = by_hand (has_value right) refl
    where
      by_hand : (b : Bool) → has_value right ≡ b → Goes rest 0 (widened result) st
      by_hand true e = (operator_taken rest (instr.Operator operator k) operator k x (value_in right) (widened right) (x ∷ st) st refl (is_the_value right e) refl h).1 (widened result) (value e)
      by_hand false e = subst (λ o. Goes rest 0 o st) (sym (none e)) (no_operand rest operator k x (widened right) st (is_no_value right e) h)

  -- and anything else passes it
  pub true_off : (rest : List Instr) (i : Instr) (n : ℕ) (s : Short) (st : List Value) → i ≡ instr.WhereTrue n → truth_in (value_in s) ≡ false → Goes (i ∷ rest) 0 (widened s) st → Goes rest n (widened s) st
  true_off rest i n s st e t h = by_hand s t (subst (λ i. Goes (i ∷ rest) 0 (widened s) st) e h)
    where
      by_hand : (s : Short) → truth_in (value_in s) ≡ false → Goes (instr.WhereTrue n ∷ rest) 0 (widened s) st → Goes rest n (widened s) st
      by_hand short.False t h = h
      by_hand short.True t h = absurd (cc)
      by_hand (short.Int z) t h = h
      by_hand (short.Large l) t h = h
      by_hand (short.Text id) t h = h
      by_hand short.Missing t h = h
      by_hand short.Overflow t h = h
      by_hand short.DivZero t h = h
      by_hand short.TooManyInstances t h = h
      by_hand short.Poison t h = h

  -- true passes it
  pub false_off : (rest : List Instr) (i : Instr) (n : ℕ) (s : Short) (st : List Value) → i ≡ instr.WhereFalse n → truth_in (value_in s) ≡ true → Goes (i ∷ rest) 0 (widened s) st → Goes rest n (widened s) st
  false_off rest i n s st e t h = by_hand s t (subst (λ i. Goes (i ∷ rest) 0 (widened s) st) e h)
    where
      by_hand : (s : Short) → truth_in (value_in s) ≡ true → Goes (instr.WhereFalse n ∷ rest) 0 (widened s) st → Goes rest n (widened s) st
      by_hand short.False t h = absurd (cc)
      by_hand short.True t h = h
      by_hand (short.Int z) t h = absurd (cc)
      by_hand (short.Large l) t h = absurd (cc)
      by_hand (short.Text id) t h = absurd (cc)
      by_hand short.Missing t h = absurd (cc)
      by_hand short.Overflow t h = absurd (cc)
      by_hand short.DivZero t h = absurd (cc)
      by_hand short.TooManyInstances t h = absurd (cc)
      by_hand short.Poison t h = absurd (cc)

  -- as what is no value does
  pub false_none : (rest : List Instr) (i : Instr) (n : ℕ) (s : Short) (st : List Value) → i ≡ instr.WhereFalse n → has_value s ≡ false → Goes (i ∷ rest) 0 (widened s) st → Goes rest n (widened s) st
  false_none rest i n s st e v h = by_hand s v (subst (λ i. Goes (i ∷ rest) 0 (widened s) st) e h)
    where
      by_hand : (s : Short) → has_value s ≡ false → Goes (instr.WhereFalse n ∷ rest) 0 (widened s) st → Goes rest n (widened s) st
      by_hand short.False v h = absurd (cc)
      by_hand short.True v h = absurd (cc)
      by_hand (short.Int z) v h = absurd (cc)
      by_hand (short.Large l) v h = absurd (cc)
      by_hand (short.Text id) v h = absurd (cc)
      by_hand short.Missing v h = h
      by_hand short.Overflow v h = h
      by_hand short.DivZero v h = h
      by_hand short.TooManyInstances v h = h
      by_hand short.Poison v h = h

  -- another value passes it
  pub test_off : (rest : List Instr) (i : Instr) (n m : ℕ) (s : Short) (st : List Value) → i ≡ instr.Test n m → has_value s ≡ true → truth_in (value_in s) ≡ false → Goes (i ∷ rest) 0 (widened s) st → Goes rest n (widened s) st
  test_off rest i n m s st e v t h = by_hand s v t (subst (λ i. Goes (i ∷ rest) 0 (widened s) st) e h)
    where
      by_hand : (s : Short) → has_value s ≡ true → truth_in (value_in s) ≡ false → Goes (instr.Test n m ∷ rest) 0 (widened s) st → Goes rest n (widened s) st
      by_hand short.False v t h = h
      by_hand short.True v t h = absurd (cc)
      by_hand (short.Int z) v t h = h
      by_hand (short.Large l) v t h = h
      by_hand (short.Text id) v t h = h
      by_hand short.Missing v t h = absurd (cc)
      by_hand short.Overflow v t h = absurd (cc)
      by_hand short.DivZero v t h = absurd (cc)
      by_hand short.TooManyInstances v t h = absurd (cc)
      by_hand short.Poison v t h = absurd (cc)

  -- and what is no value passes both
  pub test_none : (rest : List Instr) (i : Instr) (n m : ℕ) (s : Short) (st : List Value) → i ≡ instr.Test n m → has_value s ≡ false → Goes (i ∷ rest) 0 (widened s) st → Goes rest m (widened s) st
  test_none rest i n m s st e v h = by_hand s v (subst (λ i. Goes (i ∷ rest) 0 (widened s) st) e h)
    where
      by_hand : (s : Short) → has_value s ≡ false → Goes (instr.Test n m ∷ rest) 0 (widened s) st → Goes rest m (widened s) st
      by_hand short.False v h = absurd (cc)
      by_hand short.True v h = absurd (cc)
      by_hand (short.Int z) v h = absurd (cc)
      by_hand (short.Large l) v h = absurd (cc)
      by_hand (short.Text id) v h = absurd (cc)
      by_hand short.Missing v h = h
      by_hand short.Overflow v h = h
      by_hand short.DivZero v h = h
      by_hand short.TooManyInstances v h = h
      by_hand short.Poison v h = h
