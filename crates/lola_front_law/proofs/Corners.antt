-- Corners of likeness: it is less than equality, and not all plans are alike.
use Rattle.std.specs.Ptr.{block_ptr, null_ptr, Ptr}
use Rattle.std.proofs.Common.{◌≡◌, ℕ, List, [], ◌∷◌, None, Some, false, pos, refl, ap, arith}
use Rattle.lola_value.specs.Answer.{Given}
use Rattle.lola_value.specs.declared.value.Kind.TheVariants as kind
use Rattle.lola_value.specs.declared.value.Value.{Value}
use Rattle.lola_value.specs.declared.value.Value.TheVariants as value
use Rattle.lola_model.specs.Model.{answered}
use Rattle.lola_model.specs.Runs.{final_lines, whole_model}
use Rattle.lola_model.specs.declared.expr.Access.TheVariants as access
use Rattle.lola_model.specs.declared.expr.Arguments.TheVariants.{End, More'}
use Rattle.lola_model.specs.declared.expr.Binary.TheVariants as binary
use Rattle.lola_model.specs.declared.expr.Expr.{Expr}
use Rattle.lola_model.specs.declared.expr.Expr.TheVariants.{Literal, Parameter, Read, Window, Defaults', Unary', Both', Choice'}
use Rattle.lola_model.specs.declared.expr.Prefix.TheVariants as prefix
use Rattle.lola_model.specs.declared.journal.Show.TheVariants.{Outputs}
use Rattle.lola_model.specs.declared.plan.Plan.{Plan}
use Rattle.lola_model.specs.declared.spec.Clause.{Clause}
use Rattle.lola_model.specs.declared.spec.Formula.TheVariants.{Input, And', Or'}
use Rattle.lola_model.specs.declared.spec.Pace.TheVariants as pace
use Rattle.lola_model.specs.declared.spec.Stream.{Stream}
use Rattle.lola_model.proofs.Build.{accepted_all, at_row, direct, gist, here, input, int, num, on_a, output, plan_of, row_at}
use Rattle.lola_front_law.specs.Alike.{Address, ArePlansAlike}

-- an address in a block of this number
abbrev lying : ℕ → Address
lying n = record { ptr = block_ptr n 0; alloc = record { memory = record { seal = tt } }; value = tt }

-- `a + k`, its operands in boxes at this address
abbrev sum : Address → ℕ → Expr
sum u k = Both' here binary.Add u (direct 0) u (num k)

-- an input `a` and an output `a + k`
abbrev summing : Address → ℕ → Plan
summing u k = plan_of (input ∷ output kind.Int64 (sum u k) ∷ []) [] (on_a ∷ on_a ∷ [])

-- two plans that lie elsewhere are alike
elsewhere_is_alike : ArePlansAlike (summing (lying 1) 5) (summing (lying 2) 5)
elsewhere_is_alike = refl

abbrev block_of : Ptr → ℕ
block_of (block_ptr b o) = b
block_of null_ptr = 0

-- the block of the first box of an expression
abbrev first_block : Expr → ℕ
first_block (Both' place operator u a v b) = block_of u.ptr
first_block e = 0

abbrev first_of : List Expr → ℕ
first_of [] = 0
first_of (e ∷ es) = first_block e

abbrev block_in : List Stream → ℕ
block_in [] = 0
block_in (s ∷ []) = elim s.eval [ None ↦ 0 | Some c ↦ first_of c.with ]
block_in (s ∷ r ∷ ss) = block_in (r ∷ ss)

-- they are not equal
elsewhere_is_not_equal : summing (lying 1) 5 ≡ summing (lying 2) 5 → ⊥
elsewhere_is_not_equal e = let b : ◌≡◌ {A = ℕ} 1 2 = ap (λ (p : Plan). block_in p.spec.streams) e in omega arith

-- they have the same lines, as it is computed of one journal
elsewhere_has_the_same_lines : final_lines (summing (lying 1) 5) None (accepted_all (row_at 7 (int 1) ∷ [])) Outputs ≡ final_lines (summing (lying 2) 5) None (accepted_all (row_at 7 (int 1) ∷ [])) Outputs
unfolding final_lines whole_model
elsewhere_has_the_same_lines = refl

-- the literal of the first output of a plan
abbrev literal_of : Expr → Value
literal_of (Both' place operator u a v (Literal at w)) = w
literal_of e = value.Bool false

abbrev literal_in : List Stream → Value
literal_in [] = value.Bool false
literal_in (s ∷ []) = elim s.eval [ None ↦ value.Bool false | Some c ↦ elim c.with [ [] ↦ value.Bool false | e ∷ es ↦ literal_of e ] ]
literal_in (s ∷ r ∷ ss) = literal_in (r ∷ ss)

-- two plans that differ in a literal are not alike, wherever they lie
other_literal_is_not_alike : (u v : Address) → ArePlansAlike (summing u 5) (summing v 6) → ⊥
other_literal_is_not_alike u v e =
    let w : value.Int (pos 5) ≡ value.Int (pos 6) = ap (λ (p : Plan). literal_in p.spec.streams) e in
    let n : pos 5 ≡ pos 6 = cc in
    let k : ◌≡◌ {A = ℕ} 5 6 = cc in
    omega arith

-- and they have other values
five_is_added : (u : Address) → gist (answered (summing u 5) 0 [] (at_row 0 (int 1))) ≡ (0, (Given (int 1) ∷ []) ∷ (Given (int 6) ∷ []) ∷ [])
five_is_added u = refl

six_is_added : (u : Address) → gist (answered (summing u 6) 0 [] (at_row 0 (int 1))) ≡ (0, (Given (int 1) ∷ []) ∷ (Given (int 7) ∷ []) ∷ [])
six_is_added u = refl

-- an expression with boxes at all places where an expression has them
abbrev boxed : Address → Expr
boxed u =
    Choice' here
    u (Unary' here prefix.Not u (Both' here binary.Less u (num 1) u (num 2)))
    u (Defaults' here u (Read here 0 access.Get (More' u (num 1) u (More' u (num 2) u End))) u (Parameter here 0))
    u (Window here 0 (More' u (num 3) u End))

-- a stream with boxes in each clause, and in a formula
abbrev boxed_clause : Address → Clause
boxed_clause u = record {
  place = 0;
  pace = Some (pace.Event 0 (And' u (Input 0) u (Or' u (Input 1) u (Input 2))));
  when = Some (boxed u);
  when_at = 0;
  with = boxed u ∷ boxed u ∷ [];
  with_at = [];
}

abbrev boxed_stream : Address → Stream
boxed_stream u = record (output kind.Int64 (num 0)) { spawn = Some (boxed_clause u); eval = Some (boxed_clause u); close = Some (boxed_clause u) }

-- no address is left out
no_address_matters : (u v : Address) → ArePlansAlike (plan_of (boxed_stream u ∷ boxed_stream v ∷ []) [] []) (plan_of (boxed_stream v ∷ boxed_stream u ∷ []) [] [])
no_address_matters u v = refl
