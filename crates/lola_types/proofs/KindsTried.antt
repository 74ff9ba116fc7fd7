-- Kinds and refusals of small specifications, computed.
use Rattle.std.proofs.Common.{◌≡◌, ℕ, List, [], ◌∷◌, Option, Some, None, pos, refl, true}
use Rattle.lola_value.specs.declared.front.Code.TheVariants as code
use Rattle.lola_value.specs.declared.value.Kind.{Kind}
use Rattle.lola_value.specs.declared.value.Kind.TheVariants as kind
use Rattle.lola_value.specs.declared.value.Value.TheVariants as value
use Rattle.lola_model.specs.Refusals.{first_of}
use Rattle.lola_model.specs.declared.expr.Place.{Place}
use Rattle.lola_model.specs.declared.expr.Prefix.TheVariants as prefix
use Rattle.lola_model.specs.declared.expr.Binary.TheVariants as binary
use Rattle.lola_model.specs.declared.expr.Access.TheVariants as access
use Rattle.lola_model.specs.declared.expr.Expr.{Expr}
use Rattle.lola_model.specs.declared.expr.Arguments.TheVariants.{End}
use Rattle.lola_model.specs.declared.expr.Expr.TheVariants.{Literal, Read, Defaults', Unary', Both', Choice'}
use Rattle.lola_model.specs.declared.spec.Clause.{Clause}
use Rattle.lola_model.specs.declared.spec.Spec.{Spec}
use Rattle.lola_model.specs.declared.spec.Stream.{Stream}
use Rattle.lola_model.specs.declared.spec.Sort.TheVariants as sort
use Rattle.lola_model.proofs.Build.{Around}
use Rattle.lola_types.specs.Found.{Setting}
use Rattle.lola_types.specs.LeftOut.{kinds_of}
use Rattle.lola_types.specs.Refused.{whole_refusals, wrong_type, out_of_range, kind_refusals}
use Rattle.lola_types.specs.Filled.{filled_whole}

-- a part without a kind, at a place
abbrev bare : ℕ → Place
bare n = record { at = n; kind = None }

abbrev number : ℕ → ℕ → Expr
number at n = Literal (bare at) (value.Int (pos n))

abbrev yes : ℕ → Expr
yes at = Literal (bare at) (value.Bool true)

abbrev direct : ℕ → ℕ → Expr
direct at n = Read (bare at) n access.Direct End

-- an eval clause, whose expression stands behind a token at place 0
abbrev eval : Expr → Option Clause
eval e = Some (record { place = 0; pace = None; when = None; when_at = 0; with = e ∷ []; with_at = 0 ∷ [] })

abbrev stream : Option Kind → Expr → Stream
stream k e = record { name = []; place = 0; sort = sort.Output; message = []; kind = k; parameters = []; spawn = None; eval = eval e; close = None }

abbrev source : Kind → Stream
source k = record { name = []; place = 0; sort = sort.Input; message = []; kind = Some k; parameters = []; spawn = None; eval = None; close = None }

abbrev spec_of : List Stream → Spec
spec_of ss = record { streams = ss; constants = []; windows = []; texts = []; refused = [] }

abbrev empty : Setting
empty = record { streams = []; windows = []; kinds = []; parameters = [] }

-- an input stands alone, of this kind
abbrev one_source : Kind → Setting
one_source k = record { streams = source k ∷ []; windows = []; kinds = Some k ∷ []; parameters = [] }

module _ (u : Around) where
  -- true < 1, as a whole Bool: at the operator alone
  order_of_truth : whole_refusals empty kind.Bool 1 (Both' (bare 7) binary.Less u (yes 5) u (number 9 1)) ≡ wrong_type 7
  order_of_truth = refl

  -- 300 + (true + 1), of Int8: the inner operator alone, and no range of 300
  sum_of_truth : whole_refusals empty kind.Int8 1 (Both' (bare 6) binary.Add u (number 2 300) u (Both' (bare 14) binary.Add u (yes 9) u (number 16 1))) ≡ wrong_type 14
  sum_of_truth = refl

  -- 300 + -(1), of UInt8: first the literal, then the minus
  minus_in_sum : first_of (whole_refusals empty kind.UInt8 1 (Both' (bare 6) binary.Add u (number 2 300) u (Unary' (bare 8) prefix.Minus u (number 10 1)))) ≡ Some (record { code = code.LiteralRange; at = 2 })
  minus_in_sum = refl

  -- -(-(1)), of UInt8: both operators
  two_operators : whole_refusals empty kind.UInt8 0 (Unary' (bare 2) prefix.Minus u (Unary' (bare 4) prefix.Minus u (number 6 1))) ≡ record { code = code.WrongType; at = 2 } ∷ record { code = code.WrongType; at = 4 } ∷ []
  two_operators = refl

  -- 18446744073709551615 > 1: compared parts that are both free are of Int64
  both_free : whole_refusals empty kind.Bool 0 (Both' (bare 22) binary.Greater u (number 1 18446744073709551615) u (number 24 1)) ≡ out_of_range 1
  both_free = refl

  -- 300.defaults(to: a.hold()), with a: Int8: the default may be missing, so 300 takes no kind
  optional_default : whole_refusals (one_source kind.Int8) kind.Int8 0 (Defaults' (bare 4) u (number 1 300) u (Read (bare 9) 0 access.Hold End)) ≡ wrong_type 4
  optional_default = refl

  -- if true then 300 else a, with a: Int8: 300 takes the kind of a
  branches : whole_refusals (one_source kind.Int8) kind.Int8 0 (Choice' (bare 1) u (yes 3) u (number 5 300) u (direct 7 0)) ≡ out_of_range 5
  branches = refl

  -- output u := y > y, output y := 1
  rounds_of_two : kinds_of (spec_of (stream None (Both' (bare 3) binary.Greater u (direct 1 1) u (direct 5 1)) ∷ stream None (number 9 1) ∷ [])) ≡ Some kind.Bool ∷ Some kind.Int64 ∷ []
  rounds_of_two = refl

  -- output x := x.last(or: 0) + a, input a: UInt8
  reads_itself : kinds_of (spec_of (stream None (Both' (bare 3) binary.Add u (Defaults' (bare 2) u (Read (bare 1) 0 (access.Offset 1) End) u (number 4 0)) u (direct 5 1)) ∷ source kind.UInt8 ∷ [])) ≡ Some kind.UInt8 ∷ Some kind.UInt8 ∷ []
  reads_itself = refl

  -- output u := v + 1, output v := a.last(or: a), input a: UInt8
  two_rounds : kinds_of (spec_of (stream None (Both' (bare 3) binary.Add u (direct 1 1) u (number 5 1)) ∷ stream None (Defaults' (bare 9) u (Read (bare 8) 2 (access.Offset 1) End) u (direct 10 2)) ∷ source kind.UInt8 ∷ [])) ≡ Some kind.UInt8 ∷ Some kind.UInt8 ∷ Some kind.UInt8 ∷ []
  two_rounds = refl

  -- a < 5, with a: UInt8: 5 takes the kind of a
  literal_filled : filled_whole (one_source kind.UInt8) kind.Bool (Both' (bare 3) binary.Less u (direct 1 0) u (number 5 5))
      ≡ Both' (record { at = 3; kind = Some kind.Bool }) binary.Less u (Read (record { at = 1; kind = Some kind.UInt8 }) 0 access.Direct End) u (Literal (record { at = 5; kind = Some kind.UInt8 }) (value.Int (pos 5)))
  literal_filled = refl

  -- an offset without a default is optional: refused at the token before the whole
  optional_whole : kind_refusals (spec_of (stream (Some kind.UInt8) (Read (bare 8) 1 (access.Offset 1) End) ∷ source kind.UInt8 ∷ [])) ≡ wrong_type 0
  optional_whole = refl
