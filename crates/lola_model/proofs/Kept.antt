-- Bounds: that each offset is below what is kept, that panes are told by period and length, and small cases.
use Rattle.std.proofs.Common.{◌≡◌, refl, ap, sym, subst, ◌∙◌, ℕ, zero, suc, ◌/◌, ◌<◌, ◌≤◌, max, ◌⊎◌, inl, inr, List, [], ◌∷◌, Some, arith}
use Rattle.std.proofs.lemmas.List.Elements.{Contains-append_left, Contains-append_right}
use Rattle.std.proofs.lemmas.Nat.Gcd.{IsGcd-from_mod, IsGcd-from_zero, IsGcd-swap}
use Rattle.std.proofs.Math.Nat.{mul-div_cancel}
use Rattle.std.specs.List.{Contains, slice_get}
use Rattle.lola_value.specs.Ratio.{Ratio}
use Rattle.lola_model.proofs.Build.{Around}
use Rattle.lola_model.proofs.Rows.{sum_of_the_past}
use Rattle.lola_model.proofs.Strictly.{Contains-cases, Contains-none}
use Rattle.lola_model.specs.Parts.{listed_stream, listed_streams}
use Rattle.lola_model.specs.Bounds.{offsets_onto, greatest_offset, IsKept, ArePanes}
use Rattle.lola_model.specs.declared.expr.Expr.{Expr}
use Rattle.lola_model.specs.declared.spec.Spec.{Spec}
use Rattle.lola_model.specs.declared.spec.Stream.{Stream}
use Rattle.lola_model.specs.declared.plan.PaneSize.{PaneSize}

-- each offset is at most the greatest
pub greatest_is_most : (ks : List ℕ) (k : ℕ) → Contains ks k → k ≤ greatest_offset ks
greatest_is_most [] k c = absurd (Contains-none k c)
greatest_is_most (j ∷ ks) k c = go (Contains-cases j k ks c) (greatest_is_most ks k)
  where
    go : (j ≡ k) ⊎ Contains ks k → (Contains ks k → k ≤ greatest_offset ks) → k ≤ max j (greatest_offset ks)
    go (inl e) more = omega arith
    go (inr d) more = let m : k ≤ greatest_offset ks = more d in omega arith

-- so it is below what is kept
pub offset_is_kept : (spec : Spec) (n kept k : ℕ) → IsKept spec n kept → Contains (offsets_onto n spec) k → k < kept
offset_is_kept spec n kept k e c = let m : k ≤ greatest_offset (offsets_onto n spec) = greatest_is_most (offsets_onto n spec) k c in omega arith

-- what is listed of a stream is listed of the whole
pub listed_in_stream : {A : Type 0} (f : Expr → List A) (streams : List Stream) (n : ℕ) (s : Stream) (x : A) → slice_get streams n ≡ Some s → Contains (listed_stream f s) x → Contains (listed_streams f streams) x
listed_in_stream f [] n s x e c = absurd (cc)
listed_in_stream {A} f (q ∷ streams) zero s x e c =
    let k : q ≡ s = cc in
    Contains-append_left (listed_stream f q) (listed_streams f streams) x (subst (λ z. Contains (listed_stream f z) x) (sym k) c)
listed_in_stream f (q ∷ streams) (suc n) s x e c = Contains-append_right (listed_stream f q) (listed_streams f streams) x (listed_in_stream f streams n s x e c)

-- a period, a length and a pane tell the number of panes
pub panes_are : (r : Ratio) (over : ℕ) (p : PaneSize) → ArePanes r over p → 0 < p.pane → p.count ≡ over / p.pane
panes_are r over p h above = sym (mul-div_cancel p.count above) ∙ ap (λ x. x / p.pane) h.count

-- one second and ten
ten_panes_of_a_second : ArePanes (record { num = 1; den = 1 }) 10000000000 (record { pane = 1000000000; count = 10 })
ten_panes_of_a_second = record { whole = refl; pane = IsGcd-swap _ _ _ (IsGcd-from_mod 10000000000 1000000000 1000000000 (IsGcd-from_zero 1000000000 0 refl)); count = refl }

-- one second, and a second and a half
three_panes_of_half_a_second : ArePanes (record { num = 1; den = 1 }) 1500000000 (record { pane = 500000000; count = 3 })
three_panes_of_half_a_second = record {
  whole = refl;
  pane = IsGcd-from_mod 1000000000 1500000000 500000000 (IsGcd-from_mod 1500000000 1000000000 500000000 (IsGcd-from_mod 1000000000 500000000 500000000 (IsGcd-from_zero 500000000 0 refl)));
  count = refl;
}

-- of a stream that reads its last value two are kept, and of its input one
two_are_kept : (u : Around) → IsKept (sum_of_the_past u).spec 1 2
two_are_kept u = refl

one_is_kept : (u : Around) → IsKept (sum_of_the_past u).spec 0 1
one_is_kept u = refl
