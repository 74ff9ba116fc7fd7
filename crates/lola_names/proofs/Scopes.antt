-- The tables of a specification make a scope.
use Rattle.std.proofs.Common.{◌≡◌, ℕ, ◌+◌, ◌⊎◌, List, [], ◌∷◌, ◌++◌, Option, Some, None, length, refl, sym, ap, subst, inl, inr, ◌∙◌, arith, append_assoc, length-append}
use Rattle.std.specs.Prelude.{slice_get}
use Rattle.std.proofs.lemmas.Bool.{cases_Bool}
use Rattle.lola_value.specs.Arithmetic.{bytes_equal}
use Rattle.lola_parser_grammar.specs.declared.literals.Typed.{Typed}
use Rattle.lola_parser_grammar.specs.declared.declarations.Declaration.{Declaration}
use Rattle.lola_parser_grammar.specs.declared.declarations.Declaration.TheVariants as d
use Rattle.lola_names_refused.specs.Table.{meaning_in, hides}
use Rattle.lola_names.specs.Targets.{Targets, Count, input_targets, parameter_targets, targets_from, counted_with, targets_of}
use Rattle.lola_names.specs.Tables.{Means}
use Rattle.lola_names.specs.Made.{IsConstantDeclared, IsScope, NamesConstants}
use Rattle.lola_names.specs.declared.scope.Scope.{Scope}
use Rattle.lola_names.specs.declared.targets.Target.{Target}
use Rattle.lola_names.specs.declared.targets.Target.TheVariants as target
use Rattle.lola_names.proofs.Growth.{got-seam}

-- a parameter is no constant
parameter_or_none : (n : ℕ) (ps : List Typed) (text : List ℕ)
    → (meaning_in (parameter_targets n ps) text ≡ None) ⊎ ((k : ℕ) × (meaning_in (parameter_targets n ps) text ≡ Some (target.Parameter k)))
parameter_or_none n [] text = inl refl
parameter_or_none n (p ∷ ps) text = elim (cases_Bool (bytes_equal text p.name.text)) [
  | inl hit ↦ inr (n, rw hit refl)
  | inr miss ↦ rw miss (parameter_or_none (n + 1) ps text)
]

-- nor is an input
behind_inputs : (s i : ℕ) (ts : List Typed) (rest : Targets) (text : List ℕ) (c : ℕ) → meaning_in (input_targets s i ts ++ rest) text ≡ Some (target.Constant c) → meaning_in rest text ≡ Some (target.Constant c)
behind_inputs s i [] rest text c is = is
behind_inputs s i (t ∷ ts) rest text c is = elim (cases_Bool (bytes_equal text t.name.text)) [
  | inl hit ↦ let is' = rw hit at is in absurd (cc is')
  | inr miss ↦ let is' = rw miss at is in behind_inputs (s + 1) (i + 1) ts rest text c is'
]

-- a constant's number is its place
module _ (text : List ℕ) (c : ℕ) where
  constants_behind : (k : Count) (front xs : List Declaration) → k.declarations ≡ length front → meaning_in (targets_from k xs) text ≡ Some (target.Constant c) → IsConstantDeclared (slice_get (front ++ xs) c)
  constants_behind k front [] at is = absurd (cc is)
  constants_behind k front (d.Inputs x ∷ xs) at is =
      let counted = length-append front (d.Inputs x ∷ []) in
      subst (λ (l : List Declaration). IsConstantDeclared (slice_get l c)) (append_assoc front (d.Inputs x ∷ []) xs)
      (constants_behind (counted_with k (d.Inputs x)) (front ++ d.Inputs x ∷ []) xs (omega arith)
      (behind_inputs k.streams k.inputs x.inputs (targets_from (counted_with k (d.Inputs x)) xs) text c is))
  constants_behind k front (d.Constant x ∷ xs) at is =
      let counted = length-append front (d.Constant x ∷ []) in
      elim (cases_Bool (bytes_equal text x.name.text)) [
        | inl hit ↦
            let is' = rw hit at is in
            let same : k.declarations ≡ c = cc is' in
            subst (λ (i : ℕ). IsConstantDeclared (slice_get (front ++ d.Constant x ∷ xs) i)) (sym at ∙ same)
            (subst (λ (o : Option Declaration). IsConstantDeclared o) (sym (got-seam front (d.Constant x) xs)) tt)
        | inr miss ↦
            let is' = rw miss at is in
            subst (λ (l : List Declaration). IsConstantDeclared (slice_get l c)) (append_assoc front (d.Constant x ∷ []) xs)
            (constants_behind (counted_with k (d.Constant x)) (front ++ d.Constant x ∷ []) xs (omega arith) is')
      ]
  constants_behind k front (d.Output x ∷ xs) at is =
      let counted = length-append front (d.Output x ∷ []) in
      elim (cases_Bool (bytes_equal text x.name.text)) [
        | inl hit ↦ let is' = rw hit at is in absurd (cc is')
        | inr miss ↦
            let is' = rw miss at is in
            subst (λ (l : List Declaration). IsConstantDeclared (slice_get l c)) (append_assoc front (d.Output x ∷ []) xs)
            (constants_behind (counted_with k (d.Output x)) (front ++ d.Output x ∷ []) xs (omega arith) is')
      ]
  constants_behind k front (d.Trigger x ∷ xs) at is =
      let counted = length-append front (d.Trigger x ∷ []) in
      subst (λ (l : List Declaration). IsConstantDeclared (slice_get l c)) (append_assoc front (d.Trigger x ∷ []) xs)
      (constants_behind (counted_with k (d.Trigger x)) (front ++ d.Trigger x ∷ []) xs (omega arith) is)

pub names_constants : (ds : List Declaration) (ps : List Typed) → NamesConstants ds (parameter_targets 0 ps) (targets_of ds)
names_constants ds ps text c is = elim (parameter_or_none 0 ps text) [
  | inl none ↦
      let is' : meaning_in (targets_of ds) text ≡ Some (target.Constant c) = ap (λ (o : Option Target). hides o (meaning_in (targets_of ds) text)) (sym none) ∙ is in
      constants_behind text c (record { streams = 0; inputs = 0; declarations = 0 }) [] ds refl is'
  | inr some ↦
      let is' : Some (target.Parameter some.0) ≡ Some (target.Constant c) = ap (λ (o : Option Target). hides o (meaning_in (targets_of ds) text)) (sym some.1) ∙ is in
      absurd (cc is')
]

-- what `targets` and `parameters` promise of their tables makes a scope
pub scope_of : (scope : Scope) (ds : List Declaration) (ps : List Typed) → scope.declarations.now ≡ ds → Means scope.targets.now (targets_of ds) → Means scope.parameters.now (parameter_targets 0 ps)
    → IsScope scope (targets_of ds) (parameter_targets 0 ps)
scope_of scope ds ps is all own = record {
  all = all;
  own = own;
  constants = subst (λ (l : List Declaration). NamesConstants l (parameter_targets 0 ps) (targets_of ds)) (sym is) (names_constants ds ps);
}
