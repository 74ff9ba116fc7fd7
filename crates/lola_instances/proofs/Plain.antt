-- What of a plan's names makes it storable.
use Rattle.std.proofs.Common.{◌≡◌, ℕ, zero, suc, List, [], ◌∷◌, length, drop, refl, sym, subst, arith, Option, Some, None, slice_get, Bool, true, false, not, ◌&&◌, IsTrue, nat_eq}
use Rattle.std.proofs.lemmas.Bool.{eqb-true}
use Rattle.lola_value.specs.declared.value.Kind.{Kind}
use Rattle.lola_model.specs.Named.{all_streams, is_well_shaped, is_input_shape, is_output_shape, is_trigger_shape, count_with, has_clause, has_when, is_of_bool}
use Rattle.lola_model.specs.Store.{StreamLayout, layouts_from}
use Rattle.lola_model.specs.declared.pacing.ClausePacings.{ClausePacings}
use Rattle.lola_model.specs.declared.spec.Clause.{Clause}
use Rattle.lola_model.specs.declared.spec.Sort.{Sort}
use Rattle.lola_model.specs.declared.spec.Sort.TheVariants as sort
use Rattle.lola_model.specs.declared.spec.Stream.{Stream}
use Rattle.lola_instances_stream.specs.Each.{Each}

first : (a b : Bool) → (a && b) ≡ true → a ≡ true
first true b e = refl
first false b e = cc

second : (a b : Bool) → (a && b) ≡ true → b ≡ true
second true b e = e
second false b e = cc

none_of : (ks : List Kind) → length ks ≡ 0 → ks ≡ []
none_of [] e = refl
none_of (k ∷ ks) e = absurd (omega arith)

-- a stream whose spawn clause names as many parameters as it has has none where it has no spawn clause
unspawned : (o : Option Clause) (ks : List Kind) → nat_eq (count_with o) (length ks) ≡ true → elim o [ None ↦ false | Some k ↦ true ] ≡ false → ks ≡ []
unspawned None ks e f = none_of ks (sym (eqb-true 0 (length ks) e))
unspawned (Some c) ks e f = cc

by_sort : (s : Stream) (so : Sort) → elim so [ sort.Input ↦ is_input_shape s | sort.Output ↦ is_output_shape s | sort.Trigger ↦ is_trigger_shape s ] ≡ true
    → elim s.spawn [ None ↦ false | Some k ↦ true ] ≡ false → s.parameters ≡ []
by_sort s sort.Input e f = none_of s.parameters (eqb-true (length s.parameters) 0 (first _ _ (second _ _ e)))
by_sort s sort.Output e f = unspawned s.spawn s.parameters (first _ _ (second _ _ e)) f
by_sort s sort.Trigger e f =
    let r = nat_eq (length s.parameters) 0 && (not (has_clause s.spawn) && not (has_clause s.close)) in
    let w = not (has_when s.eval) && r in
    let one = second (is_of_bool s.kind) (nat_eq (count_with s.eval) 1 && w) e in
    none_of s.parameters (eqb-true (length s.parameters) 0
    (first (nat_eq (length s.parameters) 0) (not (has_clause s.spawn) && not (has_clause s.close)) (second (not (has_when s.eval)) r (second (nat_eq (count_with s.eval) 1) w one))))

-- a stream without a spawn clause has no parameters, as names promise
pub plain_of : (ss : List Stream) (kept : List ℕ) (pacings : List ClausePacings) → IsTrue (all_streams is_well_shaped ss) → Each (λ (l : StreamLayout). l.spawns ≡ false → l.parameters ≡ []) (layouts_from ss kept pacings)
plain_of ss kept pacings h = at ss kept pacings h
  where
    at : (ss : List Stream) (kept : List ℕ) (pacings : List ClausePacings) → all_streams is_well_shaped ss ≡ true → (i : ℕ) (l : StreamLayout) → slice_get (layouts_from ss kept pacings) i ≡ Some l → l.spawns ≡ false → l.parameters ≡ []
    at [] kept pacings h i l e = absurd (cc)
    at (s ∷ ss) kept pacings h zero l e = subst (λ (y : StreamLayout). y.spawns ≡ false → y.parameters ≡ []) (some_same e) (by_sort s s.sort (first _ _ h))
      where
        some_same : {x y : StreamLayout} → Some x ≡ Some y → x ≡ y
        some_same q = cc
    at (s ∷ ss) kept pacings h (suc i) l e = at ss (drop 1 kept) (drop 1 pacings) (second _ _ h) i l e
