-- Parameters as keys: all four places are compared, and those that are used are given to a hash.
use Rattle.std.specs.Prelude.{◌≡◌, Bool, true, false, if◌then◌else◌, ◌&&◌, [], ◌++◌, nat_eq, nat_lt}
use Rattle.std.proofs.Common.{refl, ap, subst, eq-eqb}
use Rattle.std.proofs.lemmas.Int.{ints}
use Rattle.std.proofs.lemmas.Bool.{eqb-true}
use Rattle.std.proofs.Common.{arith}
use Rattle.std.specs.Bool.{Decides}
use Rattle.std.specs.Cmp.{IsEquivalence, decided, first_so, second_so}
use Rattle.std.specs.Hash as fed
use Rattle.std.specs.Hash.{HashWrites}
use Rattle.lola_value.specs.declared.value.Params.{Params}
use Rattle.lola_value.specs.declared.value.Value.{Value}
use Rattle.lola_value.specs.declared.value.Value.TheVariants as value
use Rattle.lola_value.specs.Kinds.{values_same}
use Rattle.lola_value.proofs.ParamsLemmas.{same_values}

-- as many, and the same value in each place
abbrev pub same_places : Params → Params → Bool
same_places p q = nat_eq p.count q.count && values_same p.at0 q.at0 && values_same p.at1 q.at1 && values_same p.at2 q.at2 && values_same p.at3 q.at3

-- what a value gives to a hash, in whole words
abbrev pub value_writes : Value → HashWrites
value_writes (value.Bool b) = fed.u64 (if b then 1 else 0)
value_writes (value.Int z) = fed.i128 z
value_writes (value.Text id) = fed.u64 id.0

-- what a place gives: nothing, where it is not used
abbrev pub place_writes : Bool → Value → HashWrites
place_writes is_used v = if is_used then value_writes v else []

-- what all places give
abbrev pub params_writes : Params → HashWrites
params_writes p = place_writes (nat_lt 0 p.count) p.at0 ++ place_writes (nat_lt 1 p.count) p.at1 ++ place_writes (nat_lt 2 p.count) p.at2 ++ place_writes (nat_lt 3 p.count) p.at3

-- a value is the same as itself
pub same_value : (v : Value) → values_same v v ≡ true
same_value (value.Bool b) = elim b as (λ c. values_same (value.Bool c) (value.Bool c) ≡ true) [ true ↦ refl | false ↦ refl ]
same_value (value.Int z) = grind (arith, ints)
same_value (value.Text id) = eq-eqb id.0 id.0 refl

-- keys are the same exactly where all places are equal
pub places_decide : (p q : Params) → Decides (same_places p q) (p ≡ q)
places_decide p q = (equal, back)
  where
    equal : same_places p q ≡ true → p ≡ q
    equal h =
        let c = nat_eq p.count q.count in
        let s0 = values_same p.at0 q.at0 in
        let s1 = values_same p.at1 q.at1 in
        let s2 = values_same p.at2 q.at2 in
        let s3 = values_same p.at3 q.at3 in
        let h3 = first_so (c && s0 && s1 && s2) s3 h in
        let h2 = first_so (c && s0 && s1) s2 h3 in
        let h1 = first_so (c && s0) s1 h2 in
        let n = eqb-true p.count q.count (first_so c s0 h1) in
        let a = same_values p.at0 q.at0 (second_so c s0 h1) in
        let b = same_values p.at1 q.at1 (second_so (c && s0) s1 h2) in
        let d = same_values p.at2 q.at2 (second_so (c && s0 && s1) s2 h3) in
        let e = same_values p.at3 q.at3 (second_so (c && s0 && s1 && s2) s3 h) in
        λ i. record { count = n i; at0 = a i; at1 = b i; at2 = d i; at3 = e i }

    own : same_places p p ≡ true
    own =
        let n = eq-eqb p.count p.count refl in
        let a = same_value p.at0 in
        let b = same_value p.at1 in
        let c = same_value p.at2 in
        let d = same_value p.at3 in
        λ i. n i && a i && b i && c i && d i

    back : p ≡ q → same_places p q ≡ true
    back e = subst (λ r. same_places p r ≡ true) e own

pub places_equiv : IsEquivalence same_places
places_equiv = decided same_places places_decide

-- keys that are the same give the same to a hash
pub writes_alike : (p q : Params) → same_places p q ≡ true → params_writes p ≡ params_writes q
writes_alike p q h = ap params_writes ((places_decide p q).0 h)
