-- Instances that are found to be the same are equal.
use Rattle.std.proofs.Common.{◌≡◌, ap, ◌∙◌, ℕ, List, true, nat_eq}
use Rattle.std.proofs.lemmas.Bool.{eqb-true, and_parts}
use Rattle.lola_value.specs.declared.text.Field.{Field}
use Rattle.lola_value.specs.Arithmetic.{all_equal}
use Rattle.lola_model.specs.Table.{Instance, is_instance}
use Rattle.lola_model.proofs.Orderly.{all_exact}

-- the same instance: its birth and its parameters
pub same_instance : (x y : Instance) → is_instance x y ≡ true → x ≡ y
same_instance x y e =
    let h : (nat_eq x.born y.born ≡ true) × (all_equal x.params y.params ≡ true) = and_parts (nat_eq x.born y.born) (all_equal x.params y.params) e in
    ap (λ (b : ℕ). record { params = x.params; born = b }) (eqb-true x.born y.born h.0)
    ∙ ap (λ (p : List Field). record { params = p; born = y.born }) (all_exact x.params y.params h.1)
