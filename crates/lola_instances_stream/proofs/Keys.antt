-- Parameters are the same as themselves.
use Rattle.std.proofs.Common.{◌≡◌, List, [], ◌∷◌, refl, true, ◌&&◌}
use Rattle.lola_value.specs.declared.value.Params.{Params}
use Rattle.lola_value.specs.declared.value.Value.{Value}
use Rattle.lola_value.specs.Kinds.{all_same, same_params}
use Rattle.lola_value.specs.Naming.{the_values}
use Rattle.lola_instances_stream.specs.Keys.{same_value}

own_list : (vs : List Value) → all_same vs vs ≡ true
own_list [] = refl
own_list (v ∷ vs) =
    let here = same_value v in
    let rest = own_list vs in
    λ i. here i && rest i

pub same_as_itself : (p : Params) → same_params p p ≡ true
same_as_itself p = own_list (the_values p)
