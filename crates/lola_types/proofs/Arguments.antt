-- Arguments and the kinds of parameters, one after another.
use Rattle.std.proofs.Common.{◌≡◌, refl, List, [], ◌∷◌, Option, Some, None, Bool, true, false, ◌&&◌, slice_get, drop}
use Rattle.lola_value.specs.declared.value.Kind.{Kind}
use Rattle.lola_types.specs.declared.found.Found.{Found}
use Rattle.lola_types.specs.Found.{is_fitting, arguments_fit}

pub fit_first : (p : Found) (ps : List Found) (ks : List Kind) → arguments_fit (p ∷ ps) ks ≡ (is_fitting p (slice_get ks 0) && arguments_fit ps (drop 1 ks))
fit_first p ps [] = refl
fit_first p ps (k ∷ ks) = refl
