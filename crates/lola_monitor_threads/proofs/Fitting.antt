-- Fields and kinds, one after another.
use Rattle.std.proofs.Common.{◌≡◌, ℕ, ◌+◌, ◌<◌, List, ◌∷◌, length, get_or, drop, sym, subst}
use Rattle.std.specs.List.{AllZip}
use Rattle.std.proofs.lemmas.List.{drop_more}
use Rattle.std.proofs.lemmas.Slice.Zip.{AllZip-long}
use Rattle.lola_value.specs.declared.value.Kind.{Kind}
use Rattle.lola_value.specs.declared.text.Field.{Field}
use Rattle.lola_model.specs.Trace.{IsFieldOf}

-- the first of those that are left, and the others
module _ (ks : List Kind) (fs : List Field) (i : ℕ) (k : Kind) (f : Field) (in_ks : i < length ks) (in_fs : i < length fs) where
  pub first_left : AllZip IsFieldOf (drop i ks) (drop i fs) → IsFieldOf (get_or ks i k) (get_or fs i f) × AllZip IsFieldOf (drop (i + 1) ks) (drop (i + 1) fs)
  first_left all = subst (AllZip IsFieldOf (get_or ks i k ∷ drop (i + 1) ks)) (drop_more fs i f in_fs) (subst (λ l. AllZip IsFieldOf l (drop i fs)) (drop_more ks i k in_ks) all)

  pub with_first : IsFieldOf (get_or ks i k) (get_or fs i f) → AllZip IsFieldOf (drop (i + 1) ks) (drop (i + 1) fs) → AllZip IsFieldOf (drop i ks) (drop i fs)
  with_first here rest = subst (λ l. AllZip IsFieldOf l (drop i fs)) (sym (drop_more ks i k in_ks)) (subst (AllZip IsFieldOf (get_or ks i k ∷ drop (i + 1) ks)) (sym (drop_more fs i f in_fs)) (here, rest))

-- there is one for each
pub as_many : (ks : List Kind) (fs : List Field) → AllZip IsFieldOf ks fs → length fs ≡ length ks
as_many ks fs all = AllZip-long IsFieldOf ks fs all
