-- Two claims about lists of parameters, which other proofs take as given.
use Rattle.std.proofs.Common.{◌≡◌, ◌<◌, ◌≤◌, List, [], ◌∷◌, length, true, false}
use Rattle.lola_value.specs.declared.text.Field.{Field}
use Rattle.lola_value.specs.declared.value.Kind.{Kind}
use Rattle.lola_save_text.specs.Fitting.{are_values, is_among}
use Rattle.lola_save_text.specs.Lines.{count_of}
use Rattle.lola_save_text.specs.Places.{most_lists}
use Rattle.lola_save_text.specs.States.{SavedInstance}

-- where there are fewer lists of parameters than there may be, there is another one
abbrev pub ThereIsAnother : Type 0
ThereIsAnother =
    (ks : List Kind) (seen : List (List Field)) → length seen < most_lists ks
    → (p : List Field) × (are_values ks p ≡ true) × (is_among p seen ≡ false)

-- no two of these lists of parameters are the same, all are of the kinds
abbrev pub AreDifferent : List Kind → List (List Field) → List SavedInstance → Type 0
AreDifferent ks seen [] = Unit {0}
AreDifferent ks seen (i ∷ is) = (are_values ks i.params ≡ true) × (is_among i.params seen ≡ false) × AreDifferent ks (i.params ∷ seen) is

-- different lists of parameters are no more than there are
abbrev pub AreFew : Type 0
AreFew = (ks : List Kind) (is : List SavedInstance) → AreDifferent ks [] is → count_of is ≤ 65536 → count_of is ≤ most_lists ks
