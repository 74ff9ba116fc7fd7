-- The instance that a search has come to.
use Rattle.std.proofs.Common.{◌≡◌, ◌∙◌, sym, ap, ℕ, ◌+◌, List, Some, true, if◌then◌else◌, drop, slice_get}
use Rattle.lola_value.specs.declared.text.Field.{Field}
use Rattle.lola_value.specs.Arithmetic.{all_equal}
use Rattle.lola_replay_table.specs.Tries.{IsFoundAt, found}
use Rattle.lola_replay_table.specs.declared.table.KnownLife.{KnownLife}
use Rattle.lola_replay_table.proofs.TimesLemmas.{drop-at}

pub found-here : (p : List Field) (place : ℕ) (lives : List KnownLife) (l : KnownLife) → slice_get lives place ≡ Some l → all_equal p l.params ≡ true
    → found p place (drop place lives) ≡ found p 0 lives → IsFoundAt p lives (Some place)
found-here p place lives l at hit rest =
    let here : found p place (drop place lives) ≡ Some (place, l) =
    ap (found p place) (drop-at lives place l at) ∙ ap (λ b. if b then Some (place, l) else found p (place + 1) (drop (place + 1) lives)) hit in
    (l, at, sym rest ∙ here)
