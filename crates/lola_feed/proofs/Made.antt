-- Rooms that are made one after another.
use Rattle.std.proofs.Common.{◌≡◌, ℕ, ◌+◌, ◌<◌, List, [], ◌∷◌, ◌++◌, Some, length, slice_get, sym, ap, ◌∙◌, arith, below_more}
use Rattle.lola_model.proofs.Growing.{slice_get-append, slice_get_last}
use Rattle.lola_rows.specs.Reading.{Shape}

pub room_more : (shape : ℕ → Shape) (rooms news : List Shape) (n : ℕ) (room : Shape) → length rooms ≡ n → ((s : ℕ) → s < n → slice_get rooms s ≡ Some (shape s)) → room ≡ shape n → news ≡ rooms ++ room ∷ []
    → (s : ℕ) → s < n + 1 → slice_get news s ≡ Some (shape s)
room_more shape rooms news n room many each last are =
    below_more (λ s. slice_get news s ≡ Some (shape s)) n
    (λ s h. ap (λ (l : List Shape). slice_get l s) are ∙ slice_get-append rooms (room ∷ []) s (omega arith) ∙ each s h)
    (ap (λ (l : List Shape). slice_get l n) are ∙ slice_get_last rooms room n (sym many) ∙ ap Some last)
