-- Names and reserved words.
use Rattle.std.specs.Bool.{if◌then◌else◌}
use Rattle.std.proofs.Common.{◌≡◌, ◌≢◌, ℕ, ◌+◌, ◌<◌, Bool, true, false, true≢false, List, [], ◌∷◌, take, refl, sym, ◌∙◌, get_or-take}
use Rattle.std.specs.List.{prefix_len, slice_index, All}
use Rattle.std.specs.Str.{bytes_eq}
use Rattle.std.proofs.lemmas.Slice.Eq.{bytes_eq-Decides}
use Rattle.std.proofs.lemmas.List.Elements.{All-head, All-tail, All-nil, All-cons}
use Rattle.std.proofs.lemmas.List.Sums.{prefix_len-le-length}
use Rattle.std.proofs.lemmas.Bool.{false_from_ne_true}
use Rattle.lola_lexer.specs.declared.shape.TokenShape.{TokenShape}
use Rattle.lola_lexer.specs.declared.shape.TokenShape.TheVariants as is
use Rattle.lola_lexer.specs.Spelling.{Bytes, begins_name, in_name, spelling, reserved, IsWord, IsToken}
use Rattle.lola_lexer.specs.Lexical.{shape_among, shape_of_word}
use Rattle.lola_lexer.specs.Longest.{goes_on, StandsAt}
use Rattle.lola_lexer.proofs.Runs.{run_stops, run_moves, run_passes}
use Rattle.lola_lexer.proofs.Classes.{begins_in}

-- a fact for each of a list, part by part
abbrev Each : (TokenShape → Type 0) → List TokenShape → Type 0
Each P [] = Unit {0}
Each P (s ∷ ss) = P s × Each P ss

among : (P : TokenShape → Type 0) (w : Bytes) (s : TokenShape) (ss : List TokenShape) (b : Bool) → bytes_eq w (spelling s) ≡ b
    → (w ≡ spelling s → P s) → (w ≢ spelling s → P (shape_among ss w)) → P (if b then s else shape_among ss w)
among P w s ss true e here other = here ((bytes_eq-Decides w (spelling s)).0 e)
among P w s ss false e here other = other (λ h. true≢false (sym ((bytes_eq-Decides w (spelling s)).1 h) ∙ e))

-- what holds of each word where it is spelled so, and of a name where none is, holds of the shape that is found
found : (P : TokenShape → Type 0) (w : Bytes) (ss : List TokenShape) → Each (λ s. w ≡ spelling s → P s) ss → (All (λ s. w ≢ spelling s) ss → P is.Name)
    → P (shape_among ss w)
found P w [] each name = name (All-nil (λ s. w ≢ spelling s))
found P w (s ∷ ss) each name =
    among P w s ss (bytes_eq w (spelling s)) refl each.0 (λ other. found P w ss each.1 (λ others. name (All-cons (λ s. w ≢ spelling s) s ss other others)))

-- none of the words is spelled so
pub no_word : (w : Bytes) (ss : List TokenShape) → All (λ s. w ≢ spelling s) ss → shape_among ss w ≡ is.Name
no_word w [] all = refl
no_word w (s ∷ ss) all =
    let other : w ≢ spelling s = All-head (λ s. w ≢ spelling s) s ss all in
    rw (false_from_ne_true (bytes_eq w (spelling s)) (λ e. other ((bytes_eq-Decides w (spelling s)).0 e))) (no_word w ss (All-tail (λ s. w ≢ spelling s) s ss all))

-- the shape of a word is that of a token that is spelled so and goes on as names do
abbrev pub IsWordShape : Bytes → TokenShape → Type 0
IsWordShape w s = IsToken s w × ((c d : ℕ) → goes_on s c d ≡ in_name c)

pub word_shape : (w : Bytes) → IsWord w → IsWordShape w (shape_of_word w)
word_shape w is_word =
    found (IsWordShape w) w reserved
    ((λ e. (e, λ c d. refl), (λ e. (e, λ c d. refl), (λ e. (e, λ c d. refl), (λ e. (e, λ c d. refl), (λ e. (e, λ c d. refl), (λ e. (e, λ c d. refl), (λ e. (e, λ c d. refl), (λ e. (e, λ c d. refl), (λ e. (e, λ c d. refl), (λ e. (e, λ c d. refl), (λ e. (e, λ c d. refl), (λ e. (e, λ c d. refl), (λ e. (e, λ c d. refl), (λ e. (e, λ c d. refl), tt)))))))))))))))
    (λ others. ((is_word, others), λ c d. refl))

pub word_stands : (z : Bytes) → begins_name (slice_index z 0) ≡ true → StandsAt z (shape_of_word (take (prefix_len in_name z) z)) (prefix_len in_name z)
word_stands z h =
    let n = prefix_len in_name z in
    let some : 0 < n = run_moves in_name refl z (begins_in (slice_index z 0) h) in
    let first : slice_index (take n z) 0 ≡ slice_index z 0 = get_or-take n z 0 0 some in
    let shape = word_shape (take n z) (rw first h, run_passes in_name z) in
    record {
      fits = prefix_len-le-length in_name z;
      some = some;
      token = shape.0;
      ends = shape.1 (slice_index z n) (slice_index z (n + 1)) ∙ run_stops in_name refl z;
    }
