-- Each token is found, where what is behind it leaves it so; and the longest token is the one that is found.
use Rattle.std.proofs.Common.{◌≡◌, ℕ, ◌+◌, ◌<◌, false, ◌++◌, length, take, drop, refl, sym, ap, ◌∙◌, subst, arith, length-append, take-append-drop, add-zero}
use Rattle.std.specs.List.{slice_index}
use Rattle.std.proofs.lemmas.List.{get_or-drop, length-take-le}
use Rattle.lola_lexer.specs.declared.shape.TokenShape.{TokenShape}
use Rattle.lola_lexer.specs.declared.shape.TokenShape.TheVariants as is
use Rattle.lola_lexer.specs.declared.scan.thing.Thing.TheVariants as thing
use Rattle.lola_lexer.specs.Spelling.{Bytes, begins_name, reserved, IsToken}
use Rattle.lola_lexer.specs.Lexical.{thing_at}
use Rattle.lola_lexer.specs.Longest.{goes_on, StandsAt, GapAt, IsSound}
use Rattle.lola_lexer.proofs.Words.{no_word}
use Rattle.lola_lexer.proofs.Fixed.{word_complete, fixed_complete, some_bytes}
use Rattle.lola_lexer.proofs.WholeNumbers.{integer_complete, quantity_complete}
use Rattle.lola_lexer.proofs.WholeTexts.{text_complete, gap_complete}
use Rattle.lola_lexer.proofs.Sound.{sound}

pub complete : (s : TokenShape) (w rest : Bytes) → IsToken s w → goes_on s (slice_index rest 0) (slice_index rest 1) ≡ false
    → thing_at (w ++ rest) ≡ thing.Token s (length w)
complete is.Name w rest h ends = word_complete is.Name w rest h.0 (no_word w reserved h.1) ends
complete is.Integer w rest h ends = integer_complete w rest h.0 h.1 ends
complete is.Quantity w rest h ends = quantity_complete w rest h ends
complete is.Text w rest h ends = text_complete w rest h
complete s w rest h ends = rw h (fixed_complete s tt rest ends)

pub token_some : (s : TokenShape) (w : Bytes) → IsToken s w → 0 < length w
token_some is.Name w h = some_bytes begins_name w h.0.0 refl
token_some is.Integer w h = h.0.0
token_some is.Quantity w h = rw (h.spelled) (simp length-append (omega (arith, h.digits.0)))
token_some is.Text w h = rw (h.spelled) (omega arith)
token_some s w h = rw h (omega arith)

-- what stands at the front is found
pub stands_found : (z : Bytes) (s : TokenShape) (n : ℕ) → StandsAt z s n → thing_at z ≡ thing.Token s n
stands_found z s n h =
    let first : slice_index (drop n z) 0 ≡ slice_index z n = get_or-drop n z 0 0 ∙ ap (λ k. slice_index z k) (add-zero n) in
    let second : slice_index (drop n z) 1 ≡ slice_index z (n + 1) = get_or-drop n z 1 0 in
    let ends : goes_on s (slice_index (drop n z) 0) (slice_index (drop n z) 1) ≡ false = rw (first, second) h.ends in
    ap thing_at (sym (take-append-drop n z)) ∙ complete s (take n z) (drop n z) h.token ends ∙ ap (λ k. thing.Token s k) (length-take-le n z h.fits)

pub gap_found : (z : Bytes) (n : ℕ) → GapAt z n → thing_at z ≡ thing.Gap n
gap_found z n h =
    ap thing_at (sym (take-append-drop n z)) ∙ gap_complete (take n z) (drop n z) h.gap ∙ ap (λ k. thing.Gap k) (length-take-le n z h.fits)

pub found_stands : (z : Bytes) (s : TokenShape) (n : ℕ) → thing_at z ≡ thing.Token s n → StandsAt z s n
found_stands z s n h = subst (IsSound z) h (sound z)

pub found_gap : (z : Bytes) (n : ℕ) → thing_at z ≡ thing.Gap n → GapAt z n
found_gap z n h = subst (IsSound z) h (sound z)
