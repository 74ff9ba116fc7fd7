-- What is found at the front of a text stands there.
use Rattle.std.proofs.Common.{◌≡◌, true, ◌&&◌, ◌==◌}
use Rattle.std.specs.List.{slice_index}
use Rattle.std.specs.Char.{is_ascii_digit}
use Rattle.lola_lexer.specs.Spelling.{Bytes, is_blank, begins_name}
use Rattle.lola_lexer.specs.Lexical.{word, thing_at}
use Rattle.lola_lexer.specs.Longest.{IsSound}
use Rattle.lola_lexer.proofs.Signs.{if_goes, sign_sound}
use Rattle.lola_lexer.proofs.Words.{word_stands}
use Rattle.lola_lexer.proofs.Numbers.{number_sound}
use Rattle.lola_lexer.proofs.Texts.{text_sound}
use Rattle.lola_lexer.proofs.Comments.{blank_sound, line_sound, block_sound}

word_sound : (z : Bytes) → begins_name (slice_index z 0) ≡ true → IsSound z (word z)
unfolding word
word_sound z h = word_stands z h

pub sound : (z : Bytes) → IsSound z (thing_at z)
unfolding thing_at
sound z =
    let b = slice_index z 0 in
    let c = slice_index z 1 in
    if_goes (is_blank b) _ _ (IsSound z) (λ h. blank_sound z h) (λ no_blank.
    if_goes (b == 47 && c == 47) _ _ (IsSound z) (λ h. line_sound z h) (λ no_line.
    if_goes (b == 47 && c == 42) _ _ (IsSound z) (λ h. block_sound z h) (λ no_block.
    if_goes (begins_name b) _ _ (IsSound z) (λ h. word_sound z h) (λ no_word.
    if_goes (is_ascii_digit b) _ _ (IsSound z) (λ h. number_sound z h) (λ no_digit.
    if_goes (b == 34) _ _ (IsSound z) (λ h. text_sound z h) (λ no_text. sign_sound z no_line no_block))))))
