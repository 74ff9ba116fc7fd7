-- Whether bytes are UTF-8, as a test.
use Rattle.std.proofs.Common.{◌≡◌, ℕ, List, refl}
use Rattle.std.specs.Str.{IsUtf8, is_utf8}
use Rattle.std.proofs.lemmas.Str.{IsUtf8-from_is_utf8, is_utf8-from_IsUtf8}
use Rattle.std.proofs.lemmas.Bool.{false_from_ne_true}
use Rattle.lola_lexer.specs.declared.scan.thing.Thing.{Thing}
use Rattle.lola_lexer.specs.declared.scan.thing.Thing.TheVariants.{Bad}
use Rattle.lola_lexer.specs.Lexical.{if_utf8}

pub is_text : (z : List ℕ) (found : Thing) → IsUtf8 z → found ≡ if_utf8 z found
is_text z found h = rw (is_utf8-from_IsUtf8 z h) refl

pub is_no_text : (z : List ℕ) (found : Thing) → (IsUtf8 z → ⊥) → Bad ≡ if_utf8 z found
is_no_text z found h = rw (false_from_ne_true (is_utf8 z) (λ e. h (IsUtf8-from_is_utf8 z e))) refl
