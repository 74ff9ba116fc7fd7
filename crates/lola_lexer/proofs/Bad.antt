-- What is found bad is where nothing stands.
use Rattle.std.proofs.Common.{◌≡◌, ℕ, refl}
use Rattle.lola_lexer.specs.declared.shape.TokenShape.{TokenShape}
use Rattle.lola_lexer.specs.declared.scan.thing.Thing.{Thing}
use Rattle.lola_lexer.specs.declared.scan.thing.Thing.TheVariants as thing
use Rattle.lola_lexer.specs.Spelling.{Bytes}
use Rattle.lola_lexer.specs.Lexical.{thing_at}
use Rattle.lola_lexer.specs.Laws.{IsNothing}
use Rattle.lola_lexer.proofs.TheLongest.{found_longest, longest_found}
use Rattle.lola_lexer.proofs.Complete.{found_gap, gap_found}

bad_clash : (t : Thing) (s : TokenShape) (n : ℕ) → t ≡ thing.Bad → t ≡ thing.Token s n → ⊥
bad_clash t s n h i = cc

bad_gap_clash : (t : Thing) (n : ℕ) → t ≡ thing.Bad → t ≡ thing.Gap n → ⊥
bad_gap_clash t n h i = cc

pub bad_is_nothing : (z : Bytes) → thing_at z ≡ thing.Bad → IsNothing z
bad_is_nothing z h =
    record {
      no_token = λ s n longest. bad_clash (thing_at z) s n h (longest_found z s n longest);
      no_gap = λ n gap. bad_gap_clash (thing_at z) n h (gap_found z n gap);
    }

by_thing : (z : Bytes) (t : Thing) → thing_at z ≡ t → IsNothing z → t ≡ thing.Bad
by_thing z (thing.Gap n) is h = absurd (h.no_gap n (found_gap z n is))
by_thing z (thing.Token s n) is h = absurd (h.no_token s n (found_longest z s n is))
by_thing z thing.Bad is h = refl

pub nothing_is_bad : (z : Bytes) → IsNothing z → thing_at z ≡ thing.Bad
nothing_is_bad z h = by_thing z (thing_at z) refl h
