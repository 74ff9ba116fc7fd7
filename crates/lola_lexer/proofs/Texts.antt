-- Texts.
use Rattle.std.proofs.Common.{◌≡◌, ℕ, suc, ◌+◌, ◌≤◌, Bool, true, false, not, ◌||◌, ◌==◌, List, [], ◌∷◌, ◌++◌, length, take, refl, sym, ap, ◌∙◌, true≢false, inl, inr, arith, eqb-true, Option, Some, None}
use Rattle.std.specs.Bool.{if◌then◌else◌}
use Rattle.std.specs.List.{slice_index, All, concat}
use Rattle.std.specs.Str.{is_utf8}
use Rattle.std.proofs.lemmas.Str.{IsUtf8-from_is_utf8}
use Rattle.std.proofs.lemmas.List.Elements.{All-nil, All-cons}
use Rattle.lola_lexer.specs.declared.shape.TokenShape.TheVariants as is
use Rattle.lola_lexer.specs.Spelling.{Bytes, is_escape, IsPiece}
use Rattle.lola_lexer.specs.Lexical.{closing, closed, text}
use Rattle.lola_lexer.specs.Longest.{StandsAt, IsSound}
use Rattle.lola_lexer.proofs.Signs.{if_goes}

-- with the backslash that stands before
abbrev pub pending : Bool → Bytes → Bytes
pending true w = 92 ∷ w
pending false w = w

-- pieces, and then the closing quote
pub record Tail (w : Bytes) : Type 0 where
  pub pieces : List Bytes
  pub spelled : w ≡ concat pieces ++ 34 ∷ []
  pub each : All IsPiece pieces

-- the text closes behind so many bytes
pub record Closes (is_escaped : Bool) (at : ℕ) (z : Bytes) (end : ℕ) : Type 0 where
  pub len : ℕ
  pub is : end ≡ at + len
  pub fits : len ≤ length z
  pub tail : Tail (pending is_escaped (take len z))

escape_closes : (at end b : ℕ) (z : Bytes) → is_escape b ≡ true → Closes false (at + 1) z end → Closes true at (b ∷ z) end
escape_closes at end b z e c =
    record {
      len = suc c.len;
      is = omega (arith, c.is);
      fits = omega (arith, c.fits);
      tail = record {
        pieces = (92 ∷ b ∷ []) ∷ c.tail.pieces;
        spelled = ap (λ w. 92 ∷ b ∷ w) c.tail.spelled;
        each = All-cons IsPiece (92 ∷ b ∷ []) c.tail.pieces (inr (b, refl, e)) c.tail.each;
      };
    }

plain_test : (x y u v : Bool) → x ≡ false → y ≡ false → (u || v) ≡ false → not (((x || y) || u) || v) ≡ true
plain_test x y true v h i j = absurd (true≢false j)
plain_test x y false true h i j = absurd (true≢false j)
plain_test x y false false h i j = rw (h, i) refl

byte_closes : (at end b : ℕ) (z : Bytes) (is_backslash : Bool) → (b == 92) ≡ is_backslash → (b == 34) ≡ false → (b == 10 || b == 13) ≡ false
    → Closes is_backslash (at + 1) z end → Closes false at (b ∷ z) end
byte_closes at end b z true e quote line c =
    record {
      len = suc c.len;
      is = omega (arith, c.is);
      fits = omega (arith, c.fits);
      tail = record {
        pieces = c.tail.pieces;
        spelled = ap (λ x. x ∷ take c.len z) (eqb-true b 92 e) ∙ c.tail.spelled;
        each = c.tail.each;
      };
    }
byte_closes at end b z false e quote line c =
    record {
      len = suc c.len;
      is = omega (arith, c.is);
      fits = omega (arith, c.fits);
      tail = record {
        pieces = (b ∷ []) ∷ c.tail.pieces;
        spelled = ap (λ w. b ∷ w) c.tail.spelled;
        each = All-cons IsPiece (b ∷ []) c.tail.pieces (inl (b, refl, plain_test (b == 34) (b == 92) (b == 10) (b == 13) quote e line)) c.tail.each;
      };
    }

quote_closes : (at end b : ℕ) (z : Bytes) → (b == 34) ≡ true → at + 1 ≡ end → Closes false at (b ∷ z) end
quote_closes at end b z e is =
    record {
      len = 1;
      is = sym is;
      fits = omega arith;
      tail = record { pieces = []; spelled = ap (λ x. x ∷ []) (eqb-true b 34 e); each = All-nil IsPiece };
    }

-- one byte more, where what is behind it is known
abbrev Next : ℕ → ℕ → Bytes → Type 0
Next at end z = (flag : Bool) → closing flag (at + 1) z ≡ Some end → Closes flag (at + 1) z end

escaped_step : (at end b : ℕ) (z : Bytes) (x : Bool) → is_escape b ≡ x → Next at end z → (if x then closing false (at + 1) z else None) ≡ Some end → Closes true at (b ∷ z) end
escaped_step at end b z true e next h = escape_closes at end b z e (next false h)
escaped_step at end b z false e next h = cc

byte_step : (at end b : ℕ) (z : Bytes) (x y : Bool) → (b == 34) ≡ x → (b == 10 || b == 13) ≡ y → Next at end z
    → (if x then Some (at + 1) else if y then None else closing (b == 92) (at + 1) z) ≡ Some end → Closes false at (b ∷ z) end
byte_step at end b z true y e f next h = quote_closes at end b z e cc
byte_step at end b z false true e f next h = cc
byte_step at end b z false false e f next h = byte_closes at end b z (b == 92) refl e f (next (b == 92) h)

pub closing_closes : (is_escaped : Bool) (at end : ℕ) (z : Bytes) → closing is_escaped at z ≡ Some end → Closes is_escaped at z end
closing_closes is_escaped at end [] h = cc
closing_closes true at end (b ∷ z) h = escaped_step at end b z (is_escape b) refl (λ flag. closing_closes flag (at + 1) end z) h
closing_closes false at end (b ∷ z) h = byte_step at end b z (b == 34) (b == 10 || b == 13) refl refl (λ flag. closing_closes flag (at + 1) end z) h

text_stands : (b : ℕ) (z : Bytes) (end : ℕ) → (b == 34) ≡ true → Closes false 1 z end → is_utf8 (take end (b ∷ z)) ≡ true → StandsAt (b ∷ z) is.Text end
text_stands b z end quote c utf8 =
    let e : end ≡ suc c.len = omega (arith, c.is) in
    let front : take end (b ∷ z) ≡ 34 ∷ take c.len z = rw e (ap (λ x. x ∷ take c.len z) (eqb-true b 34 quote)) in
    record {
      fits = omega (arith, e, c.fits);
      some = omega (arith, e);
      token = record {
        pieces = c.tail.pieces;
        spelled = front ∙ ap (λ w. 34 ∷ w) c.tail.spelled;
        each = c.tail.each;
        utf8 = IsUtf8-from_is_utf8 (take end (b ∷ z)) utf8;
      };
      ends = refl;
    }

closed_sound : (b : ℕ) (z : Bytes) (o : Option ℕ) → (b == 34) ≡ true → closing false 1 z ≡ o → IsSound (b ∷ z) (closed (b ∷ z) o)
closed_sound b z None quote h = tt
closed_sound b z (Some end) quote h =
    if_goes (is_utf8 (take end (b ∷ z))) _ _ (IsSound (b ∷ z)) (λ utf8. text_stands b z end quote (closing_closes false 1 end z h) utf8) (λ other. tt)

pub text_sound : (z : Bytes) → (slice_index z 0 == 34) ≡ true → IsSound z (text z)
unfolding text
text_sound [] h = absurd (true≢false (sym h))
text_sound (b ∷ z) h = closed_sound b z (closing false 1 z) h refl
