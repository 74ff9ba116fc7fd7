-- Signs.
use Rattle.std.specs.Bool.{if◌then◌else◌}
use Rattle.std.proofs.Common.{◌≡◌, ℕ, Bool, true, false, ◌&&◌, ◌||◌, ◌==◌, [], ◌∷◌, refl, sym, ap, ◌∙◌, true≢false, arith, eqb-true}
use Rattle.std.specs.List.{slice_index}
use Rattle.lola_lexer.specs.declared.shape.TokenShape.{TokenShape}
use Rattle.lola_lexer.specs.declared.shape.TokenShape.TheVariants as is
use Rattle.lola_lexer.specs.declared.scan.thing.Thing.{Thing}
use Rattle.lola_lexer.specs.Spelling.{Bytes, IsToken}
use Rattle.lola_lexer.specs.Lexical.{sign}
use Rattle.lola_lexer.specs.Longest.{goes_on, StandsAt, IsSound}

-- a fact on what a test chooses
pub if_goes : (x : Bool) (t e : Thing) (P : Thing → Type 0) → (x ≡ true → P t) → (x ≡ false → P e) → P (if x then t else e)
if_goes true t e P here other = here refl
if_goes false t e P here other = other refl

one_stands : (z : Bytes) (s : TokenShape) (k : ℕ) → (0 == k) ≡ false → ((w : Bytes) → w ≡ k ∷ [] → IsToken s w) → (slice_index z 0 == k) ≡ true
    → goes_on s (slice_index z 1) (slice_index z 2) ≡ false → StandsAt z s 1
one_stands [] s k some is h ends = absurd (true≢false (sym h ∙ some))
one_stands (b ∷ z) s k some is h ends = record { fits = omega arith; some = omega arith; token = is (b ∷ []) (ap (λ x. x ∷ []) (eqb-true b k h)); ends = ends }

two_stand : (z : Bytes) (s : TokenShape) (k l : ℕ) → (0 == k) ≡ false → (0 == l) ≡ false → ((w : Bytes) → w ≡ k ∷ l ∷ [] → IsToken s w)
    → (slice_index z 0 == k) ≡ true → (slice_index z 1 == l) ≡ true → goes_on s (slice_index z 2) (slice_index z 3) ≡ false → StandsAt z s 2
two_stand [] s k l some more is h i ends = absurd (true≢false (sym h ∙ some))
two_stand (b ∷ []) s k l some more is h i ends = absurd (true≢false (sym i ∙ more))
two_stand (b ∷ c ∷ z) s k l some more is h i ends =
    record { fits = omega arith; some = omega arith; token = is (b ∷ c ∷ []) (rw (eqb-true b k h, eqb-true c l i) refl); ends = ends }

slash_ends : (x y u : Bool) → x ≡ true → (x && y) ≡ false → (x && u) ≡ false → (y || u) ≡ false
slash_ends true y u h i j = rw (i, j) refl
slash_ends false y u h i j = absurd (true≢false (sym h))

-- the sign at the front, where no comment begins there
pub sign_sound : (z : Bytes) → (slice_index z 0 == 47 && slice_index z 1 == 47) ≡ false → (slice_index z 0 == 47 && slice_index z 1 == 42) ≡ false
    → IsSound z (sign (slice_index z 0) (slice_index z 1))
sign_sound z no_line no_block =
    let b = slice_index z 0 in
    let c = slice_index z 1 in
    if_goes (b == 58) _ _ (IsSound z) (λ h58. if_goes (c == 61) _ _ (IsSound z) (λ i. two_stand z is.Define 58 61 refl refl (λ w e. e) h58 i refl) (λ i. one_stands z is.Colon 58 refl (λ w e. e) h58 (i))) (λ n58.
    if_goes (b == 44) _ _ (IsSound z) (λ h44. one_stands z is.Comma 44 refl (λ w e. e) h44 (refl)) (λ n44.
    if_goes (b == 40) _ _ (IsSound z) (λ h40. one_stands z is.Open 40 refl (λ w e. e) h40 (refl)) (λ n40.
    if_goes (b == 41) _ _ (IsSound z) (λ h41. one_stands z is.Shut 41 refl (λ w e. e) h41 (refl)) (λ n41.
    if_goes (b == 46) _ _ (IsSound z) (λ h46. one_stands z is.Dot 46 refl (λ w e. e) h46 (refl)) (λ n46.
    if_goes (b == 64) _ _ (IsSound z) (λ h64. one_stands z is.At 64 refl (λ w e. e) h64 (refl)) (λ n64.
    if_goes (b == 43) _ _ (IsSound z) (λ h43. one_stands z is.Plus 43 refl (λ w e. e) h43 (refl)) (λ n43.
    if_goes (b == 45) _ _ (IsSound z) (λ h45. one_stands z is.Minus 45 refl (λ w e. e) h45 (refl)) (λ n45.
    if_goes (b == 42) _ _ (IsSound z) (λ h42. one_stands z is.Star 42 refl (λ w e. e) h42 (refl)) (λ n42.
    if_goes (b == 47) _ _ (IsSound z) (λ h47. one_stands z is.Slash 47 refl (λ w e. e) h47 (slash_ends (b == 47) (c == 47) (c == 42) h47 no_line no_block)) (λ n47.
    if_goes (b == 37) _ _ (IsSound z) (λ h37. one_stands z is.Percent 37 refl (λ w e. e) h37 (refl)) (λ n37.
    if_goes (b == 33) _ _ (IsSound z) (λ h33. if_goes (c == 61) _ _ (IsSound z) (λ i. two_stand z is.Unequal 33 61 refl refl (λ w e. e) h33 i refl) (λ i. one_stands z is.Not 33 refl (λ w e. e) h33 (i))) (λ n33.
    if_goes (b == 38) _ _ (IsSound z) (λ h38. if_goes (c == 38) _ _ (IsSound z) (λ i. two_stand z is.And 38 38 refl refl (λ w e. e) h38 i refl) (λ i. tt)) (λ n38.
    if_goes (b == 124) _ _ (IsSound z) (λ h124. if_goes (c == 124) _ _ (IsSound z) (λ i. two_stand z is.Or 124 124 refl refl (λ w e. e) h124 i refl) (λ i. tt)) (λ n124.
    if_goes (b == 61) _ _ (IsSound z) (λ h61. if_goes (c == 61) _ _ (IsSound z) (λ i. two_stand z is.Equal 61 61 refl refl (λ w e. e) h61 i refl) (λ i. tt)) (λ n61.
    if_goes (b == 60) _ _ (IsSound z) (λ h60. if_goes (c == 61) _ _ (IsSound z) (λ i. two_stand z is.LessEqual 60 61 refl refl (λ w e. e) h60 i refl) (λ i. one_stands z is.Less 60 refl (λ w e. e) h60 (i))) (λ n60.
    if_goes (b == 62) _ _ (IsSound z) (λ h62. if_goes (c == 61) _ _ (IsSound z) (λ i. two_stand z is.GreaterEqual 62 61 refl refl (λ w e. e) h62 i refl) (λ i. one_stands z is.Greater 62 refl (λ w e. e) h62 (i))) (λ n62.
    tt)))))))))))))))))
