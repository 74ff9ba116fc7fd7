-- The last token of a shape, by its number and by what stands around it.
use Rattle.std.proofs.Common.{◌≡◌, ℕ, zero, suc, ◌+◌, ◌-◌, ◌<◌, ◌≤◌, Bool, true, false, ◌||◌, ◌&&◌, nat_lt, List, [], ◌∷◌, ◌++◌, length, get_or, take, drop, Option, Some, None, refl, sym, ap, ◌∙◌, arith}
use Rattle.lola_lexer.specs.declared.shape.TokenShape.{TokenShape}
use Rattle.lola_lexer.specs.declared.shape.TokenShape.TheVariants as is
use Rattle.lola_lexer.specs.declared.token.Token.{Token}
use Rattle.lola_lexer.specs.Tokens.{AreInOrder, StandIn}
use Rattle.lola_parser_grammar.specs.Syntax.{Lexeme, Terminal, Of, any_fits, fits, same_shape, starts}
use Rattle.lola_parser_grammar.specs.Nestings.{is_nesting, one_if, nestings_in}
use Rattle.lola_parser_grammar.specs.Cursor.{lexeme, lexemes}
use Rattle.lola_parser_grammar.specs.Grammar.{all_nestings, expr_in}
use Rattle.lola_parser.specs.Looking as looking
use Rattle.lola_parser.specs.Looking.{is_either, is_nesting_shape, nestings_among, IsLast}
use Rattle.lola_parser.specs.Places.{cut_last, clause_words, is_spawn, behind_with, behind_bracket, ends_within, is_enclosed, nesting_or, place_behind, place_too_deep}
use Rattle.lola_parser.specs.Turns.{Left}
use Rattle.lola_parser.specs.Skims.{skim}
use Rattle.lola_parser.specs.Parts.{IsRecognized}
use Rattle.lola_parser_cursor.proofs.Steps.{tail_is}
use Rattle.std.proofs.lemmas.Bool.{eq-eqb, ne_eqb}

-- the terminals are those that the test of shapes tells
abbrev pub Tells : List Terminal → (TokenShape → Bool) → Type 0
Tells ks f = (t : Lexeme) → any_fits ks t ≡ f t.shape

pub either_tells : (a b : TokenShape) → Tells (Of a ∷ Of b ∷ []) (is_either a b)
unfolding fits
either_tells a b t = by (same_shape a t.shape) (same_shape b t.shape)
  where
    by : (x y : Bool) → (x || (y || false)) ≡ (x || y)
    by true y = refl
    by false true = refl
    by false false = refl

pub one_tells : (a : TokenShape) → Tells (Of a ∷ []) (is_either a a)
unfolding fits
one_tells a t = by (same_shape a t.shape)
  where
    by : (x : Bool) → (x || false) ≡ (x || x)
    by true = refl
    by false = refl

nesting_tells_at : (s : TokenShape) (w : List ℕ) (a b : ℕ) → any_fits all_nestings (record { shape = s; text = w; from = a; to = b }) ≡ is_nesting_shape s
unfolding fits same_shape is_nesting_shape
nesting_tells_at is.Open w a b = refl
nesting_tells_at _ w a b = refl

pub nestings_tell : Tells all_nestings is_nesting_shape
nestings_tell t = nesting_tells_at t.shape t.text t.from t.to

-- ---- the last

abbrev pub CutOf : List Terminal → List ℕ → List Token → Option ℕ → Type 0
CutOf ks bytes ts None = cut_last ks (lexemes bytes ts) ≡ None
CutOf ks bytes ts (Some i) =
    (i < length ts) × ((d : Token) → cut_last ks (lexemes bytes ts) ≡ Some (lexemes bytes (take i ts), lexeme bytes (get_or ts i d), lexemes bytes (drop (suc i) ts)))

module _ (ks : List Terminal) (f : TokenShape → Bool) (tell : Tells ks f) (bytes : List ℕ) where
  none_cut : (ts : List Token) → ((k : ℕ) (d : Token) → k < length ts → f (get_or ts k d).shape ≡ false) → cut_last ks (lexemes bytes ts) ≡ None
  none_cut [] h = refl
  none_cut (t ∷ ts) h =
      let e = none_cut ts (λ k d less. h (suc k) d (omega (arith, less))) in
      let g = tell (lexeme bytes t) ∙ h zero t (omega arith) in
      rw (e, g) refl

  some_cut : (ts : List Token) (i : ℕ) (d : Token) → i < length ts → f (get_or ts i d).shape ≡ true → ((k : ℕ) (d : Token) → i < k → k < length ts → f (get_or ts k d).shape ≡ false)
      → cut_last ks (lexemes bytes ts) ≡ Some (lexemes bytes (take i ts), lexeme bytes (get_or ts i d), lexemes bytes (drop (suc i) ts))
  some_cut [] i d less here after = absurd (omega (arith, less))
  some_cut (t ∷ ts) zero d less here after =
      let e = none_cut ts (λ k d less. after (suc k) d (omega arith) (omega (arith, less))) in
      let g = tell (lexeme bytes t) ∙ here in
      rw (e, g) refl
  some_cut (t ∷ ts) (suc i) d less here after =
      let e = some_cut ts i d (omega (arith, less)) here (λ k d low less. after (suc k) d (omega (arith, low)) (omega (arith, less))) in
      rw e refl

  pub cut_of : (ts : List Token) (r : Option ℕ) → IsLast f ts r → CutOf ks bytes ts r
  cut_of ts None h = none_cut ts h
  cut_of ts (Some i) h = (h.0, λ d. some_cut ts i d h.0 (h.1 d) h.2)

-- ---- parts of texts

pub lexemes_append : (bytes : List ℕ) (us vs : List Token) → lexemes bytes (us ++ vs) ≡ lexemes bytes us ++ lexemes bytes vs
lexemes_append bytes [] vs = refl
lexemes_append bytes (t ∷ us) vs = ap (λ (w : List Lexeme). lexeme bytes t ∷ w) (lexemes_append bytes us vs)

pub around : (bytes : List ℕ) (ts : List Token) (i start : ℕ) → start ≤ i → lexemes bytes (drop start (take i ts)) ++ lexemes bytes (drop i ts) ≡ lexemes bytes (drop start ts)
around bytes [] zero zero le = refl
around bytes [] zero (suc start) le = absurd (omega (arith, le))
around bytes [] (suc i) zero le = refl
around bytes [] (suc i) (suc start) le = refl
around bytes (t ∷ ts) zero zero le = refl
around bytes (t ∷ ts) zero (suc start) le = absurd (omega (arith, le))
around bytes (t ∷ ts) (suc i) zero le = ap (λ (w : List Lexeme). lexeme bytes t ∷ w) (around bytes ts i zero (omega arith))
around bytes (t ∷ ts) (suc i) (suc start) le = around bytes ts i start (omega (arith, le))

pub any_default : (ts : List Token) (i : ℕ) (d e : Token) → i < length ts → get_or ts i d ≡ get_or ts i e
any_default [] i d e less = absurd (omega (arith, less))
any_default (t ∷ ts) zero d e less = refl
any_default (t ∷ ts) (suc i) d e less = any_default ts i d e (omega (arith, less))

-- ---- the bracket behind a `with`

pub shape_at : (s : TokenShape) (bytes : List ℕ) (ts : List Token) (i : ℕ) (d : Token) → i < length ts → same_shape s (get_or ts i d).shape ≡ starts (Of s ∷ []) (lexemes bytes (drop i ts))
unfolding fits
shape_at s bytes [] i d less = absurd (omega (arith, less))
shape_at s bytes (t ∷ ts) zero d less = by (same_shape s t.shape)
  where
    by : (x : Bool) → x ≡ (x || false)
    by true = refl
    by false = refl
shape_at s bytes (t ∷ ts) (suc i) d less = shape_at s bytes ts i d (omega (arith, less))

pub starts_within : (ks : List Terminal) (bytes : List ℕ) (ts : List Token) (i : ℕ) → starts ks (lexemes bytes (drop i ts)) ≡ true → i < length ts
starts_within ks bytes [] zero h = absurd cc
starts_within ks bytes [] (suc i) h = absurd cc
starts_within ks bytes (t ∷ ts) zero h = omega arith
starts_within ks bytes (t ∷ ts) (suc i) h = omega (arith, starts_within ks bytes ts i h)

module _ (bytes : List ℕ) (ts : List Token) (w : ℕ) (m : Lexeme) (e : cut_last (Of is.With ∷ []) (lexemes bytes ts) ≡ Some (lexemes bytes (take w ts), m, lexemes bytes (drop (suc w) ts))) where
  one_on : starts (Of is.Open ∷ []) (lexemes bytes (drop (w + 1) ts)) ≡ starts (Of is.Open ∷ []) (lexemes bytes (drop (suc w) ts))
  one_on = let k : w + 1 ≡ suc w = omega arith in ap (λ (i : ℕ). starts (Of is.Open ∷ []) (lexemes bytes (drop i ts))) k

  two_on : drop 1 (lexemes bytes (drop (suc w) ts)) ≡ lexemes bytes (drop (w + 2) ts)
  two_on = let k : suc w + 1 ≡ w + 2 = omega arith in sym (tail_is bytes ts (suc w)) ∙ ap (λ (i : ℕ). lexemes bytes (drop i ts)) k

  pub not_spawn : is_spawn (cut_last clause_words (lexemes bytes (take w ts))) ≡ false → behind_bracket (lexemes bytes ts) ≡ None
  not_spawn h = ap behind_with e ∙ rw h refl

  pub not_open : is_spawn (cut_last clause_words (lexemes bytes (take w ts))) ≡ true → starts (Of is.Open ∷ []) (lexemes bytes (drop (w + 1) ts)) ≡ false → behind_bracket (lexemes bytes ts) ≡ None
  not_open h i = let j : starts (Of is.Open ∷ []) (lexemes bytes (drop (suc w) ts)) ≡ false = sym one_on ∙ i in ap behind_with e ∙ rw (h, j) refl

  pub found : is_spawn (cut_last clause_words (lexemes bytes (take w ts))) ≡ true → starts (Of is.Open ∷ []) (lexemes bytes (drop (w + 1) ts)) ≡ true → behind_bracket (lexemes bytes ts) ≡ Some (lexemes bytes (drop (w + 2) ts))
  found h i = let j : starts (Of is.Open ∷ []) (lexemes bytes (drop (suc w) ts)) ≡ true = sym one_on ∙ i in ap behind_with e ∙ rw (h, j) (ap (λ (x : List Lexeme). Some x) two_on)

-- ---- counts

one_if_same : (b : Bool) → looking.one_if b ≡ one_if all_nestings b
one_if_same true = refl
one_if_same false = refl

pub nestings_same : (bytes : List ℕ) (ts : List Token) → nestings_among ts ≡ nestings_in all_nestings (lexemes bytes ts)
nestings_same bytes [] = refl
nestings_same bytes (t ∷ ts) =
    let e : looking.one_if (is_nesting_shape t.shape) ≡ one_if all_nestings (is_nesting all_nestings (lexeme bytes t)) = one_if_same (is_nesting_shape t.shape) ∙ ap (one_if all_nestings) (sym (nestings_tell (lexeme bytes t))) in
    omega (arith, e, nestings_same bytes ts)

pub left_from : (bytes : List ℕ) (ts : List Token) (i : ℕ) → length (lexemes bytes (drop i ts)) ≡ length ts - i
left_from bytes [] zero = refl
left_from bytes [] (suc i) = omega arith
left_from bytes (t ∷ ts) zero = omega (arith, left_from bytes ts zero)
left_from bytes (t ∷ ts) (suc i) = omega (arith, left_from bytes ts i)

-- ---- whether the expression ends at a bracket

module _ (head d xs rest : List Lexeme) (e : head ++ d ≡ xs) where
  skims_so : (o : Left) → skim (expr_in (suc (length xs))) xs ≡ o → is_enclosed head d ≡ ends_within (length d) o
  skims_so o h = ap (λ (ys : List Lexeme). ends_within (length d) (skim (expr_in (suc (length ys))) ys)) e ∙ ap (ends_within (length d)) h

  pub missed : IsRecognized xs false rest → is_enclosed head d ≡ false
  missed h = skims_so None (h (suc (length xs)) (omega arith))

  pub reached : IsRecognized xs true rest → is_enclosed head d ≡ (nat_lt (length rest) (length d) && starts (Of is.Shut ∷ []) rest)
  reached h = skims_so (Some rest) (h (suc (length xs)) (omega arith))

-- ---- the token at a place

tail_in : (z : List ℕ) (t : Token) (ts : List Token) → StandIn z (t ∷ ts) → StandIn z ts
tail_in z t ts h k d less = h (suc k) d (omega (arith, less))

head_in : (z : List ℕ) (t : Token) (ts : List Token) → StandIn z (t ∷ ts) → (t.from < t.to) × (t.to ≤ length z)
head_in z t ts h = h zero t (omega arith)

from_above : (z : List ℕ) (lo : ℕ) (ts : List Token) (i : ℕ) (d : Token) → StandIn z ts → AreInOrder lo ts → i < length ts → lo ≤ (get_or ts i d).from
from_above z lo [] i d h o less = absurd (omega (arith, less))
from_above z lo (t ∷ ts) zero d h o less = o.0
from_above z lo (t ∷ ts) (suc i) d h o less = let r = from_above z t.to ts i d (tail_in z t ts h) o.1 (omega (arith, less)) in omega (arith, r, o.0, (head_in z t ts h).0)

front_above : (z bytes : List ℕ) (lo : ℕ) (ts : List Token) (u : List Lexeme) (t : Lexeme) (w : List Lexeme) → StandIn z ts → AreInOrder lo ts → lexemes bytes ts ≡ u ++ t ∷ w → lo ≤ t.from
front_above z bytes lo [] [] t w h o e = absurd cc
front_above z bytes lo [] (x ∷ u) t w h o e = absurd cc
front_above z bytes lo (s ∷ ts) [] t w h o e = let k : lexeme bytes s ≡ t = cc in omega (arith, o.0, ap (λ (x : Lexeme). x.from) k)
front_above z bytes lo (s ∷ ts) (x ∷ u) t w h o e =
    let k : lexemes bytes ts ≡ u ++ t ∷ w = cc in
    let r = front_above z bytes s.to ts u t w (tail_in z s ts h) o.1 k in
    omega (arith, r, o.0, (head_in z s ts h).0)

pub only_there : (z bytes : List ℕ) (lo : ℕ) (ts : List Token) (i : ℕ) (d : Token) (u : List Lexeme) (t : Lexeme) (w : List Lexeme) → StandIn z ts → AreInOrder lo ts → i < length ts → lexemes bytes ts ≡ u ++ t ∷ w → (get_or ts i d).from ≡ t.from
    → (lexemes bytes (take i ts) ≡ u) × (lexemes bytes (drop i ts) ≡ t ∷ w)
only_there z bytes lo [] i d u t w h o less e same = absurd (omega (arith, less))
only_there z bytes lo (s ∷ ts) zero d [] t w h o less e same = (refl, e)
only_there z bytes lo (s ∷ ts) zero d (x ∷ u) t w h o less e same =
    let k : lexemes bytes ts ≡ u ++ t ∷ w = cc in
    let r = front_above z bytes s.to ts u t w (tail_in z s ts h) o.1 k in
    absurd (omega (arith, r, (head_in z s ts h).0, same))
only_there z bytes lo (s ∷ ts) (suc i) d [] t w h o less e same =
    let k : lexeme bytes s ≡ t = cc in
    let r = from_above z s.to ts i d (tail_in z s ts h) o.1 (omega (arith, less)) in
    absurd (omega (arith, r, (head_in z s ts h).0, same, ap (λ (x : Lexeme). x.from) k))
only_there z bytes lo (s ∷ ts) (suc i) d (x ∷ u) t w h o less e same =
    let k : lexemes bytes ts ≡ u ++ t ∷ w = cc in
    let g : lexeme bytes s ≡ x = cc in
    let r = only_there z bytes s.to ts i d u t w (tail_in z s ts h) o.1 (omega (arith, less)) k same in
    (ap (λ (y : List Lexeme). lexeme bytes s ∷ y) r.0 ∙ ap (λ (y : Lexeme). y ∷ u) g, r.1)

-- a token of the text stands at some number
pub some_there : (bytes : List ℕ) (ts : List Token) (u : List Lexeme) (t : Lexeme) (w : List Lexeme) (d : Token) → lexemes bytes ts ≡ u ++ t ∷ w → (length u < length ts) × ((get_or ts (length u) d).from ≡ t.from)
some_there bytes [] [] t w d e = absurd cc
some_there bytes [] (x ∷ u) t w d e = absurd cc
some_there bytes (s ∷ ts) [] t w d e = let k : lexeme bytes s ≡ t = cc in (omega arith, ap (λ (x : Lexeme). x.from) k)
some_there bytes (s ∷ ts) (x ∷ u) t w d e =
    let k : lexemes bytes ts ≡ u ++ t ∷ w = cc in
    let r = some_there bytes ts u t w d k in
    (omega (arith, r.0), r.1)

-- ---- the place

pub own_place : (u d : List Lexeme) (at : ℕ) → behind_bracket u ≡ None → place_too_deep u d at ≡ at
own_place u d at e = ap (λ (h : Left). place_behind h u d at) e

module _ (u d head : List Lexeme) (at : ℕ) (e : behind_bracket u ≡ Some head) where
  pub other_count : (nestings_in all_nestings head ≡ 512 → ⊥) → place_too_deep u d at ≡ at
  other_count other = ap (λ (h : Left). place_behind h u d at) e ∙ rw (ne_eqb (nestings_in all_nestings head) 512 other) refl

  pub nesting_before : nestings_in all_nestings head ≡ 512 → is_enclosed head d ≡ true → place_too_deep u d at ≡ nesting_or (cut_last all_nestings u) at
  nesting_before many h = ap (λ (h : Left). place_behind h u d at) e ∙ rw (eq-eqb (nestings_in all_nestings head) 512 many, h) refl
