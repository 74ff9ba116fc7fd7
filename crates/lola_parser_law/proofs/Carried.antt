-- What tokens spell is spelled by the same tokens at other places, and what is spelled has what its tokens have: by the parts
-- of the grammar. The proposition W stands for "the tokens are tokens of the language".
use Rattle.std.specs.Prelude.{fold}
use Rattle.std.proofs.Common.{◌≡◌, ℕ, suc, ◌+◌, ◌≤◌, true, ◌&&◌, not, List, [], ◌∷◌, ◌++◌, Option, Some, None, refl, sym, ap, ap₂, subst, ◌∙◌, inl, inr}
use Rattle.std.specs.Str.{bytes_eq}
use Rattle.lola_lexer.specs.declared.shape.TokenShape.{TokenShape}
use Rattle.lola_lexer.specs.declared.shape.TokenShape.TheVariants as is
use Rattle.lola_parser_grammar.specs.Syntax.{Lexeme, Terminal, Of, Word, Other, is_among, same_shape, fits, any_fits, Syntax, Past, Token, Nesting, Whole, Known, Then, Map, Either, Maybe, Many, Fork, Repeats, Perhaps, Spells, max_nestings}
use Rattle.lola_parser_grammar.specs.Nestings.{Fits, one_if, nestings_in}
use Rattle.lola_parser_grammar.specs.Grammar.{all_nestings, place, ◌*>◌, ◌<*◌, ◌|>◌, ◌>>◌, folded, enclosed, further, listed}
use Rattle.lola_parser_grammar.specs.Grammar as g
use Rattle.lola_parser_law.specs.Places.{IsLexed, AreLexed, IsSame, AreSame}

-- ---- tokens in step

pub record IsAlike (W : Type 0) (t u : Lexeme) : Type 0 where
  pub same : IsSame t u
  pub lexed : W → IsLexed t

abbrev pub AreAlike : Type 0 → List Lexeme → List Lexeme → Type 0
AreAlike W [] [] = Unit {0}
AreAlike W (t ∷ ts) (u ∷ us) = IsAlike W t u × AreAlike W ts us
AreAlike W [] (u ∷ us) = ⊥
AreAlike W (t ∷ ts) [] = ⊥

pub alike_from : (W : Type 0) (ts us : List Lexeme) → AreSame ts us → (W → AreLexed ts) → AreAlike W ts us
alike_from W [] [] h k = tt
alike_from W [] (u ∷ us) h k = h
alike_from W (t ∷ ts) [] h k = h
alike_from W (t ∷ ts) (u ∷ us) h k = (record { same = h.0; lexed = λ w. (k w).0 }, alike_from W ts us h.1 (λ w. (k w).1))

pub same_self : (ts : List Lexeme) → AreSame ts ts
same_self [] = tt
same_self (t ∷ ts) = (record { shape = refl; text = refl }, same_self ts)

abbrev IsSplit : Type 0 → List Lexeme → List Lexeme → List Lexeme → Type 0
IsSplit W u v us = (p q : List Lexeme) × (us ≡ p ++ q) × AreAlike W u p × AreAlike W v q

alike_split : (W : Type 0) (u v us : List Lexeme) → AreAlike W (u ++ v) us → IsSplit W u v us
alike_split W [] v us h = ([], us, refl, tt, h)
alike_split W (t ∷ u) v [] h = absurd h
alike_split W (t ∷ u) v (w ∷ us) h =
    let r : IsSplit W u v us = alike_split W u v us h.1 in
    (w ∷ r.0, r.1, ap (λ (l : List Lexeme). w ∷ l) r.2, (h.0, r.3), r.4)

split : (W : Type 0) (ts u v us : List Lexeme) → ts ≡ u ++ v → AreAlike W ts us → IsSplit W u v us
split W ts u v us e h = alike_split W u v us (subst (λ (l : List Lexeme). AreAlike W l us) e h)

alike_none : (W : Type 0) (us : List Lexeme) → AreAlike W [] us → us ≡ []
alike_none W [] h = refl
alike_none W (u ∷ us) h = absurd h

none : (W : Type 0) (ts us : List Lexeme) → ts ≡ [] → AreAlike W ts us → us ≡ []
none W ts us e h = alike_none W us (subst (λ (l : List Lexeme). AreAlike W l us) e h)

alike_one : (W : Type 0) (t : Lexeme) (us : List Lexeme) → AreAlike W (t ∷ []) us → (u : Lexeme) × (us ≡ u ∷ []) × IsAlike W t u
alike_one W t [] h = absurd h
alike_one W t (u ∷ []) h = (u, refl, h.0)
alike_one W t (u ∷ v ∷ us) h = absurd h.1

fits_same : (k : Terminal) (t u : Lexeme) → IsSame t u → fits k t ≡ fits k u
unfolding fits
fits_same (Of s) t u h = ap (same_shape s) h.shape
fits_same (Word w) t u h = ap₂ (λ a b. same_shape is.Name a && bytes_eq w b) h.shape h.text
fits_same (Other ws) t u h = ap₂ (λ a b. same_shape is.Name a && not (is_among b ws)) h.shape h.text

any_same : (ks : List Terminal) (t u : Lexeme) → IsSame t u → any_fits ks t ≡ any_fits ks u
any_same [] t u h = refl
any_same (k ∷ ks) t u h = rw (fits_same k t u h, any_same ks t u h) refl

nestings_same : (W : Type 0) (ts us : List Lexeme) → AreAlike W ts us → nestings_in all_nestings ts ≡ nestings_in all_nestings us
nestings_same W [] [] h = refl
nestings_same W [] (u ∷ us) h = absurd h
nestings_same W (t ∷ ts) [] h = absurd h
nestings_same W (t ∷ ts) (u ∷ us) h = ap₂ (λ a n. one_if all_nestings a + n) (any_same all_nestings t u h.0.same) (nestings_same W ts us h.1)

-- ---- values in step

-- some value that is spelled so, and is in step with this one
abbrev pub Found : {A : Type 0} → (A → A → Type 0) → (List Lexeme → A → Type 0) → List Lexeme → A → Type 0
Found {A} R P us x = (y : A) × P us y × R x y

pub record Carries {A : Type 0} (W : Type 0) (R : A → A → Type 0) (s : Syntax A) : Type 0 where
  pub spelled : (ts us : List Lexeme) → AreAlike W ts us → (x : A) → Spells s ts x → Found R (Spells s) us x
  pub fitted : (ts us : List Lexeme) → AreAlike W ts us → (x : A) → Fits all_nestings s ts x → Found R (Fits all_nestings s) us x

-- whatever they are
abbrev pub Any : {A : Type 0} → A → A → Type 0
Any x y = Unit {0}

abbrev pub Both : {A B : Type 0} → (A → A → Type 0) → (B → B → Type 0) → A × B → A × B → Type 0
Both R Q p q = R p.0 q.0 × Q p.1 q.1

abbrev pub Opt : {A : Type 0} → (A → A → Type 0) → Option A → Option A → Type 0
Opt R None None = Unit {0}
Opt R (Some x) (Some y) = R x y
Opt R None (Some y) = ⊥
Opt R (Some x) None = ⊥

abbrev pub Each : {A : Type 0} → (A → A → Type 0) → List A → List A → Type 0
Each R [] [] = Unit {0}
Each R (x ∷ xs) (y ∷ ys) = R x y × Each R xs ys
Each R [] (y ∷ ys) = ⊥
Each R (x ∷ xs) [] = ⊥

abbrev pub Fun : {A B : Type 0} → (A → A → Type 0) → (B → B → Type 0) → (A → B) → (A → B) → Type 0
Fun {A} R Q f h = (x y : A) → R x y → Q (f x) (h y)

-- ---- parts

-- a token: the same, which passes the test
abbrev pub SameToken : Type 0 → Terminal → Lexeme → Lexeme → Type 0
SameToken W k t u = IsAlike W t u × (fits k t ≡ true)

token_found : (W : Type 0) (k : Terminal) (ts us : List Lexeme) → AreAlike W ts us → (x : Lexeme) → (ts ≡ x ∷ []) × (fits k x ≡ true)
    → (y : Lexeme) × ((us ≡ y ∷ []) × (fits k y ≡ true)) × SameToken W k x y
token_found W k ts us h x s =
    let o = alike_one W x us (subst (λ (l : List Lexeme). AreAlike W l us) s.0 h) in
    (o.0, (o.1, sym (fits_same k x o.0 o.2.same) ∙ s.1), (o.2, s.1))

pub token_carried : (W : Type 0) (k : Terminal) → Carries W (SameToken W k) (Token k)
unfolding Spells Fits
token_carried W k = record { spelled = token_found W k; fitted = token_found W k }

pub nesting_carried : (W : Type 0) (k : Terminal) → Carries W (SameToken W k) (Nesting k)
unfolding Spells Fits
nesting_carried W k = record { spelled = token_found W k; fitted = token_found W k }

pub past_carried : {A : Type 0} (W : Type 0) (R : A → A → Type 0) (a : Syntax A) → Carries W R a → Carries W R (Past a)
unfolding Spells Fits
past_carried W R a h = record { spelled = h.spelled; fitted = h.fitted }

pub known_carried : {A : Type 0} (W : Type 0) (R : A → A → Type 0) (fs ms : List Terminal) (a : Syntax A) → Carries W R a → Carries W R (Known fs ms a)
unfolding Spells Fits
known_carried W R fs ms a h = record { spelled = h.spelled; fitted = h.fitted }

pub whole_carried : {A : Type 0} (W : Type 0) (R : A → A → Type 0) (a : Syntax A) → Carries W R a → Carries W R (Whole a)
unfolding Spells Fits
whole_carried W R a h =
    record {
      spelled = h.spelled;
      fitted = λ ts us l x s.
          let r = h.spelled ts us l x s.0 in
          (r.0, (r.1, subst (λ (n : ℕ). n ≤ max_nestings) (nestings_same W ts us l) s.1), r.2);
    }

pub then_carried : {A B : Type 0} (W : Type 0) (R : A → A → Type 0) (Q : B → B → Type 0) (a : Syntax A) (b : Syntax B) → Carries W R a → Carries W Q b
    → Carries W (Both R Q) (Then a b)
unfolding Spells Fits
then_carried W R Q a b h k =
    record {
      spelled = λ ts us l x s.
          let c = split W ts s.0 s.1 us s.2 l in
          let p = h.spelled s.0 c.0 c.3 x.0 s.3 in
          let q = k.spelled s.1 c.1 c.4 x.1 s.4 in
          ((p.0, q.0), (c.0, c.1, c.2, p.1, q.1), (p.2, q.2));
      fitted = λ ts us l x s.
          let c = split W ts s.0 s.1 us s.2 l in
          let p = h.fitted s.0 c.0 c.3 x.0 s.3 in
          let q = k.fitted s.1 c.1 c.4 x.1 s.4 in
          ((p.0, q.0), (c.0, c.1, c.2, p.1, q.1), (p.2, q.2));
    }

pub map_carried : {A B : Type 0} (W : Type 0) (R : A → A → Type 0) (Q : B → B → Type 0) (f : A → B) (a : Syntax A) → ((x y : A) → R x y → Q (f x) (f y))
    → Carries W R a → Carries W Q (Map f a)
unfolding Spells Fits
map_carried {A} {B} W R Q f a kept h =
    record {
      spelled = λ ts us l x s.
          let r = h.spelled ts us l s.0 s.2 in
          (f r.0, (r.0, refl, r.1), subst (λ (z : B). Q z (f r.0)) (sym s.1) (kept s.0 r.0 r.2));
      fitted = λ ts us l x s.
          let r = h.fitted ts us l s.0 s.2 in
          (f r.0, (r.0, refl, r.1), subst (λ (z : B). Q z (f r.0)) (sym s.1) (kept s.0 r.0 r.2));
    }

pub either_carried : {A : Type 0} (W : Type 0) (R : A → A → Type 0) (a b : Syntax A) → Carries W R a → Carries W R b → Carries W R (Either a b)
unfolding Spells Fits
either_carried W R a b h k =
    record {
      spelled = λ ts us l x s.
          elim s [
            | inl p ↦ let r = h.spelled ts us l x p in (r.0, inl r.1, r.2)
            | inr q ↦ let r = k.spelled ts us l x q in (r.0, inr r.1, r.2)
          ];
      fitted = λ ts us l x s.
          elim s [
            | inl p ↦ let r = h.fitted ts us l x p in (r.0, inl r.1, r.2)
            | inr q ↦ let r = k.fitted ts us l x q in (r.0, inr r.1, r.2)
          ];
    }

-- ---- what may be left out, and what is repeated

abbrev Keeps : {A : Type 0} → Type 0 → (A → A → Type 0) → (List Lexeme → A → Type 0) → Type 0
Keeps {A} W R P = (ts us : List Lexeme) → AreAlike W ts us → (x : A) → P ts x → Found R P us x

perhaps_kept : {A : Type 0} (W : Type 0) (R : A → A → Type 0) (P : List Lexeme → A → Type 0) → Keeps W R P
    → (ts us : List Lexeme) → AreAlike W ts us → (x : Option A) → Perhaps P ts x → Found (Opt R) (Perhaps P) us x
perhaps_kept W R P h ts us l None s = (None, none W ts us s l, tt)
perhaps_kept W R P h ts us l (Some x) s = let r = h ts us l x s in (Some r.0, r.1, r.2)

repeats_kept : {A : Type 0} (W : Type 0) (R : A → A → Type 0) (P : List Lexeme → A → Type 0) → Keeps W R P
    → (ts us : List Lexeme) → AreAlike W ts us → (xs : List A) → Repeats P ts xs → Found (Each R) (Repeats P) us xs
repeats_kept W R P h ts us l [] s = ([], none W ts us s l, tt)
repeats_kept W R P h ts us l (x ∷ xs) s =
    let c = split W ts s.0 s.1 us s.2 l in
    let p = h s.0 c.0 c.3 x s.3 in
    let q = repeats_kept W R P h s.1 c.1 c.4 xs s.4 in
    (p.0 ∷ q.0, (c.0, c.1, c.2, p.1, q.1), (p.2, q.2))

pub maybe_carried : {A : Type 0} (W : Type 0) (R : A → A → Type 0) (a : Syntax A) → Carries W R a → Carries W (Opt R) (Maybe a)
unfolding Spells Fits
maybe_carried W R a h =
    record { spelled = perhaps_kept W R (Spells a) h.spelled; fitted = perhaps_kept W R (Fits all_nestings a) h.fitted }

pub many_carried : {A : Type 0} (W : Type 0) (R : A → A → Type 0) (a : Syntax A) → Carries W R a → Carries W (Each R) (Many a)
unfolding Spells Fits
many_carried W R a h =
    record { spelled = repeats_kept W R (Spells a) h.spelled; fitted = repeats_kept W R (Fits all_nestings a) h.fitted }

pub fork_carried : {A B : Type 0} (W : Type 0) (R : A → A → Type 0) (Q : B → B → Type 0) (ks : List Terminal) (a : Syntax A) (b c : Syntax B)
    → Carries W R a → Carries W Q b → Carries W Q c → Carries W (Both R Q) (Fork ks a b c)
unfolding Spells Fits
fork_carried W R Q ks a b c h i j =
    record {
      spelled = λ ts us l x s.
          let e = split W ts s.0 s.1 us s.2 l in
          let p = h.spelled s.0 e.0 e.3 x.0 s.3 in
          elim (s.4) [
            | inl m ↦ let q = i.spelled s.1 e.1 e.4 x.1 m in ((p.0, q.0), (e.0, e.1, e.2, p.1, inl q.1), (p.2, q.2))
            | inr m ↦ let q = j.spelled s.1 e.1 e.4 x.1 m in ((p.0, q.0), (e.0, e.1, e.2, p.1, inr q.1), (p.2, q.2))
          ];
      fitted = λ ts us l x s.
          let e = split W ts s.0 s.1 us s.2 l in
          let p = h.spelled s.0 e.0 e.3 x.0 s.3 in
          elim (s.4) [
            | inl m ↦
                let q = i.fitted s.1 e.1 e.4 x.1 m.1 in
                let few = subst (λ (n : ℕ). n ≤ max_nestings) (nestings_same W s.0 e.0 e.3) m.0 in
                ((p.0, q.0), (e.0, e.1, e.2, p.1, inl (few, q.1)), (p.2, q.2))
            | inr m ↦
                let q = j.spelled s.1 e.1 e.4 x.1 m.1 in
                let few = subst (λ (n : ℕ). n ≤ max_nestings) (ap₂ (λ n k. suc (n + k)) (nestings_same W s.0 e.0 e.3) (nestings_same W s.1 e.1 e.4)) m.0 in
                ((p.0, q.0), (e.0, e.1, e.2, p.1, inr (few, q.1)), (p.2, q.2))
          ];
    }

-- the same with a weaker relation
pub weaker : {A : Type 0} (W : Type 0) (R Q : A → A → Type 0) (a : Syntax A) → ((x y : A) → R x y → Q x y) → Carries W R a → Carries W Q a
weaker W R Q a kept h =
    record {
      spelled = λ ts us l x s. let r = h.spelled ts us l x s in (r.0, r.1, kept x r.0 r.2);
      fitted = λ ts us l x s. let r = h.fitted ts us l x s in (r.0, r.1, kept x r.0 r.2);
    }

-- ---- how parts are put together

module _ (W : Type 0) where
  pub after : {A B : Type 0} (R : A → A → Type 0) (Q : B → B → Type 0) (a : Syntax A) (b : Syntax B) → Carries W R a → Carries W Q b → Carries W Q (a *> b)
  after R Q a b h k = map_carried W (Both R Q) Q (λ p. p.1) (Then a b) (λ x y r. r.1) (then_carried W R Q a b h k)

  pub before : {A B : Type 0} (R : A → A → Type 0) (Q : B → B → Type 0) (a : Syntax A) (b : Syntax B) → Carries W R a → Carries W Q b → Carries W R (a <* b)
  before R Q a b h k = map_carried W (Both R Q) R (λ p. p.0) (Then a b) (λ x y r. r.0) (then_carried W R Q a b h k)

  pub onto : {A : Type 0} (R : A → A → Type 0) (a : Syntax A) (tail : Syntax (A → A)) → Carries W R a → Carries W (Fun R R) tail → Carries W R (a |> tail)
  onto R a tail h k = map_carried W (Both R (Fun R R)) R (λ p. p.1 p.0) (Then a tail) (λ x y r. r.1 x.0 y.0 r.0) (then_carried W R (Fun R R) a tail h k)

  pub behind : {A : Type 0} (R : A → A → Type 0) (a b : Syntax (A → A)) → Carries W (Fun R R) a → Carries W (Fun R R) b → Carries W (Fun R R) (a >> b)
  behind R a b h k =
      map_carried W (Both (Fun R R) (Fun R R)) (Fun R R) (λ p left. p.1 (p.0 left)) (Then a b) (λ x y r s t l. r.1 (x.0 s) (y.0 t) (r.0 s t l))
      (then_carried W (Fun R R) (Fun R R) a b h k)

  -- any token of a shape, and a word
  pub token_any : (s : TokenShape) → Carries W Any (g.token s)
  unfolding g.token
  token_any s = map_carried W (SameToken W (Of s)) Any place (Token (Of s)) (λ x y r. tt) (token_carried W (Of s))

  pub nesting_any : (s : TokenShape) → Carries W Any (g.nesting s)
  unfolding g.nesting
  nesting_any s = map_carried W (SameToken W (Of s)) Any place (Nesting (Of s)) (λ x y r. tt) (nesting_carried W (Of s))

  pub word_any : (w : List ℕ) → Carries W Any (g.word w)
  unfolding g.word
  word_any w = map_carried W (SameToken W (Word w)) Any place (Token (Word w)) (λ x y r. tt) (token_carried W (Word w))

  pub behind_token : {A : Type 0} (R : A → A → Type 0) (s : TokenShape) (a : Syntax A) → Carries W R a → Carries W R (g.token s *> a)
  behind_token R s a h = after Any R (g.token s) a (token_any s) h

  pub behind_nesting : {A : Type 0} (R : A → A → Type 0) (s : TokenShape) (a : Syntax A) → Carries W R a → Carries W R (g.nesting s *> a)
  behind_nesting R s a h = after Any R (g.nesting s) a (nesting_any s) h

  pub behind_word : {A : Type 0} (R : A → A → Type 0) (w : List ℕ) (a : Syntax A) → Carries W R a → Carries W R (g.word w *> a)
  behind_word R w a h = after Any R (g.word w) a (word_any w) h

  pub before_token : {A : Type 0} (R : A → A → Type 0) (s : TokenShape) (a : Syntax A) → Carries W R a → Carries W R (a <* g.token s)
  before_token R s a h = before R Any a (g.token s) h (token_any s)

  -- one, and more of them
  abbrev pub Some_each : {A : Type 0} → (A → A → Type 0) → List A → List A → Type 0
  Some_each R [] ys = ⊥
  Some_each R (x ∷ xs) ys = Each R (x ∷ xs) ys

  pub listed_carried : {A : Type 0} (R : A → A → Type 0) (a : Syntax A) → Carries W R a → Carries W (Some_each R) (listed a)
  listed_carried R a h =
      map_carried W (Both R (Each R)) (Some_each R) (λ p. p.0 ∷ p.1) (Then a (Many (further a))) (λ x y r. r)
      (then_carried W R (Each R) a (Many (further a)) h (many_carried W R (further a) (behind_token R is.Comma a h)))

  -- parts that are joined to what they follow
  fold_kept : {A B : Type 0} (R : B → B → Type 0) (Q : A → A → Type 0) (f : B → A → B) → ((x y : B) → R x y → (a b : A) → Q a b → R (f x a) (f y b))
      → (rs qs : List A) → Each Q rs qs → (x y : B) → R x y → R (fold f x rs) (fold f y qs)
  fold_kept R Q f kept [] [] e x y r = r
  fold_kept R Q f kept [] (b ∷ qs) e x y r = absurd e
  fold_kept R Q f kept (a ∷ rs) [] e x y r = absurd e
  fold_kept R Q f kept (a ∷ rs) (b ∷ qs) e x y r = fold_kept R Q f kept rs qs e.1 (f x a) (f y b) (kept x y r a b e.0)

  pub folded_carried : {A B : Type 0} (R : B → B → Type 0) (Q : A → A → Type 0) (f : B → A → B) (s : Syntax A)
      → ((x y : B) → R x y → (a b : A) → Q a b → R (f x a) (f y b)) → Carries W Q s → Carries W (Fun R R) (folded f s)
  folded_carried R Q f s kept h =
      map_carried W (Each Q) (Fun R R) (λ rs left. fold f left rs) (Many s) (λ rs qs e x y r. fold_kept R Q f kept rs qs e x y r) (many_carried W Q s h)
