-- Values in step that may be left out, and lists of them; and what holds from some level on.
use Rattle.std.proofs.Common.{◌≡◌, ℕ, ◌+◌, List, [], ◌∷◌, map, Option, Some, None, refl, ap, ◌∙◌, arith}
use Rattle.lola_parser_grammar.specs.Syntax.{Lexeme}
use Rattle.lola_parser_print.specs.Print as out
use Rattle.lola_parser_print.specs.Print.{lex, bare, print_formula}
use Rattle.lola_parser_law.specs.Erased as erased
use Rattle.lola_parser_law.specs.Erased.{formula_need, QuantityReads, TextReads, ValueReads}
use Rattle.lola_parser_law.specs.Fitting.{Perhaps}
use Rattle.lola_parser_law.specs.Places.{AreLexed}
use Rattle.lola_parser_law.specs.Round.{Eventually}
use Rattle.lola_parser_law.proofs.Carried.{Opt, Each}

-- ---- from some level on

pub eventually_both : (P Q R : ℕ → Type 0) → ((n : ℕ) → P n → Q n → R n) → Eventually P → Eventually Q → Eventually R
eventually_both P Q R f h k = (h.0 + k.0, λ n le. f n (h.1 n (omega (arith, le))) (k.1 n (omega (arith, le))))

pub eventually : (P Q : ℕ → Type 0) → ((n : ℕ) → P n → Q n) → Eventually P → Eventually Q
eventually P Q f h = (h.0, λ n le. f n (h.1 n le))

pub always : (P : ℕ → Type 0) → ((n : ℕ) → P n) → Eventually P
always P f = (0, λ n le. f n)

-- ---- what may be left out, and lists

pub erased_perhaps : {A : Type 0} (R : A → A → Type 0) (E : A → A) → ((x y : A) → R x y → E x ≡ E y) → (o p : Option A) → Opt R o p → erased.perhaps E o ≡ erased.perhaps E p
erased_perhaps R E kept None None h = refl
erased_perhaps R E kept None (Some y) h = absurd h
erased_perhaps R E kept (Some x) None h = absurd h
erased_perhaps R E kept (Some x) (Some y) h = ap (λ z. Some z) (kept x y h)

pub erased_each : {A : Type 0} (R : A → A → Type 0) (E : A → A) → ((x y : A) → R x y → E x ≡ E y) → (xs ys : List A) → Each R xs ys → map E xs ≡ map E ys
erased_each R E kept [] [] h = refl
erased_each R E kept [] (y ∷ ys) h = absurd h
erased_each R E kept (x ∷ xs) [] h = absurd h
erased_each R E kept (x ∷ xs) (y ∷ ys) h = ap (λ z. z ∷ map E xs) (kept x y h.0) ∙ ap (λ l. E y ∷ l) (erased_each R E kept xs ys h.1)

pub perhaps_fits : {A : Type 0} (R : A → A → Type 0) (P : ℕ → A → Type 0) → ((x y : A) → R x y → Eventually (λ n. P n x)) → (o p : Option A) → Opt R o p
    → Eventually (λ n. Perhaps (P n) o)
perhaps_fits R P f None p h = (0, λ n le. tt)
perhaps_fits R P f (Some x) None h = absurd h
perhaps_fits R P f (Some x) (Some y) h = f x y h

pub maybe_lexed : {A : Type 0} (R : A → A → Type 0) (E : A → List Lexeme) → ((x y : A) → R x y → AreLexed (E x)) → (o p : Option A) → Opt R o p → AreLexed (out.maybe E o)
maybe_lexed R E f None p h = tt
maybe_lexed R E f (Some x) None h = absurd h
maybe_lexed R E f (Some x) (Some y) h = f x y h
