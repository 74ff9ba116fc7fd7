-- The first of several refusals.
use Rattle.std.proofs.Common.{◌≡◌, refl, ap, sym, subst, ◌∙◌, ℕ, ◌⊎◌, inl, inr, List, [], ◌∷◌, ◌++◌, Option, Some, None, Bool, true, false, ◌&&◌, ◌||◌, if◌then◌else◌, nat_eq, nat_lt, arith}
use Rattle.std.specs.List.{Contains, slice_get}
use Rattle.lola_model.proofs.Strictly.{Contains-here, Contains-there, Contains-cases, Contains-none}
use Rattle.lola_value.specs.declared.front.Code.{Code}
use Rattle.lola_value.specs.declared.front.Code.TheVariants as code
use Rattle.lola_value.specs.declared.front.Refusal.{Refusal}
use Rattle.lola_model.specs.Refusals.{code_number, is_before, earlier, first_of, IsFirstIn, IsFirstOf, MeansFirst}

-- the codes by their numbers; no code has 0 or 20
abbrev codes_in_order : List Code
codes_in_order =
    code.TooLong ∷ code.TooLong ∷ code.BadToken ∷ code.Unexpected ∷ code.TooDeep ∷ code.Duplicate ∷ code.Unknown ∷ code.TooMany ∷ code.BadArity ∷ code.WrongType ∷ code.LiteralRange
    ∷ code.NotImplied ∷ code.NoPacing ∷ code.PacingTooWide ∷ code.DirectToFiltered ∷ code.WindowOutsidePeriodic ∷ code.WindowTooFine ∷ code.PeriodTooShort ∷ code.WindowNeedsWholePeriod ∷ code.ZeroCycle ∷ code.TooLong ∷ code.LocalWithoutSpawn ∷ []

numbered : (c : Code) → slice_get codes_in_order (code_number c) ≡ Some c
numbered code.TooLong = refl
numbered code.BadToken = refl
numbered code.Unexpected = refl
numbered code.TooDeep = refl
numbered code.Duplicate = refl
numbered code.Unknown = refl
numbered code.TooMany = refl
numbered code.BadArity = refl
numbered code.WrongType = refl
numbered code.LiteralRange = refl
numbered code.NotImplied = refl
numbered code.NoPacing = refl
numbered code.PacingTooWide = refl
numbered code.DirectToFiltered = refl
numbered code.WindowOutsidePeriodic = refl
numbered code.WindowTooFine = refl
numbered code.PeriodTooShort = refl
numbered code.WindowNeedsWholePeriod = refl
numbered code.ZeroCycle = refl
numbered code.LocalWithoutSpawn = refl

same_code : (c d : Code) → code_number c ≡ code_number d → c ≡ d
same_code c d e = grind (arith, numbered c, numbered d, ap (slice_get codes_in_order) e)

-- the order, on numbers
numbers_meet : (a b c d : ℕ) → (nat_lt a b || (nat_eq a b && nat_lt c d)) ≡ false → (nat_lt b a || (nat_eq b a && nat_lt d c)) ≡ false → (a ≡ b) × (c ≡ d)
numbers_meet a b c d p q = grind (arith, p, q)

pub same_refusal : (q r : Refusal) → is_before q r ≡ false → is_before r q ≡ false → q ≡ r
same_refusal q r e f =
    let m = numbers_meet q.at r.at (code_number q.code) (code_number r.code) e f in
    grind (arith, m.0, same_code q.code r.code m.1)

-- the order on pairs of numbers
not_before_numbers : (a b c x y z : ℕ) → (nat_lt b a || (nat_eq b a && nat_lt y x)) ≡ false → (nat_lt c b || (nat_eq c b && nat_lt z y)) ≡ false → (nat_lt c a || (nat_eq c a && nat_lt z x)) ≡ false
not_before_numbers a b c x y z p q = grind (arith, p, q)

before_numbers : (a b c x y z : ℕ) → (nat_lt b a || (nat_eq b a && nat_lt y x)) ≡ true → (nat_lt c b || (nat_eq c b && nat_lt z y)) ≡ true → (nat_lt c a || (nat_eq c a && nat_lt z x)) ≡ true
before_numbers a b c x y z p q = grind (arith, p, q)

not_both_numbers : (a b x y : ℕ) → (nat_lt b a || (nat_eq b a && nat_lt y x)) ≡ true → (nat_lt a b || (nat_eq a b && nat_lt x y)) ≡ false
not_both_numbers a b x y p = grind (arith, p)

not_itself_numbers : (a x : ℕ) → (nat_lt a a || (nat_eq a a && nat_lt x x)) ≡ false
not_itself_numbers a x = grind arith

-- the order on refusals
not_before : (a b c : Refusal) → is_before b a ≡ false → is_before c b ≡ false → is_before c a ≡ false
not_before a b c p q = not_before_numbers a.at b.at c.at (code_number a.code) (code_number b.code) (code_number c.code) p q

before_before : (a b c : Refusal) → is_before b a ≡ true → is_before c b ≡ true → is_before c a ≡ true
before_before a b c p q = before_numbers a.at b.at c.at (code_number a.code) (code_number b.code) (code_number c.code) p q

not_both : (s r : Refusal) → is_before s r ≡ true → is_before r s ≡ false
not_both s r p = not_both_numbers r.at s.at (code_number r.code) (code_number s.code) p

not_itself : (r : Refusal) → is_before r r ≡ false
not_itself r = not_itself_numbers r.at (code_number r.code)

grouped_some : (a b c : Refusal) (p q r : Bool) → is_before b a ≡ p → is_before c b ≡ q → is_before c a ≡ r
    → earlier (if p then Some b else Some a) (Some c) ≡ earlier (Some a) (if q then Some c else Some b)
grouped_some a b c true true r e f g = rw (f, before_before a b c e f) refl
grouped_some a b c true false r e f g = rw (f, e) refl
grouped_some a b c false true r e f g = refl
grouped_some a b c false false r e f g = rw (not_before a b c e f, e) refl

kept_alone : (a b : Refusal) (p : Bool) → earlier (if p then Some b else Some a) None ≡ (if p then Some b else Some a)
kept_alone a b true = refl
kept_alone a b false = refl

pub grouped : (a b c : Option Refusal) → earlier (earlier a b) c ≡ earlier a (earlier b c)
grouped None b c = refl
grouped (Some a) None c = refl
grouped (Some a) (Some b) None = kept_alone a b (is_before b a)
grouped (Some a) (Some b) (Some c) = grouped_some a b c (is_before b a) (is_before c b) (is_before c a) refl refl refl

not_true : true ≡ false → ⊥
not_true e = grind (arith, e)

exchanged_some : (a b : Refusal) (p q : Bool) → is_before b a ≡ p → is_before a b ≡ q → ◌≡◌ {A = Option Refusal} (if p then Some b else Some a) (if q then Some a else Some b)
exchanged_some a b true true e f = absurd (not_true (sym f ∙ not_both b a e))
exchanged_some a b true false e f = refl
exchanged_some a b false true e f = refl
exchanged_some a b false false e f = ap Some (same_refusal a b f e)

pub exchanged : (a b : Option Refusal) → earlier a b ≡ earlier b a
exchanged None None = refl
exchanged None (Some b) = refl
exchanged (Some a) None = refl
exchanged (Some a) (Some b) = exchanged_some a b (is_before b a) (is_before a b) refl refl

-- the first of two lists, one behind the other
pub first_of_both : (found more : List Refusal) → first_of (found ++ more) ≡ earlier (first_of found) (first_of more)
first_of_both [] more = refl
first_of_both (r ∷ rs) more = ap (earlier (Some r)) (first_of_both rs more) ∙ sym (grouped (Some r) (first_of rs) (first_of more))

-- the first of a list is the first in it
kept_or_passed : (r s : Refusal) (rs : List Refusal) (b : Bool) → is_before s r ≡ b → IsFirstIn rs s → IsFirstOf (r ∷ rs) (if b then Some s else Some r)
kept_or_passed r s rs true e f = record { listed = Contains-there r s rs f.listed; first = λ q c. go q (Contains-cases r q rs c) }
  where
    go : (q : Refusal) → (r ≡ q) ⊎ Contains rs q → is_before q s ≡ false
    go q (inl p) = subst (λ z. is_before z s ≡ false) p (not_both s r e)
    go q (inr c) = f.first q c
kept_or_passed r s rs false e f = record { listed = Contains-here r rs; first = λ q c. go q (Contains-cases r q rs c) }
  where
    go : (q : Refusal) → (r ≡ q) ⊎ Contains rs q → is_before q r ≡ false
    go q (inl p) = subst (λ z. is_before z r ≡ false) p (not_itself r)
    go q (inr c) = not_before r s q e (f.first q c)

with_first : (r : Refusal) (rs : List Refusal) (o : Option Refusal) → IsFirstOf rs o → IsFirstOf (r ∷ rs) (earlier (Some r) o)
with_first r rs None e = subst (λ z. IsFirstIn (r ∷ z) r) (sym e) (record { listed = Contains-here r []; first = λ q c. go q (Contains-cases r q [] c) })
  where
    go : (q : Refusal) → (r ≡ q) ⊎ Contains [] q → is_before q r ≡ false
    go q (inl p) = subst (λ z. is_before z r ≡ false) p (not_itself r)
    go q (inr c) = absurd (Contains-none q c)
with_first r rs (Some s) f = kept_or_passed r s rs (is_before s r) refl f

pub is_first : (found : List Refusal) → IsFirstOf found (first_of found)
is_first [] = refl
is_first (r ∷ rs) = with_first r rs (first_of rs) (is_first rs)

pub means_first : MeansFirst
means_first = record { is_first = is_first; grouped = grouped; exchanged = exchanged }
