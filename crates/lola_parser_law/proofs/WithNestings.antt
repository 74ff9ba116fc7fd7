-- The nesting before the one at which reading ended, where that one is always the next behind the first one too many.
use Rattle.std.proofs.Common.{◌≡◌, ℕ, ◌+◌, ◌≤◌, Bool, true, false, List, [], ◌∷◌, ◌++◌, length, Some, None, Err, refl, sym, ap, subst, ◌∙◌, append_assoc, arith, inl, inr}
use Rattle.std.proofs.lemmas.List.{append-nil, length-append}
use Rattle.lola_parser_grammar.specs.declared.declarations.Declaration.{Declaration}
use Rattle.lola_parser_grammar.specs.Syntax.{Lexeme, TooDeep, Syntax, Past, Token, Nesting, Whole, Known, Then, Map, Either, Maybe, Many, Fork, Spells, max_nestings, read_all}
use Rattle.lola_parser_grammar.specs.Nestings.{is_nesting, one_if, nestings_in}
use Rattle.lola_parser_grammar.specs.Exceeding.{ExceedsAmong}
use Rattle.lola_parser_grammar.proofs.Over.{last_is}
use Rattle.lola_parser.specs.Late.{IsNestingBehind, IsNextBehindBracket, NoneIsLate, IsDeepPlace, IsNextInEvery}
use Rattle.lola_parser.specs.Fronts.{IsLongestFront}
use Rattle.lola_parser.proofs.Levels.{counted_at}
use Rattle.lola_parser.proofs.Open.{specification_open}
use Rattle.lola_parser_grammar.specs.Grammar.{all_nestings, specification}
use Rattle.lola_parser_grammar.specs.Whole.{most_levels}
use Rattle.lola_parser_grammar.proofs.Fine.{specification_fine}
use Rattle.lola_parser.specs.Places.{Cut, cut_last}
use Rattle.lola_parser.proofs.Lacks.{cut_more, cut_here, not_here}
use Rattle.lola_parser.proofs.First.{IsBehindLast}
use Rattle.lola_parser.proofs.Last.{IsFirstOrLast, deep_is_first}

-- ---- the last nesting

no_nestings : (b : List Lexeme) → nestings_in all_nestings b ≡ 0 → cut_last all_nestings b ≡ None
no_nestings [] h = refl
no_nestings (t ∷ b) h = by (is_nesting all_nestings t) refl (λ k. no_nestings b k)
  where
    by : (c : Bool) → is_nesting all_nestings t ≡ c → (nestings_in all_nestings b ≡ 0 → cut_last all_nestings b ≡ None) → cut_last all_nestings (t ∷ b) ≡ None
    by true e f = absurd (omega (arith, h, ap (λ (c : Bool). one_if all_nestings c + nestings_in all_nestings b) e))
    by false e f = not_here all_nestings t b e (f (omega (arith, h)))

pub cut_is : (u a : List Lexeme) (m : Lexeme) (b : List Lexeme) → u ≡ a ++ m ∷ b → is_nesting all_nestings m ≡ true → nestings_in all_nestings b ≡ 0 → cut_last all_nestings u ≡ Some (a, m, b)
cut_is u a m b e nesting none =
    ap (cut_last all_nestings) e ∙ cut_more all_nestings a (m ∷ b) [] m b (cut_here all_nestings m b nesting (no_nestings b none)) ∙ ap (λ (z : List Lexeme). Some (z, m, b)) (append-nil a)

-- ---- it is the first one too many

abbrev LastLate : (List Lexeme → Lexeme → List Lexeme → Type 0) → List Lexeme → Lexeme → List Lexeme → Type 0
LastLate Q u t v = (a : List Lexeme) × (m : Lexeme) × (b : List Lexeme) × (u ≡ a ++ m ∷ b) × (is_nesting all_nestings m ≡ true) × (nestings_in all_nestings b ≡ 0) × Q a m (b ++ t ∷ v)

abbrev pub IsLastLate : {A : Type 0} → Syntax A → List Lexeme → Lexeme → List Lexeme → A → Type 0
IsLastLate s u t v x = LastLate (λ a m v. IsNestingBehind all_nestings max_nestings s a m v x) u t v

rest_of : (b : List Lexeme) (t : Lexeme) (v w z : List Lexeme) → v ≡ w ++ z → b ++ t ∷ v ≡ (b ++ t ∷ w) ++ z
rest_of b t v w z e = ap (λ (y : List Lexeme). b ++ t ∷ y) e ∙ sym (append_assoc b (t ∷ w) z)

front_of : (u w z a : List Lexeme) (m : Lexeme) (b : List Lexeme) → u ≡ w ++ z → z ≡ a ++ m ∷ b → u ≡ (w ++ a) ++ m ∷ b
front_of u w z a m b e f = e ∙ ap (λ (y : List Lexeme). w ++ y) f ∙ sym (append_assoc w a (m ∷ b))

last_among : {A : Type 0} (a : Syntax A) → ((u : List Lexeme) (t : Lexeme) (v : List Lexeme) (x : A) → IsNextBehindBracket all_nestings a u t v x → IsLastLate a u t v x)
    → (u : List Lexeme) (t : Lexeme) (v : List Lexeme) (xs : List A) → ExceedsAmong (IsNextBehindBracket all_nestings a) (Spells a) u t v xs → LastLate (λ p m v. ExceedsAmong (IsNestingBehind all_nestings max_nestings a) (Spells a) p m v xs) u t v
last_among a f u t v [] h = absurd h
last_among a f u t v (x ∷ xs) (inl h) = let r = f u t h.0 x h.3 in (r.0, r.1, r.2, r.3, r.4, r.5, inl (r.2 ++ t ∷ h.0, h.1, rest_of r.2 t v h.0 h.1 h.2, r.6, h.4))
last_among a f u t v (x ∷ xs) (inr h) = let r = last_among a f h.1 t v xs h.4 in (h.0 ++ r.0, r.1, r.2, front_of u h.0 h.1 r.0 r.1 r.2 h.2 r.3, r.4, r.5, inr (h.0, r.0, refl, h.3, r.6))

pub last_late : {A : Type 0} (s : Syntax A) (u : List Lexeme) (t : Lexeme) (v : List Lexeme) (x : A) → IsNextBehindBracket all_nestings s u t v x → IsLastLate s u t v x
unfolding IsNestingBehind IsNextBehindBracket
last_late (Past a) u t v x h = absurd h
last_late (Token k) u t v x h = absurd h
last_late (Nesting k) u t v x h = absurd h
last_late (Whole a) u t v x h = absurd h
last_late (Known fs ms a) u t v x h = last_late a u t v x h
last_late (Then a b) u t v x (inl h) = let r = last_late a u t h.0 x.0 h.3 in (r.0, r.1, r.2, r.3, r.4, r.5, inl (r.2 ++ t ∷ h.0, h.1, rest_of r.2 t v h.0 h.1 h.2, r.6, h.4))
last_late (Then a b) u t v x (inr h) = let r = last_late b h.1 t v x.1 h.4 in (h.0 ++ r.0, r.1, r.2, front_of u h.0 h.1 r.0 r.1 r.2 h.2 r.3, r.4, r.5, inr (h.0, r.0, refl, h.3, r.6))
last_late (Map f a) u t v y h = let r = last_late a u t v h.0 h.2 in (r.0, r.1, r.2, r.3, r.4, r.5, (h.0, h.1, r.6))
last_late (Either a b) u t v x (inl h) = let r = last_late a u t v x h in (r.0, r.1, r.2, r.3, r.4, r.5, inl r.6)
last_late (Either a b) u t v x (inr h) = let r = last_late b u t v x h in (r.0, r.1, r.2, r.3, r.4, r.5, inr r.6)
last_late (Maybe a) u t v None h = absurd h
last_late (Maybe a) u t v (Some x) h = let r = last_late a u t v x h in (r.0, r.1, r.2, r.3, r.4, r.5, r.6)
last_late (Many a) u t v xs h = last_among a (last_late a) u t v xs h
last_late (Fork ks a b c) u t v x (inl h) =
    let l = last_is all_nestings all_nestings (λ t. refl) u [] [] 511 (omega (arith, h.5)) in
    let whole : u ++ t ∷ h.0 ≡ l.0 ++ l.1 ∷ (l.2 ++ t ∷ h.0) = ap (λ (y : List Lexeme). y ++ t ∷ h.0) l.3 ∙ append_assoc l.0 (l.1 ∷ l.2) (t ∷ h.0) in
    (l.0, l.1, l.2, l.3, l.4, l.6, inl (inr (l.2 ++ t ∷ h.0, h.1, rest_of l.2 t v h.0 h.1 h.2, subst (λ (y : List Lexeme). Spells a y x.0) whole h.3, h.4, omega (arith, l.5), l.4)))
last_late (Fork ks a b c) u t v x (inr h) = let r = last_late b h.1 t v x.1 h.4 in (h.0 ++ r.0, r.1, r.2, front_of u h.0 h.1 r.0 r.1 r.2 h.2 r.3, r.4, r.5, inr (inl (h.0, r.0, refl, h.3, r.6)))

-- ---- the place

with_more : (p q u w : List Lexeme) (t : Lexeme) → p ≡ u ++ t ∷ w → p ++ q ≡ u ++ t ∷ (w ++ q)
with_more p q u w t e = ap (λ (y : List Lexeme). y ++ q) e ∙ append_assoc u (t ∷ w) q

-- two cuts at the last nesting
pub same_cut : (a b : List Lexeme) (m : Lexeme) (c d : List Lexeme) (k : Lexeme) → ◌≡◌ {A = Cut} (Some (a, m, b)) (Some (c, k, d)) → (a ≡ c) × (m ≡ k) × (b ≡ d)
same_cut a b m c d k e = (ap (part (λ x. x.0) a) e, ap (part (λ x. x.1) m) e, ap (part (λ x. x.2) b) e)
  where
    part : {B : Type 0} → (List Lexeme × Lexeme × List Lexeme → B) → B → Cut → B
    part f y None = y
    part f y (Some x) = f x

module _ (n : ℕ) (p u : List Lexeme) (t : Lexeme) (w : List Lexeme) (e : p ≡ u ++ t ∷ w) (a : List Lexeme) (m : Lexeme) (b : List Lexeme) (cut : cut_last all_nestings u ≡ Some (a, m, b)) (front : u ≡ a ++ m ∷ b)
    (each : (q : List Lexeme) (x : List Declaration) → Spells (specification n) (u ++ t ∷ (w ++ q)) x → IsBehindLast all_nestings (λ u t v. IsNextBehindBracket all_nestings (specification n) u t v x) (λ l. NoneIsLate all_nestings (specification n) l (u ++ t ∷ (w ++ q)) x) u t (w ++ q)) where
  regroup : (q : List Lexeme) → a ++ m ∷ ((b ++ t ∷ w) ++ q) ≡ u ++ t ∷ (w ++ q)
  regroup q = ap (λ (y : List Lexeme). a ++ m ∷ y) (append_assoc b (t ∷ w) q) ∙ sym (append_assoc a (m ∷ b) (t ∷ (w ++ q))) ∙ ap (λ (y : List Lexeme). y ++ t ∷ (w ++ q)) (sym front)

  late_there : (q : List Lexeme) (x : List Declaration) → Spells (specification n) (a ++ m ∷ ((b ++ t ∷ w) ++ q)) x → IsNestingBehind all_nestings max_nestings (specification n) a m ((b ++ t ∷ w) ++ q) x
  late_there q x g =
      let r = last_late (specification n) u t (w ++ q) x (each q x (subst (λ (y : List Lexeme). Spells (specification n) y x) (regroup q) g)).0 in
      let s = same_cut r.0 r.2 r.1 a b m (sym (cut_is u r.0 r.1 r.2 r.3 r.4 r.5) ∙ cut) in
      let tail : r.2 ++ t ∷ (w ++ q) ≡ (b ++ t ∷ w) ++ q = ap (λ (y : List Lexeme). y ++ t ∷ (w ++ q)) s.2 ∙ sym (append_assoc b (t ∷ w) q) in
      subst (λ (y : List Lexeme). IsNestingBehind all_nestings max_nestings (specification n) a m y x) tail
      (subst (λ (k : Lexeme). IsNestingBehind all_nestings max_nestings (specification n) a k (r.2 ++ t ∷ (w ++ q)) x) s.1 (subst (λ (y : List Lexeme). IsNestingBehind all_nestings max_nestings (specification n) y r.1 (r.2 ++ t ∷ (w ++ q)) x) s.0 r.6))

  nesting_is_deep : (q : List Lexeme) (x : List Declaration) → Spells (specification n) (p ++ q) x → IsDeepPlace all_nestings (specification n) a m (b ++ t ∷ w)
  nesting_is_deep q x h = (
    λ q x g. (max_nestings, omega arith, late_there q x g),
    λ u' t' w' same less late.
        let o = with_more p q u w t e in
        let k = each q x (subst (λ (y : List Lexeme). Spells (specification n) y x) o h) in
        let s = same_cut k.1 k.3 k.2 a b m (sym (cut_is u k.1 k.2 k.3 k.4 k.6 k.5) ∙ cut) in
        let whole : u ++ t ∷ (w ++ q) ≡ u' ++ t' ∷ (w' ++ q) = sym (regroup q) ∙ sym (append_assoc a (m ∷ (b ++ t ∷ w)) q) ∙ ap (λ (y : List Lexeme). y ++ q) same ∙ append_assoc u' (t' ∷ w') q in
        let l = late q x (subst (λ (y : List Lexeme). Spells (specification n) y x) whole (subst (λ (y : List Lexeme). Spells (specification n) y x) o h)) in
        let low = k.7 l.0 u' t' (w' ++ q) whole (omega (arith, less, ap length s.0)) l.2 in
        omega (arith, low, l.1),
  )

pub only_next : (n : ℕ) (u : List Lexeme) (t : Lexeme) (v : List Lexeme) (x : List Declaration) → IsNextBehindBracket all_nestings (specification n) u t v x → IsFirstOrLast all_nestings (specification n) u t v x
    → IsBehindLast all_nestings (λ u t v. IsNextBehindBracket all_nestings (specification n) u t v x) (λ l. NoneIsLate all_nestings (specification n) l (u ++ t ∷ v) x) u t v
only_next n u t v x h (inr b) = b
only_next n u t v x h (inl f) = let l = last_late (specification n) u t v x h in let less = f.1 max_nestings l.0 l.1 (l.2 ++ t ∷ v) (ap (λ (y : List Lexeme). y ++ t ∷ v) l.3 ∙ append_assoc l.0 (l.1 ∷ l.2) (t ∷ v)) (omega (arith, ap length l.3, length-append l.0 (l.1 ∷ l.2))) l.6 in absurd (omega (arith, less))

pub next_is_deep : (n : ℕ) (ts p rest u : List Lexeme) (t : Lexeme) (w : List Lexeme) → IsLongestFront (specification n) ts p rest → p ≡ u ++ t ∷ w
    → ((q : List Lexeme) (x : List Declaration) → Spells (specification n) (u ++ t ∷ (w ++ q)) x → IsFirstOrLast all_nestings (specification n) u t (w ++ q) x) → IsNextInEvery all_nestings (specification n) u t w
    → (a : List Lexeme) × (m : Lexeme) × (b : List Lexeme) × (cut_last all_nestings u ≡ Some (a, m, b)) × (u ≡ a ++ m ∷ b) × IsDeepPlace all_nestings (specification n) a m (b ++ t ∷ w)
next_is_deep n ts p rest u t w l e each next =
    let g = subst (λ (y : List Lexeme). Spells (specification n) y l.1.1) (with_more p l.1.0 u w t e) l.1.2 in
    let c = last_late (specification n) u t (w ++ l.1.0) l.1.1 (next l.1.0 l.1.1 g) in
    let cut = cut_is u c.0 c.1 c.2 c.3 c.4 c.5 in
    (c.0, c.1, c.2, cut, c.3, nesting_is_deep n p u t w e c.0 c.1 c.2 cut c.3 (λ q x k. only_next n u t (w ++ q) x (next q x k) (each q x k)) l.1.0 l.1.1 l.1.2)

pub behind_next : (n : ℕ) → most_levels ≤ n → (ts d p rest : List Lexeme) → read_all (specification n) ts ≡ Err (TooDeep d) → IsLongestFront (specification n) ts p rest
    → (u : List Lexeme) × (t : Lexeme) × (w : List Lexeme) × (p ≡ u ++ t ∷ w) × (d ≡ t ∷ (w ++ rest))
    × (IsNextInEvery all_nestings (specification n) u t w → (a : List Lexeme) × (m : Lexeme) × (b : List Lexeme) × (cut_last all_nestings u ≡ Some (a, m, b)) × IsDeepPlace all_nestings (specification n) a m (b ++ t ∷ w))
behind_next n le ts d p rest h l =
    let f = deep_is_first all_nestings (specification n) (specification_fine n) (counted_at n le) (specification_open n) ts d p rest h l in (
      f.0,
      f.1,
      f.2,
      f.3,
      f.4,
      λ next. let c = next_is_deep n ts p rest f.0 f.1 f.2 l f.3 f.5 next in (c.0, c.1, c.2, c.3, c.5),
    )
