-- Where the bracketed expression goes past the nesting at which reading ended and ends at a bracket, that nesting is always the next.
use Rattle.std.proofs.Common.{◌≡◌, ℕ, suc, ◌-◌, ◌<◌, Bool, true, false, nat_lt, cond, List, [], ◌∷◌, ◌++◌, length, Option, Some, None, refl, sym, ap, subst, ◌∙◌, append_assoc, arith, inl, inr}
use Rattle.std.proofs.lemmas.List.{length-append}
use Rattle.std.proofs.lemmas.Bool.{ltb-true, and_parts, or_cases}
use Rattle.lola_lexer.specs.declared.shape.TokenShape.TheVariants as is
use Rattle.lola_parser_grammar.specs.declared.expressions.Expr.{Expr}
use Rattle.lola_parser_grammar.specs.declared.declarations.Declaration.{Declaration}
use Rattle.lola_parser_grammar.specs.Syntax.{Lexeme, Terminal, Of, any_fits, fits, apart, same_shape, starts, within, Syntax, Past, Token, Nesting, Whole, Known, Then, Map, Either, Maybe, Many, Fork, Spells, Begins, first, nullable, more, is_fine, max_nestings}
use Rattle.lola_parser_grammar.specs.Nestings.{is_nesting, nestings_in}
use Rattle.lola_parser_grammar.specs.Exceeding.{ExceedsAmong}
use Rattle.lola_parser_grammar.proofs.Tests.{apart_excludes}
use Rattle.lola_parser_grammar.proofs.Complete.{and_three, choice_parts, known_parts, fork_is, fork_follows}
use Rattle.lola_parser_grammar.proofs.Exactly.{opens_part}
use Rattle.lola_parser.specs.Late.{IsNestingBehind, IsNextBehindBracket}
use Rattle.lola_parser.specs.Fronts.{IsLongestFront}
use Rattle.lola_parser.proofs.Opening.{is_open, first_begins}
use Rattle.lola_parser.proofs.Placed.{fronts, in_front}
use Rattle.lola_parser.proofs.Free.{unique}
use Rattle.lola_parser_grammar.specs.Grammar as g
use Rattle.lola_parser_grammar.specs.Grammar.{expr_in, expr_goes_on, all_nestings, specification}
use Rattle.lola_parser_grammar.proofs.Fine.{whole_fine, parts_fine, more_parts_first, one_part_first}
use Rattle.lola_parser.specs.Turns.{Left, shape}
use Rattle.lola_parser.specs.Skims.{skim}
use Rattle.lola_parser.specs.Places.{Cut, cut_at, cut_last, clause_words, is_spawn, behind_with, behind_bracket, ends_within, is_enclosed}
use Rattle.lola_parser.proofs.Skims.{leaves}
use Rattle.lola_parser_law.specs.Law.{IsEnclosedBehind}
use Rattle.lola_parser_law.proofs.Around.{NotEval, OpensNext, IsAround, around_specification}
use Rattle.lola_parser_law.proofs.InList.{deeper, shut_stops}
use Rattle.lola_parser.proofs.Last.{IsFirstOrLast}
use Rattle.lola_parser_law.proofs.WithNestings.{same_cut}

-- ---- what a cut says

abbrev CutAt : List Terminal → List Lexeme → List Lexeme → Lexeme → List Lexeme → Type 0
CutAt ks u a m b = (u ≡ a ++ m ∷ b) × (any_fits ks m ≡ true)

moved_cut : (ks : List Terminal) (u a a' : List Lexeme) (m m' : Lexeme) (b b' : List Lexeme) → a ≡ a' → m ≡ m' → b ≡ b' → CutAt ks u a m b → CutAt ks u a' m' b'
moved_cut ks u a a' m m' b b' e f i h =
    subst (λ (y : List Lexeme). CutAt ks u a' m' y) i (subst (λ (y : Lexeme). CutAt ks u a' y b) f (subst (λ (y : List Lexeme). CutAt ks u y m b) e h))

cut_inv : (ks : List Terminal) (u a : List Lexeme) (m : Lexeme) (b : List Lexeme) → cut_last ks u ≡ Some (a, m, b) → CutAt ks u a m b
cut_inv ks [] a m b h = absurd cc
cut_inv ks (t ∷ u) a m b h = by (cut_last ks u) (any_fits ks t) refl h (λ c k d e. cut_inv ks u c k d e)
  where
    by : (o : Cut) (c : Bool) → any_fits ks t ≡ c → cut_at t o c u ≡ Some (a, m, b) → ((c' : List Lexeme) (k : Lexeme) (d : List Lexeme) → o ≡ Some (c', k, d) → CutAt ks u c' k d) → CutAt ks (t ∷ u) a m b
    by (Some k) c f e rec =
        let s = same_cut (t ∷ k.0) k.2 k.1 a b m e in
        let r = rec k.0 k.1 k.2 refl in
        moved_cut ks (t ∷ u) (t ∷ k.0) a k.1 m k.2 b s.0 s.1 s.2 (ap (λ (y : List Lexeme). t ∷ y) r.0, r.1)
    by None true f e rec = let s = same_cut [] u t a b m e in moved_cut ks (t ∷ u) [] a t m u b s.0 s.1 s.2 (refl, f)
    by None false f e rec = absurd cc

one_of : (k : Terminal) (t : Lexeme) → any_fits (k ∷ []) t ≡ true → fits k t ≡ true
one_of k t h = elim (or_cases (fits k t) false h) [ inl e ↦ e | inr e ↦ absurd cc ]

there : (k : Terminal) (t : Lexeme) → fits k t ≡ true → any_fits (k ∷ []) t ≡ true
there k t h = rw h refl

cond_some : {A : Type 0} (b : Bool) (o : Option A) (x : A) → cond b o None ≡ Some x → (b ≡ true) × (o ≡ Some x)
cond_some true o x h = (refl, h)
cond_some false o x h = absurd cc

same_some : (r s : List Lexeme) → ◌≡◌ {A = Left} (Some r) (Some s) → r ≡ s
same_some r s h = cc

open_inv : (y head : List Lexeme) → shape is.Open y ≡ Some head → (o : Lexeme) × (y ≡ o ∷ head) × (fits (Of is.Open) o ≡ true)
open_inv [] head h = absurd cc
open_inv (t ∷ r) head h = let c = cond_some (any_fits (Of is.Open ∷ []) t) (Some r) head h in (t, ap (λ (y : List Lexeme). t ∷ y) (same_some r head c.1), one_of (Of is.Open) t c.0)

spawn_apart : apart (Of is.Spawn ∷ []) (Of is.Eval ∷ []) ≡ true
unfolding same_shape
spawn_apart = refl

not_eval : (pre : List Lexeme) → is_spawn (cut_last clause_words pre) ≡ true → NotEval pre
not_eval pre h a k b e f = apart_excludes (Of is.Spawn ∷ []) (Of is.Eval ∷ []) k spawn_apart (there (Of is.Spawn) k (sym (ap is_spawn e) ∙ h)) (there (Of is.Eval) k f)

abbrev Bracket : List Lexeme → List Lexeme → Type 0
Bracket u head = (pre : List Lexeme) × (wt : Lexeme) × (o : Lexeme) × (u ≡ pre ++ wt ∷ (o ∷ head)) × (fits (Of is.With) wt ≡ true) × (fits (Of is.Open) o ≡ true) × NotEval pre

bracket_inv : (u head : List Lexeme) → behind_bracket u ≡ Some head → Bracket u head
bracket_inv u head h = by (cut_last (Of is.With ∷ []) u) refl h
  where
    by : (c : Cut) → cut_last (Of is.With ∷ []) u ≡ c → behind_with c ≡ Some head → Bracket u head
    by None e i = absurd cc
    by (Some c) e i =
        let k = cond_some (is_spawn (cut_last clause_words c.0)) (shape is.Open c.2) head i in
        let o = open_inv c.2 head k.1 in
        let v = cut_inv (Of is.With ∷ []) u c.0 c.1 c.2 e in
        (c.0, c.1, o.0, v.0 ∙ ap (λ (y : List Lexeme). c.0 ++ c.1 ∷ y) o.1, one_of (Of is.With) c.1 v.1, o.2, not_eval c.0 k.0)

-- ---- the expression

abbrev Ending : ℕ → List Lexeme → Lexeme → List Lexeme → Type 0
Ending n head t d = (w : List Lexeme) × (s : Lexeme) × (y : List Lexeme) × (e : Expr) × (d ≡ w ++ s ∷ y) × (fits (Of is.Shut) s ≡ true) × Spells (expr_in n) (head ++ t ∷ w) e

of_front : (n : ℕ) (head : List Lexeme) (t : Lexeme) (d k : List Lexeme) (y : List Lexeme) (e : Expr) → t ∷ d ≡ k ++ y → length y < suc (length d) → starts (Of is.Shut ∷ []) y ≡ true → Spells (expr_in n) (head ++ k) e → Ending n head t d
of_front n head t d [] y e same less shut h = absurd (omega (arith, less, ap length same))
of_front n head t d (x ∷ k) [] e same less shut h = absurd cc
of_front n head t d (x ∷ k) (s ∷ y) e same less shut h =
    let token : x ≡ t = cc in
    let tail : d ≡ k ++ s ∷ y = cc in
    (k, s, y, e, tail, one_of (Of is.Shut) s shut, subst (λ (z : Lexeme). Spells (expr_in n) (head ++ z ∷ k) e) token h)

ending : (n : ℕ) (head : List Lexeme) (t : Lexeme) (d : List Lexeme) → length (head ++ t ∷ d) < n → is_enclosed head (t ∷ d) ≡ true → Ending n head t d
ending n head t d less h = by (skim (expr_in (suc (length (head ++ t ∷ d)))) (head ++ t ∷ d)) refl h
  where
    by : (o : Left) → skim (expr_in (suc (length (head ++ t ∷ d)))) (head ++ t ∷ d) ≡ o → ends_within (suc (length d)) o ≡ true → Ending n head t d
    by None e i = absurd cc
    by (Some y) e i =
        let k = suc (length (head ++ t ∷ d)) in
        let b = and_parts (nat_lt (length y) (suc (length d))) (starts (Of is.Shut ∷ []) y) i in
        let short : length y < suc (length d) = ltb-true (length y) (suc (length d)) b.0 in
        let left : skim (expr_in n) (head ++ t ∷ d) ≡ Some y = sym (deeper (n - k) k n (head ++ t ∷ d) (omega (arith, less)) (omega arith)) ∙ e in
        let l = leaves (expr_in n) (head ++ t ∷ d) y left in
        elim (fronts head (t ∷ d) l.0 y l.2) [
          | inl f ↦ of_front n head t d f.0 y l.1 f.2 short b.1 (subst (λ (z : List Lexeme). Spells (expr_in n) z l.1) f.1 l.3)
          | inr f ↦ absurd (omega (arith, short, ap length f.3, length-append f.1 (t ∷ d)))
        ]

-- ---- a nesting is one

among_nesting : {A : Type 0} (P : List Lexeme → A → Type 0) (Q : List Lexeme → Lexeme → List Lexeme → A → Type 0) → ((u : List Lexeme) (t : Lexeme) (v : List Lexeme) (x : A) → Q u t v x → is_nesting all_nestings t ≡ true)
    → (u : List Lexeme) (t : Lexeme) (v : List Lexeme) (xs : List A) → ExceedsAmong Q P u t v xs → is_nesting all_nestings t ≡ true
among_nesting P Q f u t v [] h = absurd h
among_nesting P Q f u t v (x ∷ xs) (inl h) = f u t h.0 x h.3
among_nesting P Q f u t v (x ∷ xs) (inr h) = among_nesting P Q f h.1 t v xs h.4

nesting_is : {A : Type 0} (s : Syntax A) (k : ℕ) (u : List Lexeme) (t : Lexeme) (v : List Lexeme) (x : A) → IsNestingBehind all_nestings k s u t v x → is_nesting all_nestings t ≡ true
unfolding IsNestingBehind
nesting_is (Past a) k u t v x h = absurd h
nesting_is (Token c) k u t v x h = absurd h
nesting_is (Nesting c) k u t v x h = absurd h
nesting_is (Whole a) k u t v x h = h.2
nesting_is (Known fs ms a) k u t v x h = nesting_is a k u t v x h
nesting_is (Then a b) k u t v x (inl h) = nesting_is a k u t h.0 x.0 h.3
nesting_is (Then a b) k u t v x (inr h) = nesting_is b k h.1 t v x.1 h.4
nesting_is (Map f a) k u t v y h = nesting_is a k u t v h.0 h.2
nesting_is (Either a b) k u t v x (inl h) = nesting_is a k u t v x h
nesting_is (Either a b) k u t v x (inr h) = nesting_is b k u t v x h
nesting_is (Maybe a) k u t v None h = absurd h
nesting_is (Maybe a) k u t v (Some x) h = nesting_is a k u t v x h
nesting_is (Many a) k u t v xs h = among_nesting (Spells a) (IsNestingBehind all_nestings k a) (nesting_is a k) u t v xs h
nesting_is (Fork ks a b c) k u t v x (inl (inl h)) = h.6
nesting_is (Fork ks a b c) k u t v x (inl (inr h)) = h.6
nesting_is (Fork ks a b c) k u t v x (inr (inl h)) = nesting_is b k h.1 t v x.1 h.4
nesting_is (Fork ks a b c) k u t v x (inr (inr h)) = h.6

-- ---- what stands behind the bracket

cancel : (p a b : List Lexeme) → p ++ a ≡ p ++ b → a ≡ b
cancel [] a b e = e
cancel (t ∷ p) a b e = let k : p ++ a ≡ p ++ b = cc in cancel p a b k

inner_fine : {A B C : Type 0} (fs ms : List Terminal) (f : A × B → C) (a : Syntax A) (b : Syntax B) (c : Syntax C) → is_fine (Known fs ms (Either (Map f (Then a b)) c)) ≡ true → is_fine b ≡ true
unfolding is_fine
inner_fine fs ms f a b c h =
    let s = Either (Map f (Then a b)) c in
    let k = known_parts (is_fine s) (nullable s) (within (first s) fs) (within (more s) ms) h in
    let m = Map f (Then a b) in
    let e = choice_parts (is_fine m) (is_fine c) (nullable m) (nullable c) (apart (first m) (first c)) k.0 in
    let t = and_three (is_fine a) (is_fine b) (apart (more a) (first b)) e.0 in
    t.1

module _ (n : ℕ) where
  forked_fine : is_fine (g.forked n) ≡ true
  unfolding g.parts
  forked_fine = inner_fine g.expr_begins g.expr_goes_on _ (g.token is.Open) (g.forked n) _ (parts_fine n)

  expr_fine : is_fine (expr_in n) ≡ true
  unfolding is_fine g.whole
  expr_fine = whole_fine n

  one_open : is_open (g.one_part n) ≡ true
  unfolding is_open first nullable same_shape g.one_part g.closed g.token
  one_open = refl

  comma_apart : apart (Of is.Comma ∷ []) (Of is.Shut ∷ []) ≡ true
  unfolding same_shape
  comma_apart = refl

  opens_next : (o : Lexeme) (y : List Lexeme) → fits (Of is.Open) o ≡ true → OpensNext (o ∷ y)
  opens_next o y h o' r e = let same : o ≡ o' = cc in subst (λ (s : Lexeme). fits (Of is.Open) s ≡ true) same h

  module _ (u : List Lexeme) (t : Lexeme) (head : List Lexeme) (b : Bracket u head) (w : List Lexeme) (s : Lexeme) (e : Expr) (shut : fits (Of is.Shut) s ≡ true) (hs : Spells (expr_in n) (head ++ t ∷ w) e) where
    by_bracket : (y : List Lexeme) → u ++ y ≡ b.0 ++ b.1 ∷ (b.2 ∷ (head ++ y))
    by_bracket y = ap (λ (z : List Lexeme). z ++ y) b.3 ∙ append_assoc b.0 (b.1 ∷ (b.2 ∷ head)) y

    around : (v : List Lexeme) (x : List Declaration) → Spells (specification n) (u ++ v) x → IsAround n (specification n) (u ++ v) b.0 b.1 x
    around v x h = around_specification n (u ++ v) x h b.0 b.1 (b.2 ∷ (head ++ v)) (by_bracket v) b.4 (opens_next b.2 (head ++ v) b.5) b.6

    same_inside : (v : List Lexeme) (x : List Declaration) → (r : IsAround n (specification n) (u ++ v) b.0 b.1 x) → (b.2 ≡ r.0) × (head ++ v ≡ r.1 ++ r.2)
    same_inside v x r =
        let k = cancel b.0 (b.1 ∷ (b.2 ∷ (head ++ v))) (b.1 ∷ (r.0 ∷ (r.1 ++ r.2))) (sym (by_bracket v) ∙ r.4) in
        let one : b.2 ≡ r.0 = cc in
        let two : head ++ v ≡ r.1 ++ r.2 = cc in
        (one, two)

    -- the tokens up to the bracket behind the expression begin a sentence
    begins_so : (v : List Lexeme) (x : List Declaration) → Spells (specification n) (u ++ v) x → Begins (specification n) (u ++ t ∷ (w ++ s ∷ []))
    unfolding g.forked Spells
    begins_so v x h =
        let r = around v x h in
        let i = same_inside v x r in
        let o = first_begins (g.one_part n) one_open s (ap (λ (ks : List Terminal). any_fits ks s) (one_part_first n) ∙ there (Of is.Shut) s shut) in
        let other = (head ++ t ∷ w) ++ (s ∷ o.0) in
        let p = r.6 other (e, o.1) (head ++ t ∷ w, s ∷ o.0, refl, hs, inr o.2) in
        let end = o.0 ++ r.2 in
        let left : (u ++ t ∷ (w ++ s ∷ [])) ++ end ≡ b.0 ++ b.1 ∷ (b.2 ∷ (head ++ t ∷ (w ++ s ∷ end))) =
        append_assoc u (t ∷ (w ++ s ∷ [])) end ∙ ap (λ (y : List Lexeme). u ++ t ∷ y) (append_assoc w (s ∷ []) end) ∙ by_bracket (t ∷ (w ++ s ∷ end)) in
        let right : other ++ r.2 ≡ head ++ t ∷ (w ++ s ∷ end) = append_assoc (head ++ t ∷ w) (s ∷ o.0) r.2 ∙ append_assoc head (t ∷ w) (s ∷ end) in
        let whole : b.0 ++ b.1 ∷ (r.0 ∷ (other ++ r.2)) ≡ (u ++ t ∷ (w ++ s ∷ [])) ++ end =
        ap (λ (y : List Lexeme). b.0 ++ b.1 ∷ (r.0 ∷ y)) right ∙ ap (λ (y : Lexeme). b.0 ++ b.1 ∷ (y ∷ (head ++ t ∷ (w ++ s ∷ end)))) (sym i.0) ∙ sym left in
        (end, p.0, subst (λ (y : List Lexeme). Spells (specification n) y p.0) whole p.1)

    -- where they are followed by more, t is the next
    next_so : (y : List Lexeme) (x : List Declaration) → nestings_in all_nestings head ≡ max_nestings → is_nesting all_nestings t ≡ true → Spells (specification n) (u ++ t ∷ (w ++ s ∷ y)) x → IsNextBehindBracket all_nestings (specification n) u t (w ++ s ∷ y) x
    unfolding g.forked Spells IsNextBehindBracket more
    next_so y x many nesting h =
        let r = around (t ∷ (w ++ s ∷ y)) x h in
        let i = same_inside (t ∷ (w ++ s ∷ y)) x r in
        let f = fork_is all_nestings (expr_in n) (g.more_parts n) (g.one_part n) forked_fine in
        let k = r.5 in
        let both : (head ++ t ∷ w) ++ (s ∷ y) ≡ k.0 ++ (k.1 ++ r.2) = append_assoc head (t ∷ w) (s ∷ y) ∙ i.1 ∙ ap (λ (z : List Lexeme). z ++ r.2) k.2 ∙ append_assoc k.0 k.1 r.2 in
        let p = unique (expr_in n) expr_fine (head ++ t ∷ w) k.0 e r.3.0 (s ∷ y) (k.1 ++ r.2) hs k.3 (shut_stops (s ∷ y) (there (Of is.Shut) s shut)) (fork_follows expr_goes_on (g.more_parts n) (g.one_part n) f.one f.two k.1 r.3.1 r.2 k.4) both in
        let front : b.0 ++ b.1 ∷ (r.0 ∷ head) ≡ u = ap (λ (z : Lexeme). b.0 ++ b.1 ∷ (z ∷ head)) (sym i.0) ∙ sym b.3 in
        let back : (w ++ k.1) ++ r.2 ≡ w ++ s ∷ y = append_assoc w k.1 r.2 ∙ ap (λ (z : List Lexeme). w ++ z) (sym p.1) in
        elim k.4 [
          | inl hb ↦
              let o = opens_part all_nestings (g.more_parts n) f.one.0 f.one.1 k.1 r.3.1 r.2 hb in
              let c : any_fits (Of is.Comma ∷ []) s ≡ true = ap (λ (ks : List Terminal). any_fits ks s) (sym (more_parts_first n)) ∙ ap (starts (first (g.more_parts n))) p.1 ∙ o in
              absurd (apart_excludes (Of is.Comma ∷ []) (Of is.Shut ∷ []) s comma_apart c (there (Of is.Shut) s shut))
          | inr hc ↦
              let next = r.7 head t (w ++ k.1) (inl (w, k.1, refl, subst (λ (z : List Lexeme). Spells (expr_in n) z r.3.0) (sym p.0) k.3, hc, many, nesting)) in
              subst (λ (z : List Lexeme). IsNextBehindBracket all_nestings (specification n) u t z x) back (subst (λ (z : List Lexeme). IsNextBehindBracket all_nestings (specification n) z t ((w ++ k.1) ++ r.2) x) front next)
        ]

-- in a sentence whose reading ended at t
pub enclosed_is_next : (n : ℕ) (u : List Lexeme) (t : Lexeme) (v : List Lexeme) (x : List Declaration) → length (u ++ t ∷ v) < n → IsEnclosedBehind u (t ∷ v) → IsFirstOrLast all_nestings (specification n) u t v x → Spells (specification n) (u ++ t ∷ v) x
    → IsNextBehindBracket all_nestings (specification n) u t v x
enclosed_is_next n u t v x less h (inr c) g = c.0
enclosed_is_next n u t v x less h (inl c) g =
    let head = h.0 in
    let b = bracket_inv u head h.1 in
    let size = b.0 ++ b.1 ∷ (b.2 ∷ []) in
    let parts : u ≡ size ++ head = b.3 ∙ sym (append_assoc b.0 (b.1 ∷ (b.2 ∷ [])) head) in
    let short : length (head ++ t ∷ v) < n = omega (arith, less, length-append u (t ∷ v), ap length parts, length-append size head, length-append head (t ∷ v)) in
    let k = ending n head t v short h.3 in
    let nesting = nesting_is (specification n) max_nestings u t v x c.0 in
    subst (λ (y : List Lexeme). IsNextBehindBracket all_nestings (specification n) u t y x) (sym k.4)
    (next_so n u t head b k.0 k.1 k.3 k.5 k.6 k.2 x h.2 nesting (subst (λ (y : List Lexeme). Spells (specification n) (u ++ t ∷ y) x) k.4 g))

pub next_in_every : (n : ℕ) (ts p rest u : List Lexeme) (t : Lexeme) (w : List Lexeme) → length ts < n → IsLongestFront (specification n) ts p rest → p ≡ u ++ t ∷ w → IsEnclosedBehind u (t ∷ (w ++ rest))
    → ((q : List Lexeme) (x : List Declaration) → Spells (specification n) (u ++ t ∷ (w ++ q)) x → IsFirstOrLast all_nestings (specification n) u t (w ++ q) x)
    → (q : List Lexeme) (x : List Declaration) → Spells (specification n) (u ++ t ∷ (w ++ q)) x → IsNextBehindBracket all_nestings (specification n) u t (w ++ q) x
next_in_every n ts p rest u t w less l e h each q x g =
    let head = h.0 in
    let b = bracket_inv u head h.1 in
    let text : ts ≡ u ++ t ∷ (w ++ rest) = l.0 ∙ ap (λ (y : List Lexeme). y ++ rest) e ∙ append_assoc u (t ∷ w) rest in
    let size = b.0 ++ b.1 ∷ (b.2 ∷ []) in
    let parts : u ≡ size ++ head = b.3 ∙ sym (append_assoc b.0 (b.1 ∷ (b.2 ∷ [])) head) in
    let short : length (head ++ t ∷ (w ++ rest)) < n = omega (arith, less, ap length text, length-append u (t ∷ (w ++ rest)), ap length parts, length-append size head, length-append head (t ∷ (w ++ rest))) in
    let k = ending n head t (w ++ rest) short h.3 in
    let zz = u ++ t ∷ (k.0 ++ k.1 ∷ []) in
    let first : Spells (specification n) (u ++ t ∷ (w ++ l.1.0)) l.1.1 = subst (λ (y : List Lexeme). Spells (specification n) y l.1.1) (ap (λ (y : List Lexeme). y ++ l.1.0) e ∙ append_assoc u (t ∷ w) l.1.0) l.1.2 in
    let so = begins_so n u t head b k.0 k.1 k.3 k.5 k.6 (t ∷ (w ++ l.1.0)) l.1.1 first in
    let group : (y : List Lexeme) → zz ++ y ≡ u ++ t ∷ (k.0 ++ k.1 ∷ y) = λ y. append_assoc u (t ∷ (k.0 ++ k.1 ∷ [])) y ∙ ap (λ (z : List Lexeme). u ++ t ∷ z) (append_assoc k.0 (k.1 ∷ []) y) in
    let whole : zz ++ k.2 ≡ p ++ rest = group k.2 ∙ ap (λ (z : List Lexeme). u ++ t ∷ z) (sym k.4) ∙ sym text ∙ l.0 in
    let f = in_front (specification n) zz k.2 p rest so (whole, l.1, l.2) in
    let tails : t ∷ w ≡ t ∷ (k.0 ++ k.1 ∷ f.0) = cancel u (t ∷ w) (t ∷ (k.0 ++ k.1 ∷ f.0)) (sym e ∙ f.1 ∙ group f.0) in
    let tail : w ≡ k.0 ++ k.1 ∷ f.0 = cc in
    let back : k.0 ++ k.1 ∷ (f.0 ++ q) ≡ w ++ q = sym (append_assoc k.0 (k.1 ∷ f.0) q) ∙ ap (λ (y : List Lexeme). y ++ q) (sym tail) in
    elim (each q x g) [
      | inr c ↦ c.0
      | inl c ↦
          let nesting = nesting_is (specification n) max_nestings u t (w ++ q) x c.0 in
          subst (λ (y : List Lexeme). IsNextBehindBracket all_nestings (specification n) u t y x) back
          (next_so n u t head b k.0 k.1 k.3 k.5 k.6 (f.0 ++ q) x h.2 nesting (subst (λ (y : List Lexeme). Spells (specification n) (u ++ t ∷ y) x) (sym back) g))
    ]
