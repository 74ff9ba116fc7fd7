-- From tests of all parts of whole expressions to what the definitions of a specification ask for.
use Rattle.std.proofs.Common.{◌≡◌, ◌<◌, ◌+◌, ℕ, suc, arith, refl, ap, ◌∙◌, subst, Bool, true, ◌&&◌, List, [], ◌∷◌, ◌++◌, Option, Some, None, slice_get, unwrap_or, drop, length, nat_lt}
use Rattle.std.proofs.lemmas.Bool.Decides.{nat_tests}
use Rattle.std.proofs.lemmas.Bool.{and_from}
use Rattle.lola_value.specs.declared.value.Kind.{Kind}
use Rattle.lola_value.specs.declared.value.Kind.TheVariants as kind
use Rattle.lola_model.specs.Accepted.{IsInRange, AreInRange, IsWhenInRange, IsWithInRange, IsClauseInRange, AreClausesInRange, AreTargetsInRange}
use Rattle.lola_model.specs.Named.{is_read_of, is_window_onto, is_resolved, all_numbers, counted, all_windows}
use Rattle.lola_model.specs.Parts.{listed, listed_all, listed_when, listed_with, listed_clause, listed_stream, listed_streams}
use Rattle.lola_model.specs.Typing.{each_part, each_argument, count_of}
use Rattle.lola_model.specs.Wholes.{Whole, condition_wholes, with_wholes, clause_wholes, stream_wholes, wholes_from, all_wholes}
use Rattle.lola_model.specs.declared.expr.Expr.{Expr}
use Rattle.lola_model.specs.declared.expr.Expr.TheVariants.{Literal, Parameter, Read, Window, Defaults', Unary', Both', Choice'}
use Rattle.lola_model.specs.declared.expr.Arguments.{Arguments}
use Rattle.lola_model.specs.declared.expr.Arguments.TheVariants.{End, More'}
use Rattle.lola_model.specs.declared.spec.Clause.{Clause}
use Rattle.lola_model.specs.declared.spec.Part.{Part}
use Rattle.lola_model.specs.declared.spec.Part.TheVariants as part
use Rattle.lola_model.specs.declared.spec.Spec.{Spec}
use Rattle.lola_model.specs.declared.spec.Stream.{Stream}
use Rattle.lola_model.specs.declared.spec.WindowSpec.{WindowSpec}
use Rattle.lola_names.proofs.Basics.{left_of, right_of, never_back, slice_there}

-- wholes, taken apart

pub wholes_left : (f : Whole → Bool) (xs ys : List Whole) → all_wholes f (xs ++ ys) ≡ true → all_wholes f xs ≡ true
wholes_left f [] ys h = refl
wholes_left f (x ∷ xs) ys h = and_from (f x) (all_wholes f xs) (left_of (f x) (all_wholes f (xs ++ ys)) h) (wholes_left f xs ys (right_of (f x) (all_wholes f (xs ++ ys)) h))

pub wholes_right : (f : Whole → Bool) (xs ys : List Whole) → all_wholes f (xs ++ ys) ≡ true → all_wholes f ys ≡ true
wholes_right f [] ys h = h
wholes_right f (x ∷ xs) ys h = wholes_right f xs ys (right_of (f x) (all_wholes f (xs ++ ys)) h)

-- a test that implies another
pub wholes_weaker : (f g : Whole → Bool) → ((w : Whole) → f w ≡ true → g w ≡ true) → (ws : List Whole) → all_wholes f ws ≡ true → all_wholes g ws ≡ true
wholes_weaker f g h [] k = refl
wholes_weaker f g h (w ∷ ws) k = and_from (g w) (all_wholes g ws) (h w (left_of (f w) (all_wholes f ws) k)) (wholes_weaker f g h ws (right_of (f w) (all_wholes f ws) k))

pub numbers_both : (f : ℕ → Bool) (xs ys : List ℕ) → all_numbers f xs ≡ true → all_numbers f ys ≡ true → all_numbers f (xs ++ ys) ≡ true
numbers_both f [] ys h k = k
numbers_both f (x ∷ xs) ys h k = and_from (f x) (all_numbers f (xs ++ ys)) (left_of (f x) (all_numbers f xs) h) (numbers_both f xs ys (right_of (f x) (all_numbers f xs) h) k)

-- what is listed of parts

module _ (f : ℕ → Bool) (g : Expr → List ℕ) where
  abbrev passes : Expr → Bool
  passes e = all_numbers f (g e)

  mutual
    -- numbers that each part lists pass, so the whole's do
    pub each_listed : (e : Expr) → each_part passes e ≡ true → all_numbers f (listed g e) ≡ true
    each_listed (Literal place v) h = h
    each_listed (Parameter place i) h = h
    each_listed (Read place n how args) h =
        numbers_both f (g (Read place n how args)) (listed_all g args) (left_of (passes (Read place n how args)) (each_argument passes args) h)
        (each_listed_all args (right_of (passes (Read place n how args)) (each_argument passes args) h))
    each_listed (Window place w args) h =
        numbers_both f (g (Window place w args)) (listed_all g args) (left_of (passes (Window place w args)) (each_argument passes args) h)
        (each_listed_all args (right_of (passes (Window place w args)) (each_argument passes args) h))
    each_listed (Defaults' place u a v b) h =
        let rest = right_of (passes (Defaults' place u a v b)) (each_part passes a && each_part passes b) h in
        numbers_both f (g (Defaults' place u a v b)) (listed g a ++ listed g b) (left_of (passes (Defaults' place u a v b)) (each_part passes a && each_part passes b) h)
        (numbers_both f (listed g a) (listed g b) (each_listed a (left_of (each_part passes a) (each_part passes b) rest)) (each_listed b (right_of (each_part passes a) (each_part passes b) rest)))
    each_listed (Unary' place operator u a) h =
        numbers_both f (g (Unary' place operator u a)) (listed g a) (left_of (passes (Unary' place operator u a)) (each_part passes a) h) (each_listed a (right_of (passes (Unary' place operator u a)) (each_part passes a) h))
    each_listed (Both' place operator u a v b) h =
        let rest = right_of (passes (Both' place operator u a v b)) (each_part passes a && each_part passes b) h in
        numbers_both f (g (Both' place operator u a v b)) (listed g a ++ listed g b) (left_of (passes (Both' place operator u a v b)) (each_part passes a && each_part passes b) h)
        (numbers_both f (listed g a) (listed g b) (each_listed a (left_of (each_part passes a) (each_part passes b) rest)) (each_listed b (right_of (each_part passes a) (each_part passes b) rest)))
    each_listed (Choice' place u a v b w c) h =
        let rest = right_of (passes (Choice' place u a v b w c)) (each_part passes a && (each_part passes b && each_part passes c)) h in
        let others = right_of (each_part passes a) (each_part passes b && each_part passes c) rest in
        numbers_both f (g (Choice' place u a v b w c)) (listed g a ++ (listed g b ++ listed g c)) (left_of (passes (Choice' place u a v b w c)) (each_part passes a && (each_part passes b && each_part passes c)) h)
        (numbers_both f (listed g a) (listed g b ++ listed g c) (each_listed a (left_of (each_part passes a) (each_part passes b && each_part passes c) rest))
        (numbers_both f (listed g b) (listed g c) (each_listed b (left_of (each_part passes b) (each_part passes c) others)) (each_listed c (right_of (each_part passes b) (each_part passes c) others))))

    each_listed_all : (args : Arguments) → each_argument passes args ≡ true → all_numbers f (listed_all g args) ≡ true
    each_listed_all End h = refl
    each_listed_all (More' u a v rest) h =
        numbers_both f (listed g a) (listed_all g rest) (each_listed a (left_of (each_part passes a) (each_argument passes rest) h)) (each_listed_all rest (right_of (each_part passes a) (each_argument passes rest) h))

  abbrev whole_passes : Whole → Bool
  whole_passes w = each_part passes w.expr

  when_listed : (n : ℕ) (p : Part) (ks : List Kind) (at : ℕ) (o : Option Expr) → all_wholes whole_passes (condition_wholes n p ks at o) ≡ true → all_numbers f (listed_when g o) ≡ true
  when_listed n p ks at None h = refl
  when_listed n p ks at (Some e) h = each_listed e (left_of (each_part passes e) true h)

  with_listed : (n : ℕ) (p : Part) (ks wants : List Kind) (ats : List ℕ) (es : List Expr) → all_wholes whole_passes (with_wholes n p ks wants ats es) ≡ true → all_numbers f (listed_with g es) ≡ true
  with_listed n p ks wants ats [] h = refl
  with_listed n p ks wants ats (e ∷ es) h =
      let others = all_wholes whole_passes (with_wholes n p ks (drop 1 wants) (drop 1 ats) es) in
      numbers_both f (listed g e) (listed_with g es) (each_listed e (left_of (each_part passes e) others h)) (with_listed n p ks (drop 1 wants) (drop 1 ats) es (right_of (each_part passes e) others h))

  clause_listed : (n : ℕ) (p : Part) (ks wants : List Kind) (o : Option Clause) → all_wholes whole_passes (clause_wholes n p ks wants o) ≡ true → all_numbers f (listed_clause g o) ≡ true
  clause_listed n p ks wants None h = refl
  clause_listed n p ks wants (Some c) h =
      numbers_both f (listed_when g c.when) (listed_with g c.with)
      (when_listed n p ks c.when_at c.when (wholes_left whole_passes (condition_wholes n p ks c.when_at c.when) (with_wholes n p ks wants c.with_at c.with) h))
      (with_listed n p ks wants c.with_at c.with (wholes_right whole_passes (condition_wholes n p ks c.when_at c.when) (with_wholes n p ks wants c.with_at c.with) h))

  stream_listed : (n : ℕ) (s : Stream) (k : Kind) → all_wholes whole_passes (stream_wholes n s k) ≡ true → all_numbers f (listed_stream g s) ≡ true
  stream_listed n s k h =
      let a = clause_wholes n part.Spawn [] s.parameters s.spawn in
      let b = clause_wholes n part.Eval s.parameters (k ∷ []) s.eval in
      let c = clause_wholes n part.Close s.parameters [] s.close in
      let rest = wholes_right whole_passes a (b ++ c) h in
      numbers_both f (listed_clause g s.spawn) (listed_clause g s.eval ++ listed_clause g s.close) (clause_listed n part.Spawn [] s.parameters s.spawn (wholes_left whole_passes a (b ++ c) h))
      (numbers_both f (listed_clause g s.eval) (listed_clause g s.close) (clause_listed n part.Eval s.parameters (k ∷ []) s.eval (wholes_left whole_passes b c rest))
      (clause_listed n part.Close s.parameters [] s.close (wholes_right whole_passes b c rest)))

  -- numbers that each part lists pass, so all of them do
  pub streams_listed : (n : ℕ) (ss : List Stream) (kinds : List (Option Kind)) → all_wholes whole_passes (wholes_from n ss kinds) ≡ true → all_numbers f (listed_streams g ss) ≡ true
  streams_listed n [] kinds h = refl
  streams_listed n (s ∷ ss) kinds h =
      let k = unwrap_or (unwrap_or (slice_get kinds 0) None) kind.Int64 in
      numbers_both f (listed_stream g s) (listed_streams g ss) (stream_listed n s k (wholes_left whole_passes (stream_wholes n s k) (wholes_from (n + 1) ss (drop 1 kinds)) h))
      (streams_listed (n + 1) ss (drop 1 kinds) (wholes_right whole_passes (stream_wholes n s k) (wholes_from (n + 1) ss (drop 1 kinds)) h))

-- numbers of streams and windows

pub read_below : (ss : List Stream) (n count : ℕ) → is_read_of (slice_get ss n) count ≡ true → n < length ss
read_below ss n count h = by_stream (slice_get ss n) refl h
  where
    by_stream : (o : Option Stream) → slice_get ss n ≡ o → is_read_of o count ≡ true → n < length ss
    by_stream None e h = never_back h
    by_stream (Some s) e h = slice_there ss n s e

window_below : (ss : List Stream) (ws : List WindowSpec) (w count : ℕ) → is_window_onto ss (slice_get ws w) count ≡ true → w < length ws
window_below ss ws w count h = by_window (slice_get ws w) refl h
  where
    by_window : (o : Option WindowSpec) → slice_get ws w ≡ o → is_window_onto ss o count ≡ true → w < length ws
    by_window None e h = never_back h
    by_window (Some x) e h = slice_there ws w x e

module _ (spec : Spec) where
  abbrev InRange : Expr → Type 0
  InRange = IsInRange (length spec.streams) (length spec.windows)

  module _ (ks : ℕ) where
    abbrev t : Expr → Bool
    t = is_resolved spec ks

    mutual
      -- numbers of what is resolved are in range
      resolved_range : (e : Expr) → each_part t e ≡ true → InRange e
      resolved_range (Literal place v) h = tt
      resolved_range (Parameter place i) h = tt
      resolved_range (Read place n how args) h =
          (read_below spec.streams n (count_of args) (left_of (t (Read place n how args)) (each_argument t args) h), resolved_ranges args (right_of (t (Read place n how args)) (each_argument t args) h))
      resolved_range (Window place w args) h =
          (window_below spec.streams spec.windows w (count_of args) (left_of (t (Window place w args)) (each_argument t args) h), resolved_ranges args (right_of (t (Window place w args)) (each_argument t args) h))
      resolved_range (Defaults' place u a v b) h = (resolved_range a (left_of (each_part t a) (each_part t b) h), resolved_range b (right_of (each_part t a) (each_part t b) h))
      resolved_range (Unary' place operator u a) h = resolved_range a h
      resolved_range (Both' place operator u a v b) h = (resolved_range a (left_of (each_part t a) (each_part t b) h), resolved_range b (right_of (each_part t a) (each_part t b) h))
      resolved_range (Choice' place u a v b w c) h =
          let others = right_of (each_part t a) (each_part t b && each_part t c) h in
          (resolved_range a (left_of (each_part t a) (each_part t b && each_part t c) h), resolved_range b (left_of (each_part t b) (each_part t c) others), resolved_range c (right_of (each_part t b) (each_part t c) others))

      resolved_ranges : (args : Arguments) → each_argument t args ≡ true → AreInRange (length spec.streams) (length spec.windows) args
      resolved_ranges End h = tt
      resolved_ranges (More' u a v rest) h = (resolved_range a (left_of (each_part t a) (each_argument t rest) h), resolved_ranges rest (right_of (each_part t a) (each_argument t rest) h))

  abbrev whole_resolves : Whole → Bool
  whole_resolves w = each_part (is_resolved spec (length w.parameters)) w.expr

  when_range : (n : ℕ) (p : Part) (ks : List Kind) (at : ℕ) (o : Option Expr) → all_wholes whole_resolves (condition_wholes n p ks at o) ≡ true → IsWhenInRange (length spec.streams) (length spec.windows) o
  when_range n p ks at None h = tt
  when_range n p ks at (Some e) h = resolved_range (length ks) e (left_of (each_part (is_resolved spec (length ks)) e) true h)

  with_range : (n : ℕ) (p : Part) (ks wants : List Kind) (ats : List ℕ) (es : List Expr) → all_wholes whole_resolves (with_wholes n p ks wants ats es) ≡ true → IsWithInRange (length spec.streams) (length spec.windows) es
  with_range n p ks wants ats [] h = tt
  with_range n p ks wants ats (e ∷ es) h =
      let others = all_wholes whole_resolves (with_wholes n p ks (drop 1 wants) (drop 1 ats) es) in
      (resolved_range (length ks) e (left_of (each_part (is_resolved spec (length ks)) e) others h), with_range n p ks (drop 1 wants) (drop 1 ats) es (right_of (each_part (is_resolved spec (length ks)) e) others h))

  clause_range : (n : ℕ) (p : Part) (ks wants : List Kind) (o : Option Clause) → all_wholes whole_resolves (clause_wholes n p ks wants o) ≡ true → IsClauseInRange (length spec.streams) (length spec.windows) o
  clause_range n p ks wants None h = tt
  clause_range n p ks wants (Some c) h = (
    when_range n p ks c.when_at c.when (wholes_left whole_resolves (condition_wholes n p ks c.when_at c.when) (with_wholes n p ks wants c.with_at c.with) h),
    with_range n p ks wants c.with_at c.with (wholes_right whole_resolves (condition_wholes n p ks c.when_at c.when) (with_wholes n p ks wants c.with_at c.with) h),
  )

  -- .. in all clauses
  pub clauses_range : (n : ℕ) (ss : List Stream) (kinds : List (Option Kind)) → all_wholes whole_resolves (wholes_from n ss kinds) ≡ true → AreClausesInRange (length spec.streams) (length spec.windows) ss
  clauses_range n [] kinds h = tt
  clauses_range n (s ∷ ss) kinds h =
      let k = unwrap_or (unwrap_or (slice_get kinds 0) None) kind.Int64 in
      let a = clause_wholes n part.Spawn [] s.parameters s.spawn in
      let b = clause_wholes n part.Eval s.parameters (k ∷ []) s.eval in
      let c = clause_wholes n part.Close s.parameters [] s.close in
      let mine = wholes_left whole_resolves (stream_wholes n s k) (wholes_from (n + 1) ss (drop 1 kinds)) h in
      let rest = wholes_right whole_resolves a (b ++ c) mine in (
        clause_range n part.Spawn [] s.parameters s.spawn (wholes_left whole_resolves a (b ++ c) mine),
        clause_range n part.Eval s.parameters (k ∷ []) s.eval (wholes_left whole_resolves b c rest),
        clause_range n part.Close s.parameters [] s.close (wholes_right whole_resolves b c rest),
        clauses_range (n + 1) ss (drop 1 kinds) (wholes_right whole_resolves (stream_wholes n s k) (wholes_from (n + 1) ss (drop 1 kinds)) h),
      )

-- windows that are all numbered

counted_windows : (f : Option WindowSpec → Bool) (all : List WindowSpec) (from : ℕ) (ws : List WindowSpec) → ((j : ℕ) → slice_get ws j ≡ slice_get all (from + j))
    → all_numbers (λ i. f (slice_get all i)) (counted from (length ws)) ≡ true → all_windows (λ w. f (Some w)) ws ≡ true
counted_windows f all from [] at h = refl
counted_windows f all from (w ∷ ws) at h =
    let first : from + 0 ≡ from = omega arith in
    let others = all_numbers (λ i. f (slice_get all i)) (counted (from + 1) (length ws)) in
    and_from (f (Some w)) (all_windows (λ x. f (Some x)) ws)
    (ap f (at 0 ∙ ap (slice_get all) first) ∙ left_of (f (slice_get all from)) others h)
    (counted_windows f all (from + 1) ws (λ j. let e : from + suc j ≡ (from + 1) + j = omega arith in at (suc j) ∙ ap (slice_get all) e) (right_of (f (slice_get all from)) others h))

-- a test that each listed window passes, where all windows are listed in order, all pass
pub windows_pass : (f : Option WindowSpec → Bool) (ws : List WindowSpec) (numbers : List ℕ) → numbers ≡ counted 0 (length ws) → all_numbers (λ i. f (slice_get ws i)) numbers ≡ true → all_windows (λ w. f (Some w)) ws ≡ true
windows_pass f ws numbers e h =
    counted_windows f ws 0 ws (λ j. let k : j ≡ 0 + j = omega arith in ap (slice_get ws) k) (subst (λ l. all_numbers (λ i. f (slice_get ws i)) l ≡ true) e h)

pub targets_range : (streams windows : ℕ) (ws : List WindowSpec) → all_windows (λ w. nat_lt w.target streams) ws ≡ true → AreTargetsInRange streams windows ws
targets_range streams windows [] h = tt
targets_range streams windows (w ∷ ws) h =
    let others = all_windows (λ (x : WindowSpec). nat_lt x.target streams) ws in
    (is_below w.target (left_of (nat_lt w.target streams) others h), targets_range streams windows ws (right_of (nat_lt w.target streams) others h))
  where
    is_below : (n : ℕ) → nat_lt n streams ≡ true → n < streams
    is_below n h = grind (arith, nat_tests)
