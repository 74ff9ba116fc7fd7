-- Whole expressions of which nothing is refused.
use Rattle.std.proofs.lemmas.Bool.{ltb-true, and_from, or_from}
use Rattle.std.proofs.Common.{◌<◌, arith, ◌≡◌, ℕ, zero, suc, refl, ap, sym, ◌∙◌, subst, Bool, true, false, not, ◌&&◌, ◌||◌, if◌then◌else◌, List, [], ◌∷◌, Option, Some, None, nat_lt, length, slice_get}
use Rattle.lola_value.specs.declared.value.Kind.{Kind}
use Rattle.lola_value.specs.declared.value.Value.{Value}
use Rattle.lola_value.specs.declared.value.Value.TheVariants as value
use Rattle.lola_value.specs.Kinds.{is_of_kind}
use Rattle.lola_value.specs.Arithmetic.{is_within}
use Rattle.lola_model.specs.Named.{is_read_of, is_window_onto, is_resolved}
use Rattle.lola_model.specs.Typing.{Scope, same_kinds, noted_all, is_certain_window, is_direct, is_total, takes, is_kind_at, is_reference, window_row, each_part, each_argument, part_is_typed, count_of}
use Rattle.lola_model.specs.Store.{StreamLayout, kind_in, parameters_of, gives_kind}
use Rattle.lola_model.specs.declared.expr.Place.{Place}
use Rattle.lola_model.specs.declared.expr.Access.{Access}
use Rattle.lola_model.specs.declared.expr.Expr.{Expr}
use Rattle.lola_model.specs.declared.expr.Expr.TheVariants.{Literal, Parameter, Read, Window, Defaults', Unary', Both', Choice'}
use Rattle.lola_model.specs.declared.expr.Arguments.{Arguments}
use Rattle.lola_model.specs.declared.expr.Arguments.TheVariants.{End, More'}
use Rattle.lola_model.specs.declared.spec.Spec.{Spec}
use Rattle.lola_model.specs.declared.spec.WindowSpec.{WindowSpec}
use Rattle.lola_types.specs.Found.{Setting, found, found_all, is_broken, some_broken, joint, argument_fits, arguments_fit, of_kind, reference_part, known_window, window_part, window_at, literal_part, parameter_part, kind_found, parameters_at, window_parameters, binary_part, prefix_part, defaults_part, choice_part}
use Rattle.lola_types.specs.LeftOut.{setting_of}
use Rattle.lola_types.specs.Refused.{taken, operand_kind, taking_refusals, own_refusals, argument_refusals, fitting_refusals, refusals_in, refusals_in_all}
use Rattle.lola_types.specs.Filled.{note_part, filled, filled_all}
use Rattle.lola_types.specs.declared.found.Found.{Found}
use Rattle.lola_types.specs.declared.found.Found.TheVariants.{Of, Free, Unknown, Broken}
use Rattle.lola_model.specs.Constants.{is_constant, is_constant_if_noted, literal_is_known}
use Rattle.lola_front.proofs.Bools.{left_of, right_of, never, never_back, none_left, none_right, taken_where}
use Rattle.lola_front.proofs.Rows.{same_self, same_where, is_ready, matches, ready_unbroken, own_holds}
use Rattle.lola_front.proofs.Holds.{Holds, ready, operand, binary_holds}
use Rattle.lola_front.proofs.Sound.{prefix_holds, defaults_holds, choice_holds}

-- a reference that is not broken
reference_is : (b c : Bool) (p : Found) → b ≡ false → is_broken (reference_part b c p) ≡ false → (c ≡ true) × (reference_part b c p ≡ p)
reference_is true c p e h = never e
reference_is false true p e h = (refl, refl)
reference_is false false p e h = never h

unless_broken_none : {X : Type 0} (b : Bool) (xs : List X) → b ≡ false → (if b then [] else xs) ≡ [] → xs ≡ []
unless_broken_none true xs e h = never e
unless_broken_none false xs e h = h

fits_matches : (p : Found) (k : Kind) → is_ready p ≡ true → argument_fits p k ≡ true → matches k p ≡ true
fits_matches (Of l c) k r h = h
fits_matches Free k r h = h
fits_matches Unknown k r h = never_back r
fits_matches Broken k r h = h

kind_below : (ks : List Kind) (i : ℕ) → i < length ks → (k : Kind) × (slice_get ks i ≡ Some k) × (is_kind_at ks i k ≡ true)
kind_below [] i h = absurd (omega (arith, h))
kind_below (k ∷ ks) zero h = (k, refl, same_self k)
kind_below (k ∷ ks) (suc i) h = let g : i < length ks = omega (arith, h) in kind_below ks i g

kind_at : (ks : List Kind) (i : ℕ) → nat_lt i (length ks) ≡ true → (k : Kind) × (slice_get ks i ≡ Some k) × (is_kind_at ks i k ≡ true)
kind_at ks i h = kind_below ks i (ltb-true i (length ks) h)

if_is : (b : Bool) (k : Kind) (c : Bool) → is_broken (if b then Of k c else Broken) ≡ false → (b ≡ true) × ((if b then Of k c else Broken) ≡ Of k c)
if_is true k c h = (refl, refl)
if_is false k c h = never h

-- where an expression stands: its streams' layouts agree with what is found of them, and the literals of constants fit
module _ (spec : Spec) (kinds : List (Option Kind)) (ks : List Kind) (ls : List StreamLayout)
    (agree : (n : ℕ) (count : ℕ) → is_read_of (slice_get spec.streams n) count ≡ true
    → (nat_lt n (length ls) ≡ true) × (kind_found (setting_of spec kinds ks) n ≡ Some (kind_in (slice_get ls n))) × (parameters_of (slice_get ls n) ≡ parameters_at (setting_of spec kinds ks) n))
    (constant_fits : (k : Kind) (v : Value) → is_constant spec.constants k v ≡ true → is_of_kind k v ≡ true) where
  abbrev scope : Scope
  scope = record { streams = ls; windows = spec.windows; has_parameter = is_kind_at ks }

  abbrev here : Setting
  here = setting_of spec kinds ks

  -- what is known of a part from the names' resolution
  abbrev pub is_good : Expr → Bool
  is_good e = is_resolved spec (length ks) e && literal_is_known spec.constants e

  literal_holds : (place : Place) (o : Option Kind) (v : Value) → is_constant_if_noted spec.constants o v ≡ true → Holds scope (literal_part o v) (Literal place v) (Literal (note_part place (literal_part o v)) v)
  literal_holds place (Some k) v h = (constant_fits k v h, refl, refl)
  literal_holds place None (value.Bool b) h = (refl, refl, refl)
  literal_holds place None (value.Int n) h = λ k i r. (and_from _ _ i (taken_where (is_within k n) _ _ r), refl, refl)
  literal_holds place None (value.Text id) h = (refl, refl, refl)

  parameter_holds : (place : Place) (i : ℕ) → nat_lt i (length ks) ≡ true → Holds scope (found here (Parameter place i)) (Parameter place i) (filled here (Parameter place i))
  parameter_holds place i h =
      let g = kind_at ks i h in
      subst (λ o. Holds scope (parameter_part o) (Parameter place i) (Parameter (note_part place (parameter_part o)) i)) (sym g.1) (g.2, refl, refl)

  -- arguments

  abbrev HoldsAll : Arguments → Type 0
  HoldsAll End = Unit {0}
  HoldsAll (More' u a v rest) = Holds scope (found here a) a (filled here a) × HoldsAll rest

  some_unbroken : (args : Arguments) → HoldsAll args → some_broken (found_all here args) ≡ false
  some_unbroken End h = refl
  some_unbroken (More' u a v rest) h = or_from _ _ (ready_unbroken (found here a) (ready scope (found here a) a (filled here a) h.0)) (some_unbroken rest h.1)

  arguments_hold : (ps : List Kind) (args : Arguments) → HoldsAll args → arguments_fit (found_all here args) ps ≡ true → argument_refusals here ps args ≡ []
      → (each_argument (part_is_typed scope) (filled_all here ps args) ≡ true) × (same_kinds (noted_all (filled_all here ps args)) ps ≡ true)
  arguments_hold [] End h f r = (refl, refl)
  arguments_hold (p ∷ ps) End h f r = never_back f
  arguments_hold [] (More' u a v rest) h f r = never_back f
  arguments_hold (p ∷ ps) (More' u a v rest) h f r =
      let m = fits_matches (found here a) p (ready scope (found here a) a (filled here a) h.0) (left_of (argument_fits (found here a) p) (arguments_fit (found_all here rest) ps) f) in
      let x = operand scope p (found here a) (Some p) a (filled here a) h.0 m refl (none_left (taking_refusals (Some p) (found here a) a) (argument_refusals here ps rest) r) in
      let y = arguments_hold ps rest h.1 (right_of (argument_fits (found here a) p) (arguments_fit (found_all here rest) ps) f) (none_right (taking_refusals (Some p) (found here a) a) (argument_refusals here ps rest) r) in
      (and_from _ _ x.0 y.0, and_from _ _ (same_where _ _ x.1) y.1)

  -- a reference to stream n, with these arguments
  reference_holds : (n count : ℕ) (args : Arguments) → is_read_of (slice_get spec.streams n) count ≡ true → same_kinds (noted_all args) (parameters_at here n) ≡ true → is_reference ls n args ≡ true
  reference_holds n count args g h = and_from _ _ (agree n count g).0 (subst (λ x. same_kinds (noted_all args) x ≡ true) (sym (agree n count g).2) h)

  read_holds : (place : Place) (n : ℕ) (how : Access) (args : Arguments) → is_read_of (slice_get spec.streams n) (count_of args) ≡ true → HoldsAll args
      → own_refusals place.at (some_broken (found_all here args)) (found here (Read place n how args)) ≡ []
      → fitting_refusals here (found here (Read place n how args)) (parameters_at here n) args ≡ []
      → Holds scope (found here (Read place n how args)) (Read place n how args) (filled here (Read place n how args))
  read_holds place n how args g h own fit =
      let ps = parameters_at here n in
      let w = found here (Read place n how args) in
      let unbroken : is_broken w ≡ false = own_holds place.at false (some_broken (found_all here args)) w own (some_unbroken args h) in
      let i = reference_is (some_broken (found_all here args)) (arguments_fit (found_all here args) ps) (of_kind (kind_found here n) (is_direct how)) (some_unbroken args h) unbroken in
      let x = arguments_hold ps args h i.0 (unless_broken_none (is_broken w) (argument_refusals here ps args) unbroken fit) in
      let k = kind_in (slice_get ls n) in
      let e : w ≡ Of k (is_direct how) = i.1 ∙ ap (λ o. of_kind o (is_direct how)) (agree n (count_of args) g).1 in
      subst (λ w. Holds scope w (Read place n how args) (Read (note_part place w) n how (filled_all here ps args))) (sym e)
      (and_from _ _ (and_from _ _ (reference_holds n (count_of args) (filled_all here ps args) g x.1) (same_self k)) x.0, refl, refl)

  -- a window that is not broken
  window_is : (o : Option WindowSpec) (count : ℕ) → is_window_onto spec.streams o count ≡ true → is_broken (window_at here o) ≡ false
      → (k : Kind) × (c : Bool) × (window_at here o ≡ Of k c) × (is_certain_window o ≡ c)
      × ((args : Arguments) → same_kinds (noted_all args) (window_parameters here o) ≡ true → window_row ls o k args ≡ true)
  window_is None count g h = never_back g
  window_is (Some w) count g h =
      let l = kind_in (slice_get ls w.target) in
      let e : window_at here (Some w) ≡ known_window w l = ap (window_part w) (agree w.target count g).1 in
      let i = if_is (takes w.using l) (gives_kind w.using l) (is_total w.using && not w.exact) (subst (λ x. is_broken x ≡ false) e h) in
      (gives_kind w.using l, is_total w.using && not w.exact, e ∙ i.1, refl, λ args s. and_from _ _ (reference_holds w.target count args g s) (and_from _ _ i.0 (same_self (gives_kind w.using l))))

  window_holds : (place : Place) (n : ℕ) (args : Arguments) → is_window_onto spec.streams (slice_get spec.windows n) (count_of args) ≡ true → HoldsAll args
      → own_refusals place.at (some_broken (found_all here args)) (found here (Window place n args)) ≡ []
      → fitting_refusals here (found here (Window place n args)) (window_parameters here (slice_get spec.windows n)) args ≡ []
      → Holds scope (found here (Window place n args)) (Window place n args) (filled here (Window place n args))
  window_holds place n args g h own fit =
      let o = slice_get spec.windows n in
      let ps = window_parameters here o in
      let w = found here (Window place n args) in
      let unbroken : is_broken w ≡ false = own_holds place.at false (some_broken (found_all here args)) w own (some_unbroken args h) in
      let i = reference_is (some_broken (found_all here args)) (arguments_fit (found_all here args) ps) (window_at here o) (some_unbroken args h) unbroken in
      let x = arguments_hold ps args h i.0 (unless_broken_none (is_broken w) (argument_refusals here ps args) unbroken fit) in
      let y = window_is o (count_of args) g (subst (λ x. is_broken x ≡ false) i.1 unbroken) in
      subst (λ w. Holds scope w (Window place n args) (Window (note_part place w) n (filled_all here ps args))) (sym (i.1 ∙ y.2))
      (and_from _ _ (y.4 (filled_all here ps args) x.1) x.0, refl, y.3)

  -- the induction

  mutual
    pub sound : (e : Expr) → each_part is_good e ≡ true → refusals_in here e ≡ [] → Holds scope (found here e) e (filled here e)
    sound (Literal place v) g r = literal_holds place place.kind v g
    sound (Parameter place i) g r = parameter_holds place i (left_of _ _ g)
    sound (Read place n how args) g r =
        let all = sound_all args (right_of (is_good (Read place n how args)) _ g) (none_left (refusals_in_all here args) _ r) in
        let q = none_right (refusals_in_all here args) _ r in
        let own = own_refusals place.at (some_broken (found_all here args)) (found here (Read place n how args)) in
        read_holds place n how args (left_of (is_read_of (slice_get spec.streams n) (count_of args)) true (left_of (is_good (Read place n how args)) _ g)) all (none_left own _ q) (none_right own _ q)
    sound (Window place w args) g r =
        let all = sound_all args (right_of (is_good (Window place w args)) _ g) (none_left (refusals_in_all here args) _ r) in
        let q = none_right (refusals_in_all here args) _ r in
        let own = own_refusals place.at (some_broken (found_all here args)) (found here (Window place w args)) in
        window_holds place w args (left_of (is_window_onto spec.streams (slice_get spec.windows w) (count_of args)) true (left_of (is_good (Window place w args)) _ g)) all (none_left own _ q) (none_right own _ q)
    sound (Defaults' place u a v b) g r =
        let ha = sound a (left_of (each_part is_good a) (each_part is_good b) g) (none_left (refusals_in here a) _ r) in
        let r1 = none_right (refusals_in here a) _ r in
        let hb = sound b (right_of (each_part is_good a) (each_part is_good b) g) (none_left (refusals_in here b) _ r1) in
        let r2 = none_right (refusals_in here b) _ r1 in
        let w = defaults_part (found here a) (found here b) in
        let own = own_refusals place.at (is_broken (found here a) || is_broken (found here b)) w in
        let r3 = none_right own _ r2 in
        let unbroken = own_holds place.at false (is_broken (found here a) || is_broken (found here b)) w (none_left own _ r2)
        (or_from _ _ (ready_unbroken (found here a) (ready scope (found here a) a (filled here a) ha)) (ready_unbroken (found here b) (ready scope (found here b) b (filled here b) hb))) in
        defaults_holds scope place u v (found here a) (found here b) a b (filled here a) (filled here b) ha hb unbroken
        (none_left (taking_refusals (taken w) (found here a) a) _ r3) (none_right (taking_refusals (taken w) (found here a) a) _ r3)
    sound (Unary' place operator u a) g r =
        let ha = sound a g (none_left (refusals_in here a) _ r) in
        let r2 = none_right (refusals_in here a) _ r in
        let w = prefix_part operator (found here a) in
        let own = own_refusals place.at (is_broken (found here a)) w in
        let unbroken = own_holds place.at false (is_broken (found here a)) w (none_left own _ r2) (ready_unbroken (found here a) (ready scope (found here a) a (filled here a) ha)) in
        prefix_holds scope place u operator (found here a) a (filled here a) ha unbroken (none_right own _ r2)
    sound (Both' place operator u a v b) g r =
        let ha = sound a (left_of (each_part is_good a) (each_part is_good b) g) (none_left (refusals_in here a) _ r) in
        let r1 = none_right (refusals_in here a) _ r in
        let hb = sound b (right_of (each_part is_good a) (each_part is_good b) g) (none_left (refusals_in here b) _ r1) in
        let r2 = none_right (refusals_in here b) _ r1 in
        let w = binary_part operator (found here a) (found here b) in
        let o = operand_kind operator w (joint (found here a) (found here b)) in
        let own = own_refusals place.at (is_broken (found here a) || is_broken (found here b)) w in
        let r3 = none_right own _ r2 in
        let unbroken = own_holds place.at false (is_broken (found here a) || is_broken (found here b)) w (none_left own _ r2)
        (or_from _ _ (ready_unbroken (found here a) (ready scope (found here a) a (filled here a) ha)) (ready_unbroken (found here b) (ready scope (found here b) b (filled here b) hb))) in
        binary_holds scope place u v operator (found here a) (found here b) a b (filled here a) (filled here b) ha hb unbroken
        (none_left (taking_refusals o (found here a) a) _ r3) (none_right (taking_refusals o (found here a) a) _ r3)
    sound (Choice' place u t v a w b) g r =
        let gr = right_of (each_part is_good t) (each_part is_good a && each_part is_good b) g in
        let ht = sound t (left_of (each_part is_good t) (each_part is_good a && each_part is_good b) g) (none_left (refusals_in here t) _ r) in
        let r0 = none_right (refusals_in here t) _ r in
        let ha = sound a (left_of (each_part is_good a) (each_part is_good b) gr) (none_left (refusals_in here a) _ r0) in
        let r1 = none_right (refusals_in here a) _ r0 in
        let hb = sound b (right_of (each_part is_good a) (each_part is_good b) gr) (none_left (refusals_in here b) _ r1) in
        let r2 = none_right (refusals_in here b) _ r1 in
        let x = choice_part (found here t) (found here a) (found here b) in
        let broken = is_broken (found here t) || (is_broken (found here a) || is_broken (found here b)) in
        let own = own_refusals place.at broken x in
        let r3 = none_right own _ r2 in
        let unbroken = own_holds place.at false broken x (none_left own _ r2)
        (or_from _ _ (ready_unbroken (found here t) (ready scope (found here t) t (filled here t) ht))
        (or_from _ _ (ready_unbroken (found here a) (ready scope (found here a) a (filled here a) ha)) (ready_unbroken (found here b) (ready scope (found here b) b (filled here b) hb)))) in
        choice_holds scope place u v w (found here t) (found here a) (found here b) t a b (filled here t) (filled here a) (filled here b) ht ha hb unbroken
        (none_left (taking_refusals (taken x) (found here a) a) _ r3) (none_right (taking_refusals (taken x) (found here a) a) _ r3)

    pub sound_all : (args : Arguments) → each_argument is_good args ≡ true → refusals_in_all here args ≡ [] → HoldsAll args
    sound_all End g r = tt
    sound_all (More' u a v rest) g r = (
      sound a (left_of (each_part is_good a) (each_argument is_good rest) g) (none_left (refusals_in here a) (refusals_in_all here rest) r),
      sound_all rest (right_of (each_part is_good a) (each_argument is_good rest) g) (none_right (refusals_in here a) (refusals_in_all here rest) r),
    )
