-- Whole expressions, clauses and streams with their kinds filled in are typed.
use Rattle.std.proofs.lemmas.Bool.{lt-ltb, and_from}
use Rattle.std.proofs.lemmas.Grind.{flat_map-append}
use Rattle.std.proofs.Common.{◌≡◌, ◌<◌, ℕ, zero, suc, ◌+◌, arith, refl, ap, sym, ◌∙◌, subst, Bool, true, false, ◌&&◌, ◌||◌, if◌then◌else◌, List, [], ◌∷◌, ◌++◌, Option, Some, None, nat_lt, length, slice_get, unwrap_or, drop, flat_map}
use Rattle.lola_value.specs.declared.value.Kind.{Kind}
use Rattle.lola_value.specs.declared.value.Kind.TheVariants as kind
use Rattle.lola_value.specs.declared.value.Value.{Value}
use Rattle.lola_value.specs.declared.value.Value.TheVariants as value
use Rattle.lola_value.specs.Kinds.{is_integer, is_bool, is_text, is_of_kind, values_same}
use Rattle.lola_value.specs.Arithmetic.{is_within}
use Rattle.lola_value.proofs.ParamsLemmas.{same_values}
use Rattle.lola_model.specs.Named.{is_read_of, is_resolved, whole_is_resolved}
use Rattle.lola_model.specs.Typed.{constant_is_typed, all_constants}
use Rattle.lola_model.specs.Typing.{Scope, same_kind, noted, is_kind_at, each_part, each_argument, part_is_typed, is_whole}
use Rattle.lola_model.specs.Store.{StreamLayout, layouts_from, kind_in, parameters_of}
use Rattle.lola_model.specs.Wholes.{Whole, condition_wholes, with_wholes, clause_wholes, stream_wholes, wholes_from, noted_kinds, all_wholes}
use Rattle.lola_model.specs.declared.expr.Expr.{Expr}
use Rattle.lola_model.specs.declared.expr.Expr.TheVariants.{Literal, Parameter, Read, Window, Defaults', Unary', Both', Choice'}
use Rattle.lola_model.specs.declared.expr.Arguments.{Arguments}
use Rattle.lola_model.specs.declared.expr.Arguments.TheVariants.{End, More'}
use Rattle.lola_model.specs.declared.spec.Clause.{Clause}
use Rattle.lola_model.specs.declared.spec.Constant.{Constant}
use Rattle.lola_model.specs.declared.spec.Part.{Part}
use Rattle.lola_model.specs.declared.spec.Part.TheVariants as part
use Rattle.lola_model.specs.declared.spec.Spec.{Spec}
use Rattle.lola_model.specs.declared.pacing.ClausePacings.{ClausePacings}
use Rattle.lola_model.specs.declared.spec.Stream.{Stream}
use Rattle.lola_types.specs.Found.{Setting, found, literal_part, stream_parameters}
use Rattle.lola_types.specs.LeftOut.{setting_of, missing_kinds}
use Rattle.lola_types.specs.Refused.{taking_refusals, wanted_refusals, number_kind, taken_literal, whole_refusals, refusals_in, constant_refusals, refusals_of_whole}
use Rattle.lola_types.specs.Filled.{filled_if_free, filled, filled_whole, SameTree, FilledWhen, FilledWith, FilledClauses, FilledStream, FilledStreams}
use Rattle.lola_types.specs.declared.found.Found.{Found}
use Rattle.lola_types.specs.declared.found.Found.TheVariants.{Of, Free, Unknown, Broken}
use Rattle.lola_model.specs.Constants.{is_constant, literal_is_known, whole_is_known}
use Rattle.lola_front.proofs.Bools.{left_of, right_of, never_back, none_left, none_right, taken_where}
use Rattle.lola_front.proofs.Rows.{kind_is, same_where}
use Rattle.lola_front.proofs.Holds.{Fits, Holds, fits_at, operand}
use Rattle.lola_front.proofs.Expressions.{sound}
use Rattle.lola_front.proofs.Alike.{Equal, same_alike, alike_each, equal_noted, equal_certain, equal_typed}

-- a part that passes two tests

module _ (f g : Expr → Bool) where
  abbrev both_of : Expr → Bool
  both_of e = f e && g e

  mutual
    pub each_both : (e : Expr) → each_part f e ≡ true → each_part g e ≡ true → each_part both_of e ≡ true
    each_both (Literal p v) h k = and_from _ _ h k
    each_both (Parameter p i) h k = and_from _ _ h k
    each_both (Read p n how args) h k =
        let e = Read p n how args in
        and_from _ _ (and_from _ _ (left_of (f e) _ h) (left_of (g e) _ k)) (each_both_all args (right_of (f e) _ h) (right_of (g e) _ k))
    each_both (Window p n args) h k =
        let e = Window p n args in
        and_from _ _ (and_from _ _ (left_of (f e) _ h) (left_of (g e) _ k)) (each_both_all args (right_of (f e) _ h) (right_of (g e) _ k))
    each_both (Defaults' p u a v b) h k =
        let e = Defaults' p u a v b in
        let hr = right_of (f e) (each_part f a && each_part f b) h in
        let kr = right_of (g e) (each_part g a && each_part g b) k in
        and_from _ _ (and_from _ _ (left_of (f e) _ h) (left_of (g e) _ k))
        (and_from _ _ (each_both a (left_of (each_part f a) _ hr) (left_of (each_part g a) _ kr)) (each_both b (right_of (each_part f a) _ hr) (right_of (each_part g a) _ kr)))
    each_both (Unary' p s u a) h k =
        let e = Unary' p s u a in
        and_from _ _ (and_from _ _ (left_of (f e) _ h) (left_of (g e) _ k)) (each_both a (right_of (f e) _ h) (right_of (g e) _ k))
    each_both (Both' p s u a v b) h k =
        let e = Both' p s u a v b in
        let hr = right_of (f e) (each_part f a && each_part f b) h in
        let kr = right_of (g e) (each_part g a && each_part g b) k in
        and_from _ _ (and_from _ _ (left_of (f e) _ h) (left_of (g e) _ k))
        (and_from _ _ (each_both a (left_of (each_part f a) _ hr) (left_of (each_part g a) _ kr)) (each_both b (right_of (each_part f a) _ hr) (right_of (each_part g a) _ kr)))
    each_both (Choice' p u a v b w d) h k =
        let e = Choice' p u a v b w d in
        let hr = right_of (f e) (each_part f a && (each_part f b && each_part f d)) h in
        let kr = right_of (g e) (each_part g a && (each_part g b && each_part g d)) k in
        let hs = right_of (each_part f a) (each_part f b && each_part f d) hr in
        let ks = right_of (each_part g a) (each_part g b && each_part g d) kr in
        and_from _ _ (and_from _ _ (left_of (f e) _ h) (left_of (g e) _ k))
        (and_from _ _ (each_both a (left_of (each_part f a) _ hr) (left_of (each_part g a) _ kr))
        (and_from _ _ (each_both b (left_of (each_part f b) _ hs) (left_of (each_part g b) _ ks)) (each_both d (right_of (each_part f b) _ hs) (right_of (each_part g b) _ ks))))

    each_both_all : (args : Arguments) → each_argument f args ≡ true → each_argument g args ≡ true → each_argument both_of args ≡ true
    each_both_all End h k = refl
    each_both_all (More' u a v rest) h k =
        and_from _ _ (each_both a (left_of (each_part f a) _ h) (left_of (each_part g a) _ k)) (each_both_all rest (right_of (each_part f a) _ h) (right_of (each_part g a) _ k))

-- wholes, list after list

module _ (f : Whole → Bool) where
  pub wholes_join : (xs ys : List Whole) → all_wholes f xs ≡ true → all_wholes f ys ≡ true → all_wholes f (xs ++ ys) ≡ true
  wholes_join [] ys h g = g
  wholes_join (x ∷ xs) ys h g = and_from _ _ (left_of (f x) (all_wholes f xs) h) (wholes_join xs ys (right_of (f x) (all_wholes f xs) h) g)

  pub wholes_left : (xs ys : List Whole) → all_wholes f (xs ++ ys) ≡ true → all_wholes f xs ≡ true
  wholes_left [] ys h = refl
  wholes_left (x ∷ xs) ys h = and_from _ _ (left_of (f x) (all_wholes f (xs ++ ys)) h) (wholes_left xs ys (right_of (f x) (all_wholes f (xs ++ ys)) h))

  pub wholes_right : (xs ys : List Whole) → all_wholes f (xs ++ ys) ≡ true → all_wholes f ys ≡ true
  wholes_right [] ys h = h
  wholes_right (x ∷ xs) ys h = wholes_right xs ys (right_of (f x) (all_wholes f (xs ++ ys)) h)

pub wholes_both : (f g : Whole → Bool) (ws : List Whole) → all_wholes f ws ≡ true → all_wholes g ws ≡ true → all_wholes (λ w. f w && g w) ws ≡ true
wholes_both f g [] h k = refl
wholes_both f g (w ∷ ws) h k = and_from _ _ (and_from _ _ (left_of (f w) _ h) (left_of (g w) _ k)) (wholes_both f g ws (right_of (f w) _ h) (right_of (g w) _ k))

refused_left : (s : Setting) (xs ys : List Whole) → flat_map (refusals_of_whole s) (xs ++ ys) ≡ [] → flat_map (refusals_of_whole s) xs ≡ []
refused_left s xs ys h = none_left _ (flat_map (refusals_of_whole s) ys) (sym (flat_map-append (refusals_of_whole s) xs ys) ∙ h)

refused_right : (s : Setting) (xs ys : List Whole) → flat_map (refusals_of_whole s) (xs ++ ys) ≡ [] → flat_map (refusals_of_whole s) ys ≡ []
refused_right s xs ys h = none_right (flat_map (refusals_of_whole s) xs) _ (sym (flat_map-append (refusals_of_whole s) xs ys) ∙ h)

-- layouts agree with what is found

agree_from : (s : Setting) (kinds : List (Option Kind)) (as' bs : List Stream) (kept : List ℕ) (pacings : List ClausePacings) (n count : ℕ) → FilledStreams s kinds as' bs → missing_kinds kinds ≡ 0 → is_read_of (slice_get as' n) count ≡ true
    → (n < length (layouts_from bs kept pacings)) × (unwrap_or (slice_get kinds n) (Some kind.Int64) ≡ Some (kind_in (slice_get (layouts_from bs kept pacings) n))) × (parameters_of (slice_get (layouts_from bs kept pacings) n) ≡ stream_parameters (slice_get as' n))
agree_from s kinds [] [] kept pacings n count h m g = never_back g
agree_from s kinds [] (b ∷ bs) kept pacings n count h m g = absurd h
agree_from s kinds (a ∷ as') [] kept pacings n count h m g = absurd h
agree_from s [] (a ∷ as') (b ∷ bs) kept pacings zero count h m g = (omega arith, ap (λ o. Some (unwrap_or o kind.Int64)) (sym h.0.kind), sym h.0.parameters)
agree_from s (Some k ∷ kinds) (a ∷ as') (b ∷ bs) kept pacings zero count h m g = (omega arith, ap (λ o. Some (unwrap_or o kind.Int64)) (sym h.0.kind), sym h.0.parameters)
agree_from s (None ∷ kinds) (a ∷ as') (b ∷ bs) kept pacings n count h m g = absurd (omega (arith, m))
agree_from s [] (a ∷ as') (b ∷ bs) kept pacings (suc n) count h m g =
    let r = agree_from s [] as' bs (drop 1 kept) (drop 1 pacings) n count h.1 m g in (omega (arith, r.0), r.1, r.2)
agree_from s (Some k ∷ kinds) (a ∷ as') (b ∷ bs) kept pacings (suc n) count h m g =
    let r = agree_from s kinds as' bs (drop 1 kept) (drop 1 pacings) n count h.1 m g in (omega (arith, r.0), r.1, r.2)

-- constants

constant_typed : (c : Constant) → constant_refusals c ≡ [] → is_of_kind c.kind c.literal ≡ true
constant_typed c h = literal_typed c.kind c.literal c.before c.place h
  where
    literal_typed : (k : Kind) (v : Value) (before at : ℕ) → wanted_refusals k before (literal_part None v) ++ taken_literal at v (number_kind k) ≡ [] → is_of_kind k v ≡ true
    literal_typed k (value.Bool b) before at h =
        let t = taken_where (same_kind kind.Bool k && true) _ _ (none_left _ (taken_literal at (value.Bool b) (number_kind k)) h) in
        subst (λ z. is_bool z ≡ true) (kind_is kind.Bool k (left_of (same_kind kind.Bool k) true t)) refl
    literal_typed k (value.Text id) before at h =
        let t = taken_where (same_kind kind.Text k && true) _ _ (none_left _ (taken_literal at (value.Text id) (number_kind k)) h) in
        subst (λ z. is_text z ≡ true) (kind_is kind.Text k (left_of (same_kind kind.Text k) true t)) refl
    literal_typed k (value.Int z) before at h =
        let t = taken_where (is_integer k) _ _ (none_left _ (taken_literal at (value.Int z) (number_kind k)) h) in
        let e : number_kind k ≡ Some k = ap (λ b. if b then Some k else None) t in
        let r : taken_literal at (value.Int z) (Some k) ≡ [] = subst (λ o. taken_literal at (value.Int z) o ≡ []) e (none_right (if is_integer k then [] else _) (taken_literal at (value.Int z) (number_kind k)) h) in
        and_from _ _ t (taken_where (is_within k z) _ _ r)

pub constants_typed : (cs : List Constant) → flat_map constant_refusals cs ≡ [] → all_constants constant_is_typed cs ≡ true
constants_typed [] h = refl
constants_typed (c ∷ cs) h = and_from _ _ (constant_typed c (none_left (constant_refusals c) _ h)) (constants_typed cs (none_right (constant_refusals c) _ h))

first_or_later : (c : Constant) (cs : List Constant) (k : Kind) (v : Value) (b : Bool) → (same_kind c.kind k && values_same c.literal v) ≡ b → constant_is_typed c ≡ true
    → (is_constant cs k v ≡ true → is_of_kind k v ≡ true) → (b || is_constant cs k v) ≡ true → is_of_kind k v ≡ true
first_or_later c cs k v true e h later g =
    subst (λ z. is_of_kind z v ≡ true) (kind_is c.kind k (left_of (same_kind c.kind k) _ e))
    (subst (λ z. is_of_kind c.kind z ≡ true) (same_values c.literal v (right_of (same_kind c.kind k) _ e)) h)
first_or_later c cs k v false e h later g = later g

pub constant_fits : (cs : List Constant) → all_constants constant_is_typed cs ≡ true → (k : Kind) (v : Value) → is_constant cs k v ≡ true → is_of_kind k v ≡ true
constant_fits [] h k v g = never_back g
constant_fits (c ∷ cs) h k v g = first_or_later c cs k v (same_kind c.kind k && values_same c.literal v) refl (left_of (constant_is_typed c) _ h) (constant_fits cs (right_of (constant_is_typed c) _ h) k v) g

-- a whole expression, once it takes the kind that is asked of it

module _ (z : Scope) (want : Kind) (at : ℕ) where
  settled_of : (o : Option Kind) (k : Kind) (c : Bool) (g : Expr) → filled_if_free o (Of k c) g ≡ g
  settled_of None k c g = refl
  settled_of (Some l) k c g = refl

  whole_fits : (p : Found) (e g : Expr) → Holds z p e g → wanted_refusals want at p ≡ [] → taking_refusals (number_kind want) p e ≡ [] → Fits z want true (filled_if_free (number_kind want) p g)
  whole_fits (Of k c) e g h w r =
      let t = taken_where (same_kind k want && c) _ _ w in
      subst (λ x. Fits z want true x) (sym (settled_of (number_kind want) k c g)) (fits_at z k want c true g (kind_is k want (left_of (same_kind k want) c t)) (right_of (same_kind k want) c t) h)
  whole_fits Free e g h w r =
      let t = taken_where (is_integer want) _ _ w in
      operand z want Free (number_kind want) e g h t (ap (λ b. if b then Some want else None) t) r
  whole_fits Unknown e g h w r = absurd h
  whole_fits Broken e g h w r = absurd h

  fits_same : (e f : Expr) → Fits z want true e → SameTree e f → is_whole z want f ≡ true
  fits_same e f h s =
      let q = same_alike Equal (λ p q x. x) e f s in
      and_from _ _ (sym (alike_each Equal (part_is_typed z) (part_is_typed z) (equal_typed z) e f q) ∙ h.0)
      (and_from _ _ (same_where (noted f) want (sym (equal_noted e f q) ∙ h.1)) (sym (equal_certain z.windows e f q) ∙ h.2))

module _ (spec : Spec) (kinds : List (Option Kind)) (ls : List StreamLayout)
    (agree : (n : ℕ) (count : ℕ) → is_read_of (slice_get spec.streams n) count ≡ true
    → (nat_lt n (length ls) ≡ true) × (unwrap_or (slice_get kinds n) (Some kind.Int64) ≡ Some (kind_in (slice_get ls n))) × (parameters_of (slice_get ls n) ≡ stream_parameters (slice_get spec.streams n)))
    (fitting : (k : Kind) (v : Value) → is_constant spec.constants k v ≡ true → is_of_kind k v ≡ true) where
  abbrev pub scope_of : List Kind → Scope
  scope_of ks = record { streams = ls; windows = spec.windows; has_parameter = is_kind_at ks }

  -- what is known of a whole before kinds are found, and after
  abbrev pub is_good_whole : Whole → Bool
  is_good_whole w = whole_is_resolved spec w && whole_is_known spec w

  abbrev pub is_typed_whole : Whole → Bool
  is_typed_whole w = is_whole (scope_of w.parameters) w.want w.expr

  abbrev base : Setting
  base = setting_of spec kinds []

  whole_typed : (ks : List Kind) (want : Kind) (at : ℕ) (e f : Expr) → SameTree (filled_whole (setting_of spec kinds ks) want e) f → whole_refusals (setting_of spec kinds ks) want at e ≡ []
      → (each_part (is_resolved spec (length ks)) e && each_part (literal_is_known spec.constants) e) ≡ true → is_whole (scope_of ks) want f ≡ true
  whole_typed ks want at e f t r g =
      let s = setting_of spec kinds ks in
      let good = each_both (is_resolved spec (length ks)) (literal_is_known spec.constants) e (left_of _ _ g) (right_of (each_part (is_resolved spec (length ks)) e) _ g) in
      let h = sound spec kinds ks ls agree fitting e good (none_left (refusals_in s e) _ r) in
      let r2 = none_right (refusals_in s e) _ r in
      fits_same (scope_of ks) want at (filled_whole s want e) f
      (whole_fits (scope_of ks) want at (found s e) e (filled s e) h (none_left (wanted_refusals want at (found s e)) _ r2) (none_right (wanted_refusals want at (found s e)) _ r2)) t

  module _ (n : ℕ) (p : Part) (ks : List Kind) where
    with_typed : (wants gives : List Kind) (ats bts cts : List ℕ) (es fs : List Expr) → FilledWith (setting_of spec kinds ks) wants es fs
        → flat_map (refusals_of_whole base) (with_wholes n p ks wants ats es) ≡ [] → all_wholes is_good_whole (with_wholes n p ks gives bts es) ≡ true
        → all_wholes is_typed_whole (with_wholes n p ks wants cts fs) ≡ true
    with_typed wants gives ats bts cts [] [] t r g = refl
    with_typed wants gives ats bts cts [] (f ∷ fs) t r g = absurd t
    with_typed wants gives ats bts cts (e ∷ es) [] t r g = absurd t
    with_typed wants gives ats bts cts (e ∷ es) (f ∷ fs) t r g =
        let want = unwrap_or (slice_get wants 0) kind.Int64 in
        let at = unwrap_or (slice_get ats 0) 0 in
        let own = whole_refusals (setting_of spec kinds ks) want at e in
        let rest = with_wholes n p ks (drop 1 gives) (drop 1 bts) es in
        let good = each_part (is_resolved spec (length ks)) e && each_part (literal_is_known spec.constants) e in
        and_from _ _ (whole_typed ks want at e f t.0 (none_left own _ r) (left_of good (all_wholes is_good_whole rest) g))
        (with_typed (drop 1 wants) (drop 1 gives) (drop 1 ats) (drop 1 bts) (drop 1 cts) es fs t.1 (none_right own _ r) (right_of good (all_wholes is_good_whole rest) g))

    when_typed : (at bt : ℕ) (o q : Option Expr) → FilledWhen (setting_of spec kinds ks) o q
        → flat_map (refusals_of_whole base) (condition_wholes n p ks at o) ≡ [] → all_wholes is_good_whole (condition_wholes n p ks at o) ≡ true
        → all_wholes is_typed_whole (condition_wholes n p ks bt q) ≡ true
    when_typed at bt None None t r g = refl
    when_typed at bt None (Some f) t r g = absurd t
    when_typed at bt (Some e) None t r g = absurd t
    when_typed at bt (Some e) (Some f) t r g =
        let own = whole_refusals (setting_of spec kinds ks) kind.Bool at e in
        let good = each_part (is_resolved spec (length ks)) e && each_part (literal_is_known spec.constants) e in
        and_from _ _ (whole_typed ks kind.Bool at e f t (none_left own [] r) (left_of good true g)) refl

    clause_typed : (wants gives : List Kind) (o q : Option Clause) → FilledClauses (setting_of spec kinds ks) wants o q
        → flat_map (refusals_of_whole base) (clause_wholes n p ks wants o) ≡ [] → all_wholes is_good_whole (clause_wholes n p ks gives o) ≡ true
        → all_wholes is_typed_whole (clause_wholes n p ks wants q) ≡ true
    clause_typed wants gives None None t r g = refl
    clause_typed wants gives None (Some d) t r g = absurd t
    clause_typed wants gives (Some c) None t r g = absurd t
    clause_typed wants gives (Some c) (Some d) t r g =
        let xs = condition_wholes n p ks c.when_at c.when in
        let ys = with_wholes n p ks wants c.with_at c.with in
        let ys2 = with_wholes n p ks gives c.with_at c.with in
        wholes_join is_typed_whole (condition_wholes n p ks d.when_at d.when) (with_wholes n p ks wants d.with_at d.with)
        (when_typed c.when_at d.when_at c.when d.when t.condition (refused_left base xs ys r) (wholes_left is_good_whole xs ys2 g))
        (with_typed wants gives c.with_at c.with_at d.with_at c.with d.with t.expressions (refused_right base xs ys r) (wholes_right is_good_whole xs ys2 g))

  -- of a stream with the parameters of the one before, and its kind
  stream_typed : (n : ℕ) (k l m : Kind) (a b : Stream) (ps : List Kind) → FilledStream base k a b → a.parameters ≡ ps → k ≡ m
      → flat_map (refusals_of_whole base) (stream_wholes n a k) ≡ [] → all_wholes is_good_whole (stream_wholes n a l) ≡ true
      → all_wholes is_typed_whole (clause_wholes n part.Spawn [] ps b.spawn ++ (clause_wholes n part.Eval ps (m ∷ []) b.eval ++ clause_wholes n part.Close ps [] b.close)) ≡ true
  stream_typed n k l m a b ps t pe ke r g =
      let x1 = clause_wholes n part.Spawn [] a.parameters a.spawn in
      let x2 = clause_wholes n part.Eval a.parameters (k ∷ []) a.eval in
      let x3 = clause_wholes n part.Close a.parameters [] a.close in
      let y2 = clause_wholes n part.Eval a.parameters (l ∷ []) a.eval in
      let r2 = refused_right base x1 (x2 ++ x3) r in
      let g2 = wholes_right is_good_whole x1 (y2 ++ x3) g in
      subst (λ ps. all_wholes is_typed_whole (clause_wholes n part.Spawn [] ps b.spawn ++ (clause_wholes n part.Eval ps (m ∷ []) b.eval ++ clause_wholes n part.Close ps [] b.close)) ≡ true) pe
      (subst (λ m. all_wholes is_typed_whole (clause_wholes n part.Spawn [] a.parameters b.spawn ++ (clause_wholes n part.Eval a.parameters (m ∷ []) b.eval ++ clause_wholes n part.Close a.parameters [] b.close)) ≡ true) ke
      (wholes_join is_typed_whole (clause_wholes n part.Spawn [] a.parameters b.spawn) (clause_wholes n part.Eval a.parameters (k ∷ []) b.eval ++ clause_wholes n part.Close a.parameters [] b.close)
      (clause_typed n part.Spawn [] a.parameters a.parameters a.spawn b.spawn t.spawn (refused_left base x1 (x2 ++ x3) r) (wholes_left is_good_whole x1 (y2 ++ x3) g))
      (wholes_join is_typed_whole (clause_wholes n part.Eval a.parameters (k ∷ []) b.eval) (clause_wholes n part.Close a.parameters [] b.close)
      (clause_typed n part.Eval a.parameters (k ∷ []) (l ∷ []) a.eval b.eval t.eval (refused_left base x2 x3 r2) (wholes_left is_good_whole y2 x3 g2))
      (clause_typed n part.Close a.parameters [] [] a.close b.close t.close (refused_right base x2 x3 r2) (wholes_right is_good_whole y2 x3 g2)))))

  pub streams_typed : (n : ℕ) (now gives : List (Option Kind)) (as' bs : List Stream) → FilledStreams base now as' bs
      → flat_map (refusals_of_whole base) (wholes_from n as' now) ≡ [] → all_wholes is_good_whole (wholes_from n as' gives) ≡ true
      → all_wholes is_typed_whole (wholes_from n bs (noted_kinds bs)) ≡ true
  streams_typed n now gives [] [] t r g = refl
  streams_typed n now gives [] (b ∷ bs) t r g = absurd t
  streams_typed n now gives (a ∷ as') [] t r g = absurd t
  streams_typed n now gives (a ∷ as') (b ∷ bs) t r g =
      let k = unwrap_or (unwrap_or (slice_get now 0) None) kind.Int64 in
      let l = unwrap_or (unwrap_or (slice_get gives 0) None) kind.Int64 in
      let m = unwrap_or b.kind kind.Int64 in
      let e : k ≡ m = ap (λ o. unwrap_or o kind.Int64) (sym t.0.kind) in
      wholes_join is_typed_whole (stream_wholes n b m) (wholes_from (n + 1) bs (noted_kinds bs))
      (stream_typed n k l m a b b.parameters t.0 t.0.parameters e (refused_left base (stream_wholes n a k) (wholes_from (n + 1) as' (drop 1 now)) r) (wholes_left is_good_whole (stream_wholes n a l) (wholes_from (n + 1) as' (drop 1 gives)) g))
      (streams_typed (n + 1) (drop 1 now) (drop 1 gives) as' bs t.1 (refused_right base (stream_wholes n a k) (wholes_from (n + 1) as' (drop 1 now)) r) (wholes_right is_good_whole (stream_wholes n a l) (wholes_from (n + 1) as' (drop 1 gives)) g))

pub agreeing : (s : Setting) (kinds : List (Option Kind)) (as' bs : List Stream) → FilledStreams s kinds as' bs → missing_kinds kinds ≡ 0 → (n count : ℕ) → is_read_of (slice_get as' n) count ≡ true
    → (nat_lt n (length (layouts_from bs [] [])) ≡ true) × (unwrap_or (slice_get kinds n) (Some kind.Int64) ≡ Some (kind_in (slice_get (layouts_from bs [] []) n))) × (parameters_of (slice_get (layouts_from bs [] []) n) ≡ stream_parameters (slice_get as' n))
agreeing s kinds as' bs t m n count g = let r = agree_from s kinds as' bs [] [] n count t m g in (lt-ltb n (length (layouts_from bs [] [])) r.0, r.1, r.2)
