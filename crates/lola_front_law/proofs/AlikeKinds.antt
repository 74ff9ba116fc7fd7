-- Expressions that are alike are found to be the same, and the same is refused of them for kinds.
use Rattle.std.proofs.Common.{◌≡◌, refl, ap, ◌∙◌, ℕ, List, [], ◌∷◌, ◌++◌, ◌||◌, Bool, Option, Some, None, slice_get, drop, unwrap_or, if◌then◌else◌}
use Rattle.lola_value.specs.declared.front.Refusal.{Refusal}
use Rattle.lola_value.specs.declared.value.Kind.{Kind}
use Rattle.lola_value.specs.declared.value.Kind.TheVariants as kind
use Rattle.lola_value.specs.declared.value.Value.{Value}
use Rattle.lola_value.specs.declared.value.Value.TheVariants as value
use Rattle.lola_model.specs.declared.expr.Place.{Place}
use Rattle.lola_model.specs.declared.expr.Access.{Access}
use Rattle.lola_model.specs.declared.expr.Prefix.{Prefix}
use Rattle.lola_model.specs.declared.expr.Expr.{Expr}
use Rattle.lola_model.specs.declared.expr.Expr.TheVariants.{Literal, Parameter, Read, Window, Defaults', Unary', Both', Choice'}
use Rattle.lola_model.specs.declared.expr.Arguments.{Arguments}
use Rattle.lola_model.specs.declared.expr.Arguments.TheVariants.{End, More'}
use Rattle.lola_model.specs.declared.spec.WindowSpec.{WindowSpec}
use Rattle.lola_model.specs.Typing.{is_direct}
use Rattle.lola_types.specs.Found.{Setting, found, found_all, joint, is_broken, some_broken, arguments_fit, literal_part, parameter_part, reference_part, of_kind, kind_found, parameters_at, window_parameters, window_at, window_part, defaults_part, prefix_part, binary_part, choice_part}
use Rattle.lola_types.specs.Refused.{literal_refusals, operator_refusals, free_refusals, taking_refusals, own_refusals, argument_refusals, fitting_refusals, refusals_in, refusals_in_all, wanted_refusals, number_kind, whole_refusals, taken, operand_kind}
use Rattle.lola_types.specs.declared.found.Found.{Found}
use Rattle.lola_types.specs.declared.found.Found.TheVariants.{Of, Free, Unknown, Broken}
use Rattle.lola_front_law.proofs.AlikeTrees.{SameValue, Alike, AlikeAll}

pub two : {A B C : Type 0} (f : A → B → C) (a b : A) (c d : B) → a ≡ b → c ≡ d → f a c ≡ f b d
two {A} f a b c d e g = ap (λ (x : A). f x c) e ∙ ap (f b) g

pub three : {A B C D : Type 0} (f : A → B → C → D) (a b : A) (c d : B) (p q : C) → a ≡ b → c ≡ d → p ≡ q → f a c p ≡ f b d q
three {A} f a b c d p q e g h = ap (λ (x : A). f x c p) e ∙ two (f b) c d p q g h

pub both : (xs ys us vs : List Refusal) → xs ≡ ys → us ≡ vs → xs ++ us ≡ ys ++ vs
both xs ys us vs e g = two (λ (l r : List Refusal). l ++ r) xs ys us vs e g

-- ---- literals

pub literal_kind : (k : Option Kind) (v w : Value) → SameValue v w → literal_part k v ≡ literal_part k w
literal_kind (Some k) v w h = refl
literal_kind None (value.Int y) (value.Int z) h = refl
literal_kind None (value.Bool b) (value.Bool c) h = refl
literal_kind None (value.Text i) (value.Text j) h = refl
literal_kind None _ _ h = absurd h

pub literal_refused : (at : ℕ) (k : Kind) (v w : Value) → SameValue v w → literal_refusals at v k ≡ literal_refusals at w k
literal_refused at k (value.Int y) (value.Int z) h = ap (λ x. literal_refusals at (value.Int x) k) h
literal_refused at k (value.Bool b) (value.Bool c) h = refl
literal_refused at k (value.Text i) (value.Text j) h = refl
literal_refused at k _ _ h = absurd h

module _ (ws vs : List WindowSpec) where
  free_alike : (k : Kind) (e f : Expr) → Alike ws vs e f → free_refusals k e ≡ free_refusals k f
  free_alike k (Literal p v) (Literal q w) h = ap (λ (x : Place). literal_refusals x.at v k) h.0 ∙ literal_refused q.at k v w h.1
  free_alike k (Parameter p i) (Parameter q j) h = refl
  free_alike k (Read p n how args) (Read q m why brgs) h = refl
  free_alike k (Window p n args) (Window q m brgs) h = refl
  free_alike k (Defaults' p u a v b) (Defaults' q x c y d) h = both _ _ _ _ (free_alike k a c h.1) (free_alike k b d h.2)
  free_alike k (Unary' p s u a) (Unary' q r x c) h = both _ _ _ _ (two (λ (z : Place) (g : Prefix). operator_refusals z.at g k) p q s r h.0 h.1) (free_alike k a c h.2)
  free_alike k (Both' p s u a v b) (Both' q r x c y d) h = both _ _ _ _ (free_alike k a c h.2) (free_alike k b d h.3)
  free_alike k (Choice' p u t v a w b) (Choice' q x g y c z d) h = both _ _ _ _ (free_alike k a c h.2) (free_alike k b d h.3)
  free_alike k _ _ h = absurd h

  taking_alike : (o : Option Kind) (p : Found) (e f : Expr) → Alike ws vs e f → taking_refusals o p e ≡ taking_refusals o p f
  taking_alike None p e f h = refl
  taking_alike (Some k) (Of l c) e f h = refl
  taking_alike (Some k) Free e f h = free_alike k e f h
  taking_alike (Some k) Unknown e f h = refl
  taking_alike (Some k) Broken e f h = refl

  taking_same : (o u : Option Kind) (p q : Found) (e f : Expr) → o ≡ u → p ≡ q → Alike ws vs e f → taking_refusals o p e ≡ taking_refusals u q f
  taking_same o u p q e f g h all = two (λ (x : Option Kind) (y : Found). taking_refusals x y e) o u p q g h ∙ taking_alike u q e f all

same_reference : (as' bs : List Found) (ks ls : List Kind) (p q : Found) → as' ≡ bs → ks ≡ ls → p ≡ q
    → reference_part (some_broken as') (arguments_fit as' ks) p ≡ reference_part (some_broken bs) (arguments_fit bs ls) q
same_reference as' bs ks ls p q a b c = three (λ (xs : List Found) (ms : List Kind) (r : Found). reference_part (some_broken xs) (arguments_fit xs ms) r) as' bs ks ls p q a b c

own_same : (p q : Place) (b c : Bool) (w v : Found) → p ≡ q → b ≡ c → w ≡ v → own_refusals p.at b w ≡ own_refusals q.at c v
own_same p q b c w v e f g = three (λ (x : Place) (y : Bool) (z : Found). own_refusals x.at y z) p q b c w v e f g

module _ (s t : Setting) (kinds : s.kinds ≡ t.kinds) (inside : s.parameters ≡ t.parameters) (outside : (n : ℕ) → parameters_at s n ≡ parameters_at t n) where
  kind_same : (n : ℕ) → kind_found s n ≡ kind_found t n
  kind_same n = ap (λ (ks : List (Option Kind)). unwrap_or (slice_get ks n) (Some kind.Int64)) kinds

  window_same : (o : Option WindowSpec) → window_at s o ≡ window_at t o
  window_same None = refl
  window_same (Some w) = ap (window_part w) (kind_same w.target)

  window_kinds : (o : Option WindowSpec) → window_parameters s o ≡ window_parameters t o
  window_kinds None = refl
  window_kinds (Some w) = outside w.target

  mutual
    pub found_alike : (e f : Expr) → Alike s.windows t.windows e f → found s e ≡ found t f
    found_alike (Literal p v) (Literal q w) h = ap (λ (x : Place). literal_part x.kind v) h.0 ∙ literal_kind q.kind v w h.1
    found_alike (Parameter p i) (Parameter q j) h = two (λ (ks : List Kind) (n : ℕ). parameter_part (slice_get ks n)) s.parameters t.parameters i j inside h.1
    found_alike (Read p n how args) (Read q m why brgs) h =
        same_reference (found_all s args) (found_all t brgs) (parameters_at s n) (parameters_at t m) (of_kind (kind_found s n) (is_direct how)) (of_kind (kind_found t m) (is_direct why))
        (all_found args brgs h.3) (outside n ∙ ap (parameters_at t) h.1)
        (two (λ (k : Option Kind) (g : Access). of_kind k (is_direct g)) (kind_found s n) (kind_found t m) how why (kind_same n ∙ ap (kind_found t) h.1) h.2)
    found_alike (Window p n args) (Window q m brgs) h =
        same_reference (found_all s args) (found_all t brgs) (window_parameters s (slice_get s.windows n)) (window_parameters t (slice_get t.windows m))
        (window_at s (slice_get s.windows n)) (window_at t (slice_get t.windows m))
        (all_found args brgs h.2) (window_kinds (slice_get s.windows n) ∙ ap (window_parameters t) h.1) (window_same (slice_get s.windows n) ∙ ap (window_at t) h.1)
    found_alike (Defaults' p u a v b) (Defaults' q x c y d) h = two defaults_part _ _ _ _ (found_alike a c h.1) (found_alike b d h.2)
    found_alike (Unary' p g u a) (Unary' q r x c) h = two prefix_part g r _ _ h.1 (found_alike a c h.2)
    found_alike (Both' p g u a v b) (Both' q r x c y d) h = three binary_part g r _ _ _ _ h.1 (found_alike a c h.2) (found_alike b d h.3)
    found_alike (Choice' p u a v b w e) (Choice' q x c y d z f) h = three choice_part _ _ _ _ _ _ (found_alike a c h.1) (found_alike b d h.2) (found_alike e f h.3)
    found_alike _ _ h = absurd h

    all_found : (args brgs : Arguments) → AlikeAll s.windows t.windows args brgs → found_all s args ≡ found_all t brgs
    all_found End End h = refl
    all_found (More' u a v rest) (More' x c y more) h = two (λ (p : Found) (ps : List Found). p ∷ ps) _ _ _ _ (found_alike a c h.0) (all_found rest more h.1)
    all_found _ _ h = absurd h

  arguments_refused : (ks : List Kind) (args brgs : Arguments) → AlikeAll s.windows t.windows args brgs → argument_refusals s ks args ≡ argument_refusals t ks brgs
  arguments_refused ks End End h = refl
  arguments_refused ks (More' u a v rest) (More' x c y more) h =
      both _ _ _ _ (taking_same s.windows t.windows (slice_get ks 0) (slice_get ks 0) (found s a) (found t c) a c refl (found_alike a c h.0) h.0) (arguments_refused (drop 1 ks) rest more h.1)
  arguments_refused ks _ _ h = absurd h

  fitting_same : (w v : Found) (ks ls : List Kind) (args brgs : Arguments) → w ≡ v → ks ≡ ls → AlikeAll s.windows t.windows args brgs → fitting_refusals s w ks args ≡ fitting_refusals t v ls brgs
  fitting_same w v ks ls args brgs e f h =
      two (λ (x : Found) (rs : List Refusal). if is_broken x then [] else rs) w v (argument_refusals s ks args) (argument_refusals t ls brgs) e
      (arguments_refused ks args brgs h ∙ ap (λ (ms : List Kind). argument_refusals t ms brgs) f)

  taking : (o u : Option Kind) (e f : Expr) → o ≡ u → Alike s.windows t.windows e f → taking_refusals o (found s e) e ≡ taking_refusals u (found t f) f
  taking o u e f g h = taking_same s.windows t.windows o u (found s e) (found t f) e f g (found_alike e f h) h

  mutual
    refused_alike : (e f : Expr) → Alike s.windows t.windows e f → refusals_in s e ≡ refusals_in t f
    refused_alike (Literal p v) (Literal q w) h = refl
    refused_alike (Parameter p i) (Parameter q j) h = refl
    refused_alike (Read p n how args) (Read q m why brgs) h =
        let whole = found_alike (Read p n how args) (Read q m why brgs) h in
        both _ _ _ _ (all_refused args brgs h.3)
        (both _ _ _ _ (own_same p q _ _ _ _ h.0 (ap some_broken (all_found args brgs h.3)) whole)
        (fitting_same _ _ (parameters_at s n) (parameters_at t m) args brgs whole (outside n ∙ ap (parameters_at t) h.1) h.3))
    refused_alike (Window p n args) (Window q m brgs) h =
        let whole = found_alike (Window p n args) (Window q m brgs) h in
        both _ _ _ _ (all_refused args brgs h.2)
        (both _ _ _ _ (own_same p q _ _ _ _ h.0 (ap some_broken (all_found args brgs h.2)) whole)
        (fitting_same _ _ (window_parameters s (slice_get s.windows n)) (window_parameters t (slice_get t.windows m)) args brgs whole
        (window_kinds (slice_get s.windows n) ∙ ap (window_parameters t) h.1) h.2))
    refused_alike (Defaults' p u a v b) (Defaults' q x c y d) h =
        let whole = found_alike (Defaults' p u a v b) (Defaults' q x c y d) h in
        both _ _ _ _ (refused_alike a c h.1)
        (both _ _ _ _ (refused_alike b d h.2)
        (both _ _ _ _
        (own_same p q _ _ _ _ h.0 (two (λ (g k : Found). is_broken g || is_broken k) _ _ _ _ (found_alike a c h.1) (found_alike b d h.2)) whole)
        (both _ _ _ _ (taking _ _ a c (ap taken whole) h.1) (taking _ _ b d (ap taken whole) h.2))))
    refused_alike (Unary' p g u a) (Unary' q r x c) h =
        let whole = found_alike (Unary' p g u a) (Unary' q r x c) h in
        both _ _ _ _ (refused_alike a c h.2)
        (both _ _ _ _ (own_same p q _ _ _ _ h.0 (ap is_broken (found_alike a c h.2)) whole) (taking _ _ a c (ap taken whole) h.2))
    refused_alike (Both' p g u a v b) (Both' q r x c y d) h =
        let whole = found_alike (Both' p g u a v b) (Both' q r x c y d) h in
        let kept = three operand_kind g r _ _ _ _ h.1 whole (two joint _ _ _ _ (found_alike a c h.2) (found_alike b d h.3)) in
        both _ _ _ _ (refused_alike a c h.2)
        (both _ _ _ _ (refused_alike b d h.3)
        (both _ _ _ _
        (own_same p q _ _ _ _ h.0 (two (λ (l k : Found). is_broken l || is_broken k) _ _ _ _ (found_alike a c h.2) (found_alike b d h.3)) whole)
        (both _ _ _ _ (taking _ _ a c kept h.2) (taking _ _ b d kept h.3))))
    refused_alike (Choice' p u a v b w e) (Choice' q x c y d z f) h =
        let whole = found_alike (Choice' p u a v b w e) (Choice' q x c y d z f) h in
        both _ _ _ _ (refused_alike a c h.1)
        (both _ _ _ _ (refused_alike b d h.2)
        (both _ _ _ _ (refused_alike e f h.3)
        (both _ _ _ _
        (own_same p q _ _ _ _ h.0
        (three (λ (l k m : Found). is_broken l || (is_broken k || is_broken m)) _ _ _ _ _ _ (found_alike a c h.1) (found_alike b d h.2) (found_alike e f h.3)) whole)
        (both _ _ _ _ (taking _ _ b d (ap taken whole) h.2) (taking _ _ e f (ap taken whole) h.3)))))
    refused_alike _ _ h = absurd h

    all_refused : (args brgs : Arguments) → AlikeAll s.windows t.windows args brgs → refusals_in_all s args ≡ refusals_in_all t brgs
    all_refused End End h = refl
    all_refused (More' u a v rest) (More' x c y more) h = both _ _ _ _ (refused_alike a c h.0) (all_refused rest more h.1)
    all_refused _ _ h = absurd h

  pub whole_alike : (want : Kind) (at : ℕ) (e f : Expr) → Alike s.windows t.windows e f → whole_refusals s want at e ≡ whole_refusals t want at f
  whole_alike want at e f h =
      both _ _ _ _ (refused_alike e f h)
      (both _ _ _ _ (ap (wanted_refusals want at) (found_alike e f h)) (taking (number_kind want) (number_kind want) e f refl h))
