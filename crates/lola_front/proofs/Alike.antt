-- Expressions that differ in what their parts note and in the addresses of their boxes alone.
use Rattle.std.proofs.Common.{◌<◌, ◌≡◌, ℕ, refl, ap, ◌∙◌, subst, Bool, ◌&&◌, List, [], ◌∷◌, Option, Some, None, slice_get, drop, nat_lt, length, ◌+◌}
use Rattle.lola_value.specs.declared.value.Kind.{Kind}
use Rattle.lola_value.specs.declared.value.Kind.TheVariants as kind
use Rattle.lola_value.specs.Kinds.{is_of_kind}
use Rattle.lola_model.specs.Store.{kind_in, parameters_of, gives_kind}
use Rattle.lola_model.specs.Typing.{Scope, same_kinds, target_in, takes, noted, noted_all, place_in, is_certain, is_certain_window, is_direct, row_holds, window_row, prefix_row, binary_row, same_kind, is_noted, part_is_typed, each_part, each_argument, count_of}
use Rattle.lola_model.specs.Denotation.{kind_of}
use Rattle.lola_model.specs.Named.{is_resolved, is_read_of, is_window_onto, offset_in, window_number, literal_text, text_number}
use Rattle.lola_model.specs.Bounds.{offset_by}
use Rattle.lola_model.specs.Accepted.{IsInRange, AreInRange}
use Rattle.lola_model.specs.Parts.{listed, listed_all}
use Rattle.lola_model.specs.declared.expr.Place.{Place}
use Rattle.lola_model.specs.declared.expr.Expr.{Expr}
use Rattle.lola_model.specs.declared.expr.Expr.TheVariants.{Literal, Parameter, Read, Window, Defaults', Unary', Both', Choice'}
use Rattle.lola_model.specs.declared.expr.Arguments.{Arguments}
use Rattle.lola_model.specs.declared.expr.Arguments.TheVariants.{End, More'}
use Rattle.lola_model.specs.declared.spec.Spec.{Spec}
use Rattle.lola_model.specs.declared.spec.WindowSpec.{WindowSpec}
use Rattle.lola_types.specs.Found.{Setting, found, parameters_at, window_parameters, joint}
use Rattle.lola_types.specs.Refused.{taken, operand_kind}
use Rattle.lola_types.specs.Filled.{given_kind, filled_if_free, filled, filled_all, SameTree, SameArguments}
use Rattle.lola_front.proofs.Bools.{and_same, append_same}
use Rattle.lola_types.specs.declared.found.Found.{Found}
use Rattle.lola_types.specs.declared.found.Found.TheVariants.{Of, Free, Unknown, Broken}

module _ (R : Place → Place → Type 0) where
  abbrev mutual
    -- the same tree, but for places, which stand in a relation
    pub Alike : Expr → Expr → Type 0
    Alike (Literal p v) (Literal q w) = R p q × (v ≡ w)
    Alike (Parameter p i) (Parameter q j) = R p q × (i ≡ j)
    Alike (Read p n how args) (Read q m why brgs) = R p q × (n ≡ m) × (how ≡ why) × AlikeAll args brgs
    Alike (Window p n args) (Window q m brgs) = R p q × (n ≡ m) × AlikeAll args brgs
    Alike (Defaults' p u a v b) (Defaults' q x c y d) = R p q × Alike a c × Alike b d
    Alike (Unary' p s u a) (Unary' q r x c) = R p q × (s ≡ r) × Alike a c
    Alike (Both' p s u a v b) (Both' q r x c y d) = R p q × (s ≡ r) × Alike a c × Alike b d
    Alike (Choice' p u a v b w e) (Choice' q x c y d z f) = R p q × Alike a c × Alike b d × Alike e f
    Alike _ _ = ⊥

    pub AlikeAll : Arguments → Arguments → Type 0
    AlikeAll End End = Unit {0}
    AlikeAll (More' u a v rest) (More' x c y more) = Alike a c × AlikeAll rest more
    AlikeAll _ _ = ⊥

  module _ (t t2 : Expr → Bool) (same : (e f : Expr) → Alike e f → t e ≡ t2 f) where
    mutual
      -- tests that agree on parts that are alike agree on the whole
      pub alike_each : (e f : Expr) → Alike e f → each_part t e ≡ each_part t2 f
      alike_each (Literal p v) (Literal q w) h = same (Literal p v) (Literal q w) h
      alike_each (Parameter p i) (Parameter q j) h = same (Parameter p i) (Parameter q j) h
      alike_each (Read p n how args) (Read q m why brgs) h = and_same _ _ _ _ (same (Read p n how args) (Read q m why brgs) h) (alike_each_all args brgs h.3)
      alike_each (Window p n args) (Window q m brgs) h = and_same _ _ _ _ (same (Window p n args) (Window q m brgs) h) (alike_each_all args brgs h.2)
      alike_each (Defaults' p u a v b) (Defaults' q x c y d) h = and_same _ _ _ _ (same (Defaults' p u a v b) (Defaults' q x c y d) h) (and_same _ _ _ _ (alike_each a c h.1) (alike_each b d h.2))
      alike_each (Unary' p s u a) (Unary' q r x c) h = and_same _ _ _ _ (same (Unary' p s u a) (Unary' q r x c) h) (alike_each a c h.2)
      alike_each (Both' p s u a v b) (Both' q r x c y d) h = and_same _ _ _ _ (same (Both' p s u a v b) (Both' q r x c y d) h) (and_same _ _ _ _ (alike_each a c h.2) (alike_each b d h.3))
      alike_each (Choice' p u a v b w e) (Choice' q x c y d z f) h = and_same _ _ _ _ (same (Choice' p u a v b w e) (Choice' q x c y d z f) h) (and_same _ _ _ _ (alike_each a c h.1) (and_same _ _ _ _ (alike_each b d h.2) (alike_each e f h.3)))
      alike_each _ _ h = absurd h

      alike_each_all : (args brgs : Arguments) → AlikeAll args brgs → each_argument t args ≡ each_argument t2 brgs
      alike_each_all End End h = refl
      alike_each_all (More' u a v rest) (More' x c y more) h = and_same _ _ _ _ (alike_each a c h.0) (alike_each_all rest more h.1)
      alike_each_all _ _ h = absurd h

  module _ (A : Type 0) (t : Expr → List A) (same : (e f : Expr) → Alike e f → t e ≡ t f) where
    mutual
      -- .. and list the same
      pub alike_listed : (e f : Expr) → Alike e f → listed t e ≡ listed t f
      alike_listed (Literal p v) (Literal q w) h = same (Literal p v) (Literal q w) h
      alike_listed (Parameter p i) (Parameter q j) h = same (Parameter p i) (Parameter q j) h
      alike_listed (Read p n how args) (Read q m why brgs) h = append_same _ _ _ _ (same (Read p n how args) (Read q m why brgs) h) (alike_listed_all args brgs h.3)
      alike_listed (Window p n args) (Window q m brgs) h = append_same _ _ _ _ (same (Window p n args) (Window q m brgs) h) (alike_listed_all args brgs h.2)
      alike_listed (Defaults' p u a v b) (Defaults' q x c y d) h = append_same _ _ _ _ (same (Defaults' p u a v b) (Defaults' q x c y d) h) (append_same _ _ _ _ (alike_listed a c h.1) (alike_listed b d h.2))
      alike_listed (Unary' p s u a) (Unary' q r x c) h = append_same _ _ _ _ (same (Unary' p s u a) (Unary' q r x c) h) (alike_listed a c h.2)
      alike_listed (Both' p s u a v b) (Both' q r x c y d) h = append_same _ _ _ _ (same (Both' p s u a v b) (Both' q r x c y d) h) (append_same _ _ _ _ (alike_listed a c h.2) (alike_listed b d h.3))
      alike_listed (Choice' p u a v b w e) (Choice' q x c y d z f) h = append_same _ _ _ _ (same (Choice' p u a v b w e) (Choice' q x c y d z f) h) (append_same _ _ _ _ (alike_listed a c h.1) (append_same _ _ _ _ (alike_listed b d h.2) (alike_listed e f h.3)))
      alike_listed _ _ h = absurd h

      alike_listed_all : (args brgs : Arguments) → AlikeAll args brgs → listed_all t args ≡ listed_all t brgs
      alike_listed_all End End h = refl
      alike_listed_all (More' u a v rest) (More' x c y more) h = append_same _ _ _ _ (alike_listed a c h.0) (alike_listed_all rest more h.1)
      alike_listed_all _ _ h = absurd h

  alike_count : (args brgs : Arguments) → AlikeAll args brgs → count_of args ≡ count_of brgs
  alike_count End End h = refl
  alike_count (More' u a v rest) (More' x c y more) h = ap (λ n. n + 1) (alike_count rest more h.1)
  alike_count _ _ h = absurd h

  -- what tells parts not apart whose places differ

  pub alike_resolved : (spec full : Spec) (ks : ℕ) → ((n count : ℕ) → is_read_of (slice_get spec.streams n) count ≡ is_read_of (slice_get full.streams n) count) → spec.windows ≡ full.windows
      → (e f : Expr) → Alike e f → is_resolved spec ks e ≡ is_resolved full ks f
  alike_resolved spec full ks rs ws (Literal p v) (Literal q w) h = refl
  alike_resolved spec full ks rs ws (Parameter p i) (Parameter q j) h = ap (λ n. nat_lt n ks) h.1
  alike_resolved spec full ks rs ws (Read p n how args) (Read q m why brgs) h =
      ap (λ x. is_read_of (slice_get spec.streams x) (count_of args)) h.1 ∙ (ap (λ x. is_read_of (slice_get spec.streams m) x) (alike_count args brgs h.3) ∙ rs m (count_of brgs))
  alike_resolved spec full ks rs ws (Window p n args) (Window q m brgs) h =
      ap (λ x. is_window_onto spec.streams (slice_get spec.windows x) (count_of args)) h.1
      ∙ (ap (λ x. is_window_onto spec.streams (slice_get spec.windows m) x) (alike_count args brgs h.2)
      ∙ (ap (λ x. is_window_onto spec.streams (slice_get x m) (count_of brgs)) ws ∙ onto_same (slice_get full.windows m) (count_of brgs)))
    where
      onto_same : (o : Option WindowSpec) (count : ℕ) → is_window_onto spec.streams o count ≡ is_window_onto full.streams o count
      onto_same None count = refl
      onto_same (Some w) count = rs w.target count
  alike_resolved spec full ks rs ws (Defaults' p u a v b) (Defaults' q x c y d) h = refl
  alike_resolved spec full ks rs ws (Unary' p s u a) (Unary' q r x c) h = refl
  alike_resolved spec full ks rs ws (Both' p s u a v b) (Both' q r x c y d) h = refl
  alike_resolved spec full ks rs ws (Choice' p u a v b w e) (Choice' q x c y d z f) h = refl
  alike_resolved spec full ks rs ws _ _ h = absurd h

  pub alike_offset : (e f : Expr) → Alike e f → offset_in e ≡ offset_in f
  alike_offset (Literal p v) (Literal q w) h = refl
  alike_offset (Parameter p i) (Parameter q j) h = refl
  alike_offset (Read p n how args) (Read q m why brgs) h = ap offset_by h.2
  alike_offset (Window p n args) (Window q m brgs) h = refl
  alike_offset (Defaults' p u a v b) (Defaults' q x c y d) h = refl
  alike_offset (Unary' p s u a) (Unary' q r x c) h = refl
  alike_offset (Both' p s u a v b) (Both' q r x c y d) h = refl
  alike_offset (Choice' p u a v b w e) (Choice' q x c y d z f) h = refl
  alike_offset _ _ h = absurd h

  pub alike_window : (e f : Expr) → Alike e f → window_number e ≡ window_number f
  alike_window (Literal p v) (Literal q w) h = refl
  alike_window (Parameter p i) (Parameter q j) h = refl
  alike_window (Read p n how args) (Read q m why brgs) h = refl
  alike_window (Window p n args) (Window q m brgs) h = ap (λ x. x ∷ []) h.1
  alike_window (Defaults' p u a v b) (Defaults' q x c y d) h = refl
  alike_window (Unary' p s u a) (Unary' q r x c) h = refl
  alike_window (Both' p s u a v b) (Both' q r x c y d) h = refl
  alike_window (Choice' p u a v b w e) (Choice' q x c y d z f) h = refl
  alike_window _ _ h = absurd h

  pub alike_text : (e f : Expr) → Alike e f → literal_text e ≡ literal_text f
  alike_text (Literal p v) (Literal q w) h = ap text_number h.1
  alike_text (Parameter p i) (Parameter q j) h = refl
  alike_text (Read p n how args) (Read q m why brgs) h = refl
  alike_text (Window p n args) (Window q m brgs) h = refl
  alike_text (Defaults' p u a v b) (Defaults' q x c y d) h = refl
  alike_text (Unary' p s u a) (Unary' q r x c) h = refl
  alike_text (Both' p s u a v b) (Both' q r x c y d) h = refl
  alike_text (Choice' p u a v b w e) (Choice' q x c y d z f) h = refl
  alike_text _ _ h = absurd h

-- numbers in range stay in range

module _ (R : Place → Place → Type 0) (streams windows : ℕ) where
  mutual
    pub alike_range : (e f : Expr) → Alike R e f → IsInRange streams windows e → IsInRange streams windows f
    alike_range (Literal p v) (Literal q w) h r = tt
    alike_range (Parameter p i) (Parameter q j) h r = tt
    alike_range (Read p n how args) (Read q m why brgs) h r = (subst (λ x. x < streams) h.1 r.0, alike_range_all args brgs h.3 r.1)
    alike_range (Window p n args) (Window q m brgs) h r = (subst (λ x. x < windows) h.1 r.0, alike_range_all args brgs h.2 r.1)
    alike_range (Defaults' p u a v b) (Defaults' q x c y d) h r = (alike_range a c h.1 r.0, alike_range b d h.2 r.1)
    alike_range (Unary' p s u a) (Unary' q o x c) h r = alike_range a c h.2 r
    alike_range (Both' p s u a v b) (Both' q o x c y d) h r = (alike_range a c h.2 r.0, alike_range b d h.3 r.1)
    alike_range (Choice' p u a v b w e) (Choice' q x c y d z f) h r = (alike_range a c h.1 r.0, alike_range b d h.2 r.1, alike_range e f h.3 r.2)
    alike_range _ _ h r = absurd h

    alike_range_all : (args brgs : Arguments) → AlikeAll R args brgs → AreInRange streams windows args → AreInRange streams windows brgs
    alike_range_all End End h r = tt
    alike_range_all (More' u a v rest) (More' x c y more) h r = (alike_range a c h.0 r.0, alike_range_all rest more h.1 r.1)
    alike_range_all _ _ h r = absurd h

-- trees that are the same are alike, with equal places

module _ (R : Place → Place → Type 0) (from : (p q : Place) → p ≡ q → R p q) where
  mutual
    pub same_alike : (e f : Expr) → SameTree e f → Alike R e f
    same_alike (Literal p v) (Literal q w) h = (from p q h.0, h.1)
    same_alike (Parameter p i) (Parameter q j) h = (from p q h.0, h.1)
    same_alike (Read p n how args) (Read q m why brgs) h = (from p q h.0, h.1, h.2, same_alike_all args brgs h.3)
    same_alike (Window p n args) (Window q m brgs) h = (from p q h.0, h.1, same_alike_all args brgs h.2)
    same_alike (Defaults' p u a v b) (Defaults' q x c y d) h = (from p q h.0, same_alike a c h.1, same_alike b d h.2)
    same_alike (Unary' p s u a) (Unary' q r x c) h = (from p q h.0, h.1, same_alike a c h.2)
    same_alike (Both' p s u a v b) (Both' q r x c y d) h = (from p q h.0, h.1, same_alike a c h.2, same_alike b d h.3)
    same_alike (Choice' p u a v b w e) (Choice' q x c y d z f) h = (from p q h.0, same_alike a c h.1, same_alike b d h.2, same_alike e f h.3)
    same_alike _ _ h = absurd h

    same_alike_all : (args brgs : Arguments) → SameArguments args brgs → AlikeAll R args brgs
    same_alike_all End End h = tt
    same_alike_all (More' u a v rest) (More' x c y more) h = (same_alike a c h.0, same_alike_all rest more h.1)
    same_alike_all _ _ h = absurd h

-- with equal places, what is noted and whether rows hold

abbrev pub Equal : Place → Place → Type 0
Equal p q = p ≡ q

pub equal_place : (e f : Expr) → Alike Equal e f → place_in e ≡ place_in f
equal_place (Literal p v) (Literal q w) h = h.0
equal_place (Parameter p i) (Parameter q j) h = h.0
equal_place (Read p n how args) (Read q m why brgs) h = h.0
equal_place (Window p n args) (Window q m brgs) h = h.0
equal_place (Defaults' p u a v b) (Defaults' q x c y d) h = h.0
equal_place (Unary' p s u a) (Unary' q r x c) h = h.0
equal_place (Both' p s u a v b) (Both' q r x c y d) h = h.0
equal_place (Choice' p u a v b w e) (Choice' q x c y d z f) h = h.0
equal_place _ _ h = absurd h

pub equal_noted : (e f : Expr) → Alike Equal e f → noted e ≡ noted f
equal_noted e f h = ap kind_of (equal_place e f h)

equal_noted_all : (args brgs : Arguments) → AlikeAll Equal args brgs → noted_all args ≡ noted_all brgs
equal_noted_all End End h = refl
equal_noted_all (More' u a v rest) (More' x c y more) h = ap (λ k. k ∷ noted_all rest) (equal_noted a c h.0) ∙ ap (λ ks. noted c ∷ ks) (equal_noted_all rest more h.1)
equal_noted_all _ _ h = absurd h

pub equal_certain : (ws : List WindowSpec) (e f : Expr) → Alike Equal e f → is_certain ws e ≡ is_certain ws f
equal_certain ws (Literal p v) (Literal q w) h = refl
equal_certain ws (Parameter p i) (Parameter q j) h = refl
equal_certain ws (Read p n how args) (Read q m why brgs) h = ap is_direct h.2
equal_certain ws (Window p n args) (Window q m brgs) h = ap (λ x. is_certain_window (slice_get ws x)) h.1
equal_certain ws (Defaults' p u a v b) (Defaults' q x c y d) h = refl
equal_certain ws (Unary' p s u a) (Unary' q r x c) h = refl
equal_certain ws (Both' p s u a v b) (Both' q r x c y d) h = refl
equal_certain ws (Choice' p u a v b w e) (Choice' q x c y d z f) h = refl
equal_certain ws _ _ h = absurd h

-- rows, of what is noted

abbrev read_row : Scope → Place → ℕ → List Kind → Bool
read_row z p n ks = (nat_lt n (length z.streams) && same_kinds ks (parameters_of (slice_get z.streams n))) && same_kind (kind_in (slice_get z.streams n)) (kind_of p)

abbrev defaults_row : Place → Kind → Kind → Bool → Bool
defaults_row p a b c = same_kind a (kind_of p) && (same_kind b (kind_of p) && c)

abbrev choice_row : Place → Kind → Kind → Kind → Bool → Bool → Bool → Bool
choice_row p a b d x y w = same_kind a kind.Bool && ((same_kind b (kind_of p) && same_kind d (kind_of p)) && (x && (y && w)))

same_window : (z : Scope) (o : Option WindowSpec) (k : Kind) (args brgs : Arguments) → noted_all args ≡ noted_all brgs → window_row z.streams o k args ≡ window_row z.streams o k brgs
same_window z None k args brgs e = refl
same_window z (Some w) k args brgs e =
    ap (λ ks. (nat_lt w.target (length z.streams) && same_kinds ks (parameters_of (slice_get z.streams w.target))) && (takes w.using (kind_in (target_in z.streams w)) && same_kind (gives_kind w.using (kind_in (target_in z.streams w))) k)) e

same_part_rows : (z : Scope) (e f : Expr) → Alike Equal e f → row_holds z e ≡ row_holds z f
same_part_rows z (Literal p v) (Literal q w) h = ap (λ x. is_of_kind (kind_of x) v) h.0 ∙ ap (λ x. is_of_kind (kind_of q) x) h.1
same_part_rows z (Parameter p i) (Parameter q j) h = ap (λ x. z.has_parameter i (kind_of x)) h.0 ∙ ap (λ x. z.has_parameter x (kind_of q)) h.1
same_part_rows z (Read p n how args) (Read q m why brgs) h =
    ap (λ x. read_row z x n (noted_all args)) h.0 ∙ (ap (λ x. read_row z q x (noted_all args)) h.1 ∙ ap (λ x. read_row z q m x) (equal_noted_all args brgs h.3))
same_part_rows z (Window p n args) (Window q m brgs) h =
    ap (λ x. row_holds z (Window x n args)) h.0 ∙ (ap (λ x. row_holds z (Window q x args)) h.1 ∙ same_window z (slice_get z.windows m) (kind_of q) args brgs (equal_noted_all args brgs h.2))
same_part_rows z (Defaults' p u a v b) (Defaults' q x c y d) h =
    ap (λ o. defaults_row o (noted a) (noted b) (is_certain z.windows b)) h.0
    ∙ (ap (λ o. defaults_row q o (noted b) (is_certain z.windows b)) (equal_noted a c h.1)
    ∙ (ap (λ o. defaults_row q (noted c) o (is_certain z.windows b)) (equal_noted b d h.2)
    ∙ ap (λ o. defaults_row q (noted c) (noted d) o) (equal_certain z.windows b d h.2)))
same_part_rows z (Unary' p s u a) (Unary' q r x c) h =
    ap (λ o. prefix_row s (kind_of o) (noted a) && is_certain z.windows a) h.0
    ∙ (ap (λ o. prefix_row o (kind_of q) (noted a) && is_certain z.windows a) h.1
    ∙ (ap (λ o. prefix_row r (kind_of q) o && is_certain z.windows a) (equal_noted a c h.2)
    ∙ ap (λ o. prefix_row r (kind_of q) (noted c) && o) (equal_certain z.windows a c h.2)))
same_part_rows z (Both' p s u a v b) (Both' q r x c y d) h =
    ap (λ o. binary_row s (kind_of o) (noted a) (noted b) && (is_certain z.windows a && is_certain z.windows b)) h.0
    ∙ (ap (λ o. binary_row o (kind_of q) (noted a) (noted b) && (is_certain z.windows a && is_certain z.windows b)) h.1
    ∙ (ap (λ o. binary_row r (kind_of q) o (noted b) && (is_certain z.windows a && is_certain z.windows b)) (equal_noted a c h.2)
    ∙ (ap (λ o. binary_row r (kind_of q) (noted c) o && (is_certain z.windows a && is_certain z.windows b)) (equal_noted b d h.3)
    ∙ (ap (λ o. binary_row r (kind_of q) (noted c) (noted d) && (o && is_certain z.windows b)) (equal_certain z.windows a c h.2)
    ∙ ap (λ o. binary_row r (kind_of q) (noted c) (noted d) && (is_certain z.windows c && o)) (equal_certain z.windows b d h.3)))))
same_part_rows z (Choice' p u a v b w e) (Choice' q x c y d t f) h =
    let ws = z.windows in
    ap (λ o. choice_row o (noted a) (noted b) (noted e) (is_certain ws a) (is_certain ws b) (is_certain ws e)) h.0
    ∙ (ap (λ o. choice_row q o (noted b) (noted e) (is_certain ws a) (is_certain ws b) (is_certain ws e)) (equal_noted a c h.1)
    ∙ (ap (λ o. choice_row q (noted c) o (noted e) (is_certain ws a) (is_certain ws b) (is_certain ws e)) (equal_noted b d h.2)
    ∙ (ap (λ o. choice_row q (noted c) (noted d) o (is_certain ws a) (is_certain ws b) (is_certain ws e)) (equal_noted e f h.3)
    ∙ (ap (λ o. choice_row q (noted c) (noted d) (noted f) o (is_certain ws b) (is_certain ws e)) (equal_certain ws a c h.1)
    ∙ (ap (λ o. choice_row q (noted c) (noted d) (noted f) (is_certain ws c) o (is_certain ws e)) (equal_certain ws b d h.2)
    ∙ ap (λ o. choice_row q (noted c) (noted d) (noted f) (is_certain ws c) (is_certain ws d) o) (equal_certain ws e f h.3))))))
same_part_rows z _ _ h = absurd h

pub equal_typed : (z : Scope) (e f : Expr) → Alike Equal e f → part_is_typed z e ≡ part_is_typed z f
equal_typed z e f h = ap (λ p. is_noted p.kind && row_holds z e) (equal_place e f h) ∙ ap (λ b. is_noted (place_in f).kind && b) (same_part_rows z e f h)

-- an expression and what it is filled in to

abbrev pub Any : Place → Place → Type 0
Any p q = Unit {0}

mutual
  alike_self : (e : Expr) → Alike Any e e
  alike_self (Literal p v) = (tt, refl)
  alike_self (Parameter p i) = (tt, refl)
  alike_self (Read p n how args) = (tt, refl, refl, alike_self_all args)
  alike_self (Window p n args) = (tt, refl, alike_self_all args)
  alike_self (Defaults' p u a v b) = (tt, alike_self a, alike_self b)
  alike_self (Unary' p s u a) = (tt, refl, alike_self a)
  alike_self (Both' p s u a v b) = (tt, refl, alike_self a, alike_self b)
  alike_self (Choice' p u a v b w e) = (tt, alike_self a, alike_self b, alike_self e)

  alike_self_all : (args : Arguments) → AlikeAll Any args args
  alike_self_all End = tt
  alike_self_all (More' u a v rest) = (alike_self a, alike_self_all rest)

alike_settled : (k : Kind) (e f : Expr) → Alike Any e f → Alike Any e (given_kind k f)
alike_settled k (Literal p v) (Literal q w) h = h
alike_settled k (Parameter p i) (Parameter q j) h = h
alike_settled k (Read p n how args) (Read q m why brgs) h = h
alike_settled k (Window p n args) (Window q m brgs) h = h
alike_settled k (Defaults' p u a v b) (Defaults' q x c y d) h = (tt, alike_settled k a c h.1, alike_settled k b d h.2)
alike_settled k (Unary' p s u a) (Unary' q r x c) h = (tt, h.1, alike_settled k a c h.2)
alike_settled k (Both' p s u a v b) (Both' q r x c y d) h = (tt, h.1, alike_settled k a c h.2, alike_settled k b d h.3)
alike_settled k (Choice' p u a v b w e) (Choice' q x c y d z f) h = (tt, h.1, alike_settled k b d h.2, alike_settled k e f h.3)
alike_settled k _ _ h = absurd h

pub alike_filled_if_free : (o : Option Kind) (p : Found) (e f : Expr) → Alike Any e f → Alike Any e (filled_if_free o p f)
alike_filled_if_free None p e f h = h
alike_filled_if_free (Some k) (Of l c) e f h = h
alike_filled_if_free (Some k) Free e f h = alike_settled k e f h
alike_filled_if_free (Some k) Unknown e f h = h
alike_filled_if_free (Some k) Broken e f h = h

module _ (s : Setting) where
  mutual
    pub alike_filled : (e : Expr) → Alike Any e (filled s e)
    alike_filled (Literal p v) = (tt, refl)
    alike_filled (Parameter p i) = (tt, refl)
    alike_filled (Read p n how args) = (tt, refl, refl, alike_filled_all (parameters_at s n) args)
    alike_filled (Window p n args) = (tt, refl, alike_filled_all (window_parameters s (slice_get s.windows n)) args)
    alike_filled (Defaults' p u a v b) = (
      tt,
      alike_filled_if_free (taken (found s (Defaults' p u a v b))) (found s a) a (filled s a) (alike_filled a),
      alike_filled_if_free (taken (found s (Defaults' p u a v b))) (found s b) b (filled s b) (alike_filled b),
    )
    alike_filled (Unary' p operator u a) = (tt, refl, alike_filled_if_free (taken (found s (Unary' p operator u a))) (found s a) a (filled s a) (alike_filled a))
    alike_filled (Both' p operator u a v b) = (
      tt,
      refl,
      alike_filled_if_free (operand_kind operator (found s (Both' p operator u a v b)) (joint (found s a) (found s b))) (found s a) a (filled s a) (alike_filled a),
      alike_filled_if_free (operand_kind operator (found s (Both' p operator u a v b)) (joint (found s a) (found s b))) (found s b) b (filled s b) (alike_filled b),
    )
    alike_filled (Choice' p u t v a w b) = (
      tt,
      alike_filled t,
      alike_filled_if_free (taken (found s (Choice' p u t v a w b))) (found s a) a (filled s a) (alike_filled a),
      alike_filled_if_free (taken (found s (Choice' p u t v a w b))) (found s b) b (filled s b) (alike_filled b),
    )

    alike_filled_all : (ks : List Kind) (args : Arguments) → AlikeAll Any args (filled_all s ks args)
    alike_filled_all ks End = tt
    alike_filled_all ks (More' u a v rest) = (alike_filled_if_free (slice_get ks 0) (found s a) a (filled s a) (alike_filled a), alike_filled_all (drop 1 ks) rest)
