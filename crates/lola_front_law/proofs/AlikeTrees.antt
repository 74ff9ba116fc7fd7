-- An expression is resolved in one way, but for the boxes of its tree and the numbers of its texts.
use Rattle.std.proofs.Common.{◌≡◌, refl, sym, subst, ◌∙◌, ℕ, List, Bool, true, false, Option, Some, None, slice_get}
use Rattle.lola_value.specs.declared.value.Value.{Value}
use Rattle.lola_value.specs.declared.value.Value.TheVariants as value
use Rattle.lola_parser_grammar.specs.declared.literals.Name.{Name}
use Rattle.lola_parser_grammar.specs.declared.literals.Value.{Value as Written}
use Rattle.lola_parser_grammar.specs.declared.literals.Value.TheVariants as written
use Rattle.lola_parser_grammar.specs.declared.declarations.Declaration.{Declaration}
use Rattle.lola_parser_grammar.specs.declared.declarations.Declaration.TheVariants as d
use Rattle.lola_parser_grammar.specs.declared.expressions.Access.{Access as TreeAccess}
use Rattle.lola_parser_grammar.specs.declared.expressions.Access.TheVariants as a
use Rattle.lola_parser_grammar.specs.declared.expressions.Expr.{Expr as TreeExpr, Row_of-Expr, more_of-Expr, end_of-Expr}
use Rattle.lola_parser_grammar.specs.declared.expressions.Expr.TheVariants as e
use Rattle.lola_model.specs.declared.expr.Place.{Place}
use Rattle.lola_model.specs.declared.expr.Expr.{Expr}
use Rattle.lola_model.specs.declared.expr.Expr.TheVariants.{Literal, Parameter, Read, Window, Defaults', Unary', Both', Choice'}
use Rattle.lola_model.specs.declared.expr.Arguments.{Arguments}
use Rattle.lola_model.specs.declared.expr.Arguments.TheVariants.{End, More'}
use Rattle.lola_model.specs.declared.spec.WindowSpec.{WindowSpec}
use Rattle.lola_names.specs.declared.targets.Target.{Target}
use Rattle.lola_names.specs.declared.targets.Target.TheVariants as target
use Rattle.lola_names.specs.Targets.{Targets, target_of}
use Rattle.lola_names.specs.Resolved.{Standing, Where, is_stream, IsValue, IsLiteral, IsConstantUse, IsAccess, IsReference, IsResolved, AreArguments, arguments_in, integer_of, place_at}

-- the same value, where the numbers of texts are related so
abbrev pub SameValueBy : (ℕ → ℕ → Type 0) → Value → Value → Type 0
SameValueBy T (value.Int y) (value.Int z) = y ≡ z
SameValueBy T (value.Bool b) (value.Bool c) = b ≡ c
SameValueBy T (value.Text i) (value.Text j) = T i.0 j.0
SameValueBy T _ _ = ⊥

module _ (T : ℕ → ℕ → Type 0) (ws vs : List WindowSpec) where
  abbrev mutual
    -- two expressions over these windows that differ in boxes, in numbers of texts that are related so, and in the numbers of equal
    -- windows alone
    pub AlikeBy : Expr → Expr → Type 0
    AlikeBy (Literal p v) (Literal q w) = (p ≡ q) × SameValueBy T v w
    AlikeBy (Parameter p i) (Parameter q j) = (p ≡ q) × (i ≡ j)
    AlikeBy (Read p n how args) (Read q m why brgs) = (p ≡ q) × (n ≡ m) × (how ≡ why) × AlikeAllBy args brgs
    AlikeBy (Window p n args) (Window q m brgs) = (p ≡ q) × (slice_get ws n ≡ slice_get vs m) × AlikeAllBy args brgs
    AlikeBy (Defaults' p u a v b) (Defaults' q x c y d) = (p ≡ q) × AlikeBy a c × AlikeBy b d
    AlikeBy (Unary' p s u a) (Unary' q r x c) = (p ≡ q) × (s ≡ r) × AlikeBy a c
    AlikeBy (Both' p s u a v b) (Both' q r x c y d) = (p ≡ q) × (s ≡ r) × AlikeBy a c × AlikeBy b d
    AlikeBy (Choice' p u a v b w e) (Choice' q x c y d z f) = (p ≡ q) × AlikeBy a c × AlikeBy b d × AlikeBy e f
    AlikeBy _ _ = ⊥

    pub AlikeAllBy : Arguments → Arguments → Type 0
    AlikeAllBy End End = Unit {0}
    AlikeAllBy (More' u a v rest) (More' x c y more) = AlikeBy a c × AlikeAllBy rest more
    AlikeAllBy _ _ = ⊥

-- whatever numbers texts have
abbrev pub AnyNumbers : ℕ → ℕ → Type 0
AnyNumbers i j = Unit {0}

abbrev pub SameValue : Value → Value → Type 0
SameValue v w = SameValueBy AnyNumbers v w

abbrev pub Alike : List WindowSpec → List WindowSpec → Expr → Expr → Type 0
Alike ws vs e f = AlikeBy AnyNumbers ws vs e f

abbrev pub AlikeAll : List WindowSpec → List WindowSpec → Arguments → Arguments → Type 0
AlikeAll ws vs args brgs = AlikeAllBy AnyNumbers ws vs args brgs

-- numbers of one text in two lists are related so
abbrev pub AreTied : (ℕ → ℕ → Type 0) → List (List ℕ) → List (List ℕ) → Type 0
AreTied T ts us = (t : List ℕ) (i j : ℕ) → slice_get ts i ≡ Some t → slice_get us j ≡ Some t → T i j

pub any_tied : (ts us : List (List ℕ)) → AreTied AnyNumbers ts us
any_tied ts us t i j p q = tt

same_values : (T : ℕ → ℕ → Type 0) (x y v w : Value) → v ≡ x → w ≡ y → SameValueBy T x y → SameValueBy T v w
same_values T x y v w h k s = subst (λ (z : Value). SameValueBy T z w) (sym h) (subst (λ (z : Value). SameValueBy T x z) (sym k) s)

value_alike_by : (T : ℕ → ℕ → Type 0) (ts us : List (List ℕ)) → AreTied T ts us → (w : Written) (v u : Value) → IsValue ts w v → IsValue us w u → SameValueBy T v u
value_alike_by T ts us tied (written.Integer b n) v u h k = same_values T (value.Int (integer_of b n)) (value.Int (integer_of b n)) v u h k refl
value_alike_by T ts us tied (written.Truth t) v u h k = same_values T (value.Bool t) (value.Bool t) v u h k refl
value_alike_by T ts us tied (written.Text t) (value.Text i) (value.Text j) h k = tied t i.0 j.0 h k
value_alike_by T ts us tied (written.Text t) (value.Text i) _ h k = absurd k
value_alike_by T ts us tied (written.Text t) _ u h k = absurd h

pub value_alike : (ts us : List (List ℕ)) (w : Written) (v u : Value) → IsValue ts w v → IsValue us w u → SameValue v u
value_alike ts us w v u h k = value_alike_by AnyNumbers ts us (any_tied ts us) w v u h k

module _ (T : ℕ → ℕ → Type 0) (declarations : List Declaration) (targets : Targets) (ts us : List (List ℕ)) (tied : AreTied T ts us) (ws vs : List WindowSpec) (here : Standing) where
  literal_alike : (place : Place) (w : Written) (r s : Expr) → IsLiteral ts place w r → IsLiteral us place w s → AlikeBy T ws vs r s
  literal_alike place w (Literal p v) (Literal q u) h k = (h.0 ∙ sym k.0, value_alike_by T ts us tied w v u h.1 k.1)
  literal_alike place w (Literal p v) _ h k = absurd k
  literal_alike place w _ s h k = absurd h

  constant_alike : (at : ℕ) (o : Option Declaration) (r s : Expr) → IsConstantUse ts at o r → IsConstantUse us at o s → AlikeBy T ws vs r s
  constant_alike at None r s h k = absurd h
  constant_alike at (Some (d.Inputs x)) r s h k = absurd h
  constant_alike at (Some (d.Output x)) r s h k = absurd h
  constant_alike at (Some (d.Trigger x)) r s h k = absurd h
  constant_alike at (Some (d.Constant x)) r s h k = literal_alike _ x.literal.value r s h k

  access_alike : (name : Name) (n : ℕ) (how : TreeAccess) (r s : Expr) → IsAccess declarations targets ts ws here name n how r → IsAccess declarations targets us vs here name n how s
      → AlikeAllBy T ws vs (arguments_in r) (arguments_in s) → AlikeBy T ws vs r s
  access_alike name n (a.Window point exactly over using) (Window p i args) (Window q j brgs) h k all = (h.0 ∙ sym k.0, h.1 ∙ sym k.1, all)
  access_alike name n (a.Window point exactly over using) (Window p i args) _ h k all = absurd k
  access_alike name n (a.Window point exactly over using) _ s h k all = absurd h
  access_alike name n a.Direct (Read p i how args) (Read q j why brgs) h k all = (h.0 ∙ sym k.0, h.1 ∙ sym k.1, h.2 ∙ sym k.2, all)
  access_alike name n a.Direct (Read p i how args) _ h k all = absurd k
  access_alike name n a.Direct _ s h k all = absurd h
  access_alike name n (a.Hold point) (Read p i how args) (Read q j why brgs) h k all = (h.0 ∙ sym k.0, h.1 ∙ sym k.1, h.2 ∙ sym k.2, all)
  access_alike name n (a.Hold point) (Read p i how args) _ h k all = absurd k
  access_alike name n (a.Hold point) _ s h k all = absurd h
  access_alike name n (a.Get point) (Read p i how args) (Read q j why brgs) h k all = (h.0 ∙ sym k.0, h.1 ∙ sym k.1, h.2 ∙ sym k.2, all)
  access_alike name n (a.Get point) (Read p i how args) _ h k all = absurd k
  access_alike name n (a.Get point) _ s h k all = absurd h
  access_alike name n (a.Offset point b at) (Read p i how args) (Read q j why brgs) h k all = (h.0 ∙ sym k.0, h.1 ∙ sym k.1, h.2 ∙ sym k.2, all)
  access_alike name n (a.Offset point b at) (Read p i how args) _ h k all = absurd k
  access_alike name n (a.Offset point b at) _ s h k all = absurd h

  are_there : (b : Bool) (A : Type 0) → Where b A → b ≡ true → A
  are_there true A h e = h
  are_there false A h e = absurd (cc)

  literals_alike : (place : Place) (b : Bool) (r s : Expr) → r ≡ Literal place (value.Bool b) → s ≡ Literal place (value.Bool b) → AlikeBy T ws vs r s
  literals_alike place b r s h k =
      subst (λ (x : Expr). AlikeBy T ws vs x s) (sym h) (subst (λ (y : Expr). AlikeBy T ws vs (Literal place (value.Bool b)) y) (sym k) (refl, refl))

  parameters_alike : (place : Place) (i : ℕ) (r s : Expr) → r ≡ Parameter place i → s ≡ Parameter place i → AlikeBy T ws vs r s
  parameters_alike place i r s h k =
      subst (λ (x : Expr). AlikeBy T ws vs x s) (sym h) (subst (λ (y : Expr). AlikeBy T ws vs (Parameter place i) y) (sym k) (refl, refl))

  reference_alike : (o : Option Target) (name : Name) (how : TreeAccess) (r s : Expr) → IsReference declarations targets ts ws here o name how r → IsReference declarations targets us vs here o name how s
      → (is_stream o ≡ true → AlikeAllBy T ws vs (arguments_in r) (arguments_in s)) → AlikeBy T ws vs r s
  reference_alike None name how r s h k all = literals_alike (place_at name.at) false r s h k
  reference_alike (Some (target.Input n i)) name how r s h k all = access_alike name n how r s h k (all refl)
  reference_alike (Some (target.Output n)) name how r s h k all = access_alike name n how r s h k (all refl)
  reference_alike (Some (target.Constant c)) name how r s h k all = constant_alike name.at (slice_get declarations c) r s h k
  reference_alike (Some (target.Parameter i)) name how r s h k all = parameters_alike (place_at name.at) i r s h k

  mutual
    pub resolved_alike : (x : TreeExpr) (r s : Expr) → IsResolved declarations targets ts ws here x r → IsResolved declarations targets us vs here x s → AlikeBy T ws vs r s
    resolved_alike (e.Literal l) r s h k = literal_alike (place_at l.at) l.value r s h k
    resolved_alike (e.Reference' n bracket shape row how) r s h k =
        reference_alike (target_of here.parameters targets n.text) n how r s h.0 k.0
        (λ stream. arguments_alike row (arguments_in r) (arguments_in s)
        (are_there (is_stream (target_of here.parameters targets n.text)) (AreArguments declarations targets ts ws here row (arguments_in r)) h.1 stream)
        (are_there (is_stream (target_of here.parameters targets n.text)) (AreArguments declarations targets us vs here row (arguments_in s)) k.1 stream))
    resolved_alike (e.Defaults' at h (more_of-Expr x end_of-Expr) i (more_of-Expr y end_of-Expr)) (Defaults' p b r c s) (Defaults' q f l g m) j k =
        (j.0 ∙ sym k.0, resolved_alike x r l j.1 k.1, resolved_alike y s m j.2 k.2)
    resolved_alike (e.Defaults' at h (more_of-Expr x end_of-Expr) i (more_of-Expr y end_of-Expr)) (Defaults' p b r c s) _ j k = absurd k
    resolved_alike (e.Prefix' operator at h (more_of-Expr x end_of-Expr)) (Unary' p o b r) (Unary' q t f l) j k = (j.0 ∙ sym k.0, j.1 ∙ sym k.1, resolved_alike x r l j.2 k.2)
    resolved_alike (e.Prefix' operator at h (more_of-Expr x end_of-Expr)) (Unary' p o b r) _ j k = absurd k
    resolved_alike (e.Binary' operator at h (more_of-Expr x end_of-Expr) i (more_of-Expr y end_of-Expr)) (Both' p o b r c s) (Both' q t f l g m) j k =
        (j.0 ∙ sym k.0, j.1 ∙ sym k.1, resolved_alike x r l j.2 k.2, resolved_alike y s m j.3 k.3)
    resolved_alike (e.Binary' operator at h (more_of-Expr x end_of-Expr) i (more_of-Expr y end_of-Expr)) (Both' p o b r c s) _ j k = absurd k
    resolved_alike (e.If' at h (more_of-Expr x end_of-Expr) i (more_of-Expr y end_of-Expr) n (more_of-Expr z end_of-Expr)) (Choice' p b r c s f o) (Choice' q g l t m v w) j k =
        (j.0 ∙ sym k.0, resolved_alike x r l j.1 k.1, resolved_alike y s m j.2 k.2, resolved_alike z o w j.3 k.3)
    resolved_alike (e.If' at h (more_of-Expr x end_of-Expr) i (more_of-Expr y end_of-Expr) n (more_of-Expr z end_of-Expr)) (Choice' p b r c s f o) _ j k = absurd k
    resolved_alike _ _ _ j k = absurd j

    pub arguments_alike : {n : _} (row : Row_of-Expr n) (args brgs : Arguments) → AreArguments declarations targets ts ws here row args → AreArguments declarations targets us vs here row brgs
        → AlikeAllBy T ws vs args brgs
    arguments_alike end_of-Expr End End h k = tt
    arguments_alike end_of-Expr End (More' f l g more) h k = absurd k
    arguments_alike end_of-Expr (More' b r c rest) brgs h k = absurd h
    arguments_alike (more_of-Expr x row) (More' b r c rest) (More' f l g more) h k = (resolved_alike x r l h.0 k.0, arguments_alike row rest more h.1 k.1)
    arguments_alike (more_of-Expr x row) (More' b r c rest) End h k = absurd k
    arguments_alike (more_of-Expr x row) End brgs h k = absurd h
