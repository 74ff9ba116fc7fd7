-- Of all specifications that declarations are resolved to the same is refused for kinds.
use Rattle.std.proofs.Common.{◌≡◌, refl, sym, ap, ◌∙◌, ℕ, zero, suc, ◌+◌, List, [], ◌∷◌, ◌++◌, Option, Some, None, slice_get, drop, unwrap_or, length, flat_map}
use Rattle.lola_value.specs.declared.value.Kind.{Kind}
use Rattle.lola_value.specs.declared.value.Kind.TheVariants as kind
use Rattle.lola_value.specs.declared.value.Value.{Value}
use Rattle.lola_value.specs.declared.value.Value.TheVariants as value
use Rattle.lola_parser_grammar.specs.declared.literals.Value.{Value as Written}
use Rattle.lola_parser_grammar.specs.declared.literals.Value.TheVariants as written
use Rattle.lola_parser_grammar.specs.declared.declarations.Constant.{Constant as TreeConstant}
use Rattle.lola_parser_grammar.specs.declared.declarations.Declaration.{Declaration}
use Rattle.lola_model.specs.Wholes.{Whole, condition_wholes, with_wholes, clause_wholes, stream_wholes, wholes_from}
use Rattle.lola_model.specs.declared.expr.Expr.{Expr}
use Rattle.lola_model.specs.declared.spec.Clause.{Clause}
use Rattle.lola_model.specs.declared.spec.Constant.{Constant}
use Rattle.lola_model.specs.declared.spec.Part.{Part}
use Rattle.lola_model.specs.declared.spec.Part.TheVariants as part
use Rattle.lola_model.specs.declared.spec.Spec.{Spec}
use Rattle.lola_model.specs.declared.spec.Stream.{Stream}
use Rattle.lola_model.specs.declared.spec.WindowSpec.{WindowSpec}
use Rattle.lola_names.specs.Targets.{targets_of}
use Rattle.lola_names.specs.Specification.{IsConstant, IsConstantValue, AreConstants, Resolves, constants_of}
use Rattle.lola_types.specs.Found.{literal_part, parameters_at}
use Rattle.lola_types.specs.LeftOut.{first_expression, part_kind, kind_of_expression, declared_kinds, setting_of, kind_after, round_from, round, after_round, rounds, kinds_of}
use Rattle.lola_types.specs.Refused.{wanted_refusals, number_kind, whole_refusals, taken_literal, constant_refusals, with_parameters, refusals_of_whole, range_refusals, kind_refusals}
use Rattle.lola_front_law.proofs.AlikeTrees.{SameValue, Alike, value_alike}
use Rattle.lola_front_law.proofs.AlikeKinds.{two, three, both, literal_kind, literal_refused, found_alike, whole_alike}
use Rattle.lola_front_law.proofs.AlikeStreams.{AlikeWhen, AlikeWith, AlikeClauses, AlikeStream, AlikeStreams, same_kinds, same_length, same_parameters, streams_alike}
use Rattle.lola_front_law.proofs.OneRate.{ranges_same}

-- ---- constants

constant_value : (ts us : List (List ℕ)) (w : Written) (v u : Value) → IsConstantValue ts w v → IsConstantValue us w u → SameValue v u
constant_value ts us (written.Integer b n) v u h k = value_alike ts us (written.Integer b n) v u h k
constant_value ts us (written.Truth t) v u h k = value_alike ts us (written.Truth t) v u h k
constant_value ts us (written.Text t) (value.Text i) (value.Text j) h k = tt
constant_value ts us (written.Text t) (value.Text i) _ h k = absurd k
constant_value ts us (written.Text t) _ u h k = absurd h

taken_alike : (at : ℕ) (v w : Value) (o : Option Kind) → SameValue v w → taken_literal at v o ≡ taken_literal at w o
taken_alike at v w None h = refl
taken_alike at v w (Some k) h = literal_refused at k v w h

constant_same : (ts us : List (List ℕ)) (x : TreeConstant) (c d : Constant) → IsConstant ts x c → IsConstant us x d → constant_refusals c ≡ constant_refusals d
constant_same ts us x c d h k =
    let kinds = h.kind ∙ sym k.kind in
    let values = constant_value ts us x.literal.value c.literal d.literal h.literal k.literal in
    both _ _ _ _
    (three wanted_refusals c.kind d.kind c.before d.before (literal_part None c.literal) (literal_part None d.literal) kinds (h.before ∙ sym k.before) (literal_kind None c.literal d.literal values))
    (taken_alike c.place c.literal d.literal (number_kind c.kind) values
    ∙ two (λ (at : ℕ) (o : Option Kind). taken_literal at d.literal o) c.place d.place (number_kind c.kind) (number_kind d.kind) (h.place ∙ sym k.place) (ap number_kind kinds))

constants_same : (ts us : List (List ℕ)) (xs : List TreeConstant) (cs ds : List Constant) → AreConstants ts xs cs → AreConstants us xs ds
    → flat_map constant_refusals cs ≡ flat_map constant_refusals ds
constants_same ts us [] [] [] h k = refl
constants_same ts us [] [] (d ∷ ds) h k = absurd k
constants_same ts us [] (c ∷ cs) ds h k = absurd h
constants_same ts us (x ∷ xs) (c ∷ cs) (d ∷ ds) h k = both _ _ _ _ (constant_same ts us x c d h.0 k.0) (constants_same ts us xs cs ds h.1 k.1)
constants_same ts us (x ∷ xs) (c ∷ cs) [] h k = absurd k
constants_same ts us (x ∷ xs) [] ds h k = absurd h

-- ---- the kinds of streams

module _ (x y : Spec) (alike : AlikeStreams x.windows y.windows x.streams y.streams) where
  outside : (before later : List (Option Kind)) (ks ls : List Kind) (n : ℕ) → parameters_at (setting_of x before ks) n ≡ parameters_at (setting_of y later ls) n
  outside before later ks ls n = same_parameters x.windows y.windows x.streams y.streams n alike

  with_kind : (before : List (Option Kind)) (ks ls : List Kind) → ks ≡ ls → (es fs : List Expr) → AlikeWith x.windows y.windows es fs
      → kind_of_expression (setting_of x before ks) (slice_get es 0) ≡ kind_of_expression (setting_of y before ls) (slice_get fs 0)
  with_kind before ks ls e [] [] h = refl
  with_kind before ks ls e [] (g ∷ gs) h = absurd h
  with_kind before ks ls e (f ∷ fs) [] h = absurd h
  with_kind before ks ls e (f ∷ fs) (g ∷ gs) h = ap part_kind (found_alike (setting_of x before ks) (setting_of y before ls) refl e (outside before before ks ls) f g h.0)

  clause_kind : (before : List (Option Kind)) (ks ls : List Kind) → ks ≡ ls → (c d : Option Clause) → AlikeClauses x.windows y.windows c d
      → kind_of_expression (setting_of x before ks) (first_expression c) ≡ kind_of_expression (setting_of y before ls) (first_expression d)
  clause_kind before ks ls e None None h = refl
  clause_kind before ks ls e None (Some d) h = absurd h
  clause_kind before ks ls e (Some c) None h = absurd h
  clause_kind before ks ls e (Some c) (Some d) h = with_kind before ks ls e c.with d.with h.expressions

  after_alike : (before : List (Option Kind)) (k : Option Kind) (a b : Stream) → AlikeStream x.windows y.windows a b → kind_after x before k a ≡ kind_after y before k b
  after_alike before (Some k) a b h = refl
  after_alike before None a b h = clause_kind before a.parameters b.parameters h.parameters a.eval b.eval h.eval

  round_alike : (before ks : List (Option Kind)) (as' bs : List Stream) → AlikeStreams x.windows y.windows as' bs → round_from x before ks as' ≡ round_from y before ks bs
  round_alike before [] as' bs h = refl
  round_alike before (k ∷ ks) [] [] h = refl
  round_alike before (k ∷ ks) [] (b ∷ bs) h = absurd h
  round_alike before (k ∷ ks) (a ∷ as') [] h = absurd h
  round_alike before (k ∷ ks) (a ∷ as') (b ∷ bs) h =
      two (λ (l : Option Kind) (ls : List (Option Kind)). l ∷ ls) _ _ _ _ (after_alike before k a b h.0) (round_alike before ks as' bs h.1)

  rounds_alike : (n : ℕ) (kinds : List (Option Kind)) → rounds n x kinds ≡ rounds n y kinds
  rounds_alike zero kinds = refl
  rounds_alike (suc n) kinds =
      rounds_alike n (after_round kinds (round x kinds)) ∙ ap (λ (next : List (Option Kind)). rounds n y (after_round kinds next)) (round_alike kinds kinds x.streams y.streams alike)

  kinds_alike : kinds_of x ≡ kinds_of y
  kinds_alike =
      ap (λ (n : ℕ). rounds n x (declared_kinds x.streams)) (same_length x.windows y.windows x.streams y.streams alike)
      ∙ (rounds_alike (length y.streams) (declared_kinds x.streams)
      ∙ ap (λ (ks : List (Option Kind)). rounds (length y.streams) y ks) (same_kinds x.windows y.windows x.streams y.streams alike))

-- ---- whole expressions

module _ (ws vs : List WindowSpec) where
  record AlikeWhole (a b : Whole) : Type 0 where
    pub parameters : a.parameters ≡ b.parameters
    pub want : a.want ≡ b.want
    pub before : a.before ≡ b.before
    pub expr : Alike ws vs a.expr b.expr

  abbrev AlikeWholes : List Whole → List Whole → Type 0
  AlikeWholes [] [] = Unit {0}
  AlikeWholes (a ∷ as') (b ∷ bs) = AlikeWhole a b × AlikeWholes as' bs
  AlikeWholes _ _ = ⊥

  both_wholes : (as' bs cs ds : List Whole) → AlikeWholes as' bs → AlikeWholes cs ds → AlikeWholes (as' ++ cs) (bs ++ ds)
  both_wholes [] [] cs ds h k = k
  both_wholes [] (b ∷ bs) cs ds h k = absurd h
  both_wholes (a ∷ as') [] cs ds h k = absurd h
  both_wholes (a ∷ as') (b ∷ bs) cs ds h k = (h.0, both_wholes as' bs cs ds h.1 k)

  conditions_alike : (n : ℕ) (p : Part) (ks ls : List Kind) (at by : ℕ) (o u : Option Expr) → ks ≡ ls → at ≡ by → AlikeWhen ws vs o u
      → AlikeWholes (condition_wholes n p ks at o) (condition_wholes n p ls by u)
  conditions_alike n p ks ls at by None None e f h = tt
  conditions_alike n p ks ls at by None (Some g) e f h = absurd h
  conditions_alike n p ks ls at by (Some g) None e f h = absurd h
  conditions_alike n p ks ls at by (Some g) (Some i) e f h = (record { parameters = e; want = refl; before = f; expr = h }, tt)

  withs_alike : (n : ℕ) (p : Part) (ks ls wants others : List Kind) (ats bys : List ℕ) (es fs : List Expr) → ks ≡ ls → wants ≡ others → ats ≡ bys → AlikeWith ws vs es fs
      → AlikeWholes (with_wholes n p ks wants ats es) (with_wholes n p ls others bys fs)
  withs_alike n p ks ls wants others ats bys [] [] e f g h = tt
  withs_alike n p ks ls wants others ats bys [] (i ∷ is) e f g h = absurd h
  withs_alike n p ks ls wants others ats bys (i ∷ is) [] e f g h = absurd h
  withs_alike n p ks ls wants others ats bys (i ∷ is) (j ∷ js) e f g h = (
    record {
      parameters = e;
      want = ap (λ (l : List Kind). unwrap_or (slice_get l 0) kind.Int64) f;
      before = ap (λ (l : List ℕ). unwrap_or (slice_get l 0) 0) g;
      expr = h.0;
    },
    withs_alike n p ks ls (drop 1 wants) (drop 1 others) (drop 1 ats) (drop 1 bys) is js e (ap (λ (l : List Kind). drop 1 l) f) (ap (λ (l : List ℕ). drop 1 l) g) h.1,
  )

  clause_wholes_alike : (n : ℕ) (p : Part) (ks ls wants others : List Kind) (c d : Option Clause) → ks ≡ ls → wants ≡ others → AlikeClauses ws vs c d
      → AlikeWholes (clause_wholes n p ks wants c) (clause_wholes n p ls others d)
  clause_wholes_alike n p ks ls wants others None None e f h = tt
  clause_wholes_alike n p ks ls wants others None (Some d) e f h = absurd h
  clause_wholes_alike n p ks ls wants others (Some c) None e f h = absurd h
  clause_wholes_alike n p ks ls wants others (Some c) (Some d) e f h =
      both_wholes _ _ _ _ (conditions_alike n p ks ls c.when_at d.when_at c.when d.when e h.before h.condition)
      (withs_alike n p ks ls wants others c.with_at d.with_at c.with d.with e f h.places h.expressions)

  stream_wholes_alike : (n : ℕ) (k : Kind) (a b : Stream) → AlikeStream ws vs a b → AlikeWholes (stream_wholes n a k) (stream_wholes n b k)
  stream_wholes_alike n k a b h =
      both_wholes _ _ _ _ (clause_wholes_alike n part.Spawn [] [] a.parameters b.parameters a.spawn b.spawn refl h.parameters h.spawn)
      (both_wholes _ _ _ _ (clause_wholes_alike n part.Eval a.parameters b.parameters (k ∷ []) (k ∷ []) a.eval b.eval h.parameters refl h.eval)
      (clause_wholes_alike n part.Close a.parameters b.parameters [] [] a.close b.close h.parameters refl h.close))

  wholes_alike : (n : ℕ) (as' bs : List Stream) (kinds : List (Option Kind)) → AlikeStreams ws vs as' bs → AlikeWholes (wholes_from n as' kinds) (wholes_from n bs kinds)
  wholes_alike n [] [] kinds h = tt
  wholes_alike n [] (b ∷ bs) kinds h = absurd h
  wholes_alike n (a ∷ as') [] kinds h = absurd h
  wholes_alike n (a ∷ as') (b ∷ bs) kinds h =
      both_wholes _ _ _ _ (stream_wholes_alike n (unwrap_or (unwrap_or (slice_get kinds 0) None) kind.Int64) a b h.0) (wholes_alike (n + 1) as' bs (drop 1 kinds) h.1)

module _ (x y : Spec) (alike : AlikeStreams x.windows y.windows x.streams y.streams) (kinds : List (Option Kind)) where
  one_whole : (a b : Whole) → AlikeWhole x.windows y.windows a b → refusals_of_whole (setting_of x kinds []) a ≡ refusals_of_whole (setting_of y kinds []) b
  one_whole a b h =
      whole_alike (with_parameters (setting_of x kinds []) a.parameters) (with_parameters (setting_of y kinds []) b.parameters) refl h.parameters
      (outside x y alike kinds kinds a.parameters b.parameters) a.want a.before a.expr b.expr h.expr
      ∙ two (λ (k : Kind) (at : ℕ). whole_refusals (with_parameters (setting_of y kinds []) b.parameters) k at b.expr) a.want b.want a.before b.before h.want h.before

  all_wholes : (as' bs : List Whole) → AlikeWholes x.windows y.windows as' bs
      → flat_map (refusals_of_whole (setting_of x kinds [])) as' ≡ flat_map (refusals_of_whole (setting_of y kinds [])) bs
  all_wholes [] [] h = refl
  all_wholes [] (b ∷ bs) h = absurd h
  all_wholes (a ∷ as') [] h = absurd h
  all_wholes (a ∷ as') (b ∷ bs) h = both _ _ _ _ (one_whole a b h.0) (all_wholes as' bs h.1)

-- ---- the whole

pub specs_alike : (ds : List Declaration) (x y : Spec) → Resolves ds x → Resolves ds y → AlikeStreams x.windows y.windows x.streams y.streams
specs_alike ds x y h k = streams_alike ds (targets_of ds) x.texts y.texts x.windows y.windows 0 0 ds x.streams y.streams h.streams k.streams

pub same_refusals : (ds : List Declaration) (x y : Spec) → Resolves ds x → Resolves ds y → kind_refusals x ≡ kind_refusals y
same_refusals ds x y h k =
    let alike = specs_alike ds x y h k in
    let places = ranges_same ds (targets_of ds) x.texts y.texts x.windows y.windows 0 0 ds x.streams y.streams h.streams k.streams in
    both _ _ _ _ (constants_same x.texts y.texts (constants_of ds) x.constants y.constants h.constants k.constants)
    (both _ _ _ _
    (ap (λ (ks : List (Option Kind)). flat_map (refusals_of_whole (setting_of x ks [])) (wholes_from 0 x.streams ks)) (kinds_alike x y alike)
    ∙ all_wholes x y alike (kinds_of y) (wholes_from 0 x.streams (kinds_of y)) (wholes_from 0 y.streams (kinds_of y)) (wholes_alike x.windows y.windows 0 x.streams y.streams (kinds_of y) alike))
    (ap range_refusals (h.refused ∙ places ∙ sym k.refused)))
