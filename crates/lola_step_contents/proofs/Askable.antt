-- A whole expression of a clause that is active can be asked for.
use Rattle.std.proofs.Common.{◌≡◌, refl, sym, subst, ◌∙◌, ℕ, zero, suc, ◌+◌, ◌-◌, ◌<◌, ◌≤◌, List, [], ◌∷◌, Option, Some, Bool, true, ◌&&◌, arith, if◌then◌else◌, nat_le, nat_lt, length, drop, slice_get}
use Rattle.std.specs.List.{Contains}
use Rattle.std.proofs.lemmas.Bool.{eq-eqb, le-leb, ltb-true, and_from}
use Rattle.lola_value.specs.declared.value.Kind.{Kind}
use Rattle.lola_value.specs.declared.value.Params.{Params}
use Rattle.lola_value.specs.declared.value.Value.{Value}
use Rattle.lola_value.specs.declared.value.Value.TheVariants as value
use Rattle.lola_value.specs.Kinds.{are_of_kinds}
use Rattle.lola_value.specs.Naming.{Naming, text_at, the_values}
use Rattle.lola_model.proofs.Lookups.{bytes_equal-same}
use Rattle.lola_model.proofs.Strictly.{Contains-here}
use Rattle.lola_model.specs.Acceptance.{IsAccepted}
use Rattle.lola_model.specs.Activity.{is_active_for}
use Rattle.lola_model.specs.Bounds.{greatest_offset, offset_onto, offsets_onto, pacing_at}
use Rattle.lola_model.specs.Parts.{listed_spec}
use Rattle.lola_model.specs.Store.{Layout, Seen, kept_in, kind_in, layout_of, layouts_from, pane_of, parameters_of}
use Rattle.lola_model.specs.Table.{Step}
use Rattle.lola_model.specs.Typed.{scope_in, whole_is_typed}
use Rattle.lola_model.specs.Typing.{has_few, is_certain, is_kept, is_noted, is_ready, is_reference, is_typed, is_whole_pane, noted, noted_all, part_is_typed, place_in, row_holds, same_kind, same_kinds, target_few}
use Rattle.lola_model.specs.Denotation.{kind_of}
use Rattle.lola_model.specs.Wholes.{wholes_of}
use Rattle.lola_model.specs.declared.expr.Access.{Access}
use Rattle.lola_model.specs.declared.expr.Access.TheVariants as access
use Rattle.lola_model.specs.declared.expr.Arguments.{Arguments}
use Rattle.lola_model.specs.declared.expr.Expr.{Expr}
use Rattle.lola_model.specs.declared.expr.Expr.TheVariants.{Literal, Parameter, Read, Window, Defaults', Unary', Both', Choice'}
use Rattle.lola_model.specs.declared.expr.Place.{Place}
use Rattle.lola_model.specs.declared.pacing.ClausePacings.{ClausePacings}
use Rattle.lola_model.specs.declared.plan.Plan.{Plan}
use Rattle.lola_model.specs.declared.spec.Part.{Part}
use Rattle.lola_model.specs.declared.spec.Stream.{Stream}
use Rattle.lola_expr.proofs.Asks.{typed_in_plan}
use Rattle.lola_expr.proofs.OperandLemmas.{first, second}
use Rattle.lola_expr.proofs.Parts.{same_kind-true}
use Rattle.lola_expr.specs.Evaluation.{literal_is_named, part_is_named, same_text}
use Rattle.lola_step_contents.specs.Ready.{HasTexts, IsAskable, IsAtStep}
use Rattle.lola_step_contents.proofs.Among.{IsAmong, whole}
use Rattle.lola_step_contents.proofs.EachPart.{Known, each_where}
use Rattle.lola_step_contents.proofs.Listings.{Listing, Offsets, Onto, Windows, Texts, IsKnown, few_at, known, numbers_in}

-- a stream that is there keeps as many values as its number in the list of kept ones says
kept_at : (ss : List Stream) (kept : List ℕ) (pacings : List ClausePacings) (n : ℕ) → n < length (layouts_from ss [] []) → length kept ≡ length ss
    → slice_get kept n ≡ Some (kept_in (slice_get (layouts_from ss kept pacings) n))
kept_at [] kept pacings n lt e = absurd (omega (arith, lt))
kept_at (s ∷ ss) [] pacings n lt e = absurd (omega (arith, e))
kept_at (s ∷ ss) (k ∷ ks) pacings zero lt e = refl
kept_at (s ∷ ss) (k ∷ ks) pacings (suc n) lt e = kept_at ss ks (drop 1 pacings) n (omega (arith, lt)) (omega (arith, e))

-- what an offset lists of itself
offset_here : (place : Place) (n k : ℕ) (args : Arguments) → Contains (offset_onto n (Read place n (access.Offset k) args)) k
offset_here place n k args =
    subst (λ (b : Bool). Contains (if b then k ∷ [] else []) k) (sym (eq-eqb n n refl)) (Contains-here k [])

-- a text that is among the first so many of a list is there
text_there : (texts : List (List ℕ)) (i : ℕ) → i < length texts → (t : List ℕ) × (slice_get texts i ≡ Some t)
text_there [] i lt = absurd (omega (arith, lt))
text_there (t ∷ ts) zero lt = (t, refl)
text_there (t ∷ ts) (suc i) lt = text_there ts i (omega (arith, lt))

-- one text is the same as itself
same_there : (t : List ℕ) (a b : Option (List ℕ)) → a ≡ b → b ≡ Some t → same_text a b ≡ true
same_there t a b e f =
    subst (λ (o : Option (List ℕ)). same_text o b ≡ true) (sym (e ∙ f)) (subst (λ (o : Option (List ℕ)). same_text (Some t) o ≡ true) (sym f) (bytes_equal-same t))

module _ (plan : Plan) (s : Seen) where
  -- what is known of what a part lists of itself
  abbrev IsKnownOf : Expr → Type 0
  IsKnownOf e = Known Listing numbers_in (IsKnown plan s) (λ i. numbers_in i e)

  module _ (names : Naming) (has : HasTexts names plan.spec.texts) where
    -- a literal has its text
    value_named : (v : Value) (place : Place) → IsKnownOf (Literal place v) → literal_is_named names plan.spec.texts v ≡ true
    value_named (value.Bool b) place k = refl
    value_named (value.Int z) place k = refl
    value_named (value.Text id) place k =
        let lt = k Texts id.0 (Contains-here id.0 []) in
        let there = text_there plan.spec.texts id.0 lt in
        same_there there.0 (text_at names id.0) (slice_get plan.spec.texts id.0) (has id.0 lt) there.1

    -- and so has each part that is one
    part_named : (e : Expr) → IsKnownOf e → part_is_named names plan.spec.texts e ≡ true
    part_named (Literal place v) k = value_named v place k
    part_named (Parameter place i) k = refl
    part_named (Read place n how args) k = refl
    part_named (Window place n args) k = refl
    part_named (Defaults' place u a v b) k = refl
    part_named (Unary' place operator u a) k = refl
    part_named (Both' place operator u a v b) k = refl
    part_named (Choice' place u a v b w d) k = refl

module _ (plan : Plan) (s : Seen) (accepted : IsAccepted plan) (layout : s.layout ≡ layout_of plan) (ks : List Kind) where
  -- no offset goes further back than values are kept
  offset_kept : (n k : ℕ) → n < length (layouts_from plan.spec.streams [] []) → nat_le 1 k ≡ true → k ≤ greatest_offset (offsets_onto n plan.spec)
      → is_kept (slice_get (layouts_from plan.spec.streams plan.kept plan.pacings) n) (access.Offset k) ≡ true
  offset_kept n k lt above below =
      let kept = kept_in (slice_get (layouts_from plan.spec.streams plan.kept plan.pacings) n) in
      let is : kept ≡ 1 + greatest_offset (offsets_onto n plan.spec) = accepted.bounds.kept n kept (kept_at plan.spec.streams plan.kept plan.pacings n lt accepted.bounds.kept_count) in
      and_from (nat_le 1 k) (nat_le k (kept - 1)) above (le-leb k (kept - 1) (omega (arith, is, below)))

  -- and no access does
  access_kept : (place : Place) (n : ℕ) (how : Access) (args : Arguments) → n < length (layouts_from plan.spec.streams [] []) → IsKnownOf plan s (Read place n how args)
      → is_kept (slice_get (layouts_from plan.spec.streams plan.kept plan.pacings) n) how ≡ true
  access_kept place n access.Direct args lt k = refl
  access_kept place n access.Get args lt k = refl
  access_kept place n access.Hold args lt k = refl
  access_kept place n (access.Offset j) args lt k = offset_kept n j lt (k Offsets j (Contains-here j [])) (k (Onto n) j (offset_here place n j args))

  -- a part that is typed finds the store ready
  part_ready : (e : Expr) → part_is_typed (scope_in plan.spec ks) e ≡ true → IsKnownOf plan s e → is_ready s e ≡ true
  part_ready (Literal place v) h k = refl
  part_ready (Parameter place i) h k = refl
  part_ready (Read place n how args) h k =
      let row = second (is_noted (place_in (Read place n how args)).kind) (row_holds (scope_in plan.spec ks) (Read place n how args)) h in
      let reference = first (is_reference (layouts_from plan.spec.streams [] []) n args) (same_kind (kind_in (slice_get (layouts_from plan.spec.streams [] []) n)) (kind_of place)) row in
      let lt = ltb-true n (length (layouts_from plan.spec.streams [] []))
      (first (nat_lt n (length (layouts_from plan.spec.streams [] []))) (same_kinds (noted_all args) (parameters_of (slice_get (layouts_from plan.spec.streams [] []) n))) reference) in
      subst (λ (l : Layout). (has_few (slice_get l.streams n) && is_kept (slice_get l.streams n) how) ≡ true) (sym layout)
      (and_from (has_few (slice_get (layouts_from plan.spec.streams plan.kept plan.pacings) n)) (is_kept (slice_get (layouts_from plan.spec.streams plan.kept plan.pacings) n) how)
      (few_at plan.spec.streams plan.kept plan.pacings n accepted.named.few_parameters) (access_kept place n how args lt k))
  part_ready (Window place i args) h k =
      subst (λ (l : Layout). (target_few l.streams (slice_get l.windows i) && is_whole_pane s (pane_of (slice_get l.panes i))) ≡ true) (sym layout)
      (k Windows i (Contains-here i []))
  part_ready (Defaults' place u a v b) h k = refl
  part_ready (Unary' place operator u a) h k = refl
  part_ready (Both' place operator u a v b) h k = refl
  part_ready (Choice' place u a v b w d) h k = refl

module _ (plan : Plan) (start : ℕ) (step : Step) (s : Seen) (accepted : IsAccepted plan) (at : IsAtStep plan start step s) where
  -- a whole expression of a clause that is active for an instance, for parameters of its kinds
  pub askable : (n : ℕ) (p : Part) (born : ℕ) → is_active_for start born step (pacing_at plan.pacings n p) ≡ true
      → (q : Params) (ks : List Kind) → are_of_kinds ks (the_values q) ≡ true
      → (want : Kind) (before : ℕ) (e : Expr) → IsAmong (wholes_of plan.spec) (λ g. listed_spec g plan.spec) (whole n p ks want before e)
      → IsAskable s q plan.spec.texts want e
  askable n p born active q ks given want before e among =
      let scope = scope_in plan.spec ks in
      let is : whole_is_typed plan.spec (whole n p ks want before e) ≡ true = among.passes (whole_is_typed plan.spec) accepted.typed.typed in
      let typed = first (is_typed scope e) (same_kind (noted e) want && is_certain scope.windows e) is in
      let kind = first (same_kind (noted e) want) (is_certain scope.windows e) (second (is_typed scope e) (same_kind (noted e) want && is_certain scope.windows e) is) in
      let all = known plan start step s accepted at n p born active ks want before e among in
      let ready = each_where Listing numbers_in (IsKnown plan s) (part_is_typed scope) (is_ready s) (part_ready plan s accepted at.layout ks) e typed all in
      record {
        asks = typed_in_plan s q ks given plan at.layout e typed ready;
        kind = same_kind-true (noted e) want kind;
        named = λ names has. each_where Listing numbers_in (IsKnown plan s) (part_is_typed scope) (part_is_named names plan.spec.texts)
            (λ x h k. part_named plan s names has x k) e typed all;
      }
