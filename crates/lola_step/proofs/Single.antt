-- The one instance of a stream without a spawn clause has no parameters, and every other has its own.
use Rattle.std.proofs.Common.{◌≡◌, refl, ap, ◌∙◌, sym, subst, ℕ, zero, suc, List, [], ◌∷◌, ◌++◌, Option, Some, None, Bool, true, false, not, if◌then◌else◌, IsTrue, nat_eq, slice_get, length, map, drop, arith}
use Rattle.std.proofs.lemmas.Bool.{and_parts, eqb-true}
use Rattle.lola_value.specs.declared.value.Kind.{Kind}
use Rattle.lola_value.specs.declared.value.Params.{Params}
use Rattle.lola_value.specs.Answer.{Answer}
use Rattle.lola_value.specs.Kinds.{are_of_kinds}
use Rattle.lola_value.specs.Naming.{Naming, AreHeld, read_params, the_values}
use Rattle.lola_model.specs.Acceptance.{IsAccepted}
use Rattle.lola_model.specs.Activity.{is_active_for}
use Rattle.lola_model.specs.Content.{is_bad, time_of}
use Rattle.lola_model.specs.Graph.{eval_node, layer_of, spawn_node}
use Rattle.lola_model.specs.Model.{eval_outcome, eval_pacing, is_input, last_row, newborn, spawned_in, survivors, the_instance}
use Rattle.lola_model.specs.Named.{count_with, has_clause, has_kind, has_when, is_input_shape, is_of_bool, is_output_shape, is_trigger_shape, is_well_shaped}
use Rattle.lola_model.specs.NextStep.{is_local}
use Rattle.lola_model.specs.Store.{Layout, Seen, SeenInstance, instances_seen, layout_of, layouts_from, no_params, spawns_in}
use Rattle.lola_model.specs.Table.{Idle, Instance, Living, Spawned, Step, TableRow}
use Rattle.lola_model.specs.declared.pacing.ClausePacings.{ClausePacings}
use Rattle.lola_model.specs.declared.plan.Plan.{Plan}
use Rattle.lola_model.specs.declared.spec.Clause.{Clause}
use Rattle.lola_model.specs.declared.spec.Sort.{Sort}
use Rattle.lola_model.specs.declared.spec.Sort.TheVariants as sort
use Rattle.lola_model.specs.declared.spec.Stream.{Stream}
use Rattle.lola_step_contents.specs.Nexts.{EvalIs, living_in}
use Rattle.lola_step_contents.specs.Stages.{AreSettled, content_so_far, eval_stage, full_row}
use Rattle.lola_step_contents.proofs.Evals.{evals_go}
use Rattle.lola_step_contents.proofs.Shapes.{passes_at}
use Rattle.lola_step_contents.proofs.Spawns.{spawns_go}
use Rattle.lola_step.specs.Progress.{IsOf}
use Rattle.lola_step.specs.Tasks.{params_at, params_given, params_seen}
use Rattle.lola_step.proofs.Asking.{evals_locally}

-- whether a stream has a spawn clause, as its layout has it
laid_out : (o : Option Clause) → elim o [ None ↦ false | Some k ↦ true ] ≡ has_clause o
laid_out None = refl
laid_out (Some k) = refl

spawns_there : (ss : List Stream) (kept : List ℕ) (ps : List ClausePacings) (n : ℕ) (x : Stream) → slice_get ss n ≡ Some x → spawns_in (slice_get (layouts_from ss kept ps) n) ≡ has_clause x.spawn
spawns_there [] kept ps n x e = absurd (cc)
spawns_there (y ∷ ss) kept ps zero x e = let p : y ≡ x = cc in laid_out y.spawn ∙ ap (λ (z : Stream). has_clause z.spawn) p
spawns_there (y ∷ ss) kept ps (suc n) x e = spawns_there ss (drop 1 kept) (drop 1 ps) n x e

pub no_clause : (o : Option Clause) → has_clause o ≡ false → o ≡ None
no_clause None e = refl
no_clause (Some k) e = absurd (cc)

-- one without has no parameters

none_counted : (ks : List Kind) → nat_eq 0 (length ks) ≡ true → ks ≡ []
none_counted [] e = refl
none_counted (k ∷ ks) e = absurd (omega (arith, eqb-true 0 (length (k ∷ ks)) e))

counts_none : (ks : List Kind) → nat_eq (length ks) 0 ≡ true → ks ≡ []
counts_none [] e = refl
counts_none (k ∷ ks) e = absurd (omega (arith, eqb-true (length (k ∷ ks)) 0 e))

pub without : (x : Stream) → is_well_shaped x ≡ true → has_clause x.spawn ≡ false → x.parameters ≡ []
without x h none = by x.sort refl
  where
    by : (t : Sort) → x.sort ≡ t → x.parameters ≡ []
    by sort.Input e =
        let f : is_input_shape x ≡ true = sym (ap (λ t. elim t [ sort.Input ↦ is_input_shape x | sort.Output ↦ is_output_shape x | sort.Trigger ↦ is_trigger_shape x ]) e) ∙ h in
        counts_none x.parameters (and_parts (nat_eq (length x.parameters) 0) _ (and_parts (has_kind x.kind) _ f).1).0
    by sort.Output e =
        let f : is_output_shape x ≡ true = sym (ap (λ t. elim t [ sort.Input ↦ is_input_shape x | sort.Output ↦ is_output_shape x | sort.Trigger ↦ is_trigger_shape x ]) e) ∙ h in
        let same = (and_parts (nat_eq (count_with x.spawn) (length x.parameters)) _ (and_parts (nat_eq (count_with x.eval) 1) _ f).1).0 in
        none_counted x.parameters (sym (ap (λ (o : Option Clause). nat_eq (count_with o) (length x.parameters)) (no_clause x.spawn none)) ∙ same)
    by sort.Trigger e =
        let f : is_trigger_shape x ≡ true = sym (ap (λ t. elim t [ sort.Input ↦ is_input_shape x | sort.Output ↦ is_output_shape x | sort.Trigger ↦ is_trigger_shape x ]) e) ∙ h in
        counts_none x.parameters
        (and_parts (nat_eq (length x.parameters) 0) _ (and_parts (not (has_when x.eval)) _ (and_parts (nat_eq (count_with x.eval) 1) _ (and_parts (is_of_bool x.kind) _ f).1).1).1).0

-- what its instance is evaluated with

module _ (plan : Plan) (s : Seen) (layout : s.layout ≡ layout_of plan) (n : ℕ) (x : Stream) (at : slice_get plan.spec.streams n ≡ Some x) where
  pub spawns_here : spawns_in (slice_get s.layout.streams n) ≡ has_clause x.spawn
  spawns_here = ap (λ (l : Layout). spawns_in (slice_get l.streams n)) layout ∙ spawns_there plan.spec.streams plan.kept plan.pacings n x at

  pub none_given : (i : ℕ) → has_clause x.spawn ≡ false → params_given s n i ≡ no_params
  none_given i e = ap (λ b. if b then params_seen s n i else no_params) (spawns_here ∙ e)

  pub own_given : (i : ℕ) → has_clause x.spawn ≡ true → params_given s n i ≡ params_seen s n i
  own_given i e = ap (λ b. if b then params_seen s n i else no_params) (spawns_here ∙ e)

  -- its pacing is not local
  pub never_local : IsAccepted plan → IsOf plan s → has_clause x.spawn ≡ false → is_local (eval_pacing (slice_get plan.pacings n)) ≡ false
  never_local accepted of none = by (is_local (eval_pacing (slice_get plan.pacings n))) refl
    where
      by : (b : Bool) → is_local (eval_pacing (slice_get plan.pacings n)) ≡ b → b ≡ false
      by true e = absurd (let f = sym (evals_locally plan accepted s of n x at e) ∙ (spawns_here ∙ none) in cc)
      by false e = refl

  -- the kinds of parameters are right where there are none
  pub kinds_given : IsAccepted plan → (i : ℕ) → (IsTrue (spawns_in (slice_get s.layout.streams n)) → IsTrue (are_of_kinds x.parameters (the_values (params_given s n i))))
      → IsTrue (are_of_kinds x.parameters (the_values (params_given s n i)))
  kinds_given accepted i own = by (has_clause x.spawn) refl
    where
      by : (b : Bool) → has_clause x.spawn ≡ b → are_of_kinds x.parameters (the_values (params_given s n i)) ≡ true
      by true e = own (spawns_here ∙ e)
      by false e =
          ap (λ (p : Params). are_of_kinds x.parameters (the_values p)) (none_given i e)
          ∙ ap (λ (ks : List Kind). are_of_kinds ks []) (without x (passes_at is_well_shaped plan.spec.streams n x accepted.named.shapes at) e)

  -- they read as those of the instance that stands there in the row
  pub given_reads : (names : Naming) (i : ℕ) (y : SeenInstance) (l : Living) → slice_get (instances_seen s n) i ≡ Some y
      → read_params names y.params ≡ l.instance.params → AreHeld names (the_values y.params) → (has_clause x.spawn ≡ false → l.instance.params ≡ [])
      → (read_params names (params_given s n i) ≡ l.instance.params) × AreHeld names (the_values (params_given s n i))
  given_reads names i y l there params held bare = by (has_clause x.spawn) refl
    where
      by : (b : Bool) → has_clause x.spawn ≡ b → (read_params names (params_given s n i) ≡ l.instance.params) × AreHeld names (the_values (params_given s n i))
      by true e =
          let P : Params → Type 0 = λ p. (read_params names p ≡ l.instance.params) × AreHeld names (the_values p) in
          subst P (sym (own_given i e ∙ ap params_at there)) (params, held)
      by false e =
          let P : Params → Type 0 = λ p. (read_params names p ≡ l.instance.params) × AreHeld names (the_values p) in
          subst P (sym (none_given i e)) (sym (bare e), tt)

-- in each row it has none

abbrev pub AreBare : List Living → Type 0
AreBare [] = Unit {0}
AreBare (l ∷ ls) = (l.instance.params ≡ []) × AreBare ls

bare_made : (f : Instance → Answer) (xs : List Instance) → xs ≡ the_instance ∷ [] → AreBare (map (λ y. record { instance = y; outcome = f y }) xs)
bare_made f xs e =
    let P : List Instance → Type 0 = λ ys. AreBare (map (λ y. record { instance = y; outcome = f y }) ys) in
    subst P (sym e) (refl, tt)

pub bare_living : (plan : Plan) → IsAccepted plan → (start : ℕ) (rows : List TableRow) (step : Step) → AreSettled plan rows → (n : ℕ) (x : Stream) → slice_get plan.spec.streams n ≡ Some x
    → is_input x ≡ false → has_clause x.spawn ≡ false → AreBare (living_in (slice_get (full_row plan start rows step).streams n))
bare_living plan accepted start rows step settled n x at no_input none =
    let layer = layer_of plan.layers (eval_node n) in
    let without_clause : x.spawn ≡ None = no_clause x.spawn none in
    let here : EvalIs plan start rows step layer n x = (evals_go plan accepted start rows step layer).here n x at no_input refl in
    let did : Spawned = spawned_in (slice_get (full_row plan start rows step).streams n) in
    let idle : did ≡ Idle = ((spawns_go plan accepted start rows step (layer_of plan.layers (spawn_node n))).none n x at without_clause).did refl in
    let one : survivors n x (last_row rows) ++ newborn did (survivors n x (last_row rows)) (length rows) ≡ the_instance ∷ [] =
    ap (λ ys. ys ++ newborn did ys (length rows)) (settled.one n x at without_clause) ∙ ap (λ d. (the_instance ∷ []) ++ newborn d (the_instance ∷ []) (length rows)) idle in
    subst AreBare (sym here.living)
    (bare_made (λ y. eval_outcome plan.spec (content_so_far plan start rows step (eval_stage (length plan.spec.streams) layer)) (is_bad did) (is_active_for start (time_of step.time (slice_get rows y.born)) step (eval_pacing (slice_get plan.pacings n))) x.eval y.params)
    (survivors n x (last_row rows) ++ newborn did (survivors n x (last_row rows)) (length rows)) one)
