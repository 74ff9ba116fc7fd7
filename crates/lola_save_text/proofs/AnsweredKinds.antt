-- The row that is made on demand has values and parameters of their streams' kinds, where the rows before it have.
use Rattle.std.proofs.Common.{◌≡◌, ℕ, zero, suc, ◌+◌, ◌<◌, ◌≤◌, ◌^◌, List, [], ◌∷◌, ◌++◌, length, map, refl, sym, subst, ap, ◌∙◌, arith, Bool, true, false, ◌&&◌, not, Option, Some, None, nat_eq, nat_lt, if◌then◌else◌, slice_get}
use Rattle.std.specs.List.{AllZip, list_all}
use Rattle.std.specs.Str.{is_utf8}
use Rattle.std.proofs.lemmas.Bool.{and_from, and_parts, eqb-true}
use Rattle.std.proofs.lemmas.Str.{is_utf8-from_IsUtf8}
use Rattle.lola_value.specs.declared.value.Kind.{Kind}
use Rattle.lola_value.specs.Kinds.{is_integer, is_text}
use Rattle.lola_value.specs.Arithmetic.{is_within}
use Rattle.lola_value.specs.declared.text.Field.{Field}
use Rattle.lola_value.specs.declared.text.Field.TheVariants as field
use Rattle.lola_value.specs.Answer.{Answer, Poisoned}
use Rattle.lola_model.specs.Acceptance.{IsAccepted}
use Rattle.lola_model.specs.Activity.{is_active, is_active_for}
use Rattle.lola_model.specs.Content.{content, time_of, is_bad}
use Rattle.lola_model.specs.Graph.{nodes_of}
use Rattle.lola_model.specs.Model.{filled_kind, is_input, input_outcome, field_outcome, eval_outcome, survivors, is_among, most_instances, newborn, spawned_in, unknown_spawned, outcome_of, stream_outcome, outcomes_from, evaluated, unknown_from, asked, closes_from, closing, has_evaluation_fault, answered, last_row, eval_pacing, spawn_pacing}
use Rattle.lola_model.specs.Named.{count_with, has_kind, has_when, is_of_bool, is_input_shape, is_output_shape, is_trigger_shape, is_well_shaped}
use Rattle.lola_model.specs.Store.{layouts_from}
use Rattle.lola_model.specs.Table.{Step, Instance, Spawned, Idle, Named, SpawnFaulted, SpawnPoisoned, StreamRow, TableRow}
use Rattle.lola_model.specs.Trace.{IsFieldOf, input_kinds}
use Rattle.lola_model.specs.declared.plan.Plan.{Plan}
use Rattle.lola_model.specs.declared.spec.Clause.{Clause}
use Rattle.lola_model.specs.declared.spec.Sort.{Sort}
use Rattle.lola_model.specs.declared.spec.Sort.TheVariants as sort
use Rattle.lola_model.specs.declared.spec.Stream.{Stream}
use Rattle.lola_step_contents.proofs.Shapes.{passes_at}
use Rattle.lola_save_text.specs.Fitting.{are_values}
use Rattle.lola_save_text.proofs.Seen.{is_answer, IsContentOf}
use Rattle.lola_save_text.proofs.ClauseKinds.{IsNaming, eval-outcome-is, spawn-outcome-is}
use Rattle.lola_save_text.proofs.KindedRows.{AreLivingOf, AreInstancesOf, IsRowOf, AreRowsOf, IsTableOf, survivors-of, content-of}

-- a stream without a spawn clause has no parameters

none-of : (ks : List Kind) → length ks ≡ 0 → ks ≡ []
none-of [] e = refl
none-of (k ∷ ks) e = absurd (omega (arith, e))

plain-by : (s : Stream) (so : Sort) → elim so [ sort.Input ↦ is_input_shape s | sort.Output ↦ is_output_shape s | sort.Trigger ↦ is_trigger_shape s ] ≡ true
    → s.spawn ≡ None → s.parameters ≡ []
plain-by s sort.Input h e =
    let a = (and_parts (has_kind s.kind) _ h).1 in
    none-of s.parameters (eqb-true (length s.parameters) 0 (and_parts (nat_eq (length s.parameters) 0) _ a).0)
plain-by s sort.Output h e =
    let a = (and_parts (nat_eq (count_with s.eval) 1) _ h).1 in
    let b = eqb-true (count_with s.spawn) (length s.parameters) (and_parts (nat_eq (count_with s.spawn) (length s.parameters)) _ a).0 in
    none-of s.parameters (sym b ∙ ap count_with e)
plain-by s sort.Trigger h e =
    let a = (and_parts (is_of_bool s.kind) _ h).1 in
    let b = (and_parts (nat_eq (count_with s.eval) 1) _ a).1 in
    let c = (and_parts (not (has_when s.eval)) _ b).1 in
    none-of s.parameters (eqb-true (length s.parameters) 0 (and_parts (nat_eq (length s.parameters) 0) _ c).0)

pub plain-stream : (s : Stream) → is_well_shaped s ≡ true → s.spawn ≡ None → s.parameters ≡ []
plain-stream s h e = plain-by s s.sort h e

-- a row's fields are of the kinds of the inputs, where the step has fields
abbrev pub AreFieldsOf : List Kind → Option (List Field) → Type 0
AreFieldsOf ks None = Unit {0}
AreFieldsOf ks (Some fs) = AllZip IsFieldOf ks fs

field-is : (k : Kind) (f : Field) → IsFieldOf k f → is_answer k (field_outcome (Some f)) ≡ true
field-is k field.Absent h = refl
field-is k (field.Bool b) h = h
field-is k (field.Int z) h = and_from (is_integer k) (is_within k z) h.integer h.within
field-is k (field.Text t) h = and_from (is_text k) (is_utf8 t) h.0 (is_utf8-from_IsUtf8 t h.1.utf8)

zip-is : (ks : List Kind) (fs : List Field) (i : ℕ) (k : Kind) → AllZip IsFieldOf ks fs → slice_get ks i ≡ Some k → is_answer k (field_outcome (slice_get fs i)) ≡ true
zip-is [] fs i k h e = absurd (cc)
zip-is (l ∷ ks) [] i k h e = absurd h
zip-is (l ∷ ks) (f ∷ fs) zero k h e = let p : l ≡ k = cc in field-is k f (subst (λ (m : Kind). IsFieldOf m f) p h.0)
zip-is (l ∷ ks) (f ∷ fs) (suc i) k h e = zip-is ks fs i k h.1 e

input-is : (ks : List Kind) (o : Option (List Field)) (i : ℕ) (k : Kind) → AreFieldsOf ks o → slice_get ks i ≡ Some k → is_answer k (input_outcome i o) ≡ true
input-is ks None i k h e = refl
input-is ks (Some fs) i k h e = zip-is ks fs i k h e

-- who is born

newborn-is : (s : Stream) (sp : Spawned) (alive : List Instance) (n : ℕ) → IsNaming s.parameters sp → AreInstancesOf s (newborn sp alive n)
newborn-is s Idle alive n h = tt
newborn-is s (Named p) alive n h = by (not (is_among p alive) && nat_lt (length alive) most_instances)
  where
    by : (b : Bool) → AreInstancesOf s (if b then record { params = p; born = n } ∷ [] else [])
    by true = (h, tt)
    by false = tt
newborn-is s (SpawnFaulted k) alive n h = tt
newborn-is s SpawnPoisoned alive n h = tt

instances-join : (s : Stream) (xs ys : List Instance) → AreInstancesOf s xs → AreInstancesOf s ys → AreInstancesOf s (xs ++ ys)
instances-join s [] ys h g = g
instances-join s (x ∷ xs) ys h g = (h.0, instances-join s xs ys h.1 g)

living-is : (s : Stream) (f : Instance → Answer) (xs : List Instance) → AreInstancesOf s xs → ((x : Instance) → are_values s.parameters x.params ≡ true → is_answer (filled_kind s) (f x) ≡ true)
    → AreLivingOf s (map (λ x. record { instance = x; outcome = f x }) xs)
living-is s f [] h g = tt
living-is s f (x ∷ xs) h g = (h.0, g x h.0, living-is s f xs h.1 g)

spawned-at : (ss : List Stream) (rs : List StreamRow) (n : ℕ) (s : Stream) → AreRowsOf ss rs → slice_get ss n ≡ Some s → IsNaming s.parameters (spawned_in (slice_get rs n))
spawned-at [] rs n s h e = absurd (cc)
spawned-at (t ∷ ss) [] n s h e = absurd h
spawned-at (t ∷ ss) (r ∷ rs) zero s h e = let p : t ≡ s = cc in subst (λ (x : Stream). IsNaming x.parameters r.spawned) p h.0.spawned
spawned-at (t ∷ ss) (r ∷ rs) (suc n) s h e = spawned-at ss rs n s h.1 e

unknown-naming : (ks : List Kind) (o : Option Clause) → IsNaming ks (unknown_spawned o)
unknown-naming ks None = tt
unknown-naming ks (Some k) = tt

-- the kinds of the inputs from one on, by whether this stream is an input
abbrev IsInputsFrom : List Kind → ℕ → Stream → List Stream → Bool → Type 0
IsInputsFrom all i s ss b = (j : ℕ) (k : Kind) → slice_get (if b then filled_kind s ∷ input_kinds ss else input_kinds ss) j ≡ Some k → slice_get all (i + j) ≡ Some k

later-inputs : (all : List Kind) (i : ℕ) (s : Stream) (ss : List Stream) (b : Bool) → IsInputsFrom all i s ss b
    → (j : ℕ) (k : Kind) → slice_get (input_kinds ss) j ≡ Some k → slice_get all ((if b then i + 1 else i) + j) ≡ Some k
later-inputs all i s ss true h j k e = subst (λ (x : ℕ). slice_get all x ≡ Some k) (omega arith) (h (suc j) k e)
later-inputs all i s ss false h j k e = h j k e

this-input : (all : List Kind) (i : ℕ) (s : Stream) (ss : List Stream) (b : Bool) → b ≡ true → IsInputsFrom all i s ss b → slice_get all i ≡ Some (filled_kind s)
this-input all i s ss true e h = subst (λ (x : ℕ). slice_get all x ≡ Some (filled_kind s)) (omega arith) (h 0 (filled_kind s) refl)
this-input all i s ss false e h = absurd (cc)

module _ (plan : Plan) (accepted : IsAccepted plan) (texts : list_all is_utf8 plan.spec.texts ≡ true) (start : ℕ) (rows : List TableRow) (step : Step) (most : ℕ) (table : IsTableOf plan.spec.streams rows) (few : length rows ≤ most) (small : most < 2 ^ 63) (fields : AreFieldsOf (input_kinds plan.spec.streams) step.fields) where
  abbrev all : List Stream
  all = plan.spec.streams

  shaped : (n : ℕ) (s : Stream) → slice_get all n ≡ Some s → is_well_shaped s ≡ true
  shaped n s at = passes_at is_well_shaped all n s accepted.named.shapes at

  alive-is : (n : ℕ) (s : Stream) → slice_get all n ≡ Some s → AreInstancesOf s (survivors n s (last_row rows))
  alive-is n s at = survivors-of all rows table n s at (plain-stream s (shaped n s at))

  module _ (row : TableRow) (h : AreRowsOf all row.streams) where
    seen-content : IsContentOf (layouts_from all [] []) most (content start rows row)
    seen-content = content-of all rows most row.step.time table few start row refl h

    outcome-is : (n i : ℕ) (s : Stream) → slice_get all n ≡ Some s → (ss : List Stream) → IsInputsFrom (input_kinds all) i s ss (is_input s) → (sp : Spawned) (x : Instance)
        → are_values s.parameters x.params ≡ true → is_answer (filled_kind s) (outcome_of plan start rows step (content start rows row) n i s sp x) ≡ true
    outcome-is n i s at ss inputs sp x params = by (is_input s) refl
      where
        by : (b : Bool) → is_input s ≡ b
            → is_answer (filled_kind s) (if b then input_outcome i step.fields
            else eval_outcome plan.spec (content start rows row) (is_bad sp) (is_active_for start (time_of step.time (slice_get rows x.born)) step (eval_pacing (slice_get plan.pacings n))) s.eval x.params) ≡ true
        by true e = input-is (input_kinds all) step.fields i (filled_kind s) fields (this-input (input_kinds all) i s ss (is_input s) e inputs)
        by false e = eval-outcome-is plan.spec accepted.named accepted.typed texts (content start rows row) most seen-content small n s at (is_bad sp) _ x.params params

    stream-is : (n i : ℕ) (s : Stream) → slice_get all n ≡ Some s → (ss : List Stream) → IsInputsFrom (input_kinds all) i s ss (is_input s)
        → IsRowOf s (stream_outcome plan start rows step (content start rows row) n i s (spawned_in (slice_get row.streams n)))
    stream-is n i s at ss inputs =
        let sp : Spawned = spawned_in (slice_get row.streams n) in
        let alive : List Instance = survivors n s (last_row rows) in
        record {
          spawned = spawn-outcome-is plan.spec accepted.named accepted.typed texts (content start rows row) most seen-content small n s at (shaped n s at) (is_active start step (spawn_pacing (slice_get plan.pacings n))) alive;
          living =
              living-is s (λ x. outcome_of plan start rows step (content start rows row) n i s sp x) (alive ++ newborn sp alive (length rows))
              (instances-join s alive (newborn sp alive (length rows)) (alive-is n s at) (newborn-is s sp alive (length rows) (spawned-at all row.streams n s h at)))
              (λ x params. outcome-is n i s at ss inputs sp x params);
        }

    streams-are : (n i : ℕ) (ss : List Stream) → ((j : ℕ) (s : Stream) → slice_get ss j ≡ Some s → slice_get all (n + j) ≡ Some s)
        → ((j : ℕ) (k : Kind) → slice_get (input_kinds ss) j ≡ Some k → slice_get (input_kinds all) (i + j) ≡ Some k)
        → AreRowsOf ss (outcomes_from plan start rows step row n i ss)
    streams-are n i [] at inputs = tt
    streams-are n i (s ∷ ss) at inputs = (
      stream-is n i s (subst (λ (x : ℕ). slice_get all x ≡ Some s) (omega arith) (at 0 s refl)) ss inputs,
      streams-are (n + 1) (if is_input s then i + 1 else i) ss
          (λ j t q. subst (λ (x : ℕ). slice_get all x ≡ Some t) (omega arith) (at (suc j) t q))
          (later-inputs (input_kinds all) i s ss (is_input s) inputs),
    )

    evaluated-is : AreRowsOf all (evaluated plan start rows step row).streams
    evaluated-is = streams-are 0 0 all (λ j s q. subst (λ (x : ℕ). slice_get all x ≡ Some s) (omega arith) q) (λ j k q. subst (λ (x : ℕ). slice_get (input_kinds all) x ≡ Some k) (omega arith) q)

  unknown-is : (n : ℕ) (ss : List Stream) → ((j : ℕ) (s : Stream) → slice_get ss j ≡ Some s → slice_get all (n + j) ≡ Some s) → AreRowsOf ss (unknown_from plan start rows step n ss)
  unknown-is n [] at = tt
  unknown-is n (s ∷ ss) at = (
    record {
      spawned = unknown-naming s.parameters s.spawn;
      living = living-is s (λ x. Poisoned) (survivors n s (last_row rows)) (alive-is n s (subst (λ (x : ℕ). slice_get all x ≡ Some s) (omega arith) (at 0 s refl))) (λ x params. refl);
    },
    unknown-is (n + 1) ss (λ j t q. subst (λ (x : ℕ). slice_get all x ≡ Some t) (omega arith) (at (suc j) t q)),
  )

  asked-is : (d : ℕ) → AreRowsOf all (asked plan start rows step d).streams
  asked-is zero = unknown-is 0 all (λ j s q. subst (λ (x : ℕ). slice_get all x ≡ Some s) (omega arith) q)
  asked-is (suc d) = evaluated-is (asked plan start rows step d) (asked-is d)

  closes-are : (row : TableRow) (m : ℕ) (ts ss : List Stream) (rs : List StreamRow) → AreRowsOf ss rs → AreRowsOf ss (closes_from plan start rows row m ts rs)
  closes-are row m [] ss rs h = h
  closes-are row m (t ∷ ts) ss [] h = h
  closes-are row m (t ∷ ts) [] (r ∷ rs) h = absurd h
  closes-are row m (t ∷ ts) (s ∷ ss) (r ∷ rs) h = (record { spawned = h.0.spawned; living = h.0.living }, closes-are row (m + 1) ts ss rs h.1)

  closing-is : (row : TableRow) → AreRowsOf all row.streams → AreRowsOf all (closing plan start rows row).streams
  closing-is row h = by (has_evaluation_fault row.streams)
    where
      by : (b : Bool) → AreRowsOf all (if b then row else record { step = row.step; streams = closes_from plan start rows row 0 plan.spec.streams row.streams }).streams
      by true = h
      by false = closes-are row 0 plan.spec.streams all row.streams h

  pub answered-is : AreRowsOf all (answered plan start rows step).streams
  answered-is = closing-is (asked plan start rows step (length (nodes_of plan.spec))) (asked-is (length (nodes_of plan.spec)))
