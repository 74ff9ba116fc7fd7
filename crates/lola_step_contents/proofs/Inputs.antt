-- How the inputs of a step go: each has its field, one after the other.
use Rattle.std.proofs.Common.{◌≡◌, refl, ap, ◌∙◌, sym, ℕ, ◌+◌, ◌⊎◌, inl, inr, List, [], ◌∷◌, Option, Some, None, Bool, true, false, nat_lt, slice_get, arith, if◌then◌else◌}
use Rattle.std.proofs.lemmas.Bool.{lt-ltb, le-ltb, cases_eq}
use Rattle.lola_value.specs.declared.text.Field.{Field}
use Rattle.lola_value.specs.declared.text.Field.TheVariants as field
use Rattle.lola_value.specs.Answer.{Answer}
use Rattle.lola_model.specs.Acceptance.{IsAccepted}
use Rattle.lola_model.specs.Activity.{is_active_for}
use Rattle.lola_model.specs.Content.{StreamContent, content, seen, is_bad, time_of}
use Rattle.lola_model.specs.Graph.{eval_node, layer_of}
use Rattle.lola_model.specs.Model.{eval_outcome, eval_pacing, field_outcome, input_outcome, is_input, last_row, spawned_in, survivors, the_instance}
use Rattle.lola_model.specs.Table.{Step, Instance, StreamRow, TableRow}
use Rattle.lola_model.specs.declared.plan.Plan.{Plan}
use Rattle.lola_model.specs.declared.spec.Stream.{Stream}
use Rattle.lola_model.proofs.Rounds.{row_of}
use Rattle.lola_step_contents.specs.Changed.{told_at}
use Rattle.lola_step_contents.specs.Nexts.{InputIs, InputsGo, inputs_before, living_in}
use Rattle.lola_step_contents.specs.Stages.{Stage, AreSettled, content_so_far, is_behind, is_evaluated, is_spawned, so_far}
use Rattle.lola_step_contents.proofs.Fixed.{full, full_at, at_full}
use Rattle.lola_step_contents.proofs.Places.{contents, content_is, row_at, seen_of, with_contents, same_contents, changes_contents}
use Rattle.lola_step_contents.proofs.Settled.{full_is_one, one_living}
use Rattle.lola_step_contents.proofs.Shapes.{passes_at, input_never_spawns}
use Rattle.lola_step_contents.proofs.Behind.{next_below}

-- the fields of the inputs below a number are told
abbrev pub input_stage : ℕ → Stage
input_stage n = record { inputs = n; layer = 0; spawns = 0; evals = 0 }

-- others see of an input what it is
pub seen_field : (i : ℕ) (fields : Option (List Field)) → seen (input_outcome i fields) ≡ input_outcome i fields
seen_field i None = refl
seen_field i (Some fields) = of_field (slice_get fields i)
  where
    of_field : (f : Option Field) → seen (field_outcome f) ≡ field_outcome f
    of_field None = refl
    of_field (Some field.Absent) = refl
    of_field (Some (field.Bool b)) = refl
    of_field (Some (field.Int v)) = refl
    of_field (Some (field.Text t)) = refl

module _ (plan : Plan) (accepted : IsAccepted plan) (start : ℕ) (rows : List TableRow) (settled : AreSettled plan rows) (step : Step) where
  abbrev streams : List Stream
  streams = plan.spec.streams

  abbrev outcome : ℕ → Answer
  outcome n = input_outcome (inputs_before streams n) step.fields

  no_spawn : (n : ℕ) (s : Stream) → slice_get streams n ≡ Some s → is_input s ≡ true → s.spawn ≡ None
  no_spawn n s at i = input_never_spawns s (passes_at _ streams n s accepted.named.shapes at) i

  full_is_field : (n : ℕ) (s : Stream) → slice_get streams n ≡ Some s → is_input s ≡ true → (full_at plan start rows step n s).living ≡ one_living (outcome n)
  full_is_field n s at i =
      let none = no_spawn n s at i in
      let sp = spawned_in (slice_get (full plan start rows step) n) in
      full_is_one plan accepted start rows step n s at none (settled.one n s at none)
      ∙ ap (λ b. one_living (if b then outcome n else eval_outcome plan.spec (content start rows (row_of step (full plan start rows step))) (is_bad sp) (is_active_for start (time_of step.time (slice_get rows 0)) step (eval_pacing (slice_get plan.pacings n))) s.eval [])) i

  -- the instance of an input is told its field
  abbrev tell : Answer → StreamContent → StreamContent
  tell a s = record { bad = s.bad; lives = told_at s.lives 0 a }

  told_one : (n : ℕ) (spawned b c : Bool) (alive : List Instance) (y : StreamRow) (a : Answer) → b ≡ false → c ≡ true → alive ≡ the_instance ∷ [] → y.living ≡ one_living a → seen a ≡ a
      → seen_of plan start rows step n (so_far spawned c alive y) ≡ tell a (seen_of plan start rows step n (so_far spawned b alive y))
  told_one n true b c alive y a f g e h q = rw (f, g, h, q) refl
  told_one n false b c alive y a f g e h q = rw (f, g, e, h, q) refl

  -- other inputs stay as they are, and what is no input
  other_input : (n m : ℕ) (s : Stream) → (is_input s ≡ false) ⊎ (m ≡ n → ⊥)
      → seen_of plan start rows step m (row_at plan start rows step (input_stage n) m s) ≡ seen_of plan start rows step m (row_at plan start rows step (input_stage (n + 1)) m s)
  other_input n m s h =
      ap (λ b. seen_of plan start rows step m (so_far (is_spawned plan.layers (input_stage n) m) b (survivors m s (last_row rows)) (full_at plan start rows step m s))) (by h)
    where
      by : (is_input s ≡ false) ⊎ (m ≡ n → ⊥) → is_evaluated plan.layers (input_stage n) m s ≡ is_evaluated plan.layers (input_stage (n + 1)) m s
      by (inl e) =
          let l = layer_of plan.layers (eval_node m) in
          ap (λ b. if b then nat_lt m n else is_behind l m 0 0) e ∙ sym (ap (λ b. if b then nat_lt m (n + 1) else is_behind l m 0 0) e)
      by (inr d) = ap (λ t. if is_input s then t else is_behind (layer_of plan.layers (eval_node m)) m 0 0) (next_below m n d)

  evaluated_by : (n m : ℕ) (s : Stream) (b : Bool) → is_input s ≡ true → nat_lt m n ≡ b → is_evaluated plan.layers (input_stage n) m s ≡ b
  evaluated_by n m s b i e = ap (λ t. if t then nat_lt m n else is_behind (layer_of plan.layers (eval_node m)) m 0 0) i ∙ e

  input_is : (n : ℕ) (s : Stream) → slice_get streams n ≡ Some s → is_input s ≡ true → InputIs plan start rows step n s
  unfolding content_so_far
  input_is n s at i = record {
    living = ap living_in (at_full plan start rows step accepted.acyclic n s at) ∙ full_is_field n s at i;
    next = ap (with_contents plan start rows step)
        (changes_contents plan start rows step accepted.acyclic (input_stage n) (input_stage (n + 1)) n s (tell (outcome n)) at (λ m r e d. other_input n m r (inr d))
        (told_one n (is_spawned plan.layers (input_stage n) n) (is_evaluated plan.layers (input_stage n) n s) (is_evaluated plan.layers (input_stage (n + 1)) n s)
        (survivors n s (last_row rows)) (full_at plan start rows step n s) (outcome n)
        (evaluated_by n n s false i (le-ltb n n (omega arith))) (evaluated_by (n + 1) n s true i (lt-ltb n (n + 1) (omega arith)))
        (settled.one n s at (no_spawn n s at i)) (full_is_field n s at i) (seen_field (inputs_before streams n) step.fields)));
  }

  other_is : (n : ℕ) (s : Stream) → slice_get streams n ≡ Some s → is_input s ≡ false → contents plan start rows step (input_stage n) ≡ contents plan start rows step (input_stage (n + 1))
  other_is n s at i = same_contents plan start rows step accepted.acyclic (input_stage n) (input_stage (n + 1)) (λ m r e. other_input n m r (by m r e (cases_eq m n)))
    where
      by : (m : ℕ) (r : Stream) → slice_get streams m ≡ Some r → (m ≡ n) ⊎ (m ≡ n → ⊥) → (is_input r ≡ false) ⊎ (m ≡ n → ⊥)
      by m r e (inl q) = inl (let a : slice_get streams n ≡ Some r = (rw (← q) e) in let p : r ≡ s = cc in rw p i)
      by m r e (inr d) = inr d

  -- how the inputs go
  pub inputs_go : InputsGo plan start rows step
  inputs_go = record {
    input = λ n s at i. input_is n s at i;
    other = λ n s at i. content_is plan start rows step (input_stage (n + 1)) ∙ (ap (with_contents plan start rows step) (sym (other_is n s at i)) ∙ sym (content_is plan start rows step (input_stage n)));
    all = refl;
  }
