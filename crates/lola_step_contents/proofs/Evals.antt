-- How the instances of a layer go: each comes to what its clause is over what is done before, and all are told at once.
use Rattle.std.proofs.Common.{◌≡◌, refl, ap, ◌∙◌, sym, ℕ, zero, suc, ◌+◌, ◌<◌, ◌⊎◌, inl, inr, List, [], ◌∷◌, ◌++◌, Option, Some, None, Bool, true, false, not, ◌&&◌, nat_eq, nat_lt, slice_get, arith, map, length, length-append, append_assoc, if◌then◌else◌}
use Rattle.std.proofs.lemmas.Bool.{cases_eq, eq-eqb, le-ltb, lt-ltb, ne_eqb}
use Rattle.std.proofs.lemmas.Option.{slice_get_within}
use Rattle.lola_value.specs.declared.text.Field.{Field}
use Rattle.lola_value.specs.Answer.{Answer, Missing}
use Rattle.lola_model.specs.Acceptance.{IsAccepted}
use Rattle.lola_model.specs.Activity.{is_active_at, is_active_for, may_be_active}
use Rattle.lola_model.specs.Content.{Content, Life, StreamContent, content, is_bad, life_of, seen, time_of}
use Rattle.lola_model.specs.Graph.{eval_node, layer_of, spawn_node}
use Rattle.lola_model.specs.Model.{eval_outcome, eval_pacing, input_outcome, is_input, last_row, newborn, outcome_of, spawned_in, survivors}
use Rattle.lola_model.specs.Table.{Step, Instance, Spawned, Living, StreamRow, TableRow}
use Rattle.lola_model.specs.declared.pacing.Pacing.{Pacing}
use Rattle.lola_model.specs.declared.pacing.Pacing.TheVariants.{Event, Periodic, Local}
use Rattle.lola_model.specs.declared.plan.Plan.{Plan}
use Rattle.lola_model.specs.declared.spec.Clause.{Clause}
use Rattle.lola_model.specs.declared.spec.Stream.{Stream}
use Rattle.lola_model.proofs.Rounds.{row_of}
use Rattle.lola_step_contents.specs.Changed.{changed, lives_in, told_at}
use Rattle.lola_step_contents.specs.Nexts.{EvalIs, EvalsGo, Told, inputs_before, is_run_in, living_in, told_each, told_from, told_in_layer}
use Rattle.lola_step_contents.specs.Stages.{Stage, content_so_far, eval_stage, instances_in, is_behind, is_evaluated, is_spawned, layer_stage, silent_living, so_far}
use Rattle.lola_step_contents.proofs.Agree.{living_found, living_with, rows_at}
use Rattle.lola_step_contents.proofs.Edges.{spawn_no_higher}
use Rattle.lola_step_contents.proofs.Fixed.{full, full_at, at_full}
use Rattle.lola_step_contents.proofs.Places.{at_contents, at_rows, change_in, changed_else, changed_here, contents, past_contents, same_list, seen_of, stream_or_none, with_contents}
use Rattle.lola_step_contents.proofs.Behind.{equal_behind, layer_behind, same_behind, up_to_behind}

-- where a clause may be active for no instance, it is active for none
never_active : (start born : ℕ) (step : Step) (p : Option Pacing) → may_be_active start step p ≡ false → is_active_for start born step p ≡ false
never_active start born step None e = e
never_active start born step (Some (Event sets)) e = e
never_active start born step (Some (Periodic r)) e = e
never_active start born step (Some (Local r)) e = at step.fields e
  where
    at : (o : Option (List Field)) → (elim o as (λ _. Bool) [ None ↦ true | Some fields ↦ false ]) ≡ false → is_active_at born step.time o (Periodic r) ≡ false
    at None e = absurd (cc)
    at (Some fields) e = refl

-- what becomes of a stream as one of its instances is told
abbrev tell : Told → StreamContent → StreamContent
tell t s = record { bad = s.bad; lives = told_at s.lives t.index (seen t.answer) }

-- of all streams, as these are told
abbrev told_streams : List StreamContent → List Told → List StreamContent
told_streams cs [] = cs
told_streams cs (t ∷ ts) = told_streams (changed cs t.stream (tell t)) ts

-- of the stream of that number
abbrev told_if : Bool → Told → StreamContent → StreamContent
told_if b t s = if b then tell t s else s

abbrev told_on : ℕ → List Told → StreamContent → StreamContent
told_on m [] s = s
told_on m (t ∷ ts) s = told_on m ts (told_if (nat_eq t.stream m) t s)

told_each_is : (start time : ℕ) (cs : List StreamContent) (ts : List Told)
    → told_each (record { start = start; time = time; streams = cs }) ts ≡ record { start = start; time = time; streams = told_streams cs ts }
told_each_is start time cs [] = refl
told_each_is start time cs (t ∷ ts) = told_each_is start time (changed cs t.stream (tell t)) ts

told_one_at : (cs : List StreamContent) (t : Told) (m : ℕ) (s : StreamContent) → slice_get cs m ≡ Some s → slice_get (changed cs t.stream (tell t)) m ≡ Some (told_if (nat_eq t.stream m) t s)
told_one_at cs t m s e = by (cases_eq m t.stream)
  where
    by : (m ≡ t.stream) ⊎ (m ≡ t.stream → ⊥) → slice_get (changed cs t.stream (tell t)) m ≡ Some (told_if (nat_eq t.stream m) t s)
    by (inl q) =
        ap (λ k. slice_get (changed cs k (tell t)) m) (sym q) ∙ (changed_here cs m (tell t) ∙ (ap (change_in (tell t)) e ∙ ap (λ b. Some (told_if b t s)) (sym (eq-eqb t.stream m (sym q)))))
    by (inr d) = changed_else cs t.stream m (tell t) d ∙ (e ∙ ap (λ b. Some (told_if b t s)) (sym (ne_eqb t.stream m (λ q. d (sym q)))))

told_at_stream : (cs : List StreamContent) (ts : List Told) (m : ℕ) (s : StreamContent) → slice_get cs m ≡ Some s → slice_get (told_streams cs ts) m ≡ Some (told_on m ts s)
told_at_stream cs [] m s e = e
told_at_stream cs (t ∷ ts) m s e = told_at_stream (changed cs t.stream (tell t)) ts m (told_if (nat_eq t.stream m) t s) (told_one_at cs t m s e)

none_changed : (cs : List StreamContent) (n m : ℕ) (f : StreamContent → StreamContent) → slice_get cs m ≡ None → slice_get (changed cs n f) m ≡ None
none_changed [] n m f e = refl
none_changed (c ∷ cs) zero zero f e = absurd (cc)
none_changed (c ∷ cs) zero (suc m) f e = e
none_changed (c ∷ cs) (suc n) zero f e = absurd (cc)
none_changed (c ∷ cs) (suc n) (suc m) f e = none_changed cs n m f e

none_told : (cs : List StreamContent) (ts : List Told) (m : ℕ) → slice_get cs m ≡ None → slice_get (told_streams cs ts) m ≡ None
none_told cs [] m e = e
none_told cs (t ∷ ts) m e = none_told (changed cs t.stream (tell t)) ts m (none_changed cs t.stream m (tell t) e)

told_on_both : (m : ℕ) (xs ys : List Told) (s : StreamContent) → told_on m (xs ++ ys) s ≡ told_on m ys (told_on m xs s)
told_on_both m [] ys s = refl
told_on_both m (t ∷ xs) ys s = told_on_both m xs ys (told_if (nat_eq t.stream m) t s)

-- instances of another stream
told_else : (m n i : ℕ) (ls : List Living) (s : StreamContent) → (n ≡ m → ⊥) → told_on m (told_from n i ls) s ≡ s
told_else m n i [] s d = refl
told_else m n i (l ∷ ls) s d =
    ap (λ b. told_on m (told_from n (i + 1) ls) (told_if b (record { stream = n; index = i; answer = l.outcome }) s)) (ne_eqb n m d) ∙ told_else m n (i + 1) ls s d

told_behind : (front : List Life) (l : Life) (ls : List Life) (i : ℕ) (a : Answer) → i ≡ length front
    → told_at (front ++ l ∷ ls) i a ≡ front ++ record { params = l.params; born = l.born; earlier = l.earlier; outcome = a } ∷ ls
told_behind [] l ls zero a e = refl
told_behind [] l ls (suc i) a e = absurd (omega arith)
told_behind (f ∷ front) l ls zero a e = absurd (omega arith)
told_behind (f ∷ front) l ls (suc i) a e = ap (λ xs. f ∷ xs) (told_behind front l ls i a (omega arith))

-- instances of which each is silent
silent_each : (o : Instance → Answer) → ((x : Instance) → o x ≡ Missing) → (xs : List Instance) → living_with o xs ≡ living_with (λ x. Missing) xs
silent_each o h [] = refl
silent_each o h (x ∷ xs) = ap (λ a. record { instance = x; outcome = a } ∷ living_with o xs) (h x) ∙ ap (λ ls. silent_living x ∷ ls) (silent_each o h xs)

module _ (rows : List TableRow) (time m : ℕ) where
  abbrev shown : List Living → List Life
  shown ls = map (life_of rows time m) ls

  -- without their outcomes
  abbrev hidden : List Living → List Life
  hidden ls = shown (map silent_living (instances_in ls))

  -- all instances of this stream, told one after the other
  told_all : (bad : Bool) (front : List Life) (ls : List Living) (i : ℕ) → i ≡ length front
      → told_on m (told_from m i ls) (record { bad = bad; lives = front ++ hidden ls }) ≡ record { bad = bad; lives = front ++ shown ls }
  told_all bad front [] i e = refl
  told_all bad front (l ∷ ls) i e =
      let x : Life = life_of rows time m l in
      ap (λ b. told_on m (told_from m (i + 1) ls) (told_if b (record { stream = m; index = i; answer = l.outcome }) (record { bad = bad; lives = front ++ hidden (l ∷ ls) }))) (eq-eqb m m refl)
      ∙ (ap (λ xs. told_on m (told_from m (i + 1) ls) (record { bad = bad; lives = xs }))
      (told_behind front (life_of rows time m (silent_living l.instance)) (hidden ls) i (seen l.outcome) e ∙ sym (append_assoc front (x ∷ []) (hidden ls)))
      ∙ (told_all bad (front ++ x ∷ []) ls (i + 1) (omega (arith, length-append front (x ∷ [])))
      ∙ ap (λ xs. record { bad = bad; lives = xs }) (append_assoc front (x ∷ []) (shown ls))))

  -- silent instances
  all_silent : (xs : List Instance) → shown (living_with (λ x. Missing) xs) ≡ hidden (living_with (λ x. Missing) xs)
  all_silent [] = refl
  all_silent (x ∷ xs) = ap (λ ls. life_of rows time m (silent_living x) ∷ ls) (all_silent xs)

  births_kept : (ls : List Living) → map (λ (l : Life). l.born) (shown ls) ≡ map (λ (l : Living). time_of time (slice_get rows l.instance.born)) ls
  births_kept [] = refl
  births_kept (l ∷ ls) = ap (λ ts. time_of time (slice_get rows l.instance.born) ∷ ts) (births_kept ls)

  births_hidden : (ls : List Living) → map (λ (l : Life). l.born) (hidden ls) ≡ map (λ (l : Living). time_of time (slice_get rows l.instance.born)) ls
  births_hidden [] = refl
  births_hidden (l ∷ ls) = ap (λ ts. time_of time (slice_get rows l.instance.born) ∷ ts) (births_hidden ls)

  params_kept : (ls : List Living) → map (λ l. l.params) (shown ls) ≡ map (λ l. l.instance.params) ls
  params_kept [] = refl
  params_kept (l ∷ ls) = ap (λ ps. l.instance.params ∷ ps) (params_kept ls)

  params_hidden : (ls : List Living) → map (λ l. l.params) (hidden ls) ≡ map (λ l. l.instance.params) ls
  params_hidden [] = refl
  params_hidden (l ∷ ls) = ap (λ ps. l.instance.params ∷ ps) (params_hidden ls)

module _ (plan : Plan) (accepted : IsAccepted plan) (start : ℕ) (rows : List TableRow) (step : Step) (layer : ℕ) where
  abbrev streams : List Stream
  streams = plan.spec.streams

  abbrev whole : List StreamRow
  whole = full plan start rows step

  abbrev now : Stage
  now = eval_stage (length streams) layer

  abbrev next : Stage
  next = layer_stage (length streams) (layer + 1)

  abbrev runs : ℕ → Stream → Bool
  runs n s = is_run_in plan start step whole layer n s

  -- the stream of a number is told all of its instances, or none
  abbrev told_by : ℕ → Stream → List Told
  told_by n s = if runs n s then told_from n 0 (living_in (slice_get whole n)) else []

  told_by_else : (m n : ℕ) (b : Bool) (c : StreamContent) → (n ≡ m → ⊥) → told_on m (if b then told_from n 0 (living_in (slice_get whole n)) else []) c ≡ c
  told_by_else m n true c d = told_else m n 0 (living_in (slice_get whole n)) c d
  told_by_else m n false c d = refl

  told_later : (m n : ℕ) (ss : List Stream) (c : StreamContent) → m < n → told_on m (told_in_layer plan start step whole layer n ss) c ≡ c
  told_later m n [] c lt = refl
  told_later m n (s ∷ ss) c lt =
      told_on_both m (told_by n s) (told_in_layer plan start step whole layer (n + 1) ss) c
      ∙ (ap (told_on m (told_in_layer plan start step whole layer (n + 1) ss)) (told_by_else m n (runs n s) c (λ e. omega arith))
      ∙ told_later m (n + 1) ss c (omega arith))

  told_there : (n j m : ℕ) (ss : List Stream) (s : Stream) (c : StreamContent) → m ≡ n + j → slice_get ss j ≡ Some s → told_on m (told_in_layer plan start step whole layer n ss) c ≡ told_on m (told_by m s) c
  told_there n j m [] s c e f = absurd (cc)
  told_there n zero m (r ∷ ss) s c e f =
      let a : n ≡ m = omega arith in
      let b : r ≡ s = cc in
      told_on_both m (told_by n r) (told_in_layer plan start step whole layer (n + 1) ss) c
      ∙ (told_later m (n + 1) ss (told_on m (told_by n r) c) (omega arith)
      ∙ (ap (λ k. told_on m (told_by k r) c) a ∙ ap (λ q. told_on m (told_by m q) c) b))
  told_there n (suc j) m (r ∷ ss) s c e f =
      told_on_both m (told_by n r) (told_in_layer plan start step whole layer (n + 1) ss) c
      ∙ (ap (told_on m (told_in_layer plan start step whole layer (n + 1) ss)) (told_by_else m n (runs n r) c (λ q. omega arith))
      ∙ told_there (n + 1) j m ss s c (omega arith) f)

  module _ (n : ℕ) (s : Stream) (at : slice_get plan.spec.streams n ≡ Some s) where
    abbrev alive : List Instance
    alive = survivors n s (last_row rows)

    abbrev row : StreamRow
    row = full_at plan start rows step n s

    abbrev did : Spawned
    did = spawned_in (slice_get whole n)

    -- the eval clause may be active for some instance
    abbrev active : Bool
    active = may_be_active start step (eval_pacing (slice_get plan.pacings n))

    -- and for this one
    abbrev active_for : Instance → Bool
    active_for x = is_active_for start (time_of step.time (slice_get rows x.born)) step (eval_pacing (slice_get plan.pacings n))

    there : slice_get whole n ≡ Some row
    there = at_full plan start rows step accepted.acyclic n s at

    in_range : n < length streams
    in_range = slice_get_within streams n s at

    spawns_before : layer_of plan.layers (eval_node n) ≡ layer → is_spawned plan.layers now n ≡ true
    spawns_before here =
        up_to_behind (layer_of plan.layers (spawn_node n)) n layer (length streams) (let le = spawn_no_higher plan accepted.layers n s at in omega arith) in_range

    known : layer_of plan.layers (eval_node n) ≡ layer → spawned_in (slice_get (rows_at plan start rows step now) n) ≡ did
    known here =
        ap spawned_in (at_rows plan start rows step accepted.acyclic now n s at)
        ∙ (ap (λ b. (so_far b (is_evaluated plan.layers now n s) alive row).spawned) (spawns_before here) ∙ sym (ap spawned_in there))

    -- an instance of no input comes to what its clause does
    output_is : (c : Content) (xs : List Instance) → is_input s ≡ false
        → living_with (λ x. outcome_of plan start rows step c n (inputs_before streams n) s did x) xs ≡ living_with (λ x. eval_outcome plan.spec c (is_bad did) (active_for x) s.eval x.params) xs
    output_is c xs i =
        ap (λ b. living_with (λ x. if b then input_outcome (inputs_before streams n) step.fields else eval_outcome plan.spec c (is_bad did) (active_for x) s.eval x.params) xs) i

    seen_params : (b : Bool) → map (λ l. l.params) (seen_of plan start rows step n (so_far true b alive row)).lives ≡ map (λ l. l.instance.params) row.living
    seen_params true = params_kept rows step.time n row.living
    seen_params false = params_hidden rows step.time n row.living

    seen_births : (b : Bool) → map (λ (l : Life). l.born) (seen_of plan start rows step n (so_far true b alive row)).lives ≡ map (λ (l : Living). time_of step.time (slice_get rows l.instance.born)) row.living
    seen_births true = births_kept rows step.time n row.living
    seen_births false = births_hidden rows step.time n row.living

    eval_is : is_input s ≡ false → layer_of plan.layers (eval_node n) ≡ layer → EvalIs plan start rows step layer n s
    unfolding content_so_far
    eval_is i here = record {
      living = ap living_in there
          ∙ (living_found plan start rows step accepted now (omega arith) n s at (omega arith) (known here)
          ∙ output_is (content start rows (row_of step (rows_at plan start rows step now))) (alive ++ newborn did alive (length rows)) i);
      spawned = spawns_before here;
      lives = ap (λ c. map (λ l. l.params) (lives_in c)) (at_contents plan start rows step accepted.acyclic now n s at)
          ∙ (ap (λ b. map (λ l. l.params) (seen_of plan start rows step n (so_far b (is_evaluated plan.layers now n s) alive row)).lives) (spawns_before here)
          ∙ (seen_params (is_evaluated plan.layers now n s) ∙ ap (λ o. map (λ l. l.instance.params) (living_in o)) (sym there)));
      births = ap (λ c. map (λ (l : Life). l.born) (lives_in c)) (at_contents plan start rows step accepted.acyclic now n s at)
          ∙ (ap (λ b. map (λ (l : Life). l.born) (seen_of plan start rows step n (so_far b (is_evaluated plan.layers now n s) alive row)).lives) (spawns_before here)
          ∙ (seen_births (is_evaluated plan.layers now n s) ∙ ap (λ o. map (λ (l : Living). time_of step.time (slice_get rows l.instance.born)) (living_in o)) (sym there)));
    }

    -- a stream that is not run in this layer is as it was
    abbrev seen_by : Bool → Bool → StreamContent
    seen_by a b = seen_of plan start rows step n (so_far a b alive row)

    spawned_stays : is_spawned plan.layers now n ≡ is_spawned plan.layers next n
    spawned_stays = layer_behind (layer_of plan.layers (spawn_node n)) n layer (length streams) in_range

    not_told : (c : StreamContent) → runs n s ≡ false → told_on n (told_by n s) c ≡ c
    not_told c e = ap (λ b. told_on n (if b then told_from n 0 (living_in (slice_get whole n)) else []) c) e

    is_told : (c : StreamContent) → runs n s ≡ true → told_on n (told_by n s) c ≡ told_on n (told_from n 0 row.living) c
    is_told c e =
        ap (λ b. told_on n (if b then told_from n 0 (living_in (slice_get whole n)) else []) c) e ∙ ap (λ o. told_on n (told_from n 0 (living_in o)) c) there

    unchanged : is_evaluated plan.layers now n s ≡ is_evaluated plan.layers next n s → runs n s ≡ false
        → seen_by (is_spawned plan.layers next n) (is_evaluated plan.layers next n s) ≡ told_on n (told_by n s) (seen_by (is_spawned plan.layers now n) (is_evaluated plan.layers now n s))
    unchanged e f =
        ap (λ b. seen_by b (is_evaluated plan.layers next n s)) (sym spawned_stays)
        ∙ (ap (λ b. seen_by (is_spawned plan.layers now n) b) (sym e) ∙ sym (not_told _ f))

    -- what is bad or not active is silent
    silent_by : (c : Content) (b a : Bool) (k : Option Clause) (x : Instance) → active ≡ a → (a && not b) ≡ false → eval_outcome plan.spec c b (active_for x) k x.params ≡ Missing
    silent_by c b a None x m e = refl
    silent_by c true a (Some k) x m e = refl
    silent_by c false false (Some k) x m e =
        ap (λ t. eval_outcome plan.spec c false t (Some k) x.params) (never_active start (time_of step.time (slice_get rows x.born)) step (eval_pacing (slice_get plan.pacings n)) m)
    silent_by c false true (Some k) x m e = absurd (cc)

    abbrev living_here : List Instance
    living_here = alive ++ newborn did alive (length rows)

    all_missing : is_input s ≡ false → (active && not (is_bad did)) ≡ false → row.living ≡ living_with (λ x. Missing) living_here
    all_missing i e =
        output_is (content start rows (row_of step whole)) living_here i
        ∙ silent_each _ (λ x. silent_by (content start rows (row_of step whole)) (is_bad did) active s.eval x refl e) living_here

    same_silent : is_input s ≡ false → (active && not (is_bad did)) ≡ false → seen_by true true ≡ seen_by true false
    same_silent i e =
        ap (λ ls. record { bad = is_bad row.spawned; lives = map (life_of rows step.time n) ls }) (all_missing i e)
        ∙ (ap (λ ls. record { bad = is_bad row.spawned; lives = ls }) (all_silent rows step.time n living_here)
        ∙ ap (λ ls. record { bad = is_bad row.spawned; lives = hidden rows step.time n ls }) (sym (all_missing i e)))

    told_here : is_input s ≡ false → (b : Bool) → (active && not (is_bad did)) ≡ b → runs n s ≡ b → seen_by true true ≡ told_on n (told_by n s) (seen_by true false)
    told_here i true e r = sym (is_told (seen_by true false) r ∙ told_all rows step.time n (is_bad row.spawned) [] row.living 0 refl)
    told_here i false e r = same_silent i e ∙ sym (not_told (seen_by true false) r)

    runs_by : (i : Bool) (b : Bool) → is_input s ≡ i → nat_eq (layer_of plan.layers (eval_node n)) layer ≡ b → runs n s ≡ (not i && (b && (active && not (is_bad did))))
    runs_by i b e f =
        ap (λ t. not t && (nat_eq (layer_of plan.layers (eval_node n)) layer && (active && not (is_bad did)))) e
        ∙ ap (λ t. not i && (t && (active && not (is_bad did)))) f

    evaluated_by : (g : Stage) (i : Bool) → is_input s ≡ i → is_evaluated plan.layers g n s ≡ (if i then nat_lt n g.inputs else is_behind (layer_of plan.layers (eval_node n)) n g.layer g.evals)
    evaluated_by g i e = ap (λ t. if t then nat_lt n g.inputs else is_behind (layer_of plan.layers (eval_node n)) n g.layer g.evals) e

    tells : seen_by (is_spawned plan.layers next n) (is_evaluated plan.layers next n s) ≡ told_on n (told_by n s) (seen_by (is_spawned plan.layers now n) (is_evaluated plan.layers now n s))
    tells = by (is_input s) refl (cases_eq (layer_of plan.layers (eval_node n)) layer)
      where
        by : (i : Bool) → is_input s ≡ i → (layer_of plan.layers (eval_node n) ≡ layer) ⊎ (layer_of plan.layers (eval_node n) ≡ layer → ⊥)
            → seen_by (is_spawned plan.layers next n) (is_evaluated plan.layers next n s) ≡ told_on n (told_by n s) (seen_by (is_spawned plan.layers now n) (is_evaluated plan.layers now n s))
        by true i h = unchanged (evaluated_by now true i ∙ sym (evaluated_by next true i)) (runs_by true _ i refl)
        by false i (inr d) =
            unchanged (evaluated_by now false i ∙ (same_behind (layer_of plan.layers (eval_node n)) n layer d ∙ sym (evaluated_by next false i)))
            (runs_by false false i (ne_eqb _ layer d))
        by false i (inl here) =
            let before : is_evaluated plan.layers now n s ≡ false = evaluated_by now false i ∙ equal_behind (layer_of plan.layers (eval_node n)) n layer 0 false here (le-ltb n 0 (omega arith)) in
            let after : is_evaluated plan.layers next n s ≡ true = evaluated_by next false i ∙ (sym (layer_behind (layer_of plan.layers (eval_node n)) n layer (n + 1) (omega arith)) ∙ equal_behind (layer_of plan.layers (eval_node n)) n layer (n + 1) true here (lt-ltb n (n + 1) (omega arith))) in
            ap (λ b. seen_by b (is_evaluated plan.layers next n s)) (sym spawned_stays ∙ spawns_before here)
            ∙ (ap (λ b. seen_by true b) after
            ∙ (told_here i (active && not (is_bad did)) refl (runs_by false true i (eq-eqb _ layer here))
            ∙ sym (ap (λ b. told_on n (told_by n s) (seen_by b (is_evaluated plan.layers now n s))) (spawns_before here) ∙ ap (λ b. told_on n (told_by n s) (seen_by true b)) before)))

  abbrev all_told : List Told
  all_told = told_in_layer plan start step whole layer 0 streams

  next_streams : contents plan start rows step next ≡ told_streams (contents plan start rows step now) all_told
  next_streams = same_list (contents plan start rows step next) (told_streams (contents plan start rows step now) all_told) (λ m. by m (stream_or_none streams m))
    where
      by : (m : ℕ) → ((s : Stream) × (slice_get streams m ≡ Some s)) ⊎ (slice_get streams m ≡ None) → slice_get (contents plan start rows step next) m ≡ slice_get (told_streams (contents plan start rows step now) all_told) m
      by m (inl p) =
          at_contents plan start rows step accepted.acyclic next m p.0 p.1
          ∙ (ap Some (tells m p.0 p.1 ∙ sym (told_there 0 m m streams p.0 _ (omega arith) p.1))
          ∙ sym (told_at_stream (contents plan start rows step now) all_told m _ (at_contents plan start rows step accepted.acyclic now m p.0 p.1)))
      by m (inr e) =
          past_contents plan start rows step accepted.acyclic next m e
          ∙ sym (none_told (contents plan start rows step now) all_told m (past_contents plan start rows step accepted.acyclic now m e))

  -- how the instances of the layer go
  pub evals_go : EvalsGo plan start rows step layer
  unfolding content_so_far
  evals_go = record {
    here = λ n s at i here. eval_is n s at i here;
    next = ap (with_contents plan start rows step) next_streams ∙ sym (told_each_is start step.time (contents plan start rows step now) all_told);
  }
