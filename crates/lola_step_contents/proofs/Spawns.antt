-- How the spawn clauses of a layer go: each is asked over what is done before its layer, one after the other.
use Rattle.std.proofs.Common.{◌≡◌, refl, ap, ◌∙◌, sym, ℕ, suc, ◌+◌, List, [], ◌∷◌, ◌++◌, Option, Some, None, Result, Ok, Err, Bool, true, false, not, ◌&&◌, ◌||◌, nat_lt, slice_get, arith, map, drop, length, if◌then◌else◌}
use Rattle.std.proofs.lemmas.Bool.{lt-ltb, le-ltb}
use Rattle.std.proofs.lemmas.List.{append-nil}
use Rattle.std.proofs.lemmas.Option.{slice_get_past}
use Rattle.std.proofs.Math.Seq.{drop-length}
use Rattle.lola_value.specs.declared.text.Field.{Field}
use Rattle.lola_value.specs.declared.text.Field.TheVariants as field
use Rattle.lola_value.specs.declared.value.FaultKind.TheVariants as fault
use Rattle.lola_value.specs.Answer.{Answer, Given, Missing, Faulted, Poisoned}
use Rattle.lola_value.specs.Arithmetic.{all_equal}
use Rattle.lola_model.specs.Acceptance.{IsAccepted}
use Rattle.lola_model.specs.Activity.{is_active}
use Rattle.lola_model.specs.Content.{Content, Life, StreamContent, is_bad, life_of, time_of, values_over}
use Rattle.lola_model.specs.Graph.{eval_node, layer_of, spawn_node}
use Rattle.lola_model.specs.Model.{is_among, is_input, last_row, most_instances, named_params, naming_outcome, newborn, spawn_guarded, spawn_outcome, spawn_pacing, spawned_in, survivors, when_answer}
use Rattle.lola_model.specs.Table.{Step, Instance, Spawned, Idle, Named, SpawnFaulted, SpawnPoisoned, StreamRow, TableRow}
use Rattle.lola_model.specs.declared.plan.Plan.{Plan}
use Rattle.lola_model.specs.declared.spec.Clause.{Clause}
use Rattle.lola_model.specs.declared.spec.Stream.{Stream}
use Rattle.lola_model.specs.declared.store.SpawnEnd.{SpawnEnd}
use Rattle.lola_model.specs.declared.store.SpawnEnd.TheVariants as spawn
use Rattle.lola_step_contents.specs.Changed.{after_spawning, changed, lives_among, lives_in, newborn_life, spawn_end_among, spoiled}
use Rattle.lola_step_contents.specs.Nexts.{NothingSpawns, SpawnIs, SpawnsGo, after_asking, asked_of, did_of, spawn_asks, where_true}
use Rattle.lola_step_contents.specs.Stages.{Stage, content_so_far, instances_in, is_behind, is_evaluated, silent_living, so_far, spawn_stage}
use Rattle.lola_step_contents.proofs.Agree.{instances_kept, idle_without, spawn_found}
use Rattle.lola_step_contents.proofs.Edges.{spawn_is_lower}
use Rattle.lola_step_contents.proofs.Fixed.{full, full_at, at_full}
use Rattle.lola_step_contents.proofs.Places.{at_contents, changes_contents, contents, keeps_contents, row_at, seen_of, with_contents}
use Rattle.lola_step_contents.proofs.Shapes.{passes_at, input_never_spawns}
use Rattle.lola_step_contents.proofs.Behind.{equal_behind, higher_behind, next_behind, other_behind}

-- a stream with these lives
abbrev stream_with : Bool → List Life → StreamContent
stream_with b ls = record { bad = b; lives = ls }

-- what a spawn comes to, by whether the instance lives and whether there is room
abbrev end_by : Bool → Bool → SpawnEnd
end_by lives room = if lives then spawn.Living else if room then spawn.Born else spawn.TooMany

-- what a clause did that named these parameters
abbrev did_end : SpawnEnd → List Field → Spawned
did_end e p = elim e [ spawn.Born ↦ Named p | spawn.Living ↦ Named p | spawn.TooMany ↦ SpawnFaulted fault.TooManyInstances ]

-- and what becomes of the content
abbrev after_end : SpawnEnd → Content → ℕ → List Field → Content
after_end e c n p = elim e [ spawn.Born ↦ after_spawning spawn.Born c n p | spawn.Living ↦ c | spawn.TooMany ↦ spoiled c n ]

module _ (rows : List TableRow) (time n : ℕ) where
  -- what is seen of instances without an outcome
  abbrev pub quiet : List Instance → List Life
  quiet xs = map (life_of rows time n) (map silent_living xs)

  quiet_lives : (p : List Field) (alive : List Instance) → lives_among p (quiet alive) ≡ is_among p alive
  quiet_lives p [] = refl
  quiet_lives p (x ∷ xs) = by (all_equal p x.params) (quiet_lives p xs)
    where
      by : (b : Bool) → lives_among p (quiet xs) ≡ is_among p xs → (if b then true else lives_among p (quiet xs)) ≡ (b || is_among p xs)
      by true e = refl
      by false e = e

  quiet_length : (alive : List Instance) → length (quiet alive) ≡ length alive
  quiet_length [] = refl
  quiet_length (x ∷ xs) = ap suc (quiet_length xs)

  quiet_append : (xs ys : List Instance) → quiet (xs ++ ys) ≡ quiet xs ++ quiet ys
  quiet_append [] ys = refl
  quiet_append (x ∷ xs) ys = ap (λ ls. life_of rows time n (silent_living x) ∷ ls) (quiet_append xs ys)

  quiet_end : (p : List Field) (alive : List Instance) (ls : List Life) → ls ≡ quiet alive → spawn_end_among p ls ≡ end_by (is_among p alive) (nat_lt (length alive) most_instances)
  quiet_end p alive ls e =
      ap (spawn_end_among p) e
      ∙ (ap (λ b. end_by b (nat_lt (length (quiet alive)) most_instances)) (quiet_lives p alive)
      ∙ ap (λ k. end_by (is_among p alive) (nat_lt k most_instances)) (quiet_length alive))

  did_named : (p : List Field) (lives room : Bool) → (if not lives && not room then SpawnFaulted fault.TooManyInstances else Named p) ≡ did_end (end_by lives room) p
  did_named p true room = refl
  did_named p false true = refl
  did_named p false false = refl

  did_asked : (c : Content) (alive : List Instance) → lives_in (slice_get c.streams n) ≡ quiet alive → (r : Result (List Field) Answer) → naming_outcome r alive ≡ did_of (asked_of r) c n
  did_asked c alive e (Ok p) = did_named p (is_among p alive) (nat_lt (length alive) most_instances) ∙ ap (λ x. did_end x p) (sym (quiet_end p alive _ e))
  did_asked c alive e (Err (Given v)) = refl
  did_asked c alive e (Err Missing) = refl
  did_asked c alive e (Err (Faulted k)) = refl
  did_asked c alive e (Err Poisoned) = refl

  -- what a clause does among those who live is what it did by what it asks for
  did_where : (c : Content) (alive : List Instance) → lives_in (slice_get c.streams n) ≡ quiet alive → (a : Answer) (r : Result (List Field) Answer)
      → spawn_guarded a (naming_outcome r alive) ≡ did_of (where_true a (asked_of r)) c n
  did_where c alive e (Given (field.Bool true)) r = did_asked c alive e r
  did_where c alive e (Given (field.Bool false)) r = refl
  did_where c alive e (Given (field.Int v)) r = refl
  did_where c alive e (Given (field.Text v)) r = refl
  did_where c alive e (Given field.Absent) r = refl
  did_where c alive e Missing r = refl
  did_where c alive e (Faulted k) r = refl
  did_where c alive e Poisoned r = refl

  newborn_is : (p : List Field) → quiet (record { params = p; born = length rows } ∷ []) ≡ newborn_life time p ∷ []
  newborn_is p =
      let x : Instance = record { params = p; born = length rows } in
      ap (λ o. record { params = p; born = time_of time o; earlier = values_over n x (drop (length rows) rows); outcome = Missing } ∷ []) (slice_get_past rows (length rows) (omega arith))
      ∙ ap (λ rs. record { params = p; born = time; earlier = values_over n x rs; outcome = Missing } ∷ []) (drop-length rows)

module _ (plan : Plan) (accepted : IsAccepted plan) (start : ℕ) (rows : List TableRow) (step : Step) (layer : ℕ) where
  abbrev streams : List Stream
  streams = plan.spec.streams

  abbrev stage : ℕ → Stage
  stage n = spawn_stage (length streams) layer n

  abbrev seen_at : Stage → ℕ → Stream → StreamContent
  seen_at g n s = seen_of plan start rows step n (row_at plan start rows step g n s)

  -- other streams stay as they are
  others_stay : (n m : ℕ) (s : Stream) → (m ≡ n → ⊥) → seen_at (stage n) m s ≡ seen_at (stage (n + 1)) m s
  others_stay n m s d =
      ap (λ b. seen_of plan start rows step m (so_far b (is_evaluated plan.layers (stage n) m s) (survivors m s (last_row rows)) (full_at plan start rows step m s)))
      (next_behind (layer_of plan.layers (spawn_node m)) m layer n d)

  module _ (n : ℕ) (s : Stream) (at : slice_get plan.spec.streams n ≡ Some s) where
    abbrev alive : List Instance
    alive = survivors n s (last_row rows)

    abbrev row : StreamRow
    row = full_at plan start rows step n s

    full_spawned : spawned_in (slice_get (full plan start rows step) n) ≡ row.spawned
    full_spawned = ap spawned_in (at_full plan start rows step accepted.acyclic n s at)

    -- who lives once the spawn clause is done
    living_is : instances_in row.living ≡ alive ++ newborn row.spawned alive (length rows)
    living_is =
        instances_kept _ (alive ++ newborn (spawned_in (slice_get (full plan start rows step) n)) alive (length rows))
        ∙ ap (λ sp. alive ++ newborn sp alive (length rows)) full_spawned

    nothing : seen_at (stage n) n s ≡ seen_at (stage (n + 1)) n s → contents plan start rows step (stage (n + 1)) ≡ contents plan start rows step (stage n)
    nothing e = sym (keeps_contents plan start rows step accepted.acyclic (stage n) (stage (n + 1)) n s at (λ m r f d. others_stay n m r d) e)

    something : (f : StreamContent → StreamContent) → seen_at (stage (n + 1)) n s ≡ f (seen_at (stage n) n s)
        → contents plan start rows step (stage (n + 1)) ≡ changed (contents plan start rows step (stage n)) n f
    something f e = changes_contents plan start rows step accepted.acyclic (stage n) (stage (n + 1)) n s f at (λ m r g d. others_stay n m r d) e

    -- an idle clause changes nothing
    idle_seen : (b evaluated : Bool) → row.spawned ≡ Idle
        → seen_of plan start rows step n (so_far b evaluated alive row)
        ≡ record { bad = false; lives = if evaluated then map (life_of rows step.time n) row.living else quiet rows step.time n alive }
    idle_seen true true e = ap (λ (sp : Spawned). record { bad = is_bad sp; lives = map (life_of rows step.time n) row.living }) e
    idle_seen true false e =
        ap (λ (sp : Spawned). record { bad = is_bad sp; lives = quiet rows step.time n (instances_in row.living) }) e
        ∙ ap (λ xs. record { bad = false; lives = quiet rows step.time n xs }) (living_is ∙ (ap (λ sp. alive ++ newborn sp alive (length rows)) e ∙ append-nil alive))
    idle_seen false true e = refl
    idle_seen false false e = refl

    nothing_spawns : row.spawned ≡ Idle → NothingSpawns plan start rows step layer n
    unfolding content_so_far
    nothing_spawns e = record {
      did = λ f. full_spawned ∙ e;
      next = ap (with_contents plan start rows step) (nothing (idle_seen _ _ e ∙ sym (idle_seen _ _ e)));
    }

    others_spawn : (layer_of plan.layers (spawn_node n) ≡ layer → ⊥) → NothingSpawns plan start rows step layer n
    unfolding content_so_far
    others_spawn d = record {
      did = λ f. absurd (d f);
      next = ap (with_contents plan start rows step) (nothing
          (ap (λ b. seen_of plan start rows step n (so_far b (is_evaluated plan.layers (stage n) n s) alive row)) (other_behind (layer_of plan.layers (spawn_node n)) n layer n (n + 1) d)));
    }

    passive_idle : (c : Content) (b : Bool) (k : Option Clause) (xs : List Instance) → b ≡ false → spawn_outcome plan.spec c b k xs ≡ Idle
    passive_idle c b None xs e = refl
    passive_idle c b (Some k) xs e = rw e refl

    -- an active clause of this layer
    module _ (k : Clause) (has : s.spawn ≡ Some k) (here : layer_of plan.layers (spawn_node n) ≡ layer) (active : is_active start step (spawn_pacing (slice_get plan.pacings n)) ≡ true) where
      abbrev now : Content
      now = with_contents plan start rows step (contents plan start rows step (stage n))

      is_output : is_input s ≡ false
      is_output = by (is_input s) refl
        where
          by : (b : Bool) → is_input s ≡ b → b ≡ false
          by true e = let f = input_never_spawns s (passes_at _ streams n s accepted.named.shapes at) e in absurd (cc)
          by false e = refl

      not_evaluated : (i : ℕ) → is_evaluated plan.layers (stage i) n s ≡ false
      not_evaluated i =
          ap (λ b. if b then nat_lt n (length streams) else is_behind (layer_of plan.layers (eval_node n)) n layer 0) is_output
          ∙ higher_behind (layer_of plan.layers (eval_node n)) n layer 0 (let lt = spawn_is_lower plan accepted.layers n s k at has in omega arith)

      before : seen_at (stage n) n s ≡ record { bad = false; lives = quiet rows step.time n alive }
      before = by _ _ (equal_behind _ n layer n false here (le-ltb n n (omega arith))) (not_evaluated n)
        where
          by : (a b : Bool) → a ≡ false → b ≡ false → seen_of plan start rows step n (so_far a b alive row) ≡ record { bad = false; lives = quiet rows step.time n alive }
          by a b e f = rw (e, f) refl

      after : seen_at (stage (n + 1)) n s ≡ record { bad = is_bad row.spawned; lives = quiet rows step.time n (alive ++ newborn row.spawned alive (length rows)) }
      after = by _ _ (equal_behind _ n layer (n + 1) true here (lt-ltb n (n + 1) (omega arith))) (not_evaluated (n + 1)) ∙ ap (λ xs. record { bad = is_bad row.spawned; lives = quiet rows step.time n xs }) living_is
        where
          by : (a b : Bool) → a ≡ true → b ≡ false → seen_of plan start rows step n (so_far a b alive row) ≡ record { bad = is_bad row.spawned; lives = quiet rows step.time n (instances_in row.living) }
          by a b e f = rw (e, f) refl

      lives_now : lives_in (slice_get (contents plan start rows step (stage n)) n) ≡ quiet rows step.time n alive
      lives_now = ap lives_in (at_contents plan start rows step accepted.acyclic (stage n) n s at) ∙ ap (λ (c : StreamContent). c.lives) before

      did_is : row.spawned ≡ did_of (spawn_asks plan.spec now k) now n
      did_is =
          sym (spawn_found plan start rows step accepted (stage n) (omega arith) n s at (omega arith))
          ∙ (ap (λ c. spawn_outcome plan.spec now (is_active start step (spawn_pacing (slice_get plan.pacings n))) c alive) has
          ∙ (ap (λ b. if b then spawn_guarded (when_answer plan.spec now [] k.when) (naming_outcome (named_params plan.spec now k.with) alive) else Idle) active
          ∙ did_where rows step.time n now alive lives_now (when_answer plan.spec now [] k.when) (named_params plan.spec now k.with)))

      -- the stream once its clause did this
      after_did : (sp : Spawned) → row.spawned ≡ sp → seen_at (stage (n + 1)) n s ≡ record { bad = is_bad sp; lives = quiet rows step.time n (alive ++ newborn sp alive (length rows)) }
      after_did sp e = after ∙ ap (λ x. record { bad = is_bad x; lives = quiet rows step.time n (alive ++ newborn x alive (length rows)) }) e

      -- nobody is born
      none_born : (b : Bool) (ys : List Instance) → ys ≡ [] → stream_with b (quiet rows step.time n (alive ++ ys)) ≡ stream_with b (quiet rows step.time n alive)
      none_born b ys e = ap (λ zs. stream_with b (quiet rows step.time n zs)) (ap (λ zs. alive ++ zs) e ∙ append-nil alive)

      next_same : (sp : Spawned) → row.spawned ≡ sp → is_bad sp ≡ false → newborn sp alive (length rows) ≡ [] → now ≡ with_contents plan start rows step (contents plan start rows step (stage (n + 1)))
      next_same sp did good none =
          ap (with_contents plan start rows step) (sym (nothing
          (before ∙ sym (after_did sp did ∙ (none_born (is_bad sp) (newborn sp alive (length rows)) none ∙ ap (λ b. record { bad = b; lives = quiet rows step.time n alive }) good)))))

      next_spoiled : (sp : Spawned) → row.spawned ≡ sp → is_bad sp ≡ true → newborn sp alive (length rows) ≡ [] → with_contents plan start rows step (contents plan start rows step (stage (n + 1))) ≡ spoiled now n
      next_spoiled sp did bad none =
          ap (with_contents plan start rows step) (something (λ c. record { bad = true; lives = c.lives })
          (after_did sp did ∙ (none_born (is_bad sp) (newborn sp alive (length rows)) none ∙ (ap (λ b. record { bad = b; lives = quiet rows step.time n alive }) bad
          ∙ ap (λ (c : StreamContent). record { bad = true; lives = c.lives }) (sym before)))))

      newborn_by : (p : List Field) (lives room : Bool) → is_among p alive ≡ lives → nat_lt (length alive) most_instances ≡ room
          → newborn (Named p) alive (length rows) ≡ (if not lives && room then record { params = p; born = length rows } ∷ [] else [])
      newborn_by p lives room e f =
          ap (λ b. if not b && nat_lt (length alive) most_instances then record { params = p; born = length rows } ∷ [] else []) e
          ∙ ap (λ b. if not lives && b then record { params = p; born = length rows } ∷ [] else []) f

      next_named : (p : List Field) (lives room : Bool) → is_among p alive ≡ lives → nat_lt (length alive) most_instances ≡ room → row.spawned ≡ did_end (end_by lives room) p
          → with_contents plan start rows step (contents plan start rows step (stage (n + 1))) ≡ after_end (end_by lives room) now n p
      next_named p true room e f did = sym (next_same (Named p) did refl (newborn_by p true room e f))
      next_named p false true e f did =
          ap (with_contents plan start rows step) (something (λ c. record { bad = c.bad; lives = c.lives ++ newborn_life step.time p ∷ [] })
          (after_did (Named p) did
          ∙ (ap (λ xs. record { bad = false; lives = quiet rows step.time n (alive ++ xs) }) (newborn_by p false true e f)
          ∙ (ap (λ ls. record { bad = false; lives = ls }) (quiet_append rows step.time n alive (record { params = p; born = length rows } ∷ []) ∙ ap (λ ls. quiet rows step.time n alive ++ ls) (newborn_is rows step.time n p))
          ∙ ap (λ (c : StreamContent). record { bad = c.bad; lives = c.lives ++ newborn_life step.time p ∷ [] }) (sym before)))))
      next_named p false false e f did = next_spoiled (SpawnFaulted fault.TooManyInstances) did refl refl

      next_is : (asks : Spawned) → row.spawned ≡ did_of asks now n → with_contents plan start rows step (contents plan start rows step (stage (n + 1))) ≡ after_asking asks now n
      next_is Idle did = sym (next_same Idle did refl refl)
      next_is (Named p) did =
          let e = quiet_end rows step.time n p alive (lives_in (slice_get (contents plan start rows step (stage n)) n)) lives_now in
          next_named p (is_among p alive) (nat_lt (length alive) most_instances) refl refl (did ∙ ap (λ x. did_end x p) e)
          ∙ ap (λ x. after_end x now n p) (sym e)
      next_is (SpawnFaulted f) did = next_spoiled (SpawnFaulted f) did refl refl
      next_is SpawnPoisoned did = next_spoiled SpawnPoisoned did refl refl

      spawn_is : SpawnIs plan start rows step layer n k
      unfolding content_so_far
      spawn_is = record { did = full_spawned ∙ did_is; next = next_is (spawn_asks plan.spec now k) did_is }

  -- how the spawn clauses of the layer go
  pub spawns_go : SpawnsGo plan start rows step layer
  spawns_go = record {
    active = λ n s k at has here active. spawn_is n s at k has here active;
    passive = λ n s at passive. nothing_spawns n s at (passive_idle n s at _ _ s.spawn _ passive);
    none = λ n s at none. nothing_spawns n s at (idle_without plan start rows step _ _ s.spawn _ none);
    others = λ n s at other. others_spawn n s at other;
    begin = refl;
    end = refl;
  }
