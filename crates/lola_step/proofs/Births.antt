-- What a store shows once a spawn clause of a stream is done.
use Rattle.std.proofs.Common.{◌≡◌, refl, ap, ◌∙◌, sym, subst, ℕ, zero, suc, ◌+◌, ◌<◌, ◌≤◌, ◌⊎◌, inl, inr, List, [], ◌∷◌, ◌++◌, Option, Some, None, Bool, true, false, ◌&&◌, ◌||◌, length, nat_eq, nat_lt, slice_get, if◌then◌else◌, arith, IsTrue}
use Rattle.std.proofs.lemmas.Bool.{cases_eq, le-ltb, lt-ltb, ltb-true}
use Rattle.std.proofs.lemmas.List.{length-append}
use Rattle.lola_value.specs.declared.value.Params.{Params}
use Rattle.lola_model.specs.Graph.{layer_of, spawn_node}
use Rattle.lola_model.specs.Model.{most_instances}
use Rattle.lola_model.specs.Spawning.{has_room}
use Rattle.lola_model.specs.Store.{Seen, SeenInstance, SeenStream, is_running, after_poison_stream, after_spawn, has_spawned, instances_of, instances_seen, is_silent, newborn_seen, now_at, now_seen, time_seen}
use Rattle.lola_model.specs.declared.plan.Plan.{Plan}
use Rattle.lola_model.specs.declared.spec.Clause.{Clause}
use Rattle.lola_model.specs.declared.spec.Stream.{Stream}
use Rattle.lola_step_contents.specs.Stages.{Stage, is_behind, is_spawned, spawn_stage}
use Rattle.lola_step_contents.proofs.Behind.{equal_behind, next_behind}
use Rattle.lola_step.specs.Progress.{GoesOn, IsAt, IsOf}
use Rattle.lola_step.specs.Spawns.{IsAfterClause, after_clause}
use Rattle.lola_step.proofs.Shown.{changed_else, changed_length, goes_on_by, goes_on_far, goes_on_same, kept_of, moved_of, of_same}

-- what is behind a stage is behind the next

weaker : (a b c : Bool) → (a || (b && c)) ≡ false → (a || (b && false)) ≡ false
weaker true b c h = h
weaker false true c h = refl
weaker false false c h = refl

pub earlier_behind : (l m now n : ℕ) → is_behind l m now (n + 1) ≡ false → is_behind l m now n ≡ false
earlier_behind l m now n h = by (cases_eq m n)
  where
    by : (m ≡ n) ⊎ (m ≡ n → ⊥) → is_behind l m now n ≡ false
    by (inl e) = ap (λ t. nat_lt l now || (nat_eq l now && t)) (le-ltb m n (omega (arith, e))) ∙ weaker (nat_lt l now) (nat_eq l now) (nat_lt m (n + 1)) h
    by (inr d) = next_behind l m now n d ∙ h

-- a stream is bad

abbrev spoils : SeenStream → SeenStream
spoils x = record x { bad = true }

-- an instance is born

abbrev bears : ℕ → Params → SeenStream → SeenStream
bears time p x = record x { spawned = true; instances = x.instances ++ newborn_seen time p ∷ [] }

newborn_silent : (time : ℕ) (p : Params) (xs : List SeenInstance) (i : ℕ) → is_silent (now_at (slice_get xs i)) ≡ true → is_silent (now_at (slice_get (xs ++ newborn_seen time p ∷ []) i)) ≡ true
newborn_silent time p [] zero h = refl
newborn_silent time p [] (suc i) h = refl
newborn_silent time p (x ∷ xs) zero h = h
newborn_silent time p (x ∷ xs) (suc i) h = newborn_silent time p xs i h

one_more : (time : ℕ) (p : Params) (xs : List SeenInstance) → length (xs ++ newborn_seen time p ∷ []) ≡ length xs + 1
one_more time p xs = length-append xs (newborn_seen time p ∷ [])

born_room : (time : ℕ) (p : Params) (xs : List SeenInstance) (b : Bool) → b ≡ false → length (xs ++ newborn_seen time p ∷ []) + 0 ≡ length xs + (if b then 0 else 1)
born_room time p xs true e = absurd (cc)
born_room time p xs false e = let h = one_more time p xs in omega (arith, h)

-- an instance is born only where there is room
pub room_below : (place : Option ℕ) (count : ℕ) → has_room place count ≡ true → count < most_instances
room_below (Some i) count h = absurd (cc)
room_below None count h = ltb-true count most_instances h

pub not_born : (s : Seen) (n : ℕ) → false ≡ true → length (instances_seen s n) < most_instances
not_born s n h = absurd (cc)

-- what is the same in a store but for one stream that has a spawn clause and for which the spawn clause is done
pub record IsSpawnChange (plan : Plan) (n : ℕ) (s t : Seen) : Type 0 where
  pub of : IsOf plan t
  pub goes_on : GoesOn s t
  pub silent : (m i : ℕ) → is_silent (now_seen s m i) ≡ true → is_silent (now_seen t m i) ≡ true
  pub others : (m : ℕ) → (m ≡ n → ⊥) → has_spawned (slice_get t.streams m) ≡ has_spawned (slice_get s.streams m)

module _ (plan : Plan) (n : ℕ) (s : Seen) (of : IsOf plan s) where
  no_change : IsSpawnChange plan n s s
  no_change = record { of = of; goes_on = goes_on_same s; silent = λ m i h. h; others = λ m d. refl }

  pub bad_change : IsSpawnChange plan n s (after_poison_stream s n)
  bad_change = record {
    of = of_same plan s n spoils (λ x at. refl) of;
    goes_on = goes_on_by plan s n spoils (λ x at. refl) (λ x at. omega arith);
    silent = λ m i h. kept_of (λ o. is_silent (now_at (slice_get (instances_of o) i))) spoils s.streams n m (λ x at. refl) ∙ h;
    others = λ m d. ap has_spawned (changed_else s.streams n m spoils d);
  }

  module _ (stream : Stream) (k : Clause) (at : slice_get plan.spec.streams n ≡ Some stream) (has : stream.spawn ≡ Some k)
      (first : has_spawned (slice_get s.streams n) ≡ false) (room : length (instances_seen s n) < most_instances) (p : Params) where
    abbrev time : ℕ
    time = time_seen s

    born_change : IsSpawnChange plan n s (after_spawn s n p true)
    born_change = record {
      of = record {
        layout = of.layout;
        streams = changed_length s.streams n (bears time p) ∙ of.streams;
        few = λ m. moved_of (λ o. length (instances_of o) ≤ most_instances) (bears time p) s.streams n m
            (λ x here h. (let e = one_more time p x.instances in let c : length (instances_seen s n) ≡ length x.instances = ap (λ o. length (instances_of o)) here in omega (arith, e, c, room))) (of.few m);
        single = λ m r e none.
            ap (λ o. length (instances_of o)) (changed_else s.streams n m (bears time p)
            (λ q. (let a : slice_get plan.spec.streams n ≡ Some r = (rw (← q) e) in let b : r ≡ stream = cc in let c : Some k ≡ None = sym has ∙ (ap (λ (x : Stream). x.spawn) (sym b) ∙ none) in absurd (cc))))
            ∙ of.single m r e none;
        order = of.order;
        in_time = of.in_time;
      };
      goes_on = goes_on_by plan s n (bears time p)
          (λ x here. born_room time p x.instances x.spawned (sym (ap has_spawned here) ∙ first))
          (λ x here. (let e = one_more time p x.instances in omega (arith, e)));
      silent = λ m i h. moved_of (λ o. is_silent (now_at (slice_get (instances_of o) i)) ≡ true) (bears time p) s.streams n m (λ x here g. newborn_silent time p x.instances i g) h;
      others = λ m d. ap has_spawned (changed_else s.streams n m (bears time p) d);
    }

change_far : (plan : Plan) (n : ℕ) (r s t : Seen) → IsSpawnChange plan n r s → IsSpawnChange plan n s t → IsSpawnChange plan n r t
change_far plan n r s t g h = record {
  of = h.of;
  goes_on = goes_on_far r s t g.goes_on h.goes_on;
  silent = λ m i e. h.silent m i (g.silent m i e);
  others = λ m d. h.others m d ∙ g.others m d;
}

-- whatever a spawn clause does
pub clause_changes : (plan : Plan) (n : ℕ) (s t : Seen) (stream : Stream) (k : Clause) → slice_get plan.spec.streams n ≡ Some stream → stream.spawn ≡ Some k
    → IsOf plan s → has_spawned (slice_get s.streams n) ≡ false → IsAfterClause s n t → IsSpawnChange plan n s t
clause_changes plan n s t stream k at has of first h = subst (IsSpawnChange plan n s) (sym h.is) (bad_or_not h.bad (born_or_not h.born h.room))
  where
    born_or_not : (b : Bool) → (b ≡ true → length (instances_seen s n) < most_instances) → IsSpawnChange plan n s (after_spawn s n h.params b)
    born_or_not true room = born_change plan n s of stream k at has first (room refl) h.params
    born_or_not false room = no_change plan n s of

    bad_or_not : (b : Bool) → IsSpawnChange plan n s (after_spawn s n h.params h.born) → IsSpawnChange plan n s (after_clause s n h.params h.born b)
    bad_or_not true g = change_far plan n s (after_spawn s n h.params h.born) (after_poison_stream (after_spawn s n h.params h.born) n) g (bad_change plan n (after_spawn s n h.params h.born) g.of)
    bad_or_not false g = g

module _ (plan : Plan) (layer n : ℕ) where
  abbrev stage : ℕ → Stage
  stage k = spawn_stage (length plan.spec.streams) layer k

  -- a store that did not change is at the next stage too
  pub at_next : (s : Seen) → IsAt plan (stage n) s → IsAt plan (stage (n + 1)) s
  at_next s h = record {
    of = h.of;
    running = h.running;
    silent = h.silent;
    unspawned = λ m not_yet. h.unspawned m (earlier_behind (layer_of plan.layers (spawn_node m)) m layer n not_yet);
  }

  -- the spawn clause of a stream of the layer is still to come
  pub to_come_here : layer_of plan.layers (spawn_node n) ≡ layer → is_spawned plan.layers (stage n) n ≡ false
  to_come_here e = equal_behind (layer_of plan.layers (spawn_node n)) n layer n false e (le-ltb n n (omega arith))

  -- and is done at the next stage
  pub done_here : layer_of plan.layers (spawn_node n) ≡ layer → is_spawned plan.layers (stage (n + 1)) n ≡ true
  done_here e = equal_behind (layer_of plan.layers (spawn_node n)) n layer (n + 1) true e (lt-ltb n (n + 1) (omega arith))

  -- so is one that changed by it
  pub at_changed : (s t : Seen) → layer_of plan.layers (spawn_node n) ≡ layer → IsAt plan (stage n) s → IsSpawnChange plan n s t → IsAt plan (stage (n + 1)) t
  at_changed s t e h change = record {
    of = change.of;
    running = subst (λ p. IsTrue (is_running p)) (sym change.goes_on.phase) h.running;
    silent = λ m i r at not_yet. change.silent m i (h.silent m i r at not_yet);
    unspawned = λ m not_yet. change.others m (λ q. (let a : is_spawned plan.layers (stage (n + 1)) n ≡ false = subst (λ k. is_spawned plan.layers (stage (n + 1)) k ≡ false) q not_yet in let b = done_here e in absurd (cc)))
        ∙ h.unspawned m (earlier_behind (layer_of plan.layers (spawn_node m)) m layer n not_yet);
  }
