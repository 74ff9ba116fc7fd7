-- How many instances a step may have.
use Rattle.std.proofs.Common.{◌≡◌, ap, ◌∙◌, sym, subst, ℕ, zero, suc, ◌+◌, ◌*◌, ◌<◌, ◌≤◌, ◌^◌, ◌⊎◌, inl, inr, List, [], ◌∷◌, Some, None, IsTrue, Bool, Option, true, false, if◌then◌else◌, length, drop, slice_get, arith, refl}
use Rattle.std.proofs.lemmas.List.{at_drop_more}
use Rattle.std.proofs.lemmas.Option.{slice_get-get_or}
use Rattle.lola_model.specs.Model.{most_instances}
use Rattle.lola_model.specs.Store.{Layout, Seen, SeenStream, instances_of, instances_seen, layouts_from, never_spawns}
use Rattle.lola_model.specs.Named.{has_clause}
use Rattle.lola_model.specs.declared.plan.Plan.{Plan}
use Rattle.lola_model.specs.declared.spec.Clause.{Clause}
use Rattle.lola_model.specs.declared.spec.Stream.{Stream}
use Rattle.lola_step_contents.proofs.Places.{stream_or_none}
use Rattle.lola_step.specs.Progress.{IsOf}
use Rattle.lola_step.specs.Scratches.{HasRoom, IsScratchOf, instances_to_come, least_room, of_streams}
use Rattle.lola_step.specs.Schedules.{has_duty, numbers_of, duties_of}
use Rattle.lola_step.specs.declared.schedule.Duty.TheVariants as duty
use Rattle.lola_step.specs.declared.scratch.Scratch.{Scratch}
use Rattle.lola_step.proofs.Elements.{element}
use Rattle.lola_step.proofs.Layouts.{layouts_length, never_there}

-- a stream of a store that was made for a plan
pub has_layout : (plan : Plan) (s : Seen) (n : ℕ) → IsOf plan s → n < length plan.spec.streams → n < length s.layout.streams
has_layout plan s n of lt =
    let e : length s.layout.streams ≡ length plan.spec.streams = ap (λ l. length l.streams) of.layout ∙ layouts_length plan.spec.streams plan.kept plan.pacings in
    omega arith

no_stream : SeenStream
no_stream = record { bad = false; spawned = false; instances = [] }

-- the next stream is counted
pub counts_next : (ss : List SeenStream) (n : ℕ) → n < length ss → of_streams (drop n ss) ≡ (length (instances_of (slice_get ss n)) + 1) + of_streams (drop (n + 1) ss)
counts_next ss n lt =
    at_drop_more of_streams ss n no_stream lt
    ∙ ap (λ o. (length (instances_of o) + 1) + of_streams (drop (n + 1) ss)) (sym (slice_get-get_or ss n no_stream lt))

-- no more than so many of each
few_in_each : (ss : List SeenStream) → ((n : ℕ) → length (instances_of (slice_get ss n)) ≤ most_instances) → of_streams ss ≤ length ss * 65537
few_in_each [] few = omega arith
few_in_each (s ∷ ss) few =
    let a : of_streams ss ≤ length ss * 65537 = few_in_each ss (λ n. few (suc n)) in
    let b : length s.instances ≤ most_instances = few 0 in
    omega arith

-- their number fits
pub few_to_come : (plan : Plan) (s : Seen) → IsOf plan s → length plan.spec.streams ≤ 1024 → instances_to_come s ≤ 2 ^ 30
few_to_come plan s of few =
    let a : of_streams s.streams ≤ length s.streams * 65537 = few_in_each s.streams of.few in
    let e : length s.streams ≡ length plan.spec.streams = of.streams in
    omega arith

-- where no stream has a spawn clause

-- each has its one
one_of : (plan : Plan) (s : Seen) (n : ℕ) → IsOf plan s → never_spawns (layouts_from plan.spec.streams plan.kept plan.pacings) ≡ true
    → ((x : Stream) × (slice_get plan.spec.streams n ≡ Some x)) ⊎ (slice_get plan.spec.streams n ≡ None) → n < length plan.spec.streams
    → length (instances_seen s n) ≤ 1
one_of plan s n of never (inl h) lt = omega (arith, of.single n h.0 h.1 (never_there plan.spec.streams plan.kept plan.pacings n h.0 never h.1))
one_of plan s n of never (inr h) lt = absurd (none_past plan.spec.streams n h lt)
  where
    none_past : (xs : List Stream) (i : ℕ) → slice_get xs i ≡ None → i < length xs → ⊥
    none_past [] i g l = omega (arith, l)
    none_past (x ∷ xs) zero g l = absurd (cc)
    none_past (x ∷ xs) (suc i) g l = none_past xs i g (omega (arith, l))

two_of_each : (ss : List SeenStream) → ((n : ℕ) → n < length ss → length (instances_of (slice_get ss n)) ≤ 1) → of_streams ss ≤ 2 * length ss
two_of_each [] one = omega arith
two_of_each (s ∷ ss) one =
    let a : of_streams ss ≤ 2 * length ss = two_of_each ss (λ n lt. one (suc n) (omega (arith, lt))) in
    let b : length s.instances ≤ 1 = one 0 (omega arith) in
    omega arith

-- so the least room is enough
pub few_single : (plan : Plan) (s : Seen) → IsOf plan s → IsTrue (never_spawns s.layout.streams) → instances_to_come s ≤ least_room plan
few_single plan s of never =
    let none : never_spawns (layouts_from plan.spec.streams plan.kept plan.pacings) ≡ true = subst (λ (l : Layout). never_spawns l.streams ≡ true) of.layout never in
    let e : length s.streams ≡ length plan.spec.streams = of.streams in
    let a : of_streams s.streams ≤ 2 * length s.streams =
    two_of_each s.streams (λ n lt. one_of plan s n of none (stream_or_none plan.spec.streams n) (omega (arith, lt, e))) in
    omega arith

-- and where the list of those that have one is empty, exactly that

passing_none : (b : Bool) (n : ℕ) (rest : List ℕ) → (if b then n ∷ rest else rest) ≡ [] → (b ≡ false) × (rest ≡ [])
passing_none true n rest e = absurd (cc)
passing_none false n rest e = (refl, e)

none_born : (plan : Plan) (n : ℕ) (xs : List Stream) → numbers_of (has_duty plan duty.AnySpawn) n xs ≡ [] → (i : ℕ) (x : Stream) → slice_get xs i ≡ Some x → has_clause x.spawn ≡ false
none_born plan n [] e i x at = absurd (cc)
none_born plan n (y ∷ ys) e zero x at =
    let q : y ≡ x = cc in
    subst (λ (z : Stream). has_clause z.spawn ≡ false) q (passing_none (has_clause y.spawn) n (numbers_of (has_duty plan duty.AnySpawn) (n + 1) ys) e).0
none_born plan n (y ∷ ys) e (suc i) x at =
    none_born plan (n + 1) ys (passing_none (has_clause y.spawn) n (numbers_of (has_duty plan duty.AnySpawn) (n + 1) ys) e).1 i x at

no_spawn : (o : Option Clause) → has_clause o ≡ false → o ≡ None
no_spawn None e = refl
no_spawn (Some k) e = absurd (cc)

two_in_each : (ss : List SeenStream) → ((n : ℕ) → n < length ss → length (instances_of (slice_get ss n)) ≡ 1) → of_streams ss ≡ 2 * length ss
two_in_each [] one = omega arith
two_in_each (s ∷ ss) one =
    let a : of_streams ss ≡ 2 * length ss = two_in_each ss (λ n lt. one (suc n) (omega (arith, lt))) in
    let b : length s.instances ≡ 1 = one 0 (omega arith) in
    omega arith

nothing_listed : (ns : List ℕ) → length ns ≡ 0 → ns ≡ []
nothing_listed [] e = refl
nothing_listed (n ∷ ns) e = absurd (omega (arith, e))

pub two_exactly : (plan : Plan) (s : Seen) (births : List ℕ) → IsOf plan s → births ≡ duties_of plan duty.AnySpawn → length births ≡ 0 → instances_to_come s ≡ 2 * length plan.spec.streams
two_exactly plan s births of listed empty =
    let none : duties_of plan duty.AnySpawn ≡ [] = sym listed ∙ nothing_listed births empty in
    let e : length s.streams ≡ length plan.spec.streams = of.streams in
    let a : of_streams s.streams ≡ 2 * length s.streams =
    two_in_each s.streams (λ n lt. (let x = element plan.spec.streams n (omega (arith, lt, e)) in
    of.single n x.at x.is (no_spawn x.at.spawn (none_born plan 0 plan.spec.streams none n x.at x.is)))) in
    omega arith

pub room_is_there : (plan : Plan) (s : Seen) (n : Scratch) → IsOf plan s → IsTrue (never_spawns s.layout.streams) → IsScratchOf plan n → HasRoom n (instances_to_come s)
room_is_there plan s n of never made =
    let few : instances_to_come s ≤ least_room plan = few_single plan s of never in
    record {
      places = omega (arith, few, made.room.places);
      tasks = omega (arith, few, made.room.tasks);
      results = omega (arith, few, made.room.results);
      closing = omega (arith, few, made.room.closing);
      step_values = omega (arith, few, made.room.step_values);
    }
