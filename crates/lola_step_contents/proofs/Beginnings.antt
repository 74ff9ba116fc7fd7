-- What a new store stands for.
use Rattle.std.proofs.Common.{◌≡◌, ℕ, ◌+◌, refl, List, [], ◌∷◌, Option, Some, None, Bool, true, false, ap, ◌∙◌, map, drop, if◌then◌else◌, sym, suc, ◌<◌, length, slice_get, arith}
use Rattle.lola_value.specs.Naming.{Naming}
use Rattle.lola_model.specs.Content.{Life}
use Rattle.lola_model.specs.Model.{the_instance}
use Rattle.lola_model.specs.Runs.{life_after, streams_after, content_after, rested_life, rested_stream}
use Rattle.lola_model.specs.Standing.{StandsBetween}
use Rattle.lola_model.specs.Store.{SeenInstance, SeenStream, StreamLayout, spawns_in, instances_of, instances_seen, newborn_seen, no_params, StandForLives, Memories, StandForStreams, after_start, new_seen, layout_of, layouts_from, opened}
use Rattle.lola_model.specs.declared.pacing.ClausePacings.{ClausePacings}
use Rattle.lola_model.specs.declared.spec.Stream.{Stream}
use Rattle.lola_model.specs.declared.plan.Plan.{Plan}
use Rattle.lola_model.specs.declared.spec.Clause.{Clause}

-- the instances that a new stream shows, and the lives that it has, with a spawn clause or without one

abbrev first_instances : Option Clause → List SeenInstance
first_instances o = if (elim o [ None ↦ false | Some k ↦ true ]) then [] else newborn_seen 0 no_params ∷ []

abbrev first_lives : ℕ → Option Clause → List Life
first_lives n o = map (life_after [] n) (elim o [ None ↦ the_instance ∷ [] | Some k ↦ [] ])

first_births : (n : ℕ) (o : Option Clause) (spawns : Bool) → spawns ≡ (elim o [ None ↦ false | Some k ↦ true ]) → spawns ≡ true
    → map (λ (x : SeenInstance). x.born) (first_instances o) ≡ map (λ (l : Life). l.born) (first_lives n o)
first_births n None spawns e has = absurd (cc)
first_births n (Some k) spawns e has = refl

first_lives_rested : (start n : ℕ) (o : Option Clause) → map (rested_life start) (first_lives n o) ≡ first_lives n o
first_lives_rested start n None = refl
first_lives_rested start n (Some k) = refl

first_streams_rested : (start n : ℕ) (ss : List Stream) → map (rested_stream start) (streams_after [] n ss) ≡ streams_after [] n ss
first_streams_rested start n [] = refl
first_streams_rested start n (s ∷ ss) =
    ap (λ ls. record { bad = false; lives = ls } ∷ map (rested_stream start) (streams_after [] (n + 1) ss)) (first_lives_rested start n s.spawn)
    ∙ ap (λ cs. record { bad = false; lives = first_lives n s.spawn } ∷ cs) (first_streams_rested start (n + 1) ss)

-- streams of these layouts that remember no value of any instance that they show
module _ (layouts : List StreamLayout) (names : Naming) (remembers : Memories) (all : List SeenStream) (fresh : (n i : ℕ) → i < length (instances_of (slice_get all n)) → remembers names n i []) where
  first_lives_stand : (n : ℕ) (o : Option Clause) → first_instances o ≡ instances_of (slice_get all n) → StandForLives names remembers n 0 (first_instances o) (first_lives n o)
  first_lives_stand n None e =
      let one : 1 ≡ length (instances_of (slice_get all n)) = ap length e in
      (record { params = refl; params_held = tt; outcome = refl; outcome_held = tt; earlier = fresh n 0 (omega arith) }, tt)
  first_lives_stand n (Some k) e = tt

  first_streams_stand : (n : ℕ) (ss : List Stream) (kept : List ℕ) (pacings : List ClausePacings)
      → ((j : ℕ) → slice_get layouts (n + j) ≡ slice_get (layouts_from ss kept pacings) j)
      → ((j : ℕ) → slice_get all (n + j) ≡ slice_get (map opened (layouts_from ss kept pacings)) j)
      → StandForStreams layouts names remembers n (map opened (layouts_from ss kept pacings)) (streams_after [] n ss)
  first_streams_stand n [] kept pacings laid e = tt
  first_streams_stand n (s ∷ ss) kept pacings laid e =
      let at : n ≡ n + 0 = omega arith in
      let here : slice_get all n ≡ slice_get (map opened (layouts_from (s ∷ ss) kept pacings)) 0 = ap (slice_get all) at ∙ e 0 in
      let layout : slice_get layouts n ≡ slice_get (layouts_from (s ∷ ss) kept pacings) 0 = ap (slice_get layouts) at ∙ laid 0 in (
        record {
          bad = refl;
          lives = first_lives_stand n s.spawn (sym (ap instances_of here));
          births = first_births n s.spawn (spawns_in (slice_get layouts n)) (ap spawns_in layout);
        },
        first_streams_stand (n + 1) ss (drop 1 kept) (drop 1 pacings)
            (λ j. (let z : n + 1 + j ≡ n + suc j = omega arith in ap (slice_get layouts) z) ∙ laid (suc j))
            (λ j. (let z : n + 1 + j ≡ n + suc j = omega arith in ap (slice_get all) z) ∙ e (suc j)),
      )

-- a store that remembers no value of its instances and shows what a new one shows after its start stands for the empty content
pub stands_new : (names : Naming) (remembers : Memories) (plan : Plan) (start : ℕ)
    → ((n i : ℕ) → i < length (instances_seen (after_start (new_seen (layout_of plan)) start) n) → remembers names n i [])
    → StandsBetween names remembers (after_start (new_seen (layout_of plan)) start) (content_after plan start [])
stands_new names remembers plan start fresh = (
  content_after plan start [],
  record {
    start = refl;
    time = refl;
    streams = first_streams_stand (layout_of plan).streams names remembers (new_seen (layout_of plan)).streams fresh 0 plan.spec.streams plan.kept plan.pacings
        (λ j. let z : 0 + j ≡ j = omega arith in ap (slice_get (layout_of plan).streams) z)
        (λ j. let z : 0 + j ≡ j = omega arith in ap (slice_get (new_seen (layout_of plan)).streams) z);
  },
  ap (λ cs. record { start = start; time = start; streams = cs }) (first_streams_rested start 0 plan.spec.streams),
)
