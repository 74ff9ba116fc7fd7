-- The next local deadline that a store shows is that of the instances that live behind a table.
use Rattle.std.proofs.Common.{◌≡◌, ℕ, ◌+◌, refl, arith, List, [], ◌∷◌, Option, Some, None, Bool, true, false, ap, sym, ◌∙◌, map, drop, suc, slice_get}
use Rattle.lola_value.specs.Ratio.{Ratio}
use Rattle.lola_value.specs.Naming.{Naming}
use Rattle.lola_model.specs.Content.{Life, StreamContent, Content, time_of}
use Rattle.lola_model.specs.Dues.{due_among, due_in}
use Rattle.lola_model.specs.Model.{last_row, survivors}
use Rattle.lola_model.specs.NextStep.{earlier, first_due, local_rates, due_of_instances, due_of_streams, open_from}
use Rattle.lola_model.specs.Pacings.{ArePacings}
use Rattle.lola_model.specs.Runs.{life_after, rested_life, rested_stream, streams_after, content_after}
use Rattle.lola_model.specs.Standing.{StandsBetween}
use Rattle.lola_model.specs.Store.{Layout, Seen, SeenInstance, SeenStream, StreamLayout, Memories, StandForStreams, spawns_in, layout_of, layouts_from}
use Rattle.lola_model.specs.Table.{Instance, TableRow}
use Rattle.lola_model.specs.declared.pacing.ClausePacings.{ClausePacings}
use Rattle.lola_model.specs.declared.plan.Plan.{Plan}
use Rattle.lola_model.specs.declared.spec.Clause.{Clause}
use Rattle.lola_model.specs.declared.spec.Stream.{Stream}
use Rattle.lola_model.proofs.LocalsSpawn.{no_local_rates}

-- the first deadline of instances that were born at these times
abbrev due_since : List Ratio → ℕ → List ℕ → Option ℕ
due_since rates from [] = None
due_since rates from (t ∷ ts) = earlier (first_due t rates from) (due_since rates from ts)

-- the times of birth decide, on both sides

shown_since : (rates : List Ratio) (from : ℕ) (xs : List SeenInstance) → due_among rates from xs ≡ due_since rates from (map (λ (x : SeenInstance). x.born) xs)
shown_since rates from [] = refl
shown_since rates from (x ∷ xs) = ap (earlier (first_due x.born rates from)) (shown_since rates from xs)

module _ (plan : Plan) (rows : List TableRow) where
  lives_since : (rates : List Ratio) (n : ℕ) (is : List Instance)
      → due_of_instances plan rows rates is ≡ due_since rates (open_from (last_row rows)) (map (λ (l : Life). l.born) (map (life_after rows n) is))
  lives_since rates n [] = refl
  lives_since rates n (i ∷ is) = ap (earlier (first_due (time_of 0 (slice_get rows i.born)) rates (open_from (last_row rows)))) (lives_since rates n is)

-- without a rate no instance has a deadline
none_since : (from : ℕ) (ts : List ℕ) → due_since [] from ts ≡ None
none_since from [] = refl
none_since from (t ∷ ts) = none_since from ts

same_births : (time : ℕ) (ls : List Life) → map (λ (l : Life). l.born) ls ≡ map (λ (l : Life). l.born) (map (rested_life time) ls)
same_births time [] = refl
same_births time (l ∷ ls) = ap (λ bs. l.born ∷ bs) (same_births time ls)

-- a stream that was born at the same times has the same deadline, and one without a spawn clause has none
module _ (rates : List Ratio) (from : ℕ) (shown lives : List ℕ) (spawns : Bool) (births : spawns ≡ true → shown ≡ lives) where
  since_same : (o : Option Clause) → spawns ≡ (elim o [ None ↦ false | Some k ↦ true ]) → (o ≡ None → rates ≡ []) → due_since rates from shown ≡ due_since rates from lives
  since_same None e none =
      let no_rates : rates ≡ [] = none refl in
      ap (λ rs. due_since rs from shown) no_rates ∙ (none_since from shown ∙ sym (ap (λ rs. due_since rs from lives) no_rates ∙ none_since from lives))
  since_same (Some k) e none = ap (due_since rates from) (births e)

next_pacing : (pacings : List ClausePacings) (j : ℕ) → slice_get pacings (suc j) ≡ slice_get (drop 1 pacings) j
next_pacing [] j = refl
next_pacing (c ∷ cs) j = refl

module _ (plan : Plan) (paced : ArePacings plan.spec plan.pacings) (names : Naming) (remembers : Memories) (layouts : List StreamLayout) (time : ℕ) (rows : List TableRow) where
  -- from when on deadlines are open, and when the instances of a stream were born that live behind the table

  abbrev from : ℕ
  from = open_from (last_row rows)

  abbrev born_after : ℕ → Stream → List ℕ
  born_after n s = map (λ (l : Life). l.born) (map (life_after rows n) (survivors n s (last_row rows)))

  streams_due : (n : ℕ) (ss : List Stream) (kept : List ℕ) (pacings : List ClausePacings) (xs : List SeenStream) (cs : List StreamContent)
      → ((j : ℕ) → slice_get plan.spec.streams (n + j) ≡ slice_get ss j)
      → ((j : ℕ) → slice_get plan.pacings (n + j) ≡ slice_get pacings j)
      → ((j : ℕ) → slice_get layouts (n + j) ≡ slice_get (layouts_from ss kept pacings) j)
      → StandForStreams layouts names remembers n xs cs → map (rested_stream time) cs ≡ streams_after rows n ss
      → due_in (open_from (last_row rows)) (layouts_from ss kept pacings) xs ≡ due_of_streams plan rows n ss
  streams_due n [] kept pacings xs cs streams paces laid h e = refl
  streams_due n (s ∷ ss) kept pacings [] [] streams paces laid h e = absurd (cc)
  streams_due n (s ∷ ss) kept pacings [] (c ∷ cs) streams paces laid h e = absurd h
  streams_due n (s ∷ ss) kept pacings (x ∷ xs) [] streams paces laid h e = absurd h
  streams_due n (s ∷ ss) kept pacings (x ∷ xs) (c ∷ cs) streams paces laid h e =
      let at : n ≡ n + 0 = omega arith in
      let stream : slice_get plan.spec.streams n ≡ Some s = ap (slice_get plan.spec.streams) at ∙ streams 0 in
      let pacing : slice_get plan.pacings n ≡ slice_get pacings 0 = ap (slice_get plan.pacings) at ∙ paces 0 in
      let layout : slice_get layouts n ≡ slice_get (layouts_from (s ∷ ss) kept pacings) 0 = ap (slice_get layouts) at ∙ laid 0 in
      let first : rested_stream time c ≡ record { bad = false; lives = map (life_after rows n) (survivors n s (last_row rows)) } = (cc) in
      let others : map (rested_stream time) cs ≡ streams_after rows (n + 1) ss = (cc) in
      let births = λ (spawns : spawns_in (slice_get layouts n) ≡ true).
      h.0.births spawns ∙ (same_births time c.lives ∙ ap (λ (d : StreamContent). map (λ (l : Life). l.born) d.lives) first) in
      let head =
      shown_since (local_rates (slice_get pacings 0)) from x.instances
      ∙ (since_same (local_rates (slice_get pacings 0)) from (map (λ (x : SeenInstance). x.born) x.instances) (born_after n s)
      (spawns_in (slice_get layouts n)) births s.spawn (ap spawns_in layout)
      (λ none. ap local_rates (sym pacing) ∙ no_local_rates plan.spec plan.pacings paced n s stream none)
      ∙ (ap (λ (p : Option ClausePacings). due_since (local_rates p) from (born_after n s)) (sym pacing)
      ∙ sym (lives_since plan rows (local_rates (slice_get plan.pacings n)) n (survivors n s (last_row rows))))) in
      let tail = streams_due (n + 1) ss (drop 1 kept) (drop 1 pacings) xs cs
      (λ j. (let z : n + 1 + j ≡ n + suc j = omega arith in ap (slice_get plan.spec.streams) z) ∙ streams (suc j))
      (λ j. (let z : n + 1 + j ≡ n + suc j = omega arith in ap (slice_get plan.pacings) z) ∙ (paces (suc j) ∙ next_pacing pacings j))
      (λ j. (let z : n + 1 + j ≡ n + suc j = omega arith in ap (slice_get layouts) z) ∙ laid (suc j))
      h.1 others in
      ap (λ t. earlier t (due_in from (layouts_from ss (drop 1 kept) (drop 1 pacings)) xs)) head
      ∙ ap (earlier (due_of_instances plan rows (local_rates (slice_get plan.pacings n)) (survivors n s (last_row rows)))) tail

-- a store that stands for the content behind a table shows the deadline that comes next behind it
pub local_due : (plan : Plan) → ArePacings plan.spec plan.pacings → (names : Naming) (remembers : Memories) (s : Seen) → s.layout ≡ layout_of plan
    → (start : ℕ) (rows : List TableRow) → StandsBetween names remembers s (content_after plan start rows)
    → due_in (open_from (last_row rows)) s.layout.streams s.streams ≡ due_of_streams plan rows 0 plan.spec.streams
local_due plan paced names remembers s laid start rows stands =
    ap (λ (l : Layout). due_in (open_from (last_row rows)) l.streams s.streams) laid
    ∙ streams_due plan paced names remembers s.layout.streams stands.0.time rows 0 plan.spec.streams plan.kept plan.pacings s.streams stands.0.streams
    (λ j. let z : 0 + j ≡ j = omega arith in ap (slice_get plan.spec.streams) z)
    (λ j. let z : 0 + j ≡ j = omega arith in ap (slice_get plan.pacings) z)
    (λ j. (let z : 0 + j ≡ j = omega arith in ap (slice_get s.layout.streams) z) ∙ ap (λ (l : Layout). slice_get l.streams j) laid)
    stands.1.streams (ap (λ (c : Content). c.streams) stands.2)
