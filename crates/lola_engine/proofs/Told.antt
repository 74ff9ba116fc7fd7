-- The first deadline that clock and store tell is, as far as it is below a limit, the one that is due behind a table.
use Rattle.std.proofs.Common.{◌≡◌, refl, ap, sym, subst, ◌∙◌, ℕ, suc, ◌+◌, ◌-◌, ◌<◌, ◌≤◌, List, [], ◌∷◌, Option, Some, None, Bool, true, false, if◌then◌else◌, nat_le, min, max, drop, slice_get, option_and_then, arith}
use Rattle.std.proofs.lemmas.Bool.{leb-true, leb-false, le-ltb}
use Rattle.std.specs.Option.{option_map}
use Rattle.lola_value.specs.Naming.{Naming}
use Rattle.lola_value.specs.Ratio.{Ratio}
use Rattle.lola_value.specs.Times.{latest, up_to_latest}
use Rattle.lola_clock.specs.Clock.{ClockState, first_to_come}
use Rattle.lola_model.specs.Acceptance.{IsAccepted}
use Rattle.lola_model.specs.Dues.{due_among, due_in, due_seen}
use Rattle.lola_model.specs.Model.{last_row, survivors}
use Rattle.lola_model.specs.NextStep.{below_or, due, due_of_instances, due_of_streams, earlier, first_due, has_local, local_rates, open_from}
use Rattle.lola_model.specs.Pacings.{ArePacings}
use Rattle.lola_model.specs.Runs.{content_after}
use Rattle.lola_model.specs.Standing.{StandsBetween}
use Rattle.lola_model.specs.StepOrder.{AreRates}
use Rattle.lola_model.specs.Steps.{earlier_of_two, first_after, rates_of}
use Rattle.lola_model.specs.Store.{Memories, Seen, SeenInstance, SeenStream, StreamLayout, layout_of, layouts_from}
use Rattle.lola_model.specs.Table.{Instance, TableRow}
use Rattle.lola_model.specs.declared.pacing.ClausePacings.{ClausePacings}
use Rattle.lola_model.specs.declared.plan.Plan.{Plan}
use Rattle.lola_model.specs.declared.spec.Clause.{Clause}
use Rattle.lola_model.specs.declared.spec.Stream.{Stream}
use Rattle.lola_model.proofs.Ends.{NotBefore, first_due_not_before}
use Rattle.lola_model.proofs.Listed.{due_from_start}
use Rattle.lola_model.proofs.LocalsSpawn.{no_local_rates}
use Rattle.lola_engine.specs.Rates.{HaveDeadlinesOf}
use Rattle.lola_engine.specs.Rules.{TellsDue, due_told, opened_at}

-- moments that are times
abbrev times : Option ℕ → Option ℕ
times o = option_and_then up_to_latest o

time_if : (b : Bool) (t u : ℕ) → (if b then Some t else None) ≡ Some u → t ≡ u
time_if true t u e = cc
time_if false t u e = absurd (cc)

-- the earlier of two, below a limit that is a time
below_times : (limit : ℕ) → limit ≤ latest + 1 → (a b : Option ℕ) → below_or (earlier (times a) (times b)) limit None ≡ below_or (earlier a b) limit None
below_times limit le None None = refl
below_times limit le None (Some t) = elim (nat_le t latest) as (λ c. nat_le t latest ≡ c → below_or (if c then Some t else None) limit None ≡ below_or (Some t) limit None) [
  | true ↦ λ q. refl
  | false ↦ λ q. let late : latest < t = leb-false t latest q in rw (le-ltb t limit (omega arith)) refl
] refl
below_times limit le (Some s) None = elim (nat_le s latest) as (λ c. nat_le s latest ≡ c → below_or (earlier (if c then Some s else None) None) limit None ≡ below_or (Some s) limit None) [
  | true ↦ λ q. refl
  | false ↦ λ q. let late : latest < s = leb-false s latest q in rw (le-ltb s limit (omega arith)) refl
] refl
below_times limit le (Some s) (Some t) =
    elim (nat_le s latest) as (λ c. nat_le s latest ≡ c → below_or (earlier (if c then Some s else None) (times (Some t))) limit None ≡ below_or (Some (min t s)) limit None) [
      | true ↦ λ p. elim (nat_le t latest) as (λ c. nat_le t latest ≡ c → below_or (earlier (Some s) (if c then Some t else None)) limit None ≡ below_or (Some (min t s)) limit None) [
        | true ↦ λ q. refl
        | false ↦ λ q.
            let low : s ≤ latest = leb-true s latest p in
            let late : latest < t = leb-false t latest q in
            let e : s ≡ min t s = omega arith in
            ap (λ n. below_or (Some n) limit None) e
      ] refl
      | false ↦ λ p. elim (nat_le t latest) as (λ c. nat_le t latest ≡ c → below_or (if c then Some t else None) limit None ≡ below_or (Some (min t s)) limit None) [
        | true ↦ λ q.
            let late : latest < s = leb-false s latest p in
            let low : t ≤ latest = leb-true t latest q in
            let e : t ≡ min t s = omega arith in
            ap (λ n. below_or (Some n) limit None) e
        | false ↦ λ q.
            let late : latest < s = leb-false s latest p in
            let late' : latest < t = leb-false t latest q in
            let far : limit ≤ min t s = omega arith in
            rw (le-ltb (min t s) limit far) refl
      ] refl
    ] refl

below_time : (limit : ℕ) → limit ≤ latest + 1 → (a : Option ℕ) → below_or (times a) limit None ≡ below_or a limit None
below_time limit le a = below_times limit le None a

-- what the clock tells

mapped : (start : ℕ) (o : Option ℕ) → option_and_then (λ t. up_to_latest (start + t)) o ≡ times (option_map (λ t. start + t) o)
mapped start None = refl
mapped start (Some t) = refl

pub clock_tells : (clock : ClockState) (start from : ℕ) → clock.start ≡ Some start → clock.passed - start ≡ from - start - 1 → first_to_come clock ≡ times (first_due start clock.rates from)
clock_tells clock start from at e =
    ap (λ o. option_and_then (λ z. option_and_then (λ t. up_to_latest (z + t)) (first_after clock.rates (clock.passed - z))) o) at
    ∙ (ap (λ n. option_and_then (λ t. up_to_latest (start + t)) (first_after clock.rates n)) e
    ∙ mapped start (first_after clock.rates (from - start - 1)))

-- what the store tells is not before the moment from which it is asked

earlier_open : (from : ℕ) (a b : Option ℕ) → NotBefore from a → NotBefore from b → NotBefore from (earlier a b)
earlier_open from None b h g = g
earlier_open from (Some s) None h g = λ t e. let k : from ≤ s = h s refl in let q : s ≡ t = cc in omega arith
earlier_open from (Some s) (Some r) h g = λ t e. let k : from ≤ s = h s refl in let l : from ≤ r = g r refl in let q : earlier_of_two (Some r) s ≡ t = cc in omega arith

times_open : (from : ℕ) (o : Option ℕ) → NotBefore from o → NotBefore from (times o)
times_open from None h = h
times_open from (Some s) h = λ t e. let k : from ≤ s = h s refl in let q : s ≡ t = time_if (nat_le s latest) s t e in omega arith

among_open : (rates : List Ratio) (from : ℕ) → AreRates rates → (xs : List SeenInstance) → NotBefore from (due_among rates from xs)
among_open rates from h [] = λ t e. absurd (cc)
among_open rates from h (x ∷ xs) = earlier_open from _ _ (first_due_not_before x.born rates from h) (among_open rates from h xs)

next_pacing : (pacings : List ClausePacings) (j : ℕ) → slice_get pacings (suc j) ≡ slice_get (drop 1 pacings) j
next_pacing [] j = refl
next_pacing (c ∷ cs) j = refl

in_open : (ss : List Stream) (kept : List ℕ) (pacings : List ClausePacings) (from : ℕ) → ((n : ℕ) → AreRates (local_rates (slice_get pacings n))) → (xs : List SeenStream)
    → NotBefore from (due_in from (layouts_from ss kept pacings) xs)
in_open [] kept pacings from h xs = λ t e. absurd (cc)
in_open (s ∷ ss) kept pacings from h [] = λ t e. absurd (cc)
in_open (s ∷ ss) kept pacings from h (x ∷ xs) =
    earlier_open from _ _ (among_open (local_rates (slice_get pacings 0)) from (h 0) x.instances)
    (in_open ss (drop 1 kept) (drop 1 pacings) from (λ n. subst (λ (c : Option ClausePacings). AreRates (local_rates c)) (next_pacing pacings n) (h (suc n))) xs)

-- whether a deadline is told does not depend on that moment

parts_none : (a b : Option ℕ) → earlier a b ≡ None → (a ≡ None) × (b ≡ None)
parts_none None b e = (refl, e)
parts_none (Some t) b e = absurd (cc)

both_none : (a b : Option ℕ) → a ≡ None → b ≡ None → earlier a b ≡ None
both_none None b e f = f
both_none (Some t) b e f = absurd (cc)

first_anyway : (counted : ℕ) (rates : List Ratio) (from from' : ℕ) → first_due counted rates from ≡ None → first_due counted rates from' ≡ None
first_anyway counted [] from from' e = refl
first_anyway counted (r ∷ rs) from from' e = absurd (cc)

among_anyway : (rates : List Ratio) (from from' : ℕ) (xs : List SeenInstance) → due_among rates from xs ≡ None → due_among rates from' xs ≡ None
among_anyway rates from from' [] e = refl
among_anyway rates from from' (x ∷ xs) e =
    let w = parts_none (first_due x.born rates from) (due_among rates from xs) e in
    both_none (first_due x.born rates from') (due_among rates from' xs) (first_anyway x.born rates from from' w.0) (among_anyway rates from from' xs w.1)

in_anyway : (ls : List StreamLayout) (from from' : ℕ) (xs : List SeenStream) → due_in from ls xs ≡ None → due_in from' ls xs ≡ None
in_anyway [] from from' xs e = refl
in_anyway (l ∷ ls) from from' [] e = refl
in_anyway (l ∷ ls) from from' (x ∷ xs) e =
    let w = parts_none (due_among l.locals from x.instances) (due_in from ls xs) e in
    both_none (due_among l.locals from' x.instances) (due_in from' ls xs) (among_anyway l.locals from from' x.instances w.0) (in_anyway ls from from' xs w.1)

-- before the first row no instance has a deadline

module _ (plan : Plan) (paced : ArePacings plan.spec plan.pacings) where
  none_without_rates : (is : List Instance) → due_of_instances plan [] [] is ≡ None
  none_without_rates [] = refl
  none_without_rates (i ∷ is) = none_without_rates is

  none_at_first : (n : ℕ) (s : Stream) (o : Option Clause) → s.spawn ≡ o → slice_get plan.spec.streams n ≡ Some s
      → due_of_instances plan [] (local_rates (slice_get plan.pacings n)) (survivors n s None) ≡ None
  none_at_first n s None e at =
      ap (λ rs. due_of_instances plan [] rs (survivors n s None)) (no_local_rates plan.spec plan.pacings paced n s at e) ∙ none_without_rates (survivors n s None)
  none_at_first n s (Some k) e at = rw e refl

  none_due_at_first : (n : ℕ) (ss : List Stream) → ((j : ℕ) → slice_get plan.spec.streams (n + j) ≡ slice_get ss j) → due_of_streams plan [] n ss ≡ None
  none_due_at_first n [] at = refl
  none_due_at_first n (s ∷ ss) at =
      let z : n ≡ n + 0 = omega arith in
      both_none (due_of_instances plan [] (local_rates (slice_get plan.pacings n)) (survivors n s None)) (due_of_streams plan [] (n + 1) ss)
      (none_at_first n s s.spawn refl (ap (slice_get plan.spec.streams) z ∙ at 0))
      (none_due_at_first (n + 1) ss (λ j. (let q : n + 1 + j ≡ n + suc j = omega arith in ap (slice_get plan.spec.streams) q) ∙ at (suc j)))

module _ (plan : Plan) (known : IsAccepted plan) (s : Seen) (layout : s.layout ≡ layout_of plan) where
  -- from the moment on from which deadlines are open
  pub store_tells : (names : Naming) (m : Memories) → TellsDue plan m s → (start from : ℕ) (table : List TableRow) → StandsBetween names m s (content_after plan start table)
      → from ≡ opened_at start (last_row table) → due_in from s.layout.streams s.streams ≡ due_of_streams plan table 0 plan.spec.streams
  store_tells names m tells start from [] stands at =
      let told = tells names start [] stands in
      let none = none_due_at_first plan known.paced 0 plan.spec.streams (λ j. let z : 0 + j ≡ j = omega arith in ap (slice_get plan.spec.streams) z) in
      in_anyway s.layout.streams 0 from s.streams (told ∙ none) ∙ sym none
  store_tells names m tells start from (row ∷ table) stands at =
      ap (λ n. due_in n s.layout.streams s.streams) (at ∙ same (last_row (row ∷ table)) (some_last row table)) ∙ tells names start (row ∷ table) stands
    where
      same : (o : Option TableRow) → (o ≡ None → ⊥) → opened_at start o ≡ open_from o
      same None h = absurd (h refl)
      same (Some r) h = refl

      some_last : (r : TableRow) (rs : List TableRow) → last_row (r ∷ rs) ≡ None → ⊥
      some_last r [] e = cc
      some_last r (q ∷ rs) e = some_last q rs e

  module _ (clock : ClockState) (start from : ℕ) (rates : HaveDeadlinesOf (rates_of plan.pacings) clock.rates) (at : clock.start ≡ Some start) (passed : clock.passed ≡ max start (from - 1)) (low : start ≤ from) where
    offset : clock.passed - start ≡ from - start - 1
    offset = omega (arith, passed)

    -- what is told is not before that moment, and is a time
    pub told_open : (local : Bool) → NotBefore from (due_told local clock s from)
    told_open local =
        earlier_open from (first_to_come clock) (if local then due_seen s from else None)
        (subst (λ o. NotBefore from o) (sym (clock_tells clock start from at offset)) (times_open from _ (first_due_not_before start clock.rates from (rates.are_rates known.rates.counted_from_start))))
        (go local)
      where
        go : (b : Bool) → NotBefore from (if b then due_seen s from else None)
        go true = times_open from _ (subst (λ l. NotBefore from (due_in from l.streams s.streams)) (sym layout) (in_open plan.spec.streams plan.kept plan.pacings from known.rates.counted_from_births s.streams))
        go false = λ t e. absurd (cc)

    -- and below a limit it is what is due
    module _ (names : Naming) (m : Memories) (tells : TellsDue plan m s) (table : List TableRow) (stands : StandsBetween names m s (content_after plan start table)) (opens : from ≡ opened_at start (last_row table)) where
      same_offset : from - start - 1 ≡ open_from (last_row table) - start - 1
      same_offset = go (last_row table) opens
        where
          go : (o : Option TableRow) → from ≡ opened_at start o → from - start - 1 ≡ open_from o - start - 1
          go None e = omega arith
          go (Some r) e = ap (λ n. n - start - 1) e

      of_start : first_to_come clock ≡ times (first_due start (rates_of plan.pacings) (open_from (last_row table)))
      of_start =
          clock_tells clock start (open_from (last_row table)) at (offset ∙ same_offset)
          ∙ ap (λ o. times (option_map (λ t. start + t) o)) (rates.first (open_from (last_row table) - start - 1))

      pub told_due : (limit : ℕ) → limit ≤ latest + 1 → (local : Bool) → local ≡ has_local plan.pacings → below_or (due_told local clock s from) limit None ≡ below_or (due plan table start) limit None
      told_due limit le true is =
          ap (λ o. below_or (earlier o (due_seen s from)) limit None) of_start
          ∙ (ap (λ o. below_or (earlier (times (first_due start (rates_of plan.pacings) (open_from (last_row table)))) (times o)) limit None) (store_tells names m tells start from table stands opens)
          ∙ below_times limit le (first_due start (rates_of plan.pacings) (open_from (last_row table))) (due_of_streams plan table 0 plan.spec.streams))
      told_due limit le false is =
          ap (λ o. below_or (earlier o None) limit None) of_start
          ∙ (below_times limit le (first_due start (rates_of plan.pacings) (open_from (last_row table))) None
          ∙ ap (λ o. below_or o limit None) (none_earlier (first_due start (rates_of plan.pacings) (open_from (last_row table))) ∙ sym (due_from_start plan table (sym is) start)))
        where
          none_earlier : (o : Option ℕ) → earlier o None ≡ o
          none_earlier None = refl
          none_earlier (Some t) = refl
