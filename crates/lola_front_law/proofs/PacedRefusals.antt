-- Of specifications whose streams are paced alike, the same is found, the same is refused, and the pacings are the same.
use Rattle.std.proofs.Common.{◌≡◌, refl, sym, ap, subst, ◌∙◌, ℕ, zero, suc, ◌+◌, ◌*◌, ◌<◌, ◌≤◌, List, [], ◌∷◌, ◌++◌, Bool, Option, Some, None, slice_get, unwrap_or, flat_map, arith}
use Rattle.std.proofs.lemmas.Nat.Gcd.{same_from_IsGcd}
use Rattle.lola_value.specs.Ratio.{Ratio}
use Rattle.lola_value.specs.declared.front.Code.{Code}
use Rattle.lola_value.specs.declared.front.Code.TheVariants as code
use Rattle.lola_value.specs.declared.front.Refusal.{Refusal}
use Rattle.lola_model.specs.PacingFound.{finding_at}
use Rattle.lola_model.specs.PacingRefused.{refusal_where, not_implied, is_filtered, refusal_of_window, finding_refusal, use_refusals, clause_refusals, used}
use Rattle.lola_model.specs.Pacings.{AreWindowRefusals, Found, IsCloseFound, IsEvalFound, IsSpawnFound, InStep, finding_of_part, pacing_of, pacings_from, refusals_from, refusals_of, stream_refusals}
use Rattle.lola_model.specs.Parts.{listed_clause}
use Rattle.lola_model.specs.WindowRefusals.{IsRateRefusal, IsWindowRefusal}
use Rattle.lola_model.specs.declared.finding.FoundPacing.{FoundPacing}
use Rattle.lola_model.specs.declared.finding.FoundPacing.TheVariants.{Paced, Refused, Unpaced}
use Rattle.lola_model.specs.declared.pacing.ClausePacings.{ClausePacings}
use Rattle.lola_model.specs.declared.pacing.Pacing.TheVariants.{Event, Periodic, Local}
use Rattle.lola_model.specs.declared.spec.Clause.{Clause}
use Rattle.lola_model.specs.declared.spec.Spec.{Spec}
use Rattle.lola_model.specs.declared.spec.Stream.{Stream}
use Rattle.lola_model.specs.declared.spec.WindowSpec.{WindowSpec}
use Rattle.lola_model.specs.declared.uses.Use.{Use}
use Rattle.lola_model.specs.declared.uses.Use.TheVariants.{OfStream, OfWindow}
use Rattle.lola_front_law.proofs.AlikeKinds.{two, three, both}
use Rattle.lola_front_law.proofs.OneFinding.{HasLowestRate}
use Rattle.lola_front_law.proofs.PacedStreams.{SameUse, SameUses, PacedClauses, PacedStream, PacedStreams, uses_same, filtered_same, one_owns, one_spawns, one_evals, one_closes}

-- ---- what stands against a window

not_both : (p q over : ℕ) → p ≡ q → over ≤ 65536 * p → 65536 * q < over → ⊥
not_both p q over e few many = omega (arith, e, few, many)

one_rate_refusal : (r : Ratio) (over : ℕ) (v u : Option Code) → IsRateRefusal r over v → IsRateRefusal r over u → v ≡ u
one_rate_refusal r over None None a b = refl
one_rate_refusal r over None (Some code.WindowNeedsWholePeriod) a b = absurd (b a.whole)
one_rate_refusal r over None (Some code.WindowTooFine) a b = absurd (not_both a.pane b.pane over (same_from_IsGcd _ _ _ _ a.is_pane b.is_pane) a.few b.many)
one_rate_refusal r over None _ a b = absurd b
one_rate_refusal r over (Some code.WindowNeedsWholePeriod) None a b = absurd (a b.whole)
one_rate_refusal r over (Some code.WindowNeedsWholePeriod) (Some code.WindowNeedsWholePeriod) a b = refl
one_rate_refusal r over (Some code.WindowNeedsWholePeriod) (Some code.WindowTooFine) a b = absurd (a b.whole)
one_rate_refusal r over (Some code.WindowNeedsWholePeriod) _ a b = absurd b
one_rate_refusal r over (Some code.WindowTooFine) None a b = absurd (not_both b.pane a.pane over (same_from_IsGcd _ _ _ _ b.is_pane a.is_pane) b.few a.many)
one_rate_refusal r over (Some code.WindowTooFine) (Some code.WindowNeedsWholePeriod) a b = absurd (b a.whole)
one_rate_refusal r over (Some code.WindowTooFine) (Some code.WindowTooFine) a b = refl
one_rate_refusal r over (Some code.WindowTooFine) _ a b = absurd b
one_rate_refusal r over _ u a b = absurd a

one_window_refusal : (f : FoundPacing) (over : ℕ) (v u : Option Code) → IsWindowRefusal f over v → IsWindowRefusal f over u → v ≡ u
one_window_refusal (Paced (Event sets)) over v u a b = a ∙ sym b
one_window_refusal (Paced (Periodic r)) over v u a b = one_rate_refusal r over v u a b
one_window_refusal (Paced (Local r)) over v u a b = a ∙ sym b
one_window_refusal (Refused r) over v u a b = a ∙ sym b
one_window_refusal Unpaced over v u a b = a ∙ sym b

module _ (spawns evals closes : List FoundPacing) where
  -- of a window, if there is one of that number
  abbrev IsWindowRefusalOf : Option WindowSpec → Option Code → Type 0
  IsWindowRefusalOf None v = v ≡ None
  IsWindowRefusalOf (Some w) v = IsWindowRefusal (finding_of_part spawns evals closes w.stream w.part) w.over v

  window_refusal_there : (ws : List WindowSpec) (vs : List (Option Code)) (i : ℕ) → AreWindowRefusals spawns evals closes ws vs → IsWindowRefusalOf (slice_get ws i) (unwrap_or (slice_get vs i) None)
  window_refusal_there [] [] i h = refl
  window_refusal_there (w ∷ ws) (v ∷ vs) zero h = h.0
  window_refusal_there (w ∷ ws) (v ∷ vs) (suc i) h = window_refusal_there ws vs i h.1
  window_refusal_there [] (v ∷ vs) i h = absurd h
  window_refusal_there (w ∷ ws) [] i h = absurd h

  one_window_refusal_of : (o : Option WindowSpec) (v u : Option Code) → IsWindowRefusalOf o v → IsWindowRefusalOf o u → v ≡ u
  one_window_refusal_of None v u a b = a ∙ sym b
  one_window_refusal_of (Some w) v u a b = one_window_refusal (finding_of_part spawns evals closes w.stream w.part) w.over v u a b

  same_window_refusal : (ws us : List WindowSpec) (vs os : List (Option Code)) (i j : ℕ) → slice_get ws i ≡ slice_get us j → AreWindowRefusals spawns evals closes ws vs → AreWindowRefusals spawns evals closes us os
      → unwrap_or (slice_get vs i) None ≡ unwrap_or (slice_get os j) None
  same_window_refusal ws us vs os i j e a b =
      one_window_refusal_of (slice_get us j) (unwrap_or (slice_get vs i) None) (unwrap_or (slice_get os j) None)
      (subst (λ (o : Option WindowSpec). IsWindowRefusalOf o (unwrap_or (slice_get vs i) None)) e (window_refusal_there ws vs i a))
      (window_refusal_there us os j b)

-- ---- what is refused of streams

filtered_at : (ws us : List WindowSpec) (as' bs : List Stream) (n : ℕ) → PacedStreams ws us as' bs → is_filtered (slice_get as' n) ≡ is_filtered (slice_get bs n)
filtered_at ws us [] [] n h = refl
filtered_at ws us (a ∷ as') (b ∷ bs) zero h = filtered_same ws us a b h.0
filtered_at ws us (a ∷ as') (b ∷ bs) (suc n) h = filtered_at ws us as' bs n h.1
filtered_at ws us [] (b ∷ bs) n h = absurd h
filtered_at ws us (a ∷ as') [] n h = absurd h

module _ (ws us : List WindowSpec) (all others : List Stream) (same : PacedStreams ws us all others) (spawns evals closes : List FoundPacing) (vs os : List (Option Code))
    (window_refusals : AreWindowRefusals spawns evals closes ws vs) (later : AreWindowRefusals spawns evals closes us os) where
  use_refused : (own : FoundPacing) (u w : Use) → SameUse ws us u w → use_refusals all evals vs own u ≡ use_refusals others evals os own w
  use_refused own (OfStream at n) (OfStream by m) h =
      both _ _ _ _ (two (λ (p k : ℕ). not_implied own (finding_at evals k) p) at by n m h.0 h.1)
      (two (λ (b : Bool) (p : ℕ). refusal_where b code.DirectToFiltered p) (is_filtered (slice_get all n)) (is_filtered (slice_get others m)) at by
      (filtered_at ws us all others n same ∙ ap (λ (k : ℕ). is_filtered (slice_get others k)) h.1) h.0)
  use_refused own (OfWindow at i) (OfWindow by j) h =
      two (λ (o : Option Code) (p : ℕ). refusal_of_window o p) _ _ at by (same_window_refusal spawns evals closes ws us vs os i j h.1 window_refusals later) h.0
  use_refused own _ _ h = absurd h

  uses_refused : (own : FoundPacing) (xs ys : List Use) → SameUses ws us xs ys → flat_map (use_refusals all evals vs own) xs ≡ flat_map (use_refusals others evals os own) ys
  uses_refused own [] [] h = refl
  uses_refused own (x ∷ xs) (y ∷ ys) h = both _ _ _ _ (use_refused own x y h.0) (uses_refused own xs ys h.1)
  uses_refused own _ _ h = absurd h

  clause_refused : (own : FoundPacing) (c d : Option Clause) → PacedClauses ws us c d → clause_refusals all evals vs own c ≡ clause_refusals others evals os own d
  clause_refused own c d h = ap (λ (rs : List Refusal). finding_refusal own ++ rs) (uses_refused own (listed_clause used c) (listed_clause used d) (uses_same ws us c d h))

  stream_refused : (n : ℕ) (a b : Stream) → PacedStream ws us a b → stream_refusals all spawns evals closes vs n a ≡ stream_refusals others spawns evals closes os n b
  stream_refused n a b h =
      both _ _ _ _ (clause_refused (finding_at spawns n) a.spawn b.spawn h.spawn)
      (both _ _ _ _ (clause_refused (finding_at evals n) a.eval b.eval h.eval) (clause_refused (finding_at closes n) a.close b.close h.close))

  streams_refused : (n : ℕ) (as' bs : List Stream) → PacedStreams ws us as' bs → refusals_from all spawns evals closes vs n as' ≡ refusals_from others spawns evals closes os n bs
  streams_refused n [] [] h = refl
  streams_refused n (a ∷ as') (b ∷ bs) h = both _ _ _ _ (stream_refused n a b h.0) (streams_refused (n + 1) as' bs h.1)
  streams_refused n [] (b ∷ bs) h = absurd h
  streams_refused n (a ∷ as') [] h = absurd h

-- ---- the pacings

abbrev three_of : (spawns evals closes : List FoundPacing) (n : ℕ) → ClausePacings
three_of spawns evals closes n = record { spawn = pacing_of (finding_at spawns n); eval = pacing_of (finding_at evals n); close = pacing_of (finding_at closes n) }

pacings_same : (ws us : List WindowSpec) (spawns evals closes : List FoundPacing) (n : ℕ) (as' bs : List Stream) → PacedStreams ws us as' bs
    → pacings_from spawns evals closes n as' ≡ pacings_from spawns evals closes n bs
pacings_same ws us spawns evals closes n [] [] h = refl
pacings_same ws us spawns evals closes n (a ∷ as') (b ∷ bs) h = ap (λ (ps : List ClausePacings). three_of spawns evals closes n ∷ ps) (pacings_same ws us spawns evals closes (n + 1) as' bs h.1)
pacings_same ws us spawns evals closes n [] (b ∷ bs) h = absurd h
pacings_same ws us spawns evals closes n (a ∷ as') [] h = absurd h

-- ---- the whole

module _ (x y : Spec) (same : PacedStreams x.windows y.windows x.streams y.streams) (f : Found x) (g : Found y) (low : (n : ℕ) → HasLowestRate (finding_at g.owns n)) where
  same_owns : f.owns ≡ g.owns
  same_owns = one_owns x.windows y.windows 0 x.streams y.streams f.owns g.owns same f.are.are_own g.are.are_own

  same_spawns : f.spawns ≡ g.spawns
  same_spawns =
      one_spawns x.windows y.windows x.streams y.streams same g.owns low f.spawns g.spawns
      (subst (λ (os : List FoundPacing). InStep (IsSpawnFound x.streams os) 0 x.streams f.spawns) same_owns f.are.are_spawns) g.are.are_spawns

  same_evals : f.evals ≡ g.evals
  same_evals =
      one_evals x.windows y.windows x.streams y.streams same g.owns low f.evals g.evals
      (subst (λ (os : List FoundPacing). InStep (IsEvalFound x.streams os) 0 x.streams f.evals) same_owns f.are.are_evals) g.are.are_evals

  same_closes : f.closes ≡ g.closes
  same_closes =
      let moved = subst (λ (os : List FoundPacing). InStep (IsCloseFound x.streams os f.evals) 0 x.streams f.closes) same_owns f.are.are_closes in
      one_closes x.windows y.windows x.streams y.streams same g.owns low g.evals f.closes g.closes
      (subst (λ (es : List FoundPacing). InStep (IsCloseFound x.streams g.owns es) 0 x.streams f.closes) same_evals moved) g.are.are_closes

  moved_window_refusals : AreWindowRefusals g.spawns g.evals g.closes x.windows f.window_refusals
  moved_window_refusals =
      let spawns = subst (λ (fs : List FoundPacing). AreWindowRefusals fs f.evals f.closes x.windows f.window_refusals) same_spawns f.are.are_window_refusals in
      let evals = subst (λ (fs : List FoundPacing). AreWindowRefusals g.spawns fs f.closes x.windows f.window_refusals) same_evals spawns in
      subst (λ (fs : List FoundPacing). AreWindowRefusals g.spawns g.evals fs x.windows f.window_refusals) same_closes evals

  pub same_refusals : refusals_of x f ≡ refusals_of y g
  same_refusals =
      three (λ (ss es cs : List FoundPacing). refusals_from x.streams ss es cs f.window_refusals 0 x.streams) _ _ _ _ _ _ same_spawns same_evals same_closes
      ∙ streams_refused x.windows y.windows x.streams y.streams same g.spawns g.evals g.closes f.window_refusals g.window_refusals moved_window_refusals g.are.are_window_refusals 0 x.streams y.streams same

  pub same_pacings : pacings_from f.spawns f.evals f.closes 0 x.streams ≡ pacings_from g.spawns g.evals g.closes 0 y.streams
  same_pacings =
      three (λ (ss es cs : List FoundPacing). pacings_from ss es cs 0 x.streams) _ _ _ _ _ _ same_spawns same_evals same_closes
      ∙ pacings_same x.windows y.windows g.spawns g.evals g.closes 0 x.streams y.streams same
