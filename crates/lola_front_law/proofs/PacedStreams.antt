-- Streams whose clauses have the same pacings written and the same leaves: what is found of their pacings is the same.
use Rattle.std.proofs.Common.{◌≡◌, refl, sym, ap, subst, ◌∙◌, ℕ, zero, suc, ◌+◌, ◌<◌, List, [], ◌∷◌, Bool, false, ◌||◌, MatchBool, All, Option, Some, None, map, slice_get, if◌then◌else◌, arith}
use Rattle.std.proofs.lemmas.List.Elements.{All-nil, All-cons}
use Rattle.lola_model.specs.Leaves.{followed_in, is_written, has_pace, is_end, is_end_of, onward, IsVisited, IsLeaf, AreLeaves}
use Rattle.lola_model.specs.Model.{is_input}
use Rattle.lola_model.specs.Named.{has_clause, has_when}
use Rattle.lola_model.specs.PacingFound.{no_pacing, input_finding, IsWritten, IsWrittenIn, inputs_with, AreOwn, IsOwn, finding_at, findings_at, IsFound}
use Rattle.lola_model.specs.PacingRefused.{used}
use Rattle.lola_model.specs.Pacings.{InStep, place_of, IsPaceFound, IsClauseFound, IsEvalFound, IsSpawnFound, IsCloseFound}
use Rattle.lola_model.specs.Parts.{listed_clause}
use Rattle.lola_model.specs.declared.finding.FoundPacing.{FoundPacing}
use Rattle.lola_model.specs.declared.spec.Clause.{Clause}
use Rattle.lola_model.specs.declared.spec.Pace.{Pace}
use Rattle.lola_model.specs.declared.spec.Pace.TheVariants as pace
use Rattle.lola_model.specs.declared.spec.Stream.{Stream}
use Rattle.lola_model.specs.declared.spec.WindowSpec.{WindowSpec}
use Rattle.lola_model.specs.declared.uses.Use.{Use}
use Rattle.lola_model.specs.declared.uses.Use.TheVariants.{OfStream, OfWindow}
use Rattle.lola_model.proofs.Strictly.{same_by_members}
use Rattle.lola_types.specs.Filled.{SamePace}
use Rattle.lola_front_law.proofs.AlikeKinds.{two}
use Rattle.lola_front_law.proofs.OneForm.{formula_itself}
use Rattle.lola_front_law.proofs.OneFinding.{on_both, one_given, pace_alone, one_found, HasLowestRate}

module _ (ws vs : List WindowSpec) where
  -- a direct access of the same stream, or a window that is the same, at the same place
  abbrev pub SameUse : Use → Use → Type 0
  SameUse (OfStream at n) (OfStream by m) = (at ≡ by) × (n ≡ m)
  SameUse (OfWindow at i) (OfWindow by j) = (at ≡ by) × (slice_get ws i ≡ slice_get vs j)
  SameUse _ _ = ⊥

  abbrev pub SameUses : List Use → List Use → Type 0
  SameUses [] [] = Unit {0}
  SameUses (u ∷ us) (w ∷ ss) = SameUse u w × SameUses us ss
  SameUses _ _ = ⊥

  pub record PacedClause (c d : Clause) : Type 0 where
    pub place : c.place ≡ d.place
    pub pacing : SamePace c.pace d.pace
    pub filtered : has_when (Some c) ≡ has_when (Some d)
    pub followed : followed_in (Some c) ≡ followed_in (Some d)
    pub uses : SameUses (listed_clause used (Some c)) (listed_clause used (Some d))

  abbrev pub PacedClauses : Option Clause → Option Clause → Type 0
  PacedClauses None None = Unit {0}
  PacedClauses (Some c) (Some d) = PacedClause c d
  PacedClauses _ _ = ⊥

  pub record PacedStream (a b : Stream) : Type 0 where
    pub place : a.place ≡ b.place
    pub input : is_input a ≡ is_input b
    pub spawn : PacedClauses a.spawn b.spawn
    pub eval : PacedClauses a.eval b.eval
    pub close : PacedClauses a.close b.close

  abbrev pub PacedStreams : List Stream → List Stream → Type 0
  PacedStreams [] [] = Unit {0}
  PacedStreams (a ∷ as') (b ∷ bs) = PacedStream a b × PacedStreams as' bs
  PacedStreams _ _ = ⊥

-- ---- the same streams

module _ (ws : List WindowSpec) where
  uses_themselves : (us : List Use) → SameUses ws ws us us
  uses_themselves [] = tt
  uses_themselves (OfStream at n ∷ us) = ((refl, refl), uses_themselves us)
  uses_themselves (OfWindow at i ∷ us) = ((refl, refl), uses_themselves us)

  pace_itself : (p : Option Pace) → SamePace p p
  pace_itself None = tt
  pace_itself (Some (pace.Event at x)) = (refl, formula_itself x)
  pace_itself (Some (pace.Rate at w)) = (refl, refl)
  pace_itself (Some (pace.Global at w)) = (refl, refl)
  pace_itself (Some (pace.Local at w)) = (refl, refl)

  clause_itself : (c : Option Clause) → PacedClauses ws ws c c
  clause_itself None = tt
  clause_itself (Some c) =
      record { place = refl; pacing = pace_itself c.pace; filtered = refl; followed = refl; uses = uses_themselves (listed_clause used (Some c)) }

  pub streams_themselves : (ss : List Stream) → PacedStreams ws ws ss ss
  streams_themselves [] = tt
  streams_themselves (s ∷ ss) = (
    record { place = refl; input = refl; spawn = clause_itself s.spawn; eval = clause_itself s.eval; close = clause_itself s.close },
    streams_themselves ss,
  )

-- ---- what is asked of clauses

module _ (ws vs : List WindowSpec) where
  clause_same : (c d : Option Clause) → PacedClauses ws vs c d → has_clause c ≡ has_clause d
  clause_same None None h = refl
  clause_same (Some c) (Some d) h = refl
  clause_same None (Some d) h = absurd h
  clause_same (Some c) None h = absurd h

  when_same : (c d : Option Clause) → PacedClauses ws vs c d → has_when c ≡ has_when d
  when_same None None h = refl
  when_same (Some c) (Some d) h = h.filtered
  when_same None (Some d) h = absurd h
  when_same (Some c) None h = absurd h

  followed_same : (c d : Option Clause) → PacedClauses ws vs c d → followed_in c ≡ followed_in d
  followed_same None None h = refl
  followed_same (Some c) (Some d) h = h.followed
  followed_same None (Some d) h = absurd h
  followed_same (Some c) None h = absurd h

  place_same : (c d : Option Clause) → PacedClauses ws vs c d → place_of c ≡ place_of d
  place_same None None h = refl
  place_same (Some c) (Some d) h = h.place
  place_same None (Some d) h = absurd h
  place_same (Some c) None h = absurd h

  pub uses_same : (c d : Option Clause) → PacedClauses ws vs c d → SameUses ws vs (listed_clause used c) (listed_clause used d)
  uses_same None None h = tt
  uses_same (Some c) (Some d) h = h.uses
  uses_same None (Some d) h = absurd h
  uses_same (Some c) None h = absurd h

  written_same : (p q : Option Pace) → SamePace p q → is_written p ≡ is_written q
  written_same None None h = refl
  written_same (Some p) (Some q) h = refl
  written_same None (Some q) h = absurd h
  written_same (Some p) None h = absurd (pace_alone p h)

  pace_same : (c d : Option Clause) → PacedClauses ws vs c d → has_pace c ≡ has_pace d
  pace_same None None h = refl
  pace_same (Some c) (Some d) h = written_same c.pace d.pace h.pacing
  pace_same None (Some d) h = absurd h
  pace_same (Some c) None h = absurd h

  end_same : (a b : Stream) → PacedStream ws vs a b → is_end a ≡ is_end b
  end_same a b h = two (λ (x y : Bool). x || y) (is_input a) (is_input b) (has_pace a.eval) (has_pace b.eval) h.input (pace_same a.eval b.eval h.eval)

  pub filtered_same : (a b : Stream) → PacedStream ws vs a b → (has_clause a.spawn || has_when a.eval) ≡ (has_clause b.spawn || has_when b.eval)
  filtered_same a b h = two (λ (x y : Bool). x || y) _ _ _ _ (clause_same a.spawn b.spawn h.spawn) (when_same a.eval b.eval h.eval)

  -- ---- leaves

  onward_same : (a b : Stream) → PacedStream ws vs a b → onward a ≡ onward b
  onward_same a b h =
      two (λ (x : Bool) (ns : List ℕ). if x then [] else ns) (is_end a) (is_end b) (followed_in a.eval) (followed_in b.eval) (end_same a b h) (followed_same a.eval b.eval h.eval)

  lists_same : (as' bs : List Stream) → PacedStreams ws vs as' bs → map onward as' ≡ map onward bs
  lists_same [] [] h = refl
  lists_same (a ∷ as') (b ∷ bs) h = two (λ (ns : List ℕ) (ls : List (List ℕ)). ns ∷ ls) _ _ _ _ (onward_same a b h.0) (lists_same as' bs h.1)
  lists_same [] (b ∷ bs) h = absurd h
  lists_same (a ∷ as') [] h = absurd h

  ends_same : (as' bs : List Stream) (n : ℕ) → PacedStreams ws vs as' bs → is_end_of (slice_get as' n) ≡ is_end_of (slice_get bs n)
  ends_same [] [] n h = refl
  ends_same (a ∷ as') (b ∷ bs) zero h = end_same a b h.0
  ends_same (a ∷ as') (b ∷ bs) (suc n) h = ends_same as' bs n h.1
  ends_same [] (b ∷ bs) n h = absurd h
  ends_same (a ∷ as') [] n h = absurd h

leaf_moved : (as' bs : List Stream) (own : ℕ) (c d : Option Clause) (n : ℕ) → map onward as' ≡ map onward bs → followed_in c ≡ followed_in d
    → is_end_of (slice_get as' n) ≡ is_end_of (slice_get bs n) → IsLeaf as' own c n → IsLeaf bs own d n
leaf_moved as' bs own c d n lists first ends h = record {
  visited = subst (λ (ls : List (List ℕ)). IsVisited ls own (followed_in d) n) lists (subst (λ (ns : List ℕ). IsVisited (map onward as') own ns n) first h.visited);
  ends = sym ends ∙ h.ends;
}

module _ (ws vs : List WindowSpec) (as' bs : List Stream) (same : PacedStreams ws vs as' bs) where
  one_leaves : (own : ℕ) (c d : Option Clause) (ls ms : List ℕ) → PacedClauses ws vs c d → AreLeaves as' own c ls → AreLeaves bs own d ms → ls ≡ ms
  one_leaves own c d ls ms h a b =
      let lists = lists_same ws vs as' bs same in
      let first = followed_same ws vs c d h in
      same_by_members (λ m n. m < n) (λ x y up down. omega (arith, up, down)) ls ms a.ordered b.ordered
      (λ n m. (b.members n).1 (leaf_moved as' bs own c d n lists first (ends_same ws vs as' bs n same) ((a.members n).0 m)))
      (λ n m. (a.members n).1 (leaf_moved bs as' own d c n (sym lists) (sym first) (sym (ends_same ws vs as' bs n same)) ((b.members n).0 m)))

  -- ---- what is found of a clause

  module _ (owns : List FoundPacing) (low : (n : ℕ) → HasLowestRate (finding_at owns n)) where
    all_lowest : (ns : List ℕ) → All HasLowestRate (findings_at owns ns)
    all_lowest [] = All-nil HasLowestRate
    all_lowest (n ∷ ns) = All-cons HasLowestRate (finding_at owns n) (findings_at owns ns) (low n) (all_lowest ns)

    one_pace : (n at : ℕ) (spawned : Bool) (alone : FoundPacing) (c d : Clause) (p q : Option Pace) (f g : FoundPacing) → PacedClause ws vs c d → SamePace p q
        → IsPaceFound as' owns n at spawned alone (Some c) p f → IsPaceFound bs owns n at spawned alone (Some d) q g → f ≡ g
    one_pace n at spawned alone c d None None f g h k a b =
        let leaves = one_leaves n (Some c) (Some d) a.0 b.0 h a.1 b.1 in
        one_found at alone (findings_at owns b.0) f g (all_lowest b.0) (subst (λ (ns : List ℕ). IsFound at alone (findings_at owns ns) f) leaves a.2) b.2
    one_pace n at spawned alone c d (Some p) (Some q) f g h k a b = one_given spawned p q f g k a b
    one_pace n at spawned alone c d None (Some q) f g h k a b = absurd k
    one_pace n at spawned alone c d (Some p) None f g h k a b = absurd (pace_alone p k)

    one_at : (n at : ℕ) (spawned : Bool) (alone : FoundPacing) (c d : Option Clause) (f g : FoundPacing) → PacedClauses ws vs c d
        → IsClauseFound as' owns n at spawned alone c f → IsClauseFound bs owns n at spawned alone d g → f ≡ g
    one_at n at spawned alone None None f g h a b = a ∙ sym b
    one_at n at spawned alone (Some c) (Some d) f g h a b = one_pace n at spawned alone c d c.pace d.pace f g h h.pacing a b
    one_at n at spawned alone None (Some d) f g h a b = absurd h
    one_at n at spawned alone (Some c) None f g h a b = absurd h

    one_clause : (n at by : ℕ) (spawned born : Bool) (alone lonely : FoundPacing) (c d : Option Clause) (f g : FoundPacing) → at ≡ by → spawned ≡ born → alone ≡ lonely → PacedClauses ws vs c d
        → IsClauseFound as' owns n at spawned alone c f → IsClauseFound bs owns n by born lonely d g → f ≡ g
    one_clause n at by spawned born alone lonely c d f g places births alones h a b =
        let x = subst (λ (z : ℕ). IsClauseFound as' owns n z spawned alone c f) places a in
        let y = subst (λ (z : Bool). IsClauseFound as' owns n by z alone c f) births x in
        let z = subst (λ (w : FoundPacing). IsClauseFound as' owns n by born w c f) alones y in
        one_at n by born lonely c d f g h z b

    one_spawn : (n : ℕ) (a b : Stream) (f g : FoundPacing) → PacedStream ws vs a b → IsSpawnFound as' owns n a f → IsSpawnFound bs owns n b g → f ≡ g
    one_spawn n a b f g h x y =
        let place = place_same ws vs a.spawn b.spawn h.spawn in
        one_clause n _ _ false false _ _ a.spawn b.spawn f g place refl (ap no_pacing place) h.spawn x y

    one_eval : (n : ℕ) (a b : Stream) (f g : FoundPacing) → PacedStream ws vs a b → IsEvalFound as' owns n a f → IsEvalFound bs owns n b g → f ≡ g
    one_eval n a b f g h x y =
        let moved =
        subst (λ (z : Bool). MatchBool z (f ≡ finding_at owns n) (IsClauseFound as' owns n a.place (has_clause a.spawn) (no_pacing a.place) a.eval f)) (end_same ws vs a b h) x
        in
        on_both (is_end b) _ _ _ _ moved y (λ p q. p ∙ sym q)
        (λ p q. one_clause n _ _ _ _ _ _ a.eval b.eval f g h.place (clause_same ws vs a.spawn b.spawn h.spawn) (ap no_pacing h.place) h.eval p q)

    one_close : (evals : List FoundPacing) (n : ℕ) (a b : Stream) (f g : FoundPacing) → PacedStream ws vs a b → IsCloseFound as' owns evals n a f → IsCloseFound bs owns evals n b g → f ≡ g
    one_close evals n a b f g h x y = one_clause n _ _ _ _ _ _ a.close b.close f g h.place (clause_same ws vs a.spawn b.spawn h.spawn) refl h.close x y

-- ---- what is a stream's own

module _ (ws vs : List WindowSpec) where
  one_written : (spawned : Bool) (p q : Option Pace) (f g : FoundPacing) → SamePace p q → IsWritten spawned p f → IsWritten spawned q g → f ≡ g
  one_written spawned None None f g h a b = a ∙ sym b
  one_written spawned (Some p) (Some q) f g h a b = one_given spawned p q f g h a b
  one_written spawned None (Some q) f g h a b = absurd h
  one_written spawned (Some p) None f g h a b = absurd (pace_alone p h)

  one_written_in : (spawned born : Bool) (c d : Option Clause) (f g : FoundPacing) → spawned ≡ born → PacedClauses ws vs c d → IsWrittenIn spawned c f → IsWrittenIn born d g → f ≡ g
  one_written_in spawned born None None f g e h a b = a ∙ sym b
  one_written_in spawned born (Some c) (Some d) f g e h a b = one_written born c.pace d.pace f g h.pacing (subst (λ (z : Bool). IsWritten z c.pace f) e a) b
  one_written_in spawned born None (Some d) f g e h a b = absurd h
  one_written_in spawned born (Some c) None f g e h a b = absurd h

  one_own : (i : ℕ) (a b : Stream) (f g : FoundPacing) → PacedStream ws vs a b → IsOwn i a f → IsOwn i b g → f ≡ g
  one_own i a b f g h x y =
      let moved = subst (λ (z : Bool). MatchBool z (f ≡ input_finding i) (IsWrittenIn (has_clause a.spawn) a.eval f)) h.input x in
      on_both (is_input b) _ _ _ _ moved y (λ p q. p ∙ sym q)
      (λ p q. one_written_in (has_clause a.spawn) (has_clause b.spawn) a.eval b.eval f g (clause_same ws vs a.spawn b.spawn h.spawn) h.eval p q)

  pub one_owns : (i : ℕ) (as' bs : List Stream) (fs gs : List FoundPacing) → PacedStreams ws vs as' bs → AreOwn i as' fs → AreOwn i bs gs → fs ≡ gs
  one_owns i [] [] [] [] h x y = refl
  one_owns i [] [] (f ∷ fs) gs h x y = absurd x
  one_owns i [] [] [] (g ∷ gs) h x y = absurd y
  one_owns i (a ∷ as') (b ∷ bs) [] gs h x y = absurd x
  one_owns i (a ∷ as') (b ∷ bs) (f ∷ fs) [] h x y = absurd y
  one_owns i (a ∷ as') (b ∷ bs) (f ∷ fs) (g ∷ gs) h x y =
      let count : inputs_with i a ≡ inputs_with i b = ap (λ (z : Bool). if z then i + 1 else i) h.0.input in
      two (λ (k : FoundPacing) (ks : List FoundPacing). k ∷ ks) f g fs gs (one_own i a b f g h.0 x.0 y.0)
      (one_owns (inputs_with i b) as' bs fs gs h.1 (subst (λ (k : ℕ). AreOwn k as' fs) count x.1) y.1)
  one_owns i [] (b ∷ bs) fs gs h x y = absurd h
  one_owns i (a ∷ as') [] fs gs h x y = absurd h

  -- ---- of all streams

  in_step : (R Q : ℕ → Stream → FoundPacing → Type 0) → ((n : ℕ) (a b : Stream) (f g : FoundPacing) → PacedStream ws vs a b → R n a f → Q n b g → f ≡ g)
      → (n : ℕ) (as' bs : List Stream) (fs gs : List FoundPacing) → PacedStreams ws vs as' bs → InStep R n as' fs → InStep Q n bs gs → fs ≡ gs
  in_step R Q each n [] [] [] [] h x y = refl
  in_step R Q each n [] [] (f ∷ fs) gs h x y = absurd x
  in_step R Q each n [] [] [] (g ∷ gs) h x y = absurd y
  in_step R Q each n (a ∷ as') (b ∷ bs) [] gs h x y = absurd x
  in_step R Q each n (a ∷ as') (b ∷ bs) (f ∷ fs) [] h x y = absurd y
  in_step R Q each n (a ∷ as') (b ∷ bs) (f ∷ fs) (g ∷ gs) h x y =
      two (λ (k : FoundPacing) (ks : List FoundPacing). k ∷ ks) f g fs gs (each n a b f g h.0 x.0 y.0) (in_step R Q each (n + 1) as' bs fs gs h.1 x.1 y.1)
  in_step R Q each n [] (b ∷ bs) fs gs h x y = absurd h
  in_step R Q each n (a ∷ as') [] fs gs h x y = absurd h

module _ (ws vs : List WindowSpec) (as' bs : List Stream) (same : PacedStreams ws vs as' bs) (owns : List FoundPacing) (low : (n : ℕ) → HasLowestRate (finding_at owns n)) where
  pub one_spawns : (fs gs : List FoundPacing) → InStep (IsSpawnFound as' owns) 0 as' fs → InStep (IsSpawnFound bs owns) 0 bs gs → fs ≡ gs
  one_spawns fs gs x y = in_step ws vs (IsSpawnFound as' owns) (IsSpawnFound bs owns) (one_spawn ws vs as' bs same owns low) 0 as' bs fs gs same x y

  pub one_evals : (fs gs : List FoundPacing) → InStep (IsEvalFound as' owns) 0 as' fs → InStep (IsEvalFound bs owns) 0 bs gs → fs ≡ gs
  one_evals fs gs x y = in_step ws vs (IsEvalFound as' owns) (IsEvalFound bs owns) (one_eval ws vs as' bs same owns low) 0 as' bs fs gs same x y

  pub one_closes : (evals fs gs : List FoundPacing) → InStep (IsCloseFound as' owns evals) 0 as' fs → InStep (IsCloseFound bs owns evals) 0 bs gs → fs ≡ gs
  one_closes evals fs gs x y = in_step ws vs (IsCloseFound as' owns evals) (IsCloseFound bs owns evals) (one_close ws vs as' bs same owns low evals) 0 as' bs fs gs same x y
