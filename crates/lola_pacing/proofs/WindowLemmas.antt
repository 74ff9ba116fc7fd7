-- Where nothing is refused, each window stands in a periodic clause and has few panes.
use Rattle.std.proofs.Common.{◌≡◌, refl, ap, sym, subst, ◌∙◌, ℕ, zero, suc, ◌+◌, ◌<◌, List, [], ◌∷◌, ◌++◌, Option, Some, None, Bool, true, false, ◌&&◌, ◌||◌, not, nat_eq, arith, length, slice_get, unwrap_or, inl, inr}
use Rattle.std.specs.List.{All, Contains}
use Rattle.std.proofs.lemmas.Bool.{eqb-true}
use Rattle.std.proofs.lemmas.List.Elements.{Contains-append_cases, All-cons}
use Rattle.lola_value.specs.Ratio.{Ratio}
use Rattle.lola_value.specs.declared.front.Code.{Code}
use Rattle.lola_value.specs.declared.value.Kind.{Kind}
use Rattle.lola_value.specs.declared.value.Kind.TheVariants as kind
use Rattle.lola_model.proofs.Strictly.{Contains-here, Contains-there, Contains-none, Contains-cases}
use Rattle.lola_model.specs.Bounds.{pacing_at}
use Rattle.lola_model.specs.Model.{spawn_pacing, eval_pacing, close_pacing}
use Rattle.lola_model.specs.Named.{IsNamed, all_numbers, count_with, counted, has_clause, has_kind, has_when, is_of_bool, is_input_shape, is_output_shape, is_trigger_shape, is_well_shaped, is_window_of, same_part, window_number, windows_stand_here}
use Rattle.lola_model.specs.Parts.{listed, listed_when, listed_with, listed_clause, listed_stream}
use Rattle.lola_model.specs.Typed.{IsTyped}
use Rattle.lola_model.specs.WindowRefusals.{IsFineEnough, IsWindowRefusal}
use Rattle.lola_model.specs.Wholes.{Whole, condition_wholes, with_wholes, clause_wholes, stream_wholes, wholes_from, noted_kinds, all_wholes}
use Rattle.lola_model.specs.declared.expr.Expr.{Expr}
use Rattle.lola_model.specs.declared.expr.Expr.TheVariants.{Literal, Parameter, Read, Window, Defaults', Unary', Both', Choice'}
use Rattle.lola_model.specs.declared.finding.FoundPacing.{FoundPacing}
use Rattle.lola_model.specs.declared.finding.FoundPacing.TheVariants.{Paced, Refused, Unpaced}
use Rattle.lola_model.specs.declared.pacing.Pacing.TheVariants.{Event, Periodic, Local}
use Rattle.lola_model.specs.declared.pacing.ClausePacings.{ClausePacings}
use Rattle.lola_model.specs.declared.spec.Clause.{Clause}
use Rattle.lola_model.specs.declared.spec.Part.{Part}
use Rattle.lola_model.specs.declared.spec.Part.TheVariants as part
use Rattle.lola_model.specs.declared.spec.Sort.{Sort}
use Rattle.lola_model.specs.declared.spec.Sort.TheVariants as sort
use Rattle.lola_model.specs.declared.spec.Spec.{Spec}
use Rattle.lola_model.specs.declared.spec.Stream.{Stream}
use Rattle.lola_model.specs.declared.spec.WindowSpec.{WindowSpec}
use Rattle.lola_model.specs.declared.uses.Use.{Use}
use Rattle.lola_model.specs.declared.uses.Use.TheVariants.{OfWindow}
use Rattle.lola_model.specs.PacingFound.{finding_at, is_unpaced}
use Rattle.lola_model.specs.PacingRefused.{clause_refusals, used}
use Rattle.lola_model.specs.Pacings.{AreWindowRefusals, Found, finding_of_part, pacing_of, pacings_from, refusals_of}
use Rattle.lola_pacing.proofs.FineLemmas.{accepts_fine}
use Rattle.lola_pacing.proofs.ListedLemmas.{Has, in_some_stream, maps_clause}
use Rattle.lola_pacing.proofs.PacedLemmas.{empty_left, empty_right, first_true, here, later, paces_all, range_at, second_true}
use Rattle.lola_pacing.specs.Accepted.{IsPacedWhere, IsWindowPaced, PacesWindows}

-- the clause of a stream
abbrev clause_of : Stream → Part → Option Clause
clause_of s part.Spawn = s.spawn
clause_of s part.Eval = s.eval
clause_of s part.Close = s.close

-- numbers in order have each number
has_number : (from n k i : ℕ) → k < n → i ≡ from + k → Contains (counted from n) i
has_number from zero k i lt e = absurd (omega arith)
has_number from (suc n) zero i lt e = let same : from ≡ i = omega arith in subst (λ (j : ℕ). Contains (from ∷ counted (from + 1) n) j) same (Contains-here from (counted (from + 1) n))
has_number from (suc n) (suc k) i lt e = Contains-there from i (counted (from + 1) n) (has_number (from + 1) n k i (omega arith) (omega arith))

below_length : {X : Type 0} (xs : List X) (k : ℕ) (x : X) → slice_get xs k ≡ Some x → k < length xs
below_length [] k x e = absurd (cc)
below_length (y ∷ ys) zero x e = omega arith
below_length (y ∷ ys) (suc k) x e = let lt = below_length ys k x e in omega arith

-- a window stands in one of a stream's clauses
in_some_clause : (s : Stream) (i : ℕ) → Contains (listed_stream window_number s) i → (p : Part) × Contains (listed_clause window_number (clause_of s p)) i
in_some_clause s i c =
    elim (Contains-append_cases (listed_clause window_number s.spawn) (listed_clause window_number s.eval ++ listed_clause window_number s.close) i c) [
      | inl a ↦ (part.Spawn, a)
      | inr b ↦ (elim (Contains-append_cases (listed_clause window_number s.eval) (listed_clause window_number s.close) i b) [ inl a ↦ (part.Eval, a) | inr q ↦ (part.Close, q) ])
    ]

-- so it is used there
only_this : (at w i : ℕ) → Contains (w ∷ []) i → Has Use (λ u. (q : ℕ) × (u ≡ OfWindow q i)) (OfWindow at w ∷ [])
only_this at w i c =
    elim (Contains-cases w i [] c) [
      | inl e ↦ (OfWindow at w, Contains-here (OfWindow at w) [], (at, ap (λ (j : ℕ). OfWindow at j) e))
      | inr d ↦ absurd (Contains-none i d)
    ]

is_used : (i : ℕ) (e : Expr) → Contains (window_number e) i → Has Use (λ u. (q : ℕ) × (u ≡ OfWindow q i)) (used e)
is_used i (Literal place v) c = absurd (Contains-none i c)
is_used i (Parameter place j) c = absurd (Contains-none i c)
is_used i (Read place n how args) c = absurd (Contains-none i c)
is_used i (Window place w args) c = only_this place.at w i c
is_used i (Defaults' place u a v b) c = absurd (Contains-none i c)
is_used i (Unary' place operator u a) c = absurd (Contains-none i c)
is_used i (Both' place operator u a v b) c = absurd (Contains-none i c)
is_used i (Choice' place u a v b w d) c = absurd (Contains-none i c)

-- whole expressions

module _ (f : Whole → Bool) where
  wholes_left : (xs ys : List Whole) → all_wholes f (xs ++ ys) ≡ true → all_wholes f xs ≡ true
  wholes_left [] ys h = refl
  wholes_left (x ∷ xs) ys h =
      let one = first_true (f x) (all_wholes f (xs ++ ys)) h in
      let others = wholes_left xs ys (second_true (f x) (all_wholes f (xs ++ ys)) h) in
      rw (one, others) refl

  wholes_right : (xs ys : List Whole) → all_wholes f (xs ++ ys) ≡ true → all_wholes f ys ≡ true
  wholes_right [] ys h = h
  wholes_right (x ∷ xs) ys h = wholes_right xs ys (second_true (f x) (all_wholes f (xs ++ ys)) h)

  -- of one stream
  of_stream : (n : ℕ) (ss : List Stream) (kinds : List (Option Kind)) (k : ℕ) (s : Stream) (m : ℕ) → m ≡ n + k → all_wholes f (wholes_from n ss kinds) ≡ true → slice_get ss k ≡ Some s
      → (l : Kind) × (all_wholes f (stream_wholes m s l) ≡ true)
  of_stream n [] kinds k s m q h e = absurd (cc)
  of_stream n (t ∷ ts) kinds zero s m q h e =
      let l = unwrap_or (unwrap_or (slice_get kinds 0) None) kind.Int64 in
      let same : t ≡ s = cc in
      let at : n ≡ m = omega arith in
      let first = wholes_left (stream_wholes n t l) _ h in
      (l, subst (λ (x : ℕ). all_wholes f (stream_wholes x s l) ≡ true) at (subst (λ (x : Stream). all_wholes f (stream_wholes n x l) ≡ true) same first))
  of_stream n (t ∷ ts) kinds (suc k) s m q h e =
      let l = unwrap_or (unwrap_or (slice_get kinds 0) None) kind.Int64 in
      of_stream (n + 1) ts _ k s m (omega arith) (wholes_right (stream_wholes n t l) _ h) e

  -- of one of its clauses
  of_clause : (n : ℕ) (s : Stream) (l : Kind) (p : Part) → all_wholes f (stream_wholes n s l) ≡ true → (ks wants : List Kind) × (all_wholes f (clause_wholes n p ks wants (clause_of s p)) ≡ true)
  of_clause n s l part.Spawn h = ([], s.parameters, wholes_left (clause_wholes n part.Spawn [] s.parameters s.spawn) _ h)
  of_clause n s l part.Eval h = (s.parameters, l ∷ [], wholes_left (clause_wholes n part.Eval s.parameters (l ∷ []) s.eval) _ (wholes_right (clause_wholes n part.Spawn [] s.parameters s.spawn) _ h))
  of_clause n s l part.Close h =
      (s.parameters, [], wholes_right (clause_wholes n part.Eval s.parameters (l ∷ []) s.eval) _ (wholes_right (clause_wholes n part.Spawn [] s.parameters s.spawn) _ h))

-- a number that is listed passes
passes : (f : ℕ → Bool) (ns : List ℕ) (i : ℕ) → all_numbers f ns ≡ true → Contains ns i → f i ≡ true
passes f [] i h c = absurd (Contains-none i c)
passes f (n ∷ ns) i h c =
    let rest = passes f ns i (second_true (f n) (all_numbers f ns) h) in
    elim (Contains-cases n i ns c) [ inl e ↦ subst (λ (j : ℕ). f j ≡ true) e (first_true (f n) (all_numbers f ns) h) | inr d ↦ rest d ]

-- windows say where they stand

module _ (ws : List WindowSpec) (n : ℕ) (p : Part) (i : ℕ) where
  abbrev stands : Bool
  stands = is_window_of n p (slice_get ws i)

  stands_when : (ks : List Kind) (at : ℕ) (o : Option Expr) → all_wholes (windows_stand_here ws) (condition_wholes n p ks at o) ≡ true → Contains (listed_when window_number o) i → stands ≡ true
  stands_when ks at None h c = absurd (Contains-none i c)
  stands_when ks at (Some e) h c = passes (λ j. is_window_of n p (slice_get ws j)) (listed window_number e) i (first_true (all_numbers (λ j. is_window_of n p (slice_get ws j)) (listed window_number e)) true h) c

  stands_with : (ks wants : List Kind) (ats : List ℕ) (es : List Expr) → all_wholes (windows_stand_here ws) (with_wholes n p ks wants ats es) ≡ true → Contains (listed_with window_number es) i → stands ≡ true
  stands_with ks wants ats [] h c = absurd (Contains-none i c)
  stands_with ks wants ats (e ∷ es) h c =
      let here = first_true (all_numbers (λ j. is_window_of n p (slice_get ws j)) (listed window_number e)) _ h in
      let others = second_true (all_numbers (λ j. is_window_of n p (slice_get ws j)) (listed window_number e)) _ h in
      let rest = stands_with ks _ _ es others in
      elim (Contains-append_cases (listed window_number e) (listed_with window_number es) i c) [
        | inl a ↦ passes (λ j. is_window_of n p (slice_get ws j)) (listed window_number e) i here a
        | inr b ↦ rest b
      ]

  stands_in : (ks wants : List Kind) (o : Option Clause) → all_wholes (windows_stand_here ws) (clause_wholes n p ks wants o) ≡ true → Contains (listed_clause window_number o) i → stands ≡ true
  stands_in ks wants None h c = absurd (Contains-none i c)
  stands_in ks wants (Some k) h c =
      let when = wholes_left (windows_stand_here ws) (condition_wholes n p ks k.when_at k.when) _ h in
      let with = wholes_right (windows_stand_here ws) (condition_wholes n p ks k.when_at k.when) _ h in
      elim (Contains-append_cases (listed_when window_number k.when) (listed_with window_number k.with) i c) [
        | inl a ↦ stands_when ks k.when_at k.when when a
        | inr b ↦ stands_with ks wants k.with_at k.with with b
      ]

same_parts : (p q : Part) → same_part p q ≡ true → p ≡ q
same_parts part.Spawn part.Spawn h = refl
same_parts part.Eval part.Eval h = refl
same_parts part.Close part.Close h = refl
same_parts part.Spawn part.Eval h = absurd (cc)
same_parts part.Spawn part.Close h = absurd (cc)
same_parts part.Eval part.Spawn h = absurd (cc)
same_parts part.Eval part.Close h = absurd (cc)
same_parts part.Close part.Spawn h = absurd (cc)
same_parts part.Close part.Eval h = absurd (cc)

stands_so : (n : ℕ) (p : Part) (o : Option WindowSpec) (w : WindowSpec) → o ≡ Some w → is_window_of n p o ≡ true → (w.stream ≡ n) × (w.part ≡ p)
stands_so n p None w e h = absurd (cc)
stands_so n p (Some v) w e h =
    let same : v ≡ w = cc in
    let t : (nat_eq w.stream n && same_part w.part p) ≡ true = subst (λ (x : WindowSpec). (nat_eq x.stream n && same_part x.part p) ≡ true) same h in
    (eqb-true w.stream n (first_true (nat_eq w.stream n) (same_part w.part p) t), same_parts w.part p (second_true (nat_eq w.stream n) (same_part w.part p) t))

-- an eval clause stands beside each close clause

abbrev shape_by : Stream → Sort → Bool
shape_by s sort.Input = is_input_shape s
shape_by s sort.Output = is_output_shape s
shape_by s sort.Trigger = is_trigger_shape s

never : (X : Type 0) (b : Bool) → not b ≡ true → b ≡ true → X
never X true h k = absurd (cc)
never X false h k = absurd (cc)

counts : (c : Option Clause) → nat_eq (count_with c) 1 ≡ true → has_clause c ≡ true
counts None h = absurd (cc)
counts (Some c) h = refl

-- the last of what holds together
fifth_true : (a b c d e : Bool) → (a && (b && (c && (d && e)))) ≡ true → e ≡ true
fifth_true a b c d e h = second_true d e (second_true c (d && e) (second_true b (c && (d && e)) (second_true a (b && (c && (d && e))) h)))

eval_beside : (s : Stream) (o : Sort) → shape_by s o ≡ true → has_clause s.close ≡ true → has_clause s.eval ≡ true
eval_beside s sort.Input h k =
    let none = fifth_true (has_kind s.kind) (nat_eq (length s.parameters) 0) (not (has_clause s.spawn)) (not (has_clause s.eval)) (not (has_clause s.close)) h in
    never (has_clause s.eval ≡ true) (has_clause s.close) none k
eval_beside s sort.Output h k =
    counts s.eval (first_true (nat_eq (count_with s.eval) 1) (nat_eq (count_with s.spawn) (length s.parameters)
    && ((not (has_clause s.close) || (has_when s.close && has_clause s.spawn)) && nat_eq (count_with s.close) 0)) h)
eval_beside s sort.Trigger h k =
    let last = fifth_true (is_of_bool s.kind) (nat_eq (count_with s.eval) 1) (not (has_when s.eval)) (nat_eq (length s.parameters) 0) (not (has_clause s.spawn) && not (has_clause s.close)) h in
    never (has_clause s.eval ≡ true) (has_clause s.close) (second_true (not (has_clause s.spawn)) (not (has_clause s.close)) last) k

-- what stands against a window

module _ (spawns evals closes : List FoundPacing) where
  window_refusal_at : (ws : List WindowSpec) (vs : List (Option Code)) (i : ℕ) (w : WindowSpec) → AreWindowRefusals spawns evals closes ws vs → slice_get ws i ≡ Some w
      → (v : Option Code) × (slice_get vs i ≡ Some v) × IsWindowRefusal (finding_of_part spawns evals closes w.stream w.part) w.over v
  window_refusal_at [] vs i w h e = absurd (cc)
  window_refusal_at (x ∷ xs) [] i w h e = absurd h
  window_refusal_at (x ∷ xs) (v ∷ vs) zero w h e =
      let same : x ≡ w = cc in
      (v, refl, subst (λ (y : WindowSpec). IsWindowRefusal (finding_of_part spawns evals closes y.stream y.part) y.over v) same h.0)
  window_refusal_at (x ∷ xs) (v ∷ vs) (suc i) w h e = window_refusal_at xs vs i w h.1 e

  -- the pacings of stream n
  abbrev pacings_of : ℕ → ClausePacings
  pacings_of n = record { spawn = pacing_of (finding_at spawns n); eval = pacing_of (finding_at evals n); close = pacing_of (finding_at closes n) }

  pacings_at : (n : ℕ) (ss : List Stream) (k : ℕ) (s : Stream) (m : ℕ) → m ≡ n + k → slice_get ss k ≡ Some s → slice_get (pacings_from spawns evals closes n ss) k ≡ Some (pacings_of m)
  pacings_at n [] k s m q e = absurd (cc)
  pacings_at n (t ∷ ts) zero s m q e = let at : n ≡ m = omega arith in ap (λ (x : ℕ). Some (pacings_of x)) at
  pacings_at n (t ∷ ts) (suc k) s m q e = pacings_at (n + 1) ts k s m (omega arith) e

  pacing_here : (ps : List ClausePacings) (n : ℕ) (p : Part) → slice_get ps n ≡ Some (pacings_of n) → pacing_at ps n p ≡ pacing_of (finding_of_part spawns evals closes n p)
  pacing_here ps n part.Spawn e = ap spawn_pacing e
  pacing_here ps n part.Eval e = ap eval_pacing e
  pacing_here ps n part.Close e = ap close_pacing e

-- nothing stands against it
none_against : (v : Option Code) (o : Option (Option Code)) → o ≡ Some v → unwrap_or o None ≡ None → v ≡ None
none_against v None e h = absurd (cc)
none_against v (Some x) e h = cc

by_window_refusal : (g : FoundPacing) (over : ℕ) → is_unpaced g ≡ false → IsWindowRefusal g over None → (r : Ratio) × (g ≡ Paced (Periodic r)) × IsFineEnough r over
by_window_refusal (Paced (Event sets)) over u v = absurd (cc)
by_window_refusal (Paced (Periodic r)) over u v = (r, refl, v)
by_window_refusal (Paced (Local r)) over u v = absurd (cc)
by_window_refusal (Refused r) over u v = absurd (cc)
by_window_refusal Unpaced over u v = absurd (cc)

clause_there : (o : Option Clause) (g : FoundPacing) (i : ℕ) → Contains (listed_clause window_number o) i → IsPacedWhere o g → is_unpaced g ≡ false
clause_there None g i c h = absurd (Contains-none i c)
clause_there (Some k) g i c h = h

has_it : (o : Option Clause) (i : ℕ) → Contains (listed_clause window_number o) i → has_clause o ≡ true
has_it None i c = absurd (Contains-none i c)
has_it (Some k) i c = refl

module _ (spec : Spec) (f : Found spec) (named : IsNamed spec) (typed : IsTyped spec) (accepted : refusals_of spec f ≡ []) where
  -- nothing is refused of a clause
  of_part : (n : ℕ) (s : Stream) (p : Part) → slice_get spec.streams n ≡ Some s
      → clause_refusals spec.streams f.evals f.window_refusals (finding_of_part f.spawns f.evals f.closes n p) (clause_of s p) ≡ []
  of_part n s part.Spawn e = empty_left (clause_refusals spec.streams f.evals f.window_refusals (finding_at f.spawns n) s.spawn) _ (here spec f typed.ranged.rates accepted n s e)
  of_part n s part.Eval e = empty_left (clause_refusals spec.streams f.evals f.window_refusals (finding_at f.evals n) s.eval) _ (later spec f typed.ranged.rates accepted n s e)
  of_part n s part.Close e = empty_right (clause_refusals spec.streams f.evals f.window_refusals (finding_at f.evals n) s.eval) _ (later spec f typed.ranged.rates accepted n s e)

  -- and it has a pacing
  part_paced : (n : ℕ) (s : Stream) (p : Part) (i : ℕ) → slice_get spec.streams n ≡ Some s → Contains (listed_clause window_number (clause_of s p)) i
      → is_unpaced (finding_of_part f.spawns f.evals f.closes n p) ≡ false
  part_paced n s part.Spawn i e c = clause_there s.spawn (finding_at f.spawns n) i c (paces_all.paced spec f typed.ranged.rates accepted n s e).spawn
  part_paced n s part.Eval i e c = clause_there s.eval (finding_at f.evals n) i c (paces_all.paced spec f typed.ranged.rates accepted n s e).eval
  part_paced n s part.Close i e c =
      let shape : shape_by s s.sort ≡ true = range_at is_well_shaped spec.streams n s named.shapes e in
      clause_there s.close (finding_at f.closes n) i c ((paces_all.paced spec f typed.ranged.rates accepted n s e).close (eval_beside s s.sort shape (has_it s.close i c)))

  module _ (i : ℕ) (w : WindowSpec) (at : slice_get spec.windows i ≡ Some w) where
    -- in this clause of this stream
    in_clause : (n : ℕ) (s : Stream) (p : Part) → slice_get spec.streams n ≡ Some s → Contains (listed_clause window_number (clause_of s p)) i → (w.stream ≡ n) × (w.part ≡ p)
    in_clause n s p e c =
        let of = of_stream (windows_stand_here spec.windows) 0 spec.streams (noted_kinds spec.streams) n s n (omega arith) named.window_places e in
        let within = of_clause (windows_stand_here spec.windows) n s of.0 p of.1 in
        stands_so n p (slice_get spec.windows i) w at (stands_in spec.windows n p i within.0 within.1 (clause_of s p) within.2 c)

    no_window_refusal : (n : ℕ) (s : Stream) (p : Part) → slice_get spec.streams n ≡ Some s → Contains (listed_clause window_number (clause_of s p)) i → unwrap_or (slice_get f.window_refusals i) None ≡ None
    no_window_refusal n s p e c =
        let used_there = maps_clause ℕ Use window_number used i (λ u. (q : ℕ) × (u ≡ OfWindow q i)) (is_used i) (clause_of s p) c in
        let listed_use = subst (λ (u : Use). Contains (listed_clause used (clause_of s p)) u) used_there.2.1 used_there.1 in
        accepts_fine.fine spec.streams f.evals f.window_refusals (finding_of_part f.spawns f.evals f.closes n p) (clause_of s p) (of_part n s p e) (OfWindow used_there.2.0 i) listed_use

    -- its clause has a rate, and it is fine enough
    fine : (n : ℕ) (s : Stream) (p : Part) → slice_get spec.streams n ≡ Some s → Contains (listed_clause window_number (clause_of s p)) i
        → (r : Ratio) × (finding_of_part f.spawns f.evals f.closes n p ≡ Paced (Periodic r)) × IsFineEnough r w.over
    fine n s p e c =
        let v = window_refusal_at f.spawns f.evals f.closes spec.windows f.window_refusals i w f.are.are_window_refusals at in
        let none = none_against v.0 (slice_get f.window_refusals i) v.1 (no_window_refusal n s p e c) in
        let place = in_clause n s p e c in
        let one = subst (λ (m : ℕ). IsWindowRefusal (finding_of_part f.spawns f.evals f.closes m w.part) w.over v.0) place.0 v.2 in
        let two = subst (λ (q : Part). IsWindowRefusal (finding_of_part f.spawns f.evals f.closes n q) w.over v.0) place.1 one in
        let three = subst (λ (o : Option Code). IsWindowRefusal (finding_of_part f.spawns f.evals f.closes n p) w.over o) none two in
        by_window_refusal (finding_of_part f.spawns f.evals f.closes n p) w.over (part_paced n s p i e c) three

    window_paced : (pacings : List ClausePacings) → pacings ≡ pacings_from f.spawns f.evals f.closes 0 spec.streams → IsWindowPaced pacings w
    window_paced pacings are =
        let numbered = subst (λ (ns : List ℕ). Contains ns i) (sym named.window_numbers) (has_number 0 (length spec.windows) i i (below_length spec.windows i w at) (omega arith)) in
        let stream = in_some_stream ℕ window_number i spec.streams numbered in
        let clause = in_some_clause stream.1 i stream.3 in
        let n = stream.0 in
        let s = stream.1 in
        let p = clause.0 in
        let place = in_clause n s p stream.2 clause.1 in
        let is_fine = fine n s p stream.2 clause.1 in
        let found = ap (λ (ps : List ClausePacings). slice_get ps n) are ∙ pacings_at f.spawns f.evals f.closes 0 spec.streams n s n (omega arith) stream.2 in
        record {
          rate = is_fine.0;
          periodic = ap (λ (m : ℕ). pacing_at pacings m w.part) place.0 ∙ ap (λ (q : Part). pacing_at pacings n q) place.1
              ∙ pacing_here f.spawns f.evals f.closes pacings n p found ∙ ap pacing_of is_fine.1;
          fine = is_fine.2;
        }

-- each of a list, where it is so at each place
at_each : {X : Type 0} (P : X → Type 0) (xs : List X) → ((i : ℕ) (x : X) → slice_get xs i ≡ Some x → P x) → All P xs
at_each P [] h = λ k d lt. absurd (omega arith)
at_each P (x ∷ xs) h = All-cons P x xs (h 0 x refl) (at_each P xs (λ i y e. h (suc i) y e))

pub paces_windows : PacesWindows
paces_windows = record {
  paced = λ spec pacings named typed are. at_each (IsWindowPaced pacings) spec.windows (λ i w e. window_paced spec are.found named typed are.accepted i w e pacings are.are);
}
