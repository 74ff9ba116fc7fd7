-- What is left of a store once an instance is closed.
use Rattle.std.proofs.Common.{◌≡◌, refl, ap, ◌∙◌, sym, subst, ℕ, zero, suc, ◌+◌, ◌<◌, ◌≤◌, inl, inr, List, [], ◌∷◌, ◌++◌, Option, Some, None, true, false, IsTrue, slice_get, length, drop, reverse, arith, option_map}
use Rattle.std.specs.Prelude.{remove}
use Rattle.std.proofs.lemmas.Bool.{cases_eq}
use Rattle.std.proofs.lemmas.List.{reverse-append}
use Rattle.std.proofs.lemmas.List.Edits.{length-remove}
use Rattle.std.proofs.lemmas.Option.{slice_get-map}
use Rattle.lola_value.specs.Naming.{Naming}
use Rattle.lola_model.specs.Content.{Content}
use Rattle.lola_model.specs.Store.{Layout, Memories, layouts_from, Seen, SeenStream, Stands, after_close, changed_at, instances_of, instances_seen, spawns_in}
use Rattle.lola_model.specs.declared.pacing.ClausePacings.{ClausePacings}
use Rattle.lola_model.specs.declared.plan.Plan.{Plan}
use Rattle.lola_model.specs.declared.spec.Clause.{Clause}
use Rattle.lola_model.specs.declared.spec.Stream.{Stream}
use Rattle.lola_step_contents.specs.Changed.{closed}
use Rattle.lola_step_contents.specs.Ends.{Place, closed_each}
use Rattle.lola_step.specs.Notes.{IsBefore, IsClosable, place_of_task, places_of}
use Rattle.lola_step.specs.Progress.{IsOf}
use Rattle.lola_step.specs.declared.tasks.Task.{Task}
use Rattle.lola_step.proofs.Elements.{cut}
use Rattle.lola_step.proofs.Shown.{changed_else, changed_length}

-- the streams

-- one without a spawn clause never spawns
never_there : (ss : List Stream) (kept : List ℕ) (ps : List ClausePacings) (n : ℕ) (s : Stream) → slice_get ss n ≡ Some s → s.spawn ≡ None → spawns_in (slice_get (layouts_from ss kept ps) n) ≡ false
never_there [] kept ps n s e f = absurd (cc)
never_there (r ∷ ss) kept ps zero s e f =
    let p : r ≡ s = cc in
    ap (λ (x : Stream). spawns_in (slice_get (layouts_from (x ∷ ss) kept ps) zero)) p ∙ ap (λ (o : Option Clause). elim o [ None ↦ false | Some c ↦ true ]) f
never_there (r ∷ ss) kept ps (suc n) s e f = never_there ss (drop 1 kept) (drop 1 ps) n s e f

removed_there : (xs : List SeenStream) (n i : ℕ) → i < length (instances_of (slice_get xs n))
    → length (instances_of (slice_get (changed_at xs n (λ x. record x { instances = remove x.instances i })) n)) + 1 ≡ length (instances_of (slice_get xs n))
removed_there [] n i lt = absurd (omega arith)
removed_there (x ∷ xs) zero i lt = length-remove x.instances i lt
removed_there (x ∷ xs) (suc n) i lt = removed_there xs n i lt

module _ (s : Seen) (n i : ℕ) (lives : i < length (instances_seen s n)) where
  -- other streams keep their instances
  other_stays : (m : ℕ) → (m ≡ n → ⊥) → length (instances_seen (after_close s n i) m) ≡ length (instances_seen s m)
  other_stays m d = ap (λ o. length (instances_of o)) (changed_else s.streams n m (λ x. record x { instances = remove x.instances i }) d)

  one_less : (m : ℕ) → m ≡ n → length (instances_seen (after_close s n i) m) + 1 ≡ length (instances_seen s m)
  one_less m e = subst (λ j. length (instances_seen (after_close s n i) j) + 1 ≡ length (instances_seen s j)) (sym e) (removed_there s.streams n i lives)

  no_more : (m : ℕ) → length (instances_seen (after_close s n i) m) ≤ length (instances_seen s m)
  no_more m = elim (cases_eq m n) [ inl e ↦ omega (arith, one_less m e) | inr d ↦ omega (arith, other_stays m d) ]

  -- an instance before it stays where it is
  pub stays_closable : (now : Seen) → now ≡ after_close s n i → (t : Task) → IsClosable s t → IsBefore t (record { stream = n; index = i }) → IsClosable now t
  stays_closable now e t h b = subst (λ (r : Seen). IsClosable r t) (sym e) (record { spawns = h.spawns; lives = by b })
    where
      by : IsBefore t (record { stream = n; index = i }) → t.index < length (instances_seen (after_close s n i) t.stream)
      by (inl lt) = let d : t.stream ≡ n → ⊥ = λ e. absurd (omega arith) in omega (arith, other_stays t.stream d, h.lives)
      by (inr p) = let e : length (instances_seen s t.stream) ≡ length (instances_seen s n) = ap (λ m. length (instances_seen s m)) p.0 in omega (arith, one_less t.stream p.0, p.1, e)

  -- what shows is still of the plan
  module _ (plan : Plan) (of : IsOf plan s) (spawns : IsTrue (spawns_in (slice_get s.layout.streams n))) where
    not_here : (m : ℕ) (x : Stream) → slice_get plan.spec.streams m ≡ Some x → x.spawn ≡ None → m ≡ n → ⊥
    not_here m x at none e =
        let a : spawns_in (slice_get s.layout.streams m) ≡ true = subst (λ j. spawns_in (slice_get s.layout.streams j) ≡ true) (sym e) spawns in
        let b : spawns_in (slice_get s.layout.streams m) ≡ false = ap (λ (l : Layout). spawns_in (slice_get l.streams m)) of.layout ∙ never_there plan.spec.streams plan.kept plan.pacings m x at none in
        cc

    closed_of : IsOf plan (after_close s n i)
    closed_of = record {
      layout = of.layout;
      streams = changed_length s.streams n (λ x. record x { instances = remove x.instances i }) ∙ of.streams;
      few = λ m. omega (arith, no_more m, of.few m);
      single = λ m x at none. other_stays m (not_here m x at none) ∙ of.single m x at none;
      order = of.order;
      in_time = of.in_time;
    }

    pub still_of : (now : Seen) → now ≡ after_close s n i → IsOf plan now
    still_of now e = subst (IsOf plan) (sym e) closed_of

-- the content

each-append : (c : Content) (ps qs : List Place) → closed_each c (ps ++ qs) ≡ closed_each (closed_each c ps) qs
each-append c [] qs = refl
each-append c (p ∷ ps) qs = each-append (closed c p.stream p.index) ps qs

-- one more is closed, before those that are
one_more_closed : (c : Content) (p : Place) (ps : List Place) → closed (closed_each c (reverse ps)) p.stream p.index ≡ closed_each c (reverse (p ∷ ps))
one_more_closed c p ps = sym (ap (closed_each c) (reverse-append (p ∷ []) ps) ∙ each-append c (reverse ps) (p ∷ []))

-- the tasks of a list that are closed, from the last to that at a place
closed_from : (c : Content) (ts : List Task) (i : ℕ) (t : Task) → slice_get ts i ≡ Some t
    → closed (closed_each c (reverse (drop (i + 1) (places_of ts)))) t.stream t.index ≡ closed_each c (reverse (drop i (places_of ts)))
closed_from c ts i t at =
    one_more_closed c (place_of_task t) (drop (i + 1) (places_of ts))
    ∙ ap (λ ps. closed_each c (reverse ps)) (sym (cut (places_of ts) i (place_of_task t) (slice_get-map place_of_task ts i ∙ ap (option_map place_of_task) at)))

-- one more of them
pub stands_closing : (names : Naming) (remembers : Memories) (s : Seen) (c : Content) (ts : List Task) (left i : ℕ) (t : Task) → slice_get ts i ≡ Some t → left ≡ i + 1
    → ((d : Content) → d ≡ closed_each c (reverse (drop left (places_of ts))) → Stands names remembers s (closed d t.stream t.index))
    → Stands names remembers s (closed_each c (reverse (drop i (places_of ts))))
stands_closing names remembers s c ts left i t at e closes =
    subst (Stands names remembers s) (closed_from c ts i t at) (closes (closed_each c (reverse (drop (i + 1) (places_of ts)))) (ap (λ k. closed_each c (reverse (drop k (places_of ts)))) (sym e)))

-- none of them yet
closed_none : (c : Content) (ts : List Task) → closed_each c (reverse (drop (length ts) (places_of ts))) ≡ c
closed_none c ts = ap (λ ps. closed_each c (reverse ps)) (none ts)
  where
    none : (ts : List Task) → drop (length ts) (places_of ts) ≡ []
    none [] = refl
    none (t ∷ ts) = none ts

pub stands_first : (names : Naming) (remembers : Memories) (s : Seen) (c : Content) (ts : List Task) → Stands names remembers s c
    → Stands names remembers s (closed_each c (reverse (drop (length ts) (places_of ts))))
stands_first names remembers s c ts h = subst (Stands names remembers s) (sym (closed_none c ts)) h
