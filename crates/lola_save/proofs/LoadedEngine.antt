-- A store and an engine that were made from a state.
use Rattle.std.proofs.Common.{◌≡◌, ℕ, ◌<◌, List, [], length, refl, subst, ap, sym, ◌∙◌, arith, true, Option, Some, None, slice_get}
use Rattle.std.specs.Option.{option_map}
use Rattle.std.proofs.lemmas.Bool.{and_parts, leb-true}
use Rattle.std.proofs.lemmas.Option.{slice_get-map}
use Rattle.lola_value.specs.Naming.{Naming}
use Rattle.lola_model.specs.Journal.{accepted, known_start}
use Rattle.lola_model.specs.Reading.{IsHeldBy}
use Rattle.lola_model.specs.Runs.{content_after, run_start, settled_fault, settled_model}
use Rattle.lola_model.specs.Standing.{StandsBetween}
use Rattle.lola_model.specs.Store.{Layout, Seen, SeenStream, instances_of, instances_seen, layout_of, new_seen}
use Rattle.lola_model.specs.declared.journal.Entry.{Entry}
use Rattle.lola_model.specs.declared.plan.Plan.{Plan}
use Rattle.lola_step_contents.specs.Ready.{HasTexts}
use Rattle.lola_engine.specs.Resuming.{IsLeftAt, StandsAfter}
use Rattle.lola_instances_stream.proofs.Outcomes.{item_at}
use Rattle.lola_instances.specs.Restoring.{FollowsStart, after_resume}
use Rattle.lola_instances.specs.Stores.{bounded_remembers, bounded_seen}
use Rattle.lola_instances.specs.declared.store.BoundedStore.{BoundedStore}
use Rattle.lola_save_text.specs.Fitting.{is_last}
use Rattle.lola_save_text.specs.Forms.{forms_of}
use Rattle.lola_save_text.specs.Validity.{IsSaved}
use Rattle.lola_save_text.specs.declared.state.SavedState.{SavedState}
use Rattle.lola_save_text.specs.FirstStates.{first_state}
use Rattle.lola_save_text.specs.JournalStates.{IsJournalOf, state_of}
use Rattle.lola_save_text.specs.Restored.{IsRestoredFrom, StandsForJournals}
use Rattle.lola_save.specs.Loaded.{AreStreamsLoaded, GoesOn}
use Rattle.lola_save.specs.Opening.{IsGoingOn, IsStoreOf, times_in}
use Rattle.lola_save.proofs.StoreMade.{made-on, made-restored}

-- a new store goes on

pub follows : (start last : Option ℕ) → is_last start last ≡ true → FollowsStart start last
follows None None h = tt
follows None (Some l) h = absurd (cc)
follows (Some a) None h = tt
follows (Some a) (Some l) h = leb-true a l (and_parts _ _ h).0

pub new-is : (s : Seen) (l : Layout) → s ≡ new_seen l → s ≡ new_seen s.layout
new-is s l e = e ∙ ap new_seen (sym (ap (λ (x : Seen). x.layout) e))

resumed-shows : (s : Seen) (start last : Option ℕ) (steps n : ℕ) → instances_seen (after_resume s start last steps) n ≡ instances_seen s n
resumed-shows s start None steps n = refl
resumed-shows s start (Some l) steps n = ap instances_of (slice_get-map (λ (x : SeenStream). record x { spawned = true }) s.streams n) ∙ same (slice_get s.streams n)
  where
    same : (o : Option SeenStream) → instances_of (option_map (λ (x : SeenStream). record x { spawned = true }) o) ≡ instances_of o
    same None = refl
    same (Some x) = refl

pub going-on : (plan : Plan) (state : SavedState) (old new : BoundedStore) → bounded_seen old ≡ new_seen (layout_of plan)
    → ((names : Naming) (n i : ℕ) → i < length (instances_seen (bounded_seen old) n) → bounded_remembers old names n i [])
    → bounded_seen new ≡ after_resume (bounded_seen old) state.start state.last state.steps
    → ((names : Naming) (n i : ℕ) → bounded_remembers old names n i [] → bounded_remembers new names n i [])
    → IsGoingOn plan state new
going-on plan state old new made none seen keeps = record {
  seen = seen ∙ ap (λ (s : Seen). after_resume s state.start state.last state.steps) made;
  none = λ names n i lt.
      let same : instances_seen (bounded_seen new) n ≡ instances_seen (bounded_seen old) n = ap (λ (s : Seen). instances_seen s n) seen ∙ resumed-shows (bounded_seen old) state.start state.last state.steps n in
      keeps names n i (none names n i (let l = ap length same in omega (arith, l, lt)));
}

-- what was loaded into it

pub store-of : (plan : Plan) (state : SavedState) (names : Naming) (old s : BoundedStore) → IsSaved (forms_of plan) state → IsGoingOn plan state old → GoesOn old s
    → AreStreamsLoaded (record { start = state.start; last = state.last; steps = state.steps }) names s (forms_of plan) state.streams → (state.last ≡ None → IsGoingOn plan state s) → IsStoreOf plan state names s
store-of plan state names old s saved new on loaded fresh =
    let layout = on.layout ∙ ap (λ (x : Seen). x.layout) new.seen in
    let phase = on.phase ∙ ap (λ (x : Seen). x.phase) new.seen in
    let steps = on.steps ∙ ap (λ (x : Seen). x.steps) new.seen in
    record { on = made-on plan state names s saved layout phase steps loaded; fresh = fresh; restored = made-restored plan state names s saved layout phase steps loaded }

-- an engine over it

pub texts-on : (names more : Naming) (ts : List (List ℕ)) → IsHeldBy names more → HasTexts names ts → HasTexts more ts
texts-on names more ts on h i lt = let t = item_at ts i lt in on i t.0 (h i lt ∙ t.1) ∙ sym t.1

module _ (plan : Plan) (state : SavedState) (names : Naming) (s : BoundedStore) (of : IsStoreOf plan state names s)
    (law : (a : SavedState) (b : Naming) → IsRestoredFrom plan a b (bounded_remembers s) (bounded_seen s) → StandsForJournals plan a b (bounded_remembers s) (bounded_seen s))
    (known : (start : Option ℕ) (journal : List Entry) (t : ℕ) → known_start start (accepted journal) ≡ Some t → run_start plan start journal ≡ t)
    (unknown : (start : Option ℕ) (journal : List Entry) → known_start start (accepted journal) ≡ None → state_of plan start journal ≡ first_state plan None)
    (new : (l : Layout) → after_resume (new_seen l) None None 0 ≡ new_seen l) (start : Option ℕ) (journal : List Entry) (run : IsJournalOf plan start journal) (fine : settled_fault plan start journal ≡ None)
    (is : state ≡ state_of plan start journal) where
  stands-after : (o : Option ℕ) → state.start ≡ o → StandsAfter plan names (bounded_remembers s) (bounded_seen s) o start journal
  stands-after None e =
      let none : known_start start (accepted journal) ≡ None = sym (ap (λ (x : SavedState). x.start) is) ∙ e in
      let first : state ≡ first_state plan None = is ∙ unknown start journal none in
      let last : state.last ≡ None = ap (λ (x : SavedState). x.last) first in
      let steps : state.steps ≡ 0 = ap (λ (x : SavedState). x.steps) first in
      let fresh = of.fresh last in (
        fresh.seen ∙ (λ j. after_resume (new_seen (layout_of plan)) (e j) (last j) (steps j)) ∙ new (layout_of plan),
        λ other n i lt. fresh.none other n i lt,
      )
  stands-after (Some a) e =
      let at : run_start plan start journal ≡ a = known start journal a (sym (ap (λ (x : SavedState). x.start) is) ∙ e) in
      subst (λ (t : ℕ). StandsBetween names (bounded_remembers s) (bounded_seen s) (content_after plan t (settled_model plan start journal))) at
      (law state names (of.restored a e) start journal run fine is)

  pub left-at : IsLeftAt plan names (bounded_remembers s) (bounded_seen s) (times_in state) start journal
  left-at = record {
    reached = record { start = ap (λ (x : SavedState). x.start) is; last = ap (λ (x : SavedState). x.last) is; steps = ap (λ (x : SavedState). x.steps) is };
    fine = fine;
    stands = stands-after state.start refl;
  }
