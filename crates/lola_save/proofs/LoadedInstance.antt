-- An instance that was loaded is restored: it remembers whatever values what was saved of it is of.
use Rattle.std.proofs.Common.{◌≡◌, ℕ, List, [], ◌∷◌, ◌++◌, map, refl, subst, ap, sym, ◌∙◌, arith, Option, Some, None, slice_get, IsTrue, MatchOption}
use Rattle.std.specs.Option.{option_map}
use Rattle.std.proofs.lemmas.Option.{slice_get-map}
use Rattle.circular_buffer.specs.Buffer.{keep_last}
use Rattle.lola_value.specs.Naming.{Naming, read, read_outcome, the_values}
use Rattle.lola_value.specs.declared.text.Field.{Field}
use Rattle.lola_value.specs.declared.value.Kind.{Kind}
use Rattle.lola_value.specs.declared.value.Outcome.{Outcome}
use Rattle.lola_value.specs.declared.value.Value.{Value}
use Rattle.lola_model.specs.Accesses.{one_more}
use Rattle.lola_model.specs.Reading.{IsHeldBy}
use Rattle.lola_model.specs.Store.{SeenInstance, is_silent, kept_in, kind_in, now_seen, start_seen, target_of, time_seen}
use Rattle.lola_model.specs.declared.spec.WindowSpec.{WindowSpec}
use Rattle.lola_panes.specs.Holding.{AllWithin}
use Rattle.lola_panes.specs.Restored.{AllFrom}
use Rattle.lola_panes.specs.Standing.{Partials, StandFor}
use Rattle.lola_instances_one.specs.Memories.{AllSince, shifted}
use Rattle.lola_instances.specs.Saved.{MayHaveHadIn, panes_at, values_by_now}
use Rattle.lola_instances.specs.Stores.{bounded_remembers, bounded_seen, values_kept}
use Rattle.lola_instances.specs.declared.store.BoundedStore.{BoundedStore}
use Rattle.lola_save_text.specs.Fitting.{time_or}
use Rattle.lola_save_text.specs.declared.forms.StreamForm.{StreamForm}
use Rattle.lola_save_text.specs.declared.forms.WindowForm.{WindowForm}
use Rattle.lola_save_text.specs.declared.state.SavedInstance.{SavedInstance}
use Rattle.lola_save_text.specs.declared.state.SavedPanes.{SavedPanes}
use Rattle.lola_save_text.specs.declared.state.Times.{Times}
use Rattle.lola_save_text.specs.Offsets.{PanesAreRestored, by_offset}
use Rattle.lola_save_text.specs.PaneFolds.{newest_time, panes_by, panes_of}
use Rattle.lola_save_text.specs.Restored.{AreOfLife, IsSavedOf}
use Rattle.lola_save.specs.Fitting.{IsWholeStreamOf}
use Rattle.lola_save.specs.Loaded.{ArePanesLoaded, AreValuesOf, IsBlank, IsLoaded, IsNewborn, IsSilentAt, StandAsSaved}
use Rattle.lola_save.proofs.Lives.{last-kept}
use Rattle.lola_save.proofs.LoadedOne.{lives-at, silent-is, silent-now}
use Rattle.lola_save.proofs.Naming.{are-held-on, reads-on}
use Rattle.lola_save.proofs.StoreSlots.{has-panes, kept-all, shown-by}

-- an instance without a value keeps none

none-read : (f : Value → Field) (vs : List Value) → map f vs ≡ [] → vs ≡ []
none-read f [] e = refl
none-read f (v ∷ vs) e = absurd (cc)

module _ (s : BoundedStore) (n i : ℕ) (blank : IsBlank s n i) where
  none-by-now : (names : Naming) → values_by_now s names n i [] ≡ []
  none-by-now names = ap (λ (o : Outcome). let vs : List (ℕ × Field) = [] ++ one_more (time_seen (bounded_seen s)) (read_outcome names o) in vs) (silent-now s n i blank.silent)

  pub blank-values : ((names : Naming) (m j : ℕ) (values : List (ℕ × Field)) → bounded_remembers s names m j values
      → map (read names) (values_kept s m j) ≡ keep_last (kept_in (slice_get (bounded_seen s).layout.streams m)) (map (λ v. v.1) (values_by_now s names m j values)))
      → values_kept s n i ≡ []
  blank-values law =
      none-read (read []) (values_kept s n i)
      (law [] n i [] (blank.none [])
      ∙ ap (λ (vs : List (ℕ × Field)). keep_last (kept_in (slice_get (bounded_seen s).layout.streams n)) (map (λ (v : ℕ × Field). v.1) vs)) (none-by-now [])
      ∙ kept-all (kept_in (slice_get (bounded_seen s).layout.streams n)) [] (omega arith))

  pub blank-panes : ((names : Naming) (w j : ℕ) (values : List (ℕ × Field)) (p : Partials) → panes_at s w j ≡ Some p
      → bounded_remembers s names (target_of (slice_get (bounded_seen s).layout.windows w)) j values
      → StandFor p (map (shifted (start_seen (bounded_seen s))) (values_by_now s names (target_of (slice_get (bounded_seen s).layout.windows w)) j values)))
      → (w : ℕ) (v : WindowSpec) → slice_get (bounded_seen s).layout.windows w ≡ Some v → v.target ≡ n → MatchOption (panes_at s w i) ⊥ (λ p. StandFor p [])
  blank-panes law w v e t =
      let y = shown-by s n i blank.silent.x blank.silent.at in
      let h = has-panes s n i w v y.y y.at e t in
      let target : target_of (slice_get (bounded_seen s).layout.windows w) ≡ n = ap target_of e ∙ t in
      let stand : StandFor h.p (map (shifted (start_seen (bounded_seen s))) (values_by_now s [] n i [])) =
      subst (λ m. bounded_remembers s [] m i [] → StandFor h.p (map (shifted (start_seen (bounded_seen s))) (values_by_now s [] m i []))) target (law [] w i [] h.p h.at) (blank.none []) in
      subst (λ (o : Option Partials). MatchOption o ⊥ (λ (p : Partials). StandFor p [])) (sym h.at)
      (subst (λ (vs : List (ℕ × Field)). StandFor h.p (map (shifted (start_seen (bounded_seen s))) vs)) (none-by-now []) stand)

-- a window without panes was given no value

newest-some : (v : ℕ × Field) (vs : List (ℕ × Field)) → (t : ℕ) × (newest_time (v ∷ vs) ≡ Some t)
newest-some v [] = (v.0, refl)
newest-some v (w ∷ vs) = newest-some w vs

no-values : (start : ℕ) (w : WindowForm) (vs : List (ℕ × Field)) → panes_of start w vs ≡ None → vs ≡ []
no-values start w [] e = refl
no-values start w (v ∷ vs) e =
    let t = newest-some v vs in
    let some : panes_by start w (v ∷ vs) (Some t.0) ≡ None = sym (ap (panes_by start w (v ∷ vs)) t.1) ∙ e in
    absurd (cc)

all-since : (start : ℕ) (vs : List (ℕ × Field)) → AllFrom start vs → AllSince start vs
all-since start [] h = tt
all-since start (v ∷ vs) h = (h.0, all-since start vs h.1)

-- the panes of a window stand for the values

module _ (start : ℕ) (f : WindowForm) (k : Kind) (values : List (ℕ × Field)) (restored : PanesAreRestored) (times : Times) (kind : Kind) (life : AreOfLife times kind values) (within : AllWithin k values) where
  stands : (p : Partials) (r : Option SavedPanes) → panes_of start f values ≡ r → StandAsSaved k f r p → StandFor p (by_offset start values)
  stands p None e h = subst (λ (vs : List (ℕ × Field)). StandFor p (by_offset start vs)) (sym (no-values start f values e)) h
  stands p (Some q) e h = h (by_offset start values) (restored start f k values q e life.order within)

  pub stand-by : (o : Option Partials) → MatchOption o ⊥ (StandAsSaved k f (panes_of start f values)) → MatchOption o ⊥ (λ p. StandFor p (map (shifted start) values))
  stand-by None h = absurd h
  stand-by (Some p) h = stands p (panes_of start f values) refl h

-- the whole instance

module _ (s : BoundedStore) (times : Times) (names : Naming) (n i : ℕ) (form : StreamForm) (saved : SavedInstance)
    (law : (more : Naming) (m j : ℕ) (values : List (ℕ × Field)) → IsTrue (is_silent (now_seen (bounded_seen s) m j)) → MayHaveHadIn s more m j values → bounded_remembers s more m j values)
    (within : (t : Times) (k : Kind) (values : List (ℕ × Field)) → AreOfLife t k values → AllWithin k values) (restored : PanesAreRestored)
    (silent : IsSilentAt s n i) (start : time_or 0 times.start ≡ start_seen (bounded_seen s)) (whole : IsWholeStreamOf (bounded_seen s).layout n form) where
  module _ (ring : AreValuesOf names saved.ring (values_kept s n i))
      (panes : (k : ℕ) (w : WindowForm) (o : Option SavedPanes) → slice_get form.windows k ≡ Some w → slice_get saved.panes k ≡ Some o → ArePanesLoaded s i (kind_in (slice_get (bounded_seen s).layout.streams n)) w o) where
    module _ (more : Naming) (on : IsHeldBy names more) (values : List (ℕ × Field)) (of : IsSavedOf times values form saved) where
      panes-stand : (w : ℕ) (v : WindowSpec) → slice_get (bounded_seen s).layout.windows w ≡ Some v → v.target ≡ n → MatchOption (panes_at s w i) ⊥ (λ p. StandFor p (map (shifted (start_seen (bounded_seen s))) values))
      panes-stand w v e t =
          let a = whole.windows.all w v e t in
          let k = a.0 in
          let f = a.1 in
          let began : ℕ = time_or 0 times.start in
          let there : slice_get saved.panes k ≡ Some (panes_of began f values) =
          ap (λ (l : List (Option SavedPanes)). slice_get l k) (sym of.panes)
          ∙ slice_get-map (λ g. panes_of began g values) form.windows k
          ∙ ap (option_map (λ g. panes_of began g values)) a.2 in
          let all : AllWithin (kind_in (slice_get (bounded_seen s).layout.streams n)) values = subst (λ (c : Kind). AllWithin c values) whole.kind (within times form.kind values of.life) in
          let stand = stand-by began f (kind_in (slice_get (bounded_seen s).layout.streams n)) values restored times form.kind of.life all (panes_at s f.number i) (panes k f (panes_of began f values) a.2 there) in
          subst (λ t. t) (λ j. MatchOption (panes_at s (a.3 j) i) ⊥ (λ (p : Partials). StandFor p (map (shifted (start j)) values))) stand

      had : MayHaveHadIn s more n i values
      had = record {
        lives = lives-at s n i silent;
        last = reads-on names more (values_kept s n i) on ring.held
            ∙ ring.reads
            ∙ sym of.ring
            ∙ sym (last-kept form.kept values)
            ∙ ap (λ (k : ℕ). keep_last k (map (λ (v : ℕ × Field). v.1) values)) whole.of.kept;
        panes = panes-stand;
        since = subst (λ (t : ℕ). AllSince t values) start (all-since (time_or 0 times.start) values of.life.since);
        held = are-held-on names more (values_kept s n i) on ring.held;
      }

      remembered : bounded_remembers s more n i values
      remembered = law more n i values (silent-is s n i silent) had

    pub loaded-one : IsNewborn names form silent.x saved → IsLoaded times names s n i form saved
    loaded-one born = record {
      x = silent.x;
      at = silent.at;
      restored = λ more on. record {
        params = reads-on names more (the_values silent.x.params) on born.held ∙ born.params;
        held = are-held-on names more (the_values silent.x.params) on born.held;
        silent = silent.silent;
        born = born.born;
        past = λ values of. remembered more on values of;
      };
    }

-- what it shows is read so through each naming with its texts
pub newborn-on : (names more : Naming) (form : StreamForm) (x : SeenInstance) (saved : SavedInstance) → IsHeldBy names more → IsNewborn names form x saved → IsNewborn more form x saved
newborn-on names more form x saved on h = record { params = reads-on names more (the_values x.params) on h.held ∙ h.params; held = are-held-on names more (the_values x.params) on h.held; born = h.born }
