-- Instances that were loaded stay so, and one after another all are.
use Rattle.std.proofs.Common.{◌≡◌, ℕ, ◌-◌, List, [], length, refl, subst, ap, sym, ◌∙◌, arith, Bool, Option, Some, None, slice_get, IsTrue}
use Rattle.lola_value.specs.Naming.{Naming}
use Rattle.lola_value.specs.declared.text.Field.{Field}
use Rattle.lola_model.specs.Reading.{IsHeldBy}
use Rattle.lola_model.specs.Store.{Seen, SeenInstance, is_running, has_spawned, instances_of, instances_seen, start_seen, time_seen}
use Rattle.lola_instances_one.specs.Holdings.{Holdings}
use Rattle.lola_instances_stream.specs.Crowds.{RemembersAt}
use Rattle.lola_instances.specs.Saved.{instance_at}
use Rattle.lola_instances.specs.Phases.{start_in, time_in}
use Rattle.lola_instances.specs.Stores.{bounded_remembers, bounded_seen}
use Rattle.lola_instances.specs.declared.store.BoundedStore.{BoundedStore}
use Rattle.lola_save_text.specs.declared.forms.StreamForm.{StreamForm}
use Rattle.lola_save_text.specs.declared.state.SavedInstance.{SavedInstance}
use Rattle.lola_save_text.specs.declared.state.Times.{Times}
use Rattle.lola_engine.proofs.Interned.{held-on}
use Rattle.lola_save.specs.Loaded.{CanLoad, ChangesOne, ChangesStream, GoesOn, IsBlank, IsLoaded, IsOpen, IsStreamLoaded, StaysAt, times_seen}
use Rattle.lola_save.proofs.StoreSlots.{remembers-same}

-- the same step

pub on-self : (s : BoundedStore) → GoesOn s s
on-self s = record { layout = refl; phase = refl; steps = refl; count = refl }

pub on-on : (a b c : BoundedStore) → GoesOn a b → GoesOn b c → GoesOn a c
on-on a b c f g = record { layout = g.layout ∙ f.layout; phase = g.phase ∙ f.phase; steps = g.steps ∙ f.steps; count = g.count ∙ f.count }

pub on-seen : (old new : BoundedStore) → bounded_seen new ≡ bounded_seen old → GoesOn old new
on-seen old new e = record { layout = ap (λ s. s.layout) e; phase = ap (λ s. s.phase) e; steps = ap (λ s. s.steps) e; count = ap (λ s. length s.streams) e }

module _ (old new : BoundedStore) (on : GoesOn old new) where
  -- what is said of its layout, its times and its number of steps
  module _ (P : Seen → Type 0) (free : (a b : Seen) → a.layout ≡ b.layout → a.phase ≡ b.phase → a.steps ≡ b.steps → P b → P a) where
    pub holds-on : P (bounded_seen old) → P (bounded_seen new)
    holds-on h = free (bounded_seen new) (bounded_seen old) on.layout on.phase on.steps h

  pub start-on : start_seen (bounded_seen new) ≡ start_seen (bounded_seen old)
  start-on = λ j. start_seen (record (bounded_seen old) { phase = on.phase j })

  pub time-on : time_seen (bounded_seen new) ≡ time_seen (bounded_seen old)
  time-on = λ j. time_seen (record (bounded_seen old) { phase = on.phase j })

  pub times-on : times_seen (bounded_seen new) ≡ times_seen (bounded_seen old)
  times-on = λ j. record { start = Some (start-on j); last = Some (time-on j); steps = on.steps j - 1 }

  pub can-on : CanLoad (bounded_seen old) → CanLoad (bounded_seen new)
  can-on h = record {
    running = subst (λ p. IsTrue (is_running p)) (sym on.phase) h.running;
    few = let s = on.steps in let f = h.few in omega (arith, s, f);
    order = let a = start-on in let b = time-on in let o = h.order in omega (arith, a, b, o);
    in_time = let b = time-on in let t = h.in_time in omega (arith, b, t);
  }

-- what is remembered of an instance that stays

pub remembers-stays : (old new : BoundedStore) (n i : ℕ) → GoesOn old new → StaysAt old new n i → (names : Naming) (values : List (ℕ × Field)) → bounded_remembers old names n i values → bounded_remembers new names n i values
remembers-stays old new n i on stays names values h = by (instance_at old n i) refl h
  where
    by : (o : Option Holdings) → instance_at old n i ≡ o → bounded_remembers old names n i values → bounded_remembers new names n i values
    by None at h = absurd (none at h)
      where
        none : instance_at old n i ≡ None → bounded_remembers old names n i values → ⊥
        none at h = subst (λ (o : Option Holdings). RemembersAt (start_in old.phase) (time_in old.phase) old.step names o values) at h
    by (Some y) at h = remembers-same old new n i on.phase on.steps (stays y at ∙ sym at) names values h

pub loaded-stays : (times : Times) (names more : Naming) (old new : BoundedStore) (n i : ℕ) (form : StreamForm) (a : SavedInstance) → GoesOn old new
    → slice_get (instances_seen (bounded_seen new) n) i ≡ slice_get (instances_seen (bounded_seen old) n) i → StaysAt old new n i → IsHeldBy names more → IsLoaded times names old n i form a → IsLoaded times more new n i form a
loaded-stays times names more old new n i form a on shown stays held h = record {
  x = h.x;
  at = shown ∙ h.at;
  restored = λ most into.
      let r = h.restored most (held-on names more most held into) in
      record { params = r.params; held = r.held; silent = r.silent; born = r.born; past = λ values of. remembers-stays old new n i on stays most values (r.past values of) };
}

pub blank-stays : (old new : BoundedStore) (n i : ℕ) → GoesOn old new → slice_get (instances_seen (bounded_seen new) n) i ≡ slice_get (instances_seen (bounded_seen old) n) i → StaysAt old new n i → IsBlank old n i → IsBlank new n i
blank-stays old new n i on shown stays h = record {
  silent = record { x = h.silent.x; at = shown ∙ h.silent.at; silent = h.silent.silent };
  none = λ names. remembers-stays old new n i on stays names [] (h.none names);
}

-- a stream that is not touched

pub shown-same : (old new : BoundedStore) (m : ℕ) → slice_get (bounded_seen new).streams m ≡ slice_get (bounded_seen old).streams m → instances_seen (bounded_seen new) m ≡ instances_seen (bounded_seen old) m
shown-same old new m e = ap instances_of e

pub stream-stays : (times : Times) (names more : Naming) (old new : BoundedStore) (n m : ℕ) (form : StreamForm) (is : List SavedInstance) → ChangesStream n old new → (m ≡ n → ⊥) → IsHeldBy names more → IsStreamLoaded times names old m form is
    → IsStreamLoaded times more new m form is
stream-stays times names more old new n m form is c d held h =
    let same : instances_seen (bounded_seen new) m ≡ instances_seen (bounded_seen old) m = shown-same old new m (c.shown m d) in
    record {
      count = ap length same ∙ h.count;
      each = λ i a e. loaded-stays times names more old new m i form a c.on (ap (λ (l : List SeenInstance). slice_get l i) same) (c.others m i d) held (h.each i a e);
    }

pub open-stays : (old new : BoundedStore) (n m : ℕ) (spawns : Bool) → ChangesStream n old new → (m ≡ n → ⊥) → IsOpen old m spawns → IsOpen new m spawns
open-stays old new n m spawns c d h =
    let same : instances_seen (bounded_seen new) m ≡ instances_seen (bounded_seen old) m = shown-same old new m (c.shown m d) in
    record {
      plain = λ p.
          let q = h.plain p in
          record {
            one = ap length same ∙ q.one;
            params = λ x e. q.params x (sym (ap (λ (l : List SeenInstance). slice_get l 0) same) ∙ e);
            blank = blank-stays old new m 0 c.on (ap (λ (l : List SeenInstance). slice_get l 0) same) (c.others m 0 d) q.blank;
          };
      none = λ p. same ∙ h.none p;
      over = ap has_spawned (c.shown m d) ∙ h.over;
    }

-- changes of a stream

pub stream-self : (n : ℕ) (s : BoundedStore) → ChangesStream n s s
stream-self n s = record { on = on-self s; shown = λ m d. refl; others = λ m j d y e. e }

pub stream-on : (n : ℕ) (a b c : BoundedStore) → ChangesStream n a b → ChangesStream n b c → ChangesStream n a c
stream-on n a b c f g = record { on = on-on a b c f.on g.on; shown = λ m d. g.shown m d ∙ f.shown m d; others = λ m j d y e. g.others m j d y (f.others m j d y e) }

pub stream-one : (n i : ℕ) (old new : BoundedStore) → ChangesOne n i old new → ChangesStream n old new
stream-one n i old new h = record {
  on = on-seen old new h.seen;
  shown = λ m d. ap (λ (s : Seen). slice_get s.streams m) h.seen;
  others = λ m j d y e. h.others m j (λ a b. d a) ∙ e;
}
