-- One more instance of a stream is restored.
use Rattle.std.proofs.Common.{◌≡◌, ℕ, suc, ◌+◌, ◌<◌, List, [], ◌∷◌, ◌++◌, length, map, refl, ap, sym, ◌∙◌, arith, Bool, true, false, Option, Some, None, slice_get, if◌then◌else◌, is_some}
use Rattle.std.specs.Option.{option_map, unwrap_or}
use Rattle.std.proofs.lemmas.Bool.{and_parts}
use Rattle.std.proofs.lemmas.List.{length-append, length-map}
use Rattle.lola_value.specs.Arithmetic.{all_equal}
use Rattle.lola_value.specs.Kinds.{all_same, same_params, values_same}
use Rattle.lola_value.specs.Naming.{Naming, read, read_params, the_values}
use Rattle.lola_value.specs.declared.text.Field.{Field}
use Rattle.lola_value.specs.declared.value.Kind.{Kind}
use Rattle.lola_value.specs.declared.value.Params.{Params}
use Rattle.lola_value.specs.declared.value.Value.{Value}
use Rattle.lola_value.proofs.ParamsLemmas.{same_values}
use Rattle.lola_model.proofs.Orderly.{instance_self}
use Rattle.lola_model.proofs.Giving.{changed_found}
use Rattle.lola_model.specs.Reading.{IsHeldBy}
use Rattle.lola_model.specs.Store.{Seen, SeenInstance, SeenStream, has_spawned, instances_of, instances_seen, newborn_seen, place_among, place_of}
use Rattle.lola_step.proofs.Shown.{changed_else, changed_length}
use Rattle.lola_instances_one.specs.Holdings.{Holdings}
use Rattle.lola_instances_stream.proofs.Lists.{got_before, got_last}
use Rattle.lola_instances_stream.proofs.Outcomes.{item_at}
use Rattle.lola_instances_stream.specs.Crowds.{crowd_seen}
use Rattle.lola_instances.specs.Restoring.{after_restore}
use Rattle.lola_instances.specs.Saved.{instance_at}
use Rattle.lola_instances.specs.Stores.{bounded_remembers, bounded_seen}
use Rattle.lola_instances.specs.Streams.{crowd_layout}
use Rattle.lola_instances.specs.declared.store.BoundedStore.{BoundedStore}
use Rattle.lola_save_text.specs.Fitting.{are_values}
use Rattle.lola_save_text.specs.declared.forms.StreamForm.{StreamForm}
use Rattle.lola_save_text.specs.declared.state.SavedInstance.{SavedInstance}
use Rattle.lola_save.specs.Loaded.{AreNamed, ChangesOne, GoesOn, HasBirth, IsBlank, IsNewborn, IsUnseen}
use Rattle.lola_save.proofs.LoadedStreams.{stream-on, stream-one}

-- as many values as kinds

pub values-long : (ks : List Kind) (fs : List Field) → are_values ks fs ≡ true → length fs ≡ length ks
values-long [] [] h = refl
values-long [] (f ∷ fs) h = absurd (cc)
values-long (k ∷ ks) [] h = absurd (cc)
values-long (k ∷ ks) (f ∷ fs) h = ap suc (values-long ks fs (and_parts _ _ h).1)

-- no instance has the parameters

pub equal-self : (fs : List Field) → all_equal fs fs ≡ true
equal-self fs = instance_self (record { params = fs; born = 0 })

all-same-is : (vs ws : List Value) → all_same vs ws ≡ true → vs ≡ ws
all-same-is [] [] h = refl
all-same-is [] (w ∷ ws) h = absurd (cc)
all-same-is (v ∷ vs) [] h = absurd (cc)
all-same-is (v ∷ vs) (w ∷ ws) h =
    let a = same_values v w (and_parts (values_same v w) (all_same vs ws) h).0 in
    let b = all-same-is vs ws (and_parts (values_same v w) (all_same vs ws) h).1 in
    λ j. a j ∷ b j

not-same : (names : Naming) (fs : List Field) (p q : Params) → read_params names p ≡ fs → all_equal fs (read_params names q) ≡ false → same_params p q ≡ false
not-same names fs p q e d = by (same_params p q) refl
  where
    by : (b : Bool) → same_params p q ≡ b → same_params p q ≡ false
    by false h = h
    by true h =
        let vs : the_values q ≡ the_values p = sym (all-same-is (the_values p) (the_values q) h) in
        let fields : read_params names q ≡ fs = ap (map (read names)) vs ∙ e in
        let t : all_equal fs (read_params names q) ≡ true = ap (all_equal fs) fields ∙ equal-self fs in
        absurd (cc)

none-among : (p : Params) (xs : List SeenInstance) (k : ℕ) → ((i : ℕ) (x : SeenInstance) → slice_get xs i ≡ Some x → same_params p x.params ≡ false) → place_among p xs k ≡ None
none-among p [] k h = refl
none-among p (x ∷ xs) k h =
    ap (λ (b : Bool). let o : Option ℕ = if b then Some k else place_among p xs (k + 1) in o) (h 0 x refl)
    ∙ none-among p xs (k + 1) (λ i y e. h (suc i) y e)

pub absent-of : (names more : Naming) (s : BoundedStore) (n : ℕ) (fs : List Field) (p : Params) → IsUnseen names s n fs → IsHeldBy names more → read_params more p ≡ fs → place_of (bounded_seen s) n p ≡ None
absent-of names more s n fs p h on e = none-among p (instances_seen (bounded_seen s) n) 0 (λ i x at. not-same more fs p x.params e (h i x at more on))

pub within-streams : (s : BoundedStore) (n : ℕ) → n < length (bounded_seen s).layout.streams → n < length (bounded_seen s).streams
within-streams s n lt =
    let a = length-map s.streams.items crowd_layout in
    let b = length-map s.streams.items (crowd_seen s.step) in
    omega (arith, a, b, lt)

-- what a store shows behind the call

module _ (old new : BoundedStore) (n born : ℕ) (p : Params) (within : n < length (bounded_seen old).streams) (seen : bounded_seen new ≡ after_restore (bounded_seen old) n born p) where
  abbrev grown : SeenStream → SeenStream
  grown x = record x { instances = x.instances ++ newborn_seen born p ∷ [] }

  abbrev before : List SeenInstance
  before = instances_seen (bounded_seen old) n

  restored-on : GoesOn old new
  restored-on = record {
    layout = ap (λ (s : Seen). s.layout) seen;
    phase = ap (λ (s : Seen). s.phase) seen;
    steps = ap (λ (s : Seen). s.steps) seen;
    count = ap (λ (s : Seen). length s.streams) seen ∙ changed_length (bounded_seen old).streams n grown;
  }

  stream-is : slice_get (bounded_seen new).streams n ≡ option_map grown (slice_get (bounded_seen old).streams n)
  stream-is = ap (λ (s : Seen). slice_get s.streams n) seen ∙ changed_found (bounded_seen old).streams n grown

  pub instances-are : instances_seen (bounded_seen new) n ≡ before ++ newborn_seen born p ∷ []
  instances-are =
      let x = item_at (bounded_seen old).streams n within in
      ap instances_of stream-is
      ∙ ap (λ (o : Option SeenStream). instances_of (option_map grown o)) x.1
      ∙ ap (λ (o : Option SeenStream). instances_of o ++ newborn_seen born p ∷ []) (sym x.1)

  spawned-still : has_spawned (slice_get (bounded_seen new).streams n) ≡ has_spawned (slice_get (bounded_seen old).streams n)
  spawned-still = ap has_spawned stream-is ∙ same (slice_get (bounded_seen old).streams n)
    where
      same : (o : Option SeenStream) → has_spawned (option_map grown o) ≡ has_spawned o
      same None = refl
      same (Some x) = refl

  pub newborn-at : slice_get (instances_seen (bounded_seen new) n) (length before) ≡ Some (newborn_seen born p)
  newborn-at = ap (λ (l : List SeenInstance). slice_get l (length before)) instances-are ∙ got_last before (newborn_seen born p)

  pub restored-blank : ((names : Naming) → bounded_remembers new names n (length before) []) → IsBlank new n (length before)
  restored-blank none = record { silent = record { x = newborn_seen born p; at = newborn-at; silent = refl }; none = none }

  pub restored-birth : has_spawned (slice_get (bounded_seen old).streams n) ≡ true → ((m j : ℕ) (y : Holdings) → instance_at old m j ≡ Some y → instance_at new m j ≡ Some y) → HasBirth n old new
  restored-birth over others = record {
    stream = record {
      on = restored-on;
      shown = λ m d. ap (λ (s : Seen). slice_get s.streams m) seen ∙ changed_else (bounded_seen old).streams n m grown d;
      others = λ m j d y e. others m j y e;
    };
    count = ap length instances-are ∙ length-append before (newborn_seen born p ∷ []);
    shown = λ i lt. let x = item_at before i lt in ap (λ (l : List SeenInstance). slice_get l i) instances-are ∙ got_before before (newborn_seen born p) i x.0 x.1 ∙ sym x.1;
    others = λ i lt y e. others n i y e;
    over = spawned-still ∙ over;
  }

-- then the newborn instance is loaded

pub birth-on : (a b c : BoundedStore) (n i : ℕ) → HasBirth n a b → i ≡ length (instances_seen (bounded_seen a) n) → ChangesOne n i b c → HasBirth n a c
birth-on a b c n i h at g =
    let same : instances_seen (bounded_seen c) n ≡ instances_seen (bounded_seen b) n = ap (λ (s : Seen). instances_seen s n) g.seen in
    record {
      stream = stream-on n a b c h.stream (stream-one n i b c g);
      count = ap length same ∙ h.count;
      shown = λ j lt. ap (λ (l : List SeenInstance). slice_get l j) same ∙ h.shown j lt;
      others = λ j lt y e. g.others n j (λ p q. absurd (omega (arith, q, at, lt))) ∙ h.others j lt y e;
      over = ap (λ (s : Seen). has_spawned (slice_get s.streams n)) g.seen ∙ h.over;
    }

-- what it shows

pub newborn-is : (names : Naming) (form : StreamForm) (saved : SavedInstance) (p : Params) (born : ℕ) (ks : List Kind) → AreNamed names ks saved.params p → is_some saved.born ≡ true → born ≡ unwrap_or saved.born 0 → IsNewborn names form (newborn_seen born p) saved
newborn-is names form saved p born ks named some e = record { params = named.reads; held = named.held; born = λ s. by saved.born refl some }
  where
    by : (o : Option ℕ) → saved.born ≡ o → is_some o ≡ true → saved.born ≡ Some born
    by None at h = absurd (cc)
    by (Some b) at h = at ∙ ap Some (sym (e ∙ ap (λ (o : Option ℕ). unwrap_or o 0) at))
