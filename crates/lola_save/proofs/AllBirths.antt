-- All instances of a stream, and all streams.
use Rattle.std.proofs.Common.{◌≡◌, ℕ, zero, suc, ◌+◌, ◌<◌, ◌≤◌, List, [], ◌∷◌, length, map, refl, subst, ap, sym, ◌∙◌, arith, Bool, true, false, ◌||◌, Option, Some, None, slice_get, nat_eq, is_some}
use Rattle.std.proofs.lemmas.Bool.{eqb-false, eqb-true}
use Rattle.std.proofs.lemmas.Option.{slice_get_within}
use Rattle.lola_value.specs.Arithmetic.{all_equal}
use Rattle.lola_value.specs.Naming.{AreHeld, Naming, read, read_params, the_values}
use Rattle.lola_value.specs.declared.text.Field.{Field}
use Rattle.lola_value.specs.declared.value.Kind.{Kind}
use Rattle.lola_model.specs.Reading.{IsHeldBy}
use Rattle.lola_model.specs.Store.{SeenInstance, has_spawned, instances_seen}
use Rattle.lola_instances_stream.proofs.Outcomes.{item_at}
use Rattle.lola_instances.specs.Stores.{bounded_seen}
use Rattle.lola_instances.specs.declared.store.BoundedStore.{BoundedStore}
use Rattle.lola_save_text.specs.Fitting.{are_values, is_among, time_or}
use Rattle.lola_save_text.specs.Lines.{count_of}
use Rattle.lola_save_text.specs.Validity.{AreInstances, AreStreams, IsBorn, IsInstance, IsStream}
use Rattle.lola_save_text.specs.declared.forms.StreamForm.{StreamForm}
use Rattle.lola_save_text.specs.declared.state.SavedInstance.{SavedInstance}
use Rattle.lola_save_text.specs.declared.state.Times.{Times}
use Rattle.lola_save.specs.Loaded.{AreStreamsLoaded, ChangesStream, GoesOn, HasBirth, IsLoaded, IsNewborn, IsOpen, IsStreamLoaded, IsUnseen}
use Rattle.lola_save.proofs.LoadedStreams.{loaded-stays, on-on, open-stays, stream-on, stream-stays}
use Rattle.lola_save.proofs.StoreSlots.{some-is}

-- how many there are

pub count-long : (is : List SavedInstance) → count_of is ≡ length is
count-long [] = refl
count-long (i ∷ is) = let c = count-long is in omega (arith, c)

-- an instance of a state, and those before it

pub instance-at : (t : Times) (s : StreamForm) (seen : List (List Field)) (low : ℕ) (is : List SavedInstance) → AreInstances t s seen low is → (i : ℕ) (a : SavedInstance) → slice_get is i ≡ Some a → IsInstance t s a
instance-at t s seen low [] h zero a e = absurd (cc)
instance-at t s seen low [] h (suc i) a e = absurd (cc)
instance-at t s seen low (x ∷ is) h zero a e = subst (λ (z : SavedInstance). IsInstance t s z) (some-is e) h.0
instance-at t s seen low (x ∷ is) h (suc i) a e = instance-at t s (x.params ∷ seen) (time_or low x.born) is h.3 i a e

born-of : (s : StreamForm) (low high : ℕ) (o : Option ℕ) → IsBorn s low high o → s.spawns ≡ true → is_some o ≡ true
born-of s low high None h e = absurd (cc)
born-of s low high (Some t) h e = refl

pub born-at : (t : Times) (s : StreamForm) (seen : List (List Field)) (low : ℕ) (is : List SavedInstance) → AreInstances t s seen low is → s.spawns ≡ true → (i : ℕ) (a : SavedInstance) → slice_get is i ≡ Some a → is_some a.born ≡ true
born-at t s seen low [] h p zero a e = absurd (cc)
born-at t s seen low [] h p (suc i) a e = absurd (cc)
born-at t s seen low (x ∷ is) h p zero a e = ap (λ (z : SavedInstance). is_some z.born) (sym (some-is e)) ∙ born-of s low (time_or 0 t.last) x.born h.1 p
born-at t s seen low (x ∷ is) h p (suc i) a e = born-at t s (x.params ∷ seen) (time_or low x.born) is h.3 p i a e

-- parameters are not those of an instance before

neither : (a b : Bool) → (a || b) ≡ false → (a ≡ false) × (b ≡ false)
neither true b h = absurd (cc)
neither false b h = (refl, h)

among-at : (fs : List Field) (seen : List (List Field)) (j : ℕ) (gs : List Field) → is_among fs seen ≡ false → slice_get seen j ≡ Some gs → all_equal fs gs ≡ false
among-at fs [] zero gs h e = absurd (cc)
among-at fs [] (suc j) gs h e = absurd (cc)
among-at fs (g ∷ seen) zero gs h e = ap (all_equal fs) (sym (some-is e)) ∙ (neither (all_equal fs g) (is_among fs seen) h).0
among-at fs (g ∷ seen) (suc j) gs h e = among-at fs seen j gs (neither (all_equal fs g) (is_among fs seen) h).1 e

-- those that were seen before are none of these
not-seen : (t : Times) (s : StreamForm) (seen : List (List Field)) (low : ℕ) (is : List SavedInstance) → AreInstances t s seen low is → (j : ℕ) (gs : List Field) → slice_get seen j ≡ Some gs
    → (i : ℕ) (a : SavedInstance) → slice_get is i ≡ Some a → all_equal a.params gs ≡ false
not-seen t s seen low [] h j gs f zero a e = absurd (cc)
not-seen t s seen low [] h j gs f (suc i) a e = absurd (cc)
not-seen t s seen low (x ∷ is) h j gs f zero a e = ap (λ (z : SavedInstance). all_equal z.params gs) (sym (some-is e)) ∙ among-at x.params seen j gs h.2 f
not-seen t s seen low (x ∷ is) h j gs f (suc i) a e = not-seen t s (x.params ∷ seen) (time_or low x.born) is h.3 (suc j) gs f i a e

pub apart-at : (t : Times) (s : StreamForm) (seen : List (List Field)) (low : ℕ) (is : List SavedInstance) → AreInstances t s seen low is → (j i : ℕ) (b a : SavedInstance) → j < i → slice_get is j ≡ Some b → slice_get is i ≡ Some a
    → all_equal a.params b.params ≡ false
apart-at t s seen low [] h zero i b a lt f e = absurd (cc)
apart-at t s seen low [] h (suc j) i b a lt f e = absurd (cc)
apart-at t s seen low (x ∷ is) h zero zero b a lt f e = absurd (omega arith)
apart-at t s seen low (x ∷ is) h zero (suc i) b a lt f e =
    not-seen t s (x.params ∷ seen) (time_or low x.born) is h.3 0 b.params (ap (λ (z : SavedInstance). let o : Option (List Field) = Some z.params in o) (some-is f)) i a e
apart-at t s seen low (x ∷ is) h (suc j) zero b a lt f e = absurd (omega arith)
apart-at t s seen low (x ∷ is) h (suc j) (suc i) b a lt f e = apart-at t s (x.params ∷ seen) (time_or low x.born) is h.3 j i b a (omega arith) f e

-- the instances so far

pub record AreBornTo (times : Times) (names : Naming) (old s : BoundedStore) (n : ℕ) (form : StreamForm) (is : List SavedInstance) (to : ℕ) : Type 0 where
  pub stream : ChangesStream n old s
  pub count : length (instances_seen (bounded_seen s) n) ≡ to
  pub over : has_spawned (slice_get (bounded_seen s).streams n) ≡ true
  pub each : (i : ℕ) (a : SavedInstance) → i < to → slice_get is i ≡ Some a → IsLoaded times names s n i form a

module _ (times : Times) (form : StreamForm) (is : List SavedInstance) (n : ℕ) where
  pub unseen-at : (t : Times) (names : Naming) (old s : BoundedStore) (to : ℕ) (a : SavedInstance) → AreInstances t form [] (time_or 0 t.start) is → slice_get is to ≡ Some a → AreBornTo times names old s n form is to → IsUnseen names s n a.params
  unseen-at t names old s to a valid e h i x at more on =
      let lt : i < to = let c = h.count in let w = slice_get_within (instances_seen (bounded_seen s) n) i x at in omega (arith, c, w) in
      let b = item_at is i (let w = slice_get_within is to a e in omega (arith, lt, w)) in
      let l = h.each i b.0 lt b.1 in
      let r = l.restored more on in
      let same : l.x ≡ x = some-is (sym l.at ∙ at) in
      ap (all_equal a.params) (ap (λ (y : SeenInstance). read_params more y.params) (sym same) ∙ r.params) ∙ apart-at t form [] (time_or 0 t.start) is valid i to b.0 a lt b.1 e

  pub born-more : (names more : Naming) (old s new : BoundedStore) (to : ℕ) (a : SavedInstance) → slice_get is to ≡ Some a → IsHeldBy names more → HasBirth n s new → IsLoaded times more new n (length (instances_seen (bounded_seen s) n)) form a
      → AreBornTo times names old s n form is to → AreBornTo times more old new n form is (to + 1)
  born-more names more old s new to a e held birth loaded h = record {
    stream = stream-on n old s new h.stream birth.stream;
    count = let c = h.count in let b = birth.count in omega (arith, c, b);
    over = birth.over;
    each = each;
  }
    where
      each : (i : ℕ) (b : SavedInstance) → i < to + 1 → slice_get is i ≡ Some b → IsLoaded times more new n i form b
      each i b lt f =
          (elim (nat_eq i to) as (λ q. nat_eq i to ≡ q → IsLoaded times more new n i form b) [
            | true ↦ λ q.
                let at = eqb-true i to q in
                let same : a ≡ b = some-is (sym e ∙ ap (slice_get is) (sym at) ∙ f) in
                let place : length (instances_seen (bounded_seen s) n) ≡ i = h.count ∙ sym at in
                subst (λ t. t) (λ j. IsLoaded times more new n (place j) form (same j)) loaded
            | false ↦ λ q.
                let d = eqb-false i to q in
                let less : i < to = omega (arith, lt, d) in
                let within : i < length (instances_seen (bounded_seen s) n) = let c = h.count in omega (arith, less, c) in
                loaded-stays times names more s new n i form b birth.stream.on (birth.shown i within) (birth.others i within) held (h.each i b less f)
          ]) refl

  pub born-none : (names : Naming) (s : BoundedStore) → instances_seen (bounded_seen s) n ≡ [] → has_spawned (slice_get (bounded_seen s).streams n) ≡ true → ChangesStream n s s → AreBornTo times names s s n form is 0
  born-none names s none over same = record { stream = same; count = ap length none; over = over; each = λ i a lt e. absurd (omega (arith, lt)) }

  pub born-all : (names : Naming) (old s : BoundedStore) (to : ℕ) → to ≡ length is → AreBornTo times names old s n form is to → IsStreamLoaded times names s n form is
  born-all names old s to e h = record { count = h.count ∙ e; each = λ i a f. h.each i a (let w = slice_get_within is i a f in omega (arith, e, w)) f }

-- the one instance of a stream without a spawn clause

pub no-values : (fs : List Field) → are_values [] fs ≡ true → fs ≡ []
no-values [] h = refl
no-values (f ∷ fs) h = absurd (cc)

pub plain-newborn : (names : Naming) (t : Times) (form : StreamForm) (x : SeenInstance) (a : SavedInstance) → form.spawns ≡ false → form.parameters ≡ [] → IsInstance t form a → the_values x.params ≡ [] → IsNewborn names form x a
plain-newborn names t form x a plain none valid e =
    let fields : a.params ≡ [] = no-values a.params (ap (λ (ks : List Kind). are_values ks a.params) (sym none) ∙ valid.params) in
    record {
      params = ap (λ vs. map (read names) vs) e ∙ sym fields;
      held = subst (λ vs. AreHeld names vs) (sym e) tt;
      born = λ s. let no : true ≡ false = sym s ∙ plain in absurd (cc);
    }

pub plain-loaded : (times : Times) (names : Naming) (s : BoundedStore) (n : ℕ) (form : StreamForm) (is : List SavedInstance) (a : SavedInstance) → length (instances_seen (bounded_seen s) n) ≡ 1 → length is ≡ 1 → slice_get is 0 ≡ Some a
    → IsLoaded times names s n 0 form a → IsStreamLoaded times names s n form is
plain-loaded times names s n form is a one many e h = record { count = one ∙ sym many; each = each }
  where
    each : (i : ℕ) (b : SavedInstance) → slice_get is i ≡ Some b → IsLoaded times names s n i form b
    each zero b f = let same : a ≡ b = some-is (sym e ∙ f) in subst (λ (z : SavedInstance). IsLoaded times names s n 0 form z) same h
    each (suc i) b f = absurd (let w = slice_get_within is (suc i) b f in omega (arith, w, many))

-- streams of a state

pub streams-at : (t : Times) (forms : List StreamForm) (iss : List (List SavedInstance)) → AreStreams t forms iss → (n : ℕ) (form : StreamForm) (is : List SavedInstance) → slice_get forms n ≡ Some form → slice_get iss n ≡ Some is → IsStream t form is
streams-at t [] [] h zero form is e f = absurd (cc)
streams-at t [] [] h (suc n) form is e f = absurd (cc)
streams-at t [] (x ∷ iss) h n form is e f = absurd h
streams-at t (s ∷ ss) [] h n form is e f = absurd h
streams-at t (s ∷ ss) (x ∷ iss) h zero form is e f =
    let a : s ≡ form = some-is e in
    let b : x ≡ is = some-is f in
    subst (λ z. z) (λ j. IsStream t (a j) (b j)) h.0
streams-at t (s ∷ ss) (x ∷ iss) h (suc n) form is e f = streams-at t ss iss h.1 n form is e f

pub streams-long : (t : Times) (forms : List StreamForm) (iss : List (List SavedInstance)) → AreStreams t forms iss → length iss ≡ length forms
streams-long t [] [] h = refl
streams-long t [] (x ∷ iss) h = absurd h
streams-long t (s ∷ ss) [] h = absurd h
streams-long t (s ∷ ss) (x ∷ iss) h = ap suc (streams-long t ss iss h.1)

-- the streams so far

pub record AreStreamsTo (times : Times) (names : Naming) (old s : BoundedStore) (forms : List StreamForm) (iss : List (List SavedInstance)) (to : ℕ) : Type 0 where
  pub on : GoesOn old s
  pub done : (n : ℕ) (form : StreamForm) (is : List SavedInstance) → n < to → slice_get forms n ≡ Some form → slice_get iss n ≡ Some is → IsStreamLoaded times names s n form is
  pub left : (n : ℕ) (form : StreamForm) → to ≤ n → slice_get forms n ≡ Some form → IsOpen s n form.spawns

module _ (times : Times) (forms : List StreamForm) (iss : List (List SavedInstance)) where
  pub streams-more : (names more : Naming) (old s new : BoundedStore) (to : ℕ) (form : StreamForm) (is : List SavedInstance) → slice_get forms to ≡ Some form → slice_get iss to ≡ Some is → IsHeldBy names more → ChangesStream to s new
      → IsStreamLoaded times more new to form is → AreStreamsTo times names old s forms iss to → AreStreamsTo times more old new forms iss (to + 1)
  streams-more names more old s new to form is e f held changed loaded h = record {
    on = on-on old s new h.on changed.on;
    done = done;
    left = λ n g le at. open-stays s new to n g.spawns changed (λ q. absurd (omega (arith, q, le))) (h.left n g (omega (arith, le)) at);
  }
    where
      done : (n : ℕ) (g : StreamForm) (bs : List SavedInstance) → n < to + 1 → slice_get forms n ≡ Some g → slice_get iss n ≡ Some bs → IsStreamLoaded times more new n g bs
      done n g bs lt a b =
          (elim (nat_eq n to) as (λ q. nat_eq n to ≡ q → IsStreamLoaded times more new n g bs) [
            | true ↦ λ q.
                let at = eqb-true n to q in
                let same : form ≡ g = some-is (sym e ∙ ap (slice_get forms) (sym at) ∙ a) in
                let those : is ≡ bs = some-is (sym f ∙ ap (slice_get iss) (sym at) ∙ b) in
                subst (λ z. z) (λ j. IsStreamLoaded times more new (sym at j) (same j) (those j)) loaded
            | false ↦ λ q.
                let d = eqb-false n to q in
                stream-stays times names more s new to n g bs changed d held (h.done n g bs (omega (arith, lt, d)) a b)
          ]) refl

  pub streams-all : (names : Naming) (old s : BoundedStore) (to : ℕ) → length forms ≤ to → length iss ≡ length forms → AreStreamsTo times names old s forms iss to → AreStreamsLoaded times names s forms iss
  streams-all names old s to le long h = record { count = long; each = λ n form is e f. h.done n form is (let w = slice_get_within forms n form e in omega (arith, w, le)) e f }
