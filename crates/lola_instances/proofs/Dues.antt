-- The first deadline of the streams of a store, and the places of those that are at a moment.
use Rattle.std.proofs.Common.{◌≡◌, ℕ, ◌+◌, ◌≤◌, ◌<◌, List, [], ◌∷◌, length, map, drop, get_or, drop-cons, add-one, refl, ap, sym, ◌∙◌, Option, Some, slice_get, if◌then◌else◌}
use Rattle.std.proofs.lemmas.List.{drop_all}
use Rattle.lola_value.specs.Ratio.{Ratio}
use Rattle.lola_model.specs.Dues.{due_among, due_from, due_in, due_places, is_due, locals_of}
use Rattle.lola_model.specs.NextStep.{earlier, first_due}
use Rattle.lola_model.specs.Store.{instances_of}
use Rattle.lola_instances_one.specs.Holdings.{Holdings, slot_seen}
use Rattle.lola_instances_one.specs.Dues.{due_births}
use Rattle.lola_instances_stream.specs.Births.{births_of}
use Rattle.lola_instances_stream.specs.Crowds.{Crowd, crowd_seen}
use Rattle.lola_instances_stream.specs.Dues.{due_at_births, due_since, in_time}
use Rattle.lola_instances_stream.proofs.Dues.{earlier_none, earlier_assoc, earlier_in_time}
use Rattle.lola_instances.specs.declared.store.BoundedStore.{BoundedStore}
use Rattle.lola_instances.specs.Dues.{due_of_crowds}
use Rattle.lola_instances.specs.Stores.{bounded_seen}
use Rattle.lola_instances.specs.Streams.{crowd_layout}
use Rattle.lola_instances.proofs.Asking.{layout_at, stream_at}

-- what a store shows has the same deadlines

due_shown : (step : ℕ) (rates : List Ratio) (from : ℕ) (ss : List Holdings) → due_since rates from (births_of ss) ≡ due_among rates from (map (slot_seen step) ss)
due_shown step rates from [] = refl
due_shown step rates from (s ∷ ss) = ap (earlier (first_due s.born rates from)) (due_shown step rates from ss)

pub dues_shown : (step from : ℕ) (cs : List Crowd) → due_of_crowds from cs ≡ due_in from (map crowd_layout cs) (map (crowd_seen step) cs)
dues_shown step from [] = refl
dues_shown step from (c ∷ cs) = λ j. earlier (due_shown step c.layout.locals from c.slots j) (dues_shown step from cs j)

places_from : (step : ℕ) (rates : List Ratio) (time i : ℕ) (ss : List Holdings) → due_births rates time i (births_of ss) ≡ due_from rates time i (map (slot_seen step) ss)
places_from step rates time i [] = refl
places_from step rates time i (s ∷ ss) = ap (λ ps. if is_due rates s.born time then i ∷ ps else ps) (places_from step rates time (i + 1) ss)

pub places_shown : (s : BoundedStore) (n time : ℕ) (c : Crowd) → slice_get s.streams.items n ≡ Some c → due_at_births c.layout.locals time (births_of c.slots) ≡ due_places (bounded_seen s) n time
places_shown s n time c e =
    places_from s.step c.layout.locals time 0 c.slots
    ∙ λ j. due_from (locals_of (sym (layout_at s.streams.items n c e) j)) time 0 (instances_of (sym (stream_at s.step s.streams.items n c e) j))

-- one stream after another

pub next_stream : (from : ℕ) (first mine : Option ℕ) (cs : List Crowd) (i : ℕ) (c : Crowd) → i < length cs → c ≡ get_or cs i c → mine ≡ in_time (due_since c.layout.locals from (births_of c.slots))
    → earlier (earlier first mine) (in_time (due_of_crowds from (drop (i + 1) cs))) ≡ earlier first (in_time (due_of_crowds from (drop i cs)))
next_stream from first mine cs i c l at e =
    let later = due_of_crowds from (drop (i + 1) cs) in
    let cut : drop i cs ≡ c ∷ drop (i + 1) cs = drop-cons cs i c l ∙ (λ j. sym at j ∷ drop (sym (add-one i) j) cs) in
    earlier_assoc first mine (in_time later)
    ∙ ap (earlier first)
    (ap (λ m. earlier m (in_time later)) e
    ∙ sym (earlier_in_time (due_since c.layout.locals from (births_of c.slots)) later)
    ∙ ap (λ (xs : List Crowd). in_time (due_of_crowds from xs)) (sym cut))

pub last_stream : (from : ℕ) (cs : List Crowd) (i : ℕ) (first : Option ℕ) → length cs ≤ i → first ≡ earlier first (in_time (due_of_crowds from (drop i cs)))
last_stream from cs i first l = sym (ap (λ (xs : List Crowd). earlier first (in_time (due_of_crowds from xs))) (drop_all i cs l) ∙ earlier_none first)
