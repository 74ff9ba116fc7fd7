-- What is read of an instance, from what its stream says.
use Rattle.std.proofs.Common.{◌≡◌, ◌∙◌, ℕ, List, MatchOption, Option, Some, None, ap, slice_get, subst, sym}
use Rattle.lola_buffer.specs.Kept.{before_newest}
use Rattle.lola_model.specs.Store.{target_of}
use Rattle.lola_model.specs.declared.spec.WindowSpec.{WindowSpec}
use Rattle.lola_panes.specs.Standing.{Partials}
use Rattle.lola_value.specs.declared.value.Value.{Value}
use Rattle.lola_instances_one.specs.Holdings.{Holdings}
use Rattle.lola_instances_stream.specs.Crowds.{Crowd}
use Rattle.lola_instances.specs.Saved.{partials_of}
use Rattle.lola_instances.specs.Streams.{slot_at, slots_in, values_of}

value_in : (o : Option Holdings) (k : ℕ) (r : Option Value) → MatchOption o ⊥ (λ s. r ≡ before_newest k s.ring.values) → r ≡ before_newest k (values_of o)
value_in None k r h = absurd h
value_in (Some s) k r h = h

-- a value of an instance of a stream
pub value_from : (cs : List Crowd) (n i k : ℕ) (c : Crowd) (r : Option Value) → slice_get cs n ≡ Some c → MatchOption (slice_get c.slots i) ⊥ (λ s. r ≡ before_newest k s.ring.values)
    → r ≡ before_newest k (values_of (slot_at cs n i))
value_from cs n i k c r e h =
    value_in (slot_at cs n i) k r (subst (λ (o : Option Crowd). MatchOption (slice_get (slots_in o) i) ⊥ (λ (s : Holdings). r ≡ before_newest k s.ring.values)) (sym e) h)

-- the panes of a window onto an instance of its target

module _ (cs : List Crowd) (ws : List WindowSpec) (places : List ℕ) (w i : ℕ) (spec : WindowSpec) (k : ℕ) (c : Crowd)
    (is_spec : slice_get ws w ≡ Some spec) (is_place : slice_get places w ≡ Some k) (is_crowd : slice_get cs spec.target ≡ Some c) where
  panes_are : partials_of (slot_at cs (target_of (slice_get ws w)) i) (slice_get places w) ≡ partials_of (slice_get c.slots i) (Some k)
  panes_are =
      ap (λ (o : Option WindowSpec). partials_of (slot_at cs (target_of o) i) (slice_get places w)) is_spec
      ∙ (ap (λ (o : Option Crowd). partials_of (slice_get (slots_in o) i) (slice_get places w)) is_crowd ∙ ap (partials_of (slice_get c.slots i)) is_place)

  module _ (P : Partials → Type 0) where
    of_slot : (o : Option Holdings) → MatchOption o ⊥ (λ s. MatchOption (slice_get s.panes k) ⊥ P) → MatchOption (partials_of o (Some k)) ⊥ P
    of_slot None h = absurd h
    of_slot (Some s) h = h

    in_slot : (o : Option Holdings) → MatchOption (partials_of o (Some k)) ⊥ P → MatchOption o ⊥ (λ s. MatchOption (slice_get s.panes k) ⊥ P)
    in_slot None h = absurd h
    in_slot (Some s) h = h

    pub panes_told : MatchOption (slice_get c.slots i) ⊥ (λ s. MatchOption (slice_get s.panes k) ⊥ P) → MatchOption (partials_of (slot_at cs (target_of (slice_get ws w)) i) (slice_get places w)) ⊥ P
    panes_told h = subst (λ (o : Option Partials). MatchOption o ⊥ P) (sym panes_are) (of_slot (slice_get c.slots i) h)

    pub panes_asked : MatchOption (partials_of (slot_at cs (target_of (slice_get ws w)) i) (slice_get places w)) ⊥ P → MatchOption (slice_get c.slots i) ⊥ (λ s. MatchOption (slice_get s.panes k) ⊥ P)
    panes_asked h = in_slot (slice_get c.slots i) (subst (λ (o : Option Partials). MatchOption o ⊥ P) panes_are h)
