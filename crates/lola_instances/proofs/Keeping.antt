-- How much is kept of an instance, from what its stream says.
use Rattle.std.proofs.Common.{◌≡◌, ◌∙◌, ℕ, List, MatchOption, Option, Some, None, ap, length, slice_get, subst, sym}
use Rattle.lola_model.specs.Store.{target_of}
use Rattle.lola_model.specs.declared.spec.WindowSpec.{WindowSpec}
use Rattle.lola_panes.specs.Standing.{Partials}
use Rattle.lola_instances_one.specs.Holdings.{Holdings}
use Rattle.lola_instances_stream.specs.Crowds.{Crowd}
use Rattle.lola_instances.specs.Streams.{panes_in, panes_of, slot_at, slots_in, values_of}

values_counted : (o : Option Holdings) (r : ℕ) → MatchOption o ⊥ (λ s. r ≡ length s.ring.values) → r ≡ length (values_of o)
values_counted None r h = absurd h
values_counted (Some s) r h = h

-- the values of an instance of a stream
pub values_from : (cs : List Crowd) (n i : ℕ) (c : Crowd) (r : ℕ) → slice_get cs n ≡ Some c → MatchOption (slice_get c.slots i) ⊥ (λ s. r ≡ length s.ring.values)
    → r ≡ length (values_of (slot_at cs n i))
values_from cs n i c r e h =
    values_counted (slot_at cs n i) r (subst (λ (o : Option Crowd). MatchOption (slice_get (slots_in o) i) ⊥ (λ (s : Holdings). r ≡ length s.ring.values)) (sym e) h)

panes_counted : (o : Option Partials) (r : ℕ) → MatchOption o ⊥ (λ p. r ≡ length p.panes) → r ≡ length (panes_in o)
panes_counted None r h = absurd h
panes_counted (Some p) r h = h

of_instance : (o : Option Holdings) (k r : ℕ) → MatchOption o ⊥ (λ s. MatchOption (slice_get s.panes k) ⊥ (λ p. r ≡ length p.panes)) → r ≡ length (panes_of o (Some k))
of_instance None k r h = absurd h
of_instance (Some s) k r h = panes_counted (slice_get s.panes k) r h

-- the panes of a window onto an instance of its target
pub panes_from : (cs : List Crowd) (ws : List WindowSpec) (places : List ℕ) (w i : ℕ) (spec : WindowSpec) (k : ℕ) (c : Crowd) (r : ℕ)
    → slice_get ws w ≡ Some spec → slice_get places w ≡ Some k → slice_get cs spec.target ≡ Some c
    → MatchOption (slice_get c.slots i) ⊥ (λ s. MatchOption (slice_get s.panes k) ⊥ (λ p. r ≡ length p.panes))
    → r ≡ length (panes_of (slot_at cs (target_of (slice_get ws w)) i) (slice_get places w))
panes_from cs ws places w i spec k c r is_spec is_place is_crowd h =
    let at : slot_at cs (target_of (slice_get ws w)) i ≡ slice_get c.slots i =
    ap (λ (o : Option WindowSpec). slot_at cs (target_of o) i) is_spec ∙ ap (λ (o : Option Crowd). slice_get (slots_in o) i) is_crowd in
    subst (λ (o : Option Holdings). r ≡ length (panes_of o (slice_get places w))) (sym at)
    (subst (λ (o : Option ℕ). r ≡ length (panes_of (slice_get c.slots i) o)) (sym is_place) (of_instance (slice_get c.slots i) k r h))
