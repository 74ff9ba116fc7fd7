-- What the shapes of named streams say of their clauses.
use Rattle.std.proofs.Common.{◌≡◌, refl, ap, ◌∙◌, sym, ℕ, zero, suc, List, [], ◌∷◌, Option, Some, None, Bool, true, false, not, ◌&&◌, ◌||◌, nat_eq, slice_get, length}
use Rattle.std.proofs.lemmas.Bool.{and_parts}
use Rattle.lola_model.specs.Model.{is_input}
use Rattle.lola_model.specs.Named.{has_clause, has_when, has_kind, is_of_bool, count_with, is_input_shape, is_output_shape, is_trigger_shape, is_well_shaped, all_streams}
use Rattle.lola_model.specs.declared.spec.Clause.{Clause}
use Rattle.lola_model.specs.declared.spec.Sort.{Sort}
use Rattle.lola_model.specs.declared.spec.Sort.TheVariants as sort
use Rattle.lola_model.specs.declared.spec.Stream.{Stream}

-- what all streams pass, each does
pub passes_at : (f : Stream → Bool) (ss : List Stream) (n : ℕ) (s : Stream) → all_streams f ss ≡ true → slice_get ss n ≡ Some s → f s ≡ true
passes_at f [] n s h e = absurd (cc)
passes_at f (r ∷ ss) zero s h e = let p : r ≡ s = cc in rw (← p) (and_parts (f r) (all_streams f ss) h).0
passes_at f (r ∷ ss) (suc n) s h e = passes_at f ss n s (and_parts (f r) (all_streams f ss) h).1 e

no_clause : (k : Option Clause) → not (has_clause k) ≡ true → k ≡ None
no_clause None h = refl
no_clause (Some c) h = absurd (cc)

abbrev shape_of : Stream → Sort → Bool
shape_of s t = elim t [ sort.Input ↦ is_input_shape s | sort.Output ↦ is_output_shape s | sort.Trigger ↦ is_trigger_shape s ]

abbrev input_of : Sort → Bool
input_of t = elim t [ sort.Input ↦ true | sort.Output ↦ false | sort.Trigger ↦ false ]

bare_input : (s : Stream) → is_input_shape s ≡ true → (s.spawn ≡ None) × (s.close ≡ None)
bare_input s h =
    let a = (and_parts (has_kind s.kind) _ h).1 in
    let b = (and_parts (nat_eq (length s.parameters) 0) _ a).1 in
    let c = and_parts (not (has_clause s.spawn)) _ b in
    (no_clause s.spawn c.0, no_clause s.close (and_parts (not (has_clause s.eval)) _ c.1).1)

bare_trigger : (s : Stream) → is_trigger_shape s ≡ true → s.close ≡ None
bare_trigger s h =
    let a = (and_parts (is_of_bool s.kind) _ h).1 in
    let b = (and_parts (nat_eq (count_with s.eval) 1) _ a).1 in
    let c = (and_parts (not (has_when s.eval)) _ b).1 in
    let d = (and_parts (nat_eq (length s.parameters) 0) _ c).1 in
    no_clause s.close (and_parts (not (has_clause s.spawn)) _ d).1

not_closed : (a b c : Bool) → (not a || (b && c)) ≡ true → c ≡ false → not a ≡ true
not_closed true true c h e = absurd (cc)
not_closed true false c h e = absurd (cc)
not_closed false b c h e = refl

bare_output : (s : Stream) → is_output_shape s ≡ true → s.spawn ≡ None → s.close ≡ None
bare_output s h e =
    let a = (and_parts (nat_eq (count_with s.eval) 1) _ h).1 in
    let b = (and_parts (nat_eq (count_with s.spawn) (length s.parameters)) _ a).1 in
    let c = (and_parts (not (has_clause s.close) || (has_when s.close && has_clause s.spawn)) _ b).0 in
    no_clause s.close (not_closed (has_clause s.close) (has_when s.close) (has_clause s.spawn) c (ap has_clause e))

-- an input has no spawn clause
pub input_never_spawns : (s : Stream) → is_well_shaped s ≡ true → is_input s ≡ true → s.spawn ≡ None
input_never_spawns s h i = by_sort s.sort refl
  where
    by_sort : (t : Sort) → s.sort ≡ t → s.spawn ≡ None
    by_sort sort.Input e = (bare_input s (sym (ap (shape_of s) e) ∙ h)).0
    by_sort sort.Output e = let f : is_input s ≡ false = ap input_of e in absurd (cc)
    by_sort sort.Trigger e = let f : is_input s ≡ false = ap input_of e in absurd (cc)

-- without a spawn clause there is no close clause
pub never_closes : (s : Stream) → is_well_shaped s ≡ true → s.spawn ≡ None → s.close ≡ None
never_closes s h n = by_sort s.sort refl
  where
    by_sort : (t : Sort) → s.sort ≡ t → s.close ≡ None
    by_sort sort.Input e = (bare_input s (sym (ap (shape_of s) e) ∙ h)).1
    by_sort sort.Output e = bare_output s (sym (ap (shape_of s) e) ∙ h) n
    by_sort sort.Trigger e = bare_trigger s (sym (ap (shape_of s) e) ∙ h)
