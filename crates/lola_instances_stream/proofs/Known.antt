-- What is known of cells by their bits and in their table, as they change.
use Rattle.std.proofs.Common.{◌≡◌, ℕ, zero, suc, ◌+◌, ◌≤◌, ◌<◌, ◌⊎◌, inl, inr, Bool, true, false, List, [], ◌∷◌, ◌++◌, length, map, filter, refl, ap, sym, ◌∙◌, subst, arith, Option, Some, None, is_some, slice_get, slice_set, cond, if◌then◌else◌, IsTrue, nat_lt, get_or}
use Rattle.std.proofs.lemmas.Option.{slice_get_within}
use Rattle.std.proofs.lemmas.Bool.{le-leb, false_from_ne_true}
use Rattle.std.specs.Prelude.{replicate}
use Rattle.std.proofs.lemmas.List.{length-append}
use Rattle.lola_instances_one.specs.Bits.{Extends, rank}
use Rattle.lola_instances_one.proofs.Parts.{below_or_not}
use Rattle.lola_value.specs.declared.value.Params.{Params}
use Rattle.lola_value.specs.Kinds.{is_well_formed, same_params}
use Rattle.lola_value.proofs.ParamsLemmas.{same_well_formed}
use Rattle.lola_instances_one.specs.Holdings.{Holdings}
use Rattle.lola_instances_stream.specs.declared.key.Key.{Key}
use Rattle.lola_instances_stream.specs.Cells.{AreKnown, AreFlagged, IsSlotChanged, StandsIn, living}
use Rattle.lola_instances_stream.specs.Changes.{IsChangedAt}
use Rattle.lola_instances_stream.specs.Crowds.{place_in}
use Rattle.lola_instances_stream.specs.Keys.{same_places, places_decide, places_equiv}
use Rattle.lola_instances_stream.specs.Listings.{HasCell, Listing, cell_of, packed}
use Rattle.lola_instances_stream.proofs.Keys.{same_as_itself}
use Rattle.lola_instances_stream.proofs.Lists.{same_set, other_set}
use Rattle.lola_instances_stream.proofs.Taken.{came_from, flagged_change, flagged_clear, flagged_full, flagged_longer, flagged_more, packed_few, packed_full, stands_at, stands_get, stands_one, stands_place, stands_set}

-- a number is another one, or not
same_or_not : (a b : ℕ) → (a ≡ b) ⊎ (a ≡ b → ⊥)
same_or_not a b = elim (below_or_not a b) [
  | inl less ↦ inr (λ e. omega (arith, e))
  | inr more ↦ elim (below_or_not b a) [ inl less ↦ inr (λ e. omega (arith, e)) | inr also ↦ inl (omega arith) ]
]

-- a test that cannot pass does not

some_same : (a b : ℕ) (o : Option ℕ) → o ≡ Some a → o ≡ Some b → a ≡ b
some_same a b o e q = cc

-- a cell that is emptied
module _ (cells : List (Option Holdings)) (cell : ℕ) where
  kept_apart : (c : ℕ) (s : Holdings) → slice_get (slice_set cells cell None) c ≡ Some (Some s) → slice_get cells cell ≡ slice_get cells cell → (gone : Holdings) → slice_get cells cell ≡ Some (Some gone)
      → (c ≡ cell → ⊥) × (slice_get cells c ≡ Some (Some s))
  kept_apart c s e _ gone at = elim (same_or_not c cell) [
    | inl same ↦
        let here : slice_get (slice_set cells cell None) cell ≡ Some None = same_set cells cell (Some gone) None at in
        let there : slice_get (slice_set cells cell None) cell ≡ Some (Some s) = subst (λ k. slice_get (slice_set cells cell None) k ≡ Some (Some s)) same e in
        absurd (cc)
    | inr other ↦ (other, sym (other_set cells cell c None other) ∙ e)
  ]

  pub known_less : (bits : List Bool) (table after : Listing) (gone : Holdings) → slice_get cells cell ≡ Some (Some gone) → AreKnown cells bits table
      → after.is_kept ≡ table.is_kept → (table.is_kept ≡ true → HasCell gone.params None table.entries after.entries)
      → AreKnown (slice_set cells cell None) (slice_set bits cell false) after
  known_less bits table after gone at known kept has = record {
    flagged = flagged_clear cells bits cell known.flagged (slice_get_within cells cell (Some gone) at);
    formed = λ c s e. known.formed c s (kept_apart c s e refl gone at).1;
    listed = λ is c s e.
        let was = sym kept ∙ is in
        let k = kept_apart c s e refl gone at in
        let here = known.listed was cell gone at in
        let there = known.listed was c s k.1 in
        let apart : same_places gone.params s.params ≡ false = false_from_ne_true (same_places gone.params s.params)
        (λ same. let p : gone.params ≡ s.params = (places_decide gone.params s.params).0 same in k.0 (some_same c cell (cell_of s.params table.entries) there (subst (λ q. cell_of q table.entries ≡ Some cell) p here))) in
        has was s.params ∙ ap (λ b. cond b None (cell_of s.params table.entries)) apart ∙ there;
  }

-- one more cell
absent_at : (p : Params) (ss : List Holdings) (k : ℕ) → place_in p ss k ≡ None → (i : ℕ) (s : Holdings) → slice_get ss i ≡ Some s → same_params p s.params ≡ false
absent_at p [] k h i s e = absurd (cc)
absent_at p (t ∷ ss) k h i s e = by (same_params p t.params) refl i e (absent_at p ss (k + 1))
  where
    by : (b : Bool) → same_params p t.params ≡ b → (j : ℕ) → slice_get (t ∷ ss) j ≡ Some s → (place_in p ss (k + 1) ≡ None → (i : ℕ) (s : Holdings) → slice_get ss i ≡ Some s → same_params p s.params ≡ false) → same_params p s.params ≡ false
    by true here j at rest = absurd (let f : place_in p (t ∷ ss) k ≡ Some k = ap (λ b. if b then Some k else place_in p ss (k + 1)) here in cc)
    by false here zero at rest = let q : t ≡ s = cc in subst (λ (x : Holdings). same_params p x.params ≡ false) q here
    by false here (suc j) at rest = rest (sym (ap (λ b. if b then Some k else place_in p ss (k + 1)) here) ∙ h) j s at

cell_place : (cs : List (Option Holdings)) (cell : ℕ) (s : Holdings) → slice_get cs cell ≡ Some (Some s) → (place : ℕ) × StandsIn cs cell place s
cell_place [] cell s e = absurd (cc)
cell_place (None ∷ cs) zero s e = absurd (cc)
cell_place (None ∷ cs) (suc cell) s e = cell_place cs cell s e
cell_place (Some x ∷ cs) zero s e = let q : x ≡ s = cc in (zero, q)
cell_place (Some x ∷ cs) (suc cell) s e = let r = cell_place cs cell s e in (suc r.0, r.1)

-- what is in a list with one more is in the list, or is that one
last_or_before : (cs : List (Option Holdings)) (slot : Holdings) (c : ℕ) (s : Holdings) → slice_get (cs ++ Some slot ∷ []) c ≡ Some (Some s) → (slice_get cs c ≡ Some (Some s)) ⊎ ((c ≡ length cs) × (slot ≡ s))
last_or_before [] slot zero s e = let q : slot ≡ s = cc in inr (refl, q)
last_or_before [] slot (suc c) s e = absurd (cc)
last_or_before (x ∷ cs) slot zero s e = inl e
last_or_before (x ∷ cs) slot (suc c) s e = elim (last_or_before cs slot c s e) [ inl at ↦ inl at | inr last ↦ inr (ap suc last.0, last.1) ]

pub known_more : (cells : List (Option Holdings)) (bits : List Bool) (table after : Listing) (slot : Holdings) → IsTrue (is_well_formed slot.params) → AreKnown cells bits table → length cells < length bits
    → place_in slot.params (living cells) 0 ≡ None → after.is_kept ≡ table.is_kept → (table.is_kept ≡ true → HasCell slot.params (Some (length cells)) table.entries after.entries)
    → AreKnown (cells ++ Some slot ∷ []) (slice_set bits (length cells) true) after
known_more cells bits table after slot formed known room absent kept has = record {
  flagged = flagged_more cells bits slot known.flagged room;
  formed = λ c s e. elim (last_or_before cells slot c s e) [
    | inl at ↦ known.formed c s at
    | inr last ↦ subst (λ (x : Holdings). IsTrue (is_well_formed x.params)) last.1 formed
  ];
  listed = λ is c s e.
      let was = sym kept ∙ is in
      elim (last_or_before cells slot c s e) [
        | inl at ↦
            let stands = cell_place cells c s at in
            let other = absent_at slot.params (living cells) 0 absent stands.0 s (stands_place cells c stands.0 s stands.1) in
            let apart : same_places slot.params s.params ≡ false = false_from_ne_true (same_places slot.params s.params)
            (λ same.
            let p : slot.params ≡ s.params = (places_decide slot.params s.params).0 same in
            let own : same_params slot.params s.params ≡ true = subst (λ q. same_params slot.params q ≡ true) p (same_as_itself slot.params) in
            cc) in
            has was s.params ∙ ap (λ b. cond b (Some (length cells)) (cell_of s.params table.entries)) apart ∙ known.listed was c s at
        | inr last ↦
            subst (λ (x : Holdings). cell_of x.params after.entries ≡ Some c) last.1
            (has was slot.params ∙ ap (λ b. cond b (Some (length cells)) (cell_of slot.params table.entries)) (places_equiv.refl slot.params) ∙ ap Some (sym last.0))
      ];
}

-- an instance that changes, and keeps its parameters
module _ (R : Holdings → Holdings → Type 0) (cells after : List (Option Holdings)) (cell : ℕ) (old new : Option Holdings) (h : IsSlotChanged R old new)
    (at : slice_get cells cell ≡ Some old) (set : after ≡ slice_set cells cell new) where
  at_x : slice_get cells cell ≡ Some (Some h.x)
  at_x = at ∙ ap Some h.was

  set_y : after ≡ slice_set cells cell (Some h.y)
  set_y = set ∙ ap (slice_set cells cell) h.is

  same_names : (c : ℕ) (s : Holdings) → slice_get after c ≡ Some (Some s) → (t : Holdings) × (slice_get cells c ≡ Some (Some t)) × (s.params ≡ t.params)
  same_names c s e = elim (same_or_not c cell) [
    | inl same ↦
        let here : slice_get after cell ≡ Some (Some h.y) = ap (λ cs. slice_get cs cell) set_y ∙ same_set cells cell (Some h.x) (Some h.y) at_x in
        let there : slice_get after cell ≡ Some (Some s) = subst (λ k. slice_get after k ≡ Some (Some s)) same e in
        let y : h.y ≡ s = cc in
        (h.x, subst (λ k. slice_get cells k ≡ Some (Some h.x)) (sym same) at_x, subst (λ (z : Holdings). z.params ≡ h.x.params) y h.params)
    | inr other ↦ (s, sym (other_set cells cell c (Some h.y) other) ∙ sym (ap (λ cs. slice_get cs c) set_y) ∙ e, refl)
  ]

  pub known_changed : (bits : List Bool) (table : Listing) → AreKnown cells bits table → AreKnown after bits table
  known_changed bits table known = record {
    flagged = subst (λ cs. AreFlagged cs bits) (sym set_y) (flagged_change cells bits cell h.x h.y known.flagged at_x);
    formed = λ c s e. let t = same_names c s e in subst (λ p. IsTrue (is_well_formed p)) (sym t.2) (known.formed c t.0 t.1);
    listed = λ is c s e. let t = same_names c s e in subst (λ p. cell_of p table.entries ≡ Some c) (sym t.2) (known.listed is c t.0 t.1);
  }

  pub place_changed : (place : ℕ) (s : Holdings) → StandsIn cells cell place s → IsChangedAt R place (living cells) (living after)
  place_changed place s stands =
      let got = stands_get cells cell place s stands in
      let x : s ≡ h.x = (let e = at_x in cc) in
      record {
        x = h.x;
        y = h.y;
        at = stands_place cells cell place s stands ∙ ap Some x;
        set = ap living set_y ∙ stands_set cells cell place s h.y stands;
        related = h.related;
      }

-- more bits, which are not set
pub known_longer : (cells : List (Option Holdings)) (bits more : List Bool) (table : Listing) → AreKnown cells bits table → Extends bits more → AreKnown cells more table
known_longer cells bits more table known e = record {
  flagged = subst (AreFlagged cells) (sym e.bits) (flagged_longer cells bits e.more known.flagged);
  formed = known.formed;
  listed = known.listed;
}

pub long_longer : (bits more : List Bool) → Extends bits more → length bits ≤ length more
long_longer bits more e = let n = ap length e.bits in let k = length-append bits (replicate e.more false) in omega arith

-- cells that move together
moved_entries : (bits : List Bool) (p : Params) (entries : List (Key × ℕ)) (c : ℕ) → cell_of p entries ≡ Some c → cell_of p (map (λ e. (e.0, packed bits e.1)) entries) ≡ Some (packed bits c)
moved_entries bits p [] c h = absurd (cc)
moved_entries bits p (e ∷ es) c h = by (same_places p e.0.0) refl (moved_entries bits p es c)
  where
    by : (b : Bool) → same_places p e.0.0 ≡ b → (cell_of p es ≡ Some c → cell_of p (map (λ f. (f.0, packed bits f.1)) es) ≡ Some (packed bits c)) → cond (same_places p e.0.0) (Some (packed bits e.1)) (cell_of p (map (λ f. (f.0, packed bits f.1)) es)) ≡ Some (packed bits c)
    by true here rest =
        let was : Some e.1 ≡ Some c = sym (ap (λ b. cond b (Some e.1) (cell_of p es)) here) ∙ h in
        let same : e.1 ≡ c = cc in
        ap (λ b. cond b (Some (packed bits e.1)) (cell_of p (map (λ f. (f.0, packed bits f.1)) es))) here ∙ ap (λ n. Some (packed bits n)) same
    by false here rest =
        ap (λ b. cond b (Some (packed bits e.1)) (cell_of p (map (λ f. (f.0, packed bits f.1)) es))) here ∙ rest (sym (ap (λ b. cond b (Some e.1) (cell_of p es)) here) ∙ h)

pub known_packed : (cells : List (Option Holdings)) (bits after_bits : List Bool) (table after : Listing) → AreKnown cells bits table → after.is_kept ≡ table.is_kept
    → (table.is_kept ≡ true → after.entries ≡ map (λ e. (e.0, packed bits e.1)) table.entries)
    → length cells ≤ length after_bits → ((i : ℕ) → i < length after_bits → get_or after_bits i false ≡ nat_lt i (length (filter is_some cells)))
    → AreKnown (filter is_some cells) after_bits after
known_packed cells bits after_bits table after known kept entries room front =
    let full = packed_full cells in
    let few = packed_few cells in
    record {
      flagged = flagged_full (filter is_some cells) after_bits (omega arith) (omega arith) front;
      formed = λ c s e. let from = came_from cells bits known.flagged c s e in known.formed from.cell s from.at;
      listed = λ is c s e.
          let was = sym kept ∙ is in
          let from = came_from cells bits known.flagged c s e in
          let there = moved_entries bits s.params table.entries from.cell (known.listed was from.cell s from.at) in
          let moves : packed bits from.cell ≡ c = ap (λ b. if b then rank bits from.cell else from.cell) (le-leb from.cell (length bits) from.within) ∙ from.moves in
          ap (cell_of s.params) (entries was) ∙ there ∙ ap Some moves;
    }

-- where an instance is found
none_in : (p : Params) (ss : List Holdings) (k : ℕ) → ((i : ℕ) (s : Holdings) → slice_get ss i ≡ Some s → same_params p s.params ≡ false) → place_in p ss k ≡ None
none_in p [] k h = refl
none_in p (s ∷ ss) k h = ap (λ b. if b then Some k else place_in p ss (k + 1)) (h 0 s refl) ∙ none_in p ss (k + 1) (λ i t e. h (suc i) t e)

one_in : (p : Params) (ss : List Holdings) (k i : ℕ) (s : Holdings) → slice_get ss i ≡ Some s → same_params p s.params ≡ true → ((j : ℕ) (t : Holdings) → slice_get ss j ≡ Some t → same_params p t.params ≡ true → j ≡ i)
    → place_in p ss k ≡ Some (k + i)
one_in p [] k i s e same only = absurd (cc)
one_in p (t ∷ ss) k zero s e same only =
    let q : t ≡ s = cc in
    let here : same_params p t.params ≡ true = subst (λ (x : Holdings). same_params p x.params ≡ true) (sym q) same in
    let n : k ≡ k + 0 = omega arith in
    ap (λ b. if b then Some k else place_in p ss (k + 1)) here ∙ ap Some n
one_in p (t ∷ ss) k (suc i) s e same only =
    let apart : same_params p t.params ≡ false = false_from_ne_true (same_params p t.params) (λ here. let z : 0 ≡ suc i = only 0 t refl here in omega arith) in
    let n : k + 1 + i ≡ k + suc i = omega arith in
    ap (λ b. if b then Some k else place_in p ss (k + 1)) apart ∙ one_in p ss (k + 1) i s e same (λ j u at is. let z = only (suc j) u at is in omega arith) ∙ ap Some n

-- by a table
module _ (cells : List (Option Holdings)) (bits : List Bool) (table : Listing) (known : AreKnown cells bits table) (kept : table.is_kept ≡ true) (p : Params) (formed : IsTrue (is_well_formed p)) where
  listed_here : (place : ℕ) (s : Holdings) → slice_get (living cells) place ≡ Some s → same_params p s.params ≡ true → (cell : ℕ) × (StandsIn cells cell place s × (cell_of p table.entries ≡ Some cell))
  listed_here place s at same =
      let r = stands_at cells place s at in
      let got = stands_get cells r.0 place s r.1 in
      let q : p ≡ s.params = same_well_formed p s.params formed (known.formed r.0 s got) same in
      (r.0, (r.1, subst (λ x. cell_of x table.entries ≡ Some r.0) (sym q) (known.listed kept r.0 s got)))

  none_listed : cell_of p table.entries ≡ None → (place : ℕ) (s : Holdings) → slice_get (living cells) place ≡ Some s → same_params p s.params ≡ false
  none_listed none place s at = false_from_ne_true (same_params p s.params) (λ same. let r = listed_here place s at same in let e = r.1.1 in cc)

  none_there : (cell : ℕ) → cell_of p table.entries ≡ Some cell → ((s : Holdings) → slice_get cells cell ≡ Some (Some s) → same_params p s.params ≡ false) → (place : ℕ) (s : Holdings) → slice_get (living cells) place ≡ Some s → same_params p s.params ≡ false
  none_there cell found other place s at =
      false_from_ne_true (same_params p s.params)
      (λ same.
      let r = listed_here place s at same in
      let c : r.0 ≡ cell = some_same r.0 cell (cell_of p table.entries) r.1.1 found in
      let got = subst (λ k. slice_get cells k ≡ Some (Some s)) c (stands_get cells r.0 place s r.1.0) in
      let apart = other s got in
      cc)

  pub not_listed : cell_of p table.entries ≡ None → place_in p (living cells) 0 ≡ None
  not_listed none = none_in p (living cells) 0 (none_listed none)

  pub not_listed_alone : cell_of p table.entries ≡ None → (r : Option ℕ) (i : ℕ) (s : Holdings) → slice_get (living cells) i ≡ Some s → same_params p s.params ≡ true → r ≡ Some i
  not_listed_alone none r i s at same = let other = none_listed none i s at in absurd (cc)

  pub not_there : (cell : ℕ) → cell_of p table.entries ≡ Some cell → ((s : Holdings) → slice_get cells cell ≡ Some (Some s) → same_params p s.params ≡ false) → place_in p (living cells) 0 ≡ None
  not_there cell found other = none_in p (living cells) 0 (none_there cell found other)

  pub not_there_alone : (cell : ℕ) → cell_of p table.entries ≡ Some cell → ((s : Holdings) → slice_get cells cell ≡ Some (Some s) → same_params p s.params ≡ false) → (r : Option ℕ) (i : ℕ) (s : Holdings) → slice_get (living cells) i ≡ Some s → same_params p s.params ≡ true → r ≡ Some i
  not_there_alone cell found other r i s at same = let apart = none_there cell found other i s at in absurd (cc)

  only_there : (cell place : ℕ) (s : Holdings) → cell_of p table.entries ≡ Some cell → StandsIn cells cell place s → (j : ℕ) (t : Holdings) → slice_get (living cells) j ≡ Some t → same_params p t.params ≡ true → j ≡ place
  only_there cell place s found stands j t at same =
      let r = listed_here j t at same in
      let c : r.0 ≡ cell = some_same r.0 cell (cell_of p table.entries) r.1.1 found in
      stands_one cells cell j place t s (subst (λ k. StandsIn cells k j t) c r.1.0) stands

  pub is_there : (cell place : ℕ) (s : Holdings) → cell_of p table.entries ≡ Some cell → StandsIn cells cell place s → same_params p s.params ≡ true → Some place ≡ place_in p (living cells) 0
  is_there cell place s found stands same =
      let n : 0 + place ≡ place = omega arith in
      sym (one_in p (living cells) 0 place s (stands_place cells cell place s stands) same (only_there cell place s found stands) ∙ ap Some n)

  pub is_there_alone : (cell place : ℕ) (s : Holdings) → cell_of p table.entries ≡ Some cell → StandsIn cells cell place s → (j : ℕ) (t : Holdings) → slice_get (living cells) j ≡ Some t → same_params p t.params ≡ true → Some place ≡ Some j
  is_there_alone cell place s found stands j t at same = ap Some (sym (only_there cell place s found stands j t at same))
