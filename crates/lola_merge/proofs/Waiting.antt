-- Queues of rows, seen as lists.
use Rattle.std.proofs.Common.{◌≡◌, ◌<◌, ◌≤◌, ◌+◌, ℕ, zero, suc, List, [], ◌∷◌, ◌++◌, length, map, get_or, set, get_or-set_same, length-set, slice_get, Option, Some, None, MatchOption, refl, sym, ap, ◌∙◌, subst, arith}
use Rattle.std.specs.Option.{option_to_list}
use Rattle.std.proofs.lemmas.List.{map-set, set-get_or}
use Rattle.std.proofs.lemmas.List.{get_or-map}
use Rattle.lola_model.specs.declared.journal.Row.{Row}
use Rattle.lola_merge.specs.Interleaving.{list_of}
use Rattle.lola_merge.specs.Queues.{PopsNone, PopsRow, HasSpare}

get-set_same : {Q : Type 0} (qs : List Q) (at : ℕ) (q : Q) → at < length qs → slice_get (set qs at q) at ≡ Some q
get-set_same [] at q l = absurd (omega arith)
get-set_same (x ∷ qs) zero q l = refl
get-set_same (x ∷ qs) (suc at) q l = get-set_same qs at q (omega arith)

get-get_or : {Q : Type 0} (qs : List Q) (at : ℕ) (d : Q) → at < length qs → slice_get qs at ≡ Some (get_or qs at d)
get-get_or [] at d l = absurd (omega arith)
get-get_or (x ∷ qs) zero d l = refl
get-get_or (x ∷ qs) (suc at) d l = get-get_or qs at d (omega arith)

-- a queue that a row was taken from has room for one
pub room_left : (r : Option Row) (was is room room' : ℕ) → MatchOption r ((was ≡ 0) × (is ≡ 0)) (λ _. is + 1 ≡ was) → was ≤ room → room' ≡ room → MatchOption r (Unit {0}) (λ _. is < room')
room_left None was is room room' m l e = tt
room_left (Some row) was is room room' m l e = omega arith

module _ {Q : Type 0} (items : Q → List Row) (len room : Q → ℕ) (qs : List Q) (at : ℕ) (q q' : Q) (inside : at < length qs) (is : q ≡ get_or qs at q) where
  -- the list of the queue at this place
  here : list_of (map items qs) at ≡ items q
  here = get_or-map items qs at q [] inside ∙ ap items (sym is)

  inside_lists : at < length (map items qs)
  inside_lists = omega (arith, map_len qs)
    where
      map_len : (l : List Q) → length (map items l) ≡ length l
      map_len [] = refl
      map_len (x ∷ l) = ap suc (map_len l)

  -- and of the queue that was put there
  there : list_of (map items (set qs at q')) at ≡ items q'
  there = ap (λ l. list_of l at) (map-set items qs at q') ∙ get_or-set_same (map items qs) at (items q') [] inside_lists

  pub pops : (r : Option Row) → items q ≡ option_to_list r ++ items q' → (r ≡ None → items q ≡ []) → MatchOption r (Unit {0}) (λ _. len q' < room q')
      → MatchOption r (PopsNone (map items qs) at (map items (set qs at q'))) (λ row. PopsRow (map items qs) at row (map items (set qs at q')) × HasSpare len room (set qs at q') at)
  pops None e none fits = (
    here ∙ none refl,
    map-set items qs at q' ∙ (ap (set (map items qs) at) (sym e ∙ sym here) ∙ set-get_or (map items qs) at []),
  )
  pops (Some row) e none fits = (
    (here ∙ (e ∙ ap (λ l. row ∷ l) (sym there)), map-set items qs at q' ∙ ap (set (map items qs) at) (sym there)),
    (
      omega (arith, length-set qs at q'),
      λ queue e. let same : Some q' ≡ Some queue = sym (get-set_same qs at q' inside) ∙ e in let is_q : q' ≡ queue = cc in subst (λ z. len z < room z) is_q fits,
    ),
  )

  pub puts : (row : Row) → items q' ≡ row ∷ items q → map items (set qs at q') ≡ set (map items qs) at (row ∷ list_of (map items qs) at)
  puts row e = map-set items qs at q' ∙ ap (set (map items qs) at) (e ∙ ap (λ l. row ∷ l) (sym here))
