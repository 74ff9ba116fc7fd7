-- One turn of the loop over the words.
use Rattle.std.proofs.Common.{◌≡◌, refl, ap, sym, ◌∙◌, ℕ, zero, suc, ◌+◌, ◌<◌, List, [], ◌∷◌, ◌++◌, Option, Some, None, Bool, true, false, if◌then◌else◌, length, drop, map, get_or, append_assoc, arith}
use Rattle.std.proofs.lemmas.List.{drop_more, drop-map, drop-drop}
use Rattle.std.specs.List.{slice_get}
use Rattle.lola_monitor_command.specs.Said.{Word, thing_of, names_from, with_front, after, said_from}
use Rattle.lola_monitor_command.specs.declared.said.Said.{Said}
use Rattle.lola_monitor_command.specs.declared.said.Said.TheVariants as said
use Rattle.lola_monitor_command.specs.declared.said.WordSense.{WordSense}
use Rattle.lola_monitor_command.specs.declared.said.WordSense.TheVariants as thing

-- the word of a number, and those behind it
pub word_in_front : {X : Type 0} (f : X → Word) (xs : List X) (at : ℕ) (x : X) → at < length xs → get_or xs at x ≡ x → drop at (map f xs) ≡ f x ∷ drop (at + 1) (map f xs)
word_in_front f xs at x lt is = rw (drop-map f at xs, drop_more xs at x lt, is, drop-map f (at + 1) xs) refl

pub some_in_front : {X : Type 0} (f : X → Word) (xs : List X) (at : ℕ) → at < length xs → (w : Word) × (drop at (map f xs) ≡ w ∷ drop (at + 1) (map f xs))
some_in_front f [] at lt = absurd (omega (arith, lt))
some_in_front f (x ∷ xs) zero lt = (f x, refl)
some_in_front f (x ∷ xs) (suc at) lt =
    let r = some_in_front f xs at (omega (arith, lt)) in
    let next : suc (at + 1) ≡ suc at + 1 = omega arith in
    (r.0, r.1 ∙ ap (λ n. r.0 ∷ drop n (map f (x ∷ xs))) next)

first_of_rest : (ws : List Word) (n : ℕ) → slice_get (drop n ws) 0 ≡ slice_get ws n
first_of_rest ws zero = refl
first_of_rest [] (suc n) = refl
first_of_rest (w ∷ ws) (suc n) = first_of_rest ws n

-- names, with the next word among them
pub name_goes : (front : List Said) (ws : List Word) (w : Word) (at : ℕ) → drop at ws ≡ w ∷ drop (at + 1) ws
    → (front ++ said.Name at ∷ []) ++ names_from (at + 1) (drop (at + 1) ws) ≡ front ++ names_from at (drop at ws)
name_goes front ws w at e = append_assoc front (said.Name at ∷ []) (names_from (at + 1) (drop (at + 1) ws)) ∙ ap (λ z. front ++ names_from at z) (sym e)

module _ (ws : List Word) (w : Word) (at : ℕ) (e : drop at ws ≡ w ∷ drop (at + 1) ws) where
  -- what the words from here on say, by the first of them
  opened : said_from false at (drop at ws) ≡ after at (drop (at + 1) ws) (thing_of at w (slice_get ws (at + 1))) (λ skip. said_from skip (at + 1) (drop (at + 1) ws))
  opened = ap (said_from false at) e ∙ ap (λ o. after at (drop (at + 1) ws) (thing_of at w o) (λ skip. said_from skip (at + 1) (drop (at + 1) ws))) (first_of_rest ws (at + 1))

  by_thing : (t : WordSense) → thing_of at w (slice_get ws (at + 1)) ≡ t → said_from false at (drop at ws) ≡ after at (drop (at + 1) ws) t (λ skip. said_from skip (at + 1) (drop (at + 1) ws))
  by_thing t is = opened ∙ ap (λ z. after at (drop (at + 1) ws) z (λ skip. said_from skip (at + 1) (drop (at + 1) ws))) is

  pub wrong_goes : thing_of at w (slice_get ws (at + 1)) ≡ thing.Wrong → said_from false at (drop at ws) ≡ None
  wrong_goes is = by_thing thing.Wrong is

  pub dashes_go : thing_of at w (slice_get ws (at + 1)) ≡ thing.Dashes → said_from false at (drop at ws) ≡ Some (names_from (at + 1) (drop (at + 1) ws))
  dashes_go is = by_thing thing.Dashes is

  -- a value is left out
  left_out : (n : ℕ) (z : List Word) → said_from true n z ≡ said_from false (n + 1) (drop 1 z)
  left_out n [] = refl
  left_out n (v ∷ z) = refl

  next_place : (s : Said) (takes_next : Bool) → with_front (s ∷ []) (said_from takes_next (at + 1) (drop (at + 1) ws))
      ≡ with_front (s ∷ []) (said_from false (at + (if takes_next then 2 else 1)) (drop (at + (if takes_next then 2 else 1)) ws))
  next_place s false = refl
  next_place s true =
      let two : at + 1 + 1 ≡ at + 2 = omega arith in
      ap (with_front (s ∷ [])) (left_out (at + 1) (drop (at + 1) ws) ∙ ap (said_from false (at + 1 + 1)) (drop-drop 1 (at + 1) ws) ∙ ap (λ n. said_from false n (drop n ws)) two)

  pub says_goes : (s : Said) (takes_next : Bool) → thing_of at w (slice_get ws (at + 1)) ≡ thing.Says s takes_next
      → said_from false at (drop at ws) ≡ with_front (s ∷ []) (said_from false (at + (if takes_next then 2 else 1)) (drop (at + (if takes_next then 2 else 1)) ws))
  says_goes s takes_next is = by_thing (thing.Says s takes_next) is ∙ next_place s takes_next

pub regroup : (front : List Said) (s : Said) (o : Option (List Said)) → with_front (front ++ s ∷ []) o ≡ with_front front (with_front (s ∷ []) o)
regroup front s None = refl
regroup front s (Some ss) = ap Some (append_assoc front (s ∷ []) ss)
