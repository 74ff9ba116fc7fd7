-- What a source has when it makes a row, and when bytes of it are moved out.
use Rattle.std.proofs.Common.{◌≡◌, ◌+◌, ◌*◌, ◌≤◌, ◌<◌, ◌-◌, List, ℕ, [], ◌∷◌, ◌++◌, Some, length, take, drop, refl, subst, sym, ◌∙◌, ap, arith, append_assoc, take-append-drop, length-drop, length-take}
use Rattle.std.proofs.Math.ListN.{drop_of_length-le}
use Rattle.std.proofs.lemmas.List.{drop-drop, take_all}
use Rattle.std.specs.List.{concat}
use Rattle.lola_port.specs.States.{Moved}
use Rattle.lola_feed.specs.Drills.{Drilling, IsRefilled, drill_state}

-- a row is made where no byte of the line is left
pub made : (line row : List ℕ) (at left rest : ℕ) (before after : List (List ℕ)) → length line ≤ at → before ≡ row ∷ after → rest + 1 ≡ left → (0 < length row) × (length row ≤ 128)
    → IsRefilled (record { waiting = drop at line; behind = before; most = 128 * left }) (record { waiting = drop 0 row; behind = after; most = 128 * rest })
made line row at left rest before after none is one short =
    let empty : drop at line ≡ [] = drop_of_length-le line none in record {
      left = sym (ap (λ (l : List ℕ). l ++ concat before) empty ∙ ap concat is);
      bound = omega (arith, one, short.1);
      done = λ none. absurd (omega (arith, none, short.0));
    }

-- nothing is made
pub kept : (d : Drilling) → (length d.waiting ≡ 0 → d.behind ≡ []) → IsRefilled d d
kept d done = record { left = refl; bound = omega arith; done = done }

-- bytes are moved out of the line
pub moves : (old : Drilling) (line shown bytes : List ℕ) (at n most : ℕ) (behind : List (List ℕ))
    → IsRefilled old (record { waiting = drop at line; behind = behind; most = most }) → bytes ≡ take n shown → shown ≡ drop at line → n ≤ length shown
    → Moved (drill_state old) (drill_state (record { waiting = drop (at + n) line; behind = behind; most = most })) bytes
moves old line shown bytes at n most behind refilled took all some = let is : bytes ≡ take n (drop at line) = took ∙ ap (λ (l : List ℕ). take n l) all in let fits : n ≤ length (drop at line) = subst (λ (l : List ℕ). n ≤ length l) all some in record {
  left = ap Some (sym refilled.left ∙ (ap (λ (l : List ℕ). l ++ concat behind) (sym (take-append-drop n (drop at line)) ∙ ap (λ (l : List ℕ). l ++ drop n (drop at line)) (sym is) ∙ ap (λ (l : List ℕ). bytes ++ l) (drop-drop n at line)) ∙ append_assoc bytes (drop (at + n) line) (concat behind)));
  bound = omega (arith, refilled.bound, ap length is, length-take n (drop at line), length-drop at line, length-drop (at + n) line);
  count = refl;
  place = refl;
}

-- what is shown from a place on is what stands from there on
pub shown_from : (bytes line : List ℕ) (at : ℕ) → bytes ≡ line → take (length bytes - at) (drop at bytes) ≡ drop at line
shown_from bytes line at is = subst (λ (l : List ℕ). take (length bytes - at) (drop at bytes) ≡ drop at l) is
    (take_all (length bytes - at) (drop at bytes) (omega (arith, length-drop at bytes)))
