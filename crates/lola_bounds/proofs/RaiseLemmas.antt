-- Raising the greatest offsets.
use Rattle.std.proofs.Common.{◌≡◌, refl, ap, sym, subst, ◌∙◌, ℕ, max, List, [], ◌∷◌, ◌++◌, if◌then◌else◌, nat_eq, length, get_or, append-nil, arith}
use Rattle.std.specs.List.{flat_map}
use Rattle.lola_model.specs.Bounds.{greatest_offset, offset_by, offset_onto}
use Rattle.lola_model.specs.Parts.{listed_streams}
use Rattle.lola_model.specs.declared.expr.Expr.{Expr}
use Rattle.lola_model.specs.declared.expr.Expr.TheVariants.{Literal, Parameter, Read, Window, Defaults', Unary', Both', Choice'}
use Rattle.lola_model.specs.declared.spec.Stream.{Stream}
use Rattle.lola_model.specs.Visits.{parts_of, TakesAll}
use Rattle.lola_model.specs.declared.part.ReadPart.{ReadPart}
use Rattle.lola_model.proofs.Fused.{fused_streams}
use Rattle.lola_bounds.specs.Offsets.{IsRaised, part_offset}

-- the greatest of two lists
pub greatest_offset-append : (xs ys : List ℕ) → greatest_offset (xs ++ ys) ≡ max (greatest_offset xs) (greatest_offset ys)
greatest_offset-append [] ys = omega arith
greatest_offset-append (x ∷ xs) ys = let e : greatest_offset (xs ++ ys) ≡ max (greatest_offset xs) (greatest_offset ys) = greatest_offset-append xs ys in omega arith

-- by nothing
pub raised_none : (xs : List ℕ) → IsRaised (λ n. []) xs xs
raised_none xs = record { count = refl; each = λ i lt. let e : max (get_or xs i 0) 0 ≡ get_or xs i 0 = omega arith in sym e }

-- by one list and then by another
pub raised_both : (f g : ℕ → List ℕ) (old mid new : List ℕ) → IsRaised f old mid → IsRaised g mid new → IsRaised (λ n. f n ++ g n) old new
raised_both f g old mid new h k = record {
  count = k.count ∙ h.count;
  each = λ i lt.
      let len : length mid ≡ length old = h.count in
      let a : get_or mid i 0 ≡ max (get_or old i 0) (greatest_offset (f i)) = h.each i lt in
      let b : get_or new i 0 ≡ max (get_or mid i 0) (greatest_offset (g i)) = k.each i (omega arith) in
      let e : greatest_offset (f i ++ g i) ≡ max (greatest_offset (f i)) (greatest_offset (g i)) = greatest_offset-append (f i) (g i) in
      omega arith;
}

-- by lists that are the same
raised_same : (f g : ℕ → List ℕ) (old new : List ℕ) → ((n : ℕ) → f n ≡ g n) → IsRaised f old new → IsRaised g old new
raised_same f g old new e h = record { count = h.count; each = λ i lt. h.each i lt ∙ ap (λ ks. max (get_or old i 0) (greatest_offset ks)) (e i) }

-- what is listed of a part that reads is listed of the expression that has it
offset_each : (n : ℕ) (e : Expr) → flat_map (part_offset n) (parts_of e) ≡ offset_onto n e
offset_each n (Literal place v) = refl
offset_each n (Parameter place i) = refl
offset_each n (Read place m how args) = append-nil (if nat_eq m n then offset_by how else [])
offset_each n (Window place w args) = refl
offset_each n (Defaults' place u a v b) = refl
offset_each n (Unary' place operator u a) = refl
offset_each n (Both' place operator u a v b) = refl
offset_each n (Choice' place u a v b w d) = refl

-- by parts one after another
raised_all : {T : Type 0} (items : T → List ℕ) (ps : List ReadPart) (old new : T) → TakesAll (λ p from to. IsRaised (λ n. part_offset n p) (items from) (items to)) ps old new
    → IsRaised (λ n. flat_map (part_offset n) ps) (items old) (items new)
raised_all items [] old new h = subst (λ t. IsRaised (λ n. []) (items old) (items t)) h (raised_none (items old))
raised_all items (p ∷ ps) old new h =
    raised_both (λ n. part_offset n p) (λ n. flat_map (part_offset n) ps) (items old) (items h.0) (items new) h.1 (raised_all items ps h.0 new h.2)

-- by streams
pub raised_streams : {T : Type 0} (items : T → List ℕ) (ss : List Stream) (old new : T) → TakesAll (λ p from to. IsRaised (λ n. part_offset n p) (items from) (items to)) (listed_streams parts_of ss) old new
    → IsRaised (λ n. listed_streams (offset_onto n) ss) (items old) (items new)
raised_streams items ss old new h =
    raised_same (λ n. flat_map (part_offset n) (listed_streams parts_of ss)) (λ n. listed_streams (offset_onto n) ss) (items old) (items new)
    (λ n. fused_streams (part_offset n) (offset_onto n) (offset_each n) ss) (raised_all items (listed_streams parts_of ss) old new h)

-- one greatest offset, by parts one after another
raised_by_parts : (n : ℕ) (ps : List ReadPart) (old new : ℕ) → TakesAll (λ p from to. to ≡ max from (greatest_offset (part_offset n p))) ps old new → new ≡ max old (greatest_offset (flat_map (part_offset n) ps))
raised_by_parts n [] old new h = let e : max old 0 ≡ old = omega arith in sym h ∙ sym e
raised_by_parts n (p ∷ ps) old new h =
    let a : h.0 ≡ max old (greatest_offset (part_offset n p)) = h.1 in
    let b : new ≡ max h.0 (greatest_offset (flat_map (part_offset n) ps)) = raised_by_parts n ps h.0 new h.2 in
    let e : greatest_offset (part_offset n p ++ flat_map (part_offset n) ps) ≡ max (greatest_offset (part_offset n p)) (greatest_offset (flat_map (part_offset n) ps)) = greatest_offset-append (part_offset n p) (flat_map (part_offset n) ps) in
    omega arith

-- from 0 by streams
pub greatest_of_streams : (n : ℕ) (ss : List Stream) (new : ℕ) → TakesAll (λ p from to. to ≡ max from (greatest_offset (part_offset n p))) (listed_streams parts_of ss) 0 new
    → new ≡ greatest_offset (listed_streams (offset_onto n) ss)
greatest_of_streams n ss new h =
    let a : new ≡ max 0 (greatest_offset (flat_map (part_offset n) (listed_streams parts_of ss))) = raised_by_parts n (listed_streams parts_of ss) 0 new h in
    let b : new ≡ greatest_offset (flat_map (part_offset n) (listed_streams parts_of ss)) = omega arith in
    b ∙ ap greatest_offset (fused_streams (part_offset n) (offset_onto n) (offset_each n) ss)
