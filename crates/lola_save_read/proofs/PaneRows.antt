-- The partial results of a line are read one by one.
use Rattle.std.proofs.Common.{◌≡◌, ◌≢◌, ◌∷◌, ℕ, ◌+◌, ◌-◌, ◌*◌, ◌^◌, ◌<◌, ◌≤◌, ◌++◌, List, [], true, ◌&&◌, refl, sym, ap, subst, ◌∙◌, arith, append_assoc, append-nil, length, nat_le}
use Rattle.std.specs.List.{list_all, sum_by}
use Rattle.std.proofs.lemmas.Bool.{and_from, and_parts, le-leb}
use Rattle.std.proofs.lemmas.List.{length-append}
use Rattle.std.proofs.lemmas.List.Folds.{list_all-append}
use Rattle.std.proofs.lemmas.List.Sums.{sum_by-append, sum_by-cons}
use Rattle.std.proofs.lemmas.Grind.{flat_map-append}
use Rattle.lola_value.specs.declared.value.Kind.{Kind}
use Rattle.lola_model.specs.declared.spec.Agg.{Agg}
use Rattle.lola_panes.specs.declared.partial.Partial.{Partial}
use Rattle.lola_save_text.specs.Fitting.{counted, is_partial, total_size}
use Rattle.lola_save_text.specs.Lines.{partial_text, partials_text, word}
use Rattle.lola_save_text.proofs.Partials.{AllShort, all-short, same-cut, variant-is}
use Rattle.lola_save_read.specs.Parts.{ArePartials, IsNextPartial}
use Rattle.lola_save_read.specs.Words.{IsWordEnd}
use Rattle.lola_save_read.proofs.PartWords.{has-fit}
use Rattle.lola_save_read.proofs.WordCuts.{end-mild, partials-end}

row-end : (qs : List Partial) (left : List ℕ) → IsWordEnd left → IsWordEnd (partials_text qs ++ left)
row-end [] left e = e
row-end (q ∷ qs) left e = refl

one-more : (bytes left rest : List ℕ) (qs : List Partial) (q : Partial) → bytes ≡ partials_text qs ++ left → left ≡ 32 ∷ (partial_text q ++ rest) → bytes ≡ partials_text (qs ++ q ∷ []) ++ rest
one-more bytes left rest qs q e f =
    e ∙ ap (λ (t : List ℕ). partials_text qs ++ t) f ∙ sym (append_assoc (partials_text qs) (32 ∷ partial_text q) rest)
    ∙ ap (λ (t : List ℕ). (partials_text qs ++ t) ++ rest) (sym (append-nil (32 ∷ partial_text q))) ∙ ap (λ (t : List ℕ). t ++ rest) (sym (flat_map-append (λ x. word (partial_text x)) qs (q ∷ [])))

-- partial results that a line tells begin with those that were read
goes : (how : Agg) (k : Kind) (qs rs : List Partial) (left : List ℕ) → AllShort qs → AllShort rs → list_all (is_partial how k) qs ≡ true → list_all (is_partial how k) rs ≡ true → IsWordEnd left
    → partials_text qs ++ left ≡ partials_text rs → (more : List Partial) × (rs ≡ qs ++ more) × (left ≡ partials_text more)
goes how k [] rs left a b c d end e = (rs, refl, e)
goes how k (q ∷ qs) [] left a b c d end e = absurd (cc e)
goes how k (q ∷ qs) (r ∷ rs) left a b c d end e =
    let f : 32 ∷ (partial_text q ++ (partials_text qs ++ left)) ≡ 32 ∷ (partial_text r ++ partials_text rs) =
    ap (λ (t : List ℕ). 32 ∷ t) (sym (append_assoc (partial_text q) (partials_text qs) left)) ∙ e in
    let g : partial_text q ++ (partials_text qs ++ left) ≡ partial_text r ++ partials_text rs = cc f in
    let x = and_parts (is_partial how k q) (list_all (is_partial how k) qs) c in
    let y = and_parts (is_partial how k r) (list_all (is_partial how k) rs) d in
    let one = same-cut (partials_text qs ++ left) (partials_text rs) (end-mild (partials_text qs ++ left) (row-end qs left end)) (end-mild (partials_text rs) (partials-end rs)) q r a.0 b.0
    (variant-is how k q x.0 ∙ sym (variant-is how k r y.0)) g in
    let m = goes how k qs rs left a.1 b.1 x.1 y.1 end one.1 in
    let h : r ≡ q = sym one.0 in
    let n = m.1 in
    (m.0, (λ i. h i ∷ n i), m.2)

sum-both : (f : Partial → ℕ) (qs rs : List Partial) → sum_by f (qs ++ rs) ≡ sum_by f qs + sum_by f rs
sum-both f qs rs = sum_by-append f qs rs

sum-one : (f : Partial → ℕ) (q : Partial) → sum_by f (q ∷ []) ≡ f q
sum-one f q = let a = sum_by-cons f q [] in omega (arith, a)

-- what was read so far
pub record ArePartsSoFar (how : Agg) (k : Kind) (turn steps : ℕ) (bytes : List ℕ) (qs : List Partial) (counts totals : ℕ) (left : List ℕ) : Type 0 where
  pub are : list_all (is_partial how k) qs ≡ true
  pub many : length qs ≡ turn
  pub few : sum_by (counted how) qs + counts ≡ steps
  pub small : sum_by (total_size how) qs + totals ≡ steps * 2 ^ 64
  pub whole : bytes ≡ partials_text qs ++ left
  pub ends : IsWordEnd left

module _ (how : Agg) (k : Kind) (steps : ℕ) (bytes : List ℕ) where
  pub no-parts-yet : IsWordEnd bytes → ArePartsSoFar how k 0 steps bytes [] steps (steps * 18446744073709551616) bytes
  no-parts-yet end = record { are = refl; many = refl; few = omega arith; small = omega arith; whole = refl; ends = end }

  pub parts-more : (turn counts totals : ℕ) (qs : List Partial) (left : List ℕ) (q : Partial) (rest : List ℕ) → ArePartsSoFar how k turn steps bytes qs counts totals left
      → IsNextPartial how k counts totals left q rest → ArePartsSoFar how k (turn + 1) steps bytes (qs ++ q ∷ []) (counts - counted how q) (totals - total_size how q) rest
  parts-more turn counts totals qs left q rest s n =
      let h = has-fit how k counts totals q n.fit in
      let x = h.few in
      let y = h.small in
      let few = s.few in
      let small = s.small in
      record {
        are = list_all-append (is_partial how k) qs (q ∷ []) ∙ and_from (list_all (is_partial how k) qs) (list_all (is_partial how k) (q ∷ [])) s.are (and_from (is_partial how k q) true h.is refl);
        many = (let l = length-append qs (q ∷ []) in let m = s.many in omega (arith, l, m));
        few = (let a = sum-both (counted how) qs (q ∷ []) in let b = sum-one (counted how) q in omega (arith, a, b, x, few));
        small = (let a = sum-both (total_size how) qs (q ∷ []) in let b = sum-one (total_size how) q in omega (arith, a, b, y, small));
        whole = one-more bytes left rest qs q s.whole n.whole;
        ends = n.ends;
      }

  module _ (turn counts totals : ℕ) (qs : List Partial) (left : List ℕ) (s : ArePartsSoFar how k turn steps bytes qs counts totals left) where
    pub parts-whole : (number : ℕ) → turn ≡ number → left ≡ [] → ArePartials how k number steps qs × (bytes ≡ partials_text qs)
    parts-whole number t e =
        let few = s.few in
        let small = s.small in (
          record { many = s.many ∙ t; are = s.are; counts = omega (arith, few); totals = omega (arith, small) },
          s.whole ∙ ap (λ (t : List ℕ). partials_text qs ++ t) e ∙ append-nil (partials_text qs),
        )

    all-goes : (number : ℕ) (rs : List Partial) → steps ≤ 2 ^ 62 → ArePartials how k number steps rs → bytes ≡ partials_text rs → (more : List Partial) × (rs ≡ qs ++ more) × (left ≡ partials_text more)
    all-goes number rs l a e =
        let few = s.few in
        let small = s.small in
        let ca = a.counts in
        let ta = a.totals in
        goes how k qs rs left (all-short how k qs s.are (omega (arith, few, l)) (omega (arith, small, l))) (all-short how k rs a.are (omega (arith, ca, l)) (omega (arith, ta, l))) s.are a.are s.ends
        (sym s.whole ∙ e)

    pub parts-stop : (number : ℕ) → turn < number → steps ≤ 2 ^ 62 → ((q : Partial) (rest : List ℕ) → IsNextPartial how k counts totals left q rest → ⊥)
        → (rs : List Partial) → ArePartials how k number steps rs → bytes ≢ partials_text rs
    parts-stop number lt l never rs a e = by c.0 c.1 c.2
      where
        c : (more : List Partial) × (rs ≡ qs ++ more) × (left ≡ partials_text more)
        c = all-goes number rs l a e

        by : (more : List Partial) → rs ≡ qs ++ more → left ≡ partials_text more → ⊥
        by [] f g =
            let n = ap length f in
            let y = length-append qs [] in
            let x = s.many in
            let z = a.many in
            omega (arith, n, x, y, z, lt)
        by (m ∷ more) f g =
            let all = and_parts (list_all (is_partial how k) qs) (list_all (is_partial how k) (m ∷ more))
            (sym (list_all-append (is_partial how k) qs (m ∷ more)) ∙ sym (ap (list_all (is_partial how k)) f) ∙ a.are) in
            let few = s.few in
            let small = s.small in
            let ca : sum_by (counted how) (qs ++ m ∷ more) ≤ steps = subst (λ (l : List Partial). sum_by (counted how) l ≤ steps) f a.counts in
            let ta : sum_by (total_size how) (qs ++ m ∷ more) ≤ steps * 2 ^ 64 = subst (λ (l : List Partial). sum_by (total_size how) l ≤ steps * 2 ^ 64) f a.totals in
            let c1 = sum-both (counted how) qs (m ∷ more) in
            let c2 = sum_by-cons (counted how) m more in
            let t1 = sum-both (total_size how) qs (m ∷ more) in
            let t2 = sum_by-cons (total_size how) m more in
            never m (partials_text more) (record {
              fit = and_from (nat_le (counted how m) counts) (nat_le (total_size how m) totals && is_partial how k m) (le-leb (counted how m) counts (omega (arith, few, ca, c1, c2)))
                  (and_from (nat_le (total_size how m) totals) (is_partial how k m) (le-leb (total_size how m) totals (omega (arith, small, ta, t1, t2))) (and_parts (is_partial how k m) (list_all (is_partial how k) more) all.1).0);
              ends = partials-end more;
              whole = g;
            })

    pub parts-full : (number : ℕ) → turn ≡ number → steps ≤ 2 ^ 62 → (left ≡ [] → ⊥) → (rs : List Partial) → ArePartials how k number steps rs → bytes ≢ partials_text rs
    parts-full number t l some rs a e = by c.0 c.1 c.2
      where
        c : (more : List Partial) × (rs ≡ qs ++ more) × (left ≡ partials_text more)
        c = all-goes number rs l a e

        by : (more : List Partial) → rs ≡ qs ++ more → left ≡ partials_text more → ⊥
        by [] f g = some g
        by (m ∷ more) f g =
            let n = ap length f in
            let y = length-append qs (m ∷ more) in
            let x = s.many in
            let z = a.many in
            omega (arith, n, x, y, z, t)
