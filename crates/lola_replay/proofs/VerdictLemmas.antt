-- What a comparison tells of verdicts, once all verdict lines were compared.
use Rattle.std.proofs.Common.{◌≡◌, ◌≢◌, ◌∙◌, refl, sym, ap, subst, ℕ, zero, suc, ◌+◌, ◌<◌, ◌≤◌, List, [], ◌∷◌, ◌++◌, Option, Some, None, arith, length, slice_get}
use Rattle.lola_model.specs.Runs.{final_lines}
use Rattle.lola_model.specs.declared.journal.Entry.{Entry}
use Rattle.lola_model.specs.declared.journal.Show.{Show}
use Rattle.lola_model.specs.declared.plan.Plan.{Plan}
use Rattle.lola_replay.specs.Comparing.{IsFirstOther}
use Rattle.lola_replay.specs.Ends.{IsEndLine}
use Rattle.lola_replay.specs.LinesOf.{IsFirstLine}
use Rattle.lola_replay.specs.Verdicts.{AreVerdicts, IsOtherAt, IsRightLine, IsThere}

module _ (IsEnd : List ℕ → Type 0) where
  -- among the verdict lines, the right line is the one of that place
  right-line : (shown : List (List ℕ)) (place : ℕ) (o : Option (List ℕ)) → place < length shown → IsRightLine IsEnd shown place o → o ≡ slice_get shown place
  right-line [] place o within right = absurd (omega (arith, within))
  right-line (s ∷ ss) zero o within right = right
  right-line (s ∷ ss) (suc place) o within right = right-line ss place o (omega (arith, within)) right

  is-right : (shown : List (List ℕ)) (place : ℕ) (o : Option (List ℕ)) → place < length shown → o ≡ slice_get shown place → IsRightLine IsEnd shown place o
  is-right [] place o within e = absurd (omega (arith, within))
  is-right (s ∷ ss) zero o within e = e
  is-right (s ∷ ss) (suc place) o within e = is-right ss place o (omega (arith, within)) e

  -- behind the last of them stands an end line
  end-line : (shown : List (List ℕ)) (o : Option (List ℕ)) → IsRightLine IsEnd shown (length shown) o → IsThere IsEnd o
  end-line [] o right = right
  end-line (s ∷ ss) o right = end-line ss o right

  is-end : (shown : List (List ℕ)) (o : Option (List ℕ)) → IsThere IsEnd o → IsRightLine IsEnd shown (length shown) o
  is-end [] o there = there
  is-end (s ∷ ss) o there = is-end ss o there

  -- and then none
  none-behind : (shown : List (List ℕ)) (o : Option (List ℕ)) → IsRightLine IsEnd shown (suc (length shown)) o → o ≡ None
  none-behind [] o right = right
  none-behind (s ∷ ss) o right = none-behind ss o right

at-end : (xs ys : List (List ℕ)) → slice_get (xs ++ ys) (length xs) ≡ slice_get ys 0
at-end [] ys = refl
at-end (x ∷ xs) ys = at-end xs ys

at-next : (xs ys : List (List ℕ)) → slice_get (xs ++ ys) (suc (length xs)) ≡ slice_get ys 1
at-next [] ys = refl
at-next (x ∷ xs) ys = at-next xs ys

in-front-of : (xs ys : List (List ℕ)) (k : ℕ) → k < length xs → slice_get (xs ++ ys) k ≡ slice_get xs k
in-front-of [] ys k low = absurd (omega (arith, low))
in-front-of (x ∷ xs) ys zero low = refl
in-front-of (x ∷ xs) ys (suc k) low = in-front-of xs ys k (omega (arith, low))

module _ (plan : Plan) (start : Option ℕ) (show : Show) (journal : List Entry) (lines : List (List ℕ)) where
  abbrev IsEnd : List ℕ → Type 0
  IsEnd line = IsEndLine plan start show journal line

  abbrev shown : List (List ℕ)
  shown = final_lines plan start journal show

  -- the first other line is the first that differs
  pub differs : (n : ℕ) → IsFirstOther lines shown n → IsFirstLine (IsOtherAt plan start show journal lines) n
  differs n is = record {
    place = is.place;
    number = is.number;
    holds = λ right. is.other (right-line IsEnd shown is.place (slice_get lines is.place) is.within right);
    least = λ k off. least k off;
  }
    where
      least : (k : ℕ) → IsOtherAt plan start show journal lines k → is.place ≤ k
      least k off = at-least (λ low. let within = is.within in off (is-right IsEnd shown k (slice_get lines k) (omega (arith, low, within)) (is.same k low)))
        where
          at-least : ¬ (k < is.place) → is.place ≤ k
          at-least not-low = omega (arith, not-low)

  module _ (rest : List (List ℕ)) (whole : lines ≡ shown ++ rest) where
    before-right : (k : ℕ) → k < length shown → ¬ (IsOtherAt plan start show journal lines k)
    before-right k low off =
        off (is-right IsEnd shown k (slice_get lines k) low (ap (λ (ls : List (List ℕ)). slice_get ls k) whole ∙ in-front-of shown rest k low))

    here : slice_get lines (length shown) ≡ slice_get rest 0
    here = ap (λ (ls : List (List ℕ)). slice_get ls (length shown)) whole ∙ at-end shown rest

    next : slice_get lines (suc (length shown)) ≡ slice_get rest 1
    next = ap (λ (ls : List (List ℕ)). slice_get ls (suc (length shown))) whole ∙ at-next shown rest

    -- no end line stands behind the verdict lines
    pub no-end : ¬ (IsThere IsEnd (slice_get rest 0)) → IsFirstLine (IsOtherAt plan start show journal lines) (length shown + 1)
    no-end none = record {
      place = length shown;
      number = refl;
      holds = λ right. none (subst (IsThere IsEnd) here (end-line IsEnd shown (slice_get lines (length shown)) right));
      least = λ k off. least k off;
    }
      where
        least : (k : ℕ) → IsOtherAt plan start show journal lines k → length shown ≤ k
        least k off = at-least (λ low. before-right k low off)
          where
            at-least : ¬ (k < length shown) → length shown ≤ k
            at-least not-low = omega (arith, not-low)

    -- something stands behind the end line
    pub surplus : (last other : List ℕ) (more : List (List ℕ)) → rest ≡ last ∷ (other ∷ more) → IsEnd last → IsFirstLine (IsOtherAt plan start show journal lines) (length shown + 2)
    surplus last other more is end = record {
      place = suc (length shown);
      number = omega arith;
      holds = λ right.
          let none = none-behind IsEnd shown (slice_get lines (suc (length shown))) right in
          let both : Some other ≡ None = sym (next ∙ ap (λ (ls : List (List ℕ)). slice_get ls 1) is) ∙ none in
          absurd (cc both);
      least = λ k off. least k off;
    }
      where
        not-here : ¬ (IsOtherAt plan start show journal lines (length shown))
        not-here off = off (is-end IsEnd shown (slice_get lines (length shown)) (subst (IsThere IsEnd) (sym (here ∙ ap (λ (ls : List (List ℕ)). slice_get ls 0) is)) end))

        least : (k : ℕ) → IsOtherAt plan start show journal lines k → suc (length shown) ≤ k
        least k off = at-least (λ low. before-right k low off) (λ same. not-here (subst (IsOtherAt plan start show journal lines) same off))
          where
            at-least : ¬ (k < length shown) → k ≢ length shown → suc (length shown) ≤ k
            at-least not-low not-same = omega (arith, not-low, not-same)

    -- the end line stands there, and nothing behind it
    pub ends : (last : List ℕ) → rest ≡ last ∷ [] → IsEnd last → AreVerdicts plan start show journal lines
    ends last is end = record { last = last; end = end; whole = whole ∙ ap (λ (ls : List (List ℕ)). shown ++ ls) is }
