-- Each step at the closing word keeps its rule.
use Rattle.std.proofs.Common.{◌≡◌, ◌≢◌, ℕ, zero, suc, Bool, true, false, List, [], ◌∷◌, length, get_or, set, sym, refl, ap, ◌∙◌, subst, ⊎_elim, arith, length-set, slice_get, Some}
use Rattle.std.proofs.lemmas.List.{set-get_or}
use mathlib.Core.Logic.{dite}
use native.Mathlib.Decide.{ℕ_discrete}
use mathlib.Core.Option.{some, none, some-ne-none}
use lib.ListN.{get_elem?}
use Rattle.atomic_table.specs.Table.{State, Me, keeps, step, Allows, Splits, Joins, Seen}
use Rattle.atomic_table.proofs.Lists.{at_set}
use Rattle.lola_queue_intake.specs.declared.closing.WordView.{WordView}
use Rattle.lola_queue_intake.specs.Closings.{word_of, unseen, after_found, after_close, with_returned, IsViewOfWord, Closes, AfterLook, AfterWrite, IsClosedWhereFound}
use Rattle.lola_queue_intake.proofs.Views.{all_set, inside, at_snoc, get_snoc}

-- the word is 1 where the taker has closed
is_closed : (b : Bool) → word_of b ≡ 1 → b ≡ true
is_closed true e = refl
is_closed false e = absurd (omega arith)

module _ {S : Type 0} where
  pub opens : (s : State S WordView) → s.words ≡ 0 ∷ [] → s.views ≡ unseen ∷ [] → Closes s
  opens s words views = record {
    closed = false;
    word = words;
    each_seat = λ i v a. new i v (subst (λ l. get_elem? l i ≡ some v) views a);
  }
    where
      new : (i : ℕ) (v : WordView) → get_elem? (unseen ∷ []) i ≡ some v → IsViewOfWord false i v
      new i v a = all_set (IsViewOfWord false) (unseen ∷ []) 0 unseen record { first = λ z. refl; found = λ l. absurd (omega arith); known = λ j n e. absurd (cc) } (λ j u ne b. absurd (ne (only j u b))) i v a
        where
          only : (j : ℕ) (u : WordView) → get_elem? (unseen ∷ []) j ≡ some u → j ≡ 0
          only zero u b = refl
          only (suc j) u b = absurd (some-ne-none u (sym b))

  pub looks : (slots id : ℕ) (me : Me S WordView) → Allows Closes slots id me 0 (λ n. n) (AfterLook (step slots 0 0 0 none) me)
  looks slots id me s r _ at _ =
      let found : get_or s.words 0 0 ≡ word_of r.closed = ap (λ ws. get_or ws 0 0) r.word in
      let kept : set s.words 0 (get_or s.words 0 0) ≡ word_of r.closed ∷ [] = set-get_or s.words 0 0 ∙ r.word in
      let mine = r.each_seat id me.0 at in
      dite (ℕ_discrete (get_or s.words 0 0) 1)
      (λ one. let is : r.closed ≡ true = is_closed r.closed (sym found ∙ one) in (
        after_found me.0,
        keeps,
        tt,
        record {
          closed = r.closed;
          word = kept;
          each_seat = all_set (IsViewOfWord r.closed) s.views id (after_found me.0) record { first = mine.first; found = λ _. is; known = mine.known } (λ j u ne a. r.each_seat j u a);
        },
        ((λ _. refl), λ ne. absurd (ne one)),
      ))
      (λ other. (
        me.0,
        keeps,
        tt,
        record {
          closed = r.closed;
          word = kept;
          each_seat = all_set (IsViewOfWord r.closed) s.views id me.0 mine (λ j u ne a. r.each_seat j u a);
        },
        ((λ e. absurd (other e)), λ _. refl),
      ))

  pub writes : (slots id : ℕ) (me : Me S WordView) → id ≡ 0 → Allows Closes slots id me 0 (λ _. 1) (λ _. AfterWrite (step slots 0 1 0 none) me 1)
  writes slots id me first s r _ at _ =
      let mine = r.each_seat id me.0 at in (
        after_close me.0,
        keeps,
        tt,
        record {
          closed = true;
          word = ap (λ ws. set ws 0 1) r.word;
          each_seat = all_set (IsViewOfWord true) s.views id (after_close me.0) record { first = λ _. refl; found = λ _. refl; known = λ _ _ _ _. refl }
              (λ j u ne a. record { first = λ z. absurd (ne (z ∙ sym first)); found = λ _. refl; known = λ _ _ _ _. refl });
        },
        refl,
      )

  pub splits : (id : ℕ) (v : WordView) → Splits {S = S} Closes id v v unseen
  splits id v s r at =
      let vs : List WordView = set s.views id v in
      let before : (j : ℕ) (u : WordView) → get_elem? vs j ≡ some u → IsViewOfWord r.closed j u = all_set (IsViewOfWord r.closed) s.views id v (r.each_seat id v at) (λ j u ne a. r.each_seat j u a) in record {
        closed = r.closed;
        word = r.word;
        each_seat = λ j u a. ⊎_elim (before j u)
            (λ (is : (j ≡ length vs) × (unseen ≡ u)). subst (IsViewOfWord r.closed j) is.1 record {
              first = λ z. let i = inside s.views id v at in let e : length vs ≡ length s.views = length-set s.views id v in let k = is.0 in absurd (omega arith);
              found = λ l. absurd (omega arith);
              known = λ k n e. absurd (cc);
            })
            (at_snoc vs unseen u j a);
      }

  pub joins : (id : ℕ) (v : WordView) (other : ℕ) (w : WordView) → id ≡ 0 → Joins {S = S} Closes id v other w (with_returned v w) unseen
  joins id v other w first s r at apart at' =
      let both : WordView = with_returned v w in
      let vs : List WordView = set s.views id both in
      let mine = r.each_seat id v at in
      let was : get_elem? s.views other ≡ some w = ⊎_elim (λ (x : (other ≡ id) × (both ≡ w)). absurd (apart x.0)) (λ (x : (other ≢ id) × (get_elem? s.views other ≡ some w)). x.1) (at_set s.views id other both w at') in
      let theirs = r.each_seat other w was in
      let G : ℕ → WordView → Type 0 = λ j u. j ≢ other → IsViewOfWord r.closed j u in
      let now : (j : ℕ) (u : WordView) → get_elem? vs j ≡ some u → G j u = all_set G s.views id both
      (λ _. record {
        first = mine.first;
        found = mine.found;
        known = λ j n e l. ⊎_elim (λ (o : slice_get v.known j ≡ Some n). mine.known j n o l) (λ (is : w.found ≡ n). theirs.found (let k = is in omega arith)) (get_snoc v.known w.found n j e);
      })
      (λ j u ne a _. r.each_seat j u a) in record {
        closed = r.closed;
        word = r.word;
        each_seat = all_set (IsViewOfWord r.closed) vs other unseen
            record { first = λ z. absurd (apart (z ∙ sym first)); found = λ l. absurd (omega arith); known = λ k n e. absurd (cc) }
            (λ j u ne a. now j u a ne);
      }

  -- what the taker knows at the end
  pub ends : (id : ℕ) (v : WordView) (s : State S WordView) → id ≡ 0 → Seen Closes id v s → IsClosedWhereFound v
  ends id v s first seen j n e l = let mine = seen.0.each_seat id v seen.1 in mine.first first ∙ mine.known j n e l
