-- What a take tells.
use Rattle.std.proofs.Common.{◌≡◌, ◌≢◌, ℕ, ◌+◌, ◌<◌, ◌⊎◌, Bool, true, true≢false, List, [], ◌∷◌, ◌++◌, length, Option, sym, refl, ap, ◌∙◌, subst, inl, inr, arith}
use Rattle.atomic_table.specs.Seated.{TableId}
use Rattle.lola_model.specs.Journal.{opening_time}
use Rattle.lola_model.specs.declared.journal.Entry.{Entry}
use Rattle.lola_merge.specs.Merging.{Merging, sources_of, has_finished, TakeIsDue}
use Rattle.lola_merge.specs.declared.state.Take.{Take}
use Rattle.lola_merge.specs.declared.state.Take.TheVariants.{Rows, AllDone, Nothing}
use Rattle.lola_queue_intake.specs.declared.item.Item.{Item}
use Rattle.lola_queue_intake.specs.Deliveries.{most_items, items_of, has_finish}
use Rattle.lola_queue_intake.specs.Intakes.{TakerShown, taker_shown, entries, has_popped_finish, HasPoppedAll, Took, Mirrors}
use Rattle.lola_queue_intake.proofs.Mirroring.{entries_legal}

-- what is due where these have finished is due where those have who are the same
due_of : (n sources : ℕ) (f g : ℕ → Bool) (t : Take) → ((s : ℕ) → s < sources → f s ≡ g s) → TakeIsDue n sources f t → TakeIsDue n sources g t
due_of n sources f g (Rows k) same due = due
due_of n sources f g AllDone same due = (due.0, λ s l. sym (same s l) ∙ due.1 s l)
due_of n sources f g Nothing same due = (due.0, (due.1.0, due.1.1, sym (same due.1.0 due.1.1) ∙ due.1.2))

-- where nothing is pending and the answer is not that all is done, some source has not finished
not_all : (sources : ℕ) (f : ℕ → Bool) (t : Take) → TakeIsDue 0 sources f t → t ≢ AllDone → ((s : ℕ) → s < sources → f s ≡ true) → ⊥
not_all sources f (Rows k) due other all = omega arith
not_all sources f AllDone due other all = other refl
not_all sources f Nothing due other all = true≢false (sym (all due.1.0 due.1.1) ∙ due.1.2)

module _ (queue queue' word word' : TableId) (start : Option ℕ) (mine mine' : List Item) (empty empty' : ℕ) (closed closed' : Bool) (m : Merging) (sources' : ℕ)
    (same_queue : queue' ≡ queue) (same_word : word' ≡ word) (same_sources : sources' ≡ sources_of m) (same_closed : closed' ≡ closed) where
  abbrev Old : TakerShown
  Old = taker_shown queue word (sources_of m) start mine empty closed

  abbrev New : TakerShown
  New = taker_shown queue' word' sources' start mine' empty' closed'

  -- each finish was popped before
  pub took_nothing : (t : Take) (moved : List Entry) → Mirrors start mine (entries (opening_time start) mine) m → m.pending ≡ [] → mine' ≡ mine → empty' ≡ empty → moved ≡ m.pending → TakeIsDue (length m.pending) (sources_of m) (has_finished m) t → t ≡ AllDone → Took t moved Old New
  took_nothing t moved h none same_mine same_empty moves due done =
      let nothing : moved ≡ [] = moves ∙ none in
      let all = subst (TakeIsDue (length m.pending) (sources_of m) (has_finished m)) done due in
      let popped_all : HasPoppedAll Old = λ s l. sym (h.finished s l) ∙ all.1 s l in
      let same : New ≡ Old = λ i. taker_shown (same_queue i) (same_word i) (same_sources i) start (same_mine i) (same_empty i) (same_closed i) in record {
        intake = ap (λ (z : TakerShown). z.intake) same;
        sources = same_sources;
        start = refl;
        closed = same_closed;
        popped = ([], same_mine ∙ no_more mine);
        took = ap (entries (opening_time start)) same_mine ∙ (no_more (entries (opening_time start) mine) ∙ ap (λ l. entries (opening_time start) mine ++ l) (sym nothing));
        marked = entries_legal (opening_time start) mine';
        answer = subst (TakeIsDue (length moved) (sources_of m) (has_popped_finish New)) (sym done)
            (ap length nothing, λ s l. ap (λ l. has_finish (items_of s l)) same_mine ∙ popped_all s l);
        stopped = inl popped_all;
        done = λ _. same;
      }
    where
      no_more : {A : Type 0} (xs : List A) → xs ≡ xs ++ []
      no_more [] = refl
      no_more (x ∷ xs) = ap (λ l. x ∷ l) (no_more xs)

  -- items are popped
  pub took_some : (first t : Take) (moved : List Entry) (more : List Item) (m1 : Merging) → sources_of m1 ≡ sources_of m → Mirrors start mine (entries (opening_time start) mine) m → m.pending ≡ [] → TakeIsDue (length m.pending) (sources_of m) (has_finished m) first → first ≢ AllDone
      → mine' ≡ mine ++ more → Mirrors start mine' (entries (opening_time start) mine) m1 → moved ≡ m1.pending → TakeIsDue (length m1.pending) (sources_of m1) (has_finished m1) t
      → ((length m1.pending ≡ most_items) × (empty' ≡ empty)) ⊎ (empty' ≡ empty + 1) → Took t moved Old New
  took_some first t moved more m1 same_count h none due other popped h' moves due' stopped =
      let before : HasPoppedAll Old → ⊥ = λ all. not_all (sources_of m) (has_finished m) first (subst (λ n. TakeIsDue n (sources_of m) (has_finished m) first) (ap length none) due) other (λ s l. h.finished s l ∙ all s l) in record {
        intake = λ i. record { queue = same_queue i; word = same_word i };
        sources = same_sources;
        start = refl;
        closed = same_closed;
        popped = (more, popped);
        took = h'.pending ∙ ap (λ l. entries (opening_time start) mine ++ l) (sym moves);
        marked = entries_legal (opening_time start) mine';
        answer = subst (λ (l : List Entry). TakeIsDue (length l) (sources_of m) (has_popped_finish New) t) (sym moves)
            (due_of (length m1.pending) (sources_of m) (has_finished m1) (has_popped_finish New) t (λ s l. h'.finished s (subst (λ n. s < n) (sym same_count) l)) (subst (λ n. TakeIsDue (length m1.pending) n (has_finished m1) t) same_count due'));
        stopped = inr (subst (λ (l : List Entry). ((length l ≡ most_items) × (empty' ≡ empty)) ⊎ (empty' ≡ empty + 1)) (sym moves) stopped);
        done = λ all. absurd (before all);
      }
