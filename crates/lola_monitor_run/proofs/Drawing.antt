-- The rows of a journal, taken in turns of sources.
use Rattle.std.proofs.Common.{◌≡◌, ◌≢◌, ℕ, suc, ◌<◌, ◌≤◌, ◌+◌, List, [], ◌∷◌, ◌++◌, cond, Option, Some, None, map, length, set, length-set, length-append, eq-eqb, ne_eqb, refl, sym, ap, ◌∙◌, subst, inl, inr, arith, append_assoc}
use Rattle.std.proofs.lemmas.List.{append-nil, map-append}
use Rattle.std.proofs.lemmas.List.Elements.{All-append, All-cons, All-nil}
use Rattle.std.proofs.lemmas.Option.{slice_get_within}
use Rattle.std.specs.Prelude.{slice_get}
use mathlib.Core.Logic.{dite}
use native.Mathlib.Decide.{ℕ_discrete}
use Rattle.lola_port.specs.States.{Rose}
use Rattle.lola_model.specs.Journal.{rows_of}
use Rattle.lola_model.specs.declared.plan.Plan.{Plan}
use Rattle.lola_model.specs.declared.journal.Row.{Row}
use Rattle.lola_model.specs.declared.journal.Entry.{Entry}
use Rattle.lola_model.proofs.Journals.{rows_of-append}
use Rattle.lola_rows.specs.Rows.{SourceEnd, SourceRows, Whole, MalformedAt}
use Rattle.lola_step.proofs.Shown.{set_else, set_here}
use Rattle.lola_feed.specs.declared.worker.SourceEnd as worker
use Rattle.lola_feed.specs.declared.worker.SourceEnd.TheVariants as end
use Rattle.lola_monitor_run.specs.Verdicts.{most_rows}
use Rattle.lola_monitor_run.specs.Rounds.{InTurn}
use Rattle.lola_monitor_run.specs.Feeds.{AreFed, BeganWith, EndedWith, HasEnded, IsAt, IsFed, Passes, Supply, World, led_by}
use Rattle.lola_monitor_run.specs.Turning.{Drawn, Finished, Goes, Rested, SatOut, Stopped, TookRow, Touched}
use Rattle.lola_monitor_run.proofs.Lists.{some_is, some_not}
use Rattle.lola_monitor_run.proofs.Listing.{moves, next_round, sits_out, starts}

-- rows that were taken, one after another

passes_none : (rest : Option SourceRows) → Passes rest rest []
passes_none rest all is = (all, is, refl)

led_twice : (xs ys : List Row) (more : SourceRows) → led_by xs (led_by ys more) ≡ led_by (xs ++ ys) more
led_twice xs ys more = ap (λ (rows : List Row). record { rows = rows; end = more.end }) (sym (append_assoc xs ys more.rows))

passes_more : (a b c : Option SourceRows) (xs ys : List Row) → Passes a b xs → Passes b c ys → Passes a c (xs ++ ys)
passes_more a b c xs ys first second all is =
    let f = first all is in
    let g = second f.0 f.1 in
    (g.0, g.1, f.2 ∙ ap (led_by xs) g.2 ∙ led_twice xs ys g.0)

passes_ends : (a b : Option SourceRows) (xs : List Row) (end : SourceEnd) → Passes a b xs → IsAt end b → EndedWith end a xs
passes_ends a b xs end passes ends all is =
    let f = passes all is in
    f.2 ∙ ap (led_by xs) (ends f.0 f.1) ∙ ap (λ (rows : List Row). record { rows = rows; end = end }) (append-nil xs)

passes_began : (a b : Option SourceRows) (xs : List Row) → Passes a b xs → BeganWith a xs
passes_began a b xs passes all is = let f = passes all is in (f.0.rows, ap (λ (r : SourceRows). r.rows) f.2)

-- one entry more, of this source or another

rows_own : (journal : List Entry) (entry : Entry) (s : ℕ) → entry.row.source ≡ s → rows_of s (journal ++ entry ∷ []) ≡ rows_of s journal ++ entry.row ∷ []
rows_own journal entry s is = rows_of-append s journal (entry ∷ []) ∙ ap (λ (rows : List Row). rows_of s journal ++ rows) (ap (λ b. cond b (entry.row ∷ []) []) (eq-eqb entry.row.source s is))

rows_other : (journal : List Entry) (entry : Entry) (s : ℕ) → entry.row.source ≢ s → rows_of s (journal ++ entry ∷ []) ≡ rows_of s journal
rows_other journal entry s not = rows_of-append s journal (entry ∷ []) ∙ (ap (λ (rows : List Row). rows_of s journal ++ rows) (ap (λ b. cond b (entry.row ∷ []) []) (ne_eqb entry.row.source s not)) ∙ append-nil (rows_of s journal))

-- sources of which one was touched
module _ (k : ℕ) (olds news : List Supply) (at : Touched k olds news) where
  pub there : k < length olds
  there = slice_get_within olds k at.old at.was

  pub as_many : length news ≡ length olds
  as_many = ap length at.now ∙ length-set olds k at.new

  pub own_is : (s : ℕ) (new : Supply) → s ≡ k → slice_get news s ≡ Some new → new ≡ at.new
  own_is s new same is = some_is (sym is ∙ (ap (λ l. slice_get l s) at.now ∙ (ap (slice_get (set olds k at.new)) same ∙ set_here olds k at.new there)))

  pub other_is : (s : ℕ) → (s ≡ k → ⊥) → slice_get news s ≡ slice_get olds s
  other_is s apart = ap (λ l. slice_get l s) at.now ∙ set_else olds k s at.new apart

  -- a source that goes on went on before
  pub went_on : (s : ℕ) → Goes news s → Goes olds s
  went_on s on = dite (ℕ_discrete s k)
      (λ same. (at.old, ap (slice_get olds) same ∙ at.was, at.went_on))
      (λ apart. (on.0, sym (other_is s apart) ∙ on.1, on.2))

-- of a source that goes on
going_end : (old new : Supply) (rows : List Row) → new.end ≡ None → HasEnded new.end old new rows → HasEnded None old new rows
going_end old new rows none ended = subst (λ (e : Option worker.SourceEnd). HasEnded e old new rows) none ended

-- a source gave one row more
fed_more : (plan : Plan) (old mid new : Supply) (row : Row) (rows : List Row) → IsFed old mid rows → mid.end ≡ None → new.end ≡ None → Passes mid.rest new.rest (row ∷ []) → new.number ≡ mid.number + 1 → new.number ≤ most_rows → new.count ≡ mid.count
    → IsFed old new (rows ++ row ∷ [])
fed_more plan old mid new row rows fed went_on goes_on passes number few count =
    let was = going_end old mid rows went_on fed.end in
    let through = passes_more old.rest mid.rest new.rest rows (row ∷ []) was.0 passes in
    let long : length (rows ++ row ∷ []) ≡ new.number = (let a = length-append rows (row ∷ []) in let b = was.1 in omega arith) in
    record {
      few = subst (λ n. n ≤ most_rows) (sym long) few;
      began = passes_began old.rest new.rest (rows ++ row ∷ []) through;
      end = subst (λ (e : Option worker.SourceEnd). HasEnded e old new (rows ++ row ∷ [])) (sym goes_on) (through, sym long, count ∙ was.2);
    }

-- a source gave none, and has ended
fed_ended : (how : worker.SourceEnd) (old mid new : Supply) (rows : List Row) → (how ≡ end.Memory → ⊥) → IsFed old mid rows → mid.end ≡ None → new.end ≡ Some how → Stopped how mid new → IsFed old new rows
fed_ended how old mid new rows enough fed went_on over stopped = record {
  few = fed.few;
  began = fed.began;
  end = subst (λ (e : Option worker.SourceEnd). HasEnded e old new rows) (sym over) (by_end how enough (going_end old mid rows went_on fed.end) stopped);
}
  where
    by_end : (how : worker.SourceEnd) → (how ≡ end.Memory → ⊥) → HasEnded None old mid rows → Stopped how mid new → HasEnded (Some how) old new rows
    by_end end.End enough was stopped = (passes_ends old.rest mid.rest rows Whole was.0 stopped.0, stopped.1 ∙ was.2)
    by_end (end.Malformed kind row) enough was stopped = (passes_ends old.rest mid.rest rows (MalformedAt kind row) was.0 stopped.0, stopped.1 ∙ was.2)
    by_end end.ReadFailed enough was stopped = subst (λ n. Rose n new.count) was.2 stopped
    by_end end.Closed enough was stopped = absurd stopped
    by_end end.Memory enough was stopped = absurd (enough refl)

abbrev IsBelow : ℕ → Entry → Type 0
IsBelow n e = e.row.source < n

-- before the first turn
pub drawn_none : (first : World) → ((s : ℕ) (source : Supply) → slice_get first.sources s ≡ Some source → (source.end ≡ None) × (source.number ≡ 0)) → Drawn first 0 0 first.sources []
drawn_none first fresh = record {
  of_sources = All-nil (IsBelow (length first.sources));
  fed = record {
    many = refl;
    each = λ s old new was is.
        let same : new ≡ old = some_is (sym is ∙ was) in
        let f = fresh s old was in
        subst (λ (x : Supply). IsFed old x []) (sym same) (record {
          few = omega arith;
          began = passes_began old.rest old.rest [] (passes_none old.rest);
          end = subst (λ (e : Option worker.SourceEnd). HasEnded e old old []) (sym f.0) (passes_none old.rest, f.1, refl);
        });
  };
  turns = starts (length first.sources) (Goes first.sources) (λ s. rows_of s []) (λ s. refl);
}

module _ (first : World) (n k : ℕ) (nows : List Supply) (journal : List Entry) (drawn : Drawn first n k nows journal) where
  -- a row was taken of the source whose turn it is
  module _ (plan : Plan) (news : List Supply) (entry : Entry) (took : TookRow plan k entry.row nows news) where
    below : k < length first.sources
    below = subst (λ m. k < m) drawn.fed.many (there k nows news took.at)

    fed_next : AreFed first.sources news (journal ++ entry ∷ [])
    fed_next = record {
      many = as_many k nows news took.at ∙ drawn.fed.many;
      each = λ s old new was is. dite (ℕ_discrete s k)
          (λ same.
          let fed = drawn.fed.each s old took.at.old was (ap (slice_get nows) same ∙ took.at.was) in
          let more = fed_more plan old took.at.old took.at.new entry.row (rows_of s journal) fed took.at.went_on took.goes_on took.passes took.number took.few took.count in
          subst (λ (x : Supply). IsFed old x (rows_of s (journal ++ entry ∷ []))) (sym (own_is k nows news took.at s new same is))
          (subst (IsFed old took.at.new) (sym (rows_own journal entry s (took.source ∙ sym same))) more))
          (λ apart. subst (IsFed old new) (sym (rows_other journal entry s (λ e. apart (sym e ∙ took.source)))) (drawn.fed.each s old new was (sym (other_is k nows news took.at s apart) ∙ is)));
    }

    pub draws : Drawn first n (suc k) news (journal ++ entry ∷ [])
    draws = record {
      of_sources = All-append (IsBelow (length first.sources)) journal (entry ∷ []) drawn.of_sources
          (All-cons (IsBelow (length first.sources)) entry [] (subst (λ s. s < length first.sources) (sym took.source) below) (All-nil (IsBelow (length first.sources))));
      fed = fed_next;
      turns = subst (InTurn (length first.sources) n (suc k) (Goes news) (λ s. rows_of s (journal ++ entry ∷ []))) (sym (map-append (λ (e : Entry). e.row) journal (entry ∷ [])))
          (moves (length first.sources) n k (Goes nows) (Goes news) (λ s. rows_of s journal) (map (λ (e : Entry). e.row) journal) drawn.turns below (went_on k nows news took.at)
          (λ s. rows_of s (journal ++ entry ∷ [])) entry.row (took.at.old, took.at.was, took.at.went_on) (rows_own journal entry k took.source) (λ s apart. rows_other journal entry s (λ e. apart (sym e ∙ took.source))));
    }

  -- it had none
  rests : (news : List Supply) → Rested k nows news → Drawn first n (suc k) news journal
  rests news r = subst (λ l. Drawn first n (suc k) l journal) (sym r.same) (record {
    of_sources = drawn.of_sources;
    fed = drawn.fed;
    turns = sits_out (length first.sources) n k (Goes nows) (Goes nows) (λ s. rows_of s journal) (map (λ (e : Entry). e.row) journal) drawn.turns (subst (λ m. k < m) drawn.fed.many (slice_get_within nows k r.source r.was)) (λ s on. on)
        (λ on. some_not (sym r.over ∙ (ap (λ (x : Supply). x.end) (some_is (sym r.was ∙ on.1)) ∙ on.2)));
  })

  ends : (news : List Supply) (how : worker.SourceEnd) → (how ≡ end.Memory → ⊥) → Finished k how nows news → Drawn first n (suc k) news journal
  ends news how enough f = record {
    of_sources = drawn.of_sources;
    fed = record {
      many = as_many k nows news f.at ∙ drawn.fed.many;
      each = λ s old new was is. dite (ℕ_discrete s k)
          (λ same. subst (λ (x : Supply). IsFed old x (rows_of s journal)) (sym (own_is k nows news f.at s new same is))
          (fed_ended how old f.at.old f.at.new (rows_of s journal) enough (drawn.fed.each s old f.at.old was (ap (slice_get nows) same ∙ f.at.was)) f.at.went_on f.over f.stopped))
          (λ apart. drawn.fed.each s old new was (sym (other_is k nows news f.at s apart) ∙ is));
    };
    turns = sits_out (length first.sources) n k (Goes nows) (Goes news) (λ s. rows_of s journal) (map (λ (e : Entry). e.row) journal) drawn.turns (subst (λ m. k < m) drawn.fed.many (there k nows news f.at)) (went_on k nows news f.at)
        (λ on. some_not (sym f.over ∙ (ap (λ (x : Supply). x.end) (sym (own_is k nows news f.at k on.0 refl on.1)) ∙ on.2)));
  }

  pub sits : (news : List Supply) → SatOut k nows news → Drawn first n (suc k) news journal
  sits news (inl r) = rests news r
  sits news (inr f) = ends news f.0 f.1.0 f.1.1

-- a round is over
pub round_drawn : (first : World) (n : ℕ) (nows : List Supply) (journal : List Entry) → Drawn first n (length first.sources) nows journal → Drawn first (suc n) 0 nows journal
round_drawn first n nows journal d = record {
  of_sources = d.of_sources;
  fed = d.fed;
  turns = next_round (length first.sources) n (Goes nows) (λ s. rows_of s journal) (map (λ (e : Entry). e.row) journal) d.turns;
}
