-- What was drawn in turns goes in rounds, wherever a run stops.
use Rattle.std.proofs.Common.{◌≡◌, ℕ, ◌<◌, ◌≤◌, List, [], ◌++◌, Option, Some, None, length, refl, sym, ap, ◌∙◌, subst, inl, inr, arith}
use Rattle.std.proofs.lemmas.List.{append-nil}
use Rattle.std.proofs.lemmas.Option.{slice_get_within}
use Rattle.std.specs.Prelude.{slice_get}
use mathlib.Core.Logic.{dite}
use native.Mathlib.Decide.{ℕ_discrete}
use Rattle.lola_model.specs.Journal.{rows_of}
use Rattle.lola_model.specs.declared.journal.Row.{Row}
use Rattle.lola_model.specs.declared.journal.Entry.{Entry}
use Rattle.lola_model.proofs.Growing.{slice_get_some}
use Rattle.lola_rows.specs.Rows.{SourceRows}
use Rattle.lola_feed.specs.declared.worker.SourceEnd as worker
use Rattle.lola_feed.specs.declared.worker.SourceEnd.TheVariants as end
use Rattle.lola_monitor_run.specs.Feeds.{AreFed, BeganWith, GoInRounds, HasEnded, HaveBegun, IsSound, Supply, World}
use Rattle.lola_monitor_run.specs.Turning.{Drawn, Goes, Touched}
use Rattle.lola_monitor_run.proofs.Lists.{some_is, some_not}
use Rattle.lola_monitor_run.proofs.Listing.{Prolongs, are_first, table, table_get, table_many}
use Rattle.lola_monitor_run.proofs.Drawing.{other_is, own_is}

-- all rows of a source that tells them and has not failed, and else those that it gave
abbrev chosen : Option SourceRows → Option worker.SourceEnd → List Row → List Row
chosen None how given = given
chosen (Some all) None given = all.rows
chosen (Some all) (Some end.End) given = all.rows
chosen (Some all) (Some (end.Malformed kind row)) given = all.rows
chosen (Some all) (Some end.ReadFailed) given = given
chosen (Some all) (Some end.Closed) given = all.rows
chosen (Some all) (Some end.Memory) given = all.rows

-- for a source by what it was and is
abbrev chosen_at : Option Supply → Option Supply → List Row → List Row
chosen_at None now given = given
chosen_at (Some old) None given = given
chosen_at (Some old) (Some new) given = chosen old.rest new.end given

-- the rows of all are a list that begins with each front
abbrev IsListAt : Option SourceRows → Option worker.SourceEnd → List Row → Type 0
IsListAt rest how list = (all : SourceRows) → rest ≡ Some all → ((more : List Row) × (all.rows ≡ list ++ more)) × ((how ≡ Some end.ReadFailed → ⊥) → all.rows ≡ list)

whole_list : (all : SourceRows) (how : Option worker.SourceEnd) → IsListAt (Some all) how all.rows
whole_list all how other is = let same : other.rows ≡ all.rows = ap (λ (r : SourceRows). r.rows) (sym (some_is is)) in (([], same ∙ sym (append-nil all.rows)), λ sound. same)

chosen_is : (rest : Option SourceRows) (how : Option worker.SourceEnd) (given : List Row) → BeganWith rest given → IsListAt rest how (chosen rest how given)
chosen_is None how given began = λ all is. absurd (some_not (sym is))
chosen_is (Some all) None given began = whole_list all None
chosen_is (Some all) (Some end.End) given began = whole_list all (Some end.End)
chosen_is (Some all) (Some (end.Malformed kind row)) given began = whole_list all (Some (end.Malformed kind row))
chosen_is (Some all) (Some end.ReadFailed) given began = λ other is. (began other is, λ sound. absurd (sound refl))
chosen_is (Some all) (Some end.Closed) given began = whole_list all (Some end.Closed)
chosen_is (Some all) (Some end.Memory) given began = whole_list all (Some end.Memory)

-- such a list is what was given, or goes on behind it
prolongs : (goes : Type 0) (old new : Supply) (given : List Row) (rest : Option SourceRows) (how : Option worker.SourceEnd) → old.rest ≡ rest → HasEnded how old new given → (how ≡ None → goes) → Prolongs goes given (chosen rest how given)
prolongs goes old new given None how told ended on = inl refl
prolongs goes old new given (Some all) None told ended on = let p = ended.0 all told in inr (on refl, (p.0.rows, ap (λ (r : SourceRows). r.rows) p.2))
prolongs goes old new given (Some all) (Some end.End) told ended on = inl (ap (λ (r : SourceRows). r.rows) (ended.0 all told))
prolongs goes old new given (Some all) (Some (end.Malformed kind row)) told ended on = inl (ap (λ (r : SourceRows). r.rows) (ended.0 all told))
prolongs goes old new given (Some all) (Some end.ReadFailed) told ended on = inl refl
prolongs goes old new given (Some all) (Some end.Closed) told ended on = absurd ended
prolongs goes old new given (Some all) (Some end.Memory) told ended on = absurd ended

-- the first rows of each
pub begun : (olds news : List Supply) (journal : List Entry) → AreFed olds news journal → HaveBegun olds journal
begun olds news journal fed s old was =
    let new = slice_get_some news s (let e = fed.many in let l = slice_get_within olds s old was in omega arith) in
    (fed.each s old new.0 was new.1).began

module _ (first : World) (n k : ℕ) (nows : List Supply) (journal : List Entry) (within : k ≤ length first.sources) (drawn : Drawn first n k nows journal) where
  abbrev list : ℕ → List Row
  list s = chosen_at (slice_get first.sources s) (slice_get nows s) (rows_of s journal)

  list_is : (s : ℕ) (old new : Supply) → slice_get first.sources s ≡ Some old → slice_get nows s ≡ Some new → list s ≡ chosen old.rest new.end (rows_of s journal)
  list_is s old new was is = ap (λ o. chosen_at o (slice_get nows s) (rows_of s journal)) was ∙ ap (λ o. chosen_at (Some old) o (rows_of s journal)) is

  goes_on_with : (s : ℕ) → s < length first.sources → Prolongs (Goes nows s) (rows_of s journal) (list s)
  goes_on_with s less =
      let old = slice_get_some first.sources s less in
      let new = slice_get_some nows s (let e = drawn.fed.many in omega arith) in
      subst (Prolongs (Goes nows s) (rows_of s journal)) (sym (list_is s old.0 new.0 old.1 new.1))
      (prolongs (Goes nows s) old.0 new.0 (rows_of s journal) old.0.rest new.0.end refl (drawn.fed.each s old.0 new.0 old.1 new.1).end (λ none. (new.0, new.1, none)))

  pub in_rounds : GoInRounds first.sources nows journal
  in_rounds = record {
    lists = table list (length first.sources);
    many = table_many list (length first.sources);
    are = λ s old new rows was is at.
        let same : rows ≡ chosen old.rest new.end (rows_of s journal) = table_get list (length first.sources) s rows (slice_get_within first.sources s old was) at ∙ list_is s old new was is in
        subst (IsListAt old.rest new.end) (sym same) (chosen_is old.rest new.end (rows_of s journal) (drawn.fed.each s old new was is).began);
    first = are_first (length first.sources) n k (Goes nows) (λ s. rows_of s journal) list journal drawn.turns within goes_on_with;
    failed = λ s old new was is failed. subst (λ (e : Option worker.SourceEnd). HasEnded e old new (rows_of s journal)) failed (drawn.fed.each s old new was is).end;
  }

-- a source was touched, and nothing came of it
pub touched_in_rounds : (olds nows news : List Supply) (k : ℕ) (journal : List Entry) (at : Touched k nows news) → IsSound at.new → GoInRounds olds nows journal → GoInRounds olds news journal
touched_in_rounds olds nows news k journal at sound g = record {
  lists = g.lists;
  many = g.many;
  are = λ s old new rows was is listed. dite (ℕ_discrete s k)
      (λ same all told.
      let l = g.are s old at.old rows was (ap (slice_get nows) same ∙ at.was) listed all told in
      (l.0, λ fine. l.1 (λ failed. some_not (sym failed ∙ at.went_on))))
      (λ apart. g.are s old new rows was (sym (other_is k nows news at s apart) ∙ is) listed);
  first = g.first;
  failed = λ s old new was is failed. dite (ℕ_discrete s k)
      (λ same. absurd (sound (ap (λ (x : Supply). x.end) (sym (own_is k nows news at s new same is)) ∙ failed)))
      (λ apart. g.failed s old new was (sym (other_is k nows news at s apart) ∙ is) failed);
}
