-- A shelf that was asked for texts, each of which was given and read, before its sources.
use Rattle.std.proofs.Common.{◌≡◌, ℕ, List, ◌++◌, Option, Some, map, slice_get, sym, ap, ◌∙◌, subst, append_assoc}
use Rattle.std.proofs.lemmas.List.{map-append}
use Rattle.lola_port.specs.Asks.{given_ask}
use Rattle.lola_port.specs.States.{Rose, ShelfState}
use Rattle.lola_port.specs.declared.traits.Ask.{Ask}
use Rattle.lola_model.specs.Journal.{rows_of}
use Rattle.lola_model.specs.declared.journal.Entry.{Entry}
use Rattle.lola_model.specs.declared.plan.Plan.{Plan}
use Rattle.lola_rows.specs.Rows.{SourceEnd}
use Rattle.lola_monitor.specs.Causes.{AllHome}
use Rattle.lola_monitor.specs.Monitor.{AllBegin, AllEnd, AllRead, Begins, Ends, GoInTurns, HasRows, WereGiven, asks_between, first_failed_ask}
use Rattle.lola_monitor.specs.Outcomes.{CameHome}
use Rattle.lola_monitor.proofs.Calls.{between}
use Rattle.lola_monitor.proofs.FailedAsks.{none_behind_given}

module _ (texts sources : List (List ℕ)) (plan : Plan) (before mid after : ShelfState) (told_is : mid.told ≡ before.told) (asks_are : mid.asks ≡ before.asks ++ map given_ask texts) (count_is : mid.count ≡ before.count) where
  told : (name : List ℕ) → mid.told name ≡ before.told name
  told name = ap (λ (f : List ℕ → Option (List ℕ)). f name) told_is

  pub between_all : (asks : List Ask) → after.asks ≡ mid.asks ++ asks → asks_between before after ≡ map given_ask texts ++ asks
  between_all asks is =
      between before after (map given_ask texts ++ asks) (is ∙ (ap (λ (l : List Ask). l ++ asks) asks_are ∙ append_assoc before.asks (map given_ask texts) asks))

  pub all_given : AllHome sources mid after → asks_between before after ≡ map given_ask (texts ++ sources)
  all_given home = between_all (map given_ask sources) home.asks ∙ sym (map-append given_ask texts sources)

  pub rose_by : Rose mid.count after.count → Rose before.count after.count
  rose_by rose = subst (λ n. Rose n after.count) count_is rose

  pub were_given : (asks : List Ask) → CameHome sources asks mid after → WereGiven sources asks before after
  were_given asks home = record {
    named = home.named;
    given = home.given;
    unfailed = λ none. home.unfailed none ∙ count_is;
    failed = λ at some. rose_by (home.failed at some);
  }

  pub all_begin : (journal : List Entry) → AllBegin mid plan sources journal → AllBegin before plan sources journal
  all_begin journal begin n name is = subst (λ t. Begins t plan n (rows_of n journal)) (told name) (begin n name is)

  pub all_read : (asks : List Ask) (journal : List Entry) → AllRead mid plan sources asks journal → AllRead before plan sources asks journal
  all_read asks journal all n name ask is there sound = let r = all n name ask is there sound in (r.0, subst (λ t. Ends t plan n (rows_of n journal) r.0) (told name) r.1)

  pub all_end : (journal : List Entry) (ends : List SourceEnd) → AllEnd mid plan sources journal ends → AllEnd before plan sources journal ends
  all_end journal ends all = record { many = all.many; each = λ n name end is at. subst (λ t. Ends t plan n (rows_of n journal) end) (told name) (all.each n name end is at) }

  pub each_end : (end : SourceEnd) (journal : List Entry) → ((n : ℕ) (name : List ℕ) → slice_get sources n ≡ Some name → Ends (mid.told name) plan n (rows_of n journal) end)
      → (n : ℕ) (name : List ℕ) → slice_get sources n ≡ Some name → Ends (before.told name) plan n (rows_of n journal) end
  each_end end journal all n name is = subst (λ t. Ends t plan n (rows_of n journal) end) (told name) (all n name is)

  pub go_in_turns : (asks : List Ask) (journal : List Entry) → after.asks ≡ mid.asks ++ asks → GoInTurns sources plan mid after journal → GoInTurns sources plan before after journal
  go_in_turns asks journal is turns = record {
    lists = turns.lists;
    many = turns.many;
    fronts = λ n name rows named at. subst (λ t. Begins t plan n rows) (told name) (turns.fronts n name rows named at);
    whole = λ none n name rows named at.
        subst (λ t. HasRows t plan n rows) (told name)
        (turns.whole (ap first_failed_ask (between mid after asks is) ∙ none_behind_given texts asks (sym (ap first_failed_ask (between_all asks is)) ∙ none)) n name rows named at);
    first = turns.first;
  }
