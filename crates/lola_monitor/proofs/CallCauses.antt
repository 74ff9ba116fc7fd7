-- Why a run that goes on from a state, or a snapshot, ended so, from why its sources' rows did and from what was read before them.
use Rattle.std.proofs.Common.{◌≡◌, ℕ, List, ◌∷◌, ◌++◌, Option, None, Some, map, refl, sym, ap, ◌∙◌, subst}
use Rattle.std.specs.Option.{option_to_list}
use Rattle.lola_port.specs.Asks.{given_ask}
use Rattle.lola_port.specs.States.{ShelfState}
use Rattle.lola_model.specs.declared.journal.Show.{Show}
use Rattle.lola_model.specs.declared.plan.Plan.{Plan}
use Rattle.lola_rows.specs.Rows.{SourceEnd}
use Rattle.lola_report.specs.declared.end.EndLine.{EndLine}
use Rattle.lola_report.specs.declared.end.EndLine.TheVariants.{Done, Usage, Refused, Malformed, Fault, UnreadableSpecification, UnreadableSource, Analysed}
use Rattle.lola_save.specs.declared.end.StateEnd.TheVariants as state_end
use Rattle.lola_monitor_run.specs.Running.{Keeping}
use Rattle.lola_monitor.specs.Causes.{AllReadTo, AreWhole, Causes, EndsSo, SourcesCause, SourcesMalformed, SourcesRead, SourcesUnread, SourcesWell, StoodMalformedSource, StoodUnreadSource, StoodWell}
use Rattle.lola_monitor.specs.Command.{Resumption, SnapshotNames}
use Rattle.lola_monitor.specs.Monitor.{Outside, Plans, outside}
use Rattle.lola_monitor.specs.Outcomes.{AreUntouched, noted, without_plan}
use Rattle.lola_monitor.specs.Pasts.{Inputs, texts_of}
use Rattle.lola_monitor.specs.ResumedOutcomes.{RunRead, without_engine}
use Rattle.lola_monitor.specs.Resumed.{inputs_of as inputs_of_resumed}
use Rattle.lola_monitor.specs.SnapshotOutcomes.{CausesOver, nowhere}
use Rattle.lola_monitor.specs.Snapshots.{inputs_of}
use Rattle.lola_monitor.specs.Stating.{NoEngine}
use Rattle.lola_monitor.specs.declared.call_end.CallEnd.{CallEnd}
use Rattle.lola_monitor.specs.declared.call_end.CallEnd.TheVariants.{Line, Drilled, Report, Replayed, Stated, CutFault, Put, Memory}
use Rattle.lola_monitor.specs.declared.call_end.Unloaded.{Unloaded}
use Rattle.lola_monitor.specs.declared.call_end.Unloaded.TheVariants as unloaded
use Rattle.lola_monitor.specs.declared.call_end.Unplanned.{Unplanned}
use Rattle.lola_monitor.specs.declared.call_end.Unplanned.TheVariants as unplanned
use Rattle.lola_monitor.proofs.Calls.{asked_both}
use Rattle.lola_monitor.proofs.SourceCauses.{caused_over, untouched_whole}
use Rattle.lola_monitor.proofs.TextsFirst as first

-- ---- a text was not read, or is refused

-- the specification has no plan
pub caused_unplanned : (end : Unplanned) (inputs : Inputs) (before after : Outside) → AreUntouched before after → Causes (without_plan end) inputs before after
caused_unplanned unplanned.Unreadable inputs before after early = untouched_whole before after early
caused_unplanned (unplanned.Refused r) inputs before after early = untouched_whole before after early
caused_unplanned unplanned.Memory inputs before after early = tt

-- no engine goes on from the state
pub caused_unloaded : (end : Unloaded) (text : List ℕ) (plan : Plan) (name : List ℕ) (one two : ShelfState) (inputs : Inputs) (before after : Outside) → AreUntouched before after → NoEngine end text plan name one two
    → Causes (without_engine end) inputs before after
caused_unloaded (unloaded.Stated state_end.Unreadable) text plan name one two inputs before after early none = untouched_whole before after early
caused_unloaded (unloaded.Stated (state_end.Damaged line)) text plan name one two inputs before after early none = untouched_whole before after early
caused_unloaded (unloaded.Stated state_end.OtherSpecification) text plan name one two inputs before after early none = untouched_whole before after early
caused_unloaded (unloaded.Stated state_end.TooManySteps) text plan name one two inputs before after early none = absurd none
caused_unloaded unloaded.Memory text plan name one two inputs before after early none = tt

-- ---- all texts were read

module _ (inputs : Inputs) (plan : Plan) (before after : Outside) (mid : ShelfState) (is_plan : Plans (before.shelf.told inputs.specification) plan) where
  -- before any source was asked for
  abbrev midway : Outside
  midway = record before { shelf = mid }

  module _ (told_is : mid.told ≡ before.shelf.told) (asks_are : mid.asks ≡ before.shelf.asks ++ map given_ask (texts_of inputs)) (count_is : mid.count ≡ before.shelf.count) where
    read_to : (ends : List SourceEnd) → SourcesRead ends plan inputs.sources midway after → AllReadTo ends inputs before.shelf after.shelf
    read_to ends r = record {
      plan = plan;
      is_plan = is_plan;
      given = record {
        asks = first.all_given (texts_of inputs) inputs.sources plan before.shelf mid after.shelf told_is asks_are count_is r.home;
        count = r.home.count ∙ count_is;
      };
      ended = record {
        many = r.ended.many;
        each = λ n name end is at. subst (λ (t : Option (List ℕ)). EndsSo t plan n end) (ap (λ (f : List ℕ → Option (List ℕ)). f name) told_is) (r.ended.each n name end is at);
      };
    }

    whole_so : AreWhole midway after → AreWhole before after
    whole_so w = record { out = w.out; trace = w.trace }

    well : SourcesWell plan inputs.sources midway after → StoodWell inputs before after
    well w = record { well = record { ends = w.ends; read = read_to w.ends w.read; none = w.none }; whole = whole_so w.read.whole }

    malformed : (line : EndLine) → SourcesMalformed line plan inputs.sources midway after → StoodMalformedSource line inputs before after
    malformed line w = record { at = w.at; some = record { ends = w.ends; read = read_to w.ends w.read; least = w.least }; whole = whole_so w.read.whole; line_is = w.line_is }

    unread : (line : EndLine) → SourcesUnread line midway after → StoodUnreadSource line inputs before after
    unread line w = record {
      at = w.at;
      some = record {
        asks = w.asks;
        between = first.between_all (texts_of inputs) inputs.sources plan before.shelf mid after.shelf told_is asks_are count_is w.asks w.appended;
        least = w.least;
        rose = first.rose_by (texts_of inputs) inputs.sources plan before.shelf mid after.shelf told_is asks_are count_is w.rose;
      };
      whole = whole_so w.whole;
      line_is = w.line_is;
    }

    -- the whole call ends as its sources' rows did
    caused_by_rows : (outcome : CallEnd) → SourcesCause outcome plan inputs.sources midway after → Causes outcome inputs before after
    caused_by_rows (Line (Done a l n v)) c = well c
    caused_by_rows (Line (Malformed n row kind)) c = malformed (Malformed n row kind) c
    caused_by_rows (Line (Fault stream kind time)) c = whole_so c
    caused_by_rows (Line (UnreadableSource n)) c = unread (UnreadableSource n) c
    caused_by_rows (Line Usage) c = whole_so c
    caused_by_rows (Line (Refused r)) c = whole_so c
    caused_by_rows (Line UnreadableSpecification) c = whole_so c
    caused_by_rows (Line (Analysed n w)) c = whole_so c
    caused_by_rows (Drilled line) c = whole_so c
    caused_by_rows (Report text) c = well c
    caused_by_rows (Replayed end) c = whole_so c
    caused_by_rows (Stated state_end.Unreadable) c = whole_so c
    caused_by_rows (Stated (state_end.Damaged line)) c = whole_so c
    caused_by_rows (Stated state_end.OtherSpecification) c = whole_so c
    caused_by_rows (Stated state_end.TooManySteps) c = well c
    caused_by_rows CutFault c = c
    caused_by_rows Put c = c
    caused_by_rows Memory c = tt

  -- the specification was read, and no state is named
  pub caused_anew : inputs.state ≡ None → mid ≡ noted before.shelf inputs.specification → (outcome : CallEnd) → SourcesCause outcome plan inputs.sources midway after → Causes outcome inputs before after
  caused_anew anew read outcome cause =
      caused_by_rows (ap (λ (s : ShelfState). s.told) read)
      (ap (λ (s : ShelfState). s.asks) read ∙ ap (λ (o : Option (List ℕ)). before.shelf.asks ++ (given_ask inputs.specification ∷ map given_ask (option_to_list o))) (sym anew))
      (ap (λ (s : ShelfState). s.count) read) outcome cause

  -- the specification was read, and then the state
  pub caused_behind : (state : List ℕ) (one : ShelfState) → inputs.state ≡ Some state → one ≡ noted before.shelf inputs.specification → mid ≡ noted one state
      → (outcome : CallEnd) → SourcesCause outcome plan inputs.sources midway after → Causes outcome inputs before after
  caused_behind state one named read later outcome cause =
      caused_by_rows (ap (λ (s : ShelfState). s.told) later ∙ ap (λ (s : ShelfState). s.told) read)
      (asked_both inputs.specification state before.shelf one mid read later
      ∙ ap (λ (o : Option (List ℕ)). before.shelf.asks ++ (given_ask inputs.specification ∷ map given_ask (option_to_list o))) (sym named))
      (ap (λ (s : ShelfState). s.count) later ∙ ap (λ (s : ShelfState). s.count) read) outcome cause

-- ---- a run that goes on from a state

pub caused_resumed : (specification : List ℕ) (plan : Plan) (names : Resumption) (kept : Keeping) (merge : Option ℕ) (one two : ShelfState) (before after : Outside) (outcome : CallEnd)
    → Plans (before.shelf.told names.specification) plan → one ≡ noted before.shelf names.specification → RunRead specification plan names.show names.state kept merge one two
    → SourcesCause outcome kept.state.plan names.sources (record before { shelf = two }) after → Causes outcome (inputs_of_resumed names) before after
caused_resumed specification plan names kept merge one two before after outcome is_plan read r cause =
    caused_behind (inputs_of_resumed names) plan before after two is_plan names.state one refl read r.shelf outcome
    (subst (λ (p : Plan). SourcesCause outcome p names.sources (record before { shelf = two }) after) r.plan_is cause)

-- ---- a snapshot, over a specification that was read

module _ (specification : List ℕ) (plan : Plan) (names : SnapshotNames) (mid after : ShelfState) where
  -- it begins anew
  pub caused_over_anew : (kept : Keeping) (outcome : CallEnd) → names.state ≡ None → kept.state.plan ≡ plan → SourcesCause outcome kept.state.plan names.sources (outside mid nowhere nowhere) (outside after nowhere nowhere)
      → CausesOver outcome specification plan names mid after
  caused_over_anew kept outcome anew same cause before out trace p is_text =
      caused_anew (inputs_of names) plan (outside before out trace) (outside after out trace) mid p.is_plan anew p.shelf outcome
      (caused_over plan names.sources mid after out trace outcome (subst (λ (q : Plan). SourcesCause outcome q names.sources (outside mid nowhere nowhere) (outside after nowhere nowhere)) same cause))

  module _ (state : List ℕ) (is_state : names.state ≡ Some state) where
    -- it goes on from a state
    pub caused_over_read : (show : Show) (kept : Keeping) (merge : Option ℕ) (read : ShelfState) (outcome : CallEnd) → RunRead specification plan show state kept merge mid read
        → SourcesCause outcome kept.state.plan names.sources (outside read nowhere nowhere) (outside after nowhere nowhere) → CausesOver outcome specification plan names mid after
    caused_over_read show kept merge read outcome r cause before out trace p is_text =
        caused_behind (inputs_of names) plan (outside before out trace) (outside after out trace) read p.is_plan state mid is_state p.shelf r.shelf outcome
        (caused_over plan names.sources read after out trace outcome (subst (λ (q : Plan). SourcesCause outcome q names.sources (outside read nowhere nowhere) (outside after nowhere nowhere)) r.plan_is cause))

  -- no engine goes on from its state
  pub caused_over_unloaded : (end : Unloaded) (name : List ℕ) → NoEngine end specification plan name mid after → CausesOver (without_engine end) specification plan names mid after
  caused_over_unloaded end name none before out trace p is_text =
      caused_unloaded end specification plan name mid after (inputs_of names) (outside before out trace) (outside after out trace) (record { trace = refl; out = refl }) none
