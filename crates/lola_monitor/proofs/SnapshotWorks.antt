-- A snapshot, by what its texts and its rows came to.
use Rattle.std.proofs.Common.{◌≡◌, ℕ, ◌+◌, ◌⊎◌, List, [], ◌∷◌, ◌++◌, Option, None, Some, Err, map, inl, inr, refl, sym, ap, ◌∙◌, subst, append_assoc, length, true}
use Rattle.std.specs.Option.{option_map, option_to_list}
use Rattle.lola_port.specs.Asks.{given_ask}
use Rattle.lola_port.specs.States.{Rose, ShelfState, SinkState}
use Rattle.lola_port.specs.declared.traits.Ask.{Ask}
use Rattle.lola_model.specs.Acceptance.{IsAccepted}
use Rattle.lola_model.specs.Journal.{accepted, known_start, rows_of}
use Rattle.lola_model.specs.Runs.{settled_model}
use Rattle.lola_model.specs.declared.journal.Entry.{Entry}
use Rattle.lola_model.specs.declared.journal.Show.{Show}
use Rattle.lola_model.specs.declared.journal.Show.TheVariants as show
use Rattle.lola_model.specs.declared.plan.Plan.{Plan}
use Rattle.lola_rows.specs.Rows.{Whole}
use Rattle.lola_report.specs.declared.end.EndLine.{EndLine}
use Rattle.lola_report.specs.declared.end.EndLine.TheVariants.{Done, Usage, Refused, Malformed, Fault, UnreadableSpecification, UnreadableSource, Analysed}
use Rattle.lola_save.specs.declared.end.StateEnd.TheVariants as state_end
use Rattle.lola_save_text.specs.JournalStates.{state_of}
use Rattle.lola_save_text.specs.Damage.{IsStateText}
use Rattle.lola_save_text.specs.Lines.{state_text}
use Rattle.lola_monitor_run.specs.Behind.{IsBehind}
use Rattle.lola_monitor_run.specs.Running.{Keeping, setting_in}
use Rattle.lola_monitor_run.specs.Verdicts.{Setting}
use Rattle.lola_monitor.specs.Causes.{AllHome}
use Rattle.lola_monitor.specs.Command.{SnapshotNames}
use Rattle.lola_monitor.specs.LongStates.{IsLongState, IsNearMost}
use Rattle.lola_monitor.specs.Monitor.{AllBegin, AllRead, Begins, Ends, GoInTurns, HasItsModels, HasRows, Plans, WereGiven, asks_between, first_failed_ask, outside}
use Rattle.lola_monitor.specs.Outcomes.{CameHome, PlansName, SourcesRun, noted, without_plan}
use Rattle.lola_monitor.specs.Pasts.{AllGivenIn, RanBehind, texts_of}
use Rattle.lola_monitor.specs.Replaying.{IsText}
use Rattle.lola_monitor.specs.ResumedOutcomes.{RunRead, without_engine}
use Rattle.lola_monitor.specs.SnapshotOutcomes.{AreSettledRows, AreTooLong, CutRows, FaultRows, HasMalformed, HasRowFault, HasState, IsShort, LongRows, MalformedRows, NoPast, RefusesState, RowsEnd, RowsTaken, RunsRows, SavedRows, SavesRows, StoodSnapshot, WholeRows, WorksOver, WorksSnapshot}
use Rattle.lola_monitor.specs.Snapshots.{IsPast, inputs_of, steps_setting}
use Rattle.lola_monitor.specs.Stating.{NoEngine}
use Rattle.lola_monitor.specs.declared.call_end.CallEnd.{CallEnd}
use Rattle.lola_monitor.specs.declared.call_end.CallEnd.TheVariants.{Line, Drilled, Report, Replayed, Stated, CutFault, Put, Memory}
use Rattle.lola_monitor.specs.declared.call_end.Unloaded.{Unloaded}
use Rattle.lola_monitor.specs.declared.call_end.Unloaded.TheVariants as unloaded
use Rattle.lola_monitor.specs.declared.call_end.Unplanned.{Unplanned}
use Rattle.lola_monitor.specs.declared.call_end.Unplanned.TheVariants as unplanned
use Rattle.lola_monitor.proofs.Calls.{asked_both, between}
use Rattle.lola_monitor.proofs.SavingStates.{never_from_none}
use Rattle.lola_monitor.proofs.TextsRefused.{first_unread, front_saved, plan_refused, second_unread, state_refused, text_told}

-- no ask has failed behind those that were given
none_further : (o : Option ℕ) → option_map (λ n. n + 1) o ≡ None → o ≡ None
none_further None is = refl
none_further (Some n) is = absurd (cc)

none_past : (texts : List (List ℕ)) (asks : List Ask) → first_failed_ask (map given_ask texts ++ asks) ≡ None → first_failed_ask asks ≡ None
none_past [] asks is = is
none_past (text ∷ texts) asks is = none_past texts asks (none_further (first_failed_ask (map given_ask texts ++ asks)) is)

given_more : (texts names : List (List ℕ)) → map given_ask (texts ++ names) ≡ map given_ask texts ++ map given_ask names
given_more [] names = refl
given_more (text ∷ texts) names = ap (λ (l : List Ask). given_ask text ∷ l) (given_more texts names)

-- ---- the rows of its sources

module _ (names : SnapshotNames) (plan : Plan) (before mid after : ShelfState) where
  abbrev texts : List (List ℕ)
  texts = texts_of (inputs_of names)

  module _ (is_plan : Plans (before.told names.specification) plan) (is_accepted : IsAccepted plan) (one_model : HasItsModels plan)
      (told_is : mid.told ≡ before.told) (count_is : mid.count ≡ before.count) (asks_are : mid.asks ≡ before.asks ++ map given_ask texts) where
    told : (name : List ℕ) → mid.told name ≡ before.told name
    told name = ap (λ (t : List ℕ → Option (List ℕ)). t name) told_is

    asks_after : (asks : List Ask) → after.asks ≡ mid.asks ++ asks → asks_between before after ≡ map given_ask texts ++ asks
    asks_after asks is = between before after (map given_ask texts ++ asks) (is ∙ ap (λ (a : List Ask). a ++ asks) asks_are ∙ append_assoc before.asks (map given_ask texts) asks)

    rose_by : Rose mid.count after.count → Rose before.count after.count
    rose_by rose = subst (λ n. Rose n after.count) count_is rose

    were_given : (asks : List Ask) → CameHome names.sources asks mid after → WereGiven names.sources asks before after
    were_given asks home = record {
      named = home.named;
      given = home.given;
      unfailed = λ none. home.unfailed none ∙ count_is;
      failed = λ at some. rose_by (home.failed at some);
    }

    all_given : AllHome names.sources mid after → AllGivenIn (inputs_of names) before after
    all_given home = record { asks = asks_after (map given_ask names.sources) home.asks ∙ sym (given_more texts names.sources); count = home.count ∙ count_is }

    all_begin : (journal : List Entry) → AllBegin mid plan names.sources journal → AllBegin before plan names.sources journal
    all_begin journal begin n name is = subst (λ t. Begins t plan n (rows_of n journal)) (told name) (begin n name is)

    all_read : (asks : List Ask) (journal : List Entry) → AllRead mid plan names.sources asks journal → AllRead before plan names.sources asks journal
    all_read asks journal all n name ask is there sound = let r = all n name ask is there sound in (r.0, subst (λ t. Ends t plan n (rows_of n journal) r.0) (told name) r.1)

    in_turns : (asks : List Ask) (journal : List Entry) → after.asks ≡ mid.asks ++ asks → GoInTurns names.sources plan mid after journal → GoInTurns names.sources plan before after journal
    in_turns asks journal is turns = record {
      lists = turns.lists;
      many = turns.many;
      fronts = λ n name rows named at. subst (λ t. Begins t plan n rows) (told name) (turns.fronts n name rows named at);
      whole = λ none n name rows named at.
          subst (λ t. HasRows t plan n rows) (told name)
          (turns.whole (ap first_failed_ask (between mid after asks is) ∙ none_past texts asks (sym (ap first_failed_ask (asks_after asks is)) ∙ none)) n name rows named at);
      first = turns.first;
    }

    module _ (start : Option ℕ) (front : List Entry) where
      abbrev s : Setting
      s = steps_setting plan start front

      abbrev ran : (asks : List Ask) → after.asks ≡ mid.asks ++ asks → (run : SourcesRun front true s names.sources mid after)
          → (run.journal ≡ []) ⊎ WereGiven names.sources asks before after → RanBehind (inputs_of names) start front before after
      ran asks is run given = record {
        asks = asks;
        between = asks_after asks is;
        plan = plan;
        is_plan = is_plan;
        accepted = is_accepted;
        one_model = one_model;
        journal = run.journal;
        legal = run.legal;
        sources = run.sources;
        traceable = run.traceable;
        rows = all_begin run.journal run.rows;
        turns = λ asked. in_turns asks run.journal is (run.turns refl);
        given = given;
      }

      -- of sources that all came back
      abbrev ran_home : RowsTaken front s names.sources mid after → RanBehind (inputs_of names) start front before after
      ran_home taken = ran taken.asks taken.home.appended taken.run (inr (were_given taken.asks taken.home))

      abbrev settled : WholeRows front s names.sources mid after → AreSettledRows names start front before after
      settled w = record {
        all = record {
          run = ran_home w.ended.taken;
          given = all_given w.ended.all;
          rows = λ n name is. subst (λ t. Ends t plan n (rows_of n w.ended.taken.run.journal) Whole) (told name) (w.rows n name is);
        };
        no_fault = w.ended.no_fault;
      }

      saves : (specification text : List ℕ) → IsText (before.told names.specification) specification → SavedRows text specification front s names.sources mid after → SavesRows text names start front before after
      saves specification text is_text r = record {
        rows = settled r.whole;
        few = r.few;
        text_is = λ all is. r.text_is ∙ ap (λ (t : List ℕ). state_text t plan (state_of plan (known_start start (accepted front)) (front ++ r.whole.ended.taken.run.journal))) (is_text all is);
      }

      too_long : LongRows front s names.sources mid after → AreTooLong names start front before after
      too_long r = record { rows = settled r.whole; many = r.many }

      malformed : (line : EndLine) → MalformedRows line front s names.sources mid after → HasMalformed line names start front before after
      malformed line r = record {
        at = r.at;
        some = record {
          run = ran_home r.ended.taken;
          given = all_given r.ended.all;
          ends = r.ends;
          rows = record { many = r.rows.many; each = λ n name end is at. subst (λ t. Ends t plan n (rows_of n r.ended.taken.run.journal) end) (told name) (r.rows.each n name end is at) };
          least = r.least;
        };
        no_fault = r.ended.no_fault;
        line_is = r.line_is;
      }

      fault : (line : EndLine) → FaultRows line front s names.sources mid after → HasRowFault line names start front before after
      fault line r = record { run = ran_home r.taken; given = were_given r.taken.asks r.taken.home; fault = r.fault; is_fault = r.stands; line_is = r.line_is }

      some_given : (asks : List Ask) (journal : List Entry) → (journal ≡ []) ⊎ CameHome names.sources asks mid after → (journal ≡ []) ⊎ WereGiven names.sources asks before after
      some_given asks journal (inl none) = inl none
      some_given asks journal (inr home) = inr (were_given asks home)

      short : (line : EndLine) → CutRows line front s names.sources mid after → IsShort line names start front before after
      short line r = record {
        at = r.at;
        others = record {
          run = ran r.asked.asks r.asked.appended r.run (some_given r.asked.asks r.run.journal r.home);
          least = r.least;
          rose = rose_by r.rose;
          unless_given = r.unless_given;
          read = λ were. let all = r.read were in (all.0, all_read r.asked.asks r.run.journal all.1);
        };
        no_fault = r.no_fault;
        line_is = r.line_is;
      }

    module _ (specification : List ℕ) (kept : Keeping) (is_text : IsText (before.told names.specification) specification) (has_state : HasState names.state specification plan before)
        (past : (start : Option ℕ) (front : List Entry) → IsPast names before names.state start front → IsBehind front front kept × (setting_in kept ≡ steps_setting plan start front))
        (is_long : IsNearMost kept.state.behind → IsLongState names.state before) (out trace : SinkState) where
      abbrev stood : (P : Option ℕ → List Entry → ShelfState → ShelfState → Type 0) → ((start : Option ℕ) (front : List Entry) → IsPast names before names.state start front → P start front before after)
          → StoodSnapshot P names (outside before out trace) (outside after out trace)
      stood P behind = record {
        prepared = record { text = specification; is_text = is_text; plan = plan; is_plan = is_plan; state = has_state };
        early = record { trace = refl; out = refl };
        behind = behind;
      }

      module _ (outcome : CallEnd) (r : RunsRows outcome specification kept names.sources mid after) where
        rows_end : (start : Option ℕ) (front : List Entry) → IsPast names before names.state start front → RowsEnd outcome specification front (steps_setting plan start front) names.sources mid after
        rows_end start front is = let p = past start front is in subst (λ (t : Setting). RowsEnd outcome specification front t names.sources mid after) p.1 (r.behind front p.0)

      pub works_rows : (outcome : CallEnd) → RunsRows outcome specification kept names.sources mid after → WorksSnapshot outcome names (outside before out trace) (outside after out trace)
      works_rows (Line (Done a l n v)) r = absurd r.is_end
      works_rows (Line (Malformed n row kind)) r =
          stood (HasMalformed (Malformed n row kind) names) (λ start front is. malformed start front (Malformed n row kind) (rows_end (Line (Malformed n row kind)) r start front is))
      works_rows (Line (Fault stream kind time)) r = stood (HasRowFault (Fault stream kind time) names) (λ start front is. fault start front (Fault stream kind time) (rows_end (Line (Fault stream kind time)) r start front is))
      works_rows (Line (UnreadableSource n)) r = stood (IsShort (UnreadableSource n) names) (λ start front is. short start front (UnreadableSource n) (rows_end (Line (UnreadableSource n)) r start front is))
      works_rows (Line Usage) r = absurd r.is_end
      works_rows (Line (Refused q)) r = absurd r.is_end
      works_rows (Line UnreadableSpecification) r = absurd r.is_end
      works_rows (Line (Analysed n w)) r = absurd r.is_end
      works_rows (Drilled line) r = absurd r.is_end
      works_rows (Report text) r = stood (SavesRows text names) (λ start front is. saves start front specification text is_text (rows_end (Report text) r start front is))
      works_rows (Replayed end) r = absurd r.is_end
      works_rows (Stated state_end.Unreadable) r = absurd r.is_end
      works_rows (Stated (state_end.Damaged line)) r = absurd r.is_end
      works_rows (Stated state_end.OtherSpecification) r = absurd r.is_end
      works_rows (Stated state_end.TooManySteps) r = (stood (AreTooLong names) (λ start front is. too_long start front (rows_end (Stated state_end.TooManySteps) r start front is)), is_long r.long)
      works_rows CutFault r = stood NoPast (λ start front is. rows_end CutFault r start front is)
      works_rows Put r = stood NoPast (λ start front is. rows_end Put r start front is)
      works_rows Memory r = record { trace = refl; out = refl }

-- ---- what it goes on from

known_alone : (start : Option ℕ) → known_start start [] ≡ start
known_alone None = refl
known_alone (Some t) = refl

-- a run that stands for nothing has no steps behind it
none_settled : (plan : Plan) (start : Option ℕ) → settled_model plan start [] ≡ []
unfolding settled_model
none_settled plan start = refl

none_behind : (kept : Keeping) → IsBehind [] [] kept → kept.state.behind ≡ 0
none_behind kept stands = stands.engine.behind ∙ ap length (none_settled kept.state.plan kept.state.given_start)

-- nothing
pub past_anew : (names : SnapshotNames) (shelf : ShelfState) (plan : Plan) (kept : Keeping) → names.state ≡ None → IsBehind [] [] kept → setting_in kept ≡ record { plan = plan; start = names.start; show = show.Triggers }
    → (start : Option ℕ) (front : List Entry) → IsPast names shelf names.state start front → IsBehind front front kept × (setting_in kept ≡ steps_setting plan start front)
past_anew names shelf plan kept anew stands setting start front is =
    let p : (start ≡ names.start) × (front ≡ []) = subst (λ (o : Option (List ℕ)). IsPast names shelf o start front) anew is in
    let known : known_start start (accepted front) ≡ names.start = ap (λ (f : List Entry). known_start start (accepted f)) p.1 ∙ (known_alone start ∙ p.0) in
    (subst (λ (f : List Entry). IsBehind f f kept) (sym p.1) stands, setting ∙ ap (λ (o : Option ℕ). record { plan = plan; start = o; show = show.Triggers }) (sym known))

module _ (names : SnapshotNames) (specification state : List ℕ) (plan : Plan) (before mid : ShelfState)
    (is_text : IsText (before.told names.specification) specification) (is_plan : Plans (before.told names.specification) plan) (read_first : mid ≡ noted before names.specification) where
  -- a state that was read
  module _ (after : ShelfState) (kept : Keeping) (merge : Option ℕ) (is_state : names.state ≡ Some state) (r : RunRead specification plan show.Triggers state kept merge mid after) where
    pub past_read : (start : Option ℕ) (front : List Entry) → IsPast names before names.state start front → IsBehind front front kept × (setting_in kept ≡ steps_setting plan start front)
    past_read start front is =
        let saved = front_saved names.specification state specification plan before mid is_plan is_text read_first r.bytes r.is_text start front (subst (λ (o : Option (List ℕ)). IsPast names before o start front) is_state is) in (
          r.stands start front saved,
          ap (λ (p : Plan). record { plan = p; start = kept.state.given_start; show = kept.state.show }) r.plan_is
              ∙ (ap (λ (o : Option ℕ). record { plan = plan; start = o; show = kept.state.show }) (r.start_is start front saved)
              ∙ ap (λ (w : Show). record { plan = plan; start = known_start start (accepted front); show = w }) r.show_is),
        )

    -- it is one of the plan
    pub state_read : HasState names.state specification plan before
    state_read =
        subst (λ (o : Option (List ℕ)). HasState o specification plan before) (sym is_state)
        (λ bytes told. subst (λ (b : List ℕ). IsStateText specification plan b) (text_told names.specification state specification plan before mid is_plan is_text read_first r.bytes bytes r.is_text told) r.is_state)

    -- a run that began with so many steps had them from it
    pub long_read : IsNearMost kept.state.behind → IsLongState names.state before
    long_read near = record {
      name = state;
      is_named = is_state;
      specification = specification;
      plan = plan;
      bytes = r.bytes;
      is_text = subst (λ (f : List ℕ → Option (List ℕ)). IsText (f state) r.bytes) (ap (λ (s : ShelfState). s.told) read_first) r.is_text;
      is_state = r.is_state;
      near = subst IsNearMost r.steps_before near;
    }

  -- no engine goes on from it
  pub works_unloaded : (end : Unloaded) (after : ShelfState) (out trace : SinkState) → names.state ≡ Some state → NoEngine end specification plan state mid after
      → WorksSnapshot (without_engine end) names (outside before out trace) (outside after out trace)
  works_unloaded (unloaded.Stated state_end.Unreadable) after out trace is_state m =
      second_unread names.specification state (outside before out trace) mid (outside after out trace) read_first (record { trace = refl; out = refl }) m
  works_unloaded (unloaded.Stated (state_end.Damaged line)) after out trace is_state r =
      subst (λ (o : Option (List ℕ)). RefusesState (state_end.Damaged line) names.specification o (outside before out trace) (outside after out trace)) (sym is_state)
      (state_refused names.specification state specification plan (outside before out trace) mid is_plan is_text read_first (state_end.Damaged line) (outside after out trace) (record { trace = refl; out = refl }) r)
  works_unloaded (unloaded.Stated state_end.OtherSpecification) after out trace is_state r =
      subst (λ (o : Option (List ℕ)). RefusesState state_end.OtherSpecification names.specification o (outside before out trace) (outside after out trace)) (sym is_state)
      (state_refused names.specification state specification plan (outside before out trace) mid is_plan is_text read_first state_end.OtherSpecification (outside after out trace) (record { trace = refl; out = refl }) r)
  works_unloaded (unloaded.Stated state_end.TooManySteps) after out trace is_state r = absurd r
  works_unloaded unloaded.Memory after out trace is_state r = record { trace = refl; out = refl }

-- a specification that has no plan
pub snapshot_unplanned : (names : SnapshotNames) (end : Unplanned) (before after : ShelfState) (out trace : SinkState) → PlansName (Err end) names.specification before after
    → WorksSnapshot (without_plan end) names (outside before out trace) (outside after out trace)
snapshot_unplanned names unplanned.Unreadable before after out trace m = first_unread names.specification (outside before out trace) (outside after out trace) (record { trace = refl; out = refl }) m
snapshot_unplanned names (unplanned.Refused r) before after out trace p = plan_refused r names.specification (outside before out trace) (outside after out trace) (record { trace = refl; out = refl }) p
snapshot_unplanned names unplanned.Memory before after out trace p = record { trace = refl; out = refl }

-- ---- over a specification that was read

told_by : (before mid : ShelfState) (name : List ℕ) → mid ≡ noted before name → mid.told ≡ before.told
told_by before mid name is = ap (λ (s : ShelfState). s.told) is

-- there was no memory
pub over_memory : (specification : List ℕ) (plan : Plan) (names : SnapshotNames) (mid after : ShelfState) → WorksOver Memory specification plan names mid after
over_memory specification plan names mid after before out trace p is_text = record { trace = refl; out = refl }

-- it begins anew
pub over_anew : (specification : List ℕ) (plan : Plan) (names : SnapshotNames) (kept : Keeping) (mid after : ShelfState) (outcome : CallEnd) → names.state ≡ None → IsBehind [] [] kept
    → setting_in kept ≡ record { plan = plan; start = names.start; show = show.Triggers } → RunsRows outcome specification kept names.sources mid after → WorksOver outcome specification plan names mid after
over_anew specification plan names kept mid after outcome anew stands setting rows before out trace p is_text =
    works_rows names plan before mid after p.is_plan p.accepted p.one_model (told_by before mid names.specification p.shelf) (ap (λ (s : ShelfState). s.count) p.shelf)
    (ap (λ (s : ShelfState). s.asks) p.shelf ∙ ap (λ (o : Option (List ℕ)). before.asks ++ (given_ask names.specification ∷ map given_ask (option_to_list o))) (sym anew))
    specification kept is_text (subst (λ (o : Option (List ℕ)). HasState o specification plan before) (sym anew) tt) (past_anew names before plan kept anew stands setting)
    (λ near. absurd (never_from_none kept.state.behind (none_behind kept stands) near)) out trace outcome rows

-- it goes on from a state
pub over_read : (specification state : List ℕ) (plan : Plan) (names : SnapshotNames) (kept : Keeping) (merge : Option ℕ) (mid read after : ShelfState) (outcome : CallEnd) → names.state ≡ Some state
    → RunRead specification plan show.Triggers state kept merge mid read → RunsRows outcome specification kept names.sources read after → WorksOver outcome specification plan names mid after
over_read specification state plan names kept merge mid read after outcome is_state r rows before out trace p is_text =
    works_rows names plan before read after p.is_plan p.accepted p.one_model (told_by mid read state r.shelf ∙ told_by before mid names.specification p.shelf) (ap (λ (s : ShelfState). s.count) r.shelf ∙ ap (λ (s : ShelfState). s.count) p.shelf)
    (asked_both names.specification state before mid read p.shelf r.shelf ∙ ap (λ (o : Option (List ℕ)). before.asks ++ (given_ask names.specification ∷ map given_ask (option_to_list o))) (sym is_state))
    specification kept is_text (state_read names specification state plan before mid is_text p.is_plan p.shelf read kept merge is_state r)
    (past_read names specification state plan before mid is_text p.is_plan p.shelf read kept merge is_state r)
    (long_read names specification state plan before mid is_text p.is_plan p.shelf read kept merge is_state r) out trace outcome rows

-- no engine goes on from its state
pub over_unloaded : (specification state : List ℕ) (plan : Plan) (names : SnapshotNames) (mid after : ShelfState) (end : Unloaded) → names.state ≡ Some state → NoEngine end specification plan state mid after
    → WorksOver (without_engine end) specification plan names mid after
over_unloaded specification state plan names mid after end is_state none before out trace p is_text =
    works_unloaded names specification state plan before mid is_text p.is_plan p.shelf end after out trace is_state none
