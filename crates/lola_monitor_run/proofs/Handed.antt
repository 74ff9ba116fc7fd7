-- An engine that is handed one entry more, and what it has run so far.
use Rattle.std.proofs.Common.{◌≡◌, ℕ, ◌+◌, ◌-◌, ◌<◌, ◌≤◌, ◌^◌, List, [], ◌∷◌, ◌++◌, Option, None, Some, Err, refl, sym, ap, ◌∙◌, subst, arith, length, length-append, take, drop, get_or, append_assoc, append-nil}
use Rattle.std.proofs.lemmas.List.{at_drop_more, take-append-drop, take_all, take_more}
use Rattle.std.specs.List.{All}
use Rattle.lola_model.specs.Faults.{RunFault}
use Rattle.lola_model.specs.Journal.{IsLegalFrom, accepted, merged_from, opening_time}
use Rattle.lola_model.specs.Runs.{settled_fault, settled_lines, settled_model}
use Rattle.lola_model.specs.Store.{Memories, Seen}
use Rattle.lola_model.specs.Texts.{text_of}
use Rattle.lola_model.specs.declared.journal.Entry.{Entry}
use Rattle.lola_model.specs.declared.journal.Mark.TheVariants as mark
use Rattle.lola_model.specs.declared.journal.Show.{Show}
use Rattle.lola_model.specs.declared.plan.Plan.{Plan}
use Rattle.lola_model.proofs.Journals.{IsLegalFrom-append_right, accepted-append, accepted_is_row, rightly_accepted, settled_lines-append_late, text_of-append}
use Rattle.lola_engine.proofs.LateRows.{late_stands}
use Rattle.lola_engine.specs.Engines.{Brings, CutsRow, FaultInRow, IsEngine, IsTakeable, StandsFor, accepted_entry}
use Rattle.lola_engine.specs.declared.engine.EngineState.{EngineState}
use Rattle.lola_engine.specs.declared.end.EngineEnd.{EngineEnd}
use Rattle.lola_engine.specs.declared.end.EngineEnd.TheVariants.{Fault, Memory}
use Rattle.lola_monitor_run.specs.Handing.{Hands, HasMet, HasRowFor, HasRunAll, IsCut, IsRowFor, IsSetAs, RunsEntry, TakesEntry, settled_text}
use Rattle.lola_engine.proofs.RunsBegun.{fault_stays, lines_stay, text_front}

-- one entry

-- so it brings nothing
pub late_runs : (e : EngineState) (seen : Seen) (remembers : Memories) (late : Entry) (t : ℕ) → late.mark ≡ mark.Late t → (text : List ℕ) (journal : List Entry) → StandsFor e seen remembers journal
    → RunsEntry late journal e e seen remembers text text
late_runs e seen remembers late t is text journal stands = record {
  lines = [];
  brings = settled_lines-append_late e.plan e.given_start journal late t is e.show ∙ sym (append-nil (settled_lines e.plan e.given_start journal e.show));
  text = sym (append-nil text);
  stands = late_stands e seen remembers journal late t is stands;
}

-- the entries of a journal

-- a list around one of its elements
around : (entries : List Entry) (i : ℕ) (entry : Entry) → i < length entries → entry ≡ get_or entries i entry → entries ≡ take i entries ++ entry ∷ drop (i + 1) entries
around entries i entry lt is =
    sym (take-append-drop i entries)
    ∙ (at_drop_more (λ rest. take i entries ++ rest) entries i entry lt ∙ ap (λ e. take i entries ++ e ∷ drop (i + 1) entries) (sym is))

-- no line is there before the first entry
none_told : (plan : Plan) (start : Option ℕ) (show : Show) → settled_lines plan start [] show ≡ []
unfolding settled_lines settled_model
none_told plan start show = refl

-- what is set stays
pub set_then : (a b c : EngineState) → IsSetAs a b → IsSetAs b c → IsSetAs a c
set_then a b c first second = record { plan = second.plan ∙ first.plan; given_start = second.given_start ∙ first.given_start; show = second.show ∙ first.show }

-- so the settled text and fault are the same
same_text : (old now : EngineState) → IsSetAs old now → (journal : List Entry) → settled_text now journal ≡ settled_text old journal
same_text old now set journal =
    ap (λ (p : Plan). text_of (settled_lines p now.given_start journal now.show)) set.plan
    ∙ (ap (λ (o : Option ℕ). text_of (settled_lines old.plan o journal now.show)) set.given_start ∙ ap (λ (w : Show). text_of (settled_lines old.plan old.given_start journal w)) set.show)

same_fault : (old now : EngineState) → IsSetAs old now → (journal : List Entry) → settled_fault now.plan now.given_start journal ≡ settled_fault old.plan old.given_start journal
same_fault old now set journal = ap (λ (p : Plan). settled_fault p now.given_start journal) set.plan ∙ ap (λ (o : Option ℕ). settled_fault old.plan o journal) set.given_start

-- with an entry, by the lines that it brings
text_more : (old now : EngineState) → IsSetAs old now → (journal : List Entry) (entry : Entry) (lines : List (List ℕ)) → Brings now journal entry lines
    → settled_text old (journal ++ entry ∷ []) ≡ settled_text old journal ++ text_of lines
text_more old now set journal entry lines brings =
    sym (same_text old now set (journal ++ entry ∷ []))
    ∙ (ap text_of brings ∙ (text_of-append (settled_lines now.plan now.given_start journal now.show) lines ∙ ap (λ t. t ++ text_of lines) (same_text old now set journal)))

-- what an engine that had run nothing has run of a journal so far
pub record HasRun (journal : List Entry) (old now : EngineState) (s : Seen) (remembers : Memories) (text0 text : List ℕ) : Type 0 where
  pub engine : IsEngine now s
  pub setting : IsSetAs old now
  pub stands : StandsFor now s remembers journal
  pub text_is : text ≡ text0 ++ settled_text old journal

pub begins : (e : EngineState) (s : Seen) (remembers : Memories) (text : List ℕ) → IsEngine e s → StandsFor e s remembers [] → HasRun [] e e s remembers text text
begins e s remembers text engine stands = record {
  engine = engine;
  setting = record { plan = refl; given_start = refl; show = refl };
  stands = stands;
  text_is = sym (ap (λ lines. text ++ text_of lines) (none_told e.plan e.given_start e.show) ∙ append-nil text);
}

module _ (entries : List Entry) (i : ℕ) (entry : Entry) (lt : i < length entries) (is : entry ≡ get_or entries i entry)
    (old now : EngineState) (s : Seen) (remembers : Memories) (text0 text : List ℕ) (run : HasRun (take i entries) old now s remembers text0 text) where
  abbrev front : List Entry
  front = take i entries

  -- the next entry, where it is accepted, has a row that the engine takes
  pub next_takeable : IsLegalFrom (opening_time old.given_start) entries → All (HasRowFor old.plan) entries → length (accepted entries) ≤ 2 ^ 47 → entry.mark ≡ mark.Accepted → IsTakeable now entry.row
  next_takeable legal rows few so =
      let fits : IsRowFor old.plan entry.row = subst (λ (x : Entry). HasRowFor old.plan x) (sym is) (rows i entry lt) in
      let whole = around entries i entry lt is in
      let rightly = IsLegalFrom-append_right (opening_time old.given_start) front (entry ∷ drop (i + 1) entries) (subst (IsLegalFrom (opening_time old.given_start)) whole legal) in
      let merged : now.merged ≡ merged_from (opening_time old.given_start) front = run.stands.merged ∙ ap (λ (o : Option ℕ). merged_from (opening_time o) front) run.setting.given_start in
      let count : length (accepted entries) ≡ length (accepted front) + length (accepted (entry ∷ drop (i + 1) entries)) =
      ap (λ l. length (accepted l)) whole ∙ (ap length (accepted-append front (entry ∷ drop (i + 1) entries)) ∙ length-append (accepted front) (accepted (entry ∷ drop (i + 1) entries))) in
      let one : length (accepted (entry ∷ drop (i + 1) entries)) ≡ length (entry.row ∷ accepted (drop (i + 1) entries)) = ap length (accepted_is_row entry (accepted (drop (i + 1) entries)) so) in
      let rows_so_far = run.stands.rows in
      record {
        in_time = fits.stamp;
        order = subst (λ m. m ≤ entry.row.stamp) (sym merged) (rightly_accepted (merged_from (opening_time old.given_start) front) entry so rightly.0);
        more = omega (arith, count, one, rows_so_far, few);
        fields = (subst (λ (p : Plan). IsRowFor p entry.row) (sym run.setting.plan) fits).fields;
      }

  -- it was run
  pub goes_on : (new : EngineState) (s' : Seen) (remembers' : Memories) (text' : List ℕ) → IsEngine new s' → IsSetAs now new → RunsEntry entry front now new s' remembers' text text'
      → HasRun (take (i + 1) entries) old new s' remembers' text0 text'
  goes_on new s' remembers' text' engine set r =
      let longer : take (i + 1) entries ≡ front ++ entry ∷ [] = take_more entries i entry lt ∙ ap (λ e. front ++ e ∷ []) (sym is) in
      record {
        engine = engine;
        setting = set_then old now new run.setting set;
        stands = subst (StandsFor new s' remembers') (sym longer) r.stands;
        text_is = r.text
            ∙ (ap (λ t. t ++ text_of r.lines) run.text_is
            ∙ (append_assoc text0 (settled_text old front) (text_of r.lines)
            ∙ (ap (λ t. text0 ++ t) (sym (text_more old now run.setting front entry r.lines r.brings)) ∙ ap (λ j. text0 ++ settled_text old j) (sym longer))));
      }

  -- it was accepted, and ended the run
  module _ (so : entry ≡ accepted_entry entry.row) (text' : List ℕ) where
    rest : List Entry
    rest = drop (i + 1) entries

    whole_is : entries ≡ front ++ accepted_entry entry.row ∷ rest
    unfolding rest
    whole_is = around entries i entry lt is ∙ ap (λ e. front ++ e ∷ rest) so

    -- by a fault
    pub met : (fault : RunFault) → FaultInRow entry.row fault front now text text' → HasMet fault entries old text0 text'
    met fault f =
        let at : settled_fault old.plan old.given_start (front ++ accepted_entry entry.row ∷ []) ≡ Some fault = sym (same_fault old now run.setting (front ++ accepted_entry entry.row ∷ [])) ∙ f.is_fault in
        record {
          front = front;
          row = entry.row;
          rest = rest;
          whole = whole_is;
          none_before = sym (same_fault old now run.setting front) ∙ run.stands.fine;
          at_entry = at;
          is_fault = ap (settled_fault old.plan old.given_start) whole_is ∙ fault_stays old.plan old.given_start front entry.row rest fault at;
          text = f.text
              ∙ (ap (λ t. t ++ text_of f.lines) run.text_is
              ∙ (append_assoc text0 (settled_text old front) (text_of f.lines)
              ∙ (ap (λ t. text0 ++ t) (sym (text_more old now run.setting front (accepted_entry entry.row) f.lines f.brings))
              ∙ (ap (λ lines. text0 ++ text_of lines) (sym (lines_stay old.plan old.given_start front entry.row rest fault at old.show)) ∙ ap (λ j. text0 ++ settled_text old j) (sym whole_is)))));
        }

    -- for want of memory
    pub cut : CutsRow entry.row front now text text' → IsCut entries old text0 text'
    cut c =
        let more = text_front old.plan old.given_start front entry.row rest old.show in
        record {
          part = settled_text old front ++ c.part;
          rest = c.rest ++ more.0;
          joined = ap (settled_text old) whole_is
              ∙ (more.1
              ∙ (ap (λ t. t ++ more.0) (text_more old now run.setting front (accepted_entry entry.row) c.lines c.brings ∙ (ap (λ t. settled_text old front ++ t) c.joined ∙ sym (append_assoc (settled_text old front) c.part c.rest)))
              ∙ append_assoc (settled_text old front ++ c.part) c.rest more.0));
          text = c.text ∙ (ap (λ t. t ++ c.part) run.text_is ∙ append_assoc text0 (settled_text old front) c.part);
        }

  -- by the engine's end
  pub ends : (end : EngineEnd) (new : EngineState) (s' : Seen) (remembers' : Memories) (text' : List ℕ) → TakesEntry (Err end) entry now s remembers new s' remembers' text text' → Hands (Err end) entries old new s' remembers' text0 text'
  ends (Fault stream kind time) new s' remembers' text' takes = met takes.0 text' (record { stream = stream; kind = kind; time = time }) (takes.1 front run.stands)
  ends Memory new s' remembers' text' takes = cut takes.0 text' (takes.1 front run.stands)

-- all entries were run
pub all_run : (entries : List Entry) (i : ℕ) (old now : EngineState) (s : Seen) (remembers : Memories) (text0 text : List ℕ) → length entries ≤ i → HasRun (take i entries) old now s remembers text0 text
    → HasRunAll entries old now s remembers text0 text
all_run entries i old now s remembers text0 text past run =
    let all = take_all i entries past in
    record {
      stands = subst (StandsFor now s remembers) all run.stands;
      fine = sym (same_fault old now run.setting entries) ∙ subst (λ j. settled_fault now.plan now.given_start j ≡ None) all run.stands.fine;
      text = subst (λ j. text ≡ text0 ++ settled_text old j) all run.text_is;
    }
