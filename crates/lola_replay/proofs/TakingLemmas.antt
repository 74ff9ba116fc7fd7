-- A step that is taken goes on the table, or stops it.
use Rattle.std.proofs.Common.{◌≡◌, ◌∙◌, refl, sym, ap, subst, ℕ, ◌+◌, ◌<◌, ◌≤◌, List, [], ◌∷◌, ◌++◌, Option, Some, None, Bool, true, false, if◌then◌else◌, arith, append-nil, drop, IfOk, Result, Ok, Err, length, nat_le, nat_lt}
use Rattle.std.proofs.lemmas.Bool.{leb-false, le-ltb}
use Rattle.std.proofs.lemmas.List.{length-append}
use Rattle.lola_value.specs.Times.{latest}
use Rattle.lola_model.specs.Faults.{RowFault, row_fault}
use Rattle.lola_model.specs.Model.{IsRow, Next, answered, closes_from, evaluated, has_evaluation_fault}
use Rattle.lola_model.specs.NextStep.{below_or, due, next_below, open_after, open_from, rows_taken, taken_by}
use Rattle.lola_model.specs.Steps.{deadline_step, row_step}
use Rattle.lola_model.specs.Table.{Step, TableRow}
use Rattle.lola_model.specs.declared.journal.Row.{Row}
use Rattle.lola_model.specs.declared.journal.Show.{Show}
use Rattle.lola_model.specs.declared.plan.Plan.{Plan}
use Rattle.lola_replay_step.specs.Dues.{in_time}
use Rattle.lola_replay.specs.Progressing.{GoesBelow, IsAlong, IsAt, IsDeadlineTaken, IsPassed, IsPast, IsSettled, IsStopped, IsTaken, IsTurned, below, the_row_fault, told_at}
use Rattle.lola_replay.specs.SoFar.{IsSoFar}
use Rattle.lola_replay.specs.declared.progress.Fault.{Fault}
use Rattle.lola_replay.specs.declared.progress.Progress.{Progress}
use Rattle.lola_replay.specs.declared.progress.NextDeadline.{NextDeadline}
use Rattle.lola_replay.specs.declared.progress.NextDeadline.TheVariants as turn
use Rattle.lola_replay_step.specs.declared.fault.StepFault.{StepFault}
use Rattle.std.specs.Option.{option_map}
use Rattle.lola_value.specs.declared.text.Memory.{Memory}
use Rattle.lola_replay_step.specs.StepFaults.{the_fault}
use Rattle.lola_replay.proofs.SoFarLemmas.{carried, grows, settled-goes-on, whole-goes-on}
use Rattle.lola_replay.proofs.ComparingLemmas.{compared-all}
use Rattle.lola_replay.proofs.UnderwayLemmas.{faulty-row, fine-row, next-to, none-left, taken-more}
use Rattle.lola_model.proofs.Growth.{last_row-append}
use Rattle.lola_model.proofs.Journals.{table_lines-append_one}
use Rattle.lola_model.specs.Texts.{row_lines, stream_lines, table_lines}
use Rattle.lola_replay_step.specs.Rests.{IsAnswered, IsFirst, Rests, known_lines, rested_all}
use Rattle.lola_replay_table.specs.declared.table.KnownStream.{KnownStream}
use Rattle.lola_replay.specs.Comparing.{Comparison, IsCompared, IsComparedBy, after_lines, comparison}
use Rattle.lola_replay.specs.declared.compare.Compared.{Compared}

-- a row is of the step whose equations it solves
pub step-of : (plan : Plan) (start : ℕ) (rows : List TableRow) (step : Step) (row : TableRow) → IsRow plan start rows step row → row.step ≡ step
step-of plan start rows step row lawful = ap (λ (r : TableRow). r.step) lawful ∙ go (has_evaluation_fault (evaluated plan start rows step row).streams)
  where
    go : (b : Bool)
        → (if b then evaluated plan start rows step row
        else record { step = step; streams = closes_from plan start rows (evaluated plan start rows step row) 0 plan.spec.streams (evaluated plan start rows step row).streams }).step ≡ step
    go true = refl
    go false = refl

-- moments below a limit

pub below-some : (limit t : ℕ) (d : Option ℕ) (other : Option Step) → below limit d ≡ Some t → below_or d limit other ≡ Some (deadline_step t)
below-some limit t None other e = absurd (cc e)
below-some limit t (Some s) other e = go (nat_lt s limit) e
  where
    go : (b : Bool) → (if b then Some s else None) ≡ Some t → (if b then Some (deadline_step s) else other) ≡ Some (deadline_step t)
    go true e = let same : s ≡ t = cc e in ap (λ u. Some (deadline_step u)) same
    go false e = absurd (cc e)

pub below-none : (limit : ℕ) (d : Option ℕ) (other : Option Step) → below limit d ≡ None → below_or d limit other ≡ other
below-none limit None other e = refl
below-none limit (Some s) other e = go (nat_lt s limit) e
  where
    go : (b : Bool) → (if b then Some s else None) ≡ None → (if b then Some (deadline_step s) else other) ≡ other
    go true e = absurd (cc e)
    go false e = refl

-- a moment that is below a limit is a time
pub below-timely : (limit : ℕ) (d : Option ℕ) → limit ≤ latest + 1 → below limit (in_time d) ≡ below limit d
below-timely limit None low = refl
below-timely limit (Some t) low = go (nat_le t latest) refl
  where
    go : (b : Bool) → nat_le t latest ≡ b → below limit (if b then Some t else None) ≡ below limit (Some t)
    go true e = refl
    go false e =
        let high : latest < t = leb-false t latest e in
        sym (ap (λ c. if c then Some t else None) (le-ltb t limit (omega (arith, low, high))))

-- a step that is answered

rested-long : (time : ℕ) (cs : List Bool) (ks : List KnownStream) → length (rested_all time cs ks) ≡ length ks
rested-long time cs [] = refl
rested-long time cs (k ∷ ks) = (let rest = rested-long time (drop (length k.lives) cs) ks in omega (arith, rest))

pub known-long : (time : ℕ) (cs : List Bool) (before after : List KnownStream) (n : ℕ) → after ≡ rested_all time cs before → length before ≡ n → length after ≡ n
known-long time cs before after n is long = ap (λ (ks : List KnownStream). length ks) is ∙ rested-long time cs before ∙ long

not-first : (table : List TableRow) (row : TableRow) → IsFirst false (table ++ row ∷ [])
not-first [] row = tt
not-first (r ∷ rs) row = tt

module _ (plan : Plan) (show : Show) (text : List ℕ) (start : ℕ) (table : List TableRow) (step : Step) (before after : Progress) (known : List KnownStream) (closed : List Bool)
    (at : IsAt plan show text table before) (count : after.steps ≡ before.steps + 1) where
  abbrev row : TableRow
  row = answered plan start table step

  more-steps : after.steps ≡ length (table ++ row ∷ [])
  more-steps = (let long = length-append table (row ∷ []) in let was = at.steps_are in omega (arith, long, was, count))

  more-lines : table_lines show plan.spec.streams (table ++ row ∷ []) ≡ table_lines show plan.spec.streams table ++ row_lines show plan.spec.streams row
  more-lines = table_lines-append_one show plan.spec.streams table row

  -- with a fault it has no lines
  pub step-faulty : (fault : Option StepFault) (told : StepFault) → fault ≡ Some told → IsAnswered plan start step table known closed (option_map the_fault fault) → after.compared ≡ before.compared
      → IsTaken plan show text start table step (Some (the_fault told)) after
  step-faulty fault told found answered_so same =
      let f : RowFault = the_fault told in
      let is : IsAnswered plan start step table known closed (Some f) = subst (λ (o : Option StepFault). IsAnswered plan start step table known closed (option_map the_fault o)) found answered_so in
      let none : row_lines show plan.spec.streams row ≡ [] = ap (λ b. if b then [] else stream_lines show row.step.time plan.spec.streams row.streams) (faulty-row row f is.fault_is) in
      let lines : table_lines show plan.spec.streams table ≡ table_lines show plan.spec.streams (table ++ row ∷ []) =
      sym (append-nil (table_lines show plan.spec.streams table)) ∙ ap (λ ls. table_lines show plan.spec.streams table ++ ls) (sym none) ∙ sym more-lines in
      record {
        lawful = is.lawful;
        fault_is = is.fault_is;
        compared_by = subst (λ (ls : List (List ℕ)). IsComparedBy text ls after.compared) lines
            (subst (λ (c : Compared). IsComparedBy text (table_lines show plan.spec.streams table) c) (sym same) at.compared_by);
        steps_are = more-steps;
        at = λ e. absurd (cc e);
      }

  -- without a fault its lines are compared, and it is behind
  pub step-fine : (fault : Option StepFault) → fault ≡ None → IsAnswered plan start step table known closed (option_map the_fault fault) → after.first ≡ false → after.known ≡ rested_all step.time closed known
      → comparison after.compared ≡ after_lines (comparison before.compared) (known_lines show step.time plan.spec.streams known) → after.from ≡ open_after step
      → IsTaken plan show text start table step None after
  step-fine fault none answered_so later rests lines from =
      let is : IsAnswered plan start step table known closed None = subst (λ (o : Option StepFault). IsAnswered plan start step table known closed (option_map the_fault o)) none answered_so in
      let shown = table_lines show plan.spec.streams table in
      let added = known_lines show step.time plan.spec.streams known in
      let whole : shown ++ added ≡ table_lines show plan.spec.streams (table ++ row ∷ []) = ap (λ ls. shown ++ ls) (sym (is.lines_are refl show)) ∙ sym more-lines in
      let compared : IsComparedBy text (table_lines show plan.spec.streams (table ++ row ∷ [])) after.compared =
      subst (λ (ls : List (List ℕ)). IsComparedBy text ls after.compared) whole
      (subst (λ (d : Comparison). IsCompared text (shown ++ added) d d.other) (sym lines) (compared-all text shown added (comparison before.compared) at.compared_by)) in
      record {
        lawful = is.lawful;
        fault_is = is.fault_is;
        compared_by = compared;
        steps_are = more-steps;
        at = λ e. record {
          rests = subst (λ (ks : List KnownStream). Rests plan (table ++ row ∷ []) ks) (sym rests) (is.rests refl);
          first_is = subst (λ b. IsFirst b (table ++ row ∷ [])) (sym later) (not-first table row);
          born_in = is.born_in;
          from_is = from ∙ ap open_after (sym (step-of plan start table step row is.lawful)) ∙ ap open_from (sym (last_row-append table row));
          steps_are = more-steps;
          compared_by = compared;
        };
      }

module _ (plan : Plan) (show : Show) (text : List ℕ) (start : ℕ) (next : Next) (table : List TableRow) (so_far : IsSoFar plan start next table) (step : Step) (comes : next table ≡ Some step) where
  abbrev made : TableRow
  made = answered plan start table step

  goes-on : IsRow plan start table step made → row_fault made ≡ None → IsSoFar plan start next (table ++ made ∷ [])
  goes-on lawful none =
      let same = step-of plan start table step made lawful in
      grows plan start next [] table made so_far
      (record { step = comes ∙ ap (λ s. Some s) (sym same); lawful = subst (λ s. IsRow plan start table s made) (sym same) lawful }) (fine-row made none)

  pub taken-on : (n : ℕ) (p : Progress) → rows_taken table + taken_by step ≡ n → IsTaken plan show text start table step None p → IsAlong plan show text start next n p
  taken-on n p count is =
      let same = step-of plan start table step made is.lawful in
      let more = taken-more table made in
      let by = ap taken_by same in
      record {
        table = table ++ made ∷ [];
        so_far = goes-on is.lawful is.fault_is;
        taken = omega (arith, count, more, by);
        at = is.at refl;
      }

  pub taken-stops : (f : Fault) (p : Progress) → step.time ≡ f.time → IsTaken plan show text start table step (Some (the_row_fault f)) p → IsStopped plan show text start next f p
  taken-stops f p time is =
      let same = step-of plan start table step made is.lawful in
      record {
        table = table;
        made = made;
        so_far = so_far;
        comes = comes ∙ ap (λ s. Some s) (sym same);
        lawful = subst (λ s. IsRow plan start table s made) (sym same) is.lawful;
        fault_is = is.fault_is;
        time_is = ap (λ (s : Step). s.time) same ∙ time;
        steps_are = is.steps_are;
        compared_by = is.compared_by;
      }

module _ (plan : Plan) (show : Show) (text : List ℕ) (start : ℕ) where
  -- the next deadline is taken
  pub turned : (next : Next) (n limit time : ℕ) (before after : Progress) (t : NextDeadline) → GoesBelow plan start next n limit → (along : IsAlong plan show text start next n before)
      → below limit (due plan along.table start) ≡ Some time → IsDeadlineTaken plan show text start along.table time t after → IsTurned plan show text start next n limit t after
  turned next n limit time before after turn.Past goes along is taken = absurd taken
  turned next n limit time before after turn.Taken goes along is taken =
      let count = along.taken in
      taken-on plan show text start next along.table along.so_far (deadline_step time) (goes along.table time along.taken is) n after (omega (arith, count)) taken
  turned next n limit time before after (turn.Faulty f) goes along is taken =
      taken-stops plan show text start next along.table along.so_far (deadline_step time) (goes along.table time along.taken is) f after (sym taken.1) taken.0

  pub past : (next : Next) (n limit : ℕ) (p : Progress) → (along : IsAlong plan show text start next n p) → below limit (due plan along.table start) ≡ None → IsPast plan show text start next n limit p
  past next n limit p along none = record { table = along.table; so_far = along.so_far; taken = along.taken; at = along.at; none = none }

  -- the row is taken behind the deadlines before it
  pub row-settled : (rows : List Row) (row : Row) (before after : Progress) (fault : Option StepFault)
      → (past : IsPast plan show text start (next_below plan start (rows ++ row ∷ []) 0) (length rows) row.stamp before)
      → IsTaken plan show text start past.table (row_step row) (option_map the_fault fault) after → IsSettled plan show text start (rows ++ row ∷ []) (told_at row.stamp fault) after
  row-settled rows row before after None past taken =
      let next = next_below plan start (rows ++ row ∷ []) 0 in
      let count = past.taken in
      let long = length-append rows (row ∷ []) in
      taken-on plan show text start next past.table past.so_far (row_step row) (next-to plan start rows row past.table past.taken ∙ below-none row.stamp (due plan past.table start) (Some (row_step row)) past.none)
      (length (rows ++ row ∷ [])) after (omega (arith, count, long)) taken
  row-settled rows row before after (Some f) past taken =
      let next = next_below plan start (rows ++ row ∷ []) 0 in
      taken-stops plan show text start next past.table past.so_far (row_step row) (next-to plan start rows row past.table past.taken ∙ below-none row.stamp (due plan past.table start) (Some (row_step row)) past.none)
      (record { stream = f.stream; kind = f.kind; time = row.stamp }) after refl taken

  -- before a row the deadlines below its stamp come next
  pub below-row : (rows : List Row) (row : Row) → GoesBelow plan start (next_below plan start (rows ++ row ∷ []) 0) (length rows) row.stamp
  below-row rows row table t taken is = next-to plan start rows row table taken ∙ below-some row.stamp t (due plan table start) (Some (row_step row)) is

  pub below-end : (rows : List Row) (limit : ℕ) → GoesBelow plan start (next_below plan start rows limit) (length rows) limit
  below-end rows limit table t taken is = none-left plan start rows limit table taken ∙ below-some limit t (due plan table start) None is

  -- the settled rule goes on with one more row, or with the deadlines behind the last
  pub along-row : (rows : List Row) (row : Row) (p : Progress) → IsAlong plan show text start (next_below plan start rows 0) (length rows) p
      → IsAlong plan show text start (next_below plan start (rows ++ row ∷ []) 0) (length rows) p
  along-row rows row p is = record {
    table = is.table;
    so_far = carried plan start (next_below plan start rows 0) (next_below plan start (rows ++ row ∷ []) 0) (settled-goes-on plan start 0 rows (row ∷ [])) [] is.table is.so_far;
    taken = is.taken;
    at = is.at;
  }

  pub along-end : (rows : List Row) (limit : ℕ) (p : Progress) → IsAlong plan show text start (next_below plan start rows 0) (length rows) p
      → IsAlong plan show text start (next_below plan start rows limit) (length rows) p
  along-end rows limit p is = record {
    table = is.table;
    so_far = carried plan start (next_below plan start rows 0) (next_below plan start rows limit) (whole-goes-on plan start limit rows) [] is.table is.so_far;
    taken = is.taken;
    at = is.at;
  }

-- said of what is the same

pub taken-as : (plan : Plan) (show : Show) (text : List ℕ) (s t : ℕ) (table : List TableRow) (a b : Step) (f g : Option RowFault) (p : Progress) → s ≡ t → a ≡ b → f ≡ g
    → IsTaken plan show text s table a f p → IsTaken plan show text t table b g p
taken-as plan show text s t table a b f g p one two three is =
    subst (λ u. IsTaken plan show text u table b g p) one
    (subst (λ (x : Step). IsTaken plan show text s table x g p) two (subst (λ (o : Option RowFault). IsTaken plan show text s table a o p) three is))

pub turned-ok : (plan : Plan) (show : Show) (text : List ℕ) (start : ℕ) (next : Next) (n limit time : ℕ) (before after : Progress) (r : Result NextDeadline Memory) → GoesBelow plan start next n limit
    → (along : IsAlong plan show text start next n before) → below limit (due plan along.table start) ≡ Some time
    → IfOk r (λ t. IsDeadlineTaken plan show text start along.table time t after) → IfOk r (λ t. IsTurned plan show text start next n limit t after)
turned-ok plan show text start next n limit time before after (Ok t) goes along is taken = turned plan show text start next n limit time before after t goes along is taken
turned-ok plan show text start next n limit time before after (Err e) goes along is taken = tt

-- how many rows are counted is no part of the table
at-counted : (plan : Plan) (show : Show) (text : List ℕ) (table : List TableRow) (p : Progress) (m : ℕ) → IsAt plan show text table p → IsAt plan show text table (record p { rows = m })
at-counted plan show text table p m at =
    record { rests = at.rests; first_is = at.first_is; born_in = at.born_in; from_is = at.from_is; steps_are = at.steps_are; compared_by = at.compared_by }

pub settled-counted : (plan : Plan) (show : Show) (text : List ℕ) (start : ℕ) (rows : List Row) (f : Option Fault) (p : Progress) (m : ℕ) → IsSettled plan show text start rows f p
    → IsSettled plan show text start rows f (record p { rows = m })
settled-counted plan show text start rows None p m is =
    record { table = is.table; so_far = is.so_far; taken = is.taken; at = at-counted plan show text is.table p m is.at }
settled-counted plan show text start rows (Some f) p m is =
    record {
      table = is.table;
      made = is.made;
      so_far = is.so_far;
      comes = is.comes;
      lawful = is.lawful;
      fault_is = is.fault_is;
      time_is = is.time_is;
      steps_are = is.steps_are;
      compared_by = is.compared_by;
    }

-- what a call answers that passes on another's
pub passed-settled : (plan : Plan) (show : Show) (text : List ℕ) (start : ℕ) (rows : List Row) (row : Row) (limit : ℕ) (f : Fault) (o : Option Fault) (p : Progress) → o ≡ Some f
    → IsPassed plan show text start (next_below plan start (rows ++ row ∷ []) 0) (length rows) limit o p → IsSettled plan show text start (rows ++ row ∷ []) (Some f) p
passed-settled plan show text start rows row limit f o p is passed =
    subst (λ (o : Option Fault). IsPassed plan show text start (next_below plan start (rows ++ row ∷ []) 0) (length rows) limit o p) is passed
