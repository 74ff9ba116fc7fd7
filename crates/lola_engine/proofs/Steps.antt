-- What a step comes to for those who ran steps before it, and one stretch of steps after another.
use Rattle.std.proofs.Common.{◌≡◌, refl, ap, sym, subst, ◌∙◌, ℕ, ◌+◌, List, [], ◌∷◌, ◌++◌, Some, Ok, Err, map, length, append_assoc, append-nil, length-append, arith}
use Rattle.lola_value.specs.Appending.{AppendsPart}
use Rattle.lola_value.specs.declared.value.FaultKind.{FaultKind}
use Rattle.lola_model.specs.Acceptance.{IsAccepted}
use Rattle.lola_model.specs.Faults.{RunFault, fault_of_last}
use Rattle.lola_model.specs.Model.{answered, last_row, model}
use Rattle.lola_model.specs.Runs.{content_after}
use Rattle.lola_model.specs.Standing.{IsFaulty, StandsBetween, content_left}
use Rattle.lola_model.specs.Store.{Memories, Seen}
use Rattle.lola_model.specs.Table.{Step, TableRow}
use Rattle.lola_model.specs.Texts.{table_lines, text_of}
use Rattle.lola_model.specs.declared.plan.Plan.{Plan}
use Rattle.lola_model.specs.declared.journal.Show.{Show}
use Rattle.lola_model.proofs.Journals.{table_lines-append_one, text_of-append}
use Rattle.lola_model.proofs.Orderly.{answered_grows, answered_orderly, of_more_rows}
use Rattle.lola_step_contents.specs.Ends.{lines_of}
use Rattle.lola_step_contents.proofs.Settled.{stay_settled}
use Rattle.lola_step.specs.Notes.{read_step_value}
use Rattle.lola_step.specs.Progress.{IsRun}
use Rattle.lola_step.specs.Steps.{IsDoneStep}
use Rattle.lola_step.specs.declared.step_value.StepValue.{StepValue}
use Rattle.lola_engine.specs.declared.end.EngineEnd.{EngineEnd}
use Rattle.lola_engine.specs.declared.end.EngineEnd.TheVariants.{Fault, Memory}
use Rattle.lola_engine.specs.Going.{Add, CutsOn, EndsOn, FaultInSteps, Goes, HasRun, RunsOn, Tally, lines_after}
use Rattle.lola_model.proofs.Growing.{is_ended}
use Rattle.lola_engine.proofs.Tables.{answered_step, faulty_ends, faulty_lines, faulty_row, fine_goes_on, fine_row, lines_stay, one_by_one, one_row_more, rows_end}

-- nothing was run
pub goes_none : (start : ℕ) (t : Tally) (m : Memories) (s : Seen) (text : List ℕ) → Goes (Ok tt) start [] t m s t m s text text
goes_none start t m s text steps h = record {
  has = subst (λ xs. HasRun t start xs m s) (sym (append-nil steps)) h;
  lines = [];
  add = ap (lines_after t start) (append-nil steps) ∙ sym (append-nil (lines_after t start steps));
  text = sym (append-nil text);
  steps_more = (let same = ap (λ xs. length (model t.plan start xs)) (append-nil steps) in omega (arith, same));
  lines_more = omega arith;
}

-- lines of more steps, and of still more
add_then : (t : Tally) (start : ℕ) (steps a b : List Step) (ls ks : List (List ℕ)) → Add t start steps a ls → Add t start (steps ++ a) b ks → Add t start steps (a ++ b) (ls ++ ks)
add_then t start steps a b ls ks h k =
    ap (lines_after t start) (sym (append_assoc steps a b)) ∙ (k ∙ (ap (λ (xs : List (List ℕ)). xs ++ ks) h ∙ append_assoc (lines_after t start steps) ls ks))

text_then : (ls : List (List ℕ)) (x y z : List ℕ) (part : List ℕ) → y ≡ x ++ text_of ls → z ≡ y ++ part → z ≡ x ++ (text_of ls ++ part)
text_then ls x y z part h k = k ∙ (ap (λ (xs : List ℕ). xs ++ part) h ∙ append_assoc x (text_of ls) part)

-- the same of a tally with the same plan that shows the same
module _ (t u : Tally) (plan : u.plan ≡ t.plan) (show : u.show ≡ t.show) (start : ℕ) where
  add_same : (steps more : List Step) (ls : List (List ℕ)) → Add u start steps more ls → Add t start steps more ls
  add_same steps more ls h =
      subst (λ (p : Plan). table_lines t.show p.spec.streams (model p start (steps ++ more)) ≡ table_lines t.show p.spec.streams (model p start steps) ++ ls) plan
      (subst (λ (w : Show). table_lines w u.plan.spec.streams (model u.plan start (steps ++ more)) ≡ table_lines w u.plan.spec.streams (model u.plan start steps) ++ ls) show h)

  fault_same : (steps : List Step) (f : RunFault) → fault_of_last (last_row (model u.plan start steps)) ≡ Some f → fault_of_last (last_row (model t.plan start steps)) ≡ Some f
  fault_same steps f h = subst (λ (p : Plan). fault_of_last (last_row (model p start steps)) ≡ Some f) plan h

-- one stretch after another
module _ (start : ℕ) (steps a b : List Step) (t u : Tally) (m1 : Memories) (s1 : Seen) (x0 x1 x2 : List ℕ)
    (plan : u.plan ≡ t.plan) (show : u.show ≡ t.show) (f : RunsOn start steps a t u m1 s1 x0 x1) where
  -- how many steps there are then
  steps_then : (count : ℕ) → count + length (model u.plan start (steps ++ a)) ≡ u.steps + length (model u.plan start ((steps ++ a) ++ b))
      → count + length (model t.plan start steps) ≡ t.steps + length (model t.plan start (steps ++ (a ++ b)))
  steps_then count more =
      let first = ap (λ (p : Plan). length (model p start (steps ++ a))) plan in
      let both = ap (λ (p : Plan). length (model p start ((steps ++ a) ++ b))) plan in
      let joined = ap (λ (xs : List Step). length (model t.plan start xs)) (append_assoc steps a b) in
      omega (arith, more, first, both, joined, f.steps_more)

  pub runs_then : (v : Tally) (m2 : Memories) (s2 : Seen) → RunsOn start (steps ++ a) b u v m2 s2 x1 x2 → RunsOn start steps (a ++ b) t v m2 s2 x0 x2
  runs_then v m2 s2 n = record {
    has = subst (λ xs. HasRun v start xs m2 s2) (append_assoc steps a b) n.has;
    lines = f.lines ++ n.lines;
    add = add_then t start steps a b f.lines n.lines f.add (add_same t u plan show start (steps ++ a) b n.lines n.add);
    text = text_then f.lines x0 x1 x2 (text_of n.lines) f.text n.text ∙ ap (λ (xs : List ℕ). x0 ++ xs) (sym (text_of-append f.lines n.lines));
    steps_more = steps_then v.steps n.steps_more;
    lines_more = (let both = length-append f.lines n.lines in omega (arith, both, f.lines_more, n.lines_more));
  }

  -- whatever was still to come
  pub ends_then : (e : EngineEnd) (later : List Step) → EndsOn e start (steps ++ a) (b ++ later) u x1 x2 → EndsOn e start steps ((a ++ b) ++ later) t x0 x2
  ends_then (Fault stream kind time) later n =
      let fault : RunFault = record { stream = stream; kind = kind; time = time } in
      subst (λ xs. FaultInSteps fault start steps xs t x0 x2) (sym (append_assoc a b later)) (record {
        is_fault = ap (λ (xs : List Step). fault_of_last (last_row (model t.plan start xs))) (sym (append_assoc steps a (b ++ later))) ∙ fault_same t u plan show start ((steps ++ a) ++ (b ++ later)) fault n.is_fault;
        lines = f.lines ++ n.lines;
        add = add_then t start steps a (b ++ later) f.lines n.lines f.add (add_same t u plan show start (steps ++ a) (b ++ later) n.lines n.add);
        text = text_then f.lines x0 x1 x2 (text_of n.lines) f.text n.text ∙ ap (λ (xs : List ℕ). x0 ++ xs) (sym (text_of-append f.lines n.lines));
      })
  ends_then Memory later n =
      subst (λ xs. CutsOn start steps xs t x0 x2) (sym (append_assoc a b later)) (record {
        lines = f.lines ++ n.lines;
        add = add_then t start steps a (b ++ later) f.lines n.lines f.add (add_same t u plan show start (steps ++ a) (b ++ later) n.lines n.add);
        part = text_of f.lines ++ n.part;
        rest = n.rest;
        joined = text_of-append f.lines n.lines ∙ (ap (λ (xs : List ℕ). text_of f.lines ++ xs) n.joined ∙ sym (append_assoc (text_of f.lines) n.part n.rest));
        text = text_then f.lines x0 x1 x2 n.part f.text n.text;
      })

-- one step
module _ (t : Tally) (start : ℕ) (x : Step) (m0 : Memories) (s0 : Seen) (x0 x1 : List ℕ) where
  abbrev rows : List Step → List TableRow
  rows steps = model t.plan start steps

  abbrev row : List Step → TableRow
  row steps = answered t.plan start (rows steps) x

  more : (steps : List Step) (m : Memories) (s : Seen) → HasRun t start steps m s → rows (steps ++ x ∷ []) ≡ rows steps ++ row steps ∷ []
  more steps m s h = one_row_more t.plan start steps x (fine_goes_on (rows steps) h.fine)

  -- there was no memory to begin it
  pub goes_memory : (u : Tally) (m1 : Memories) (s1 : Seen) → x1 ≡ x0 → Goes (Err Memory) start (x ∷ []) t m0 s0 u m1 s1 x0 x1
  goes_memory u m1 s1 e steps later h =
      let w = lines_stay t.plan start t.show steps (x ∷ later) in
      record { lines = w.0; add = w.1; part = []; rest = text_of w.0; joined = refl; text = e ∙ sym (append-nil x0) }

  -- it has a fault
  pub goes_fault : (u : Tally) (m1 : Memories) (s1 : Seen) (stream time : ℕ) (kind : FaultKind) → x.time ≡ time
      → ((table : List TableRow) → IsRun t.plan t.names table → StandsBetween t.names m0 s0 (content_after t.plan start table) → IsFaulty t.plan start table x stream kind)
      → x1 ≡ x0 → Goes (Err (Fault stream kind time)) start (x ∷ []) t m0 s0 u m1 s1 x0 x1
  goes_fault u m1 s1 stream time kind at ends e steps later h =
      let f = ends (rows steps) h.run h.stands in
      let one = more steps m0 s0 h in
      let all : rows (steps ++ x ∷ later) ≡ rows steps ++ row steps ∷ [] =
      ap rows (one_by_one steps x later) ∙ (rows_end t.plan start (steps ++ x ∷ []) later (ap is_ended one ∙ faulty_ends (rows steps) (row steps) _ f) ∙ one) in
      record {
        is_fault =
            ap (λ (table : List TableRow). fault_of_last (last_row table)) all
            ∙ (faulty_row (rows steps) (row steps) _ f
            ∙ ap (λ n. Some (record { stream = stream; kind = kind; time = n })) (ap (λ (z : Step). z.time) (answered_step t.plan start (rows steps) x) ∙ at));
        lines = [];
        add =
            ap (table_lines t.show t.plan.spec.streams) all
            ∙ (table_lines-append_one t.show t.plan.spec.streams (rows steps) (row steps)
            ∙ ap (λ (ls : List (List ℕ)). lines_after t start steps ++ ls) (faulty_lines t.show t.plan.spec.streams (row steps) _ f));
        text = e ∙ sym (append-nil x0);
      }

  module _ (time : ℕ) (at : x.time ≡ time) (m1 : Memories) (s1 : Seen) (step_values : List StepValue)
      (ends : (table : List TableRow) → IsRun t.plan t.names table → StandsBetween t.names m0 s0 (content_after t.plan start table) → IsDoneStep t.plan t.show start table x t.names m1 s1 step_values) where
    abbrev ls : List (List ℕ)
    ls = lines_of t.show time t.plan.spec.streams (map (read_step_value t.names) step_values)

    its_lines : (steps : List Step) → HasRun t start steps m0 s0 → Add t start steps (x ∷ []) ls
    its_lines steps h =
        let d = ends (rows steps) h.run h.stands in
        ap (table_lines t.show t.plan.spec.streams) (more steps m0 s0 h)
        ∙ (table_lines-append_one t.show t.plan.spec.streams (rows steps) (row steps)
        ∙ (ap (λ (ks : List (List ℕ)). lines_after t start steps ++ ks) d.lines
        ∙ ap (λ n. lines_after t start steps ++ lines_of t.show n t.plan.spec.streams (map (read_step_value t.names) step_values)) at))

    -- it is done, but for its lines
    pub goes_cut : (u : Tally) (m2 : Memories) (s2 : Seen) → AppendsPart x0 x1 (text_of ls) → Goes (Err Memory) start (x ∷ []) t m0 s0 u m2 s2 x0 x1
    goes_cut u m2 s2 p steps later h =
        let w = lines_stay t.plan start t.show (steps ++ x ∷ []) later in
        record {
          lines = ls ++ w.0;
          add = add_then t start steps (x ∷ []) later ls w.0 (its_lines steps h) w.1;
          part = p.part;
          rest = p.rest ++ text_of w.0;
          joined = text_of-append ls w.0 ∙ (ap (λ (k : List ℕ). k ++ text_of w.0) p.joined ∙ append_assoc p.part p.rest (text_of w.0));
          text = p.appended;
        }

    -- it is done
    pub goes_done : IsAccepted t.plan → (n : ℕ) → n ≡ length ls → x1 ≡ x0 ++ text_of ls
        → Goes (Ok tt) start (x ∷ []) t m0 s0 (record { plan = t.plan; show = t.show; names = t.names; steps = t.steps + 1; lines = t.lines + n }) m1 s1 x0 x1
    goes_done accepted n count e steps h =
        let d = ends (rows steps) h.run h.stands in
        let one = more steps m0 s0 h in
        let add = its_lines steps h in
        record {
          has = record {
            fine = ap (λ (table : List TableRow). fault_of_last (last_row table)) one ∙ fine_row (rows steps) (row steps) d.fine;
            run = subst (λ (table : List TableRow). IsRun t.plan t.names table) (sym one) (record {
              naming = h.run.naming;
              texts = h.run.texts;
              of_rows = of_more_rows (rows steps) (row steps) (answered_orderly t.plan start (rows steps) x h.run.of_rows);
              settled = stay_settled t.plan accepted start (rows steps) x h.run.of_rows h.run.settled;
            });
            stands = subst (λ (table : List TableRow). StandsBetween t.names m1 s1 (content_after t.plan start table)) (sym one)
                (content_left start (rows steps) (row steps), d.stands, answered_grows t.plan start (rows steps) x h.run.of_rows);
          };
          lines = ls;
          add = add;
          text = e;
          steps_more = (let g = ap length one ∙ length-append (rows steps) (row steps ∷ []) in omega (arith, g));
          lines_more = omega (arith, count);
        }
