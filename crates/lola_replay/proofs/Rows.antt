-- Findings of small runs, computed.
use Rattle.std.proofs.Common.{◌≡◌, ◌<◌, ◌*◌, ◌∙◌, inl, inr, ℕ, List, [], ◌∷◌, ◌++◌, Option, Some, None, true, false, nat_eq, refl, sym, ap, subst, lit<, lit≤, arith, map, length, take, slice_get}
use Rattle.std.proofs.lemmas.Fmt.{decimal_digit}
use Rattle.std.proofs.lemmas.Bool.{eq-eqb}
use Rattle.std.specs.Prelude.{codes, get_or}
use Rattle.csv.specs.Writing.{fields_text, is_blank}
use Rattle.lola_value.specs.Times.{time_text}
use Rattle.lola_report.specs.Ends.{done_text}
use Rattle.lola_value.specs.declared.value.FaultKind.TheVariants as fault
use Rattle.lola_model.specs.declared.journal.Entry.{Entry}
use Rattle.lola_model.specs.declared.journal.Mark.{Mark}
use Rattle.lola_model.specs.declared.journal.Mark.TheVariants as mark
use Rattle.lola_model.specs.declared.journal.Show.TheVariants.{Triggers}
use Rattle.lola_model.specs.Faults.{RunFault}
use Rattle.lola_model.specs.Runs.{final_lines, first_fault, settled_fault, settled_model, whole_model}
use Rattle.lola_model.specs.Model.{model}
use Rattle.lola_model.specs.Trace.{trace_line}
use Rattle.lola_model.proofs.Build.{Around, int}
use Rattle.lola_model.proofs.Rows.{second, sum_and_trigger}
use Rattle.lola_replay.specs.declared.finding.Finding.TheVariants as finding
use Rattle.lola_replay.specs.Ends.{IsEndLine, IsEndOf, done_line, fault_line}
use Rattle.lola_replay.specs.Findings.{Finds, Told}
use Rattle.lola_replay.specs.LinesOf.{lines_of}
use Rattle.lola_replay.specs.Traces.{AreRightFrom, IsRightEntry, Tell}
use Rattle.lola_report.specs.Journals.{IsLineOf}
use Rattle.lola_replay.specs.Verdicts.{IsRightLine}
use Rattle.lola_replay.proofs.RightLines.{not-before, right-trace}

-- a row of source 0
abbrev entry_of : ℕ → ℕ → ℕ → Mark → Entry
entry_of number stamp value mark = record { row = record { source = 0; number = number; stamp = stamp; fields = int value ∷ [] }; mark = mark }

abbrev first : Entry
first = entry_of 1 0 1 mark.Accepted

abbrev second' : Entry
second' = entry_of 2 second 2 mark.Accepted

abbrev third : Entry
third = entry_of 3 (2 * second) 5 mark.Accepted

abbrev late : Entry
late = entry_of 2 second 2 (mark.Late 0)

abbrev huge : Entry
huge = entry_of 2 second 9223372036854775807 mark.Accepted

-- their lines

abbrev first_line : List ℕ
first_line = codes "0,1,0.000000000,A,1\n"

abbrev second_line : List ℕ
second_line = codes "0,2,1.000000000,A,2\n"

abbrev third_line : List ℕ
third_line = codes "0,3,2.000000000,A,5\n"

abbrev late_line : List ℕ
late_line = codes "0,2,1.000000000,L0.000000000,2\n"

abbrev huge_line : List ℕ
huge_line = codes "0,2,1.000000000,A,9223372036854775807\n"

first_written : trace_line first ≡ first_line
unfolding fields_text is_blank
first_written = rw (decimal_digit 0 (lit< tt), decimal_digit 1 (lit< tt)) refl

second_written : trace_line second' ≡ second_line
unfolding fields_text is_blank
second_written = rw (decimal_digit 0 (lit< tt), decimal_digit 1 (lit< tt), decimal_digit 2 (lit< tt)) refl

late_written : trace_line late ≡ late_line
unfolding fields_text is_blank
late_written = rw (decimal_digit 0 (lit< tt), decimal_digit 1 (lit< tt), decimal_digit 2 (lit< tt)) refl

second-text : time_text second ≡ codes "1.000000000"
second-text = rw (decimal_digit 0 (lit< tt), decimal_digit 1 (lit< tt)) refl

done-text : done_text 2 0 2 1 ≡ codes "= done accepted 2 late 0 steps 2 lines 1\n"
done-text = rw (decimal_digit 0 (lit< tt), decimal_digit 1 (lit< tt), decimal_digit 2 (lit< tt)) refl

both_written : first_line ∷ second_line ∷ [] ≡ map trace_line (first ∷ second' ∷ [])
both_written = rw (first_written, second_written) refl

module _ (u : Around) where
  fine-0 : settled_fault (sum_and_trigger u) None [] ≡ None
  unfolding settled_fault settled_model model
  fine-0 = refl

  fine-1 : settled_fault (sum_and_trigger u) None (first ∷ []) ≡ None
  unfolding settled_fault settled_model model
  fine-1 = refl

  first_right : IsRightEntry (sum_and_trigger u) None [] first
  first_right = record {
    traceable = record { fields = (record { integer = refl; within = refl }, tt); source = lit< tt; number = lit< tt; stamp = lit≤ tt; mark = tt };
    known = lit< tt;
    numbered = refl;
    marked = lit≤ tt;
    fine = fine-0;
  }

  second_right : IsRightEntry (sum_and_trigger u) None (first ∷ []) second'
  second_right = record {
    traceable = record { fields = (record { integer = refl; within = refl }, tt); source = lit< tt; number = lit< tt; stamp = lit≤ tt; mark = tt };
    known = lit< tt;
    numbered = refl;
    marked = lit≤ tt;
    fine = fine-1;
  }

  both_right : AreRightFrom (sum_and_trigger u) None [] (first ∷ second' ∷ [])
  both_right = (first_right, (second_right, tt))

  -- the verdicts of the two rows
  computed-lines : final_lines (sum_and_trigger u) None (first ∷ second' ∷ []) Triggers ≡ (time_text second ++ codes " trigger_1 \"high\"\n") ∷ []
  unfolding final_lines whole_model model
  computed-lines = refl

  journal-lines : final_lines (sum_and_trigger u) None (first ∷ second' ∷ []) Triggers ≡ codes "1.000000000 trigger_1 \"high\"\n" ∷ []
  journal-lines = computed-lines ∙ ap (λ (t : List ℕ). (t ++ codes " trigger_1 \"high\"\n") ∷ []) second-text

  no-fault : first_fault (sum_and_trigger u) None (first ∷ second' ∷ []) ≡ None
  unfolding first_fault whole_model model
  no-fault = refl

  two-steps : length (whole_model (sum_and_trigger u) None (first ∷ second' ∷ [])) ≡ 2
  unfolding whole_model model
  two-steps = refl

  abbrev told : List ℕ → List ℕ → Told
  told trace verdicts = record { plan = sum_and_trigger u; start = None; show = Triggers; trace = trace; verdicts = verdicts }

  done-written : done_line (sum_and_trigger u) None Triggers (first ∷ second' ∷ []) ≡ codes "= done accepted 2 late 0 steps 2 lines 1\n"
  done-written =
      ap (λ n. done_text 2 0 n (length (final_lines (sum_and_trigger u) None (first ∷ second' ∷ []) Triggers))) two-steps
      ∙ ap (λ (ls : List (List ℕ)). done_text 2 0 2 (length ls)) journal-lines ∙ done-text

  -- the two rows and their verdicts
  abbrev two_rows : List ℕ
  two_rows = codes "0,1,0.000000000,A,1\n0,2,1.000000000,A,2\n"

  two_lines : lines_of two_rows ≡ map trace_line (first ∷ second' ∷ [])
  two_lines = both_written

  done-is-end : IsEndLine (sum_and_trigger u) None Triggers (first ∷ second' ∷ []) (codes "= done accepted 2 late 0 steps 2 lines 1\n")
  done-is-end = subst (λ f. IsEndOf (sum_and_trigger u) None Triggers (first ∷ second' ∷ []) f (codes "= done accepted 2 late 0 steps 2 lines 1\n")) (sym no-fault) (inl (sym done-written))

  a_run_is_the_same : Finds (told two_rows (codes "1.000000000 trigger_1 \"high\"\n= done accepted 2 late 0 steps 2 lines 1\n")) (finding.Same 2 1)
  a_run_is_the_same = record {
    journal = first ∷ second' ∷ [];
    right = right-trace (sum_and_trigger u) None (lines_of two_rows) (first ∷ second' ∷ []) two_lines both_right;
    verdicts = record {
      last = codes "= done accepted 2 late 0 steps 2 lines 1\n";
      end = done-is-end;
      whole = ap (λ (ls : List (List ℕ)). ls ++ codes "= done accepted 2 late 0 steps 2 lines 1\n" ∷ []) (sym journal-lines);
    };
    entries_are = refl;
    lines_are = ap (λ (ls : List (List ℕ)). length ls) (sym journal-lines);
  }

  abbrev same_verdicts : List ℕ
  same_verdicts = codes "1.000000000 trigger_1 \"high\"\n= done accepted 2 late 0 steps 2 lines 1\n"

  -- with a mark that is not the right one
  abbrev mismarked : List ℕ
  mismarked = codes "0,1,0.000000000,A,1\n0,2,1.000000000,L0.000000000,2\n"

  one_line : lines_of mismarked ≡ map trace_line (first ∷ []) ++ late_line ∷ []
  one_line = rw first_written refl

  late_told : IsLineOf (sum_and_trigger u) late_line late
  late_told = record {
    traceable = record { fields = (record { integer = refl; within = refl }, tt); source = lit< tt; number = lit< tt; stamp = lit≤ tt; mark = lit≤ tt };
    written = late_written;
  }

  first_told : Tell (sum_and_trigger u) (first_line ∷ []) (first ∷ [])
  first_told = record { written = ap (λ (l : List ℕ). l ∷ []) (sym first_written); traceable = (first_right.traceable, tt) }

  a_wrong_mark_is_found : Finds (told mismarked same_verdicts) (finding.TraceDiffers 2)
  a_wrong_mark_is_found = record {
    place = 1;
    number = refl;
    holds = record {
      before = first ∷ [];
      line = late_line;
      told = first_told;
      there = refl;
      wrong = inr (inr (inr (inl (late, late_told, λ right. let below : second < 0 = right.1 in absurd (omega (arith, below))))));
    };
    least = not-before (sum_and_trigger u) None (lines_of mismarked) (first ∷ []) (late_line ∷ []) one_line (first_right, tt);
  }

  -- with another message, and without the first line of the verdicts
  other-line : (verdicts line : List ℕ) (at : ℕ) → slice_get (lines_of verdicts) 0 ≡ Some line → nat_eq (get_or line at 0) (get_or (codes "1.000000000 trigger_1 \"high\"\n") at 0) ≡ false
      → Finds (told two_rows verdicts) (finding.VerdictsDiffer 1)
  other-line verdicts line at there other = record {
    journal = first ∷ second' ∷ [];
    right = right-trace (sum_and_trigger u) None (lines_of two_rows) (first ∷ second' ∷ []) two_lines both_right;
    first = record {
      place = 0;
      number = refl;
      holds = subst (λ (shown : List (List ℕ)). ¬ (IsRightLine (IsEndLine (sum_and_trigger u) None Triggers (first ∷ second' ∷ [])) shown 0 (slice_get (lines_of verdicts) 0))) (sym journal-lines)
          (λ right.
          let same = ap (λ (o : Option (List ℕ)). elim o [ None ↦ 0 | Some l ↦ get_or l at 0 ]) (sym there ∙ right) in
          let hit = eq-eqb _ _ same in
          let both : true ≡ false = sym hit ∙ other in
          absurd (cc both));
      least = λ place h. omega arith;
    };
  }

  another_message_is_found : Finds (told two_rows (codes "1.000000000 trigger_1 \"low\"\n= done accepted 2 late 0 steps 2 lines 1\n")) (finding.VerdictsDiffer 1)
  another_message_is_found = other-line _ (codes "1.000000000 trigger_1 \"low\"\n") 23 refl refl

  a_missing_line_is_found : Finds (told two_rows (codes "= done accepted 2 late 0 steps 2 lines 1\n")) (finding.VerdictsDiffer 1)
  a_missing_line_is_found = other-line _ (codes "= done accepted 2 late 0 steps 2 lines 1\n") 0 refl refl

  -- a run that ended with a fault, and one with a row behind it
  abbrev faulty : List Entry
  faulty = first ∷ huge ∷ []

  huge_right : IsRightEntry (sum_and_trigger u) None (first ∷ []) huge
  huge_right = record {
    traceable = record { fields = (record { integer = refl; within = refl }, tt); source = lit< tt; number = lit< tt; stamp = lit≤ tt; mark = tt };
    known = lit< tt;
    numbered = refl;
    marked = lit≤ tt;
    fine = fine-1;
  }

  abbrev the_fault : RunFault
  the_fault = record { stream = 1; kind = fault.Overflow; time = second }

  fault-found : settled_fault (sum_and_trigger u) None faulty ≡ Some the_fault
  unfolding settled_fault settled_model model
  fault-found = refl

  run-faulty : first_fault (sum_and_trigger u) None faulty ≡ Some the_fault
  unfolding first_fault whole_model model
  run-faulty = refl

  no-lines : final_lines (sum_and_trigger u) None faulty Triggers ≡ []
  unfolding final_lines whole_model model
  no-lines = refl

  faulty_right : AreRightFrom (sum_and_trigger u) None [] faulty
  faulty_right = (first_right, (huge_right, tt))

  a_faulty_run_is_the_same : (trace : List ℕ) → lines_of trace ≡ map trace_line faulty → (line : List ℕ) → line ≡ fault_line (sum_and_trigger u) the_fault → (verdicts : List ℕ) → lines_of verdicts ≡ line ∷ []
      → Finds (told trace verdicts) (finding.Same 2 0)
  a_faulty_run_is_the_same trace is line end verdicts alone = record {
    journal = faulty;
    right = right-trace (sum_and_trigger u) None (lines_of trace) faulty is faulty_right;
    verdicts = record {
      last = line;
      end = subst (λ f. IsEndOf (sum_and_trigger u) None Triggers faulty f line) (sym run-faulty) end;
      whole = alone ∙ ap (λ (ls : List (List ℕ)). ls ++ line ∷ []) (sym no-lines);
    };
    entries_are = refl;
    lines_are = ap (λ (ls : List (List ℕ)). length ls) (sym no-lines);
  }

  fault-written : fault_line (sum_and_trigger u) the_fault ≡ codes "= fault b 1 Overflow at 1.000000000\n"
  fault-written = rw (decimal_digit 0 (lit< tt), decimal_digit 1 (lit< tt)) refl

  a_row_behind_a_fault_is_found : (trace verdicts : List ℕ) → lines_of trace ≡ map trace_line faulty ++ third_line ∷ [] → Finds (told trace verdicts) (finding.TraceDiffers 3)
  a_row_behind_a_fault_is_found trace verdicts is = record {
    place = 2;
    number = refl;
    holds = record {
      before = faulty;
      line = third_line;
      told = record { written = ap (λ (ls : List (List ℕ)). take 2 ls) is; traceable = (first_right.traceable, (huge_right.traceable, tt)) };
      there = ap (λ (ls : List (List ℕ)). slice_get ls 2) is;
      wrong = inr (inr (inr (inr (λ none. let both : Some the_fault ≡ None = sym fault-found ∙ none in absurd (cc both)))));
    };
    least = not-before (sum_and_trigger u) None (lines_of trace) faulty (third_line ∷ []) is faulty_right;
  }
