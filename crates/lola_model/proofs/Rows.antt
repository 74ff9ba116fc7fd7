-- Runs of small specifications, computed: outcomes of all streams, verdict lines and faults.
use Rattle.std.proofs.Common.{Bool, ◌||◌, ◌⊎◌, inl, inr, nat_eq, rules, ◌≡◌, refl, ap, ◌∙◌, lit<, lit≤, ℕ, ◌+◌, ◌*◌, ◌<◌, List, [], ◌∷◌, ◌++◌, Some, None, true, false, map}
use Rattle.std.proofs.lemmas.Fmt.{decimal_digit}
use Rattle.std.proofs.lemmas.Bool.{eq-eqb}
use Rattle.std.proofs.lemmas.Str.{IsUtf8-from_ascii}
use Rattle.std.specs.List.{list_any, Contains}
use Rattle.csv.specs.Writing.{escaped, fields_text, is_blank}
use Rattle.lola_model.proofs.Strictly.{Contains-none, Contains-cases}
use Rattle.std.specs.Prelude.{codes, decimal, replicate, length, ◌-◌}
use Rattle.lola_value.specs.Answer.{Answer, Given, Missing, Faulted, Poisoned}
use Rattle.lola_value.specs.declared.text.Field.TheVariants as field
use Rattle.lola_value.specs.declared.value.Kind.TheVariants as kind
use Rattle.lola_value.specs.declared.value.FaultKind.TheVariants as fault
use Rattle.lola_model.specs.declared.expr.Binary.TheVariants as binary
use Rattle.lola_model.specs.declared.expr.Expr.TheVariants.{Parameter}
use Rattle.lola_model.specs.declared.plan.Plan.{Plan}
use Rattle.lola_model.specs.declared.journal.Row.{Row}
use Rattle.lola_model.specs.declared.journal.Entry.{Entry}
use Rattle.lola_model.specs.declared.journal.Mark.TheVariants as mark
use Rattle.lola_model.specs.declared.journal.Show.TheVariants.{Triggers, Outputs}
use Rattle.lola_model.specs.declared.spec.Stream.{Stream}
use Rattle.lola_model.specs.declared.spec.Agg.TheVariants as agg
use Rattle.lola_model.specs.declared.spec.Part.TheVariants as part
use Rattle.lola_model.specs.declared.pacing.Pacing.TheVariants.{Event}
use Rattle.lola_model.specs.declared.pacing.ClausePacings.{ClausePacings}
use Rattle.lola_model.specs.Steps.{all_steps}
use Rattle.lola_model.specs.Model.{model, IsModel, in_order, the_instance}
use Rattle.lola_model.specs.Table.{Step, TableRow, StreamRow, Idle}
use Rattle.lola_model.specs.Content.{outcome_among}
use Rattle.lola_model.specs.Texts.{text_of, trigger_line, output_line}
use Rattle.lola_model.specs.Trace.{IsTraceable, trace_line}
use Rattle.lola_model.specs.Runs.{first_fault, whole_model, final_lines}
use Rattle.lola_model.proofs.Build.{Around, here, num, direct, last, or, both, with, input, output, named, triggered, on_a, hz, plan_of, at_row, row_at, accepted_all, int, gist, window, last_at}

abbrev pub second : ℕ
second = 1000000000

-- output b: Int64 := a + 1
-- trigger b > 2 "high"
abbrev pub sum_and_trigger : Around → Plan
sum_and_trigger u = plan_of
    (named (codes "a") input ∷ named (codes "b") (output kind.Int64 (both u binary.Add (direct 0) (num 1)))
    ∷ triggered (codes "trigger_1") (codes "high") (output kind.Bool (both u binary.Greater (direct 1) (num 2))) ∷ [])
    [] (on_a ∷ on_a ∷ on_a ∷ [])

a_trigger_fires_at_the_second_row : (u : Around) → map gist (whole_model (sum_and_trigger u) None (accepted_all (row_at 0 (int 1) ∷ row_at second (int 2) ∷ [])))
    ≡ (0, (Given (int 1) ∷ []) ∷ (Given (int 2) ∷ []) ∷ (Given (field.Bool false) ∷ []) ∷ [])
    ∷ (second, (Given (int 2) ∷ []) ∷ (Given (int 3) ∷ []) ∷ (Given (field.Bool true) ∷ []) ∷ []) ∷ []
unfolding whole_model
a_trigger_fires_at_the_second_row u = refl

its_text_has_one_line : (u : Around) → text_of (final_lines (sum_and_trigger u) None (accepted_all (row_at 0 (int 1) ∷ row_at second (int 2) ∷ [])) Triggers)
    ≡ codes "1.000000000 trigger_1 \"high\"\n"
unfolding final_lines whole_model
its_text_has_one_line u =
    let lines : List (List ℕ) = trigger_line second (triggered (codes "trigger_1") (codes "high") input) ∷ [] in
    let e : text_of (final_lines (sum_and_trigger u) None (accepted_all (row_at 0 (int 1) ∷ row_at second (int 2) ∷ [])) Triggers) ≡ text_of lines = refl in
    e ∙ rw (decimal_digit 1 (lit< tt), decimal_digit 0 (lit< tt)) refl

it_has_no_fault : (u : Around) → first_fault (sum_and_trigger u) None (accepted_all (row_at 0 (int 1) ∷ row_at second (int 2) ∷ [])) ≡ None
unfolding first_fault whole_model
it_has_no_fault u = refl

-- the same with a value that is too great for a sum: the run ends at its row
a_sum_overflows : (u : Around) → map gist (whole_model (sum_and_trigger u) None (accepted_all (row_at 0 (int 1) ∷ row_at second (int 9223372036854775807) ∷ row_at (2 * second) (int 5) ∷ [])))
    ≡ (0, (Given (int 1) ∷ []) ∷ (Given (int 2) ∷ []) ∷ (Given (field.Bool false) ∷ []) ∷ [])
    ∷ (second, (Given (int 9223372036854775807) ∷ []) ∷ (Faulted fault.Overflow ∷ []) ∷ (Poisoned ∷ []) ∷ []) ∷ []
unfolding whole_model
a_sum_overflows u = refl

the_sum_is_at_fault : (u : Around) → first_fault (sum_and_trigger u) None (accepted_all (row_at 0 (int 1) ∷ row_at second (int 9223372036854775807) ∷ row_at (2 * second) (int 5) ∷ []))
    ≡ Some (record { stream = 1; kind = fault.Overflow; time = second })
unfolding first_fault whole_model
the_sum_is_at_fault u = refl

a_faulty_step_has_no_line : (u : Around) → final_lines (sum_and_trigger u) None (accepted_all (row_at 0 (int 1) ∷ row_at second (int 9223372036854775807) ∷ row_at (2 * second) (int 5) ∷ [])) Triggers ≡ []
unfolding final_lines whole_model
a_faulty_step_has_no_line u = refl

-- output n: UInt64 @1Hz := a.aggregate(over: 10s, using: count)
abbrev pub count_of_ten_seconds : Plan
count_of_ten_seconds = plan_of (named (codes "a") input ∷ named (codes "n") (output kind.UInt64 (window 0)) ∷ [])
    (record { stream = 1; part = part.Eval; target = 0; over = 10000000000; exact = false; using = agg.Count } ∷ [])
    (on_a ∷ hz 1 ∷ [])

-- a row that has no value moves time, and the deadlines before it are steps
abbrev a_row_without_a_value : List Row
a_row_without_a_value = row_at 0 (int 1) ∷ row_at 2500000000 field.Absent ∷ []

deadlines_stand_between_rows : map (λ s. s.time) (all_steps count_of_ten_seconds.pacings None a_row_without_a_value) ≡ 0 ∷ second ∷ 2 * second ∷ 2500000000 ∷ []
deadlines_stand_between_rows = refl

values_are_counted_at_deadlines : map gist (whole_model count_of_ten_seconds None (accepted_all a_row_without_a_value))
    ≡ (0, (Given (int 1) ∷ []) ∷ (Missing ∷ []) ∷ [])
    ∷ (second, (Missing ∷ []) ∷ (Given (int 1) ∷ []) ∷ [])
    ∷ (2 * second, (Missing ∷ []) ∷ (Given (int 1) ∷ []) ∷ [])
    ∷ (2500000000, (Missing ∷ []) ∷ (Missing ∷ []) ∷ []) ∷ []
unfolding whole_model
values_are_counted_at_deadlines = refl

the_counts_are_shown : final_lines count_of_ten_seconds None (accepted_all a_row_without_a_value) Outputs
    ≡ codes "1.000000000 n = 1\n" ∷ codes "2.000000000 n = 1\n" ∷ []
unfolding final_lines whole_model
the_counts_are_shown =
    let lines : List (List ℕ) = output_line second (named (codes "n") input) [] (int 1) ∷ output_line (2 * second) (named (codes "n") input) [] (int 1) ∷ [] in
    let e : final_lines count_of_ten_seconds None (accepted_all a_row_without_a_value) Outputs ≡ lines = refl in
    e ∙ rw (decimal_digit 1 (lit< tt), decimal_digit 2 (lit< tt), decimal_digit 0 (lit< tt)) refl

-- three rows at one time, and the deadline of that time last
abbrev rows_of_one_time : List Row
rows_of_one_time = row_at 0 (int 5) ∷ row_at second (int 6) ∷ row_at second (int 7) ∷ []

a_deadline_comes_after_the_rows_of_its_time : map gist (whole_model count_of_ten_seconds None (accepted_all rows_of_one_time))
    ≡ (0, (Given (int 5) ∷ []) ∷ (Missing ∷ []) ∷ [])
    ∷ (second, (Given (int 6) ∷ []) ∷ (Missing ∷ []) ∷ [])
    ∷ (second, (Given (int 7) ∷ []) ∷ (Missing ∷ []) ∷ [])
    ∷ (second, (Missing ∷ []) ∷ (Given (int 3) ∷ []) ∷ []) ∷ []
unfolding whole_model
a_deadline_comes_after_the_rows_of_its_time = refl

-- output x: Int64 := x.offset(by: -1).defaults(to: 0) + a
abbrev pub sum_of_the_past : Around → Plan
sum_of_the_past u = plan_of
    (named (codes "a") input ∷ named (codes "x") (output kind.Int64 (both u binary.Add (or u (last 1) (num 0)) (direct 0))) ∷ [])
    [] (on_a ∷ on_a ∷ [])

abbrev one_two_three : List Row
one_two_three = row_at 0 (int 1) ∷ row_at second (int 2) ∷ row_at (2 * second) (int 3) ∷ []

a_stream_reads_its_last_value : (u : Around) → map gist (whole_model (sum_of_the_past u) None (accepted_all one_two_three))
    ≡ (0, (Given (int 1) ∷ []) ∷ (Given (int 1) ∷ []) ∷ [])
    ∷ (second, (Given (int 2) ∷ []) ∷ (Given (int 3) ∷ []) ∷ [])
    ∷ (2 * second, (Given (int 3) ∷ []) ∷ (Given (int 6) ∷ []) ∷ []) ∷ []
unfolding whole_model
a_stream_reads_its_last_value u = refl

the_sums_are_shown : (u : Around) → final_lines (sum_of_the_past u) None (accepted_all one_two_three) Outputs
    ≡ codes "0.000000000 x = 1\n" ∷ codes "1.000000000 x = 3\n" ∷ codes "2.000000000 x = 6\n" ∷ []
unfolding final_lines whole_model
the_sums_are_shown u =
    let lines : List (List ℕ) = output_line 0 (named (codes "x") input) [] (int 1) ∷ output_line second (named (codes "x") input) [] (int 3) ∷ output_line (2 * second) (named (codes "x") input) [] (int 6) ∷ [] in
    let e : final_lines (sum_of_the_past u) None (accepted_all one_two_three) Outputs ≡ lines = refl in
    e ∙ rw (decimal_digit 0 (lit< tt), decimal_digit 1 (lit< tt), decimal_digit 2 (lit< tt), decimal_digit 3 (lit< tt), decimal_digit 6 (lit< tt)) refl

-- the table that is made solves the equations
abbrev steps_of_two_rows : List Step
steps_of_two_rows = at_row 0 (int 1) ∷ at_row second (int 2) ∷ []

the_made_table_solves_the_equations : (u : Around) → IsModel (sum_of_the_past u) 0 (in_order steps_of_two_rows) (model (sum_of_the_past u) 0 steps_of_two_rows)
unfolding model
the_made_table_solves_the_equations u = (refl, refl, (refl, refl, refl))

-- and one with another value does not
abbrev a_wrong_row : TableRow
a_wrong_row =
    record {
      step = at_row 0 (int 1);
      streams =
          record { spawned = Idle; living = record { instance = the_instance; outcome = Given (int 1) } ∷ []; closed = []; close_faults = [] }
          ∷ record { spawned = Idle; living = record { instance = the_instance; outcome = Given (int 7) } ∷ []; closed = []; close_faults = [] } ∷ [];
    }

abbrev second_outcome : List StreamRow → Answer
second_outcome (a ∷ b ∷ []) = outcome_among the_instance b.living
second_outcome _ = Missing

a_wrong_table_does_not : (u : Around) → ¬ (IsModel (sum_of_the_past u) 0 (in_order (at_row 0 (int 1) ∷ [])) (a_wrong_row ∷ []))
a_wrong_table_does_not u h = let e : Given (int 7) ≡ Given (int 1) = ap (λ (row : TableRow). second_outcome row.streams) h.1 in cc

-- output z(p: Int64): Int64 spawn with a eval @a when a == p with z(p).last(or: 0) + 1 close when a == 0
abbrev pub counter_of_a_value : Around → Stream
counter_of_a_value u =
    record (output kind.Int64 (num 0)) {
      name = codes "z";
      parameters = kind.Int64 ∷ [];
      spawn = with (direct 0);
      eval = Some (record { place = 0; pace = None; when = Some (both u binary.Equal (direct 0) (Parameter here 0)); when_at = 0; with_at = []; with = both u binary.Add (or u (last_at u 1 (Parameter here 0)) (num 0)) (num 1) ∷ [] });
      close = Some (record { place = 0; pace = None; when = Some (both u binary.Equal (direct 0) (num 0)); when_at = 0; with_at = []; with = [] });
    }

abbrev pub on_a_all : ClausePacings
on_a_all = record { spawn = Some (Event (record { 0 = 1 } ∷ [])); eval = Some (Event (record { 0 = 1 } ∷ [])); close = Some (Event (record { 0 = 1 } ∷ [])) }

abbrev pub counts_of_values : Around → Plan
counts_of_values u = plan_of (named (codes "a") input ∷ counter_of_a_value u ∷ []) [] (on_a ∷ on_a_all ∷ [])

abbrev zeros_and_ones : List Row
zeros_and_ones = row_at 0 (int 0) ∷ row_at second (int 0) ∷ row_at (2 * second) (int 1) ∷ row_at (3 * second) (int 1) ∷ row_at (4 * second) (int 0) ∷ row_at (5 * second) (int 1) ∷ []

-- both instances are closed at the fifth row, and the last row begins a new life
a_closed_instance_begins_anew : (u : Around) → map gist (whole_model (counts_of_values u) None (accepted_all zeros_and_ones))
    ≡ (0, (Given (int 0) ∷ []) ∷ (Given (int 1) ∷ []) ∷ [])
    ∷ (second, (Given (int 0) ∷ []) ∷ (Given (int 1) ∷ []) ∷ [])
    ∷ (2 * second, (Given (int 1) ∷ []) ∷ (Given (int 1) ∷ []) ∷ [])
    ∷ (3 * second, (Given (int 1) ∷ []) ∷ (Given (int 2) ∷ []) ∷ [])
    ∷ (4 * second, (Given (int 0) ∷ []) ∷ (Missing ∷ Given (int 1) ∷ []) ∷ [])
    ∷ (5 * second, (Given (int 1) ∷ []) ∷ (Given (int 1) ∷ []) ∷ []) ∷ []
unfolding whole_model
a_closed_instance_begins_anew u = refl

-- a line of an instance, where numbers are written by this function
abbrev instance_line : (ℕ → List ℕ) → ℕ → ℕ → ℕ → List ℕ
instance_line write time parameter value =
    write time ++ (46 ∷ (replicate (9 - length (write 0)) 48 ++ write 0))
    ++ (32 ∷ (codes "z" ++ ((40 ∷ (write parameter ++ 41 ∷ [])) ++ (codes " = " ++ (write value ++ 10 ∷ [])))))

abbrev instance_lines : (ℕ → List ℕ) → List (List ℕ)
instance_lines write =
    instance_line write 0 0 1 ∷ instance_line write 1 0 1 ∷ instance_line write 2 1 1
    ∷ instance_line write 3 1 2 ∷ instance_line write 4 0 1 ∷ instance_line write 5 1 1 ∷ []

instance_lines_in_digits : (write : ℕ → List ℕ) → ((n : ℕ) → n < 10 → write n ≡ (48 + n) ∷ []) → instance_lines write
    ≡ codes "0.000000000 z(0) = 1\n" ∷ codes "1.000000000 z(0) = 1\n" ∷ codes "2.000000000 z(1) = 1\n"
    ∷ codes "3.000000000 z(1) = 2\n" ∷ codes "4.000000000 z(0) = 1\n" ∷ codes "5.000000000 z(1) = 1\n" ∷ []
instance_lines_in_digits write h = rw (h 0 (lit< tt), h 1 (lit< tt), h 2 (lit< tt), h 3 (lit< tt), h 4 (lit< tt), h 5 (lit< tt)) refl

instances_are_shown_with_their_parameters : (u : Around) → final_lines (counts_of_values u) None (accepted_all zeros_and_ones) Outputs
    ≡ codes "0.000000000 z(0) = 1\n" ∷ codes "1.000000000 z(0) = 1\n" ∷ codes "2.000000000 z(1) = 1\n"
    ∷ codes "3.000000000 z(1) = 2\n" ∷ codes "4.000000000 z(0) = 1\n" ∷ codes "5.000000000 z(1) = 1\n" ∷ []
unfolding final_lines whole_model
instances_are_shown_with_their_parameters u =
    let e : final_lines (counts_of_values u) None (accepted_all zeros_and_ones) Outputs ≡ instance_lines decimal = refl in
    e ∙ instance_lines_in_digits decimal decimal_digit

-- lines of the trace

abbrev quote_entry : Entry
quote_entry = record { row = record { source = 0; number = 1; stamp = 0; fields = field.Text (codes "x,\"y") ∷ [] }; mark = mark.Accepted }

abbrev late_entry : Entry
late_entry = record { row = record { source = 1; number = 1; stamp = second; fields = int 1 ∷ [] }; mark = mark.Late (5 * second) }

-- a field with a comma and a double quote is quoted, and the double quote stands twice
a_text_with_a_quote_is_quoted : trace_line quote_entry ≡ codes "0,1,0.000000000,A,\"x,\"\"y\"\n"
unfolding escaped fields_text is_blank
a_text_with_a_quote_is_quoted = rw (decimal_digit 0 (lit< tt), decimal_digit 1 (lit< tt)) refl

a_late_row_tells_the_merged_time : trace_line late_entry ≡ codes "1,1,1.000000000,L5.000000000,1\n"
unfolding fields_text is_blank
a_late_row_tells_the_merged_time = rw (decimal_digit 0 (lit< tt), decimal_digit 1 (lit< tt), decimal_digit 5 (lit< tt)) refl

-- a number that no test finds is no member
not_contained : (x : ℕ) (xs : List ℕ) → list_any (λ y. nat_eq y x) xs ≡ false → ¬ (Contains xs x)
not_contained x [] h c = Contains-none x c
not_contained x (y ∷ ys) h c = go (nat_eq y x) refl h (Contains-cases y x ys c) (not_contained x ys)
  where
    go : (b : Bool) → nat_eq y x ≡ b → (b || list_any (λ z. nat_eq z x) ys) ≡ false → (y ≡ x) ⊎ Contains ys x → (list_any (λ z. nat_eq z x) ys ≡ false → ¬ (Contains ys x)) → ⊥
    go true e g m more = absurd (cc)
    go false e g (inl k) more = let t : nat_eq y x ≡ true = eq-eqb y x k in absurd (cc)
    go false e g (inr d) more = more g d

-- both are entries that a trace can tell
a_number_is_traceable : (u : Around) → IsTraceable (sum_and_trigger u) late_entry
a_number_is_traceable u = record { fields = (record { integer = refl; within = refl }, tt); source = lit< tt; number = lit< tt; stamp = lit≤ tt; mark = lit≤ tt }

abbrev text_input : Plan
text_input = plan_of (record input { kind = Some kind.Text } ∷ []) [] (on_a ∷ [])

a_text_is_traceable : IsTraceable text_input quote_entry
a_text_is_traceable = record {
  fields = ((refl, record { utf8 = IsUtf8-from_ascii _ (search rules); some = λ e. cc; present = λ e. cc; one_line = (not_contained 13 (codes "x,\"y") refl, not_contained 10 (codes "x,\"y") refl) }), tt);
  source = lit< tt;
  number = lit< tt;
  stamp = lit≤ tt;
  mark = tt;
}
