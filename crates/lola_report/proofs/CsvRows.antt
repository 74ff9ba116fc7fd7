-- A trace text has the rows of its entries, and no other records.
use Rattle.std.proofs.Common.{◌≡◌, ◌≢◌, ◌≤◌, ◌<◌, ◌^◌, ℕ, List, [], ◌∷◌, ◌++◌, ◌∙◌, true, false, Some, None, map, refl, sym, ap, subst, arith, append_assoc, decimal}
use Rattle.std.specs.Prelude.{nat_eq, nat_le}
use Rattle.std.specs.List.{AllByRecursion, list_all}
use Rattle.std.proofs.lemmas.Bool.{and_parts, leb-true, ne_eqb}
use Rattle.csv.specs.Machine.{Read, next_record}
use Rattle.csv.specs.Reading.{AreRecords, Reached, default_config, strip_bom}
use Rattle.csv.specs.Writing.{default_writer, field_text, fields_text}
use Rattle.csv.specs.declared.parser.State.{State}
use Rattle.csv.specs.declared.parser.State.TheVariants as st
use Rattle.csv.proofs.RoundTrip.{read-write}
use Rattle.lola_value.specs.Times.{is_digit, time_text}
use Rattle.lola_model.specs.declared.journal.Entry.{Entry}
use Rattle.lola_model.specs.declared.plan.Plan.{Plan}
use Rattle.lola_model.specs.Trace.{IsTraceable, entry_fields, field_bytes, mark_text, trace_line, trace_text}
use Rattle.lola_report.proofs.Mild.{decimal_mild, mild_unquoted}
use Rattle.lola_report.proofs.Decimals.{decimal-some, decimal-spells}
use Rattle.lola_report.proofs.FieldLines.{content, line-content}

-- a text that begins with a digit has no byte order mark
mark-none : (b : ℕ) (t : List ℕ) → nat_eq b 239 ≡ false → strip_bom (b ∷ t) ≡ b ∷ t
unfolding strip_bom
mark-none b [] miss = refl
mark-none b (c ∷ []) miss = refl
mark-none b (c ∷ d ∷ t) miss = rw miss refl

digits-no-mark : (ds t : List ℕ) → ds ≢ [] → list_all is_digit ds ≡ true → strip_bom (ds ++ t) ≡ ds ++ t
digits-no-mark [] t some all = absurd (some refl)
digits-no-mark (d ∷ ds) t some all =
    let p = and_parts (is_digit d) (list_all is_digit ds) all in
    let q = and_parts (nat_le 48 d) (nat_le d 57) p.0 in
    let high : d ≤ 57 = leb-true d 57 q.1 in
    mark-none d (ds ++ t) (ne_eqb d 239 (λ e. absurd (omega (arith, e, high))))

-- there is no record in no text
no-record : (p : Read) → next_record default_config st.StartRecord [] [] [] ≡ Some p → ⊥
unfolding next_record
no-record p h = cc h

no-more : next_record default_config st.StartRecord [] [] [] ≡ None
unfolding next_record
no-more = refl

module _ (plan : Plan) where
  read-entry : (e : Entry) (rest : List ℕ) → IsTraceable plan e
      → next_record default_config st.StartRecord [] [] (trace_line e ++ rest) ≡ Some (entry_fields e, st.StartRecord, rest)
  read-entry e rest is = read-write (entry_fields e) rest

  text-no-mark : (es : List Entry) → AllByRecursion (IsTraceable plan) es → strip_bom (trace_text es) ≡ trace_text es
  unfolding strip_bom
  text-no-mark [] all = refl
  text-no-mark (e ∷ es) all =
      let s = decimal e.row.source in
      let fields = fields_text default_writer (decimal e.row.number ∷ time_text e.row.stamp ∷ mark_text e.mark ∷ map field_bytes e.row.fields) in
      let behind : List ℕ = fields ++ ((10 ∷ []) ++ trace_text es) in
      let small : e.row.source < 2 ^ 64 = let within = all.0.source in omega arith in
      let plain : field_text default_writer s ≡ s = rw (mild_unquoted s (decimal_mild e.row.source)) refl in
      let whole : trace_text (e ∷ es) ≡ s ++ behind =
      ap (λ (l : List ℕ). l ++ trace_text es) (line-content e) ∙ append_assoc (content e) (10 ∷ []) (trace_text es)
      ∙ append_assoc (field_text default_writer s) fields ((10 ∷ []) ++ trace_text es) ∙ ap (λ (l : List ℕ). l ++ behind) plain in
      ap strip_bom whole ∙ digits-no-mark s behind (decimal-some e.row.source small) (decimal-spells e.row.source small).all ∙ sym whole

  each-read : (es : List Entry) → AllByRecursion (IsTraceable plan) es
      → Reached default_config st.StartRecord (trace_text es) (map entry_fields es) st.StartRecord []
  unfolding Reached
  each-read [] all = (refl, refl)
  each-read (e ∷ es) all = ((entry_fields e, st.StartRecord, trace_text es), read-entry e (trace_text es) all.0, refl, each-read es all.1)

  pub records-read : (es : List Entry) → AllByRecursion (IsTraceable plan) es
      → AreRecords default_config st.StartRecord (strip_bom (trace_text es)) (map entry_fields es)
  records-read es all =
      subst (λ (t : List ℕ). AreRecords default_config st.StartRecord t (map entry_fields es)) (sym (text-no-mark es all)) (st.StartRecord, [], each-read es all, no-more)

  only-read : (es : List Entry) (rows : List (List (List ℕ))) (s : State) (left : List ℕ) → AllByRecursion (IsTraceable plan) es
      → Reached default_config st.StartRecord (trace_text es) rows s left → next_record default_config s [] [] left ≡ None → rows ≡ map entry_fields es
  unfolding Reached
  only-read [] [] s left all reached none = refl
  only-read [] (row ∷ rows) s left all reached none = absurd (no-record reached.0 reached.1)
  only-read (e ∷ es) [] s left all reached none =
      let there = read-entry e (trace_text es) all.0 in
      let gone : next_record default_config st.StartRecord [] [] (trace_line e ++ trace_text es) ≡ None =
      ap (λ (x : State). next_record default_config x [] [] (trace_line e ++ trace_text es)) reached.0 ∙ ap (next_record default_config s [] []) reached.1 ∙ none in
      absurd (cc (sym there ∙ gone))
  only-read (e ∷ es) (row ∷ rows) s left all reached none =
      let (p, is, first, rest) = reached in
      let q : Read = (entry_fields e, st.StartRecord, trace_text es) in
      let both : Some q ≡ Some p = sym (read-entry e (trace_text es) all.0) ∙ is in
      let same : q ≡ p = cc both in
      let here : row ≡ entry_fields e = first ∙ ap (λ (r : Read). r.0) (sym same) in
      let more : Reached default_config st.StartRecord (trace_text es) rows s left = subst (λ (r : Read). Reached default_config r.1 r.2 rows s left) (sym same) rest in
      let others = only-read es rows s left all.1 more none in
      rw (here, others) refl

  pub records-alone : (es : List Entry) (rows : List (List (List ℕ))) → AllByRecursion (IsTraceable plan) es
      → AreRecords default_config st.StartRecord (strip_bom (trace_text es)) rows → rows ≡ map entry_fields es
  records-alone es rows all records =
      let (s, left, reached, none) = records in
      only-read es rows s left all (subst (λ (t : List ℕ). Reached default_config st.StartRecord t rows s left) (text-no-mark es all) reached) none
