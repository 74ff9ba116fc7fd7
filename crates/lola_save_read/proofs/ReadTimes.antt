-- The first three lines of a state are read exactly.
use Rattle.std.proofs.Common.{◌≡◌, ◌≢◌, ℕ, ◌+◌, ◌≤◌, ◌<◌, ◌^◌, List, [], ◌∷◌, ◌++◌, true, false, Option, Some, None, codes, decimal, refl, sym, ap, ◌∙◌, arith, append_assoc, nat_le}
use Rattle.std.proofs.lemmas.Bool.{and_parts, le-leb, leb-true}
use Rattle.std.proofs.lemmas.List.{append_cancel_left}
use Rattle.lola_value.specs.Times.{latest}
use Rattle.lola_report.specs.Lines.{has_no_lf, is_not_lf}
use Rattle.lola_report.proofs.Plain.{decimal_plain}
use Rattle.lola_save_text.specs.Fitting.{is_last, is_start, most_steps}
use Rattle.lola_save_text.specs.Forms.{forms_of}
use Rattle.lola_save_text.specs.declared.forms.StreamForm.{StreamForm}
use Rattle.lola_save_read.specs.Heads.{IsLineBehind}
use Rattle.lola_save_text.specs.Lines.{StateLine, StartLine, LastLine, StepsLine, head_text, line_text, lines_text, time_or_dash}
use Rattle.lola_save_text.specs.Places.{Place, AtStart, AtLast, AtSteps, AtStream, as_last, as_start, as_steps, next, where_so}
use Rattle.lola_save_read.specs.Reads.{AreTimesRead, AreTimesRefused, IsLastLine, IsStepsLine, IsTimedLine}
use Rattle.lola_save_text.specs.Runs.{count_lines, run}
use Rattle.lola_save_text.proofs.AcceptedForms.{accepted-storable}
use Rattle.lola_save_text.proofs.Choices.{chosen-so, where-so}
use Rattle.lola_save_text.proofs.SameCuts.{cut-same}
use Rattle.lola_save_text.proofs.Damaged.{refused-is-damaged}
use Rattle.lola_save_text.proofs.Numbers.{decimal-same}
use Rattle.lola_save_text.proofs.SameLines.{dash-same, start-up-to}
use Rattle.lola_save_text.proofs.SameRuns.{dash-plain}
use Rattle.lola_save_text.proofs.Saved.{step-so}
use Rattle.lola_save_text.proofs.Whole.{is-last, is-start, is-steps}

-- one line behind a text
same-body : (front bytes body rest b r : List ℕ) → IsLineBehind front bytes body rest → has_no_lf b ≡ true → bytes ≡ front ++ (b ++ 10 ∷ r) → body ≡ b
same-body front bytes body rest b r line plain e =
    (cut-same is_not_lf body b (10 ∷ rest) (10 ∷ r) line.plain plain refl refl (append_cancel_left front (body ++ 10 ∷ rest) (b ++ 10 ∷ r) (sym line.written ∙ e))).0

-- a time or a dash

pub timed-no-line : (front bytes : List ℕ) → ((body rest : List ℕ) → IsLineBehind front bytes body rest → ⊥) → (o : Option ℕ) (rest : List ℕ) → IsTimedLine front bytes o rest → ⊥
timed-no-line front bytes never o rest t = never (time_or_dash o) rest (record { written = t.written; plain = dash-plain o })

pub timed-no-time : (front bytes body left : List ℕ) → IsLineBehind front bytes body left → ((o : Option ℕ) → is_start o ≡ true → body ≢ time_or_dash o)
    → (o : Option ℕ) (rest : List ℕ) → IsTimedLine front bytes o rest → ⊥
timed-no-time front bytes body left line never o rest t = never o t.time (same-body front bytes body left (time_or_dash o) rest line (dash-plain o) t.written)

pub timed-there : (front bytes body left : List ℕ) (o : Option ℕ) → IsLineBehind front bytes body left → is_start o ≡ true → body ≡ time_or_dash o → IsTimedLine front bytes o left
timed-there front bytes body left o line s e = record { time = s; written = line.written ∙ ap (λ (t : List ℕ). front ++ (t ++ 10 ∷ left)) e }

-- a last step

last-is-start : (a o : Option ℕ) → is_last a o ≡ true → is_start o ≡ true
last-is-start a None e = refl
last-is-start None (Some t) e = absurd (cc)
last-is-start (Some a) (Some t) e = (and_parts (nat_le a t) (nat_le t latest) e).1

pub last-no-line : (start : Option ℕ) (bytes : List ℕ) → ((o : Option ℕ) (rest : List ℕ) → IsTimedLine (codes "last ") bytes o rest → ⊥) → (o : Option ℕ) (rest : List ℕ) → IsLastLine start bytes o rest → ⊥
last-no-line start bytes never o rest t = never o rest (record { time = last-is-start start o t.order; written = t.written })

pub last-no-order : (start : Option ℕ) (bytes left : List ℕ) (l : Option ℕ) → IsTimedLine (codes "last ") bytes l left → is_last start l ≡ false → (o : Option ℕ) (rest : List ℕ) → IsLastLine start bytes o rest → ⊥
last-no-order start bytes left l line out o rest t =
    let e = (cut-same is_not_lf (time_or_dash l) (time_or_dash o) (10 ∷ left) (10 ∷ rest) (dash-plain l) (dash-plain o) refl refl
    (append_cancel_left (codes "last ") (time_or_dash l ++ 10 ∷ left) (time_or_dash o ++ 10 ∷ rest) (sym line.written ∙ t.written))).0 in
    let same = dash-same l o (start-up-to l line.time) (start-up-to o (last-is-start start o t.order)) e in
    let f : false ≡ true = sym out ∙ ap (is_last start) same ∙ t.order in
    cc f

-- a number of steps

pub steps-no-line : (bytes : List ℕ) → ((body rest : List ℕ) → IsLineBehind (codes "steps ") bytes body rest → ⊥) → (n : ℕ) (rest : List ℕ) → IsStepsLine bytes n rest → ⊥
steps-no-line bytes never n rest t = never (decimal n) rest (record { written = t.written; plain = decimal_plain n })

pub steps-no-number : (bytes body left : List ℕ) → IsLineBehind (codes "steps ") bytes body left → ((n : ℕ) → n < 2 ^ 64 → body ≢ decimal n) → (n : ℕ) (rest : List ℕ) → IsStepsLine bytes n rest → ⊥
steps-no-number bytes body left line never n rest t =
    let f = t.few in
    never n (omega (arith, f)) (same-body (codes "steps ") bytes body left (decimal n) rest line (decimal_plain n) t.written)

pub steps-many : (bytes body left : List ℕ) (m : ℕ) → IsLineBehind (codes "steps ") bytes body left → body ≡ decimal m → m < 2 ^ 64 → most_steps < m → (n : ℕ) (rest : List ℕ) → IsStepsLine bytes n rest → ⊥
steps-many bytes body left m line e small far n rest t =
    let f = t.few in
    let s = decimal-same m n (omega (arith, small)) (omega (arith, f)) (sym e ∙ same-body (codes "steps ") bytes body left (decimal n) rest line (decimal_plain n) t.written) in
    omega (arith, s, f, far)

pub steps-there : (bytes body left : List ℕ) (m : ℕ) → IsLineBehind (codes "steps ") bytes body left → body ≡ decimal m → m ≤ most_steps → IsStepsLine bytes m left
steps-there bytes body left m line e few = record { few = few; written = line.written ∙ ap (λ (t : List ℕ). codes "steps " ++ (t ++ 10 ∷ left)) e }

-- the three lines

start-split : (o : Option ℕ) (rest : List ℕ) → line_text (StartLine o) ++ rest ≡ codes "start " ++ (time_or_dash o ++ 10 ∷ rest)
start-split o rest = ap (λ (t : List ℕ). codes "start " ++ t) (append_assoc (time_or_dash o) (10 ∷ []) rest)

last-split : (o : Option ℕ) (rest : List ℕ) → line_text (LastLine o) ++ rest ≡ codes "last " ++ (time_or_dash o ++ 10 ∷ rest)
last-split o rest = ap (λ (t : List ℕ). codes "last " ++ t) (append_assoc (time_or_dash o) (10 ∷ []) rest)

steps-split : (n : ℕ) (rest : List ℕ) → line_text (StepsLine n) ++ rest ≡ codes "steps " ++ (decimal n ++ 10 ∷ rest)
steps-split n rest = ap (λ (t : List ℕ). codes "steps " ++ t) (append_assoc (decimal n) (10 ∷ []) rest)

module _ (a : Option ℕ) (bytes r1 : List ℕ) (first : IsTimedLine (codes "start ") bytes a r1) where
  one-text : bytes ≡ lines_text (StartLine a ∷ []) ++ r1
  one-text = first.written ∙ sym (append_assoc (line_text (StartLine a)) [] r1 ∙ start-split a r1)

  one-run : (forms : List StreamForm) (ls : List StateLine) → run forms AtStart (StartLine a ∷ ls) ≡ run forms (AtLast a) ls
  one-run forms ls = step-so forms AtStart (StartLine a) (is_start a) (AtLast a) ls refl first.time

  module _ (l : Option ℕ) (r2 : List ℕ) (second : IsLastLine a r1 l r2) where
    two-text : bytes ≡ lines_text (StartLine a ∷ LastLine l ∷ []) ++ r2
    two-text =
        first.written ∙ sym (start-split a r1) ∙ ap (λ (t : List ℕ). line_text (StartLine a) ++ t) (second.written ∙ sym (append_assoc (line_text (LastLine l)) [] r2 ∙ last-split l r2))
        ∙ sym (append_assoc (line_text (StartLine a)) (line_text (LastLine l) ++ []) r2)

    two-run : (forms : List StreamForm) (ls : List StateLine) → run forms AtStart (StartLine a ∷ LastLine l ∷ ls) ≡ run forms (AtSteps a l) ls
    two-run forms ls = one-run forms (LastLine l ∷ ls) ∙ step-so forms (AtLast a) (LastLine l) (is_last a l) (AtSteps a l) ls refl second.order

    pub times-read : (n : ℕ) (r3 : List ℕ) → IsStepsLine r2 n r3 → AreTimesRead bytes (record { start = a; last = l; steps = n }) r3
    times-read n r3 third = record {
      order = second.order;
      few = third.few;
      begun =
          first.written ∙ sym (start-split a r1)
          ∙ ap (λ (t : List ℕ). line_text (StartLine a) ++ t)
          (second.written ∙ sym (last-split l r2)
          ∙ ap (λ (t : List ℕ). line_text (LastLine l) ++ t) (third.written ∙ sym (append_assoc (line_text (StepsLine n)) [] r3 ∙ steps-split n r3))
          ∙ sym (append_assoc (line_text (LastLine l)) (line_text (StepsLine n) ++ []) r3))
          ∙ sym (append_assoc (line_text (StartLine a)) (line_text (LastLine l) ++ (line_text (StepsLine n) ++ [])) r3);
      accepted = λ forms.
          two-run forms (StepsLine n ∷ [])
          ∙ step-so forms (AtSteps a l) (StepsLine n) (nat_le n most_steps) (AtStream (record { start = a; last = l; steps = n }) 0 forms) [] refl (le-leb n most_steps third.few);
    }

    pub third-refused : ((n : ℕ) (rest : List ℕ) → IsStepsLine r2 n rest → ⊥) → AreTimesRefused bytes 3
    third-refused never = λ spec plan accepted.
        refused-is-damaged spec plan (accepted-storable plan accepted) (head_text spec ++ bytes) (count_lines (head_text spec) + 3) (record {
          before = StartLine a ∷ LastLine l ∷ [];
          place = AtSteps a l;
          left = r2;
          accepted = two-run (forms_of plan) [];
          cut = ap (λ (t : List ℕ). head_text spec ++ t) two-text;
          number = omega arith;
          refused = λ m rest e. by (forms_of plan) m rest e (next (forms_of plan) (AtSteps a l) m) refl;
          unended = λ e f. absurd (cc e);
        })
      where
        by : (forms : List StreamForm) (m : StateLine) (rest : List ℕ) → r2 ≡ line_text m ++ rest → (o : Option Place) → next forms (AtSteps a l) m ≡ o → next forms (AtSteps a l) m ≡ None
        by forms m rest e None g = g
        by forms m rest e (Some q) g =
            let d : ℕ → Place = λ n. AtStream (record { start = a; last = l; steps = n }) 0 forms in
            let x = chosen-so (as_steps m) (λ n. where_so (nat_le n most_steps) (d n)) q g in
            let s = leb-true x.0 most_steps (where-so (nat_le x.0 most_steps) (d x.0) q x.2).0 in
            absurd (never x.0 rest (record { few = s; written = e ∙ ap (λ (k : StateLine). line_text k ++ rest) (is-steps m x.0 x.1) ∙ steps-split x.0 rest }))

  pub second-refused : ((l : Option ℕ) (rest : List ℕ) → IsLastLine a r1 l rest → ⊥) → AreTimesRefused bytes 2
  second-refused never = λ spec plan accepted.
      refused-is-damaged spec plan (accepted-storable plan accepted) (head_text spec ++ bytes) (count_lines (head_text spec) + 2) (record {
        before = StartLine a ∷ [];
        place = AtLast a;
        left = r1;
        accepted = one-run (forms_of plan) [];
        cut = ap (λ (t : List ℕ). head_text spec ++ t) one-text;
        number = omega arith;
        refused = λ m rest e. by (forms_of plan) m rest e (next (forms_of plan) (AtLast a) m) refl;
        unended = λ e f. absurd (cc e);
      })
    where
      by : (forms : List StreamForm) (m : StateLine) (rest : List ℕ) → r1 ≡ line_text m ++ rest → (o : Option Place) → next forms (AtLast a) m ≡ o → next forms (AtLast a) m ≡ None
      by forms m rest e None g = g
      by forms m rest e (Some q) g =
          let x = chosen-so (as_last m) (λ o. where_so (is_last a o) (AtSteps a o)) q g in
          let s = (where-so (is_last a x.0) (AtSteps a x.0) q x.2).0 in
          absurd (never x.0 rest (record { order = s; written = e ∙ ap (λ (k : StateLine). line_text k ++ rest) (is-last m x.0 x.1) ∙ last-split x.0 rest }))

pub first-refused : (bytes : List ℕ) → ((o : Option ℕ) (rest : List ℕ) → IsTimedLine (codes "start ") bytes o rest → ⊥) → AreTimesRefused bytes 1
first-refused bytes never = λ spec plan accepted.
    refused-is-damaged spec plan (accepted-storable plan accepted) (head_text spec ++ bytes) (count_lines (head_text spec) + 1) (record {
      before = [];
      place = AtStart;
      left = bytes;
      accepted = refl;
      cut = refl;
      number = omega arith;
      refused = λ m rest e. by (forms_of plan) m rest e (next (forms_of plan) AtStart m) refl;
      unended = λ e f. absurd (cc e);
    })
  where
    by : (forms : List StreamForm) (m : StateLine) (rest : List ℕ) → bytes ≡ line_text m ++ rest → (o : Option Place) → next forms AtStart m ≡ o → next forms AtStart m ≡ None
    by forms m rest e None g = g
    by forms m rest e (Some q) g =
        let x = chosen-so (as_start m) (λ o. where_so (is_start o) (AtLast o)) q g in
        let s = (where-so (is_start x.0) (AtLast x.0) q x.2).0 in
        absurd (never x.0 rest (record { time = s; written = e ∙ ap (λ (k : StateLine). line_text k ++ rest) (is-start m x.0 x.1) ∙ start-split x.0 rest }))
