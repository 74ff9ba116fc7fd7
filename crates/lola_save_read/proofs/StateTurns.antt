-- A whole state, and the line at which it is refused.
use Rattle.std.proofs.Common.{◌≡◌, ◌∷◌, ℕ, ◌+◌, ◌-◌, ◌^◌, ◌<◌, ◌++◌, List, [], true, false, codes, decimal, refl, sym, ap, subst, ◌∙◌, arith, append_assoc, append-nil, cond, filter, length, take, nat_eq}
use Rattle.std.proofs.Math.Seq.{take-append_seam}
use Rattle.std.proofs.lemmas.Bool.{and_parts, not-true}
use Rattle.std.proofs.lemmas.List.{length-append}
use Rattle.std.proofs.lemmas.List.Elements.{filter-append}
use Rattle.lola_model.specs.declared.plan.Plan.{Plan}
use Rattle.lola_model.specs.Acceptance.{IsAccepted}
use Rattle.lola_report.specs.Lines.{has_no_lf, is_not_lf}
use Rattle.lola_save_text.specs.Damage.{IsDamagedAt, IsOtherSpec, IsStateText}
use Rattle.lola_save_text.specs.Forms.{AreStorable, HaveLength, forms_of}
use Rattle.lola_save_text.specs.Lines.{EndLine, LastLine, StartLine, StateLine, StepsLine, head_text, heading, line_body, line_text, lines_text, state_lines, streams_lines}
use Rattle.lola_save_text.specs.Places.{AtStart, AtStream, Done}
use Rattle.lola_save_text.specs.Runs.{count_lines}
use Rattle.lola_save_text.specs.declared.forms.StreamForm.{StreamForm}
use Rattle.lola_save_text.specs.declared.state.SavedInstance.{SavedInstance}
use Rattle.lola_save_text.specs.declared.state.SavedState.{SavedState}
use Rattle.lola_save_text.specs.declared.state.Times.{Times}
use Rattle.lola_save_text.proofs.AcceptedForms.{accepted-storable}
use Rattle.lola_save_text.proofs.Damaged.{refused-is-damaged}
use Rattle.lola_save_text.proofs.SameRuns.{body-plain}
use Rattle.lola_save_text.proofs.StateTrees.{whole-saved}
use Rattle.lola_save_read.specs.declared.read.ReadEnd.TheVariants as end
use Rattle.lola_save_read.specs.Ends.{IsRead, IsReadEnd}
use Rattle.lola_save_read.specs.Heads.{IsBehindHead}
use Rattle.lola_save_read.specs.Parts.{AreTimes}
use Rattle.lola_save_read.specs.Readings.{IsEndLine, NoEndLine, ReadsStreams, ReadsToEnd, RefusesStreams}
use Rattle.lola_save_read.specs.Reads.{AreTimesRead}
use Rattle.lola_save_read.specs.Turns.{AreLinesRead, IsRefusedAt}
use Rattle.lola_save_read.proofs.HeadLines.{its-head, number-is, second-split, text-split}
use Rattle.lola_save_read.proofs.InstanceTurns.{open-stream}
use Rattle.lola_save_read.proofs.TurnsOn.{both-read, none-read, one-read, refused-behind, refused-here}

-- the streams of an accepted plan

pub at-storable : (all ss later : List StreamForm) (s : StreamForm) → all ≡ ss ++ s ∷ later → AreStorable all → (s.spawns ≡ false → s.parameters ≡ []) × HaveLength s.windows
at-storable all ss later s e h = by ss (subst AreStorable e h)
  where
    by : (ss : List StreamForm) → AreStorable (ss ++ s ∷ later) → (s.spawns ≡ false → s.parameters ≡ []) × HaveLength s.windows
    by [] h = (h.0, h.1)
    by (x ∷ ss) h = by ss h.2

-- the last line

module _ (t : Times) (ss : List StreamForm) (bytes : List ℕ) (iss : List (List SavedInstance)) (last : List ℕ) (read : ReadsStreams t ss bytes iss last) where
  pub no-end : NoEndLine last → RefusesStreams t ss bytes (length last)
  no-end never forms =
      refused-behind forms (AtStream t 0 ss) bytes (streams_lines 0 ss iss) (AtStream t (length ss) []) last (length last) (read.read forms)
      (refused-here forms (AtStream t (length ss) []) last (open-stream t (length ss) []) (never forms t (length ss)))

  to-end : (rest : List ℕ) → IsEndLine last rest → (forms : List StreamForm) → AreLinesRead forms (AtStream t 0 ss) bytes (streams_lines 0 ss iss ++ EndLine ∷ []) Done rest
  to-end rest line forms =
      both-read forms (AtStream t 0 ss) bytes (streams_lines 0 ss iss) (AtStream t (length ss) []) last (EndLine ∷ []) Done rest (read.read forms)
      (one-read forms (AtStream t (length ss) []) last EndLine Done rest (line forms t (length ss)))

  pub more-behind : (rest : List ℕ) → IsEndLine last rest → (rest ≡ [] → ⊥) → RefusesStreams t ss bytes (length rest)
  more-behind rest line some forms =
      refused-behind forms (AtStream t 0 ss) bytes (streams_lines 0 ss iss ++ EndLine ∷ []) Done rest (length rest) (to-end rest line forms)
      (record { before = []; place = Done; left = rest; read = none-read forms Done rest; many_is = refl; refused = λ l r e. refl; unended = λ d e. some e })

  pub ended : (rest : List ℕ) → IsEndLine last rest → rest ≡ [] → ReadsToEnd t ss bytes iss
  ended rest line e =
      record { shape = read.shape; read = λ forms. subst (λ r. AreLinesRead forms (AtStream t 0 ss) bytes (streams_lines 0 ss iss ++ EndLine ∷ []) Done r) e (to-end rest line forms) }

-- the times of a state
pub times-are : (bytes : List ℕ) (t : Times) (rest : List ℕ) → AreTimesRead bytes t rest → AreTimes t
times-are bytes t rest r = record { order = r.order; few = r.few }

-- how many lines there are

pub count-both : (xs ys : List ℕ) → count_lines (xs ++ ys) ≡ count_lines xs + count_lines ys
count-both xs ys = ap (λ (l : List ℕ). length l) (filter-append (λ b. nat_eq b 10) xs ys) ∙ length-append (filter (λ b. nat_eq b 10) xs) (filter (λ b. nat_eq b 10) ys)

count-plain : (xs : List ℕ) → has_no_lf xs ≡ true → count_lines xs ≡ 0
count-plain [] e = refl
count-plain (x ∷ xs) e =
    let p = and_parts (is_not_lf x) (has_no_lf xs) e in
    let f : nat_eq x 10 ≡ false = not-true (nat_eq x 10) p.0 in
    ap (λ t. length (cond t (x ∷ filter (λ b. nat_eq b 10) xs) (filter (λ b. nat_eq b 10) xs))) f ∙ count-plain xs p.1

count-line : (l : StateLine) → count_lines (line_text l) ≡ 1
count-line l = let a = count-both (line_body l) (10 ∷ []) in let b = count-plain (line_body l) (body-plain l) in let c : count_lines (10 ∷ []) ≡ 1 = refl in omega (arith, a, b, c)

pub count-all : (ls : List StateLine) → count_lines (lines_text ls) ≡ length ls
count-all [] = refl
count-all (l ∷ ls) = let a = count-both (line_text l) (lines_text ls) in let b = count-line l in let c = count-all ls in omega (arith, a, b, c)

-- what stands before the last bytes
front-of : (bytes front left : List ℕ) (many : ℕ) → bytes ≡ front ++ left → length left ≡ many → take (length bytes - many) bytes ≡ front
front-of bytes front left many e f =
    let a = ap length e in
    let b = length-append front left in
    let n : length bytes - many ≡ length front = omega (arith, a, b, f) in
    ap (λ (k : ℕ). take k bytes) n ∙ ap (λ (t : List ℕ). take (length front) t) e ∙ take-append_seam front left

-- the lines that are refused

module _ (spec : List ℕ) (plan : Plan) (accepted : IsAccepted plan) (bytes lines : List ℕ) (head : IsBehindHead spec bytes lines) where
  pub at-times : (k : ℕ) → IsDamagedAt spec plan (head_text spec ++ lines) (count_lines (head_text spec) + k) → IsReadEnd spec plan bytes (end.Damaged (count_lines (take (length bytes - length lines) bytes) + k))
  at-times k d = (
    head.same,
    subst (λ n. IsDamagedAt spec plan bytes (count_lines n + k)) (sym (front-of bytes (head_text spec) lines (length lines) head.begun refl))
        (subst (λ b. IsDamagedAt spec plan b (count_lines (head_text spec) + k)) (sym head.begun) d),
  )

  at-refused : (many : ℕ) → IsRefusedAt (forms_of plan) AtStart lines many → IsReadEnd spec plan bytes (end.Damaged (count_lines (take (length bytes - many) bytes) + 1))
  at-refused many r =
      let cut : bytes ≡ head_text spec ++ (lines_text r.before ++ r.left) = head.begun ∙ ap (λ (t : List ℕ). head_text spec ++ t) r.read.written in
      let front = front-of bytes (head_text spec ++ lines_text r.before) r.left many (cut ∙ sym (append_assoc (head_text spec) (lines_text r.before) r.left)) r.many_is in
      let a = count-both (head_text spec) (lines_text r.before) in
      let b = count-all r.before in (
        head.same,
        subst (λ n. IsDamagedAt spec plan bytes (count_lines n + 1)) (sym front)
            (refused-is-damaged spec plan (accepted-storable plan accepted) bytes (count_lines (head_text spec ++ lines_text r.before) + 1) (record {
              before = r.before;
              place = r.place;
              left = r.left;
              accepted = r.read.accepted;
              cut = cut;
              number = omega (arith, a, b);
              refused = r.refused;
              unended = r.unended;
            })),
      )

  module _ (t : Times) (behind : List ℕ) (times : AreTimesRead lines t behind) where
    first-three : AreLinesRead (forms_of plan) AtStart lines (StartLine t.start ∷ LastLine t.last ∷ StepsLine t.steps ∷ []) (AtStream t 0 (forms_of plan)) behind
    first-three = record { written = times.begun; accepted = times.accepted (forms_of plan) }

    pub at-streams : (many : ℕ) → RefusesStreams t (forms_of plan) behind many → IsReadEnd spec plan bytes (end.Damaged (count_lines (take (length bytes - many) bytes) + 1))
    at-streams many never =
        at-refused many (refused-behind (forms_of plan) AtStart lines (StartLine t.start ∷ LastLine t.last ∷ StepsLine t.steps ∷ []) (AtStream t 0 (forms_of plan)) behind many first-three (never (forms_of plan)))

    pub state-read : (iss : List (List SavedInstance)) → ReadsToEnd t (forms_of plan) behind iss → IsRead spec plan bytes (record { start = t.start; last = t.last; steps = t.steps; streams = iss })
    state-read iss r =
        let s : SavedState = record { start = t.start; last = t.last; steps = t.steps; streams = iss } in
        let all = both-read (forms_of plan) AtStart lines (StartLine t.start ∷ LastLine t.last ∷ StepsLine t.steps ∷ []) (AtStream t 0 (forms_of plan)) behind (streams_lines 0 (forms_of plan) iss ++ EndLine ∷ []) Done []
        first-three (r.read (forms_of plan)) in
        record {
          saved = whole-saved (forms_of plan) s r.shape all.accepted;
          written = head.begun ∙ ap (λ (t : List ℕ). head_text spec ++ t) (all.written ∙ append-nil (lines_text (state_lines (forms_of plan) s)));
        }

-- another specification is no state text

pub other-no-text : (spec : List ℕ) (plan : Plan) (bytes : List ℕ) → length spec < 2 ^ 64 → IsOtherSpec spec bytes → IsStateText spec plan bytes → ⊥
other-no-text spec plan bytes small o t =
    (its-head spec bytes (codes "spec " ++ (decimal (length spec) ++ (10 ∷ ((spec ++ 10 ∷ []) ++ lines_text (state_lines (forms_of plan) t.state))))) (decimal (length spec))
    ((spec ++ 10 ∷ []) ++ lines_text (state_lines (forms_of plan) t.state)) (lines_text (state_lines (forms_of plan) t.state))
    (t.written ∙ text-split spec (lines_text (state_lines (forms_of plan) t.state))
    ∙ ap (λ (l : List ℕ). heading ++ l) (second-split spec ((spec ++ 10 ∷ []) ++ lines_text (state_lines (forms_of plan) t.state))))
    (record { written = refl; number = number-is (length spec) small }) (record { same = refl; follows = append_assoc spec (10 ∷ []) (lines_text (state_lines (forms_of plan) t.state)) })).same o
