-- Lines that are taken from a text, one after another.
use Rattle.std.proofs.Common.{◌≡◌, ◌≢◌, ◌<◌, ◌+◌, ℕ, suc, List, [], ◌∷◌, ◌++◌, ◌∙◌, inl, inr, true, false, Some, None, refl, sym, ap, subst, arith, get_or, take, drop, length, append_assoc, append-nil, take-append-drop}
use Rattle.std.specs.Prelude.{nat_lt, Contains}
use Rattle.std.specs.List.{AllByRecursion, list_any, position, position_or_len}
use Rattle.std.proofs.lemmas.Bool.{cases_Bool, eqb-true, ltb-false, ltb-true, or_from}
use Rattle.std.proofs.lemmas.List.{get_or-take, length-append, length-take, take_all, take_more}
use Rattle.std.proofs.lemmas.List.Sums.{fails_before_first, passes_at_first}
use Rattle.lola_value.specs.declared.value.Kind.{Kind}
use Rattle.lola_model.specs.declared.journal.Entry.{Entry}
use Rattle.lola_model.specs.declared.plan.Plan.{Plan}
use Rattle.lola_model.specs.Trace.{IsTraceable, input_kinds, trace_line, trace_text}
use Rattle.lola_report.specs.Candidates.{candidate_of}
use Rattle.lola_report.specs.Journals.{IsFirstBad, IsLineOf, IsNoLine, Spells, is_lf}
use Rattle.lola_report.proofs.Bytes.{absent-from}
use Rattle.lola_report.proofs.FieldLines.{content, line-content}
use Rattle.lola_report.proofs.ReadBack.{complete, sound}

-- the LF at the end of a line

pub last-byte : (line : List ℕ) (last : ℕ) → last + 1 ≡ length line → get_or line last 0 ≡ 10 → line ≡ take last line ++ (10 ∷ [])
last-byte line last long is =
    let lt : last < length line = omega (arith, long) in
    sym (take_all (last + 1) line (omega (arith, long))) ∙ take_more line last 0 lt ∙ ap (λ (b : ℕ). take last line ++ (b ∷ [])) is

ended-by : (body : List ℕ) → get_or (body ++ (10 ∷ [])) (length body) 0 ≡ 10
ended-by [] = refl
ended-by (b ∷ bs) = ended-by bs

pub last-other : (line : List ℕ) (last : ℕ) → last + 1 ≡ length line → get_or line last 0 ≢ 10 → (body : List ℕ) → line ≢ body ++ (10 ∷ [])
last-other line last long other body is =
    let whole = ap (λ (l : List ℕ). length l) is in
    let parts = length-append body (10 ∷ []) in
    let at : last ≡ length body = omega (arith, long, whole, parts) in
    other (ap (λ (l : List ℕ). get_or l last 0) is ∙ ap (λ k. get_or (body ++ (10 ∷ [])) k 0) at ∙ ended-by body)

pub no-line : (plan : Plan) (line : List ℕ) → ((body : List ℕ) → line ≢ body ++ (10 ∷ [])) → IsNoLine plan line
no-line plan line none e is written = none (content e) (sym written ∙ line-content e)

-- one line

module _ (plan : Plan) (ks : List Kind) (line body : List ℕ) (inputs : input_kinds plan.spec.streams ≡ ks) (ends : line ≡ body ++ (10 ∷ [])) where
  -- the line of an entry is taken for that entry
  found : (e : Entry) → IsTraceable plan e → trace_line e ≡ line → candidate_of ks body ≡ Some e
  found e is written = subst (λ (k : List Kind). candidate_of k body ≡ Some e) inputs (complete plan e body is (written ∙ ends))

  pub line-none : candidate_of ks body ≡ None → IsNoLine plan line
  line-none none e is written = let there = found e is written in cc (sym none ∙ there)

  pub line-other : (d : Entry) → candidate_of ks body ≡ Some d → trace_line d ≢ line → IsNoLine plan line
  line-other d taken other e is written =
      let there : Some d ≡ Some e = sym taken ∙ found e is written in
      let same : d ≡ e = cc there in
      other (ap trace_line same ∙ written)

  pub line-some : (d : Entry) → candidate_of ks body ≡ Some d → trace_line d ≡ line → IsLineOf plan line d
  line-some d taken written = record { traceable = sound plan body d (subst (λ (k : List Kind). candidate_of k body ≡ Some d) (sym inputs) taken); written = written }

-- the first whole line of a text

none-by-index : (xs : List ℕ) → ((k : ℕ) → k < length xs → is_lf (get_or xs k 0) ≡ false) → list_any is_lf xs ≡ false
none-by-index [] h = refl
none-by-index (x ∷ xs) h = or_from _ _ (h 0 (omega arith)) (none-by-index xs (λ k lt. h (suc k) (omega (arith, lt))))

pub record Cut (rest : List ℕ) (place : ℕ) : Type 0 where
  pub within : place < length rest
  pub line : take (place + 1) rest ≡ take place rest ++ (10 ∷ [])
  pub one : ¬ (Contains (take place rest) 10)

placed : (rest : List ℕ) (place : ℕ) → position is_lf rest ≡ Some place → (position_or_len is_lf rest ≡ place) × (place < length rest)
placed rest place is = elim (cases_Bool (nat_lt (position_or_len is_lf rest) (length rest))) [
  | inl under ↦
      let lt : position_or_len is_lf rest < length rest = ltb-true _ _ under in
      let some : Some (position_or_len is_lf rest) ≡ Some place = rw under at is in
      let same : position_or_len is_lf rest ≡ place = cc some in
      (same, subst (λ (k : ℕ). k < length rest) same lt)
  | inr over ↦ let none : None ≡ Some place = rw over at is in absurd (cc none)
]

pub cut-at : (rest : List ℕ) (place : ℕ) → position is_lf rest ≡ Some place → Cut rest place
cut-at rest place is =
    let (same, lt) = placed rest place is in
    let inside : position_or_len is_lf rest < length rest = omega (arith, same, lt) in
    let here : is_lf (get_or rest place 0) ≡ true = subst (λ (k : ℕ). is_lf (get_or rest k 0) ≡ true) same (passes_at_first is_lf rest 0 inside) in
    let lf : get_or rest place 0 ≡ 10 = eqb-true _ _ here in
    let long = length-take place rest in
    record {
      within = lt;
      line = take_more rest place 0 lt ∙ ap (λ (b : ℕ). take place rest ++ (b ∷ [])) lf;
      one = absent-from 10 (take place rest) (none-by-index (take place rest) (λ k under.
          let before : k < place = omega (arith, long, under) in
          let first : k < position_or_len is_lf rest = omega (arith, same, before) in
          ap is_lf (get_or-take place rest k 0 before) ∙ fails_before_first is_lf rest k 0 first));
    }

pub none-left : (rest : List ℕ) → position is_lf rest ≡ None → ¬ (Contains rest 10)
none-left rest is = elim (cases_Bool (nat_lt (position_or_len is_lf rest) (length rest))) [
  | inl under ↦ let some : Some (position_or_len is_lf rest) ≡ None = rw under at is in absurd (cc some)
  | inr over ↦
      let past = ltb-false _ _ over in
      absent-from 10 rest (none-by-index rest (λ k lt. fails_before_first is_lf rest k 0 (omega (arith, past, lt))))
]

-- many lines

-- the entries of the first lines of a text, and what is left
pub record Taken (plan : Plan) (bytes : List ℕ) (journal : List Entry) (rest : List ℕ) : Type 0 where
  pub whole : bytes ≡ trace_text journal ++ rest
  pub traceable : AllByRecursion (IsTraceable plan) journal

text-more : (js : List Entry) (e : Entry) → trace_text (js ++ (e ∷ [])) ≡ trace_text js ++ trace_line e
text-more [] e = append-nil (trace_line e)
text-more (j ∷ js) e = ap (λ (l : List ℕ). trace_line j ++ l) (text-more js e) ∙ sym (append_assoc (trace_line j) (trace_text js) (trace_line e))

all-more : (plan : Plan) (js : List Entry) (e : Entry) → AllByRecursion (IsTraceable plan) js → IsTraceable plan e → AllByRecursion (IsTraceable plan) (js ++ (e ∷ []))
all-more plan [] e all is = (is, tt)
all-more plan (j ∷ js) e all is = (all.0, all-more plan js e all.1 is)

pub taken-none : (plan : Plan) (bytes : List ℕ) → Taken plan bytes [] bytes
taken-none plan bytes = record { whole = refl; traceable = tt }

pub taken-more : (plan : Plan) (bytes : List ℕ) (js : List Entry) (rest : List ℕ) (place : ℕ) (e : Entry) → Taken plan bytes js rest → IsLineOf plan (take (place + 1) rest) e
    → Taken plan bytes (js ++ (e ∷ [])) (drop (place + 1) rest)
taken-more plan bytes js rest place e was is = record {
  whole =
      was.whole ∙ ap (λ (l : List ℕ). trace_text js ++ l) (sym (take-append-drop (place + 1) rest) ∙ ap (λ (l : List ℕ). l ++ drop (place + 1) rest) (sym is.written))
      ∙ sym (append_assoc (trace_text js) (trace_line e) (drop (place + 1) rest)) ∙ ap (λ (l : List ℕ). l ++ drop (place + 1) rest) (sym (text-more js e));
  traceable = all-more plan js e was.traceable is.traceable;
}

pub taken-all : (plan : Plan) (bytes : List ℕ) (js : List Entry) (rest : List ℕ) → Taken plan bytes js rest → position is_lf rest ≡ None → Spells plan bytes js
taken-all plan bytes js rest was none = record { left = rest; whole = was.whole; unfinished = none-left rest none; traceable = was.traceable }

pub taken-bad : (plan : Plan) (bytes : List ℕ) (js : List Entry) (rest : List ℕ) (place n : ℕ) → Taken plan bytes js rest → position is_lf rest ≡ Some place
    → IsNoLine plan (take (place + 1) rest) → n ≡ length js + 1 → IsFirstBad plan bytes n
taken-bad plan bytes js rest place n was is bad number =
    let cut = cut-at rest place is in
    record {
      before = js;
      line = take place rest;
      left = drop (place + 1) rest;
      whole =
          was.whole ∙ ap (λ (l : List ℕ). trace_text js ++ l) (sym (take-append-drop (place + 1) rest) ∙ ap (λ (l : List ℕ). l ++ drop (place + 1) rest) cut.line
          ∙ append_assoc (take place rest) (10 ∷ []) (drop (place + 1) rest));
      one_line = cut.one;
      traceable = was.traceable;
      number = number;
      bad = subst (IsNoLine plan) cut.line bad;
    }
