-- Lines of values, one after another.
use Rattle.std.proofs.Common.{◌≡◌, ℕ, zero, suc, ◌+◌, ◌<◌, true, List, [], ◌∷◌, ◌++◌, Some, length, map, take, get_or, slice_get, flat_map, refl, sym, ap, subst, ◌∙◌, arith, append-nil, length-append}
use Rattle.std.proofs.lemmas.List.{take_more}
use Rattle.lola_value.specs.Appending.{AppendsPart}
use Rattle.lola_value.specs.declared.text.Field.{Field}
use Rattle.lola_value.specs.Naming.{Naming, read, read_params}
use Rattle.lola_model.proofs.Journals.{text_of-append}
use Rattle.lola_model.specs.Texts.{text_of}
use Rattle.lola_model.specs.declared.journal.Show.{Show}
use Rattle.lola_model.specs.declared.plan.Plan.{Plan}
use Rattle.lola_model.specs.declared.spec.Stream.{Stream}
use Rattle.lola_report.proofs.Sequences.{part_within}
use Rattle.lola_report.specs.Verdicts.{verdict_text}
use Rattle.lola_step_contents.specs.Ends.{lines_of}
use Rattle.lola_step.specs.Notes.{AreStepValues, IsStepValue, read_step_value}
use Rattle.lola_step.specs.declared.step_value.StepValue.{StepValue}
use Rattle.lola_engine.specs.Shown.{IsShownBy, lines_for}

-- each of them is one
pub step_value-at : (plan : Plan) (vs : List StepValue) (i : ℕ) (v d : StepValue) → AreStepValues plan vs → i < length vs → v ≡ get_or vs i d → IsStepValue plan v
step_value-at plan [] i v d all within is = absurd (omega arith)
step_value-at plan (x ∷ vs) zero v d all within is = subst (λ (y : StepValue). IsStepValue plan y) (sym is) all.0
step_value-at plan (x ∷ vs) (suc i) v d all within is = step_value-at plan vs i v d all.1 (omega arith) is

module _ (show : Show) (time : ℕ) (streams : List Stream) (names : Naming) where
  -- the text of a value's line
  abbrev pub text-for : StepValue → List ℕ
  text-for v = text_of (lines_for show time streams (read_step_value names v))

  -- the lines of values
  abbrev pub lines-all : List StepValue → List (List ℕ)
  lines-all vs = lines_of show time streams (map (read_step_value names) vs)

  -- their text is that of each
  pub texts-all : (vs : List StepValue) → text_of (lines-all vs) ≡ flat_map text-for vs
  texts-all [] = refl
  texts-all (v ∷ vs) =
      text_of-append (lines_for show time streams (read_step_value names v)) (lines-all vs)
      ∙ ap (λ l. text-for v ++ l) (texts-all vs)

  lines-pushed : (vs : List StepValue) (v : StepValue) → length (lines-all (vs ++ v ∷ [])) ≡ length (lines-all vs) + length (lines_for show time streams (read_step_value names v))
  lines-pushed [] v =
      let one = length-append (lines_for show time streams (read_step_value names v)) [] in omega (arith, one)
  lines-pushed (x ∷ vs) v =
      let more = lines-pushed vs v in
      let a = length-append (lines_for show time streams (read_step_value names x)) (lines-all (vs ++ v ∷ [])) in
      let b = length-append (lines_for show time streams (read_step_value names x)) (lines-all vs) in
      omega (arith, more, a, b)

  -- one value more is counted
  pub count-more : (vs : List StepValue) (i n m : ℕ) (v d : StepValue) → i < length vs → v ≡ get_or vs i d → n ≡ length (lines-all (take i vs)) → m ≡ length (lines_for show time streams (read_step_value names v))
      → n + m ≡ length (lines-all (take (i + 1) vs))
  count-more vs i n m v d within is before one =
      let front : take (i + 1) vs ≡ take i vs ++ v ∷ [] = take_more vs i d within ∙ ap (λ (x : StepValue). take i vs ++ x ∷ []) (sym is) in
      let long = lines-pushed (take i vs) v in
      rw front (omega (arith, before, one, long))

  -- a part of one value's line behind those before it is a part of all
  pub part-of-all : (vs : List StepValue) (i : ℕ) (v d : StepValue) (old mid new : List ℕ) → i < length vs → v ≡ get_or vs i d → mid ≡ old ++ flat_map text-for (take i vs) → AppendsPart mid new (text-for v)
      → AppendsPart old new (text_of (lines-all vs))
  part-of-all vs i v d old mid new within is before part =
      rw (texts-all vs) (part_within text-for vs i v d old mid new within is before part)

-- the stream of a number
pub stream-at : (ss xs : List Stream) (n : ℕ) (s t : Stream) → slice_get ss n ≡ Some t → xs ≡ ss → s ≡ get_or xs n s → slice_get ss n ≡ Some s
stream-at ss xs n s t there all is = there ∙ ap Some (found ss n t s there ∙ sym (is ∙ ap (λ (l : List Stream). get_or l n s) all))
  where
    found : (ss : List Stream) (n : ℕ) (t d : Stream) → slice_get ss n ≡ Some t → t ≡ get_or ss n d
    found [] n t d there = absurd (cc there)
    found (x ∷ ss) zero t d there = cc there
    found (x ∷ ss) (suc n) t d there = found ss n t d there

-- a value that is shown has its one line
module _ (show : Show) (time : ℕ) (streams : List Stream) (names : Naming) (v : StepValue) (s : Stream) (p : List Field) (x : Field) (at : slice_get streams v.stream ≡ Some s) (params : p ≡ read_params names v.params) (value : x ≡ read names v.value) (shown : IsShownBy true show s (read names v.value)) where
  one-line : lines_for show time streams (read_step_value names v) ≡ verdict_text (slice_get streams v.stream) time p x ∷ []
  one-line = rw (at, params, value) (shown.1 time (read_params names v.params))

  the-text : text_of (lines_for show time streams (read_step_value names v)) ≡ verdict_text (slice_get streams v.stream) time p x
  the-text = ap text_of one-line ∙ append-nil (verdict_text (slice_get streams v.stream) time p x)

  pub shown-text : (old new : List ℕ) → new ≡ old ++ verdict_text (slice_get streams v.stream) time p x → new ≡ old ++ text_of (lines_for show time streams (read_step_value names v))
  shown-text old new is = is ∙ ap (λ t. old ++ t) (sym the-text)

  pub shown-part : (old new : List ℕ) → AppendsPart old new (verdict_text (slice_get streams v.stream) time p x) → AppendsPart old new (text_of (lines_for show time streams (read_step_value names v)))
  shown-part old new part = subst (λ (t : List ℕ). AppendsPart old new t) (sym the-text) part

  pub shown-count : 1 ≡ length (lines_for show time streams (read_step_value names v))
  shown-count = sym (ap length one-line)
