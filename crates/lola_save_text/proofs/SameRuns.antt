-- Texts of accepted lines are read in one way.
use Rattle.std.proofs.Common.{◌≡◌, ℕ, ◌≤◌, List, [], ◌∷◌, ◌++◌, Bool, true, false, Option, Some, None, codes, decimal, refl, sym, ap, subst, ◌∙◌, arith, append_assoc, append-nil, length, nat_le}
use Rattle.std.proofs.lemmas.Bool.{leb-true, leb-false}
use Rattle.lola_value.specs.declared.text.Field.{Field}
use Rattle.lola_value.specs.Numbers.{integer_text}
use Rattle.lola_model.specs.Texts.{value_text}
use Rattle.lola_report.specs.Lines.{IsLine}
use Rattle.lola_report.specs.Pieces.{bool_name}
use Rattle.lola_report.proofs.Mild.{bool_mild, mild_plain}
use Rattle.lola_report.proofs.Plain.{Plain, both, byte_and, decimal_plain, ended, integer_plain, time_plain, value_plain}
use Rattle.lola_save_text.specs.Forms.{AreStorable, StreamForm, forms_of}
use Rattle.lola_save_text.specs.Lines.{StateLine, StartLine, LastLine, StepsLine, StreamLine, InstLine, RingLine, PanesLine, EndLine, head_text, line_body, line_text, lines_text, panes_text, partial_text, partials_text, state_lines, state_text, time_or_dash, values_text}
use Rattle.lola_save_text.specs.Places.{Place, AtStart, Done, next}
use Rattle.lola_save_text.specs.Runs.{run}
use Rattle.lola_save_text.specs.States.{Partial, Number, Extreme, Mean, Truth, SavedPanes, SavedState}
use Rattle.lola_save_text.specs.Validity.{IsSaved}
use Rattle.lola_model.specs.declared.plan.Plan.{Plan}
use Rattle.std.proofs.lemmas.List.{append_cancel_left}
use Rattle.lola_save_text.proofs.Choices.{chosen-so}
use Rattle.lola_save_text.proofs.Completing.{Open, open-after}
use Rattle.lola_save_text.proofs.Few.{are-few}
use Rattle.lola_save_text.proofs.SameLines.{one-line}
use Rattle.lola_save_text.proofs.Saved.{saved-run}
use Rattle.lola_save_text.proofs.StateTrees.{one-tree}
use Rattle.lola_save_text.proofs.Whole.{some-same}
use Rattle.lola_save_text.proofs.WholeLines.{line-some, one-cut}

-- each line of a state is a line

pub dash-plain : (o : Option ℕ) → Plain (time_or_dash o)
dash-plain None = refl
dash-plain (Some t) = time_plain t

values-plain : (vs : List Field) → Plain (values_text vs)
values-plain [] = refl
values-plain (v ∷ vs) = both (32 ∷ value_text v) (values_text vs) (byte_and 32 (value_text v) refl (value_plain v)) (values-plain vs)

partial-plain : (q : Partial) → Plain (partial_text q)
partial-plain (Number z) = integer_plain z
partial-plain (Extreme None) = refl
partial-plain (Extreme (Some z)) = integer_plain z
partial-plain (Mean z n) = both (integer_text z) (47 ∷ decimal n) (integer_plain z) (byte_and 47 (decimal n) refl (decimal_plain n))
partial-plain (Truth b) = mild_plain (bool_name b) (bool_mild b)

partials-plain : (qs : List Partial) → Plain (partials_text qs)
partials-plain [] = refl
partials-plain (q ∷ qs) = both (32 ∷ partial_text q) (partials_text qs) (byte_and 32 (partial_text q) refl (partial-plain q)) (partials-plain qs)

panes-plain : (p : Option SavedPanes) → Plain (panes_text p)
panes-plain None = refl
panes-plain (Some p) = both (32 ∷ decimal p.last) (partials_text p.partials) (byte_and 32 (decimal p.last) refl (decimal_plain p.last)) (partials-plain p.partials)

number-plain : (n : ℕ) → Plain (32 ∷ decimal n)
number-plain n = byte_and 32 (decimal n) refl (decimal_plain n)

pub body-plain : (l : StateLine) → Plain (line_body l)
body-plain (StartLine o) = both (codes "start") (32 ∷ time_or_dash o) refl (byte_and 32 (time_or_dash o) refl (dash-plain o))
body-plain (LastLine o) = both (codes "last") (32 ∷ time_or_dash o) refl (byte_and 32 (time_or_dash o) refl (dash-plain o))
body-plain (StepsLine n) = both (codes "steps") (32 ∷ decimal n) refl (number-plain n)
body-plain (StreamLine n c) = both (codes "stream") ((32 ∷ decimal n) ++ (32 ∷ decimal c)) refl (both (32 ∷ decimal n) (32 ∷ decimal c) (number-plain n) (number-plain c))
body-plain (InstLine b p) =
    both (codes "inst") ((32 ∷ time_or_dash b) ++ values_text p) refl (both (32 ∷ time_or_dash b) (values_text p) (byte_and 32 (time_or_dash b) refl (dash-plain b)) (values-plain p))
body-plain (RingLine vs) = both (codes "ring") (values_text vs) refl (values-plain vs)
body-plain (PanesLine w p) = both (codes "panes") ((32 ∷ decimal w) ++ panes_text p) refl (both (32 ∷ decimal w) (panes_text p) (number-plain w) (panes-plain p))
body-plain EndLine = refl

pub line-is : (l : StateLine) → IsLine (line_text l)
line-is l = ended (line_body l) (body-plain l)

-- there are no lines where there are no bytes
pub none-left : (ls : List StateLine) (u : List ℕ) → [] ≡ lines_text ls ++ u → (ls ≡ []) × (u ≡ [])
none-left [] u e = (refl, sym e)
none-left (l ∷ ls) u e = absurd (line-some (line_text l) (lines_text ls ++ u) (line-is l) (e ∙ append_assoc (line_text l) (lines_text ls) u))

module _ (forms : List StreamForm) (storable : AreStorable forms) where
  -- of two texts of accepted lines that are the same, one has the lines of the other, and more
  pub run-cut : (p : Place) (ls ms : List StateLine) (u v : List ℕ) (q r : Place) → Open p → run forms p ls ≡ Some q → run forms p ms ≡ Some r → lines_text ls ++ u ≡ lines_text ms ++ v
      → length ls ≤ length ms → (more : List StateLine) × (ms ≡ ls ++ more) × (u ≡ lines_text more ++ v)
  run-cut p [] ms u v q r o a b e k = (ms, refl, e)
  run-cut p (l ∷ ls) [] u v q r o a b e k = absurd (omega arith)
  run-cut p (l ∷ ls) (m ∷ ms) u v q r o a b e k =
      let x = chosen-so (next forms p l) (λ z. run forms z ls) q a in
      let y = chosen-so (next forms p m) (λ z. run forms z ms) r b in
      let f = sym (append_assoc (line_text l) (lines_text ls) u) ∙ e ∙ append_assoc (line_text m) (lines_text ms) v in
      let c = one-cut (line_text l) (line_text m) (lines_text ls ++ u) (lines_text ms ++ v) (line-is l) (line-is m) f in
      let s = one-line forms l m x.0 y.0 c.0 p o x.1 y.1 in
      let t : x.0 ≡ y.0 = some-same x.0 y.0 (sym x.1 ∙ ap (next forms p) s ∙ y.1) in
      let rest = run-cut x.0 ls ms u v q r (open-after forms storable p l x.0 x.1 o) x.2 (subst (λ (z : Place). run forms z ms ≡ Some r) (sym t) y.2) c.1 (omega arith) in
      let h : m ≡ l = sym s in
      let g = rest.1 in
      (rest.0, (λ i. h i ∷ g i), rest.2)

  all-of : (ls ms : List StateLine) (q r : Place) → run forms AtStart ls ≡ Some q → run forms AtStart ms ≡ Some r → lines_text ls ≡ lines_text ms → length ls ≤ length ms → ls ≡ ms
  all-of ls ms q r a b e k =
      let c = run-cut AtStart ls ms [] [] q r tt a b (append-nil (lines_text ls) ∙ e ∙ sym (append-nil (lines_text ms))) k in
      let n = (none-left c.0 [] c.2).0 in
      sym (append-nil ls) ∙ ap (λ (m : List StateLine). ls ++ m) (sym n) ∙ sym c.1

  -- accepted lines with the same text are the same
  pub one-list : (ls ms : List StateLine) (q r : Place) → run forms AtStart ls ≡ Some q → run forms AtStart ms ≡ Some r → lines_text ls ≡ lines_text ms → ls ≡ ms
  one-list ls ms q r a b e = by (nat_le (length ls) (length ms)) refl
    where
      by : (t : Bool) → nat_le (length ls) (length ms) ≡ t → ls ≡ ms
      by true k = all-of ls ms q r a b e (leb-true (length ls) (length ms) k)
      by false k = let far = leb-false (length ls) (length ms) k in sym (all-of ms ls r q b a (sym e) (omega (arith, far)))

pub one-state : (spec : List ℕ) (plan : Plan) (s t : SavedState) → AreStorable (forms_of plan) → IsSaved (forms_of plan) s → IsSaved (forms_of plan) t → state_text spec plan s ≡ state_text spec plan t → s ≡ t
one-state spec plan s t storable a b e =
    let forms = forms_of plan in
    let f = append_cancel_left (head_text spec) (lines_text (state_lines forms s)) (lines_text (state_lines forms t)) e in
    one-tree forms s t a b (one-list forms storable (state_lines forms s) (state_lines forms t) Done Done (saved-run forms are-few s a) (saved-run forms are-few t b) f)
