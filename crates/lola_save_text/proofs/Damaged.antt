-- The first line that the reader refuses is the line at which bytes are damaged.
use Rattle.std.proofs.Common.{◌≡◌, ℕ, ◌+◌, ◌≤◌, List, [], ◌∷◌, ◌++◌, Bool, true, false, Option, Some, None, codes, decimal, refl, sym, ap, subst, ◌∙◌, arith, append_assoc, append-nil, length, map, nat_le}
use Rattle.std.specs.Prelude.{IsSome}
use Rattle.std.proofs.lemmas.Bool.{leb-true, leb-false}
use Rattle.std.proofs.lemmas.List.{append_cancel_left, length-append}
use Rattle.lola_model.specs.Texts.{text_of}
use Rattle.lola_model.specs.declared.plan.Plan.{Plan}
use Rattle.lola_report.specs.Lines.{IsLine}
use Rattle.lola_save_text.specs.Damage.{GoesOn, IsDamagedAt, IsStateText}
use Rattle.lola_save_text.specs.Forms.{AreStorable, StreamForm, forms_of}
use Rattle.lola_save_text.specs.Lines.{StateLine, head_text, heading, line_text, lines_text, state_lines, state_text}
use Rattle.lola_save_text.specs.Places.{Place, AtStart, Done, chosen, next}
use Rattle.lola_save_text.specs.Runs.{IsFirstRefused, count_lines, run}
use Rattle.lola_save_text.specs.States.{SavedState}
use Rattle.lola_save_text.specs.Validity.{IsSaved}
use Rattle.lola_save_text.proofs.Choices.{chosen-so}
use Rattle.lola_save_text.proofs.Completing.{run-append}
use Rattle.lola_save_text.proofs.Few.{are-few}
use Rattle.lola_save_text.proofs.Fronts.{accepted-begins}
use Rattle.lola_save_text.proofs.SameRuns.{line-is, none-left, run-cut}
use Rattle.lola_save_text.proofs.Saved.{saved-run}
use Rattle.lola_save_text.proofs.Whole.{some-same}
use Rattle.lola_save_text.proofs.WholeLines.{AreLines, Lined, align, front-of, line-some, lined, lines-both, one-cut, text-both}

-- texts of lines

abbrev texts : List StateLine → List (List ℕ)
texts ls = map line_text ls

texts-text : (ls : List StateLine) → text_of (texts ls) ≡ lines_text ls
texts-text [] = refl
texts-text (l ∷ ls) = ap (λ (t : List ℕ). line_text l ++ t) (texts-text ls)

texts-lines : (ls : List StateLine) → AreLines (texts ls)
texts-lines [] = tt
texts-lines (l ∷ ls) = (line-is l, texts-lines ls)

texts-number : (ls : List StateLine) → length (texts ls) ≡ length ls
texts-number [] = refl
texts-number (l ∷ ls) = let h = texts-number ls in omega (arith, h)

pub lines-text-both : (ls ms : List StateLine) → lines_text (ls ++ ms) ≡ lines_text ls ++ lines_text ms
lines-text-both [] ms = refl
lines-text-both (l ∷ ls) ms = ap (λ (t : List ℕ). line_text l ++ t) (lines-text-both ls ms) ∙ sym (append_assoc (line_text l) (lines_text ls) (lines_text ms))

-- the lines before those of the state
abbrev before_end : List ℕ → List ℕ
before_end spec = heading ++ (codes "spec " ++ (decimal (length spec) ++ (10 ∷ spec)))

head-end : (spec : List ℕ) → head_text spec ≡ before_end spec ++ 10 ∷ []
head-end spec =
    sym (append_assoc heading (codes "spec " ++ (decimal (length spec) ++ (10 ∷ spec))) (10 ∷ [])
    ∙ ap (λ (t : List ℕ). heading ++ t) (append_assoc (codes "spec ") (decimal (length spec) ++ (10 ∷ spec)) (10 ∷ [])
    ∙ ap (λ (t : List ℕ). codes "spec " ++ t) (append_assoc (decimal (length spec)) (10 ∷ spec) (10 ∷ []))))

pub head-lines : (spec : List ℕ) → Lined (head_text spec)
head-lines spec = subst Lined (sym (head-end spec)) (lined (before_end spec))

-- bytes that go on to a line go on to each line before it
pub goes-on-before : (spec : List ℕ) (plan : Plan) (bytes : List ℕ) (m n : ℕ) → m ≤ n → GoesOn spec plan bytes n → GoesOn spec plan bytes m
goes-on-before spec plan bytes m n l g =
    let n-is = g.number in
    let f = front-of g.lines m g.whole (omega (arith, l, n-is)) in
    record {
      lines = f.front;
      left = text_of f.back ++ g.left;
      more = text_of f.back ++ g.more;
      whole = f.lines;
      number = f.number;
      cut = g.cut ∙ ap (λ (t : List ℕ). t ++ g.left) f.text ∙ append_assoc (text_of f.front) (text_of f.back) g.left;
      begun = subst (λ (t : List ℕ). IsStateText spec plan t) (ap (λ (t : List ℕ). t ++ g.more) f.text ∙ append_assoc (text_of f.front) (text_of f.back) g.more) g.begun;
    }

-- one text has one such line
pub one-damaged : (spec : List ℕ) (plan : Plan) (bytes : List ℕ) (m n : ℕ) → IsDamagedAt spec plan bytes m → IsDamagedAt spec plan bytes n → m ≡ n
one-damaged spec plan bytes m n a b = by (nat_le m n) (nat_le n m) refl refl
  where
    by : (s t : Bool) → nat_le m n ≡ s → nat_le n m ≡ t → m ≡ n
    by true true e f = let x = leb-true m n e in let y = leb-true n m f in omega (arith, x, y)
    by s false e f = absurd (a.here (b.before m (leb-false n m f)))
    by false t e f = absurd (b.here (a.before n (leb-false m n e)))

module _ (spec : List ℕ) (plan : Plan) (storable : AreStorable (forms_of plan)) where
  abbrev forms : List StreamForm
  forms = forms_of plan

  -- accepted lines begin a state text
  pub begun-text : (ls : List StateLine) (p : Place) → run forms AtStart ls ≡ Some p → (more : List ℕ) × IsStateText spec plan ((head_text spec ++ lines_text ls) ++ more)
  begun-text ls p e =
      let b = accepted-begins forms ls storable (subst (λ (o : Option Place). IsSome o) (sym e) refl) in (
        lines_text b.2,
        record {
          state = b.0;
          saved = b.1;
          written = append_assoc (head_text spec) (lines_text ls) (lines_text b.2) ∙ ap (λ (t : List ℕ). head_text spec ++ t) (sym (lines-text-both ls b.2) ∙ ap lines_text (sym b.3));
        },
      )

  -- accepted lines go on
  pub goes-on-accepted : (bytes left : List ℕ) (ls : List StateLine) (p : Place) → run forms AtStart ls ≡ Some p → bytes ≡ head_text spec ++ (lines_text ls ++ left)
      → GoesOn spec plan bytes (count_lines (head_text spec) + length ls)
  goes-on-accepted bytes left ls p e cut =
      let h = head-lines spec in
      let b = begun-text ls p e in
      let t : text_of (h.lines ++ texts ls) ≡ head_text spec ++ lines_text ls =
      text-both h.lines (texts ls) ∙ ap (λ (x : List ℕ). x ++ text_of (texts ls)) h.text ∙ ap (λ (x : List ℕ). head_text spec ++ x) (texts-text ls) in
      let n = h.number in
      let k = texts-number ls in
      record {
        lines = h.lines ++ texts ls;
        left = left;
        more = b.0;
        whole = lines-both h.lines (texts ls) h.whole (texts-lines ls);
        number = length-append h.lines (texts ls) ∙ omega (arith, n, k);
        cut = cut ∙ sym (append_assoc (head_text spec) (lines_text ls) left) ∙ ap (λ (x : List ℕ). x ++ left) (sym t);
        begun = subst (λ (x : List ℕ). IsStateText spec plan (x ++ b.0)) (sym t) b.1;
      }

  module _ (bytes : List ℕ) (n : ℕ) (r : IsFirstRefused spec plan bytes n) where
    -- no whole run goes on with what stands there
    no-next : (l : StateLine) (rest : List ℕ) (ls : List StateLine) → r.left ≡ line_text l ++ rest → run forms AtStart (r.before ++ (l ∷ ls)) ≡ Some Done → ⊥
    no-next l rest ls e w =
        let a : chosen (Some r.place) (λ q. run forms q (l ∷ ls)) ≡ Some Done =
        sym (ap (λ o. chosen o (λ q. run forms q (l ∷ ls))) r.accepted) ∙ sym (run-append forms AtStart r.before (l ∷ ls)) ∙ w in
        let x = chosen-so (next forms r.place l) (λ q. run forms q ls) Done a in
        let none = r.refused l rest e in
        let f : None ≡ Some x.0 = sym none ∙ x.1 in
        cc f

    -- the lines of a state whose text is that of the lines before, and these bytes, go on with a line
    more-lines : (s : SavedState) (u : List ℕ) → IsSaved forms s → lines_text r.before ++ u ≡ lines_text (state_lines forms s)
        → (more : List StateLine) × (state_lines forms s ≡ r.before ++ more) × (u ≡ lines_text more)
    more-lines s u saved e = by (nat_le (length r.before) (length (state_lines forms s))) refl
      where
        whole : run forms AtStart (state_lines forms s) ≡ Some Done
        whole = saved-run forms are-few s saved

        by : (t : Bool) → nat_le (length r.before) (length (state_lines forms s)) ≡ t → (more : List StateLine) × (state_lines forms s ≡ r.before ++ more) × (u ≡ lines_text more)
        by true k =
            let c = run-cut forms storable AtStart r.before (state_lines forms s) u [] r.place Done tt r.accepted whole (e ∙ sym (append-nil (lines_text (state_lines forms s))))
            (leb-true (length r.before) (length (state_lines forms s)) k) in
            (c.0, c.1, c.2 ∙ append-nil (lines_text c.0))
        by false k =
            let far = leb-false (length r.before) (length (state_lines forms s)) k in
            let c = run-cut forms storable AtStart (state_lines forms s) r.before [] u Done r.place tt whole r.accepted (append-nil (lines_text (state_lines forms s)) ∙ sym e) (omega (arith, far)) in
            let d = none-left c.0 u c.2 in
            let same : r.before ≡ state_lines forms s = c.1 ∙ ap (λ (m : List StateLine). state_lines forms s ++ m) d.0 ∙ append-nil (state_lines forms s) in
            absurd (let z = ap (λ (m : List StateLine). length m) same in omega (arith, z, far))

    not-whole : IsStateText spec plan bytes → ⊥
    not-whole t =
        let e : lines_text r.before ++ r.left ≡ lines_text (state_lines forms t.state) =
        append_cancel_left (head_text spec) (lines_text r.before ++ r.left) (lines_text (state_lines forms t.state)) (sym r.cut ∙ t.written) in
        let m = more-lines t.state r.left t.saved e in
        at m.0 m.1 m.2 (saved-run forms are-few t.state t.saved)
      where
        at : (more : List StateLine) → state_lines forms t.state ≡ r.before ++ more → r.left ≡ lines_text more → run forms AtStart (state_lines forms t.state) ≡ Some Done → ⊥
        at [] e f w =
            let same : state_lines forms t.state ≡ r.before = e ∙ append-nil r.before in
            r.unended (some-same r.place Done (sym r.accepted ∙ ap (run forms AtStart) (sym same) ∙ w)) f
        at (l ∷ ls) e f w = no-next l (lines_text ls) ls f (ap (run forms AtStart) (sym e) ∙ w)

    not-here : GoesOn spec plan bytes n → ⊥
    not-here g =
        let h = head-lines spec in
        let front : List (List ℕ) = h.lines ++ texts r.before in
        let t : text_of front ≡ head_text spec ++ lines_text r.before =
        text-both h.lines (texts r.before) ∙ ap (λ (x : List ℕ). x ++ text_of (texts r.before)) h.text ∙ ap (λ (x : List ℕ). head_text spec ++ x) (texts-text r.before) in
        let same : text_of front ++ r.left ≡ text_of g.lines ++ g.left =
        ap (λ (x : List ℕ). x ++ r.left) t ∙ append_assoc (head_text spec) (lines_text r.before) r.left ∙ sym r.cut ∙ g.cut in
        let a = length-append h.lines (texts r.before) in
        let b = h.number in
        let c = texts-number r.before in
        let d = g.number in
        let n-is = r.number in
        let m = align front g.lines r.left g.left (lines-both h.lines (texts r.before) h.whole (texts-lines r.before)) g.whole same (omega (arith, a, b, c, d, n-is)) in
        let count : length m.0 ≡ 1 =
        (let z = ap (λ (x : List (List ℕ)). length x) m.1 in let y = length-append front m.0 in omega (arith, a, b, c, d, n-is, z, y)) in
        at m.0 m.1 m.2 count t
      where
        front-lines : AreLines g.lines → (front more : List (List ℕ)) → g.lines ≡ front ++ more → AreLines more
        front-lines a [] more e = subst AreLines e a
        front-lines a (x ∷ front) more e = back-lines (x ∷ front) more (subst AreLines e a)
          where
            back-lines : (front more : List (List ℕ)) → AreLines (front ++ more) → AreLines more
            back-lines [] more a = a
            back-lines (x ∷ front) more a = back-lines front more a.1

        at : (more : List (List ℕ)) → g.lines ≡ ((head-lines spec).lines ++ texts r.before) ++ more → r.left ≡ text_of more ++ g.left → length more ≡ 1
            → text_of ((head-lines spec).lines ++ texts r.before) ≡ head_text spec ++ lines_text r.before → ⊥
        at [] e f k t = omega (arith, k)
        at (x ∷ y ∷ more) e f k t = omega (arith, k)
        at (x ∷ []) e f k t =
            let line : IsLine x = (front-lines g.whole ((head-lines spec).lines ++ texts r.before) (x ∷ []) e).0 in
            let left-is : r.left ≡ x ++ g.left = f ∙ ap (λ (z : List ℕ). z ++ g.left) (append-nil x) in
            let whole-text : (head_text spec ++ lines_text r.before) ++ (x ++ g.more) ≡ state_text spec plan g.begun.state =
            ap (λ (z : List ℕ). z ++ (x ++ g.more)) (sym t) ∙ sym (append_assoc (text_of ((head-lines spec).lines ++ texts r.before)) x g.more)
            ∙ ap (λ (z : List ℕ). z ++ g.more) (ap (λ (z : List ℕ). text_of ((head-lines spec).lines ++ texts r.before) ++ z) (sym (append-nil x)) ∙ sym (text-both ((head-lines spec).lines ++ texts r.before) (x ∷ [])) ∙ ap text_of (sym e))
            ∙ g.begun.written in
            let own : lines_text r.before ++ (x ++ g.more) ≡ lines_text (state_lines forms g.begun.state) =
            append_cancel_left (head_text spec) (lines_text r.before ++ (x ++ g.more)) (lines_text (state_lines forms g.begun.state))
            (sym (append_assoc (head_text spec) (lines_text r.before) (x ++ g.more)) ∙ whole-text) in
            let m = more-lines g.begun.state (x ++ g.more) g.begun.saved own in
            then m.0 m.1 m.2 (saved-run forms are-few g.begun.state g.begun.saved) line left-is
          where
            then : (more : List StateLine) → state_lines forms g.begun.state ≡ r.before ++ more → x ++ g.more ≡ lines_text more → run forms AtStart (state_lines forms g.begun.state) ≡ Some Done
                → IsLine x → r.left ≡ x ++ g.left → ⊥
            then [] e f w line left-is = line-some x g.more line (sym f)
            then (l ∷ ls) e f w line left-is =
                let c = one-cut x (line_text l) g.more (lines_text ls) line (line-is l) f in
                no-next l g.left ls (left-is ∙ ap (λ (z : List ℕ). z ++ g.left) c.0) (ap (run forms AtStart) (sym e) ∙ w)

    pub refused-is-damaged : IsDamagedAt spec plan bytes n
    refused-is-damaged =
        record {
          none = not-whole;
          counted = (let k = r.number in omega (arith, k));
          before = λ m lt.
              goes-on-before spec plan bytes m (count_lines (head_text spec) + length r.before) (let k = r.number in omega (arith, k, lt)) (goes-on-accepted bytes r.left r.before r.place r.accepted r.cut);
          here = not-here;
        }
