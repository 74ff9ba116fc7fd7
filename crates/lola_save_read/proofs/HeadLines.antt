-- The lines before those of a state: at which of them bytes are damaged, and when bytes are of another specification.
use Rattle.std.proofs.Common.{◌≡◌, ◌≢◌, ℕ, zero, suc, ◌^◌, ◌<◌, List, [], ◌∷◌, ◌++◌, Bool, true, false, not, ◌&&◌, ◌||◌, Option, Some, None, codes, decimal, MatchOption, Bor, refl, sym, ap, subst, ◌∙◌, arith, append_assoc, append-nil, length, nat_eq, nat_lt}
use Rattle.std.specs.Prelude.{slice_index}
use Rattle.std.specs.List.{list_all}
use Rattle.std.proofs.lemmas.Bool.{and_from, and_parts, lt-ltb, ne_eqb}
use Rattle.std.proofs.lemmas.Fmt.{decimal_digit, decimal_nonempty, first_decimal}
use Rattle.std.proofs.lemmas.List.{append_cancel_left}
use Rattle.lola_value.specs.Times.{is_digit}
use Rattle.lola_model.specs.Texts.{text_of}
use Rattle.lola_model.specs.declared.plan.Plan.{Plan}
use Rattle.lola_report.specs.Lines.{IsLine}
use Rattle.lola_report.proofs.Plain.{both, decimal_plain, ended}
use Rattle.lola_save_text.specs.Damage.{GoesOn, IsStateText, is_number}
use Rattle.lola_save_text.specs.Forms.{AreStorable, forms_of}
use Rattle.lola_save_read.specs.Heads.{IsBehindHead, IsHeadEnd, IsSecondLine, HasSpec}
use Rattle.lola_save_text.specs.Lines.{head_text, heading, lines_text, state_lines}
use Rattle.lola_save_text.specs.Places.{AtStart}
use Rattle.lola_save_read.specs.declared.head.HeadEnd.TheVariants as end
use Rattle.lola_save_text.proofs.Damaged.{begun-text, goes-on-before}
use Rattle.lola_save_text.proofs.AcceptedForms.{accepted-storable}
use Rattle.lola_save_text.proofs.SameCuts.{cut-same}
use Rattle.lola_save_text.proofs.Numbers.{decimal-digits}
use Rattle.lola_save_text.proofs.WholeLines.{align}

-- the second line, and what stands behind it in a head
abbrev second_line : List ℕ → List ℕ
second_line spec = codes "spec " ++ (decimal (length spec) ++ 10 ∷ [])

heading-line : IsLine heading
heading-line = ended (codes "lolamon-state 1") refl

second-is-line : (spec : List ℕ) → IsLine (second_line spec)
second-is-line spec = ended (codes "spec " ++ decimal (length spec)) (both (codes "spec ") (decimal (length spec)) refl (decimal_plain (length spec)))

-- the number of bytes is written as a number
pub number-is : (n : ℕ) → n < 2 ^ 64 → is_number (decimal n) ≡ true
number-is zero lt = rw (decimal_digit 0 (omega arith)) refl
number-is (suc n) lt =
    let first : 48 < slice_index (decimal (suc n)) 0 = first_decimal (suc n) (omega arith) lt in
    let some = decimal_nonempty (suc n) lt in
    let other : nat_eq (slice_index (decimal (suc n)) 0) 48 ≡ false = ne_eqb (slice_index (decimal (suc n)) 0) 48 (λ e. absurd (omega (arith, e, first))) in
    and_from (list_all is_digit (decimal (suc n))) _ (decimal-digits (suc n) (omega arith)) (long (length (decimal (suc n))) (nat_eq (slice_index (decimal (suc n)) 0) 48) some other)
  where
    long : (k : ℕ) (b : Bool) → 0 < k → b ≡ false → (nat_eq k 1 || (nat_lt 1 k && not b)) ≡ true
    long zero b l e = absurd (omega arith)
    long (suc zero) b l e = refl
    long (suc (suc k)) b l e = ap (λ t. nat_eq (suc (suc k)) 1 || (nat_lt 1 (suc (suc k)) && not t)) e ∙ ap (λ t. nat_eq (suc (suc k)) 1 || (t && true)) (lt-ltb 1 (suc (suc k)) (omega arith)) ∙ right (nat_eq (suc (suc k)) 1)
      where
        right : (b : Bool) → (b || true) ≡ true
        right true = refl
        right false = refl

-- a head is the heading, the second line, and the rest
head-split : (spec : List ℕ) → head_text spec ≡ heading ++ (second_line spec ++ (spec ++ 10 ∷ []))
head-split spec =
    ap (λ (t : List ℕ). heading ++ t)
    (sym (append_assoc (codes "spec ") (decimal (length spec) ++ 10 ∷ []) (spec ++ 10 ∷ []) ∙ ap (λ (t : List ℕ). codes "spec " ++ t) (append_assoc (decimal (length spec)) (10 ∷ []) (spec ++ 10 ∷ []))))

-- so is the text of a state
pub text-split : (spec : List ℕ) (rest : List ℕ) → head_text spec ++ rest ≡ heading ++ (second_line spec ++ ((spec ++ 10 ∷ []) ++ rest))
text-split spec rest =
    ap (λ (t : List ℕ). t ++ rest) (head-split spec) ∙ append_assoc heading (second_line spec ++ (spec ++ 10 ∷ [])) rest
    ∙ ap (λ (t : List ℕ). heading ++ t) (append_assoc (second_line spec) (spec ++ 10 ∷ []) rest)

pub second-split : (spec rest : List ℕ) → second_line spec ++ rest ≡ codes "spec " ++ (decimal (length spec) ++ (10 ∷ rest))
second-split spec rest =
    append_assoc (codes "spec ") (decimal (length spec) ++ 10 ∷ []) rest ∙ ap (λ (t : List ℕ). codes "spec " ++ t) (append_assoc (decimal (length spec)) (10 ∷ []) rest)

module _ (spec bytes : List ℕ) (plan : Plan) where
  -- the lines of bytes that go on, one and two
  first-of : GoesOn spec plan bytes 1 → (rest : List ℕ) × (bytes ≡ heading ++ rest)
  first-of g =
      let n = g.number in
      let w = sym (text-split spec (lines_text (state_lines (forms_of plan) g.begun.state))) ∙ sym g.begun.written in
      let m = align (heading ∷ []) g.lines (second_line spec ++ ((spec ++ 10 ∷ []) ++ lines_text (state_lines (forms_of plan) g.begun.state))) g.more (heading-line, tt) g.whole
      (ap (λ (t : List ℕ). t ++ (second_line spec ++ ((spec ++ 10 ∷ []) ++ lines_text (state_lines (forms_of plan) g.begun.state)))) (append-nil heading) ∙ w) (omega (arith, n)) in
      (text_of m.0 ++ g.left, g.cut ∙ ap (λ (ls : List (List ℕ)). text_of ls ++ g.left) m.1 ∙ append_assoc heading (text_of m.0) g.left)

  first-two : GoesOn spec plan bytes 2 → (rest : List ℕ) × (bytes ≡ heading ++ (second_line spec ++ rest))
  first-two g =
      let n = g.number in
      let rest : List ℕ = (spec ++ 10 ∷ []) ++ lines_text (state_lines (forms_of plan) g.begun.state) in
      let w = sym (text-split spec (lines_text (state_lines (forms_of plan) g.begun.state))) ∙ sym g.begun.written in
      let m = align (heading ∷ second_line spec ∷ []) g.lines rest g.more (heading-line, (second-is-line spec, tt)) g.whole
      (append_assoc heading (second_line spec ++ []) rest ∙ ap (λ (t : List ℕ). heading ++ (t ++ rest)) (append-nil (second_line spec)) ∙ w) (omega (arith, n)) in (
        text_of m.0 ++ g.left,
        g.cut ∙ ap (λ (ls : List (List ℕ)). text_of ls ++ g.left) m.1 ∙ append_assoc heading (second_line spec ++ text_of m.0) g.left
            ∙ ap (λ (t : List ℕ). heading ++ t) (append_assoc (second_line spec) (text_of m.0) g.left),
      )

  module _ (storable : AreStorable (forms_of plan)) where
    none-yet : GoesOn spec plan bytes 0
    none-yet =
        let b = begun-text spec plan storable [] AtStart refl in
        record { lines = []; left = bytes; more = (head_text spec ++ []) ++ b.0; whole = tt; number = refl; cut = refl; begun = b.1 }

    one-yet : (second : List ℕ) → bytes ≡ heading ++ second → GoesOn spec plan bytes 1
    one-yet second e =
        let b = begun-text spec plan storable [] AtStart refl in
        let t : (head_text spec ++ []) ++ b.0 ≡ (heading ++ []) ++ (second_line spec ++ ((spec ++ 10 ∷ []) ++ b.0)) =
        ap (λ (x : List ℕ). x ++ b.0) (append-nil (head_text spec)) ∙ text-split spec b.0
        ∙ sym (ap (λ (x : List ℕ). x ++ (second_line spec ++ ((spec ++ 10 ∷ []) ++ b.0))) (append-nil heading)) in
        record {
          lines = heading ∷ [];
          left = second;
          more = second_line spec ++ ((spec ++ 10 ∷ []) ++ b.0);
          whole = (heading-line, tt);
          number = refl;
          cut = e ∙ sym (ap (λ (x : List ℕ). x ++ second) (append-nil heading));
          begun = subst (λ (x : List ℕ). IsStateText spec plan x) t b.1;
        }

-- bytes that do not begin with the heading
pub no-heading : (spec bytes : List ℕ) → ((rest : List ℕ) → bytes ≢ heading ++ rest) → IsHeadEnd spec bytes (end.Damaged 1)
no-heading spec bytes never = (
  λ o. never _ o.form,
  λ plan accepted.
      record {
        none = λ t. never _ (t.written ∙ text-split spec (lines_text (state_lines (forms_of plan) t.state)));
        counted = omega arith;
        before = λ m lt. goes-on-before spec plan bytes m 0 (omega arith) (none-yet spec bytes plan (accepted-storable plan accepted));
        here = λ g. let f = first-of spec bytes plan g in never f.0 f.1;
      },
)

-- bytes that do not go on with the length of a specification
pub no-second : (spec bytes second : List ℕ) → length spec < 2 ^ 64 → bytes ≡ heading ++ second → ((digits left : List ℕ) → IsSecondLine second digits left → ⊥) → IsHeadEnd spec bytes (end.Damaged 2)
no-second spec bytes second short e never = (
  λ o. never o.digits o.left (record { written = append_cancel_left heading second (codes "spec " ++ (o.digits ++ 10 ∷ o.left)) (sym e ∙ o.form); number = o.number }),
  λ plan accepted.
      record {
        none = λ t. its-second _ (t.written ∙ text-split spec (lines_text (state_lines (forms_of plan) t.state)));
        counted = omega arith;
        before = λ m lt. goes-on-before spec plan bytes m 1 (omega arith) (one-yet spec bytes plan (accepted-storable plan accepted) second e);
        here = λ g. let f = first-two spec bytes plan g in its-second f.0 f.1;
      },
)
  where
    its-second : (rest : List ℕ) → bytes ≡ heading ++ (second_line spec ++ rest) → ⊥
    its-second rest f =
        never (decimal (length spec)) rest (record {
          written = append_cancel_left heading second (second_line spec ++ rest) (sym e ∙ f) ∙ second-split spec rest;
          number = number-is (length spec) short;
        })

-- another specification
pub other-spec : (spec bytes second digits left : List ℕ) → bytes ≡ heading ++ second → IsSecondLine second digits left → ((rest : List ℕ) → HasSpec spec digits left rest → ⊥) → IsHeadEnd spec bytes end.OtherSpec
other-spec spec bytes second digits left e line never =
    record {
      digits = digits;
      left = left;
      form = e ∙ ap (λ (t : List ℕ). heading ++ t) line.written;
      number = line.number;
      other = λ rest d l. never rest (record { same = d; follows = l });
    }

-- digits up to an LF
digits-cut : (d c u v : List ℕ) → list_all is_digit d ≡ true → list_all is_digit c ≡ true → d ++ (10 ∷ u) ≡ c ++ (10 ∷ v) → (d ≡ c) × (u ≡ v)
digits-cut d c u v a b e =
    let r = cut-same is_digit d c (10 ∷ u) (10 ∷ v) a b refl refl e in
    let g = r.1 in
    (r.0, let h : u ≡ v = cc g in h)

-- the head of this specification
pub its-head : (spec bytes second digits left rest : List ℕ) → bytes ≡ heading ++ second → IsSecondLine second digits left → HasSpec spec digits left rest → IsBehindHead spec bytes rest
its-head spec bytes second digits left rest e line has =
    record {
      begun = e ∙ ap (λ (t : List ℕ). heading ++ t) (line.written ∙ ap (λ (t : List ℕ). codes "spec " ++ t) both-same ∙ sym (second-split spec ((spec ++ 10 ∷ []) ++ rest))) ∙ sym (text-split spec rest);
      same = λ o.
          let s = append_cancel_left (codes "spec ") (digits ++ 10 ∷ left) (o.digits ++ 10 ∷ o.left)
          (sym line.written ∙ append_cancel_left heading second (codes "spec " ++ (o.digits ++ 10 ∷ o.left)) (sym e ∙ o.form)) in
          let c = digits-cut digits o.digits left o.left (and_parts _ _ line.number).0 (and_parts _ _ o.number).0 s in
          o.other rest (sym c.0 ∙ has.same) (sym c.1 ∙ has.follows);
    }
  where
    both-same : digits ++ (10 ∷ left) ≡ decimal (length spec) ++ (10 ∷ ((spec ++ 10 ∷ []) ++ rest))
    both-same =
        let d = has.same in
        let l = has.follows ∙ sym (append_assoc spec (10 ∷ []) rest) in
        λ i. d i ++ (10 ∷ l i)

-- what stands behind the specification
pub spec-ends : (spec digits left last : List ℕ) (r : Option (Bor (List ℕ))) → digits ≡ decimal (length spec) → left ≡ spec ++ last
    → MatchOption r ((rest : List ℕ) → last ≢ (10 ∷ []) ++ rest) (λ x. last ≡ (10 ∷ []) ++ x.now)
    → MatchOption r ((rest : List ℕ) → HasSpec spec digits left rest → ⊥) (λ x. HasSpec spec digits left x.now)
spec-ends spec digits left last None d e m = λ rest h. m rest (append_cancel_left spec last (10 ∷ rest) (sym e ∙ h.follows))
spec-ends spec digits left last (Some x) d e m = record { same = d; follows = e ∙ ap (λ (t : List ℕ). spec ++ t) m }
