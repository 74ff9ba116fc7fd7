-- At a place, no two lines that are accepted have the same text.
use Rattle.std.proofs.Common.{◌≡◌, ℕ, ◌/◌, ◌%◌, ◌≤◌, List, [], ◌∷◌, ◌++◌, true, not, ◌&&◌, Option, Some, None, codes, refl, sym, ap, ◌∙◌, arith, decimal, nat_le, nat_eq}
use Rattle.std.specs.List.{list_all}
use Rattle.std.proofs.lemmas.Bool.{and_parts, leb-true, eqb-true}
use Rattle.std.proofs.lemmas.List.{append_cancel_left, append_cancel_right}
use Rattle.lola_value.specs.declared.text.Field.{Field}
use Rattle.lola_value.specs.declared.value.Kind.{Kind}
use Rattle.lola_value.specs.Times.{is_digit, latest, nine_digits, time_text}
use Rattle.lola_report.proofs.Mild.{Mild, is_mild, time_mild}
use Rattle.lola_save_text.specs.Fitting.{are_panes, are_values, is_among, is_last, is_start, is_value, most_steps}
use Rattle.lola_save_text.specs.Forms.{StreamForm}
use Rattle.lola_save_text.specs.Lines.{StateLine, StartLine, LastLine, StepsLine, StreamLine, InstLine, RingLine, PanesLine, line_body, line_text, panes_text, time_or_dash, values_text}
use Rattle.lola_save_text.specs.Places.{Place, AtStart, AtLast, AtSteps, AtStream, AtInst, AtRing, AtPanes, Done, Hand, as_inst, as_last, as_panes, as_ring, as_start, as_steps, as_stream, are_params, behind_instance, behind_panes, is_birth, is_count, is_end, is_ring, next, one_less, opened, where_so}
use Rattle.lola_save_text.specs.States.{SavedPanes}
use Rattle.lola_save_text.proofs.Choices.{chosen-so, where-so}
use Rattle.lola_save_text.proofs.Completing.{Open, count-room}
use Rattle.lola_save_text.proofs.SameCuts.{cut-same}
use Rattle.lola_save_text.proofs.Numbers.{decimal-digits, decimal-same, decimal-some, time-same}
use Rattle.lola_save_text.proofs.Partials.{panes-same}
use Rattle.lola_save_text.proofs.Values.{params-same, ring-same, values-stop}
use Rattle.lola_save_text.proofs.Whole.{is-start, is-last, is-steps, is-stream, is-inst, is-ring, is-panes, is-end-line, most-few}

-- a time that the text can tell, or none
abbrev pub IsUpTo : Option ℕ → Type 0
IsUpTo None = Unit {0}
IsUpTo (Some t) = t ≤ latest

-- the dash alone is no time
no-time : (t : ℕ) → t ≤ latest → codes "-" ≡ time_text t → ⊥
no-time t a e =
    let c = cut-same is_digit [] (decimal (t / 1000000000)) (codes "-") (46 ∷ nine_digits (t % 1000000000)) refl (decimal-digits (t / 1000000000) (omega arith)) refl refl e in
    decimal-some (t / 1000000000) (omega arith) (sym c.0)

pub dash-same : (a b : Option ℕ) → IsUpTo a → IsUpTo b → time_or_dash a ≡ time_or_dash b → a ≡ b
dash-same None None x y e = refl
dash-same None (Some t) x y e = absurd (no-time t y e)
dash-same (Some t) None x y e = absurd (no-time t x (sym e))
dash-same (Some t) (Some u) x y e = ap (λ (n : ℕ). Some n) (time-same t u x y e)

pub dash-mild : (a : Option ℕ) → Mild (time_or_dash a)
dash-mild None = refl
dash-mild (Some t) = time_mild t

pub start-up-to : (a : Option ℕ) → is_start a ≡ true → IsUpTo a
start-up-to None e = tt
start-up-to (Some t) e = leb-true t latest e

last-up-to : (a l : Option ℕ) → is_last a l ≡ true → IsUpTo l
last-up-to a None e = tt
last-up-to None (Some l) e = absurd (cc)
last-up-to (Some a) (Some l) e = leb-true l latest (and_parts (nat_le a l) (nat_le l latest) e).1

birth-up-to : (h : Hand) (b : Option ℕ) → h.high ≤ latest → is_birth h b ≡ true → IsUpTo b
birth-up-to h None l e = tt
birth-up-to h (Some t) l e =
    let p = and_parts h.form.spawns (nat_le h.low t && nat_le t h.high) e in
    let q = leb-true t h.high (and_parts (nat_le h.low t) (nat_le t h.high) p.1).1 in
    omega (arith, q, l)

-- texts of lines that are the same, without their LF
bodies-same : (l m x y : StateLine) → l ≡ x → m ≡ y → line_text l ≡ line_text m → line_body x ≡ line_body y
bodies-same l m x y a b e = sym (ap line_body a) ∙ append_cancel_right (line_body l) (line_body m) (10 ∷ []) e ∙ ap line_body b

-- the ways in which two lines are the same
starts-same : (a b : Option ℕ) → IsUpTo a → IsUpTo b → line_body (StartLine a) ≡ line_body (StartLine b) → StartLine a ≡ StartLine b
starts-same a b x y e = ap StartLine (dash-same a b x y (append_cancel_left (codes "start ") (time_or_dash a) (time_or_dash b) e))

lasts-same : (a b : Option ℕ) → IsUpTo a → IsUpTo b → line_body (LastLine a) ≡ line_body (LastLine b) → LastLine a ≡ LastLine b
lasts-same a b x y e = ap LastLine (dash-same a b x y (append_cancel_left (codes "last ") (time_or_dash a) (time_or_dash b) e))

steps-same : (a b : ℕ) → a ≤ most_steps → b ≤ most_steps → line_body (StepsLine a) ≡ line_body (StepsLine b) → StepsLine a ≡ StepsLine b
steps-same a b x y e = ap StepsLine (decimal-same a b (omega (arith, x)) (omega (arith, y)) (append_cancel_left (codes "steps ") (decimal a) (decimal b) e))

streams-same : (n a b : ℕ) → a ≤ 65536 → b ≤ 65536 → line_body (StreamLine n a) ≡ line_body (StreamLine n b) → StreamLine n a ≡ StreamLine n b
streams-same n a b x y e =
    let f = append_cancel_left (decimal n) (32 ∷ decimal a) (32 ∷ decimal b) (append_cancel_left (codes "stream ") (decimal n ++ (32 ∷ decimal a)) (decimal n ++ (32 ∷ decimal b)) e) in
    let g : decimal a ≡ decimal b = cc f in
    ap (λ c. StreamLine n c) (decimal-same a b (omega (arith, x)) (omega (arith, y)) g)

insts-same : (ks : List Kind) (a b : Option ℕ) (p q : List Field) → IsUpTo a → IsUpTo b → are_values ks p ≡ true → are_values ks q ≡ true → line_body (InstLine a p) ≡ line_body (InstLine b q)
    → InstLine a p ≡ InstLine b q
insts-same ks a b p q x y v w e =
    let f = append_cancel_left (codes "inst ") (time_or_dash a ++ values_text p) (time_or_dash b ++ values_text q) e in
    let c = cut-same is_mild (time_or_dash a) (time_or_dash b) (values_text p) (values_text q) (dash-mild a) (dash-mild b) (values-stop p) (values-stop q) f in
    let g = dash-same a b x y c.0 in
    let h = params-same ks p q v w c.1 in
    λ i. InstLine (g i) (h i)

rings-same : (k : Kind) (p q : List Field) → list_all (is_value k) p ≡ true → list_all (is_value k) q ≡ true → line_body (RingLine p) ≡ line_body (RingLine q) → RingLine p ≡ RingLine q
rings-same k p q v w e = ap RingLine (ring-same k p q v w (append_cancel_left (codes "ring") (values_text p) (values_text q) e))

windows-same : (n : ℕ) (p q : Option SavedPanes) → (panes_text p ≡ panes_text q → p ≡ q) → line_body (PanesLine n p) ≡ line_body (PanesLine n q) → PanesLine n p ≡ PanesLine n q
windows-same n p q one e =
    ap (λ c. PanesLine n c)
    (one (append_cancel_left (decimal n) (panes_text p) (panes_text q) (append_cancel_left (codes "panes ") (decimal n ++ panes_text p) (decimal n ++ panes_text q) e)))

-- the line of a place, and what is known of it
module _ (forms : List StreamForm) (l m : StateLine) (q r : Place) (e : line_text l ≡ line_text m) where
  pub one-line : (p : Place) → Open p → next forms p l ≡ Some q → next forms p m ≡ Some r → l ≡ m
  one-line AtStart o a b =
      let x = chosen-so (as_start l) (λ o. where_so (is_start o) (AtLast o)) q a in
      let y = chosen-so (as_start m) (λ o. where_so (is_start o) (AtLast o)) r b in
      let s = (where-so (is_start x.0) (AtLast x.0) q x.2).0 in
      let t = (where-so (is_start y.0) (AtLast y.0) r y.2).0 in
      let f = is-start l x.0 x.1 in
      let g = is-start m y.0 y.1 in
      f ∙ starts-same x.0 y.0 (start-up-to x.0 s) (start-up-to y.0 t) (bodies-same l m (StartLine x.0) (StartLine y.0) f g e) ∙ sym g
  one-line (AtLast z) o a b =
      let x = chosen-so (as_last l) (λ o. where_so (is_last z o) (AtSteps z o)) q a in
      let y = chosen-so (as_last m) (λ o. where_so (is_last z o) (AtSteps z o)) r b in
      let s = (where-so (is_last z x.0) (AtSteps z x.0) q x.2).0 in
      let t = (where-so (is_last z y.0) (AtSteps z y.0) r y.2).0 in
      let f = is-last l x.0 x.1 in
      let g = is-last m y.0 y.1 in
      f ∙ lasts-same x.0 y.0 (last-up-to z x.0 s) (last-up-to z y.0 t) (bodies-same l m (LastLine x.0) (LastLine y.0) f g e) ∙ sym g
  one-line (AtSteps z w) o a b =
      let d : ℕ → Place = λ n. AtStream (record { start = z; last = w; steps = n }) 0 forms in
      let x = chosen-so (as_steps l) (λ n. where_so (nat_le n most_steps) (d n)) q a in
      let y = chosen-so (as_steps m) (λ n. where_so (nat_le n most_steps) (d n)) r b in
      let s = leb-true x.0 most_steps (where-so (nat_le x.0 most_steps) (d x.0) q x.2).0 in
      let t = leb-true y.0 most_steps (where-so (nat_le y.0 most_steps) (d y.0) r y.2).0 in
      let f = is-steps l x.0 x.1 in
      let g = is-steps m y.0 y.1 in
      f ∙ steps-same x.0 y.0 s t (bodies-same l m (StepsLine x.0) (StepsLine y.0) f g e) ∙ sym g
  one-line (AtStream t n []) o a b = is-end-line l (where-so (is_end l) Done q a).0 ∙ sym (is-end-line m (where-so (is_end m) Done r b).0)
  one-line (AtStream t n (s ∷ ss)) o a b =
      let d : ℕ × ℕ → Place = λ x. behind_instance (opened t n s ss x.1) in
      let x = chosen-so (as_stream l) (λ x. where_so (nat_eq x.0 n && is_count t s x.1) (d x)) q a in
      let y = chosen-so (as_stream m) (λ x. where_so (nat_eq x.0 n && is_count t s x.1) (d x)) r b in
      let i = and_parts (nat_eq x.0.0 n) (is_count t s x.0.1) (where-so (nat_eq x.0.0 n && is_count t s x.0.1) (d x.0) q x.2).0 in
      let j = and_parts (nat_eq y.0.0 n) (is_count t s y.0.1) (where-so (nat_eq y.0.0 n && is_count t s y.0.1) (d y.0) r y.2).0 in
      let f : l ≡ StreamLine n x.0.1 = is-stream l x.0 x.1 ∙ ap (λ k. StreamLine k x.0.1) (eqb-true x.0.0 n i.0) in
      let g : m ≡ StreamLine n y.0.1 = is-stream m y.0 y.1 ∙ ap (λ k. StreamLine k y.0.1) (eqb-true y.0.0 n j.0) in
      let few = most-few s.parameters in
      let u = count-room t s s.spawns x.0.1 refl o.1.0 i.1 in
      let v = count-room t s s.spawns y.0.1 refl o.1.0 j.1 in
      f ∙ streams-same n x.0.1 y.0.1 (omega (arith, u, few)) (omega (arith, v, few)) (bodies-same l m (StreamLine n x.0.1) (StreamLine n y.0.1) f g e) ∙ sym g
  one-line (AtInst h) o a b =
      let d : Option ℕ × List Field → Place = λ x. AtRing (one_less h x.0 x.1) in
      let x = chosen-so (as_inst l) (λ x. where_so (is_birth h x.0 && are_params h x.1) (d x)) q a in
      let y = chosen-so (as_inst m) (λ x. where_so (is_birth h x.0 && are_params h x.1) (d x)) r b in
      let i = and_parts (is_birth h x.0.0) (are_params h x.0.1) (where-so (is_birth h x.0.0 && are_params h x.0.1) (d x.0) q x.2).0 in
      let j = and_parts (is_birth h y.0.0) (are_params h y.0.1) (where-so (is_birth h y.0.0 && are_params h y.0.1) (d y.0) r y.2).0 in
      let f = is-inst l x.0 x.1 in
      let g = is-inst m y.0 y.1 in
      f ∙ insts-same h.form.parameters x.0.0 y.0.0 x.0.1 y.0.1 (birth-up-to h x.0.0 o.0.high i.0) (birth-up-to h y.0.0 o.0.high j.0)
      (and_parts (are_values h.form.parameters x.0.1) (not (is_among x.0.1 h.seen)) i.1).0 (and_parts (are_values h.form.parameters y.0.1) (not (is_among y.0.1 h.seen)) j.1).0
      (bodies-same l m (InstLine x.0.0 x.0.1) (InstLine y.0.0 y.0.1) f g e) ∙ sym g
  one-line (AtRing h) o a b =
      let x = chosen-so (as_ring l) (λ vs. where_so (is_ring h vs) (behind_panes h h.form.windows)) q a in
      let y = chosen-so (as_ring m) (λ vs. where_so (is_ring h vs) (behind_panes h h.form.windows)) r b in
      let i = and_parts (list_all (is_value h.form.kind) x.0) _ (where-so (is_ring h x.0) (behind_panes h h.form.windows) q x.2).0 in
      let j = and_parts (list_all (is_value h.form.kind) y.0) _ (where-so (is_ring h y.0) (behind_panes h h.form.windows) r y.2).0 in
      let f = is-ring l x.0 x.1 in
      let g = is-ring m y.0 y.1 in
      f ∙ rings-same h.form.kind x.0 y.0 i.0 j.0 (bodies-same l m (RingLine x.0) (RingLine y.0) f g e) ∙ sym g
  one-line (AtPanes h []) o a b = absurd o
  one-line (AtPanes h (w ∷ ws)) o a b =
      let x = chosen-so (as_panes l) (λ x. where_so (nat_eq x.0 w.number && are_panes h.times h.form.kind w x.1) (behind_panes h ws)) q a in
      let y = chosen-so (as_panes m) (λ x. where_so (nat_eq x.0 w.number && are_panes h.times h.form.kind w x.1) (behind_panes h ws)) r b in
      let i = and_parts (nat_eq x.0.0 w.number) (are_panes h.times h.form.kind w x.0.1) (where-so (nat_eq x.0.0 w.number && are_panes h.times h.form.kind w x.0.1) (behind_panes h ws) q x.2).0 in
      let j = and_parts (nat_eq y.0.0 w.number) (are_panes h.times h.form.kind w y.0.1) (where-so (nat_eq y.0.0 w.number && are_panes h.times h.form.kind w y.0.1) (behind_panes h ws) r y.2).0 in
      let f : l ≡ PanesLine w.number x.0.1 = is-panes l x.0 x.1 ∙ ap (λ k. PanesLine k x.0.1) (eqb-true x.0.0 w.number i.0) in
      let g : m ≡ PanesLine w.number y.0.1 = is-panes m y.0 y.1 ∙ ap (λ k. PanesLine k y.0.1) (eqb-true y.0.0 w.number j.0) in
      f ∙ windows-same w.number x.0.1 y.0.1 (panes-same h.times h.form.kind w o.0.times.order o.0.times.steps o.1.0 x.0.1 y.0.1 i.1 j.1)
      (bodies-same l m (PanesLine w.number x.0.1) (PanesLine w.number y.0.1) f g e) ∙ sym g
  one-line Done o a b = absurd (cc)
