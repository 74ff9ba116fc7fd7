-- What is read whole is a state's.
use Rattle.std.proofs.Common.{◌≡◌, ℕ, zero, suc, ◌+◌, ◌≤◌, List, [], ◌∷◌, ◌++◌, length, Bool, true, false, not, ◌&&◌, ◌||◌, if◌then◌else◌, Option, Some, None, refl, sym, ap, subst, ◌∙◌, arith, nat_le, nat_eq, append_assoc}
use Rattle.std.specs.Prelude.{flat_map, is_some}
use Rattle.std.specs.Cmp.{first_so, second_so}
use Rattle.lola_value.specs.declared.text.Field.{Field}
use Rattle.lola_value.specs.declared.value.Kind.{Kind}
use Rattle.lola_save_text.specs.Fitting.{Times, are_panes, are_values, is_among, is_last, is_start, is_value, most_steps, time_or}
use Rattle.lola_save_text.specs.Forms.{StreamForm, WindowForm}
use Rattle.lola_save_text.specs.Lines.{EndLine, InstLine, LastLine, PanesLine, RingLine, StartLine, StateLine, StepsLine, StreamLine, count_of, instance_lines, panes_lines, state_lines, streams_lines}
use Rattle.lola_save_text.specs.Places.{AtInst, AtLast, AtPanes, AtRing, AtStart, AtSteps, AtStream, Done, Hand, Place, are_params, as_inst, as_last, as_panes, as_ring, as_start, as_steps, as_stream, behind_instance, behind_panes, is_birth, is_count, is_end, is_ring, most_lists, next, one_less, opened, where_so}
use Rattle.lola_save_text.specs.Runs.{AreWhole, run}
use Rattle.lola_save_text.specs.States.{SavedInstance, SavedPanes, SavedState}
use Rattle.lola_save_text.specs.Validity.{AllPanes, AreInstances, AreStreams, IsBorn, IsInstance, IsSaved, IsStream}
use Rattle.std.specs.List.{list_all}
use Rattle.lola_save_text.proofs.Choices.{where-so, chosen-so, le-so, eq-so, so-ne}

-- no stream has more instances
pub most-few : (ks : List Kind) → most_lists ks ≤ 65536
most-few [] = omega arith
most-few (k ∷ ks) = omega arith

pub some-same : {X : Type 0} (a b : X) → Some a ≡ Some b → a ≡ b
some-same a b e = grind (arith, e)

pub is-start : (l : StateLine) (x : Option ℕ) → as_start l ≡ Some x → l ≡ StartLine x
is-start (StartLine o) x e = ap StartLine (some-same o x e)
is-start (LastLine o) x e = absurd (cc)
is-start (StepsLine n) x e = absurd (cc)
is-start (StreamLine n c) x e = absurd (cc)
is-start (InstLine b p) x e = absurd (cc)
is-start (RingLine vs) x e = absurd (cc)
is-start (PanesLine w p) x e = absurd (cc)
is-start EndLine x e = absurd (cc)

pub is-last : (l : StateLine) (x : Option ℕ) → as_last l ≡ Some x → l ≡ LastLine x
is-last (StartLine o) x e = absurd (cc)
is-last (LastLine o) x e = ap LastLine (some-same o x e)
is-last (StepsLine n) x e = absurd (cc)
is-last (StreamLine n c) x e = absurd (cc)
is-last (InstLine b p) x e = absurd (cc)
is-last (RingLine vs) x e = absurd (cc)
is-last (PanesLine w p) x e = absurd (cc)
is-last EndLine x e = absurd (cc)

pub is-steps : (l : StateLine) (x : ℕ) → as_steps l ≡ Some x → l ≡ StepsLine x
is-steps (StartLine o) x e = absurd (cc)
is-steps (LastLine o) x e = absurd (cc)
is-steps (StepsLine n) x e = ap StepsLine (some-same n x e)
is-steps (StreamLine n c) x e = absurd (cc)
is-steps (InstLine b p) x e = absurd (cc)
is-steps (RingLine vs) x e = absurd (cc)
is-steps (PanesLine w p) x e = absurd (cc)
is-steps EndLine x e = absurd (cc)

pub is-stream : (l : StateLine) (x : ℕ × ℕ) → as_stream l ≡ Some x → l ≡ StreamLine x.0 x.1
is-stream (StartLine o) x e = absurd (cc)
is-stream (LastLine o) x e = absurd (cc)
is-stream (StepsLine n) x e = absurd (cc)
is-stream (StreamLine n c) x e = ap (λ y. StreamLine y.0 y.1) (some-same (n, c) x e)
is-stream (InstLine b p) x e = absurd (cc)
is-stream (RingLine vs) x e = absurd (cc)
is-stream (PanesLine w p) x e = absurd (cc)
is-stream EndLine x e = absurd (cc)

pub is-inst : (l : StateLine) (x : Option ℕ × List Field) → as_inst l ≡ Some x → l ≡ InstLine x.0 x.1
is-inst (StartLine o) x e = absurd (cc)
is-inst (LastLine o) x e = absurd (cc)
is-inst (StepsLine n) x e = absurd (cc)
is-inst (StreamLine n c) x e = absurd (cc)
is-inst (InstLine b p) x e = ap (λ y. InstLine y.0 y.1) (some-same (b, p) x e)
is-inst (RingLine vs) x e = absurd (cc)
is-inst (PanesLine w p) x e = absurd (cc)
is-inst EndLine x e = absurd (cc)

pub is-ring : (l : StateLine) (x : List Field) → as_ring l ≡ Some x → l ≡ RingLine x
is-ring (StartLine o) x e = absurd (cc)
is-ring (LastLine o) x e = absurd (cc)
is-ring (StepsLine n) x e = absurd (cc)
is-ring (StreamLine n c) x e = absurd (cc)
is-ring (InstLine b p) x e = absurd (cc)
is-ring (RingLine vs) x e = ap RingLine (some-same vs x e)
is-ring (PanesLine w p) x e = absurd (cc)
is-ring EndLine x e = absurd (cc)

pub is-panes : (l : StateLine) (x : ℕ × Option SavedPanes) → as_panes l ≡ Some x → l ≡ PanesLine x.0 x.1
is-panes (StartLine o) x e = absurd (cc)
is-panes (LastLine o) x e = absurd (cc)
is-panes (StepsLine n) x e = absurd (cc)
is-panes (StreamLine n c) x e = absurd (cc)
is-panes (InstLine b p) x e = absurd (cc)
is-panes (RingLine vs) x e = absurd (cc)
is-panes (PanesLine w p) x e = ap (λ y. PanesLine y.0 y.1) (some-same (w, p) x e)
is-panes EndLine x e = absurd (cc)

pub is-end-line : (l : StateLine) → is_end l ≡ true → l ≡ EndLine
is-end-line (StartLine o) e = absurd (cc)
is-end-line (LastLine o) e = absurd (cc)
is-end-line (StepsLine n) e = absurd (cc)
is-end-line (StreamLine n c) e = absurd (cc)
is-end-line (InstLine b p) e = absurd (cc)
is-end-line (RingLine vs) e = absurd (cc)
is-end-line (PanesLine w p) e = absurd (cc)
is-end-line EndLine e = refl

module _ (forms : List StreamForm) where
  -- a line was read, and what comes behind it
  first-line : (p : Place) (ls : List StateLine) → (p ≡ Done → ⊥) → run forms p ls ≡ Some Done
      → (l : StateLine) × (more : List StateLine) × (q : Place) × (ls ≡ l ∷ more) × (next forms p l ≡ Some q) × (run forms q more ≡ Some Done)
  first-line p [] never e = absurd (never (some-same p Done e))
  first-line p (l ∷ more) never e =
      let a = chosen-so (next forms p l) (λ q. run forms q more) Done e in
      (l, more, a.0, refl, a.1, a.2)

  pub at-end : (ls : List StateLine) → run forms Done ls ≡ Some Done → ls ≡ []
  at-end [] e = refl
  at-end (l ∷ ls) e = absurd (cc)

  whole-panes : (ws : List WindowForm) (h : Hand) (ls : List StateLine) → run forms (behind_panes h ws) ls ≡ Some Done
      → (ps : List (Option SavedPanes)) × (rest : List StateLine) × AllPanes h.times h.form.kind ws ps × (ls ≡ panes_lines ws ps ++ rest) × (run forms (behind_instance h) rest ≡ Some Done)
  whole-panes [] h ls e = ([], ls, tt, refl, e)
  whole-panes (w ∷ ws) h ls e =
      let a = first-line (AtPanes h (w ∷ ws)) ls (λ n. absurd (cc)) e in
      let x = chosen-so (as_panes a.0) (λ x. where_so (nat_eq x.0 w.number && are_panes h.times h.form.kind w x.1) (behind_panes h ws)) a.2 a.4 in
      let b = where-so (nat_eq x.0.0 w.number && are_panes h.times h.form.kind w x.0.1) (behind_panes h ws) a.2 x.2 in
      let r = whole-panes ws h a.1 (subst (λ q. run forms q a.1 ≡ Some Done) (sym b.1) a.5) in
      let n : x.0.0 ≡ w.number = eq-so x.0.0 w.number (first_so (nat_eq x.0.0 w.number) (are_panes h.times h.form.kind w x.0.1) b.0) in
      let l : a.0 ≡ PanesLine w.number x.0.1 = is-panes a.0 x.0 x.1 ∙ ap (λ m. PanesLine m x.0.1) n in
      let k = r.3 in
      (x.0.1 ∷ r.0, r.1, (second_so (nat_eq x.0.0 w.number) (are_panes h.times h.form.kind w x.0.1) b.0, r.2), a.3 ∙ (λ i. l i ∷ k i), r.4)

  or-empty : (n : ℕ) (b : Bool) → (b || nat_eq n 0) ≡ true → b ≡ false → n ≡ 0
  or-empty n true e f = absurd (cc)
  or-empty n false e f = eq-so n 0 e

  is-born : (h : Hand) (b : Option ℕ) (s : Bool) → h.form.spawns ≡ s → is_birth h b ≡ true → IsBorn h.form h.low h.high b
  is-born h None true e g = absurd (let f : not h.form.spawns ≡ false = ap not e in cc)
  is-born h None false e g = e
  is-born h (Some b) s e g =
      let r = second_so h.form.spawns (nat_le h.low b && nat_le b h.high) g in
      (first_so h.form.spawns (nat_le h.low b && nat_le b h.high) g, le-so h.low b (first_so (nat_le h.low b) (nat_le b h.high) r), le-so b h.high (second_so (nat_le h.low b) (nat_le b h.high) r))

  not-so : (b : Bool) → not b ≡ true → b ≡ false
  not-so true e = absurd (cc)
  not-so false e = refl

  whole-instances : (k : ℕ) (h : Hand) (ls : List StateLine) → h.left ≡ k → h.high ≡ time_or 0 h.times.last → run forms (behind_instance h) ls ≡ Some Done
      → (is : List SavedInstance) × (rest : List StateLine) × (count_of is ≡ k) × AreInstances h.times h.form h.seen h.low is × (ls ≡ flat_map (instance_lines h.form) is ++ rest)
      × (run forms (AtStream h.times (h.number + 1) h.later) rest ≡ Some Done)
  whole-instances zero h ls e t r = ([], ls, refl, tt, refl, subst (λ (n : ℕ). run forms (if nat_eq n 0 then AtStream h.times (h.number + 1) h.later else AtInst h) ls ≡ Some Done) e r)
  whole-instances (suc k) h ls e t r =
      let r0 : run forms (AtInst h) ls ≡ Some Done =
      subst (λ (b : Bool). run forms (if b then AtStream h.times (h.number + 1) h.later else AtInst h) ls ≡ Some Done) (so-ne h.left (omega (arith, e))) r in
      let a = first-line (AtInst h) ls (λ n. absurd (cc)) r0 in
      let x = chosen-so (as_inst a.0) (λ x. where_so (is_birth h x.0 && are_params h x.1) (AtRing (one_less h x.0 x.1))) a.2 a.4 in
      let born : Option ℕ = x.0.0 in
      let params : List Field = x.0.1 in
      let h' : Hand = one_less h born params in
      let b = where-so (is_birth h born && are_params h params) (AtRing h') a.2 x.2 in
      let birth : is_birth h born ≡ true = first_so (is_birth h born) (are_params h params) b.0 in
      let fits = second_so (is_birth h born) (are_params h params) b.0 in
      let r1 : run forms (AtRing h') a.1 ≡ Some Done = subst (λ (q : Place). run forms q a.1 ≡ Some Done) (sym b.1) a.5 in
      let c = first-line (AtRing h') a.1 (λ n. absurd (cc)) r1 in
      let y = chosen-so (as_ring c.0) (λ vs. where_so (is_ring h' vs) (behind_panes h' h'.form.windows)) c.2 c.4 in
      let ring : List Field = y.0 in
      let d = where-so (is_ring h' ring) (behind_panes h' h'.form.windows) c.2 y.2 in
      let rest1 = second_so (list_all (is_value h.form.kind) ring) (nat_le (length ring) h.form.kept && (is_some h.times.last || nat_eq (length ring) 0)) d.0 in
      let w = whole-panes h.form.windows h' c.1 (subst (λ (q : Place). run forms q c.1 ≡ Some Done) (sym d.1) c.5) in
      let z = whole-instances k h' w.1 (omega (arith, e)) t w.4 in
      let i : SavedInstance = record { born = born; params = params; ring = ring; panes = w.0 } in
      let one : IsInstance h.times h.form i = record {
        params = first_so (are_values h.form.parameters params) (not (is_among params h.seen)) fits;
        ring = first_so (list_all (is_value h.form.kind) ring) (nat_le (length ring) h.form.kept && (is_some h.times.last || nat_eq (length ring) 0)) d.0;
        kept = le-so (length ring) h.form.kept (first_so (nat_le (length ring) h.form.kept) (is_some h.times.last || nat_eq (length ring) 0) rest1);
        none = or-empty (length ring) (is_some h.times.last) (second_so (nat_le (length ring) h.form.kept) (is_some h.times.last || nat_eq (length ring) 0) rest1);
        panes = w.2;
      } in
      let l1 : a.0 ≡ InstLine born params = is-inst a.0 x.0 x.1 in
      let l2 : c.0 ≡ RingLine ring = is-ring c.0 y.0 y.1 in
      let n : count_of z.0 ≡ k = z.2 in (
        i ∷ z.0,
        z.1,
        omega (arith, n),
        (one, subst (λ (m : ℕ). IsBorn h.form h.low m born) t (is-born h born h.form.spawns refl birth), not-so (is_among params h.seen) (second_so (are_values h.form.parameters params) (not (is_among params h.seen)) fits), z.3),
        joined ls a.0 a.1 c.0 c.1 (panes_lines h.form.windows w.0) w.1 (flat_map (instance_lines h.form) z.0) z.1 born params ring a.3 c.3 w.3 z.4 l1 l2,
        z.5,
      )
    where
      joined : (ls : List StateLine) (l1 : StateLine) (m1 : List StateLine) (l2 : StateLine) (m2 ps m3 is rest : List StateLine) (born : Option ℕ) (params ring : List Field)
          → ls ≡ l1 ∷ m1 → m1 ≡ l2 ∷ m2 → m2 ≡ ps ++ m3 → m3 ≡ is ++ rest → l1 ≡ InstLine born params → l2 ≡ RingLine ring
          → ls ≡ ((InstLine born params ∷ RingLine ring ∷ ps) ++ is) ++ rest
      joined ls l1 m1 l2 m2 ps m3 is rest born params ring e1 e2 e3 e4 f1 f2 =
          let m2' : m2 ≡ (ps ++ is) ++ rest = e3 ∙ (ap (λ m. ps ++ m) e4 ∙ sym (append_assoc ps is rest)) in
          let m1' : m1 ≡ RingLine ring ∷ ((ps ++ is) ++ rest) = e2 ∙ (λ i. f2 i ∷ m2' i) in
          e1 ∙ (λ i. f1 i ∷ m1' i)

  counted : Times → StreamForm → ℕ → Bool → Bool
  counted t s c b = if b then nat_le c (most_lists s.parameters) && (nat_eq c 0 || is_some t.last) else nat_eq c 1

  count-one : (t : Times) (s : StreamForm) (c : ℕ) → is_count t s c ≡ true → s.spawns ≡ false → c ≡ 1
  unfolding counted
  count-one t s c e f = eq-so c 1 (sym (ap (counted t s c) f) ∙ e)

  count-few : (t : Times) (s : StreamForm) (c : ℕ) → is_count t s c ≡ true → s.spawns ≡ true → c ≤ 65536
  unfolding counted
  count-few t s c e f =
      let l = le-so c (most_lists s.parameters) (first_so (nat_le c (most_lists s.parameters)) (nat_eq c 0 || is_some t.last) (sym (ap (counted t s c) f) ∙ e)) in
      let m = most-few s.parameters in
      omega (arith, l, m)

  or-back : (n : ℕ) (b : Bool) → (nat_eq n 0 || b) ≡ true → b ≡ false → n ≡ 0
  or-back n b e f = by (nat_eq n 0) refl
    where
      by : (t : Bool) → nat_eq n 0 ≡ t → n ≡ 0
      by true g = eq-so n 0 g
      by false g = absurd (let q : b ≡ true = sym (ap (λ t. t || b) g) ∙ e in cc)

  count-none : (t : Times) (s : StreamForm) (c : ℕ) → is_count t s c ≡ true → s.spawns ≡ true → is_some t.last ≡ false → c ≡ 0
  unfolding counted
  count-none t s c e f g = or-back c (is_some t.last) (second_so (nat_le c (most_lists s.parameters)) (nat_eq c 0 || is_some t.last) (sym (ap (counted t s c) f) ∙ e)) g

  whole-streams : (ss : List StreamForm) (t : Times) (n : ℕ) (ls : List StateLine) → run forms (AtStream t n ss) ls ≡ Some Done
      → (iss : List (List SavedInstance)) × AreStreams t ss iss × (ls ≡ streams_lines n ss iss ++ EndLine ∷ [])
  whole-streams [] t n ls r =
      let a = first-line (AtStream t n []) ls (λ n. absurd (cc)) r in
      let b = where-so (is_end a.0) Done a.2 a.4 in
      let l : a.0 ≡ EndLine = is-end-line a.0 b.0 in
      let m : a.1 ≡ [] = at-end a.1 (subst (λ (q : Place). run forms q a.1 ≡ Some Done) (sym b.1) a.5) in
      ([], tt, a.3 ∙ (λ i. l i ∷ m i))
  whole-streams (s ∷ ss) t n ls r =
      let a = first-line (AtStream t n (s ∷ ss)) ls (λ n. absurd (cc)) r in
      let x = chosen-so (as_stream a.0) (λ x. where_so (nat_eq x.0 n && is_count t s x.1) (behind_instance (opened t n s ss x.1))) a.2 a.4 in
      let c : ℕ = x.0.1 in
      let h : Hand = opened t n s ss c in
      let b = where-so (nat_eq x.0.0 n && is_count t s c) (behind_instance h) a.2 x.2 in
      let count : is_count t s c ≡ true = second_so (nat_eq x.0.0 n) (is_count t s c) b.0 in
      let z = whole-instances c h a.1 refl refl (subst (λ (q : Place). run forms q a.1 ≡ Some Done) (sym b.1) a.5) in
      let later = whole-streams ss t (n + 1) z.1 z.5 in
      let one : IsStream t s z.0 = record {
        plain = λ f. z.2 ∙ count-one t s c count f;
        few = λ f. subst (λ (m : ℕ). m ≤ 65536) (sym z.2) (count-few t s c count f);
        unborn = λ f g. z.2 ∙ count-none t s c count f g;
        instances = z.3;
      } in
      let l : a.0 ≡ StreamLine n (count_of z.0) = is-stream a.0 x.0 x.1 ∙ (λ i. StreamLine (eq-so x.0.0 n (first_so (nat_eq x.0.0 n) (is_count t s c) b.0) i) (sym z.2 i)) in (
        z.0 ∷ later.0,
        (one, later.1),
        joined-stream ls a.0 a.1 (flat_map (instance_lines s) z.0) z.1 (streams_lines (n + 1) ss later.0) (StreamLine n (count_of z.0)) a.3 z.4 later.2 l,
      )
    where
      joined-stream : (ls : List StateLine) (l1 : StateLine) (m1 is rest later : List StateLine) (l2 : StateLine) → ls ≡ l1 ∷ m1 → m1 ≡ is ++ rest → rest ≡ later ++ EndLine ∷ [] → l1 ≡ l2
          → ls ≡ (l2 ∷ (is ++ later)) ++ EndLine ∷ []
      joined-stream ls l1 m1 is rest later l2 e1 e2 e3 f =
          let m : m1 ≡ (is ++ later) ++ EndLine ∷ [] = e2 ∙ (ap (λ m. is ++ m) e3 ∙ sym (append_assoc is later (EndLine ∷ []))) in
          e1 ∙ (λ i. f i ∷ m i)

  pub whole-state : (ls : List StateLine) → AreWhole forms ls → (s : SavedState) × IsSaved forms s × (ls ≡ state_lines forms s)
  whole-state ls r =
      let a = first-line AtStart ls (λ n. absurd (cc)) r in
      let x = chosen-so (as_start a.0) (λ o. where_so (is_start o) (AtLast o)) a.2 a.4 in
      let b = where-so (is_start x.0) (AtLast x.0) a.2 x.2 in
      let c = first-line (AtLast x.0) a.1 (λ n. absurd (cc)) (subst (λ (q : Place). run forms q a.1 ≡ Some Done) (sym b.1) a.5) in
      let y = chosen-so (as_last c.0) (λ o. where_so (is_last x.0 o) (AtSteps x.0 o)) c.2 c.4 in
      let d = where-so (is_last x.0 y.0) (AtSteps x.0 y.0) c.2 y.2 in
      let e = first-line (AtSteps x.0 y.0) c.1 (λ n. absurd (cc)) (subst (λ (q : Place). run forms q c.1 ≡ Some Done) (sym d.1) c.5) in
      let z = chosen-so (as_steps e.0) (λ n. where_so (nat_le n most_steps) (AtStream (record { start = x.0; last = y.0; steps = n }) 0 forms)) e.2 e.4 in
      let t : Times = record { start = x.0; last = y.0; steps = z.0 } in
      let f = where-so (nat_le z.0 most_steps) (AtStream t 0 forms) e.2 z.2 in
      let w = whole-streams forms t 0 e.1 (subst (λ (q : Place). run forms q e.1 ≡ Some Done) (sym f.1) e.5) in
      let l1 = is-start a.0 x.0 x.1 in
      let l2 = is-last c.0 y.0 y.1 in
      let l3 = is-steps e.0 z.0 z.1 in
      let m3 = e.3 ∙ (λ i. l3 i ∷ w.2 i) in
      let m2 = c.3 ∙ (λ i. l2 i ∷ m3 i) in (
        record { start = x.0; last = y.0; steps = z.0; streams = w.0 },
        record { start = b.0; last = d.0; steps = le-so z.0 most_steps f.0; streams = w.1 },
        a.3 ∙ (λ i. l1 i ∷ m2 i),
      )
