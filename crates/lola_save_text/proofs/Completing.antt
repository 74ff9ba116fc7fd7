-- Each place that a reader comes to has a way to the end.
use Rattle.std.proofs.Common.{◌≡◌, ℕ, zero, suc, ◌+◌, ◌≤◌, List, [], ◌∷◌, ◌++◌, length, Bool, true, false, not, ◌&&◌, ◌||◌, if◌then◌else◌, Option, Some, None, refl, sym, ap, subst, ◌∙◌, arith, nat_le, nat_eq}
use Rattle.std.specs.Prelude.{IsSome, is_some}
use Rattle.std.specs.Cmp.{first_so, second_so}
use Rattle.lola_value.specs.declared.text.Field.{Field}
use Rattle.lola_value.specs.Times.{latest}
use Rattle.lola_save_text.proofs.Claims.{ThereIsAnother}
use Rattle.lola_save_text.specs.Fitting.{Times, are_panes, are_values, is_among, is_last, is_start, most_steps, time_or}
use Rattle.lola_save_text.specs.Forms.{AreStorable, HaveLength, StreamForm, WindowForm}
use Rattle.lola_save_text.specs.Lines.{EndLine, InstLine, LastLine, PanesLine, RingLine, StartLine, StateLine, StepsLine, StreamLine}
use Rattle.lola_save_text.specs.Places.{AtInst, AtLast, AtPanes, AtRing, AtStart, AtSteps, AtStream, Done, Hand, Place, are_params, as_inst, as_last, as_panes, as_ring, as_start, as_steps, as_stream, behind_instance, behind_panes, chosen, is_birth, is_count, is_end, is_ring, most_lists, next, one_less, opened, where_so}
use Rattle.lola_save_text.specs.Runs.{CanGoOn, run}
use Rattle.lola_save_text.proofs.Choices.{where-so, chosen-so, both-so, le-so, so-le, so-eq, eq-so, ne-so, so-ne}

-- what holds of the times once three lines were read
pub record OpenTimes (t : Times) : Type 0 where
  pub order : is_last t.start t.last ≡ true
  pub steps : t.steps ≤ most_steps

-- what holds of a stream in hand
pub record OpenHand (h : Hand) : Type 0 where
  pub times : OpenTimes h.times
  pub plain : h.form.spawns ≡ false → h.form.parameters ≡ []
  pub lengths : HaveLength h.form.windows
  pub later : AreStorable h.later
  pub high : h.high ≤ latest
  pub room : length h.seen + h.left ≤ most_lists h.form.parameters
  pub births : h.form.spawns ≡ true → 1 ≤ h.left → h.low ≤ h.high

-- what holds at a place
abbrev pub Open : Place → Type 0
Open AtStart = Unit {0}
Open (AtLast a) = Unit {0}
Open (AtSteps a o) = is_last a o ≡ true
Open (AtStream t n ss) = OpenTimes t × AreStorable ss
Open (AtInst h) = OpenHand h × (1 ≤ h.left)
Open (AtRing h) = OpenHand h
Open (AtPanes h []) = ⊥
Open (AtPanes h (w ∷ ws)) = OpenHand h × HaveLength (w ∷ ws)
Open Done = Unit {0}

-- the front keeps what is needed

open-left : (h : Hand) (b : Bool) → nat_eq h.left 0 ≡ b → OpenHand h → Open (if b then AtStream h.times (h.number + 1) h.later else AtInst h)
open-left h true e o = (o.times, o.later)
open-left h false e o = (o, ne-so h.left e)

open-behind : (h : Hand) → OpenHand h → Open (behind_instance h)
open-behind h o = open-left h (nat_eq h.left 0) refl o

open-panes : (h : Hand) (ws : List WindowForm) → OpenHand h → HaveLength ws → Open (behind_panes h ws)
open-panes h [] o l = open-behind h o
open-panes h (w ∷ ws) o l = (o, l)

time-birth : (h : Hand) (b : Option ℕ) → is_birth h b ≡ true → h.form.spawns ≡ true → h.low ≤ h.high → time_or h.low b ≤ h.high
time-birth h None e s l = l
time-birth h (Some b) e s l = le-so b h.high (second_so (nat_le h.low b) (nat_le b h.high) (second_so h.form.spawns (nat_le h.low b && nat_le b h.high) e))

open-less : (h : Hand) (b : Option ℕ) (p : List Field) → OpenHand h → 1 ≤ h.left → is_birth h b ≡ true → OpenHand (one_less h b p)
open-less h b p o l e =
    record {
      times = o.times;
      plain = o.plain;
      lengths = o.lengths;
      later = o.later;
      high = o.high;
      room = (let r = o.room in omega arith);
      births = λ s k. time-birth h b e s (o.births s l);
    }

times-order : (t : Times) → is_last t.start t.last ≡ true → is_some t.last ≡ true → time_or 0 t.start ≤ time_or 0 t.last
times-order t e s = order t.start t.last e s
  where
    order : (a l : Option ℕ) → is_last a l ≡ true → is_some l ≡ true → time_or 0 a ≤ time_or 0 l
    order a None e s = absurd (cc)
    order None (Some l) e s = absurd (cc)
    order (Some a) (Some l) e s = le-so a l (first_so (nat_le a l) (nat_le l latest) e)

pub count-room : (t : Times) (s : StreamForm) (b : Bool) (c : ℕ) → s.spawns ≡ b → (s.spawns ≡ false → s.parameters ≡ []) → is_count t s c ≡ true → c ≤ most_lists s.parameters
count-room t s true c e p h =
    le-so c (most_lists s.parameters) (first_so (nat_le c (most_lists s.parameters)) (nat_eq c 0 || is_some t.last) (sym (ap (λ b. if b then nat_le c (most_lists s.parameters) && (nat_eq c 0 || is_some t.last) else nat_eq c 1) e) ∙ h))
count-room t s false c e p h =
    let one : c ≡ 1 = eq-so c 1 (sym (ap (λ b. if b then nat_le c (most_lists s.parameters) && (nat_eq c 0 || is_some t.last) else nat_eq c 1) e) ∙ h) in
    let m : most_lists s.parameters ≡ 1 = ap most_lists (p e) in
    omega (arith, one, m)

or-some : (c : ℕ) (b : Bool) → (nat_eq c 0 || b) ≡ true → 1 ≤ c → b ≡ true
or-some zero b e l = absurd (omega arith)
or-some (suc c) b e l = sym (ap (λ t. t || b) (so-ne (suc c) l)) ∙ e

count-last : (t : Times) (s : StreamForm) (c : ℕ) → s.spawns ≡ true → is_count t s c ≡ true → 1 ≤ c → is_some t.last ≡ true
count-last t s c e h l =
    or-some c (is_some t.last) (second_so (nat_le c (most_lists s.parameters)) (nat_eq c 0 || is_some t.last) (sym (ap (λ b. if b then nat_le c (most_lists s.parameters) && (nat_eq c 0 || is_some t.last) else nat_eq c 1) e) ∙ h)) l

last-latest : (a l : Option ℕ) → is_last a l ≡ true → time_or 0 l ≤ latest
last-latest a None e = omega arith
last-latest None (Some l) e = absurd (cc)
last-latest (Some a) (Some l) e = le-so l latest (second_so (nat_le a l) (nat_le l latest) e)

open-opened : (t : Times) (n : ℕ) (s : StreamForm) (ss : List StreamForm) (c : ℕ) → OpenTimes t → AreStorable (s ∷ ss) → is_count t s c ≡ true → OpenHand (opened t n s ss c)
open-opened t n s ss c o p h =
    record {
      times = o;
      plain = p.0;
      lengths = p.1;
      later = p.2;
      high = last-latest t.start t.last o.order;
      room = (let r = count-room t s s.spawns c refl p.0 h in omega (arith, r));
      births = λ e l. times-order t o.order (count-last t s c e h l);
    }

module _ (forms : List StreamForm) (plain : AreStorable forms) where
  pub open-after : (p : Place) (l : StateLine) (q : Place) → next forms p l ≡ Some q → Open p → Open q
  open-after AtStart l q e o =
      let a = chosen-so (as_start l) (λ o. where_so (is_start o) (AtLast o)) q e in
      subst Open (where-so (is_start a.0) (AtLast a.0) q a.2).1 tt
  open-after (AtLast s) l q e o =
      let a = chosen-so (as_last l) (λ o. where_so (is_last s o) (AtSteps s o)) q e in
      let b = where-so (is_last s a.0) (AtSteps s a.0) q a.2 in
      subst Open b.1 b.0
  open-after (AtSteps s z) l q e o =
      let f : ℕ → Place = λ n. AtStream (record { start = s; last = z; steps = n }) 0 forms in
      let a = chosen-so (as_steps l) (λ n. where_so (nat_le n most_steps) (f n)) q e in
      let b = where-so (nat_le a.0 most_steps) (f a.0) q a.2 in
      subst Open b.1 (record { order = o; steps = le-so a.0 most_steps b.0 }, plain)
  open-after (AtStream t n []) l q e o = subst Open (where-so (is_end l) Done q e).1 tt
  open-after (AtStream t n (s ∷ ss)) l q e o =
      let f : ℕ × ℕ → Place = λ x. behind_instance (opened t n s ss x.1) in
      let a = chosen-so (as_stream l) (λ x. where_so (nat_eq x.0 n && is_count t s x.1) (f x)) q e in
      let b = where-so (nat_eq a.0.0 n && is_count t s a.0.1) (f a.0) q a.2 in
      subst Open b.1 (open-behind (opened t n s ss a.0.1) (open-opened t n s ss a.0.1 o.0 o.1 (second_so (nat_eq a.0.0 n) (is_count t s a.0.1) b.0)))
  open-after (AtInst h) l q e o =
      let f : Option ℕ × List Field → Place = λ x. AtRing (one_less h x.0 x.1) in
      let a = chosen-so (as_inst l) (λ x. where_so (is_birth h x.0 && are_params h x.1) (f x)) q e in
      let b = where-so (is_birth h a.0.0 && are_params h a.0.1) (f a.0) q a.2 in
      subst Open b.1 (open-less h a.0.0 a.0.1 o.0 o.1 (first_so (is_birth h a.0.0) (are_params h a.0.1) b.0))
  open-after (AtRing h) l q e o =
      let a = chosen-so (as_ring l) (λ vs. where_so (is_ring h vs) (behind_panes h h.form.windows)) q e in
      subst Open (where-so (is_ring h a.0) (behind_panes h h.form.windows) q a.2).1 (open-panes h h.form.windows o o.lengths)
  open-after (AtPanes h []) l q e o = absurd (cc)
  open-after (AtPanes h (w ∷ ws)) l q e o =
      let a = chosen-so (as_panes l) (λ x. where_so (nat_eq x.0 w.number && are_panes h.times h.form.kind w x.1) (behind_panes h ws)) q e in
      subst Open (where-so (nat_eq a.0.0 w.number && are_panes h.times h.form.kind w a.0.1) (behind_panes h ws) q a.2).1 (open-panes h ws o.0 o.1.1)
  open-after Done l q e o = absurd (cc)

  pub open-run : (p : Place) (ls : List StateLine) (q : Place) → run forms p ls ≡ Some q → Open p → Open q
  open-run p [] q e o = subst Open (some-same p q e) o
    where
      some-same : (a b : Place) → Some a ≡ Some b → a ≡ b
      some-same a b e = grind (arith, e)
  open-run p (l ∷ ls) q e o =
      let a = chosen-so (next forms p l) (λ r. run forms r ls) q e in
      open-run a.0 ls q a.2 (open-after p l a.0 a.1 o)

  -- ways to the end

  abbrev Ends : Place → Type 0
  Ends p = (ls : List StateLine) × (run forms p ls ≡ Some Done)

  one : (p : Place) (l : StateLine) (q : Place) → next forms p l ≡ Some q → Ends q → Ends p
  one p l q e r = (l ∷ r.0, ap (λ o. chosen o (λ s. run forms s r.0)) e ∙ r.1)

  so : {X : Type 0} (b : Bool) (x : X) → b ≡ true → where_so b x ≡ Some x
  so b x e = ap (λ c. where_so c x) e

  ends-panes : (ws : List WindowForm) (h : Hand) → Ends (behind_instance h) → Ends (behind_panes h ws)
  ends-panes [] h r = r
  ends-panes (w ∷ ws) h r =
      one (AtPanes h (w ∷ ws)) (PanesLine w.number None) (behind_panes h ws)
      (so (nat_eq w.number w.number && true) (behind_panes h ws) (both-so (nat_eq w.number w.number) true (so-eq w.number) refl))
      (ends-panes ws h r)

  or-zero : (b : Bool) → (b || true) ≡ true
  or-zero true = refl
  or-zero false = refl

  ends-ring : (h : Hand) → Ends (behind_instance h) → Ends (AtRing h)
  ends-ring h r =
      one (AtRing h) (RingLine []) (behind_panes h h.form.windows)
      (so (is_ring h []) (behind_panes h h.form.windows) (both-so (nat_le 0 h.form.kept) (is_some h.times.last || true) (so-le 0 h.form.kept (omega arith)) (or-zero (is_some h.times.last))))
      (ends-panes h.form.windows h r)

  module _ (another : ThereIsAnother) where
    -- a time of birth that fits
    abbrev birth-of : Bool → ℕ → Option ℕ
    birth-of true t = Some t
    birth-of false t = None

    birth-fits : (h : Hand) (b : Bool) → h.form.spawns ≡ b → OpenHand h → 1 ≤ h.left → is_birth h (birth-of b h.high) ≡ true
    birth-fits h true e o l =
        both-so h.form.spawns (nat_le h.low h.high && nat_le h.high h.high) e
        (both-so (nat_le h.low h.high) (nat_le h.high h.high) (so-le h.low h.high (o.births e l)) (so-le h.high h.high (omega arith)))
    birth-fits h false e o l = ap not e

    ends-instances : (k : ℕ) (h : Hand) → h.left ≡ k → OpenHand h → Ends (AtStream h.times (h.number + 1) h.later) → Ends (behind_instance h)
    ends-instances zero h e o r = subst Ends (sym (ap (λ n. if nat_eq n 0 then AtStream h.times (h.number + 1) h.later else AtInst h) e)) r
    ends-instances (suc k) h e o r =
        let l : 1 ≤ h.left = omega (arith, e) in
        let b : Option ℕ = birth-of h.form.spawns h.high in
        let p = another h.form.parameters h.seen (let m = o.room in omega arith) in
        let fits : is_birth h b ≡ true = birth-fits h h.form.spawns refl o l in
        let h' : Hand = one_less h b p.0 in
        let later : Ends (behind_instance h') = ends-instances k h' (omega (arith, e)) (open-less h b p.0 o l fits) r in
        subst Ends (sym (ap (λ b. if b then AtStream h.times (h.number + 1) h.later else AtInst h) (so-ne h.left l)))
        (one (AtInst h) (InstLine b p.0) (AtRing h')
        (so (is_birth h b && are_params h p.0) (AtRing h') (both-so (is_birth h b) (are_params h p.0) fits (both-so (are_values h.form.parameters p.0) (not (is_among p.0 h.seen)) p.1 (ap not p.2))))
        (ends-ring h' later))

    -- a stream may have as few instances as this
    abbrev few : Bool → ℕ
    few true = 0
    few false = 1

    few-fits : (t : Times) (s : StreamForm) (b : Bool) → s.spawns ≡ b → is_count t s (few b) ≡ true
    few-fits t s true e = ap (λ b. if b then nat_le 0 (most_lists s.parameters) && (nat_eq 0 0 || is_some t.last) else nat_eq 0 1) e ∙ both-so (nat_le 0 (most_lists s.parameters)) true (so-le 0 (most_lists s.parameters) (omega arith)) refl
    few-fits t s false e = ap (λ b. if b then nat_le 1 (most_lists s.parameters) && (nat_eq 1 0 || is_some t.last) else nat_eq 1 1) e

    ends-streams : (ss : List StreamForm) (t : Times) (n : ℕ) → OpenTimes t → AreStorable ss → Ends (AtStream t n ss)
    ends-streams [] t n o p = one (AtStream t n []) EndLine Done refl ([], refl)
    ends-streams (s ∷ ss) t n o p =
        let c : ℕ = few s.spawns in
        let h : Hand = opened t n s ss c in
        let fits : is_count t s c ≡ true = few-fits t s s.spawns refl in
        one (AtStream t n (s ∷ ss)) (StreamLine n c) (behind_instance h)
        (so (nat_eq n n && is_count t s c) (behind_instance h) (both-so (nat_eq n n) (is_count t s c) (so-eq n) fits))
        (ends-instances c h refl (open-opened t n s ss c o p fits) (ends-streams ss t (n + 1) o p.2))

    ends-hand : (h : Hand) → OpenHand h → Ends (behind_instance h)
    ends-hand h o = ends-instances h.left h refl o (ends-streams h.later h.times (h.number + 1) o.times o.later)

    from-steps : (a z : Option ℕ) → is_last a z ≡ true → Ends (AtSteps a z)
    from-steps a z o =
        one (AtSteps a z) (StepsLine 0) (AtStream (record { start = a; last = z; steps = 0 }) 0 forms) refl
        (ends-streams forms (record { start = a; last = z; steps = 0 }) 0 (record { order = o; steps = omega arith }) plain)

    from-last : (a : Option ℕ) → Ends (AtLast a)
    from-last a = one (AtLast a) (LastLine None) (AtSteps a None) refl (from-steps a None refl)

    ends : (p : Place) → Open p → Ends p
    ends AtStart o = one AtStart (StartLine None) (AtLast None) refl (from-last None)
    ends (AtLast a) o = from-last a
    ends (AtSteps a z) o = from-steps a z o
    ends (AtStream t n ss) o = ends-streams ss t n o.0 o.1
    ends (AtInst h) o = subst Ends (in-hand h (nat_eq h.left 0) refl o.1) (ends-hand h o.0)
      where
        in-hand : (h : Hand) (b : Bool) → nat_eq h.left 0 ≡ b → 1 ≤ h.left → (if b then AtStream h.times (h.number + 1) h.later else AtInst h) ≡ AtInst h
        in-hand h true e l = absurd (let z = eq-so h.left 0 e in omega arith)
        in-hand h false e l = refl
    ends (AtRing h) o = ends-ring h (ends-hand h o)
    ends (AtPanes h []) o = absurd o
    ends (AtPanes h (w ∷ ws)) o = ends-panes (w ∷ ws) h (ends-hand h o.0)
    ends Done o = ([], refl)

pub run-append : (forms : List StreamForm) (p : Place) (ls ms : List StateLine) → run forms p (ls ++ ms) ≡ chosen (run forms p ls) (λ q. run forms q ms)
run-append forms p [] ms = refl
run-append forms p (l ∷ ls) ms = by-next (next forms p l) (λ q. run-append forms q ls ms)
  where
    by-next : (o : Option Place) → ((q : Place) → run forms q (ls ++ ms) ≡ chosen (run forms q ls) (λ r. run forms r ms))
        → chosen o (λ q. run forms q (ls ++ ms)) ≡ chosen (chosen o (λ q. run forms q ls)) (λ q. run forms q ms)
    by-next None later = refl
    by-next (Some q) later = later q

pub accepted-goes-on : ThereIsAnother → (forms : List StreamForm) (ls : List StateLine) (p : Place) → AreStorable forms → run forms AtStart ls ≡ Some p → CanGoOn forms ls
accepted-goes-on another forms ls p plain e =
    let r = ends forms plain another p (open-run forms plain AtStart ls p e tt) in
    (r.0, run-append forms AtStart ls r.0 ∙ (ap (λ o. chosen o (λ q. run forms q r.0)) e ∙ r.1))

some-of : (o : Option Place) (f : Place → Option Place) (q : Place) → chosen o f ≡ Some q → IsSome o
some-of None f q e = absurd (cc)
some-of (Some p) f q e = refl

pub going-on-accepted : (forms : List StreamForm) (ls : List StateLine) → CanGoOn forms ls → IsSome (run forms AtStart ls)
going-on-accepted forms ls g = some-of (run forms AtStart ls) (λ q. run forms q g.0) Done (sym (run-append forms AtStart ls g.0) ∙ g.1)
