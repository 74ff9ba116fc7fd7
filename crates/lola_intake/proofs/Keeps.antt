-- Each step keeps the rule.
use Rattle.std.proofs.Common.{◌≡◌, ◌≢◌, ℕ, zero, suc, ◌+◌, ◌%◌, ◌^◌, ◌<◌, ◌≤◌, ◌⊎◌, Bool, true, false, true≢false, List, [], ◌∷◌, ◌++◌, cond, length, get_or, set, sym, refl, ap, ◌∙◌, subst, inl, inr, ⊎_elim, arith, length-append, eqb, eq-eqb, ne_eqb, Option, Some, None}
use Rattle.std.proofs.lemmas.List.{set-get_or}
use mathlib.Core.Logic.{dite}
use native.Mathlib.Decide.{ℕ_discrete}
use mathlib.Core.Option.{some, none, some-injective, some-ne-none}
use lib.ListN.{get_elem?}
use Rattle.atomic_table.specs.Table.{State, Me, keeps, takes, gives, put_back, step, rest, Allows, Splits, Joins, opening}
use Rattle.atomic_table.proofs.Lists.{set_here, set_else, set_again, at_longer, at_last, one_turn}
use Rattle.lola_intake.specs.declared.view.Turn.{Turn}
use Rattle.lola_intake.specs.declared.view.Known.{Known}
use Rattle.lola_intake.specs.declared.view.View.{View}
use Rattle.lola_intake.specs.declared.view.CallState.{CallState}
use Rattle.lola_intake.specs.declared.view.CallState.TheVariants.{Idle, Waiting, Serving}
use Rattle.lola_intake.specs.Turns.{total, StartsWith, turn_by, calls_by, Reached, Fits, Stood, Orderly, maker, waits, lives, ticket_of, drawing, serving, told, Taken, looked, drew, left, MayTell, Turned, IsLive, one_more, newcomer, known_of, taking, gone, Ended}
use Rattle.lola_intake.proofs.Lists.{is_false, wraps, all_set, inside, same_at, at_snoc, total_set, total_snoc, term_le, terms_le, total_le, starts_more, starts_all, starts_none, starts_whole, calls_own, calls_other, runs_on}

waits_one : (st : CallState) → waits st ≤ 1
waits_one Idle = omega arith
waits_one (Waiting t) = omega arith
waits_one Serving = omega arith

waits_less : {K : Type 0} (st : CallState) (o : Option K) → (o ≡ None → st ≡ Idle) → waits st ≤ lives o
waits_less st None idle = let e = ap waits (idle refl) in omega arith
waits_less st (Some k) idle = waits_one st

module _ {S K E : Type 0} (opens : K → S → Type 0) (moves : S → Turn E → S → Type 0) (key : K) where
  abbrev V : Type 0
  V = View K E

  abbrev Rule : State S V → Type 0
  Rule = Orderly opens moves key

  abbrev waiting_of : V → ℕ
  waiting_of v = waits v.stage

  abbrev living_of : V → ℕ
  living_of v = lives v.setting

  -- a seat in turn has a ticket that is not yet served
  served_less : (s : State S V) (r : Rule s) (i : ℕ) (v : V) → get_elem? s.views i ≡ some v → v.stage ≡ Serving → length r.history < r.drawn
  served_less s r i v at is = let a = term_le waiting_of s.views i v at in let b = r.counted in let c = ap waits is in omega arith

  -- the tickets that are out are few
  drawn_near : (s : State S V) (r : Rule s) → r.drawn < length r.history + 18446744073709551616
  drawn_near s r = let a = total_le waiting_of living_of s.views (λ j v at. waits_less v.stage v.setting (λ n. ((r.each_seat j v at).gone n).0)) in
      let b = r.counted in let c = r.living in let d = r.few in omega arith

  abbrev Longest : List (Turn E) → List V → List (Known E) → Type 0
  Longest h vs ks = ((i : ℕ) × (u : V) × (get_elem? vs i ≡ some u) × (u.seen ≡ h)) ⊎ ((j : ℕ) × (u : Known E) × (get_elem? ks j ≡ some u) × (u.seen ≡ h))

  -- who has seen the whole history is still there, where the seat's view has seen the same as before
  longest_set : (h : List (Turn E)) (vs : List V) (ks : List (Known E)) (id : ℕ) (v w : V) → get_elem? vs id ≡ some v → w.seen ≡ v.seen → Longest h vs ks → Longest h (set vs id w) ks
  longest_set h vs ks id v w at same = ⊎_elim
      (λ (l : (i : ℕ) × (u : V) × (get_elem? vs i ≡ some u) × (u.seen ≡ h)). dite (ℕ_discrete l.0 id)
      (λ here. let at' : get_elem? vs id ≡ some l.1 = subst (λ z. get_elem? vs z ≡ some l.1) here l.2 in let e : v ≡ l.1 = same_at vs id v l.1 at at' in
      inl (id, w, set_here vs id w (inside vs id v at), same ∙ (ap (λ (y : V). y.seen) e ∙ l.3)))
      (λ else_. inl (l.0, l.1, set_else vs id l.0 w else_ ∙ l.2, l.3)))
      inr

  abbrev Covered : ℕ → List V → List (Known E) → Type 0
  Covered c vs ks = ((i : ℕ) × (u : V) × (get_elem? vs i ≡ some u) × (u.caller ≡ c) × (lives u.setting ≡ 1)) ⊎ ((j : ℕ) × (u : Known E) × (get_elem? ks j ≡ some u) × (u.caller ≡ c))

  -- a caller that is there is still there, where the seat's view is of the same caller as before
  covered_set : (c : ℕ) (vs : List V) (ks : List (Known E)) (id : ℕ) (v w : V) → get_elem? vs id ≡ some v → w.caller ≡ v.caller → w.setting ≡ v.setting → Covered c vs ks → Covered c (set vs id w) ks
  covered_set c vs ks id v w at same setting = ⊎_elim
      (λ (l : (i : ℕ) × (u : V) × (get_elem? vs i ≡ some u) × (u.caller ≡ c) × (lives u.setting ≡ 1)). dite (ℕ_discrete l.0 id)
      (λ here. let at' : get_elem? vs id ≡ some l.1 = subst (λ z. get_elem? vs z ≡ some l.1) here l.2 in let e : v ≡ l.1 = same_at vs id v l.1 at at' in
      inl (id, w, set_here vs id w (inside vs id v at), same ∙ (ap (λ (y : V). y.caller) e ∙ l.3), ap lives setting ∙ (ap (λ (y : V). lives y.setting) e ∙ l.4)))
      (λ else_. inl (l.0, l.1, set_else vs id l.0 w else_ ∙ l.2, l.3, l.4)))
      inr

  pub draws : (slots id : ℕ) (me : Me S V) → me.0.stage ≡ Idle → (k : K) → me.0.setting ≡ Some k
      → Allows Rule slots id me 0 (λ n. (n + 1) % 2 ^ 64) (drew (step slots 0 1 0 none) me)
  draws slots id me idle k is s r _ at _ =
      let w : V = drawing me.0 r.drawn in
      let h = r.history in
      let holder : ℕ → ℕ = λ t. cond (eqb t r.drawn) id (r.holder t) in
      let other : (t : ℕ) → t < r.drawn → holder t ≡ r.holder t = λ t l. ap (λ b. cond b id (r.holder t)) (ne_eqb t r.drawn (λ e. omega arith)) in
      let mine = r.each_seat id me.0 at in
      let more = total_set waiting_of s.views id me.0 w at in
      let none_yet : waits me.0.stage ≡ 0 = ap waits idle in
      let found : get_or s.words 0 0 ≡ r.drawn % 2 ^ 64 = ap (λ ws. get_or ws 0 0) r.words in (
        w,
        keeps,
        tt,
        record {
          history = h;
          drawn = r.drawn + 1;
          made = r.made;
          holder = holder;
          owner = r.owner;
          out = r.out;
          known = r.known;
          words = ap (λ ws. set ws 0 ((get_or ws 0 0 + 1) % 2 ^ 64)) r.words ∙ ap (λ n. n ∷ length h % 2 ^ 64 ∷ []) (wraps r.drawn);
          counted = let c = r.counted in omega arith;
          living = let c = r.living in let l = total_set living_of s.views id me.0 w at in omega arith;
          few = r.few;
          fresh = r.fresh;
          home = r.home;
          busy = λ out. let b = r.busy out in let l = served_less s r (r.holder (length h)) b.0 b.1 b.2 in
              let apart : r.holder (length h) ≢ id = λ e. let same : me.0 ≡ b.0 = same_at s.views id me.0 b.0 at (subst (λ z. get_elem? s.views z ≡ some b.0) e b.1) in
              let no : Idle ≡ Serving = sym idle ∙ (ap (λ (y : V). y.stage) same ∙ b.2) in cc in
              (b.0, subst (λ z. get_elem? (set s.views id w) z ≡ some b.0) (sym (other (length h) l)) (set_else s.views id (r.holder (length h)) w apart ∙ b.1), b.2);
          each_known = r.each_known;
          each_seat = all_set (Fits opens moves key h (r.drawn + 1) r.made holder r.owner r.out r.known) s.views id w
              record {
                seen = mine.seen;
                gone = λ n. absurd (cc);
                live = mine.live;
                waiting = λ t e. let same : r.drawn ≡ t = ap ticket_of e in let c = r.counted in
                    (omega arith, omega arith, ap holder (sym same) ∙ ap (λ b. cond b id (r.holder r.drawn)) (eq-eqb r.drawn r.drawn refl));
                in_turn = λ e. absurd (cc);
                first = mine.first;
              }
              (λ j d n a. let f = r.each_seat j d a in record {
                seen = f.seen;
                gone = f.gone;
                live = f.live;
                waiting = λ t e. let o = f.waiting t e in (o.0, omega arith, other t o.1 ∙ o.2);
                in_turn = λ e. let o = f.in_turn e in (o.0, other (length h) (served_less s r j d a e) ∙ o.1, o.2);
                first = f.first;
              });
          covered = λ c m. covered_set c s.views r.known id me.0 w at refl refl (r.covered c m);
          longest = longest_set h s.views r.known id me.0 w at refl r.longest;
        },
        (r.drawn, refl, found),
      )

  pub looks : (slots id : ℕ) (me : Me S V) (t : ℕ) → me.0.stage ≡ Waiting t → (k : K) → me.0.setting ≡ Some k
      → Allows Rule slots id me 1 (λ n. n) (looked opens moves (step slots 1 0 0 none) me)
  looks slots id me t ticket k is s r _ at _ =
      let h = r.history in
      let mine = r.each_seat id me.0 at in
      let drawn = mine.waiting t ticket in
      let live = mine.live k is in
      let found : get_or s.words 1 0 ≡ length h % 2 ^ 64 = ap (λ ws. get_or ws 1 0) r.words in
      let kept : set s.words 1 (get_or s.words 1 0) ≡ s.words = set-get_or s.words 1 0 in
      let number : ticket_of me.0.stage ≡ t = ap ticket_of ticket in
      dite (ℕ_discrete (get_or s.words 1 0) (ticket_of me.0.stage % 2 ^ 64))
      (λ hit.
      let near = drawn_near s r in
      let turn : length h ≡ t = one_turn (length h) t (2 ^ 64) drawn.0 (omega arith) (sym found ∙ (hit ∙ ap (λ n. n % 2 ^ 64) number)) in
      let with_me : r.holder (length h) ≡ id = ap r.holder turn ∙ drawn.2 in
      let at_home : r.out ≡ false = is_false r.out (λ o. let b = r.busy o in
      let same : me.0 ≡ b.0 = same_at s.views id me.0 b.0 at (subst (λ z. get_elem? s.views z ≡ some b.0) with_me b.1) in
      let no : Waiting t ≡ Serving = sym ticket ∙ (ap (λ (y : V). y.stage) same ∙ b.2) in cc) in
      let object = r.home at_home in
      let w : V = serving me.0 h in
      let here = set_here s.views id w (inside s.views id me.0 at) in
      let one : waits me.0.stage ≡ 1 = ap waits ticket in
      let still = total_set waiting_of s.views id me.0 w at in (
        w,
        takes 0 object.0,
        object.1,
        record {
          history = h;
          drawn = r.drawn;
          made = r.made;
          holder = r.holder;
          owner = r.owner;
          out = true;
          known = r.known;
          words = kept ∙ r.words;
          counted = let c = r.counted in omega arith;
          living = let c = r.living in let l = total_set living_of s.views id me.0 w at in omega arith;
          few = r.few;
          fresh = r.fresh;
          home = λ o. absurd (true≢false o);
          busy = λ _. (w, subst (λ z. get_elem? (set s.views id w) z ≡ some w) (sym with_me) here, refl);
          each_known = r.each_known;
          each_seat = all_set (Fits opens moves key h r.drawn r.made r.holder r.owner true r.known) s.views id w
              record {
                seen = starts_all h;
                gone = λ n. absurd (cc);
                live = mine.live;
                waiting = λ u e. absurd (cc);
                in_turn = λ _. (refl, with_me, refl);
                first = mine.first;
              }
              (λ j d n a. let f = r.each_seat j d a in record {
                seen = f.seen;
                gone = f.gone;
                live = f.live;
                waiting = f.waiting;
                in_turn = λ e. absurd (true≢false (sym (f.in_turn e).0 ∙ at_home));
                first = f.first;
              });
          covered = λ c m. covered_set c s.views r.known id me.0 w at refl refl (r.covered c m);
          longest = inl (id, w, here, refl);
        },
        ((λ _. (k, object.0, h, is, refl, mine.seen, live.3, subst (λ z. Reached opens moves z h object.0) (sym live.0) object.2)), λ miss. absurd (miss hit)),
      ))
      (λ miss. (
        me.0,
        keeps,
        tt,
        subst (λ (z : List ℕ × List V). Rule record { words = z.0; homes = s.homes; views = z.1 }) (λ i. (sym kept i, sym (set_again s.views id me.0 at) i)) r,
        ((λ hit. absurd (miss hit)), λ _. refl),
      ))

  pub leaves : (slots id : ℕ) (me : Me S V) (x : S) (e : E) (event : Option E) → 0 < slots → me.0.stage ≡ Serving → (k : K) → me.0.setting ≡ Some k → me.1 ≡ (0, x) ∷ rest me.1
      → event ≡ Some e → Reached opens moves k (me.0.seen ++ turn_by me.0.caller e ∷ []) x
      → Allows Rule slots id me 1 (λ n. (n + 1) % 2 ^ 64) (left event (step slots 1 1 0 none) me)
  leaves slots id me x e event some_slots turn k is has tells reached s r wide at _ =
      let h = r.history in
      let h' : List (Turn E) = h ++ turn_by me.0.caller e ∷ [] in
      let longer : length h' ≡ length h + 1 = length-append h (turn_by me.0.caller e ∷ []) in
      let mine = r.each_seat id me.0 at in
      let mine_now = mine.in_turn turn in
      let live = mine.live k is in
      let w : V = told me.0 e in
      let seen : w.seen ≡ h' = ap (λ l. l ++ turn_by me.0.caller e ∷ []) mine_now.2 in
      let here = set_here s.views id w (inside s.views id me.0 at) in
      let one : waits me.0.stage ≡ 1 = ap waits turn in
      let fewer = total_set waiting_of s.views id me.0 w at in
      let others : (c : ℕ) → r.owner c ≢ Some id → calls_by c h' ≡ calls_by c h = λ c n. calls_other c me.0.caller e h (λ same. n (ap r.owner (sym same) ∙ live.2)) in (
        w,
        gives,
        tt,
        record {
          history = h';
          drawn = r.drawn;
          made = r.made;
          holder = r.holder;
          owner = r.owner;
          out = false;
          known = r.known;
          words = ap (λ ws. set ws 1 ((get_or ws 1 0 + 1) % 2 ^ 64)) r.words ∙ (ap (λ n. r.drawn % 2 ^ 64 ∷ n ∷ []) (wraps (length h)) ∙ ap (λ n. r.drawn % 2 ^ 64 ∷ n % 2 ^ 64 ∷ []) (sym longer));
          counted = let c = r.counted in omega arith;
          living = let c = r.living in let l = total_set living_of s.views id me.0 w at in omega arith;
          few = r.few;
          fresh = λ c m. let f = r.fresh c m in (f.0, others c (λ same. let no : None ≡ Some id = sym f.0 ∙ same in cc) ∙ f.1);
          home = λ _. (
            x,
            ap (λ c. get_elem? (put_back s.homes c) 0) has ∙ set_here s.homes 0 (some x) (omega arith),
            subst (λ (z : K × List (Turn E)). Reached opens moves z.0 z.1 x) (λ i. (live.0 i, seen i)) reached,
          );
          busy = λ o. absurd (true≢false (sym o));
          each_known = λ j u a. let f = r.each_known j u a in record {
            seen = starts_more h u.seen (turn_by me.0.caller e ∷ []) f.seen;
            mine = others u.caller (λ same. let no : None ≡ Some id = sym f.gone ∙ same in cc) ∙ f.mine;
            gone = f.gone;
            numbered = f.numbered;
          };
          each_seat = all_set (Fits opens moves key h' r.drawn r.made r.holder r.owner false r.known) s.views id w
              record {
                seen = subst (λ l. StartsWith h' l) (sym seen) (starts_all h');
                gone = λ n. absurd (cc);
                live = λ u a. let l = mine.live u a in (l.0, l.1, l.2, calls_own me.0.caller e h ∙ ap (λ c. c ++ e ∷ []) l.3);
                waiting = λ u a. absurd (cc);
                in_turn = λ a. absurd (cc);
                first = mine.first;
              }
              (λ j d n a. let f = r.each_seat j d a in record {
                seen = starts_more h d.seen (turn_by me.0.caller e ∷ []) f.seen;
                gone = f.gone;
                live = λ u b. let l = f.live u b in (l.0, l.1, l.2, others d.caller (λ same. let eq : Some j ≡ Some id = sym l.2 ∙ same in n (cc)) ∙ l.3);
                waiting = λ u b. let o = f.waiting u b in
                    let not_this : u ≢ length h = λ same. n (sym o.2 ∙ (ap r.holder same ∙ mine_now.1)) in (omega arith, o.1, o.2);
                in_turn = λ b. absurd (n (sym (f.in_turn b).1 ∙ mine_now.1));
                first = f.first;
              });
          covered = λ c m. covered_set c s.views r.known id me.0 w at refl refl (r.covered c m);
          longest = inl (id, w, here, seen);
        },
        λ e' same. let eq : Some e ≡ Some e' = sym tells ∙ same in let is_e : e ≡ e' = cc in λ i. (told me.0 (is_e i), rest me.1),
      )

  -- what the slot lends is what the look found
  pub changed : (m m1 : Me S V) (t : Taken opens moves m m1) (x x1 : S) (e : Turn E) → m1.1 ≡ (0, x) ∷ rest m1.1 → moves x e x1 → moves t.1 e x1
  changed m m1 t x x1 e is change = subst (λ z. moves z e x1) (sym (ap (λ (l : List (ℕ × S)). (get_or l 0 (0, x)).1) (sym (ap (λ (z : Me S V). z.1) t.4) ∙ is))) change

  -- between the look and the release
  module _ (m m1 : Me S V) (x1 : S) (e : E) (none : m.1 ≡ []) (t : Taken opens moves m m1) (change : moves t.1 (turn_by m.0.caller e) x1) where
    reached_on : Reached opens moves t.0 (t.2 ++ turn_by m.0.caller e ∷ []) x1
    reached_on = (t.7.0, t.7.1, runs_on moves t.7.0 t.1 x1 t.2 (turn_by m.0.caller e) t.7.2 change)

    pub may_tell : MayTell opens moves (Some e) (m1.0, (0, x1) ∷ rest m1.1)
    may_tell = subst (λ (z : Me S V). MayTell opens moves (Some e) (z.0, (0, x1) ∷ rest z.1)) (sym t.4)
        (t.0, x1, e, t.3, refl, ap (λ (l : List (ℕ × S)). (0, x1) ∷ l) none, refl, reached_on)

    pub turned : (m2 : Me S V) → m2 ≡ (told m1.0 e, []) → Turned opens moves e m.0 m2.0
    turned m2 is = subst (λ (z : V). Turned opens moves e m.0 z) (sym (ap (λ (z : Me S V). z.0) is ∙ ap (λ (z : Me S V). told z.0 e) t.4)) record {
      setting = refl;
      caller = refl;
      made = refl;
      known = refl;
      seen = (t.5.0, ap (λ l. l ++ turn_by m.0.caller e ∷ []) t.5.1);
      mine = refl;
      own = calls_own m.0.caller e t.2 ∙ ap (λ l. l ++ e ∷ []) t.6;
      legal = λ k is_k. let same : Some t.0 ≡ Some k = sym t.3 ∙ is_k in let eq : t.0 ≡ k = cc in (x1, subst (λ z. Reached opens moves z (t.2 ++ turn_by m.0.caller e ∷ []) x1) eq reached_on);
    }

    pub idle_again : (m2 : Me S V) → m2 ≡ (told m1.0 e, []) → IsLive m2.0 × (m2.1 ≡ [])
    idle_again m2 is = (
      (ap (λ (z : Me S V). z.0.stage) is, (t.0, ap (λ (z : Me S V). z.0.setting) is ∙ (ap (λ (z : Me S V). z.0.setting) t.4 ∙ t.3))),
      ap (λ (z : Me S V). z.1) is,
    )

  pub opens_so : (x : S) → opens key x → Rule (opening (0 ∷ 0 ∷ []) (x ∷ []) (maker key))
  opens_so x begins = record {
    history = [];
    drawn = 0;
    made = 0;
    holder = λ _. 0;
    owner = λ c. cond (eqb c 0) (Some 0) None;
    out = false;
    known = [];
    words = refl;
    counted = refl;
    living = refl;
    few = omega arith;
    fresh = λ c m. (ap (λ b. cond b (Some 0) None) (ne_eqb c 0 (λ e. omega arith)), refl);
    home = λ _. (x, refl, (x, begins, refl));
    busy = λ o. absurd (true≢false (sym o));
    each_known = λ j k e. absurd (some-ne-none k (sym e));
    each_seat = λ i v e. one i v e;
    covered = λ c m. inl (0, maker key, refl, omega arith, refl);
    longest = inl (0, maker key, refl, refl);
  }
    where
      one : (i : ℕ) (v : V) → get_elem? (maker key ∷ []) i ≡ some v → Fits opens moves key [] 0 0 (λ _. 0) (λ c. cond (eqb c 0) (Some 0) None) false [] i v
      one zero v e = subst (Fits opens moves key [] 0 0 (λ _. 0) (λ c. cond (eqb c 0) (Some 0) None) false [] 0) (some-injective (maker key) v e) record {
        seen = starts_none [];
        gone = λ n. absurd (cc);
        live = λ k is. (cc, omega arith, refl, refl);
        waiting = λ t n. absurd (cc);
        in_turn = λ n. absurd (cc);
        first = λ _. (refl, refl);
      }
      one (suc i) v e = absurd (some-ne-none v (sym e))

  pub splits : (v : V) → v.stage ≡ Idle → (k : K) → v.setting ≡ Some k → v.made < 4294967296 → Splits Rule 0 v (one_more v) (newcomer v)
  splits v idle k is room s r at =
      let h = r.history in
      let l : V = one_more v in
      let n : V = newcomer v in
      let vs : List V = set s.views 0 l in
      let vs' : List V = vs ++ n ∷ [] in
      let mine = r.each_seat 0 v at in
      let first = mine.first refl in
      let made : v.made ≡ r.made = first.0 in
      let owner : ℕ → Option ℕ = λ c. cond (eqb c (r.made + 1)) (Some (length vs)) (r.owner c) in
      let as_before : (c : ℕ) → c ≢ r.made + 1 → owner c ≡ r.owner c = λ c ne. ap (λ b. cond b (Some (length vs)) (r.owner c)) (ne_eqb c (r.made + 1) ne) in
      let few = r.few in
      let in_list = inside s.views 0 v at in
      let in_vs : 0 < length vs = inside vs 0 l (set_here s.views 0 l in_list) in
      let F : ℕ → V → Type 0 = Fits opens moves key h r.drawn (r.made + 1) r.holder owner r.out r.known in
      record {
        history = h;
        drawn = r.drawn;
        made = r.made + 1;
        holder = r.holder;
        owner = owner;
        out = r.out;
        known = r.known;
        words = r.words;
        counted = let c = r.counted in let a = total_set waiting_of s.views 0 v l at in let b = total_snoc waiting_of vs n in omega arith;
        living = let c = r.living in let a = total_set living_of s.views 0 v l at in let b = total_snoc living_of vs n in let one : lives v.setting ≡ 1 = ap lives is in omega arith;
        few = omega arith;
        fresh = λ c m. let f = r.fresh c (omega arith) in (as_before c (λ e. omega arith) ∙ f.0, f.1);
        home = r.home;
        busy = λ out. let b = r.busy out in
            let apart : r.holder (length h) ≢ 0 = λ e. let same : v ≡ b.0 = same_at s.views 0 v b.0 at (subst (λ z. get_elem? s.views z ≡ some b.0) e b.1) in
            let no : Idle ≡ Serving = sym idle ∙ (ap (λ (y : V). y.stage) same ∙ b.2) in cc in
            (b.0, at_longer vs (n ∷ []) (r.holder (length h)) b.0 (set_else s.views 0 (r.holder (length h)) l apart ∙ b.1), b.2);
        each_known = λ j u a. let f = r.each_known j u a in let numbered = f.numbered in record {
          seen = f.seen;
          mine = f.mine;
          gone = as_before u.caller (λ e. omega arith) ∙ f.gone;
          numbered = omega arith;
        };
        each_seat = λ j d e. ⊎_elim
            (all_set F s.views 0 l
            record {
              seen = mine.seen;
              gone = λ no. absurd (cc);
              live = λ k' is'. let o = mine.live k' is' in let numbered = o.1 in (o.0, omega arith, as_before v.caller (λ e. omega arith) ∙ o.2, o.3);
              waiting = mine.waiting;
              in_turn = mine.in_turn;
              first = λ _. (ap (λ m. m + 1) made, first.1);
            }
            (λ i u apart a. let f = r.each_seat i u a in record {
              seen = f.seen;
              gone = f.gone;
              live = λ k' is'. let o = f.live k' is' in let numbered = o.1 in (o.0, omega arith, as_before u.caller (λ e. omega arith) ∙ o.2, o.3);
              waiting = f.waiting;
              in_turn = f.in_turn;
              first = λ z. absurd (apart z);
            }) j d)
            (λ (t : (j ≡ length vs) × (n ≡ d)). subst (λ (z : ℕ × V). F z.0 z.1) (λ i. (sym t.0 i, t.1 i)) record {
              seen = mine.seen;
              gone = λ no. absurd (cc);
              live = λ k' is'. let o = mine.live k' is' in
                  (o.0, omega arith, ap (λ b. cond b (Some (length vs)) (r.owner (v.made + 1))) (eq-eqb (v.made + 1) (r.made + 1) (omega arith)), (r.fresh (v.made + 1) (omega arith)).1);
              waiting = λ u no. absurd (cc);
              in_turn = λ no. absurd (cc);
              first = λ z. absurd (omega arith);
            })
            (at_snoc vs n d j e);
        covered = λ c m. dite (ℕ_discrete c (r.made + 1))
            (λ new. inl (length vs, n, at_last vs n (length vs) refl, omega arith, ap lives is))
            (λ old. ⊎_elim (λ (o : (i : ℕ) × (u : V) × (get_elem? vs i ≡ some u) × (u.caller ≡ c) × (lives u.setting ≡ 1)). inl (o.0, o.1, at_longer vs (n ∷ []) o.0 o.1 o.2, o.3, o.4)) inr
            (covered_set c s.views r.known 0 v l at refl refl (r.covered c (omega arith))));
        longest = ⊎_elim (λ (o : (i : ℕ) × (u : V) × (get_elem? vs i ≡ some u) × (u.seen ≡ h)). inl (o.0, o.1, at_longer vs (n ∷ []) o.0 o.1 o.2, o.3)) inr (longest_set h s.views r.known 0 v l at refl r.longest);
      }

  none_either : (b : Bool) (o : Option ℕ) → o ≡ None → cond b None o ≡ None
  none_either true o e = refl
  none_either false o e = e

  pub joins : (v : V) (other : ℕ) (w : V) → v.stage ≡ Idle → (k : K) → v.setting ≡ Some k → w.stage ≡ Idle → (kw : K) → w.setting ≡ Some kw → Joins Rule 0 v other w (taking v w) gone
  joins v other w idle k is idle_w kw is_w s r at apart there =
      let h = r.history in
      let b : V = taking v w in
      let g : V = gone in
      let vs : List V = set s.views 0 b in
      let was : get_elem? s.views other ≡ some w = sym (set_else s.views 0 other b apart) ∙ there in
      let mine = r.each_seat 0 v at in
      let theirs = r.each_seat other w was in
      let mine_live = mine.live k is in
      let theirs_live = theirs.live kw is_w in
      let first = mine.first refl in
      let known : List (Known E) = r.known ++ known_of w ∷ [] in
      let owner : ℕ → Option ℕ = λ c. cond (eqb c w.caller) None (r.owner c) in
      let as_before : (c i : ℕ) → i ≢ other → r.owner c ≡ Some i → owner c ≡ Some i = λ c i ne o.
      ap (λ b. cond b None (r.owner c)) (ne_eqb c w.caller (λ same. let eq : Some i ≡ Some other = sym o ∙ (ap r.owner same ∙ theirs_live.2) in ne (cc))) ∙ o in
      let F : ℕ → V → Type 0 = Fits opens moves key h r.drawn r.made r.holder owner r.out known in
      record {
        history = h;
        drawn = r.drawn;
        made = r.made;
        holder = r.holder;
        owner = owner;
        out = r.out;
        known = known;
        words = r.words;
        counted = let c = r.counted in let x = total_set waiting_of s.views 0 v b at in let y = total_set waiting_of vs other w g there in let z : waits w.stage ≡ 0 = ap waits idle_w in omega arith;
        living = let c = r.living in let x = total_set living_of s.views 0 v b at in let y = total_set living_of vs other w g there in let z : lives w.setting ≡ 1 = ap lives is_w in
            let l : length known ≡ length r.known + 1 = length-append r.known (known_of w ∷ []) in omega arith;
        few = r.few;
        fresh = λ c m. let f = r.fresh c m in (none_either (eqb c w.caller) (r.owner c) f.0, f.1);
        home = r.home;
        busy = λ out. let u = r.busy out in let at_i = r.holder (length h) in
            let not_first : at_i ≢ 0 = λ e. let same : v ≡ u.0 = same_at s.views 0 v u.0 at (subst (λ z. get_elem? s.views z ≡ some u.0) e u.1) in
            let no : Idle ≡ Serving = sym idle ∙ (ap (λ (y : V). y.stage) same ∙ u.2) in cc in
            let not_other : at_i ≢ other = λ e. let same : w ≡ u.0 = same_at s.views other w u.0 was (subst (λ z. get_elem? s.views z ≡ some u.0) e u.1) in
            let no : Idle ≡ Serving = sym idle_w ∙ (ap (λ (y : V). y.stage) same ∙ u.2) in cc in
            (u.0, set_else vs other at_i g not_other ∙ (set_else s.views 0 at_i b not_first ∙ u.1), u.2);
        each_known = λ j u e. ⊎_elim
            (λ a. let f = r.each_known j u a in record { seen = f.seen; mine = f.mine; gone = none_either (eqb u.caller w.caller) (r.owner u.caller) f.gone; numbered = f.numbered })
            (λ (t : (j ≡ length r.known) × (known_of w ≡ u)). subst (Stood h r.made owner) t.1
            record { seen = theirs.seen; mine = theirs_live.3; gone = ap (λ b. cond b None (r.owner w.caller)) (eq-eqb w.caller w.caller refl); numbered = theirs_live.1 })
            (at_snoc r.known (known_of w) u j e);
        each_seat = all_set F vs other g
            record {
              seen = starts_none h;
              gone = λ _. (refl, refl);
              live = λ k' no. absurd (cc);
              waiting = λ t no. absurd (cc);
              in_turn = λ no. absurd (cc);
              first = λ z. absurd (apart z);
            }
            (λ j d ne e. all_set (λ j d. j ≢ other → F j d) s.views 0 b
            (λ _. record {
              seen = mine.seen;
              gone = λ no. absurd (cc);
              live = λ k' is'. let o = mine.live k' is' in (o.0, o.1, as_before v.caller 0 (λ z. apart (sym z)) o.2, o.3);
              waiting = mine.waiting;
              in_turn = λ no. absurd (cc);
              first = λ _. (first.0, ap (λ l. l ++ known_of w ∷ []) first.1);
            })
            (λ i u not_first a not_other. let f = r.each_seat i u a in record {
              seen = f.seen;
              gone = f.gone;
              live = λ k' is'. let o = f.live k' is' in (o.0, o.1, as_before u.caller i not_other o.2, o.3);
              waiting = f.waiting;
              in_turn = f.in_turn;
              first = λ z. absurd (not_first z);
            }) j d e ne);
        covered = λ c m. ⊎_elim
            (λ (o : (i : ℕ) × (u : V) × (get_elem? s.views i ≡ some u) × (u.caller ≡ c) × (lives u.setting ≡ 1)). dite (ℕ_discrete o.0 0)
            (λ z. let same : v ≡ o.1 = same_at s.views 0 v o.1 at (subst (λ q. get_elem? s.views q ≡ some o.1) z o.2) in
            inl (0, b, set_else vs other 0 g (λ y. apart (sym y)) ∙ set_here s.views 0 b (inside s.views 0 v at), ap (λ (y : V). y.caller) same ∙ o.3, ap lives is))
            (λ not_first. dite (ℕ_discrete o.0 other)
            (λ z. let same : w ≡ o.1 = same_at s.views other w o.1 was (subst (λ q. get_elem? s.views q ≡ some o.1) z o.2) in
            inr (length r.known, known_of w, at_last r.known (known_of w) (length r.known) refl, ap (λ (y : V). y.caller) same ∙ o.3))
            (λ not_other. inl (o.0, o.1, set_else vs other o.0 g not_other ∙ (set_else s.views 0 o.0 b not_first ∙ o.2), o.3, o.4))))
            (λ (o : (j : ℕ) × (u : Known E) × (get_elem? r.known j ≡ some u) × (u.caller ≡ c)). inr (o.0, o.1, at_longer r.known (known_of w ∷ []) o.0 o.1 o.2, o.3))
            (r.covered c m);
        longest = ⊎_elim
            (λ (o : (i : ℕ) × (u : V) × (get_elem? s.views i ≡ some u) × (u.seen ≡ h)). dite (ℕ_discrete o.0 0)
            (λ z. let same : v ≡ o.1 = same_at s.views 0 v o.1 at (subst (λ q. get_elem? s.views q ≡ some o.1) z o.2) in
            inl (0, b, set_else vs other 0 g (λ y. apart (sym y)) ∙ set_here s.views 0 b (inside s.views 0 v at), ap (λ (y : V). y.seen) same ∙ o.3))
            (λ not_first. dite (ℕ_discrete o.0 other)
            (λ z. let same : w ≡ o.1 = same_at s.views other w o.1 was (subst (λ q. get_elem? s.views q ≡ some o.1) z o.2) in
            inr (length r.known, known_of w, at_last r.known (known_of w) (length r.known) refl, ap (λ (y : V). y.seen) same ∙ o.3))
            (λ not_other. inl (o.0, o.1, set_else vs other o.0 g not_other ∙ (set_else s.views 0 o.0 b not_first ∙ o.2), o.3))))
            (λ (o : (j : ℕ) × (u : Known E) × (get_elem? r.known j ≡ some u) × (u.seen ≡ h)). inr (o.0, o.1, at_longer r.known (known_of w ∷ []) o.0 o.1 o.2, o.3))
            r.longest;
      }

  none_of : {X : Type 0} (o : Option X) → lives o ≡ 0 → o ≡ None
  none_of None e = refl
  none_of (Some x) e = absurd (omega arith)

  -- the first seat has all others back, so no seat is in turn, and the object is at home
  pub ends : (s : State S V) (r : Rule s) (v : V) → get_elem? s.views 0 ≡ some v → v.stage ≡ Idle → (k : K) → v.setting ≡ Some k → length v.known ≡ v.made
      → (y : S) × (get_elem? s.homes 0 ≡ some (some y)) × Ended opens moves y v
  ends s r v at idle k is back =
      let mine = r.each_seat 0 v at in
      let live = mine.live k is in
      let first = mine.first refl in
      let one : total living_of s.views ≡ 1 = let l = r.living in let m : v.made ≡ r.made = first.0 in let e : length v.known ≡ length r.known = ap length first.1 in omega arith in
      let others : (i : ℕ) (u : V) → i ≢ 0 → get_elem? s.views i ≡ some u → u.setting ≡ None = λ i u ne a.
      none_of u.setting (let t = terms_le living_of s.views 0 i v u ne at a in let m : lives v.setting ≡ 1 = ap lives is in omega arith) in
      let at_home : r.out ≡ false = is_false r.out (λ o. let u = r.busy o in let i = r.holder (length r.history) in dite (ℕ_discrete i 0)
      (λ z. let same : v ≡ u.0 = same_at s.views 0 v u.0 at (subst (λ q. get_elem? s.views q ≡ some u.0) z u.1) in
      let no : Idle ≡ Serving = sym idle ∙ (ap (λ (y : V). y.stage) same ∙ u.2) in cc)
      (λ ne. let no : Idle ≡ Serving = sym ((r.each_seat i u.0 u.1).gone (others i u.0 ne u.1)).0 ∙ u.2 in cc)) in
      let object = r.home at_home in (
        object.0,
        object.1,
        (
          r.history,
          record {
            reached = λ k' is'. subst (λ z. Reached opens moves z r.history object.0) (sym (mine.live k' is').0) object.2;
            seen = mine.seen;
            own = live.3;
            others = λ j u a. let f = r.each_known j u (subst (λ ks. get_elem? ks j ≡ some u) first.1 a) in (f.seen, f.mine);
            nobody = λ c m. (r.fresh c (let e : v.made ≡ r.made = first.0 in omega arith)).1;
            all = λ c m. ⊎_elim
                (λ (o : (i : ℕ) × (u : V) × (get_elem? s.views i ≡ some u) × (u.caller ≡ c) × (lives u.setting ≡ 1)). dite (ℕ_discrete o.0 0)
                (λ z. inl (ap (λ (y : V). y.caller) (same_at s.views 0 v o.1 at (subst (λ q. get_elem? s.views q ≡ some o.1) z o.2)) ∙ o.3))
                (λ ne. let none : lives o.1.setting ≡ 0 = ap lives (others o.0 o.1 ne o.2) in let some_ = o.4 in absurd (omega arith)))
                (λ (o : (j : ℕ) × (u : Known E) × (get_elem? r.known j ≡ some u) × (u.caller ≡ c)). inr (o.0, o.1, subst (λ ks. get_elem? ks o.0 ≡ some o.1) (sym first.1) o.2, o.3))
                (r.covered c (let e : v.made ≡ r.made = first.0 in omega arith));
            longest = ⊎_elim
                (λ (o : (i : ℕ) × (u : V) × (get_elem? s.views i ≡ some u) × (u.seen ≡ r.history)). inl (dite (ℕ_discrete o.0 0)
                (λ z. ap (λ (y : V). y.seen) (same_at s.views 0 v o.1 at (subst (λ q. get_elem? s.views q ≡ some o.1) z o.2)) ∙ o.3)
                (λ ne. let none : [] ≡ r.history = sym ((r.each_seat o.0 o.1 o.2).gone (others o.0 o.1 ne o.2)).1 ∙ o.3 in
                starts_whole r.history v.seen mine.seen (let m : 0 ≡ length r.history = ap length none in omega arith))))
                (λ (o : (j : ℕ) × (u : Known E) × (get_elem? r.known j ≡ some u) × (u.seen ≡ r.history)). inr (o.0, o.1, subst (λ ks. get_elem? ks o.0 ≡ some o.1) (sym first.1) o.2, o.3))
                r.longest;
          },
        ),
      )
