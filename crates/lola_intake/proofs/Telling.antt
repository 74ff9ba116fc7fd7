-- What seats show.
use Rattle.std.proofs.Common.{◌≡◌, ◌<◌, ◌≤◌, ◌+◌, ℕ, zero, suc, false, List, [], ◌∷◌, ◌++◌, map, length, slice_get, get_or, inl, inr, ⊎_elim, Some, sym, refl, ap, ◌∙◌, subst, arith}
use Rattle.std.specs.List.{All}
use Rattle.std.proofs.lemmas.List.{length-map}
use mathlib.Core.Option.{some, some-injective, some-ne-none}
use lib.ListN.{get_elem?}
use Rattle.atomic_table.specs.Seated.{TableId}
use Rattle.lola_intake.specs.declared.view.View.{View}
use Rattle.lola_intake.specs.declared.view.Known.{Known}
use Rattle.lola_intake.specs.Turns.{calls_by, StartsWith, Turned, maker, newcomer, Ended}
use Rattle.lola_intake.specs.declared.event.Setting.{Setting}
use Rattle.lola_model.specs.declared.journal.Entry.{Entry}
use Rattle.lola_intake.specs.declared.event.Event.{Event}
use Rattle.lola_merge.specs.Merging.{Merging}
use Rattle.lola_model.specs.Journal.{opening_time, IsLegalFrom}
use Rattle.lola_intake.specs.Histories.{Begins, Changes, events, entries, taken, entries_of, has_finish, times, Rises, EndsDone, FinishesLast}
use Rattle.lola_intake.proofs.Laws.{flows, marks, first_took, of_own, all_in, times_rise, all_false, long_as}
use Rattle.lola_intake.proofs.Ending.{all_theirs, each_finished, IsAmong, none_past}
use Rattle.lola_intake.specs.Intakes.{Shown, shown, setting_or, setting_of, new_seat, Told, Whole}
use mathlib.Core.Logic.{dite}
use native.Mathlib.Decide.{ℕ_discrete}

pub tells : (id id' : TableId) (source : ℕ) (v v' : View Setting Event) (e : Event) → (k : Setting) → v.setting ≡ Some k → Turned Begins Changes e v v' → id' ≡ id → Told e (shown id source v) (shown id' source v')
tells id id' source v v' e k is t same = let legal = t.legal (setting_of v) (is ∙ ap Some (sym (ap setting_or is))) in let r = legal.1 in record {
  intake = same;
  setting = ap setting_or t.setting;
  caller = t.caller;
  source = refl;
  legal = legal;
  seen = t.seen;
  own = t.own;
  mine = t.mine;
  times = subst (λ (l : List Event). Rises (opening_time (setting_of v).start) (times l)) t.own (subst (λ (y : Merging). Rises y.merged (times (calls_by v.caller v'.seen))) r.1 (times_rise v.caller v'.seen r.0 legal.0 r.2));
}

-- the engine's view once it has made n seats
abbrev pub made_so_far : Setting → ℕ → View Setting Event
made_so_far k n = record (maker k) { made = n }

-- what the engine knows of a seat that it took back
abbrev pub knows : Shown → Known Event
knows p = record { caller = p.caller; seen = p.seen; mine = p.mine }

pub get_mid : (xs ys : List Shown) (p : Shown) → slice_get (xs ++ p ∷ ys) (length xs) ≡ Some p
get_mid [] ys p = refl
get_mid (x ∷ xs) ys p = get_mid xs ys p

pub get_there : (xs : List Shown) (s : ℕ) (p : Shown) → slice_get xs s ≡ Some p → get_elem? (map knows xs) s ≡ some (knows p)
get_there [] s p e = absurd (cc)
get_there (x ∷ xs) zero p e = let same : x ≡ p = cc in ap (λ q. some (knows q)) same
get_there (x ∷ xs) (suc s) p e = get_there xs s p e

pub get_back : (xs : List Shown) (j : ℕ) (u : Known Event) → get_elem? (map knows xs) j ≡ some u → (p : Shown) × (slice_get xs j ≡ Some p) × (knows p ≡ u)
get_back [] j u e = absurd (some-ne-none u (sym e))
get_back (x ∷ xs) zero u e = (x, refl, some-injective (knows x) u e)
get_back (x ∷ xs) (suc j) u e = get_back xs j u e

pub none_left : (xs : List Shown) → length xs ≡ 0 → xs ≡ []
none_left [] e = refl
none_left (x ∷ xs) e = absurd (omega arith)

-- who the callers of seats are
abbrev pub callers : List Shown → List ℕ
callers seats = map (λ (p : Shown). p.caller) seats

pub among : (xs : List Shown) (s : ℕ) (p : Shown) → slice_get xs s ≡ Some p → IsAmong p.caller (callers xs)
among [] s p e = absurd (cc)
among (x ∷ xs) zero p e = let same : x ≡ p = cc in inl (ap (λ (q : Shown). q.caller) same)
among (x ∷ xs) (suc s) p e = inr (among xs s p e)

-- the engine took the seats back, and then the rows that were left
pub whole : (id : TableId) (v v0 : View Setting Event) (seats : List Shown) (m : Merging) (k : Setting) → Ended Begins Changes m v → v0.setting ≡ Some k → v.setting ≡ v0.setting → v0.caller ≡ 0
    → v.caller ≡ v0.caller → v0.made ≡ (setting_of v0).sources → v.made ≡ v0.made → v.seen ≡ v0.seen → v.mine ≡ v0.mine → v.known ≡ map knows seats
    → length seats ≡ (setting_of v0).sources → ((s : ℕ) (p : Shown) → slice_get seats s ≡ Some p → p.caller ≡ p.source + 1) → Whole (shown id 0 v0) seats m.pending
whole id v v0 seats m k (h, e) is setting zero_ caller number made seen mine known long right =
    let here : setting_of v0 ≡ k = ap setting_or is in
    let r = e.reached (setting_of v0) (setting ∙ (is ∙ ap Some (sym here))) in
    let engine_own : calls_by 0 h ≡ v0.mine = ap (λ c. calls_by c h) (sym zero_ ∙ sym caller) ∙ (e.own ∙ mine) in
    let seats_own : (s : ℕ) (p : Shown) → slice_get seats s ≡ Some p → calls_by p.caller h ≡ p.mine = λ s p at. (e.others s (knows p) (ap (λ l. get_elem? l s) known ∙ get_there seats s p at)).1 in
    let nobody : (c : ℕ) → (setting_of v0).sources < c → calls_by c h ≡ [] = λ c l. e.nobody c (subst (λ z. z < c) (sym (made ∙ number)) l) in
    let finished : length r.0.finished ≡ (setting_of v0).sources = ap (λ (y : Merging). length y.finished) r.1 ∙ long_as (setting_of v0).sources in
    let few : (s : ℕ) (p : Shown) → slice_get seats s ≡ Some p → p.source < (setting_of v0).sources = λ s p at.
    let top : p.caller ≤ (setting_of v0).sources = none_past (setting_of v0).sources (callers seats) (length-map seats (λ (q : Shown). q.caller) ∙ long)
    (λ c l le. ⊎_elim
    (λ (t : v.caller ≡ c). absurd (let z : v.caller ≡ 0 = caller ∙ zero_ in omega arith))
    (λ (t : (j : ℕ) × (u : Known Event) × (get_elem? v.known j ≡ some u) × (u.caller ≡ c)).
    let b = get_back seats t.0 t.1 (ap (λ l. get_elem? l t.0) (sym known) ∙ t.2) in
    subst (λ d. IsAmong d (callers seats)) (ap (λ (y : Known Event). y.caller) b.2 ∙ t.3) (among seats t.0 b.0 b.1))
    (e.all c (let z : v.made ≡ (setting_of v0).sources = made ∙ number in omega arith)))
    p.caller (among seats s p at) in let its : p.caller ≡ p.source + 1 = right s p at in omega arith in
    let all_rows : taken v0.mine ++ m.pending ≡ entries (events h) =
    ap (λ l. l ++ m.pending) (sym (first_took h r.0 m r.2 ∙ ap taken engine_own)) ∙ (sym (flows h r.0 m r.2) ∙ ap (λ (y : Merging). y.pending ++ entries (events h)) r.1) in
    record {
      history = h;
      legal = (m, r);
      engine_seen = subst (λ l. StartsWith h l) seen e.seen;
      engine_own = engine_own;
      seats_seen = λ s p at. (e.others s (knows p) (ap (λ l. get_elem? l s) known ∙ get_there seats s p at)).0;
      seats_own = seats_own;
      nobody = nobody;
      longest = ⊎_elim (λ (same : v.seen ≡ h). inl (sym seen ∙ same))
          (λ (o : (j : ℕ) × (u : Known Event) × (get_elem? v.known j ≡ some u) × (u.seen ≡ h)).
          let b = get_back seats o.0 o.1 (ap (λ l. get_elem? l o.0) (sym known) ∙ o.2) in inr (o.0, b.0, b.1, ap (λ (k : Known Event). k.seen) b.2 ∙ o.3))
          e.longest;
      let_in = all_rows;
      marked = subst (λ (l : List Entry). IsLegalFrom (opening_time (setting_of v0).start) l) (sym all_rows) (subst (λ (y : Merging). IsLegalFrom y.merged (entries (events h))) r.1 (marks h r.0 m r.2));
      sources = λ s p at. ap (entries_of p.source) all_rows ∙ (of_own p.source h r.0 m r.2 ∙ ap entries (ap (λ c. calls_by c h) (sym (right s p at)) ∙ seats_own s p at));
      theirs = subst (All (λ (e : Entry). e.row.source < (setting_of v0).sources)) (sym all_rows) (all_theirs (setting_of v0).sources h r.0 m r.2 nobody);
      finished = λ ends s p at. ap (λ l. has_finish l p.source) (sym (seats_own s p at) ∙ ap (λ c. calls_by c h) (right s p at))
          ∙ each_finished h r.0 m r.2 (λ s. ap (λ (y : Merging). get_or y.finished s false) r.1 ∙ all_false (setting_of v0).sources s) (subst (λ l. EndsDone l false) (sym engine_own) ends)
          p.source (let l : p.source < (setting_of v0).sources = few s p at in let n : length r.0.finished ≡ (setting_of v0).sources = finished in omega arith);
      done = λ ends last. all_in h r.0 m r.2 (subst (λ l. EndsDone l false) (sym engine_own) ends)
          (λ s l. inr (
            ap (λ (y : Merging). get_or y.finished s false) r.1 ∙ all_false (setting_of v0).sources s,
            ⊎_elim
                (λ (t : v.caller ≡ s + 1). absurd (let z : v.caller ≡ 0 = caller ∙ zero_ in omega arith))
                (λ (t : (j : ℕ) × (u : Known Event) × (get_elem? v.known j ≡ some u) × (u.caller ≡ s + 1)).
                let b = get_back seats t.0 t.1 (ap (λ l. get_elem? l t.0) (sym known) ∙ t.2) in
                subst FinishesLast (sym (seats_own t.0 b.0 b.1) ∙ ap (λ c. calls_by c h) (ap (λ (y : Known Event). y.caller) b.2 ∙ t.3)) (last t.0 b.0 b.1))
                (e.all (s + 1) (let z : v.made ≡ (setting_of v0).sources = made ∙ number in let n : length r.0.finished ≡ (setting_of v0).sources = finished in omega arith)),
          ))
          (λ c l. nobody c (let n : length r.0.finished ≡ (setting_of v0).sources = finished in omega arith));
    }

pub get_more : (P : Shown → Type 0) (xs : List Shown) (x : Shown) → ((s : ℕ) (p : Shown) → slice_get xs s ≡ Some p → P p) → P x → (s : ℕ) (p : Shown) → slice_get (xs ++ x ∷ []) s ≡ Some p → P p
get_more P [] x all this zero p e = let same : x ≡ p = cc in subst P same this
get_more P [] x all this (suc s) p e = absurd (cc)
get_more P (y ∷ xs) x all this zero p e = all 0 p e
get_more P (y ∷ xs) x all this (suc s) p e = get_more P xs x (λ s p e. all (suc s) p e) this s p e

pub get_snoc : (F : ℕ → Shown) (xs : List Shown) (x : Shown) (n : ℕ) → length xs ≡ n → ((s : ℕ) → s < n → slice_get xs s ≡ Some (F s)) → x ≡ F n → (s : ℕ) → s < n + 1 → slice_get (xs ++ x ∷ []) s ≡ Some (F s)
get_snoc F xs x n long all new s l = dite (ℕ_discrete s n)
    (λ is. ap (λ k. slice_get (xs ++ x ∷ []) k) (is ∙ sym long) ∙ (get_mid xs [] x ∙ (ap Some new ∙ ap (λ k. Some (F k)) (sym is))))
    (λ ne. get_front xs x s (F s) (all s (omega arith)))
  where
    get_front : (xs : List Shown) (x : Shown) (s : ℕ) (p : Shown) → slice_get xs s ≡ Some p → slice_get (xs ++ x ∷ []) s ≡ Some p
    get_front [] x s p e = absurd (cc)
    get_front (y ∷ xs) x zero p e = e
    get_front (y ∷ xs) x (suc s) p e = get_front xs x s p e

pub seat_made : (id : TableId) (k : Setting) (n : ℕ) (v : View Setting Event) → v ≡ newcomer (made_so_far k n) → shown id n v ≡ new_seat id k (n + 1) n
seat_made id k n v e = ap (shown id n) e
