-- What holds of each legal history of the merge object.
use Rattle.std.proofs.Common.{◌≡◌, ◌≢◌, ◌+◌, ◌<◌, ◌≤◌, ℕ, zero, suc, Bool, true, false, true≢false, List, [], ◌∷◌, ◌++◌, cond, length, refl, sym, ap, ◌∙◌, subst, arith, append_assoc, append-nil, eqb, eq-eqb, ne_eqb, ◌⊎◌, inl, inr, ⊎_elim, get_or, set, length-set, get_or-set_same, get_or-set_other, add-one, length-append, replicate, le_refl, lt_of_not-le}
use mathlib.Core.Logic.{dite}
use native.Mathlib.Decide.{ℕ_discrete, dec_le}
use Rattle.lola_intake.specs.declared.view.Turn.{Turn}
use Rattle.lola_intake.specs.Turns.{turn_by, calls_by, Runs}
use Rattle.lola_model.specs.declared.journal.Row.{Row}
use Rattle.lola_model.specs.declared.journal.Entry.{Entry}
use Rattle.lola_merge.specs.declared.state.Offer.{Offer}
use Rattle.lola_merge.specs.declared.state.Offer.TheVariants as reply
use Rattle.lola_merge.specs.declared.state.Take.{Take}
use Rattle.lola_merge.specs.declared.state.Take.TheVariants.{Rows, AllDone, Nothing}
use Rattle.lola_intake.specs.declared.event.Event.{Event}
use Rattle.lola_intake.specs.declared.event.Event.TheVariants.{Offered, Finished, Took, Closed}
use Rattle.lola_merge.specs.Merging.{Merging, offer_reply, replied, take_reply, sources_of, has_finished, let_in, OfferIsDue, TakeIsDue}
use Rattle.lola_merge.proofs.Answering.{OfferFits, offer_is_due, take_is_due, none_left}
use Rattle.lola_model.specs.Journal.{opening_time, merged_from, IsLegalFrom}
use Rattle.lola_model.proofs.Journals.{merged_from-append}
use Rattle.lola_intake.specs.declared.event.Setting.{Setting}
use Rattle.lola_intake.specs.Histories.{Does, Changes, IsLegal, events, entries, taken, entries_of, waiting, has_close, has_finish, IsBack, OfferIsCaused, TakeIsCaused, told_in, times, Rises, EndsDone, FinishesLast}

-- the four ways of an offer
pub record Way (m : Merging) (row : Row) (r : Offer) (n : Merging) : Type 0 where
  pub pending : n.pending ≡ m.pending ++ let_in row r
  pub finished : n.finished ≡ m.finished
  pub closed : n.closed ≡ m.closed
  pub time : n.merged ≡ merged_from m.merged (let_in row r)
  pub grows : m.merged ≤ n.merged
  pub rises : (ts : List ℕ) → Rises n.merged ts → Rises m.merged (told_in row r ++ ts)
  pub marked : (rest : List Entry) → IsLegalFrom n.merged rest → IsLegalFrom m.merged (let_in row r ++ rest)

way : (m : Merging) (row : Row) (r : Offer) → OfferFits m row r → Way m row r (replied m row r)
way m row reply.Accepted d = record { pending = refl; finished = refl; closed = refl; time = refl; grows = d.2; rises = λ ts a. (d.2, a); marked = λ rest a. (d.2, a) }
way m row (reply.Late t) d = record {
  pending = refl;
  finished = refl;
  closed = refl;
  time = refl;
  grows = le_refl m.merged;
  rises = λ ts a. subst (λ k. Rises m.merged (k ∷ ts)) (sym d.0) (le_refl m.merged, a);
  marked = λ rest a. ((d.0, d.3), a);
}
way m row (reply.Full q) d = record { pending = sym (append-nil m.pending); finished = refl; closed = refl; time = refl; grows = le_refl m.merged; rises = λ ts a. a; marked = λ rest a. a }
way m row (reply.Closed q) d = record { pending = sym (append-nil m.pending); finished = refl; closed = refl; time = refl; grows = le_refl m.merged; rises = λ ts a. a; marked = λ rest a. a }

pub offer_way : (by : ℕ) (row : Row) (r : Offer) (m n : Merging) → Does by (Offered row r) m n → Way m row r n
offer_way by row r m n d = subst (λ (z : Offer × Merging). Way m row z.0 z.1) (λ i. (sym d.1 i, sym d.2 i)) (way m row (offer_reply m row) (offer_is_due m row))

step_flows : (by : ℕ) (e : Event) (m z : Merging) (ys : List Entry) (es : List Event) → Does by e m z → z.pending ++ entries es ≡ taken es ++ ys → m.pending ++ entries (e ∷ es) ≡ taken (e ∷ es) ++ ys
step_flows by (Offered row r) m z ys es d h = let w = offer_way by row r m z d in sym (append_assoc m.pending (let_in row r) (entries es)) ∙ (ap (λ l. l ++ entries es) (sym w.pending) ∙ h)
step_flows by (Finished s) m z ys es d h = ap (λ (k : Merging). k.pending ++ entries es) (sym d.1) ∙ h
step_flows by (Took t rows) m z ys es d h = ap (λ l. m.pending ++ l) (ap (λ (k : Merging). k.pending ++ entries es) (sym d.3) ∙ h) ∙ (sym (append_assoc m.pending (taken es) ys) ∙ ap (λ l. (l ++ taken es) ++ ys) (sym d.2))
step_flows by Closed m z ys es d h = ap (λ (k : Merging). k.pending ++ entries es) (sym d.1) ∙ h

-- the rows let in are those taken and those pending
pub flows : (h : List (Turn Event)) (m n : Merging) → Runs Changes m h n → m.pending ++ entries (events h) ≡ taken (events h) ++ n.pending
flows [] m n r = append-nil m.pending ∙ ap (λ (k : Merging). k.pending) r
flows (e ∷ es) m n (z, does, r) = step_flows e.by e.event m z n.pending (events es) does (flows es z n r)

step_marks : (by : ℕ) (e : Event) (m z : Merging) (es : List Event) → Does by e m z → IsLegalFrom z.merged (entries es) → IsLegalFrom m.merged (entries (e ∷ es))
step_marks by (Offered row r) m z es d h = (offer_way by row r m z d).marked (entries es) h
step_marks by (Finished s) m z es d h = subst (λ (k : Merging). IsLegalFrom k.merged (entries es)) d.1 h
step_marks by (Took t rows) m z es d h = subst (λ (k : Merging). IsLegalFrom k.merged (entries es)) d.3 h
step_marks by Closed m z es d h = subst (λ (k : Merging). IsLegalFrom k.merged (entries es)) d.1 h

-- each row let in has the right mark
pub marks : (h : List (Turn Event)) (m n : Merging) → Runs Changes m h n → IsLegalFrom m.merged (entries (events h))
marks [] m n r = tt
marks (e ∷ es) m n (z, does, r) = step_marks e.by e.event m z (events es) does (marks es z n r)

step_taken : (by : ℕ) (e : Event) (m z : Merging) (es cs : List Event) → Does by e m z → taken es ≡ taken cs → taken (e ∷ es) ≡ taken (cond (eqb by 0) (e ∷ cs) cs)
step_taken by (Offered row r) m z es cs d h = elim (eqb by 0) as (λ b. taken es ≡ taken (cond b (Offered row r ∷ cs) cs)) [ true ↦ h | false ↦ h ]
step_taken by (Finished s) m z es cs d h = elim (eqb by 0) as (λ b. taken es ≡ taken (cond b (Finished s ∷ cs) cs)) [ true ↦ h | false ↦ h ]
step_taken by (Took t rows) m z es cs d h = ap (λ l. rows ++ l) h ∙ ap (λ b. taken (cond b (Took t rows ∷ cs) cs)) (sym (eq-eqb by 0 d.0))
step_taken by Closed m z es cs d h = elim (eqb by 0) as (λ b. taken es ≡ taken (cond b (Closed ∷ cs) cs)) [ true ↦ h | false ↦ h ]

-- the first caller took what was taken
pub first_took : (h : List (Turn Event)) (m n : Merging) → Runs Changes m h n → taken (events h) ≡ taken (calls_by 0 h)
first_took [] m n r = refl
first_took (e ∷ es) m n (z, does, r) = step_taken e.by e.event m z (events es) (calls_by 0 es) does (first_took es z n r)

pub entries_of-append : (s : ℕ) (xs ys : List Entry) → entries_of s (xs ++ ys) ≡ entries_of s xs ++ entries_of s ys
entries_of-append s [] ys = refl
entries_of-append s (x ∷ xs) ys = elim (eqb x.row.source s) as (λ b. cond b (x ∷ entries_of s (xs ++ ys)) (entries_of s (xs ++ ys)) ≡ cond b (x ∷ entries_of s xs) (entries_of s xs) ++ entries_of s ys)
    [ true ↦ ap (λ l. x ∷ l) (entries_of-append s xs ys) | false ↦ entries_of-append s xs ys ]

nothing_either : (b : Bool) → ◌≡◌ {A = List Entry} [] (cond b [] [])
nothing_either true = refl
nothing_either false = refl

let_in_of : (s : ℕ) (row : Row) (r : Offer) (b : Bool) → eqb row.source s ≡ b → entries_of s (let_in row r) ≡ cond b (let_in row r) []
let_in_of s row reply.Accepted b e = ap (λ c. cond c (let_in row reply.Accepted) []) e
let_in_of s row (reply.Late m) b e = ap (λ c. cond c (let_in row (reply.Late m)) []) e
let_in_of s row (reply.Full q) b e = nothing_either b
let_in_of s row (reply.Closed q) b e = nothing_either b

step_source : (s by : ℕ) (e : Event) (m z : Merging) (es cs : List Event) → Does by e m z → entries_of s (entries es) ≡ entries cs → entries_of s (entries (e ∷ es)) ≡ entries (cond (eqb by (s + 1)) (e ∷ cs) cs)
step_source s by (Offered row r) m z es cs d h = entries_of-append s (let_in row r) (entries es) ∙ dite (ℕ_discrete row.source s)
    (λ is. ap (λ l. l ++ entries_of s (entries es)) (let_in_of s row r true (eq-eqb row.source s is)) ∙ (ap (λ l. let_in row r ++ l) h ∙ ap (λ b. entries (cond b (Offered row r ∷ cs) cs)) (sym (eq-eqb by (s + 1) (let b = d.0 in omega arith)))))
    (λ ne. ap (λ l. l ++ entries_of s (entries es)) (let_in_of s row r false (ne_eqb row.source s ne)) ∙ (h ∙ ap (λ b. entries (cond b (Offered row r ∷ cs) cs)) (sym (ne_eqb by (s + 1) (λ e. ne (let b = d.0 in omega arith))))))
step_source s by (Finished q) m z es cs d h = elim (eqb by (s + 1)) as (λ b. entries_of s (entries es) ≡ entries (cond b (Finished q ∷ cs) cs)) [ true ↦ h | false ↦ h ]
step_source s by (Took t rows) m z es cs d h = elim (eqb by (s + 1)) as (λ b. entries_of s (entries es) ≡ entries (cond b (Took t rows ∷ cs) cs)) [ true ↦ h | false ↦ h ]
step_source s by Closed m z es cs d h = elim (eqb by (s + 1)) as (λ b. entries_of s (entries es) ≡ entries (cond b (Closed ∷ cs) cs)) [ true ↦ h | false ↦ h ]

-- of each source the rows that its own calls let in
pub of_own : (s : ℕ) (h : List (Turn Event)) (m n : Merging) → Runs Changes m h n → entries_of s (entries (events h)) ≡ entries (calls_by (s + 1) h)
of_own s [] m n r = refl
of_own s (e ∷ es) m n (z, does, r) = step_source s e.by e.event m z (events es) (calls_by (s + 1) es) does (of_own s es z n r)

pub own_front : (c : ℕ) (e : Turn Event) (es : List (Turn Event)) → e.by ≡ c → calls_by c (e ∷ es) ≡ e.event ∷ calls_by c es
own_front c e es is = ap (λ b. cond b (e.event ∷ calls_by c es) (calls_by c es)) (eq-eqb e.by c is)

pub other_front : (c : ℕ) (e : Turn Event) (es : List (Turn Event)) → e.by ≢ c → calls_by c (e ∷ es) ≡ calls_by c es
other_front c e es ne = ap (λ b. cond b (e.event ∷ calls_by c es) (calls_by c es)) (ne_eqb e.by c ne)

pub not_its : (c : ℕ) (e : Turn Event) (es : List (Turn Event)) → calls_by c (e ∷ es) ≡ [] → e.by ≢ c
not_its c e es none is = let no : e.event ∷ calls_by c es ≡ [] = sym (own_front c e es is) ∙ none in cc

pub none_after : (c : ℕ) (e : Turn Event) (es : List (Turn Event)) → calls_by c (e ∷ es) ≡ [] → calls_by c es ≡ []
none_after c e es none = sym (other_front c e es (not_its c e es none)) ∙ none

step_quiet : (by : ℕ) (e : Event) (m z : Merging) → by ≡ 0 → Does by e m z → m.pending ≡ [] → z.pending ≡ []
step_quiet by (Offered row r) m z zero_ d h = absurd (let b = d.0 in omega arith)
step_quiet by (Finished s) m z zero_ d h = absurd (let b = d.0 in omega arith)
step_quiet by (Took t rows) m z zero_ d h = ap (λ (k : Merging). k.pending) d.3
step_quiet by Closed m z zero_ d h = ap (λ (k : Merging). k.pending) d.1 ∙ h

-- where only the first caller goes on, nothing comes in
quiet : (h : List (Turn Event)) (m n : Merging) → Runs Changes m h n → m.pending ≡ [] → ((c : ℕ) → 0 < c → calls_by c h ≡ []) → n.pending ≡ []
quiet [] m n r none only = ap (λ (k : Merging). k.pending) (sym r) ∙ none
quiet (e ∷ es) m n (z, does, r) none only = quiet es z n r (step_quiet e.by e.event m z (zero_if e.by (λ l. not_its e.by e es (only e.by l) refl)) does none) (λ c l. none_after c e es (only c l))
  where
    zero_if : (b : ℕ) → ¬ (0 < b) → b ≡ 0
    zero_if zero n = refl
    zero_if (suc b) n = absurd (n (omega arith))

pub done_is : (m : Merging) → AllDone ≡ take_reply m → (m.pending ≡ []) × ((s : ℕ) → s < sources_of m → has_finished m s ≡ true)
done_is m e = let due = subst (TakeIsDue (length m.pending) (sources_of m) (has_finished m)) (sym e) (take_is_due m) in (none_left m.pending due.0, due.1)

abbrev Source : Merging → List (Turn Event) → ℕ → Type 0
Source m h s = ((get_or m.finished s false ≡ true) × (calls_by (s + 1) h ≡ [])) ⊎ ((get_or m.finished s false ≡ false) × FinishesLast (calls_by (s + 1) h))

-- a step that changes no finished source and is of no source but this one
same_source : (m z : Merging) (e : Turn Event) (es : List (Turn Event)) (s : ℕ) → z.finished ≡ m.finished → e.by ≢ s + 1 → Source m (e ∷ es) s → Source z es s
same_source m z e es s fin ne = ⊎_elim
    (λ (t : (get_or m.finished s false ≡ true) × (calls_by (s + 1) (e ∷ es) ≡ [])). inl (ap (λ f. get_or f s false) fin ∙ t.0, none_after (s + 1) e es t.1))
    (λ (t : (get_or m.finished s false ≡ false) × FinishesLast (calls_by (s + 1) (e ∷ es))). inr (ap (λ f. get_or f s false) fin ∙ t.0, subst FinishesLast (other_front (s + 1) e es ne) t.1))

module _ (by : ℕ) (m z n : Merging) (es : List (Turn Event))
    (rec : EndsDone (calls_by 0 es) false → ((s : ℕ) → s < length z.finished → Source z es s) → ((c : ℕ) → length z.finished < c → calls_by c es ≡ []) → n.pending ≡ [])
    (calm : z.pending ≡ [] → ((c : ℕ) → 0 < c → calls_by c es ≡ []) → n.pending ≡ []) where
  abbrev Asks : Event → Type 0
  Asks ev = Does by ev m z → EndsDone (calls_by 0 (turn_by by ev ∷ es)) false → ((s : ℕ) → s < length m.finished → Source m (turn_by by ev ∷ es) s)
      → ((c : ℕ) → length m.finished < c → calls_by c (turn_by by ev ∷ es) ≡ []) → n.pending ≡ []

  on_by_first : (ev : Event) → by ≡ 0 → z.finished ≡ m.finished → EndsDone (calls_by 0 es) false → ((s : ℕ) → s < length m.finished → Source m (turn_by by ev ∷ es) s)
      → ((c : ℕ) → length m.finished < c → calls_by c (turn_by by ev ∷ es) ≡ []) → n.pending ≡ []
  on_by_first ev zero_ fin done src nobody = rec done
      (λ s l. same_source m z (turn_by by ev) es s fin (λ e. omega arith) (src s (let k : length z.finished ≡ length m.finished = ap length fin in omega arith)))
      (λ c l. none_after c (turn_by by ev) es (nobody c (let k : length z.finished ≡ length m.finished = ap length fin in omega arith)))

  step_in : (ev : Event) → Asks ev
  step_in (Offered row r) d done src nobody = let e = turn_by by (Offered row r) in let fin = (offer_way by row r m z d).finished in let k : length z.finished ≡ length m.finished = ap length fin in let b : by ≡ row.source + 1 = d.0 in
      rec (subst (λ l. EndsDone l false) (other_front 0 e es (λ q. omega arith)) done)
      (λ s l. dite (ℕ_discrete by (s + 1))
      (λ is. ⊎_elim
      (λ (t : (get_or m.finished s false ≡ true) × (calls_by (s + 1) (e ∷ es) ≡ [])). absurd (not_its (s + 1) e es t.1 is))
      (λ (t : (get_or m.finished s false ≡ false) × FinishesLast (calls_by (s + 1) (e ∷ es))). inr (ap (λ f. get_or f s false) fin ∙ t.0, subst FinishesLast (own_front (s + 1) e es is) t.1))
      (src s (omega arith)))
      (λ ne. same_source m z e es s fin ne (src s (omega arith))))
      (λ c l. none_after c e es (nobody c (omega arith)))
  step_in (Finished q) d done src nobody = let e = turn_by by (Finished q) in let fin : z.finished ≡ set m.finished q true = ap (λ (y : Merging). y.finished) d.1 in
      let k : length z.finished ≡ length m.finished = ap length fin ∙ length-set m.finished q true in let b : by ≡ q + 1 = d.0 in
      rec (subst (λ l. EndsDone l false) (other_front 0 e es (λ q. omega arith)) done)
      (λ s l. dite (ℕ_discrete by (s + 1))
      (λ is. let same : s ≡ q = omega arith in ⊎_elim
      (λ (t : (get_or m.finished s false ≡ true) × (calls_by (s + 1) (e ∷ es) ≡ [])). absurd (not_its (s + 1) e es t.1 is))
      (λ (t : (get_or m.finished s false ≡ false) × FinishesLast (calls_by (s + 1) (e ∷ es))).
      inl (ap (λ f. get_or f s false) fin ∙ (ap (λ y. get_or (set m.finished q true) y false) same ∙ get_or-set_same m.finished q true false (omega arith)), subst FinishesLast (own_front (s + 1) e es is) t.1))
      (src s (omega arith)))
      (λ ne. let apart : s ≢ q = λ same. ne (omega arith) in let kept : get_or z.finished s false ≡ get_or m.finished s false = ap (λ f. get_or f s false) fin ∙ get_or-set_other m.finished q s true false apart in ⊎_elim
      (λ (t : (get_or m.finished s false ≡ true) × (calls_by (s + 1) (e ∷ es) ≡ [])). inl (kept ∙ t.0, none_after (s + 1) e es t.1))
      (λ (t : (get_or m.finished s false ≡ false) × FinishesLast (calls_by (s + 1) (e ∷ es))). inr (kept ∙ t.0, subst FinishesLast (other_front (s + 1) e es ne) t.1))
      (src s (omega arith))))
      (λ c l. none_after c e es (nobody c (omega arith)))
  step_in (Took AllDone rows) d done src nobody = let e = turn_by by (Took AllDone rows) in let is = done_is m d.1 in
      calm (ap (λ (y : Merging). y.pending) d.3) (λ c l. none_after c e es (by_number c l))
    where
      by_number : (c : ℕ) → 0 < c → calls_by c (turn_by by (Took AllDone rows) ∷ es) ≡ []
      by_number zero l = absurd (omega arith)
      by_number (suc s) l = dite (dec_le (suc s) (length m.finished))
          (λ in_. subst (λ c. calls_by c (turn_by by (Took AllDone rows) ∷ es) ≡ []) (add-one s) (⊎_elim
          (λ (t : (get_or m.finished s false ≡ true) × (calls_by (s + 1) (turn_by by (Took AllDone rows) ∷ es) ≡ [])). t.1)
          (λ (t : (get_or m.finished s false ≡ false) × FinishesLast (calls_by (s + 1) (turn_by by (Took AllDone rows) ∷ es))).
          absurd (true≢false (sym ((done_is m d.1).1 s (omega arith)) ∙ t.0)))
          (src s (omega arith))))
          (λ out. nobody (suc s) (lt_of_not-le out))
  step_in (Took (Rows k) rows) d done src nobody = on_by_first (Took (Rows k) rows) d.0 (ap (λ (y : Merging). y.finished) d.3)
      (subst (λ l. EndsDone l false) (own_front 0 (turn_by by (Took (Rows k) rows)) es d.0) done) src nobody
  step_in (Took Nothing rows) d done src nobody = on_by_first (Took Nothing rows) d.0 (ap (λ (y : Merging). y.finished) d.3)
      (subst (λ l. EndsDone l false) (own_front 0 (turn_by by (Took Nothing rows)) es d.0) done) src nobody
  step_in Closed d done src nobody = on_by_first Closed d.0 (ap (λ (y : Merging). y.finished) d.1)
      (subst (λ l. EndsDone l false) (own_front 0 (turn_by by Closed) es d.0) done) src nobody

-- where the last take answered that all is done, and each source's last call is its only finish, nothing is pending
pub all_in : (h : List (Turn Event)) (m n : Merging) → Runs Changes m h n → EndsDone (calls_by 0 h) false → ((s : ℕ) → s < length m.finished → Source m h s) → ((c : ℕ) → length m.finished < c → calls_by c h ≡ []) → n.pending ≡ []
all_in [] m n r done src nobody = absurd (true≢false (sym done))
all_in (e ∷ es) m n (z, does, r) done src nobody = step_in e.by m z n es (all_in es z n r) (quiet es z n r) e.event does done src nobody

rises_from : (a b : ℕ) (ts : List ℕ) → a ≤ b → Rises b ts → Rises a ts
rises_from a b [] le r = tt
rises_from a b (t ∷ ts) le r = let l = r.0 in (omega arith, r.1)

step_times : (c by : ℕ) (e : Event) (m z : Merging) (cs : List Event) → Does by e m z → Rises z.merged (times cs) → Rises m.merged (times (cond (eqb by c) (e ∷ cs) cs))
step_times c by (Offered row r) m z cs d h = let w = offer_way by row r m z d in elim (eqb by c) as (λ b. Rises m.merged (times (cond b (Offered row r ∷ cs) cs)))
    [ true ↦ w.rises (times cs) h | false ↦ rises_from m.merged z.merged (times cs) w.grows h ]
step_times c by (Finished s) m z cs d h = elim (eqb by c) as (λ b. Rises m.merged (times (cond b (Finished s ∷ cs) cs)))
    [ true ↦ subst (λ (k : Merging). Rises k.merged (times cs)) d.1 h | false ↦ subst (λ (k : Merging). Rises k.merged (times cs)) d.1 h ]
step_times c by (Took t rows) m z cs d h = elim (eqb by c) as (λ b. Rises m.merged (times (cond b (Took t rows ∷ cs) cs)))
    [ true ↦ subst (λ (k : Merging). Rises k.merged (times cs)) d.3 h | false ↦ subst (λ (k : Merging). Rises k.merged (times cs)) d.3 h ]
step_times c by Closed m z cs d h = elim (eqb by c) as (λ b. Rises m.merged (times (cond b (Closed ∷ cs) cs)))
    [ true ↦ subst (λ (k : Merging). Rises k.merged (times cs)) d.1 h | false ↦ subst (λ (k : Merging). Rises k.merged (times cs)) d.1 h ]

-- a caller is never told an earlier merged time than before
pub times_rise : (c : ℕ) (h : List (Turn Event)) (m n : Merging) → Runs Changes m h n → Rises m.merged (times (calls_by c h))
times_rise c [] m n r = tt
times_rise c (e ∷ es) m n (z, does, r) = step_times c e.by e.event m z (calls_by c es) does (times_rise c es z n r)

-- a history is run call by call
pub runs_split : (h : List (Turn Event)) (e : Turn Event) (m n : Merging) → Runs Changes m (h ++ e ∷ []) n → (z : Merging) × Runs Changes m h z × Changes z e n
runs_split [] e m n r = (m, refl, subst (λ (y : Merging). Changes m e y) r.2 r.1)
runs_split (x ∷ h) e m n r = let s = runs_split h e r.0 n r.2 in (s.0, (r.0, r.1, s.1), s.2)

true_either : (b : Bool) → cond b true true ≡ true
true_either true = refl
true_either false = refl

itself : (b : Bool) → cond b true false ≡ b
itself true = refl
itself false = refl

step_closed : (by : ℕ) (e : Event) (m z : Merging) (es : List Event) → Does by e m z → cond z.closed true (has_close es) ≡ cond m.closed true (has_close (e ∷ es))
step_closed by (Offered row r) m z es d = ap (λ b. cond b true (has_close es)) (offer_way by row r m z d).closed
step_closed by (Finished s) m z es d = ap (λ (k : Merging). cond k.closed true (has_close es)) d.1
step_closed by (Took t rows) m z es d = ap (λ (k : Merging). cond k.closed true (has_close es)) d.3
step_closed by Closed m z es d = ap (λ (k : Merging). cond k.closed true (has_close es)) d.1 ∙ sym (true_either m.closed)

-- it is closed where it was, or somebody closed
closed_after : (h : List (Turn Event)) (m n : Merging) → Runs Changes m h n → n.closed ≡ cond m.closed true (has_close (events h))
closed_after [] m n r = ap (λ (k : Merging). k.closed) (sym r) ∙ sym (itself m.closed)
closed_after (e ∷ es) m n (z, does, r) = closed_after es z n r ∙ step_closed e.by e.event m z (events es) does

step_merged : (by : ℕ) (e : Event) (m z : Merging) (es : List Event) → Does by e m z → merged_from z.merged (entries es) ≡ merged_from m.merged (entries (e ∷ es))
step_merged by (Offered row r) m z es d = ap (λ t. merged_from t (entries es)) (offer_way by row r m z d).time ∙ sym (merged_from-append m.merged (let_in row r) (entries es))
step_merged by (Finished s) m z es d = ap (λ (k : Merging). merged_from k.merged (entries es)) d.1
step_merged by (Took t rows) m z es d = ap (λ (k : Merging). merged_from k.merged (entries es)) d.3
step_merged by Closed m z es d = ap (λ (k : Merging). merged_from k.merged (entries es)) d.1

-- the merged time is that of what was let in
merged_after : (h : List (Turn Event)) (m n : Merging) → Runs Changes m h n → n.merged ≡ merged_from m.merged (entries (events h))
merged_after [] m n r = ap (λ (k : Merging). k.merged) (sym r)
merged_after (e ∷ es) m n (z, does, r) = merged_after es z n r ∙ step_merged e.by e.event m z (events es) does

-- how many rows are pending
waiting_after : (h : List (Turn Event)) (m n : Merging) → Runs Changes m h n → m.pending ≡ [] → length n.pending ≡ waiting (events h)
waiting_after h m n r none = let all : entries (events h) ≡ taken (events h) ++ n.pending = ap (λ l. l ++ entries (events h)) (sym none) ∙ flows h m n r in
    let counted = ap length all in omega (arith, counted, length-append (taken (events h)) n.pending)

step_finished : (s by : ℕ) (e : Event) (m z : Merging) (es : List Event) → Does by e m z → s < sources_of m
    → cond (has_finished z s) true (has_finish es s) ≡ cond (has_finished m s) true (has_finish (e ∷ es) s)
step_finished s by (Offered row r) m z es d l = ap (λ f. cond (get_or f s false) true (has_finish es s)) (offer_way by row r m z d).finished
step_finished s by (Finished q) m z es d l = ap (λ (k : Merging). cond (get_or k.finished s false) true (has_finish es s)) d.1 ∙ dite (ℕ_discrete s q)
    (λ same. ap (λ b. cond b true (has_finish es s)) (ap (λ k. get_or (set m.finished k true) s false) (sym same) ∙ get_or-set_same m.finished s true false l)
    ∙ (sym (true_either (has_finished m s)) ∙ ap (λ b. cond (has_finished m s) true (cond b true (has_finish es s))) (sym (eq-eqb q s (sym same)))))
    (λ apart. ap (λ b. cond b true (has_finish es s)) (get_or-set_other m.finished q s true false apart)
    ∙ ap (λ b. cond (has_finished m s) true (cond b true (has_finish es s))) (sym (ne_eqb q s (λ e. apart (sym e)))))
step_finished s by (Took t rows) m z es d l = ap (λ (k : Merging). cond (get_or k.finished s false) true (has_finish es s)) d.3
step_finished s by Closed m z es d l = ap (λ (k : Merging). cond (get_or k.finished s false) true (has_finish es s)) d.1

pub step_sources : (by : ℕ) (e : Event) (m z : Merging) → Does by e m z → sources_of z ≡ sources_of m
step_sources by (Offered row r) m z d = ap length (offer_way by row r m z d).finished
step_sources by (Finished q) m z d = ap sources_of d.1 ∙ length-set m.finished q true
step_sources by (Took t rows) m z d = ap sources_of d.3
step_sources by Closed m z d = ap sources_of d.1

-- no call changes the number of sources
pub sources_after : (h : List (Turn Event)) (m n : Merging) → Runs Changes m h n → sources_of n ≡ sources_of m
sources_after [] m n r = ap sources_of (sym r)
sources_after (e ∷ es) m n (z, does, r) = sources_after es z n r ∙ step_sources e.by e.event m z does

-- a source has finished where it had, or where it finished
pub finished_after : (s : ℕ) (h : List (Turn Event)) (m n : Merging) → Runs Changes m h n → s < sources_of m → has_finished n s ≡ cond (has_finished m s) true (has_finish (events h) s)
finished_after s [] m n r l = ap (λ (k : Merging). has_finished k s) (sym r) ∙ sym (itself (has_finished m s))
finished_after s (e ∷ es) m n (z, does, r) l = finished_after s es z n r (let k = step_sources e.by e.event m z does in omega arith) ∙ step_finished s e.by e.event m z (events es) does l

pub all_false : (n s : ℕ) → get_or (replicate n false) s false ≡ false
all_false zero s = refl
all_false (suc n) zero = refl
all_false (suc n) (suc s) = all_false n s

pub long_as : (n : ℕ) → length (replicate n false) ≡ n
long_as zero = refl
long_as (suc n) = ap suc (long_as n)

-- where a legal history ends with an answered offer, the answer has its cause in what is before
pub offer_caused : (k : Setting) (before : List (Turn Event)) (c : ℕ) (row : Row) (r : Offer) → IsLegal k (before ++ turn_by c (Offered row r) ∷ []) → OfferIsCaused k (events before) row r
offer_caused k before c row r (n, reached) =
    let x = reached.0 in
    let begins = reached.1 in
    let runs = reached.2 in
    let s = runs_split before (turn_by c (Offered row r)) x n runs in
    let due : OfferFits s.0 row r = subst (OfferFits s.0 row) (sym s.2.1) (offer_is_due s.0 row) in
    let closed : s.0.closed ≡ has_close (events before) = closed_after before x s.0 s.1 ∙ ap (λ (z : Merging). cond z.closed true (has_close (events before))) begins in
    let few : length s.0.pending ≡ waiting (events before) = waiting_after before x s.0 s.1 (ap (λ (z : Merging). z.pending) begins) in
    let time : s.0.merged ≡ merged_from (opening_time k.start) (entries (events before)) = merged_after before x s.0 s.1 ∙ ap (λ (z : Merging). merged_from z.merged (entries (events before))) begins in
    subst (λ (z : Bool × (ℕ × ℕ)). OfferIsDue z.0 z.1.0 z.1.1 row r) (λ i. (closed i, (few i, time i))) due

-- a row that is not let in comes back
pub is_back : (k : Setting) (before : List Event) (row : Row) (r : Offer) → OfferIsCaused k before row r → IsBack r row
is_back k before row reply.Accepted d = tt
is_back k before row (reply.Late t) d = tt
is_back k before row (reply.Full q) d = d.0
is_back k before row (reply.Closed q) d = d.0

take_moves : (a b : ℕ) (m n : ℕ) (f g : ℕ → Bool) (t : Take) → a ≡ b → m ≡ n → ((s : ℕ) → s < n → f s ≡ g s) → TakeIsDue a m f t → TakeIsDue b n g t
take_moves a b m n f g (Rows k) e l same d = (d.0 ∙ e, d.1)
take_moves a b m n f g AllDone e l same d = (sym e ∙ d.0, λ s k. sym (same s k) ∙ d.1 s (omega arith))
take_moves a b m n f g Nothing e l same d = let k = d.1.1 in let k' : d.1.0 < n = omega arith in (sym e ∙ d.0, (d.1.0, k', sym (same d.1.0 k') ∙ d.1.2))

-- so has the answer to a take
pub take_caused : (k : Setting) (before : List (Turn Event)) (c : ℕ) (t : Take) (rows : List Entry) → IsLegal k (before ++ turn_by c (Took t rows) ∷ []) → TakeIsCaused k (events before) t
take_caused k before c t rows (n, reached) =
    let x = reached.0 in
    let begins = reached.1 in
    let runs = reached.2 in
    let s = runs_split before (turn_by c (Took t rows)) x n runs in
    let few : length s.0.pending ≡ waiting (events before) = waiting_after before x s.0 s.1 (ap (λ (z : Merging). z.pending) begins) in
    let many : sources_of x ≡ k.sources = ap sources_of begins ∙ long_as k.sources in
    take_moves (length s.0.pending) (waiting (events before)) (sources_of s.0) k.sources (has_finished s.0) (has_finish (events before)) t few (sources_after before x s.0 s.1 ∙ many)
    (λ q l. finished_after q before x s.0 s.1 (omega arith) ∙ ap (λ b. cond b true (has_finish (events before) q)) (ap (λ (z : Merging). has_finished z q) begins ∙ all_false k.sources q))
    (subst (TakeIsDue (length s.0.pending) (sources_of s.0) (has_finished s.0)) (sym s.2.1) (take_is_due s.0))
