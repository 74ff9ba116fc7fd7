-- What is known once every source has finished, and of whom the rows are.
use Rattle.std.proofs.Common.{◌≡◌, ◌+◌, ◌<◌, ◌≤◌, ℕ, zero, suc, Bool, true, false, true≢false, List, [], ◌∷◌, ◌++◌, cond, length, refl, sym, ap, ◌∙◌, subst, arith, eqb, eq-eqb, ne_eqb, ◌⊎◌, inl, inr, ⊎_elim, get_or, set, get_or-set_same, get_or-set_other, lt_of_not-le, length-set}
use Rattle.std.specs.List.{All}
use Rattle.std.proofs.lemmas.List.Elements.{All-append}
use mathlib.Core.Logic.{dite}
use native.Mathlib.Decide.{ℕ_discrete, dec_le}
use Rattle.lola_intake.specs.declared.view.Turn.{Turn}
use Rattle.lola_intake.specs.Turns.{turn_by, calls_by, Runs}
use Rattle.lola_model.specs.declared.journal.Row.{Row}
use Rattle.lola_model.specs.declared.journal.Entry.{Entry}
use Rattle.lola_model.specs.declared.journal.Mark.TheVariants as mark
use Rattle.lola_merge.specs.declared.state.Offer.{Offer}
use Rattle.lola_merge.specs.declared.state.Offer.TheVariants as reply
use Rattle.lola_merge.specs.declared.state.Take.TheVariants.{Rows, AllDone, Nothing}
use Rattle.lola_intake.specs.declared.event.Event.{Event}
use Rattle.lola_intake.specs.declared.event.Event.TheVariants.{Offered, Finished, Took, Closed}
use Rattle.lola_merge.specs.Merging.{Merging, sources_of, has_finished, let_in, marked}
use Rattle.lola_model.specs.Journal.{opening_time, IsLegalFrom}
use Rattle.lola_model.proofs.Journals.{IsLegalFrom-append_left}
use Rattle.lola_intake.specs.declared.event.Setting.{Setting}
use Rattle.lola_intake.specs.Histories.{Does, Changes, IsLegal, events, entries, taken, has_finish, EndsDone}
use Rattle.lola_intake.proofs.Laws.{offer_way, flows, marks, first_took, done_is, finished_after, sources_after, own_front, other_front, not_its, none_after}

-- what was taken is rightly marked
pub taken_is_marked : (k : Setting) (h : List (Turn Event)) → IsLegal k h → IsLegalFrom (opening_time k.start) (taken (calls_by 0 h))
taken_is_marked k h (n, reached) =
    let x = reached.0 in
    let begins = reached.1 in
    let runs = reached.2 in
    let all : entries (events h) ≡ taken (events h) ++ n.pending = ap (λ (y : Merging). y.pending ++ entries (events h)) (sym begins) ∙ flows h x n runs in
    let legal : IsLegalFrom x.merged (taken (events h) ++ n.pending) = subst (IsLegalFrom x.merged) all (marks h x n runs) in
    let front : IsLegalFrom x.merged (taken (calls_by 0 h)) = subst (IsLegalFrom x.merged) (first_took h x n runs) (IsLegalFrom-append_left x.merged (taken (events h)) n.pending legal) in
    subst (λ (y : Merging). IsLegalFrom y.merged (taken (calls_by 0 h))) begins front

-- an entry of one of so many sources
abbrev pub IsTheirs : ℕ → Entry → Type 0
IsTheirs n e = e.row.source < n

nothing_theirs : (n : ℕ) → All (IsTheirs n) []
nothing_theirs n k d l = absurd (omega arith)

one_theirs : (n : ℕ) (e : Entry) → e.row.source < n → All (IsTheirs n) (e ∷ [])
one_theirs n e l zero d k = l
one_theirs n e l (suc i) d k = absurd (omega arith)

let_in_theirs : (n : ℕ) (row : Row) (r : Offer) → row.source < n → All (IsTheirs n) (let_in row r)
let_in_theirs n row reply.Accepted l = one_theirs n (marked row mark.Accepted) l
let_in_theirs n row (reply.Late m) l = one_theirs n (marked row (mark.Late m)) l
let_in_theirs n row (reply.Full q) l = nothing_theirs n
let_in_theirs n row (reply.Closed q) l = nothing_theirs n

step_theirs : (n by : ℕ) (e : Event) (m z : Merging) (es : List (Turn Event)) → Does by e m z → ((c : ℕ) → n < c → calls_by c (turn_by by e ∷ es) ≡ []) → All (IsTheirs n) (entries (events es)) → All (IsTheirs n) (entries (e ∷ events es))
step_theirs n by (Offered row r) m z es d nobody h = All-append (IsTheirs n) (let_in row r) (entries (events es)) (let_in_theirs n row r (dite (dec_le n row.source)
    (λ past. absurd (not_its by (turn_by by (Offered row r)) es (nobody by (let b : by ≡ row.source + 1 = d.0 in omega arith)) refl))
    (λ no. lt_of_not-le no))) h
step_theirs n by (Finished s) m z es d nobody h = h
step_theirs n by (Took t rows) m z es d nobody h = h
step_theirs n by Closed m z es d nobody h = h

-- where no caller past n calls, each row is of one of n sources
pub all_theirs : (n : ℕ) (h : List (Turn Event)) (m z : Merging) → Runs Changes m h z → ((c : ℕ) → n < c → calls_by c h ≡ []) → All (IsTheirs n) (entries (events h))
all_theirs n [] m z r nobody = nothing_theirs n
all_theirs n (e ∷ es) m z (y, does, r) nobody = step_theirs n e.by e.event m y es does nobody (all_theirs n es y z r (λ c l. none_after c e es (nobody c l)))

-- each source of an object has finished
abbrev AllFinished : Merging → Type 0
AllFinished m = (s : ℕ) → s < sources_of m → has_finished m s ≡ true

still_finished : (by : ℕ) (e : Event) (m z : Merging) → Does by e m z → AllFinished m → AllFinished z
still_finished by (Offered row r) m z d all s l = let fin = (offer_way by row r m z d).finished in
    ap (λ f. get_or f s false) fin ∙ all s (let k : length z.finished ≡ length m.finished = ap length fin in omega arith)
still_finished by (Finished q) m z d all s l = let fin : z.finished ≡ set m.finished q true = ap (λ (y : Merging). y.finished) d.1 in
    let k : length z.finished ≡ length m.finished = ap length fin ∙ length-set m.finished q true in
    ap (λ f. get_or f s false) fin ∙ dite (ℕ_discrete s q)
    (λ same. ap (λ k. get_or (set m.finished k true) s false) (sym same) ∙ get_or-set_same m.finished s true false (omega arith))
    (λ apart. get_or-set_other m.finished q s true false apart ∙ all s (omega arith))
still_finished by (Took t rows) m z d all s l = let fin = ap (λ (y : Merging). y.finished) d.3 in
    ap (λ f. get_or f s false) fin ∙ all s (let k : length z.finished ≡ length m.finished = ap length fin in omega arith)
still_finished by Closed m z d all s l = let fin = ap (λ (y : Merging). y.finished) d.1 in
    ap (λ f. get_or f s false) fin ∙ all s (let k : length z.finished ≡ length m.finished = ap length fin in omega arith)

-- what is known of an object where it may be that the last take was answered that all is done
abbrev Knows : Bool → Merging → Type 0
Knows done m = done ≡ true → AllFinished m

module _ (by : ℕ) (m z n : Merging) (es : List (Turn Event)) (rec : (done : Bool) → EndsDone (calls_by 0 es) done → Knows done z → AllFinished n) where
  abbrev Ends : Event → Bool → Type 0
  Ends e done = Does by e m z → EndsDone (calls_by 0 (turn_by by e ∷ es)) done → Knows done m → AllFinished n

  of_source : (e : Event) (done : Bool) → ¬ (by ≡ 0) → Ends e done
  of_source e done other d ends is = rec done (subst (λ l. EndsDone l done) (other_front 0 (turn_by by e) es other) ends) (λ t. still_finished by e m z d (is t))

  step_done : (e : Event) (done : Bool) → Ends e done
  step_done (Offered row r) done d ends is = of_source (Offered row r) done (λ q. let b : by ≡ row.source + 1 = d.0 in omega arith) d ends is
  step_done (Finished q) done d ends is = of_source (Finished q) done (λ q. omega arith) d ends is
  step_done (Took AllDone rows) done d ends is = rec true (subst (λ l. EndsDone l done) (own_front 0 (turn_by by (Took AllDone rows)) es d.0) ends) (λ t. still_finished by (Took AllDone rows) m z d (done_is m d.1).1)
  step_done (Took (Rows k) rows) done d ends is = rec false (subst (λ l. EndsDone l done) (own_front 0 (turn_by by (Took (Rows k) rows)) es d.0) ends) (λ t. absurd (true≢false (sym t)))
  step_done (Took Nothing rows) done d ends is = rec false (subst (λ l. EndsDone l done) (own_front 0 (turn_by by (Took Nothing rows)) es d.0) ends) (λ t. absurd (true≢false (sym t)))
  step_done Closed done d ends is = rec done (subst (λ l. EndsDone l done) (own_front 0 (turn_by by Closed) es d.0) ends) (λ t. still_finished by Closed m z d (is t))

-- where the last take was answered that all is done, each source has finished
all_finished : (h : List (Turn Event)) (m n : Merging) → Runs Changes m h n → (done : Bool) → EndsDone (calls_by 0 h) done → Knows done m → AllFinished n
all_finished [] m n r done ends is = subst AllFinished r (is ends)
all_finished (e ∷ es) m n (z, does, r) done ends is = step_done e.by m z n es (all_finished es z n r) e.event done does ends is

finish_either : (b : Bool) (q s : ℕ) (es cs : List Event) → ¬ (q ≡ s) → has_finish es s ≡ has_finish cs s → has_finish (Finished q ∷ es) s ≡ has_finish (cond b (Finished q ∷ cs) cs) s
finish_either true q s es cs ne h = ap (λ b. cond b true (has_finish es s)) (ne_eqb q s ne) ∙ (h ∙ ap (λ b. cond b true (has_finish cs s)) (sym (ne_eqb q s ne)))
finish_either false q s es cs ne h = ap (λ b. cond b true (has_finish es s)) (ne_eqb q s ne) ∙ h

step_own : (s by : ℕ) (e : Event) (m z : Merging) (es cs : List Event) → Does by e m z → has_finish es s ≡ has_finish cs s → has_finish (e ∷ es) s ≡ has_finish (cond (eqb by (s + 1)) (e ∷ cs) cs) s
step_own s by (Offered row r) m z es cs d h = elim (eqb by (s + 1)) as (λ b. has_finish es s ≡ has_finish (cond b (Offered row r ∷ cs) cs) s) [ true ↦ h | false ↦ h ]
step_own s by (Finished q) m z es cs d h = dite (ℕ_discrete q s)
    (λ is. ap (λ b. cond b true (has_finish es s)) (eq-eqb q s is)
    ∙ (ap (λ b. cond b true (has_finish cs s)) (sym (eq-eqb q s is)) ∙ ap (λ b. has_finish (cond b (Finished q ∷ cs) cs) s) (sym (eq-eqb by (s + 1) (let b : by ≡ q + 1 = d.0 in omega arith)))))
    (λ ne. finish_either (eqb by (s + 1)) q s es cs ne h)
step_own s by (Took t rows) m z es cs d h = elim (eqb by (s + 1)) as (λ b. has_finish es s ≡ has_finish (cond b (Took t rows ∷ cs) cs) s) [ true ↦ h | false ↦ h ]
step_own s by Closed m z es cs d h = elim (eqb by (s + 1)) as (λ b. has_finish es s ≡ has_finish (cond b (Closed ∷ cs) cs) s) [ true ↦ h | false ↦ h ]

-- a source is finished by its own calls
finish_of_own : (s : ℕ) (h : List (Turn Event)) (m n : Merging) → Runs Changes m h n → has_finish (events h) s ≡ has_finish (calls_by (s + 1) h) s
finish_of_own s [] m n r = refl
finish_of_own s (e ∷ es) m n (z, does, r) = step_own s e.by e.event m z (events es) (calls_by (s + 1) es) does (finish_of_own s es z n r)

-- where the last take was answered that all is done, the calls of each source have its finish
pub each_finished : (h : List (Turn Event)) (m n : Merging) → Runs Changes m h n → ((s : ℕ) → has_finished m s ≡ false) → EndsDone (calls_by 0 h) false → (s : ℕ) → s < sources_of m → has_finish (calls_by (s + 1) h) s ≡ true
each_finished h m n r none ends s l = sym (finish_of_own s h m n r) ∙ (sym (ap (λ b. cond b true (has_finish (events h) s)) (none s)) ∙ (sym (finished_after s h m n r l)
    ∙ all_finished h m n r false ends (λ t. absurd (true≢false (sym t))) s (let k : length n.finished ≡ length m.finished = sources_after h m n r in omega arith)))

-- a number stands in a list
abbrev pub IsAmong : ℕ → List ℕ → Type 0
IsAmong c [] = ⊥
IsAmong c (x ∷ xs) = (x ≡ c) ⊎ IsAmong c xs

-- the list without its first c
abbrev without : ℕ → List ℕ → List ℕ
without c [] = []
without c (x ∷ xs) = cond (eqb x c) xs (x ∷ without c xs)

-- what else stands in it is left
still_among : (c d : ℕ) (xs : List ℕ) → IsAmong d xs → (d ≡ c) ⊎ IsAmong d (without c xs)
still_among c d [] h = absurd h
still_among c d (x ∷ xs) h = dite (ℕ_discrete x c)
    (λ is. ⊎_elim (λ (e : x ≡ d). inl (sym e ∙ is)) (λ (t : IsAmong d xs). inr (subst (λ b. IsAmong d (cond b xs (x ∷ without c xs))) (sym (eq-eqb x c is)) t)) h)
    (λ ne. ⊎_elim
    (λ (e : x ≡ d). inr (subst (λ b. IsAmong d (cond b xs (x ∷ without c xs))) (sym (ne_eqb x c ne)) (inl e)))
    (λ (t : IsAmong d xs). ⊎_elim (λ (e : d ≡ c). inl e) (λ (u : IsAmong d (without c xs)). inr (subst (λ b. IsAmong d (cond b xs (x ∷ without c xs))) (sym (ne_eqb x c ne)) (inr u))) (still_among c d xs t))
    h)

one_less : (c : ℕ) (xs : List ℕ) → IsAmong c xs → length (without c xs) + 1 ≡ length xs
one_less c [] h = absurd h
one_less c (x ∷ xs) h = dite (ℕ_discrete x c)
    (λ is. ap (λ b. length (cond b xs (x ∷ without c xs)) + 1) (eq-eqb x c is) ∙ omega arith)
    (λ ne. ap (λ b. length (cond b xs (x ∷ without c xs)) + 1) (ne_eqb x c ne) ∙ ⊎_elim (λ (e : x ≡ c). absurd (ne e)) (λ (t : IsAmong c xs). let k = one_less c xs t in omega arith) h)

-- where n numbers have all from 1 to n among them, there is no other
pub none_past : (n : ℕ) (xs : List ℕ) → length xs ≡ n → ((c : ℕ) → 0 < c → c ≤ n → IsAmong c xs) → (d : ℕ) → IsAmong d xs → d ≤ n
none_past zero [] long all d h = absurd h
none_past zero (x ∷ xs) long all d h = absurd (omega arith)
none_past (suc n) xs long all d h = let top : IsAmong (suc n) xs = all (suc n) (omega arith) (omega arith) in ⊎_elim
    (λ (e : d ≡ suc n). omega arith)
    (λ (t : IsAmong d (without (suc n) xs)). let few : d ≤ n = none_past n (without (suc n) xs) (let k = one_less (suc n) xs top in omega arith)
    (λ c p q. ⊎_elim (λ (e : c ≡ suc n). absurd (omega arith)) (λ (u : IsAmong c (without (suc n) xs)). u) (still_among (suc n) c xs (all c p (omega arith)))) d t in omega arith)
    (still_among (suc n) d xs h)
