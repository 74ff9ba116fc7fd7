-- What is taken of the streams of a store is what a state has of the streams that the store stands for.
use Rattle.std.proofs.Common.{◌≡◌, ℕ, zero, suc, ◌+◌, ◌-◌, List, [], ◌∷◌, ◌++◌, length, map, drop, refl, subst, ap, sym, ◌∙◌, arith, ◌<◌, MatchOption, Bool, true, false, Option, Some, None, slice_get, if◌then◌else◌, append_assoc, append-nil}
use Rattle.std.proofs.lemmas.List.{length-map}
use Rattle.circular_buffer.specs.Buffer.{keep_last}
use Rattle.lola_value.specs.Answer.{Answer}
use Rattle.lola_value.specs.Naming.{Naming, read_outcome, read_params}
use Rattle.lola_value.specs.declared.text.Field.{Field}
use Rattle.lola_value.specs.declared.value.Params.{Params}
use Rattle.lola_model.specs.Accesses.{one_more}
use Rattle.lola_model.specs.Content.{Life, StreamContent}
use Rattle.lola_model.specs.Runs.{rested_life, rested_stream}
use Rattle.lola_model.specs.Store.{Layout, Memories, Seen, SeenInstance, SeenStream, instances_of, StandForLives, StandForStreams, StandsForLife, instances_seen, now_at, now_seen, start_seen, time_seen}
use Rattle.lola_save_text.specs.declared.forms.StreamForm.{StreamForm}
use Rattle.lola_save_text.specs.declared.state.SavedInstance.{SavedInstance}
use Rattle.lola_save_text.specs.JournalStates.{last_values, saved_life, saved_streams}
use Rattle.lola_save_text.specs.PaneFolds.{panes_of}
use Rattle.lola_save.specs.Fitting.{AreStreamsOf}
use Rattle.lola_save.specs.Taken.{AreStreamsTaken, AreTaken, IsTaken, life_by_now}

-- the last values, with their times or without

map-drop : {A B : Type 0} (f : A → B) (n : ℕ) (xs : List A) → map f (drop n xs) ≡ drop n (map f xs)
map-drop f zero xs = refl
map-drop f (suc n) [] = refl
map-drop f (suc n) (x ∷ xs) = map-drop f n xs

pub last-kept : (kept : ℕ) (vs : List (ℕ × Field)) → keep_last kept (map (λ (v : ℕ × Field). v.1) vs) ≡ last_values kept vs
last-kept kept vs =
    ap (λ (n : ℕ). drop (n - kept) (map (λ (v : ℕ × Field). v.1) vs)) (length-map vs (λ (v : ℕ × Field). v.1))
    ∙ sym (map-drop (λ (v : ℕ × Field). v.1) (length vs - kept) vs)

-- the item of a list at a place, and those behind it

from-at : {X : Type 0} (xs : List X) (i : ℕ) (x : X) → slice_get xs i ≡ Some x → drop i xs ≡ x ∷ drop (i + 1) xs
from-at [] zero x e = absurd (cc)
from-at [] (suc i) x e = absurd (cc)
from-at (y ∷ xs) zero x e = let same : y ≡ x = cc in ap (λ z. z ∷ xs) same
from-at (y ∷ xs) (suc i) x e = from-at xs i x e ∙ (let n : suc (i + 1) ≡ suc i + 1 = omega arith in ap (λ (m : ℕ). x ∷ drop m (y ∷ xs)) n)

none-behind : {X : Type 0} (xs : List X) (i : ℕ) → i ≡ length xs → drop i xs ≡ []
none-behind [] zero e = refl
none-behind [] (suc i) e = absurd (omega arith)
none-behind (x ∷ xs) zero e = absurd (omega arith)
none-behind (x ∷ xs) (suc i) e = none-behind xs i (omega arith)

past : {X : Type 0} (xs : List X) (i : ℕ) → i < length xs → slice_get xs i ≡ None → ⊥
past [] i lt e = absurd (omega arith)
past (x ∷ xs) zero lt e = absurd (cc)
past (x ∷ xs) (suc i) lt e = past xs i (omega arith) e

-- the values of an instance, which had these before the step: with that of the step
abbrev by_now : Seen → Naming → ℕ → ℕ → List (ℕ × Field) → List (ℕ × Field)
by_now s names n i values = values ++ one_more (time_seen s) (read_outcome names (now_seen s n i))

module _ (s : Seen) (remembers : Memories) (names : Naming) where
  -- an instance

  module _ (form : StreamForm) (n i : ℕ) (x : SeenInstance) (at : slice_get (instances_seen s n) i ≡ Some x) where
    values-are : (values : List (ℕ × Field)) → by_now s names n i values ≡ values ++ one_more (time_seen s) (read_outcome names x.outcome)
    values-are values = ap (λ o. values ++ one_more (time_seen s) (read_outcome names (now_at o))) at

    pub is-taken : (y : SavedInstance) → y.born ≡ (if form.spawns then Some x.born else None) → y.params ≡ read_params names x.params
        → ((values : List (ℕ × Field)) → remembers names n i values → y.ring ≡ keep_last form.kept (map (λ (v : ℕ × Field). v.1) (by_now s names n i values)))
        → ((values : List (ℕ × Field)) → remembers names n i values → y.panes ≡ map (λ w. panes_of (start_seen s) w (by_now s names n i values)) form.windows)
        → IsTaken s remembers names form n i x y
    is-taken y born params ring panes values h =
        let vs : List (ℕ × Field) = values ++ one_more (time_seen s) (read_outcome names x.outcome) in
        let r : y.ring ≡ last_values form.kept vs = ring values h ∙ last-kept form.kept (by_now s names n i values) ∙ ap (last_values form.kept) (values-are values) in
        let p : y.panes ≡ map (λ w. panes_of (start_seen s) w vs) form.windows = panes values h ∙ ap (λ us. map (λ w. panes_of (start_seen s) w us) form.windows) (values-are values) in
        λ j. record { born = born j; params = params j; ring = r j; panes = p j }

  pub instance-taken : (form : StreamForm) (n i : ℕ) (o : Option SeenInstance) → slice_get (instances_seen s n) i ≡ o → (y : SavedInstance) (q : Params)
      → MatchOption o ⊥ (λ x. y.born ≡ (if form.spawns then Some x.born else None)) → MatchOption o ⊥ (λ x. q ≡ x.params) → y.params ≡ read_params names q
      → ((values : List (ℕ × Field)) → remembers names n i values → y.ring ≡ keep_last form.kept (map (λ (v : ℕ × Field). v.1) (by_now s names n i values)))
      → ((values : List (ℕ × Field)) → remembers names n i values → y.panes ≡ map (λ w. panes_of (start_seen s) w (by_now s names n i values)) form.windows)
      → MatchOption o ⊥ (λ x. IsTaken s remembers names form n i x y)
  instance-taken form n i None at y q born params fields ring panes = born
  instance-taken form n i (Some x) at y q born params fields ring panes = is-taken form n i x at y born (fields ∙ ap (read_params names) params) ring panes

  -- instances, one after another

  abbrev pub AreTakenTo : StreamForm → ℕ → List SeenInstance → ℕ → List SavedInstance → Type 0
  AreTakenTo form n xs i ys = (rest : List SavedInstance) → AreTaken s remembers names form n i (drop i xs) rest → AreTaken s remembers names form n 0 xs (ys ++ rest)

  pub taken-none : (form : StreamForm) (n : ℕ) (xs : List SeenInstance) (ys : List SavedInstance) → ys ≡ [] → AreTakenTo form n xs 0 ys
  taken-none form n xs ys e rest h = subst (λ zs. AreTaken s remembers names form n 0 xs (zs ++ rest)) (sym e) h

  pub taken-more : (form : StreamForm) (n : ℕ) (xs : List SeenInstance) (i : ℕ) (ys more : List SavedInstance) (x : SeenInstance) (y : SavedInstance) → slice_get xs i ≡ Some x
      → IsTaken s remembers names form n i x y → more ≡ ys ++ y ∷ [] → AreTakenTo form n xs i ys → AreTakenTo form n xs (i + 1) more
  taken-more form n xs i ys more x y at is e h rest r =
      subst (λ zs. AreTaken s remembers names form n 0 xs zs) (sym (ap (λ zs. zs ++ rest) e ∙ append_assoc ys (y ∷ []) rest))
      (h (y ∷ rest) (subst (λ zs. AreTaken s remembers names form n i zs (y ∷ rest)) (sym (from-at xs i x at)) (is, r)))

  pub taken-all : (form : StreamForm) (n : ℕ) (xs : List SeenInstance) (i : ℕ) (ys : List SavedInstance) → i ≡ length xs → AreTakenTo form n xs i ys → AreTaken s remembers names form n 0 xs ys
  taken-all form n xs i ys e h =
      subst (λ zs. AreTaken s remembers names form n 0 xs zs) (append-nil ys) (h [] (subst (λ zs. AreTaken s remembers names form n i zs []) (sym (none-behind xs i e)) tt))

  pub all-taken : (form : StreamForm) (n : ℕ) (xs : List SeenInstance) (i : ℕ) (ys more : List SavedInstance) (y : SavedInstance) → MatchOption (slice_get xs i) ⊥ (λ x. IsTaken s remembers names form n i x y)
      → more ≡ ys ++ y ∷ [] → AreTakenTo form n xs i ys → AreTakenTo form n xs (i + 1) more
  all-taken form n xs i ys more y is e h = by (slice_get xs i) refl is
    where
      by : (o : Option SeenInstance) → slice_get xs i ≡ o → MatchOption o ⊥ (λ x. IsTaken s remembers names form n i x y) → AreTakenTo form n xs (i + 1) more
      by None at is = absurd is
      by (Some x) at is = taken-more form n xs i ys more x y at is e h

  -- streams, one after another

  abbrev pub AreStreamsTo : List StreamForm → List SeenStream → ℕ → List (List SavedInstance) → Type 0
  AreStreamsTo forms xs n yss =
      (rest : List (List SavedInstance)) → AreStreamsTaken s remembers names n (drop n forms) (drop n xs) rest → AreStreamsTaken s remembers names 0 forms xs (yss ++ rest)

  pub streams-none : (forms : List StreamForm) (xs : List SeenStream) (yss : List (List SavedInstance)) → yss ≡ [] → AreStreamsTo forms xs 0 yss
  streams-none forms xs yss e rest h = subst (λ zss. AreStreamsTaken s remembers names 0 forms xs (zss ++ rest)) (sym e) h

  streams-one : (forms : List StreamForm) (xs : List SeenStream) (n : ℕ) (yss more : List (List SavedInstance)) (form : StreamForm) (x : SeenStream) (ys : List SavedInstance) → slice_get forms n ≡ Some form
      → slice_get xs n ≡ Some x → AreTaken s remembers names form n 0 x.instances ys → more ≡ yss ++ ys ∷ [] → AreStreamsTo forms xs n yss → AreStreamsTo forms xs (n + 1) more
  streams-one forms xs n yss more form x ys at shown is e h rest r =
      subst (λ zss. AreStreamsTaken s remembers names 0 forms xs zss) (sym (ap (λ zss. zss ++ rest) e ∙ append_assoc yss (ys ∷ []) rest))
      (h (ys ∷ rest) (subst (λ zs. AreStreamsTaken s remembers names n zs (drop n xs) (ys ∷ rest)) (sym (from-at forms n form at))
      (subst (λ zs. AreStreamsTaken s remembers names n (form ∷ drop (n + 1) forms) zs (ys ∷ rest)) (sym (from-at xs n x shown)) (is, r))))

  pub streams-more : (forms : List StreamForm) (xs : List SeenStream) (n : ℕ) (yss more : List (List SavedInstance)) (form : StreamForm) (ys : List SavedInstance) → slice_get forms n ≡ Some form → n < length xs
      → AreTaken s remembers names form n 0 (instances_of (slice_get xs n)) ys → more ≡ yss ++ ys ∷ [] → AreStreamsTo forms xs n yss → AreStreamsTo forms xs (n + 1) more
  streams-more forms xs n yss more form ys at lt is e h = by (slice_get xs n) refl is
    where
      by : (o : Option SeenStream) → slice_get xs n ≡ o → AreTaken s remembers names form n 0 (instances_of o) ys → AreStreamsTo forms xs (n + 1) more
      by None shown is = absurd (past xs n lt shown)
      by (Some x) shown is = streams-one forms xs n yss more form x ys at shown is e h

  pub streams-all : (forms : List StreamForm) (xs : List SeenStream) (n : ℕ) (yss : List (List SavedInstance)) → n ≡ length forms → length xs ≡ length forms → AreStreamsTo forms xs n yss
      → AreStreamsTaken s remembers names 0 forms xs yss
  streams-all forms xs n yss e long h =
      subst (λ zss. AreStreamsTaken s remembers names 0 forms xs zss) (append-nil yss)
      (h [] (subst (λ zs. AreStreamsTaken s remembers names n zs (drop n xs) []) (sym (none-behind forms n e))
      (subst (λ zs. AreStreamsTaken s remembers names n [] zs []) (sym (none-behind xs n (omega (arith, e, long)))) tt)))

  -- they are those of the lives that they stand for

  same-life : (form : StreamForm) (n i : ℕ) (x : SeenInstance) (l : Life) → StandsForLife names remembers n i x l → (form.spawns ≡ true → x.born ≡ l.born)
      → saved_life (start_seen s) form (life_by_now (time_seen s) names x l.earlier) ≡ saved_life (start_seen s) form (rested_life (time_seen s) l)
  same-life form n i x l h births =
      let out : (l.earlier ++ one_more (time_seen s) (read_outcome names x.outcome)) ≡ (l.earlier ++ one_more (time_seen s) l.outcome) = ap (λ (o : Answer). l.earlier ++ one_more (time_seen s) o) h.outcome in
      let birth : (if form.spawns then Some x.born else None) ≡ (if form.spawns then Some l.born else None) = by form.spawns refl in
      λ j. record {
        born = birth j;
        params = h.params j;
        ring = last_values form.kept (out j);
        panes = map (λ w. panes_of (start_seen s) w (out j)) form.windows;
      }
    where
      by : (b : Bool) → form.spawns ≡ b → (if b then Some x.born else None) ≡ (if b then Some l.born else None)
      by true e = ap Some (births e)
      by false e = refl

  pub lives-taken : (form : StreamForm) (n i : ℕ) (xs : List SeenInstance) (ys : List SavedInstance) (ls : List Life) → AreTaken s remembers names form n i xs ys → StandForLives names remembers n i xs ls
      → (form.spawns ≡ true → map (λ (x : SeenInstance). x.born) xs ≡ map (λ (l : Life). l.born) ls) → ys ≡ map (saved_life (start_seen s) form) (map (rested_life (time_seen s)) ls)
  lives-taken form n i [] [] [] t h births = refl
  lives-taken form n i [] [] (l ∷ ls) t h births = absurd h
  lives-taken form n i [] (y ∷ ys) ls t h births = absurd t
  lives-taken form n i (x ∷ xs) [] ls t h births = absurd t
  lives-taken form n i (x ∷ xs) (y ∷ ys) [] t h births = absurd h
  lives-taken form n i (x ∷ xs) (y ∷ ys) (l ∷ ls) t h births =
      let first : y ≡ saved_life (start_seen s) form (rested_life (time_seen s) l) = t.0 l.earlier h.0.earlier ∙ same-life form n i x l h.0 (λ e. let b = births e in cc) in
      let others = lives-taken form n (i + 1) xs ys ls t.1 h.1 (λ e. let b = births e in cc) in
      λ j. first j ∷ others j

  -- all streams
  pub streams-taken : (layout : Layout) (n : ℕ) (forms : List StreamForm) (xs : List SeenStream) (yss : List (List SavedInstance)) (cs : List StreamContent) → AreStreamsOf layout n forms
      → AreStreamsTaken s remembers names n forms xs yss → StandForStreams layout.streams names remembers n xs cs → yss ≡ saved_streams (start_seen s) forms (map (rested_stream (time_seen s)) cs)
  streams-taken layout n [] [] [] [] f t h = refl
  streams-taken layout n [] [] [] (c ∷ cs) f t h = absurd h
  streams-taken layout n [] [] (ys ∷ yss) cs f t h = absurd t
  streams-taken layout n [] (x ∷ xs) yss cs f t h = absurd t
  streams-taken layout n (form ∷ forms) [] yss cs f t h = absurd t
  streams-taken layout n (form ∷ forms) (x ∷ xs) [] cs f t h = absurd t
  streams-taken layout n (form ∷ forms) (x ∷ xs) (ys ∷ yss) [] f t h = absurd h
  streams-taken layout n (form ∷ forms) (x ∷ xs) (ys ∷ yss) (c ∷ cs) f t h =
      let first = lives-taken form n 0 x.instances ys c.lives t.0 h.0.lives (λ e. h.0.births (sym f.0.spawns ∙ e)) in
      let others = streams-taken layout (n + 1) forms xs yss cs f.1 t.1 h.1 in
      λ j. first j ∷ others j
