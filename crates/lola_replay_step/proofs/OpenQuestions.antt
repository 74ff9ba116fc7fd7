-- What an answer changes: the other questions stay open, less is left to answer, and what is known agrees as before.
use Rattle.std.proofs.Common.{◌≡◌, ◌≢◌, ◌∙◌, ◌⊎◌, refl, sym, ap, subst, inl, inr, ℕ, zero, suc, ◌+◌, ◌<◌, ◌≤◌, List, [], ◌∷◌, ◌++◌, Option, Some, None, Bool, true, false, if◌then◌else◌, not, ◌&&◌, Ok, nat_eq, nat_lt, arith, length, slice_get}
use Rattle.std.proofs.Math.Seq.{drop-length}
use Rattle.std.proofs.lemmas.Bool.{cases_Bool, eqb-true, eq-eqb}
use Rattle.std.proofs.lemmas.Option.{slice_get_past, slice_get_within}
use Rattle.lola_value.specs.declared.text.Field.{Field}
use Rattle.lola_value.specs.Answer.{Answer}
use Rattle.lola_model.proofs.Growing.{slice_get-append}
use Rattle.lola_model.specs.Activity.{is_active}
use Rattle.lola_model.specs.Content.{content, time_of, values_over}
use Rattle.lola_model.specs.Model.{is_among, is_input, last_row, most_instances, newborn, spawn_pacing, survivors}
use Rattle.lola_model.specs.Table.{Step, Instance, StreamRow, TableRow}
use Rattle.lola_model.specs.declared.plan.Plan.{Plan}
use Rattle.lola_model.specs.declared.spec.Stream.{Stream}
use Rattle.lola_replay_step.specs.Agreements.{Knows, KnowsFrom, KnowsLife, KnowsLives, KnowsStream, Solves, comes_to, living_by}
use Rattle.lola_replay_table.specs.Answers.{kept_answer, kept_spawn}
use Rattle.lola_replay_table.specs.Clauses.{is_known_among, outcome_tried, spawn_tried}
use Rattle.lola_replay_table.specs.Open.{IsOpen, IsOpenOutcome, IsOpenSpawn, born_life, born_lives, changed_at, life_weight, lives_weight, open_weight, spawn_weight, with_life_outcome, with_outcome, with_spawn}
use Rattle.lola_replay_table.specs.declared.answer.KeptAnswer.{KeptAnswer}
use Rattle.lola_replay_table.specs.declared.question.Question.{Question}
use Rattle.lola_replay_table.specs.declared.question.Question.TheVariants.{SpawnOf, OutcomeOf}
use Rattle.lola_replay_table.specs.declared.table.KeptSpawn.{KeptSpawn}
use Rattle.lola_replay_table.specs.declared.table.KeptSpawn.TheVariants as spawn
use Rattle.lola_replay_table.specs.declared.table.KnownLife.{KnownLife}
use Rattle.lola_replay_table.specs.declared.table.KnownStream.{KnownStream}
use Rattle.lola_replay_step.proofs.Bridges.{AreStreamsOf, IsStreamOf, reads-right, streams-are, windows-right}
use Rattle.lola_replay_step.proofs.ClauseLemmas.{among-known, known-length, outcome-right, spawn-right}

-- a list that is changed at one place

pub changed-here : {A : Type 0} (f : A → A) (n : ℕ) (xs : List A) (x : A) → slice_get xs n ≡ Some x → slice_get (changed_at n f xs) n ≡ Some (f x)
changed-here f n [] x at = absurd (cc at)
changed-here f zero (y ∷ ys) x at = (let same : y ≡ x = cc at in ap (λ z. Some (f z)) same)
changed-here f (suc n) (y ∷ ys) x at = changed-here f n ys x at

pub changed-other : {A : Type 0} (f : A → A) (n m : ℕ) (xs : List A) → m ≢ n → slice_get (changed_at n f xs) m ≡ slice_get xs m
changed-other f n m [] other = refl
changed-other f zero zero (y ∷ ys) other = absurd (other refl)
changed-other f zero (suc m) (y ∷ ys) other = refl
changed-other f (suc n) zero (y ∷ ys) other = refl
changed-other f (suc n) (suc m) (y ∷ ys) other = changed-other f n m ys (λ e. other (ap suc e))

pub changed-long : {A : Type 0} (f : A → A) (n : ℕ) (xs : List A) → length (changed_at n f xs) ≡ length xs
changed-long f n [] = refl
changed-long f zero (y ∷ ys) = refl
changed-long f (suc n) (y ∷ ys) = let rest = changed-long f n ys in omega (arith, rest)

-- two numbers are the same or not
pub same-or-not : (m n : ℕ) → (m ≡ n) ⊎ (m ≢ n)
same-or-not m n = elim (cases_Bool (nat_eq m n)) [
  | inl hit ↦ inl (eqb-true m n hit)
  | inr miss ↦ inr (λ e. let hit = eq-eqb m n e in let both : true ≡ false = sym hit ∙ miss in absurd (cc both))
]

-- the other questions stay open

module _ (known : List KnownStream) (n : ℕ) (f : KnownStream → KnownStream) where
  -- where the stream's spawn clause is as it was
  spawn-stays : ((k : KnownStream) → slice_get known n ≡ Some k → (f k).spawned ≡ k.spawned) → (m : ℕ) → IsOpenSpawn known m → IsOpenSpawn (changed_at n f known) m
  spawn-stays keeps m is = elim (same-or-not m n) [
    | inl same ↦
        let at : slice_get known n ≡ Some is.stream = ap (slice_get known) (sym same) ∙ is.at in
        subst (IsOpenSpawn (changed_at n f known)) (sym same)
        (record { stream = f is.stream; at = changed-here f n known is.stream at; unanswered = keeps is.stream at ∙ is.unanswered })
    | inr other ↦ record { stream = is.stream; at = changed-other f n m known other ∙ is.at; unanswered = is.unanswered }
  ]

  spawn-elsewhere : (m : ℕ) → m ≢ n → IsOpenSpawn known m → IsOpenSpawn (changed_at n f known) m
  spawn-elsewhere m other is = record { stream = is.stream; at = changed-other f n m known other ∙ is.at; unanswered = is.unanswered }

  -- where the stream's instance at that place is as it was
  outcome-stays : (m place : ℕ) → ((k : KnownStream) (l : KnownLife) → m ≡ n → slice_get known n ≡ Some k → slice_get k.lives place ≡ Some l → slice_get (f k).lives place ≡ Some l)
      → IsOpenOutcome known m place → IsOpenOutcome (changed_at n f known) m place
  outcome-stays m place keeps is = elim (same-or-not m n) [
    | inl same ↦
        let at : slice_get known n ≡ Some is.stream = ap (slice_get known) (sym same) ∙ is.at in
        subst (λ k. IsOpenOutcome (changed_at n f known) k place) (sym same)
        (record { stream = f is.stream; at = changed-here f n known is.stream at; life = is.life; there = keeps is.stream is.life same at is.there; unanswered = is.unanswered })
    | inr other ↦ record { stream = is.stream; at = changed-other f n m known other ∙ is.at; life = is.life; there = is.there; unanswered = is.unanswered }
  ]

-- where an instance's outcome is answered
pub open-but-outcome : (known : List KnownStream) (n place : ℕ) (a : KeptAnswer) (q : Question) → q ≢ OutcomeOf n place → IsOpen known q → IsOpen (changed_at n (with_life_outcome place a) known) q
open-but-outcome known n place a (SpawnOf m) other is = spawn-stays known n (with_life_outcome place a) (λ k at. refl) m is
open-but-outcome known n place a (OutcomeOf m j) other is =
    outcome-stays known n (with_life_outcome place a) m j
    (λ k l same at there. changed-other (with_outcome a) place j k.lives (λ e. other (ap (λ x. OutcomeOf x j) same ∙ ap (λ y. OutcomeOf n y) e)) ∙ there) is

-- where a spawn clause is answered
pub open-but-spawn : (known : List KnownStream) (n time : ℕ) (sp : KeptSpawn) (q : Question) → q ≢ SpawnOf n → IsOpen known q → IsOpen (changed_at n (with_spawn time sp) known) q
open-but-spawn known n time sp (SpawnOf m) other is = spawn-elsewhere known n (with_spawn time sp) m (λ e. other (ap (λ x. SpawnOf x) e)) is
open-but-spawn known n time sp (OutcomeOf m j) other is =
    outcome-stays known n (with_spawn time sp) m j
    (λ k l same at there. slice_get-append k.lives (born_lives time sp k.lives) j (slice_get_within k.lives j l there) ∙ there) is

-- less is left to answer

answered-life : (place : ℕ) (a : KeptAnswer) (ls : List KnownLife) (l : KnownLife) → slice_get ls place ≡ Some l → l.outcome ≡ None
    → lives_weight (changed_at place (with_outcome a) ls) + 1 ≡ lives_weight ls
answered-life place a [] l at none = absurd (cc at)
answered-life zero a (x ∷ xs) l at none =
    let same : x ≡ l = cc at in
    let weight : life_weight x.outcome ≡ 1 = ap (λ (y : KnownLife). life_weight y.outcome) same ∙ ap life_weight none in
    omega (arith, weight)
answered-life (suc place) a (x ∷ xs) l at none = let rest = answered-life place a xs l at none in omega (arith, rest)

pub weight-outcome : (known : List KnownStream) (n place : ℕ) (a : KeptAnswer) → IsOpenOutcome known n place → open_weight (changed_at n (with_life_outcome place a) known) + 1 ≡ open_weight known
weight-outcome known n place a is = go known n is.at
  where
    go : (ks : List KnownStream) (m : ℕ) → slice_get ks m ≡ Some is.stream → open_weight (changed_at m (with_life_outcome place a) ks) + 1 ≡ open_weight ks
    go [] m at = absurd (cc at)
    go (k ∷ ks) zero at =
        let same : k ≡ is.stream = cc at in
        let there : slice_get k.lives place ≡ Some is.life = ap (λ (y : KnownStream). slice_get y.lives place) same ∙ is.there in
        let less = answered-life place a k.lives is.life there is.unanswered in
        omega (arith, less)
    go (k ∷ ks) (suc m) at = let rest = go ks m at in omega (arith, rest)

weight-append : (xs ys : List KnownLife) → lives_weight (xs ++ ys) ≡ lives_weight xs + lives_weight ys
weight-append [] ys = omega arith
weight-append (x ∷ xs) ys = let rest = weight-append xs ys in omega (arith, rest)

born-if : (b : Bool) (time : ℕ) (p : List Field) → lives_weight (if b then born_life time p ∷ [] else []) ≤ 1
born-if true time p = omega arith
born-if false time p = omega arith

born-weight : (time : ℕ) (sp : KeptSpawn) (ls : List KnownLife) → lives_weight (born_lives time sp ls) ≤ 1
born-weight time (spawn.Named p) ls = born-if (not (is_known_among p ls) && nat_lt (length ls) most_instances) time p
born-weight time spawn.Idle ls = omega arith
born-weight time (spawn.Fault k) ls = omega arith
born-weight time spawn.Poisoned ls = omega arith

pub weight-spawn : (known : List KnownStream) (n time : ℕ) (sp : KeptSpawn) → IsOpenSpawn known n → open_weight (changed_at n (with_spawn time sp) known) < open_weight known
weight-spawn known n time sp is = go known n is.at
  where
    go : (ks : List KnownStream) (m : ℕ) → slice_get ks m ≡ Some is.stream → open_weight (changed_at m (with_spawn time sp) ks) < open_weight ks
    go [] m at = absurd (cc at)
    go (k ∷ ks) zero at =
        let same : k ≡ is.stream = cc at in
        let two : spawn_weight k.spawned ≡ 2 = ap (λ (y : KnownStream). spawn_weight y.spawned) same ∙ ap spawn_weight is.unanswered in
        let born = born-weight time sp k.lives in
        let all = weight-append k.lives (born_lives time sp k.lives) in
        omega (arith, two, born, all)
    go (k ∷ ks) (suc m) at = let rest = go ks m at in omega (arith, rest)

-- what is known agrees as before

module _ (rows : List TableRow) (time n : ℕ) (comes : Instance → Answer) where
  lives-changed : (g : KnownLife → KnownLife) (xs : List Instance) (ls : List KnownLife) (place : ℕ)
      → ((x : Instance) (l : KnownLife) → slice_get ls place ≡ Some l → KnowsLife rows time n comes x l → KnowsLife rows time n comes x (g l))
      → KnowsLives rows time n comes xs ls → KnowsLives rows time n comes xs (changed_at place g ls)
  lives-changed g [] [] place keeps knows = tt
  lives-changed g [] (l ∷ ls) place keeps knows = absurd knows
  lives-changed g (x ∷ xs) [] place keeps knows = absurd knows
  lives-changed g (x ∷ xs) (l ∷ ls) zero keeps knows = (keeps x l refl knows.0, knows.1)
  lives-changed g (x ∷ xs) (l ∷ ls) (suc place) keeps knows = (knows.0, lives-changed g xs ls place keeps knows.1)

  noted-life : (a : KeptAnswer) (x : Instance) (l : KnownLife) → comes x ≡ kept_answer a → KnowsLife rows time n comes x l → KnowsLife rows time n comes x (with_outcome a l)
  noted-life a x l is knows =
      record { params = knows.params; born = knows.born; earlier = knows.earlier; outcome = λ b e. is ∙ ap kept_answer (some-is a b e) }
    where
      some-is : (a b : KeptAnswer) → (let o : Option KeptAnswer = Some a in o) ≡ Some b → a ≡ b
      some-is a b e = cc e

  lives-append : (xs ys : List Instance) (ls ms : List KnownLife) → KnowsLives rows time n comes xs ls → KnowsLives rows time n comes ys ms → KnowsLives rows time n comes (xs ++ ys) (ls ++ ms)
  lives-append [] ys [] ms knows more = more
  lives-append [] ys (l ∷ ls) ms knows more = absurd knows
  lives-append (x ∷ xs) ys [] ms knows more = absurd knows
  lives-append (x ∷ xs) ys (l ∷ ls) ms knows more = (knows.0, lives-append xs ys ls ms knows.1 more)

  -- the instance that is born
  born-life : (p : List Field) → KnowsLife rows time n comes (record { params = p; born = length rows }) (born_life time p)
  born-life p = record {
    params = refl;
    born = ap (time_of time) (sym (slice_get_past rows (length rows) (omega arith)));
    earlier = ap (values_over n (record { params = p; born = length rows })) (sym (drop-length rows));
    outcome = λ a e. absurd (cc e);
  }

  born-by : (b c : Bool) (p : List Field) → b ≡ c → KnowsLives rows time n comes (if b then record { params = p; born = length rows } ∷ [] else []) (if c then born_life time p ∷ [] else [])
  born-by true true p e = (born-life p, tt)
  born-by false false p e = tt
  born-by true false p e = absurd (cc e)
  born-by false true p e = absurd (cc e)

  born-known : (sp : KeptSpawn) (xs : List Instance) (ls : List KnownLife) → KnowsLives rows time n comes xs ls
      → KnowsLives rows time n comes (newborn (kept_spawn sp) xs (length rows)) (born_lives time sp ls)
  born-known (spawn.Named p) xs ls knows =
      born-by (not (is_among p xs) && nat_lt (length xs) most_instances) (not (is_known_among p ls) && nat_lt (length ls) most_instances) p
      (ap (λ b. not b && nat_lt (length xs) most_instances) (sym (among-known rows time n comes p xs ls knows))
      ∙ ap (λ m. not (is_known_among p ls) && nat_lt m most_instances) (sym (known-length rows time n comes xs ls knows)))
  born-known spawn.Idle xs ls knows = tt
  born-known (spawn.Fault k) xs ls knows = tt
  born-known spawn.Poisoned xs ls knows = tt

module _ (plan : Plan) (start : ℕ) (rows : List TableRow) (step : Step) (row : TableRow) where
  -- a stream that is changed
  knows-changed : (f : KnownStream → KnownStream) (n i : ℕ) (ss : List Stream) (rs : List StreamRow) (ks : List KnownStream) (m : ℕ)
      → ((number input : ℕ) (s : Stream) (r : StreamRow) (k : KnownStream) → number ≡ n + m → slice_get ss m ≡ Some s → slice_get ks m ≡ Some k → IsStreamOf plan start rows step row number input s r
      → KnowsStream plan start rows step row number input s r k → KnowsStream plan start rows step row number input s r (f k))
      → AreStreamsOf plan start rows step row n i ss rs → KnowsFrom plan start rows step row n i ss rs ks → KnowsFrom plan start rows step row n i ss rs (changed_at m f ks)
  knows-changed f n i [] [] [] m keeps are knows = tt
  knows-changed f n i [] [] (k ∷ ks) m keeps are knows = absurd knows
  knows-changed f n i [] (r ∷ rs) ks m keeps are knows = absurd are
  knows-changed f n i (s ∷ ss) [] ks m keeps are knows = absurd are
  knows-changed f n i (s ∷ ss) (r ∷ rs) [] m keeps are knows = absurd knows
  knows-changed f n i (s ∷ ss) (r ∷ rs) (k ∷ ks) zero keeps are knows = (keeps n i s r k (omega arith) refl refl are.0 knows.0, knows.1)
  knows-changed f n i (s ∷ ss) (r ∷ rs) (k ∷ ks) (suc m) keeps are knows = (
    knows.0,
    knows-changed f (n + 1) (if is_input s then i + 1 else i) ss rs ks m (λ number input t q j e at there. keeps number input t q j (omega (arith, e)) at there) are.1 knows.1,
  )

  module _ (moment : row.step.time ≡ step.time) (solves : Solves plan start rows step row) (known : List KnownStream) (knows : Knows plan start rows step row known) where
    -- an instance's outcome, where it is what was tried
    pub knows-outcome : (n place : ℕ) (a : KeptAnswer)
        → ((s : Stream) (k : KnownStream) (l : KnownLife) → slice_get plan.spec.streams n ≡ Some s → slice_get known n ≡ Some k → slice_get k.lives place ≡ Some l
        → outcome_tried plan start step known n s k l ≡ Ok (kept_answer a))
        → Knows plan start rows step row (changed_at n (with_life_outcome place a) known)
    knows-outcome n place a tried =
        knows-changed (with_life_outcome place a) 0 0 plan.spec.streams row.streams known n
        (λ number input s r k e at there is was.
        let same : n ≡ number = omega (arith, e) in
        record {
          input = was.input;
          spawned = was.spawned;
          lives = lives-changed rows step.time number (comes_to plan start rows step row number input s r) (with_outcome a) (living_by (length rows) (survivors number s (last_row rows)) k.spawned) k.lives place
              (λ x l found life.
              noted-life rows step.time number (comes_to plan start rows step row number input s r) a x l
              (outcome-right plan start rows step row known (λ how m p. reads-right plan start rows step row moment solves known knows how m p) (λ w p. windows-right plan start rows step row moment solves known knows w p)
              number input s r k x l was life (kept_answer a)
              (subst (λ j. outcome_tried plan start step known j s k l ≡ Ok (kept_answer a)) same (tried s k l at there found))) life)
              was.lives;
        })
        (streams-are plan start rows step row solves) knows

    -- what a spawn clause does, where it is what was tried
    pub knows-spawn : (n : ℕ) (sp : KeptSpawn)
        → ((k : KnownStream) → slice_get known n ≡ Some k → k.spawned ≡ None)
        → ((s : Stream) (k : KnownStream) → slice_get plan.spec.streams n ≡ Some s → slice_get known n ≡ Some k → spawn_tried plan start step known n s k ≡ Ok (kept_spawn sp))
        → Knows plan start rows step row (changed_at n (with_spawn step.time sp) known)
    knows-spawn n sp open-yet tried =
        knows-changed (with_spawn step.time sp) 0 0 plan.spec.streams row.streams known n
        (λ number input s r k e at there is was.
        let same : n ≡ number = omega (arith, e) in
        let comes = comes_to plan start rows step row number input s r in
        let alive = survivors number s (last_row rows) in
        let before : KnowsLives rows step.time number comes alive k.lives =
        subst (λ (o : Option KeptSpawn). KnowsLives rows step.time number comes (living_by (length rows) alive o) k.lives) (open-yet k there) was.lives in
        let does : r.spawned ≡ kept_spawn sp =
        is.spawned
        ∙ spawn-right plan start step known (content start rows row) (λ how m p. reads-right plan start rows step row moment solves known knows how m p) (λ w p. windows-right plan start rows step row moment solves known knows w p)
        rows step.time number comes (is_active start step (spawn_pacing (slice_get plan.pacings number))) s.spawn alive k.lives before (kept_spawn sp)
        (subst (λ j. spawn_tried plan start step known j s k ≡ Ok (kept_spawn sp)) same (tried s k at there)) in
        record {
          input = was.input;
          spawned = λ q f. does ∙ ap kept_spawn (some-is sp q f);
          lives = lives-append rows step.time number comes alive (newborn (kept_spawn sp) alive (length rows)) k.lives (born_lives step.time sp k.lives) before
              (born-known rows step.time number comes sp alive k.lives before);
        })
        (streams-are plan start rows step row solves) knows
      where
        some-is : (a b : KeptSpawn) → (let o : Option KeptSpawn = Some a in o) ≡ Some b → a ≡ b
        some-is a b e = cc e
