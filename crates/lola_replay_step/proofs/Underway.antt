-- The list of open questions while one is answered.
use Rattle.std.proofs.Common.{◌≡◌, ◌≢◌, ◌∙◌, refl, sym, ap, subst, ℕ, zero, suc, ◌+◌, ◌<◌, ◌≤◌, List, [], ◌∷◌, ◌++◌, Option, Some, None, arith, length, slice_get}
use Rattle.std.specs.List.{AllByRecursion}
use Rattle.std.proofs.Math.Nat.{mul-le-mul_right}
use Rattle.lola_model.specs.Activity.{is_active}
use Rattle.lola_model.specs.Model.{spawn_pacing}
use Rattle.lola_model.specs.Accepted.{HasLayers}
use Rattle.lola_model.specs.Graph.{layer_of, spawn_node}
use Rattle.lola_model.specs.Table.{Step}
use Rattle.lola_model.specs.declared.plan.Plan.{Plan}
use Rattle.lola_model.specs.declared.spec.Stream.{Stream}
use Rattle.lola_replay_table.specs.Open.{IsOpen, IsOpenOutcome, IsOpenSpawn, changed_at, open_weight, rank_of, stream_spawn_rank, with_life_outcome, with_outcome, with_spawn}
use Rattle.lola_replay_step.specs.AnsweringOf.{IsTriedFor, KeepsKnowing, Notes, plan_rank}
use Rattle.lola_replay_step.specs.Stacks.{IsFalling, work_left}
use Rattle.lola_replay_table.specs.declared.answer.KeptAnswer.{KeptAnswer}
use Rattle.lola_replay_table.specs.declared.question.Question.{Question}
use Rattle.lola_replay_table.specs.declared.question.Question.TheVariants.{SpawnOf, OutcomeOf}
use Rattle.lola_replay_table.specs.declared.table.KeptSpawn.{KeptSpawn}
use Rattle.lola_replay_table.specs.declared.table.KnownLife.{KnownLife}
use Rattle.lola_replay_table.specs.declared.table.KnownStream.{KnownStream}
use Rattle.lola_replay_step.proofs.OpenQuestions.{changed-here, changed-long, knows-outcome, knows-spawn, open-but-outcome, open-but-spawn, weight-outcome, weight-spawn}
use Rattle.lola_replay_step.proofs.Ranks.{low-streams, outcome-asks, spawn-clause-asks, spawns-low}
use Rattle.lola_replay_step.proofs.StaysLemmas.{spawn-was-outcome, spawn-was-spawn, was-open}
use Rattle.lola_replay_step.proofs.StackLemmas.{less-answered, less-asked, others, popped, pushed}

-- at a place of a list that is as long as another, something stands where something of the other does
pub there-too : {A B : Type 0} (xs : List A) (ys : List B) (n : ℕ) (x : A) → length xs ≡ length ys → slice_get xs n ≡ Some x → (y : B) × (slice_get ys n ≡ Some y)
there-too [] ys n x long at = absurd (cc at)
there-too (z ∷ zs) [] n x long at = absurd (omega (arith, long))
there-too (z ∷ zs) (y ∷ ys) zero x long at = (y, refl)
there-too (z ∷ zs) (y ∷ ys) (suc n) x long at = there-too zs ys n x (omega (arith, long)) at

-- what is answered is not open
closed-outcome : (known : List KnownStream) (n place : ℕ) (a : KeptAnswer) → IsOpenOutcome known n place → ¬ (IsOpenOutcome (changed_at n (with_life_outcome place a) known) n place)
closed-outcome known n place a was is =
    let stream : Some is.stream ≡ Some (with_life_outcome place a was.stream) = sym is.at ∙ changed-here (with_life_outcome place a) n known was.stream was.at in
    let lives : is.stream.lives ≡ changed_at place (with_outcome a) was.stream.lives = ap (λ (o : Option KnownStream). elim o [ None ↦ [] | Some k ↦ k.lives ]) stream in
    let life : Some is.life ≡ Some (with_outcome a was.life) =
    sym is.there ∙ ap (λ (ls : List KnownLife). slice_get ls place) lives ∙ changed-here (with_outcome a) place was.stream.lives was.life was.there in
    let some : is.life.outcome ≡ Some a = ap (λ (o : Option KnownLife). elim o [ None ↦ None | Some l ↦ l.outcome ]) life in
    let both : Some a ≡ None = sym some ∙ is.unanswered in
    absurd (cc both)

closed-spawn : (known : List KnownStream) (n time : ℕ) (sp : KeptSpawn) → IsOpenSpawn known n → ¬ (IsOpenSpawn (changed_at n (with_spawn time sp) known) n)
closed-spawn known n time sp was is =
    let stream : Some is.stream ≡ Some (with_spawn time sp was.stream) = sym is.at ∙ changed-here (with_spawn time sp) n known was.stream was.at in
    let some : is.stream.spawned ≡ Some sp = ap (λ (o : Option KnownStream). elim o [ None ↦ None | Some k ↦ k.spawned ]) stream in
    let both : Some sp ≡ None = sym some ∙ is.unanswered in
    absurd (cc both)

module _ (plan : Plan) (start : ℕ) (step : Step) where
  -- what an answer changes
  pub record Progress (q : Question) (before after : List KnownStream) : Type 0 where
    pub keeps : KeepsKnowing plan start step before after
    pub long : length after ≡ length before
    pub less : open_weight after < open_weight before
    pub closed : ¬ (IsOpen after q)
    pub others-open : (r : Question) → r ≢ q → IsOpen before r → IsOpen after r
    pub spawns-were : (m : ℕ) → IsOpenSpawn after m → IsOpenSpawn before m
    pub all-were : ((m : ℕ) → ¬ (IsOpenSpawn before m)) → (r : Question) → IsOpen after r → IsOpen before r

  open-stream : (known : List KnownStream) (n : ℕ) → IsOpenSpawn known n → (k : KnownStream) → slice_get known n ≡ Some k → k.spawned ≡ None
  open-stream known n is k at =
      let same : Some is.stream ≡ Some k = sym is.at ∙ at in
      ap (λ (o : Option KnownStream). elim o [ None ↦ None | Some j ↦ j.spawned ]) (sym same) ∙ is.unanswered

  pub progress : (q : Question) (before after : List KnownStream) → IsOpen before q → Notes plan start step q before after → Progress q before after
  progress (SpawnOf n) before after open-yet notes =
      subst (Progress (SpawnOf n) before) (sym notes.noted)
      (record {
        keeps = λ rows row moment solves knows. knows-spawn plan start rows step row moment solves before knows n notes.spawned (open-stream before n open-yet) notes.tried;
        long = changed-long (with_spawn step.time notes.spawned) n before;
        less = weight-spawn before n step.time notes.spawned open-yet;
        closed = closed-spawn before n step.time notes.spawned open-yet;
        others-open = λ r other is. open-but-spawn before n step.time notes.spawned r other is;
        spawns-were = λ m is. spawn-was-spawn before n step.time notes.spawned m is;
        all-were = λ none r is. absurd (none n open-yet);
      })
  progress (OutcomeOf n place) before after open-yet notes =
      subst (Progress (OutcomeOf n place) before) (sym notes.noted)
      (record {
        keeps = λ rows row moment solves knows. knows-outcome plan start rows step row moment solves before knows n place notes.outcome notes.tried;
        long = changed-long (with_life_outcome place notes.outcome) n before;
        less = (let w = weight-outcome before n place notes.outcome open-yet in omega (arith, w));
        closed = closed-outcome before n place notes.outcome open-yet;
        others-open = λ r other is. open-but-outcome before n place notes.outcome r other is;
        spawns-were = λ m is. spawn-was-outcome before n place notes.outcome m is;
        all-were = λ none r is. was-open before n place notes.outcome r is;
      })

  -- what a question waits for is open and of lower rank
  pub waits-below : HasLayers plan → (known : List KnownStream) → length known ≡ length plan.spec.streams → (q next : Question) → IsOpen known q → IsTriedFor plan start step known q next
      → IsOpen known next × (plan_rank plan next < plan_rank plan q)
  waits-below has known long (OutcomeOf n place) next open-yet tried =
      let layer = layer_of plan.layers in
      let s = there-too known plan.spec.streams n open-yet.stream long open-yet.at in
      outcome-asks layer plan start step known (spawns-low plan layer has.layers) n s.0 open-yet.stream open-yet.life open-yet.at
      (low-streams plan layer has.layers n s.0 s.1).eval next (tried s.0 open-yet.stream open-yet.life s.1 open-yet.at open-yet.there)
  waits-below has known long (SpawnOf n) next open-yet tried =
      let layer = layer_of plan.layers in
      let s = there-too known plan.spec.streams n open-yet.stream long open-yet.at in
      let below = spawn-clause-asks layer plan start step known (spawns-low plan layer has.layers) n (is_active start step (spawn_pacing (slice_get plan.pacings n))) s.0.spawn open-yet.stream.lives
      (low-streams plan layer has.layers n s.0 s.1).spawn next (tried s.0 open-yet.stream s.1 open-yet.at) in
      (below.0, subst (λ (o : Option Stream). rank_of layer plan.spec.streams next < stream_spawn_rank (layer (spawn_node n)) o) (sym s.1) below.1)

module _ (plan : Plan) (start : ℕ) (step : Step) (first : Question) (from : List KnownStream) where
  -- the first question stands in front
  abbrev pub IsLed : List Question → Type 0
  IsLed [] = Unit {0}
  IsLed (q ∷ qs) = q ≡ first

  -- while it is answered
  pub record IsUnderway (known : List KnownStream) (stack : List Question) : Type 0 where
    pub keeps : KeepsKnowing plan start step from known
    pub long : length known ≡ length from
    pub falling : IsFalling (plan_rank plan) stack
    pub opened : AllByRecursion (IsOpen known) stack
    pub led : IsLed stack
    pub ends : stack ≡ [] → ¬ (IsOpen known first)
    pub spawns-were : (m : ℕ) → IsOpenSpawn known m → IsOpenSpawn from m
    pub all-were : ((m : ℕ) → ¬ (IsOpenSpawn from m)) → (r : Question) → IsOpen known r → IsOpen from r

  pub begins : IsOpen from first → IsUnderway from (first ∷ [])
  begins is = record {
    keeps = λ rows row moment solves knows. knows;
    long = refl;
    falling = (tt, tt);
    opened = (is, tt);
    led = refl;
    ends = λ e. absurd (cc e);
    spawns-were = λ m now. now;
    all-were = λ none r now. now;
  }

  -- the last one is open, and the ones before it
  last-open : (known : List KnownStream) (qs : List Question) (t : Question) → AllByRecursion (IsOpen known) (qs ++ t ∷ []) → IsOpen known t × AllByRecursion (IsOpen known) qs
  last-open known [] t all = (all.0, tt)
  last-open known (q ∷ qs) t all = let rest = last-open known qs t all.1 in (rest.0, (all.0, rest.1))

  led-front : (qs : List Question) (t : Question) → IsLed (qs ++ t ∷ []) → IsLed qs
  led-front [] t led = tt
  led-front (q ∷ qs) t led = led

  led-more : (qs : List Question) (t q : Question) → IsLed (qs ++ t ∷ []) → IsLed ((qs ++ t ∷ []) ++ q ∷ [])
  led-more [] t q led = led
  led-more (r ∷ rs) t q led = led

  still-open : (before after : List KnownStream) (t : Question) (qs : List Question) → ((r : Question) → r ≢ t → IsOpen before r → IsOpen after r) → AllByRecursion (λ r. r ≢ t) qs
      → AllByRecursion (IsOpen before) qs → AllByRecursion (IsOpen after) qs
  still-open before after t [] keeps apart all = tt
  still-open before after t (q ∷ qs) keeps apart all = (keeps q apart.0 all.0, still-open before after t qs keeps apart.1 all.1)

  no-more : (qs : List Question) (t : Question) → IsLed (qs ++ t ∷ []) → qs ≡ [] → t ≡ first
  no-more [] t led none = led
  no-more (q ∷ qs) t led none = absurd (cc none)

  -- with an answer
  pub answered : (known after : List KnownStream) (qs : List Question) (t : Question) → IsUnderway known (qs ++ t ∷ []) → Notes plan start step t known after → IsUnderway after qs
  answered known after qs t is notes =
      let parts = last-open known qs t is.opened in
      let done = progress plan start step t known after parts.0 notes in
      record {
        keeps = λ rows row moment solves knows. done.keeps rows row moment solves (is.keeps rows row moment solves knows);
        long = done.long ∙ is.long;
        falling = popped (plan_rank plan) qs t is.falling;
        opened = still-open known after t qs done.others-open (others (plan_rank plan) qs t is.falling) parts.1;
        led = led-front qs t is.led;
        ends = λ none. subst (λ q. ¬ (IsOpen after q)) (no-more qs t is.led none) done.closed;
        spawns-were = λ m now. is.spawns-were m (done.spawns-were m now);
        all-were = λ none r now. is.all-were none r (done.all-were (λ m was. none m (is.spawns-were m was)) r now);
      }

  all-opened : (known : List KnownStream) (qs : List Question) (t : Question) → AllByRecursion (IsOpen known) qs → IsOpen known t → AllByRecursion (IsOpen known) (qs ++ t ∷ [])
  all-opened known [] t all is = (is, tt)
  all-opened known (q ∷ qs) t all is = (all.0, all-opened known qs t all.1 is)

  some-more : (qs : List Question) (t : Question) → qs ++ t ∷ [] ≡ [] → ⊥
  some-more [] t e = absurd (cc e)
  some-more (q ∷ qs) t e = absurd (cc e)

  -- with a question more
  pub asked : HasLayers plan → (known : List KnownStream) (qs : List Question) (t q : Question) → length known ≡ length plan.spec.streams → IsUnderway known (qs ++ t ∷ []) → IsTriedFor plan start step known t q
      → IsUnderway known ((qs ++ t ∷ []) ++ q ∷ [])
  asked has known qs t q long is tried =
      let parts = last-open known qs t is.opened in
      let below = waits-below plan start step has known long t q parts.0 tried in
      record {
        keeps = is.keeps;
        long = is.long;
        falling = pushed (plan_rank plan) qs t q is.falling below.1;
        opened = all-opened known (qs ++ t ∷ []) q is.opened below.0;
        led = led-more qs t q is.led;
        ends = λ none. absurd (some-more (qs ++ t ∷ []) q none);
        spawns-were = is.spawns-were;
        all-were = is.all-were;
      }

  -- no rank is above the first's
  ranks-low : (bound : ℕ) (qs : List Question) → AllByRecursion (λ r. plan_rank plan r < bound) qs → AllByRecursion (λ r. plan_rank plan r ≤ bound) qs
  ranks-low bound [] all = tt
  ranks-low bound (q ∷ qs) all = ((let low = all.0 in omega (arith, low)), ranks-low bound qs all.1)

  low-ranks : (qs : List Question) → IsLed qs → IsFalling (plan_rank plan) qs → AllByRecursion (λ r. plan_rank plan r ≤ plan_rank plan first) qs
  low-ranks [] led falls = tt
  low-ranks (q ∷ qs) led falls =
      let same : plan_rank plan q ≡ plan_rank plan first = ap (plan_rank plan) led in
      ((omega (arith, same)), subst (λ b. AllByRecursion (λ r. plan_rank plan r ≤ b) qs) same (ranks-low (plan_rank plan q) qs falls.0))

  -- the work that is left
  abbrev pub work : List KnownStream → List Question → ℕ
  work known stack = work_left (plan_rank plan) (open_weight known) (plan_rank plan first) stack

  pub work-answered : (known after : List KnownStream) (qs : List Question) (t : Question) → IsUnderway known (qs ++ t ∷ []) → Notes plan start step t known after → work after qs < work known (qs ++ t ∷ [])
  work-answered known after qs t is notes =
      let parts = last-open known qs t is.opened in
      let done = progress plan start step t known after parts.0 notes in
      let top = less-answered (plan_rank plan) (open_weight after) (plan_rank plan first) qs t (low-ranks qs (led-front qs t is.led) (popped (plan_rank plan) qs t is.falling)) in
      let low : open_weight after + 1 ≤ open_weight known = (let a = done.less in omega (arith, a)) in
      let more = mul-le-mul_right (plan_rank plan first + 1) low in
      omega (arith, top, more)

  pub work-asked : HasLayers plan → (known : List KnownStream) (qs : List Question) (t q : Question) → length known ≡ length plan.spec.streams → IsUnderway known (qs ++ t ∷ []) → IsTriedFor plan start step known t q
      → work known ((qs ++ t ∷ []) ++ q ∷ []) < work known (qs ++ t ∷ [])
  work-asked has known qs t q long is tried =
      let parts = last-open known qs t is.opened in
      let below = waits-below plan start step has known long t q parts.0 tried in
      less-asked (plan_rank plan) (open_weight known) (plan_rank plan first) qs t q below.1
