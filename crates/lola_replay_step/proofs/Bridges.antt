-- What is known of a step agrees with the content of its row, so that what is read of it is what the content says.
use Rattle.std.proofs.Common.{◌≡◌, ◌∙◌, refl, sym, ap, subst, ℕ, zero, suc, ◌+◌, List, [], ◌∷◌, ◌++◌, Option, Some, None, Bool, true, false, if◌then◌else◌, not, ◌&&◌, nat_lt, arith, drop, length, map, slice_get}
use Rattle.std.proofs.Math.Seq.{drop-length}
use Rattle.lola_value.specs.declared.text.Field.{Field}
use Rattle.lola_value.specs.Answer.{Answer, Missing}
use Rattle.lola_model.specs.Accesses.{answer_of, accessed, bad_in, life_in}
use Rattle.lola_model.specs.Activity.{is_active}
use Rattle.lola_model.specs.Content.{Life, StreamContent, content, is_bad, life_of, seen, streams_from, values_over}
use Rattle.lola_model.specs.Denotation.{target_kind, window_of}
use Rattle.lola_model.specs.Model.{is_among, is_input, last_row, most_instances, newborn, outcome_of, outcomes_from, spawn_outcome, spawn_pacing, spawned_in, stream_outcome, survivors}
use Rattle.lola_model.specs.Table.{Step, Instance, Living, Spawned, Idle, Named, SpawnFaulted, SpawnPoisoned, StreamRow, TableRow}
use Rattle.lola_model.specs.declared.expr.Access.{Access}
use Rattle.lola_model.specs.declared.expr.Access.TheVariants as access
use Rattle.lola_model.specs.declared.plan.Plan.{Plan}
use Rattle.lola_model.specs.declared.spec.Stream.{Stream}
use Rattle.lola_model.specs.declared.spec.WindowSpec.{WindowSpec}
use Rattle.lola_replay_step.specs.Agreements.{KnowsFrom, KnowsLife, KnowsLives, KnowsStream, Knows, Solves, comes_to, living_by}
use Rattle.lola_replay_table.specs.Answers.{kept_spawn}
use Rattle.lola_replay_table.specs.Tries.{AgreeLives, AgreesLife, AgreesStream, read_at, read_in, window_at, window_in, window_of_spec, windowed}
use Rattle.lola_replay_table.specs.declared.table.KeptSpawn.{KeptSpawn}
use Rattle.lola_replay_table.specs.declared.table.KnownLife.{KnownLife}
use Rattle.lola_replay_table.specs.declared.table.KnownStream.{KnownStream}
use Rattle.lola_replay_step.proofs.ReadLemmas.{read-right, window-right}
use Rattle.lola_replay_step.proofs.TryLemmas.{Answers, is-ok}

-- lists are equal where their parts are
parts : {A : Type 0} (x y : A) (xs ys : List A) → x ∷ xs ≡ y ∷ ys → (x ≡ y) × (xs ≡ ys)
parts x y xs ys e = (cc e, cc e)

module _ (rows : List TableRow) (time n : ℕ) (comes : Instance → Answer) where
  -- instances with what they come to
  abbrev pub livings : List Instance → List Living
  livings xs = map (λ x. record { instance = x; outcome = comes x }) xs

  -- the lives that are seen of them
  abbrev pub lives_of : List Instance → List Life
  lives_of xs = map (life_of rows time n) (livings xs)

  one-life : (x : Instance) (k : KnownLife) → KnowsLife rows time n comes x k → AgreesLife (life_of rows time n (record { instance = x; outcome = comes x })) k
  one-life x k knows = record { params = knows.params; earlier = knows.earlier; outcome = λ a is. ap seen (knows.outcome a is) }

  all-lives : (xs : List Instance) (ks : List KnownLife) → KnowsLives rows time n comes xs ks → AgreeLives (lives_of xs) ks
  all-lives [] [] knows = tt
  all-lives [] (k ∷ ks) knows = absurd knows
  all-lives (x ∷ xs) [] knows = absurd knows
  all-lives (x ∷ xs) (k ∷ ks) knows = (one-life x k knows.0, all-lives xs ks knows.1)

  same-length : (xs : List Instance) (ks : List KnownLife) → KnowsLives rows time n comes xs ks → length (lives_of xs) ≡ length ks
  same-length [] [] knows = refl
  same-length [] (k ∷ ks) knows = absurd knows
  same-length (x ∷ xs) [] knows = absurd knows
  same-length (x ∷ xs) (k ∷ ks) knows = let rest = same-length xs ks knows.1 in omega (arith, rest)

  -- instances that have no earlier values
  abbrev AreNew : List Instance → Type 0
  AreNew [] = Unit {0}
  AreNew (x ∷ xs) = (values_over n x (drop x.born rows) ≡ []) × AreNew xs

  new-lives : (xs : List Instance) → AreNew xs → AgreeLives (lives_of xs) []
  new-lives [] new = tt
  new-lives (x ∷ xs) new = (new.0, new-lives xs new.1)

  -- with some that are not known yet, and have no earlier values
  more-lives : (xs ys : List Instance) (ks : List KnownLife) → KnowsLives rows time n comes xs ks → AreNew ys → AgreeLives (lives_of (xs ++ ys)) ks
  more-lives [] ys [] knows new = new-lives ys new
  more-lives [] ys (k ∷ ks) knows new = absurd knows
  more-lives (x ∷ xs) ys [] knows new = absurd knows
  more-lives (x ∷ xs) ys (k ∷ ks) knows new = (one-life x k knows.0, more-lives xs ys ks knows.1 new)

  new-if : (b : Bool) (p : List Field) → AreNew (if b then record { params = p; born = length rows } ∷ [] else [])
  new-if true p = (ap (values_over n (record { params = p; born = length rows })) (drop-length rows), tt)
  new-if false p = tt

  newborn-new : (sp : Spawned) (alive : List Instance) → AreNew (newborn sp alive (length rows))
  newborn-new Idle alive = tt
  newborn-new (Named p) alive = new-if (not (is_among p alive) && nat_lt (length alive) most_instances) p
  newborn-new (SpawnFaulted k) alive = tt
  newborn-new SpawnPoisoned alive = tt

  -- of a stream
  stream-lives : (sp : Spawned) (o : Option KeptSpawn) (alive : List Instance) (ks : List KnownLife) → ((q : KeptSpawn) → o ≡ Some q → sp ≡ kept_spawn q)
      → KnowsLives rows time n comes (living_by (length rows) alive o) ks → AgreeLives (lives_of (alive ++ newborn sp alive (length rows))) ks
  stream-lives sp None alive ks is knows = more-lives alive (newborn sp alive (length rows)) ks knows (newborn-new sp alive)
  stream-lives sp (Some q) alive ks is knows =
      subst (λ (z : Spawned). AgreeLives (lives_of (alive ++ newborn z alive (length rows))) ks) (sym (is q refl))
      (all-lives (alive ++ newborn (kept_spawn q) alive (length rows)) ks knows)

  stream-length : (sp : Spawned) (o : Option KeptSpawn) (alive : List Instance) (ks : List KnownLife) → ((q : KeptSpawn) → o ≡ Some q → sp ≡ kept_spawn q)
      → KnowsLives rows time n comes (living_by (length rows) alive o) ks → (q : KeptSpawn) → o ≡ Some q
      → length (lives_of (alive ++ newborn sp alive (length rows))) ≡ length ks
  stream-length sp None alive ks is knows q e = absurd (cc e)
  stream-length sp (Some r) alive ks is knows q e =
      ap (λ (z : Spawned). length (lives_of (alive ++ newborn z alive (length rows)))) (is r refl)
      ∙ same-length (alive ++ newborn (kept_spawn r) alive (length rows)) ks knows

module _ (plan : Plan) (start : ℕ) (rows : List TableRow) (step : Step) (row : TableRow) where
  -- the content of a stream in a row
  abbrev stream_content : ℕ → StreamRow → StreamContent
  stream_content n r = record { bad = is_bad r.spawned; lives = map (life_of rows step.time n) r.living }

  -- a stream of a row does this, for a content and what its spawn clause does
  abbrev does : ℕ → ℕ → Stream → Spawned → StreamRow
  does n i s sp = stream_outcome plan start rows step (content start rows row) n i s sp

  -- its spawn clause does what it does, and its instances come to what they do by that
  pub record IsStreamOf (n i : ℕ) (s : Stream) (r : StreamRow) : Type 0 where
    pub spawned : r.spawned ≡ spawn_outcome plan.spec (content start rows row) (is_active start step (spawn_pacing (slice_get plan.pacings n))) s.spawn (survivors n s (last_row rows))
    pub living : r.living ≡ livings rows step.time n (comes_to plan start rows step row n i s r) (survivors n s (last_row rows) ++ newborn r.spawned (survivors n s (last_row rows)) (length rows))

  agrees : (n i : ℕ) (s : Stream) (r : StreamRow) (k : KnownStream) → IsStreamOf n i s r → KnowsStream plan start rows step row n i s r k → AgreesStream (stream_content n r) k
  agrees n i s r k is knows =
      let alive = survivors n s (last_row rows) in
      let comes = comes_to plan start rows step row n i s r in
      record {
        lives = subst (λ (ls : List Living). AgreeLives (map (life_of rows step.time n) ls) k.lives) (sym is.living)
            (stream-lives rows step.time n comes r.spawned k.spawned alive k.lives knows.spawned knows.lives);
        bad = λ sp e. ap is_bad (knows.spawned sp e);
        all = λ sp e. ap (λ (ls : List Living). length (map (life_of rows step.time n) ls)) is.living
            ∙ stream-length rows step.time n comes r.spawned k.spawned alive k.lives knows.spawned knows.lives sp e;
      }

  -- each stream of a row that solves the equations is such a stream
  abbrev pub AreStreamsOf : ℕ → ℕ → List Stream → List StreamRow → Type 0
  AreStreamsOf n i [] [] = Unit {0}
  AreStreamsOf n i (s ∷ ss) (r ∷ rs) = IsStreamOf n i s r × AreStreamsOf (n + 1) (if is_input s then i + 1 else i) ss rs
  AreStreamsOf n i _ _ = ⊥

  -- what is known of a stream that is there, and that is none where there is none
  abbrev BothAt : Option StreamContent → Option KnownStream → Type 0
  BothAt None None = Unit {0}
  BothAt (Some c) (Some k) = AgreesStream c k
  BothAt _ _ = ⊥

  at-place : (n i : ℕ) (ss : List Stream) (rs : List StreamRow) (ks : List KnownStream) → AreStreamsOf n i ss rs → KnowsFrom plan start rows step row n i ss rs ks
      → (m : ℕ) → BothAt (slice_get (streams_from rows step.time n rs) m) (slice_get ks m)
  at-place n i [] [] [] are knows m = tt
  at-place n i [] [] (k ∷ ks) are knows m = absurd knows
  at-place n i [] (r ∷ rs) ks are knows m = absurd are
  at-place n i (s ∷ ss) [] ks are knows m = absurd are
  at-place n i (s ∷ ss) (r ∷ rs) [] are knows m = absurd knows
  at-place n i (s ∷ ss) (r ∷ rs) (k ∷ ks) are knows zero = agrees n i s r k are.0 knows.0
  at-place n i (s ∷ ss) (r ∷ rs) (k ∷ ks) are knows (suc m) = at-place (n + 1) (if is_input s then i + 1 else i) ss rs ks are.1 knows.1 m

  -- the streams of a row that solves the equations
  solved-from : (n i : ℕ) (ss : List Stream) (rs : List StreamRow) → rs ≡ outcomes_from plan start rows step row n i ss
      → ((m : ℕ) → slice_get row.streams (n + m) ≡ slice_get rs m) → AreStreamsOf n i ss rs
  solved-from n i [] [] e at = tt
  solved-from n i [] (r ∷ rs) e at = absurd (cc e)
  solved-from n i (s ∷ ss) [] e at = absurd (cc e)
  solved-from n i (s ∷ ss) (r ∷ rs) e at =
      let both = parts r (does n i s (spawned_in (slice_get row.streams n))) rs (outcomes_from plan start rows step row (n + 1) (if is_input s then i + 1 else i) ss) e in
      let here : r ≡ does n i s (spawned_in (slice_get row.streams n)) = both.0 in
      let own : spawned_in (slice_get row.streams n) ≡ r.spawned = (let z : n ≡ n + 0 = omega arith in ap (λ m. spawned_in (slice_get row.streams m)) z ∙ ap spawned_in (at 0)) in
      let rest : rs ≡ outcomes_from plan start rows step row (n + 1) (if is_input s then i + 1 else i) ss = both.1 in (
        record {
          spawned = ap (λ (q : StreamRow). q.spawned) here;
          living = ap (λ (q : StreamRow). q.living) here
              ∙ ap (λ sp. livings rows step.time n (λ x. outcome_of plan start rows step (content start rows row) n i s sp x) (survivors n s (last_row rows) ++ newborn sp (survivors n s (last_row rows)) (length rows))) own;
        },
        solved-from (n + 1) (if is_input s then i + 1 else i) ss rs rest (λ m. (let z : n + 1 + m ≡ n + suc m = omega arith in ap (slice_get row.streams) z) ∙ at (suc m)),
      )

  pub streams-are : Solves plan start rows step row → AreStreamsOf 0 0 plan.spec.streams row.streams
  streams-are solves = solved-from 0 0 plan.spec.streams row.streams solves (λ m. let z : 0 + m ≡ m = omega arith in ap (slice_get row.streams) z)

  module _ (moment : row.step.time ≡ step.time) (solves : Solves plan start rows step row) (known : List KnownStream) (knows : Knows plan start rows step row known) where
    at-stream : (m : ℕ) → BothAt (slice_get (content start rows row).streams m) (slice_get known m)
    at-stream m =
        subst (λ t. BothAt (slice_get (streams_from rows t 0 row.streams) m) (slice_get known m)) (sym moment)
        (at-place 0 0 plan.spec.streams row.streams known (streams-are solves) knows m)

    -- what an access reads is what it answers
    pub reads-right : (how : Access) (m : ℕ) (p : List Field) → Answers (read_in plan.spec start step.time known how m p) (answer_of (content start rows row) how m p)
    reads-right how m p = go (slice_get (content start rows row).streams m) (slice_get known m) (at-stream m)
      where
        missing : (how : Access) → accessed how false None ≡ Missing
        missing access.Direct = refl
        missing access.Get = refl
        missing access.Hold = refl
        missing (access.Offset k) = refl

        go : (c : Option StreamContent) (k : Option KnownStream) → BothAt c k → Answers (read_at how m p k) (accessed how (bad_in c) (life_in p c))
        go None None both = λ a e. missing how ∙ is-ok Missing a e
        go None (Some k) both = absurd both
        go (Some c) None both = absurd both
        go (Some c) (Some k) both = read-right how m p c k both

    -- what a window comes to is what it answers
    pub windows-right : (w : ℕ) (p : List Field) → Answers (window_in plan.spec start step.time known w p) (window_of plan.spec (content start rows row) (slice_get plan.spec.windows w) p)
    windows-right w p = of-window (slice_get plan.spec.windows w)
      where
        of-window : (o : Option WindowSpec) → Answers (window_of_spec plan.spec start step.time known o p) (window_of plan.spec (content start rows row) o p)
        of-window None = λ a e. is-ok Missing a e
        of-window (Some v) =
            subst (λ t. Answers (window_at start step.time v (target_kind plan.spec.streams v) p (slice_get known v.target))
            (windowed start t v (target_kind plan.spec.streams v) (bad_in (slice_get (content start rows row).streams v.target)) (life_in p (slice_get (content start rows row).streams v.target)))) (sym moment)
            (over v (slice_get (content start rows row).streams v.target) (slice_get known v.target) (at-stream v.target))
          where
            over : (v : WindowSpec) (c : Option StreamContent) (k : Option KnownStream) → BothAt c k
                → Answers (window_at start step.time v (target_kind plan.spec.streams v) p k) (windowed start step.time v (target_kind plan.spec.streams v) (bad_in c) (life_in p c))
            over v None None both = λ a e. is-ok _ a e
            over v None (Some k) both = absurd both
            over v (Some c) None both = absurd both
            over v (Some c) (Some k) both = window-right start step.time v (target_kind plan.spec.streams v) p c k both
