-- A step that is answered: its fault, its lines, and what is known once it is behind.
use Rattle.std.proofs.Common.{◌≡◌, ◌∙◌, refl, sym, ap, subst, inl, inr, ℕ, zero, suc, ◌+◌, ◌≤◌, List, [], ◌∷◌, ◌++◌, Option, Some, None, Bool, true, false, if◌then◌else◌, arith, drop, is_some, IfOk, OnOk, Result, Ok, Err, length, slice_get}
use Rattle.std.specs.Prelude.{filter_map}
use Rattle.std.specs.Option.{option_map}
use Rattle.lola_value.specs.declared.text.Memory.{Memory}
use Rattle.std.specs.List.{AllByRecursion}
use Rattle.std.proofs.lemmas.List.{length-append}
use Rattle.std.proofs.lemmas.List.Elements.{filter_map-append}
use Rattle.lola_value.specs.declared.text.Field.{Field}
use Rattle.lola_value.specs.declared.value.FaultKind.{FaultKind}
use Rattle.lola_value.specs.Answer.{Answer}
use Rattle.lola_model.proofs.Growing.{row_fault_some}
use Rattle.lola_model.proofs.Growth.{AreBornBy, AreFound, AreOrderly, last_row-append}
use Rattle.lola_model.proofs.Orderly.{AreAllBornBy, IsOneOf, answered_orderly, of_more_rows, orderly_evaluated}
use Rattle.lola_model.specs.Accepted.{IsAcyclic}
use Rattle.lola_model.specs.Accesses.{answer_of}
use Rattle.lola_model.specs.Content.{content, outcome_among, outcome_in, time_of, timed, value_in, values_over}
use Rattle.lola_model.specs.Denotation.{window_of}
use Rattle.lola_model.specs.Faults.{RowFault, first_with, least_kind, or_else, own_fault, row_fault}
use Rattle.lola_model.specs.Model.{answered, closes_from, has_evaluation_fault, has_fault, IsRow, is_closed, is_input, last_row, survivors, survivors_in, surviving, with_closes}
use Rattle.lola_model.specs.Table.{Step, Instance, Living, StreamRow, TableRow}
use Rattle.lola_model.specs.Texts.{answer_lines, living_lines, row_lines, stream_lines}
use Rattle.lola_model.specs.declared.expr.Access.{Access}
use Rattle.lola_model.specs.declared.journal.Show.{Show}
use Rattle.lola_model.specs.declared.plan.Plan.{Plan}
use Rattle.lola_model.specs.declared.spec.Stream.{Stream}
use Rattle.lola_replay_table.specs.Answers.{kept_answer}
use Rattle.lola_replay_table.specs.Open.{IsOpen}
use Rattle.lola_replay_table.specs.Resting.{given_at, left_lives, rested_life}
use Rattle.lola_replay_table.specs.Tries.{read_in, window_in}
use Rattle.lola_replay_table.specs.declared.answer.KeptAnswer.{KeptAnswer}
use Rattle.lola_replay_table.specs.declared.answer.KeptAnswer.TheVariants as kept
use Rattle.lola_replay_table.specs.declared.question.Question.{Question}
use Rattle.lola_replay_table.specs.declared.question.Question.TheVariants.{SpawnOf, OutcomeOf}
use Rattle.lola_replay_table.specs.declared.table.KnownLife.{KnownLife}
use Rattle.lola_replay_table.specs.declared.table.KnownStream.{KnownStream}
use Rattle.lola_replay_step.specs.Agreements.{Knows, KnowsFrom, Solves}
use Rattle.lola_replay_step.specs.Closings.{closed_from, closed_of, closes_by, closes_to, faulted_of, fault_or, first_closing, least_closing, least_of}
use Rattle.lola_replay_step.specs.Rests.{AreBornIn, IsAnswered, IsFirst, IsPlaced, RestLives, Rests, RestsFrom, RestsLife, Judged, begun, fault_known, fresh_from, known_lines, life_lines, rested_all}
use Rattle.lola_replay_step.specs.AnsweringOf.{AnswersAll}
use Rattle.lola_replay_step.specs.StepFaults.{first_known, outcome_known, the_fault}
use Rattle.lola_replay_step.specs.declared.fault.StepFault.{StepFault}
use Rattle.lola_replay_step.proofs.AllAnswered.{AnswersFrom, AnswersLife, AnswersLives, all-answered}
use Rattle.lola_replay_step.proofs.Begins.{answered-is, begins, closed-if, has-row, open-solves, open-streams, row-with}
use Rattle.lola_replay_step.proofs.Bridges.{reads-right, streams-are, windows-right}
use Rattle.lola_replay_step.proofs.ClosingLemmas.{closed-are, closed_list, closes-known, closing_of, faults-are, instances_of, is-closed, least_list}
use Rattle.lola_replay_step.proofs.FaultLemmas.{fault-or-is, first-is, least-assoc, least-none, some-evaluation}
use Rattle.lola_replay_step.proofs.TryLemmas.{Answers}

-- lines

module _ (rows : List TableRow) (show : Show) (time : ℕ) where
  living-lines : (n : ℕ) (s : Stream) (ls : List Living) (ks : List KnownLife) → AnswersLives rows time n ls ks → life_lines show time s ks ≡ living_lines show time s ls
  living-lines n s [] [] answers = refl
  living-lines n s [] (k ∷ ks) answers = absurd answers
  living-lines n s (l ∷ ls) [] answers = absurd answers
  living-lines n s (l ∷ ls) (k ∷ ks) answers =
      ap (λ (p : List Field). answer_lines show time s p (outcome_known k.outcome) ++ life_lines show time s ks) answers.0.params
      ∙ ap (λ a. answer_lines show time s l.instance.params a ++ life_lines show time s ks) (ap outcome_known answers.0.known ∙ sym answers.0.is)
      ∙ ap (λ ts. answer_lines show time s l.instance.params l.outcome ++ ts) (living-lines n s ls ks answers.1)

  all-lines : (n : ℕ) (ss : List Stream) (rs : List StreamRow) (ks : List KnownStream) → AnswersFrom rows time n rs ks → known_lines show time ss ks ≡ stream_lines show time ss rs
  all-lines n [] [] [] answers = refl
  all-lines n [] [] (k ∷ ks) answers = refl
  all-lines n [] (r ∷ rs) [] answers = refl
  all-lines n [] (r ∷ rs) (k ∷ ks) answers = refl
  all-lines n (s ∷ ss) [] [] answers = refl
  all-lines n (s ∷ ss) [] (k ∷ ks) answers = absurd answers
  all-lines n (s ∷ ss) (r ∷ rs) [] answers = absurd answers
  all-lines n (s ∷ ss) (r ∷ rs) (k ∷ ks) answers =
      ap (λ ts. ts ++ known_lines show time ss ks) (living-lines n s r.living k.lives answers.0.lives)
      ∙ ap (λ ts. living_lines show time s r.living ++ ts) (all-lines (n + 1) ss rs ks answers.1)

  closed-lines : (plan : Plan) (start : ℕ) (row : TableRow) (n : ℕ) (all ss : List Stream) (rs : List StreamRow)
      → stream_lines show time all (closes_from plan start rows row n ss rs) ≡ stream_lines show time all rs
  closed-lines plan start row n [] ss rs = refl
  closed-lines plan start row n (t ∷ ts) [] rs = refl
  closed-lines plan start row n (t ∷ ts) (s ∷ ss) [] = refl
  closed-lines plan start row n (t ∷ ts) (s ∷ ss) (r ∷ rs) = ap (λ ls. living_lines show time t r.living ++ ls) (closed-lines plan start row (n + 1) ts ss rs)

-- a value is behind its step

drop-more : (b : ℕ) (rows : List TableRow) (row : TableRow) → b ≤ length rows → drop b (rows ++ row ∷ []) ≡ drop b rows ++ row ∷ []
drop-more zero rows row h = refl
drop-more (suc b) [] row h = absurd (omega arith)
drop-more (suc b) (r ∷ rs) row h = drop-more b rs row (omega arith)

time-more : (b t : ℕ) (rows : List TableRow) (row : TableRow) → row.step.time ≡ t → b ≤ length rows → time_of t (slice_get rows b) ≡ time_of 0 (slice_get (rows ++ row ∷ []) b)
time-more zero t [] row e h = sym e
time-more zero t (r ∷ rs) row e h = refl
time-more (suc b) t [] row e h = absurd (omega arith)
time-more (suc b) t (r ∷ rs) row e h = time-more b t rs row e (omega arith)

placed-more : (rows : List TableRow) (row : TableRow) (x : Instance) → x.born ≤ length rows → IsPlaced (rows ++ row ∷ []) x
placed-more [] row x h = omega arith
placed-more (r ∷ rs) row x h = (let long = length-append rs (row ∷ []) in omega (arith, long))

given-of : (t : ℕ) (a : KeptAnswer) → filter_map (λ (o : Option (ℕ × Field)). o) (timed t (kept_answer a) ∷ []) ≡ given_at t (Some a)
given-of t (kept.Given v) = refl
given-of t kept.Missing = refl
given-of t (kept.Fault k) = refl
given-of t kept.Poisoned = refl

given-now : (t : ℕ) (x : Answer) (o : Option KeptAnswer) (a : KeptAnswer) → o ≡ Some a → x ≡ kept_answer a
    → filter_map (λ (v : Option (ℕ × Field)). v) (timed t x ∷ []) ≡ given_at t o
given-now t x o a known is =
    ap (λ (y : Answer). filter_map (λ (v : Option (ℕ × Field)). v) (timed t y ∷ [])) is ∙ given-of t a ∙ ap (given_at t) (sym known)

-- those that are left, of lists that go on

left-front : (time : ℕ) (bs more : List Bool) (ks : List KnownLife) → length bs ≡ length ks → left_lives time (bs ++ more) ks ≡ left_lives time bs ks
left-front time [] [] [] long = refl
left-front time [] (b ∷ more) [] long = refl
left-front time (b ∷ bs) more [] long = refl
left-front time [] more (k ∷ ks) long = absurd (omega (arith, long))
left-front time (b ∷ bs) more (k ∷ ks) long = ap (λ ls. if b then ls else rested_life time k ∷ ls) (left-front time bs more ks (omega (arith, long)))

drop-front : {A : Type 0} (bs more : List A) (n : ℕ) → length bs ≡ n → drop n (bs ++ more) ≡ more
drop-front [] more zero long = refl
drop-front [] more (suc n) long = absurd (omega (arith, long))
drop-front (b ∷ bs) more zero long = absurd (omega (arith, long))
drop-front (b ∷ bs) more (suc n) long = drop-front bs more n (omega (arith, long))

module _ (plan : Plan) (start : ℕ) (step : Step) (known : List KnownStream) where
  closed-long : (n : ℕ) (s : Stream) (ks : List KnownLife) → length (closed_of plan start step known n s ks) ≡ length ks
  closed-long n s [] = refl
  closed-long n s (k ∷ ks) = (let rest = closed-long n s ks in omega (arith, rest))

  module _ (rows : List TableRow) (xs : List StreamRow) (none : (q : Question) → ¬ (IsOpen known q))
      (reading : (how : Access) (m : ℕ) (p : List Field) → Answers (read_in plan.spec start step.time known how m p) (answer_of (content start rows (row-with plan start rows step xs)) how m p))
      (windows : (w : ℕ) (p : List Field) → Answers (window_in plan.spec start step.time known w p) (window_of plan.spec (content start rows (row-with plan start rows step xs)) (slice_get plan.spec.windows w) p)) where
    abbrev open-row : TableRow
    open-row = row-with plan start rows step xs

    abbrev closing-by : ℕ → Stream → Instance → Answer
    closing-by n s x = closing_of plan start rows step n s (content start rows open-row) x

    closes-is : (n : ℕ) (s : Stream) (l : Living) (k : KnownLife) → AnswersLife rows step.time n l k → closes_to plan start step known n s k ≡ closing-by n s l.instance
    closes-is n s l k answers = closes-known plan start step known none (content start rows open-row) reading windows rows n s l.instance k answers.params answers.born

    -- the least fault of close conditions
    least-closing : (n : ℕ) (s : Stream) (best : Option FaultKind) (ls : List Living) (ks : List KnownLife) → AnswersLives rows step.time n ls ks
        → least_closing plan start step known n s best ks ≡ least_of best (least_list (closing-by n s) ls)
    least-closing n s best [] [] answers = sym (least-none best)
    least-closing n s best [] (k ∷ ks) answers = absurd answers
    least-closing n s best (l ∷ ls) [] answers = absurd answers
    least-closing n s best (l ∷ ls) (k ∷ ks) answers =
        let f = faulted_of (closes_to plan start step known n s k) in
        least-closing n s (least_of best f) ls ks answers.1
        ∙ least-assoc best f (least_list (closing-by n s) ls)
        ∙ ap (λ a. least_of best (least_of (faulted_of a) (least_list (closing-by n s) ls))) (closes-is n s l k answers.0)

    first-closing : (n : ℕ) (ss : List Stream) (rs : List StreamRow) (ks : List KnownStream) → length ss ≡ length rs → AnswersFrom rows step.time n rs ks
        → first_closing plan start step known n ss ks ≡ first_with (λ (s : StreamRow). least_kind s.close_faults) n (closes_from plan start rows open-row n ss rs)
    first-closing n [] [] [] long answers = refl
    first-closing n [] [] (k ∷ ks) long answers = absurd answers
    first-closing n [] (r ∷ rs) ks long answers = absurd (omega (arith, long))
    first-closing n (s ∷ ss) [] ks long answers = absurd (omega (arith, long))
    first-closing n (s ∷ ss) (r ∷ rs) [] long answers = absurd answers
    first-closing n (s ∷ ss) (r ∷ rs) (k ∷ ks) long answers =
        let rest = closes_from plan start rows open-row (n + 1) ss rs in
        let r' = with_closes plan start rows open-row n s r in
        let here : least_closing plan start step known n s None k.lives ≡ least_kind r'.close_faults =
        least-closing n s None r.living k.lives answers.0.lives ∙ sym (faults-are plan start rows step n s (content start rows open-row) r.living) in
        ap (λ o. fault_or n o (first_closing plan start step known (n + 1) ss ks)) here
        ∙ ap (fault_or n (least_kind r'.close_faults)) (first-closing (n + 1) ss rs ks (omega (arith, long)) answers.1)
        ∙ fault-or-is n (least_kind r'.close_faults) (first_with (λ (s : StreamRow). least_kind s.close_faults) (n + 1) rest)

    -- what is known once the step is behind it
    module _ (zs : List StreamRow) where
      abbrev row : TableRow
      row = row-with plan start rows step zs

      abbrev more-rows : List TableRow
      more-rows = rows ++ row ∷ []

      life-rests : (n : ℕ) (r : StreamRow) → slice_get zs n ≡ Some r → (l : Living) (k : KnownLife) → AnswersLife rows step.time n l k → l.instance.born ≤ length rows
          → outcome_among l.instance r.living ≡ l.outcome → RestsLife more-rows n l.instance (rested_life step.time k)
      life-rests n r at l k answers born found =
          let x = l.instance in
          record {
            params = answers.params;
            born = answers.born ∙ time-more x.born step.time rows row refl born;
            earlier = ap (λ vs. vs ++ given_at step.time k.outcome) answers.earlier
                ∙ ap (λ vs. values_over n x (drop x.born rows) ++ vs)
                (sym (given-now step.time (outcome_in x (slice_get row.streams n)) k.outcome answers.answer answers.known (ap (outcome_in x) at ∙ found ∙ answers.is)))
                ∙ (sym (filter_map-append (value_in n x) (drop x.born rows) (row ∷ [])) ∙ ap (values_over n x) (sym (drop-more x.born rows row born)));
            outcome = refl;
            placed = placed-more rows row x born;
          }

      lives-rest : (n : ℕ) (s : Stream) (r : StreamRow) → slice_get zs n ≡ Some r → (all ls : List Living) (ks : List KnownLife) → AnswersLives rows step.time n ls ks
          → AreBornBy (length rows) ls → AreFound r.living ls → ((x : Instance) → IsOneOf x (instances_of ls) → IsOneOf x (instances_of all))
          → RestLives more-rows n (surviving (closed_list (closing-by n s) all) ls) (left_lives step.time (closed_of plan start step known n s ks) ks)
      lives-rest n s r at all [] [] answers born found among = tt
      lives-rest n s r at all [] (k ∷ ks) answers born found among = absurd answers
      lives-rest n s r at all (l ∷ ls) [] answers born found among = absurd answers
      lives-rest n s r at all (l ∷ ls) (k ∷ ks) answers born found among =
          go (is_closed (closed_list (closing-by n s) all) l.instance) (closes_by (closes_to plan start step known n s k))
          (is-closed (closing-by n s) l.instance all (among l.instance (inl refl)) ∙ ap closes_by (sym (closes-is n s l k answers.0)))
          (lives-rest n s r at all ls ks answers.1 born.1 found.1 (λ x one. among x (inr one)))
        where
          go : (b c : Bool) → b ≡ c → RestLives more-rows n (surviving (closed_list (closing-by n s) all) ls) (left_lives step.time (closed_of plan start step known n s ks) ks)
              → RestLives more-rows n (if b then surviving (closed_list (closing-by n s) all) ls else l.instance ∷ surviving (closed_list (closing-by n s) all) ls)
              (if c then left_lives step.time (closed_of plan start step known n s ks) ks else rested_life step.time k ∷ left_lives step.time (closed_of plan start step known n s ks) ks)
          go true true e rest = rest
          go true false e rest = absurd (cc e)
          go false true e rest = absurd (cc e)
          go false false e rest = (life-rests n r at l k answers.0 born.0 found.0, rest)

      streams-rest : (n i : ℕ) (ss : List Stream) (rs : List StreamRow) (ks : List KnownStream) → KnowsFrom plan start rows step open-row n i ss rs ks → AnswersFrom rows step.time n rs ks
          → AreOrderly (length rows) rs → ((j : ℕ) → slice_get zs (n + j) ≡ slice_get (closes_from plan start rows open-row n ss rs) j)
          → RestsFrom more-rows n i ss (rested_all step.time (closed_from plan start step known n ss ks) ks)
      streams-rest n i [] [] [] knows answers orderly at = tt
      streams-rest n i [] [] (k ∷ ks) knows answers orderly at = absurd knows
      streams-rest n i [] (r ∷ rs) ks knows answers orderly at = absurd knows
      streams-rest n i (s ∷ ss) [] ks knows answers orderly at = absurd knows
      streams-rest n i (s ∷ ss) (r ∷ rs) [] knows answers orderly at = absurd knows
      streams-rest n i (s ∷ ss) (r ∷ rs) (k ∷ ks) knows answers orderly at =
          let c = content start rows open-row in
          let closed-here = closed_of plan start step known n s k.lives in
          let more = closed_from plan start step known (n + 1) ss ks in
          let r' = with_closes plan start rows open-row n s r in
          let here : slice_get zs n ≡ Some r' = (let z : n ≡ n + 0 = omega arith in ap (slice_get zs) z ∙ at 0) in
          let alive : survivors n s (last_row more-rows) ≡ surviving (closed_list (closing-by n s) r.living) r.living =
          ap (survivors n s) (last_row-append rows row) ∙ ap survivors_in here ∙ ap (λ is. surviving is r.living) (closed-are plan start rows step n s c r.living) in
          let lives = lives-rest n s r' here r.living r.living k.lives answers.0.lives orderly.1 orderly.0 (λ x one. one) in
          let front : left_lives step.time (closed-here ++ more) k.lives ≡ left_lives step.time closed-here k.lives = left-front step.time closed-here more k.lives (closed-long n s k.lives) in
          let behind : drop (length k.lives) (closed-here ++ more) ≡ more = drop-front closed-here more (length k.lives) (closed-long n s k.lives) in
          let rest = streams-rest (n + 1) (if is_input s then i + 1 else i) ss rs ks knows.1 answers.1 orderly.2 (λ j. (let z : n + 1 + j ≡ n + suc j = omega arith in ap (slice_get zs) z) ∙ at (suc j)) in (
            record {
              input = knows.0.input;
              spawned = refl;
              lives = subst (λ (ks : List KnownLife). RestLives more-rows n (survivors n s (last_row more-rows)) ks) (sym front)
                  (subst (λ (is : List Instance). RestLives more-rows n is (left_lives step.time closed-here k.lives)) (sym alive) lives);
            },
            subst (λ (bs : List Bool). RestsFrom more-rows (n + 1) (if is_input s then i + 1 else i) ss (rested_all step.time bs ks)) (sym behind) rest,
          )

own-closed : (plan : Plan) (start : ℕ) (rows : List TableRow) (of : TableRow) (n m : ℕ) (ss : List Stream) (rs : List StreamRow)
    → first_with own_fault m (closes_from plan start rows of n ss rs) ≡ first_with own_fault m rs
own-closed plan start rows of n m [] rs = refl
own-closed plan start rows of n m (s ∷ ss) [] = refl
own-closed plan start rows of n m (s ∷ ss) (r ∷ rs) =
    ap (λ o. elim (own_fault r) [ None ↦ o | Some k ↦ Some (record { stream = m; kind = k }) ]) (own-closed plan start rows of (n + 1) (m + 1) ss rs)

some-first-of : (o a b : Option RowFault) → is_some o ≡ true → or_else o a ≡ or_else o b
some-first-of None a b some = absurd (cc some)
some-first-of (Some f) a b some = refl

born-all : (n : ℕ) (xs : List Instance) → AllByRecursion (λ (x : Instance). x.born ≤ n) xs → AreAllBornBy n xs
born-all n [] all = tt
born-all n (x ∷ xs) all = (all.0, born-all n xs all.1)

all-born : (n : ℕ) (xs : List Instance) → AreAllBornBy n xs → AllByRecursion (λ (x : Instance). x.born ≤ n) xs
all-born n [] all = tt
all-born n (x ∷ xs) all = (all.0, all-born n xs all.1)

-- the instances that live after one more row were born in the rows
pub born-more : (plan : Plan) (start : ℕ) (rows : List TableRow) (step : Step) → AreBornIn rows → AreBornIn (rows ++ answered plan start rows step ∷ [])
born-more plan start rows step born n s =
    let all = rows ++ answered plan start rows step ∷ [] in
    all-born (length all) (survivors n s (last_row all))
    (of_more_rows rows (answered plan start rows step) (answered_orderly plan start rows step (λ m t. born-all (length rows) (survivors m t (last_row rows)) (born m t))) n s)

known-long : (plan : Plan) (start : ℕ) (rows : List TableRow) (step : Step) (row : TableRow) (n i : ℕ) (ss : List Stream) (rs : List StreamRow) (ks : List KnownStream)
    → KnowsFrom plan start rows step row n i ss rs ks → length ss ≡ length rs
known-long plan start rows step row n i [] [] [] knows = refl
known-long plan start rows step row n i [] [] (k ∷ ks) knows = absurd knows
known-long plan start rows step row n i [] (r ∷ rs) ks knows = absurd knows
known-long plan start rows step row n i (s ∷ ss) [] ks knows = absurd knows
known-long plan start rows step row n i (s ∷ ss) (r ∷ rs) [] knows = absurd knows
known-long plan start rows step row n i (s ∷ ss) (r ∷ rs) (k ∷ ks) knows =
    (let rest = known-long plan start rows step row (n + 1) (if is_input s then i + 1 else i) ss rs ks knows.1 in omega (arith, rest))

none-first : (a b : Option RowFault) → or_else a b ≡ None → a ≡ None
none-first None b e = refl
none-first (Some f) b e = absurd (cc e)

module _ (plan : Plan) (acyclic : IsAcyclic plan.spec) (start : ℕ) (step : Step) (rows : List TableRow) (born : AreBornIn rows) (first : Bool) (is : IsFirst first rows)
    (before after : List KnownStream) (rested : Rests plan rows before) (settles : AnswersAll plan start step (begun plan first step.time before) after) where
  lawful : IsRow plan start rows step (answered plan start rows step)
  lawful = (has-row plan acyclic start).solves rows step

  -- the streams of the row before its closes
  abbrev opened : List StreamRow
  opened = open-streams plan start rows step

  abbrev opened-row : TableRow
  opened-row = row-with plan start rows step opened

  opened-solves : Solves plan start rows step opened-row
  opened-solves = open-solves plan start rows step lawful

  opened-knows : Knows plan start rows step opened-row after
  opened-knows =
      settles.keeps rows opened-row refl opened-solves
      (begins plan start step opened-row first rows before is (streams-are plan start rows step opened-row opened-solves) rested)

  opened-answers : AnswersFrom rows step.time 0 opened after
  opened-answers =
      all-answered plan start rows step opened-row opened-solves after opened-knows (λ m. settles.answered (SpawnOf m)) (λ m place. settles.answered (OutcomeOf m place))

  opened-reads : (how : Access) (m : ℕ) (p : List Field) → Answers (read_in plan.spec start step.time after how m p) (answer_of (content start rows opened-row) how m p)
  opened-reads how m p = reads-right plan start rows step opened-row refl opened-solves after opened-knows how m p

  opened-windows : (w : ℕ) (p : List Field) → Answers (window_in plan.spec start step.time after w p) (window_of plan.spec (content start rows opened-row) (slice_get plan.spec.windows w) p)
  opened-windows w p = windows-right plan start rows step opened-row refl opened-solves after opened-knows w p

  opened-long : length plan.spec.streams ≡ length opened
  opened-long = known-long plan start rows step opened-row 0 0 plan.spec.streams opened after opened-knows

  opened-orderly : AreOrderly (length rows) opened
  opened-orderly = orderly_evaluated plan start rows step (answered plan start rows step) (λ n s. born-all (length rows) (survivors n s (last_row rows)) (born n s))

  closing-fault : first_closing plan start step after 0 plan.spec.streams after
      ≡ first_with (λ (s : StreamRow). least_kind s.close_faults) 0 (closes_from plan start rows opened-row 0 plan.spec.streams opened)
  closing-fault = first-closing plan start step after rows opened settles.answered opened-reads opened-windows 0 plan.spec.streams opened after opened-long opened-answers

  own-known : first_known 0 after ≡ first_with own_fault 0 opened
  own-known = first-is rows step.time 0 opened after opened-answers

  by-fault : (b : Bool) → has_evaluation_fault opened ≡ b → row_fault (row-with plan start rows step (closed-if plan start rows step b opened)) ≡ fault_known plan start step after
  by-fault true e =
      some-first-of (first_with own_fault 0 opened) (first_with (λ (s : StreamRow). least_kind s.close_faults) 0 opened) (first_closing plan start step after 0 plan.spec.streams after) (some-evaluation 0 opened ∙ e)
      ∙ ap (λ o. or_else o (first_closing plan start step after 0 plan.spec.streams after)) (sym own-known)
  by-fault false e =
      ap (λ o. or_else o (first_with (λ (s : StreamRow). least_kind s.close_faults) 0 (closes_from plan start rows opened-row 0 plan.spec.streams opened)))
      (own-closed plan start rows opened-row 0 0 plan.spec.streams opened ∙ sym own-known)
      ∙ ap (or_else (first_known 0 after)) (sym closing-fault)

  fault-is : row_fault (answered plan start rows step) ≡ fault_known plan start step after
  fault-is = ap row_fault (answered-is plan start rows step lawful) ∙ by-fault (has_evaluation_fault opened) refl

  module _ (none : fault_known plan start step after ≡ None) where
    no-evaluation : has_evaluation_fault opened ≡ false
    no-evaluation =
        sym (some-evaluation 0 opened)
        ∙ ap is_some (sym own-known ∙ none-first (first_known 0 after) (first_closing plan start step after 0 plan.spec.streams after) none)

    no-fault : has_fault (answered plan start rows step) ≡ false
    no-fault = sym (row_fault_some (answered plan start rows step)) ∙ ap is_some (fault-is ∙ none)

    closed-row : answered plan start rows step ≡ row-with plan start rows step (closes_from plan start rows opened-row 0 plan.spec.streams opened)
    closed-row = answered-is plan start rows step lawful ∙ ap (λ b. row-with plan start rows step (closed-if plan start rows step b opened)) no-evaluation

    step-lines : (show : Show) → row_lines show plan.spec.streams (answered plan start rows step) ≡ known_lines show step.time plan.spec.streams after
    step-lines show =
        ap (λ b. if b then [] else stream_lines show (answered plan start rows step).step.time plan.spec.streams (answered plan start rows step).streams) no-fault
        ∙ ap (λ (r : TableRow). stream_lines show r.step.time plan.spec.streams r.streams) closed-row
        ∙ closed-lines rows show step.time plan start opened-row 0 plan.spec.streams plan.spec.streams opened
        ∙ sym (all-lines rows show step.time 0 plan.spec.streams opened after opened-answers)

    step-rests : Rests plan (rows ++ answered plan start rows step ∷ []) (rested_all step.time (closed_from plan start step after 0 plan.spec.streams after) after)
    step-rests =
        let zs = closes_from plan start rows opened-row 0 plan.spec.streams opened in
        subst (λ (r : TableRow). Rests plan (rows ++ r ∷ []) (rested_all step.time (closed_from plan start step after 0 plan.spec.streams after) after)) (sym closed-row)
        (streams-rest plan start step after rows opened settles.answered opened-reads opened-windows zs 0 0 plan.spec.streams opened after opened-knows opened-answers opened-orderly
        (λ j. let z : 0 + j ≡ j = omega arith in ap (slice_get zs) z))

  pub answered-step : (closed : List Bool) (fault : Option RowFault) → fault_known plan start step after ≡ fault
      → (fault ≡ None → closed ≡ closed_from plan start step after 0 plan.spec.streams after) → IsAnswered plan start step rows after closed fault
  answered-step closed fault told closes = record {
    lawful = lawful;
    born_in = born-more plan start rows step born;
    fault_is = fault-is ∙ told;
    lines_are = λ none show. step-lines (told ∙ none) show;
    rests = λ none.
        subst (λ (bs : List Bool). Rests plan (rows ++ answered plan start rows step ∷ []) (rested_all step.time bs after)) (sym (closes none)) (step-rests (told ∙ none));
  }

  -- what the step is judged to be is what its row is
  pub judged-step : (closed : List Bool) (r : Result (Option StepFault) Memory) → Judged plan start step after closed r
      → IfOk r (λ fault. IsAnswered plan start step rows after closed (option_map the_fault fault))
  judged-step closed (Ok None) judged = answered-step closed None judged.0 (λ none. judged.1)
  judged-step closed (Ok (Some f)) judged = answered-step closed (Some (the_fault f)) judged (λ none. absurd (cc none))
  judged-step closed (Err e) judged = tt

pub ok-any : {A E : Type 0} (P : Type 0) (r : Result A E) → P → OnOk r P
ok-any P (Ok x) p = p
ok-any P (Err e) p = tt

fresh-long : (time i : ℕ) (ss : List Stream) → length (fresh_from time i ss) ≡ length ss
fresh-long time i [] = refl
fresh-long time i (s ∷ ss) = (let rest = fresh-long time (if is_input s then i + 1 else i) ss in omega (arith, rest))

pub begun-long : (plan : Plan) (first : Bool) (time : ℕ) (known : List KnownStream) → length known ≡ length plan.spec.streams → length (begun plan first time known) ≡ length known
begun-long plan true time known long = fresh-long time 0 plan.spec.streams ∙ sym long
begun-long plan false time known long = refl
