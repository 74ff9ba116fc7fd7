-- How the inputs are told, one after the other.
use Rattle.std.proofs.Common.{◌≡◌, refl, ap, ◌∙◌, sym, subst, add-one, ℕ, zero, suc, ◌+◌, ◌≤◌, ◌<◌, ◌⊎◌, inl, inr, List, [], ◌∷◌, Option, Some, None, Bool, true, false, length, nat_lt, slice_get, unwrap_or, if◌then◌else◌, arith}
use Rattle.std.proofs.lemmas.Bool.{le-ltb, lt-ltb, cases_eq}
use Rattle.lola_value.specs.declared.text.Field.{Field}
use Rattle.lola_value.specs.declared.value.Kind.{Kind}
use Rattle.lola_value.specs.declared.value.Outcome.{Outcome}
use Rattle.lola_value.specs.declared.value.Outcome.TheVariants as outcome
use Rattle.lola_value.specs.Answer.{Answer}
use Rattle.lola_value.specs.Naming.{Naming, IsHeldIn, read_outcome}
use Rattle.lola_model.specs.Acceptance.{IsAccepted}
use Rattle.lola_model.specs.Content.{Content}
use Rattle.lola_model.specs.Graph.{eval_node, layer_of}
use Rattle.lola_model.specs.Model.{field_outcome, input_outcome, is_input, filled_kind}
use Rattle.lola_model.specs.Store.{Memories, Seen, SeenInstance, SeenStream, Stands, after_outcome, changed_at, instances_of, instances_seen, is_silent, kind_in, now_at, now_seen, start_seen, told_at}
use Rattle.lola_model.specs.declared.plan.Plan.{Plan}
use Rattle.lola_model.specs.declared.spec.Stream.{Stream}
use Rattle.lola_step_contents.specs.Changed.{told}
use Rattle.lola_step_contents.proofs.Tellings.{stands_told}
use Rattle.lola_step_contents.specs.Nexts.{inputs_before}
use Rattle.lola_step_contents.specs.Stages.{content_so_far, is_behind, is_evaluated}
use Rattle.lola_step_contents.proofs.Behind.{next_below}
use Rattle.lola_step_contents.proofs.Inputs.{inputs_go}
use Rattle.lola_step_contents.proofs.Shapes.{input_never_spawns, passes_at}
use Rattle.lola_step.specs.Inputs.{TakesInputsTo, input_outcome_at, input_stage}
use Rattle.lola_step.specs.Moments.{ReadAs}
use Rattle.lola_step.specs.Progress.{GoesOn, IsAt}
use Rattle.lola_step.specs.Steps.{AreInputs, AreOfInputs, BeginsWith, ReadFields, is_input_outcome}
use Rattle.lola_step.proofs.Layouts.{kind_there}
use Rattle.lola_step.proofs.Shown.{goes_on_far, told_else, told_goes_on, told_of, told_spawned}

-- an instance without an outcome may be told that it has none

silent_is_missing : (o : Outcome) → is_silent o ≡ true → o ≡ outcome.Missing
silent_is_missing (outcome.Value v) h = absurd (cc)
silent_is_missing outcome.Missing h = refl
silent_is_missing (outcome.Fault k) h = absurd (cc)
silent_is_missing outcome.Poison h = absurd (cc)

silent_instance : (xs : List SeenInstance) (i : ℕ) → is_silent (now_at (slice_get xs i)) ≡ true → told_at xs i outcome.Missing ≡ xs
silent_instance [] i h = refl
silent_instance (x ∷ xs) zero h = ap (λ (o : Outcome). record { params = x.params; born = x.born; outcome = o } ∷ xs) (sym (silent_is_missing x.outcome h))
silent_instance (x ∷ xs) (suc i) h = ap (λ ys. x ∷ ys) (silent_instance xs i h)

silent_stream : (ss : List SeenStream) (n i : ℕ) → is_silent (now_at (slice_get (instances_of (slice_get ss n)) i)) ≡ true
    → changed_at ss n (λ x. record x { instances = told_at x.instances i outcome.Missing }) ≡ ss
silent_stream [] n i h = refl
silent_stream (s ∷ ss) zero i h = ap (λ xs. record s { instances = xs } ∷ ss) (silent_instance s.instances i h)
silent_stream (s ∷ ss) (suc n) i h = ap (λ xs. s ∷ xs) (silent_stream ss n i h)

pub silent_seen : (s : Seen) (n i : ℕ) → is_silent (now_seen s n i) ≡ true → after_outcome s n i outcome.Missing ≡ s
silent_seen s n i h = ap (λ ss. record s { streams = ss }) (silent_stream s.streams n i h)

-- and the store stands for that, since it stood for it
pub silent_stands : (names : Naming) (remembers : Memories) (s : Seen) (c : Content) (n i : ℕ) (o : Outcome) → after_outcome s n i o ≡ s → IsHeldIn names o → Stands names remembers s c
    → Stands names remembers s (told c n i (read_outcome names o))
silent_stands names remembers s c n i o e held h =
    subst (λ t. Stands names remembers t (told c n i (read_outcome names o))) e (stands_told names remembers remembers (λ m j values kept. kept) s c n i o held h)

-- what is neither a fault nor poison nor a value is missing
pub no_value_is_missing : (k : Kind) (o : Outcome) → is_input_outcome k o ≡ true → ((v : _) → o ≡ outcome.Value v → ⊥) → o ≡ outcome.Missing
no_value_is_missing k (outcome.Value v) h d = absurd (d v refl)
no_value_is_missing k outcome.Missing h d = refl
no_value_is_missing k (outcome.Fault f) h d = absurd (cc)
no_value_is_missing k outcome.Poison h d = absurd (cc)

-- the number of an input

abbrev bit : Bool → ℕ
bit b = if b then 1 else 0

pub before_first : (ss : List Stream) → inputs_before ss zero ≡ 0
before_first [] = refl
before_first (s ∷ ss) = refl

before_next : (ss : List Stream) (n : ℕ) (s : Stream) → slice_get ss n ≡ Some s → inputs_before ss (suc n) ≡ inputs_before ss n + (if is_input s then 1 else 0)
before_next [] n s e = absurd (cc)
before_next (r ∷ ss) zero s e = let p : r ≡ s = cc in ap (λ k. bit (is_input r) + k) (before_first ss) ∙ (ap (λ (x : Stream). bit (is_input x) + 0) p ∙ add_comm (bit (is_input s)) 0)
  where
    add_comm : (j k : ℕ) → j + k ≡ k + j
    add_comm j k = omega arith
before_next (r ∷ ss) (suc n) s e =
    let h = before_next ss n s e in
    ap (λ k. (if is_input r then 1 else 0) + k) h ∙ (let a : (x y z : ℕ) → x + (y + z) ≡ x + y + z = λ x y z. omega arith in a (if is_input r then 1 else 0) (inputs_before ss n) (if is_input s then 1 else 0))

pub before_input : (ss : List Stream) (n : ℕ) (s : Stream) → slice_get ss n ≡ Some s → is_input s ≡ true → inputs_before ss (n + 1) ≡ inputs_before ss n + 1
before_input ss n s e i = ap (inputs_before ss) (add-one n) ∙ (before_next ss n s e ∙ ap (λ b. inputs_before ss n + (if b then 1 else 0)) i)

pub before_other : (ss : List Stream) (n : ℕ) (s : Stream) → slice_get ss n ≡ Some s → is_input s ≡ false → inputs_before ss (n + 1) ≡ inputs_before ss n
before_other ss n s e i =
    ap (inputs_before ss) (add-one n) ∙ (before_next ss n s e ∙ (ap (λ b. inputs_before ss n + (if b then 1 else 0)) i ∙ (let a : (x : ℕ) → x + 0 ≡ x = λ x. omega arith in a (inputs_before ss n))))

pub before_few : (ss : List Stream) (n : ℕ) → inputs_before ss n ≤ n
before_few [] n = omega arith
before_few (r ∷ ss) zero = omega arith
before_few (r ∷ ss) (suc n) = let h = before_few ss n in let k : (if is_input r then 1 else 0) ≤ 1 = at_most (is_input r) in omega (arith, h, k)
  where
    at_most : (b : Bool) → (if b then 1 else 0) ≤ 1
    at_most true = omega arith
    at_most false = omega arith

-- the outcome of an input is of its kind

abbrev Fits : Stream → List Outcome → ℕ → Type 0
Fits s os i = is_input_outcome (filled_kind s) (input_outcome_at os i) ≡ true

first_fits : (r : Stream) (ss : List Stream) (b : Bool) (os : List Outcome) → b ≡ true → BeginsWith b r (AreOfInputs ss) os → Fits r os 0
first_fits r ss true [] q h = absurd h
first_fits r ss true (o ∷ os) q h = h.0
first_fits r ss false os q h = absurd (cc)

others_fit : (r : Stream) (ss : List Stream) (n : ℕ) (s : Stream) (b : Bool) (os : List Outcome) → ((qs : List Outcome) → AreOfInputs ss qs → Fits s qs (inputs_before ss n))
    → BeginsWith b r (AreOfInputs ss) os → Fits s os (bit b + inputs_before ss n)
others_fit r ss n s true [] f h = absurd h
others_fit r ss n s true (o ∷ os) f h = let a : 1 + inputs_before ss n ≡ suc (inputs_before ss n) = omega arith in subst (Fits s (o ∷ os)) (sym a) (f os h.1)
others_fit r ss n s false os f h = let a : 0 + inputs_before ss n ≡ inputs_before ss n = omega arith in subst (Fits s os) (sym a) (f os h)

pub kinds_fit : (ss : List Stream) (os : List Outcome) (n : ℕ) (s : Stream) → AreOfInputs ss os → slice_get ss n ≡ Some s → is_input s ≡ true
    → is_input_outcome (filled_kind s) (input_outcome_at os (inputs_before ss n)) ≡ true
kinds_fit [] os n s h e i = absurd (cc)
kinds_fit (r ∷ ss) os zero s h e i = let p : r ≡ s = cc in subst (λ (x : Stream). is_input_outcome (filled_kind x) (input_outcome_at os 0) ≡ true) p (first_fits r ss (is_input r) os (ap is_input p ∙ i) h)
kinds_fit (r ∷ ss) os (suc n) s h e i = others_fit r ss n s (is_input r) os (λ qs g. kinds_fit ss qs n s g e i) h

pub kind_fits : (is_row : Bool) (ss : List Stream) (os : List Outcome) (n : ℕ) (s : Stream) → AreInputs is_row ss os → slice_get ss n ≡ Some s → is_input s ≡ true
    → is_input_outcome (filled_kind s) (input_outcome_at os (inputs_before ss n)) ≡ true
kind_fits true ss os n s h e i = kinds_fit ss os n s h e i
kind_fits false ss os n s h e i = ap (λ xs. is_input_outcome (filled_kind s) (input_outcome_at xs (inputs_before ss n))) h

-- and reads as its field

abbrev Reads : Naming → Outcome → Answer → Type 0
Reads names o a = (read_outcome names o ≡ a) × IsHeldIn names o

reads_field : (names : Naming) (os : List Outcome) (fs : List Field) (i : ℕ) → ReadAs names os fs → Reads names (input_outcome_at os i) (field_outcome (slice_get fs i))
reads_field names [] [] i h = (refl, tt)
reads_field names [] (f ∷ fs) i h = absurd h
reads_field names (o ∷ os) [] i h = absurd h
reads_field names (o ∷ os) (f ∷ fs) zero h = (h.0, h.1)
reads_field names (o ∷ os) (f ∷ fs) (suc i) h = reads_field names os fs i h.2

pub reads_input : (names : Naming) (is_row : Bool) (ss : List Stream) (os : List Outcome) (fields : Option (List Field)) (i : ℕ) → AreInputs is_row ss os → ReadFields names os is_row fields
    → Reads names (input_outcome_at os i) (input_outcome i fields)
reads_input names true ss os None i a h = absurd h
reads_input names true ss os (Some fs) i a h = reads_field names os fs i h
reads_input names false ss os None i a h = subst (λ xs. Reads names (input_outcome_at xs i) (input_outcome i None)) (sym a) (refl, tt)
reads_input names false ss os (Some fs) i a h = absurd h

-- from one stage to the next

module _ (plan : Plan) (accepted : IsAccepted plan) (n : ℕ) (stream : Stream) (at : slice_get plan.spec.streams n ≡ Some stream) where
  same_evaluated : (m : ℕ) (r : Stream) → (is_input r ≡ false) ⊎ (m ≡ n → ⊥) → is_evaluated plan.layers (input_stage n) m r ≡ is_evaluated plan.layers (input_stage (n + 1)) m r
  same_evaluated m r (inl e) =
      let l = layer_of plan.layers (eval_node m) in
      ap (λ b. if b then nat_lt m n else is_behind l m 0 0) e ∙ sym (ap (λ b. if b then nat_lt m (n + 1) else is_behind l m 0 0) e)
  same_evaluated m r (inr d) = ap (λ t. if is_input r then t else is_behind (layer_of plan.layers (eval_node m)) m 0 0) (next_below m n d)

  -- the stream of that number
  the_stream : (m : ℕ) (r : Stream) → slice_get plan.spec.streams m ≡ Some r → m ≡ n → r ≡ stream
  the_stream m r e q = let a : slice_get plan.spec.streams n ≡ Some r = (rw (← q) e) in cc

  -- an input has its one instance, which is silent before it is told
  pub one_instance : (s : Seen) → IsAt plan (input_stage n) s → is_input stream ≡ true → 0 < length (instances_seen s n)
  one_instance s h i =
      let e = h.of.single n stream at (input_never_spawns stream (passes_at _ plan.spec.streams n stream accepted.named.shapes at) i) in
      omega (arith, e)

  pub silent_before : (s : Seen) → IsAt plan (input_stage n) s → is_input stream ≡ true → is_silent (now_seen s n 0) ≡ true
  silent_before s h i = h.silent n 0 stream at (ap (λ b. if b then nat_lt n n else is_behind (layer_of plan.layers (eval_node n)) n 0 0) i ∙ same_not n)
    where
      same_not : (k : ℕ) → nat_lt k k ≡ false
      same_not k = le-ltb k k (omega arith)

  pub kind_of_input : (s : Seen) (is_row : Bool) (os : List Outcome) → IsAt plan (input_stage n) s → AreInputs is_row plan.spec.streams os → is_input stream ≡ true
      → is_input_outcome (kind_in (slice_get s.layout.streams n)) (input_outcome_at os (inputs_before plan.spec.streams n)) ≡ true
  kind_of_input s is_row os h a i =
      let o = input_outcome_at os (inputs_before plan.spec.streams n) in
      ap (λ l. is_input_outcome (kind_in (slice_get l.streams n)) o) h.of.layout
      ∙ (ap (λ k. is_input_outcome k o) (kind_there plan.spec.streams plan.kept plan.pacings n stream at) ∙ kind_fits is_row plan.spec.streams os n stream a at i)

  pub at_told : (s : Seen) (o : Outcome) → is_input stream ≡ true → IsAt plan (input_stage n) s → IsAt plan (input_stage (n + 1)) (after_outcome s n 0 o)
  at_told s o i h =
      record {
        of = told_of plan s n 0 o h.of;
        running = h.running;
        silent = λ m j r e not_yet. by m j r e not_yet (cases_eq m n);
        unspawned = λ m not_yet. told_spawned plan s n 0 o m ∙ h.unspawned m not_yet;
      }
    where
      by : (m j : ℕ) (r : Stream) → slice_get plan.spec.streams m ≡ Some r → is_evaluated plan.layers (input_stage (n + 1)) m r ≡ false → (m ≡ n) ⊎ (m ≡ n → ⊥)
          → is_silent (now_seen (after_outcome s n 0 o) m j) ≡ true
      by m j r e not_yet (inl q) =
          let p : is_input r ≡ true = ap is_input (the_stream m r e q) ∙ i in
          let f : is_evaluated plan.layers (input_stage (n + 1)) m r ≡ true = ap (λ b. if b then nat_lt m (n + 1) else is_behind (layer_of plan.layers (eval_node m)) m 0 0) p ∙ lt-ltb m (n + 1) (omega (arith, q)) in
          absurd (cc)
      by m j r e not_yet (inr d) = ap is_silent (told_else plan s n 0 o m j d) ∙ h.silent m j r e (same_evaluated m r (inr d) ∙ not_yet)

  pub at_other : (s : Seen) → is_input stream ≡ false → IsAt plan (input_stage n) s → IsAt plan (input_stage (n + 1)) s
  at_other s i h =
      record {
        of = h.of;
        running = h.running;
        silent = λ m j r e not_yet. h.silent m j r e (same_evaluated m r (by m r e (cases_eq m n)) ∙ not_yet);
        unspawned = h.unspawned;
      }
    where
      by : (m : ℕ) (r : Stream) → slice_get plan.spec.streams m ≡ Some r → (m ≡ n) ⊎ (m ≡ n → ⊥) → (is_input r ≡ false) ⊎ (m ≡ n → ⊥)
      by m r e (inl q) = inl (ap is_input (the_stream m r e q) ∙ i)
      by m r e (inr d) = inr d

-- the inputs below a number are told
pub record AreTold (plan : Plan) (is_row : Bool) (inputs : List Outcome) (n input : ℕ) (remembers : Memories) (s : Seen) (remembers' : Memories) (s' : Seen) : Type 0 where
  pub input_is : input ≡ inputs_before plan.spec.streams n
  pub at : IsAt plan (input_stage n) s'
  pub goes_on : GoesOn s s'
  pub takes : TakesInputsTo plan is_row inputs n remembers s remembers' s'

module _ (plan : Plan) (accepted : IsAccepted plan) (is_row : Bool) (inputs : List Outcome) (given : AreInputs is_row plan.spec.streams inputs)
    (n input : ℕ) (stream : Stream) (at : slice_get plan.spec.streams n ≡ Some stream)
    (first : Memories) (s : Seen) (before : Memories) (t : Seen) (so_far : AreTold plan is_row inputs n input first s before t) where
  -- one more
  pub one_more_told : (after : Memories) (u : Seen) (o : Outcome) → is_input stream ≡ true → o ≡ input_outcome_at inputs input → u ≡ after_outcome t n 0 o
      → ((names : Naming) (c : Content) → IsHeldIn names o → Stands names before t c → Stands names after u (told c n 0 (read_outcome names o)))
      → AreTold plan is_row inputs (n + 1) (input + 1) first s after u
  one_more_told after u o i is shown stands =
      record {
        input_is = ap (λ k. k + 1) so_far.input_is ∙ sym (before_input plan.spec.streams n stream at i);
        at = subst (λ v. IsAt plan (input_stage (n + 1)) v) (sym shown) (at_told plan accepted n stream at t o i so_far.at);
        goes_on = goes_on_far s t u so_far.goes_on (subst (λ v. GoesOn t v) (sym shown) (told_goes_on plan t n 0 o));
        takes = λ names rows step run reads begins.
            let k = inputs_before plan.spec.streams n in
            let now = content_so_far plan (start_seen s) rows step (input_stage n) in
            let read = reads_input names is_row plan.spec.streams inputs step.fields k given reads in
            let e : input_outcome_at inputs k ≡ o = ap (input_outcome_at inputs) (sym so_far.input_is) ∙ sym is in
            let next = ((inputs_go plan accepted (start_seen s) rows run.settled step).input n stream at i).next in
            subst (λ c. Stands names after u c) (sym next)
            (subst (λ a. Stands names after u (told now n 0 a)) (ap (read_outcome names) (sym e) ∙ read.0)
            (stands names now (subst (λ x. IsHeldIn names x) e read.1) (so_far.takes names rows step run reads begins)));
      }

  -- no input
  pub none_told : is_input stream ≡ false → AreTold plan is_row inputs (n + 1) input first s before t
  none_told i =
      record {
        input_is = so_far.input_is ∙ sym (before_other plan.spec.streams n stream at i);
        at = at_other plan accepted n stream at t i so_far.at;
        goes_on = so_far.goes_on;
        takes = λ names rows step run reads begins.
            subst (λ c. Stands names before t c) (sym ((inputs_go plan accepted (start_seen s) rows run.settled step).other n stream at i)) (so_far.takes names rows step run reads begins);
      }
