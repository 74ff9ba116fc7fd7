-- What the machine does, and what its instructions may be told.
use Rattle.std.specs.Prelude.{ℕ, zero, suc, ◌≡◌, ◌<◌, ◌≤◌, List, [], ◌∷◌, Bool, true, false, not, length, map, take, drop, reverse, slice_get, MatchOption}
use Rattle.lola_value.specs.declared.value.Kind.{Kind}
use Rattle.lola_value.specs.declared.value.Value.{Value}
use Rattle.lola_value.specs.declared.value.Outcome.{Outcome}
use Rattle.lola_value.specs.declared.value.Outcome.TheVariants as outcome
use Rattle.lola_value.specs.declared.value.Params.{Params}
use Rattle.lola_value.specs.Kinds.{are_of_kinds, is_outcome_of}
use Rattle.lola_value.specs.Naming.{Naming, IsNaming, AreHeld, IsHeld, IsHeldIn, read, read_outcome, the_values}
use Rattle.lola_model.specs.Accesses.{answer_of}
use Rattle.lola_model.specs.Content.{Content}
use Rattle.lola_model.specs.Denotation.{negated, operated}
use Rattle.lola_model.specs.Store.{Memories, Seen, Stands, kind_in, pane_of, parameters_of, target_of, window_kind}
use Rattle.lola_model.specs.Typing.{is_kept, is_whole_pane}
use Rattle.lola_model.specs.Windows.{window_answer}
use Rattle.lola_model.specs.declared.expr.Access.{Access}
use Rattle.lola_model.specs.declared.expr.Access.TheVariants as access
use Rattle.lola_model.specs.declared.expr.Binary.{Binary}
use Rattle.lola_model.specs.declared.expr.Prefix.{Prefix}
use Rattle.lola_value.specs.declared.short.Short.{Short}
use Rattle.lola_value.specs.Shorts.{value_in, widened}
use Rattle.lola_expr.specs.Evaluation.{value_or_missing}
use Rattle.lola_expr.specs.Operands.{operand_fits, operands_fit, truth_in}
use Rattle.lola_expr.specs.declared.instr.Instr.{Instr}
use Rattle.lola_expr.specs.declared.instr.Instr.TheVariants as instr

-- what an operator between two values may give
pub record Operates (operator : Binary) (k : Kind) (x y : Value) (r : Outcome) : Type 0 where
  pub value : (names : Naming) → IsNaming names → IsHeld names x → IsHeld names y → read_outcome names r ≡ operated operator k (read names x) (read names y)
  pub held : (names : Naming) → IsHeld names y → IsHeldIn names r
  pub kind : is_outcome_of k r ≡ true

-- what an operator before a value may give
pub record Negates (operator : Prefix) (k : Kind) (x : Value) (r : Outcome) : Type 0 where
  pub value : (names : Naming) → read_outcome names r ≡ negated operator k (read names x)
  pub held : (names : Naming) → IsHeldIn names r
  pub kind : is_outcome_of k r ≡ true

-- the instance of a stream that these values name
pub record Names (s : Seen) (n : ℕ) (vs : List Value) : Type 0 where
  pub stream : n < length s.layout.streams
  pub kinds : are_of_kinds (parameters_of (slice_get s.layout.streams n)) vs ≡ true

-- the first, and another where it is missing
abbrev pub or_short : Outcome → Short → Outcome
or_short outcome.Missing v = widened v
or_short o v = o

-- the values that stand at the top of a stack, the newest of them last
abbrev pub top : ℕ → List Value → List Value
top k stack = reverse (take k stack)

-- what comes next: so many instructions are passed, this is in hand, and these values stand on the stack, the newest first
abbrev pub Next : Type 1
Next = ℕ → Outcome → List Value → Type 0

-- a value in hand is put on the stack; where there is none, so many are taken off and so many instructions passed
abbrev pub Kept : ℕ → ℕ → Next → Outcome → List Value → Type 0
Kept n k next (outcome.Value v) stack = next 0 (outcome.Value v) (v ∷ stack)
Kept n k next o stack = next n o (drop k stack)

-- an operator between a value on the stack and the one in hand: they are operands that it takes, and whatever it gives of them comes next
abbrev pub Signed : Binary → Kind → Next → Outcome → List Value → Type 0
Signed operator k next o [] = ⊥
Signed operator k next (outcome.Value y) (x ∷ stack) = (operands_fit operator k x y ≡ true) × ((r : Outcome) → Operates operator k x y r → next 0 r stack)
Signed operator k next o (x ∷ stack) = next 0 o stack

-- the same between the value in hand and another
abbrev pub SignedWith : Binary → Kind → Value → Next → Outcome → List Value → Type 0
SignedWith operator k y next (outcome.Value x) stack = (operands_fit operator k x y ≡ true) × ((r : Outcome) → Operates operator k x y r → next 0 r stack)
SignedWith operator k y next o stack = next 0 o stack

-- and before it
abbrev pub Prefixed : Prefix → Kind → Next → Outcome → List Value → Type 0
Prefixed operator k next (outcome.Value x) stack = (operand_fits operator k x ≡ true) × ((r : Outcome) → Negates operator k x r → next 0 r stack)
Prefixed operator k next o stack = next 0 o stack

-- what is missing goes on, and anything else passes so many instructions
abbrev pub Otherwise : ℕ → Next → Outcome → List Value → Type 0
Otherwise n next outcome.Missing stack = next 0 outcome.Missing stack
Otherwise n next o stack = next n o stack

-- where this holds one goes on, and else passes so many instructions
abbrev pub Turned : Bool → ℕ → Next → Outcome → List Value → Type 0
Turned true n next o stack = next 0 o stack
Turned false n next o stack = next n o stack

-- true goes on, and anything else passes so many instructions
abbrev pub WhereTrue : ℕ → Next → Outcome → List Value → Type 0
WhereTrue n next (outcome.Value v) stack = Turned (truth_in v) n next (outcome.Value v) stack
WhereTrue n next o stack = next n o stack

-- false goes on, and anything else passes so many instructions
abbrev pub WhereFalse : ℕ → Next → Outcome → List Value → Type 0
WhereFalse n next (outcome.Value v) stack = Turned (not (truth_in v)) n next (outcome.Value v) stack
WhereFalse n next o stack = next n o stack

-- true goes on, another value passes the first number of instructions, and what is no value the second
abbrev pub Tested : ℕ → ℕ → Next → Outcome → List Value → Type 0
Tested n m next (outcome.Value v) stack = Turned (truth_in v) n next (outcome.Value v) stack
Tested n m next o stack = next m o stack

module _ (remembers : Memories) (s : Seen) where
  -- what an access may answer, of the instance that these values name
  pub record Answers (n : ℕ) (how : Access) (vs : List Value) (r : Outcome) : Type 0 where
    pub value : (names : Naming) (c : Content) → IsNaming names → AreHeld names vs → Stands names remembers s c
        → (read_outcome names r ≡ answer_of c how n (map (read names) vs)) × IsHeldIn names r
    pub kind : is_outcome_of (kind_in (slice_get s.layout.streams n)) r ≡ true

  -- what a window may answer, over the instance of its target that these values name
  pub record Folds (n : ℕ) (vs : List Value) (r : Outcome) : Type 0 where
    pub value : (names : Naming) (c : Content) → IsNaming names → AreHeld names vs → Stands names remembers s c
        → MatchOption (slice_get s.layout.windows n) ⊥ (λ w. read_outcome names r ≡ window_answer c w (kind_in (slice_get s.layout.streams w.target)) (map (read names) vs))
    pub kind : is_outcome_of (window_kind s n) r ≡ true

  -- a stream without parameters may be asked, and whatever it answers comes next
  abbrev pub Asked : ℕ → Access → (Outcome → Type 0) → Type 0
  Asked n how next =
      (n < length s.layout.streams) × (parameters_of (slice_get s.layout.streams n) ≡ []) × (is_kept (slice_get s.layout.streams n) how ≡ true)
      × ((r : Outcome) → Answers n how [] r → next r)

  -- an operator between the value in hand and what a stream without parameters may answer, or another where that is missing
  abbrev pub SignedAsked : Binary → Kind → ℕ → Access → Short → Next → Outcome → List Value → Type 0
  SignedAsked operator k n how v next (outcome.Value x) stack = Asked n how (λ r. Signed operator k next (or_short r v) (x ∷ stack))
  SignedAsked operator k n how v next o stack = next 0 o stack

  -- the same with what it answers at this step
  abbrev pub SignedNow : Binary → Kind → ℕ → Next → Outcome → List Value → Type 0
  SignedNow operator k n next (outcome.Value x) stack = Asked n access.Direct (λ r. Signed operator k next r (x ∷ stack))
  SignedNow operator k n next o stack = next 0 o stack

  -- a stream may be asked for the instance that these few values name
  abbrev pub AskedOf : ℕ → Access → ℕ → List Value → (Outcome → Type 0) → Type 0
  AskedOf n how k vs next =
      Names s n vs × (k ≤ 4) × (is_kept (slice_get s.layout.streams n) how ≡ true)
      × ((r : Outcome) → Answers n how vs r → next r)

  -- and of a window
  abbrev pub Folded : ℕ → ℕ → List Value → (Outcome → Type 0) → Type 0
  Folded n k vs next =
      (n < length s.layout.windows) × Names s (target_of (slice_get s.layout.windows n)) vs × (k ≤ 4)
      × (is_whole_pane s (pane_of (slice_get s.layout.panes n)) ≡ true)
      × ((r : Outcome) → Folds n vs r → next r)

  module _ (p : Params) (wanted : Outcome → Type 0) where
    -- one instruction
    abbrev pub Acts : Instr → Next → Outcome → List Value → Type 0
    Acts (instr.Give v) next o stack = next 0 (widened v) stack
    Acts instr.Leave next o stack = Unit {0}
    Acts (instr.Parameter i) next o stack = next 0 (value_or_missing (slice_get (the_values p) i)) stack
    Acts (instr.ReadNow n) next o stack = Asked n access.Direct (λ r. next 0 r stack)
    Acts (instr.ReadNewest n) next o stack = Asked n access.Hold (λ r. next 0 r stack)
    Acts (instr.ReadBack n b) next o stack = Asked n (access.Offset b) (λ r. next 0 r stack)
    Acts (instr.ReadNowOr n v) next o stack = Asked n access.Direct (λ r. next 0 (or_short r v) stack)
    Acts (instr.ReadNewestOr n v) next o stack = Asked n access.Hold (λ r. next 0 (or_short r v) stack)
    Acts (instr.ReadBackOr n b v) next o stack = Asked n (access.Offset b) (λ r. next 0 (or_short r v) stack)
    Acts (instr.ReadAt n how k) next o stack = AskedOf n how k (top k stack) (λ r. next 0 r (drop k stack))
    Acts (instr.Window n k) next o stack = Folded n k (top k stack) (λ r. next 0 r (drop k stack))
    Acts (instr.Keep n) next o stack = Kept n 0 next o stack
    Acts (instr.KeepArgument n k) next o stack = Kept n k next o stack
    Acts (instr.Prefix operator k) next o stack = Prefixed operator k next o stack
    Acts (instr.Operator operator k) next o stack = Signed operator k next o stack
    Acts (instr.OperatorGiven operator k v) next o stack = SignedWith operator k (value_in v) next o stack
    Acts (instr.OperatorNow operator k n) next o stack = SignedNow operator k n next o stack
    Acts (instr.OperatorNowOr operator k n v) next o stack = SignedAsked operator k n access.Direct v next o stack
    Acts (instr.OperatorNewestOr operator k n v) next o stack = SignedAsked operator k n access.Hold v next o stack
    Acts (instr.OperatorBackOr operator k n b v) next o stack = SignedAsked operator k n (access.Offset b) v next o stack
    Acts (instr.Otherwise n) next o stack = Otherwise n next o stack
    Acts (instr.WhereTrue n) next o stack = WhereTrue n next o stack
    Acts (instr.WhereFalse n) next o stack = WhereFalse n next o stack
    Acts (instr.Test n m) next o stack = Tested n m next o stack
    Acts (instr.Jump n) next o stack = next n o stack

    -- from here each instruction may run, and the outcome at the end is wanted, whatever the store answers and operators give of what they may
    abbrev pub Leads : List Instr → Next
    Leads [] n o stack = wanted o
    Leads (i ∷ is) zero o stack = Acts i (Leads is) o stack
    Leads (i ∷ is) (suc n) o stack = Leads is n o stack
