-- Which bytes are a state text, and at which line others are damaged.
use Rattle.std.specs.Prelude.{ℕ, ◌≡◌, ◌≤◌, ◌<◌, List, ◌∷◌, ◌++◌, Bool, true, ◌&&◌, ◌||◌, not, nat_eq, nat_lt, codes, decimal, length, slice_index}
use Rattle.std.specs.List.{AllByRecursion, list_all}
use Rattle.lola_value.specs.Times.{is_digit}
use Rattle.lola_model.specs.Texts.{text_of}
use Rattle.lola_model.specs.declared.plan.Plan.{Plan}
use Rattle.lola_report.specs.Lines.{IsLine}
use Rattle.lola_save_text.specs.Forms.{forms_of}
use Rattle.lola_save_text.specs.Lines.{heading, state_text}
use Rattle.lola_save_text.specs.States.{SavedState}
use Rattle.lola_save_text.specs.Validity.{IsSaved}

-- the text of a state that the plan can have
pub record IsStateText (spec : List ℕ) (plan : Plan) (bytes : List ℕ) : Type 0 where
  pub state : SavedState
  pub saved : IsSaved (forms_of plan) state
  pub written : bytes ≡ state_text spec plan state

-- the bytes have n lines, each to its LF, and some state text of the plan begins with the bytes up to the end of the n-th
pub record GoesOn (spec : List ℕ) (plan : Plan) (bytes : List ℕ) (n : ℕ) : Type 0 where
  pub lines : List (List ℕ)
  pub left : List ℕ
  pub more : List ℕ
  pub whole : AllByRecursion IsLine lines
  pub number : length lines ≡ n
  pub cut : bytes ≡ text_of lines ++ left
  pub begun : IsStateText spec plan (text_of lines ++ more)

-- the bytes are no state text of the plan, and n is the least line, counted from 1, to whose end they do not go on; that is
-- the line that is cut or missing where a text ends too early
pub record IsDamagedAt (spec : List ℕ) (plan : Plan) (bytes : List ℕ) (n : ℕ) : Type 0 where
  pub none : IsStateText spec plan bytes → ⊥
  pub counted : 1 ≤ n
  pub before : (m : ℕ) → m < n → GoesOn spec plan bytes m
  pub here : GoesOn spec plan bytes n → ⊥

-- the digits of a number, of any size: at least one, and no leading zero
abbrev pub is_number : List ℕ → Bool
is_number ds = list_all is_digit ds && (nat_eq (length ds) 1 || (nat_lt 1 (length ds) && not (nat_eq (slice_index ds 0) 48)))

-- the first two lines tell of a state text and of the length of a specification, but this is not its length, or it does not follow
pub record IsOtherSpec (spec : List ℕ) (bytes : List ℕ) : Type 0 where
  pub digits : List ℕ
  pub left : List ℕ
  pub form : bytes ≡ heading ++ (codes "spec " ++ (digits ++ 10 ∷ left))
  pub number : is_number digits ≡ true
  pub other : (rest : List ℕ) → digits ≡ decimal (length spec) → left ≡ spec ++ 10 ∷ rest → ⊥
