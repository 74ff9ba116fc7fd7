-- A reader over many lines, and the first line that does not fit.
use Rattle.std.specs.Prelude.{ℕ, ◌≡◌, ◌+◌, List, [], ◌∷◌, ◌++◌, Option, Some, None, filter, length, nat_eq}
use Rattle.lola_model.specs.declared.plan.Plan.{Plan}
use Rattle.lola_save_text.specs.Forms.{StreamForm, forms_of}
use Rattle.lola_save_text.specs.Lines.{StateLine, head_text, line_text, lines_text, state_lines}
use Rattle.lola_save_text.specs.Places.{Place, AtStart, Done, next, chosen}
use Rattle.lola_save_text.specs.States.{SavedState}
use Rattle.lola_save_text.specs.Validity.{IsSaved}

-- the place behind some lines
abbrev pub run : List StreamForm → Place → List StateLine → Option Place
run forms p [] = Some p
run forms p (l ∷ ls) = chosen (next forms p l) (λ q. run forms q ls)

-- the reader comes to the end
abbrev pub AreWhole : List StreamForm → List StateLine → Type 0
AreWhole forms ls = run forms AtStart ls ≡ Some Done

-- behind these lines there is a way to the end
abbrev pub CanGoOn : List StreamForm → List StateLine → Type 0
CanGoOn forms ls = (more : List StateLine) × AreWhole forms (ls ++ more)

-- lines of a state begin so
abbrev pub BeginSaved : List StreamForm → List StateLine → Type 0
BeginSaved forms ls = (s : SavedState) × IsSaved forms s × (more : List StateLine) × (state_lines forms s ≡ ls ++ more)

-- how many lines bytes have that end with LF
abbrev pub count_lines : List ℕ → ℕ
count_lines bytes = length (filter (λ b. nat_eq b 10) bytes)

-- what stands before the lines of the state is right, the lines of the state before the n-th of all fit, and what stands
-- behind them does not: no line that may come there begins it, and the end does not come there either
pub record IsFirstRefused (spec : List ℕ) (plan : Plan) (bytes : List ℕ) (n : ℕ) : Type 0 where
  pub before : List StateLine
  pub place : Place
  pub left : List ℕ
  pub accepted : run (forms_of plan) AtStart before ≡ Some place
  pub cut : bytes ≡ head_text spec ++ (lines_text before ++ left)
  pub number : n ≡ (count_lines (head_text spec) + length before) + 1
  pub refused : (l : StateLine) (rest : List ℕ) → left ≡ line_text l ++ rest → next (forms_of plan) place l ≡ None
  pub unended : place ≡ Done → left ≡ [] → ⊥
