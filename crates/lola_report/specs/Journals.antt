-- Which journal a trace text tells, and which of its lines is the first that tells none.
use Rattle.std.specs.Prelude.{◌≡◌, ◌≢◌, ◌==◌, ◌+◌, Bool, ℕ, List, [], ◌∷◌, ◌++◌, Contains, Option, Some, None, Result, Ok, Err, length}
use Rattle.std.specs.List.{AllByRecursion}
use Rattle.lola_model.specs.declared.journal.Entry.{Entry}
use Rattle.lola_model.specs.declared.plan.Plan.{Plan}
use Rattle.lola_model.specs.Trace.{IsTraceable, trace_line, trace_text}
use Rattle.lola_report.specs.declared.read.JournalEnd.{JournalEnd}
use Rattle.lola_report.specs.declared.read.JournalEnd.TheVariants as end

-- a line, with its LF, that is the line of an entry which the plan's trace can tell
pub record IsLineOf (plan : Plan) (line : List ℕ) (e : Entry) : Type 0 where
  pub traceable : IsTraceable plan e
  pub written : trace_line e ≡ line

-- a line, with its LF, that is the line of no such entry
abbrev pub IsNoLine : Plan → List ℕ → Type 0
IsNoLine plan line = (e : Entry) → IsTraceable plan e → trace_line e ≢ line

-- the whole lines of a text spell these entries, all of which the plan's trace can tell; behind them is no whole line
pub record Spells (plan : Plan) (bytes : List ℕ) (journal : List Entry) : Type 0 where
  pub left : List ℕ
  pub whole : bytes ≡ trace_text journal ++ left
  pub unfinished : ¬ (Contains left 10)
  pub traceable : AllByRecursion (IsTraceable plan) journal

-- the lines before the n-th, counted from 1, spell entries, and the n-th is there, whole, and spells none
pub record IsFirstBad (plan : Plan) (bytes : List ℕ) (n : ℕ) : Type 0 where
  pub before : List Entry
  pub line : List ℕ
  pub left : List ℕ
  pub whole : bytes ≡ trace_text before ++ (line ++ 10 ∷ left)
  pub one_line : ¬ (Contains line 10)
  pub traceable : AllByRecursion (IsTraceable plan) before
  pub number : n ≡ length before + 1
  pub bad : IsNoLine plan (line ++ 10 ∷ [])

-- what is read of a text: its journal, or the number of the first bad line; want of memory says nothing
abbrev pub Reads : Plan → List ℕ → Result (List Entry) JournalEnd → Type 0
Reads plan bytes (Ok journal) = Spells plan bytes journal
Reads plan bytes (Err (end.BadLine n)) = IsFirstBad plan bytes n
Reads plan bytes (Err end.Memory) = Unit {0}

-- what is read of a line
abbrev pub ReadsLine : Plan → List ℕ → Option Entry → Type 0
ReadsLine plan line (Some e) = IsLineOf plan line e
ReadsLine plan line None = IsNoLine plan line

-- the byte that ends a line
abbrev pub is_lf : ℕ → Bool
is_lf b = b == 10

-- what is read of a text, where the entries stand apart from the answer
abbrev pub Fills : Plan → List ℕ → List Entry → Result Unit JournalEnd → Type 0
Fills plan bytes journal (Ok u) = Spells plan bytes journal
Fills plan bytes journal (Err (end.BadLine n)) = IsFirstBad plan bytes n
Fills plan bytes journal (Err end.Memory) = Unit {0}
