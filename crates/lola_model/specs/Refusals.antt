-- Which of several refusals a phase of the compiler answers: the first by place, and at one place the least by code.
use Rattle.std.specs.Prelude.{ℕ, ◌≡◌, List, [], ◌∷◌, Option, Some, None, Bool, false, ◌&&◌, ◌||◌, if◌then◌else◌, nat_eq, nat_lt, Contains}
use Rattle.lola_value.specs.declared.front.Code.{Code}
use Rattle.lola_value.specs.declared.front.Code.TheVariants as code
use Rattle.lola_value.specs.declared.front.Refusal.{Refusal}

-- the number of a code behind its E
abbrev pub code_number : Code → ℕ
code_number code.TooLong = 1
code_number code.BadToken = 2
code_number code.Unexpected = 3
code_number code.TooDeep = 4
code_number code.Duplicate = 5
code_number code.Unknown = 6
code_number code.TooMany = 7
code_number code.BadArity = 8
code_number code.WrongType = 9
code_number code.LiteralRange = 10
code_number code.NotImplied = 11
code_number code.NoPacing = 12
code_number code.PacingTooWide = 13
code_number code.DirectToFiltered = 14
code_number code.WindowOutsidePeriodic = 15
code_number code.WindowTooFine = 16
code_number code.PeriodTooShort = 17
code_number code.WindowNeedsWholePeriod = 18
code_number code.ZeroCycle = 19
code_number code.LocalWithoutSpawn = 21

-- one refusal comes before another: at an earlier place, or there with a lesser code
abbrev pub is_before : Refusal → Refusal → Bool
is_before q r = nat_lt q.at r.at || (nat_eq q.at r.at && nat_lt (code_number q.code) (code_number r.code))

-- the one of two that comes first
abbrev pub earlier : Option Refusal → Option Refusal → Option Refusal
earlier None r = r
earlier (Some q) None = Some q
earlier (Some q) (Some r) = if is_before r q then Some r else Some q

-- the first of a list, if it has any
abbrev pub first_of : List Refusal → Option Refusal
first_of [] = None
first_of (r ∷ rs) = earlier (Some r) (first_of rs)

-- it is one of the list, and none of the list comes before it
pub record IsFirstIn (found : List Refusal) (r : Refusal) : Type 0 where
  pub listed : Contains found r
  pub first : (q : Refusal) → Contains found q → is_before q r ≡ false

-- what a phase answers that found these
abbrev pub IsFirstOf : List Refusal → Option Refusal → Type 0
IsFirstOf found None = found ≡ []
IsFirstOf found (Some r) = IsFirstIn found r

-- the first of a list is what the words say, and the order in which refusals are found does not matter
pub record MeansFirst : Type 0 where
  pub is_first : (found : List Refusal) → IsFirstOf found (first_of found)
  pub grouped : (a b c : Option Refusal) → earlier (earlier a b) c ≡ earlier a (earlier b c)
  pub exchanged : (a b : Option Refusal) → earlier a b ≡ earlier b a
