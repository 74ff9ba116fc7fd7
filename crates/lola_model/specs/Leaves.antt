-- The leaves of a clause without `@`: where its pacing comes from.
use Rattle.std.specs.Prelude.{ℕ, ◌≡◌, ◌≢◌, ◌<◌, ◌↔◌, List, [], ◌∷◌, Option, Some, None, Bool, true, false, ◌||◌, if◌then◌else◌, map, slice_get, Contains, AllPairs}
use Rattle.std.specs.List.{slice_index_or}
use Rattle.lola_model.specs.Model.{is_input}
use Rattle.lola_model.specs.Parts.{listed_clause}
use Rattle.lola_model.specs.declared.expr.Access.{Access}
use Rattle.lola_model.specs.declared.expr.Access.TheVariants as access
use Rattle.lola_model.specs.declared.expr.Expr.{Expr}
use Rattle.lola_model.specs.declared.expr.Expr.TheVariants.{Read}
use Rattle.lola_model.specs.declared.spec.Clause.{Clause}
use Rattle.lola_model.specs.declared.spec.Pace.{Pace}
use Rattle.lola_model.specs.declared.spec.Stream.{Stream}

-- an access is followed where it is direct or an offset
abbrev pub followed_by : Access → ℕ → List ℕ
followed_by access.Direct n = n ∷ []
followed_by access.Get n = []
followed_by access.Hold n = []
followed_by (access.Offset k) n = n ∷ []

-- the stream of an expression that is itself such an access
abbrev pub followed : Expr → List ℕ
followed (Read place n how args) = followed_by how n
followed _ = []

-- the streams of all such accesses of a clause, arguments included
abbrev pub followed_in : Option Clause → List ℕ
followed_in c = listed_clause followed c

-- a pacing is written
abbrev pub is_written : Option Pace → Bool
is_written None = false
is_written (Some p) = true

-- so it is in a clause
abbrev pub has_pace : Option Clause → Bool
has_pace None = false
has_pace (Some c) = is_written c.pace

-- a stream at which a search for leaves ends: an input, or one whose eval clause has `@`
abbrev pub is_end : Stream → Bool
is_end s = is_input s || has_pace s.eval

abbrev pub is_end_of : Option Stream → Bool
is_end_of None = false
is_end_of (Some s) = is_end s

-- the streams that are followed behind a stream: those of its eval clause, and none where the search ends
abbrev pub onward : Stream → List ℕ
onward s = if is_end s then [] else followed_in s.eval

-- one of several lists, empty past the end
abbrev pub list_at : List (List ℕ) → ℕ → List ℕ
list_at lists n = slice_index_or lists n []

-- from one of these streams, over others, to a stream: behind each of them the streams of its list are followed, and the
-- own stream is never visited
abbrev pub IsTrail : List (List ℕ) → ℕ → List ℕ → List ℕ → ℕ → Type 0
IsTrail lists own first [] to = Contains first to × (to ≢ own)
IsTrail lists own first (n ∷ ns) to = Contains first n × (n ≢ own) × IsTrail lists own (list_at lists n) ns to

-- a stream is visited
abbrev pub IsVisited : List (List ℕ) → ℕ → List ℕ → ℕ → Type 0
IsVisited lists own first n = (over : List ℕ) × IsTrail lists own first over n

-- a leaf of a clause of the own stream: it is visited, and the search ends there
pub record IsLeaf (streams : List Stream) (own : ℕ) (clause : Option Clause) (n : ℕ) : Type 0 where
  pub visited : IsVisited (map onward streams) own (followed_in clause) n
  pub ends : is_end_of (slice_get streams n) ≡ true

-- the leaves of a clause, in order of their numbers
pub record AreLeaves (streams : List Stream) (own : ℕ) (clause : Option Clause) (leaves : List ℕ) : Type 0 where
  pub ordered : AllPairs (λ m n. m < n) leaves
  pub members : (n : ℕ) → Contains leaves n ↔ IsLeaf streams own clause n
