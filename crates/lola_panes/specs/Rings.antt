-- What is done to a ring of panes.
use Rattle.std.specs.Prelude.{ℕ, ◌+◌, ℤ, Bool, true, false, not, if◌then◌else◌, nat_eq, nat_le, List, [], ◌∷◌, Option, Some, None, pos, ◌-◌, ◌-ℤ◌, ◌≡◌, ◌≤◌, FitsSigned}
use Rattle.std.specs.Int.{w128}
use Rattle.lola_model.specs.declared.spec.Agg.{Agg}
use Rattle.circular_buffer.specs.Buffer.{keep_last}
use Rattle.lola_panes.specs.declared.pane.Pane.{Pane}
use Rattle.lola_panes.specs.Weights.{better, is_better, best_after}
use Rattle.lola_panes.specs.Answers.{is_extreme}

-- a pane with one value, behind this many values of this total
abbrev pub new_pane : ℕ → ℕ → ℤ → ℤ → Pane
new_pane number added total weight = record { number = number; count_before = added; total_before = total; extreme = weight }

-- a pane with one more value
abbrev pub with_value : Agg → ℤ → Pane → Pane
with_value how weight r = record { number = r.number; count_before = r.count_before; total_before = r.total_before; extreme = better how r.extreme weight }

-- one more value behind the last pane: in it, where it has that number, or else in a new one
abbrev pub noted_last : Agg → ℕ → ℕ → ℤ → ℤ → Pane → List Pane
noted_last how number added total weight r =
    if nat_eq r.number number then with_value how weight r ∷ [] else r ∷ new_pane number added total weight ∷ []

-- one more value behind these panes
abbrev pub noted : Agg → ℕ → ℕ → ℤ → ℤ → List Pane → List Pane
noted how number added total weight [] = new_pane number added total weight ∷ []
noted how number added total weight (r ∷ []) = noted_last how number added total weight r
noted how number added total weight (r ∷ q ∷ rs) = r ∷ noted how number added total weight (q ∷ rs)

-- the last pane is not better than a number
abbrev pub is_last_beaten : Agg → ℤ → Option Pane → Bool
is_last_beaten how z None = false
is_last_beaten how z (Some r) = not (is_better how r.extreme z)

-- a pane and what is left behind it: where nothing is left, the pane itself has to be better than the number
abbrev pub front_of : Agg → ℤ → Pane → List Pane → List Pane
front_of how z r [] = if is_better how r.extreme z then r ∷ [] else []
front_of how z r (q ∷ qs) = r ∷ q ∷ qs

-- these panes without those at the end that are not better than a number
abbrev pub unbeaten : Agg → ℤ → List Pane → List Pane
unbeaten how z [] = []
unbeaten how z (r ∷ rs) = front_of how z r (unbeaten how z rs)

-- the best of the panes with one more value, of which the last so many are kept: those go that no window needs once it has the
-- value. Where the answer is none of the values, no best ones are kept
abbrev pub bettered : ℕ → Agg → ℕ → ℤ → List Pane → List Pane
bettered most how number z rs = if is_extreme how then keep_last most (noted how number 0 (pos 0) z (unbeaten how z rs)) else rs

-- a number is better than the extreme of each pane
abbrev pub AllWorse : Agg → ℤ → List Pane → Type 0
AllWorse how z [] = Unit {0}
AllWorse how z (r ∷ rs) = (is_better how z r.extreme ≡ true) × AllWorse how z rs

-- each pane is better than all later ones
abbrev pub Worsening : Agg → List Pane → Type 0
Worsening how [] = Unit {0}
Worsening how (r ∷ rs) = AllWorse how r.extreme rs × Worsening how rs

-- the numbers of these panes rise, from low on
abbrev pub Rising : ℕ → List Pane → Type 0
Rising low [] = Unit {0}
Rising low (r ∷ rs) = (low ≤ r.number) × Rising (r.number + 1) rs

-- no pane has a greater number
abbrev pub AllUpTo : ℕ → List Pane → Type 0
AllUpTo last [] = Unit {0}
AllUpTo last (r ∷ rs) = (r.number ≤ last) × AllUpTo last rs

-- how many panes at the front have left the window that ends with pane k
abbrev pub left_count : ℕ → ℕ → List Pane → ℕ
left_count most k [] = 0
left_count most k (r ∷ rs) = if nat_le (r.number + most) k then left_count most k rs + 1 else 0

-- the panes that have not left the window that ends with pane k
abbrev pub staying : ℕ → ℕ → List Pane → List Pane
staying most k [] = []
staying most k (r ∷ rs) = if nat_le (r.number + most) k then staying most k rs else r ∷ staying most k rs

-- the extreme of a pane
abbrev pub extreme_of : Option Pane → Option ℤ
extreme_of None = None
extreme_of (Some r) = Some r.extreme

-- the best of the panes' extremes
abbrev pub best_pane : Agg → List Pane → Option ℤ
best_pane how [] = None
best_pane how (r ∷ rs) = Some (best_after how r.extreme (best_pane how rs))

-- a pane, where it has this number
abbrev pub numbered : ℕ → Option Pane → Option Pane
numbered n None = None
numbered n (Some r) = if nat_eq r.number n then Some r else None

-- how many values there are before a pane, or in all where there is none
abbrev pub count_before : ℕ → Option Pane → ℕ
count_before added None = added
count_before added (Some r) = r.count_before

-- the total of the values before it
abbrev pub total_before : ℤ → Option Pane → ℤ
total_before sum None = sum
total_before sum (Some r) = r.total_before

-- how many values there are in a pane, and their total where 128 bits hold it, of which there are so many with this total to
-- the next one; none, where there is no pane
abbrev pub own_count : ℕ → Option Pane → ℕ
own_count next None = 0
own_count next (Some r) = next - r.count_before

abbrev pub IsOwnTotal : ℤ → Option Pane → ℤ → Type 0
IsOwnTotal next None z = z ≡ pos 0
IsOwnTotal next (Some r) z = FitsSigned w128 (next -ℤ r.total_before) → z ≡ next -ℤ r.total_before

-- how many values there are from a pane on, of so many in all
abbrev pub since_count : ℕ → Option Pane → ℕ
since_count added None = 0
since_count added (Some r) = added - r.count_before

-- their total, of this in all, where 128 bits hold it
abbrev pub IsSinceTotal : ℤ → Option Pane → ℤ → Type 0
IsSinceTotal sum None z = z ≡ pos 0
IsSinceTotal sum (Some r) z = FitsSigned w128 (sum -ℤ r.total_before) → z ≡ sum -ℤ r.total_before
