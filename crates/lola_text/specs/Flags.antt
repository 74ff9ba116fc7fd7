-- The texts that a table holds, and the flags of a sweep.
use Rattle.std.specs.Prelude.{ℕ, ◌≡◌, ◌<◌, ◌≤◌, ◌+◌, List, [], ◌∷◌, ◌++◌, Bool, true, false, not, Option, Some, None, length, if◌then◌else◌, nat_eq, map}
use Rattle.std.specs.Cmp.Lexicographic.{pointwise}
use Rattle.std.specs.List.{HoldsAt, list_any}
use Rattle.std.specs.Map.{lookup}
use Rattle.lola_value.specs.Naming.{Naming}
use Rattle.lola_value.specs.declared.value.TextId.{TextId}
use Rattle.lola_text.specs.declared.search.Held.{Held}

-- a text as the table keeps it, with its number and flag
abbrev pub Entry : Type 0
Entry = List ℕ × Held

-- the numbers with their texts
abbrev pub naming_of : List Entry → Naming
naming_of es = map (λ e. (e.1.number, e.0)) es

-- what is held for a text
abbrev pub held_as : List ℕ → List Entry → Option Held
held_as text es = lookup (λ k. pointwise nat_eq text k) es

-- asked for a text with what is held for it: the texts stay, or it goes behind them as a fresh one
abbrev pub IsFoundOrNew : Option Held → List ℕ → Held → ℕ → List Entry → List Entry → Type 0
IsFoundOrNew (Some held) text fresh number old new = (number ≡ held.number) × (new ≡ old)
IsFoundOrNew None text fresh number old new = (number ≡ fresh.number) × (new ≡ old ++ (text, fresh) ∷ [])

-- the number of a text is this one
abbrev pub has_number : ℕ → Entry → Bool
has_number number e = nat_eq e.1.number number

-- all numbers are at least this one, and each is below the next
abbrev pub RiseFrom : ℕ → List Entry → Type 0
RiseFrom low [] = Unit {0}
RiseFrom low (e ∷ es) = (low ≤ e.1.number) × RiseFrom (e.1.number + 1) es

abbrev pub NumbersRise : List Entry → Type 0
NumbersRise es = RiseFrom 0 es

-- the same truth value
abbrev pub is_same : Bool → Bool → Bool
is_same true b = b
is_same false b = not b

-- a text with this flag
abbrev pub is_flagged : Bool → Entry → Bool
is_flagged flag e = is_same e.1.flag flag

-- a text, flagged where it has this number
abbrev pub flagged_at : ℕ → Bool → Entry → Entry
flagged_at number flag e = if has_number number e then (e.0, record { number = e.1.number; flag = flag }) else e

-- the place of this number, where some text has it
abbrev pub IsPlaceOf : ℕ → List Entry → Option ℕ → Type 0
IsPlaceOf number es (Some i) = (i < length es) × HoldsAt (λ e. e.1.number ≡ number) es i
IsPlaceOf number es None = list_any (has_number number) es ≡ false

-- flagged where they have one of these numbers
abbrev pub flagged_all : List TextId → Bool → List Entry → List Entry
flagged_all [] flag es = es
flagged_all (id ∷ ids) flag es = flagged_all ids flag (map (flagged_at id.0 flag) es)

-- all texts have this flag
abbrev pub AreFlagged : Bool → List Entry → Type 0
AreFlagged flag [] = Unit {0}
AreFlagged flag (e ∷ es) = (e.1.flag ≡ flag) × AreFlagged flag es
