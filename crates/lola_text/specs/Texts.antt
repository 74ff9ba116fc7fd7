-- A table of texts: each text that is held has a number, and no number is given twice.
use Rattle.std.specs.Prelude.{ℕ, ◌≡◌, ◌+◌, ◌≤◌, List, [], ◌∷◌, ◌++◌, Option, Some, None, Bool, if◌then◌else◌, nat_eq, filter}
use Rattle.std.specs.List.{list_any}
use Rattle.lola_value.specs.declared.value.TextId.{TextId}
use Rattle.lola_value.specs.Arithmetic.{bytes_equal}
use Rattle.lola_value.specs.Naming.{IsNaming, Naming}

-- the texts that are held, in the order of their numbers, and how many numbers were given so far
pub record Texts : Type 0 where
  pub held : Naming
  pub given : ℕ

-- a table that holds nothing and gave no number
abbrev pub no_texts : Texts
no_texts = record { held = []; given = 0 }

-- the number of a text, where it is held
abbrev pub number_in : Naming → List ℕ → Option ℕ
number_in [] text = None
number_in (e ∷ es) text = if bytes_equal text e.1 then Some e.0 else number_in es text

-- a text that was not held got the next number
abbrev pub with_text : Texts → List ℕ → Texts
with_text t text = record { held = t.held ++ (t.given, text) ∷ []; given = t.given + 1 }

-- asked for a text whose number, if it is held, is the first argument: the table stays, or the text gets the next number
abbrev pub Gives : Option ℕ → List ℕ → ℕ → Texts → Texts → Type 0
Gives (Some number) text id old new = (id ≡ number) × (new ≡ old)
Gives None text id old new = (id ≡ old.given) × (new ≡ with_text old text)

-- the number of an equal text that is held, or a new one
abbrev pub Interns : List ℕ → ℕ → Texts → Texts → Type 0
Interns text id old new = Gives (number_in old.held text) text id old new

-- a number stands in a list
abbrev pub is_among : List TextId → ℕ → Bool
is_among ids number = list_any (λ id. nat_eq id.0 number) ids

-- exactly the texts whose numbers stand in the list are held, and no number is forgotten
abbrev pub swept : Texts → List TextId → Texts
swept t kept = record { held = filter (λ e. is_among kept e.0) t.held; given = t.given }

-- numbers that rise, from the first bound on and below the second
abbrev pub AreBetween : ℕ → Naming → ℕ → Type 0
AreBetween low [] high = low ≤ high
AreBetween low (e ∷ es) high = (low ≤ e.0) × AreBetween (e.0 + 1) es high

-- what holds of every table: equal texts have one number, and the numbers rise and were all given
pub record IsTable (t : Texts) : Type 0 where
  pub naming : IsNaming t.held
  pub numbers : AreBetween 0 t.held t.given
