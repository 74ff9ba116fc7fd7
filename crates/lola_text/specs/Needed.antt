-- Which texts are needed.
use Rattle.std.specs.Prelude.{ℕ, ◌≡◌, List, [], ◌∷◌, ◌++◌, Some, IsTrue}
use Rattle.lola_value.specs.declared.value.TextId.{TextId}
use Rattle.lola_value.specs.declared.value.Value.{Value}
use Rattle.lola_value.specs.declared.value.Value.TheVariants as value
use Rattle.lola_value.specs.declared.value.Outcome.{Outcome}
use Rattle.lola_value.specs.declared.value.Outcome.TheVariants as outcome
use Rattle.lola_value.specs.Naming.{Naming, text_at}
use Rattle.lola_text.specs.Texts.{is_among}

-- the number of a value's text, if it is one
abbrev pub text_in : Value → List TextId
text_in (value.Bool b) = []
text_in (value.Int z) = []
text_in (value.Text id) = id ∷ []

-- the numbers of the texts among values, in order
abbrev pub texts_in : List Value → List TextId
texts_in [] = []
texts_in (v ∷ vs) = text_in v ++ texts_in vs

-- the number of an outcome's text, if it is one
abbrev pub text_of_outcome : Outcome → List TextId
text_of_outcome (outcome.Value v) = text_in v
text_of_outcome outcome.Missing = []
text_of_outcome (outcome.Fault k) = []
text_of_outcome outcome.Poison = []

-- a value is no text, or one of these
abbrev pub IsAmong : List TextId → Value → Type 0
IsAmong ids (value.Bool b) = Unit {0}
IsAmong ids (value.Int z) = Unit {0}
IsAmong ids (value.Text id) = IsTrue (is_among ids id.0)

-- all of these are
abbrev pub AreAmong : List TextId → List Value → Type 0
AreAmong ids [] = Unit {0}
AreAmong ids (v ∷ vs) = IsAmong ids v × AreAmong ids vs

-- an outcome is no text, or one of these
abbrev pub IsAmongIn : List TextId → Outcome → Type 0
IsAmongIn ids (outcome.Value v) = IsAmong ids v
IsAmongIn ids outcome.Missing = Unit {0}
IsAmongIn ids (outcome.Fault k) = Unit {0}
IsAmongIn ids outcome.Poison = Unit {0}

-- the second naming has each of these texts that the first has, by the same number
abbrev pub KeepsTexts : List TextId → Naming → Naming → Type 0
KeepsTexts ids names fewer = (id : ℕ) (t : List ℕ) → IsTrue (is_among ids id) → text_at names id ≡ Some t → text_at fewer id ≡ Some t
