-- Which texts an engine lets go of before a row, and which it holds after it.
use Rattle.std.specs.Prelude.{ℕ, ◌≡◌, ◌+◌, ◌*◌, ◌≤◌, List, [], ◌∷◌, ◌++◌, Bool, ◌&&◌, nat_lt, if◌then◌else◌, length}
use Rattle.std.specs.List.{All, Contains}
use Rattle.lola_value.specs.declared.text.Field.{Field}
use Rattle.lola_value.specs.declared.text.Field.TheVariants as field
use Rattle.lola_value.specs.declared.value.TextId.{TextId}
use Rattle.lola_value.specs.Naming.{Naming}
use Rattle.lola_text.specs.Texts.{Texts, swept}
use Rattle.lola_engine.specs.declared.engine.EngineState.{EngineState}

-- the numbers of literals' texts, which are those of their places, counted from n
abbrev pub literals_from : ℕ → List (List ℕ) → List TextId
literals_from n [] = []
literals_from n (t ∷ ts) = record { 0 = n } ∷ literals_from (n + 1) ts

-- the numbers of the texts that are needed: those that the store holds, and those of literals
abbrev pub needed : List TextId → List (List ℕ) → List TextId
needed holds literals = holds ++ literals_from 0 literals

-- a store that keeps only what accesses need, and many more texts than the newest sweep left
abbrev pub has_too_many : Bool → ℕ → ℕ → Bool
has_too_many bounded held left = bounded && nat_lt (2 * left + 1024) (held + 64)

-- the texts that are left where the others go
abbrev pub texts_left : Bool → List TextId → Texts → Texts
texts_left goes kept t = if goes then swept t kept else t

-- and how many the newest sweep left
abbrev pub count_left : Bool → List TextId → Texts → ℕ → ℕ
count_left goes kept t left = if goes then length (swept t kept).held else left

-- where too many texts are held, exactly those that are needed are left; else all are
pub record LetsGo (bounded : Bool) (holds : List TextId) (literals : List (List ℕ)) (old : Texts) (left : ℕ) (new : Texts) (left' : ℕ) : Type 0 where
  pub texts : new ≡ texts_left (has_too_many bounded (length old.held) left) (needed holds literals) old
  pub count : left' ≡ count_left (has_too_many bounded (length old.held) left) (needed holds literals) old left

-- texts of fields come behind those that were held, at most one for each
pub record AddsTexts (fields : List Field) (old new : Naming) : Type 0 where
  pub more : Naming
  pub joined : new ≡ old ++ more
  pub few : length more ≤ length fields
  pub of_fields : All (λ e. Contains fields (field.Text e.1)) more

-- a row is read: texts are let go, and then the row's are added
pub record TakesTexts (bounded : Bool) (holds : List TextId) (literals : List (List ℕ)) (fields : List Field) (old : Texts) (left : ℕ) (new : Texts) (left' : ℕ) : Type 0 where
  pub between : Texts
  pub goes : LetsGo bounded holds literals old left between left'
  pub adds : AddsTexts fields between.held new.held

-- the same of an engine whose store held the texts of these numbers
abbrev pub RenewsTexts : Bool → List TextId → List Field → EngineState → EngineState → Type 0
RenewsTexts bounded holds fields old new = TakesTexts bounded holds old.plan.spec.texts fields old.texts old.swept new.texts new.swept
