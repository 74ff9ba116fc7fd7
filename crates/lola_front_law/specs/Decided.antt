-- What a text is, as far as its names: declarations, or a refusal.
use Rattle.std.specs.Prelude.{ℕ, ◌≡◌, ◌⊎◌, List, []}
use Rattle.lola_value.specs.declared.front.Refusal.{Refusal}
use Rattle.lola_parser_grammar.specs.declared.declarations.Declaration.{Declaration}
use Rattle.lola_names_refused.specs.Refused as names
use Rattle.lola_model.specs.declared.plan.Plan.{Plan}
use Rattle.lola_front.specs.Front.{IsRead, IsPlanOf, IsTokenRefusal, IsSyntaxRefusal, IsNameRefusal, IsKindRefusal, IsPacingRefusal, IsCycleRefusal}

-- the declarations of a text, of whose names nothing is refused
pub record AreNamed (bytes : List ℕ) (ds : List Declaration) : Type 0 where
  pub read : IsRead bytes ds
  pub names : names.refusals_of ds ≡ []

-- a refusal before anything is asked of kinds: for a token, for the grammar or for a name
abbrev pub IsEarlyRefusal : List ℕ → Refusal → Type 0
IsEarlyRefusal bytes r = IsTokenRefusal bytes r ⊎ (IsSyntaxRefusal bytes r ⊎ IsNameRefusal bytes r)

-- a later one: for kinds and literals, for pacings or for a closed walk
abbrev pub IsLateRefusal : List ℕ → Refusal → Type 0
IsLateRefusal bytes r = IsKindRefusal bytes r ⊎ (IsPacingRefusal bytes r ⊎ IsCycleRefusal bytes r)

-- one of declarations and an early refusal is there, never both are, and each is one; what is refused early has no plan and no later
-- refusal
pub record IsDecided (bytes : List ℕ) : Type 0 where
  pub is_some : ((ds : List Declaration) × AreNamed bytes ds) ⊎ ((r : Refusal) × IsEarlyRefusal bytes r)
  pub is_either : (ds : List Declaration) (r : Refusal) → AreNamed bytes ds → IsEarlyRefusal bytes r → ⊥
  pub one_tree : (ds es : List Declaration) → AreNamed bytes ds → AreNamed bytes es → ds ≡ es
  pub one_refusal : (r q : Refusal) → IsEarlyRefusal bytes r → IsEarlyRefusal bytes q → r ≡ q
  pub no_plan : (plan : Plan) (r : Refusal) → IsPlanOf bytes plan → IsEarlyRefusal bytes r → ⊥
  pub no_later : (q r : Refusal) → IsLateRefusal bytes q → IsEarlyRefusal bytes r → ⊥

abbrev pub AreDecided : Type 0
AreDecided = (bytes : List ℕ) → IsDecided bytes
