-- Worked specifications: what is refused of their names.
use Rattle.std.proofs.Common.{◌≡◌, ℕ, List, [], ◌∷◌, Some, None, false, refl}
use Rattle.std.specs.Prelude.{codes}
use Rattle.lola_value.specs.declared.front.Code.TheVariants as code
use Rattle.lola_parser_grammar.specs.declared.literals.Name.{Name}
use Rattle.lola_parser_grammar.specs.declared.literals.Value.TheVariants as value
use Rattle.lola_parser_grammar.specs.declared.expressions.Expr.TheVariants as e
use Rattle.lola_parser_grammar.specs.declared.clauses.Eval.{Eval}
use Rattle.lola_parser_grammar.specs.declared.declarations.Declaration.{Declaration}
use Rattle.lola_parser_grammar.specs.declared.declarations.Declaration.TheVariants as d
use Rattle.lola_names_refused.specs.Refused.{refusals_of, refused}

abbrev name : List ℕ → ℕ → Name
name text at = record { text = text; at = at }

-- input a: Int64
abbrev an_input : Declaration
an_input = d.Inputs (record { at = 0; inputs = record { name = name (codes "a") 6; kind = name (codes "Int64") 9 } ∷ [] })

-- := 1
abbrev one : Eval
one = record { at = 31; pacing = None; when = None; with = record { at = 31; expr = e.Literal (record { value = value.Integer false 1; at = 34 }) } }

-- output .. : .. := 1
abbrev an_output : List ℕ → List ℕ → Declaration
an_output text kind =
    d.Output (record { at = 15; name = name text 22; bracket = None; parameters = []; kind = Some (name kind 25); spawn = None; eval = one; close = None })

accepted : refusals_of (an_input ∷ an_output (codes "b") (codes "Int64") ∷ []) ≡ []
accepted = refl

declared_twice : refusals_of (an_input ∷ an_output (codes "a") (codes "Int64") ∷ []) ≡ refused code.Duplicate 22
declared_twice = refl

unknown_kind : refusals_of (an_input ∷ an_output (codes "b") (codes "Int") ∷ []) ≡ refused code.Unknown 25
unknown_kind = refl
