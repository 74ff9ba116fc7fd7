-- The refusals of names: E5 Duplicate, E6 Unknown, E7 TooMany, E8 BadArity, as the table of refusals of the language has them.
use Rattle.std.specs.Prelude.{ℕ, suc, List, [], ◌∷◌, ◌++◌, Option, Some, None, Bool, true, false, ◌&&◌, if◌then◌else◌, is_some, nat_eq, nat_lt, length, map, slice_get}
use Rattle.std.specs.List.{flat_map}
use Rattle.lola_value.specs.declared.front.Code.{Code}
use Rattle.lola_value.specs.declared.front.Code.TheVariants as code
use Rattle.lola_value.specs.declared.front.Refusal.{Refusal}
use Rattle.lola_parser_grammar.specs.declared.literals.Name.{Name}
use Rattle.lola_parser_grammar.specs.declared.literals.Typed.{Typed}
use Rattle.lola_parser_grammar.specs.declared.expressions.Access.{Access}
use Rattle.lola_parser_grammar.specs.declared.expressions.Access.TheVariants as a
use Rattle.lola_parser_grammar.specs.declared.expressions.Expr.{Expr, Row_of-Expr, more_of-Expr, end_of-Expr}
use Rattle.lola_parser_grammar.specs.declared.expressions.Expr.TheVariants as e
use Rattle.lola_parser_grammar.specs.declared.pacing.Formula.{Formula, more_of-Formula, end_of-Formula}
use Rattle.lola_parser_grammar.specs.declared.pacing.Formula.TheVariants as f
use Rattle.lola_parser_grammar.specs.declared.pacing.Rhythm.{Rhythm}
use Rattle.lola_parser_grammar.specs.declared.pacing.Rhythm.TheVariants as r
use Rattle.lola_parser_grammar.specs.declared.pacing.Pacing.{Pacing}
use Rattle.lola_parser_grammar.specs.declared.clauses.Part.{Part}
use Rattle.lola_parser_grammar.specs.declared.clauses.Spawn.{Spawn}
use Rattle.lola_parser_grammar.specs.declared.clauses.Eval.{Eval}
use Rattle.lola_parser_grammar.specs.declared.clauses.Close.{Close}
use Rattle.lola_parser_grammar.specs.declared.declarations.Output.{Output}
use Rattle.lola_parser_grammar.specs.declared.declarations.Declaration.{Declaration}
use Rattle.lola_parser_grammar.specs.declared.declarations.Declaration.TheVariants as d
use Rattle.lola_names_refused.specs.declared.names.Meaning.{Meaning}
use Rattle.lola_names_refused.specs.declared.names.Meaning.TheVariants as meaning
use Rattle.lola_names_refused.specs.Table.{meaning_in, meant, with_name}
use Rattle.lola_names_refused.specs.Known.{Known, Declared, declared, names_of, parameters_of, with_names}
use Rattle.lola_names_refused.specs.Words.{kind_named, aggregation_named}

-- one refusal
abbrev pub refused : Code → ℕ → List Refusal
refused c at = record { code = c; at = at } ∷ []

-- a refusal, unless this holds
abbrev pub unless : Bool → Code → ℕ → List Refusal
unless holds c at = if holds then [] else refused c at

-- a refusal, if this holds
abbrev pub where_ : Bool → Code → ℕ → List Refusal
where_ holds c at = if holds then refused c at else []

-- ---- E5: a name is declared twice

-- a name that is known already
abbrev pub repeated : Known → List Declared → List Refusal
repeated known [] = []
repeated known (n ∷ ns) = where_ (is_some (meaning_in known n.0.text)) code.Duplicate n.0.at ++ repeated (with_name known n) ns

-- a parameter that is known already, or that is an earlier one of the same stream
abbrev pub repeated_parameters : Known → Known → List Declared → List Refusal
repeated_parameters names own [] = []
repeated_parameters names own (p ∷ ps) =
    where_ (is_some (meant own names p.0.text)) code.Duplicate p.0.at ++ repeated_parameters names (with_name own p) ps

abbrev pub parameters_in : Declaration → List Typed
parameters_in (d.Output x) = x.parameters
parameters_in _ = []

-- behind these names
abbrev pub repeats : Known → Declaration → List Refusal
repeats known x = repeated known (declared x) ++ repeated_parameters (with_names known (declared x)) [] (parameters_of (parameters_in x))

abbrev pub all_repeats : Known → List Declaration → List Refusal
all_repeats known [] = []
all_repeats known (x ∷ xs) = repeats known x ++ all_repeats (with_names known (declared x)) xs

-- ---- E7: too many

-- the first behind the most that there may be
abbrev pub beyond : Option ℕ → List Refusal
beyond None = []
beyond (Some at) = refused code.TooMany at

abbrev pub too_many : ℕ → List ℕ → List Refusal
too_many most places = beyond (slice_get places most)

abbrev pub places_of : List Typed → List ℕ
places_of ts = map (λ (t : Typed). t.name.at) ts

-- where inputs are declared
abbrev pub input_places : Declaration → List ℕ
input_places (d.Inputs x) = places_of x.inputs
input_places _ = []

-- where streams are declared: at their names, a trigger at its keyword
abbrev pub stream_places : Declaration → List ℕ
stream_places (d.Inputs x) = places_of x.inputs
stream_places (d.Constant x) = []
stream_places (d.Output x) = x.name.at ∷ []
stream_places (d.Trigger x) = x.when.at ∷ []

-- ---- E6 to E8: where names are used

-- a kind
abbrev pub kind_use : Name → List Refusal
kind_use n = unless (is_some (kind_named n.text)) code.Unknown n.at

abbrev pub kind_uses : List Typed → List Refusal
kind_uses ts = flat_map (λ (t : Typed). kind_use t.kind) ts

abbrev pub is_direct : Access → Bool
is_direct a.Direct = true
is_direct _ = false

-- a constant or a parameter has no arguments and is read by its name alone
abbrev pub value_use : Name → ℕ → Access → List Refusal
value_use n arguments how = unless (nat_eq arguments 0 && is_direct how) code.Unknown n.at

-- a stream has as many arguments as parameters
abbrev pub stream_use : ℕ → Name → ℕ → List Refusal
stream_use parameters n arguments = unless (nat_eq arguments parameters) code.BadArity n.at

-- a name of an expression that means this
abbrev pub name_use : Option Meaning → Name → ℕ → Access → List Refusal
name_use None n arguments how = refused code.Unknown n.at
name_use (Some meaning.Input) n arguments how = stream_use 0 n arguments
name_use (Some meaning.Constant) n arguments how = value_use n arguments how
name_use (Some (meaning.Output parameters)) n arguments how = stream_use parameters n arguments
name_use (Some meaning.Parameter) n arguments how = value_use n arguments how

-- how a name is read
abbrev pub access_use : Access → List Refusal
access_use (a.Offset point k at) = where_ (nat_lt 4096 k) code.TooMany at
access_use (a.Window point exactly over using) = unless (is_some (aggregation_named using.text)) code.Unknown using.at
access_use _ = []

-- a name with so many arguments, in the scope of these parameters and names
abbrev pub reference_use : Known → Known → Name → ℕ → Access → List Refusal
reference_use parameters names n arguments how = name_use (meant parameters names n.text) n arguments how ++ access_use how

abbrev pub how_many : {n : _} → Row_of-Expr n → ℕ
how_many end_of-Expr = 0
how_many (more_of-Expr x rest) = suc (how_many rest)

-- an expression, in the same scope
abbrev mutual
  pub uses : Known → Known → Expr → List Refusal
  uses parameters names (e.Literal l) = []
  uses parameters names (e.Reference' n bracket shape row how) =
      reference_use parameters names n (how_many row) how ++ argument_uses parameters names row
  uses parameters names (e.Defaults' at p (more_of-Expr x end_of-Expr) q (more_of-Expr y end_of-Expr)) =
      uses parameters names x ++ uses parameters names y
  uses parameters names (e.Prefix' op at p (more_of-Expr x end_of-Expr)) = uses parameters names x
  uses parameters names (e.Binary' op at p (more_of-Expr x end_of-Expr) q (more_of-Expr y end_of-Expr)) =
      uses parameters names x ++ uses parameters names y
  uses parameters names (e.If' at p (more_of-Expr x end_of-Expr) q (more_of-Expr y end_of-Expr) r (more_of-Expr z end_of-Expr)) =
      uses parameters names x ++ (uses parameters names y ++ uses parameters names z)

  pub argument_uses : {n : _} → Known → Known → Row_of-Expr n → List Refusal
  argument_uses parameters names end_of-Expr = []
  argument_uses parameters names (more_of-Expr x rest) = uses parameters names x ++ argument_uses parameters names rest

abbrev pub all_uses : Known → Known → List Expr → List Refusal
all_uses parameters names xs = flat_map (uses parameters names) xs

-- an input of a pacing
abbrev pub is_input_name : Option Meaning → Bool
is_input_name (Some meaning.Input) = true
is_input_name _ = false

abbrev pub input_use : Known → Name → List Refusal
input_use names n = unless (is_input_name (meaning_in names n.text)) code.Unknown n.at

abbrev pub formula_uses : Known → Formula → List Refusal
formula_uses names (f.Input n) = input_use names n
formula_uses names (f.Both' at p (more_of-Formula x end_of-Formula) q (more_of-Formula y end_of-Formula)) = formula_uses names x ++ formula_uses names y
formula_uses names (f.Either' at p (more_of-Formula x end_of-Formula) q (more_of-Formula y end_of-Formula)) = formula_uses names x ++ formula_uses names y

abbrev pub rhythm_uses : Known → Rhythm → List Refusal
rhythm_uses names (r.Formula x) = formula_uses names x
rhythm_uses names _ = []

-- what may be left out
abbrev pub of_option : {A : Type 0} → (A → List Refusal) → Option A → List Refusal
of_option f None = []
of_option f (Some x) = f x

abbrev pub pacing_uses : Known → Option Pacing → List Refusal
pacing_uses names p = of_option (λ (x : Pacing). rhythm_uses names x.rhythm) p

abbrev pub when_uses : Known → Known → Option Part → List Refusal
when_uses parameters names p = of_option (λ (x : Part). uses parameters names x.expr) p

abbrev pub with_uses : Known → Known → List Part → List Refusal
with_uses parameters names ps = flat_map (λ (x : Part). uses parameters names x.expr) ps

-- a spawn clause has no parameters in its scope
abbrev pub spawn_uses : Known → Spawn → List Refusal
spawn_uses names x = pacing_uses names x.pacing ++ (when_uses [] names x.when ++ with_uses [] names x.with)

abbrev pub eval_uses : Known → Known → Eval → List Refusal
eval_uses parameters names x = pacing_uses names x.pacing ++ (when_uses parameters names x.when ++ uses parameters names x.with.expr)

abbrev pub close_uses : Known → Known → Close → List Refusal
close_uses parameters names x = pacing_uses names x.pacing ++ uses parameters names x.when.expr

-- how many parameters a spawn clause names
abbrev pub count_spawned : Option Spawn → ℕ
count_spawned None = 0
count_spawned (Some x) = length x.with

-- the clauses of an output
abbrev pub clause_uses : Known → Known → Output → List Refusal
clause_uses parameters names x =
    of_option (spawn_uses names) x.spawn ++ (eval_uses parameters names x.eval ++ of_option (close_uses parameters names) x.close)

-- what an output says before its clauses
abbrev pub head_uses : Output → List Refusal
head_uses x =
    too_many 4 (places_of x.parameters) ++ (kind_uses x.parameters ++ (of_option kind_use x.kind
    ++ unless (nat_eq (count_spawned x.spawn) (length x.parameters)) code.BadArity x.name.at))

abbrev pub output_uses : Known → Output → List Refusal
output_uses names x = head_uses x ++ clause_uses (with_names [] (parameters_of x.parameters)) names x

abbrev pub declaration_uses : Known → Declaration → List Refusal
declaration_uses names (d.Inputs x) = kind_uses x.inputs
declaration_uses names (d.Constant x) = kind_use x.kind
declaration_uses names (d.Output x) = output_uses names x
declaration_uses names (d.Trigger x) = pacing_uses names x.pacing ++ uses [] names x.when.expr

-- all refusals of the names of a specification
abbrev pub refusals_of : List Declaration → List Refusal
refusals_of xs =
    all_repeats [] xs
    ++ (too_many 64 (flat_map input_places xs) ++ (too_many 1024 (flat_map stream_places xs) ++ flat_map (declaration_uses (names_of xs)) xs))
