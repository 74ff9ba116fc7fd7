-- A test that passes what names and literals are resolved to passes every part of an expression that is resolved.
use Rattle.std.proofs.Common.{Box, Global, ◌≡◌, ◌<◌, ◌+◌, ℕ, refl, ap, ◌∙◌, Bool, true, false, ◌&&◌, List, [], ◌++◌, Option, Some, None, slice_get, length, nat_eq, add-one}
use Rattle.std.proofs.lemmas.Bool.{and_from}
use Rattle.lola_value.specs.declared.value.Value.{Value}
use Rattle.lola_value.specs.declared.front.Code.{Code}
use Rattle.lola_value.specs.declared.front.Code.TheVariants as code
use Rattle.lola_parser_grammar.specs.declared.literals.Name.{Name}
use Rattle.lola_parser_grammar.specs.declared.literals.Value.{Value as Written}
use Rattle.lola_parser_grammar.specs.declared.literals.Quantity.{Quantity}
use Rattle.lola_parser_grammar.specs.declared.declarations.Constant.{Constant}
use Rattle.lola_parser_grammar.specs.declared.declarations.Declaration.{Declaration}
use Rattle.lola_parser_grammar.specs.declared.declarations.Declaration.TheVariants as d
use Rattle.lola_parser_grammar.specs.declared.expressions.Access.{Access as TreeAccess}
use Rattle.lola_parser_grammar.specs.declared.expressions.Access.TheVariants as a
use Rattle.lola_parser_grammar.specs.declared.expressions.Expr.{Expr as TreeExpr, Row_of-Expr, more_of-Expr, end_of-Expr}
use Rattle.lola_parser_grammar.specs.declared.expressions.Expr.TheVariants as e
use Rattle.lola_model.specs.Named.{is_trigger, is_read_of}
use Rattle.lola_model.specs.Typing.{each_part, each_argument, count_of}
use Rattle.lola_model.specs.declared.expr.Place.{Place}
use Rattle.lola_model.specs.declared.expr.Access.{Access}
use Rattle.lola_model.specs.declared.expr.Prefix.{Prefix}
use Rattle.lola_model.specs.declared.expr.Binary.{Binary}
use Rattle.lola_model.specs.declared.expr.Expr.{Expr}
use Rattle.lola_model.specs.declared.expr.Expr.TheVariants.{Literal, Parameter, Read, Window, Defaults', Unary', Both', Choice'}
use Rattle.lola_model.specs.declared.expr.Arguments.{Arguments}
use Rattle.lola_model.specs.declared.expr.Arguments.TheVariants.{End, More'}
use Rattle.lola_model.specs.declared.spec.Sort.{Sort}
use Rattle.lola_model.specs.declared.spec.Sort.TheVariants as sort
use Rattle.lola_model.specs.declared.spec.Stream.{Stream}
use Rattle.lola_model.specs.declared.spec.WindowSpec.{WindowSpec}
use Rattle.lola_names_refused.specs.declared.names.Meaning.{Meaning}
use Rattle.lola_names_refused.specs.declared.names.Meaning.TheVariants as meaning
use Rattle.lola_names_refused.specs.Table.{meant}
use Rattle.lola_names_refused.specs.Known.{Known}
use Rattle.lola_names_refused.specs.Quantities.{span_of}
use Rattle.lola_names_refused.specs.Refused.{unless, name_use, access_use, reference_use, uses, argument_uses, how_many}
use Rattle.lola_names.specs.declared.targets.Target.{Target}
use Rattle.lola_names.specs.declared.targets.Target.TheVariants as target
use Rattle.lola_names.specs.Targets.{Targets, target_of}
use Rattle.lola_names.specs.Resolved.{Standing, Where, is_stream, IsValue, IsLiteral, IsConstantUse, IsAccess, IsReference, IsResolved, AreArguments, arguments_in, access_of, aggregation_spelled, kind_spelled, place_at}
use Rattle.lola_names.specs.Specification.{access_ranges, expr_ranges, argument_ranges}
use Rattle.lola_names.proofs.Basics.{none_left, none_right, some_none}
use Rattle.lola_names.proofs.TargetsNamed.{Around, StandsAt, IsConstantAt, FitsIf}

pub unless_none : (b : Bool) (c : Code) (at : ℕ) → unless b c at ≡ [] → b ≡ true
unless_none true c at h = refl
unless_none false c at h = absurd (cc)

-- a stream that is no trigger is read with as many arguments as it has parameters
read_there : (s : Stream) (o : Option Stream) (count k : ℕ) → o ≡ Some s → is_trigger s ≡ false → length s.parameters ≡ k → nat_eq count k ≡ true → is_read_of o count ≡ true
read_there s o count k there sort parameters many = rw there (rw sort (rw parameters many))

pub input_read : (ss : List Stream) (n count k : ℕ) → StandsAt ss n sort.Input k → nat_eq count k ≡ true → is_read_of (slice_get ss n) count ≡ true
input_read ss n count k at many =
    read_there at.stream (slice_get ss n) count k at.there (ap (λ (z : Sort). elim z [ sort.Input ↦ false | sort.Output ↦ false | sort.Trigger ↦ true ]) at.sort) at.parameters many

pub output_read : (ss : List Stream) (n count k : ℕ) → StandsAt ss n sort.Output k → nat_eq count k ≡ true → is_read_of (slice_get ss n) count ≡ true
output_read ss n count k at many =
    read_there at.stream (slice_get ss n) count k at.there (ap (λ (z : Sort). elim z [ sort.Input ↦ false | sort.Output ↦ false | sort.Trigger ↦ true ]) at.sort) at.parameters many

module _ (u : Around) (texts : List (List ℕ)) (windows : List WindowSpec) (here : Standing) (G : Type 0) where
  -- a test of parts passes what is resolved, and, where G holds, what is in range
  pub record IsPassing (t : Expr → Bool) : Type 0 where
    pub literal : (at : ℕ) (w : Written) (v : Value) → IsValue texts w v → t (Literal (place_at at) v) ≡ true
    pub constant : (at i : ℕ) (c : Constant) (v : Value) → slice_get u.declarations i ≡ Some (d.Constant c) → IsValue texts c.literal.value v
        → t (Literal (record { at = at; kind = Some (kind_spelled c.kind) }) v) ≡ true
    pub parameter : (place : Place) (i : ℕ) → i < u.parameters → t (Parameter place i) ≡ true
    pub read : (place : Place) (n : ℕ) (how : TreeAccess) (args : Arguments) → is_read_of (slice_get u.streams n) (count_of args) ≡ true
        → (G → access_ranges how ≡ []) → t (Read place n (access_of how) args) ≡ true
    pub window : (place : Place) (w n : ℕ) (args : Arguments) (over : Quantity) (exactly : Bool) (using : Name) → is_read_of (slice_get u.streams n) (count_of args) ≡ true
        → (G → access_ranges (a.Window 0 exactly over using) ≡ [])
        → slice_get windows w ≡ Some (record { stream = here.stream; part = here.clause; target = n; over = span_of over; exact = exactly; using = aggregation_spelled using })
        → t (Window place w args) ≡ true
    pub defaults : (place : Place) (u : Box (Unit {0}) Global) (s : Expr) (v : Box (Unit {0}) Global) (r : Expr) → t (Defaults' place u s v r) ≡ true
    pub unary : (place : Place) (op : Prefix) (u : Box (Unit {0}) Global) (s : Expr) → t (Unary' place op u s) ≡ true
    pub binary : (place : Place) (op : Binary) (u : Box (Unit {0}) Global) (s : Expr) (v : Box (Unit {0}) Global) (r : Expr) → t (Both' place op u s v r) ≡ true
    pub choice : (place : Place) (u : Box (Unit {0}) Global) (s : Expr) (v : Box (Unit {0}) Global) (r : Expr) (w : Box (Unit {0}) Global) (q : Expr) → t (Choice' place u s v r w q) ≡ true

  module _ (t : Expr → Bool) (targets : Targets) (parameters names : Known) where
    read_passes : IsPassing t → (n : ℕ) (how : TreeAccess) (place : Place) (m : ℕ) (read : Access) (args : Arguments) → is_read_of (slice_get u.streams n) (count_of args) ≡ true
        → (G → access_ranges how ≡ []) → m ≡ n → read ≡ access_of how → each_argument t args ≡ true → each_part t (Read place m read args) ≡ true
    read_passes p n how place m read args there ranged number is all =
        and_from (t (Read place m read args)) (each_argument t args) (rw number (rw is (p.read place n how args there ranged))) all

    access_passes : IsPassing t → (name : Name) (n : ℕ) (how : TreeAccess) (r : Expr) → is_read_of (slice_get u.streams n) (count_of (arguments_in r)) ≡ true
        → (G → access_ranges how ≡ []) → IsAccess u.declarations targets texts windows here name n how r → each_argument t (arguments_in r) ≡ true → each_part t r ≡ true
    access_passes p name n (a.Window point exactly over using) (Window place w args) there ranged is all =
        and_from (t (Window place w args)) (each_argument t args) (p.window place w n args over exactly using there ranged is.1) all
    access_passes p name n (a.Window point exactly over using) _ there ranged is all = absurd is
    access_passes p name n a.Direct (Read place m read args) there ranged is all = read_passes p n a.Direct place m read args there ranged is.1 is.2 all
    access_passes p name n a.Direct _ there ranged is all = absurd is
    access_passes p name n (a.Hold point) (Read place m read args) there ranged is all = read_passes p n (a.Hold point) place m read args there ranged is.1 is.2 all
    access_passes p name n (a.Hold point) _ there ranged is all = absurd is
    access_passes p name n (a.Get point) (Read place m read args) there ranged is all = read_passes p n (a.Get point) place m read args there ranged is.1 is.2 all
    access_passes p name n (a.Get point) _ there ranged is all = absurd is
    access_passes p name n (a.Offset point k at) (Read place m read args) there ranged is all = read_passes p n (a.Offset point k at) place m read args there ranged is.1 is.2 all
    access_passes p name n (a.Offset point k at) _ there ranged is all = absurd is

    literal_passes : IsPassing t → (at : ℕ) (w : Written) (r : Expr) → IsLiteral texts (place_at at) w r → each_part t r ≡ true
    literal_passes p at w (Literal noted v) h = rw h.0 (p.literal at w v h.1)
    literal_passes p at w _ h = absurd h

    constant_passes : IsPassing t → (at i : ℕ) (o : Option Declaration) (r : Expr) → slice_get u.declarations i ≡ o → IsConstantAt u.declarations i → IsConstantUse texts at o r → each_part t r ≡ true
    constant_passes p at i None r e c h = absurd h
    constant_passes p at i (Some (d.Inputs x)) r e c h = absurd h
    constant_passes p at i (Some (d.Output x)) r e c h = absurd h
    constant_passes p at i (Some (d.Trigger x)) r e c h = absurd h
    constant_passes p at i (Some (d.Constant x)) (Literal noted v) e c h = rw h.0 (p.constant at i x v e h.1)
    constant_passes p at i (Some (d.Constant x)) _ e c h = absurd h

    reference_passes : IsPassing t → (name : Name) (count : ℕ) (how : TreeAccess) (r : Expr) (m : Option Meaning) (o : Option Target) → FitsIf u m o
        → name_use m name count how ≡ [] → (G → access_ranges how ≡ [])
        → IsReference u.declarations targets texts windows here o name how r
        → (is_stream o ≡ true → (count_of (arguments_in r) ≡ count) × (each_argument t (arguments_in r) ≡ true))
        → each_part t r ≡ true
    reference_passes p name count how r None None f none ranged is all = some_none (record { code = code.Unknown; at = name.at }) [] none
    reference_passes p name count how r None (Some o) f none ranged is all = absurd f
    reference_passes p name count how r (Some m) None f none ranged is all = absurd f
    reference_passes p name count how r (Some meaning.Input) (Some (target.Input s i)) f none ranged is all =
        let many : nat_eq (count_of (arguments_in r)) 0 ≡ true = rw ((all refl).0) (unless_none (nat_eq count 0) code.BadArity name.at none) in
        access_passes p name s how r (input_read u.streams s (count_of (arguments_in r)) 0 f.0 many) ranged is (all refl).1
    reference_passes p name count how r (Some (meaning.Output k)) (Some (target.Output s)) f none ranged is all =
        let many : nat_eq (count_of (arguments_in r)) k ≡ true = rw ((all refl).0) (unless_none (nat_eq count k) code.BadArity name.at none) in
        access_passes p name s how r (output_read u.streams s (count_of (arguments_in r)) k f many) ranged is (all refl).1
    reference_passes p name count how r (Some meaning.Constant) (Some (target.Constant c)) f none ranged is all =
        constant_passes p name.at c (slice_get u.declarations c) r refl f is
    reference_passes p name count how r (Some meaning.Parameter) (Some (target.Parameter i)) f none ranged is all =
        rw is (p.parameter (place_at name.at) i f)
    reference_passes p name count how r (Some m) (Some o) f none ranged is all = absurd f

    arguments_count : {n : _} (row : Row_of-Expr n) (args : Arguments) → AreArguments u.declarations targets texts windows here row args → count_of args ≡ how_many row
    arguments_count end_of-Expr End h = refl
    arguments_count (more_of-Expr x rest) (More' v s w others) h = ap (λ n. n + 1) (arguments_count rest others h.1) ∙ add-one (how_many rest)
    arguments_count end_of-Expr (More' v s w others) h = absurd h
    arguments_count (more_of-Expr x rest) End h = absurd h

    arguments_where : (b : Bool) (A : Type 0) → Where b A → b ≡ true → A
    arguments_where true A h e = h
    arguments_where false A h e = absurd (cc)

    module _ (p : IsPassing t) (fits : (q : List ℕ) → FitsIf u (meant parameters names q) (target_of here.parameters targets q)) where
      mutual
        -- an expression of whose names nothing is refused
        pub resolved_passes : (x : TreeExpr) (r : Expr) → uses parameters names x ≡ [] → (G → expr_ranges x ≡ []) → IsResolved u.declarations targets texts windows here x r → each_part t r ≡ true
        resolved_passes (e.Literal l) r none ranged is = literal_passes p l.at l.value r is
        resolved_passes (e.Reference' n bracket shape row how) r none ranged is =
            let mine = none_left (reference_use parameters names n (how_many row) how) (argument_uses parameters names row) none in
            let theirs = none_right (reference_use parameters names n (how_many row) how) (argument_uses parameters names row) none in
            reference_passes p n (how_many row) how r (meant parameters names n.text) (target_of here.parameters targets n.text) (fits n.text)
            (none_left (name_use (meant parameters names n.text) n (how_many row) how) (access_use how) mine)
            (λ g. none_left (access_ranges how) (argument_ranges row) (ranged g))
            is.0
            (λ stream.
            let are = arguments_where (is_stream (target_of here.parameters targets n.text)) (AreArguments u.declarations targets texts windows here row (arguments_in r)) is.1 stream in
            (arguments_count row (arguments_in r) are, arguments_pass row (arguments_in r) theirs (λ g. none_right (access_ranges how) (argument_ranges row) (ranged g)) are))
        resolved_passes (e.Defaults' at h (more_of-Expr x end_of-Expr) i (more_of-Expr y end_of-Expr)) (Defaults' place v s w r) none ranged is =
            and_from (t (Defaults' place v s w r)) (each_part t s && each_part t r) (p.defaults place v s w r)
            (and_from (each_part t s) (each_part t r)
            (resolved_passes x s (none_left (uses parameters names x) (uses parameters names y) none) (λ g. none_left (expr_ranges x) (expr_ranges y) (ranged g)) is.1)
            (resolved_passes y r (none_right (uses parameters names x) (uses parameters names y) none) (λ g. none_right (expr_ranges x) (expr_ranges y) (ranged g)) is.2))
        resolved_passes (e.Prefix' operator at h (more_of-Expr x end_of-Expr)) (Unary' place op v s) none ranged is =
            and_from (t (Unary' place op v s)) (each_part t s) (p.unary place op v s) (resolved_passes x s none ranged is.2)
        resolved_passes (e.Binary' operator at h (more_of-Expr x end_of-Expr) i (more_of-Expr y end_of-Expr)) (Both' place op v s w r) none ranged is =
            and_from (t (Both' place op v s w r)) (each_part t s && each_part t r) (p.binary place op v s w r)
            (and_from (each_part t s) (each_part t r)
            (resolved_passes x s (none_left (uses parameters names x) (uses parameters names y) none) (λ g. none_left (expr_ranges x) (expr_ranges y) (ranged g)) is.2)
            (resolved_passes y r (none_right (uses parameters names x) (uses parameters names y) none) (λ g. none_right (expr_ranges x) (expr_ranges y) (ranged g)) is.3))
        resolved_passes (e.If' at h (more_of-Expr x end_of-Expr) i (more_of-Expr y end_of-Expr) j (more_of-Expr z end_of-Expr)) (Choice' place v s w r o q) none ranged is =
            let others = none_right (uses parameters names x) (uses parameters names y ++ uses parameters names z) none in
            and_from (t (Choice' place v s w r o q)) (each_part t s && (each_part t r && each_part t q)) (p.choice place v s w r o q)
            (and_from (each_part t s) (each_part t r && each_part t q)
            (resolved_passes x s (none_left (uses parameters names x) (uses parameters names y ++ uses parameters names z) none) (λ g. none_left (expr_ranges x) (expr_ranges y ++ expr_ranges z) (ranged g)) is.1)
            (and_from (each_part t r) (each_part t q)
            (resolved_passes y r (none_left (uses parameters names y) (uses parameters names z) others)
            (λ g. none_left (expr_ranges y) (expr_ranges z) (none_right (expr_ranges x) (expr_ranges y ++ expr_ranges z) (ranged g))) is.2)
            (resolved_passes z q (none_right (uses parameters names y) (uses parameters names z) others)
            (λ g. none_right (expr_ranges y) (expr_ranges z) (none_right (expr_ranges x) (expr_ranges y ++ expr_ranges z) (ranged g))) is.3)))
        resolved_passes _ _ none ranged is = absurd is

        arguments_pass : {n : _} (row : Row_of-Expr n) (args : Arguments) → argument_uses parameters names row ≡ [] → (G → argument_ranges row ≡ [])
            → AreArguments u.declarations targets texts windows here row args → each_argument t args ≡ true
        arguments_pass end_of-Expr End none ranged are = refl
        arguments_pass (more_of-Expr x rest) (More' v s w others) none ranged are =
            and_from (each_part t s) (each_argument t others)
            (resolved_passes x s (none_left (uses parameters names x) (argument_uses parameters names rest) none) (λ g. none_left (expr_ranges x) (argument_ranges rest) (ranged g)) are.0)
            (arguments_pass rest others (none_right (uses parameters names x) (argument_uses parameters names rest) none) (λ g. none_right (expr_ranges x) (argument_ranges rest) (ranged g)) are.1)
        arguments_pass end_of-Expr (More' v s w others) none ranged are = absurd are
        arguments_pass (more_of-Expr x rest) End none ranged are = absurd are
