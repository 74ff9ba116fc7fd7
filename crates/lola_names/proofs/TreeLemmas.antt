-- The forms of a tree, resolved.
use Rattle.std.proofs.Common.{◌≡◌, ℕ, ◌+◌, ◌<◌, ◌≤◌, Bool, true, false, List, [], ◌∷◌, ◌++◌, Option, Some, None, length, get_or, drop, refl, sym, ap, ap₂, subst, ◌∙◌, append_assoc, append-nil}
use Rattle.std.proofs.lemmas.List.{at_drop_more, at_drop_all}
use Rattle.lola_parser_grammar.specs.declared.literals.Name.{Name}
use Rattle.lola_parser_grammar.specs.declared.declarations.Declaration.{Declaration}
use Rattle.lola_parser_grammar.specs.declared.expressions.Prefix.{Prefix}
use Rattle.lola_parser_grammar.specs.declared.expressions.Binary.{Binary}
use Rattle.lola_parser_grammar.specs.declared.expressions.Access.{Access}
use Rattle.lola_parser_grammar.specs.declared.expressions.Expr.{Expr as TreeExpr, Row_of-Expr, more_of-Expr, end_of-Expr, items-the_row-Expr, items_hidden-the_row-Expr-0}
use Rattle.lola_parser_grammar.specs.declared.expressions.Expr.TheVariants as e
use Rattle.lola_parser_grammar.specs.declared.expressions.Expr.TheBlock as X
use Rattle.lola_parser_grammar.specs.declared.pacing.Formula.{Formula as TreeFormula}
use Rattle.lola_parser_grammar.specs.declared.pacing.Formula.TheVariants as f
use Rattle.lola_parser_grammar.specs.declared.pacing.Formula.TheBlock as F
use mathlib.Core.Former.{Count}
use Rattle.lola_model.specs.Parts.{listed, listed_all, listed_with}
use Rattle.lola_model.specs.Named.{window_number, literal_text}
use Rattle.lola_model.specs.declared.expr.Place.{Place}
use Rattle.lola_model.specs.declared.expr.Prefix.{Prefix as ModelPrefix}
use Rattle.lola_model.specs.declared.expr.Binary.{Binary as ModelBinary}
use Rattle.lola_model.specs.declared.expr.Expr.{Expr}
use Rattle.lola_model.specs.declared.expr.Expr.TheVariants.{Defaults', Unary', Both', Choice'}
use Rattle.lola_model.specs.declared.expr.Arguments.{Arguments}
use Rattle.lola_model.specs.declared.expr.Arguments.TheVariants.{End, More'}
use Rattle.lola_model.specs.declared.spec.Formula.{Formula}
use Rattle.lola_model.specs.declared.spec.Formula.TheVariants.{And', Or'}
use Rattle.lola_model.specs.declared.spec.WindowSpec.{WindowSpec}
use Rattle.lola_names_refused.specs.Table.{hides}
use Rattle.lola_names.specs.Targets.{Targets, target_of}
use Rattle.lola_names.specs.Resolved.{Standing, IsResolved, AreArguments, IsReference, Where, is_stream, arguments_in, place_at, prefix_of, binary_of}
use Rattle.lola_names.specs.Clauses.{IsFormula}
use Rattle.lola_names.specs.Made.{Grows, GrowsBy, FromNowOn, ResolvesTo, IsScope, IsFormulaBy, standing_in}
use Rattle.lola_names.specs.Parted.{AreResolved, AreResolvedTo, GrowsByAll, IsNamedTo, IsConstantIn, items_of, whole_of}
use Rattle.lola_names.specs.declared.expressions.Named.{Named}
use Rattle.lola_names.specs.declared.expressions.Named.TheVariants as named
use Rattle.lola_names.specs.declared.made.Made.{Made}
use Rattle.lola_names.specs.declared.scope.Scope.{Scope}
use Rattle.lola_names.specs.declared.targets.Target.{Target}
use Rattle.lola_names.specs.declared.targets.Target.TheVariants as target
use Rattle.lola_names.proofs.Growth.{grows_then, from_then}

-- ---- one form

module _ (declarations : List Declaration) (targets : Targets) (texts : List (List ℕ)) (windows : List WindowSpec) (here : Standing) where
  abbrev Is : TreeExpr → Expr → Type 0
  Is x r = IsResolved declarations targets texts windows here x r

  pub is-Prefix : (operator : Prefix) (at : ℕ) (x : TreeExpr) (place : Place) (op : ModelPrefix) (u : _) (s : Expr) → place ≡ place_at at → op ≡ prefix_of operator → Is x s → Is (e.Prefix operator at x) (Unary' place op u s)
  unfolding X.shape-the_row-Expr-1 X.hidden-the_row-Expr-1 denote.Hole.Carrier.hidden denote.Hole.Carrier.shown denote.Hole.Carrier.roll denote.Hole.Carrier.out
  is-Prefix operator at x place op u s p q r = (p, q, r)

  pub is-Defaults : (at : ℕ) (x y : TreeExpr) (place : Place) (u : _) (s : Expr) (v : _) (t : Expr) → place ≡ place_at at → Is x s → Is y t → Is (e.Defaults at x y) (Defaults' place u s v t)
  unfolding X.shape-the_row-Expr-1 X.hidden-the_row-Expr-1 denote.Hole.Carrier.hidden denote.Hole.Carrier.shown denote.Hole.Carrier.roll denote.Hole.Carrier.out
  is-Defaults at x y place u s v t p r k = (p, r, k)

  pub is-Binary : (operator : Binary) (at : ℕ) (x y : TreeExpr) (place : Place) (op : ModelBinary) (u : _) (s : Expr) (v : _) (t : Expr) → place ≡ place_at at → op ≡ binary_of operator → Is x s → Is y t
      → Is (e.Binary operator at x y) (Both' place op u s v t)
  unfolding X.shape-the_row-Expr-1 X.hidden-the_row-Expr-1 denote.Hole.Carrier.hidden denote.Hole.Carrier.shown denote.Hole.Carrier.roll denote.Hole.Carrier.out
  is-Binary operator at x y place op u s v t p q r k = (p, q, r, k)

  pub is-If : (at : ℕ) (x y z : TreeExpr) (place : Place) (u : _) (s : Expr) (v : _) (t : Expr) (w : _) (q : Expr) → place ≡ place_at at → Is x s → Is y t → Is z q
      → Is (e.If at x y z) (Choice' place u s v t w q)
  unfolding X.shape-the_row-Expr-1 X.hidden-the_row-Expr-1 denote.Hole.Carrier.hidden denote.Hole.Carrier.shown denote.Hole.Carrier.roll denote.Hole.Carrier.out
  is-If at x y z place u s v t w q p r k l = (p, r, k, l)

  are_arguments : (n : _) (row : Row_of-Expr n) (args : Arguments) → AreResolved declarations targets texts windows here (items-the_row-Expr n row) (items_of args) → AreArguments declarations targets texts windows here row args
  are_arguments n end_of-Expr End all = tt
  are_arguments n end_of-Expr (More' u s v rest) all = all
  are_arguments n (more_of-Expr x row) End all = all
  are_arguments n (more_of-Expr x row) (More' u s v rest) all = (all.0, are_arguments _ row rest all.1)

  abbrev row_of : TreeExpr → (n : Count) × Row_of-Expr n
  row_of (e.Reference' n bracket shape row how) = (_, row)
  row_of _ = (_, end_of-Expr)

  pub arguments_of : (n : Name) (b : Option ℕ) (xs : List TreeExpr) (how : Access) (args : Arguments) → AreResolved declarations targets texts windows here xs (items_of args)
      → AreArguments declarations targets texts windows here ((row_of (e.Reference n b xs how)).1) args
  arguments_of n b xs how args all =
      let row = row_of (e.Reference n b xs how) in
      are_arguments row.0 row.1 args (subst (λ (l : List TreeExpr). AreResolved declarations targets texts windows here l (items_of args)) (sym (items_hidden-the_row-Expr-0 xs)) all)

  where_of : (b : Bool) (A : Type 0) → A → Where b A
  where_of true A a = a
  where_of false A a = tt

  where_not : (b : Bool) (A : Type 0) → b ≡ false → Where b A
  where_not true A is = absurd (cc is)
  where_not false A is = tt

  -- a name that is resolved to a whole expression
  pub is-Whole : (n : Name) (b : Option ℕ) (xs : List TreeExpr) (how : Access) (r : Expr) → is_stream (target_of here.parameters targets n.text) ≡ false
      → IsReference declarations targets texts windows here (target_of here.parameters targets n.text) n how r → Is (e.Reference n b xs how) r
  is-Whole n b xs how r closed is = (is, where_not _ _ closed)

  -- a name that is resolved to an access
  pub is-Open : (n : Name) (b : Option ℕ) (xs : List TreeExpr) (how : Access) (r : Expr) (args : Arguments) → arguments_in r ≡ args
      → IsReference declarations targets texts windows here (target_of here.parameters targets n.text) n how r → AreResolved declarations targets texts windows here xs (items_of args) → Is (e.Reference n b xs how) r
  is-Open n b xs how r args same is all =
      (is, where_of _ _ (subst (λ (a : Arguments). AreArguments declarations targets texts windows here ((row_of (e.Reference n b xs how)).1) a) (sym same) (arguments_of n b xs how args all)))

-- ---- whatever is made later

-- what is resolved stays so
pub later : (scope : Scope) (old new : Made) (ws ts : List ℕ) (x : TreeExpr) (r : Expr) → Grows old new ws ts → ResolvesTo scope old x r → ResolvesTo scope new x r
later scope old new ws ts x r g f targets parameters s =
    from_then old new ws ts (λ texts windows. IsResolved scope.declarations.now targets texts windows (standing_in scope parameters) x r) g (f targets parameters s)

-- equal trees and equal expressions
pub carried : (scope : Scope) (made : Made) (x x' : TreeExpr) (r r' : Expr) → x' ≡ x → r' ≡ r → ResolvesTo scope made x' r → ResolvesTo scope made x r'
carried scope made x x' r r' same is f =
    subst (λ (y : TreeExpr). ResolvesTo scope made y r') same (subst (λ (q : Expr). ResolvesTo scope made x' q) (sym is) f)

pub resolves-Prefix : (scope : Scope) (made : Made) (operator : Prefix) (at : ℕ) (x : TreeExpr) (place : Place) (op : ModelPrefix) (u : _) (s : Expr) → place ≡ place_at at → op ≡ prefix_of operator
    → ResolvesTo scope made x s → ResolvesTo scope made (e.Prefix operator at x) (Unary' place op u s)
resolves-Prefix scope made operator at x place op u s p q r targets parameters sc texts windows b =
    is-Prefix scope.declarations.now targets texts windows (standing_in scope parameters) operator at x place op u s p q (r targets parameters sc texts windows b)

pub resolves-Defaults : (scope : Scope) (made : Made) (at : ℕ) (x y : TreeExpr) (place : Place) (u : _) (s : Expr) (v : _) (t : Expr) → place ≡ place_at at
    → ResolvesTo scope made x s → ResolvesTo scope made y t → ResolvesTo scope made (e.Defaults at x y) (Defaults' place u s v t)
resolves-Defaults scope made at x y place u s v t p r k targets parameters sc texts windows b =
    is-Defaults scope.declarations.now targets texts windows (standing_in scope parameters) at x y place u s v t p (r targets parameters sc texts windows b) (k targets parameters sc texts windows b)

pub resolves-Binary : (scope : Scope) (made : Made) (operator : Binary) (at : ℕ) (x y : TreeExpr) (place : Place) (op : ModelBinary) (u : _) (s : Expr) (v : _) (t : Expr) → place ≡ place_at at → op ≡ binary_of operator
    → ResolvesTo scope made x s → ResolvesTo scope made y t → ResolvesTo scope made (e.Binary operator at x y) (Both' place op u s v t)
resolves-Binary scope made operator at x y place op u s v t p q r k targets parameters sc texts windows b =
    is-Binary scope.declarations.now targets texts windows (standing_in scope parameters) operator at x y place op u s v t p q (r targets parameters sc texts windows b) (k targets parameters sc texts windows b)

pub resolves-If : (scope : Scope) (made : Made) (at : ℕ) (x y z : TreeExpr) (place : Place) (u : _) (s : Expr) (v : _) (t : Expr) (w : _) (q : Expr) → place ≡ place_at at
    → ResolvesTo scope made x s → ResolvesTo scope made y t → ResolvesTo scope made z q → ResolvesTo scope made (e.If at x y z) (Choice' place u s v t w q)
resolves-If scope made at x y z place u s v t w q p r k l targets parameters sc texts windows b =
    is-If scope.declarations.now targets texts windows (standing_in scope parameters) at x y z place u s v t w q p (r targets parameters sc texts windows b)
    (k targets parameters sc texts windows b) (l targets parameters sc texts windows b)

-- ---- names

-- what a name stands for, by the tables and by the lists
pub same_target : (scope : Scope) (targets parameters : Targets) → IsScope scope targets parameters → (text : List ℕ) → target_of scope.parameters.now scope.targets.now text ≡ target_of parameters targets text
same_target scope targets parameters s text = ap₂ hides (s.own text) (s.all text)

constant_in : (declarations : List Declaration) (o : Option Target) → ((c : ℕ) → o ≡ Some (target.Constant c) → IsConstantIn declarations (Some (target.Constant c))) → IsConstantIn declarations o
constant_in declarations None all = tt
constant_in declarations (Some (target.Input s i)) all = tt
constant_in declarations (Some (target.Output s)) all = tt
constant_in declarations (Some (target.Parameter i)) all = tt
constant_in declarations (Some (target.Constant c)) all = all c refl

abbrev pub named_target : Scope → Name → Option Target
named_target scope n = target_of scope.parameters.now scope.targets.now n.text

pub resolves-Whole : (scope : Scope) (made : Made) (n : Name) (b : Option ℕ) (xs : List TreeExpr) (how : Access) (r : Expr) → IsNamedTo scope (named_target scope n) made n how (named.Whole r)
    → ResolvesTo scope made (e.Reference n b xs how) r
resolves-Whole scope made n b xs how r is targets parameters s texts windows begin =
    let same = same_target scope targets parameters s n.text in
    let there = constant_in scope.declarations.now (named_target scope n) (λ c e. s.constants n.text c (sym same ∙ e)) in
    is-Whole scope.declarations.now targets texts windows (standing_in scope parameters) n b xs how r (ap is_stream (sym same) ∙ is.0)
    (subst (λ (o : Option Target). IsReference scope.declarations.now targets texts windows (standing_in scope parameters) o n how r) same (is.1 End targets parameters there texts windows begin))

pub resolves-Open : (scope : Scope) (mid made : Made) (ws ts : List ℕ) (n : Name) (b : Option ℕ) (xs : List TreeExpr) (how : Access) (o : Named) (r : Expr) (args : Arguments) → Grows mid made ws ts → r ≡ whole_of n.at o args → arguments_in r ≡ args
    → IsNamedTo scope (named_target scope n) mid n how o → AreResolvedTo scope made xs (items_of args) → ResolvesTo scope made (e.Reference n b xs how) r
resolves-Open scope mid made ws ts n b xs how o r args g whole same is all targets parameters s texts windows begin =
    let known = same_target scope targets parameters s n.text in
    let there = constant_in scope.declarations.now (named_target scope n) (λ c e. s.constants n.text c (sym known ∙ e)) in
    let P : Expr → Option Target → List (List ℕ) → List WindowSpec → Type 0 =
    λ q t ts ws. IsReference scope.declarations.now targets ts ws (standing_in scope parameters) t n how q in
    let reference : P r (target_of parameters targets n.text) texts windows =
    subst (λ (q : Expr). P q (target_of parameters targets n.text) texts windows) (sym whole)
    (subst (λ (t : Option Target). P (whole_of n.at o args) t texts windows) known
    (from_then mid made ws ts (P (whole_of n.at o args) (named_target scope n)) g (is.1 args targets parameters there) texts windows begin)) in
    is-Open scope.declarations.now targets texts windows (standing_in scope parameters) n b xs how r args same reference (all targets parameters s texts windows begin)

-- ---- lists

pub listed-items : (f : Expr → List ℕ) (args : Arguments) → listed_with f (items_of args) ≡ listed_all f args
listed-items f End = refl
listed-items f (More' u a v rest) = ap (λ l. listed f a ++ l) (listed-items f rest)

pub listed-pushed : (f : Expr → List ℕ) (rs : List Expr) (r : Expr) → listed_with f (rs ++ r ∷ []) ≡ listed_with f rs ++ listed f r
listed-pushed f [] r = append-nil (listed f r)
listed-pushed f (q ∷ rs) r = ap (λ l. listed f q ++ l) (listed-pushed f rs r) ∙ sym (append_assoc (listed f q) (listed_with f rs) (listed f r))

-- one more expression
pub grows_pushed : (old mid new : Made) (rs : List Expr) (r : Expr) → GrowsByAll old mid rs → GrowsBy mid new r → GrowsByAll old new (rs ++ r ∷ [])
grows_pushed old mid new rs r g h =
    subst (λ (l : List ℕ). Grows old new l (listed_with literal_text (rs ++ r ∷ []))) (sym (listed-pushed window_number rs r))
    (subst (λ (l : List ℕ). Grows old new (listed_with window_number rs ++ listed window_number r) l) (sym (listed-pushed literal_text rs r))
    (grows_then old mid new (listed_with window_number rs) (listed_with literal_text rs) (listed window_number r) (listed literal_text r) g h))

-- arguments behind what a name is resolved to
pub grows_arguments : (old mid new : Made) (ws ts : List ℕ) (args : Arguments) → Grows old mid ws ts → GrowsByAll mid new (items_of args) → Grows old new (ws ++ listed_all window_number args) (ts ++ listed_all literal_text args)
grows_arguments old mid new ws ts args g h =
    grows_then old mid new ws ts (listed_all window_number args) (listed_all literal_text args) g
    (subst (λ (l : List ℕ). Grows mid new l (listed_all literal_text args)) (listed-items window_number args)
    (subst (λ (l : List ℕ). Grows mid new (listed_with window_number (items_of args)) l) (listed-items literal_text args) h))

pub dropped : {A : Type 0} (xs : List A) (i : ℕ) (x : A) → i < length xs → x ≡ get_or xs i x → drop i xs ≡ x ∷ drop (i + 1) xs
dropped xs i x within is = at_drop_more (λ l. l) xs i x within ∙ ap (λ y. y ∷ drop (i + 1) xs) (sym is)

-- what is so far: with the rest, all
abbrev pub SoFar : Scope → Made → List TreeExpr → List TreeExpr → List Expr → Type 0
SoFar scope made xs others rs =
    (targets parameters : Targets) → IsScope scope targets parameters
    → FromNowOn made (λ texts windows. (rest : List Expr) → AreResolved scope.declarations.now targets texts windows (standing_in scope parameters) others rest
    → AreResolved scope.declarations.now targets texts windows (standing_in scope parameters) xs (rs ++ rest))

pub so_far_turn : (scope : Scope) (old new : Made) (xs : List TreeExpr) (i : ℕ) (x : TreeExpr) (rs : List Expr) (r : Expr) → i < length xs → x ≡ get_or xs i x → GrowsBy old new r → ResolvesTo scope new x r
    → SoFar scope old xs (drop i xs) rs → SoFar scope new xs (drop (i + 1) xs) (rs ++ r ∷ [])
so_far_turn scope old new xs i x rs r within is g now before targets parameters s texts windows begin rest all =
    let All : List TreeExpr → List Expr → List (List ℕ) → List WindowSpec → Type 0 =
    λ ys qs ts ws. AreResolved scope.declarations.now targets ts ws (standing_in scope parameters) ys qs in
    let carry = from_then old new (listed window_number r) (listed literal_text r) (λ ts ws. (q : List Expr) → All (drop i xs) q ts ws → All xs (rs ++ q) ts ws) g (before targets parameters s) texts windows begin in
    let here = subst (λ (l : List TreeExpr). All l (r ∷ rest) texts windows) (sym (dropped xs i x within is)) (now targets parameters s texts windows begin, all) in
    subst (λ (l : List Expr). All xs l texts windows) (sym (append_assoc rs (r ∷ []) rest)) (carry (r ∷ rest) here)

pub so_far_end : (scope : Scope) (made : Made) (xs : List TreeExpr) (i : ℕ) (rs qs : List Expr) → length xs ≤ i → qs ≡ rs → SoFar scope made xs (drop i xs) rs → AreResolvedTo scope made xs qs
so_far_end scope made xs i rs qs all same before targets parameters s texts windows begin =
    let All : List TreeExpr → List Expr → Type 0 = λ ys l. AreResolved scope.declarations.now targets texts windows (standing_in scope parameters) ys l in
    let none = subst (λ (l : List TreeExpr). All l []) (sym (at_drop_all (λ l. l) xs i all)) tt in
    subst (λ (l : List Expr). All xs l) (append-nil rs ∙ sym same) (before targets parameters s texts windows begin [] none)

-- ---- formulas

module _ (targets : Targets) where
  is-Both : (at : ℕ) (x y : TreeFormula) (u : _) (s : Formula) (v : _) (t : Formula) → IsFormula targets x s → IsFormula targets y t → IsFormula targets (f.Both at x y) (And' u s v t)
  unfolding F.shape-the_row-Formula-0 F.hidden-the_row-Formula-0 denote.Hole.Carrier.hidden denote.Hole.Carrier.shown denote.Hole.Carrier.roll denote.Hole.Carrier.out
  is-Both at x y u s v t p q = (p, q)

  is-Either : (at : ℕ) (x y : TreeFormula) (u : _) (s : Formula) (v : _) (t : Formula) → IsFormula targets x s → IsFormula targets y t → IsFormula targets (f.Either at x y) (Or' u s v t)
  unfolding F.shape-the_row-Formula-0 F.hidden-the_row-Formula-0 denote.Hole.Carrier.hidden denote.Hole.Carrier.shown denote.Hole.Carrier.roll denote.Hole.Carrier.out
  is-Either at x y u s v t p q = (p, q)

pub formula_carried : (table : Targets) (x x' : TreeFormula) (r r' : Formula) → x' ≡ x → r' ≡ r → IsFormulaBy table x' r → IsFormulaBy table x r'
formula_carried table x x' r r' same is f = subst (λ (y : TreeFormula). IsFormulaBy table y r') same (subst (λ (q : Formula). IsFormulaBy table x' q) (sym is) f)

pub formula-Both : (table : Targets) (at : ℕ) (x y : TreeFormula) (u : _) (s : Formula) (v : _) (t : Formula) → IsFormulaBy table x s → IsFormulaBy table y t → IsFormulaBy table (f.Both at x y) (And' u s v t)
formula-Both table at x y u s v t p q targets means = is-Both targets at x y u s v t (p targets means) (q targets means)

pub formula-Either : (table : Targets) (at : ℕ) (x y : TreeFormula) (u : _) (s : Formula) (v : _) (t : Formula) → IsFormulaBy table x s → IsFormulaBy table y t → IsFormulaBy table (f.Either at x y) (Or' u s v t)
formula-Either table at x y u s v t p q targets means = is-Either targets at x y u s v t (p targets means) (q targets means)
