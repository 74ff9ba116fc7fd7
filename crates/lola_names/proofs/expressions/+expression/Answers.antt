use Rattle.std.proofs.Common.{◌≡◌, ◌++◌, ◌∷◌, [], List, Option, Result, Ok, Err, IfOk, refl, sym, ap, subst, ◌+◌, drop}
use Rattle.lola_parser_grammar.specs.declared.expressions.Expr.{Expr as TreeExpr}
use Rattle.lola_model.specs.Parts.{listed, listed_with}
use Rattle.lola_model.specs.Named.{window_number, literal_text}
use Rattle.lola_model.specs.declared.expr.Place.{Place}
use Rattle.lola_model.specs.declared.expr.Expr.{Expr}
use Rattle.lola_model.specs.declared.expr.Expr.TheVariants as m
use Rattle.lola_model.specs.declared.expr.Arguments.{Arguments}
use Rattle.lola_names.specs.Resolved.{IsLiteral, prefix_of, binary_of}
use Rattle.lola_names.specs.Operators.{IsDefaults, IsUnary, IsBoth, IsChoice}
use Rattle.lola_names.specs.Made.{GrowsBy, ResolvesTo}
use Rattle.lola_names.specs.Parted.{AreResolvedTo, GrowsByAll, IsNamedTo, GrowsByNamed, items_of}
use Rattle.lola_names.specs.declared.expressions.Named.{Named}
use Rattle.lola_names.specs.declared.expressions.Named.TheVariants as named
use Rattle.lola_names.specs.declared.made.Made.{Made}
use Rattle.lola_names.specs.declared.scope.Scope.{Scope}
use Rattle.lola_names.specs.declared.targets.Target.{Target}
use Rattle.lola_names.proofs.Growth.{grows_none}
use Rattle.lola_names.proofs.TreeLemmas.{SoFar, so_far_turn, so_far_end, later, carried, grows_pushed, grows_arguments, named_target, resolves-Whole, resolves-Open}
use Rattle.lola_names.proofs.Operands.{unary_resolves, defaults_resolve, both_resolve, choice_resolves, unary_grows, defaults_grow, both_grow_by, choice_grows}
use Rattle.lola_names.proofs.expressions.+expression.Goals as goal

-- arguments

pub arguments-loop-x-init : goal.arguments-loop-x-init
arguments-loop-x-init t c =
    let scope = c.args.scope.now in
    let made = c.args.made.now in
    let none : c.new-items.result.items ≡ [] = c.new-items.ensures.items in
    record {
      resolved = subst (λ (l : List Expr). SoFar scope made c.args.xs.now c.args.xs.now l) (sym none) (λ targets parameters s texts windows b rest all. all);
      grown = subst (λ (l : List Expr). GrowsByAll made made l) (sym none) (grows_none made);
    }

pub arguments-loop-x-preserved : goal.arguments-loop-x-preserved
arguments-loop-x-preserved t c =
    let scope = c.args.scope.now in
    let l = c.loop-x in
    let x = c.in_ok-item in
    let more : c.push.new.self.items ≡ l.items.items ++ x.item ∷ [] = c.in_ok-push.ensures.items in
    record {
      resolved =
          subst (λ (rs : List Expr). SoFar scope c.expression.new.made c.args.xs.now (drop (l.x-index + 1) c.args.xs.now) rs) (sym more)
          (so_far_turn scope l.made c.expression.new.made c.args.xs.now l.x-index c.x-item.result l.items.items x.item c.loop-x-test.true c.x-item.is x.ensures.grown x.ensures.resolved l.invariant.resolved);
      grown =
          subst (λ (rs : List Expr). GrowsByAll c.args.made.now c.expression.new.made rs) (sym more)
          (grows_pushed c.args.made.now l.made c.expression.new.made l.items.items x.item l.invariant.grown x.ensures.grown);
    }

if_ok : {A B : Type 0} (r : Result A B) (P Q : A → Type 0) → ((x : A) → P x → Q x) → IfOk r P → IfOk r Q
if_ok (Ok x) P Q f p = f x p
if_ok (Err y) P Q f p = tt

pub arguments-returns-clause-resolved : goal.arguments-returns-clause-resolved
arguments-returns-clause-resolved t c =
    let l = c.loop-x in
    if_ok c.chained.result (λ (args : Arguments). items_of args ≡ l.items.items) (λ (args : Arguments). AreResolvedTo c.args.scope.now l.made c.args.xs.now (items_of args))
    (λ args same. so_far_end c.args.scope.now l.made c.args.xs.now l.x-index l.items.items (items_of args) c.loop-x-test.false same l.invariant.resolved) c.chained.ensures

pub arguments-returns-clause-grown : goal.arguments-returns-clause-grown
arguments-returns-clause-grown t c =
    let l = c.loop-x in
    if_ok c.chained.result (λ (args : Arguments). items_of args ≡ l.items.items) (λ (args : Arguments). GrowsByAll c.args.made.now l.made (items_of args))
    (λ args same. subst (λ (rs : List Expr). GrowsByAll c.args.made.now l.made rs) (sym same) l.invariant.grown) c.chained.ensures

-- literals and names

pub expression-returns-in_ok-expr-in-Literal-clause-resolved : goal.expression-returns-in_ok-expr-in-Literal-clause-resolved
expression-returns-in_ok-expr-in-Literal-clause-resolved t c =
    let b = c.in-Literal in
    let r = c.in_ok-expr-in-Literal in
    subst (λ (x : TreeExpr). ResolvesTo c.args.scope.now c.literal.new.made x r.expr) (sym b.is)
    (λ targets parameters s texts windows begin. subst (λ (p : Place). IsLiteral texts p b.l.value r.expr) c.bare.ensures (r.ensures.literal texts windows begin))

named_so : (scope : Scope) (made : Made) (n : _) (how : _) (target : Option Target) (o o' : Named) → target ≡ named_target scope n → o ≡ o' → IsNamedTo scope target made n how o
    → IsNamedTo scope (named_target scope n) made n how o'
named_so scope made n how target o o' same is f =
    subst (λ (q : Named). IsNamedTo scope (named_target scope n) made n how q) is (subst (λ (q : Option Target). IsNamedTo scope q made n how o) same f)

pub expression-returns-in-Whole-clause-resolved : goal.expression-returns-in-Whole-clause-resolved
expression-returns-in-Whole-clause-resolved t c =
    let b = c.in-Reference in
    let scope = c.args.scope.now in
    let made = c.meant.new.made in
    let is = named_so scope made b.name b.how c.target-target.result c.in_ok-expr-in-Reference.field-0 (named.Whole c.in-Whole.expr) c.target-target.ensures c.in-Whole.is c.in_ok-expr-in-Reference.ensures.named in
    subst (λ (x : TreeExpr). ResolvesTo scope made x c.in-Whole.expr) (sym b.is) (resolves-Whole scope made b.name b.field-1 b.xs b.how c.in-Whole.expr is)

pub expression-returns-in_ok-arguments-in-Read-clause-resolved : goal.expression-returns-in_ok-arguments-in-Read-clause-resolved
expression-returns-in_ok-arguments-in-Read-clause-resolved t c =
    let b = c.in-Reference in
    let scope = c.args.scope.now in
    let mid = c.meant.new.made in
    let new = c.arguments.new.made in
    let read = c.in-Read in
    let a = c.in_ok-arguments-in-Read in
    let o : Named = named.Read read.stream read.how in
    let r : Expr = m.Read c.bare-in-Read.result read.stream read.how a.arguments in
    let is = named_so scope mid b.name b.how c.target-target.result c.in_ok-expr-in-Reference.field-0 o c.target-target.ensures read.is c.in_ok-expr-in-Reference.ensures.named in
    let all = subst (λ (xs : List TreeExpr). AreResolvedTo scope new xs (items_of a.arguments)) c.as_slice.ensures a.ensures.resolved in
    subst (λ (x : TreeExpr). ResolvesTo scope new x r) (sym b.is)
    (resolves-Open scope mid new (listed_with window_number (items_of a.arguments)) (listed_with literal_text (items_of a.arguments)) b.name b.field-1 b.xs b.how o r a.arguments a.ensures.grown
    (ap (λ (p : Place). m.Read p read.stream read.how a.arguments) c.bare-in-Read.ensures) refl is all)

pub expression-returns-in_ok-arguments-in-Read-clause-grown : goal.expression-returns-in_ok-arguments-in-Read-clause-grown
expression-returns-in_ok-arguments-in-Read-clause-grown t c =
    let a = c.in_ok-arguments-in-Read in
    let g = subst (λ (o : Named). GrowsByNamed c.args.made.now c.meant.new.made o) c.in-Read.is c.in_ok-expr-in-Reference.ensures.grown in
    grows_arguments c.args.made.now c.meant.new.made c.arguments.new.made [] [] a.arguments g a.ensures.grown

pub expression-returns-in_ok-arguments-in-Window-clause-resolved : goal.expression-returns-in_ok-arguments-in-Window-clause-resolved
expression-returns-in_ok-arguments-in-Window-clause-resolved t c =
    let b = c.in-Reference in
    let scope = c.args.scope.now in
    let mid = c.meant.new.made in
    let new = c.arguments-in-Window.new.made in
    let window = c.in-Window in
    let a = c.in_ok-arguments-in-Window in
    let o : Named = named.Window window.number in
    let r : Expr = m.Window c.bare-in-Window.result window.number a.arguments in
    let is = named_so scope mid b.name b.how c.target-target.result c.in_ok-expr-in-Reference.field-0 o c.target-target.ensures window.is c.in_ok-expr-in-Reference.ensures.named in
    let all = subst (λ (xs : List TreeExpr). AreResolvedTo scope new xs (items_of a.arguments)) c.as_slice-in-Window.ensures a.ensures.resolved in
    subst (λ (x : TreeExpr). ResolvesTo scope new x r) (sym b.is)
    (resolves-Open scope mid new (listed_with window_number (items_of a.arguments)) (listed_with literal_text (items_of a.arguments)) b.name b.field-1 b.xs b.how o r a.arguments a.ensures.grown
    (ap (λ (p : Place). m.Window p window.number a.arguments) c.bare-in-Window.ensures) refl is all)

pub expression-returns-in_ok-arguments-in-Window-clause-grown : goal.expression-returns-in_ok-arguments-in-Window-clause-grown
expression-returns-in_ok-arguments-in-Window-clause-grown t c =
    let a = c.in_ok-arguments-in-Window in
    let g = subst (λ (o : Named). GrowsByNamed c.args.made.now c.meant.new.made o) c.in-Window.is c.in_ok-expr-in-Reference.ensures.grown in
    grows_arguments c.args.made.now c.meant.new.made c.arguments-in-Window.new.made (c.in-Window.number ∷ []) [] a.arguments g a.ensures.grown

-- operators

pub expression-returns-in_ok-operand-in-Prefix-clause-resolved : goal.expression-returns-in_ok-operand-in-Prefix-clause-resolved
expression-returns-in_ok-operand-in-Prefix-clause-resolved t c =
    let b = c.in-Prefix in
    let scope = c.args.scope.now in
    let new = c.expression-in-Prefix.new.made in
    let first = c.in_ok-operand-in-Prefix in
    if_ok c.unary.result (IsUnary b.at (prefix_of b.operator) first.operand) (ResolvesTo scope new c.args.x.now)
    (λ r is. subst (λ (x : TreeExpr). ResolvesTo scope new x r) (sym b.is)
    (unary_resolves scope new b.operator b.at b.x first.operand r (carried scope new b.x c.get-in-Prefix.result.now first.operand first.operand c.get-in-Prefix.ensures refl first.ensures.resolved) is))
    c.unary.ensures

pub expression-returns-in_ok-operand-in-Prefix-clause-grown : goal.expression-returns-in_ok-operand-in-Prefix-clause-grown
expression-returns-in_ok-operand-in-Prefix-clause-grown t c =
    let b = c.in-Prefix in
    let old = c.args.made.now in
    let new = c.expression-in-Prefix.new.made in
    let first = c.in_ok-operand-in-Prefix in
    if_ok c.unary.result (IsUnary b.at (prefix_of b.operator) first.operand) (GrowsBy old new) (λ r is. unary_grows old new b.at (prefix_of b.operator) first.operand r first.ensures.grown is) c.unary.ensures

pub expression-returns-in_ok-second-in-Defaults-clause-resolved : goal.expression-returns-in_ok-second-in-Defaults-clause-resolved
expression-returns-in_ok-second-in-Defaults-clause-resolved t c =
    let b = c.in-Defaults in
    let scope = c.args.scope.now in
    let mid = c.expression.new.made in
    let new = c.expression-in-Defaults.new.made in
    let first = c.in_ok-first-in-Defaults in
    let second = c.in_ok-second-in-Defaults in
    if_ok c.defaults.result (IsDefaults b.at first.first second.second) (ResolvesTo scope new c.args.x.now)
    (λ r is. subst (λ (x : TreeExpr). ResolvesTo scope new x r) (sym b.is)
    (defaults_resolve scope new b.at b.x b.y first.first second.second r
    (later scope mid new (listed window_number second.second) (listed literal_text second.second) b.x first.first second.ensures.grown
    (carried scope mid b.x c.get.result.now first.first first.first c.get.ensures refl first.ensures.resolved))
    (carried scope new b.y c.get-in-Defaults.result.now second.second second.second c.get-in-Defaults.ensures refl second.ensures.resolved) is))
    c.defaults.ensures

pub expression-returns-in_ok-second-in-Defaults-clause-grown : goal.expression-returns-in_ok-second-in-Defaults-clause-grown
expression-returns-in_ok-second-in-Defaults-clause-grown t c =
    let b = c.in-Defaults in
    let old = c.args.made.now in
    let mid = c.expression.new.made in
    let new = c.expression-in-Defaults.new.made in
    let first = c.in_ok-first-in-Defaults in
    let second = c.in_ok-second-in-Defaults in
    if_ok c.defaults.result (IsDefaults b.at first.first second.second) (GrowsBy old new)
    (λ r is. defaults_grow old mid new b.at first.first second.second r first.ensures.grown second.ensures.grown is) c.defaults.ensures

pub expression-returns-in_ok-second-in-Binary-clause-resolved : goal.expression-returns-in_ok-second-in-Binary-clause-resolved
expression-returns-in_ok-second-in-Binary-clause-resolved t c =
    let b = c.in-Binary in
    let scope = c.args.scope.now in
    let mid = c.expression-in-Binary.new.made in
    let new = c.expression-in-Binary-2.new.made in
    let first = c.in_ok-first-in-Binary in
    let second = c.in_ok-second-in-Binary in
    if_ok c.both.result (IsBoth b.at (binary_of b.operator) first.first second.second) (ResolvesTo scope new c.args.x.now)
    (λ r is. subst (λ (x : TreeExpr). ResolvesTo scope new x r) (sym b.is)
    (both_resolve scope new b.operator b.at b.x b.y first.first second.second r
    (later scope mid new (listed window_number second.second) (listed literal_text second.second) b.x first.first second.ensures.grown
    (carried scope mid b.x c.get-in-Binary.result.now first.first first.first c.get-in-Binary.ensures refl first.ensures.resolved))
    (carried scope new b.y c.get-in-Binary-2.result.now second.second second.second c.get-in-Binary-2.ensures refl second.ensures.resolved) is))
    c.both.ensures

pub expression-returns-in_ok-second-in-Binary-clause-grown : goal.expression-returns-in_ok-second-in-Binary-clause-grown
expression-returns-in_ok-second-in-Binary-clause-grown t c =
    let b = c.in-Binary in
    let old = c.args.made.now in
    let mid = c.expression-in-Binary.new.made in
    let new = c.expression-in-Binary-2.new.made in
    let first = c.in_ok-first-in-Binary in
    let second = c.in_ok-second-in-Binary in
    if_ok c.both.result (IsBoth b.at (binary_of b.operator) first.first second.second) (GrowsBy old new)
    (λ r is. both_grow_by old mid new b.at (binary_of b.operator) first.first second.second r first.ensures.grown second.ensures.grown is) c.both.ensures

pub expression-returns-in_ok-second-in-If-clause-resolved : goal.expression-returns-in_ok-second-in-If-clause-resolved
expression-returns-in_ok-second-in-If-clause-resolved t c =
    let b = c.in-If in
    let scope = c.args.scope.now in
    let one = c.expression-in-If.new.made in
    let two = c.expression-in-If-2.new.made in
    let new = c.expression-in-If-3.new.made in
    let test = c.in_ok-test-in-If in
    let first = c.in_ok-first-in-If in
    let second = c.in_ok-second-in-If in
    let last = second.ensures.grown in
    if_ok c.choice.result (IsChoice b.at test.test first.first second.second) (ResolvesTo scope new c.args.x.now)
    (λ r is. subst (λ (x : TreeExpr). ResolvesTo scope new x r) (sym b.is)
    (choice_resolves scope new b.at b.x b.y b.z test.test first.first second.second r
    (later scope two new (listed window_number second.second) (listed literal_text second.second) b.x test.test last
    (later scope one two (listed window_number first.first) (listed literal_text first.first) b.x test.test first.ensures.grown
    (carried scope one b.x c.get-in-If.result.now test.test test.test c.get-in-If.ensures refl test.ensures.resolved)))
    (later scope two new (listed window_number second.second) (listed literal_text second.second) b.y first.first last
    (carried scope two b.y c.get-in-If-2.result.now first.first first.first c.get-in-If-2.ensures refl first.ensures.resolved))
    (carried scope new b.z c.get-in-If-3.result.now second.second second.second c.get-in-If-3.ensures refl second.ensures.resolved) is))
    c.choice.ensures

pub expression-returns-in_ok-second-in-If-clause-grown : goal.expression-returns-in_ok-second-in-If-clause-grown
expression-returns-in_ok-second-in-If-clause-grown t c =
    let b = c.in-If in
    let test = c.in_ok-test-in-If in
    let first = c.in_ok-first-in-If in
    let second = c.in_ok-second-in-If in
    let old = c.args.made.now in
    let one = c.expression-in-If.new.made in
    let two = c.expression-in-If-2.new.made in
    let new = c.expression-in-If-3.new.made in
    if_ok c.choice.result (IsChoice b.at test.test first.first second.second) (GrowsBy old new)
    (λ r is. choice_grows old one two new b.at test.test first.first second.second r test.ensures.grown first.ensures.grown second.ensures.grown is) c.choice.ensures
