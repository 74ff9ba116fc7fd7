-- Clauses from their parts.
use Rattle.std.proofs.Common.{◌≡◌, ℕ, ◌+◌, ◌<◌, ◌≤◌, List, [], ◌∷◌, ◌++◌, Option, Some, None, length, get_or, drop, map, refl, sym, subst, append_assoc, append-nil}
use Rattle.lola_parser_grammar.specs.declared.clauses.Part.{Part as TreePart}
use Rattle.lola_parser_grammar.specs.declared.clauses.Eval.{Eval}
use Rattle.lola_parser_grammar.specs.declared.clauses.Close.{Close}
use Rattle.lola_parser_grammar.specs.declared.declarations.Trigger.{Trigger}
use Rattle.lola_parser_grammar.specs.declared.pacing.Pacing.{Pacing}
use Rattle.lola_model.specs.Named.{window_number, literal_text}
use Rattle.lola_model.specs.declared.expr.Expr.{Expr}
use Rattle.lola_model.specs.declared.spec.Clause.{Clause}
use Rattle.lola_model.specs.declared.spec.WindowSpec.{WindowSpec}
use Rattle.lola_names.specs.Clauses.{ArePartsOf, IsPart, IsOptional, place_before}
use Rattle.lola_names.specs.Made.{Grows, GrowsBy, IsPacingBy, ResolvesTo, standing_in}
use Rattle.lola_names.specs.Targets.{Targets}
use Rattle.lola_names.specs.Resolved.{Standing}
use Rattle.lola_names.specs.declared.made.Made.{Made}
use Rattle.lola_names.specs.declared.scope.Scope.{Scope}
use Rattle.lola_names.proofs.Growth.{begin_before, grows_none, grows_then}
use Rattle.lola_names.specs.Making.{CloseIn, EvalIn, GrowsByWith, OfPartsIn, PartsBegun, PartsIn, TriggerIn, WhenIn}
use Rattle.lola_names.proofs.Pieces.{grows_as, left_more, left_none, listed_with-push}

-- ---- expressions behind `with`

-- equal lists
pub begun_same : (scope : Scope) (made : Made) (all others : List TreePart) (rs ss : List Expr) → ss ≡ rs → PartsBegun scope made all others rs → PartsBegun scope made all others ss
begun_same scope made all others rs ss e begun = let P : List Expr → Type 0 = λ l. PartsBegun scope made all others l in subst P (sym e) begun

pub with_same : (a b : Made) (rs ss : List Expr) → ss ≡ rs → GrowsByWith a b rs → GrowsByWith a b ss
with_same a b rs ss e g = let P : List Expr → Type 0 = λ l. GrowsByWith a b l in subst P (sym e) g

parts_begin : (scope : Scope) (made : Made) (xs : List TreePart) → PartsBegun scope made xs xs []
parts_begin scope made xs = λ targets parameters is texts windows begins rest are. are

pub parts_none : (scope : Scope) (made : Made) (xs : List TreePart) (rs : List Expr) → rs ≡ [] → PartsBegun scope made xs xs rs
parts_none scope made xs rs e = begun_same scope made xs xs [] rs e (parts_begin scope made xs)

pub with_none : (made : Made) (rs : List Expr) → rs ≡ [] → GrowsByWith made made rs
with_none made rs e = with_same made made [] rs e (grows_none made)

pub parts_more : (scope : Scope) (a b : Made) (ws ts : List ℕ) (xs : List TreePart) (i : ℕ) (x : TreePart) (rs : List Expr) (r : Expr)
    → i < length xs → x ≡ get_or xs i x → Grows a b ws ts → ResolvesTo scope b x.expr r
    → PartsBegun scope a xs (drop i xs) rs → PartsBegun scope b xs (drop (i + 1) xs) (rs ++ r ∷ [])
parts_more scope a b ws ts xs i x rs r within is g resolved begun = λ targets parameters scoped texts windows begins rest are.
    let here : Standing = standing_in scope parameters in
    let P : List TreePart → Type 0 = λ l. ArePartsOf scope.declarations.now targets texts windows here l (r ∷ rest) in
    let Q : List Expr → Type 0 = λ l. ArePartsOf scope.declarations.now targets texts windows here xs l in
    let step : P (x ∷ drop (i + 1) xs) = (resolved targets parameters scoped texts windows begins, are) in
    subst Q (sym (append_assoc rs (r ∷ []) rest))
    (begun targets parameters scoped texts windows (begin_before a b ws ts texts windows g begins) (r ∷ rest) (subst P (sym (left_more xs i x within is)) step))

pub parts_end : (scope : Scope) (made : Made) (xs : List TreePart) (i : ℕ) (rs : List Expr) → length xs ≤ i
    → PartsBegun scope made xs (drop i xs) rs → PartsIn scope made xs rs
parts_end scope made xs i rs all begun = λ targets parameters scoped texts windows begins.
    let here : Standing = standing_in scope parameters in
    let P : List TreePart → Type 0 = λ l. ArePartsOf scope.declarations.now targets texts windows here l [] in
    let Q : List Expr → Type 0 = λ l. ArePartsOf scope.declarations.now targets texts windows here xs l in
    let none : P [] = tt in
    subst Q (append-nil rs) (begun targets parameters scoped texts windows begins [] (subst P (sym (left_none xs i all)) none))

pub parts_grow : (a b c : Made) (rs : List Expr) (r : Expr) → GrowsByWith a b rs → GrowsBy b c r → GrowsByWith a c (rs ++ r ∷ [])
parts_grow a b c rs r g h = grows_as a c _ _ _ _ (listed_with-push window_number rs r) (listed_with-push literal_text rs r) (grows_then a b c _ _ _ _ g h)

-- ---- clauses

pub of_parts : (scope : Scope) (made : Made) (at : ℕ) (x : Option Pacing) (w : Option TreePart) (xs : List TreePart) (c : Clause)
    → c.place ≡ at → IsPacingBy scope.targets.now x c.pace → WhenIn scope made w c.when → c.when_at ≡ place_before w
    → PartsIn scope made xs c.with → c.with_at ≡ map (λ (q : TreePart). q.at) xs → OfPartsIn scope made at x w xs c
of_parts scope made at x w xs c place pacing condition before parts places = λ targets parameters scoped texts windows begins. record {
  place = place;
  pacing = pacing targets scoped.all;
  condition = condition targets parameters scoped texts windows begins;
  before = before;
  parts = parts targets parameters scoped texts windows begins;
  places = places;
}

no_condition : (R : TreePart → Expr → Type 0) (r : Option Expr) → IsOptional R None r → r ≡ None
no_condition R None is = refl
no_condition R (Some r) is = absurd is

-- the same parts
pub of_same : (scope : Scope) (made : Made) (at : ℕ) (x : Option Pacing) (v w : Option TreePart) (xs ys : List TreePart) (c : Clause) → v ≡ w → xs ≡ ys
    → OfPartsIn scope made at x v xs c → OfPartsIn scope made at x w ys c
of_same scope made at x v w xs ys c e f of =
    let P : Option TreePart → Type 0 = λ o. OfPartsIn scope made at x o ys c in
    let Q : List TreePart → Type 0 = λ l. OfPartsIn scope made at x v l c in
    subst P e (subst Q f of)

pub eval_of : (scope : Scope) (made : Made) (x : Eval) (c : Clause) → OfPartsIn scope made x.at x.pacing x.when (x.with ∷ []) c → EvalIn scope made x c
eval_of scope made x c of = λ targets parameters scoped texts windows begins.
    let parts = of targets parameters scoped texts windows begins in
    record { place = parts.place; pacing = parts.pacing; condition = parts.condition; before = parts.before; result = parts.parts; places = parts.places }

module _ (scope : Scope) (targets : Targets) (texts : List (List ℕ)) (windows : List WindowSpec) (here : Standing) where
  no_parts : (rs : List Expr) → ArePartsOf scope.declarations.now targets texts windows here [] rs → rs ≡ []
  no_parts [] are = refl
  no_parts (r ∷ rs) are = absurd are

close_some : (scope : Scope) (made : Made) (x : Close) (c : Clause) → OfPartsIn scope made x.at x.pacing (Some x.when) [] c → CloseIn scope made (Some x) (Some c)
close_some scope made x c of = λ targets parameters scoped texts windows begins.
    let parts = of targets parameters scoped texts windows begins in
    record {
      place = parts.place;
      pacing = parts.pacing;
      condition = parts.condition;
      before = parts.before;
      parameters = no_parts scope targets texts windows (standing_in scope parameters) c.with parts.parts;
      places = parts.places;
    }

pub close_of : (scope : Scope) (made : Made) (o : Option Close) (x : Close) (c : Clause) → o ≡ Some x → OfPartsIn scope made x.at x.pacing (Some x.when) [] c → CloseIn scope made o (Some c)
close_of scope made o x c e of = let P : Option Close → Type 0 = λ y. CloseIn scope made y (Some c) in subst P (sym e) (close_some scope made x c of)

pub trigger_of : (scope : Scope) (made : Made) (x : Trigger) (c : Clause) → OfPartsIn scope made x.when.at x.pacing None (x.when ∷ []) c → TriggerIn scope made x c
trigger_of scope made x c of = λ targets parameters scoped texts windows begins.
    let parts = of targets parameters scoped texts windows begins in
    record {
      place = parts.place;
      pacing = parts.pacing;
      condition = no_condition (IsPart scope.declarations.now targets texts windows (standing_in scope parameters)) c.when parts.condition;
      before = parts.before;
      result = parts.parts;
      places = parts.places;
    }
