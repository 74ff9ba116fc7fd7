-- Which trees can be spelled: those of the grammar's shape, whose literals are read back, in which so many levels are nested.
use Rattle.std.specs.Prelude.{◌≡◌, ℕ, suc, ◌+◌, ◌<◌, ◌≤◌, List, [], ◌∷◌, length, map, Option, Some, None}
use Rattle.lola_parser_grammar.specs.declared.expressions.Expr.{Expr, Row_of-Expr, more_of-Expr, end_of-Expr}
use Rattle.lola_parser_grammar.specs.declared.expressions.Expr.TheVariants as e
use Rattle.lola_parser_grammar.specs.declared.pacing.Rhythm.{Rhythm}
use Rattle.lola_parser_grammar.specs.declared.pacing.Rhythm.TheVariants as r
use Rattle.lola_parser_grammar.specs.declared.pacing.Pacing.{Pacing}
use Rattle.lola_parser_grammar.specs.declared.clauses.Part.{Part}
use Rattle.lola_parser_grammar.specs.declared.clauses.Spawn.{Spawn}
use Rattle.lola_parser_grammar.specs.declared.clauses.Eval.{Eval}
use Rattle.lola_parser_grammar.specs.declared.clauses.Close.{Close}
use Rattle.lola_parser_grammar.specs.declared.declarations.Declaration.{Declaration}
use Rattle.lola_parser_grammar.specs.declared.declarations.Declaration.TheVariants as d
use Rattle.lola_parser_grammar.specs.Syntax.{Spells}
use Rattle.lola_parser_grammar.specs.Grammar as g
use Rattle.lola_parser_print.specs.Print as out
use Rattle.lola_parser_law.specs.Erased as erased
use Rattle.lola_parser_law.specs.Erased.{ExprReads, QuantityReads, TextReads, ValueReads, formula_need}

-- enough levels for it
abbrev mutual
  pub need : Expr → ℕ
  need (e.Literal l) = 0
  need (e.Reference' n b shape row how) = suc (need_row row)
  need (e.Defaults' at p (more_of-Expr x end_of-Expr) q (more_of-Expr y end_of-Expr)) = suc (need x + need y)
  need (e.Prefix' op at p (more_of-Expr x end_of-Expr)) = suc (suc (suc (need x)))
  need (e.Binary' op at p (more_of-Expr x end_of-Expr) q (more_of-Expr y end_of-Expr)) = suc (need x + need y)
  need (e.If' at p (more_of-Expr x end_of-Expr) q (more_of-Expr y end_of-Expr) r (more_of-Expr z end_of-Expr)) = suc (suc (need x + need y + need z))

  pub need_row : {n : _} → Row_of-Expr n → ℕ
  need_row end_of-Expr = 0
  need_row (more_of-Expr x rest) = need x + need_row rest

abbrev pub RhythmFits : ℕ → Rhythm → Type 0
RhythmFits n (r.Rate q) = QuantityReads q
RhythmFits n (r.Formula x) = formula_need x ≤ n
RhythmFits n (r.Global q) = QuantityReads q
RhythmFits n (r.Local q) = QuantityReads q

-- what may be left out
abbrev pub Perhaps : {A : Type 0} → (A → Type 0) → Option A → Type 0
Perhaps P None = Unit {0}
Perhaps P (Some x) = P x

pub record Fits (n : ℕ) (x : Expr) : Type 0 where
  pub need : need x ≤ n
  pub reads : ExprReads x

abbrev pub AllFit : ℕ → List Part → Type 0
AllFit n [] = Unit {0}
AllFit n (p ∷ ps) = Fits n p.expr × AllFit n ps

abbrev pub PacingFits : ℕ → Pacing → Type 0
PacingFits n p = RhythmFits n p.rhythm

abbrev pub PartFits : ℕ → Part → Type 0
PartFits n p = Fits n p.expr

pub record SpawnFits (n : ℕ) (s : Spawn) : Type 0 where
  pub pacing : Perhaps (PacingFits n) s.pacing
  pub when : Perhaps (PartFits n) s.when
  pub with : AllFit n s.with

pub record EvalFits (n : ℕ) (x : Eval) : Type 0 where
  pub pacing : Perhaps (PacingFits n) x.pacing
  pub when : Perhaps (PartFits n) x.when
  pub with : PartFits n x.with

pub record CloseFits (n : ℕ) (c : Close) : Type 0 where
  pub pacing : Perhaps (PacingFits n) c.pacing
  pub when : PartFits n c.when

pub record BodyFits (n : ℕ) (s : Option Spawn) (x : Eval) (c : Option Close) : Type 0 where
  pub spawn : Perhaps (SpawnFits n) s
  pub eval : EvalFits n x
  pub close : Perhaps (CloseFits n) c
  pub alone : s ≡ None → c ≡ None

abbrev pub MessageReads : List ℕ → Type 0
MessageReads [] = Unit {0}
MessageReads (b ∷ z) = TextReads (b ∷ z)

abbrev pub DeclarationFits : ℕ → Declaration → Type 0
DeclarationFits n (d.Inputs i) = 0 < length i.inputs
DeclarationFits n (d.Constant c) = ValueReads c.literal.value
DeclarationFits n (d.Output o) = BodyFits n o.spawn o.eval o.close
DeclarationFits n (d.Trigger t) = Perhaps (PacingFits n) t.pacing × PartFits n t.when × MessageReads t.message

abbrev pub AllDeclarationsFit : ℕ → List Declaration → Type 0
AllDeclarationsFit n [] = Unit {0}
AllDeclarationsFit n (x ∷ xs) = DeclarationFits n x × AllDeclarationsFit n xs

-- what is printed of a specification spells it, places left aside
abbrev pub PrintedSpells : Type 0
PrintedSpells = (n : ℕ) (xs : List Declaration) → AllDeclarationsFit n xs → Spells (g.specification (suc n)) (out.specification xs) (map erased.declaration xs)
