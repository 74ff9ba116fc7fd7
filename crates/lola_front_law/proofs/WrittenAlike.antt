-- Of all specifications that declarations are resolved to the same pacings are written, at the same places.
use Rattle.std.proofs.Common.{sym, ◌∙◌, ℕ, Option, Some, None}
use Rattle.lola_parser_grammar.specs.declared.pacing.Formula.{Formula as TreeFormula, more_of-Formula, end_of-Formula}
use Rattle.lola_parser_grammar.specs.declared.pacing.Formula.TheVariants as f
use Rattle.lola_parser_grammar.specs.declared.pacing.Rhythm.{Rhythm}
use Rattle.lola_parser_grammar.specs.declared.pacing.Rhythm.TheVariants as r
use Rattle.lola_parser_grammar.specs.declared.pacing.Pacing.{Pacing}
use Rattle.lola_model.specs.declared.spec.Formula.{Formula}
use Rattle.lola_model.specs.declared.spec.Formula.TheVariants.{Input, And', Or'}
use Rattle.lola_model.specs.declared.spec.Pace.{Pace}
use Rattle.lola_model.specs.declared.spec.Pace.TheVariants as pace
use Rattle.lola_names.specs.Targets.{Targets}
use Rattle.lola_names.specs.Clauses.{IsFormula, IsPace, IsPacing}
use Rattle.lola_types.specs.Filled.{SameFormula, SamePace}
use Rattle.lola_front_law.proofs.OneForm.{formula_back, formula_through}
use Rattle.lola_front_law.proofs.OneRate.{same_rate}

formula_alike : (targets : Targets) (t : TreeFormula) (x y : Formula) → IsFormula targets t x → IsFormula targets t y → SameFormula x y
formula_alike targets (f.Input n) (Input i) (Input j) h k = h ∙ sym k
formula_alike targets (f.Input n) (Input i) _ h k = absurd k
formula_alike targets (f.Both' at g (more_of-Formula s end_of-Formula) i (more_of-Formula t end_of-Formula)) (And' u a v b) (And' x c y e) h k =
    (formula_alike targets s a c h.0 k.0, formula_alike targets t b e h.1 k.1)
formula_alike targets (f.Both' at g (more_of-Formula s end_of-Formula) i (more_of-Formula t end_of-Formula)) (And' u a v b) _ h k = absurd k
formula_alike targets (f.Either' at g (more_of-Formula s end_of-Formula) i (more_of-Formula t end_of-Formula)) (Or' u a v b) (Or' x c y e) h k =
    (formula_alike targets s a c h.0 k.0, formula_alike targets t b e h.1 k.1)
formula_alike targets (f.Either' at g (more_of-Formula s end_of-Formula) i (more_of-Formula t end_of-Formula)) (Or' u a v b) _ h k = absurd k
formula_alike targets _ _ y h k = absurd h

rhythm_alike : (targets : Targets) (at : ℕ) (x : Rhythm) (p q : Pace) → IsPace targets at x p → IsPace targets at x q → SamePace (Some p) (Some q)
rhythm_alike targets at (r.Rate n) (pace.Rate p w) (pace.Rate q v) h k = (h.0 ∙ sym k.0, same_rate n w v h.1 k.1)
rhythm_alike targets at (r.Rate n) (pace.Rate p w) _ h k = absurd k
rhythm_alike targets at (r.Formula t) (pace.Event p x) (pace.Event q y) h k = (h.0 ∙ sym k.0, formula_alike targets t x y h.1 k.1)
rhythm_alike targets at (r.Formula t) (pace.Event p x) _ h k = absurd k
rhythm_alike targets at (r.Global n) (pace.Global p w) (pace.Global q v) h k = (h.0 ∙ sym k.0, same_rate n w v h.1 k.1)
rhythm_alike targets at (r.Global n) (pace.Global p w) _ h k = absurd k
rhythm_alike targets at (r.Local n) (pace.Local p w) (pace.Local q v) h k = (h.0 ∙ sym k.0, same_rate n w v h.1 k.1)
rhythm_alike targets at (r.Local n) (pace.Local p w) _ h k = absurd k
rhythm_alike targets at _ _ q h k = absurd h

pub pacing_alike : (targets : Targets) (o : Option Pacing) (p q : Option Pace) → IsPacing targets o p → IsPacing targets o q → SamePace p q
pacing_alike targets None None None h k = tt
pacing_alike targets None None (Some q) h k = absurd k
pacing_alike targets None (Some p) q h k = absurd h
pacing_alike targets (Some x) (Some p) (Some q) h k = rhythm_alike targets x.at x.rhythm p q h k
pacing_alike targets (Some x) (Some p) None h k = absurd k
pacing_alike targets (Some x) None q h k = absurd h

pub pace_back : (p q : Option Pace) → SamePace p q → SamePace q p
pace_back None None h = tt
pace_back (Some (pace.Event p x)) (Some (pace.Event q y)) h = (sym h.0, formula_back x y h.1)
pace_back (Some (pace.Rate p w)) (Some (pace.Rate q v)) h = (sym h.0, sym h.1)
pace_back (Some (pace.Global p w)) (Some (pace.Global q v)) h = (sym h.0, sym h.1)
pace_back (Some (pace.Local p w)) (Some (pace.Local q v)) h = (sym h.0, sym h.1)
pace_back _ _ h = absurd h

pub pace_through : (p q o : Option Pace) → SamePace p q → SamePace q o → SamePace p o
pace_through None None None h k = tt
pace_through None None (Some o) h k = absurd k
pace_through (Some (pace.Event p x)) (Some (pace.Event q y)) (Some (pace.Event o z)) h k = (h.0 ∙ k.0, formula_through x y z h.1 k.1)
pace_through (Some (pace.Event p x)) (Some (pace.Event q y)) _ h k = absurd k
pace_through (Some (pace.Rate p w)) (Some (pace.Rate q v)) (Some (pace.Rate o u)) h k = (h.0 ∙ k.0, h.1 ∙ k.1)
pace_through (Some (pace.Rate p w)) (Some (pace.Rate q v)) _ h k = absurd k
pace_through (Some (pace.Global p w)) (Some (pace.Global q v)) (Some (pace.Global o u)) h k = (h.0 ∙ k.0, h.1 ∙ k.1)
pace_through (Some (pace.Global p w)) (Some (pace.Global q v)) _ h k = absurd k
pace_through (Some (pace.Local p w)) (Some (pace.Local q v)) (Some (pace.Local o u)) h k = (h.0 ∙ k.0, h.1 ∙ k.1)
pace_through (Some (pace.Local p w)) (Some (pace.Local q v)) _ h k = absurd k
pace_through _ _ o h k = absurd h
