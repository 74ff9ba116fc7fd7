-- Pacings at other places, by the grammar.
use Rattle.std.proofs.Common.{◌≡◌, ℕ, zero, suc, List, [], ◌∷◌, refl, sym, ap, subst, ◌∙◌}
use Rattle.std.specs.Prelude.{codes}
use Rattle.lola_lexer.specs.declared.shape.TokenShape.TheVariants as is
use Rattle.lola_parser_grammar.specs.declared.literals.Name.{Name}
use Rattle.lola_parser_grammar.specs.declared.literals.Quantity.{Quantity}
use Rattle.lola_parser_grammar.specs.declared.pacing.Formula.{Formula}
use Rattle.lola_parser_grammar.specs.declared.pacing.Formula.TheVariants as f
use Rattle.lola_parser_grammar.specs.declared.pacing.Formula.TheBlock as X
use Rattle.lola_parser_grammar.specs.declared.pacing.Rhythm.{Rhythm}
use Rattle.lola_parser_grammar.specs.declared.pacing.Rhythm.TheVariants as r
use Rattle.lola_parser_grammar.specs.declared.pacing.Pacing.{Pacing}
use Rattle.lola_parser_grammar.specs.Syntax.{Syntax, Then, Map, Whole}
use Rattle.lola_parser_grammar.specs.Grammar as g
use Rattle.lola_parser_grammar.specs.Grammar.{token, nesting, word, ◌*>◌, ◌<*◌, ◌|>◌, all_nestings}
use Rattle.lola_parser_print.specs.Print as out
use Rattle.lola_parser_print.specs.Print.{lex, bare, print_formula}
use Rattle.lola_parser_print.proofs.Formulas.{bare_formula-Both, bare_formula-Either}
use Rattle.lola_parser_law.specs.Erased as erased
use Rattle.lola_parser_law.specs.Erased.{formula_need, QuantityReads, TextReads, ValueReads}
use Rattle.lola_parser_law.specs.Fitting.{RhythmFits, PacingFits}
use Rattle.lola_parser_law.specs.Places.{IsLexed, AreLexed}
use Rattle.lola_parser_law.specs.Round.{Eventually}
use Rattle.lola_parser_law.proofs.Carried.{Carries, Any, Both, Fun, then_carried, map_carried, either_carried, past_carried, known_carried, whole_carried, onto, token_any, nesting_any, behind_token, behind_nesting, behind_word, before_token, folded_carried}
use Rattle.lola_parser_law.proofs.Leaves.{lexed-append, lexed_bracketed, lexed_if, SameName, erased_name, name_carried, other_name_carried, SameQuantity, quantity_carried}
use Rattle.lola_parser_law.proofs.Forms.{global_lexed, local_lexed}
use Rattle.lola_parser_law.proofs.InStep.{always}

-- ---- formulas

pub erased-Both : (at : ℕ) (x y : Formula) → erased.formula (f.Both at x y) ≡ f.Both 0 (erased.formula x) (erased.formula y)
unfolding X.shape-the_row-Formula-0 X.hidden-the_row-Formula-0 denote.Hole.Carrier.hidden denote.Hole.Carrier.shown denote.Hole.Carrier.roll denote.Hole.Carrier.out
erased-Both at x y = refl

pub erased-Either : (at : ℕ) (x y : Formula) → erased.formula (f.Either at x y) ≡ f.Either 0 (erased.formula x) (erased.formula y)
unfolding X.shape-the_row-Formula-0 X.hidden-the_row-Formula-0 denote.Hole.Carrier.hidden denote.Hole.Carrier.shown denote.Hole.Carrier.roll denote.Hole.Carrier.out
erased-Either at x y = refl

lexed_formula : (x : Formula) (k : ℕ) → AreLexed (out.bare_formula x) → AreLexed (print_formula x k)
lexed_formula x k h = lexed_if _ (out.bare_formula x) h

both_lexed : (at : ℕ) (x y : Formula) → AreLexed (out.bare_formula x) → AreLexed (out.bare_formula y) → AreLexed (out.bare_formula (f.Both at x y))
both_lexed at x y h k =
    subst AreLexed (sym (bare_formula-Both at x y)) (lexed-append (print_formula x 1) (lex is.And ∷ print_formula y 2) (lexed_formula x 1 h) (refl, lexed_formula y 2 k))

either_lexed : (at : ℕ) (x y : Formula) → AreLexed (out.bare_formula x) → AreLexed (out.bare_formula y) → AreLexed (out.bare_formula (f.Either at x y))
either_lexed at x y h k =
    subst AreLexed (sym (bare_formula-Either at x y)) (lexed-append (print_formula x 0) (lex is.Or ∷ print_formula y 1) (lexed_formula x 0 h) (refl, lexed_formula y 1 k))

-- an event, in brackets where it needs them
event_lexed : (x : Formula) → AreLexed (out.bare_formula x) → AreLexed (out.event x)
event_lexed (f.Input n) h = lexed_if (out.is_clock n.text) (out.name n ∷ []) h
event_lexed (f.Both' p q s t u) h = lexed_bracketed (out.bare_formula (f.Both' p q s t u)) h
event_lexed (f.Either' p q s t u) h = lexed_bracketed (out.bare_formula (f.Either' p q s t u)) h

module _ (W : Type 0) where
  pub record SameFormula (x y : Formula) : Type 0 where
    pub erased : erased.formula x ≡ erased.formula y
    pub lexed : W → AreLexed (out.bare_formula x)

  same_input : (n m : Name) → SameName W n m → SameFormula (f.Input n) (f.Input m)
  same_input n m h = record { erased = ap (λ (z : Name). f.Input z) (erased_name W n m h); lexed = λ w. (h.lexed w, tt) }

  same_both : (p q : ℕ) (x x' y y' : Formula) → SameFormula x x' → SameFormula y y' → SameFormula (f.Both p x y) (f.Both q x' y')
  same_both p q x x' y y' h k =
      record {
        erased = erased-Both p x y ∙ ap (λ z. f.Both 0 z (erased.formula y)) h.erased ∙ ap (λ z. f.Both 0 (erased.formula x') z) k.erased ∙ sym (erased-Both q x' y');
        lexed = λ w. both_lexed p x y (h.lexed w) (k.lexed w);
      }

  same_either : (p q : ℕ) (x x' y y' : Formula) → SameFormula x x' → SameFormula y y' → SameFormula (f.Either p x y) (f.Either q x' y')
  same_either p q x x' y y' h k =
      record {
        erased = erased-Either p x y ∙ ap (λ z. f.Either 0 z (erased.formula y)) h.erased ∙ ap (λ z. f.Either 0 (erased.formula x') z) k.erased ∙ sym (erased-Either q x' y');
        lexed = λ w. either_lexed p x y (h.lexed w) (k.lexed w);
      }

  module _ (F : Syntax Formula) (hF : Carries W SameFormula F) where
    atom_carried : Carries W SameFormula (g.atom F)
    unfolding g.atom
    atom_carried =
        either_carried W SameFormula (Map (λ n. f.Input n) g.name) _
        (map_carried W (SameName W) SameFormula (λ n. f.Input n) g.name (λ x y r. same_input x y r) (name_carried W))
        (behind_nesting W SameFormula is.Open _ (before_token W SameFormula is.Shut F hF))

    conjunctions_carried : Carries W (Fun SameFormula SameFormula) (g.conjunctions_of F)
    unfolding g.conjunctions_of
    conjunctions_carried =
        folded_carried W SameFormula (Both Any SameFormula) g.both (Then (nesting is.And) (g.atom F)) (λ x y r b c q. same_both b.0 c.0 x y b.1 c.1 r q.1)
        (then_carried W Any SameFormula (nesting is.And) (g.atom F) (nesting_any W is.And) atom_carried)

    conjunct_carried : Carries W SameFormula (g.conjunct F)
    unfolding g.conjunct
    conjunct_carried = onto W SameFormula (g.atom F) (g.conjunctions_of F) atom_carried conjunctions_carried

    alternatives_carried : Carries W (Fun SameFormula SameFormula) (g.alternatives_of F)
    unfolding g.alternatives_of
    alternatives_carried =
        folded_carried W SameFormula (Both Any SameFormula) g.either (Then (nesting is.Or) (g.conjunct F)) (λ x y r b c q. same_either b.0 c.0 x y b.1 c.1 r q.1)
        (then_carried W Any SameFormula (nesting is.Or) (g.conjunct F) (nesting_any W is.Or) conjunct_carried)

    formula_with_carried : Carries W SameFormula (g.formula_with F)
    unfolding g.formula_with
    formula_with_carried = onto W SameFormula (g.conjunct F) (g.alternatives_of F) conjunct_carried alternatives_carried

  formula_level_carried : (n : ℕ) → Carries W SameFormula (g.formula_level n)
  unfolding g.formula_level
  formula_level_carried zero =
      past_carried W SameFormula (Map (λ n. f.Input n) g.name) (map_carried W (SameName W) SameFormula (λ n. f.Input n) g.name (λ x y r. same_input x y r) (name_carried W))
  formula_level_carried (suc n) =
      formula_with_carried (g.formula_in n) (known_carried W SameFormula g.formula_begins g.formula_goes_on (g.formula_level n) (formula_level_carried n))

  formula_in_carried : (n : ℕ) → Carries W SameFormula (g.formula_in n)
  formula_in_carried n = known_carried W SameFormula g.formula_begins g.formula_goes_on (g.formula_level n) (formula_level_carried n)

  -- ---- pacings

  pub record RhythmIs (x : Rhythm) : Type 0 where
    pub fits : Eventually (λ n. RhythmFits n x)
    pub lexed : AreLexed (out.rhythm x)

  pub record SameRhythm (x y : Rhythm) : Type 0 where
    pub erased : erased.rhythm x ≡ erased.rhythm y
    pub known : W → RhythmIs x

  same_rate : (p q : Quantity) → SameQuantity W p q → SameRhythm (r.Rate p) (r.Rate q)
  same_rate p q h =
      record {
        erased = ap (λ (z : Quantity). r.Rate z) h.erased;
        known = λ w. record { fits = always (λ n. RhythmFits n (r.Rate p)) (λ n. (h.known w).0); lexed = ((h.known w).1, tt) };
      }

  clocked_lexed : (w : List ℕ) (q : Quantity) → IsLexed (out.word w) → IsLexed (out.quantity q) → AreLexed (out.word w ∷ out.bracketed (out.quantity q ∷ []))
  clocked_lexed w q h k = (h, lexed_bracketed (out.quantity q ∷ []) (k, tt))

  same_global : (p q : Quantity) → SameQuantity W p q → SameRhythm (r.Global p) (r.Global q)
  same_global p q h =
      record {
        erased = ap (λ (z : Quantity). r.Global z) h.erased;
        known = λ w. record { fits = always (λ n. RhythmFits n (r.Global p)) (λ n. (h.known w).0); lexed = clocked_lexed (codes "Global") p global_lexed (h.known w).1 };
      }

  same_local : (p q : Quantity) → SameQuantity W p q → SameRhythm (r.Local p) (r.Local q)
  same_local p q h =
      record {
        erased = ap (λ (z : Quantity). r.Local z) h.erased;
        known = λ w. record { fits = always (λ n. RhythmFits n (r.Local p)) (λ n. (h.known w).0); lexed = clocked_lexed (codes "Local") p local_lexed (h.known w).1 };
      }

  same_event : (x y : Formula) → SameFormula x y → SameRhythm (r.Formula x) (r.Formula y)
  same_event x y h =
      record {
        erased = ap (λ (z : Formula). r.Formula z) h.erased;
        known = λ w. record { fits = (formula_need x, λ n le. le); lexed = event_lexed x (h.lexed w) };
      }

  clock_carried : Carries W SameRhythm g.clock
  unfolding g.clock
  clock_carried =
      either_carried W SameRhythm (Map (λ q. r.Global q) (word (codes "Global") *> g.enclosed g.quantity)) (Map (λ q. r.Local q) (word (codes "Local") *> g.enclosed g.quantity))
      (map_carried W (SameQuantity W) SameRhythm (λ q. r.Global q) _ (λ x y k. same_global x y k) (behind_word W (SameQuantity W) (codes "Global") (g.enclosed g.quantity) enclosed_quantity))
      (map_carried W (SameQuantity W) SameRhythm (λ q. r.Local q) _ (λ x y k. same_local x y k) (behind_word W (SameQuantity W) (codes "Local") (g.enclosed g.quantity) enclosed_quantity))
    where
      enclosed_quantity : Carries W (SameQuantity W) (g.enclosed g.quantity)
      enclosed_quantity = behind_token W (SameQuantity W) is.Open _ (before_token W (SameQuantity W) is.Shut g.quantity (quantity_carried W))

  rhythm_carried : (n : ℕ) → Carries W SameRhythm (g.rhythm n)
  unfolding g.rhythm g.whole_formula
  rhythm_carried n =
      either_carried W SameRhythm (Map (λ q. r.Rate q) g.quantity) _
      (map_carried W (SameQuantity W) SameRhythm (λ q. r.Rate q) g.quantity (λ x y k. same_rate x y k) (quantity_carried W))
      (either_carried W SameRhythm (Map (λ m. r.Formula (f.Input m)) (g.other_name g.clock_words)) _
      (map_carried W (SameName W) SameRhythm (λ m. r.Formula (f.Input m)) (g.other_name g.clock_words) (λ x y k. same_event (f.Input x) (f.Input y) (same_input x y k)) (other_name_carried W g.clock_words))
      (either_carried W SameRhythm (Map (λ x. r.Formula x) (g.enclosed (Whole (g.formula_in n)))) g.clock
      (map_carried W SameFormula SameRhythm (λ x. r.Formula x) (g.enclosed (Whole (g.formula_in n))) (λ x y k. same_event x y k)
      (behind_token W SameFormula is.Open _ (before_token W SameFormula is.Shut (Whole (g.formula_in n)) (whole_carried W SameFormula (g.formula_in n) (formula_in_carried n)))))
      clock_carried))

  pub record SamePacing (p q : Pacing) : Type 0 where
    pub rhythm : SameRhythm p.rhythm q.rhythm

  pub pacing_carried : (n : ℕ) → Carries W SamePacing (g.pacing n)
  unfolding g.pacing
  pacing_carried n =
      map_carried W (Both Any SameRhythm) SamePacing (λ p. record { at = p.0; rhythm = p.1 }) (Then (token is.At) (g.rhythm n)) (λ x y k. record { rhythm = k.1 })
      (then_carried W Any SameRhythm (token is.At) (g.rhythm n) (token_any W is.At) (rhythm_carried n))

  pub erased_pacing : (p q : Pacing) → SamePacing p q → erased.pacing p ≡ erased.pacing q
  erased_pacing p q h = ap (λ (x : Rhythm). record { at = 0; rhythm = x }) h.rhythm.erased

  pub pacing_fits : W → (p q : Pacing) → SamePacing p q → Eventually (λ n. PacingFits n p)
  pacing_fits w p q h = (h.rhythm.known w).fits

  pub pacing_lexed : W → (p q : Pacing) → SamePacing p q → AreLexed (out.pacing p)
  pacing_lexed w p q h = (refl, (h.rhythm.known w).lexed)
