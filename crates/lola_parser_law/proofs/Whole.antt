-- Whole specifications.
use Rattle.std.proofs.Common.{◌≡◌, ℕ, suc, ◌+◌, ◌≤◌, List, [], ◌∷◌, ◌++◌, Result, Ok, Err, inl, inr, sym, ◌∙◌, subst, arith}
use Rattle.std.proofs.lemmas.List.{append_cancel_right}
use Rattle.lola_value.specs.declared.front.FrontEnd.{FrontEnd}
use Rattle.lola_value.specs.declared.front.FrontEnd.TheVariants as front_end
use Rattle.lola_parser_grammar.specs.declared.declarations.Declaration.{Declaration}
use Rattle.lola_parser_grammar.specs.Syntax.{Lexeme, Begins, IsFirstMisfit}
use Rattle.lola_parser_grammar.specs.Grammar as g
use Rattle.lola_parser_grammar.specs.Whole.{most_levels, Refuses, ReadsAll}
use Rattle.lola_parser_grammar.proofs.Fine.{specification_fine}
use Rattle.lola_parser_law.specs.Plain as plain
use Rattle.lola_parser_law.specs.Alike.{SpellsPlainly, SpellsFactored, BeginsPlainly, IsFirstPlainMisfit, RefusesPlainly, ReadsPlainly}
use Rattle.lola_parser_law.proofs.PlainWithin.{within_chain}
use Rattle.lola_parser_law.proofs.Fitting.{Fitting}
use Rattle.lola_parser_law.proofs.Depths.{twice, twice-le, twice-more, plain_later, factored_later, expr_read, expr_plain, expr_out, form_later, form_same}
use Rattle.lola_parser_law.proofs.Free.{one_value}
use Rattle.lola_parser_law.proofs.PlainClauses.{spec_read, spec_plain}

-- what is plainly spelled is read at each level that is as deep
pub plain_read : (m n : ℕ) → m ≤ n → Fitting (plain.specification m) (g.specification n)
plain_read m n le =
    spec_read n (plain.expr_in m) (plain.form_in m) (within_chain _ _ _ (expr_read m) (factored_later m n le)) (within_chain _ _ _ (form_later m n le) (form_same n).back)

pub read_plain : (n : ℕ) → Fitting (g.specification n) (plain.specification (twice (suc n)))
read_plain n =
    let h = twice-le (suc n) in
    let le : n ≤ twice (suc n) = omega (arith, h) in
    spec_plain n (plain.expr_in (twice (suc n))) (plain.form_in (twice (suc n)))
    (within_chain _ _ _ (expr_plain n) (plain_later (twice n) (twice (suc n)) (twice-more n)))
    (within_chain _ _ _ (expr_out n) (expr_plain (suc n)))
    (within_chain _ _ _ (form_same n).to (form_later n (twice (suc n)) le))

pub factored_of : (ts : List Lexeme) (x : List Declaration) → SpellsPlainly ts x → SpellsFactored ts x
factored_of ts x (n, s) = (n, (plain_read n n (omega arith)).spells ts x s)

pub plain_of : (ts : List Lexeme) (x : List Declaration) → SpellsFactored ts x → SpellsPlainly ts x
plain_of ts x (n, s) = (twice (suc n), (read_plain n).spells ts x s)

pub one_tree : (ts : List Lexeme) (x y : List Declaration) → SpellsPlainly ts x → SpellsPlainly ts y → x ≡ y
one_tree ts x y (m, s) (n, t) =
    one_value (g.specification (m + n)) (specification_fine (m + n)) ts x y ((plain_read m (m + n) (omega arith)).spells ts x s) ((plain_read n (m + n) (omega arith)).spells ts y t)

-- ---- the first token that does not fit

begins_plain : (n : ℕ) (u : List Lexeme) → Begins (g.specification n) u → BeginsPlainly u
begins_plain n u (v, x, s) = (twice (suc n), (v, x, (read_plain n).spells (u ++ v) x s))

-- deep enough for both
deep : (m : ℕ) → (m ≤ m + most_levels) × (most_levels ≤ m + most_levels)
deep m = (omega arith, omega arith)

begins_factored : (m : ℕ) (u : List Lexeme) → Begins (plain.specification m) u → Begins (g.specification (m + most_levels)) u
begins_factored m u (v, x, s) = (v, x, (plain_read m (m + most_levels) (deep m).0).spells (u ++ v) x s)

pub misfit : (ts rest : List Lexeme) → ((n : ℕ) → most_levels ≤ n → IsFirstMisfit (g.specification n) ts rest) → IsFirstPlainMisfit ts rest
misfit ts [] h = (
  begins_plain most_levels ts (h most_levels (omega arith)).0,
  λ x s. (h (s.0 + most_levels) (deep s.0).1).1 x ((plain_read s.0 (s.0 + most_levels) (deep s.0).0).spells ts x s.1),
)
misfit ts (t ∷ rest) h =
    let here = h most_levels (omega arith) in
    (here.0, here.1, begins_plain most_levels here.0 here.2, λ b. none here.0 here.1 b)
  where
    none : (u : List Lexeme) → ts ≡ u ++ t ∷ rest → BeginsPlainly (u ++ t ∷ []) → ⊥
    none u c b =
        let there = h (b.0 + most_levels) (deep b.0).1 in
        let same : u ≡ there.0 = append_cancel_right u there.0 (t ∷ rest) (sym c ∙ there.1) in
        there.3 (subst (λ (w : List Lexeme). Begins (g.specification (b.0 + most_levels)) (w ++ t ∷ [])) same (begins_factored b.0 (u ++ t ∷ []) b.1))

pub refuses_plainly : (ts : List Lexeme) (end : ℕ) (r : Result (List Declaration) FrontEnd) → Refuses ts end r → RefusesPlainly ts end r
refuses_plainly ts end (Ok x) h = plain_of ts x (most_levels, h)
refuses_plainly ts end (Err front_end.Memory) h = tt
refuses_plainly ts end (Err (front_end.Refused r)) (inl h) = λ e. (h.1.0, h.1.1, misfit ts h.1.0 h.1.2)
refuses_plainly ts end (Err (front_end.Refused r)) (inr h) = λ e. absurd (let d = h.0 in cc)

pub reads_plainly : (ts : List Lexeme) (r : Result (List Declaration) FrontEnd) → ReadsAll ts r → ReadsPlainly ts r
reads_plainly ts r h x (m, s) = h (m + most_levels) (deep m).1 x ((plain_read m (m + most_levels) (deep m).0).fits ts x s)
