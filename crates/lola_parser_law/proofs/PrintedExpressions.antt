-- What is printed spells the tree, places left aside.
use Rattle.std.proofs.Common.{◌≡◌, ℕ, zero, suc, ◌≤◌, Bool, true, false, true≢false, ◌||◌, List, [], ◌∷◌, ◌++◌, Option, Some, None, refl, sym, ap, subst, ◌∙◌, append_assoc, arith, inl, inr, ltb-false, ltb-true, lt-ltb}
use Rattle.std.specs.Prelude.{nat_lt}
use Rattle.lola_lexer.specs.declared.shape.TokenShape.TheVariants as is
use Rattle.lola_parser_grammar.specs.declared.literals.Literal.{Literal}
use Rattle.lola_parser_grammar.specs.declared.literals.Value.{Value}
use Rattle.lola_parser_grammar.specs.declared.literals.Value.TheVariants as value
use Rattle.lola_parser_grammar.specs.declared.expressions.Access.{Access}
use Rattle.lola_parser_grammar.specs.declared.expressions.Access.TheVariants as a
use Rattle.lola_parser_grammar.specs.declared.expressions.Prefix.TheVariants as pre
use Rattle.lola_parser_grammar.specs.declared.expressions.Binary.{Binary}
use Rattle.lola_parser_grammar.specs.declared.expressions.Binary.TheVariants as by
use Rattle.lola_parser_grammar.specs.declared.expressions.Expr.{Expr, Row_of-Expr, more_of-Expr, end_of-Expr}
use Rattle.lola_parser_grammar.specs.declared.expressions.Expr.TheVariants as e
use Rattle.lola_parser_grammar.specs.declared.expressions.Expr.TheBlock as X
use Rattle.lola_parser_grammar.specs.declared.literals.Name.{Name}
use Rattle.lola_parser_grammar.specs.Syntax.{Lexeme, Syntax, Maybe, Many, Spells}
use Rattle.lola_parser_grammar.specs.Grammar as g
use Rattle.lola_parser_grammar.specs.Grammar.{token, nesting, reference, expr_in, other_in, ◌*>◌, ◌<*◌}
use Rattle.lola_parser_print.specs.Print as out
use Rattle.lola_parser_print.specs.Print.{lex, print, bare, level, heads, tightness, left_of, shape_of, bracketed_if}
use Rattle.lola_parser_law.specs.Erased as erased
use Rattle.lola_parser_law.specs.Fitting.{need, need_row}
use Rattle.lola_parser_law.specs.Erased.{ValueReads, AccessReads, ExprReads, RowReads}
use Rattle.lola_parser_law.proofs.Single.{token_spelled, nesting_spelled, after, before}
use Rattle.lola_parser_law.proofs.Operands.{number_only, negative_only, truth_spelled, text_literal_spelled, in_brackets, bare_name, access_suffixed, access_or_suffixed}
use Rattle.lola_parser_law.proofs.Levels.{At, down, binary_spelled, Tail, tail_other, Operand, Post, post_operand, post_default, operand_unary, not_spelled, minus_spelled, if_spelled, plain_name}

abbrev pub is_reference : Expr → Bool
is_reference (e.Reference' n b shape row how) = true
is_reference _ = false

pub record Printed (x : Expr) (n : ℕ) : Type 0 where
  pub levels : (k : ℕ) → k ≤ 6 → Spells (At k (expr_in n) (other_in n)) (print x k) (erased.expr x)
  pub operand : Operand (expr_in n) (other_in n) (heads x) (print x 6) (erased.expr x)
  pub post : is_reference x ≡ false → Post (expr_in n) (other_in n) (heads x) (print x 7) (erased.expr x)

-- one level further in
inward : (n : ℕ) (u : List Lexeme) (x : Expr) → Spells (At 0 (expr_in n) (other_in n)) u x → Spells (expr_in (suc n)) u x
unfolding Spells g.level
inward n u x h = h

inward_other : (n : ℕ) (u : List Lexeme) (x : Expr) → Spells (g.other_with (expr_in n) (other_in n)) u x → Spells (other_in (suc n)) u x
unfolding Spells g.level
inward_other n u x h = h

-- without brackets, as an expression one level further in
none_below : (b : Bool) (l : ℕ) → nat_lt l 0 ≡ b → b ≡ false
none_below true l h = absurd (omega (arith, ltb-true l 0 h))
none_below false l h = refl

print_whole : (x : Expr) → print x 0 ≡ bare x
print_whole x = ap (λ b. bracketed_if b (bare x)) (none_below (nat_lt (level x) 0) (level x) refl)

-- without brackets, as an expression here
pub level_whole : (x : Expr) (n : ℕ) → Printed x n → Spells (g.expr_with (expr_in n) (other_in n)) (bare x) (erased.expr x)
level_whole x n p = subst (λ (w : List Lexeme). Spells (At 0 (expr_in n) (other_in n)) w (erased.expr x)) (print_whole x) (p.levels 0 (omega arith))

pub whole_in : (x : Expr) (n : ℕ) → Printed x n → Spells (expr_in (suc n)) (bare x) (erased.expr x)
whole_in x n p = inward n (bare x) (erased.expr x) (subst (λ (w : List Lexeme). Spells (At 0 (expr_in n) (other_in n)) w (erased.expr x)) (print_whole x) (p.levels 0 (omega arith)))

-- a tree that is printed the same everywhere
never_bracketed : (x : Expr) (n : ℕ) → level x ≡ 8 → Operand (expr_in n) (other_in n) (heads x) (bare x) (erased.expr x)
    → (is_reference x ≡ false → Post (expr_in n) (other_in n) (heads x) (bare x) (erased.expr x)) → Printed x n
never_bracketed x n tight h post =
    let same : (k : ℕ) → k ≤ 7 → print x k ≡ bare x =
    λ k le. let low : nat_lt (level x) k ≡ false = rw tight (not_below k le) in ap (λ b. bracketed_if b (bare x)) low in
    record {
      levels = λ k le. subst (λ (w : List Lexeme). Spells (At k (expr_in n) (other_in n)) w (erased.expr x)) (sym (same k (omega (arith, le))))
          (down (expr_in n) (other_in n) (bare x) (erased.expr x) 6 k le (omega arith) (operand_unary (expr_in n) (other_in n) (heads x) (bare x) (erased.expr x) h));
      operand = subst (λ (w : List Lexeme). Operand (expr_in n) (other_in n) (heads x) w (erased.expr x)) (sym (same 6 (omega arith))) h;
      post = λ other. subst (λ (w : List Lexeme). Post (expr_in n) (other_in n) (heads x) w (erased.expr x)) (sym (same 7 (omega arith))) (post other);
    }
  where
    not_below : (k : ℕ) → k ≤ 7 → nat_lt 8 k ≡ false
    not_below k le = by (nat_lt 8 k) refl
      where
        by : (b : Bool) → nat_lt 8 k ≡ b → b ≡ false
        by true h = absurd (omega (arith, le, ltb-true 8 k h))
        by false h = refl

-- a tree that stands at a level, and in brackets at those above
bracketed_above : (x : Expr) (n t : ℕ) → level x ≡ t → heads x ≡ false → t ≤ 6
    → Spells (At t (expr_in n) (other_in n)) (bare x) (erased.expr x) → Spells (At t (expr_in (suc n)) (other_in (suc n))) (bare x) (erased.expr x)
    → (nat_lt t 6 ≡ false → Spells (g.other_with (expr_in (suc n)) (other_in (suc n))) (bare x) (erased.expr x)) → Printed x (suc n)
bracketed_above x n t is_level front top below here six =
    let E = expr_in (suc n) in
    let O = other_in (suc n) in
    let u = bare x in
    let z = erased.expr x in
    let same : (k : ℕ) → print x k ≡ bracketed_if (nat_lt t k) u = λ k. ap (λ l. bracketed_if (nat_lt l k) u) is_level in
    let closed : Tail E O (out.bracketed u) z = inr (inr (inr (in_brackets E O u z (inward n u z (down (expr_in n) (other_in n) u z t 0 (omega arith) top below))))) in
    let in_other = tail_other E O (out.bracketed u) z closed in
    let at : (k : ℕ) → k ≤ 6 → (b : Bool) → nat_lt t k ≡ b → Spells (At k E O) (bracketed_if b u) z =
    λ k le b is. elim b as (λ c. nat_lt t k ≡ c → Spells (At k E O) (bracketed_if c u) z) [
      | true ↦ λ _. down E O _ z 6 k le (omega arith) (operand_unary E O false _ z in_other)
      | false ↦ λ i. down E O u z t k (ltb-false t k i) top here
    ] is in
    let other : (b : Bool) → nat_lt t 6 ≡ b → Spells (g.other_with E O) (bracketed_if b u) z =
    λ b is. elim b as (λ c. nat_lt t 6 ≡ c → Spells (g.other_with E O) (bracketed_if c u) z) [ true ↦ λ _. in_other | false ↦ six ] is in
    let seven : nat_lt t 7 ≡ true = lt-ltb t 7 (omega (arith, top)) in
    record {
      levels = λ k le. subst (λ (w : List Lexeme). Spells (At k E O) w z) (sym (same k)) (at k le (nat_lt t k) refl);
      operand = subst (λ (c : Bool). Operand E O c (print x 6) z) (sym front) (subst (λ (w : List Lexeme). Spells (g.other_with E O) w z) (sym (same 6)) (other (nat_lt t 6) refl));
      post = λ _. subst (λ (c : Bool). Post E O c (print x 7) z) (sym front) (subst (λ (w : List Lexeme). Tail E O w z) (sym (same 7 ∙ ap (λ (c : Bool). bracketed_if c u) seven)) closed);
    }

left_low : (op : Binary) → left_of op ≤ 6
left_low by.Or = omega arith
left_low by.And = omega arith
left_low by.Equal = omega arith
left_low by.Unequal = omega arith
left_low by.Less = omega arith
left_low by.LessEqual = omega arith
left_low by.Greater = omega arith
left_low by.GreaterEqual = omega arith
left_low by.Add = omega arith
left_low by.Subtract = omega arith
left_low by.Multiply = omega arith
left_low by.Divide = omega arith
left_low by.Remainder = omega arith

right_low : (op : Binary) → suc (tightness op) ≤ 6
right_low by.Or = omega arith
right_low by.And = omega arith
right_low by.Equal = omega arith
right_low by.Unequal = omega arith
right_low by.Less = omega arith
right_low by.LessEqual = omega arith
right_low by.Greater = omega arith
right_low by.GreaterEqual = omega arith
right_low by.Add = omega arith
right_low by.Subtract = omega arith
right_low by.Multiply = omega arith
right_low by.Divide = omega arith
right_low by.Remainder = omega arith

-- an operand of `!`
not_at : (j : ℕ) (x : Expr) → Operand (expr_in (suc j)) (other_in (suc j)) (heads x) (print x 6) (erased.expr x)
    → Operand (expr_in j) (other_in j) (heads x) (print x 6) (erased.expr x)
    → Spells (g.other_with (expr_in (suc j)) (other_in (suc j))) (lex is.Not ∷ print x 6) (e.Prefix pre.Not 0 (erased.expr x))
not_at j x h k = by (heads x) h k
  where
    by : (b : Bool) → Operand (expr_in (suc j)) (other_in (suc j)) b (print x 6) (erased.expr x) → Operand (expr_in j) (other_in j) b (print x 6) (erased.expr x)
        → Spells (g.other_with (expr_in (suc j)) (other_in (suc j))) (lex is.Not ∷ print x 6) (e.Prefix pre.Not 0 (erased.expr x))
    by true h k = not_spelled (expr_in (suc j)) (other_in (suc j)) (print x 6) (erased.expr x) (inl h)
    by false h k = not_spelled (expr_in (suc j)) (other_in (suc j)) (print x 6) (erased.expr x) (inr (inward_other j (print x 6) (erased.expr x) k))

-- an operand of a prefix `-`
guarded : (j : ℕ) (x : Expr) → Printed x j → Printed x (suc j) → Spells (other_in (suc (suc j))) (out.guarded x) (erased.expr x)
guarded j x low high = by (heads x) refl
  where
    closed : Spells (other_in (suc (suc j))) (out.bracketed (bare x)) (erased.expr x)
    closed =
        inward_other (suc j) (out.bracketed (bare x)) (erased.expr x)
        (tail_other (expr_in (suc j)) (other_in (suc j)) (out.bracketed (bare x)) (erased.expr x)
        (inr (inr (inr (in_brackets (expr_in (suc j)) (other_in (suc j)) (bare x) (erased.expr x) (whole_in x j low))))))

    by : (b : Bool) → heads x ≡ b → Spells (other_in (suc (suc j))) (bracketed_if (b || nat_lt (level x) 6) (bare x)) (erased.expr x)
    by true h = closed
    by false h =
        inward_other (suc j) (print x 6) (erased.expr x)
        (subst (λ (c : Bool). Operand (expr_in (suc j)) (other_in (suc j)) c (print x 6) (erased.expr x)) h high.operand)

-- ---- names

dotted_at : (n : ℕ) (nm : Name) (how : Access) (p : Option g.Arguments) (args : List Lexeme) (z : Expr) → AccessReads how
    → Spells (Maybe (g.arguments (expr_in n) (other_in n))) args p → z ≡ reference (erased.name nm) p (erased.access how) → (how ≡ a.Direct → ⊥)
    → Spells (g.other_with (expr_in n) (other_in n)) (out.name nm ∷ (args ++ out.access how)) z
dotted_at n nm how p args z reads h is other =
    let suffix = access_suffixed (expr_in n) (other_in n) how (reference (erased.name nm) p) reads other in
    subst (λ (x : Expr). Spells (g.other_with (expr_in n) (other_in n)) (out.name nm ∷ (args ++ out.access how)) x) (sym is)
    (tail_other (expr_in n) (other_in n) (out.name nm ∷ (args ++ out.access how)) (reference (erased.name nm) p (erased.access how))
    (inr (inl (record { name = nm; arguments = p; args = args; dots = out.access how; is = refl; spelled = h; suffix = suffix }))))

-- a name, as its arguments tell
named_at : (n : ℕ) (nm : Name) (how : Access) (p : Option g.Arguments) (args : List Lexeme) (z : Expr) → AccessReads how
    → Spells (Maybe (g.arguments (expr_in n) (other_in n))) args p → z ≡ reference (erased.name nm) p (erased.access how)
    → Spells (g.other_with (expr_in n) (other_in n)) (out.name nm ∷ (args ++ out.access how)) z
named_at n nm a.Direct p args z reads h is =
    subst (λ (x : Expr). Spells (g.other_with (expr_in n) (other_in n)) (out.name nm ∷ (args ++ [])) x) (sym is)
    (plain_name (expr_in n) (other_in n) (out.name nm ∷ (args ++ [])) (reference (erased.name nm) p a.Direct) (bare_name (expr_in n) (other_in n) nm p args h))
named_at n nm (a.Offset dot k at) p args z reads h is = dotted_at n nm (a.Offset dot k at) p args z reads h is (λ never. cc)
named_at n nm (a.Hold dot) p args z reads h is = dotted_at n nm (a.Hold dot) p args z reads h is (λ never. cc)
named_at n nm (a.Get dot) p args z reads h is = dotted_at n nm (a.Get dot) p args z reads h is (λ never. cc)
named_at n nm (a.Window dot exactly q m) p args z reads h is = dotted_at n nm (a.Window dot exactly q m) p args z reads h is (λ never. cc)

-- ---- the whole tree

literal_printed : (l : Literal) (n : ℕ) → ValueReads l.value → Printed (e.Literal l) n
literal_printed l n reads = by l.value l.at reads
  where
    by : (v : Value) (at : ℕ) → ValueReads v → Printed (e.Literal (record { value = v; at = at })) n
    by (value.Integer false m) at h =
        let s = number_only (expr_in n) (other_in n) m h in
        never_bracketed (e.Literal (record { value = value.Integer false m; at = at })) n refl s (λ _. s)
    by (value.Integer true m) at h =
        let s : Tail (expr_in n) (other_in n) (out.literal (value.Integer true m)) (e.Literal (record { value = value.Integer true m; at = 0 })) = inl (negative_only (expr_in n) (other_in n) m h) in
        never_bracketed (e.Literal (record { value = value.Integer true m; at = at })) n refl (tail_other (expr_in n) (other_in n) _ _ s) (λ _. s)
    by (value.Truth b) at h =
        let s : Tail (expr_in n) (other_in n) (out.literal (value.Truth b)) (e.Literal (record { value = value.Truth b; at = 0 })) = inr (inr (inl (truth_spelled (expr_in n) (other_in n) b))) in
        never_bracketed (e.Literal (record { value = value.Truth b; at = at })) n refl (tail_other (expr_in n) (other_in n) _ _ s) (λ _. s)
    by (value.Text z) at h =
        let s : Tail (expr_in n) (other_in n) (out.literal (value.Text z)) (e.Literal (record { value = value.Text z; at = 0 })) = inr (inr (inl (text_literal_spelled (expr_in n) (other_in n) z h))) in
        never_bracketed (e.Literal (record { value = value.Text z; at = at })) n refl (tail_other (expr_in n) (other_in n) _ _ s) (λ _. s)

-- the arguments, by those behind the first one
args_spelled : (E O : Syntax Expr) (u w : List Lexeme) (x : Expr) (xs : List Expr) → Spells E u x → Spells (Many (g.further E)) w xs
    → Spells (Maybe (g.arguments E O)) (lex is.Open ∷ (u ++ (w ++ lex is.Shut ∷ []))) (Some (0, x ∷ xs))
unfolding Spells g.arguments
args_spelled E O u w x xs h k = (
  lex is.Open ∷ [],
  u ++ (w ++ lex is.Shut ∷ []),
  refl,
  nesting_spelled is.Open,
  subst (λ (l : List Lexeme). Spells (g.listed E <* token is.Shut) l (x ∷ xs)) (append_assoc u w (lex is.Shut ∷ []))
      (before (g.listed E) (token is.Shut) (u ++ w) (lex is.Shut ∷ []) (x ∷ xs) 0 ((x, xs), refl, (u, w, refl, h, k)) (token_spelled is.Shut)),
)

args_none : (E O : Syntax Expr) → Spells (Maybe (g.arguments E O)) [] None
unfolding Spells
args_none E O = refl

further_none : (E : Syntax Expr) → Spells (Many (g.further E)) [] []
unfolding Spells
further_none E = refl

further_more : (E : Syntax Expr) (u w : List Lexeme) (x : Expr) (xs : List Expr) → Spells E u x → Spells (Many (g.further E)) w xs
    → Spells (Many (g.further E)) (lex is.Comma ∷ (u ++ w)) (x ∷ xs)
unfolding Spells
further_more E u w x xs h k = (lex is.Comma ∷ u, w, refl, after (token is.Comma) E (lex is.Comma ∷ []) u 0 x (token_spelled is.Comma) h, k)

abbrev args_of : List Expr → Option g.Arguments
args_of [] = None
args_of (x ∷ xs) = Some (0, x ∷ xs)

reference_is : (nm : Name) (xs : List Expr) (how : Access) → e.Reference nm (erased.bracket xs) xs how ≡ reference nm (args_of xs) how
reference_is nm [] how = refl
reference_is nm (x ∷ xs) how = refl

mutual
  unfolding X.shape-the_row-Expr-1 X.hidden-the_row-Expr-1 denote.Hole.Carrier.hidden denote.Hole.Carrier.shown denote.Hole.Carrier.roll denote.Hole.Carrier.out

  pub printed : (x : Expr) (n : ℕ) → need x ≤ n → ExprReads x → Printed x n
  printed (e.Literal l) n le h = literal_printed l n h
  printed (e.Reference' nm b shape row how) zero le h = absurd (omega (arith, le))
  printed (e.Reference' nm b shape row how) (suc n) le h =
      never_bracketed (e.Reference' nm b shape row how) (suc n) refl
      (named_at (suc n) nm how (args_of (erased.exprs row)) (out.arguments row) _ h.1 (printed_arguments row n (omega (arith, le)) h.0) (reference_is (erased.name nm) (erased.exprs row) (erased.access how)))
      (λ never. absurd (true≢false never))
  printed (e.Defaults' at p (more_of-Expr x end_of-Expr) q (more_of-Expr y end_of-Expr)) zero le h = absurd (omega (arith, le))
  printed (e.Defaults' at p (more_of-Expr (e.Reference' nm b shape row how) end_of-Expr) q (more_of-Expr y end_of-Expr)) (suc n) le h =
      let E = expr_in (suc n) in
      let O = other_in (suc n) in
      let ps = args_of (erased.exprs row) in
      let second = whole_in y n (printed y n (omega (arith, le)) h.1) in
      let suffix = access_or_suffixed E O how (reference (erased.name nm) ps) (bare y) (erased.expr y) h.0.1 second in
      let s : Tail E O (out.name nm ∷ (out.arguments row ++ out.access_or how (bare y))) (e.Defaults 0 (reference (erased.name nm) ps (erased.access how)) (erased.expr y)) =
      inr (inl (record { name = nm; arguments = ps; args = out.arguments row; dots = out.access_or how (bare y); is = refl; spelled = printed_arguments row n (omega (arith, le)) h.0.0; suffix = suffix })) in
      let r : Tail E O (out.name nm ∷ (out.arguments row ++ out.access_or how (bare y))) (e.Defaults 0 (e.Reference (erased.name nm) (erased.bracket (erased.exprs row)) (erased.exprs row) (erased.access how)) (erased.expr y)) =
      subst (λ (z : Expr). Tail E O (out.name nm ∷ (out.arguments row ++ out.access_or how (bare y))) (e.Defaults 0 z (erased.expr y))) (sym (reference_is (erased.name nm) (erased.exprs row) (erased.access how))) s in
      never_bracketed (e.Defaults at (e.Reference' nm b shape row how) y) (suc n) refl (tail_other E O _ _ r) (λ _. r)
  printed (e.Defaults' at p (more_of-Expr x end_of-Expr) q (more_of-Expr y end_of-Expr)) (suc n) le h =
      let E = expr_in (suc n) in
      let O = other_in (suc n) in
      let first = (printed x (suc n) (omega (arith, le)) h.0).post refl in
      let s = post_default E O (heads x) (print x 7) (bare y) (erased.expr x) (erased.expr y) first (whole_in y n (printed y n (omega (arith, le)) h.1)) in
      never_bracketed (e.Defaults at x y) (suc n) refl (post_operand E O (heads x) (print x 7 ++ out.default_tail (bare y)) (e.Defaults 0 (erased.expr x) (erased.expr y)) s) (λ _. s)
  printed (e.Prefix' op at p (more_of-Expr x end_of-Expr)) zero le h = absurd (omega (arith, le))
  printed (e.Prefix' op at p (more_of-Expr x end_of-Expr)) (suc zero) le h = absurd (omega (arith, le))
  printed (e.Prefix' op at p (more_of-Expr x end_of-Expr)) (suc (suc zero)) le h = absurd (omega (arith, le))
  printed (e.Prefix' pre.Not at p (more_of-Expr x end_of-Expr)) (suc (suc (suc n))) le h =
      let here : (j : ℕ) → need x ≤ j → Spells (g.other_with (expr_in (suc j)) (other_in (suc j))) (lex is.Not ∷ print x 6) (e.Prefix pre.Not 0 (erased.expr x)) =
      λ j more. not_at j x (printed x (suc j) (omega (arith, more)) h).operand (printed x j more h).operand in
      let low = here (suc n) (omega (arith, le)) in
      let high = here (suc (suc n)) (omega (arith, le)) in
      bracketed_above (e.Prefix pre.Not at x) (suc (suc n)) 6 refl refl (omega arith) (operand_unary (expr_in (suc (suc n))) (other_in (suc (suc n))) false _ _ low)
      (operand_unary (expr_in (suc (suc (suc n)))) (other_in (suc (suc (suc n)))) false _ _ high) (λ _. high)
  printed (e.Prefix' pre.Negate at p (more_of-Expr x end_of-Expr)) (suc (suc (suc n))) le h =
      let here : (j : ℕ) → need x ≤ j → Spells (g.other_with (expr_in (suc (suc j))) (other_in (suc (suc j)))) (lex is.Minus ∷ out.guarded x) (e.Prefix pre.Negate 0 (erased.expr x)) =
      λ j more. minus_spelled (expr_in (suc (suc j))) (other_in (suc (suc j))) (out.guarded x) (erased.expr x) (guarded j x (printed x j more h) (printed x (suc j) (omega (arith, more)) h)) in
      let low = here n (omega (arith, le)) in
      let high = here (suc n) (omega (arith, le)) in
      bracketed_above (e.Prefix pre.Negate at x) (suc (suc n)) 6 refl refl (omega arith) (operand_unary (expr_in (suc (suc n))) (other_in (suc (suc n))) false _ _ low)
      (operand_unary (expr_in (suc (suc (suc n)))) (other_in (suc (suc (suc n)))) false _ _ high) (λ _. high)
  printed (e.Binary' op at p (more_of-Expr x end_of-Expr) q (more_of-Expr y end_of-Expr)) zero le h = absurd (omega (arith, le))
  printed (e.Binary' op at p (more_of-Expr x end_of-Expr) q (more_of-Expr y end_of-Expr)) (suc n) le h =
      let here : (j : ℕ) → need x ≤ j → need y ≤ j → Spells (At (tightness op) (expr_in j) (other_in j)) (print x (left_of op) ++ (lex (shape_of op) ∷ print y (suc (tightness op)))) (e.Binary op 0 (erased.expr x) (erased.expr y)) =
      λ j more also. binary_spelled op (expr_in j) (other_in j) (print x (left_of op)) (print y (suc (tightness op))) (erased.expr x) (erased.expr y) ((printed x j more h.0).levels (left_of op) (left_low op)) ((printed y j also h.1).levels (suc (tightness op)) (right_low op)) in
      bracketed_above (e.Binary op at x y) n (tightness op) refl refl (omega (arith, right_low op)) (here n (omega (arith, le)) (omega (arith, le))) (here (suc n) (omega (arith, le)) (omega (arith, le)))
      (λ i. absurd (omega (arith, right_low op, ltb-false (tightness op) 6 i)))
  printed (e.If' at p (more_of-Expr x end_of-Expr) q (more_of-Expr y end_of-Expr) r (more_of-Expr z end_of-Expr)) zero le h = absurd (omega (arith, le))
  printed (e.If' at p (more_of-Expr x end_of-Expr) q (more_of-Expr y end_of-Expr) r (more_of-Expr z end_of-Expr)) (suc zero) le h = absurd (omega (arith, le))
  printed (e.If' at p (more_of-Expr x end_of-Expr) q (more_of-Expr y end_of-Expr) r (more_of-Expr z end_of-Expr)) (suc (suc n)) le h =
      let here : (j : ℕ) → need x ≤ j → need y ≤ j → need z ≤ j → Spells (At 0 (expr_in (suc j)) (other_in (suc j))) (lex is.If ∷ (bare x ++ (lex is.Then ∷ (bare y ++ (lex is.Else ∷ bare z))))) (e.If 0 (erased.expr x) (erased.expr y) (erased.expr z)) =
      λ j a b c. if_spelled (expr_in (suc j)) (other_in (suc j)) (bare x) (bare y) (bare z) (erased.expr x) (erased.expr y) (erased.expr z) (whole_in x j (printed x j a h.0)) (whole_in y j (printed y j b h.1)) (whole_in z j (printed z j c h.2)) in
      bracketed_above (e.If at x y z) (suc n) 0 refl refl (omega arith) (here n (omega (arith, le)) (omega (arith, le)) (omega (arith, le))) (here (suc n) (omega (arith, le)) (omega (arith, le)) (omega (arith, le)))
      (λ i. absurd (omega (arith, ltb-false 0 6 i)))

  printed_arguments : {m : _} (row : Row_of-Expr m) (n : ℕ) → need_row row ≤ n → RowReads row
      → Spells (Maybe (g.arguments (expr_in (suc n)) (other_in (suc n)))) (out.arguments row) (args_of (erased.exprs row))
  printed_arguments end_of-Expr n le h = args_none (expr_in (suc n)) (other_in (suc n))
  printed_arguments (more_of-Expr x rest) n le h =
      args_spelled (expr_in (suc n)) (other_in (suc n)) (bare x) (out.further rest) (erased.expr x) (erased.exprs rest) (whole_in x n (printed x n (omega (arith, le)) h.0)) (printed_further rest n (omega (arith, le)) h.1)

  printed_further : {m : _} (row : Row_of-Expr m) (n : ℕ) → need_row row ≤ n → RowReads row → Spells (Many (g.further (expr_in (suc n)))) (out.further row) (erased.exprs row)
  printed_further end_of-Expr n le h = further_none (expr_in (suc n))
  printed_further (more_of-Expr x rest) n le h =
      further_more (expr_in (suc n)) (bare x) (out.further rest) (erased.expr x) (erased.exprs rest) (whole_in x n (printed x n (omega (arith, le)) h.0)) (printed_further rest n (omega (arith, le)) h.1)
