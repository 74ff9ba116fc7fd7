-- What operands without prefix operators cost: no spelling has fewer nestings than the printed one.
use Rattle.std.proofs.Common.{◌≡◌, ℕ, suc, ◌+◌, ◌≤◌, true, false, List, [], ◌∷◌, Option, Some, None, refl, ap, ◌∙◌, arith, inl, inr}
use Rattle.std.specs.Prelude.{codes}
use Rattle.lola_lexer.specs.declared.shape.TokenShape.TheVariants as is
use Rattle.lola_parser_grammar.specs.declared.literals.Name.{Name}
use Rattle.lola_parser_grammar.specs.declared.literals.Literal.{Literal}
use Rattle.lola_parser_grammar.specs.declared.expressions.Access.{Access}
use Rattle.lola_parser_grammar.specs.declared.expressions.Access.TheVariants as a
use Rattle.lola_parser_grammar.specs.declared.expressions.Expr.{Expr}
use Rattle.lola_parser_grammar.specs.declared.expressions.Expr.TheVariants as e
use Rattle.lola_parser_grammar.specs.Syntax.{Lexeme, Syntax, Then, Map, Either, Maybe, Many, Perhaps, Spells}
use Rattle.lola_parser_grammar.specs.Grammar as g
use Rattle.lola_parser_grammar.specs.Grammar.{token, nesting, word, whole_number, truth_at, text_at, with_default, reference, or_else, read_by, named_by, ◌*>◌, ◌<*◌, ◌|>◌, ◌>>◌}
use Rattle.lola_parser_print.specs.Print as out
use Rattle.lola_parser_print.specs.Print.{level, heads}
use Rattle.lola_parser_print.proofs.Equations.{heads-Defaults, level-Defaults}
use Rattle.lola_parser_law.proofs.Counts.{count, count-nil, count-append, alone, at, of_other, at_tight, other_most, no_heads_other, at_defaults, other_defaults, count-Reference, count-Reference_or, access_most, last_count, hold_count, get_count, window_count, direct_or, last_or, hold_or, get_or, arguments_count, further_count, integer_count, truth_count, text_count, is-Open, is-Dot, is-Minus}
use Rattle.lola_parser_law.proofs.Costs.{Costs, Adds, nothing, with_nestings, both, mapped, either, behind_nesting, behind, before, weaker, followed, joined}

-- the nestings of the arguments of a name
abbrev pub of_arguments : Option g.Arguments → ℕ
of_arguments None = 0
of_arguments (Some p) = count (out.argument_list p.1)

-- ---- a name as it is read

reference_count : (n : Name) (p : Option g.Arguments) (how : Access) → of_other (reference n p how) ≡ of_arguments p + count (out.access how)
reference_count n None how = no_heads_other (e.Reference n None [] how) refl ∙ at_tight 7 (e.Reference n None [] how) (omega arith) ∙ count-Reference n None [] how ∙ omega (arith, count-nil)
reference_count n (Some p) how = no_heads_other (e.Reference n (Some p.0) p.1 how) refl ∙ at_tight 7 (e.Reference n (Some p.0) p.1 how) (omega arith) ∙ count-Reference n (Some p.0) p.1 how

-- with a default behind it
default_is : (dot : ℕ) (n : Name) (b : Option ℕ) (xs : List Expr) (how : Access) (y : Expr) → of_other (e.Defaults dot (e.Reference n b xs how) y) ≡ count (out.argument_list xs) + count (out.access_or how (out.bare y))
default_is dot n b xs how y =
    let z = e.Defaults dot (e.Reference n b xs how) y in
    no_heads_other z (heads-Defaults dot (e.Reference n b xs how) y) ∙ at_tight 7 z (omega (arith, level-Defaults dot (e.Reference n b xs how) y)) ∙ count-Reference_or dot n b xs how y

reference_or_count : (dot : ℕ) (n : Name) (p : Option g.Arguments) (how : Access) (y : Expr) → of_other (e.Defaults dot (reference n p how) y) ≡ of_arguments p + count (out.access_or how (out.bare y))
reference_or_count dot n None how y = default_is dot n None [] how y ∙ omega (arith, count-nil)
reference_or_count dot n (Some p) how y = default_is dot n (Some p.0) p.1 how y

-- what may stand behind the point after a name: with the point, and the name with its arguments
abbrev pub Reads : Syntax (ℕ → g.Reading) → Type 0
Reads s = (ts : List Lexeme) (f : ℕ → g.Reading) → Spells s ts f → (dot : ℕ) (n : Name) (p : Option g.Arguments)
    → of_other (or_else dot (reference n p (f dot).0) (f dot).1) ≤ of_arguments p + suc (count ts)

reads_mapped : {A : Type 0} (f : A → ℕ → g.Reading) (s : Syntax A) (c : A → ℕ) → Costs s c
    → ((x : A) (dot : ℕ) (n : Name) (p : Option g.Arguments) → of_other (or_else dot (reference n p (f x dot).0) (f x dot).1) ≤ of_arguments p + suc (c x)) → Reads (Map f s)
unfolding Spells
reads_mapped f s c costs value ts k h dot n p =
    let same = ap (λ (m : ℕ → g.Reading). of_other (or_else dot (reference n p (m dot).0) (m dot).1)) h.1 in
    omega (arith, same, value h.0 dot n p, costs ts h.0 h.2)

reads_either : (s r : Syntax (ℕ → g.Reading)) → Reads s → Reads r → Reads (Either s r)
unfolding Spells
reads_either s r p q ts f (inl h) = p ts f h
reads_either s r p q ts f (inr h) = q ts f h

-- in brackets, nothing or what stands in
abbrev stands_in : Option Expr → ℕ
stands_in None = 1
stands_in (Some b) = suc (alone b)

offset_costs : Reads g.offset
unfolding g.offset
offset_costs =
    reads_mapped (λ p dot. (a.Offset dot p.0 p.1, None)) _ (λ _. 2)
    (behind (word (codes "offset")) _ (λ _. 2)
    (behind_nesting is.Open _ (λ _. 1) is-Open
    (behind (word (codes "by")) _ (λ _. 1)
    (behind (token is.Colon) _ (λ _. 1)
    (behind_nesting is.Minus _ (λ _. 0) is-Minus (nothing (g.integer <* token is.Shut)))))))
    (λ x dot n p. omega (arith, reference_count n p (a.Offset dot x.0 x.1), access_most (a.Offset dot x.0 x.1)))

window_costs : Reads g.window
unfolding g.window
window_costs =
    reads_mapped (λ p dot. (a.Window dot p.0 p.1.0 p.1.1, None)) _ (λ _. 1)
    (behind (word (codes "aggregate")) _ (λ _. 1) (behind_nesting is.Open _ (λ _. 0) is-Open (nothing _)))
    (λ x dot n p. omega (arith, reference_count n p (a.Window dot x.0 x.1.0 x.1.1), window_count dot x.0 x.1.0 x.1.1))

module _ (E O : Syntax Expr) (inner : Costs E alone) where
  -- ---- defaults

  default_costs : Costs (g.default E O) (λ b. suc (alone b))
  unfolding g.default
  default_costs =
      behind (word (codes "defaults")) _ (λ b. suc (alone b))
      (behind_nesting is.Open _ alone is-Open
      (behind (word (codes "to")) _ alone
      (behind (token is.Colon) _ alone
      (before E (token is.Shut) alone inner))))

  dotted_costs : Costs (g.dotted_default E O) (λ p. suc (suc (alone p.1)))
  unfolding g.dotted_default
  dotted_costs = weaker (Then (nesting is.Dot) (g.default E O)) (λ p. 1 + suc (alone p.1)) (λ p. suc (suc (alone p.1))) (λ p. omega arith) (both (nesting is.Dot) (g.default E O) (λ _. 1) (λ b. suc (alone b)) (with_nestings is.Dot is-Dot) default_costs)

  pub defaults_add : Adds (g.defaults E O) (at 7) (at 7)
  unfolding g.defaults
  defaults_add = joined with_default (g.dotted_default E O) (at 7) (λ ts p h left. omega (arith, at_defaults p.0 left p.1, dotted_costs ts p h))

  pub defaults_other : Adds (g.defaults E O) of_other of_other
  unfolding g.defaults
  defaults_other = joined with_default (g.dotted_default E O) of_other (λ ts p h left. omega (arith, other_defaults p.0 left p.1, dotted_costs ts p h))

  -- ---- literals and brackets

  pub number_costs : Costs (g.number E O) (at 7)
  unfolding g.number
  number_costs =
      followed (Map (λ p. e.Literal (whole_number false p.0 p.1)) g.integer) (g.defaults E O) (at 7) (at 7)
      (mapped (λ p. e.Literal (whole_number false p.0 p.1)) g.integer (at 7) (λ ts p h. omega (arith, at_tight 7 (e.Literal (whole_number false p.0 p.1)) (omega arith), integer_count p.0 p.1)))
      defaults_add

  word_costs : Costs g.word_literal (λ l. of_other (e.Literal l))
  unfolding g.word_literal
  word_costs =
      either (Map (truth_at true) (token is.True)) _ (λ l. of_other (e.Literal l)) (mapped (truth_at true) (token is.True) (λ l. of_other (e.Literal l)) (λ ts at h. omega (arith, free (truth_at true at) refl (truth_count true at))))
      (either (Map (truth_at false) (token is.False)) _ (λ l. of_other (e.Literal l)) (mapped (truth_at false) (token is.False) (λ l. of_other (e.Literal l)) (λ ts at h. omega (arith, free (truth_at false at) refl (truth_count false at))))
      (mapped text_at g.text (λ l. of_other (e.Literal l)) (λ ts p h. omega (arith, free (text_at p) refl (text_count p.0 p.1)))))
    where
      free : (l : Literal) → heads (e.Literal l) ≡ false → alone (e.Literal l) ≡ 0 → of_other (e.Literal l) ≡ 0
      free l h z = no_heads_other (e.Literal l) h ∙ at_tight 7 (e.Literal l) (omega arith) ∙ z

  pub worded_costs : Costs (g.worded E O) of_other
  unfolding g.worded
  worded_costs = followed (Map (λ l. e.Literal l) g.word_literal) (g.defaults E O) of_other of_other (mapped (λ l. e.Literal l) g.word_literal of_other word_costs) defaults_other

  pub bracketed_costs : Costs (g.bracketed E O) of_other
  unfolding g.bracketed
  bracketed_costs =
      followed (nesting is.Open *> E <* token is.Shut) (g.defaults E O) of_other of_other
      (weaker (nesting is.Open *> E <* token is.Shut) (λ x. suc (alone x)) of_other other_most (behind_nesting is.Open (E <* token is.Shut) alone is-Open (before E (token is.Shut) alone inner)))
      defaults_other

  -- ---- names

  abbrev or_part : Syntax Expr
  or_part = word (codes "or") *> token is.Colon *> E

  abbrev perhaps : Option Expr → ℕ
  perhaps None = 0
  perhaps (Some b) = alone b

  least : (o : Option Expr) → stands_in o ≤ suc (perhaps o)
  least None = omega arith
  least (Some b) = omega arith

  may : Costs (Maybe or_part) perhaps
  unfolding Spells
  may ts None h = omega arith
  may ts (Some b) h = behind (word (codes "or")) (token is.Colon *> E) alone (behind (token is.Colon) E alone inner) ts b h

  stand_costs : Costs (g.stand_in E O) stands_in
  unfolding g.stand_in
  stand_costs =
      weaker (nesting is.Open *> Maybe or_part <* token is.Shut) (λ o. suc (perhaps o)) stands_in least
      (behind_nesting is.Open (Maybe or_part <* token is.Shut) perhaps is-Open (before (Maybe or_part) (token is.Shut) perhaps may))

  -- an access with what stands in for its missing value, where its word takes that
  stood_in : (dot : ℕ) (n : Name) (p : Option g.Arguments) (how : Access) (b : Option Expr) → count (out.access how) ≡ 2 → ((ts : List Lexeme) → count (out.access_or how ts) ≡ suc (suc (count ts)))
      → of_other (or_else dot (reference n p how) b) ≤ of_arguments p + suc (stands_in b)
  stood_in dot n p how None two more = omega (arith, reference_count n p how, two)
  stood_in dot n p how (Some b) two more = omega (arith, reference_or_count dot n p how b, more (out.bare b))

  hold_costs : Reads (g.hold E O)
  unfolding g.hold
  hold_costs = reads_mapped (λ b dot. (a.Hold dot, b)) (word (codes "hold") *> g.stand_in E O) stands_in (behind (word (codes "hold")) (g.stand_in E O) stands_in stand_costs) (λ b dot n p. stood_in dot n p (a.Hold dot) b (hold_count dot) (hold_or dot))

  get_costs : Reads (g.get E O)
  unfolding g.get
  get_costs = reads_mapped (λ b dot. (a.Get dot, b)) (word (codes "get") *> g.stand_in E O) stands_in (behind (word (codes "get")) (g.stand_in E O) stands_in stand_costs) (λ b dot n p. stood_in dot n p (a.Get dot) b (get_count dot) (get_or dot))

  last_costs : Reads (g.last E O)
  unfolding g.last
  last_costs =
      reads_mapped (λ p dot. (a.Offset dot 1 p.0, p.1)) (Then (word (codes "last")) (g.stand_in E O)) (λ p. 0 + stands_in p.1) (both (word (codes "last")) (g.stand_in E O) (λ _. 0) stands_in (nothing (word (codes "last"))) stand_costs)
      (λ x dot n p. omega (arith, stood_in dot n p (a.Offset dot 1 x.0) x.1 (last_count dot x.0) (last_or dot x.0)))

  direct_costs : Reads (Map (λ b dot. (a.Direct, Some b)) (g.default E O))
  direct_costs = reads_mapped (λ b dot. (a.Direct, Some b)) (g.default E O) (λ b. suc (alone b)) default_costs (λ b dot n p. omega (arith, reference_or_count dot n p a.Direct b, direct_or (out.bare b)))

  reading_costs : Reads (g.reading E O)
  unfolding g.reading
  reading_costs =
      reads_either g.offset _ offset_costs
      (reads_either (g.hold E O) _ hold_costs
      (reads_either (g.get E O) _ get_costs
      (reads_either (g.last E O) _ last_costs
      (reads_either g.window _ window_costs direct_costs))))

  -- what an expression is by a name
  abbrev Named : Syntax g.Suffix → Type 0
  Named s = (ts : List Lexeme) (f : g.Suffix) → Spells s ts f → (n : Name) (p : Option g.Arguments) → of_other (f (reference n p)) ≤ of_arguments p + count ts

  dotted_named : Named (g.dotted E O)
  unfolding Spells g.dotted
  dotted_named ts f h n p =
      let l = h.2 in
      omega (arith, ap (λ (k : g.Suffix). of_other (k (reference n p))) h.1, ap count l.2, count-append l.0 l.1, with_nestings is.Dot is-Dot l.0 h.0.0 l.3, reading_costs l.1 h.0.1 l.4 h.0.0 n p)

  suffix_named : Named (g.suffix E O)
  unfolding Spells g.suffix
  suffix_named ts f h n p =
      let l = h.2 in
      omega (arith, ap (λ (k : g.Suffix). of_other (k (reference n p))) h.1, ap count l.2, count-append l.0 l.1, dotted_named l.0 h.0.0 l.3 n p, defaults_other l.1 h.0.1 l.4 (h.0.0 (reference n p)))

  -- arguments

  abbrev of_further : List Expr → ℕ
  of_further xs = count (out.further_list xs)

  abbrev of_listed : List Expr → ℕ
  of_listed [] = 0
  of_listed (x ∷ xs) = alone x + of_further xs

  further_costs : Costs (Many (g.further E)) of_further
  unfolding Spells
  further_costs ts [] h = omega (arith, count-nil)
  further_costs ts (x ∷ xs) h = omega (arith, further_count x xs, ap count h.2, count-append h.0 h.1, behind (token is.Comma) E alone inner h.0 x h.3, further_costs h.1 xs h.4)

  listed_costs : Costs (g.listed E) of_listed
  listed_costs = mapped (λ p. p.0 ∷ p.1) (Then E (Many (g.further E))) of_listed (both E (Many (g.further E)) alone of_further inner further_costs)

  listed_least : (xs : List Expr) → count (out.argument_list xs) ≤ suc (of_listed xs)
  listed_least [] = omega (arith, count-nil)
  listed_least (x ∷ xs) = omega (arith, arguments_count x xs)

  some_arguments : Costs (g.arguments E O) (λ p. count (out.argument_list p.1))
  unfolding g.arguments
  some_arguments =
      weaker (Then (nesting is.Open) (g.listed E <* token is.Shut)) (λ p. 1 + of_listed p.1) (λ p. count (out.argument_list p.1)) (λ p. omega (arith, listed_least p.1))
      (both (nesting is.Open) (g.listed E <* token is.Shut) (λ _. 1) of_listed (with_nestings is.Open is-Open) (before (g.listed E) (token is.Shut) of_listed listed_costs))

  arguments_costs : Costs (Maybe (g.arguments E O)) of_arguments
  unfolding Spells
  arguments_costs ts None h = omega arith
  arguments_costs ts (Some p) h = some_arguments ts p h

  pub named_costs : Costs (g.named E O) of_other
  unfolding Spells g.named
  named_costs ts x h =
      let l = h.2 in
      let r = l.4 in
      omega (arith, ap of_other h.1, ap count l.2, count-append l.0 l.1, ap count r.2, count-append r.0 r.1, arguments_costs r.0 h.0.1.0 r.3, by h.0.0 h.0.1.0 h.0.1.1 r.1 r.4)
    where
      by : (n : Name) (p : Option g.Arguments) (o : Option g.Suffix) (u : List Lexeme) → Perhaps (Spells (g.suffix E O)) u o → of_other (named_by (reference n p) o) ≤ of_arguments p + count u
      by n p None u k = omega (arith, reference_count n p a.Direct, count-nil)
      by n p (Some f) u k = suffix_named u f k n p
