use Rattle.std.proofs.Common.{◌≡◌, true, Some, None, get_or, take, drop, sym, ap, ◌∙◌}
use Rattle.lola_lexer.specs.declared.token.Token.{Token}
use Rattle.lola_parser_grammar.specs.Nestings.{nestings_in}
use Rattle.lola_parser_grammar.specs.Cursor.{lexemes}
use Rattle.lola_parser_grammar.specs.Grammar.{all_nestings}
use Rattle.lola_parser.specs.Looking.{is_nesting_shape}
use Rattle.lola_parser.specs.Places.{Cut, is_enclosed, nesting_or}
use Rattle.lola_parser.proofs.Cuts.{any_default, nestings_tell, cut_of, nestings_same, other_count, nesting_before}
use Rattle.lola_parser.proofs.reading.place_from.Goals as goal

pub returns-then-count_of_nestings-ne-MAX_NESTINGS : goal.returns-then-count_of_nestings-ne-MAX_NESTINGS
returns-then-count_of_nestings-ne-MAX_NESTINGS c = λ d.
    let front = take c.args.deep c.args.tokens.now in
    let u = lexemes c.args.bytes.now front in
    let back = lexemes c.args.bytes.now (drop c.args.deep c.args.tokens.now) in
    let head = lexemes c.args.bytes.now (drop c.in-Some.start front) in
    let other : nestings_in all_nestings head ≡ 512 → ⊥ = λ m. c.if-count_of_nestings-ne-MAX_NESTINGS.true (c.count_of_nestings.ensures ∙ nestings_same c.args.bytes.now (drop c.in-Some.start front) ∙ m) in
    ap (λ (t : Token). t.from) (any_default c.args.tokens.now c.args.deep _ d c.requires.stands)
    ∙ sym (other_count u back head (get_or c.args.tokens.now c.args.deep d).from (c.in-Some.ensures.is c.args.bytes.now) other)

pub returns-in-None : goal.returns-in-None
returns-in-None c = λ d.
    let front = take c.args.deep c.args.tokens.now in
    let u = lexemes c.args.bytes.now front in
    let back = lexemes c.args.bytes.now (drop c.args.deep c.args.tokens.now) in
    let head = lexemes c.args.bytes.now (drop c.in-Some.start front) in
    let own = (get_or c.args.tokens.now c.args.deep d).from in
    let many : nestings_in all_nestings head ≡ 512 = sym (nestings_same c.args.bytes.now (drop c.in-Some.start front)) ∙ sym c.count_of_nestings.ensures ∙ c.if-count_of_nestings-ne-MAX_NESTINGS.false in
    let closed : is_enclosed head back ≡ true = sym c.in_ok-is_enclosed.ensures ∙ c.if-not-branch.false in
    let none = cut_of all_nestings is_nesting_shape nestings_tell c.args.bytes.now front None c.in-None.ensures in
    ap (λ (t : Token). t.from) (any_default c.args.tokens.now c.args.deep _ d c.requires.stands)
    ∙ sym (nesting_before u back head own (c.in-Some.ensures.is c.args.bytes.now) many closed ∙ ap (λ (k : Cut). nesting_or k own) none)

pub returns-in-Some-last_nesting : goal.returns-in-Some-last_nesting
returns-in-Some-last_nesting c = λ d.
    let front = take c.args.deep c.args.tokens.now in
    let u = lexemes c.args.bytes.now front in
    let back = lexemes c.args.bytes.now (drop c.args.deep c.args.tokens.now) in
    let head = lexemes c.args.bytes.now (drop c.in-Some.start front) in
    let own = (get_or c.args.tokens.now c.args.deep d).from in
    let many : nestings_in all_nestings head ≡ 512 = sym (nestings_same c.args.bytes.now (drop c.in-Some.start front)) ∙ sym c.count_of_nestings.ensures ∙ c.if-count_of_nestings-ne-MAX_NESTINGS.false in
    let closed : is_enclosed head back ≡ true = sym c.in_ok-is_enclosed.ensures ∙ c.if-not-branch.false in
    let cut = cut_of all_nestings is_nesting_shape nestings_tell c.args.bytes.now front (Some c.in-Some-last_nesting.nesting) c.in-Some-last_nesting.ensures in
    sym (nesting_before u back head own (c.in-Some.ensures.is c.args.bytes.now) many closed ∙ ap (λ (k : Cut). nesting_or k own) (cut.1 _))
