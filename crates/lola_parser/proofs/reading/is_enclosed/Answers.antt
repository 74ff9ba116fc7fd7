use Rattle.std.proofs.Common.{◌≡◌, ◌<◌, ◌≤◌, ◌&&◌, nat_lt, Bool, true, false, ◌∷◌, [], ◌++◌, length, take, drop, subst, sym, ap, ◌∙◌, arith}
use Rattle.std.proofs.lemmas.Bool.{lt-ltb, le-ltb}
use Rattle.lola_lexer.specs.declared.shape.TokenShape.TheVariants as is
use Rattle.lola_parser_grammar.specs.Syntax.{Of, starts}
use Rattle.lola_parser_grammar.specs.Cursor.{lexemes}
use Rattle.lola_parser.specs.Parts.{IsRecognized}
use Rattle.lola_parser.specs.Places.{is_enclosed}
use Rattle.lola_parser.proofs.Cuts.{around, left_from, missed, reached}
use Rattle.lola_parser.proofs.reading.is_enclosed.Goals as goal

first_and : (a b c : Bool) → c ≡ (a && b) → a ≡ true → b ≡ c
first_and a b c e h = sym (e ∙ ap (λ x. x && b) h)

none_and : (a b c : Bool) → c ≡ (a && b) → a ≡ false → false ≡ c
none_and a b c e h = sym (e ∙ ap (λ x. x && b) h)

pub returns-then-not-is_read : goal.returns-then-not-is_read
returns-then-not-is_read c =
    let head = lexemes c.args.bytes.now (drop c.args.start (take c.args.deep c.args.tokens.now)) in
    let d = lexemes c.args.bytes.now (drop c.args.deep c.args.tokens.now) in
    let e : head ++ d ≡ c.new-cursor.result = around c.args.bytes.now c.args.tokens.now c.args.deep c.args.start c.requires.begins ∙ sym c.new-cursor.ensures in
    let h = subst (λ b. IsRecognized c.new-cursor.result b c.expression_is_read.new.cursor) c.if-not-is_read.true c.in_ok-is_read.ensures in
    sym (missed head d c.new-cursor.result c.expression_is_read.new.cursor e h)

pub returns-then-left-tokens : goal.returns-then-left-tokens
returns-then-left-tokens c =
    let head = lexemes c.args.bytes.now (drop c.args.start (take c.args.deep c.args.tokens.now)) in
    let d = lexemes c.args.bytes.now (drop c.args.deep c.args.tokens.now) in
    let rest = c.expression_is_read.new.cursor in
    let e : head ++ d ≡ c.new-cursor.result = around c.args.bytes.now c.args.tokens.now c.args.deep c.args.start c.requires.begins ∙ sym c.new-cursor.ensures in
    let h = subst (λ b. IsRecognized c.new-cursor.result b rest) c.if-not-is_read.false c.in_ok-is_read.ensures in
    let many : length d ≤ length rest = omega (arith, left_from c.args.bytes.now c.args.tokens.now c.args.deep, c.left.ensures, c.if-left-tokens.true) in
    none_and (nat_lt (length rest) (length d)) (starts (Of is.Shut ∷ []) rest) (is_enclosed head d) (reached head d c.new-cursor.result rest e h) (le-ltb (length rest) (length d) many)

pub returns : goal.returns
returns c =
    let head = lexemes c.args.bytes.now (drop c.args.start (take c.args.deep c.args.tokens.now)) in
    let d = lexemes c.args.bytes.now (drop c.args.deep c.args.tokens.now) in
    let rest = c.expression_is_read.new.cursor in
    let e : head ++ d ≡ c.new-cursor.result = around c.args.bytes.now c.args.tokens.now c.args.deep c.args.start c.requires.begins ∙ sym c.new-cursor.ensures in
    let h = subst (λ b. IsRecognized c.new-cursor.result b rest) c.if-not-is_read.false c.in_ok-is_read.ensures in
    let few : length rest < length d = omega (arith, left_from c.args.bytes.now c.args.tokens.now c.args.deep, c.left.ensures, c.if-left-tokens.false) in
    c.sees.ensures ∙ first_and (nat_lt (length rest) (length d)) (starts (Of is.Shut ∷ []) rest) (is_enclosed head d) (reached head d c.new-cursor.result rest e h) (lt-ltb (length rest) (length d) few)
