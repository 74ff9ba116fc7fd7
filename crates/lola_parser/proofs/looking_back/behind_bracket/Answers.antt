use Rattle.std.proofs.Common.{◌≡◌, ℕ, ◌+◌, suc, true, false, Some, None, List, take, drop, [], ◌∷◌, get_or, sym, ap, ◌∙◌, arith}
use Rattle.lola_lexer.specs.declared.shape.TokenShape.TheVariants as is
use Rattle.lola_lexer.specs.declared.token.Token.{Token}
use Rattle.lola_parser_grammar.specs.Syntax.{Of, starts}
use Rattle.lola_parser_grammar.specs.Cursor.{lexeme, lexemes}
use Rattle.lola_parser.specs.Looking.{is_either, IsLast}
use Rattle.lola_parser.specs.Places.{clause_words, cut_last, is_spawn, behind_with}
use Rattle.lola_parser.proofs.Cuts.{one_tells, cut_of, not_spawn, not_open, found, starts_within}
use Rattle.lola_parser.proofs.looking_back.behind_bracket.Goals as goal

-- the text cut at that `with`
cut : (bytes : List ℕ) (ts : List Token) (w : ℕ) (d : Token) → IsLast (is_either is.With is.With) ts (Some w)
    → cut_last (Of is.With ∷ []) (lexemes bytes ts) ≡ Some (lexemes bytes (take w ts), lexeme bytes (get_or ts w d), lexemes bytes (drop (suc w) ts))
cut bytes ts w d h = (cut_of (Of is.With ∷ []) (is_either is.With is.With) (one_tells is.With) bytes ts (Some w) h).1 d

none : Token
none = record { shape = is.With; from = 0; to = 0 }

pub returns-in_default-clause-is : goal.returns-in_default-clause-is
returns-in_default-clause-is c = λ bytes. ap behind_with (cut_of (Of is.With ∷ []) (is_either is.With is.With) (one_tells is.With) bytes c.args.tokens.now None c.in_default.ensures)

pub returns-then-not-is_spawn-clause-is : goal.returns-then-not-is_spawn-clause-is
returns-then-not-is_spawn-clause-is c = λ bytes.
    let h : is_spawn (cut_last clause_words (lexemes bytes (take c.in-Some.with c.args.tokens.now))) ≡ false = sym (c.is_spawn.ensures bytes) ∙ c.if-not-is_spawn.true in
    not_spawn bytes c.args.tokens.now c.in-Some.with _ (cut bytes c.args.tokens.now c.in-Some.with none c.in-Some.ensures) h

pub returns-then-not-is_open-clause-is : goal.returns-then-not-is_open-clause-is
returns-then-not-is_open-clause-is c = λ bytes.
    let h : is_spawn (cut_last clause_words (lexemes bytes (take c.in-Some.with c.args.tokens.now))) ≡ true = sym (c.is_spawn.ensures bytes) ∙ c.if-not-is_spawn.false in
    let i : starts (Of is.Open ∷ []) (lexemes bytes (drop (c.in-Some.with + 1) c.args.tokens.now)) ≡ false = sym (c.is_open.ensures bytes) ∙ c.if-not-is_open.true in
    not_open bytes c.args.tokens.now c.in-Some.with _ (cut bytes c.args.tokens.now c.in-Some.with none c.in-Some.ensures) h i

pub returns-clause-within : goal.returns-clause-within
returns-clause-within c =
    let i : starts (Of is.Open ∷ []) (lexemes [] (drop (c.in-Some.with + 1) c.args.tokens.now)) ≡ true = sym (c.is_open.ensures []) ∙ c.if-not-is_open.false in
    let less = starts_within (Of is.Open ∷ []) [] c.args.tokens.now (c.in-Some.with + 1) i in
    omega (arith, less)

pub returns-clause-is : goal.returns-clause-is
returns-clause-is c = λ bytes.
    let h : is_spawn (cut_last clause_words (lexemes bytes (take c.in-Some.with c.args.tokens.now))) ≡ true = sym (c.is_spawn.ensures bytes) ∙ c.if-not-is_spawn.false in
    let i : starts (Of is.Open ∷ []) (lexemes bytes (drop (c.in-Some.with + 1) c.args.tokens.now)) ≡ true = sym (c.is_open.ensures bytes) ∙ c.if-not-is_open.false in
    found bytes c.args.tokens.now c.in-Some.with _ (cut bytes c.args.tokens.now c.in-Some.with none c.in-Some.ensures) h i
