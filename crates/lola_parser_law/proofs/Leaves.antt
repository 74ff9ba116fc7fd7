-- Names and literals: at other places, and what is printed of them.
use Rattle.std.proofs.Common.{◌≡◌, ℕ, ◌+◌, ◌%◌, ◌^◌, ◌≤◌, ◌<◌, Bool, true, false, not, List, [], ◌∷◌, ◌++◌, length, refl, sym, ap, subst, arith, length-append}
use Rattle.std.specs.Char.{is_ascii_digit}
use Rattle.std.specs.Fmt.{decimal}
use Rattle.std.proofs.lemmas.Bool.Decides.{nat_tests}
use Rattle.std.proofs.lemmas.Fmt.{decimal_by_steps_wide, length-decimal-le_wide}
use Rattle.std.proofs.lemmas.List.Elements.{All-nil, All-cons, All-append}
use Rattle.std.proofs.lemmas.Bool.{and_parts}
use Rattle.lola_lexer.specs.declared.shape.TokenShape.{TokenShape}
use Rattle.lola_lexer.specs.declared.shape.TokenShape.TheVariants as is
use Rattle.lola_lexer.specs.Spelling.{IsWord, IsDigits, IsQuantity, IsToken}
use Rattle.lola_lexer.specs.Lexical.{shape_of_word}
use Rattle.lola_lexer.proofs.Words.{word_shape}
use Rattle.lola_parser_grammar.specs.declared.literals.Name.{Name}
use Rattle.lola_parser_grammar.specs.declared.literals.Quantity.{Quantity}
use Rattle.lola_parser_grammar.specs.declared.literals.Literal.{Literal}
use Rattle.lola_parser_grammar.specs.declared.literals.Value.{Value}
use Rattle.lola_parser_grammar.specs.declared.literals.Value.TheVariants as value
use Rattle.lola_parser_grammar.specs.Syntax.{Lexeme, Of, Other, fits, same_shape, is_among, Token, Then, Map}
use Rattle.lola_parser_grammar.proofs.Tests.{shape_is}
use Rattle.lola_parser_grammar.specs.Literals.{number_of, text_of_literal}
use Rattle.lola_parser_grammar.specs.Grammar as g
use Rattle.lola_parser_grammar.specs.Grammar.{quantity_of}
use Rattle.lola_parser_print.specs.Print as out
use Rattle.lola_parser_print.specs.Print.{lex}
use Rattle.lola_parser_law.specs.Erased as erased
use Rattle.lola_parser_law.specs.Erased.{IntegerReads, QuantityReads, ValueReads}
use Rattle.lola_parser_law.specs.Places.{IsLexed, AreLexed}
use Rattle.lola_parser_law.proofs.Carried.{Carries, Any, Both, SameToken, token_carried, token_any, map_carried, then_carried, either_carried}
use Rattle.lola_parser_law.proofs.Numbers.{number_read, value, fold_value, value_small, power_up}
use Rattle.lola_parser_law.proofs.Quantities.{quantity_read}
use Rattle.lola_parser_law.proofs.Texts.{text_read, text_token}

-- ---- tokens that are printed

pub lexed-append : (u v : List Lexeme) → AreLexed u → AreLexed v → AreLexed (u ++ v)
lexed-append [] v h k = k
lexed-append (t ∷ u) v h k = (h.0, lexed-append u v h.1 k)

pub lexed_front : (u v : List Lexeme) → AreLexed (u ++ v) → AreLexed u
lexed_front [] v h = tt
lexed_front (t ∷ u) v h = (h.0, lexed_front u v h.1)

pub lexed_back : (u v : List Lexeme) → AreLexed (u ++ v) → AreLexed v
lexed_back [] v h = h
lexed_back (t ∷ u) v h = lexed_back u v h.1

pub word_lexed : (w : List ℕ) → IsWord w → shape_of_word w ≡ is.Name → IsLexed (out.word w)
word_lexed w h e = subst (λ (s : TokenShape). IsToken s w) e (word_shape w h).0

pub lexed_bracketed : (ts : List Lexeme) → AreLexed ts → AreLexed (out.bracketed ts)
lexed_bracketed ts h = (refl, lexed-append ts (lex is.Shut ∷ []) h (refl, tt))

pub lexed_if : (b : Bool) (ts : List Lexeme) → AreLexed ts → AreLexed (out.bracketed_if b ts)
lexed_if true ts h = lexed_bracketed ts h
lexed_if false ts h = h

-- ---- which shape a token has

of_shape : (s : TokenShape) (t : Lexeme) → fits (Of s) t ≡ true → s ≡ t.shape
unfolding fits
of_shape s t h = shape_is s t.shape h

other_shape : (ws : List (List ℕ)) (t : Lexeme) → fits (Other ws) t ≡ true → is.Name ≡ t.shape
unfolding fits
other_shape ws t h = shape_is is.Name t.shape (and_parts (same_shape is.Name t.shape) (not (is_among t.text ws)) h).0

shaped : (s : TokenShape) (t : Lexeme) → s ≡ t.shape → IsLexed t → IsToken s t.text
shaped s t e h = subst (λ (r : TokenShape). IsToken r t.text) (sym e) h

module _ (W : Type 0) where
  -- ---- names

  pub record SameName (n m : Name) : Type 0 where
    pub text : n.text ≡ m.text
    pub lexed : W → IsLexed (out.name n)

  pub erased_name : (n m : Name) → SameName n m → erased.name n ≡ erased.name m
  erased_name n m h = ap (λ (z : List ℕ). record { text = z; at = 0 }) h.text

  pub name_carried : Carries W SameName g.name
  unfolding g.name
  name_carried =
      map_carried W (SameToken W (Of is.Name)) SameName g.name_of (Token (Of is.Name))
      (λ x y r. record { text = r.0.same.text; lexed = λ w. shaped is.Name x (of_shape is.Name x r.1) (r.0.lexed w) }) (token_carried W (Of is.Name))

  pub other_name_carried : (ws : List (List ℕ)) → Carries W SameName (g.other_name ws)
  unfolding g.other_name
  other_name_carried ws =
      map_carried W (SameToken W (Other ws)) SameName g.name_of (Token (Other ws))
      (λ x y r. record { text = r.0.same.text; lexed = λ w. shaped is.Name x (other_shape ws x r.1) (r.0.lexed w) }) (token_carried W (Other ws))

-- ---- integers

abbrev pub IntegerIs : ℕ → Type 0
IntegerIs n = IntegerReads n × IsLexed (out.integer n)

digit_is : (d : ℕ) → d < 10 → is_ascii_digit (48 + d) ≡ true
digit_is d h = grind (arith, nat_tests)

decimal_digits : (n : ℕ) → n < 10 ^ 64 → IsDigits (decimal n)
decimal_digits n small = decimal_by_steps_wide (λ m ds. IsDigits ds) one more n small
  where
    one : (m : ℕ) → m < 10 → IsDigits ((48 + m) ∷ [])
    one m h = (omega arith, All-cons (λ b. is_ascii_digit b ≡ true) (48 + m) [] (digit_is m h) (All-nil (λ b. is_ascii_digit b ≡ true)))

    more : (m : ℕ) (ds : List ℕ) → 10 ≤ m → IsDigits ds → IsDigits (ds ++ ((48 + m % 10) ∷ []))
    more m ds l h = (
      omega (arith, length-append ds ((48 + m % 10) ∷ []), h.0),
      All-append (λ b. is_ascii_digit b ≡ true) ds ((48 + m % 10) ∷ []) h.1
          (All-cons (λ b. is_ascii_digit b ≡ true) (48 + m % 10) [] (digit_is (m % 10) (omega arith)) (All-nil (λ b. is_ascii_digit b ≡ true))),
    )

pub integer_is : (n : ℕ) → n < 10 ^ 38 → IntegerIs n
integer_is n small = (
  number_read n (omega (arith, small)),
  (decimal_digits n (omega (arith, small)), length-decimal-le_wide 38 n (omega arith) small (omega (arith, small))),
)

number_small : (w : List ℕ) → IsDigits w → length w ≤ 38 → number_of w < 10 ^ 38
number_small w h few =
    let small : value 0 w < 10 ^ 38 = omega (arith, value_small w h.1, power_up (length w) 38 few) in
    omega (arith, fold_value 0 w h.1 (omega (arith, small)), small)

module _ (W : Type 0) where
  pub record SameInteger (p q : ℕ × ℕ) : Type 0 where
    pub number : p.0 ≡ q.0
    pub known : W → IntegerIs p.0

  integer_known : (t : Lexeme) → fits (Of is.Integer) t ≡ true → IsLexed t → IntegerIs (number_of t.text)
  integer_known t e h = let k = shaped is.Integer t (of_shape is.Integer t e) h in integer_is (number_of t.text) (number_small t.text k.0 k.1)

  pub integer_carried : Carries W SameInteger g.integer
  unfolding g.integer
  integer_carried =
      map_carried W (SameToken W (Of is.Integer)) SameInteger g.number_with_place (Token (Of is.Integer))
      (λ x y r. record { number = ap number_of r.0.same.text; known = λ w. integer_known x r.1 (r.0.lexed w) }) (token_carried W (Of is.Integer))

-- ---- quantities

abbrev pub QuantityIs : Quantity → Type 0
QuantityIs q = QuantityReads q × IsLexed (out.quantity q)

quantity_is : (t : Lexeme) → IsQuantity t.text → QuantityIs (quantity_of t)
quantity_is t h = let r = quantity_read t h in (r.0, subst IsQuantity (sym r.1) h)

module _ (W : Type 0) where
  pub record SameQuantity (p q : Quantity) : Type 0 where
    pub erased : erased.quantity p ≡ erased.quantity q
    pub known : W → QuantityIs p

  pub quantity_carried : Carries W SameQuantity g.quantity
  unfolding g.quantity
  quantity_carried =
      map_carried W (SameToken W (Of is.Quantity)) SameQuantity quantity_of (Token (Of is.Quantity))
      (λ x y r. record {
        erased = ap (λ (z : List ℕ). quantity_of (record { shape = is.Quantity; text = z; from = 0; to = 0 })) r.0.same.text;
        known = λ w. quantity_is x (shaped is.Quantity x (of_shape is.Quantity x r.1) (r.0.lexed w));
      }) (token_carried W (Of is.Quantity))

-- ---- texts

module _ (W : Type 0) where
  pub record SameText (p q : List ℕ × ℕ) : Type 0 where
    pub text : p.0 ≡ q.0
    pub lexed : W → IsLexed (out.text p.0)

  pub text_carried : Carries W SameText g.text
  unfolding g.text
  text_carried =
      map_carried W (SameToken W (Of is.Text)) SameText g.text_with_place (Token (Of is.Text))
      (λ x y r. record { text = ap text_of_literal r.0.same.text; lexed = λ w. text_token x.text (shaped is.Text x (of_shape is.Text x r.1) (r.0.lexed w)) })
      (token_carried W (Of is.Text))

-- ---- literals

abbrev pub ValueIs : Value → Type 0
ValueIs v = ValueReads v × AreLexed (out.literal v)

module _ (W : Type 0) where
  pub record SameLiteral (l m : Literal) : Type 0 where
    pub value : l.value ≡ m.value
    pub known : W → ValueIs l.value

  pub erased_literal : (l m : Literal) → SameLiteral l m → erased.literal l ≡ erased.literal m
  erased_literal l m h = ap (λ (v : Value). record { value = v; at = 0 }) h.value

  integer_value : (b : Bool) (n : ℕ) → IntegerIs n → ValueIs (value.Integer b n)
  integer_value true n h = (h.0, (refl, (h.1, tt)))
  integer_value false n h = (h.0, (h.1, tt))

  truth_value : (b : Bool) → ValueIs (value.Truth b)
  truth_value true = (tt, (refl, tt))
  truth_value false = (tt, (refl, tt))

  pub same_number : (b : Bool) (p q : ℕ × ℕ) (at at' : ℕ) → SameInteger W p q → SameLiteral (g.whole_number b p.0 at) (g.whole_number b q.0 at')
  same_number b p q at at' r = record { value = ap (λ n. value.Integer b n) r.number; known = λ w. integer_value b p.0 (r.known w) }

  pub same_truth : (b : Bool) (at at' : ℕ) → SameLiteral (g.truth_at b at) (g.truth_at b at')
  same_truth b at at' = record { value = refl; known = λ w. truth_value b }

  pub word_literal_carried : Carries W SameLiteral g.word_literal
  unfolding g.word_literal
  word_literal_carried =
      either_carried W SameLiteral (Map (g.truth_at true) (g.token is.True)) _
      (map_carried W Any SameLiteral (g.truth_at true) (g.token is.True) (λ x y r. same_truth true x y) (token_any W is.True))
      (either_carried W SameLiteral (Map (g.truth_at false) (g.token is.False)) (Map g.text_at g.text)
      (map_carried W Any SameLiteral (g.truth_at false) (g.token is.False) (λ x y r. same_truth false x y) (token_any W is.False))
      (map_carried W (SameText W) SameLiteral g.text_at g.text
      (λ x y r. record { value = ap (λ z. value.Text z) r.text; known = λ w. (text_read x.0, (r.lexed w, tt)) }) (text_carried W)))

  pub literal_carried : Carries W SameLiteral g.literal
  unfolding g.literal
  literal_carried =
      either_carried W SameLiteral (Map (λ p. g.whole_number false p.0 p.1) g.integer) _
      (map_carried W (SameInteger W) SameLiteral (λ p. g.whole_number false p.0 p.1) g.integer (λ x y r. same_number false x y x.1 y.1 r) (integer_carried W))
      (either_carried W SameLiteral (Map (λ p. g.whole_number true p.1.0 p.0) (Then (g.token is.Minus) g.integer)) g.word_literal
      (map_carried W (Both Any (SameInteger W)) SameLiteral (λ p. g.whole_number true p.1.0 p.0) (Then (g.token is.Minus) g.integer)
      (λ x y r. same_number true x.1 y.1 x.0 y.0 r.1) (then_carried W Any (SameInteger W) (g.token is.Minus) g.integer (token_any W is.Minus) (integer_carried W)))
      word_literal_carried)
