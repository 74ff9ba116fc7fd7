-- Parts that are joined to what they follow, one after the other.
use Rattle.std.proofs.Common.{◌≡◌, ℕ, suc, Bool, true, false, cond, List, [], ◌∷◌, ◌++◌, length, Option, Some, None, Ok, Err, refl, sym, ap, ◌∙◌, append_assoc}
use Rattle.std.proofs.lemmas.List.{append-nil}
use Rattle.std.specs.Prelude.{fold}
use Rattle.lola_parser_grammar.specs.Syntax.{Lexeme, Terminal, Syntax, Then, Map, Maybe, Many, starts, first, nullable, Refusal, Outcome, ◌>>=◌, repeated, read}
use Rattle.lola_parser_grammar.proofs.Laws.{done_is}
use Rattle.lola_parser_grammar.specs.declared.expressions.Expr.{Expr}
use Rattle.lola_parser_grammar.specs.Grammar.{Operator, join, onto, folded, added, joined_once, nesting, operator, product_operators, sum_operators, comparison_operators, and_operators, or_operators}

-- what is joined to the left side from here on, in at most so many turns
abbrev pub goes_on : {A B : Type 0} → (B → A → B) → Syntax A → ℕ → B → ℕ → List Lexeme → Outcome B
goes_on f part n left m ts = repeated (read part) (first part) n m ts >>= λ xs i end. Ok (fold f left xs, i, end)

abbrev pub snoc : {A : Type 0} → List A → A → List A
snoc xs x = xs ++ x ∷ []

fold-snoc : {A : Type 0} (front xs : List A) → front ++ xs ≡ fold snoc front xs
fold-snoc front [] = append-nil front
fold-snoc front (x ∷ xs) = sym (append_assoc front (x ∷ []) xs) ∙ fold-snoc (front ++ x ∷ []) xs

module _ {A B : Type 0} (f : B → A → B) (part : Syntax A) where
  abbrev joining : B → List A → ℕ → List Lexeme → Outcome B
  joining left xs i end = Ok (fold f left xs, i, end)

  abbrev adding : A → List A → ℕ → List Lexeme → Outcome (List A)
  adding y xs i end = Ok (y ∷ xs, i, end)

  abbrev waiting : List A → ℕ → List Lexeme → Outcome (B → B)
  waiting xs i end = Ok ((λ left. fold f left xs), i, end)

  abbrev given : B → (B → B) → ℕ → List Lexeme → Outcome B
  given left g i end = Ok (g left, i, end)

  applied : (left : B) (o : Outcome (List A)) → ((o >>= waiting) >>= given left) ≡ (o >>= joining left)
  applied left (Ok p) = refl
  applied left (Err d) = refl

  pub tail_begins : (left : B) (m : ℕ) (ts : List Lexeme) → read (onto left (folded f part)) m ts ≡ goes_on f part (length ts) left m ts
  unfolding read
  tail_begins left m ts = applied left (repeated (read part) (first part) (length ts) m ts)

  after_turn : (left : B) (y : A) (o : Outcome (List A)) → ((o >>= adding y) >>= joining left) ≡ (o >>= joining (f left y))
  after_turn left y (Ok p) = refl
  after_turn left y (Err d) = refl

  module _ (n : ℕ) (left : B) (m : ℕ) (ts : List Lexeme) where
    pub goes_ends : starts (first part) ts ≡ false → goes_on f part (suc n) left m ts ≡ Ok (left, m, ts)
    goes_ends h = rw h refl

    pub goes_fails : (d : Refusal) → starts (first part) ts ≡ true → read part m ts ≡ Err d → goes_on f part (suc n) left m ts ≡ Err d
    goes_fails d h k = rw (h, k) refl

    pub goes_further : (y : A) (i : ℕ) (rest : List Lexeme) → starts (first part) ts ≡ true → read part m ts ≡ Ok (y, i, rest) → goes_on f part (suc n) left m ts ≡ goes_on f part n (f left y) i rest
    goes_further y i rest h k = rw (h, k) (after_turn left y (repeated (read part) (first part) n i rest))

-- the same of a list
listing : {A : Type 0} (front : List A) (o : Outcome (List A)) → (o >>= λ xs i end. Ok (front ++ xs, i, end)) ≡ (o >>= λ xs i end. Ok (fold snoc front xs, i, end))
listing front (Ok p) = ap (λ (xs : List _). Ok (xs, p.1, p.2)) (fold-snoc front p.0)
listing front (Err d) = refl

pub list_begins : {A : Type 0} (part : Syntax A) (front : List A) (m : ℕ) (ts : List Lexeme) → read (added front part) m ts ≡ goes_on snoc part (length ts) front m ts
unfolding read
list_begins part front m ts = listing front (repeated (read part) (first part) (length ts) m ts)

whole_list : {A : Type 0} (o : Outcome (List A)) → o ≡ (o >>= λ xs i end. Ok (fold snoc [] xs, i, end))
whole_list (Ok p) = ap (λ (xs : List _). Ok (xs, p.1, p.2)) (fold-snoc [] p.0)
whole_list (Err d) = refl

pub all_begins : {A : Type 0} (part : Syntax A) (m : ℕ) (ts : List Lexeme) → read (Many part) m ts ≡ goes_on snoc part (length ts) [] m ts
unfolding read
all_begins part m ts = whole_list (repeated (read part) (first part) (length ts) m ts)

-- ---- a part that is read, or none

abbrev some_of : {A : Type 0} → A → ℕ → List Lexeme → Outcome (Option A)
some_of y j end = Ok (Some y, j, end)

abbrev maybe_of : {A : Type 0} → Bool → Outcome A → ℕ → List Lexeme → Outcome (Option A)
maybe_of c o m ts = cond c (o >>= some_of) (Ok (None, m, ts))

pub maybe_some : {A : Type 0} (c : Bool) (o : Outcome A) (m : ℕ) (ts : List Lexeme) (x : A) (i : ℕ) (rest : List Lexeme) → maybe_of c o m ts ≡ Ok (Some x, i, rest) → (c ≡ true) × (o ≡ Ok (x, i, rest))
maybe_some true (Ok p) m ts x i rest h =
    let q = done_is (Some p.0) (Some x) p.1 i p.2 rest h in
    let s : p.0 ≡ x = (let w = q.0 in cc) in
    (refl, rw (s, q.1, q.2) refl)
maybe_some true (Err d) m ts x i rest h = absurd cc
maybe_some false o m ts x i rest h = absurd (let q = (done_is None (Some x) m i ts rest h).0 in cc)

pub maybe_none : {A : Type 0} (c : Bool) (o : Outcome A) (m : ℕ) (ts : List Lexeme) (i : ℕ) (rest : List Lexeme) → maybe_of c o m ts ≡ Ok (None, i, rest) → (c ≡ false) × (m ≡ i) × (ts ≡ rest)
maybe_none true (Ok p) m ts i rest h = absurd (let q = (done_is (Some p.0) None p.1 i p.2 rest h).0 in cc)
maybe_none true (Err d) m ts i rest h = absurd cc
maybe_none {A} false o m ts i rest h = let q = done_is {A = Option A} None None m i ts rest h in (refl, q.1, q.2)

pub maybe_err : {A : Type 0} (c : Bool) (o : Outcome A) (m : ℕ) (ts : List Lexeme) (d : Refusal) → maybe_of c o m ts ≡ Err d → (c ≡ true) × (o ≡ Err d)
maybe_err true (Ok p) m ts d h = absurd cc
maybe_err true (Err e) m ts d h = (refl, let q : e ≡ d = cc in ap (λ x. Err x) q)
maybe_err false o m ts d h = absurd cc

-- ---- one turn, by what was read of an operator and the operand behind it

abbrev pub operators_on : Syntax Operator → Syntax Expr → ℕ → Expr → ℕ → List Lexeme → Outcome Expr
operators_on operators operand n left m ts = goes_on join (Then operators operand) n left m ts

module _ (operators : Syntax Operator) (operand : Syntax Expr) (full : nullable operators ≡ false) (left : Expr) (m : ℕ) (ts : List Lexeme) where
  same_first : first (Then operators operand) ≡ first operators
  unfolding first
  same_first = rw full refl

  both_read : (s : Operator) (i : ℕ) (rest : List Lexeme) (x : Expr) (j : ℕ) (end : List Lexeme) → read operators m ts ≡ Ok (s, i, rest) → read operand i rest ≡ Ok (x, j, end) → read (Then operators operand) m ts ≡ Ok ((s, x), j, end)
  unfolding read
  both_read s i rest x j end h k = rw (h, k) refl

  operator_fails : (d : Refusal) → read operators m ts ≡ Err d → read (Then operators operand) m ts ≡ Err d
  unfolding read
  operator_fails d h = rw h refl

  operand_fails : (s : Operator) (i : ℕ) (rest : List Lexeme) (d : Refusal) → read operators m ts ≡ Ok (s, i, rest) → read operand i rest ≡ Err d → read (Then operators operand) m ts ≡ Err d
  unfolding read
  operand_fails s i rest d h k = rw (h, k) refl

  opens : starts (first operators) ts ≡ true → starts (first (Then operators operand)) ts ≡ true
  opens h = ap (λ (ks : List Terminal). starts ks ts) same_first ∙ h

  closes : starts (first operators) ts ≡ false → starts (first (Then operators operand)) ts ≡ false
  closes h = ap (λ (ks : List Terminal). starts ks ts) same_first ∙ h

  module _ (n : ℕ) where
    pub turn_ends : (i : ℕ) (rest : List Lexeme) → read (Maybe operators) m ts ≡ Ok (None, i, rest) → operators_on operators operand (suc n) left m ts ≡ Ok (left, i, rest)
    unfolding read
    turn_ends i rest h =
        let q = maybe_none (starts (first operators) ts) (read operators m ts) m ts i rest h in
        goes_ends join (Then operators operand) n left m ts (closes q.0) ∙ rw (q.1, q.2) refl

    pub turn_fails : (d : Refusal) → read (Maybe operators) m ts ≡ Err d → operators_on operators operand (suc n) left m ts ≡ Err d
    unfolding read
    turn_fails d h =
        let q = maybe_err (starts (first operators) ts) (read operators m ts) m ts d h in
        goes_fails join (Then operators operand) n left m ts d (opens q.0) (operator_fails d q.1)

    pub turn_breaks : (s : Operator) (i : ℕ) (rest : List Lexeme) (d : Refusal) → read (Maybe operators) m ts ≡ Ok (Some s, i, rest) → read operand i rest ≡ Err d → operators_on operators operand (suc n) left m ts ≡ Err d
    unfolding read
    turn_breaks s i rest d h k =
        let q = maybe_some (starts (first operators) ts) (read operators m ts) m ts s i rest h in
        goes_fails join (Then operators operand) n left m ts d (opens q.0) (operand_fails s i rest d q.1 k)

    pub turn_goes : (s : Operator) (i : ℕ) (rest : List Lexeme) (x : Expr) (j : ℕ) (end : List Lexeme) → read (Maybe operators) m ts ≡ Ok (Some s, i, rest) → read operand i rest ≡ Ok (x, j, end)
        → operators_on operators operand (suc n) left m ts ≡ operators_on operators operand n (join left (s, x)) j end
    unfolding read
    turn_goes s i rest x j end h k =
        let q = maybe_some (starts (first operators) ts) (read operators m ts) m ts s i rest h in
        goes_further join (Then operators operand) n left m ts (s, x) j end (opens q.0) (both_read s i rest x j end q.1 k)

  -- one more operand, or none
  abbrev pub once : Outcome Expr
  once = read (onto left (joined_once operators operand)) m ts

  pub once_ends : (i : ℕ) (rest : List Lexeme) → read (Maybe operators) m ts ≡ Ok (None, i, rest) → once ≡ Ok (left, i, rest)
  unfolding read
  once_ends i rest h =
      let q = maybe_none (starts (first operators) ts) (read operators m ts) m ts i rest h in
      rw (closes q.0, q.1, q.2) refl

  pub once_fails : (d : Refusal) → read (Maybe operators) m ts ≡ Err d → once ≡ Err d
  unfolding read
  once_fails d h =
      let q = maybe_err (starts (first operators) ts) (read operators m ts) m ts d h in
      rw (opens q.0, q.1) refl

  pub once_breaks : (s : Operator) (i : ℕ) (rest : List Lexeme) (d : Refusal) → read (Maybe operators) m ts ≡ Ok (Some s, i, rest) → read operand i rest ≡ Err d → once ≡ Err d
  unfolding read
  once_breaks s i rest d h k =
      let q = maybe_some (starts (first operators) ts) (read operators m ts) m ts s i rest h in
      rw (opens q.0, q.1, k) refl

  pub once_goes : (s : Operator) (i : ℕ) (rest : List Lexeme) (x : Expr) (j : ℕ) (end : List Lexeme) → read (Maybe operators) m ts ≡ Ok (Some s, i, rest) → read operand i rest ≡ Ok (x, j, end) → once ≡ Ok (join left (s, x), j, end)
  unfolding read
  once_goes s i rest x j end h k =
      let q = maybe_some (starts (first operators) ts) (read operators m ts) m ts s i rest h in
      rw (opens q.0, q.1, k) refl

pub product_full : nullable product_operators ≡ false
unfolding nullable product_operators operator nesting
product_full = refl

pub sum_full : nullable sum_operators ≡ false
unfolding nullable sum_operators operator nesting
sum_full = refl

pub comparison_full : nullable comparison_operators ≡ false
unfolding nullable comparison_operators operator nesting
comparison_full = refl

pub and_full : nullable and_operators ≡ false
unfolding nullable and_operators operator nesting
and_full = refl

pub or_full : nullable or_operators ≡ false
unfolding nullable or_operators operator nesting
or_full = refl

-- ---- something read by a function, and then what follows it

abbrev at_point : {A B : Type 0} → A → Syntax (A → B) → Syntax B
at_point x s = Map (λ g. g x) s

abbrev chained : {A B : Type 0} → Syntax (A → B) → Syntax (B → B) → Syntax (A → B)
chained a b = Map (λ p n. p.1 (p.0 n)) (Then a b)

module _ {A B : Type 0} (x : A) where
  abbrev applying : (A → B) → ℕ → List Lexeme → Outcome B
  applying g i end = Ok (g x, i, end)

  abbrev pairing : (A → B) → (B → B) → ℕ → List Lexeme → Outcome ((A → B) × (B → B))
  pairing g h j end = Ok ((g, h), j, end)

  abbrev composing : (A → B) × (B → B) → ℕ → List Lexeme → Outcome (A → B)
  composing p j end = Ok ((λ n. p.1 (p.0 n)), j, end)

  abbrev onward : B → (B → B) → ℕ → List Lexeme → Outcome B
  onward y h j end = Ok (h y, j, end)

  after_both : (g : A → B) (o : Outcome (B → B)) → (((o >>= pairing g) >>= composing) >>= applying) ≡ (o >>= onward (g x))
  after_both g (Ok p) = refl
  after_both g (Err d) = refl

  by_first : (b : Syntax (B → B)) (o : Outcome (A → B)) (y : B) (i : ℕ) (rest : List Lexeme) → (o >>= applying) ≡ Ok (y, i, rest)
      → (((o >>= λ g j mid. read b j mid >>= pairing g) >>= composing) >>= applying) ≡ (read b i rest >>= onward y)
  by_first b (Ok p) y i rest h = let q = done_is (p.0 x) y p.1 i p.2 rest h in after_both p.0 (read b p.1 p.2) ∙ rw (q.0, q.1, q.2) refl
  by_first b (Err d) y i rest h = absurd cc

  pub in_sequence : (a : Syntax (A → B)) (b : Syntax (B → B)) (m : ℕ) (ts : List Lexeme) (y : B) (i : ℕ) (rest : List Lexeme) → read (at_point x a) m ts ≡ Ok (y, i, rest) → read (at_point x (chained a b)) m ts ≡ read (onto y b) i rest
  unfolding read
  in_sequence a b m ts y i rest h = by_first b (read a m ts) y i rest h
