-- Tokens put one after the other.
use Rattle.std.proofs.Common.{◌≡◌, ℕ, suc, ◌+◌, ◌-◌, ◌≤◌, ◌<◌, Bool, true, false, List, [], ◌∷◌, ◌++◌, length, take, drop, Result, Ok, Err, OnOk, refl, sym, ap, ◌∙◌, append_assoc, append-nil, arith, get_or, true≢false}
use Rattle.std.specs.Prelude.{◌==◌}
use Rattle.std.specs.List.{flat_map}
use Rattle.std.proofs.lemmas.Grind.{flat_map-append}
use Rattle.std.proofs.Math.Seq.{take-length}
use Rattle.std.proofs.lemmas.List.{take_all}
use Rattle.std.proofs.lemmas.List.{take_more}
use Rattle.lola_lexer.specs.declared.shape.TokenShape.TheVariants as is
use Rattle.lola_parser_grammar.specs.declared.literals.Typed.{Typed}
use Rattle.lola_parser_grammar.specs.declared.clauses.Part.{Part}
use Rattle.lola_parser_grammar.specs.declared.expressions.Expr.{Expr}
use Rattle.lola_parser_grammar.specs.Syntax.{Lexeme}
use Rattle.lola_parser_print.specs.Print.{lex, bare, further_list, argument_list, listed, parameters, part, further_parts, with_parts, spelled_out, Adds, bracketed_if, opening, shutting}

pub ok_then : {A B : Type 0} (r : Result A B) (P Q : Type 0) → (P → Q) → OnOk r P → OnOk r Q
ok_then (Ok a) P Q f h = f h
ok_then (Err b) P Q f h = h

pub spelled-append : (a b : List Lexeme) → spelled_out (a ++ b) ≡ spelled_out a ++ spelled_out b
spelled-append [] b = refl
spelled-append (t ∷ a) b = ap (λ l. t.text ++ (32 ∷ l)) (spelled-append a b) ∙ sym (append_assoc t.text (32 ∷ spelled_out a) (spelled_out b))

-- first these, then those
pub adds_more : (old mid new : List ℕ) (a b : List Lexeme) → Adds a old mid → Adds b mid new → Adds (a ++ b) old new
adds_more old mid new a b h k =
    k ∙ ap (λ l. l ++ spelled_out b) h ∙ append_assoc old (spelled_out a) (spelled_out b) ∙ ap (λ l. old ++ l) (sym (spelled-append a b))

-- what stands in brackets, if it does
pub bracketed_parts : (b : Bool) (ts : List Lexeme) → bracketed_if b ts ≡ opening b ++ (ts ++ shutting b)
bracketed_parts true ts = refl
bracketed_parts false ts = sym (append-nil ts)

-- these bytes, and then those, unless the last call found no memory
pub ends_bytes : {A B : Type 0} (r : Result A B) (old mid new x y whole : List ℕ) → x ++ y ≡ whole → mid ≡ old ++ x → OnOk r (new ≡ mid ++ y)
    → OnOk r (new ≡ old ++ whole)
ends_bytes r old mid new x y whole is h k =
    ok_then r (new ≡ mid ++ y) (new ≡ old ++ whole) (λ e. e ∙ ap (λ l. l ++ y) h ∙ append_assoc old x y ∙ ap (λ l. old ++ l) is) k

pub ends_more : {A B : Type 0} (r : Result A B) (old mid new : List ℕ) (a b whole : List Lexeme) → a ++ b ≡ whole → Adds a old mid → OnOk r (Adds b mid new)
    → OnOk r (Adds whole old new)
ends_more r old mid new a b whole is h k =
    ends_bytes r old mid new (spelled_out a) (spelled_out b) (spelled_out whole) (sym (spelled-append a b) ∙ ap spelled_out is) h k

-- what stands in brackets round a part, if it does
pub fitted_parts : (b : Bool) (ts : List Lexeme) → (opening b ++ ts) ++ shutting b ≡ bracketed_if b ts
fitted_parts true ts = refl
fitted_parts false ts = append-nil ts

further-append : (xs : List Expr) (x : Expr) → further_list (xs ++ x ∷ []) ≡ further_list xs ++ (lex is.Comma ∷ bare x)
further-append [] x = ap (λ l. lex is.Comma ∷ l) (append-nil (bare x))
further-append (y ∷ ys) x = ap (λ l. lex is.Comma ∷ (bare y ++ l)) (further-append ys x) ∙ ap (λ l. lex is.Comma ∷ l) (sym (append_assoc (bare y) (further_list ys) (lex is.Comma ∷ bare x)))

-- one argument more
pub further_more : (xs : List Expr) (i : ℕ) (d : Expr) → i < length xs → further_list (take (i + 1) xs) ≡ further_list (take i xs) ++ (lex is.Comma ∷ bare (get_or xs i d))
further_more xs i d h = ap further_list (take_more xs i d h) ∙ further-append (take i xs) (get_or xs i d)

-- all arguments, by the first one and the others
pub args_whole : (xs : List Expr) (x : Expr) (i : ℕ) → false ≡ (length xs == 0) → x ≡ get_or xs 0 x → length (take (length xs - 1) (drop 1 xs)) ≤ i
    → ((lex is.Open ∷ bare x) ++ further_list (take i (take (length xs - 1) (drop 1 xs)))) ++ (lex is.Shut ∷ []) ≡ argument_list xs
args_whole [] x i some e all = absurd (true≢false (sym some))
args_whole (y ∷ ys) x i some e all =
    let less : suc (length ys) - 1 ≡ length ys = omega arith in
    let rest : take (suc (length ys) - 1) ys ≡ ys = ap (λ n. take n ys) less ∙ take-length ys in
    let many : length ys ≤ i = omega (arith, all, ap length rest) in
    let others : take i (take (suc (length ys) - 1) ys) ≡ ys = ap (take i) rest ∙ take_all i ys many in
    ap (λ l. ((lex is.Open ∷ bare x) ++ further_list l) ++ (lex is.Shut ∷ [])) others
    ∙ ap (λ z. ((lex is.Open ∷ bare z) ++ further_list ys) ++ (lex is.Shut ∷ [])) e
    ∙ ap (λ l. lex is.Open ∷ l) (append_assoc (bare y) (further_list ys) (lex is.Shut ∷ []))

-- one item more of those that are put one after the other
pub each_more : {A : Type 0} (g : A → List Lexeme) (xs : List A) (i : ℕ) (d : A) → i < length xs
    → flat_map g (take (i + 1) xs) ≡ flat_map g (take i xs) ++ g (get_or xs i d)
each_more g xs i d h =
    ap (flat_map g) (take_more xs i d h) ∙ flat_map-append g (take i xs) (get_or xs i d ∷ []) ∙ ap (λ l. flat_map g (take i xs) ++ l) (append-nil (g (get_or xs i d)))

pub bytes_more : (old mid new x y : List ℕ) → mid ≡ old ++ x → new ≡ mid ++ y → new ≡ old ++ (x ++ y)
bytes_more old mid new x y h k = k ∙ ap (λ l. l ++ y) h ∙ append_assoc old x y

pub some_parameters : (ts : List Typed) → false ≡ (length ts == 0) → (lex is.Open ∷ listed ts) ++ (lex is.Shut ∷ []) ≡ parameters ts
some_parameters [] some = absurd (true≢false (sym some))
some_parameters (t ∷ ts) some = refl

pub some_parts : (ps : List Part) (p : Part) → p ≡ get_or ps 0 p → 2 ≤ length ps
    → ((lex is.With ∷ part is.Open p) ++ further_parts (take (length ps - 1) (drop 1 ps))) ++ (lex is.Shut ∷ []) ≡ with_parts ps
some_parts [] p e many = absurd (omega (arith, many))
some_parts (x ∷ []) p e many = absurd (omega (arith, many))
some_parts (x ∷ y ∷ ps) p e many =
    let less : suc (suc (length ps)) - 1 ≡ suc (length ps) = omega arith in
    let rest : take (suc (suc (length ps)) - 1) (y ∷ ps) ≡ y ∷ ps = ap (λ n. take n (y ∷ ps)) less ∙ take-length (y ∷ ps) in
    ap (λ l. ((lex is.With ∷ part is.Open p) ++ further_parts l) ++ (lex is.Shut ∷ [])) rest
    ∙ ap (λ z. ((lex is.With ∷ part is.Open z) ++ further_parts (y ∷ ps)) ++ (lex is.Shut ∷ [])) e
    ∙ ap (λ l. lex is.With ∷ l) (append_assoc (part is.Open x) (further_parts (y ∷ ps)) (lex is.Shut ∷ []))
