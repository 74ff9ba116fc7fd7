-- Quantities are printed as they were written.
use Rattle.std.proofs.Common.{◌≡◌, ℕ, suc, ◌+◌, ◌-◌, ◌^◌, ◌≤◌, ◌<◌, Bool, true, false, not, ◌==◌, List, [], ◌∷◌, ◌++◌, length, take, drop, refl, sym, ap, subst, ◌∙◌, append_assoc, arith, length-append}
use Rattle.std.specs.Prelude.{fold, cond, codes}
use Rattle.std.specs.List.{prefix_len, slice_index, All, AllPass, Contains}
use Rattle.std.specs.Char.{is_ascii_digit, is_ascii_alphabetic}
use Rattle.std.specs.Fmt.{decimal}
use Rattle.std.proofs.lemmas.Bool.Decides.{nat_tests}
use Rattle.std.proofs.lemmas.List.{take_at, drop_at, drop_all}
use Rattle.std.proofs.lemmas.List.Elements.{All-head, All-tail, All-nil, All-cons, All-append, All-contains, All-weaker}
use Rattle.std.proofs.lemmas.List.Sums.{fold-append, sum_by-append, AllPass-from_list_all}
use Rattle.lola_lexer.specs.Spelling.{units, IsQuantity}
use Rattle.lola_lexer.specs.Spelling as lexical
use Rattle.lola_lexer.proofs.Runs.{run_whole}
use Rattle.lola_parser_grammar.specs.Syntax.{Lexeme}
use Rattle.lola_parser_grammar.specs.Literals.{with_digit, number_of, digits_in, before_point, before_letters, decimals_in, unit_named, unit_of}
use Rattle.lola_parser_grammar.specs.Grammar.{quantity_of}
use Rattle.lola_parser_print.specs.Print as out
use Rattle.lola_parser_print.specs.Print.{pointed, padded, unit_name}
use Rattle.lola_parser_law.specs.Erased.{QuantityReads}
use Rattle.lola_parser_law.proofs.Numbers.{value, fold_value, value_small, power_up, digits_back}

abbrev no_point : ℕ → Bool
no_point b = not (b == 46)

abbrev no_letter : ℕ → Bool
no_letter b = not (is_ascii_alphabetic b)

-- ---- what is known of a unit

record IsUnit (u : List ℕ) : Type 0 where
  pub skipped : (n : ℕ) → fold with_digit n u ≡ n
  pub no_digits : digits_in u ≡ 0
  pub no_points : AllPass no_point u
  pub letter : no_letter (slice_index u 0) ≡ false
  pub back : unit_name (unit_named u) ≡ u

units_known : All IsUnit units
units_known =
    All-cons IsUnit (codes "ns") (codes "us" ∷ codes "ms" ∷ codes "s" ∷ codes "min" ∷ codes "h" ∷ codes "d" ∷ codes "mHz" ∷ codes "Hz" ∷ codes "kHz" ∷ codes "MHz" ∷ []) (record { skipped = λ n. refl; no_digits = refl; no_points = AllPass-from_list_all no_point (codes "ns") refl; letter = refl; back = refl })
    (All-cons IsUnit (codes "us") (codes "ms" ∷ codes "s" ∷ codes "min" ∷ codes "h" ∷ codes "d" ∷ codes "mHz" ∷ codes "Hz" ∷ codes "kHz" ∷ codes "MHz" ∷ []) (record { skipped = λ n. refl; no_digits = refl; no_points = AllPass-from_list_all no_point (codes "us") refl; letter = refl; back = refl })
    (All-cons IsUnit (codes "ms") (codes "s" ∷ codes "min" ∷ codes "h" ∷ codes "d" ∷ codes "mHz" ∷ codes "Hz" ∷ codes "kHz" ∷ codes "MHz" ∷ []) (record { skipped = λ n. refl; no_digits = refl; no_points = AllPass-from_list_all no_point (codes "ms") refl; letter = refl; back = refl })
    (All-cons IsUnit (codes "s") (codes "min" ∷ codes "h" ∷ codes "d" ∷ codes "mHz" ∷ codes "Hz" ∷ codes "kHz" ∷ codes "MHz" ∷ []) (record { skipped = λ n. refl; no_digits = refl; no_points = AllPass-from_list_all no_point (codes "s") refl; letter = refl; back = refl })
    (All-cons IsUnit (codes "min") (codes "h" ∷ codes "d" ∷ codes "mHz" ∷ codes "Hz" ∷ codes "kHz" ∷ codes "MHz" ∷ []) (record { skipped = λ n. refl; no_digits = refl; no_points = AllPass-from_list_all no_point (codes "min") refl; letter = refl; back = refl })
    (All-cons IsUnit (codes "h") (codes "d" ∷ codes "mHz" ∷ codes "Hz" ∷ codes "kHz" ∷ codes "MHz" ∷ []) (record { skipped = λ n. refl; no_digits = refl; no_points = AllPass-from_list_all no_point (codes "h") refl; letter = refl; back = refl })
    (All-cons IsUnit (codes "d") (codes "mHz" ∷ codes "Hz" ∷ codes "kHz" ∷ codes "MHz" ∷ []) (record { skipped = λ n. refl; no_digits = refl; no_points = AllPass-from_list_all no_point (codes "d") refl; letter = refl; back = refl })
    (All-cons IsUnit (codes "mHz") (codes "Hz" ∷ codes "kHz" ∷ codes "MHz" ∷ []) (record { skipped = λ n. refl; no_digits = refl; no_points = AllPass-from_list_all no_point (codes "mHz") refl; letter = refl; back = refl })
    (All-cons IsUnit (codes "Hz") (codes "kHz" ∷ codes "MHz" ∷ []) (record { skipped = λ n. refl; no_digits = refl; no_points = AllPass-from_list_all no_point (codes "Hz") refl; letter = refl; back = refl })
    (All-cons IsUnit (codes "kHz") (codes "MHz" ∷ []) (record { skipped = λ n. refl; no_digits = refl; no_points = AllPass-from_list_all no_point (codes "kHz") refl; letter = refl; back = refl })
    (All-cons IsUnit (codes "MHz") [] (record { skipped = λ n. refl; no_digits = refl; no_points = AllPass-from_list_all no_point (codes "MHz") refl; letter = refl; back = refl })
    (All-nil IsUnit)))))))))))

unit_at : (u : List ℕ) → Contains units u → IsUnit u
unit_at u c = All-contains IsUnit units u units_known c

-- ---- digits

digit_no_point : (b : ℕ) → is_ascii_digit b ≡ true → no_point b ≡ true
digit_no_point b h = grind (arith, nat_tests)

digit_no_letter : (b : ℕ) → is_ascii_digit b ≡ true → no_letter b ≡ true
digit_no_letter b h = grind (arith, nat_tests)

all_so : (p q : ℕ → Bool) → ((b : ℕ) → p b ≡ true → q b ≡ true) → (w : List ℕ) → AllPass p w → AllPass q w
all_so p q f w all = All-weaker (λ b. p b ≡ true) (λ b. q b ≡ true) f w all

counted : (n : ℕ) (w : List ℕ) → AllPass is_ascii_digit w → fold (λ a x. a + cond (is_ascii_digit x) 1 0) n w ≡ n + length w
counted n [] all = omega arith
counted n (b ∷ w) all =
    let here : is_ascii_digit b ≡ true = All-head (λ x. is_ascii_digit x ≡ true) b w all in
    ap (λ x. fold (λ a x. a + cond (is_ascii_digit x) 1 0) (n + cond x 1 0) w) here
    ∙ counted (n + 1) w (All-tail (λ x. is_ascii_digit x ≡ true) b w all) ∙ omega arith

digits_counted : (w : List ℕ) → AllPass is_ascii_digit w → digits_in w ≡ length w
digits_counted w all = counted 0 w all ∙ omega arith

digits-append : (u v : List ℕ) → digits_in (u ++ v) ≡ digits_in u + digits_in v
digits-append u v = sum_by-append (λ x. cond (is_ascii_digit x) 1 0) u v

-- a run through all of it
run_through : (p : ℕ → Bool) (w : List ℕ) → AllPass p w → prefix_len p w ≡ length w
run_through p [] all = refl
run_through p (b ∷ w) all =
    let here : p b ≡ true = All-head (λ x. p x ≡ true) b w all in
    let more = run_through p w (All-tail (λ x. p x ≡ true) b w all) in
    rw here (omega (arith, more))

-- ---- the parts of a quantity's text

pointed_number : (f : List ℕ) (n : ℕ) → fold with_digit n (lexical.pointed f) ≡ fold with_digit n f
pointed_number [] n = refl
pointed_number (d ∷ f) n = refl

pointed_digits : (f : List ℕ) → digits_in (lexical.pointed f) ≡ digits_in f
pointed_digits [] = refl
pointed_digits (d ∷ f) = refl

pointed_letters : (f : List ℕ) → AllPass is_ascii_digit f → AllPass no_letter (lexical.pointed f)
pointed_letters [] all = All-nil (λ b. no_letter b ≡ true)
pointed_letters (d ∷ f) all = All-cons (λ b. no_letter b ≡ true) 46 (d ∷ f) refl (all_so is_ascii_digit no_letter digit_no_letter (d ∷ f) all)

number_is : (w f u : List ℕ) → IsUnit u → fold with_digit 0 (w ++ (lexical.pointed f ++ u)) ≡ fold with_digit 0 (w ++ f)
number_is w f u k =
    fold-append with_digit 0 w (lexical.pointed f ++ u) ∙ fold-append with_digit (fold with_digit 0 w) (lexical.pointed f) u
    ∙ k.skipped (fold with_digit (fold with_digit 0 w) (lexical.pointed f)) ∙ pointed_number f (fold with_digit 0 w) ∙ sym (fold-append with_digit 0 w f)

count_is : (w f u : List ℕ) → AllPass is_ascii_digit w → AllPass is_ascii_digit f → IsUnit u → digits_in (w ++ (lexical.pointed f ++ u)) ≡ length (w ++ f)
count_is w f u all more k =
    let one = digits-append w (lexical.pointed f ++ u) in
    let two = digits-append (lexical.pointed f) u in
    let three = pointed_digits f in
    omega (arith, one, two, three, digits_counted w all, digits_counted f more, k.no_digits, length-append w f)

decimals_is : (w f u : List ℕ) → AllPass is_ascii_digit w → AllPass is_ascii_digit f → IsUnit u → decimals_in (w ++ (lexical.pointed f ++ u)) ≡ length f
decimals_is w [] u all more k =
    let points : AllPass no_point (w ++ u) = All-append (λ b. no_point b ≡ true) w u (all_so is_ascii_digit no_point digit_no_point w all) k.no_points in
    ap digits_in (drop_all (before_point (w ++ u)) (w ++ u) (omega (arith, run_through no_point (w ++ u) points)))
decimals_is w (d ∷ f) u all more k =
    let at : before_point (w ++ (46 ∷ ((d ∷ f) ++ u))) ≡ length w = run_whole no_point w (46 ∷ ((d ∷ f) ++ u)) (all_so is_ascii_digit no_point digit_no_point w all) refl in
    ap digits_in (drop_at w (46 ∷ ((d ∷ f) ++ u)) (before_point (w ++ (46 ∷ ((d ∷ f) ++ u)))) (sym at)) ∙ digits-append (46 ∷ d ∷ f) u
    ∙ omega (arith, k.no_digits, digits_counted (d ∷ f) more, pointed_digits (d ∷ f))

letters_at : (u : List ℕ) → IsUnit u → no_letter (slice_index u 0) ≡ false
letters_at u k = k.letter

unit_is : (w f u : List ℕ) → AllPass is_ascii_digit w → AllPass is_ascii_digit f → IsUnit u → unit_of (w ++ (lexical.pointed f ++ u)) ≡ unit_named u
unit_is w f u all more k =
    let front = w ++ lexical.pointed f in
    let letters : AllPass no_letter front = All-append (λ b. no_letter b ≡ true) w (lexical.pointed f) (all_so is_ascii_digit no_letter digit_no_letter w all) (pointed_letters f more) in
    let at : before_letters (front ++ u) ≡ length front = run_whole no_letter front u letters k.letter in
    ap unit_of (sym (append_assoc w (lexical.pointed f) u)) ∙ ap unit_named (drop_at front u (before_letters (front ++ u)) (sym at))

-- with its point
pointed_is : (w f : List ℕ) → pointed (length f) (w ++ f) ≡ w ++ lexical.pointed f
pointed_is w [] = refl
pointed_is w (d ∷ f) =
    let long : length (w ++ (d ∷ f)) - suc (length f) ≡ length w = omega (arith, length-append w (d ∷ f)) in
    ap (λ n. take n (w ++ (d ∷ f)) ++ (46 ∷ drop n (w ++ (d ∷ f)))) long
    ∙ ap (λ l. l ++ (46 ∷ drop (length w) (w ++ (d ∷ f)))) (take_at w (d ∷ f) (length w) refl) ∙ ap (λ l. w ++ (46 ∷ l)) (drop_at w (d ∷ f) (length w) refl)

-- ---- the text

abbrev printed : ℕ → ℕ → ℕ → List ℕ → List ℕ
printed decimals count digits unit = pointed decimals (padded count (decimal digits)) ++ unit

record Parts (z : List ℕ) : Type 0 where
  pub same : printed (decimals_in z) (digits_in z) (number_of z) (unit_name (unit_of z)) ≡ z

parts : (w f u : List ℕ) → AllPass is_ascii_digit w → 0 < length w → AllPass is_ascii_digit f → length w + length f ≤ 38 → IsUnit u → Parts (w ++ (lexical.pointed f ++ u))
parts w f u all some more few k =
    let z = w ++ (lexical.pointed f ++ u) in
    let ds = w ++ f in
    let digits : AllPass is_ascii_digit ds = All-append (λ b. is_ascii_digit b ≡ true) w f all more in
    let long : length ds ≡ length w + length f = length-append w f in
    let small : value 0 ds < 10 ^ 38 = omega (arith, value_small ds digits, power_up (length ds) 38 (omega (arith, long, few))) in
    let number : number_of z ≡ value 0 ds = number_is w f u k ∙ fold_value 0 ds digits (omega (arith, small)) in
    let back : padded (length ds) (decimal (value 0 ds)) ≡ ds = digits_back ds digits (omega (arith, long, some)) (omega (arith, long, few)) in
    record {
      same =
          ap (λ n. printed n (digits_in z) (number_of z) (unit_name (unit_of z))) (decimals_is w f u all more k)
          ∙ ap (λ n. printed (length f) n (number_of z) (unit_name (unit_of z))) (count_is w f u all more k)
          ∙ ap (λ n. printed (length f) (length ds) n (unit_name (unit_of z))) number
          ∙ ap (λ x. printed (length f) (length ds) (value 0 ds) (unit_name x)) (unit_is w f u all more k)
          ∙ ap (λ l. printed (length f) (length ds) (value 0 ds) l) k.back
          ∙ ap (λ l. pointed (length f) l ++ u) back ∙ ap (λ l. l ++ u) (pointed_is w f) ∙ append_assoc w (lexical.pointed f) u;
    }

pub quantity_text : (t : Lexeme) → IsQuantity t.text → (out.quantity (quantity_of t)).text ≡ t.text
quantity_text t q =
    let p : Parts t.text = subst Parts (sym q.spelled) (parts q.whole q.fraction q.unit q.digits.1 q.digits.0 q.fraction_digits q.few (unit_at q.unit q.is_unit)) in
    p.same

pub quantity_read : (t : Lexeme) → IsQuantity t.text → QuantityReads (quantity_of t) × ((out.quantity (quantity_of t)).text ≡ t.text)
quantity_read t q =
    let same = quantity_text t q in
    (ap (λ (z : List ℕ). quantity_of (record { shape = t.shape; text = z; from = 0; to = 0 })) same, same)
