-- The places of what is out of range, form by form.
use Rattle.std.proofs.Common.{◌≡◌, ℕ, ◌+◌, ◌<◌, ◌≤◌, List, ◌++◌, Option, Result, Ok, Err, OnOk, length, get_or, drop, refl, sym, ap, ◌∙◌, append_assoc, append-nil}
use Rattle.std.specs.List.{flat_map}
use Rattle.std.proofs.lemmas.List.{at_drop_more, at_drop_all}
use Rattle.lola_parser_grammar.specs.declared.literals.Name.{Name}
use Rattle.lola_parser_grammar.specs.declared.expressions.Prefix.{Prefix}
use Rattle.lola_parser_grammar.specs.declared.expressions.Binary.{Binary}
use Rattle.lola_parser_grammar.specs.declared.expressions.Access.{Access}
use Rattle.lola_parser_grammar.specs.declared.expressions.Expr.{Expr, Row_of-Expr, more_of-Expr, end_of-Expr, items-the_row-Expr, items_hidden-the_row-Expr-0}
use Rattle.lola_parser_grammar.specs.declared.expressions.Expr.TheVariants as e
use Rattle.lola_parser_grammar.specs.declared.expressions.Expr.TheBlock as X
use mathlib.Core.Former.{Count}
use Rattle.lola_names.specs.Specification.{expr_ranges, argument_ranges, access_ranges}

pub ranges-Prefix : (op : Prefix) (at : ℕ) (x : Expr) → expr_ranges (e.Prefix op at x) ≡ expr_ranges x
unfolding X.shape-the_row-Expr-1 X.hidden-the_row-Expr-1 denote.Hole.Carrier.hidden denote.Hole.Carrier.shown denote.Hole.Carrier.roll denote.Hole.Carrier.out
ranges-Prefix op at x = refl

pub ranges-Defaults : (at : ℕ) (x y : Expr) → expr_ranges (e.Defaults at x y) ≡ expr_ranges x ++ expr_ranges y
unfolding X.shape-the_row-Expr-1 X.hidden-the_row-Expr-1 denote.Hole.Carrier.hidden denote.Hole.Carrier.shown denote.Hole.Carrier.roll denote.Hole.Carrier.out
ranges-Defaults at x y = refl

pub ranges-Binary : (op : Binary) (at : ℕ) (x y : Expr) → expr_ranges (e.Binary op at x y) ≡ expr_ranges x ++ expr_ranges y
unfolding X.shape-the_row-Expr-1 X.hidden-the_row-Expr-1 denote.Hole.Carrier.hidden denote.Hole.Carrier.shown denote.Hole.Carrier.roll denote.Hole.Carrier.out
ranges-Binary op at x y = refl

pub ranges-If : (at : ℕ) (x y z : Expr) → expr_ranges (e.If at x y z) ≡ expr_ranges x ++ (expr_ranges y ++ expr_ranges z)
unfolding X.shape-the_row-Expr-1 X.hidden-the_row-Expr-1 denote.Hole.Carrier.hidden denote.Hole.Carrier.shown denote.Hole.Carrier.roll denote.Hole.Carrier.out
ranges-If at x y z = refl

ranges_row : (n : _) (row : Row_of-Expr n) → argument_ranges row ≡ flat_map expr_ranges (items-the_row-Expr n row)
ranges_row n end_of-Expr = refl
ranges_row n (more_of-Expr x rest) = ap (λ l. expr_ranges x ++ l) (ranges_row _ rest)

abbrev row_of : Expr → (n : Count) × Row_of-Expr n
row_of (e.Reference' n bracket shape row how) = (_, row)
row_of _ = (_, end_of-Expr)

pub ranges-Reference : (n : Name) (b : Option ℕ) (xs : List Expr) (how : Access) → expr_ranges (e.Reference n b xs how) ≡ access_ranges how ++ flat_map expr_ranges xs
ranges-Reference n b xs how =
    let row = row_of (e.Reference n b xs how) in
    ap (λ l. access_ranges how ++ l) (ranges_row row.0 row.1 ∙ ap (flat_map expr_ranges) (items_hidden-the_row-Expr-0 xs))

-- some places, and then some more
pub ok_more : {A B : Type 0} (r : Result A B) (old mid new a b whole : List ℕ) → mid ≡ old ++ a → OnOk r (new ≡ mid ++ b) → a ++ b ≡ whole → OnOk r (new ≡ old ++ whole)
ok_more (Ok x) old mid new a b whole p q w = q ∙ ap (λ l. l ++ b) p ∙ append_assoc old a b ∙ ap (λ l. old ++ l) w
ok_more (Err x) old mid new a b whole p q w = tt

pub ok_same : {A B : Type 0} (r : Result A B) (old new a whole : List ℕ) → OnOk r (new ≡ old ++ a) → a ≡ whole → OnOk r (new ≡ old ++ whole)
ok_same (Ok x) old new a whole q w = q ∙ ap (λ l. old ++ l) w
ok_same (Err x) old new a whole q w = tt

pub more_then : (old mid new a b : List ℕ) → mid ≡ old ++ a → new ≡ mid ++ b → new ≡ old ++ (a ++ b)
more_then old mid new a b p q = q ∙ ap (λ l. l ++ b) p ∙ append_assoc old a b

-- a loop over what is left
pub places_turn : {A : Type 0} (g : A → List ℕ) (xs : List A) (i : ℕ) (x : A) (old new whole : List ℕ) → i < length xs → x ≡ get_or xs i x → new ≡ old ++ g x
    → old ++ flat_map g (drop i xs) ≡ whole → new ++ flat_map g (drop (i + 1) xs) ≡ whole
places_turn g xs i x old new whole within is more so_far =
    let others = drop (i + 1) xs in
    ap (λ l. l ++ flat_map g others) (more ∙ ap (λ y. old ++ g y) is) ∙ append_assoc old (g (get_or xs i x)) (flat_map g others)
    ∙ sym (at_drop_more (λ l. old ++ flat_map g l) xs i x within) ∙ so_far

pub places_end : {A : Type 0} (g : A → List ℕ) (xs : List A) (i : ℕ) (new whole : List ℕ) → length xs ≤ i → new ++ flat_map g (drop i xs) ≡ whole → new ≡ whole
places_end g xs i new whole all so_far = sym (append-nil new) ∙ sym (at_drop_all (λ l. new ++ flat_map g l) xs i all) ∙ so_far
