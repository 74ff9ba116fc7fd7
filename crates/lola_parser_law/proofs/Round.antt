-- The round trip.
use Rattle.std.proofs.Common.{◌≡◌, ℕ, suc, ◌+◌, ◌≤◌, List, map, Ok, sym, ap, ◌∙◌, arith}
use Rattle.lola_parser_grammar.specs.declared.declarations.Declaration.{Declaration}
use Rattle.lola_parser_grammar.specs.Syntax.{Lexeme, max_nestings, read_all}
use Rattle.lola_parser_grammar.specs.Nestings.{Fits}
use Rattle.lola_parser_grammar.proofs.All.{fitting_is_read}
use Rattle.lola_parser_grammar.specs.Cursor.{lexemes}
use Rattle.lola_parser_grammar.specs.Grammar.{specification, all_nestings}
use Rattle.lola_parser_grammar.specs.Whole.{most_levels}
use Rattle.lola_parser_grammar.proofs.Fine.{specification_fine}
use Rattle.lola_parser_grammar.proofs.Depth.{specification_counted}
use Rattle.lola_parser_grammar.proofs.Levels.{read_alike}
use Rattle.lola_parser_print.specs.Print as out
use Rattle.lola_parser_print.specs.Print.{spelled_out}
use Rattle.lola_parser_law.specs.Erased as erased
use Rattle.lola_parser_law.specs.Places.{AreLexed, DifferInPlaces}
use Rattle.lola_parser_law.specs.Round.{PlacesAreFree, ReadIsWithin, IsPrintable, ReadIsPrintable, IsReprinted}
use Rattle.lola_parser_law.proofs.Carried.{alike_from, same_self}
use Rattle.lola_parser_law.proofs.Declarations.{specification_carried, same_erased, same_fit, same_lexed}
use Rattle.lola_parser_law.proofs.Cut.{cut_lexed, printed_cut}
use Rattle.lola_parser_law.proofs.Limited.{read_is_within}
use Rattle.lola_parser_law.proofs.Twice.{erased_twice}
use Rattle.lola_parser_law.proofs.Unplaced.{not_printed}
use Rattle.lola_parser_law.proofs.Limits.{specification_small}
use Rattle.lola_parser_law.proofs.Within.{specification_kept}

pub places_free : PlacesAreFree
places_free =
    record {
      spelled = λ n ts us same xs s.
          let r = (specification_carried ⊥ n).spelled ts us (alike_from ⊥ ts us same (λ w. absurd w)) xs s in
          (r.0, r.1, sym (same_erased ⊥ xs r.0 r.2));
      fitted = λ n ts us same xs s.
          let r = (specification_carried ⊥ n).fitted ts us (alike_from ⊥ ts us same (λ w. absurd w)) xs s in
          (r.0, r.1, sym (same_erased ⊥ xs r.0 r.2));
    }

enough : suc max_nestings ≤ most_levels
enough = omega arith

pub within : ReadIsWithin
within ts xs e = read_is_within all_nestings (specification most_levels) (specification_counted most_levels enough) ts xs e

printable : (n : ℕ) (ts : List Lexeme) (xs : List Declaration) → AreLexed ts → Fits all_nestings (specification n) ts xs → IsPrintable xs
printable n ts xs h s =
    let r = (specification_carried (Unit {0}) n).fitted ts ts (alike_from (Unit {0}) ts ts (same_self ts) (λ w. h)) xs s in
    record { fits = same_fit (Unit {0}) tt xs r.0 r.2; lexed = same_lexed (Unit {0}) tt xs r.0 r.2 }

pub read_printable : ReadIsPrintable
read_printable z xs h =
    printable most_levels (lexemes z h.tokens) xs (cut_lexed z h.tokens h.cut) (within (lexemes z h.tokens) xs h.read)

-- what is spelled within the limit, however many levels there are, is read
read_at_last : (n : ℕ) → most_levels ≤ n → (ts : List Lexeme) (xs : List Declaration) → Fits all_nestings (specification n) ts xs → read_all (specification most_levels) ts ≡ Ok xs
read_at_last n le ts xs h =
    let more : suc max_nestings ≤ n = omega (arith, le) in
    sym (read_alike n most_levels more enough ts) ∙ fitting_is_read all_nestings (specification n) (specification_fine n) (specification_counted n more) ts xs h

pub reprinted : IsReprinted
reprinted z xs h short =
    let p = read_printable z xs h in
    let m = p.fits.0 + most_levels in
    let s = specification_kept m xs (p.fits.1 m (omega arith)) (specification_small most_levels (lexemes z h.tokens) xs (within (lexemes z h.tokens) xs h.read)) in
    let cut = printed_cut (out.specification xs) p.lexed short in
    let r = places_free.fitted (suc m) (out.specification xs) (lexemes (spelled_out (out.specification xs)) cut.0) cut.2 (map erased.declaration xs) s in
    let same : DifferInPlaces xs r.0 = r.2 ∙ erased_twice xs in
    record {
      tree = r.0;
      read = record { tokens = cut.0; cut = cut.1; read = read_at_last (suc m) (omega arith) (lexemes (spelled_out (out.specification xs)) cut.0) r.0 r.1 };
      same = same;
      again = ap spelled_out (not_printed xs r.0 same);
    }
