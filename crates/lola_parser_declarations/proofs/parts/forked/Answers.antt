use Rattle.std.proofs.Common.{arith, ◌≡◌, suc, ◌-◌, ◌<◌, ◌∙◌, ap, true, false, List, [], ◌∷◌, Ok}
use Rattle.std.proofs.lemmas.Grind.{common_steps}
use Rattle.lola_lexer.specs.declared.shape.TokenShape.TheVariants as is
use Rattle.lola_parser_grammar.specs.Syntax.{Terminal, Of, starts, first, read, max_nestings}
use Rattle.lola_parser_grammar.specs.Grammar.{all_nestings, expr_in, more_parts, one_part, forked}
use Rattle.lola_parser_grammar.proofs.Fine.{more_parts_first, one_part_first}
use Rattle.lola_parser_declarations.proofs.Forks.{shorter, fork_list, fork_stops, fork_deep, fork_one}
use Rattle.lola_parser_declarations.proofs.parts.forked.Goals as goal

pub returns-then-sees : goal.returns-then-sees
unfolding forked
returns-then-sees c =
    let mid = c.nested.new.parser.rest in
    let h : read (expr_in 514) max_nestings c.args.parser.now.rest ≡ Ok (c.in_ok-first.first, c.nested.new.parser.room, mid) = rw (← c.begin.ensures.rest, ← c.begin.ensures.room) c.in_ok-first.ensures in
    let s0 : starts (Of is.Comma ∷ []) mid ≡ true = cc in
    let s : starts (first (more_parts 514)) mid ≡ true = ap (λ (ks : List Terminal). starts ks mid) (more_parts_first 514) ∙ s0 in
    rw (fork_list all_nestings (expr_in 514) (more_parts 514) (one_part 514) c.args.bracket c.args.with c.args.parser.now.room c.args.parser.now.rest c.in_ok-first.first c.nested.new.parser.room c.nested.new.parser.rest h s) c.more_parts.ensures

pub returns-then-not-sees : goal.returns-then-not-sees
unfolding forked
returns-then-not-sees c =
    let mid = c.nested.new.parser.rest in
    let h : read (expr_in 514) max_nestings c.args.parser.now.rest ≡ Ok (c.in_ok-first.first, c.nested.new.parser.room, mid) = rw (← c.begin.ensures.rest, ← c.begin.ensures.room) c.in_ok-first.ensures in
    let s0 : starts (Of is.Comma ∷ []) mid ≡ false = cc in
    let s : starts (first (more_parts 514)) mid ≡ false = ap (λ (ks : List Terminal). starts ks mid) (more_parts_first 514) ∙ s0 in
    let k0 : starts (Of is.Shut ∷ []) mid ≡ false = cc in
    let k : starts (first (one_part 514)) mid ≡ false = ap (λ (ks : List Terminal). starts ks mid) (one_part_first 514) ∙ k0 in
    fork_stops all_nestings (expr_in 514) (more_parts 514) (one_part 514) c.args.bracket c.args.with c.args.parser.now.room c.args.parser.now.rest c.in_ok-first.first c.nested.new.parser.room c.nested.new.parser.rest h s k

pub back_to_last_nesting-requires : goal.back_to_last_nesting-requires
back_to_last_nesting-requires c =
    let mid = c.nested.new.parser.rest in
    let h : read (expr_in 514) max_nestings c.args.parser.now.rest ≡ Ok (c.in_ok-first.first, c.nested.new.parser.room, mid) = rw (← c.begin.ensures.rest, ← c.begin.ensures.room) c.in_ok-first.ensures in
    rw c.fork-start.ensures (shorter (expr_in 514) max_nestings c.args.parser.now.rest c.in_ok-first.first c.nested.new.parser.room mid h)

pub returns-then-not-has_room : goal.returns-then-not-has_room
unfolding forked
returns-then-not-has_room c =
    let mid = c.nested.new.parser.rest in
    let h : read (expr_in 514) max_nestings c.args.parser.now.rest ≡ Ok (c.in_ok-first.first, c.nested.new.parser.room, mid) = rw (← c.begin.ensures.rest, ← c.begin.ensures.room) c.in_ok-first.ensures in
    let s0 : starts (Of is.Comma ∷ []) mid ≡ false = cc in
    let s : starts (first (more_parts 514)) mid ≡ false = ap (λ (ks : List Terminal). starts ks mid) (more_parts_first 514) ∙ s0 in
    let k0 : starts (Of is.Shut ∷ []) mid ≡ true = cc in
    let k : starts (first (one_part 514)) mid ≡ true = ap (λ (ks : List Terminal). starts ks mid) (one_part_first 514) ∙ k0 in
    let z : c.nested.new.parser.room ≡ 0 = grind (arith, common_steps) in
    rw (c.back_to_last_nesting.ensures.rest, c.fork-start.ensures) (fork_deep all_nestings (expr_in 514) (more_parts 514) (one_part 514) c.args.bracket c.args.with c.args.parser.now.room c.args.parser.now.rest c.in_ok-first.first c.nested.new.parser.room c.nested.new.parser.rest h s k z)

pub returns : goal.returns
unfolding forked
returns c =
    let mid = c.nested.new.parser.rest in
    let h : read (expr_in 514) max_nestings c.args.parser.now.rest ≡ Ok (c.in_ok-first.first, c.nested.new.parser.room, mid) = rw (← c.begin.ensures.rest, ← c.begin.ensures.room) c.in_ok-first.ensures in
    let s0 : starts (Of is.Comma ∷ []) mid ≡ false = cc in
    let s : starts (first (more_parts 514)) mid ≡ false = ap (λ (ks : List Terminal). starts ks mid) (more_parts_first 514) ∙ s0 in
    let k0 : starts (Of is.Shut ∷ []) mid ≡ true = cc in
    let k : starts (first (one_part 514)) mid ≡ true = ap (λ (ks : List Terminal). starts ks mid) (one_part_first 514) ∙ k0 in
    let z : 0 < c.nested.new.parser.room = grind (arith, common_steps) in
    let e : c.nested.new.parser.room ≡ suc (c.nested.new.parser.room - 1) = omega (arith, z) in
    rw (fork_one all_nestings (expr_in 514) (more_parts 514) (one_part 514) c.args.bracket c.args.with c.args.parser.now.room c.args.parser.now.rest c.in_ok-first.first c.nested.new.parser.room c.nested.new.parser.rest h (c.nested.new.parser.room - 1) s k e, ← c.spend.ensures.room, ← c.spend.ensures.rest) c.one_part.ensures
