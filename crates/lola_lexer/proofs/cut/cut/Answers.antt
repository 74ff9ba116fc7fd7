use Rattle.std.proofs.Common.{◌≡◌, ◌≤◌, drop, length, sym, ap, ◌∙◌, arith, length-drop}
use Rattle.std.proofs.lemmas.List.{drop-drop, take_rest}
use Rattle.lola_lexer.specs.Lexical.{thing_at}
use Rattle.lola_lexer.specs.declared.scan.thing.Thing.TheVariants as thing
use Rattle.lola_lexer.specs.Tokens.{with_front}
use Rattle.lola_lexer.proofs.Goes.{gap_goes, token_goes, regroup}
use Rattle.lola_lexer.proofs.cut.cut.Goals as goal

pub loop-at-preserved-in-Gap : goal.loop-at-preserved-in-Gap
loop-at-preserved-in-Gap c =
    let z = drop c.loop-at.at c.args.bytes.now in
    let is : thing_at z ≡ thing.Gap c.in-Gap.len = ap thing_at (sym (take_rest c.args.bytes.now c.loop-at.at)) ∙ sym c.in-Gap.ensures.value in
    let within : c.in-Gap.len ≤ length z = rw (← take_rest) c.in-Gap.ensures.within.1 in
    let one = gap_goes z c.loop-at.at c.in-Gap.len is c.in-Gap.ensures.within.0 within in
    record {
      so_far = rw (← drop-drop) (ap (with_front c.loop-at.tokens) (sym one) ∙ c.loop-at.invariant.so_far);
      in_range = omega (arith, within, length-drop c.loop-at.at c.args.bytes.now);
    }

pub loop-at-preserved : goal.loop-at-preserved
loop-at-preserved c =
    let z = drop c.loop-at.at c.args.bytes.now in
    let is : thing_at z ≡ thing.Token c.in-Token.shape c.in-Token.len = ap thing_at (sym (take_rest c.args.bytes.now c.loop-at.at)) ∙ sym c.in-Token.ensures.value in
    let within : c.in-Token.len ≤ length z = rw (← take_rest) c.in-Token.ensures.within.1 in
    let one = token_goes z c.loop-at.at c.in-Token.len c.in-Token.shape is c.in-Token.ensures.within.0 within in
    record {
      so_far = rw (c.in_ok-push-in-Token.ensures.ok, ← drop-drop, regroup) (ap (with_front c.loop-at.tokens) (sym one) ∙ c.loop-at.invariant.so_far);
      in_range = omega (arith, within, length-drop c.loop-at.at c.args.bytes.now);
    }
