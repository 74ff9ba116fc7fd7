use Rattle.std.proofs.Common.{rules, ◌≡◌, false}
use Rattle.lola_value.specs.Arithmetic.{is_within}
use Rattle.lola_save_read.proofs.ValueWords.{other-number}
use Rattle.lola_save_read.proofs.value.number_of_kind.Goals as goal

pub returns-else-is_within : goal.returns-else-is_within
returns-else-is_within c =
    let out : is_within c.args.kind c.in-Some.z ≡ false = search rules in
    other-number c.args.kind c.args.word.now c.in-Some.z c.in-Some.ensures.0 c.in-Some.ensures.1 out
