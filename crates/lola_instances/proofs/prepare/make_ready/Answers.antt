use Rattle.std.proofs.Common.{◌≡◌, ◌<◌, ◌∙◌, length, Some, slice_get, refl, arith, sym, subst}
use Rattle.std.proofs.lemmas.Option.{slice_get_read, slice_get_within}
use Rattle.lola_instances_stream.proofs.Lists.{same_set}
use Rattle.lola_instances.specs.Rooms.{IsKept, IsReady}
use Rattle.lola_instances.proofs.Preparing.{all_kept, kept_set, prepared_ready, plain_at, some_same}
use Rattle.lola_instances.proofs.prepare.make_ready.Goals as goal

pub returns-then-len-number-clause-kept : goal.returns-then-len-number-clause-kept
returns-then-len-number-clause-kept c = all_kept c.args.streams.now.items

pub returns-then-len-number-clause-ok : goal.returns-then-len-number-clause-ok
returns-then-len-number-clause-ok c = λ x at.
    let l : c.args.number < length c.args.streams.now.items = slice_get_within c.args.streams.now.items c.args.number x at in
    absurd (omega (arith, l, c.len.ensures, c.args.streams.now.ok.0, c.if-len-number.true))

pub returns-in-Ok-clause-kept : goal.returns-in-Ok-clause-kept
returns-in-Ok-clause-kept c =
    let xs = c.args.streams.now.items in
    let i = c.args.number in
    let y = c.index_mut-lives.result.now in
    let at : slice_get xs i ≡ Some y = slice_get_read xs (length xs) i y refl (omega (arith, c.len.ensures, c.args.streams.now.ok.0, c.if-len-number.false)) c.index_mut-lives.ensures.value in
    let p = c.prepare.ensures in
    kept_set xs xs i y c.prepare.new.self (all_kept xs) at (record { rest = p.rest; capacity = p.capacity; spares = p.spares })

pub returns-in-Ok-clause-ok : goal.returns-in-Ok-clause-ok
returns-in-Ok-clause-ok c = λ x set.
    let xs = c.args.streams.now.items in
    let i = c.args.number in
    let y = c.index_mut-lives.result.now in
    let z = c.prepare.new.self in
    let at : slice_get xs i ≡ Some y = slice_get_read xs (length xs) i y refl (omega (arith, c.len.ensures, c.args.streams.now.ok.0, c.if-len-number.false)) c.index_mut-lives.ensures.value in
    let p = c.prepare.ensures in
    let k : IsKept y z = record { rest = p.rest; capacity = p.capacity; spares = p.spares } in
    let s : z ≡ x = some_same (sym (same_set xs i y z at) ∙ set) in
    subst IsReady s (prepared_ready y z k c.in-Ok.ensures.room c.in-Ok.ensures.ready)

pub returns-in-Err-clause-kept : goal.returns-in-Err-clause-kept
returns-in-Err-clause-kept c =
    let xs = c.args.streams.now.items in
    let i = c.args.number in
    let y = c.index_mut-lives.result.now in
    let at : slice_get xs i ≡ Some y = slice_get_read xs (length xs) i y refl (omega (arith, c.len.ensures, c.args.streams.now.ok.0, c.if-len-number.false)) c.index_mut-lives.ensures.value in
    let p = c.prepare.ensures in
    kept_set xs xs i y c.prepare.new.self (all_kept xs) at (record { rest = p.rest; capacity = p.capacity; spares = p.spares })

pub returns-in-Err-clause-plain : goal.returns-in-Err-clause-plain
returns-in-Err-clause-plain c = λ h.
    let xs = c.args.streams.now.items in
    let i = c.args.number in
    let y = c.index_mut-lives.result.now in
    let at : slice_get xs i ≡ Some y = slice_get_read xs (length xs) i y refl (omega (arith, c.len.ensures, c.args.streams.now.ok.0, c.if-len-number.false)) c.index_mut-lives.ensures.value in
    c.in-Err.ensures.plain (plain_at xs i y h at)
