use Rattle.std.proofs.Common.{◌≡◌, ◌∙◌, ◌<◌, Some, ap, arith, get_or, length, slice_get, sym}
use Rattle.std.proofs.lemmas.Option.{slice_get-get_or}
use Rattle.lola_step.proofs.OneByOne.{first_task}
use Rattle.lola_step.proofs.Together.{can_head, can_taken, held_taken}
use Rattle.lola_step.proofs.giving.give_next.Goals as goal

pub give-requires : goal.give-requires
give-requires g c =
    let tasks = c.args.tasks.now in
    let results = c.args.results.now in
    let t = get_or tasks 0 first_task in
    let r = c.index-results-0.result in
    let some : 0 < length tasks = omega (arith, c.requires.some) in
    let within : 0 < length results = omega (arith, c.requires.some, c.requires.places) in
    let at : slice_get tasks 0 ≡ Some t = slice_get-get_or tasks 0 first_task some in
    let with' : slice_get results 0 ≡ Some r = slice_get-get_or results 0 r within ∙ ap Some (sym c.index-results-0.is) in
    can_head (g.S.StreamStore.seen c.args.store.now) t r tasks results at with' c.requires.can

pub give_stream-requires-clause-stream : goal.give_stream-requires-clause-stream
give_stream-requires-clause-stream g c κs within =
    let tasks = c.args.tasks.now in
    let some : 0 < length tasks = omega (arith, c.requires.some) in
    c.requires.known 0 (get_or tasks 0 first_task) (slice_get-get_or tasks 0 first_task some)

pub give_stream-requires-clause-can : goal.give_stream-requires-clause-can
give_stream-requires-clause-can g c κs within =
    can_taken (g.S.StreamStore.seen c.args.store.now) c.args.tasks.now c.args.results.now c.whole_count-count.result c.requires.can

pub returns-clause-stands : goal.returns-clause-stands
returns-clause-stands g c names d held h =
    c.give_stream.ensures.stands names d (held_taken names c.args.results.now c.whole_count-count.result held) h
