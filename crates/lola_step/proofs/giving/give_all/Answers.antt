use Rattle.std.proofs.Common.{◌≡◌, ◌∙◌, ◌<◌, ◌+◌, ◌||◌, Some, ap, arith, drop, get_or, length, slice_get, subst, sym, take}
use Rattle.std.proofs.lemmas.List.{drop_more, take_all}
use Rattle.std.proofs.lemmas.Option.{slice_get-get_or}
use Rattle.lola_model.specs.Content.{Content}
use Rattle.lola_model.specs.Store.{Seen, Stands}
use Rattle.lola_step.specs.Given.{after_all, after_giving, told_outcomes, CanGiveAll}
use Rattle.lola_step.specs.Found.{is_fault}
use Rattle.lola_step.proofs.Elements.{cut}
use Rattle.lola_step.proofs.Faultless.{fault_end, fault_step}
use Rattle.lola_step.proofs.OneByOne.{all_more, can_first, held_at, first_task, told_more}
use Rattle.lola_step.proofs.giving.give_all.Goals as goal

pub give-requires : goal.give-requires
give-requires g c =
    let i = c.loop-i.i in
    let results = c.args.results.now in
    let r = c.index-results-i.result in
    let within : i < length results = omega (arith, c.loop-i-test.true, c.requires.places) in
    let with' : slice_get results i ≡ Some r = slice_get-get_or results i r within ∙ ap Some (sym c.index-results-i.is) in
    (can_first (g.S.StreamStore.seen c.loop-i.store) (drop i c.args.tasks.now) (drop (i + 1) c.args.tasks.now) (drop i results) (drop (i + 1) results)
    (get_or c.args.tasks.now i first_task) r
    (drop_more c.args.tasks.now i first_task c.loop-i-test.true) (cut results i r with') c.loop-i.invariant.can).0

pub loop-i-preserved : goal.loop-i-preserved
loop-i-preserved g c =
    let i = c.loop-i.i in
    let tasks = c.args.tasks.now in
    let results = c.args.results.now in
    let before = g.S.StreamStore.seen c.loop-i.store in
    let t = get_or tasks i first_task in
    let r = c.index-results-i.result in
    let within : i < length results = omega (arith, c.loop-i-test.true, c.requires.places) in
    let at : slice_get tasks i ≡ Some t = slice_get-get_or tasks i first_task c.loop-i-test.true in
    let with' : slice_get results i ≡ Some r = slice_get-get_or results i r within ∙ ap Some (sym c.index-results-i.is) in
    let C : Seen → Type 0 = λ s. CanGiveAll s (drop (i + 1) tasks) (drop (i + 1) results) in
    record {
      can = subst C (sym c.give.ensures.seen) (can_first before (drop i tasks) (drop (i + 1) tasks) (drop i results) (drop (i + 1) results) t r
          (drop_more tasks i first_task c.loop-i-test.true) (cut results i r with') c.loop-i.invariant.can).1;
      seen = c.give.ensures.seen
          ∙ (ap (λ s. after_giving s t r) c.loop-i.invariant.seen ∙ sym (all_more (g.S.StreamStore.seen c.args.store.now) tasks results i t r at with'));
      stands = λ names d held h.
          let S : Content → Type 0 = λ e. Stands names (g.S.StreamStore.remembers c.give.new.store) (g.S.StreamStore.seen c.give.new.store) e in
          subst S (sym (told_more names d tasks results i t r at with'))
          (c.give.ensures.stands names (told_outcomes names d (take i tasks) (take i results)) (held_at names results i r with' held) (c.loop-i.invariant.stands names d held h));
      faulty = fault_step results i r c.loop-i.faulty c.or_fault-faulty.result within (c.or_fault-faulty.ensures ∙ ap (λ o. is_fault o || c.loop-i.faulty) c.index-results-i.is) c.loop-i.invariant.faulty;
    }

pub returns-clause-faulty : goal.returns-clause-faulty
returns-clause-faulty g c =
    fault_end c.args.results.now c.loop-i.i c.loop-i.faulty (omega (arith, c.loop-i-test.false, c.requires.places)) c.loop-i.invariant.faulty

pub returns-clause-seen : goal.returns-clause-seen
returns-clause-seen g c =
    let i = c.loop-i.i in
    let tasks = c.args.tasks.now in
    let results = c.args.results.now in
    c.loop-i.invariant.seen
    ∙ (ap (λ ts. after_all (g.S.StreamStore.seen c.args.store.now) ts (take i results)) (take_all i tasks c.loop-i-test.false)
    ∙ ap (λ rs. after_all (g.S.StreamStore.seen c.args.store.now) tasks rs) (take_all i results (omega (arith, c.loop-i-test.false, c.requires.places))))

pub returns-clause-stands : goal.returns-clause-stands
returns-clause-stands g c names d held h =
    let i = c.loop-i.i in
    let tasks = c.args.tasks.now in
    let results = c.args.results.now in
    let S : Content → Type 0 = λ e. Stands names (g.S.StreamStore.remembers c.loop-i.store) (g.S.StreamStore.seen c.loop-i.store) e in
    subst S
    (ap (λ ts. told_outcomes names d ts (take i results)) (take_all i tasks c.loop-i-test.false)
    ∙ ap (λ rs. told_outcomes names d tasks rs) (take_all i results (omega (arith, c.loop-i-test.false, c.requires.places))))
    (c.loop-i.invariant.stands names d held h)
