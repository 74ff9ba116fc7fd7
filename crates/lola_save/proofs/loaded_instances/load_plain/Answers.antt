use Rattle.std.proofs.Common.{◌∙◌, ap, sym, length, arith}
use Rattle.lola_model.specs.Store.{Seen, instances_seen}
use Rattle.lola_instances.specs.Stores.{bounded_seen}
use Rattle.lola_save.specs.Loaded.{times_seen}
use Rattle.lola_save.proofs.AllBirths.{count-long, instance-at, plain-loaded, plain-newborn}
use Rattle.lola_save.proofs.Items.{item-at}
use Rattle.lola_save.proofs.LoadedStreams.{stream-one}
use Rattle.lola_save.proofs.loaded_instances.load_plain.Goals as goal

pub bounds-saved-0 : goal.bounds-saved-0
bounds-saved-0 c = let n = count-long c.args.saved.now in let one = c.requires.saved.plain c.requires.plain in omega (arith, n, one)

pub load_instance-requires-clause-saved : goal.load_instance-requires-clause-saved
load_instance-requires-clause-saved c =
    let n = count-long c.args.saved.now in
    let one = c.requires.saved.plain c.requires.plain in
    let at = item-at c.args.saved.now 0 c.index-saved-0.result c.index-saved-0.result (omega (arith, n, one)) c.index-saved-0.is in
    instance-at (times_seen (bounded_seen c.args.store.now)) c.args.form.now _ _ c.args.saved.now c.requires.saved.instances 0 c.index-saved-0.result at

pub load_instance-requires-clause-blank : goal.load_instance-requires-clause-blank
load_instance-requires-clause-blank c = (c.requires.open.plain c.requires.plain).blank

pub load_instance-requires-clause-newborn : goal.load_instance-requires-clause-newborn
load_instance-requires-clause-newborn c = λ x e.
    let n = count-long c.args.saved.now in
    let one = c.requires.saved.plain c.requires.plain in
    let at = item-at c.args.saved.now 0 c.index-saved-0.result c.index-saved-0.result (omega (arith, n, one)) c.index-saved-0.is in
    plain-newborn c.args.texts.now.held (times_seen (bounded_seen c.args.store.now)) c.args.form.now x c.index-saved-0.result c.requires.plain c.requires.none
    (instance-at (times_seen (bounded_seen c.args.store.now)) c.args.form.now _ _ c.args.saved.now c.requires.saved.instances 0 c.index-saved-0.result at) ((c.requires.open.plain c.requires.plain).params x e)

pub returns-clause-stream : goal.returns-clause-stream
returns-clause-stream c = stream-one c.args.stream 0 c.args.store.now c.load_instance.new.store c.in_ok-load_instance.ensures.one

pub returns-clause-loaded : goal.returns-clause-loaded
returns-clause-loaded c =
    let n = count-long c.args.saved.now in
    let one = c.requires.saved.plain c.requires.plain in
    let at = item-at c.args.saved.now 0 c.index-saved-0.result c.index-saved-0.result (omega (arith, n, one)) c.index-saved-0.is in
    plain-loaded (times_seen (bounded_seen c.args.store.now)) c.load_instance.new.texts.held c.load_instance.new.store c.args.stream c.args.form.now c.args.saved.now c.index-saved-0.result
    (ap (λ (s : Seen). length (instances_seen s c.args.stream)) c.in_ok-load_instance.ensures.one.seen ∙ (c.requires.open.plain c.requires.plain).one) (sym n ∙ one) at c.in_ok-load_instance.ensures.loaded
