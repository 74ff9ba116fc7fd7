use Rattle.std.proofs.Common.{◌≡◌, ◌∙◌, ap, slice_get, subst, sym, length, true, arith}
use Rattle.lola_model.specs.Store.{instances_seen, newborn_seen}
use Rattle.lola_instances.specs.Stores.{bounded_seen}
use Rattle.lola_save_text.specs.Fitting.{are_values}
use Rattle.lola_save.specs.Loaded.{AreNamed, IsBlank, IsNewborn}
use Rattle.lola_save.proofs.Births.{absent-of, birth-on, newborn-at, newborn-is, restored-birth, restored-blank, values-long, within-streams}
use Rattle.lola_save.proofs.StoreSlots.{some-is}
use Rattle.lola_save.proofs.loaded_instances.load_born.Goals as goal

pub params_of-requires-clause-few : goal.params_of-requires-clause-few
params_of-requires-clause-few c =
    let long : length c.as_slice.result.now ≡ length c.args.form.now.parameters = ap length c.as_slice.ensures ∙ values-long c.args.form.now.parameters c.args.saved.now.params c.requires.saved.params in
    let few = c.requires.form.few in
    omega (arith, long, few)

pub restore-requires-clause-absent : goal.restore-requires-clause-absent
restore-requires-clause-absent c =
    let ks = c.args.form.now.parameters in
    let fit : are_values ks c.as_slice.result.now ≡ true = ap (are_values ks) c.as_slice.ensures ∙ c.requires.saved.params in
    let named = c.in_ok-params.ensures.params ks fit in
    absent-of c.args.texts.now.held c.params_of.new.texts.held c.args.store.now c.args.stream c.args.saved.now.params c.in_ok-params.params c.requires.unseen c.in_ok-params.ensures.more.held (named.reads ∙ c.as_slice.ensures)

pub load_instance-requires-clause-blank : goal.load_instance-requires-clause-blank
load_instance-requires-clause-blank c =
    let old = c.args.store.now in
    let new = c.restore.new.self in
    let within = within-streams old c.args.stream c.requires.form.of.below in
    subst (λ i. IsBlank new c.args.stream i) (sym c.instances-index.ensures) (restored-blank old new c.args.stream _ c.in_ok-params.params within c.in_ok-restore.ensures.ok c.in_ok-restore.ensures.new)

pub load_instance-requires-clause-newborn : goal.load_instance-requires-clause-newborn
load_instance-requires-clause-newborn c = λ x at.
    let old = c.args.store.now in
    let new = c.restore.new.self in
    let ks = c.args.form.now.parameters in
    let within = within-streams old c.args.stream c.requires.form.of.below in
    let fit : are_values ks c.as_slice.result.now ≡ true = ap (are_values ks) c.as_slice.ensures ∙ c.requires.saved.params in
    let named : AreNamed c.params_of.new.texts.held ks c.args.saved.now.params c.in_ok-params.params = subst (λ fs. AreNamed c.params_of.new.texts.held ks fs c.in_ok-params.params) c.as_slice.ensures (c.in_ok-params.ensures.params ks fit) in
    let here = newborn-at old new c.args.stream c.unwrap_or.result c.in_ok-params.params within c.in_ok-restore.ensures.ok in
    let same : newborn_seen c.unwrap_or.result c.in_ok-params.params ≡ x = some-is (sym here ∙ ap (slice_get (instances_seen (bounded_seen new) c.args.stream)) (sym c.instances-index.ensures) ∙ at) in
    subst (λ y. IsNewborn c.params_of.new.texts.held c.args.form.now y c.args.saved.now) same
    (newborn-is c.params_of.new.texts.held c.args.form.now c.args.saved.now c.in_ok-params.params c.unwrap_or.result ks named c.requires.born c.unwrap_or.ensures)

pub returns-clause-birth : goal.returns-clause-birth
returns-clause-birth c =
    let old = c.args.store.now in
    let mid = c.restore.new.self in
    let within = within-streams old c.args.stream c.requires.form.of.below in
    birth-on old mid c.load_instance.new.store c.args.stream c.instances-index.result
    (restored-birth old mid c.args.stream _ c.in_ok-params.params within c.in_ok-restore.ensures.ok c.requires.over c.restore.ensures.others) c.instances-index.ensures c.in_ok-load_instance.ensures.one
