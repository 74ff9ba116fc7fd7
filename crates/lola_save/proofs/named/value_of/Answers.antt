use Rattle.lola_value.specs.declared.value.Value.TheVariants as value
use Rattle.std.proofs.Common.{◌≡◌, false, of_z, rules, subst, sym, to_z}
use Rattle.std.proofs.lemmas.Int.{to_z-of_z}
use Rattle.std.specs.Int.{w128}
use Rattle.lola_save.specs.Loaded.{IsNamed}
use Rattle.lola_save.proofs.Naming.{absent-named, bool-named, int-named, more-self, text-named}
use Rattle.lola_save.proofs.named.value_of.Goals as goal

pub returns-in-Absent-clause-value : goal.returns-in-Absent-clause-value
returns-in-Absent-clause-value c k h = absent-named c.args.texts.now.held k c.args.field.now (value.Bool false) c.in-Absent.is h

pub returns-in-Absent-clause-more : goal.returns-in-Absent-clause-more
returns-in-Absent-clause-more c = more-self c.args.texts.now c.requires

pub returns-in-Bool-clause-value : goal.returns-in-Bool-clause-value
returns-in-Bool-clause-value c k h = bool-named c.args.texts.now.held k c.args.field.now c.in-Bool.b c.in-Bool.is h

pub returns-in-Bool-clause-more : goal.returns-in-Bool-clause-more
returns-in-Bool-clause-more c = more-self c.args.texts.now c.requires

pub returns-in-Int-clause-value : goal.returns-in-Int-clause-value
returns-in-Int-clause-value c k h =
    let same : to_z w128 (of_z w128 c.in-Int.z) ≡ c.in-Int.z = to_z-of_z w128 c.in-Int.z (search rules) in
    subst (λ z. IsNamed c.args.texts.now.held k c.args.field.now (value.Int z)) (sym same) (int-named c.args.texts.now.held k c.args.field.now c.in-Int.z c.in-Int.is h)

pub returns-in-Int-clause-more : goal.returns-in-Int-clause-more
returns-in-Int-clause-more c = more-self c.args.texts.now c.requires

pub returns-in_ok-id-in-Text-clause-value : goal.returns-in_ok-id-in-Text-clause-value
returns-in_ok-id-in-Text-clause-value c k h =
    text-named c.id_of.new.texts.held k c.args.field.now c.in-Text.text c.as_bytes.result.now c.in_ok-id-in-Text.id c.in-Text.is c.as_bytes.ensures c.in_ok-id-in-Text.ensures.there h
