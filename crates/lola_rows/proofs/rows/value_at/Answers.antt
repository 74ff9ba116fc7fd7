use Rattle.csv.specs.Records.{fields_of}
use Rattle.lola_rows.proofs.RowFacts.{value-made, value-none}
use Rattle.lola_rows.proofs.rows.value_at.Goals as goal

pub returns-in-Some : goal.returns-in-Some
returns-in-Some c = value-made (fields_of c.args.fields.now) c.args.kind c.args.place c.in-Some.text.now c.value.result c.in-Some.ensures.value c.value.ensures

pub returns-in-None : goal.returns-in-None
returns-in-None c = value-none (fields_of c.args.fields.now) c.args.kind c.args.place c.in-None.ensures.value
