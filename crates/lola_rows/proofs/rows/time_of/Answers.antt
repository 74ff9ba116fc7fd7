use Rattle.std.proofs.Common.{◌∙◌, ap}
use Rattle.lola_value.specs.Times.{read_time}
use Rattle.csv.specs.Records.{fields_of}
use Rattle.lola_rows.proofs.RowFacts.{time-none, time-there}
use Rattle.lola_rows.proofs.rows.time_of.Goals as goal

pub returns-in-Some : goal.returns-in-Some
returns-in-Some c = c.time_read.ensures.value ∙ ap read_time c.trim.ensures ∙ time-there (fields_of c.args.fields.now) c.args.place c.in-Some.text.now c.in-Some.ensures.value

pub returns-in-None : goal.returns-in-None
returns-in-None c = time-none (fields_of c.args.fields.now) c.args.place c.in-None.ensures.value
