use Rattle.csv.specs.Records.{fields_of}
use Rattle.lola_report.proofs.Parts.{text-none, text-there}
use Rattle.lola_report.proofs.candidate.text_at.Goals as goal

pub returns-in-Some : goal.returns-in-Some
returns-in-Some c = text-there (fields_of c.args.fields.now) c.args.place c.in-Some.text.now c.in-Some.ensures.value

pub returns-in-None : goal.returns-in-None
returns-in-None c = text-none (fields_of c.args.fields.now) c.args.place c.in-None.ensures.value
