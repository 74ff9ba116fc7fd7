use Rattle.std.proofs.Common.{◌≡◌, ◌+◌, drop}
use Rattle.csv.specs.Records.{fields_of}
use Rattle.lola_report.specs.Candidates.{read_fields}
use Rattle.lola_report.proofs.Parts.{led_values}
use Rattle.lola_report.proofs.candidate.values.Given as goal

abbrev pub invariant-loop-kind : goal.invariant-loop-kind
invariant-loop-kind l = record {
  place : l.place ≡ l.kind-index + 4;
  reads : led_values l.values (read_fields (fields_of l.fields) l.place (drop l.kind-index l.kinds)) ≡ read_fields (fields_of l.fields) 4 l.kinds;
}
