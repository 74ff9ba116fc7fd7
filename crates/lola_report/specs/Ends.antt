-- The end lines.
use Rattle.std.specs.Prelude.{ℕ, List, ◌++◌, codes, decimal}
use Rattle.lola_value.specs.Times.{time_text}
use Rattle.lola_value.specs.declared.front.Refusal.{Refusal}
use Rattle.lola_value.specs.declared.value.FaultKind.{FaultKind}
use Rattle.lola_model.specs.declared.source.MalformedKind.{MalformedKind}
use Rattle.lola_report.specs.Names.{code_number, code_name, malformed_number, malformed_name, fault_number, fault_name}
use Rattle.lola_report.specs.declared.end.EndLine.{EndLine}
use Rattle.lola_report.specs.declared.end.EndLine.TheVariants as end

-- how a run went: its rows, its steps and its verdict lines
abbrev pub done_text : ℕ → ℕ → ℕ → ℕ → List ℕ
done_text accepted late steps lines =
    codes "= done accepted " ++ decimal accepted ++ codes " late " ++ decimal late ++ codes " steps " ++ decimal steps ++ codes " lines " ++ decimal lines ++ codes "\n"

-- why a specification is refused, and where
abbrev pub refused_text : Refusal → List ℕ
refused_text r = codes "= refused E" ++ decimal (code_number r.code) ++ codes " " ++ code_name r.code ++ codes " at " ++ decimal r.at ++ codes "\n"

-- where a line of a source is malformed, and how
abbrev pub malformed_text : ℕ → ℕ → MalformedKind → List ℕ
malformed_text source row kind =
    codes "= malformed source " ++ decimal source ++ codes " row " ++ decimal row ++ codes " kind " ++ decimal (malformed_number kind) ++ codes " " ++ malformed_name kind ++ codes "\n"

-- a stream's fault, and when
abbrev pub fault_text : List ℕ → FaultKind → ℕ → List ℕ
fault_text name kind time =
    codes "= fault " ++ name ++ codes " " ++ decimal (fault_number kind) ++ codes " " ++ fault_name kind ++ codes " at " ++ time_text time ++ codes "\n"

-- a source that could not be read
abbrev pub unreadable_text : ℕ → List ℕ
unreadable_text source = codes "= unreadable source " ++ decimal source ++ codes "\n"

-- the size of a specification
abbrev pub analysed_text : ℕ → ℕ → List ℕ
analysed_text streams windows = codes "= done streams " ++ decimal streams ++ codes " windows " ++ decimal windows ++ codes "\n"

-- the line for an end
abbrev pub end_text : EndLine → List ℕ
end_text (end.Done accepted late steps lines) = done_text accepted late steps lines
end_text end.Usage = codes "= usage\n"
end_text (end.Refused refusal) = refused_text refusal
end_text (end.Malformed source row kind) = malformed_text source row kind
end_text (end.Fault name kind time) = fault_text name kind time
end_text end.UnreadableSpecification = codes "= unreadable specification\n"
end_text (end.UnreadableSource source) = unreadable_text source
end_text (end.Analysed streams windows) = analysed_text streams windows
