-- The text of a saved state, line by line.
use Rattle.std.specs.Prelude.{ℕ, ◌+◌, List, [], ◌∷◌, ◌++◌, Option, Some, None, codes, decimal, flat_map, length}
use Rattle.lola_value.specs.declared.text.Field.{Field}
use Rattle.lola_value.specs.Numbers.{integer_text}
use Rattle.lola_value.specs.Times.{time_text}
use Rattle.lola_model.specs.Texts.{value_text}
use Rattle.lola_model.specs.declared.plan.Plan.{Plan}
use Rattle.lola_report.specs.Pieces.{bool_name}
use Rattle.lola_save_text.specs.Forms.{StreamForm, WindowForm, forms_of}
use Rattle.lola_save_text.specs.States.{Partial, Number, Extreme, Mean, Truth, SavedPanes, SavedInstance, SavedState}

-- what a line behind the specification says
pub data StateLine : Type 0 where
  StartLine : (time : Option ℕ) → StateLine
  LastLine : (time : Option ℕ) → StateLine
  StepsLine : (steps : ℕ) → StateLine
  StreamLine : (number : ℕ) (count : ℕ) → StateLine
  InstLine : (born : Option ℕ) (params : List Field) → StateLine
  RingLine : (values : List Field) → StateLine
  PanesLine : (window : ℕ) (panes : Option SavedPanes) → StateLine
  EndLine : StateLine

-- a word behind a space
abbrev pub word : List ℕ → List ℕ
word w = 32 ∷ w

-- values, each a word
abbrev pub values_text : List Field → List ℕ
values_text vs = flat_map (λ v. word (value_text v)) vs

-- a time, or a dash where there is none
abbrev pub time_or_dash : Option ℕ → List ℕ
time_or_dash None = codes "-"
time_or_dash (Some t) = time_text t

-- a partial result
abbrev pub partial_text : Partial → List ℕ
partial_text (Number z) = integer_text z
partial_text (Extreme None) = codes "-"
partial_text (Extreme (Some z)) = integer_text z
partial_text (Mean total count) = integer_text total ++ (47 ∷ decimal count)
partial_text (Truth b) = bool_name b

-- partial results, each a word
abbrev pub partials_text : List Partial → List ℕ
partials_text qs = flat_map (λ q. word (partial_text q)) qs

-- the number of the newest pane and the partial results, or a dash
abbrev pub panes_text : Option SavedPanes → List ℕ
panes_text None = word (codes "-")
panes_text (Some p) = word (decimal p.last) ++ partials_text p.partials

-- a line without its LF
abbrev pub line_body : StateLine → List ℕ
line_body (StartLine o) = codes "start" ++ word (time_or_dash o)
line_body (LastLine o) = codes "last" ++ word (time_or_dash o)
line_body (StepsLine n) = codes "steps" ++ word (decimal n)
line_body (StreamLine n count) = codes "stream" ++ (word (decimal n) ++ word (decimal count))
line_body (InstLine born params) = codes "inst" ++ (word (time_or_dash born) ++ values_text params)
line_body (RingLine vs) = codes "ring" ++ values_text vs
line_body (PanesLine w p) = codes "panes" ++ (word (decimal w) ++ panes_text p)
line_body EndLine = codes "end"

-- a line
abbrev pub line_text : StateLine → List ℕ
line_text l = line_body l ++ 10 ∷ []

-- lines, one after another
abbrev pub lines_text : List StateLine → List ℕ
lines_text ls = flat_map line_text ls

-- the windows onto a stream, in order, each with its panes of an instance
abbrev pub panes_lines : List WindowForm → List (Option SavedPanes) → List StateLine
panes_lines (w ∷ ws) (p ∷ ps) = PanesLine w.number p ∷ panes_lines ws ps
panes_lines _ _ = []

-- an instance
abbrev pub instance_lines : StreamForm → SavedInstance → List StateLine
instance_lines s i = InstLine i.born i.params ∷ RingLine i.ring ∷ panes_lines s.windows i.panes

-- how many instances there are
abbrev pub count_of : List SavedInstance → ℕ
count_of [] = 0
count_of (i ∷ is) = count_of is + 1

-- the streams in order, where the first of these has number n
abbrev pub streams_lines : ℕ → List StreamForm → List (List SavedInstance) → List StateLine
streams_lines n (s ∷ ss) (is ∷ iss) = StreamLine n (count_of is) ∷ (flat_map (instance_lines s) is ++ streams_lines (n + 1) ss iss)
streams_lines n _ _ = []

-- the whole state
abbrev pub state_lines : List StreamForm → SavedState → List StateLine
state_lines forms s = StartLine s.start ∷ LastLine s.last ∷ StepsLine s.steps ∷ (streams_lines 0 forms s.streams ++ EndLine ∷ [])

-- the first line, which tells what the text is
abbrev pub heading : List ℕ
heading = codes "lolamon-state 1" ++ 10 ∷ []

-- what stands before the lines of the state: the heading, the length of the specification, and its bytes
abbrev pub head_text : List ℕ → List ℕ
head_text spec = heading ++ (codes "spec " ++ (decimal (length spec) ++ (10 ∷ (spec ++ 10 ∷ []))))

-- the text of a state of a plan that these bytes of a specification were compiled to
abbrev pub state_text : List ℕ → Plan → SavedState → List ℕ
state_text spec plan s = head_text spec ++ lines_text (state_lines (forms_of plan) s)
