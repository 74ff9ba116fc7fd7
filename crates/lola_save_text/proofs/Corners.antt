-- Worked states: their lines are accepted or refused, and their text is what it should be, byte by byte.
use Rattle.std.proofs.Common.{◌≡◌, ℕ, ◌++◌, List, [], ◌∷◌, Some, None, true, false, refl, ap, ◌∙◌, pos, negsuc, codes, decimal, lit<, lit≤}
use Rattle.std.specs.Str.{is_utf8}
use Rattle.std.proofs.lemmas.Fmt.{decimal_digit, decimal_step}
use Rattle.lola_value.specs.declared.text.Field.{Field}
use Rattle.lola_value.specs.declared.text.Field.TheVariants as field
use Rattle.lola_value.specs.declared.value.Kind.TheVariants as kind
use Rattle.lola_value.specs.declared.value.Kind.{Kind}
use Rattle.lola_model.specs.declared.spec.Agg.{Agg}
use Rattle.lola_model.specs.declared.spec.Agg.TheVariants as agg
use Rattle.lola_save_text.specs.Fitting.{Times}
use Rattle.lola_save_text.specs.Forms.{StreamForm, WindowForm}
use Rattle.lola_save_text.specs.Lines.{StateLine, StartLine, LastLine, StepsLine, StreamLine, InstLine, RingLine, PanesLine, EndLine, head_text, line_text, lines_text, state_lines}
use Rattle.lola_save_text.specs.Places.{AtStart, AtStream, Done, next}
use Rattle.lola_save_text.specs.Runs.{run}
use Rattle.lola_save_text.specs.States.{SavedInstance, SavedState, Number, Extreme, Mean, Truth}

-- two streams of numbers and a trigger, of each of which one value is kept; a row at 0 with the value 1

abbrev plain : Kind → StreamForm
plain k = record { kind = k; parameters = []; spawns = false; kept = 1; windows = [] }

abbrev forms : List StreamForm
forms = plain kind.Int64 ∷ plain kind.Int64 ∷ plain kind.Bool ∷ []

abbrev alone : Field → List SavedInstance
alone v = record { born = None; params = []; ring = v ∷ []; panes = [] } ∷ []

abbrev state : SavedState
state = record { start = Some 0; last = Some 0; steps = 1; streams = alone (field.Int (pos 1)) ∷ alone (field.Int (pos 2)) ∷ alone (field.Bool false) ∷ [] }

-- its lines are accepted to the end
pub worked : run forms AtStart (state_lines forms state) ≡ Some Done
worked = refl

-- and these are their bytes

zero-line : line_text (StartLine (Some 0)) ≡ codes "start 0.000000000\n"
zero-line = rw (decimal_digit 0 (lit< tt)) refl

last-line : line_text (LastLine (Some 0)) ≡ codes "last 0.000000000\n"
last-line = rw (decimal_digit 0 (lit< tt)) refl

steps-line : line_text (StepsLine 1) ≡ codes "steps 1\n"
steps-line = rw (decimal_digit 1 (lit< tt)) refl

first-stream : line_text (StreamLine 0 1) ≡ codes "stream 0 1\n"
first-stream = rw (decimal_digit 0 (lit< tt), decimal_digit 1 (lit< tt)) refl

second-stream : line_text (StreamLine 1 1) ≡ codes "stream 1 1\n"
second-stream = rw (decimal_digit 1 (lit< tt)) refl

third-stream : line_text (StreamLine 2 1) ≡ codes "stream 2 1\n"
third-stream = rw (decimal_digit 2 (lit< tt), decimal_digit 1 (lit< tt)) refl

one-kept : line_text (RingLine (field.Int (pos 1) ∷ [])) ≡ codes "ring 1\n"
one-kept = rw (decimal_digit 1 (lit< tt)) refl

two-kept : line_text (RingLine (field.Int (pos 2) ∷ [])) ≡ codes "ring 2\n"
two-kept = rw (decimal_digit 2 (lit< tt)) refl

pub worked-text : lines_text (state_lines forms state)
    ≡ codes "start 0.000000000\nlast 0.000000000\nsteps 1\nstream 0 1\ninst -\nring 1\nstream 1 1\ninst -\nring 2\nstream 2 1\ninst -\nring false\nend\n"
worked-text = λ i.
    zero-line i ++ (last-line i ++ (steps-line i ++ (first-stream i ++ (codes "inst -\n" ++ (one-kept i ++ (second-stream i ++ (codes "inst -\n" ++ (two-kept i
    ++ (third-stream i ++ (codes "inst -\n" ++ (codes "ring false\n" ++ (codes "end\n" ++ []))))))))))))

-- what stands before them
pub worked-head : head_text (codes "input a: Int64\n") ≡ codes "lolamon-state 1\nspec 15\ninput a: Int64\n\n"
worked-head = ap (λ (t : List ℕ). codes "lolamon-state 1\nspec " ++ (t ++ codes "\ninput a: Int64\n\n")) fifteen
  where
    fifteen : decimal 15 ≡ codes "15"
    fifteen = decimal_step 15 (lit≤ tt) (lit< tt) ∙ ap (λ (t : List ℕ). t ++ codes "5") (decimal_digit 1 (lit< tt))

-- a text is between quotes, with escapes, and a dash stands for what is not there
pub quoted-kept : line_text (RingLine (field.Text (codes "a \"b\"\n") ∷ field.Text [] ∷ [])) ≡ codes "ring \"a \\\"b\\\"\\n\" \"\"\n"
quoted-kept = refl

pub no-panes : line_text (PanesLine 3 None) ≡ codes "panes 3 -\n"
no-panes = rw (decimal_digit 3 (lit< tt)) refl

pub some-panes : line_text (PanesLine 0 (Some (record { last = 2; partials = Extreme None ∷ Extreme (Some (negsuc 6)) ∷ Mean (pos 5) 3 ∷ Truth true ∷ [] }))) ≡ codes "panes 0 2 - -7 5/3 true\n"
some-panes = rw (decimal_digit 0 (lit< tt), decimal_digit 2 (lit< tt), decimal_digit 7 (lit< tt), decimal_digit 5 (lit< tt), decimal_digit 3 (lit< tt)) refl

-- a value of another kind is refused
pub other-kind : run forms AtStart (StartLine (Some 0) ∷ LastLine (Some 0) ∷ StepsLine 1 ∷ StreamLine 0 1 ∷ InstLine None [] ∷ RingLine (field.Bool true ∷ []) ∷ []) ≡ None
other-kind = refl

-- streams with parameters

abbrev spawned : List Kind → List WindowForm → StreamForm
spawned ks ws = record { kind = kind.Int8; parameters = ks; spawns = true; kept = 2; windows = ws }

abbrev times : Times
times = record { start = Some 0; last = Some 25; steps = 9 }

-- more instances than lists of parameters, and an instance where nothing was accepted, are refused at the stream's line
pub too-many : next [] (AtStream times 0 (spawned (kind.Bool ∷ kind.Bool ∷ []) [] ∷ [])) (StreamLine 0 5) ≡ None
too-many = refl

pub before-rows : next [] (AtStream (record { start = Some 0; last = None; steps = 0 }) 0 (spawned (kind.Bool ∷ []) [] ∷ [])) (StreamLine 0 1) ≡ None
before-rows = refl

-- one window of each aggregation, whose panes have 10 nanoseconds
abbrev window : ℕ → Agg → WindowForm
window n how = record { number = n; how = how; pane = 10; count = 2 }

abbrev rich : List StreamForm
rich =
    spawned (kind.UInt8 ∷ kind.Text ∷ []) (window 0 agg.Count ∷ window 1 agg.Sum ∷ window 2 agg.Min ∷ window 3 agg.Max ∷ window 4 agg.Avg ∷ [])
    ∷ record { kind = kind.Bool; parameters = []; spawns = false; kept = 1; windows = window 5 agg.Forall ∷ window 6 agg.Exists ∷ [] } ∷ []

abbrev rich-lines : List ℕ → List StateLine
rich-lines t =
    StartLine (Some 0) ∷ LastLine (Some 25) ∷ StepsLine 9 ∷ StreamLine 0 2
    ∷ InstLine (Some 3) (field.Int (pos 255) ∷ field.Text t ∷ []) ∷ RingLine (field.Int (pos 127) ∷ field.Int (negsuc 127) ∷ [])
    ∷ PanesLine 0 (Some (record { last = 2; partials = Number (pos 0) ∷ Number (pos 9) ∷ [] }))
    ∷ PanesLine 1 (Some (record { last = 1; partials = Number (negsuc 4) ∷ Number (pos 5) ∷ [] }))
    ∷ PanesLine 2 (Some (record { last = 2; partials = Extreme None ∷ Extreme (Some (negsuc 127)) ∷ [] }))
    ∷ PanesLine 3 (Some (record { last = 0; partials = Extreme (Some (pos 127)) ∷ [] }))
    ∷ PanesLine 4 (Some (record { last = 2; partials = Mean (pos 0) 0 ∷ Mean (pos 254) 2 ∷ [] }))
    ∷ InstLine (Some 3) (field.Int (pos 0) ∷ field.Text t ∷ []) ∷ RingLine []
    ∷ PanesLine 0 None ∷ PanesLine 1 None ∷ PanesLine 2 None ∷ PanesLine 3 None ∷ PanesLine 4 None
    ∷ StreamLine 1 1 ∷ InstLine None [] ∷ RingLine [] ∷ PanesLine 5 (Some (record { last = 0; partials = Truth false ∷ [] })) ∷ PanesLine 6 None ∷ EndLine ∷ []

pub rich-accepted : (t : List ℕ) → is_utf8 t ≡ true → run rich AtStart (rich-lines t) ≡ Some Done
rich-accepted t u = rw (u, u) refl
