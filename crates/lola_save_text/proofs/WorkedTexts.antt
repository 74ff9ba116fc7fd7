-- The texts of worked states, byte by byte.
use Rattle.std.proofs.Common.{◌≡◌, refl, ap, ◌∙◌, ℕ, List, [], ◌∷◌, ◌++◌, Some, None, pos, codes, decimal, lit<, lit≤}
use Rattle.std.proofs.lemmas.Fmt.{decimal_digit, decimal_step}
use Rattle.lola_model.proofs.Build.{Around, row_at, accepted_all, int}
use Rattle.lola_model.proofs.Rows.{second, sum_and_trigger}
use Rattle.lola_panes.specs.declared.partial.Partial.TheVariants.{Number}
use Rattle.lola_save_text.specs.Forms.{forms_of}
use Rattle.lola_save_text.specs.Lines.{StartLine, LastLine, StepsLine, StreamLine, RingLine, PanesLine, head_text, line_text, lines_text, state_lines, state_text}
use Rattle.lola_save_text.specs.JournalStates.{state_of}
use Rattle.lola_save_text.proofs.Corners.{worked-text}
use Rattle.lola_save_text.proofs.WorkedStates.{first-row, counts_each_second, two_rows, two-panes}

-- an output of one more than its input, and a trigger, after one row at 0 with the value 1

abbrev pub first_spec : List ℕ
first_spec = codes "input a: Int64\noutput b: Int64 := a + 1\ntrigger b > 2 \"high\"\n"

sixty-one : decimal 61 ≡ codes "61"
sixty-one = decimal_step 61 (lit≤ tt) (lit< tt) ∙ ap (λ (t : List ℕ). t ++ codes "1") (decimal_digit 6 (lit< tt))

first-head : head_text first_spec ≡ codes "lolamon-state 1\nspec 61\ninput a: Int64\noutput b: Int64 := a + 1\ntrigger b > 2 \"high\"\n\n"
first-head = ap (λ (t : List ℕ). codes "lolamon-state 1\nspec " ++ (t ++ codes "\ninput a: Int64\noutput b: Int64 := a + 1\ntrigger b > 2 \"high\"\n\n")) sixty-one

pub first-text : (u : Around) → state_text first_spec (sum_and_trigger u) (state_of (sum_and_trigger u) None (accepted_all (row_at 0 (int 1) ∷ [])))
    ≡ codes "lolamon-state 1\nspec 61\ninput a: Int64\noutput b: Int64 := a + 1\ntrigger b > 2 \"high\"\n\nstart 0.000000000\nlast 0.000000000\nsteps 1\nstream 0 1\ninst -\nring 1\nstream 1 1\ninst -\nring 2\nstream 2 1\ninst -\nring false\nend\n"
first-text u = ap (λ s. state_text first_spec (sum_and_trigger u) s) (first-row u) ∙ (λ i. first-head i ++ worked-text i)

-- a window of ten seconds that counts, in panes of one second, after a row at 0 and one at 1

start-line : line_text (StartLine (Some 0)) ≡ codes "start 0.000000000\n"
start-line = rw (decimal_digit 0 (lit< tt)) refl

last-line : line_text (LastLine (Some second)) ≡ codes "last 1.000000000\n"
last-line = rw (decimal_digit 1 (lit< tt), decimal_digit 0 (lit< tt)) refl

steps-line : line_text (StepsLine 2) ≡ codes "steps 2\n"
steps-line = rw (decimal_digit 2 (lit< tt)) refl

first-stream : line_text (StreamLine 0 1) ≡ codes "stream 0 1\n"
first-stream = rw (decimal_digit 0 (lit< tt), decimal_digit 1 (lit< tt)) refl

second-stream : line_text (StreamLine 1 1) ≡ codes "stream 1 1\n"
second-stream = rw (decimal_digit 1 (lit< tt)) refl

six-kept : line_text (RingLine (int 6 ∷ [])) ≡ codes "ring 6\n"
six-kept = rw (decimal_digit 6 (lit< tt)) refl

two-counts : line_text (PanesLine 0 (Some (record { last = 1; partials = Number (pos 1) ∷ Number (pos 1) ∷ [] }))) ≡ codes "panes 0 1 1 1\n"
two-counts = rw (decimal_digit 0 (lit< tt), decimal_digit 1 (lit< tt)) refl

pub two-panes-text : lines_text (state_lines (forms_of counts_each_second) (state_of counts_each_second None (accepted_all two_rows)))
    ≡ codes "start 0.000000000\nlast 1.000000000\nsteps 2\nstream 0 1\ninst -\nring 6\npanes 0 1 1 1\nstream 1 1\ninst -\nring\nend\n"
two-panes-text =
    ap (λ s. lines_text (state_lines (forms_of counts_each_second) s)) two-panes
    ∙ (λ i. start-line i ++ (last-line i ++ (steps-line i ++ (first-stream i ++ (codes "inst -\n" ++ (six-kept i ++ (two-counts i ++ (second-stream i ++ (codes "inst -\n" ++ (codes "ring\n" ++ (codes "end\n" ++ [])))))))))))
