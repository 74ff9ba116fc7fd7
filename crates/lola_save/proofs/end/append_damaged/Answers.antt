use Rattle.std.proofs.Common.{ℕ, List, ◌++◌, ◌∙◌, ap, append_assoc, codes, decimal}
use Rattle.std.proofs.lemmas.Result.{on_err_weaker, on_ok_weaker}
use Rattle.lola_value.proofs.AppendingLemmas.{all_appended, in_first, in_second}
use Rattle.lola_report.proofs.Sequences.{on_err}
use Rattle.lola_save.proofs.end.append_damaged.Goals as goal

pub returns-in_err-number_text-clause-memory : goal.returns-in_err-number_text-clause-memory
returns-in_err-number_text-clause-memory c =
    on_err _ (in_first c.args.to.now _ (codes "= damaged state line ") (decimal c.args.line ++ codes "\n") (all_appended c.args.to.now _ _ (c.in_err-number_text.ensures.err ∙ c.in_ok-append.ensures.ok)))

pub returns-clause-ok : goal.returns-clause-ok
returns-clause-ok c =
    let old = c.args.to.now in
    let words = codes "= damaged state line " in
    let number = decimal c.args.line in
    on_ok_weaker c.append-2.result
    (λ same. same ∙ ap (λ (l : List ℕ). l ++ codes "\n") (c.in_ok-number_text.ensures.ok ∙ ap (λ (l : List ℕ). l ++ number) c.in_ok-append.ensures.ok)
    ∙ append_assoc (old ++ words) number (codes "\n") ∙ append_assoc old words (number ++ codes "\n"))
    c.append-2.ensures.ok

pub returns-clause-memory : goal.returns-clause-memory
returns-clause-memory c =
    on_err_weaker c.append-2.result
    (λ same. in_second c.args.to.now _ _ (codes "= damaged state line ") (decimal c.args.line ++ codes "\n") c.in_ok-append.ensures.ok
    (in_first _ _ (decimal c.args.line) (codes "\n") (all_appended _ _ _ (same ∙ c.in_ok-number_text.ensures.ok))))
    c.append-2.ensures.err
