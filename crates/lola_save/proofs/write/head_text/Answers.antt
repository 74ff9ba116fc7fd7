use Rattle.std.proofs.Common.{◌∷◌, ◌++◌, ◌∙◌, [], decimal, length}
use Rattle.std.proofs.lemmas.Result.{on_err_weaker}
use Rattle.lola_value.proofs.AppendingLemmas.{all_appended, in_first, in_second}
use Rattle.lola_report.proofs.Sequences.{on_err}
use Rattle.lola_save.proofs.write.head_text.Goals as goal

pub returns-in_err-number_text-clause-memory : goal.returns-in_err-number_text-clause-memory
returns-in_err-number_text-clause-memory c =
    on_err _ (in_first c.args.to.now _ _ (decimal (length c.args.spec.now) ++ (10 ∷ (c.args.spec.now ++ 10 ∷ []))) (all_appended c.args.to.now _ _ (c.in_err-number_text.ensures.err ∙ c.in_ok-append.ensures.ok)))

pub returns-in_err-append-2-clause-memory : goal.returns-in_err-append-2-clause-memory
returns-in_err-append-2-clause-memory c =
    on_err _ (in_second c.args.to.now _ _ _ (decimal (length c.args.spec.now) ++ (10 ∷ (c.args.spec.now ++ 10 ∷ []))) c.in_ok-append.ensures.ok
    (in_first _ _ (decimal (length c.args.spec.now)) (10 ∷ (c.args.spec.now ++ 10 ∷ [])) (all_appended _ _ _ (c.in_err-append-2.ensures.err ∙ c.in_ok-number_text.ensures.ok))))

pub returns-in_err-append-3-clause-memory : goal.returns-in_err-append-3-clause-memory
returns-in_err-append-3-clause-memory c =
    on_err _ (in_second c.args.to.now _ _ _ (decimal (length c.args.spec.now) ++ (10 ∷ (c.args.spec.now ++ 10 ∷ []))) c.in_ok-append.ensures.ok
    (in_second _ _ _ (decimal (length c.args.spec.now)) (10 ∷ (c.args.spec.now ++ 10 ∷ [])) c.in_ok-number_text.ensures.ok
    (in_first _ _ (10 ∷ []) (c.args.spec.now ++ 10 ∷ []) (all_appended _ _ _ (c.in_err-append-3.ensures.err ∙ c.in_ok-append-2.ensures.ok)))))

pub returns-clause-memory : goal.returns-clause-memory
returns-clause-memory c =
    on_err_weaker c.append-4.result
    (λ same. in_second c.args.to.now _ _ _ (decimal (length c.args.spec.now) ++ (10 ∷ (c.args.spec.now ++ 10 ∷ []))) c.in_ok-append.ensures.ok
    (in_second _ _ _ (decimal (length c.args.spec.now)) (10 ∷ (c.args.spec.now ++ 10 ∷ [])) c.in_ok-number_text.ensures.ok
    (in_second _ _ _ (10 ∷ []) (c.args.spec.now ++ 10 ∷ []) c.in_ok-append-2.ensures.ok
    (in_first _ _ c.args.spec.now (10 ∷ []) (all_appended _ _ _ (same ∙ c.in_ok-append-3.ensures.ok))))))
    c.append-4.ensures.err
