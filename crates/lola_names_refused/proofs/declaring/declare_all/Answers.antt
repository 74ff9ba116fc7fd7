use Rattle.std.proofs.Common.{◌≡◌, ◌++◌, [], List, length, is_some, map, subst, sym, ap, ap₂, ◌∙◌, append-nil}
use Rattle.lola_value.specs.declared.front.Refusal.{Refusal}
use Rattle.lola_value.specs.declared.front.Code.TheVariants as code
use Rattle.lola_names_refused.specs.declared.names.Meaning.TheVariants as is
use Rattle.lola_names_refused.specs.Table.{meaning_in, with_name}
use Rattle.lola_names_refused.specs.Known.{declared, parameters_of, with_names}
use Rattle.lola_names_refused.specs.Noted.{Finds}
use Rattle.lola_names_refused.specs.Refused.{where_, repeated, repeated_parameters, repeats}
use Rattle.lola_names_refused.proofs.Noting.{finds_more, ok_then, ok_of}
use Rattle.lola_names_refused.proofs.Repeats.{named}
use Rattle.lola_names_refused.proofs.declaring.declare_all.Goals as goal

pub returns-in-Inputs-clause-found : goal.returns-in-Inputs-clause-found
returns-in-Inputs-clause-found c =
    let ns = c.args.names.now in
    let x = c.in-Inputs.x in
    let same : repeated ns (map (named is.Input) c.as_slice.result.now) ≡ repeats ns c.args.declaration.now =
    ap (λ l. repeated ns (map (named is.Input) l)) c.as_slice.ensures ∙ sym (append-nil (repeated ns (map (named is.Input) x.inputs))) ∙ ap (repeats ns) (sym c.in-Inputs.is) in
    ok_then c.declare_inputs.result _ _ (λ h. subst (λ (rs : List Refusal). Finds rs c.args.found.now c.declare_inputs.new.found) same h) c.declare_inputs.ensures.found

pub returns-in-Inputs-clause-names : goal.returns-in-Inputs-clause-names
returns-in-Inputs-clause-names c =
    let ns = c.args.names.now in
    ok_then c.declare_inputs.result _ _
    (λ h. h ∙ ap (λ l. with_names ns (map (named is.Input) l)) c.as_slice.ensures ∙ ap (λ d. with_names ns (declared d)) (sym c.in-Inputs.is)) c.declare_inputs.ensures.names

pub returns-in-Constant-clause-found : goal.returns-in-Constant-clause-found
returns-in-Constant-clause-found c =
    let ns = c.args.names.now in
    let x = c.in-Constant.x in
    let mine = where_ (is_some (meaning_in ns x.name.text)) code.Duplicate x.name.at in
    let same : mine ≡ repeats ns c.args.declaration.now = sym (append-nil mine) ∙ sym (append-nil (mine ++ [])) ∙ ap (repeats ns) (sym c.in-Constant.is) in
    ok_then c.declare.result _ _ (λ h. subst (λ (rs : List Refusal). Finds rs c.args.found.now c.declare.new.found) same h) c.declare.ensures.found

pub returns-in-Constant-clause-names : goal.returns-in-Constant-clause-names
returns-in-Constant-clause-names c =
    let ns = c.args.names.now in
    ok_then c.declare.result _ _ (λ h. h ∙ ap (λ d. with_names ns (declared d)) (sym c.in-Constant.is)) c.declare.ensures.names

pub returns-in_ok-declare-in-Output-clause-found : goal.returns-in_ok-declare-in-Output-clause-found
returns-in_ok-declare-in-Output-clause-found c =
    let ns = c.args.names.now in
    let x = c.in-Output.x in
    let ps = c.as_slice-in-Output.result.now in
    let mine = where_ (is_some (meaning_in ns x.name.text)) code.Duplicate x.name.at in
    let theirs = repeated_parameters c.declare-in-Output.new.names c.create-own.result (parameters_of ps) in
    let own : c.declare-in-Output.new.names ≡ with_name ns (x.name, is.Output (length x.parameters)) =
    c.in_ok-declare-in-Output.ensures.names ∙ ap (λ n. with_name ns (x.name, is.Output n)) c.len.ensures in
    let same : mine ++ theirs ≡ repeats ns c.args.declaration.now =
    ap₂ (λ l r. l ++ r) (sym (append-nil mine))
    (ap₂ (λ k l. repeated_parameters k c.create-own.result (parameters_of l)) own c.as_slice-in-Output.ensures
    ∙ ap (λ k. repeated_parameters (with_name ns (x.name, is.Output (length x.parameters))) k (parameters_of x.parameters)) c.create-own.ensures)
    ∙ ap (repeats ns) (sym c.in-Output.is) in
    ok_then c.declare_parameters.result _ _
    (λ h. subst (λ (rs : List Refusal). Finds rs c.args.found.now c.declare_parameters.new.found) same (finds_more _ _ _ mine theirs c.in_ok-declare-in-Output.ensures.found h))
    c.declare_parameters.ensures

pub returns-in_ok-declare-in-Output-clause-names : goal.returns-in_ok-declare-in-Output-clause-names
returns-in_ok-declare-in-Output-clause-names c =
    let ns = c.args.names.now in
    let x = c.in-Output.x in
    ok_of c.declare_parameters.result _
    (c.in_ok-declare-in-Output.ensures.names ∙ ap (λ n. with_name ns (x.name, is.Output n)) c.len.ensures ∙ ap (λ d. with_names ns (declared d)) (sym c.in-Output.is))
