use Rattle.std.proofs.Common.{[], ◌++◌, ap, subst, List}
use Rattle.std.specs.List.{flat_map}
use Rattle.lola_value.specs.declared.front.Refusal.{Refusal}
use Rattle.lola_names_refused.specs.Noted.{Finds}
use Rattle.lola_names_refused.specs.Refused.{all_repeats, too_many, input_places, stream_places, declaration_uses}
use Rattle.lola_names_refused.proofs.Noting.{finds_more, ok_then}
use Rattle.lola_names_refused.proofs.refusing.note_all.Goals as goal

pub returns : goal.returns
returns c =
    let ds = c.args.declarations.now in
    let old = c.args.found.now in
    let new = c.all_uses.new.found in
    let twice = all_repeats [] ds in
    let inputs = too_many 64 (flat_map input_places ds) in
    let streams = too_many 1024 (flat_map stream_places ds) in
    let used = flat_map (declaration_uses c.in_ok-names.names) ds in
    ok_then c.all_uses.result (Finds used c.too_many_streams.new.found new) _
    (λ found.
    subst (λ (rs : List Refusal). Finds rs old new) (ap (λ names. twice ++ (inputs ++ (streams ++ flat_map (declaration_uses names) ds))) c.in_ok-names.ensures.names)
    (finds_more _ _ _ twice (inputs ++ (streams ++ used)) c.in_ok-names.ensures.found
    (finds_more _ _ _ inputs (streams ++ used) c.in_ok-too_many_inputs.ensures (finds_more _ _ _ streams used c.in_ok-too_many_streams.ensures found))))
    c.all_uses.ensures
