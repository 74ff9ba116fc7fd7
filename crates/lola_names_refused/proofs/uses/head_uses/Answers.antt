use Rattle.std.proofs.Common.{◌≡◌, ◌++◌, List, nat_eq, subst, ap₂}
use Rattle.lola_value.specs.declared.front.Refusal.{Refusal}
use Rattle.lola_value.specs.declared.front.Code.TheVariants as code
use Rattle.lola_names_refused.specs.Noted.{Finds}
use Rattle.lola_names_refused.specs.Refused as refused
use Rattle.lola_names_refused.proofs.Noting.{finds_more}
use Rattle.lola_names_refused.proofs.uses.head_uses.Goals as goal

pub returns : goal.returns
returns c =
    let o = c.args.output.now in
    let p = c.as_slice.result.now in
    let q = c.as_slice-2.result.now in
    let fifth = refused.too_many 4 (refused.places_of p) in
    let theirs = refused.kind_uses q in
    let own = refused.of_option refused.kind_use o.kind in
    let spawned = refused.unless (nat_eq c.count_spawned.result c.len.result) code.BadArity o.name.at in
    let same : fifth ++ (theirs ++ (own ++ spawned)) ≡ refused.head_uses o =
    ap₂ (λ l r. refused.too_many 4 (refused.places_of l) ++ r) c.as_slice.ensures
    (ap₂ (λ l r. refused.kind_uses l ++ (own ++ r)) c.as_slice-2.ensures
    (ap₂ (λ m n. refused.unless (nat_eq m n) code.BadArity o.name.at) c.count_spawned.ensures c.len.ensures)) in
    subst (λ (rs : List Refusal). Finds rs c.args.found.now c.note_unless.new.found) same
    (finds_more _ _ _ fifth (theirs ++ (own ++ spawned)) c.fifth_parameter.ensures
    (finds_more _ _ _ theirs (own ++ spawned) c.kind_uses.ensures (finds_more _ _ _ own spawned c.own_kind_use.ensures c.note_unless.ensures)))
