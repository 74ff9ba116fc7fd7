use Rattle.std.proofs.Common.{◌-◌, ◌∷◌, [], ◌++◌, max, length, take, drop, ◌≡◌, arith, ◌∙◌, ap}
use Rattle.std.proofs.lemmas.List.{take_rest}
use Rattle.lola_parser_print.specs.Print.{zeros, padded, pointed}
use Rattle.lola_parser_print.proofs.Writing.{ends_bytes}
use Rattle.lola_parser_print.proofs.Digits.{cut_low, cut_high}
use Rattle.lola_parser_print.proofs.tokens.put_digits.Goals as goal

pub returns-in_ok-put_behind_zeros : goal.returns-in_ok-put_behind_zeros
returns-in_ok-put_behind_zeros c =
    let ds = c.args.digits.now in
    let pad = c.saturating_sub-pad.result in
    let cut = c.saturating_sub-cut.result in
    let cut_is : cut ≡ max c.args.count (length ds) - c.args.decimals = c.saturating_sub-cut.ensures ∙ ap (λ n. n - c.args.decimals) c.max.ensures in
    ends_bytes c.put_behind_zeros-then-cut-pad-2.result _ _ _ (zeros cut ++ 46 ∷ []) (zeros (pad - cut) ++ ds) (pointed c.args.decimals (padded c.args.count ds))
    (cut_low c.args.count c.args.decimals ds pad cut c.saturating_sub-pad.ensures cut_is (omega arith) c.if-cut-pad.true)
    c.in_ok-put_behind_zeros.ensures c.put_behind_zeros-then-cut-pad-2.ensures

pub returns-in_ok-put_behind_zeros-2 : goal.returns-in_ok-put_behind_zeros-2
returns-in_ok-put_behind_zeros-2 c =
    let ds = c.args.digits.now in
    let pad = c.saturating_sub-pad.result in
    let cut = c.saturating_sub-cut.result in
    let cut_is : cut ≡ max c.args.count (length ds) - c.args.decimals = c.saturating_sub-cut.ensures ∙ ap (λ n. n - c.args.decimals) c.max.ensures in
    ends_bytes c.put_behind_point.result _ _ _ (zeros pad ++ take (cut - pad) ds) (46 ∷ drop (cut - pad) ds) (pointed c.args.decimals (padded c.args.count ds))
    (cut_high c.args.count c.args.decimals ds pad cut c.saturating_sub-pad.ensures cut_is (omega arith) c.if-cut-pad.false)
    c.in_ok-put_behind_zeros-2.ensures (rw take_rest at c.put_behind_point.ensures)
