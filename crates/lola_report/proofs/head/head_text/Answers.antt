-- The three stand one behind another at the end of the room.
use Rattle.std.proofs.Common.{◌≡◌, ◌-◌, ◌++◌, ◌∷◌, ℕ, List, length, arith, drop, take, OnOk, ap, subst, ◌∙◌}
use Rattle.std.specs.Fmt.{decimal}
use Rattle.std.proofs.lemmas.List.{take_rest}
use Rattle.lola_report.specs.Rows.{head_text}
use Rattle.lola_report.proofs.head.head_text.Goals as goal

pub returns-clause-ok : goal.returns-clause-ok
returns-clause-ok c =
    let row = c.args.row.now in
    let time = c.write_time-time in
    let number = c.write_number-number in
    let source = c.write_number-source in
    let all : drop source.result source.new.room ≡ head_text row =
    source.ensures.text ∙ ap (λ (l : List ℕ). decimal row.source ++ 44 ∷ l) (number.ensures.text ∙ ap (λ (l : List ℕ). decimal row.number ++ 44 ∷ l) time.ensures.text) in
    let long : 64 ≡ length source.new.room = omega arith in
    let appended : take (64 - source.result) (drop source.result source.new.room) ≡ head_text row = ap (λ n. take (n - source.result) (drop source.result source.new.room)) long ∙ take_rest source.new.room source.result ∙ all in
    let P : List ℕ → Type 0 = λ l. OnOk c.append.result (c.append.new.self ≡ c.args.to.now ++ l) in
    subst P appended c.append.ensures.ok
