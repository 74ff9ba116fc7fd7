use Rattle.std.proofs.Common.{◌≡◌, sym, ap, ◌∙◌, ◌+◌, drop, map, false, Bool, ℕ, string_bytes, if◌then◌else◌}
use Rattle.std.specs.List.{slice_get}
use Rattle.lola_monitor_command.specs.Said.{with_front, thing_of, said_from}
use Rattle.lola_monitor_command.specs.declared.said.WordSense.TheVariants as thing
use Rattle.lola_monitor_command.proofs.Goes.{word_in_front, wrong_goes, dashes_go, says_goes, regroup}
use Rattle.lola_monitor_command.proofs.words.all_said.Goals.{then-takes_next, else-takes_next}
use Rattle.lola_monitor_command.proofs.words.all_said.Goals as goal

-- how many words an option takes
abbrev steps_by : Bool → ℕ
steps_by b = if b then 2 else 1

pub returns-in-Wrong : goal.returns-in-Wrong
returns-in-Wrong c =
    let ws = map string_bytes c.args.words.now in
    let front = word_in_front string_bytes c.args.words.now c.loop-at.at c.index-words-at.result c.loop-at-test.true (sym c.index-words-at.is) in
    let is : thing_of c.loop-at.at (string_bytes c.index-words-at.result) (slice_get ws (c.loop-at.at + 1)) ≡ thing.Wrong = rw (← c.as_bytes.ensures.value, ← c.word_behind.ensures) (sym c.thing.ensures ∙ c.in-Wrong.is) in
    sym (ap (with_front c.loop-at.said) (wrong_goes ws (string_bytes c.index-words-at.result) c.loop-at.at front is)) ∙ c.loop-at.invariant

pub returns-in-Dashes : goal.returns-in-Dashes
returns-in-Dashes c =
    let ws = map string_bytes c.args.words.now in
    let front = word_in_front string_bytes c.args.words.now c.loop-at.at c.index-words-at.result c.loop-at-test.true (sym c.index-words-at.is) in
    let is : thing_of c.loop-at.at (string_bytes c.index-words-at.result) (slice_get ws (c.loop-at.at + 1)) ≡ thing.Dashes = rw (← c.as_bytes.ensures.value, ← c.word_behind.ensures) (sym c.thing.ensures ∙ c.in-Dashes.is) in
    rw (c.in_ok-push_names-in-Dashes.ensures) (sym (ap (with_front c.loop-at.said) (dashes_go ws (string_bytes c.index-words-at.result) c.loop-at.at front is)) ∙ c.loop-at.invariant)

pub loop-at-preserved : goal.loop-at-preserved
loop-at-preserved c =
    let ws = map string_bytes c.args.words.now in
    let w = string_bytes c.index-words-at.result in
    let at = c.loop-at.at in
    let front = word_in_front string_bytes c.args.words.now at c.index-words-at.result c.loop-at-test.true (sym c.index-words-at.is) in
    let is : thing_of at w (slice_get ws (at + 1)) ≡ thing.Says c.in-Says.one c.in-Says.takes_next = rw (← c.as_bytes.ensures.value, ← c.word_behind.ensures) (sym c.thing.ensures ∙ c.in-Says.is) in
    let step : c.if-takes_next.at ≡ (if c.in-Says.takes_next then 2 else 1) =
    elim c.if-takes_next.branch [ then-takes_next b ↦ b.at-is ∙ ap steps_by (sym b.if-takes_next.true) | else-takes_next b ↦ b.at-is ∙ ap steps_by (sym b.if-takes_next.false) ] in
    rw (c.in_ok-push-in-Says.ensures.ok, step)
    (regroup c.loop-at.said c.in-Says.one (said_from false (at + (if c.in-Says.takes_next then 2 else 1)) (drop (at + (if c.in-Says.takes_next then 2 else 1)) ws))
    ∙ sym (ap (with_front c.loop-at.said) (says_goes ws w at front c.in-Says.one c.in-Says.takes_next is)) ∙ c.loop-at.invariant)
