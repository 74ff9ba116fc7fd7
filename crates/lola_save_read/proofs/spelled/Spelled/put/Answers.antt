use Rattle.std.proofs.Common.{ap, sym, ◌∙◌, not, List, ℕ}
use Rattle.lola_save_read.specs.Spelled.{has_words, with_words, words_in}
use Rattle.lola_save_read.proofs.SpelledParams.{words-found, words-put}
use Rattle.lola_save_read.proofs.spelled.Spelled.put.Goals as goal

pub returns-clause-fresh : goal.returns-clause-fresh
returns-clause-fresh c =
    let text = c.in_ok-text.text in
    c.in_ok-fresh.ensures.added ∙ ap not (sym (words-found text.items c.self.inside.entries.keys))
    ∙ ap (λ (l : List (List ℕ)). not (has_words l text.items)) c.self.view_is ∙ ap (λ (w : List ℕ). not (has_words c.args.self.now w)) c.in_ok-text.ensures.items

pub returns-clause-words : goal.returns-clause-words
returns-clause-words c =
    let text = c.in_ok-text.text in
    ap words_in c.in_ok-fresh.ensures.keys ∙ words-put c.self.inside.entries.keys text
    ∙ ap (λ (l : List (List ℕ)). with_words l text.items) c.self.view_is ∙ ap (λ (w : List ℕ). with_words c.args.self.now w) c.in_ok-text.ensures.items
