-- The names of a plan's streams are words, and its verdicts lines.
use Rattle.std.proofs.Common.{ℕ, List, slice_get}
use Rattle.std.specs.List.{All}
use Rattle.lola_model.specs.declared.plan.Plan.{Plan}
use Rattle.lola_report.proofs.LineForms.{verdict_line}
use Rattle.lola_parser_grammar.specs.Whole.{most_levels}
use Rattle.lola_parser_grammar.specs.Cursor.{lexemes}
use Rattle.lola_front.specs.Front.{IsPlanOf}
use Rattle.lola_front_law.specs.OneLine.{IsWordStream, HasOneLines}
use Rattle.lola_front_law.proofs.NameTokens.{tokens_worded}
use Rattle.lola_front_law.proofs.DeclaredWords.{Each, declared_words}
use Rattle.lola_front_law.proofs.StreamWords.{each_all, full_words}
use Rattle.lola_front_law.proofs.VerdictLines.{plain_name, table_all}

words_of : (bytes : List ℕ) (plan : Plan) → IsPlanOf bytes plan → Each IsWordStream plan.spec.streams
words_of bytes plan p =
    let resolved = p.full.resolved in
    let read = resolved.read in
    let declared = declared_words most_levels (lexemes bytes read.tokens) resolved.declarations (tokens_worded bytes read.tokens read.cut.are) read.read in
    full_words resolved.declarations p.full.spec plan.spec declared resolved.resolves p.full.filled

pub names_are_words : (bytes : List ℕ) (plan : Plan) → IsPlanOf bytes plan → All IsWordStream plan.spec.streams
names_are_words bytes plan p = each_all plan.spec.streams (words_of bytes plan p)

pub has_one_lines : (bytes : List ℕ) (plan : Plan) → IsPlanOf bytes plan → HasOneLines plan
has_one_lines bytes plan p =
    let words = words_of bytes plan p in
    record {
      of_value = λ stream time params value shown. verdict_line (slice_get plan.spec.streams stream) time params value shown (plain_name plan.spec.streams stream words);
      of_table = λ show rows. table_all show plan.spec.streams rows words;
    }
