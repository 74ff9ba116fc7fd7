-- Parts of the grammar in which no bracket shows only behind its end that it is a nesting.
use Rattle.std.proofs.Common.{◌≡◌, ℕ, suc, true, List, ◌∷◌, ◌++◌, refl}
use Rattle.lola_lexer.specs.declared.shape.TokenShape.TheVariants as is
use Rattle.lola_parser_grammar.specs.Syntax.{Lexeme, Syntax, Then, Maybe, Spells, max_nestings}
use Rattle.lola_parser.specs.Late.{IsNextBehindBracket}
use Rattle.lola_parser.proofs.Keeps.{nesting_spells}
use Rattle.lola_parser.proofs.Place.{next_nesting}
use Rattle.lola_parser_grammar.specs.Grammar as g
use Rattle.lola_parser_grammar.specs.Grammar.{all_nestings}
use Rattle.lola_parser.proofs.Forking.{forkless, never}

abbrev pub Never : {A : Type 0} → Syntax A → Type 0
Never {A} s = (u : List Lexeme) (t : Lexeme) (v : List Lexeme) (x : A) → IsNextBehindBracket all_nestings s u t v x → ⊥

pub next_spells : {A : Type 0} (s : Syntax A) (u : List Lexeme) (t : Lexeme) (v : List Lexeme) (x : A) → IsNextBehindBracket all_nestings s u t v x → Spells s (u ++ t ∷ v) x
next_spells s u t v x h = nesting_spells all_nestings s (suc max_nestings) u t v x (next_nesting all_nestings s u t v x h)

-- ---- parts of specifications

output_forkless : forkless (g.token is.Output) ≡ true
unfolding forkless g.token
output_forkless = refl

pub output_never : Never (g.token is.Output)
output_never = never (g.token is.Output) (output_forkless)

name_forkless : forkless g.name ≡ true
unfolding forkless g.name
name_forkless = refl

pub name_never : Never g.name
name_never = never g.name (name_forkless)

parameters_forkless : forkless (Maybe g.parameters) ≡ true
unfolding forkless g.parameters g.typed g.token g.name
parameters_forkless = refl

pub parameters_never : Never (Maybe g.parameters)
parameters_never = never (Maybe g.parameters) (parameters_forkless)

kind_forkless : forkless (Maybe g.kind) ≡ true
unfolding forkless g.kind g.token g.name
kind_forkless = refl

pub kind_never : Never (Maybe g.kind)
kind_never = never (Maybe g.kind) (kind_forkless)

more_forkless : (n : ℕ) → forkless (g.more_parts n) ≡ true
unfolding forkless g.more_parts g.part_behind g.whole g.token
more_forkless n = refl

pub more_never : (n : ℕ) → Never (g.more_parts n)
more_never n = never (g.more_parts n) (more_forkless n)

when_forkless : (n : ℕ) → forkless (Maybe (g.part_behind n is.When)) ≡ true
unfolding forkless g.part_behind g.whole g.token
when_forkless n = refl

pub when_never : (n : ℕ) → Never (Maybe (g.part_behind n is.When))
when_never n = never (Maybe (g.part_behind n is.When)) (when_forkless n)

pacing_forkless : (n : ℕ) → forkless (Maybe (g.pacing n)) ≡ true
unfolding forkless g.pacing g.rhythm g.whole_formula g.clock g.quantity g.other_name g.token g.word
pacing_forkless n = refl

pub pacing_never : (n : ℕ) → Never (Maybe (g.pacing n))
pacing_never n = never (Maybe (g.pacing n)) (pacing_forkless n)

after_forkless : (n : ℕ) → forkless (Then (g.eval n) (Maybe (g.close n))) ≡ true
unfolding forkless g.eval g.close g.pacing g.rhythm g.whole_formula g.clock g.quantity g.other_name g.token g.word g.part_behind g.whole
after_forkless n = refl

pub after_never : (n : ℕ) → Never (Then (g.eval n) (Maybe (g.close n)))
after_never n = never (Then (g.eval n) (Maybe (g.close n))) (after_forkless n)

short_forkless : (n : ℕ) → forkless (g.short_eval n) ≡ true
unfolding forkless g.short_eval g.pacing g.rhythm g.whole_formula g.clock g.quantity g.other_name g.token g.word g.part_behind g.whole
short_forkless n = refl

pub short_never : (n : ℕ) → Never (g.short_eval n)
short_never n = never (g.short_eval n) (short_forkless n)

eval_forkless : (n : ℕ) → forkless (g.eval n) ≡ true
unfolding forkless g.eval g.pacing g.rhythm g.whole_formula g.clock g.quantity g.other_name g.token g.word g.part_behind g.whole
eval_forkless n = refl

pub eval_never : (n : ℕ) → Never (g.eval n)
eval_never n = never (g.eval n) (eval_forkless n)

constant_forkless : forkless g.constant ≡ true
unfolding forkless g.constant g.token g.name g.literal g.integer g.word_literal g.text
constant_forkless = refl

pub constant_never : Never g.constant
constant_never = never g.constant (constant_forkless)

inputs_forkless : forkless g.inputs ≡ true
unfolding forkless g.inputs g.typed g.token g.name
inputs_forkless = refl

pub inputs_never : Never g.inputs
inputs_never = never g.inputs (inputs_forkless)

trigger_forkless : (n : ℕ) → forkless (g.trigger n) ≡ true
unfolding forkless g.trigger g.pacing g.rhythm g.whole_formula g.clock g.quantity g.other_name g.token g.word g.whole g.message g.text
trigger_forkless n = refl

pub trigger_never : (n : ℕ) → Never (g.trigger n)
trigger_never n = never (g.trigger n) (trigger_forkless n)
