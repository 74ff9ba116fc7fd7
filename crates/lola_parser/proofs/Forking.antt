-- Where a bracket that is a nesting after all begins an expression, it stands behind the last `with`, which a spawn clause has.
use Rattle.std.proofs.Common.{◌≡◌, ℕ, Bool, true, false, ◌&&◌, ◌||◌, cond, List, [], ◌∷◌, ◌++◌, Option, Some, None, refl, sym, ap, ◌∙◌, append_assoc, inl, inr, subst}
use Rattle.std.proofs.lemmas.Bool.{and_parts}
use Rattle.lola_lexer.specs.declared.shape.TokenShape.TheVariants as is
use Rattle.lola_parser_grammar.specs.declared.expressions.Expr.{Expr}
use Rattle.lola_parser_grammar.specs.declared.declarations.Declaration.{Declaration}
use Rattle.lola_parser_grammar.specs.Syntax.{Lexeme, Terminal, Of, fits, any_fits, same_shape, within, Syntax, Past, Token, Nesting, Whole, Known, Then, Map, Either, Maybe, Many, Fork, Spells, max_nestings}
use Rattle.lola_parser_grammar.specs.Nestings.{nestings_in}
use Rattle.lola_parser_grammar.specs.Exceeding.{ExceedsAmong}
use Rattle.lola_parser_grammar.proofs.Tests.{shape_is}
use Rattle.lola_parser.specs.Late.{IsNextBehindBracket}
use Rattle.lola_parser_grammar.specs.declared.clauses.Part.{Part}
use Rattle.lola_parser_grammar.specs.declared.clauses.Spawn.{Spawn}
use Rattle.lola_parser_grammar.specs.declared.pacing.Pacing.{Pacing}
use Rattle.lola_parser_grammar.specs.Grammar as g
use Rattle.lola_parser_grammar.specs.Grammar.{all_nestings, expr_in, specification}
use Rattle.lola_parser.specs.Places.{Cut, cut_last, clause_words, is_spawn, behind_with}
use Rattle.lola_parser.specs.Law.{IsBehind}
use Rattle.lola_parser.proofs.Lacks.{words, cut_more, cut_here, not_here, front_none, none_append, none_in, fewer, expr_lacks, pacing_lacks, when_lacks}

-- ---- no such bracket

unfoldable pub forkless : {A : Type 0} → Syntax A → Bool
forkless (Past a) = true
forkless (Token k) = true
forkless (Nesting k) = true
forkless (Whole a) = true
forkless (Known fs ms a) = forkless a
forkless (Then a b) = forkless a && forkless b
forkless (Map f a) = forkless a
forkless (Either a b) = forkless a && forkless b
forkless (Maybe a) = forkless a
forkless (Many a) = forkless a
forkless (Fork ks a b c) = false

Never : {A : Type 0} → Syntax A → Type 0
Never {A} s = (u : List Lexeme) (t : Lexeme) (v : List Lexeme) (x : A) → IsNextBehindBracket all_nestings s u t v x → ⊥

pub never_among : {A : Type 0} (a : Syntax A) → ((u : List Lexeme) (t : Lexeme) (v : List Lexeme) (x : A) → IsNextBehindBracket all_nestings a u t v x → ⊥) → (u : List Lexeme) (t : Lexeme) (v : List Lexeme) (xs : List A) → ExceedsAmong (IsNextBehindBracket all_nestings a) (Spells a) u t v xs → ⊥
never_among a f u t v [] h = h
never_among a f u t v (x ∷ xs) (inl h) = f u t h.0 x h.3
never_among a f u t v (x ∷ xs) (inr h) = never_among a f h.1 t v xs h.4

pub never : {A : Type 0} (s : Syntax A) → forkless s ≡ true → (u : List Lexeme) (t : Lexeme) (v : List Lexeme) (x : A) → IsNextBehindBracket all_nestings s u t v x → ⊥
unfolding forkless IsNextBehindBracket
never (Past a) f u t v x h = h
never (Token k) f u t v x h = h
never (Nesting k) f u t v x h = h
never (Whole a) f u t v x h = h
never (Known fs ms a) f u t v x h = never a f u t v x h
never (Then a b) f u t v x (inl h) = never a (and_parts (forkless a) (forkless b) f).0 u t h.0 x.0 h.3
never (Then a b) f u t v x (inr h) = never b (and_parts (forkless a) (forkless b) f).1 h.1 t v x.1 h.4
never (Map g a) f u t v y h = never a f u t v h.0 h.2
never (Either a b) f u t v x (inl h) = never a (and_parts (forkless a) (forkless b) f).0 u t v x h
never (Either a b) f u t v x (inr h) = never b (and_parts (forkless a) (forkless b) f).1 u t v x h
never (Maybe a) f u t v None h = h
never (Maybe a) f u t v (Some x) h = never a f u t v x h
never (Many a) f u t v xs h = never_among a (never a f) u t v xs h
never (Fork ks a b c) f u t v x h = absurd cc

-- ---- a longer front

pub behind_more : (pre u : List Lexeme) → IsBehind u → IsBehind (pre ++ u)
behind_more pre u h = by (cut_last (Of is.With ∷ []) u) refl h.1
  where
    spawn_more : (a : List Lexeme) (c : Cut) → cut_last clause_words a ≡ c → is_spawn c ≡ true → is_spawn (cut_last clause_words (pre ++ a)) ≡ true
    spawn_more a None e s = absurd cc
    spawn_more a (Some k) e s = ap is_spawn (cut_more clause_words pre a k.0 k.1 k.2 e) ∙ s

    kept : (b c : Bool) (o : Option (List Lexeme)) (head : List Lexeme) → (b ≡ true → c ≡ true) → cond b o None ≡ Some head → cond c o None ≡ Some head
    kept true c o head f e = rw (f refl) e
    kept false c o head f e = absurd cc

    by : (k : Cut) → cut_last (Of is.With ∷ []) u ≡ k → behind_with (cut_last (Of is.With ∷ []) u) ≡ Some h.0 → IsBehind (pre ++ u)
    by None e s = absurd (let q : behind_with (cut_last (Of is.With ∷ []) u) ≡ None = ap behind_with e in cc)
    by (Some k) e s =
        let there = ap behind_with (cut_more (Of is.With ∷ []) pre u k.0 k.1 k.2 e) in
        let was = sym (ap behind_with e) ∙ s in
        (h.0, there ∙ kept (is_spawn (cut_last clause_words k.0)) (is_spawn (cut_last clause_words (pre ++ k.0))) _ h.0 (spawn_more k.0 (cut_last clause_words k.0) refl) was, h.2)

-- ---- each part of the grammar

open_no_with : (o : Lexeme) → fits (Of is.Open) o ≡ true → any_fits (Of is.With ∷ []) o ≡ false
unfolding fits same_shape
open_no_with o h = ap (λ s. same_shape is.With s || false) (sym (shape_is is.Open o.shape h))

with_there : (k : Terminal) (t : Lexeme) → fits k t ≡ true → any_fits (k ∷ []) t ≡ true
with_there k t h = rw h refl

spawn_there : (t : Lexeme) → fits (Of is.Spawn) t ≡ true → any_fits clause_words t ≡ true
spawn_there t h = rw h refl

with_within : within (Of is.With ∷ []) words ≡ true
unfolding same_shape
with_within = refl

clause_within : within clause_words words ≡ true
unfolding same_shape
clause_within = refl

-- a spawn clause up to the bracket behind its `with`, and what stands behind it
spawned : (sp : Lexeme) (a b : List Lexeme) (wt o : Lexeme) (head : List Lexeme) → fits (Of is.Spawn) sp ≡ true → cut_last words a ≡ None → cut_last words b ≡ None → fits (Of is.With) wt ≡ true → fits (Of is.Open) o ≡ true
    → cut_last words head ≡ None → nestings_in all_nestings head ≡ max_nestings → IsBehind ((sp ∷ (a ++ b)) ++ wt ∷ (o ∷ head))
spawned sp a b wt o head s na nb w op nh m =
    let tail : cut_last (Of is.With ∷ []) (o ∷ head) ≡ None = not_here (Of is.With ∷ []) o head (open_no_with o op) (fewer (Of is.With ∷ []) words with_within head nh) in
    let cut = cut_more (Of is.With ∷ []) (sp ∷ (a ++ b)) (wt ∷ (o ∷ head)) [] wt (o ∷ head) (cut_here (Of is.With ∷ []) wt (o ∷ head) (with_there (Of is.With) wt w) tail) in
    let none : cut_last clause_words ((a ++ b) ++ []) ≡ None = none_append clause_words (a ++ b) [] (none_append clause_words a b (fewer clause_words words clause_within a na) (fewer clause_words words clause_within b nb)) refl in
    let last : cut_last clause_words (sp ∷ ((a ++ b) ++ [])) ≡ Some ([], sp, (a ++ b) ++ []) = cut_here clause_words sp ((a ++ b) ++ []) (spawn_there sp s) none in
    let is : is_spawn (cut_last clause_words (sp ∷ ((a ++ b) ++ []))) ≡ true = ap is_spawn last ∙ s in
    (head, ap behind_with cut ∙ rw (is, op) refl, m)

module _ {A B : Type 0} (a : Syntax A) (b : Syntax B) where
  then_right : forkless a ≡ true → ((z : List Lexeme) (t : Lexeme) (v : List Lexeme) (y : B) → IsNextBehindBracket all_nestings b z t v y → IsBehind z)
      → (u : List Lexeme) (t : Lexeme) (v : List Lexeme) (x : A × B) → IsNextBehindBracket all_nestings (Then a b) u t v x → IsBehind u
  unfolding IsNextBehindBracket
  then_right f next u t v x (inl h) = absurd (never a f u t h.0 x.0 h.3)
  then_right f next u t v x (inr h) = subst IsBehind (sym h.2) (behind_more h.0 h.1 (next h.1 t v x.1 h.4))

  then_left : forkless b ≡ true → ((z : List Lexeme) (t : Lexeme) (v : List Lexeme) (y : A) → IsNextBehindBracket all_nestings a z t v y → IsBehind z)
      → (u : List Lexeme) (t : Lexeme) (v : List Lexeme) (x : A × B) → IsNextBehindBracket all_nestings (Then a b) u t v x → IsBehind u
  unfolding IsNextBehindBracket
  then_left f next u t v x (inl h) = next u t h.0 x.0 h.3
  then_left f next u t v x (inr h) = absurd (never b f h.1 t v x.1 h.4)

-- behind one token
Behind : {A : Type 0} → Syntax A → List Lexeme → Lexeme → List Lexeme → Type 0
Behind {A} s u t v = (x : A) × IsNextBehindBracket all_nestings s u t v x

output_never : forkless (g.token is.Output) ≡ true
unfolding forkless g.token
output_never = refl

name_never : forkless g.name ≡ true
unfolding forkless g.name
name_never = refl

parameters_never : forkless (Maybe g.parameters) ≡ true
unfolding forkless g.parameters g.typed g.token g.name
parameters_never = refl

kind_never : forkless (Maybe g.kind) ≡ true
unfolding forkless g.kind g.token g.name
kind_never = refl

module _ (n : ℕ) where
  more_never : forkless (g.more_parts n) ≡ true
  unfolding forkless g.more_parts g.part_behind g.whole g.token
  more_never = refl

  abbrev Headed : List Lexeme → Type 0
  Headed u = (cut_last words u ≡ None) × (nestings_in all_nestings u ≡ max_nestings)

  at_forked : (u : List Lexeme) (t : Lexeme) (v : List Lexeme) (x : Expr × g.Parts) → IsNextBehindBracket all_nestings (g.forked n) u t v x → Headed u
  unfolding g.forked IsNextBehindBracket
  at_forked u t v x (inl h) = (front_none words u (t ∷ h.0) (none_in words (expr_in n) (expr_lacks n) (u ++ t ∷ h.0) x.0 h.3), h.5)
  at_forked u t v x (inr h) = absurd (never (g.more_parts n) more_never h.1 t v x.1 h.4)

  abbrev Opened : List Lexeme → Type 0
  Opened u = (o : Lexeme) × (head : List Lexeme) × (u ≡ o ∷ head) × (fits (Of is.Open) o ≡ true) × Headed head

  at_open : (u : List Lexeme) (t : Lexeme) (v : List Lexeme) (x : ℕ × (Expr × g.Parts)) → IsNextBehindBracket all_nestings (Then (g.token is.Open) (g.forked n)) u t v x → Opened u
  unfolding g.token Spells IsNextBehindBracket
  at_open u t v x (inl h) = absurd h.3.2
  at_open u t v x (inr h) = (h.3.0, h.1, h.2 ∙ ap (λ (w : List Lexeme). w ++ h.1) h.3.2.0, h.3.2.1, at_forked h.1 t v x.1 h.4)

  at_parts : (u : List Lexeme) (t : Lexeme) (v : List Lexeme) (x : ℕ → List Part) → IsNextBehindBracket all_nestings (g.parts n) u t v x → Opened u
  unfolding g.parts g.whole_unbracketed IsNextBehindBracket
  at_parts u t v x (inl h) = at_open u t v h.0 h.2
  at_parts u t v x (inr h) = absurd h.2

  abbrev Led : List Lexeme → Type 0
  Led u = (wt : Lexeme) × (z : List Lexeme) × (u ≡ wt ∷ z) × (fits (Of is.With) wt ≡ true) × Opened z

  at_then_with : (u : List Lexeme) (t : Lexeme) (v : List Lexeme) (x : ℕ × (ℕ → List Part)) → IsNextBehindBracket all_nestings (Then (g.token is.With) (g.parts n)) u t v x → Led u
  unfolding g.token Spells IsNextBehindBracket
  at_then_with u t v x (inl h) = absurd h.3.2
  at_then_with u t v x (inr h) = (h.3.0, h.1, h.2 ∙ ap (λ (w : List Lexeme). w ++ h.1) h.3.2.0, h.3.2.1, at_parts h.1 t v x.1 h.4)

  at_maybe_with : (u : List Lexeme) (t : Lexeme) (v : List Lexeme) (x : Option (List Part)) → IsNextBehindBracket all_nestings (Maybe (g.with_parts n)) u t v x → Led u
  unfolding g.with_parts IsNextBehindBracket
  at_maybe_with u t v None h = absurd h
  at_maybe_with u t v (Some x) h = at_then_with u t v h.0 h.2

  abbrev Conditioned : List Lexeme → Type 0
  Conditioned u = (b : List Lexeme) × (z : List Lexeme) × (u ≡ b ++ z) × (cut_last words b ≡ None) × Led z

  when_never : forkless (Maybe (g.part_behind n is.When)) ≡ true
  unfolding forkless g.part_behind g.whole g.token
  when_never = refl

  pacing_never : forkless (Maybe (g.pacing n)) ≡ true
  unfolding forkless g.pacing g.rhythm g.whole_formula g.clock g.quantity g.other_name g.token g.word
  pacing_never = refl

  at_when : (u : List Lexeme) (t : Lexeme) (v : List Lexeme) (x : Option Part × Option (List Part)) → IsNextBehindBracket all_nestings (Then (Maybe (g.part_behind n is.When)) (Maybe (g.with_parts n))) u t v x → Conditioned u
  unfolding IsNextBehindBracket
  at_when u t v x (inl h) = absurd (never (Maybe (g.part_behind n is.When)) when_never u t h.0 x.0 h.3)
  at_when u t v x (inr h) = (h.0, h.1, h.2, none_in words (Maybe (g.part_behind n is.When)) (when_lacks n) h.0 x.0 h.3, at_maybe_with h.1 t v x.1 h.4)

  abbrev Paced : List Lexeme → Type 0
  Paced u = (a : List Lexeme) × (z : List Lexeme) × (u ≡ a ++ z) × (cut_last words a ≡ None) × Conditioned z

  at_pacing : (u : List Lexeme) (t : Lexeme) (v : List Lexeme) (x : Option Pacing × (Option Part × Option (List Part)))
      → IsNextBehindBracket all_nestings (Then (Maybe (g.pacing n)) (Then (Maybe (g.part_behind n is.When)) (Maybe (g.with_parts n)))) u t v x → Paced u
  unfolding IsNextBehindBracket
  at_pacing u t v x (inl h) = absurd (never (Maybe (g.pacing n)) pacing_never u t h.0 x.0 h.3)
  at_pacing u t v x (inr h) = (h.0, h.1, h.2, none_in words (Maybe (g.pacing n)) (pacing_lacks n) h.0 x.0 h.3, at_when h.1 t v x.1 h.4)

  joined : (sp : Lexeme) (z : List Lexeme) → fits (Of is.Spawn) sp ≡ true → Paced z → IsBehind (sp ∷ z)
  joined sp z s h =
      let c = h.4 in
      let l = c.4 in
      let o = l.4 in
      let whole : z ≡ (h.0 ++ c.0) ++ l.0 ∷ (o.0 ∷ o.1) =
      h.2 ∙ ap (λ (w : List Lexeme). h.0 ++ w) (c.2 ∙ ap (λ (w : List Lexeme). c.0 ++ w) (l.2 ∙ ap (λ (w : List Lexeme). l.0 ∷ w) o.2)) ∙ sym (append_assoc h.0 c.0 (l.0 ∷ (o.0 ∷ o.1))) in
      subst (λ (w : List Lexeme). IsBehind (sp ∷ w)) (sym whole) (spawned sp h.0 c.0 l.0 o.0 o.1 s h.3 c.3 l.3 o.3 o.4.0 o.4.1)

  at_then_spawn : (u : List Lexeme) (t : Lexeme) (v : List Lexeme) (x : ℕ × (Option Pacing × (Option Part × Option (List Part))))
      → IsNextBehindBracket all_nestings (Then (g.token is.Spawn) (Then (Maybe (g.pacing n)) (Then (Maybe (g.part_behind n is.When)) (Maybe (g.with_parts n))))) u t v x → IsBehind u
  unfolding g.token Spells IsNextBehindBracket
  at_then_spawn u t v x (inl h) = absurd h.3.2
  at_then_spawn u t v x (inr h) =
      let whole : u ≡ h.3.0 ∷ h.1 = h.2 ∙ ap (λ (w : List Lexeme). w ++ h.1) h.3.2.0 in
      subst IsBehind (sym whole) (joined h.3.0 h.1 h.3.2.1 (at_pacing h.1 t v x.1 h.4))

  at_spawn : (u : List Lexeme) (t : Lexeme) (v : List Lexeme) (x : Spawn) → IsNextBehindBracket all_nestings (g.spawn n) u t v x → IsBehind u
  unfolding g.spawn IsNextBehindBracket
  at_spawn u t v x h = at_then_spawn u t v h.0 h.2

  after_never : forkless (Then (g.eval n) (Maybe (g.close n))) ≡ true
  unfolding forkless g.eval g.close g.pacing g.rhythm g.whole_formula g.clock g.quantity g.other_name g.token g.word g.part_behind g.whole
  after_never = refl

  short_never : forkless (g.short_eval n) ≡ true
  unfolding forkless g.short_eval g.pacing g.rhythm g.whole_formula g.clock g.quantity g.other_name g.token g.word g.part_behind g.whole
  short_never = refl

  eval_never : forkless (g.eval n) ≡ true
  unfolding forkless g.eval g.pacing g.rhythm g.whole_formula g.clock g.quantity g.other_name g.token g.word g.part_behind g.whole
  eval_never = refl

  at_body : (u : List Lexeme) (t : Lexeme) (v : List Lexeme) (x : g.Body) → IsNextBehindBracket all_nestings (g.body n) u t v x → IsBehind u
  unfolding g.body IsNextBehindBracket
  at_body u t v x (inl h) = absurd (never (g.short_eval n) short_never u t v h.0 h.2)
  at_body u t v x (inr (inl h)) = absurd (never (g.eval n) eval_never u t v h.0 h.2)
  at_body u t v x (inr (inr h)) = then_left (g.spawn n) (Then (g.eval n) (Maybe (g.close n))) after_never at_spawn u t v h.0 h.2

  at_output : (u : List Lexeme) (t : Lexeme) (v : List Lexeme) (x : Declaration) → IsNextBehindBracket all_nestings (g.output n) u t v x → IsBehind u
  unfolding g.output IsNextBehindBracket
  at_output u t v x h =
      then_right (g.token is.Output) _ output_never (then_right g.name _ name_never (then_right (Maybe g.parameters) _ parameters_never (then_right (Maybe g.kind) (g.body n) kind_never at_body))) u t v h.0 h.2

  constant_never : forkless g.constant ≡ true
  unfolding forkless g.constant g.token g.name g.literal g.integer g.word_literal g.text
  constant_never = refl

  inputs_never : forkless g.inputs ≡ true
  unfolding forkless g.inputs g.typed g.token g.name
  inputs_never = refl

  trigger_never : forkless (g.trigger n) ≡ true
  unfolding forkless g.trigger g.pacing g.rhythm g.whole_formula g.clock g.quantity g.other_name g.token g.word g.whole g.message g.text
  trigger_never = refl

  at_declaration : (u : List Lexeme) (t : Lexeme) (v : List Lexeme) (x : Declaration) → IsNextBehindBracket all_nestings (g.declaration n) u t v x → IsBehind u
  unfolding g.declaration IsNextBehindBracket
  at_declaration u t v x (inl h) = absurd (never g.inputs inputs_never u t v x h)
  at_declaration u t v x (inr (inl h)) = absurd (never g.constant constant_never u t v x h)
  at_declaration u t v x (inr (inr (inl h))) = at_output u t v x h
  at_declaration u t v x (inr (inr (inr h))) = absurd (never (g.trigger n) trigger_never u t v x h)

  at_some : (u : List Lexeme) (t : Lexeme) (v : List Lexeme) (xs : List Declaration) → ExceedsAmong (IsNextBehindBracket all_nestings (g.declaration n)) (Spells (g.declaration n)) u t v xs → IsBehind u
  at_some u t v [] h = absurd h
  at_some u t v (x ∷ xs) (inl h) = at_declaration u t h.0 x h.3
  at_some u t v (x ∷ xs) (inr h) = subst IsBehind (sym h.2) (behind_more h.0 h.1 (at_some h.1 t v xs h.4))

  pub next_is_behind : (u : List Lexeme) (t : Lexeme) (v : List Lexeme) (xs : List Declaration) → IsNextBehindBracket all_nestings (specification n) u t v xs → IsBehind u
  unfolding g.specification IsNextBehindBracket
  next_is_behind u t v xs h = at_some u t v xs h
