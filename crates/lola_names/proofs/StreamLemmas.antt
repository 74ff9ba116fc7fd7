-- Streams from their clauses, and the streams of all declarations.
use Rattle.std.proofs.Common.{◌≡◌, ℕ, suc, ◌+◌, ◌<◌, ◌≤◌, List, [], ◌∷◌, ◌++◌, length, get_or, drop, map, refl, sym, ap, subst, ◌∙◌, append_assoc, append-nil, add-zero, length-append}
use Rattle.lola_parser_grammar.specs.declared.literals.Typed.{Typed}
use Rattle.lola_parser_grammar.specs.declared.declarations.Inputs.{Inputs}
use Rattle.lola_parser_grammar.specs.declared.declarations.Constant.{Constant as TreeConstant}
use Rattle.lola_parser_grammar.specs.declared.declarations.Declaration.{Declaration}
use Rattle.lola_parser_grammar.specs.declared.declarations.Declaration.TheVariants as d
use Rattle.lola_parser_grammar.specs.declared.declarations.Output.{Output}
use Rattle.lola_parser_grammar.specs.declared.declarations.Trigger.{Trigger}
use Rattle.lola_model.specs.Parts.{listed_streams}
use Rattle.lola_model.specs.Named.{window_number, literal_text}
use Rattle.lola_model.specs.declared.expr.Expr.{Expr}
use Rattle.lola_model.specs.declared.spec.Stream.{Stream}
use Rattle.lola_model.specs.declared.spec.WindowSpec.{WindowSpec}
use Rattle.lola_names_refused.specs.Table.{meaning_in}
use Rattle.lola_names.specs.Clauses.{IsOutput, IsTrigger, input_stream}
use Rattle.lola_names.specs.Specification.{AreStreams}
use Rattle.lola_names.specs.Tables.{Means}
use Rattle.lola_names.specs.Targets.{Targets, parameter_targets, targets_of}
use Rattle.lola_names.specs.declared.made.Made.{Made}
use Rattle.lola_names.proofs.Growth.{begin_before, grows_none, grows_then}
use Rattle.lola_names.specs.Making.{AreBegun, AreDeclared, AreStreamsOf, GrowsByStream, GrowsByStreams, IsOnly, OutputOf, Puts, TriggerOf, triggers_behind}
use Rattle.lola_names.proofs.Pieces.{grows_as, left_more, left_none, listed_streams-append, listed_streams-one}

-- ---- tables

-- equal tables mean the same
pub means_same : (t s : Targets) → t ≡ s → Means t s
means_same t s e = λ text. ap (λ (l : Targets). meaning_in l text) e

pub means_parameters : (t : Targets) (xs ps : List Typed) → xs ≡ ps → Means t (parameter_targets 0 xs) → Means t (parameter_targets 0 ps)
means_parameters t xs ps e m = let P : List Typed → Type 0 = λ l. Means t (parameter_targets 0 l) in subst P e m

-- ---- declarations

listed_inputs : {A : Type 0} (f : Expr → List A) (xs : List Typed) → [] ≡ listed_streams f (map input_stream xs)
listed_inputs f [] = refl
listed_inputs f (x ∷ xs) = listed_inputs f xs

module _ (declarations : List Declaration) where
  pub puts_inputs : (x : Inputs) (k : ℕ) (old new : List Stream) (made : Made) → new ≡ old ++ map input_stream x.inputs → Puts declarations (d.Inputs x) k k old new made made
  puts_inputs x k old new made is = record {
    more = map input_stream x.inputs;
    streams = is;
    triggers = refl;
    resolved = λ texts windows begins. refl;
    grown = grows_as made made _ _ _ _ (listed_inputs window_number x.inputs) (listed_inputs literal_text x.inputs) (grows_none made);
  }

  pub puts_constant : (x : TreeConstant) (k : ℕ) (old : List Stream) (made : Made) → Puts declarations (d.Constant x) k k old old made made
  puts_constant x k old made = record {
    more = [];
    streams = sym (append-nil old);
    triggers = refl;
    resolved = λ texts windows begins. refl;
    grown = grows_none made;
  }

  grows_one : (a b : Made) (s : Stream) → GrowsByStream a b s → GrowsByStreams a b (s ∷ [])
  grows_one a b s g = grows_as a b _ _ _ _ (listed_streams-one window_number s) (listed_streams-one literal_text s) g

  pub puts_output : (x : Output) (k n : ℕ) (old new : List Stream) (a b : Made) (s : Stream) → n ≡ length old → new ≡ old ++ s ∷ [] → OutputOf declarations b n x s → GrowsByStream a b s
      → Puts declarations (d.Output x) k k old new a b
  puts_output x k n old new a b s at is resolved g = record {
    more = s ∷ [];
    streams = is;
    triggers = refl;
    resolved = λ texts windows begins.
        let P : ℕ → Type 0 = λ m. IsOutput declarations (targets_of declarations) texts windows m x s in
        subst P at (resolved texts windows begins);
    grown = grows_one a b s g;
  }

  pub puts_trigger : (x : Trigger) (k l n : ℕ) (old new : List Stream) (a b : Made) (s : Stream) → l ≡ k + 1 → n ≡ length old → new ≡ old ++ s ∷ [] → TriggerOf declarations b n l x s
      → GrowsByStream a b s → Puts declarations (d.Trigger x) k l old new a b
  puts_trigger x k l n old new a b s next at is resolved g = record {
    more = s ∷ [];
    streams = is;
    triggers = next;
    resolved = λ texts windows begins.
        let P : ℕ → Type 0 = λ m. IsTrigger declarations (targets_of declarations) texts windows m l x s in
        let Q : ℕ → Type 0 = λ m. IsTrigger declarations (targets_of declarations) texts windows (length old) m x s in
        subst Q next (subst P at (resolved texts windows begins));
    grown = grows_one a b s g;
  }

  pub puts_same : (x y : Declaration) (k l : ℕ) (old new : List Stream) (a b : Made) → x ≡ y → Puts declarations y k l old new a b → Puts declarations x k l old new a b
  puts_same x y k l old new a b e puts = let P : Declaration → Type 0 = λ z. Puts declarations z k l old new a b in subst P (sym e) puts

  -- ---- all declarations

  module _ (texts : List (List ℕ)) (windows : List WindowSpec) where
    abbrev Are : ℕ → ℕ → List Declaration → List Stream → Type 0
    Are n k ds ss = AreStreams declarations (targets_of declarations) texts windows n k ds ss

    then_constant : (n k : ℕ) (x : TreeConstant) (more rest : List Stream) (ds : List Declaration) → more ≡ [] → Are (n + length more) k ds rest → Are n k (d.Constant x ∷ ds) (more ++ rest)
    then_constant n k x more rest ds none are =
        let P : ℕ → Type 0 = λ m. Are m k ds rest in
        let Q : List Stream → Type 0 = λ l. Are n k ds l in
        let e : n + length more ≡ n = ap (λ (l : List Stream). n + length l) none ∙ add-zero n in
        subst Q (sym (ap (λ (l : List Stream). l ++ rest) none)) (subst P e are)

    then_output : (n k : ℕ) (x : Output) (more rest : List Stream) (ds : List Declaration) → IsOnly (IsOutput declarations (targets_of declarations) texts windows n x) more
        → Are (n + length more) k ds rest → Are n k (d.Output x ∷ ds) (more ++ rest)
    then_output n k x [] rest ds is are = absurd is
    then_output n k x (s ∷ []) rest ds is are = (is, are)
    then_output n k x (s ∷ t ∷ more) rest ds is are = absurd is

    then_trigger : (n k : ℕ) (x : Trigger) (more rest : List Stream) (ds : List Declaration) → IsOnly (IsTrigger declarations (targets_of declarations) texts windows n (k + 1) x) more
        → Are (n + length more) (k + 1) ds rest → Are n k (d.Trigger x ∷ ds) (more ++ rest)
    then_trigger n k x [] rest ds is are = absurd is
    then_trigger n k x (s ∷ []) rest ds is are = (is, are)
    then_trigger n k x (s ∷ t ∷ more) rest ds is are = absurd is

    length_inputs : (xs : List Typed) → length (map input_stream xs) ≡ length xs
    length_inputs [] = refl
    length_inputs (x ∷ xs) = ap suc (length_inputs xs)

    -- the streams of a declaration before those of the others
    declared_then : (n k : ℕ) (x : Declaration) (more rest : List Stream) (ds : List Declaration) → AreDeclared declarations texts windows n k x more
        → Are (n + length more) (triggers_behind k x) ds rest → Are n k (x ∷ ds) (more ++ rest)
    declared_then n k (d.Inputs x) more rest ds is are =
        let P : ℕ → Type 0 = λ m. Are m k ds rest in
        let e : n + length more ≡ n + length x.inputs = ap (λ (l : List Stream). n + length l) is ∙ ap (λ m. n + m) (length_inputs x.inputs) in
        (rest, ap (λ (l : List Stream). l ++ rest) is, subst P e are)
    declared_then n k (d.Constant x) more rest ds is are = then_constant n k x more rest ds is are
    declared_then n k (d.Output x) more rest ds is are = then_output n k x more rest ds is are
    declared_then n k (d.Trigger x) more rest ds is are = then_trigger n k x more rest ds is are

  begun_nothing : (made : Made) → AreBegun declarations made 0 declarations []
  begun_nothing made = λ texts windows begins rest are. are

  pub begun_none : (made : Made) (ss : List Stream) → ss ≡ [] → AreBegun declarations made 0 declarations ss
  begun_none made ss e = let P : List Stream → Type 0 = λ l. AreBegun declarations made 0 declarations l in subst P (sym e) (begun_nothing made)

  pub begun_more : (a b : Made) (i k l : ℕ) (x : Declaration) (old new : List Stream) → i < length declarations → x ≡ get_or declarations i x → Puts declarations x k l old new a b
      → AreBegun declarations a k (drop i declarations) old → AreBegun declarations b l (drop (i + 1) declarations) new
  begun_more a b i k l x old new within is puts begun = λ texts windows begins rest are.
      let ds : List Declaration = drop (i + 1) declarations in
      let more : List Stream = puts.more in
      let P : ℕ → Type 0 = λ m. AreStreams declarations (targets_of declarations) texts windows m l ds rest in
      let Q : ℕ → Type 0 = λ m. AreStreams declarations (targets_of declarations) texts windows (length old + length more) m ds rest in
      let R : List Declaration → Type 0 = λ l. AreStreams declarations (targets_of declarations) texts windows (length old) k l (more ++ rest) in
      let S : List Stream → Type 0 = λ l. AreStreams declarations (targets_of declarations) texts windows 0 0 declarations l in
      let count : length new ≡ length old + length more = ap length puts.streams ∙ length-append old more in
      let others : Q (triggers_behind k x) = subst Q puts.triggers (subst P count are) in
      let all : S (old ++ (more ++ rest)) =
      begun texts windows (begin_before a b _ _ texts windows puts.grown begins) (more ++ rest)
      (subst R (sym (left_more declarations i x within is))
      (declared_then texts windows (length old) k x more rest ds (puts.resolved texts windows begins) others)) in
      subst S (sym (append_assoc old more rest) ∙ ap (λ (l : List Stream). l ++ rest) (sym puts.streams)) all

  pub begun_end : (made : Made) (i k : ℕ) (ss : List Stream) → length declarations ≤ i → AreBegun declarations made k (drop i declarations) ss → AreStreamsOf declarations made ss
  begun_end made i k ss all begun = λ texts windows begins.
      let P : List Declaration → Type 0 = λ l. AreStreams declarations (targets_of declarations) texts windows (length ss) k l [] in
      let S : List Stream → Type 0 = λ l. AreStreams declarations (targets_of declarations) texts windows 0 0 declarations l in
      let none : P [] = refl in
      subst S (append-nil ss) (begun texts windows begins [] (subst P (sym (left_none declarations i all)) none))

pub streams_none : (made : Made) (ss : List Stream) → ss ≡ [] → GrowsByStreams made made ss
streams_none made ss e = let P : List Stream → Type 0 = λ l. GrowsByStreams made made l in subst P (sym e) (grows_none made)

-- the texts and windows of the streams so far, and of those of a declaration
pub grows_streams : (a b c : Made) (old more new : List Stream) → new ≡ old ++ more → GrowsByStreams a b old → GrowsByStreams b c more → GrowsByStreams a c new
grows_streams a b c old more new is g h =
    let e : listed_streams window_number old ++ listed_streams window_number more ≡ listed_streams window_number new =
    listed_streams-append window_number old more ∙ ap (listed_streams window_number) (sym is) in
    let f : listed_streams literal_text old ++ listed_streams literal_text more ≡ listed_streams literal_text new =
    listed_streams-append literal_text old more ∙ ap (listed_streams literal_text) (sym is) in
    grows_as a c _ _ _ _ e f (grows_then a b c _ _ _ _ g h)
