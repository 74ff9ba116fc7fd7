-- The whole specification.
use Rattle.std.proofs.Common.{◌≡◌, ℕ, ◌+◌, ◌<◌, ◌≤◌, List, [], ◌∷◌, ◌++◌, Option, Some, None, length, get_or, drop, refl, sym, ap, subst, ◌∙◌, append_assoc, append-nil, arith}
use Rattle.std.specs.Prelude.{IsTrue}
use Rattle.lola_value.specs.declared.front.Refusal.{Refusal}
use Rattle.lola_parser_grammar.specs.declared.declarations.Declaration.{Declaration}
use Rattle.lola_parser_grammar.specs.declared.declarations.Declaration.TheVariants as d
use Rattle.lola_model.specs.Refusals.{first_of, IsFirstIn, IsFirstOf}
use Rattle.lola_model.proofs.FirstRefusal.{means_first}
use Rattle.lola_model.specs.Parts.{listed_streams}
use Rattle.lola_model.specs.Named.{are_distinct, counted, literal_text}
use Rattle.lola_model.specs.declared.spec.Constant.{Constant}
use Rattle.lola_model.specs.declared.spec.Stream.{Stream}
use Rattle.lola_model.specs.declared.spec.WindowSpec.{WindowSpec}
use Rattle.lola_names.specs.Numbered.{IsInOrder}
use Rattle.lola_names.specs.Specification.{AreConstants, AreStreams, Resolves, constants_of, ranges_of}
use Rattle.lola_names.specs.Targets.{targets_of}
use Rattle.lola_names.specs.declared.made.Made.{Made}
use Rattle.lola_names.proofs.Growth.{in_order-used}
use Rattle.lola_names.specs.Making.{AreStreamsOf, GrowsByStreams, IsGrown, IsNothing}
use Rattle.lola_names.specs.Ranged.{first_ranges, streams_behind}
use Rattle.lola_names.proofs.Pieces.{begin_itself, left_more, left_none}

-- ---- constants

pub constants_end : (texts : List (List ℕ)) (ds : List Declaration) (i : ℕ) (cs : List Constant) → length ds ≤ i
    → ((rest : List Constant) → AreConstants texts (constants_of (drop i ds)) rest → AreConstants texts (constants_of ds) (cs ++ rest)) → AreConstants texts (constants_of ds) cs
constants_end texts ds i cs all begun =
    let P : List Declaration → Type 0 = λ l. AreConstants texts (constants_of l) [] in
    let Q : List Constant → Type 0 = λ l. AreConstants texts (constants_of ds) l in
    let none : P [] = tt in
    subst Q (append-nil cs) (begun [] (subst P (sym (left_none ds i all)) none))

-- ---- places of what is out of range

dropped_none : (n : ℕ) → drop {A = Stream} n [] ≡ []
dropped_none n = left_none [] n (omega arith)

ranges_none : (ds : List Declaration) → ranges_of ds [] ≡ []
ranges_none [] = refl
ranges_none (d.Inputs x ∷ ds) = ap (ranges_of ds) (dropped_none (length x.inputs)) ∙ ranges_none ds
ranges_none (d.Constant x ∷ ds) = ranges_none ds
ranges_none (d.Output x ∷ ds) = refl
ranges_none (d.Trigger x ∷ ds) = refl

ranges_step : (x : Declaration) (ds : List Declaration) (ss : List Stream) → ranges_of (x ∷ ds) ss ≡ first_ranges x ss ++ ranges_of ds (streams_behind x ss)
ranges_step (d.Inputs x) ds ss = refl
ranges_step (d.Constant x) ds ss = refl
ranges_step (d.Output x) ds [] = sym (ranges_none ds)
ranges_step (d.Output x) ds (s ∷ ss) = refl
ranges_step (d.Trigger x) ds [] = sym (ranges_none ds)
ranges_step (d.Trigger x) ds (s ∷ ss) = refl

pub ranges_more : (ds : List Declaration) (i : ℕ) (x : Declaration) (places new whole : List ℕ) (ss left : List Stream) → i < length ds → x ≡ get_or ds i x
    → new ≡ places ++ first_ranges x ss → left ≡ streams_behind x ss → places ++ ranges_of (drop i ds) ss ≡ whole → new ++ ranges_of (drop (i + 1) ds) left ≡ whole
ranges_more ds i x places new whole ss left within is put behind so_far =
    ap (λ (l : List ℕ). l ++ ranges_of (drop (i + 1) ds) left) put
    ∙ ap (λ (l : List Stream). (places ++ first_ranges x ss) ++ ranges_of (drop (i + 1) ds) l) behind
    ∙ append_assoc places (first_ranges x ss) (ranges_of (drop (i + 1) ds) (streams_behind x ss))
    ∙ ap (λ (l : List ℕ). places ++ l) (sym (ranges_step x (drop (i + 1) ds) ss))
    ∙ ap (λ (l : List Declaration). places ++ ranges_of l ss) (sym (left_more ds i x within is))
    ∙ so_far

-- ---- the whole

pub is_grown : (a b : Made) (ss : List Stream) → IsNothing a → GrowsByStreams a b ss → IsGrown b ss
is_grown a b ss nothing g =
    let windows : b.windows ≡ g.more_windows = g.windows ∙ ap (λ (l : List WindowSpec). l ++ g.more_windows) nothing.windows in
    let none : length a.texts ≡ 0 = ap length nothing.texts in
    record {
      numbers = g.numbered ∙ ap (λ (l : List WindowSpec). counted (length l) (length g.more_windows)) nothing.windows ∙ ap (λ (l : List WindowSpec). counted 0 (length l)) (sym windows);
      in_order = subst (λ (n : ℕ). IsInOrder n (listed_streams literal_text ss) (length b.texts)) none g.in_order;
    }

pub resolves : (ds : List Declaration) (made : Made) (ss : List Stream) (cs : List Constant) (texts : List (List ℕ)) (refused : List ℕ)
    → AreStreamsOf ds made ss → IsGrown made ss → AreConstants made.texts (constants_of ds) cs → refused ≡ ranges_of ds ss → texts ≡ made.texts → IsTrue (are_distinct made.texts)
    → Resolves ds (record { streams = ss; constants = cs; windows = made.windows; texts = texts; refused = refused })
resolves ds made ss cs texts refused are grown constants ranged same distinct =
    let P : List (List ℕ) → Type 0 = λ l. AreStreams ds (targets_of ds) l made.windows 0 0 ds ss in
    let Q : List (List ℕ) → Type 0 = λ l. AreConstants l (constants_of ds) cs in
    let R : List (List ℕ) → Type 0 = λ l. IsTrue (are_distinct l) in
    let S : List (List ℕ) → Type 0 = λ l. IsInOrder 0 (listed_streams literal_text ss) (length l) in
    let in_order = subst S (sym same) grown.in_order in
    record {
      streams = subst P (sym same) (are made.texts made.windows (begin_itself made));
      constants = subst Q (sym same) constants;
      refused = ranged;
      window_numbers = grown.numbers;
      texts = subst R (sym same) distinct;
      texts_used = λ i within. in_order-used 0 (length texts) (listed_streams literal_text ss) in_order i (omega arith) within;
      texts_in_order = in_order;
    }

-- ---- refusals

pub is_first : (list : List Refusal) (o : Option Refusal) (r : Refusal) → o ≡ first_of list → o ≡ Some r → IsFirstIn list r
is_first list o r e is = let P : Option Refusal → Type 0 = λ x. IsFirstOf list x in subst P (sym e ∙ is) (means_first.is_first list)

pub is_none : (list : List Refusal) (o : Option Refusal) → o ≡ first_of list → o ≡ None → list ≡ []
is_none list o e is = let P : Option Refusal → Type 0 = λ x. IsFirstOf list x in subst P (sym e ∙ is) (means_first.is_first list)
