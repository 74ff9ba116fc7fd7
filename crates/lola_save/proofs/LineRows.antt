-- The lines of panes, of instances and of streams, one after another.
use Rattle.std.proofs.Common.{◌≡◌, ◌∷◌, ℕ, ◌+◌, ◌<◌, ◌≤◌, ◌++◌, List, [], Option, refl, ap, subst, ◌∙◌, arith, drop, flat_map, get_or, length}
use Rattle.std.proofs.lemmas.List.{drop_all}
use Rattle.lola_value.specs.Appending.{AppendsPart}
use Rattle.lola_save_text.specs.Lines.{PanesLine, StateLine, StreamLine, count_of, instance_lines, line_text, lines_text, panes_lines, streams_lines}
use Rattle.lola_save_text.specs.declared.forms.StreamForm.{StreamForm}
use Rattle.lola_save_text.specs.declared.forms.WindowForm.{WindowForm}
use Rattle.lola_save_text.specs.declared.state.SavedInstance.{SavedInstance}
use Rattle.lola_save_text.specs.declared.state.SavedPanes.{SavedPanes}
use Rattle.lola_save_text.proofs.Damaged.{lines-text-both}
use Rattle.lola_save.proofs.ItemLines.{item-drop}
use Rattle.lola_save.proofs.SoFar.{IsSoFar, all-so-far, more-so-far, part-so-far}

-- panes

none-left : (ws : List WindowForm) → panes_lines ws [] ≡ []
none-left [] = refl
none-left (w ∷ ws) = refl

no-windows : (ps : List (Option SavedPanes)) → panes_lines [] ps ≡ []
no-windows [] = refl
no-windows (p ∷ ps) = refl

module _ (old mid whole : List ℕ) (ws : List WindowForm) (i : ℕ) (others : List (Option SavedPanes)) where
  abbrev PanesSoFar : Type 0
  PanesSoFar = IsSoFar old mid whole (lines_text (panes_lines (drop i ws) others))

  pub panes-out : PanesSoFar → others ≡ [] → mid ≡ old ++ whole
  panes-out s e = all-so-far old mid whole (subst (λ ls. IsSoFar old mid whole (lines_text ls)) (ap (panes_lines (drop i ws)) e ∙ none-left (drop i ws)) s)

  pub panes-done : PanesSoFar → length ws ≤ i → mid ≡ old ++ whole
  panes-done s l = all-so-far old mid whole (subst (λ ls. IsSoFar old mid whole (lines_text ls)) (ap (λ (v : List WindowForm). panes_lines v others) (drop_all i ws l) ∙ no-windows others) s)

  module _ (w d : WindowForm) (lt : i < length ws) (item : w ≡ get_or ws i d) (p : Option SavedPanes) (rest : List (Option SavedPanes)) (split : others ≡ p ∷ rest) (s : PanesSoFar) where
    tail-is : IsSoFar old mid whole (line_text (PanesLine w.number p) ++ lines_text (panes_lines (drop (i + 1) ws) rest))
    tail-is =
        subst (λ (v : List WindowForm). IsSoFar old mid whole (lines_text (panes_lines v (p ∷ rest)))) (item-drop ws i w d lt item)
        (subst (λ (o : List (Option SavedPanes)). IsSoFar old mid whole (lines_text (panes_lines (drop i ws) o))) split s)

    pub panes-more : (new : List ℕ) → new ≡ mid ++ line_text (PanesLine w.number p) → IsSoFar old new whole (lines_text (panes_lines (drop (i + 1) ws) rest))
    panes-more new e = more-so-far old mid new whole (line_text (PanesLine w.number p)) (lines_text (panes_lines (drop (i + 1) ws) rest)) tail-is e

    pub panes-part : (new : List ℕ) → AppendsPart mid new (line_text (PanesLine w.number p)) → AppendsPart old new whole
    panes-part new a = part-so-far old mid new whole (line_text (PanesLine w.number p)) (lines_text (panes_lines (drop (i + 1) ws) rest)) tail-is a

-- instances

module _ (old mid whole : List ℕ) (f : StreamForm) (is : List SavedInstance) (k : ℕ) where
  abbrev InstancesSoFar : Type 0
  InstancesSoFar = IsSoFar old mid whole (lines_text (flat_map (instance_lines f) (drop k is)))

  pub instances-done : InstancesSoFar → length is ≤ k → mid ≡ old ++ whole
  instances-done s l = all-so-far old mid whole (subst (λ (v : List SavedInstance). IsSoFar old mid whole (lines_text (flat_map (instance_lines f) v))) (drop_all k is l) s)

  module _ (i d : SavedInstance) (lt : k < length is) (item : i ≡ get_or is k d) (s : InstancesSoFar) where
    instances-tail : IsSoFar old mid whole (lines_text (instance_lines f i) ++ lines_text (flat_map (instance_lines f) (drop (k + 1) is)))
    instances-tail =
        subst (IsSoFar old mid whole) (lines-text-both (instance_lines f i) (flat_map (instance_lines f) (drop (k + 1) is)))
        (subst (λ (v : List SavedInstance). IsSoFar old mid whole (lines_text (flat_map (instance_lines f) v))) (item-drop is k i d lt item) s)

    pub instances-more : (new : List ℕ) → new ≡ mid ++ lines_text (instance_lines f i) → IsSoFar old new whole (lines_text (flat_map (instance_lines f) (drop (k + 1) is)))
    instances-more new e = more-so-far old mid new whole (lines_text (instance_lines f i)) (lines_text (flat_map (instance_lines f) (drop (k + 1) is))) instances-tail e

    pub instances-part : (new : List ℕ) → AppendsPart mid new (lines_text (instance_lines f i)) → AppendsPart old new whole
    instances-part new a = part-so-far old mid new whole (lines_text (instance_lines f i)) (lines_text (flat_map (instance_lines f) (drop (k + 1) is))) instances-tail a

-- streams

no-streams : (n : ℕ) (ss : List StreamForm) → streams_lines n ss [] ≡ []
no-streams n [] = refl
no-streams n (s ∷ ss) = refl

no-forms : (n : ℕ) (iss : List (List SavedInstance)) → streams_lines n [] iss ≡ []
no-forms n [] = refl
no-forms n (is ∷ iss) = refl

-- the lines of one stream
abbrev pub of_stream : ℕ → StreamForm → List SavedInstance → List StateLine
of_stream n s is = StreamLine n (count_of is) ∷ flat_map (instance_lines s) is

module _ (old mid whole : List ℕ) (ss : List StreamForm) (n : ℕ) (others : List (List SavedInstance)) where
  abbrev StreamsSoFar : Type 0
  StreamsSoFar = IsSoFar old mid whole (lines_text (streams_lines n (drop n ss) others))

  pub streams-out : StreamsSoFar → others ≡ [] → mid ≡ old ++ whole
  streams-out s e = all-so-far old mid whole (subst (λ ls. IsSoFar old mid whole (lines_text ls)) (ap (streams_lines n (drop n ss)) e ∙ no-streams n (drop n ss)) s)

  pub streams-done : StreamsSoFar → length ss ≤ n → mid ≡ old ++ whole
  streams-done s l = all-so-far old mid whole (subst (λ ls. IsSoFar old mid whole (lines_text ls)) (ap (λ (v : List StreamForm). streams_lines n v others) (drop_all n ss l) ∙ no-forms n others) s)

  module _ (f d : StreamForm) (lt : n < length ss) (item : f ≡ get_or ss n d) (is : List SavedInstance) (rest : List (List SavedInstance)) (split : others ≡ is ∷ rest) (s : StreamsSoFar) where
    streams-tail : IsSoFar old mid whole (lines_text (of_stream n f is) ++ lines_text (streams_lines (n + 1) (drop (n + 1) ss) rest))
    streams-tail =
        subst (IsSoFar old mid whole) (lines-text-both (of_stream n f is) (streams_lines (n + 1) (drop (n + 1) ss) rest))
        (subst (λ (v : List StreamForm). IsSoFar old mid whole (lines_text (streams_lines n v (is ∷ rest)))) (item-drop ss n f d lt item)
        (subst (λ (o : List (List SavedInstance)). IsSoFar old mid whole (lines_text (streams_lines n (drop n ss) o))) split s))

    pub streams-more : (new : List ℕ) → new ≡ mid ++ lines_text (of_stream n f is) → IsSoFar old new whole (lines_text (streams_lines (n + 1) (drop (n + 1) ss) rest))
    streams-more new e = more-so-far old mid new whole (lines_text (of_stream n f is)) (lines_text (streams_lines (n + 1) (drop (n + 1) ss) rest)) streams-tail e

    pub streams-part : (new : List ℕ) → AppendsPart mid new (lines_text (of_stream n f is)) → AppendsPart old new whole
    streams-part new a = part-so-far old mid new whole (lines_text (of_stream n f is)) (lines_text (streams_lines (n + 1) (drop (n + 1) ss) rest)) streams-tail a

-- how many instances there are
pub count_length : (is : List SavedInstance) → count_of is ≡ length is
count_length [] = refl
count_length (i ∷ is) = let h = count_length is in omega (arith, h)
