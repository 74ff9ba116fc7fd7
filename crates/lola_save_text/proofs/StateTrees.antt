-- The lines of a saved state are of no other.
use Rattle.std.proofs.Common.{◌≡◌, ℕ, ◌+◌, List, [], ◌∷◌, ◌++◌, Option, refl, sym, ap, subst, ◌∙◌, arith, append_assoc, flat_map}
use Rattle.lola_value.specs.declared.text.Field.{Field}
use Rattle.lola_value.specs.declared.value.Kind.{Kind}
use Rattle.lola_save_text.specs.Fitting.{Times}
use Rattle.lola_save_text.specs.Runs.{AreWhole}
use Rattle.lola_save_text.specs.Shapes.{AreForStream, AreForStreams, AreForWindows}
use Rattle.lola_save_text.proofs.Whole.{whole-state}
use Rattle.lola_save_text.specs.Forms.{StreamForm, WindowForm}
use Rattle.lola_save_text.specs.Lines.{StateLine, InstLine, RingLine, EndLine, count_of, instance_lines, panes_lines, state_lines, streams_lines}
use Rattle.lola_save_text.specs.States.{SavedInstance, SavedPanes, SavedState}
use Rattle.lola_save_text.specs.Validity.{AllPanes, AreInstances, AreStreams, IsSaved}

panes-tree : (ws : List WindowForm) (ps qs : List (Option SavedPanes)) (a b : List StateLine) → AreForWindows ws ps → AreForWindows ws qs
    → panes_lines ws ps ++ a ≡ panes_lines ws qs ++ b → (ps ≡ qs) × (a ≡ b)
panes-tree [] [] [] a b x y e = (refl, e)
panes-tree [] (p ∷ ps) qs a b x y e = absurd x
panes-tree [] [] (q ∷ qs) a b x y e = absurd y
panes-tree (w ∷ ws) [] qs a b x y e = absurd x
panes-tree (w ∷ ws) (p ∷ ps) [] a b x y e = absurd y
panes-tree (w ∷ ws) (p ∷ ps) (q ∷ qs) a b x y e =
    let f : p ≡ q = cc in
    let g : panes_lines ws ps ++ a ≡ panes_lines ws qs ++ b = cc in
    let r = panes-tree ws ps qs a b x y g in
    let h = r.0 in
    ((λ i. f i ∷ h i), r.1)

-- what stands behind the first two lines of an instance
behind : (s : StreamForm) (i : SavedInstance) (is : List SavedInstance) (a : List StateLine)
    → flat_map (instance_lines s) (i ∷ is) ++ a ≡ InstLine i.born i.params ∷ RingLine i.ring ∷ (panes_lines s.windows i.panes ++ (flat_map (instance_lines s) is ++ a))
behind s i is a = ap (λ (m : List StateLine). InstLine i.born i.params ∷ RingLine i.ring ∷ m) (append_assoc (panes_lines s.windows i.panes) (flat_map (instance_lines s) is) a)

first-two : (b c : Option ℕ) (p q v w : List Field) (m n : List StateLine) → InstLine b p ∷ RingLine v ∷ m ≡ InstLine c q ∷ RingLine w ∷ n → (b ≡ c) × (p ≡ q) × (v ≡ w) × (m ≡ n)
first-two b c p q v w m n e =
    let f : b ≡ c = cc in
    let g : p ≡ q = cc in
    let h : v ≡ w = cc in
    let k : m ≡ n = cc in
    (f, g, h, k)

instances-tree : (s : StreamForm) (is js : List SavedInstance) (a b : List StateLine) → AreForStream s is → AreForStream s js
    → count_of is ≡ count_of js → flat_map (instance_lines s) is ++ a ≡ flat_map (instance_lines s) js ++ b → (is ≡ js) × (a ≡ b)
instances-tree s [] [] a b x y n e = (refl, e)
instances-tree s [] (j ∷ js) a b x y n e = absurd (omega (arith, n))
instances-tree s (i ∷ is) [] a b x y n e = absurd (omega (arith, n))
instances-tree s (i ∷ is) (j ∷ js) a b x y n e =
    let c = first-two i.born j.born i.params j.params i.ring j.ring (panes_lines s.windows i.panes ++ (flat_map (instance_lines s) is ++ a))
    (panes_lines s.windows j.panes ++ (flat_map (instance_lines s) js ++ b)) (sym (behind s i is a) ∙ e ∙ behind s j js b) in
    let d = panes-tree s.windows i.panes j.panes (flat_map (instance_lines s) is ++ a) (flat_map (instance_lines s) js ++ b) x.0 y.0 c.3 in
    let r = instances-tree s is js a b x.1 y.1 (omega (arith, n)) d.1 in
    let f0 = c.0 in
    let f1 = c.1 in
    let f2 = c.2 in
    let f3 = d.0 in
    let h = r.0 in
    ((λ z. record { born = f0 z; params = f1 z; ring = f2 z; panes = f3 z } ∷ h z), r.1)

streams-tree : (n : ℕ) (ss : List StreamForm) (iss jss : List (List SavedInstance)) (a b : List StateLine) → AreForStreams ss iss → AreForStreams ss jss
    → streams_lines n ss iss ++ a ≡ streams_lines n ss jss ++ b → iss ≡ jss
streams-tree n [] [] [] a b x y e = refl
streams-tree n [] (i ∷ iss) jss a b x y e = absurd x
streams-tree n [] [] (j ∷ jss) a b x y e = absurd y
streams-tree n (s ∷ ss) [] jss a b x y e = absurd x
streams-tree n (s ∷ ss) (i ∷ iss) [] a b x y e = absurd y
streams-tree n (s ∷ ss) (i ∷ iss) (j ∷ jss) a b x y e =
    let c : count_of i ≡ count_of j = cc in
    let g : (flat_map (instance_lines s) i ++ streams_lines (n + 1) ss iss) ++ a ≡ (flat_map (instance_lines s) j ++ streams_lines (n + 1) ss jss) ++ b = cc in
    let k = sym (append_assoc (flat_map (instance_lines s) i) (streams_lines (n + 1) ss iss) a) ∙ g ∙ append_assoc (flat_map (instance_lines s) j) (streams_lines (n + 1) ss jss) b in
    let r = instances-tree s i j (streams_lines (n + 1) ss iss ++ a) (streams_lines (n + 1) ss jss ++ b) x.0 y.0 c k in
    let h = r.0 in
    let l = streams-tree (n + 1) ss iss jss a b x.1 y.1 r.1 in
    λ z. h z ∷ l z

-- a saved state has as many items as its plan

panes-shaped : (t : Times) (k : Kind) (ws : List WindowForm) (ps : List (Option SavedPanes)) → AllPanes t k ws ps → AreForWindows ws ps
panes-shaped t k [] [] a = tt
panes-shaped t k [] (p ∷ ps) a = absurd a
panes-shaped t k (w ∷ ws) [] a = absurd a
panes-shaped t k (w ∷ ws) (p ∷ ps) a = panes-shaped t k ws ps a.1

instances-shaped : (t : Times) (s : StreamForm) (seen : List (List Field)) (low : ℕ) (is : List SavedInstance) → AreInstances t s seen low is → AreForStream s is
instances-shaped t s seen low [] a = tt
instances-shaped t s seen low (i ∷ is) a = (panes-shaped t s.kind s.windows i.panes a.0.panes, instances-shaped t s _ _ is a.3)

streams-shaped : (t : Times) (ss : List StreamForm) (iss : List (List SavedInstance)) → AreStreams t ss iss → AreForStreams ss iss
streams-shaped t [] [] a = tt
streams-shaped t [] (is ∷ iss) a = absurd a
streams-shaped t (s ∷ ss) [] a = absurd a
streams-shaped t (s ∷ ss) (is ∷ iss) a = (instances-shaped t s [] _ is a.0.instances, streams-shaped t ss iss a.1)

pub saved-shaped : (forms : List StreamForm) (s : SavedState) → IsSaved forms s → AreForStreams forms s.streams
saved-shaped forms s a = streams-shaped (record { start = s.start; last = s.last; steps = s.steps }) forms s.streams a.streams

-- all four parts
shaped-tree : (forms : List StreamForm) (s t : SavedState) → AreForStreams forms s.streams → AreForStreams forms t.streams → state_lines forms s ≡ state_lines forms t → s ≡ t
shaped-tree forms s t a b e =
    let f0 : s.start ≡ t.start = cc in
    let f1 : s.last ≡ t.last = cc in
    let f2 : s.steps ≡ t.steps = cc in
    let g : streams_lines 0 forms s.streams ++ EndLine ∷ [] ≡ streams_lines 0 forms t.streams ++ EndLine ∷ [] = cc in
    let f3 = streams-tree 0 forms s.streams t.streams (EndLine ∷ []) (EndLine ∷ []) a b g in
    λ z. record { start = f0 z; last = f1 z; steps = f2 z; streams = f3 z }

pub one-tree : (forms : List StreamForm) (s t : SavedState) → IsSaved forms s → IsSaved forms t → state_lines forms s ≡ state_lines forms t → s ≡ t
one-tree forms s t a b e = shaped-tree forms s t (saved-shaped forms s a) (saved-shaped forms t b) e

-- a state whose lines are read whole is one that the plan can have
pub whole-saved : (forms : List StreamForm) (s : SavedState) → AreForStreams forms s.streams → AreWhole forms (state_lines forms s) → IsSaved forms s
whole-saved forms s a w =
    let r = whole-state forms (state_lines forms s) w in
    subst (IsSaved forms) (sym (shaped-tree forms s r.0 a (saved-shaped forms r.0 r.1) r.2)) r.1
