-- Lines of instances, of streams and of a state, one after another.
use Rattle.std.proofs.Common.{◌≡◌, ◌∷◌, ℕ, ◌+◌, ◌-◌, ◌<◌, ◌≤◌, ◌++◌, List, [], Bool, Option, if◌then◌else◌, refl, sym, ap, subst, ◌∙◌, arith, append_assoc, append-nil, flat_map, length, take, drop, get_or}
use Rattle.std.proofs.lemmas.Bool.{ne_eqb}
use Rattle.std.proofs.lemmas.Grind.{flat_map-append}
use Rattle.std.proofs.lemmas.List.{drop_all, length-append, take_all}
use Rattle.lola_value.specs.declared.text.Field.{Field}
use Rattle.lola_save_text.specs.Fitting.{time_or}
use Rattle.lola_save_text.specs.Forms.{HaveLength}
use Rattle.lola_save_text.specs.Lines.{StateLine, InstLine, PanesLine, RingLine, StreamLine, count_of, instance_lines, panes_lines, streams_lines}
use Rattle.lola_save_text.specs.Places.{AtInst, AtPanes, AtRing, AtStream, Done, Place, behind_instance, behind_panes}
use Rattle.lola_save_text.specs.Shapes.{AreForStream, AreForStreams, AreForWindows}
use Rattle.lola_save_text.specs.declared.forms.StreamForm.{StreamForm}
use Rattle.lola_save_text.specs.declared.forms.WindowForm.{WindowForm}
use Rattle.lola_save_text.specs.declared.state.SavedInstance.{SavedInstance}
use Rattle.lola_save_text.specs.declared.state.SavedPanes.{SavedPanes}
use Rattle.lola_save_text.specs.declared.state.Times.{Times}
use Rattle.lola_save_read.specs.Readings.{IsInstLine, IsPanesLine, IsRingLine, IsStreamLine, NoInstLine, NoPanesLine, NoRingLine, NoStreamLine, ReadsInstance, ReadsInstances, ReadsPanes, ReadsStream, ReadsStreams, RefusesInstance, RefusesInstances, RefusesPanes, RefusesStream, RefusesStreams, around}
use Rattle.lola_save_read.specs.Turns.{Around, AreLinesRead, hand, low_after, seen_after}
use Rattle.lola_save_read.proofs.Items.{item-drop, item-split, item-take}
use Rattle.lola_save_read.proofs.SeenParams.{low-more, seen-more}
use Rattle.lola_save_read.proofs.TurnsOn.{both-read, more-read, none-read, one-read, refused-behind, refused-here, refused-line}

-- no place but the last one is the last one

open-inst : (h : _) → AtInst h ≡ Done → ⊥
open-inst h e = cc e

open-ring : (h : _) → AtRing h ≡ Done → ⊥
open-ring h e = cc e

open-panes : (h : _) (ws : List WindowForm) → AtPanes h ws ≡ Done → ⊥
open-panes h ws e = cc e

pub open-stream : (t : Times) (n : ℕ) (ss : List StreamForm) → AtStream t n ss ≡ Done → ⊥
open-stream t n ss e = cc e

-- panes, window by window

panes-both : (ws : List WindowForm) (ps : List (Option SavedPanes)) (w : WindowForm) (p : Option SavedPanes) → AreForWindows ws ps
    → AreForWindows (ws ++ w ∷ []) (ps ++ p ∷ []) × (panes_lines (ws ++ w ∷ []) (ps ++ p ∷ []) ≡ panes_lines ws ps ++ PanesLine w.number p ∷ [])
panes-both [] [] w p a = (tt, refl)
panes-both [] (q ∷ ps) w p a = absurd a
panes-both (v ∷ ws) [] w p a = absurd a
panes-both (v ∷ ws) (q ∷ ps) w p a = let r = panes-both ws ps w p a in (r.0, ap (λ (l : List StateLine). PanesLine v.number q ∷ l) r.1)

module _ (t : Times) (s : StreamForm) (bytes : List ℕ) where
  -- the first windows were read, and these are to come
  pub record ArePanesSoFar (ws : List WindowForm) (ps : List (Option SavedPanes)) (later : List WindowForm) (left : List ℕ) : Type 0 where
    pub shape : AreForWindows ws ps
    pub read : (a : Around) (more : ℕ) (seen : List (List Field)) (low : ℕ)
        → AreLinesRead a.forms (behind_panes (hand a t s more seen low) s.windows) bytes (panes_lines ws ps) (behind_panes (hand a t s more seen low) later) left

  pub no-panes-yet : ArePanesSoFar [] [] s.windows bytes
  no-panes-yet = record { shape = tt; read = λ a more seen low. none-read a.forms (behind_panes (hand a t s more seen low) s.windows) bytes }

  pub panes-more : (ws : List WindowForm) (ps : List (Option SavedPanes)) (w : WindowForm) (later : List WindowForm) (left : List ℕ) (p : Option SavedPanes) (rest : List ℕ) → ArePanesSoFar ws ps (w ∷ later) left
      → IsPanesLine t s w left p rest → ArePanesSoFar (ws ++ w ∷ []) (ps ++ p ∷ []) later rest
  panes-more ws ps w later left p rest f l =
      let b = panes-both ws ps w p f.shape in
      record {
        shape = b.0;
        read = λ a more seen low.
            let h = hand a t s more seen low in
            subst (λ (ls : List StateLine). AreLinesRead a.forms (behind_panes h s.windows) bytes ls (behind_panes h later) rest) (sym b.1)
            (both-read a.forms (behind_panes h s.windows) bytes (panes_lines ws ps) (AtPanes h (w ∷ later)) left (PanesLine w.number p ∷ []) (behind_panes h later) rest (f.read a more seen low)
            (one-read a.forms (AtPanes h (w ∷ later)) left (PanesLine w.number p) (behind_panes h later) rest (l a more seen low later)));
      }

  pub panes-stop : (ws : List WindowForm) (ps : List (Option SavedPanes)) (w : WindowForm) (later : List WindowForm) (left : List ℕ) → ArePanesSoFar ws ps (w ∷ later) left → NoPanesLine t s w left
      → RefusesPanes t s bytes (length left)
  panes-stop ws ps w later left f never a more seen low =
      let h = hand a t s more seen low in
      refused-behind a.forms (behind_panes h s.windows) bytes (panes_lines ws ps) (AtPanes h (w ∷ later)) left (length left) (f.read a more seen low)
      (refused-here a.forms (AtPanes h (w ∷ later)) left (open-panes h (w ∷ later)) (never a more seen low later))

  pub panes-whole : (ps : List (Option SavedPanes)) (left : List ℕ) → ArePanesSoFar s.windows ps [] left → ReadsPanes t s bytes ps left
  panes-whole ps left f = record { shape = f.shape; read = f.read }

-- windows have a length

pub window-length : (all ws later : List WindowForm) (w : WindowForm) → all ≡ ws ++ w ∷ later → HaveLength all → 1 ≤ w.pane
window-length all ws later w e h = by ws (subst HaveLength e h)
  where
    by : (ws : List WindowForm) → HaveLength (ws ++ w ∷ later) → 1 ≤ w.pane
    by [] h = h.0
    by (v ∷ ws) h = by ws h.1

-- an instance

module _ (t : Times) (s : StreamForm) (seen : List (List Field)) (low : ℕ) (bytes : List ℕ) where
  pub no-instance : NoInstLine t s seen low bytes → RefusesInstance t s seen low bytes (length bytes)
  no-instance never a left = refused-here a.forms (AtInst (hand a t s left seen low)) bytes (open-inst (hand a t s left seen low)) (never a left)

  module _ (born : Option ℕ) (params : List Field) (values : List ℕ) (line : IsInstLine t s seen low bytes born params values) where
    pub no-ring : NoRingLine t s values → RefusesInstance t s seen low bytes (length values)
    no-ring never a left =
        let h = hand a t s (left - 1) (params ∷ seen) (time_or low born) in
        refused-line a.forms (AtInst (hand a t s left seen low)) bytes (InstLine born params) (AtRing h) values (length values) (line a left)
        (refused-here a.forms (AtRing h) values (open-ring h) (never a (left - 1) (params ∷ seen) (time_or low born)))

    module _ (ring : List Field) (windows : List ℕ) (row : IsRingLine t s values ring windows) where
      pub no-panes : (many : ℕ) → RefusesPanes t s windows many → RefusesInstance t s seen low bytes many
      no-panes many never a left =
          let h = hand a t s (left - 1) (params ∷ seen) (time_or low born) in
          refused-line a.forms (AtInst (hand a t s left seen low)) bytes (InstLine born params) (AtRing h) values many (line a left)
          (refused-line a.forms (AtRing h) values (RingLine ring) (behind_panes h s.windows) windows many (row a (left - 1) (params ∷ seen) (time_or low born))
          (never a (left - 1) (params ∷ seen) (time_or low born)))

      pub instance-read : (ps : List (Option SavedPanes)) (rest : List ℕ) → ReadsPanes t s windows ps rest
          → ReadsInstance t s seen low bytes (record { born = born; params = params; ring = ring; panes = ps }) rest
      instance-read ps rest p =
          record {
            shape = p.shape;
            read = λ a left.
                let h = hand a t s (left - 1) (params ∷ seen) (time_or low born) in
                more-read a.forms (AtInst (hand a t s left seen low)) bytes (InstLine born params) (AtRing h) values (RingLine ring ∷ panes_lines s.windows ps) (behind_instance h) rest (line a left)
                (more-read a.forms (AtRing h) values (RingLine ring) (behind_panes h s.windows) windows (panes_lines s.windows ps) (behind_instance h) rest (row a (left - 1) (params ∷ seen) (time_or low born))
                (p.read a (left - 1) (params ∷ seen) (time_or low born)));
          }

-- instances

shape-both : (s : StreamForm) (is : List SavedInstance) (i : SavedInstance) → AreForStream s is → AreForWindows s.windows i.panes → AreForStream s (is ++ i ∷ [])
shape-both s [] i a b = (b, tt)
shape-both s (x ∷ is) i a b = (a.0, shape-both s is i a.1 b)

count-both : (is : List SavedInstance) (i : SavedInstance) → count_of (is ++ i ∷ []) ≡ count_of is + 1
count-both [] i = refl
count-both (x ∷ is) i = let h = count-both is i in omega (arith, h)

module _ (t : Times) (s : StreamForm) (count : ℕ) (bytes : List ℕ) where
  abbrev first : ℕ
  first = time_or 0 t.start

  abbrev from : Around → Place
  from a = behind_instance (hand a t s count [] first)

  -- so many instances were read
  pub record AreInstancesSoFar (turn : ℕ) (is : List SavedInstance) (low : ℕ) (left : List ℕ) : Type 0 where
    pub shape : AreForStream s is
    pub many : count_of is ≡ turn
    pub low_is : low ≡ low_after first is
    pub read : (a : Around) → AreLinesRead a.forms (from a) bytes (flat_map (instance_lines s) is) (behind_instance (hand a t s (count - turn) (seen_after [] is) low)) left

  pub none-so-far : AreInstancesSoFar 0 [] first bytes
  none-so-far = record { shape = tt; many = refl; low_is = refl; read = λ a. subst (λ n. AreLinesRead a.forms (from a) bytes [] (behind_instance (hand a t s n [] first)) bytes) (let e : count ≡ count - 0 = omega arith in e) (none-read a.forms (from a) bytes) }

  module _ (turn : ℕ) (is : List SavedInstance) (low : ℕ) (left : List ℕ) (f : AreInstancesSoFar turn is low left) where
    -- another instance is to come
    at-next : turn < count → (a : Around) → behind_instance (hand a t s (count - turn) (seen_after [] is) low) ≡ AtInst (hand a t s (count - turn) (seen_after [] is) low)
    at-next lt a =
        ap (λ (b : Bool). if b then AtStream t (a.number + 1) a.later else AtInst (hand a t s (count - turn) (seen_after [] is) low)) (ne_eqb (count - turn) 0 (λ e. absurd (omega (arith, e, lt))))

    read-to : turn < count → (a : Around) → AreLinesRead a.forms (from a) bytes (flat_map (instance_lines s) is) (AtInst (hand a t s (count - turn) (seen_after [] is) low)) left
    read-to lt a = subst (λ (q : Place). AreLinesRead a.forms (from a) bytes (flat_map (instance_lines s) is) q left) (at-next lt a) (f.read a)

    pub instances-stop : turn < count → (many : ℕ) → RefusesInstance t s (seen_after [] is) low left many → RefusesInstances t s count bytes many
    instances-stop lt many never a =
        refused-behind a.forms (from a) bytes (flat_map (instance_lines s) is) (AtInst (hand a t s (count - turn) (seen_after [] is) low)) left many (read-to lt a) (never a (count - turn))

    pub instances-more : turn < count → (i : SavedInstance) (rest : List ℕ) → ReadsInstance t s (seen_after [] is) low left i rest → AreInstancesSoFar (turn + 1) (is ++ i ∷ []) (time_or low i.born) rest
    instances-more lt i rest r =
        record {
          shape = shape-both s is i f.shape r.shape;
          many = (let m = f.many in let c = count-both is i in omega (arith, m, c));
          low_is = ap (λ n. time_or n i.born) f.low_is ∙ sym (low-more first is i);
          read = λ a.
              let n : (count - turn) - 1 ≡ count - (turn + 1) = omega arith in
              let seen : i.params ∷ seen_after [] is ≡ seen_after [] (is ++ i ∷ []) = sym (seen-more [] is i) in
              let lines : flat_map (instance_lines s) is ++ instance_lines s i ≡ flat_map (instance_lines s) (is ++ i ∷ []) =
              ap (λ (l : List StateLine). flat_map (instance_lines s) is ++ l) (sym (append-nil (instance_lines s i))) ∙ sym (flat_map-append (instance_lines s) is (i ∷ [])) in
              let both = both-read a.forms (from a) bytes (flat_map (instance_lines s) is) (AtInst (hand a t s (count - turn) (seen_after [] is) low)) left (instance_lines s i)
              (behind_instance (hand a t s ((count - turn) - 1) (i.params ∷ seen_after [] is) (time_or low i.born))) rest (read-to lt a) (r.read a (count - turn)) in
              moved a rest n seen lines both;
        }
      where
        moved : (a : Around) (rest : List ℕ) {m n : ℕ} {x y : List (List Field)} {l k : List StateLine} → m ≡ n → x ≡ y → l ≡ k
            → AreLinesRead a.forms (from a) bytes l (behind_instance (hand a t s m x (time_or low i.born))) rest → AreLinesRead a.forms (from a) bytes k (behind_instance (hand a t s n y (time_or low i.born))) rest
        moved a rest {m} {n} {x} {y} {l} {k} e g h r =
            subst (λ (j : List StateLine). AreLinesRead a.forms (from a) bytes j (behind_instance (hand a t s n y (time_or low i.born))) rest) h
            (subst (λ (z : List (List Field)). AreLinesRead a.forms (from a) bytes l (behind_instance (hand a t s n z (time_or low i.born))) rest) g
            (subst (λ (z : ℕ). AreLinesRead a.forms (from a) bytes l (behind_instance (hand a t s z x (time_or low i.born))) rest) e r))

    pub instances-whole : turn ≡ count → ReadsInstances t s count bytes is left
    instances-whole e =
        record {
          shape = f.shape;
          many = f.many ∙ e;
          read = λ a.
              let z : count - turn ≡ 0 = omega (arith, e) in
              subst (λ n. AreLinesRead a.forms (from a) bytes (flat_map (instance_lines s) is) (behind_instance (hand a t s n (seen_after [] is) low)) left) z (f.read a);
        }

-- a stream

module _ (t : Times) (n : ℕ) (s : StreamForm) (bytes : List ℕ) where
  pub no-stream : NoStreamLine t n s bytes → RefusesStream t n s bytes (length bytes)
  no-stream never forms later = refused-here forms (AtStream t n (s ∷ later)) bytes (open-stream t n (s ∷ later)) (never forms later)

  module _ (count : ℕ) (first : List ℕ) (line : IsStreamLine t n s bytes count first) where
    pub no-instances : (many : ℕ) → RefusesInstances t s count first many → RefusesStream t n s bytes many
    no-instances many never forms later =
        let a = around forms n later in
        refused-line forms (AtStream t n (s ∷ later)) bytes (StreamLine n count) (behind_instance (hand a t s count [] (time_or 0 t.start))) first many (line forms later) (never a)

    pub stream-read : (is : List SavedInstance) (rest : List ℕ) → ReadsInstances t s count first is rest → ReadsStream t n s bytes is rest
    stream-read is rest r =
        record {
          shape = r.shape;
          read = λ forms later.
              let a = around forms n later in
              subst (λ c. AreLinesRead forms (AtStream t n (s ∷ later)) bytes (StreamLine n c ∷ flat_map (instance_lines s) is) (AtStream t (n + 1) later) rest) (sym r.many)
              (more-read forms (AtStream t n (s ∷ later)) bytes (StreamLine n count) (behind_instance (hand a t s count [] (time_or 0 t.start))) first (flat_map (instance_lines s) is) (AtStream t (n + 1) later) rest
              (line forms later) (r.read a));
        }

-- all streams

streams-both : (n : ℕ) (ss : List StreamForm) (iss : List (List SavedInstance)) (s : StreamForm) (is : List SavedInstance) → AreForStreams ss iss → AreForStream s is
    → AreForStreams (ss ++ s ∷ []) (iss ++ is ∷ []) × (streams_lines n (ss ++ s ∷ []) (iss ++ is ∷ []) ≡ streams_lines n ss iss ++ StreamLine (n + length ss) (count_of is) ∷ flat_map (instance_lines s) is)
streams-both n [] [] s is a b =
    ((b, tt), ap (λ (l : List StateLine). StreamLine n (count_of is) ∷ l) (append-nil (flat_map (instance_lines s) is)) ∙ ap (λ m. StreamLine m (count_of is) ∷ flat_map (instance_lines s) is) (let e : n ≡ n + 0 = omega arith in e))
streams-both n [] (x ∷ iss) s is a b = absurd a
streams-both n (x ∷ ss) [] s is a b = absurd a
streams-both n (x ∷ ss) (y ∷ iss) s is a b =
    let r = streams-both (n + 1) ss iss s is a.1 b in
    let e : (n + 1) + length ss ≡ n + length (x ∷ ss) = omega arith in (
      (a.0, r.0),
      ap (λ (l : List StateLine). StreamLine n (count_of y) ∷ (flat_map (instance_lines x) y ++ l))
          (r.1 ∙ ap (λ m. streams_lines (n + 1) ss iss ++ StreamLine m (count_of is) ∷ flat_map (instance_lines s) is) e)
          ∙ ap (λ (l : List StateLine). StreamLine n (count_of y) ∷ l)
          (sym (append_assoc (flat_map (instance_lines x) y) (streams_lines (n + 1) ss iss) (StreamLine (n + length (x ∷ ss)) (count_of is) ∷ flat_map (instance_lines s) is))),
    )

module _ (t : Times) (all : List StreamForm) (bytes : List ℕ) where
  -- the first streams were read, and these are to come
  pub record AreStreamsSoFar (n : ℕ) (ss : List StreamForm) (iss : List (List SavedInstance)) (later : List StreamForm) (left : List ℕ) : Type 0 where
    pub shape : AreForStreams ss iss
    pub number : length ss ≡ n
    pub read : (forms : List StreamForm) → AreLinesRead forms (AtStream t 0 all) bytes (streams_lines 0 ss iss) (AtStream t n later) left

  pub no-streams-yet : AreStreamsSoFar 0 [] [] all bytes
  no-streams-yet = record { shape = tt; number = refl; read = λ forms. none-read forms (AtStream t 0 all) bytes }

  pub streams-more : (n : ℕ) (ss : List StreamForm) (iss : List (List SavedInstance)) (s : StreamForm) (later : List StreamForm) (left : List ℕ) (is : List SavedInstance) (rest : List ℕ)
      → AreStreamsSoFar n ss iss (s ∷ later) left → ReadsStream t n s left is rest → AreStreamsSoFar (n + 1) (ss ++ s ∷ []) (iss ++ is ∷ []) later rest
  streams-more n ss iss s later left is rest f r =
      let b = streams-both 0 ss iss s is f.shape r.shape in
      let number = f.number in
      let l = length-append ss (s ∷ []) in
      let m : 0 + length ss ≡ n = omega (arith, number) in
      record {
        shape = b.0;
        number = omega (arith, number, l);
        read = λ forms.
            subst (λ (ls : List StateLine). AreLinesRead forms (AtStream t 0 all) bytes ls (AtStream t (n + 1) later) rest)
            (sym (b.1 ∙ ap (λ k. streams_lines 0 ss iss ++ StreamLine k (count_of is) ∷ flat_map (instance_lines s) is) m))
            (both-read forms (AtStream t 0 all) bytes (streams_lines 0 ss iss) (AtStream t n (s ∷ later)) left (StreamLine n (count_of is) ∷ flat_map (instance_lines s) is) (AtStream t (n + 1) later) rest
            (f.read forms) (r.read forms later));
      }

  pub streams-stop : (n : ℕ) (ss : List StreamForm) (iss : List (List SavedInstance)) (s : StreamForm) (later : List StreamForm) (left : List ℕ) (many : ℕ) → AreStreamsSoFar n ss iss (s ∷ later) left
      → RefusesStream t n s left many → RefusesStreams t all bytes many
  streams-stop n ss iss s later left many f never forms =
      refused-behind forms (AtStream t 0 all) bytes (streams_lines 0 ss iss) (AtStream t n (s ∷ later)) left many (f.read forms) (never forms later)

  pub streams-whole : (n : ℕ) (iss : List (List SavedInstance)) (left : List ℕ) → AreStreamsSoFar n all iss [] left → ReadsStreams t all bytes iss left
  streams-whole n iss left f =
      record { shape = f.shape; read = λ forms. subst (λ k. AreLinesRead forms (AtStream t 0 all) bytes (streams_lines 0 all iss) (AtStream t k []) left) (sym f.number) (f.read forms) }

-- the first item that is left was read

pub panes-next : (t : Times) (s : StreamForm) (bytes : List ℕ) (i : ℕ) (w d : WindowForm) (ps : List (Option SavedPanes)) (left : List ℕ) (p : Option SavedPanes) (rest : List ℕ) → i < length s.windows
    → w ≡ get_or s.windows i d → ArePanesSoFar t s bytes (take i s.windows) ps (drop i s.windows) left → IsPanesLine t s w left p rest
    → ArePanesSoFar t s bytes (take (i + 1) s.windows) (ps ++ p ∷ []) (drop (i + 1) s.windows) rest
panes-next t s bytes i w d ps left p rest lt e f l =
    subst (λ (ws : List WindowForm). ArePanesSoFar t s bytes ws (ps ++ p ∷ []) (drop (i + 1) s.windows) rest) (sym (item-take s.windows i w d lt e))
    (panes-more t s bytes (take i s.windows) ps w (drop (i + 1) s.windows) left p rest
    (subst (λ (ws : List WindowForm). ArePanesSoFar t s bytes (take i s.windows) ps ws left) (item-drop s.windows i w d lt e) f) l)

pub panes-stop-at : (t : Times) (s : StreamForm) (bytes : List ℕ) (i : ℕ) (w d : WindowForm) (ps : List (Option SavedPanes)) (left : List ℕ) → i < length s.windows → w ≡ get_or s.windows i d
    → ArePanesSoFar t s bytes (take i s.windows) ps (drop i s.windows) left → NoPanesLine t s w left → RefusesPanes t s bytes (length left)
panes-stop-at t s bytes i w d ps left lt e f never =
    panes-stop t s bytes (take i s.windows) ps w (drop (i + 1) s.windows) left (subst (λ (ws : List WindowForm). ArePanesSoFar t s bytes (take i s.windows) ps ws left) (item-drop s.windows i w d lt e) f) never

pub panes-end : (t : Times) (s : StreamForm) (bytes : List ℕ) (i : ℕ) (ps : List (Option SavedPanes)) (left : List ℕ) → length s.windows ≤ i
    → ArePanesSoFar t s bytes (take i s.windows) ps (drop i s.windows) left → ReadsPanes t s bytes ps left
panes-end t s bytes i ps left l f =
    panes-whole t s bytes ps left
    (subst (λ (ws : List WindowForm). ArePanesSoFar t s bytes ws ps [] left) (take_all i s.windows l) (subst (λ (ws : List WindowForm). ArePanesSoFar t s bytes (take i s.windows) ps ws left) (drop_all i s.windows l) f))

pub streams-next : (t : Times) (all : List StreamForm) (bytes : List ℕ) (n : ℕ) (s d : StreamForm) (iss : List (List SavedInstance)) (left : List ℕ) (is : List SavedInstance) (rest : List ℕ) → n < length all
    → s ≡ get_or all n d → AreStreamsSoFar t all bytes n (take n all) iss (drop n all) left → ReadsStream t n s left is rest
    → AreStreamsSoFar t all bytes (n + 1) (take (n + 1) all) (iss ++ is ∷ []) (drop (n + 1) all) rest
streams-next t all bytes n s d iss left is rest lt e f r =
    subst (λ (ss : List StreamForm). AreStreamsSoFar t all bytes (n + 1) ss (iss ++ is ∷ []) (drop (n + 1) all) rest) (sym (item-take all n s d lt e))
    (streams-more t all bytes n (take n all) iss s (drop (n + 1) all) left is rest
    (subst (λ (ss : List StreamForm). AreStreamsSoFar t all bytes n (take n all) iss ss left) (item-drop all n s d lt e) f) r)

pub streams-stop-at : (t : Times) (all : List StreamForm) (bytes : List ℕ) (n : ℕ) (s d : StreamForm) (iss : List (List SavedInstance)) (left : List ℕ) (many : ℕ) → n < length all → s ≡ get_or all n d
    → AreStreamsSoFar t all bytes n (take n all) iss (drop n all) left → RefusesStream t n s left many → RefusesStreams t all bytes many
streams-stop-at t all bytes n s d iss left many lt e f never =
    streams-stop t all bytes n (take n all) iss s (drop (n + 1) all) left many
    (subst (λ (ss : List StreamForm). AreStreamsSoFar t all bytes n (take n all) iss ss left) (item-drop all n s d lt e) f) never

pub streams-end : (t : Times) (all : List StreamForm) (bytes : List ℕ) (n : ℕ) (iss : List (List SavedInstance)) (left : List ℕ) → length all ≤ n
    → AreStreamsSoFar t all bytes n (take n all) iss (drop n all) left → ReadsStreams t all bytes iss left
streams-end t all bytes n iss left l f =
    streams-whole t all bytes n iss left
    (subst (λ (ss : List StreamForm). AreStreamsSoFar t all bytes n ss iss [] left) (take_all n all l) (subst (λ (ss : List StreamForm). AreStreamsSoFar t all bytes n (take n all) iss ss left) (drop_all n all l) f))

-- the same where the items stand in a list that is these

pub panes-next-in : (t : Times) (s : StreamForm) (bytes : List ℕ) (xs : List WindowForm) → xs ≡ s.windows → (i : ℕ) (w d : WindowForm) (ps : List (Option SavedPanes)) (left : List ℕ) (p : Option SavedPanes) (rest : List ℕ)
    → i < length xs → w ≡ get_or xs i d → ArePanesSoFar t s bytes (take i s.windows) ps (drop i s.windows) left → IsPanesLine t s w left p rest
    → ArePanesSoFar t s bytes (take (i + 1) s.windows) (ps ++ p ∷ []) (drop (i + 1) s.windows) rest
panes-next-in t s bytes xs same i w d ps left p rest lt e =
    panes-next t s bytes i w d ps left p rest (subst (λ (l : List WindowForm). i < length l) same lt) (e ∙ ap (λ (l : List WindowForm). get_or l i d) same)

pub panes-stop-in : (t : Times) (s : StreamForm) (bytes : List ℕ) (xs : List WindowForm) → xs ≡ s.windows → (i : ℕ) (w d : WindowForm) (ps : List (Option SavedPanes)) (left : List ℕ) → i < length xs → w ≡ get_or xs i d
    → ArePanesSoFar t s bytes (take i s.windows) ps (drop i s.windows) left → NoPanesLine t s w left → RefusesPanes t s bytes (length left)
panes-stop-in t s bytes xs same i w d ps left lt e =
    panes-stop-at t s bytes i w d ps left (subst (λ (l : List WindowForm). i < length l) same lt) (e ∙ ap (λ (l : List WindowForm). get_or l i d) same)

pub length-in : (s : StreamForm) (xs : List WindowForm) → xs ≡ s.windows → (i : ℕ) (w d : WindowForm) → i < length xs → w ≡ get_or xs i d → HaveLength s.windows → 1 ≤ w.pane
length-in s xs same i w d lt e h =
    window-length s.windows (take i s.windows) (drop (i + 1) s.windows) w
    (item-split s.windows i w d (subst (λ (l : List WindowForm). i < length l) same lt) (e ∙ ap (λ (l : List WindowForm). get_or l i d) same)) h
