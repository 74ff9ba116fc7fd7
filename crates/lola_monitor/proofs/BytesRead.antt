-- Bytes that were read from the front of those that are left.
use Rattle.std.proofs.Common.{◌≡◌, ℕ, ◌<◌, length, inl, inr, subst, List, [], ◌++◌, Option, None, Some, refl, sym, ap, ◌∙◌, append_assoc}
use Rattle.std.proofs.lemmas.List.{append-nil}
use Rattle.std.specs.Io.KnownBytes.{prepend_known, IsAtEnd}
use Rattle.lola_port.specs.States.{Moved, SourceState}
use Rattle.lola_monitor.specs.Outcomes.{AppendsRead, IsReadFront}

-- what was read is a front of all
pub record IsReadTo (first now : Option (List ℕ)) (bytes : List ℕ) : Type 0 where
  pub so_far : (all : List ℕ) → first ≡ Some all → (rest : List ℕ) × (now ≡ Some rest) × (all ≡ bytes ++ rest)

prepend_some : (bytes : List ℕ) (known : Option (List ℕ)) (all : List ℕ) → prepend_known bytes known ≡ Some all → (rest : List ℕ) × (known ≡ Some rest) × (all ≡ bytes ++ rest)
prepend_some bytes None all is = cc
prepend_some bytes (Some rest) all is = (rest, refl, cc)

pub read_none : (left : Option (List ℕ)) → IsReadTo left left []
read_none left = record { so_far = λ all is. (all, is, refl) }

pub read_on : (first : Option (List ℕ)) (now next : SourceState) (bytes more : List ℕ) → IsReadTo first now.left bytes → Moved now next more → IsReadTo first next.left (bytes ++ more)
read_on first now next bytes more so moved = record {
  so_far = λ all is.
      let s = so.so_far all is in
      let m = prepend_some more next.left s.0 (sym moved.left ∙ s.1) in
      (m.0, m.1, s.2 ∙ ap (λ (l : List ℕ). bytes ++ l) m.2 ∙ sym (append_assoc bytes more m.0));
}

at_end : (left : Option (List ℕ)) (rest : List ℕ) → left ≡ Some rest → IsAtEnd left → rest ≡ []
at_end None rest is end = cc
at_end (Some xs) rest is end = let same : xs ≡ rest = cc in sym same ∙ end

-- what was appended so far, and once more
pub read_appended : (first : Option (List ℕ)) (now next : SourceState) (before after : List ℕ) (count : ℕ) → IsReadTo first now.left before → AppendsRead count before after now next → IsReadTo first next.left after
read_appended first now next before after count so a = subst (IsReadTo first next.left) (sym a.appended) (read_on first now next before a.more so a.moved)

-- nothing more came, and that at the end
pub read_whole : (first : Option (List ℕ)) (now next : SourceState) (before after : List ℕ) (count most : ℕ) → count ≡ 0 → IsReadTo first now.left before → AppendsRead count before after now next → IsAtEnd next.left → (all : List ℕ) → first ≡ Some all → IsReadFront most after all
read_whole first now next before after count most none so a end all is =
    let s = (read_appended first now next before after count so a).so_far all is in
    inl (sym (s.2 ∙ ap (λ (l : List ℕ). after ++ l) (at_end next.left s.0 s.1 end) ∙ append-nil after))

-- more came than so many
pub read_past : (first now : Option (List ℕ)) (bytes : List ℕ) (most : ℕ) → most < length bytes → IsReadTo first now bytes → (all : List ℕ) → first ≡ Some all → IsReadFront most bytes all
read_past first now bytes most long so all is = let s = so.so_far all is in inr (long, s.0, s.2)
