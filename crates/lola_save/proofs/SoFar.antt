-- A text is appended piece by piece: what was appended so far is its front.
use Rattle.std.proofs.Common.{◌≡◌, ℕ, List, [], ◌++◌, refl, sym, ap, ◌∙◌, append_assoc, append-nil}
use Rattle.lola_value.specs.Appending.{AppendsPart}

-- of a whole that is appended to `old`, all but this tail was
pub record IsSoFar (old mid whole tail : List ℕ) : Type 0 where
  pub part : List ℕ
  pub appended : mid ≡ old ++ part
  pub joined : whole ≡ part ++ tail

pub none-so-far : (old whole : List ℕ) → IsSoFar old old whole whole
none-so-far old whole = record { part = []; appended = sym (append-nil old); joined = refl }

pub more-so-far : (old mid new whole piece tail : List ℕ) → IsSoFar old mid whole (piece ++ tail) → new ≡ mid ++ piece → IsSoFar old new whole tail
more-so-far old mid new whole piece tail s e =
    record {
      part = s.part ++ piece;
      appended = e ∙ ap (λ (t : List ℕ). t ++ piece) s.appended ∙ append_assoc old s.part piece;
      joined = s.joined ∙ sym (append_assoc s.part piece tail);
    }

pub all-so-far : (old new whole : List ℕ) → IsSoFar old new whole [] → new ≡ old ++ whole
all-so-far old new whole s = s.appended ∙ ap (λ (t : List ℕ). old ++ t) (sym (s.joined ∙ append-nil s.part))

pub part-so-far : (old mid new whole piece tail : List ℕ) → IsSoFar old mid whole (piece ++ tail) → AppendsPart mid new piece → AppendsPart old new whole
part-so-far old mid new whole piece tail s a =
    record {
      part = s.part ++ a.part;
      rest = a.rest ++ tail;
      joined = s.joined ∙ ap (λ (t : List ℕ). s.part ++ (t ++ tail)) a.joined ∙ ap (λ (t : List ℕ). s.part ++ t) (append_assoc a.part a.rest tail) ∙ sym (append_assoc s.part a.part (a.rest ++ tail));
      appended = a.appended ∙ ap (λ (t : List ℕ). t ++ a.part) s.appended ∙ append_assoc old s.part a.part;
    }
