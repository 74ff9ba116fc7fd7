-- Calls that append one after another: what is there when one finds no memory.
use Rattle.std.proofs.Common.{◌≡◌, List, [], ◌++◌, ℕ, refl, sym, ap, ◌∙◌, append_assoc, append-nil}
use Rattle.lola_value.specs.Appending.{AppendsPart}

-- nothing was appended
pub none_appended : (old new whole : List ℕ) → new ≡ old → AppendsPart old new whole
none_appended old new whole same = record { part = []; rest = whole; joined = refl; appended = same ∙ sym (append-nil old) }

-- all was appended
pub all_appended : (old new whole : List ℕ) → new ≡ old ++ whole → AppendsPart old new whole
all_appended old new whole is = record { part = whole; rest = []; joined = sym (append-nil whole); appended = is }

-- a part of the first of two
pub in_first : (old new first second : List ℕ) → AppendsPart old new first → AppendsPart old new (first ++ second)
in_first old new first second a = record {
  part = a.part;
  rest = a.rest ++ second;
  joined = ap (λ (l : List ℕ). l ++ second) a.joined ∙ append_assoc a.part a.rest second;
  appended = a.appended;
}

-- the first of two, and then a part of the second
pub in_second : (old mid new first second : List ℕ) → mid ≡ old ++ first → AppendsPart mid new second → AppendsPart old new (first ++ second)
in_second old mid new first second is a = record {
  part = first ++ a.part;
  rest = a.rest;
  joined = ap (λ (l : List ℕ). first ++ l) a.joined ∙ sym (append_assoc first a.part a.rest);
  appended = a.appended ∙ ap (λ (l : List ℕ). l ++ a.part) is ∙ append_assoc old first a.part;
}
