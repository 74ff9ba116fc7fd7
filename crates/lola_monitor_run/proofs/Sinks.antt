-- What a sink received, one text after another.
use Rattle.std.proofs.Common.{◌≡◌, ℕ, ◌≤◌, List, [], ◌++◌, Option, None, Some, refl, sym, ap, ◌∙◌, subst, append_assoc}
use Rattle.std.proofs.lemmas.List.{append-nil}
use Rattle.std.specs.Io.KnownBytes.{append_known}
use Rattle.lola_port.specs.States.{PutBroke, Rose, SinkState, grown}

pub known_append : (known : Option (List ℕ)) (xs ys : List ℕ) → append_known (append_known known xs) ys ≡ append_known known (xs ++ ys)
known_append None xs ys = refl
known_append (Some zs) xs ys = ap Some (append_assoc zs xs ys)

pub known_nil : (known : Option (List ℕ)) → append_known known [] ≡ known
known_nil None = refl
known_nil (Some zs) = ap Some (append-nil zs)

pub grown_twice : (s : SinkState) (xs ys : List ℕ) → grown (grown s xs) ys ≡ grown s (xs ++ ys)
grown_twice s xs ys = ap (λ (o : Option (List ℕ)). record { written = o; count = s.count }) (known_append s.written xs ys)

pub grown_nil : (s : SinkState) → grown s [] ≡ s
grown_nil s = ap (λ (o : Option (List ℕ)). record { written = o; count = s.count }) (known_nil s.written)

-- a sink after one text more
pub more_text : (s0 s1 s2 : SinkState) (xs ys zs : List ℕ) → s1 ≡ grown s0 xs → s2 ≡ grown s1 ys → zs ≡ xs ++ ys → s2 ≡ grown s0 zs
more_text s0 s1 s2 xs ys zs first second is = second ∙ ap (λ s. grown s ys) first ∙ grown_twice s0 xs ys ∙ ap (grown s0) (sym is)

-- a text grown by a part
pub grown_part : (s0 s1 s2 : SinkState) (xs part : List ℕ) → s1 ≡ grown s0 xs → s2.written ≡ append_known s1.written part → s2.written ≡ append_known s0.written (xs ++ part)
grown_part s0 s1 s2 xs part first second = second ∙ ap (λ s. append_known s.written part) first ∙ known_append s0.written xs part

-- a put that failed behind a text: a proper part of both
pub broke_behind : (s0 s1 s2 : SinkState) (text more : List ℕ) → s1 ≡ grown s0 text → PutBroke s1 s2 more → PutBroke s0 s2 (text ++ more)
broke_behind s0 s1 s2 text more first broke = record {
  part = text ++ broke.part;
  is_part = record {
    rest = broke.is_part.rest;
    joined = ap (λ (l : List ℕ). text ++ l) broke.is_part.joined ∙ sym (append_assoc text broke.part broke.is_part.rest);
    not_whole = broke.is_part.not_whole;
  };
  written = grown_part s0 s1 s2 text broke.part first broke.written;
  later = subst (λ n. n ≤ s2.count) (ap (λ (s : SinkState). s.count) first) broke.later;
  rose = subst (λ n. Rose n s2.count) (ap (λ (s : SinkState). s.count) first) broke.rose;
}
