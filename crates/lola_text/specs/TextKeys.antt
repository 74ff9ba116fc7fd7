-- What a hash is made of where a text is the key.
use Rattle.std.specs.Prelude.{ℕ, ◌≡◌, List, [], ◌∷◌, nat_eq, IsTrue}
use Rattle.std.specs.Cmp.Lexicographic.{bytes_decides, pointwise}
use Rattle.std.proofs.Common.{ap}

-- all bytes of a text in one write
abbrev pub key_writes : List ℕ → List (List ℕ)
key_writes text = text ∷ []

-- equal texts make the same write
pub writes_same : (x y : List ℕ) → IsTrue (pointwise nat_eq x y) → key_writes x ≡ key_writes y
writes_same x y same = ap key_writes ((bytes_decides x y).0 same)
