-- Two texts, appended one after the other.
use Rattle.std.proofs.Common.{Result, OnErr, OnOk, ◌≡◌, List, ◌++◌, ℕ, ap, ◌∙◌, append_assoc}
use Rattle.std.proofs.lemmas.Result.{on_err_weaker, on_ok_weaker}
use Rattle.lola_value.specs.Appending.{AppendsPart}
use Rattle.lola_value.proofs.AppendingLemmas.{in_second, none_appended}

module _ {T E : Type 0} (r : Result T E) (old mid new first second : List ℕ) (is : mid ≡ old ++ first) where
  -- both were appended
  pub both_appended : OnOk r (new ≡ mid ++ second) → OnOk r (new ≡ old ++ (first ++ second))
  both_appended next = on_ok_weaker r (λ same. same ∙ ap (λ (l : List ℕ). l ++ second) is ∙ append_assoc old first second) next

  -- the first, and a part of the second
  pub second_in_part : OnErr r (AppendsPart mid new second) → OnErr r (AppendsPart old new (first ++ second))
  second_in_part part = on_err_weaker r (in_second old mid new first second is) part

  -- the first, and nothing of the second
  pub first_alone : OnErr r (new ≡ mid) → OnErr r (AppendsPart old new (first ++ second))
  first_alone next = on_err_weaker r (λ same. in_second old mid new first second is (none_appended mid new second same)) next
