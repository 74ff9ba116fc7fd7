use Rattle.std.proofs.Common.{◌∙◌, sym, subst, ℕ, List, ◌^◌, ◌<◌, All}
use Rattle.std.proofs.lemmas.List.Sorted.{IsNonDecreasingBy-from_sort}
use Rattle.std.specs.List.Sorted.{IsNonDecreasing}
use Rattle.lola_model.specs.declared.pacing.InputSet.{InputSet}
use Rattle.lola_pacing_normal.specs.Kept.{AreKept, AreManyKept}
use Rattle.lola_model.specs.NormalForms.{ListsLeast}
use Rattle.lola_pacing_normal.proofs.LeastLemmas.{passes_some, answers_end, lists_least}
use Rattle.lola_pacing_normal.proofs.least.least.Goals as goal

pub least_of-requires : goal.least_of-requires
least_of-requires c = subst (λ (xs : List ℕ). IsNonDecreasing xs) (sym c.deref.ensures.value) (IsNonDecreasingBy-from_sort (λ x. x) c.sort_unstable.new.self.items c.sort_unstable.ensures.sorted)

pub returns-in-Err : goal.returns-in-Err
returns-in-Err c =
    answers_end c.args.candidates.items c.sort_unstable.new.self.items c.in-Err.end c.sort_unstable.ensures.permutation
    (λ e. subst (λ (xs : List ℕ). AreManyKept xs) c.deref.ensures.value (c.in-Err.ensures.many e))

pub returns : goal.returns
returns c =
    let kept : AreKept c.sort_unstable.new.self.items c.in-Ok.kept.items = subst (λ (xs : List ℕ). AreKept xs c.in-Ok.kept.items) c.deref.ensures.value c.in-Ok.ensures.kept in
    let fit : All (λ x. x < 2 ^ 64) c.sort_unstable.new.self.items = subst (λ (xs : List ℕ). All (λ x. x < 2 ^ 64) xs) c.deref.ensures.value c.in-Ok.ensures.fit in
    let form = c.in_ok-form-in-Ok.ensures in
    subst (λ (sets : List InputSet). ListsLeast (passes_some c.args.candidates.items) sets) (sym (form ∙ c.deref-in-Ok.ensures.value))
    (lists_least c.args.candidates.items c.sort_unstable.new.self.items c.in-Ok.kept.items c.sort_unstable.ensures.permutation fit kept)
