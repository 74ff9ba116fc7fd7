-- What a row gives, where its operands have kinds or are free and nothing is refused.
use Rattle.std.proofs.Common.{◌≡◌, ℕ, zero, suc, refl, ap, sym, ◌∙◌, subst, Bool, true, false, ◌&&◌, if◌then◌else◌, []}
use Rattle.std.proofs.lemmas.Bool.{eqb-true, eq-eqb, or_from}
use Rattle.lola_value.specs.declared.value.Kind.{Kind}
use Rattle.lola_value.specs.declared.value.Kind.TheVariants as kind
use Rattle.lola_value.specs.Kinds.{is_integer, is_signed, kind_number}
use Rattle.lola_model.specs.Typing.{same_kind}
use Rattle.lola_types.specs.Found.{is_broken, is_unknown, joint, certain_part, integer_part, signed_part, truth_part, unless_broken, made_certain, by_row, by_two, a_truth, arithmetic_part, order_part, equality_part, connected_part, defaults_part, choice_part}
use Rattle.lola_types.specs.Refused.{own_refusals}
use Rattle.lola_types.specs.declared.found.Found.{Found}
use Rattle.lola_types.specs.declared.found.Found.TheVariants.{Of, Free, Unknown, Broken}
use Rattle.lola_front.proofs.Bools.{left_of, right_of, never, never_back}

-- kinds by their numbers

numbered : ℕ → Kind
numbered zero = kind.Bool
numbered (suc zero) = kind.Int8
numbered (suc (suc zero)) = kind.Int16
numbered (suc (suc (suc zero))) = kind.Int32
numbered (suc (suc (suc (suc zero)))) = kind.Int64
numbered (suc (suc (suc (suc (suc zero))))) = kind.UInt8
numbered (suc (suc (suc (suc (suc (suc zero)))))) = kind.UInt16
numbered (suc (suc (suc (suc (suc (suc (suc zero))))))) = kind.UInt32
numbered (suc (suc (suc (suc (suc (suc (suc (suc zero)))))))) = kind.UInt64
numbered (suc (suc (suc (suc (suc (suc (suc (suc (suc n))))))))) = kind.Text

back : (k : Kind) → numbered (kind_number k) ≡ k
unfolding numbered
back kind.Bool = refl
back kind.Int8 = refl
back kind.Int16 = refl
back kind.Int32 = refl
back kind.Int64 = refl
back kind.UInt8 = refl
back kind.UInt16 = refl
back kind.UInt32 = refl
back kind.UInt64 = refl
back kind.Text = refl

pub kind_is : (k l : Kind) → same_kind k l ≡ true → k ≡ l
kind_is k l h = sym (back k) ∙ (ap numbered (eqb-true (kind_number k) (kind_number l) h) ∙ back l)

pub same_self : (k : Kind) → same_kind k k ≡ true
same_self k = eq-eqb (kind_number k) (kind_number k) refl

pub same_where : (k l : Kind) → k ≡ l → same_kind k l ≡ true
same_where k l e = subst (λ z. same_kind k z ≡ true) e (same_self k)

pub signed_is_integer : (k : Kind) → is_signed k ≡ true → is_integer k ≡ true
signed_is_integer kind.Int8 h = refl
signed_is_integer kind.Int16 h = refl
signed_is_integer kind.Int32 h = refl
signed_is_integer kind.Int64 h = refl
signed_is_integer kind.Bool h = never_back h
signed_is_integer kind.UInt8 h = never_back h
signed_is_integer kind.UInt16 h = never_back h
signed_is_integer kind.UInt32 h = never_back h
signed_is_integer kind.UInt64 h = never_back h
signed_is_integer kind.Text h = never_back h

-- a part of a kind, or a free one

abbrev pub is_ready : Found → Bool
is_ready (Of k c) = true
is_ready Free = true
is_ready Unknown = false
is_ready Broken = false

-- a part that fits this kind
abbrev pub matches : Kind → Found → Bool
matches k (Of l c) = same_kind l k
matches k Free = is_integer k
matches k Unknown = false
matches k Broken = false

-- a part that is not optional
abbrev pub is_sure : Found → Bool
is_sure (Of k c) = c
is_sure Free = true
is_sure Unknown = false
is_sure Broken = false

pub ready_unbroken : (p : Found) → is_ready p ≡ true → is_broken p ≡ false
ready_unbroken (Of k c) h = refl
ready_unbroken Free h = refl
ready_unbroken Unknown h = never_back h
ready_unbroken Broken h = never_back h

ready_known : (p : Found) → is_ready p ≡ true → is_unknown p ≡ false
ready_known (Of k c) h = refl
ready_known Free h = refl
ready_known Unknown h = never_back h
ready_known Broken h = never_back h

-- a part's row is not broken, where nothing is refused at it
pub own_holds : (at : ℕ) (b c : Bool) (w : Found) → own_refusals at c w ≡ [] → c ≡ false → is_broken w ≡ false
own_holds at b c (Of k d) h e = refl
own_holds at b c Free h e = refl
own_holds at b c Unknown h e = refl
own_holds at b true Broken h e = never e
own_holds at b false Broken h e = absurd (cc)

pub by_row_is : (a b : Bool) (row early : Found) → a ≡ false → b ≡ false → by_row a b row early ≡ row
by_row_is false false row early h g = refl
by_row_is false true row early h g = never g
by_row_is true b row early h g = never h

pub by_two_is : (p q row early : Found) → is_ready p ≡ true → is_ready q ≡ true → by_two p q row early ≡ row
by_two_is p q row early h g = by_row_is _ _ row early (or_from _ _ (ready_unbroken p h) (ready_unbroken q g)) (or_from _ _ (ready_known p h) (ready_known q g))

-- what is left where a part was not broken

kept_where : (b : Bool) (p : Found) → is_broken (if b then p else Broken) ≡ false → b ≡ true
kept_where true p h = refl
kept_where false p h = never h

kept_is : (b : Bool) (p : Found) → is_broken (if b then p else Broken) ≡ false → (if b then p else Broken) ≡ p
kept_is true p h = refl
kept_is false p h = never h

pub integer_is : (k : Kind) (c : Bool) → is_broken (integer_part (Of k c)) ≡ false → (integer_part (Of k c) ≡ Of k true) × (is_integer k ≡ true) × (c ≡ true)
integer_is k c h = let e = kept_where (is_integer k && c) (Of k true) h in (kept_is (is_integer k && c) (Of k true) h, left_of (is_integer k) c e, right_of (is_integer k) c e)

pub signed_is : (k : Kind) (c : Bool) → is_broken (signed_part (Of k c)) ≡ false → (signed_part (Of k c) ≡ Of k true) × (is_signed k ≡ true) × (c ≡ true)
signed_is k c h = let e = kept_where (is_signed k && c) (Of k true) h in (kept_is (is_signed k && c) (Of k true) h, left_of (is_signed k) c e, right_of (is_signed k) c e)

pub certain_is : (k : Kind) (c : Bool) → is_broken (certain_part (Of k c)) ≡ false → (certain_part (Of k c) ≡ Of k true) × (c ≡ true)
certain_is k c h = (kept_is c (Of k true) h, kept_where c (Of k true) h)

pub certain_sure : (p : Found) → is_ready p ≡ true → is_broken (certain_part p) ≡ false → is_sure p ≡ true
certain_sure (Of k c) r h = kept_where c (Of k true) h
certain_sure Free r h = refl
certain_sure Unknown r h = never_back r
certain_sure Broken r h = never_back r

-- a truth value is certain and of Bool
pub truth_is : (p : Found) → is_ready p ≡ true → is_broken (truth_part p) ≡ false → (truth_part p ≡ a_truth) × (matches kind.Bool p ≡ true) × (is_sure p ≡ true)
truth_is (Of k c) r h = let e = kept_where (same_kind k kind.Bool && c) a_truth h in (kept_is (same_kind k kind.Bool && c) a_truth h, left_of (same_kind k kind.Bool) c e, right_of (same_kind k kind.Bool) c e)
truth_is Free r h = never h
truth_is Unknown r h = never_back r
truth_is Broken r h = never_back r

pub unless_is : (p q : Found) → is_broken (unless_broken p q) ≡ false → (is_broken p ≡ false) × (unless_broken p q ≡ q)
unless_is (Of k c) q h = (refl, refl)
unless_is Free q h = (refl, refl)
unless_is Unknown q h = (refl, refl)
unless_is Broken q h = never h

-- operands of one kind, not both free
abbrev pub IsOneKind : Found → Found → Type 0
IsOneKind p q = (k : Kind) × (c : Bool) × (joint p q ≡ Of k c) × (matches k p ≡ true) × (matches k q ≡ true) × (c ≡ true → (is_sure p ≡ true) × (is_sure q ≡ true))

pub one_kind : (k : Kind) (c : Bool) (q : Found) → is_ready q ≡ true → is_broken (joint (Of k c) q) ≡ false → IsOneKind (Of k c) q
one_kind k c (Of l d) r h =
    let e = kept_where (same_kind k l) (Of k (c && d)) h in
    (k, c && d, kept_is (same_kind k l) (Of k (c && d)) h, same_self k, same_where l k (sym (kind_is k l e)), λ s. (left_of c d s, right_of c d s))
one_kind k c Free r h = (k, c, kept_is (is_integer k) (Of k c) h, same_self k, kept_where (is_integer k) (Of k c) h, λ s. (s, refl))
one_kind k c Unknown r h = never_back r
one_kind k c Broken r h = never_back r

pub free_kind : (k : Kind) (c : Bool) → is_broken (joint Free (Of k c)) ≡ false → IsOneKind Free (Of k c)
free_kind k c h = (k, c, kept_is (is_integer k) (Of k c) h, kept_where (is_integer k) (Of k c) h, same_self k, λ s. (refl, s))

-- a part made of a broken one is broken

integer_unbroken : (p : Found) → is_broken (integer_part p) ≡ false → is_broken p ≡ false
integer_unbroken (Of k c) h = refl
integer_unbroken Free h = refl
integer_unbroken Unknown h = refl
integer_unbroken Broken h = h

certain_unbroken : (p : Found) → is_broken (certain_part p) ≡ false → is_broken p ≡ false
certain_unbroken (Of k c) h = refl
certain_unbroken Free h = refl
certain_unbroken Unknown h = refl
certain_unbroken Broken h = h

made_unbroken : (p : Found) → is_broken (made_certain p) ≡ false → is_broken p ≡ false
made_unbroken (Of k c) h = refl
made_unbroken Free h = refl
made_unbroken Unknown h = refl
made_unbroken Broken h = h

-- the rows, operand by operand

module _ (p q : Found) (rp : is_ready p ≡ true) (rq : is_ready q ≡ true) where
  arithmetic_row_is : arithmetic_part p q ≡ integer_part (joint p q)
  arithmetic_row_is = by_two_is p q (integer_part (joint p q)) (joint p q) rp rq

  order_row_is : order_part p q ≡ unless_broken (integer_part (joint p q)) a_truth
  order_row_is = by_two_is p q (unless_broken (integer_part (joint p q)) a_truth) a_truth rp rq

  equality_row_is : equality_part p q ≡ unless_broken (certain_part (joint p q)) a_truth
  equality_row_is = by_two_is p q (unless_broken (certain_part (joint p q)) a_truth) a_truth rp rq

  connected_row_is : connected_part p q ≡ unless_broken (truth_part p) (truth_part q)
  connected_row_is = by_two_is p q (unless_broken (truth_part p) (truth_part q)) a_truth rp rq

  defaults_row_is : defaults_part p q ≡ unless_broken (certain_part q) (made_certain (joint p q))
  defaults_row_is = by_two_is p q (unless_broken (certain_part q) (made_certain (joint p q))) (made_certain (joint p q)) rp rq

  choice_row_is : (t : Found) → is_ready t ≡ true → choice_part t p q ≡ unless_broken (truth_part t) (certain_part (joint p q))
  choice_row_is t rt = by_row_is _ _ (unless_broken (truth_part t) (certain_part (joint p q))) (made_certain (joint p q))
      (or_from _ _ (ready_unbroken t rt) (or_from _ _ (ready_unbroken p rp) (ready_unbroken q rq)))
      (or_from _ _ (ready_known t rt) (or_from _ _ (ready_known p rp) (ready_known q rq)))

  -- operands that are not broken together
  pub arithmetic_joint : is_broken (arithmetic_part p q) ≡ false → is_broken (joint p q) ≡ false
  arithmetic_joint h = integer_unbroken (joint p q) (subst (λ w. is_broken w ≡ false) arithmetic_row_is h)

  pub order_joint : is_broken (order_part p q) ≡ false → is_broken (joint p q) ≡ false
  order_joint h = integer_unbroken (joint p q) (unless_is (integer_part (joint p q)) a_truth (subst (λ w. is_broken w ≡ false) order_row_is h)).0

  pub equality_joint : is_broken (equality_part p q) ≡ false → is_broken (joint p q) ≡ false
  equality_joint h = certain_unbroken (joint p q) (unless_is (certain_part (joint p q)) a_truth (subst (λ w. is_broken w ≡ false) equality_row_is h)).0

  pub defaults_joint : is_broken (defaults_part p q) ≡ false → is_broken (joint p q) ≡ false
  defaults_joint h =
      let g = subst (λ w. is_broken w ≡ false) defaults_row_is h in
      made_unbroken (joint p q) (subst (λ w. is_broken w ≡ false) (unless_is (certain_part q) (made_certain (joint p q)) g).1 g)

  pub choice_joint : (t : Found) → is_ready t ≡ true → is_broken (choice_part t p q) ≡ false → is_broken (joint p q) ≡ false
  choice_joint t rt h =
      let g = subst (λ w. is_broken w ≡ false) (choice_row_is t rt) h in
      certain_unbroken (joint p q) (subst (λ w. is_broken w ≡ false) (unless_is (truth_part t) (certain_part (joint p q)) g).1 g)

  module _ (k : Kind) (c : Bool) (j : joint p q ≡ Of k c) where
    pub arithmetic_is : is_broken (arithmetic_part p q) ≡ false → (arithmetic_part p q ≡ Of k true) × (is_integer k ≡ true) × (c ≡ true)
    arithmetic_is h =
        let e : arithmetic_part p q ≡ integer_part (Of k c) = arithmetic_row_is ∙ ap integer_part j in
        let i = integer_is k c (subst (λ w. is_broken w ≡ false) e h) in (e ∙ i.0, i.1, i.2)

    pub order_is : is_broken (order_part p q) ≡ false → (order_part p q ≡ a_truth) × (is_integer k ≡ true) × (c ≡ true)
    order_is h =
        let e : order_part p q ≡ unless_broken (integer_part (Of k c)) a_truth = order_row_is ∙ ap (λ w. unless_broken (integer_part w) a_truth) j in
        let g = unless_is (integer_part (Of k c)) a_truth (subst (λ w. is_broken w ≡ false) e h) in
        let i = integer_is k c g.0 in (e ∙ g.1, i.1, i.2)

    pub equality_is : is_broken (equality_part p q) ≡ false → (equality_part p q ≡ a_truth) × (c ≡ true)
    equality_is h =
        let e : equality_part p q ≡ unless_broken (certain_part (Of k c)) a_truth = equality_row_is ∙ ap (λ w. unless_broken (certain_part w) a_truth) j in
        let g = unless_is (certain_part (Of k c)) a_truth (subst (λ w. is_broken w ≡ false) e h) in
        (e ∙ g.1, (certain_is k c g.0).1)

    pub defaults_is : is_broken (defaults_part p q) ≡ false → (defaults_part p q ≡ Of k true) × (is_sure q ≡ true)
    defaults_is h =
        let e : defaults_part p q ≡ unless_broken (certain_part q) (Of k true) = defaults_row_is ∙ ap (λ w. unless_broken (certain_part q) (made_certain w)) j in
        let g = unless_is (certain_part q) (Of k true) (subst (λ w. is_broken w ≡ false) e h) in
        (e ∙ g.1, certain_sure q rq g.0)

    pub choice_is : (t : Found) → is_ready t ≡ true → is_broken (choice_part t p q) ≡ false
        → (choice_part t p q ≡ Of k true) × (matches kind.Bool t ≡ true) × (is_sure t ≡ true) × (c ≡ true)
    choice_is t rt h =
        let e : choice_part t p q ≡ unless_broken (truth_part t) (certain_part (Of k c)) = choice_row_is t rt ∙ ap (λ w. unless_broken (truth_part t) (certain_part w)) j in
        let g = unless_is (truth_part t) (certain_part (Of k c)) (subst (λ w. is_broken w ≡ false) e h) in
        let n = truth_is t rt g.0 in
        let m = certain_is k c (subst (λ w. is_broken w ≡ false) (e ∙ g.1) h) in
        (e ∙ (g.1 ∙ m.0), n.1, n.2, m.1)

  pub connected_is : is_broken (connected_part p q) ≡ false
      → (connected_part p q ≡ a_truth) × (matches kind.Bool p ≡ true) × (is_sure p ≡ true) × (matches kind.Bool q ≡ true) × (is_sure q ≡ true)
  connected_is h =
      let g = unless_is (truth_part p) (truth_part q) (subst (λ w. is_broken w ≡ false) connected_row_is h) in
      let a = truth_is p rp g.0 in
      let b = truth_is q rq (subst (λ w. is_broken w ≡ false) (connected_row_is ∙ g.1) h) in
      (connected_row_is ∙ (g.1 ∙ b.0), a.1, a.2, b.1, b.2)

-- a choice between free branches is free
pub truth_where : (l : Kind) (c : Bool) → is_broken (choice_part (Of l c) Free Free) ≡ false → (choice_part (Of l c) Free Free ≡ Free) × (matches kind.Bool (Of l c) ≡ true) × (is_sure (Of l c) ≡ true)
truth_where l c h =
    let g = unless_is (truth_part (Of l c)) Free h in
    let i = truth_is (Of l c) refl g.0 in (g.1, i.1, i.2)
