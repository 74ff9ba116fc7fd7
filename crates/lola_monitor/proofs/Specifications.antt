-- A specification that was read to its end, or past the most bytes of one.
use Rattle.std.proofs.Common.{◌≡◌, ℕ, ◌<◌, List, ◌++◌, Result, Ok, Err, Bool, true, false, inl, inr, refl, sym, ap, ◌∙◌, subst, arith, length, length-append, nat_lt, if◌then◌else◌, Some}
use Rattle.std.proofs.lemmas.Bool.Decides.{nat_tests}
use Rattle.lola_value.specs.declared.front.Refusal.{Refusal}
use Rattle.lola_value.specs.declared.front.Code.TheVariants.{TooLong}
use Rattle.lola_lexer.specs.Tokens.{Cut, tokens_of}
use Rattle.lola_lexer.specs.declared.token.Token.{Token}
use Rattle.lola_port.specs.Asks.{given_ask}
use Rattle.lola_port.specs.States.{ShelfState}
use Rattle.lola_model.specs.declared.plan.Plan.{Plan}
use Rattle.lola_front.specs.Front.{IsCut, IsPlanOf, IsRefusalOf}
use Rattle.lola_monitor.specs.Outcomes.{IsReadFront, PlansName, PlansText, noted}
use Rattle.lola_monitor.specs.declared.call_end.Unplanned.{Unplanned}
use Rattle.lola_monitor.specs.declared.call_end.Unplanned.TheVariants as unplanned

abbrev too_long : Refusal
too_long = record { code = TooLong; at = 1048576 }

refused_if : (b : Bool) (c : Cut) → b ≡ true → (if b then Err too_long else c) ≡ Err too_long
refused_if true c is = refl
refused_if false c is = absurd (cc)

-- what is long is refused, whatever it says
long : (bytes : List ℕ) → 1048576 < length bytes → tokens_of bytes ≡ Err too_long
unfolding tokens_of
long bytes more = let b : nat_lt 1048576 (length bytes) ≡ true = grind (arith, nat_tests) in refused_if (nat_lt 1048576 (length bytes)) _ b

-- so what is cut into tokens is not long
not_long : (bytes : List ℕ) (tokens : List Token) → IsCut bytes tokens → 1048576 < length bytes → ⊥
not_long bytes tokens cut more = let refused = long bytes more in let given = cut.are in absurd (cc)

longer : (bytes all rest : List ℕ) → 1048576 < length bytes → all ≡ bytes ++ rest → 1048576 < length all
longer bytes all rest more is = omega (arith, more, length-append bytes rest, ap length is)

pub plan_of_all : (bytes all : List ℕ) (plan : Plan) → IsReadFront 1048576 bytes all → IsPlanOf bytes plan → IsPlanOf all plan
plan_of_all bytes all plan (inl same) is = subst (λ (b : List ℕ). IsPlanOf b plan) same is
plan_of_all bytes all plan (inr cut) is = absurd (not_long bytes _ is.full.resolved.read.cut cut.0)

-- where there is a plan, all bytes were read
pub all_read : (bytes all : List ℕ) (plan : Plan) → IsReadFront 1048576 bytes all → IsPlanOf bytes plan → bytes ≡ all
all_read bytes all plan (inl same) is = same
all_read bytes all plan (inr cut) is = absurd (not_long bytes _ is.full.resolved.read.cut cut.0)

refusal_of_long : (bytes all rest : List ℕ) (r : Refusal) → 1048576 < length bytes → all ≡ bytes ++ rest → IsRefusalOf bytes r → IsRefusalOf all r
refusal_of_long bytes all rest r more is (inl token) = inl (long all (longer bytes all rest more is) ∙ sym (long bytes more) ∙ token)
refusal_of_long bytes all rest r more is (inr (inl syntax)) = absurd (not_long bytes _ syntax.cut more)
refusal_of_long bytes all rest r more is (inr (inr (inl names))) = absurd (not_long bytes _ names.read.cut more)
refusal_of_long bytes all rest r more is (inr (inr (inr (inl kinds)))) = absurd (not_long bytes _ kinds.resolved.read.cut more)
refusal_of_long bytes all rest r more is (inr (inr (inr (inr (inl pacings))))) = absurd (not_long bytes _ pacings.is_full.resolved.read.cut more)
refusal_of_long bytes all rest r more is (inr (inr (inr (inr (inr cycle))))) = absurd (not_long bytes _ cycle.is_full.resolved.read.cut more)

pub refusal_of_all : (bytes all : List ℕ) (r : Refusal) → IsReadFront 1048576 bytes all → IsRefusalOf bytes r → IsRefusalOf all r
refusal_of_all bytes all r (inl same) is = subst (λ (b : List ℕ). IsRefusalOf b r) same is
refusal_of_all bytes all r (inr cut) is = refusal_of_long bytes all cut.1 r cut.0 cut.2 is

-- what was read was compiled
pub planned : (bytes name : List ℕ) (before after : ShelfState) (result : Result Plan Unplanned) → ((all : List ℕ) → before.told name ≡ Some all → IsReadFront 1048576 bytes all)
    → after ≡ noted before name → PlansText result bytes → PlansName result name before after
planned bytes name before after (Ok plan) front read is = record { is_plan = λ all told. plan_of_all bytes all plan (front all told) is.0; accepted = is.0.accepted; one_model = is.1; shelf = read }
planned bytes name before after (Err unplanned.Unreadable) front read is = absurd is
planned bytes name before after (Err (unplanned.Refused r)) front read is = record { refused = λ all told. refusal_of_all bytes all r (front all told) is; shelf = read }
planned bytes name before after (Err unplanned.Memory) front read is = record { asks = inr (given_ask name, refl, ap (λ s. s.asks) read); out = ap (λ s. s.out) read }
