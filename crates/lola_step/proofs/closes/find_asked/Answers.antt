use Rattle.std.proofs.Common.{◌≡◌, ◌<◌, refl, subst, Bool, true, false, nat_eq, arith, ℕ, sym, length}
use Rattle.std.proofs.lemmas.Bool.{eqb-true}
use Rattle.lola_model.specs.Store.{instances_seen}
use Rattle.lola_model.specs.declared.store.Whereabouts.{Whereabouts}
use Rattle.lola_model.specs.declared.store.Whereabouts.TheVariants.{At, Nowhere}
use Rattle.lola_step.specs.Sought.{IsFalseElsewhere}
use Rattle.lola_step.proofs.Alone.{found_none, may_ask_when}
use Rattle.lola_step.proofs.Closable.{up_to_stream}
use Rattle.lola_step.proofs.closes.find_asked.Goals as goal

pub seek-requires-clause-asks : goal.seek-requires-clause-asks
seek-requires-clause-asks g c =
    may_ask_when c.args.plan.now c.args.moment.now c.args.pacing.now (g.S.StreamStore.seen c.args.store.now) c.args.stream c.args.clause.now c.requires.global c.requires.may c.requires.asks

pub returns-in-Nowhere-clause-finds : goal.returns-in-Nowhere-clause-finds
returns-in-Nowhere-clause-finds g c =
    let s = g.S.StreamStore.seen c.args.store.now in
    let remembers = g.S.StreamStore.remembers c.args.store.now in
    let P : Whereabouts → Type 0 = λ w. IsFalseElsewhere c.args.plan.now remembers s c.args.stream c.args.clause.now w in
    found_none c.args.plan.now c.args.moment.now c.args.pacing.now remembers s c.args.clause.now c.args.stream Nowhere (λ i below. refl)
    (subst P c.in-Nowhere.is c.seek.ensures) c.args.closing.now.items

-- a place past all instances is that of none
other : (a b n : ℕ) → (a < n → ⊥) → b < n → nat_eq a b ≡ false
other a b n past below = by (nat_eq a b) refl
  where
    by : (t : Bool) → nat_eq a b ≡ t → nat_eq a b ≡ false
    by true q = absurd (past (subst (λ k. k < n) (sym (eqb-true a b q)) below))
    by false q = q

pub returns-else-index-instances-clause-finds : goal.returns-else-index-instances-clause-finds
returns-else-index-instances-clause-finds g c =
    let s = g.S.StreamStore.seen c.args.store.now in
    let n = c.args.stream in
    let remembers = g.S.StreamStore.remembers c.args.store.now in
    let P : Whereabouts → Type 0 = λ w. IsFalseElsewhere c.args.plan.now remembers s n c.args.clause.now w in
    found_none c.args.plan.now c.args.moment.now c.args.pacing.now remembers s c.args.clause.now n (At c.in-At.index)
    (λ i below. other c.in-At.index i (length (instances_seen s n)) (λ h. omega (arith, h, c.if-index-instances.false, c.instances.ensures)) below)
    (subst P c.in-At.is c.seek.ensures) c.args.closing.now.items

pub returns-in-Nowhere-clause-closable : goal.returns-in-Nowhere-clause-closable
returns-in-Nowhere-clause-closable g c = up_to_stream (g.S.StreamStore.seen c.args.store.now) c.args.stream 0 c.args.closing.now.items c.requires.closable

pub returns-else-index-instances-clause-closable : goal.returns-else-index-instances-clause-closable
returns-else-index-instances-clause-closable g c = up_to_stream (g.S.StreamStore.seen c.args.store.now) c.args.stream 0 c.args.closing.now.items c.requires.closable

pub find_one-requires-clause-alone : goal.find_one-requires-clause-alone
find_one-requires-clause-alone g c =
    let P : Whereabouts → Type 0 = λ w. IsFalseElsewhere c.args.plan.now (g.S.StreamStore.remembers c.args.store.now) (g.S.StreamStore.seen c.args.store.now) c.args.stream c.args.clause.now w in
    subst P c.in-At.is c.seek.ensures

pub find_one-requires-clause-lives : goal.find_one-requires-clause-lives
find_one-requires-clause-lives g c = omega (arith, c.if-index-instances.true, c.instances.ensures)

pub find_one-requires-clause-room : goal.find_one-requires-clause-room
find_one-requires-clause-room g c = omega (arith, c.if-index-instances.true, c.instances.ensures, c.requires.room)

pub returns-then-index-instances-clause-count : goal.returns-then-index-instances-clause-count
returns-then-index-instances-clause-count g c = omega (arith, c.if-index-instances.true, c.instances.ensures, c.find_one.ensures.count)
