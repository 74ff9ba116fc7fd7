-- The turns of a round, and rounds of a run.
use Rattle.std.proofs.Common.{◌≡◌, is_some, ℕ, suc, ◌<◌, ◌≤◌, ◌||◌, List, Option, None, Some, Ok, Err, Bool, true, false, length, refl, sym, ap, ◌∙◌, inl, inr, arith, subst}
use Rattle.std.proofs.lemmas.List.{length-map}
use Rattle.std.proofs.lemmas.Option.{slice_get_within}
use Rattle.std.specs.Prelude.{IsSome, slice_get}
use mathlib.Core.Logic.{dite}
use native.Mathlib.Decide.{ℕ_discrete}
use Rattle.lola_feed.specs.declared.worker.SourceEnd as worker
use Rattle.lola_monitor_run.specs.declared.stop.Stop.{Stop}
use Rattle.lola_monitor_run.specs.Feeds.{Feeding, HaveEnded, IsFresh, Supply, World, supplies_of, supply_of}
use Rattle.lola_monitor_run.specs.Turning.{GoesRound, InRound, Passed, SatOut, SoFar, Stepped, Steps, left_of}
use Rattle.lola_monitor_run.proofs.Lists.{from_mapped, some_is}
use Rattle.lola_monitor_run.proofs.Counting.{sat_no_more, took_less}
use Rattle.lola_monitor_run.proofs.Drawing.{as_many, other_is, own_is}
use Rattle.lola_monitor_run.proofs.Runs.{goes_on, next_begins, stops}

has_ended : (o : Option worker.SourceEnd) (how : worker.SourceEnd) → o ≡ Some how → IsSome o
has_ended o how is = ap is_some is

-- a source that sat out has ended, and so have those that had
sat_quiet : (k : ℕ) (olds news : List Supply) → SatOut k olds news → ((s : ℕ) (source : Supply) → s < k → slice_get olds s ≡ Some source → IsSome source.end)
    → (s : ℕ) (source : Supply) → s < suc k → slice_get news s ≡ Some source → IsSome source.end
sat_quiet k olds news (inl r) before s source less is = dite (ℕ_discrete s k)
    (λ same. has_ended source.end r.how (ap (λ (x : Supply). x.end) (some_is (sym is ∙ (ap (λ l. slice_get l s) r.same ∙ (ap (slice_get olds) same ∙ r.was)))) ∙ r.over))
    (λ apart. before s source (omega arith) (sym (ap (λ l. slice_get l s) r.same) ∙ is))
sat_quiet k olds news (inr f) before s source less is = dite (ℕ_discrete s k)
    (λ same. has_ended source.end f.0 (ap (λ (x : Supply). x.end) (own_is k olds news f.1.1.at s source same is) ∙ f.1.1.over))
    (λ apart. before s source (omega arith) (sym (other_is k olds news f.1.1.at s apart) ∙ is))

sat_many : (k : ℕ) (olds news : List Supply) → SatOut k olds news → length news ≡ length olds
sat_many k olds news (inl r) = ap length r.same
sat_many k olds news (inr f) = as_many k olds news f.1.1.at

or_true : (b : Bool) → b || true ≡ true
or_true true = refl
or_true false = refl

or_false : (b : Bool) → b || false ≡ b
or_false true = refl
or_false false = refl

-- before the first turn of a round
pub round_begins : (now : World) → InRound 0 false now now
round_begins now = record {
  so_far = λ first n so. so;
  many = refl;
  no_more = omega arith;
  fell = λ is. absurd (cc is);
  quiet = λ is s source less there. absurd (omega arith);
}

module _ (k : ℕ) (moved : Bool) (old now : World) (i : InRound k moved old now) (there : k < length now.sources) where
  within : (first : World) (n : ℕ) → SoFar first n k now → k < length first.sources
  within first n so = subst (λ m. k < m) so.drawn.fed.many there

  round_moves : (next : World) → Stepped k now next → InRound (suc k) true old next
  round_moves next step =
      let at = step.traced.took.at in
      let less = took_less k now.sources next.sources at step.traced.took.goes_on step.traced.took.less in
      let before = i.no_more in
      record {
        so_far = λ first n so. let s = i.so_far first n so in goes_on first n k now next (within first n s) s true step;
        many = as_many k now.sources next.sources at ∙ i.many;
        no_more = omega arith;
        fell = λ is. omega arith;
        quiet = λ is. absurd (cc is);
      }

  round_passes : (next : World) → Passed k now next → InRound (suc k) moved old next
  round_passes next p =
      let less = sat_no_more k now.sources next.sources p.out_of in
      let before = i.no_more in
      record {
        so_far = λ first n so. let s = i.so_far first n so in goes_on first n k now next (within first n s) s false p;
        many = sat_many k now.sources next.sources p.out_of ∙ i.many;
        no_more = omega arith;
        fell = λ is. let f = i.fell is in omega arith;
        quiet = λ is. sat_quiet k now.sources next.sources p.out_of (i.quiet is);
      }

  pub round_turns : (row : Bool) (next : World) → Steps (Ok row) k now next → InRound (suc k) (moved || row) old next
  round_turns true next step = subst (λ b. InRound (suc k) b old next) (sym (or_true moved)) (round_moves next step)
  round_turns false next step = subst (λ b. InRound (suc k) b old next) (sym (or_false moved)) (round_passes next step)

  pub round_stops : (how : Stop) (last : World) → Steps (Err how) k now last → GoesRound (Err how) old last
  round_stops how last step first n so = let s = i.so_far first n so in stops first n k now last (within first n s) s how step

-- a round is over
pub round_ends : (k : ℕ) (moved : Bool) (old last : World) → InRound k moved old last → k ≡ length last.sources → GoesRound (Ok moved) old last
round_ends k moved old last i all = by_moved moved i
  where
    over : (b : Bool) → InRound k b old last → (first : World) (n : ℕ) → SoFar first n 0 old → SoFar first (suc n) 0 last
    over b r first n so =
        let s = r.so_far first n so in
        next_begins first n last (subst (λ t. SoFar first n t last) (all ∙ s.drawn.fed.many) s)

    by_moved : (b : Bool) → InRound k b old last → GoesRound (Ok b) old last
    by_moved true r = (over true r, r.fell refl)
    by_moved false r = (over false r, λ s source is. r.quiet refl s source (let less = slice_get_within last.sources s source is in omega arith) is)

-- what a round does to a run, whether a row was taken or not
pub round_goes : (row : Bool) (old new : World) → GoesRound (Ok row) old new → (first : World) (n : ℕ) → SoFar first n 0 old → SoFar first (suc n) 0 new
round_goes true old new goes = goes.0
round_goes false old new goes = goes.0

pub round_less : (row : Bool) (old new : World) → row ≡ true → GoesRound (Ok row) old new → left_of new.sources < left_of old.sources
round_less true old new is goes = goes.1
round_less false old new is goes = absurd (cc is)

pub round_quiet : (row : Bool) (old new : World) → row ≡ false → GoesRound (Ok row) old new → HaveEnded new.sources
round_quiet true old new is goes = absurd (cc is)
round_quiet false old new is goes = goes.1

-- the whole of a round
pub round_over : (k count : ℕ) (moved : Bool) (old last : World) → InRound k moved old last → count ≡ length old.sources → k ≡ count → GoesRound (Ok moved) old last
round_over k count moved old last i all over = round_ends k moved old last i (over ∙ (all ∙ sym i.many))

-- a feed before its first turn, as sources
pub fresh_sources : (feed : Feeding) → IsFresh feed → (s : ℕ) (source : Supply) → slice_get (supplies_of feed) s ≡ Some source → (source.end ≡ None) × (source.number ≡ 0)
fresh_sources feed fresh s source is =
    let w = from_mapped supply_of feed.workers s source is in
    let f = fresh.none s w.0 w.1.0 in
    (ap (λ (x : Supply). x.end) w.1.1 ∙ f.0, ap (λ (x : Supply). x.number) w.1.1 ∙ f.1)

pub few_sources : (feed : Feeding) → length feed.workers ≤ 64 → length (supplies_of feed) ≤ 64
few_sources feed few = let e = length-map feed.workers supply_of in omega arith

-- as many sources as workers
pub sources_many : (feed : Feeding) → length (supplies_of feed) ≡ length feed.workers
sources_many feed = length-map feed.workers supply_of
