-- What a shelf was asked for in a call.
use Rattle.std.proofs.Common.{◌≡◌, ◌⊎◌, ℕ, subst, List, [], ◌∷◌, ◌++◌, map, length, take, drop, inl, inr, Err, refl, sym, ap, ◌∙◌, append_assoc}
use Rattle.std.proofs.lemmas.List.{append-nil}
use Rattle.std.proofs.Math.Seq.{take-append_seam, drop-append_seam}
use Rattle.lola_port.specs.Asks.{given_ask}
use Rattle.lola_port.specs.States.{ShelfState}
use Rattle.lola_port.specs.declared.traits.Ask.{Ask}
use Rattle.lola_model.specs.declared.plan.Plan.{Plan}
use Rattle.lola_replay.specs.declared.end.ReplayEnd.TheVariants.{Found, UnreadableTrace, UnreadableVerdicts}
use Rattle.lola_monitor.specs.Command.{ReplayNames, names_asked}
use Rattle.lola_monitor.specs.Monitor.{Asked, asks_between}
use Rattle.lola_monitor.specs.Outcomes.{Grew, Marred, PlansName, Stopped, noted}
use Rattle.lola_monitor.specs.ReplayOutcomes.{ReplaysTexts}
use Rattle.lola_monitor.specs.declared.call_end.CallEnd.{CallEnd}
use Rattle.lola_monitor.specs.declared.call_end.CallEnd.TheVariants.{Line, Drilled, Report, Replayed, Stated, CutFault, Put, Memory}
use Rattle.lola_monitor.specs.declared.call_end.Unplanned.{Unplanned}
use Rattle.lola_monitor.specs.declared.call_end.Unplanned.TheVariants as unplanned

pub between : (before after : ShelfState) (asks : List Ask) → after.asks ≡ before.asks ++ asks → asks_between before after ≡ asks
between before after asks is = ap (drop (length before.asks)) is ∙ drop-append_seam before.asks asks

pub asked : (names : List (List ℕ)) (before after : ShelfState) → Grew names before after → Asked names before after
asked names before after grew = record {
  kept = ap (take (length before.asks)) grew.appended ∙ take-append_seam before.asks grew.asks;
  front = (grew.front.0, grew.front.1 ∙ ap (λ (asks : List Ask). map (λ ask. ask.name) asks ++ grew.front.0) (sym (between before after grew.asks grew.appended)));
  home = grew.home;
}

pub grew_none : (names : List (List ℕ)) (before : ShelfState) → Grew names before before
grew_none names before = record { asks = []; appended = sym (append-nil before.asks); front = (names, refl); home = refl }

pub grew_one : (name : List ℕ) (names : List (List ℕ)) (before after : ShelfState) (ask : Ask) → ask.name ≡ name → after.asks ≡ before.asks ++ ask ∷ [] → after.out ≡ before.out → Grew (name ∷ names) before after
grew_one name names before after ask is appended home = record { asks = ask ∷ []; appended = appended; front = (names, ap (λ (n : List ℕ). n ∷ names) (sym is)); home = home }

pub grew_noted : (name : List ℕ) (names : List (List ℕ)) (before after : ShelfState) → after ≡ noted before name → Grew (name ∷ names) before after
grew_noted name names before after is = grew_one name names before after (given_ask name) refl (ap (λ s. s.asks) is) (ap (λ s. s.out) is)

pub grew_marred : (name : List ℕ) (names : List (List ℕ)) (before after : ShelfState) → Marred name before after → Grew (name ∷ names) before after
grew_marred name names before after m = grew_one name names before after m.ask m.name_is m.asks m.out

grew_stopped_by : (name : List ℕ) (names : List (List ℕ)) (before after : ShelfState) → (after.asks ≡ before.asks) ⊎ ((ask : Ask) × (ask.name ≡ name) × (after.asks ≡ before.asks ++ ask ∷ [])) → after.out ≡ before.out → Grew (name ∷ names) before after
grew_stopped_by name names before after (inl same) out = record { asks = []; appended = same ∙ sym (append-nil before.asks); front = (name ∷ names, refl); home = out }
grew_stopped_by name names before after (inr one) out = grew_one name names before after one.0 one.1 one.2 out

pub grew_stopped : (name : List ℕ) (names : List (List ℕ)) (before after : ShelfState) → Stopped name before after → Grew (name ∷ names) before after
grew_stopped name names before after s = grew_stopped_by name names before after s.asks s.out

-- the names of asks that were given
pub names_given : (names : List (List ℕ)) → map (λ ask. ask.name) (map given_ask names) ≡ names
names_given [] = refl
names_given (name ∷ names) = ap (λ (l : List (List ℕ)). name ∷ l) (names_given names)

-- all names were asked for
abbrev pub grew_all : (names : List (List ℕ)) (before after : ShelfState) (asks : List Ask) → after.asks ≡ before.asks ++ asks → map (λ ask. ask.name) asks ≡ names → after.out ≡ before.out → Grew names before after
grew_all names before after asks is named home = record { asks = asks; appended = is; front = ([], sym (append-nil (map (λ ask. ask.name) asks) ∙ named)); home = home }

pub grew_twice : (name : List ℕ) (names : List (List ℕ)) (before mid after : ShelfState) → mid ≡ noted before name → Grew names mid after → Grew (name ∷ names) before after
grew_twice name names before mid after is grew = record {
  asks = given_ask name ∷ grew.asks;
  appended = grew.appended ∙ ap (λ (s : ShelfState). s.asks ++ grew.asks) is ∙ append_assoc before.asks (given_ask name ∷ []) grew.asks;
  front = (grew.front.0, ap (λ (l : List (List ℕ)). name ∷ l) grew.front.1);
  home = grew.home ∙ ap (λ s. s.out) is;
}

-- two texts, one asked for behind the other
pub asked_both : (one two : List ℕ) (before mid after : ShelfState) → mid ≡ noted before one → after ≡ noted mid two → after.asks ≡ before.asks ++ given_ask one ∷ given_ask two ∷ []
asked_both one two before mid after read later =
    ap (λ (s : ShelfState). s.asks) later ∙ (ap (λ (s : ShelfState). s.asks ++ given_ask two ∷ []) read ∙ append_assoc before.asks (given_ask one ∷ []) (given_ask two ∷ []))

-- a trace and verdicts
pub grew_texts : (outcome : CallEnd) (plan : Plan) (names : ReplayNames) (before after : ShelfState) → ReplaysTexts outcome plan names before after → Grew (names.trace ∷ names.verdicts ∷ []) before after
grew_texts (Line line) plan names before after ran = absurd ran
grew_texts (Drilled line) plan names before after ran = absurd ran
grew_texts (Report text) plan names before after ran = absurd ran
grew_texts (Replayed (Found finding)) plan names before after ran =
    grew_twice names.trace (names.verdicts ∷ []) before (noted before names.trace) after refl (grew_noted names.verdicts [] (noted before names.trace) after ran.shelf)
grew_texts (Replayed UnreadableTrace) plan names before after ran = grew_marred names.trace (names.verdicts ∷ []) before after ran
grew_texts (Replayed UnreadableVerdicts) plan names before after ran =
    grew_twice names.trace (names.verdicts ∷ []) before (noted before names.trace) after refl (grew_marred names.verdicts [] (noted before names.trace) after ran)
grew_texts (Stated end) plan names before after ran = absurd ran
grew_texts CutFault plan names before after ran = absurd ran
grew_texts Put plan names before after ran = absurd ran
grew_texts Memory plan names before after ran = ran

-- a specification that has no plan
pub grew_unplanned : (end : Unplanned) (name : List ℕ) (names : List (List ℕ)) (before after : ShelfState) → PlansName (Err end) name before after → Grew (name ∷ names) before after
grew_unplanned unplanned.Unreadable name names before after planned = grew_marred name names before after planned
grew_unplanned (unplanned.Refused r) name names before after planned = grew_noted name names before after planned.shelf
grew_unplanned unplanned.Memory name names before after planned = grew_stopped name names before after planned

-- a command's asks
pub asked_for : (words names : List (List ℕ)) (before after : ShelfState) → names_asked words ≡ names → Grew names before after → Asked (names_asked words) before after
asked_for words names before after is grew = subst (λ all. Asked all before after) (sym is) (asked names before after grew)
