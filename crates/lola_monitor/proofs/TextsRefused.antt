-- The texts that a run from a state, or a snapshot, asks for before its sources: one was not read, or is refused.
use Rattle.std.proofs.Common.{◌≡◌, ℕ, ◌+◌, List, [], ◌∷◌, ◌++◌, Option, None, Some, Bool, if◌then◌else◌, sym, ap, ◌∙◌, subst, append_assoc}
use Rattle.std.specs.Option.{option_map}
use Rattle.lola_port.specs.Asks.{given_ask}
use Rattle.lola_port.specs.States.{Rose, ShelfState}
use Rattle.lola_value.specs.declared.front.Refusal.{Refusal}
use Rattle.lola_model.specs.declared.journal.Entry.{Entry}
use Rattle.lola_model.specs.declared.plan.Plan.{Plan}
use Rattle.lola_save.specs.StateEnds.{IsRefusedState}
use Rattle.lola_save.specs.declared.end.StateEnd.{StateEnd}
use Rattle.lola_monitor.specs.Monitor.{Outside, Plans, asks_between, first_failed_ask}
use Rattle.lola_monitor.specs.Outcomes.{AreUntouched, Marred, ReadRefusal, noted}
use Rattle.lola_monitor.specs.Pasts.{IsFrontIn, IsSavedAs}
use Rattle.lola_monitor.specs.Refusals.{StoodRefused, StoodStateRefused, StoodUnread}
use Rattle.lola_monitor.specs.Replaying.{IsText}
use Rattle.lola_monitor.specs.Stating.{StateRefused}
use Rattle.lola_monitor.proofs.Calls.{asked_both, between}
use Rattle.lola_monitor.proofs.Working.{asks_noted, first_is_failed_ask}

-- ---- the specification

-- it was not read
pub first_unread : (name : List ℕ) (before after : Outside) → AreUntouched before after → Marred name before.shelf after.shelf → StoodUnread 0 before after
first_unread name before after early m = record { has_failed = first_is_failed_ask name before.shelf after.shelf m; rose = m.rose; early = early }

-- it has no plan
pub plan_refused : (r : Refusal) (name : List ℕ) (before after : Outside) → AreUntouched before after → ReadRefusal r name before.shelf after.shelf → StoodRefused r name before after
plan_refused r name before after early p = record { cause = p.refused; asks = asks_noted name before.shelf after.shelf p.shelf; count = ap (λ (s : ShelfState). s.count) p.shelf; early = early }

-- ---- the state

-- the second ask is the first faulty one
second_is_failed_ask : (one two : List ℕ) (before mid after : ShelfState) → mid ≡ noted before one → Marred two mid after → first_failed_ask (asks_between before after) ≡ Some 1
second_is_failed_ask one two before mid after read m =
    let asks : after.asks ≡ before.asks ++ given_ask one ∷ m.ask ∷ [] = m.asks ∙ (ap (λ (s : ShelfState). s.asks ++ m.ask ∷ []) read ∙ append_assoc before.asks (given_ask one ∷ []) (m.ask ∷ [])) in
    ap first_failed_ask (between before after (given_ask one ∷ m.ask ∷ []) asks)
    ∙ ap (λ (b : Bool). option_map (λ n. n + 1) (if b then Some 0 else option_map (λ n. n + 1) None)) m.has_failed

-- it was not read
pub second_unread : (specification state : List ℕ) (before : Outside) (one : ShelfState) (after : Outside) → one ≡ noted before.shelf specification → AreUntouched before after → Marred state one after.shelf → StoodUnread 1 before after
second_unread specification state before one after read_first early m = record {
  has_failed = second_is_failed_ask specification state before.shelf one after.shelf read_first m;
  rose = subst (λ n. Rose n after.shelf.count) (ap (λ (s : ShelfState). s.count) read_first) m.rose;
  early = early;
}

module _ (specification state text : List ℕ) (plan : Plan) (shelf one : ShelfState) (is_plan : Plans (shelf.told specification) plan) (is_text : IsText (shelf.told specification) text)
    (read_first : one ≡ noted shelf specification) where
  -- a state that was read, as it is told
  pub text_told : (bytes all : List ℕ) → IsText (one.told state) bytes → shelf.told state ≡ Some all → bytes ≡ all
  text_told bytes all is told = is all (ap (λ (s : ShelfState). s.told state) read_first ∙ told)

  -- a journal whose state is told is one whose state's text was read
  pub front_saved : (bytes : List ℕ) → IsText (one.told state) bytes → (start : Option ℕ) (front : List Entry) → IsFrontIn shelf specification state start front → IsSavedAs text plan bytes start front
  front_saved bytes is start front f =
      subst (λ (t : List ℕ). IsSavedAs t plan bytes start front) (sym (is_text f.text f.text_is))
      (subst (λ (b : List ℕ). IsSavedAs f.text plan b start front) (sym (text_told bytes f.bytes is f.bytes_are)) (f.saved plan (is_plan f.text f.text_is)))

-- it is refused
pub state_refused : (specification state text : List ℕ) (plan : Plan) (before : Outside) (one : ShelfState) → Plans (before.shelf.told specification) plan → IsText (before.shelf.told specification) text → one ≡ noted before.shelf specification
    → (end : StateEnd) (after : Outside) → AreUntouched before after → StateRefused end text plan state one after.shelf → StoodStateRefused end specification state before after
state_refused specification state text plan before one is_plan is_text read_first end after early r = record {
  plan = plan;
  is_plan = is_plan;
  cause = λ all bytes is_all is_bytes.
      subst (λ (t : List ℕ). IsRefusedState t plan bytes end) (is_text all is_all)
      (subst (λ (b : List ℕ). IsRefusedState text plan b end) (text_told specification state text plan before.shelf one is_plan is_text read_first r.bytes bytes r.is_text is_bytes) r.refused);
  none = λ start front f. r.none start front (front_saved specification state text plan before.shelf one is_plan is_text read_first r.bytes r.is_text start front f);
  asks = between before.shelf after.shelf (given_ask specification ∷ given_ask state ∷ []) (asked_both specification state before.shelf one after.shelf read_first r.shelf);
  count = ap (λ (s : ShelfState). s.count) r.shelf ∙ ap (λ (s : ShelfState). s.count) read_first;
  early = early;
}
