-- The first of several ends that says something.
use Rattle.std.proofs.Common.{◌≡◌, ℕ, zero, suc, ◌+◌, List, [], ◌∷◌, Option, None, Some, Bool, true, false, if◌then◌else◌, map, slice_get, drop, refl, ap, ◌∙◌, arith}
use Rattle.std.specs.Option.{option_map}
use Rattle.lola_feed.specs.Feeding.{Working}
use Rattle.lola_rows.specs.Rows.{SourceEnd, Whole, MalformedAt}
use Rattle.lola_monitor.specs.Monitor.{MalformedSource, first_malformed, one_further}
use Rattle.lola_monitor.specs.Outcomes.{ends_of, first_failed, is_failed_read, malformed_at, malformed_by, source_end}
use Rattle.lola_monitor.specs.declared.ending.SourcesEnd.{SourcesEnd}
use Rattle.lola_monitor.specs.declared.ending.SourcesEnd.TheVariants as sources_end

-- a place that is so much further
abbrev pub shifted : ℕ → Option ℕ → Option ℕ
shifted n o = option_map (λ k. k + n) o

abbrev pub further : ℕ → MalformedSource → MalformedSource
further n m = record m { source = m.source + n }

pub shifted_none : (o : Option ℕ) → shifted 0 o ≡ o
shifted_none None = refl
shifted_none (Some k) = ap Some (omega arith)

shifted_more : (n : ℕ) (o : Option ℕ) → shifted n (option_map (λ k. k + 1) o) ≡ shifted (n + 1) o
shifted_more n None = refl
shifted_more n (Some k) = ap Some (omega arith)

-- the list from a place on begins with what stands there
from_suc : (ws : List Working) (at : ℕ) (w : Working) → slice_get ws at ≡ Some w → drop at ws ≡ w ∷ drop (suc at) ws
from_suc [] at w is = absurd (cc)
from_suc (v ∷ ws) zero w is = let same : v ≡ w = cc in ap (λ (x : Working). x ∷ ws) same
from_suc (v ∷ ws) (suc at) w is = from_suc ws at w is

pub from_place : (ws : List Working) (at : ℕ) (w : Working) → slice_get ws at ≡ Some w → drop at ws ≡ w ∷ drop (at + 1) ws
from_place ws at w is = let next : suc at ≡ at + 1 = omega arith in from_suc ws at w is ∙ ap (λ (n : ℕ). w ∷ drop n ws) next

-- what is found so far, and from here on
pub failed_more : (all : Option ℕ) (ws : List Working) (at : ℕ) (w : Working) → slice_get ws at ≡ Some w → is_failed_read w.end ≡ false → all ≡ shifted at (first_failed (ends_of (drop at ws))) → all ≡ shifted (at + 1) (first_failed (ends_of (drop (at + 1) ws)))
failed_more all ws at w there is so =
    so ∙ ap (λ (l : List Working). shifted at (first_failed (ends_of l))) (from_place ws at w there)
    ∙ ap (λ (b : Bool). shifted at (if b then Some 0 else option_map (λ n. n + 1) (first_failed (ends_of (drop (at + 1) ws))))) is
    ∙ shifted_more at (first_failed (ends_of (drop (at + 1) ws)))

pub failed_here : (all : Option ℕ) (ws : List Working) (at : ℕ) (w : Working) → slice_get ws at ≡ Some w → is_failed_read w.end ≡ true → all ≡ shifted at (first_failed (ends_of (drop at ws))) → all ≡ Some at
failed_here all ws at w there is so =
    so ∙ ap (λ (l : List Working). shifted at (first_failed (ends_of l))) (from_place ws at w there)
    ∙ ap (λ (b : Bool). shifted at (if b then Some 0 else option_map (λ n. n + 1) (first_failed (ends_of (drop (at + 1) ws))))) is
    ∙ ap Some (omega arith)

-- the first malformed source of these, which have this many in front of them
abbrev pub malformed_from : ℕ → List Working → SourcesEnd
malformed_from at ws = malformed_by (option_map (further at) (first_malformed (map source_end (ends_of ws))))

pub malformed_none : (o : Option MalformedSource) → malformed_by o ≡ malformed_by (option_map (further 0) o)
malformed_none None = refl
malformed_none (Some m) = let same : m.source ≡ m.source + 0 = omega arith in ap (λ (n : ℕ). malformed_by (Some (record m { source = n }))) same

further_more : (at : ℕ) (o : Option MalformedSource) → malformed_by (option_map (further at) (option_map one_further o)) ≡ malformed_by (option_map (further (at + 1)) o)
further_more at None = refl
further_more at (Some m) = let same : m.source + 1 + at ≡ m.source + (at + 1) = omega arith in ap (λ (n : ℕ). malformed_by (Some (record m { source = n }))) same

malformed_step : (end : SourceEnd) (at : ℕ) (ends : List SourceEnd) → malformed_at at end ≡ None → malformed_by (option_map (further at) (first_malformed (end ∷ ends))) ≡ malformed_by (option_map (further (at + 1)) (first_malformed ends))
malformed_step Whole at ends none = further_more at (first_malformed ends)
malformed_step (MalformedAt kind row) at ends none = absurd (cc)

pub malformed_more : (all : SourcesEnd) (ws : List Working) (at : ℕ) (w : Working) → slice_get ws at ≡ Some w → malformed_at at (source_end w.end) ≡ None → all ≡ malformed_from at (drop at ws) → all ≡ malformed_from (at + 1) (drop (at + 1) ws)
malformed_more all ws at w there is so =
    so ∙ ap (malformed_from at) (from_place ws at w there) ∙ malformed_step (source_end w.end) at (map source_end (ends_of (drop (at + 1) ws))) is

some_same : (x y : SourcesEnd) → Some x ≡ Some y → x ≡ y
some_same x y is = cc

malformed_stop : (end : SourceEnd) (at : ℕ) (ends : List SourceEnd) (found : SourcesEnd) → malformed_at at end ≡ Some found → malformed_by (option_map (further at) (first_malformed (end ∷ ends))) ≡ found
malformed_stop Whole at ends found is = absurd (cc)
malformed_stop (MalformedAt kind row) at ends found is = let same : 0 + at ≡ at = omega arith in ap (λ (n : ℕ). sources_end.Malformed n row kind) same ∙ some_same (sources_end.Malformed at row kind) found is

pub malformed_here : (all found : SourcesEnd) (ws : List Working) (at : ℕ) (w : Working) → slice_get ws at ≡ Some w → malformed_at at (source_end w.end) ≡ Some found → all ≡ malformed_from at (drop at ws) → all ≡ found
malformed_here all found ws at w there is so =
    so ∙ ap (malformed_from at) (from_place ws at w there) ∙ malformed_stop (source_end w.end) at (map source_end (ends_of (drop (at + 1) ws))) found is
