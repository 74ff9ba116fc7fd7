-- Workers that are joined with seats, and seated workers that are taken apart, the last first.
use Rattle.std.proofs.Common.{◌≡◌, List, [], ◌∷◌, ◌++◌, length, reverse, refl, sym, ap, ◌∙◌, subst, arith, append_assoc}
use Rattle.std.specs.List.{AllZip}
use Rattle.lola_feed.specs.SharedIntakes.{SeatShown}
use Rattle.lola_feed.specs.Feeding.{Working}
use Rattle.lola_monitor_threads.specs.Seated.{IsNewPair, Seated, seated, all_seated}
use Rattle.lola_monitor_threads.proofs.Places.{last_first, zip_last, zip_long}

pub seated_more : (ws : List Working) (ps : List SeatShown) (w : Working) (p : SeatShown) → length ps ≡ length ws → all_seated (ws ++ w ∷ []) (ps ++ p ∷ []) ≡ all_seated ws ps ++ seated w p ∷ []
seated_more [] [] w p many = refl
seated_more [] (q ∷ ps) w p many = absurd (omega arith)
seated_more (v ∷ ws) [] w p many = absurd (omega arith)
seated_more (v ∷ ws) (q ∷ ps) w p many = ap (λ (l : List Seated). seated v q ∷ l) (seated_more ws ps w p (omega arith))

module _ (ws0 ws : List Working) (ps0 ps : List SeatShown) (w : Working) (p : SeatShown) (pairs : AllZip IsNewPair ws0 ps0) (was : ws0 ≡ ws ++ w ∷ []) (sat : ps0 ≡ ps ++ p ∷ []) where
  pub last_pair : AllZip IsNewPair ws ps × IsNewPair w p
  last_pair = zip_last IsNewPair ws ps w p (subst (AllZip IsNewPair (ws ++ w ∷ [])) sat (subst (λ (l : List Working). AllZip IsNewPair l ps0) was pairs))

  -- the last pair is joined, and stands in front of those that were
  pub joined_last : (waiting more all : List Seated) (x : Seated) → more ≡ waiting ++ x ∷ [] → x ≡ seated w p → all_seated ws0 ps0 ++ reverse waiting ≡ all → all_seated ws ps ++ reverse more ≡ all
  joined_last waiting more all x longer is are =
      ap (λ (l : List Seated). all_seated ws ps ++ reverse l) longer
      ∙ (ap (λ (l : List Seated). all_seated ws ps ++ l) (last_first waiting x)
      ∙ (ap (λ (y : Seated). all_seated ws ps ++ y ∷ reverse waiting) is
      ∙ (sym (append_assoc (all_seated ws ps) (seated w p ∷ []) (reverse waiting))
      ∙ (ap (λ (l : List Seated). l ++ reverse waiting) (sym (ap (λ (l : List Working). all_seated l ps0) was ∙ (ap (all_seated (ws ++ w ∷ [])) sat ∙ seated_more ws ps w p (zip_long IsNewPair ws ps last_pair.0)))) ∙ are))))

-- the last seated worker is taken apart
pub parted_last : (ws ws1 : List Working) (ps ps1 : List SeatShown) (w : Working) (p : SeatShown) (back0 back : List Seated) (x : Seated) (all : List Seated) → ws1 ≡ ws ++ w ∷ [] → ps1 ≡ ps ++ p ∷ []
    → length ps ≡ length ws → back0 ≡ back ++ x ∷ [] → seated w p ≡ x → all_seated ws ps ++ reverse back0 ≡ all → all_seated ws1 ps1 ++ reverse back ≡ all
parted_last ws ws1 ps ps1 w p back0 back x all longer sat many was is are =
    ap (λ (l : List Working). all_seated l ps1 ++ reverse back) longer
    ∙ (ap (λ (l : List SeatShown). all_seated (ws ++ w ∷ []) l ++ reverse back) sat
    ∙ (ap (λ (l : List Seated). l ++ reverse back) (seated_more ws ps w p many)
    ∙ (append_assoc (all_seated ws ps) (seated w p ∷ []) (reverse back)
    ∙ (ap (λ (y : Seated). all_seated ws ps ++ y ∷ reverse back) is
    ∙ (ap (λ (l : List Seated). all_seated ws ps ++ l) (sym (ap reverse was ∙ last_first back x)) ∙ are)))))
