-- Slices that stand one after the other, each in one of the places.
use Rattle.std.proofs.Common.{◌≡◌, ◌≤◌, ◌<◌, ℕ, zero, suc, ◌+◌, List, [], ◌∷◌, length, drop, get_or, sym, subst, inl, inr, arith}
use Rattle.std.specs.List.{AllByRecursion}
use Rattle.std.specs.Str.{IsCharBoundary}
use Rattle.std.proofs.lemmas.List.{drop_all}
use Rattle.wt_splice.specs.declared.splice.Change.{Change as Made}
use Rattle.wt_splice.specs.Splice.{AreApart, AreAtBorders, Change}
use Rattle.wt_splice.specs.Views.{change_view, changes_view}
use Rattle.wt_places.specs.declared.slot.Slot.{Slot}
use Rattle.wt_places.specs.Rewritten.{LiesIn, LiesInOne}
use Rattle.wt_places.proofs.Passing.{from_place}

pub lies_at : (ss : List Slot) (i : ℕ) (d : Slot) (c : Change) → i < length ss → LiesIn (get_or ss i d) c → LiesInOne ss c
lies_at [] i d c lt h = absurd (let w : ⊥ = omega arith in w)
lies_at (s ∷ ss) zero d c lt h = inl h
lies_at (s ∷ ss) (suc i) d c lt h = inr (lies_at ss i d c (omega arith) h)

-- what is left to be tested, and what then holds of all
pub record HasTested (places : List Slot) (cs : List Made) (at i size : ℕ) : Type 0 where
  pub apart : AreApart at (changes_view (drop i cs)) size → AreApart 0 (changes_view cs) size
  pub within : AllByRecursion (LiesInOne places) (changes_view (drop i cs)) → AllByRecursion (LiesInOne places) (changes_view cs)

pub one_tested : (places : List Slot) (cs : List Made) (at i size : ℕ) (c : Made) → i < length cs → c ≡ get_or cs i c → at ≤ c.start
    → c.start ≤ c.end → LiesInOne places (change_view c) → HasTested places cs at i size → HasTested places cs c.end (i + 1) size
one_tested places cs at i size c lt is from whole lies inv =
    let here = from_place cs i c lt is in
    record {
      apart = λ h. inv.apart (subst (λ ds. AreApart at (changes_view ds) size) (sym here) (from, whole, h));
      within = λ h. inv.within (subst (λ ds. AllByRecursion (LiesInOne places) (changes_view ds)) (sym here) (lies, h));
    }

pub all_apart : (places : List Slot) (cs : List Made) (at i size : ℕ) → length cs ≤ i → at ≤ size → HasTested places cs at i size
    → AreApart 0 (changes_view cs) size
all_apart places cs at i size l le inv = inv.apart (subst (λ ds. AreApart at (changes_view ds) size) (sym (drop_all i cs l)) le)

pub all_within : (places : List Slot) (cs : List Made) (at i size : ℕ) → length cs ≤ i → HasTested places cs at i size
    → AllByRecursion (LiesInOne places) (changes_view cs)
all_within places cs at i size l inv = inv.within (subst (λ ds. AllByRecursion (LiesInOne places) (changes_view ds)) (sym (drop_all i cs l)) tt)

-- ---- between characters

pub one_at_borders : (page : List ℕ) (cs : List Made) (i : ℕ) (c : Made) → i < length cs → c ≡ get_or cs i c → IsCharBoundary page c.start
    → IsCharBoundary page c.end → (AreAtBorders page (changes_view (drop i cs)) → AreAtBorders page (changes_view cs))
    → AreAtBorders page (changes_view (drop (i + 1) cs)) → AreAtBorders page (changes_view cs)
one_at_borders page cs i c lt is start end inv h =
    inv (subst (λ ds. AreAtBorders page (changes_view ds)) (sym (from_place cs i c lt is)) ((start, end), h))

pub all_at_borders : (page : List ℕ) (cs : List Made) (i : ℕ) → length cs ≤ i
    → (AreAtBorders page (changes_view (drop i cs)) → AreAtBorders page (changes_view cs)) → AreAtBorders page (changes_view cs)
all_at_borders page cs i l inv = inv (subst (λ ds. AreAtBorders page (changes_view ds)) (sym (drop_all i cs l)) tt)
