-- How the code makes the new page, one change at a time.
use Rattle.std.proofs.Common.{◌≡◌, ◌<◌, ℕ, zero, suc, ◌+◌, ◌-◌, List, [], ◌∷◌, ◌++◌, length, drop, get_or, sym, ap, ◌∙◌, subst, arith, length-drop}
use Rattle.std.specs.Str.{IsCharBoundary}
use Rattle.std.proofs.lemmas.List.{drop_more, take_all}
use Rattle.wt_splice.specs.declared.splice.Change.{Change as Made}
use Rattle.wt_splice.specs.Splice.{between, spliced_from, AreAtBorders}
use Rattle.wt_splice.specs.Views.{changes_view}

-- up to the page's end
pub between_rest : (page : List ℕ) (from : ℕ) → between from (length page) page ≡ drop from page
between_rest page from = take_all (length page - from) (drop from page) (omega (arith, length-drop from page))

-- both ends of a change
pub at_borders : (page : List ℕ) (cs : List Made) (i : ℕ) (c : Made) → i < length cs → c ≡ get_or cs i c → AreAtBorders page (changes_view cs)
    → IsCharBoundary page c.start × IsCharBoundary page c.end
at_borders page [] i c lt is h = absurd (omega arith)
at_borders page (d ∷ cs) zero c lt is h =
    subst (λ (x : Made). IsCharBoundary page x.start × IsCharBoundary page x.end) (sym is) h.0
at_borders page (d ∷ cs) (suc i) c lt is h = at_borders page cs i c (omega arith) is h.1

-- the rest of the new page begins with the next change
pub spliced_turn : (page : List ℕ) (at : ℕ) (cs : List Made) (i : ℕ) (c : Made) → i < length cs → c ≡ get_or cs i c
    → spliced_from page at (changes_view (drop i cs)) ≡ between at c.start page ++ (c.by ++ spliced_from page c.end (changes_view (drop (i + 1) cs)))
spliced_turn page at cs i c lt is =
    ap (λ (xs : List Made). spliced_from page at (changes_view xs)) (drop_more cs i c lt ∙ ap (λ (x : Made). x ∷ drop (i + 1) cs) (sym is))
