-- Items and nodes of a page whose places lie between its characters.
use Rattle.std.specs.Prelude.{ℕ, List, Option}
use Rattle.std.specs.List.{AllByRecursion}
use Rattle.std.specs.Str.{IsCharBoundary}
use Rattle.wt_span.specs.Cuts.{page_of}
use Rattle.wt_span.specs.Origins.{Expanded}
use Rattle.wt_tree.specs.declared.kind.Ranges.{Ranges}
use Rattle.wt_tree.specs.Tree.{Trees}
use Rattle.wt_slices.specs.Borders.{HasBorders, IsSaidInAll, IsSaidOf}
use Rattle.wt_slices.specs.Changes.{Pair}

-- the page that items are: its own items, and each call once
abbrev pub page_text : Expanded → List ℕ
page_text e = page_of e.outer e.items

-- all places of a node, or of nodes, are places of the page between its characters
abbrev pub IsAtBorders : List ℕ → Option Ranges → Type 0
IsAtBorders page r = IsSaidOf (λ p. IsCharBoundary page p) r

abbrev pub AllHaveBorders : List ℕ → Trees → Type 0
AllHaveBorders page ts = IsSaidInAll (λ p. IsCharBoundary page p) ts

-- the page's nodes of these pairs
abbrev pub HaveOldBorders : List ℕ → List Pair → Type 0
HaveOldBorders page ps = AllByRecursion (λ p. HasBorders page p.old) ps
