-- Any number of paragraphs and headings of a page where they are in it, by the page's items: in the body, in cells and in captions.
use Rattle.std.specs.Prelude.{◌≡◌, ℕ, zero, suc, false, Bool, List, [], ◌∷◌, length}
use Rattle.std.specs.Str.{IsUtf8}
use Rattle.wt_span.specs.Items.{Item}
use Rattle.wt_span.specs.Origins.{Expanded}
use Rattle.wt_tree.specs.Tree.{Tree, tree, Trees, none, more}
use Rattle.wt_checks.specs.Kept.{children as nodes_in}
use Rattle.wt_expand.specs.PageItems.{page_items}
use Rattle.wt_isolation.specs.OpenTags.{any_ends_open}
use Rattle.wt_part_laws.specs.Standing.{standing}
use Rattle.wt_selser.specs.Edits.{is_tangled}
use Rattle.wt_text_edit_laws.specs.BlockSpots.{BlockSpot, spots_source}
use Rattle.wt_text_edit_laws.specs.NoCalls.{CallsNothing}
use Rattle.wt_text_edit_laws.specs.PageCuts.{IsSpotCut, BeginsBreak, EndsThere, EndClosed}
use Rattle.wt_text_edit_laws.specs.Parts.{HasNoGroups}
use Rattle.wt_text_edit_laws.specs.SignParts.{IsLedTo}
use Rattle.wt_text_edit_laws.specs.TextBlocks.{TextBlock, block_tree}
use Rattle.wt_called_edit_laws.specs.AnyBlocks.{open_behind_part, LeadsInto, past_break, BeginsAfter, EndsAfter}
use Rattle.wt_called_edit_laws.specs.StaysIn.{StaysIn}

-- behind such a block, where these tables are open
abbrev pub AreFurtherIn : TextBlock → List Bool → List BlockSpot → List ℕ → List Item → Type 0
AreFurtherIn last bs [] behind zs = EndsThere behind × EndsAfter last (length bs) zs
AreFurtherIn last bs (s ∷ ss) behind zs =
    (c : IsSpotCut s zs) × IsLedTo s.before s.block s.text × BeginsBreak s.before × BeginsAfter last s.block bs c.before × LeadsInto s.block bs (past_break c.before)
    × StaysIn s.block bs (past_break c.before) c.own
    × AreFurtherIn s.block (open_behind_part bs (past_break c.before)) ss behind c.rest

-- The page's items are cut at each of them (`AreCuts`): it is in no place of a table but a cell or a caption, and no other text is beside a paragraph.
abbrev pub AreBlocksIn : List BlockSpot → List ℕ → Type 0
AreBlocksIn [] behind = ⊥
AreBlocksIn (s ∷ ss) behind =
    (c : IsSpotCut s (page_items (spots_source (s ∷ ss) behind))) × IsLedTo s.before s.block s.text × LeadsInto s.block [] c.before × StaysIn s.block [] c.before c.own
    × AreFurtherIn s.block (open_behind_part [] c.before) ss behind c.rest

-- ---- which blocks are read by themselves

-- no tag is open at the end of a node in it
abbrev pub IsShut : TextBlock → List ℕ → Type 0
IsShut k q = any_ends_open (nodes_in (standing 0 [] (block_tree k q))) ≡ false

-- at this path is a node that isn't tangled in this page
abbrev mutual
  pub UntangledTo : Expanded → List ℕ → List ℕ → Tree → Type 0
  UntangledTo items page [] t = is_tangled items page t ≡ false
  UntangledTo items page (i ∷ is) (tree l ts) = UntangledAmong items page i is ts

  pub UntangledAmong : Expanded → List ℕ → ℕ → List ℕ → Trees → Type 0
  UntangledAmong items page i is none = ⊥
  UntangledAmong items page zero is (more t ts) = UntangledTo items page is t
  UntangledAmong items page (suc i) is (more t ts) = UntangledAmong items page i is ts

-- so at each of these
abbrev pub AllUntangled : Expanded → List ℕ → List (List ℕ) → Tree → Type 0
AllUntangled items page [] t = Unit {0}
AllUntangled items page (p ∷ ps) t = UntangledTo items page p t × AllUntangled items page ps t

abbrev pub AreShut : List BlockSpot → Type 0
AreShut [] = Unit {0}
AreShut (s ∷ ss) = IsShut s.block s.text × AreShut ss

-- The page calls nothing, and no node of it can only be kept as a whole. Such blocks are at their places in it, no tag is open in one, and where one
-- ends the page, it holds no comment and no hidden part that nothing ends.
pub record IsPlacedPage (ss : List BlockSpot) (behind : List ℕ) : Type 0 where
  pub utf8 : IsUtf8 (spots_source ss behind)
  pub calls_nothing : CallsNothing (page_items (spots_source ss behind))
  pub ungrouped : HasNoGroups (spots_source ss behind)
  pub closed : EndClosed ss behind
  pub blocks : AreBlocksIn ss behind
  pub shut : AreShut ss
