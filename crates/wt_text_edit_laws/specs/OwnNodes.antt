-- The edit of a page of the class that types these texts, and sends every other node as it is in the page, without marks.
use Rattle.std.specs.Prelude.{ℕ, zero, suc, List, [], ◌∷◌, length, map, Option, Some, None}
use Rattle.std.specs.Str.{IsUtf8}
use Rattle.wt_tree.specs.Tree.{Label, Tree, tree, Trees, none, more}
use Rattle.wt_checks.specs.Kept.{children}
use Rattle.wt_checks.specs.WithoutMarks.{unmarked}
use Rattle.wt_expand.specs.PageItems.{page_items}
use Rattle.wt_typed_blocks.specs.Typed.{Takes}
use Rattle.wt_text_edit_laws.specs.ParagraphBetween.{blocks_in}
use Rattle.wt_text_edit_laws.specs.Parts.{part_tree}
use Rattle.wt_text_edit_laws.specs.TextBlocks.{TextBlock, block_of}
use Rattle.wt_text_edit_laws.specs.BlockSpots.{BlockSpot, spots_source}
use Rattle.wt_text_edit_laws.specs.BlockEdits.{Typing, types, keeps, SpotEdit, BlockEdit}

-- a paragraph or heading of the page, and the text that is typed in it, if any is
pub record TypedSpot : Type 0 where
  pub spot : BlockSpot
  pub text : Option (List ℕ)

abbrev pub spots_of : List TypedSpot → List BlockSpot
spots_of rs = map (λ r. r.spot) rs

-- any text, and in a heading one line
abbrev pub IsTypedSpot : TextBlock → Option (List ℕ) → Type 0
IsTypedSpot k (Some text) = IsUtf8 text × Takes (block_of k) text
IsTypedSpot k None = Unit {0}

abbrev pub AreTypedSpots : List TypedSpot → Type 0
AreTypedSpots [] = Unit {0}
AreTypedSpots (r ∷ rs) = IsTypedSpot r.spot.block r.text × AreTypedSpots rs

-- ---- nodes of the page

-- the first so many, without marks, and those behind them
abbrev pub first_nodes : ℕ → Trees → List Tree
first_nodes zero ts = []
first_nodes (suc n) none = []
first_nodes (suc n) (more t ts) = unmarked t ∷ first_nodes n ts

abbrev pub nodes_behind : ℕ → Trees → Trees
nodes_behind zero ts = ts
nodes_behind (suc n) none = none
nodes_behind (suc n) (more t ts) = nodes_behind n ts

abbrev pub past_one : Trees → Trees
past_one none = none
past_one (more t ts) = ts

-- how many blocks and separators this part makes
abbrev pub block_count : List ℕ → ℕ
block_count part = length (blocks_in (page_items part))

-- ---- the edit

-- what is sent for the first of these nodes, with this label where a text is typed
abbrev pub typing_by : Label → Option (List ℕ) → Trees → Typing
typing_by l (Some text) ts = types l l text
typing_by l None none = keeps (tree l none)
typing_by l None (more t ts) = keeps (unmarked t)

abbrev pub own_spots : Label → List TypedSpot → Trees → List SpotEdit
own_spots l [] ts = []
own_spots l (r ∷ rs) ts =
    let rest : Trees = nodes_behind (block_count r.spot.before) ts in
    record { spot = r.spot; others = first_nodes (block_count r.spot.before) ts; typing = typing_by l r.text rest } ∷ own_spots l rs (past_one rest)

-- the nodes behind the last paragraph or heading
abbrev pub last_nodes : List TypedSpot → Trees → Trees
last_nodes [] ts = ts
last_nodes (r ∷ rs) ts = last_nodes rs (past_one (nodes_behind (block_count r.spot.before) ts))

abbrev pub own_edit : Label → List TypedSpot → List ℕ → BlockEdit
own_edit l rs behind =
    let ts : Trees = children (part_tree (spots_source (spots_of rs) behind)) in
    record { spots = own_spots l rs ts; behind = behind; others = first_nodes (block_count behind) (last_nodes rs ts) }
