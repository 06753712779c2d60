-- Text edits of a page among paragraphs and headings that may hold calls: what is asked of them.
use Rattle.std.specs.Prelude.{◌≡◌, ◌≤◌, ◌⊎◌, ℕ, List, length, Option}
use Rattle.std.specs.List.{AllByRecursion}
use Rattle.wt_span.specs.declared.limits.TheConstants.{HTML_BYTES, PAGE_BYTES}
use Rattle.wt_tree.specs.Source.{flat}
use Rattle.wt_tree.specs.Tree.{Tree}
use Rattle.wt_annotated.specs.CutTexts.{cut_texts}
use Rattle.wt_expand.specs.PageCalls.{expanded_page}
use Rattle.wt_expand.specs.Work.{Pages}
use Rattle.wt_page_round_trip.specs.PageTree.{page_tree}
use Rattle.wt_part_laws.specs.Expanded.{part_items}
use Rattle.wt_part_laws.specs.HeldCalls.{block_in}
use Rattle.wt_schema.specs.Read.{page as as_page, read}
use Rattle.wt_slices.specs.Changes.{Pair, marked}
use Rattle.wt_visible.specs.SameNodes.{same_node}
use Rattle.wt_text_edit_laws.specs.Contents.{IsContent}
use Rattle.wt_text_edit_laws.specs.NoCalls.{CallsNothing}
use Rattle.wt_text_edit_laws.specs.TextBlocks.{TextBlock, source_of, block_items}
use Rattle.wt_called_edit_laws.specs.CalledContents.{tree_round}
use Rattle.wt_called_edit_laws.specs.CallingBlocks.{IsContentIn}
use Rattle.wt_called_edit_laws.specs.Groups.{called_tree}
use Rattle.wt_called_edit_laws.specs.PartTexts.{AreSourcesAt}
use Rattle.wt_called_edit_laws.specs.SettledAt.{IsSettledAt}
use Rattle.wt_called_edit_laws.specs.WholeContents.{IsWholeIn}
use Rattle.wt_called_edit_laws.specs.WrittenAnew.{HoldsAnywhere}
use Rattle.wt_inside_laws.specs.AsSent.{edits_of, paths_of, AreSomeOf, IsReadFor}
use Rattle.wt_inside_laws.specs.RetypedCalls.{IsBeside}
use Rattle.wt_inside_laws.specs.TextEdits.{IsTextEdit}
use Rattle.wt_inside_laws.specs.ToldEdits.{IsReadBlock, HasEndedNodes}

-- A node of the page is this paragraph or heading, with its groups, where so many calls come before it: that is its source there, and its calls are these of
-- the page. Wherever it is, it holds its calls, and can be read by itself.
pub record IsBlockOf (pages : Pages) (page : List ℕ) (k : TextBlock) (q : List ℕ) (t : Tree) : Type 0 where
  pub before : ℕ
  pub source : flat (cut_texts (block_in (expanded_page pages page).outer (tree_round k (part_items pages before q)))) ≡ source_of k q
  pub settled : IsSettledAt (cut_texts (block_in (expanded_page pages page).outer (tree_round k (part_items pages before q)))) t
  pub calls : AreSourcesAt (expanded_page pages page).outer before (expanded_page pages (source_of k q)).outer
  pub holds : HoldsAnywhere pages k q
  pub whole : IsWholeIn pages k q
  pub content : IsContentIn pages k q

-- a marked block calls nothing, and its nodes are as in any such block
pub record IsCalmBlock (k : TextBlock) (q : List ℕ) (p : Pair) : Type 0 where
  pub content : IsContent k q
  pub calls_nothing : CallsNothing (block_items k q)
  pub nodes : HasEndedNodes k q

-- a marked block is such a one, or texts may be typed beside its calls, whatever its source is
abbrev pub IsBesideBlock : Pages → List ℕ → Pair → Type 0
IsBesideBlock pages page p = (k : TextBlock) (q : List ℕ) → IsBlockOf pages page k q p.old → IsCalmBlock k q p ⊎ IsBeside pages k q p.old

-- A text edit, as it is read, of a page with these blocks at these paths, which isn't too long: each marked one is at one of them, and is such a block.
pub record IsBesideEdit (pages : Pages) (page : List ℕ) (paths : List (List ℕ)) (new : Tree) : Type 0 where
  pub short : length page ≤ PAGE_BYTES
  pub edit : IsTextEdit same_node (expanded_page pages page) page (page_tree pages page) new
  pub read : IsReadFor (page_tree pages page) new
  pub blocks : AllByRecursion IsReadBlock (marked (page_tree pages page) new)
  pub beside : AllByRecursion (IsBesideBlock pages page) (marked (page_tree pages page) new)
  pub among : AreSomeOf (paths_of (edits_of (called_tree pages page) new)) paths

-- HTML that is read as such an edit. Neither the page nor the HTML is longer than it may be.
pub record IsBesideHtml (pages : Pages) (page input : List ℕ) (paths : List (List ℕ)) (new : Tree) (unsourced : Option ℕ) : Type 0 where
  pub reads : read input ≡ as_page new unsourced
  pub edit : IsTextEdit same_node (expanded_page pages page) page (page_tree pages page) new
  pub beside : AllByRecursion (IsBesideBlock pages page) (marked (page_tree pages page) new)
  pub among : AreSomeOf (paths_of (edits_of (called_tree pages page) new)) paths
  pub short : length page ≤ PAGE_BYTES
  pub within : length input ≤ HTML_BYTES
