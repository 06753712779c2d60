-- Text edits of a page, whatever it calls, among paragraphs and headings that are told by its lines: what is asked of them.
use Rattle.std.specs.Prelude.{◌≡◌, ◌≤◌, ℕ, Option, None, List, length}
use Rattle.std.specs.List.{AllByRecursion}
use Rattle.std.specs.Str.{IsUtf8}
use Rattle.wt_span.specs.declared.limits.TheConstants.{PAGE_BYTES}
use Rattle.wt_tree.specs.Tiling.{HasNoGroup}
use Rattle.wt_tree.specs.Tree.{Tree}
use Rattle.wt_link_spelling.specs.Spelling.{children_of}
use Rattle.wt_expand.specs.PageCalls.{expanded_page}
use Rattle.wt_expand.specs.Work.{Pages}
use Rattle.wt_page_round_trip.specs.PageTree.{page_tree}
use Rattle.wt_schema.specs.Read.{page as as_page, read}
use Rattle.wt_slices.specs.Changes.{Pair, marked}
use Rattle.wt_visible.specs.SameNodes.{same_node}
use Rattle.wt_commands.specs.Answers.{refusal_of_page, remarked_of}
use Rattle.wt_text_edit_laws.specs.TextBlocks.{TextBlock, block_tree}
use Rattle.wt_beside_laws.specs.EndedNodes.{AreEndedNodes}
use Rattle.wt_beside_laws.specs.FlatBlocks.{signs_in}
use Rattle.wt_beside_laws.specs.OpenTags.{EndTags}
use Rattle.wt_called_edit_laws.specs.AllTold.{IsExcepted}
use Rattle.wt_called_edit_laws.specs.EditsAt.{IsStanding}
use Rattle.wt_called_edit_laws.specs.Groups.{called_tree}
use Rattle.wt_inside_laws.specs.AsSent.{edits_of, paths_of, AreSomeOf, IsReadFor}
use Rattle.wt_inside_laws.specs.RetypedPieces.{AreRead, AreUtf8}
use Rattle.wt_inside_laws.specs.TextEdits.{IsTextEdit}

-- ---- a marked block

-- what is sent for it, as it is read
pub record IsReadBlock (p : Pair) : Type 0 where
  pub read : AreRead (children_of p.new)
  pub utf8 : AreUtf8 (children_of p.new)

-- Of its nodes: what begins in a node ends in it; and behind a tag that opens a pair and isn't closed on its line so does a tag that a comment, an
-- include tag or a hidden part hides.
pub record HasEndedNodes (k : TextBlock) (q : List ℕ) : Type 0 where
  pub ended : AreEndedNodes (signs_in k q)
  pub tags : EndTags (signs_in k q)

-- whatever its source is
abbrev pub IsOrdinary : Pair → Type 0
IsOrdinary p = (k : TextBlock) (q : List ℕ) → IsStanding (block_tree k q) p.old → HasEndedNodes k q

-- So on this page: it holds no group, and the lines of the expanded page tell it.
pub record IsOrdinaryOn (pages : Pages) (page : List ℕ) (p : Pair) : Type 0 where
  pub ungrouped : HasNoGroup p.old
  pub ordinary : IsOrdinary p
  pub told : IsExcepted pages page p.old → ⊥

-- ---- the edit

-- A text edit, as it is read, of a page with these blocks at these paths, which isn't too long: each marked one is at one of them, and ordinary.
pub record IsToldEdit (pages : Pages) (page : List ℕ) (paths : List (List ℕ)) (new : Tree) : Type 0 where
  pub short : length page ≤ PAGE_BYTES
  pub edit : IsTextEdit same_node (expanded_page pages page) page (page_tree pages page) new
  pub read : IsReadFor (page_tree pages page) new
  pub blocks : AllByRecursion IsReadBlock (marked (page_tree pages page) new)
  pub ordinary : AllByRecursion IsOrdinary (marked (page_tree pages page) new)
  pub among : AreSomeOf (paths_of (edits_of (called_tree pages page) new)) paths

-- A text edit, as it is read of HTML, of a page that isn't refused: each block that it marks is ordinary.
pub record IsOrdinaryEdit (pages : Pages) (page input : List ℕ) (new : Tree) (unsourced : Option ℕ) : Type 0 where
  pub utf8 : IsUtf8 page
  pub short : length page ≤ PAGE_BYTES
  pub unrefused : refusal_of_page pages page ≡ None
  pub sent : read input ≡ as_page new unsourced
  pub edit : IsTextEdit same_node (expanded_page pages page) page (page_tree pages page) new
  pub blocks : AllByRecursion (IsOrdinaryOn pages page) (marked (page_tree pages page) new)

-- HTML without marks: with the marks of its difference from the page (`remarked_of`) it is such an edit.
pub record IsOrdinaryDifference (pages : Pages) (page input : List ℕ) (new : Tree) (unsourced : Option ℕ) : Type 0 where
  pub utf8 : IsUtf8 page
  pub short : length page ≤ PAGE_BYTES
  pub unrefused : refusal_of_page pages page ≡ None
  pub sent : read input ≡ as_page new unsourced
  pub edit : IsTextEdit same_node (expanded_page pages page) page (page_tree pages page) (remarked_of pages page new)
  pub blocks : AllByRecursion (IsOrdinaryOn pages page) (marked (page_tree pages page) (remarked_of pages page new))
