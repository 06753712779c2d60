-- The new page of such an edit, and which contents may be sent.
use Rattle.std.specs.Prelude.{◌≡◌, ℕ, ◌+◌, Bool, false, None, Some, List, [], ◌++◌, length}
use Rattle.wt_span.specs.Origins.{Expanded}
use Rattle.wt_tree.specs.Kinds.{is_leaf}
use Rattle.wt_tree.specs.Source.{flat}
use Rattle.wt_tree.specs.Tree.{Tree}
use Rattle.wt_content.specs.Content.{bad_content}
use Rattle.wt_link_spelling.specs.Spelling.{inline_spelling}
use Rattle.wt_selser.specs.Edits.{is_tangled}
use Rattle.wt_typed_blocks.specs.Edited.{Edited, stays, edited, round, Edits, no_edits, more_edits, page_node, sent_node, page_pieces, page_nodes}
use Rattle.wt_typed_blocks.specs.Typed.{place_of, block_source}

-- ---- the new page

-- What is in the new page for a node: its source, or the content that was sent, as it is spelled, between the block's delimiters, or what is
-- there for its children, between its own. `same` says whether two nodes have one kind and one plain view.
abbrev mutual
  pub edited_source : (Tree → Tree → Bool) → Edited → List ℕ
  edited_source same (stays t u) = flat t
  edited_source same (edited k l m ps) =
      l.opening ++ inline_spelling same (page_node (edited k l m ps)) (sent_node (edited k l m ps)) (place_of k) ++ l.closing
  edited_source same (round l m es) = l.opening ++ edited_sources same es ++ l.closing

  pub edited_sources : (Tree → Tree → Bool) → Edits → List ℕ
  edited_sources same no_edits = []
  edited_sources same (more_edits e es) = edited_source same e ++ edited_sources same es

-- ---- which contents may be sent

-- nothing is wrong in it, as `bad_content` tells
abbrev mutual
  pub IsTaken : (Tree → Tree → Bool) → Edited → Type 0
  IsTaken same (stays t u) = Unit {0}
  IsTaken same (edited k l m ps) = bad_content same (page_node (edited k l m ps)) (sent_node (edited k l m ps)) ≡ None
  IsTaken same (round l m es) = AreTaken same es

  pub AreTaken : (Tree → Tree → Bool) → Edits → Type 0
  AreTaken same no_edits = Unit {0}
  AreTaken same (more_edits e es) = IsTaken same e × AreTaken same es

-- its source in the page
abbrev pub page_source : Edited → List ℕ
page_source (stays t u) = flat t
page_source (edited k l m ps) = block_source l (page_pieces ps)
page_source (round l m es) = block_source l (page_nodes es)

-- Each block whose content was edited says where it is in the page, where the nodes lie one after the other from this place on. What holds
-- others is no leaf.
abbrev mutual
  pub LiesAt : ℕ → Edited → Type 0
  LiesAt at (stays t u) = Unit {0}
  LiesAt at (edited k l m ps) =
      l.ranges ≡ Some (record { start = at; end = at + length (block_source l (page_pieces ps)); open_w = length l.opening; close_w = length l.closing })
  LiesAt at (round l m es) = (is_leaf l.kind ≡ false) × LieAt (at + length l.opening) es

  pub LieAt : ℕ → Edits → Type 0
  LieAt at no_edits = Unit {0}
  LieAt at (more_edits e es) = LiesAt at e × LieAt (at + length (page_source e)) es

-- none of these blocks is tangled
abbrev mutual
  pub IsApart : Expanded → List ℕ → Edited → Type 0
  IsApart items page (stays t u) = Unit {0}
  IsApart items page (edited k l m ps) = is_tangled items page (page_node (edited k l m ps)) ≡ false
  IsApart items page (round l m es) = AreApart items page es

  pub AreApart : Expanded → List ℕ → Edits → Type 0
  AreApart items page no_edits = Unit {0}
  AreApart items page (more_edits e es) = IsApart items page e × AreApart items page es
