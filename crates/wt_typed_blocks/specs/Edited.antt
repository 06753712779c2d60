-- What an editor sends for the nodes of a page: each as it is, or a paragraph or heading with another content, wherever it is.
use Rattle.std.specs.Prelude.{◌≡◌, ◌≢◌, ◌⊎◌, ℕ, false, None, List, [], ◌∷◌}
use Rattle.wt_tree.specs.declared.kind.Kind.{Kind}
use Rattle.wt_tree.specs.declared.kind.Kind.TheVariants as kind
use Rattle.wt_tree.specs.declared.kind.Mark.TheVariants as marks
use Rattle.wt_tree.specs.Kinds.{showing}
use Rattle.wt_tree.specs.Plain.{Plains, ended, along, element, face, text_before, shown_before, plain_before}
use Rattle.wt_tree.specs.Tiling.{is_group}
use Rattle.wt_tree.specs.Tree.{Label, Tree, tree, Trees, none, more}
use Rattle.wt_recut.specs.Recutting.{appended}
use Rattle.wt_typed_blocks.specs.Sent.{IsSentAsIs, StandsAsIs, Block, kind_of}

-- ---- a content

-- Before what follows: a node or text of the page that isn't sent, a text that is sent, a node that stays, in the page and as it is sent, a bold or
-- italic node of the page with the first label, which is sent with the second one, and with these pieces in it, or a new one with these in it.
pub data Pieces : Type 0 where
  no_pieces : Pieces
  gone : Tree → Pieces → Pieces
  written : Label → List ℕ → Pieces → Pieces
  kept : Tree → Tree → Pieces → Pieces
  around : Label → Label → Pieces → Pieces → Pieces
  new_style : Label → Pieces → Pieces → Pieces

-- in the page
abbrev pub page_pieces : Pieces → Trees
page_pieces no_pieces = none
page_pieces (gone t ps) = more t (page_pieces ps)
page_pieces (written x text ps) = page_pieces ps
page_pieces (kept t u ps) = more t (page_pieces ps)
page_pieces (around l m is ps) = more (tree l (page_pieces is)) (page_pieces ps)
page_pieces (new_style m is ps) = appended (page_pieces is) (page_pieces ps)

-- a text before other nodes; where nothing was typed there is none
abbrev pub text_node : Label → List ℕ → Trees → Trees
text_node x [] us = us
text_node x (b ∷ bs) us = more (tree (record x { kind = kind.Text; id = 0; shown = b ∷ bs; mark = marks.Nothing }) none) us

-- a new node has no number, and bold and italic have neither attributes nor data
abbrev pub as_new : Label → Label
as_new m = record m { id = 0; attrs = []; mark = marks.Nothing; mw = None }

-- as they are sent
abbrev pub sent_pieces : Pieces → Trees
sent_pieces no_pieces = none
sent_pieces (gone t ps) = sent_pieces ps
sent_pieces (written x text ps) = text_node x text (sent_pieces ps)
sent_pieces (kept t u ps) = more u (sent_pieces ps)
sent_pieces (around l m is ps) = more (tree m (sent_pieces is)) (sent_pieces ps)
sent_pieces (new_style m is ps) = more (tree (as_new m) (sent_pieces is)) (sent_pieces ps)

abbrev pub IsStyle : Kind → Type 0
IsStyle k = (k ≡ kind.Bold) ⊎ (k ≡ kind.Italic)

-- what stays is sent as it is, and so is bold and italic but for what is in it
abbrev pub PiecesStay : Pieces → Type 0
PiecesStay no_pieces = Unit {0}
PiecesStay (gone t ps) = PiecesStay ps
PiecesStay (written x text ps) = PiecesStay ps
PiecesStay (kept t u ps) = StandsAsIs t u × PiecesStay ps
PiecesStay (around l m is ps) = IsStyle l.kind × IsSentAsIs l m × PiecesStay is × PiecesStay ps
PiecesStay (new_style m is ps) = IsStyle m.kind × PiecesStay is × PiecesStay ps

-- the texts that are sent, in bold and italic, too, and what stays as the page shows it
abbrev pub pieces_before : Pieces → Plains → Plains
pieces_before no_pieces rest = rest
pieces_before (gone t ps) rest = pieces_before ps rest
pieces_before (written x text ps) rest = text_before text (pieces_before ps rest)
pieces_before (kept t u ps) rest = plain_before t (pieces_before ps rest)
pieces_before (around l m is ps) rest = shown_before (showing l.kind) l (λ qs. pieces_before is qs) (pieces_before ps rest)
pieces_before (new_style m is ps) rest = shown_before (showing m.kind) (as_new m) (λ qs. pieces_before is qs) (pieces_before ps rest)

-- ---- what is sent for a node

-- One that stays, in the page and as it is sent; or a block of the page with the first label, for which a block with the second one is sent,
-- marked, and this content in it; or a node of the page with the first label, which is sent with the second one, and what is sent for its
-- children.
mutual
  pub data Edited : Type 0 where
    stays : Tree → Tree → Edited
    edited : Block → Label → Label → Pieces → Edited
    round : Label → Label → Edits → Edited

  pub data Edits : Type 0 where
    no_edits : Edits
    more_edits : Edited → Edits → Edits

-- in the page
abbrev mutual
  pub page_node : Edited → Tree
  page_node (stays t u) = t
  page_node (edited k l m ps) = tree (record l { kind = kind_of k }) (page_pieces ps)
  page_node (round l m es) = tree l (page_nodes es)

  pub page_nodes : Edits → Trees
  page_nodes no_edits = none
  page_nodes (more_edits e es) = more (page_node e) (page_nodes es)

-- as they are sent
abbrev mutual
  pub sent_node : Edited → Tree
  sent_node (stays t u) = u
  sent_node (edited k l m ps) = tree (record m { kind = kind_of k; id = l.id; attrs = l.attrs; mark = marks.Content; mw = l.mw }) (sent_pieces ps)
  sent_node (round l m es) = tree m (sent_nodes es)

  pub sent_nodes : Edits → Trees
  sent_nodes no_edits = none
  sent_nodes (more_edits e es) = more (sent_node e) (sent_nodes es)

-- What stays is sent as it is, in a content, too; a block whose content was edited has a number, and a node in which such blocks are is sent
-- as it is but for these.
abbrev mutual
  pub IsEdited : Edited → Type 0
  IsEdited (stays t u) = StandsAsIs t u
  IsEdited (edited k l m ps) = (l.id ≢ 0) × PiecesStay ps
  IsEdited (round l m es) = IsSentAsIs l m × AreEdited es

  pub AreEdited : Edits → Type 0
  AreEdited no_edits = Unit {0}
  AreEdited (more_edits e es) = IsEdited e × AreEdited es

-- No block whose content was edited is in a group.
abbrev mutual
  pub IsOutside : Edited → Type 0
  IsOutside (stays t u) = Unit {0}
  IsOutside (edited k l m ps) = Unit {0}
  IsOutside (round l m es) = (is_group l.kind ≡ false) × AreOutside es

  pub AreOutside : Edits → Type 0
  AreOutside no_edits = Unit {0}
  AreOutside (more_edits e es) = IsOutside e × AreOutside es

-- ---- the body

-- in the page, with this label
abbrev pub page_body : Label → Edits → Tree
page_body l es = tree (record l { kind = kind.Body; id = 0 }) (page_nodes es)

-- as it is sent, where the second label is free
abbrev pub sent_body : Label → Label → Edits → Tree
sent_body l b es = tree (record b { kind = kind.Body; id = 0; attrs = l.attrs; mark = marks.Nothing; mw = l.mw }) (sent_nodes es)

-- ---- what it shows

-- a child that stays shows what it does in the page, and a block whose content was edited what was sent in it
abbrev mutual
  pub edited_before : Edited → Plains → Plains
  edited_before (stays t u) rest = plain_before t rest
  edited_before (edited k l m ps) rest = along (element (face (record l { kind = kind_of k })) (pieces_before ps ended)) rest
  edited_before (round l m es) rest = shown_before (showing l.kind) l (λ ps. edits_before es ps) rest

  pub edits_before : Edits → Plains → Plains
  edits_before no_edits rest = rest
  edits_before (more_edits e es) rest = edited_before e (edits_before es rest)

abbrev pub edits_show : Edits → Plains
edits_show es = edits_before es ended
