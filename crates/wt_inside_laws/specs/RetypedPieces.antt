-- The content of a retyped block in pieces: its elements stay, its texts go, and other texts come.
use Rattle.std.specs.Prelude.{◌≡◌, ◌≢◌, false, List, [], ◌∷◌, ◌++◌}
use Rattle.std.specs.List.{AllByRecursion}
use Rattle.std.specs.Str.{IsUtf8}
use Rattle.wt_tree.specs.declared.kind.Kind.TheVariants as kind
use Rattle.wt_tree.specs.declared.kind.Mark.TheVariants as marks
use Rattle.wt_tree.specs.Tree.{Label, Tree, tree, Trees, none, more, label}
use Rattle.wt_tree.specs.declared.edit_shape.InlineForm.{InlineForm}
use Rattle.wt_tree.specs.declared.edit_shape.InlineForm.TheVariants as inline
use Rattle.wt_tree.specs.EditShapes.{edit_shape}
use Rattle.wt_checks.specs.WithoutMarks.{mark_off}
use Rattle.wt_link_spelling.specs.Spelling.{children_of}
use Rattle.wt_typed_blocks.specs.Sent.{IsSentAsIs, StandsAsIs}
use Rattle.wt_called_edit_laws.specs.SentAsIs.{as_sent}
use Rattle.wt_typed_blocks.specs.Edited.{IsStyle, Pieces, no_pieces, gone, written, kept, around, new_style, page_pieces, sent_pieces}

-- ---- the pieces

-- before what follows: a text that is sent, and a node by the pieces that begin with it
abbrev pub next_by : InlineForm → Label → Pieces → Pieces → Pieces
next_by inline.Nothing l after here = after
next_by inline.Characters l after here = written l l.shown after
next_by inline.Bold l after here = here
next_by inline.Italic l after here = here
next_by inline.Shown l after here = here
next_by inline.PageLink l after here = here
next_by inline.ExternalLink l after here = here
next_by inline.Tag l after here = here
next_by inline.Break l after here = here
next_by inline.AsItStood l after here = here

-- the texts that are sent before the first node, and then pieces by this node and what comes after it
abbrev pub up_to_node : Trees → (Tree → Trees → Pieces) → Pieces
up_to_node none then_so = no_pieces
up_to_node (more (tree m ws) us) then_so = next_by (edit_shape m.kind).inline m (up_to_node us then_so) (then_so (tree m ws) us)

-- for a node of the page, by what is sent for what it holds, and for what comes after it
abbrev pub piece_by : InlineForm → Label → Trees → (Trees → Pieces) → (Trees → Pieces) → Trees → Pieces
piece_by inline.Nothing l ts inside after us = gone (tree l ts) (after us)
piece_by inline.Characters l ts inside after us = gone (tree l ts) (after us)
piece_by inline.Bold l ts inside after us = up_to_node us (λ u vs. around l (label u) (inside (children_of u)) (after vs))
piece_by inline.Italic l ts inside after us = up_to_node us (λ u vs. around l (label u) (inside (children_of u)) (after vs))
piece_by inline.Shown l ts inside after us = up_to_node us (λ u vs. kept (tree l ts) u (after vs))
piece_by inline.PageLink l ts inside after us = up_to_node us (λ u vs. kept (tree l ts) u (after vs))
piece_by inline.ExternalLink l ts inside after us = up_to_node us (λ u vs. kept (tree l ts) u (after vs))
piece_by inline.Tag l ts inside after us = up_to_node us (λ u vs. kept (tree l ts) u (after vs))
piece_by inline.Break l ts inside after us = up_to_node us (λ u vs. kept (tree l ts) u (after vs))
piece_by inline.AsItStood l ts inside after us = up_to_node us (λ u vs. kept (tree l ts) u (after vs))

-- of a content of the page and what is sent for it, where both have the same elements in the same order
abbrev mutual
  pub piece_of : Tree → (Trees → Pieces) → Trees → Pieces
  piece_of (tree l ts) after us = piece_by (edit_shape l.kind).inline l ts (λ ws. pieces_of ts ws) after us

  pub pieces_of : Trees → Trees → Pieces
  pieces_of none us = up_to_node us (λ u vs. no_pieces)
  pieces_of (more t ts) us = piece_of t (λ vs. pieces_of ts vs) us

-- The same with the page's own nodes in the place of those that were sent, without marks; of each group the elements that are written for it.
abbrev pub as_own : Pieces → Pieces
as_own no_pieces = no_pieces
as_own (gone t ps) = gone t (as_own ps)
as_own (written x text ps) = written x text (as_own ps)
as_own (kept t u ps) = kept t (as_sent t) (as_own ps)
as_own (around l m is ps) = around l (mark_off l) (as_own is) (as_own ps)
as_own (new_style m is ps) = new_style m (as_own is) (as_own ps)

-- ---- what is sent

-- a text as it is read: some characters, and nothing else
pub record IsReadText (l : Label) (ts : Trees) : Type 0 where
  pub kind : l.kind ≡ kind.Text
  pub id : l.id ≡ 0
  pub mark : l.mark ≡ marks.Nothing
  pub some : l.shown ≢ []
  pub bare : ts ≡ none

abbrev pub ReadBy : InlineForm → Label → Trees → Type 0 → Type 0
ReadBy inline.Nothing l ts inside = ⊥
ReadBy inline.Characters l ts inside = IsReadText l ts
ReadBy inline.Bold l ts inside = inside
ReadBy inline.Italic l ts inside = inside
ReadBy inline.Shown l ts inside = Unit {0}
ReadBy inline.PageLink l ts inside = Unit {0}
ReadBy inline.ExternalLink l ts inside = Unit {0}
ReadBy inline.Tag l ts inside = Unit {0}
ReadBy inline.Break l ts inside = Unit {0}
ReadBy inline.AsItStood l ts inside = Unit {0}

-- no separator is among them, nor in bold and italic
abbrev mutual
  pub IsRead : Tree → Type 0
  IsRead (tree l ts) = ReadBy (edit_shape l.kind).inline l ts (AreRead ts)

  pub AreRead : Trees → Type 0
  AreRead none = Unit {0}
  AreRead (more t ts) = IsRead t × AreRead ts

abbrev pub Utf8By : InlineForm → Label → Type 0 → Type 0
Utf8By inline.Nothing l inside = Unit {0}
Utf8By inline.Characters l inside = IsUtf8 l.shown
Utf8By inline.Bold l inside = inside
Utf8By inline.Italic l inside = inside
Utf8By inline.Shown l inside = Unit {0}
Utf8By inline.PageLink l inside = Unit {0}
Utf8By inline.ExternalLink l inside = Unit {0}
Utf8By inline.Tag l inside = Unit {0}
Utf8By inline.Break l inside = Unit {0}
Utf8By inline.AsItStood l inside = Unit {0}

-- each text is UTF-8, in bold and italic, too
abbrev mutual
  pub HasUtf8 : Tree → Type 0
  HasUtf8 (tree l ts) = Utf8By (edit_shape l.kind).inline l (AreUtf8 ts)

  pub AreUtf8 : Trees → Type 0
  AreUtf8 none = Unit {0}
  AreUtf8 (more t ts) = HasUtf8 t × AreUtf8 ts

-- these pieces are this content of the page, and this is sent for it
pub record ArePiecesOf (old new : Trees) (ps : Pieces) : Type 0 where
  pub page : page_pieces ps ≡ old
  pub sent : sent_pieces ps ≡ new

-- ---- what stays

abbrev pub nodes_by : InlineForm → Tree → List Tree → List Tree
nodes_by inline.Nothing t inside = []
nodes_by inline.Characters t inside = []
nodes_by inline.Bold t inside = t ∷ inside
nodes_by inline.Italic t inside = t ∷ inside
nodes_by inline.Shown t inside = t ∷ []
nodes_by inline.PageLink t inside = t ∷ []
nodes_by inline.ExternalLink t inside = t ∷ []
nodes_by inline.Tag t inside = t ∷ []
nodes_by inline.Break t inside = t ∷ []
nodes_by inline.AsItStood t inside = t ∷ []

-- in order: elements, and bold and italic with those in them
abbrev mutual
  pub nodes_of : Tree → List Tree
  nodes_of (tree l ts) = nodes_by (edit_shape l.kind).inline (tree l ts) (nodes ts)

  pub nodes : Trees → List Tree
  nodes none = []
  nodes (more t ts) = nodes_of t ++ nodes ts

-- bold and italic may hold something else
abbrev pub IsAsItWas : InlineForm → Tree → Tree → Type 0
IsAsItWas inline.Nothing t u = Unit {0}
IsAsItWas inline.Characters t u = Unit {0}
IsAsItWas inline.Bold t u = IsStyle (label t).kind × IsSentAsIs (label t) (label u)
IsAsItWas inline.Italic t u = IsStyle (label t).kind × IsSentAsIs (label t) (label u)
IsAsItWas inline.Shown t u = StandsAsIs t u
IsAsItWas inline.PageLink t u = StandsAsIs t u
IsAsItWas inline.ExternalLink t u = StandsAsIs t u
IsAsItWas inline.Tag t u = StandsAsIs t u
IsAsItWas inline.Break t u = StandsAsIs t u
IsAsItWas inline.AsItStood t u = StandsAsIs t u

-- the node with this number is sent as it is
abbrev pub StaysWith : Tree → Tree → Type 0
StaysWith t u = (label u).id ≡ (label t).id → IsAsItWas (edit_shape (label t).kind).inline t u

-- each node of the content is sent as it is
abbrev pub NodesStay : Trees → Trees → Type 0
NodesStay old new = AllByRecursion (λ t. AllByRecursion (λ u. StaysWith t u) (nodes new)) (nodes old)
