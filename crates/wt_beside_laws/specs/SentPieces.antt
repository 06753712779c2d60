-- A content that is sent of a block of the page: nodes stay, and texts go and come.
use Rattle.std.specs.Prelude.{◌≡◌, Bool, Some, []}
use Rattle.std.specs.Str.{IsUtf8}
use Rattle.wt_tree.specs.EditShapes.{edit_shape}
use Rattle.wt_tree.specs.Plain.{Plains, plain_before}
use Rattle.wt_tree.specs.Source.{flat}
use Rattle.wt_tree.specs.Tree.{Label, Tree, tree, Trees, none, more, label}
use Rattle.wt_tree.specs.declared.edit_shape.InlineForm.{InlineForm}
use Rattle.wt_tree.specs.declared.edit_shape.InlineForm.TheVariants as inline
use Rattle.wt_original.specs.Kept.{Kept, kept_with}
use Rattle.wt_original.specs.Page.{Page}
use Rattle.wt_context.specs.Line.{line_parts}
use Rattle.wt_content.specs.Content.{break_fault}
use Rattle.wt_typed_blocks.specs.Edited.{Pieces, no_pieces, gone, written, kept, around, new_style}
use Rattle.wt_beside_laws.specs.NodeItems.{node_items}
use Rattle.wt_beside_laws.specs.Shown.{parts_shown_at}

-- a text, or a separator
abbrev pub IsNoNode : InlineForm → Type 0
IsNoNode inline.Nothing = Unit {0}
IsNoNode inline.Characters = Unit {0}
IsNoNode inline.Bold = ⊥
IsNoNode inline.Italic = ⊥
IsNoNode inline.Shown = ⊥
IsNoNode inline.PageLink = ⊥
IsNoNode inline.ExternalLink = ⊥
IsNoNode inline.Tag = ⊥
IsNoNode inline.Break = ⊥
IsNoNode inline.AsItStood = ⊥

-- all nodes stay, and no bold and italic is among them
abbrev pub OnlyTextsGo : Pieces → Type 0
OnlyTextsGo no_pieces = Unit {0}
OnlyTextsGo (gone (tree l ts) ps) = IsNoNode (edit_shape l.kind).inline × OnlyTextsGo ps
OnlyTextsGo (written x text ps) = OnlyTextsGo ps
OnlyTextsGo (kept t u ps) = OnlyTextsGo ps
OnlyTextsGo (around l m is ps) = ⊥
OnlyTextsGo (new_style m is ps) = ⊥

-- nodes may go, too
abbrev pub HaveNoStyle : Pieces → Type 0
HaveNoStyle no_pieces = Unit {0}
HaveNoStyle (gone t ps) = HaveNoStyle ps
HaveNoStyle (written x text ps) = HaveNoStyle ps
HaveNoStyle (kept t u ps) = HaveNoStyle ps
HaveNoStyle (around l m is ps) = ⊥
HaveNoStyle (new_style m is ps) = ⊥

-- a text with a line break is only in a paragraph
abbrev pub FitsBy : InlineForm → Bool → Label → Type 0
FitsBy inline.Nothing of_paragraph l = Unit {0}
FitsBy inline.Characters of_paragraph l = break_fault of_paragraph l.shown ≡ []
FitsBy inline.Bold of_paragraph l = Unit {0}
FitsBy inline.Italic of_paragraph l = Unit {0}
FitsBy inline.Shown of_paragraph l = Unit {0}
FitsBy inline.PageLink of_paragraph l = Unit {0}
FitsBy inline.ExternalLink of_paragraph l = Unit {0}
FitsBy inline.Tag of_paragraph l = Unit {0}
FitsBy inline.Break of_paragraph l = Unit {0}
FitsBy inline.AsItStood of_paragraph l = Unit {0}

abbrev pub TextsFit : Bool → Trees → Type 0
TextsFit of_paragraph none = Unit {0}
TextsFit of_paragraph (more (tree l ts) us) = FitsBy (edit_shape l.kind).inline of_paragraph l × TextsFit of_paragraph us

-- ---- what is sent, and what it shows

-- it is no text, nor a separator
abbrev pub IsNodeForm : InlineForm → Type 0
IsNodeForm inline.Nothing = ⊥
IsNodeForm inline.Characters = ⊥
IsNodeForm inline.Bold = Unit {0}
IsNodeForm inline.Italic = Unit {0}
IsNodeForm inline.Shown = Unit {0}
IsNodeForm inline.PageLink = Unit {0}
IsNodeForm inline.ExternalLink = Unit {0}
IsNodeForm inline.Tag = Unit {0}
IsNodeForm inline.Break = Unit {0}
IsNodeForm inline.AsItStood = Unit {0}

-- the page's node shows what the source of the node with its number shows by itself
abbrev pub ShowsItsSource : Page → Tree → Type 0
ShowsItsSource p t = (k : Kept) → kept_with (label t).id p.kept ≡ Some k
    → (rest : Plains) → parts_shown_at 0 [] (line_parts (node_items (flat k.node))) rest ≡ plain_before t rest

-- what stays are nodes that show their source, and the texts are texts; bold and italic aren't among them
abbrev pub PiecesShow : Page → Pieces → Type 0
PiecesShow p no_pieces = Unit {0}
PiecesShow p (gone t ps) = PiecesShow p ps
PiecesShow p (written x text ps) = IsUtf8 text × PiecesShow p ps
PiecesShow p (kept t u ps) = IsNodeForm (edit_shape (label t).kind).inline × ShowsItsSource p t × PiecesShow p ps
PiecesShow p (around l m is ps) = ⊥
PiecesShow p (new_style m is ps) = ⊥
