-- A paragraph or heading of the page with calls and with bold and italic in it, for which one with other texts beside these calls, and with other styles,
-- is sent: what is written for it.
use Rattle.std.specs.Prelude.{◌≡◌, ◌⊎◌, ℕ, Bool, true, false, not, List, [], ◌∷◌, ◌≢◌, map}
use Rattle.std.specs.Str.{IsUtf8}
use Rattle.wt_tree.specs.EditShapes.{edit_shape}
use Rattle.wt_tree.specs.Plain.{face}
use Rattle.wt_tree.specs.Source.{flat}
use Rattle.wt_tree.specs.Tiling.{is_group as is_group_kind}
use Rattle.wt_tree.specs.Tree.{Label, Tree, Trees, more, none, tree}
use Rattle.wt_tree.specs.declared.edit_shape.InlineForm.{InlineForm}
use Rattle.wt_tree.specs.declared.edit_shape.InlineForm.TheVariants as inline
use Rattle.wt_guards.specs.Content.{Thing, is_group}
use Rattle.wt_guards.specs.declared.role.Role.{Role}
use Rattle.wt_guards.specs.declared.role.Role.TheVariants.{Bare, External, Function, Group, Link, Mark, Node, Switch, Toggle}
use Rattle.wt_tiles.specs.Glyphs.{glyph_of}
use Rattle.wt_context.specs.Line.{line_parts}
use Rattle.wt_link_spelling.specs.Spelling.{children_of}
use Rattle.wt_expand.specs.PageCalls.{expanded_page}
use Rattle.wt_expand.specs.Work.{Pages}
use Rattle.wt_part_laws.specs.Expanded.{part_items}
use Rattle.wt_text_edit_laws.specs.TextBlocks.{TextBlock}
use Rattle.wt_typed_blocks.specs.Edited.{Pieces, PiecesStay, around, gone, kept, new_style, no_pieces, page_pieces, written}
use Rattle.wt_beside_laws.specs.Called.{AreSomeOfPage}
use Rattle.wt_beside_laws.specs.Cuts.{own_glyphs}
use Rattle.wt_beside_laws.specs.FlatPages.{AreNodesAndTexts}
use Rattle.wt_beside_laws.specs.NewStyles.{NewStylesNest, is_bold}
use Rattle.wt_beside_laws.specs.NodeItems.{node_items}
use Rattle.wt_beside_laws.specs.Nodes.{is_quote_last}
use Rattle.wt_beside_laws.specs.SentStyled.{AllNest, style_face}
use Rattle.wt_beside_laws.specs.StyledCalls.{PartsNestIn}
use Rattle.wt_beside_laws.specs.StyledNodes.{EndsUnquoted}
use Rattle.wt_called_edit_laws.specs.CalledEdits.{FitsRound, IsChildBeside, TextsFitAt, page_things}
use Rattle.wt_called_edit_laws.specs.InPieces.{AreInPieces, pieces_source}
use Rattle.wt_called_edit_laws.specs.PageThings.{ArePageThings, thing_sources}
use Rattle.wt_called_edit_laws.specs.WrittenAnew.{StayButForOthers}

-- ---- the block

-- texts and separators, nodes with a number, and so what is in bold and italic
abbrev pub HasNumberBy : InlineForm → Label → Type 0 → Type 0
HasNumberBy inline.Nothing l inside = Unit {0}
HasNumberBy inline.Characters l inside = Unit {0}
HasNumberBy inline.Bold l inside = (l.id ≢ 0) × inside
HasNumberBy inline.Italic l inside = (l.id ≢ 0) × inside
HasNumberBy inline.Shown l inside = l.id ≢ 0
HasNumberBy inline.PageLink l inside = l.id ≢ 0
HasNumberBy inline.ExternalLink l inside = l.id ≢ 0
HasNumberBy inline.Tag l inside = l.id ≢ 0
HasNumberBy inline.Break l inside = l.id ≢ 0
HasNumberBy inline.AsItStood l inside = l.id ≢ 0

abbrev mutual
  pub HasNumbers : Tree → Type 0
  HasNumbers (tree l ts) = HasNumberBy (edit_shape l.kind).inline l (HaveNumbers ts)

  pub HaveNumbers : Trees → Type 0
  HaveNumbers none = Unit {0}
  HaveNumbers (more t ts) = HasNumbers t × HaveNumbers ts

-- however many calls come before it, what this gives may be in bold or italic or in neither: it has no bold in bold, and no italic in italic
abbrev pub GivesNested : Pages → Bool → Bool → List ℕ → Type 0
GivesNested pages bold italic source = (i : ℕ) → PartsNestIn bold italic (line_parts (part_items pages i source))

-- so each group, as this is all or part of it
abbrev mutual
  pub HasNestedGroups : Pages → Bool → Bool → Tree → Type 0
  HasNestedGroups pages bold italic (tree l ts) =
      (is_group_kind l.kind ≡ true → GivesNested pages bold italic (flat (tree l ts))) × NestedGroups pages bold italic ts

  pub NestedGroups : Pages → Bool → Bool → Trees → Type 0
  NestedGroups pages bold italic none = Unit {0}
  NestedGroups pages bold italic (more t ts) = HasNestedGroups pages bold italic t × NestedGroups pages bold italic ts

-- a text, whose characters are UTF-8; bold or italic without attributes, in which calls give none of its kind; a group, or another node without groups
abbrev pub IsBesideBy : InlineForm → Pages → Label → Trees → Type 0 → Type 0
IsBesideBy inline.Nothing pages l ts inside = IsChildBeside pages (tree l ts)
IsBesideBy inline.Characters pages l ts inside = IsUtf8 l.shown × IsChildBeside pages (tree l ts)
IsBesideBy inline.Bold pages l ts inside = (face l ≡ style_face true) × NestedGroups pages true false ts × inside
IsBesideBy inline.Italic pages l ts inside = (face l ≡ style_face false) × NestedGroups pages false true ts × inside
IsBesideBy inline.Shown pages l ts inside = IsChildBeside pages (tree l ts)
IsBesideBy inline.PageLink pages l ts inside = IsChildBeside pages (tree l ts)
IsBesideBy inline.ExternalLink pages l ts inside = IsChildBeside pages (tree l ts)
IsBesideBy inline.Tag pages l ts inside = IsChildBeside pages (tree l ts)
IsBesideBy inline.Break pages l ts inside = IsChildBeside pages (tree l ts)
IsBesideBy inline.AsItStood pages l ts inside = IsChildBeside pages (tree l ts)

abbrev mutual
  pub IsNodeBeside : Pages → Tree → Type 0
  IsNodeBeside pages (tree l ts) = IsBesideBy (edit_shape l.kind).inline pages l ts (AreNodesBeside pages ts)

  pub AreNodesBeside : Pages → Trees → Type 0
  AreNodesBeside pages none = Unit {0}
  AreNodesBeside pages (more t ts) = IsNodeBeside pages t × AreNodesBeside pages ts

-- a call that shows no `//`, or in which no apostrophe is last; or another node
abbrev pub GivesUnquoted : Pages → Role → List ℕ → Type 0
GivesUnquoted pages Link source = Unit {0}
GivesUnquoted pages External source = Unit {0}
GivesUnquoted pages (Bare ends) source = Unit {0}
GivesUnquoted pages Switch source = Unit {0}
GivesUnquoted pages Toggle source = Unit {0}
GivesUnquoted pages (Mark ends began) source = Unit {0}
GivesUnquoted pages (Group g) source = (g.slashes ≡ false) ⊎ ((i : ℕ) → is_quote_last (map glyph_of (part_items pages i source)) ≡ false)
GivesUnquoted pages Function source = Unit {0}
GivesUnquoted pages Node source = Unit {0}

-- A node that is no call is something of the page on a line by itself. No URL ends with an apostrophe, of the page or of a call: a delimiter behind it would
-- take that.
pub record IsOwnThing (pages : Pages) (t : Thing) : Type 0 where
  pub some : is_group t.role ≡ false → AreSomeOfPage (line_parts (node_items t.source))
  pub unquoted : EndsUnquoted t.role (own_glyphs t)
  pub gives : GivesUnquoted pages t.role t.source

abbrev pub AreOwnThings : Pages → List Thing → Type 0
AreOwnThings pages [] = Unit {0}
AreOwnThings pages (t ∷ ts) = IsOwnThing pages t × AreOwnThings pages ts

-- A paragraph or heading of the page, whatever it is, in pieces: texts, calls, other nodes on one line, and delimiters. Its nodes are these calls and
-- nodes, with bold and italic round some; its styles nest, and a call in one gives none of its kind.
pub record IsBesideStyles (pages : Pages) (k : TextBlock) (q : List ℕ) (block : Tree) : Type 0 where
  pub pieces : List (List ℕ)
  pub is : pieces_source pieces ≡ q
  pub parts : AreInPieces pages pieces
  pub numbers : HaveNumbers (children_of block)
  pub children : AreNodesBeside pages (children_of block)
  pub nest : AllNest false false (children_of block)
  pub things : ArePageThings pages (page_things block)
  pub own : AreOwnThings pages (page_things block)
  pub among : StayButForOthers pages pieces (thing_sources (page_things block))
  pub round : FitsRound pages k q (page_things block)

-- ---- what is sent for it

-- it calls nothing, nor does what is in bold and italic
abbrev pub CallsNoneBy : InlineForm → Pages → Label → Trees → Type 0 → Type 0
CallsNoneBy inline.Nothing pages l ts inside = Unit {0}
CallsNoneBy inline.Characters pages l ts inside = Unit {0}
CallsNoneBy inline.Bold pages l ts inside = inside
CallsNoneBy inline.Italic pages l ts inside = inside
CallsNoneBy inline.Shown pages l ts inside = (expanded_page pages (flat (tree l ts))).outer ≡ []
CallsNoneBy inline.PageLink pages l ts inside = (expanded_page pages (flat (tree l ts))).outer ≡ []
CallsNoneBy inline.ExternalLink pages l ts inside = (expanded_page pages (flat (tree l ts))).outer ≡ []
CallsNoneBy inline.Tag pages l ts inside = (expanded_page pages (flat (tree l ts))).outer ≡ []
CallsNoneBy inline.Break pages l ts inside = (expanded_page pages (flat (tree l ts))).outer ≡ []
CallsNoneBy inline.AsItStood pages l ts inside = (expanded_page pages (flat (tree l ts))).outer ≡ []

abbrev mutual
  pub CallsNone : Pages → Tree → Type 0
  CallsNone pages (tree l ts) = CallsNoneBy (edit_shape l.kind).inline pages l ts (CallNone pages ts)

  pub CallNone : Pages → Trees → Type 0
  CallNone pages none = Unit {0}
  CallNone pages (more t ts) = CallsNone pages t × CallNone pages ts

-- so each that goes
abbrev pub NoCallGoes : Pages → Pieces → Type 0
NoCallGoes pages no_pieces = Unit {0}
NoCallGoes pages (gone t ps) = CallsNone pages t × NoCallGoes pages ps
NoCallGoes pages (written x text ps) = NoCallGoes pages ps
NoCallGoes pages (kept t u ps) = NoCallGoes pages ps
NoCallGoes pages (around l m is ps) = NoCallGoes pages is × NoCallGoes pages ps
NoCallGoes pages (new_style m is ps) = NoCallGoes pages is × NoCallGoes pages ps

-- what calls give in a new style has none of its kind
abbrev pub NewStylesHoldNested : Pages → Pieces → Type 0
NewStylesHoldNested pages no_pieces = Unit {0}
NewStylesHoldNested pages (gone t ps) = NewStylesHoldNested pages ps
NewStylesHoldNested pages (written x text ps) = NewStylesHoldNested pages ps
NewStylesHoldNested pages (kept t u ps) = NewStylesHoldNested pages ps
NewStylesHoldNested pages (around l m is ps) = NewStylesHoldNested pages is × NewStylesHoldNested pages ps
NewStylesHoldNested pages (new_style m is ps) =
    NestedGroups pages (is_bold m) (not (is_bold m)) (page_pieces is) × NewStylesHoldNested pages is × NewStylesHoldNested pages ps

-- All its calls stay, in their order, and any other node and style stays or goes; each is sent as it is, and in a style other texts may be. Any texts are
-- between them, and new styles, as they may nest, round texts, nodes and calls that give none of their kind. In a paragraph something is sent or put that
-- is no call, and in a heading no line break is typed.
pub record IsStyledCallEdit (pages : Pages) (k : TextBlock) (block : Tree) (ps : Pieces) : Type 0 where
  pub old : page_pieces ps ≡ children_of block
  pub stay : PiecesStay ps
  pub are : AreNodesAndTexts ps
  pub calm : NoCallGoes pages ps
  pub new : NewStylesNest false false ps
  pub free : NewStylesHoldNested pages ps
  pub fits : TextsFitAt k block ps
