-- A paragraph or heading of the page that holds calls, by the nodes of the page's tree: texts, calls and other nodes, and bold and italic round such.
use Rattle.std.specs.Prelude.{◌≡◌, ◌⊎◌, ◌==◌, ℕ, Bool, true, false, List, [], ◌∷◌, ◌++◌}
use Rattle.std.specs.List.{list_any}
use Rattle.std.specs.Str.{IsUtf8}
use Rattle.wt_tree.specs.EditShapes.{edit_shape}
use Rattle.wt_tree.specs.Plain.{Plains, face, plain_before}
use Rattle.wt_tree.specs.Source.{flat}
use Rattle.wt_tree.specs.Tiling.{is_group}
use Rattle.wt_tree.specs.Tree.{Label, Tree, Trees, label, more, none, tree}
use Rattle.wt_tree.specs.declared.edit_shape.InlineForm.{InlineForm}
use Rattle.wt_tree.specs.declared.edit_shape.InlineForm.TheVariants as inline
use Rattle.wt_span.specs.declared.form.Mode.TheVariants.{Page}
use Rattle.wt_span.specs.Bytes.{is_break}
use Rattle.wt_span.specs.Characters as byte
use Rattle.wt_span.specs.Lexemes.{words}
use Rattle.wt_lines.specs.Lines.{IsUnbroken}
use Rattle.wt_guards.specs.Content.{Thing}
use Rattle.wt_guards.specs.Guards.{is_mark, is_new_at_start}
use Rattle.wt_guards.specs.declared.role.Role.{Role}
use Rattle.wt_guards.specs.declared.role.Role.TheVariants.{Bare, External, Function, Group, Link, Mark, Node, Switch, Toggle}
use Rattle.wt_guards.specs.declared.role.Transclusion.{Transclusion}
use Rattle.wt_difference.specs.Insides.{is_block_part}
use Rattle.wt_context.specs.Line.{line_parts}
use Rattle.wt_link_spelling.specs.Spelling.{children_of}
use Rattle.wt_expand.specs.PageItems.{page_items}
use Rattle.wt_expand.specs.Work.{Pages}
use Rattle.wt_part_laws.specs.Apart.{AreMet}
use Rattle.wt_text_edit_laws.specs.NoCalls.{AreUnbraced}
use Rattle.wt_text_edit_laws.specs.TextBetween.{EndsBy, HasEnds}
use Rattle.wt_beside_laws.specs.Called.{AreSomeOfPage, GivesGroup}
use Rattle.wt_beside_laws.specs.Cuts.{own_glyphs}
use Rattle.wt_beside_laws.specs.Flat.{IsFlat}
use Rattle.wt_beside_laws.specs.NodeItems.{node_items}
use Rattle.wt_beside_laws.specs.Nodes.{IsNode, OpensNoPair}
use Rattle.wt_beside_laws.specs.References.{ReferencesEnd}
use Rattle.wt_beside_laws.specs.SentStyled.{AllNest, style_face}
use Rattle.wt_beside_laws.specs.Shown.{parts_shown_at}
use Rattle.wt_beside_laws.specs.StyledNodes.{EndsUnquoted}
use Rattle.wt_called_edit_laws.specs.CalledEdits.{ShowsAsGiven, page_things}
use Rattle.wt_called_edit_laws.specs.InPieces.{pieces_source}
use Rattle.wt_called_edit_laws.specs.PageThings.{AllMeetLater}
use Rattle.wt_called_edit_laws.specs.StyledCallEdits.{GivesUnquoted, NestedGroups}
use Rattle.wt_called_edit_laws.specs.WholeContents.{AreShutParts}
use Rattle.wt_called_edit_laws.specs.Written.{BeginsOutward, EndsOutward, IsOwnPart}

-- ---- its pieces, in order

-- the source of a node; of bold and italic the delimiters, and what is between them
abbrev pub pieces_by : InlineForm → Label → List ℕ → List (List ℕ) → List (List ℕ)
pieces_by inline.Nothing l source inside = source ∷ []
pieces_by inline.Characters l source inside = source ∷ []
pieces_by inline.Bold l source inside = l.opening ∷ (inside ++ (l.closing ∷ []))
pieces_by inline.Italic l source inside = l.opening ∷ (inside ++ (l.closing ∷ []))
pieces_by inline.Shown l source inside = source ∷ []
pieces_by inline.PageLink l source inside = source ∷ []
pieces_by inline.ExternalLink l source inside = source ∷ []
pieces_by inline.Tag l source inside = source ∷ []
pieces_by inline.Break l source inside = source ∷ []
pieces_by inline.AsItStood l source inside = source ∷ []

abbrev mutual
  pub node_pieces : Tree → List (List ℕ)
  node_pieces (tree l ts) = pieces_by (edit_shape l.kind).inline l (flat (tree l ts)) (all_node_pieces ts)

  pub all_node_pieces : Trees → List (List ℕ)
  all_node_pieces none = []
  all_node_pieces (more t ts) = node_pieces t ++ all_node_pieces ts

-- no lexeme goes over from one into what follows, unless both are characters
abbrev pub ArePiecesMet : List (List ℕ) → Type 0
ArePiecesMet [] = Unit {0}
ArePiecesMet (b ∷ bs) = AreMet (words Page b) (words Page (pieces_source bs)) (words Page (b ++ pieces_source bs)) × ArePiecesMet bs

-- ---- its nodes

-- no brace is in it outside of other lexemes
abbrev pub IsUnbraced : List ℕ → Type 0
IsUnbraced source = AreUnbraced (page_items source)

-- a node without braces: it shows what its source shows by itself
pub record ShowsItself (t : Tree) : Type 0 where
  pub inline : is_block_part (label t).kind ≡ false
  pub unbraced : IsUnbraced (flat t)
  pub shows : (rest : Plains) → parts_shown_at 0 [] (line_parts (page_items (flat t))) rest ≡ plain_before t rest

-- or a group: what its source shows in this folder by itself, however many calls come before it
abbrev pub ShowsAlone : Pages → Label → Trees → Type 0
ShowsAlone pages l ts = ((is_group l.kind ≡ true) × ShowsAsGiven pages (tree l ts)) ⊎ ShowsItself (tree l ts)

-- a text, whose characters are UTF-8, or a separator; bold or italic without attributes, in which what calls give nests; or such a node
abbrev pub IsNodeBy : InlineForm → Pages → Label → Trees → Type 0 → Type 0
IsNodeBy inline.Nothing pages l ts inside = IsUnbraced (flat (tree l ts))
IsNodeBy inline.Characters pages l ts inside = IsUtf8 l.shown × IsUnbraced (flat (tree l ts))
IsNodeBy inline.Bold pages l ts inside = (face l ≡ style_face true) × NestedGroups pages true false ts × IsUnbraced l.opening × inside × IsUnbraced l.closing
IsNodeBy inline.Italic pages l ts inside = (face l ≡ style_face false) × NestedGroups pages false true ts × IsUnbraced l.opening × inside × IsUnbraced l.closing
IsNodeBy inline.Shown pages l ts inside = ShowsAlone pages l ts
IsNodeBy inline.PageLink pages l ts inside = ShowsAlone pages l ts
IsNodeBy inline.ExternalLink pages l ts inside = ShowsAlone pages l ts
IsNodeBy inline.Tag pages l ts inside = ShowsAlone pages l ts
IsNodeBy inline.Break pages l ts inside = ShowsAlone pages l ts
IsNodeBy inline.AsItStood pages l ts inside = ShowsAlone pages l ts

abbrev mutual
  pub IsBlockNode : Pages → Tree → Type 0
  IsBlockNode pages (tree l ts) = IsNodeBy (edit_shape l.kind).inline pages l ts (AreBlockNodes pages ts)

  pub AreBlockNodes : Pages → Trees → Type 0
  AreBlockNodes pages none = Unit {0}
  AreBlockNodes pages (more t ts) = IsBlockNode pages t × AreBlockNodes pages ts

-- ---- what each is to its neighbours

abbrev pub is_closing : ℕ → Bool
is_closing b = b == byte.closing_brace

-- It begins with a `{`, ends with a `}`, and is on one line; each comment, tag of an extension, `<nowiki>` and `<includeonly>` that begins in it ends in it.
pub record IsEndedCall (source : List ℕ) : Type 0 where
  pub others : List ℕ
  pub is : source ≡ byte.opening_brace ∷ others
  pub last : EndsBy is_closing source
  pub ends : HasEnds source
  pub one_line : list_any is_break source ≡ false

-- One call: where it is it gives what a group may give, and by itself it is a part of the page: no two braces are left in it. One that shows `//` gives no
-- apostrophe last.
pub record IsOneCall (pages : Pages) (g : Transclusion) (source : List ℕ) : Type 0 where
  pub gives : GivesGroup pages g source
  pub ended : IsEndedCall source
  pub part : IsOwnPart pages source
  pub unquoted : GivesUnquoted pages (Group g) source
  pub utf8 : IsUtf8 source

-- a bare URL ends with no `&` and the first letters of an entity's name, or `&#`
abbrev pub UrlEnds : Role → List ℕ → Type 0
UrlEnds Link source = Unit {0}
UrlEnds External source = Unit {0}
UrlEnds (Bare ends) source = ReferencesEnd source
UrlEnds Switch source = Unit {0}
UrlEnds Toggle source = Unit {0}
UrlEnds (Mark ends began) source = Unit {0}
UrlEnds (Group g) source = Unit {0}
UrlEnds Function source = Unit {0}
UrlEnds Node source = Unit {0}

-- A node of the page on one line that calls nothing, by its source alone: what begins in it ends in it, it is no tag that opens a pair without a closing
-- tag, no node in it is empty, no brace is in it, and a mark is within its line. A bare URL ends with no apostrophe.
pub record IsOneNode (t : Thing) : Type 0 where
  pub flat : IsFlat t.role
  pub node : IsNode t.role (own_glyphs t)
  pub closed : OpensNoPair (own_glyphs t)
  pub inside : is_mark t.role ≡ true → is_new_at_start t.role ≡ true
  pub unbroken : IsUnbroken (node_items t.source)
  pub own : AreSomeOfPage (line_parts (node_items t.source))
  pub shut : AreShutParts (line_parts (node_items t.source))
  pub ended : HasEnds t.source
  pub references : UrlEnds t.role t.source
  pub unbraced : IsUnbraced t.source
  pub begins : BeginsOutward t.source
  pub ends : EndsOutward t.source
  pub unquoted : EndsUnquoted t.role (own_glyphs t)
  pub utf8 : IsUtf8 t.source

abbrev pub IsOneBy : Role → Pages → Thing → Type 0
IsOneBy Link pages t = IsOneNode t
IsOneBy External pages t = IsOneNode t
IsOneBy (Bare ends) pages t = IsOneNode t
IsOneBy Switch pages t = IsOneNode t
IsOneBy Toggle pages t = IsOneNode t
IsOneBy (Mark ends began) pages t = IsOneNode t
IsOneBy (Group g) pages t = IsOneCall pages g t.source
IsOneBy Function pages t = IsOneNode t
IsOneBy Node pages t = IsOneNode t

abbrev pub AreOnes : Pages → List Thing → Type 0
AreOnes pages [] = Unit {0}
AreOnes pages (t ∷ ts) = IsOneBy t.role pages t × AreOnes pages ts

-- ---- the block

-- Its nodes are texts, calls, other nodes, and bold and italic round such, which nest; calls side by side may meet; and no lexeme goes over from one of
-- its pieces into the next.
pub record IsOfNodes (pages : Pages) (block : Tree) : Type 0 where
  pub nodes : AreBlockNodes pages (children_of block)
  pub nest : AllNest false false (children_of block)
  pub things : AreOnes pages (page_things block)
  pub meet : AllMeetLater pages (page_things block)
  pub met : ArePiecesMet (all_node_pieces (children_of block))
