-- Nodes of the page that hold calls, as a link with a call in its text or a pair of tags round one.
use Rattle.std.specs.Prelude.{◌≡◌, ◌⊎◌, false, List, [], ◌∷◌}
use Rattle.std.specs.List.{list_all}
use Rattle.wt_tree.specs.EditShapes.{edit_shape}
use Rattle.wt_tree.specs.Kinds.{texts_of_kind}
use Rattle.wt_tree.specs.declared.edit_shape.InlineForm.{InlineForm}
use Rattle.wt_tree.specs.declared.edit_shape.InlineForm.TheVariants as inline
use Rattle.wt_span.specs.Items.{Item}
use Rattle.wt_span.specs.Origins.{OuterCall}
use Rattle.wt_inline.specs.ItemTree.{ItemTree, inner, ItemTrees, nothing, further, tree_items}
use Rattle.wt_inline.specs.Parts.{node}
use Rattle.wt_context.specs.Line.{line_parts}
use Rattle.wt_annotated.specs.Clean.{is_page}
use Rattle.wt_isolation.specs.OpenTags.{ends_open}
use Rattle.wt_part_laws.specs.CallPieces.{IsOwnOrGiven, IsRoundNode, is_cut_anew}

-- ---- what is in them

-- Its delimiters are the page's own. What is in it is the page's, a call's, or again such a node; no text in it is cut anew.
abbrev mutual
  pub IsRoundDeep : ItemTree → Type 0
  IsRoundDeep (inner h opening ts closing) = IsRoundNode (inner h opening ts closing) × (is_cut_anew (texts_of_kind h.kind) ≡ false) × AreDeepPieces ts

  pub AreDeepPieces : ItemTrees → Type 0
  AreDeepPieces nothing = Unit {0}
  AreDeepPieces (further t ts) = (IsOwnOrGiven t ⊎ IsRoundDeep t) × AreDeepPieces ts

-- ---- neither bold nor italic

abbrev pub IsUnstyledForm : InlineForm → Type 0
IsUnstyledForm inline.Nothing = Unit {0}
IsUnstyledForm inline.Characters = Unit {0}
IsUnstyledForm inline.Bold = ⊥
IsUnstyledForm inline.Italic = ⊥
IsUnstyledForm inline.Shown = Unit {0}
IsUnstyledForm inline.PageLink = Unit {0}
IsUnstyledForm inline.ExternalLink = Unit {0}
IsUnstyledForm inline.Tag = Unit {0}
IsUnstyledForm inline.Break = Unit {0}
IsUnstyledForm inline.AsItStood = Unit {0}

abbrev pub IsUnstyled : ItemTree → Type 0
IsUnstyled (inner h opening ts closing) = IsUnstyledForm (edit_shape h.kind).inline

-- ---- such a node by itself

-- On a line by themselves these items are one such node, neither bold nor italic, and nothing else; and a call gives something in it.
pub record IsRoundCalls (own : List Item) : Type 0 where
  pub tree : ItemTree
  pub is : line_parts own ≡ node tree ∷ []
  pub deep : IsRoundDeep tree
  pub whole : tree_items tree ≡ own
  pub plain : IsUnstyled tree
  pub called : list_all is_page (tree_items tree) ≡ false

-- ---- its calls

-- none of them ends in an open tag
abbrev pub AreShutCalls : List OuterCall → Type 0
AreShutCalls [] = Unit {0}
AreShutCalls (c ∷ cs) = (ends_open c.source ≡ false) × AreShutCalls cs
