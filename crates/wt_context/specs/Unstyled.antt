-- What is in a context, its styles taken away, and what is there where apostrophes are read as characters.
use Rattle.std.specs.Prelude.{Bool, true, false, Option, Some, None, List, [], ◌∷◌, ◌++◌}
use Rattle.std.specs.List.{flat_map}
use Rattle.wt_tree.specs.declared.kind.Kind.{Kind}
use Rattle.wt_tree.specs.declared.edit_shape.InlineForm.{InlineForm}
use Rattle.wt_tree.specs.declared.edit_shape.InlineForm.TheVariants as inline
use Rattle.wt_tree.specs.EditShapes.{edit_shape}
use Rattle.wt_span.specs.Items.{Item}
use Rattle.wt_tiles.specs.declared.context.Context.{Context}
use Rattle.wt_tiles.specs.declared.shape.Shape.{Shape}
use Rattle.wt_tiles.specs.Tiles.{tiles}
use Rattle.wt_inline.specs.declared.loose.Loose.TheVariants.{Text}
use Rattle.wt_inline.specs.ItemTree.{ItemTree, ItemTrees, inner, nothing, further}
use Rattle.wt_inline.specs.Parts.{Part, node, parts}
use Rattle.wt_context.specs.Nodes.{Reading, tile_tree}

-- ---- styles taken away

-- a style, bold or else italic; characters; or any other node
pub data Role : Type 0 where
  style : Bool → Role
  characters : Role
  other : Role

abbrev pub role_by : InlineForm → Role
role_by inline.Nothing = other
role_by inline.Characters = characters
role_by inline.Bold = style true
role_by inline.Italic = style false
role_by inline.Shown = other
role_by inline.PageLink = other
role_by inline.ExternalLink = other
role_by inline.Tag = other
role_by inline.Break = other
role_by inline.AsItStood = other

-- by how edits write a node of the kind
abbrev pub role : Kind → Role
role k = role_by (edit_shape k).inline

-- by its role: a node with this opening delimiter, these parts inside, and this closing one
abbrev pub by_role : Role → ItemTree → List Item → List Part → List Item → List Part
by_role (style bold) t opening inside closing = parts Text opening ++ (inside ++ parts Text closing)
by_role characters t opening inside closing = parts Text opening
by_role other t opening inside closing = node t ∷ []

-- A style is what is in it, between its delimiters as characters. A node that is no style stays whole.
abbrev mutual
  pub unstyled : ItemTree → List Part
  unstyled (inner h opening ts closing) = by_role (role h.kind) (inner h opening ts closing) opening (all_unstyled ts) closing

  pub all_unstyled : ItemTrees → List Part
  all_unstyled nothing = []
  all_unstyled (further t ts) = unstyled t ++ all_unstyled ts

-- ---- no style at all

abbrev pub tile_parts : Option ItemTree → List Item → List Part
tile_parts None xs = parts Text xs
tile_parts (Some t) xs = node t ∷ []

abbrev pub tile_part : Reading → Context → Shape × List Item → List Part
tile_part read cx (w, xs) = tile_parts (tile_tree read cx w.kind w xs) xs

-- the tiles of a context as nodes, and characters between them
abbrev pub plain_parts : Reading → Context → List Item → List Part
plain_parts read cx xs = flat_map (tile_part read cx) (tiles cx xs)
