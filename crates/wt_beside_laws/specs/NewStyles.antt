-- New bold and italic in a content that is sent.
use Rattle.std.specs.Prelude.{◌≡◌, ◌||◌, Bool, true, false, not}
use Rattle.wt_tree.specs.declared.edit_shape.InlineForm.{InlineForm}
use Rattle.wt_tree.specs.declared.edit_shape.InlineForm.TheVariants as inline
use Rattle.wt_tree.specs.EditShapes.{edit_shape}
use Rattle.wt_tree.specs.Tree.{Label, Tree, tree, Trees, none, more}
use Rattle.wt_content.specs.Content.{has_break}
use Rattle.wt_typed_blocks.specs.Edited.{Pieces, no_pieces, gone, written, kept, around, new_style, sent_pieces}
use Rattle.wt_beside_laws.specs.Nests.{of_style}

-- of a style: it is bold, or else italic
abbrev pub is_bold_form : InlineForm → Bool
is_bold_form inline.Nothing = false
is_bold_form inline.Characters = false
is_bold_form inline.Bold = true
is_bold_form inline.Italic = false
is_bold_form inline.Shown = false
is_bold_form inline.PageLink = false
is_bold_form inline.ExternalLink = false
is_bold_form inline.Tag = false
is_bold_form inline.Break = false
is_bold_form inline.AsItStood = false

abbrev pub is_bold : Label → Bool
is_bold l = is_bold_form (edit_shape l.kind).inline

-- A style of this kind is in these nodes, directly or in the other kind of style.
abbrev pub has_style_by : InlineForm → Bool → Bool → Bool
has_style_by inline.Nothing bold inside = false
has_style_by inline.Characters bold inside = false
has_style_by inline.Bold bold inside = bold || inside
has_style_by inline.Italic bold inside = not bold || inside
has_style_by inline.Shown bold inside = false
has_style_by inline.PageLink bold inside = false
has_style_by inline.ExternalLink bold inside = false
has_style_by inline.Tag bold inside = false
has_style_by inline.Break bold inside = false
has_style_by inline.AsItStood bold inside = false

abbrev mutual
  pub has_style : Bool → Tree → Bool
  has_style bold (tree l ts) = has_style_by (edit_shape l.kind).inline bold (have_style bold ts)

  pub have_style : Bool → Trees → Bool
  have_style bold none = false
  have_style bold (more t us) = has_style bold t || have_style bold us

-- In bold or italic or in neither: a new style is in none of its kind, and none of its kind is in it; and no text that is typed in a style has a
-- line break.
abbrev pub NewStylesNest : Bool → Bool → Pieces → Type 0
NewStylesNest bold italic no_pieces = Unit {0}
NewStylesNest bold italic (gone t ps) = NewStylesNest bold italic ps
NewStylesNest bold italic (written x text ps) = ((bold || italic) ≡ true → has_break text ≡ false) × NewStylesNest bold italic ps
NewStylesNest bold italic (kept t u ps) = NewStylesNest bold italic ps
NewStylesNest bold italic (around l m is ps) = NewStylesNest (is_bold m || bold) (not (is_bold m) || italic) is × NewStylesNest bold italic ps
NewStylesNest bold italic (new_style m is ps) =
    (of_style (is_bold m) bold italic ≡ false) × (have_style (is_bold m) (sent_pieces is) ≡ false)
    × NewStylesNest (is_bold m || bold) (not (is_bold m) || italic) is × NewStylesNest bold italic ps
