-- The table of kinds, as edits see them: the third row of each kind.
use Rattle.wt_tree.specs.declared.kind.Kind.{Kind}
use Rattle.wt_tree.specs.declared.kind.Kind.TheVariants as kind
use Rattle.wt_tree.specs.declared.edit_shape.ItemsOf.{ItemsOf}
use Rattle.wt_tree.specs.declared.edit_shape.ItemsOf.TheVariants as item
use Rattle.wt_tree.specs.declared.edit_shape.Sort.{Sort}
use Rattle.wt_tree.specs.declared.edit_shape.Sort.TheVariants as sort
use Rattle.wt_tree.specs.declared.edit_shape.InlineForm.{InlineForm}
use Rattle.wt_tree.specs.declared.edit_shape.InlineForm.TheVariants as inline
use Rattle.wt_tree.specs.declared.edit_shape.BlockForm.{BlockForm}
use Rattle.wt_tree.specs.declared.edit_shape.BlockForm.TheVariants as form
use Rattle.wt_tree.specs.declared.edit_shape.Editing.{Editing}
use Rattle.wt_tree.specs.declared.edit_shape.Editing.TheVariants as mark
use Rattle.wt_tree.specs.declared.edit_shape.Place.{Place}
use Rattle.wt_tree.specs.declared.edit_shape.Place.TheVariants as place
use Rattle.wt_tree.specs.declared.edit_shape.EditShape.{EditShape}

abbrev pub edit_row : ItemsOf → Sort → InlineForm → BlockForm → Editing → Place → EditShape
edit_row i s w f m p = record { items = i; sort = s; inline = w; form = f; mark = m; place = p }

-- What items a node of a kind has in an edited block, what it is to its neighbours as it is in the page, how it is written where it
-- is new or changed, what a new block of it is written with, which mark it may have, and what its content is in.
abbrev pub edit_shape : Kind → EditShape
edit_shape kind.Body = edit_row item.Delimited sort.Other inline.AsItStood form.NoBlock mark.Children place.Paragraph
edit_shape (kind.Section n) = edit_row item.Delimited sort.Other inline.AsItStood form.NoBlock mark.Never place.Paragraph
edit_shape kind.Para = edit_row item.Delimited sort.Other inline.AsItStood form.Paragraph mark.Content place.Paragraph
edit_shape (kind.Heading n) = edit_row item.Delimited sort.Other inline.AsItStood (form.Heading n) mark.Content place.Heading
edit_shape kind.Rule = edit_row item.Opaque sort.Other inline.AsItStood form.Rule mark.Never place.Paragraph
edit_shape kind.Ul = edit_row item.Delimited sort.Other inline.AsItStood form.NoBlock mark.TopChildren place.Paragraph
edit_shape kind.Ol = edit_row item.Delimited sort.Other inline.AsItStood form.NoBlock mark.TopChildren place.Paragraph
edit_shape kind.Dl = edit_row item.Delimited sort.Other inline.AsItStood form.NoBlock mark.Never place.Paragraph
edit_shape kind.Li = edit_row item.Delimited sort.Other inline.AsItStood form.Item mark.InlineContent place.Item
edit_shape kind.Dt = edit_row item.Delimited sort.Other inline.AsItStood form.NoBlock mark.InlineContent place.Term
edit_shape kind.Dd = edit_row item.Delimited sort.Other inline.AsItStood form.NoBlock mark.InlineContent place.Item
edit_shape kind.Pre = edit_row item.Delimited sort.Other inline.AsItStood form.NoBlock mark.Never place.Paragraph
edit_shape kind.Table = edit_row item.Delimited sort.Other inline.AsItStood form.NoBlock mark.Never place.Paragraph
edit_shape kind.Tbody = edit_row item.Delimited sort.Other inline.AsItStood form.NoBlock mark.Never place.Paragraph
edit_shape kind.Tr = edit_row item.Delimited sort.Other inline.AsItStood form.NoBlock mark.Never place.Paragraph
edit_shape kind.Caption = edit_row item.Delimited sort.Other inline.AsItStood form.NoBlock mark.InlineContent place.Cell
edit_shape kind.Td = edit_row item.Delimited sort.Other inline.AsItStood form.NoBlock mark.InlineContent place.Cell
edit_shape kind.Th = edit_row item.Delimited sort.Other inline.AsItStood form.NoBlock mark.InlineContent place.Header
edit_shape kind.Bold = edit_row item.Delimited sort.Other inline.Bold form.NoBlock mark.Never place.Paragraph
edit_shape kind.Italic = edit_row item.Delimited sort.Other inline.Italic form.NoBlock mark.Never place.Paragraph
edit_shape kind.WikiLink = edit_row item.Delimited sort.PageLink inline.PageLink form.NoBlock mark.Never place.Paragraph
edit_shape kind.ExtLink = edit_row item.Delimited sort.Url inline.ExternalLink form.NoBlock mark.Never place.Paragraph
edit_shape kind.Category = edit_row item.Opaque sort.Other inline.AsItStood form.NoBlock mark.Never place.Paragraph
edit_shape (kind.Tag t) = edit_row item.Delimited sort.Other inline.Tag form.NoBlock mark.Never place.Paragraph
edit_shape kind.Br = edit_row item.Opaque sort.Other inline.Break form.NoBlock mark.Never place.Paragraph
edit_shape kind.Entity = edit_row item.Opaque sort.Other inline.Shown form.NoBlock mark.Never place.Paragraph
edit_shape kind.Nowiki = edit_row item.Delimited sort.Other inline.Shown form.NoBlock mark.Never place.Paragraph
edit_shape kind.Island = edit_row item.Opaque sort.Island inline.AsItStood form.NoBlock mark.Never place.Paragraph
edit_shape kind.Switch = edit_row item.Opaque sort.Switch inline.AsItStood form.NoBlock mark.Never place.Paragraph
edit_shape kind.Comment = edit_row item.Invisible sort.Mark inline.AsItStood form.NoBlock mark.Never place.Paragraph
edit_shape kind.Include = edit_row item.Invisible sort.Mark inline.AsItStood form.NoBlock mark.Never place.Paragraph
edit_shape kind.Skip = edit_row item.Characters sort.Other inline.AsItStood form.NoBlock mark.Never place.Paragraph
edit_shape kind.Sep = edit_row item.Characters sort.Other inline.Nothing form.NoBlock mark.Never place.Paragraph
edit_shape kind.Text = edit_row item.Characters sort.Other inline.Characters form.NoBlock mark.Never place.Paragraph
edit_shape kind.Group = edit_row item.Nodes sort.Group inline.AsItStood form.NoBlock mark.Never place.Paragraph
edit_shape kind.Empty = edit_row item.Invisible sort.Other inline.AsItStood form.NoBlock mark.Never place.Paragraph
