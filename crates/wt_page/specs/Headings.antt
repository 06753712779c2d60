-- Headings: what the line of one is as a tree.
use Rattle.std.specs.Prelude.{List}
use Rattle.wt_tree.specs.declared.kind.Kind.TheVariants as kind
use Rattle.wt_span.specs.Items.{Item}
use Rattle.wt_blocks.specs.Headings.{level, opening, inside, closing}
use Rattle.wt_inline.specs.ItemTree.{plain, ItemTree, inner, forest}
use Rattle.wt_context.specs.Line.{line_trees}

-- of a line without its line break, from its first `=` on
unfoldable pub heading : List Item → ItemTree
heading line = inner (plain (kind.Heading (level line))) (opening line) (forest (line_trees (inside line))) (closing line)
