-- The inside of a line, and of every other context: its segments, with styles round them.
use Rattle.std.specs.Prelude.{ℕ, zero, suc, ◌+◌, List}
use Rattle.wt_span.specs.Items.{Item}
use Rattle.wt_tiles.specs.declared.context.Context.{Context}
use Rattle.wt_tiles.specs.declared.read.TheConstants.{MOST_PAIRS}
use Rattle.wt_tiles.specs.Contexts.{in_line}
use Rattle.wt_inline.specs.declared.loose.Loose.TheVariants.{Text}
use Rattle.wt_inline.specs.ItemTree.{ItemTree}
use Rattle.wt_inline.specs.Parts.{Part, parts, children}
use Rattle.wt_context.specs.Nodes.{Reading, segments}
use Rattle.wt_context.specs.Styled.{with_styles}

-- one context, where what is inside its tiles is read so
abbrev pub read_by : Reading → Reading
read_by read = λ cx xs. with_styles (segments read cx xs)

-- a context in which so many more may be one inside the other
abbrev pub within : ℕ → Reading
within zero = λ cx xs. parts Text xs
within (suc n) = read_by (within n)

-- A text of a link and `MOST_PAIRS` pairs of tags may be one inside the other in a line: the law `contexts_nest` says that no
-- context is ever read without its inside.
abbrev pub most_contexts : ℕ
most_contexts = MOST_PAIRS + 2

-- the parts of a context
unfoldable pub context_parts : Context → List Item → List Part
context_parts cx xs = within most_contexts cx xs

-- the parts of a line or of a cell
abbrev pub line_parts : List Item → List Part
line_parts xs = context_parts in_line xs

unfoldable pub line_trees : List Item → List ItemTree
line_trees xs = children (line_parts xs)
