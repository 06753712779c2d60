-- The inside of one line: its characters, and a node for each other item.
use Rattle.std.specs.Prelude.{List}
use Rattle.wt_span.specs.Items.{Item}
use Rattle.wt_inline.specs.declared.loose.Loose.TheVariants.{Text}
use Rattle.wt_inline.specs.Parts.{Part, parts}

-- the parts of a line, or of another context that is read alone
abbrev pub inline_parts : List Item → List Part
inline_parts items = parts Text items
