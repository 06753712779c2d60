-- What the lines of a paragraph are as its parts.
use Rattle.std.specs.Prelude.{None, List, [], ◌∷◌, ◌++◌}
use Rattle.wt_span.specs.Characters as byte
use Rattle.wt_span.specs.Items.{Item, char}
use Rattle.wt_tree.specs.declared.kind.Kind.TheVariants as kind
use Rattle.wt_inline.specs.declared.loose.Loose.TheVariants.{Text}
use Rattle.wt_inline.specs.ItemTree.{plain, ItemTree, inner, forest}
use Rattle.wt_inline.specs.Parts.{Part, parts, children}
use Rattle.wt_context.specs.Line.{line_parts}

-- the line break between two lines
abbrev pub break : Item
break = char None byte.line_break

-- the parts of lines, with a line break before each
abbrev pub after_breaks : List (List Item) → List Part
after_breaks [] = []
after_breaks (l ∷ ls) = parts Text (break ∷ []) ++ (line_parts l ++ after_breaks ls)

-- the same with one between each two
abbrev pub joined_parts : List (List Item) → List Part
joined_parts [] = []
joined_parts (l ∷ ls) = line_parts l ++ after_breaks ls

-- a paragraph with these parts
abbrev pub para_with : List Part → ItemTree
para_with ps = inner (plain kind.Para) [] (forest (children ps)) []
