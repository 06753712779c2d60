-- Blocks of lines that are read one by one: paragraphs and preformatted text; rules.
use Rattle.std.specs.Prelude.{List, [], ◌∷◌, ◌++◌, take, drop}
use Rattle.wt_tree.specs.declared.kind.Kind.TheVariants as kind
use Rattle.wt_span.specs.Items.{Item}
use Rattle.wt_inline.specs.declared.loose.Loose.TheVariants.{Text}
use Rattle.wt_inline.specs.ItemTree.{plain, ItemTree, leaf, inner, forest}
use Rattle.wt_inline.specs.Parts.{Part, node, parts, children}
use Rattle.wt_context.specs.Line.{line_parts}
use Rattle.wt_page.specs.Rows.{Row, first_lead, last_ending}
use Rattle.wt_page.specs.Stretches.{Stretch, gap, tree_block}

-- a block of rows: what comes before the first and what ends the last lie outside it
abbrev pub with_separators : ItemTree → List Row → List Stretch
with_separators t rs = gap (first_lead rs) ∷ tree_block t ∷ gap (last_ending rs) ∷ []

-- what later lines of a block hold, each read so, with the line break before each as text
abbrev pub later_parts : (Row → List Part) → List Item → List Row → List Part
later_parts read break [] = []
later_parts read break (r ∷ rs) = parts Text break ++ (read r ++ later_parts read r.ending rs)

-- ---- a paragraph: the marks before its first line lie outside, those before a later line in it

abbrev pub later_line : Row → List Part
later_line r = line_parts (r.lead ++ r.items)

abbrev pub para_parts : List Row → List Part
para_parts [] = []
para_parts (r ∷ rs) = line_parts r.items ++ later_parts later_line r.ending rs

unfoldable pub para : List Row → ItemTree
para rs = inner (plain kind.Para) [] (forest (children (para_parts rs))) []

-- ---- preformatted text: the first space of the first line is its open delimiter, and that of each later line is a leaf by itself

abbrev pub skipped : Row → ItemTree
skipped r = leaf (plain kind.Skip) (take 1 r.items)

abbrev pub later_pre : Row → List Part
later_pre r = parts Text r.lead ++ (node (skipped r) ∷ line_parts (drop 1 r.items))

abbrev pub pre_opening : List Row → List Item
pre_opening [] = []
pre_opening (r ∷ rs) = take 1 r.items

abbrev pub pre_parts : List Row → List Part
pre_parts [] = []
pre_parts (r ∷ rs) = line_parts (drop 1 r.items) ++ later_parts later_pre r.ending rs

unfoldable pub pre : List Row → ItemTree
pre rs = inner (plain kind.Pre) (pre_opening rs) (forest (children (pre_parts rs))) []

-- ---- a rule, by its run of `-`

unfoldable pub rule : List Item → ItemTree
rule run = leaf (plain kind.Rule) run
