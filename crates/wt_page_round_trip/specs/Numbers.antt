-- How many nodes with a number items make.
use Rattle.std.specs.Prelude.{ℕ, ◌+◌, List, [], ◌∷◌}
use Rattle.wt_span.specs.Items.{Item, char, whole}
use Rattle.wt_inline.specs.Parts.{whole_tree}
use Rattle.wt_annotated.specs.Counted.{numbered}

-- a character makes none, and a form those of its own node
abbrev pub makes : Item → ℕ
makes (char o b) = 0
makes (whole f o bs) = numbered (whole_tree f o bs)

abbrev pub makes_all : List Item → ℕ
makes_all [] = 0
makes_all (x ∷ xs) = makes x + makes_all xs
