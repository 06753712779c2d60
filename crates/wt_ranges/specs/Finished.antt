-- What becomes of a placed tree where the next number is this: the tree with its numbers and with its texts cut anew, and the
-- number after it. Of a whole page's tree this is the annotated tree, since texts have no numbers.
use Rattle.std.specs.Prelude.{◌≡◌, ℕ, ◌+◌}
use Rattle.wt_tree.specs.Tree.{Tree, tree, Trees}
use Rattle.wt_annotated.specs.CutTexts.{cut_texts, all_cut_texts}
use Rattle.wt_annotated.specs.Numbering.{number_of, count, count_all, with_id, with_numbers, all_with_numbers}

pub record IsFinished (next : ℕ) (t u : Tree) (behind : ℕ) : Type 0 where
  pub tree_is : u ≡ cut_texts (with_numbers next t)
  pub next_is : behind ≡ next + count t

-- trees that follow one another
pub record AreFinished (next : ℕ) (ts us : Trees) (behind : ℕ) : Type 0 where
  pub trees_are : us ≡ all_cut_texts (all_with_numbers next ts)
  pub next_is : behind ≡ next + count_all ts

-- a number for the node itself, and what it holds as it is
abbrev pub with_number : ℕ → Tree → Tree
with_number next (tree l ts) = tree (with_id (number_of l.kind next) l) ts
