-- What is gathered of a tree to compare its plain view: the characters, and the brackets among them.
use Rattle.std.specs.Prelude.{◌≡◌, ℕ, List, ◌++◌, length, map}
use Rattle.wt_tree.specs.declared.compare.Shown.{Shown}
use Rattle.wt_tree.specs.declared.compare.Bracket.{Bracket as Mark}
use Rattle.wt_tree.specs.declared.compare.Bracket.TheVariants.{Open, Close}
use Rattle.wt_tree.specs.declared.node.Node.{out-Node}
use Rattle.wt_tree.specs.Plain.{face}
use Rattle.wt_tree.specs.Stream.{Bracket, opens, closes, StreamToken, signs, bytes_in, brackets_in}
use Rattle.wt_tree.specs.Tree.{Tree}
use Rattle.wt_tree.specs.View.{label_of}

abbrev pub bracket_of : Mark → ℕ × Bracket
bracket_of (Open place node) = (place, opens (face (label_of (out-Node node.now))))
bracket_of (Close place) = (place, closes)

abbrev pub brackets_of : List Mark → List (ℕ × Bracket)
brackets_of ms = map bracket_of ms

-- these signs are added at the end
pub record Adds (old new : Shown) (signs : List StreamToken) : Type 0 where
  pub text : new.text.items ≡ old.text.items ++ bytes_in signs
  pub brackets : brackets_of new.brackets.items ≡ brackets_of old.brackets.items ++ brackets_in (length old.text.items) signs

-- what is gathered of a whole tree
pub record IsShownOf (t : Tree) (shown : Shown) : Type 0 where
  pub text : shown.text.items ≡ bytes_in (signs t)
  pub brackets : brackets_of shown.brackets.items ≡ brackets_in 0 (signs t)
