-- The characters of `Shown`, by their bytes.
use Rattle.std.specs.Prelude.{ℕ, List}
use Rattle.wt_tree.specs.declared.shown.Characters.{Characters}
use Rattle.wt_tree.specs.declared.shown.Characters.TheVariants as characters

abbrev pub bytes_shown : Characters → List ℕ
bytes_shown (characters.Written t) = t.now
bytes_shown (characters.Made s) = s
