-- The plain view as it is read from left to right: characters, and where elements open and close
-- among them. Two plain views are compared by these.
use Rattle.std.specs.Prelude.{ℕ, ◌+◌, List, [], ◌∷◌, ◌++◌, map}
use Rattle.wt_tree.specs.Plain.{Face, face}
use Rattle.wt_tree.specs.declared.kind.Showing.{Showing}
use Rattle.wt_tree.specs.declared.kind.Showing.TheVariants.{Characters, Inside, Nothing, Element}
use Rattle.wt_tree.specs.Kinds.{showing}
use Rattle.wt_tree.specs.Tree.{Label, Tree, tree, Trees, none, more}

pub data Bracket : Type 0 where
  opens : Face → Bracket
  closes : Bracket

pub data StreamToken : Type 0 where
  byte : ℕ → StreamToken
  bracket : Bracket → StreamToken

-- a node by what its kind shows
abbrev pub signs_by : Showing → Label → List StreamToken → List StreamToken
signs_by Characters l held = map byte l.shown
signs_by Inside l held = held
signs_by Nothing l held = []
signs_by Element l held = bracket (opens (face l)) ∷ (held ++ (bracket closes ∷ []))

abbrev mutual
  pub signs : Tree → List StreamToken
  signs (tree l ts) = signs_by (showing l.kind) l (signs_of_all ts)

  pub signs_of_all : Trees → List StreamToken
  signs_of_all none = []
  signs_of_all (more t ts) = signs t ++ signs_of_all ts

-- the characters of a stream
abbrev pub bytes_in : List StreamToken → List ℕ
bytes_in [] = []
bytes_in (byte b ∷ ss) = b ∷ bytes_in ss
bytes_in (bracket k ∷ ss) = bytes_in ss

-- its brackets, each with the number of characters before it; `n` come before the stream
abbrev pub brackets_in : ℕ → List StreamToken → List (ℕ × Bracket)
brackets_in n [] = []
brackets_in n (byte b ∷ ss) = brackets_in (n + 1) ss
brackets_in n (bracket k ∷ ss) = (n, k) ∷ brackets_in n ss
