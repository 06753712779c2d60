-- The first child of two bodies in which their plain views differ.
use Rattle.std.specs.Prelude.{◌≡◌, ◌≢◌, ◌≤◌, ◌<◌, ℕ, suc, Bool, true, false, ◌&&◌, Option, Some, None, List, [], ◌∷◌, ◌++◌, length, take, slice_get, if◌then◌else◌}
use Rattle.std.specs.Str.{bytes_eq}
use Rattle.wt_tree.specs.Plain.{Plain, text, element, Plains, ended, along, plains_before}
use Rattle.wt_tree.specs.Tree.{Tree, tree}
use Rattle.wt_visible.specs.SameNodes.{same_face}

abbrev pub listed : Plains → List Plain
listed ended = []
listed (along p ps) = p ∷ listed ps

-- what a body shows, child by child: elements, and texts joined with their neighbours
abbrev pub shown_children : Tree → List Plain
shown_children (tree l ts) = listed (plains_before ts ended)

-- They are one, or this child, counted from 1, is the first in which they differ: one of them has none there, or another one.
pub record Differs (xs ys : List Plain) (k : ℕ) : Type 0 where
  pub before : ℕ
  pub is : k ≡ suc before
  pub same : take before xs ≡ take before ys
  pub differs : slice_get xs before ≢ slice_get ys before

abbrev pub IsFirstDiffering : List Plain → List Plain → Option ℕ → Type 0
IsFirstDiffering xs ys None = xs ≡ ys
IsFirstDiffering xs ys (Some k) = Differs xs ys k

-- ---- how they are found

-- these, then what follows
abbrev pub followed : List Plain → Plains → Plains
followed [] ps = ps
followed (q ∷ qs) ps = along q (followed qs ps)

-- these, and after them a text that has ended, where it isn't empty
abbrev pub closed : List Plain → List ℕ → List Plain
closed qs [] = qs
closed qs (b ∷ bs) = qs ++ text (b ∷ bs) ∷ []

-- So many of the first ones are the same in both, and no more: one of the lists ends there, or another one follows.
pub record IsCommonLen (xs ys : List Plain) (n : ℕ) : Type 0 where
  pub same : take n xs ≡ take n ys
  pub left : n ≤ length xs
  pub right : n ≤ length ys
  pub differs : n < length xs → n < length ys → slice_get xs n ≢ slice_get ys n

-- ---- the same, to be computed

-- whether two plain views are one
abbrev mutual
  pub same_plain : Plain → Plain → Bool
  same_plain (text bs) (text cs) = bytes_eq bs cs
  same_plain (text bs) (element g qs) = false
  same_plain (element f ps) (text cs) = false
  same_plain (element f ps) (element g qs) = same_face f g && same_plains ps qs

  pub same_plains : Plains → Plains → Bool
  same_plains ended ended = true
  same_plains ended (along q qs) = false
  same_plains (along p ps) ended = false
  same_plains (along p ps) (along q qs) = same_plain p q && same_plains ps qs

-- the number of the first place in which two lists differ, where the first place of all has the number `at`
abbrev pub differing : ℕ → List Plain → List Plain → Option ℕ
differing at [] [] = None
differing at [] (y ∷ ys) = Some at
differing at (x ∷ xs) [] = Some at
differing at (x ∷ xs) (y ∷ ys) = if same_plain x y then differing (suc at) xs ys else Some at
