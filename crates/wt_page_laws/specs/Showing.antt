-- What a plain view shows, and that it has elements alone.
use Rattle.std.specs.Prelude.{ℕ, zero, suc, List, [], ◌++◌}
use Rattle.wt_tree.specs.Plain.{Plain, Plains, text, element, ended, along}

-- the characters that a plain view shows, by their bytes
abbrev mutual
  pub shown_of : Plain → List ℕ
  shown_of (text bs) = bs
  shown_of (element f qs) = shown_of_all qs

  pub shown_of_all : Plains → List ℕ
  shown_of_all ended = []
  shown_of_all (along p ps) = shown_of p ++ shown_of_all ps

abbrev pub count : Plains → ℕ
count ended = zero
count (along p ps) = suc (count ps)

abbrev pub IsElement : Plain → Type 0
IsElement (text bs) = ⊥
IsElement (element f qs) = Unit {0}

-- no text is among these by itself
abbrev pub AreElements : Plains → Type 0
AreElements ended = Unit {0}
AreElements (along p ps) = IsElement p × AreElements ps
