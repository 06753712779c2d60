-- The new page of an edit: the page with slices of it replaced, and what is outside them.
use Rattle.std.specs.Prelude.{◌≡◌, ℕ, ◌-◌, ◌≤◌, List, [], ◌∷◌, ◌++◌, length, take, drop, map, zip, IsCharBoundary}
use Rattle.std.specs.List.{AllByRecursion}

-- A slice of the page, by its first byte and the byte after its last one, and what is in its place in the new page.
pub record Change : Type 0 where
  pub start : ℕ
  pub end : ℕ
  pub by : List ℕ

-- the bytes of a text from one place up to another
abbrev pub between : ℕ → ℕ → List ℕ → List ℕ
between start end bytes = take (end - start) (drop start bytes)

-- both ends of each slice are places of the page between its characters
abbrev pub AreAtBorders : List ℕ → List Change → Type 0
AreAtBorders page cs = AllByRecursion (λ c. IsCharBoundary page c.start × IsCharBoundary page c.end) cs

-- The page from a place on, with these changes in it.
abbrev pub spliced_from : List ℕ → ℕ → List Change → List ℕ
spliced_from page at [] = drop at page
spliced_from page at (c ∷ cs) = between at c.start page ++ (c.by ++ spliced_from page c.end cs)

unfoldable pub spliced : List ℕ → List Change → List ℕ
spliced page cs = spliced_from page 0 cs

-- The slices lie in the page in this order, and none begins before the one before it ends.
abbrev pub AreApart : ℕ → List Change → ℕ → Type 0
AreApart at [] size = at ≤ size
AreApart at (c ∷ cs) size = (at ≤ c.start) × (c.start ≤ c.end) × AreApart c.end cs size

-- ---- what is outside

-- Texts, each with what is after it, and a last text.
abbrev pub woven : List (List ℕ × List ℕ) → List ℕ → List ℕ
woven [] last = last
woven ((outside, inside) ∷ ps) last = outside ++ (inside ++ woven ps last)

-- Both pages are the same texts in the same order: between them the page has its slices, and the new page what is in their
-- place.
pub record OutsideStands (page new : List ℕ) (cs : List Change) : Type 0 where
  pub outside : List (List ℕ)
  pub last : List ℕ
  pub one_before_each : length outside ≡ length cs
  pub was : woven (zip outside (map (λ c. between c.start c.end page) cs)) last ≡ page
  pub is : woven (zip outside (map (λ c. c.by) cs)) last ≡ new
