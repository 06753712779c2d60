-- How much of its line an open delimiter takes.
use Rattle.std.specs.Prelude.{◌≡◌, ℕ, Bool, true, false, List, [], ◌∷◌, ◌++◌, map, take, if◌then◌else◌}
use Rattle.std.specs.List.{AllByRecursion}
use Rattle.wt_span.specs.Bytes.{is_blank}
use Rattle.wt_span.specs.Items.{Item, sign}
use Rattle.wt_inline.specs.ItemTree.{ItemTree}
use Rattle.wt_page_laws.specs.Roles.{role_of, is_of_list}
use Rattle.wt_page_laws.specs.Members.{opening_of}

abbrev pub begins_blank : List ℕ → Bool
begins_blank [] = false
begins_blank (s ∷ ss) = is_blank s

-- The line begins with the delimiter, this has the given signs and only blanks after them, and after it is no further blank.
pub record TakesBlanks (first : List ℕ) (delimiter : List Item) (line : List Item) : Type 0 where
  pub blanks : List ℕ
  pub rest : List Item
  pub cut : line ≡ delimiter ++ rest
  pub signs : map sign delimiter ≡ first ++ blanks
  pub all_blank : AllByRecursion (λ s. is_blank s ≡ true) blanks
  pub no_more : begins_blank (map sign rest) ≡ false

-- the delimiters of lists and items among the children of a node
abbrev pub delimiter_of : ItemTree → List (List Item)
delimiter_of t = if is_of_list (role_of t) then opening_of t ∷ [] else []

-- The one item of a line takes its prefix with the blanks after it; a definition after a term takes one sign with those after it.
abbrev pub AreDelimiters : List ℕ → List Item → List (List Item) → Type 0
AreDelimiters prefix line [] = ⊥
AreDelimiters prefix line (d ∷ []) = TakesBlanks prefix d line
AreDelimiters prefix line (d ∷ e ∷ []) =
    TakesBlanks prefix d line × (term : List Item) × (rest : List Item) × (line ≡ d ++ (term ++ rest)) × TakesBlanks (take 1 (map sign rest)) e rest
AreDelimiters prefix line (d ∷ e ∷ f ∷ ds) = ⊥
