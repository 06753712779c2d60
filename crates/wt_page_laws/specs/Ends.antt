-- Where separators are: between the members of a list or a table, after an open delimiter that nothing follows on its line, and at
-- the ends of the body and of a table; and at no end of any other node.
use Rattle.std.specs.Prelude.{◌≡◌, Bool, false, List, [], ◌∷◌}
use Rattle.std.specs.List.{AllByRecursion}
use Rattle.wt_inline.specs.ItemTree.{ItemTree, inner, ItemTrees, nothing, further}
use Rattle.wt_page_laws.specs.Roles.{Role, outer, lines, list, item, rows, table, row, cell, caption, separator, skipped, other, role, role_of, is_separator, is_between}

-- of each child whether its role passes a test
abbrev pub tested : (Role → Bool) → ItemTrees → List Bool
tested test nothing = []
tested test (further t ts) = test (role_of t) ∷ tested test ts

-- the first and the last of several; of none that they are not
abbrev pub first_is : List Bool → Bool
first_is [] = false
first_is (b ∷ bs) = b

abbrev pub last_is : Bool → List Bool → Bool
last_is b [] = b
last_is b (c ∷ bs) = last_is c bs

abbrev pub BeginsWithMember : ItemTrees → Type 0
BeginsWithMember ts = first_is (tested is_between ts) ≡ false

abbrev pub EndsWithMember : ItemTrees → Type 0
EndsWithMember ts = last_is false (tested is_between ts) ≡ false

-- the last child is no separator
abbrev pub EndsWithNone : ItemTrees → Type 0
EndsWithNone ts = last_is false (tested is_separator ts) ≡ false

-- no child is one
abbrev pub HasNone : ItemTrees → Type 0
HasNone ts = AllByRecursion (λ b. b ≡ false) (tested is_separator ts)

-- By what a node is, where its children are so. What is on a line is not looked into. (A mark may end the line of an item or a
-- cell, and so the item or the cell.)
abbrev pub IsTightBy : Role → ItemTrees → Type 0 → Type 0
IsTightBy outer ts inside = inside
IsTightBy lines ts inside = HasNone ts
IsTightBy list ts inside = BeginsWithMember ts × EndsWithMember ts × inside
IsTightBy item ts inside = EndsWithNone ts × inside
IsTightBy rows ts inside = BeginsWithMember ts × EndsWithMember ts × inside
IsTightBy row ts inside = EndsWithMember ts × inside
IsTightBy table ts inside = inside
IsTightBy cell ts inside = EndsWithNone ts × inside
IsTightBy caption ts inside = EndsWithNone ts × inside
IsTightBy separator ts inside = Unit {0}
IsTightBy skipped ts inside = Unit {0}
IsTightBy other ts inside = Unit {0}

-- No list and no body of a table begins or ends with a separator or a mark, no row ends with one, no item or cell ends with a
-- separator, and none is in a paragraph, a heading or preformatted text.
abbrev mutual
  pub IsTight : ItemTree → Type 0
  IsTight (inner h opening ts closing) = IsTightBy (role h.kind) ts (AreTight ts)

  pub AreTight : ItemTrees → Type 0
  AreTight nothing = Unit {0}
  AreTight (further t ts) = IsTight t × AreTight ts
