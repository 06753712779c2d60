-- What is directly in what, beside separators, marks and what is on a line.
use Rattle.std.specs.Prelude.{◌≡◌, ◌⊎◌, List, [], ◌∷◌}
use Rattle.wt_inline.specs.ItemTree.{ItemTree, inner, ItemTrees, nothing, further}
use Rattle.wt_page_laws.specs.Roles.{Role, outer, lines, list, item, rows, table, row, cell, caption, separator, skipped, other, role, role_of}

-- lists are in an item; captions and one kind of body in a table; blocks in the body, a cell or a caption
abbrev pub holds : Role → List Role
holds outer = lines ∷ list ∷ table ∷ []
holds lines = []
holds list = item ∷ []
holds item = list ∷ []
holds rows = row ∷ []
holds table = caption ∷ rows ∷ []
holds row = cell ∷ []
holds cell = lines ∷ list ∷ table ∷ []
holds caption = lines ∷ list ∷ table ∷ []
holds separator = []
holds skipped = []
holds other = []

abbrev pub IsOneOf : Role → List Role → Type 0
IsOneOf r [] = ⊥
IsOneOf r (q ∷ qs) = (r ≡ q) ⊎ IsOneOf r qs

abbrev pub MayStand : Role → Role → Type 0
MayStand parent r = IsOneOf r (separator ∷ other ∷ holds parent)

-- what is on a line is not looked into
abbrev pub IsHousedBy : Role → Type 0 → Type 0
IsHousedBy outer inside = inside
IsHousedBy lines inside = Unit {0}
IsHousedBy list inside = inside
IsHousedBy item inside = inside
IsHousedBy rows inside = inside
IsHousedBy table inside = inside
IsHousedBy row inside = inside
IsHousedBy cell inside = inside
IsHousedBy caption inside = inside
IsHousedBy separator inside = Unit {0}
IsHousedBy skipped inside = Unit {0}
IsHousedBy other inside = Unit {0}

-- each child may be there, and so on below
abbrev mutual
  pub IsHoused : ItemTree → Type 0
  IsHoused (inner h opening ts closing) = IsHousedBy (role h.kind) (AreHoused (role h.kind) ts)

  pub AreHoused : Role → ItemTrees → Type 0
  AreHoused parent nothing = Unit {0}
  AreHoused parent (further t ts) = MayStand parent (role_of t) × IsHoused t × AreHoused parent ts
