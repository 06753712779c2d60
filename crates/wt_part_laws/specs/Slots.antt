-- Rows of a page with places for paragraphs and headings among them, in cells, too.
use Rattle.std.specs.Prelude.{◌≡◌, ◌<◌, ℕ, Bool, true, false, List, [], ◌∷◌, ◌++◌, length}
use Rattle.wt_span.specs.Items.{Item}
use Rattle.wt_lines.specs.declared.kind.LineKind.{LineKind}
use Rattle.wt_lines.specs.declared.kind.LineKind.TheVariants as line
use Rattle.wt_tables.specs.Parts.{begins_part}
use Rattle.wt_inline.specs.ItemTree.{ItemTree}
use Rattle.wt_inline.specs.Parts.{children}
use Rattle.wt_page.specs.Headings.{heading}
use Rattle.wt_page.specs.Rows.{Row}
use Rattle.wt_page.specs.Texts.{para}
use Rattle.wt_page.specs.Body.{body_parts}
use Rattle.wt_part_laws.specs.Rounds.{AreTexts, IsHeading}
use Rattle.wt_part_laws.specs.Frames.{Frames, trees_at, all_places, content, AreFrames}

-- ---- where a block may be

-- For each open table, the innermost first: whether the last line that begins a part of it is one of cells or of a caption.
abbrev pub top_is : Bool → List Bool → List Bool
top_is b [] = []
top_is b (c ∷ cs) = b ∷ cs

abbrev pub past_top : List Bool → List Bool
past_top [] = []
past_top (c ∷ cs) = cs

-- behind a row of this kind
abbrev pub open_behind : List Bool → LineKind → List Bool
open_behind bs line.Blank = bs
open_behind bs line.TableOpen = false ∷ bs
open_behind bs line.TableEnd = past_top bs
open_behind bs line.Caption = top_is true bs
open_behind bs line.Row = top_is false bs
open_behind bs line.Cell = top_is true bs
open_behind bs line.Header = top_is true bs
open_behind bs line.Heading = bs
open_behind bs line.Rule = bs
open_behind bs line.List = bs
open_behind bs line.Pre = bs
open_behind bs line.Text = bs

abbrev pub AllTrue : List Bool → Type 0
AllTrue [] = Unit {0}
AllTrue (b ∷ bs) = (b ≡ true) × AllTrue bs

-- ---- rows and places

-- a row, or a place for a paragraph or a heading, with its number and the separators before and behind the block
pub data Slot : Type 0 where
  a_row : Row → Slot
  a_paragraph : ℕ → List Item → List Item → Slot
  a_heading : ℕ → List Item → List Item → Slot

abbrev pub rows_at : (ℕ → List Row) → List Slot → List Row
rows_at p [] = []
rows_at p (a_row r ∷ ss) = r ∷ rows_at p ss
rows_at p (a_paragraph n a b ∷ ss) = p n ++ rows_at p ss
rows_at p (a_heading n a b ∷ ss) = p n ++ rows_at p ss

abbrev pub numbers_of : List Slot → List ℕ
numbers_of [] = []
numbers_of (a_row r ∷ ss) = numbers_of ss
numbers_of (a_paragraph n a b ∷ ss) = n ∷ numbers_of ss
numbers_of (a_heading n a b ∷ ss) = n ∷ numbers_of ss

-- a block that is one heading
pub record IsHeadingRow (lead ending : List Item) (rs : List Row) (t : ItemTree) : Type 0 where
  pub row : Row
  pub one : rs ≡ row ∷ []
  pub is : IsHeading lead ending row
  pub tree : heading row.items ≡ t

-- at each place are rows of its block, which make this tree
abbrev pub AreAt : List Slot → (ℕ → List Row) → (ℕ → ItemTree) → Type 0
AreAt [] p t = Unit {0}
AreAt (a_row r ∷ ss) p t = AreAt ss p t
AreAt (a_paragraph n a b ∷ ss) p t = AreTexts a b (p n) × (para (p n) ≡ t n) × AreAt ss p t
AreAt (a_heading n a b ∷ ss) p t = IsHeadingRow a b (p n) (t n) × AreAt ss p t

-- ---- what is asked of them

-- Each place is in a body or in cells, each row that ends a table or begins a part of one has a table, and none is open behind the last.
abbrev pub AreInCells : List Bool → List Slot → Type 0
AreInCells bs [] = bs ≡ []
AreInCells bs (a_row r ∷ ss) =
    (r.kind ≡ line.TableEnd → 0 < length bs) × (begins_part r.kind ≡ true → 0 < length bs) × AreInCells (open_behind bs r.kind) ss
AreInCells bs (a_paragraph n a b ∷ ss) = AllTrue bs × AreInCells bs ss
AreInCells bs (a_heading n a b ∷ ss) = AllTrue bs × AreInCells bs ss

-- the first isn't text
abbrev pub BeginsApart : List Slot → Type 0
BeginsApart [] = Unit {0}
BeginsApart (a_row r ∷ ss) = r.kind ≡ line.Text → ⊥
BeginsApart (a_paragraph n a b ∷ ss) = ⊥
BeginsApart (a_heading n a b ∷ ss) = Unit {0}

-- no text is beside the place of a paragraph
abbrev pub AreApart : List Slot → Type 0
AreApart [] = Unit {0}
AreApart (a_row r ∷ []) = Unit {0}
AreApart (a_row r ∷ a_row s ∷ ss) = AreApart (a_row s ∷ ss)
AreApart (a_row r ∷ a_paragraph n a b ∷ ss) = (r.kind ≡ line.Text → ⊥) × AreApart (a_paragraph n a b ∷ ss)
AreApart (a_row r ∷ a_heading n a b ∷ ss) = AreApart (a_heading n a b ∷ ss)
AreApart (a_paragraph n a b ∷ ss) = BeginsApart ss × AreApart ss
AreApart (a_heading n a b ∷ ss) = AreApart ss

-- no more tables are open than may be
abbrev pub AreFew : ℕ → List Bool → List Slot → Type 0
AreFew most bs [] = Unit {0}
AreFew most bs (a_row r ∷ ss) = (r.kind ≡ line.TableOpen → length bs < most) × AreFew most (open_behind bs r.kind) ss
AreFew most bs (a_paragraph n a b ∷ ss) = AreFew most bs ss
AreFew most bs (a_heading n a b ∷ ss) = AreFew most bs ss

-- ---- the law

-- Whatever blocks are at the places, they are at the same places of the body's children, in the same order, and all else is the same.
pub record PlacesStand (ss : List Slot) : Type 0 where
  pub frames : Frames
  pub of_cells : AreFrames frames content
  pub in_order : all_places frames ≡ numbers_of ss
  pub stands : (p : ℕ → List Row) (t : ℕ → ItemTree) → AreAt ss p t → children (body_parts (rows_at p ss)) ≡ trees_at t frames
