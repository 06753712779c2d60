-- Where a kept node lies in its block, and what it is to its neighbours by that.
use Rattle.std.specs.Prelude.{◌≡◌, ◌≤◌, ◌⊎◌, ◌↔◌, ℕ, ◌+◌, Bool, true, List, [], ◌∷◌, ◌++◌, length, codes}
use Rattle.std.specs.List.{AllByRecursion}
use Rattle.std.specs.Str.Iter.{HasSubslice}
use Rattle.wt_span.specs.Characters as byte
use Rattle.wt_tree.specs.Source.{flat}
use Rattle.wt_tree.specs.Tree.{Tree, label}
use Rattle.wt_guards.specs.declared.role.Role.TheVariants as role
use Rattle.wt_guards.specs.declared.role.Transclusion.{Transclusion}
use Rattle.wt_original.specs.Kept.{Item, character, invisible, KeptNode, items, visible, shown, role_of}

-- The block's source is what comes before the node, the node's and what comes after it, and so are its visible items: that is where the node
-- says that it is.
pub record LiesIn (block : Tree) (f : KeptNode) : Type 0 where
  pub before : List ℕ
  pub after : List ℕ
  pub source : flat block ≡ before ++ (flat f.node ++ after)
  pub start : f.extent.start ≡ length before
  pub end : f.extent.end ≡ length before + length (flat f.node)
  pub seen_before : List Item
  pub seen_after : List Item
  pub seen : visible (items block) ≡ seen_before ++ (visible (items f.node) ++ seen_after)
  pub from : f.extent.from ≡ length seen_before
  pub to : f.extent.to ≡ length seen_before + length (visible (items f.node))

-- it ends with a line break
pub record EndsLine (bytes : List ℕ) : Type 0 where
  pub front : List ℕ
  pub is : bytes ≡ front ++ byte.line_break ∷ []

-- What comes before it in its block is as long as the opening delimiter, or ends with a line break.
abbrev pub BeginsLine : Tree → List ℕ → Type 0
BeginsLine block before = (length before ≡ length (label block).opening) ⊎ EndsLine before

-- A comment or an include tag is known by whether it ends with a line break and whether it begins its line.
pub record IsToldMark (block : Tree) (f : KeptNode) (before : List ℕ) : Type 0 where
  pub ends : Bool
  pub begins : Bool
  pub role : role_of block f.extent f.node ≡ role.Mark ends begins
  pub ending : (ends ≡ true) ↔ EndsLine (flat f.node)
  pub beginning : (begins ≡ true) ↔ BeginsLine block before

-- ---- of items

-- the first is this character
pub record StartsWith (c : ℕ) (xs : List Item) : Type 0 where
  pub rest : List Item
  pub is : xs ≡ character c ∷ rest

-- the last is this character
pub record EndsWith (c : ℕ) (xs : List Item) : Type 0 where
  pub front : List Item
  pub is : xs ≡ front ++ character c ∷ []

-- a space or a tab
abbrev pub IsBlankOne : Item → Type 0
IsBlankOne x = (x ≡ character byte.space) ⊎ (x ≡ character byte.tab)

-- there are some, all of them blank
pub record AreBlank (xs : List Item) : Type 0 where
  pub first : Item
  pub rest : List Item
  pub some : xs ≡ first ∷ rest
  pub all : AllByRecursion IsBlankOne xs

-- they are blank or not seen, up to a line break or the end
pub record AreBlankUp (xs : List Item) : Type 0 where
  pub blanks : List Item
  pub rest : List Item
  pub are : xs ≡ blanks ++ rest
  pub all : AllByRecursion (λ (x : Item). IsBlankOne x ⊎ (x ≡ invisible)) blanks
  pub up_to : (rest ≡ []) ⊎ StartsWith byte.line_break rest

-- ---- a group

-- Of a group this says what it shows: nothing that is seen, blanks alone, two slashes, an apostrophe first or last; and of its place whether it
-- begins its line, whether only blanks come between it and the line's end or the block's closing delimiter, whether that delimiter alone comes
-- after it, and whether it is between equals signs.
pub record IsToldGroup (block : Tree) (f : KeptNode) (l : LiesIn block f) : Type 0 where
  pub told : Transclusion
  pub role : role_of block f.extent f.node ≡ role.Group told
  pub unseen : (told.is_invisible ≡ true) ↔ (visible (items f.node) ≡ [])
  pub blank : (told.is_blank ≡ true) ↔ AreBlank (visible (items f.node))
  pub slashes : (told.slashes ≡ true) ↔ HasSubslice (shown f.node) (codes "//")
  pub opens : (told.opens_with_apostrophe ≡ true) ↔ StartsWith byte.apostrophe (items f.node)
  pub closes : (told.closes_with_apostrophe ≡ true) ↔ EndsWith byte.apostrophe (items f.node)
  pub beginning : (told.began_line ≡ true) ↔ BeginsLine block l.before
  pub line_end : (rest closing : List Item) → l.seen_after ≡ rest ++ closing → length closing ≡ length (label block).closing
      → (told.ended_line ≡ true) ↔ AreBlankUp rest
  pub content_end : length (label block).closing ≤ length (flat block) → (told.ended_content ≡ true) ↔ (length l.after ≡ length (label block).closing)
  pub between : (told.between_equals ≡ true) ↔ (EndsWith byte.equals_sign l.seen_before
      × StartsWith byte.equals_sign (visible (items f.node) ++ l.seen_after))
