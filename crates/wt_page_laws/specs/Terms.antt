-- Where a term ends, by a cut of its line that exists.
use Rattle.std.specs.Prelude.{◌≡◌, ◌+◌, ◌==◌, ℕ, false, List, ◌∷◌, ◌++◌, length}
use Rattle.std.specs.List.{AllByRecursion}
use Rattle.wt_span.specs.Items.{Item, sign}
use Rattle.wt_span.specs.Characters as byte
use Rattle.wt_tiles.specs.declared.shape.Shape.{Shape}
use Rattle.wt_tiles.specs.declared.shape.TileKind.TheVariants as kind
use Rattle.wt_tiles.specs.Cutting.{joined}

abbrev pub HasNoColon : List Item → Type 0
HasNoColon xs = AllByRecursion (λ x. (sign x == byte.colon) ≡ false) xs

-- a tile that has one in it, if any, is no run of characters
abbrev pub HidesColons : Shape × List Item → Type 0
HidesColons (w, xs) = w.kind ≡ kind.Chars → HasNoColon xs

-- so many items come before a `:` among the characters of these tiles, and before it none among characters
pub record IsFirstColon (n : ℕ) (ts : List (Shape × List Item)) : Type 0 where
  pub before : List (Shape × List Item)
  pub shape : Shape
  pub front : List Item
  pub colon : Item
  pub back : List Item
  pub after : List (Shape × List Item)
  pub cut : ts ≡ before ++ (shape, front ++ colon ∷ back) ∷ after
  pub characters : shape.kind ≡ kind.Chars
  pub is_colon : sign colon ≡ byte.colon
  pub none_in_front : HasNoColon front
  pub none_before : AllByRecursion HidesColons before
  pub place : n ≡ length (joined before) + length front
