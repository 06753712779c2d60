-- Which of two styles that hold a byte is the inner one, by the toggles nearest to the byte.
use Rattle.std.specs.Prelude.{◌≡◌, ℕ, ◌+◌, ◌<◌, ◌≤◌, ◌&&◌, Bool, false, not, Option, Some, List, IfSome, if◌then◌else◌, slice_get}
use Rattle.std.specs.List.{AllPairs}
use Rattle.std.specs.Option.{option_map_or}
use Rattle.wt_quotes.specs.declared.chunk.Chunk.{Chunk}
use Rattle.wt_quotes.specs.declared.toggle.Toggle.{Toggle}
use Rattle.wt_quotes.specs.declared.style.Style.{Style}
use Rattle.wt_quotes.specs.Toggles.{toggles_of, width_of}
use Rattle.wt_quotes.specs.Turns.{start_of}
use Rattle.wt_quotes.specs.Styles.{style_tree_of}

-- the byte lies between the style's delimiters
abbrev pub Holds : ℕ → Style → Type 0
Holds p s = (s.from + s.open_w ≤ p) × (p + s.close_w < s.to)

-- a style lies between the delimiters of another one
abbrev pub LiesIn : Style → Style → Type 0
LiesIn u s = (s.from + s.open_w ≤ u.from) × (u.to + s.close_w ≤ s.to)

-- The toggle in the list's place i is the last one before the byte, and the next one comes after it.
abbrev pub IsLastBefore : List Chunk → ℕ → ℕ → Toggle → Type 0
IsLastBefore chunks p i t =
    (slice_get (toggles_of chunks) i ≡ Some t) × (start_of chunks t + width_of t ≤ p)
    × IfSome (slice_get (toggles_of chunks) (i + 1)) (λ next. p < start_of chunks next)

-- Where bold and italic both hold a byte, whether bold is inside, by the last toggle before the byte and the next one. A last toggle
-- of one style alone began the inner one. Where it began both, the inner one is the one that the next toggle ends; bold, where that
-- ends both; italic, where none follows.
abbrev pub is_bold_inside : Toggle → Option Toggle → Bool
is_bold_inside last next = if last.bold && last.italic then option_map_or (λ t. t.bold) next false else last.bold

-- the one style lies in the other, and which of them is bold
abbrev pub IsInside : Bool → Style → Style → Type 0
IsInside bold u s = LiesIn u s × (u.bold ≡ bold) × (s.bold ≡ not bold)

-- of two styles that hold a byte, the later one in preorder lies in the earlier one, and it is bold where the toggles say so
abbrev pub InnerBeganLater : List Chunk → Type 0
InnerBeganLater chunks = (p i : ℕ) (t : Toggle) → IsLastBefore chunks p i t
    → AllPairs (λ s u. Holds p s → Holds p u → IsInside (is_bold_inside t (slice_get (toggles_of chunks) (i + 1))) u s) (style_tree_of chunks)
