-- The lines of a content of text that is typed and nodes that stay: of each sign by itself, cut where a line break is typed.
use Rattle.std.specs.Prelude.{◌≡◌, ℕ, ◌==◌, List, [], ◌∷◌, ◌++◌, All, if◌then◌else◌}
use Rattle.std.specs.Char.{IsScalar}
use Rattle.wt_span.specs.Characters as byte
use Rattle.wt_span.specs.Items.{Item}
use Rattle.wt_guards.specs.Content.{ContentSign, letter, thing}
use Rattle.wt_guards.specs.Guards.{Setting, is_guarded}
use Rattle.wt_guards.specs.Letters.{is_escaped}
use Rattle.wt_lines.specs.declared.kind.LineKind.TheVariants as kind
use Rattle.wt_lines.specs.Kinds.{line_kind}
use Rattle.wt_lines.specs.Lines.{IsUnbroken}
use Rattle.wt_page.specs.Rows.{marks_len}
use Rattle.wt_beside_laws.specs.NodeItems.{node_items}
use Rattle.wt_beside_laws.specs.Content.{guard_items, letter_items}

-- what is typed are characters
abbrev pub AreCharacters : List ContentSign → Type 0
AreCharacters [] = Unit {0}
AreCharacters (letter c ∷ after) = IsScalar c × AreCharacters after
AreCharacters (thing t ∷ after) = AreCharacters after

-- no node goes on over the end of its line
abbrev pub AreUnbroken : List ContentSign → Type 0
AreUnbroken [] = Unit {0}
AreUnbroken (letter c ∷ after) = AreUnbroken after
AreUnbroken (thing t ∷ after) = IsUnbroken (node_items t.source) × AreUnbroken after

-- from a place on up to the end of its line
abbrev pub line_items : Setting → List ContentSign → List ContentSign → List Item
line_items s before [] = guard_items (is_guarded s before [])
line_items s before (letter c ∷ after) =
    guard_items (is_guarded s before (letter c ∷ after))
    ++ (if c == byte.line_break then [] else letter_items (is_escaped s.within s.place before c after) c ++ line_items s (letter c ∷ before) after)
line_items s before (thing t ∷ after) = guard_items (is_guarded s before (thing t ∷ after)) ++ (node_items t.source ++ line_items s (thing t ∷ before) after)

-- the lines behind it
abbrev pub later_lines : Setting → List ContentSign → List ContentSign → List (List Item)
later_lines s before [] = []
later_lines s before (letter c ∷ after) =
    if c == byte.line_break then line_items s (letter c ∷ before) after ∷ later_lines s (letter c ∷ before) after
    else later_lines s (letter c ∷ before) after
later_lines s before (thing t ∷ after) = later_lines s (thing t ∷ before) after

abbrev pub content_lines : Setting → List ContentSign → List (List Item)
content_lines s signs = line_items s [] signs ∷ later_lines s [] signs

-- it is a line of text where so many tables are open
abbrev pub IsLineOfText : ℕ → List Item → Type 0
IsLineOfText tables line = line_kind tables line ≡ kind.Text

-- each of them is, and the first begins with no mark
abbrev pub AreLinesOfText : ℕ → List (List Item) → Type 0
AreLinesOfText tables [] = Unit {0}
AreLinesOfText tables (l ∷ ls) = (marks_len l ≡ 0) × All (IsLineOfText tables) (l ∷ ls)
