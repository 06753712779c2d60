-- A content without styles: what it is as the parts of a paragraph or a heading, of each sign by itself.
use Rattle.std.specs.Prelude.{◌≡◌, ◌==◌, false, List, [], ◌∷◌, ◌++◌, if◌then◌else◌}
use Rattle.wt_span.specs.Characters as byte
use Rattle.wt_guards.specs.declared.role.Role.{Role}
use Rattle.wt_guards.specs.declared.role.Role.TheVariants.{Link, External, Bare, Switch, Toggle, Mark, Group, Function, Node}
use Rattle.wt_guards.specs.Content.{ContentSign, letter, thing}
use Rattle.wt_guards.specs.Guards.{Setting, is_guarded}
use Rattle.wt_guards.specs.Letters.{is_escaped}
use Rattle.wt_inline.specs.declared.loose.Loose.TheVariants.{Text}
use Rattle.wt_inline.specs.Parts.{Part, parts}
use Rattle.wt_context.specs.Line.{line_parts}
use Rattle.wt_beside_laws.specs.NodeItems.{node_items}
use Rattle.wt_beside_laws.specs.Content.{AreKept, guard_items, letter_items}
use Rattle.wt_beside_laws.specs.Led.{AreMarksLed}
use Rattle.wt_beside_laws.specs.Lines.{AreCharacters, AreUnbroken}
use Rattle.wt_beside_laws.specs.Nodes.{AreNodes, AllMeet}
use Rattle.wt_beside_laws.specs.Unjoined.{AllUnjoined}

-- it is no style delimiter
abbrev pub IsFlat : Role → Type 0
IsFlat Link = Unit {0}
IsFlat External = Unit {0}
IsFlat (Bare ends) = Unit {0}
IsFlat Switch = Unit {0}
IsFlat Toggle = ⊥
IsFlat (Mark ends began) = Unit {0}
IsFlat (Group g) = Unit {0}
IsFlat Function = Unit {0}
IsFlat Node = Unit {0}

abbrev pub AreFlat : List ContentSign → Type 0
AreFlat [] = Unit {0}
AreFlat (letter c ∷ after) = AreFlat after
AreFlat (thing t ∷ after) = IsFlat t.role × AreFlat after

-- What its reading hangs on, in a paragraph or a heading.
pub record IsReadIn (s : Setting) (signs : List ContentSign) : Type 0 where
  pub within : s.within ≡ false
  pub kept : AreKept signs
  pub nodes : AreNodes signs
  pub unjoined : AllUnjoined s [] signs
  pub led : AreMarksLed s.place signs

-- Such a content of a paragraph or a heading: text that is typed, and nodes that stay, each read so whatever is written behind it, on one line
-- each, and beside each other as they may stand in a page.
pub record IsFlatContent (s : Setting) (signs : List ContentSign) : Type 0 where
  pub of_block : s.within ≡ false
  pub characters : AreCharacters signs
  pub kept : AreKept signs
  pub nodes : AreNodes signs
  pub unbroken : AreUnbroken signs
  pub flat : AreFlat signs
  pub led : AreMarksLed s.place signs
  pub meet : AllMeet s [] signs []

-- ---- what it is

-- Characters, references and the nowikis that are put are what they are anywhere, and a node is what its source is on a line by itself.
abbrev pub content_parts : Setting → List ContentSign → List ContentSign → List Part
content_parts s before [] = parts Text (guard_items (is_guarded s before []))
content_parts s before (letter c ∷ after) =
    parts Text (guard_items (is_guarded s before (letter c ∷ after)))
    ++ (parts Text (letter_items (is_escaped s.within s.place before c after) c) ++ content_parts s (letter c ∷ before) after)
content_parts s before (thing t ∷ after) =
    parts Text (guard_items (is_guarded s before (thing t ∷ after))) ++ (line_parts (node_items t.source) ++ content_parts s (thing t ∷ before) after)

-- those up to the end of the line
abbrev pub line_content : Setting → List ContentSign → List ContentSign → List Part
line_content s before [] = parts Text (guard_items (is_guarded s before []))
line_content s before (letter c ∷ after) =
    parts Text (guard_items (is_guarded s before (letter c ∷ after)))
    ++ (if c == byte.line_break then [] else parts Text (letter_items (is_escaped s.within s.place before c after) c) ++ line_content s (letter c ∷ before) after)
line_content s before (thing t ∷ after) =
    parts Text (guard_items (is_guarded s before (thing t ∷ after))) ++ (line_parts (node_items t.source) ++ line_content s (thing t ∷ before) after)
