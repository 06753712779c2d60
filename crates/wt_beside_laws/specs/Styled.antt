-- A content with styles: texts and nodes that stay, directly in it and inside of its bold and italic nodes.
use Rattle.std.specs.Prelude.{◌≡◌, ℕ, ◌==◌, ◌&&◌, ◌||◌, Bool, true, false, not, Option, List, [], ◌∷◌, ◌++◌, if◌then◌else◌}
use Rattle.wt_span.specs.Characters as byte
use Rattle.wt_guards.specs.declared.role.Stretch.{Stretch}
use Rattle.wt_guards.specs.Content.{ContentSign, letter, thing}
use Rattle.wt_guards.specs.Guards.{Setting, is_guarded}
use Rattle.wt_guards.specs.Letters.{is_escaped}
use Rattle.wt_link_spelling.specs.Spelling.{toggle}
use Rattle.wt_inline.specs.declared.loose.Loose.TheVariants.{Text}
use Rattle.wt_inline.specs.Parts.{Part, node, parts}
use Rattle.wt_context.specs.Line.{line_parts}
use Rattle.wt_beside_laws.specs.NodeItems.{node_items}
use Rattle.wt_beside_laws.specs.Content.{AreKept, guard_items, letter_items}
use Rattle.wt_beside_laws.specs.Flat.{IsFlat}
use Rattle.wt_beside_laws.specs.Led.{AreMarksLed}
use Rattle.wt_beside_laws.specs.Lines.{AreCharacters, AreUnbroken}
use Rattle.wt_beside_laws.specs.Nests.{style_tree, of_style}
use Rattle.wt_beside_laws.specs.Nodes.{AreNodes, AllMeet}

-- A sign, or a style (bold, or else italic) with what is inside it, before what follows. Of each delimiter it is known where it is in the page,
-- if it is there.
pub data StyledContent : Type 0 where
  finished : StyledContent
  sign : ContentSign → StyledContent → StyledContent
  styled : Bool → Option Stretch → Option Stretch → StyledContent → StyledContent → StyledContent

-- ---- its signs

abbrev pub mark_source : Bool → List ℕ
mark_source true = byte.apostrophe ∷ byte.apostrophe ∷ byte.apostrophe ∷ []
mark_source false = byte.apostrophe ∷ byte.apostrophe ∷ []

abbrev pub delimiter : Bool → Option Stretch → ContentSign
delimiter bold place = toggle (mark_source bold) place

-- before these
abbrev pub signs_before : StyledContent → List ContentSign → List ContentSign
signs_before finished after = after
signs_before (sign c t) after = c ∷ signs_before t after
signs_before (styled bold opening closing inside t) after = delimiter bold opening ∷ signs_before inside (delimiter bold closing ∷ signs_before t after)

abbrev pub signs_in : StyledContent → List ContentSign
signs_in t = signs_before t []

-- from its end to the left, and then these
abbrev pub signs_past : StyledContent → List ContentSign → List ContentSign
signs_past finished before = before
signs_past (sign c t) before = signs_past t (c ∷ before)
signs_past (styled bold opening closing inside t) before = signs_past t (delimiter bold closing ∷ signs_past inside (delimiter bold opening ∷ before))

-- ---- styles that nest

-- no delimiter by itself; in a style no line ends
abbrev pub IsOwnSign : Bool → ContentSign → Type 0
IsOwnSign within (letter c) = within ≡ true → (c == byte.line_break) ≡ false
IsOwnSign within (thing t) = IsFlat t.role

-- in bold or italic or in neither: no style is in one of its kind
abbrev pub AreNested : Bool → Bool → StyledContent → Type 0
AreNested bold italic finished = Unit {0}
AreNested bold italic (sign c t) = IsOwnSign (bold || italic) c × AreNested bold italic t
AreNested bold italic (styled kind opening closing inside t) =
    (of_style kind bold italic ≡ false) × AreNested (kind || bold) (not kind || italic) inside × AreNested bold italic t

-- Such a content of a paragraph: text that is typed and nodes that stay, as in `IsFlatContent`, and styles round them.
pub record IsStyledContent (s : Setting) (t : StyledContent) : Type 0 where
  pub of_block : s.within ≡ false
  pub characters : AreCharacters (signs_in t)
  pub kept : AreKept (signs_in t)
  pub nodes : AreNodes (signs_in t)
  pub unbroken : AreUnbroken (signs_in t)
  pub nested : AreNested false false t
  pub led : AreMarksLed s.place (signs_in t)
  pub meet : AllMeet s [] (signs_in t) []

-- ---- what it is

-- Each style is a node round what is inside it, and everything else is what it is in a content without styles. If so asked, this goes up to the end
-- of the line.
abbrev pub styled_parts : Bool → Setting → List ContentSign → StyledContent → List ContentSign → List Part
styled_parts line s before finished after = parts Text (guard_items (is_guarded s before after))
styled_parts line s before (sign (letter c) t) after =
    parts Text (guard_items (is_guarded s before (letter c ∷ signs_before t after)))
    ++ (if line && c == byte.line_break then [] else
    parts Text (letter_items (is_escaped s.within s.place before c (signs_before t after)) c) ++ styled_parts line s (letter c ∷ before) t after)
styled_parts line s before (sign (thing x) t) after =
    parts Text (guard_items (is_guarded s before (thing x ∷ signs_before t after)))
    ++ (line_parts (node_items x.source) ++ styled_parts line s (thing x ∷ before) t after)
styled_parts line s before (styled bold opening closing inside t) after =
    parts Text (guard_items (is_guarded s before (delimiter bold opening ∷ signs_before inside (delimiter bold closing ∷ signs_before t after))))
    ++ (node (style_tree bold (styled_parts false s (delimiter bold opening ∷ before) inside (delimiter bold closing ∷ signs_before t after)))
    ∷ styled_parts line s (delimiter bold closing ∷ signs_past inside (delimiter bold opening ∷ before)) t after)
