-- What is written for a block in which texts were typed makes nothing but what was typed, beside the nodes that stay.
use Rattle.std.proofs.Common.{◌≡◌, ◌<◌, ℕ, ◌==◌, Bool, true, false, not, List, [], ◌∷◌, refl, sym, ap, ◌∙◌, subst}
use Rattle.std.specs.Prelude.{◌||◌, if◌then◌else◌}
use Rattle.std.specs.List.{AllByRecursion}
use Rattle.wt_span.specs.Items.{Item}
use Rattle.wt_tree.specs.Tree.{Label, Tree}
use Rattle.wt_guards.specs.Content.{ContentSign, letter, thing}
use Rattle.wt_guards.specs.Guards.{Setting, spelled}
use Rattle.wt_expand.specs.PageItems.{page_items}
use Rattle.wt_lines.specs.Lines.{lines}
use Rattle.wt_part_laws.specs.Standing.{standing}
use Rattle.wt_typed_blocks.specs.Edited.{Pieces}
use Rattle.wt_text_edit_laws.specs.TextBlocks.{TextBlock, block_tree}
use Rattle.wt_beside_laws.specs.ContentEdits.{MakesContent, new_content}
use Rattle.wt_beside_laws.specs.FlatBlocks.{sent_for}
use Rattle.wt_beside_laws.specs.Lines.{line_items, later_lines, content_lines}
use Rattle.wt_beside_laws.specs.Nodes.{AreNodes, AllMeet}
use Rattle.wt_beside_laws.specs.SpelledApart.{HasEvenToggles, IsSpelledApart}
use Rattle.wt_beside_laws.specs.Styled.{StyledContent, finished, sign, styled, delimiter, signs_before, signs_in, signs_past, AreNested, IsStyledContent}
use Rattle.wt_beside_laws.specs.StyledIn.{IsStyledIn, IsStyledEditOf}
use Rattle.wt_beside_laws.proofs.LineItems.{content_lines_are}
use Rattle.wt_beside_laws.proofs.Made.Making.{setting, in_page}
use Rattle.wt_beside_laws.proofs.Made.OldBlocks.{IsIn}
use Rattle.wt_beside_laws.proofs.Marks.Commented.{content_alone}
use Rattle.wt_beside_laws.proofs.Marks.Unjoined.{styled_read}
use Rattle.wt_beside_laws.proofs.Styled.Making.{IsSentWell, sent_well, content_is, own_so, styled_makes}
use Rattle.wt_beside_laws.proofs.Styled.StyledLines.{nodes_behind, within_style, line_even}
use Rattle.wt_beside_laws.proofs.Styled.StyledParagraphs.{none_later, meet_behind}

-- ---- each line

even : (s : Setting) (before : List ContentSign) (t : StyledContent) → AreNodes (signs_before t []) → AreNested false false t
    → AllMeet s before (signs_before t []) [] → HasEvenToggles (line_items s before (signs_before t []))
even s before t n k m = record { bold = line_even true s before t n k m; italic = line_even false s before t n k m }

if_even : (v : Bool) (l : List Item) (ls : List (List Item)) → HasEvenToggles l → AllByRecursion HasEvenToggles ls
    → AllByRecursion HasEvenToggles (if v then l ∷ ls else ls)
if_even true l ls h hs = (h, hs)
if_even false l ls h hs = hs

later_even : (s : Setting) (before : List ContentSign) (t : StyledContent) → AreNodes (signs_before t []) → AreNested false false t
    → AllMeet s before (signs_before t []) [] → AllByRecursion HasEvenToggles (later_lines s before (signs_before t []))
later_even s before finished n k m = tt
later_even s before (sign (letter c) t) n k m =
    let signs : List ContentSign = signs_before t [] in
    if_even (c == 10) (line_items s (letter c ∷ before) signs) (later_lines s (letter c ∷ before) signs) (even s (letter c ∷ before) t n k.1 m.2)
    (later_even s (letter c ∷ before) t n k.1 m.2)
later_even s before (sign (thing x) t) n k m = later_even s (thing x ∷ before) t n.1 k.1 m.2
later_even s before (styled kind opening closing inside t) n k m =
    let first : List ContentSign = delimiter kind opening ∷ before in
    let signs : List ContentSign = signs_before t [] in
    subst (AllByRecursion HasEvenToggles)
    (sym (none_later s (kind || false) (not kind || false) inside first (delimiter kind closing ∷ signs) k.1 (within_style kind false false)))
    (later_even s (delimiter kind closing ∷ signs_past inside first) t (nodes_behind inside (delimiter kind closing ∷ signs) n.1).1 k.2
    (meet_behind s inside first (delimiter kind closing ∷ signs) m.2).2)

lines_even : (s : Setting) (t : StyledContent) → IsStyledContent s t → AllByRecursion HasEvenToggles (content_lines s (signs_in t))
lines_even s t h = (even s [] t h.nodes h.nested h.meet, later_even s [] t h.nodes h.nested h.meet)

-- ---- the new content

apart : (k : TextBlock) (q : List ℕ) (block : Tree) (m : Label) (ps : Pieces) → IsStyledIn k q → IsIn k q block → IsStyledEditOf k block ps
    → MakesContent k q block m ps → IsSpelledApart k block m ps
apart k q block m ps h i e made =
    let w : IsSentWell k q block ps = sent_well k q block ps (own_so k q block h i) h i e in
    let s : Setting = setting k block in
    let t : StyledContent = sent_for block ps in
    let now : List ℕ = new_content k block m ps in
    let is : now ≡ spelled s (signs_in t) = content_is k q block m ps i e w in
    let lines_so : lines (page_items now) ≡ content_lines s (signs_in t) =
    ap (λ (bs : List ℕ). lines (page_items bs)) is ∙ content_lines_are s (signs_in t) (styled_read s t w.is.content) w.is.content.unbroken in
    record {
      setting = s;
      is = is;
      items = ap page_items is ∙ content_alone s (signs_in t) (styled_read s t w.is.content);
      toggles = subst (AllByRecursion HasEvenToggles) (sym lines_so) (lines_even s t w.is.content);
      shows = λ rest. sym (made.shows rest);
    }

pub spelled_apart : (k : TextBlock) (q : List ℕ) (n : ℕ) (before : List Item) (block : Tree) (m : Label) (ps : Pieces) → IsStyledIn k q → 0 < n
    → block ≡ standing n before (block_tree k q) → IsStyledEditOf k block ps → IsSpelledApart k block m ps
spelled_apart k q n before block m ps h some is e =
    apart k q block m ps h (in_page k q n before block some is) e (styled_makes k q n before block m ps h some is e)
