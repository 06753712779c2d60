-- The line of a heading of one text.
use Rattle.std.proofs.Common.{ℕ, List, subst, sym, inl, inr}
use Rattle.wt_guards.specs.Content.{letters}
use Rattle.wt_guards.specs.Guards.{spelled}
use Rattle.wt_expand.specs.PageItems.{page_items}
use Rattle.wt_text_edit_laws.specs.TypedHeadings.{Sides, AreSides, IsHeadingText, IsOfLevel}
use Rattle.wt_text_edit_laws.specs.TextBlocks.{a_heading, IsFrame, IsTypedHeading, IsBlock}
use Rattle.wt_text_edit_laws.proofs.Headings.HeadingRows.{apart_level}
use Rattle.wt_text_edit_laws.proofs.Headings.TypedTexts.{typed_heading_text, typed_apart}

typed_is_text : (s : Sides) (q : List ℕ) → IsTypedHeading s q → IsHeadingText (page_items q)
typed_is_text s q h =
    subst (λ (q : List ℕ). IsHeadingText (page_items q)) (sym h.is) (typed_heading_text h.setting h.text h.of_block h.of_heading h.utf8 h.one_line)

pub heading_text : (s : Sides) (q : List ℕ) → IsBlock (a_heading s) q → IsHeadingText (page_items q)
heading_text s q (inl t) = typed_is_text s q t
heading_text s q (inr w) = w.is_text

pub heading_frame : (s : Sides) (q : List ℕ) → IsBlock (a_heading s) q → IsFrame s
heading_frame s q (inl t) = t.frame
heading_frame s q (inr w) = w.frame

pub heading_sides : (s : Sides) (q : List ℕ) → IsBlock (a_heading s) q → AreSides s
heading_sides s q h = let f = heading_frame s q h in f.sides

pub heading_level : (s : Sides) (q : List ℕ) → IsBlock (a_heading s) q → IsOfLevel s (page_items q)
heading_level s q (inl t) =
    subst (λ (q : List ℕ). IsOfLevel s (page_items q)) (sym t.is)
    (apart_level s (page_items (spelled t.setting (letters t.text))) t.frame.sides (typed_apart t.setting t.text s t.of_block t.of_heading t.utf8 t.one_line t.frame.sides))
heading_level s q (inr w) = w.of_level
