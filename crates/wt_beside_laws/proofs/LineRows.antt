-- The lines of a content as the rows of a paragraph.
use Rattle.std.proofs.Common.{arith, ◌≡◌, ℕ, ◌==◌, Bool, true, false, None, List, [], ◌∷◌, ◌++◌, map, refl, sym, ap, ◌∙◌, subst, append-nil, append_assoc}
use Rattle.std.specs.Prelude.{if◌then◌else◌, encode_utf8}
use Rattle.std.proofs.lemmas.Bool.Decides.{nat_tests}
use Rattle.wt_span.specs.Items.{Item, char}
use Rattle.wt_span.proofs.RunLaws.{runs_are}
use Rattle.wt_guards.specs.Content.{ContentSign, letter, thing}
use Rattle.wt_guards.specs.Guards.{Setting, is_guarded}
use Rattle.wt_guards.specs.Letters.{is_escaped}
use Rattle.wt_lines.specs.Lines.{lines, full_lines, content, empty_end, goes_on, IsUnbroken}
use Rattle.wt_lines.proofs.FullLines.{same_lines}
use Rattle.wt_inline.specs.declared.loose.Loose.TheVariants.{Text}
use Rattle.wt_inline.specs.Parts.{Part, parts}
use Rattle.wt_context.specs.Line.{line_parts}
use Rattle.wt_page.specs.Texts.{para_parts}
use Rattle.wt_text_edit_laws.proofs.Texts.PlainRows.{text_row}
use Rattle.wt_beside_laws.specs.Content.{guard_items, letter_items, content_items}
use Rattle.wt_beside_laws.specs.Lines.{AreUnbroken}
use Rattle.wt_text_edit_laws.specs.ParagraphParts.{after_breaks, joined_parts}
use Rattle.wt_beside_laws.proofs.LineItems.{break_items}
use Rattle.wt_text_edit_laws.proofs.Paragraphs.LineBlocks.{OwnBreaks, chars_own, row_parts}
use Rattle.wt_beside_laws.specs.NodeItems.{node_items}

abbrev break : Item
break = char None 10

pub own_both : (xs ys : List Item) → OwnBreaks xs → OwnBreaks ys → OwnBreaks (xs ++ ys)
own_both [] ys h k = k
own_both (x ∷ xs) ys h k = (h.0, own_both xs ys h.1 k)

pub rows_parts : (xs l : List Item) (ls : List (List Item)) → OwnBreaks xs → empty_end xs ≡ [] → lines xs ≡ l ∷ ls
    → para_parts (map text_row (full_lines xs)) ≡ joined_parts (l ∷ ls)
rows_parts xs l ls o e i =
    row_parts (full_lines xs) xs (runs_are goes_on xs) o
    ∙ ap joined_parts (sym (append-nil (map content (full_lines xs))) ∙ sym (ap (λ ms. map content (full_lines xs) ++ ms) e) ∙ sym (same_lines xs) ∙ i)

-- ---- those of a content

pub unbroken_own : (xs : List Item) → IsUnbroken xs → OwnBreaks xs
unbroken_own [] u = tt
unbroken_own (x ∷ xs) u = ((λ e. let no : true ≡ false = sym e ∙ u.0 in cc), unbroken_own xs u.1)

pub guard_own : (u : Bool) → OwnBreaks (guard_items u)
guard_own true = ((λ e. cc), tt)
guard_own false = tt

pub letter_own : (e : Bool) (c : ℕ) → OwnBreaks (letter_items e c)
letter_own true c = ((λ e. cc), tt)
letter_own false c = chars_own (encode_utf8 c)

pub content_own : (s : Setting) (before signs : List ContentSign) → AreUnbroken signs → OwnBreaks (content_items s before signs)
content_own s before [] u = guard_own (is_guarded s before [])
content_own s before (letter c ∷ after) u =
    let e = is_escaped s.within s.place before c after in
    own_both (guard_items (is_guarded s before (letter c ∷ after))) (letter_items e c ++ content_items s (letter c ∷ before) after)
    (guard_own (is_guarded s before (letter c ∷ after)))
    (own_both (letter_items e c) (content_items s (letter c ∷ before) after) (letter_own e c) (content_own s (letter c ∷ before) after u))
content_own s before (thing t ∷ after) u =
    own_both (guard_items (is_guarded s before (thing t ∷ after))) (node_items t.source ++ content_items s (thing t ∷ before) after)
    (guard_own (is_guarded s before (thing t ∷ after)))
    (own_both (node_items t.source) (content_items s (thing t ∷ before) after) (unbroken_own (node_items t.source) u.0) (content_own s (thing t ∷ before) after u.1))

pub later_by : (t : Bool) (l : List Item) (ls : List (List Item)) (own more : List Part) → line_parts l ≡ own → after_breaks ls ≡ more
    → after_breaks (if t then l ∷ ls else ls) ≡ (if t then parts Text (break ∷ []) ++ (own ++ more) else more)
later_by true l ls own more e f = ap (λ ps. parts Text (break ∷ []) ++ (ps ++ after_breaks ls)) e ∙ ap (λ ps. parts Text (break ∷ []) ++ (own ++ ps)) f
later_by false l ls own more e f = f

-- a line and what follows it
pub both_by : (t : Bool) (own line later all : List Part) → (t ≡ true → own ≡ parts Text (break ∷ [])) → line ++ later ≡ all
    → (if t then [] else own ++ line) ++ (if t then parts Text (break ∷ []) ++ (line ++ later) else later) ≡ own ++ all
both_by true own line later all i e = ap (λ ps. parts Text (break ∷ []) ++ ps) e ∙ ap (λ ps. ps ++ all) (sym (i refl))
both_by false own line later all i e = append_assoc own line later ∙ ap (λ ps. own ++ ps) e

pub break_parts : (s : Setting) (before : List ContentSign) (c : ℕ) (after : List ContentSign) → (c == 10) ≡ true
    → parts Text (letter_items (is_escaped s.within s.place before c after) c) ≡ parts Text (break ∷ [])
break_parts s before c after e =
    let is : 10 ≡ c = grind (arith, nat_tests, e) in
    subst (λ (k : ℕ). parts Text (letter_items (is_escaped s.within s.place before k after) k) ≡ parts Text (break ∷ [])) is
    (ap (parts Text) (break_items s.within s.place before after))
