-- A content that is written for a paragraph or a heading: its lines, and how it is read.
use Rattle.std.proofs.Common.{◌≡◌, ℕ, Bool, true, false, None, List, [], ◌∷◌, ◌++◌, refl, sym, ap, ap₂, ◌∙◌, subst, append-nil, All}
use Rattle.std.specs.Prelude.{if◌then◌else◌}
use Rattle.std.specs.Str.{IsUtf8}
use Rattle.wt_span.specs.Items.{Item, char}
use Rattle.wt_tree.specs.declared.edit_shape.Place.{Place}
use Rattle.wt_tree.specs.declared.edit_shape.Place.TheVariants as place
use Rattle.wt_guards.specs.Content.{ContentSign, letter, thing}
use Rattle.wt_guards.specs.Guards.{Setting, spelled}
use Rattle.wt_expand.specs.PageItems.{page_items}
use Rattle.wt_lines.specs.declared.kind.LineKind.TheVariants as line
use Rattle.wt_lines.specs.Kinds.{line_kind}
use Rattle.wt_lines.specs.Lines.{lines}
use Rattle.wt_text_edit_laws.specs.ReadContents.{BeginsUnjoined, StaysUncommented}
use Rattle.wt_text_edit_laws.specs.TextBetween.{StandsBehind}
use Rattle.wt_text_edit_laws.specs.TextBlocks.{TextBlock, a_paragraph, a_heading, source_of, block_items}
use Rattle.wt_text_edit_laws.proofs.Between.Fronts.{ReadsAfter, page_read, behind_reads}
use Rattle.wt_text_edit_laws.proofs.Blocks.BlockReading.{IsBeforeAny, HasFrame, any_front}
use Rattle.wt_text_edit_laws.proofs.Prose.InFront.{Reads, reads_nothing, read_break, read_items}
use Rattle.wt_text_edit_laws.proofs.Prose.Uncommented.{BeginsUncommented}
use Rattle.wt_beside_laws.specs.Calm.{AreUtf8Nodes}
use Rattle.wt_beside_laws.specs.Flat.{IsReadIn}
use Rattle.wt_beside_laws.specs.FlatBlocks.{lines_in}
use Rattle.wt_beside_laws.specs.InHeadings.{AreOnOneLine}
use Rattle.wt_beside_laws.specs.Led.{BeginsUnled}
use Rattle.wt_beside_laws.specs.Lines.{AreLinesOfText, AreCharacters, AreUnbroken, line_items, later_lines, content_lines}
use Rattle.wt_beside_laws.proofs.CalmContents.{guard_utf8, reference_calm}
use Rattle.wt_beside_laws.proofs.FlatAgain.{EachSource, HoldsOfPut}
use Rattle.wt_beside_laws.proofs.LineHeadings.{same_items}
use Rattle.wt_beside_laws.proofs.LineItems.{content_lines_are}
use Rattle.wt_beside_laws.proofs.LineKinds.{lines_are_text, are_lines_of_text}
use Rattle.wt_beside_laws.proofs.FlatLines.{lines_unled}
use Rattle.wt_beside_laws.proofs.Marks.Commented.{content_in, content_alone, content_reads}
use Rattle.wt_page.specs.Rows.{marks_len}

-- ---- a content of a block of this kind

-- it is spelled for such a block, and in a heading it is on one line
abbrev pub FitsIn : TextBlock → Setting → List ContentSign → Type 0
FitsIn a_paragraph s signs = s.place ≡ place.Paragraph
FitsIn (a_heading h) s signs = (s.place ≡ place.Heading) × AreOnOneLine signs

-- ---- its lines

none_later : (s : Setting) (before signs : List ContentSign) → AreOnOneLine signs → later_lines s before signs ≡ []
none_later s before [] o = refl
none_later s before (letter c ∷ after) o =
    ap (λ (t : Bool). if t then line_items s (letter c ∷ before) after ∷ later_lines s (letter c ∷ before) after else later_lines s (letter c ∷ before) after) o.0
    ∙ none_later s (letter c ∷ before) after o.1
none_later s before (thing t ∷ after) o = none_later s (thing t ∷ before) after o

pub lines_by : (k : TextBlock) (s : Setting) (signs : List ContentSign) → IsReadIn s signs → AreUnbroken signs → FitsIn k s signs
    → lines_in k (spelled s signs) ≡ content_lines s signs
lines_by a_paragraph s signs kept unbroken fits = content_lines_are s signs kept unbroken
lines_by (a_heading h) s signs kept unbroken fits =
    ap₂ (λ (l : List Item) (ls : List (List Item)). l ∷ ls) (content_alone s signs kept ∙ sym (same_items s [] signs fits.1)) (sym (none_later s [] signs fits.1))

-- ---- how it is read

content_line : (s : Setting) (signs : List ContentSign) → IsReadIn s signs → (rest : List ℕ) (xs : List Item) → BeginsUnjoined rest → Reads rest xs
    → ReadsAfter false (spelled s signs ++ rest) (page_items (spelled s signs) ++ xs)
content_line s signs k rest xs j r =
    subst (λ (ys : List Item). ReadsAfter false (spelled s signs ++ rest) (ys ++ xs)) (sym (content_alone s signs k)) (content_in s signs k rest xs j r)

content_front : (s : Setting) (signs : List ContentSign) → s.place ≡ place.Paragraph → IsReadIn s signs → (rest : List ℕ) (xs : List Item) → BeginsUnjoined rest
    → Reads rest xs → Reads (spelled s signs ++ rest) (page_items (spelled s signs) ++ xs)
content_front s signs e k rest xs j r =
    subst (λ (ys : List Item). Reads (spelled s signs ++ rest) (ys ++ xs)) (sym (content_alone s signs k)) (content_reads s signs e k rest xs j r)

pub before_any : (k : TextBlock) (s : Setting) (signs : List ContentSign) → FitsIn k s signs → IsReadIn s signs → IsBeforeAny k (spelled s signs)
before_any a_paragraph s signs f k rest xs j r = content_front s signs f k rest xs j r
before_any (a_heading h) s signs f k rest xs j r = content_line s signs k rest xs j r

stands : (bs : List ℕ) → BeginsUncommented bs → StandsBehind bs
stands bs h = record { uncommented = h.is }

pub uncommented : (k : TextBlock) (s : Setting) (signs : List ContentSign) (rest : List ℕ) → FitsIn k s signs → IsReadIn s signs → StandsBehind rest → BeginsUnjoined rest
    → StaysUncommented k (spelled s signs) rest
uncommented a_paragraph s signs rest f k b j =
    let r : Reads (spelled s signs ++ rest) (page_items (spelled s signs) ++ page_items rest) = content_front s signs f k rest (page_items rest) j (behind_reads rest b) in
    stands (spelled s signs ++ rest) r.begins
uncommented (a_heading h) s signs rest f k b j = tt

pub firm : (s : Setting) (signs : List ContentSign) (rest : List ℕ) → IsReadIn s signs → StandsBehind rest → BeginsUnjoined rest
    → page_items (spelled s signs ++ rest) ≡ page_items (spelled s signs) ++ page_items rest
firm s signs rest k b j =
    page_read (spelled s signs ++ rest) (page_items (spelled s signs) ++ page_items rest) (content_line s signs k rest (page_items rest) j (behind_reads rest b))

-- in its block
pub ended_so : (k : TextBlock) (q : List ℕ) → HasFrame k → IsBeforeAny k q → page_items (source_of k q ++ 10 ∷ []) ≡ block_items k q ++ char None 10 ∷ []
ended_so k q f b =
    read_items (source_of k q ++ 10 ∷ []) (block_items k q ++ char None 10 ∷ [])
    (any_front k q (10 ∷ []) (char None 10 ∷ []) f b refl (read_break [] [] reads_nothing))

pub unended_so : (k : TextBlock) (q : List ℕ) → HasFrame k → IsBeforeAny k q → page_items (source_of k q) ≡ block_items k q
unended_so k q f b =
    ap page_items (sym (append-nil (source_of k q)))
    ∙ read_items (source_of k q ++ []) (block_items k q ++ []) (any_front k q [] [] f b tt reads_nothing)
    ∙ append-nil (block_items k q)

-- ---- which lines these are

pub texts_by : (n : ℕ) (s : Setting) (signs : List ContentSign) → IsReadIn s signs → AreCharacters signs → AreUnbroken signs
    → All (λ l. line_kind n l ≡ line.Text) (lines (page_items (spelled s signs)))
texts_by n s signs k typed unbroken =
    subst (All (λ l. line_kind n l ≡ line.Text)) (sym (content_lines_are s signs k unbroken)) (lines_are_text n s signs k.within typed k.nodes)

pub unled_by : (s : Setting) (signs : List ContentSign) → s.place ≡ place.Paragraph → IsReadIn s signs → AreCharacters signs → AreUnbroken signs
    → marks_len (page_items (spelled s signs)) ≡ 0
unled_by s signs e k typed unbroken =
    lines_unled 0 (page_items (spelled s signs))
    (subst (AreLinesOfText 0) (sym (content_lines_are s signs k unbroken)) (are_lines_of_text 0 s signs k.within (subst (λ (p : Place). BeginsUnled p signs) e k.led.first) typed k.nodes))

-- ---- what holds of its sources

pub from_utf8 : (signs : List ContentSign) → AreUtf8Nodes signs → EachSource IsUtf8 signs
from_utf8 [] h = tt
from_utf8 (letter c ∷ after) h = from_utf8 after h
from_utf8 (thing t ∷ after) h = (h.0, from_utf8 after h.1)

pub to_utf8 : (signs : List ContentSign) → EachSource IsUtf8 signs → AreUtf8Nodes signs
to_utf8 [] h = tt
to_utf8 (letter c ∷ after) h = to_utf8 after h
to_utf8 (thing t ∷ after) h = (h.0, to_utf8 after h.1)

pub put_utf8 : HoldsOfPut IsUtf8
put_utf8 = record { of_nowiki = guard_utf8 true; of_reference = λ c e. let r = reference_calm c e in r.utf8 }
