-- A page that is one paragraph of such text takes any other such text: `edit` answers it.
use Rattle.std.proofs.Common.{◌≡◌, ℕ, ◌≤◌, true, Option, Some, None, List, [], ◌∷◌, length, sym, ap, ◌∙◌, subst}
use Rattle.std.specs.Str.{chars}
use Rattle.wt_span.specs.declared.limits.TheConstants.{HTML_BYTES, PAGE_BYTES}
use Rattle.wt_devices.specs.Device.{Pages}
use Rattle.wt_tree.specs.Tree.{Label}
use Rattle.wt_annotated.specs.Annotated.{annotated}
use Rattle.wt_annotated.specs.GroupData.{group_data}
use Rattle.wt_sections.specs.Sections.{with_sections}
use Rattle.wt_schema.specs.Read.{page as as_page, read}
use Rattle.wt_page_round_trip.specs.PageTree.{expanded_tree, page_tree}
use Rattle.wt_edit.specs.Edits.{refusal_of_page}
use Rattle.wt_commands.specs.declared.command.Command.TheVariants.{Edit}
use Rattle.wt_commands.specs.Words.{command_of}
use Rattle.wt_commands.specs.Answers.{done, edit_to, edit_of, answer_told}
use Rattle.wt_text_edit_laws.specs.PlainTexts.{are_text_lines, IsPlainText}
use Rattle.wt_text_edit_laws.specs.LonePages.{lone_page}
use Rattle.wt_text_edit_laws.specs.LoneEdits.{sent, typed_in}
use Rattle.wt_text_edit_laws.proofs.Texts.PlainBytes.{plain_bytes}
use Rattle.wt_text_edit_laws.proofs.Texts.PlainPages.{plain_expanded, plain_unrefused}
use Rattle.wt_text_edit_laws.proofs.Texts.PlainMeaning.{meaning_is}
use Rattle.wt_text_edit_laws.proofs.Texts.LoneTrees.{lone_tree}
use Rattle.wt_text_edit_laws.proofs.Texts.PlainSpelling.{plain_spelled}
use Rattle.wt_text_edit_laws.proofs.Texts.TakesAnyText.{takes_any, edit_takes_any, command_takes_any, plain_typed}

-- ---- the page

tree_is : (pages : Pages) (b : ℕ) (bs : List ℕ) → IsPlainText (b ∷ bs) → page_tree pages (b ∷ bs) ≡ lone_page (b ∷ bs)
tree_is pages b bs h =
    ap expanded_tree (plain_expanded pages b bs (plain_bytes (b ∷ bs) h))
    ∙ ap (λ t. with_sections (annotated [] (group_data []) t)) (meaning_is b bs h)
    ∙ lone_tree b bs

unrefused : (pages : Pages) (b : ℕ) (bs : List ℕ) → IsPlainText (b ∷ bs) → refusal_of_page pages (b ∷ bs) ≡ None
unrefused pages b bs h = plain_unrefused pages b bs (plain_bytes (b ∷ bs) h)

-- such a text isn't empty
no_lines : are_text_lines true (chars []) ≡ true → ⊥
unfolding chars
no_lines e = cc

none_empty : IsPlainText [] → ⊥
none_empty h = no_lines h.lines

pub tree_of_plain : (pages : Pages) (page : List ℕ) → IsPlainText page → page_tree pages page ≡ lone_page page
tree_of_plain pages [] h = absurd (none_empty h)
tree_of_plain pages (b ∷ bs) h = tree_is pages b bs h

pub plain_unrefused_page : (pages : Pages) (page : List ℕ) → IsPlainText page → refusal_of_page pages page ≡ None
plain_unrefused_page pages [] h = absurd (none_empty h)
plain_unrefused_page pages (b ∷ bs) h = unrefused pages b bs h

-- ---- the edit

-- it is spelled as it stands
typed_plain : (page text : List ℕ) → IsPlainText text → typed_in page text ≡ text
typed_plain page text h = plain_spelled page text h

typed_short : (page text : List ℕ) (n : ℕ) → IsPlainText text → length text ≤ n → length (typed_in page text) ≤ n
typed_short page text n h le = subst (λ bs. length bs ≤ n) (sym (typed_plain page text h)) le

pub takes_text : (pages : Pages) (page text : List ℕ) (b p t : Label) → IsPlainText page → IsPlainText text → length text ≤ PAGE_BYTES
    → edit_to pages page (sent b p t text) ≡ done text
takes_text pages page text b p t g h le =
    takes_any pages page text b p t (plain_typed page g) h.utf8 (typed_short page text PAGE_BYTES h le) ∙ ap done (typed_plain page text h)

pub edit_takes_text : (pages : Pages) (page text input : List ℕ) (b p t : Label) (unsourced : Option ℕ) → IsPlainText page → IsPlainText text
    → length page ≤ PAGE_BYTES → length text ≤ PAGE_BYTES → length input ≤ HTML_BYTES → read input ≡ as_page (sent b p t text) unsourced
    → edit_of pages (Some page) input ≡ done text
edit_takes_text pages page text input b p t unsourced g h short le small is =
    edit_takes_any pages page text input b p t unsourced (plain_typed page g) h.utf8 short (typed_short page text PAGE_BYTES h le) small is
    ∙ ap done (typed_plain page text h)

pub command_takes_text : (pages : Pages) (words : List (List ℕ)) (title page text input : List ℕ) (b p t : Label) (unsourced : Option ℕ)
    → command_of words ≡ Some (Edit title) → pages title ≡ Some page → IsPlainText page → IsPlainText text
    → length page ≤ PAGE_BYTES → length text ≤ PAGE_BYTES → length input ≤ HTML_BYTES → read input ≡ as_page (sent b p t text) unsourced
    → answer_told (Some pages) (Some input) words ≡ Some (done text)
command_takes_text pages words title page text input b p t unsourced command found g h short le small is =
    command_takes_any pages words title page text input b p t unsourced command found (plain_typed page g) h.utf8 short
    (typed_short page text PAGE_BYTES h le) small is
    ∙ ap (λ bs. Some (done bs)) (typed_plain page text h)
