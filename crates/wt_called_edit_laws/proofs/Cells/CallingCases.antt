-- A worked case of a paragraph that holds a call, by computing it: what it gives, that it is a content in its folder, and that it is a block of a page.
use Rattle.std.proofs.Common.{◌≡◌, inr, ℕ, Some, None, List, [], ◌∷◌, refl, sym, subst, inl}
use Rattle.std.specs.Prelude.{codes, if◌then◌else◌}
use Rattle.std.specs.Str.{bytes_eq, is_utf8, chars, IsUtf8}
use Rattle.std.specs.Str.Lossy.{utf8_valid_len}
use Rattle.std.proofs.lemmas.List.Elements.{All-nil, All-cons}
use Rattle.std.proofs.lemmas.Str.{IsUtf8-nil}
use lib.Utf8.{encode}
use Rattle.wt_span.specs.Comments.{comment_len, comment_line_len}
use Rattle.wt_span.specs.Entities.{entity_at, named_entity, decimal_entity, hex_entity, entity_names}
use Rattle.wt_span.specs.Tags.{raw_len, opening_tag, tag_after, closing_tag, with_inside, is_extension, include_at}
use Rattle.wt_span.specs.Items.{Item, char}
use Rattle.wt_span.specs.Lexemes.{sign_word, form_at, closed, words}
use Rattle.wt_span.specs.Braces.{rewritten, reduced, parts_of}
use Rattle.wt_lines.specs.declared.kind.LineKind.TheVariants as line
use Rattle.wt_lines.specs.Kinds.{kind_of_signs, line_kind}
use Rattle.wt_names.specs.Good.{is_forbidden, is_allowed, has_signature, is_step, begins_with_step, holds_step, ends_with_step, is_good, read_text}
use Rattle.wt_names.specs.Namespace.{name_of, image, is_called, namespace_named, prefix_of, full_name_of}
use Rattle.wt_names.specs.Reading.{whole_in, cut_namespace, title_in}
use Rattle.wt_names.specs.Written.{link_to}
use Rattle.wt_expand.specs.PageItems.{page_items}
use Rattle.wt_expand.specs.Texts.{trimmed, trimmed_items, name_text}
use Rattle.wt_expand.specs.Targets.{title_in_target, title_of_target, is_function, called}
use Rattle.wt_expand.specs.Templates.{begins_only, ends_only, template_text}
use Rattle.wt_expand.specs.Work.{Pages}
use Rattle.wt_expand.specs.Expansion.{text_members, most_templates, absent_text, loop_text, depth_text}
use Rattle.wt_expand.specs.PageCalls.{page_stretches}
use Rattle.wt_part_laws.specs.Expanded.{part_items, GivesAnywhere}
use Rattle.wt_part_laws.proofs.ExpandedBoth.{plain_anywhere}
use Rattle.wt_text_edit_laws.specs.BlockSpots.{BlockSpot}
use Rattle.wt_text_edit_laws.specs.Paragraphs.{IsSeenLine}
use Rattle.wt_text_edit_laws.specs.ReadContents.{IsReadContent}
use Rattle.wt_text_edit_laws.specs.TextBlocks.{a_paragraph}
use Rattle.wt_text_edit_laws.proofs.Cuts.Seen.{stands_begins}
use Rattle.wt_called_edit_laws.specs.CalledContents.{AreTextItems}
use Rattle.wt_called_edit_laws.specs.CallingBlocks.{IsContentIn, spots_with_calls, items_past, AreCallingBlocks}
use Rattle.wt_called_edit_laws.specs.InCells.{AreTextLines}
use Rattle.wt_called_edit_laws.specs.ItemSpots.{ArePlaced}
use Rattle.wt_called_edit_laws.specs.Parts.{calls_to, calls_past, AreCalled}
use Rattle.wt_called_edit_laws.proofs.Cells.AnyCases.{a_spot}

-- `Template:T` is a word, and no other page is there
abbrev a_word : Pages
a_word full = if bytes_eq full (codes "Template:T") then Some (codes "w") else None

abbrev written : List ℕ
written = codes "a {{t}}."

abbrev given : ℕ → List Item
given i = char None 97 ∷ char None 32 ∷ char (Some i) 119 ∷ char None 46 ∷ []

-- the call's word is an item of it, whatever its number is
items_are : (i : ℕ) → part_items a_word i written ≡ given i
unfolding words closed form_at comment_len comment_line_len raw_len opening_tag tag_after closing_tag with_inside is_extension
    include_at entity_at named_entity decimal_entity hex_entity entity_names sign_word reduced rewritten parts_of text_members trimmed
    trimmed_items name_text called most_templates is_function title_of_target title_in_target read_text is_allowed is_forbidden
    is_good has_signature is_step begins_with_step holds_step ends_with_step name_of image is_called namespace_named prefix_of
    full_name_of whole_in cut_namespace title_in template_text begins_only ends_only loop_text depth_text absent_text
    utf8_valid_len is_utf8 chars encode link_to page_stretches
items_are i = refl

written_utf8 : IsUtf8 written
unfolding encode
written_utf8 = (written, (refl, refl))

-- the call is read as characters
is_read : IsReadContent a_paragraph written
unfolding page_items words closed form_at comment_len comment_line_len raw_len opening_tag tag_after closing_tag with_inside include_at entity_at named_entity
    decimal_entity hex_entity entity_names sign_word
is_read = record {
  utf8 = written_utf8;
  ended = refl;
  unended = refl;
  begins = stands_begins written (record { uncommented = refl }) (record { uncommented = refl }) refl refl;
}

anywhere : GivesAnywhere a_word written
unfolding words closed form_at comment_len comment_line_len raw_len opening_tag tag_after closing_tag with_inside is_extension include_at entity_at named_entity
    decimal_entity hex_entity entity_names sign_word reduced rewritten
anywhere = plain_anywhere a_word written tt

is_text : (i : ℕ) → AreTextItems (given i)
unfolding kind_of_signs
is_text i = record {
  seen = All-cons IsSeenLine (given i) [] refl (All-nil IsSeenLine);
  unled = refl;
  own_breaks = ((λ e. absurd (cc)), ((λ e. absurd (cc)), ((λ e. absurd (cc)), ((λ e. absurd (cc)), tt))));
}

stays_text : (i : ℕ) → AreTextLines 0 (given i)
unfolding kind_of_signs
stays_text i = All-cons (λ l. line_kind 0 l ≡ line.Text) (given i) [] refl (All-nil (λ l. line_kind 0 l ≡ line.Text))

-- So it is a content in this folder.
pub content_here : IsContentIn a_word a_paragraph written
content_here = record {
  read = is_read;
  anywhere = anywhere;
  items = λ i. refl;
  is = λ i. subst AreTextItems (sym (items_are i)) (is_text i);
}

-- ---- and the page of it alone is a page with a paragraph that calls

abbrev blocks_here : List BlockSpot
blocks_here = a_spot [] written ∷ []

called_here : AreCalled a_word blocks_here []
unfolding page_items words closed form_at comment_len comment_line_len raw_len opening_tag tag_after closing_tag with_inside is_extension include_at entity_at
    named_entity decimal_entity hex_entity entity_names sign_word reduced rewritten
called_here = (
  record { led = inl tt; before_utf8 = IsUtf8-nil; block = is_read },
  (record { uncommented = refl }, IsUtf8-nil, tt),
  record { end_before = (refl, inr tt, tt); anywhere = (anywhere, tt); apart = tt },
)

nothing : (i : ℕ) → part_items a_word i [] ≡ []
unfolding words closed text_members page_stretches reduced
nothing i = refl

placed_here : ArePlaced (spots_with_calls a_word 0 blocks_here) (items_past a_word 0 blocks_here [])
placed_here =
    let P : List Item → List Item → List Item → Type 0 = λ before xs behind. ArePlaced (record { before = before; block = a_paragraph; content = xs } ∷ []) behind in
    let n : ℕ = calls_past a_word 0 (a_spot [] written) in
    let at : ℕ = calls_to a_word 0 (a_spot [] written) in
    let own : P [] (given at) [] = ((is_text at, record { whole = inl refl; in_cells = tt; apart = tt }, inl (stays_text at)), tt) in
    subst (λ before. P before (part_items a_word at written) (part_items a_word n [])) (sym (nothing 0))
    (subst (λ xs. P [] xs (part_items a_word n [])) (sym (items_are at)) (subst (λ behind. P [] (given at) behind) (sym (nothing n)) own))

-- So it is one of those of which the tree is told.
in_class : AreCallingBlocks a_word blocks_here []
in_class = record { called = called_here; contents = (content_here, tt); placed = placed_here }
