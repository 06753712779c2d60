-- Worked case: the heading `== x{{t}}y ==` of the page, where `Template:T` is a word, with another letter behind its call and none before it: what is sent
-- for it, and what it makes.
use Rattle.std.proofs.Common.{◌≡◌, ◌<◌, ℕ, zero, suc, false, Some, None, List, [], ◌∷◌, arith, refl, sym, ap, ◌∙◌, subst}
use Rattle.wt_text_edit_laws.specs.ReadContents.{IsReadContent}
use Rattle.wt_text_edit_laws.specs.TextBlocks.{a_heading, IsFrame}
use Rattle.wt_text_edit_laws.specs.TypedHeadings.{Sides, spaced, heading_round}
use Rattle.wt_beside_laws.specs.Called.{IsSeenIn, AllSeenIn}
use Rattle.wt_beside_laws.proofs.Groups.Cases.{a_word, call, gives_char, gives_b}
use Rattle.wt_called_edit_laws.specs.CalledEdits.{page_things, ShowsAsGiven, AreChildrenBeside, IsBesideCalls, IsCalledEditOf, MakesContentIn}
use Rattle.wt_called_edit_laws.specs.WrittenAnew.{StayButForOthers}
use Rattle.wt_called_edit_laws.proofs.Beside.Cases.{source, given, shows_word, items_are, pieces, in_pieces, among}
use Rattle.std.specs.Prelude.{codes}
use Rattle.std.specs.Str.{is_utf8, chars, IsUtf8}
use Rattle.std.specs.Str.Lossy.{utf8_valid_len}
use lib.Utf8.{encode}
use Rattle.wt_span.specs.Comments.{comment_len, comment_line_len}
use Rattle.wt_span.specs.Entities.{entity_at, named_entity, decimal_entity, hex_entity, entity_names}
use Rattle.wt_span.specs.Tags.{raw_len, opening_tag, tag_after, closing_tag, with_inside, is_extension, include_at}
use Rattle.wt_span.specs.Lexemes.{words, closed, sign_word, form_at}
use Rattle.wt_span.specs.Braces.{rewritten, reduced, parts_of}
use Rattle.wt_span.specs.Items.{Item}
use Rattle.wt_span.specs.Origins.{OuterCall}
use Rattle.wt_names.specs.Good.{is_forbidden, is_allowed, has_signature, is_step, begins_with_step, holds_step, ends_with_step, is_good, read_text}
use Rattle.wt_names.specs.Namespace.{name_of, image, is_called, namespace_named, prefix_of, full_name_of}
use Rattle.wt_names.specs.Reading.{whole_in, cut_namespace, title_in}
use Rattle.wt_names.specs.Written.{link_to}
use Rattle.wt_tree.specs.declared.kind.Kind.TheVariants as kind
use Rattle.wt_tree.specs.declared.kind.Mark.TheVariants as marks
use Rattle.wt_tree.specs.Plain.{Plains, text_before, plain_before}
use Rattle.wt_tree.specs.Source.{flat}
use Rattle.wt_part_laws.specs.Expanded.{part_items}
use Rattle.wt_tree.specs.Tree.{Label, Tree, tree, Trees, none, more}
use Rattle.wt_original.specs.Kept.{kept_with}
use Rattle.wt_expand.specs.PageItems.{page_items}
use Rattle.wt_expand.specs.PageCalls.{page_stretches, expanded_page}
use Rattle.wt_expand.specs.Texts.{trimmed, trimmed_items, name_text}
use Rattle.wt_expand.specs.Targets.{title_in_target, title_of_target, is_function, called}
use Rattle.wt_expand.specs.Templates.{begins_only, ends_only, template_text}
use Rattle.wt_expand.specs.Expansion.{text_members, most_templates, absent_text, loop_text, depth_text}
use Rattle.wt_annotated.specs.CutTexts.{cut_texts}
use Rattle.wt_inline.specs.Parts.{children}
use Rattle.wt_tiles.specs.Tags.{tag_at, opening_tag as opens_tag, closing_tag as closes_tag}
use Rattle.wt_tiles.specs.Tiles.{form_at as tile_at, link_or_url, tag_tile, switch_at, shapes, closed as closes, tiles}
use Rattle.wt_tiles.specs.Links.{link_at}
use Rattle.wt_tiles.specs.Urls.{scheme_len, ext_link_at, bare_url_at}
use Rattle.wt_context.specs.Chunks.{chunks}
use Rattle.wt_context.specs.Line.{context_parts, line_parts}
use Rattle.wt_context.specs.Nodes.{segments}
use Rattle.wt_context.specs.Segments.{loose_segments}
use Rattle.wt_context.specs.Styled.{with_styles}
use Rattle.wt_annotated.specs.Labels.{label_at}
use Rattle.wt_quotes.specs.Styles.{style_tree_of}
use Rattle.wt_quotes.specs.Toggles.{toggle_at, toggles_of}
use Rattle.wt_link_spelling.specs.Spelling.{children_of, inline_spelling}
use Rattle.wt_guards.specs.Content.{Thing}
use Rattle.wt_guards.specs.Guards.{nowiki, is_guarded, is_between_guard, is_start_guard, is_end_guard, is_blank_guard}
use Rattle.wt_guards.specs.Letters.{is_escaped}
use Rattle.wt_guards.specs.Table.{hazard, line_start_hazard}
use Rattle.wt_part_laws.specs.HeldCalls.{block_in}
use Rattle.wt_typed_blocks.specs.Edited.{Pieces, no_pieces, gone, written, kept}
use Rattle.wt_beside_laws.specs.ContentEdits.{new_content}
use Rattle.wt_beside_laws.specs.OwnSigns.{HaveOwn}
use Rattle.wt_beside_laws.specs.Shown.{parts_shown_at}
use Rattle.wt_called_edit_laws.specs.PageThings.{ArePageThings, thing_sources}
use Rattle.wt_called_edit_laws.specs.SentAsIs.{as_sent}
use Rattle.wt_called_edit_laws.specs.Settled.{settled}
use Rattle.wt_called_edit_laws.proofs.Beside.Making.{calls_make}
use Rattle.wt_called_edit_laws.proofs.Cells.SentAsIs.{stands_as_sent}
use Rattle.wt_called_edit_laws.proofs.Written.Cases.{call_part, call_read, call_sealed, call_shut, call_utf8}

abbrev pub two : Sides
two = spaced 2

abbrev a_call : OuterCall
a_call = record { start = 4; source = codes "{{t}}"; argument = false; parts = (6, 7) ∷ []; equals = None ∷ []; href = None }

-- ---- the page's block

abbrev block_by : List Item → Tree
block_by xs = settled 1 0 (cut_texts (block_in (a_call ∷ []) (heading_round two xs)))

abbrev block : Tree
block = block_by (given 0)

abbrev a_label : Label
a_label = record { id = 0; kind = kind.Text; attrs = []; mw = None; shown = []; mark = marks.Nothing; ranges = None; opening = []; closing = []; own = []; origin = None }

abbrev nth : ℕ → Trees → Tree
nth n none = tree a_label none
nth zero (more t us) = t
nth (suc n) (more t us) = nth n us

abbrev group : Tree
group = nth 1 (children_of block)

abbrev pub own_call : Thing
own_call = record call { place = Some (record { start = 4; end = 9 }) }

things_are : page_things block ≡ own_call ∷ []
unfolding kept_with page_items words closed label_at context_parts chunks segments loose_segments tiles shapes closes tile_at link_or_url link_at ext_link_at bare_url_at scheme_len tag_tile tag_at
    switch_at children with_styles style_tree_of toggles_of toggle_at opens_tag closes_tag
things_are = refl

-- what it gives is no blank and no `=`
pub seen : IsSeenIn a_word own_call
unfolding words closed form_at comment_len comment_line_len raw_len opening_tag tag_after closing_tag with_inside is_extension
    include_at entity_at named_entity decimal_entity hex_entity entity_names sign_word reduced rewritten parts_of text_members trimmed
    trimmed_items name_text called most_templates is_function title_of_target title_in_target read_text is_allowed is_forbidden
    is_good has_signature is_step begins_with_step holds_step ends_with_step name_of image is_called namespace_named prefix_of
    full_name_of whole_in cut_namespace title_in template_text begins_only ends_only loop_text depth_text absent_text
    utf8_valid_len is_utf8 chars encode link_to page_stretches expanded_page
seen = λ i. (refl, refl)

pub of_page : ArePageThings a_word (own_call ∷ [])
of_page = (
  record {
    folder = gives_b;
    read = record { source = call_read.source; begins = refl; ends = refl };
    part = call_part;
    sealed = call_sealed;
    shut = call_shut;
    utf8 = call_utf8;
  },
  tt,
  tt,
)

group_is : (flat group ≡ codes "{{t}}") × ((rest : Plains) → plain_before group rest ≡ text_before (codes "b") rest)
unfolding label_at context_parts chunks segments loose_segments tiles shapes closes tile_at link_or_url link_at ext_link_at bare_url_at scheme_len tag_tile tag_at
    switch_at children with_styles style_tree_of toggles_of toggle_at opens_tag closes_tag
group_is = (refl, λ rest. refl)

group_shows : ShowsAsGiven a_word group
group_shows = λ i rest.
    ap (λ (q : List ℕ). parts_shown_at 0 [] (line_parts (part_items a_word i q)) rest) group_is.0
    ∙ ap (λ (xs : List Item). parts_shown_at 0 [] (line_parts xs) rest) (gives_char i)
    ∙ shows_word i rest
    ∙ sym (group_is.1 rest)

own_nodes : HaveOwn (children_of block) × AreChildrenBeside a_word (children_of block)
unfolding label_at context_parts chunks segments loose_segments tiles shapes closes tile_at link_or_url link_at ext_link_at bare_url_at scheme_len tag_tile tag_at
    switch_at children with_styles style_tree_of toggles_of toggle_at opens_tag closes_tag
own_nodes = (
  (tt, ((λ e. cc), (tt, tt))),
  (
    record { inline = refl; shows = λ n. absurd n },
    (
      record { inline = refl; shows = λ n. group_shows },
      (record { inline = refl; shows = λ n. absurd n }, tt),
    ),
  ),
)

-- ---- it is read so between its `=`

pub frame : IsFrame two
unfolding page_items words closed form_at comment_len comment_line_len raw_len opening_tag closing_tag include_at entity_at named_entity decimal_entity
    hex_entity entity_names sign_word encode
frame = record {
  sides = record { some = omega arith; most = omega arith; lead = (refl, tt); trail = (refl, tt); rest = tt };
  utf8 = ([], (refl, refl));
  stands = record { ends = refl; has_ends = (refl, refl) };
  ended = refl;
}

source_utf8 : IsUtf8 source
unfolding encode
source_utf8 = (source, (refl, refl))

pub read : IsReadContent (a_heading two) source
unfolding page_items words closed form_at comment_len comment_line_len raw_len opening_tag tag_after closing_tag with_inside include_at entity_at named_entity
    decimal_entity hex_entity entity_names sign_word
read = record { utf8 = source_utf8; ended = refl; unended = refl; begins = frame }

pub in_class : IsBesideCalls a_word (a_heading two) source block
in_class = record {
  pieces = pieces;
  is = refl;
  parts = in_pieces;
  own = own_nodes.0;
  children = own_nodes.1;
  things = subst (ArePageThings a_word) (sym things_are) of_page;
  among = subst (λ (ts : List Thing). StayButForOthers a_word pieces (thing_sources ts)) (sym things_are) among;
  round = (read, subst (AllSeenIn a_word) (sym things_are) (seen, tt));
}

-- ---- what is sent

-- the call first, of which the elements are sent that are written for it, and `v` behind it
abbrev edit : Pieces
edit = gone (nth 0 (children_of block)) (kept group (as_sent group) (gone (nth 2 (children_of block)) (written a_label (codes "v") no_pieces)))

a_letter : IsUtf8 (codes "v")
unfolding encode
a_letter = (codes "v", (refl, refl))

pub edit_of : IsCalledEditOf a_word (a_heading two) block edit
unfolding label_at context_parts chunks segments loose_segments tiles shapes closes tile_at link_or_url link_at ext_link_at bare_url_at scheme_len tag_tile tag_at
    switch_at children with_styles style_tree_of toggles_of toggle_at opens_tag closes_tag
edit_of = record {
  old = refl;
  stay = (stands_as_sent group (record { numbered = λ e. cc; unnumbered = (refl, tt); unframed = refl }), tt);
  are = (tt, (a_letter, tt));
  plain = tt;
  calm = ((λ n. absurd n), ((λ n. absurd n), tt));
  fits = (refl, tt);
}

-- So it is taken, and makes the new heading with its group.
pub makes : MakesContentIn a_word (a_heading two) source block a_label edit
makes =
    let some : 0 < 1 = omega arith in
    calls_make a_word (a_heading two) source block a_label edit 1 0 0 (a_call ∷ []) some (ap block_by (sym (items_are 0))) in_class edit_of

-- `<nowiki/>` is put on both sides of the call
pub written_is : new_content (a_heading two) block a_label edit ≡ codes "<nowiki/>{{t}}<nowiki/>v"
unfolding inline_spelling kept_with label_at context_parts chunks segments loose_segments tiles shapes closes tile_at link_or_url link_at ext_link_at bare_url_at scheme_len tag_tile tag_at
    switch_at children with_styles style_tree_of toggles_of toggle_at opens_tag closes_tag nowiki is_guarded is_between_guard is_start_guard is_end_guard is_blank_guard
    hazard line_start_hazard is_escaped chars encode
written_is = refl
