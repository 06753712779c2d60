-- Worked case: the page's paragraph `[[X|{{t}}]] is`, where `Template:T` is a word: the link that holds the call stays, and other text is typed behind it.
use Rattle.std.proofs.Common.{arith, ◌≡◌, ◌<◌, inl, inr, ℕ, false, Some, List, [], ◌∷◌, ◌++◌, map, refl, sym, ap, ◌∙◌, subst}
use Rattle.std.specs.Prelude.{codes}
use Rattle.std.specs.Str.{is_utf8, chars, IsUtf8}
use Rattle.std.specs.Str.Lossy.{utf8_valid_len}
use lib.Utf8.{encode}
use Rattle.wt_span.specs.Comments.{comment_len, comment_line_len}
use Rattle.wt_span.specs.Entities.{entity_at, named_entity, decimal_entity, hex_entity, entity_names}
use Rattle.wt_span.specs.Tags.{raw_len, opening_tag, tag_after, closing_tag, with_inside, is_extension, include_at}
use Rattle.wt_span.specs.Lexemes.{words, closed, sign_word, form_at}
use Rattle.wt_span.specs.Braces.{rewritten, reduced, parts_of, calls, nesting}
use Rattle.wt_span.specs.Items.{Item, char}
use Rattle.wt_span.specs.Origins.{OuterCall}
use Rattle.wt_braces.specs.Found.{too_deep}
use Rattle.wt_names.specs.Good.{is_forbidden, is_allowed, has_signature, is_step, begins_with_step, holds_step, ends_with_step, is_good, read_text}
use Rattle.wt_names.specs.Namespace.{name_of, image, is_called, namespace_named, prefix_of, full_name_of}
use Rattle.wt_names.specs.Reading.{whole_in, cut_namespace, title_in}
use Rattle.wt_names.specs.Written.{link_text, link_to, stays_in_link}
use Rattle.wt_tree.specs.Plain.{Plains, plain_before}
use Rattle.wt_tree.specs.Source.{flat}
use Rattle.wt_tree.specs.Tree.{Tree}
use Rattle.wt_original.specs.Kept.{kept_with}
use Rattle.wt_expand.specs.PageItems.{page_items}
use Rattle.wt_expand.specs.PageCalls.{page_stretches, expanded_page}
use Rattle.wt_expand.specs.Texts.{trimmed, trimmed_items, name_text}
use Rattle.wt_expand.specs.Targets.{title_in_target, title_of_target, is_function, called}
use Rattle.wt_expand.specs.Templates.{begins_only, ends_only, template_text}
use Rattle.wt_expand.specs.Work.{deep_place}
use Rattle.wt_expand.specs.Expansion.{text_members, most_templates, absent_text, loop_text, depth_text}
use Rattle.wt_annotated.specs.CutTexts.{cut_texts}
use Rattle.wt_lines.specs.Lines.{lines}
use Rattle.wt_inline.specs.declared.loose.Loose.TheVariants.{Text}
use Rattle.wt_inline.specs.ItemTree.{ItemTree}
use Rattle.wt_inline.specs.Parts.{Part, loose, node, loose_leaf, children}
use Rattle.wt_tiles.specs.declared.shape.TileKind.TheVariants as tile
use Rattle.wt_tiles.specs.declared.glyph.Glyph.{Glyph}
use Rattle.wt_tiles.specs.Glyphs.{glyph_of, byte_glyphs}
use Rattle.wt_tiles.specs.Tags.{tag_at, opening_tag as opens_tag, closing_tag as closes_tag}
use Rattle.wt_tiles.specs.Tiles.{form_at as tile_at, link_or_url, tag_tile, switch_at, shapes, closed as closes, tiles}
use Rattle.wt_tiles.specs.Links.{link_at, link_in, target_of}
use Rattle.wt_tiles.specs.Urls.{scheme_len, ext_link_at, bare_url_at}
use Rattle.wt_context.specs.Chunks.{chunks}
use Rattle.wt_context.specs.Heads.{link_head, target, target_size}
use Rattle.wt_visible.specs.SameNodes.{same_node}
use Rattle.wt_context.specs.Line.{context_parts, line_parts}
use Rattle.wt_context.specs.Nodes.{nested_tree, segments}
use Rattle.wt_context.specs.Segments.{loose_segments}
use Rattle.wt_context.specs.Styled.{with_styles}
use Rattle.wt_annotated.specs.Labels.{label_at}
use Rattle.wt_quotes.specs.Styles.{style_tree_of}
use Rattle.wt_quotes.specs.Toggles.{toggle_at, toggles_of}
use Rattle.wt_link_spelling.specs.Spelling.{children_of, inline_spelling}
use Rattle.wt_guards.specs.declared.role.Role.TheVariants.{Link}
use Rattle.wt_guards.specs.Content.{Thing}
use Rattle.wt_guards.specs.Guards.{nowiki, is_guarded, is_between_guard, is_start_guard, is_end_guard, is_blank_guard}
use Rattle.wt_guards.specs.Letters.{is_escaped}
use Rattle.wt_guards.specs.Table.{hazard, line_start_hazard}
use Rattle.wt_part_laws.specs.Expanded.{part_items, GivesAnywhere}
use Rattle.wt_part_laws.specs.HeldCalls.{block_in}
use Rattle.wt_typed_blocks.specs.Edited.{Pieces, no_pieces, gone, written, kept}
use Rattle.wt_text_edit_laws.specs.LonePages.{page_chars}
use Rattle.wt_text_edit_laws.specs.NoCalls.{AreUnbraced}
use Rattle.wt_text_edit_laws.specs.ParagraphParts.{joined_parts, para_with}
use Rattle.wt_text_edit_laws.specs.TextBlocks.{a_paragraph}
use Rattle.wt_beside_laws.specs.Called.{IsOwnNode, StaysRound}
use Rattle.wt_beside_laws.specs.Commented.{BeginsShown, LexemesEnd, IsReadInLine}
use Rattle.wt_beside_laws.specs.ContentEdits.{new_content}
use Rattle.wt_beside_laws.specs.Cuts.{own_glyphs}
use Rattle.wt_beside_laws.specs.FlatBlocks.{IsSealed}
use Rattle.wt_beside_laws.specs.NodeItems.{node_items}
use Rattle.wt_beside_laws.specs.Nodes.{IsLinkNode}
use Rattle.wt_beside_laws.specs.OwnSigns.{HaveOwn}
use Rattle.wt_beside_laws.specs.PageSigns.{HasNoBreak}
use Rattle.wt_beside_laws.specs.References.{ReferencesEnd}
use Rattle.wt_beside_laws.specs.RoundCalls.{IsRoundCalls, AreShutCalls}
use Rattle.wt_beside_laws.specs.Shown.{parts_shown_at}
use Rattle.wt_beside_laws.proofs.Groups.Cases.{a_word}
use Rattle.wt_beside_laws.proofs.Marks.InLine.{InLine, InLineAs, firm_in, line_reads}
use Rattle.wt_beside_laws.proofs.OpenTags.{untagged_closed}
use Rattle.wt_text_edit_laws.proofs.Between.ClosingTags.{unclosed_untagged}
use Rattle.wt_called_edit_laws.specs.CalledEdits.{page_things, ShowsAsGiven, AreChildrenBeside, IsBesideCalls, IsCalledEditOf, MakesContentIn}
use Rattle.wt_called_edit_laws.specs.InPieces.{AreInPieces}
use Rattle.wt_called_edit_laws.specs.PageThings.{ArePageThings, thing_sources}
use Rattle.wt_called_edit_laws.specs.SentAsIs.{as_sent}
use Rattle.wt_called_edit_laws.specs.Settled.{settled}
use Rattle.wt_called_edit_laws.specs.WholeContents.{AreShutParts, IsShut}
use Rattle.wt_called_edit_laws.specs.Written.{IsCallSource, IsReadThing, IsOwnPart}
use Rattle.wt_called_edit_laws.specs.WrittenAnew.{StayButForOthers}
use Rattle.wt_called_edit_laws.proofs.Beside.EndCases.{called_at, a_label, nth}
use Rattle.wt_called_edit_laws.proofs.Beside.Making.{calls_make}
use Rattle.wt_called_edit_laws.proofs.Beside.Uncalled.{some_sent}
use Rattle.wt_called_edit_laws.proofs.Cells.SentAsIs.{stands_as_sent}
use Rattle.wt_called_edit_laws.proofs.Written.Cases.{call_settles}
use Rattle.wt_called_edit_laws.proofs.Written.Joined.{calm_written}
use Rattle.wt_called_edit_laws.proofs.Written.Reads.{call_in}

abbrev pub source : List ℕ
source = codes "[[X|{{t}}]] is"

abbrev pub link_source : List ℕ
link_source = codes "[[X|{{t}}]]"

abbrev pub pieces : List (List ℕ)
pieces = link_source ∷ codes " is" ∷ []

-- the items of the link, of which `b` comes from the call, where so many calls come before it
abbrev pub link : ℕ → List Item
link i = page_chars (codes "[[X|") ++ (char (Some i) 98 ∷ page_chars (codes "]]"))

abbrev pub behind : List Item
behind = page_chars (codes " is")

abbrev pub given : ℕ → List Item
given i = link i ++ behind

pub items_are : (i : ℕ) → part_items a_word i source ≡ given i
unfolding words closed form_at comment_len comment_line_len raw_len opening_tag tag_after closing_tag with_inside is_extension
    include_at entity_at named_entity decimal_entity hex_entity entity_names sign_word reduced rewritten parts_of text_members trimmed
    trimmed_items name_text called most_templates is_function title_of_target title_in_target read_text is_allowed is_forbidden
    is_good has_signature is_step begins_with_step holds_step ends_with_step name_of image is_called namespace_named prefix_of
    full_name_of whole_in cut_namespace title_in template_text begins_only ends_only loop_text depth_text absent_text
    utf8_valid_len is_utf8 chars encode link_to page_stretches
items_are i = refl

pub gives_link : (i : ℕ) → part_items a_word i link_source ≡ link i
unfolding words closed form_at comment_len comment_line_len raw_len opening_tag tag_after closing_tag with_inside is_extension
    include_at entity_at named_entity decimal_entity hex_entity entity_names sign_word reduced rewritten parts_of text_members trimmed
    trimmed_items name_text called most_templates is_function title_of_target title_in_target read_text is_allowed is_forbidden
    is_good has_signature is_step begins_with_step holds_step ends_with_step name_of image is_called namespace_named prefix_of
    full_name_of whole_in cut_namespace title_in template_text begins_only ends_only loop_text depth_text absent_text
    utf8_valid_len is_utf8 chars encode link_to page_stretches
gives_link i = refl

abbrev pub link_thing : Thing
link_thing = record { role = Link; source = link_source; place = Some (record { start = 0; end = 11 }) }

-- ---- the link by what it gives

given_node : IsLinkNode (byte_glyphs (codes "[[X|b]]"))
unfolding link_at link_in target_of read_text is_allowed is_forbidden is_good has_signature is_step begins_with_step holds_step ends_with_step
    name_of image is_called namespace_named prefix_of full_name_of whole_in cut_namespace title_in utf8_valid_len is_utf8 chars encode link_to
given_node = record {
  shape = record { kind = tile.Link; opening = 4; inside = 1; closing = 2; trail = 0 };
  inside = byte_glyphs (codes "X|b]]");
  is = refl;
  plain = tt;
  link = refl;
  whole = refl;
}

link_node : (i : ℕ) → IsOwnNode link_thing (link i)
link_node i = record {
  node = given_node;
  closed = untagged_closed (byte_glyphs (codes "[[X|b]]")) refl;
  inside = λ e. absurd (cc);
  unbroken = (refl, (refl, (refl, (refl, (refl, (refl, (refl, tt)))))));
}

abbrev first_tree : List Part → ItemTree
first_tree [] = loose_leaf Text []
first_tree (loose k o b ∷ ps) = loose_leaf Text []
first_tree (node t ∷ ps) = t

pub round_link : (i : ℕ) → IsRoundCalls (link i)
unfolding context_parts chunks segments loose_segments tiles shapes closes tile_at link_or_url link_at ext_link_at bare_url_at scheme_len
    tag_tile tag_at switch_at with_styles style_tree_of toggles_of toggle_at opens_tag closes_tag children
    nested_tree link_head link_in target_of read_text is_allowed is_forbidden is_good has_signature is_step begins_with_step holds_step ends_with_step
    name_of image is_called namespace_named prefix_of full_name_of whole_in cut_namespace title_in utf8_valid_len is_utf8 chars encode link_to
round_link i = record {
  tree = first_tree (line_parts (link i));
  is = refl;
  deep = (
    (refl, refl, refl, refl, refl),
    refl,
    (inl (inr (i, record { first = char (Some i) 98; others = []; is = refl; of_call = (refl, tt); no_body = refl; uncut = (refl, tt) })), tt),
  );
  whole = refl;
  plain = tt;
  called = refl;
}

calls_shut : AreShutCalls (expanded_page a_word link_source).outer
unfolding words closed form_at comment_len comment_line_len raw_len opening_tag tag_after closing_tag with_inside is_extension
    include_at entity_at named_entity decimal_entity hex_entity entity_names sign_word reduced rewritten parts_of text_members trimmed
    trimmed_items name_text called most_templates is_function title_of_target title_in_target read_text is_allowed is_forbidden
    is_good has_signature is_step begins_with_step holds_step ends_with_step name_of image is_called namespace_named prefix_of
    full_name_of whole_in cut_namespace title_in template_text begins_only ends_only loop_text depth_text absent_text
    utf8_valid_len is_utf8 chars encode link_to page_stretches expanded_page
calls_shut = (refl, tt)

pub stays : StaysRound a_word link_thing
stays = record {
  flat = tt;
  node = λ i. subst (IsOwnNode link_thing) (sym (gives_link i)) (link_node i);
  round = λ i. subst IsRoundCalls (sym (gives_link i)) (round_link i);
  calls = calls_shut;
}

-- ---- the link as it is read

call_alone : node_items (codes "{{t}}") ≡ page_chars (codes "{{t}}")
unfolding node_items page_items words closed form_at comment_len comment_line_len raw_len opening_tag tag_after closing_tag with_inside include_at entity_at named_entity
    decimal_entity hex_entity entity_names sign_word
call_alone = refl

a_call : IsCallSource (codes "{{t}}")
a_call = record { others = codes "{t}}"; is = refl; settles = call_settles }

link_reads : InLineAs link_source (page_chars link_source)
link_reads = λ rest xs r.
    let last : InLine (codes "]]" ++ rest) (page_chars (codes "]]") ++ xs) = firm_in (codes "]]") (refl, (refl, tt)) (refl, (refl, tt)) rest xs r in
    let both : InLine (codes "{{t}}]]" ++ rest) (page_chars (codes "{{t}}") ++ (page_chars (codes "]]") ++ xs)) =
    subst (λ (ys : List Item). InLine (codes "{{t}}]]" ++ rest) (ys ++ (page_chars (codes "]]") ++ xs))) call_alone
    (call_in (codes "{{t}}") a_call refl (codes "]]" ++ rest) (page_chars (codes "]]") ++ xs) refl last) in
    firm_in (codes "[[X|") (refl, (refl, (refl, (refl, tt)))) (refl, (refl, (refl, (refl, tt)))) (codes "{{t}}]]" ++ rest)
    (page_chars (codes "{{t}}]]") ++ xs) both

link_read : page_items link_source ≡ page_chars link_source
unfolding page_items words closed form_at comment_len comment_line_len raw_len opening_tag tag_after closing_tag with_inside include_at entity_at named_entity
    decimal_entity hex_entity entity_names sign_word
link_read = refl

link_alone : node_items link_source ≡ page_chars link_source
unfolding node_items page_items words closed form_at comment_len comment_line_len raw_len opening_tag tag_after closing_tag with_inside include_at entity_at named_entity
    decimal_entity hex_entity entity_names sign_word
link_alone = refl

read_in_line : IsReadInLine link_source
read_in_line = record {
  reads = λ rest e. line_reads link_source (page_chars link_source) link_reads rest ∙ ap (λ (xs : List Item). xs ++ page_items rest) (sym link_read);
  begins = subst BeginsShown (sym link_read) (refl, refl);
  unbroken = subst HasNoBreak (sym link_read) (refl, (refl, (refl, (refl, (refl, (refl, (refl, (refl, (refl, (refl, (refl, tt)))))))))));
  ends = subst LexemesEnd (sym link_read) tt;
}

raw_node : IsLinkNode (byte_glyphs link_source)
unfolding link_at link_in target_of read_text is_allowed is_forbidden is_good has_signature is_step begins_with_step holds_step ends_with_step
    name_of image is_called namespace_named prefix_of full_name_of whole_in cut_namespace title_in utf8_valid_len is_utf8 chars encode link_to
raw_node = record {
  shape = record { kind = tile.Link; opening = 4; inside = 5; closing = 2; trail = 0 };
  inside = byte_glyphs (codes "X|{{t}}]]");
  is = refl;
  plain = tt;
  link = refl;
  whole = refl;
}

raw_glyphs : own_glyphs link_thing ≡ byte_glyphs link_source
raw_glyphs = ap (λ (xs : List Item). map glyph_of xs) link_alone

-- no reference begins in it
no_reference : ReferencesEnd link_source
no_reference =
    ((λ e. absurd (cc)), ((λ e. absurd (cc)), ((λ e. absurd (cc)), ((λ e. absurd (cc)), ((λ e. absurd (cc)), ((λ e. absurd (cc)), ((λ e. absurd (cc)), ((λ e. absurd (cc)), ((λ e. absurd (cc)), ((λ e. absurd (cc)), ((λ e. absurd (cc)), tt)))))))))))

is_read : IsReadThing link_thing
is_read = record {
  source = inl (inr (inr (read_in_line, no_reference)), subst (λ (gs : List Glyph). IsLinkNode gs) (sym raw_glyphs) raw_node, λ e. absurd (cc));
  begins = refl;
  ends = refl;
}

link_anywhere : GivesAnywhere a_word link_source
unfolding words closed form_at comment_len comment_line_len raw_len opening_tag tag_after closing_tag with_inside is_extension
    include_at entity_at named_entity decimal_entity hex_entity entity_names sign_word reduced rewritten parts_of text_members trimmed
    trimmed_items name_text called most_templates is_function title_of_target title_in_target read_text is_allowed is_forbidden
    is_good has_signature is_step begins_with_step holds_step ends_with_step name_of image is_called namespace_named prefix_of
    full_name_of whole_in cut_namespace title_in template_text begins_only ends_only loop_text depth_text absent_text
    utf8_valid_len is_utf8 chars encode link_to page_stretches expanded_page
link_anywhere = record { outputs = refl; alike = λ at. record { items = λ k. refl; outers = refl; texts = refl } }

link_part : IsOwnPart a_word link_source
unfolding words closed form_at comment_len comment_line_len raw_len opening_tag tag_after closing_tag with_inside is_extension
    include_at entity_at named_entity decimal_entity hex_entity entity_names sign_word reduced rewritten parts_of text_members trimmed
    trimmed_items name_text called most_templates is_function title_of_target title_in_target read_text is_allowed is_forbidden
    is_good has_signature is_step begins_with_step holds_step ends_with_step name_of image is_called namespace_named prefix_of
    full_name_of whole_in cut_namespace title_in template_text begins_only ends_only loop_text depth_text absent_text
    utf8_valid_len is_utf8 chars encode link_to page_stretches expanded_page deep_place too_deep calls nesting
link_part = record { left = refl; anywhere = link_anywhere; texts = refl; undeep = refl }

link_sealed : IsSealed link_source
link_sealed = record { closes = λ name us vs o v. unclosed_untagged name link_source vs refl v }

raw_shut : AreShutParts (line_parts (page_chars link_source))
unfolding label_at context_parts chunks segments loose_segments tiles shapes closes tile_at link_or_url link_at ext_link_at bare_url_at scheme_len
    tag_tile tag_at switch_at with_styles style_tree_of toggles_of toggle_at opens_tag closes_tag children
    nested_tree link_head link_in target_of read_text is_allowed is_forbidden is_good has_signature is_step begins_with_step holds_step ends_with_step
    name_of image is_called namespace_named prefix_of full_name_of whole_in cut_namespace title_in utf8_valid_len is_utf8 chars encode link_to
raw_shut = ((λ e. (refl, (refl, ((refl, tt), tt)))), tt)

link_shut : IsShut link_thing
link_shut = (refl, λ e. subst (λ (xs : List Item). AreShutParts (line_parts xs)) (sym link_alone) raw_shut)

link_utf8 : IsUtf8 link_source
unfolding encode
link_utf8 = (link_source, (refl, refl))

pub of_page : ArePageThings a_word (link_thing ∷ [])
of_page = (record { folder = inr stays; read = is_read; part = link_part; sealed = link_sealed; shut = link_shut; utf8 = link_utf8 }, tt, tt)

-- ---- the page's block

abbrev pub calls_here : List OuterCall
calls_here = called_at 4 ∷ []

abbrev pub block_by : List Item → Tree
block_by xs = settled 1 0 (cut_texts (block_in calls_here (para_with (joined_parts (lines xs)))))

abbrev pub block : Tree
block = block_by (given 0)

abbrev pub link_tree : Tree
link_tree = nth 0 (children_of block)

-- the link is its one node
things_are : page_things block ≡ link_thing ∷ []
unfolding kept_with label_at context_parts chunks segments loose_segments tiles shapes closes tile_at link_or_url link_at ext_link_at bare_url_at scheme_len
    tag_tile tag_at switch_at with_styles style_tree_of toggles_of toggle_at opens_tag closes_tag children
    nested_tree link_head link_in target_of read_text is_allowed is_forbidden is_good has_signature is_step begins_with_step holds_step ends_with_step
    name_of image is_called namespace_named prefix_of full_name_of whole_in cut_namespace title_in utf8_valid_len is_utf8 chars encode link_to
things_are = refl

-- it shows what it shows by itself
tree_is : flat link_tree ≡ link_source
unfolding label_at context_parts chunks segments loose_segments tiles shapes closes tile_at link_or_url link_at ext_link_at bare_url_at scheme_len
    tag_tile tag_at switch_at with_styles style_tree_of toggles_of toggle_at opens_tag closes_tag children
    nested_tree link_head link_in target_of read_text is_allowed is_forbidden is_good has_signature is_step begins_with_step holds_step ends_with_step
    name_of image is_called namespace_named prefix_of full_name_of whole_in cut_namespace title_in utf8_valid_len is_utf8 chars encode link_to
tree_is = refl

tree_shows : (i : ℕ) (rest : Plains) → parts_shown_at 0 [] (line_parts (link i)) rest ≡ plain_before link_tree rest
unfolding label_at context_parts chunks segments loose_segments tiles shapes closes tile_at link_or_url link_at ext_link_at bare_url_at scheme_len
    tag_tile tag_at switch_at with_styles style_tree_of toggles_of toggle_at opens_tag closes_tag children
    nested_tree link_head link_in target_of read_text is_allowed is_forbidden is_good has_signature is_step begins_with_step holds_step ends_with_step
    name_of image is_called namespace_named prefix_of full_name_of whole_in cut_namespace title_in utf8_valid_len is_utf8 chars encode link_to
tree_shows i rest = refl

link_shows : ShowsAsGiven a_word link_tree
link_shows = λ i rest.
    ap (λ (q : List ℕ). parts_shown_at 0 [] (line_parts (part_items a_word i q)) rest) tree_is
    ∙ ap (λ (xs : List Item). parts_shown_at 0 [] (line_parts xs) rest) (gives_link i)
    ∙ tree_shows i rest

own_nodes : HaveOwn (children_of block) × AreChildrenBeside a_word (children_of block)
unfolding label_at context_parts chunks segments loose_segments tiles shapes closes tile_at link_or_url link_at ext_link_at bare_url_at scheme_len
    tag_tile tag_at switch_at with_styles style_tree_of toggles_of toggle_at opens_tag closes_tag children
    nested_tree link_head link_in target_of read_text is_allowed is_forbidden is_good has_signature is_step begins_with_step holds_step ends_with_step
    name_of image is_called namespace_named prefix_of full_name_of whole_in cut_namespace title_in utf8_valid_len is_utf8 chars encode link_to
own_nodes = (
  ((λ e. cc), (tt, tt)),
  (record { inline = refl; shows = λ n. link_shows }, (record { inline = refl; shows = λ n. absurd n }, tt)),
)

-- ---- it is in pieces

calm : AreUnbraced (page_items (codes " is"))
unfolding page_items words closed form_at comment_len comment_line_len raw_len opening_tag tag_after closing_tag with_inside include_at entity_at named_entity
    decimal_entity hex_entity entity_names sign_word
calm = (refl, (refl, (refl, tt)))

pub in_pieces : AreInPieces a_word pieces
unfolding page_items words closed form_at comment_len comment_line_len raw_len opening_tag tag_after closing_tag with_inside include_at entity_at named_entity
    decimal_entity hex_entity entity_names sign_word
in_pieces = let text = calm_written a_word (codes " is") calm in (link_part, inl refl, (text.part, inl refl, tt))

no_calls : (expanded_page a_word (codes " is")).outer ≡ []
unfolding words closed form_at comment_len comment_line_len raw_len opening_tag tag_after closing_tag with_inside is_extension
    include_at entity_at named_entity decimal_entity hex_entity entity_names sign_word reduced rewritten parts_of text_members trimmed
    trimmed_items name_text called most_templates is_function title_of_target title_in_target read_text is_allowed is_forbidden
    is_good has_signature is_step begins_with_step holds_step ends_with_step name_of image is_called namespace_named prefix_of
    full_name_of whole_in cut_namespace title_in template_text begins_only ends_only loop_text depth_text absent_text
    utf8_valid_len is_utf8 chars encode link_to page_stretches expanded_page
no_calls = refl

pub among : StayButForOthers a_word pieces (link_source ∷ [])
among = inl (refl, (no_calls, tt))

pub in_class : IsBesideCalls a_word a_paragraph source block
in_class = record {
  pieces = pieces;
  is = refl;
  parts = in_pieces;
  own = own_nodes.0;
  children = own_nodes.1;
  things = subst (ArePageThings a_word) (sym things_are) of_page;
  among = subst (λ (ts : List Thing). StayButForOthers a_word pieces (thing_sources ts)) (sym things_are) among;
  round = tt;
}

-- ---- what is sent

-- ` was` in the place of ` is`
abbrev edit : Pieces
edit = kept link_tree (as_sent link_tree) (gone (nth 1 (children_of block)) (written a_label (codes " was") no_pieces))

are_letters : IsUtf8 (codes " was")
unfolding encode
are_letters = (codes " was", (refl, refl))

pub edit_of : IsCalledEditOf a_word a_paragraph block edit
unfolding label_at context_parts chunks segments loose_segments tiles shapes closes tile_at link_or_url link_at ext_link_at bare_url_at scheme_len
    tag_tile tag_at switch_at with_styles style_tree_of toggles_of toggle_at opens_tag closes_tag children
    nested_tree link_head link_in target_of read_text is_allowed is_forbidden is_good has_signature is_step begins_with_step holds_step ends_with_step
    name_of image is_called namespace_named prefix_of full_name_of whole_in cut_namespace title_in utf8_valid_len is_utf8 chars encode link_to
edit_of = record {
  old = refl;
  stay = (stands_as_sent link_tree (record { numbered = λ e. cc; unnumbered = (refl, tt); unframed = refl }, tt), tt);
  are = (tt, (are_letters, tt));
  plain = tt;
  calm = ((λ n. absurd n), tt);
  fits = some_sent block edit (tt, (are_letters, tt)) tt;
}

-- So it is taken, and makes the new block, with the group in its link.
pub makes : MakesContentIn a_word a_paragraph source block a_label edit
makes =
    let some : 0 < 1 = omega arith in
    calls_make a_word a_paragraph source block a_label edit 1 0 0 calls_here some (ap block_by (sym (items_are 0))) in_class edit_of

pub written_is : new_content a_paragraph block a_label edit ≡ codes "[[X|{{t}}]] was"
unfolding inline_spelling kept_with label_at nowiki is_guarded is_between_guard is_start_guard is_end_guard is_blank_guard hazard line_start_hazard is_escaped
    context_parts chunks segments loose_segments tiles shapes closes tile_at link_or_url link_at ext_link_at bare_url_at scheme_len
    tag_tile tag_at switch_at with_styles style_tree_of toggles_of toggle_at opens_tag closes_tag children
    nested_tree link_head link_in target_of read_text is_allowed is_forbidden is_good has_signature is_step begins_with_step holds_step ends_with_step
    name_of image is_called namespace_named prefix_of full_name_of whole_in cut_namespace title_in utf8_valid_len is_utf8 chars encode link_to
    same_node target target_size link_text stays_in_link
written_is = refl
