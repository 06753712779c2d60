-- Worked case: the nodes of the page's paragraph `'''x{{t}}''' [[b]]`, where `Template:T` is a word: a call in bold, and a link.
use Rattle.std.proofs.Common.{◌≡◌, inl, inr, ℕ, zero, suc, true, false, Some, None, List, [], ◌∷◌, refl, sym, ap, ◌∙◌, subst}
use Rattle.std.specs.Prelude.{codes, map}
use Rattle.std.specs.Str.{is_utf8, chars, IsUtf8}
use Rattle.std.specs.Str.Lossy.{utf8_valid_len}
use lib.Utf8.{encode}
use Rattle.wt_span.specs.Comments.{comment_len, comment_line_len}
use Rattle.wt_span.specs.Entities.{entity_at, named_entity, decimal_entity, hex_entity, entity_names}
use Rattle.wt_span.specs.Tags.{raw_len, opening_tag, tag_after, closing_tag, with_inside, include_at}
use Rattle.wt_span.specs.Lexemes.{words, closed, sign_word, form_at}
use Rattle.wt_span.specs.Items.{Item, char}
use Rattle.wt_span.specs.Origins.{OuterCall}
use Rattle.wt_names.specs.Good.{is_forbidden, is_allowed, has_signature, is_step, begins_with_step, holds_step, ends_with_step, is_good, read_text}
use Rattle.wt_names.specs.Namespace.{name_of, image, is_called, namespace_named, prefix_of, full_name_of}
use Rattle.wt_names.specs.Reading.{whole_in, cut_namespace, title_in}
use Rattle.wt_names.specs.Written.{link_to}
use Rattle.wt_tree.specs.declared.kind.Kind.TheVariants as kind
use Rattle.wt_tree.specs.declared.kind.Mark.TheVariants as marks
use Rattle.wt_tree.specs.Plain.{Plains, plain_before, text_before}
use Rattle.wt_tree.specs.Source.{flat}
use Rattle.wt_tree.specs.Tree.{Label, Tree, Trees, more, none, tree}
use Rattle.wt_original.specs.Kept.{kept_with}
use Rattle.wt_expand.specs.PageItems.{page_items}
use Rattle.wt_annotated.specs.CutTexts.{cut_texts}
use Rattle.wt_lines.specs.Lines.{lines}
use Rattle.wt_inline.specs.Parts.{children}
use Rattle.wt_tiles.specs.Tags.{tag_at, opening_tag as opens_tag, closing_tag as closes_tag}
use Rattle.wt_tiles.specs.Tiles.{form_at as tile_at, link_or_url, tag_tile, switch_at, shapes, closed as closes, tiles}
use Rattle.wt_tiles.specs.Links.{link_at}
use Rattle.wt_tiles.specs.Urls.{scheme_len, ext_link_at, bare_url_at}
use Rattle.wt_context.specs.Chunks.{chunks}
use Rattle.wt_context.specs.Line.{context_parts, line_parts}
use Rattle.wt_context.specs.Nodes.{nested_tree, segments}
use Rattle.wt_context.specs.Segments.{loose_segments}
use Rattle.wt_context.specs.Styled.{with_styles}
use Rattle.wt_annotated.specs.Labels.{label_at}
use Rattle.wt_quotes.specs.Runs.{place_of}
use Rattle.wt_quotes.specs.Styles.{style_tree_of}
use Rattle.wt_quotes.specs.Toggles.{toggle_at, toggles_of}
use Rattle.wt_quotes.specs.Turns.{since, next, bold_ends_later, effect_on, is_bold_outside_at, turn_at}
use Rattle.wt_guards.specs.Content.{Thing}
use Rattle.wt_guards.specs.declared.role.Role.TheVariants.{Group}
use Rattle.wt_part_laws.specs.Expanded.{part_items}
use Rattle.wt_part_laws.specs.HeldCalls.{block_in}
use Rattle.wt_text_edit_laws.specs.NoCalls.{AreUnbraced}
use Rattle.wt_text_edit_laws.specs.ParagraphParts.{joined_parts, para_with}
use Rattle.wt_beside_laws.proofs.Groups.Cases.{a_word, beside_letters, gives_b, gives_char}
use Rattle.wt_beside_laws.specs.Shown.{parts_shown_at}
use Rattle.wt_beside_laws.specs.StyledCalls.{PartsNestIn}
use Rattle.wt_called_edit_laws.specs.Settled.{settled}
use Rattle.wt_called_edit_laws.proofs.Beside.Cases.{shows_word}
use Rattle.wt_guards.specs.declared.role.Role.TheVariants.{Link}
use Rattle.wt_link_spelling.specs.Spelling.{children_of}
use Rattle.wt_span.specs.declared.form.LexKind.TheVariants.{Chars, Closes, LinkClose, LinkOpen, Opens}
use Rattle.wt_span.specs.declared.form.Mode.TheVariants.{Page}
use Rattle.wt_context.specs.Heads.{link_head}
use Rattle.wt_tiles.specs.Links.{link_in, target_of}
use Rattle.wt_tiles.specs.Glyphs.{byte_glyphs, glyph_of}
use Rattle.wt_part_laws.specs.Apart.{AreMet}
use Rattle.wt_text_edit_laws.specs.LonePages.{page_chars}
use Rattle.wt_beside_laws.proofs.Groups.GivenCases.{a_link}
use Rattle.wt_beside_laws.proofs.OpenTags.{untagged_closed}
use Rattle.wt_beside_laws.specs.Called.{AreSomeOfPage}
use Rattle.wt_text_edit_laws.specs.TextBetween.{HasEnds}
use Rattle.wt_beside_laws.specs.NodeItems.{node_items}
use Rattle.wt_beside_laws.specs.Nodes.{IsNode, OpensNoPair}
use Rattle.wt_called_edit_laws.specs.BlockNodes.{AreBlockNodes, AreOnes, ArePiecesMet, IsEndedCall, IsOfNodes, IsOneCall, IsOneNode, IsUnbraced, ShowsItself, all_node_pieces}
use Rattle.wt_called_edit_laws.specs.CalledEdits.{ShowsAsGiven, page_things}
use Rattle.wt_called_edit_laws.specs.PageThings.{AllMeetLater}
use Rattle.wt_called_edit_laws.specs.StyledCallEdits.{GivesNested}
use Rattle.wt_called_edit_laws.specs.WholeContents.{AreShutParts}
use Rattle.wt_called_edit_laws.proofs.Written.Cases.{call_part, call_utf8}
use Rattle.wt_lines.specs.Lines.{IsUnbroken}

abbrev pub source : List ℕ
source = codes "'''x{{t}}''' [[b]]"

-- its items, of which the first `b` comes from the call, where so many calls come before it
abbrev pub given : ℕ → List Item
given i =
    char None 39 ∷ char None 39 ∷ char None 39 ∷ char None 120 ∷ char (Some i) 98 ∷ char None 39 ∷ char None 39 ∷ char None 39
    ∷ char None 32 ∷ page_chars (codes "[[b]]")

abbrev pub a_call : OuterCall
a_call = record { start = 4; source = codes "{{t}}"; argument = false; parts = (3, 4) ∷ []; equals = None ∷ []; href = None }

-- the call, in the bold text, and the link
abbrev pub call : Thing
call = record { role = Group beside_letters; source = codes "{{t}}"; place = Some (record { start = 4; end = 9 }) }

abbrev pub link : Thing
link = record { role = Link; source = codes "[[b]]"; place = Some (record { start = 13; end = 18 }) }

-- ---- the page's block

abbrev pub block : Tree
block = settled 1 0 (cut_texts (block_in (a_call ∷ []) (para_with (joined_parts (lines (given 0))))))

abbrev a_label : Label
a_label = record { id = 0; kind = kind.Text; attrs = []; mw = None; shown = []; mark = marks.Nothing; ranges = None; opening = []; closing = []; own = []; origin = None }

abbrev nth : ℕ → Trees → Tree
nth n none = tree a_label none
nth zero (more t us) = t
nth (suc n) (more t us) = nth n us

abbrev bold_node : Tree
bold_node = nth 0 (children_of block)

abbrev group : Tree
group = nth 1 (children_of bold_node)

abbrev link_node : Tree
link_node = nth 2 (children_of block)

things_are : page_things block ≡ call ∷ link ∷ []
unfolding kept_with label_at children context_parts chunks segments loose_segments tiles shapes closes tile_at link_or_url link_at ext_link_at bare_url_at scheme_len
    tag_tile tag_at switch_at with_styles style_tree_of toggles_of toggle_at opens_tag closes_tag place_of since next bold_ends_later effect_on
    is_bold_outside_at turn_at nested_tree link_head link_in target_of read_text is_allowed is_forbidden is_good has_signature is_step begins_with_step holds_step ends_with_step
    name_of image is_called namespace_named prefix_of full_name_of whole_in cut_namespace title_in utf8_valid_len is_utf8 chars encode link_to
things_are = refl

-- ---- its pieces

abbrev pub pieces : List (List ℕ)
pieces = codes "'''" ∷ codes "x" ∷ codes "{{t}}" ∷ codes "'''" ∷ codes " " ∷ codes "[[b]]" ∷ []

pieces_are : all_node_pieces (children_of block) ≡ pieces
unfolding label_at children context_parts chunks segments loose_segments tiles shapes closes tile_at link_or_url link_at ext_link_at bare_url_at scheme_len
    tag_tile tag_at switch_at with_styles style_tree_of toggles_of toggle_at opens_tag closes_tag place_of since next bold_ends_later effect_on
    is_bold_outside_at turn_at nested_tree link_head link_in target_of read_text is_allowed is_forbidden is_good has_signature is_step begins_with_step holds_step ends_with_step
    name_of image is_called namespace_named prefix_of full_name_of whole_in cut_namespace title_in utf8_valid_len is_utf8 chars encode link_to
pieces_are = refl

met_here : ArePiecesMet pieces
unfolding words closed form_at comment_len comment_line_len raw_len opening_tag tag_after closing_tag with_inside include_at entity_at named_entity
    decimal_entity hex_entity entity_names sign_word
met_here =
    let first : AreMet (words Page (codes "'''")) (words Page (codes "x{{t}}''' [[b]]")) (words Page (codes "'''x{{t}}''' [[b]]")) = inr (record {
      before = [];
      first = 3;
      second = 1;
      after = (Opens, 2) ∷ (Chars, 1) ∷ (Closes, 2) ∷ (Chars, 4) ∷ (LinkOpen, 2) ∷ (Chars, 1) ∷ (LinkClose, 2) ∷ [];
      vs_are = refl;
      ws_are = refl;
      both_are = refl;
    }) in
    let fourth : AreMet (words Page (codes "'''")) (words Page (codes " [[b]]")) (words Page (codes "''' [[b]]")) = inr (record {
      before = [];
      first = 3;
      second = 1;
      after = (LinkOpen, 2) ∷ (Chars, 1) ∷ (LinkClose, 2) ∷ [];
      vs_are = refl;
      ws_are = refl;
      both_are = refl;
    }) in
    (first, (inl refl, (inl refl, (fourth, (inl refl, (inl refl, tt))))))

-- ---- texts

marks_calm : IsUnbraced (codes "'''")
unfolding page_items words closed form_at comment_len comment_line_len raw_len opening_tag tag_after closing_tag with_inside include_at entity_at named_entity
    decimal_entity hex_entity entity_names sign_word
marks_calm = (refl, (refl, (refl, tt)))

letter_calm : IsUnbraced (codes "x")
unfolding page_items words closed form_at comment_len comment_line_len raw_len opening_tag tag_after closing_tag with_inside include_at entity_at named_entity
    decimal_entity hex_entity entity_names sign_word
letter_calm = (refl, tt)

blank_calm : IsUnbraced (codes " ")
unfolding page_items words closed form_at comment_len comment_line_len raw_len opening_tag tag_after closing_tag with_inside include_at entity_at named_entity
    decimal_entity hex_entity entity_names sign_word
blank_calm = (refl, tt)

-- ---- the call

ended_call : IsEndedCall (codes "{{t}}")
unfolding words closed form_at comment_len comment_line_len raw_len opening_tag tag_after closing_tag with_inside include_at entity_at named_entity
    decimal_entity hex_entity entity_names sign_word
ended_call = record { others = codes "{t}}"; is = refl; last = refl; ends = (refl, (refl, (refl, refl))); one_line = refl }

gives_call : IsOneCall a_word beside_letters (codes "{{t}}")
gives_call = record { gives = gives_b; ended = ended_call; part = call_part; unquoted = inl refl; utf8 = call_utf8 }

-- what it shows is its word
group_is : (flat group ≡ codes "{{t}}") × ((rest : Plains) → plain_before group rest ≡ text_before (codes "b") rest)
unfolding label_at children context_parts chunks segments loose_segments tiles shapes closes tile_at link_or_url link_at ext_link_at bare_url_at scheme_len
    tag_tile tag_at switch_at with_styles style_tree_of toggles_of toggle_at opens_tag closes_tag place_of since next bold_ends_later effect_on
    is_bold_outside_at turn_at nested_tree link_head link_in target_of read_text is_allowed is_forbidden is_good has_signature is_step begins_with_step holds_step ends_with_step
    name_of image is_called namespace_named prefix_of full_name_of whole_in cut_namespace title_in utf8_valid_len is_utf8 chars encode link_to
group_is = (refl, λ rest. refl)

group_shows : ShowsAsGiven a_word group
group_shows = λ i rest.
    ap (λ (q : List ℕ). parts_shown_at 0 [] (line_parts (part_items a_word i q)) rest) group_is.0
    ∙ ap (λ (xs : List Item). parts_shown_at 0 [] (line_parts xs) rest) (gives_char i)
    ∙ shows_word i rest
    ∙ sym (group_is.1 rest)

-- and has no bold
nests : (i : ℕ) → PartsNestIn true false (line_parts (char (Some i) 98 ∷ []))
unfolding context_parts chunks segments loose_segments tiles shapes closes tile_at link_or_url link_at ext_link_at bare_url_at scheme_len
    tag_tile tag_at switch_at with_styles style_tree_of toggles_of toggle_at opens_tag closes_tag place_of since next bold_ends_later effect_on
    is_bold_outside_at turn_at nested_tree link_head link_in target_of read_text is_allowed is_forbidden is_good has_signature is_step begins_with_step holds_step ends_with_step
    name_of image is_called namespace_named prefix_of full_name_of whole_in cut_namespace title_in utf8_valid_len is_utf8 chars encode link_to
nests i = tt

gives_nested : GivesNested a_word true false (flat group)
gives_nested = λ i.
    subst (λ (q : List ℕ). PartsNestIn true false (line_parts (part_items a_word i q))) (sym group_is.0)
    (subst (λ (xs : List Item). PartsNestIn true false (line_parts xs)) (sym (gives_char i)) (nests i))

-- ---- the link

abbrev letters : List Item
letters = page_chars (codes "[[b]]")

items_of_link : (node_items (codes "[[b]]") ≡ letters) × (page_items (codes "[[b]]") ≡ letters)
unfolding node_items page_items words closed form_at comment_len comment_line_len raw_len opening_tag tag_after closing_tag with_inside include_at entity_at named_entity
    decimal_entity hex_entity entity_names sign_word
items_of_link = (refl, refl)

own_link : AreSomeOfPage (line_parts letters)
unfolding children context_parts chunks segments loose_segments tiles shapes closes tile_at link_or_url link_at ext_link_at bare_url_at scheme_len
    tag_tile tag_at switch_at with_styles style_tree_of toggles_of toggle_at opens_tag closes_tag place_of since next bold_ends_later effect_on
    is_bold_outside_at turn_at nested_tree link_head link_in target_of read_text is_allowed is_forbidden is_good has_signature is_step begins_with_step holds_step ends_with_step
    name_of image is_called namespace_named prefix_of full_name_of whole_in cut_namespace title_in utf8_valid_len is_utf8 chars encode link_to
own_link = (record { of_page = refl; has_items = (refl, ((refl, tt), tt)) }, tt)

shut_link : AreShutParts (line_parts letters)
unfolding label_at children context_parts chunks segments loose_segments tiles shapes closes tile_at link_or_url link_at ext_link_at bare_url_at scheme_len
    tag_tile tag_at switch_at with_styles style_tree_of toggles_of toggle_at opens_tag closes_tag place_of since next bold_ends_later effect_on
    is_bold_outside_at turn_at nested_tree link_head link_in target_of read_text is_allowed is_forbidden is_good has_signature is_step begins_with_step holds_step ends_with_step
    name_of image is_called namespace_named prefix_of full_name_of whole_in cut_namespace title_in utf8_valid_len is_utf8 chars encode link_to
shut_link = ((λ e. (refl, (refl, ((refl, tt), tt)))), tt)

ended_link : HasEnds (codes "[[b]]")
unfolding words closed form_at comment_len comment_line_len raw_len opening_tag tag_after closing_tag with_inside include_at entity_at named_entity
    decimal_entity hex_entity entity_names sign_word
ended_link = (refl, (refl, (refl, refl)))

link_calm : IsUnbraced (codes "[[b]]")
link_calm = subst (λ (xs : List Item). AreUnbraced xs) (sym items_of_link.1) (refl, (refl, (refl, (refl, (refl, tt)))))

link_utf8 : IsUtf8 (codes "[[b]]")
unfolding encode
link_utf8 = (codes "[[b]]", (refl, refl))

a_node : IsOneNode link
a_node = record {
  flat = tt;
  node = subst (λ (xs : List Item). IsNode Link (map glyph_of xs)) (sym items_of_link.0) a_link;
  closed = subst (λ (xs : List Item). OpensNoPair (map glyph_of xs)) (sym items_of_link.0) (untagged_closed (byte_glyphs (codes "[[b]]")) refl);
  inside = λ e. e;
  unbroken = subst (λ (xs : List Item). IsUnbroken xs) (sym items_of_link.0) (refl, (refl, (refl, (refl, (refl, tt)))));
  own = subst (λ (xs : List Item). AreSomeOfPage (line_parts xs)) (sym items_of_link.0) own_link;
  shut = subst (λ (xs : List Item). AreShutParts (line_parts xs)) (sym items_of_link.0) shut_link;
  ended = ended_link;
  references = tt;
  unbraced = link_calm;
  begins = refl;
  ends = refl;
  unquoted = tt;
  utf8 = link_utf8;
}

-- it shows itself
link_is : (flat link_node ≡ codes "[[b]]") × ((rest : Plains) → parts_shown_at 0 [] (line_parts letters) rest ≡ plain_before link_node rest)
unfolding label_at children context_parts chunks segments loose_segments tiles shapes closes tile_at link_or_url link_at ext_link_at bare_url_at scheme_len
    tag_tile tag_at switch_at with_styles style_tree_of toggles_of toggle_at opens_tag closes_tag place_of since next bold_ends_later effect_on
    is_bold_outside_at turn_at nested_tree link_head link_in target_of read_text is_allowed is_forbidden is_good has_signature is_step begins_with_step holds_step ends_with_step
    name_of image is_called namespace_named prefix_of full_name_of whole_in cut_namespace title_in utf8_valid_len is_utf8 chars encode link_to
link_is = (refl, λ rest. refl)

link_shows : ShowsItself link_node
unfolding label_at children context_parts chunks segments loose_segments tiles shapes closes tile_at link_or_url link_at ext_link_at bare_url_at scheme_len
    tag_tile tag_at switch_at with_styles style_tree_of toggles_of toggle_at opens_tag closes_tag place_of since next bold_ends_later effect_on
    is_bold_outside_at turn_at nested_tree link_head link_in target_of read_text is_allowed is_forbidden is_good has_signature is_step begins_with_step holds_step ends_with_step
    name_of image is_called namespace_named prefix_of full_name_of whole_in cut_namespace title_in utf8_valid_len is_utf8 chars encode link_to
link_shows = record {
  inline = refl;
  unbraced = subst IsUnbraced (sym link_is.0) link_calm;
  shows = λ rest.
      ap (λ (q : List ℕ). parts_shown_at 0 [] (line_parts (page_items q)) rest) link_is.0
      ∙ ap (λ (xs : List Item). parts_shown_at 0 [] (line_parts xs) rest) items_of_link.1
      ∙ link_is.1 rest;
}

-- ---- the block

ones : AreOnes a_word (call ∷ link ∷ [])
ones = (gives_call, (a_node, tt))

-- the link isn't beside the call
meet_here : AllMeetLater a_word (call ∷ link ∷ [])
meet_here = (((λ i j a b. let no : false ≡ true = a in absurd (cc)), tt), (tt, tt))

nodes_here : AreBlockNodes a_word (children_of block)
unfolding label_at children context_parts chunks segments loose_segments tiles shapes closes tile_at link_or_url link_at ext_link_at bare_url_at scheme_len
    tag_tile tag_at switch_at with_styles style_tree_of toggles_of toggle_at opens_tag closes_tag place_of since next bold_ends_later effect_on
    is_bold_outside_at turn_at nested_tree link_head link_in target_of read_text is_allowed is_forbidden is_good has_signature is_step begins_with_step holds_step ends_with_step
    name_of image is_called namespace_named prefix_of full_name_of whole_in cut_namespace title_in utf8_valid_len is_utf8 chars encode link_to
nodes_here =
    let a : IsUtf8 (codes "x") = (codes "x", (refl, refl)) in
    let b : IsUtf8 (codes " ") = (codes " ", (refl, refl)) in (
      (
        refl,
        (((λ e. absurd (cc)), tt), (((λ e. gives_nested), (((λ e. absurd (cc)), tt), tt)), tt)),
        marks_calm,
        ((a, letter_calm), (inl (refl, group_shows), tt)),
        marks_calm,
      ),
      ((b, blank_calm), (inr link_shows, tt)),
    )

pub of_nodes : IsOfNodes a_word block
unfolding label_at children context_parts chunks segments loose_segments tiles shapes closes tile_at link_or_url link_at ext_link_at bare_url_at scheme_len
    tag_tile tag_at switch_at with_styles style_tree_of toggles_of toggle_at opens_tag closes_tag place_of since next bold_ends_later effect_on
    is_bold_outside_at turn_at nested_tree link_head link_in target_of read_text is_allowed is_forbidden is_good has_signature is_step begins_with_step holds_step ends_with_step
    name_of image is_called namespace_named prefix_of full_name_of whole_in cut_namespace title_in utf8_valid_len is_utf8 chars encode link_to
of_nodes = record {
  nodes = nodes_here;
  nest = ((refl, ((λ e. refl), (tt, tt))), ((λ e. refl), (tt, tt)));
  things = subst (AreOnes a_word) (sym things_are) ones;
  meet = subst (AllMeetLater a_word) (sym things_are) meet_here;
  met = subst ArePiecesMet (sym pieces_are) met_here;
}
