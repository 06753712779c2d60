-- Worked case: the page's paragraph `'''x{{t}}z'''y`, where `Template:T` is `''b''`: a call in bold that gives italic, what is sent for it, and what it makes.
use Rattle.std.proofs.Common.{◌≡◌, ◌<◌, ◌==◌, inl, inr, ℕ, zero, suc, false, true, Some, None, List, [], ◌∷◌, arith, refl, sym, ap, ◌∙◌, subst}
use Rattle.std.specs.Prelude.{codes, if◌then◌else◌}
use Rattle.std.specs.Str.{bytes_eq, is_utf8, chars, IsUtf8}
use Rattle.std.specs.Str.Lossy.{utf8_valid_len}
use lib.Utf8.{encode}
use Rattle.wt_span.specs.Comments.{comment_len, comment_line_len}
use Rattle.wt_span.specs.Entities.{entity_at, named_entity, decimal_entity, hex_entity, entity_names}
use Rattle.wt_span.specs.Tags.{raw_len, opening_tag, tag_after, closing_tag, with_inside, is_extension, include_at}
use Rattle.wt_span.specs.Lexemes.{words, closed, sign_word, form_at}
use Rattle.wt_span.specs.Braces.{rewritten, reduced, parts_of, calls, nesting}
use Rattle.wt_span.specs.Items.{Item, char}
use Rattle.wt_span.specs.Origins.{OuterCall}
use Rattle.wt_names.specs.Good.{is_forbidden, is_allowed, has_signature, is_step, begins_with_step, holds_step, ends_with_step, is_good, read_text}
use Rattle.wt_names.specs.Namespace.{name_of, image, is_called, namespace_named, prefix_of, full_name_of}
use Rattle.wt_names.specs.Reading.{whole_in, cut_namespace, title_in}
use Rattle.wt_names.specs.Written.{link_to}
use Rattle.wt_tree.specs.declared.kind.Kind.TheVariants as kind
use Rattle.wt_tree.specs.declared.kind.Mark.TheVariants as marks
use Rattle.wt_tree.specs.Plain.{Plains, plain_before}
use Rattle.wt_tree.specs.Source.{flat}
use Rattle.wt_tree.specs.Tree.{Label, Tree, Trees, label, more, none, tree}
use Rattle.wt_original.specs.Kept.{kept_with}
use Rattle.wt_braces.specs.Found.{too_deep}
use Rattle.wt_expand.specs.PageItems.{page_items}
use Rattle.wt_expand.specs.Work.{Pages, deep_place}
use Rattle.wt_expand.specs.PageCalls.{numbered, page_stretches, expanded_page}
use Rattle.wt_expand.specs.Texts.{trimmed, trimmed_items, name_text}
use Rattle.wt_expand.specs.Targets.{title_in_target, title_of_target, is_function, called}
use Rattle.wt_expand.specs.Templates.{begins_only, ends_only, template_text}
use Rattle.wt_expand.specs.Expansion.{text_members, most_templates, absent_text, loop_text, depth_text}
use Rattle.wt_annotated.specs.CutTexts.{cut_texts}
use Rattle.wt_lines.specs.Lines.{lines}
use Rattle.wt_inline.specs.Parts.{children}
use Rattle.wt_tiles.specs.Tags.{tag_at, opening_tag as opens_tag, closing_tag as closes_tag}
use Rattle.wt_tiles.specs.Tiles.{form_at as tile_at, link_or_url, tag_tile, switch_at, shapes, closed as closes, tiles}
use Rattle.wt_tiles.specs.Links.{link_at}
use Rattle.wt_tiles.specs.Urls.{scheme_len, ext_link_at, bare_url_at}
use Rattle.wt_context.specs.Chunks.{chunks}
use Rattle.wt_context.specs.Line.{context_parts, line_parts}
use Rattle.wt_context.specs.Nodes.{segments}
use Rattle.wt_context.specs.Segments.{loose_segments}
use Rattle.wt_context.specs.Styled.{with_styles}
use Rattle.wt_annotated.specs.Labels.{label_at}
use Rattle.wt_quotes.specs.Runs.{place_of}
use Rattle.wt_quotes.specs.Styles.{style_tree_of}
use Rattle.wt_quotes.specs.Toggles.{toggle_at, toggles_of}
use Rattle.wt_quotes.specs.Turns.{since, next, bold_ends_later, effect_on, is_bold_outside_at, turn_at}
use Rattle.wt_link_spelling.specs.Spelling.{children_of, inline_spelling}
use Rattle.wt_guards.specs.Content.{Thing}
use Rattle.wt_guards.specs.declared.role.Role.TheVariants.{Group}
use Rattle.wt_guards.specs.Guards.{nowiki, is_guarded, is_between_guard, is_start_guard, is_end_guard, is_blank_guard, is_parted}
use Rattle.wt_guards.specs.Letters.{is_escaped}
use Rattle.wt_guards.specs.Table.{hazard, line_start_hazard}
use Rattle.wt_part_laws.specs.Expanded.{GivesAnywhere, part_items}
use Rattle.wt_part_laws.specs.HeldCalls.{block_in}
use Rattle.wt_part_laws.specs.MovedCalls.{AreMoved}
use Rattle.wt_typed_blocks.specs.Edited.{Pieces, around, gone, kept, no_pieces, written}
use Rattle.wt_text_edit_laws.specs.NoCalls.{AreUnbraced}
use Rattle.wt_text_edit_laws.specs.ParagraphParts.{joined_parts, para_with}
use Rattle.wt_text_edit_laws.specs.TextBlocks.{a_paragraph}
use Rattle.wt_beside_laws.specs.ContentEdits.{new_content}
use Rattle.wt_beside_laws.proofs.Groups.GivenCases.{beside_styles, italic_in_bold, of_call, one_style}
use Rattle.wt_beside_laws.specs.Called.{GivesGroup}
use Rattle.wt_beside_laws.specs.Given.{IsGroup}
use Rattle.wt_beside_laws.specs.Shown.{parts_shown_at}
use Rattle.wt_beside_laws.specs.StyledCalls.{PartsNestIn}
use Rattle.wt_called_edit_laws.specs.CalledEdits.{page_things, ShowsAsGiven, MakesContentIn}
use Rattle.wt_called_edit_laws.specs.InPieces.{AreInPieces}
use Rattle.wt_called_edit_laws.specs.PageThings.{ArePageThings, thing_sources}
use Rattle.wt_called_edit_laws.specs.SentAsIs.{as_sent}
use Rattle.wt_called_edit_laws.specs.Settled.{settled}
use Rattle.wt_called_edit_laws.specs.StyledCallEdits.{AreNodesBeside, AreOwnThings, GivesNested, IsBesideStyles, IsNodeBeside, IsStyledCallEdit, NestedGroups}
use Rattle.wt_called_edit_laws.specs.WrittenAnew.{StayButForOthers}
use Rattle.wt_called_edit_laws.proofs.Cells.SentAsIs.{stands_as_sent}
use Rattle.wt_called_edit_laws.proofs.Written.Cases.{call_sealed, call_settles, call_utf8}
use Rattle.wt_called_edit_laws.specs.Written.{IsOwnPart, IsReadThing}
use Rattle.wt_called_edit_laws.proofs.Styles.Making.{styles_make}
use Rattle.wt_called_edit_laws.proofs.Written.Joined.{calm_written}

abbrev pub source : List ℕ
source = codes "'''x{{t}}z'''y"

-- `Template:T` is an italic word, and no other page is there
abbrev pub a_style : Pages
a_style full = if bytes_eq full (codes "Template:T") then Some (codes "''b''") else None

-- the bytes that its call gives
abbrev pub style_items : ℕ → List Item
style_items i = of_call i (codes "''b''")

-- its items, of which `''b''` comes from the call, where so many calls come before it
abbrev pub given : ℕ → List Item
given i =
    char None 39 ∷ char None 39 ∷ char None 39 ∷ char None 120 ∷ char (Some i) 39 ∷ char (Some i) 39 ∷ char (Some i) 98 ∷ char (Some i) 39 ∷ char (Some i) 39
    ∷ char None 122 ∷ char None 39 ∷ char None 39 ∷ char None 39 ∷ char None 121 ∷ []

pub items_are : (i : ℕ) → part_items a_style i source ≡ given i
unfolding words closed form_at comment_len comment_line_len raw_len opening_tag tag_after closing_tag with_inside is_extension
    include_at entity_at named_entity decimal_entity hex_entity entity_names sign_word reduced rewritten parts_of text_members trimmed
    trimmed_items name_text called most_templates is_function title_of_target title_in_target read_text is_allowed is_forbidden
    is_good has_signature is_step begins_with_step holds_step ends_with_step name_of image is_called namespace_named prefix_of
    full_name_of whole_in cut_namespace title_in template_text begins_only ends_only loop_text depth_text absent_text
    utf8_valid_len is_utf8 chars encode link_to page_stretches
items_are i = refl

abbrev pub a_call : OuterCall
a_call = record { start = 4; source = codes "{{t}}"; argument = false; parts = (3, 4) ∷ []; equals = None ∷ []; href = None }

-- the call, in the bold text
abbrev pub call : Thing
call = record { role = Group beside_styles; source = codes "{{t}}"; place = Some (record { start = 4; end = 9 }) }

-- ---- the page's block

-- by its items
abbrev pub block_by : List Item → Tree
block_by xs = settled 1 0 (cut_texts (block_in (a_call ∷ []) (para_with (joined_parts (lines xs)))))

abbrev block : Tree
block = block_by (given 0)

abbrev a_label : Label
a_label = record { id = 0; kind = kind.Text; attrs = []; mw = None; shown = []; mark = marks.Nothing; ranges = None; opening = []; closing = []; own = []; origin = None }

abbrev nth : ℕ → Trees → Tree
nth n none = tree a_label none
nth zero (more t us) = t
nth (suc n) (more t us) = nth n us

abbrev bold_node : Tree
bold_node = nth 0 (children_of block)

abbrev group : Tree
group = nth 1 (children_of bold_node)

-- the call is a group, which is the one node in the bold one
things_are : page_things block ≡ call ∷ []
unfolding kept_with label_at context_parts chunks segments loose_segments tiles shapes closes tile_at link_or_url link_at ext_link_at bare_url_at scheme_len
    tag_tile tag_at switch_at children with_styles style_tree_of toggles_of toggle_at opens_tag closes_tag place_of since next bold_ends_later effect_on
    is_bold_outside_at turn_at
things_are = refl

-- ---- it is in pieces

abbrev pub pieces : List (List ℕ)
pieces = codes "'''x" ∷ codes "{{t}}" ∷ codes "z'''y" ∷ []

first_calm : AreUnbraced (page_items (codes "'''x"))
unfolding page_items words closed form_at comment_len comment_line_len raw_len opening_tag tag_after closing_tag with_inside include_at entity_at named_entity
    decimal_entity hex_entity entity_names sign_word
first_calm = (refl, (refl, (refl, (refl, tt))))

last_calm : AreUnbraced (page_items (codes "z'''y"))
unfolding page_items words closed form_at comment_len comment_line_len raw_len opening_tag tag_after closing_tag with_inside include_at entity_at named_entity
    decimal_entity hex_entity entity_names sign_word
last_calm = (refl, (refl, (refl, (refl, (refl, tt)))))

-- however many calls come before it, the call gives that
gives_items : (i : ℕ) → numbered i (page_stretches a_style (codes "{{t}}")) ≡ style_items i
unfolding words closed form_at comment_len comment_line_len raw_len opening_tag tag_after closing_tag with_inside is_extension
    include_at entity_at named_entity decimal_entity hex_entity entity_names sign_word reduced rewritten parts_of text_members trimmed
    trimmed_items name_text called most_templates is_function title_of_target title_in_target read_text is_allowed is_forbidden
    is_good has_signature is_step begins_with_step holds_step ends_with_step name_of image is_called namespace_named prefix_of
    full_name_of whole_in cut_namespace title_in template_text begins_only ends_only loop_text depth_text absent_text
    utf8_valid_len is_utf8 chars encode link_to page_stretches expanded_page
gives_items i = refl

gives_style : GivesGroup a_style beside_styles (codes "{{t}}")
gives_style = λ i. subst (IsGroup beside_styles i) (sym (gives_items i)) (one_style i)

call_anywhere : GivesAnywhere a_style (codes "{{t}}")
unfolding words closed form_at comment_len comment_line_len raw_len opening_tag tag_after closing_tag with_inside is_extension
    include_at entity_at named_entity decimal_entity hex_entity entity_names sign_word reduced rewritten parts_of text_members trimmed
    trimmed_items name_text called most_templates is_function title_of_target title_in_target read_text is_allowed is_forbidden
    is_good has_signature is_step begins_with_step holds_step ends_with_step name_of image is_called namespace_named prefix_of
    full_name_of whole_in cut_namespace title_in template_text begins_only ends_only loop_text depth_text absent_text
    utf8_valid_len is_utf8 chars encode link_to page_stretches expanded_page
call_anywhere = record { outputs = refl; alike = λ at. record { items = λ k. refl; outers = refl; texts = refl } }

call_part : IsOwnPart a_style (codes "{{t}}")
unfolding words closed form_at comment_len comment_line_len raw_len opening_tag tag_after closing_tag with_inside is_extension
    include_at entity_at named_entity decimal_entity hex_entity entity_names sign_word reduced rewritten parts_of text_members trimmed
    trimmed_items name_text called most_templates is_function title_of_target title_in_target read_text is_allowed is_forbidden
    is_good has_signature is_step begins_with_step holds_step ends_with_step name_of image is_called namespace_named prefix_of
    full_name_of whole_in cut_namespace title_in template_text begins_only ends_only loop_text depth_text absent_text
    utf8_valid_len is_utf8 chars encode link_to page_stretches expanded_page deep_place too_deep calls nesting
call_part = record { left = refl; anywhere = call_anywhere; texts = refl; undeep = refl }

pub in_pieces : AreInPieces a_style pieces
unfolding words closed form_at comment_len comment_line_len raw_len opening_tag tag_after closing_tag with_inside include_at entity_at named_entity
    decimal_entity hex_entity entity_names sign_word
in_pieces =
    let first = calm_written a_style (codes "'''x") first_calm in
    let last = calm_written a_style (codes "z'''y") last_calm in
    (first.part, inl refl, (call_part, inl refl, (last.part, inl refl, tt)))

no_calls : (os : List OuterCall) → AreMoved [] os → os ≡ []
no_calls [] m = refl
no_calls (o ∷ os) m = absurd m

pub among : StayButForOthers a_style pieces (codes "{{t}}" ∷ [])
among =
    let first = calm_written a_style (codes "'''x") first_calm in
    let last = calm_written a_style (codes "z'''y") last_calm in
    inr (
      no_calls (expanded_page a_style (codes "'''x")).outer first.calls_are,
      inl (refl, (no_calls (expanded_page a_style (codes "z'''y")).outer last.calls_are, tt)),
    )

call_read : IsReadThing call
call_read = record { source = inr (record { others = codes "{t}}"; is = refl; settles = call_settles }, refl); begins = refl; ends = refl }

pub of_page : ArePageThings a_style (call ∷ [])
of_page = (
  record { folder = gives_style; read = call_read; part = call_part; sealed = call_sealed; shut = (refl, λ e. cc); utf8 = call_utf8 },
  tt,
  tt,
)

-- what it shows is its italic word
tree_is : flat group ≡ codes "{{t}}"
unfolding label_at context_parts chunks segments loose_segments tiles shapes closes tile_at link_or_url link_at ext_link_at bare_url_at scheme_len
    tag_tile tag_at switch_at children with_styles style_tree_of toggles_of toggle_at opens_tag closes_tag place_of since next bold_ends_later effect_on
    is_bold_outside_at turn_at
tree_is = refl

tree_shows : (i : ℕ) (rest : Plains) → parts_shown_at 0 [] (line_parts (style_items i)) rest ≡ plain_before group rest
unfolding label_at context_parts chunks segments loose_segments tiles shapes closes tile_at link_or_url link_at ext_link_at bare_url_at scheme_len
    tag_tile tag_at switch_at children with_styles style_tree_of toggles_of toggle_at opens_tag closes_tag place_of since next bold_ends_later effect_on
    is_bold_outside_at turn_at
tree_shows i rest = refl

group_shows : ShowsAsGiven a_style group
group_shows = λ i rest.
    ap (λ (q : List ℕ). parts_shown_at 0 [] (line_parts (part_items a_style i q)) rest) tree_is
    ∙ ap (λ (xs : List Item). parts_shown_at 0 [] (line_parts xs) rest) (gives_items i)
    ∙ tree_shows i rest

-- and may be in bold
gives_nested : GivesNested a_style true false (flat group)
gives_nested = λ i.
    subst (λ (q : List ℕ). PartsNestIn true false (line_parts (part_items a_style i q))) (sym tree_is)
    (subst (λ (xs : List Item). PartsNestIn true false (line_parts xs)) (sym (gives_items i)) (italic_in_bold i))

not_true : false ≡ true → ⊥
not_true e = cc

groups_nested : NestedGroups a_style true false (children_of bold_node)
unfolding label_at context_parts chunks segments loose_segments tiles shapes closes tile_at link_or_url link_at ext_link_at bare_url_at scheme_len
    tag_tile tag_at switch_at children with_styles style_tree_of toggles_of toggle_at opens_tag closes_tag place_of since next bold_ends_later effect_on
    is_bold_outside_at turn_at
groups_nested = (
  ((λ e. absurd (not_true e)), tt),
  (
    ((λ e. gives_nested), (((λ e. absurd (not_true e)), (((λ e. absurd (not_true e)), tt), tt)), tt)),
    (((λ e. absurd (not_true e)), tt), tt),
  ),
)

a_letter : IsUtf8 (codes "x") × IsUtf8 (codes "z") × IsUtf8 (codes "y")
unfolding encode
a_letter = ((codes "x", (refl, refl)), (codes "z", (refl, refl)), (codes "y", (refl, refl)))

x_beside : IsNodeBeside a_style (nth 0 (children_of bold_node))
unfolding label_at context_parts chunks segments loose_segments tiles shapes closes tile_at link_or_url link_at ext_link_at bare_url_at scheme_len
    tag_tile tag_at switch_at children with_styles style_tree_of toggles_of toggle_at opens_tag closes_tag place_of since next bold_ends_later effect_on
    is_bold_outside_at turn_at
x_beside = (a_letter.0, record { inline = refl; shows = λ n. absurd n })

group_beside : IsNodeBeside a_style group
unfolding label_at context_parts chunks segments loose_segments tiles shapes closes tile_at link_or_url link_at ext_link_at bare_url_at scheme_len
    tag_tile tag_at switch_at children with_styles style_tree_of toggles_of toggle_at opens_tag closes_tag place_of since next bold_ends_later effect_on
    is_bold_outside_at turn_at
group_beside = record { inline = refl; shows = λ n. group_shows }

z_beside : IsNodeBeside a_style (nth 2 (children_of bold_node))
unfolding label_at context_parts chunks segments loose_segments tiles shapes closes tile_at link_or_url link_at ext_link_at bare_url_at scheme_len
    tag_tile tag_at switch_at children with_styles style_tree_of toggles_of toggle_at opens_tag closes_tag place_of since next bold_ends_later effect_on
    is_bold_outside_at turn_at
z_beside = (a_letter.1, record { inline = refl; shows = λ n. absurd n })

y_beside : IsNodeBeside a_style (nth 1 (children_of block))
unfolding label_at context_parts chunks segments loose_segments tiles shapes closes tile_at link_or_url link_at ext_link_at bare_url_at scheme_len
    tag_tile tag_at switch_at children with_styles style_tree_of toggles_of toggle_at opens_tag closes_tag place_of since next bold_ends_later effect_on
    is_bold_outside_at turn_at
y_beside = (a_letter.2, record { inline = refl; shows = λ n. absurd n })

are_nodes : AreNodesBeside a_style (children_of block)
unfolding label_at context_parts chunks segments loose_segments tiles shapes closes tile_at link_or_url link_at ext_link_at bare_url_at scheme_len
    tag_tile tag_at switch_at children with_styles style_tree_of toggles_of toggle_at opens_tag closes_tag place_of since next bold_ends_later effect_on
    is_bold_outside_at turn_at
are_nodes = ((refl, groups_nested, (x_beside, (group_beside, (z_beside, tt)))), (y_beside, tt))

not_zero : (n : ℕ) → (n == 0) ≡ false → n ≡ 0 → ⊥
not_zero n f e = let no : false ≡ true = sym f ∙ ap (λ (m : ℕ). m == 0) e in cc

pub in_class : IsBesideStyles a_style a_paragraph source block
unfolding label_at context_parts chunks segments loose_segments tiles shapes closes tile_at link_or_url link_at ext_link_at bare_url_at scheme_len
    tag_tile tag_at switch_at children with_styles style_tree_of toggles_of toggle_at opens_tag closes_tag place_of since next bold_ends_later effect_on
    is_bold_outside_at turn_at
    chars encode
in_class = record {
  pieces = pieces;
  is = refl;
  parts = in_pieces;
  numbers = ((not_zero (label bold_node).id refl, (tt, (not_zero (label group).id refl, (tt, tt)))), (tt, tt));
  children = are_nodes;
  nest = ((refl, ((λ e. refl), (tt, ((λ e. refl), tt)))), ((λ e. refl), tt));
  things = subst (ArePageThings a_style) (sym things_are) of_page;
  own = subst (AreOwnThings a_style) (sym things_are) (record { some = λ e. absurd (cc); unquoted = tt; gives = inl refl }, tt);
  among = subst (λ (ts : List Thing). StayButForOthers a_style pieces (thing_sources ts)) (sym things_are) among;
  round = tt;
}

-- ---- what is sent

-- `w` in bold before the call, of which the elements are sent that are written for it, `u` behind it, and `v` behind the bold text
abbrev edit : Pieces
edit =
    around (label bold_node) (label bold_node)
    (gone (nth 0 (children_of bold_node)) (written a_label (codes "w") (kept group (as_sent group)
    (gone (nth 2 (children_of bold_node)) (written a_label (codes "u") no_pieces)))))
    (gone (nth 1 (children_of block)) (written a_label (codes "v") no_pieces))

are_letters : IsUtf8 (codes "w") × IsUtf8 (codes "u") × IsUtf8 (codes "v")
unfolding encode
are_letters = ((codes "w", (refl, refl)), (codes "u", (refl, refl)), (codes "v", (refl, refl)))

pub edit_of : IsStyledCallEdit a_style a_paragraph block edit
unfolding label_at context_parts chunks segments loose_segments tiles shapes closes tile_at link_or_url link_at ext_link_at bare_url_at scheme_len
    tag_tile tag_at switch_at children with_styles style_tree_of toggles_of toggle_at opens_tag closes_tag place_of since next bold_ends_later effect_on
    is_bold_outside_at turn_at
    kept_with chars encode
edit_of = record {
  old = refl;
  stay = (
    inl refl,
    record { kind = refl; id = refl; attrs = refl; mw = refl; shown = λ e. refl; unmarked = refl },
    (stands_as_sent group (record { numbered = not_zero (label group).id refl; unnumbered = (refl, (refl, tt)); unframed = refl }), tt),
    tt,
  );
  are = ((are_letters.0, (tt, (are_letters.1, tt))), (are_letters.2, tt));
  calm = ((tt, (tt, tt)), (tt, tt));
  new = (((λ e. refl), ((λ e. refl), tt)), ((λ e. refl), tt));
  free = (tt, tt);
  fits = inr (inl refl);
}

-- So it is taken, and makes the new block with its group in bold.
pub makes : MakesContentIn a_style a_paragraph source block a_label edit
makes =
    let some : 0 < 1 = omega arith in
    styles_make a_style a_paragraph source block a_label edit 1 0 0 (a_call ∷ []) some (ap block_by (sym (items_are 0))) in_class edit_of

-- `<nowiki/>` is put between the new texts and the call
pub written_is : new_content a_paragraph block a_label edit ≡ codes "'''w<nowiki/>{{t}}<nowiki/>u'''v"
unfolding inline_spelling kept_with label_at context_parts chunks segments loose_segments tiles shapes closes tile_at link_or_url link_at ext_link_at bare_url_at scheme_len
    tag_tile tag_at switch_at children with_styles style_tree_of toggles_of toggle_at opens_tag closes_tag place_of since next bold_ends_later effect_on
    is_bold_outside_at turn_at
    nowiki is_guarded is_between_guard is_start_guard is_end_guard is_blank_guard is_parted hazard line_start_hazard is_escaped chars encode
written_is = refl
