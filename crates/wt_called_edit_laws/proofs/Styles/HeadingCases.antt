-- Worked case: the heading `== '''x'''{{t}}y ==` of the page, where `Template:T` is a word: bold and italic beside its call, what is sent for it, and what it
-- makes.
use Rattle.std.proofs.Common.{◌≡◌, ◌<◌, inl, inr, ℕ, zero, suc, false, Some, None, List, [], ◌∷◌, arith, refl, sym, ap, ◌∙◌, subst}
use Rattle.std.specs.Prelude.{codes}
use Rattle.std.specs.Str.{chars, IsUtf8}
use lib.Utf8.{encode}
use Rattle.wt_span.specs.Comments.{comment_len, comment_line_len}
use Rattle.wt_span.specs.Entities.{entity_at, named_entity, decimal_entity, hex_entity, entity_names}
use Rattle.wt_span.specs.Tags.{raw_len, opening_tag, tag_after, closing_tag, with_inside, include_at}
use Rattle.wt_span.specs.Lexemes.{words, closed, sign_word, form_at}
use Rattle.wt_span.specs.Items.{Item}
use Rattle.wt_span.specs.Origins.{OuterCall}
use Rattle.wt_tree.specs.declared.kind.Kind.TheVariants as kind
use Rattle.wt_tree.specs.declared.kind.Mark.TheVariants as marks
use Rattle.wt_tree.specs.Plain.{Plains, plain_before, text_before}
use Rattle.wt_tree.specs.Source.{flat}
use Rattle.wt_tree.specs.Tree.{Label, Tree, Trees, label, more, none, tree}
use Rattle.wt_original.specs.Kept.{kept_with}
use Rattle.wt_expand.specs.PageItems.{page_items}
use Rattle.wt_annotated.specs.CutTexts.{cut_texts}
use Rattle.wt_inline.specs.Parts.{children}
use Rattle.wt_tiles.specs.Tags.{tag_at, opening_tag as opens_tag, closing_tag as closes_tag}
use Rattle.wt_tiles.specs.Tiles.{form_at as tile_at, link_or_url, tag_tile, switch_at, shapes, closed as closes, tiles}
use Rattle.wt_tiles.specs.Links.{link_at}
use Rattle.wt_tiles.specs.Urls.{scheme_len, ext_link_at, bare_url_at}
use Rattle.wt_context.specs.Chunks.{chunks}
use Rattle.wt_context.specs.Line.{context_parts, line_parts}
use Rattle.wt_context.specs.Nodes.{segments}
use Rattle.wt_context.specs.Segments.{loose_segments}
use Rattle.wt_context.specs.Styled.{with_styles}
use Rattle.wt_annotated.specs.Labels.{label_at}
use Rattle.wt_quotes.specs.Runs.{place_of}
use Rattle.wt_quotes.specs.Styles.{style_tree_of}
use Rattle.wt_quotes.specs.Toggles.{toggle_at, toggles_of}
use Rattle.wt_quotes.specs.Turns.{since, next, bold_ends_later, effect_on, is_bold_outside_at, turn_at}
use Rattle.wt_link_spelling.specs.Spelling.{children_of, inline_spelling}
use Rattle.wt_guards.specs.Content.{Thing}
use Rattle.wt_guards.specs.declared.role.Role.TheVariants.{Group}
use Rattle.wt_guards.specs.Guards.{nowiki, is_guarded, is_between_guard, is_start_guard, is_end_guard, is_blank_guard, is_parted}
use Rattle.wt_guards.specs.Letters.{is_escaped}
use Rattle.wt_guards.specs.Table.{hazard, line_start_hazard}
use Rattle.wt_part_laws.specs.Expanded.{part_items}
use Rattle.wt_part_laws.specs.HeldCalls.{block_in}
use Rattle.wt_typed_blocks.specs.Edited.{Pieces, around, gone, kept, new_style, no_pieces, written}
use Rattle.wt_beside_laws.specs.ContentEdits.{new_content}
use Rattle.wt_beside_laws.proofs.Groups.Cases.{a_word, beside_letters, gives_b, gives_char}
use Rattle.wt_beside_laws.specs.Shown.{parts_shown_at}
use Rattle.wt_called_edit_laws.specs.CalledEdits.{page_things, ShowsAsGiven, MakesContentIn}
use Rattle.wt_called_edit_laws.specs.PageThings.{ArePageThings, thing_sources}
use Rattle.wt_called_edit_laws.specs.SentAsIs.{as_sent}
use Rattle.wt_called_edit_laws.specs.Settled.{settled}
use Rattle.wt_called_edit_laws.specs.StyledCallEdits.{AreNodesBeside, AreOwnThings, IsBesideStyles, IsStyledCallEdit}
use Rattle.wt_called_edit_laws.specs.WrittenAnew.{StayButForOthers}
use Rattle.wt_called_edit_laws.proofs.Beside.Cases.{shows_word}
use Rattle.wt_called_edit_laws.proofs.Cells.SentAsIs.{stands_as_sent}
use Rattle.wt_called_edit_laws.proofs.Written.Cases.{call_part, call_sealed, call_settles, call_utf8}
use Rattle.wt_called_edit_laws.specs.Written.{IsReadThing}
use Rattle.wt_called_edit_laws.proofs.Styles.Making.{styles_make}
use Rattle.wt_text_edit_laws.specs.ReadContents.{IsReadContent}
use Rattle.wt_text_edit_laws.specs.TextBlocks.{a_heading}
use Rattle.wt_text_edit_laws.specs.TypedHeadings.{heading_round}
use Rattle.wt_beside_laws.specs.Called.{AllSeenIn}
use Rattle.wt_called_edit_laws.proofs.Headings.Cases.{two, frame, seen}
use Rattle.wt_called_edit_laws.proofs.Styles.Cases.{source, given, items_are, pieces, in_pieces, among}

abbrev a_call : OuterCall
a_call = record { start = 10; source = codes "{{t}}"; argument = false; parts = (6, 7) ∷ []; equals = None ∷ []; href = None }

-- the call, behind the bold text
abbrev pub own_call : Thing
own_call = record { role = Group beside_letters; source = codes "{{t}}"; place = Some (record { start = 10; end = 15 }) }

-- ---- the page's block

-- by its items
abbrev block_by : List Item → Tree
block_by xs = settled 1 0 (cut_texts (block_in (a_call ∷ []) (heading_round two xs)))

abbrev block : Tree
block = block_by (given 0)

abbrev a_label : Label
a_label = record { id = 0; kind = kind.Text; attrs = []; mw = None; shown = []; mark = marks.Nothing; ranges = None; opening = []; closing = []; own = []; origin = None }

abbrev nth : ℕ → Trees → Tree
nth n none = tree a_label none
nth zero (more t us) = t
nth (suc n) (more t us) = nth n us

abbrev bold_node : Tree
bold_node = nth 0 (children_of block)

abbrev group : Tree
group = nth 1 (children_of block)

-- the call is a group, which is the block's one node but for the bold one
things_are : page_things block ≡ own_call ∷ []
unfolding kept_with page_items words closed label_at context_parts chunks segments loose_segments tiles shapes closes tile_at link_or_url link_at ext_link_at bare_url_at scheme_len
    tag_tile tag_at switch_at children with_styles style_tree_of toggles_of toggle_at opens_tag closes_tag place_of since next bold_ends_later effect_on
    is_bold_outside_at turn_at
things_are = refl

-- ---- its call

call_read : IsReadThing own_call
call_read = record { source = inr (record { others = codes "{t}}"; is = refl; settles = call_settles }, refl); begins = refl; ends = refl }

pub of_page : ArePageThings a_word (own_call ∷ [])
of_page = (
  record { folder = gives_b; read = call_read; part = call_part; sealed = call_sealed; shut = (refl, λ e. cc); utf8 = call_utf8 },
  tt,
  tt,
)

-- what it shows is its word
group_is : (flat group ≡ codes "{{t}}") × ((rest : Plains) → plain_before group rest ≡ text_before (codes "b") rest)
unfolding label_at context_parts chunks segments loose_segments tiles shapes closes tile_at link_or_url link_at ext_link_at bare_url_at scheme_len
    tag_tile tag_at switch_at children with_styles style_tree_of toggles_of toggle_at opens_tag closes_tag place_of since next bold_ends_later effect_on
    is_bold_outside_at turn_at
group_is = (refl, λ rest. refl)

group_shows : ShowsAsGiven a_word group
group_shows = λ i rest.
    ap (λ (q : List ℕ). parts_shown_at 0 [] (line_parts (part_items a_word i q)) rest) group_is.0
    ∙ ap (λ (xs : List Item). parts_shown_at 0 [] (line_parts xs) rest) (gives_char i)
    ∙ shows_word i rest
    ∙ sym (group_is.1 rest)

are_nodes : AreNodesBeside a_word (children_of block)
unfolding label_at context_parts chunks segments loose_segments tiles shapes closes tile_at link_or_url link_at ext_link_at bare_url_at scheme_len
    tag_tile tag_at switch_at children with_styles style_tree_of toggles_of toggle_at opens_tag closes_tag place_of since next bold_ends_later effect_on
    is_bold_outside_at turn_at
    encode
are_nodes =
    let a : IsUtf8 (codes "x") = (codes "x", (refl, refl)) in
    let b : IsUtf8 (codes "y") = (codes "y", (refl, refl)) in (
      (refl, (((λ e. absurd (cc)), tt), tt), ((a, record { inline = refl; shows = λ n. absurd n }), tt)),
      (
        record { inline = refl; shows = λ n. group_shows },
        ((b, record { inline = refl; shows = λ n. absurd n }), tt),
      ),
    )

-- ---- it is read so between its `=`

source_utf8 : IsUtf8 source
unfolding encode
source_utf8 = (source, (refl, refl))

pub read : IsReadContent (a_heading two) source
unfolding page_items words closed form_at comment_len comment_line_len raw_len opening_tag tag_after closing_tag with_inside include_at entity_at named_entity
    decimal_entity hex_entity entity_names sign_word
read = record { utf8 = source_utf8; ended = refl; unended = refl; begins = frame }

pub in_class : IsBesideStyles a_word (a_heading two) source block
unfolding label_at context_parts chunks segments loose_segments tiles shapes closes tile_at link_or_url link_at ext_link_at bare_url_at scheme_len
    tag_tile tag_at switch_at children with_styles style_tree_of toggles_of toggle_at opens_tag closes_tag place_of since next bold_ends_later effect_on
    is_bold_outside_at turn_at
    chars encode
in_class = record {
  pieces = pieces;
  is = refl;
  parts = in_pieces;
  numbers = (((λ e. cc), (tt, tt)), ((λ e. cc), (tt, tt)));
  children = are_nodes;
  nest = ((refl, ((λ e. refl), tt)), (tt, ((λ e. refl), tt)));
  things = subst (ArePageThings a_word) (sym things_are) of_page;
  own = subst (AreOwnThings a_word) (sym things_are) (record { some = λ e. absurd (cc); unquoted = tt; gives = inl refl }, tt);
  among = subst (λ (ts : List Thing). StayButForOthers a_word pieces (thing_sources ts)) (sym things_are) among;
  round = (read, subst (AllSeenIn a_word) (sym things_are) (seen, tt));
}

-- ---- what is sent

-- `xz` in bold before the call, of which the elements are sent that are written for it, and `v` in italics behind it
abbrev edit : Pieces
edit =
    around (label bold_node) (label bold_node) (gone (nth 0 (children_of bold_node)) (written a_label (codes "xz") no_pieces))
    (kept group (as_sent group)
    (gone (nth 2 (children_of block)) (new_style (record a_label { kind = kind.Italic }) (written a_label (codes "v") no_pieces) no_pieces)))

are_letters : IsUtf8 (codes "xz") × IsUtf8 (codes "v")
unfolding encode
are_letters = ((codes "xz", (refl, refl)), (codes "v", (refl, refl)))

pub edit_of : IsStyledCallEdit a_word (a_heading two) block edit
unfolding label_at context_parts chunks segments loose_segments tiles shapes closes tile_at link_or_url link_at ext_link_at bare_url_at scheme_len
    tag_tile tag_at switch_at children with_styles style_tree_of toggles_of toggle_at opens_tag closes_tag place_of since next bold_ends_later effect_on
    is_bold_outside_at turn_at
    kept_with chars encode
edit_of = record {
  old = refl;
  stay = (
    inl refl,
    record { kind = refl; id = refl; attrs = refl; mw = refl; shown = λ e. refl; unmarked = refl },
    tt,
    (
      stands_as_sent group (record { numbered = λ e. cc; unnumbered = (refl, tt); unframed = refl }),
      (inr refl, tt, tt),
    ),
  );
  are = ((are_letters.0, tt), (tt, ((are_letters.1, tt), tt)));
  calm = ((tt, tt), (tt, (tt, tt)));
  new = (((λ e. refl), tt), (refl, refl, ((λ e. refl), tt), tt));
  free = (tt, (tt, tt, tt));
  fits = tt;
}

-- So it is taken, and makes the new heading with its group.
pub makes : MakesContentIn a_word (a_heading two) source block a_label edit
makes =
    let some : 0 < 1 = omega arith in
    styles_make a_word (a_heading two) source block a_label edit 1 0 0 (a_call ∷ []) some (ap block_by (sym (items_are 0))) in_class edit_of

-- `<nowiki/>` is put between the call and the new style
pub written_is : new_content (a_heading two) block a_label edit ≡ codes "'''xz'''{{t}}<nowiki/>''v''"
unfolding inline_spelling kept_with label_at context_parts chunks segments loose_segments tiles shapes closes tile_at link_or_url link_at ext_link_at bare_url_at scheme_len
    tag_tile tag_at switch_at children with_styles style_tree_of toggles_of toggle_at opens_tag closes_tag place_of since next bold_ends_later effect_on
    is_bold_outside_at turn_at
    nowiki is_guarded is_between_guard is_start_guard is_end_guard is_blank_guard is_parted hazard line_start_hazard is_escaped chars encode
written_is = refl
