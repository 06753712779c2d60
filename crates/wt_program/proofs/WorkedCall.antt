-- A worked call, by computing what the page and the HTML are, and by the law what becomes of them.
use Rattle.std.proofs.Common.{◌≡◌, ℕ, false, Option, Some, None, List, [], ◌∷◌, length, refl, sym, ap, ◌∙◌, subst, arith, inl, codes}
use Rattle.std.specs.Prelude.{◌⊎◌}
use Rattle.std.specs.Fmt.{digits}
use Rattle.std.specs.Str.{chars, IsUtf8}
use Rattle.std.proofs.lemmas.Str.{IsUtf8-nil}
use lib.Utf8.{encode}
use Rattle.wt_span.specs.Comments.{comment_len, comment_line_len}
use Rattle.wt_span.specs.Entities.{named_entity, entity_names, decimal_entity, hex_entity, entity_at}
use Rattle.wt_span.specs.Lexemes.{sign_word, form_at, closed, words}
use Rattle.wt_span.specs.Tags.{tag_after, opening_tag, closing_tag, with_inside, is_extension, raw_len, include_at}
use Rattle.wt_devices.specs.Device.{Pages}
use Rattle.wt_tree.specs.declared.edit_shape.Place.TheVariants as place
use Rattle.wt_tree.specs.declared.kind.AttrName.{AttrName}
use Rattle.wt_tree.specs.declared.kind.Kind.{Kind}
use Rattle.wt_tree.specs.declared.kind.Kind.TheVariants as kind
use Rattle.wt_tree.specs.declared.kind.Mark.{Mark}
use Rattle.wt_tree.specs.declared.kind.Mark.TheVariants as marks
use Rattle.wt_tree.specs.declared.kind.Ranges.{Ranges}
use Rattle.wt_tree.specs.Kinds.{spelling, tag_name, attribute_name}
use Rattle.wt_tree.specs.Leaves.{leaf_label, text_leaf, sep_leaf}
use Rattle.wt_tree.specs.Tree.{Label, Tree, tree, Trees, none, more, label}
use Rattle.wt_tree.specs.Values.{placeholder, switch_prefix, is_switch}
use Rattle.wt_names.specs.Good.{is_forbidden, is_allowed, has_signature, is_step, begins_with_step, holds_step, ends_with_step, is_good, read_text}
use Rattle.wt_names.specs.Namespace.{name_of, image, is_called, namespace_named, prefix_of, full_name_of}
use Rattle.wt_names.specs.Reading.{whole_in, cut_namespace, title_in}
use Rattle.wt_lines.specs.Kinds.{kind_of_signs}
use Rattle.wt_blocks.specs.Headings.{opening, inside, closing, level}
use Rattle.wt_guards.specs.Guards.{nowiki, is_guarded, is_between_guard, is_start_guard, is_end_guard, is_blank_guard, is_parted}
use Rattle.wt_guards.specs.Letters.{is_escaped, reference}
use Rattle.wt_guards.specs.Table.{hazard, line_start_hazard}
use Rattle.wt_inline.specs.Parts.{children}
use Rattle.wt_tiles.specs.Links.{link_at}
use Rattle.wt_tiles.specs.Urls.{scheme_len, kept_len, ext_link_at, bare_url_at}
use Rattle.wt_tiles.specs.Tags.{tag_at, opening_tag as tile_opening_tag, closing_tag as tile_closing_tag}
use Rattle.wt_tiles.specs.Tiles.{tag_tile, switch_at, link_or_url, form_at as tile_form_at, closed as tiles_closed, shapes, tiles}
use Rattle.wt_quotes.specs.Toggles.{toggle_at, toggles_of}
use Rattle.wt_quotes.specs.Styles.{style_tree_of}
use Rattle.wt_context.specs.Segments.{loose_segments}
use Rattle.wt_context.specs.Chunks.{chunks}
use Rattle.wt_context.specs.Styled.{with_styles}
use Rattle.wt_context.specs.Nodes.{segments}
use Rattle.wt_context.specs.Line.{context_parts, line_trees}
use Rattle.wt_page.specs.Headings.{heading}
use Rattle.wt_page.specs.Rows.{rows}
use Rattle.wt_page.specs.Texts.{para}
use Rattle.wt_page.specs.Body.{blocks, meaning}
use Rattle.wt_annotated.specs.Annotated.{annotated}
use Rattle.wt_annotated.specs.GroupData.{group_data}
use Rattle.wt_annotated.specs.Labels.{label_at}
use Rattle.wt_expand.specs.PageItems.{page_items}
use Rattle.wt_schema.specs.Read.{page as as_page, read_tree, read}
use Rattle.wt_checks.specs.Kept.{children as children_of}
use Rattle.wt_difference.specs.Unedited.{SameLabel}
use Rattle.wt_commands.specs.declared.command.Command.{Command}
use Rattle.wt_commands.specs.declared.command.Command.TheVariants.{Edit, Selser}
use Rattle.wt_commands.specs.declared.status.Status.TheVariants as status
use Rattle.wt_commands.specs.Calls.{Call}
use Rattle.wt_commands.specs.Statuses.{code, IsFaultOrNoMemory}
use Rattle.wt_commands.specs.Words.{page_name, command_of}
use Rattle.wt_pagetool.specs.Promises.{Ends, EndsAsEdit}
use Rattle.wt_typed_blocks.specs.Sent.{IsSentAsIs, new_body}
use Rattle.wt_typed_blocks.specs.Unmarked.{free_body, AreToldApart}
use Rattle.wt_text_edit_laws.specs.BlockEdits.{BlockEdit, types, old_spots, old_page, old_tree, new_page, sendings, sent_children, sent_page, AreKept, IsBlockEdit}
use Rattle.wt_text_edit_laws.specs.BlockSpots.{AreBlockSpots}
use Rattle.wt_text_edit_laws.specs.TextBlocks.{a_paragraph}
use Rattle.wt_text_edit_laws.specs.TypedPages.{IsTypedPage}
use Rattle.wt_text_edit_laws.specs.UnmarkedBlocks.{unmarked_page, IsUnmarkedBlockEdit}
use Rattle.wt_text_edit_laws.proofs.Blocks.Contents.{typed_firmly}
use Rattle.wt_program.specs.Calls.{Sends, WroteNewPage}
use Rattle.wt_program.specs.WorkedCall.{stored_page, marked_html, plain_html, written_page}
use Rattle.wt_program.proofs.BlocksCalls.{takes}

-- ---- what is sent

abbrev bare : Kind → Label
bare k = leaf_label k None [] []

abbrev numbered : Kind → ℕ → List (AttrName × List ℕ) → Label
numbered k n xs = record (bare k) { id = n; attrs = xs }

abbrev text : List ℕ
text = codes "b & [c]"

abbrev sent_heading : Tree
sent_heading = tree (numbered (kind.Heading 2) 2 []) (more (text_leaf None (codes "h")) none)

abbrev sent_paragraph : Tree
sent_paragraph = tree (numbered kind.Para 3 []) (more (text_leaf None (codes "c")) none)

abbrev line_break : Tree
line_break = sep_leaf None (codes "\n")

abbrev edit_here : BlockEdit
edit_here = record {
  spots = record {
    spot = record { before = []; block = a_paragraph; text = codes "a" };
    others = [];
    typing = types (bare kind.Para) (leaf_label kind.Text None text text) text;
  } ∷ [];
  behind = codes "\n== h ==\nc";
  others = line_break ∷ sent_heading ∷ line_break ∷ sent_paragraph ∷ [];
}

was : old_page edit_here ≡ stored_page
was = refl

now : new_page edit_here ≡ written_page
unfolding is_guarded is_between_guard is_start_guard is_end_guard is_blank_guard is_parted hazard line_start_hazard nowiki is_escaped reference digits chars encode
now = refl

-- ---- the page's tree

abbrev at : ℕ → ℕ → ℕ → ℕ → Option Ranges
at start end first last = Some (record { start = start; end = end; open_w = first; close_w = last })

abbrev page_text : ℕ → ℕ → List ℕ → Tree
page_text start end bs = text_leaf (at start end 0 0) bs

abbrev page_nodes : Trees
page_nodes =
    more (tree (record (numbered kind.Para 1 []) { ranges = at 0 1 0 0 }) (more (page_text 0 1 (codes "a")) none))
    (more (sep_leaf (at 1 2 0 0) (codes "\n"))
    (more (tree (record (numbered (kind.Heading 2) 2 []) { ranges = at 2 9 3 3; opening = codes "== "; closing = codes " ==" }) (more (page_text 5 6 (codes "h")) none))
    (more (sep_leaf (at 9 10 0 0) (codes "\n"))
    (more (tree (record (numbered kind.Para 3 []) { ranges = at 10 11 0 0 }) (more (page_text 10 11 (codes "c")) none))
    none))))

abbrev page_body : Tree
page_body = tree (record (bare kind.Body) { ranges = at 0 11 0 0 }) page_nodes

tree_is : old_tree edit_here ≡ page_body
unfolding page_items words closed form_at comment_len comment_line_len raw_len opening_tag tag_after closing_tag with_inside is_extension include_at
    entity_at named_entity decimal_entity hex_entity entity_names sign_word kind_of_signs annotated group_data label_at meaning rows blocks para children
    heading opening inside closing level line_trees
    context_parts segments tiles shapes tiles_closed tile_form_at link_or_url link_at ext_link_at bare_url_at scheme_len kept_len
    tag_tile tag_at tile_opening_tag tile_closing_tag switch_at loose_segments chunks with_styles style_tree_of toggles_of toggle_at
    chars encode
tree_is = refl

-- ---- it is such an edit

typed_a : IsTypedPage (codes "a")
unfolding is_guarded is_between_guard is_start_guard is_end_guard is_blank_guard is_parted hazard line_start_hazard nowiki is_escaped chars encode
typed_a = record {
  setting = record { within = false; place = place.Paragraph; source = [] };
  text = codes "a";
  utf8 = (codes "a", (refl, refl));
  of_block = refl;
  is = refl;
}

text_utf8 : IsUtf8 text
unfolding encode
text_utf8 = (codes "b & [c]", (refl, refl))

behind_utf8 : IsUtf8 (codes "\n== h ==\nc")
unfolding encode
behind_utf8 = (codes "\n== h ==\nc", (refl, refl))

are_spots : AreBlockSpots (old_spots edit_here.spots) (codes "\n== h ==\nc")
unfolding page_items words closed form_at comment_len comment_line_len raw_len opening_tag tag_after closing_tag with_inside is_extension include_at
    entity_at named_entity decimal_entity hex_entity entity_names sign_word kind_of_signs annotated group_data label_at meaning rows blocks para children
    heading opening inside closing level line_trees
    context_parts segments tiles shapes tiles_closed tile_form_at link_or_url link_at ext_link_at bare_url_at scheme_len kept_len
    tag_tile tag_at tile_opening_tag tile_closing_tag switch_at loose_segments chunks with_styles style_tree_of toggles_of toggle_at
    chars encode
are_spots = (
  record {
    ended = tt;
    before_utf8 = IsUtf8-nil;
    ungrouped = (refl, tt);
    leads = record { are_closed = record { whole = refl; closed = refl }; apart = tt };
    block = inl typed_a;
  },
  record {
    stands = record { uncommented = refl };
    utf8 = behind_utf8;
    ungrouped = (refl, ((refl, tt), ((refl, ((refl, tt), tt)), ((refl, tt), ((refl, ((refl, tt), tt)), tt)))));
    ends = (refl, refl);
  },
  record { calls_nothing = tt; end_before = (refl, inl (typed_firmly a_paragraph (codes "a") typed_a), tt) },
)

as_is : (l m : Label) → m.kind ≡ l.kind → m.id ≡ l.id → m.attrs ≡ l.attrs → m.mw ≡ l.mw → m.shown ≡ l.shown → m.mark ≡ marks.Nothing → IsSentAsIs l m
as_is l m k i a d s u = record { kind = k; id = i; attrs = a; mw = d; shown = λ h. s; unmarked = u }

are_kept : AreKept (sendings edit_here) page_nodes
are_kept = (
  (as_is _ _ refl refl refl refl refl refl, tt),
  (
    (as_is _ _ refl refl refl refl refl refl, ((as_is _ _ refl refl refl refl refl refl, tt), tt)),
    (
      (as_is _ _ refl refl refl refl refl refl, tt),
      (
        (as_is _ _ refl refl refl refl refl refl, ((as_is _ _ refl refl refl refl refl refl, tt), tt)),
        tt,
      ),
    ),
  ),
)

parts_sent : length edit_here.others ≡ 4
parts_sent = refl

is_edit : IsBlockEdit edit_here
unfolding page_items words closed form_at comment_len comment_line_len raw_len opening_tag tag_after closing_tag with_inside is_extension include_at
    entity_at named_entity decimal_entity hex_entity entity_names sign_word kind_of_signs rows blocks children
is_edit = record {
  are_spots = are_spots;
  are_texts = ((text_utf8, tt), tt);
  before = (refl, tt);
  behind = refl;
  are_kept = subst (λ (t : Tree). AreKept (sendings edit_here) (children_of t)) (sym tree_is) are_kept;
}

same_label : (l m : Label) → l.id ≡ m.id → l.kind ≡ m.kind → l.attrs ≡ m.attrs → l.mw ≡ m.mw → l.shown ≡ m.shown → SameLabel l m
same_label l m i k a d s = record { id = i; kind = k; attrs = a; mw = d; shown = s }

told_apart : AreToldApart (sent_children (sendings edit_here) page_nodes)
told_apart = (
  refl,
  (
    (same_label _ _ refl refl refl refl refl, tt),
    (
      (same_label _ _ refl refl refl refl refl, ((same_label _ _ refl refl refl refl refl, tt), tt)),
      (
        (same_label _ _ refl refl refl refl refl, tt),
        (
          (same_label _ _ refl refl refl refl refl, ((same_label _ _ refl refl refl refl refl, tt), tt)),
          tt,
        ),
      ),
    ),
  ),
)

is_unmarked : IsUnmarkedBlockEdit edit_here
is_unmarked = record {
  edit = is_edit;
  apart = subst (λ (t : Tree). AreToldApart (sent_children (sendings edit_here) (children_of t))) (sym tree_is) told_apart;
}

-- ---- what is read

abbrev read_with : Mark → Tree
read_with m =
    tree (bare kind.Body)
    (more (tree (record (numbered kind.Para 1 []) { mark = m }) (more (text_leaf None text) none))
    (more line_break (more sent_heading (more line_break (more sent_paragraph none)))))

marked_read : read marked_html ≡ as_page (read_with marks.Content) (Some 3)
unfolding read read_tree spelling tag_name attribute_name digits placeholder switch_prefix is_switch
    chars encode
marked_read = refl

plain_read : read plain_html ≡ as_page (read_with marks.Nothing) (Some 3)
unfolding read read_tree spelling tag_name attribute_name digits placeholder switch_prefix is_switch
    chars encode
plain_read = refl

sent_is : sent_page (bare kind.Body) edit_here ≡ read_with marks.Content
sent_is = ap (λ (t : Tree). new_body (label t) (bare kind.Body) (sent_children (sendings edit_here) (children_of t))) tree_is

unmarked_is : unmarked_page (bare kind.Body) edit_here ≡ read_with marks.Nothing
unmarked_is = ap (λ (t : Tree). free_body (label t) (bare kind.Body) (sent_children (sendings edit_here) (children_of t))) tree_is

-- ---- the words

name_is : page_name (codes "A") ≡ Some (codes "A")
unfolding page_name is_forbidden is_allowed has_signature is_step begins_with_step holds_step ends_with_step is_good read_text
    name_of image is_called namespace_named prefix_of full_name_of whole_in cut_namespace title_in chars encode
name_is = refl

abbrev named : (List ℕ → Command) → Option (List ℕ) → Option Command
named f None = None
named f (Some name) = Some (f name)

edit_words : command_of (codes "edit" ∷ codes "A" ∷ []) ≡ Some (Edit (codes "A"))
unfolding command_of
edit_words = ap (named Edit) name_is

selser_words : command_of (codes "selser" ∷ codes "A" ∷ []) ≡ Some (Selser (codes "A"))
unfolding command_of
selser_words = ap (named Selser) name_is

-- ---- the call

pub edit_writes : (c : Call) (ended : ℕ) (pages : Pages) → Ends c ended → EndsAsEdit c ended → c.words ≡ codes "edit" ∷ codes "A" ∷ []
    → c.folder.pages_before ≡ Some pages → pages (codes "A") ≡ Some stored_page → c.input.left_before ≡ Some marked_html
    → WroteNewPage c ended written_page ⊎ IsFaultOrNoMemory ended
edit_writes c ended pages ends as_edit w told found given =
    let few : length marked_html ≡ 114 = refl in
    let short : length (old_page edit_here) ≡ 11 = refl in
    let new : length (new_page edit_here) ≡ 25 = ap length now in
    let s : Sends c Edit edit_here sent_page = record {
      title = codes "A";
      pages = pages;
      input = marked_html;
      label = bare kind.Body;
      unsourced = Some 3;
      words = ap command_of w ∙ edit_words;
      told = told;
      found = found;
      given = given;
      reads = marked_read ∙ ap (λ (t : Tree). as_page t (Some 3)) (sym sent_is);
      within = omega (arith, few);
      old_within = omega (arith, short);
      new_within = omega (arith, new);
    } in
    subst (λ (bs : List ℕ). WroteNewPage c ended bs ⊎ IsFaultOrNoMemory ended) now ((takes c ended ends as_edit).edit edit_here is_edit s)

pub selser_writes : (c : Call) (ended : ℕ) (pages : Pages) → Ends c ended → EndsAsEdit c ended → c.words ≡ codes "selser" ∷ codes "A" ∷ []
    → c.folder.pages_before ≡ Some pages → pages (codes "A") ≡ Some stored_page → c.input.left_before ≡ Some plain_html
    → (ended ≡ code status.Done) ⊎ IsFaultOrNoMemory ended
selser_writes c ended pages ends as_edit w told found given =
    let few : length plain_html ≡ 91 = refl in
    let short : length (old_page edit_here) ≡ 11 = refl in
    let new : length (new_page edit_here) ≡ 25 = ap length now in
    let s : Sends c Selser edit_here unmarked_page = record {
      title = codes "A";
      pages = pages;
      input = plain_html;
      label = bare kind.Body;
      unsourced = Some 3;
      words = ap command_of w ∙ selser_words;
      told = told;
      found = found;
      given = given;
      reads = plain_read ∙ ap (λ (t : Tree). as_page t (Some 3)) (sym unmarked_is);
      within = omega (arith, few);
      old_within = omega (arith, short);
      new_within = omega (arith, new);
    } in
    (takes c ended ends as_edit).selser edit_here is_unmarked s
