-- Worked case: on the page `{{t}} is`, where `Template:T` is a word, `was` is typed in the place of `is`. That is a text edit of a block that holds a call
-- (`IsMarkedEdit`), told whole; HTML that is read as what is sent is answered by the page `{{t}} was`.
use Rattle.std.proofs.Common.{arith, ◌≡◌, ◌≤◌, inl, inr, ℕ, false, Option, Some, None, List, [], ◌∷◌, length, refl, sym, ap, ◌∙◌, subst}
use Rattle.std.specs.Prelude.{codes}
use Rattle.std.specs.List.{AllByRecursion}
use Rattle.std.specs.Str.{is_utf8, chars}
use Rattle.std.specs.Str.Lossy.{utf8_valid_len}
use lib.Utf8.{encode}
use Rattle.wt_span.specs.Comments.{comment_len, comment_line_len}
use Rattle.wt_span.specs.Entities.{entity_at, named_entity, decimal_entity, hex_entity, entity_names}
use Rattle.wt_span.specs.Tags.{raw_len, opening_tag, tag_after, closing_tag, with_inside, is_extension, include_at}
use Rattle.wt_span.specs.Functions.{function_of, begins_with}
use Rattle.wt_span.specs.Items.{char}
use Rattle.wt_span.specs.Lexemes.{sign_word, form_at, closed, words}
use Rattle.wt_span.specs.Braces.{rewritten, reduced, parts_of}
use Rattle.wt_span.specs.Origins.{Expanded, OuterCall}
use Rattle.wt_span.specs.declared.limits.TheConstants.{HTML_BYTES}
use Rattle.wt_tree.specs.declared.kind.Kind.TheVariants as kind
use Rattle.wt_tree.specs.declared.kind.Mark.TheVariants as marks
use Rattle.wt_tree.specs.Kinds.{spelling}
use Rattle.wt_tree.specs.Source.{flat}
use Rattle.wt_tree.specs.Tree.{Tree, tree, label}
use Rattle.wt_lines.specs.Kinds.{kind_of_signs}
use Rattle.wt_lines.specs.Lines.{full_lines, lines}
use Rattle.wt_names.specs.Good.{is_forbidden, is_allowed, has_signature, is_step, begins_with_step, holds_step, ends_with_step, is_good, read_text}
use Rattle.wt_names.specs.Namespace.{name_of, image, is_called, namespace_named, prefix_of, full_name_of}
use Rattle.wt_names.specs.Reading.{whole_in, cut_namespace, title_in}
use Rattle.wt_names.specs.Written.{link_to, link_text, stays_in_link}
use Rattle.wt_inline.specs.Parts.{children, nowiki as nowiki_node}
use Rattle.wt_tiles.specs.Links.{link_at}
use Rattle.wt_tiles.specs.Urls.{scheme_len, ext_link_at, bare_url_at}
use Rattle.wt_tiles.specs.Tags.{tag_at, opening_tag as opens_tag, closing_tag as closes_tag}
use Rattle.wt_tiles.specs.Tiles.{tag_tile, switch_at, link_or_url, form_at as tile_at, closed as closes, shapes, tiles}
use Rattle.wt_quotes.specs.Toggles.{toggle_at, toggles_of}
use Rattle.wt_quotes.specs.Styles.{style_tree_of}
use Rattle.wt_context.specs.Segments.{loose_segments}
use Rattle.wt_context.specs.Chunks.{chunks}
use Rattle.wt_context.specs.Styled.{with_styles}
use Rattle.wt_context.specs.Nodes.{segments}
use Rattle.wt_context.specs.Line.{context_parts, line_trees}
use Rattle.wt_page.specs.Rows.{rows}
use Rattle.wt_page.specs.Texts.{para}
use Rattle.wt_page.specs.Body.{blocks, meaning}
use Rattle.wt_call_data.specs.CallData.{call_part, param_by, trimmed as trimmed_data}
use Rattle.wt_annotated.specs.Annotated.{annotated}
use Rattle.wt_annotated.specs.CutTexts.{cut_texts}
use Rattle.wt_annotated.specs.GroupData.{group_data}
use Rattle.wt_annotated.specs.GroupWord.{transclusion_word}
use Rattle.wt_annotated.specs.Labels.{label_at}
use Rattle.wt_expand.specs.Texts.{trimmed, trimmed_items, name_text}
use Rattle.wt_expand.specs.Targets.{title_in_target, title_of_target, is_function, called}
use Rattle.wt_expand.specs.Templates.{begins_only, ends_only, template_text}
use Rattle.wt_expand.specs.Expansion.{text_members, most_templates, absent_text, loop_text, depth_text}
use Rattle.wt_expand.specs.PageCalls.{page_stretches, expanded_page}
use Rattle.wt_page_round_trip.specs.PageTree.{expanded_tree, page_tree}
use Rattle.wt_isolation.specs.GroupItems.{empty_nowiki}
use Rattle.wt_original.specs.Kept.{kept_with}
use Rattle.wt_checks.specs.Checked.{checked}
use Rattle.wt_checks.specs.Alike.{same_kind, same_data}
use Rattle.wt_link_spelling.specs.Spelling.{children_of, inline_spelling, block_spelling}
use Rattle.wt_guards.specs.Guards.{nowiki, is_guarded, is_between_guard, is_start_guard, is_end_guard, is_blank_guard}
use Rattle.wt_guards.specs.Letters.{is_escaped}
use Rattle.wt_guards.specs.Table.{hazard, line_start_hazard}
use Rattle.wt_slices.specs.BodySlices.{slices}
use Rattle.wt_slices.specs.Changes.{Pair, marked, AllStay}
use Rattle.wt_splice.specs.Splice.{spliced}
use Rattle.wt_commands.specs.Answers.{done, edit_of}
use Rattle.wt_schema.specs.Read.{page as as_page, read}
use Rattle.wt_selser.specs.Edits.{most_bytes}
use Rattle.wt_visible.specs.SameNodes.{same_node}
use Rattle.wt_part_laws.specs.HeldCalls.{block_in}
use Rattle.wt_text_edit_laws.specs.ParagraphParts.{joined_parts, para_with}
use Rattle.wt_text_edit_laws.specs.TextBlocks.{a_paragraph}
use Rattle.wt_beside_laws.proofs.Groups.Cases.{a_word}
use Rattle.wt_called_edit_laws.specs.CallingTold.{IsNoBreakOfCall, IsExceptedCalling}
use Rattle.wt_called_edit_laws.proofs.AllTold.CalmCalls.{AreUnsigned, none_signed_at, words_excepted}
use Rattle.wt_called_edit_laws.specs.PiecedParagraphs.{IsTextAndCalls}
use Rattle.wt_called_edit_laws.specs.SentAsIs.{as_sent}
use Rattle.wt_called_edit_laws.specs.Settled.{settled}
use Rattle.wt_called_edit_laws.proofs.Beside.EndCases.{called_at, nth}
use Rattle.wt_called_edit_laws.proofs.Beside.FirstCases.{source, text_and_calls, calls_apart, unrefused_here}
use Rattle.wt_inside_laws.specs.BesideEdits.{IsBesideBlock}
use Rattle.wt_inside_laws.specs.EditsWithCalls.{MayHoldCalls, IsMarkedEdit}
use Rattle.wt_inside_laws.specs.TextAndCallBlocks.{DoCallsMeet, IsTextAndCallBlock}
use Rattle.wt_inside_laws.specs.TextEdits.{IsRetyped, IsTextEdit}
use Rattle.wt_inside_laws.proofs.EditsWithCalls.{calls_editable, marked_written}
use Rattle.wt_inside_laws.proofs.InsidesCases.{text, inner}
use Rattle.wt_inside_laws.proofs.Sources.{untrue}
use Rattle.wt_inside_laws.proofs.TextAndCallBlocks.{takes_texts, paragraph_takes}

-- ---- the page

abbrev the_call : OuterCall
the_call = record (called_at 0) { href = Some (codes "./Template:T") }

abbrev expanded : Expanded
expanded = record {
  items = char (Some 0) 98 ∷ char None 32 ∷ char None 105 ∷ char None 115 ∷ [];
  outer = the_call ∷ [];
  text_calls = [];
}

expanded_is : expanded_page a_word source ≡ expanded
unfolding words closed form_at comment_len comment_line_len raw_len opening_tag tag_after closing_tag with_inside is_extension
    include_at entity_at named_entity decimal_entity hex_entity entity_names sign_word reduced rewritten parts_of text_members trimmed
    trimmed_items name_text called most_templates is_function title_of_target title_in_target read_text is_allowed is_forbidden
    is_good has_signature is_step begins_with_step holds_step ends_with_step name_of image is_called namespace_named prefix_of
    full_name_of whole_in cut_namespace title_in template_text begins_only ends_only loop_text depth_text absent_text
    utf8_valid_len is_utf8 chars encode link_to link_text stays_in_link page_stretches expanded_page
expanded_is = refl

-- no call gives a line break or a mark
no_breaks : AllByRecursion IsNoBreakOfCall (expanded_page a_word source).items
no_breaks =
    subst (λ (e : Expanded). AllByRecursion IsNoBreakOfCall e.items) (sym expanded_is) (
      ((λ e. absurd (untrue (sym e))), (λ e. absurd (untrue (sym e)))),
      (
        ((λ e. absurd (untrue (sym e))), (λ e. absurd (untrue (sym e)))),
        (
          ((λ e. absurd (untrue (sym e))), (λ e. absurd (untrue (sym e)))),
          (((λ e. absurd (untrue (sym e))), (λ e. absurd (untrue (sym e)))), tt),
        ),
      ),
    )

one_line : AreUnsigned 0 (full_lines expanded.items)
unfolding kind_of_signs
one_line = (((λ z u. absurd (cc)), (λ z u. absurd (cc))), tt)

none_signed : AreUnsigned 0 (full_lines (expanded_page a_word source).items)
none_signed = subst (λ (e : Expanded). AreUnsigned 0 (full_lines e.items)) (sym expanded_is) one_line

unexcepted : (t : Tree) → IsExceptedCalling a_word source t → ⊥
unexcepted t x = let r = words_excepted a_word source t no_breaks x in none_signed_at (full_lines (expanded_page a_word source).items) _ none_signed r.1

-- ---- its tree, and what is sent

abbrev old : Tree
old = expanded_tree expanded

-- of which this is the paragraph
abbrev block : Tree
block = settled 1 0 (cut_texts (block_in expanded.outer (para_with (joined_parts (lines expanded.items)))))

abbrev sent_group : Tree
sent_group = as_sent (nth 0 (children_of block))

abbrev sent : Tree
sent = inner kind.Para 1 [] (sent_group ∷ text (codes " was") ∷ []) []

abbrev new_block : Tree
new_block = tree (record (label sent) { mark = marks.Content }) (children_of sent)

abbrev new : Tree
new = inner kind.Body 0 [] (new_block ∷ []) []

abbrev pair : Pair
pair = record { old = block; new = new_block }

-- ---- the marked block

block_source : flat block ≡ source
unfolding label_at context_parts chunks segments loose_segments tiles shapes closes tile_at link_or_url link_at ext_link_at bare_url_at scheme_len
    tag_tile tag_at switch_at children with_styles style_tree_of toggles_of toggle_at opens_tag closes_tag
block_source = refl

is_such : IsTextAndCallBlock a_word block
is_such =
    let h : (g : IsTextAndCalls a_word (flat block)) × DoCallsMeet a_word block g.pieces =
    subst (λ (x : List ℕ). (g : IsTextAndCalls a_word x) × DoCallsMeet a_word block g.pieces) (sym block_source) (text_and_calls, inl calls_apart) in
    paragraph_takes a_word block refl h.0 h.1

takes : IsBesideBlock a_word source pair
takes = takes_texts a_word source pair is_such

pub may_hold : MayHoldCalls a_word source pair
may_hold = record {
  unexcepted = unexcepted block;
  held = inr (record {
    editable = record {
      block = a_paragraph;
      text = source;
      kind = refl;
      source = block_source;
      content = calls_editable a_word a_paragraph source text_and_calls;
    };
    beside = inr takes;
  });
}

-- ---- the edit

pub marked_is : marked old new ≡ pair ∷ []
unfolding kind_of_signs annotated group_data call_part param_by trimmed_data label_at meaning rows blocks children para line_trees
    context_parts chunks segments loose_segments tiles shapes closes tile_at link_or_url link_at ext_link_at bare_url_at scheme_len
    tag_tile tag_at switch_at with_styles style_tree_of toggles_of toggle_at opens_tag closes_tag chars encode spelling kept_with
marked_is = refl

pub checks : checked false old new ≡ None
unfolding kind_of_signs annotated group_data call_part param_by trimmed_data label_at meaning rows blocks children para line_trees
    context_parts chunks segments loose_segments tiles shapes closes tile_at link_or_url link_at ext_link_at bare_url_at scheme_len
    tag_tile tag_at switch_at with_styles style_tree_of toggles_of toggle_at opens_tag closes_tag chars encode spelling kept_with checked same_kind same_data
    function_of begins_with transclusion_word
checks = refl

pub stays : AllStay new
unfolding kind_of_signs annotated group_data call_part param_by trimmed_data label_at meaning rows blocks children para line_trees
    context_parts chunks segments loose_segments tiles shapes closes tile_at link_or_url link_at ext_link_at bare_url_at scheme_len
    tag_tile tag_at switch_at with_styles style_tree_of toggles_of toggle_at opens_tag closes_tag chars encode spelling
stays = (refl, (refl, (refl, (refl, (refl, (refl, tt))))))

pub retyped : IsRetyped same_node expanded source pair
unfolding kind_of_signs annotated group_data call_part param_by trimmed_data label_at meaning rows blocks children para line_trees
    context_parts chunks segments loose_segments tiles shapes closes tile_at link_or_url link_at ext_link_at bare_url_at scheme_len
    tag_tile tag_at switch_at with_styles style_tree_of toggles_of toggle_at opens_tag closes_tag chars encode spelling kept_with same_node same_kind same_data
    empty_nowiki nowiki_node opening_tag tag_after
retyped = record {
  block = refl;
  untangled = refl;
  closed = refl;
  in_order = refl;
  untouched = (record { kept = _; found = refl; kind = refl; unchanged = refl; inside = refl; groups = refl }, tt);
  styled = tt;
  texts = (
    inl refl,
    (
      inr (record {
        breaks = refl;
        stays_empty = λ h e. absurd (untrue (sym h));
        stays_ended = λ h e. absurd (untrue (sym h));
        stays_tied = λ h. absurd (untrue (sym h));
      }),
      tt,
    ),
  );
  one_line = tt;
}

pub new_page : spliced source (slices same_node old new) ≡ codes "{{t}} was"
unfolding kind_of_signs annotated group_data call_part param_by trimmed_data label_at meaning rows blocks children para line_trees
    context_parts chunks segments loose_segments tiles shapes closes tile_at link_or_url link_at ext_link_at bare_url_at scheme_len
    tag_tile tag_at switch_at with_styles style_tree_of toggles_of toggle_at opens_tag closes_tag chars encode spelling kept_with same_node same_kind same_data
    spliced inline_spelling block_spelling nowiki is_guarded is_between_guard is_start_guard is_end_guard is_blank_guard hazard line_start_hazard is_escaped
new_page = refl

pub edit_here : IsTextEdit same_node expanded source old new
unfolding most_bytes
edit_here = record {
  checks = checks;
  stays = stays;
  blocks = subst (AllByRecursion (IsRetyped same_node expanded source)) (sym marked_is) (retyped, tt);
  room = let z = ap length new_page in omega (arith, z);
}

edit_there : IsTextEdit same_node (expanded_page a_word source) source (page_tree a_word source) new
edit_there = subst (λ (e : Expanded). IsTextEdit same_node e source (expanded_tree e) new) (sym expanded_is) edit_here

all_may_hold : AllByRecursion (MayHoldCalls a_word source) (marked (page_tree a_word source) new)
all_may_hold =
    subst (λ (e : Expanded). AllByRecursion (MayHoldCalls a_word source) (marked (expanded_tree e) new)) (sym expanded_is)
    (subst (AllByRecursion (MayHoldCalls a_word source)) (sym marked_is) (may_hold, tt))

-- ---- HTML that is read as this tree

pub as_html : (input : List ℕ) (unsourced : Option ℕ) → read input ≡ as_page new unsourced → IsMarkedEdit a_word source input new unsourced
as_html input unsourced h = record {
  utf8 = text_and_calls.read.utf8;
  short = omega arith;
  unrefused = unrefused_here;
  sent = h;
  edit = edit_there;
  blocks = inr all_may_hold;
}

-- is answered by the page with the new text
pub is_answered : (input : List ℕ) (unsourced : Option ℕ) → read input ≡ as_page new unsourced → length input ≤ HTML_BYTES
    → edit_of a_word (Some source) input ≡ done (codes "{{t}} was")
is_answered input unsourced h le =
    marked_written a_word source input new unsourced (as_html input unsourced h) le
    ∙ ap (λ (e : Expanded). done (spliced source (slices same_node (expanded_tree e) new))) expanded_is ∙ ap done new_page
