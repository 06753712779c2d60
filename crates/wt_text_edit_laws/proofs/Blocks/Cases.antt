-- Worked cases of a page with a heading directly above a paragraph, and another one directly below it, by computing.
use Rattle.std.proofs.Common.{arith, ◌≡◌, ◌≤◌, ℕ, false, None, [], ◌∷◌, refl, inl}
use Rattle.std.specs.Prelude.{codes}
use Rattle.std.specs.Fmt.{digits}
use Rattle.std.specs.Str.{chars, IsUtf8}
use Rattle.std.proofs.lemmas.Str.{IsUtf8-nil}
use Rattle.wt_tree.specs.declared.kind.Kind.TheVariants as kind
use Rattle.wt_tree.specs.declared.kind.Mark.TheVariants as marks
use Rattle.wt_tree.specs.Tree.{Label, Tree, tree, none}
use Rattle.wt_span.specs.Comments.{comment_len, comment_line_len}
use Rattle.wt_span.specs.Entities.{named_entity, entity_names, decimal_entity, hex_entity, entity_at}
use Rattle.wt_span.specs.Lexemes.{sign_word, form_at, closed, words}
use Rattle.wt_span.specs.Tags.{tag_after, opening_tag, closing_tag, with_inside, is_extension, raw_len, include_at}
use Rattle.wt_lines.specs.Kinds.{kind_of_signs}
use Rattle.wt_tree.specs.declared.edit_shape.Place.TheVariants as place
use Rattle.wt_guards.specs.Guards.{nowiki, is_guarded, is_between_guard, is_start_guard, is_end_guard, is_blank_guard, is_parted}
use Rattle.wt_guards.specs.Letters.{is_escaped, reference}
use Rattle.wt_guards.specs.Table.{hazard, line_start_hazard}
use Rattle.wt_inline.specs.Parts.{children}
use Rattle.wt_blocks.specs.Headings.{level}
use Rattle.wt_tiles.specs.Links.{link_at}
use Rattle.wt_tiles.specs.Urls.{scheme_len, kept_len, ext_link_at, bare_url_at}
use Rattle.wt_tiles.specs.Tags.{tag_at, opening_tag as tile_opening_tag, closing_tag as tile_closing_tag}
use Rattle.wt_tiles.specs.Tiles.{tag_tile, switch_at, link_or_url, form_at as tile_form_at, closed as tiles_closed, shapes, tiles}
use Rattle.wt_quotes.specs.Toggles.{toggle_at, toggles_of}
use Rattle.wt_quotes.specs.Styles.{style_tree_of}
use Rattle.wt_context.specs.Segments.{loose_segments}
use Rattle.wt_context.specs.Chunks.{chunks}
use Rattle.wt_context.specs.Styled.{with_styles}
use Rattle.wt_context.specs.Nodes.{segments}
use Rattle.wt_context.specs.Line.{context_parts}
use Rattle.wt_page.specs.Rows.{rows}
use Rattle.wt_page.specs.Texts.{para}
use Rattle.wt_page.specs.Body.{blocks, meaning}
use Rattle.wt_annotated.specs.Annotated.{annotated}
use Rattle.wt_annotated.specs.GroupData.{group_data}
use Rattle.wt_annotated.specs.Labels.{label_at}
use Rattle.wt_expand.specs.PageItems.{page_items}
use Rattle.wt_text_edit_laws.specs.TypedPages.{IsTypedPage}
use Rattle.wt_typed_blocks.specs.Sent.{heading}
use Rattle.wt_text_edit_laws.specs.TypedHeadings.{Sides, spaced}
use Rattle.wt_text_edit_laws.specs.TextBlocks.{a_paragraph, a_heading, IsFrame, IsTypedHeading, IsWrittenHeading, BeginsBetween}
use Rattle.wt_text_edit_laws.specs.BlockSpots.{AreBlockSpots}
use Rattle.wt_text_edit_laws.specs.BlockEdits.{BlockEdit, types, keeps, retyped, kept, old_spots, old_page, new_page, sendings}
use Rattle.wt_text_edit_laws.proofs.Blocks.Contents.{typed_firmly}

abbrev free : Label
free = record {
  kind = kind.Text;
  id = 0;
  ranges = None;
  opening = [];
  closing = [];
  own = [];
  shown = [];
  attrs = [];
  origin = None;
  mark = marks.Nothing;
  mw = None;
}

-- what is kept has no part in the new page's source
abbrev node : Tree
node = tree free none

-- `[c]` is typed in the heading `h`, the heading `e` is emptied, and the paragraph between them stays. A line break is between two of them.
abbrev edited : BlockEdit
edited = record {
  spots = record { spot = record { before = []; block = a_heading (spaced 2); text = codes "h" }; others = []; typing = types free free (codes "[c]") }
      ∷ record { spot = record { before = codes "\n"; block = a_paragraph; text = codes "b" }; others = node ∷ []; typing = keeps node }
      ∷ record { spot = record { before = codes "\n"; block = a_heading (spaced 3); text = codes "e" }; others = node ∷ []; typing = types free free [] }
      ∷ [];
  behind = codes "\n";
  others = node ∷ [];
}

was : old_page edited ≡ codes "== h ==\nb\n=== e ===\n"
was = refl

-- brackets are references, and an emptied heading has a `<nowiki/>`; each has its `=` and its spaces as before
now : new_page edited ≡ codes "== &#91;c&#93; ==\nb\n=== <nowiki/> ===\n"
unfolding is_guarded is_between_guard is_start_guard is_end_guard is_blank_guard is_parted hazard line_start_hazard nowiki is_escaped reference digits chars lib.Utf8.encode
now = refl

sent : sendings edited
    ≡ retyped (heading 2) free free (codes "[c]") ∷ kept node ∷ kept node ∷ kept node ∷ retyped (heading 3) free free [] ∷ kept node ∷ []
sent = refl

-- ---- such a page is one of the class

spaced_frame : (n : ℕ) → 1 ≤ n → n ≤ 6 → IsFrame (spaced n)
unfolding page_items words closed form_at comment_len comment_line_len raw_len opening_tag closing_tag include_at entity_at named_entity decimal_entity
    hex_entity entity_names sign_word lib.Utf8.encode
spaced_frame n some most = record {
  sides = record { some = some; most = most; lead = (refl, tt); trail = (refl, tt); rest = tt };
  utf8 = ([], (refl, refl));
  stands = record { ends = refl; has_ends = (refl, refl) };
  ended = refl;
}

typed_h : IsTypedHeading (spaced 2) (codes "h")
unfolding is_guarded is_between_guard is_start_guard is_end_guard is_blank_guard is_parted hazard line_start_hazard nowiki is_escaped chars lib.Utf8.encode
typed_h = record {
  frame = spaced_frame 2 (omega arith) (omega arith);
  setting = record { within = false; place = place.Heading; source = [] };
  text = codes "h";
  utf8 = (codes "h", (refl, refl));
  one_line = refl;
  of_block = refl;
  of_heading = refl;
  is = refl;
}

typed_e : IsTypedHeading (spaced 3) (codes "e")
unfolding is_guarded is_between_guard is_start_guard is_end_guard is_blank_guard is_parted hazard line_start_hazard nowiki is_escaped chars lib.Utf8.encode
typed_e = record {
  frame = spaced_frame 3 (omega arith) (omega arith);
  setting = record { within = false; place = place.Heading; source = [] };
  text = codes "e";
  utf8 = (codes "e", (refl, refl));
  one_line = refl;
  of_block = refl;
  of_heading = refl;
  is = refl;
}

typed_b : IsTypedPage (codes "b")
unfolding is_guarded is_between_guard is_start_guard is_end_guard is_blank_guard is_parted hazard line_start_hazard nowiki is_escaped chars lib.Utf8.encode
typed_b = record {
  setting = record { within = false; place = place.Paragraph; source = [] };
  text = codes "b";
  utf8 = (codes "b", (refl, refl));
  of_block = refl;
  is = refl;
}

break_utf8 : IsUtf8 (codes "\n")
unfolding lib.Utf8.encode
break_utf8 = (codes "\n", (refl, refl))

are_spots : AreBlockSpots (old_spots edited.spots) (codes "\n")
unfolding page_items words closed form_at comment_len comment_line_len raw_len opening_tag closing_tag include_at entity_at named_entity decimal_entity
    hex_entity entity_names sign_word kind_of_signs annotated group_data label_at meaning rows blocks children
are_spots = (
  record {
    ended = tt;
    before_utf8 = IsUtf8-nil;
    ungrouped = (refl, tt);
    leads = record { whole = refl; closed = refl };
    block = inl typed_h;
  },
  (
    record {
      ended = refl;
      before_utf8 = break_utf8;
      ungrouped = (refl, ((refl, tt), tt));
      leads = record { are_closed = record { whole = refl; closed = refl }; apart = refl };
      block = inl typed_b;
    },
    refl,
    (
      record {
        ended = refl;
        before_utf8 = break_utf8;
        ungrouped = (refl, ((refl, tt), tt));
        leads = record { whole = refl; closed = refl };
        block = inl typed_e;
      },
      (refl, (record { whole = refl; closed = refl }), tt),
      record {
        stands = record { uncommented = refl };
        utf8 = break_utf8;
        ungrouped = (refl, ((refl, tt), tt));
        ends = refl;
      },
    ),
  ),
  record {
    calls_nothing = tt;
    end_before = (
      refl,
      inl (typed_firmly (a_heading (spaced 2)) (codes "h") typed_h),
      ((refl, refl), inl (typed_firmly a_paragraph (codes "b") typed_b), ((refl, refl), inl (typed_firmly (a_heading (spaced 3)) (codes "e") typed_e), tt)),
    );
  },
)

-- braces that close before any open, and braces that nothing closes, are in it, and a call isn't
unpaired_utf8 : IsUtf8 (codes "\n\n}} {{\n")
unfolding lib.Utf8.encode
unpaired_utf8 = (codes "\n\n}} {{\n", (refl, refl))

unpaired : AreBlockSpots (record { before = []; block = a_paragraph; text = codes "b" } ∷ []) (codes "\n\n}} {{\n")
unfolding page_items words closed form_at comment_len comment_line_len raw_len opening_tag closing_tag include_at entity_at named_entity decimal_entity
    hex_entity entity_names sign_word kind_of_signs annotated group_data label_at meaning rows blocks para children
    context_parts segments tiles shapes tiles_closed tile_form_at link_or_url link_at ext_link_at bare_url_at scheme_len kept_len
    tag_tile tag_at tile_opening_tag tile_closing_tag switch_at loose_segments chunks with_styles style_tree_of toggles_of toggle_at
unpaired = (
  record {
    ended = tt;
    before_utf8 = IsUtf8-nil;
    ungrouped = (refl, tt);
    leads = record { are_closed = record { whole = refl; closed = refl }; apart = tt };
    block = inl typed_b;
  },
  record {
    stands = record { uncommented = refl };
    utf8 = unpaired_utf8;
    ungrouped = (refl, ((refl, tt), ((refl, ((refl, tt), tt)), ((refl, tt), tt))));
    ends = (refl, refl);
  },
  record { calls_nothing = tt; end_before = (refl, inl (typed_firmly a_paragraph (codes "b") typed_b), tt) },
)

paired : AreBlockSpots (record { before = []; block = a_paragraph; text = codes "b" } ∷ []) (codes "\n\n{{a}}\n") → ⊥
unfolding page_items words closed form_at comment_len comment_line_len raw_len opening_tag closing_tag include_at entity_at named_entity decimal_entity
    hex_entity entity_names sign_word
paired h = h.2.calls_nothing

-- a heading that was written by hand: a heading spells this ampersand as a reference
written_heading : IsWrittenHeading (spaced 2) (codes "Q&A")
unfolding level page_items words closed form_at comment_len comment_line_len raw_len opening_tag closing_tag include_at entity_at named_entity decimal_entity
    hex_entity entity_names sign_word lib.Utf8.encode
    context_parts segments tiles shapes tiles_closed tile_form_at link_or_url link_at ext_link_at bare_url_at scheme_len kept_len
    tag_tile tag_at tile_opening_tag tile_closing_tag switch_at loose_segments chunks with_styles style_tree_of toggles_of toggle_at
written_heading = record {
  frame = spaced_frame 2 (omega arith) (omega arith);
  utf8 = (codes "Q&A", (refl, refl));
  ended = refl;
  unended = refl;
  are_letters = tt;
  is_text = record { is_one = refl; unbroken = (refl, (refl, (refl, tt))); begins = refl; ends = refl };
  of_level = refl;
}

-- and one without spaces, with a space behind it
abbrev bare : Sides
bare = record { level = 2; lead = []; trail = []; rest = codes " " }

framed_bare : IsFrame bare
unfolding page_items words closed form_at comment_len comment_line_len raw_len opening_tag closing_tag include_at entity_at named_entity decimal_entity
    hex_entity entity_names sign_word lib.Utf8.encode
framed_bare = record {
  sides = record { some = omega arith; most = omega arith; lead = tt; trail = tt; rest = (refl, tt) };
  utf8 = (codes " ", (refl, refl));
  stands = record { ends = refl; has_ends = (refl, (refl, refl)) };
  ended = refl;
}

written_bare : IsWrittenHeading bare (codes "Q&A")
unfolding level page_items words closed form_at comment_len comment_line_len raw_len opening_tag closing_tag include_at entity_at named_entity decimal_entity
    hex_entity entity_names sign_word
written_bare = record {
  frame = framed_bare;
  utf8 = written_heading.utf8;
  ended = refl;
  unended = refl;
  are_letters = tt;
  is_text = written_heading.is_text;
  of_level = refl;
}

-- one with a comment behind it, in whose text is a bracket that begins no link
abbrev commented : Sides
commented = record { level = 2; lead = codes " "; trail = codes " "; rest = codes " <!-- c -->" }

framed_commented : IsFrame commented
unfolding page_items words closed form_at comment_len comment_line_len raw_len tag_after opening_tag closing_tag with_inside is_extension include_at
    entity_at named_entity decimal_entity hex_entity entity_names sign_word lib.Utf8.encode
framed_commented = record {
  sides = record { some = omega arith; most = omega arith; lead = (refl, tt); trail = (refl, tt); rest = (refl, (refl, tt)) };
  utf8 = (codes " <!-- c -->", (refl, refl));
  stands = record { ends = refl; has_ends = (refl, (refl, (refl, refl))) };
  ended = refl;
}

written_commented : IsWrittenHeading commented (codes "a[")
unfolding level page_items words closed form_at comment_len comment_line_len raw_len tag_after opening_tag closing_tag with_inside is_extension include_at
    entity_at named_entity decimal_entity hex_entity entity_names sign_word lib.Utf8.encode
    context_parts segments tiles shapes tiles_closed tile_form_at link_or_url link_at ext_link_at bare_url_at scheme_len kept_len
    tag_tile tag_at tile_opening_tag tile_closing_tag switch_at loose_segments chunks with_styles style_tree_of toggles_of toggle_at
written_commented = record {
  frame = framed_commented;
  utf8 = (codes "a[", (refl, refl));
  ended = refl;
  unended = refl;
  are_letters = tt;
  is_text = record { is_one = refl; unbroken = (refl, (refl, tt)); begins = refl; ends = refl };
  of_level = refl;
}

-- a comment that doesn't end there may end behind the heading
open_comment : IsFrame (record { level = 2; lead = []; trail = []; rest = codes "<!-- c" }) → ⊥
unfolding page_items words closed form_at comment_len comment_line_len raw_len tag_after opening_tag closing_tag with_inside is_extension include_at
    entity_at named_entity decimal_entity hex_entity entity_names sign_word
open_comment h = let e = h.stands.has_ends.0 in absurd (cc)

-- its text becomes another one between the same signs
abbrev retyped_bare : BlockEdit
retyped_bare = record {
  spots = record { spot = record { before = []; block = a_heading bare; text = codes "Q&A" }; others = []; typing = types free free (codes "=a=") } ∷ [];
  behind = codes "\n";
  others = node ∷ [];
}

bare_was : old_page retyped_bare ≡ codes "==Q&A== \n"
bare_was = refl

bare_now : new_page retyped_bare ≡ codes "==<nowiki/>=a&#61;== \n"
unfolding is_guarded is_between_guard is_start_guard is_end_guard is_blank_guard is_parted hazard line_start_hazard nowiki is_escaped reference digits chars lib.Utf8.encode
bare_now = refl

-- two paragraphs with one line break between them would be one
two_paragraphs : BeginsBetween a_paragraph a_paragraph (page_items (codes "\n")) → ⊥
unfolding page_items words closed form_at comment_len comment_line_len raw_len opening_tag closing_tag include_at entity_at named_entity decimal_entity
    hex_entity entity_names sign_word kind_of_signs
two_paragraphs h = absurd h.2
