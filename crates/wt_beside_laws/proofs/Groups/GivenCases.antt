-- Worked cases: what calls give beside words: a link, a URL, a reference, nothing; and what is none of it.
use Rattle.std.proofs.Common.{◌≡◌, ℕ, true, false, Some, List, [], ◌∷◌, map, refl, sym, ap, ◌∙◌, subst, ◌==◌, inl, inr}
use Rattle.std.specs.Prelude.{codes}
use Rattle.std.specs.Str.{is_utf8, chars}
use Rattle.std.specs.Str.Lossy.{utf8_valid_len}
use lib.Utf8.{encode}
use Rattle.wt_span.specs.declared.form.ItemForm.TheVariants as form_of
use Rattle.wt_span.specs.Items.{Item, char, whole}
use Rattle.wt_names.specs.Good.{is_forbidden, is_allowed, has_signature, is_step, begins_with_step, holds_step, ends_with_step, is_good, read_text}
use Rattle.wt_names.specs.Namespace.{name_of, image, is_called, namespace_named, prefix_of, full_name_of}
use Rattle.wt_names.specs.Reading.{whole_in, cut_namespace, title_in}
use Rattle.wt_names.specs.Written.{link_to}
use Rattle.wt_guards.specs.declared.role.Role.TheVariants.{Link, Bare, Mark, Node}
use Rattle.wt_guards.specs.declared.role.Transclusion.{Transclusion}
use Rattle.wt_guards.specs.Table.{line_start_hazard}
use Rattle.wt_inline.specs.ItemTree.{forest}
use Rattle.wt_inline.specs.Parts.{Part, children}
use Rattle.wt_tiles.specs.declared.glyph.Glyph.TheVariants as glyph
use Rattle.wt_tiles.specs.declared.shape.TileKind.TheVariants as tile
use Rattle.wt_tiles.specs.Glyphs.{byte_glyphs}
use Rattle.wt_tiles.specs.Links.{target_of, link_in, link_at}
use Rattle.wt_tiles.specs.Tags.{tag_at, opening_tag, closing_tag}
use Rattle.wt_tiles.specs.Tiles.{form_at, link_or_url, tag_tile, switch_at, shapes, closed, tiles}
use Rattle.wt_tiles.specs.Urls.{scheme_len, is_url_char, is_dropped, kept_len, bare_shape, bare_url_at, ext_link_at}
use Rattle.wt_quotes.specs.Toggles.{toggle_at, toggles_of}
use Rattle.wt_quotes.specs.Runs.{place_of}
use Rattle.wt_quotes.specs.Styles.{style_tree_of}
use Rattle.wt_quotes.specs.Turns.{since, next, bold_ends_later, effect_on, is_bold_outside_at, turn_at}
use Rattle.wt_context.specs.Segments.{loose_segments}
use Rattle.wt_context.specs.Chunks.{chunks}
use Rattle.wt_context.specs.Styled.{with_styles}
use Rattle.wt_context.specs.Heads.{link_head}
use Rattle.wt_context.specs.Nodes.{nested_tree, segments}
use Rattle.wt_context.specs.Line.{context_parts, line_parts}
use Rattle.wt_annotated.specs.Annotated.{all_unplaced}
use Rattle.wt_annotated.specs.Labels.{label_at}
use Rattle.wt_isolation.specs.GroupItems.{empty_nowiki}
use Rattle.wt_isolation.specs.OpenTexts.{has_open_text}
use Rattle.wt_beside_laws.specs.Given.{GivenContent, GivenSign, character, form, given_end, given_sign, given_style, signs_of, given_parts, AreNestedGiven, AreGivenSigns, AreGivenBy, IsGroup}
use Rattle.wt_beside_laws.specs.Nodes.{IsLinkNode, IsBareNode}
use Rattle.wt_beside_laws.specs.StyledCalls.{PartsNestIn}
use Rattle.wt_beside_laws.proofs.OpenTags.{untagged_closed}
use Rattle.wt_beside_laws.proofs.Groups.Cases.{beside_letters}
use Rattle.wt_beside_laws.proofs.Groups.GivenParts.{given_line}

-- ---- of any call

abbrev pub of_call : ℕ → List ℕ → List Item
of_call j bs = map (char (Some j)) bs

-- `[[b]]`
pub a_link : IsLinkNode (byte_glyphs (codes "[[b]]"))
unfolding link_at link_in target_of read_text is_allowed is_forbidden is_good has_signature is_step begins_with_step holds_step ends_with_step
    name_of image is_called namespace_named prefix_of full_name_of whole_in cut_namespace title_in utf8_valid_len is_utf8 chars encode link_to
a_link = record {
  shape = record { kind = tile.Link; opening = 2; inside = 1; closing = 2; trail = 0 };
  inside = byte_glyphs (codes "b]]");
  is = refl;
  plain = tt;
  link = refl;
  whole = refl;
}

-- by itself
pub one_link : (g : Transclusion) (j : ℕ) → IsGroup g j (of_call j (codes "[[b]]"))
unfolding nested_tree link_head context_parts chunks segments loose_segments tiles shapes closed form_at link_or_url link_at ext_link_at bare_url_at scheme_len tag_tile tag_at
    switch_at children with_styles style_tree_of toggles_of toggle_at opening_tag closing_tag empty_nowiki label_at
    link_in target_of read_text is_allowed is_forbidden is_good has_signature is_step begins_with_step holds_step ends_with_step
    name_of image is_called namespace_named prefix_of full_name_of whole_in cut_namespace title_in utf8_valid_len is_utf8 chars encode link_to
    line_start_hazard
one_link g j = record {
  gives = record {
    signs = form Link (of_call j (codes "[[b]]")) ∷ [];
    is = refl;
    of_call = (refl, (refl, (refl, (refl, (refl, tt)))));
    are = (record { node = a_link; closed = untagged_closed (byte_glyphs (codes "[[b]]")) refl; leads = tt; follows = tt }, tt);
    nested = record { content = given_sign (form Link (of_call j (codes "[[b]]"))) given_end; is = refl; nested = (tt, tt) };
    begins = tt;
    unopened = refl;
    unbroken = (refl, (refl, (refl, (refl, (refl, tt)))));
    inside = (
      record {
        first = char (Some j) 91;
        others = of_call j (codes "[b]]");
        is = refl;
        of_call = (refl, (refl, (refl, (refl, (refl, tt)))));
        no_body = refl;
        uncut = (refl, ((refl, tt), tt));
      },
      tt,
    );
    even = refl;
    closed = refl;
  };
  urls = λ e. absurd (cc);
  opens = λ e. refl;
  opens_style = λ e. absurd (cc);
  closes_style = λ e. absurd (cc);
}

-- `[[b|''c'']]`: a style in a link is no delimiter of the line
pub a_styled_link : IsLinkNode (byte_glyphs (codes "[[b|''c'']]"))
unfolding link_at link_in target_of read_text is_allowed is_forbidden is_good has_signature is_step begins_with_step holds_step ends_with_step
    name_of image is_called namespace_named prefix_of full_name_of whole_in cut_namespace title_in utf8_valid_len is_utf8 chars encode link_to
a_styled_link = record {
  shape = record { kind = tile.Link; opening = 4; inside = 5; closing = 2; trail = 0 };
  inside = byte_glyphs (codes "b|''c'']]");
  is = refl;
  plain = tt;
  link = refl;
  whole = refl;
}

pub one_styled_link : (g : Transclusion) (j : ℕ) → IsGroup g j (of_call j (codes "[[b|''c'']]"))
unfolding nested_tree link_head context_parts chunks segments loose_segments tiles shapes closed form_at link_or_url link_at ext_link_at bare_url_at scheme_len tag_tile tag_at
    switch_at children with_styles style_tree_of toggles_of toggle_at place_of since next bold_ends_later effect_on is_bold_outside_at turn_at opening_tag
    closing_tag empty_nowiki label_at
    link_in target_of read_text is_allowed is_forbidden is_good has_signature is_step begins_with_step holds_step ends_with_step
    name_of image is_called namespace_named prefix_of full_name_of whole_in cut_namespace title_in utf8_valid_len is_utf8 chars encode link_to
    line_start_hazard
one_styled_link g j = record {
  gives = record {
    signs = form Link (of_call j (codes "[[b|''c'']]")) ∷ [];
    is = refl;
    of_call = (refl, (refl, (refl, (refl, (refl, (refl, (refl, (refl, (refl, (refl, (refl, tt)))))))))));
    are = (record { node = a_styled_link; closed = untagged_closed (byte_glyphs (codes "[[b|''c'']]")) refl; leads = tt; follows = tt }, tt);
    nested = record { content = given_sign (form Link (of_call j (codes "[[b|''c'']]"))) given_end; is = refl; nested = (tt, tt) };
    begins = tt;
    unopened = refl;
    unbroken = (refl, (refl, (refl, (refl, (refl, (refl, (refl, (refl, (refl, (refl, (refl, tt)))))))))));
    inside = (
      record {
        first = char (Some j) 91;
        others = of_call j (codes "[b|''c'']]");
        is = refl;
        of_call = (refl, (refl, (refl, (refl, (refl, (refl, (refl, (refl, (refl, (refl, (refl, tt)))))))))));
        no_body = refl;
        uncut = (refl, ((refl, ((refl, tt), tt)), tt));
      },
      tt,
    );
    even = refl;
    closed = refl;
  };
  urls = λ e. absurd (cc);
  opens = λ e. refl;
  opens_style = λ e. absurd (cc);
  closes_style = λ e. absurd (cc);
}

-- `''b''`, as a group that begins and ends with an apostrophe
abbrev pub beside_styles : Transclusion
beside_styles = record {
  slashes = false;
  is_invisible = false;
  is_blank = false;
  opens_with_apostrophe = true;
  closes_with_apostrophe = true;
  began_line = false;
  ended_line = false;
  ended_content = false;
  between_equals = false;
}

abbrev a_style : GivenContent
a_style = given_style false (given_sign (character 98) given_end) given_end

style_signs : (j : ℕ) → AreGivenSigns false (signs_of j a_style)
style_signs j =
    (record { node = inl refl; closed = untagged_closed (byte_glyphs (codes "''")) refl; leads = tt; follows = tt }, (inl refl, (λ e. absurd (cc)), (record { node = inl refl; closed = untagged_closed (byte_glyphs (codes "''")) refl; leads = tt; follows = tt }, tt)))

pub style_line : (j : ℕ) → line_parts (of_call j (codes "''b''")) ≡ given_parts j a_style
style_line j = given_line j a_style (style_signs j) (refl, refl, refl, tt, refl, tt)

-- in bold it may be, but not in italic
pub italic_in_bold : (j : ℕ) → PartsNestIn true false (line_parts (of_call j (codes "''b''")))
unfolding children
italic_in_bold j = subst (PartsNestIn true false) (sym (style_line j)) ((refl, (tt, tt)), tt)

italic_in_italic : (j : ℕ) → PartsNestIn false true (line_parts (of_call j (codes "''b''"))) → ⊥
unfolding children
italic_in_italic j h =
    let own : PartsNestIn false true (given_parts j a_style) = subst (PartsNestIn false true) (style_line j) h in
    let no : true ≡ false = own.0.0 in cc

style_inside : (j : ℕ) → AreGivenBy j (given_parts j a_style)
unfolding children
style_inside j = (
  record {
    first = char (Some j) 39;
    others = of_call j (codes "'b''");
    is = refl;
    of_call = (refl, (refl, (refl, (refl, (refl, tt)))));
    no_body = refl;
    uncut = (refl, ((refl, tt), tt));
  },
  tt,
)

style_closed : (j : ℕ) → has_open_text [] (all_unplaced (forest (children (given_parts j a_style)))) ≡ false
unfolding children label_at
style_closed j = refl

pub one_style : (j : ℕ) → IsGroup beside_styles j (of_call j (codes "''b''"))
unfolding context_parts chunks segments loose_segments tiles shapes closed form_at link_or_url link_at ext_link_at bare_url_at scheme_len tag_tile tag_at
    switch_at children with_styles style_tree_of toggles_of toggle_at opening_tag closing_tag empty_nowiki label_at
    link_in target_of read_text is_allowed is_forbidden is_good has_signature is_step begins_with_step holds_step ends_with_step
    name_of image is_called namespace_named prefix_of full_name_of whole_in cut_namespace title_in utf8_valid_len is_utf8 chars encode link_to
    line_start_hazard
one_style j = record {
  gives = record {
    signs = signs_of j a_style;
    is = refl;
    of_call = (refl, (refl, (refl, (refl, (refl, tt)))));
    are = style_signs j;
    nested = record { content = a_style; is = refl; nested = (refl, refl, refl, tt, refl, tt) };
    begins = tt;
    unopened = refl;
    unbroken = (refl, (refl, (refl, (refl, (refl, tt)))));
    inside = subst (AreGivenBy j) (sym (style_line j)) (style_inside j);
    even = refl;
    closed = ap (λ (ps : List Part). has_open_text [] (all_unplaced (forest (children ps)))) (style_line j) ∙ style_closed j;
  };
  urls = λ e. absurd (cc);
  opens = λ e. refl;
  opens_style = λ e. refl;
  closes_style = λ e. refl;
}

-- `&nbsp;`
abbrev space_item : ℕ → Item
space_item j = whole (form_of.Entity 160) (Some j) (codes "&nbsp;")

pub one_reference : (g : Transclusion) (j : ℕ) → IsGroup g j (space_item j ∷ [])
unfolding context_parts chunks segments loose_segments tiles shapes closed form_at link_or_url link_at ext_link_at bare_url_at scheme_len tag_tile tag_at
    switch_at children with_styles style_tree_of toggles_of toggle_at opening_tag closing_tag empty_nowiki label_at
    link_in target_of read_text is_allowed is_forbidden is_good has_signature is_step begins_with_step holds_step ends_with_step
    name_of image is_called namespace_named prefix_of full_name_of whole_in cut_namespace title_in utf8_valid_len is_utf8 chars encode link_to
    line_start_hazard
one_reference g j = record {
  gives = record {
    signs = form Node (space_item j ∷ []) ∷ [];
    is = refl;
    of_call = (refl, tt);
    are = (record { node = inl (inr (160, refl)); closed = untagged_closed (glyph.Entity 160 ∷ []) refl; leads = tt; follows = tt }, tt);
    nested = record { content = given_sign (form Node (space_item j ∷ [])) given_end; is = refl; nested = (tt, tt) };
    begins = tt;
    unopened = refl;
    unbroken = (refl, tt);
    inside = (record { first = space_item j; others = []; is = refl; of_call = (refl, tt); no_body = refl; uncut = (refl, tt) }, tt);
    even = refl;
    closed = refl;
  };
  urls = λ e. absurd (cc);
  opens = λ e. refl;
  opens_style = λ e. absurd (cc);
  closes_style = λ e. absurd (cc);
}

-- nothing: a mark, which doesn't begin a line
abbrev pub nothing_item : ℕ → List ℕ → Item
nothing_item j source = whole form_of.EmptyCall (Some j) source

pub an_empty_call : (j : ℕ) → IsGroup beside_letters j (nothing_item j (codes "{{t}}") ∷ [])
unfolding context_parts chunks segments loose_segments tiles shapes closed form_at link_or_url link_at ext_link_at bare_url_at scheme_len tag_tile tag_at
    switch_at children with_styles style_tree_of toggles_of toggle_at opening_tag closing_tag empty_nowiki label_at
    link_in target_of read_text is_allowed is_forbidden is_good has_signature is_step begins_with_step holds_step ends_with_step
    name_of image is_called namespace_named prefix_of full_name_of whole_in cut_namespace title_in utf8_valid_len is_utf8 chars encode link_to
    line_start_hazard
an_empty_call j = record {
  gives = record {
    signs = form (Mark false false) (nothing_item j (codes "{{t}}") ∷ []) ∷ [];
    is = refl;
    of_call = (refl, tt);
    are = (record { node = refl; closed = untagged_closed (glyph.Mark ∷ []) refl; leads = tt; follows = tt }, tt);
    nested = record { content = given_sign (form (Mark false false) (nothing_item j (codes "{{t}}") ∷ [])) given_end; is = refl; nested = (tt, tt) };
    begins = tt;
    unopened = refl;
    unbroken = (refl, tt);
    inside = (record { first = nothing_item j (codes "{{t}}"); others = []; is = refl; of_call = (refl, tt); no_body = refl; uncut = (refl, tt) }, tt);
    even = refl;
    closed = refl;
  };
  urls = λ e. cc;
  opens = λ e. cc;
  opens_style = λ e. cc;
  closes_style = λ e. cc;
}

-- ---- signs

-- a link among words: `a [[b]].`
abbrev among_words : List GivenSign
among_words = character 97 ∷ character 32 ∷ form Link (of_call 0 (codes "[[b]]")) ∷ character 46 ∷ []

pub link_among_words : AreGivenSigns false among_words
link_among_words = (inl refl, (λ e. absurd (cc)), (inl refl, (λ e. absurd (cc)), (record { node = a_link; closed = untagged_closed (byte_glyphs (codes "[[b]]")) refl; leads = tt; follows = refl }, (inl refl, (λ e. absurd (cc)), tt))))

-- but no letter is behind a link
joined_letter : AreGivenSigns false (form Link (of_call 0 (codes "[[b]]")) ∷ character 115 ∷ []) → ⊥
joined_letter h = let no : true ≡ false = h.0.follows in cc

a_url : IsBareNode (byte_glyphs (codes "http://k"))
unfolding bare_url_at scheme_len is_url_char is_dropped kept_len
a_url = record { shape = bare_shape 8; first = 104; others = byte_glyphs (codes "ttp://k"); is = refl; unbracketed = refl; url = refl; whole = refl }

pub one_url : AreGivenSigns false (form (Bare false) (of_call 0 (codes "http://k")) ∷ [])
one_url = (record { node = a_url; closed = untagged_closed (byte_glyphs (codes "http://k")) refl; leads = refl; follows = tt }, tt)

-- braces and an `&` may be among characters, since nothing of them is read again
pub braces : AreGivenSigns false (character 123 ∷ character 125 ∷ character 38 ∷ [])
braces = (inl refl, (λ e. absurd (cc)), (inl refl, (λ e. absurd (cc)), (inl refl, (λ e. absurd (cc)), tt)))

-- and a `[` before another character
pub a_note : AreGivenSigns false (map character (codes "[1]"))
a_note = (inr (refl, refl), (λ e. absurd (cc)), (inl refl, (λ e. absurd (cc)), (inl refl, (λ e. absurd (cc)), tt)))

-- a `<`, a `[` that is last, two, two apostrophes and a scheme may not
a_tag : AreGivenSigns false (character 60 ∷ character 98 ∷ []) → ⊥
a_tag h = elim h.0 [
  | inl e ↦ let no : false ≡ true = e in cc
  | inr k ↦ let no : false ≡ true = ap (λ (n : ℕ). n == 91) k.0 in cc
]

a_bracket : AreGivenSigns false (character 91 ∷ []) → ⊥
a_bracket h = elim h.0 [
  | inl e ↦ let no : false ≡ true = e in cc
  | inr k ↦ k.1
]

two_brackets : AreGivenSigns false (character 91 ∷ character 91 ∷ []) → ⊥
two_brackets h = elim h.0 [
  | inl e ↦ let no : false ≡ true = e in cc
  | inr k ↦ let no : true ≡ false = k.1 in cc
]

two_quotes : AreGivenSigns false (character 39 ∷ character 39 ∷ character 98 ∷ []) → ⊥
two_quotes h = let no : false ≡ true = h.1 refl in cc

a_scheme : AreGivenSigns false (character 112 ∷ character 58 ∷ character 47 ∷ character 47 ∷ []) → ⊥
a_scheme h = let no : false ≡ true = h.2.1 refl in cc

-- bold in italic may be among them, each with its own delimiters
abbrev bold_word : GivenContent
bold_word = given_style true (given_sign (character 98) given_end) given_end

pub nested_styles : AreNestedGiven false false (given_style false (given_sign (character 97) (given_style true (given_sign (character 98) given_end) (given_sign (character 99) given_end))) given_end)
nested_styles = (refl, refl, refl, (refl, refl, refl, tt, refl, tt), refl, tt)

-- but not side by side, as in `'''''b'''''`, nor one in another of its kind, nor without anything in it
five_quotes : AreNestedGiven false false (given_style false bold_word given_end) → ⊥
five_quotes h = let no : true ≡ false = h.1 in cc

bold_in_bold : AreNestedGiven true false bold_word → ⊥
bold_in_bold h = let no : true ≡ false = h.0 in cc

nothing_in_it : AreNestedGiven false false (given_style true given_end given_end) → ⊥
nothing_in_it h = let no : true ≡ false = h.1 in cc
