-- Worked cases: a paragraph with a call that gives a word, between two letters that are typed.
use Rattle.std.proofs.Common.{◌≡◌, inl, ℕ, false, Some, None, List, [], ◌∷◌, map, refl, sym, subst}
use Rattle.std.specs.Prelude.{codes, if◌then◌else◌}
use Rattle.std.specs.Str.{bytes_eq, is_utf8, chars}
use Rattle.std.specs.Str.Lossy.{utf8_valid_len}
use lib.Utf8.{encode}
use Rattle.wt_tree.specs.declared.edit_shape.Place.TheVariants as place
use Rattle.wt_span.specs.Comments.{comment_len, comment_line_len}
use Rattle.wt_span.specs.Entities.{entity_at, named_entity, decimal_entity, hex_entity, entity_names}
use Rattle.wt_span.specs.Tags.{raw_len, opening_tag, tag_after, closing_tag, with_inside, is_extension, include_at}
use Rattle.wt_span.specs.Lexemes.{sign_word, form_at, closed, words}
use Rattle.wt_span.specs.Braces.{rewritten, reduced, parts_of}
use Rattle.wt_span.specs.declared.form.ItemForm.TheVariants as form
use Rattle.wt_span.specs.Items.{char, whole}
use Rattle.wt_names.specs.Good.{is_forbidden, is_allowed, has_signature, is_step, begins_with_step, holds_step, ends_with_step, is_good, read_text}
use Rattle.wt_names.specs.Namespace.{name_of, image, is_called, namespace_named, prefix_of, full_name_of}
use Rattle.wt_names.specs.Reading.{whole_in, cut_namespace, title_in}
use Rattle.wt_names.specs.Written.{link_to}
use Rattle.wt_guards.specs.declared.role.Role.TheVariants.{Group}
use Rattle.wt_guards.specs.declared.role.Transclusion.{Transclusion}
use Rattle.wt_guards.specs.Content.{ContentSign, Thing, letter, thing}
use Rattle.wt_guards.specs.Guards.{Setting, nowiki, is_guarded, is_between_guard, is_start_guard, is_end_guard, is_blank_guard}
use Rattle.wt_guards.specs.Letters.{is_escaped}
use Rattle.wt_guards.specs.Table.{hazard, line_start_hazard}
use Rattle.wt_inline.specs.Parts.{children}
use Rattle.wt_tiles.specs.Links.{link_at}
use Rattle.wt_tiles.specs.Urls.{scheme_len, ext_link_at, bare_url_at}
use Rattle.wt_tiles.specs.Tags.{tag_at, opening_tag as opens_tag, closing_tag as closes_tag}
use Rattle.wt_tiles.specs.Tiles.{tag_tile, switch_at, link_or_url, form_at as tile_at, closed as closes, shapes, tiles}
use Rattle.wt_quotes.specs.Toggles.{toggle_at, toggles_of}
use Rattle.wt_quotes.specs.Styles.{style_tree_of}
use Rattle.wt_context.specs.Segments.{loose_segments}
use Rattle.wt_context.specs.Chunks.{chunks}
use Rattle.wt_context.specs.Styled.{with_styles}
use Rattle.wt_context.specs.Nodes.{segments}
use Rattle.wt_context.specs.Line.{context_parts}
use Rattle.wt_annotated.specs.Labels.{label_at}
use Rattle.wt_isolation.specs.GroupItems.{empty_nowiki}
use Rattle.wt_expand.specs.PageCalls.{numbered, page_stretches, expanded_page}
use Rattle.wt_expand.specs.Texts.{trimmed, trimmed_items, name_text}
use Rattle.wt_expand.specs.Targets.{title_in_target, title_of_target, is_function, called}
use Rattle.wt_expand.specs.Templates.{begins_only, ends_only, template_text}
use Rattle.wt_expand.specs.Work.{Pages}
use Rattle.wt_expand.specs.Expansion.{text_members, most_templates, absent_text, loop_text, depth_text}
use Rattle.wt_beside_laws.specs.Called.{items_with, owns_in, GivesGroup, IsCalledIn}
use Rattle.wt_beside_laws.specs.Given.{character, given_end, given_sign, AreGivenSigns, IsGroup}

-- `Template:T` is a word, and no other page is there
abbrev pub a_word : Pages
a_word full = if bytes_eq full (codes "Template:T") then Some (codes "b") else None

-- the group that it is where letters are beside it
abbrev pub beside_letters : Transclusion
beside_letters = record {
  slashes = false;
  is_invisible = false;
  is_blank = false;
  opens_with_apostrophe = false;
  closes_with_apostrophe = false;
  began_line = false;
  ended_line = false;
  ended_content = false;
  between_equals = false;
}

-- one word of a call
pub a_word_group : (g : Transclusion) (j : ℕ) → IsGroup g j (char (Some j) 98 ∷ [])
unfolding context_parts chunks segments loose_segments tiles shapes closes tile_at link_or_url link_at ext_link_at bare_url_at scheme_len tag_tile tag_at
    switch_at children with_styles style_tree_of toggles_of toggle_at opens_tag closes_tag empty_nowiki label_at line_start_hazard
a_word_group g j = record {
  gives = record {
    signs = character 98 ∷ [];
    is = refl;
    of_call = (refl, tt);
    are = (inl refl, (λ e. absurd (cc)), tt);
    nested = record { content = given_sign (character 98) given_end; is = refl; nested = tt };
    begins = refl;
    unopened = refl;
    unbroken = (refl, tt);
    inside = (refl, tt);
    even = refl;
    closed = refl;
  };
  urls = λ e. absurd (cc);
  opens = λ e. refl;
  opens_style = λ e. absurd (cc);
  closes_style = λ e. absurd (cc);
}

-- which it gives, however many calls come before it
pub gives_char : (i : ℕ) → numbered i (page_stretches a_word (codes "{{t}}")) ≡ char (Some i) 98 ∷ []
unfolding words closed form_at comment_len comment_line_len raw_len opening_tag tag_after closing_tag with_inside is_extension
    include_at entity_at named_entity decimal_entity hex_entity entity_names sign_word reduced rewritten parts_of text_members trimmed
    trimmed_items name_text called most_templates is_function title_of_target title_in_target read_text is_allowed is_forbidden
    is_good has_signature is_step begins_with_step holds_step ends_with_step name_of image is_called namespace_named prefix_of
    full_name_of whole_in cut_namespace title_in template_text begins_only ends_only loop_text depth_text absent_text
    utf8_valid_len is_utf8 chars encode link_to page_stretches expanded_page
gives_char i = refl

pub gives_word : (g : Transclusion) → GivesGroup a_word g (codes "{{t}}")
gives_word g = λ i. subst (IsGroup g i) (sym (gives_char i)) (a_word_group g i)

pub gives_b : GivesGroup a_word beside_letters (codes "{{t}}")
gives_b = gives_word beside_letters

abbrev pub call : Thing
call = record { role = Group beside_letters; source = codes "{{t}}"; place = Some (record { start = 1; end = 6 }) }

abbrev pub in_paragraph : Setting
in_paragraph = record { within = false; place = place.Paragraph; source = codes "x{{t}}y" }

abbrev pub typed : List ContentSign
typed = letter 120 ∷ thing call ∷ letter 121 ∷ []

pub in_class : IsCalledIn a_word in_paragraph typed
unfolding is_guarded is_between_guard is_start_guard is_end_guard is_blank_guard hazard line_start_hazard
in_class = record {
  of_block = refl;
  characters = (refl, (refl, tt));
  given = (gives_b, tt);
  meet = λ i. ((λ e. tt), tt);
  some = tt;
}

-- `x<nowiki/>b<nowiki/>y`, of which `b` comes from the call
pub written : items_with in_paragraph [] typed (owns_in a_word 0 typed)
    ≡ char None 120 ∷ whole form.Nowiki None nowiki ∷ char (Some 0) 98 ∷ whole form.Nowiki None nowiki ∷ char None 121 ∷ []
unfolding is_guarded is_between_guard is_start_guard is_end_guard is_blank_guard hazard line_start_hazard is_escaped
    words closed form_at comment_len comment_line_len raw_len opening_tag tag_after closing_tag with_inside is_extension
    include_at entity_at named_entity decimal_entity hex_entity entity_names sign_word reduced rewritten parts_of text_members trimmed
    trimmed_items name_text called most_templates is_function title_of_target title_in_target read_text is_allowed is_forbidden
    is_good has_signature is_step begins_with_step holds_step ends_with_step name_of image is_called namespace_named prefix_of
    full_name_of whole_in cut_namespace title_in template_text begins_only ends_only loop_text depth_text absent_text
    utf8_valid_len is_utf8 chars encode link_to page_stretches expanded_page
written = refl

-- and beside blanks nothing is put
abbrev beside_blanks : List ContentSign
beside_blanks = letter 120 ∷ letter 32 ∷ thing call ∷ letter 32 ∷ letter 121 ∷ []

pub unguarded : items_with in_paragraph [] beside_blanks ((char (Some 0) 98 ∷ []) ∷ [])
    ≡ char None 120 ∷ char None 32 ∷ char (Some 0) 98 ∷ char None 32 ∷ char None 121 ∷ []
unfolding is_guarded is_between_guard is_start_guard is_end_guard is_blank_guard hazard line_start_hazard is_escaped encode
unguarded = refl

-- apostrophes, colons and `_` may be among characters that a call gives, each before another one
pub an_apostrophe : AreGivenSigns false (map character (codes "it's"))
an_apostrophe = (
  inl refl,
  (λ e. absurd (cc)),
  (
    inl refl,
    (λ e. absurd (cc)),
    (inl refl, (λ e. refl), (inl refl, (λ e. absurd (cc)), tt)),
  ),
)
