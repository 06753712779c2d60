-- Worked cases of the definitions, each computed: the tiles of a line, of a link's text, and inside of many pairs.
use Rattle.std.proofs.Common.{◌≡◌, ℕ, true, false, List, [], ◌∷◌, ◌++◌, map, refl}
use Rattle.std.specs.Prelude.{codes}
use Rattle.std.specs.Str.{is_utf8, chars as chars_of}
use Rattle.wt_names.specs.Namespace.{namespace_named, is_called, name_of, image, prefix_of, full_name_of}
use Rattle.wt_names.specs.Reading.{whole_in, cut_namespace, title_in}
use Rattle.wt_names.specs.Good.{read_text, is_good, is_allowed, is_forbidden, has_signature, is_step, begins_with_step, holds_step, ends_with_step}
use Rattle.wt_tiles.specs.declared.context.Context.{Context}
use Rattle.wt_tiles.specs.declared.glyph.Glyph.{Glyph}
use Rattle.wt_tiles.specs.declared.glyph.Glyph.TheVariants as glyph
use Rattle.wt_tiles.specs.declared.shape.Shape.{Shape}
use Rattle.wt_tiles.specs.declared.shape.TileKind.{TileKind}
use Rattle.wt_tiles.specs.declared.shape.TileKind.TheVariants as kind
use Rattle.wt_tiles.specs.Tags.{name_of as tag_name_of, live_name, is_island_name, is_style_name, is_phrase_name, is_block_name, is_list_name, is_table_name, is_include_name, tag_after, opening_tag, closing_tag, tag_at}
use Rattle.wt_tiles.specs.Partners.{bracket_turn}
use Rattle.wt_tiles.specs.Links.{leaf, target_of, link_in, link_at}
use Rattle.wt_tiles.specs.Urls.{scheme_len, is_url_char, is_dropped, kept_len, ext_link_at, bare_url_at}
use Rattle.wt_tiles.specs.Tiles.{chars, tag_tile, switch_names, switch_at, link_or_url, form_at, closed, shapes}

abbrev text : List ℕ → List Glyph
text bs = map (λ b. glyph.Byte b) bs

abbrev in_line : Context
in_line = record { in_link = false; pairs = 0 }

abbrev in_text : Context
in_text = record { in_link = true; pairs = 0 }

abbrev in_pairs : ℕ → Context
in_pairs n = record { in_link = false; pairs = n }

abbrev parted : TileKind → ℕ → ℕ → ℕ → ℕ → Shape
parted k o i c t = record { kind = k; opening = o; inside = i; closing = c; trail = t }

-- letters after a link join it
trail : shapes in_line (text (codes "[[a]]s b"))
    ≡ parted kind.Link 2 1 2 1 ∷ chars 2 ∷ []
unfolding shapes closed form_at link_or_url tag_tile switch_at switch_names bare_url_at kept_len is_dropped ext_link_at
    is_url_char scheme_len link_at link_in target_of bracket_turn tag_at closing_tag opening_tag tag_after tag_name_of live_name
    is_island_name is_style_name is_phrase_name is_block_name is_list_name is_table_name is_include_name read_text is_good
    is_allowed is_forbidden has_signature is_step begins_with_step holds_step ends_with_step title_in cut_namespace whole_in
    namespace_named is_called name_of image prefix_of full_name_of is_utf8 chars_of lib.Utf8.encode
trail = refl

-- capitals don't
trail_of_small_letters : shapes in_line (text (codes "[[a]]sS"))
    ≡ parted kind.Link 2 1 2 1 ∷ chars 1 ∷ []
unfolding shapes closed form_at link_or_url tag_tile switch_at switch_names bare_url_at kept_len is_dropped ext_link_at
    is_url_char scheme_len link_at link_in target_of bracket_turn tag_at closing_tag opening_tag tag_after tag_name_of live_name
    is_island_name is_style_name is_phrase_name is_block_name is_list_name is_table_name is_include_name read_text is_good
    is_allowed is_forbidden has_signature is_step begins_with_step holds_step ends_with_step title_in cut_namespace whole_in
    namespace_named is_called name_of image prefix_of full_name_of is_utf8 chars_of lib.Utf8.encode
trail_of_small_letters = refl

-- an external link and a bare URL, whose comma is dropped
urls : shapes in_line (text (codes "[http://a.b/c d] http://e.f/g, x"))
    ≡ parted kind.ExtLink 14 1 1 0 ∷ chars 1 ∷ parted kind.BareUrl 0 12 0 0 ∷ chars 3 ∷ []
unfolding shapes closed form_at link_or_url tag_tile switch_at switch_names bare_url_at kept_len is_dropped ext_link_at
    is_url_char scheme_len link_at link_in target_of bracket_turn tag_at closing_tag opening_tag tag_after tag_name_of live_name
    is_island_name is_style_name is_phrase_name is_block_name is_list_name is_table_name is_include_name read_text is_good
    is_allowed is_forbidden has_signature is_step begins_with_step holds_step ends_with_step title_in cut_namespace whole_in
    namespace_named is_called name_of image prefix_of full_name_of is_utf8 chars_of lib.Utf8.encode
urls = refl

-- the closing tag counts though it would lie in a link
pair_first : shapes in_line (text (codes "<s>[[a|</s>]]"))
    ≡ parted kind.Pair 3 4 4 0 ∷ chars 2 ∷ []
unfolding shapes closed form_at link_or_url tag_tile switch_at switch_names bare_url_at kept_len is_dropped ext_link_at
    is_url_char scheme_len link_at link_in target_of bracket_turn tag_at closing_tag opening_tag tag_after tag_name_of live_name
    is_island_name is_style_name is_phrase_name is_block_name is_list_name is_table_name is_include_name read_text is_good
    is_allowed is_forbidden has_signature is_step begins_with_step holds_step ends_with_step title_in cut_namespace whole_in
    namespace_named is_called name_of image prefix_of full_name_of is_utf8 chars_of lib.Utf8.encode
pair_first = refl

-- a mark makes a text that isn't empty
comment_as_text : shapes in_line ((text (codes "[[a|")) ++ ((glyph.Mark ∷ []) ++ (text (codes "]]"))))
    ≡ parted kind.Link 4 1 2 0 ∷ []
unfolding shapes closed form_at link_or_url tag_tile switch_at switch_names bare_url_at kept_len is_dropped ext_link_at
    is_url_char scheme_len link_at link_in target_of bracket_turn tag_at closing_tag opening_tag tag_after tag_name_of live_name
    is_island_name is_style_name is_phrase_name is_block_name is_list_name is_table_name is_include_name read_text is_good
    is_allowed is_forbidden has_signature is_step begins_with_step holds_step ends_with_step title_in cut_namespace whole_in
    namespace_named is_called name_of image prefix_of full_name_of is_utf8 chars_of lib.Utf8.encode
comment_as_text = refl

-- an empty text makes it no link
no_text : shapes in_line (text (codes "[[a|]]"))
    ≡ chars 6 ∷ []
unfolding shapes closed form_at link_or_url tag_tile switch_at switch_names bare_url_at kept_len is_dropped ext_link_at
    is_url_char scheme_len link_at link_in target_of bracket_turn tag_at closing_tag opening_tag tag_after tag_name_of live_name
    is_island_name is_style_name is_phrase_name is_block_name is_list_name is_table_name is_include_name read_text is_good
    is_allowed is_forbidden has_signature is_step begins_with_step holds_step ends_with_step title_in cut_namespace whole_in
    namespace_named is_called name_of image prefix_of full_name_of is_utf8 chars_of lib.Utf8.encode
no_text = refl

-- nor a category
no_key : shapes in_line (text (codes "[[Category:X|]]"))
    ≡ chars 15 ∷ []
unfolding shapes closed form_at link_or_url tag_tile switch_at switch_names bare_url_at kept_len is_dropped ext_link_at
    is_url_char scheme_len link_at link_in target_of bracket_turn tag_at closing_tag opening_tag tag_after tag_name_of live_name
    is_island_name is_style_name is_phrase_name is_block_name is_list_name is_table_name is_include_name read_text is_good
    is_allowed is_forbidden has_signature is_step begins_with_step holds_step ends_with_step title_in cut_namespace whole_in
    namespace_named is_called name_of image prefix_of full_name_of is_utf8 chars_of lib.Utf8.encode
no_key = refl

-- nor media
no_caption : shapes in_line (text (codes "[[File:x|]]"))
    ≡ chars 11 ∷ []
unfolding shapes closed form_at link_or_url tag_tile switch_at switch_names bare_url_at kept_len is_dropped ext_link_at
    is_url_char scheme_len link_at link_in target_of bracket_turn tag_at closing_tag opening_tag tag_after tag_name_of live_name
    is_island_name is_style_name is_phrase_name is_block_name is_list_name is_table_name is_include_name read_text is_good
    is_allowed is_forbidden has_signature is_step begins_with_step holds_step ends_with_step title_in cut_namespace whole_in
    namespace_named is_called name_of image prefix_of full_name_of is_utf8 chars_of lib.Utf8.encode
no_caption = refl

-- a colon after a blank stands in the text
blank_before_colon : shapes in_line (text (codes "[[ :a]]"))
    ≡ parted kind.Link 2 3 2 0 ∷ []
unfolding shapes closed form_at link_or_url tag_tile switch_at switch_names bare_url_at kept_len is_dropped ext_link_at
    is_url_char scheme_len link_at link_in target_of bracket_turn tag_at closing_tag opening_tag tag_after tag_name_of live_name
    is_island_name is_style_name is_phrase_name is_block_name is_list_name is_table_name is_include_name read_text is_good
    is_allowed is_forbidden has_signature is_step begins_with_step holds_step ends_with_step title_in cut_namespace whole_in
    namespace_named is_called name_of image prefix_of full_name_of is_utf8 chars_of lib.Utf8.encode
blank_before_colon = refl

-- an entity counts as a colon of the target, and stands in the text
entity_colon : shapes in_line ((text (codes "[[")) ++ ((glyph.Entity 58 ∷ []) ++ (text (codes "a]]"))))
    ≡ parted kind.Link 2 2 2 0 ∷ []
unfolding shapes closed form_at link_or_url tag_tile switch_at switch_names bare_url_at kept_len is_dropped ext_link_at
    is_url_char scheme_len link_at link_in target_of bracket_turn tag_at closing_tag opening_tag tag_after tag_name_of live_name
    is_island_name is_style_name is_phrase_name is_block_name is_list_name is_table_name is_include_name read_text is_good
    is_allowed is_forbidden has_signature is_step begins_with_step holds_step ends_with_step title_in cut_namespace whole_in
    namespace_named is_called name_of image prefix_of full_name_of is_utf8 chars_of lib.Utf8.encode
entity_colon = refl

-- with a colon a category is linked to
colon : shapes in_line (text (codes "[[:Category:X]]"))
    ≡ parted kind.Link 3 10 2 0 ∷ []
unfolding shapes closed form_at link_or_url tag_tile switch_at switch_names bare_url_at kept_len is_dropped ext_link_at
    is_url_char scheme_len link_at link_in target_of bracket_turn tag_at closing_tag opening_tag tag_after tag_name_of live_name
    is_island_name is_style_name is_phrase_name is_block_name is_list_name is_table_name is_include_name read_text is_good
    is_allowed is_forbidden has_signature is_step begins_with_step holds_step ends_with_step title_in cut_namespace whole_in
    namespace_named is_called name_of image prefix_of full_name_of is_utf8 chars_of lib.Utf8.encode
colon = refl

-- a category takes no trail
category : shapes in_line (text (codes "[[category:x|b]]s"))
    ≡ leaf kind.Category 16 ∷ chars 1 ∷ []
unfolding shapes closed form_at link_or_url tag_tile switch_at switch_names bare_url_at kept_len is_dropped ext_link_at
    is_url_char scheme_len link_at link_in target_of bracket_turn tag_at closing_tag opening_tag tag_after tag_name_of live_name
    is_island_name is_style_name is_phrase_name is_block_name is_list_name is_table_name is_include_name read_text is_good
    is_allowed is_forbidden has_signature is_step begins_with_step holds_step ends_with_step title_in cut_namespace whole_in
    namespace_named is_called name_of image prefix_of full_name_of is_utf8 chars_of lib.Utf8.encode
category = refl

-- media ends where its brackets balance
media : shapes in_line (text (codes "[[Image:x|[[a]] b]] c"))
    ≡ leaf kind.Media 19 ∷ chars 2 ∷ []
unfolding shapes closed form_at link_or_url tag_tile switch_at switch_names bare_url_at kept_len is_dropped ext_link_at
    is_url_char scheme_len link_at link_in target_of bracket_turn tag_at closing_tag opening_tag tag_after tag_name_of live_name
    is_island_name is_style_name is_phrase_name is_block_name is_list_name is_table_name is_include_name read_text is_good
    is_allowed is_forbidden has_signature is_step begins_with_step holds_step ends_with_step title_in cut_namespace whole_in
    namespace_named is_called name_of image prefix_of full_name_of is_utf8 chars_of lib.Utf8.encode
media = refl

-- and is none where they don't
open_media : shapes in_line (text (codes "[[File:x|[[a]]"))
    ≡ chars 9 ∷ parted kind.Link 2 1 2 0 ∷ []
unfolding shapes closed form_at link_or_url tag_tile switch_at switch_names bare_url_at kept_len is_dropped ext_link_at
    is_url_char scheme_len link_at link_in target_of bracket_turn tag_at closing_tag opening_tag tag_after tag_name_of live_name
    is_island_name is_style_name is_phrase_name is_block_name is_list_name is_table_name is_include_name read_text is_good
    is_allowed is_forbidden has_signature is_step begins_with_step holds_step ends_with_step title_in cut_namespace whole_in
    namespace_named is_called name_of image prefix_of full_name_of is_utf8 chars_of lib.Utf8.encode
open_media = refl

-- no link holds another
inner_link : shapes in_line (text (codes "[[a[[b]]"))
    ≡ chars 3 ∷ parted kind.Link 2 1 2 0 ∷ []
unfolding shapes closed form_at link_or_url tag_tile switch_at switch_names bare_url_at kept_len is_dropped ext_link_at
    is_url_char scheme_len link_at link_in target_of bracket_turn tag_at closing_tag opening_tag tag_after tag_name_of live_name
    is_island_name is_style_name is_phrase_name is_block_name is_list_name is_table_name is_include_name read_text is_good
    is_allowed is_forbidden has_signature is_step begins_with_step holds_step ends_with_step title_in cut_namespace whole_in
    namespace_named is_called name_of image prefix_of full_name_of is_utf8 chars_of lib.Utf8.encode
inner_link = refl

-- a link may begin in brackets that begin none
three_brackets : shapes in_line (text (codes "[[[a]]]"))
    ≡ chars 1 ∷ parted kind.Link 2 1 2 0 ∷ chars 1 ∷ []
unfolding shapes closed form_at link_or_url tag_tile switch_at switch_names bare_url_at kept_len is_dropped ext_link_at
    is_url_char scheme_len link_at link_in target_of bracket_turn tag_at closing_tag opening_tag tag_after tag_name_of live_name
    is_island_name is_style_name is_phrase_name is_block_name is_list_name is_table_name is_include_name read_text is_good
    is_allowed is_forbidden has_signature is_step begins_with_step holds_step ends_with_step title_in cut_namespace whole_in
    namespace_named is_called name_of image prefix_of full_name_of is_utf8 chars_of lib.Utf8.encode
three_brackets = refl

-- the first close ends it
first_close : shapes in_line (text (codes "[[a]]b]]"))
    ≡ parted kind.Link 2 1 2 1 ∷ chars 2 ∷ []
unfolding shapes closed form_at link_or_url tag_tile switch_at switch_names bare_url_at kept_len is_dropped ext_link_at
    is_url_char scheme_len link_at link_in target_of bracket_turn tag_at closing_tag opening_tag tag_after tag_name_of live_name
    is_island_name is_style_name is_phrase_name is_block_name is_list_name is_table_name is_include_name read_text is_good
    is_allowed is_forbidden has_signature is_step begins_with_step holds_step ends_with_step title_in cut_namespace whole_in
    namespace_named is_called name_of image prefix_of full_name_of is_utf8 chars_of lib.Utf8.encode
first_close = refl

-- a bad title makes no link
bad_title : shapes in_line (text (codes "[[a>b]]"))
    ≡ chars 7 ∷ []
unfolding shapes closed form_at link_or_url tag_tile switch_at switch_names bare_url_at kept_len is_dropped ext_link_at
    is_url_char scheme_len link_at link_in target_of bracket_turn tag_at closing_tag opening_tag tag_after tag_name_of live_name
    is_island_name is_style_name is_phrase_name is_block_name is_list_name is_table_name is_include_name read_text is_good
    is_allowed is_forbidden has_signature is_step begins_with_step holds_step ends_with_step title_in cut_namespace whole_in
    namespace_named is_called name_of image prefix_of full_name_of is_utf8 chars_of lib.Utf8.encode
bad_title = refl

-- nor does an atom in the target
atom_in_target : shapes in_line ((text (codes "[[a")) ++ ((glyph.Atom ∷ []) ++ (text (codes "]]"))))
    ≡ chars 3 ∷ leaf kind.Atom 1 ∷ chars 2 ∷ []
unfolding shapes closed form_at link_or_url tag_tile switch_at switch_names bare_url_at kept_len is_dropped ext_link_at
    is_url_char scheme_len link_at link_in target_of bracket_turn tag_at closing_tag opening_tag tag_after tag_name_of live_name
    is_island_name is_style_name is_phrase_name is_block_name is_list_name is_table_name is_include_name read_text is_good
    is_allowed is_forbidden has_signature is_step begins_with_step holds_step ends_with_step title_in cut_namespace whole_in
    namespace_named is_called name_of image prefix_of full_name_of is_utf8 chars_of lib.Utf8.encode
atom_in_target = refl

-- a mark parts a sign
mark_in_target : shapes in_line ((text (codes "[")) ++ ((glyph.Mark ∷ []) ++ (text (codes "[a]]"))))
    ≡ chars 1 ∷ leaf kind.Mark 1 ∷ chars 4 ∷ []
unfolding shapes closed form_at link_or_url tag_tile switch_at switch_names bare_url_at kept_len is_dropped ext_link_at
    is_url_char scheme_len link_at link_in target_of bracket_turn tag_at closing_tag opening_tag tag_after tag_name_of live_name
    is_island_name is_style_name is_phrase_name is_block_name is_list_name is_table_name is_include_name read_text is_good
    is_allowed is_forbidden has_signature is_step begins_with_step holds_step ends_with_step title_in cut_namespace whole_in
    namespace_named is_called name_of image prefix_of full_name_of is_utf8 chars_of lib.Utf8.encode
mark_in_target = refl

-- a fragment alone is a target
fragment : shapes in_line (text (codes "[[#a]]"))
    ≡ parted kind.Link 2 2 2 0 ∷ []
unfolding shapes closed form_at link_or_url tag_tile switch_at switch_names bare_url_at kept_len is_dropped ext_link_at
    is_url_char scheme_len link_at link_in target_of bracket_turn tag_at closing_tag opening_tag tag_after tag_name_of live_name
    is_island_name is_style_name is_phrase_name is_block_name is_list_name is_table_name is_include_name read_text is_good
    is_allowed is_forbidden has_signature is_step begins_with_step holds_step ends_with_step title_in cut_namespace whole_in
    namespace_named is_called name_of image prefix_of full_name_of is_utf8 chars_of lib.Utf8.encode
fragment = refl

-- apostrophes end a URL
apostrophes_end_url : shapes in_line (text (codes "[http://a''b'' c]"))
    ≡ parted kind.ExtLink 9 7 1 0 ∷ []
unfolding shapes closed form_at link_or_url tag_tile switch_at switch_names bare_url_at kept_len is_dropped ext_link_at
    is_url_char scheme_len link_at link_in target_of bracket_turn tag_at closing_tag opening_tag tag_after tag_name_of live_name
    is_island_name is_style_name is_phrase_name is_block_name is_list_name is_table_name is_include_name read_text is_good
    is_allowed is_forbidden has_signature is_step begins_with_step holds_step ends_with_step title_in cut_namespace whole_in
    namespace_named is_called name_of image prefix_of full_name_of is_utf8 chars_of lib.Utf8.encode
apostrophes_end_url = refl

-- and so does a tag
tag_ends_url : shapes in_line (text (codes "[http://a<s>x</s>]"))
    ≡ parted kind.ExtLink 9 8 1 0 ∷ []
unfolding shapes closed form_at link_or_url tag_tile switch_at switch_names bare_url_at kept_len is_dropped ext_link_at
    is_url_char scheme_len link_at link_in target_of bracket_turn tag_at closing_tag opening_tag tag_after tag_name_of live_name
    is_island_name is_style_name is_phrase_name is_block_name is_list_name is_table_name is_include_name read_text is_good
    is_allowed is_forbidden has_signature is_step begins_with_step holds_step ends_with_step title_in cut_namespace whole_in
    namespace_named is_called name_of image prefix_of full_name_of is_utf8 chars_of lib.Utf8.encode
tag_ends_url = refl

-- a blank text counts as none
no_link_text : shapes in_line (text (codes "[http://a ]"))
    ≡ parted kind.ExtLink 10 0 1 0 ∷ []
unfolding shapes closed form_at link_or_url tag_tile switch_at switch_names bare_url_at kept_len is_dropped ext_link_at
    is_url_char scheme_len link_at link_in target_of bracket_turn tag_at closing_tag opening_tag tag_after tag_name_of live_name
    is_island_name is_style_name is_phrase_name is_block_name is_list_name is_table_name is_include_name read_text is_good
    is_allowed is_forbidden has_signature is_step begins_with_step holds_step ends_with_step title_in cut_namespace whole_in
    namespace_named is_called name_of image prefix_of full_name_of is_utf8 chars_of lib.Utf8.encode
no_link_text = refl

-- one item at least follows the slashes
no_url_items : shapes in_line (text (codes "[http://]"))
    ≡ chars 9 ∷ []
unfolding shapes closed form_at link_or_url tag_tile switch_at switch_names bare_url_at kept_len is_dropped ext_link_at
    is_url_char scheme_len link_at link_in target_of bracket_turn tag_at closing_tag opening_tag tag_after tag_name_of live_name
    is_island_name is_style_name is_phrase_name is_block_name is_list_name is_table_name is_include_name read_text is_good
    is_allowed is_forbidden has_signature is_step begins_with_step holds_step ends_with_step title_in cut_namespace whole_in
    namespace_named is_called name_of image prefix_of full_name_of is_utf8 chars_of lib.Utf8.encode
no_url_items = refl

-- no bracket opens in the text of an external link
ext_bracket : shapes in_line (text (codes "[http://a [b]"))
    ≡ chars 1 ∷ parted kind.BareUrl 0 8 0 0 ∷ chars 4 ∷ []
unfolding shapes closed form_at link_or_url tag_tile switch_at switch_names bare_url_at kept_len is_dropped ext_link_at
    is_url_char scheme_len link_at link_in target_of bracket_turn tag_at closing_tag opening_tag tag_after tag_name_of live_name
    is_island_name is_style_name is_phrase_name is_block_name is_list_name is_table_name is_include_name read_text is_good
    is_allowed is_forbidden has_signature is_step begins_with_step holds_step ends_with_step title_in cut_namespace whole_in
    namespace_named is_called name_of image prefix_of full_name_of is_utf8 chars_of lib.Utf8.encode
ext_bracket = refl

-- letters of a scheme have no case
bare_apostrophes : shapes in_line (text (codes "HTTP://a''b"))
    ≡ parted kind.BareUrl 0 8 0 0 ∷ chars 3 ∷ []
unfolding shapes closed form_at link_or_url tag_tile switch_at switch_names bare_url_at kept_len is_dropped ext_link_at
    is_url_char scheme_len link_at link_in target_of bracket_turn tag_at closing_tag opening_tag tag_after tag_name_of live_name
    is_island_name is_style_name is_phrase_name is_block_name is_list_name is_table_name is_include_name read_text is_good
    is_allowed is_forbidden has_signature is_step begins_with_step holds_step ends_with_step title_in cut_namespace whole_in
    namespace_named is_called name_of image prefix_of full_name_of is_utf8 chars_of lib.Utf8.encode
bare_apostrophes = refl

-- no URL begins after a letter
after_letter : shapes in_line (text (codes "xhttp://a"))
    ≡ chars 9 ∷ []
unfolding shapes closed form_at link_or_url tag_tile switch_at switch_names bare_url_at kept_len is_dropped ext_link_at
    is_url_char scheme_len link_at link_in target_of bracket_turn tag_at closing_tag opening_tag tag_after tag_name_of live_name
    is_island_name is_style_name is_phrase_name is_block_name is_list_name is_table_name is_include_name read_text is_good
    is_allowed is_forbidden has_signature is_step begins_with_step holds_step ends_with_step title_in cut_namespace whole_in
    namespace_named is_called name_of image prefix_of full_name_of is_utf8 chars_of lib.Utf8.encode
after_letter = refl

-- a parenthesis is dropped
parenthesis : shapes in_line (text (codes "http://a.)."))
    ≡ parted kind.BareUrl 0 8 0 0 ∷ chars 3 ∷ []
unfolding shapes closed form_at link_or_url tag_tile switch_at switch_names bare_url_at kept_len is_dropped ext_link_at
    is_url_char scheme_len link_at link_in target_of bracket_turn tag_at closing_tag opening_tag tag_after tag_name_of live_name
    is_island_name is_style_name is_phrase_name is_block_name is_list_name is_table_name is_include_name read_text is_good
    is_allowed is_forbidden has_signature is_step begins_with_step holds_step ends_with_step title_in cut_namespace whole_in
    namespace_named is_called name_of image prefix_of full_name_of is_utf8 chars_of lib.Utf8.encode
parenthesis = refl

-- but not where one opens
parentheses : shapes in_line (text (codes "http://a(b)."))
    ≡ parted kind.BareUrl 0 11 0 0 ∷ chars 1 ∷ []
unfolding shapes closed form_at link_or_url tag_tile switch_at switch_names bare_url_at kept_len is_dropped ext_link_at
    is_url_char scheme_len link_at link_in target_of bracket_turn tag_at closing_tag opening_tag tag_after tag_name_of live_name
    is_island_name is_style_name is_phrase_name is_block_name is_list_name is_table_name is_include_name read_text is_good
    is_allowed is_forbidden has_signature is_step begins_with_step holds_step ends_with_step title_in cut_namespace whole_in
    namespace_named is_called name_of image prefix_of full_name_of is_utf8 chars_of lib.Utf8.encode
parentheses = refl

-- which no entity does
entity_parenthesis : shapes in_line ((text (codes "http://x")) ++ ((glyph.Entity 40 ∷ []) ++ (text (codes "y)"))))
    ≡ parted kind.BareUrl 0 10 0 0 ∷ chars 1 ∷ []
unfolding shapes closed form_at link_or_url tag_tile switch_at switch_names bare_url_at kept_len is_dropped ext_link_at
    is_url_char scheme_len link_at link_in target_of bracket_turn tag_at closing_tag opening_tag tag_after tag_name_of live_name
    is_island_name is_style_name is_phrase_name is_block_name is_list_name is_table_name is_include_name read_text is_good
    is_allowed is_forbidden has_signature is_step begins_with_step holds_step ends_with_step title_in cut_namespace whole_in
    namespace_named is_called name_of image prefix_of full_name_of is_utf8 chars_of lib.Utf8.encode
entity_parenthesis = refl

-- no entity is dropped
entity_kept : shapes in_line ((text (codes "http://x")) ++ (glyph.Entity 46 ∷ []))
    ≡ parted kind.BareUrl 0 9 0 0 ∷ []
unfolding shapes closed form_at link_or_url tag_tile switch_at switch_names bare_url_at kept_len is_dropped ext_link_at
    is_url_char scheme_len link_at link_in target_of bracket_turn tag_at closing_tag opening_tag tag_after tag_name_of live_name
    is_island_name is_style_name is_phrase_name is_block_name is_list_name is_table_name is_include_name read_text is_good
    is_allowed is_forbidden has_signature is_step begins_with_step holds_step ends_with_step title_in cut_namespace whole_in
    namespace_named is_called name_of image prefix_of full_name_of is_utf8 chars_of lib.Utf8.encode
entity_kept = refl

-- one item at least is left
only_dropped : shapes in_line (text (codes "http://.,"))
    ≡ chars 9 ∷ []
unfolding shapes closed form_at link_or_url tag_tile switch_at switch_names bare_url_at kept_len is_dropped ext_link_at
    is_url_char scheme_len link_at link_in target_of bracket_turn tag_at closing_tag opening_tag tag_after tag_name_of live_name
    is_island_name is_style_name is_phrase_name is_block_name is_list_name is_table_name is_include_name read_text is_good
    is_allowed is_forbidden has_signature is_step begins_with_step holds_step ends_with_step title_in cut_namespace whole_in
    namespace_named is_called name_of image prefix_of full_name_of is_utf8 chars_of lib.Utf8.encode
only_dropped = refl

-- marks and entities may stand in a tag
mark_in_tag : shapes in_line ((text (codes "<span ")) ++ ((glyph.Mark ∷ []) ++ (text (codes "class=x>a</span>"))))
    ≡ parted kind.Pair 15 1 7 0 ∷ []
unfolding shapes closed form_at link_or_url tag_tile switch_at switch_names bare_url_at kept_len is_dropped ext_link_at
    is_url_char scheme_len link_at link_in target_of bracket_turn tag_at closing_tag opening_tag tag_after tag_name_of live_name
    is_island_name is_style_name is_phrase_name is_block_name is_list_name is_table_name is_include_name read_text is_good
    is_allowed is_forbidden has_signature is_step begins_with_step holds_step ends_with_step title_in cut_namespace whole_in
    namespace_named is_called name_of image prefix_of full_name_of is_utf8 chars_of lib.Utf8.encode
mark_in_tag = refl

-- but no other atom
atom_in_tag : shapes in_line ((text (codes "<u ")) ++ ((glyph.Atom ∷ []) ++ (text (codes ">a</u>"))))
    ≡ chars 3 ∷ leaf kind.Atom 1 ∷ chars 2 ∷ leaf kind.TagIsland 4 ∷ []
unfolding shapes closed form_at link_or_url tag_tile switch_at switch_names bare_url_at kept_len is_dropped ext_link_at
    is_url_char scheme_len link_at link_in target_of bracket_turn tag_at closing_tag opening_tag tag_after tag_name_of live_name
    is_island_name is_style_name is_phrase_name is_block_name is_list_name is_table_name is_include_name read_text is_good
    is_allowed is_forbidden has_signature is_step begins_with_step holds_step ends_with_step title_in cut_namespace whole_in
    namespace_named is_called name_of image prefix_of full_name_of is_utf8 chars_of lib.Utf8.encode
atom_in_tag = refl

-- tags balance, without case
nested_pairs : shapes in_line (text (codes "<S><s>a</s></s >b"))
    ≡ parted kind.Pair 3 8 5 0 ∷ chars 1 ∷ []
unfolding shapes closed form_at link_or_url tag_tile switch_at switch_names bare_url_at kept_len is_dropped ext_link_at
    is_url_char scheme_len link_at link_in target_of bracket_turn tag_at closing_tag opening_tag tag_after tag_name_of live_name
    is_island_name is_style_name is_phrase_name is_block_name is_list_name is_table_name is_include_name read_text is_good
    is_allowed is_forbidden has_signature is_step begins_with_step holds_step ends_with_step title_in cut_namespace whole_in
    namespace_named is_called name_of image prefix_of full_name_of is_utf8 chars_of lib.Utf8.encode
nested_pairs = refl

-- tags that close themselves, line breaks
alone : shapes in_line (text (codes "<s/><br/><br x></br>"))
    ≡ leaf kind.TagIsland 4 ∷ leaf kind.Br 5 ∷ leaf kind.Br 6 ∷ leaf kind.TagIsland 5 ∷ []
unfolding shapes closed form_at link_or_url tag_tile switch_at switch_names bare_url_at kept_len is_dropped ext_link_at
    is_url_char scheme_len link_at link_in target_of bracket_turn tag_at closing_tag opening_tag tag_after tag_name_of live_name
    is_island_name is_style_name is_phrase_name is_block_name is_list_name is_table_name is_include_name read_text is_good
    is_allowed is_forbidden has_signature is_step begins_with_step holds_step ends_with_step title_in cut_namespace whole_in
    namespace_named is_called name_of image prefix_of full_name_of is_utf8 chars_of lib.Utf8.encode
alone = refl

-- other tags are islands, and so is one of a pair alone
islands : shapes in_line (text (codes "<div>a</div></s><s>"))
    ≡ leaf kind.TagIsland 5 ∷ chars 1 ∷ leaf kind.TagIsland 6 ∷ leaf kind.TagIsland 4 ∷ leaf kind.TagIsland 3 ∷ []
unfolding shapes closed form_at link_or_url tag_tile switch_at switch_names bare_url_at kept_len is_dropped ext_link_at
    is_url_char scheme_len link_at link_in target_of bracket_turn tag_at closing_tag opening_tag tag_after tag_name_of live_name
    is_island_name is_style_name is_phrase_name is_block_name is_list_name is_table_name is_include_name read_text is_good
    is_allowed is_forbidden has_signature is_step begins_with_step holds_step ends_with_step title_in cut_namespace whole_in
    namespace_named is_called name_of image prefix_of full_name_of is_utf8 chars_of lib.Utf8.encode
islands = refl

-- a name that isn't listed makes no tag
unknown : shapes in_line (text (codes "<x>a</x>"))
    ≡ chars 8 ∷ []
unfolding shapes closed form_at link_or_url tag_tile switch_at switch_names bare_url_at kept_len is_dropped ext_link_at
    is_url_char scheme_len link_at link_in target_of bracket_turn tag_at closing_tag opening_tag tag_after tag_name_of live_name
    is_island_name is_style_name is_phrase_name is_block_name is_list_name is_table_name is_include_name read_text is_good
    is_allowed is_forbidden has_signature is_step begins_with_step holds_step ends_with_step title_in cut_namespace whole_in
    namespace_named is_called name_of image prefix_of full_name_of is_utf8 chars_of lib.Utf8.encode
unknown = refl

-- a pair inside of 15
fifteen_pairs : shapes (in_pairs 15) (text (codes "<u>a</u>"))
    ≡ parted kind.Pair 3 1 4 0 ∷ []
unfolding shapes closed form_at link_or_url tag_tile switch_at switch_names bare_url_at kept_len is_dropped ext_link_at
    is_url_char scheme_len link_at link_in target_of bracket_turn tag_at closing_tag opening_tag tag_after tag_name_of live_name
    is_island_name is_style_name is_phrase_name is_block_name is_list_name is_table_name is_include_name read_text is_good
    is_allowed is_forbidden has_signature is_step begins_with_step holds_step ends_with_step title_in cut_namespace whole_in
    namespace_named is_called name_of image prefix_of full_name_of is_utf8 chars_of lib.Utf8.encode
fifteen_pairs = refl

-- inside of 16 it is two islands
seventeenth_pair : shapes (in_pairs 16) (text (codes "<u>a</u>"))
    ≡ leaf kind.TagIsland 3 ∷ chars 1 ∷ leaf kind.TagIsland 4 ∷ []
unfolding shapes closed form_at link_or_url tag_tile switch_at switch_names bare_url_at kept_len is_dropped ext_link_at
    is_url_char scheme_len link_at link_in target_of bracket_turn tag_at closing_tag opening_tag tag_after tag_name_of live_name
    is_island_name is_style_name is_phrase_name is_block_name is_list_name is_table_name is_include_name read_text is_good
    is_allowed is_forbidden has_signature is_step begins_with_step holds_step ends_with_step title_in cut_namespace whole_in
    namespace_named is_called name_of image prefix_of full_name_of is_utf8 chars_of lib.Utf8.encode
seventeenth_pair = refl

-- switches are in capitals
switch : shapes in_line (text (codes "__TOC__ __toc__"))
    ≡ leaf kind.Switch 7 ∷ chars 8 ∷ []
unfolding shapes closed form_at link_or_url tag_tile switch_at switch_names bare_url_at kept_len is_dropped ext_link_at
    is_url_char scheme_len link_at link_in target_of bracket_turn tag_at closing_tag opening_tag tag_after tag_name_of live_name
    is_island_name is_style_name is_phrase_name is_block_name is_list_name is_table_name is_include_name read_text is_good
    is_allowed is_forbidden has_signature is_step begins_with_step holds_step ends_with_step title_in cut_namespace whole_in
    namespace_named is_called name_of image prefix_of full_name_of is_utf8 chars_of lib.Utf8.encode
switch = refl

-- in a link's text no other link is read
text_of_link : shapes in_text (text (codes "[[a]] http://b <br>"))
    ≡ chars 15 ∷ leaf kind.Br 4 ∷ []
unfolding shapes closed form_at link_or_url tag_tile switch_at switch_names bare_url_at kept_len is_dropped ext_link_at
    is_url_char scheme_len link_at link_in target_of bracket_turn tag_at closing_tag opening_tag tag_after tag_name_of live_name
    is_island_name is_style_name is_phrase_name is_block_name is_list_name is_table_name is_include_name read_text is_good
    is_allowed is_forbidden has_signature is_step begins_with_step holds_step ends_with_step title_in cut_namespace whole_in
    namespace_named is_called name_of image prefix_of full_name_of is_utf8 chars_of lib.Utf8.encode
text_of_link = refl
