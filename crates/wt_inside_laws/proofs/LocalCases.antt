-- Worked cases of local blocks, by computing.
use Rattle.std.proofs.Common.{◌≡◌, ℕ, Bool, true, false, None, Some, List, [], ◌∷◌, refl}
use Rattle.std.specs.Prelude.{codes}
use Rattle.std.specs.List.{list_any}
use Rattle.wt_span.specs.declared.form.Mode.TheVariants.{Page}
use Rattle.wt_span.specs.Braces.{calls, parts_of, rewritten, reduced}
use Rattle.wt_span.specs.Comments.{comment_len, comment_line_len}
use Rattle.wt_span.specs.Entities.{entity_at, named_entity, decimal_entity, hex_entity, entity_names}
use Rattle.wt_span.specs.Items.{Item, call_of, char}
use Rattle.wt_span.specs.Lexemes.{sign_word, form_at, closed, words}
use Rattle.wt_span.specs.Origins.{OuterCall}
use Rattle.wt_span.specs.Tags.{raw_len, opening_tag, tag_after, closing_tag, with_inside, is_extension, include_at}
use Rattle.wt_lines.specs.declared.kind.LineKind.TheVariants as line
use Rattle.wt_lines.specs.Kinds.{line_kind, kind_of_signs}
use Rattle.wt_blocks.specs.Headings.{level, opening, closing}
use Rattle.wt_tree.specs.declared.kind.Kind.TheVariants as kind
use Rattle.wt_tree.specs.Tree.{Tree}
use Rattle.wt_expand.specs.PageItems.{page_items}
use Rattle.wt_inside_laws.specs.LocalBlocks.{Slice, are_spelled, begins_with, given_from, held, inside_start, is_own, may_open_block, page_spans, read_as, slice_calls, slice_spans, tables_round}
use Rattle.wt_inside_laws.proofs.InsidesCases.{text, inner, group, para}

-- the lexemes of a block's new source, behind which the page goes on
abbrev is_spelled : Tree → List ℕ → List Slice → Bool
is_spelled block inside ks =
    let bs = read_as (codes "page") block inside in
    are_spelled (page_spans block inside ks) (slice_spans (inside_start block) ks) bs 0 (words Page bs)

-- ---- lexemes

-- `* [[x]]` as it is spelled, and as it isn't
signs_spelled : is_spelled (para (text (codes "a") ∷ [])) (codes "<nowiki/>* &#91;&#91;x&#93;&#93;") [] ≡ true
unfolding words closed form_at comment_len comment_line_len raw_len opening_tag tag_after closing_tag with_inside is_extension include_at
    entity_at named_entity decimal_entity hex_entity entity_names sign_word
signs_spelled = refl

-- the same unspelled
signs_unspelled : is_spelled (para (text (codes "a") ∷ [])) (codes "* [[x]]") [] ≡ false
unfolding words closed form_at comment_len comment_line_len raw_len opening_tag tag_after closing_tag with_inside is_extension include_at
    entity_at named_entity decimal_entity hex_entity entity_names sign_word
signs_unspelled = refl

-- a comment in the closing delimiter of a heading is the page's
comment_behind : is_spelled (inner (kind.Heading 2) 1 (codes "== ") (text (codes "a") ∷ []) (codes " ==<!-- c -->")) (codes "b") [] ≡ true
unfolding words closed form_at comment_len comment_line_len raw_len opening_tag tag_after closing_tag with_inside is_extension include_at
    entity_at named_entity decimal_entity hex_entity entity_names sign_word
comment_behind = refl

-- a link that is kept
link_kept : is_spelled (para (inner kind.WikiLink 2 (codes "[[") (text (codes "k") ∷ []) (codes "]]") ∷ [])) (codes "x [[k]]") (record { node = inner kind.WikiLink 2 (codes "[[") (text (codes "k") ∷ []) (codes "]]"); at = 2 } ∷ []) ≡ true
unfolding words closed form_at comment_len comment_line_len raw_len opening_tag tag_after closing_tag with_inside is_extension include_at
    entity_at named_entity decimal_entity hex_entity entity_names sign_word
link_kept = refl

-- a `{` that a URL ends with, before a call: the run of braces goes over the end of both slices
braces_cross : is_spelled (para []) (codes "http://{{{x}}") (record { node = inner kind.ExtLink 2 [] (text (codes "http://{") ∷ []) []; at = 0 } ∷ record { node = group 3 (codes "{{x}}") []; at = 8 } ∷ []) ≡ false
unfolding words closed form_at comment_len comment_line_len raw_len opening_tag tag_after closing_tag with_inside is_extension include_at
    entity_at named_entity decimal_entity hex_entity entity_names sign_word
braces_cross = refl

-- ---- calls

-- `{{x}}` kept behind other text is the same call
call_kept : calls 0 (words Page (codes "cd {{x|y}} e")) ≡ slice_calls 0 (record { node = group 2 (codes "{{x|y}}") []; at = 3 } ∷ [])
unfolding words closed form_at comment_len comment_line_len raw_len opening_tag tag_after closing_tag with_inside is_extension include_at
    entity_at named_entity decimal_entity hex_entity entity_names sign_word calls parts_of rewritten reduced
call_kept = refl

-- no call is kept, and none is there
no_calls : calls 0 (words Page (codes "&#123;&#123;x&#125;&#125;")) ≡ []
unfolding words closed form_at comment_len comment_line_len raw_len opening_tag tag_after closing_tag with_inside is_extension include_at
    entity_at named_entity decimal_entity hex_entity entity_names sign_word calls parts_of rewritten reduced
no_calls = refl

-- ---- lines

-- the page `{{q}}`, where `q` gives `* q` behind the line break that was put before it
abbrev given : List Item
given = char (Some 0) 10 ∷ char (Some 0) 42 ∷ char (Some 0) 32 ∷ char (Some 0) 113 ∷ []

abbrev call : OuterCall
call = record { start = 0; source = codes "{{q}}"; argument = false; parts = []; equals = []; href = None }

-- it opens a block
opens : may_open_block (given_from 0 0 (call ∷ []) given) ≡ true
opens = refl

opens_not : may_open_block (given_from 0 0 (call ∷ []) (char (Some 0) 97 ∷ [])) ≡ false
opens_not = refl

-- a block that begins with the group with which it began, and one that begins with another
same_group : begins_with (held (para (group 2 (codes "{{d}}") (text (codes "-") ∷ []) ∷ text (codes "a") ∷ []))) (record { node = group 2 (codes "{{d}}") []; at = 0 } ∷ []) ≡ true
same_group = refl

other_group : begins_with (held (para (text (codes "a") ∷ group 2 (codes "{{d}}") (text (codes "-") ∷ []) ∷ []))) (record { node = group 2 (codes "{{d}}") []; at = 0 } ∷ []) ≡ false
other_group = refl

-- `= b =` typed in `== a ==` as it is spelled: a heading of the same level, and of the same delimiters
heading_kind : line_kind 0 (page_items (codes "== <nowiki/>= b &#61; ==")) ≡ line.Heading
unfolding words closed form_at comment_len comment_line_len raw_len opening_tag tag_after closing_tag with_inside is_extension include_at
    entity_at named_entity decimal_entity hex_entity entity_names sign_word page_items kind_of_signs level opening closing
heading_kind = refl

-- its level
heading_level : level (page_items (codes "== <nowiki/>= b &#61; ==")) ≡ 2
unfolding words closed form_at comment_len comment_line_len raw_len opening_tag tag_after closing_tag with_inside is_extension include_at
    entity_at named_entity decimal_entity hex_entity entity_names sign_word page_items kind_of_signs level opening closing
heading_level = refl

-- unspelled it is of another level, or of others delimiters
heading_opening : opening (page_items (codes "== = b = ==")) ≡ page_items (codes "== ")
unfolding words closed form_at comment_len comment_line_len raw_len opening_tag tag_after closing_tag with_inside is_extension include_at
    entity_at named_entity decimal_entity hex_entity entity_names sign_word page_items kind_of_signs level opening closing
heading_opening = refl

-- a typed `*` begins an item, but behind `<nowiki/>`
item_kind : line_kind 0 (page_items (codes "* c")) ≡ line.List
unfolding words closed form_at comment_len comment_line_len raw_len opening_tag tag_after closing_tag with_inside is_extension include_at
    entity_at named_entity decimal_entity hex_entity entity_names sign_word page_items kind_of_signs level opening closing
item_kind = refl

-- behind `<nowiki/>` it is text
text_kind : line_kind 0 (page_items (codes "<nowiki/>* c")) ≡ line.Text
unfolding words closed form_at comment_len comment_line_len raw_len opening_tag tag_after closing_tag with_inside is_extension include_at
    entity_at named_entity decimal_entity hex_entity entity_names sign_word page_items kind_of_signs level opening closing
text_kind = refl

-- a paragraph of a call alone holds nothing of the page itself, so it would become a group; with a text it stays one
call_alone : list_any (λ x. is_own (call_of x)) (char (Some 0) 97 ∷ []) ≡ false
call_alone = refl

call_and_text : list_any (λ x. is_own (call_of x)) (char (Some 0) 97 ∷ char None 98 ∷ []) ≡ true
call_and_text = refl

-- ---- tables

-- a paragraph in a cell, and one in no table
abbrev page : Tree
page = inner kind.Body 0 [] (para (text (codes "a") ∷ []) ∷ inner kind.Table 2 (codes "{|") (inner kind.Tbody 3 [] (inner kind.Tr 4 []
    (inner kind.Td 5 (codes "|") (inner kind.Para 6 [] (text (codes "b") ∷ []) [] ∷ []) [] ∷ []) [] ∷ []) [] ∷ []) (codes "|}") ∷ []) []

in_table : tables_round 6 0 page ≡ Some 1
in_table = refl

in_no_table : tables_round 1 0 page ≡ Some 0
in_no_table = refl
