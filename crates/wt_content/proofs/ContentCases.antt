-- Worked cases of what may stand in a marked content, by computing: the block as it stood in the page, and as it was edited.
use Rattle.std.proofs.Common.{◌≡◌, ℕ, Some, None, List, [], ◌∷◌, ◌++◌, refl}
use Rattle.std.specs.Prelude.{codes, Bool, true, false}
use Rattle.std.specs.Str.{chars, is_utf8}
use Rattle.percent_encoding.specs.Percent.{percent_decode}
use Rattle.wt_names.specs.Namespace.{image, is_called, namespace_named, prefix_of, full_name_of}
use Rattle.wt_names.specs.Reading.{whole_in, cut_namespace, title_in}
use Rattle.wt_names.specs.Good.{is_forbidden, is_allowed, has_signature, is_step, begins_with_step, holds_step, ends_with_step, is_good, read_text}
use Rattle.wt_names.specs.Written.{read_link}
use Rattle.wt_tree.specs.declared.kind.Kind.{Kind}
use Rattle.wt_tree.specs.declared.kind.Kind.TheVariants as kind
use Rattle.wt_span.specs.declared.tag_name.TagName.TheVariants as tag
use Rattle.wt_tree.specs.declared.kind.AttrName.TheVariants as attr
use Rattle.wt_tree.specs.declared.kind.Mark.TheVariants as mark
use Rattle.wt_tree.specs.Tree.{Label, Tree, tree, none, trees}
use Rattle.wt_tiles.specs.Urls.{scheme_len, is_url_char}
use Rattle.wt_tree.specs.EditShapes.{edit_shape}
use Rattle.wt_original.specs.Kept.{kept_with}
use Rattle.wt_content.specs.declared.reason.ContentWhy.TheVariants.{Element, Href, LineBreak, Nested, EmptyList}
use Rattle.wt_content.specs.Content.{bad_content, is_url}
use Rattle.wt_content.specs.Children.{bad_children}
use Rattle.wt_content.specs.Typed.{AreTyped}

abbrev labelled : Kind → ℕ → List ℕ → Label
labelled k id shown = record {
  kind = k;
  id = id;
  ranges = None;
  opening = [];
  closing = [];
  own = shown;
  shown = shown;
  attrs = [];
  mark = mark.Nothing;
  mw = None;
  origin = None;
}

abbrev text : List ℕ → Tree
text bytes = tree (labelled kind.Text 0 bytes) none

abbrev node : Kind → ℕ → List Tree → Tree
node k id ts = tree (labelled k id []) (trees ts)

-- a new link
abbrev linked : Kind → List ℕ → List Tree → Tree
linked k href ts = tree (record (labelled k 0 []) { attrs = (attr.Href, href) ∷ [] }) (trees ts)

abbrev para : List Tree → Tree
para ts = node kind.Para 1 ts

abbrev heading : List Tree → Tree
heading ts = node (kind.Heading 2) 1 ts

-- what is kept is unchanged, or changed
abbrev same : Tree → Tree → Bool
same t u = true

abbrev changed : Tree → Tree → Bool
changed t u = false

-- ---- URLs

url_in_whole : is_url (codes "HTTPS://a.org/b'c") ≡ true
unfolding scheme_len is_url_char
url_in_whole = refl

nothing_behind_the_scheme : is_url (codes "ftp://") ≡ false
unfolding scheme_len is_url_char
nothing_behind_the_scheme = refl

blank_in_url : is_url (codes "http://a b") ≡ false
unfolding scheme_len is_url_char
blank_in_url = refl

apostrophes_in_url : is_url (codes "http://a''b") ≡ false
unfolding scheme_len is_url_char
apostrophes_in_url = refl

other_scheme : is_url (codes "mailto:a") ≡ false
unfolding scheme_len is_url_char
other_scheme = refl

-- ---- new links

link_to_page : bad_content same (para (text (codes "a") ∷ []))
    (para (text (codes "see ") ∷ linked kind.WikiLink (codes "./Oder") (text (codes "it") ∷ []) ∷ [])) ≡ None
unfolding bad_content kept_with chars read_link read_text is_allowed is_forbidden title_in whole_in cut_namespace namespace_named
    is_called is_good full_name_of prefix_of has_signature is_step begins_with_step holds_step ends_with_step is_utf8 percent_decode image lib.Utf8.encode
link_to_page = refl

link_to_nothing : bad_content same (para []) (para (linked kind.WikiLink (codes "Oder") (text (codes "it") ∷ []) ∷ [])) ≡ Some Href
unfolding bad_content kept_with read_link
link_to_nothing = refl

link_to_url : bad_content same (para []) (para (linked kind.ExtLink (codes "http://a") (text (codes "it") ∷ []) ∷ [])) ≡ None
unfolding bad_content kept_with scheme_len is_url_char
link_to_url = refl

link_to_no_url : bad_content same (para []) (para (linked kind.ExtLink (codes "./Oder") (text (codes "it") ∷ []) ∷ [])) ≡ Some Href
unfolding bad_content kept_with scheme_len is_url_char
link_to_no_url = refl

link_in_link : bad_content same (para [])
    (para (linked kind.ExtLink (codes "http://a") (node kind.Bold 0 (linked kind.ExtLink (codes "http://b") [] ∷ []) ∷ []) ∷ [])) ≡ Some Nested
unfolding bad_content kept_with scheme_len is_url_char
link_in_link = refl

-- ---- nodes of the page, and new ones

new_tag : bad_content same (para []) (para (node (kind.Tag tag.Sub) 0 (text (codes "x") ∷ []) ∷ [])) ≡ Some Element
unfolding bad_content kept_with
new_tag = refl

changed_tag : bad_content changed (para (node (kind.Tag tag.Sub) 2 (text (codes "x") ∷ []) ∷ []))
    (para (node (kind.Tag tag.Sub) 2 (text (codes "y") ∷ []) ∷ [])) ≡ None
unfolding bad_content kept_with
changed_tag = refl

tag_in_changed_tag : bad_content changed (para (node (kind.Tag tag.Sub) 2 (text (codes "x") ∷ []) ∷ []))
    (para (node (kind.Tag tag.Sub) 2 (node (kind.Tag tag.Sup) 0 [] ∷ []) ∷ [])) ≡ Some Element
unfolding bad_content kept_with
tag_in_changed_tag = refl

new_line_break : bad_content same (para []) (para (node kind.Br 0 [] ∷ [])) ≡ None
unfolding bad_content kept_with
new_line_break = refl

changed_line_break : bad_content changed (para (node kind.Br 2 [] ∷ [])) (para (node kind.Br 2 [] ∷ [])) ≡ Some Element
unfolding bad_content kept_with
changed_line_break = refl

kept_comment : bad_content same (para (node kind.Comment 2 [] ∷ [])) (para (node kind.Comment 2 [] ∷ [])) ≡ None
unfolding bad_content kept_with
kept_comment = refl

new_comment : bad_content same (para []) (para (node kind.Comment 0 [] ∷ [])) ≡ Some Element
unfolding bad_content kept_with
new_comment = refl

-- ---- line breaks in texts

break_in_paragraph : bad_content same (para []) (para (text (codes "a" ++ 10 ∷ codes "b") ∷ [])) ≡ None
unfolding bad_content kept_with
break_in_paragraph = refl

break_in_bold : bad_content same (para []) (para (node kind.Bold 0 (text (10 ∷ []) ∷ []) ∷ [])) ≡ Some LineBreak
unfolding bad_content kept_with
break_in_bold = refl

break_in_heading : bad_content same (heading []) (heading (text (codes "a" ++ 10 ∷ codes "b") ∷ [])) ≡ Some LineBreak
unfolding bad_content kept_with
break_in_heading = refl

-- a changed entity shows a text, and an entity is no paragraph
abbrev entity : List ℕ → Tree
entity shown = tree (labelled kind.Entity 2 shown) none

break_in_changed_entity : bad_content changed (para (entity (codes "&") ∷ [])) (para (entity (10 ∷ codes "&") ∷ [])) ≡ Some LineBreak
unfolding bad_content kept_with
break_in_changed_entity = refl

break_in_kept_entity : bad_content same (para (entity (10 ∷ []) ∷ [])) (para (entity (10 ∷ []) ∷ [])) ≡ None
unfolding bad_content kept_with
break_in_kept_entity = refl

-- ---- nothing takes the place of what may not change

sub_for_comment : bad_content changed (para (node kind.Comment 2 [] ∷ [])) (para (node (kind.Tag tag.Sub) 2 [] ∷ [])) ≡ Some Element
unfolding bad_content kept_with
sub_for_comment = refl

bold_for_line_break : bad_content changed (para (node kind.Br 2 [] ∷ [])) (para (node kind.Bold 2 [] ∷ [])) ≡ Some Element
unfolding bad_content kept_with
bold_for_line_break = refl

bold_for_sub : bad_content changed (para (node (kind.Tag tag.Sub) 2 [] ∷ [])) (para (node kind.Bold 2 [] ∷ [])) ≡ None
unfolding bad_content kept_with
bold_for_sub = refl

-- ---- a tag as it was, with a link in it

abbrev sub_with_link : Tree
sub_with_link = node (kind.Tag tag.Sub) 2 (node kind.WikiLink 3 [] ∷ [])

link_in_kept_tag : bad_content same (para (sub_with_link ∷ [])) (para (linked kind.ExtLink (codes "http://a") (sub_with_link ∷ []) ∷ [])) ≡ Some Nested
unfolding bad_content kept_with scheme_len is_url_char
link_in_kept_tag = refl

kept_tag_outside_links : bad_content same (para (sub_with_link ∷ [])) (para (sub_with_link ∷ [])) ≡ None
unfolding bad_content kept_with
kept_tag_outside_links = refl

-- ---- of several reasons the first by their order

all_reasons : bad_content same (heading []) (heading (text (10 ∷ [])
    ∷ linked kind.ExtLink (codes "a") (linked kind.ExtLink (codes "b") [] ∷ []) ∷ node (kind.Tag tag.Sub) 0 [] ∷ [])) ≡ Some Element
unfolding bad_content kept_with scheme_len is_url_char
all_reasons = refl

without_elements : bad_content same (heading []) (heading (text (10 ∷ [])
    ∷ linked kind.ExtLink (codes "a") (linked kind.ExtLink (codes "b") [] ∷ []) ∷ [])) ≡ Some Href
unfolding bad_content kept_with scheme_len is_url_char
without_elements = refl

breaks_before_links : bad_content same (heading []) (heading (linked kind.ExtLink (codes "http://a") (linked kind.ExtLink (codes "http://b") [] ∷ [])
    ∷ text (10 ∷ []) ∷ [])) ≡ Some LineBreak
unfolding bad_content kept_with scheme_len is_url_char
breaks_before_links = refl

-- ---- a text edit: text and bold text are typed before a link of the page

abbrev kept_link : Tree
kept_link = tree (record (labelled kind.WikiLink 2 []) { attrs = (attr.Href, codes "./Oder") ∷ [] }) (trees (text (codes "it") ∷ []))

typed_before_link : AreTyped (para (kept_link ∷ [])) true (trees (text (codes "a\nb") ∷ node kind.Bold 0 (text (codes "c") ∷ []) ∷ kept_link ∷ []))
unfolding kept_with
typed_before_link = (tt, (((refl, tt), tt), ((record { kept = _; found = refl; kind = refl; shown = refl }, (refl, ((refl, tt), tt))), tt)))

typed_before_link_stands : bad_content same (para (kept_link ∷ []))
    (para (text (codes "a\nb") ∷ node kind.Bold 0 (text (codes "c") ∷ []) ∷ kept_link ∷ [])) ≡ None
unfolding bad_content kept_with
typed_before_link_stands = refl

-- ---- children that come and go: what an editor sends of a body or list

abbrev body : List Tree → Tree
body ts = node kind.Body 0 ts

abbrev list : List Tree → Tree
list ts = node kind.Ul 1 ts

abbrev new_para : List Tree → Tree
new_para ts = node kind.Para 0 ts

abbrev new_heading : List Tree → Tree
new_heading ts = node (kind.Heading 2) 0 ts

-- a new item, and one of the page
abbrev new_item : List Tree → Tree
new_item ts = node kind.Li 0 ts

abbrev kept_item : Tree
kept_item = node kind.Li 2 []

new_blocks : bad_children same (body (para [] ∷ new_heading (text (codes "t") ∷ []) ∷ node kind.Rule 0 [] ∷ new_para (text (codes "a\nb") ∷ []) ∷ [])) ≡ None
unfolding bad_children kept_with
new_blocks = refl

empty_body : bad_children same (body []) ≡ None
unfolding bad_children
empty_body = refl

item_in_body : bad_children same (body (new_item [] ∷ [])) ≡ Some Element
unfolding bad_children
item_in_body = refl

-- a term is no item that may be new
new_term : bad_children same (list (kept_item ∷ node kind.Dt 0 [] ∷ [])) ≡ Some Element
unfolding bad_children
new_term = refl

filled_rule : bad_children same (body (node kind.Rule 0 (text (codes "x") ∷ []) ∷ [])) ≡ Some Element
unfolding bad_children
filled_rule = refl

-- a new block holds no node of the page: its number counts as none, so the tag is a new one
tag_in_new_block : bad_children same (body (new_para (node (kind.Tag tag.Sub) 2 [] ∷ []) ∷ [])) ≡ Some Element
unfolding bad_children kept_with
tag_in_new_block = refl

bad_link_in_new_block : bad_children same (body (new_para (linked kind.ExtLink (codes "./Oder") [] ∷ []) ∷ [])) ≡ Some Href
unfolding bad_children kept_with scheme_len is_url_char
bad_link_in_new_block = refl

break_in_new_heading : bad_children same (body (new_heading (text (10 ∷ []) ∷ []) ∷ [])) ≡ Some LineBreak
unfolding bad_children kept_with
break_in_new_heading = refl

break_in_new_item : bad_children same (list (kept_item ∷ new_item (text (10 ∷ []) ∷ []) ∷ [])) ≡ Some LineBreak
unfolding bad_children kept_with
break_in_new_item = refl

link_in_link_in_new_item : bad_children same (list (kept_item
    ∷ new_item (linked kind.ExtLink (codes "http://a") (linked kind.ExtLink (codes "http://b") [] ∷ []) ∷ []) ∷ [])) ≡ Some Nested
unfolding bad_children kept_with scheme_len is_url_char
link_in_link_in_new_item = refl

one_item_left : bad_children same (list (new_item (text (codes "w") ∷ []) ∷ kept_item ∷ [])) ≡ None
unfolding bad_children kept_with
one_item_left = refl

-- neither a comment of the page nor a new item keeps a list
no_item_left : bad_children same (list (node kind.Comment 2 [] ∷ new_item (text (codes "w") ∷ []) ∷ [])) ≡ Some EmptyList
unfolding bad_children kept_with
no_item_left = refl

empty_list : bad_children same (list []) ≡ Some EmptyList
unfolding bad_children
empty_list = refl

-- what isn't looked into: a child of the page, and white space
kept_block_as_it_is : bad_children changed (body (para (node (kind.Tag tag.Sub) 0 [] ∷ []) ∷ node kind.Sep 0 [] ∷ [])) ≡ None
unfolding bad_children
kept_block_as_it_is = refl

elements_before_empty_list : bad_children same (list (new_heading [] ∷ [])) ≡ Some Element
unfolding bad_children
elements_before_empty_list = refl

links_before_empty_list : bad_children same (list (new_item (linked kind.ExtLink (codes "http://a") (linked kind.ExtLink (codes "http://b") [] ∷ []) ∷ []) ∷ []))
    ≡ Some Nested
unfolding bad_children kept_with scheme_len is_url_char
links_before_empty_list = refl
