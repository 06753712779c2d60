-- Worked cases of the spelling of whole blocks, by computing: the block as it stood in the page, and as it was edited.
use Rattle.std.proofs.Common.{◌≡◌, ℕ, None, List, [], ◌∷◌, refl}
use Rattle.std.specs.Prelude.{codes, Bool, true, false}
use Rattle.std.specs.Fmt.{digits}
use Rattle.std.specs.Str.{chars, is_utf8}
use Rattle.percent_encoding.specs.Percent.{percent_decode}
use Rattle.wt_names.specs.Namespace.{name_of, image, is_called, namespace_named, prefix_of, full_name_of}
use Rattle.wt_names.specs.Reading.{whole_in, cut_namespace, title_in}
use Rattle.wt_names.specs.Good.{is_forbidden, is_allowed, has_signature, is_step, begins_with_step, holds_step, ends_with_step, is_good, read_text}
use Rattle.wt_names.specs.Written.{read_link}
use Rattle.wt_tree.specs.declared.kind.Kind.{Kind}
use Rattle.wt_tree.specs.declared.kind.Kind.TheVariants as kind
use Rattle.wt_span.specs.declared.tag_name.TagName.TheVariants as tag
use Rattle.wt_tree.specs.declared.kind.AttrName.TheVariants as attr
use Rattle.wt_tree.specs.declared.kind.Mark.TheVariants as mark
use Rattle.wt_tree.specs.Tree.{Label, Tree, tree, none, trees}
use Rattle.wt_tree.specs.declared.edit_shape.Place.TheVariants.{Paragraph}
use Rattle.wt_tree.specs.EditShapes.{edit_shape}
use Rattle.wt_original.specs.Kept.{kept_with}
use Rattle.wt_guards.specs.Table.{hazard, line_start_hazard}
use Rattle.wt_guards.specs.Letters.{is_escaped, reference}
use Rattle.wt_guards.specs.Guards.{is_start_guard, is_end_guard, is_blank_guard, is_parted, is_between_guard, is_guarded, nowiki}
use Rattle.wt_link_spelling.specs.Spelling.{inline_spelling, block_spelling, break_tag}

abbrev labelled : Kind → ℕ → List ℕ → List ℕ → List ℕ → List ℕ → Label
labelled k id opening closing own shown = record {
  kind = k;
  id = id;
  ranges = None;
  opening = opening;
  closing = closing;
  own = own;
  shown = shown;
  attrs = [];
  mark = mark.Nothing;
  mw = None;
  origin = None;
}

abbrev text : List ℕ → Tree
text bytes = tree (labelled kind.Text 0 [] [] bytes bytes) none

abbrev inner : Kind → ℕ → List ℕ → List Tree → List ℕ → Tree
inner k id opening ts closing = tree (labelled k id opening closing [] []) (trees ts)

abbrev leaf : Kind → ℕ → List ℕ → Tree
leaf k id own = tree (labelled k id [] [] own []) none

abbrev entity : ℕ → List ℕ → List ℕ → Tree
entity id own shown = tree (labelled kind.Entity id [] [] own shown) none

abbrev group : ℕ → List ℕ → List Tree → Tree
group id own ts = tree (labelled kind.Group id [] [] own []) (trees ts)

abbrev para : List Tree → Tree
para ts = inner kind.Para 1 [] ts []

abbrev linked : List ℕ → List Tree → Tree
linked href ts = tree (record (labelled kind.WikiLink 0 [] [] [] []) { attrs = (attr.Href, href) ∷ [] }) (trees ts)

-- what is kept is unchanged, or changed
abbrev same : Tree → Tree → Bool
same t u = true

abbrev changed : Tree → Tree → Bool
changed t u = false

-- ---- blocks of the page

-- `a` with a link to another page
new_link : inline_spelling same (para (text (codes "a") ∷ []))
    (para (text (codes "see ") ∷ linked (codes "./Oder") (text (codes "the river") ∷ []) ∷ [])) Paragraph
    ≡ codes "see [[Oder|the river]]"
unfolding inline_spelling chars kept_with is_guarded is_between_guard is_start_guard is_end_guard is_blank_guard is_parted
    hazard line_start_hazard nowiki is_escaped reference digits lib.Utf8.encode read_link read_text is_allowed is_forbidden
    title_in whole_in cut_namespace namespace_named is_called is_good full_name_of prefix_of has_signature is_step
    begins_with_step holds_step ends_with_step is_utf8 percent_decode image
new_link = refl

-- a link whose text is the full name has no `|`, and with a fragment it shows the fragment
named_link : inline_spelling same (para []) (para (linked (codes "./A#b") (text (codes "A") ∷ []) ∷ [])) Paragraph ≡ codes "[[A#b]]"
unfolding inline_spelling chars kept_with is_guarded is_between_guard is_start_guard is_end_guard is_blank_guard is_parted
    hazard line_start_hazard nowiki is_escaped reference digits lib.Utf8.encode read_link read_text is_allowed is_forbidden
    title_in whole_in cut_namespace namespace_named is_called is_good full_name_of prefix_of has_signature is_step
    begins_with_step holds_step ends_with_step is_utf8 percent_decode image
named_link = refl

-- a category is linked with a colon, and an empty inside is `<nowiki/>`
category_link : inline_spelling same (para []) (para (linked (codes "./Category:A") [] ∷ [])) Paragraph ≡ codes "[[:Category:A|<nowiki/>]]"
unfolding inline_spelling chars kept_with is_guarded is_between_guard is_start_guard is_end_guard is_blank_guard is_parted
    hazard line_start_hazard nowiki is_escaped reference digits lib.Utf8.encode read_link read_text is_allowed is_forbidden
    title_in whole_in cut_namespace namespace_named is_called name_of is_good full_name_of prefix_of has_signature is_step
    begins_with_step holds_step ends_with_step is_utf8 percent_decode image
category_link = refl

-- an external link, and a line break
new_nodes : inline_spelling same (para [])
    (para (tree (record (labelled kind.ExtLink 0 [] [] [] []) { attrs = (attr.Href, codes "http://a.b/") ∷ [] })
    (trees (text (codes "y") ∷ [])) ∷ leaf kind.Br 0 [] ∷ inner kind.Bold 0 [] (text (codes "x") ∷ []) [] ∷ []))
    Paragraph ≡ codes "[http://a.b/ y]<br>'''x'''"
unfolding inline_spelling chars kept_with is_guarded is_between_guard is_start_guard is_end_guard is_blank_guard is_parted
    hazard line_start_hazard nowiki is_escaped reference digits lib.Utf8.encode break_tag
new_nodes = refl

-- a changed entity is text, joined with its neighbours
changed_entity : inline_spelling changed (para (text (codes "http:") ∷ entity 2 (codes "&amp;") (codes "&") ∷ []))
    (para (text (codes "http:") ∷ entity 2 [] (codes "//x") ∷ [])) Paragraph
    ≡ codes "http&#58;//x"
unfolding inline_spelling chars kept_with is_guarded is_between_guard is_start_guard is_end_guard is_blank_guard is_parted
    hazard line_start_hazard nowiki is_escaped reference digits lib.Utf8.encode
changed_entity = refl

-- a changed tag has its old delimiters, and an unchanged one is its slice
changed_tag : inline_spelling changed (para (inner (kind.Tag tag.S) 2 (codes "<s >") (text (codes "a") ∷ []) (codes "</S>") ∷ []))
    (para (inner (kind.Tag tag.S) 2 [] (text (codes "b") ∷ []) [] ∷ [])) Paragraph
    ≡ codes "<s >b</S>"
unfolding inline_spelling chars kept_with is_guarded is_between_guard is_start_guard is_end_guard is_blank_guard is_parted
    hazard line_start_hazard nowiki is_escaped reference digits lib.Utf8.encode
changed_tag = refl

kept_tag : inline_spelling same (para (inner (kind.Tag tag.S) 2 (codes "<s >") (text (codes "a") ∷ []) (codes "</S>") ∷ []))
    (para (inner (kind.Tag tag.S) 2 [] (text (codes "a") ∷ []) [] ∷ [])) Paragraph
    ≡ codes "<s >a</S>"
unfolding inline_spelling chars kept_with is_guarded is_between_guard is_start_guard is_end_guard is_blank_guard is_parted
    hazard line_start_hazard nowiki is_escaped reference digits lib.Utf8.encode
kept_tag = refl

-- `{{S}}<nowiki></nowiki>`, where `S` gives `y`: the nowiki written as bold with its number has no delimiter in the page
other_kind : inline_spelling changed (para (group 2 (codes "{{S}}") (text (codes "y") ∷ [])
    ∷ inner kind.Nowiki 3 (codes "<nowiki>") [] (codes "</nowiki>") ∷ []))
    (para (group 2 [] (text (codes "y") ∷ []) ∷ inner kind.Bold 3 [] [] [] ∷ [])) Paragraph ≡ codes "{{S}}<nowiki/>'''<nowiki/>'''"
unfolding inline_spelling chars kept_with is_guarded is_between_guard is_start_guard is_end_guard is_blank_guard is_parted
    hazard line_start_hazard nowiki is_escaped reference digits lib.Utf8.encode
other_kind = refl

-- a style of the page keeps its neighbours: `x{{S}}'''b'''`
kept_style : inline_spelling same (para (text (codes "x ") ∷ group 2 (codes "{{S}}") (text (codes "y") ∷ [])
    ∷ inner kind.Bold 3 (codes "'''") (text (codes "b") ∷ []) (codes "'''") ∷ []))
    (para (text (codes "z ") ∷ group 2 [] (text (codes "y") ∷ []) ∷ inner kind.Bold 3 [] (text (codes "c") ∷ []) [] ∷ [])) Paragraph ≡ codes "z {{S}}'''c'''"
unfolding inline_spelling chars kept_with is_guarded is_between_guard is_start_guard is_end_guard is_blank_guard is_parted
    hazard line_start_hazard nowiki is_escaped reference digits lib.Utf8.encode
kept_style = refl

-- lines `a` and `{{e}}b`, where `e` gives nothing: ` c` in place of `b`
after_nothing : inline_spelling same (para (text (codes "a\n") ∷ group 2 (codes "{{e}}") (leaf kind.Empty 0 [] ∷ []) ∷ text (codes "b") ∷ []))
    (para (text (codes "a\n") ∷ group 2 [] [] ∷ text (codes " c") ∷ [])) Paragraph ≡ codes "a\n{{e}}<nowiki/> c"
unfolding inline_spelling chars kept_with is_guarded is_between_guard is_start_guard is_end_guard is_blank_guard is_parted
    hazard line_start_hazard nowiki is_escaped reference digits lib.Utf8.encode
after_nothing = refl

-- `{{q}} http://x= a`, where `q` gives `=`, without ` a`
url_with_equals : inline_spelling same (para (group 2 (codes "{{q}}") (text (codes "=") ∷ []) ∷ text (codes " ")
    ∷ inner kind.ExtLink 3 [] (text (codes "http://x=") ∷ []) [] ∷ text (codes " a") ∷ []))
    (para (group 2 [] (text (codes "=") ∷ []) ∷ text (codes " ") ∷ inner kind.ExtLink 3 [] (text (codes "http://x=") ∷ []) []
    ∷ [])) Paragraph ≡ codes "{{q}} http://x=<nowiki/>"
unfolding inline_spelling chars kept_with is_guarded is_between_guard is_start_guard is_end_guard is_blank_guard is_parted
    hazard line_start_hazard nowiki is_escaped reference digits lib.Utf8.encode
url_with_equals = refl

-- `x{{h}}{{s}}`, where `h` gives `http:` and `s` gives `//y`: `a ` in place of `x`
two_groups : inline_spelling same (para (text (codes "x") ∷ group 2 (codes "{{h}}") (text (codes "http:") ∷ [])
    ∷ group 3 (codes "{{s}}") (text (codes "//y") ∷ []) ∷ []))
    (para (text (codes "a ") ∷ group 2 [] [] ∷ group 3 [] [] ∷ [])) Paragraph ≡ codes "a {{h}}<nowiki/>{{s}}"
unfolding inline_spelling chars kept_with is_guarded is_between_guard is_start_guard is_end_guard is_blank_guard is_parted
    hazard line_start_hazard nowiki is_escaped reference digits lib.Utf8.encode
two_groups = refl

-- and where both give `=`, with a group between that gives nothing
two_equals : inline_spelling same (para (text (codes "x") ∷ group 2 (codes "{{q}}") (text (codes "=") ∷ [])
    ∷ group 3 (codes "{{e}}") (leaf kind.Empty 0 [] ∷ []) ∷ group 4 (codes "{{q}}") (text (codes "=") ∷ []) ∷ []))
    (para (text (codes "a ") ∷ group 2 [] [] ∷ group 3 [] [] ∷ group 4 [] [] ∷ [])) Paragraph ≡ codes "a {{q}}{{e}}{{q}}"
unfolding inline_spelling chars kept_with is_guarded is_between_guard is_start_guard is_end_guard is_blank_guard is_parted
    hazard line_start_hazard nowiki is_escaped reference digits lib.Utf8.encode
two_equals = refl

-- `{{B}} ` without its space
group_alone : inline_spelling same (para (group 2 (codes "{{B}}") (text (codes "b") ∷ []) ∷ text (codes " ") ∷ []))
    (para (group 2 [] [] ∷ [])) Paragraph ≡ codes "{{B}}<nowiki/>"
unfolding inline_spelling chars kept_with is_guarded is_between_guard is_start_guard is_end_guard is_blank_guard is_parted
    hazard line_start_hazard nowiki is_escaped reference digits lib.Utf8.encode
group_alone = refl

-- `{{t}}&{{s}}`, where `t` gives a tab and `s` a space: a space in place of `&`
blank_between : inline_spelling same (para (group 2 (codes "{{t}}") (text (9 ∷ []) ∷ []) ∷ text (codes "&")
    ∷ group 3 (codes "{{s}}") (text (codes " ") ∷ []) ∷ []))
    (para (group 2 [] [] ∷ text (codes " ") ∷ group 3 [] [] ∷ [])) Paragraph ≡ codes "{{t}} <nowiki/>{{s}}"
unfolding inline_spelling chars kept_with is_guarded is_between_guard is_start_guard is_end_guard is_blank_guard is_parted
    hazard line_start_hazard nowiki is_escaped reference digits lib.Utf8.encode
blank_between = refl

-- `{{x}}'''''b''' c''`, where `x` gives `'`: `d` in place of `b`
after_apostrophe : inline_spelling same (para (group 2 (codes "{{x}}") (text (codes "'") ∷ [])
    ∷ inner kind.Italic 3 (codes "''") (inner kind.Bold 4 (codes "'''") (text (codes "b") ∷ []) (codes "'''") ∷ text (codes " c") ∷ []) (codes "''") ∷ []))
    (para (group 2 [] [] ∷ inner kind.Italic 3 [] (inner kind.Bold 4 [] (text (codes "d") ∷ []) [] ∷ text (codes " c") ∷ []) [] ∷ []))
    Paragraph ≡ codes "{{x}}<nowiki/>''<nowiki/>'''d''' c''"
unfolding inline_spelling chars kept_with is_guarded is_between_guard is_start_guard is_end_guard is_blank_guard is_parted
    hazard line_start_hazard nowiki is_escaped reference digits lib.Utf8.encode
after_apostrophe = refl

-- `__TOC__ http://x` without its space
switch_and_url : inline_spelling same (para (leaf kind.Switch 2 (codes "__TOC__") ∷ text (codes " ")
    ∷ inner kind.ExtLink 3 [] (text (codes "http://x") ∷ []) [] ∷ []))
    (para (leaf kind.Switch 2 [] ∷ inner kind.ExtLink 3 [] (text (codes "http://x") ∷ []) [] ∷ [])) Paragraph ≡ codes "__TOC__<nowiki/>http://x"
unfolding inline_spelling chars kept_with is_guarded is_between_guard is_start_guard is_end_guard is_blank_guard is_parted
    hazard line_start_hazard nowiki is_escaped reference digits lib.Utf8.encode
switch_and_url = refl

-- The inside of a changed link has edges: nothing is put before its first group and after its last one.
within_link : inline_spelling changed (para (inner kind.WikiLink 2 (codes "[[A|") (group 3 (codes "{{t}}") (text (codes "t") ∷ []) ∷ []) (codes "]]") ∷ []))
    (para (tree (record (labelled kind.WikiLink 2 [] [] [] []) { attrs = (attr.Href, codes "./A") ∷ [] })
    (trees (group 3 [] [] ∷ text (codes "b") ∷ group 3 [] [] ∷ [])) ∷ [])) Paragraph ≡ codes "[[A|{{t}}<nowiki/>b<nowiki/>{{t}}]]"
unfolding inline_spelling chars kept_with is_guarded is_between_guard is_start_guard is_end_guard is_blank_guard is_parted
    hazard line_start_hazard nowiki is_escaped reference digits lib.Utf8.encode read_link read_text is_allowed is_forbidden
    title_in whole_in cut_namespace namespace_named is_called is_good full_name_of prefix_of has_signature is_step
    begins_with_step holds_step ends_with_step is_utf8 percent_decode image
within_link = refl

-- `{{n}}{{s}}x`, where `n` gives a line break last: `s` didn't begin a line, since no line break stands before it in the page
after_break_shown : inline_spelling same (para (group 2 (codes "{{n}}") (text (codes "a\n") ∷ []) ∷ group 3 (codes "{{s}}") (text (codes "s") ∷ []) ∷ []))
    (para (text (codes "a\n") ∷ group 3 [] [] ∷ [])) Paragraph ≡ codes "a\n<nowiki/>{{s}}"
unfolding inline_spelling chars kept_with is_guarded is_between_guard is_start_guard is_end_guard is_blank_guard is_parted
    hazard line_start_hazard nowiki is_escaped reference digits lib.Utf8.encode
after_break_shown = refl

-- a group that blanks and a comment alone followed on its line ended it
ended_by_comment : inline_spelling same (para (text (codes "a ") ∷ group 2 (codes "{{s}}") (text (codes "s") ∷ []) ∷ text (codes " ")
    ∷ leaf kind.Comment 3 (codes "<!--c-->") ∷ text (codes "\nb") ∷ []))
    (para (text (codes "x ") ∷ group 2 [] [] ∷ text (codes " ") ∷ leaf kind.Comment 3 [] ∷ text (codes "\nb") ∷ [])) Paragraph
    ≡ codes "x {{s}} <!--c-->\nb"
unfolding inline_spelling chars kept_with is_guarded is_between_guard is_start_guard is_end_guard is_blank_guard is_parted
    hazard line_start_hazard nowiki is_escaped reference digits lib.Utf8.encode
ended_by_comment = refl

-- Before a comment that ends a line what is put between two nodes is put all the same.
before_comment_line : inline_spelling same (para (inner kind.ExtLink 2 [] (text (codes "http://x") ∷ []) [] ∷ text (codes "\n")
    ∷ leaf kind.Comment 3 (codes "<!--c-->\n") ∷ text (codes "y") ∷ []))
    (para (inner kind.ExtLink 2 [] (text (codes "http://x") ∷ []) [] ∷ leaf kind.Comment 3 [] ∷ text (codes "y") ∷ [])) Paragraph
    ≡ codes "http://x<nowiki/><!--c-->\ny"
unfolding inline_spelling chars kept_with is_guarded is_between_guard is_start_guard is_end_guard is_blank_guard is_parted
    hazard line_start_hazard nowiki is_escaped reference digits lib.Utf8.encode
before_comment_line = refl

-- A line break inside a comment ends no line, and texts on both sides of a comment are no one text.
break_in_comment : inline_spelling same (para (text (codes "a") ∷ leaf kind.Comment 2 (codes "<!--\n-->") ∷ []))
    (para (text (codes "http:") ∷ leaf kind.Comment 2 [] ∷ text (codes "//x*") ∷ [])) Paragraph ≡ codes "http:<!--\n-->//x*"
unfolding inline_spelling chars kept_with is_guarded is_between_guard is_start_guard is_end_guard is_blank_guard is_parted
    hazard line_start_hazard nowiki is_escaped reference digits lib.Utf8.encode
break_in_comment = refl

-- The lead of an article: only the text changes.
lead : inline_spelling same
    (para (inner kind.Bold 2 (codes "'''") (text (codes "Opava") ∷ []) (codes "'''") ∷ text (codes " is a river. Its name is ")
    ∷ group 3 (codes "{{lang|cs|Opava}}") (inner kind.Italic 0 (codes "''") (text (codes "Opava") ∷ []) (codes "''") ∷ [])
    ∷ text (codes ", from ") ∷ group 4 (codes "{{lang|de|Oppa}}")
    (inner kind.Italic 0 (codes "''") (text (codes "Oppa") ∷ []) (codes "''") ∷ []) ∷ text (codes ".")
    ∷ leaf kind.Island 5 (codes "<ref>Atlas</ref>") ∷ []))
    (para (inner kind.Bold 2 [] (text (codes "Opava") ∷ []) [] ∷ text (codes " is a long river. Its name is ") ∷ group 3 [] []
    ∷ text (codes ", from ") ∷ group 4 [] [] ∷ text (codes ".") ∷ leaf kind.Island 5 [] ∷ []))
    Paragraph
    ≡ codes "'''Opava''' is a long river. Its name is {{lang|cs|Opava}}, from {{lang|de|Oppa}}.<ref>Atlas</ref>"
unfolding inline_spelling chars kept_with is_guarded is_between_guard is_start_guard is_end_guard is_blank_guard is_parted
    hazard line_start_hazard nowiki is_escaped reference digits lib.Utf8.encode
lead = refl

-- ---- new blocks

new_heading : block_spelling same (inner (kind.Heading 2) 0 [] (text (codes "t") ∷ []) []) 42 ≡ codes "== t =="
unfolding block_spelling chars kept_with is_guarded is_between_guard is_start_guard is_end_guard is_blank_guard is_parted
    hazard line_start_hazard nowiki is_escaped reference digits lib.Utf8.encode
new_heading = refl

empty_heading : block_spelling same (inner (kind.Heading 3) 0 [] [] []) 42 ≡ codes "=== <nowiki/> ==="
unfolding block_spelling chars kept_with is_guarded is_between_guard is_start_guard is_end_guard is_blank_guard is_parted
    hazard line_start_hazard nowiki is_escaped reference digits lib.Utf8.encode
empty_heading = refl

new_item : block_spelling same (inner kind.Li 0 [] (text (codes "y") ∷ []) []) 35 ≡ codes "# y"
unfolding block_spelling chars kept_with is_guarded is_between_guard is_start_guard is_end_guard is_blank_guard is_parted
    hazard line_start_hazard nowiki is_escaped reference digits lib.Utf8.encode
new_item = refl

new_paragraph : block_spelling same (inner kind.Para 0 [] (text (codes "b") ∷ []) []) 42 ≡ codes "b"
unfolding block_spelling chars kept_with is_guarded is_between_guard is_start_guard is_end_guard is_blank_guard is_parted
    hazard line_start_hazard nowiki is_escaped reference digits lib.Utf8.encode
new_paragraph = refl

new_rule : block_spelling same (leaf kind.Rule 0 []) 42 ≡ codes "----"
unfolding block_spelling chars kept_with is_guarded is_between_guard is_start_guard is_end_guard is_blank_guard is_parted
    hazard line_start_hazard nowiki is_escaped reference digits lib.Utf8.encode
new_rule = refl
