-- Worked cases by computing: small pages are read as their own trees.
use Rattle.std.proofs.Common.{◌++◌, ◌≡◌, ℕ, inl, inr, Some, None, List, [], ◌∷◌, refl, arith, codes}
use Rattle.std.proofs.lemmas.Str.{IsUtf8-nil}
use Rattle.json.proofs.Printed.Utf8.{IsUtf8-are_ascii}
use Rattle.wt_tree.specs.declared.kind.AttrName.TheVariants as attr
use Rattle.wt_tree.specs.declared.kind.Kind.{Kind}
use Rattle.wt_tree.specs.declared.kind.Kind.TheVariants as kind
use Rattle.wt_tree.specs.declared.kind.Mark.TheVariants.{Nothing}
use Rattle.wt_span.specs.declared.tag_name.TagName.TheVariants as tag
use Rattle.wt_tree.specs.declared.node.DataMw.TheVariants as mw
use Rattle.wt_tree.specs.declared.node.Part.{Part}
use Rattle.wt_tree.specs.declared.node.Part.TheVariants as part
use Rattle.wt_tree.specs.Leaves.{leaf_label, text_leaf as bare_text}
use Rattle.wt_tree.specs.Tree.{Label, Tree, tree, Trees, none, more}
use Rattle.std.specs.Fmt.{digits}
use Rattle.serde_json.proofs.OnLiterals.{serde_json_on_literals}
use Rattle.wt_span.specs.Tags.{is_extension}
use Rattle.wt_datamw.specs.Mw.{template_data, params_data, mw_text}
use Rattle.wt_datamw.specs.MwRead.{template_of, is_mw_shape, has_small_numbers, mw_of_data, mw_told}
use Rattle.wt_datamw.specs.Sync.{sync_text, sync_members}
use Rattle.wt_datamw.specs.SyncRead.{sync_told, sync_of_data, is_sync_shape}
use Rattle.wt_tree.specs.Kinds.{spelling, tag_name, attribute_name}
use Rattle.wt_schema.specs.Escapes.{escape, escape_double, escape_single}
use Rattle.wt_schema.specs.Html.{attribute, id_attribute, mw_attribute, sync_of, sync_start, sync_value, sync_attribute, attributes_of, start_tag, void_tag, end_tag, about_attribute, first_attributes, next_attributes, frame_start, frame_end, section_start, html_text}
use Rattle.wt_tree.specs.Values.{placeholder, extension_prefix, no_include, no_include_end, only_include, only_include_end, include_only}
use Rattle.wt_schema.specs.Groups.{transclusion, param}
use Rattle.wt_schema.specs.Read.{read, read_tree, page}
use Rattle.wt_schema.specs.Written.{unranged, IsWritten}

abbrev blank : Kind → ℕ → ℕ → ℕ → Label
blank k id start end = record {
  kind = k;
  id = id;
  ranges = Some (record { start = start; end = end; open_w = 0; close_w = 0 });
  opening = [];
  closing = [];
  own = [];
  shown = [];
  attrs = [];
  origin = None;
  mark = Nothing;
  mw = None;
}

-- with delimiters of these widths
abbrev wide : Kind → ℕ → ℕ → ℕ → ℕ → ℕ → Label
wide k id start end open_w close_w = record (blank k id start end) { ranges = Some (record { start = start; end = end; open_w = open_w; close_w = close_w }) }

abbrev body : ℕ → Trees → Tree
body size ts = tree (blank kind.Body 0 0 size) ts

abbrev text_leaf : ℕ → ℕ → List ℕ → Tree
text_leaf start end bs = tree (record (blank kind.Text 0 start end) { own = bs; shown = bs }) none

-- the empty page
empty_page : read (html_text (body 0 none)) ≡ page (body 0 none) None
unfolding read read_tree sync_told sync_of_data is_sync_shape html_text frame_start frame_end start_tag end_tag attributes_of
    id_attribute mw_attribute sync_of sync_start sync_value sync_attribute spelling attribute_name placeholder sync_text
    sync_members escape escape_single serde_json_on_literals digits tag_name
empty_page = refl

-- the page `a`
abbrev letter_page : Tree
letter_page = body 1 (more (tree (blank kind.Para 1 0 1) (more (text_leaf 0 1 (codes "a")) none)) none)

one_letter : read (html_text letter_page) ≡ page (unranged letter_page) None
unfolding read read_tree sync_told sync_of_data is_sync_shape html_text frame_start frame_end start_tag end_tag attributes_of
    id_attribute mw_attribute sync_of sync_start sync_value sync_attribute spelling attribute_name placeholder sync_text
    sync_members escape escape_single serde_json_on_literals digits tag_name
one_letter = refl

-- the same in a section that stands in the lead: sections are written, and what they hold is read
abbrev section : ℕ → Tree → Tree
section n t = tree (blank (kind.Section n) 0 0 1) (more t none)

sections_opened : read (html_text (body 1 (more (section 0 (section 1 (tree (blank kind.Para 1 0 1) (more (text_leaf 0 1 (codes "a")) none)))) none)))
    ≡ page (unranged letter_page) None
unfolding read read_tree sync_told sync_of_data is_sync_shape html_text frame_start frame_end section_start start_tag end_tag attributes_of
    id_attribute mw_attribute sync_of sync_start sync_value sync_attribute spelling attribute_name placeholder sync_text
    sync_members escape escape_single serde_json_on_literals digits tag_name
sections_opened = refl

-- `&lt;` in a paragraph
entity_page : Tree
entity_page = body 4 (more (tree (blank kind.Para 1 0 4)
    (more (tree (record (wide kind.Entity 2 0 4 4 0) { own = codes "&lt;"; shown = codes "<" }) none) none)) none)

one_entity : read (html_text entity_page) ≡ page (unranged entity_page) None
unfolding entity_page read read_tree sync_told sync_of_data is_sync_shape html_text frame_start frame_end start_tag void_tag
    end_tag attributes_of attribute attribute_name id_attribute mw_attribute sync_of sync_start sync_value sync_attribute spelling
    placeholder sync_text sync_members escape escape_double escape_single serde_json_on_literals digits lib.Utf8.encode tag_name
one_entity = refl

-- an apostrophe as nowiki
nowiki_page : Tree
nowiki_page = body 18 (more (tree (blank kind.Para 1 0 18)
    (more (tree (record (wide kind.Nowiki 2 0 18 8 9) { opening = codes "<nowiki>"; closing = codes "</nowiki>" })
    (more (text_leaf 8 9 (codes "'")) none)) none)) none)

one_nowiki : read (html_text nowiki_page) ≡ page (unranged nowiki_page) None
unfolding nowiki_page read read_tree sync_told sync_of_data is_sync_shape html_text frame_start frame_end start_tag void_tag
    end_tag attributes_of attribute attribute_name id_attribute mw_attribute sync_of sync_start sync_value sync_attribute spelling
    placeholder sync_text sync_members escape escape_double escape_single serde_json_on_literals digits lib.Utf8.encode tag_name
one_nowiki = refl

-- an extension tag that closes itself
island_page : Tree
island_page = body 6 (more (tree (blank kind.Para 1 0 6)
    (more (tree (record (wide kind.Island 2 0 6 6 0) {
      own = codes "<ref/>";
      attrs = (attr.Typeof, codes "mw:Extension/ref") ∷ [];
      mw = Some (mw.Extension (codes "ref") None);
    }) none) none)) none)

one_island : read (html_text island_page) ≡ page (unranged island_page) None
unfolding island_page read read_tree sync_told sync_of_data is_sync_shape html_text frame_start frame_end start_tag void_tag
    end_tag attributes_of attribute attribute_name id_attribute mw_attribute sync_of sync_start sync_value sync_attribute spelling
    placeholder sync_text sync_members escape escape_double escape_single serde_json_on_literals digits lib.Utf8.encode mw_text
    mw_told mw_of_data is_mw_shape has_small_numbers extension_prefix is_extension tag_name
one_island = refl

-- a comment and an include tag, directly in the body
marks_page : Tree
marks_page = body 19 (more (tree (record (wide kind.Comment 1 0 8 8 0) { own = codes "<!--a-->" }) none)
    (more (tree (record (wide kind.Include 2 8 19 11 0) {
      own = codes "<noinclude>";
      attrs =
          (attr.Typeof, codes "mw:Includes/NoInclude") ∷ [];
    }) none) none))

two_marks : read (html_text marks_page) ≡ page (unranged marks_page) None
unfolding marks_page read read_tree sync_told sync_of_data is_sync_shape html_text frame_start frame_end start_tag void_tag
    end_tag attributes_of attribute attribute_name id_attribute mw_attribute sync_of sync_start sync_value sync_attribute spelling
    placeholder sync_text sync_members escape escape_double escape_single serde_json_on_literals digits lib.Utf8.encode no_include
    no_include_end only_include only_include_end include_only tag_name
two_marks = refl

-- a heading with its delimiters, a quote among them; characters that are escaped, one of two bytes
-- and a control; a separator
abbrev heading_page : Tree
heading_page =
    body 17
    (more (tree (record (blank (kind.Heading 2) 1 0 13) { opening = codes "== "; closing = codes " =='" })
    (more (text_leaf 3 9 (codes "<&>" ++ (195 ∷ 169 ∷ 1 ∷ []))) none))
    (more (tree (record (blank kind.Sep 0 13 15) { own = codes "\n\t" }) none)
    (more (tree (blank kind.Para 2 15 17) (more (text_leaf 15 17 (codes "\"'")) none)) none)))

heading : read (html_text heading_page) ≡ page (unranged heading_page) None
unfolding read read_tree sync_told sync_of_data is_sync_shape html_text frame_start frame_end start_tag end_tag attributes_of
    id_attribute mw_attribute sync_of sync_start sync_value sync_attribute spelling attribute_name placeholder sync_text
    sync_members escape escape_single serde_json_on_literals digits tag_name
heading = refl

-- two texts next to each other are read as one
abbrev two_texts : Tree
two_texts = body 2 (more (tree (blank kind.Para 1 0 2) (more (text_leaf 0 1 (codes "a")) (more (text_leaf 1 2 (codes "b")) none))) none)

abbrev one_text : Tree
one_text = body 2 (more (tree (blank kind.Para 1 0 2) (more (text_leaf 0 2 (codes "ab")) none)) none)

two_as_one : read (html_text two_texts) ≡ page (unranged one_text) None
unfolding read read_tree sync_told sync_of_data is_sync_shape html_text frame_start frame_end start_tag end_tag attributes_of
    id_attribute mw_attribute sync_of sync_start sync_value sync_attribute spelling attribute_name placeholder sync_text
    sync_members escape escape_single serde_json_on_literals digits tag_name
two_as_one = refl

-- an item with a list in it: a text, the separator at the border, and the list
abbrev sep_leaf : ℕ → ℕ → List ℕ → Tree
sep_leaf start end bs = tree (record (blank kind.Sep 0 start end) { own = bs }) none

abbrev item : Trees → Tree
item inside = tree (record (wide kind.Li 2 0 7 1 0) { opening = codes "*" }) inside

abbrev list_page : Tree
list_page =
    body 7 (more (tree (blank kind.Ul 1 0 7) (more
    (item (more (text_leaf 1 3 (codes " a")) (more (sep_leaf 3 4 (codes "\n"))
    (more (tree (blank kind.Ol 3 4 7) none) none)))) none)) none)

one_item : read (html_text list_page) ≡ page (unranged list_page) None
unfolding read read_tree sync_told sync_of_data is_sync_shape html_text frame_start frame_end start_tag end_tag attributes_of
    id_attribute mw_attribute sync_of sync_start sync_value sync_attribute spelling attribute_name placeholder sync_text
    sync_members escape escape_single serde_json_on_literals digits tag_name
one_item = refl

-- ---- groups

-- a group with this word, source and these parts
abbrev called : ℕ → ℕ → ℕ → List ℕ → List ℕ → List Part → Trees → Tree
called id start end word own parts ts =
    tree (record (blank kind.Group id start end) { own = own; attrs = (attr.Typeof, word) ∷ []; mw = Some (mw.Parts parts) }) ts

abbrev transcluded : ℕ → ℕ → ℕ → Trees → Tree
transcluded id start end ts = called id start end (codes "mw:Transclusion") (codes "{{t}}") (part.Template (codes "t") (codes "./Template:T") [] 0 ∷ []) ts

-- what stands in a group has neither a number nor ranges
abbrev inner : Kind → Trees → Tree
inner k ts = tree (leaf_label k None [] []) ts

abbrev one : Tree → Trees
one t = more t none

-- a called letter in a paragraph: it is read as a `span` round a text
abbrev letter_in : Tree → Tree
letter_in t = body 6 (one (tree (blank kind.Para 1 0 6) (more (transcluded 2 0 5 (one t)) (one (text_leaf 5 6 (codes "b"))))))

called_letter : read (html_text (letter_in (bare_text None (codes "a"))))
    ≡ page (unranged (letter_in (inner (kind.Tag tag.Span) (one (bare_text None (codes "a")))))) None
unfolding read read_tree sync_told sync_of_data is_sync_shape html_text frame_start frame_end start_tag end_tag attributes_of
    id_attribute mw_attribute sync_of sync_start sync_value sync_attribute spelling attribute attribute_name placeholder sync_text
    sync_members escape escape_double escape_single serde_json_on_literals digits tag_name mw_text mw_told mw_of_data is_mw_shape
    has_small_numbers extension_prefix is_extension transclusion param about_attribute first_attributes next_attributes
    template_data params_data template_of
called_letter = refl

-- two paragraphs, each an element of the group
abbrev two_paragraphs : Tree
two_paragraphs =
    body 5 (one (transcluded 1 0 5 (more (inner kind.Para (one (bare_text None (codes "a"))))
    (one (inner kind.Para (one (bare_text None (codes "b"))))))))

called_paragraphs : read (html_text two_paragraphs) ≡ page two_paragraphs None
unfolding read read_tree sync_told sync_of_data is_sync_shape html_text frame_start frame_end start_tag end_tag attributes_of
    id_attribute mw_attribute sync_of sync_start sync_value sync_attribute spelling attribute attribute_name placeholder sync_text
    sync_members escape escape_double escape_single serde_json_on_literals digits tag_name mw_text mw_told mw_of_data is_mw_shape
    has_small_numbers extension_prefix is_extension transclusion param about_attribute first_attributes next_attributes
    template_data params_data template_of
called_paragraphs = refl

-- a group that shows nothing, as an empty style: an empty `span`
abbrev style_in : Trees → Tree
style_in ts = body 5 (one (tree (blank kind.Para 1 0 5)
    (more (text_leaf 0 1 (codes "a")) (one (called 2 1 5 (codes "mw:Transclusion") (codes "''''") (part.Literal (codes "''''") ∷ []) ts)))))

empty_style : read (html_text (style_in none)) ≡ page (unranged (style_in (one (inner (kind.Tag tag.Span) none)))) None
unfolding read read_tree sync_told sync_of_data is_sync_shape html_text frame_start frame_end start_tag end_tag attributes_of
    id_attribute mw_attribute sync_of sync_start sync_value sync_attribute spelling attribute attribute_name placeholder sync_text
    sync_members escape escape_double escape_single serde_json_on_literals digits tag_name mw_text mw_told mw_of_data is_mw_shape
    has_small_numbers extension_prefix is_extension transclusion param about_attribute first_attributes next_attributes
empty_style = refl

-- and it is written as a group may be
style_written : IsWritten (style_in none)
unfolding spelling tag_name digits mw_text mw_told mw_of_data is_mw_shape has_small_numbers serde_json_on_literals transclusion param
style_written = (
  refl,
  record {
    element = refl;
    level = refl;
    number = refl;
    places = (omega arith, omega arith, omega arith, omega arith);
    source = record { own = refl; opening = IsUtf8-nil; closing = IsUtf8-nil };
    shown = refl;
    attrs = refl;
    origin = refl;
    mark = refl;
    mw = refl;
  },
  (
    (
      omega arith,
      refl,
      record {
        element = refl;
        level = refl;
        number = (omega arith, omega arith);
        places = (omega arith, omega arith, omega arith, omega arith);
        source = record { own = refl; opening = IsUtf8-nil; closing = IsUtf8-nil };
        shown = refl;
        attrs = refl;
        origin = refl;
        mark = refl;
        mw = refl;
      },
      refl,
      (
        tt,
        (
          (
            record {
              kind = refl;
              characters = IsUtf8-are_ascii (codes "a") refl;
              some = refl;
              stands = refl;
              shown = refl;
              id = refl;
              opening = refl;
              closing = refl;
              attrs = refl;
              origin = refl;
              mark = refl;
              mw = refl;
            },
            refl,
          ),
          refl,
          (
            record {
              label = record {
                kind = refl;
                number = (omega arith, omega arith);
                places = (omega arith, omega arith, omega arith, omega arith);
                source = record { own = IsUtf8-are_ascii (codes "''''") refl; opening = refl; closing = refl };
                shown = refl;
                attrs = (codes "mw:Transclusion", refl, inl refl);
                origin = refl;
                mark = refl;
                mw = (IsUtf8-are_ascii (mw_text (mw.Parts (part.Literal (codes "''''") ∷ []))) refl, refl);
              };
              elements = (
                (
                  refl,
                  (
                    omega arith,
                    record {
                      element = refl;
                      level = refl;
                      attrs = inr (refl, inr (refl, inr (refl, inr (refl, inr (refl, inr (refl, refl))))));
                      shows = refl;
                    },
                    refl,
                    (refl, tt),
                  ),
                ),
                tt,
              );
              blocks = refl;
            },
            refl,
            tt,
          ),
        ),
      ),
    ),
    refl,
    tt,
  ),
)

-- an argument without a value, in a cell, before a text
abbrev cell_in : Tree → Tree
cell_in t =
    body 9 (one (tree (blank kind.Table 1 0 9) (one (tree (blank kind.Tbody 2 0 9) (one (tree (blank kind.Tr 3 0 9)
    (one (tree (blank kind.Td 4 0 9)
    (more (called 5 0 7 (codes "mw:Param") (codes "{{{1}}}") (part.Param (codes "{{{1}}}") ∷ []) (one t)) (one (text_leaf 7 8 (codes "b"))))))))))))

argument_in_cell : read (html_text (cell_in (bare_text None (codes "c"))))
    ≡ page (unranged (cell_in (inner (kind.Tag tag.Span) (one (bare_text None (codes "c")))))) None
unfolding read read_tree sync_told sync_of_data is_sync_shape html_text frame_start frame_end start_tag end_tag attributes_of
    id_attribute mw_attribute sync_of sync_start sync_value sync_attribute spelling attribute attribute_name placeholder sync_text
    sync_members escape escape_double escape_single serde_json_on_literals digits tag_name mw_text mw_told mw_of_data is_mw_shape
    has_small_numbers extension_prefix is_extension transclusion param about_attribute first_attributes next_attributes
argument_in_cell = refl
