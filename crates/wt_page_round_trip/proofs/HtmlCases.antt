-- Worked cases, each by computing.
use Rattle.std.proofs.Common.{◌≡◌, List, [], ◌∷◌, true, false, Some, None, refl, codes}
use Rattle.std.specs.Fmt.{digits}
use Rattle.serde_json.proofs.OnLiterals.{serde_json_on_literals}
use Rattle.wt_tree.specs.declared.kind.AttrName.TheVariants as attr
use Rattle.wt_tree.specs.declared.kind.Kind.{Kind}
use Rattle.wt_tree.specs.declared.kind.Kind.TheVariants as kind
use Rattle.wt_tree.specs.declared.node.DataMw.TheVariants as mw
use Rattle.wt_tree.specs.Kinds.{spelling, tag_name, attribute_name}
use Rattle.wt_tree.specs.Leaves.{leaf_label}
use Rattle.wt_tree.specs.Tree.{Tree, tree, Trees, none, more}
use Rattle.wt_tree.specs.Values.{placeholder, switch_prefix, is_switch}
use Rattle.wt_datamw.specs.MwRead.{is_mw_shape, has_small_numbers, mw_of_data, mw_told}
use Rattle.wt_html_grammar.specs.Markup.{Pair, Markup, Markups, text, node, empty, more as one}
use Rattle.wt_schema.specs.Groups.{transclusion, param}
use Rattle.wt_schema.specs.Read.{page, read_tree, read}
use Rattle.wt_checks.specs.PutBack.{have_frame}
use Rattle.wt_page_round_trip.specs.SameBodies.{IsSameDocument}
use Rattle.wt_page_round_trip.specs.JoinedTexts.{body_texts_joined}
use Rattle.wt_page_round_trip.specs.OpenedBodies.{sections_opened}

-- a node without data, and a group
abbrev bare : Kind → Trees → Tree
bare k ts = tree (leaf_label k None [] []) ts

abbrev group : Trees → Tree
group ts = tree (record (leaf_label kind.Group None [] []) { attrs = (attr.Typeof, codes "mw:Transclusion") ∷ []; mw = Some (mw.Parts []) }) ts

-- ---- what is read

-- sections in sections, and a block behind them
nested_sections : read (codes "<html><body><section><hr/><section><hr/></section></section><hr/></body></html>")
    ≡ page (bare kind.Body (more (bare kind.Rule none) (more (bare kind.Rule none) (more (bare kind.Rule none) none)))) (Some 4)
unfolding read read_tree spelling tag_name attribute_name digits placeholder switch_prefix is_switch
nested_sections = refl

-- a section behind a group's first element isn't of the group, whatever its `about` is
section_behind_group : read (codes
    "<html><body><p about='#mwt1' typeof='mw:Transclusion' data-mw='{\"parts\":[]}'></p><section about='#mwt1'><hr/></section></body></html>")
    ≡ page (bare kind.Body (more (group (more (bare kind.Para none) none)) (more (bare kind.Rule none) none))) (Some 3)
unfolding read read_tree spelling tag_name attribute_name digits placeholder switch_prefix is_switch transclusion param
    mw_told mw_of_data is_mw_shape has_small_numbers serde_json_on_literals
section_behind_group = refl

-- nor is a section a group's first element
section_with_data : read (codes
    "<html><body><section about='#mwt1' typeof='mw:Transclusion' data-mw='{\"parts\":[]}'><hr/></section></body></html>")
    ≡ page (bare kind.Body (more (bare kind.Rule none) none)) (Some 4)
unfolding read read_tree spelling tag_name attribute_name digits placeholder switch_prefix is_switch transclusion param
    mw_told mw_of_data is_mw_shape has_small_numbers serde_json_on_literals
section_with_data = refl

-- ---- what the law denies: a section among the children, one in a group, and a body in a block

section_stands : have_frame (more (bare (kind.Section 0) none) none) ≡ true
section_stands = refl

section_in_group : have_frame (more (group (more (bare (kind.Section 0) none) none)) none) ≡ true
section_in_group = refl

body_in_block : have_frame (more (bare kind.Para (more (bare kind.Body none) none)) none) ≡ true
body_in_block = refl

-- and what it allows
blocks_alone : have_frame (more (group (more (bare kind.Para none) none)) (more (bare kind.Rule none) none)) ≡ false
blocks_alone = refl

-- ---- documents that are the same but for attributes of sections, and sections that are taken out

abbrev document : Markups → Markup
document c = node (codes "html") [] (one (node (codes "body") [] c) empty)

abbrev section : List Pair → Markups → Markup
section ps c = node (codes "section") ps c

abbrev rule : Markup
rule = node (codes "hr") [] empty

-- a number and an `about` make no difference, but the mark of an edit does
other_attributes : IsSameDocument (document (one (section [] (one rule empty)) empty))
    (document (one (section ((codes "about", codes "#a") ∷ (codes "data-mw-section-id", codes "7") ∷ []) (one rule empty)) empty))
other_attributes = (refl, refl, ((refl, refl, ((refl, refl, ((refl, refl, refl), tt)), tt)), tt))

abbrev mark : List Pair
mark = (codes "data-wt-edit", codes "content") ∷ []

another_mark : IsSameDocument (document (one (section mark empty) empty)) (document (one (section [] empty) empty)) → ⊥
another_mark h = cc h.2.0.2.0.1

-- a section in a section, an empty one, and one that is in a cell and stays
taken_out : sections_opened (document (one (section [] (one (text (codes "\n")) (one (section mark (one rule empty)) empty)))
    (one (section [] empty) (one (node (codes "td") [] (one (section [] empty) empty)) empty))))
    ≡ document (one (text (codes "\n")) (one rule (one (node (codes "td") [] (one (section [] empty) empty)) empty)))
taken_out = refl

-- texts side by side in the body are one, those in a section or in an element aren't touched
side_by_side : body_texts_joined (document (one (text (codes "a")) (one (text (codes "b")) (one (text (codes "c")) (one rule
    (one (node (codes "p") [] (one (text (codes "d")) (one (text (codes "e")) empty))) (one (text (codes "f")) empty)))))))
    ≡ document (one (text (codes "abc")) (one rule (one (node (codes "p") [] (one (text (codes "d")) (one (text (codes "e")) empty))) (one (text (codes "f")) empty))))
side_by_side = refl
