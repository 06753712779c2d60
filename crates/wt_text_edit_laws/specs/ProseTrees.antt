-- What prose means as a page: a body with a paragraph for each of its paragraphs, and a separator for the line breaks after it.
use Rattle.std.specs.Prelude.{ℕ, zero, suc, List, [], ◌∷◌, replicate}
use Rattle.std.specs.List.{flat_map}
use Rattle.wt_span.specs.Characters as byte
use Rattle.wt_tree.specs.declared.kind.Kind.TheVariants as kind
use Rattle.wt_tree.specs.Tree.{Tree}
use Rattle.wt_inline.specs.declared.loose.Loose.TheVariants.{Sep}
use Rattle.wt_inline.specs.ItemTree.{plain, ItemTree, inner, forest}
use Rattle.wt_inline.specs.Parts.{loose_leaf}
use Rattle.wt_expand.specs.PageItems.{page_items}
use Rattle.wt_annotated.specs.CutTexts.{cut_texts}
use Rattle.wt_annotated.specs.WithoutCalls.{annotated}
use Rattle.wt_sections.specs.Sections.{with_sections}
use Rattle.wt_text_edit_laws.specs.LonePages.{page_chars, para_of}
use Rattle.wt_text_edit_laws.specs.ProsePages.{Passage}

-- one separator for all line breaks side by side
abbrev pub separator : ℕ → List ItemTree
separator zero = []
separator (suc n) = loose_leaf Sep (page_chars (replicate (suc n) byte.line_break)) ∷ []

abbrev pub passage_blocks : Passage → List ItemTree
passage_blocks p = para_of (page_items p.paragraph) ∷ separator p.breaks

abbrev pub prose_meaning : List Passage → ItemTree
prose_meaning ps = inner (plain kind.Body) [] (forest (flat_map passage_blocks ps)) []

-- with numbers and places, as the tree of any page that holds no calls
abbrev pub prose_body : List Passage → Tree
prose_body ps = cut_texts (annotated (prose_meaning ps))

-- and in its section, which is the lead
abbrev pub prose_page : List Passage → Tree
prose_page ps = with_sections (prose_body ps)
