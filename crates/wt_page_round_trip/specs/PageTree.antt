-- The annotated tree of a page with its templates: its items, what they mean, and where each part of that is, in sections.
use Rattle.std.specs.Prelude.{ℕ, List}
use Rattle.wt_span.specs.Origins.{Expanded}
use Rattle.wt_tree.specs.Tree.{Tree}
use Rattle.wt_expand.specs.Work.{Pages}
use Rattle.wt_expand.specs.PageCalls.{expanded_page}
use Rattle.wt_page.specs.Body.{meaning}
use Rattle.wt_annotated.specs.Annotated.{annotated}
use Rattle.wt_annotated.specs.GroupData.{group_data}
use Rattle.wt_sections.specs.Sections.{with_sections}

abbrev pub expanded_tree : Expanded → Tree
expanded_tree e = with_sections (annotated e.outer (group_data e.outer) (meaning e.items))

abbrev pub page_tree : Pages → List ℕ → Tree
page_tree pages page = expanded_tree (expanded_page pages page)
