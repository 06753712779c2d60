use Rattle.std.proofs.Common.{◌≡◌, drop}
use Rattle.wt_html_elements.specs.Built.{views}
use Rattle.wt_schema.specs.Sections.{all_bared}
use Rattle.wt_html_in.proofs.sections.are_kept.Given as goal

abbrev pub invariant-loop-content : goal.invariant-loop-content
invariant-loop-content l = all_bared (views (drop l.content-index l.contents)) ≡ views (drop l.content-index l.contents)
    → all_bared (views l.contents) ≡ views l.contents
