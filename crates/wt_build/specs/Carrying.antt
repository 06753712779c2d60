-- The children of a body while they are made, portion by portion.
-- the first children with what the first items give are the second with what the second give
use Rattle.std.specs.Prelude.{◌≡◌, List, ◌++◌}
use Rattle.wt_span.specs.Items.{Item}
use Rattle.wt_inline.specs.Parts.{Part}
use Rattle.wt_inline.specs.Grown.{Grown, made}
use Rattle.wt_page.specs.Rows.{rows}
use Rattle.wt_page.specs.Body.{body_parts}

abbrev pub Carries : Grown → List Item → Grown → List Item → Type 0
Carries g xs h ys = (qs : List Part) → made h (body_parts (rows ys) ++ qs) ≡ made g (body_parts (rows xs) ++ qs)
