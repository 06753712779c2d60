-- The blocks of an expanded page are nodes of it, and may all stand in a group.
use Rattle.std.proofs.Common.{refl, List, arith}
use Rattle.std.specs.List.{AllByRecursion}
use Rattle.wt_span.specs.Items.{Item}
use Rattle.wt_tree.specs.declared.kind.Kind.TheVariants as kind
use Rattle.wt_inline.specs.ItemTree.{ItemTrees, forest}
use Rattle.wt_inline.specs.Parts.{Part, children}
use Rattle.wt_page.specs.Rows.{rows}
use Rattle.wt_page.specs.Stretches.{stretches_parts}
use Rattle.wt_page.specs.Body.{blocks}
use Rattle.wt_annotated.specs.Annotated.{all_unplaced}
use Rattle.wt_page_round_trip.proofs.OfPage.{ArePageItems}
use Rattle.wt_page_round_trip.proofs.PageNodes.{ArePageNodes, children_nodes}
use Rattle.wt_page_round_trip.proofs.Parts.{children_shown}
use Rattle.wt_page_round_trip.proofs.ShownNodes.{AreShownIn}
use Rattle.wt_page_round_trip.proofs.Separated.{IsPartIn, TakesSeparators, separated_parts, separated_shown}
use Rattle.wt_page_round_trip.proofs.Stretched.{placed_parts}
use Rattle.wt_page_round_trip.proofs.BlockNodes.{body_placed}

body_takes : TakesSeparators kind.Body
body_takes = record { kind = refl; stands = λ bs e. e }

-- what stands in the body
abbrev pub body_nodes : List Item → ItemTrees
body_nodes xs = forest (children (stretches_parts (blocks (rows xs))))

body_parts : (xs : List Item) → ArePageItems xs → AllByRecursion (IsPartIn 9 kind.Body) (stretches_parts (blocks (rows xs)))
body_parts xs h = placed_parts 9 kind.Body (omega arith) (blocks (rows xs)) (body_placed xs h)

-- with one level to spare, as in a group over text a `span` stands round it, and six for sections
pub page_shown : (xs : List Item) → ArePageItems xs → AreShownIn 9 kind.Body (all_unplaced (body_nodes xs)) × ArePageNodes (body_nodes xs)
page_shown xs h =
    let ps : List Part = stretches_parts (blocks (rows xs)) in
    let a : AllByRecursion (IsPartIn 9 kind.Body) ps = body_parts xs h in (
      children_shown 9 kind.Body ps (separated_parts 9 kind.Body ps a) (separated_shown 9 kind.Body body_takes ps a),
      children_nodes ps (separated_parts 9 kind.Body ps a),
    )
