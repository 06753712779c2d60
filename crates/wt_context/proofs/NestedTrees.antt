-- The nodes of tiles in which a context stands.
use Rattle.std.proofs.Common.{◌≡◌, None, List, [], ap, ◌∙◌, subst}
use Rattle.wt_span.specs.Items.{Item}
use Rattle.wt_tiles.specs.declared.shape.Shape.{Shape}
use Rattle.wt_inline.specs.ItemTree.{ItemTree}
use Rattle.wt_inline.specs.Parts.{Part}
use Rattle.wt_inline.specs.Grown.{Grown, Grows}
use Rattle.wt_context.specs.declared.node.Nested.{Nested}
use Rattle.wt_context.specs.Made.{IsMade}
use Rattle.wt_context.specs.Nodes.{opening_of, inside_of, closing_of, trail_of, nested_by, nested_tree}

pub nested_made : (k : Nested) (t : ItemTree) (w : Shape) (xs opening inside closing trail ys : List Item) (read : List Item → List Part) (g h : Grown)
    → opening ≡ opening_of w xs → inside ≡ inside_of w xs → closing ≡ closing_of w xs → trail ≡ trail_of w xs → ys ≡ inside
    → g ≡ record { trees = []; run = None } → Grows g (read ys) h
    → ((ps : List Part) → IsMade h ps → t ≡ nested_by k w.trail xs opening closing trail ps) → t ≡ nested_tree k w xs (read (inside_of w xs))
unfolding nested_tree
nested_made k t w xs opening inside closing trail ys read g h o i c l y e a f =
    let m : IsMade h (read ys) = subst (λ (x : Grown). Grows x (read ys) h) e a in
    f (read ys) m
    ∙ ap (λ zs. nested_by k w.trail xs opening closing trail (read zs)) (y ∙ i)
    ∙ ap (λ zs. nested_by k w.trail xs zs closing trail (read (inside_of w xs))) o
    ∙ ap (λ zs. nested_by k w.trail xs (opening_of w xs) zs trail (read (inside_of w xs))) c
    ∙ ap (λ zs. nested_by k w.trail xs (opening_of w xs) (closing_of w xs) zs (read (inside_of w xs))) l
