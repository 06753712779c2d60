-- Styles as nodes over segments: places are numbers of segments from the start of the context.
use Rattle.std.specs.Prelude.{ℕ, ◌+◌, ◌-◌, Bool, true, false, List, ◌∷◌, ◌++◌, length, take, drop}
use Rattle.wt_tree.specs.declared.kind.Kind.{Kind}
use Rattle.wt_tree.specs.declared.kind.Kind.TheVariants as kind
use Rattle.wt_quotes.specs.declared.style.Style.{Style}
use Rattle.wt_quotes.specs.Styles.{style_tree_of}
use Rattle.wt_quotes.specs.Forest.{Forest, bare, grown, forest_of}
use Rattle.wt_inline.specs.ItemTree.{ItemTree, plain, inner, forest}
use Rattle.wt_inline.specs.Parts.{Part, node, children}
use Rattle.wt_context.specs.Segments.{Segment, segment_items, segment_parts}
use Rattle.wt_context.specs.Chunks.{chunks}

abbrev pub style_kind : Bool → Kind
style_kind true = kind.Bold
style_kind false = kind.Italic

-- the segments between two places
abbrev pub between : ℕ → ℕ → List Segment → List Segment
between from to us = take (to - from) (drop from us)

-- the node of a style with these parts inside
abbrev pub style_node : Style → List Part → List Segment → ItemTree
style_node s inside us =
    inner (plain (style_kind s.bold)) (segment_items (between s.from (s.from + s.open_w) us)) (forest (children inside))
    (segment_items (between (s.to - s.close_w) s.to us))

-- the parts between two places, with these styles
abbrev pub styled : ℕ → ℕ → Forest → List Segment → List Part
styled low high bare us = segment_parts (between low high us)
styled low high (grown s inside after) us =
    segment_parts (between low s.from us)
    ++ (node (style_node s (styled (s.from + s.open_w) (s.to - s.close_w) inside us) us) ∷ styled s.to high after us)

-- the parts of a context's segments
unfoldable pub with_styles : List Segment → List Part
with_styles us = styled 0 (length us) (forest_of (style_tree_of (chunks us))) us
