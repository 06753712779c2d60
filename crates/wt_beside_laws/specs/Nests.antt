-- Segments of a line among which styles nest: each style has its own two delimiters.
use Rattle.std.specs.Prelude.{◌≡◌, ◌||◌, Bool, true, false, not, None, List, [], ◌∷◌, ◌++◌, map, ℕ, Option}
use Rattle.wt_span.specs.Characters as byte
use Rattle.wt_span.specs.Items.{Item, char}
use Rattle.wt_inline.specs.ItemTree.{ItemTree, plain, inner, forest}
use Rattle.wt_inline.specs.Parts.{Part, node, children}
use Rattle.wt_context.specs.Segments.{Segment, loose_segment, segment_parts}
use Rattle.wt_context.specs.Chunks.{begins_with_quote}
use Rattle.wt_context.specs.RunCuts.{ends_with_quote, has_run}
use Rattle.wt_context.specs.Styled.{style_kind}

-- a stretch of segments; or one, a style (bold, or else italic) with what is inside it, and what follows it. The style is the page's, or this call's.
pub data Nest : Type 0 where
  stretch : List Segment → Nest
  enclosing : Option ℕ → List Segment → Bool → Nest → Nest → Nest

abbrev pub quote_of : Option ℕ → Item
quote_of origin = char origin byte.apostrophe

-- the apostrophes of a delimiter
abbrev pub marks_of : Option ℕ → Bool → List Item
marks_of origin true = quote_of origin ∷ quote_of origin ∷ quote_of origin ∷ []
marks_of origin false = quote_of origin ∷ quote_of origin ∷ []

-- each is a segment
abbrev pub segments_of : Option ℕ → Bool → List Segment
segments_of origin bold = map (λ x. loose_segment (x ∷ [])) (marks_of origin bold)

-- those of the page
abbrev pub quote : Item
quote = quote_of None

abbrev pub marks : Bool → List Item
marks bold = marks_of None bold

abbrev pub mark_segments : Bool → List Segment
mark_segments bold = segments_of None bold

-- all segments of a nest, before these
abbrev pub nest_segments : Nest → List Segment → List Segment
nest_segments (stretch us) vs = us ++ vs
nest_segments (enclosing origin us bold inside after) vs = us ++ (segments_of origin bold ++ nest_segments inside (segments_of origin bold ++ nest_segments after vs))

-- a style round these parts
abbrev pub style_of : Option ℕ → Bool → List Part → ItemTree
style_of origin bold ps = inner (plain (style_kind bold)) (marks_of origin bold) (forest (children ps)) (marks_of origin bold)

abbrev pub style_tree : Bool → List Part → ItemTree
style_tree bold ps = style_of None bold ps

-- what a nest stands for
abbrev pub nest_parts : Nest → List Part
nest_parts (stretch us) = segment_parts us
nest_parts (enclosing origin us bold inside after) = segment_parts us ++ (node (style_of origin bold (nest_parts inside)) ∷ nest_parts after)

-- of bold, or else of italic
abbrev pub of_style : Bool → Bool → Bool → Bool
of_style true bold italic = bold
of_style false bold italic = italic

-- Before these segments, and in bold or italic or in neither: no style is in one of its kind, no two apostrophes of a stretch are side by side, and
-- none is beside a delimiter, nor is another delimiter.
abbrev pub IsNest : Bool → Bool → Nest → List Segment → Type 0
IsNest bold italic (stretch us) vs = (has_run us ≡ false) × (begins_with_quote vs ≡ true → ends_with_quote us ≡ false)
IsNest bold italic (enclosing origin us kind inside after) vs =
    (has_run us ≡ false) × (ends_with_quote us ≡ false) × (of_style kind bold italic ≡ false)
    × (begins_with_quote (nest_segments inside (segments_of origin kind ++ nest_segments after vs)) ≡ false)
    × IsNest (kind || bold) (not kind || italic) inside (segments_of origin kind ++ nest_segments after vs)
    × (begins_with_quote (nest_segments after vs) ≡ false) × IsNest bold italic after vs
