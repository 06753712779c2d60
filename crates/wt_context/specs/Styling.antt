-- Segments that are taken from the front, with the styles that lie there.
use Rattle.std.specs.Prelude.{◌≡◌, ℕ, ◌+◌, ◌-◌, ◌≤◌, List, [], ◌∷◌, ◌++◌, drop}
use Rattle.wt_quotes.specs.declared.style.Style.{Style}
use Rattle.wt_quotes.specs.Forest.{Forest, bare, grown, forest_of}
use Rattle.wt_inline.specs.Parts.{node}
use Rattle.wt_inline.specs.Grown.{Grown, Grows}
use Rattle.wt_context.specs.Segments.{Segment, segment_parts}
use Rattle.wt_context.specs.Styled.{between, style_node, styled}

-- the styles follow one another between two places, and so do those in each between its delimiters
abbrev pub Fill : ℕ → ℕ → Forest → Type 0
Fill low high bare = low ≤ high
Fill low high (grown s inside after) = (low ≤ s.from) × Fill (s.from + s.open_w) (s.to - s.close_w) inside × (s.close_w ≤ s.to) × Fill s.to high after

-- from the place `low` on `before` is left of a context; the parts of a style and of the segments before it come after `g`
abbrev pub IsStyle : ℕ → Style → List Style → List Segment → Grown → List Segment → Grown → Type 0
IsStyle low s ss before g after h =
    (us : List Segment) → drop low us ≡ before
    → Grows g (segment_parts (between low s.from us) ++ (node (style_node s (styled (s.from + s.open_w) (s.to - s.close_w) (forest_of ss) us) us) ∷ [])) h
    × (drop s.to us ≡ after)

-- the same of all segments up to the place `high`
abbrev pub AreStyled : ℕ → ℕ → List Style → List Segment → Grown → List Segment → Grown → Type 0
AreStyled low high ss before g after h =
    (us : List Segment) → drop low us ≡ before → Grows g (styled low high (forest_of ss) us) h × (drop high us ≡ after)
