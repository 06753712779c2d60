-- What a context is made of, as apostrophes see it: each apostrophe by itself, each longest stretch of other characters, and each
-- tile. Styles begin and end between segments, so that none begins or ends in a tile.
use Rattle.std.specs.Prelude.{Bool, false, not, ◌==◌, ◌||◌, List, [], ◌∷◌, map}
use Rattle.std.specs.List.{flat_map, list_all}
use Rattle.wt_span.specs.Items.{Item, is_char_in}
use Rattle.wt_span.specs.Runs.{runs}
use Rattle.wt_span.specs.Characters as byte
use Rattle.wt_inline.specs.declared.loose.Loose.TheVariants.{Text}
use Rattle.wt_inline.specs.ItemTree.{ItemTree}
use Rattle.wt_inline.specs.Parts.{Part, node, parts}

-- the items that it is made of, and the parts that stand for it in a node
pub record Segment : Type 0 where
  pub quote : Bool
  pub items : List Item
  pub parts : List Part

abbrev pub is_quote : Item → Bool
is_quote x = is_char_in (λ b. b == byte.apostrophe) x

-- neighbours in one stretch
abbrev pub one_stretch : Item → Item → Bool
one_stretch x y = not (is_quote x || is_quote y)

abbrev pub are_quotes : List Item → Bool
are_quotes xs = list_all is_quote xs

abbrev pub are_plain : List Item → Bool
are_plain xs = list_all (λ x. not (is_quote x)) xs

abbrev pub is_first_quote : List Item → Bool
is_first_quote [] = false
is_first_quote (x ∷ xs) = is_quote x

-- an apostrophe, or a stretch; likewise an atom or a mark
abbrev pub loose_segment : List Item → Segment
loose_segment xs = record { quote = is_first_quote xs; items = xs; parts = parts Text xs }

-- characters that follow one another
unfoldable pub loose_segments : List Item → List Segment
loose_segments xs = map loose_segment (runs one_stretch xs)

-- a tile with this tree
abbrev pub tree_segment : List Item → ItemTree → Segment
tree_segment xs t = record { quote = false; items = xs; parts = node t ∷ [] }

-- ---- of several

abbrev pub segment_items : List Segment → List Item
segment_items us = flat_map (λ u. u.items) us

abbrev pub segment_parts : List Segment → List Part
segment_parts us = flat_map (λ u. u.parts) us
