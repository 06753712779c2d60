-- Where the parts of a context are: in a delimiter of a style, or within bold and italic ones.
use Rattle.std.specs.Prelude.{ℕ, suc, ◌%◌, ◌==◌, ◌||◌, Bool, Option, Some, None, List, [], ◌∷◌, ◌++◌, map, count_by, if◌then◌else◌}
use Rattle.wt_span.specs.Items.{Item}
use Rattle.wt_quotes.specs.declared.chunk.Chunk.{Chunk}
use Rattle.wt_quotes.specs.Toggles.{toggles_of}
use Rattle.wt_quotes.specs.StyleLaws.{is_kind, is_switch, switches_before}
use Rattle.wt_inline.specs.ItemTree.{ItemTree, ItemTrees, inner, nothing, further}
use Rattle.wt_context.specs.Segments.{Segment}
use Rattle.wt_context.specs.Unstyled.{Role, style, characters, other, role}

-- ---- in the trees

-- for one style, bold or else italic: of each item of a delimiter nothing, and of each other part whether it is in such a style
abbrev pub Places : Type 0
Places = List (Option Bool)

abbrev pub no_places : List Item → Places
no_places xs = map (λ x. None) xs

-- by its role: of a node that is in such a style or not, with these delimiters and what is between them
abbrev pub places_by : Role → Bool → Bool → List Item → (Bool → Places) → List Item → Places
places_by (style bold) kind now opening inside closing = no_places opening ++ (inside (now || is_kind kind bold) ++ no_places closing)
places_by characters kind now opening inside closing = map (λ x. Some now) opening
places_by other kind now opening inside closing = Some now ∷ []

abbrev mutual
  pub places : Bool → Bool → ItemTree → Places
  places kind now (inner h opening ts closing) = places_by (role h.kind) kind now opening (λ b. all_places kind b ts) closing

  pub all_places : Bool → Bool → ItemTrees → Places
  all_places kind now nothing = []
  all_places kind now (further t ts) = places kind now t ++ all_places kind now ts

-- ---- by the toggles

-- an apostrophe that switches is in a delimiter; any other segment is in the style where an odd number of its toggles is before it
abbrev pub toggled : Bool → List Chunk → ℕ → Option Bool
toggled kind cs p = if is_switch cs p then None else Some (count_by (switches_before kind cs p) (toggles_of cs) % 2 == 1)

-- of the parts of segments from the p-th on
abbrev pub places_from : (ℕ → Option Bool) → ℕ → List Segment → Places
places_from f p [] = []
places_from f p (u ∷ us) = map (λ q. f p) u.parts ++ places_from f (suc p) us
