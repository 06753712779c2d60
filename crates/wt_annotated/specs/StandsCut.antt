-- Children that are known to be cut, so that cutting them anew leaves them as they are: what is found of each by looking at
-- it and at the one after it. Of None nothing is said.
use Rattle.std.specs.Prelude.{◌≡◌, Bool, true, false, ◌||◌, Option, Some, None}
use Rattle.wt_recut.specs.Cutting.{begins_with_break, begins_with_text, IsWhole, IsFront, StandsBy}
use Rattle.wt_tree.specs.Leaves.{sep_leaf, text_leaf}
use Rattle.wt_recut.specs.Recut.{are_spaces, has_break, is_blank, is_border, is_text, leads_to_block}
use Rattle.wt_tree.specs.Tree.{Tree, Trees, none, more, label}

-- a separator that begins with a line break
abbrev pub IsGap : Tree → Type 0
IsGap t = (t ≡ sep_leaf (label t).ranges (label t).own) × (is_blank (label t).own ≡ true) × (begins_with_break (label t).own ≡ true)

-- a text without line breaks that isn't blank
abbrev pub IsWords : Tree → Type 0
IsWords t = (t ≡ text_leaf (label t).ranges (label t).own) × (has_break (label t).own ≡ false) × (are_spaces (label t).own ≡ false)

-- it is cut by itself, whatever leads from it to a block
abbrev pub WholeStands : Bool → Tree → Option Bool → Type 0
WholeStands behind t None = Unit {0}
WholeStands behind t (Some now) = ((leads : Bool) → IsWhole behind leads t) × (now ≡ (behind || is_border t))

-- a text is cut before the separator after it
abbrev pub FrontStands : Bool → Tree → Tree → Option Bool → Type 0
FrontStands behind t s None = Unit {0}
FrontStands behind t s (Some now) = ((ts : Trees) → IsFront behind t (more s ts)) × (now ≡ (behind || is_border t))

-- a child that no text follows, or that is none
abbrev pub AloneStands : Bool → Tree → Option Bool → Type 0
AloneStands behind t None = Unit {0}
AloneStands behind t (Some now) =
    ((leads : Bool) → StandsBy (is_text t) false (IsWhole behind leads t) (Unit {0}))
    × (now ≡ (behind || is_border t))

-- a child before another one
abbrev pub BeforeStands : Bool → Tree → Tree → Option Bool → Type 0
BeforeStands behind t s None = Unit {0}
BeforeStands behind t s (Some now) =
    ((ts : Trees) → StandsBy (is_text t) (is_text s) (IsWhole behind (leads_to_block (more s ts)) t) (IsFront behind t (more s ts)))
    × (now ≡ (behind || is_border t))

-- the first of these children
abbrev pub FirstStands : Bool → Trees → Option Bool → Type 0
FirstStands behind ts None = Unit {0}
FirstStands behind none (Some now) = now ≡ behind
FirstStands behind (more t ts) (Some now) =
    StandsBy (is_text t) (begins_with_text ts) (IsWhole behind (leads_to_block ts) t) (IsFront behind t ts) × (now ≡ (behind || is_border t))
