-- What children look like whose texts and separators are cut: of each, by where it is.
use Rattle.std.specs.Prelude.{◌≡◌, ℕ, ◌&&◌, ◌||◌, Bool, true, false, not, Option, List, [], ◌∷◌, length}
use Rattle.wt_tree.specs.declared.kind.Ranges.{Ranges}
use Rattle.wt_tree.specs.Tree.{Tree, Trees, none, more, label}
use Rattle.wt_tree.specs.Leaves.{text_leaf, sep_leaf}
use Rattle.wt_recut.specs.Recut.{is_break, is_blank, are_spaces, has_break, from_break, front_ranges, rest_ranges, joined_ranges, is_text, is_border, leads_to_block}
use Rattle.wt_recut.specs.Recutting.{is_empty}

abbrev pub begins_with_text : Trees → Bool
begins_with_text none = false
begins_with_text (more t ts) = is_text t

abbrev pub begins_with_break : List ℕ → Bool
begins_with_break [] = false
begins_with_break (b ∷ bs) = is_break b

-- A separator is blank, and it comes after the border, begins with a line break, or is spaces and
-- tabs before a block.
abbrev pub is_sep_at : Bool → Bool → List ℕ → Bool
is_sep_at behind leads own = is_blank own && ((behind || (leads && are_spaces own)) || begins_with_break own)

-- before the border, it is blank from its first line break on
abbrev pub has_tail : Bool → List ℕ → Bool
has_tail behind own = not behind && (has_break own && is_blank (from_break own))

abbrev pub IsWholeBy : Bool → Bool → Option Ranges → List ℕ → Tree → Type 0
IsWholeBy true behind r own t = t ≡ sep_leaf r own
IsWholeBy false behind r own t = (t ≡ text_leaf r own) × (has_tail behind own ≡ false)

-- a separator, or a text in which none is left
abbrev pub IsWhole : Bool → Bool → Tree → Type 0
IsWhole behind leads t = (is_empty (label t).own ≡ false) × IsWholeBy (is_sep_at behind leads (label t).own) behind (label t).ranges (label t).own t

-- A text up to the border, which is the line break at the start of the separator after it. The ranges
-- meet there.
abbrev pub IsFront : Bool → Tree → Trees → Type 0
IsFront behind t none = ⊥
IsFront behind t (more s ts) =
    (behind ≡ false) × (has_break (label t).own ≡ false) × (is_empty (label t).own ≡ false) × (begins_with_break (label s).own ≡ true) ×
    (is_blank (label s).own ≡ true)
    × (t ≡ text_leaf (front_ranges (length (label t).own) (joined_ranges (label t).ranges (label s).ranges)) (label t).own)
    × (s ≡ sep_leaf (rest_ranges (length (label t).own) (joined_ranges (label t).ranges (label s).ranges)) (label s).own)

-- of an element nothing is asked; a text is by itself, or before a separator
abbrev pub StandsBy : Bool → Bool → Type 0 → Type 0 → Type 0
StandsBy false next whole front = Unit {0}
StandsBy true false whole front = whole
StandsBy true true whole front = front

-- All children, after the border or not: the border is a text with a line break, or a block.
abbrev pub AreCut : Bool → Trees → Type 0
AreCut behind none = Unit {0}
AreCut behind (more t ts) =
    StandsBy (is_text t) (begins_with_text ts) (IsWhole behind (leads_to_block ts) t) (IsFront behind t ts) × AreCut (behind || is_border t) ts
