-- What the steps of the code give that cuts texts and separators anew.
use Rattle.std.specs.Prelude.{◌≡◌, ℕ, Bool, true, false, Option, Some, None, List, [], ◌∷◌, ◌++◌, ◌<◌, length, get_or, if◌then◌else◌}
use Rattle.wt_span.specs.declared.text.Text.{Text}
use Rattle.wt_span.specs.Slice.{bytes_of}
use Rattle.wt_tree.specs.declared.kind.Ranges.{Ranges}
use Rattle.wt_tree.specs.declared.node.Node.{Node}
use Rattle.wt_recut.specs.declared.recut.Halves.{Halves}
use Rattle.wt_recut.specs.declared.recut.Parts.{Parts}
use Rattle.wt_tree.specs.Leaves.{text_leaf, sep_leaf}
use Rattle.wt_recut.specs.Recut.{is_break, before_break, from_break, has_break, front_ranges, rest_ranges, joined_ranges, is_text, leads_to_block}
use Rattle.wt_tree.specs.Tree.{Tree, Trees, none, more, label}
use Rattle.wt_tree.specs.View.{texts_of, view}

abbrev pub is_empty : List ℕ → Bool
is_empty [] = true
is_empty (b ∷ bs) = false

-- none of the first n bytes is a line break
abbrev pub NoBreakBefore : List ℕ → ℕ → Type 0
NoBreakBefore bs n = (k : ℕ) → k < n → is_break (get_or bs k 0) ≡ false

-- a text at its first line break, where it has one
abbrev pub IsSplit : List ℕ → Option (Text × Text) → Type 0
IsSplit bs None = has_break bs ≡ false
IsSplit bs (Some p) = (has_break bs ≡ true) × (bytes_of p.0 ≡ before_break bs) × (bytes_of p.1 ≡ from_break bs)

abbrev pub appended : Trees → Trees → Trees
appended none us = us
appended (more t ts) us = more t (appended ts us)

-- two neighbours as one leaf
abbrev pub joined_pair : Tree → Tree → Tree
joined_pair t u = sep_leaf (joined_ranges (label t).ranges (label u).ranges) ((label t).own ++ (label u).own)

abbrev pub bare : Tree → Tree
bare t = sep_leaf (label t).ranges (label t).own

-- a text after others
abbrev pub push_text : Trees → Tree → Trees
push_text none u = more (bare u) none
push_text (more t none) u = if is_text t then more (joined_pair t u) none else more t (more (bare u) none)
push_text (more t (more s ts)) u = more t (push_text (more s ts) u)

-- a child after others
abbrev pub push_joined : Trees → Tree → Trees
push_joined ts u = if is_text u then (if is_empty (label u).own then ts else push_text ts u) else appended ts (more u none)

-- for each child whether it comes before a block, with only marks and spaces between
abbrev pub leads_of : Trees → List Bool
leads_of none = []
leads_of (more t ts) = leads_to_block ts ∷ leads_of ts

-- a text was put after both halves
abbrev pub HalvesGrow : Halves → Halves → Bool → List ℕ → Bool → Type 0
HalvesGrow h j true bs now = (texts_of j.front ≡ texts_of h.front) × (texts_of j.rest ≡ texts_of h.rest ++ bs) × (now ≡ true)
HalvesGrow h j false bs now =
    (texts_of j.front ≡ texts_of h.front ++ before_break bs) × (texts_of j.rest ≡ texts_of h.rest ++ from_break bs) × (now ≡ has_break bs)

abbrev pub node_if_any : Option Node → Trees
node_if_any None = none
node_if_any (Some n) = more (view n) none

abbrev pub parts_view : Parts → Trees
parts_view p = more (view p.first) (node_if_any p.second)

abbrev pub text_and_sep : Option Ranges → List ℕ → List ℕ → Trees → Trees
text_and_sep r front rest ts = more (text_leaf (front_ranges (length front) r) front) (more (sep_leaf (rest_ranges (length front) r) rest) ts)
