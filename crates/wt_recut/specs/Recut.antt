-- Which text in an item, a cell or a caption is a separator. Texts that follow one another are joined
-- and cut anew at the border: the first line break in them, or the first child that shows a block.
-- From there on a text, or the rest of one, that is spaces, tabs and line breaks alone is a separator.
-- A text of spaces and tabs alone is one, too, where only marks and such texts are between it and a
-- block that follows. All else is text.
use Rattle.std.specs.Prelude.{ℕ, ◌+◌, ◌-◌, ◌==◌, ◌&&◌, ◌||◌, nat_lt, Bool, true, false, Option, Some, None, List, [], ◌∷◌, ◌++◌, length, if◌then◌else◌}
use Rattle.std.specs.List.{list_all, list_any}
use Rattle.wt_span.specs.Characters as byte
use Rattle.wt_tree.specs.declared.kind.Kind.{Kind}
use Rattle.wt_tree.specs.declared.kind.Kind.TheVariants as kind
use Rattle.wt_tree.specs.declared.kind.Mark.TheVariants as mark
use Rattle.wt_tree.specs.declared.kind.Ranges.{Ranges}
use Rattle.wt_tree.specs.declared.row.Writing.{Writing}
use Rattle.wt_tree.specs.declared.row.Writing.TheVariants.{AsText}
use Rattle.wt_tree.specs.Kinds.{writing, is_block, is_mark}
use Rattle.wt_tree.specs.Tiling.{is_group}
use Rattle.wt_tree.specs.Leaves.{leaf_label, sep_leaf, text_leaf}
use Rattle.wt_tree.specs.Tree.{Label, Tree, tree, Trees, none, more, label}

-- ---- characters

abbrev pub is_space : ℕ → Bool
is_space b = b == byte.space || b == byte.tab

abbrev pub is_break : ℕ → Bool
is_break b = b == byte.line_break

-- a space, a tab or a line break
abbrev pub is_white : ℕ → Bool
is_white b = is_space b || is_break b

abbrev pub is_blank : List ℕ → Bool
is_blank bs = list_all is_white bs

abbrev pub are_spaces : List ℕ → Bool
are_spaces bs = list_all is_space bs

abbrev pub has_break : List ℕ → Bool
has_break bs = list_any is_break bs

-- what comes before the first line break, and what from it on
abbrev pub before_break : List ℕ → List ℕ
before_break [] = []
before_break (b ∷ bs) = if is_break b then [] else b ∷ before_break bs

abbrev pub from_break : List ℕ → List ℕ
from_break [] = []
from_break (b ∷ bs) = if is_break b then b ∷ bs else from_break bs

-- ---- kinds of children

abbrev pub is_as_text : Writing → Bool
is_as_text AsText = true
is_as_text w = false

-- a text or a separator
abbrev pub is_text : Tree → Bool
is_text t = is_as_text (writing (label t).kind)

-- a block or a list, or a group that shows one
abbrev mutual
  pub shows_block : Tree → Bool
  shows_block (tree l ts) = if is_group l.kind then any_shows_block ts else is_block l.kind

  pub any_shows_block : Trees → Bool
  any_shows_block none = false
  any_shows_block (more t ts) = shows_block t || any_shows_block ts

-- it is at the border, or after it
abbrev pub is_border : Tree → Bool
is_border t = if is_text t then has_break (label t).own else shows_block t

-- a mark, or a text of spaces and tabs alone
abbrev pub is_passed : Tree → Bool
is_passed t = if is_text t then are_spaces (label t).own else is_mark (label t).kind

-- only marks and such texts come before a block
abbrev pub leads_to_block : Trees → Bool
leads_to_block none = false
leads_to_block (more t ts) = shows_block t || (is_passed t && leads_to_block ts)

-- ---- ranges of parts

-- n bytes after the start; the end where there are no more bytes
abbrev pub place_in : Ranges → ℕ → ℕ
place_in r n = if nat_lt n (r.end - r.start) then r.start + n else r.end

abbrev pub front_ranges : ℕ → Option Ranges → Option Ranges
front_ranges n None = None
front_ranges n (Some r) = Some (record r { end = place_in r n })

abbrev pub rest_ranges : ℕ → Option Ranges → Option Ranges
rest_ranges n None = None
rest_ranges n (Some r) = Some (record r { start = place_in r n })

abbrev pub joined_ranges : Option Ranges → Option Ranges → Option Ranges
joined_ranges (Some r) (Some s) = Some (record r { end = s.end })
joined_ranges r s = None

-- ---- joining

-- a text before others; an empty one is left out
abbrev pub text_onto : Option Ranges → List ℕ → Trees → Trees
text_onto r [] ts = ts
text_onto r (b ∷ bs) none = more (sep_leaf r (b ∷ bs)) none
text_onto r (b ∷ bs) (more t ts) =
    if is_text t then more (sep_leaf (joined_ranges r (label t).ranges) ((b ∷ bs) ++ (label t).own)) ts
    else more (sep_leaf r (b ∷ bs)) (more t ts)

abbrev pub onto : Tree → Trees → Trees
onto t ts = if is_text t then text_onto (label t).ranges (label t).own ts else more t ts

-- each run of texts and separators as one leaf, which shows nothing as long as it isn't cut
abbrev pub joined_texts : Trees → Trees
joined_texts none = none
joined_texts (more t ts) = onto t (joined_texts ts)

-- ---- cutting

-- a text is a separator from its start on, or from its first line break on
abbrev pub from_start : Bool → Bool → List ℕ → Bool
from_start behind leads own = behind || (leads && are_spaces own)

abbrev pub front_of : Bool → List ℕ → List ℕ
front_of all own = if all then [] else before_break own

abbrev pub rest_of : Bool → List ℕ → List ℕ
rest_of all own = if all then own else from_break own

-- both parts, where the second is blank; else the whole text
abbrev pub parts_before : Option Ranges → List ℕ → List ℕ → Trees → Trees
parts_before r front [] ts = more (text_leaf r front) ts
parts_before r [] (b ∷ bs) ts = more (if is_blank (b ∷ bs) then sep_leaf r (b ∷ bs) else text_leaf r (b ∷ bs)) ts
parts_before r (c ∷ cs) (b ∷ bs) ts =
    if is_blank (b ∷ bs)
    then more (text_leaf (front_ranges (length (c ∷ cs)) r) (c ∷ cs)) (more (sep_leaf (rest_ranges (length (c ∷ cs)) r) (b ∷ bs)) ts)
    else more (text_leaf r ((c ∷ cs) ++ (b ∷ bs))) ts

abbrev pub text_before : Bool → Option Ranges → List ℕ → Trees → Trees
text_before all r own ts = parts_before r (front_of all own) (rest_of all own) ts

-- a child before others: after the border or not, and before a block or not
abbrev pub cut_before : Bool → Bool → Tree → Trees → Trees
cut_before behind leads t ts = if is_text t then text_before (from_start behind leads (label t).own) (label t).ranges (label t).own ts else more t ts

abbrev pub cut_from : Bool → Trees → Trees
cut_from behind none = none
cut_from behind (more t ts) = cut_before behind (leads_to_block ts) t (cut_from (behind || is_border t) ts)

abbrev pub recut : Trees → Trees
recut ts = cut_from false (joined_texts ts)
