-- Worked cases of the border between texts and separators.
use Rattle.std.proofs.Common.{◌≡◌, ℕ, List, [], ◌∷◌, refl}
use Rattle.std.specs.Prelude.{Some, None}
use Rattle.wt_tree.specs.declared.kind.Kind.{Kind}
use Rattle.wt_tree.specs.declared.kind.Kind.TheVariants as kind
use Rattle.wt_tree.specs.declared.kind.Ranges.{Ranges}
use Rattle.wt_tree.specs.Tree.{Tree, tree, none, more, trees}
use Rattle.wt_tree.specs.Leaves.{leaf_label, text_leaf, sep_leaf}
use Rattle.wt_recut.specs.Recut.{recut}

abbrev text : List ℕ → Tree
text bs = text_leaf None bs

abbrev sep : List ℕ → Tree
sep bs = sep_leaf None bs

abbrev child : Kind → Tree
child k = tree (leaf_label k None [] []) none

abbrev place : ℕ → ℕ → Ranges
place s e = record { start = s; end = e; open_w = 0; close_w = 0 }

-- a line break in the first text
break_first : recut (trees (text (97 ∷ 10 ∷ []) ∷ [])) ≡ trees (text (97 ∷ []) ∷ sep (10 ∷ []) ∷ [])
break_first = refl

-- each part has its ranges
ranges_cut : recut (trees (text_leaf (Some (place 5 8)) (97 ∷ 98 ∷ 10 ∷ []) ∷ []))
    ≡ trees (text_leaf (Some (place 5 7)) (97 ∷ 98 ∷ []) ∷ sep_leaf (Some (place 7 8)) (10 ∷ []) ∷ [])
ranges_cut = refl

-- a list directly behind a text
list_behind : recut (trees (text (97 ∷ 32 ∷ []) ∷ child kind.Ul ∷ [])) ≡ trees (text (97 ∷ 32 ∷ []) ∷ child kind.Ul ∷ [])
list_behind = refl

-- blanks and a comment before a list
blanks_before : recut (trees (text (32 ∷ []) ∷ child kind.Comment ∷ text (9 ∷ []) ∷ child kind.Ul ∷ []))
    ≡ trees (sep (32 ∷ []) ∷ child kind.Comment ∷ sep (9 ∷ []) ∷ child kind.Ul ∷ [])
blanks_before = refl

-- a skip isn't passed over
blanks_skip : recut (trees (text (32 ∷ []) ∷ child kind.Skip ∷ child kind.Ul ∷ [])) ≡ trees (text (32 ∷ []) ∷ child kind.Skip ∷ child kind.Ul ∷ [])
blanks_skip = refl

-- texts behind a list
texts_behind : recut (trees (child kind.Ul ∷ text (32 ∷ 97 ∷ []) ∷ child kind.Br ∷ text (32 ∷ []) ∷ []))
    ≡ trees (child kind.Ul ∷ text (32 ∷ 97 ∷ []) ∷ child kind.Br ∷ sep (32 ∷ []) ∷ [])
texts_behind = refl

-- a line break in a later text; what follows it isn't blank, so the text stays whole
break_later : recut (trees (text (32 ∷ []) ∷ child kind.Bold ∷ text (97 ∷ 10 ∷ 98 ∷ []) ∷ child kind.Bold ∷ text (32 ∷ []) ∷ [])) ≡ trees
    (text (32 ∷ []) ∷ child kind.Bold ∷ text (97 ∷ 10 ∷ 98 ∷ []) ∷ child kind.Bold ∷ sep (32 ∷ []) ∷ [])
break_later = refl

-- neighbours are one text, and empty ones are left out
joined_first : recut (trees (sep (10 ∷ []) ∷ text (97 ∷ []) ∷ child kind.Br ∷ text [] ∷ [])) ≡ trees (text (10 ∷ 97 ∷ []) ∷ child kind.Br ∷ [])
joined_first = refl

-- a group that shows a block is a block
group_block : recut (trees (text (32 ∷ []) ∷ tree (leaf_label kind.Group None [] []) (more (child kind.Para) none) ∷ text (32 ∷ []) ∷ [])) ≡ trees
    (sep (32 ∷ []) ∷ tree (leaf_label kind.Group None [] []) (more (child kind.Para) none) ∷ sep (32 ∷ []) ∷ [])
group_block = refl
