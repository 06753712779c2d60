-- Titles of categories.
use Rattle.std.specs.Prelude.{ℕ, ◌==◌, not, Bool, List, [], ◌∷◌, take, if◌then◌else◌}
use Rattle.std.specs.BTreeSet.{insert_key}
use Rattle.std.specs.Cmp.Lexicographic.{slice_cmp}
use Rattle.std.specs.List.{prefix_len, list_any}
use Rattle.std.specs.Ordering.{nat_cmp}
use Rattle.std.specs.Str.{bytes_eq}
use Rattle.wt_span.specs.Characters as byte
use Rattle.wt_tree.specs.declared.kind.AttrName.{AttrName}
use Rattle.wt_tree.specs.declared.kind.AttrName.TheVariants as attr
use Rattle.wt_tree.specs.Kinds.{order}
use Rattle.wt_tree.specs.Tree.{Label}

-- the link among attributes; empty where there is none
abbrev pub href_in : List (AttrName × List ℕ) → List ℕ
href_in [] = []
href_in ((name, value) ∷ attrs) = if order name == order attr.Href then value else href_in attrs

-- no `#`, after which the key comes
abbrev pub is_title_byte : ℕ → Bool
is_title_byte b = not (b == byte.hash)

abbrev pub title_in : List ℕ → List ℕ
title_in href = take (prefix_len is_title_byte href) href

-- the title of a category, as its link has it: links are the same where titles are
abbrev pub title_of : Label → List ℕ
title_of l = title_in (href_in l.attrs)

abbrev pub is_among : List ℕ → List (List ℕ) → Bool
is_among title titles = list_any (bytes_eq title) titles

-- the titles with this one, in the order of their bytes, each once
abbrev pub noted : List ℕ → List (List ℕ) → List (List ℕ)
noted title titles = insert_key (slice_cmp nat_cmp) titles title
