-- Comments and include tags show nothing, and of a call and an island (an extension, a file) a new page could show the same by other
-- bytes; so no comparison of what is shown finds one that was lost, or another in its place. The calls and islands of a new page are those
-- that the edited tree still has, in its order. Of comments and include tags it has those, and none more often than the page.
use Rattle.std.specs.Prelude.{◌≡◌, ◌⊎◌, ◌&&◌, ◌||◌, ℕ, Bool, Option, Some, None, List, [], ◌∷◌, map, if◌then◌else◌}
use Rattle.std.specs.List.{flat_map}
use Rattle.wt_tree.specs.Source.{flat}
use Rattle.wt_tree.specs.Tree.{Tree}
use Rattle.wt_tree.specs.declared.kind.Kind.{Kind}
use Rattle.wt_tree.specs.declared.kind.Kind.TheVariants as kind
use Rattle.wt_checks.specs.Alike.{same_kind}
use Rattle.wt_checks.specs.Places.{Place, number, kind_at, is_kept, places, Page, page_of}
use Rattle.wt_visible.specs.Tally.{trimmed, StandAmong}

-- a node of a kind outside groups: in a group nothing has a number
abbrev pub is_own : Kind → Place → Bool
is_own k p = is_kept p && same_kind (kind_at p) k

-- one of those that are looked for
abbrev pub is_mark : Place → Bool
is_mark p = is_own kind.Comment p || is_own kind.Include p || is_own kind.Group p || is_own kind.Island p

abbrev pub mark_at : Place → List Place
mark_at p = if is_mark p then p ∷ [] else []

-- those of some nodes that are looked for
abbrev pub marks : List Place → List Place
marks ps = flat_map mark_at ps

-- the source of a node of a kind
abbrev pub source_at : Kind → Place → List (List ℕ)
source_at k p = if is_own k p then flat p.node ∷ [] else []

-- of all of them, in the order of a page
abbrev pub sources : Kind → List Place → List (List ℕ)
sources k ps = flat_map (source_at k) ps

-- what the page has of a kind for a number
abbrev pub there : Kind → Option Place → List (List ℕ)
there k None = []
there k (Some q) = source_at k q

-- An edited node is the page's node of its number, with the page's source; a new one isn't counted.
abbrev pub still_at : Kind → Page → Place → List (List ℕ)
still_at k page p = if is_own k p then there k (page (number p)) else []

-- the sources of the nodes of a kind that an edited tree still has, in its order
abbrev pub still : Kind → Page → List Place → List (List ℕ)
still k page ps = flat_map (still_at k page) ps

-- the first list is what is left of the second one where some members are left out
abbrev pub IsWithin : List (List ℕ) → List (List ℕ) → Type 0
IsWithin [] ys = Unit {0}
IsWithin (x ∷ xs) [] = ⊥
IsWithin (x ∷ xs) (y ∷ ys) = ((x ≡ y) × IsWithin xs ys) ⊎ IsWithin (x ∷ xs) ys

-- Those of a kind that the edited tree still has are in the new page as often as there, in whatever order. White space round a source
-- doesn't count: a comment on a line of its own has a line break of its own, but for the one that begins a page.
abbrev pub Keeps : Kind → Page → List Place → List Place → Type 0
Keeps k page edited new = StandAmong (map trimmed (still k page edited)) (map trimmed (sources k new))

-- none of a kind is in the new page more often than in the page
abbrev pub HasNoMore : Kind → List Place → List Place → Type 0
HasNoMore k old new = StandAmong (map trimmed (sources k new)) (map trimmed (sources k old))

abbrev pub KeepsKind : Kind → Page → List Place → List Place → List Place → Type 0
KeepsKind k page old edited new = Keeps k page edited new × HasNoMore k old new

-- The include tags that the edited tree still has are in the new page in the order of the edited tree: it says what the page gives to
-- others, and nothing that is shown tells two exchanged ones.
abbrev pub KeepsOrder : Page → List Place → List Place → Type 0
KeepsOrder page edited new = IsWithin (still kind.Include page edited) (sources kind.Include new)

-- The calls and islands of the new page are those that the edited tree still has, in its order: two calls of a template that isn't there,
-- or two files, show the same. White space round a source doesn't count.
abbrev pub KeepsInOrder : Kind → Page → List Place → List Place → Type 0
KeepsInOrder k page edited new = map trimmed (still k page edited) ≡ map trimmed (sources k new)

-- of a page by its numbers, its nodes, those of the edited tree, and those of the new page
pub record KeepsEach (page : Page) (old edited new : List Place) : Type 0 where
  pub comments : KeepsKind kind.Comment page old edited new
  pub tags : KeepsKind kind.Include page old edited new
  pub calls : KeepsInOrder kind.Group page edited new
  pub islands : KeepsInOrder kind.Island page edited new
  pub order : KeepsOrder page edited new

abbrev pub KeepsMarks : Tree → Tree → Tree → Type 0
KeepsMarks new page edited = KeepsEach (page_of page) (places page) (places edited) (places new)
