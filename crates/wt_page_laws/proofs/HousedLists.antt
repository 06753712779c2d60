-- Lists hold items alone, and items hold lists alone beside what stands on their lines.
use Rattle.std.proofs.Common.{◌≡◌, ℕ, zero, suc, Bool, true, false, Option, Some, None, List, [], ◌∷◌, take, drop, map, refl, inl, inr}
use Rattle.std.specs.Prelude.{◌==◌, not, if◌then◌else◌}
use Rattle.wt_tree.specs.declared.kind.Kind.TheVariants as kind
use Rattle.wt_span.specs.Items.{Item}
use Rattle.wt_span.specs.Runs.{runs}
use Rattle.wt_blocks.specs.ListTree.{ListTree, node as list_node, ListTrees, none, more, forest as list_forest}
use Rattle.wt_blocks.specs.Nesting.{ListLine, numbered, one_list, one_item, inner as inner_lines, node_of as list_of, item_by as nested_item, items_by, list_by, lists as nested_lists, nested}
use Rattle.wt_inline.specs.ItemTree.{plain}
use Rattle.wt_context.specs.Line.{line_parts}
use Rattle.wt_page.specs.Rows.{Row}
use Rattle.wt_page.specs.Stretches.{Stretch, gap, enclosed}
use Rattle.wt_page.specs.Lists.{with_blanks, item_opening_len, term_len, item_kind, list_kind, term, item_by, line_item, begins_at, row_at, list_stretches, all_lists, prefixes, lists}
use Rattle.wt_page_laws.specs.Roles.{Role, outer, list, item, role}
use Rattle.wt_page_laws.specs.Places.{holds, IsOneOf, IsHoused}
use Rattle.wt_page_laws.proofs.Alls.{all_both}
use Rattle.wt_page_laws.proofs.LineWords.{line_words}
use Rattle.wt_page_laws.proofs.HousedNodes.{IsIn, AreIn, words_in, housed_node, enclosed_in, line_in}

-- ---- the nest: items in lists, and lists in items

abbrev mutual
  IsShaped : Bool → ListTree → Type 0
  IsShaped is (list_node own sign line ts) = (own ≡ is) × AreShaped (not is) ts

  AreShaped : Bool → ListTrees → Type 0
  AreShaped is none = Unit {0}
  AreShaped is (more t ts) = IsShaped is t × AreShaped is ts

shaped_of : (own : Bool) (ls : List ListLine) (ts : List ListTree) → AreShaped (not own) (list_forest ts) → IsShaped own (list_of own ls ts)
shaped_of own [] ts h = (refl, h)
shaped_of own (l ∷ ls) ts h = (refl, h)

abbrev Nests : (List ListLine → List ListTree) → Type 0
Nests lists_in = (ls : List ListLine) → AreShaped false (list_forest (lists_in ls))

items_shaped : (f : List ListLine → List ListTree) → Nests f → (qs : List (List ListLine)) → AreShaped true (list_forest (map (nested_item f) qs))
items_shaped f h [] = tt
items_shaped f h (q ∷ qs) = (shaped_of true q (f (inner_lines q)) (h (inner_lines q)), items_shaped f h qs)

lists_shaped : (f : List ListLine → List ListTree) → Nests f → (qs : List (List ListLine)) → AreShaped false (list_forest (map (list_by f) qs))
lists_shaped f h [] = tt
lists_shaped f h (q ∷ qs) = (shaped_of false q (items_by f q) (items_shaped f h (runs one_item q)), lists_shaped f h qs)

nest_shaped : (n : ℕ) → Nests (nested_lists n)
nest_shaped zero ls = tt
nest_shaped (suc n) ls = lists_shaped (nested_lists n) (nest_shaped n) (runs one_list ls)

-- ---- their kinds

list_role : (sign : ℕ) → role (list_kind sign) ≡ list
list_role sign = by (sign == 42) (sign == 35)
  where
    by : (a b : Bool) → role (if a then kind.Ul else if b then kind.Ol else kind.Dl) ≡ list
    by true b = refl
    by false true = refl
    by false false = refl

item_role : (sign : ℕ) → role (item_kind sign) ≡ item
item_role sign = by (sign == 59) (sign == 58)
  where
    by : (a b : Bool) → role (if a then kind.Dt else if b then kind.Dd else kind.Li) ≡ item
    by true b = refl
    by false true = refl
    by false false = refl

-- ---- items

in_list : IsOneOf item (holds list)
in_list = inl refl

item_in : (sign : ℕ) (n : Option ℕ) (opening xs : List Item) (ss : List Stretch) → AreIn item ss → AreIn list (item_by sign n opening xs ss)
item_in sign None opening xs ss h = line_in list item (plain (item_kind sign)) opening xs ss (item_role sign) in_list h
item_in sign (Some n) opening xs ss h =
    let rest = drop n xs in
    let colon = with_blanks 1 rest in
    let t : IsHoused (term opening (take n xs)) =
    housed_node (plain kind.Dt) opening (line_parts (take n xs)) [] (words_in item (line_parts (take n xs)) (line_words (take n xs))) in
    ((in_list, t), line_in list item (plain kind.Dd) (take colon rest) (drop colon rest) ss refl in_list h)

line_item_in : (sign : ℕ) (r : Row) (ss : List Stretch) → AreIn item ss → AreIn list (line_item sign r ss)
unfolding line_item
line_item_in sign r ss h =
    let n = item_opening_len r.items in
    let xs = drop n r.items in
    (tt, item_in sign (term_len sign xs) (take n r.items) xs (gap r.ending ∷ ss) (tt, h))

own_in : (own : Bool) (sign : ℕ) (r : Row) (ss : List Stretch) → AreIn item ss
    → AreIn list (if own then enclosed (plain (item_kind sign)) ss else line_item sign r ss)
own_in true sign r ss h = enclosed_in list item (plain (item_kind sign)) ss (item_role sign) in_list h
own_in false sign r ss h = line_item_in sign r ss h

-- ---- lists, where lists may stand

mutual
  list_in : (parent : Role) → IsOneOf list (holds parent) → (rs : List Row) (t : ListTree) → IsShaped false t → AreIn parent (list_stretches rs t)
  list_in parent m rs (list_node false sign line ts) s =
      enclosed_in parent list (plain (list_kind sign)) (all_lists rs ts) (list_role sign) m (items_in rs ts s.1)
  list_in parent m rs (list_node true sign line ts) s = absurd (let e = s.0 in cc)

  lists_in : (parent : Role) → IsOneOf list (holds parent) → (rs : List Row) (ts : ListTrees) → AreShaped false ts → AreIn parent (all_lists rs ts)
  lists_in parent m rs none s = tt
  lists_in parent m rs (more t ts) s =
      all_both (IsIn parent) (list_stretches rs t) (all_lists rs ts) (list_in parent m rs t s.0) (lists_in parent m rs ts s.1)

  one_item_in : (rs : List Row) (t : ListTree) → IsShaped true t → AreIn list (list_stretches rs t)
  one_item_in rs (list_node true sign line ts) s =
      own_in (begins_at line ts) sign (row_at rs line) (all_lists rs ts) (lists_in item (inl refl) rs ts s.1)
  one_item_in rs (list_node false sign line ts) s = absurd (let e = s.0 in cc)

  items_in : (rs : List Row) (ts : ListTrees) → AreShaped true ts → AreIn list (all_lists rs ts)
  items_in rs none s = tt
  items_in rs (more t ts) s = all_both (IsIn list) (list_stretches rs t) (all_lists rs ts) (one_item_in rs t s.0) (items_in rs ts s.1)

pub of_lists : (rs : List Row) → AreIn outer (lists rs)
unfolding lists nested
of_lists rs = lists_in outer (inr (inl refl)) rs (list_forest (nested_lists 32 (numbered 0 (prefixes rs)))) (nest_shaped 32 (numbered 0 (prefixes rs)))
