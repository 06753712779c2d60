-- Behind the paragraph: a node stands as far behind it as it did, with its numbers as far behind the paragraph's.
use Rattle.std.proofs.Common.{arith, true≢false, ◌≡◌, ℕ, ◌+◌, ◌-◌, ◌<◌, ◌≤◌, ◌==◌, nat_lt, nat_le, Bool, true, false, Option, Some, None, List, [], ◌∷◌, refl, sym, ap, ap₂, ◌∙◌, cond}
use Rattle.std.proofs.lemmas.Bool.Decides.{nat_tests}
use Rattle.wt_tree.specs.declared.kind.Ranges.{Ranges}
use Rattle.wt_tree.specs.Kinds.{is_numbered}
use Rattle.wt_tree.specs.Tiling.{is_group}
use Rattle.wt_tree.specs.Tree.{Tree, tree, Trees, none, more}
use Rattle.wt_span.specs.Items.{Item}
use Rattle.wt_inline.specs.ItemTree.{ItemTree, tree_items}
use Rattle.wt_annotated.specs.Labels.{width}
use Rattle.wt_annotated.specs.Numbering.{count}
use Rattle.wt_annotated.specs.WithoutCalls.{placed}
use Rattle.wt_annotated.proofs.Widths.{width_append}
use Rattle.wt_inside_laws.specs.Replaced.{Edit, moved, renumbered, moved_range, with_inside, all_with_inside}
use Rattle.wt_part_laws.specs.Standing.{standing}
use Rattle.wt_text_edit_laws.proofs.Prose.ProseTrees.{blocks_of, number_behind, items_behind}
use Rattle.wt_inside_laws.proofs.Shifted.{shift_range, shifted, all_shifted, standing_shifted, placed_count}

-- this number and place of the page, and those of the new page
pub record IsBehind (e : Edit) (n at m to : ℕ) : Type 0 where
  pub first : 1 ≤ e.number
  pub own : e.number ≤ e.old_last
  pub number : e.old_last < n
  pub new_number : m + e.old_last ≡ e.new_last + n
  pub place : e.old_end ≤ at
  pub new_place : to + e.old_end ≡ e.new_end + at

pub test_less : (a b : ℕ) → a < b → nat_lt a b ≡ true
test_less a b h = grind (arith, nat_tests)

pub test_no_less : (a b : ℕ) → b ≤ a → nat_lt a b ≡ false
test_no_less a b h = grind (arith, nat_tests)

pub test_up : (a b : ℕ) → a ≤ b → nat_le a b ≡ true
test_up a b h = grind (arith, nat_tests)

pub test_not_up : (a b : ℕ) → b < a → nat_le a b ≡ false
test_not_up a b h = grind (arith, nat_tests)

pub test_below : (a b : ℕ) → a < b → (a == b) ≡ false
test_below a b h = grind (arith, nat_tests)

pub test_above : (a b : ℕ) → b < a → (a == b) ≡ false
test_above a b h = grind (arith, nat_tests)

moved_so : (e : Edit) (n at m to p : ℕ) → IsBehind e n at m to → moved e (at + p) ≡ to + p
moved_so e n at m to p h =
    let place = h.place in
    let new = h.new_place in
    ap (λ (v : Bool). cond v (e.new_end + ((at + p) - e.old_end)) (at + p)) (test_up e.old_end (at + p) (omega (arith, place)))
    ∙ omega (arith, place, new)

range_so : (e : Edit) (n at m to : ℕ) (r : Option Ranges) → IsBehind e n at m to → moved_range e (shift_range at r) ≡ shift_range to r
range_so e n at m to None h = refl
range_so e n at m to (Some r) h =
    ap₂ (λ (x y : ℕ). Some (record { start = x; end = y; open_w = r.open_w; close_w = r.close_w })) (moved_so e n at m to r.start h) (moved_so e n at m to r.end h)

number_so : (e : Edit) (n at m to : ℕ) (v : Bool) (i : ℕ) → IsBehind e n at m to → renumbered e (cond v (n + i) 0) ≡ cond v (m + i) 0
number_so e n at m to true i h =
    let number = h.number in
    let new = h.new_number in
    ap (λ (w : Bool). cond w (e.new_last + ((n + i) - e.old_last)) (n + i)) (test_less e.old_last (n + i) (omega (arith, number)))
    ∙ omega (arith, number, new)
number_so e n at m to false i h = ap (λ (w : Bool). cond w (e.new_last + (0 - e.old_last)) 0) (test_no_less e.old_last 0 (omega arith))

other_so : (e : Edit) (n at m to : ℕ) (v : Bool) (i : ℕ) → IsBehind e n at m to → (cond v (n + i) 0 == e.number) ≡ false
other_so e n at m to true i h =
    let own = h.own in
    let number = h.number in
    test_above (n + i) e.number (omega (arith, own, number))
other_so e n at m to false i h = let first = h.first in test_below 0 e.number (omega (arith, first))

inside_so : (e : Edit) (k d m to : ℕ) (here g : Bool) (ts : Trees) → here ≡ false → all_with_inside e (all_shifted k d ts) ≡ all_shifted m to ts
    → cond here e.inside (cond g (cond g ts (all_shifted k d ts)) (all_with_inside e (cond g ts (all_shifted k d ts)))) ≡ cond g ts (all_shifted m to ts)
inside_so e k d m to true g ts h f = absurd (true≢false h)
inside_so e k d m to false true ts h f = refl
inside_so e k d m to false false ts h f = f

mutual
  shift_moved : (e : Edit) (n at m to : ℕ) (t : Tree) → IsBehind e n at m to → with_inside e (shifted n at t) ≡ shifted m to t
  shift_moved e n at m to (tree l ts) h =
      let v : Bool = is_numbered l.kind in
      ap₂ tree
      (ap₂ (λ (i : ℕ) (r : Option Ranges). record l { id = i; ranges = r }) (number_so e n at m to v l.id h) (range_so e n at m to l.ranges h))
      (inside_so e n at m to (cond v (n + l.id) 0 == e.number) (is_group l.kind) ts (other_so e n at m to v l.id h) (all_shift_moved e n at m to ts h))

  pub all_shift_moved : (e : Edit) (n at m to : ℕ) (ts : Trees) → IsBehind e n at m to → all_with_inside e (all_shifted n at ts) ≡ all_shifted m to ts
  all_shift_moved e n at m to none h = refl
  all_shift_moved e n at m to (more t ts) h = ap₂ more (shift_moved e n at m to t h) (all_shift_moved e n at m to ts h)

pub standing_moved : (e : Edit) (n m : ℕ) (before after : List Item) (t : ItemTree) → IsBehind e n (width before) m (width after)
    → with_inside e (standing n before t) ≡ standing m after t
standing_moved e n m before after t h =
    ap (with_inside e) (standing_shifted n before t)
    ∙ shift_moved e n (width before) m (width after) (standing 0 [] t) h
    ∙ sym (standing_shifted m after t)

pub blocks_moved : (e : Edit) (vs : List ItemTree) (n m : ℕ) (before after : List Item) → IsBehind e n (width before) m (width after)
    → all_with_inside e (blocks_of n before vs) ≡ blocks_of m after vs
blocks_moved e [] n m before after h = refl
blocks_moved e (v ∷ vs) n m before after h =
    let c : count (placed after v) ≡ count (placed before v) = placed_count after before v in
    let w = width_append before (tree_items v) in
    let u = width_append after (tree_items v) in
    let number = h.number in
    let new_number = h.new_number in
    let place = h.place in
    let new_place = h.new_place in
    ap₂ more (standing_moved e n m before after v h)
    (blocks_moved e vs (number_behind n before v) (number_behind m after v) (items_behind before v) (items_behind after v)
    (record {
      first = h.first;
      own = h.own;
      number = omega (arith, number);
      new_number = omega (arith, new_number, c);
      place = omega (arith, place, w);
      new_place = omega (arith, new_place, w, u);
    }))
