-- What is read of the HTML that is written for a tree, unchanged, is the page's own.
use Rattle.std.proofs.Common.{◌≡◌, ℕ, suc, true, false, refl, sym, subst}
use Rattle.wt_tree.specs.declared.kind.Kind.{Kind}
use Rattle.wt_tree.specs.declared.kind.Kind.TheVariants as kind
use Rattle.wt_tree.specs.declared.row.Writing.{Writing}
use Rattle.wt_tree.specs.declared.row.Writing.TheVariants.{AsText, AsVoid, RoundCharacter, RoundChildren, AsSection, Unwritten}
use Rattle.wt_tree.specs.Kinds.{writing}
use Rattle.wt_recut.specs.Recut.{any_shows_block}
use Rattle.wt_tree.specs.Tiling.{is_group}
use Rattle.wt_tree.specs.Tree.{Label, Tree, tree, Trees, none, more}
use Rattle.wt_schema.specs.GroupNodes.{group_nodes}
use Rattle.wt_schema.specs.Written.{label_read, unranged, unranged_all, is_childless, IsWrittenGroup, NodeIsWritten, WrittenIn, AllWrittenIn}
use Rattle.wt_schema.proofs.Bare.{others_read}
use Rattle.wt_schema.proofs.Rows.{held}
use Rattle.wt_page_round_trip.proofs.Sectioned.{IsWrittenBody}
use Rattle.wt_difference.specs.Unedited.{SameLabel, GroupOr, IsUnedited, AreUnedited}
use Rattle.wt_commands.proofs.UnchangedTree.{text_kind, no_group, group_no_body, group_held}

label_kept : (l : Label) → SameLabel l (label_read l)
label_kept l = record { id = refl; kind = refl; attrs = refl; mw = refl; shown = refl }

others_kept : (l : Label) (ts : Trees) → is_group l.kind ≡ false → AreUnedited ts (unranged_all ts) → IsUnedited (tree l ts) (unranged (tree l ts))
others_kept l ts g h =
    subst (IsUnedited (tree l ts)) (sym (others_read l ts g))
    (label_kept l, subst (λ b. GroupOr b (any_shows_block ts ≡ any_shows_block (unranged_all ts)) (AreUnedited ts (unranged_all ts))) (sym g) h)

group_kept : (l : Label) (ts : Trees) → is_group l.kind ≡ true → any_shows_block (group_nodes ts) ≡ any_shows_block ts
    → IsUnedited (tree l ts) (unranged (tree l ts))
group_kept l ts g h =
    subst (IsUnedited (tree l ts)) (sym (group_held l ts g))
    (label_kept l, subst (λ b. GroupOr b (any_shows_block ts ≡ any_shows_block (group_nodes ts)) (AreUnedited ts (group_nodes ts))) (sym g) (sym h))

childless_kept : (ts : Trees) → is_childless ts ≡ true → AreUnedited ts (unranged_all ts)
childless_kept none e = tt
childless_kept (more t ts) e = absurd (cc)

node_kept : (w : Writing) (l : Label) (ts : Trees) (k : ℕ) (parent : Kind) (Cut Inside : Type 0)
    → writing l.kind ≡ w → NodeIsWritten w k parent l (is_childless ts) (Cut × Inside) (IsWrittenGroup k parent l ts)
    → (Inside → AreUnedited ts (unranged_all ts)) → IsUnedited (tree l ts) (unranged (tree l ts))
node_kept AsText l ts k parent Cut Inside e h f = others_kept l ts (text_kind l.kind e).0 (childless_kept ts h.1)
node_kept AsVoid l ts k parent Cut Inside e h f = others_kept l ts (no_group l.kind (held parent l.kind h.1 h.2.element)) (f h.4.1)
node_kept RoundCharacter l ts k parent Cut Inside e h f = others_kept l ts (no_group l.kind (held parent l.kind h.1 h.2.element)) (f h.4.1)
node_kept RoundChildren l ts k parent Cut Inside e h f = others_kept l ts (no_group l.kind (held parent l.kind h.1 h.2.element)) (f h.4.1)
node_kept (AsSection s) l ts k parent Cut Inside e h f = absurd h
node_kept Unwritten l ts k parent Cut Inside e h f = group_kept l ts (group_no_body l.kind h.label.kind).0 h.blocks

mutual
  one_kept : (t : Tree) (k : ℕ) (parent : Kind) → WrittenIn k parent t → IsUnedited t (unranged t)
  one_kept (tree l ts) k parent h =
      node_kept (writing l.kind) l ts k parent _ (AllWrittenIn (suc k) l.kind ts) refl h (λ w. all_kept ts (suc k) l.kind w)

  all_kept : (ts : Trees) (k : ℕ) (parent : Kind) → AllWrittenIn k parent ts → AreUnedited ts (unranged_all ts)
  all_kept none k parent h = tt
  all_kept (more t ts) k parent h = (one_kept t k parent h.0, all_kept ts k parent h.2)

pub unedited_read : (t : Tree) → IsWrittenBody t → IsUnedited t (unranged t)
unedited_read (tree l ts) w = others_kept l ts (group_no_group l.kind w.0) (all_kept ts 8 kind.Body w.2)
  where
    group_no_group : (k : Kind) → k ≡ kind.Body → is_group k ≡ false
    group_no_group k e = subst (λ j. is_group j ≡ false) (sym e) refl
