-- Of groups in a page's tree: what they hold, and what is sent for them.
use Rattle.std.proofs.Common.{◌≡◌, Bool, true, false, refl, sym, ap, ◌∙◌}
use Rattle.std.specs.List.{AllByRecursion}
use Rattle.wt_tree.specs.declared.kind.Kind.{Kind}
use Rattle.wt_tree.specs.declared.kind.Kind.TheVariants as kind
use Rattle.wt_tree.specs.declared.row.Writing.{Writing}
use Rattle.wt_tree.specs.declared.row.Writing.TheVariants.{Unwritten}
use Rattle.wt_tree.specs.EditShapes.{edit_shape}
use Rattle.wt_tree.specs.Kinds.{showing, writing}
use Rattle.wt_tree.specs.Plain.{Plains, shown_before, plain_before, plains_before}
use Rattle.wt_tree.specs.Tiling.{is_group, ids_of_all}
use Rattle.wt_tree.specs.Tree.{Label, Tree, tree, Trees, label}
use Rattle.wt_checks.specs.Kept.{children}
use Rattle.wt_typed_blocks.proofs.SentGroups.{in_group}
use Rattle.wt_called_edit_laws.specs.SentAsIs.{HasNumberedGroups, HaveNumberedGroups}
use Rattle.wt_inside_laws.specs.TextEdits.{takes_text}

pub either_way : {A : Type 0} (b : Bool) → (b ≡ true → A) → (b ≡ false → A) → A
either_way true f g = f refl
either_way false f g = g refl

pub group_kind : (k : Kind) → is_group k ≡ true → k ≡ kind.Group
group_kind kind.Group e = refl
group_kind k e = absurd (cc)

-- what is in a node that is no group
pub inner_numbered : (l : Label) (ts : Trees) → HasNumberedGroups (tree l ts) → is_group l.kind ≡ false → HaveNumberedGroups ts
inner_numbered l ts h e = in_group (is_group l.kind) h (λ g a. let x : true ≡ false = sym g ∙ e in absurd (cc)) (λ g a. a)

-- of a group: what it holds has no number
pub inner_unnumbered : (l : Label) (ts : Trees) → HasNumberedGroups (tree l ts) → is_group l.kind ≡ true → AllByRecursion (λ n. n ≡ 0) (ids_of_all ts)
inner_unnumbered l ts h e = in_group (is_group l.kind) h (λ g n. n.unnumbered) (λ g a. let x : true ≡ false = sym e ∙ g in absurd (cc))

-- what is written as an element, a text or a section is no group
pub written_ungrouped : (k : Kind) (w : Writing) → writing k ≡ w → (w ≡ Unwritten → ⊥) → is_group k ≡ false
written_ungrouped k w e n = either_way (is_group k) (λ g. absurd (n (sym e ∙ ap writing (group_kind k g)))) (λ g. g)

-- nor is a paragraph or heading
pub block_ungrouped : (k : Kind) → takes_text (edit_shape k).form ≡ true → is_group k ≡ false
block_ungrouped kind.Group e = absurd (cc)
block_ungrouped k e = refl

-- a group shows what it holds
pub group_plain : (m : Label) (t : Tree) (rest : Plains) → is_group m.kind ≡ true → is_group (label t).kind ≡ true
    → plain_before (tree m (children t)) rest ≡ plain_before t rest
group_plain m (tree l ts) rest g h =
    ap (λ (k : Kind). shown_before (showing k) m (λ ps. plains_before ts ps) rest) (group_kind m.kind g)
    ∙ sym (ap (λ (k : Kind). shown_before (showing k) l (λ ps. plains_before ts ps) rest) (group_kind l.kind h))
