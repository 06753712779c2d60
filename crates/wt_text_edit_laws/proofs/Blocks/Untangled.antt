-- Of a block of one text no tag goes on behind it, and it holds no group and no style: wherever it is in a page.
use Rattle.std.proofs.Common.{◌≡◌, ℕ, ◌+◌, Bool, false, List, [], ◌∷◌, ◌++◌, refl, sym, ap, ap₂, ◌∙◌, subst}
use Rattle.std.specs.Prelude.{◌||◌, if◌then◌else◌}
use Rattle.wt_span.specs.Items.{Item}
use Rattle.wt_span.specs.Origins.{Expanded}
use Rattle.wt_guards.specs.Guards.{nowiki}
use Rattle.wt_tree.specs.declared.kind.Kind.{Kind}
use Rattle.wt_tree.specs.EditShapes.{edit_shape}
use Rattle.wt_tree.specs.Kinds.{is_leaf}
use Rattle.wt_tree.specs.Source.{flat, flat_of_all}
use Rattle.wt_tree.specs.Tiling.{is_group}
use Rattle.wt_tree.specs.Tree.{Label, Tree, tree, Trees, none, more, label}
use Rattle.wt_annotated.specs.Labels.{label_at}
use Rattle.wt_checks.specs.Kept.{children}
use Rattle.wt_expand.specs.PageItems.{page_items}
use Rattle.wt_isolation.specs.OpenTags.{open_by, node_ends_open, any_ends_open}
use Rattle.wt_isolation.specs.OpenTexts.{in_style}
use Rattle.wt_part_laws.specs.Placeless.{placeless, all_placeless}
use Rattle.wt_part_laws.specs.Standing.{standing}
use Rattle.wt_selser.specs.GroupFaults.{group_or_style, has_faulty_group}
use Rattle.wt_text_edit_laws.specs.TextBlocks.{TextBlock, block_tree, IsBlock}
use Rattle.wt_text_edit_laws.proofs.Blocks.BlockLeaves.{open_items, block_leaves, block_own}
use Rattle.wt_text_edit_laws.proofs.Blocks.TypedFacts.{text_nodes, its_node}
use Rattle.wt_text_edit_laws.proofs.Texts.TypedLeaves.{Leaf, letters, reference, guard, leaves, leaves_shut}
use Rattle.wt_text_edit_laws.proofs.Texts.TypedNodes.{nodes, next, behind, none_open}

-- ---- no tag is open in nodes that are the same but for numbers and places

mutual
  pub flat_same : (t : Tree) → flat (placeless t) ≡ flat t
  flat_same (tree l ts) = ap (λ (bs : List ℕ). if is_leaf l.kind then l.own else l.opening ++ bs ++ l.closing) (flats_same ts)

  pub flats_same : (ts : Trees) → flat_of_all (all_placeless ts) ≡ flat_of_all ts
  flats_same none = refl
  flats_same (more t ts) = ap₂ (λ (bs cs : List ℕ). bs ++ cs) (flat_same t) (flats_same ts)

mutual
  pub open_same : (t : Tree) → node_ends_open (placeless t) ≡ node_ends_open t
  open_same (tree l ts) = ap₂ (λ (bs : List ℕ) (inside : Bool). open_by (edit_shape l.kind).inline bs inside) (flat_same (tree l ts)) (opens_same ts)

  pub opens_same : (ts : Trees) → any_ends_open (all_placeless ts) ≡ any_ends_open ts
  opens_same none = refl
  opens_same (more t ts) = ap₂ (λ (a b : Bool). a || b) (open_same t) (opens_same ts)

-- ---- nor is a group in them

-- neither a group nor bold or italic
pub record IsQuiet (k : Kind) : Type 0 where
  pub no_group : is_group k ≡ false
  pub no_style : (inside : Bool) → in_style (edit_shape k).inline inside ≡ false

abbrev pub AreQuiet : Trees → Type 0
AreQuiet none = Unit {0}
AreQuiet (more t ts) = IsQuiet (label t).kind × AreQuiet ts

pub quiet_placed : (ts : Trees) → AreQuiet (all_placeless ts) → AreQuiet ts
quiet_placed none h = tt
quiet_placed (more (tree l us) ts) h = (h.0, quiet_placed ts h.1)

pub placed_quiet : (ts : Trees) → AreQuiet ts → AreQuiet (all_placeless ts)
placed_quiet none h = tt
placed_quiet (more (tree l us) ts) h = (h.0, placed_quiet ts h.1)

nodes_quiet : (n : ℕ) (front : List Item) (ls : List Leaf) → AreQuiet (nodes n front ls)
unfolding label_at nowiki
nodes_quiet n front [] = tt
nodes_quiet n front (letters b bs ∷ ls) =
    (record { no_group = refl; no_style = λ inside. refl }, nodes_quiet (next n front (letters b bs)) (behind front (letters b bs)) ls)
nodes_quiet n front (reference c bs ∷ ls) =
    (record { no_group = refl; no_style = λ inside. refl }, nodes_quiet (next n front (reference c bs)) (behind front (reference c bs)) ls)
nodes_quiet n front (guard ∷ ls) = (record { no_group = refl; no_style = λ inside. refl }, nodes_quiet (next n front guard) (behind front guard) ls)

group_none : (items : Expanded) (l : Label) (ts : Trees) (inside : Bool) → IsQuiet l.kind → group_or_style items l ts inside ≡ false
group_none items l ts inside q = rw q.no_group (q.no_style inside)

pub quiet_faultless : (items : Expanded) (ts : Trees) → AreQuiet ts → has_faulty_group items ts ≡ false
quiet_faultless items none h = refl
quiet_faultless items (more (tree l us) ts) h =
    ap₂ (λ (a b : Bool). a || b) (group_none items l us (has_faulty_group items us) h.0) (quiet_faultless items ts h.1)

-- ---- a block

inside_is : (k : TextBlock) (q : List ℕ) (l : Label) (ts : Trees) → IsBlock k q → placeless (tree l ts) ≡ placeless (standing 0 [] (block_tree k q))
    → all_placeless ts ≡ all_placeless (text_nodes k 0 [] (leaves (page_items q)))
inside_is k q l ts h e =
    let ls : List Leaf = leaves (page_items q) in
    ap children (e ∙ ap (λ b. placeless (standing 0 [] b)) (block_leaves k q h) ∙ ap placeless (its_node k 0 [] ls))

pub text_untangled : (k : TextBlock) (q : List ℕ) (items : Expanded) (t : Tree) → IsBlock k q → placeless t ≡ placeless (standing 0 [] (block_tree k q))
    → (any_ends_open (children t) ≡ false) × (has_faulty_group items (children t) ≡ false)
text_untangled k q items (tree l ts) h same =
    let ls : List Leaf = leaves (page_items q) in
    let ns : Trees = text_nodes k 0 [] ls in
    let inside : all_placeless ts ≡ all_placeless ns = inside_is k q l ts h same in (
      sym (opens_same ts) ∙ ap any_ends_open inside ∙ opens_same ns ∙ none_open (0 + 1) ([] ++ open_items k) ls (leaves_shut (page_items q) (block_own k q h)),
      quiet_faultless items ts (quiet_placed ts (subst AreQuiet (sym inside) (placed_quiet ns (nodes_quiet (0 + 1) ([] ++ open_items k) ls)))),
    )
