-- What is sent for a node of a block shows what the page's does: where a group is, the page's group with its number is shown.
use Rattle.std.proofs.Common.{◌≡◌, ℕ, ◌+◌, Bool, true, false, List, [], ◌∷◌, map, length, refl, sym, ap, ◌∙◌}
use Rattle.std.specs.Prelude.{◌==◌, if◌then◌else◌, Option, Some, None}
use Rattle.std.specs.List.{AllByRecursion}
use Rattle.std.proofs.lemmas.Bool.Decides.{Decides-eqb}
use Rattle.wt_tree.specs.Kinds.{showing, is_leaf}
use Rattle.wt_tree.specs.Plain.{Plains, plain_before, plains_before}
use Rattle.wt_tree.specs.Source.{flat}
use Rattle.wt_tree.specs.Tiling.{is_group, ids, ids_of_all}
use Rattle.wt_tree.specs.Tree.{Label, Tree, tree, Trees, none, more, label}
use Rattle.wt_original.specs.Kept.{Kept, KeptNode, items, visible, kept_with, first_with, kept_of, kept_nodes, found_at, found_from, found_in}
use Rattle.wt_original.specs.Page.{node_or, restored, restored_all}
use Rattle.wt_selser.specs.Leaves.{LeavesHoldNoNumber, AllLeavesHoldNoNumber}
use Rattle.wt_checks.specs.Elements.{written_for}
use Rattle.wt_checks.specs.Kept.{children}
use Rattle.wt_checks.specs.Places.{Place, Page as Nodes}
use Rattle.wt_checks.specs.WithoutMarks.{mark_off}
use Rattle.wt_checks.proofs.Lookups.{each_split}
use Rattle.wt_visible.specs.Restored.{held_there, group_held, held_by, restored as shown_again, all_restored}
use Rattle.wt_typed_blocks.proofs.EditedShows.{shown_same}
use Rattle.wt_typed_blocks.proofs.SentGroups.{in_group}
use Rattle.wt_beside_laws.proofs.OwnSigns.{Every, every_left, every_right, Finds, own_found, inside_found, held_if}
use Rattle.wt_called_edit_laws.specs.SentAsIs.{as_nodes, as_sent, all_as_sent, HasNumberedGroups, HaveNumberedGroups}
use Rattle.wt_inside_laws.specs.TextEdits.{IsGroupThere, OwnBy, HasOwnGroups, HaveOwnGroups}
use Rattle.wt_inside_laws.proofs.Groups.{either_way, group_plain}

-- ---- the nodes of a block are the page's

-- it is found in the page by its number
abbrev pub IsThere : Nodes → KeptNode → Type 0
IsThere page f = (q : Place) × (page (label f.node).id ≡ Some q) × (q.node ≡ f.node)

if_some : (b : Bool) (o : Option Kept) (k : Kept) → (if b then None else o) ≡ Some k → (b ≡ false) × (o ≡ Some k)
if_some true o k e = absurd (cc)
if_some false o k e = (refl, e)

first_of : (n : ℕ) (ks : List Kept) (k : Kept) → kept_with n ks ≡ Some k → ((n == 0) ≡ false) × (first_with n ks ≡ Some k)
unfolding kept_with
first_of n ks k e = if_some (n == 0) (first_with n ks) k e

-- a kept node is one of those that are found in the block
record IsFrom (page : Nodes) (block : Tree) (n : ℕ) (k : Kept) : Type 0 where
  found : KeptNode
  is : kept_of block found ≡ k
  number : (label found.node).id ≡ n
  there : IsThere page found

kept_from : (page : Nodes) (block : Tree) (fs : List KeptNode) (n : ℕ) (k : Kept) → Every (IsThere page) fs
    → first_with n (map (kept_of block) fs) ≡ Some k → IsFrom page block n k
kept_from page block [] n k h e = absurd (cc)
kept_from page block (f ∷ fs) n k h e = by_test ((label f.node).id == n) refl e (λ r. kept_from page block fs n k h.1 r)
  where
    by_test : (b : Bool) → ((label f.node).id == n) ≡ b → (if b then Some (kept_of block f) else first_with n (map (kept_of block) fs)) ≡ Some k
        → (first_with n (map (kept_of block) fs) ≡ Some k → IsFrom page block n k) → IsFrom page block n k
    by_test true t e later =
        let same : kept_of block f ≡ k = cc in
        record { found = f; is = same; number = (Decides-eqb (label f.node).id n).0 t; there = h.0 }
    by_test false t e later = later e

-- ---- what is sent, by the groups of the block and by those of the page

group_again : (page : Nodes) (block : Tree) (m : Label) (us : Trees) (rest : Plains) (o : Option Kept) → kept_with m.id (kept_nodes block) ≡ o
    → is_group m.kind ≡ true → Every (IsThere page) (found_from 0 0 block) → IsGroupThere o
    → plain_before (tree m (group_held page m.id us)) rest ≡ plain_before (node_or (tree m us) o) rest
group_again page block m us rest None e g h i = absurd i
group_again page block m us rest (Some k) e g h i =
    let s = first_of m.id (kept_nodes block) k e in
    let f : IsFrom page block m.id k = kept_from page block (found_from 0 0 block) m.id k h s.1 in
    let there : page m.id ≡ Some f.there.0 = ap page (sym f.number) ∙ f.there.1 in
    let node : f.there.0.node ≡ k.node = f.there.2 ∙ ap (λ (x : Kept). x.node) f.is in
    ap (λ (b : Bool). plain_before (tree m (if b then us else held_there (page m.id) us)) rest) s.0
    ∙ ap (λ (x : Option Place). plain_before (tree m (held_there x us)) rest) there
    ∙ ap (λ (t : Tree). plain_before (tree m (children t)) rest) node
    ∙ group_plain m k.node rest g i

again_by : (page : Nodes) (block : Tree) (m : Label) (us : Trees) (rest : Plains) (b : Bool) → is_group m.kind ≡ b
    → Every (IsThere page) (found_from 0 0 block) → OwnBy b (kept_with m.id (kept_nodes block)) (HaveOwnGroups (kept_nodes block) us)
    → ((ps : Plains) → HaveOwnGroups (kept_nodes block) us → plains_before (all_restored page us) ps ≡ plains_before (restored_all (kept_nodes block) us) ps)
    → plain_before (tree m (held_by page b m.id us (all_restored page us))) rest
    ≡ plain_before (if b then node_or (tree m us) (kept_with m.id (kept_nodes block)) else tree m (restored_all (kept_nodes block) us)) rest
again_by page block m us rest true e h g f = group_again page block m us rest (kept_with m.id (kept_nodes block)) refl e h g
again_by page block m us rest false e h g f =
    shown_same (showing m.kind) m m (λ ps. plains_before (all_restored page us) ps) (λ ps. plains_before (restored_all (kept_nodes block) us) ps) rest
    (λ c. refl) refl (λ ps. f ps g)

mutual
  pub again_shows : (page : Nodes) (block u : Tree) (rest : Plains) → Every (IsThere page) (found_from 0 0 block) → HasOwnGroups (kept_nodes block) u
      → plain_before (shown_again page u) rest ≡ plain_before (restored (kept_nodes block) u) rest
  again_shows page block (tree m us) rest h g =
      again_by page block m us rest (is_group m.kind) refl h g (λ ps a. all_again_show page block us ps h a)

  all_again_show : (page : Nodes) (block : Tree) (us : Trees) (rest : Plains) → Every (IsThere page) (found_from 0 0 block)
      → HaveOwnGroups (kept_nodes block) us → plains_before (all_restored page us) rest ≡ plains_before (restored_all (kept_nodes block) us) rest
  all_again_show page block none rest h g = refl
  all_again_show page block (more u us) rest h g =
      ap (plain_before (shown_again page u)) (all_again_show page block us rest h g.1)
      ∙ again_shows page block u (plains_before (restored_all (kept_nodes block) us) rest) h g.0

-- ---- what is sent for a node of the block as it is

-- in the block it is again what it was, if it is a group
abbrev again_if : Bool → List Kept → Label → Trees → Tree
again_if b ks l ts =
    if b then node_or (tree (mark_off l) (if b then as_nodes (written_for ts) else all_as_sent ts)) (kept_with l.id ks)
    else tree (mark_off l) (restored_all ks (if b then as_nodes (written_for ts) else all_as_sent ts))

pub restored_kind : (ks : List Kept) (l : Label) (ts : Trees) → is_group l.kind ≡ false → (label (restored ks (as_sent (tree l ts)))).kind ≡ l.kind
restored_kind ks l ts e = ap (λ (b : Bool). (label (again_if b ks l ts)).kind) e

group_own : (ks : List Kept) (l : Label) (ts : Trees) (rest : Plains) (k : Kept) → is_group l.kind ≡ true → kept_with l.id ks ≡ Some k → k.node ≡ tree l ts
    → plain_before (restored ks (as_sent (tree l ts))) rest ≡ plain_before (tree l ts) rest
group_own ks l ts rest k e f n =
    ap (λ (b : Bool). plain_before (again_if b ks l ts) rest) e
    ∙ ap (λ (o : Option Kept). plain_before (node_or (tree (mark_off l) (as_nodes (written_for ts))) o) rest) f
    ∙ ap (λ (t : Tree). plain_before t rest) n

holder_shows : (ks : List Kept) (l : Label) (ts : Trees) (rest : Plains) → is_group l.kind ≡ false
    → ((ps : Plains) → plains_before (restored_all ks (all_as_sent ts)) ps ≡ plains_before ts ps)
    → plain_before (restored ks (as_sent (tree l ts))) rest ≡ plain_before (tree l ts) rest
holder_shows ks l ts rest e f =
    ap (λ (b : Bool). plain_before (again_if b ks l ts) rest) e
    ∙ shown_same (showing l.kind) l (mark_off l) (λ qs. plains_before (restored_all ks (all_as_sent ts)) qs) (λ qs. plains_before ts qs) rest (λ c. refl) refl f

-- where nothing has a number, no group is
mutual
  bare_shows : (ks : List Kept) (t : Tree) (rest : Plains) → HasNumberedGroups t → AllByRecursion (λ n. n ≡ 0) (ids t)
      → plain_before (restored ks (as_sent t)) rest ≡ plain_before t rest
  bare_shows ks (tree l ts) rest g z =
      in_group (is_group l.kind) g (λ e n. absurd (n.numbered z.0)) (λ e a. holder_shows ks l ts rest e (λ ps. all_bare_show ks ts ps a z.1))

  all_bare_show : (ks : List Kept) (ts : Trees) (rest : Plains) → HaveNumberedGroups ts → AllByRecursion (λ n. n ≡ 0) (ids_of_all ts)
      → plains_before (restored_all ks (all_as_sent ts)) rest ≡ plains_before ts rest
  all_bare_show ks none rest g z = refl
  all_bare_show ks (more t ts) rest g z =
      let s = each_split (λ n. n ≡ 0) (ids t) (ids_of_all ts) z in
      ap (plain_before (restored ks (as_sent t))) (all_bare_show ks ts rest g.1 s.1) ∙ bare_shows ks t (plains_before ts rest) g.0 s.0

mutual
  pub own_shows : (block : Tree) (at from : ℕ) (t : Tree) (rest : Plains) → Every (Finds block) (found_from at from t) → HasNumberedGroups t
      → LeavesHoldNoNumber t → plain_before (restored (kept_nodes block) (as_sent t)) rest ≡ plain_before t rest
  own_shows block at from (tree l ts) rest f g h =
      in_group (is_group l.kind) g
      (λ e n. group_own (kept_nodes block) l ts rest (kept_of block (found_at at from (tree l ts))) e (own_found (Finds block) at from l ts n.numbered f) refl)
      (λ e a. holder_shows (kept_nodes block) l ts rest e
      (λ ps. either_way (is_leaf l.kind) (λ y. all_bare_show (kept_nodes block) ts ps a (h.0 y))
      (λ y. all_own_show block (at + length l.opening) (from + length l.opening) ts ps (inside_found (Finds block) at from l ts (held_if l.kind y) f) a h.1)))

  all_own_show : (block : Tree) (at from : ℕ) (ts : Trees) (rest : Plains) → Every (Finds block) (found_in at from ts) → HaveNumberedGroups ts
      → AllLeavesHoldNoNumber ts → plains_before (restored_all (kept_nodes block) (all_as_sent ts)) rest ≡ plains_before ts rest
  all_own_show block at from none rest f g h = refl
  all_own_show block at from (more t ts) rest f g h =
      ap (plain_before (restored (kept_nodes block) (as_sent t)))
      (all_own_show block (at + length (flat t)) (from + length (visible (items t))) ts rest (every_right (Finds block) (found_from at from t) _ f) g.1 h.1)
      ∙ own_shows block at from t (plains_before ts rest) (every_left (Finds block) (found_from at from t) _ f) g.0 h.0
