-- Where the nodes of a page's tree begin, outside of groups: their labels say it.
use Rattle.std.proofs.Common.{◌≡◌, ℕ, zero, suc, ◌+◌, Bool, true, false, Option, Some, None, List, [], ◌∷◌, length, refl, sym, ap, ◌∙◌, subst}
use Rattle.std.specs.Prelude.{if◌then◌else◌}
use Rattle.std.specs.Str.{IsUtf8}
use Rattle.wt_tree.specs.declared.kind.Ranges.{Ranges}
use Rattle.wt_tree.specs.Source.{flat}
use Rattle.wt_tree.specs.Tiling.{is_group}
use Rattle.wt_tree.specs.Tree.{Tree, tree, Trees, none, more, label}
use Rattle.wt_inline.specs.ItemTree.{ItemTree, inner}
use Rattle.wt_span.specs.Items.{Item}
use Rattle.wt_span.specs.Origins.{OuterCall}
use Rattle.wt_checks.specs.Kept.{children}
use Rattle.wt_expand.specs.Work.{Pages}
use Rattle.wt_commands.specs.Answers.{refusal_of_page}
use Rattle.wt_annotated.specs.Numbering.{next_after, count}
use Rattle.wt_annotated.specs.Seams.{text_from}
use Rattle.wt_part_laws.specs.Placeless.{all_placeless}
use Rattle.wt_called_edit_laws.specs.AllTold.{starts_at, starts_in}
use Rattle.wt_called_edit_laws.specs.Groups.{called_tree}
use Rattle.wt_called_edit_laws.specs.RowBlocks.{IsReachedAt, IsReachedIn, node_between}
use Rattle.wt_called_edit_laws.specs.Settled.{settled, all_settled}
use Rattle.wt_called_edit_laws.proofs.PageBody.{page_body}
use Rattle.wt_called_edit_laws.proofs.PagesSettled.{called_settled}
use Rattle.wt_called_edit_laws.proofs.SettledNodes.{settled_gone}
use Rattle.wt_called_edit_laws.proofs.TextsMake.{flat_same}
use Rattle.wt_called_edit_laws.proofs.TextsUntangled.{body_settled}

abbrev pub first_byte : Option Ranges → ℕ
first_byte None = 0
first_byte (Some r) = r.start

pub settled_size : (n at : ℕ) (t : Tree) → length (flat (settled n at t)) ≡ length (flat t)
settled_size n at t = ap length (sym (flat_same (settled n at t)) ∙ ap flat (settled_gone n at t) ∙ flat_same t)

pub if_false : {A : Type 0} (v : Bool) (x y : A) → v ≡ false → (if v then x else y) ≡ y
if_false true x y e = absurd (cc)
if_false false x y e = refl

mutual
  settled_at : (n at : ℕ) (is : List ℕ) (v u : Tree) → IsReachedAt is (settled n at v) u → first_byte (label u).ranges ≡ starts_at at is (settled n at v)
  settled_at n at [] (tree l ts) u e = ap (λ (w : Tree). first_byte (label w).ranges) (sym e)
  settled_at n at (i ∷ is) (tree l ts) u e =
      let us : Trees = all_settled (next_after l.kind n) (at + length l.opening) ts in
      let own : Trees = if is_group l.kind then ts else us in
      let same : own ≡ us = if_false (is_group l.kind) ts us e.0 in
      among_settled (next_after l.kind n) (at + length l.opening) i is ts u (subst (λ (ws : Trees). IsReachedIn i is ws u) same e.1)
      ∙ ap (λ (ws : Trees). starts_in (at + length l.opening) i is ws) (sym same)

  among_settled : (n at i : ℕ) (is : List ℕ) (vs : Trees) (u : Tree) → IsReachedIn i is (all_settled n at vs) u
      → first_byte (label u).ranges ≡ starts_in at i is (all_settled n at vs)
  among_settled n at i is none u e = absurd e
  among_settled n at zero is (more t ts) u e = settled_at n at is t u e
  among_settled n at (suc i) is (more t ts) u e =
      among_settled (n + count t) (at + length (flat t)) i is ts u e
      ∙ ap (λ (m : ℕ). starts_in (at + m) i is (all_settled (n + count t) (at + length (flat t)) ts)) (sym (settled_size n at t))

-- the nodes of a page's body, settled
pub page_nodes_settled : (pages : Pages) (page : List ℕ) → IsUtf8 page → refusal_of_page pages page ≡ None
    → children (called_tree pages page) ≡ all_settled (next_after (label (called_tree pages page)).kind 1) 0 (all_placeless (children (called_tree pages page)))
page_nodes_settled pages page utf8 unrefused =
    let t : Tree = called_tree pages page in
    let body = page_body pages page utf8 unrefused in
    body_settled t (all_placeless (children t)) body.kind (called_settled pages page) (ap length body.opening) refl

pub node_begins : (pages : Pages) (page : List ℕ) (i : ℕ) (is : List ℕ) (u : Tree) → IsUtf8 page → refusal_of_page pages page ≡ None
    → IsReachedIn i is (children (called_tree pages page)) u → first_byte (label u).ranges ≡ starts_in 0 i is (children (called_tree pages page))
node_begins pages page i is u utf8 unrefused e =
    let t : Tree = called_tree pages page in
    let m : ℕ = next_after (label t).kind 1 in
    let vs : Trees = all_placeless (children t) in
    let s : children t ≡ all_settled m 0 vs = page_nodes_settled pages page utf8 unrefused in
    among_settled m 0 i is vs u (subst (λ (ws : Trees). IsReachedIn i is ws u) s e) ∙ ap (λ (ws : Trees). starts_in 0 i is ws) (sym s)

pub between_begins : (calls : List OuterCall) (n : ℕ) (before : List Item) (u : ItemTree) (behind : List Item)
    → first_byte (label (node_between calls n before u behind)).ranges ≡ length (text_from calls None before)
between_begins calls n before (inner h o ts c) behind = refl
