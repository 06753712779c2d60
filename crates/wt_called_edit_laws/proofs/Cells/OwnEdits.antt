-- Numbers grow from node to node; and an edit that sends every other node as it is in the page types a text in a paragraph.
use Rattle.std.proofs.Common.{arith, ◌≡◌, ℕ, zero, suc, ◌+◌, ◌≤◌, Bool, true, false, List, [], ◌∷◌, refl, sym, ap, ap₂}
use Rattle.std.specs.Prelude.{if◌then◌else◌}
use Rattle.std.specs.Str.{IsUtf8}
use Rattle.wt_tree.specs.declared.kind.Kind.{Kind}
use Rattle.wt_tree.specs.Tiling.{HasNoGroup, NoneIsGroup}
use Rattle.wt_tree.specs.Tree.{Label, Tree, tree, Trees, none, more}
use Rattle.wt_span.specs.Items.{Item}
use Rattle.wt_inline.specs.ItemTree.{ItemTree}
use Rattle.wt_checks.specs.Kept.{children}
use Rattle.wt_typed_blocks.specs.Sent.{old_child, old_children, IsSent, AreSent}
use Rattle.wt_text_edit_laws.specs.Parts.{part_tree, HasNoGroups}
use Rattle.wt_text_edit_laws.proofs.Prose.ProseTrees.{number_behind, items_behind}
use Rattle.wt_text_edit_laws.proofs.Blocks.OwnNodes.{stands_unmarked, none_inside}
use Rattle.wt_called_edit_laws.specs.CellEdits.{AllKept, TypesAt, TypesIn, CellPage, page_with, IsCellEdit, Leads, LeadsIn, LeadsFrom, own_kept, own_sent, own_in, own_sents}
use Rattle.wt_called_edit_laws.proofs.Cells.Nodes.{number_after}

-- ---- numbers

pub number_grows : (n : ℕ) (b : List Item) (us : List ItemTree) → n ≤ number_after n b us
number_grows n b [] = omega arith
number_grows n b (t ∷ us) =
    let more_than : number_behind n b t ≤ number_after (number_behind n b t) (items_behind b t) us = number_grows (number_behind n b t) (items_behind b t) us in
    omega (arith, more_than)

pub next_grows : (v : Bool) (n : ℕ) → n ≤ (if v then n + 1 else n)
next_grows true n = omega arith
next_grows false n = omega arith

-- ---- the edit that types a text at a path

own_old : (ts : Trees) → old_children (own_kept ts) ≡ ts
own_old none = refl
own_old (more t ts) = ap (more t) (own_old ts)

own_are_sent : (ts : Trees) → NoneIsGroup ts → AreSent (own_kept ts)
own_are_sent none g = tt
own_are_sent (more t ts) g = (stands_unmarked t g.0, own_are_sent ts g.1)

own_are_kept : (ts : Trees) → AllKept (own_kept ts)
own_are_kept none = tt
own_are_kept (more t ts) = (tt, own_are_kept ts)

mutual
  sent_old : (is : List ℕ) (m : Label) (text : List ℕ) (t : Tree) → Leads is t → old_child (own_sent is m text t) ≡ t
  sent_old [] m text (tree l ts) h = ap (λ (k : Kind). tree (record l { kind = k }) ts) (sym h.0)
  sent_old (i ∷ is) m text (tree l ts) h = ap (tree l) (in_old i is m text ts h)

  in_old : (i : ℕ) (is : List ℕ) (m : Label) (text : List ℕ) (ts : Trees) → LeadsIn i is ts → old_children (own_in i is m text ts) ≡ ts
  in_old i is m text none h = absurd h
  in_old zero is m text (more t ts) h = ap₂ more (sent_old is m text t h) (own_old ts)
  in_old (suc i) is m text (more t ts) h = ap (more t) (in_old i is m text ts h)

mutual
  sent_is : (is : List ℕ) (m : Label) (text : List ℕ) (t : Tree) → HasNoGroup t → Leads is t → IsSent (own_sent is m text t)
  sent_is [] m text (tree l ts) g h = h.1
  sent_is (i ∷ is) m text (tree l ts) g h =
      (record { kind = refl; id = refl; attrs = refl; mw = refl; shown = λ e. refl; unmarked = refl }, in_sent i is m text ts g.1 h)

  in_sent : (i : ℕ) (is : List ℕ) (m : Label) (text : List ℕ) (ts : Trees) → NoneIsGroup ts → LeadsIn i is ts → AreSent (own_in i is m text ts)
  in_sent i is m text none g h = absurd h
  in_sent zero is m text (more t ts) g h = (sent_is is m text t g.0 h, own_are_sent ts g.1)
  in_sent (suc i) is m text (more t ts) g h = (stands_unmarked t g.0, in_sent i is m text ts g.1 h)

mutual
  sent_types : (is : List ℕ) (m : Label) (text : List ℕ) (t : Tree) → Leads is t → TypesAt is text (own_sent is m text t)
  sent_types [] m text (tree l ts) h = (refl, refl, refl)
  sent_types (i ∷ is) m text (tree l ts) h = in_types i is m text ts h

  in_types : (i : ℕ) (is : List ℕ) (m : Label) (text : List ℕ) (ts : Trees) → LeadsIn i is ts → TypesIn i is text (own_in i is m text ts)
  in_types i is m text none h = absurd h
  in_types zero is m text (more t ts) h = (sent_types is m text t h, own_are_kept ts)
  in_types (suc i) is m text (more t ts) h = (tt, in_types i is m text ts h)

-- the edit with any text, where the path leads to a paragraph
pub own_edit : (c : CellPage) (path : List ℕ) (m : Label) (text : List ℕ) → HasNoGroups (page_with c c.text)
    → LeadsFrom path (children (part_tree (page_with c c.text))) → IsUtf8 text
    → IsCellEdit c path text (own_sents path m text (children (part_tree (page_with c c.text))))
own_edit c [] m text g h u = absurd h
own_edit c (i ∷ is) m text g h u =
    let ts : Trees = children (part_tree (page_with c c.text)) in
    record { utf8 = u; old = in_old i is m text ts h; sent = in_sent i is m text ts (none_inside (part_tree (page_with c c.text)) g) h; types = in_types i is m text ts h }
