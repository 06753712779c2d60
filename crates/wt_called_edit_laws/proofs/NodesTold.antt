-- Without marks the difference finds each content that was edited in a block at a place: what holds the block is a part that pages are built of.
use Rattle.std.proofs.Common.{◌≡◌, ◌≢◌, ℕ, Bool, true, false, Option, Some, None, [], ◌∷◌, refl, sym, ap, ◌∙◌, subst}
use Rattle.std.specs.Prelude.{if◌then◌else◌}
use Rattle.wt_tree.specs.declared.kind.Kind.{Kind}
use Rattle.wt_tree.specs.declared.kind.Kind.TheVariants as kind
use Rattle.wt_tree.specs.Kinds.{is_block, is_numbered}
use Rattle.wt_tree.specs.Tiling.{is_group, numbers, numbers_of_all, InPreorder}
use Rattle.wt_tree.specs.Tree.{Label, Tree, tree, Trees, label}
use Rattle.wt_checks.specs.Kept.{children}
use Rattle.wt_checks.proofs.Found.{own_by}
use Rattle.wt_checks.proofs.Lookups.{each_split, NoZero, all_page_numbers}
use Rattle.wt_difference.specs.Insides.{has_inside}
use Rattle.wt_part_laws.specs.Frames.{Part, content, in_table, in_body, in_row, Holds}
use Rattle.wt_part_laws.specs.Placeless.{placeless_label, placeless, all_placeless}
use Rattle.wt_typed_blocks.specs.Edited.{Edited, stays, edited, round, Edits, no_edits, more_edits, page_node, page_nodes}
use Rattle.wt_typed_blocks.specs.EditedUnmarked.{AreRoundInBlocks, IsOwnRound, IsTold, AreTold}
use Rattle.wt_called_edit_laws.proofs.Cells.Nodes.{same_inside}
use Rattle.wt_called_edit_laws.proofs.Cells.Equal.{same_first, same_rest}
use Rattle.wt_called_edit_laws.proofs.Cells.SentAsIs.{body_inner}
use Rattle.wt_called_edit_laws.proofs.Cells.PartKinds.{part_kind}
use Rattle.wt_part_laws.specs.TreeFrames.{TreeFrame, spot, kept, holder, TreeFrames, no_nodes, more_nodes, filled, all_filled}
use Rattle.wt_called_edit_laws.specs.EditsAt.{IsOwnEdit, AreOwnEdits}
use Rattle.wt_called_edit_laws.specs.Nodes.{IsHolder, AreHolders}
use Rattle.wt_called_edit_laws.specs.Sends.{BlockSent, Sends, AllSend}
use Rattle.wt_called_edit_laws.specs.TreeEdits.{IsInline, AreFoundApart}
use Rattle.wt_called_edit_laws.proofs.CutFrames.{no_group_round}
use Rattle.wt_called_edit_laws.proofs.HoldersSent.{kind_held}

-- ---- what is shown of what is sent

-- in a cell's content it is a block
abbrev InBlock : Part → Edited → Type 0
InBlock content (stays t u) = Unit {0}
InBlock content (edited k l m ps) = Unit {0}
InBlock content (round l m es) = is_block l.kind ≡ true
InBlock in_table e = Unit {0}
InBlock in_body e = Unit {0}
InBlock in_row e = Unit {0}

abbrev InBlocks : Part → Edits → Type 0
InBlocks content es = AreRoundInBlocks es
InBlocks in_table es = Unit {0}
InBlocks in_body es = Unit {0}
InBlocks in_row es = Unit {0}

abbrev Told : Part → Edited → Type 0
Told p e = IsTold e × InBlock p e

abbrev AllTold : Part → Edits → Type 0
AllTold p es = AreTold es × InBlocks p es

in_block : (p : Part) (t u : Tree) → InBlock p (stays t u)
in_block content t u = tt
in_block in_table t u = tt
in_block in_body t u = tt
in_block in_row t u = tt

none_in : (p : Part) → InBlocks p no_edits
none_in content = tt
none_in in_table = tt
none_in in_body = tt
none_in in_row = tt

first_in : (e : Edited) (es : Edits) → InBlock content e → AreRoundInBlocks es → AreRoundInBlocks (more_edits e es)
first_in (stays t u) es h g = g
first_in (edited k l m ps) es h g = g
first_in (round l m ds) es h g = (h, g)

both_in : (p : Part) (e : Edited) (es : Edits) → InBlock p e → InBlocks p es → InBlocks p (more_edits e es)
both_in content e es h g = first_in e es h g
both_in in_table e es h g = tt
both_in in_body e es h g = tt
both_in in_row e es h g = tt

then_told : (p : Part) (e : Edited) (es : Edits) → Told p e → AllTold p es → AllTold p (more_edits e es)
then_told p e es h g = ((h.0, g.0), both_in p e es h.1 g.1)

-- ---- a block

block_told : (o : ℕ → Option Edited) (p : Part) (n : ℕ) (v : Option Edited) (e : Edited) → ((m : ℕ) (d : Edited) → o m ≡ Some d → IsInline d) → o n ≡ v
    → BlockSent v e → IsOwnEdit e → Told p e
block_told o p n None (stays t u) i f h own = (own, in_block p t u)
block_told o p n None (edited k l m ps) i f h own = absurd h
block_told o p n None (round l m es) i f h own = absurd h
block_told o p n (Some d) (stays t u) i f h own = absurd h
block_told o content n (Some d) (edited k l m ps) i f h own = ((own, subst IsInline h (i n d f)), tt)
block_told o in_table n (Some d) (edited k l m ps) i f h own = ((own, subst IsInline h (i n d f)), tt)
block_told o in_body n (Some d) (edited k l m ps) i f h own = ((own, subst IsInline h (i n d f)), tt)
block_told o in_row n (Some d) (edited k l m ps) i f h own = ((own, subst IsInline h (i n d f)), tt)
block_told o p n (Some d) (round l m es) i f h own = absurd h

kept_told : (p : Part) (e : Edited) → BlockSent None e → IsOwnEdit e → Told p e
kept_told p (stays t u) h own = (own, in_block p t u)
kept_told p (edited k l m ps) h own = absurd h
kept_told p (round l m es) h own = absurd h

-- ---- a node that holds blocks

by_table : (p q : Part) (k : Kind) → Holds p k q → (l : Label) → l.kind ≡ k → (m : Label) (es : Edits) → InBlock p (round l m es)
by_table content in_table k h l e m es = subst (λ j. is_block j ≡ true) (sym (e ∙ h)) refl
by_table content content k h l e m es = absurd h
by_table content in_body k h l e m es = absurd h
by_table content in_row k h l e m es = absurd h
by_table in_table q k h l e m es = tt
by_table in_body q k h l e m es = tt
by_table in_row q k h l e m es = tt

without_inside : (k j : Kind) → k ≡ j → (has_inside j ≡ true → ⊥) → has_inside k ≡ true → ⊥
without_inside k j e f h = f (ap has_inside (sym e) ∙ h)

begins_in : (p q : Part) (k : Kind) → Holds p k q → (es : Edits) → InBlocks q es → has_inside k ≡ true → AreRoundInBlocks es
begins_in content in_table k h es g e = absurd (without_inside k kind.Table h (λ z. cc) e)
begins_in content content k h es g e = absurd h
begins_in content in_body k h es g e = absurd h
begins_in content in_row k h es g e = absurd h
begins_in in_table in_body k h es g e = absurd (without_inside k kind.Tbody h (λ z. cc) e)
begins_in in_table content k h es g e = g
begins_in in_table in_table k h es g e = absurd h
begins_in in_table in_row k h es g e = absurd h
begins_in in_body in_row k h es g e = absurd (without_inside k kind.Tr h (λ z. cc) e)
begins_in in_body content k h es g e = absurd h
begins_in in_body in_table k h es g e = absurd h
begins_in in_body in_body k h es g e = absurd h
begins_in in_row content k h es g e = g
begins_in in_row in_table k h es g e = absurd h
begins_in in_row in_body k h es g e = absurd h
begins_in in_row in_row k h es g e = absurd h

-- of this kind, with a number, and what is sent in it
holder_told : (p q : Part) (l m : Label) (es : Edits) → Holds p l.kind q → l.id ≢ 0 → InBlocks q es → IsOwnEdit (round l m es)
    → IsOwnRound l m es × InBlock p (round l m es)
holder_told p q l m es part n inside own = (
  record { own = own.0; numbered = n; part = (part_kind p q l.kind part).part; behind_text = λ z. begins_in p q l.kind part es inside z },
  by_table p q l.kind part l refl m es,
)

-- ---- all of them

-- the numbers of what is in a node that is no group
pub numbers_in : (l : Label) (ts : Trees) → is_group l.kind ≡ false → NoZero (numbers (tree l ts)) → NoZero (numbers_of_all ts)
numbers_in l ts e z =
    let w = each_split (λ n. n ≢ 0) (if is_numbered l.kind then l.id ∷ [] else []) (if is_group l.kind then [] else numbers_of_all ts) z in
    subst (λ (v : Bool). NoZero (if v then [] else numbers_of_all ts)) e w.1

mutual
  one_told : (f : TreeFrame) (p : Part) (o : ℕ → Option Edited) (b : ℕ → Tree) (e : Edited) → ((n : ℕ) (d : Edited) → o n ≡ Some d → IsInline d)
      → IsHolder f p → Sends o f e → placeless (page_node e) ≡ filled b f → NoZero (numbers (page_node e)) → IsOwnEdit e → Told p e
  one_told (spot n) p o b e i h g is z own = block_told o p n (o n) e i refl g own
  one_told (kept t) p o b e i h g is z own = kept_told p e g own
  one_told (holder k fs) p o b (stays t u) i h g is z own = (own, in_block p t u)
  one_told (holder k fs) p o b (edited j l m ps) i h g is z own = absurd g
  one_told (holder k fs) p o b (round l m es) i h g is z own =
      let us : Trees = page_nodes es in
      let kind_is : l.kind ≡ k.kind = kind_held l k (all_placeless us) (all_filled b fs) is in
      let part : Holds p l.kind h.0 = subst (λ (j : Kind). Holds p j h.0) (sym kind_is) h.1 in
      let group : is_group l.kind ≡ false = no_group_round p h.0 l.kind part in
      let n : l.id ≢ 0 =
      own_by (is_numbered l.kind) l.id (if is_group l.kind then [] else numbers_of_all us) z (part_kind p h.0 l.kind part).numbered in
      let inside : AllTold h.0 es =
      all_told fs h.0 o b es i h.2 g (same_inside (placeless_label l) k (all_placeless us) (all_filled b fs) is) (numbers_in l us group z) own.1 in
      let r = holder_told p h.0 l m es part n inside.1 own in
      ((r.0, inside.0), r.1)

  all_told : (fs : TreeFrames) (p : Part) (o : ℕ → Option Edited) (b : ℕ → Tree) (es : Edits) → ((n : ℕ) (d : Edited) → o n ≡ Some d → IsInline d)
      → AreHolders fs p → AllSend o fs es → all_placeless (page_nodes es) ≡ all_filled b fs → NoZero (numbers_of_all (page_nodes es)) → AreOwnEdits es
      → AllTold p es
  all_told fs p o b no_edits i h g is z own = (tt, none_in p)
  all_told no_nodes p o b (more_edits e es) i h g is z own = absurd g
  all_told (more_nodes f fs) p o b (more_edits e es) i h g is z own =
      let w = each_split (λ n. n ≢ 0) (numbers (page_node e)) (numbers_of_all (page_nodes es)) z in
      then_told p e es
      (one_told f p o b e i h.0 g.0 (same_first (placeless (page_node e)) (filled b f) (all_placeless (page_nodes es)) (all_filled b fs) is) w.0 own.0)
      (all_told fs p o b es i h.1 g.1 (same_rest (placeless (page_node e)) (filled b f) (all_placeless (page_nodes es)) (all_filled b fs) is) w.1 own.1)

told_apart : (t : Tree) (fs : TreeFrames) (o : ℕ → Option Edited) (b : ℕ → Tree) (es : Edits) → AreHolders fs content → AllSend o fs es
    → page_nodes es ≡ children t → all_placeless (page_nodes es) ≡ all_filled b fs → ((n : ℕ) (d : Edited) → o n ≡ Some d → IsInline d)
    → (label t).kind ≡ kind.Body → InPreorder t → AreOwnEdits es → AreTold es
told_apart t fs o b es h g old is i body order own =
    let n = all_page_numbers t body order in
    let w = body_inner t body n.unnumbered n.counted in
    (all_told fs content o b es i h g is (subst (λ (us : Trees). NoZero (numbers_of_all us)) (sym old) w.1) own).0

pub found_apart : (t : Tree) (fs : TreeFrames) (o : ℕ → Option Edited) (b : ℕ → Tree) (es : Edits) → AreFoundApart t fs o b es
found_apart t fs o b es body h g old is i own = told_apart t fs o b es h g old is i body.body body.numbered own
