-- What is sent for nodes with places among them makes the nodes with the new blocks.
use Rattle.std.proofs.Common.{◌≡◌, ℕ, Bool, true, false, Option, Some, None, List, [], ◌∷◌, ◌++◌, refl, sym, ap, ap₂, ◌∙◌, subst}
use Rattle.std.specs.Prelude.{if◌then◌else◌}
use Rattle.wt_tree.specs.declared.kind.Showing.{Showing}
use Rattle.wt_tree.specs.declared.kind.Showing.TheVariants.{Characters, Inside, Nothing, Element}
use Rattle.wt_tree.specs.Kinds.{is_leaf, showing}
use Rattle.wt_tree.specs.Plain.{Plains, Face, ended, along, element, face, shown_before, plain_before, plains_before}
use Rattle.wt_tree.specs.Source.{flat, flat_of_all}
use Rattle.wt_tree.specs.Tree.{Label, Tree, tree, Trees, none, more}
use Rattle.wt_part_laws.specs.Placeless.{placeless_label, placeless, all_placeless}
use Rattle.wt_part_laws.proofs.Placeless.{shown_placeless}
use Rattle.wt_typed_blocks.specs.Edited.{Edited, stays, edited, round, Edits, no_edits, more_edits, page_node, page_nodes, edits_before}
use Rattle.wt_called_edit_laws.proofs.Cells.Equal.{same_first, same_rest}
use Rattle.wt_called_edit_laws.proofs.Cells.Nodes.{same_label, same_inside}
use Rattle.wt_part_laws.specs.TreeFrames.{TreeFrame, spot, kept, holder, TreeFrames, no_nodes, more_nodes, filled, all_filled, spots_in, spots}
use Rattle.wt_called_edit_laws.specs.Sends.{BlockSent, NoneEdited, Sends, AllSend, MakesNode, MakesNodes, BlocksMake, ContentsMake}
use Rattle.wt_called_edit_laws.specs.Nodes.{NoLeaves, NoneLeaves}

-- ---- sources hang on no places

flat_by : (v : Bool) (own xs ys : List ℕ) → xs ≡ ys → (if v then own else xs) ≡ (if v then own else ys)
flat_by true own xs ys e = refl
flat_by false own xs ys e = e

mutual
  pub flat_same : (t : Tree) → flat (placeless t) ≡ flat t
  flat_same (tree l ts) =
      flat_by (is_leaf l.kind) l.own (l.opening ++ flat_of_all (all_placeless ts) ++ l.closing) (l.opening ++ flat_of_all ts ++ l.closing)
      (ap (λ (bs : List ℕ). l.opening ++ bs ++ l.closing) (all_flat_same ts))

  pub all_flat_same : (ts : Trees) → flat_of_all (all_placeless ts) ≡ flat_of_all ts
  all_flat_same none = refl
  all_flat_same (more t ts) = ap₂ (λ (cs bs : List ℕ). cs ++ bs) (flat_same t) (all_flat_same ts)

-- a node that stays
kept_makes : (t u v : Tree) → placeless t ≡ v → MakesNode (stays t u) v
kept_makes t u v e = record {
  source = sym (flat_same t) ∙ ap flat e;
  shows = λ rest. sym (shown_placeless t rest) ∙ ap (λ (x : Tree). plain_before x rest) e;
}

-- ---- where nothing is edited

none_split : (o : ℕ → Option Edited) (ms ns : List ℕ) → NoneEdited o (ms ++ ns) → NoneEdited o ms × NoneEdited o ns
none_split o [] ns h = (tt, h)
none_split o (m ∷ ms) ns h = let r = none_split o ms ns h.1 in ((h.0, r.0), r.1)

mutual
  pub filled_kept : (o : ℕ → Option Edited) (b c : ℕ → Tree) → ((n : ℕ) → o n ≡ None → b n ≡ c n) → (f : TreeFrame) → NoneEdited o (spots_in f)
      → filled b f ≡ filled c f
  filled_kept o b c e (spot n) h = e n h.0
  filled_kept o b c e (kept t) h = refl
  filled_kept o b c e (holder l fs) h = ap (tree l) (all_filled_kept o b c e fs h)

  pub all_filled_kept : (o : ℕ → Option Edited) (b c : ℕ → Tree) → ((n : ℕ) → o n ≡ None → b n ≡ c n) → (fs : TreeFrames) → NoneEdited o (spots fs)
      → all_filled b fs ≡ all_filled c fs
  all_filled_kept o b c e no_nodes h = refl
  all_filled_kept o b c e (more_nodes f fs) h =
      let r = none_split o (spots_in f) (spots fs) h in ap₂ more (filled_kept o b c e f r.0) (all_filled_kept o b c e fs r.1)

-- ---- a node that holds places

shown_by : (s : Showing) (l m : Label) (f g : Plains → Plains) (rest : Plains) → l.shown ≡ m.shown → face l ≡ face m → ((ps : Plains) → f ps ≡ g ps)
    → shown_before s l f rest ≡ shown_before s m g rest
shown_by Characters l m f g rest c e h = ap (λ (z : List ℕ). shown_before Characters (record l { shown = z }) f rest) c
shown_by Inside l m f g rest c e h = h rest
shown_by Nothing l m f g rest c e h = refl
shown_by Element l m f g rest c e h =
    ap (λ (a : Face). along (element a (f ended)) rest) e ∙ ap (λ (ps : Plains). along (element (face m) ps) rest) (h ended)

pub leaf_or : (v : Bool) (own inside : List ℕ) → v ≡ false → inside ≡ (if v then own else inside)
leaf_or true own inside e = let no : true ≡ false = e in absurd (cc)
leaf_or false own inside e = refl

holder_makes : (l m k : Label) (ss : Edits) (ts : Trees) → is_leaf l.kind ≡ false → placeless_label m ≡ l → MakesNodes ss ts → MakesNode (round m k ss) (tree l ts)
holder_makes l m k ss ts leaf e h = record {
  source =
      ap₂ (λ (x : Label) (bs : List ℕ). x.opening ++ bs ++ x.closing) e h.sources
      ∙ leaf_or (is_leaf l.kind) l.own (l.opening ++ flat_of_all ts ++ l.closing) leaf;
  shows = λ rest.
      shown_by (showing m.kind) m (placeless_label m) (λ ps. edits_before ss ps) (λ ps. plains_before ts ps) rest refl refl h.show
      ∙ ap (λ (x : Label). shown_before (showing x.kind) x (λ ps. plains_before ts ps) rest) e;
}

-- ---- all of them

block_makes : (o : ℕ → Option Edited) (b c : ℕ → Tree) → BlocksMake o b c → (n : ℕ) (s : Edited) (v : Option Edited) → o n ≡ v → BlockSent v s
    → placeless (page_node s) ≡ b n → MakesNode s (c n)
block_makes o b c h n (stays t u) None e p q = kept_makes t u (c n) (q ∙ h.1 n e)
block_makes o b c h n (edited k l m ps) None e p q = absurd p
block_makes o b c h n (round l m ss) None e p q = absurd p
block_makes o b c h n (stays t u) (Some d) e p q = absurd p
block_makes o b c h n (edited k l m ps) (Some d) e p q = subst (λ (x : Edited). MakesNode x (c n)) p (h.0 n d e)
block_makes o b c h n (round l m ss) (Some d) e p q = absurd p

mutual
  makes : (o : ℕ → Option Edited) (b c : ℕ → Tree) → BlocksMake o b c → (f : TreeFrame) (s : Edited) → NoLeaves f → Sends o f s
      → placeless (page_node s) ≡ filled b f → MakesNode s (filled c f)
  makes o b c h (spot n) s w p q = block_makes o b c h n s (o n) refl p q
  makes o b c h (kept t) (stays u v) w p q = kept_makes u v t q
  makes o b c h (kept t) (edited k l m ps) w p q = absurd p
  makes o b c h (kept t) (round l m ss) w p q = absurd p
  makes o b c h (holder l fs) (stays u v) w p q = kept_makes u v (tree l (all_filled c fs)) (q ∙ ap (tree l) (all_filled_kept o b c h.1 fs p))
  makes o b c h (holder l fs) (edited k m n ps) w p q = absurd p
  makes o b c h (holder l fs) (round m k ss) w p q =
      holder_makes l m k ss (all_filled c fs) w.0 (same_label (placeless_label m) l (all_placeless (page_nodes ss)) (all_filled b fs) q)
      (all_make o b c h fs ss w.1 p (same_inside (placeless_label m) l (all_placeless (page_nodes ss)) (all_filled b fs) q))

  all_make : (o : ℕ → Option Edited) (b c : ℕ → Tree) → BlocksMake o b c → (fs : TreeFrames) (ss : Edits) → NoneLeaves fs → AllSend o fs ss
      → all_placeless (page_nodes ss) ≡ all_filled b fs → MakesNodes ss (all_filled c fs)
  all_make o b c h no_nodes no_edits w p q = record { sources = refl; show = λ rest. refl }
  all_make o b c h no_nodes (more_edits s ss) w p q = absurd p
  all_make o b c h (more_nodes f fs) no_edits w p q = absurd p
  all_make o b c h (more_nodes f fs) (more_edits s ss) w p q =
      let one = makes o b c h f s w.0 p.0 (same_first (placeless (page_node s)) (filled b f) (all_placeless (page_nodes ss)) (all_filled b fs) q) in
      let rest = all_make o b c h fs ss w.1 p.1 (same_rest (placeless (page_node s)) (filled b f) (all_placeless (page_nodes ss)) (all_filled b fs) q) in
      record {
        sources = ap₂ (λ (cs bs : List ℕ). cs ++ bs) one.source rest.sources;
        show = λ ps. one.shows (edits_before ss ps) ∙ ap (plain_before (filled c f)) (rest.show ps);
      }

pub contents_make : (fs : TreeFrames) (o : ℕ → Option Edited) (b c : ℕ → Tree) (ss : Edits) → ContentsMake fs o b c ss
contents_make fs o b c ss w h p q = all_make o b c h fs ss w p q
