-- What is read, with the marks of its difference from a page in the place of its own, is as it is read, too.
use Rattle.std.proofs.Common.{◌≡◌, ℕ, Bool, true, false, refl, sym, ap, ap₂, ◌∙◌}
use Rattle.std.specs.Prelude.{◌&&◌, ◌||◌, if◌then◌else◌}
use Rattle.wt_tree.specs.declared.kind.Kind.{Kind}
use Rattle.wt_tree.specs.declared.kind.Kind.TheVariants as kind
use Rattle.wt_tree.specs.declared.kind.Mark.{Mark}
use Rattle.wt_tree.specs.declared.kind.Mark.TheVariants as marks
use Rattle.wt_tree.specs.Kinds.{writing}
use Rattle.wt_tree.specs.Tree.{Label, Tree, tree, Trees, none, more, label}
use Rattle.wt_checks.specs.Kept.{children}
use Rattle.wt_checks.specs.Places.{Page, page_of, is_body}
use Rattle.wt_checks.specs.PutBack.{is_frame, has_frame, have_frame, IsOneBody}
use Rattle.wt_checks.specs.Tokens.{is_text}
use Rattle.wt_checks.specs.WithoutMarks.{unmarked, all_unmarked}
use Rattle.wt_difference.specs.Difference.{stays_in, is_stable}
use Rattle.wt_difference.specs.Insides.{is_block_part}
use Rattle.wt_difference.specs.Remarked.{mark_of, remarked_in, all_remarked, remarked}
use Rattle.wt_difference.proofs.Remarks.{marks_alone}
use Rattle.wt_inside_laws.proofs.ReadRecuts.{TextLeaf, AreTexts, IsReadNode, ReadTree, AllReadTrees}

-- ---- a node with another mark

node_as : (m : Mark) (l : Label) (ts us : Trees) → (ts ≡ none → us ≡ none) → (AreTexts ts → AreTexts us) → IsReadNode l ts → IsReadNode (record l { mark = m }) us
node_as m l ts us f g h = record {
  hidden = λ e. f (h.hidden e);
  text = λ e. f (h.text e);
  unnumbered = h.unnumbered;
  texts = λ n p. g (h.texts n p);
  plain = h.plain;
}

-- ---- without marks

bare_leaf : (t : Tree) → TextLeaf t → TextLeaf (unmarked t)
bare_leaf (tree l ts) h = λ e. let r = h e in record { kind = r.kind; id = r.id; mark = refl; some = r.some; utf8 = r.utf8 }

bare_texts : (ts : Trees) → AreTexts ts → AreTexts (all_unmarked ts)
bare_texts none h = tt
bare_texts (more t ts) h = (bare_leaf t h.0, bare_texts ts h.1)

mutual
  bare_read : (t : Tree) → ReadTree t → ReadTree (unmarked t)
  bare_read (tree l ts) h =
      (node_as marks.Nothing l ts (all_unmarked ts) (λ e. ap all_unmarked e) (λ x. bare_texts ts x) h.0, all_bare_read ts h.1)

  all_bare_read : (ts : Trees) → AllReadTrees ts → AllReadTrees (all_unmarked ts)
  all_bare_read none h = tt
  all_bare_read (more t ts) h = (bare_read t h.0, all_bare_read ts h.1)

-- ---- with the marks of the difference

no_block : (k : Kind) → is_block_part k ≡ true → is_text (writing k) ≡ true → ⊥
no_block kind.Text e f = absurd (cc)
no_block kind.Sep e f = absurd (cc)
no_block k e f = absurd (cc)

and_first : (a b : Bool) → (a && b) ≡ true → a ≡ true
and_first true b e = refl
and_first false b e = e

-- no text stays by itself
leaf_by : (page : Page) (holder : ℕ) (u : Tree) (b : Bool) → is_stable page holder u ≡ b → TextLeaf u → TextLeaf (if b then remarked_in page u else unmarked u)
leaf_by page holder (tree m us) true e h = λ x. absurd (no_block m.kind (and_first (is_block_part m.kind) (stays_in page holder (tree m us)) e) x)
leaf_by page holder u false e h = bare_leaf u h

marked_texts : (page : Page) (holder : ℕ) (us : Trees) → AreTexts us → AreTexts (all_remarked page holder us)
marked_texts page holder none h = tt
marked_texts page holder (more u us) h = (leaf_by page holder u (is_stable page holder u) refl h.0, marked_texts page holder us h.1)

child_by : (b : Bool) (page : Page) (u : Tree) → ReadTree (remarked_in page u) → ReadTree (unmarked u) → ReadTree (if b then remarked_in page u else unmarked u)
child_by true page u f g = f
child_by false page u f g = g

mutual
  marked_read : (page : Page) (u : Tree) → ReadTree u → ReadTree (remarked_in page u)
  marked_read page (tree m us) h = (
    node_as (mark_of page (tree m us) (page m.id)) m us (all_remarked page m.id us) (λ e. ap (all_remarked page m.id) e) (λ x. marked_texts page m.id us x) h.0,
    all_marked_read page m.id us h.1,
  )

  all_marked_read : (page : Page) (holder : ℕ) (us : Trees) → AllReadTrees us → AllReadTrees (all_remarked page holder us)
  all_marked_read page holder none h = tt
  all_marked_read page holder (more u us) h =
      (child_by (is_stable page holder u) page u (marked_read page u h.0) (bare_read u h.0), all_marked_read page holder us h.1)

pub remarked_read : (t u : Tree) → ReadTree u → ReadTree (remarked t u)
unfolding remarked
remarked_read t u h = marked_read (page_of t) u h

-- ---- one body

mutual
  frame_same : (t : Tree) → has_frame (unmarked t) ≡ has_frame t
  frame_same (tree l ts) = ap (λ (b : Bool). is_frame l.kind || b) (frames_same ts)

  frames_same : (ts : Trees) → have_frame (all_unmarked ts) ≡ have_frame ts
  frames_same none = refl
  frames_same (more t ts) = ap₂ (λ (a b : Bool). a || b) (frame_same t) (frames_same ts)

kind_same : (t : Tree) → (label (unmarked t)).kind ≡ (label t).kind
kind_same (tree l ts) = refl

held_same : (t : Tree) → have_frame (children (unmarked t)) ≡ have_frame (children t)
held_same (tree l ts) = frames_same ts

pub remarked_body : (t u : Tree) → IsOneBody u → IsOneBody (remarked t u)
remarked_body t u o =
    let e : unmarked (remarked t u) ≡ unmarked u = marks_alone t u in
    record {
      root = ap is_body (sym (kind_same (remarked t u)) ∙ ap (λ (x : Tree). (label x).kind) e ∙ kind_same u) ∙ o.root;
      alone = sym (held_same (remarked t u)) ∙ ap (λ (x : Tree). have_frame (children x)) e ∙ held_same u ∙ o.alone;
    }
