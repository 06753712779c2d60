-- Nothing is wrong with a text edit round groups: it is of the grammar.
use Rattle.std.proofs.Common.{◌≡◌, inl, Bool, true, false, Option, Some, None, refl, ap, ◌∙◌, sym}
use Rattle.std.specs.Prelude.{◌||◌, if◌then◌else◌, List}
use Rattle.wt_tree.specs.Tiling.{is_group}
use Rattle.wt_tree.specs.Tree.{Label, Tree, tree, Trees, none, more, label}
use Rattle.wt_tree.specs.declared.edit_shape.InlineForm.{InlineForm}
use Rattle.wt_tree.specs.declared.edit_shape.InlineForm.TheVariants as inline
use Rattle.wt_tree.specs.EditShapes.{edit_shape}
use Rattle.wt_original.specs.Kept.{Kept, kept_nodes, kept_with}
use Rattle.wt_original.specs.Page.{Page, TellsSame, is_unchanged, node_or, page_of, restored, restored_all}
use Rattle.wt_content.specs.declared.content.Surroundings.{Surroundings}
use Rattle.wt_content.specs.declared.content.Standing.{Standing}
use Rattle.wt_content.specs.declared.content.Standing.TheVariants as stands
use Rattle.wt_content.specs.Content.{bad_content, below, changed_from, held, holds_link, is_link, outermost, standing, standing_of}
use Rattle.wt_content.specs.Grammar.{AreContent, IsApart, IsContent, IsContentBy, LeavesFixed}
use Rattle.wt_content.specs.Typed.{IsTypedBy, TakesNoPlace, may_change}
use Rattle.wt_content.proofs.GrammarLaws.{grammar_is_taken}
use Rattle.wt_typed_blocks.specs.TextEdits.{AreTextEdits, IsAsItWas, IsTextEdit}

-- ---- how a node stands to the page

same_if : (b : Bool) (s : Standing) → b ≡ true → (if b then stands.Same else s) ≡ stands.Same
same_if true s e = refl
same_if false s e = cc

or_false : (a b : Bool) → (a ≡ false → b ≡ true) → (a || b) ≡ true
or_false true b f = refl
or_false false b f = f refl

-- restoring groups leaves the kind of a node that is none
restored_kind : (ks : List Kept) (t : Tree) → is_group (label t).kind ≡ false → (label (restored ks t)).kind ≡ (label t).kind
restored_kind ks (tree l ts) e =
    ap (λ (b : Bool). (label (if b then node_or (tree l ts) (kept_with l.id ks) else tree l (restored_all ks ts))).kind) e

stands_same : (same : Tree → Tree → Bool) (old t : Tree) → TellsSame same → IsAsItWas old t → standing (page_of same old) t ≡ stands.Same
stands_same same old t tells u =
    let ks = kept_nodes old in
    let node = u.kept.node in
    let group : is_group (label node).kind ≡ false → is_group (label t).kind ≡ false = λ e. ap is_group u.kind ∙ e in
    let told : is_group (label node).kind ≡ false → same (restored ks t) node ≡ true =
    λ e. (tells (restored ks t) node).1 (restored_kind ks t (group e) ∙ u.kind, u.shown (group e)) in
    ap (λ (o : Option Kept). standing_of (page_of same old) o t) u.found
    ∙ same_if (is_group (label node).kind || same (restored ks t) node) (changed_from (edit_shape (label node).kind).inline)
    (or_false (is_group (label node).kind) (same (restored ks t) node) told)

-- ---- what takes no place

changed_well : (w : InlineForm) → may_change w ≡ true → LeavesFixed (changed_from w)
changed_well inline.Nothing e = tt
changed_well inline.Characters e = tt
changed_well inline.Bold e = tt
changed_well inline.Italic e = tt
changed_well inline.Shown e = tt
changed_well inline.PageLink e = tt
changed_well inline.ExternalLink e = tt
changed_well inline.Tag e = tt
changed_well inline.Break e = cc
changed_well inline.AsItStood e = cc

leaves_by : (b : Bool) (w : InlineForm) → may_change w ≡ true → LeavesFixed (if b then stands.Same else changed_from w)
leaves_by true w e = tt
leaves_by false w e = changed_well w e

leaves_fixed : (p : Page) (t : Tree) (o : Option Kept) → TakesNoPlace o → LeavesFixed (standing_of p o t)
leaves_fixed p t None h = tt
leaves_fixed p t (Some k) h = leaves_by (is_unchanged p k t) (edit_shape (label k.node).kind).inline h

-- ---- the grammar

in_no_link : (x : Surroundings) (holds : Bool) → x.in_link ≡ false → IsApart x holds
in_no_link x holds e i = let no : true ≡ false = sym i ∙ e in cc

by_way : (w : InlineForm) (x : Surroundings) (s : Standing) (l : Label) (holds : Bool) (inside typed free was : Type 0) → x.in_link ≡ false → (is_link w ≡ false → typed → inside)
    → (free → LeavesFixed s) → (was → s ≡ stands.Same) → IsTypedBy w x.in_paragraph l.shown typed free was
    → IsContentBy w x s l holds inside
by_way inline.Nothing x s l holds inside typed free was e f g h k = in_no_link x holds e
by_way inline.Characters x s l holds inside typed free was e f g h k = (k, in_no_link x holds e)
by_way inline.Bold x s l holds inside typed free was e f g h k = (g k.1, f refl k.0)
by_way inline.Italic x s l holds inside typed free was e f g h k = (g k.1, f refl k.0)
by_way inline.Shown x s l holds inside typed free was e f g h k = inl (h k, in_no_link x holds e)
by_way inline.PageLink x s l holds inside typed free was e f g h k = (e, inl (h k))
by_way inline.ExternalLink x s l holds inside typed free was e f g h k = (e, inl (h k))
by_way inline.Tag x s l holds inside typed free was e f g h k = inl (h k, in_no_link x holds e)
by_way inline.Break x s l holds inside typed free was e f g h k = inl (h k, in_no_link x holds e)
by_way inline.AsItStood x s l holds inside typed free was e f g h k = (h k, in_no_link x holds e)

below_free : (x : Surroundings) (w : InlineForm) → x.in_link ≡ false → is_link w ≡ false → (below x w).in_link ≡ false
below_free x w e f = rw (e, f) refl

mutual
  edit_is_content : (same : Tree → Tree → Bool) (old : Tree) (x : Surroundings) (t : Tree) → TellsSame same → x.in_link ≡ false
      → IsTextEdit old x.in_paragraph t → IsContent (page_of same old) x t
  edit_is_content same old x (tree l ts) tells e h =
      let w = (edit_shape l.kind).inline in
      let p = page_of same old in
      by_way w x (standing p (tree l ts)) l (holds_link (tree l ts)) (AreContent p (below x w) ts) (AreTextEdits old false ts)
      (TakesNoPlace (kept_with l.id (kept_nodes old))) (IsAsItWas old (tree l ts)) e
      (λ f k. edits_are_content same old (below x w) ts tells (below_free x w e f) k)
      (leaves_fixed p (tree l ts) (kept_with l.id (kept_nodes old))) (stands_same same old (tree l ts) tells) h

  edits_are_content : (same : Tree → Tree → Bool) (old : Tree) (x : Surroundings) (ts : Trees) → TellsSame same → x.in_link ≡ false
      → AreTextEdits old x.in_paragraph ts → AreContent (page_of same old) x ts
  edits_are_content same old x none tells e h = tt
  edits_are_content same old x (more t ts) tells e h =
      (edit_is_content same old x t tells e h.0, edits_are_content same old x ts tells e h.1)

pub text_edits_stand : (same : Tree → Tree → Bool) (old new : Tree) → TellsSame same → AreTextEdits old (outermost old).in_paragraph (held new)
    → bad_content same old new ≡ None
text_edits_stand same old new tells h =
    grammar_is_taken same old new (edits_are_content same old (outermost old) (held new) tells refl h)
