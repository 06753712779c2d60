-- What is read of HTML may be sent for a page: it holds no more than the laws of edits ask.
use Rattle.std.proofs.Common.{arith, ◌≡◌, ◌⊎◌, ◌≤◌, ℕ, suc, Bool, true, false, List, [], ◌∷◌, ◌++◌, length, refl, sym, ap, ap₂, ◌∙◌, subst, inl, inr}
use Rattle.std.specs.Prelude.{◌==◌, ◌||◌, not, if◌then◌else◌, Option, Some, None, MatchOption}
use Rattle.std.specs.List.{AllByRecursion, flat_map}
use Rattle.std.specs.Str.{IsUtf8}
use Rattle.wt_span.specs.Origins.{Expanded}
use Rattle.wt_span.specs.declared.limits.TheConstants.{PAGE_BYTES}
use Rattle.wt_tree.specs.declared.kind.AttrName.{AttrName}
use Rattle.wt_tree.specs.declared.kind.AttrName.TheVariants as attr
use Rattle.wt_tree.specs.declared.kind.Kind.{Kind}
use Rattle.wt_tree.specs.declared.kind.Kind.TheVariants as kind
use Rattle.wt_tree.specs.declared.kind.Mark.{Mark}
use Rattle.wt_tree.specs.declared.kind.Mark.TheVariants as marks
use Rattle.wt_tree.specs.declared.node.DataMw.{DataMw}
use Rattle.wt_tree.specs.declared.row.Texts.TheVariants.{Page as PageText}
use Rattle.wt_tree.specs.declared.row.Writing.{Writing}
use Rattle.wt_tree.specs.declared.row.Writing.TheVariants.{AsText, AsVoid, RoundCharacter, RoundChildren, AsSection, Unwritten}
use Rattle.wt_tree.specs.EditShapes.{edit_shape}
use Rattle.wt_tree.specs.Kinds.{order, fixed_attributes, showing, writing, texts_of_kind}
use Rattle.wt_tree.specs.Opened.{without_sections}
use Rattle.wt_tree.specs.Tiling.{is_group}
use Rattle.wt_tree.specs.Tree.{Label, Tree, tree, Trees, none, more, label}
use Rattle.wt_schema.specs.Data.{is_extension_of}
use Rattle.wt_schema.specs.Read.{page as as_page, read}
use Rattle.wt_schema.specs.Written.{value_at, is_extension_label, IsExtension, HasData, IsElementLabel, IsWrittenGroup, is_childless, NodeIsWritten, IsCutIn, WrittenIn, AllWrittenIn, PartIsWritten, PartIn, PartsIn, IsWritten}
use Rattle.wt_link_spelling.specs.Spelling.{children_of}
use Rattle.wt_checks.specs.Checked.{checked}
use Rattle.wt_checks.specs.Groups.{is_marked}
use Rattle.wt_checks.specs.Kept.{Kept, GroupAsItWas, NodeAsItWas, GroupKept, NodeKept, MarkKept}
use Rattle.wt_checks.specs.Places.{Place, placed, all_placed, places, number, kind_at, is_kept, is_body, is_content, page_of, parent_below}
use Rattle.wt_checks.specs.PutBack.{IsAsRead, IsOneBody}
use Rattle.wt_checks.specs.Tokens.{is_text}
use Rattle.wt_checks.specs.Unmarked.{is_compared}
use Rattle.wt_checks.proofs.EditedIsPage.{body_is}
use Rattle.wt_checks.proofs.Found.{found_has, body_no_group}
use Rattle.wt_checks.proofs.Lookups.{each_split, each_join}
use Rattle.wt_checks.proofs.WhatIsKept.{kept}
use Rattle.wt_expand.specs.Work.{Pages}
use Rattle.wt_page_round_trip.specs.PageTree.{page_tree}
use Rattle.wt_page_round_trip.proofs.OneBody.{read_is_one_body}
use Rattle.wt_page_round_trip.proofs.Pages.{page_written}
use Rattle.wt_slices.specs.Changes.{Pair, pair_with, is_edited, pair_at, marked}
use Rattle.wt_commands.specs.Answers.{refusal_of_page}
use Rattle.wt_called_edit_laws.specs.SentAsIs.{HasNumberedGroups, HaveNumberedGroups}
use Rattle.wt_inside_laws.specs.AsSent.{IsPlainPage, HasNoMore, IsReadFor}
use Rattle.wt_inside_laws.specs.RetypedPieces.{ReadBy, IsRead, AreRead, Utf8By, HasUtf8, AreUtf8}
use Rattle.wt_inside_laws.specs.TextEdits.{takes_text, IsRetyped}
use Rattle.wt_inside_laws.proofs.Groups.{either_way, inner_numbered, inner_unnumbered, written_ungrouped, block_ungrouped}
use Rattle.wt_inside_laws.proofs.MarkedBlocks.{all_unkept, page_groups}
use Rattle.wt_inside_laws.proofs.PageAlike.{page_plain}
use Rattle.wt_inside_laws.proofs.ReadNodes.{read_body}
use Rattle.wt_inside_laws.proofs.ReadRecuts.{IsReadLeaf, TextLeaf, AreTexts, IsReadNode, ReadTree, AllReadTrees}

not_both : {A : Type 0} (b : Bool) → b ≡ true → b ≡ false → A
not_both b e f = absurd (cc)

-- ---- each node of what is read

mutual
  each_read : (j : ℕ) (w : Bool) (t : Tree) → ReadTree t → AllByRecursion IsAsRead (placed j w t)
  each_read j w (tree l ts) h = (
    record { hidden = h.0.hidden; text = h.0.text; unnumbered = h.0.unnumbered },
    all_each_read (parent_below j l.id) (w || is_content l.mark) ts h.1,
  )

  all_each_read : (j : ℕ) (w : Bool) (ts : Trees) → AllReadTrees ts → AllByRecursion IsAsRead (all_placed j w ts)
  all_each_read j w none h = tt
  all_each_read j w (more t ts) h =
      each_join IsAsRead (placed j w t) (all_placed j w ts) (each_read j w t h.0) (all_each_read j w ts h.1)

mutual
  each_tree : (j : ℕ) (w : Bool) (t : Tree) → ReadTree t → AllByRecursion (λ p. ReadTree p.node) (placed j w t)
  each_tree j w (tree l ts) h = (h, all_each_tree (parent_below j l.id) (w || is_content l.mark) ts h.1)

  all_each_tree : (j : ℕ) (w : Bool) (ts : Trees) → AllReadTrees ts → AllByRecursion (λ p. ReadTree p.node) (all_placed j w ts)
  all_each_tree j w none h = tt
  all_each_tree j w (more t ts) h =
      each_join (λ p. ReadTree p.node) (placed j w t) (all_placed j w ts) (each_tree j w t h.0) (all_each_tree j w ts h.1)

body_node : (l : Label) (ts : Trees) → l.kind ≡ kind.Body → l.mw ≡ None → IsReadNode l ts
body_node l ts e m = record {
  hidden = λ c. not_both (is_compared (showing l.kind)) (ap (λ (k : Kind). is_compared (showing k)) e) c;
  text = λ c. not_both (is_text (writing l.kind)) c (ap (λ (k : Kind). is_text (writing k)) e);
  unnumbered = λ c. not_both (is_text (writing l.kind)) c (ap (λ (k : Kind). is_text (writing k)) e);
  texts = λ g p. absurd (no_page (sym (ap texts_of_kind e) ∙ p));
  plain = λ g f. m;
}
  where
    no_page : texts_of_kind kind.Body ≡ PageText → ⊥
    no_page p = absurd (cc)

-- ---- each node of a page has data where an extension has

abbrev HasOwnData : Place → Type 0
HasOwnData q = is_kept q ≡ true → is_group (kind_at q) ≡ false → (label q.node).mw ≡ None → is_extension_label (label q.node) ≡ false

-- nothing is asked of what has no number
unkept_data : (qs : List Place) → AllByRecursion (λ q. is_kept q ≡ false) qs → AllByRecursion HasOwnData qs
unkept_data [] h = tt
unkept_data (q ∷ qs) h = ((λ k. not_both (is_kept q) k h.0), unkept_data qs h.1)

text_plain : (k : Kind) (v : Option (List ℕ)) → writing k ≡ AsText → is_extension_of k v ≡ false
text_plain kind.Text v e = refl
text_plain kind.Sep v e = refl
text_plain k v e = absurd (cc)

section_plain : (k : Kind) (n : ℕ) (v : Option (List ℕ)) → writing k ≡ AsSection n → is_extension_of k v ≡ false
section_plain (kind.Section m) n v e = refl
section_plain k n v e = absurd (cc)

some_data : (b : Bool) (d : Option DataMw) → HasData b d → d ≡ None → b ≡ false
some_data true d h e = absurd (subst IsExtension e h)
some_data false d h e = refl

childless : (ts : Trees) → is_childless ts ≡ true → ts ≡ none
childless none e = refl
childless (more t ts) e = absurd (cc)

element_place : (i : ℕ) (v : Bool) (l : Label) (ts : Trees) → IsElementLabel l → AllByRecursion HasOwnData (all_placed (parent_below i l.id) (v || is_content l.mark) ts)
    → AllByRecursion HasOwnData (placed i v (tree l ts))
element_place i v l ts h r = ((λ k g e. some_data (is_extension_label l) l.mw h.mw e), r)

node_place : (w : Writing) (i : ℕ) (v : Bool) (k : ℕ) (parent : Kind) (l : Label) (ts : Trees) → writing l.kind ≡ w → HasNumberedGroups (tree l ts)
    → NodeIsWritten w k parent l (is_childless ts) (IsCutIn (texts_of_kind l.kind) ts × AllWrittenIn (suc k) l.kind ts) (IsWrittenGroup k parent l ts)
    → (is_group l.kind ≡ false → AllWrittenIn (suc k) l.kind ts → AllByRecursion HasOwnData (all_placed (parent_below i l.id) (v || is_content l.mark) ts))
    → AllByRecursion HasOwnData (placed i v (tree l ts))
node_place AsText i v k parent l ts e g h r = (
  λ c n m. text_plain l.kind (value_at (order attr.Typeof) (fixed_attributes l.kind ++ l.attrs)) e,
  subst (λ (us : Trees). AllByRecursion HasOwnData (all_placed (parent_below i l.id) (v || is_content l.mark) us)) (sym (childless ts h.1)) tt,
)
node_place AsVoid i v k parent l ts e g h r = element_place i v l ts h.2 (r (written_ungrouped l.kind AsVoid e (λ x. absurd (cc))) h.4.1)
node_place RoundCharacter i v k parent l ts e g h r =
    element_place i v l ts h.2 (r (written_ungrouped l.kind RoundCharacter e (λ x. absurd (cc))) h.4.1)
node_place RoundChildren i v k parent l ts e g h r =
    element_place i v l ts h.2 (r (written_ungrouped l.kind RoundChildren e (λ x. absurd (cc))) h.4.1)
node_place (AsSection n) i v k parent l ts e g h r = absurd h
node_place Unwritten i v k parent l ts e g h r =
    let group : is_group l.kind ≡ true = ap is_group h.label.kind in (
      λ c n m. not_both (is_group l.kind) group n,
      unkept_data (all_placed (parent_below i l.id) (v || is_content l.mark) ts)
          (all_unkept (parent_below i l.id) (v || is_content l.mark) ts (inner_unnumbered l ts g group)),
    )

mutual
  written_place : (i : ℕ) (v : Bool) (k : ℕ) (parent : Kind) (t : Tree) → WrittenIn k parent t → HasNumberedGroups t
      → AllByRecursion HasOwnData (placed i v t)
  written_place i v k parent (tree l ts) h g =
      node_place (writing l.kind) i v k parent l ts refl g h
      (λ n a. all_written_place (parent_below i l.id) (v || is_content l.mark) (suc k) l.kind ts a (inner_numbered l ts g n))

  all_written_place : (i : ℕ) (v : Bool) (k : ℕ) (parent : Kind) (ts : Trees) → AllWrittenIn k parent ts → HaveNumberedGroups ts
      → AllByRecursion HasOwnData (all_placed i v ts)
  all_written_place i v k parent none h g = tt
  all_written_place i v k parent (more t ts) h g =
      each_join HasOwnData (placed i v t) (all_placed i v ts) (written_place i v k parent t h.0 g.0) (all_written_place i v k parent ts h.2 g.1)

part_by : (w : Writing) (i : ℕ) (v : Bool) (k : ℕ) (parent : Kind) (l : Label) (ts : Trees) → writing l.kind ≡ w
    → PartIsWritten w k (PartsIn (suc k) (kind.Section 0) ts) (WrittenIn k parent (tree l ts))
    → (is_group l.kind ≡ false → PartsIn (suc k) (kind.Section 0) ts → AllByRecursion HasOwnData (all_placed (parent_below i l.id) (v || is_content l.mark) ts))
    → (WrittenIn k parent (tree l ts) → AllByRecursion HasOwnData (placed i v (tree l ts))) → AllByRecursion HasOwnData (placed i v (tree l ts))
part_by AsText i v k parent l ts e h r f = f h
part_by AsVoid i v k parent l ts e h r f = f h
part_by RoundCharacter i v k parent l ts e h r f = f h
part_by RoundChildren i v k parent l ts e h r f = f h
part_by (AsSection n) i v k parent l ts e h r f = (
  (λ c g m. section_plain l.kind n (value_at (order attr.Typeof) (fixed_attributes l.kind ++ l.attrs)) e),
  r (written_ungrouped l.kind (AsSection n) e (λ x. absurd (cc))) h.2,
)
part_by Unwritten i v k parent l ts e h r f = f h

mutual
  part_place : (i : ℕ) (v : Bool) (k : ℕ) (parent : Kind) (t : Tree) → PartIn k parent t → HasNumberedGroups t → AllByRecursion HasOwnData (placed i v t)
  part_place i v k parent (tree l ts) h g =
      part_by (writing l.kind) i v k parent l ts refl h
      (λ n a. parts_place (parent_below i l.id) (v || is_content l.mark) (suc k) (kind.Section 0) ts a (inner_numbered l ts g n))
      (λ a. written_place i v k parent (tree l ts) a g)

  parts_place : (i : ℕ) (v : Bool) (k : ℕ) (parent : Kind) (ts : Trees) → PartsIn k parent ts → HaveNumberedGroups ts
      → AllByRecursion HasOwnData (all_placed i v ts)
  parts_place i v k parent none h g = tt
  parts_place i v k parent (more t ts) h g =
      each_join HasOwnData (placed i v t) (all_placed i v ts) (part_place i v k parent t h.0 g.0) (parts_place i v k parent ts h.2 g.1)

page_places : (t : Tree) → IsWritten t → HasNumberedGroups t → is_group (label t).kind ≡ false → AllByRecursion HasOwnData (places t)
page_places (tree l ts) h g n =
    element_place 0 false l ts h.1 (parts_place (parent_below 0 l.id) (is_content l.mark) 2 kind.Body ts h.2 (inner_numbered l ts g n))

-- ---- no more data

same_extension : (l m : Label) → l.kind ≡ m.kind → l.attrs ≡ m.attrs → is_extension_label l ≡ is_extension_label m
same_extension l m k a =
    ap₂ (λ (j : Kind) (xs : List (AttrName × List ℕ)). is_extension_of j (value_at (order attr.Typeof) (fixed_attributes j ++ xs))) k a

kept_of_page : (n : ℕ) (k : Kind) → not (n == 0) ≡ true → (not (n == 0) || is_body k) ≡ true
kept_of_page n k e = ap (λ (b : Bool). b || is_body k) e

more_by : (o : Option Place) (p : Place) → (is_group (kind_at p) ≡ false → is_extension_label (label p.node) ≡ false → (label p.node).mw ≡ None)
    → MatchOption o (Unit {0}) (λ q. is_group (kind_at q) ≡ true → GroupAsItWas false q.node p.node)
    → MatchOption o (Unit {0}) (λ q. is_group (kind_at q) ≡ false → NodeAsItWas q.node p.node)
    → ((q : Place) → o ≡ Some q → HasOwnData q × (is_kept q ≡ true)) → MatchOption o (Unit {0}) (λ q. (label q.node).mw ≡ None → (label p.node).mw ≡ None)
more_by None p plain s h f = tt
more_by (Some q) p plain s h f = λ m. either_way (is_group (kind_at q)) (λ g. same_values (label q.node).mw (label p.node).mw (s g).mw ∙ m)
    (λ g. let was : NodeAsItWas q.node p.node = h g in
    let a = f q refl in
    plain (sym (ap is_group was.kind) ∙ g) (sym (same_extension (label q.node) (label p.node) was.kind was.attrs) ∙ a.0 a.1 g m))
  where
    same_values : (c d : Option DataMw) → (false ≡ true) ⊎ (c ≡ d) → d ≡ c
    same_values c d (inl e) = absurd (cc)
    same_values c d (inr e) = sym e

read_plain : (t : Tree) → ReadTree t → is_group (label t).kind ≡ false → is_extension_label (label t) ≡ false → (label t).mw ≡ None
read_plain (tree l ts) h = h.0.plain

no_more_at : (t : Tree) (ps : List Place) → AllByRecursion HasOwnData (places t) → AllByRecursion (GroupKept false (page_of t)) ps
    → AllByRecursion (NodeKept (page_of t)) ps → AllByRecursion (λ p. ReadTree p.node) ps → AllByRecursion (HasNoMore (page_of t)) ps
no_more_at t [] d g k r = tt
no_more_at t (p ∷ ps) d g k r = (
  λ e out. more_by (page_of t (number p)) p (read_plain p.node r.0) (g.0 e) (k.0 (kept_of_page (number p) (kind_at p) e) out)
      (λ q f. let x = found_has HasOwnData (number p) q (places t) d f in (x.0, ap (λ (n : ℕ). not (n == 0)) x.1 ∙ e)),
  no_more_at t ps d g.1 k.1 r.1,
)

-- ---- what is sent in a block

leaf_or : (k : Kind) (l : Label) (ts : Trees) → l.kind ≡ k → (is_text (writing k) ≡ true → IsReadLeaf l × (ts ≡ none))
    → (is_group l.kind ≡ false → texts_of_kind k ≡ PageText → AreRead ts × AreUtf8 ts)
    → ReadBy (edit_shape k).inline l ts (AreRead ts) × Utf8By (edit_shape k).inline l (AreUtf8 ts)
leaf_or kind.Text l ts e f g =
    let r = f refl in (record { kind = r.0.kind; id = r.0.id; mark = r.0.mark; some = r.0.some; bare = r.1 }, r.0.utf8)
leaf_or kind.Sep l ts e f g = let r = f refl in let x : kind.Sep ≡ kind.Text = sym e ∙ r.0.kind in absurd (cc)
leaf_or kind.Bold l ts e f g = let r = g (ap is_group e) refl in (r.0, r.1)
leaf_or kind.Italic l ts e f g = let r = g (ap is_group e) refl in (r.0, r.1)
leaf_or k l ts e f g = (tt, tt)

mutual
  one_sent : (t : Tree) → ReadTree t → TextLeaf t → IsRead t × HasUtf8 t
  one_sent (tree l ts) h x = leaf_or l.kind l ts refl (λ c. (x c, h.0.text c)) (λ n p. all_sent ts h.1 (h.0.texts n p))

  all_sent : (ts : Trees) → AllReadTrees ts → AreTexts ts → AreRead ts × AreUtf8 ts
  all_sent none h x = (tt, tt)
  all_sent (more t ts) h x =
      let a = one_sent t h.0 x.0 in
      let b = all_sent ts h.1 x.1 in
      ((a.0, b.0), (a.1, b.1))

block_texts : (k : Kind) → takes_text (edit_shape k).form ≡ true → texts_of_kind k ≡ PageText
block_texts kind.Para e = refl
block_texts (kind.Heading n) e = refl
block_texts kind.Rule e = absurd (cc)
block_texts k e = absurd (cc)

block_sent : (u : Tree) → takes_text (edit_shape (label u).kind).form ≡ true → ReadTree u → AreRead (children_of u) × AreUtf8 (children_of u)
block_sent (tree m us) e h = all_sent us h.1 (h.0.texts (block_ungrouped m.kind e) (block_texts m.kind e))

abbrev IsReadBlock : Pair → Type 0
IsReadBlock p = AreRead (children_of p.new) × AreUtf8 (children_of p.new)

pair_sent : (same : Tree → Tree → Bool) (items : Expanded) (bytes : List ℕ) (o : Option Place) (u : Tree) → ReadTree u
    → MatchOption o (Unit {0}) (λ q. is_group (kind_at q) ≡ false → NodeAsItWas q.node u) → AllByRecursion (IsRetyped same items bytes) (pair_with o u)
    → AllByRecursion IsReadBlock (pair_with o u)
pair_sent same items bytes None u h k r = tt
pair_sent same items bytes (Some q) u h k r =
    let was : NodeAsItWas q.node u = k (block_ungrouped (kind_at q) r.0.block) in
    (block_sent u (ap (λ (j : Kind). takes_text (edit_shape j).form) (sym was.kind) ∙ r.0.block) h, tt)

marked_so : (m : Mark) → is_edited m ≡ true → is_marked m ≡ true
marked_so marks.Nothing e = absurd (cc)
marked_so marks.Content e = refl
marked_so marks.Children e = refl
marked_so marks.Other e = absurd (cc)

pair_if : (same : Tree → Tree → Bool) (items : Expanded) (bytes : List ℕ) (t : Tree) (p : Place) (b : Bool) → is_edited (label p.node).mark ≡ b → ReadTree p.node
    → NodeKept (page_of t) p → MarkKept (page_of t) p
    → AllByRecursion (IsRetyped same items bytes) (if b then pair_with (page_of t (number p)) p.node else [])
    → AllByRecursion IsReadBlock (if b then pair_with (page_of t (number p)) p.node else [])
pair_if same items bytes t p true e h k m r =
    let w = m (marked_so (label p.node).mark e) in
    pair_sent same items bytes (page_of t (number p)) p.node h (k w.old w.outside) r
pair_if same items bytes t p false e h k m r = tt

pairs_sent : (same : Tree → Tree → Bool) (items : Expanded) (bytes : List ℕ) (t : Tree) (ps : List Place) → AllByRecursion (λ p. ReadTree p.node) ps
    → AllByRecursion (NodeKept (page_of t)) ps → AllByRecursion (MarkKept (page_of t)) ps
    → AllByRecursion (IsRetyped same items bytes) (flat_map (pair_at (page_of t)) ps) → AllByRecursion IsReadBlock (flat_map (pair_at (page_of t)) ps)
pairs_sent same items bytes t [] h k m r = tt
pairs_sent same items bytes t (p ∷ ps) h k m r =
    let s = each_split (IsRetyped same items bytes) (pair_at (page_of t) p) (flat_map (pair_at (page_of t)) ps) r in
    each_join IsReadBlock (pair_at (page_of t) p) (flat_map (pair_at (page_of t)) ps)
    (pair_if same items bytes t p (is_edited (label p.node).mark) refl h.0 k.0 m.0 s.0) (pairs_sent same items bytes t ps h.1 k.1 m.1 s.1)

-- ---- of a page

root_read : (t : Tree) → is_body (label t).kind ≡ true → ((label t).mw ≡ None) × AllReadTrees (children_of t) → ReadTree t
root_read (tree l ts) b h = (body_node l ts (body_is l.kind b) h.0, h.1)

root_kind : (t : Tree) → (label (without_sections t)).kind ≡ (label t).kind
root_kind (tree l ts) = refl

-- what is known of the page and of what was read for it
record AreKnown (t new : Tree) : Type 0 where
  plain : IsPlainPage t
  tree_read : ReadTree new
  keeps : Kept false t new

-- of a tree that is as what is read
known : (pages : Pages) (page : List ℕ) (new : Tree) → IsUtf8 page → length page ≤ PAGE_BYTES → refusal_of_page pages page ≡ None
    → IsOneBody new → ReadTree new → checked false (page_tree pages page) new ≡ None → AreKnown (page_tree pages page) new
known pages page new utf8 le r one h c =
    let t : Tree = page_tree pages page in
    let plain = page_plain pages page utf8 le r in
    record {
      plain = plain;
      tree_read = h;
      keeps = kept false t new (sym (root_kind t) ∙ body_is (label (without_sections t)).kind plain.one.root) plain.numbered c;
    }

pub tree_for : (pages : Pages) (page : List ℕ) (new : Tree) → IsUtf8 page → length page ≤ PAGE_BYTES → refusal_of_page pages page ≡ None
    → IsOneBody new → ReadTree new → checked false (page_tree pages page) new ≡ None → IsReadFor (page_tree pages page) new
tree_for pages page new utf8 le r one h c =
    let t : Tree = page_tree pages page in
    let k = known pages page new utf8 le r one h c in
    let written = page_written pages page utf8 (omega (arith, le)) r in
    let open_root : is_group (label t).kind ≡ false = sym (ap is_group (root_kind t)) ∙ body_no_group (label (without_sections t)).kind k.plain.one.root in
    record {
      one = one;
      read = each_read 0 false new k.tree_read;
      no_more =
          no_more_at t (places new) (page_places t written (page_groups t k.plain) open_root) k.keeps.groups k.keeps.nodes (each_tree 0 false new k.tree_read);
    }

pub tree_blocks : (same : Tree → Tree → Bool) (items : Expanded) (bytes : List ℕ) (pages : Pages) (page : List ℕ) (new : Tree) → IsUtf8 page
    → length page ≤ PAGE_BYTES → refusal_of_page pages page ≡ None → IsOneBody new → ReadTree new → checked false (page_tree pages page) new ≡ None
    → AllByRecursion (IsRetyped same items bytes) (marked (page_tree pages page) new)
    → AllByRecursion (λ p. AreRead (children_of p.new) × AreUtf8 (children_of p.new)) (marked (page_tree pages page) new)
tree_blocks same items bytes pages page new utf8 le r one h c b =
    let t : Tree = page_tree pages page in
    let k = known pages page new utf8 le r one h c in
    pairs_sent same items bytes t (places new) (each_tree 0 false new k.tree_read) k.keeps.nodes k.keeps.marks b

-- what is read
pub tree_read : (input : List ℕ) (new : Tree) (u : Option ℕ) → read input ≡ as_page new u → ReadTree new
tree_read input new u e = let one : IsOneBody new = read_is_one_body input new u e in root_read new one.root (read_body input new u e)

pub read_for : (pages : Pages) (page input : List ℕ) (new : Tree) (u : Option ℕ) → IsUtf8 page → length page ≤ PAGE_BYTES → refusal_of_page pages page ≡ None
    → read input ≡ as_page new u → checked false (page_tree pages page) new ≡ None → IsReadFor (page_tree pages page) new
read_for pages page input new u utf8 le r e c = tree_for pages page new utf8 le r (read_is_one_body input new u e) (tree_read input new u e) c

pub read_blocks : (same : Tree → Tree → Bool) (items : Expanded) (bytes : List ℕ) (pages : Pages) (page input : List ℕ) (new : Tree) (u : Option ℕ) → IsUtf8 page
    → length page ≤ PAGE_BYTES → refusal_of_page pages page ≡ None → read input ≡ as_page new u → checked false (page_tree pages page) new ≡ None
    → AllByRecursion (IsRetyped same items bytes) (marked (page_tree pages page) new)
    → AllByRecursion (λ p. AreRead (children_of p.new) × AreUtf8 (children_of p.new)) (marked (page_tree pages page) new)
read_blocks same items bytes pages page input new u utf8 le r e c b =
    tree_blocks same items bytes pages page new utf8 le r (read_is_one_body input new u e) (tree_read input new u e) c b
