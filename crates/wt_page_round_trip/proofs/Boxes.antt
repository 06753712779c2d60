-- Elements round what stands in them, whatever their kind; and rules.
use Rattle.std.proofs.Common.{◌≡◌, ℕ, suc, ◌<◌, true, false, None, List, [], ◌++◌, IsUtf8, refl, sym, ap, subst, arith, append-nil}
use Rattle.std.specs.Prelude.{◌||◌, not}
use Rattle.std.specs.List.{AllByRecursion}
use Rattle.wt_span.specs.Items.{Item, sources}
use Rattle.wt_tree.specs.declared.kind.AttrName.{AttrName}
use Rattle.wt_tree.specs.declared.kind.Kind.{Kind}
use Rattle.wt_tree.specs.declared.kind.Kind.TheVariants as kind
use Rattle.wt_tree.specs.declared.kind.Showing.TheVariants.{Element}
use Rattle.wt_tree.specs.declared.row.Writing.TheVariants.{RoundChildren}
use Rattle.wt_tree.specs.declared.row.Placement.{Placement}
use Rattle.wt_tree.specs.declared.row.Holding.{Holding}
use Rattle.wt_tree.specs.declared.row.Texts.{Texts}
use Rattle.wt_tree.specs.declared.row.Texts.TheVariants.{Separators}
use Rattle.wt_tree.specs.declared.row.Payload.TheVariants.{NoData}
use Rattle.wt_tree.specs.declared.row.Shape.{Shape}
use Rattle.wt_tree.specs.Tree.{Label, Trees}
use Rattle.wt_tree.specs.Tiling.{is_group}
use Rattle.wt_tree.specs.Kinds.{row, shape, writing, showing, texts_of_kind, is_leaf, is_section, may_hold, spelling}
use Rattle.wt_schema.specs.Rows.{shows_text}
use Rattle.wt_schema.specs.Written.{has_level, HasSource, IsShown, HasAttributes, HasData, is_extension_label, is_childless}
use Rattle.wt_inline.specs.ItemTree.{plain, ItemTrees, inner, leaf, forest, held_by_all}
use Rattle.wt_inline.specs.Parts.{Part, children}
use Rattle.wt_annotated.specs.Labels.{label_at}
use Rattle.wt_annotated.specs.WithoutCalls.{inside_by}
use Rattle.wt_annotated.specs.Annotated.{no_place, all_unplaced}
use Rattle.wt_page_round_trip.proofs.InlineNodes.{with_attrs}
use Rattle.wt_page_round_trip.proofs.OfPage.{ArePageItems, no_page_items, page_utf8}
use Rattle.wt_page_round_trip.proofs.OwnNodes.{HasOrigin}
use Rattle.wt_page_round_trip.proofs.PageNodes.{is_words, ArePageNodes, children_nodes}
use Rattle.wt_page_round_trip.proofs.Parts.{IsWrittenNode, children_shown}
use Rattle.wt_page_round_trip.proofs.ShownNodes.{IsShownLabel, NodeIsShown, IsOrdered, AreShownIn}
use Rattle.wt_page_round_trip.proofs.Separated.{IsPartIn, TakesSeparators, separated_parts, separated_shown}

-- children that are written in a node of this kind, as its texts ask
abbrev pub IsInside : ℕ → Kind → ItemTrees → Type 0
IsInside k parent ts = ArePageNodes ts × IsOrdered (texts_of_kind parent) (all_unplaced ts) × AreShownIn k parent (all_unplaced ts)

-- a kind of element with children and a number
pub record IsRound (q : Kind) : Type 0 where
  pub class : Placement
  pub holding : Holding
  pub texts : Texts
  pub shape_is : shape q ≡ row RoundChildren false true Element class holding texts NoData
  pub level : has_level q ≡ true
  pub shows : shows_text q ≡ false

-- an element of this kind with its delimiters
pub record IsBox (q : Kind) (named : List (AttrName × List ℕ)) (front back : List Item) : Type 0 where
  pub attrs : HasAttributes q named
  pub opening : ArePageItems front
  pub closing : ArePageItems back

-- what is written round its children as an element is no section
no_section : (q : Kind) → writing q ≡ RoundChildren → is_section q ≡ false
no_section (kind.Section n) e = absurd cc
no_section q e = refl

box_label : (q : Kind) → (r : IsRound q) → (attrs : List (AttrName × List ℕ)) (opening own closing : List Item)
    → IsBox q attrs opening closing → IsShownLabel (no_place (label_at 0 0 false (with_attrs q attrs) opening own closing))
unfolding label_at
box_label q r attrs opening own closing b =
    let l : Label = no_place (label_at 0 0 false (with_attrs q attrs) opening own closing) in
    let inner_node : is_leaf q ≡ false = ap (λ (y : Shape). y.is_leaf) r.shape_is in
    let no_data : is_extension_label l ≡ false = extends in
    record {
      element = no_section q (ap (λ (y : Shape). y.writing) r.shape_is);
      level = r.level;
      source = subst (λ v. HasSource v l) (sym inner_node)
          (record { own = refl; opening = page_utf8 opening b.opening; closing = page_utf8 closing b.closing });
      shown = subst (λ v. IsShown v []) (sym r.shows) refl;
      attrs = b.attrs;
      origin = refl;
      mark = refl;
      mw = subst (λ v. HasData v None) (sym no_data) refl;
    }
  where
    extends : is_extension_label (no_place (label_at 0 0 false (with_attrs q attrs) opening own closing)) ≡ false
    extends = rw r.shape_is refl

no_group : (q : Kind) → writing q ≡ RoundChildren → is_group q ≡ false
no_group kind.Group e = absurd cc
no_group q e = refl

no_words : (q : Kind) → writing q ≡ RoundChildren → is_words q ≡ false
no_words kind.Text e = absurd cc
no_words kind.Sep e = absurd cc
no_words q e = refl

-- neither a `nowiki` nor the mark of an empty call
no_origin : (q : Kind) (opening : List Item) (ts : ItemTrees) (closing : List Item) → showing q ≡ Element → HasOrigin q opening ts closing
no_origin kind.Empty opening ts closing e = absurd cc
no_origin kind.Nowiki opening ts closing e = absurd cc
no_origin q opening ts closing e = tt

pub box_written : (k : ℕ) (parent q : Kind) → (r : IsRound q) → (attrs : List (AttrName × List ℕ))
    (opening closing : List Item) → IsBox q attrs opening closing → (ts : ItemTrees) → k < 199 → may_hold parent q ≡ true
    → IsInside (suc k) q ts → IsWrittenNode k parent (inner (with_attrs q attrs) opening ts closing)
unfolding label_at
box_written k parent q r attrs opening closing b ts small holds inside = record {
  element = no_words q (ap (λ (y : Shape). y.writing) r.shape_is);
  shown =
      let own : List Item = opening ++ (held_by_all ts ++ closing) in
      let us : Trees = all_unplaced ts in
      let l : IsShownLabel (no_place (label_at 0 0 false (with_attrs q attrs) opening own closing)) = box_label q r attrs opening own closing b in
      subst (λ (y : Shape).
      NodeIsShown y.writing k parent (no_place (label_at 0 0 y.is_leaf (with_attrs q attrs) opening own closing))
      (is_childless (inside_by y.is_leaf us))
      (IsOrdered y.texts (inside_by y.is_leaf us) × AreShownIn (suc k) q (inside_by y.is_leaf us)))
      (sym r.shape_is)
      (written_box own us l (subst (λ (y : Shape). IsOrdered y.texts us) r.shape_is inside.1) inside.2);
  page = (
    b.opening,
    b.closing,
    no_group q (ap (λ (y : Shape). y.writing) r.shape_is),
    inside.0,
    no_origin q opening ts closing (ap (λ (y : Shape). y.showing) r.shape_is),
  );
}
  where
    written_box : (own : List Item) (us : Trees) → IsShownLabel (no_place (label_at 0 0 false (with_attrs q attrs) opening own closing))
        → IsOrdered r.texts us → AreShownIn (suc k) q us
        → NodeIsShown RoundChildren k parent (no_place (label_at 0 0 false (with_attrs q attrs) opening own closing)) (is_childless us)
        (IsOrdered r.texts us × AreShownIn (suc k) q us)
    written_box own us l i w =
        (omega (arith, small), holds, l, ap (λ (y : Shape). not y.is_leaf || is_childless us) r.shape_is, (i, w))

-- ---- what holds no text of its own

pub record HoldsSeparators (q : Kind) : Type 0 where
  pub texts : texts_of_kind q ≡ Separators
  pub takes : TakesSeparators q

pub separated_inside : (k : ℕ) (q : Kind) → HoldsSeparators q → (ps : List Part) → AllByRecursion (IsPartIn k q) ps → IsInside k q (forest (children ps))
separated_inside k q s ps a = (
  children_nodes ps (separated_parts k q ps a),
  subst (λ x. IsOrdered x (all_unplaced (forest (children ps)))) (sym s.texts) tt,
  children_shown k q ps (separated_parts k q ps a) (separated_shown k q s.takes ps a),
)

-- ---- rules

pub rule_written : (k : ℕ) (parent : Kind) (own : List Item) → k < 200 → may_hold parent kind.Rule ≡ true → ArePageItems own
    → IsWrittenNode k parent (leaf (plain kind.Rule) own)
unfolding label_at spelling
rule_written k parent own small holds u = record {
  element = refl;
  shown = (
    small,
    holds,
    record {
      element = refl;
      level = refl;
      source = record { own = subst (λ xs. IsUtf8 (sources xs)) (sym (append-nil own)) (page_utf8 own u); opening = refl; closing = refl };
      shown = refl;
      attrs = refl;
      origin = refl;
      mark = refl;
      mw = refl;
    },
    refl,
    (tt, tt),
  );
  page = (u, no_page_items, refl, tt, tt);
}
