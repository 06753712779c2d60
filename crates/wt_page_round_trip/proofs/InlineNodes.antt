-- Nodes of a line that may stand in a page: styles, links and tags, with what they hold; and tiles that are kept whole.
use Rattle.std.proofs.Common.{ℕ, suc, ◌<◌, ◌≤◌, List, [], ◌∷◌, None, IsUtf8, refl, sym, subst, arith, append-nil}
use Rattle.wt_span.specs.Items.{Item, sources}
use Rattle.wt_tree.specs.declared.kind.AttrName.{AttrName}
use Rattle.wt_tree.specs.declared.kind.AttrName.TheVariants as attr
use Rattle.wt_tree.specs.declared.kind.Kind.{Kind}
use Rattle.wt_tree.specs.declared.kind.Kind.TheVariants as kind
use Rattle.wt_span.specs.declared.tag_name.TagName.{TagName}
use Rattle.wt_tree.specs.Kinds.{shape, spelling, is_anywhere}
use Rattle.wt_tree.specs.Values.{placeholder as placeholder_type, extension_prefix}
use Rattle.wt_schema.specs.Written.{HasAttributes}
use Rattle.wt_inline.specs.Carried.{placeholder_typeof}
use Rattle.wt_inline.specs.ItemTree.{Head, ItemTree, ItemTrees, nothing, leaf, inner, forest}
use Rattle.wt_inline.specs.Parts.{Part, children}
use Rattle.wt_annotated.specs.Annotated.{unplaced}
use Rattle.wt_annotated.specs.Labels.{label_at}
use Rattle.wt_page_round_trip.proofs.OfPage.{ArePageItems, no_page_items, page_utf8}
use Rattle.wt_page_round_trip.proofs.PageNodes.{IsPageNode, ArePageNodes, children_nodes, node_utf8}
use Rattle.wt_page_round_trip.proofs.Parts.{children_shown}
use Rattle.wt_page_round_trip.proofs.ShownNodes.{IsShownIn}
use Rattle.wt_page_round_trip.proofs.Forms.{island_type}
use Rattle.wt_page_round_trip.proofs.Inline.{IsInlineParent, or_right, bold_parent}
use Rattle.wt_page_round_trip.proofs.WrittenParts.{FitsIn, NodeFits}

-- ---- nodes with an inside

abbrev pub with_attrs : Kind → List (AttrName × List ℕ) → Head
with_attrs k attrs = record { kind = k; shown = []; attrs = attrs; mw = None }

abbrev pub round : Head → List Item → List Part → List Item → ItemTree
round h opening ps closing = inner h opening (forest (children ps)) closing

-- what stands in such a node, and its delimiters
pub record IsFilled (most : ℕ) (before : List Item) (ps : List Part) (after : List Item) : Type 0 where
  pub opening : ArePageItems before
  pub closing : ArePageItems after
  pub inside : FitsIn (suc most) ps
  pub small : most < 199

bold_shown : (most : ℕ) (opening closing : List Item) (ps : List Part) → IsFilled most opening ps closing
    → (k : ℕ) (parent : Kind) → k ≤ most → IsInlineParent parent → IsShownIn k parent (unplaced (round (with_attrs kind.Bold []) opening ps closing))
unfolding label_at spelling
bold_shown most opening closing ps f k parent le p = (
  omega (arith, f.small, le),
  p.elements kind.Bold refl,
  record {
    element = refl;
    level = refl;
    source = record { own = refl; opening = page_utf8 opening f.opening; closing = page_utf8 closing f.closing };
    shown = refl;
    attrs = refl;
    origin = refl;
    mark = refl;
    mw = refl;
  },
  refl,
  (tt, children_shown (suc k) kind.Bold ps f.inside.parts (f.inside.shown (suc k) kind.Bold (omega (arith, le)) bold_parent)),
)

pub bold_node : (most : ℕ) (opening closing : List Item) (ps : List Part) → IsFilled most opening ps closing
    → NodeFits most (round (with_attrs kind.Bold []) opening ps closing)
bold_node most opening closing ps f = record {
  page = (f.opening, f.closing, refl, children_nodes ps f.inside.parts, tt);
  element = refl;
  shown = bold_shown most opening closing ps f;
}

italic_parent : IsInlineParent kind.Italic
italic_parent = record { text = refl; elements = λ k h. or_right (is_anywhere (shape k).class) _ h }

italic_shown : (most : ℕ) (opening closing : List Item) (ps : List Part) → IsFilled most opening ps closing
    → (k : ℕ) (parent : Kind) → k ≤ most → IsInlineParent parent → IsShownIn k parent (unplaced (round (with_attrs kind.Italic []) opening ps closing))
unfolding label_at spelling
italic_shown most opening closing ps f k parent le p = (
  omega (arith, f.small, le),
  p.elements kind.Italic refl,
  record {
    element = refl;
    level = refl;
    source = record { own = refl; opening = page_utf8 opening f.opening; closing = page_utf8 closing f.closing };
    shown = refl;
    attrs = refl;
    origin = refl;
    mark = refl;
    mw = refl;
  },
  refl,
  (tt, children_shown (suc k) kind.Italic ps f.inside.parts (f.inside.shown (suc k) kind.Italic (omega (arith, le)) italic_parent)),
)

pub italic_node : (most : ℕ) (opening closing : List Item) (ps : List Part) → IsFilled most opening ps closing
    → NodeFits most (round (with_attrs kind.Italic []) opening ps closing)
italic_node most opening closing ps f = record {
  page = (f.opening, f.closing, refl, children_nodes ps f.inside.parts, tt);
  element = refl;
  shown = italic_shown most opening closing ps f;
}

wiki_link_parent : IsInlineParent kind.WikiLink
wiki_link_parent = record { text = refl; elements = λ k h. or_right (is_anywhere (shape k).class) _ h }

wiki_link_shown : (most : ℕ) (attrs : List (AttrName × List ℕ)) → HasAttributes kind.WikiLink attrs
    → (opening closing : List Item) (ps : List Part) → IsFilled most opening ps closing
    → (k : ℕ) (parent : Kind) → k ≤ most → IsInlineParent parent → IsShownIn k parent (unplaced (round (with_attrs kind.WikiLink attrs) opening ps closing))
unfolding label_at spelling
wiki_link_shown most attrs good opening closing ps f k parent le p = (
  omega (arith, f.small, le),
  p.elements kind.WikiLink refl,
  record {
    element = refl;
    level = refl;
    source = record { own = refl; opening = page_utf8 opening f.opening; closing = page_utf8 closing f.closing };
    shown = refl;
    attrs = good;
    origin = refl;
    mark = refl;
    mw = refl;
  },
  refl,
  (tt, children_shown (suc k) kind.WikiLink ps f.inside.parts (f.inside.shown (suc k) kind.WikiLink (omega (arith, le)) wiki_link_parent)),
)

pub wiki_link_node : (most : ℕ) (attrs : List (AttrName × List ℕ)) → HasAttributes kind.WikiLink attrs
    → (opening closing : List Item) (ps : List Part) → IsFilled most opening ps closing
    → NodeFits most (round (with_attrs kind.WikiLink attrs) opening ps closing)
wiki_link_node most attrs good opening closing ps f = record {
  page = (f.opening, f.closing, refl, children_nodes ps f.inside.parts, tt);
  element = refl;
  shown = wiki_link_shown most attrs good opening closing ps f;
}

ext_link_parent : IsInlineParent kind.ExtLink
ext_link_parent = record { text = refl; elements = λ k h. or_right (is_anywhere (shape k).class) _ h }

ext_link_shown : (most : ℕ) (attrs : List (AttrName × List ℕ)) → HasAttributes kind.ExtLink attrs
    → (opening closing : List Item) (ps : List Part) → IsFilled most opening ps closing
    → (k : ℕ) (parent : Kind) → k ≤ most → IsInlineParent parent → IsShownIn k parent (unplaced (round (with_attrs kind.ExtLink attrs) opening ps closing))
unfolding label_at spelling
ext_link_shown most attrs good opening closing ps f k parent le p = (
  omega (arith, f.small, le),
  p.elements kind.ExtLink refl,
  record {
    element = refl;
    level = refl;
    source = record { own = refl; opening = page_utf8 opening f.opening; closing = page_utf8 closing f.closing };
    shown = refl;
    attrs = good;
    origin = refl;
    mark = refl;
    mw = refl;
  },
  refl,
  (tt, children_shown (suc k) kind.ExtLink ps f.inside.parts (f.inside.shown (suc k) kind.ExtLink (omega (arith, le)) ext_link_parent)),
)

pub ext_link_node : (most : ℕ) (attrs : List (AttrName × List ℕ)) → HasAttributes kind.ExtLink attrs
    → (opening closing : List Item) (ps : List Part) → IsFilled most opening ps closing
    → NodeFits most (round (with_attrs kind.ExtLink attrs) opening ps closing)
ext_link_node most attrs good opening closing ps f = record {
  page = (f.opening, f.closing, refl, children_nodes ps f.inside.parts, tt);
  element = refl;
  shown = ext_link_shown most attrs good opening closing ps f;
}

tag_parent : (m : TagName) → IsInlineParent (kind.Tag m)
tag_parent m = record { text = refl; elements = λ k h. or_right (is_anywhere (shape k).class) _ h }

tag_shown : (m : TagName) → (most : ℕ) (attrs : List (AttrName × List ℕ)) → HasAttributes (kind.Tag m) attrs
    → (opening closing : List Item) (ps : List Part) → IsFilled most opening ps closing
    → (k : ℕ) (parent : Kind) → k ≤ most → IsInlineParent parent → IsShownIn k parent (unplaced (round (with_attrs (kind.Tag m) attrs) opening ps closing))
unfolding label_at spelling
tag_shown m most attrs good opening closing ps f k parent le p = (
  omega (arith, f.small, le),
  p.elements (kind.Tag m) refl,
  record {
    element = refl;
    level = refl;
    source = record { own = refl; opening = page_utf8 opening f.opening; closing = page_utf8 closing f.closing };
    shown = refl;
    attrs = good;
    origin = refl;
    mark = refl;
    mw = refl;
  },
  refl,
  (tt, children_shown (suc k) (kind.Tag m) ps f.inside.parts (f.inside.shown (suc k) (kind.Tag m) (omega (arith, le)) (tag_parent m))),
)

pub tag_node : (m : TagName) → (most : ℕ) (attrs : List (AttrName × List ℕ)) → HasAttributes (kind.Tag m) attrs
    → (opening closing : List Item) (ps : List Part) → IsFilled most opening ps closing
    → NodeFits most (round (with_attrs (kind.Tag m) attrs) opening ps closing)
tag_node m most attrs good opening closing ps f = record {
  page = (f.opening, f.closing, refl, children_nodes ps f.inside.parts, tt);
  element = refl;
  shown = tag_shown m most attrs good opening closing ps f;
}

-- ---- leaves

category_shown : (most : ℕ) (attrs : List (AttrName × List ℕ)) → HasAttributes kind.Category attrs → (own : List Item) → most < 199 → ArePageItems own
    → (k : ℕ) (parent : Kind) → k ≤ most → IsInlineParent parent → IsShownIn k parent (unplaced (leaf (with_attrs kind.Category attrs) own))
unfolding label_at spelling
category_shown most attrs good own small u k parent le p = (
  omega (arith, small, le),
  refl,
  record {
    element = refl;
    level = refl;
    source = record { own = subst (λ xs. IsUtf8 (sources xs)) (sym (append-nil own)) (page_utf8 own u); opening = refl; closing = refl };
    shown = refl;
    attrs = good;
    origin = refl;
    mark = refl;
    mw = refl;
  },
  refl,
  (tt, tt),
)

pub category_leaf : (most : ℕ) (attrs : List (AttrName × List ℕ)) → HasAttributes kind.Category attrs
    → (own : List Item) → most < 199 → ArePageItems own → NodeFits most (leaf (with_attrs kind.Category attrs) own)
category_leaf most attrs good own small u = record {
  page = (u, no_page_items, refl, tt, tt);
  element = refl;
  shown = category_shown most attrs good own small u;
}

switch_shown : (most : ℕ) (attrs : List (AttrName × List ℕ)) → HasAttributes kind.Switch attrs → (own : List Item) → most < 199 → ArePageItems own
    → (k : ℕ) (parent : Kind) → k ≤ most → IsInlineParent parent → IsShownIn k parent (unplaced (leaf (with_attrs kind.Switch attrs) own))
unfolding label_at spelling
switch_shown most attrs good own small u k parent le p = (
  omega (arith, small, le),
  refl,
  record {
    element = refl;
    level = refl;
    source = record { own = subst (λ xs. IsUtf8 (sources xs)) (sym (append-nil own)) (page_utf8 own u); opening = refl; closing = refl };
    shown = refl;
    attrs = good;
    origin = refl;
    mark = refl;
    mw = refl;
  },
  refl,
  (tt, tt),
)

pub switch_leaf : (most : ℕ) (attrs : List (AttrName × List ℕ)) → HasAttributes kind.Switch attrs
    → (own : List Item) → most < 199 → ArePageItems own → NodeFits most (leaf (with_attrs kind.Switch attrs) own)
switch_leaf most attrs good own small u = record {
  page = (u, no_page_items, refl, tt, tt);
  element = refl;
  shown = switch_shown most attrs good own small u;
}

break_shown : (most : ℕ) (own : List Item) → most < 199 → ArePageItems own
    → (k : ℕ) (parent : Kind) → k ≤ most → IsInlineParent parent → IsShownIn k parent (unplaced (leaf (with_attrs kind.Br []) own))
unfolding label_at spelling
break_shown most own small u k parent le p = (
  omega (arith, small, le),
  p.elements kind.Br refl,
  record {
    element = refl;
    level = refl;
    source = record { own = subst (λ xs. IsUtf8 (sources xs)) (sym (append-nil own)) (page_utf8 own u); opening = refl; closing = refl };
    shown = refl;
    attrs = refl;
    origin = refl;
    mark = refl;
    mw = refl;
  },
  refl,
  (tt, tt),
)

pub break_leaf : (most : ℕ) (own : List Item) → most < 199 → ArePageItems own → NodeFits most (leaf (with_attrs kind.Br []) own)
break_leaf most own small u = record {
  page = (u, no_page_items, refl, tt, tt);
  element = refl;
  shown = break_shown most own small u;
}

skip_shown : (most : ℕ) (own : List Item) → most < 199 → ArePageItems own
    → (k : ℕ) (parent : Kind) → k ≤ most → IsInlineParent parent → IsShownIn k parent (unplaced (leaf (with_attrs kind.Skip []) own))
unfolding label_at spelling
skip_shown most own small u k parent le p = (
  omega (arith, small, le),
  refl,
  record {
    element = refl;
    level = refl;
    source = record { own = subst (λ xs. IsUtf8 (sources xs)) (sym (append-nil own)) (page_utf8 own u); opening = refl; closing = refl };
    shown = refl;
    attrs = refl;
    origin = refl;
    mark = refl;
    mw = refl;
  },
  refl,
  (tt, tt),
)

pub skip_leaf : (most : ℕ) (own : List Item) → most < 199 → ArePageItems own → NodeFits most (leaf (with_attrs kind.Skip []) own)
skip_leaf most own small u = record {
  page = (u, no_page_items, refl, tt, tt);
  element = refl;
  shown = skip_shown most own small u;
}

-- ---- what is kept whole

abbrev pub kept : Head
kept = with_attrs kind.Island ((attr.Typeof, placeholder_typeof) ∷ [])

-- what such a node holds
pub record IsKept (before : List Item) (ts : ItemTrees) (after : List Item) : Type 0 where
  pub opening : ArePageItems before
  pub inside : ArePageNodes ts
  pub closing : ArePageItems after

kept_page : (opening : List Item) (ts : ItemTrees) (closing : List Item) → IsKept opening ts closing → IsPageNode (inner kept opening ts closing)
kept_page opening ts closing u = (u.opening, u.closing, refl, u.inside, tt)

kept_shown : (most : ℕ) (opening : List Item) (ts : ItemTrees) (closing : List Item) → most < 199 → IsKept opening ts closing
    → (k : ℕ) (parent : Kind) → k ≤ most → IsInlineParent parent → IsShownIn k parent (unplaced (inner kept opening ts closing))
unfolding label_at spelling placeholder_typeof placeholder_type extension_prefix
kept_shown most opening ts closing small u k parent le p = (
  omega (arith, small, le),
  p.elements kind.Island refl,
  record {
    element = refl;
    level = refl;
    source = record { own = node_utf8 (inner kept opening ts closing) (kept_page opening ts closing u); opening = refl; closing = refl };
    shown = refl;
    attrs = island_type;
    origin = refl;
    mark = refl;
    mw = refl;
  },
  refl,
  (tt, tt),
)

-- whatever stands in it
pub kept_node : (most : ℕ) (opening : List Item) (ts : ItemTrees) (closing : List Item) → most < 199 → IsKept opening ts closing
    → NodeFits most (inner kept opening ts closing)
kept_node most opening ts closing small u = record {
  page = kept_page opening ts closing u;
  element = refl;
  shown = kept_shown most opening ts closing small u;
}

pub kept_leaf : (most : ℕ) (own : List Item) → most < 199 → ArePageItems own → NodeFits most (leaf kept own)
kept_leaf most own small u = kept_node most own nothing [] small (record { opening = u; inside = tt; closing = no_page_items })

pub kept_round : (most : ℕ) (opening closing : List Item) (ps : List Part) → IsFilled most opening ps closing → NodeFits most (round kept opening ps closing)
kept_round most opening closing ps f = kept_node most opening (forest (children ps)) closing f.small (record {
  opening = f.opening;
  inside = children_nodes ps f.inside.parts;
  closing = f.closing;
})
