-- A node of the page that nobody touched stands as it was.
use Rattle.std.proofs.Common.{◌≡◌, Bool, true, false, Option, refl, ap, ◌∙◌}
use Rattle.std.specs.Prelude.{◌||◌, if◌then◌else◌, List}
use Rattle.wt_tree.specs.Plain.{plain}
use Rattle.wt_tree.specs.Tiling.{is_group, HasNoGroup, NoneIsGroup}
use Rattle.wt_tree.specs.Tree.{Tree, tree, Trees, none, more, label}
use Rattle.wt_tree.specs.EditShapes.{edit_shape}
use Rattle.wt_original.specs.Kept.{Kept, kept_with}
use Rattle.wt_original.specs.Page.{TellsSame, node_or, page_of, restored, restored_all}
use Rattle.wt_content.specs.declared.content.Standing.TheVariants as stands
use Rattle.wt_content.specs.Content.{changed_from, standing, standing_of}
use Rattle.wt_content.specs.Typed.{IsUntouched}

-- without groups nothing is restored
mutual
  nothing_restored : (ks : List Kept) (t : Tree) → HasNoGroup t → restored ks t ≡ t
  nothing_restored ks (tree l ts) h =
      ap (λ (b : Bool). if b then node_or (tree l ts) (kept_with l.id ks) else tree l (restored_all ks ts)) h.0
      ∙ ap (tree l) (nothing_restored_in ks ts h.1)

  nothing_restored_in : (ks : List Kept) (ts : Trees) → NoneIsGroup ts → restored_all ks ts ≡ ts
  nothing_restored_in ks none h = refl
  nothing_restored_in ks (more t ts) h =
      ap (λ (u : Tree). more u (restored_all ks ts)) (nothing_restored ks t h.0) ∙ ap (more t) (nothing_restored_in ks ts h.1)

or_true : (a b : Bool) → b ≡ true → (a || b) ≡ true
or_true true b e = refl
or_true false b e = e

pub untouched_is_same : (same : Tree → Tree → Bool) (old t : Tree) → TellsSame same → HasNoGroup t → IsUntouched old t
    → standing (page_of same old) t ≡ stands.Same
untouched_is_same same old t tells h u =
    let p = page_of same old in
    let node = u.kept.node in
    let back : restored p.kept t ≡ t = nothing_restored p.kept t h in
    let told : same (restored p.kept t) node ≡ true =
    (tells (restored p.kept t) node).1 (ap (λ (v : Tree). (label v).kind) back ∙ u.kind, ap plain back ∙ u.shown) in
    ap (λ (o : Option Kept). standing_of p o t) u.found
    ∙ ap (λ (b : Bool). if b then stands.Same else changed_from (edit_shape (label node).kind).inline) (or_true (is_group (label node).kind) (same (restored p.kept t) node) told)
