-- The segments of a context have no style.
use Rattle.std.proofs.Common.{◌≡◌, ℕ, zero, suc, ◌-◌, Bool, true, Option, Some, None, List, [], ◌∷◌, ◌++◌, take, drop, map, refl, ap, ◌∙◌, append-nil}
use Rattle.std.specs.List.{flat_map, AllByRecursion}
use Rattle.std.proofs.lemmas.Grind.{flat_map-append}
use Rattle.wt_span.specs.Items.{Item, char, whole}
use Rattle.wt_span.specs.Runs.{runs}
use Rattle.wt_tiles.specs.declared.context.Context.{Context}
use Rattle.wt_tiles.specs.declared.shape.Shape.{Shape}
use Rattle.wt_tiles.specs.Tiles.{tiles}
use Rattle.wt_inline.specs.declared.loose.Loose.TheVariants.{Text}
use Rattle.wt_inline.specs.ItemTree.{ItemTree}
use Rattle.wt_inline.specs.Parts.{Part, loose, node, part, parts}
use Rattle.wt_context.specs.Segments.{Segment, one_stretch, loose_segment, loose_segments}
use Rattle.wt_context.specs.Styled.{between}
use Rattle.wt_context.specs.Nodes.{Reading, tile_tree, segments_by, tile_segments, segments}
use Rattle.wt_context.specs.Unstyled.{unstyled}
use Rattle.wt_context.specs.StyledPlaces.{Places, places}
use Rattle.wt_context.proofs.PlainNodes.{AreTexts, whole_form, text_parts, OptWhole, tile_whole}

-- ---- parts without their styles

abbrev pub stripped : Part → List Part
stripped (loose k o b) = loose k o b ∷ []
stripped (node t) = unstyled t

abbrev pub all_stripped : List Part → List Part
all_stripped ps = flat_map stripped ps

pub stripped_append : (ps qs : List Part) → all_stripped (ps ++ qs) ≡ all_stripped ps ++ all_stripped qs
stripped_append ps qs = flat_map-append stripped ps qs

whole_one : (x : Item) → stripped (part Text x) ≡ part Text x ∷ []
whole_one (char o b) = refl
whole_one (whole f o bs) = (whole_form f o bs).0

whole_parts : (xs : List Item) → all_stripped (parts Text xs) ≡ parts Text xs
whole_parts [] = refl
whole_parts (x ∷ xs) = ap (λ ps. ps ++ all_stripped (parts Text xs)) (whole_one x) ∙ ap (λ ps. part Text x ∷ ps) (whole_parts xs)

-- ---- parts with their places

abbrev pub part_places : Bool → Bool → Part → Places
part_places k now (loose l o b) = Some now ∷ []
part_places k now (node t) = places k now t

abbrev pub parts_places : Bool → Bool → List Part → Places
parts_places k now ps = flat_map (part_places k now) ps

placed_one : (k now : Bool) (x : Item) → part_places k now (part Text x) ≡ Some now ∷ []
placed_one k now (char o b) = refl
placed_one k now (whole f o bs) = (whole_form f o bs).1 k now

placed_parts : (k now : Bool) (xs : List Item) → parts_places k now (parts Text xs) ≡ map (λ q. Some now) (parts Text xs)
placed_parts k now [] = refl
placed_parts k now (x ∷ xs) =
    ap (λ ps. ps ++ parts_places k now (parts Text xs)) (placed_one k now x) ∙ ap (λ ps. Some now ∷ ps) (placed_parts k now xs)

-- ---- segments

-- its parts have no style, and an apostrophe is characters
pub record IsSteady (u : Segment) : Type 0 where
  pub kept : all_stripped u.parts ≡ u.parts
  pub placed : (k now : Bool) → parts_places k now u.parts ≡ map (λ q. Some now) u.parts
  pub texts : AreTexts u.parts
  pub quotes : u.quote ≡ true → u.parts ≡ parts Text u.items

abbrev pub AreSteady : List Segment → Type 0
AreSteady us = AllByRecursion IsSteady us

steady_both : (us vs : List Segment) → AreSteady us → AreSteady vs → AreSteady (us ++ vs)
steady_both [] vs f g = g
steady_both (u ∷ us) vs f g = (f.0, steady_both us vs f.1 g)

steady_first : (n : ℕ) (us : List Segment) → AreSteady us → AreSteady (take n us)
steady_first zero us f = tt
steady_first (suc n) [] f = tt
steady_first (suc n) (u ∷ us) f = (f.0, steady_first n us f.1)

steady_rest : (n : ℕ) (us : List Segment) → AreSteady us → AreSteady (drop n us)
steady_rest zero us f = f
steady_rest (suc n) [] f = tt
steady_rest (suc n) (u ∷ us) f = steady_rest n us f.1

pub steady_between : (low high : ℕ) (us : List Segment) → AreSteady us → AreSteady (between low high us)
steady_between low high us f = steady_first (high - low) (drop low us) (steady_rest low us f)

loose_steady : (rs : List (List Item)) → AreSteady (map loose_segment rs)
loose_steady [] = tt
loose_steady (r ∷ rs) = (record { kept = whole_parts r; placed = λ k now. placed_parts k now r; texts = text_parts r; quotes = λ e. refl }, loose_steady rs)

by_steady : (o : Option ItemTree) (xs : List Item) → OptWhole o → AreSteady (segments_by o xs)
unfolding loose_segments
by_steady None xs w = loose_steady (runs one_stretch xs)
by_steady (Some t) xs w = (
  record {
    kept = append-nil (unstyled t) ∙ w.0;
    placed = λ k now. append-nil (places k now t)
        ∙ w.1 k now;
    texts = (tt, tt);
    quotes = λ e. cc;
  },
  tt,
)

tiles_steady : (read : Reading) (cx : Context) (ps : List (Shape × List Item)) → AreSteady (flat_map (tile_segments read cx) ps)
tiles_steady read cx [] = tt
tiles_steady read cx ((w, xs) ∷ ps) =
    steady_both (tile_segments read cx (w, xs)) (flat_map (tile_segments read cx) ps)
    (by_steady (tile_tree read cx w.kind w xs) xs (tile_whole read cx w.kind w xs)) (tiles_steady read cx ps)

pub segments_steady : (read : Reading) (cx : Context) (xs : List Item) → AreSteady (segments read cx xs)
unfolding segments
segments_steady read cx xs = tiles_steady read cx (tiles cx xs)
