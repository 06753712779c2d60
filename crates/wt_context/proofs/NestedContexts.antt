-- Contexts stand one inside the other no deeper than the definition reads them.
use Rattle.std.proofs.Common.{◌≡◌, ℕ, zero, suc, ◌+◌, ◌-◌, ◌<◌, ◌≤◌, Bool, true, false, Some, List, [], ◌∷◌, ◌++◌, refl, ap, ◌∙◌, arith}
use Rattle.std.specs.List.{flat_map, AllByRecursion}
use Rattle.wt_span.specs.Items.{Item}
use Rattle.wt_tiles.specs.declared.context.Context.{Context}
use Rattle.wt_tiles.specs.declared.shape.Shape.{Shape}
use Rattle.wt_tiles.specs.declared.shape.TileKind.{TileKind}
use Rattle.wt_tiles.specs.declared.shape.TileKind.TheVariants as kind
use Rattle.wt_tiles.specs.Contexts.{in_text, in_pair}
use Rattle.wt_tiles.specs.Tiles.{tiles}
use Rattle.wt_context.specs.declared.node.Nested.TheVariants as nested
use Rattle.wt_context.specs.Styled.{with_styles}
use Rattle.wt_context.specs.Nodes.{Reading, inside_of, nested_tree, tile_tree, segments_by, tile_segments, segments}
use Rattle.wt_context.specs.Line.{read_by, within, context_parts}
use Rattle.wt_context.specs.Nesting.{IsReading}
use Rattle.wt_context.proofs.TilePlaces.{MayStand, IsPlaced, tiles_placed}

-- two ways to read what stands inside the tiles of a context that agree there
abbrev Agree : Reading → Reading → Context → Type 0
Agree f g cx = (cx.in_link ≡ false → (xs : List Item) → f (in_text cx) xs ≡ g (in_text cx) xs)
    × (cx.pairs < 16 → (xs : List Item) → f (in_pair cx) xs ≡ g (in_pair cx) xs)

same_tree : (f g : Reading) (cx : Context) (k : TileKind) (w : Shape) (xs : List Item) → Agree f g cx → MayStand cx k w.trail
    → tile_tree f cx k w xs ≡ tile_tree g cx k w xs
same_tree f g cx kind.Link w xs a m = ap (λ ps. Some (nested_tree nested.Link w xs ps)) (a.0 m (inside_of w xs))
same_tree f g cx kind.Category w xs a m = refl
same_tree f g cx kind.Media w xs a m = refl
same_tree f g cx kind.ExtLink w xs a m = ap (λ ps. Some (nested_tree nested.ExtLink w xs ps)) (a.0 m.0 (inside_of w xs))
same_tree f g cx kind.BareUrl w xs a m = refl
same_tree f g cx kind.Br w xs a m = refl
same_tree f g cx kind.Pair w xs a m = ap (λ ps. Some (nested_tree nested.Pair w xs ps)) (a.1 m.0 (inside_of w xs))
same_tree f g cx kind.TagIsland w xs a m = refl
same_tree f g cx kind.Switch w xs a m = refl
same_tree f g cx kind.Atom w xs a m = refl
same_tree f g cx kind.Mark w xs a m = refl
same_tree f g cx kind.Chars w xs a m = refl

same_segments : (f g : Reading) (cx : Context) (ps : List (Shape × List Item)) → Agree f g cx → AllByRecursion (IsPlaced cx) ps
    → flat_map (tile_segments f cx) ps ≡ flat_map (tile_segments g cx) ps
same_segments f g cx [] a h = refl
same_segments f g cx ((w, xs) ∷ ps) a h =
    ap (λ o. segments_by o xs ++ flat_map (tile_segments f cx) ps) (same_tree f g cx w.kind w xs a h.0.1)
    ∙ ap (λ us. tile_segments g cx (w, xs) ++ us) (same_segments f g cx ps a h.1)

same_read : (f g : Reading) (cx : Context) → Agree f g cx → (xs : List Item) → read_by f cx xs ≡ read_by g cx xs
unfolding segments
same_read f g cx a xs = ap with_styles (same_segments f g cx (tiles cx xs) a (tiles_placed cx xs))

-- how many contexts may still open in one
abbrev link_room : Bool → ℕ
link_room true = 0
link_room false = 1

abbrev room : Context → ℕ
room cx = 16 - cx.pairs + link_room cx.in_link

-- what is read at any depth is read alike with more room
deep : (read : Reading) → IsReading read → (n : ℕ) (cx : Context) (xs : List Item) → cx.pairs ≤ 16 → room cx ≤ n → read cx xs ≡ within (suc n) cx xs
deep read h zero cx xs p r =
    h cx xs p
    ∙ same_read read (within zero) cx
    ((λ e ys. let one : link_room cx.in_link ≡ 1 = ap link_room e in absurd (omega (arith, r, one))), (λ l ys. absurd (omega (arith, r, l)))) xs
deep read h (suc n) cx xs p r =
    h cx xs p
    ∙ same_read read (within (suc n)) cx (
      (λ e ys. let one : link_room cx.in_link ≡ 1 = ap link_room e in deep read h n (in_text cx) ys p (omega (arith, r, one))),
      (λ l ys. deep read h n (in_pair cx) ys (omega (arith, l)) (omega (arith, r, l))),
    ) xs

stable : (n : ℕ) (cx : Context) (xs : List Item) → cx.pairs ≤ 16 → room cx ≤ n → within (suc n) cx xs ≡ within (suc (suc n)) cx xs
stable zero cx xs p r =
    same_read (within zero) (within (suc zero)) cx
    ((λ e ys. let one : link_room cx.in_link ≡ 1 = ap link_room e in absurd (omega (arith, r, one))), (λ l ys. absurd (omega (arith, r, l)))) xs
stable (suc n) cx xs p r =
    same_read (within (suc n)) (within (suc (suc n))) cx (
      (λ e ys. let one : link_room cx.in_link ≡ 1 = ap link_room e in stable n (in_text cx) ys p (omega (arith, r, one))),
      (λ l ys. stable n (in_pair cx) ys (omega (arith, l)) (omega (arith, r, l))),
    ) xs

room_below : (b : Bool) → link_room b ≤ 1
room_below true = omega arith
room_below false = omega arith

enough : (cx : Context) → room cx ≤ 17
enough cx = omega (arith, room_below cx.in_link)

pub contexts_are : IsReading context_parts
unfolding context_parts
contexts_are cx xs p = stable 17 cx xs p (enough cx)

pub contexts_only : (read : Reading) → IsReading read → (cx : Context) (xs : List Item) → cx.pairs ≤ 16 → read cx xs ≡ context_parts cx xs
unfolding context_parts
contexts_only read h cx xs p = deep read h 17 cx xs p (enough cx)
