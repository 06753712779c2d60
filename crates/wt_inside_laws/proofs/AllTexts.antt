-- The tree of a page in which texts were typed in any of its paragraphs and headings: each is replaced, the last one first.
use Rattle.std.proofs.Common.{◌≡◌, ℕ, List, [], ◌∷◌, ◌++◌, refl, sym, ap, ◌∙◌, subst, append_assoc, inl}
use Rattle.wt_devices.specs.Device.{Pages}
use Rattle.wt_page_round_trip.specs.PageTree.{page_tree}
use Rattle.wt_inside_laws.specs.Replaced.{with_inside, with_insides}
use Rattle.wt_text_edit_laws.specs.BlockSpots.{BlockSpot, spots_source, AreBlockSpots, SameRound, AreBlocks}
use Rattle.wt_text_edit_laws.proofs.Blocks.TypedBraces.{AreTypedOver}
use Rattle.wt_text_edit_laws.proofs.Blocks.TypedAgain.{typed_again}
use Rattle.wt_text_edit_laws.proofs.Blocks.BlockTrees.{are_typed}
use Rattle.wt_text_edit_laws.specs.BlockEdits.{SpotEdit, BlockEdit, new_text, old_spots, new_spots, old_page, new_page, IsBlockEdit}
use Rattle.wt_text_edit_laws.proofs.Blocks.BlockSpotFacts.{new_round, typed_over, all_typed}
use Rattle.wt_inside_laws.specs.TextsReplaced.{Place, replaced_by, replaced_behind, all_replaced}
use Rattle.wt_inside_laws.proofs.OneText.{typed_front, typed_rest, tree_replaced}

pub round_front : (ss : List BlockSpot) (xs ys : List BlockSpot) → SameRound xs ys → SameRound (ss ++ xs) (ss ++ ys)
round_front [] xs ys h = h
round_front (s ∷ ss) xs ys h = (refl, refl, round_front ss xs ys h)

pub over_front : (ss : List BlockSpot) (xs ys : List BlockSpot) → AreTypedOver xs ys → AreTypedOver (ss ++ xs) (ss ++ ys)
over_front [] xs ys h = h
over_front (s ∷ ss) xs ys h = (inl refl, over_front ss xs ys h)

typed_both : (ss rs : List BlockSpot) → AreBlocks ss → AreBlocks rs → AreBlocks (ss ++ rs)
typed_both [] rs h k = k
typed_both (s ∷ ss) rs h k = (h.0, typed_both ss rs h.1 k)

pub one_more : (front : List BlockSpot) (s : BlockSpot) (rs : List BlockSpot) → (front ++ s ∷ []) ++ rs ≡ front ++ s ∷ rs
one_more front s rs = append_assoc front (s ∷ []) rs

all_behind : (pages : Pages) (front : List BlockSpot) (es : List SpotEdit) (behind : List ℕ) → AreBlockSpots (front ++ old_spots es) behind → AreBlocks (new_spots es)
    → AreTypedOver (old_spots es) (new_spots es)
    → page_tree pages (spots_source (front ++ new_spots es) behind)
    ≡ with_insides (replaced_behind front es) (page_tree pages (spots_source (front ++ old_spots es) behind))
all_behind pages front [] behind h k o = refl
all_behind pages front (e ∷ es) behind h k o =
    let s : BlockSpot = e.spot in
    let p : Place = record { spots = front; before = s.before } in
    let new : List ℕ = new_text s.block e.typing s.text in
    let later : List BlockSpot = front ++ s ∷ [] in
    let typed : AreBlocks (front ++ s ∷ old_spots es) = are_typed (front ++ s ∷ old_spots es) behind h in
    let own = typed_rest front (s ∷ old_spots es) typed in
    let between : AreBlockSpots (front ++ s ∷ new_spots es) behind =
    typed_again (front ++ s ∷ old_spots es) (front ++ s ∷ new_spots es) behind h (round_front front (s ∷ old_spots es) (s ∷ new_spots es) (refl, refl, new_round es))
    (typed_both front (s ∷ new_spots es) (typed_front front (s ∷ old_spots es) typed) (own.0, k.1))
    (over_front front (s ∷ old_spots es) (s ∷ new_spots es) (inl refl, o.1)) in
    let after : AreBlockSpots (front ++ new_spots (e ∷ es)) behind =
    typed_again (front ++ s ∷ old_spots es) (front ++ new_spots (e ∷ es)) behind h (round_front front (s ∷ old_spots es) (new_spots (e ∷ es)) (refl, refl, new_round es))
    (typed_both front (new_spots (e ∷ es)) (typed_front front (s ∷ old_spots es) typed) k) (over_front front (s ∷ old_spots es) (new_spots (e ∷ es)) o) in
    let rest = all_behind pages later es behind (subst (λ ss. AreBlockSpots ss behind) (sym (one_more front s (old_spots es))) h) k.1 o.1 in
    tree_replaced pages p s.block s.text new (new_spots es) behind between after
    ∙ ap (λ t. with_inside (replaced_by p s.block s.text new) t)
    (ap (λ ss. page_tree pages (spots_source ss behind)) (sym (one_more front s (new_spots es)))
    ∙ rest
    ∙ ap (λ ss. with_insides (replaced_behind later es) (page_tree pages (spots_source ss behind))) (one_more front s (old_spots es)))

pub edit_replaces : (pages : Pages) (e : BlockEdit) → IsBlockEdit e
    → page_tree pages (new_page e) ≡ with_insides (all_replaced e) (page_tree pages (old_page e))
edit_replaces pages e h =
    let were = are_typed (old_spots e.spots) e.behind h.are_spots in
    all_behind pages [] e.spots e.behind h.are_spots (all_typed e.spots h.are_texts were) (typed_over e.spots h.are_texts were)
