-- Blocks of a page that are no frames, and hold none.
use Rattle.std.proofs.Common.{◌≡◌, ℕ, Bool, false, List, [], ◌∷◌, refl, ap, ◌∙◌}
use Rattle.std.specs.Prelude.{◌||◌}
use Rattle.wt_span.specs.Items.{Item}
use Rattle.wt_inline.specs.ItemTree.{ItemTree, forest}
use Rattle.wt_checks.specs.PutBack.{have_frame}
use Rattle.wt_annotated.specs.Annotated.{all_unplaced}
use Rattle.wt_part_laws.specs.Standing.{standing, AreOrdinary}
use Rattle.wt_part_laws.proofs.Ordinary.{standing_ordinary, ordinary_unframed}
use Rattle.wt_text_edit_laws.proofs.Prose.ProseTrees.{blocks_of, number_behind, items_behind}

pub blocks_unframed : (n : ℕ) (b : List Item) (ts : List ItemTree) → AreOrdinary (all_unplaced (forest ts)) → have_frame (blocks_of n b ts) ≡ false
blocks_unframed n b [] o = refl
blocks_unframed n b (t ∷ ts) o =
    ap (λ (v : Bool). v || have_frame (blocks_of (number_behind n b t) (items_behind b t) ts)) (ordinary_unframed (standing n b t) (standing_ordinary n b t o.0))
    ∙ blocks_unframed (number_behind n b t) (items_behind b t) ts o.1
