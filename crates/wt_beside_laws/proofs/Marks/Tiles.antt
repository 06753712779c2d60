-- The tiles of such a content by itself.
use Rattle.std.proofs.Common.{◌≡◌, false, List, [], map, refl, sym, ap, ◌∙◌, append-nil}
use Rattle.wt_guards.specs.Content.{ContentSign}
use Rattle.wt_guards.specs.Guards.{Setting, spelled}
use Rattle.wt_expand.specs.PageItems.{page_items}
use Rattle.wt_tiles.specs.Contexts.{in_line}
use Rattle.wt_tiles.specs.Glyphs.{glyph_of}
use Rattle.wt_tiles.specs.Tiles.{cuts}
use Rattle.wt_beside_laws.specs.Content.{content_items}
use Rattle.wt_beside_laws.specs.Cuts.{content_cut}
use Rattle.wt_beside_laws.specs.Nodes.{NoneOpensPair, AllMeet}
use Rattle.wt_beside_laws.proofs.ContentGlyphs.{glyphs_are}
use Rattle.wt_beside_laws.specs.Flat.{IsReadIn}
use Rattle.wt_beside_laws.proofs.Marks.Commented.{content_alone}
use Rattle.wt_beside_laws.proofs.NodesBegin.{tiles_before}

pub tiles_alone : (s : Setting) (signs : List ContentSign) → IsReadIn s signs → NoneOpensPair signs → AllMeet s [] signs []
    → cuts in_line false 0 (map glyph_of (page_items (spelled s signs))) ≡ content_cut in_line s [] signs (0, [])
tiles_alone s signs k c m =
    ap (λ xs. cuts in_line false 0 (map glyph_of xs)) (content_alone s signs k ∙ sym (append-nil (content_items s [] signs)))
    ∙ ap (λ gs. cuts in_line false 0 gs) (glyphs_are s [] signs [])
    ∙ tiles_before s signs [] k.nodes c m (record { urls = tt; switches = refl }) (λ a. refl)
