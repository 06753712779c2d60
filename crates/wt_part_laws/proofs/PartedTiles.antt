-- The tiles of a context are what the scanner reads.
use Rattle.std.proofs.Common.{◌≡◌, ℕ, zero, suc, ◌-◌, Bool, Option, Some, None, List, [], ◌∷◌, ◌++◌, refl, sym, ap, ◌∙◌}
use Rattle.wt_tiles.specs.declared.glyph.Glyph.{Glyph}
use Rattle.wt_tiles.specs.declared.shape.Shape.{Shape}
use Rattle.wt_tiles.specs.declared.context.Context.{Context}
use Rattle.wt_tiles.specs.Glyphs.{is_in}
use Rattle.wt_tiles.specs.Urls.{is_word}
use Rattle.wt_tiles.specs.Tiles.{Cut, size, tile_with, cuts, cut_with, closed}
use Rattle.wt_part_laws.specs.Scans as sc
use Rattle.wt_part_laws.specs.Tiler.{tiler}
use Rattle.wt_part_laws.proofs.Joins.{scan_joins}

cut_same : (cx : Context) (o : Option Shape) (f g : ℕ → Cut) → ((n : ℕ) → f n ≡ g n) → cut_with o f ≡ sc.cut_with (tiler cx) o g
unfolding closed
cut_same cx None f g h = let F : Cut → Cut = λ c. (suc c.0, c.1) in ap F (h 0)
cut_same cx (Some w) f g h = let F : Cut → Cut = λ c. (0, w ∷ sc.closed (tiler cx) c.0 c.1) in ap F (h (size w - 1))

pub cuts_scan : (cx : Context) (a : Bool) (n : ℕ) (gs : List Glyph) → cuts cx a n gs ≡ sc.scan (tiler cx) a n gs
cuts_scan cx a n [] = refl
cuts_scan cx a (suc n) (g ∷ gs) = cuts_scan cx (is_in is_word g) n gs
cuts_scan cx a zero (g ∷ gs) =
    cut_same cx (tile_with cx a g (g ∷ gs)) (λ n. cuts cx (is_in is_word g) n gs) (λ n. sc.scan (tiler cx) (is_in is_word g) n gs)
    (λ n. cuts_scan cx (is_in is_word g) n gs)

pub cuts_join : (cx : Context) (a : Bool) (n : ℕ) (q rest : List Glyph) → sc.Settles (tiler cx) rest a n q
    → cuts cx a n (q ++ rest) ≡ sc.onto (tiler cx) a n q (cuts cx (sc.after_all (tiler cx) a q) 0 rest)
cuts_join cx a n q rest h =
    cuts_scan cx a n (q ++ rest) ∙ scan_joins (tiler cx) rest a n q h
    ∙ ap (sc.onto (tiler cx) a n q) (sym (cuts_scan cx (sc.after_all (tiler cx) a q) 0 rest))
