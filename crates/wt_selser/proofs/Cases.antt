-- Worked cases: a word typed into a paragraph, and two slices of one page.
use Rattle.std.proofs.Common.{◌≡◌, [], ◌∷◌, refl}
use Rattle.std.specs.Prelude.{codes}
use Rattle.wt_splice.specs.Splice.{spliced}

one_word : spliced (codes "a river.") (record { start = 2; end = 2; by = codes "long " } ∷ []) ≡ codes "a long river."
unfolding spliced
one_word = refl

two_slices : spliced (codes "== a ==\nb") (record { start = 3; end = 4; by = codes "c" } ∷ record { start = 8; end = 9; by = [] } ∷ []) ≡ codes "== c ==\n"
unfolding spliced
two_slices = refl
