-- Worked cases: the first child that differs.
use Rattle.std.proofs.Common.{◌≡◌, [], ◌∷◌, refl}
use Rattle.std.specs.Prelude.{Some, None, codes}
use Rattle.wt_tree.specs.Plain.{text}
use Rattle.wt_visible.specs.Children.{differing}

second_differs : differing 1 (text (codes "a") ∷ text (codes "b") ∷ []) (text (codes "a") ∷ text (codes "c") ∷ []) ≡ Some 2
second_differs = refl

one_more : differing 1 (text (codes "a") ∷ []) (text (codes "a") ∷ text (codes "b") ∷ []) ≡ Some 2
one_more = refl

none_differs : differing 1 (text (codes "a") ∷ []) (text (codes "a") ∷ []) ≡ None
none_differs = refl
