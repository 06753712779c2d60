-- The inside of a link, empty or not.
use Rattle.std.proofs.Common.{arith, ◌≡◌, ◌≢◌, ◌≤◌, ℕ, None, List, [], ◌∷◌, ◌++◌, length, refl}
use Rattle.wt_tree.specs.declared.node.Node.{Node}
use Rattle.wt_tree.specs.View.{views}
use Rattle.wt_guards.specs.Guards.{nowiki, nowiki_if}
use Rattle.wt_link_spelling.specs.Spelling.{after_space, begins_with_blank, nowiki_or, only_text}

pub space_before : (bs : List ℕ) → length bs ≢ 0 → after_space bs ≡ 32 ∷ (nowiki_if (begins_with_blank bs) ++ bs)
space_before [] h = absurd (h refl)
space_before (b ∷ bs) h = refl

pub nothing_before : (bs : List ℕ) → length bs ≡ 0 → after_space bs ≡ []
nothing_before [] h = refl
nothing_before (b ∷ bs) h = absurd (search arith)

pub some_inside : (bs : List ℕ) → length bs ≢ 0 → nowiki_or bs ≡ bs
some_inside [] h = absurd (h refl)
some_inside (b ∷ bs) h = refl

pub none_inside : (bs : List ℕ) → length bs ≡ 0 → nowiki_or bs ≡ nowiki
none_inside [] h = refl
none_inside (b ∷ bs) h = absurd (search arith)

-- two nodes and more are no single text
pub no_single : (ns : List Node) → 2 ≤ length ns → only_text (views ns) ≡ None
no_single [] h = absurd (search arith)
no_single (n ∷ []) h = absurd (search arith)
no_single (n ∷ m ∷ ns) h = refl
