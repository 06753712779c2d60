-- Worked cases of choices among the blocks of a page: three paragraphs with the numbers 1, 2 and 3.
use Rattle.std.proofs.Common.{◌≡◌, ℕ, Bool, true, false, None, List, [], ◌∷◌, refl, arith}
use Rattle.wt_tree.specs.declared.kind.Kind.{Kind}
use Rattle.wt_tree.specs.declared.kind.Kind.TheVariants as kind
use Rattle.wt_tree.specs.declared.kind.Mark.TheVariants as marks
use Rattle.wt_tree.specs.Tree.{Tree, tree, trees}
use Rattle.wt_checks.specs.Alike.{same_kind, same_data}
use Rattle.wt_checks.specs.Places.{page_of}
use Rattle.wt_places.specs.Turns.{turns}
use Rattle.wt_call_laws.specs.Choices.{IsRising, TakesFirst, moved, taken, those_that_may_stay}

abbrev block : Kind → ℕ → List Tree → Tree
block k id ts = tree (record {
  kind = k;
  id = id;
  ranges = None;
  opening = [];
  closing = [];
  own = [];
  shown = [];
  attrs = [];
  mark = marks.Nothing;
  mw = None;
  origin = None;
}) (trees ts)

abbrev para : ℕ → Tree
para id = block kind.Para id []

abbrev three : Tree
three = block kind.Body 0 (para 1 ∷ para 2 ∷ para 3 ∷ [])

-- of these blocks in place of them, which stay in their turn; all that may stay; how many count as moved
abbrev stay : List Tree → List Bool
stay us = turns (page_of three) 0 0 (trees us)

abbrev may : List Tree → List Bool
may us = those_that_may_stay (page_of three) 0 (trees us)

abbrev moves : List Bool → List Tree → ℕ
moves choice us = moved (page_of three) 0 choice (trees us)

abbrev Rises : List Bool → List Tree → Type 0
Rises choice us = IsRising (page_of three) 0 0 choice (trees us)

-- nothing moved: all stay
all_in_order : stay (para 1 ∷ para 2 ∷ para 3 ∷ []) ≡ true ∷ true ∷ true ∷ []
unfolding same_kind same_data
all_in_order = refl

-- one that is new and one that became a heading may not stay
which_may : may (para 1 ∷ para 0 ∷ block (kind.Heading 2) 2 [] ∷ para 3 ∷ []) ≡ true ∷ false ∷ false ∷ true ∷ []
unfolding same_kind same_data
which_may = refl

-- the last moved up: alone
one_moved : stay (para 3 ∷ para 1 ∷ para 2 ∷ []) ≡ false ∷ true ∷ true ∷ []
unfolding same_kind same_data
one_moved = refl

one_counts : moves (false ∷ true ∷ true ∷ []) (para 3 ∷ para 1 ∷ para 2 ∷ []) ≡ 1
unfolding same_kind same_data
one_counts = refl

-- the choice of it alone rises, and takes fewer; two count as moved
alone : Rises (true ∷ false ∷ false ∷ []) (para 3 ∷ para 1 ∷ para 2 ∷ [])
unfolding same_kind same_data
alone = (refl, (omega arith, tt))

two_count : moves (true ∷ false ∷ false ∷ []) (para 3 ∷ para 1 ∷ para 2 ∷ []) ≡ 2
unfolding same_kind same_data
two_count = refl

-- that of all three doesn't rise
all_three : Rises (true ∷ true ∷ true ∷ []) (para 3 ∷ para 1 ∷ para 2 ∷ []) → ⊥
all_three h = let lt = h.1.1.1.0 in let w : ⊥ = omega (arith, lt) in w

-- the last two were exchanged: the one that is first now stays; the choice of the other rises too, and takes as many
exchanged : stay (para 1 ∷ para 3 ∷ para 2 ∷ []) ≡ true ∷ true ∷ false ∷ []
unfolding same_kind same_data
exchanged = refl

other_way : Rises (true ∷ false ∷ true ∷ []) (para 1 ∷ para 3 ∷ para 2 ∷ [])
unfolding same_kind same_data
other_way = (refl, (omega arith, (refl, (omega arith, tt))))

as_many : taken (true ∷ false ∷ true ∷ []) ≡ taken (true ∷ true ∷ false ∷ [])
as_many = refl

first_way : TakesFirst (true ∷ true ∷ false ∷ []) (true ∷ false ∷ true ∷ [])
first_way = tt

not_second_way : TakesFirst (true ∷ false ∷ true ∷ []) (true ∷ true ∷ false ∷ []) → ⊥
not_second_way h = h
