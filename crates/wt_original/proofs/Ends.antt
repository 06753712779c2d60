-- The ends of lines, gathered from the last item on.
use Rattle.std.proofs.Common.{arith, ◌≡◌, ℕ, zero, suc, ◌+◌, ◌-◌, ◌<◌, ◌≤◌, Bool, true, List, [], ◌∷◌, ◌++◌, length, take, drop, get_or, refl, sym, ap, ◌∙◌, length-append}
use Rattle.std.proofs.lemmas.List.{drop_more, drop_all}
use Rattle.wt_original.specs.declared.gather.Item.{Item as Read}
use Rattle.wt_tree.specs.declared.node.Node.{Node, out-Node}
use Rattle.wt_tree.specs.Tree.{Tree, label}
use Rattle.wt_tree.specs.View.{view, texts_of}
use Rattle.wt_tree.proofs.Views.{view_out}
use Rattle.wt_original.specs.Kept.{Item, are_blank_to_end, seen, seen_inside}
use Rattle.wt_original.specs.Gathered.{item_of, items_seen, blank_ends}

pub ends_length : (xs : List Item) → length (blank_ends xs) ≡ length xs
ends_length [] = refl
ends_length (x ∷ xs) = length-append (blank_ends xs) (are_blank_to_end (x ∷ xs) ∷ []) ∙ ap (λ (n : ℕ). n + 1) (ends_length xs) ∙ omega arith

get_end : (ys : List Bool) (z d : Bool) → get_or (ys ++ z ∷ []) (length ys) d ≡ z
get_end [] z d = refl
get_end (y ∷ ys) z d = get_end ys z d

get_front : (ys zs : List Bool) (i : ℕ) (d : Bool) → i < length ys → get_or (ys ++ zs) i d ≡ get_or ys i d
get_front [] zs i d lt = absurd (search arith)
get_front (y ∷ ys) zs zero d lt = refl
get_front (y ∷ ys) zs (suc i) d lt = get_front ys zs i d (omega (arith, lt))

-- the one for a place
pub ends_at : (xs : List Item) (i : ℕ) (d : Bool) → i < length xs → get_or (blank_ends xs) (length xs - 1 - i) d ≡ are_blank_to_end (drop i xs)
ends_at [] i d lt = absurd (search arith)
ends_at (x ∷ xs) zero d lt =
    let n : length (x ∷ xs) - 1 - 0 ≡ length (blank_ends xs) = omega (arith, ends_length xs) in
    ap (λ (k : ℕ). get_or (blank_ends (x ∷ xs)) k d) n ∙ get_end (blank_ends xs) (are_blank_to_end (x ∷ xs)) d
ends_at (x ∷ xs) (suc i) d lt =
    let n : length (x ∷ xs) - 1 - suc i ≡ length xs - 1 - i = omega arith in
    let m : length xs - 1 - i < length (blank_ends xs) = omega (arith, lt, ends_length xs) in
    ap (λ (k : ℕ). get_or (blank_ends (x ∷ xs)) k d) n ∙ get_front (blank_ends xs) (are_blank_to_end (x ∷ xs) ∷ []) (length xs - 1 - i) d m
    ∙ ends_at xs i d (omega (arith, lt))

pub ends_past : (xs : List Item) (i : ℕ) → length xs ≤ i → true ≡ are_blank_to_end (drop i xs)
ends_past xs i le = sym (ap are_blank_to_end (drop_all i xs le))

pub seen_front : (n : ℕ) (xs : List Read) → items_seen (take n xs) ≡ take n (items_seen xs)
seen_front zero xs = refl
seen_front (suc n) [] = refl
seen_front (suc n) (x ∷ xs) = ap (λ ys. item_of x ∷ ys) (seen_front n xs)

-- one turn from the last item on
pub ends_turn : (xs : List Read) (at : ℕ) (d : Read) (ends new : List Bool) (old b : Bool) → at < length xs
    → ends ≡ blank_ends (items_seen (drop (length xs - at) xs)) → old ≡ are_blank_to_end (items_seen (drop (length xs - at) xs))
    → ((ys : List Item) → old ≡ are_blank_to_end ys → b ≡ are_blank_to_end (item_of (get_or xs (length xs - 1 - at) d) ∷ ys))
    → new ≡ ends ++ b ∷ []
    → (new ≡ blank_ends (items_seen (drop (length xs - (at + 1)) xs))) × (b ≡ are_blank_to_end (items_seen (drop (length xs - (at + 1)) xs)))
ends_turn xs at d ends new old b lt e f g n =
    let k : length xs - (at + 1) ≡ length xs - 1 - at = omega arith in
    let m : length xs - 1 - at + 1 ≡ length xs - at = omega (arith, lt) in
    let l : length xs - 1 - at < length xs = omega (arith, lt) in
    let x : Read = get_or xs (length xs - 1 - at) d in
    let later : List Read = drop (length xs - at) xs in
    let s : drop (length xs - (at + 1)) xs ≡ x ∷ later =
    ap (λ (j : ℕ). drop j xs) k ∙ drop_more xs (length xs - 1 - at) d l ∙ ap (λ (j : ℕ). x ∷ drop j xs) m in
    let h : b ≡ are_blank_to_end (items_seen (x ∷ later)) = g (items_seen later) f in (
      n ∙ ap (λ ys. ys ++ b ∷ []) e ∙ ap (λ (c : Bool). blank_ends (items_seen later) ++ c ∷ []) h ∙ sym (ap (λ ys. blank_ends (items_seen ys)) s),
      h ∙ sym (ap (λ ys. are_blank_to_end (items_seen ys)) s),
    )

-- ---- the content of a block

seen_length : (xs : List Read) → length (items_seen xs) ≡ length xs
seen_length [] = refl
seen_length (x ∷ xs) = ap (λ (n : ℕ). suc n) (seen_length xs)

pub ends_inside : (xs : List Read) (block : Tree) (n : ℕ) → items_seen xs ≡ seen block → n ≡ length (label block).closing
    → blank_ends (take (length xs - n) (items_seen xs)) ≡ blank_ends (seen_inside block)
ends_inside xs block n e f =
    let l : length xs ≡ length (seen block) = sym (seen_length xs) ∙ ap (λ (ys : List Item). length ys) e in
    ap (λ (ys : List Item). blank_ends (take (length xs - n) ys)) e ∙ ap (λ (m : ℕ). blank_ends (take (m - n) (seen block))) l
    ∙ ap (λ (m : ℕ). blank_ends (take (length (seen block) - m) (seen block))) f

pub block_opening : (n : Node) → length (texts_of (out-Node n).source.opening) ≡ length (label (view n)).opening
block_opening n = sym (ap (λ (t : Tree). length (label t).opening) (view_out n))

pub block_closing : (n : Node) → length (texts_of (out-Node n).source.closing) ≡ length (label (view n)).closing
block_closing n = sym (ap (λ (t : Tree). length (label t).closing) (view_out n))
