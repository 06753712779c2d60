-- Stretches that stand in a node: gaps of separators, and blocks of nodes that are written there. Gaps at the ends of what a node
-- holds lie outside it.
use Rattle.std.proofs.Common.{◌≡◌, ℕ, suc, ◌+◌, ◌<◌, ◌≤◌, ◌⊎◌, Bool, true, false, List, [], ◌∷◌, length, take, drop, refl, sym, ap, ◌∙◌, subst, arith, inl, inr}
use Rattle.std.specs.Prelude.{◌==◌, reverse, if◌then◌else◌}
use Rattle.std.specs.List.{AllByRecursion, prefix_len}
use Rattle.std.proofs.lemmas.Bool.{eqb-true}
use Rattle.std.proofs.lemmas.Bool.Decides.{nat_tests}
use Rattle.std.proofs.lemmas.List.{reverse-append, length-reverse}
use Rattle.std.proofs.lemmas.List.Folds.{prefix_len-append}
use Rattle.std.proofs.lemmas.List.Sums.{prefix_len-le-length}
use Rattle.wt_html_grammar.proofs.Steps.{if_true, if_false}
use Rattle.wt_span.specs.Items.{Item}
use Rattle.wt_tree.specs.declared.kind.AttrName.{AttrName}
use Rattle.wt_tree.specs.declared.kind.Kind.{Kind}
use Rattle.wt_tree.specs.Kinds.{may_hold}
use Rattle.wt_inline.specs.declared.loose.Loose.TheVariants.{Sep}
use Rattle.wt_inline.specs.ItemTree.{Head, forest}
use Rattle.wt_inline.specs.Parts.{Part, loose, node, parts, children}
use Rattle.wt_page.specs.Stretches.{Stretch, gap, block, is_gap, stretches_parts, front_len, front_gaps, past_front, block_len, before_end, end_gaps, node_of, opened_by, enclosed}
use Rattle.wt_page_round_trip.proofs.InlineNodes.{with_attrs}
use Rattle.wt_page_round_trip.proofs.OfPage.{AreOfPage}
use Rattle.wt_page_round_trip.proofs.PageLines.{IsBetween, all_both, all_taken, all_dropped}
use Rattle.wt_page_round_trip.proofs.Separated.{goes_first, IsNodeIn, IsPartIn, gap_parts}
use Rattle.wt_page_round_trip.proofs.Boxes.{IsRound, IsBox, HoldsSeparators, box_written, separated_inside}

-- a kind of element that may stand there
abbrev pub StandsIn : Kind → Kind → Type 0
StandsIn parent q = may_hold parent q ≡ true

abbrev pub IsOneBlock : ℕ → Kind → List Part → Type 0
IsOneBlock k parent [] = ⊥
IsOneBlock k parent (loose j o b ∷ ps) = ⊥
IsOneBlock k parent (node t ∷ []) = IsNodeIn k parent t
IsOneBlock k parent (node t ∷ p ∷ ps) = ⊥

-- a gap may stand anywhere; a node is written within k elements in a node of this kind
abbrev pub IsPlaced : ℕ → Kind → Stretch → Type 0
IsPlaced k parent (gap xs) = AreOfPage xs × AllByRecursion IsBetween xs
IsPlaced k parent (block ps) = IsOneBlock k parent ps

abbrev pub ArePlaced : ℕ → Kind → List Stretch → Type 0
ArePlaced k parent ss = AllByRecursion (IsPlaced k parent) ss

node_parts : (k : ℕ) (parent : Kind) (ps : List Part) → IsOneBlock k parent ps → AllByRecursion (IsPartIn k parent) ps
node_parts k parent [] a = absurd a
node_parts k parent (loose j o b ∷ ps) a = absurd a
node_parts k parent (node t ∷ []) a = (a, tt)
node_parts k parent (node t ∷ p ∷ ps) a = absurd a

pub placed_parts : (k : ℕ) (parent : Kind) → k < 200 → (ss : List Stretch) → ArePlaced k parent ss → AllByRecursion (IsPartIn k parent) (stretches_parts ss)
placed_parts k parent small [] a = tt
placed_parts k parent small (gap xs ∷ ss) a =
    all_both (IsPartIn k parent) (parts Sep xs) (stretches_parts ss) (gap_parts k parent xs small a.0.0 a.0.1) (placed_parts k parent small ss a.1)
placed_parts k parent small (block ps ∷ ss) a =
    all_both (IsPartIn k parent) ps (stretches_parts ss) (node_parts k parent ps a.0) (placed_parts k parent small ss a.1)

-- ---- gaps at both ends

abbrev AreGaps : List Stretch → Type 0
AreGaps ss = AllByRecursion (λ s. is_gap s ≡ true) ss

gaps_move : (k j : ℕ) (parent other : Kind) (ss : List Stretch) → AreGaps ss → ArePlaced k parent ss → ArePlaced j other ss
gaps_move k j parent other [] g a = tt
gaps_move k j parent other (gap xs ∷ ss) g a = (a.0, gaps_move k j parent other ss g.1 a.1)
gaps_move k j parent other (block ps ∷ ss) g a = absurd (let e = g.0 in cc)

front_are_gaps : (ss : List Stretch) → AreGaps (front_gaps ss)
front_are_gaps [] = tt
front_are_gaps (gap xs ∷ ss) =
    let z : 1 + prefix_len is_gap ss ≡ suc (prefix_len is_gap ss) = omega arith in
    subst (λ n. AreGaps (take n (gap xs ∷ ss))) (sym z) (refl, front_are_gaps ss)
front_are_gaps (block ps ∷ ss) = tt

gap_count : (s : Stretch) (ss : List Stretch) → prefix_len is_gap (reverse (s ∷ ss))
    ≡ (if prefix_len is_gap (reverse ss) == length (reverse ss) then length (reverse ss) + prefix_len is_gap (s ∷ []) else prefix_len is_gap (reverse ss))
gap_count s ss = ap (prefix_len is_gap) (reverse-append (s ∷ []) ss) ∙ prefix_len-append is_gap (reverse ss) (s ∷ [])

pub block_first : (ps : List Part) (ss : List Stretch) → block_len (block ps ∷ ss) ≡ suc (block_len ss)
block_first ps ss = by_test (prefix_len is_gap (reverse ss) == length (reverse ss)) refl
  where
    by_test : (t : Bool) → (prefix_len is_gap (reverse ss) == length (reverse ss)) ≡ t → block_len (block ps ∷ ss) ≡ suc (block_len ss)
    by_test true e =
        let f : prefix_len is_gap (reverse ss) ≡ length (reverse ss) = eqb-true _ _ e in
        let n : length (reverse ss) ≡ length ss = length-reverse ss in
        let c : prefix_len is_gap (reverse (block ps ∷ ss)) ≡ length (reverse ss) + 0 = gap_count (block ps) ss ∙ if_true _ _ _ e in
        omega (arith, f, n, c)
    by_test false e =
        let n : length (reverse ss) ≡ length ss = length-reverse ss in
        let c : prefix_len is_gap (reverse (block ps ∷ ss)) ≡ prefix_len is_gap (reverse ss) = gap_count (block ps) ss ∙ if_false _ _ _ e in
        let le : prefix_len is_gap (reverse ss) ≤ length (reverse ss) = prefix_len-le-length is_gap (reverse ss) in
        omega (arith, n, c, le)

-- before a gap nothing lies where no block follows
pub gap_first : (xs : List Item) (ss : List Stretch)
    → ((block_len (gap xs ∷ ss) ≡ 0) × (block_len ss ≡ 0)) ⊎ ((block_len (gap xs ∷ ss) ≡ suc (block_len ss)) × (0 < block_len ss))
gap_first xs ss = by_test (prefix_len is_gap (reverse ss) == length (reverse ss)) refl
  where
    less : (m n : ℕ) → m ≤ n → (m == n) ≡ false → m < n
    less m n l e = grind (arith, nat_tests)

    by_test : (t : Bool) → (prefix_len is_gap (reverse ss) == length (reverse ss)) ≡ t
        → ((block_len (gap xs ∷ ss) ≡ 0) × (block_len ss ≡ 0)) ⊎ ((block_len (gap xs ∷ ss) ≡ suc (block_len ss)) × (0 < block_len ss))
    by_test true e =
        let f : prefix_len is_gap (reverse ss) ≡ length (reverse ss) = eqb-true _ _ e in
        let n : length (reverse ss) ≡ length ss = length-reverse ss in
        let c : prefix_len is_gap (reverse (gap xs ∷ ss)) ≡ length (reverse ss) + 1 = gap_count (gap xs) ss ∙ if_true _ _ _ e in
        inl (omega (arith, f, n, c), omega (arith, f, n))
    by_test false e =
        let n : length (reverse ss) ≡ length ss = length-reverse ss in
        let c : prefix_len is_gap (reverse (gap xs ∷ ss)) ≡ prefix_len is_gap (reverse ss) = gap_count (gap xs) ss ∙ if_false _ _ _ e in
        let le : prefix_len is_gap (reverse ss) ≤ length (reverse ss) = prefix_len-le-length is_gap (reverse ss) in
        let lt : prefix_len is_gap (reverse ss) < length (reverse ss) = less _ _ le e in
        inr (omega (arith, n, c, le), omega (arith, n, lt))

end_are_gaps : (ss : List Stretch) → AreGaps (end_gaps ss)
end_are_gaps [] = tt
end_are_gaps (block ps ∷ ss) = subst (λ n. AreGaps (drop n (block ps ∷ ss))) (sym (block_first ps ss)) (end_are_gaps ss)
end_are_gaps (gap xs ∷ ss) = elim (gap_first xs ss) [
  | inl q ↦ subst (λ n. AreGaps (drop n (gap xs ∷ ss))) (sym q.0)
      (refl, subst (λ n. AreGaps (drop n ss)) q.1 (end_are_gaps ss))
  | inr q ↦ subst (λ n. AreGaps (drop n (gap xs ∷ ss))) (sym q.0) (end_are_gaps ss)
]

-- gaps behind the last block may stand anywhere
pub gaps_behind : (k j : ℕ) (parent other : Kind) (ss : List Stretch) → ArePlaced j other ss → ArePlaced k parent (end_gaps ss)
gaps_behind k j parent other ss a = gaps_move j k other parent (end_gaps ss) (end_are_gaps ss) (all_dropped (IsPlaced j other) (block_len ss) ss a)

-- ---- a node with what it holds

pub opened_placed : (k j : ℕ) (parent other : Kind) (h : Head) (opening : List Item) (ss : List Stretch)
    → IsNodeIn k parent (node_of h opening (before_end ss) []) → ArePlaced j other (end_gaps ss) → ArePlaced k parent (opened_by h opening ss)
opened_placed k j parent other h opening ss n a = (n, gaps_move j k other parent (end_gaps ss) (end_are_gaps ss) a)

pub enclosed_placed : (k j : ℕ) (parent other : Kind) (h : Head) (ss : List Stretch)
    → IsNodeIn k parent (node_of h [] (before_end (past_front ss)) []) → ArePlaced j other ss → ArePlaced k parent (enclosed h ss)
enclosed_placed k j parent other h ss n a =
    let behind : ArePlaced j other (past_front ss) = all_dropped (IsPlaced j other) (front_len ss) ss a in
    all_both (IsPlaced k parent) (front_gaps ss) (opened_by h [] (past_front ss))
    (gaps_move j k other parent (front_gaps ss) (front_are_gaps ss) (all_taken (IsPlaced j other) (front_len ss) ss a))
    (opened_placed k j parent other h [] (past_front ss) n (all_dropped (IsPlaced j other) (block_len (past_front ss)) (past_front ss) behind))

-- ---- nodes that hold separators and other nodes

pub record IsHolder (q : Kind) : Type 0 where
  pub round : IsRound q
  pub holds : HoldsSeparators q
  pub block : goes_first q ≡ false

pub holder_node : (k : ℕ) (parent q : Kind) → IsHolder q → (attrs : List (AttrName × List ℕ)) (opening closing : List Item)
    → IsBox q attrs opening closing → (ss : List Stretch) → k < 199 → StandsIn parent q → ArePlaced (suc k) q ss
    → IsNodeIn k parent (node_of (with_attrs q attrs) opening ss closing)
holder_node k parent q r attrs opening closing b ss small holds a = (
  box_written k parent q r.round attrs opening closing b (forest (children (stretches_parts ss))) small holds
      (separated_inside (suc k) q r.holds (stretches_parts ss) (placed_parts (suc k) q (omega (arith, small)) ss a)),
  r.block,
)

pub holder_opened : (k : ℕ) (parent q : Kind) → IsHolder q → (attrs : List (AttrName × List ℕ)) (opening : List Item)
    → IsBox q attrs opening [] → (ss : List Stretch) → k < 199 → StandsIn parent q → ArePlaced (suc k) q ss
    → ArePlaced k parent (opened_by (with_attrs q attrs) opening ss)
holder_opened k parent q r attrs opening b ss small holds a =
    opened_placed k (suc k) parent q (with_attrs q attrs) opening ss
    (holder_node k parent q r attrs opening [] b (before_end ss) small holds (all_taken (IsPlaced (suc k) q) (block_len ss) ss a))
    (all_dropped (IsPlaced (suc k) q) (block_len ss) ss a)

pub holder_enclosed : (k : ℕ) (parent q : Kind) → IsHolder q → IsBox q [] [] [] → (ss : List Stretch) → k < 199 → StandsIn parent q
    → ArePlaced (suc k) q ss → ArePlaced k parent (enclosed (with_attrs q []) ss)
holder_enclosed k parent q r b ss small holds a =
    let behind : ArePlaced (suc k) q (past_front ss) = all_dropped (IsPlaced (suc k) q) (front_len ss) ss a in
    enclosed_placed k (suc k) parent q (with_attrs q []) ss
    (holder_node k parent q r [] [] [] b (before_end (past_front ss)) small holds
    (all_taken (IsPlaced (suc k) q) (block_len (past_front ss)) (past_front ss) behind)) a
