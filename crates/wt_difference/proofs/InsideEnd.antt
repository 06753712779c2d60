-- The inside ends where the first child ends it.
use Rattle.std.proofs.Common.{◌≡◌, ◌≤◌, ◌<◌, ℕ, ◌+◌, true, false, List, [], ◌∷◌, ◌++◌, length, take, drop, get_or, sym, ap, ◌∙◌, subst, arith}
use Rattle.std.proofs.lemmas.List.{drop_more, drop_all, take-append-drop}
use Rattle.wt_tree.specs.Tree.{Trees, none, more}
use Rattle.wt_tree.specs.View.{view, views}
use Rattle.wt_tree.specs.declared.node.Node.{Node}
use Rattle.wt_checks.proofs.Elements.{take_turn}
use Rattle.wt_checks.proofs.Firsts.{if_true, if_false}
use Rattle.wt_difference.specs.Insides.{ends_inside, before_blocks, from_blocks}

-- none of these ends it
abbrev pub NoneEnds : Trees → Type 0
NoneEnds none = Unit {0}
NoneEnds (more t ts) = (ends_inside t ≡ false) × NoneEnds ts

-- none of the first ones does
abbrev pub PassedTo : List Node → ℕ → Type 0
PassedTo ns i = NoneEnds (views (take i ns))

none_push : (ns : List Node) (n : Node) → NoneEnds (views ns) → ends_inside (view n) ≡ false → NoneEnds (views (ns ++ n ∷ []))
none_push [] n h e = (e, tt)
none_push (m ∷ ns) n h e = (h.0, none_push ns n h.1 e)

pub passed_more : (ns : List Node) (i : ℕ) (n : Node) → i < length ns → n ≡ get_or ns i n → ends_inside (view n) ≡ false
    → PassedTo ns i → PassedTo ns (i + 1)
passed_more ns i n lt is e h = subst (λ ms. NoneEnds (views ms)) (sym (take_turn ns i n lt is)) (none_push (take i ns) n h e)

before_passed : (xs ys : List Node) → NoneEnds (views xs) → before_blocks (views ys) ≡ none → before_blocks (views (xs ++ ys)) ≡ views xs
before_passed [] ys h e = e
before_passed (x ∷ xs) ys h e =
    if_false (ends_inside (view x)) none (more (view x) (before_blocks (views (xs ++ ys)))) h.0 ∙ ap (more (view x)) (before_passed xs ys h.1 e)

from_passed : (xs ys : List Node) → NoneEnds (views xs) → from_blocks (views ys) ≡ views ys → from_blocks (views (xs ++ ys)) ≡ views ys
from_passed [] ys h e = e
from_passed (x ∷ xs) ys h e = if_false (ends_inside (view x)) (more (view x) (views (xs ++ ys))) (from_blocks (views (xs ++ ys))) h.0 ∙ from_passed xs ys h.1 e

-- the inside is the first n
pub record IsInside (ns : List Node) (n : ℕ) : Type 0 where
  pub within : n ≤ length ns
  pub before : views (take n ns) ≡ before_blocks (views ns)
  pub behind : views (drop n ns) ≡ from_blocks (views ns)

parted : (ns : List Node) (i : ℕ) → i ≤ length ns → PassedTo ns i → before_blocks (views (drop i ns)) ≡ none
    → from_blocks (views (drop i ns)) ≡ views (drop i ns) → IsInside ns i
parted ns i le h b f = record {
  within = le;
  before = sym (ap (λ ms. before_blocks (views ms)) (sym (take-append-drop i ns)) ∙ before_passed (take i ns) (drop i ns) h b);
  behind = sym (ap (λ ms. from_blocks (views ms)) (sym (take-append-drop i ns)) ∙ from_passed (take i ns) (drop i ns) h f);
}

pub found_at : (ns : List Node) (i : ℕ) (n : Node) → i < length ns → n ≡ get_or ns i n → ends_inside (view n) ≡ true
    → PassedTo ns i → IsInside ns i
found_at ns i n lt is e h =
    let d : drop i ns ≡ n ∷ drop (i + 1) ns = drop_more ns i n lt ∙ ap (λ (x : Node). x ∷ drop (i + 1) ns) (sym is) in
    let r : Trees = views (drop (i + 1) ns) in
    parted ns i (omega arith) h
    (ap (λ ms. before_blocks (views ms)) d ∙ if_true (ends_inside (view n)) none (more (view n) (before_blocks r)) e)
    (ap (λ ms. from_blocks (views ms)) d ∙ if_true (ends_inside (view n)) (more (view n) r) (from_blocks r) e
    ∙ sym (ap views d))

pub found_none : (ns : List Node) (i : ℕ) → length ns ≤ i → i ≤ length ns → PassedTo ns i → IsInside ns (length ns)
found_none ns i ge le h =
    let e : i ≡ length ns = omega arith in
    let d : drop i ns ≡ [] = drop_all i ns ge in
    subst (IsInside ns) e (parted ns i le h (ap (λ ms. before_blocks (views ms)) d) (ap (λ ms. from_blocks (views ms)) d ∙ sym (ap views d)))
