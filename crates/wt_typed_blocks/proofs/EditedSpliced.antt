-- The new page of such an edit: the sources of its blocks, one after the other.
use Rattle.std.proofs.Common.{arith, ◌≡◌, ℕ, Bool, true, ◌+◌, ◌-◌, ◌≤◌, List, [], ◌∷◌, ◌++◌, length, take, drop, refl, sym, ap, ◌∙◌, subst, append_assoc, append-nil, length-append, length-drop}
use Rattle.std.specs.Prelude.{if◌then◌else◌, Option, Some, false}
use Rattle.std.proofs.lemmas.List.{take-append-le, take_all, drop-append-le, drop_all}
use Rattle.wt_tree.specs.declared.kind.Ranges.{Ranges}
use Rattle.wt_tree.specs.Kinds.{is_leaf}
use Rattle.wt_tree.specs.Source.{flat, flat_of_all}
use Rattle.wt_tree.specs.Tree.{Label}
use Rattle.wt_link_spelling.specs.Spelling.{inline_spelling}
use Rattle.wt_slices.specs.Changes.{change_with}
use Rattle.wt_splice.specs.Splice.{Change, between, spliced_from, spliced}
use Rattle.wt_typed_blocks.specs.Sent.{Block, paragraph, heading}
use Rattle.wt_typed_blocks.specs.Edited.{Pieces, page_pieces, Edited, stays, edited, round, Edits, no_edits, more_edits, page_node, sent_node, page_nodes}
use Rattle.wt_typed_blocks.specs.EditedPage.{page_source, edited_source, edited_sources, LiesAt, LieAt}
use Rattle.wt_typed_blocks.specs.Typed.{place_of, block_source}
use Rattle.wt_typed_blocks.proofs.EditedSlices.{Same, content_of, change_of, changes_of, content_is}

-- what stands from a place on in a front, before what follows it
pub up_to : (from : ℕ) (front rest : List ℕ) → from ≤ length front → between from (length front) (front ++ rest) ≡ drop from front
up_to from front rest le =
    let long : length (drop from front) ≡ length front - from = length-drop from front in
    ap (take (length front - from)) (drop-append-le from front rest le)
    ∙ take-append-le (length front - from) (drop from front) rest (omega (arith, long))
    ∙ take_all (length front - from) (drop from front) (omega (arith, long))

-- the last part of a list
behind : (front rest : List ℕ) → drop (length front) (front ++ rest) ≡ rest
behind front rest =
    let le : length front ≤ length front = omega arith in
    let end : length front ≤ length front = omega arith in
    drop-append-le (length front) front rest le ∙ ap (λ (xs : List ℕ). xs ++ rest) (drop_all (length front) front end)

-- ---- the source of a block between its delimiters

block_flat : (k : Block) (l m : Label) (ps : Pieces) → flat (page_node (edited k l m ps)) ≡ block_source l (page_pieces ps)
block_flat paragraph l m ps = refl
block_flat (heading n) l m ps = refl

-- where the inside of a block ends
inside_ends : (front o inner c : List ℕ) → length front + length ((o ++ inner) ++ c) - length c ≡ length (front ++ (o ++ inner))
inside_ends front o inner c =
    let a : length ((o ++ inner) ++ c) ≡ length (o ++ inner) + length c = length-append (o ++ inner) c in
    let b : length (front ++ (o ++ inner)) ≡ length front + length (o ++ inner) = length-append front (o ++ inner) in
    omega (arith, a, b)

-- up to the inside of a block
before_inside : (front o inner c rest : List ℕ) (from : ℕ) → from ≤ length front
    → between from (length front + length o) (front ++ (((o ++ inner) ++ c) ++ rest)) ≡ drop from front ++ o
before_inside front o inner c rest from le =
    let as_one : front ++ (((o ++ inner) ++ c) ++ rest) ≡ (front ++ o) ++ (inner ++ (c ++ rest)) =
    ap (λ (xs : List ℕ). front ++ xs) (append_assoc (o ++ inner) c rest ∙ append_assoc o inner (c ++ rest))
    ∙ sym (append_assoc front o (inner ++ (c ++ rest))) in
    let start : length (front ++ o) ≡ length front + length o = length-append front o in
    let within : from ≤ length (front ++ o) = omega (arith, start, le) in
    ap (λ (n : ℕ). between from n (front ++ (((o ++ inner) ++ c) ++ rest))) (sym start) ∙ ap (between from (length (front ++ o))) as_one
    ∙ up_to from (front ++ o) (inner ++ (c ++ rest)) within ∙ drop-append-le from front o le

-- behind the inside of a block
behind_inside : (front o inner c : List ℕ) → drop (length front + length ((o ++ inner) ++ c) - length c) (front ++ ((o ++ inner) ++ c)) ≡ c
behind_inside front o inner c =
    ap (λ (n : ℕ). drop n (front ++ ((o ++ inner) ++ c))) (inside_ends front o inner c)
    ∙ ap (drop (length (front ++ (o ++ inner)))) (sym (append_assoc front (o ++ inner) c)) ∙ behind (front ++ (o ++ inner)) c

-- one slice, and then those behind it
one_more : (front o inner c by rest page : List ℕ) (from : ℕ) (cs : List Change) (new : List ℕ) → from ≤ length front
    → page ≡ front ++ (((o ++ inner) ++ c) ++ rest)
    → spliced_from page (length front + length ((o ++ inner) ++ c) - length c) cs
    ≡ drop (length front + length ((o ++ inner) ++ c) - length c) (front ++ ((o ++ inner) ++ c)) ++ new
    → spliced_from page from (record { start = length front + length o; end = length front + length ((o ++ inner) ++ c) - length c; by = by } ∷ cs)
    ≡ drop from front ++ (((o ++ by) ++ c) ++ new)
one_more front o inner c by rest page from cs new le is later =
    let size : ℕ = length front + length ((o ++ inner) ++ c) - length c in
    let first : between from (length front + length o) page ≡ drop from front ++ o =
    ap (between from (length front + length o)) is ∙ before_inside front o inner c rest from le in
    ap (λ (xs : List ℕ). xs ++ (by ++ spliced_from page size cs)) first
    ∙ ap (λ (xs : List ℕ). (drop from front ++ o) ++ (by ++ xs)) (later ∙ ap (λ (xs : List ℕ). xs ++ new) (behind_inside front o inner c))
    ∙ append_assoc (drop from front) o (by ++ (c ++ new))
    ∙ ap (λ (xs : List ℕ). drop from front ++ xs) (sym (append_assoc (o ++ by) c new ∙ append_assoc o by (c ++ new)))

-- ---- all slices

source_by : (leaf : Bool) (own inner : List ℕ) → leaf ≡ false → (if leaf then own else inner) ≡ inner
source_by true own inner e = cc
source_by false own inner e = refl

source_is : (at : ℕ) (s : Edited) → LiesAt at s → flat (page_node s) ≡ page_source s
source_is at (stays t u) h = refl
source_is at (edited k l m ps) h = block_flat k l m ps
source_is at (round l m ss) h = source_by (is_leaf l.kind) l.own (block_source l (page_nodes ss)) h.0

-- After a front of the page, from any place in it on, the changes make this page.
abbrev pub Makes : List ℕ → List Change → List ℕ → List ℕ → Type 0
Makes page cs front new = (from : ℕ) → from ≤ length front → spliced_from page from cs ≡ drop from front ++ new

-- what stands in front of the inside of a node
pub opened_front : (front o : List ℕ) (page : List ℕ) (cs : List Change) (new : List ℕ) → Makes page cs (front ++ o) new → Makes page cs front (o ++ new)
opened_front front o page cs new k = λ from le.
    let long : length (front ++ o) ≡ length front + length o = length-append front o in
    k from (omega (arith, long, le))
    ∙ ap (λ (xs : List ℕ). xs ++ new) (drop-append-le from front o le) ∙ append_assoc (drop from front) o new

mutual
  one_makes : (same : Same) (page front rest : List ℕ) (s : Edited) (cs : List Change) (new : List ℕ) → page ≡ front ++ (page_source s ++ rest)
      → LiesAt (length front) s → Makes page cs (front ++ page_source s) new → Makes page (change_of same s ++ cs) front (edited_source same s ++ new)
  one_makes same page front rest (stays t u) cs new is h k = opened_front front (flat t) page cs new k
  one_makes same page front rest (edited k l m ps) cs new is h later = λ from le.
      let s : Edited = edited k l m ps in
      let old : List ℕ = block_source l (page_pieces ps) in
      let by : List ℕ = inline_spelling same (page_node s) (sent_node s) (place_of k) in
      let long : length (front ++ old) ≡ length front + length old = length-append front old in
      let end : ℕ = length front + length old - length l.closing in
      let C : Option Ranges → List ℕ → List ℕ = λ r bs. spliced_from page from (change_with r bs ++ cs) in
      ap (λ (r : Option Ranges). C r (content_of same s)) h
      ∙ ap (C (Some (record { start = length front; end = length front + length old; open_w = length l.opening; close_w = length l.closing }))) (content_is same k l m ps)
      ∙ one_more front l.opening (flat_of_all (page_pieces ps)) l.closing by rest page from cs new le is (later end (omega (arith, long)))
  one_makes same page front rest (round l m ss) cs new is h k =
      let o : List ℕ = l.opening in
      let inner : List ℕ = flat_of_all (page_nodes ss) in
      let c : List ℕ = l.closing in
      let long : length (front ++ o) ≡ length front + length o = length-append front o in
      let now : page ≡ (front ++ o) ++ (inner ++ (c ++ rest)) =
      is ∙ ap (λ (xs : List ℕ). front ++ xs) (append_assoc (o ++ inner) c rest ∙ append_assoc o inner (c ++ rest)) ∙ sym (append_assoc front o (inner ++ (c ++ rest))) in
      let ends : front ++ ((o ++ inner) ++ c) ≡ ((front ++ o) ++ inner) ++ c =
      ap (λ (xs : List ℕ). front ++ xs) (append_assoc o inner c) ∙ sym (append_assoc front o (inner ++ c)) ∙ sym (append_assoc (front ++ o) inner c) in
      let behind_it : Makes page cs ((front ++ o) ++ inner) (c ++ new) =
      opened_front ((front ++ o) ++ inner) c page cs new (subst (λ (xs : List ℕ). Makes page cs xs new) ends k) in
      let inside : Makes page (changes_of same ss ++ cs) (front ++ o) (edited_sources same ss ++ (c ++ new)) =
      all_make same page (front ++ o) (c ++ rest) ss cs (c ++ new) now (subst (λ (n : ℕ). LieAt n ss) (sym long) h.1) behind_it in
      subst (λ (xs : List ℕ). Makes page (changes_of same ss ++ cs) front xs)
      (ap (λ (xs : List ℕ). o ++ xs) (sym (append_assoc (edited_sources same ss) c new)) ∙ sym (append_assoc o (edited_sources same ss ++ c) new)
      ∙ ap (λ (xs : List ℕ). xs ++ new) (sym (append_assoc o (edited_sources same ss) c)))
      (opened_front front o page (changes_of same ss ++ cs) (edited_sources same ss ++ (c ++ new)) inside)

  all_make : (same : Same) (page front rest : List ℕ) (ss : Edits) (cs : List Change) (new : List ℕ)
      → page ≡ front ++ (flat_of_all (page_nodes ss) ++ rest) → LieAt (length front) ss → Makes page cs (front ++ flat_of_all (page_nodes ss)) new
      → Makes page (changes_of same ss ++ cs) front (edited_sources same ss ++ new)
  all_make same page front rest no_edits cs new is h k = subst (λ (xs : List ℕ). Makes page cs xs new) (append-nil front) k
  all_make same page front rest (more_edits s ss) cs new is h k =
      let q : List ℕ = page_source s in
      let tail : List ℕ = flat_of_all (page_nodes ss) in
      let e : flat (page_node s) ≡ q = source_is (length front) s h.0 in
      let long : length (front ++ q) ≡ length front + length q = length-append front q in
      let joined : flat (page_node s) ++ tail ≡ q ++ tail = ap (λ (xs : List ℕ). xs ++ tail) e in
      let now : page ≡ front ++ (q ++ (tail ++ rest)) =
      is ∙ ap (λ (xs : List ℕ). front ++ (xs ++ rest)) joined ∙ ap (λ (xs : List ℕ). front ++ xs) (append_assoc q tail rest) in
      let further : page ≡ (front ++ q) ++ (tail ++ rest) = now ∙ sym (append_assoc front q (tail ++ rest)) in
      let ends : front ++ (flat (page_node s) ++ tail) ≡ (front ++ q) ++ tail = ap (λ (xs : List ℕ). front ++ xs) joined ∙ sym (append_assoc front q tail) in
      let later : Makes page (changes_of same ss ++ cs) (front ++ q) (edited_sources same ss ++ new) =
      all_make same page (front ++ q) rest ss cs new further (subst (λ (n : ℕ). LieAt n ss) (sym long) h.1) (subst (λ (xs : List ℕ). Makes page cs xs new) ends k) in
      let all : Makes page (change_of same s ++ (changes_of same ss ++ cs)) front (edited_source same s ++ (edited_sources same ss ++ new)) =
      one_makes same page front (tail ++ rest) s (changes_of same ss ++ cs) (edited_sources same ss ++ new) now h.0 later in
      subst (λ (ds : List Change). Makes page ds front ((edited_source same s ++ edited_sources same ss) ++ new)) (sym (append_assoc (change_of same s) (changes_of same ss) cs))
      (subst (λ (xs : List ℕ). Makes page (change_of same s ++ (changes_of same ss ++ cs)) front xs) (sym (append_assoc (edited_source same s) (edited_sources same ss) new)) all)

nothing_left : (page : List ℕ) → Makes page [] page []
nothing_left page = λ from le. sym (append-nil (drop from page))

pub spliced_is : (same : Same) (page : List ℕ) (ss : Edits) → page ≡ flat_of_all (page_nodes ss) → LieAt 0 ss
    → spliced page (changes_of same ss) ≡ edited_sources same ss
unfolding spliced
spliced_is same page ss is h =
    let le : 0 ≤ 0 = omega arith in
    let end : Makes page [] ([] ++ flat_of_all (page_nodes ss)) [] = subst (λ (xs : List ℕ). Makes page [] xs []) is (nothing_left page) in
    ap (spliced_from page 0) (sym (append-nil (changes_of same ss)))
    ∙ all_make same page [] [] ss [] [] (is ∙ sym (append-nil (flat_of_all (page_nodes ss)))) h end 0 le
    ∙ append-nil (edited_sources same ss)
