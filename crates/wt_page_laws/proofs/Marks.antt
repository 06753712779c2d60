-- The marks at the front of pieces.
use Rattle.std.proofs.Common.{arith, ◌≡◌, ◌↔◌, ℕ, suc, ◌+◌, Bool, true, false, cond, List, [], ◌∷◌, ◌++◌, length, take, drop, refl, sym, ap, ◌∙◌, subst}
use Rattle.std.specs.List.{AllByRecursion, prefix_len}
use Rattle.std.proofs.lemmas.Grind.{flat_map-append}
use Rattle.std.proofs.lemmas.List.{take-append-drop}
use Rattle.std.proofs.Math.Seq.{take-append_seam, drop-append_seam}
use Rattle.wt_span.specs.Items.{Item, is_mark, items, items_of}
use Rattle.wt_span.specs.declared.form.Piece.{Piece}
use Rattle.wt_lines.specs.Pieces.{AreLeadingMarks}
use Rattle.wt_page_laws.specs.Fronts.{AreMarksInFront, BeginsUnmarked}

abbrev Marks : List Item → Type 0
Marks xs = AllByRecursion (λ x. is_mark x ≡ true) xs

one_more : (n : ℕ) → 1 + n ≡ suc n
one_more n = omega arith

front_marks : (xs : List Item) → Marks (take (prefix_len is_mark xs) xs)
front_marks [] = tt
front_marks (x ∷ xs) = by (is_mark x) refl (front_marks xs)
  where
    by : (v : Bool) → is_mark x ≡ v → Marks (take (prefix_len is_mark xs) xs) → Marks (take (cond v (1 + prefix_len is_mark xs) 0) (x ∷ xs))
    by true e h = let s : take (1 + prefix_len is_mark xs) (x ∷ xs) ≡ x ∷ take (prefix_len is_mark xs) xs = ap (λ (i : ℕ). take i (x ∷ xs)) (one_more (prefix_len is_mark xs)) in subst Marks (sym s) (e, h)
    by false e h = tt

behind_marks : (xs : List Item) → BeginsUnmarked (drop (prefix_len is_mark xs) xs)
behind_marks [] = tt
behind_marks (x ∷ xs) = by (is_mark x) refl (behind_marks xs)
  where
    by : (v : Bool) → is_mark x ≡ v → BeginsUnmarked (drop (prefix_len is_mark xs) xs) → BeginsUnmarked (drop (cond v (1 + prefix_len is_mark xs) 0) (x ∷ xs))
    by true e h = let s : drop (1 + prefix_len is_mark xs) (x ∷ xs) ≡ drop (prefix_len is_mark xs) xs = ap (λ (i : ℕ). drop i (x ∷ xs)) (one_more (prefix_len is_mark xs)) in subst BeginsUnmarked (sym s) h
    by false e h = e

marks_len : (xs ys : List Item) → Marks xs → BeginsUnmarked ys → prefix_len is_mark (xs ++ ys) ≡ length xs
marks_len [] [] h g = refl
marks_len [] (y ∷ ys) h g = rw g refl
marks_len (x ∷ xs) ys h g = rw (h.0, marks_len xs ys h.1 g) (omega arith)

items_cut : (n : ℕ) (ps : List Piece) → items ps ≡ items (take n ps) ++ items (drop n ps)
items_cut n ps = ap items (sym (take-append-drop n ps)) ∙ flat_map-append items_of (take n ps) (drop n ps)

in_front : (ps : List Piece) (n : ℕ) → AreLeadingMarks ps n → AreMarksInFront ps n
in_front ps n h = record {
  marks = subst Marks h.0 (front_marks (items ps));
  others = subst BeginsUnmarked h.1 (behind_marks (items ps));
}

front_in : (ps : List Piece) (n : ℕ) → AreMarksInFront ps n → AreLeadingMarks ps n
front_in ps n m =
    let a : List Item = items (take n ps) in
    let b : List Item = items (drop n ps) in
    let k : prefix_len is_mark (items ps) ≡ length a = ap (prefix_len is_mark) (items_cut n ps) ∙ marks_len a b m.marks m.others in (
      ap (λ (i : ℕ). take i (items ps)) k ∙ ap (take (length a)) (items_cut n ps) ∙ take-append_seam a b,
      ap (λ (i : ℕ). drop i (items ps)) k ∙ ap (drop (length a)) (items_cut n ps) ∙ drop-append_seam a b,
    )

pub in_front_is : (ps : List Piece) → (n : ℕ) → (AreLeadingMarks ps n) ↔ (AreMarksInFront ps n)
in_front_is ps n = (in_front ps n, front_in ps n)
