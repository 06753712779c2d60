-- The lines that keep their line breaks, and those that don't.
use Rattle.std.proofs.Common.{◌≡◌, Bool, true, false, List, [], ◌∷◌, ◌++◌, map, refl, sym, ap, ◌∙◌, cond}
use Rattle.wt_span.specs.Items.{Item}
use Rattle.wt_span.specs.Runs.{put}
use Rattle.wt_lines.specs.Lines.{is_break_item, goes_on, onto, lines, full_lines, content, empty_end}

lone : (x : Item) (v : Bool) → is_break_item x ≡ v → lines (x ∷ []) ≡ map content (full_lines (x ∷ [])) ++ empty_end (x ∷ [])
lone x true e = rw e refl
lone x false e = rw e refl

-- one more item before a line that isn't empty
one_more : (x y : Item) (ys : List Item) (ls rs : List (List Item)) (end : List (List Item)) (v : Bool) → is_break_item x ≡ v
    → ls ≡ map content ((y ∷ ys) ∷ rs) ++ end
    → cond v ([] ∷ ls) (onto (x ∷ []) ls) ≡ map content (put goes_on x ((y ∷ ys) ∷ rs)) ++ end
one_more x y ys ls rs end true e h = rw (e, e) (ap (λ ms. [] ∷ ms) h)
one_more x y ys ls rs end false e h = rw e (ap (onto (x ∷ [])) h)

by_put : (x y : Item) (ls rs : List (List Item)) (end : List (List Item)) (w : Bool) → goes_on y y ≡ w → ls ≡ map content (put goes_on y rs) ++ end
    → cond (is_break_item x) ([] ∷ ls) (onto (x ∷ []) ls) ≡ map content (put goes_on x (put goes_on y rs)) ++ end
by_put x y ls [] end w f h = one_more x y [] ls [] end (is_break_item x) refl h
by_put x y ls ([] ∷ rs) end w f h = one_more x y [] ls rs end (is_break_item x) refl h
by_put x y ls ((z ∷ zs) ∷ rs) end true f h =
    let e : put goes_on y ((z ∷ zs) ∷ rs) ≡ (y ∷ z ∷ zs) ∷ rs = rw f refl in
    one_more x y (z ∷ zs) ls rs end (is_break_item x) refl (h ∙ ap (λ qs. map content qs ++ end) e) ∙ sym (ap (λ qs. map content (put goes_on x qs) ++ end) e)
by_put x y ls ((z ∷ zs) ∷ rs) end false f h =
    let e : put goes_on y ((z ∷ zs) ∷ rs) ≡ (y ∷ []) ∷ (z ∷ zs) ∷ rs = rw f refl in
    one_more x y [] ls ((z ∷ zs) ∷ rs) end (is_break_item x) refl (h ∙ ap (λ qs. map content qs ++ end) e)
    ∙ sym (ap (λ qs. map content (put goes_on x qs) ++ end) e)

pub same_lines : (xs : List Item) → lines xs ≡ map content (full_lines xs) ++ empty_end xs
same_lines [] = refl
same_lines (x ∷ []) = lone x (is_break_item x) refl
same_lines (x ∷ y ∷ ys) = by_put x y (lines (y ∷ ys)) (full_lines ys) (empty_end (y ∷ ys)) (goes_on y y) refl (same_lines (y ∷ ys))
