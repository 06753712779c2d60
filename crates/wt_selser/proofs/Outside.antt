-- What stands outside the slices stands in the new page.
use Rattle.std.proofs.Common.{arith, ◌≡◌, ℕ, suc, ◌+◌, ◌-◌, ◌≤◌, List, [], ◌∷◌, ◌++◌, length, take, drop, map, refl, sym, ap, ◌∙◌, drop-drop, take-append-drop}
use Rattle.std.specs.Prelude.{zip}
use Rattle.wt_splice.specs.Splice.{Change, between, spliced_from, spliced, AreApart, woven, OutsideStands}

cut_at : (n : ℕ) (bytes : List ℕ) → take n bytes ++ drop n bytes ≡ bytes
cut_at n bytes = take-append-drop n bytes

-- a text from a place on is its bytes up to a later place, and those from there on
between_joins : (start end : ℕ) (bytes : List ℕ) → start ≤ end → between start end bytes ++ drop end bytes ≡ drop start bytes
between_joins start end bytes le =
    let e : start + (end - start) ≡ end = omega (arith, le) in
    ap (λ (n : ℕ). between start end bytes ++ drop n bytes) (sym e)
    ∙ ap (λ bs. between start end bytes ++ bs) (sym (drop-drop (end - start) start bytes)) ∙ cut_at (end - start) (drop start bytes)

-- the texts before the slices
abbrev texts_from : List ℕ → ℕ → List Change → List (List ℕ)
texts_from page at [] = []
texts_from page at (c ∷ cs) = between at c.start page ∷ texts_from page c.end cs

abbrev last_from : List ℕ → ℕ → List Change → List ℕ
last_from page at [] = drop at page
last_from page at (c ∷ cs) = last_from page c.end cs

one_each : (page : List ℕ) (at : ℕ) (cs : List Change) → length (texts_from page at cs) ≡ length cs
one_each page at [] = refl
one_each page at (c ∷ cs) = ap suc (one_each page c.end cs)

was_from : (page : List ℕ) (at : ℕ) (cs : List Change) → AreApart at cs (length page)
    → woven (zip (texts_from page at cs) (map (λ c. between c.start c.end page) cs)) (last_from page at cs) ≡ drop at page
was_from page at [] h = refl
was_from page at (c ∷ cs) h =
    ap (λ bs. between at c.start page ++ (between c.start c.end page ++ bs)) (was_from page c.end cs h.2)
    ∙ ap (λ bs. between at c.start page ++ bs) (between_joins c.start c.end page h.1) ∙ between_joins at c.start page h.0

is_from : (page : List ℕ) (at : ℕ) (cs : List Change)
    → woven (zip (texts_from page at cs) (map (λ c. c.by) cs)) (last_from page at cs) ≡ spliced_from page at cs
is_from page at [] = refl
is_from page at (c ∷ cs) = ap (λ bs. between at c.start page ++ (c.by ++ bs)) (is_from page c.end cs)

pub outside_stands : (page : List ℕ) (cs : List Change) → AreApart 0 cs (length page) → OutsideStands page (spliced page cs) cs
unfolding spliced
outside_stands page cs h = record {
  outside = texts_from page 0 cs;
  last = last_from page 0 cs;
  one_before_each = one_each page 0 cs;
  was = was_from page 0 cs h;
  is = is_from page 0 cs;
}

pub nothing_changes : (page : List ℕ) → spliced page [] ≡ page
unfolding spliced
nothing_changes page = refl
