-- The items of prose: those of each paragraph, and the line breaks behind it; and it calls nothing.
use Rattle.std.proofs.Common.{◌≡◌, ℕ, zero, suc, List, [], ◌∷◌, ◌++◌, refl, sym, subst, append_assoc, None}
use Rattle.std.specs.Prelude.{replicate}
use Rattle.std.specs.List.{flat_map}
use Rattle.wt_span.specs.Items.{Item, char}
use Rattle.wt_expand.specs.PageCalls.{expanded_page}
use Rattle.wt_expand.specs.PageItems.{page_items}
use Rattle.wt_expand.specs.Work.{Pages, first_refusal}
use Rattle.wt_expand.specs.Expansion.{page_work}
use Rattle.wt_text_edit_laws.specs.LonePages.{of_items}
use Rattle.wt_text_edit_laws.specs.TypedPages.{IsTypedPage}
use Rattle.wt_text_edit_laws.specs.NoCalls.{NonePairs, CallsNothing, AreUnbraced}
use Rattle.wt_text_edit_laws.specs.ProsePages.{Passage, passage_source, prose, AreProse}
use Rattle.wt_text_edit_laws.proofs.Prose.InFront.{Reads, reads_nothing, typed_front, read_break, read_items}
use Rattle.wt_text_edit_laws.proofs.Between.NoCalls.{calm_expanded, calm_unrefused}
use Rattle.wt_text_edit_laws.proofs.Between.LessBraces.{none_unbraced, unbraced_joined, page_unbraced}

-- a line break of the page
abbrev pub break : Item
break = char None 10

abbrev pub passage_items : Passage → List Item
passage_items p = page_items p.paragraph ++ replicate p.breaks break

abbrev pub prose_items : List Passage → List Item
prose_items ps = flat_map passage_items ps

breaks_read : (n : ℕ) (bs : List ℕ) (xs : List Item) → Reads bs xs → Reads (replicate n 10 ++ bs) (replicate n break ++ xs)
breaks_read zero bs xs r = r
breaks_read (suc n) bs xs r = read_break (replicate n 10 ++ bs) (replicate n break ++ xs) (breaks_read n bs xs r)

pub page_front : (q rest : List ℕ) (xs : List Item) → IsTypedPage q → Reads rest xs → Reads (q ++ rest) (page_items q ++ xs)
page_front q rest xs h r = subst (λ q. Reads (q ++ rest) (page_items q ++ xs)) (sym h.is) (typed_front h.setting h.text rest xs r)

passage_reads : (p : Passage) (rest : List ℕ) (xs : List Item) → IsTypedPage p.paragraph → Reads rest xs
    → Reads (passage_source p ++ rest) (passage_items p ++ xs)
passage_reads p rest xs h r =
    let bs : List ℕ = replicate p.breaks 10 in
    let ys : List Item = replicate p.breaks break in
    let q : List ℕ = p.paragraph in
    subst (λ cs. Reads cs ((page_items q ++ ys) ++ xs)) (sym (append_assoc q bs rest))
    (subst (λ zs. Reads (q ++ (bs ++ rest)) zs) (sym (append_assoc (page_items q) ys xs))
    (page_front q (bs ++ rest) (ys ++ xs) h (breaks_read p.breaks rest xs r)))

prose_reads : (ps : List Passage) → AreProse ps → Reads (prose ps) (prose_items ps)
prose_reads [] h = absurd h
prose_reads (p ∷ []) h = passage_reads p [] [] h reads_nothing
prose_reads (p ∷ q ∷ ps) h = passage_reads p (prose (q ∷ ps)) (prose_items (q ∷ ps)) h.0 (prose_reads (q ∷ ps) h.2)

pub items_of_prose : (ps : List Passage) → AreProse ps → page_items (prose ps) ≡ prose_items ps
items_of_prose ps h = read_items (prose ps) (prose_items ps) (prose_reads ps h)

-- ---- it calls nothing

breaks_unbraced : (n : ℕ) → AreUnbraced (replicate n break)
breaks_unbraced zero = tt
breaks_unbraced (suc n) = (refl, breaks_unbraced n)

passage_unbraced : (p : Passage) → IsTypedPage p.paragraph → AreUnbraced (passage_items p)
passage_unbraced p h = unbraced_joined (page_items p.paragraph) (replicate p.breaks break) (page_unbraced p.paragraph h) (breaks_unbraced p.breaks)

prose_unbraced : (ps : List Passage) → AreProse ps → AreUnbraced (prose_items ps)
prose_unbraced [] h = absurd h
prose_unbraced (p ∷ []) h = unbraced_joined (passage_items p) [] (passage_unbraced p h) tt
prose_unbraced (p ∷ q ∷ ps) h = unbraced_joined (passage_items p) (prose_items (q ∷ ps)) (passage_unbraced p h.0) (prose_unbraced (q ∷ ps) h.2)

prose_calm : (ps : List Passage) → AreProse ps → CallsNothing (page_items (prose ps))
prose_calm ps h =
    subst CallsNothing (sym (items_of_prose ps h)) (subst NonePairs (sym (none_unbraced (prose_items ps) (prose_unbraced ps h))) tt)

pub prose_expanded : (pages : Pages) (ps : List Passage) → AreProse ps → expanded_page pages (prose ps) ≡ of_items (page_items (prose ps))
prose_expanded pages ps h = calm_expanded pages (prose ps) (prose_calm ps h)

pub prose_unrefused : (pages : Pages) (ps : List Passage) → AreProse ps → first_refusal pages (prose ps) (page_work pages (prose ps)) ≡ None
prose_unrefused pages ps h = calm_unrefused pages (prose ps) (prose_calm ps h)
