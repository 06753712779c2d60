-- The last line break of pieces.
use Rattle.std.proofs.Common.{◌≡◌, ℕ, zero, suc, ◌-◌, ◌<◌, Bool, true, false, List, [], ◌∷◌, ◌++◌, length, take, drop, get_or, refl, sym, ap, ◌∙◌, subst, cond, arith, append-nil}
use Rattle.wt_span.specs.declared.form.Piece.{Piece}
use Rattle.wt_span.specs.Items.{Item, char, items, items_of, call_of_origin}
use Rattle.wt_lines.specs.Lines.{is_break_item, IsUnbroken, content}
use Rattle.wt_lines.specs.Pieces.{AllParted, is_break_piece}
use Rattle.wt_lines.proofs.LineLaws.{unbroken_piece, break_piece}
use Rattle.wt_lines.proofs.PieceRuns.{Some_, some_items}
use Rattle.wt_page.specs.Lines.{ending}

pub content_onto : (xs ys : List Item) → Some_ ys → content (xs ++ ys) ≡ xs ++ content ys
content_onto [] ys s = refl
content_onto (x ∷ []) [] s = absurd s
content_onto (x ∷ []) (y ∷ ys) s = refl
content_onto (x ∷ z ∷ zs) ys s = ap (λ us. x ∷ us) (content_onto (z ∷ zs) ys s)

pub ending_onto : (xs ys : List Item) → Some_ ys → ending (xs ++ ys) ≡ ending ys
ending_onto [] ys s = refl
ending_onto (x ∷ []) [] s = absurd s
ending_onto (x ∷ []) (y ∷ ys) s = refl
ending_onto (x ∷ z ∷ zs) ys s = ending_onto (z ∷ zs) ys s

content_all : (xs : List Item) → IsUnbroken xs → content xs ≡ xs
content_all [] u = refl
content_all (x ∷ []) u = rw u.0 refl
content_all (x ∷ y ∷ ys) u = ap (λ us. x ∷ us) (content_all (y ∷ ys) u.1)

ending_none : (xs : List Item) → IsUnbroken xs → ending xs ≡ []
ending_none [] u = refl
ending_none (x ∷ []) u = rw u.0 refl
ending_none (x ∷ y ∷ ys) u = ending_none (y ∷ ys) u.1

ending_by : (x : Item) (v : Bool) → cond v [] (x ∷ []) ++ cond v (x ∷ []) [] ≡ x ∷ []
ending_by x true = refl
ending_by x false = refl

pub content_ending : (xs : List Item) → content xs ++ ending xs ≡ xs
content_ending [] = refl
content_ending (x ∷ []) = ending_by x (is_break_item x)
content_ending (x ∷ y ∷ ys) = ap (λ zs. x ∷ zs) (content_ending (y ∷ ys))

abbrev pub Ends : List Piece → ℕ → Type 0
Ends ps n = (content (items ps) ≡ items (take n ps)) × (ending (items ps) ≡ items (drop n ps))

some_append : (xs ys : List Item) → Some_ xs → Some_ (xs ++ ys)
some_append [] ys s = absurd s
some_append (x ∷ xs) ys s = tt

some_list : (q : Piece) (qs : List Piece) → AllParted (q ∷ qs) → Some_ (items (q ∷ qs))
some_list q qs h = some_append (items_of q) (items qs) (some_items q h.0)

ends_onto : (p q : Piece) (qs : List Piece) (n : ℕ) → AllParted (q ∷ qs) → Ends (q ∷ qs) n → Ends (p ∷ q ∷ qs) (suc n)
ends_onto p q qs n h e =
    let s = some_list q qs h in
    (content_onto (items_of p) (items (q ∷ qs)) s ∙ ap (λ xs. items_of p ++ xs) e.0, ending_onto (items_of p) (items (q ∷ qs)) s ∙ e.1)

ends_break : (ps : List Piece) (n : ℕ) (d : Piece) → AllParted ps → length ps ≡ suc n → is_break_piece (get_or ps n d) ≡ true → Ends ps n
ends_break [] n d h l b = absurd (omega arith)
ends_break (p ∷ []) zero d h l b =
    let e : items_of p ≡ char (call_of_origin p.origin) 10 ∷ [] = break_piece p h.0 b in (rw e refl, rw e refl)
ends_break (p ∷ []) (suc n) d h l b = absurd (omega arith)
ends_break (p ∷ q ∷ qs) zero d h l b = absurd (omega arith)
ends_break (p ∷ q ∷ qs) (suc n) d h l b = ends_onto p q qs n h.1 (ends_break (q ∷ qs) n d h.1 (omega arith) b)

ends_all : (ps : List Piece) (n : ℕ) (d : Piece) → AllParted ps → length ps ≡ suc n → is_break_piece (get_or ps n d) ≡ false → Ends ps (suc n)
ends_all [] n d h l b = absurd (omega arith)
ends_all (p ∷ []) zero d h l b =
    let u : IsUnbroken (items_of p) = unbroken_piece p h.0 b in (
      ap content (append-nil (items_of p)) ∙ content_all (items_of p) u
          ∙ sym (append-nil (items_of p)),
      ap ending (append-nil (items_of p)) ∙ ending_none (items_of p) u,
    )
ends_all (p ∷ []) (suc n) d h l b = absurd (omega arith)
ends_all (p ∷ q ∷ qs) zero d h l b = absurd (omega arith)
ends_all (p ∷ q ∷ qs) (suc n) d h l b = ends_onto p q qs (suc n) h.1 (ends_all (q ∷ qs) n d h.1 (omega arith) b)

pub ends_by_break : (ps : List Piece) (p : Piece) → AllParted ps → 0 < length ps → p ≡ get_or ps (length ps - 1) p
    → is_break_piece p ≡ true → Ends ps (length ps - 1)
ends_by_break ps p h s e b = ends_break ps (length ps - 1) p h (omega arith) (ap is_break_piece (sym e) ∙ b)

pub ends_by_all : (ps : List Piece) (p : Piece) → AllParted ps → 0 < length ps → p ≡ get_or ps (length ps - 1) p
    → is_break_piece p ≡ false → Ends ps (length ps)
ends_by_all ps p h s i b =
    let e : suc (length ps - 1) ≡ length ps = omega arith in
    subst (Ends ps) e (ends_all ps (length ps - 1) p h (omega arith) (ap is_break_piece (sym i) ∙ b))
