-- Lines: the function, and the relation that it meets alone.
use Rattle.std.proofs.Common.{◌≡◌, ℕ, Bool, true, false, Option, List, [], ◌∷◌, ◌++◌, map, refl, sym, ap, ◌∙◌, subst, cond, append_assoc, append-nil, inl, inr}
use Rattle.std.specs.Prelude.{not, ◌&&◌}
use Rattle.wt_span.specs.Bytes.{is_break}
use Rattle.wt_span.specs.declared.form.ItemForm.{ItemForm}
use Rattle.wt_span.specs.declared.form.ItemForm.TheVariants as form
use Rattle.wt_span.specs.declared.form.Piece.{Piece}
use Rattle.wt_span.specs.Slice.{bytes_of}
use Rattle.wt_span.specs.Items.{Item, char, items, items_of, items_by, call_of_origin}
use Rattle.wt_lines.specs.Lines.{is_break_item, onto, lines, IsUnbroken, AreLines}
use Rattle.wt_lines.specs.Pieces.{is_chars, no_break, starts_break, is_break_piece, IsPartedBy, IsParted}
use Rattle.wt_lines.proofs.PieceSigns.{false_true, true_false}

onto_onto : (xs ys : List Item) (ls : List (List Item)) → onto xs (onto ys ls) ≡ onto (xs ++ ys) ls
onto_onto xs ys [] = refl
onto_onto xs ys (l ∷ ls) = ap (λ m. m ∷ ls) (sym (append_assoc xs ys l))

lines_by : (x : Item) (xs : List Item) (v : Bool) → onto [] (cond v ([] ∷ lines xs) (onto (x ∷ []) (lines xs)))
    ≡ cond v ([] ∷ lines xs) (onto (x ∷ []) (lines xs))
lines_by x xs true = refl
lines_by x xs false = onto_onto [] (x ∷ []) (lines xs)

-- there is a line
pub onto_none : (xs : List Item) → onto [] (lines xs) ≡ lines xs
onto_none [] = refl
onto_none (x ∷ xs) = lines_by x xs (is_break_item x)

pub line_goes_on : (xs rest : List Item) → IsUnbroken xs → lines (xs ++ rest) ≡ onto xs (lines rest)
line_goes_on [] rest u = sym (onto_none rest)
line_goes_on (x ∷ xs) rest u = rw u.0 (ap (onto (x ∷ [])) (line_goes_on xs rest u.1) ∙ onto_onto (x ∷ []) xs (lines rest))

pub line_ends : (b : Item) (rest : List Item) → is_break_item b ≡ true → lines (b ∷ rest) ≡ [] ∷ lines rest
line_ends b rest e = rw e refl

-- ---- the relation

are_ended : (x : Item) (ls : List (List Item)) (xs : List Item) → is_break_item x ≡ true → AreLines ls xs → AreLines ([] ∷ ls) (x ∷ xs)
are_ended x [] xs e h = absurd h
are_ended x (m ∷ ms) xs e h = (tt, x, xs, e, refl, h)

are_longer : (x : Item) (ls : List (List Item)) (xs : List Item) → is_break_item x ≡ false → AreLines ls xs → AreLines (onto (x ∷ []) ls) (x ∷ xs)
are_longer x [] xs e h = absurd h
are_longer x (l ∷ []) xs e h = ((e, h.0), ap (λ ys. x ∷ ys) h.1)
are_longer x (l ∷ m ∷ ms) xs e h = ((e, h.0), h.1, h.2, h.3, ap (λ ys. x ∷ ys) h.4, h.5)

are_by : (x : Item) (xs : List Item) (v : Bool) → is_break_item x ≡ v → AreLines (lines xs) xs
    → AreLines (cond v ([] ∷ lines xs) (onto (x ∷ []) (lines xs))) (x ∷ xs)
are_by x xs true e h = are_ended x (lines xs) xs e h
are_by x xs false e h = are_longer x (lines xs) xs e h

pub lines_are : (xs : List Item) → AreLines (lines xs) xs
lines_are [] = (tt, refl)
lines_are (x ∷ xs) = are_by x xs (is_break_item x) refl (lines_are xs)

pub lines_only : (ls : List (List Item)) (xs : List Item) → AreLines ls xs → ls ≡ lines xs
lines_only [] xs h = absurd h
lines_only (l ∷ []) xs h =
    ap (λ m. m ∷ []) (sym (append-nil l)) ∙ sym (line_goes_on l [] h.0) ∙ ap lines (append-nil l) ∙ ap lines (sym h.1)
lines_only (l ∷ m ∷ ms) xs h =
    ap (λ ls. l ∷ ls) (lines_only (m ∷ ms) h.2 h.5)
    ∙ ap (λ k. k ∷ lines h.2) (sym (append-nil l))
    ∙ ap (onto l) (sym (line_ends h.1 h.2 h.3))
    ∙ sym (line_goes_on l (h.1 ∷ h.2) h.0)
    ∙ ap lines (sym h.4)

-- ---- pieces

not_true : (v : Bool) → not v ≡ true → v ≡ false
not_true true e = false_true e
not_true false e = refl

both : (v w : Bool) → (v && w) ≡ true → (v ≡ true) × (w ≡ true)
both true w e = (refl, e)
both false w e = false_true e

unbroken_bytes : (o : Option ℕ) (bs : List ℕ) → no_break bs ≡ true → IsUnbroken (map (char o) bs)
unbroken_bytes o [] e = tt
unbroken_bytes o (b ∷ bs) e = let h = both (not (is_break b)) (no_break bs) e in (not_true (is_break b) h.0, unbroken_bytes o bs h.1)

no_start : (bs : List ℕ) → no_break bs ≡ true → starts_break bs ≡ true → ⊥
no_start [] e s = false_true s
no_start (b ∷ bs) e s = true_false (sym s ∙ not_true (is_break b) (both (not (is_break b)) (no_break bs) e).0)

unbroken_by : (f : ItemForm) (o : Option ℕ) (bs : List ℕ) → IsPartedBy (is_chars f) bs → (is_chars f && starts_break bs) ≡ false → IsUnbroken (items_by f o bs)
unbroken_by form.Chars o bs (inl e) n = true_false (subst (λ (cs : List ℕ). starts_break cs ≡ false) e n)
unbroken_by form.Chars o bs (inr h) n = unbroken_bytes o bs h.1
unbroken_by (form.Entity c) o bs h n = (refl, tt)
unbroken_by form.Nowiki o bs h n = (refl, tt)
unbroken_by form.Extension o bs h n = (refl, tt)
unbroken_by form.Function o bs h n = (refl, tt)
unbroken_by form.Comment o bs h n = (refl, tt)
unbroken_by form.Include o bs h n = (refl, tt)
unbroken_by form.Hidden o bs h n = (refl, tt)
unbroken_by form.EmptyCall o bs h n = (refl, tt)

break_by : (f : ItemForm) (o : Option ℕ) (bs : List ℕ) → IsPartedBy (is_chars f) bs → (is_chars f && starts_break bs) ≡ true → items_by f o bs ≡ char o 10 ∷ []
break_by form.Chars o bs (inl e) n = ap (map (char o)) e
break_by form.Chars o bs (inr h) n = absurd (no_start bs h.1 n)
break_by (form.Entity c) o bs h n = false_true n
break_by form.Nowiki o bs h n = false_true n
break_by form.Extension o bs h n = false_true n
break_by form.Function o bs h n = false_true n
break_by form.Comment o bs h n = false_true n
break_by form.Include o bs h n = false_true n
break_by form.Hidden o bs h n = false_true n
break_by form.EmptyCall o bs h n = false_true n

pub unbroken_piece : (p : Piece) → IsParted p → is_break_piece p ≡ false → IsUnbroken (items_of p)
unbroken_piece p h n = unbroken_by p.form (call_of_origin p.origin) (bytes_of p.text) h n

pub break_piece : (p : Piece) → IsParted p → is_break_piece p ≡ true → items_of p ≡ char (call_of_origin p.origin) 10 ∷ []
break_piece p h n = break_by p.form (call_of_origin p.origin) (bytes_of p.text) h n

-- ---- one more piece

pub items_push : (ps : List Piece) (p : Piece) → items (ps ++ p ∷ []) ≡ items ps ++ items_of p
items_push [] p = append-nil (items_of p)
items_push (q ∷ ps) p = ap (λ xs. items_of q ++ xs) (items_push ps p) ∙ sym (append_assoc (items_of q) (items ps) (items_of p))
