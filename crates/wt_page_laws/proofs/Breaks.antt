-- Line breaks of parted pieces.
use Rattle.std.proofs.Common.{arith, ◌≡◌, ℕ, suc, ◌+◌, ◌≤◌, inl, inr, Bool, true, false, cond, Option, List, [], ◌∷◌, ◌++◌, length, map, refl, sym, ap, ap₂, ◌∙◌, subst}
use Rattle.std.specs.Prelude.{◌&&◌, not}
use Rattle.std.specs.List.{AllByRecursion}
use Rattle.std.proofs.lemmas.List.Concat.{flat_map-cons}
use Rattle.wt_span.specs.Bytes.{is_break}
use Rattle.wt_span.specs.Items.{Item, char, is_char_in, items, items_by, items_of, call_of_origin}
use Rattle.wt_span.specs.Slice.{bytes_of}
use Rattle.wt_span.specs.declared.form.ItemForm.{ItemForm}
use Rattle.wt_span.specs.declared.form.ItemForm.TheVariants as form
use Rattle.wt_span.specs.declared.form.Piece.{Piece}
use Rattle.wt_lines.specs.Pieces.{AllParted, IsParted, IsPartedBy, ArePartedBytes, is_chars, is_break_piece, no_break, starts_break}
use Rattle.wt_page_laws.specs.Fronts.{BreaksStandAlone, how_many}

abbrev breaks : List Item → ℕ
breaks xs = how_many (λ x. is_char_in is_break x) xs

breaks_join : (xs ys : List Item) → breaks (xs ++ ys) ≡ breaks xs + breaks ys
breaks_join [] ys = omega arith
breaks_join (x ∷ xs) ys = let r = breaks_join xs ys in omega (arith, r)

both : (x y : Bool) → (x && y) ≡ true → (x ≡ true) × (y ≡ true)
both true true e = (refl, refl)
both true false e = cc
both false true e = cc
both false false e = cc

unbroken : (o : Option ℕ) (bs : List ℕ) → no_break bs ≡ true → breaks (map (char o) bs) ≡ 0
unbroken o [] e = refl
unbroken o (b ∷ bs) e = by (is_break b) refl (unbroken o bs)
  where
    h : (not (is_break b) ≡ true) × (no_break bs ≡ true)
    h = both (not (is_break b)) (no_break bs) e

    by : (v : Bool) → is_break b ≡ v → (no_break bs ≡ true → breaks (map (char o) bs) ≡ 0) → breaks (map (char o) (b ∷ bs)) ≡ 0
    by true t g = let f : not true ≡ true = ap not (sym t) ∙ h.0 in cc
    by false t g = let r = g h.1 in rw t (omega (arith, r))

starts_unbroken : (bs : List ℕ) → no_break bs ≡ true → starts_break bs ≡ false
starts_unbroken [] e = refl
starts_unbroken (b ∷ bs) e = by (is_break b) (both (not (is_break b)) (no_break bs) e).0
  where
    by : (v : Bool) → not v ≡ true → v ≡ false
    by true t = cc
    by false t = refl

made : (o : Option ℕ) (bs : List ℕ) → length (map (char o) bs) ≡ length bs
made o [] = refl
made o (b ∷ bs) = ap suc (made o bs)

-- ---- one piece

-- what is said of one piece of this form and these bytes
record Stands (f : ItemForm) (o : Option ℕ) (bs : List ℕ) : Type 0 where
  breaks : breaks (items_by f o bs) ≡ cond (is_chars f && starts_break bs) 1 0
  alone : (is_chars f && starts_break bs) ≡ true → length (items_by f o bs) ≡ 1
  some : 1 ≤ length (items_by f o bs)

chars_stand : (o : Option ℕ) (bs : List ℕ) → ArePartedBytes bs → Stands form.Chars o bs
chars_stand o bs (inl e) = subst (Stands form.Chars o) (sym e) (record { breaks = refl; alone = λ t. refl; some = omega arith })
chars_stand o bs (inr h) =
    let s : starts_break bs ≡ false = starts_unbroken bs h.1 in
    let l : length (map (char o) bs) ≡ length bs = made o bs in
    let lt = h.0 in
    record {
      breaks = rw s (unbroken o bs h.1);
      alone = λ t. let f : false ≡ true = sym s ∙ t in cc;
      some = omega arith;
    }

stand : (f : ItemForm) (o : Option ℕ) (bs : List ℕ) → IsPartedBy (is_chars f) bs → Stands f o bs
stand form.Chars o bs h = chars_stand o bs h
stand f o bs h = record { breaks = refl; alone = λ t. cc; some = omega arith }

stands : (p : Piece) → IsParted p → Stands p.form (call_of_origin p.origin) (bytes_of p.text)
stands p h = stand p.form (call_of_origin p.origin) (bytes_of p.text) h

-- ---- all of them

counted : (ps : List Piece) → AllParted ps → breaks (items ps) ≡ how_many is_break_piece ps
counted [] h = refl
counted (p ∷ ps) h =
    ap breaks (flat_map-cons items_of p ps) ∙ breaks_join (items_of p) (items ps)
    ∙ ap₂ (λ (m n : ℕ). m + n) (stands p h.0).breaks (counted ps h.1)

all_alone : (ps : List Piece) → AllParted ps → AllByRecursion (λ p. is_break_piece p ≡ true → length (items_of p) ≡ 1) ps
all_alone [] h = tt
all_alone (p ∷ ps) h = ((stands p h.0).alone, all_alone ps h.1)

all_some : (ps : List Piece) → AllParted ps → AllByRecursion (λ p. 1 ≤ length (items_of p)) ps
all_some [] h = tt
all_some (p ∷ ps) h = ((stands p h.0).some, all_some ps h.1)

pub stand_alone : (ps : List Piece) → AllParted ps → BreaksStandAlone ps
stand_alone ps h = record { breaks = counted ps h; alone = all_alone ps h; some = all_some ps h }
