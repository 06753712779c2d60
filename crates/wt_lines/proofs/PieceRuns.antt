-- Runs of pieces, and the items that they hold.
use Rattle.std.proofs.Common.{◌≡◌, ℕ, ◌<◌, ◌+◌, Bool, true, false, Option, List, [], ◌∷◌, ◌++◌, length, take, drop, map, refl, sym, ap, subst, cond, arith, inl, inr}
use Rattle.std.specs.List.{All, prefix_len}
use Rattle.std.proofs.Math.Numerals.{one-add}
use Rattle.std.proofs.lemmas.List.Elements.{All-head, All-tail}
use Rattle.wt_span.specs.declared.form.ItemForm.{ItemForm}
use Rattle.wt_span.specs.declared.form.ItemForm.TheVariants as form
use Rattle.wt_span.specs.declared.form.Piece.{Piece}
use Rattle.wt_span.specs.Slice.{bytes_of}
use Rattle.wt_span.specs.Items.{Item, char, items, items_of, items_by, is_mark, is_mark_form, call_of_origin}
use Rattle.wt_span.specs.Origins.{IsSoundPiece}
use Rattle.wt_span.specs.Whole.{IsWhole}
use Rattle.wt_lines.specs.Pieces.{is_chars, is_mark_piece, IsPartedBy, IsParted, AreLeadingMarks}
use Rattle.wt_lines.proofs.PieceSigns.{false_true, true_false}

-- some items
abbrev pub Some_ : List Item → Type 0
Some_ [] = ⊥
Some_ (x ∷ xs) = Unit {0}

some_bytes : (o : Option ℕ) (bs : List ℕ) → 0 < length bs → Some_ (map (char o) bs)
some_bytes o [] h = absurd (omega arith)
some_bytes o (b ∷ bs) h = tt

some_by : (f : ItemForm) (o : Option ℕ) (bs : List ℕ) → IsPartedBy (is_chars f) bs → Some_ (items_by f o bs)
some_by form.Chars o bs (inl e) = subst (λ (cs : List ℕ). Some_ (map (char o) cs)) (sym e) tt
some_by form.Chars o bs (inr h) = some_bytes o bs h.0
some_by (form.Entity c) o bs h = tt
some_by form.Nowiki o bs h = tt
some_by form.Extension o bs h = tt
some_by form.Function o bs h = tt
some_by form.Comment o bs h = tt
some_by form.Include o bs h = tt
some_by form.Hidden o bs h = tt
some_by form.EmptyCall o bs h = tt

pub some_items : (p : Piece) → IsParted p → Some_ (items_of p)
some_items p h = some_by p.form (call_of_origin p.origin) (bytes_of p.text) h

-- ---- marks at the front

unmarked : (f : ItemForm) (o : Option ℕ) (bs : List ℕ) (rest : List Item) → IsWhole f bs → is_mark_form f ≡ false → prefix_len is_mark (items_by f o bs ++ rest) ≡ 0
unmarked form.Chars o [] rest h n = absurd (omega arith)
unmarked form.Chars o (b ∷ bs) rest h n = refl
unmarked (form.Entity c) o bs rest h n = refl
unmarked form.Nowiki o bs rest h n = refl
unmarked form.Extension o bs rest h n = refl
unmarked form.Function o bs rest h n = refl
unmarked form.Comment o bs rest h n = true_false n
unmarked form.Include o bs rest h n = true_false n
unmarked form.Hidden o bs rest h n = true_false n
unmarked form.EmptyCall o bs rest h n = true_false n

-- a mark is one item
abbrev IsOneMark : List Item → Type 0
IsOneMark xs = (x : Item) × (xs ≡ x ∷ []) × (is_mark x ≡ true)

marked : (f : ItemForm) (o : Option ℕ) (bs : List ℕ) → is_mark_form f ≡ true → IsOneMark (items_by f o bs)
marked form.Chars o bs e = false_true e
marked (form.Entity c) o bs e = false_true e
marked form.Nowiki o bs e = false_true e
marked form.Extension o bs e = false_true e
marked form.Function o bs e = false_true e
marked form.Comment o bs e = (Rattle.wt_span.specs.Items.whole form.Comment o bs, refl, refl)
marked form.Include o bs e = (Rattle.wt_span.specs.Items.whole form.Include o bs, refl, refl)
marked form.Hidden o bs e = (Rattle.wt_span.specs.Items.whole form.Hidden o bs, refl, refl)
marked form.EmptyCall o bs e = (Rattle.wt_span.specs.Items.whole form.EmptyCall o bs, refl, refl)

abbrev Leads : List Item → List Piece → ℕ → Type 0
Leads xs ps n = (take (prefix_len is_mark xs) xs ≡ items (take n ps)) × (drop (prefix_len is_mark xs) xs ≡ items (drop n ps))

lead_mark : (x : Item) (xs : List Item) (p : Piece) (ps : List Piece) (n : ℕ) → items_of p ≡ x ∷ [] → is_mark x ≡ true
    → Leads xs ps n → Leads (x ∷ xs) (p ∷ ps) (1 + n)
lead_mark x xs p ps n e m r =
    (rw (m, one-add (prefix_len is_mark xs), one-add n, e) (ap (λ ys. x ∷ ys) r.0), rw (m, one-add (prefix_len is_mark xs), one-add n) r.1)

lead_by : (p : Piece) (ps : List Piece) (v : Bool) → is_mark_piece p ≡ v → IsSoundPiece p
    → Leads (items ps) ps (prefix_len is_mark_piece ps) → Leads (items (p ∷ ps)) (p ∷ ps) (cond v (1 + prefix_len is_mark_piece ps) 0)
lead_by p ps false e h r =
    let z : prefix_len is_mark (items_of p ++ items ps) ≡ 0 = unmarked p.form (call_of_origin p.origin) (bytes_of p.text) (items ps) h.whole e in
    (ap (λ n. take n (items_of p ++ items ps)) z, ap (λ n. drop n (items_of p ++ items ps)) z)
lead_by p ps true e h r =
    let m = marked p.form (call_of_origin p.origin) (bytes_of p.text) e in
    let n = prefix_len is_mark_piece ps in
    subst (λ (xs : List Item). Leads (xs ++ items ps) (p ∷ ps) (1 + n)) (sym m.1) (lead_mark m.0 (items ps) p ps n m.1 m.2 r)

lead_at : (ps : List Piece) → All IsSoundPiece ps → Leads (items ps) ps (prefix_len is_mark_piece ps)
lead_at [] h = (refl, refl)
lead_at (p ∷ ps) h = lead_by p ps (is_mark_piece p) refl (All-head IsSoundPiece p ps h) (lead_at ps (All-tail IsSoundPiece p ps h))

pub leading_marks : (ps : List Piece) (n : ℕ) → All IsSoundPiece ps → n ≡ prefix_len is_mark_piece ps → AreLeadingMarks ps n
leading_marks ps n h e = subst (AreLeadingMarks ps) (sym e) (lead_at ps h)
