-- The items of an expanded page: its texts are UTF-8, those of each origin by themselves, and each form is whole.
use Rattle.std.proofs.Common.{◌≡◌, ℕ, ◌+◌, ◌<◌, Bool, true, false, Option, Some, None, List, [], ◌∷◌, ◌++◌, take, drop, map, IsUtf8, refl, sym, ap, ◌∙◌, subst, arith, append_assoc, append-nil}
use Rattle.std.specs.Str.{IsCharBoundary}
use Rattle.std.specs.List.{AllByRecursion}
use Rattle.std.proofs.lemmas.List.{take-append-drop}
use Rattle.std.proofs.lemmas.Bool.{eq-eqb}
use Rattle.std.proofs.lemmas.Str.{IsUtf8-append, IsUtf8-nil, IsUtf8-take, IsUtf8-drop}
use Rattle.wt_span.specs.declared.form.LexKind.{LexKind}
use Rattle.wt_span.specs.declared.form.ItemForm.{ItemForm}
use Rattle.wt_span.specs.declared.form.ItemForm.TheVariants as form
use Rattle.wt_span.specs.Items.{Item, char, whole, sources}
use Rattle.wt_span.specs.Whole.{IsWhole}
use Rattle.wt_lex.proofs.Forms.{FormFits, begins_low}
use Rattle.wt_lex.proofs.Borders.{border_after}
use Rattle.wt_inline.specs.Parts.{same_origin}
use Rattle.wt_page_round_trip.proofs.TextItems.{continues, IfOther, IsSeam, AreTexts, before_low}

-- a whole form, with a source in UTF-8
abbrev pub IsPageForm : ItemForm → List ℕ → Type 0
IsPageForm form.Chars bs = ⊥
IsPageForm f bs = IsWhole f bs × IsUtf8 bs

-- the mark of an empty call comes from that call, and any other form from the page or a call
abbrev pub IsGivenBy : ItemForm → Option ℕ → Type 0
IsGivenBy form.Chars o = Unit {0}
IsGivenBy (form.Entity c) o = Unit {0}
IsGivenBy form.Nowiki o = Unit {0}
IsGivenBy form.Extension o = Unit {0}
IsGivenBy form.Function o = Unit {0}
IsGivenBy form.Comment o = Unit {0}
IsGivenBy form.Include o = Unit {0}
IsGivenBy form.Hidden o = Unit {0}
IsGivenBy form.EmptyCall None = ⊥
IsGivenBy form.EmptyCall (Some k) = Unit {0}

abbrev pub IsPageItem : Item → Type 0
IsPageItem (char o b) = Unit {0}
IsPageItem (whole f o bs) = IsGivenBy f o × IsPageForm f bs

abbrev pub AreOfPage : List Item → Type 0
AreOfPage xs = AllByRecursion IsPageItem xs

-- texts in UTF-8 and whole forms
pub record ArePageItems (xs : List Item) : Type 0 where
  pub texts : AreTexts [] xs
  pub page : AreOfPage xs

pub no_page_items : ArePageItems []
no_page_items = record { texts = IsUtf8-nil; page = tt }

pub form_page : (f : ItemForm) (o : Option ℕ) (bs : List ℕ) → IsGivenBy f o → IsPageForm f bs → ArePageItems (whole f o bs ∷ [])
form_page f o bs g h = record { texts = (IsUtf8-nil, IsUtf8-nil); page = ((g, h), tt) }

-- ---- characters of one origin

pub same_self : (o : Option ℕ) → same_origin o o ≡ true
same_self None = refl
same_self (Some k) = eq-eqb k k refl

chars_seam : (o : Option ℕ) (bs : List ℕ) (ys : List Item) → IsSeam o ys → IsSeam o (map (char o) bs ++ ys)
chars_seam o [] ys s = s
chars_seam o (b ∷ bs) ys s = subst (λ (t : Bool). IfOther t (continues b ≡ false)) (sym (same_self o)) tt

pub texts_chars : (o : Option ℕ) (run bs : List ℕ) (ys : List Item) → IsSeam o ys → AreTexts (run ++ bs) ys → AreTexts run (map (char o) bs ++ ys)
texts_chars o run [] ys s h = subst (λ r. AreTexts r ys) (append-nil run) h
texts_chars o run (b ∷ bs) ys s h =
    (chars_seam o bs ys s, texts_chars o (run ++ b ∷ []) bs ys s (subst (λ r. AreTexts r ys) (sym (append_assoc run (b ∷ []) bs)) h))

pub chars_of_page : (o : Option ℕ) (bs : List ℕ) → AreOfPage (map (char o) bs)
chars_of_page o [] = tt
chars_of_page o (b ∷ bs) = (tt, chars_of_page o bs)

-- a text of one origin
pub chars_page : (o : Option ℕ) (bs : List ℕ) → IsUtf8 bs → ArePageItems (map (char o) bs)
chars_page o bs u = record {
  texts = subst (AreTexts []) (append-nil (map (char o) bs)) (texts_chars o [] bs [] tt u);
  page = chars_of_page o bs;
}

-- ---- a form among bytes

-- what stands before a form, the form and what stands behind it
pub record AreCut (run bs : List ℕ) (n : ℕ) : Type 0 where
  pub before : IsUtf8 run
  pub form : IsUtf8 (take n bs)
  pub behind : IsUtf8 (drop n bs)

pub form_cut : (after : Bool) (kind : LexKind) (n : ℕ) (run bs : List ℕ) → IsUtf8 (run ++ bs) → FormFits after bs (kind, n) → AreCut run bs n
form_cut after kind n run [] u f = absurd (omega (arith, f.some, f.within))
form_cut after kind n run (b ∷ bs) u f =
    let low : b < 128 = begins_low after b f.begins in
    let q : IsUtf8 run × IsUtf8 (b ∷ bs) = before_low run b low bs u in
    let z : 0 + n ≡ n = omega arith in
    let c : IsCharBoundary (b ∷ bs) n = subst (IsCharBoundary (b ∷ bs)) z (border_after (b ∷ bs) 0 n q.1 (omega arith) f.some f.within f.ends) in
    record { before = q.0; form = IsUtf8-take (b ∷ bs) n q.1 c; behind = IsUtf8-drop (b ∷ bs) n q.1 c }

pub chars_on : (run bs : List ℕ) (n : ℕ) → IsUtf8 (run ++ bs) → IsUtf8 ((run ++ take n bs) ++ drop n bs)
chars_on run bs n u = subst IsUtf8 (ap (λ x. run ++ x) (sym (take-append-drop n bs)) ∙ sym (append_assoc run (take n bs) (drop n bs))) u

-- ---- sources

pub form_utf8 : (f : ItemForm) (bs : List ℕ) → IsPageForm f bs → IsUtf8 bs
form_utf8 form.Chars bs h = absurd h
form_utf8 (form.Entity c) bs h = h.1
form_utf8 form.Nowiki bs h = h.1
form_utf8 form.Extension bs h = h.1
form_utf8 form.Function bs h = h.1
form_utf8 form.Comment bs h = h.1
form_utf8 form.Include bs h = h.1
form_utf8 form.Hidden bs h = h.1
form_utf8 form.EmptyCall bs h = h.1

-- texts with the forms between them are UTF-8
pub texts_utf8 : (run : List ℕ) (xs : List Item) → AreTexts run xs → AreOfPage xs → IsUtf8 (run ++ sources xs)
texts_utf8 run [] t p = subst IsUtf8 (sym (append-nil run)) t
texts_utf8 run (char o b ∷ xs) t p = subst IsUtf8 (append_assoc run (b ∷ []) (sources xs)) (texts_utf8 (run ++ b ∷ []) xs t.1 p.1)
texts_utf8 run (whole f o bs ∷ xs) t p = IsUtf8-append run (bs ++ sources xs) t.0
    (IsUtf8-append bs (sources xs) (form_utf8 f bs p.0.1) (texts_utf8 [] xs t.1 p.1))

pub page_utf8 : (xs : List Item) → ArePageItems xs → IsUtf8 (sources xs)
page_utf8 xs h = texts_utf8 [] xs h.texts h.page
