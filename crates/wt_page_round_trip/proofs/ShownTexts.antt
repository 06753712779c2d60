-- What items show is UTF-8, and so are the URLs that are read of it.
use Rattle.std.proofs.Common.{◌≡◌, ℕ, suc, ◌+◌, ◌<◌, ◌==◌, Bool, true, false, not, List, [], ◌∷◌, ◌++◌, take, IsUtf8, refl, sym, ap₂, subst, arith, append_assoc, append-nil, flat_map}
use Rattle.std.specs.Prelude.{slice_index, if◌then◌else◌}
use Rattle.std.specs.List.{prefix_len}
use Rattle.std.proofs.lemmas.Bool.{eqb-true}
use Rattle.std.proofs.lemmas.Bool.Decides.{nat_tests}
use Rattle.std.proofs.lemmas.Str.{IsUtf8-nil, IsUtf8-append}
use Rattle.wt_span.specs.declared.form.ItemForm.{ItemForm}
use Rattle.wt_span.specs.declared.form.ItemForm.TheVariants as form
use Rattle.wt_span.specs.Bytes.{is_blank}
use Rattle.wt_span.specs.Items.{Item, char, whole}
use Rattle.wt_names.proofs.Utf8.{utf8_around}
use Rattle.wt_attributes.specs.Characters.{characters_by, characters}
use Rattle.wt_inline.specs.Carried.{shown_whole, shown_item}
use Rattle.wt_context.specs.Heads.{text_of, behind_bracket, before_blank}
use Rattle.wt_page_round_trip.proofs.TextItems.{AreTexts}
use Rattle.wt_page_round_trip.proofs.OfPage.{IsPageForm, AreOfPage, ArePageItems}
use Rattle.wt_page_round_trip.proofs.Forms.{entity_utf8}

whole_shown : (f : ItemForm) (bs : List ℕ) → IsPageForm f bs → IsUtf8 (shown_whole f)
whole_shown form.Chars bs h = absurd h
whole_shown (form.Entity c) bs h = entity_utf8 c bs h.0
whole_shown form.Nowiki bs h = IsUtf8-nil
whole_shown form.Extension bs h = IsUtf8-nil
whole_shown form.Function bs h = IsUtf8-nil
whole_shown form.Comment bs h = IsUtf8-nil
whole_shown form.Include bs h = IsUtf8-nil
whole_shown form.Hidden bs h = IsUtf8-nil
whole_shown form.EmptyCall bs h = IsUtf8-nil

shown_behind : (run : List ℕ) (xs : List Item) → AreTexts run xs → AreOfPage xs → IsUtf8 (run ++ flat_map shown_item xs)
shown_behind run [] t p = subst IsUtf8 (sym (append-nil run)) t
shown_behind run (char o b ∷ xs) t p = subst IsUtf8 (append_assoc run (b ∷ []) (flat_map shown_item xs)) (shown_behind (run ++ b ∷ []) xs t.1 p.1)
shown_behind run (whole f o bs ∷ xs) t p = IsUtf8-append run (shown_whole f ++ flat_map shown_item xs) t.0
    (IsUtf8-append (shown_whole f) (flat_map shown_item xs) (whole_shown f bs p.0.1) (shown_behind [] xs t.1 p.1))

pub shown_utf8 : (xs : List Item) → ArePageItems xs → IsUtf8 (text_of xs)
shown_utf8 xs h = shown_behind [] xs h.texts h.page

same_by : (f : ItemForm) → characters_by f ≡ shown_whole f
same_by form.Chars = refl
same_by (form.Entity c) = refl
same_by form.Nowiki = refl
same_by form.Extension = refl
same_by form.Function = refl
same_by form.Comment = refl
same_by form.Include = refl
same_by form.Hidden = refl
same_by form.EmptyCall = refl

same_item : (x : Item) → characters x ≡ shown_item x
same_item (char o b) = refl
same_item (whole f o bs) = same_by f

-- the text in which attributes are read is what the items show
pub same_text : (xs : List Item) → flat_map characters xs ≡ flat_map shown_item xs
same_text [] = refl
same_text (x ∷ xs) = ap₂ (λ bs cs. bs ++ cs) (same_item x) (same_text xs)

-- ---- URLs

pub blank_low : (b : ℕ) → is_blank b ≡ true → b < 128
blank_low b e = grind (arith, nat_tests)

blank_cut : (run bs : List ℕ) → IsUtf8 (run ++ bs) → IsUtf8 (run ++ before_blank bs)
blank_cut run [] u = u
blank_cut run (b ∷ bs) u = by_test (is_blank b) refl (blank_cut (run ++ b ∷ []) bs (subst IsUtf8 (sym (append_assoc run (b ∷ []) bs)) u))
  where
    by_test : (t : Bool) → is_blank b ≡ t → IsUtf8 ((run ++ b ∷ []) ++ before_blank bs)
        → IsUtf8 (run ++ take (if not t then 1 + prefix_len (λ c. not (is_blank c)) bs else 0) (b ∷ bs))
    by_test true e i = subst IsUtf8 (sym (append-nil run)) (utf8_around run bs b (blank_low b e) u).0
    by_test false e i =
        let z : 1 + prefix_len (λ c. not (is_blank c)) bs ≡ suc (prefix_len (λ c. not (is_blank c)) bs) = omega arith in
        subst (λ n. IsUtf8 (run ++ take n (b ∷ bs))) (sym z) (subst IsUtf8 (append_assoc run (b ∷ []) (before_blank bs)) i)

bracket_cut : (bs : List ℕ) → IsUtf8 bs → IsUtf8 (behind_bracket bs)
bracket_cut [] u = let none : List ℕ = [] in by_test (slice_index none 0 == 91)
  where
    by_test : (t : Bool) → IsUtf8 (if t then [] else [])
    by_test true = u
    by_test false = u
bracket_cut (b ∷ bs) u = by_test (b == 91) refl
  where
    by_test : (t : Bool) → (b == 91) ≡ t → IsUtf8 (if t then bs else b ∷ bs)
    by_test true e = let f : b ≡ 91 = eqb-true b 91 e in (utf8_around [] bs b (omega (arith, f)) u).1
    by_test false e = u

pub bracketed_utf8 : (bs : List ℕ) → IsUtf8 bs → IsUtf8 (before_blank (behind_bracket bs))
bracketed_utf8 bs u = blank_cut [] (behind_bracket bs) (bracket_cut bs u)
