-- A page of such text: its items are its characters, it has no calls, and nothing refuses it.
use Rattle.std.proofs.Common.{arith, ◌≡◌, ℕ, true, Option, None, List, [], ◌∷◌, length, take, reverse, take_all, ap, ◌∙◌, append-nil}
use Rattle.std.specs.List.{list_all}
use Rattle.std.specs.Option.{option_or, option_map}
use Rattle.wt_span.specs.declared.form.Mode.TheVariants.{Page}
use Rattle.wt_span.specs.declared.form.LexKind.TheVariants.{Chars}
use Rattle.wt_span.specs.Braces.{Members, lexeme, none, more, members, reduced_onto, reduced, call_count_of_all, calls}
use Rattle.wt_braces.specs.Found.{too_deep}
use Rattle.wt_expand.specs.PageItems.{items_of_words, page_items}
use Rattle.wt_expand.specs.Work.{Pages, entered, braces_too_deep, deep_place, refusal_from, first_refusal}
use Rattle.wt_expand.specs.Expansion.{joined, outputs_of, text_members, page_reading, page_work}
use Rattle.wt_expand.specs.PageCalls.{expanded_page}
use Rattle.wt_expand.proofs.NoCalls.{without_calls}
use Rattle.wt_text_edit_laws.specs.PlainTexts.{is_plain}
use Rattle.wt_text_edit_laws.specs.LonePages.{page_chars, of_items}
use Rattle.wt_text_edit_laws.proofs.Texts.PlainWords.{plain_words}

abbrev one_member : ℕ → List ℕ → Members
one_member b bs = more (lexeme (Chars, length (b ∷ bs))) none

plain_members : (b : ℕ) (bs : List ℕ) → list_all is_plain (b ∷ bs) ≡ true → text_members Page (b ∷ bs) ≡ one_member b bs
unfolding text_members reduced
plain_members b bs e = ap (λ ws. members (reverse (reduced_onto [] ws))) (plain_words Page b bs e)

pub plain_items : (b : ℕ) (bs : List ℕ) → list_all is_plain (b ∷ bs) ≡ true → page_items (b ∷ bs) ≡ page_chars (b ∷ bs)
unfolding page_items
plain_items b bs e =
    ap (λ ws. items_of_words ws (b ∷ bs)) (plain_words Page b bs e)
    ∙ append-nil (page_chars (take (length (b ∷ bs)) (b ∷ bs)))
    ∙ ap page_chars (take_all (length (b ∷ bs)) (b ∷ bs) (omega arith))

pub plain_expanded : (pages : Pages) (b : ℕ) (bs : List ℕ) → list_all is_plain (b ∷ bs) ≡ true
    → expanded_page pages (b ∷ bs) ≡ of_items (page_chars (b ∷ bs))
plain_expanded pages b bs e =
    without_calls pages (b ∷ bs) (ap call_count_of_all (plain_members b bs e)) ∙ ap of_items (plain_items b bs e)

-- ---- nothing is refused

plain_work : (pages : Pages) (b : ℕ) (bs : List ℕ) → list_all is_plain (b ∷ bs) ≡ true → page_work pages (b ∷ bs) ≡ entered None ∷ []
unfolding page_work
plain_work pages b bs e =
    ap (λ ms. entered None ∷ (joined (outputs_of (page_reading pages) true (b ∷ bs) ms)).work) (plain_members b bs e)

not_deep : (b : ℕ) (bs : List ℕ) → list_all is_plain (b ∷ bs) ≡ true → deep_place Page (b ∷ bs) ≡ None
unfolding deep_place too_deep calls reduced
not_deep b bs e = ap (λ ws. too_deep (calls 0 ws)) (plain_words Page b bs e)

pub plain_unrefused : (pages : Pages) (b : ℕ) (bs : List ℕ) → list_all is_plain (b ∷ bs) ≡ true
    → first_refusal pages (b ∷ bs) (page_work pages (b ∷ bs)) ≡ None
unfolding first_refusal
plain_unrefused pages b bs e =
    ap (refusal_from pages (b ∷ bs) 0) (plain_work pages b bs e)
    ∙ ap (λ (o : Option ℕ). option_or (option_map (braces_too_deep None) o) None) (not_deep b bs e)
