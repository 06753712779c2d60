-- The items of a page: their sources are the page, and none comes from a call.
use Rattle.std.proofs.Common.{◌≡◌, ℕ, Bool, false, None, List, [], ◌∷◌, ◌++◌, length, take, drop, map, refl, sym, ap, ◌∙◌, subst}
use Rattle.std.specs.Prelude.{slice_index, ◌-◌}
use Rattle.std.specs.List.{All}
use Rattle.std.proofs.lemmas.List.{append-nil, take-append-drop}
use Rattle.std.proofs.lemmas.List.Concat.{flat_map-append}
use Rattle.std.proofs.lemmas.List.Elements.{All-nil, All-cons, All-append}
use Rattle.wt_span.specs.declared.form.Mode.TheVariants.{Page}
use Rattle.wt_span.specs.declared.form.ItemForm.{ItemForm}
use Rattle.wt_span.specs.declared.form.ItemForm.TheVariants as form
use Rattle.wt_span.specs.Bytes.{is_break}
use Rattle.wt_span.specs.Lexemes.{Word, words}
use Rattle.wt_span.specs.declared.form.Piece.{Piece}
use Rattle.wt_span.specs.Items.{Item, char, items, items_by, source, sources, call_of}
use Rattle.wt_span.specs.Origins.{OuterCall, Span, AreItems}
use Rattle.wt_lex.specs.declared.lexeme.Lexeme.{Lexeme}
use Rattle.wt_lex.specs.Places.{word_of, Follow}
use Rattle.wt_expand.specs.Made.{AreMade}
use Rattle.wt_expand.proofs.MadePieces.{items_made, are_items}
use Rattle.wt_lex.specs.Reading.{AreLexemes}
use Rattle.wt_lex.proofs.Readings.{words_are}
use Rattle.wt_expand.specs.PageItems.{form_of, items_of_word, items_of_words, page_items}

pub char_sources : (bs : List ℕ) → sources (map (char None) bs) ≡ bs
char_sources [] = refl
char_sources (b ∷ bs) = ap (λ cs. b ∷ cs) (char_sources bs)

pub form_sources : (f : ItemForm) (bs : List ℕ) → sources (items_by f None bs) ≡ bs
form_sources form.Chars bs = char_sources bs
form_sources (form.Entity c) bs = append-nil bs
form_sources form.Nowiki bs = append-nil bs
form_sources form.Extension bs = append-nil bs
form_sources form.Function bs = append-nil bs
form_sources form.Comment bs = append-nil bs
form_sources form.Include bs = append-nil bs
form_sources form.Hidden bs = append-nil bs
form_sources form.EmptyCall bs = append-nil bs

words_sources : (after : Bool) (ws : List Word) (bs : List ℕ) → AreLexemes Page after ws bs → sources (items_of_words ws bs) ≡ bs
words_sources after [] bs a = sym a
words_sources after ((kind, n) ∷ ws) bs a =
    flat_map-append source (items_of_word kind (take n bs)) (items_of_words ws (drop n bs))
    ∙ ap (λ cs. cs ++ sources (items_of_words ws (drop n bs))) (form_sources (form_of kind (take n bs)) (take n bs))
    ∙ ap (λ cs. take n bs ++ cs) (words_sources (is_break (slice_index bs (n - 1))) ws (drop n bs) a.4)
    ∙ take-append-drop n bs

pub page_sources : (page : List ℕ) → sources (page_items page) ≡ page
unfolding page_items
page_sources page = words_sources false (words Page page) page (words_are Page page)

abbrev OfPage : Item → Type 0
OfPage x = call_of x ≡ None

chars_of_page : (bs : List ℕ) → All OfPage (map (char None) bs)
chars_of_page [] = All-nil OfPage
chars_of_page (b ∷ bs) = All-cons OfPage (char None b) (map (char None) bs) refl (chars_of_page bs)

one : (x : Item) → OfPage x → All OfPage (x ∷ [])
one x e = All-cons OfPage x [] e (All-nil OfPage)

form_of_page : (f : ItemForm) (bs : List ℕ) → All OfPage (items_by f None bs)
form_of_page form.Chars bs = chars_of_page bs
form_of_page (form.Entity c) bs = one _ refl
form_of_page form.Nowiki bs = one _ refl
form_of_page form.Extension bs = one _ refl
form_of_page form.Function bs = one _ refl
form_of_page form.Comment bs = one _ refl
form_of_page form.Include bs = one _ refl
form_of_page form.Hidden bs = one _ refl
form_of_page form.EmptyCall bs = one _ refl

words_of_page : (ws : List Word) (bs : List ℕ) → All OfPage (items_of_words ws bs)
words_of_page [] bs = All-nil OfPage
words_of_page ((kind, n) ∷ ws) bs =
    All-append OfPage (items_of_word kind (take n bs)) (items_of_words ws (drop n bs))
    (form_of_page (form_of kind (take n bs)) (take n bs)) (words_of_page ws (drop n bs))

pub page_has_no_calls : (page : List ℕ) → All (λ x. call_of x ≡ None) (page_items page)
unfolding page_items
page_has_no_calls page = words_of_page (words Page page) page

-- ---- the pieces that are made of all lexemes

as_lexemes : (page : List ℕ) (ls : List Lexeme) → map word_of ls ≡ words Page page → AreLexemes Page false (map word_of ls) page
as_lexemes page ls e = let P : List Word → Type 0 = λ ws. AreLexemes Page false ws page in subst P (sym e) (words_are Page page)

pub page_is_sound : (page : List ℕ) (ps : List Piece) (ls xs : List Lexeme) (cs : List OuterCall) (ts : List Span) → xs ≡ ls
    → AreMade page ps xs → Follow 0 ls (length page) → map word_of ls ≡ words Page page
    → cs ≡ [] → ts ≡ [] → AreItems ps cs ts
page_is_sound page ps ls xs cs ts same h f e none no_text =
    let P : List Lexeme → Type 0 = AreMade page ps in
    are_items page ps ls cs ts (subst P same h) f (as_lexemes page ls e) none no_text

pub page_is_whole : (page : List ℕ) (ps : List Piece) (ls xs : List Lexeme) → xs ≡ ls → AreMade page ps xs
    → Follow 0 ls (length page) → map word_of ls ≡ words Page page → items ps ≡ page_items page
unfolding page_items
page_is_whole page ps ls xs same h f e =
    let P : List Lexeme → Type 0 = AreMade page ps in
    items_made page ps ls 0 (length page) (subst P same h) f ∙ ap (λ ws. items_of_words ws page) e
