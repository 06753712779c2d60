-- What somebody types has no calls, whatever it is: no lexeme of what is spelled is a run of closing braces.
use Rattle.std.proofs.Common.{arith, ◌≡◌, ℕ, ◌+◌, Bool, true, false, Option, Some, None, List, [], ◌∷◌, ◌++◌, take, drop, reverse, refl, sym, ap, ◌∙◌, subst}
use Rattle.std.specs.Prelude.{◌-◌, option_map, if◌then◌else◌, slice_index, encode_utf8}
use Rattle.std.specs.Option.{option_or}
use Rattle.std.specs.Str.{bytes_eq, IsUtf8}
use Rattle.std.proofs.lemmas.List.{reverse-append}
use Rattle.wt_span.specs.declared.form.Mode.TheVariants.{Page}
use Rattle.wt_span.specs.declared.form.LexKind.{LexKind}
use Rattle.wt_span.specs.declared.form.LexKind.TheVariants.{Chars, CommentLine, Comment, Raw, Include, Hidden, Entity, Opens, Closes, LinkOpen, LinkClose, Pipe, Equals}
use Rattle.wt_span.specs.Bytes.{is_break}
use Rattle.wt_span.specs.Lexemes.{Word, words}
use Rattle.wt_span.specs.Braces.{Member, lexeme, call, members, reduced_onto, reduced, call_count_of_all, calls, calls_of_all}
use Rattle.wt_braces.specs.Found.{too_deep}
use Rattle.wt_guards.specs.Content.{letters}
use Rattle.wt_guards.specs.Guards.{Setting, nowiki, spelled}
use Rattle.wt_expand.specs.PageItems.{page_items}
use Rattle.wt_expand.specs.Work.{Pages, entered, braces_too_deep, deep_place, refusal_from, first_refusal}
use Rattle.wt_expand.specs.Expansion.{Reading, joined, outputs_of, text_members, page_reading, page_work}
use Rattle.wt_expand.specs.PageCalls.{expanded_page}
use Rattle.wt_expand.proofs.NoCalls.{without_calls}
use Rattle.wt_typed_blocks.specs.Reading.{shown_by, joined as joined_text, shown_words, read_text}
use Rattle.wt_typed_blocks.proofs.TextReads.{text_reads_back}
use Rattle.wt_text_edit_laws.specs.LonePages.{of_items}

-- ---- words that aren't runs of closing braces

abbrev pub IsNoCloser : LexKind → Type 0
IsNoCloser Chars = Unit {0}
IsNoCloser CommentLine = Unit {0}
IsNoCloser Comment = Unit {0}
IsNoCloser Raw = Unit {0}
IsNoCloser Include = Unit {0}
IsNoCloser Hidden = Unit {0}
IsNoCloser (Entity c) = Unit {0}
IsNoCloser Opens = Unit {0}
IsNoCloser Closes = ⊥
IsNoCloser LinkOpen = Unit {0}
IsNoCloser LinkClose = Unit {0}
IsNoCloser Pipe = Unit {0}
IsNoCloser Equals = Unit {0}

abbrev pub HaveNoClosers : List Word → Type 0
HaveNoClosers [] = Unit {0}
HaveNoClosers ((kind, n) ∷ ws) = IsNoCloser kind × HaveNoClosers ws

-- what is left shows something, too
rest_shows : (u t : List ℕ) (o : Option (List ℕ)) → option_map (λ cs. u ++ cs) o ≡ Some t → (v : List ℕ) × (o ≡ Some v)
rest_shows u t None e = cc
rest_shows u t (Some v) e = (v, refl)

raw_shows : (b : Bool) (t : List ℕ) (o : Option (List ℕ)) → joined_text (if b then Some [] else None) o ≡ Some t → (v : List ℕ) × (o ≡ Some v)
raw_shows true t o e = rest_shows [] t o e
raw_shows false t o e = cc

both_show : (kind : LexKind) (bs t : List ℕ) (o : Option (List ℕ)) → joined_text (shown_by kind bs) o ≡ Some t → IsNoCloser kind × (v : List ℕ) × (o ≡ Some v)
both_show Chars bs t o e = let r = rest_shows bs t o e in (tt, r.0, r.1)
both_show CommentLine bs t o e = absurd (cc)
both_show Comment bs t o e = absurd (cc)
both_show Raw bs t o e = let r = raw_shows (bytes_eq bs nowiki) t o e in (tt, r.0, r.1)
both_show Include bs t o e = absurd (cc)
both_show Hidden bs t o e = absurd (cc)
both_show (Entity c) bs t o e = let r = rest_shows (encode_utf8 c) t o e in (tt, r.0, r.1)
both_show Opens bs t o e = absurd (cc)
both_show Closes bs t o e = cc
both_show LinkOpen bs t o e = absurd (cc)
both_show LinkClose bs t o e = absurd (cc)
both_show Pipe bs t o e = absurd (cc)
both_show Equals bs t o e = let r = rest_shows bs t o e in (tt, r.0, r.1)

all_shown : (ws : List Word) (bs t : List ℕ) → shown_words bs ws ≡ Some t → HaveNoClosers ws
all_shown [] bs t e = tt
all_shown ((kind, n) ∷ ws) bs t e =
    let r = both_show kind (take n bs) t (shown_words (drop n bs) ws) e in
    (r.0, all_shown ws (drop n bs) r.1 r.2)

-- ---- members without calls

abbrev pub AreLexemes : List Member → Type 0
AreLexemes [] = Unit {0}
AreLexemes (lexeme w ∷ ms) = AreLexemes ms
AreLexemes (call k inside ∷ ms) = ⊥

pub onto_lexemes : (ws : List Word) (before : List Member) → HaveNoClosers ws → AreLexemes before → AreLexemes (reduced_onto before ws)
onto_lexemes [] before h l = l
onto_lexemes ((Chars, n) ∷ ws) before h l = onto_lexemes ws (lexeme (Chars, n) ∷ before) h.1 l
onto_lexemes ((CommentLine, n) ∷ ws) before h l = onto_lexemes ws (lexeme (CommentLine, n) ∷ before) h.1 l
onto_lexemes ((Comment, n) ∷ ws) before h l = onto_lexemes ws (lexeme (Comment, n) ∷ before) h.1 l
onto_lexemes ((Raw, n) ∷ ws) before h l = onto_lexemes ws (lexeme (Raw, n) ∷ before) h.1 l
onto_lexemes ((Include, n) ∷ ws) before h l = onto_lexemes ws (lexeme (Include, n) ∷ before) h.1 l
onto_lexemes ((Hidden, n) ∷ ws) before h l = onto_lexemes ws (lexeme (Hidden, n) ∷ before) h.1 l
onto_lexemes ((Entity c, n) ∷ ws) before h l = onto_lexemes ws (lexeme (Entity c, n) ∷ before) h.1 l
onto_lexemes ((Opens, n) ∷ ws) before h l = onto_lexemes ws (lexeme (Opens, n) ∷ before) h.1 l
onto_lexemes ((Closes, n) ∷ ws) before h l = absurd h.0
onto_lexemes ((LinkOpen, n) ∷ ws) before h l = onto_lexemes ws (lexeme (LinkOpen, n) ∷ before) h.1 l
onto_lexemes ((LinkClose, n) ∷ ws) before h l = onto_lexemes ws (lexeme (LinkClose, n) ∷ before) h.1 l
onto_lexemes ((Pipe, n) ∷ ws) before h l = onto_lexemes ws (lexeme (Pipe, n) ∷ before) h.1 l
onto_lexemes ((Equals, n) ∷ ws) before h l = onto_lexemes ws (lexeme (Equals, n) ∷ before) h.1 l

both_lexemes : (xs ys : List Member) → AreLexemes xs → AreLexemes ys → AreLexemes (xs ++ ys)
both_lexemes [] ys h l = l
both_lexemes (lexeme w ∷ xs) ys h l = both_lexemes xs ys h l
both_lexemes (call k inside ∷ xs) ys h l = absurd h

pub reverse_lexemes : (xs : List Member) → AreLexemes xs → AreLexemes (reverse xs)
reverse_lexemes [] h = tt
reverse_lexemes (lexeme w ∷ xs) h = subst AreLexemes (sym (reverse-append (lexeme w ∷ []) xs)) (both_lexemes (reverse xs) (lexeme w ∷ []) (reverse_lexemes xs h) tt)
reverse_lexemes (call k inside ∷ xs) h = absurd h

reduced_lexemes : (ws : List Word) → HaveNoClosers ws → AreLexemes (reduced ws)
unfolding reduced
reduced_lexemes ws h = reverse_lexemes (reduced_onto [] ws) (onto_lexemes ws [] h tt)

-- ---- what they give

no_calls : (ms : List Member) → AreLexemes ms → call_count_of_all (members ms) ≡ 0
no_calls [] h = refl
no_calls (lexeme w ∷ ms) h = omega (arith, no_calls ms h)
no_calls (call k inside ∷ ms) h = absurd h

no_places : (at n : ℕ) (parent : Option ℕ) (ms : List Member) → AreLexemes ms → calls_of_all at parent n (members ms) ≡ []
no_places at n parent [] h = refl
no_places at n parent (lexeme w ∷ ms) h = no_places (at + w.1) (n + 0) parent ms h
no_places at n parent (call k inside ∷ ms) h = absurd h

no_work : (r : Reading) (start : Bool) (bs : List ℕ) (ms : List Member) → AreLexemes ms → (joined (outputs_of r start bs (members ms))).work ≡ []
no_work r start bs [] h = refl
no_work r start bs (lexeme (kind, n) ∷ ms) h = no_work r (is_break (slice_index bs (n - 1))) (drop n bs) ms h
no_work r start bs (call k inside ∷ ms) h = absurd h

-- ---- a page whose words show something

page_members : (bs : List ℕ) → HaveNoClosers (words Page bs) → AreLexemes (reduced (words Page bs))
page_members bs h = reduced_lexemes (words Page bs) h

-- a page whose lexemes make no calls
pub lexemes_expanded : (pages : Pages) (bs : List ℕ) → AreLexemes (reduced (words Page bs)) → expanded_page pages bs ≡ of_items (page_items bs)
unfolding text_members
lexemes_expanded pages bs h = without_calls pages bs (no_calls (reduced (words Page bs)) h)

pub lexemes_work : (pages : Pages) (bs : List ℕ) → AreLexemes (reduced (words Page bs)) → page_work pages bs ≡ entered None ∷ []
unfolding page_work text_members
lexemes_work pages bs h = ap (λ es. entered None ∷ es) (no_work (page_reading pages) true bs (reduced (words Page bs)) h)

pub lexemes_flat : (bs : List ℕ) → AreLexemes (reduced (words Page bs)) → deep_place Page bs ≡ None
unfolding deep_place too_deep calls
lexemes_flat bs h = ap too_deep (no_places 0 0 None (reduced (words Page bs)) h)

pub lexemes_unrefused : (pages : Pages) (bs : List ℕ) → AreLexemes (reduced (words Page bs)) → first_refusal pages bs (page_work pages bs) ≡ None
unfolding first_refusal
lexemes_unrefused pages bs h =
    ap (refusal_from pages bs 0) (lexemes_work pages bs h)
    ∙ ap (λ (o : Option ℕ). option_or (option_map (braces_too_deep None) o) None) (lexemes_flat bs h)

shown_expanded : (pages : Pages) (bs : List ℕ) → HaveNoClosers (words Page bs) → expanded_page pages bs ≡ of_items (page_items bs)
shown_expanded pages bs h = lexemes_expanded pages bs (page_members bs h)

shown_unrefused : (pages : Pages) (bs : List ℕ) → HaveNoClosers (words Page bs) → first_refusal pages bs (page_work pages bs) ≡ None
shown_unrefused pages bs h = lexemes_unrefused pages bs (page_members bs h)

-- ---- a page that is what was typed

typed_words : (s : Setting) (text : List ℕ) → IsUtf8 text → HaveNoClosers (words Page (spelled s (letters text)))
unfolding read_text
typed_words s text u =
    let bs : List ℕ = spelled s (letters text) in
    all_shown (words Page bs) bs text (text_reads_back Page s text u)

pub typed_expanded : (pages : Pages) (s : Setting) (text : List ℕ) → IsUtf8 text
    → expanded_page pages (spelled s (letters text)) ≡ of_items (page_items (spelled s (letters text)))
typed_expanded pages s text u = shown_expanded pages (spelled s (letters text)) (typed_words s text u)

pub typed_unrefused : (pages : Pages) (s : Setting) (text : List ℕ) → IsUtf8 text
    → first_refusal pages (spelled s (letters text)) (page_work pages (spelled s (letters text))) ≡ None
typed_unrefused pages s text u = shown_unrefused pages (spelled s (letters text)) (typed_words s text u)
