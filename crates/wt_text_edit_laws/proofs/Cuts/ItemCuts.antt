-- The items of a page, cut anywhere: the first of them are those of their source by itself, and the others those of what follows.
use Rattle.std.proofs.Common.{arith, ◌≡◌, ◌⊎◌, inl, inr, ℕ, zero, suc, ◌+◌, ◌-◌, ◌<◌, ◌≤◌, Bool, true, false, Option, Some, None, List, [], ◌∷◌, ◌++◌, length, take, refl, sym, ap, ◌∙◌, subst, append-nil, length-append}
use Rattle.std.specs.Prelude.{not, if◌then◌else◌}
use Rattle.std.proofs.lemmas.Bool.{cases_lt}
use Rattle.std.proofs.lemmas.List.{take-append-le, take_all}
use Rattle.std.proofs.Math.Seq.{take-append_seam}
use Rattle.wt_span.specs.declared.form.Mode.TheVariants.{Page}
use Rattle.wt_span.specs.declared.form.LexKind.{LexKind}
use Rattle.wt_span.specs.declared.form.LexKind.TheVariants.{Chars, CommentLine, Comment, Raw, Include, Hidden, Entity, Opens, Closes, LinkOpen, LinkClose, Pipe, Equals}
use Rattle.wt_span.specs.declared.form.ItemForm.{ItemForm}
use Rattle.wt_span.specs.declared.form.ItemForm.TheVariants as form
use Rattle.wt_span.specs.Bytes.{is_break}
use Rattle.wt_span.specs.Items.{Item, char, whole, source, sources, items_by}
use Rattle.wt_span.specs.Lexemes.{Word, form_at}
use Rattle.wt_span.specs.Tags.{Tag, opening_tag, is_nowiki}
use Rattle.wt_lex.proofs.AllForms.{form_fits}
use Rattle.wt_expand.specs.PageItems.{raw_form_by, form_of, items_of_word, page_items}
use Rattle.wt_expand.proofs.PageLaws.{char_sources, form_sources}
use Rattle.wt_part_laws.specs.Lexer.{lexer}
use Rattle.wt_part_laws.specs.Scans.{after_all, skipped_by, Settles, IsFrontOf}
use Rattle.wt_part_laws.proofs.LexemeFronts.{lexemes_front}
use Rattle.wt_text_edit_laws.specs.LonePages.{page_chars}
use Rattle.wt_text_edit_laws.specs.TextBetween.{EndsBy, StandsBehind}
use Rattle.wt_text_edit_laws.proofs.Prose.Uncommented.{BeginsUncommented}
use Rattle.wt_text_edit_laws.proofs.Between.Fronts.{first_items, items_from, first_from, byte_from, form_from, reads_either}
use Rattle.wt_text_edit_laws.proofs.Between.LineComments.{ends_behind}
use Rattle.wt_text_edit_laws.proofs.Cuts.SignBytes.{is_sign_byte, AreSigns, IsAnyWord, any_word, signs_read}

-- ---- items have bytes

abbrev pub HaveBytes : List Item → Type 0
HaveBytes [] = Unit {0}
HaveBytes (x ∷ xs) = (1 ≤ length (source x)) × HaveBytes xs

abbrev pub bytes : List Item → ℕ
bytes xs = length (sources xs)

have_front : (xs ys : List Item) → HaveBytes (xs ++ ys) → HaveBytes xs
have_front [] ys h = tt
have_front (x ∷ xs) ys h = (h.0, have_front xs ys h.1)

have_behind : (xs ys : List Item) → HaveBytes (xs ++ ys) → HaveBytes ys
have_behind [] ys h = h
have_behind (x ∷ xs) ys h = have_behind xs ys h.1

have_both : (xs ys : List Item) → HaveBytes xs → HaveBytes ys → HaveBytes (xs ++ ys)
have_both [] ys h g = g
have_both (x ∷ xs) ys h g = (h.0, have_both xs ys h.1 g)

chars_have : (bs : List ℕ) → HaveBytes (page_chars bs)
chars_have [] = tt
chars_have (b ∷ bs) = (omega arith, chars_have bs)

word_has : (f : ItemForm) (b : ℕ) (bs : List ℕ) → HaveBytes (items_by f None (b ∷ bs))
word_has form.Chars b bs = chars_have (b ∷ bs)
word_has (form.Entity c) b bs = (omega arith, tt)
word_has form.Nowiki b bs = (omega arith, tt)
word_has form.Extension b bs = (omega arith, tt)
word_has form.Function b bs = (omega arith, tt)
word_has form.Comment b bs = (omega arith, tt)
word_has form.Include b bs = (omega arith, tt)
word_has form.Hidden b bs = (omega arith, tt)
word_has form.EmptyCall b bs = (omega arith, tt)

from_by : (a : Bool) (b : ℕ) (bs : List ℕ) (o : Option Word) → form_at Page a (b ∷ bs) ≡ o → ((n : ℕ) → HaveBytes (items_from (is_break b) n bs))
    → HaveBytes (items_from a 0 (b ∷ bs))
from_by a b bs None e go = subst HaveBytes (sym (byte_from a b bs e)) (omega arith, go 0)
from_by a b bs (Some (kind, zero)) e go = let fits = form_fits Page a (b ∷ bs) (kind, zero) e in absurd (omega (arith, fits.some))
from_by a b bs (Some (kind, suc j)) e go =
    let word : List ℕ = b ∷ take j bs in
    subst HaveBytes (sym (form_from a b bs kind j e))
    (have_both (items_of_word kind word) (items_from (is_break b) j bs) (word_has (form_of kind word) b (take j bs)) (go j))

pub from_has : (a : Bool) (n : ℕ) (bs : List ℕ) → HaveBytes (items_from a n bs)
from_has a zero [] = tt
from_has a (suc n) [] = tt
from_has a (suc n) (b ∷ bs) = from_has (is_break b) n bs
from_has a zero (b ∷ bs) = from_by a b bs (form_at Page a (b ∷ bs)) refl (λ n. from_has (is_break b) n bs)

none_left : (xs : List Item) → HaveBytes xs → bytes xs ≡ 0 → xs ≡ []
none_left [] h e = refl
none_left (x ∷ xs) h e = let c = length-append (source x) (sources xs) in absurd (omega (arith, h.0, e, c))

-- ---- items cut at another place

-- so many items that the first come first in them
pub record Further (ps rest ys zs : List Item) : Type 0 where
  pub us : List Item
  pub ys_are : ys ≡ ps ++ us
  pub rest_are : rest ≡ us ++ zs

first_or : Item → List Item → Item
first_or x [] = x
first_or x (y ∷ ys) = y

others : List Item → List Item
others [] = []
others (y ∷ ys) = ys

bytes_first : (x : Item) (xs : List Item) → bytes (x ∷ xs) ≡ length (source x) + bytes xs
bytes_first x xs = length-append (source x) (sources xs)

bytes_both : (xs us : List Item) → bytes (xs ++ us) ≡ bytes xs + bytes us
bytes_both [] us = let z : bytes us ≡ 0 + bytes us = omega arith in z
bytes_both (x ∷ xs) us =
    let c = bytes_first x (xs ++ us) in
    let d = bytes_first x xs in
    let i = bytes_both xs us in
    omega (arith, c, d, i)

more_first : (p y : Item) (ps rest ys zs : List Item) → p ≡ y → Further ps rest ys zs → Further (p ∷ ps) rest (y ∷ ys) zs
more_first p y ps rest ys zs e f = record {
  us = f.us;
  ys_are = ap (λ (x : Item). x ∷ ys) (sym e) ∙ ap (λ (xs : List Item). p ∷ xs) f.ys_are;
  rest_are = f.rest_are;
}

pub further : (ps rest ys zs : List Item) → HaveBytes ps → bytes ps ≤ bytes ys → ps ++ rest ≡ ys ++ zs → Further ps rest ys zs
unfolding first_or others
further [] rest ys zs h le e = record { us = ys; ys_are = refl; rest_are = e }
further (p ∷ ps) rest [] zs h le e = let b = bytes_first p ps in absurd (omega (arith, h.0, le, b))
further (p ∷ ps) rest (y ∷ ys) zs h le e =
    let first : p ≡ y = ap (first_or p) e in
    let rests : ps ++ rest ≡ ys ++ zs = ap others e in
    let size : length (source p) ≡ length (source y) = ap (λ (x : Item). length (source x)) first in
    let b = bytes_first p ps in
    let c = bytes_first y ys in
    more_first p y ps rest ys zs first (further ps rest ys zs h.1 (omega (arith, le, size, b, c)) rests)

-- ---- a form that goes over the cut

-- one that is one item is no longer than what is before the cut
one_fits : (f : ItemForm) (own rest zs : List Item) (bs : List ℕ) (ys : List Item) → own ≡ whole f None bs ∷ [] → 1 ≤ bytes ys → own ++ rest ≡ ys ++ zs
    → length bs ≤ bytes ys
unfolding first_or
one_fits f own rest zs bs [] e some same = absurd (omega (arith, some))
one_fits f own rest zs bs (y ∷ ys) e some same =
    let all : whole f None bs ∷ rest ≡ y ∷ (ys ++ zs) = sym (ap (λ (os : List Item). os ++ rest) e) ∙ same in
    let size : length bs ≡ length (source y) = ap (λ (xs : List Item). length (source (first_or y xs))) all in
    let c = bytes_first y ys in
    omega (arith, size, c)

-- a raw form is one item, too
raw_one : (bs : List ℕ) → (f : ItemForm) × (items_of_word Raw bs ≡ whole f None bs ∷ [])
raw_one bs = by_tag (opening_tag bs)
  where
    by_name : (t : Bool) → (f : ItemForm) × (items_by (if t then form.Nowiki else form.Extension) None bs ≡ whole f None bs ∷ [])
    by_name true = (form.Nowiki, refl)
    by_name false = (form.Extension, refl)

    by_tag : (o : Option Tag) → (f : ItemForm) × (items_by (raw_form_by o) None bs ≡ whole f None bs ∷ [])
    by_tag None = (form.Extension, refl)
    by_tag (Some t) = by_name (is_nowiki t.name)

-- so it is a sign
crossed : (kind : LexKind) (bs : List ℕ) (rest ys zs : List Item) → IsAnyWord kind bs → 1 ≤ bytes ys → bytes ys < length bs
    → items_of_word kind bs ++ rest ≡ ys ++ zs → AreSigns bs
crossed Chars bs rest ys zs h some lt same = absurd h
crossed CommentLine bs rest ys zs h some lt same = let l = one_fits form.Comment (items_of_word CommentLine bs) rest zs bs ys refl some same in absurd (omega (arith, l, lt))
crossed Comment bs rest ys zs h some lt same = let l = one_fits form.Comment (items_of_word Comment bs) rest zs bs ys refl some same in absurd (omega (arith, l, lt))
crossed Raw bs rest ys zs h some lt same =
    let o = raw_one bs in
    let l = one_fits o.0 (items_of_word Raw bs) rest zs bs ys o.1 some same in
    absurd (omega (arith, l, lt))
crossed Include bs rest ys zs h some lt same = let l = one_fits form.Include (items_of_word Include bs) rest zs bs ys refl some same in absurd (omega (arith, l, lt))
crossed Hidden bs rest ys zs h some lt same = let l = one_fits form.Hidden (items_of_word Hidden bs) rest zs bs ys refl some same in absurd (omega (arith, l, lt))
crossed (Entity c) bs rest ys zs h some lt same = let l = one_fits (form.Entity c) (items_of_word (Entity c) bs) rest zs bs ys refl some same in absurd (omega (arith, l, lt))
crossed Opens bs rest ys zs h some lt same = h
crossed Closes bs rest ys zs h some lt same = h
crossed LinkOpen bs rest ys zs h some lt same = h
crossed LinkClose bs rest ys zs h some lt same = h
crossed Pipe bs rest ys zs h some lt same = h
crossed Equals bs rest ys zs h some lt same = h

signs_fewer : (m n : ℕ) (bs : List ℕ) → m ≤ n → AreSigns (take n bs) → AreSigns (take m bs)
signs_fewer zero n [] le h = tt
signs_fewer zero n (b ∷ bs) le h = tt
signs_fewer (suc m) zero bs le h = absurd (omega (arith, le))
signs_fewer (suc m) (suc n) [] le h = tt
signs_fewer (suc m) (suc n) (b ∷ bs) le h = (h.0, signs_fewer m n bs (omega (arith, le)) h.1)

-- ---- where a cut is at no sign

abbrev pub is_plain : ℕ → Bool
is_plain b = not (is_sign_byte b)

abbrev pub BeginsBy : (ℕ → Bool) → List ℕ → Type 0
BeginsBy test [] = Unit {0}
BeginsBy test (b ∷ bs) = test b ≡ true

-- the last byte before it belongs to no sign, or the first behind it
abbrev pub IsEdge : List ℕ → List ℕ → Type 0
IsEdge q rest = EndsBy is_plain q ⊎ BeginsBy is_plain rest

edge_behind : (b : ℕ) (q rest : List ℕ) → IsEdge (b ∷ q) rest → IsEdge q rest
edge_behind b q rest (inl e) = inl (ends_behind is_plain b q e)
edge_behind b q rest (inr e) = inr e

not_both : (b : ℕ) → is_sign_byte b ≡ true → is_plain b ≡ true → ⊥
not_both b s p = let no : false ≡ true = sym (ap not s) ∙ p in cc

no_end : (b : ℕ) (q : List ℕ) → AreSigns (b ∷ q) → EndsBy is_plain (b ∷ q) → ⊥
no_end b [] s e = not_both b s.0 e
no_end b (c ∷ q) s e = no_end c q s.1 e

no_front : (q : List ℕ) (n : ℕ) (rest : List ℕ) → length q < n → n ≤ length (q ++ rest) → AreSigns (take n (q ++ rest)) → BeginsBy is_plain rest → ⊥
no_front [] zero rest lt le s e = omega (arith, lt)
no_front [] (suc n) [] lt le s e = omega (arith, le)
no_front [] (suc n) (c ∷ rest) lt le s e = not_both c s.0 e
no_front (b ∷ q) zero rest lt le s e = omega (arith, lt)
no_front (b ∷ q) (suc n) rest lt le s e = no_front q n rest (omega (arith, lt)) (omega (arith, le)) s.1 e

no_edge : (b : ℕ) (q rest : List ℕ) (n : ℕ) → length (b ∷ q) < n → n ≤ length ((b ∷ q) ++ rest) → AreSigns (take n ((b ∷ q) ++ rest)) → AreSigns (b ∷ q)
    → IsEdge (b ∷ q) rest → ⊥
no_edge b q rest n lt le s own (inl e) = no_end b q own e
no_edge b q rest n lt le s own (inr e) = no_front (b ∷ q) n rest lt le s e

-- ---- the cut

-- the items before it are read of what is before it alone, and so are those behind it; and at no sign every lexeme before it is the same alone
pub record CutAt (a : Bool) (n : ℕ) (q rest : List ℕ) (ys zs : List Item) : Type 0 where
  pub front : items_from a n q ≡ ys
  pub behind : items_from (after_all (lexer Page) a q) 0 rest ≡ zs
  pub settles : IsEdge q rest → Settles (lexer Page) rest a n q

abbrev Cuts : List ℕ → List Item → Bool → ℕ → List ℕ → Type 0
Cuts rest zs a n q =
    (ys : List Item) → n ≤ length q → HaveBytes ys → items_from a n (q ++ rest) ≡ ys ++ zs → bytes ys + n ≡ length q → CutAt a n q rest ys zs

-- no form: of the front neither
byte_front : (a : Bool) (b : ℕ) (q rest : List ℕ) → form_at Page a (b ∷ (q ++ rest)) ≡ None → form_at Page a (b ∷ q) ≡ None
byte_front a b q rest f =
    let P : Option Word → Type 0 = λ o. IsFrontOf (lexer Page) (b ∷ q) o (form_at Page a (b ∷ q)) in
    subst P f (lexemes_front Page a (b ∷ q) rest)

word_front : (a : Bool) (b : ℕ) (q rest : List ℕ) (kind : LexKind) (j : ℕ) → form_at Page a (b ∷ (q ++ rest)) ≡ Some (kind, suc j) → j ≤ length q
    → form_at Page a (b ∷ q) ≡ Some (kind, suc j)
word_front a b q rest kind j f le =
    let P : Option Word → Type 0 = λ o. IsFrontOf (lexer Page) (b ∷ q) o (form_at Page a (b ∷ q)) in
    let h = subst P f (lexemes_front Page a (b ∷ q) rest) in
    h (omega (arith, le))

settled_by : (a : Bool) (b : ℕ) (q rest : List ℕ) (o : Option Word) (k : ℕ) → form_at Page a (b ∷ (q ++ rest)) ≡ o → form_at Page a (b ∷ q) ≡ o
    → skipped_by (lexer Page) o ≡ k → Settles (lexer Page) rest (is_break b) k q → Settles (lexer Page) rest a 0 (b ∷ q)
settled_by a b q rest o k f g size h =
    let P : ℕ → Type 0 = λ n. Settles (lexer Page) rest (is_break b) n q in
    (f ∙ sym g, subst P (sym (ap (skipped_by (lexer Page)) g ∙ size)) h)

cut_byte : (rest : List ℕ) (zs : List Item) (a : Bool) (b : ℕ) (q : List ℕ) (ys : List Item) → form_at Page a (b ∷ (q ++ rest)) ≡ None
    → HaveBytes ys → items_from a 0 (b ∷ (q ++ rest)) ≡ ys ++ zs → bytes ys + 0 ≡ suc (length q) → Cuts rest zs (is_break b) 0 q
    → CutAt a 0 (b ∷ q) rest ys zs
cut_byte rest zs a b q ys f h e s go =
    let own : List Item = char None b ∷ [] in
    let more : List Item = items_from (is_break b) 0 (q ++ rest) in
    let all : own ++ more ≡ ys ++ zs = sym (byte_from a b (q ++ rest) f) ∙ e in
    let m = further own more ys zs (omega arith, tt) (omega (arith, s)) all in
    let size : bytes ys ≡ suc (bytes m.us) = ap bytes m.ys_are in
    let c = go m.us (omega arith) (have_behind own m.us (subst HaveBytes m.ys_are h)) m.rest_are (omega (arith, size, s)) in
    let alone = byte_front a b q rest f in
    record {
      front = byte_from a b q alone ∙ ap (λ (us : List Item). char None b ∷ us) c.front ∙ sym m.ys_are;
      behind = c.behind;
      settles = λ edge. settled_by a b q rest None 0 f alone refl (c.settles (edge_behind b q rest edge));
    }

taken : (j : ℕ) (bs : List ℕ) → j ≤ length bs → length (take j bs) ≡ j
taken zero [] le = refl
taken zero (b ∷ bs) le = refl
taken (suc j) [] le = absurd (omega (arith, le))
taken (suc j) (b ∷ bs) le = ap suc (taken j bs (omega (arith, le)))

cut_word : (rest : List ℕ) (zs : List Item) (a : Bool) (b : ℕ) (q : List ℕ) (ys : List Item) (kind : LexKind) (j : ℕ)
    → form_at Page a (b ∷ (q ++ rest)) ≡ Some (kind, suc j) → j ≤ length q → HaveBytes ys → items_from a 0 (b ∷ (q ++ rest)) ≡ ys ++ zs
    → bytes ys + 0 ≡ suc (length q) → Cuts rest zs (is_break b) j q → CutAt a 0 (b ∷ q) rest ys zs
cut_word rest zs a b q ys kind j f le h e s go =
    let word : List ℕ = b ∷ take j q in
    let own : List Item = items_of_word kind word in
    let more : List Item = items_from (is_break b) j (q ++ rest) in
    let same : items_of_word kind (b ∷ take j (q ++ rest)) ≡ own = ap (λ (bs : List ℕ). items_of_word kind (b ∷ bs)) (take-append-le j q rest le) in
    let all : own ++ more ≡ ys ++ zs = sym (ap (λ (xs : List Item). xs ++ more) same) ∙ sym (form_from a b (q ++ rest) kind j f) ∙ e in
    let own_size : bytes own ≡ suc j = ap length (form_sources (form_of kind word) word) ∙ ap suc (taken j q le) in
    let m = further own more ys zs (word_has (form_of kind word) b (take j q)) (omega (arith, own_size, le, s)) all in
    let size : bytes ys ≡ bytes own + bytes m.us = ap bytes m.ys_are ∙ bytes_both own m.us in
    let c = go m.us le (have_behind own m.us (subst HaveBytes m.ys_are h)) m.rest_are (omega (arith, size, own_size, s)) in
    let alone = word_front a b q rest kind j f le in
    let z : suc j - 1 ≡ j = omega arith in
    record {
      front = form_from a b q kind j alone ∙ ap (λ (us : List Item). own ++ us) c.front ∙ sym m.ys_are;
      behind = c.behind;
      settles = λ edge. settled_by a b q rest (Some (kind, suc j)) j f alone z (c.settles (edge_behind b q rest edge));
    }

skipped : (a : Bool) (q rest : List ℕ) → items_from a (length q) (q ++ rest) ≡ items_from (after_all (lexer Page) a q) 0 rest
skipped a [] rest = refl
skipped a (b ∷ q) rest = skipped (is_break b) q rest

nothing_left : (a : Bool) (q : List ℕ) → items_from a (length q) q ≡ []
nothing_left a [] = refl
nothing_left a (b ∷ q) = nothing_left (is_break b) q

-- a sign is cut: its bytes are characters on both sides
cut_sign : (rest : List ℕ) (zs : List Item) (a : Bool) (b : ℕ) (q : List ℕ) (ys : List Item) (n : ℕ) → length (b ∷ q) < n → n ≤ length ((b ∷ q) ++ rest)
    → AreSigns (take n ((b ∷ q) ++ rest)) → HaveBytes ys → items_from a 0 ((b ∷ q) ++ rest) ≡ ys ++ zs → bytes ys + 0 ≡ suc (length q)
    → CutAt a 0 (b ∷ q) rest ys zs
cut_sign rest zs a b q ys n lt le s h e size =
    let own : List ℕ = b ∷ q in
    let more : List Item = items_from (after_all (lexer Page) a own) 0 rest in
    let front : take (length own) (own ++ rest) ≡ own = take-append_seam own rest in
    let short : AreSigns (take (length own) (own ++ rest)) = signs_fewer (length own) n (own ++ rest) (omega (arith, lt)) s in
    let signs : AreSigns own = subst AreSigns front short in
    let all : page_chars own ++ more ≡ ys ++ zs =
    sym (signs_read (own ++ rest) a (length own) (omega (arith, lt, le)) short
    ∙ ap (λ (bs : List ℕ). page_chars bs ++ items_from a (length own) (own ++ rest)) front
    ∙ ap (λ (xs : List Item). page_chars own ++ xs) (skipped a own rest)) ∙ e in
    let own_size : bytes (page_chars own) ≡ suc (length q) = ap length (char_sources own) in
    let m = further (page_chars own) more ys zs (chars_have own) (omega (arith, own_size, size)) all in
    let total : bytes ys ≡ bytes (page_chars own) + bytes m.us = ap bytes m.ys_are ∙ bytes_both (page_chars own) m.us in
    let left : m.us ≡ [] = none_left m.us (have_behind (page_chars own) m.us (subst HaveBytes m.ys_are h)) (omega (arith, total, own_size, size)) in
    let are : ys ≡ page_chars own = m.ys_are ∙ ap (λ (us : List Item). page_chars own ++ us) left ∙ append-nil (page_chars own) in
    let every : take (length own) own ≡ own = take_all (length own) own (omega arith) in
    record {
      front = signs_read own a (length own) (omega arith) (subst AreSigns (sym every) signs)
          ∙ ap (λ (bs : List ℕ). page_chars bs ++ items_from a (length own) own) every
          ∙ ap (λ (xs : List Item). page_chars own ++ xs) (nothing_left a own)
          ∙ append-nil (page_chars own) ∙ sym are;
      behind = m.rest_are ∙ ap (λ (us : List Item). us ++ zs) left;
      settles = λ edge. absurd (no_edge b q rest n lt le s signs edge);
    }

cut_form : (rest : List ℕ) (zs : List Item) (a : Bool) (b : ℕ) (q : List ℕ) (ys : List Item) (kind : LexKind) (j : ℕ)
    → form_at Page a (b ∷ (q ++ rest)) ≡ Some (kind, suc j) → HaveBytes ys → items_from a 0 (b ∷ (q ++ rest)) ≡ ys ++ zs
    → bytes ys + 0 ≡ suc (length q) → Cuts rest zs (is_break b) j q → CutAt a 0 (b ∷ q) rest ys zs
cut_form rest zs a b q ys kind j f h e s go = elim (cases_lt (length q) j) [
  | inl lt ↦
      let bs : List ℕ = q ++ rest in
      let word : List ℕ = b ∷ take j bs in
      let fits = form_fits Page a (b ∷ bs) (kind, suc j) f in
      let long : length (take j bs) ≡ j = taken j bs (omega (arith, fits.within)) in
      let all : items_of_word kind word ++ items_from (is_break b) j bs ≡ ys ++ zs = sym (form_from a b bs kind j f) ∙ e in
      let signs : AreSigns word =
      crossed kind word (items_from (is_break b) j bs) ys zs (any_word a (b ∷ bs) kind (suc j) f) (omega (arith, s)) (omega (arith, s, long, lt)) all in
      cut_sign rest zs a b q ys (suc j) (omega (arith, lt)) fits.within signs h e s
  | inr le ↦ cut_word rest zs a b q ys kind j f le h e s go
]

cut_by : (rest : List ℕ) (zs : List Item) (a : Bool) (b : ℕ) (q : List ℕ) (ys : List Item) (o : Option Word) → form_at Page a (b ∷ (q ++ rest)) ≡ o
    → HaveBytes ys → items_from a 0 (b ∷ (q ++ rest)) ≡ ys ++ zs → bytes ys + 0 ≡ suc (length q) → ((n : ℕ) → Cuts rest zs (is_break b) n q)
    → CutAt a 0 (b ∷ q) rest ys zs
cut_by rest zs a b q ys None f h e s go = cut_byte rest zs a b q ys f h e s (go 0)
cut_by rest zs a b q ys (Some (kind, zero)) f h e s go =
    let fits = form_fits Page a (b ∷ (q ++ rest)) (kind, zero) f in absurd (omega (arith, fits.some))
cut_by rest zs a b q ys (Some (kind, suc j)) f h e s go = cut_form rest zs a b q ys kind j f h e s (go j)

cuts : (rest : List ℕ) (zs : List Item) (a : Bool) (n : ℕ) (q : List ℕ) → Cuts rest zs a n q
cuts rest zs a zero [] ys le h e s =
    let none : ys ≡ [] = none_left ys h (omega (arith, s)) in
    record { front = sym none; behind = e ∙ ap (λ (us : List Item). us ++ zs) none; settles = λ edge. refl }
cuts rest zs a (suc n) [] ys le h e s = absurd (omega (arith, le))
cuts rest zs a (suc n) (b ∷ q) ys le h e s =
    let c = cuts rest zs (is_break b) n q ys (omega (arith, le)) h e (omega (arith, s)) in
    record { front = c.front; behind = c.behind; settles = λ edge. c.settles (edge_behind b q rest edge) }
cuts rest zs a zero (b ∷ q) ys le h e s = cut_by rest zs a b q ys (form_at Page a (b ∷ (q ++ rest))) refl h e s (λ n. cuts rest zs (is_break b) n q)

-- ---- of what is read from a place on

pub cut_from : (a : Bool) (q rest : List ℕ) (ys zs : List Item) → items_from a 0 (q ++ rest) ≡ ys ++ zs → sources ys ≡ q → CutAt a 0 q rest ys zs
cut_from a q rest ys zs e is =
    let have : HaveBytes ys = have_front ys zs (subst HaveBytes e (from_has a 0 (q ++ rest))) in
    let size : bytes ys ≡ length q = ap length is in
    cuts rest zs a 0 q ys (omega arith) have e (omega (arith, size))

-- ---- of a page

pub page_cut : (q rest : List ℕ) (ys zs : List Item) → page_items (q ++ rest) ≡ ys ++ zs → sources ys ≡ q → CutAt false 0 q rest ys zs
page_cut q rest ys zs e is =
    cut_from false q rest ys zs (first_from false (q ++ rest) ∙ sym (first_items (q ++ rest)) ∙ e) is

pub page_from : (q : List ℕ) → page_items q ≡ items_from false 0 q
page_from q = first_items q ∙ sym (first_from false q)

pub front_alone : (q rest : List ℕ) (ys zs : List Item) → page_items (q ++ rest) ≡ ys ++ zs → sources ys ≡ q → page_items q ≡ ys
front_alone q rest ys zs e is = let c = page_cut q rest ys zs e is in page_from q ∙ c.front

-- where no comment begins it, it makes no difference whether a line break is before it
pub alone_after : (a : Bool) (bs : List ℕ) (xs : List Item) → BeginsUncommented bs → items_from a 0 bs ≡ xs → page_items bs ≡ xs
alone_after a bs xs u e = page_from bs ∙ sym (either a bs u) ∙ e
  where
    either : (v : Bool) (cs : List ℕ) → BeginsUncommented cs → items_from v 0 cs ≡ items_from false 0 cs
    either v cs w =
        let r = reads_either cs (page_items cs) w (record { items = sym (first_items cs) }) in
        first_from v cs ∙ r.items v ∙ page_from cs

pub behind_alone : (q rest : List ℕ) (ys zs : List Item) → BeginsUncommented rest → page_items (q ++ rest) ≡ ys ++ zs → sources ys ≡ q
    → page_items rest ≡ zs
behind_alone q rest ys zs u e is =
    let c = page_cut q rest ys zs e is in alone_after (after_all (lexer Page) false q) rest zs u c.behind

pub behind_stands : (q rest : List ℕ) (ys zs : List Item) → page_items (q ++ rest) ≡ ys ++ zs → sources ys ≡ q → StandsBehind rest → page_items rest ≡ zs
behind_stands q rest ys zs e is s = behind_alone q rest ys zs (record { is = s.uncommented }) e is
