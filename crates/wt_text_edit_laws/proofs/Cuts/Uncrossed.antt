-- No lexeme goes over the end of a text where the items of it and what follows are those of the text and those behind it, and no run of braces and no
-- two brackets go over it: so the lexemes of the text are the same by themselves.
use Rattle.std.proofs.Common.{arith, ◌≡◌, ◌⊎◌, inl, inr, ℕ, zero, suc, ◌+◌, ◌-◌, ◌≤◌, ◌<◌, ◌==◌, Bool, true, false, Option, Some, None, List, [], ◌∷◌, ◌++◌, length, take, map, get_or, nat_lt, refl, sym, ap, ◌∙◌, subst, length-append}
use Rattle.std.specs.Prelude.{if◌then◌else◌, not, codes}
use Rattle.std.specs.Option.{option_or}
use Rattle.std.specs.List.{prefix_len}
use Rattle.std.proofs.lemmas.Bool.{cases_lt}
use Rattle.std.proofs.lemmas.Bool.Decides.{nat_tests}
use Rattle.std.proofs.lemmas.List.Sums.{prefix_len_passes}
use Rattle.wt_span.specs.declared.form.Mode.TheVariants.{Page}
use Rattle.wt_span.specs.declared.form.LexKind.{LexKind}
use Rattle.wt_span.specs.declared.form.LexKind.TheVariants.{Chars, CommentLine, Comment, Raw, Include, Hidden, Entity, Opens, Closes, LinkOpen, LinkClose, Pipe, Equals}
use Rattle.wt_span.specs.declared.form.ItemForm.{ItemForm}
use Rattle.wt_span.specs.declared.form.ItemForm.TheVariants as form
use Rattle.wt_span.specs.Bytes.{is_break, begins}
use Rattle.wt_span.specs.Comments.{comment_len, comment_line_len}
use Rattle.wt_span.specs.Tags.{Tag, opening_tag, closing_tag, raw_len, hides, hidden_len, is_left_out, opening_include, closing_include, include_at, is_nowiki}
use Rattle.wt_span.specs.Entities.{entity_at}
use Rattle.wt_span.specs.Items.{Item, char, whole, source, sources, items_by}
use Rattle.wt_span.specs.Lexemes.{Word, as_word, comment_line_word, entity_word, run_at, sign_at, sign_word, form_at}
use Rattle.wt_lex.proofs.AllForms.{form_fits}
use Rattle.wt_lex.proofs.Begins.{begins_get, begins_len}
use Rattle.wt_expand.specs.PageItems.{raw_form_by, form_of, items_of_word, page_items}
use Rattle.wt_expand.proofs.PageLaws.{form_sources, page_sources}
use Rattle.wt_part_laws.specs.Lexer.{lexer}
use Rattle.wt_part_laws.specs.Scans.{skipped_by, Passes, Settles}
use Rattle.wt_part_laws.proofs.Joins.{passes_settle}
use Rattle.wt_part_laws.proofs.LexemeFronts.{lexemes_front}
use Rattle.wt_text_edit_laws.proofs.Between.Fronts.{first_items, items_from, first_from, byte_from, form_from}
use Rattle.wt_text_edit_laws.specs.TextBetween.{EndsBy}

-- ---- signs end before the cut

-- it begins with another byte than this, or is empty
abbrev pub BeginsOther : ℕ → List ℕ → Type 0
BeginsOther c [] = Unit {0}
BeginsOther c (b ∷ bs) = (b == c) ≡ false

-- the first text doesn't end with this byte, or the second one doesn't begin with it
abbrev pub IsCutAt : ℕ → List ℕ → List ℕ → Type 0
IsCutAt c q r = EndsBy (λ b. not (b == c)) q ⊎ BeginsOther c r

-- no run of braces, and no two brackets, go over the end of the first text
abbrev pub AreCut : List ℕ → List ℕ → Type 0
AreCut q r = IsCutAt 123 q r × IsCutAt 125 q r × IsCutAt 91 q r × IsCutAt 93 q r

cut_rest : (c b : ℕ) (q r : List ℕ) → IsCutAt c (b ∷ q) r → IsCutAt c q r
cut_rest c b [] r h = inl tt
cut_rest c b (d ∷ q) r h = h

all_rest : (b : ℕ) (q r : List ℕ) → AreCut (b ∷ q) r → AreCut q r
all_rest b q r h = (cut_rest 123 b q r h.0, cut_rest 125 b q r h.1, cut_rest 91 b q r h.2, cut_rest 93 b q r h.3)

-- signs of so many bytes at most; every other form is one item
abbrev IsShort : ℕ → LexKind → ℕ → Type 0
IsShort k Chars n = ⊥
IsShort k Opens n = n ≤ k
IsShort k Closes n = n ≤ k
IsShort k LinkOpen n = n ≤ k
IsShort k LinkClose n = n ≤ k
IsShort k Pipe n = n ≤ k
IsShort k Equals n = n ≤ k
IsShort k kind n = Unit {0}

abbrev OptShort : ℕ → Option Word → Type 0
OptShort k None = Unit {0}
OptShort k (Some (kind, n)) = IsShort k kind n

or_short : (k : ℕ) (a b : Option Word) → OptShort k a → OptShort k b → OptShort k (option_or a b)
or_short k None b f g = g
or_short k (Some w) b f g = f

if_short : (k : ℕ) (t : Bool) (kind : LexKind) (n : ℕ) → (t ≡ true → IsShort k kind n) → OptShort k (if t then Some (kind, n) else None)
if_short k true kind n f = f refl
if_short k false kind n f = tt

not_same : (t : Bool) → not t ≡ true → t ≡ false
not_same true e = cc
not_same false e = refl

-- the byte before the cut, and the one behind it
last_at : (c b : ℕ) (q r : List ℕ) → EndsBy (λ d. not (d == c)) (b ∷ q) → (get_or (b ∷ (q ++ r)) (length q) 0 == c) ≡ false
last_at c b [] r h = not_same (b == c) h
last_at c b (d ∷ q) r h = last_at c d q r h

next_at : (c : ℕ) (q r : List ℕ) → (0 == c) ≡ false → BeginsOther c r → (get_or (q ++ r) (length q) 0 == c) ≡ false
next_at c [] [] z h = z
next_at c [] (d ∷ r) z h = h
next_at c (b ∷ q) r z h = next_at c q r z h

-- a run of such bytes ends at the cut
pub run_ends : (c b : ℕ) (q r : List ℕ) → (0 == c) ≡ false → IsCutAt c (b ∷ q) r → prefix_len (λ d. d == c) (b ∷ (q ++ r)) ≤ suc (length q)
run_ends c b q r z h = elim (cases_lt (suc (length q)) (prefix_len (λ d. d == c) (b ∷ (q ++ r)))) [
  | inl lt ↦ absurd (over lt h)
  | inr le ↦ le
]
  where
    over : suc (length q) < prefix_len (λ d. d == c) (b ∷ (q ++ r)) → IsCutAt c (b ∷ q) r → ⊥
    over lt (inl e) =
        let p : (get_or (b ∷ (q ++ r)) (length q) 0 == c) ≡ true = prefix_len_passes (λ d. d == c) (b ∷ (q ++ r)) (length q) 0 (omega (arith, lt)) in
        let n : (get_or (b ∷ (q ++ r)) (length q) 0 == c) ≡ false = last_at c b q r e in
        absurd (cc)
    over lt (inr o) =
        let p : (get_or (b ∷ (q ++ r)) (suc (length q)) 0 == c) ≡ true = prefix_len_passes (λ d. d == c) (b ∷ (q ++ r)) (suc (length q)) 0 lt in
        let n : (get_or (b ∷ (q ++ r)) (suc (length q)) 0 == c) ≡ false = next_at c (b ∷ q) r z o in
        absurd (cc)

-- and so do two of them
pair_ends : (c b : ℕ) (q r : List ℕ) → IsCutAt c (b ∷ q) r → begins (c ∷ c ∷ []) (b ∷ (q ++ r)) ≡ true → 2 ≤ suc (length q)
pair_ends c b (d ∷ q) r h e = omega arith
pair_ends c b [] [] h e = let le = begins_len (c ∷ c ∷ []) (b ∷ []) e in absurd (omega (arith, le))
pair_ends c b [] (d ∷ r) (inl n) e =
    let f : b ≡ c = begins_get (c ∷ c ∷ []) (b ∷ d ∷ r) e 0 (omega arith) in
    let same : (b == c) ≡ true = grind (arith, nat_tests, f) in
    let other : (b == c) ≡ false = not_same (b == c) n in
    absurd (cc)
pair_ends c b [] (d ∷ r) (inr n) e =
    let f : d ≡ c = begins_get (c ∷ c ∷ []) (b ∷ d ∷ r) e 1 (omega arith) in
    let same : (d == c) ≡ true = grind (arith, nat_tests, f) in
    absurd (cc)

signs_short : (b : ℕ) (q r : List ℕ) → AreCut (b ∷ q) r → OptShort (suc (length q)) (sign_word (b ∷ (q ++ r)))
unfolding sign_word
signs_short b q r h =
    let k : ℕ = suc (length q) in
    let bs : List ℕ = b ∷ (q ++ r) in
    or_short k (run_at Opens 123 bs) _ (if_short k (nat_lt 1 (prefix_len (λ b. b == 123) bs)) Opens (prefix_len (λ b. b == 123) bs) (λ t. run_ends 123 b q r refl h.0))
    (or_short k (run_at Closes 125 bs) _ (if_short k (nat_lt 1 (prefix_len (λ b. b == 125) bs)) Closes (prefix_len (λ b. b == 125) bs) (λ t. run_ends 125 b q r refl h.1))
    (or_short k (sign_at LinkOpen (codes "[[") 2 bs) _ (if_short k (begins (codes "[[") bs) LinkOpen 2 (λ t. pair_ends 91 b q r h.2 t))
    (or_short k (sign_at LinkClose (codes "]]") 2 bs) _ (if_short k (begins (codes "]]") bs) LinkClose 2 (λ t. pair_ends 93 b q r h.3 t))
    (or_short k (sign_at Pipe (codes "|") 1 bs) (sign_at Equals (codes "=") 1 bs) (if_short k (begins (codes "|") bs) Pipe 1 (λ t. omega arith))
    (if_short k (begins (codes "=") bs) Equals 1 (λ t. omega arith))))))

-- ---- and every other form

comment_short : (k : ℕ) (o : Option ℕ) → OptShort k (as_word Comment o)
comment_short k None = tt
comment_short k (Some n) = tt

raw_short : (k : ℕ) (o : Option ℕ) → OptShort k (as_word Raw o)
raw_short k None = tt
raw_short k (Some n) = tt

line_short : (k : ℕ) (o : Option ℕ) → OptShort k (as_word CommentLine o)
line_short k None = tt
line_short k (Some n) = tt

after_short : (k : ℕ) (a : Bool) (bs : List ℕ) → OptShort k (comment_line_word a bs)
after_short k true bs = line_short k (comment_line_len bs)
after_short k false bs = tt

entity_short : (k : ℕ) (o : Option (ℕ × ℕ)) → OptShort k (entity_word o)
entity_short k None = tt
entity_short k (Some e) = tt

opening_short : (k : ℕ) (bs : List ℕ) (o : Option Tag) → OptShort k (opening_include Page o bs)
opening_short k bs None = tt
opening_short k bs (Some t) = by (hides Page t.name) (is_left_out Page t.name)
  where
    by : (v u : Bool) → OptShort k (if v then Some (Hidden, hidden_len t bs) else (if u then Some (Include, t.len) else None))
    by true u = tt
    by false true = tt
    by false false = tt

closing_short : (k : ℕ) (o : Option Tag) → OptShort k (closing_include Page o)
closing_short k None = tt
closing_short k (Some t) = if_short k (is_left_out Page t.name) Include t.len (λ e. tt)

include_short : (k : ℕ) (bs : List ℕ) → OptShort k (include_at Page bs)
unfolding include_at
include_short k bs =
    or_short k (opening_include Page (opening_tag bs) bs) (closing_include Page (closing_tag bs)) (opening_short k bs (opening_tag bs)) (closing_short k (closing_tag bs))

form_short : (a : Bool) (b : ℕ) (q r : List ℕ) → AreCut (b ∷ q) r → OptShort (suc (length q)) (form_at Page a (b ∷ (q ++ r)))
unfolding form_at
form_short a b q r g =
    let k : ℕ = suc (length q) in
    let bs : List ℕ = b ∷ (q ++ r) in
    or_short k (comment_line_word a bs) _ (after_short k a bs)
    (or_short k (as_word Comment (comment_len bs)) _ (comment_short k (comment_len bs))
    (or_short k (as_word Raw (raw_len bs)) _ (raw_short k (raw_len bs))
    (or_short k (include_at Page bs) _ (include_short k bs)
    (or_short k (entity_word (entity_at bs)) (sign_word bs) (entity_short k (entity_at bs)) (signs_short b q r g)))))

short_here : (a : Bool) (b : ℕ) (q r : List ℕ) (kind : LexKind) (n : ℕ) → AreCut (b ∷ q) r → form_at Page a (b ∷ (q ++ r)) ≡ Some (kind, n)
    → IsShort (suc (length q)) kind n
short_here a b q r kind n g e = let P : Option Word → Type 0 = OptShort (suc (length q)) in subst P e (form_short a b q r g)

-- ---- items cut at another place

abbrev HaveBytes : List Item → Type 0
HaveBytes [] = Unit {0}
HaveBytes (x ∷ xs) = (1 ≤ length (source x)) × HaveBytes xs

chars_have : (bs : List ℕ) → HaveBytes (map (char None) bs)
chars_have [] = tt
chars_have (b ∷ bs) = (omega arith, chars_have bs)

word_has : (f : ItemForm) (b : ℕ) (bs : List ℕ) → HaveBytes (items_by f None (b ∷ bs))
word_has form.Chars b bs = chars_have (b ∷ bs)
word_has (form.Entity c) b bs = (omega arith, tt)
word_has form.Nowiki b bs = (omega arith, tt)
word_has form.Extension b bs = (omega arith, tt)
word_has form.Function b bs = (omega arith, tt)
word_has form.Comment b bs = (omega arith, tt)
word_has form.Include b bs = (omega arith, tt)
word_has form.Hidden b bs = (omega arith, tt)
word_has form.EmptyCall b bs = (omega arith, tt)

-- so many items that the first come first in them
record Further (ps rest ys zs : List Item) : Type 0 where
  us : List Item
  ys_are : ys ≡ ps ++ us
  rest_are : rest ≡ us ++ zs

first_or : Item → List Item → Item
first_or x [] = x
first_or x (y ∷ ys) = y

others : List Item → List Item
others [] = []
others (y ∷ ys) = ys

abbrev bytes : List Item → ℕ
bytes xs = length (sources xs)

bytes_first : (x : Item) (xs : List Item) → bytes (x ∷ xs) ≡ length (source x) + bytes xs
bytes_first x xs = length-append (source x) (sources xs)

more_first : (p y : Item) (ps rest ys zs : List Item) → p ≡ y → Further ps rest ys zs → Further (p ∷ ps) rest (y ∷ ys) zs
more_first p y ps rest ys zs e f = record {
  us = f.us;
  ys_are = ap (λ (x : Item). x ∷ ys) (sym e) ∙ ap (λ (xs : List Item). p ∷ xs) f.ys_are;
  rest_are = f.rest_are;
}

further : (ps rest ys zs : List Item) → HaveBytes ps → bytes ps ≤ bytes ys → ps ++ rest ≡ ys ++ zs → Further ps rest ys zs
unfolding first_or others
further [] rest ys zs h le e = record { us = ys; ys_are = refl; rest_are = e }
further (p ∷ ps) rest [] zs h le e = let b = bytes_first p ps in absurd (omega (arith, h.0, le, b))
further (p ∷ ps) rest (y ∷ ys) zs h le e =
    let first : p ≡ y = ap (first_or p) e in
    let rests : ps ++ rest ≡ ys ++ zs = ap others e in
    let size : length (source p) ≡ length (source y) = ap (λ (x : Item). length (source x)) first in
    let b = bytes_first p ps in
    let c = bytes_first y ys in
    more_first p y ps rest ys zs first (further ps rest ys zs h.1 (omega (arith, le, size, b, c)) rests)

-- ---- no form goes over the end

-- one that is one item is no longer than what is left
one_fits : (f : ItemForm) (own rest zs : List Item) (bs : List ℕ) (ys : List Item) → own ≡ whole f None bs ∷ [] → 1 ≤ bytes ys → own ++ rest ≡ ys ++ zs → length bs ≤ bytes ys
unfolding first_or
one_fits f own rest zs bs [] e some same = absurd (omega (arith, some))
one_fits f own rest zs bs (y ∷ ys) e some same =
    let all : whole f None bs ∷ rest ≡ y ∷ (ys ++ zs) = sym (ap (λ (os : List Item). os ++ rest) e) ∙ same in
    let size : length bs ≡ length (source y) = ap (λ (xs : List Item). length (source (first_or y xs))) all in
    let c = bytes_first y ys in
    omega (arith, size, c)

-- a raw form is one item, too
pub raw_one : (bs : List ℕ) → (f : ItemForm) × (items_of_word Raw bs ≡ whole f None bs ∷ [])
raw_one bs = by_tag (opening_tag bs)
  where
    by_name : (t : Bool) → (f : ItemForm) × (items_by (if t then form.Nowiki else form.Extension) None bs ≡ whole f None bs ∷ [])
    by_name true = (form.Nowiki, refl)
    by_name false = (form.Extension, refl)

    by_tag : (o : Option Tag) → (f : ItemForm) × (items_by (raw_form_by o) None bs ≡ whole f None bs ∷ [])
    by_tag None = (form.Extension, refl)
    by_tag (Some t) = by_name (is_nowiki t.name)

form_within : (kind : LexKind) (k n : ℕ) (bs : List ℕ) (rest ys zs : List Item) → IsShort k kind n → n ≡ length bs → 1 ≤ bytes ys → bytes ys ≤ k
    → items_of_word kind bs ++ rest ≡ ys ++ zs → n ≤ k
form_within Chars k n bs rest ys zs h e some le same = absurd h
form_within CommentLine k n bs rest ys zs h e some le same = let l = one_fits form.Comment (items_of_word CommentLine bs) rest zs bs ys refl some same in omega (arith, l, e, le)
form_within Comment k n bs rest ys zs h e some le same = let l = one_fits form.Comment (items_of_word Comment bs) rest zs bs ys refl some same in omega (arith, l, e, le)
form_within Raw k n bs rest ys zs h e some le same =
    let o = raw_one bs in
    let l = one_fits o.0 (items_of_word Raw bs) rest zs bs ys o.1 some same in
    omega (arith, l, e, le)
form_within Include k n bs rest ys zs h e some le same = let l = one_fits form.Include (items_of_word Include bs) rest zs bs ys refl some same in omega (arith, l, e, le)
form_within Hidden k n bs rest ys zs h e some le same = let l = one_fits form.Hidden (items_of_word Hidden bs) rest zs bs ys refl some same in omega (arith, l, e, le)
form_within (Entity c) k n bs rest ys zs h e some le same = let l = one_fits (form.Entity c) (items_of_word (Entity c) bs) rest zs bs ys refl some same in omega (arith, l, e, le)
form_within Opens k n bs rest ys zs h e some le same = h
form_within Closes k n bs rest ys zs h e some le same = h
form_within LinkOpen k n bs rest ys zs h e some le same = h
form_within LinkClose k n bs rest ys zs h e some le same = h
form_within Pipe k n bs rest ys zs h e some le same = h
form_within Equals k n bs rest ys zs h e some le same = h

taken : (j : ℕ) (bs : List ℕ) → j ≤ length bs → length (take j bs) ≡ j
taken zero bs le = refl
taken (suc j) [] le = absurd (omega (arith, le))
taken (suc j) (b ∷ bs) le = ap suc (taken j bs (omega (arith, le)))

-- what is read of a text and what follows, of which the first items are those of the text
abbrev Goes : List ℕ → List Item → Bool → ℕ → List ℕ → Type 0
Goes r zs a n q =
    (ys : List Item) → AreCut q r → n ≤ length q → items_from a n (q ++ r) ≡ ys ++ zs → bytes ys + n ≡ length q → Passes (lexer Page) r a n q

goes_byte : (r : List ℕ) (zs : List Item) (a : Bool) (b : ℕ) (q : List ℕ) (ys : List Item) → AreCut q r → form_at Page a (b ∷ (q ++ r)) ≡ None
    → items_from a 0 (b ∷ (q ++ r)) ≡ ys ++ zs → bytes ys + 0 ≡ suc (length q) → Goes r zs (is_break b) 0 q → Passes (lexer Page) r (is_break b) 0 q
goes_byte r zs a b q ys c f e s go =
    let own : List Item = char None b ∷ [] in
    let all : own ++ items_from (is_break b) 0 (q ++ r) ≡ ys ++ zs = sym (byte_from a b (q ++ r) f) ∙ e in
    let m = further own (items_from (is_break b) 0 (q ++ r)) ys zs (omega arith, tt) (omega (arith, s)) all in
    let size : bytes ys ≡ suc (bytes m.us) = ap bytes m.ys_are in
    go m.us c (omega arith) m.rest_are (omega (arith, size, s))

goes_form : (r : List ℕ) (zs : List Item) (a : Bool) (b : ℕ) (q : List ℕ) (ys : List Item) (kind : LexKind) (j : ℕ) → AreCut (b ∷ q) r
    → form_at Page a (b ∷ (q ++ r)) ≡ Some (kind, suc j) → items_from a 0 (b ∷ (q ++ r)) ≡ ys ++ zs → bytes ys + 0 ≡ suc (length q)
    → Goes r zs (is_break b) j q → Passes (lexer Page) r (is_break b) j q
goes_form r zs a b q ys kind j c f e s go =
    let bs : List ℕ = q ++ r in
    let word : List ℕ = b ∷ take j bs in
    let own : List Item = items_of_word kind word in
    let rest : List Item = items_from (is_break b) j bs in
    let fits = form_fits Page a (b ∷ bs) (kind, suc j) f in
    let long : length (take j bs) ≡ j = taken j bs (omega (arith, fits.within)) in
    let all : own ++ rest ≡ ys ++ zs = sym (form_from a b bs kind j f) ∙ e in
    let le : suc j ≤ suc (length q) =
    form_within kind (suc (length q)) (suc j) word rest ys zs (short_here a b q r kind (suc j) c f)
    (omega (arith, long)) (omega (arith, s)) (omega (arith, s)) all in
    let own_size : bytes own ≡ suc j = ap length (form_sources (form_of kind word) word) ∙ ap suc long in
    let m = further own rest ys zs (word_has (form_of kind word) b (take j bs)) (omega (arith, own_size, le, s)) all in
    let size : bytes ys ≡ bytes own + bytes m.us = ap bytes m.ys_are ∙ bytes_both own m.us in
    go m.us (all_rest b q r c) (omega (arith, le)) m.rest_are (omega (arith, size, own_size, s))
  where
    bytes_both : (xs us : List Item) → bytes (xs ++ us) ≡ bytes xs + bytes us
    bytes_both [] us = let z : bytes us ≡ 0 + bytes us = omega arith in z
    bytes_both (x ∷ xs) us =
        let c = bytes_first x (xs ++ us) in
        let d = bytes_first x xs in
        let i = bytes_both xs us in
        omega (arith, c, d, i)

goes_by : (r : List ℕ) (zs : List Item) (a : Bool) (b : ℕ) (q : List ℕ) (ys : List Item) (o : Option Word) → AreCut (b ∷ q) r → form_at Page a (b ∷ (q ++ r)) ≡ o
    → items_from a 0 (b ∷ (q ++ r)) ≡ ys ++ zs → bytes ys + 0 ≡ suc (length q) → ((n : ℕ) → Goes r zs (is_break b) n q)
    → Passes (lexer Page) r (is_break b) (skipped_by (lexer Page) o) q
goes_by r zs a b q ys None c f e s go = goes_byte r zs a b q ys (all_rest b q r c) f e s (go 0)
goes_by r zs a b q ys (Some (kind, zero)) c f e s go = let fits = form_fits Page a (b ∷ (q ++ r)) (kind, zero) f in absurd (omega (arith, fits.some))
goes_by r zs a b q ys (Some (kind, suc j)) c f e s go =
    let z : j ≡ suc j - 1 = omega arith in
    subst (λ (n : ℕ). Passes (lexer Page) r (is_break b) n q) z (goes_form r zs a b q ys kind j c f e s (go j))

goes : (r : List ℕ) (zs : List Item) (a : Bool) (n : ℕ) (q : List ℕ) → Goes r zs a n q
goes r zs a zero [] ys c le e s = refl
goes r zs a (suc n) [] ys c le e s = absurd (omega (arith, le))
goes r zs a (suc n) (b ∷ q) ys c le e s = goes r zs (is_break b) n q ys (all_rest b q r c) (omega (arith, le)) e (omega (arith, s))
goes r zs a zero (b ∷ q) ys c le e s = goes_by r zs a b q ys (form_at Page a (b ∷ (q ++ r))) c refl e s (λ n. goes r zs (is_break b) n q)

-- ---- so the text settles

pub part_settles : (q r : List ℕ) (zs : List Item) → AreCut q r → page_items (q ++ r) ≡ page_items q ++ zs → Settles (lexer Page) r false 0 q
part_settles q r zs c e =
    let all : items_from false 0 (q ++ r) ≡ page_items q ++ zs = first_from false (q ++ r) ∙ sym (first_items (q ++ r)) ∙ e in
    let size : bytes (page_items q) ≡ length q = ap length (page_sources q) in
    passes_settle (lexer Page) r false 0 q (lexemes_front Page) (goes r zs false 0 q (page_items q) c (omega arith) all (omega (arith, size)))

-- before a line break it does
pub break_cut : (q r : List ℕ) → AreCut q (10 ∷ r)
break_cut q r = (inr refl, inr refl, inr refl, inr refl)
