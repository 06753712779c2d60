-- A line of comments is read only where a line begins: so it is among the items of a page, and among those of each of its lines.
use Rattle.std.proofs.Common.{arith, ◌≡◌, ℕ, zero, suc, ◌+◌, ◌-◌, ◌<◌, ◌≤◌, ◌==◌, Bool, true, false, Option, Some, None, List, [], ◌∷◌, ◌++◌, length, map, take, refl, sym, ap, ◌∙◌, subst, length-take, codes}
use Rattle.std.specs.Prelude.{◌&&◌, nat_lt, slice_index, if◌then◌else◌}
use Rattle.std.specs.Option.{option_or}
use Rattle.wt_span.specs.declared.form.ItemForm.{ItemForm}
use Rattle.wt_span.specs.declared.form.ItemForm.TheVariants as form
use Rattle.wt_span.specs.declared.form.Mode.TheVariants.{Page}
use Rattle.wt_span.specs.declared.form.LexKind.{LexKind}
use Rattle.wt_span.specs.declared.form.LexKind.TheVariants.{CommentLine, Comment, Raw, Include, Hidden, Opens, Closes, LinkOpen, LinkClose, Pipe, Equals}
use Rattle.wt_span.specs.Bytes.{is_break, blank_len}
use Rattle.wt_span.specs.Comments.{comment_len, remarks_with, remarks_len, comment_line_len}
use Rattle.wt_span.specs.Entities.{entity_at}
use Rattle.wt_span.specs.Items.{Item, char, whole, source, sources, items_by}
use Rattle.wt_span.specs.Lexemes.{Word, as_word, run_at, sign_at, sign_word, entity_word, comment_line_word, form_at}
use Rattle.wt_span.specs.Tags.{Tag, opening_tag, is_nowiki, raw_len, include_at}
use Rattle.wt_lex.proofs.AllForms.{form_fits}
use Rattle.wt_lex.proofs.WholeComments.{comment_front}
use Rattle.wt_lex.proofs.WholeTags.{include_kind}
use Rattle.wt_lines.specs.Lines.{lines, AreLines}
use Rattle.wt_lines.proofs.LineLaws.{lines_are}
use Rattle.wt_expand.specs.PageItems.{raw_form_by, form_of, page_items}
use Rattle.wt_text_edit_laws.specs.TextBlocks.{TextBlock, a_paragraph, a_heading}
use Rattle.wt_text_edit_laws.proofs.Between.Fronts.{items_from, first_items, first_from, byte_from, form_from}
use Rattle.wt_beside_laws.specs.FlatBlocks.{lines_in}
use Rattle.wt_beside_laws.specs.OwnLed.{settled}
use Rattle.wt_beside_laws.specs.PageSigns.{ends_break}
use Rattle.wt_beside_laws.proofs.LinkTiles.{some_same}
use Rattle.wt_beside_laws.proofs.Marks.Ends.{LastIs, ends_so}

-- ---- where a line begins

pub settled_append : (xs ys : List ℕ) (s : Bool) → settled (xs ++ ys) s ≡ settled ys (settled xs s)
settled_append [] ys s = refl
settled_append (x ∷ xs) ys s = settled_append xs ys (x == 10)

pub settled_more : (bs : List ℕ) (s v : Bool) → (s ≡ true → v ≡ true) → settled bs s ≡ true → settled bs v ≡ true
settled_more [] s v f h = f h
settled_more (b ∷ bs) s v f h = h

last_settled : (b : ℕ) (bs : List ℕ) (s : Bool) → LastIs (settled (b ∷ bs) s) (b ∷ bs)
last_settled b [] s = refl
last_settled b (c ∷ bs) s = last_settled c bs (b == 10)

pub settled_is : (bs : List ℕ) (s : Bool) → 0 < length bs → settled bs s ≡ ends_break bs
settled_is [] s some = absurd (omega (arith, some))
settled_is (b ∷ bs) s some = sym (ends_so (settled (b ∷ bs) s) (b ∷ bs) (omega arith) (last_settled b bs s))

-- ---- items of which a line of comments is only where a line begins

abbrev LedForm : ItemForm → Bool → List ℕ → Type 0
LedForm form.Chars s bs = Unit {0}
LedForm (form.Entity c) s bs = Unit {0}
LedForm form.Nowiki s bs = Unit {0}
LedForm form.Extension s bs = Unit {0}
LedForm form.Function s bs = Unit {0}
LedForm form.Comment s bs = comment_line_len bs ≡ Some (length bs) → s ≡ true
LedForm form.Include s bs = Unit {0}
LedForm form.Hidden s bs = Unit {0}
LedForm form.EmptyCall s bs = Unit {0}

abbrev pub LedItem : Bool → Item → Type 0
LedItem s (char o b) = Unit {0}
LedItem s (whole f o bs) = LedForm f s bs

abbrev pub LedItems : Bool → List Item → Type 0
LedItems s [] = Unit {0}
LedItems s (x ∷ xs) = LedItem s x × LedItems (settled (source x) s) xs

form_more : (f : ItemForm) (s v : Bool) (bs : List ℕ) → (s ≡ true → v ≡ true) → LedForm f s bs → LedForm f v bs
form_more form.Chars s v bs g h = tt
form_more (form.Entity c) s v bs g h = tt
form_more form.Nowiki s v bs g h = tt
form_more form.Extension s v bs g h = tt
form_more form.Function s v bs g h = tt
form_more form.Comment s v bs g h = λ e. g (h e)
form_more form.Include s v bs g h = tt
form_more form.Hidden s v bs g h = tt
form_more form.EmptyCall s v bs g h = tt

item_more : (x : Item) (s v : Bool) → (s ≡ true → v ≡ true) → LedItem s x → LedItem v x
item_more (char o b) s v g h = tt
item_more (whole f o bs) s v g h = form_more f s v bs g h

pub led_more : (xs : List Item) (s v : Bool) → (s ≡ true → v ≡ true) → LedItems s xs → LedItems v xs
led_more [] s v g h = tt
led_more (x ∷ xs) s v g h = (item_more x s v g h.0, led_more xs (settled (source x) s) (settled (source x) v) (λ e. settled_more (source x) s v g e) h.1)

pub led_cut : (xs ys : List Item) (s : Bool) → LedItems s (xs ++ ys) → LedItems s xs × LedItems (settled (sources xs) s) ys
led_cut [] ys s h = (tt, h)
led_cut (x ∷ xs) ys s h =
    let r = led_cut xs ys (settled (source x) s) h.1 in
    ((h.0, r.0), subst (λ (v : Bool). LedItems v ys) (sym (settled_append (source x) (sources xs) s)) r.1)

-- ---- a comment by itself is no such line

remarks_full : (n : ℕ) (cs : List ℕ) → n ≡ length cs → remarks_len n cs ≡ n
remarks_full zero [] e = refl
remarks_full zero (c ∷ cs) e = absurd (omega (arith, e))
remarks_full (suc n) [] e = absurd (omega (arith, e))
remarks_full (suc n) (c ∷ cs) e = let r = remarks_full n cs (omega (arith, e)) in omega (arith, r)

pub remarks_all : (bs : List ℕ) → comment_len bs ≡ Some (length bs) → remarks_len 0 bs ≡ length bs
remarks_all [] e = refl
remarks_all (b ∷ cs) e =
    let r = remarks_full (length (b ∷ cs) - 1) cs (omega arith) in
    let z : 1 + remarks_len (length (b ∷ cs) - 1) cs ≡ length (b ∷ cs) = omega (arith, r) in
    ap (λ (o : Option ℕ). remarks_with o b (λ n. remarks_len n cs)) e ∙ z

not_by : (n m : ℕ) (t : Bool) → n ≡ m → (if t then Some (n + 1) else None) ≡ Some m → ⊥
not_by n m true e h = let s = some_same (n + 1) m h in omega (arith, e, s)
not_by n m false e h = cc

not_line : (bs : List ℕ) → comment_len bs ≡ Some (length bs) → comment_line_len bs ≡ Some (length bs) → ⊥
unfolding comment_line_len
not_line bs e h =
    not_by (remarks_len 0 bs) (length bs) (nat_lt (blank_len bs) (remarks_len 0 bs) && is_break (slice_index bs (remarks_len 0 bs))) (remarks_all bs e) h

-- ---- a lexeme

abbrev OptLed : Bool → List ℕ → Option Word → Type 0
OptLed s bs None = Unit {0}
OptLed s bs (Some w) = w.1 ≤ length bs → LedForm (form_of w.0 (take w.1 bs)) s (take w.1 bs)

or_led : (s : Bool) (bs : List ℕ) (a b : Option Word) → OptLed s bs a → OptLed s bs b → OptLed s bs (option_or a b)
or_led s bs None b f g = g
or_led s bs (Some w) b f g = f

line_some : (s : Bool) (bs : List ℕ) (o : Option ℕ) → s ≡ true → OptLed s bs (as_word CommentLine o)
line_some s bs None e = tt
line_some s bs (Some n) e = λ le h. e

line_led : (a s : Bool) (bs : List ℕ) → (a ≡ true → s ≡ true) → OptLed s bs (comment_line_word a bs)
line_led true s bs f = line_some s bs (comment_line_len bs) (f refl)
line_led false s bs f = tt

comment_led : (s : Bool) (bs : List ℕ) (o : Option ℕ) → comment_len bs ≡ o → OptLed s bs (as_word Comment o)
comment_led s bs None e = tt
comment_led s bs (Some n) e = λ le h.
    let z : n ≡ length (take n bs) = omega (arith, length-take n bs, le) in
    absurd (not_line (take n bs) (comment_front bs n n e (omega arith) ∙ ap Some z) h)

raw_if : (t s : Bool) (bs : List ℕ) → LedForm (if t then form.Nowiki else form.Extension) s bs
raw_if true s bs = tt
raw_if false s bs = tt

raw_by : (o : Option Tag) (s : Bool) (bs : List ℕ) → LedForm (raw_form_by o) s bs
raw_by None s bs = tt
raw_by (Some t) s bs = raw_if (is_nowiki t.name) s bs

raw_led : (s : Bool) (bs : List ℕ) (o : Option ℕ) → OptLed s bs (as_word Raw o)
raw_led s bs None = tt
raw_led s bs (Some n) = λ le. raw_by (opening_tag (take n bs)) s (take n bs)

include_led : (s : Bool) (bs : List ℕ) (o : Option Word) → include_at Page bs ≡ o → OptLed s bs o
include_led s bs None e = tt
include_led s bs (Some (Include, n)) e = λ le. tt
include_led s bs (Some (Hidden, n)) e = λ le. tt
include_led s bs (Some (kind, n)) e = absurd (include_kind Page bs (kind, n) e)

entity_led : (s : Bool) (bs : List ℕ) (o : Option (ℕ × ℕ)) → OptLed s bs (entity_word o)
entity_led s bs None = tt
entity_led s bs (Some x) = λ le. tt

if_led : (s : Bool) (bs : List ℕ) (t : Bool) (w : Word) → LedForm (form_of w.0 (take w.1 bs)) s (take w.1 bs) → OptLed s bs (if t then Some w else None)
if_led s bs true w h = λ le. h
if_led s bs false w h = tt

sign_led : (s : Bool) (bs : List ℕ) → OptLed s bs (sign_word bs)
unfolding sign_word
sign_led s bs =
    or_led s bs (run_at Opens 123 bs) _ (if_led s bs _ (Opens, _) tt)
    (or_led s bs (run_at Closes 125 bs) _ (if_led s bs _ (Closes, _) tt)
    (or_led s bs (sign_at LinkOpen (codes "[[") 2 bs) _ (if_led s bs _ (LinkOpen, 2) tt)
    (or_led s bs (sign_at LinkClose (codes "]]") 2 bs) _ (if_led s bs _ (LinkClose, 2) tt)
    (or_led s bs (sign_at Pipe (codes "|") 1 bs) (sign_at Equals (codes "=") 1 bs) (if_led s bs _ (Pipe, 1) tt) (if_led s bs _ (Equals, 1) tt)))))

word_led : (a s : Bool) (bs : List ℕ) → (a ≡ true → s ≡ true) → OptLed s bs (form_at Page a bs)
unfolding form_at
word_led a s bs f =
    or_led s bs (comment_line_word a bs) _ (line_led a s bs f)
    (or_led s bs (as_word Comment (comment_len bs)) _ (comment_led s bs (comment_len bs) refl)
    (or_led s bs (as_word Raw (raw_len bs)) _ (raw_led s bs (raw_len bs))
    (or_led s bs (include_at Page bs) _ (include_led s bs (include_at Page bs) refl)
    (or_led s bs (entity_word (entity_at bs)) (sign_word bs) (entity_led s bs (entity_at bs)) (sign_led s bs)))))

form_led : (a s : Bool) (kind : LexKind) (n : ℕ) (bs : List ℕ) → form_at Page a bs ≡ Some (kind, n) → (a ≡ true → s ≡ true)
    → LedForm (form_of kind (take n bs)) s (take n bs)
form_led a s kind n bs e f =
    let fits = form_fits Page a bs (kind, n) e in
    let P : Option Word → Type 0 = λ o. OptLed s bs o in
    subst P e (word_led a s bs f) fits.within

-- ---- the items of a page

chars_led : (cs : List ℕ) (s : Bool) (rest : List Item) → LedItems (settled cs s) rest → LedItems s (map (char None) cs ++ rest)
chars_led [] s rest h = h
chars_led (c ∷ cs) s rest h = (tt, chars_led cs (c == 10) rest h)

whole_led : (f : ItemForm) (s : Bool) (bs : List ℕ) (rest : List Item) → LedForm f s bs → LedItems (settled bs s) rest → LedItems s (items_by f None bs ++ rest)
whole_led form.Chars s bs rest h k = chars_led bs s rest k
whole_led (form.Entity c) s bs rest h k = (h, k)
whole_led form.Nowiki s bs rest h k = (h, k)
whole_led form.Extension s bs rest h k = (h, k)
whole_led form.Function s bs rest h k = (h, k)
whole_led form.Comment s bs rest h k = (h, k)
whole_led form.Include s bs rest h k = (h, k)
whole_led form.Hidden s bs rest h k = (h, k)
whole_led form.EmptyCall s bs rest h k = (h, k)

-- behind so many bytes of a form a line begins only if this says so
abbrev Reaches : Bool → ℕ → List ℕ → Bool → Type 0
Reaches a zero bs s = a ≡ true → s ≡ true
Reaches a (suc n) [] s = Unit {0}
Reaches a (suc n) (b ∷ bs) s = Reaches (is_break b) n bs s

reaches_by : (j : ℕ) (bs : List ℕ) (a v : Bool) → (a ≡ true → v ≡ true) → Reaches a j bs (settled (take j bs) v)
reaches_by zero [] a v f = f
reaches_by zero (c ∷ bs) a v f = f
reaches_by (suc j) [] a v f = tt
reaches_by (suc j) (c ∷ bs) a v f = reaches_by j bs (is_break c) (c == 10) (λ e. e)

led_next : (a : Bool) (b : ℕ) (bs : List ℕ) (s : Bool) (o : Option Word) → form_at Page a (b ∷ bs) ≡ o → (a ≡ true → s ≡ true)
    → ((j : ℕ) (v : Bool) → Reaches (is_break b) j bs v → LedItems v (items_from (is_break b) j bs)) → LedItems s (items_from a 0 (b ∷ bs))
led_next a b bs s None e f g = subst (LedItems s) (sym (byte_from a b bs e)) (tt, g 0 (b == 10) (λ i. i))
led_next a b bs s (Some (kind, zero)) e f g = let fits = form_fits Page a (b ∷ bs) (kind, zero) e in absurd (omega (arith, fits.some))
led_next a b bs s (Some (kind, suc j)) e f g =
    subst (LedItems s) (sym (form_from a b bs kind j e))
    (whole_led (form_of kind (b ∷ take j bs)) s (b ∷ take j bs) (items_from (is_break b) j bs) (form_led a s kind (suc j) (b ∷ bs) e f)
    (g j (settled (take j bs) (b == 10)) (reaches_by j bs (is_break b) (b == 10) (λ i. i))))

led_from : (bs : List ℕ) (a : Bool) (n : ℕ) (s : Bool) → Reaches a n bs s → LedItems s (items_from a n bs)
led_from [] a zero s r = tt
led_from [] a (suc n) s r = tt
led_from (b ∷ bs) a (suc n) s r = led_from bs (is_break b) n s r
led_from (b ∷ bs) a zero s r = led_next a b bs s (form_at Page a (b ∷ bs)) refl r (λ j v q. led_from bs (is_break b) j v q)

pub page_led : (q : List ℕ) → LedItems false (page_items q)
page_led q = subst (LedItems false) (first_from false q ∙ sym (first_items q)) (led_from q false 0 false (λ e. e))

-- ---- its lines

-- the first of them, where a line begins before it or not, and the others
abbrev pub EachLed : Bool → List (List Item) → Type 0
EachLed s [] = Unit {0}
EachLed s (l ∷ ls) = LedItems s l × EachLed true ls

each_more : (s : Bool) (ls : List (List Item)) → EachLed s ls → EachLed true ls
each_more s [] h = tt
each_more s (l ∷ ls) h = (led_more l s true (λ e. refl) h.0, h.1)

lines_led : (ls : List (List Item)) (xs : List Item) (s : Bool) → AreLines ls xs → LedItems s xs → EachLed s ls
lines_led [] xs s a h = absurd a
lines_led (l ∷ []) xs s a h = (subst (LedItems s) a.1 h, tt)
lines_led (l ∷ m ∷ ls) xs s a h =
    let c = led_cut l (a.1 ∷ a.2) s (subst (LedItems s) a.4 h) in
    let v : Bool = settled (source a.1) (settled (sources l) s) in
    (c.0, each_more v (m ∷ ls) (lines_led (m ∷ ls) a.2 v a.5 c.1.1))

-- no line of comments begins a content, or it would stand before the block
pub content_led : (k : TextBlock) (q : List ℕ) → EachLed false (lines_in k q)
content_led a_paragraph q = lines_led (lines (page_items q)) (page_items q) false (lines_are (page_items q)) (page_led q)
content_led (a_heading s) q = (page_led q, tt)
