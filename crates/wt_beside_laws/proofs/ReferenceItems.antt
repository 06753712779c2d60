-- The items of a page that are references hold no `<`, no `>` and no line break.
use Rattle.std.proofs.Common.{arith, ◌≡◌, ℕ, zero, suc, ◌+◌, ◌-◌, ◌<◌, ◌≤◌, Bool, true, false, Option, Some, None, List, [], ◌∷◌, ◌++◌, length, get_or, map, take, refl, sym, ap, ◌∙◌, subst, length-take, codes}
use Rattle.std.specs.Prelude.{◌||◌, if◌then◌else◌}
use Rattle.std.specs.List.{list_any}
use Rattle.std.specs.Option.{option_or}
use Rattle.std.proofs.lemmas.Bool.Decides.{nat_tests}
use Rattle.wt_span.specs.declared.form.ItemForm.{ItemForm}
use Rattle.wt_span.specs.declared.form.ItemForm.TheVariants as form
use Rattle.wt_span.specs.declared.form.Mode.TheVariants.{Page}
use Rattle.wt_span.specs.declared.form.LexKind.TheVariants.{CommentLine, Comment, Raw, Include, Hidden, Opens, Closes, LinkOpen, LinkClose, Pipe, Equals}
use Rattle.wt_span.specs.Bytes.{is_break}
use Rattle.wt_span.specs.Comments.{comment_len, comment_line_len}
use Rattle.wt_span.specs.Entities.{entity_at}
use Rattle.wt_span.specs.Items.{Item, char, whole, items_by}
use Rattle.wt_span.specs.Lexemes.{Word, as_word, run_at, sign_at, sign_word, entity_word, comment_line_word, form_at}
use Rattle.wt_span.specs.Tags.{Tag, opening_tag, is_nowiki, raw_len, include_at}
use Rattle.wt_lex.proofs.AllForms.{form_fits, entity_none}
use Rattle.wt_lex.proofs.WholeTags.{include_kind}
use Rattle.wt_isolation.specs.OpenTags.{is_stop}
use Rattle.wt_expand.specs.PageItems.{raw_form_by, form_of}
use Rattle.wt_text_edit_laws.proofs.Between.Fronts.{items_from, byte_from, form_from}
use Rattle.wt_beside_laws.specs.NodeItems.{node_items}
use Rattle.wt_beside_laws.specs.References.{is_reference_byte}
use Rattle.wt_beside_laws.proofs.NodeItems.{are_from}
use Rattle.wt_beside_laws.proofs.Own.Crossing.{EntityWithin, entity_within}
use Rattle.wt_beside_laws.proofs.Own.Words.{SemicolonEnds, OptReference, reference_ends}

-- ---- its bytes

abbrev IsBare : List ℕ → Type 0
IsBare bs = list_any is_stop bs ≡ false

record IsAt (p : ℕ → Bool) (xs : List ℕ) : Type 0 where
  at : ℕ
  within : at < length xs
  passes : p (get_or xs at 0) ≡ true

any_at : (p : ℕ → Bool) (xs : List ℕ) → list_any p xs ≡ true → IsAt p xs
any_at p [] e = absurd (cc)
any_at p (x ∷ xs) e = by (p x) refl e (λ f. any_at p xs f)
  where
    by : (t : Bool) → p x ≡ t → (t || list_any p xs) ≡ true → (list_any p xs ≡ true → IsAt p xs) → IsAt p (x ∷ xs)
    by true i f go = record { at = 0; within = omega arith; passes = i }
    by false i f go = let r = go f in record { at = suc r.at; within = omega (arith, r.within); passes = r.passes }

get_take : (n i : ℕ) (bs : List ℕ) → i < length (take n bs) → get_or (take n bs) i 0 ≡ get_or bs i 0
get_take zero i [] lt = absurd (omega (arith, lt))
get_take zero i (b ∷ bs) lt = absurd (omega (arith, lt))
get_take (suc n) i [] lt = absurd (omega (arith, lt))
get_take (suc n) zero (b ∷ bs) lt = refl
get_take (suc n) (suc i) (b ∷ bs) lt = get_take n i bs (omega (arith, lt))

stop_apart : (b : ℕ) → is_stop b ≡ true → is_reference_byte b ≡ false
stop_apart b e = grind (arith, nat_tests, e)

bare_at : (bs : List ℕ) (c n i : ℕ) → entity_at bs ≡ Some (c, n) → i < n → is_stop (get_or bs i 0) ≡ true → ⊥
bare_at bs c n zero e lt s =
    let none : entity_at bs ≡ None = entity_none bs (λ z. let no : true ≡ false = sym s ∙ ap is_stop z in cc) in
    let no : None ≡ Some (c, n) = sym none ∙ e in cc
bare_at bs c n (suc i) e lt s =
    let within : n ≤ suc i + 1 = subst (EntityWithin (suc i)) e (entity_within (suc i) bs (omega arith) (stop_apart (get_or bs (suc i) 0) s)) in
    let ends : SemicolonEnds bs n = subst (OptReference bs) e (reference_ends bs) in
    let z : suc i ≡ n - 1 = omega (arith, within, lt) in
    let no : true ≡ false = sym s ∙ ap is_stop (ap (λ (j : ℕ). get_or bs j 0) z ∙ ends.last) in cc

entity_bare : (bs : List ℕ) (c n : ℕ) → entity_at bs ≡ Some (c, n) → IsBare (take n bs)
entity_bare bs c n e = by (list_any is_stop (take n bs)) refl
  where
    by : (v : Bool) → list_any is_stop (take n bs) ≡ v → v ≡ false
    by false f = refl
    by true f =
        let a = any_at is_stop (take n bs) f in
        absurd (bare_at bs c n a.at e (omega (arith, a.within, length-take n bs)) (ap is_stop (sym (get_take n a.at bs a.within)) ∙ a.passes))

-- ---- a lexeme

abbrev BareForm : ItemForm → List ℕ → Type 0
BareForm form.Chars bs = Unit {0}
BareForm (form.Entity c) bs = IsBare bs
BareForm form.Nowiki bs = Unit {0}
BareForm form.Extension bs = Unit {0}
BareForm form.Function bs = Unit {0}
BareForm form.Comment bs = Unit {0}
BareForm form.Include bs = Unit {0}
BareForm form.Hidden bs = Unit {0}
BareForm form.EmptyCall bs = Unit {0}

abbrev OptBare : List ℕ → Option Word → Type 0
OptBare bs None = Unit {0}
OptBare bs (Some w) = BareForm (form_of w.0 (take w.1 bs)) (take w.1 bs)

or_bare : (bs : List ℕ) (a b : Option Word) → OptBare bs a → OptBare bs b → OptBare bs (option_or a b)
or_bare bs None b f g = g
or_bare bs (Some w) b f g = f

line_some : (bs : List ℕ) (o : Option ℕ) → OptBare bs (as_word CommentLine o)
line_some bs None = tt
line_some bs (Some n) = tt

line_bare : (a : Bool) (bs : List ℕ) → OptBare bs (comment_line_word a bs)
line_bare true bs = line_some bs (comment_line_len bs)
line_bare false bs = tt

comment_bare : (bs : List ℕ) (o : Option ℕ) → OptBare bs (as_word Comment o)
comment_bare bs None = tt
comment_bare bs (Some n) = tt

raw_if : (t : Bool) (bs : List ℕ) → BareForm (if t then form.Nowiki else form.Extension) bs
raw_if true bs = tt
raw_if false bs = tt

raw_by : (o : Option Tag) (bs : List ℕ) → BareForm (raw_form_by o) bs
raw_by None bs = tt
raw_by (Some t) bs = raw_if (is_nowiki t.name) bs

raw_bare : (bs : List ℕ) (o : Option ℕ) → OptBare bs (as_word Raw o)
raw_bare bs None = tt
raw_bare bs (Some n) = raw_by (opening_tag (take n bs)) (take n bs)

include_bare : (bs : List ℕ) (o : Option Word) → include_at Page bs ≡ o → OptBare bs o
include_bare bs None e = tt
include_bare bs (Some (Include, n)) e = tt
include_bare bs (Some (Hidden, n)) e = tt
include_bare bs (Some (kind, n)) e = absurd (include_kind Page bs (kind, n) e)

reference_bare : (bs : List ℕ) (o : Option (ℕ × ℕ)) → entity_at bs ≡ o → OptBare bs (entity_word o)
reference_bare bs None e = tt
reference_bare bs (Some (c, n)) e = entity_bare bs c n e

if_bare : (bs : List ℕ) (t : Bool) (w : Word) → BareForm (form_of w.0 (take w.1 bs)) (take w.1 bs) → OptBare bs (if t then Some w else None)
if_bare bs true w h = h
if_bare bs false w h = tt

sign_bare : (bs : List ℕ) → OptBare bs (sign_word bs)
unfolding sign_word
sign_bare bs =
    or_bare bs (run_at Opens 123 bs) _ (if_bare bs _ (Opens, _) tt)
    (or_bare bs (run_at Closes 125 bs) _ (if_bare bs _ (Closes, _) tt)
    (or_bare bs (sign_at LinkOpen (codes "[[") 2 bs) _ (if_bare bs _ (LinkOpen, 2) tt)
    (or_bare bs (sign_at LinkClose (codes "]]") 2 bs) _ (if_bare bs _ (LinkClose, 2) tt)
    (or_bare bs (sign_at Pipe (codes "|") 1 bs) (sign_at Equals (codes "=") 1 bs) (if_bare bs _ (Pipe, 1) tt) (if_bare bs _ (Equals, 1) tt)))))

word_bare : (a : Bool) (bs : List ℕ) → OptBare bs (form_at Page a bs)
unfolding form_at
word_bare a bs =
    or_bare bs (comment_line_word a bs) _ (line_bare a bs)
    (or_bare bs (as_word Comment (comment_len bs)) _ (comment_bare bs (comment_len bs))
    (or_bare bs (as_word Raw (raw_len bs)) _ (raw_bare bs (raw_len bs))
    (or_bare bs (include_at Page bs) _ (include_bare bs (include_at Page bs) refl)
    (or_bare bs (entity_word (entity_at bs)) (sign_word bs) (reference_bare bs (entity_at bs) refl) (sign_bare bs)))))

-- ---- the items

abbrev pub BareItem : Item → Type 0
BareItem (char o b) = Unit {0}
BareItem (whole f o bs) = BareForm f bs

abbrev pub AllBare : List Item → Type 0
AllBare [] = Unit {0}
AllBare (x ∷ xs) = BareItem x × AllBare xs

chars_bare : (cs : List ℕ) (rest : List Item) → AllBare rest → AllBare (map (char None) cs ++ rest)
chars_bare [] rest h = h
chars_bare (c ∷ cs) rest h = (tt, chars_bare cs rest h)

whole_bare : (f : ItemForm) (bs : List ℕ) (rest : List Item) → BareForm f bs → AllBare rest → AllBare (items_by f None bs ++ rest)
whole_bare form.Chars bs rest h k = chars_bare bs rest k
whole_bare (form.Entity c) bs rest h k = (h, k)
whole_bare form.Nowiki bs rest h k = (h, k)
whole_bare form.Extension bs rest h k = (h, k)
whole_bare form.Function bs rest h k = (h, k)
whole_bare form.Comment bs rest h k = (h, k)
whole_bare form.Include bs rest h k = (h, k)
whole_bare form.Hidden bs rest h k = (h, k)
whole_bare form.EmptyCall bs rest h k = (h, k)

bare_next : (a : Bool) (b : ℕ) (bs : List ℕ) (o : Option Word) → form_at Page a (b ∷ bs) ≡ o → ((j : ℕ) → AllBare (items_from (is_break b) j bs))
    → AllBare (items_from a 0 (b ∷ bs))
bare_next a b bs None e g = subst AllBare (sym (byte_from a b bs e)) (tt, g 0)
bare_next a b bs (Some (kind, zero)) e g = let fits = form_fits Page a (b ∷ bs) (kind, zero) e in absurd (omega (arith, fits.some))
bare_next a b bs (Some (kind, suc j)) e g =
    let P : Option Word → Type 0 = λ o. OptBare (b ∷ bs) o in
    subst AllBare (sym (form_from a b bs kind j e))
    (whole_bare (form_of kind (b ∷ take j bs)) (b ∷ take j bs) (items_from (is_break b) j bs) (subst P e (word_bare a (b ∷ bs))) (g j))

bare_from : (bs : List ℕ) (a : Bool) (n : ℕ) → AllBare (items_from a n bs)
bare_from [] a zero = tt
bare_from [] a (suc n) = tt
bare_from (b ∷ bs) a (suc n) = bare_from bs (is_break b) n
bare_from (b ∷ bs) a zero = bare_next a b bs (form_at Page a (b ∷ bs)) refl (λ j. bare_from bs (is_break b) j)

pub node_bare : (q : List ℕ) → AllBare (node_items q)
node_bare q = subst AllBare (sym (are_from q)) (bare_from q true 0)
