-- Two braces side by side among a text's items are in a run of braces among its lexemes: where no such run closes behind one that opens, the items call
-- nothing.
use Rattle.std.proofs.Common.{arith, ◌≡◌, inl, inr, ℕ, zero, suc, ◌+◌, ◌<◌, ◌≤◌, ◌==◌, Bool, true, false, cond, Option, Some, None, List, [], ◌∷◌, ◌++◌, length, map, take, get_or, nat_lt, refl, sym, ap, ◌∙◌, subst, codes}
use Rattle.std.specs.Prelude.{◌||◌, if◌then◌else◌}
use Rattle.std.specs.Option.{option_or}
use Rattle.std.specs.List.{prefix_len}
use Rattle.std.proofs.lemmas.Bool.{eqb-true}
use Rattle.std.proofs.lemmas.Bool.Decides.{nat_tests}
use Rattle.wt_span.specs.declared.form.Mode.TheVariants.{Page}
use Rattle.wt_span.specs.declared.form.ItemForm.{ItemForm}
use Rattle.wt_span.specs.declared.form.ItemForm.TheVariants as form
use Rattle.wt_span.specs.declared.form.LexKind.{LexKind}
use Rattle.wt_span.specs.declared.form.LexKind.TheVariants.{Chars, CommentLine, Comment, Raw, Include, Hidden, Entity, Opens, Closes, LinkOpen, LinkClose, Pipe, Equals}
use Rattle.wt_span.specs.Bytes.{is_break, begins}
use Rattle.wt_span.specs.Comments.{comment_len, comment_line_len}
use Rattle.wt_span.specs.Entities.{entity_at}
use Rattle.wt_span.specs.Items.{Item, whole, sign}
use Rattle.wt_span.specs.Lexemes.{Word, Cut, cuts, closed, words, as_word, run_at, sign_at, sign_word, entity_word, comment_line_word, form_at}
use Rattle.wt_span.specs.Tags.{Tag, opening_tag, closing_tag, raw_len, hides, hidden_len, is_left_out, opening_include, closing_include, include_at}
use Rattle.wt_lex.proofs.AllForms.{form_fits}
use Rattle.wt_lex.proofs.Begins.{begins_get, begins_len}
use Rattle.wt_typed_blocks.proofs.Forms.{begins_not}
use Rattle.wt_typed_blocks.proofs.TextReads.{apart, equal_or}
use Rattle.wt_expand.specs.PageItems.{page_items}
use Rattle.wt_text_edit_laws.specs.LonePages.{page_chars}
use Rattle.wt_text_edit_laws.specs.NoCalls.{Brace, opening, closing, braces, NoneClose, NonePairs, CallsNothing, is_brace}
use Rattle.wt_text_edit_laws.proofs.Between.BraceWords.{HasTwo, two_braces, none_pair, AreBraces, run_here, signs_of, signs_split}
use Rattle.wt_text_edit_laws.proofs.Between.Fronts.{first_items, items_from, first_from, byte_from, words_by, words_from}
use Rattle.wt_text_edit_laws.proofs.Blocks.SignBraces.{whole_other}
use Rattle.wt_text_edit_laws.proofs.Cuts.SignBytes.{is_sign_byte, sign_anyway}
use Rattle.wt_text_edit_laws.proofs.Cuts.Uncrossed.{BeginsOther, raw_one}
use Rattle.wt_called_edit_laws.proofs.Among.NoCallRuns.{NoClosing, NoneMeet}

-- ---- the bytes of signs

abbrev AllAre : ℕ → List ℕ → Type 0
AllAre c [] = Unit {0}
AllAre c (b ∷ bs) = (b ≡ c) × AllAre c bs

abbrev NoBraces : List ℕ → Type 0
NoBraces [] = Unit {0}
NoBraces (b ∷ bs) = (is_brace b ≡ false) × NoBraces bs

abbrev IsRunOf : LexKind → List ℕ → Type 0
IsRunOf Chars bs = ⊥
IsRunOf Opens bs = AllAre 123 bs
IsRunOf Closes bs = AllAre 125 bs
IsRunOf LinkOpen bs = NoBraces bs
IsRunOf LinkClose bs = NoBraces bs
IsRunOf Pipe bs = NoBraces bs
IsRunOf Equals bs = NoBraces bs
IsRunOf kind bs = Unit {0}

abbrev OptRun : List ℕ → Option Word → Type 0
OptRun bs None = Unit {0}
OptRun bs (Some (kind, n)) = IsRunOf kind (take n bs)

or_run : (bs : List ℕ) (o p : Option Word) → OptRun bs o → OptRun bs p → OptRun bs (option_or o p)
or_run bs None p f g = g
or_run bs (Some w) p f g = f

if_run : (bs : List ℕ) (t : Bool) (kind : LexKind) (n : ℕ) → (t ≡ true → IsRunOf kind (take n bs)) → OptRun bs (if t then Some (kind, n) else None)
if_run bs true kind n f = f refl
if_run bs false kind n f = tt

run_are : (c : ℕ) (bs : List ℕ) → AllAre c (take (prefix_len (λ b. b == c) bs) bs)
run_are c [] = tt
run_are c (b ∷ bs) = by (b == c) refl (run_are c bs)
  where
    n : ℕ
    n = prefix_len (λ x. x == c) bs

    by : (t : Bool) → (b == c) ≡ t → AllAre c (take n bs) → AllAre c (take (cond t (1 + n) 0) (b ∷ bs))
    by true e h =
        let z : suc n ≡ 1 + n = omega arith in
        subst (λ (k : ℕ). AllAre c (take k (b ∷ bs))) z (eqb-true b c e, h)
    by false e h = tt

two_are : (c : ℕ) (bs : List ℕ) → begins (c ∷ c ∷ []) bs ≡ true → is_brace c ≡ false → NoBraces (take 2 bs)
two_are c bs e h =
    let t : HasTwo c bs = two_braces c bs e in
    subst (λ (xs : List ℕ). NoBraces (take 2 xs)) (sym t.1) (h, (h, tt))

one_is : (c : ℕ) (bs : List ℕ) → begins (c ∷ []) bs ≡ true → is_brace c ≡ false → NoBraces (take 1 bs)
one_is c [] e h = let le = begins_len (c ∷ []) [] e in absurd (omega (arith, le))
one_is c (b ∷ bs) e h =
    let f : b ≡ c = begins_get (c ∷ []) (b ∷ bs) e 0 (omega arith) in
    (ap is_brace f ∙ h, tt)

signs_run : (bs : List ℕ) → OptRun bs (sign_word bs)
unfolding sign_word
signs_run bs =
    or_run bs (run_at Opens 123 bs) _ (if_run bs (nat_lt 1 (prefix_len (λ b. b == 123) bs)) Opens (prefix_len (λ b. b == 123) bs) (λ e. run_are 123 bs))
    (or_run bs (run_at Closes 125 bs) _ (if_run bs (nat_lt 1 (prefix_len (λ b. b == 125) bs)) Closes (prefix_len (λ b. b == 125) bs) (λ e. run_are 125 bs))
    (or_run bs (sign_at LinkOpen (codes "[[") 2 bs) _ (if_run bs (begins (codes "[[") bs) LinkOpen 2 (λ e. two_are 91 bs e refl))
    (or_run bs (sign_at LinkClose (codes "]]") 2 bs) _ (if_run bs (begins (codes "]]") bs) LinkClose 2 (λ e. two_are 93 bs e refl))
    (or_run bs (sign_at Pipe (codes "|") 1 bs) (sign_at Equals (codes "=") 1 bs) (if_run bs (begins (codes "|") bs) Pipe 1 (λ e. one_is 124 bs e refl))
    (if_run bs (begins (codes "=") bs) Equals 1 (λ e. one_is 61 bs e refl))))))

comment_run : (bs : List ℕ) (o : Option ℕ) → OptRun bs (as_word Comment o)
comment_run bs None = tt
comment_run bs (Some n) = tt

raw_run : (bs : List ℕ) (o : Option ℕ) → OptRun bs (as_word Raw o)
raw_run bs None = tt
raw_run bs (Some n) = tt

line_run : (bs : List ℕ) (o : Option ℕ) → OptRun bs (as_word CommentLine o)
line_run bs None = tt
line_run bs (Some n) = tt

after_run : (a : Bool) (bs : List ℕ) → OptRun bs (comment_line_word a bs)
after_run true bs = line_run bs (comment_line_len bs)
after_run false bs = tt

entity_run : (bs : List ℕ) (o : Option (ℕ × ℕ)) → OptRun bs (entity_word o)
entity_run bs None = tt
entity_run bs (Some e) = tt

opening_run : (bs : List ℕ) (o : Option Tag) → OptRun bs (opening_include Page o bs)
opening_run bs None = tt
opening_run bs (Some t) = by (hides Page t.name) (is_left_out Page t.name)
  where
    by : (v u : Bool) → OptRun bs (if v then Some (Hidden, hidden_len t bs) else (if u then Some (Include, t.len) else None))
    by true u = tt
    by false true = tt
    by false false = tt

closing_run : (bs : List ℕ) (o : Option Tag) → OptRun bs (closing_include Page o)
closing_run bs None = tt
closing_run bs (Some t) = if_run bs (is_left_out Page t.name) Include t.len (λ e. tt)

include_run : (bs : List ℕ) → OptRun bs (include_at Page bs)
unfolding include_at
include_run bs =
    or_run bs (opening_include Page (opening_tag bs) bs) (closing_include Page (closing_tag bs)) (opening_run bs (opening_tag bs)) (closing_run bs (closing_tag bs))

form_run : (a : Bool) (bs : List ℕ) → OptRun bs (form_at Page a bs)
unfolding form_at
form_run a bs =
    or_run bs (comment_line_word a bs) _ (after_run a bs)
    (or_run bs (as_word Comment (comment_len bs)) _ (comment_run bs (comment_len bs))
    (or_run bs (as_word Raw (raw_len bs)) _ (raw_run bs (raw_len bs))
    (or_run bs (include_at Page bs) _ (include_run bs)
    (or_run bs (entity_word (entity_at bs)) (sign_word bs) (entity_run bs (entity_at bs)) (signs_run bs)))))

run_is : (a : Bool) (b : ℕ) (bs : List ℕ) (kind : LexKind) (j : ℕ) → form_at Page a (b ∷ bs) ≡ Some (kind, suc j) → IsRunOf kind (b ∷ take j bs)
run_is a b bs kind j e = let P : Option Word → Type 0 = OptRun (b ∷ bs) in subst P e (form_run a (b ∷ bs))

-- ---- a sign that begins no pair

both_none : (u v : Bool) (bs : List Brace) → u ≡ false → v ≡ false → (if u then opening ∷ bs else (if v then closing ∷ bs else bs)) ≡ bs
both_none false false bs e f = refl
both_none false true bs e f = absurd (cc)
both_none true v bs e f = absurd (cc)

pairs_none : (s : ℕ) (ss : List ℕ) → begins (codes "{{") (s ∷ ss) ≡ false → begins (codes "}}") (s ∷ ss) ≡ false → braces (s ∷ ss) ≡ braces ss
pairs_none s ss e f = both_none (begins (codes "{{") (s ∷ ss)) (begins (codes "}}") (s ∷ ss)) (braces ss) e f

begins_other : (c s : ℕ) (ss : List ℕ) → (s == c) ≡ false → begins (c ∷ c ∷ []) (s ∷ ss) ≡ false
begins_other c s ss e = begins_not (c ∷ c ∷ []) (s ∷ ss) 0 (omega arith) (apart s c e)

other_sign : (s : ℕ) (ss : List ℕ) → (s == 123) ≡ false → (s == 125) ≡ false → braces (s ∷ ss) ≡ braces ss
other_sign s ss e f = pairs_none s ss (begins_other 123 s ss e) (begins_other 125 s ss f)

or_first : (u v : Bool) → (u || v) ≡ false → u ≡ false
or_first true v e = absurd (cc)
or_first false v e = refl

or_rest : (u v : Bool) → (u || v) ≡ false → v ≡ false
or_rest true v e = absurd (cc)
or_rest false v e = e

quiet_signs : (cs ss : List ℕ) → NoBraces cs → braces (cs ++ ss) ≡ braces ss
quiet_signs [] ss h = refl
quiet_signs (c ∷ cs) ss h = other_sign c (cs ++ ss) (or_first (c == 123) (c == 125) h.0) (or_rest (c == 123) (c == 125) h.0) ∙ quiet_signs cs ss h.1

-- ---- runs

none_opening : (u v : Bool) (bs : List Brace) → v ≡ false → NoneClose bs → NoneClose (if u then opening ∷ bs else (if v then closing ∷ bs else bs))
none_opening true v bs e h = h
none_opening false false bs e h = h
none_opening false true bs e h = absurd (cc)

pairs_closing : (u v : Bool) (bs : List Brace) → u ≡ false → NonePairs bs → NonePairs (if u then opening ∷ bs else (if v then closing ∷ bs else bs))
pairs_closing false true bs e h = h
pairs_closing false false bs e h = h
pairs_closing true v bs e h = absurd (cc)

opens_none : (cs ss : List ℕ) → AllAre 123 cs → NoneClose (braces ss) → NoneClose (braces (cs ++ ss))
opens_none [] ss a h = h
opens_none (c ∷ cs) ss a h =
    let rest : List ℕ = cs ++ ss in
    let other : (c == 125) ≡ false = ap (λ (x : ℕ). x == 125) a.0 in
    none_opening (begins (codes "{{") (c ∷ rest)) (begins (codes "}}") (c ∷ rest)) (braces rest) (begins_other 125 c rest other) (opens_none cs ss a.1 h)

closes_pairs : (cs ss : List ℕ) → AllAre 125 cs → NonePairs (braces ss) → NonePairs (braces (cs ++ ss))
closes_pairs [] ss a h = h
closes_pairs (c ∷ cs) ss a h =
    let rest : List ℕ = cs ++ ss in
    let other : (c == 123) ≡ false = ap (λ (x : ℕ). x == 123) a.0 in
    pairs_closing (begins (codes "{{") (c ∷ rest)) (begins (codes "}}") (c ∷ rest)) (braces rest) (begins_other 123 c rest other) (closes_pairs cs ss a.1 h)

signs_chars : (cs : List ℕ) → map sign (page_chars cs) ≡ cs
signs_chars [] = refl
signs_chars (c ∷ cs) = ap (λ (xs : List ℕ). c ∷ xs) (signs_chars cs)

whole_sign : (f : ItemForm) (bs ss : List ℕ) → braces (sign (whole f None bs) ∷ ss) ≡ braces ss
whole_sign f bs ss = other_sign (sign (whole f None bs)) ss (whole_other f 123 refl refl) (whole_other f 125 refl refl)

-- ---- a word before others

-- of signs
sign_braces : (cs ss : List ℕ) (P : List Brace → Type 0) → P (braces (cs ++ ss)) → P (braces (map sign (page_chars cs) ++ ss))
sign_braces cs ss P h = subst (λ (xs : List ℕ). P (braces (xs ++ ss))) (sym (signs_chars cs)) h

quiet_word : (cs ss : List ℕ) (P : List Brace → Type 0) → NoBraces cs → P (braces ss) → P (braces (map sign (page_chars cs) ++ ss))
quiet_word cs ss P n h = sign_braces cs ss P (subst P (sym (quiet_signs cs ss n)) h)

whole_word : (f : ItemForm) (bs ss : List ℕ) (P : List Brace → Type 0) → P (braces ss) → P (braces (sign (whole f None bs) ∷ ss))
whole_word f bs ss P h = subst P (sym (whole_sign f bs ss)) h

raw_word : (cs ss : List ℕ) (P : List Brace → Type 0) → P (braces ss) → P (braces (signs_of Raw cs ++ ss))
raw_word cs ss P h =
    let o = raw_one cs in
    subst (λ (xs : List Item). P (braces (map sign xs ++ ss))) (sym o.1) (whole_word o.0 cs ss P h)

many : (kind : LexKind) (cs : List ℕ) (n : ℕ) → begins (codes "}}") cs ≡ true → length cs ≤ n → n < 2 → ⊥
many kind cs n e le few = let two = begins_len (codes "}}") cs e in omega (arith, two, le, few)

none_word : (kind : LexKind) (n : ℕ) (cs ss : List ℕ) (ws : List Word) → IsRunOf kind cs → AreBraces kind cs → length cs ≤ n → NoClosing ((kind, n) ∷ ws)
    → (NoClosing ws → NoneClose (braces ss)) → NoneClose (braces (signs_of kind cs ++ ss))
none_word Chars n cs ss ws r a le h go = absurd r
none_word CommentLine n cs ss ws r a le h go = whole_word form.Comment cs ss NoneClose (go h)
none_word Comment n cs ss ws r a le h go = whole_word form.Comment cs ss NoneClose (go h)
none_word Raw n cs ss ws r a le h go = raw_word cs ss NoneClose (go h)
none_word Include n cs ss ws r a le h go = whole_word form.Include cs ss NoneClose (go h)
none_word Hidden n cs ss ws r a le h go = whole_word form.Hidden cs ss NoneClose (go h)
none_word (Entity c) n cs ss ws r a le h go = whole_word (form.Entity c) cs ss NoneClose (go h)
none_word Opens n cs ss ws r a le h go = sign_braces cs ss NoneClose (opens_none cs ss r (go h))
none_word Closes n cs ss ws r a le h go = absurd (many Closes cs n a le h.0)
none_word LinkOpen n cs ss ws r a le h go = quiet_word cs ss NoneClose r (go h)
none_word LinkClose n cs ss ws r a le h go = quiet_word cs ss NoneClose r (go h)
none_word Pipe n cs ss ws r a le h go = quiet_word cs ss NoneClose r (go h)
none_word Equals n cs ss ws r a le h go = quiet_word cs ss NoneClose r (go h)

two_or_more : (cs : List ℕ) (n : ℕ) → begins (codes "{{") cs ≡ true → length cs ≤ n → 2 ≤ n
two_or_more cs n e le = let two = begins_len (codes "{{") cs e in omega (arith, two, le)

pairs_word : (kind : LexKind) (n : ℕ) (cs ss : List ℕ) (ws : List Word) → IsRunOf kind cs → AreBraces kind cs → length cs ≤ n → NoneMeet ((kind, n) ∷ ws)
    → (NoClosing ws → NoneClose (braces ss)) → (NoneMeet ws → NonePairs (braces ss)) → NonePairs (braces (signs_of kind cs ++ ss))
pairs_word Chars n cs ss ws r a le h none go = absurd r
pairs_word CommentLine n cs ss ws r a le h none go = whole_word form.Comment cs ss NonePairs (go h)
pairs_word Comment n cs ss ws r a le h none go = whole_word form.Comment cs ss NonePairs (go h)
pairs_word Raw n cs ss ws r a le h none go = raw_word cs ss NonePairs (go h)
pairs_word Include n cs ss ws r a le h none go = whole_word form.Include cs ss NonePairs (go h)
pairs_word Hidden n cs ss ws r a le h none go = whole_word form.Hidden cs ss NonePairs (go h)
pairs_word (Entity c) n cs ss ws r a le h none go = whole_word (form.Entity c) cs ss NonePairs (go h)
pairs_word Opens n cs ss ws r a le h none go =
    none_pair (braces (signs_of Opens cs ++ ss)) (sign_braces cs ss NoneClose (opens_none cs ss r (none (h.0 (two_or_more cs n a le)))))
pairs_word Closes n cs ss ws r a le h none go = sign_braces cs ss NonePairs (closes_pairs cs ss r (go h))
pairs_word LinkOpen n cs ss ws r a le h none go = quiet_word cs ss NonePairs r (go h)
pairs_word LinkClose n cs ss ws r a le h none go = quiet_word cs ss NonePairs r (go h)
pairs_word Pipe n cs ss ws r a le h none go = quiet_word cs ss NonePairs r (go h)
pairs_word Equals n cs ss ws r a le h none go = quiet_word cs ss NonePairs r (go h)

-- ---- a byte before others

abbrev FirstOther : ℕ → List ℕ → Type 0
FirstOther c [] = Unit {0}
FirstOther c (s ∷ ss) = (s == c) ≡ false

form_first : (c : ℕ) (f : ItemForm) (b : ℕ) (cs ss : List ℕ) → (256 == c) ≡ false → (257 == c) ≡ false → (b == c) ≡ false
    → FirstOther c (sign (whole f None (b ∷ cs)) ∷ ss)
form_first c f b cs ss e g h = whole_other f c e g

word_first : (c : ℕ) (kind : LexKind) (b : ℕ) (cs ss : List ℕ) → (256 == c) ≡ false → (257 == c) ≡ false → (b == c) ≡ false
    → FirstOther c (signs_of kind (b ∷ cs) ++ ss)
word_first c Chars b cs ss e g h = h
word_first c CommentLine b cs ss e g h = form_first c form.Comment b cs ss e g h
word_first c Comment b cs ss e g h = form_first c form.Comment b cs ss e g h
word_first c Raw b cs ss e g h =
    let o = raw_one (b ∷ cs) in
    subst (λ (xs : List Item). FirstOther c (map sign xs ++ ss)) (sym o.1) (form_first c o.0 b cs ss e g h)
word_first c Include b cs ss e g h = form_first c form.Include b cs ss e g h
word_first c Hidden b cs ss e g h = form_first c form.Hidden b cs ss e g h
word_first c (Entity k) b cs ss e g h = form_first c (form.Entity k) b cs ss e g h
word_first c Opens b cs ss e g h = h
word_first c Closes b cs ss e g h = h
word_first c LinkOpen b cs ss e g h = h
word_first c LinkClose b cs ss e g h = h
word_first c Pipe b cs ss e g h = h
word_first c Equals b cs ss e g h = h

items_first : (c : ℕ) (a : Bool) (bs : List ℕ) → (256 == c) ≡ false → (257 == c) ≡ false → BeginsOther c bs → FirstOther c (map sign (items_from a 0 bs))
items_first c a [] e g h = tt
items_first c a (b ∷ bs) e g h = by (form_at Page a (b ∷ bs)) refl
  where
    by : (o : Option Word) → form_at Page a (b ∷ bs) ≡ o → FirstOther c (map sign (items_from a 0 (b ∷ bs)))
    by None f = subst (λ (xs : List Item). FirstOther c (map sign xs)) (sym (byte_from a b bs f)) h
    by (Some (kind, zero)) f = let fits = form_fits Page a (b ∷ bs) (kind, zero) f in absurd (omega (arith, fits.some))
    by (Some (kind, suc j)) f =
        subst (FirstOther c) (sym (signs_split a b bs kind j f)) (word_first c kind b (take j bs) (map sign (items_from (is_break b) j bs)) e g h)

-- a brace by itself has none behind it
or_none : (o p : Option Word) → option_or o p ≡ None → o ≡ None
or_none None p e = refl
or_none (Some w) p e = absurd (cc)

or_later : (o p : Option Word) → option_or o p ≡ None → p ≡ None
or_later None p e = e
or_later (Some w) p e = absurd (cc)

if_none : (t : Bool) (w : Word) → (if t then Some w else None) ≡ None → t ≡ false
if_none true w e = absurd (cc)
if_none false w e = refl

alone_next : (c d : ℕ) (bs : List ℕ) → (c == c) ≡ true → nat_lt 1 (prefix_len (λ b. b == c) (c ∷ d ∷ bs)) ≡ false → (d == c) ≡ false
alone_next c d bs r e = by (d == c) (c == c) r e
  where
    n : ℕ
    n = prefix_len (λ b. b == c) bs

    by : (t u : Bool) → u ≡ true → nat_lt 1 (cond u (1 + cond t (1 + n) 0) 0) ≡ false → t ≡ false
    by false u f g = refl
    by true true f g = absurd (no g)
      where
        no : nat_lt 1 (1 + (1 + n)) ≡ false → ⊥
        no h = let y : nat_lt 1 (1 + (1 + n)) ≡ true = grind (arith, nat_tests) in let z : true ≡ false = sym y ∙ h in cc
    by true false f g = absurd (cc)

open_next : (bs : List ℕ) → sign_word (123 ∷ bs) ≡ None → BeginsOther 123 bs
unfolding sign_word
open_next [] e = tt
open_next (d ∷ bs) e =
    let first : run_at Opens 123 (123 ∷ d ∷ bs) ≡ None = or_none (run_at Opens 123 (123 ∷ d ∷ bs)) _ e in
    let n : ℕ = prefix_len (λ b. b == 123) (123 ∷ d ∷ bs) in
    alone_next 123 d bs refl (if_none (nat_lt 1 n) (Opens, n) first)

close_next : (bs : List ℕ) → sign_word (125 ∷ bs) ≡ None → BeginsOther 125 bs
unfolding sign_word
close_next [] e = tt
close_next (d ∷ bs) e =
    let later = or_later (run_at Opens 123 (125 ∷ d ∷ bs)) _ e in
    let first : run_at Closes 125 (125 ∷ d ∷ bs) ≡ None = or_none (run_at Closes 125 (125 ∷ d ∷ bs)) _ later in
    let n : ℕ = prefix_len (λ b. b == 125) (125 ∷ d ∷ bs) in
    alone_next 125 d bs refl (if_none (nat_lt 1 n) (Closes, n) first)

other_next : (c : ℕ) (ss : List ℕ) → (0 == c) ≡ false → FirstOther c ss → get_or ss 0 0 ≡ c → ⊥
other_next c [] z h e = apart 0 c z e
other_next c (s ∷ ss) z h e = apart s c h e

no_pair : (c b : ℕ) (ss : List ℕ) → (0 == c) ≡ false → (b ≡ c → FirstOther c ss) → begins (c ∷ c ∷ []) (b ∷ ss) ≡ false
no_pair c b ss z f = elim (equal_or b c) [
  | inl e ↦ begins_not (c ∷ c ∷ []) (b ∷ ss) 1 (omega arith) (other_next c ss z (f e))
  | inr n ↦ begins_other c b ss n
]

byte_braces : (a : Bool) (b : ℕ) (bs : List ℕ) → form_at Page a (b ∷ bs) ≡ None
    → braces (map sign (items_from a 0 (b ∷ bs))) ≡ braces (map sign (items_from (is_break b) 0 bs))
byte_braces a b bs e =
    let ss : List ℕ = map sign (items_from (is_break b) 0 bs) in
    ap (λ (xs : List Item). braces (map sign xs)) (byte_from a b bs e)
    ∙ pairs_none b ss (no_pair 123 b ss refl (λ i. items_first 123 (is_break b) bs refl refl (open_next bs (here 123 refl i))))
    (no_pair 125 b ss refl (λ i. items_first 125 (is_break b) bs refl refl (close_next bs (here 125 refl i))))
  where
    here : (c : ℕ) → is_sign_byte c ≡ true → b ≡ c → sign_word (c ∷ bs) ≡ None
    here c s i =
        let f : form_at Page a (c ∷ bs) ≡ None = subst (λ (x : ℕ). form_at Page a (x ∷ bs) ≡ None) i e in
        sym (sign_anyway a c bs s) ∙ f

-- ---- all of them

closing_rest : (c : Cut) → NoClosing (closed c.0 c.1) → NoClosing c.1
unfolding closed
closing_rest (n, ws) h = by (n == 0) h
  where
    by : (t : Bool) → NoClosing (if t then ws else (Chars, n) ∷ ws) → NoClosing ws
    by true g = g
    by false g = g

meet_rest : (c : Cut) → NoneMeet (closed c.0 c.1) → NoneMeet c.1
unfolding closed
meet_rest (n, ws) h = by (n == 0) h
  where
    by : (t : Bool) → NoneMeet (if t then ws else (Chars, n) ∷ ws) → NoneMeet ws
    by true g = g
    by false g = g

own_len : (b j : ℕ) (bs : List ℕ) → length (b ∷ take j bs) ≤ suc j
own_len b j bs = short j bs
  where
    short : (k : ℕ) (cs : List ℕ) → suc (length (take k cs)) ≤ suc k
    short zero cs = omega arith
    short (suc k) [] = omega arith
    short (suc k) (c ∷ cs) = let le = short k cs in omega (arith, le)

none_form : (a : Bool) (b : ℕ) (bs : List ℕ) (o : Option Word) → form_at Page a (b ∷ bs) ≡ o → NoClosing (cuts Page a 0 (b ∷ bs)).1
    → ((n : ℕ) → NoClosing (cuts Page (is_break b) n bs).1 → NoneClose (braces (map sign (items_from (is_break b) n bs))))
    → NoneClose (braces (map sign (items_from a 0 (b ∷ bs))))
none_form a b bs None e h go = subst NoneClose (sym (byte_braces a b bs e)) (go 0 (subst NoClosing (words_by a b bs e) h))
none_form a b bs (Some (kind, zero)) e h go = let fits = form_fits Page a (b ∷ bs) (kind, zero) e in absurd (omega (arith, fits.some))
none_form a b bs (Some (kind, suc j)) e h go =
    let c : Cut = cuts Page (is_break b) j bs in
    let rest : List ℕ = map sign (items_from (is_break b) j bs) in
    subst (λ (ss : List ℕ). NoneClose (braces ss)) (sym (signs_split a b bs kind j e))
    (none_word kind (suc j) (b ∷ take j bs) rest (closed c.0 c.1) (run_is a b bs kind j e) (run_here a b bs kind j e) (own_len b j bs)
    (subst NoClosing (words_from a b bs kind j e) h) (λ g. go j (closing_rest c g)))

none_items : (a : Bool) (n : ℕ) (bs : List ℕ) → NoClosing (cuts Page a n bs).1 → NoneClose (braces (map sign (items_from a n bs)))
none_items a n [] h = tt
none_items a (suc n) (b ∷ bs) h = none_items (is_break b) n bs h
none_items a zero (b ∷ bs) h = none_form a b bs (form_at Page a (b ∷ bs)) refl h (λ n g. none_items (is_break b) n bs g)

pairs_form : (a : Bool) (b : ℕ) (bs : List ℕ) (o : Option Word) → form_at Page a (b ∷ bs) ≡ o → NoneMeet (cuts Page a 0 (b ∷ bs)).1
    → ((n : ℕ) → NoneMeet (cuts Page (is_break b) n bs).1 → NonePairs (braces (map sign (items_from (is_break b) n bs))))
    → NonePairs (braces (map sign (items_from a 0 (b ∷ bs))))
pairs_form a b bs None e h go = subst NonePairs (sym (byte_braces a b bs e)) (go 0 (subst NoneMeet (words_by a b bs e) h))
pairs_form a b bs (Some (kind, zero)) e h go = let fits = form_fits Page a (b ∷ bs) (kind, zero) e in absurd (omega (arith, fits.some))
pairs_form a b bs (Some (kind, suc j)) e h go =
    let c : Cut = cuts Page (is_break b) j bs in
    let rest : List ℕ = map sign (items_from (is_break b) j bs) in
    subst (λ (ss : List ℕ). NonePairs (braces ss)) (sym (signs_split a b bs kind j e))
    (pairs_word kind (suc j) (b ∷ take j bs) rest (closed c.0 c.1) (run_is a b bs kind j e) (run_here a b bs kind j e) (own_len b j bs)
    (subst NoneMeet (words_from a b bs kind j e) h) (λ g. none_items (is_break b) j bs (closing_rest c g)) (λ g. go j (meet_rest c g)))

pairs_items : (a : Bool) (n : ℕ) (bs : List ℕ) → NoneMeet (cuts Page a n bs).1 → NonePairs (braces (map sign (items_from a n bs)))
pairs_items a n [] h = tt
pairs_items a (suc n) (b ∷ bs) h = pairs_items (is_break b) n bs h
pairs_items a zero (b ∷ bs) h = pairs_form a b bs (form_at Page a (b ∷ bs)) refl h (λ n g. pairs_items (is_break b) n bs g)

pub calls_nothing_so : (bs : List ℕ) → NoneMeet (words Page bs) → CallsNothing (page_items bs)
unfolding words
calls_nothing_so bs h =
    subst CallsNothing (first_from false bs ∙ sym (first_items bs)) (pairs_items false 0 bs (meet_rest (cuts Page false 0 bs) h))
