-- Runs of braces among the lexemes of a page stand among its items, too: where no two that open stand there before two that close, none does
-- among the lexemes.
use Rattle.std.proofs.Common.{arith, ◌≡◌, ℕ, zero, suc, ◌+◌, ◌==◌, Bool, true, false, Option, Some, None, List, [], ◌∷◌, ◌++◌, map, take, nat_lt, refl, sym, ap, ◌∙◌, subst, cond}
use Rattle.std.specs.Prelude.{codes, if◌then◌else◌}
use Rattle.std.specs.Option.{option_or}
use Rattle.std.specs.List.{prefix_len}
use Rattle.std.proofs.lemmas.Bool.{eqb-true}
use Rattle.std.proofs.lemmas.List.{map-append}
use Rattle.wt_span.specs.declared.form.Mode.TheVariants.{Page}
use Rattle.wt_span.specs.declared.form.LexKind.{LexKind}
use Rattle.wt_span.specs.declared.form.LexKind.TheVariants.{Chars, CommentLine, Comment, Raw, Include, Hidden, Opens, Closes, LinkOpen, LinkClose, Pipe, Equals}
use Rattle.wt_span.specs.Bytes.{is_break, begins}
use Rattle.wt_span.specs.Comments.{comment_len, comment_line_len}
use Rattle.wt_span.specs.Tags.{Tag, opening_tag, closing_tag, raw_len, hides, hidden_len, is_left_out, opening_include, closing_include, include_at}
use Rattle.wt_span.specs.Entities.{entity_at}
use Rattle.wt_span.specs.Items.{sign}
use Rattle.wt_span.specs.Lexemes.{Word, Cut, cuts, closed, as_word, comment_line_word, entity_word, run_at, sign_at, sign_word, form_at}
use Rattle.wt_lex.proofs.AllForms.{form_fits}
use Rattle.wt_lex.proofs.Begins.{begins_get, begins_len}
use Rattle.wt_expand.specs.PageItems.{items_of_word}
use Rattle.wt_text_edit_laws.specs.NoCalls.{Brace, opening, closing, braces, NoneClose, NonePairs}
use Rattle.wt_text_edit_laws.proofs.Texts.TypedText.{IsNoCloser, HaveNoClosers}
use Rattle.wt_text_edit_laws.proofs.Between.Fronts.{items_from, byte_from, form_from, words_by, words_from}

-- ---- what is read with the characters before it

shown_if : (t : Bool) (n : ℕ) (ws : List Word) → HaveNoClosers ws → HaveNoClosers (if t then ws else (Chars, n) ∷ ws)
shown_if true n ws h = h
shown_if false n ws h = (tt, h)

shown_closed : (c : Cut) → HaveNoClosers c.1 → HaveNoClosers (closed c.0 c.1)
unfolding closed
shown_closed (n, ws) h = shown_if (n == 0) n ws h

-- ---- the bytes of a run

abbrev pub AreBraces : LexKind → List ℕ → Type 0
AreBraces Opens bs = begins (codes "{{") bs ≡ true
AreBraces Closes bs = begins (codes "}}") bs ≡ true
AreBraces kind bs = Unit {0}

abbrev OptRun : List ℕ → Option Word → Type 0
OptRun bs None = Unit {0}
OptRun bs (Some (kind, n)) = AreBraces kind (take n bs)

or_run : (bs : List ℕ) (a b : Option Word) → OptRun bs a → OptRun bs b → OptRun bs (option_or a b)
or_run bs None b f g = g
or_run bs (Some w) b f g = f

if_run : (bs : List ℕ) (t : Bool) (kind : LexKind) (n : ℕ) → AreBraces kind (take n bs) → OptRun bs (if t then Some (kind, n) else None)
if_run bs true kind n h = h
if_run bs false kind n h = tt

two_first : (kind : LexKind) (byte b c m : ℕ) (cs : List ℕ) → ((xs : List ℕ) → AreBraces kind (byte ∷ byte ∷ xs)) → (b == byte) ≡ true → (c == byte) ≡ true
    → AreBraces kind (take (1 + (1 + m)) (b ∷ c ∷ cs))
two_first kind byte b c m cs f e g =
    let P : ℕ → Type 0 = λ (n : ℕ). AreBraces kind (take n (b ∷ c ∷ cs)) in
    let more : AreBraces kind (byte ∷ byte ∷ take m cs) = f (take m cs) in
    let n : suc (suc m) ≡ 1 + (1 + m) = omega arith in
    subst P n (subst (λ (x : ℕ). AreBraces kind (x ∷ c ∷ take m cs)) (sym (eqb-true b byte e))
    (subst (λ (x : ℕ). AreBraces kind (byte ∷ x ∷ take m cs)) (sym (eqb-true c byte g)) more))

run_by : (kind : LexKind) (byte : ℕ) (bs : List ℕ) → ((xs : List ℕ) → AreBraces kind (byte ∷ byte ∷ xs)) → OptRun bs (run_at kind byte bs)
run_by kind byte [] f = tt
run_by kind byte (b ∷ []) f = by (b == byte)
  where
    by : (t : Bool) → OptRun (b ∷ []) (if nat_lt 1 (cond t (1 + 0) 0) then Some (kind, cond t (1 + 0) 0) else None)
    by true = tt
    by false = tt
run_by kind byte (b ∷ c ∷ cs) f = by (b == byte) (c == byte) refl refl
  where
    m : ℕ
    m = prefix_len (λ x. x == byte) cs

    by : (t u : Bool) → (b == byte) ≡ t → (c == byte) ≡ u
        → OptRun (b ∷ c ∷ cs) (if nat_lt 1 (cond t (1 + cond u (1 + m) 0) 0) then Some (kind, cond t (1 + cond u (1 + m) 0) 0) else None)
    by true true e g = if_run (b ∷ c ∷ cs) (nat_lt 1 (1 + (1 + m))) kind (1 + (1 + m)) (two_first kind byte b c m cs f e g)
    by true false e g = tt
    by false u e g = tt

signs_run : (bs : List ℕ) → OptRun bs (sign_word bs)
unfolding sign_word
signs_run bs =
    or_run bs (run_at Opens 123 bs) _ (run_by Opens 123 bs (λ xs. refl))
    (or_run bs (run_at Closes 125 bs) _ (run_by Closes 125 bs (λ xs. refl))
    (or_run bs (sign_at LinkOpen (codes "[[") 2 bs) _ (if_run bs (begins (codes "[[") bs) LinkOpen 2 tt)
    (or_run bs (sign_at LinkClose (codes "]]") 2 bs) _ (if_run bs (begins (codes "]]") bs) LinkClose 2 tt)
    (or_run bs (sign_at Pipe (codes "|") 1 bs) (sign_at Equals (codes "=") 1 bs) (if_run bs (begins (codes "|") bs) Pipe 1 tt)
    (if_run bs (begins (codes "=") bs) Equals 1 tt)))))

comment_run : (bs : List ℕ) (o : Option ℕ) → OptRun bs (as_word Comment o)
comment_run bs None = tt
comment_run bs (Some n) = tt

raw_run : (bs : List ℕ) (o : Option ℕ) → OptRun bs (as_word Raw o)
raw_run bs None = tt
raw_run bs (Some n) = tt

line_run : (bs : List ℕ) (o : Option ℕ) → OptRun bs (as_word CommentLine o)
line_run bs None = tt
line_run bs (Some n) = tt

after_run : (a : Bool) (bs : List ℕ) → OptRun bs (comment_line_word a bs)
after_run true bs = line_run bs (comment_line_len bs)
after_run false bs = tt

entity_run : (bs : List ℕ) (o : Option (ℕ × ℕ)) → OptRun bs (entity_word o)
entity_run bs None = tt
entity_run bs (Some e) = tt

opening_run : (bs : List ℕ) (o : Option Tag) → OptRun bs (opening_include Page o bs)
opening_run bs None = tt
opening_run bs (Some t) = by (hides Page t.name) (is_left_out Page t.name)
  where
    by : (v u : Bool) → OptRun bs (if v then Some (Hidden, hidden_len t bs) else (if u then Some (Include, t.len) else None))
    by true u = tt
    by false true = tt
    by false false = tt

closing_run : (bs : List ℕ) (o : Option Tag) → OptRun bs (closing_include Page o)
closing_run bs None = tt
closing_run bs (Some t) = if_run bs (is_left_out Page t.name) Include t.len tt

include_run : (bs : List ℕ) → OptRun bs (include_at Page bs)
unfolding include_at
include_run bs =
    or_run bs (opening_include Page (opening_tag bs) bs) (closing_include Page (closing_tag bs)) (opening_run bs (opening_tag bs)) (closing_run bs (closing_tag bs))

form_run : (a : Bool) (bs : List ℕ) → OptRun bs (form_at Page a bs)
unfolding form_at
form_run a bs =
    or_run bs (comment_line_word a bs) _ (after_run a bs)
    (or_run bs (as_word Comment (comment_len bs)) _ (comment_run bs (comment_len bs))
    (or_run bs (as_word Raw (raw_len bs)) _ (raw_run bs (raw_len bs))
    (or_run bs (include_at Page bs) _ (include_run bs)
    (or_run bs (entity_word (entity_at bs)) (sign_word bs) (entity_run bs (entity_at bs)) (signs_run bs)))))

-- ---- braces behind others

none_past : (t u : Bool) (bs rs : List Brace) → NoneClose (if t then opening ∷ bs else (if u then closing ∷ bs else bs)) → (NoneClose bs → NoneClose rs) → NoneClose rs
none_past true u bs rs h f = f h
none_past false true bs rs h f = absurd h
none_past false false bs rs h f = f h

pub none_behind : (ss rs : List ℕ) → NoneClose (braces (ss ++ rs)) → NoneClose (braces rs)
none_behind [] rs h = h
none_behind (s ∷ ss) rs h =
    none_past (begins (codes "{{") (s ∷ (ss ++ rs))) (begins (codes "}}") (s ∷ (ss ++ rs))) (braces (ss ++ rs)) (braces rs) h (λ g. none_behind ss rs g)

pub none_pair : (bs : List Brace) → NoneClose bs → NonePairs bs
none_pair [] h = tt
none_pair (opening ∷ bs) h = h
none_pair (closing ∷ bs) h = absurd h

pairs_past : (t u : Bool) (bs rs : List Brace) → NonePairs (if t then opening ∷ bs else (if u then closing ∷ bs else bs)) → (NonePairs bs → NonePairs rs) → NonePairs rs
pairs_past true u bs rs h f = f (none_pair bs h)
pairs_past false true bs rs h f = f h
pairs_past false false bs rs h f = f h

pub pairs_behind : (ss rs : List ℕ) → NonePairs (braces (ss ++ rs)) → NonePairs (braces rs)
pairs_behind [] rs h = h
pairs_behind (s ∷ ss) rs h =
    pairs_past (begins (codes "{{") (s ∷ (ss ++ rs))) (begins (codes "}}") (s ∷ (ss ++ rs))) (braces (ss ++ rs)) (braces rs) h (λ g. pairs_behind ss rs g)

-- ---- the items of a run

-- a run is two braces and more
abbrev pub HasTwo : ℕ → List ℕ → Type 0
HasTwo byte bs = (cs : List ℕ) × (bs ≡ byte ∷ byte ∷ cs)

pub two_braces : (byte : ℕ) (bs : List ℕ) → begins (byte ∷ byte ∷ []) bs ≡ true → HasTwo byte bs
two_braces byte [] e = let le = begins_len (byte ∷ byte ∷ []) [] e in absurd (omega (arith, le))
two_braces byte (b ∷ []) e = let le = begins_len (byte ∷ byte ∷ []) (b ∷ []) e in absurd (omega (arith, le))
two_braces byte (b ∷ c ∷ cs) e =
    let f : b ≡ byte = begins_get (byte ∷ byte ∷ []) (b ∷ c ∷ cs) e 0 (omega arith) in
    let g : c ≡ byte = begins_get (byte ∷ byte ∷ []) (b ∷ c ∷ cs) e 1 (omega arith) in
    (cs, ap (λ (x : ℕ). x ∷ c ∷ cs) f ∙ ap (λ (x : ℕ). byte ∷ x ∷ cs) g)

abbrev pub signs_of : LexKind → List ℕ → List ℕ
signs_of kind bs = map sign (items_of_word kind bs)

closes_none : (bs rs : List ℕ) → begins (codes "}}") bs ≡ true → NoneClose (braces (signs_of Closes bs ++ rs)) → ⊥
closes_none bs rs e h =
    let t = two_braces 125 bs e in
    let g : NoneClose (braces (signs_of Closes (125 ∷ 125 ∷ t.0) ++ rs)) = subst (λ (cs : List ℕ). NoneClose (braces (signs_of Closes cs ++ rs))) t.1 h in
    absurd g

opens_behind : (bs rs : List ℕ) → begins (codes "{{") bs ≡ true → NonePairs (braces (signs_of Opens bs ++ rs)) → NoneClose (braces rs)
opens_behind bs rs e h =
    let t = two_braces 123 bs e in
    let g : NonePairs (braces (signs_of Opens (123 ∷ 123 ∷ t.0) ++ rs)) = subst (λ (cs : List ℕ). NonePairs (braces (signs_of Opens cs ++ rs))) t.1 h in
    none_behind (signs_of Opens (123 ∷ t.0)) rs g

no_closer : (kind : LexKind) (bs rs : List ℕ) → AreBraces kind bs → NoneClose (braces (signs_of kind bs ++ rs)) → IsNoCloser kind
no_closer Closes bs rs a h = closes_none bs rs a h
no_closer kind bs rs a h = tt

-- ---- the words

pub run_here : (a : Bool) (b : ℕ) (bs : List ℕ) (kind : LexKind) (j : ℕ) → form_at Page a (b ∷ bs) ≡ Some (kind, suc j) → AreBraces kind (b ∷ take j bs)
run_here a b bs kind j e = let P : Option Word → Type 0 = OptRun (b ∷ bs) in subst P e (form_run a (b ∷ bs))

pub signs_split : (a : Bool) (b : ℕ) (bs : List ℕ) (kind : LexKind) (j : ℕ) → form_at Page a (b ∷ bs) ≡ Some (kind, suc j)
    → map sign (items_from a 0 (b ∷ bs)) ≡ signs_of kind (b ∷ take j bs) ++ map sign (items_from (is_break b) j bs)
signs_split a b bs kind j e = ap (map sign) (form_from a b bs kind j e) ∙ map-append sign (items_of_word kind (b ∷ take j bs)) (items_from (is_break b) j bs)

none_word : (a : Bool) (b : ℕ) (bs : List ℕ) (o : Option Word) → form_at Page a (b ∷ bs) ≡ o → NoneClose (braces (map sign (items_from a 0 (b ∷ bs))))
    → ((n : ℕ) → NoneClose (braces (map sign (items_from (is_break b) n bs))) → HaveNoClosers (cuts Page (is_break b) n bs).1) → HaveNoClosers (cuts Page a 0 (b ∷ bs)).1
none_word a b bs None e h go =
    let rest : List ℕ = map sign (items_from (is_break b) 0 bs) in
    let all : NoneClose (braces (b ∷ rest)) = subst (λ (ss : List ℕ). NoneClose (braces ss)) (ap (map sign) (byte_from a b bs e)) h in
    subst HaveNoClosers (sym (words_by a b bs e)) (go 0 (none_behind (b ∷ []) rest all))
none_word a b bs (Some (kind, zero)) e h go = let fits = form_fits Page a (b ∷ bs) (kind, zero) e in absurd (omega (arith, fits.some))
none_word a b bs (Some (kind, suc j)) e h go =
    let own : List ℕ = b ∷ take j bs in
    let rest : List ℕ = map sign (items_from (is_break b) j bs) in
    let all : NoneClose (braces (signs_of kind own ++ rest)) = subst (λ (ss : List ℕ). NoneClose (braces ss)) (signs_split a b bs kind j e) h in
    subst HaveNoClosers (sym (words_from a b bs kind j e))
    (no_closer kind own rest (run_here a b bs kind j e) all, shown_closed (cuts Page (is_break b) j bs) (go j (none_behind (signs_of kind own) rest all)))

none_words : (a : Bool) (n : ℕ) (bs : List ℕ) → NoneClose (braces (map sign (items_from a n bs))) → HaveNoClosers (cuts Page a n bs).1
none_words a n [] h = tt
none_words a (suc n) (b ∷ bs) h = none_words (is_break b) n bs h
none_words a zero (b ∷ bs) h = none_word a b bs (form_at Page a (b ∷ bs)) refl h (λ n g. none_words (is_break b) n bs g)

-- none closes behind one that opens
abbrev pub CallNothing : List Word → Type 0
CallNothing [] = Unit {0}
CallNothing ((Opens, n) ∷ ws) = HaveNoClosers ws
CallNothing ((kind, n) ∷ ws) = CallNothing ws

calm_if : (t : Bool) (n : ℕ) (ws : List Word) → CallNothing ws → CallNothing (if t then ws else (Chars, n) ∷ ws)
calm_if true n ws h = h
calm_if false n ws h = h

pub calm_closed : (c : Cut) → CallNothing c.1 → CallNothing (closed c.0 c.1)
unfolding closed
calm_closed (n, ws) h = calm_if (n == 0) n ws h

-- a word before others
calm_word : (kind : LexKind) (n j : ℕ) (bs rs : List ℕ) (ws : List Word) → AreBraces kind bs → NonePairs (braces (signs_of kind bs ++ rs))
    → (NoneClose (braces rs) → HaveNoClosers ws) → (NonePairs (braces rs) → CallNothing ws) → CallNothing ((kind, n) ∷ ws)
calm_word Opens n j bs rs ws a h f g = f (opens_behind bs rs a h)
calm_word kind n j bs rs ws a h f g = g (pairs_behind (signs_of kind bs) rs h)

pairs_word : (a : Bool) (b : ℕ) (bs : List ℕ) (o : Option Word) → form_at Page a (b ∷ bs) ≡ o → NonePairs (braces (map sign (items_from a 0 (b ∷ bs))))
    → ((n : ℕ) → NonePairs (braces (map sign (items_from (is_break b) n bs))) → CallNothing (cuts Page (is_break b) n bs).1) → CallNothing (cuts Page a 0 (b ∷ bs)).1
pairs_word a b bs None e h go =
    let rest : List ℕ = map sign (items_from (is_break b) 0 bs) in
    let all : NonePairs (braces (b ∷ rest)) = subst (λ (ss : List ℕ). NonePairs (braces ss)) (ap (map sign) (byte_from a b bs e)) h in
    subst CallNothing (sym (words_by a b bs e)) (go 0 (pairs_behind (b ∷ []) rest all))
pairs_word a b bs (Some (kind, zero)) e h go = let fits = form_fits Page a (b ∷ bs) (kind, zero) e in absurd (omega (arith, fits.some))
pairs_word a b bs (Some (kind, suc j)) e h go =
    let own : List ℕ = b ∷ take j bs in
    let rest : List ℕ = map sign (items_from (is_break b) j bs) in
    let all : NonePairs (braces (signs_of kind own ++ rest)) = subst (λ (ss : List ℕ). NonePairs (braces ss)) (signs_split a b bs kind j e) h in
    let c : Cut = cuts Page (is_break b) j bs in
    subst CallNothing (sym (words_from a b bs kind j e))
    (calm_word kind (suc j) j own rest (closed c.0 c.1) (run_here a b bs kind j e) all
    (λ n. shown_closed c (none_words (is_break b) j bs n)) (λ n. calm_closed c (go j n)))

pub pairs_words : (a : Bool) (n : ℕ) (bs : List ℕ) → NonePairs (braces (map sign (items_from a n bs))) → CallNothing (cuts Page a n bs).1
pairs_words a n [] h = tt
pairs_words a (suc n) (b ∷ bs) h = pairs_words (is_break b) n bs h
pairs_words a zero (b ∷ bs) h = pairs_word a b bs (form_at Page a (b ∷ bs)) refl h (λ n g. pairs_words (is_break b) n bs g)
