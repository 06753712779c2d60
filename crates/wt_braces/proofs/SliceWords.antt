-- The lexemes of a slice of a text that begins within a run of opening braces and ends within one of closing braces are those of
-- the text, with what is left of the two runs.
use Rattle.std.proofs.Common.{◌≡◌, ℕ, zero, suc, ◌+◌, ◌-◌, ◌<◌, ◌≤◌, ◌==◌, Bool, true, false, cond, Option, Some, None, List, [], ◌∷◌, ◌++◌, get_or, take, drop, nat_lt, refl, sym, ap, ◌∙◌, subst, arith, length-take, length-drop, codes}
use Rattle.std.specs.Prelude.{if◌then◌else◌, ◌&&◌, slice_index}
use Rattle.std.specs.Option.{option_or}
use Rattle.std.specs.List.{prefix_len}
use Rattle.std.proofs.lemmas.Bool.{eqb-true}
use Rattle.std.proofs.lemmas.Bool.Decides.{nat_tests}
use Rattle.std.proofs.lemmas.List.{drop-take, drop-drop, get_or-drop}
use Rattle.std.proofs.lemmas.List.Sums.{prefix_len_passes}
use Rattle.wt_span.specs.declared.form.Mode.{Mode}
use Rattle.wt_span.specs.declared.form.LexKind.{LexKind}
use Rattle.wt_span.specs.declared.form.LexKind.TheVariants.{Chars, CommentLine, Comment, Raw, Include, Hidden, Entity, Opens, Closes, LinkOpen, LinkClose, Pipe, Equals}
use Rattle.wt_span.specs.Bytes.{is_blank, is_break, begins, blank_len}
use Rattle.wt_span.specs.Comments.{comment_len, remarks_with, remarks_len, comment_line_len}
use Rattle.wt_span.specs.Tags.{raw_len, include_at}
use Rattle.wt_span.specs.Entities.{entity_at}
use Rattle.wt_span.specs.Lexemes.{Word, as_word, run_at, sign_at, sign_word, entity_word, comment_line_word, form_at, words}
use Rattle.wt_lex.specs.Reading.{break_before, Stands, BeginsWithForm, Apart, AreLexemes}
use Rattle.wt_lex.proofs.AllForms.{entity_none}
use Rattle.wt_lex.proofs.Fronts.{byte_front, drop_front}
use Rattle.wt_lex.proofs.Readings.{words_are, words_only}
use Rattle.wt_lex.proofs.TagForms.{tag_none}
use Rattle.wt_lex.proofs.WholeTags.{include_kind}
use Rattle.wt_braces.specs.Words.{total_width}
use Rattle.wt_braces.proofs.FrontForms.{IsFront, pair_size, no_comment}
use Rattle.wt_braces.proofs.FrontTags.{form_front}

-- ---- a run of braces is read as one wherever it stands

abbrev pub run_of_byte : ℕ → List ℕ → ℕ
run_of_byte byte bs = prefix_len (λ b. b == byte) bs

first_byte : (byte : ℕ) (bs : List ℕ) → 0 < run_of_byte byte bs → get_or bs 0 0 ≡ byte
first_byte byte bs h = eqb-true (get_or bs 0 0) byte (prefix_len_passes (λ b. b == byte) bs 0 0 h)

-- a text that begins with no `<`, no `&` and no blank begins with a sign or with no form
no_line : (b : ℕ) (bs : List ℕ) → (b ≡ 60 → ⊥) → is_blank b ≡ false → comment_line_len (b ∷ bs) ≡ None
unfolding comment_line_len
no_line b bs h e =
    let none : remarks_len 0 (b ∷ bs) ≡ 0 = ap (λ o. remarks_with o b (λ n. remarks_len n bs)) (no_comment b bs h)
    ∙ ap (λ t. if t then 1 + remarks_len 0 bs else 0) e in
    let no : nat_lt (blank_len (b ∷ bs)) 0 ≡ false = grind (arith, nat_tests) in
    ap (λ n. if nat_lt (blank_len (b ∷ bs)) n && is_break (slice_index (b ∷ bs) n) then Some (n + 1) else None) none
    ∙ ap (λ t. if t && is_break (slice_index (b ∷ bs) 0) then Some (0 + 1) else None) no

line_word_none : (after : Bool) (b : ℕ) (bs : List ℕ) → (b ≡ 60 → ⊥) → is_blank b ≡ false → comment_line_word after (b ∷ bs) ≡ None
line_word_none true b bs h e = ap (as_word CommentLine) (no_line b bs h e)
line_word_none false b bs h e = refl

both_none : (o p : Option Word) → option_or o p ≡ None → (o ≡ None) × (p ≡ None)
both_none None p e = (refl, e)
both_none (Some w) p e = cc

sign_only : (mode : Mode) (after : Bool) (b : ℕ) (bs : List ℕ) → (b ≡ 60 → ⊥) → (b ≡ 38 → ⊥) → is_blank b ≡ false
    → form_at mode after (b ∷ bs) ≡ sign_word (b ∷ bs)
unfolding form_at
sign_only mode after b bs h g e =
    let xs = b ∷ bs in
    let tags = both_none (as_word Raw (raw_len xs)) (include_at mode xs) (tag_none mode xs h) in
    ap (λ o. option_or o (option_or (as_word Comment (comment_len xs))
    (option_or (as_word Raw (raw_len xs)) (option_or (include_at mode xs)
    (option_or (entity_word (entity_at xs)) (sign_word xs)))))) (line_word_none after b bs h e)
    ∙ ap (λ o. option_or (as_word Comment o) (option_or (as_word Raw (raw_len xs))
    (option_or (include_at mode xs) (option_or (entity_word (entity_at xs)) (sign_word xs))))) (no_comment b bs h)
    ∙ ap (λ o. option_or o (option_or (include_at mode xs) (option_or (entity_word (entity_at xs)) (sign_word xs)))) tags.0
    ∙ ap (λ o. option_or o (option_or (entity_word (entity_at xs)) (sign_word xs))) tags.1
    ∙ ap (λ o. option_or (entity_word o) (sign_word xs)) (entity_none xs g)

run_is : (kind : LexKind) (byte : ℕ) (bs : List ℕ) (n : ℕ) → run_of_byte byte bs ≡ n → 2 ≤ n → run_at kind byte bs ≡ Some (kind, n)
run_is kind byte bs n e two =
    let yes : nat_lt 1 n ≡ true = grind (arith, nat_tests) in
    ap (λ (i : ℕ). if nat_lt 1 i then Some (kind, i) else None) e ∙ ap (λ t. if t then Some (kind, n) else None) yes

sign_opens : (bs : List ℕ) (n : ℕ) → run_of_byte 123 bs ≡ n → 2 ≤ n → sign_word bs ≡ Some (Opens, n)
unfolding sign_word
sign_opens bs n e two =
    ap
    (λ o. option_or o (option_or (run_at Closes 125 bs)
    (option_or (sign_at LinkOpen (codes "[[") 2 bs)
    (option_or (sign_at LinkClose (codes "]]") 2 bs) (option_or (sign_at Pipe (codes "|") 1 bs) (sign_at Equals (codes "=") 1 bs))))))
    (run_is Opens 123 bs n e two)

other_run : (b : ℕ) (bs : List ℕ) → b ≡ 125 → run_at Opens 123 (b ∷ bs) ≡ None
other_run b bs e =
    let none : run_of_byte 123 (b ∷ bs) ≡ 0 = ap (λ (c : ℕ). cond (c == 123) (1 + run_of_byte 123 bs) 0) e in
    ap (λ (i : ℕ). if nat_lt 1 i then Some (Opens, i) else None) none

sign_closes : (b : ℕ) (bs : List ℕ) (n : ℕ) → b ≡ 125 → run_of_byte 125 (b ∷ bs) ≡ n → 2 ≤ n → sign_word (b ∷ bs) ≡ Some (Closes, n)
unfolding sign_word
sign_closes b bs n f e two =
    let xs = b ∷ bs in
    let others = option_or (sign_at LinkOpen (codes "[[") 2 xs)
    (option_or (sign_at LinkClose (codes "]]") 2 xs) (option_or (sign_at Pipe (codes "|") 1 xs) (sign_at Equals (codes "=") 1 xs))) in
    ap (λ o. option_or o (option_or (run_at Closes 125 xs) others)) (other_run b bs f) ∙ ap (λ o. option_or o others) (run_is Closes 125 xs n e two)

differ : (b c d : ℕ) → b ≡ c → (c == d) ≡ false → b ≡ d → ⊥
differ b c d e t f = let z : (c == d) ≡ true = let g : c ≡ d = sym e ∙ f in grind (arith, nat_tests) in let w : true ≡ false = sym z ∙ t in cc

pub opens_form : (mode : Mode) (after : Bool) (bs : List ℕ) (n : ℕ) → run_of_byte 123 bs ≡ n → 2 ≤ n → form_at mode after bs ≡ Some (Opens, n)
opens_form mode after [] n e two = absurd (omega (arith, e, two))
opens_form mode after (b ∷ bs) n e two =
    let f = first_byte 123 (b ∷ bs) (omega (arith, e, two)) in
    sign_only mode after b bs (differ b 123 60 f refl) (differ b 123 38 f refl) (ap is_blank f) ∙ sign_opens (b ∷ bs) n e two

pub closes_form : (mode : Mode) (after : Bool) (bs : List ℕ) (n : ℕ) → run_of_byte 125 bs ≡ n → 2 ≤ n → form_at mode after bs ≡ Some (Closes, n)
closes_form mode after [] n e two = absurd (omega (arith, e, two))
closes_form mode after (b ∷ bs) n e two =
    let f = first_byte 125 (b ∷ bs) (omega (arith, e, two)) in
    sign_only mode after b bs (differ b 125 60 f refl) (differ b 125 38 f refl) (ap is_blank f) ∙ sign_closes b bs n f e two

-- ---- and only so

abbrev HasRun : List ℕ → Word → Type 0
HasRun bs (Chars, n) = Unit {0}
HasRun bs (CommentLine, n) = Unit {0}
HasRun bs (Comment, n) = Unit {0}
HasRun bs (Raw, n) = Unit {0}
HasRun bs (Include, n) = Unit {0}
HasRun bs (Hidden, n) = Unit {0}
HasRun bs (Entity c, n) = Unit {0}
HasRun bs (Opens, n) = run_of_byte 123 bs ≡ n
HasRun bs (Closes, n) = run_of_byte 125 bs ≡ n
HasRun bs (LinkOpen, n) = Unit {0}
HasRun bs (LinkClose, n) = Unit {0}
HasRun bs (Pipe, n) = Unit {0}
HasRun bs (Equals, n) = Unit {0}

abbrev OptRun : List ℕ → Option Word → Type 0
OptRun bs None = Unit {0}
OptRun bs (Some w) = HasRun bs w

or_run : (bs : List ℕ) (a b : Option Word) → OptRun bs a → OptRun bs b → OptRun bs (option_or a b)
or_run bs None b f g = g
or_run bs (Some w) b f g = f

if_run : (bs : List ℕ) (t : Bool) (w : Word) → HasRun bs w → OptRun bs (if t then Some w else None)
if_run bs true w f = f
if_run bs false w f = tt

signs_run : (bs : List ℕ) → OptRun bs (sign_word bs)
unfolding sign_word
signs_run bs =
    or_run bs (run_at Opens 123 bs) _ (if_run bs (nat_lt 1 (run_of_byte 123 bs)) (Opens, run_of_byte 123 bs) refl)
    (or_run bs (run_at Closes 125 bs) _ (if_run bs (nat_lt 1 (run_of_byte 125 bs)) (Closes, run_of_byte 125 bs) refl)
    (or_run bs (sign_at LinkOpen (codes "[[") 2 bs) _ (if_run bs (begins (codes "[[") bs) (LinkOpen, 2) tt)
    (or_run bs (sign_at LinkClose (codes "]]") 2 bs) _ (if_run bs (begins (codes "]]") bs) (LinkClose, 2) tt)
    (or_run bs (sign_at Pipe (codes "|") 1 bs) (sign_at Equals (codes "=") 1 bs) (if_run bs (begins (codes "|") bs) (Pipe, 1) tt)
    (if_run bs (begins (codes "=") bs) (Equals, 1) tt)))))

comment_run : (bs : List ℕ) (o : Option ℕ) → OptRun bs (as_word Comment o)
comment_run bs None = tt
comment_run bs (Some n) = tt

line_run : (bs : List ℕ) (o : Option ℕ) → OptRun bs (as_word CommentLine o)
line_run bs None = tt
line_run bs (Some n) = tt

line_word_run : (after : Bool) (bs : List ℕ) → OptRun bs (comment_line_word after bs)
line_word_run true bs = line_run bs (comment_line_len bs)
line_word_run false bs = tt

raw_run : (bs : List ℕ) (o : Option ℕ) → OptRun bs (as_word Raw o)
raw_run bs None = tt
raw_run bs (Some n) = tt

include_run : (mode : Mode) (bs : List ℕ) (o : Option Word) → include_at mode bs ≡ o → OptRun bs o
include_run mode bs None e = tt
include_run mode bs (Some (Include, n)) e = tt
include_run mode bs (Some (Hidden, n)) e = tt
include_run mode bs (Some (kind, n)) e = absurd (include_kind mode bs (kind, n) e)

entity_run : (bs : List ℕ) (o : Option (ℕ × ℕ)) → OptRun bs (entity_word o)
entity_run bs None = tt
entity_run bs (Some x) = tt

all_run : (mode : Mode) (after : Bool) (bs : List ℕ) → OptRun bs (form_at mode after bs)
unfolding form_at
all_run mode after bs =
    or_run bs (comment_line_word after bs) _ (line_word_run after bs)
    (or_run bs (as_word Comment (comment_len bs)) _ (comment_run bs (comment_len bs))
    (or_run bs (as_word Raw (raw_len bs)) _ (raw_run bs (raw_len bs))
    (or_run bs (include_at mode bs) _ (include_run mode bs (include_at mode bs) refl)
    (or_run bs (entity_word (entity_at bs)) (sign_word bs) (entity_run bs (entity_at bs)) (signs_run bs)))))

form_run : (mode : Mode) (after : Bool) (kind : LexKind) (n : ℕ) (bs : List ℕ) → form_at mode after bs ≡ Some (kind, n) → HasRun bs (kind, n)
form_run mode after kind n bs e = subst (OptRun bs) e (all_run mode after bs)

-- ---- what is left of a run

run_drop : (byte : ℕ) (i : ℕ) (bs : List ℕ) → i ≤ run_of_byte byte bs → run_of_byte byte (drop i bs) ≡ run_of_byte byte bs - i
run_drop byte zero bs h = omega arith
run_drop byte (suc i) [] h = omega arith
run_drop byte (suc i) (b ∷ bs) h = by (b == byte) h (run_drop byte i bs)
  where
    by : (t : Bool) → suc i ≤ cond t (1 + run_of_byte byte bs) 0
        → (i ≤ run_of_byte byte bs → run_of_byte byte (drop i bs) ≡ run_of_byte byte bs - i)
        → run_of_byte byte (drop i bs) ≡ cond t (1 + run_of_byte byte bs) 0 - suc i
    by true h rest = let z = rest (omega arith) in omega (arith, z)
    by false h rest = absurd (omega arith)

run_take : (byte : ℕ) (m : ℕ) (bs : List ℕ) → m ≤ run_of_byte byte bs → run_of_byte byte (take m bs) ≡ m
run_take byte zero [] h = refl
run_take byte zero (b ∷ bs) h = refl
run_take byte (suc m) [] h = absurd (omega arith)
run_take byte (suc m) (b ∷ bs) h = by (b == byte) h (run_take byte m bs)
  where
    by : (t : Bool) → suc m ≤ cond t (1 + run_of_byte byte bs) 0 → (m ≤ run_of_byte byte bs → run_of_byte byte (take m bs) ≡ m)
        → cond t (1 + run_of_byte byte (take m bs)) 0 ≡ suc m
    by true h rest = let z = rest (omega arith) in omega (arith, z)
    by false h rest = absurd (omega arith)

-- ---- lexemes behind others, and lexemes of a front

abbrev Behind : Mode → List Word → List ℕ → Type 0
Behind mode ws bs = (after : Bool) × AreLexemes mode after ws bs

behind : (mode : Mode) (after : Bool) (before ws : List Word) (bs : List ℕ) → AreLexemes mode after (before ++ ws) bs
    → Behind mode ws (drop (total_width before) bs)
behind mode after [] ws bs h = (after, h)
behind mode after ((kind, n) ∷ before) ws bs h =
    let r = behind mode (is_break (slice_index bs (n - 1))) before ws (drop n bs) h.4 in
    let P : List ℕ → Type 0 = λ xs. Behind mode ws xs in
    subst P (drop-drop (total_width before) n bs) r

begins_as : (mid : List Word) (c e : ℕ) (post : List Word) → BeginsWithForm (mid ++ (Closes, c) ∷ post) → BeginsWithForm (mid ++ (Closes, e) ∷ [])
begins_as [] c e post h = tt
begins_as (w ∷ mid) c e post h = h

apart_as : (kind : LexKind) (mid : List Word) (c e : ℕ) (post : List Word) → Apart kind (mid ++ (Closes, c) ∷ post) → Apart kind (mid ++ (Closes, e) ∷ [])
apart_as Chars mid c e post h = begins_as mid c e post h
apart_as CommentLine mid c e post h = tt
apart_as Comment mid c e post h = tt
apart_as Raw mid c e post h = tt
apart_as Include mid c e post h = tt
apart_as Hidden mid c e post h = tt
apart_as (Entity x) mid c e post h = tt
apart_as Opens mid c e post h = tt
apart_as Closes mid c e post h = tt
apart_as LinkOpen mid c e post h = tt
apart_as LinkClose mid c e post h = tt
apart_as Pipe mid c e post h = tt
apart_as Equals mid c e post h = tt

some_front : (mode : Mode) (after : Bool) (kind : LexKind) (n m : ℕ) (bs : List ℕ) → n ≤ m
    → form_at mode after bs ≡ Some (kind, n) → form_at mode after (take m bs) ≡ Some (kind, n)
some_front mode after kind n m bs le e = let P : Option Word
    → Type 0 = λ o. IsFront pair_size m o (form_at mode after (take m bs)) in subst P e (form_front mode after bs m) le

none_front : (mode : Mode) (after : Bool) (m : ℕ) (bs : List ℕ) → form_at mode after bs ≡ None → form_at mode after (take m bs) ≡ None
none_front mode after m bs e = let P : Option Word → Type 0 = λ o. IsFront pair_size m o (form_at mode after (take m bs)) in
    subst P e (form_front mode after bs m)

break_front : (after : Bool) (bs : List ℕ) (m k : ℕ) → k ≤ m → break_before after (take m bs) k ≡ break_before after bs k
break_front after bs m zero le = refl
break_front after bs m (suc k) le = ap is_break (byte_front bs m k (omega arith))

chars_front : (mode : Mode) (after : Bool) (n m : ℕ) (bs : List ℕ) → n ≤ m → ((k : ℕ) → k < n → form_at mode (break_before after bs k) (drop k bs) ≡ None)
    → (k : ℕ) → k < n → form_at mode (break_before after (take m bs) k) (drop k (take m bs)) ≡ None
chars_front mode after n m bs le free k h =
    ap (λ t. form_at mode t (drop k (take m bs))) (break_front after bs m k (omega arith))
    ∙ ap (form_at mode (break_before after bs k)) (drop_front k m bs (omega arith))
    ∙ none_front mode (break_before after bs k) (m - k) (drop k bs) (free k h)

stands_front : (mode : Mode) (after : Bool) (kind : LexKind) (n m : ℕ) (bs : List ℕ) → n ≤ m → Stands mode after kind n bs
    → Stands mode after kind n (take m bs)
stands_front mode after Chars n m bs le s = chars_front mode after n m bs le s
stands_front mode after CommentLine n m bs le s = some_front mode after CommentLine n m bs le s
stands_front mode after Comment n m bs le s = some_front mode after Comment n m bs le s
stands_front mode after Raw n m bs le s = some_front mode after Raw n m bs le s
stands_front mode after Include n m bs le s = some_front mode after Include n m bs le s
stands_front mode after Hidden n m bs le s = some_front mode after Hidden n m bs le s
stands_front mode after (Entity c) n m bs le s = some_front mode after (Entity c) n m bs le s
stands_front mode after Opens n m bs le s = some_front mode after Opens n m bs le s
stands_front mode after Closes n m bs le s = some_front mode after Closes n m bs le s
stands_front mode after LinkOpen n m bs le s = some_front mode after LinkOpen n m bs le s
stands_front mode after LinkClose n m bs le s = some_front mode after LinkClose n m bs le s
stands_front mode after Pipe n m bs le s = some_front mode after Pipe n m bs le s
stands_front mode after Equals n m bs le s = some_front mode after Equals n m bs le s

front_words : (mode : Mode) (after : Bool) (mid : List Word) (c e : ℕ) (post : List Word) (bs : List ℕ)
    → AreLexemes mode after (mid ++ (Closes, c) ∷ post) bs → 2 ≤ e → e ≤ c
    → AreLexemes mode after (mid ++ (Closes, e) ∷ []) (take (total_width mid + e) bs)
front_words mode after [] c e post bs h two le =
    let z : 0 + e ≡ e = omega arith in
    let run = form_run mode after Closes c bs h.2 in
    let short = length-take e bs in
    let P : ℕ → Type 0 = λ m. AreLexemes mode after ((Closes, e) ∷ []) (take m bs) in
    let past : drop e (take e bs) ≡ [] = let f : e + 0 ≡ e = omega arith in ap (λ (m : ℕ). drop e (take m bs)) (sym f) ∙ drop-take e 0 bs ∙ nil (drop e bs) in
    subst P (sym z) (
      omega arith,
      omega (arith, short, h.1, le),
      closes_form mode after (take e bs) e (run_take 125 e bs (omega (arith, run, le))) two,
      tt,
      past,
    )
  where
    nil : (xs : List ℕ) → take 0 xs ≡ []
    nil [] = refl
    nil (x ∷ xs) = refl
front_words mode after ((kind, n) ∷ mid) c e post bs h two le =
    let m : ℕ = total_width mid + e in
    let z : n + total_width mid + e ≡ n + m = omega arith in
    let r = front_words mode (is_break (slice_index bs (n - 1))) mid c e post (drop n bs) h.4 two le in
    let P : ℕ → Type 0 = λ i. AreLexemes mode after ((kind, n) ∷ (mid ++ (Closes, e) ∷ [])) (take i bs) in
    let Q : List ℕ → Type 0 = λ xs. AreLexemes mode (is_break (slice_index bs (n - 1))) (mid ++ (Closes, e) ∷ []) xs in
    let R : ℕ → Type 0 = λ b. AreLexemes mode (is_break b) (mid ++ (Closes, e) ∷ []) (drop n (take (n + m) bs)) in
    let last : slice_index bs (n - 1) ≡ slice_index (take (n + m) bs) (n - 1) = sym (byte_front bs (n + m) (n - 1) (omega (arith, h.0))) in
    subst P (sym z) (
      h.0,
      omega (arith, length-take (n + m) bs, h.1),
      stands_front mode after kind n (n + m) bs (omega arith) h.2,
      apart_as kind mid c e post h.3,
      subst R last (subst Q (sym (drop-take n m bs)) r),
    )

-- The lexemes of a slice from the last j braces of an opening run to the first e of a closing run.
pub slice_words : (mode : Mode) (text : List ℕ) (pre mid post : List Word) (n j c e : ℕ)
    → words mode text ≡ pre ++ (Opens, n) ∷ (mid ++ (Closes, c) ∷ post) → 2 ≤ j → j ≤ n → 2 ≤ e → e ≤ c
    → words mode (take (j + (total_width mid + e)) (drop (total_width pre + (n - j)) text)) ≡ (Opens, j) ∷ (mid ++ (Closes, e) ∷ [])
slice_words mode text pre mid post n j c e is two le more less =
    let P : List Word → Type 0 = λ ws. AreLexemes mode false ws text in
    let b = behind mode false pre ((Opens, n) ∷ (mid ++ (Closes, c) ∷ post)) text (subst P is (words_are mode text)) in
    let bs = drop (total_width pre) text in
    let h = b.1 in
    let run = form_run mode b.0 Opens n bs h.2 in
    let i : ℕ = n - j in
    let xs = drop i bs in
    let M : ℕ = total_width mid + e in
    let same : xs ≡ drop (total_width pre + i) text = drop-drop i (total_width pre) text in
    let left : run_of_byte 123 xs ≡ j = run_drop 123 i bs (omega (arith, run)) ∙ omega (arith, run, le) in
    let ys = take (j + M) xs in
    let first : form_at mode false ys ≡ Some (Opens, j) = some_front mode false Opens j (j + M) xs (omega arith) (opens_form mode false xs j left two) in
    let sizes = length-take (j + M) xs in
    let long = length-drop i bs in
    let whole : i + j ≡ n = omega (arith, le) in
    let rest = front_words mode (is_break (slice_index bs (n - 1))) mid c e post (drop n bs) h.4 more less in
    let tail : drop j ys ≡ take M (drop n bs) = drop-take j M xs ∙ ap (take M) (drop-drop j i bs ∙ ap (λ (k : ℕ). drop k bs) whole) in
    let at : i + (j - 1) ≡ n - 1 = omega (arith, le, two) in
    let last : slice_index bs (n - 1) ≡ slice_index ys (j - 1) = ap (λ (k : ℕ). get_or bs k 0) (sym at)
    ∙ sym (get_or-drop i bs (j - 1) 0) ∙ sym (byte_front xs (j + M) (j - 1) (omega (arith, two))) in
    let Q : List ℕ → Type 0 = λ zs. AreLexemes mode (is_break (slice_index bs (n - 1))) (mid ++ (Closes, e) ∷ []) zs in
    let R : ℕ → Type 0 = λ d. AreLexemes mode (is_break d) (mid ++ (Closes, e) ∷ []) (drop j ys) in
    let all : AreLexemes mode false ((Opens, j) ∷ (mid ++ (Closes, e) ∷ [])) ys =
    (omega (arith, two), omega (arith, sizes, long, h.1, le), first, tt, subst R last (subst Q (sym tail) rest)) in
    ap (λ zs. words mode (take (j + M) zs)) (sym same) ∙ sym (words_only mode ((Opens, j) ∷ (mid ++ (Closes, e) ∷ [])) ys all)
