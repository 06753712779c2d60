-- Where the items of a text that calls nothing have two braces side by side that open, or close, some that do are left of it.
use Rattle.std.proofs.Common.{arith, ◌≡◌, ◌≢◌, ◌⊎◌, inl, inr, ℕ, zero, suc, ◌+◌, ◌≤◌, ◌==◌, Bool, true, false, Option, Some, None, List, [], ◌∷◌, ◌++◌, map, take, reverse, drop, nat_le, nat_lt, refl, sym, ap, ◌∙◌, subst, append-nil, append_assoc, cond}
use Rattle.std.specs.Prelude.{◌||◌, codes, if◌then◌else◌}
use Rattle.std.specs.List.{prefix_len}
use Rattle.std.specs.Option.{option_or}
use Rattle.std.proofs.lemmas.Bool.{eqb-true}
use Rattle.std.proofs.lemmas.Bool.Decides.{nat_tests}
use Rattle.wt_span.specs.declared.form.Mode.TheVariants.{Page}
use Rattle.wt_span.specs.declared.form.LexKind.{LexKind}
use Rattle.wt_span.specs.declared.form.LexKind.TheVariants.{Chars, CommentLine, Comment, Raw, Include, Hidden, Entity, Opens, Closes, LinkOpen, LinkClose, Pipe, Equals}
use Rattle.wt_span.specs.declared.form.ItemForm.TheVariants as form
use Rattle.wt_span.specs.Bytes.{is_break, begins}
use Rattle.wt_span.specs.Items.{Item, char, whole, sources, sign, items_by}
use Rattle.wt_span.specs.Lexemes.{Word, Cut, cuts, closed, words, run_at, sign_at, sign_word, form_at}
use Rattle.wt_span.specs.Braces.{Member, lexeme, left_over, reduced_onto, reduced}
use Rattle.wt_span.specs.Tags.{Tag, opening_tag, is_nowiki}
use Rattle.wt_lex.proofs.AllForms.{form_fits}
use Rattle.wt_lex.proofs.Begins.{begins_get, begins_len}
use Rattle.wt_expand.specs.PageItems.{raw_form_by, items_of_word, page_items}
use Rattle.wt_expand.proofs.PageLaws.{page_sources}
use Rattle.wt_typed_blocks.proofs.Forms.{begins_not}
use Rattle.wt_text_edit_laws.specs.LonePages.{page_chars}
use Rattle.wt_text_edit_laws.specs.NoCalls.{Brace, opening, closing, braces, CallsNothing, braces_of, IsSome, is_brace, AreUnbraced}
use Rattle.wt_text_edit_laws.proofs.Texts.TypedText.{HaveNoClosers}
use Rattle.wt_text_edit_laws.proofs.Between.BraceWords.{two_braces, CallNothing}
use Rattle.wt_text_edit_laws.proofs.Between.Fronts.{first_items, items_from, first_from, byte_from, form_from, words_by, words_from}
use Rattle.wt_text_edit_laws.proofs.Between.LessBraces.{items_behind_end, whole_sign, none_unbraced, unbraced_ends}
use Rattle.wt_text_edit_laws.proofs.Between.NoCalls.{AreUnopened, closes_nothing, left_unopened, calm_words}
use Rattle.wt_text_edit_laws.proofs.Cuts.ItemCuts.{page_from}
use Rattle.wt_text_edit_laws.proofs.Cuts.SignBytes.{AreSigns, IsAnyWord, any_word, sign_anyway}
use Rattle.wt_beside_laws.proofs.NodeItems.{are_from, node_sources}
use Rattle.wt_called_edit_laws.specs.Parts.{left_in, left_of}
use Rattle.wt_called_edit_laws.specs.Retyped.{is_same, has}
use Rattle.wt_called_edit_laws.proofs.Parts.CalmBraces.{pushed}

-- ---- which braces are among others

pub some_has : (x : Brace) (xs ys : List Brace) → IsSome xs ys → has x xs ≡ true → has x ys ≡ true
some_has x [] ys h e = absurd (cc)
some_has x (y ∷ xs) [] h e = absurd h
some_has x (y ∷ xs) (z ∷ ys) (inl h) e =
    by (is_same x y) (subst (λ (b : Brace). is_same x y ≡ is_same x b) h.0 refl) e (λ f. some_has x xs ys h.1 f)
  where
    by : (v : Bool) → v ≡ is_same x z → (v || has x xs) ≡ true → (has x xs ≡ true → has x ys ≡ true) → (is_same x z || has x ys) ≡ true
    by true i f go = ap (λ (u : Bool). u || has x ys) (sym i)
    by false i f go = ap (λ (u : Bool). u || has x ys) (sym i) ∙ go f
some_has x (y ∷ xs) (z ∷ ys) (inr h) e = by (is_same x z) (some_has x (y ∷ xs) ys h e)
  where
    by : (v : Bool) → has x ys ≡ true → (v || has x ys) ≡ true
    by true f = refl
    by false f = f

one_of : (u v : Bool) → (u || v) ≡ true → (u ≡ true) ⊎ (v ≡ true)
one_of true v e = inl refl
one_of false v e = inr e

first_so : (u v : Bool) → u ≡ true → (u || v) ≡ true
first_so true v e = refl
first_so false v e = absurd (cc)

second_so : (u v : Bool) → v ≡ true → (u || v) ≡ true
second_so true v e = refl
second_so false v e = e

pub has_both : (x : Brace) (xs ys : List Brace) → has x (xs ++ ys) ≡ (has x xs || has x ys)
has_both x [] ys = refl
has_both x (y ∷ xs) ys = by (is_same x y) (has_both x xs ys)
  where
    by : (v : Bool) → has x (xs ++ ys) ≡ (has x xs || has x ys) → (v || has x (xs ++ ys)) ≡ ((v || has x xs) || has x ys)
    by true e = refl
    by false e = e

-- ---- the items of a word

abbrev AllAre : ℕ → List ℕ → Type 0
AllAre c [] = Unit {0}
AllAre c (b ∷ bs) = (b ≡ c) × AllAre c bs

-- a run is two braces and more; the other words have none
abbrev IsRun : LexKind → ℕ → List ℕ → Type 0
IsRun Opens n bs = (nat_le 2 n ≡ true) × AllAre 123 bs
IsRun Closes n bs = (nat_le 2 n ≡ true) × AllAre 125 bs
IsRun LinkOpen n bs = AreUnbraced (page_chars bs)
IsRun LinkClose n bs = AreUnbraced (page_chars bs)
IsRun Pipe n bs = AreUnbraced (page_chars bs)
IsRun Equals n bs = AreUnbraced (page_chars bs)
IsRun kind n bs = Unit {0}

abbrev OptIs : List ℕ → Option Word → Type 0
OptIs bs None = Unit {0}
OptIs bs (Some (kind, n)) = IsRun kind n (take n bs)

or_is : (bs : List ℕ) (a b : Option Word) → OptIs bs a → OptIs bs b → OptIs bs (option_or a b)
or_is bs None b f g = g
or_is bs (Some w) b f g = f

if_is : (bs : List ℕ) (t : Bool) (kind : LexKind) (n : ℕ) → (t ≡ true → IsRun kind n (take n bs)) → OptIs bs (if t then Some (kind, n) else None)
if_is bs true kind n f = f refl
if_is bs false kind n f = tt

all_same : (c : ℕ) (bs : List ℕ) → AllAre c (take (prefix_len (λ b. b == c) bs) bs)
all_same c [] = tt
all_same c (b ∷ bs) = by (b == c) refl (all_same c bs)
  where
    n : ℕ
    n = prefix_len (λ x. x == c) bs

    by : (t : Bool) → (b == c) ≡ t → AllAre c (take n bs) → AllAre c (take (cond t (1 + n) 0) (b ∷ bs))
    by true e rest =
        let z : suc n ≡ 1 + n = omega arith in
        subst (λ (k : ℕ). AllAre c (take k (b ∷ bs))) z (eqb-true b c e, rest)
    by false e rest = tt

two_so : (n : ℕ) → nat_lt 1 n ≡ true → nat_le 2 n ≡ true
two_so n e = grind (arith, nat_tests, e)

two_plain : (c : ℕ) (bs : List ℕ) → is_brace c ≡ false → begins (c ∷ c ∷ []) bs ≡ true → AreUnbraced (page_chars (take 2 bs))
two_plain c bs n e =
    let t = two_braces c bs e in
    subst (λ (xs : List ℕ). AreUnbraced (page_chars (take 2 xs))) (sym t.1) (n, (n, tt))

one_plain : (c : ℕ) (bs : List ℕ) → is_brace c ≡ false → begins (c ∷ []) bs ≡ true → AreUnbraced (page_chars (take 1 bs))
one_plain c [] n e = let le = begins_len (c ∷ []) [] e in absurd (omega (arith, le))
one_plain c (b ∷ bs) n e =
    let f : b ≡ c = begins_get (c ∷ []) (b ∷ bs) e 0 (omega arith) in
    (ap is_brace f ∙ n, tt)

sign_is : (bs : List ℕ) → OptIs bs (sign_word bs)
unfolding sign_word
sign_is bs =
    or_is bs (run_at Opens 123 bs) _
    (if_is bs (nat_lt 1 (prefix_len (λ b. b == 123) bs)) Opens (prefix_len (λ b. b == 123) bs) (λ e. (two_so (prefix_len (λ b. b == 123) bs) e, all_same 123 bs)))
    (or_is bs (run_at Closes 125 bs) _
    (if_is bs (nat_lt 1 (prefix_len (λ b. b == 125) bs)) Closes (prefix_len (λ b. b == 125) bs) (λ e. (two_so (prefix_len (λ b. b == 125) bs) e, all_same 125 bs)))
    (or_is bs (sign_at LinkOpen (codes "[[") 2 bs) _ (if_is bs (begins (codes "[[") bs) LinkOpen 2 (λ e. two_plain 91 bs refl e))
    (or_is bs (sign_at LinkClose (codes "]]") 2 bs) _ (if_is bs (begins (codes "]]") bs) LinkClose 2 (λ e. two_plain 93 bs refl e))
    (or_is bs (sign_at Pipe (codes "|") 1 bs) (sign_at Equals (codes "=") 1 bs) (if_is bs (begins (codes "|") bs) Pipe 1 (λ e. one_plain 124 bs refl e))
    (if_is bs (begins (codes "=") bs) Equals 1 (λ e. one_plain 61 bs refl e))))))

sign_here : (a : Bool) (b : ℕ) (bs : List ℕ) (kind : LexKind) (j : ℕ) → AreSigns (b ∷ take j bs) → form_at Page a (b ∷ bs) ≡ Some (kind, suc j)
    → IsRun kind (suc j) (b ∷ take j bs)
sign_here a b bs kind j s e =
    let P : Option Word → Type 0 = OptIs (b ∷ bs) in subst P (sym (sign_anyway a b bs s.0) ∙ e) (sign_is (b ∷ bs))

run_here : (a : Bool) (b : ℕ) (bs : List ℕ) (kind : LexKind) (j : ℕ) → form_at Page a (b ∷ bs) ≡ Some (kind, suc j) → IsRun kind (suc j) (b ∷ take j bs)
run_here a b bs kind j e = by kind (any_word a (b ∷ bs) kind (suc j) e) e
  where
    by : (k : LexKind) → IsAnyWord k (b ∷ take j bs) → form_at Page a (b ∷ bs) ≡ Some (k, suc j) → IsRun k (suc j) (b ∷ take j bs)
    by Chars w f = tt
    by CommentLine w f = tt
    by Comment w f = tt
    by Raw w f = tt
    by Include w f = tt
    by Hidden w f = tt
    by (Entity c) w f = tt
    by Opens w f = sign_here a b bs Opens j w f
    by Closes w f = sign_here a b bs Closes j w f
    by LinkOpen w f = sign_here a b bs LinkOpen j w f
    by LinkClose w f = sign_here a b bs LinkClose j w f
    by Pipe w f = sign_here a b bs Pipe j w f
    by Equals w f = sign_here a b bs Equals j w f

-- ---- the braces of the items of a word, before others

behind_plain : (xs ys : List Item) → AreUnbraced xs → braces_of (xs ++ ys) ≡ braces_of ys
behind_plain xs ys u = items_behind_end xs ys (unbraced_ends xs u) ∙ ap (λ (bs : List Brace). bs ++ braces_of ys) (none_unbraced xs u)

one_open : (t u : Bool) (x : Brace) (bs : List Brace) → u ≡ false → has x (if t then opening ∷ bs else (if u then closing ∷ bs else bs)) ≡ true
    → (is_same x opening ≡ true) ⊎ (has x bs ≡ true)
one_open true u x bs n e = one_of (is_same x opening) (has x bs) e
one_open false false x bs n e = inr e
one_open false true x bs n e = absurd (cc)

one_close : (t u : Bool) (x : Brace) (bs : List Brace) → t ≡ false → has x (if t then opening ∷ bs else (if u then closing ∷ bs else bs)) ≡ true
    → (is_same x closing ≡ true) ⊎ (has x bs ≡ true)
one_close true u x bs n e = absurd (cc)
one_close false true x bs n e = one_of (is_same x closing) (has x bs) e
one_close false false x bs n e = inr e

other_brace : (b c d : ℕ) (ss : List ℕ) → b ≡ c → c ≢ d → begins (d ∷ d ∷ []) (b ∷ ss) ≡ false
other_brace b c d ss e n = begins_not (d ∷ d ∷ []) (b ∷ ss) 0 (omega arith) (λ f. n (sym e ∙ f))

opens_have : (x : Brace) (bs : List ℕ) (ys : List Item) → AllAre 123 bs → has x (braces_of (page_chars bs ++ ys)) ≡ true
    → (is_same x opening ≡ true) ⊎ (has x (braces_of ys) ≡ true)
opens_have x [] ys h e = inr e
opens_have x (b ∷ bs) ys h e =
    let ss : List ℕ = map sign (page_chars bs ++ ys) in
    elim (one_open (begins (codes "{{") (b ∷ ss)) (begins (codes "}}") (b ∷ ss)) x (braces ss) (other_brace b 123 125 ss h.0 (λ f. omega (arith, f))) e) [
      | inl i ↦ inl i
      | inr f ↦ opens_have x bs ys h.1 f
    ]

closes_have : (x : Brace) (bs : List ℕ) (ys : List Item) → AllAre 125 bs → has x (braces_of (page_chars bs ++ ys)) ≡ true
    → (is_same x closing ≡ true) ⊎ (has x (braces_of ys) ≡ true)
closes_have x [] ys h e = inr e
closes_have x (b ∷ bs) ys h e =
    let ss : List ℕ = map sign (page_chars bs ++ ys) in
    elim (one_close (begins (codes "{{") (b ∷ ss)) (begins (codes "}}") (b ∷ ss)) x (braces ss) (other_brace b 125 123 ss h.0 (λ f. omega (arith, f))) e) [
      | inl i ↦ inl i
      | inr f ↦ closes_have x bs ys h.1 f
    ]

-- ---- what a word leaves

abbrev word_left : LexKind → ℕ → List Brace
word_left Opens n = if nat_le 2 n then opening ∷ [] else []
word_left Closes n = if nat_le 2 n then closing ∷ [] else []
word_left kind n = []

abbrev words_left : List Word → List Brace
words_left [] = []
words_left ((kind, n) ∷ ws) = word_left kind n ++ words_left ws

raw_plain : (o : Option Tag) (bs : List ℕ) → AreUnbraced (items_by (raw_form_by o) None bs)
raw_plain None bs = tt
raw_plain (Some t) bs = by (is_nowiki t.name)
  where
    by : (v : Bool) → AreUnbraced (items_by (if v then form.Nowiki else form.Extension) None bs)
    by true = tt
    by false = tt

run_left : (x y : Brace) (t : Bool) (bs : List Brace) → t ≡ true → (is_same x y ≡ true) ⊎ (has x bs ≡ true) → has x ((if t then y ∷ [] else []) ++ bs) ≡ true
run_left x y true bs e (inl i) = first_so (is_same x y) (has x bs) i
run_left x y true bs e (inr f) = second_so (is_same x y) (has x bs) f
run_left x y false bs e h = absurd (cc)

or_later : (P : Type 0) (x : Brace) (ys : List Item) (bs : List Brace) → P ⊎ (has x (braces_of ys) ≡ true) → (has x (braces_of ys) ≡ true → has x bs ≡ true)
    → P ⊎ (has x bs ≡ true)
or_later P x ys bs (inl p) go = inl p
or_later P x ys bs (inr e) go = inr (go e)

word_has : (x : Brace) (kind : LexKind) (n : ℕ) (own : List ℕ) (ws : List Word) (ys : List Item) → IsAnyWord kind own → IsRun kind n own
    → has x (braces_of (items_of_word kind own ++ ys)) ≡ true → (has x (braces_of ys) ≡ true → has x (words_left ws) ≡ true) → has x (words_left ((kind, n) ∷ ws)) ≡ true
word_has x Chars n own ws ys w r e go = absurd w
word_has x CommentLine n own ws ys w r e go = go (sym (ap (has x) (behind_plain (items_of_word CommentLine own) ys tt)) ∙ e)
word_has x Comment n own ws ys w r e go = go (sym (ap (has x) (behind_plain (items_of_word Comment own) ys tt)) ∙ e)
word_has x Raw n own ws ys w r e go = go (sym (ap (has x) (behind_plain (items_of_word Raw own) ys (raw_plain (opening_tag own) own))) ∙ e)
word_has x Include n own ws ys w r e go = go (sym (ap (has x) (behind_plain (items_of_word Include own) ys tt)) ∙ e)
word_has x Hidden n own ws ys w r e go = go (sym (ap (has x) (behind_plain (items_of_word Hidden own) ys tt)) ∙ e)
word_has x (Entity c) n own ws ys w r e go = go (sym (ap (has x) (behind_plain (items_of_word (Entity c) own) ys tt)) ∙ e)
word_has x Opens n own ws ys w r e go =
    run_left x opening (nat_le 2 n) (words_left ws) r.0 (or_later (is_same x opening ≡ true) x ys (words_left ws) (opens_have x own ys r.1 e) go)
word_has x Closes n own ws ys w r e go =
    run_left x closing (nat_le 2 n) (words_left ws) r.0 (or_later (is_same x closing ≡ true) x ys (words_left ws) (closes_have x own ys r.1 e) go)
word_has x LinkOpen n own ws ys w r e go = go (sym (ap (has x) (behind_plain (items_of_word LinkOpen own) ys r)) ∙ e)
word_has x LinkClose n own ws ys w r e go = go (sym (ap (has x) (behind_plain (items_of_word LinkClose own) ys r)) ∙ e)
word_has x Pipe n own ws ys w r e go = go (sym (ap (has x) (behind_plain (items_of_word Pipe own) ys r)) ∙ e)
word_has x Equals n own ws ys w r e go = go (sym (ap (has x) (behind_plain (items_of_word Equals own) ys r)) ∙ e)

-- ---- a byte that begins no word begins no pair of braces

sources_from : (a : Bool) (bs : List ℕ) → sources (items_from a 0 bs) ≡ bs
sources_from true bs = ap sources (sym (are_from bs)) ∙ node_sources bs
sources_from false bs = ap sources (sym (page_from bs)) ∙ page_sources bs

abbrev first_byte : List ℕ → ℕ
first_byte [] = 0
first_byte (b ∷ bs) = b

first_sign : (xs : List Item) (bs : List ℕ) (c : ℕ) (cs : List ℕ) → sources xs ≡ bs → map sign xs ≡ c ∷ cs → is_brace c ≡ true → (ds : List ℕ) × (bs ≡ c ∷ ds)
first_sign [] bs c cs s e i = absurd (cc)
first_sign (char o d ∷ xs) bs c cs s e i = (sources xs, sym s ∙ ap (λ (k : ℕ). k ∷ sources xs) (ap first_byte e))
first_sign (whole f o q ∷ xs) bs c cs s e i =
    absurd (let no : true ≡ false = sym i ∙ ap is_brace (sym (ap first_byte e)) ∙ whole_sign f in cc)

opens_word : (o : Option Word) (n : ℕ) (t : Bool) → t ≡ true → option_or (if t then Some (Opens, n) else None) o ≡ None → ⊥
opens_word o n true i e = cc
opens_word o n false i e = absurd (cc)

closes_word : (o : Option Word) (n : ℕ) (t : Bool) → t ≡ true → option_or None (option_or (if t then Some (Closes, n) else None) o) ≡ None → ⊥
closes_word o n true i e = cc
closes_word o n false i e = absurd (cc)

long : (m : ℕ) → nat_lt 1 (1 + (1 + m)) ≡ true
long m = grind (arith, nat_tests)

no_open : (ds : List ℕ) → sign_word (123 ∷ 123 ∷ ds) ≡ None → ⊥
unfolding sign_word
no_open ds e =
    let m : ℕ = prefix_len (λ b. b == 123) ds in
    opens_word _ (1 + (1 + m)) (nat_lt 1 (1 + (1 + m))) (long m) e

no_close : (ds : List ℕ) → sign_word (125 ∷ 125 ∷ ds) ≡ None → ⊥
unfolding sign_word
no_close ds e =
    let m : ℕ = prefix_len (λ b. b == 125) ds in
    closes_word _ (1 + (1 + m)) (nat_lt 1 (1 + (1 + m))) (long m) e

-- of one of the two braces
pair_none : (c : ℕ) → is_brace c ≡ true → (a : Bool) (b : ℕ) (bs : List ℕ) → form_at Page a (b ∷ bs) ≡ None
    → ((ds : List ℕ) → form_at Page a (c ∷ c ∷ ds) ≡ None → ⊥) → begins (c ∷ c ∷ []) (b ∷ map sign (items_from (is_break b) 0 bs)) ≡ false
pair_none c i a b bs f none = by (begins (c ∷ c ∷ []) (b ∷ map sign (items_from (is_break b) 0 bs))) refl
  where
    by : (t : Bool) → begins (c ∷ c ∷ []) (b ∷ map sign (items_from (is_break b) 0 bs)) ≡ t → t ≡ false
    by false e = refl
    by true e =
        let two = two_braces c (b ∷ map sign (items_from (is_break b) 0 bs)) e in
        let first : b ≡ c = ap first_byte two.1 in
        let later : map sign (items_from (is_break b) 0 bs) ≡ c ∷ two.0 = ap (drop 1) two.1 in
        let r = first_sign (items_from (is_break b) 0 bs) bs c two.0 (sources_from (is_break b) bs) later i in
        let same : b ∷ bs ≡ c ∷ c ∷ r.0 = ap (λ (k : ℕ). k ∷ bs) first ∙ ap (λ (ds : List ℕ). c ∷ ds) r.1 in
        absurd (none r.0 (ap (form_at Page a) (sym same) ∙ f))

byte_has : (x : Brace) (a : Bool) (b : ℕ) (bs : List ℕ) → form_at Page a (b ∷ bs) ≡ None → has x (braces (b ∷ map sign (items_from (is_break b) 0 bs))) ≡ true
    → has x (braces (map sign (items_from (is_break b) 0 bs))) ≡ true
byte_has x a b bs f e =
    by (begins (codes "{{") (b ∷ ss)) (begins (codes "}}") (b ∷ ss))
    (pair_none 123 refl a b bs f (λ ds g. no_open ds (sym (sign_anyway a 123 (123 ∷ ds) refl) ∙ g)))
    (pair_none 125 refl a b bs f (λ ds g. no_close ds (sym (sign_anyway a 125 (125 ∷ ds) refl) ∙ g))) e
  where
    ss : List ℕ
    ss = map sign (items_from (is_break b) 0 bs)

    by : (t u : Bool) → t ≡ false → u ≡ false → has x (if t then opening ∷ braces ss else (if u then closing ∷ braces ss else braces ss)) ≡ true → has x (braces ss) ≡ true
    by false false i j h = h
    by true u i j h = absurd (cc)
    by false true i j h = absurd (cc)

-- ---- the words of a text

left_if : (t : Bool) (n : ℕ) (ws : List Word) → words_left (if t then ws else (Chars, n) ∷ ws) ≡ words_left ws
left_if true n ws = refl
left_if false n ws = refl

left_closed : (c : Cut) → words_left (closed c.0 c.1) ≡ words_left c.1
unfolding closed
left_closed (n, ws) = left_if (n == 0) n ws

cut_word : (x : Brace) (a : Bool) (b : ℕ) (bs : List ℕ) (o : Option Word) → form_at Page a (b ∷ bs) ≡ o
    → ((n : ℕ) → has x (braces_of (items_from (is_break b) n bs)) ≡ true → has x (words_left (cuts Page (is_break b) n bs).1) ≡ true)
    → has x (braces_of (items_from a 0 (b ∷ bs))) ≡ true → has x (words_left (cuts Page a 0 (b ∷ bs)).1) ≡ true
cut_word x a b bs None f go e =
    let all : has x (braces (b ∷ map sign (items_from (is_break b) 0 bs))) ≡ true = sym (ap (λ (xs : List Item). has x (braces_of xs)) (byte_from a b bs f)) ∙ e in
    ap (λ (ws : List Word). has x (words_left ws)) (words_by a b bs f) ∙ go 0 (byte_has x a b bs f all)
cut_word x a b bs (Some (kind, zero)) f go e = let fits = form_fits Page a (b ∷ bs) (kind, zero) f in absurd (omega (arith, fits.some))
cut_word x a b bs (Some (kind, suc j)) f go e =
    let own : List ℕ = b ∷ take j bs in
    let ys : List Item = items_from (is_break b) j bs in
    let c : Cut = cuts Page (is_break b) j bs in
    let all : has x (braces_of (items_of_word kind own ++ ys)) ≡ true = sym (ap (λ (xs : List Item). has x (braces_of xs)) (form_from a b bs kind j f)) ∙ e in
    ap (λ (ws : List Word). has x (words_left ws)) (words_from a b bs kind j f)
    ∙ word_has x kind (suc j) own (closed c.0 c.1) ys (any_word a (b ∷ bs) kind (suc j) f) (run_here a b bs kind j f) all
    (λ h. ap (has x) (left_closed c) ∙ go j h)

cut_has : (x : Brace) (a : Bool) (n : ℕ) (bs : List ℕ) → has x (braces_of (items_from a n bs)) ≡ true → has x (words_left (cuts Page a n bs).1) ≡ true
cut_has x a zero [] e = absurd (cc)
cut_has x a (suc n) [] e = absurd (cc)
cut_has x a (suc n) (b ∷ bs) e = cut_has x (is_break b) n bs e
cut_has x a zero (b ∷ bs) e = cut_word x a b bs (form_at Page a (b ∷ bs)) refl (λ n. cut_has x (is_break b) n bs) e

words_have : (x : Brace) (bs : List ℕ) → has x (braces_of (page_items bs)) ≡ true → has x (words_left (words Page bs)) ≡ true
unfolding words
words_have x bs e =
    let c : Cut = cuts Page false 0 bs in
    ap (has x) (left_closed c) ∙ cut_has x false 0 bs (sym (ap (λ (xs : List Item). has x (braces_of xs)) (first_items bs ∙ sym (first_from false bs))) ∙ e)

-- ---- what is left of them

-- one word more
abbrev Leaves : List Member → List Word → List Brace → Type 0
Leaves before ws bs = left_in (reverse (reduced_onto before ws)) ≡ left_in (reverse before) ++ bs

push : (m : Member) (own : List Brace) (before : List Member) (ws : List Word) → left_in (m ∷ []) ≡ own → Leaves (m ∷ before) ws (words_left ws)
    → left_in (reverse (reduced_onto (m ∷ before) ws)) ≡ left_in (reverse before) ++ (own ++ words_left ws)
push m own before ws e l =
    l ∙ ap (λ (bs : List Brace). bs ++ words_left ws) (pushed m before ∙ ap (λ (bs : List Brace). left_in (reverse before) ++ bs) e)
    ∙ append_assoc (left_in (reverse before)) own (words_left ws)

one_opens : (n : ℕ) → left_in (lexeme (Opens, n) ∷ []) ≡ word_left Opens n
one_opens n = refl

one_closes : (n : ℕ) → left_in (lexeme (Closes, n) ∷ []) ≡ word_left Closes n
one_closes n = refl

-- behind one that opens none closes
onto_open : (ws : List Word) (before : List Member) → HaveNoClosers ws → Leaves before ws (words_left ws)
onto_open [] before h = sym (append-nil (left_in (reverse before)))
onto_open ((Opens, n) ∷ ws) before h = push (lexeme (Opens, n)) (word_left Opens n) before ws (one_opens n) (onto_open ws (lexeme (Opens, n) ∷ before) h.1)
onto_open ((Closes, n) ∷ ws) before h = absurd h.0
onto_open ((Chars, n) ∷ ws) before h = push (lexeme (Chars, n)) [] before ws refl (onto_open ws (lexeme (Chars, n) ∷ before) h.1)
onto_open ((CommentLine, n) ∷ ws) before h = push (lexeme (CommentLine, n)) [] before ws refl (onto_open ws (lexeme (CommentLine, n) ∷ before) h.1)
onto_open ((Comment, n) ∷ ws) before h = push (lexeme (Comment, n)) [] before ws refl (onto_open ws (lexeme (Comment, n) ∷ before) h.1)
onto_open ((Raw, n) ∷ ws) before h = push (lexeme (Raw, n)) [] before ws refl (onto_open ws (lexeme (Raw, n) ∷ before) h.1)
onto_open ((Include, n) ∷ ws) before h = push (lexeme (Include, n)) [] before ws refl (onto_open ws (lexeme (Include, n) ∷ before) h.1)
onto_open ((Hidden, n) ∷ ws) before h = push (lexeme (Hidden, n)) [] before ws refl (onto_open ws (lexeme (Hidden, n) ∷ before) h.1)
onto_open ((Entity c, n) ∷ ws) before h = push (lexeme (Entity c, n)) [] before ws refl (onto_open ws (lexeme (Entity c, n) ∷ before) h.1)
onto_open ((LinkOpen, n) ∷ ws) before h = push (lexeme (LinkOpen, n)) [] before ws refl (onto_open ws (lexeme (LinkOpen, n) ∷ before) h.1)
onto_open ((LinkClose, n) ∷ ws) before h = push (lexeme (LinkClose, n)) [] before ws refl (onto_open ws (lexeme (LinkClose, n) ∷ before) h.1)
onto_open ((Pipe, n) ∷ ws) before h = push (lexeme (Pipe, n)) [] before ws refl (onto_open ws (lexeme (Pipe, n) ∷ before) h.1)
onto_open ((Equals, n) ∷ ws) before h = push (lexeme (Equals, n)) [] before ws refl (onto_open ws (lexeme (Equals, n) ∷ before) h.1)

over_by : (v : Bool) (n : ℕ) (before : List Member) (ws : List Word) → (n == 0) ≡ v
    → Leaves ((if v then [] else lexeme (Closes, n) ∷ []) ++ before) ws (words_left ws)
    → left_in (reverse (reduced_onto ((if v then [] else lexeme (Closes, n) ∷ []) ++ before) ws)) ≡ left_in (reverse before) ++ (word_left Closes n ++ words_left ws)
over_by true n before ws e l =
    l ∙ ap (λ (m : ℕ). left_in (reverse before) ++ (word_left Closes m ++ words_left ws)) (sym (eqb-true n 0 e))
over_by false n before ws e l = push (lexeme (Closes, n)) (word_left Closes n) before ws (one_closes n) l

over_left : (n : ℕ) (before : List Member) (ws : List Word) → Leaves (left_over Closes n ++ before) ws (words_left ws)
    → left_in (reverse (reduced_onto (left_over Closes n ++ before) ws)) ≡ left_in (reverse before) ++ (word_left Closes n ++ words_left ws)
over_left n before ws l = over_by (n == 0) n before ws refl l

onto_calm : (ws : List Word) (before : List Member) → CallNothing ws → AreUnopened before → Leaves before ws (words_left ws)
onto_calm [] before h u = sym (append-nil (left_in (reverse before)))
onto_calm ((Opens, n) ∷ ws) before h u = push (lexeme (Opens, n)) (word_left Opens n) before ws (one_opens n) (onto_open ws (lexeme (Opens, n) ∷ before) h)
onto_calm ((Closes, n) ∷ ws) before h u =
    subst (λ (ms : List Member). left_in (reverse (reduced_onto ms ws)) ≡ left_in (reverse before) ++ (word_left Closes n ++ words_left ws)) (sym (closes_nothing n before u))
    (over_left n before ws (onto_calm ws (left_over Closes n ++ before) h (left_unopened (n == 0) n before u)))
onto_calm ((Chars, n) ∷ ws) before h u = push (lexeme (Chars, n)) [] before ws refl (onto_calm ws (lexeme (Chars, n) ∷ before) h (refl, u))
onto_calm ((CommentLine, n) ∷ ws) before h u = push (lexeme (CommentLine, n)) [] before ws refl (onto_calm ws (lexeme (CommentLine, n) ∷ before) h (refl, u))
onto_calm ((Comment, n) ∷ ws) before h u = push (lexeme (Comment, n)) [] before ws refl (onto_calm ws (lexeme (Comment, n) ∷ before) h (refl, u))
onto_calm ((Raw, n) ∷ ws) before h u = push (lexeme (Raw, n)) [] before ws refl (onto_calm ws (lexeme (Raw, n) ∷ before) h (refl, u))
onto_calm ((Include, n) ∷ ws) before h u = push (lexeme (Include, n)) [] before ws refl (onto_calm ws (lexeme (Include, n) ∷ before) h (refl, u))
onto_calm ((Hidden, n) ∷ ws) before h u = push (lexeme (Hidden, n)) [] before ws refl (onto_calm ws (lexeme (Hidden, n) ∷ before) h (refl, u))
onto_calm ((Entity c, n) ∷ ws) before h u = push (lexeme (Entity c, n)) [] before ws refl (onto_calm ws (lexeme (Entity c, n) ∷ before) h (refl, u))
onto_calm ((LinkOpen, n) ∷ ws) before h u = push (lexeme (LinkOpen, n)) [] before ws refl (onto_calm ws (lexeme (LinkOpen, n) ∷ before) h (refl, u))
onto_calm ((LinkClose, n) ∷ ws) before h u = push (lexeme (LinkClose, n)) [] before ws refl (onto_calm ws (lexeme (LinkClose, n) ∷ before) h (refl, u))
onto_calm ((Pipe, n) ∷ ws) before h u = push (lexeme (Pipe, n)) [] before ws refl (onto_calm ws (lexeme (Pipe, n) ∷ before) h (refl, u))
onto_calm ((Equals, n) ∷ ws) before h u = push (lexeme (Equals, n)) [] before ws refl (onto_calm ws (lexeme (Equals, n) ∷ before) h (refl, u))

calm_is : (bs : List ℕ) → CallsNothing (page_items bs) → left_of bs ≡ words_left (words Page bs)
unfolding reduced
calm_is bs h = onto_calm (words Page bs) [] (calm_words bs h) tt

-- some that open, or close, are left where the items have such
pub calm_has : (x : Brace) (bs : List ℕ) → CallsNothing (page_items bs) → has x (braces_of (page_items bs)) ≡ true → has x (left_of bs) ≡ true
calm_has x bs h e = ap (has x) (calm_is bs h) ∙ words_have x bs e
