-- A call on one line that ends what it begins is read the same whatever is behind it, unless a `}` begins that.
use Rattle.std.proofs.Common.{arith, ◌≡◌, ◌⊎◌, inl, inr, ℕ, zero, suc, ◌+◌, ◌≤◌, ◌==◌, Bool, true, false, Option, Some, None, List, [], ◌∷◌, ◌++◌, length, get_or, refl, sym, ap, ◌∙◌, subst}
use Rattle.std.specs.Prelude.{◌&&◌, ◌||◌, codes, if◌then◌else◌, nat_lt}
use Rattle.std.specs.List.{list_all, list_any, prefix_len}
use Rattle.std.specs.Option.{option_or}
use Rattle.std.proofs.lemmas.Bool.{cases_lt, eqb-true}
use Rattle.std.proofs.lemmas.List.Sums.{prefix_len_passes}
use Rattle.wt_span.specs.declared.form.LexKind.{LexKind}
use Rattle.wt_span.specs.declared.form.LexKind.TheVariants as lex
use Rattle.wt_span.specs.declared.form.Mode.TheVariants.{Page}
use Rattle.wt_span.specs.Bytes.{begins, is_break}
use Rattle.wt_span.specs.Comments.{comment_len}
use Rattle.wt_span.specs.Entities.{entity_at}
use Rattle.wt_span.specs.Lexemes.{Word, as_word, entity_word, form_at, run_at, sign_at, sign_word}
use Rattle.wt_span.specs.Tags.{Tag, closing_include, closing_tag, hidden_len, hides, include_at, is_left_out, opening_include, opening_tag, raw_len}
use Rattle.wt_isolation.specs.OpenTags.{ends_open}
use Rattle.wt_part_laws.proofs.LexemeFronts.{lexemes_front}
use Rattle.wt_part_laws.specs.Lexer.{lexer}
use Rattle.wt_part_laws.specs.Scans.{AtStarts, IsFrontOf, Settles, skipped_by}
use Rattle.wt_text_edit_laws.proofs.Between.LineWords.{word_before}
use Rattle.wt_text_edit_laws.specs.ReadContents.{BeginsUnclosed}
use Rattle.wt_text_edit_laws.specs.TextBetween.{EndsBy, ends_here}
use Rattle.wt_beside_laws.proofs.Made.Sealed.{ends_sealed, stops}
use Rattle.wt_beside_laws.proofs.Own.Crossing.{EndsBySign, IsSignKind, Settled, lexeme_ends, settled_rest, tags_shut}
use Rattle.wt_beside_laws.proofs.Own.Stops.{ends_stop}
use Rattle.wt_beside_laws.specs.FlatBlocks.{IsSealed}
use Rattle.wt_beside_laws.specs.References.{ReferencesEnd, is_reference_byte, may_be_reference}
use Rattle.wt_called_edit_laws.specs.BlockNodes.{IsEndedCall, is_closing}
use Rattle.wt_called_edit_laws.specs.Written.{EndsOutward, IsCallSource, is_outward}

-- ---- its last byte

closing_is : (b : ℕ) → is_closing b ≡ true → b ≡ 125
closing_is b e = eqb-true b 125 e

ends_as : (P : ℕ → Bool) → P 125 ≡ true → (bs : List ℕ) → EndsBy is_closing bs → EndsBy P bs
ends_as P p [] h = tt
ends_as P p (b ∷ []) h = ap P (closing_is b h) ∙ p
ends_as P p (b ∷ c ∷ cs) h = ends_as P p (c ∷ cs) h

last_rest : (b : ℕ) (bs : List ℕ) → EndsBy is_closing (b ∷ bs) → EndsBy is_closing bs
last_rest b [] h = tt
last_rest b (c ∷ cs) h = h

pub call_outward : (source : List ℕ) → EndsBy is_closing source → EndsOutward source
call_outward source h = ends_as is_outward refl source h

pub call_sealed : (source : List ℕ) → EndsBy is_closing source → IsSealed source
call_sealed source h = ends_sealed source (ends_as stops refl source h)

no_all : (a b : Bool) → b ≡ false → (a && b) ≡ false
no_all true b e = e
no_all false b e = refl

not_all : (b : ℕ) (bs : List ℕ) → EndsBy is_closing (b ∷ bs) → list_all is_reference_byte (b ∷ bs) ≡ false
not_all b [] h = ap (λ (k : ℕ). is_reference_byte k && true) (closing_is b h)
not_all b (c ∷ cs) h = no_all (is_reference_byte b) (list_all is_reference_byte (c ∷ cs)) (not_all c cs h)

no_reference : (b : ℕ) (bs : List ℕ) → EndsBy is_closing (b ∷ bs) → (b == 38) ≡ true
    → (list_all is_reference_byte bs ≡ false) ⊎ (may_be_reference (b ∷ bs) ≡ false)
no_reference b [] h e =
    let no : false ≡ true = subst (λ (k : ℕ). (k == 38) ≡ true) (closing_is b h) e in absurd (cc)
no_reference b (c ∷ cs) h e = inl (not_all c cs h)

references_end : (bs : List ℕ) → EndsBy is_closing bs → ReferencesEnd bs
references_end [] h = tt
references_end (b ∷ bs) h = ((λ e. no_reference b bs h e), references_end bs (last_rest b bs h))

-- no lexeme but a sign goes over its end
call_settled : (source rest : List ℕ) → EndsBy is_closing source → ends_open source ≡ false → Settled rest source
call_settled source rest h e =
    record { stop = ends_stop source (ends_as stops refl source h); shut = tags_shut source e; references = inl (references_end source h) }

-- ---- a sign doesn't either

last_at : (b : ℕ) (q rest : List ℕ) → EndsBy is_closing (b ∷ q) → get_or (b ∷ (q ++ rest)) (length q) 0 ≡ 125
last_at b [] rest h = closing_is b h
last_at b (c ∷ cs) rest h = last_at c cs rest h

behind_at : (b : ℕ) (q rest : List ℕ) → get_or (b ∷ (q ++ rest)) (suc (length q)) 0 ≡ get_or rest 0 0
behind_at b [] rest = refl
behind_at b (c ∷ cs) rest = behind_at c cs rest

unclosed_at : (rest : List ℕ) → BeginsUnclosed rest → (get_or rest 0 0 == 125) ≡ false
unclosed_at [] u = refl
unclosed_at (b ∷ bs) u = u

run_short : (p : ℕ → Bool) (bs : List ℕ) (i : ℕ) → p (get_or bs i 0) ≡ false → prefix_len p bs ≤ i
run_short p bs i e = elim (cases_lt i (prefix_len p bs)) [
  | inl lt ↦ let no : true ≡ false = sym (prefix_len_passes p bs i 0 lt) ∙ e in absurd (cc)
  | inr le ↦ le
]

-- it has so many bytes and one more, at most
abbrev FitsIn : ℕ → Option Word → Type 0
FitsIn k None = Unit {0}
FitsIn k (Some (kind, n)) = n ≤ k + 1

or_fits : (k : ℕ) (a b : Option Word) → FitsIn k a → FitsIn k b → FitsIn k (option_or a b)
or_fits k None b f g = g
or_fits k (Some w) b f g = f

if_fits : (k : ℕ) (t : Bool) (kind : LexKind) (n : ℕ) → (t ≡ true → n ≤ k + 1) → FitsIn k (if t then Some (kind, n) else None)
if_fits k true kind n f = f refl
if_fits k false kind n f = tt

sign_fits : (b : ℕ) (q rest : List ℕ) → EndsBy is_closing (b ∷ q) → BeginsUnclosed rest → FitsIn (length q) (sign_word (b ∷ (q ++ rest)))
unfolding sign_word
sign_fits b q rest h u =
    let bs : List ℕ = b ∷ (q ++ rest) in
    let k : ℕ = length q in
    let opens : prefix_len (λ x. x == 123) bs ≤ k = run_short (λ x. x == 123) bs k (ap (λ (x : ℕ). x == 123) (last_at b q rest h)) in
    let last : is_closing (get_or bs k 0) ≡ true = ap is_closing (last_at b q rest h) in
    let closes : prefix_len (λ x. x == 125) bs ≤ suc k =
    run_short (λ x. x == 125) bs (suc k) (ap (λ (x : ℕ). x == 125) (behind_at b q rest) ∙ unclosed_at rest u) in
    or_fits k (run_at lex.Opens 123 bs) _ (if_fits k (nat_lt 1 (prefix_len (λ x. x == 123) bs)) lex.Opens (prefix_len (λ x. x == 123) bs) (λ z. omega (arith, opens)))
    (or_fits k (run_at lex.Closes 125 bs) _ (if_fits k (nat_lt 1 (prefix_len (λ x. x == 125) bs)) lex.Closes (prefix_len (λ x. x == 125) bs) (λ z. omega (arith, closes)))
    (or_fits k (sign_at lex.LinkOpen (codes "[[") 2 bs) _ (if_fits k (begins (codes "[[") bs) lex.LinkOpen 2 (λ z. two (word_before is_closing (codes "[[") bs k z refl last)))
    (or_fits k (sign_at lex.LinkClose (codes "]]") 2 bs) _ (if_fits k (begins (codes "]]") bs) lex.LinkClose 2 (λ z. two (word_before is_closing (codes "]]") bs k z refl last)))
    (or_fits k (sign_at lex.Pipe (codes "|") 1 bs) (sign_at lex.Equals (codes "=") 1 bs) (if_fits k (begins (codes "|") bs) lex.Pipe 1 (λ z. omega arith))
    (if_fits k (begins (codes "=") bs) lex.Equals 1 (λ z. omega arith))))))
  where
    two : 2 ≤ length q → 2 ≤ length q + 1
    two le = omega (arith, le)

-- ---- a lexeme that is a sign is one by its bytes

abbrev IsNoSign : Option Word → Type 0
IsNoSign None = Unit {0}
IsNoSign (Some (kind, n)) = IsSignKind kind → ⊥

past : (a b : Option Word) (kind : LexKind) (n : ℕ) → IsNoSign a → IsSignKind kind → option_or a b ≡ Some (kind, n) → b ≡ Some (kind, n)
past None b kind n d s e = e
past (Some (k, m)) b kind n d s e = absurd (d (subst IsSignKind (sym (same e)) s))
  where
    first : LexKind → Option Word → LexKind
    first j None = j
    first j (Some w) = w.0

    same : ◌≡◌ {A = Option Word} (Some (k, m)) (Some (kind, n)) → k ≡ kind
    same f = ap (first k) f

no_word : (kind : LexKind) (o : Option ℕ) → (IsSignKind kind → ⊥) → IsNoSign (as_word kind o)
no_word kind None d = tt
no_word kind (Some n) d = d

no_entity : (o : Option (ℕ × ℕ)) → IsNoSign (entity_word o)
no_entity None = tt
no_entity (Some e) = λ s. s

no_include : (bs : List ℕ) → IsNoSign (include_at Page bs)
unfolding include_at
no_include bs = or_none (opening_include Page (opening_tag bs) bs) (closing_include Page (closing_tag bs)) (opens (opening_tag bs)) (closes (closing_tag bs))
  where
    or_none : (a b : Option Word) → IsNoSign a → IsNoSign b → IsNoSign (option_or a b)
    or_none None b f g = g
    or_none (Some w) b f g = f

    if_none : (v : Bool) (kind : LexKind) (n : ℕ) (o : Option Word) → (IsSignKind kind → ⊥) → IsNoSign o → IsNoSign (if v then Some (kind, n) else o)
    if_none true kind n o d g = d
    if_none false kind n o d g = g

    opens : (o : Option Tag) → IsNoSign (opening_include Page o bs)
    opens None = tt
    opens (Some t) = shown t (hides Page t.name) (is_left_out Page t.name)
      where
        shown : (t : Tag) (v w : Bool) → IsNoSign (if v then Some (lex.Hidden, hidden_len t bs) else (if w then Some (lex.Include, t.len) else None))
        shown t true w = λ s. s
        shown t false true = λ s. s
        shown t false false = tt

    closes : (o : Option Tag) → IsNoSign (closing_include Page o)
    closes None = tt
    closes (Some t) = if_none (is_left_out Page t.name) lex.Include t.len None (λ s. s) tt

form_sign : (bs : List ℕ) (kind : LexKind) (n : ℕ) → IsSignKind kind → form_at Page false bs ≡ Some (kind, n) → sign_word bs ≡ Some (kind, n)
unfolding form_at
form_sign bs kind n s e =
    past (entity_word (entity_at bs)) (sign_word bs) kind n (no_entity (entity_at bs)) s
    (past (include_at Page bs) _ kind n (no_include bs) s
    (past (as_word lex.Raw (raw_len bs)) _ kind n (no_word lex.Raw (raw_len bs) (λ d. d)) s
    (past (as_word lex.Comment (comment_len bs)) _ kind n (no_word lex.Comment (comment_len bs) (λ d. d)) s e)))

-- ---- the same form, whatever is behind it

same_by : (b : ℕ) (q rest : List ℕ) (o : Option Word) → form_at Page false (b ∷ (q ++ rest)) ≡ o → FitsIn (length q) o
    → form_at Page false (b ∷ (q ++ rest)) ≡ form_at Page false (b ∷ q)
same_by b q rest None e f =
    let P : Option Word → Type 0 = λ o. IsFrontOf (lexer Page) (b ∷ q) o (form_at Page false (b ∷ q)) in
    e ∙ sym (subst P e (lexemes_front Page false (b ∷ q) rest))
same_by b q rest (Some (kind, n)) e f =
    let P : Option Word → Type 0 = λ o. IsFrontOf (lexer Page) (b ∷ q) o (form_at Page false (b ∷ q)) in
    let front = subst P e (lexemes_front Page false (b ∷ q) rest) in
    e ∙ sym (front (omega (arith, f)))

fits_by : (b : ℕ) (q rest : List ℕ) (o : Option Word) → form_at Page false (b ∷ (q ++ rest)) ≡ o → EndsBySign (length q) o → FitsIn (length q) (sign_word (b ∷ (q ++ rest)))
    → FitsIn (length q) o
fits_by b q rest None e s f = tt
fits_by b q rest (Some (kind, n)) e (inl le) f = le
fits_by b q rest (Some (kind, n)) e (inr sign) f = subst (FitsIn (length q)) (form_sign (b ∷ (q ++ rest)) kind n sign e) f

same_form : (b : ℕ) (q rest : List ℕ) → Settled rest (b ∷ q) → EndsBy is_closing (b ∷ q) → BeginsUnclosed rest → ends_here (b ∷ q) ≡ true
    → form_at Page false (b ∷ (q ++ rest)) ≡ form_at Page false (b ∷ q)
same_form b q rest s l u h =
    same_by b q rest (form_at Page false (b ∷ (q ++ rest))) refl
    (fits_by b q rest (form_at Page false (b ∷ (q ++ rest))) refl (lexeme_ends b q rest s h) (sign_fits b q rest l u))

or_both : (u v : Bool) → (u || v) ≡ false → (u ≡ false) × (v ≡ false)
or_both true v e = let no : true ≡ false = e in absurd (cc)
or_both false v e = (refl, e)

settles_from : (rest : List ℕ) → BeginsUnclosed rest → (a : Bool) (n : ℕ) (q : List ℕ) → a ≡ false → Settled rest q → EndsBy is_closing q → list_any is_break q ≡ false
    → AtStarts (lexer Page) (λ v here. ends_here here ≡ true) a n q → Settles (lexer Page) rest a n q
settles_from rest u a zero [] e s l o h = h
settles_from rest u a (suc n) [] e s l o h = h
settles_from rest u a (suc n) (b ∷ q) e s l o h =
    let r = or_both (is_break b) (list_any is_break q) o in
    settles_from rest u (is_break b) n q r.0 (settled_rest b q rest s) (last_rest b q l) r.1 h
settles_from rest u a zero (b ∷ q) e s l o h =
    let r = or_both (is_break b) (list_any is_break q) o in (
      subst (λ (v : Bool). form_at Page v (b ∷ (q ++ rest)) ≡ form_at Page v (b ∷ q)) (sym e) (same_form b q rest s l u h.0),
      settles_from rest u (is_break b) (skipped_by (lexer Page) (form_at Page a (b ∷ q))) q r.0 (settled_rest b q rest s) (last_rest b q l) r.1 h.1,
    )

pub call_source : (source : List ℕ) → IsEndedCall source → ends_open source ≡ false → IsCallSource source
call_source source h e = record {
  others = h.others;
  is = h.is;
  settles = λ rest u. settles_from rest u false 0 source refl (call_settled source rest h.last e) h.last h.one_line h.ends;
}
