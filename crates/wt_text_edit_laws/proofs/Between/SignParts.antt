-- Lines, comments and tags with the sign of a table's end or a rule behind them: what begins before the sign ends before it, whatever follows the sign.
use Rattle.std.proofs.Common.{arith, ◌≡◌, ℕ, zero, suc, ◌+◌, ◌-◌, ◌<◌, ◌≤◌, ◌==◌, Bool, true, false, Option, Some, None, List, [], ◌∷◌, ◌++◌, length, get_or, drop, nat_lt, inl, inr, refl, sym, ap, ◌∙◌, subst, append_assoc, append-nil}
use Rattle.std.specs.Prelude.{◌&&◌, ◌||◌, not, is_some, if◌then◌else◌, slice_index, codes}
use Rattle.std.specs.Option.{option_map}
use Rattle.std.proofs.lemmas.Bool.{cases_lt}
use Rattle.std.proofs.lemmas.List.{drop-append-le}
use Rattle.std.proofs.Math.Seq.{take-append_seam}
use Rattle.wt_span.specs.declared.form.Mode.TheVariants.{Page}
use Rattle.wt_span.specs.declared.form.LexKind.TheVariants.{CommentLine}
use Rattle.wt_span.specs.Bytes.{is_break, begins, blank_len}
use Rattle.wt_span.specs.Comments.{remarks_len, comment_line_len}
use Rattle.wt_span.specs.Tags.{Tag, opening_tag, to_closing, with_inside, is_raw_name, hides}
use Rattle.wt_span.specs.Lexemes.{Word, as_word, comment_line_word, form_at}
use Rattle.wt_lex.proofs.Begins.{and_left, and_right, begins_get, begins_len}
use Rattle.wt_lex.proofs.Fronts.{begins_front}
use Rattle.wt_lex.proofs.TagForms.{OptTag, opening_fits}
use Rattle.wt_typed_blocks.specs.Reading.{stands}
use Rattle.wt_part_laws.specs.Lexer.{lexer}
use Rattle.wt_part_laws.specs.Scans.{skipped_by}
use Rattle.wt_part_laws.proofs.LexemeFronts.{lexemes_front}
use Rattle.wt_text_edit_laws.specs.TextBetween.{is_end, AreEnded, ends_comment, ends_tag_before, ends_before}
use Rattle.wt_text_edit_laws.proofs.Between.LineWords.{either, lacks, none_at, Within}
use Rattle.wt_text_edit_laws.proofs.Between.LineComments.{ends_behind, ends_dropped, begins_same}
use Rattle.wt_text_edit_laws.proofs.Between.LineRemarks.{AllEnd}
use Rattle.wt_text_edit_laws.proofs.Between.LineTags.{IsFound, inside_same}
use Rattle.wt_text_edit_laws.proofs.Between.ClosingTags.{Unclosed, unclosed_joined, unclosed_untagged}
use Rattle.wt_text_edit_laws.proofs.Between.LineForms.{within_lines, front_of, no_line_by, get_behind}
use Rattle.wt_text_edit_laws.proofs.Between.TagsBefore.{opening_same}

-- bytes among which is neither a line break, nor a `<` or a `>`
pub record AreLow (s : List ℕ) : Type 0 where
  pub unbroken : lacks is_break s ≡ true
  pub unopened : lacks (λ b. b == 60) s ≡ true
  pub unclosed : lacks (λ b. b == 62) s ≡ true

none_there : (test : ℕ → Bool) (s : List ℕ) (i : ℕ) → lacks test s ≡ true → test 0 ≡ false → test (get_or s i 0) ≡ false
none_there test [] i h z = z
none_there test (b ∷ s) i h z = elim (cases_lt i (length (b ∷ s))) [
  | inl lt ↦ none_at test (b ∷ s) i h lt
  | inr ge ↦ ap test (past (b ∷ s) i ge) ∙ z
]
  where
    past : (ys : List ℕ) (j : ℕ) → length ys ≤ j → get_or ys j 0 ≡ 0
    past [] j le = refl
    past (y ∷ ys) zero le = absurd (omega (arith, le))
    past (y ∷ ys) (suc j) le = past ys j (omega (arith, le))

-- ---- comments

no_end : codes "-->" ≡ 45 ∷ 45 ∷ 62 ∷ []
no_end = refl

ends_not : (s : List ℕ) (i : ℕ) → lacks (λ b. b == 62) s ≡ true → get_or s i 0 ≡ 62 → ⊥
ends_not s i h e =
    let f : (get_or s i 0 == 62) ≡ false = none_there (λ b. b == 62) s i h refl in
    let g : (62 == 62) ≡ false = subst (λ (b : ℕ). (b == 62) ≡ false) e f in
    absurd (cc)

begins_there : (ys s : List ℕ) → lacks (λ b. b == 62) s ≡ true → begins (codes "-->") (ys ++ s) ≡ true → begins (codes "-->") ys ≡ true
begins_there ys s h e = elim (cases_lt 2 (length ys)) [
  | inl lt ↦ by ys lt e
  | inr ge ↦
      let at : get_or (ys ++ s) 2 0 ≡ 62 = begins_get (codes "-->") (ys ++ s) e 2 (omega arith) in
      let i : length ys + (2 - length ys) ≡ 2 = omega (arith, ge) in
      absurd (ends_not s (2 - length ys) h (sym (get_behind ys s (2 - length ys)) ∙ ap (λ (k : ℕ). get_or (ys ++ s) k 0) i ∙ at))
]
  where
    by : (zs : List ℕ) → 2 < length zs → begins (codes "-->") (zs ++ s) ≡ true → begins (codes "-->") zs ≡ true
    by [] lt f = absurd (omega (arith, lt))
    by (z ∷ zs) lt f =
        sym (ap (begins (codes "-->")) (take-append_seam (z ∷ zs) s)) ∙ begins_front (codes "-->") ((z ∷ zs) ++ s) (suc (length zs)) (omega (arith, lt)) f

or_both : (a b c d : Bool) → (a ≡ true → c ≡ true) → (b ≡ true → d ≡ true) → (a || b) ≡ true → (c || d) ≡ true
or_both true b c d f g e = ap (λ (v : Bool). v || d) (f refl)
or_both false b true d f g e = refl
or_both false b false d f g e = g e

stands_there : (ys s : List ℕ) → lacks (λ b. b == 62) s ≡ true → stands (codes "-->") (ys ++ s) ≡ true → stands (codes "-->") ys ≡ true
stands_there [] s h e = none s h e
  where
    none : (s : List ℕ) → lacks (λ b. b == 62) s ≡ true → stands (codes "-->") s ≡ true → false ≡ true
    none [] h e = e
    none (b ∷ s) h e = elim (either (begins (codes "-->") (b ∷ s)) (stands (codes "-->") s) e) [
      | inl f ↦ absurd (ends_not (b ∷ s) 2 h (begins_get (codes "-->") (b ∷ s) f 2 (omega arith)))
      | inr f ↦ none s (and_right (not (b == 62)) (lacks (λ c. c == 62) s) h) f
    ]
stands_there (y ∷ ys) s h e =
    or_both (begins (codes "-->") ((y ∷ ys) ++ s)) (stands (codes "-->") (ys ++ s)) (begins (codes "-->") (y ∷ ys)) (stands (codes "-->") ys)
    (begins_there (y ∷ ys) s h) (stands_there ys s h) e

comment_front : (b : ℕ) (q s : List ℕ) → AreEnded (b ∷ q) → AreLow s → ends_comment ((b ∷ q) ++ s) ≡ true → ends_comment (b ∷ q) ≡ true
comment_front b q s l h e = by (begins (codes "<!--") (b ∷ q)) refl
  where
    there : begins (codes "<!--") ((b ∷ q) ++ s) ≡ begins (codes "<!--") (b ∷ q)
    there = begins_same (codes "<!--") b q s refl l

    by : (t : Bool) → begins (codes "<!--") (b ∷ q) ≡ t → (if t then stands (codes "-->") (drop 4 (b ∷ q)) else true) ≡ true
    by false f = refl
    by true f =
        let long = begins_len (codes "<!--") (b ∷ q) f in
        let all : stands (codes "-->") (drop 4 ((b ∷ q) ++ s)) ≡ true =
        sym (ap (λ (t : Bool). if t then stands (codes "-->") (drop 4 ((b ∷ q) ++ s)) else true) (there ∙ f)) ∙ e in
        stands_there (drop 4 (b ∷ q)) s h.unclosed (sym (ap (stands (codes "-->")) (drop-append-le 4 (b ∷ q) s (omega (arith, long)))) ∙ all)

-- ---- tags

found_some : (o : Option ℕ) → is_some o ≡ true → IsFound o
found_some None e = cc
found_some (Some n) e = tt

some_found : (o : Option ℕ) → IsFound o → is_some o ≡ true
some_found None h = absurd h
some_found (Some n) h = refl

low_unclosed : (name s : List ℕ) → AreLow s → Unclosed name s
low_unclosed name s h = subst (Unclosed name) (append-nil s) (unclosed_untagged name s [] h.unopened refl)

-- its closing tag is before the sign
closing_there : (name ys s : List ℕ) → AreEnded ys → AreLow s → is_some (to_closing name (ys ++ s)) ≡ true → is_some (to_closing name ys) ≡ true
closing_there name ys s l h e = by (to_closing name ys) refl
  where
    by : (o : Option ℕ) → to_closing name ys ≡ o → is_some o ≡ true
    by (Some n) f = refl
    by None f = ap is_some (sym (unclosed_joined name ys s l f (low_unclosed name s h))) ∙ e

mapped_some : (f : ℕ → ℕ) (o : Option ℕ) → is_some (option_map f o) ≡ is_some o
mapped_some f None = refl
mapped_some f (Some n) = refl

inside_there : (t : Tag) (q s : List ℕ) → AreEnded q → AreLow s → t.len ≤ length q → is_some (with_inside t (q ++ s)) ≡ true → is_some (with_inside t q) ≡ true
unfolding with_inside
inside_there t q s l h le = by t.alone
  where
    n : ℕ
    n = t.len

    by : (v : Bool) → is_some (if v then Some n else option_map (λ k. n + k) (to_closing t.name (drop n (q ++ s)))) ≡ true
        → is_some (if v then Some n else option_map (λ k. n + k) (to_closing t.name (drop n q))) ≡ true
    by true e = refl
    by false e =
        let all : is_some (to_closing t.name (drop n q ++ s)) ≡ true =
        ap (λ (ys : List ℕ). is_some (to_closing t.name ys)) (sym (drop-append-le n q s le))
        ∙ sym (mapped_some (λ k. n + k) (to_closing t.name (drop n (q ++ s)))) ∙ e in
        mapped_some (λ k. n + k) (to_closing t.name (drop n q)) ∙ closing_there t.name (drop n q) s (ends_dropped is_end n q l) h all

or_there : (c n u v u2 v2 : Bool) → (u ≡ true → u2 ≡ true) → (v ≡ true → v2 ≡ true) → (if c then u || (n && v) else true) ≡ true
    → (if c then u2 || (n && v2) else true) ≡ true
or_there false n u v u2 v2 f g e = refl
or_there true n u v u2 v2 f g e = or_both u (n && v) u2 (n && v2) f (λ h. and_there n v v2 g h) e
  where
    and_there : (n v v2 : Bool) → (v ≡ true → v2 ≡ true) → (n && v) ≡ true → (n && v2) ≡ true
    and_there true v v2 g h = g h
    and_there false v v2 g h = h

unfound : (o : Option ℕ) → not (is_some o) ≡ true → IsFound o → ⊥
unfound None e h = h
unfound (Some n) e h = cc

not_found : (o : Option ℕ) → (IsFound o → ⊥) → not (is_some o) ≡ true
not_found None f = refl
not_found (Some n) f = absurd (f tt)

tag_front : (b : ℕ) (q s rest : List ℕ) (o : Option Tag) → opening_tag (b ∷ q) ≡ o → AreEnded (b ∷ q) → AreLow s
    → ends_tag_before rest o ((b ∷ q) ++ s) ≡ true → (ends_tag_before s o (b ∷ q) ≡ true) × (ends_tag_before (s ++ rest) o (b ∷ q) ≡ true)
tag_front b q s rest None is l h e = (refl, refl)
tag_front b q s rest (Some t) is l h e =
    let bs : List ℕ = b ∷ q in
    let P : Option Tag → Type 0 = OptTag bs in
    let fits = subst P is (opening_fits bs) in
    let u : is_some (with_inside t (bs ++ s)) ≡ true → is_some (with_inside t bs) ≡ true = inside_there t bs s l h fits.within in
    let c : Bool = is_raw_name t.name || hides Page t.name in
    let n : Bool = not (hides Page t.name) in
    let v : not (is_some (with_inside t ((bs ++ s) ++ rest))) ≡ true → not (is_some (with_inside t (bs ++ (s ++ rest)))) ≡ true =
    λ w. ap (λ (ys : List ℕ). not (is_some (with_inside t ys))) (sym (append_assoc bs s rest)) ∙ w in
    let w : not (is_some (with_inside t ((bs ++ s) ++ rest))) ≡ true → not (is_some (with_inside t (bs ++ s))) ≡ true =
    λ x. not_found (with_inside t (bs ++ s)) (λ f.
    let own : IsFound (with_inside t bs) = found_some (with_inside t bs) (u (some_found (with_inside t (bs ++ s)) f)) in
    unfound (with_inside t (bs ++ (s ++ rest))) (v x) (subst IsFound (sym (inside_same t bs (s ++ rest) l fits.within own)) own)) in (
      or_there c n (is_some (with_inside t (bs ++ s))) (not (is_some (with_inside t ((bs ++ s) ++ rest)))) (is_some (with_inside t bs))
          (not (is_some (with_inside t (bs ++ s)))) u w e,
      or_there c n (is_some (with_inside t (bs ++ s))) (not (is_some (with_inside t ((bs ++ s) ++ rest)))) (is_some (with_inside t bs))
          (not (is_some (with_inside t (bs ++ (s ++ rest))))) u v e,
    )

-- ---- what begins before the sign

and_both : (u v : Bool) → u ≡ true → v ≡ true → (u && v) ≡ true
and_both true v e f = f
and_both false v e f = e

here_front : (b : ℕ) (q s rest : List ℕ) → AreEnded (b ∷ q) → AreLow s → ends_before rest ((b ∷ q) ++ s) ≡ true
    → (ends_before s (b ∷ q) ≡ true) × (ends_before (s ++ rest) (b ∷ q) ≡ true)
here_front b q s rest l h e =
    let bs : List ℕ = b ∷ q in
    let comment : ends_comment bs ≡ true =
    comment_front b q s l h (and_left (ends_comment (bs ++ s)) (ends_tag_before rest (opening_tag (bs ++ s)) (bs ++ s)) e) in
    let tag : ends_tag_before rest (opening_tag (bs ++ s)) (bs ++ s) ≡ true =
    and_right (ends_comment (bs ++ s)) (ends_tag_before rest (opening_tag (bs ++ s)) (bs ++ s)) e in
    let own : ends_tag_before rest (opening_tag bs) (bs ++ s) ≡ true =
    sym (ap (λ o. ends_tag_before rest o (bs ++ s)) (opening_same b q s l)) ∙ tag in
    let both = tag_front b q s rest (opening_tag bs) refl l h own in (
      and_both (ends_comment bs) (ends_tag_before s (opening_tag bs) bs) comment both.0,
      and_both (ends_comment bs) (ends_tag_before (s ++ rest) (opening_tag bs) bs) comment both.1,
    )

within_line : (a : Bool) (bs : List ℕ) (k : ℕ) → remarks_len 0 bs + 1 ≤ k + 1 → Within k (comment_line_word a bs)
unfolding comment_line_len
within_line false bs k le = tt
within_line true bs k le = by (nat_lt (blank_len bs) (remarks_len 0 bs) && is_break (slice_index bs (remarks_len 0 bs)))
  where
    by : (t : Bool) → Within k (as_word CommentLine (if t then Some (remarks_len 0 bs + 1) else None))
    by true = le
    by false = tt

-- no line of comments goes over into the sign
line_before : (a : Bool) (b : ℕ) (q s : List ℕ) → AreLow s → Within (length q) (comment_line_word a ((b ∷ q) ++ s))
line_before a b q s h = elim (cases_lt (remarks_len 0 bs) (length (b ∷ q))) [
  | inl lt ↦ within_line a bs (length q) (omega (arith, lt))
  | inr ge ↦ no_line_by a bs (remarks_len 0 bs) (length q) refl (unbroken ge)
]
  where
    bs : List ℕ
    bs = (b ∷ q) ++ s

    unbroken : length (b ∷ q) ≤ remarks_len 0 bs → is_break (slice_index bs (remarks_len 0 bs)) ≡ false
    unbroken ge =
        let n : ℕ = remarks_len 0 bs in
        let i : length (b ∷ q) + (n - length (b ∷ q)) ≡ n = omega (arith, ge) in
        ap (λ (k : ℕ). is_break (slice_index bs k)) (sym i) ∙ ap is_break (get_behind (b ∷ q) s (n - length (b ∷ q)))
        ∙ none_there is_break s (n - length (b ∷ q)) h.unbroken refl

-- the form that begins here is the same before the sign
form_front : (a : Bool) (b : ℕ) (q s : List ℕ) → AreEnded (b ∷ q) → AreLow s → ends_before s (b ∷ q) ≡ true
    → (form_at Page a ((b ∷ q) ++ s) ≡ form_at Page a (b ∷ q)) × (skipped_by (lexer Page) (form_at Page a (b ∷ q)) ≤ length q)
form_front a b q s l h e =
    let within : Within (length q) (form_at Page a ((b ∷ q) ++ s)) = within_lines a b q s l e (line_before a b q s h) in
    let same : form_at Page a ((b ∷ q) ++ s) ≡ form_at Page a (b ∷ q) =
    front_of b q (form_at Page a ((b ∷ q) ++ s)) (form_at Page a (b ∷ q)) (lexemes_front Page a (b ∷ q) s) within in (
      same,
      short (length q) (form_at Page a (b ∷ q)) (subst (λ (o : Option Word). Within (length q) o) same within),
    )
  where
    short : (k : ℕ) (o : Option Word) → Within k o → skipped_by (lexer Page) o ≤ k
    short k None w = omega arith
    short k (Some w) le = omega (arith, le)

-- what begins before the sign ends there, before the sign alone and before all that follows
pub front_ends : (s rest : List ℕ) (a : Bool) (n : ℕ) (q : List ℕ) → AreEnded q → AreLow s → n ≤ length q → AllEnd rest a n (q ++ s)
    → AllEnd s a n q × AllEnd (s ++ rest) a n q
front_ends s rest a zero [] l h le e = (refl, refl)
front_ends s rest a (suc n) [] l h le e = absurd (omega (arith, le))
front_ends s rest a (suc n) (b ∷ q) l h le e = front_ends s rest (is_break b) n q (ends_behind is_end b q l) h (omega (arith, le)) e
front_ends s rest a zero (b ∷ q) l h le e =
    let here = here_front b q s rest l h e.0 in
    let form = form_front a b q s l h here.0 in
    let more = front_ends s rest (is_break b) (skipped_by (lexer Page) (form_at Page a (b ∷ q))) q (ends_behind is_end b q l) h form.1
    (subst (λ (o : Option Word). AllEnd rest (is_break b) (skipped_by (lexer Page) o) (q ++ s)) form.0 e.1) in
    ((here.0, more.0), (here.1, more.1))
