-- A text on a line with the sign of a table's end or a rule, or with the end of a call, is read as it is by itself, and what comes before it as it is, too.
use Rattle.std.proofs.Common.{arith, ◌≡◌, ℕ, zero, suc, ◌+◌, ◌≤◌, ◌==◌, Bool, true, false, Option, Some, None, List, [], ◌∷◌, ◌++◌, length, get_or, nat_lt, inl, inr, refl, sym, ap, ◌∙◌, subst, append_assoc, append-nil, length-append}
use Rattle.std.specs.Prelude.{◌&&◌, ◌||◌, not, codes, slice_index, if◌then◌else◌}
use Rattle.std.specs.List.{prefix_len}
use Rattle.std.proofs.lemmas.Bool.{eqb-true}
use Rattle.wt_span.specs.declared.form.Mode.TheVariants.{Page}
use Rattle.wt_span.specs.declared.form.LexKind.TheVariants.{Comment, Raw, Opens, Closes, LinkOpen, LinkClose, Pipe, Equals}
use Rattle.wt_span.specs.Bytes.{is_blank, is_break}
use Rattle.wt_span.specs.Comments.{comment_len, remarks_len, remarks_with}
use Rattle.wt_span.specs.Entities.{entity_at}
use Rattle.wt_span.specs.Items.{Item}
use Rattle.wt_span.specs.Lexemes.{Word, as_word, comment_line_word, entity_word, run_at, sign_at, sign_word, form_at}
use Rattle.wt_span.specs.Tags.{opening_tag, closing_tag, raw_len, raw_by, is_raw_name, opening_include, closing_include, include_at}
use Rattle.wt_isolation.specs.OpenTags.{is_stop}
use Rattle.wt_typed_blocks.proofs.Forms.{begins_not, comment_other}
use Rattle.wt_typed_blocks.proofs.TextReads.{apart}
use Rattle.wt_expand.specs.PageItems.{page_items}
use Rattle.wt_part_laws.specs.Lexer.{lexer}
use Rattle.wt_part_laws.specs.Scans.{after_all, skipped_by, Settles}
use Rattle.wt_part_laws.proofs.LexemeFronts.{lexemes_front}
use Rattle.wt_text_edit_laws.specs.ReadContents.{BeginsUnclosed}
use Rattle.wt_text_edit_laws.specs.SignParts.{is_sign_end, ends_unopened, AreSigned}
use Rattle.wt_text_edit_laws.specs.TextBetween.{EndsBy, is_end, AreEnded, HasEndsBefore, BeginsShown}
use Rattle.wt_text_edit_laws.proofs.Between.Fronts.{ReadsAfter, reads_after, reads_either, front_reads, page_read, alone_reads, before_reads}
use Rattle.wt_text_edit_laws.proofs.Between.LineComments.{ends_behind, last_end}
use Rattle.wt_text_edit_laws.proofs.Between.LineForms.{front_of, no_line_by}
use Rattle.wt_text_edit_laws.proofs.Between.LineWords.{either, lacks, Within, or_within, if_within, run_within, sign_within, entity_signed, entity_word_within}
use Rattle.wt_text_edit_laws.proofs.Between.SignParts.{AreLow, front_ends}
use Rattle.wt_text_edit_laws.proofs.Cuts.Uncrossed.{run_ends}
use Rattle.wt_text_edit_laws.proofs.Prose.InFront.{Reads, reads_nothing}
use Rattle.wt_text_edit_laws.proofs.Prose.Uncommented.{BeginsUncommented, uncommented_byte, uncommented_other}

-- ---- its bytes

-- bytes of one line without `<` and `>`, the last of which ends a sign
pub record IsLine (s : List ℕ) : Type 0 where
  pub bare : lacks is_stop s ≡ true
  pub ends : EndsBy is_sign_end s
  pub some : 1 ≤ length s

and_both : (u v : Bool) → u ≡ true → v ≡ true → (u && v) ≡ true
and_both true v e f = f
and_both false v e f = e

pub and_rest : (u v : Bool) → (u && v) ≡ true → v ≡ true
and_rest true v e = e
and_rest false v e = absurd (cc)

and_first : (u v : Bool) → (u && v) ≡ true → u ≡ true
and_first true v e = refl
and_first false v e = absurd (cc)

is_not : (v : Bool) → not v ≡ true → v ≡ false
is_not true e = sym e
is_not false e = refl

-- a `}` or a `-`
pub each_end : (P : ℕ → Type 0) → P 125 → P 45 → (b : ℕ) → is_sign_end b ≡ true → P b
each_end P p q b e = elim (either (b == 125) (b == 45) e) [
  | inl f ↦ subst P (sym (eqb-true b 125 f)) p
  | inr f ↦ subst P (sym (eqb-true b 45 f)) q
]

line_lacks : (line : List ℕ) (b : ℕ) → lacks is_stop line ≡ true → is_sign_end b ≡ true → lacks is_stop (line ++ b ∷ []) ≡ true
line_lacks [] b h e = each_end (λ (c : ℕ). (not (is_stop c) && true) ≡ true) refl refl b e
line_lacks (c ∷ line) b h e =
    and_both (not (is_stop c)) (lacks is_stop (line ++ b ∷ [])) (and_first (not (is_stop c)) (lacks is_stop line) h)
    (line_lacks line b (and_rest (not (is_stop c)) (lacks is_stop line) h) e)

pub line_ends : (test : ℕ → Bool) (line : List ℕ) (b : ℕ) → test b ≡ true → EndsBy test (line ++ b ∷ [])
line_ends test [] b e = e
line_ends test (c ∷ []) b e = e
line_ends test (c ∷ d ∷ line) b e = line_ends test (d ∷ line) b e

-- such a line, behind lines, comments and tags
pub record IsSplit (bs : List ℕ) : Type 0 where
  pub front : List ℕ
  pub line : List ℕ
  pub last : ℕ
  pub is : bs ≡ front ++ (line ++ last ∷ [])
  pub ended : AreEnded front
  pub bare : lacks is_stop line ≡ true
  pub sign : is_sign_end last ≡ true

pub sign_line : (bs : List ℕ) (h : IsSplit bs) → IsLine (h.line ++ h.last ∷ [])
sign_line bs h = record {
  bare = line_lacks h.line h.last h.bare h.sign;
  ends = line_ends is_sign_end h.line h.last h.sign;
  some = omega (arith, length-append h.line (h.last ∷ []));
}

-- neither a `<` nor an end
not_stop : (less more ends : Bool) → (ends || more) ≡ false → less ≡ false → (less || (more || ends)) ≡ false
not_stop false false false e f = refl
not_stop false false true e f = absurd (cc)
not_stop false true false e f = absurd (cc)
not_stop false true true e f = absurd (cc)
not_stop true more ends e f = absurd (cc)

bare_byte : (line : List ℕ) (b : ℕ) → lacks is_stop line ≡ true → is_stop b ≡ false → lacks is_stop (line ++ b ∷ []) ≡ true
bare_byte [] b h e = ap (λ (t : Bool). not t && true) e
bare_byte (c ∷ line) b h e =
    and_both (not (is_stop c)) (lacks is_stop (line ++ b ∷ [])) (and_first (not (is_stop c)) (lacks is_stop line) h)
    (bare_byte line b (and_rest (not (is_stop c)) (lacks is_stop line) h) e)

-- a `>` or a line break begins the line anew
mutual
  closed_split : (front line : List ℕ) (b : ℕ) (bs : List ℕ) → AreEnded front → lacks is_stop line ≡ true → EndsBy is_sign_end (b ∷ bs)
      → ends_unopened true (b ∷ bs) ≡ true → IsSplit (front ++ (line ++ b ∷ bs))
  closed_split front line b [] l h e u = record { front = front; line = line; last = b; is = refl; ended = l; bare = h; sign = e }
  closed_split front line b (c ∷ cs) l h e u =
      by (λ fs ys k g v. closed_split fs ys c cs k g e v) (λ xs v. opened_split xs c cs e v) (is_end b) refl (b == 60) refl
    where
      one : List ℕ
      one = line ++ b ∷ []

      whole : (front ++ one) ++ c ∷ cs ≡ front ++ (line ++ b ∷ c ∷ cs)
      whole = append_assoc front one (c ∷ cs) ∙ ap (λ (zs : List ℕ). front ++ zs) (append_assoc line (b ∷ []) (c ∷ cs))

      by : ((fs ys : List ℕ) → AreEnded fs → lacks is_stop ys ≡ true → ends_unopened true (c ∷ cs) ≡ true → IsSplit (fs ++ (ys ++ c ∷ cs)))
          → ((xs : List ℕ) → ends_unopened false (c ∷ cs) ≡ true → IsSplit (xs ++ c ∷ cs))
          → (v : Bool) → is_end b ≡ v → (w : Bool) → (b == 60) ≡ w → IsSplit (front ++ (line ++ b ∷ c ∷ cs))
      by on off true f w g =
          let ended : AreEnded (front ++ one) = subst AreEnded (append_assoc front line (b ∷ [])) (line_ends is_end (front ++ line) b f) in
          let rest : ends_unopened true (c ∷ cs) ≡ true = sym (ap (λ (t : Bool). ends_unopened (t || (true && not (b == 60))) (c ∷ cs)) f) ∙ u in
          subst IsSplit whole (on (front ++ one) [] ended refl rest)
      by on off false f true g =
          let first : ends_unopened (true && not (b == 60)) (c ∷ cs) ≡ true =
          sym (ap (λ (t : Bool). ends_unopened (t || (true && not (b == 60))) (c ∷ cs)) f) ∙ u in
          let rest : ends_unopened false (c ∷ cs) ≡ true = sym (ap (λ (t : Bool). ends_unopened (true && not t) (c ∷ cs)) g) ∙ first in
          subst IsSplit whole (off (front ++ one) rest)
      by on off false f false g =
          let first : ends_unopened (true && not (b == 60)) (c ∷ cs) ≡ true =
          sym (ap (λ (t : Bool). ends_unopened (t || (true && not (b == 60))) (c ∷ cs)) f) ∙ u in
          let rest : ends_unopened true (c ∷ cs) ≡ true = sym (ap (λ (t : Bool). ends_unopened (true && not t) (c ∷ cs)) g) ∙ first in
          let stop : is_stop b ≡ false = not_stop (b == 60) (b == 62) (b == 10) f g in
          subst (λ (zs : List ℕ). IsSplit (front ++ zs)) (append_assoc line (b ∷ []) (c ∷ cs))
          (on front one l (bare_byte line b h stop) rest)

  opened_split : (xs : List ℕ) (b : ℕ) (bs : List ℕ) → EndsBy is_sign_end (b ∷ bs) → ends_unopened false (b ∷ bs) ≡ true → IsSplit (xs ++ b ∷ bs)
  opened_split xs b [] e u =
      let no : (is_end b || (false && not (b == 60))) ≡ false =
      each_end (λ (c : ℕ). (is_end c || (false && not (c == 60))) ≡ false) refl refl b e in
      absurd (cc)
  opened_split xs b (c ∷ cs) e u = by (λ fs ys k g v. closed_split fs ys c cs k g e v) (λ ys v. opened_split ys c cs e v) (is_end b) refl
    where
      by : ((fs ys : List ℕ) → AreEnded fs → lacks is_stop ys ≡ true → ends_unopened true (c ∷ cs) ≡ true → IsSplit (fs ++ (ys ++ c ∷ cs)))
          → ((ys : List ℕ) → ends_unopened false (c ∷ cs) ≡ true → IsSplit (ys ++ c ∷ cs)) → (v : Bool) → is_end b ≡ v → IsSplit (xs ++ b ∷ c ∷ cs)
      by on off true f =
          let rest : ends_unopened true (c ∷ cs) ≡ true = sym (ap (λ (t : Bool). ends_unopened (t || (false && not (b == 60))) (c ∷ cs)) f) ∙ u in
          subst IsSplit (append_assoc xs (b ∷ []) (c ∷ cs)) (on (xs ++ b ∷ []) [] (line_ends is_end xs b f) refl rest)
      by on off false f =
          let rest : ends_unopened false (c ∷ cs) ≡ true = sym (ap (λ (t : Bool). ends_unopened (t || (false && not (b == 60))) (c ∷ cs)) f) ∙ u in
          subst IsSplit (append_assoc xs (b ∷ []) (c ∷ cs)) (off (xs ++ b ∷ []) rest)

pub split : (bs : List ℕ) → AreSigned bs → IsSplit bs
split [] h = absurd (omega (arith, h.some))
split (b ∷ bs) h = closed_split [] [] b bs tt refl h.sign h.unopened

-- what passes no test that a `<`, a `>` or a line break alone may pass
pub lacks_less : (test : ℕ → Bool) → ((b : ℕ) → is_stop b ≡ false → test b ≡ false) → (s : List ℕ) → lacks is_stop s ≡ true → lacks test s ≡ true
lacks_less test f [] h = refl
lacks_less test f (b ∷ s) h =
    and_both (not (test b)) (lacks test s) (ap not (f b (is_not (is_stop b) (and_first (not (is_stop b)) (lacks is_stop s) h))))
    (lacks_less test f s (and_rest (not (is_stop b)) (lacks is_stop s) h))

first_false : (u v w : Bool) → (u || (v || w)) ≡ false → u ≡ false
first_false false v w e = refl
first_false true v w e = absurd (cc)

second_false : (u v w : Bool) → (u || (v || w)) ≡ false → v ≡ false
second_false false false w e = refl
second_false false true w e = absurd (cc)
second_false true v w e = absurd (cc)

third_false : (u v w : Bool) → (u || (v || w)) ≡ false → w ≡ false
third_false false false w e = e
third_false false true w e = absurd (cc)
third_false true v w e = absurd (cc)

no_break : (b : ℕ) → is_stop b ≡ false → is_break b ≡ false
no_break b e = third_false (b == 60) (b == 62) (b == 10) e

no_open : (b : ℕ) → is_stop b ≡ false → (b == 60) ≡ false
no_open b e = first_false (b == 60) (b == 62) (b == 10) e

pub line_unopened : (s : List ℕ) → lacks is_stop s ≡ true → lacks (λ b. b == 60) s ≡ true
line_unopened s h = lacks_less (λ b. b == 60) no_open s h

pub line_unbroken : (s : List ℕ) → lacks is_stop s ≡ true → lacks is_break s ≡ true
line_unbroken s h = lacks_less is_break no_break s h

pub line_low : (s : List ℕ) → lacks is_stop s ≡ true → AreLow s
line_low s h = record {
  unbroken = line_unbroken s h;
  unopened = line_unopened s h;
  unclosed = lacks_less (λ b. b == 62) (λ b e. second_false (b == 60) (b == 62) (b == 10) e) s h;
}

-- of its first byte
here_stops : (b : ℕ) (q : List ℕ) → lacks is_stop (b ∷ q) ≡ true → is_stop b ≡ false
here_stops b q h = is_not (is_stop b) (and_first (not (is_stop b)) (lacks is_stop q) h)

here_rest : (b : ℕ) (q : List ℕ) → lacks is_stop (b ∷ q) ≡ true → lacks is_stop q ≡ true
here_rest b q h = and_rest (not (is_stop b)) (lacks is_stop q) h

-- ---- no line of comments begins it

uncommented : (b : ℕ) (bs : List ℕ) → is_stop b ≡ false → comment_len (b ∷ bs) ≡ None
uncommented b bs e = comment_other b bs (apart b 60 (no_open b e))

blank_shown : (b : ℕ) (bs : List ℕ) → is_blank b ≡ true → comment_len (b ∷ bs) ≡ None → BeginsShown bs → BeginsShown (b ∷ bs)
blank_shown b bs e none h =
    let z : 1 + remarks_len 0 bs ≡ suc (remarks_len 0 bs) = omega arith in
    ap (λ o. is_break (slice_index (b ∷ bs) (remarks_with o b (λ n. remarks_len n bs)))) none
    ∙ ap (λ (t : Bool). is_break (slice_index (b ∷ bs) (if t then 1 + remarks_len 0 bs else 0))) e
    ∙ ap (λ (k : ℕ). is_break (slice_index (b ∷ bs) k)) z ∙ h

other_shown : (b : ℕ) (bs : List ℕ) → is_blank b ≡ false → comment_len (b ∷ bs) ≡ None → is_break b ≡ false → BeginsShown (b ∷ bs)
other_shown b bs e c f =
    let none : remarks_len 0 (b ∷ bs) ≡ 0 =
    ap (λ o. remarks_with o b (λ n. remarks_len n bs)) c ∙ ap (λ (t : Bool). if t then 1 + remarks_len 0 bs else 0) e in
    ap (λ (k : ℕ). is_break (slice_index (b ∷ bs) k)) none ∙ f

shown_line : (b : ℕ) (q rest : List ℕ) → lacks is_stop (b ∷ q) ≡ true → EndsBy is_sign_end (b ∷ q) → BeginsShown ((b ∷ q) ++ rest)
shown_line b [] rest h e =
    other_shown b rest (each_end (λ (c : ℕ). is_blank c ≡ false) refl refl b e) (uncommented b rest (here_stops b [] h)) (no_break b (here_stops b [] h))
shown_line b (c ∷ q) rest h e = by (is_blank b) refl (shown_line c q rest (here_rest b (c ∷ q) h) e)
  where
    stops : is_stop b ≡ false
    stops = here_stops b (c ∷ q) h

    none : comment_len (b ∷ ((c ∷ q) ++ rest)) ≡ None
    none = uncommented b ((c ∷ q) ++ rest) stops

    by : (v : Bool) → is_blank b ≡ v → BeginsShown ((c ∷ q) ++ rest) → BeginsShown (b ∷ ((c ∷ q) ++ rest))
    by true f more = blank_shown b ((c ∷ q) ++ rest) f none more
    by false f more = other_shown b ((c ∷ q) ++ rest) f none (no_break b stops)

pub line_shown : (s rest : List ℕ) → IsLine s → BeginsShown (s ++ rest)
line_shown [] rest h = absurd (omega (arith, h.some))
line_shown (b ∷ q) rest h = shown_line b q rest h.bare h.ends

bare_begins : (b : ℕ) (q rest : List ℕ) → lacks is_stop (b ∷ q) ≡ true → EndsBy is_sign_end (b ∷ q) → BeginsUncommented ((b ∷ q) ++ rest)
bare_begins b [] rest h e = uncommented_other b rest (each_end (λ (c : ℕ). is_blank c ≡ false) refl refl b e) (uncommented b rest (here_stops b [] h))
bare_begins b (c ∷ q) rest h e =
    uncommented_byte b ((c ∷ q) ++ rest) (uncommented b ((c ∷ q) ++ rest) (here_stops b (c ∷ q) h)) (bare_begins c q rest (here_rest b (c ∷ q) h) e)

-- ---- no lexeme goes over its end

opening_none : (b : ℕ) (bs : List ℕ) → (b == 60) ≡ false → opening_tag (b ∷ bs) ≡ None
unfolding opening_tag
opening_none b bs e = rw e refl

closing_none : (b : ℕ) (bs : List ℕ) → (b == 60) ≡ false → closing_tag (b ∷ bs) ≡ None
unfolding closing_tag
closing_none b bs e = rw (begins_not (codes "</") (b ∷ bs) 0 (omega arith) (apart b 60 e)) refl

no_raw : (b : ℕ) (bs : List ℕ) → (b == 60) ≡ false → raw_len (b ∷ bs) ≡ None
unfolding raw_len
no_raw b bs e = ap (λ o. raw_by is_raw_name o (b ∷ bs)) (opening_none b bs e)

no_include : (k b : ℕ) (bs : List ℕ) → (b == 60) ≡ false → Within k (include_at Page (b ∷ bs))
unfolding include_at
no_include k b bs e =
    or_within k (opening_include Page (opening_tag (b ∷ bs)) (b ∷ bs)) (closing_include Page (closing_tag (b ∷ bs)))
    (subst (λ o. Within k (opening_include Page o (b ∷ bs))) (sym (opening_none b bs e)) tt)
    (subst (λ o. Within k (closing_include Page o)) (sym (closing_none b bs e)) tt)

-- a run of `}` ends with it, where none is first behind it
closes_within : (b : ℕ) (q rest : List ℕ) → BeginsUnclosed rest → Within (length q) (run_at Closes 125 ((b ∷ q) ++ rest))
closes_within b q rest u =
    let n = prefix_len (λ c. c == 125) ((b ∷ q) ++ rest) in
    let le : prefix_len (λ c. c == 125) (b ∷ (q ++ rest)) ≤ suc (length q) = run_ends 125 b q rest refl (inr u) in
    if_within (length q) (nat_lt 1 n) (Closes, n) (λ t. omega (arith, le))

signs_within : (b : ℕ) (q rest : List ℕ) → BeginsUnclosed rest → is_sign_end (get_or ((b ∷ q) ++ rest) (length q) 0) ≡ true
    → Within (length q) (sign_word ((b ∷ q) ++ rest))
unfolding sign_word
signs_within b q rest u g =
    let bs : List ℕ = (b ∷ q) ++ rest in
    let k : ℕ = length q in
    or_within k (run_at Opens 123 bs) _ (run_within is_sign_end Opens 123 k bs refl g)
    (or_within k (run_at Closes 125 bs) _ (closes_within b q rest u)
    (or_within k (sign_at LinkOpen (codes "[[") 2 bs) _ (sign_within is_sign_end LinkOpen (codes "[[") 2 k bs refl refl g)
    (or_within k (sign_at LinkClose (codes "]]") 2 bs) _ (sign_within is_sign_end LinkClose (codes "]]") 2 k bs refl refl g)
    (or_within k (sign_at Pipe (codes "|") 1 bs) (sign_at Equals (codes "=") 1 bs) (sign_within is_sign_end Pipe (codes "|") 1 k bs refl refl g)
    (sign_within is_sign_end Equals (codes "=") 1 k bs refl refl g)))))

within_line : (a : Bool) (b : ℕ) (q rest : List ℕ) → lacks is_stop (b ∷ q) ≡ true → EndsBy is_sign_end (b ∷ q) → BeginsUnclosed rest
    → Within (length q) (form_at Page a ((b ∷ q) ++ rest))
unfolding form_at
within_line a b q rest h e u =
    let bs : List ℕ = (b ∷ q) ++ rest in
    let k : ℕ = length q in
    let stops : is_stop b ≡ false = here_stops b q h in
    let unopened : (b == 60) ≡ false = no_open b stops in
    let g : is_sign_end (get_or bs k 0) ≡ true = last_end is_sign_end b q rest e in
    or_within k (comment_line_word a bs) _ (no_line_by a bs (remarks_len 0 bs) k refl (shown_line b q rest h e))
    (or_within k (as_word Comment (comment_len bs)) _ (subst (λ o. Within k (as_word Comment o)) (sym (uncommented b (q ++ rest) stops)) tt)
    (or_within k (as_word Raw (raw_len bs)) _ (subst (λ o. Within k (as_word Raw o)) (sym (no_raw b (q ++ rest) unopened)) tt)
    (or_within k (include_at Page bs) _ (no_include k b (q ++ rest) unopened)
    (or_within k (entity_word (entity_at bs)) (sign_word bs) (entity_word_within k (entity_at bs) (entity_signed k bs g)) (signs_within b q rest u g)))))

short : (k : ℕ) (o : Option Word) → Within k o → skipped_by (lexer Page) o ≤ k
short k None w = omega arith
short k (Some w) le = omega (arith, le)

line_settles : (rest : List ℕ) (a : Bool) (n : ℕ) (s : List ℕ) → BeginsUnclosed rest → lacks is_stop s ≡ true → EndsBy is_sign_end s → n ≤ length s
    → Settles (lexer Page) rest a n s
line_settles rest a zero [] u h e le = refl
line_settles rest a (suc n) [] u h e le = absurd (omega (arith, le))
line_settles rest a (suc n) (b ∷ q) u h e le = line_settles rest (is_break b) n q u (here_rest b q h) (ends_behind is_sign_end b q e) (omega (arith, le))
line_settles rest a zero (b ∷ q) u h e le =
    let w : Within (length q) (form_at Page a ((b ∷ q) ++ rest)) = within_line a b q rest h e u in
    let same : form_at Page a ((b ∷ q) ++ rest) ≡ form_at Page a (b ∷ q) =
    front_of b q (form_at Page a ((b ∷ q) ++ rest)) (form_at Page a (b ∷ q)) (lexemes_front Page a (b ∷ q) rest) w in
    let own : Within (length q) (form_at Page a (b ∷ q)) = subst (λ (o : Option Word). Within (length q) o) same w in (
      same,
      line_settles rest (is_break b) (skipped_by (lexer Page) (form_at Page a (b ∷ q))) q u (here_rest b q h) (ends_behind is_sign_end b q e)
          (short (length q) (form_at Page a (b ∷ q)) own),
    )

-- ---- how it is read

after_line : (a : Bool) (b : ℕ) (q : List ℕ) → lacks is_stop (b ∷ q) ≡ true → after_all (lexer Page) a (b ∷ q) ≡ false
after_line a b [] h = no_break b (here_stops b [] h)
after_line a b (c ∷ q) h = after_line (is_break b) c q (here_rest b (c ∷ q) h)

pub line_reads : (s rest : List ℕ) (xs : List Item) → IsLine s → BeginsUnclosed rest → ReadsAfter false rest xs → Reads (s ++ rest) (page_items s ++ xs)
line_reads [] rest xs h u r = absurd (omega (arith, h.some))
line_reads (b ∷ q) rest xs h u r =
    let s : List ℕ = b ∷ q in
    reads_either (s ++ rest) (page_items s ++ xs) (bare_begins b q rest h.bare h.ends)
    (front_reads s rest xs (line_settles rest false 0 s u h.bare h.ends (omega arith))
    (subst (λ (t : Bool). ReadsAfter t rest xs) (sym (after_line false b q h.bare)) r))

-- ---- behind lines, comments and tags

front_read : (front s rest : List ℕ) (xs : List Item) → AreEnded front → IsLine s → BeginsUnclosed rest → HasEndsBefore (s ++ rest) front → ReadsAfter false rest xs
    → ReadsAfter false (front ++ (s ++ rest)) (page_items front ++ (page_items s ++ xs))
front_read front s rest xs l h u e r =
    before_reads front (s ++ rest) (page_items s ++ xs) l e (line_shown s rest h)
    (reads_after (after_all (lexer Page) false front) (s ++ rest) (page_items s ++ xs) (line_reads s rest xs h u r))

front_alone : (front s : List ℕ) → AreEnded front → IsLine s → HasEndsBefore s front → page_items (front ++ s) ≡ page_items front ++ page_items s
front_alone front s l h e =
    let all : ReadsAfter false (front ++ (s ++ [])) (page_items front ++ (page_items s ++ [])) =
    front_read front s [] [] l h tt (subst (λ (ds : List ℕ). HasEndsBefore ds front) (sym (append-nil s)) e) (reads_after false [] [] reads_nothing) in
    page_read (front ++ s) (page_items front ++ page_items s)
    (subst (λ (ds : List ℕ). ReadsAfter false (front ++ ds) (page_items front ++ page_items s)) (append-nil s)
    (subst (λ ys. ReadsAfter false (front ++ (s ++ [])) (page_items front ++ ys)) (append-nil (page_items s)) all))

pub signed_reads : (bs rest : List ℕ) (xs : List Item) → AreSigned bs → BeginsUnclosed rest → HasEndsBefore rest bs → ReadsAfter false rest xs
    → ReadsAfter false (bs ++ rest) (page_items bs ++ xs)
signed_reads bs rest xs h u e r =
    let g : IsSplit bs = split bs h in
    let front : List ℕ = g.front in
    let s : List ℕ = g.line ++ g.last ∷ [] in
    let l : IsLine s = sign_line bs g in
    let ends = front_ends s rest false 0 front g.ended (line_low s l.bare) (omega arith) (subst (HasEndsBefore rest) g.is e) in
    let all : ReadsAfter false (front ++ (s ++ rest)) (page_items front ++ (page_items s ++ xs)) = front_read front s rest xs g.ended l u ends.1 r in
    let source : bs ++ rest ≡ front ++ (s ++ rest) = ap (λ (ds : List ℕ). ds ++ rest) g.is ∙ append_assoc front s rest in
    let items : page_items bs ++ xs ≡ page_items front ++ (page_items s ++ xs) =
    ap (λ (ys : List Item). ys ++ xs) (ap page_items g.is ∙ front_alone front s g.ended l ends.0) ∙ append_assoc (page_items front) (page_items s) xs in
    subst (λ (ds : List ℕ). ReadsAfter false ds (page_items bs ++ xs)) (sym source) (subst (λ ys. ReadsAfter false (front ++ (s ++ rest)) ys) (sym items) all)

pub signed_items : (rest bs : List ℕ) → AreSigned bs → HasEndsBefore rest bs → BeginsUnclosed rest → page_items (bs ++ rest) ≡ page_items bs ++ page_items rest
signed_items rest bs h e u = page_read (bs ++ rest) (page_items bs ++ page_items rest) (signed_reads bs rest (page_items rest) h u e (alone_reads rest))
