-- A line of comments by itself: it is one whatever is written behind it, and its last comment ends with a `>`, behind which no `<` comes.
use Rattle.std.proofs.Common.{arith, ◌≡◌, ◌⊎◌, inl, inr, ℕ, zero, suc, ◌+◌, ◌-◌, ◌<◌, ◌≤◌, ◌==◌, Bool, true, false, Option, Some, None, List, [], ◌∷◌, ◌++◌, length, get_or, take, drop, nat_lt, refl, sym, ap, ◌∙◌, subst, length-drop}
use Rattle.std.specs.Prelude.{◌&&◌, ◌||◌, codes, if◌then◌else◌, slice_index}
use Rattle.std.specs.List.{prefix_len}
use Rattle.std.proofs.lemmas.Bool.{eqb-true}
use Rattle.std.proofs.lemmas.List.{take_all}
use Rattle.std.proofs.Math.Seq.{take-append_seam}
use Rattle.wt_span.specs.Bytes.{is_blank, is_break, begins, through, blank_len}
use Rattle.wt_span.specs.Comments.{comment_len, comment_line_len, remarks_len, remarks_with}
use Rattle.wt_lex.proofs.Begins.{and_left, and_right, byte_is, lt_is}
use Rattle.wt_lex.proofs.Fronts.{prefix_more}
use Rattle.wt_lex.proofs.Forms.{OptFits, comment_fits}
use Rattle.wt_lex.proofs.TagForms.{OptEnds}
use Rattle.wt_lex.proofs.WholeComments.{comment_front, no_comment_front}
use Rattle.wt_text_edit_laws.specs.TextBetween.{EndsBy, AreEnded, HasNoTag, ends_comment}
use Rattle.wt_typed_blocks.specs.Reading.{stands}
use Rattle.wt_typed_blocks.proofs.Forms.{comment_other}
use Rattle.wt_typed_blocks.proofs.TextReads.{equal_or, apart}
use Rattle.wt_text_edit_laws.proofs.Between.LineComments.{lines_ended, remarks_same}
use Rattle.wt_text_edit_laws.proofs.Between.LineWords.{either}
use Rattle.wt_beside_laws.specs.Commented.{IsCommentSource, IsCommentLine}
use Rattle.wt_beside_laws.specs.Kept.{is_lexeme_end}
use Rattle.wt_beside_laws.proofs.Made.Sealed.{stops}
use Rattle.wt_beside_laws.proofs.Own.Crossing.{TagsStop, get_front, LenWithin, comment_within}
use Rattle.wt_beside_laws.proofs.Own.Stops.{ends_stop}
use Rattle.wt_beside_laws.proofs.Own.Words.{comment_ends, ends_taken}

-- ---- a comment

all_taken : (test : ℕ → Bool) (j : ℕ) (bs : List ℕ) → suc j ≡ length bs → test (get_or bs j 0) ≡ true → EndsBy test bs
all_taken test j bs e h =
    let every : take (suc j) bs ≡ bs = take_all (suc j) bs (omega (arith, e)) in
    subst (EndsBy test) every (ends_taken test j bs (omega (arith, e)) h)

comment_last : (b : ℕ) (q : List ℕ) → ends_comment (b ∷ q) ≡ true → comment_len (b ∷ q) ≡ Some (suc (length q)) → get_or (b ∷ q) (length q) 0 ≡ 62
comment_last b q h e =
    let f = subst (OptEnds (b ∷ q)) e (comment_ends (b ∷ q) h) in
    let z : suc (length q) - 1 ≡ length q = omega arith in
    ap (λ (i : ℕ). get_or (b ∷ q) i 0) (sym z) ∙ f.last

comment_less : (b : ℕ) (q : List ℕ) (n : ℕ) → comment_len (b ∷ q) ≡ Some n → b ≡ 60
comment_less b q n e = elim (equal_or b 60) [
  | inl is ↦ is
  | inr differs ↦ let none : None ≡ Some n = sym (comment_other b q (apart b 60 differs)) ∙ e in cc
]

-- whatever is behind it
comment_same : (b : ℕ) (q rest : List ℕ) → TagsStop (b ∷ q) → ends_comment (b ∷ q) ≡ true → comment_len (b ∷ q) ≡ Some (suc (length q))
    → comment_len (b ∷ (q ++ rest)) ≡ Some (suc (length q))
comment_same b q rest s h e = by (comment_len bs) refl (comment_within b q rest s h)
  where
    bs : List ℕ
    bs = b ∷ (q ++ rest)

    cut : comment_len (take (suc (length q)) bs) ≡ comment_len (b ∷ q)
    cut = ap comment_len (take-append_seam (b ∷ q) rest)

    by : (o : Option ℕ) → comment_len bs ≡ o → LenWithin (length q) o → o ≡ Some (suc (length q))
    by None i w = let no : None ≡ Some (suc (length q)) = sym (sym cut ∙ no_comment_front bs (suc (length q)) i) ∙ e in cc
    by (Some c) i w = sym (sym cut ∙ comment_front bs (suc (length q)) c i (omega (arith, w))) ∙ e

pub comment_source : (b : ℕ) (q : List ℕ) → ends_comment (b ∷ q) ≡ true → comment_len (b ∷ q) ≡ Some (suc (length q)) → IsCommentSource (b ∷ q)
comment_source b q h e =
    let last = comment_last b q h e in
    let stop : TagsStop (b ∷ q) = ends_stop (b ∷ q) (all_taken stops (length q) (b ∷ q) refl (ap stops last)) in
    let less : b ≡ 60 = comment_less b q (suc (length q)) e in
    record {
      others = q;
      is = ap (λ (k : ℕ). k ∷ q) less;
      comment = record {
        len = λ rest. ap (λ (k : ℕ). comment_len (k ∷ (q ++ rest))) (sym less) ∙ comment_same b q rest stop h e;
        ends = subst (λ (k : ℕ). EndsBy is_lexeme_end (k ∷ q)) less (all_taken is_lexeme_end (length q) (b ∷ q) refl (ap is_lexeme_end last));
      };
    }

-- ---- a line of comments

record LineView (q : List ℕ) : Type 0 where
  more : blank_len q < remarks_len 0 q
  last : get_or q (remarks_len 0 q) 0 ≡ 10
  size : remarks_len 0 q + 1 ≡ length q

some_line : (t : Bool) (n c : ℕ) → (if t then Some (n + 1) else None) ≡ Some c → (t ≡ true) × (n + 1 ≡ c)
some_line true n c e = (refl, cc)
some_line false n c e = absurd (cc)

line_view : (q : List ℕ) → comment_line_len q ≡ Some (length q) → LineView q
unfolding comment_line_len
line_view q e =
    let n : ℕ = remarks_len 0 q in
    let r = some_line (nat_lt (blank_len q) n && is_break (slice_index q n)) n (length q) e in
    record {
      more = lt_is (blank_len q) n (and_left (nat_lt (blank_len q) n) (is_break (slice_index q n)) r.0);
      last = byte_is q n 10 (and_right (nat_lt (blank_len q) n) (is_break (slice_index q n)) r.0);
      size = r.1;
    }

line_same : (q rest : List ℕ) → LineView q → AreEnded q → comment_line_len q ≡ Some (length q) → comment_line_len (q ++ rest) ≡ Some (length q)
unfolding comment_line_len
line_same q rest v l e =
    let bs : List ℕ = q ++ rest in
    let n : ℕ = remarks_len 0 q in
    let size = v.size in
    let more = v.more in
    let same : remarks_len 0 bs ≡ n = remarks_same 0 q rest l (omega (arith, size)) in
    let P : List ℕ → Type 0 = λ (xs : List ℕ). prefix_len is_blank xs < length xs → prefix_len is_blank bs ≡ prefix_len is_blank xs in
    let blanks : blank_len bs ≡ blank_len q = subst P (take-append_seam q rest) (λ lt. prefix_more is_blank bs (length q) lt) (omega (arith, size, more)) in
    let byte : get_or bs n 0 ≡ get_or q n 0 = get_front q rest n (omega (arith, size)) in
    ap (λ (m : ℕ). if nat_lt (blank_len bs) m && is_break (slice_index bs m) then Some (m + 1) else None) same
    ∙ ap (λ (k : ℕ). if nat_lt k n && is_break (slice_index bs n) then Some (n + 1) else None) blanks
    ∙ ap (λ (c : ℕ). if nat_lt (blank_len q) n && is_break c then Some (n + 1) else None) byte
    ∙ e

-- ---- its last comment

found : (w ys : List ℕ) → through w ys < length ys → stands w ys ≡ true
found w [] h = absurd (omega arith)
found w (b ∷ ys) h = by (begins w (b ∷ ys)) h (λ f. found w ys f)
  where
    by : (t : Bool) → (if t then length w else 1 + through w ys) < suc (length ys) → (through w ys < length ys → stands w ys ≡ true) → (t || stands w ys) ≡ true
    by true h f = refl
    by false h f = f (omega arith)

-- a comment that takes less than all bytes ends in them
pub comment_ended : (bs : List ℕ) (c : ℕ) → comment_len bs ≡ Some c → c < length bs → ends_comment bs ≡ true
unfolding comment_len
comment_ended bs c e h = by (begins (codes "<!--") bs) e
  where
    by : (t : Bool) → (if t then Some (4 + through (codes "-->") (drop 4 bs)) else None) ≡ Some c → (if t then stands (codes "-->") (drop 4 bs) else true) ≡ true
    by true e =
        let is : 4 + through (codes "-->") (drop 4 bs) ≡ c = cc in
        found (codes "-->") (drop 4 bs) (omega (arith, is, h, length-drop 4 bs))
    by false e = refl

-- no `<` behind the last `>`
record IsParted (ys : List ℕ) : Type 0 where
  before : List ℕ
  behind : List ℕ
  is : ys ≡ before ++ 62 ∷ behind
  untagged : HasNoTag behind

abbrev Parts : ℕ → List ℕ → Type 0
Parts n ys = ((n ≡ 0) × HasNoTag ys) ⊎ IsParted ys

-- where so many bytes lie in a comment, the last of them is a `>`
abbrev Mark : ℕ → List ℕ → Type 0
Mark zero ys = Unit {0}
Mark (suc n) ys = get_or ys n 0 ≡ 62

mark_of : (b : ℕ) (ys : List ℕ) (k : ℕ) → get_or (b ∷ ys) k 0 ≡ 62 → Mark k ys
mark_of b ys zero e = tt
mark_of b ys (suc k) e = e

part_more : (b : ℕ) (ys : List ℕ) → IsParted ys → IsParted (b ∷ ys)
part_more b ys p = record { before = b ∷ p.before; behind = p.behind; is = ap (λ (xs : List ℕ). b ∷ xs) p.is; untagged = p.untagged }

-- behind a comment that ends with this byte
part_here : (b k : ℕ) (ys : List ℕ) → get_or (b ∷ ys) k 0 ≡ 62 → Parts k ys → IsParted (b ∷ ys)
part_here b k ys e (inl h) =
    let first : b ≡ 62 = ap (λ (i : ℕ). get_or (b ∷ ys) i 0) (sym h.0) ∙ e in
    record { before = []; behind = ys; is = ap (λ (x : ℕ). x ∷ ys) first; untagged = h.1 }
part_here b k ys e (inr p) = part_more b ys p

blank_tag : (b : ℕ) → is_blank b ≡ true → (b == 60) ≡ false
blank_tag b e = elim (either (b == 32) (b == 9) e) [
  | inl i ↦ ap (λ (x : ℕ). x == 60) (eqb-true b 32 i)
  | inr i ↦ ap (λ (x : ℕ). x == 60) (eqb-true b 9 i)
]

later : (b : ℕ) (ys : List ℕ) (r : ℕ) → get_or (b ∷ ys) (1 + r) 0 ≡ 10 → get_or ys r 0 ≡ 10
later b ys r e = let z : suc r ≡ 1 + r = omega arith in ap (λ (i : ℕ). get_or (b ∷ ys) i 0) z ∙ e

abbrev Line : List ℕ → Type 0
Line ys = (n : ℕ) → remarks_len n ys + 1 ≡ length ys → get_or ys (remarks_len n ys) 0 ≡ 10 → Mark n ys → Parts n ys

line_at : (b : ℕ) (ys : List ℕ) (o : Option ℕ) → comment_len (b ∷ ys) ≡ o → remarks_with o b (λ n. remarks_len n ys) + 1 ≡ suc (length ys)
    → get_or (b ∷ ys) (remarks_with o b (λ n. remarks_len n ys)) 0 ≡ 10 → Line ys → Parts 0 (b ∷ ys)
line_at b ys None e size last go = by (is_blank b) refl size last
  where
    by : (t : Bool) → is_blank b ≡ t → (if t then 1 + remarks_len 0 ys else 0) + 1 ≡ suc (length ys)
        → get_or (b ∷ ys) (if t then 1 + remarks_len 0 ys else 0) 0 ≡ 10 → Parts 0 (b ∷ ys)
    by true i s l = blank i (go 0 (omega (arith, s)) (later b ys (remarks_len 0 ys) l) tt)
      where
        blank : is_blank b ≡ true → Parts 0 ys → Parts 0 (b ∷ ys)
        blank j (inl h) = inl (refl, (blank_tag b j, h.1))
        blank j (inr p) = inr (part_more b ys p)
    by false i s l = inl (refl, (ap (λ (x : ℕ). x == 60) l, none ys (omega (arith, s))))
      where
        none : (xs : List ℕ) → length xs ≡ 0 → HasNoTag xs
        none [] z = tt
        none (x ∷ xs) z = absurd (omega (arith, z))
line_at b ys (Some c) e size last go =
    let k : ℕ = c - 1 in
    let le = skipped_le k ys in
    let fits = subst (OptFits (b ∷ ys)) e (comment_fits (b ∷ ys)) in
    let short : c < length (b ∷ ys) = omega (arith, size, le (omega (arith, fits.within)), fits.some) in
    let ends = subst (OptEnds (b ∷ ys)) e (comment_ends (b ∷ ys) (comment_ended (b ∷ ys) c e short)) in
    inr (part_here b k ys ends.last (go k (omega (arith, size)) (later b ys (remarks_len k ys) last) (mark_of b ys k ends.last)))
  where
    skipped_le : (n : ℕ) (bs : List ℕ) → n ≤ length bs → n ≤ remarks_len n bs
    skipped_le zero bs le = omega arith
    skipped_le (suc n) [] le = absurd (omega (arith, le))
    skipped_le (suc n) (x ∷ bs) le = let more = skipped_le n bs (omega (arith, le)) in omega (arith, more)

line_from : (n : ℕ) (ys : List ℕ) → remarks_len n ys + 1 ≡ length ys → get_or ys (remarks_len n ys) 0 ≡ 10 → Mark n ys → Parts n ys
line_from zero [] size last m = absurd (omega (arith, size))
line_from (suc n) [] size last m = absurd (omega (arith, size))
line_from (suc n) (b ∷ ys) size last m = inr (part_here b n ys m (line_from n ys (omega (arith, size)) (later b ys (remarks_len n ys) last) (mark_of b ys n m)))
line_from zero (b ∷ ys) size last m = line_at b ys (comment_len (b ∷ ys)) refl size last (λ n. line_from n ys)

-- without a comment they are blanks
blanks_by : (ys : List ℕ) (t : Bool) → remarks_len 0 ys ≤ blank_len ys → (if t then 1 + remarks_len 0 ys else 0) ≤ (if t then 1 + blank_len ys else 0)
blanks_by ys true le = omega (arith, le)
blanks_by ys false le = omega arith

blanks_at : (b : ℕ) (ys : List ℕ) (o : Option ℕ) → comment_len (b ∷ ys) ≡ o → (b == 60) ≡ false → remarks_len 0 ys ≤ blank_len ys
    → remarks_with o b (λ n. remarks_len n ys) ≤ blank_len (b ∷ ys)
blanks_at b ys (Some c) e t le =
    let i = comment_less b ys c e in
    absurd (let wrong : (60 == 60) ≡ false = subst (λ (x : ℕ). (x == 60) ≡ false) i t in cc)
blanks_at b ys None e t le = blanks_by ys (is_blank b) le

only_blanks : (ys : List ℕ) → HasNoTag ys → remarks_len 0 ys ≤ blank_len ys
only_blanks [] h = omega arith
only_blanks (b ∷ ys) h = blanks_at b ys (comment_len (b ∷ ys)) refl h.0 (only_blanks ys h.1)

-- at least one comment is there
parted_by : (q : List ℕ) → blank_len q < remarks_len 0 q → Parts 0 q → IsParted q
parted_by q more (inl h) = let le = only_blanks q h.1 in absurd (omega (arith, le, more))
parted_by q more (inr p) = p

parted : (q : List ℕ) → LineView q → IsParted q
parted q v = parted_by q v.more (line_from 0 q v.size v.last tt)

pub line_source : (b : ℕ) (q : List ℕ) → comment_line_len (b ∷ q) ≡ Some (suc (length q)) → IsCommentLine (b ∷ q)
line_source b q e =
    let v = line_view (b ∷ q) e in
    let p = parted (b ∷ q) v in
    let size = v.size in
    let n : ℕ = length q in
    let at : remarks_len 0 (b ∷ q) ≡ n = omega (arith, size) in
    let last : get_or (b ∷ q) n 0 ≡ 10 = ap (λ (i : ℕ). get_or (b ∷ q) i 0) (sym at) ∙ v.last in
    let ends : EndsBy is_break (b ∷ q) = all_taken is_break n (b ∷ q) refl (ap is_break last) in
    record {
      first = b;
      others = q;
      is = refl;
      len = λ rest. line_same (b ∷ q) rest v (lines_ended (b ∷ q) ends) e;
      ends = ends;
      before = p.before;
      behind = p.behind;
      closed = p.is;
      untagged = p.untagged;
    }
