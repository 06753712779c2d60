-- Whole lines among the lines of some items: those before them end with a line break, and theirs are lines of text.
use Rattle.std.proofs.Common.{arith, ◌≡◌, ℕ, ◌+◌, Bool, true, false, not, List, [], ◌∷◌, ◌++◌, map, refl, sym, ap, ◌∙◌, subst, append_assoc, cond, All}
use Rattle.std.specs.Prelude.{◌&&◌, if◌then◌else◌}
use Rattle.std.specs.List.{list_all}
use Rattle.std.proofs.lemmas.List.Elements.{All-nil, All-cons}
use Rattle.wt_span.specs.Items.{Item, char, whole, is_mark, source, sources}
use Rattle.wt_span.specs.Runs.{put, runs, IsRun, AreRuns}
use Rattle.wt_span.proofs.RunLaws.{runs_only}
use Rattle.wt_tables.specs.Parts.{joined}
use Rattle.wt_lines.specs.Lines.{is_break_item, onto, lines, goes_on, full_lines, content, empty_end}
use Rattle.wt_page.specs.Lines.{ending}
use Rattle.wt_page.specs.Rows.{marks_len}
use Rattle.wt_text_edit_laws.specs.Paragraphs.{IsTextLine}
use Rattle.wt_text_edit_laws.specs.ParagraphBetween.{before_marks}
use Rattle.wt_text_edit_laws.specs.ParagraphParts.{break}
use Rattle.wt_text_edit_laws.specs.TextBetween.{AreEnded}
use Rattle.wt_text_edit_laws.proofs.Cuts.RowLines.{AllText}
use Rattle.wt_text_edit_laws.proofs.Paragraphs.LineBlocks.{OwnBreaks}
use Rattle.wt_text_edit_laws.proofs.Prose.ProseLines.{unled_by}

-- ---- some of the runs

run_front : {A : Type 0} (joins : A → A → Bool) (r ys zs : List A) → IsRun joins r (ys ++ zs) → IsRun joins r ys
run_front joins [] ys zs h = absurd h
run_front joins (x ∷ []) [] zs h = tt
run_front joins (x ∷ []) (y ∷ ys) zs h = h
run_front joins (x ∷ z ∷ r) ys zs h = (h.0, run_front joins (z ∷ r) ys zs h.1)

pub joined_is : {A : Type 0} (joins : A → A → Bool) (rs : List (List A)) (xs : List A) → AreRuns joins rs xs → xs ≡ joined rs
joined_is joins [] xs h = h
joined_is joins (r ∷ rs) xs h = h.1 ∙ ap (λ ys. r ++ ys) (joined_is joins rs h.0 h.3)

pub joined_both : {A : Type 0} (us bs : List (List A)) → joined (us ++ bs) ≡ joined us ++ joined bs
joined_both [] bs = refl
joined_both (r ∷ us) bs = ap (λ ys. r ++ ys) (joined_both us bs) ∙ sym (append_assoc r (joined us) (joined bs))

pub runs_behind : {A : Type 0} (joins : A → A → Bool) (us bs : List (List A)) (xs : List A) → AreRuns joins (us ++ bs) xs → AreRuns joins bs (joined bs)
runs_behind joins [] bs xs h = subst (λ ys. AreRuns joins bs ys) (joined_is joins bs xs h) h
runs_behind joins (r ∷ us) bs xs h = runs_behind joins us bs h.0 h.3

pub runs_before : {A : Type 0} (joins : A → A → Bool) (us bs : List (List A)) (xs : List A) → AreRuns joins (us ++ bs) xs → AreRuns joins us (joined us)
runs_before joins [] bs xs h = refl
runs_before joins (r ∷ us) bs xs h =
    let rest : h.0 ≡ joined us ++ joined bs = joined_is joins (us ++ bs) h.0 h.3 ∙ joined_both us bs in
    (joined us, refl, run_front joins r (joined us) (joined bs) (subst (λ ys. IsRun joins r ys) rest h.2), runs_before joins us bs h.0 h.3)

pub lines_of : (ls : List (List Item)) → AreRuns goes_on ls (joined ls) → full_lines (joined ls) ≡ ls
lines_of ls h = sym (runs_only goes_on ls (joined ls) h)

-- ---- lines before others end

first_item : (r : List Item) (others : List Item) → IsRun goes_on r others → (y : Item) × (ys : List Item) × (r ≡ y ∷ ys)
first_item [] others h = absurd h
first_item (y ∷ ys) others h = (y, ys, refl)

pub some_items : (us : List (List Item)) (m : List Item) (ms : List (List Item)) (xs : List Item) → AreRuns goes_on (us ++ m ∷ ms) xs
    → (y : Item) × (ys : List Item) × (xs ≡ y ∷ ys)
some_items [] m ms xs h =
    let f = first_item m h.0 h.2 in
    (f.0, f.1 ++ h.0, h.1 ∙ ap (λ (zs : List Item). zs ++ h.0) f.2)
some_items (l ∷ us) m ms xs h =
    let f = first_item l h.0 h.2 in
    (f.0, f.1 ++ h.0, h.1 ∙ ap (λ (zs : List Item). zs ++ h.0) f.2)

is_true : (v : Bool) → not v ≡ false → v ≡ true
is_true true e = refl
is_true false e = cc

abbrev Ends : List Item → Type 0
Ends xs = empty_end xs ≡ [] ∷ []

end_line : (l : List Item) (y : Item) (ys ws : List Item) → IsRun goes_on l (y ∷ ys) → Ends ws → Ends (l ++ ws)
end_line [] y ys ws h e = absurd h
end_line (x ∷ []) y ys [] h e = ap (λ (v : Bool). if◌then◌else◌ {A = List (List Item)} v ([] ∷ []) []) (is_true (is_break_item x) h)
end_line (x ∷ []) y ys (w ∷ ws) h e = e
end_line (x ∷ z ∷ l) y ys ws h e = end_line (z ∷ l) y ys ws h.1 e

pub whole_before : (us : List (List Item)) (m : List Item) (ms : List (List Item)) (xs : List Item) → AreRuns goes_on (us ++ m ∷ ms) xs → Ends (joined us)
whole_before [] m ms xs h = refl
whole_before (l ∷ us) m ms xs h =
    let f = some_items us m ms h.0 h.3 in
    end_line l f.0 f.1 (joined us) (subst (λ (ys : List Item). IsRun goes_on l ys) f.2 h.2) (whole_before us m ms h.0 h.3)

-- ---- no mark ends them

break_no_mark : (x : Item) → is_break_item x ≡ true → is_mark x ≡ false
break_no_mark (char o b) e = refl
break_no_mark (whole f o bs) e = cc

break_last : (v : Bool) → if◌then◌else◌ {A = List (List Item)} v ([] ∷ []) [] ≡ [] ∷ [] → v ≡ true
break_last true e = refl
break_last false e = cc

and_none : (u v : Bool) → v ≡ false → (u && v) ≡ false
and_none true v e = e
and_none false v e = refl

not_all : (x : Item) (xs : List Item) → Ends (x ∷ xs) → list_all is_mark (x ∷ xs) ≡ false
not_all x [] e = ap (λ (v : Bool). v && true) (break_no_mark x (break_last (is_break_item x) e))
not_all x (y ∷ ys) e = and_none (is_mark x) (list_all is_mark (y ∷ ys)) (not_all y ys e)

pub no_marks_end : (xs : List Item) → Ends xs → before_marks xs ≡ xs
no_marks_end [] e = refl
no_marks_end (x ∷ []) e = ap (λ (v : Bool). if v then [] else x ∷ []) (not_all x [] e)
no_marks_end (x ∷ y ∷ ys) e =
    ap (λ (v : Bool). if v then [] else x ∷ before_marks (y ∷ ys)) (not_all x (y ∷ ys) e) ∙ ap (λ (zs : List Item). x ∷ zs) (no_marks_end (y ∷ ys) e)

-- ---- what ends them

pub ending_break : (x : Item) (xs : List Item) → OwnBreaks (x ∷ xs) → Ends (x ∷ xs) → ending (x ∷ xs) ≡ break ∷ []
ending_break x [] o e =
    let is : is_break_item x ≡ true = break_last (is_break_item x) e in
    ap (λ (v : Bool). if v then x ∷ [] else []) is ∙ ap (λ (y : Item). y ∷ []) (o.0 is)
ending_break x (y ∷ ys) o e = ending_break y ys o.1 e

-- one line break, or nothing
abbrev pub IsEnding : List Item → Type 0
IsEnding [] = Unit {0}
IsEnding (x ∷ xs) = (x ≡ break) × (xs ≡ [])

pub ending_own : (xs : List Item) → OwnBreaks xs → IsEnding (ending xs)
ending_own [] o = tt
ending_own (x ∷ []) o = by (is_break_item x) refl
  where
    by : (v : Bool) → is_break_item x ≡ v → IsEnding (if v then x ∷ [] else [])
    by true e = (o.0 e, refl)
    by false e = tt
ending_own (x ∷ y ∷ ys) o = ending_own (y ∷ ys) o.1

-- ---- the lines of what is before the last line break

record Shape (x : Item) (xs : List Item) : Type 0 where
  ys : List Item
  rs : List (List Item)
  is : full_lines (x ∷ xs) ≡ (x ∷ ys) ∷ rs

put_shape : (x : Item) (xs : List Item) (ls : List (List Item)) → full_lines xs ≡ ls → Shape x xs
put_shape x xs [] e = record { ys = []; rs = []; is = ap (put goes_on x) e }
put_shape x xs ([] ∷ rs) e = record { ys = []; rs = rs; is = ap (put goes_on x) e }
put_shape x xs ((y ∷ ys) ∷ rs) e = by (goes_on x y) refl
  where
    by : (v : Bool) → goes_on x y ≡ v → Shape x xs
    by true g = record { ys = y ∷ ys; rs = rs; is = ap (put goes_on x) e ∙ ap (λ (v : Bool). if v then (x ∷ y ∷ ys) ∷ rs else (x ∷ []) ∷ (y ∷ ys) ∷ rs) g }
    by false g = record { ys = []; rs = (y ∷ ys) ∷ rs; is = ap (put goes_on x) e ∙ ap (λ (v : Bool). if v then (x ∷ y ∷ ys) ∷ rs else (x ∷ []) ∷ (y ∷ ys) ∷ rs) g }

one_line : (x : Item) (v : Bool) → is_break_item x ≡ v → lines (if v then [] else x ∷ []) ≡ (if v then [] else x ∷ []) ∷ []
one_line x true e = refl
one_line x false e = ap (λ (v : Bool). if v then [] ∷ lines [] else onto (x ∷ []) (lines [])) e

more_lines : (x : Item) (c : List Item) (z : Item) (zs : List Item) (rs : List (List Item)) (v : Bool) → is_break_item x ≡ v
    → lines c ≡ map content ((z ∷ zs) ∷ rs) → lines (x ∷ c) ≡ map content (put goes_on x ((z ∷ zs) ∷ rs))
more_lines x c z zs rs true e h =
    ap (λ (v : Bool). if v then [] ∷ lines c else onto (x ∷ []) (lines c)) e ∙ ap (λ (ls : List (List Item)). [] ∷ ls) h
    ∙ sym (ap (λ (v : Bool). map content (if not v then (x ∷ z ∷ zs) ∷ rs else (x ∷ []) ∷ (z ∷ zs) ∷ rs)) e
    ∙ ap (λ (v : Bool). (if v then [] else x ∷ []) ∷ map content ((z ∷ zs) ∷ rs)) e)
more_lines x c z zs rs false e h =
    ap (λ (v : Bool). if v then [] ∷ lines c else onto (x ∷ []) (lines c)) e ∙ ap (onto (x ∷ [])) h
    ∙ sym (ap (λ (v : Bool). map content (if not v then (x ∷ z ∷ zs) ∷ rs else (x ∷ []) ∷ (z ∷ zs) ∷ rs)) e)

pub content_lines : (x : Item) (xs : List Item) → lines (content (x ∷ xs)) ≡ map content (full_lines (x ∷ xs))
content_lines x [] = one_line x (is_break_item x) refl
content_lines x (y ∷ ys) =
    let s = put_shape y ys (full_lines ys) refl in
    more_lines x (content (y ∷ ys)) y s.ys s.rs (is_break_item x) refl (content_lines y ys ∙ ap (map content) s.is)
    ∙ sym (ap (λ (ls : List (List Item)). map content (put goes_on x ls)) s.is)

-- ---- no mark leads them

abbrev pub AllUnled : List (List Item) → Type 0
AllUnled [] = Unit {0}
AllUnled (l ∷ ls) = (marks_len l ≡ 0) × AllUnled ls

no_led : (x : Item) (n : ℕ) (v : Bool) → is_mark x ≡ v → cond v (1 + n) 0 ≡ 0 → v ≡ false
no_led x n true e h = absurd (omega (arith, h))
no_led x n false e h = refl

pub led_first : (x : Item) (xs ys : List Item) → marks_len (x ∷ xs) ≡ 0 → marks_len (x ∷ ys) ≡ 0
led_first x xs ys h =
    ap (λ (v : Bool). cond v (1 + marks_len ys) 0) (no_led x (marks_len xs) (is_mark x) refl h)

pub content_unled : (l : List Item) → marks_len l ≡ 0 → marks_len (content l) ≡ 0
content_unled [] h = refl
content_unled (x ∷ []) h = by (is_break_item x)
  where
    by : (v : Bool) → marks_len (if v then [] else x ∷ []) ≡ 0
    by true = refl
    by false = h
content_unled (x ∷ y ∷ ys) h = led_first x (y ∷ ys) (content (y ∷ ys)) h

pub contents_unled : (ls : List (List Item)) → AllUnled ls → AllUnled (map content ls)
contents_unled [] h = tt
contents_unled (l ∷ ls) h = (content_unled l h.0, contents_unled ls h.1)

-- what is first in the first line is first
pub lines_unled : (xs : List Item) → AllUnled (lines xs) → marks_len xs ≡ 0
lines_unled [] h = refl
lines_unled (char o b ∷ xs) h = refl
lines_unled (whole f o bs ∷ xs) h = by (lines xs) h
  where
    by : (ls : List (List Item)) → AllUnled (onto (whole f o bs ∷ []) ls) → marks_len (whole f o bs ∷ xs) ≡ 0
    by [] k = unled_by (whole f o bs) [] xs (is_mark (whole f o bs)) refl k.0
    by (l ∷ ls) k = unled_by (whole f o bs) l xs (is_mark (whole f o bs)) refl k.0

-- ---- each is text

pub texts_are : (ls : List (List Item)) → AllText 0 ls → All IsTextLine (map content ls)
texts_are [] h = All-nil IsTextLine
texts_are (l ∷ ls) h = All-cons IsTextLine (content l) (map content ls) h.0 (texts_are ls h.1)

-- ---- by their bytes

record EndBytes (bs : List ℕ) : Type 0 where
  first : ℕ
  more : List ℕ
  is : bs ≡ first ∷ more
  ends : AreEnded (first ∷ more)

ends_more : (b : ℕ) (bs : List ℕ) (c : ℕ) (cs : List ℕ) → AreEnded (c ∷ cs) → AreEnded ((b ∷ bs) ++ c ∷ cs)
ends_more b [] c cs e = e
ends_more b (d ∷ bs) c cs e = ends_more d bs c cs e

bytes_before : (bs cs : List ℕ) → EndBytes cs → EndBytes (bs ++ cs)
bytes_before [] cs h = h
bytes_before (b ∷ bs) cs h =
    record {
      first = b;
      more = bs ++ cs;
      is = refl;
      ends = subst (λ (ds : List ℕ). AreEnded ((b ∷ bs) ++ ds)) (sym h.is) (ends_more b bs h.first h.more h.ends);
    }

end_bytes : (x : Item) (xs : List Item) → OwnBreaks (x ∷ xs) → Ends (x ∷ xs) → EndBytes (sources (x ∷ xs))
end_bytes x [] o e =
    let is : x ≡ break = o.0 (break_last (is_break_item x) e) in
    record { first = 10; more = []; is = ap (λ (y : Item). sources (y ∷ [])) is; ends = refl }
end_bytes x (y ∷ ys) o e = bytes_before (source x) (sources (y ∷ ys)) (end_bytes y ys o.1 e)

pub ended_bytes : (xs : List Item) → OwnBreaks xs → Ends xs → AreEnded (sources xs)
ended_bytes [] o e = tt
ended_bytes (x ∷ xs) o e = let b = end_bytes x xs o e in subst AreEnded (sym b.is) b.ends
