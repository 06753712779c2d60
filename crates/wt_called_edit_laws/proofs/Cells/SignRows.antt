-- A paragraph on the line of a table's end, behind its `|}`: the rows of the line are those of the sign and the first of the paragraph, whatever kind this line
-- would have by itself.
use Rattle.std.proofs.Common.{arith, ◌≡◌, ℕ, suc, ◌+◌, ◌-◌, ◌==◌, Bool, true, false, List, [], ◌∷◌, ◌++◌, length, map, take, drop, nat_lt, refl, sym, ap, ◌∙◌, subst, append-nil, append_assoc, All, ◌≤◌, zero}
use Rattle.std.specs.Prelude.{◌||◌, not, if◌then◌else◌}
use Rattle.std.specs.List.{prefix_len}
use Rattle.std.proofs.lemmas.Bool.Decides.{nat_tests}
use Rattle.std.proofs.lemmas.List.{map-append}
use Rattle.wt_span.specs.Bytes.{is_blank}
use Rattle.wt_span.specs.Items.{Item, char, whole, sign, is_mark}
use Rattle.wt_span.specs.Runs.{put, AreRuns}
use Rattle.wt_span.proofs.RunLaws.{runs_are}
use Rattle.wt_lines.specs.declared.kind.LineKind.{LineKind}
use Rattle.wt_lines.specs.declared.kind.LineKind.TheVariants as line
use Rattle.wt_lines.specs.Kinds.{is_mark_sign, is_idle, past, is_idle_all, kind_of_signs, line_kind}
use Rattle.wt_lines.specs.Lines.{is_break_item, goes_on, full_lines, content, empty_end, lines}
use Rattle.wt_tables.specs.Extents.{behind}
use Rattle.wt_page.specs.Lines.{kind_at, ending}
use Rattle.wt_page.specs.Rows.{Row, marks_len, idle_len, is_unseen, whole_row, sign_rows, line_rows, rows_from}
use Rattle.wt_text_edit_laws.specs.ParagraphBetween.{written_rows, tables_behind}
use Rattle.wt_text_edit_laws.specs.Paragraphs.{IsSeenLine}
use Rattle.wt_text_edit_laws.specs.TypedHeadings.{EndsLine}
use Rattle.wt_text_edit_laws.proofs.Paragraphs.Joining.{lines_join, rows_join}
use Rattle.wt_lines.proofs.FullLines.{same_lines}
use Rattle.std.proofs.lemmas.List.Elements.{All-head, All-tail}
use Rattle.wt_text_edit_laws.proofs.Texts.PlainRows.{text_row, last_break}
use Rattle.wt_text_edit_laws.proofs.Prose.ProseLines.{first_ended, rest_ended, content_ended}
use Rattle.wt_text_edit_laws.proofs.Paragraphs.LineBlocks.{paragraph_rows, IsLineBlock, still_unled}
use Rattle.wt_text_edit_laws.proofs.Paragraphs.Marks.{AreMarks, mark_sign, led, with_lead, row_marks}
use Rattle.wt_called_edit_laws.specs.AnyBlocks.{past_break}
use Rattle.wt_called_edit_laws.specs.TableEnds.{is_idle_item, AreIdleItems, IsEndSign, IsTableEnd, AreLater}
use Rattle.wt_called_edit_laws.proofs.Cells.CellRows.{AreAt, later_at, kinds_by, own_rows, ended_lines}

abbrev AllGo : List Item → Type 0
AllGo [] = Unit {0}
AllGo (x ∷ xs) = (is_break_item x ≡ false) × AllGo xs

put_on : (x y : Item) (ys : List Item) (rs : List (List Item)) → goes_on x y ≡ true → put goes_on x ((y ∷ ys) ∷ rs) ≡ (x ∷ y ∷ ys) ∷ rs
put_on x y ys rs e = rw e refl

-- ---- its line

content_behind : (xs : List Item) (y : Item) (ys : List Item) → content (xs ++ y ∷ ys) ≡ xs ++ content (y ∷ ys)
content_behind [] y ys = refl
content_behind (x ∷ []) y ys = refl
content_behind (x ∷ z ∷ xs) y ys = ap (λ (zs : List Item). x ∷ zs) (content_behind (z ∷ xs) y ys)

content_first : (x : Item) (ys : List Item) → is_break_item x ≡ false → content (x ∷ ys) ≡ x ∷ content ys
content_first x [] e = ap (λ (t : Bool). if t then [] else x ∷ []) e
content_first x (y ∷ ys) e = refl

either_idle : (v w : Bool) → (v || false) ≡ true → (v || w) ≡ true
either_idle true w e = refl
either_idle false w e = absurd (cc)

pub idle_sign : (x : Item) → is_idle_item x ≡ true → is_idle (sign x) ≡ true
idle_sign (char o b) e = either_idle (is_blank b) (is_mark_sign b) e
idle_sign (whole f o bs) e = ap is_idle (mark_sign (whole f o bs) e)

idle_past : (xs : List Item) (ss : List ℕ) → AreIdleItems xs → past is_idle (map sign xs ++ ss) ≡ past is_idle ss
idle_past [] ss h = refl
idle_past (x ∷ xs) ss h =
    ap (λ (t : Bool). if t then past is_idle (map sign xs ++ ss) else sign x ∷ (map sign xs ++ ss)) (idle_sign x h.0) ∙ idle_past xs ss h.2

ends_kind : (n : ℕ) (ss ts : List ℕ) → past is_idle ss ≡ 124 ∷ 125 ∷ ts → kind_of_signs (suc n) ss ≡ line.TableEnd
unfolding kind_of_signs
ends_kind n ss ts e =
    let t : nat_lt 0 (suc n) ≡ true = grind (arith, nat_tests) in
    let u : (length (124 ∷ 125 ∷ ts) == 0) ≡ false = grind (arith, nat_tests) in
    rw e (rw t (rw u refl))

abbrev sign_line : {l : List Item} → IsEndSign l → List Item → List Item
sign_line h rest = h.lead ++ (h.bar ∷ h.brace ∷ rest)

line_signs : (l rest : List Item) (h : IsEndSign l) → map sign (content (sign_line h rest)) ≡ map sign h.lead ++ (124 ∷ 125 ∷ map sign (content rest))
line_signs l rest h =
    ap (map sign) (content_behind h.lead h.bar (h.brace ∷ rest) ∙ ap (λ (xs : List Item). h.lead ++ h.bar ∷ xs) (content_first h.brace rest h.brace_goes))
    ∙ map-append sign h.lead (h.bar ∷ h.brace ∷ content rest)
    ∙ ap (λ (s : ℕ). map sign h.lead ++ (s ∷ sign h.brace ∷ map sign (content rest))) h.is_bar
    ∙ ap (λ (s : ℕ). map sign h.lead ++ (124 ∷ s ∷ map sign (content rest))) h.is_brace

pub sign_kind : (n : ℕ) (l rest : List Item) (h : IsEndSign l) → kind_at (suc n) (sign_line h rest) ≡ line.TableEnd
sign_kind n l rest h =
    ap (kind_of_signs (suc n)) (line_signs l rest h)
    ∙ ends_kind n (map sign h.lead ++ (124 ∷ 125 ∷ map sign (content rest))) (map sign (content rest)) (idle_past h.lead (124 ∷ 125 ∷ map sign (content rest)) h.idle)

-- ---- its rows

idle_front : (xs : List Item) (ss : List ℕ) (s : ℕ) → AreIdleItems xs → is_idle s ≡ false → prefix_len is_idle (map sign xs ++ s ∷ ss) ≡ length xs
idle_front [] ss s h e = ap (λ (t : Bool). if t then 1 + prefix_len is_idle ss else 0) e
idle_front (x ∷ xs) ss s h e =
    let z : 1 + length xs ≡ suc (length xs) = omega arith in
    ap (λ (t : Bool). if t then 1 + prefix_len is_idle (map sign xs ++ s ∷ ss) else 0) (idle_sign x h.0) ∙ ap (λ (k : ℕ). 1 + k) (idle_front xs ss s h.2 e) ∙ z

taken : (xs ys : List Item) → take (length xs) (xs ++ ys) ≡ xs
taken [] [] = refl
taken [] (y ∷ ys) = refl
taken (x ∷ xs) ys = ap (λ (zs : List Item). x ∷ zs) (taken xs ys)

dropped : (xs ys : List Item) → drop (length xs) (xs ++ ys) ≡ ys
dropped [] [] = refl
dropped [] (y ∷ ys) = refl
dropped (x ∷ xs) ys = dropped xs ys

pub sign_idle : (l rest : List Item) (h : IsEndSign l) → idle_len (sign_line h rest) ≡ length h.lead
sign_idle l rest h =
    let e : is_idle (sign h.bar) ≡ false = ap is_idle h.is_bar in
    ap (prefix_len is_idle) (map-append sign h.lead (h.bar ∷ h.brace ∷ rest)) ∙ idle_front h.lead (map sign (h.brace ∷ rest)) (sign h.bar) h.idle e

-- the sign's own row, which nothing else is in
abbrev pub end_row : {l : List Item} → IsEndSign l → Row
end_row h = record { kind = line.TableEnd; lead = h.lead; items = h.bar ∷ h.brace ∷ []; ending = [] }

abbrev cut_rows : List Item → List Item → List Row
cut_rows ds ts =
    if is_unseen (drop 2 ds) then record { kind = line.TableEnd; lead = ts; items = take 2 ds; ending = drop 2 ds } ∷ []
    else record { kind = line.TableEnd; lead = ts; items = take 2 ds; ending = [] } ∷ whole_row line.Text (marks_len (drop 2 ds)) (drop 2 ds) ∷ []

none_dropped : (zs : List Item) → drop 0 zs ≡ zs
none_dropped [] = refl
none_dropped (z ∷ zs) = refl

none_taken : (zs : List Item) → take 0 zs ≡ []
none_taken [] = refl
none_taken (z ∷ zs) = refl

cut_is : (lead ds : List Item) → sign_rows line.TableEnd (length lead) 2 (lead ++ ds) ≡ cut_rows ds lead
cut_is lead ds = ap (λ (xs : List Item). cut_rows xs (take (length lead) (lead ++ ds))) (dropped lead ds) ∙ ap (cut_rows ds) (taken lead ds)

two_rows : (lead : List Item) (bar brace : Item) (rest : List Item) → is_unseen rest ≡ false
    → cut_rows (bar ∷ brace ∷ rest) lead
    ≡ record { kind = line.TableEnd; lead = lead; items = bar ∷ brace ∷ []; ending = [] } ∷ whole_row line.Text (marks_len rest) rest ∷ []
two_rows lead bar brace rest e =
    let own : Row = record { kind = line.TableEnd; lead = lead; items = bar ∷ brace ∷ take 0 rest; ending = [] } in
    ap (λ (ys : List Item). if is_unseen ys then record { kind = line.TableEnd; lead = lead; items = bar ∷ brace ∷ take 0 rest; ending = ys } ∷ []
    else own ∷ whole_row line.Text (marks_len ys) ys ∷ []) (none_dropped rest)
    ∙ ap (λ (t : Bool). if t then record { kind = line.TableEnd; lead = lead; items = bar ∷ brace ∷ take 0 rest; ending = rest } ∷ []
    else own ∷ whole_row line.Text (marks_len rest) rest ∷ []) e
    ∙ ap (λ (ys : List Item). record { kind = line.TableEnd; lead = lead; items = bar ∷ brace ∷ ys; ending = [] } ∷ whole_row line.Text (marks_len rest) rest ∷ []) (none_taken rest)

pub seen_rows : (l rest : List Item) (h : IsEndSign l) → is_unseen rest ≡ false
    → line_rows line.TableEnd (sign_line h rest) ≡ end_row h ∷ whole_row line.Text (marks_len rest) rest ∷ []
seen_rows l rest h e =
    ap (λ (n : ℕ). sign_rows line.TableEnd n 2 (sign_line h rest)) (sign_idle l rest h) ∙ cut_is h.lead (h.bar ∷ h.brace ∷ rest) ∙ two_rows h.lead h.bar h.brace rest e

pub alone_rows : (l : List Item) (h : IsEndSign l) → line_rows line.TableEnd l ≡ end_row h ∷ []
alone_rows l h =
    ap (line_rows line.TableEnd) h.is
    ∙ ap (λ (n : ℕ). sign_rows line.TableEnd n 2 (sign_line h [])) (sign_idle l [] h) ∙ cut_is h.lead (h.bar ∷ h.brace ∷ [])

-- ---- the lines

-- where no line break is among these, what follows goes on in their line
line_behind : (xs zs : List Item) (y : Item) (ys : List Item) (ls : List (List Item)) → AllGo xs → full_lines zs ≡ (y ∷ ys) ∷ ls
    → full_lines (xs ++ zs) ≡ (xs ++ y ∷ ys) ∷ ls
line_behind [] zs y ys ls h e = e
line_behind (x ∷ []) zs y ys ls h e = ap (put goes_on x) e ∙ put_on x y ys ls (ap not h.0)
line_behind (x ∷ z ∷ xs) zs y ys ls h e = ap (put goes_on x) (line_behind (z ∷ xs) zs y ys ls h.1 e) ∙ put_on x z (xs ++ y ∷ ys) ls (ap not h.0)

go_idle : (xs ys : List Item) → AreIdleItems xs → AllGo ys → AllGo (xs ++ ys)
go_idle [] ys h g = g
go_idle (x ∷ xs) ys h g = (h.1, go_idle xs ys h.2 g)

sign_goes : (l : List Item) → IsEndSign l → AllGo l
sign_goes l h = subst AllGo (sym h.is) (go_idle h.lead (h.bar ∷ h.brace ∷ []) h.idle (h.bar_goes, (h.brace_goes, tt)))

-- the rows of the sign's line, and those of the later ones
pub line_on_sign : (n : ℕ) (l zs : List Item) (h : IsEndSign l) (y : Item) (ys : List Item) (ls : List (List Item)) → full_lines zs ≡ (y ∷ ys) ∷ ls
    → is_unseen (y ∷ ys) ≡ false
    → rows_from (suc n) (full_lines (l ++ zs)) ≡ line_rows line.TableEnd l ++ (whole_row line.Text (marks_len (y ∷ ys)) (y ∷ ys) ∷ rows_from n ls)
line_on_sign n l zs h y ys ls e seen =
    let first : List Item = y ∷ ys in
    let is : l ++ first ≡ sign_line h first = ap (λ (xs : List Item). xs ++ first) h.is ∙ append_assoc h.lead (h.bar ∷ h.brace ∷ []) first in
    let one : suc n - 1 ≡ n = omega arith in
    ap (rows_from (suc n)) (line_behind l zs y ys ls (sign_goes l h) e ∙ ap (λ (xs : List Item). xs ∷ ls) is)
    ∙ ap (λ (k : LineKind). line_rows k (sign_line h first) ++ rows_from (behind (suc n) k) ls) (sign_kind n l first h)
    ∙ ap (λ (m : ℕ). line_rows line.TableEnd (sign_line h first) ++ rows_from m ls) one
    ∙ ap (λ (rs : List Row). rs ++ rows_from n ls) (seen_rows l first h seen)
    ∙ sym (ap (λ (rs : List Row). rs ++ (whole_row line.Text (marks_len first) first ∷ rows_from n ls)) (alone_rows l h))

-- ---- a paragraph there

marks_idle : (ms : List Item) → AreMarks ms → AreIdleItems ms
marks_idle [] h = tt
marks_idle (m ∷ ms) h = (idle_mark m h.0, goes m h.0, marks_idle ms h.1)
  where
    idle_mark : (m : Item) → is_mark m ≡ true → is_idle_item m ≡ true
    idle_mark (char o b) e = cc
    idle_mark (whole f o bs) e = e

    goes : (m : Item) → is_mark m ≡ true → is_break_item m ≡ false
    goes (char o b) e = cc
    goes (whole f o bs) e = refl

idle_goes : (xs : List Item) → AreIdleItems xs → AllGo xs
idle_goes [] h = tt
idle_goes (x ∷ xs) h = (h.1, idle_goes xs h.2)

pub unseen_behind : (ms : List Item) (y : Item) (ys : List Item) → AreIdleItems ms → is_unseen (y ∷ ys) ≡ false → is_unseen (ms ++ y ∷ ys) ≡ false
unseen_behind ms y ys h e =
    let signs : map sign (content (ms ++ y ∷ ys)) ≡ map sign ms ++ map sign (content (y ∷ ys)) =
    ap (map sign) (content_behind ms y ys) ∙ map-append sign ms (content (y ∷ ys)) in
    ap is_idle_all signs ∙ ap (λ (ss : List ℕ). length ss == 0) (idle_past ms (map sign (content (y ∷ ys))) h) ∙ e

-- the first line of lines, which isn't empty
some_first : (f : List Item) (gs : List (List Item)) (xs : List Item) → full_lines xs ≡ f ∷ gs → (y : Item) × (ys : List Item) × (f ≡ y ∷ ys)
some_first [] gs xs e = let r = subst (λ (ls : List (List Item)). AreRuns goes_on ls xs) e (runs_are goes_on xs) in absurd r.2
some_first (y ∷ ys) gs xs e = (y, ys, refl)

-- lines, of which the first is seen, and the others are text where so many tables are open
lines_on : (n : ℕ) (l ms zs : List Item) (h : IsEndSign l) (y : Item) (ys : List Item) (gs hs : List (List Item)) → AreMarks ms → full_lines zs ≡ (y ∷ ys) ∷ (gs ++ hs)
    → marks_len (y ∷ ys) ≡ 0 → is_unseen (y ∷ ys) ≡ false → AreAt n gs
    → rows_from (suc n) (full_lines (l ++ (ms ++ zs))) ≡ line_rows line.TableEnd l ++ (led ms (paragraph_rows (y ∷ ys) gs) ++ rows_from n hs)
lines_on n l ms zs h y ys gs hs m e unled seen texts =
    let f : List Item = y ∷ ys in
    let idle : AreIdleItems ms = marks_idle ms m in
    let all : full_lines (ms ++ zs) ≡ (ms ++ f) ∷ (gs ++ hs) = line_behind ms zs y ys (gs ++ hs) (idle_goes ms idle) e in
    let last : is_unseen (ms ++ f) ≡ false = unseen_behind ms y ys idle seen in
    let row : whole_row line.Text (marks_len (ms ++ f)) (ms ++ f) ≡ with_lead ms (text_row f) =
    row_marks line.Text ms f m ∙ ap (λ (k : ℕ). with_lead ms (whole_row line.Text k f)) unled in
    by (ms ++ f) all last
    ∙ ap (λ (r : Row). line_rows line.TableEnd l ++ (r ∷ rows_from n (gs ++ hs))) row
    ∙ ap (λ (rs : List Row). line_rows line.TableEnd l ++ (with_lead ms (text_row f) ∷ rs)) (later_at n gs hs texts)
  where
    by : (first : List Item) → full_lines (ms ++ zs) ≡ first ∷ (gs ++ hs) → is_unseen first ≡ false
        → rows_from (suc n) (full_lines (l ++ (ms ++ zs))) ≡ line_rows line.TableEnd l ++ (whole_row line.Text (marks_len first) first ∷ rows_from n (gs ++ hs))
    by first all last =
        let some = some_first first (gs ++ hs) (ms ++ zs) all in
        let here = line_on_sign n l (ms ++ zs) h some.0 some.1 (gs ++ hs) (all ∙ ap (λ (xs : List Item). xs ∷ (gs ++ hs)) some.2) (sym (ap is_unseen some.2) ∙ last) in
        here ∙ sym (ap (λ (xs : List Item). line_rows line.TableEnd l ++ (whole_row line.Text (marks_len xs) xs ∷ rows_from n (gs ++ hs))) some.2)

later_ended : (n : ℕ) (l : List Item) (ls : List (List Item)) → AreAt n ls → last_break (ending l) ls ≡ [] → AreAt n (rest_ended l ls)
later_ended n l [] h e = tt
later_ended n l (m ∷ ls) h e = (one m ls h.0 e, later_ended n m ls h.1 e)
  where
    one : (m : List Item) (ls : List (List Item)) → kind_at n m ≡ line.Text → last_break (ending m) ls ≡ [] → kind_at n (first_ended m ls) ≡ line.Text
    one m [] k e = ap (line_kind n) (content_ended m e) ∙ k
    one m (o ∷ ls) k e = k

first_seen : (l : List Item) (ls : List (List Item)) → is_unseen l ≡ false → last_break (ending l) ls ≡ [] → is_unseen (first_ended l ls) ≡ false
first_seen l [] h e = ap (λ (xs : List Item). is_idle_all (map sign xs)) (content_ended l e) ∙ h
first_seen l (m ∷ ls) h e = h

-- the rows of a table's end with a paragraph behind its sign
pub text_on_sign : (n : ℕ) (l own ms tail : List Item) (h : IsEndSign l) (b : IsLineBlock own) → AreMarks ms → is_unseen b.first ≡ false → AreAt n b.others → EndsLine tail
    → rows_from (suc n) (full_lines (l ++ (ms ++ (own ++ tail)))) ≡ line_rows line.TableEnd l ++ (led ms (own_rows own b tail) ++ rows_from n (full_lines (past_break tail)))
text_on_sign n l own ms [] h b m seen texts e =
    let some = some_first b.first b.others own b.are_lines in
    let P : List Item → Type 0 = λ f. full_lines (own ++ []) ≡ f ∷ (b.others ++ []) → marks_len f ≡ 0 → is_unseen f ≡ false
    → rows_from (suc n) (full_lines (l ++ (ms ++ (own ++ [])))) ≡ line_rows line.TableEnd l ++ (led ms (paragraph_rows f b.others) ++ rows_from n []) in
    subst P (sym some.2) (λ are u v. lines_on n l ms (own ++ []) h some.0 some.1 b.others [] m are u v texts)
    (ap full_lines (append-nil own) ∙ b.are_lines ∙ ap (λ (ls : List (List Item)). b.first ∷ ls) (sym (append-nil b.others))) b.unled seen
text_on_sign n l own ms (y ∷ ys) h b m seen texts e =
    let f : List Item = first_ended b.first b.others in
    let gs : List (List Item) = rest_ended b.first b.others in
    let all : full_lines (own ++ y ∷ ys) ≡ f ∷ (gs ++ full_lines ys) = ap (λ z. full_lines (own ++ z ∷ ys)) e ∙ ended_lines own ys b in
    let some = some_first f (gs ++ full_lines ys) (own ++ y ∷ ys) all in
    let P : List Item → Type 0 = λ g. full_lines (own ++ y ∷ ys) ≡ g ∷ (gs ++ full_lines ys) → marks_len g ≡ 0 → is_unseen g ≡ false
    → rows_from (suc n) (full_lines (l ++ (ms ++ (own ++ y ∷ ys)))) ≡ line_rows line.TableEnd l ++ (led ms (paragraph_rows g gs) ++ rows_from n (full_lines ys)) in
    subst P (sym some.2) (λ are u v. lines_on n l ms (own ++ y ∷ ys) h some.0 some.1 gs (full_lines ys) m are u v (later_ended n b.first b.others texts b.are_unended))
    all (still_unled b.first b.others b.unled) (first_seen b.first b.others seen b.are_unended)

-- ---- behind lines

one_line : (x : Item) (xs : List Item) → AllGo (x ∷ xs) → full_lines (x ∷ xs) ≡ (x ∷ xs) ∷ []
one_line x [] h = refl
one_line x (y ∷ ys) h = ap (put goes_on x) (one_line y ys h.1) ∙ put_on x y ys [] (ap not h.0)

pub sign_alone : (l : List Item) → IsEndSign l → full_lines l ≡ l ∷ []
sign_alone l h = by l (sign_goes l h) (ap length h.is)
  where
    some : (xs : List Item) → 1 ≤ length (xs ++ (h.bar ∷ h.brace ∷ []))
    some [] = omega arith
    some (x ∷ xs) = omega arith

    by : (xs : List Item) → AllGo xs → length xs ≡ length (h.lead ++ (h.bar ∷ h.brace ∷ [])) → full_lines xs ≡ xs ∷ []
    by [] g e = absurd (omega (arith, e, some h.lead))
    by (x ∷ xs) g e = one_line x xs g

written_join : (n : ℕ) (ls ms : List (List Item)) → written_rows n (ls ++ ms) ≡ written_rows n ls ++ written_rows (tables_behind n ls) ms
written_join n [] ms = refl
written_join n (l ∷ ls) ms =
    ap (λ (rs : List Row). line_rows (kind_at n l) l ++ rs) (written_join (behind n (kind_at n l)) ls ms)
    ∙ sym (append_assoc (line_rows (kind_at n l) l) (written_rows (behind n (kind_at n l)) ls) (written_rows (tables_behind (behind n (kind_at n l)) ls) ms))

tables_join : (n : ℕ) (ls ms : List (List Item)) → tables_behind n (ls ++ ms) ≡ tables_behind (tables_behind n ls) ms
tables_join n [] ms = refl
tables_join n (l ∷ ls) ms = tables_join (behind n (kind_at n l)) ls ms

pub end_kind : (n : ℕ) (l : List Item) → IsEndSign l → kind_at (suc n) l ≡ line.TableEnd
end_kind n l h = ap (kind_at (suc n)) h.is ∙ sign_kind n l [] h

end_written : (n : ℕ) (l : List Item) → IsEndSign l → written_rows (suc n) (l ∷ []) ≡ line_rows line.TableEnd l
end_written n l h = ap (λ (k : LineKind). line_rows k l ++ []) (end_kind n l h) ∙ append-nil (line_rows line.TableEnd l)

end_tables : (n : ℕ) (l : List Item) → IsEndSign l → tables_behind (suc n) (l ∷ []) ≡ n
end_tables n l h = let one : suc n - 1 ≡ n = omega arith in ap (behind (suc n)) (end_kind n l h) ∙ one

-- what such a part makes, and the paragraph behind it
pub end_rows : (n : ℕ) (xs front l own ms tail : List Item) (h : IsEndSign l) (b : IsLineBlock own) → xs ≡ front ++ l → empty_end front ≡ [] ∷ []
    → 1 ≤ tables_behind n (full_lines front) → AreMarks ms → is_unseen b.first ≡ false → AreAt (tables_behind n (full_lines xs)) b.others → EndsLine tail
    → rows_from n (full_lines (xs ++ (ms ++ (own ++ tail))))
    ≡ written_rows n (full_lines xs) ++ (led ms (own_rows own b tail) ++ rows_from (tables_behind n (full_lines xs)) (full_lines (past_break tail)))
end_rows n xs front l own ms tail h b is ends some marks seen texts e = by (tables_behind n (full_lines front)) refl some
  where
    Z : List Item
    Z = ms ++ (own ++ tail)

    lines_are : full_lines xs ≡ full_lines front ++ l ∷ []
    lines_are = ap full_lines is ∙ lines_join front l ends ∙ ap (λ (ls : List (List Item)). full_lines front ++ ls) (sign_alone l h)

    all : rows_from n (full_lines (xs ++ Z)) ≡ written_rows n (full_lines front) ++ rows_from (tables_behind n (full_lines front)) (full_lines (l ++ Z))
    all =
        ap (λ (ys : List Item). rows_from n (full_lines ys)) (ap (λ (ys : List Item). ys ++ Z) is ∙ append_assoc front l Z)
        ∙ ap (rows_from n) (lines_join front (l ++ Z) ends) ∙ rows_join n (full_lines front) (full_lines (l ++ Z))

    by : (m : ℕ) → tables_behind n (full_lines front) ≡ m → 1 ≤ m
        → rows_from n (full_lines (xs ++ Z))
        ≡ written_rows n (full_lines xs) ++ (led ms (own_rows own b tail) ++ rows_from (tables_behind n (full_lines xs)) (full_lines (past_break tail)))
    by zero f le = absurd (omega (arith, le))
    by (suc m) f le =
        let tables : tables_behind n (full_lines xs) ≡ m =
        ap (tables_behind n) lines_are ∙ tables_join n (full_lines front) (l ∷ []) ∙ ap (λ (k : ℕ). tables_behind k (l ∷ [])) f ∙ end_tables m l h in
        let rows : written_rows n (full_lines xs) ≡ written_rows n (full_lines front) ++ line_rows line.TableEnd l =
        ap (written_rows n) lines_are ∙ written_join n (full_lines front) (l ∷ [])
        ∙ ap (λ (rs : List Row). written_rows n (full_lines front) ++ rs) (ap (λ (k : ℕ). written_rows k (l ∷ [])) f ∙ end_written m l h) in
        let own_part : List Row = led ms (own_rows own b tail) in
        let last : rows_from (suc m) (full_lines (l ++ Z)) ≡ line_rows line.TableEnd l ++ (own_part ++ rows_from m (full_lines (past_break tail))) =
        text_on_sign m l own ms tail h b marks seen (subst (λ (k : ℕ). AreAt k b.others) tables texts) e in
        all
        ∙ ap (λ (k : ℕ). written_rows n (full_lines front) ++ rows_from k (full_lines (l ++ Z))) f
        ∙ ap (λ (rs : List Row). written_rows n (full_lines front) ++ rs) last
        ∙ sym (append_assoc (written_rows n (full_lines front)) (line_rows line.TableEnd l) (own_part ++ rows_from m (full_lines (past_break tail))))
        ∙ ap (λ (rs : List Row). rs ++ (own_part ++ rows_from m (full_lines (past_break tail)))) (sym rows)
        ∙ ap (λ (k : ℕ). written_rows n (full_lines xs) ++ (own_part ++ rows_from k (full_lines (past_break tail)))) (sym tables)

-- ---- what is asked of its lines

empty_behind : (xs : List Item) (y : Item) (ys : List Item) → empty_end (xs ++ y ∷ ys) ≡ empty_end (y ∷ ys)
empty_behind [] y ys = refl
empty_behind (x ∷ []) y ys = refl
empty_behind (x ∷ z ∷ xs) y ys = empty_behind (z ∷ xs) y ys

abbrev no_lines : Bool → List (List Item)
no_lines t = if t then [] ∷ [] else []

-- the line of a sign doesn't end
pub end_unwhole : (n : ℕ) (xs : List Item) → IsTableEnd n xs → empty_end xs ≡ [] ∷ [] → ⊥
end_unwhole n xs g w =
    let h : IsEndSign g.last = g.end in
    let is : xs ≡ (g.front ++ (h.lead ++ h.bar ∷ [])) ++ h.brace ∷ [] =
    g.is ∙ ap (λ (ys : List Item). g.front ++ ys) (h.is ∙ sym (append_assoc h.lead (h.bar ∷ []) (h.brace ∷ []))) ∙ sym (append_assoc g.front (h.lead ++ h.bar ∷ []) (h.brace ∷ [])) in
    let none : empty_end xs ≡ [] =
    ap empty_end is ∙ empty_behind (g.front ++ (h.lead ++ h.bar ∷ [])) h.brace [] ∙ ap no_lines h.brace_goes in
    let no : ◌≡◌ {A = List (List Item)} [] ([] ∷ []) = sym none ∙ w in
    absurd (cc)

pub all_later : (n : ℕ) (ls : List (List Item)) → All (λ m. line_kind n m ≡ line.Text) ls → AreLater n ls
all_later n [] h = tt
all_later n (l ∷ ls) h = All-tail (λ m. line_kind n m ≡ line.Text) l ls h

pub later_others : (n : ℕ) (own : List Item) (b : IsLineBlock own) → AreLater n (lines own) → AreAt n b.others
later_others n own b h =
    let are : lines own ≡ content b.first ∷ (map content b.others ++ empty_end own) =
    same_lines own ∙ ap (λ (ls : List (List Item)). map content ls ++ empty_end own) b.are_lines in
    kinds_by n b.others (empty_end own) (subst (AreLater n) are h)

pub first_is_seen : (own : List Item) (b : IsLineBlock own) → All IsSeenLine (lines own) → is_unseen b.first ≡ false
first_is_seen own b h =
    let are : lines own ≡ content b.first ∷ (map content b.others ++ empty_end own) =
    same_lines own ∙ ap (λ (ls : List (List Item)). map content ls ++ empty_end own) b.are_lines in
    All-head IsSeenLine (content b.first) (map content b.others ++ empty_end own) (subst (All IsSeenLine) are h)
