-- A line of a table's end: its sign, and what is behind it on the line.
use Rattle.std.proofs.Common.{arith, ◌≡◌, ◌<◌, ◌≤◌, ℕ, zero, suc, Bool, true, false, None, List, [], ◌∷◌, ◌++◌, length, take, drop, map, refl, sym, ap, ◌∙◌, subst, append_assoc, codes}
use Rattle.std.specs.Prelude.{◌&&◌, ◌||◌, ◌==◌, nat_eq, if◌then◌else◌}
use Rattle.std.specs.Str.{IsUtf8}
use Rattle.std.proofs.lemmas.Bool.{eqb-true}
use Rattle.std.specs.Bool.{Decides}
use Rattle.std.specs.List.{list_all}
use Rattle.std.proofs.lemmas.Bool.Decides.{nat_tests}
use Rattle.std.proofs.lemmas.List.{take-append-drop}
use Rattle.std.proofs.lemmas.Slice.Eq.{starts_is}
use Rattle.wt_span.specs.Bytes.{is_blank, is_break, begins}
use Rattle.wt_span.specs.Items.{Item, char, whole, is_mark_form, is_mark, sign}
use Rattle.wt_span.proofs.RunLaws.{runs_are}
use Rattle.wt_expand.specs.PageCalls.{expanded_page}
use Rattle.wt_expand.specs.Work.{Pages}
use Rattle.wt_commands.specs.Answers.{refusal_of_page}
use Rattle.wt_lines.specs.declared.kind.LineKind.TheVariants as line
use Rattle.wt_lines.specs.Kinds.{is_idle, past, kind_of_signs}
use Rattle.wt_lines.specs.Lines.{is_break_item, goes_on, content, full_lines}
use Rattle.wt_tables.specs.Parts.{joined}
use Rattle.wt_page.specs.Lines.{kind_at}
use Rattle.wt_page.specs.Rows.{marks_len, idle_len, is_unseen, sign_row, whole_row, line_rows}
use Rattle.wt_page_round_trip.proofs.ExpandedItems.{expanded_items}
use Rattle.wt_page_round_trip.proofs.KindTests.{line_tests, IsTested, kind_told}
use Rattle.wt_page_round_trip.proofs.TextItems.{AreTexts}
use Rattle.wt_part_laws.proofs.OpenKinds.{ends_none}
use Rattle.wt_text_edit_laws.proofs.Cuts.TextLines.{joined_is}
use Rattle.wt_called_edit_laws.specs.RowBlocks.{end_sign, past_end}
use Rattle.wt_called_edit_laws.specs.TableEnds.{is_idle_item, AreIdleItems, IsEndSign}
use Rattle.wt_called_edit_laws.proofs.AllTold.HeadSigns.{IsByteItem, first_byte}
use Rattle.wt_called_edit_laws.proofs.AllTold.LineKinds.{Lines, led_by, past_marks, led_whole}
use Rattle.wt_called_edit_laws.proofs.Cells.SignRows.{sign_kind, end_kind, sign_idle, unseen_behind}

-- ---- items that are bytes

abbrev pub AreByteItems : List Item → Type 0
AreByteItems [] = Unit {0}
AreByteItems (x ∷ xs) = IsByteItem x × AreByteItems xs

bytes_are : (run : List ℕ) (xs : List Item) → AreTexts run xs → AreByteItems xs
bytes_are run [] h = tt
bytes_are run (char o b ∷ xs) h = (first_byte run (char o b) xs h, bytes_are (run ++ b ∷ []) xs h.1)
bytes_are run (whole f o bs ∷ xs) h = (tt, bytes_are [] xs h.1)

bytes_front : (xs ys : List Item) → AreByteItems (xs ++ ys) → AreByteItems xs
bytes_front [] ys h = tt
bytes_front (x ∷ xs) ys h = (h.0, bytes_front xs ys h.1)

bytes_behind : (xs ys : List Item) → AreByteItems (xs ++ ys) → AreByteItems ys
bytes_behind [] ys h = h
bytes_behind (x ∷ xs) ys h = bytes_behind xs ys h.1

-- ---- what its kind tells

nat_decides : (a b : ℕ) → Decides (nat_eq a b) (a ≡ b)
nat_decides a b = (λ e. grind (arith, nat_tests), λ e. grind (arith, nat_tests))

end_signs : (n : ℕ) (ss : List ℕ) → kind_of_signs n ss ≡ line.TableEnd → (ts : List ℕ) × (past is_idle ss ≡ 124 ∷ 125 ∷ ts)
end_signs n ss e =
    let seen : List ℕ = past is_idle ss in
    let t : IsTested (line_tests ss) line.TableEnd = kind_told n ss line.TableEnd e in
    (drop 2 seen, (starts_is nat_decides seen (codes "|}") (begins (codes "|}") seen) refl).0 t)

pub some_tables : (n : ℕ) (l : List Item) → kind_at n l ≡ line.TableEnd → 1 ≤ n
some_tables zero l e = absurd (ends_none (map sign (content l)) e)
some_tables (suc n) l e = omega arith

-- ---- blanks and marks, and behind them the sign

small_idle : (b : ℕ) → b < 256 → (v w : Bool) → (b == 257) ≡ w → (v || w) ≡ true → (v || false) ≡ true
small_idle b h true w e f = refl
small_idle b h false true e f = absurd (omega (arith, h, eqb-true b 257 e))
small_idle b h false false e f = f

idle_form : (v : Bool) → is_idle (if v then 257 else 256) ≡ true → v ≡ true
idle_form true e = refl
idle_form false e = absurd (cc)

idle_item : (x : Item) → IsByteItem x → is_idle (sign x) ≡ true → is_idle_item x ≡ true
idle_item (char o b) h e = small_idle b h (is_blank b) (b == 257) refl e
idle_item (whole f o bs) h e = idle_form (is_mark_form f) e

blank_goes : (b : ℕ) → (is_blank b || false) ≡ true → is_break b ≡ false
blank_goes b e = grind (arith, nat_tests, e)

idle_goes : (x : Item) → is_idle_item x ≡ true → is_break_item x ≡ false
idle_goes (char o b) e = blank_goes b e
idle_goes (whole f o bs) e = refl

sign_goes : (x : Item) (b : ℕ) → sign x ≡ b → is_break b ≡ false → is_break_item x ≡ false
sign_goes (char o c) b e f = ap is_break e ∙ f
sign_goes (whole f o bs) b e g = refl

-- a line cut behind its sign
record EndParts (l : List Item) : Type 0 where
  lead : List Item
  bar : Item
  brace : Item
  rest : List Item
  is : l ≡ lead ++ (bar ∷ brace ∷ rest)
  idle : AreIdleItems lead
  is_bar : sign bar ≡ 124
  is_brace : sign brace ≡ 125

second_of : ℕ → List ℕ → ℕ
second_of n [] = n
second_of n (s ∷ ss) = s

rest_of : List ℕ → List ℕ
rest_of [] = []
rest_of (s ∷ ss) = ss

-- the sign's second item is in the line
brace_there : (ys : List Item) (ts : List ℕ) → map sign (content ys) ≡ 125 ∷ ts → (y : Item) × (zs : List Item) × (ys ≡ y ∷ zs) × (sign y ≡ 125)
unfolding second_of
brace_there [] ts e = absurd (cc)
brace_there (y ∷ []) ts e = by (is_break_item y) e
  where
    by : (v : Bool) → map sign (if v then [] else y ∷ []) ≡ 125 ∷ ts → (z : Item) × (zs : List Item) × (y ∷ [] ≡ z ∷ zs) × (sign z ≡ 125)
    by true f = absurd (cc)
    by false f = (y, [], refl, ap (second_of 0) f)
brace_there (y ∷ z ∷ zs) ts e = (y, z ∷ zs, refl, ap (second_of 0) e)

end_parts : (l : List Item) (ts : List ℕ) → AreByteItems l → past is_idle (map sign (content l)) ≡ 124 ∷ 125 ∷ ts → EndParts l
unfolding second_of rest_of
end_parts [] ts h e = absurd (cc)
end_parts (x ∷ []) ts h e = by (is_break_item x) e
  where
    two : (v : Bool) (s : ℕ) → (if v then [] else s ∷ []) ≡ 124 ∷ 125 ∷ ts → ⊥
    two true s f = absurd (cc)
    two false s f = absurd (omega (arith, ap length f))

    by : (v : Bool) → past is_idle (map sign (if v then [] else x ∷ [])) ≡ 124 ∷ 125 ∷ ts → EndParts (x ∷ [])
    by true f = absurd (cc)
    by false f = absurd (two (is_idle (sign x)) (sign x) f)
end_parts (x ∷ y ∷ ys) ts h e = by (is_idle (sign x)) refl e (λ f. end_parts (y ∷ ys) ts h.1 f)
  where
    by : (v : Bool) → is_idle (sign x) ≡ v → (if v then past is_idle (map sign (content (y ∷ ys))) else sign x ∷ map sign (content (y ∷ ys))) ≡ 124 ∷ 125 ∷ ts
        → (past is_idle (map sign (content (y ∷ ys))) ≡ 124 ∷ 125 ∷ ts → EndParts (y ∷ ys)) → EndParts (x ∷ y ∷ ys)
    by true i f go =
        let p : EndParts (y ∷ ys) = go f in
        let own : is_idle_item x ≡ true = idle_item x h.0 i in
        record {
          lead = x ∷ p.lead;
          bar = p.bar;
          brace = p.brace;
          rest = p.rest;
          is = ap (λ (zs : List Item). x ∷ zs) p.is;
          idle = (own, idle_goes x own, p.idle);
          is_bar = p.is_bar;
          is_brace = p.is_brace;
        }
    by false i f go =
        let b = brace_there (y ∷ ys) ts (ap rest_of f) in
        record {
          lead = [];
          bar = x;
          brace = b.0;
          rest = b.1;
          is = ap (λ (zs : List Item). x ∷ zs) b.2;
          idle = tt;
          is_bar = ap (second_of 0) f;
          is_brace = b.3;
        }

-- ---- the line

taken : (xs ys : List Item) → take (length xs) (xs ++ ys) ≡ xs
taken [] [] = refl
taken [] (y ∷ ys) = refl
taken (x ∷ xs) ys = ap (λ (zs : List Item). x ∷ zs) (taken xs ys)

dropped : (xs ys : List Item) → drop (length xs) (xs ++ ys) ≡ ys
dropped [] [] = refl
dropped [] (y ∷ ys) = refl
dropped (x ∷ xs) ys = dropped xs ys

none_taken : (xs : List Item) → take 0 xs ≡ []
none_taken [] = refl
none_taken (x ∷ xs) = refl

none_dropped : (xs : List Item) → drop 0 xs ≡ xs
none_dropped [] = refl
none_dropped (x ∷ xs) = refl

pub record SignOf (l s rest : List Item) : Type 0 where
  pub sign_is : end_sign l ≡ s
  pub past_is : past_end l ≡ rest

-- a line that such a sign begins
pub sign_of : (s rest : List Item) → IsEndSign s → SignOf (s ++ rest) s rest
sign_of s rest h =
    let l : List Item = h.lead ++ (h.bar ∷ h.brace ∷ rest) in
    let is : s ++ rest ≡ l = ap (λ (xs : List Item). xs ++ rest) h.is ∙ append_assoc h.lead (h.bar ∷ h.brace ∷ []) rest in
    let n : idle_len l ≡ length h.lead = sign_idle s rest h in
    let lead : take (idle_len l) l ≡ h.lead = ap (λ (k : ℕ). take k l) n ∙ taken h.lead (h.bar ∷ h.brace ∷ rest) in
    let more : drop (idle_len l) l ≡ h.bar ∷ h.brace ∷ rest = ap (λ (k : ℕ). drop k l) n ∙ dropped h.lead (h.bar ∷ h.brace ∷ rest) in
    let two : take 2 (drop (idle_len l) l) ≡ h.bar ∷ h.brace ∷ [] =
    ap (take 2) more ∙ ap (λ (xs : List Item). h.bar ∷ h.brace ∷ xs) (none_taken rest) in
    record {
      sign_is = ap end_sign is ∙ ap (λ (xs : List Item). xs ++ take 2 (drop (idle_len l) l)) lead ∙ ap (λ (xs : List Item). h.lead ++ xs) two ∙ sym h.is;
      past_is = ap past_end is ∙ ap (drop 2) more ∙ none_dropped rest;
    }

pub end_whole : (l : List Item) → end_sign l ++ past_end l ≡ l
end_whole l =
    let d : List Item = drop (idle_len l) l in
    append_assoc (take (idle_len l) l) (take 2 d) (drop 2 d) ∙ ap (λ (xs : List Item). take (idle_len l) l ++ xs) (take-append-drop 2 d)
    ∙ take-append-drop (idle_len l) l

sign_here : (l : List Item) → EndParts l → IsEndSign (end_sign l)
sign_here l p =
    let s : List Item = p.lead ++ (p.bar ∷ p.brace ∷ []) in
    let own : IsEndSign s = record {
      lead = p.lead;
      bar = p.bar;
      brace = p.brace;
      is = refl;
      idle = p.idle;
      is_bar = p.is_bar;
      bar_goes = sign_goes p.bar 124 p.is_bar refl;
      is_brace = p.is_brace;
      brace_goes = sign_goes p.brace 125 p.is_brace refl;
    } in
    let is : l ≡ s ++ p.rest = p.is ∙ sym (append_assoc p.lead (p.bar ∷ p.brace ∷ []) p.rest) in
    subst IsEndSign (sym (ap end_sign is ∙ (sign_of s p.rest own).sign_is)) own

pub end_there : (n : ℕ) (l : List Item) → AreByteItems l → kind_at n l ≡ line.TableEnd → IsEndSign (end_sign l)
end_there n l h e = let s = end_signs n (map sign (content l)) e in sign_here l (end_parts l s.0 h s.1)

-- where a table is open, its line is a table's end
pub end_line : (n : ℕ) (s rest : List Item) → IsEndSign s → 1 ≤ n → kind_at n (s ++ rest) ≡ line.TableEnd
end_line zero s rest h some = absurd (omega (arith, some))
end_line (suc n) s rest h some =
    ap (kind_at (suc n)) (ap (λ (xs : List Item). xs ++ rest) h.is ∙ append_assoc h.lead (h.bar ∷ h.brace ∷ []) rest) ∙ sign_kind n s rest h

pub end_alone : (n : ℕ) (s : List Item) → IsEndSign s → 1 ≤ n → kind_at n s ≡ line.TableEnd
end_alone zero s h some = absurd (omega (arith, some))
end_alone (suc n) s h some = end_kind n s h

-- no sign is empty
pub none_sign : IsEndSign [] → ⊥
none_sign h = by h.lead h.is
  where
    by : (xs : List Item) → [] ≡ xs ++ (h.bar ∷ h.brace ∷ []) → ⊥
    by [] e = absurd (cc)
    by (x ∷ xs) e = absurd (cc)

-- the sign, the marks behind it, and what is behind these
pub sign_whole : (l : List Item) → (end_sign l ++ led_by (past_end l)) ++ past_marks (past_end l) ≡ l
sign_whole l =
    append_assoc (end_sign l) (led_by (past_end l)) (past_marks (past_end l)) ∙ ap (λ (xs : List Item). end_sign l ++ xs) (led_whole (past_end l)) ∙ end_whole l

-- its rows, where something is seen behind the sign
pub end_rows_are : (l : List Item) → is_unseen (past_end l) ≡ false
    → line_rows line.TableEnd l ≡ sign_row line.TableEnd (idle_len l) 2 l [] ∷ whole_row line.Text (marks_len (past_end l)) (past_end l) ∷ []
end_rows_are l u =
    ap (λ (v : Bool). if v then sign_row line.TableEnd (idle_len l) 2 l (past_end l) ∷ []
    else sign_row line.TableEnd (idle_len l) 2 l [] ∷ whole_row line.Text (marks_len (past_end l)) (past_end l) ∷ []) u

-- marks before it don't hide what is seen
pub seen_led : (ms l : List Item) → list_all is_mark ms ≡ true → 1 ≤ length l → is_unseen l ≡ false → is_unseen (ms ++ l) ≡ false
seen_led ms [] all some u = absurd (omega (arith, some))
seen_led ms (y ∷ ys) all some u = unseen_behind ms y ys (idle_marks ms all) u
  where
    and_first : (a b : Bool) → (a && b) ≡ true → a ≡ true
    and_first true b e = refl
    and_first false b e = absurd (cc)

    and_rest : (a b : Bool) → (a && b) ≡ true → b ≡ true
    and_rest true b e = e
    and_rest false b e = absurd (cc)

    idle_mark : (m : Item) → is_mark m ≡ true → is_idle_item m ≡ true
    idle_mark (char o b) e = absurd (cc)
    idle_mark (whole f o bs) e = e

    idle_marks : (us : List Item) → list_all is_mark us ≡ true → AreIdleItems us
    idle_marks [] h = tt
    idle_marks (m ∷ us) h =
        let own : is_idle_item m ≡ true = idle_mark m (and_first (is_mark m) (list_all is_mark us) h) in
        (own, idle_goes m own, idle_marks us (and_rest (is_mark m) (list_all is_mark us) h))

-- ---- lines in which each table's end has its sign

abbrev pub HaveSigns : Lines → Type 0
HaveSigns [] = Unit {0}
HaveSigns (l ∷ ls) = ((n : ℕ) → kind_at n l ≡ line.TableEnd → IsEndSign (end_sign l)) × HaveSigns ls

signs_of : (ls : Lines) → AreByteItems (joined ls) → HaveSigns ls
signs_of [] h = tt
signs_of (l ∷ ls) h = ((λ n e. end_there n l (bytes_front l (joined ls) h) e), signs_of ls (bytes_behind l (joined ls) h))

pub signs_behind : (xs ys : Lines) → HaveSigns (xs ++ ys) → HaveSigns ys
signs_behind [] ys h = h
signs_behind (x ∷ xs) ys h = signs_behind xs ys h.1

pub page_signs : (pages : Pages) (page : List ℕ) → IsUtf8 page → refusal_of_page pages page ≡ None → HaveSigns (full_lines (expanded_page pages page).items)
page_signs pages page u r =
    let xs : List Item = (expanded_page pages page).items in
    let all : AreByteItems xs = bytes_are [] xs (expanded_items pages page u r).texts in
    signs_of (full_lines xs) (subst AreByteItems (joined_is goes_on (full_lines xs) xs (runs_are goes_on xs)) all)
