-- The kinds of the lines of a text alone: a line that begins with an atom, or with a character that begins no other block, is Text.
use Rattle.std.proofs.Common.{arith, ◌≡◌, ◌≢◌, ℕ, zero, suc, ◌-◌, ◌<◌, ◌==◌, Bool, true, false, List, [], ◌∷◌, ◌++◌, length, map, take, drop, refl, sym, ap, ◌∙◌, subst, Some, None, Option, All}
use Rattle.std.specs.Prelude.{◌||◌, ◌&&◌, not, slice_index, if◌then◌else◌, reverse, nat_lt, codes}
use Rattle.std.specs.Option.{unwrap_or}
use Rattle.std.specs.Str.{IsUtf8}
use Rattle.std.proofs.lemmas.Bool.Decides.{nat_tests}
use Rattle.std.proofs.lemmas.List.Elements.{All-nil, All-cons, All-head, All-tail}
use Rattle.wt_span.specs.declared.form.Mode.TheVariants.{Page}
use Rattle.wt_span.specs.declared.form.LexKind.{LexKind}
use Rattle.wt_span.specs.declared.form.LexKind.TheVariants.{Chars, CommentLine, Comment, Raw, Include, Hidden, Entity, Opens, Closes, LinkOpen, LinkClose, Pipe, Equals}
use Rattle.wt_span.specs.declared.form.ItemForm.TheVariants as form
use Rattle.wt_span.specs.Bytes.{is_break, begins}
use Rattle.wt_span.specs.Items.{Item, char, whole, sign, items_by}
use Rattle.wt_span.specs.Tags.{Tag, opening_tag, is_nowiki}
use Rattle.wt_span.specs.Lexemes.{Word, words}
use Rattle.wt_lex.specs.Reading.{AreLexemes}
use Rattle.wt_lex.proofs.Readings.{words_are}
use Rattle.wt_lines.specs.declared.kind.LineKind.{LineKind}
use Rattle.wt_lines.specs.declared.kind.LineKind.TheVariants as kind
use Rattle.wt_lines.specs.Lines.{lines, onto, is_break_item}
use Rattle.wt_lines.specs.Kinds.{line_kind, kind_of_signs, is_idle, is_mark_sign, past, first_of, table_rows, text_rows}
use Rattle.wt_lines.proofs.KindRows.{kind_of_text}
use Rattle.wt_expand.specs.PageItems.{items_of_word, items_of_words, page_items, raw_form_by}
use Rattle.wt_guards.specs.Table.{line_start_hazard}
use Rattle.wt_guards.specs.Content.{letters}
use Rattle.wt_guards.specs.Guards.{Setting, spelled}
use Rattle.wt_typed_blocks.specs.Reading.{shown_by, joined, shown_words, read_text}
use Rattle.wt_typed_blocks.proofs.TextReads.{text_reads_back}
use Rattle.wt_typed_blocks.proofs.Forms.{begins_not}
use Rattle.percent_encoding.proofs.PercentLemmas.{IsByte}
use Rattle.wt_names.proofs.Utf8.{utf8_bytes}
use Rattle.wt_typed_blocks.proofs.Lines.{may_begin, are_text_lines, text_lines}

-- ---- a line by its first sign

-- a sign with which no block but a paragraph begins
pub record OpensText (b : ℕ) : Type 0 where
  pub space : (b == 32) ≡ false
  pub tab : (b == 9) ≡ false
  pub break : (b == 10) ≡ false
  pub mark : (b == 257) ≡ false
  pub brace : b ≢ 123
  pub bar : b ≢ 124
  pub bang : b ≢ 33
  pub equals : b ≢ 61
  pub minus : b ≢ 45
  pub star : b ≢ 42
  pub hash : b ≢ 35
  pub colon : b ≢ 58
  pub semicolon : b ≢ 59
  pub blank : b ≢ 32

first_not : (k : ℕ) (word ss : List ℕ) (b : ℕ) → b ≢ k → begins (k ∷ word) (b ∷ ss) ≡ false
first_not k word ss b h = begins_not (k ∷ word) (b ∷ ss) 0 (omega arith) h

outside_rows : (t : Bool) (rows : List (Bool × LineKind)) → first_of rows ≡ None → first_of (if t then rows else []) ≡ None
outside_rows true rows h = h
outside_rows false rows h = refl

no_table : (b : ℕ) (ss : List ℕ) → OpensText b → first_of (table_rows (b ∷ ss)) ≡ None
no_table b ss o =
    rw (
      first_not 124 (codes "}") ss b o.bar,
      first_not 124 (codes "+") ss b o.bar,
      first_not 124 (codes "-") ss b o.bar,
      first_not 124 [] ss b o.bar,
      first_not 33 [] ss b o.bang,
    ) refl

no_other : (b : ℕ) (ss last : List ℕ) → OpensText b → first_of (text_rows (b ∷ ss) last) ≡ None
no_other b ss last o =
    rw (
      first_not 61 [] ss b o.equals,
      first_not 45 (codes "---") ss b o.minus,
      first_not 42 [] ss b o.star,
      first_not 35 [] ss b o.hash,
      first_not 58 [] ss b o.colon,
      first_not 59 [] ss b o.semicolon,
      first_not 32 [] ss b o.blank,
    ) refl

pub opens_kind : (tables b : ℕ) (ss : List ℕ) → OpensText b → kind_of_signs tables (b ∷ ss) ≡ kind.Text
opens_kind tables b ss o =
    let sign : b ∷ ss ≡ past is_idle (b ∷ ss) = rw (o.space, o.tab, o.mark) refl in
    let first : b ∷ ss ≡ past is_mark_sign (b ∷ ss) = rw (o.mark) refl in
    let some : (length (b ∷ ss) == 0) ≡ false = grind (arith, nat_tests) in
    let last = past is_idle (reverse (b ∷ ss)) in
    kind_of_text tables (b ∷ ss) (b ∷ ss) (b ∷ ss) last sign some (first_not 123 (codes "|") ss b o.brace)
    (outside_rows (nat_lt 0 tables) (table_rows (b ∷ ss)) (no_table b ss o)) first refl
    ∙ ap (λ k. unwrap_or k kind.Text) (no_other b ss last o)

pub opens_text : (b : ℕ) → b < 256 → may_begin b ≡ true → OpensText b
unfolding line_start_hazard
opens_text b small h = record {
  space = grind (arith, nat_tests);
  tab = grind (arith, nat_tests);
  break = grind (arith, nat_tests);
  mark = grind (arith, nat_tests);
  brace = grind (arith, nat_tests);
  bar = grind (arith, nat_tests);
  bang = grind (arith, nat_tests);
  equals = grind (arith, nat_tests);
  minus = grind (arith, nat_tests);
  star = grind (arith, nat_tests);
  hash = grind (arith, nat_tests);
  colon = grind (arith, nat_tests);
  semicolon = grind (arith, nat_tests);
  blank = grind (arith, nat_tests);
}

pub atom_opens : OpensText 256
atom_opens = record {
  space = refl;
  tab = refl;
  break = refl;
  mark = refl;
  brace = omega arith;
  bar = omega arith;
  bang = omega arith;
  equals = omega arith;
  minus = omega arith;
  star = omega arith;
  hash = omega arith;
  colon = omega arith;
  semicolon = omega arith;
  blank = omega arith;
}

-- ---- lines of items

-- Each line has a first item, and it is such a one. `start` tells whether a line begins here.
abbrev TextItems : Bool → List Item → Type 0
TextItems start [] = start ≡ false
TextItems start (x ∷ xs) = (start ≡ true → OpensText (sign x)) × TextItems (is_break_item x) xs

abbrev IsText : ℕ → List Item → Type 0
IsText tables line = line_kind tables line ≡ kind.Text

-- all lines are text, or all but the one that began before
abbrev LinesText : ℕ → Bool → List (List Item) → Type 0
LinesText tables true ls = All (IsText tables) ls
LinesText tables false [] = ⊥
LinesText tables false (l ∷ ls) = All (IsText tables) ls

first_line : (tables : ℕ) (start : Bool) (x : Item) (ls : List (List Item)) → (start ≡ true → OpensText (sign x)) → LinesText tables false ls
    → LinesText tables start (onto (x ∷ []) ls)
first_line tables start x [] f h = absurd h
first_line tables true x (l ∷ ls) f h = All-cons (IsText tables) (x ∷ l) ls (opens_kind tables (sign x) (map sign l) (f refl)) h
first_line tables false x (l ∷ ls) f h = h

no_break_first : (x : Item) → OpensText (sign x) → is_break_item x ≡ false
no_break_first (char o b) h = h.break
no_break_first (whole f o bs) h = refl

line_break : (tables : ℕ) (start : Bool) (x : Item) (ls : List (List Item)) → is_break_item x ≡ true → (start ≡ true → OpensText (sign x))
    → All (IsText tables) ls → LinesText tables start ([] ∷ ls)
line_break tables true x ls e f h = let no : true ≡ false = sym e ∙ no_break_first x (f refl) in cc
line_break tables false x ls e f h = h

line_by : (t : Bool) (tables : ℕ) (start : Bool) (x : Item) (ls : List (List Item)) → is_break_item x ≡ t → (start ≡ true → OpensText (sign x))
    → LinesText tables t ls → LinesText tables start (if t then [] ∷ ls else onto (x ∷ []) ls)
line_by true tables start x ls e f h = line_break tables start x ls e f h
line_by false tables start x ls e f h = first_line tables start x ls f h

all_lines : (tables : ℕ) (start : Bool) (xs : List Item) → TextItems start xs → LinesText tables start (lines xs)
all_lines tables true [] h = cc
all_lines tables false [] h = All-nil (IsText tables)
all_lines tables start (x ∷ xs) h = line_by (is_break_item x) tables start x (lines xs) refl h.0 (all_lines tables (is_break_item x) xs h.1)

-- ---- the items of the words

and_first : (a b : Bool) → (a && b) ≡ true → a ≡ true
and_first true b e = refl
and_first false b e = cc

and_second : (a b : Bool) → (a && b) ≡ true → b ≡ true
and_second true b e = e
and_second false b e = cc

begins_if : (start m : Bool) → (not start || m) ≡ true → start ≡ true → m ≡ true
begins_if true m e i = e
begins_if false m e i = cc

weaker : (start : Bool) (bs : List ℕ) → are_text_lines start bs ≡ true → are_text_lines false bs ≡ true
weaker start [] h = refl
weaker start (b ∷ bs) h = and_second (not start || may_begin b) (are_text_lines (b == 10) bs) h

dropped : (start : Bool) (n : ℕ) (bs : List ℕ) → are_text_lines start bs ≡ true → are_text_lines false (drop n bs) ≡ true
dropped start zero bs h = weaker start bs h
dropped start (suc n) [] h = refl
dropped start (suc n) (b ∷ bs) h = dropped (b == 10) n bs (and_second (not start || may_begin b) (are_text_lines (b == 10) bs) h)

chars_text : (start : Bool) (n : ℕ) (bs : List ℕ) (rest : List Item) → are_text_lines start bs ≡ true → All IsByte (take n bs)
    → ((s : Bool) → are_text_lines s (drop n bs) ≡ true → TextItems s rest) → TextItems start (map (char None) (take n bs) ++ rest)
chars_text start zero bs rest h small f = f start h
chars_text start (suc n) [] rest h small f = f start h
chars_text start (suc n) (b ∷ bs) rest h small f = (
  λ i. opens_text b (All-head IsByte b (take n bs) small) (begins_if start (may_begin b) (and_first _ (are_text_lines (b == 10) bs) h) i),
  chars_text (b == 10) n bs rest (and_second (not start || may_begin b) (are_text_lines (b == 10) bs) h) (All-tail IsByte b (take n bs) small) f,
)

raw_text : (start t : Bool) (bs : List ℕ) (rest : List Item) → TextItems false rest
    → TextItems start (items_by (if t then form.Nowiki else form.Extension) None bs ++ rest)
raw_text start true bs rest h = (λ i. atom_opens, h)
raw_text start false bs rest h = (λ i. atom_opens, h)

raw_tag : (start : Bool) (o : Option Tag) (bs : List ℕ) (rest : List Item) → TextItems false rest
    → TextItems start (items_by (raw_form_by o) None bs ++ rest)
raw_tag start None bs rest h = (λ i. atom_opens, h)
raw_tag start (Some t) bs rest h = raw_text start (is_nowiki t.name) bs rest h

all_left : (xs ys : List ℕ) → All IsByte (xs ++ ys) → All IsByte xs
all_left [] ys h = All-nil IsByte
all_left (x ∷ xs) ys h = All-cons IsByte x xs (All-head IsByte x (xs ++ ys) h) (all_left xs ys (All-tail IsByte x (xs ++ ys) h))

all_right : (xs ys : List ℕ) → All IsByte (xs ++ ys) → All IsByte ys
all_right [] ys h = h
all_right (x ∷ xs) ys h = all_right xs ys (All-tail IsByte x (xs ++ ys) h)

-- what a word shows, and what is shown behind it
record Shows (o p : Option (List ℕ)) : Type 0 where
  now : List ℕ
  later : List ℕ
  first : o ≡ Some now
  rest : p ≡ Some later
  small : All IsByte now
  others : All IsByte later

shows_both : (o p : Option (List ℕ)) (t : List ℕ) → joined o p ≡ Some t → All IsByte t → Shows o p
shows_both None p t e h = cc
shows_both (Some bs) None t e h = cc
shows_both (Some bs) (Some cs) t e h =
    let is : t ≡ bs ++ cs = cc in
    let all = subst (λ xs. All IsByte xs) is h in
    record { now = bs; later = cs; first = refl; rest = refl; small = all_left bs cs all; others = all_right bs cs all }

-- the items of a word that shows something
word_text : (start : Bool) (kind : LexKind) (n : ℕ) (bs u : List ℕ) (rest : List Item) → are_text_lines start bs ≡ true
    → shown_by kind (take n bs) ≡ Some u → All IsByte u → ((s : Bool) → are_text_lines s (drop n bs) ≡ true → TextItems s rest)
    → TextItems start (items_of_word kind (take n bs) ++ rest)
word_text start Chars n bs u rest h e small f = let is : u ≡ take n bs = cc in chars_text start n bs rest h (subst (λ xs. All IsByte xs) is small) f
word_text start CommentLine n bs u rest h e small f = cc
word_text start Comment n bs u rest h e small f = cc
word_text start Raw n bs u rest h e small f = raw_tag start (opening_tag (take n bs)) (take n bs) rest (f false (dropped start n bs h))
word_text start Include n bs u rest h e small f = cc
word_text start Hidden n bs u rest h e small f = cc
word_text start (Entity c) n bs u rest h e small f = (λ i. atom_opens, f false (dropped start n bs h))
word_text start Opens n bs u rest h e small f = cc
word_text start Closes n bs u rest h e small f = cc
word_text start LinkOpen n bs u rest h e small f = cc
word_text start LinkClose n bs u rest h e small f = cc
word_text start Pipe n bs u rest h e small f = cc
word_text start Equals n bs u rest h e small f = let is : u ≡ take n bs = cc in chars_text start n bs rest h (subst (λ xs. All IsByte xs) is small) f

no_start : (s : Bool) → not s ≡ true → s ≡ false
no_start true i = cc
no_start false i = refl

words_text : (start after : Bool) (ws : List Word) (bs t : List ℕ) → AreLexemes Page after ws bs → are_text_lines start bs ≡ true
    → shown_words bs ws ≡ Some t → All IsByte t → TextItems start (items_of_words ws bs)
words_text start after [] bs t a h e small = no_start start (subst (λ cs. are_text_lines start cs ≡ true) a h)
words_text start after ((kind, n) ∷ ws) bs t a h e small =
    let s = shows_both (shown_by kind (take n bs)) (shown_words (drop n bs) ws) t e small in
    word_text start kind n bs s.now (items_of_words ws (drop n bs)) h s.first s.small
    (λ u g. words_text u (is_break (slice_index bs (n - 1))) ws (drop n bs) s.later a.4 g s.rest s.others)

pub lines_are_text : (s : Setting) (text : List ℕ) (tables : ℕ) → IsUtf8 text → s.within ≡ false
    → All (λ line. line_kind tables line ≡ kind.Text) (lines (page_items (spelled s (letters text))))
unfolding read_text page_items
lines_are_text s text tables u w =
    let bs = spelled s (letters text) in
    all_lines tables true (items_of_words (words Page bs) bs)
    (words_text true false (words Page bs) bs text (words_are Page bs) (text_lines s text w) (text_reads_back Page s text u) (utf8_bytes text u))
