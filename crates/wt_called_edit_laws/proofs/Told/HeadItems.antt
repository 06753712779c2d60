-- The items of a heading's line of a page, cut at its delimiters.
use Rattle.std.proofs.Common.{arith, ◌≡◌, ◌⊎◌, inl, inr, ℕ, zero, suc, ◌+◌, ◌<◌, ◌≤◌, Bool, true, false, not, Some, None, List, [], ◌∷◌, ◌++◌, length, take, drop, map, refl, sym, ap, ◌∙◌, subst, append_assoc, length-append, All, codes}
use Rattle.std.specs.Prelude.{if◌then◌else◌}
use Rattle.std.proofs.Math.Seq.{take-append_seam, drop-append_seam}
use Rattle.std.proofs.lemmas.Bool.{eqb-true}
use Rattle.std.proofs.lemmas.Bool.Decides.{nat_tests}
use Rattle.std.proofs.lemmas.List.{map-append, length-map}
use Rattle.std.proofs.lemmas.List.Elements.{All-head, All-tail}
use Rattle.std.proofs.lemmas.Grind.{flat_map-append}
use Rattle.wt_span.specs.declared.form.Mode.TheVariants.{Page}
use Rattle.wt_span.specs.Bytes.{is_blank, is_break, blank_len, begins}
use Rattle.wt_span.specs.Items.{Item, char, whole, call_of, is_mark_form, sign, source, sources}
use Rattle.wt_span.specs.Runs.{IsRun}
use Rattle.wt_lex.proofs.Begins.{begins_get}
use Rattle.wt_lines.specs.Kinds.{is_idle}
use Rattle.wt_lines.specs.Lines.{is_break_item, goes_on, content}
use Rattle.wt_expand.specs.PageItems.{page_items}
use Rattle.wt_expand.proofs.PageLaws.{char_sources, page_sources}
use Rattle.wt_part_laws.specs.Lexer.{lexer}
use Rattle.wt_part_laws.specs.Scans.{after_all}
use Rattle.wt_blocks.specs.Headings.{core, level_of, open_len, inside_len, level, opening, inside, closing}
use Rattle.wt_page.specs.Lines.{ending}
use Rattle.wt_page.specs.Rows.{signs}
use Rattle.wt_page.proofs.Ends.{content_ending}
use Rattle.wt_text_edit_laws.specs.LonePages.{page_chars}
use Rattle.wt_text_edit_laws.specs.PageCuts.{AreHeadingItems, EndsClosed}
use Rattle.wt_text_edit_laws.specs.TextBetween.{HasEnds}
use Rattle.wt_text_edit_laws.specs.TextBlocks.{a_heading, source_of}
use Rattle.wt_text_edit_laws.specs.TypedHeadings.{Sides, equals, AreBlanks, AreIdle, NoBreaks, IsHeadingInside}
use Rattle.wt_text_edit_laws.proofs.Between.Fronts.{items_from}
use Rattle.wt_text_edit_laws.proofs.Cuts.ItemCuts.{cut_from, page_cut}
use Rattle.wt_text_edit_laws.proofs.Paragraphs.LineBlocks.{OwnBreaks}
use Rattle.wt_text_edit_laws.proofs.Headings.HeadingRows.{inside_signs}
use Rattle.wt_text_edit_laws.proofs.Headings.HeadingSigns.{line_signs, body_signs, core_is, round, AreSeen, open_seen, inside_seen}
use Rattle.wt_beside_laws.proofs.Derived.BodyRead.{parts_are}
use Rattle.wt_called_edit_laws.specs.LinedHeadings.{blanks_behind, sides_of, text_of, IsLinedHeading}
use Rattle.wt_beside_laws.proofs.Derived.BlockContents.{BlockSeen}
use Rattle.wt_called_edit_laws.proofs.Cells.PlacedBlocks.{own_alone}
use Rattle.wt_called_edit_laws.proofs.Told.HeadLevels.{core_cut}
use Rattle.wt_called_edit_laws.proofs.Told.HeadParts.{LineCut, line_cut, parts_joined}
use Rattle.wt_called_edit_laws.proofs.Told.RestEnds.{NoLess, rest_ends}
use Rattle.wt_called_edit_laws.proofs.Told.Signs.{AllPass, pass_len, run_length}

-- ---- items cut where their signs are

abbrev first_or : ℕ → List ℕ → ℕ
first_or s [] = s
first_or s (t ∷ ts) = t

abbrev others : List ℕ → List ℕ
others [] = []
others (t ∷ ts) = ts

pub record SignsCut (xs : List Item) (ss ts : List ℕ) : Type 0 where
  pub front : List Item
  pub back : List Item
  pub is : xs ≡ front ++ back
  pub first : map sign front ≡ ss
  pub last : map sign back ≡ ts

pub signs_cut : (xs : List Item) (ss ts : List ℕ) → map sign xs ≡ ss ++ ts → SignsCut xs ss ts
signs_cut xs [] ts e = record { front = []; back = xs; is = refl; first = refl; last = e }
signs_cut [] (s ∷ ss) ts e = absurd (cc)
signs_cut (x ∷ xs) (s ∷ ss) ts e =
    let here : sign x ≡ s = ap (first_or s) e in
    let rest : map sign xs ≡ ss ++ ts = ap others e in
    let c = signs_cut xs ss ts rest in
    record {
      front = x ∷ c.front;
      back = c.back;
      is = ap (λ (ys : List Item). x ∷ ys) c.is;
      first = ap (λ (t : ℕ). t ∷ map sign c.front) here ∙ ap (λ (us : List ℕ). s ∷ us) c.first;
      last = c.last;
    }

-- ---- they are the page's own

abbrev pub AllOwn : List Item → Type 0
AllOwn [] = Unit {0}
AllOwn (x ∷ xs) = (call_of x ≡ None) × AllOwn xs

pub own_all : (xs : List Item) → All (λ x. call_of x ≡ None) xs → AllOwn xs
own_all [] h = tt
own_all (x ∷ xs) h = (All-head (λ x. call_of x ≡ None) x xs h, own_all xs (All-tail (λ x. call_of x ≡ None) x xs h))

pub own_front : (xs ys : List Item) → AllOwn (xs ++ ys) → AllOwn xs
own_front [] ys h = tt
own_front (x ∷ xs) ys h = (h.0, own_front xs ys h.1)

pub own_back : (xs ys : List Item) → AllOwn (xs ++ ys) → AllOwn ys
own_back [] ys h = h
own_back (x ∷ xs) ys h = own_back xs ys h.1

-- ---- characters by their signs

abbrev AreBytes : List ℕ → Type 0
AreBytes [] = Unit {0}
AreBytes (s ∷ ss) = (s < 256) × AreBytes ss

bytes_both : (ss ts : List ℕ) → AreBytes ss → AreBytes ts → AreBytes (ss ++ ts)
bytes_both [] ts h g = g
bytes_both (s ∷ ss) ts h g = (h.0, bytes_both ss ts h.1 g)

run_bytes : (n : ℕ) → AreBytes (equals n)
run_bytes zero = tt
run_bytes (suc n) = (omega arith, run_bytes n)

blank_byte : (b : ℕ) → is_blank b ≡ true → b < 256
blank_byte b e = grind (arith, nat_tests, e)

blank_bytes : (bs : List ℕ) → AreBlanks bs → AreBytes bs
blank_bytes [] h = tt
blank_bytes (b ∷ bs) h = (blank_byte b h.0, blank_bytes bs h.1)

form_sign : (v : Bool) → (if v then 257 else 256) < 256 → ⊥
form_sign true lt = omega (arith, lt)
form_sign false lt = omega (arith, lt)

byte_char : (x : Item) (s : ℕ) → sign x ≡ s → s < 256 → call_of x ≡ None → x ≡ char None s
byte_char (char None b) s e lt o = ap (char None) e
byte_char (char (Some k) b) s e lt o = absurd (cc)
byte_char (whole f o bs) s e lt c = absurd (form_sign (is_mark_form f) (subst (λ (t : ℕ). t < 256) (sym e) lt))

pub chars_are : (xs : List Item) (ss : List ℕ) → map sign xs ≡ ss → AreBytes ss → AllOwn xs → xs ≡ page_chars ss
chars_are [] [] e h o = refl
chars_are [] (s ∷ ss) e h o = absurd (cc)
chars_are (x ∷ xs) [] e h o = absurd (cc)
chars_are (x ∷ xs) (s ∷ ss) e h o =
    let here : sign x ≡ s = ap (first_or s) e in
    let rest : map sign xs ≡ ss = ap others e in
    ap (λ (y : Item). y ∷ xs) (byte_char x s here h.0 o.0) ∙ ap (λ (ys : List Item). char None s ∷ ys) (chars_are xs ss rest h.1 o.1)

-- ---- a line has no line break but its last

not_not : (v : Bool) → not v ≡ true → v ≡ false
not_not true e = cc
not_not false e = refl

pub line_unbroken : (l others : List Item) → IsRun goes_on l others → NoBreaks (content l)
line_unbroken [] others h = absurd h
line_unbroken (x ∷ []) others h = by (is_break_item x) refl
  where
    by : (v : Bool) → is_break_item x ≡ v → NoBreaks (if v then [] else x ∷ [])
    by true e = tt
    by false e = (e, tt)
line_unbroken (x ∷ y ∷ l) others h = (not_not (is_break_item x) h.0, line_unbroken (y ∷ l) others h.1)

unbroken_front : (xs ys : List Item) → NoBreaks (xs ++ ys) → NoBreaks xs
unbroken_front [] ys h = tt
unbroken_front (x ∷ xs) ys h = (h.0, unbroken_front xs ys h.1)

unbroken_back : (xs ys : List Item) → NoBreaks (xs ++ ys) → NoBreaks ys
unbroken_back [] ys h = h
unbroken_back (x ∷ xs) ys h = unbroken_back xs ys h.1

-- ---- its parts

-- by its items, where its delimiters end
record ItemsCut (xs : List Item) : Type 0 where
  front : List Item
  own : List Item
  back : List Item
  rest : List Item
  lead : List ℕ
  trail : List ℕ
  is : xs ≡ front ++ (own ++ (back ++ rest))
  front_signs : map sign front ≡ equals (level xs) ++ lead
  back_signs : map sign back ≡ trail ++ equals (level xs)
  rest_signs : AreIdle (map sign rest)
  lead_blanks : AreBlanks lead
  trail_blanks : AreBlanks trail
  seen : AreSeen (map sign own) trail
  some : 1 ≤ level xs
  most : level xs ≤ 6
  opened : open_len (core (map sign xs)) ≡ length front
  size : inside_len (core (map sign xs)) ≡ length own

size_of : (xs : List Item) (ss : List ℕ) → map sign xs ≡ ss → length xs ≡ length ss
size_of xs ss e = sym (length-map xs sign) ∙ ap length e

items_cut : (xs : List Item) → LineCut (map sign xs) → ItemsCut xs
unfolding level
items_cut xs c =
    let n : ℕ = level_of (core (map sign xs)) in
    let first = signs_cut xs (equals n ++ c.lead) (c.own ++ ((c.trail ++ equals n) ++ c.idle)) c.is in
    let second = signs_cut first.back c.own ((c.trail ++ equals n) ++ c.idle) first.last in
    let third = signs_cut second.back (c.trail ++ equals n) c.idle second.last in
    let front_size = size_of first.front (equals n ++ c.lead) first.first in
    record {
      front = first.front;
      own = second.front;
      back = third.front;
      rest = third.back;
      lead = c.lead;
      trail = c.trail;
      is = first.is ∙ ap (λ (ys : List Item). first.front ++ ys) (second.is ∙ ap (λ (ys : List Item). second.front ++ ys) third.is);
      front_signs = first.first;
      back_signs = third.first;
      rest_signs = subst AreIdle (sym third.last) c.idle_signs;
      lead_blanks = c.lead_blanks;
      trail_blanks = c.trail_blanks;
      seen = subst (λ (ss : List ℕ). AreSeen ss c.trail) (sym second.first) c.seen;
      some = c.some;
      most = c.most;
      opened = c.opened ∙ omega (arith, front_size, length-append (equals n) c.lead, run_length n);
      size = c.inside ∙ sym (size_of second.front c.own second.first);
    }

-- ---- the delimiters

opening_so : (xs : List Item) (c : ItemsCut xs) → opening xs ≡ c.front
unfolding opening
opening_so xs c =
    ap (λ (k : ℕ). take k xs) c.opened ∙ ap (take (length c.front)) c.is ∙ take-append_seam c.front (c.own ++ (c.back ++ c.rest))

inside_so : (xs : List Item) (c : ItemsCut xs) → inside xs ≡ c.own
unfolding inside
inside_so xs c =
    ap (λ (k : ℕ). take k (drop (open_len (core (map sign xs))) xs)) c.size
    ∙ ap (λ (k : ℕ). take (length c.own) (drop k xs)) c.opened
    ∙ ap (λ (ys : List Item). take (length c.own) (drop (length c.front) ys)) c.is
    ∙ ap (take (length c.own)) (drop-append_seam c.front (c.own ++ (c.back ++ c.rest)))
    ∙ take-append_seam c.own (c.back ++ c.rest)

closing_so : (xs : List Item) (c : ItemsCut xs) → closing xs ≡ c.back ++ c.rest
unfolding closing
closing_so xs c =
    let size : length c.front + length c.own ≡ length (c.front ++ c.own) = omega (arith, length-append c.front c.own) in
    ap (λ (k : ℕ). drop (k + inside_len (core (map sign xs))) xs) c.opened
    ∙ ap (λ (k : ℕ). drop (length c.front + k) xs) c.size
    ∙ ap (λ (k : ℕ). drop k xs) size
    ∙ ap (drop (length (c.front ++ c.own))) (c.is ∙ sym (append_assoc c.front c.own (c.back ++ c.rest)))
    ∙ drop-append_seam (c.front ++ c.own) (c.back ++ c.rest)

-- ---- its sides

run_unblank : (n : ℕ) (ts : List ℕ) → 1 ≤ n → blank_len (equals n ++ ts) ≡ 0
run_unblank zero ts le = absurd (omega (arith, le))
run_unblank (suc n) ts le = refl

blanks_pass : (bs : List ℕ) → AreBlanks bs → AllPass is_blank bs
blanks_pass [] h = tt
blanks_pass (b ∷ bs) h = (h.0, blanks_pass bs h.1)

closing_signs : (xs : List Item) (c : ItemsCut xs) → signs (closing xs) ≡ c.trail ++ (equals (level xs) ++ map sign c.rest)
closing_signs xs c =
    ap signs (closing_so xs c) ∙ map-append sign c.back c.rest ∙ ap (λ (ts : List ℕ). ts ++ map sign c.rest) c.back_signs
    ∙ append_assoc c.trail (equals (level xs)) (map sign c.rest)

blanks_so : (xs : List Item) (c : ItemsCut xs) → blanks_behind xs ≡ length c.trail
blanks_so xs c =
    ap blank_len (closing_signs xs c)
    ∙ pass_len is_blank c.trail (equals (level xs) ++ map sign c.rest) (blanks_pass c.trail c.trail_blanks) (run_unblank (level xs) (map sign c.rest) c.some)

lead_so : (xs : List Item) (c : ItemsCut xs) → drop (level xs) (signs (opening xs)) ≡ c.lead
lead_so xs c =
    ap (λ (ys : List Item). drop (level xs) (signs ys)) (opening_so xs c) ∙ ap (drop (level xs)) c.front_signs
    ∙ ap (λ (k : ℕ). drop k (equals (level xs) ++ c.lead)) (sym (run_length (level xs))) ∙ drop-append_seam (equals (level xs)) c.lead

trail_so : (xs : List Item) (c : ItemsCut xs) → take (blanks_behind xs) (signs (closing xs)) ≡ c.trail
trail_so xs c =
    ap (λ (k : ℕ). take k (signs (closing xs))) (blanks_so xs c) ∙ ap (take (length c.trail)) (closing_signs xs c)
    ∙ take-append_seam c.trail (equals (level xs) ++ map sign c.rest)

rest_so : (xs : List Item) (c : ItemsCut xs) → drop (blanks_behind xs + level xs) (closing xs) ≡ c.rest
rest_so xs c =
    let blanks = blanks_so xs c in
    let back_size = size_of c.back (c.trail ++ equals (level xs)) c.back_signs in
    let size : blanks_behind xs + level xs ≡ length c.back =
    omega (arith, blanks, back_size, length-append c.trail (equals (level xs)), run_length (level xs)) in
    ap (λ (k : ℕ). drop k (closing xs)) size ∙ ap (drop (length c.back)) (closing_so xs c) ∙ drop-append_seam c.back c.rest

abbrev sides_by : ℕ → List ℕ → List ℕ → List ℕ → Sides
sides_by n bs ds cs = record { level = n; lead = bs; trail = ds; rest = cs }

sides_so : (xs : List Item) (c : ItemsCut xs) → sides_of xs ≡ sides_by (level xs) c.lead c.trail (sources c.rest)
sides_so xs c =
    ap (λ (bs : List ℕ). sides_by (level xs) bs (take (blanks_behind xs) (signs (closing xs))) (sources (drop (blanks_behind xs + level xs) (closing xs)))) (lead_so xs c)
    ∙ ap (λ (bs : List ℕ). sides_by (level xs) c.lead bs (sources (drop (blanks_behind xs + level xs) (closing xs)))) (trail_so xs c)
    ∙ ap (λ (ys : List Item). sides_by (level xs) c.lead c.trail (sources ys)) (rest_so xs c)

-- ---- a line of the page

chars_front : (xs : List Item) (c : ItemsCut xs) → AllOwn xs → c.front ≡ page_chars (equals (level xs) ++ c.lead)
chars_front xs c own =
    chars_are c.front (equals (level xs) ++ c.lead) c.front_signs
    (bytes_both (equals (level xs)) c.lead (run_bytes (level xs)) (blank_bytes c.lead c.lead_blanks))
    (own_front c.front (c.own ++ (c.back ++ c.rest)) (subst AllOwn c.is own))

chars_back : (xs : List Item) (c : ItemsCut xs) → AllOwn xs → c.back ≡ page_chars (c.trail ++ equals (level xs))
chars_back xs c own =
    chars_are c.back (c.trail ++ equals (level xs)) c.back_signs
    (bytes_both c.trail (equals (level xs)) (blank_bytes c.trail c.trail_blanks) (run_bytes (level xs)))
    (own_front c.back c.rest (own_back c.own (c.back ++ c.rest) (own_back c.front (c.own ++ (c.back ++ c.rest)) (subst AllOwn c.is own))))

none_by : (xs : List Item) → map sign xs ≡ [] → xs ≡ []
none_by [] e = refl
none_by (x ∷ xs) e = cc

-- where no blank is first or last, or nothing is there
inside_by : (own : List Item) (trail : List ℕ) → NoBreaks own → AreSeen (map sign own) trail → IsHeadingInside own ⊎ ((own ≡ []) × (trail ≡ []))
inside_by own trail u (inl h) = inl (record { unbroken = u; begins = h.0; ends = h.1 })
inside_by own trail u (inr h) = inr (none_by own h.0, h.1)

heading_items : (xs : List Item) (c : ItemsCut xs) → AllOwn xs → NoBreaks xs → HasEnds (sources c.rest ++ 10 ∷ [])
    → AreHeadingItems (sides_by (level xs) c.lead c.trail (sources c.rest)) (sources c.own) xs
heading_items xs c own unbroken ends =
    let n : ℕ = level xs in
    let broken : NoBreaks (c.own ++ (c.back ++ c.rest)) = unbroken_back c.front (c.own ++ (c.back ++ c.rest)) (subst NoBreaks c.is unbroken) in
    record {
      own = c.own;
      rest = c.rest;
      is = c.is ∙ ap (λ (ys : List Item). ys ++ (c.own ++ (c.back ++ c.rest))) (chars_front xs c own)
          ∙ ap (λ (ys : List Item). page_chars (equals n ++ c.lead) ++ (c.own ++ (ys ++ c.rest))) (chars_back xs c own);
      source = refl;
      rest_source = refl;
      some = c.some;
      most = c.most;
      lead = c.lead_blanks;
      trail = c.trail_blanks;
      idle = c.rest_signs;
      ends = ends;
      inside = inside_by c.own c.trail (unbroken_front c.own (c.back ++ c.rest) broken) c.seen;
      of_level = refl;
    }

told_items : (xs : List Item) (c : ItemsCut xs) → AllOwn xs → NoBreaks xs → HasEnds (sources c.rest ++ 10 ∷ []) → AreHeadingItems (sides_of xs) (text_of xs) xs
told_items xs c own unbroken ends =
    let sides : sides_of xs ≡ sides_by (level xs) c.lead c.trail (sources c.rest) = sides_so xs c in
    let text : text_of xs ≡ sources c.own = ap sources (inside_so xs c) in
    subst (λ (s : Sides). AreHeadingItems s (text_of xs) xs) (sym sides)
    (subst (λ (q : List ℕ). AreHeadingItems (sides_by (level xs) c.lead c.trail (sources c.rest)) q xs) (sym text)
    (heading_items xs c own unbroken ends))

-- ---- behind its last `=`

idle_less : (xs : List Item) → AreIdle (map sign xs) → NoLess xs
idle_less [] h = tt
idle_less (x ∷ xs) h = ((λ z. let y : true ≡ false = sym h.0 ∙ ap is_idle z in cc), idle_less xs h.1)

after_joined : (bs cs : List ℕ) (a : Bool) → after_all (lexer Page) a (bs ++ cs) ≡ after_all (lexer Page) (after_all (lexer Page) a bs) cs
after_joined [] cs a = refl
after_joined (b ∷ bs) cs a = after_joined bs cs (is_break b)

run_after : (n : ℕ) (a : Bool) → 1 ≤ n → after_all (lexer Page) a (equals n) ≡ false
run_after zero a some = absurd (omega (arith, some))
run_after (suc zero) a some = refl
run_after (suc (suc n)) a some = run_after (suc n) false (omega arith)

-- what is before it ends with a `=`
back_after : (front : List ℕ) (n : ℕ) (trail : List ℕ) (back : List Item) → 1 ≤ n → back ≡ page_chars (trail ++ equals n)
    → after_all (lexer Page) false (front ++ sources back) ≡ false
back_after front n trail back some e =
    ap (λ (ys : List Item). after_all (lexer Page) false (front ++ sources ys)) e
    ∙ ap (λ (bs : List ℕ). after_all (lexer Page) false (front ++ bs)) (char_sources (trail ++ equals n))
    ∙ ap (after_all (lexer Page) false) (sym (append_assoc front trail (equals n)))
    ∙ after_joined (front ++ trail) (equals n) false
    ∙ run_after n (after_all (lexer Page) false (front ++ trail)) some

-- this is read behind it, before a line break
rest_read : (page : List ℕ) (before rest more : List Item) → page_items page ≡ before ++ (rest ++ char None 10 ∷ more)
    → after_all (lexer Page) false (sources before) ≡ false → items_from false 0 (sources rest ++ 10 ∷ []) ≡ rest ++ char None 10 ∷ []
rest_read page before rest more e flag =
    let break : List Item = char None 10 ∷ [] in
    let there : List Item = rest ++ char None 10 ∷ more in
    let page_is : page ≡ sources before ++ sources there =
    sym (page_sources page) ∙ ap sources e ∙ flat_map-append source before there in
    let first = page_cut (sources before) (sources there) before there (ap page_items (sym page_is) ∙ e) refl in
    let behind : items_from false 0 (sources there) ≡ there = sym (ap (λ (v : Bool). items_from v 0 (sources there)) flag) ∙ first.behind in
    let cut : there ≡ (rest ++ break) ++ more = sym (append_assoc rest break more) in
    let bytes : sources there ≡ sources (rest ++ break) ++ sources more = ap sources cut ∙ flat_map-append source (rest ++ break) more in
    let all : items_from false 0 (sources (rest ++ break) ++ sources more) ≡ (rest ++ break) ++ more =
    ap (items_from false 0) (sym bytes) ∙ behind ∙ cut in
    let second = cut_from false (sources (rest ++ break)) (sources more) (rest ++ break) more all refl in
    ap (items_from false 0) (sym (flat_map-append source rest break)) ∙ second.front

items_end : (page : List ℕ) (before xs more : List Item) (c : ItemsCut xs) → AllOwn xs → page_items page ≡ before ++ (xs ++ char None 10 ∷ more)
    → HasEnds (sources c.rest ++ 10 ∷ [])
items_end page before xs more c own e =
    let tail : List Item = char None 10 ∷ more in
    let front : List Item = before ++ (c.front ++ c.own) in
    let there : page_items page ≡ (front ++ c.back) ++ (c.rest ++ tail) =
    e ∙ ap (λ (ys : List Item). before ++ (ys ++ tail)) c.is
    ∙ ap (λ (ys : List Item). before ++ ys) (append_assoc c.front (c.own ++ (c.back ++ c.rest)) tail
    ∙ ap (λ (ys : List Item). c.front ++ ys) (append_assoc c.own (c.back ++ c.rest) tail ∙ ap (λ (ys : List Item). c.own ++ ys) (append_assoc c.back c.rest tail))
    ∙ sym (append_assoc c.front c.own (c.back ++ (c.rest ++ tail))))
    ∙ sym (append_assoc before (c.front ++ c.own) (c.back ++ (c.rest ++ tail)))
    ∙ sym (append_assoc front c.back (c.rest ++ tail)) in
    let flag : after_all (lexer Page) false (sources (front ++ c.back)) ≡ false =
    ap (after_all (lexer Page) false) (flat_map-append source front c.back)
    ∙ back_after (sources front) (level xs) c.trail c.back c.some (chars_back xs c own) in
    rest_ends (sources c.rest) c.rest (rest_read page (front ++ c.back) c.rest more there flag) refl (idle_less c.rest c.rest_signs)

-- ---- what ends the line

true_by : (v : Bool) → not v ≡ false → v ≡ true
true_by true e = refl
true_by false e = cc

-- a line break of the page's own, or no item is behind the line
pub line_end : (l others : List Item) → IsRun goes_on l others → OwnBreaks l → (ending l ≡ char None 10 ∷ []) ⊎ (ending l ++ others ≡ [])
line_end [] others h o = absurd h
line_end (x ∷ []) others h o = by (is_break_item x) refl others h
  where
    by : (v : Bool) → is_break_item x ≡ v → (ys : List Item) → IsRun goes_on (x ∷ []) ys
        → ((if v then x ∷ [] else []) ≡ char None 10 ∷ []) ⊎ ((if v then x ∷ [] else []) ++ ys ≡ [])
    by true e ys h = inl (ap (λ (z : Item). z ∷ []) (o.0 e))
    by false e [] h = inr refl
    by false e (y ∷ ys) h = let z : true ≡ false = sym (true_by (is_break_item x) h) ∙ e in absurd (cc)
line_end (x ∷ y ∷ l) others h o = line_end (y ∷ l) others h.1 o.1

-- the first sign is that of the content
pub begins_content : (l : List Item) → begins (codes "=") (signs l) ≡ true → begins (codes "=") (signs (content l)) ≡ true
begins_content [] e = e
begins_content (x ∷ []) e = by x e
  where
    by : (y : Item) → begins (codes "=") (signs (y ∷ [])) ≡ true → begins (codes "=") (signs (if is_break_item y then [] else y ∷ [])) ≡ true
    by (whole f o bs) h = h
    by (char o b) h = kept (is_break_item (char o b)) refl
      where
        kept : (v : Bool) → is_break_item (char o b) ≡ v → begins (codes "=") (signs (if v then [] else char o b ∷ [])) ≡ true
        kept false f = h
        kept true f =
            let ten : b ≡ 10 = eqb-true b 10 f in
            let equal : b ≡ 61 = begins_get (codes "=") (b ∷ []) h 0 (omega arith) in
            absurd (omega (arith, ten, equal))
begins_content (x ∷ y ∷ l) e = e

cut_line : (n : ℕ) (l : List Item) → IsLinedHeading n l → ItemsCut (content l)
cut_line n l h = items_cut (content l) (line_cut (map sign (content l)) (core_cut n (map sign (content l)) (begins_content l h.first) h.is_heading))

-- it is its source, with its sides and its text
pub told_source : (n : ℕ) (l : List Item) → IsLinedHeading n l → AllOwn l → source_of (a_heading (sides_of (content l))) (text_of (content l)) ≡ sources (content l)
told_source n l h own =
    let xs : List Item = content l in
    let c : ItemsCut xs = cut_line n l h in
    let mine : AllOwn xs = own_front xs (ending l) (subst AllOwn (sym (content_ending l)) own) in
    let k : ℕ = level xs in
    let o : List ℕ = equals k ++ c.lead in
    let b : List ℕ = c.trail ++ equals k in
    let r : List ℕ = sources c.rest in
    let q : List ℕ = sources c.own in
    let cut : sources xs ≡ o ++ (q ++ (b ++ r)) =
    ap sources c.is ∙ flat_map-append source c.front (c.own ++ (c.back ++ c.rest))
    ∙ ap (λ (bs : List ℕ). sources c.front ++ bs) (flat_map-append source c.own (c.back ++ c.rest)
    ∙ ap (λ (bs : List ℕ). q ++ bs) (flat_map-append source c.back c.rest))
    ∙ ap (λ (ys : List Item). sources ys ++ (q ++ (sources c.back ++ r))) (chars_front xs c mine)
    ∙ ap (λ (bs : List ℕ). bs ++ (q ++ (sources c.back ++ r))) (char_sources o)
    ∙ ap (λ (ys : List Item). o ++ (q ++ (sources ys ++ r))) (chars_back xs c mine)
    ∙ ap (λ (bs : List ℕ). o ++ (q ++ (bs ++ r))) (char_sources b) in
    let s : Sides = sides_by k c.lead c.trail r in
    ap (λ (t : Sides). source_of (a_heading t) (text_of xs)) (sides_so xs c)
    ∙ ap (λ (t : List ℕ). source_of (a_heading s) t) (ap sources (inside_so xs c))
    ∙ ap (λ (bs : List ℕ). o ++ (q ++ bs)) (sym (append_assoc c.trail (equals k) r))
    ∙ sym cut

form_equals : (v : Bool) → ◌≡◌ {A = ℕ} (if v then 257 else 256) 61 → ⊥
form_equals true e = omega (arith, e)
form_equals false e = omega (arith, e)

-- something is shown first
pub equals_seen : (xs : List Item) → begins (codes "=") (signs xs) ≡ true → BlockSeen xs
equals_seen [] e = absurd (cc)
equals_seen (char o b ∷ xs) e =
    let equal : b ≡ 61 = begins_get (codes "=") (b ∷ signs xs) e 0 (omega arith) in
    subst (λ (c : ℕ). BlockSeen (char o c ∷ xs)) (sym equal) (record { seen = refl; unled = refl })
equals_seen (whole f o bs ∷ xs) e = absurd (form_equals (is_mark_form f) (begins_get (codes "=") (sign (whole f o bs) ∷ signs xs) e 0 (omega arith)))

-- A line of a page, before these items of it: where none is behind the line, it holds no mark that nothing ends.
pub lined_heading : (n : ℕ) (page : List ℕ) (before l behind others : List Item) → page_items page ≡ before ++ (l ++ behind) → IsRun goes_on l others → AllOwn l
    → OwnBreaks l → IsLinedHeading n l → (ending l ++ others ≡ [] → EndsClosed (sources (content l)) [])
    → AreHeadingItems (sides_of (content l)) (text_of (content l)) (content l)
lined_heading n page before l behind others e run own breaks h closed = by (line_end l others run breaks)
  where
    xs : List Item
    xs = content l

    c : ItemsCut xs
    c = cut_line n l h

    mine : AllOwn xs
    mine = own_front xs (ending l) (subst AllOwn (sym (content_ending l)) own)

    there : page_items page ≡ before ++ (xs ++ (ending l ++ behind))
    there =
        e ∙ ap (λ (ys : List Item). before ++ (ys ++ behind)) (sym (content_ending l))
        ∙ ap (λ (ys : List Item). before ++ ys) (append_assoc xs (ending l) behind)

    told : HasEnds (sources c.rest ++ 10 ∷ []) → AreHeadingItems (sides_of xs) (text_of xs) xs
    told ends = told_items xs c mine (line_unbroken l others run) ends

    alone : page_items (sources xs) ≡ xs
    alone =
        own_alone before xs (ending l ++ behind) (ap page_items (parts_are page before xs (ending l ++ behind) there) ∙ there)
        (equals_seen xs (begins_content l h.first))

    by : (ending l ≡ char None 10 ∷ []) ⊎ (ending l ++ others ≡ []) → AreHeadingItems (sides_of xs) (text_of xs) xs
    by (inl f) = told (items_end page before xs behind c mine (there ∙ ap (λ (ys : List Item). before ++ (xs ++ (ys ++ behind))) f))
    by (inr f) =
        told (items_end (sources xs ++ 10 ∷ []) [] xs [] c mine (closed f ∙ ap (λ (ys : List Item). ys ++ char None 10 ∷ []) alone))

-- ---- no other sides are a line's

chars_signs : (bs : List ℕ) → map sign (page_chars bs) ≡ bs
chars_signs [] = refl
chars_signs (b ∷ bs) = ap (λ (ss : List ℕ). b ∷ ss) (chars_signs bs)

body_line : (n : ℕ) (ts cs : List ℕ) → body_signs n ts ++ cs ≡ line_signs n ts cs
body_line n ts cs = append_assoc (equals n) (ts ++ equals n) cs ∙ ap (λ (us : List ℕ). equals n ++ us) (append_assoc ts (equals n) cs)

abbrev line_of : ℕ → List ℕ → List ℕ → List Item → List Item → List Item
line_of n lead trail own rest = page_chars (equals n ++ lead) ++ (own ++ (page_chars (trail ++ equals n) ++ rest))

line_of_signs : (n : ℕ) (lead trail : List ℕ) (own rest : List Item)
    → map sign (line_of n lead trail own rest) ≡ line_signs n (round lead (map sign own) trail) (map sign rest)
line_of_signs n lead trail own rest =
    let back : List Item = page_chars (trail ++ equals n) in
    map-append sign (page_chars (equals n ++ lead)) (own ++ (back ++ rest))
    ∙ ap (λ (ts : List ℕ). ts ++ map sign (own ++ (back ++ rest))) (chars_signs (equals n ++ lead))
    ∙ ap (λ (ts : List ℕ). (equals n ++ lead) ++ ts) (map-append sign own (back ++ rest)
    ∙ ap (λ (ts : List ℕ). map sign own ++ ts) (map-append sign back rest ∙ ap (λ (ts : List ℕ). ts ++ map sign rest) (chars_signs (trail ++ equals n))))
    ∙ sym (parts_joined n lead (map sign own) trail (map sign rest))
    ∙ body_line n (round lead (map sign own) trail) (map sign rest)

cut_by : (n : ℕ) (lead trail : List ℕ) (own rest xs : List Item) → xs ≡ line_of n lead trail own rest → level xs ≡ n → 1 ≤ n → n ≤ 6
    → AreBlanks lead → AreBlanks trail → AreIdle (map sign rest) → AreSeen (map sign own) trail → ItemsCut xs
unfolding level
cut_by zero lead trail own rest xs is lv one six bl bt idle seen = absurd (omega (arith, one))
cut_by (suc m) lead trail own rest xs is lv one six bl bt idle seen =
    let n : ℕ = suc m in
    let ss : List ℕ = map sign own in
    let ts : List ℕ = round lead ss trail in
    let body : core (map sign xs) ≡ body_signs n ts =
    ap (λ (ys : List Item). core (map sign ys)) is ∙ ap core (line_of_signs n lead trail own rest) ∙ core_is m ts (map sign rest) idle in
    let same : level_of (body_signs n ts) ≡ n = sym (ap level_of body) ∙ lv in
    let size : n + length lead ≡ length (page_chars (equals n ++ lead)) =
    omega (arith, length-map (equals n ++ lead) (char None), run_length n, length-append (equals n) lead) in
    record {
      front = page_chars (equals n ++ lead);
      own = own;
      back = page_chars (trail ++ equals n);
      rest = rest;
      lead = lead;
      trail = trail;
      is = is;
      front_signs = chars_signs (equals n ++ lead) ∙ ap (λ (k : ℕ). equals k ++ lead) (sym lv);
      back_signs = chars_signs (trail ++ equals n) ∙ ap (λ (k : ℕ). trail ++ equals k) (sym lv);
      rest_signs = idle;
      lead_blanks = bl;
      trail_blanks = bt;
      seen = seen;
      some = subst (λ (k : ℕ). 1 ≤ k) (sym lv) one;
      most = subst (λ (k : ℕ). k ≤ 6) (sym lv) six;
      opened = ap open_len body ∙ open_seen n lead ss trail same bl seen ∙ size;
      size = ap inside_len body ∙ inside_seen n lead ss trail same bl bt seen ∙ length-map own sign;
    }

-- by its parts, of which the level is told
told_by : (n : ℕ) (lead trail : List ℕ) (own rest xs : List Item) → xs ≡ line_of n lead trail own rest → level xs ≡ n → 1 ≤ n → n ≤ 6
    → AreBlanks lead → AreBlanks trail → AreIdle (map sign rest) → AreSeen (map sign own) trail
    → (sides_of xs ≡ sides_by n lead trail (sources rest)) × (text_of xs ≡ sources own)
unfolding cut_by
told_by zero lead trail own rest xs is lv one six bl bt idle seen = absurd (omega (arith, one))
told_by (suc m) lead trail own rest xs is lv one six bl bt idle seen =
    let c : ItemsCut xs = cut_by (suc m) lead trail own rest xs is lv one six bl bt idle seen in
    (sides_so xs c ∙ ap (λ (n : ℕ). sides_by n lead trail (sources rest)) lv, ap sources (inside_so xs c))

pub told_only : (s : Sides) (q : List ℕ) (xs : List Item) → AreHeadingItems s q xs → (sides_of xs ≡ s) × (text_of xs ≡ q)
told_only s q xs h =
    let t = told_by s.level s.lead s.trail h.own h.rest xs h.is h.of_level h.some h.most h.lead h.trail h.idle (inside_signs s h.own h.inside) in
    (t.0 ∙ ap (λ (bs : List ℕ). sides_by s.level s.lead s.trail bs) h.rest_source, t.1 ∙ h.source)
