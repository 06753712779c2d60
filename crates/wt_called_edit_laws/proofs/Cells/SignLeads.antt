-- What is before a block on its first line: marks, or the sign of a table's end and marks behind it. The block is led to by it, and stays text behind it.
use Rattle.std.proofs.Common.{arith, ◌≡◌, ◌≤◌, ◌⊎◌, inl, inr, ℕ, Bool, true, false, List, [], ◌∷◌, ◌++◌, length, map, All, refl, sym, ap, ◌∙◌, subst, append-nil, append_assoc, length-append, codes}
use Rattle.std.specs.Prelude.{◌&&◌, ◌||◌, ◌==◌, not, if◌then◌else◌}
use Rattle.std.specs.List.{list_all}
use Rattle.std.proofs.lemmas.Bool.Decides.{nat_tests}
use Rattle.std.proofs.lemmas.Grind.{flat_map-append}
use Rattle.std.proofs.lemmas.List.Elements.{All-cons}
use Rattle.wt_span.specs.Bytes.{is_blank}
use Rattle.wt_span.specs.Items.{Item, char, whole as form_of, is_mark_form, is_mark, sign, source, sources}
use Rattle.wt_lines.specs.declared.kind.LineKind.TheVariants as line
use Rattle.wt_lines.specs.Kinds.{line_kind}
use Rattle.wt_lines.specs.Lines.{full_lines, lines, content, empty_end}
use Rattle.wt_page.specs.Rows.{Row, marks_len}
use Rattle.wt_tables.specs.Parts.{joined}
use Rattle.wt_expand.specs.PageItems.{page_items}
use Rattle.wt_part_laws.specs.Slots.{AllTrue}
use Rattle.wt_text_edit_laws.specs.PageCuts.{AreTextItems, AreBlockItems}
use Rattle.wt_text_edit_laws.specs.ParagraphBetween.{written_rows, tables_behind, before_marks}
use Rattle.wt_text_edit_laws.specs.Paragraphs.{IsSeenLine}
use Rattle.wt_text_edit_laws.specs.SignParts.{is_sign_end, ends_unopened, AreSigned, IsLedTo}
use Rattle.wt_text_edit_laws.specs.TextBetween.{EndsBy, is_end, AreEnded}
use Rattle.wt_text_edit_laws.specs.TextBlocks.{TextBlock, a_paragraph, a_heading}
use Rattle.wt_text_edit_laws.specs.TypedHeadings.{AreBlanks}
use Rattle.wt_text_edit_laws.proofs.Cuts.ItemCuts.{HaveBytes}
use Rattle.wt_text_edit_laws.proofs.Cuts.TextLines.{no_marks_end, content_lines}
use Rattle.wt_text_edit_laws.proofs.Paragraphs.Joining.{lines_join}
use Rattle.wt_text_edit_laws.proofs.Paragraphs.SeenLines.{texts_seen}
use Rattle.wt_beside_laws.specs.OpenEnds.{MarksEnd}
use Rattle.wt_beside_laws.proofs.Derived.BlockContents.{block_seen}
use Rattle.wt_beside_laws.proofs.Own.OpenEnds.{marks_behind, marks_ended as page_marks_ended}
use Rattle.wt_called_edit_laws.specs.AnyBlocks.{open_after, rows_of_part, EndsFor, LeadsInto}
use Rattle.wt_called_edit_laws.specs.CalledContents.{StayText}
use Rattle.wt_called_edit_laws.specs.LinedCalling.{LinesOf}
use Rattle.wt_called_edit_laws.specs.PlacedLines.{OwnLined}
use Rattle.wt_called_edit_laws.specs.SignLines.{front_lines, IsSignFor, IsApartFrom, AreLinesOn}
use Rattle.wt_called_edit_laws.specs.StaysIn.{StaysIn}
use Rattle.wt_called_edit_laws.specs.TableEnds.{is_idle_item, AreIdleItems, IsEndSign, IsTableEnd, IsEndFor, AreLater, LaterText}
use Rattle.wt_called_edit_laws.proofs.Cells.PlacedBlocks.{texts_at, own_lines, own_alone, stays_so}
use Rattle.wt_called_edit_laws.proofs.Cells.SignRows.{sign_alone}

-- ---- marks behind items don't count as theirs

all_off : (xs ms : List Item) → list_all is_mark ms ≡ true → list_all is_mark (xs ++ ms) ≡ list_all is_mark xs
all_off [] ms e = e
all_off (x ∷ xs) ms e = ap (λ (v : Bool). is_mark x && v) (all_off xs ms e)

marks_off : (xs ms : List Item) → list_all is_mark ms ≡ true → before_marks (xs ++ ms) ≡ before_marks xs
marks_off [] [] e = refl
marks_off [] (m ∷ ms) e = ap (λ (v : Bool). if v then [] else m ∷ before_marks ms) e
marks_off (x ∷ xs) ms e =
    ap (λ (v : Bool). if v then [] else x ∷ before_marks (xs ++ ms)) (all_off (x ∷ xs) ms e)
    ∙ ap (λ (ys : List Item). if list_all is_mark (x ∷ xs) then [] else x ∷ ys) (marks_off xs ms e)

front_off : (ls : List (List Item)) (ms : List Item) → list_all is_mark ms ≡ true → empty_end (joined ls) ≡ [] ∷ [] → before_marks (joined ls ++ ms) ≡ joined ls
front_off ls ms all whole = marks_off (joined ls) ms all ∙ no_marks_end (joined ls) whole

-- where the last item is no mark, none is at the end
and_false : (v : Bool) → (v && false) ≡ false
and_false true = refl
and_false false = refl

none_all : (xs : List Item) (y : Item) → is_mark y ≡ false → list_all is_mark (xs ++ y ∷ []) ≡ false
none_all [] y e = ap (λ (v : Bool). v && true) e
none_all (x ∷ xs) y e = ap (λ (v : Bool). is_mark x && v) (none_all xs y e) ∙ and_false (is_mark x)

end_off : (xs : List Item) (y : Item) → is_mark y ≡ false → before_marks (xs ++ y ∷ []) ≡ xs ++ y ∷ []
end_off [] y e = ap (λ (v : Bool). if v then [] else y ∷ []) (none_all [] y e)
end_off (x ∷ xs) y e =
    ap (λ (v : Bool). if v then [] else x ∷ before_marks (xs ++ y ∷ [])) (none_all (x ∷ xs) y e) ∙ ap (λ (ys : List Item). x ∷ ys) (end_off xs y e)

brace_unmarked : (y : Item) → sign y ≡ 125 → is_mark y ≡ false
brace_unmarked (char o b) e = refl
brace_unmarked (form_of f o bs) e = by (is_mark_form f) e
  where
    by : (v : Bool) → ◌≡◌ {A = ℕ} (if v then 257 else 256) 125 → v ≡ false
    by true z = absurd (omega (arith, z))
    by false z = refl

sign_off : (front l ms : List Item) → IsEndSign l → list_all is_mark ms ≡ true → before_marks (front ++ (l ++ ms)) ≡ front ++ l
sign_off front l ms h all =
    let most : List Item = front ++ (h.lead ++ h.bar ∷ []) in
    let is : front ++ l ≡ most ++ h.brace ∷ [] =
    ap (λ (ys : List Item). front ++ ys) (h.is ∙ sym (append_assoc h.lead (h.bar ∷ []) (h.brace ∷ [])))
    ∙ sym (append_assoc front (h.lead ++ h.bar ∷ []) (h.brace ∷ [])) in
    ap before_marks (sym (append_assoc front l ms)) ∙ marks_off (front ++ l) ms all
    ∙ ap before_marks is ∙ end_off most h.brace (brace_unmarked h.brace h.is_brace) ∙ sym is

-- ---- the lines before a block, and the sign

front_is : (k : TextBlock) (n : ℕ) (ls : List (List Item)) (sign ms : List Item) → list_all is_mark ms ≡ true → IsSignFor k n ls sign → full_lines (joined ls) ≡ ls
    → empty_end (joined ls) ≡ [] ∷ [] → full_lines (before_marks (joined ls ++ (sign ++ ms))) ≡ front_lines ls sign
front_is k n ls [] ms all h are whole = ap full_lines (front_off ls ms all whole) ∙ are
front_is a_paragraph n ls (x ∷ xs) ms all h are whole =
    ap full_lines (sign_off (joined ls) (x ∷ xs) ms h.0 all) ∙ lines_join (joined ls) (x ∷ xs) whole
    ∙ ap (λ (ks : List (List Item)). full_lines (joined ls) ++ ks) (sign_alone (x ∷ xs) h.0) ∙ ap (λ (ks : List (List Item)). ks ++ (x ∷ xs) ∷ []) are
front_is (a_heading s) n ls (x ∷ xs) ms all h are whole = absurd h

pub rows_by : (bs : List Bool) (k : TextBlock) (ls : List (List Item)) (sign ms : List Item) → list_all is_mark ms ≡ true → IsSignFor k (length bs) ls sign
    → full_lines (joined ls) ≡ ls → empty_end (joined ls) ≡ [] ∷ [] → rows_of_part bs (joined ls ++ (sign ++ ms)) ≡ written_rows (length bs) (front_lines ls sign)
rows_by bs k ls sign ms all h are whole = ap (written_rows (length bs)) (front_is k (length bs) ls sign ms all h are whole)

sign_end : (n : ℕ) (ls : List (List Item)) (sign ms : List Item) → list_all is_mark ms ≡ true → IsEndSign sign → 1 ≤ tables_behind n ls → full_lines (joined ls) ≡ ls
    → empty_end (joined ls) ≡ [] ∷ [] → IsTableEnd n (before_marks (joined ls ++ (sign ++ ms)))
sign_end n ls sign ms all h some are whole = record {
  front = joined ls;
  last = sign;
  is = sign_off (joined ls) sign ms h all;
  whole = whole;
  end = h;
  tables = subst (λ (ks : List (List Item)). 1 ≤ tables_behind n ks) (sym are) some;
}

lead_whole : (k : TextBlock) (n : ℕ) (ls : List (List Item)) (sign ms : List Item) → list_all is_mark ms ≡ true → IsSignFor k n ls sign → full_lines (joined ls) ≡ ls
    → empty_end (joined ls) ≡ [] ∷ []
    → (empty_end (before_marks (joined ls ++ (sign ++ ms))) ≡ [] ∷ []) ⊎ IsEndFor k n (before_marks (joined ls ++ (sign ++ ms)))
lead_whole k n ls [] ms all h are whole = inl (subst (λ (xs : List Item). empty_end xs ≡ [] ∷ []) (sym (front_off ls ms all whole)) whole)
lead_whole a_paragraph n ls (x ∷ xs) ms all h are whole = inr (sign_end n ls (x ∷ xs) ms all h.0 h.1 are whole)
lead_whole (a_heading s) n ls (x ∷ xs) ms all h are whole = absurd h

pub leads_by : (k : TextBlock) (bs : List Bool) (ls : List (List Item)) (sign ms : List Item) → list_all is_mark ms ≡ true → IsSignFor k (length bs) ls sign
    → full_lines (joined ls) ≡ ls → empty_end (joined ls) ≡ [] ∷ [] → AllTrue (open_after bs (written_rows (length bs) (front_lines ls sign)))
    → EndsFor k (written_rows (length bs) (front_lines ls sign)) → LeadsInto k bs (joined ls ++ (sign ++ ms))
leads_by k bs ls sign ms all h are whole cells apart =
    let same : rows_of_part bs (joined ls ++ (sign ++ ms)) ≡ written_rows (length bs) (front_lines ls sign) = rows_by bs k ls sign ms all h are whole in
    record {
      whole = lead_whole k (length bs) ls sign ms all h are whole;
      in_cells = subst (λ (rs : List Row). AllTrue (open_after bs rs)) (sym same) cells;
      apart = subst (EndsFor k) (sym same) apart;
    }

-- ---- its own lines

-- each is text, or behind a sign each but the first
abbrev pub StaysOn : List Item → TextBlock → ℕ → List Item → Type 0
StaysOn [] k n own = StayText k n own
StaysOn (x ∷ xs) k n own = LaterText k n own

pub stays_by : (k : TextBlock) (bs : List Bool) (ls : List (List Item)) (sign ms own : List Item) → list_all is_mark ms ≡ true → IsSignFor k (length bs) ls sign
    → full_lines (joined ls) ≡ ls → empty_end (joined ls) ≡ [] ∷ [] → StaysOn sign k (length (open_after bs (written_rows (length bs) (front_lines ls sign)))) own
    → StaysIn k bs (joined ls ++ (sign ++ ms)) own
stays_by k bs ls [] ms own all h are whole s =
    inl (subst (λ (rs : List Row). StayText k (length (open_after bs rs)) own) (sym (rows_by bs k ls [] ms all h are whole)) s)
stays_by a_paragraph bs ls (x ∷ xs) ms own all h are whole s =
    inr (
      sign_end (length bs) ls (x ∷ xs) ms all h.0 h.1 are whole,
      subst (λ (rs : List Row). LaterText a_paragraph (length (open_after bs rs)) own) (sym (rows_by bs a_paragraph ls (x ∷ xs) ms all h are whole)) s,
    )
stays_by (a_heading t) bs ls (x ∷ xs) ms own all h are whole s = absurd h

pub record SignLines (n : ℕ) (ps : List Item) : Type 0 where
  pub items : marks_len (content ps) ≡ 0 → AreTextItems (sources (content ps)) (content ps)
  pub stays : AreLater n (lines (content ps))

pub sign_lines : (n : ℕ) (x : Item) (xs ps : List Item) (ts : List (List Item)) (y : Item) (ys : List Item) → ps ≡ y ∷ ys → full_lines ps ≡ ts → AreLinesOn (x ∷ xs) n ts
    → SignLines n ps
sign_lines n x xs [] ts y ys is e h = cc
sign_lines n x xs (p ∷ ps) [] y ys is e h = absurd h
sign_lines n x xs (p ∷ ps) (t ∷ ts) y ys is e h =
    let own : lines (content (p ∷ ps)) ≡ content t ∷ map content ts = content_lines p ps ∙ ap (map content) e in
    let texts : All (λ (l : List Item). line_kind n l ≡ line.Text) (map content ts) = texts_at n ts h.1 in
    let seen : All IsSeenLine (content t ∷ map content ts) = All-cons IsSeenLine (content t) (map content ts) h.0 (texts_seen n (map content ts) texts) in
    record {
      items = λ m. record { source = refl; seen = subst (All IsSeenLine) (sym own) seen; unled = m };
      stays = subst (AreLater n) (sym own) texts;
    }

pub lines_stay : (sign : List Item) (k : TextBlock) (m : ℕ) (before : List (List Item)) (n : ℕ) (ts : List (List Item)) (y : Item) (ys : List Item) → joined ts ≡ y ∷ ys
    → full_lines (joined ts) ≡ ts → IsSignFor k m before sign → LinesOf sign k n ts → StaysOn sign k n (content (joined ts))
lines_stay [] a_paragraph m before n ts y ys is e g h = let told = own_lines n (joined ts) ts y ys is e h in told.stays
lines_stay [] (a_heading s) m before n ts y ys is e g h = tt
lines_stay (x ∷ xs) a_paragraph m before n ts y ys is e g h = let told = sign_lines n x xs (joined ts) ts y ys is e h in told.stays
lines_stay (x ∷ xs) (a_heading s) m before n ts y ys is e g h = absurd g

pub own_block : (k : TextBlock) (m : ℕ) (before : List (List Item)) (sign : List Item) (n : ℕ) (q : List ℕ) (ts : List (List Item)) (y : Item) (ys : List Item)
    → joined ts ≡ y ∷ ys → full_lines (joined ts) ≡ ts → IsSignFor k m before sign → OwnLined sign k n q ts
    → AreBlockItems k q (content (joined ts)) × StaysOn sign k n (content (joined ts))
own_block a_paragraph m before [] n q ts y ys is e g h =
    let told = own_lines n (joined ts) ts y ys is e h.0 in
    (subst (λ (bs : List ℕ). AreTextItems bs (content (joined ts))) h.2 (told.items h.1), told.stays)
own_block a_paragraph m before (x ∷ xs) n q ts y ys is e g h =
    let told = sign_lines n x xs (joined ts) ts y ys is e h.0 in
    (subst (λ (bs : List ℕ). AreTextItems bs (content (joined ts))) h.2 (told.items h.1), told.stays)
own_block (a_heading s) m before [] n q ts y ys is e g h = (h, tt)
own_block (a_heading s) m before (x ∷ xs) n q ts y ys is e g h = absurd g

pub stays_on : (sign : List Item) (k : TextBlock) (n : ℕ) (q : List ℕ) (before own rest : List Item) → AreBlockItems k q own
    → page_items (sources before ++ (sources own ++ sources rest)) ≡ before ++ (own ++ rest) → StaysOn sign k n own → StaysOn sign k n (page_items q)
stays_on [] k n q before own rest h e s = stays_so k n q before own rest h e s
stays_on (x ∷ xs) a_paragraph n q before own rest h e s =
    let alone : page_items q ≡ own = ap page_items (sym h.source) ∙ own_alone before own rest e (block_seen a_paragraph q own h) in
    subst (λ (ys : List Item). LaterText a_paragraph n ys) (sym alone) s
stays_on (x ∷ xs) (a_heading t) n q before own rest h e s = absurd s

-- ---- bytes before it

pub have_front : (xs ys : List Item) → HaveBytes (xs ++ ys) → HaveBytes xs
have_front [] ys h = tt
have_front (x ∷ xs) ys h = (h.0, have_front xs ys h.1)

pub have_behind : (xs ys : List Item) → HaveBytes (xs ++ ys) → HaveBytes ys
have_behind [] ys h = h
have_behind (x ∷ xs) ys h = have_behind xs ys h.1

-- what ends so, and behind it what does
ends_behind : (b : ℕ) (bs : List ℕ) (c : ℕ) (cs : List ℕ) → AreEnded (c ∷ cs) → AreEnded ((b ∷ bs) ++ c ∷ cs)
ends_behind b [] c cs e = e
ends_behind b (d ∷ bs) c cs e = ends_behind d bs c cs e

both_end : (bs cs : List ℕ) → AreEnded bs → AreEnded cs → AreEnded (bs ++ cs)
both_end [] cs h g = g
both_end (b ∷ bs) [] h g = subst AreEnded (sym (append-nil (b ∷ bs))) h
both_end (b ∷ bs) (c ∷ cs) h g = ends_behind b bs c cs g

last_ends : (bs cs : List ℕ) → AreEnded cs → 1 ≤ length cs → AreEnded (bs ++ cs)
last_ends bs [] h some = absurd (omega (arith, some))
last_ends [] (c ∷ cs) h some = h
last_ends (b ∷ bs) (c ∷ cs) h some = ends_behind b bs c cs h

marks_end : (ms ys : List Item) → list_all is_mark ms ≡ true → MarksEnd (ms ++ ys) → 1 ≤ length ys → AreEnded (sources ms)
marks_end ms [] all h some = absurd (omega (arith, some))
marks_end ms (y ∷ ys) all h some = page_marks_ended ms y ys all h

bytes_some : (m : Item) (ms : List Item) → HaveBytes (m ∷ ms) → 1 ≤ length (sources (m ∷ ms))
bytes_some m ms h = omega (arith, h.0, length-append (source m) (sources ms))

-- blanks and marks, up to the last mark, and the blanks behind it
record EndsMark (xs : List Item) : Type 0 where
  us : List Item
  m : Item
  is : xs ≡ us ++ m ∷ []
  mark : is_mark m ≡ true

record LastMark (xs : List Item) : Type 0 where
  front : List Item
  blanks : List Item
  is : xs ≡ front ++ blanks
  are_blanks : AreBlanks (sources blanks)
  marked : (front ≡ []) ⊎ EndsMark front

or_false : (v : Bool) → (v || false) ≡ true → v ≡ true
or_false true e = refl
or_false false e = absurd (cc)

blank_first : (x : Item) (bs : List ℕ) → is_idle_item x ≡ true → is_mark x ≡ false → AreBlanks bs → AreBlanks (source x ++ bs)
blank_first (char o b) bs e f h = (or_false (is_blank b) e, h)
blank_first (form_of f o cs) bs e g h = let nay : true ≡ false = sym e ∙ g in absurd (cc)

last_mark : (xs : List Item) → AreIdleItems xs → LastMark xs
last_mark [] h = record { front = []; blanks = []; is = refl; are_blanks = tt; marked = inl refl }
last_mark (x ∷ xs) h = by (last_mark xs h.2)
  where
    first : (l : LastMark xs) → l.front ≡ [] → (v : Bool) → is_mark x ≡ v → LastMark (x ∷ xs)
    first l e true m = record {
      front = x ∷ [];
      blanks = l.blanks;
      is = ap (λ (ys : List Item). x ∷ ys) (l.is ∙ ap (λ (ys : List Item). ys ++ l.blanks) e);
      are_blanks = l.are_blanks;
      marked = inr (record { us = []; m = x; is = refl; mark = m });
    }
    first l e false m = record {
      front = [];
      blanks = x ∷ l.blanks;
      is = ap (λ (ys : List Item). x ∷ ys) (l.is ∙ ap (λ (ys : List Item). ys ++ l.blanks) e);
      are_blanks = blank_first x (sources l.blanks) h.0 m l.are_blanks;
      marked = inl refl;
    }

    on : (l : LastMark xs) → (l.front ≡ []) ⊎ EndsMark l.front → LastMark (x ∷ xs)
    on l (inl e) = first l e (is_mark x) refl
    on l (inr s) = record {
      front = x ∷ l.front;
      blanks = l.blanks;
      is = ap (λ (ys : List Item). x ∷ ys) l.is;
      are_blanks = l.are_blanks;
      marked = inr (record { us = x ∷ s.us; m = s.m; is = ap (λ (ys : List Item). x ∷ ys) s.is; mark = s.mark });
    }

    by : LastMark xs → LastMark (x ∷ xs)
    by l = on l l.marked

sign_byte : (x : Item) (b : ℕ) → sign x ≡ b → b ≤ 255 → source x ≡ b ∷ []
sign_byte (char o c) b e le = ap (λ (d : ℕ). d ∷ []) e
sign_byte (form_of f o bs) b e le = by (is_mark_form f) e
  where
    by : (v : Bool) → (if v then 257 else 256) ≡ b → bs ≡ b ∷ []
    by true z = absurd (omega (arith, z, le))
    by false z = absurd (omega (arith, z, le))

-- what is before the last mark's end, behind bytes that end so
front_ended : (bytes : List ℕ) (front rest : List Item) → (front ≡ []) ⊎ EndsMark front → MarksEnd (front ++ rest) → 1 ≤ length rest → HaveBytes front → AreEnded bytes
    → AreEnded (bytes ++ sources front)
front_ended bytes front rest (inl e) ends some full h =
    subst (λ (xs : List Item). AreEnded (bytes ++ sources xs)) (sym e) (subst AreEnded (sym (append-nil bytes)) h)
front_ended bytes front rest (inr s) ends some full h =
    let all : MarksEnd (s.us ++ (s.m ∷ rest)) = subst MarksEnd (ap (λ (xs : List Item). xs ++ rest) s.is ∙ append_assoc s.us (s.m ∷ []) rest) ends in
    let one : list_all is_mark (s.m ∷ []) ≡ true = ap (λ (v : Bool). v && true) s.mark in
    let own : AreEnded (sources (s.m ∷ [])) = marks_end (s.m ∷ []) rest one (marks_behind s.us (s.m ∷ rest) all) some in
    let have : HaveBytes (s.m ∷ []) = have_behind s.us (s.m ∷ []) (subst HaveBytes s.is full) in
    let is : bytes ++ sources front ≡ (bytes ++ sources s.us) ++ sources (s.m ∷ []) =
    ap (λ (xs : List Item). bytes ++ sources xs) s.is ∙ ap (λ (bs : List ℕ). bytes ++ bs) (flat_map-append source s.us (s.m ∷ []))
    ∙ sym (append_assoc bytes (sources s.us) (sources (s.m ∷ []))) in
    subst AreEnded (sym is) (last_ends (bytes ++ sources s.us) (sources (s.m ∷ [])) own (bytes_some s.m [] have))

-- no `<` is left open behind what ends so, and behind blanks
end_by : (test : ℕ → Bool) (bs : List ℕ) (b : ℕ) → test b ≡ true → EndsBy test (bs ++ b ∷ [])
end_by test [] b e = e
end_by test (c ∷ []) b e = e
end_by test (c ∷ d ∷ bs) b e = end_by test (d ∷ bs) b e

unopened_both : (v : Bool) (xs ys : List ℕ) → ends_unopened v (xs ++ ys) ≡ ends_unopened (ends_unopened v xs) ys
unopened_both v [] ys = refl
unopened_both v (x ∷ xs) ys = unopened_both (is_end x || (v && not (x == 60))) xs ys

ended_some : (v : Bool) (b : ℕ) (bs : List ℕ) → AreEnded (b ∷ bs) → ends_unopened v (b ∷ bs) ≡ true
ended_some v b [] e = ap (λ (t : Bool). t || (v && not (b == 60))) e
ended_some v b (c ∷ bs) e = ended_some (is_end b || (v && not (b == 60))) c bs e

ended_unopened : (bs : List ℕ) → AreEnded bs → ends_unopened true bs ≡ true
ended_unopened [] e = refl
ended_unopened (b ∷ bs) e = ended_some true b bs e

or_true : (v : Bool) → (v || true) ≡ true
or_true true = refl
or_true false = refl

blank_small : (b : ℕ) → is_blank b ≡ true → (b == 60) ≡ false
blank_small b e = grind (arith, nat_tests, e)

blanks_unopened : (bs : List ℕ) → AreBlanks bs → ends_unopened true bs ≡ true
blanks_unopened [] h = refl
blanks_unopened (b ∷ bs) h =
    ap (λ (t : Bool). ends_unopened (is_end b || (true && not t)) bs) (blank_small b h.0)
    ∙ ap (λ (t : Bool). ends_unopened t bs) (or_true (is_end b)) ∙ blanks_unopened bs h.1

signed : (bytes : List ℕ) (l rest : List Item) → IsEndSign l → MarksEnd (l ++ rest) → HaveBytes l → AreEnded bytes → AreSigned (bytes ++ sources l)
signed bytes l rest h ends full e =
    let m : LastMark h.lead = last_mark h.lead h.idle in
    let own : List Item = h.bar ∷ h.brace ∷ [] in
    let parts : l ≡ m.front ++ (m.blanks ++ own) = h.is ∙ ap (λ (xs : List Item). xs ++ own) m.is ∙ append_assoc m.front m.blanks own in
    let more : List Item = (m.blanks ++ own) ++ rest in
    let there : MarksEnd (m.front ++ more) = subst MarksEnd (ap (λ (xs : List Item). xs ++ rest) parts ∙ append_assoc m.front (m.blanks ++ own) rest) ends in
    let some : 1 ≤ length more = omega (arith, length-append (m.blanks ++ own) rest, length-append m.blanks own) in
    let bar : source h.bar ≡ 124 ∷ [] = sign_byte h.bar 124 h.is_bar (omega arith) in
    let brace : source h.brace ≡ 125 ∷ [] = sign_byte h.brace 125 h.is_brace (omega arith) in
    let own_is : sources own ≡ codes "|}" = ap (λ (bs : List ℕ). bs ++ (source h.brace ++ [])) bar ∙ ap (λ (bs : List ℕ). 124 ∷ (bs ++ [])) brace in
    let front : List ℕ = bytes ++ sources m.front in
    let blanks : List ℕ = sources m.blanks in
    let bytes_are : sources l ≡ sources m.front ++ (blanks ++ codes "|}") =
    ap sources parts ∙ flat_map-append source m.front (m.blanks ++ own)
    ∙ ap (λ (bs : List ℕ). sources m.front ++ bs) (flat_map-append source m.blanks own ∙ ap (λ (bs : List ℕ). blanks ++ bs) own_is) in
    let is : bytes ++ sources l ≡ front ++ (blanks ++ codes "|}") =
    ap (λ (bs : List ℕ). bytes ++ bs) bytes_are ∙ sym (append_assoc bytes (sources m.front) (blanks ++ codes "|}")) in
    let last : front ++ (blanks ++ codes "|}") ≡ (front ++ (blanks ++ 124 ∷ [])) ++ 125 ∷ [] =
    ap (λ (bs : List ℕ). front ++ bs) (sym (append_assoc blanks (124 ∷ []) (125 ∷ []))) ∙ sym (append_assoc front (blanks ++ 124 ∷ []) (125 ∷ [])) in
    let ended : AreEnded front = front_ended bytes m.front more m.marked there some (have_front m.front (m.blanks ++ own) (subst HaveBytes parts full)) e in
    record {
      some = omega (arith, ap length (is ∙ last), length-append (front ++ (blanks ++ 124 ∷ [])) (125 ∷ []));
      sign = subst (EndsBy is_sign_end) (sym (is ∙ last)) (end_by is_sign_end (front ++ (blanks ++ 124 ∷ [])) 125 refl);
      unopened = ap (ends_unopened true) is ∙ unopened_both true front (blanks ++ codes "|}")
          ∙ ap (λ (v : Bool). ends_unopened v (blanks ++ codes "|}")) (ended_unopened front ended)
          ∙ unopened_both true blanks (codes "|}") ∙ ap (λ (v : Bool). ends_unopened v (codes "|}")) (blanks_unopened blanks m.are_blanks);
    }

-- where such bytes come before a block's line, it is led to
pub lead_led : (k : TextBlock) (q : List ℕ) (n : ℕ) (ls : List (List Item)) (sign ms ys : List Item) (bytes : List ℕ) → IsSignFor k n ls sign → IsApartFrom sign q
    → list_all is_mark ms ≡ true → MarksEnd ((sign ++ ms) ++ ys) → HaveBytes (sign ++ ms) → 1 ≤ length ys → AreEnded bytes → IsLedTo (bytes ++ sources (sign ++ ms)) k q
lead_led k q n ls [] ms ys bytes h apart all ends full some e = inl (both_end bytes (sources ms) e (marks_end ms ys all ends some))
lead_led a_paragraph q n ls (x ∷ xs) [] ys bytes h apart all ends full some e =
    let none : (x ∷ xs) ++ [] ≡ x ∷ xs = append-nil (x ∷ xs) in
    inr (
      subst (λ (zs : List Item). AreSigned (bytes ++ sources zs)) (sym none)
          (signed bytes (x ∷ xs) ys h.0 (subst (λ (zs : List Item). MarksEnd (zs ++ ys)) none ends) (subst HaveBytes none full) e),
      apart,
    )
lead_led a_paragraph q n ls (x ∷ xs) (m ∷ ms) ys bytes h apart all ends full some e =
    let sign : List Item = x ∷ xs in
    let marks : List Item = m ∷ ms in
    let there : MarksEnd (marks ++ ys) = marks_behind sign (marks ++ ys) (subst MarksEnd (append_assoc sign marks ys) ends) in
    let is : bytes ++ sources (sign ++ marks) ≡ (bytes ++ sources sign) ++ sources marks =
    ap (λ (bs : List ℕ). bytes ++ bs) (flat_map-append source sign marks) ∙ sym (append_assoc bytes (sources sign) (sources marks)) in
    inl (subst AreEnded (sym is) (last_ends (bytes ++ sources sign) (sources marks) (marks_end marks ys all there some) (bytes_some m ms (have_behind sign marks full))))
lead_led (a_heading s) q n ls (x ∷ xs) ms ys bytes h apart all ends full some e = absurd h
