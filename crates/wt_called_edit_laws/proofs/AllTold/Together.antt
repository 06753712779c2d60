-- All blocks that the lines of an expanded page tell are told at once.
use Rattle.std.proofs.Common.{arith, ◌≡◌, ◌≤◌, ℕ, suc, ◌+◌, Bool, true, false, None, List, [], ◌∷◌, ◌++◌, length, take, drop, map, refl, sym, ap, ◌∙◌, subst, cond, append_assoc, codes}
use Rattle.std.specs.Prelude.{◌&&◌}
use Rattle.std.specs.Str.{IsUtf8}
use Rattle.std.specs.List.{list_all}
use Rattle.wt_span.specs.Bytes.{begins}
use Rattle.wt_span.specs.Items.{Item, char, whole, is_mark}
use Rattle.wt_expand.specs.PageCalls.{expanded_page}
use Rattle.wt_expand.specs.Work.{Pages}
use Rattle.wt_commands.specs.Answers.{refusal_of_page}
use Rattle.wt_lines.specs.Lines.{content, full_lines}
use Rattle.wt_tables.specs.Parts.{joined}
use Rattle.wt_lines.specs.declared.kind.LineKind.TheVariants as line
use Rattle.wt_page.specs.Lines.{kind_at}
use Rattle.wt_page.specs.Rows.{marks_len, signs, rows_from}
use Rattle.wt_text_edit_laws.specs.ParagraphBetween.{tables_behind, BeginApart}
use Rattle.wt_text_edit_laws.proofs.Paragraphs.Marks.{mark_sign}
use Rattle.wt_called_edit_laws.specs.PlacedLines.{all_lines, AreLined}
use Rattle.wt_called_edit_laws.specs.RowBlocks.{past_end}
use Rattle.wt_called_edit_laws.specs.TableEnds.{IsEndSign}
use Rattle.wt_called_edit_laws.specs.ToldAmong.{IsToldAmong}
use Rattle.wt_called_edit_laws.specs.ToldLines.{Told, a_paragraph_of, a_heading_on, lined, IsToldAt, AreTold}
use Rattle.wt_called_edit_laws.specs.ToldTogether.{start_of, told_starts, IsAmongNumbers, AreSome}
use Rattle.wt_called_edit_laws.proofs.Among.ToldAmong.{all_told}
use Rattle.wt_called_edit_laws.proofs.AllTold.Chosen.{IsChosen, chosen, chosen_decided}
use Rattle.wt_called_edit_laws.proofs.AllTold.ChosenLines.{meets_so, known_lines, known_closed, in_no_group}
use Rattle.wt_called_edit_laws.proofs.AllTold.EndSigns.{SignOf, sign_of, end_line, page_signs}
use Rattle.wt_called_edit_laws.proofs.AllTold.LineKinds.{Lines, led_by, past_marks, after}
use Rattle.wt_called_edit_laws.proofs.AllTold.Scans.{tables_at, sign_told, ToldFrom}
use Rattle.wt_called_edit_laws.proofs.AllTold.Scanned.{AllMeet, Meets, Scan, scan}
use Rattle.wt_called_edit_laws.proofs.AllTold.ToldStarts.{are_own}
use Rattle.wt_called_edit_laws.proofs.Cells.SpotSlots.{open_size}

-- ---- the marks that begin a line

and_first : (a b : Bool) → (a && b) ≡ true → a ≡ true
and_first true b e = refl
and_first false b e = absurd (cc)

and_rest : (a b : Bool) → (a && b) ≡ true → b ≡ true
and_rest true b e = e
and_rest false b e = absurd (cc)

-- no more marks are behind them
record Parted (ms xs : List Item) : Type 0 where
  led : led_by (ms ++ xs) ≡ ms
  past : past_marks (ms ++ xs) ≡ xs

parted : (ms : List Item) (x : Item) (xs : List Item) → list_all is_mark ms ≡ true → is_mark x ≡ false → Parted ms (x ∷ xs)
parted [] x xs h e = record {
  led = ap (λ (v : Bool). take (cond v (1 + marks_len xs) 0) (x ∷ xs)) e;
  past = ap (λ (v : Bool). drop (cond v (1 + marks_len xs) 0) (x ∷ xs)) e;
}
parted (m ∷ ms) x xs h e =
    let rest : List Item = ms ++ x ∷ xs in
    let p = parted ms x xs (and_rest (is_mark m) (list_all is_mark ms) h) e in
    let own : is_mark m ≡ true = and_first (is_mark m) (list_all is_mark ms) h in
    let z : 1 + marks_len rest ≡ suc (marks_len rest) = omega arith in
    record {
      led = ap (λ (v : Bool). take (cond v (1 + marks_len rest) 0) (m ∷ rest)) own ∙ ap (λ (n : ℕ). take n (m ∷ rest)) z ∙ ap (λ (ns : List Item). m ∷ ns) p.led;
      past = ap (λ (v : Bool). drop (cond v (1 + marks_len rest) 0) (m ∷ rest)) own ∙ ap (λ (n : ℕ). drop n (m ∷ rest)) z ∙ p.past;
    }

mark_first : (x : Item) (xs : List Item) → is_mark x ≡ true → marks_len (content (x ∷ xs)) ≡ 0 → ⊥
mark_first (char o b) xs e h = absurd (cc)
mark_first (whole f o bs) [] e h = let nay : 1 + 0 ≡ 0 = sym (ap (λ (v : Bool). cond v (1 + 0) 0) e) ∙ h in omega (arith, nay)
mark_first (whole f o bs) (y ∷ ys) e h =
    let n : ℕ = marks_len (content (y ∷ ys)) in
    let nay : 1 + n ≡ 0 = sym (ap (λ (v : Bool). cond v (1 + n) 0) e) ∙ h in omega (arith, nay)

unmarked : (v : Bool) → (v ≡ true → ⊥) → v ≡ false
unmarked true h = absurd (h refl)
unmarked false h = refl

text_first : (x : Item) (xs : List Item) (r : Lines) → marks_len (content (joined ((x ∷ xs) ∷ r))) ≡ 0 → is_mark x ≡ false
text_first x xs r h = unmarked (is_mark x) (λ e. mark_first x (xs ++ joined r) e h)

sign_first : (x : Item) (xs : List Item) → begins (codes "=") (signs (x ∷ xs)) ≡ true → is_mark x ≡ false
sign_first x xs h = unmarked (is_mark x) (λ e.
    let nay : begins (codes "=") (257 ∷ signs xs) ≡ true = sym (ap (λ (n : ℕ). begins (codes "=") (n ∷ signs xs)) (mark_sign x e)) ∙ h in absurd (cc))

parted_told : (m f : List Item) → list_all is_mark m ≡ true → 1 ≤ length f → ((x : Item) (xs : List Item) → f ≡ x ∷ xs → is_mark x ≡ false) → Parted m f
parted_told m [] h some g = absurd (omega (arith, some))
parted_told m (x ∷ xs) h some g = parted m x xs h (g x xs refl)

-- ---- each that is told alone is among them

-- what a block that is told alone has
record IsAlone (pages : Pages) (page : List ℕ) (t : Told) (rest : Lines) : Type 0 where
  are : full_lines (expanded_page pages page).items ≡ all_lines (lined t ∷ []) rest
  told : AreTold (t ∷ []) rest
  here : IsChosen pages page (joined (lined t).before) t

alone_text : (pages : Pages) (page : List ℕ) (s : Scan (chosen pages page) [] [] false (full_lines (expanded_page pages page).items)) (b : Lines) (m f : List Item)
    (r rest : Lines) → IsAlone pages page (a_paragraph_of b [] m f r) rest → Parted m f → IsAmongNumbers (start_of 0 (a_paragraph_of b [] m f r)) (told_starts 0 s.ts)
alone_text pages page s b m f r rest h p =
    let told : IsToldAt [] (a_paragraph_of b [] (led_by (m ++ f)) (past_marks (m ++ f)) r) =
    subst (λ (k : List Item). IsToldAt [] (a_paragraph_of b [] k (past_marks (m ++ f)) r)) (sym p.led)
    (subst (λ (k : List Item). IsToldAt [] (a_paragraph_of b [] m k r)) (sym p.past) h.told.0) in
    let here : IsChosen pages page (joined b) (a_paragraph_of b [] (led_by (m ++ f)) (past_marks (m ++ f)) r) =
    subst (λ (k : List Item). IsChosen pages page (joined b) (a_paragraph_of b [] k (past_marks (m ++ f)) r)) (sym p.led)
    (subst (λ (k : List Item). IsChosen pages page (joined b) (a_paragraph_of b [] m k r)) (sym p.past) h.here) in
    subst (λ (k : List Item). IsAmongNumbers (start_of 0 (a_paragraph_of b [] k f r)) (told_starts 0 s.ts)) p.led
    (s.texts 0 b (m ++ f) r rest h.are told h.told.1 (λ z. refl) (meets_so pages page (a_paragraph_of b [] (led_by (m ++ f)) (past_marks (m ++ f)) r) here))

alone_heading : (pages : Pages) (page : List ℕ) (s : Scan (chosen pages page) [] [] false (full_lines (expanded_page pages page).items)) (b : Lines) (m l : List Item)
    (rest : Lines) → IsAlone pages page (a_heading_on b m l) rest → Parted m l → IsAmongNumbers (start_of 0 (a_heading_on b m l)) (told_starts 0 s.ts)
alone_heading pages page s b m l rest h p =
    let told : IsToldAt [] (a_heading_on b (led_by (m ++ l)) (past_marks (m ++ l))) =
    subst (λ (k : List Item). IsToldAt [] (a_heading_on b k (past_marks (m ++ l)))) (sym p.led)
    (subst (λ (k : List Item). IsToldAt [] (a_heading_on b m k)) (sym p.past) h.told.0) in
    let here : IsChosen pages page (joined b) (a_heading_on b (led_by (m ++ l)) (past_marks (m ++ l))) =
    subst (λ (k : List Item). IsChosen pages page (joined b) (a_heading_on b k (past_marks (m ++ l)))) (sym p.led)
    (subst (λ (k : List Item). IsChosen pages page (joined b) (a_heading_on b m k)) (sym p.past) h.here) in
    subst (λ (k : List Item). IsAmongNumbers (start_of 0 (a_heading_on b k l)) (told_starts 0 s.ts)) p.led
    (s.heads 0 b (m ++ l) rest h.are told (meets_so pages page (a_heading_on b (led_by (m ++ l)) (past_marks (m ++ l))) here))

-- behind a sign
same_sign : (b : Lines) (s m f : List Item) (r : Lines) → IsEndSign s → Parted m f → sign_told b (s ++ (m ++ f)) r ≡ a_paragraph_of b s m f r
same_sign b s m f r h p =
    let o : SignOf (s ++ (m ++ f)) s (m ++ f) = sign_of s (m ++ f) h in
    ap (λ (k : List Item). a_paragraph_of b k (led_by (past_end (s ++ (m ++ f)))) (past_marks (past_end (s ++ (m ++ f)))) r) o.sign_is
    ∙ ap (λ (k : List Item). a_paragraph_of b s (led_by k) (past_marks k) r) o.past_is
    ∙ ap (λ (k : List Item). a_paragraph_of b s k (past_marks (m ++ f)) r) p.led ∙ ap (λ (k : List Item). a_paragraph_of b s m k r) p.past

alone_sign : (pages : Pages) (page : List ℕ) (s : Scan (chosen pages page) [] [] false (full_lines (expanded_page pages page).items)) (b : Lines) (x : Item)
    (xs m f : List Item) (r rest : Lines) → IsAlone pages page (a_paragraph_of b (x ∷ xs) m f r) rest → Parted m f
    → IsAmongNumbers (start_of 0 (a_paragraph_of b (x ∷ xs) m f r)) (told_starts 0 s.ts)
alone_sign pages page s b x xs m f r rest h p =
    let sign : List Item = x ∷ xs in
    let l : List Item = sign ++ (m ++ f) in
    let t : Told = a_paragraph_of b sign m f r in
    let g : IsEndSign sign = h.told.0.sign.0 in
    let same : sign_told b l r ≡ t = same_sign b sign m f r g p in
    let joint : (sign ++ m) ++ f ≡ l = append_assoc sign m f in
    let kind : kind_at (length (after [] b)) l ≡ line.TableEnd =
    subst (λ (n : ℕ). kind_at n l ≡ line.TableEnd) (open_size [] 0 b refl) (end_line (tables_behind 0 b) sign (m ++ f) g h.told.0.sign.1) in
    subst (λ (o : Told). IsAmongNumbers (start_of 0 o) (told_starts 0 s.ts)) same
    (s.signs 0 b l r rest (h.are ∙ ap (λ (k : List Item). b ++ ((k ∷ r) ++ rest)) joint) kind
    (subst (IsToldAt []) (sym same) h.told.0)
    (subst (λ (o : Told). BeginApart (rows_from (length (tables_at [] o)) rest)) (sym same) h.told.1)
    (subst (λ (o : Told). Meets (chosen pages page) [] o) (sym same) (meets_so pages page t h.here)))

alone : (pages : Pages) (page : List ℕ) (s : Scan (chosen pages page) [] [] false (full_lines (expanded_page pages page).items)) (t : Told) (rest : Lines)
    → IsAlone pages page t rest → IsAmongNumbers (start_of 0 t) (told_starts 0 s.ts)
alone pages page s (a_paragraph_of b [] m f r) rest h =
    alone_text pages page s b m f r rest h (parted_told m f h.told.0.are_marks h.told.0.some (λ x xs z. text_first x xs r
    (subst (λ (k : List Item). marks_len (content (joined (k ∷ r))) ≡ 0) z h.told.0.own.1)))
alone pages page s (a_paragraph_of b (x ∷ xs) m f r) rest h =
    alone_sign pages page s b x xs m f r rest h (parted_told m f h.told.0.are_marks h.told.0.some (λ y ys z. text_first y ys r
    (subst (λ (k : List Item). marks_len (content (joined (k ∷ r))) ≡ 0) z h.told.0.own.1)))
alone pages page s (a_heading_on b m l) rest h =
    alone_heading pages page s b m l rest h (parted_told m l h.told.0.are_marks h.told.0.some (λ x xs z. sign_first x xs
    (subst (λ (k : List Item). begins (codes "=") (signs k) ≡ true) z h.told.0.own.first)))

-- ---- all of them

-- those that are chosen, and each that is chosen alone is among them
pub record AreAllChosen (pages : Pages) (page : List ℕ) : Type 0 where
  pub ts : List Told
  pub behind : Lines
  pub are : full_lines (expanded_page pages page).items ≡ all_lines (map lined ts) behind
  pub meet : AllMeet (chosen pages page) [] ts
  pub told : AreSome ts → AreTold ts behind
  pub all : (t : Told) (rest : Lines) → full_lines (expanded_page pages page).items ≡ all_lines (lined t ∷ []) rest → AreTold (t ∷ []) rest
      → IsChosen pages page (joined (lined t).before) t → IsAmongNumbers (start_of 0 t) (told_starts 0 ts)

pub are_told : (ts : List Told) (behind : Lines) → AreSome ts → ToldFrom [] ts behind → AreTold ts behind
are_told [] behind s h = absurd s
are_told (t ∷ ts) behind s h = h

pub chosen_together : (pages : Pages) (page : List ℕ) → IsUtf8 page → refusal_of_page pages page ≡ None → AreAllChosen pages page
chosen_together pages page u r =
    let ls : Lines = full_lines (expanded_page pages page).items in
    let s : Scan (chosen pages page) [] [] false ls = scan (chosen pages page) (chosen_decided pages page) (length ls) [] [] false ls (omega arith) (page_signs pages page u r) in
    record {
      ts = s.ts;
      behind = s.behind;
      are = s.are;
      meet = s.asked;
      told = λ some. are_told s.ts s.behind some s.told;
      all = λ t rest are told here. alone pages page s t rest (record { are = are; told = told; here = here });
    }

-- so the page is told by them
pub told_by_all : (pages : Pages) (page : List ℕ) → IsUtf8 page → refusal_of_page pages page ≡ None → (a : AreAllChosen pages page) → AreSome a.ts
    → IsToldAmong pages page a.ts a.behind
told_by_all pages page u r a some =
    let known = known_lines pages page a.ts a.meet in
    let closed = known_closed pages page a.ts a.behind a.meet in
    let lines : AreLined (map lined a.ts) a.behind =
    all_told pages page a.ts a.behind (record { closed = closed; are = a.are; told = a.told some; own = known.0; untouched = known.1 }) in
    record {
      utf8 = u;
      closed = closed;
      are = a.are;
      told = a.told some;
      own = known.0;
      led = known.3;
      free = known.2;
      untouched = known.1;
      unrefused = r;
      in_no_group = in_no_group pages page a.ts a.meet (are_own (map lined a.ts) a.behind lines);
    }
