-- Lines in each of which something is neither a blank nor a mark: so are lines of text, and the rows of such lines are one paragraph.
use Rattle.std.proofs.Common.{arith, ◌≡◌, ◌≢◌, ℕ, suc, Bool, true, false, not, Option, List, [], ◌∷◌, ◌++◌, length, map, refl, sym, ap, ◌∙◌, subst, All}
use Rattle.std.specs.Prelude.{◌||◌, ◌==◌, reverse, if◌then◌else◌}
use Rattle.std.specs.Option.{unwrap_or}
use Rattle.std.proofs.lemmas.Bool.Decides.{nat_tests}
use Rattle.std.proofs.lemmas.List.Elements.{All-nil, All-cons, All-head, All-tail}
use Rattle.wt_span.specs.declared.form.ItemForm.{ItemForm}
use Rattle.wt_span.specs.Bytes.{is_blank, is_break}
use Rattle.wt_span.specs.Items.{Item, char, whole, sign, is_mark_form, is_char_in, is_mark}
use Rattle.wt_lines.specs.declared.kind.LineKind.TheVariants as line
use Rattle.wt_lines.specs.Kinds.{is_mark_sign, is_idle, past, is_idle_all, first_of, rows, kind_of_signs, line_kind}
use Rattle.wt_lines.specs.Lines.{is_break_item, onto, lines, full_lines, content, empty_end}
use Rattle.wt_lines.proofs.FullLines.{same_lines}
use Rattle.wt_page.specs.Lines.{ending}
use Rattle.wt_page.specs.Rows.{marks_len}
use Rattle.wt_text_edit_laws.specs.Paragraphs.{IsSeenLine}
use Rattle.wt_text_edit_laws.specs.ReadContents.{begins_shown, begins_seen}
use Rattle.wt_text_edit_laws.proofs.Paragraphs.LineBlocks.{IsLineBlock, block_by}

-- ---- lines of text

none_of : (ss : List ℕ) → (length ss == 0) ≡ true → ss ≡ []
none_of [] e = refl
none_of (s ∷ ss) e = let no : (suc (length ss) == 0) ≡ false = grind (arith, nat_tests) in let f : true ≡ false = sym e ∙ no in cc

idle_blank : (n : ℕ) (ss : List ℕ) → past is_idle ss ≡ [] → kind_of_signs n ss ≡ line.Blank
unfolding kind_of_signs
idle_blank n ss e = ap (λ (seen : List ℕ). unwrap_or (first_of (rows n seen (past is_mark_sign ss) (past is_idle (reverse ss)))) line.Text) e

pub text_seen : (n : ℕ) (l : List Item) → line_kind n l ≡ line.Text → IsSeenLine l
text_seen n l t = by (is_idle_all (map sign l)) refl
  where
    by : (v : Bool) → is_idle_all (map sign l) ≡ v → v ≡ false
    by false e = refl
    by true e = let b : line_kind n l ≡ line.Blank = idle_blank n (map sign l) (none_of (past is_idle (map sign l)) e) in cc

pub texts_seen : (n : ℕ) (ls : List (List Item)) → All (λ l. line_kind n l ≡ line.Text) ls → All IsSeenLine ls
texts_seen n [] a = All-nil IsSeenLine
texts_seen n (l ∷ ls) a =
    All-cons IsSeenLine l ls (text_seen n l (All-head (λ l. line_kind n l ≡ line.Text) l ls a))
    (texts_seen n ls (All-tail (λ l. line_kind n l ≡ line.Text) l ls a))

-- ---- the first line

-- of the first line blanks and marks alone
abbrev HeadIdle : List (List Item) → Type 0
HeadIdle [] = ⊥
HeadIdle (l ∷ ls) = past is_idle (map sign l) ≡ []

blank_idle : (o : Option ℕ) (b : ℕ) (ls : List (List Item)) → is_blank b ≡ true → HeadIdle ls → HeadIdle (onto (char o b ∷ []) ls)
blank_idle o b [] p h = absurd h
blank_idle o b (l ∷ ls) p h =
    let ss : List ℕ = map sign l in
    ap (λ (t : Bool). if t || is_mark_sign b then past is_idle ss else b ∷ ss) p ∙ h

mark_idle : (f : ItemForm) (o : Option ℕ) (bs : List ℕ) (ls : List (List Item)) → is_mark_form f ≡ true → HeadIdle ls → HeadIdle (onto (whole f o bs ∷ []) ls)
mark_idle f o bs [] p h = absurd h
mark_idle f o bs (l ∷ ls) p h =
    let ss : List ℕ = map sign l in
    ap (λ (s : ℕ). if is_idle s then past is_idle ss else s ∷ ss) (ap (λ (t : Bool). if t then 257 else 256) p) ∙ h

char_by : (o : Option ℕ) (b : ℕ) (xs : List Item) (t v : Bool) → is_blank b ≡ t → (if t || false then begins_seen xs else not v) ≡ false
    → (begins_seen xs ≡ false → HeadIdle (lines xs)) → HeadIdle (if v then [] ∷ lines xs else onto (char o b ∷ []) (lines xs))
char_by o b xs t true p e f = refl
char_by o b xs true false p e f = blank_idle o b (lines xs) p (f e)
char_by o b xs false false p e f = absurd (cc)

mark_by : (f : ItemForm) (o : Option ℕ) (bs : List ℕ) (xs : List Item) (t : Bool) → is_mark_form f ≡ t → (if t then begins_seen xs else true) ≡ false
    → (begins_seen xs ≡ false → HeadIdle (lines xs)) → HeadIdle (onto (whole f o bs ∷ []) (lines xs))
mark_by f o bs xs true p e g = mark_idle f o bs (lines xs) p (g e)
mark_by f o bs xs false p e g = absurd (cc)

head_idle : (xs : List Item) → begins_seen xs ≡ false → HeadIdle (lines xs)
head_idle [] e = refl
head_idle (whole f o bs ∷ xs) e = mark_by f o bs xs (is_mark_form f) refl e (λ g. head_idle xs g)
head_idle (char o b ∷ xs) e = char_by o b xs (is_blank b) (is_break b) refl e (λ g. head_idle xs g)

none_idle : (ls : List (List Item)) → HeadIdle ls → All IsSeenLine ls → ⊥
none_idle [] h a = h
none_idle (l ∷ ls) h a =
    let s : is_idle_all (map sign l) ≡ false = All-head IsSeenLine l ls a in
    let i : is_idle_all (map sign l) ≡ true = ap (λ (ss : List ℕ). length ss == 0) h in
    let no : true ≡ false = sym i ∙ s in
    cc

by_flag : (xs : List Item) (v : Bool) → begins_seen xs ≡ v → All IsSeenLine (lines xs) → v ≡ true
by_flag xs true e a = refl
by_flag xs false e a = absurd (none_idle (lines xs) (head_idle xs e) a)

pub lines_seen : (xs : List Item) → All IsSeenLine (lines xs) → begins_seen xs ≡ true
lines_seen xs a = by_flag xs (begins_seen xs) refl a

-- whatever is behind it
before_by : (t v : Bool) (xs ys : List Item) → (if t then begins_seen xs else not v) ≡ true → (begins_seen xs ≡ true → begins_seen (xs ++ ys) ≡ true)
    → (if t then begins_seen (xs ++ ys) else not v) ≡ true
before_by true v xs ys e f = f e
before_by false v xs ys e f = e

pub seen_before : (xs ys : List Item) → begins_seen xs ≡ true → begins_seen (xs ++ ys) ≡ true
seen_before [] ys e = absurd (cc)
seen_before (x ∷ xs) ys e = before_by (is_char_in is_blank x || is_mark x) (is_break_item x) xs ys e (λ f. seen_before xs ys f)

-- it isn't blank
shown_char : (t v : Bool) (xs : List Item) → (if t || false then begins_seen xs else not v) ≡ true → (begins_seen xs ≡ true → begins_shown xs ≡ true)
    → (if t then begins_shown xs else not v) ≡ true
shown_char true v xs e f = f e
shown_char false v xs e f = e

pub seen_shown : (xs : List Item) → begins_seen xs ≡ true → begins_shown xs ≡ true
seen_shown [] e = absurd (cc)
seen_shown (whole f o bs ∷ xs) e = refl
seen_shown (char o b ∷ xs) e = shown_char (is_blank b) (is_break b) xs e (λ f. seen_shown xs f)

-- ---- they are one paragraph

none_seen : IsSeenLine [] → ⊥
none_seen e = cc

pub seen_some : (xs : List Item) → All IsSeenLine (lines xs) → xs ≢ []
seen_some xs a e = none_seen (All-head IsSeenLine [] [] (subst (λ ys. All IsSeenLine (lines ys)) e a))

-- the last line isn't empty, so that no line break ends them
unended_by : (x : Item) (v : Bool) (zs : List (List Item)) → All IsSeenLine (zs ++ (if v then [] ∷ [] else [])) → (if v then x ∷ [] else []) ≡ []
unended_by x true [] a = absurd (none_seen (All-head IsSeenLine [] [] a))
unended_by x true (z ∷ zs) a = unended_by x true zs (All-tail IsSeenLine z (zs ++ [] ∷ []) a)
unended_by x false zs a = refl

unended : (xs : List Item) (zs : List (List Item)) → All IsSeenLine (zs ++ empty_end xs) → ending xs ≡ []
unended [] zs a = refl
unended (x ∷ []) zs a = unended_by x (is_break_item x) zs a
unended (x ∷ y ∷ ys) zs a = unended (y ∷ ys) zs a

pub seen_block : (xs : List Item) → marks_len xs ≡ 0 → All IsSeenLine (lines xs) → IsLineBlock xs
seen_block xs h a =
    let ls : List (List Item) = full_lines xs in
    let all : All IsSeenLine (map content ls ++ empty_end xs) = subst (All IsSeenLine) (same_lines xs) a in
    block_by xs ls refl h (unended xs (map content ls) all) (seen_some xs a)
