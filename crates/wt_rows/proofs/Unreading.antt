-- What is not yet read of the pieces of a page: a piece in two, line breaks at the front, a line.
use Rattle.std.proofs.Common.{◌≡◌, ◌<◌, ◌≤◌, ℕ, ◌+◌, ◌-◌, Bool, true, false, Option, Some, List, [], ◌∷◌, ◌++◌, length, take, drop, map, get_or, refl, sym, ap, ◌∙◌, subst, cond, arith, append_assoc, append-nil, length-append}
use Rattle.std.specs.Prelude.{All, not, ◌&&◌}
use Rattle.std.specs.List.{prefix_len}
use Rattle.std.specs.Str.{IsUtf8, IsCharBoundary}
use Rattle.std.proofs.Math.Numerals.{one-add}
use Rattle.std.proofs.lemmas.Bool.Decides.{nat_tests}
use Rattle.std.proofs.lemmas.List.{take-append-drop, take-map, map-append}
use Rattle.std.proofs.lemmas.List.Sums.{prefix_len_passes}
use Rattle.std.proofs.lemmas.List.Elements.{All-nil, All-cons, All-head, All-tail}
use Rattle.std.proofs.lemmas.Str.{IsCharBoundary-after_ascii}
use Rattle.wt_span.specs.Bytes.{is_break}
use Rattle.wt_span.specs.declared.form.ItemForm.{ItemForm}
use Rattle.wt_span.specs.declared.form.ItemForm.TheVariants as form
use Rattle.wt_span.specs.declared.form.Piece.{Piece}
use Rattle.wt_span.specs.Slice.{bytes_of}
use Rattle.wt_span.specs.Items.{Item, char, items, items_of, items_by, call_of_origin}
use Rattle.wt_span.specs.Origins.{IsSoundPiece}
use Rattle.wt_span.specs.Runs.{IsRun}
use Rattle.wt_span.specs.Whole.{IsWhole}
use Rattle.wt_span.proofs.RunLaws.{runs_cut}
use Rattle.wt_lines.specs.Lines.{IsUnbroken, goes_on, full_lines}
use Rattle.wt_lines.specs.Pieces.{is_chars, starts_break, is_break_piece, IsParted}
use Rattle.wt_lines.proofs.LineLaws.{items_push, unbroken_piece, break_piece}
use Rattle.wt_rows.specs.Building.{AreWhole}
use Rattle.wt_rows.specs.Unread.{before, all_breaks, AreBreaks}
use Rattle.wt_rows.proofs.Making.{whole_append}

-- ---- a piece of characters in two

chars_items : (f : ItemForm) (o : Option ℕ) (bs : List ℕ) → is_chars f ≡ true → items_by f o bs ≡ map (char o) bs
chars_items form.Chars o bs e = refl
chars_items (form.Entity c) o bs e = absurd cc
chars_items form.Nowiki o bs e = absurd cc
chars_items form.Extension o bs e = absurd cc
chars_items form.Function o bs e = absurd cc
chars_items form.Comment o bs e = absurd cc
chars_items form.Include o bs e = absurd cc
chars_items form.Hidden o bs e = absurd cc
chars_items form.EmptyCall o bs e = absurd cc

pub cut_own : (p : Piece) (n : ℕ) (own : List Item) → is_chars p.form ≡ true → own ≡ map (char (call_of_origin p.origin)) (take n (bytes_of p.text))
    → own ≡ take n (items_of p)
cut_own p n own f e =
    let o = call_of_origin p.origin in
    e ∙ sym (take-map (char o) n (bytes_of p.text)) ∙ ap (take n) (sym (chars_items p.form o (bytes_of p.text) f))

pub cut_joined : (p back : Piece) (n : ℕ) (own : List Item) (others after : List Piece) → is_chars p.form ≡ true
    → own ≡ map (char (call_of_origin p.origin)) (take n (bytes_of p.text))
    → items_of back ≡ map (char (call_of_origin p.origin)) (drop n (bytes_of p.text)) → after ≡ back ∷ others
    → items (p ∷ others) ≡ own ++ items after
cut_joined p back n own others after f e eb ea =
    let o = call_of_origin p.origin in
    let bs = bytes_of p.text in
    let whole : items_of p ≡ own ++ items_of back =
    chars_items p.form o bs f
    ∙ ap (map (char o)) (sym (take-append-drop n bs))
    ∙ map-append (char o) (take n bs) (drop n bs)
    ∙ ap (λ xs. xs ++ map (char o) (drop n bs)) (sym e)
    ∙ ap (λ xs. own ++ xs) (sym eb) in
    ap (λ xs. xs ++ items others) whole ∙ append_assoc own (items_of back) (items others) ∙ ap (λ ps. own ++ items ps) (sym ea)

-- ---- line breaks at the front

break_is : (b : ℕ) → is_break b ≡ true → b < 128
break_is b e = grind (arith, nat_tests)

pub breaks_border : (bs : List ℕ) (n : ℕ) → IsUtf8 bs → n ≡ prefix_len is_break bs → 0 < n → n ≤ length bs → IsCharBoundary bs n
breaks_border bs n u e s w =
    let last : n - 1 < prefix_len is_break bs = omega (arith, e) in
    let low : get_or bs (n - 1) 0 < 128 = break_is (get_or bs (n - 1) 0) (prefix_len_passes is_break bs (n - 1) 0 last) in
    let is : (n - 1) + 1 ≡ n = omega arith in
    subst (λ (k : ℕ). IsCharBoundary bs k) is (IsCharBoundary-after_ascii bs (n - 1) u (omega arith) low)

some_by : (v : Bool) (m : ℕ) → v ≡ true → 0 < cond v (1 + m) 0
some_by true m e = omega arith
some_by false m e = absurd cc

pub breaks_some : (bs : List ℕ) (n : ℕ) → starts_break bs ≡ true → n ≡ prefix_len is_break bs → 0 < n
breaks_some [] n h e = absurd cc
breaks_some (b ∷ bs) n h e = subst (λ (k : ℕ). 0 < k) (sym e) (some_by (is_break b) (prefix_len is_break bs) h)

breaks_by : (b : ℕ) (bs : List ℕ) (v : Bool) → is_break b ≡ v → all_breaks (take (prefix_len is_break bs) bs) ≡ true
    → all_breaks (take (cond v (1 + prefix_len is_break bs) 0) (b ∷ bs)) ≡ true
breaks_by b bs false e h = refl
breaks_by b bs true e h = rw (one-add, e) h

all_taken : (bs : List ℕ) → all_breaks (take (prefix_len is_break bs) bs) ≡ true
all_taken [] = refl
all_taken (b ∷ bs) = breaks_by b bs (is_break b) refl (all_taken bs)

pub breaks_taken : (bs : List ℕ) (n : ℕ) → n ≡ prefix_len is_break bs → all_breaks (take n bs) ≡ true
breaks_taken bs n e = ap (λ k. all_breaks (take k bs)) e ∙ all_taken bs

both : (v w : Bool) → (v && w) ≡ true → (v ≡ true) × (w ≡ true)
both true w e = (refl, e)
both false w e = absurd cc

pub break_chars : (p : Piece) → is_break_piece p ≡ true → is_chars p.form ≡ true
break_chars p e = (both (is_chars p.form) (starts_break (bytes_of p.text)) e).0

are_breaks : (o : Option ℕ) (bs : List ℕ) → all_breaks bs ≡ true → AreBreaks (map (char o) bs)
are_breaks o [] h = tt
are_breaks o (b ∷ bs) h = let e = both (is_break b) (all_breaks bs) h in (e.0, are_breaks o bs e.1)

pub breaks_own : (p : Piece) (n : ℕ) (own : List Item) → is_chars p.form ≡ true → all_breaks (take n (bytes_of p.text)) ≡ true → own ≡ take n (items_of p)
    → AreBreaks own
breaks_own p n own f h e =
    let o = call_of_origin p.origin in
    subst AreBreaks
    (sym (e ∙ ap (take n) (chars_items p.form o (bytes_of p.text) f) ∙ take-map (char o) n (bytes_of p.text)))
    (are_breaks o (take n (bytes_of p.text)) h)

-- ---- a line

some_by_form : (f : ItemForm) (o : Option ℕ) (bs : List ℕ) → IsWhole f bs → 0 < length (items_by f o bs)
some_by_form form.Chars o [] h = h
some_by_form form.Chars o (b ∷ bs) h = omega arith
some_by_form (form.Entity c) o bs h = omega arith
some_by_form form.Nowiki o bs h = omega arith
some_by_form form.Extension o bs h = omega arith
some_by_form form.Function o bs h = omega arith
some_by_form form.Comment o bs h = omega arith
some_by_form form.Include o bs h = omega arith
some_by_form form.Hidden o bs h = omega arith
some_by_form form.EmptyCall o bs h = omega arith

pub sound_some : (p : Piece) → IsSoundPiece p → 0 < length (items_of p)
sound_some p h = some_by_form p.form (call_of_origin p.origin) (bytes_of p.text) h.whole

run_onto : (xs ys rest : List Item) → IsUnbroken xs → IsRun goes_on ys rest → IsRun goes_on (xs ++ ys) rest
run_onto [] ys rest u r = r
run_onto (x ∷ []) [] rest u r = absurd r
run_onto (x ∷ []) (y ∷ ys) rest u r = (ap not u.0, r)
run_onto (x ∷ z ∷ zs) ys rest u r = (ap not u.0, run_onto (z ∷ zs) ys rest u.1 r)

run_end : (xs : List Item) → IsUnbroken xs → 0 < length xs → IsRun goes_on xs []
run_end [] u s = absurd (omega arith)
run_end (x ∷ []) u s = tt
run_end (x ∷ y ∷ ys) u s = (ap not u.0, run_end (y ∷ ys) u.1 (omega arith))

run_break : (o : Option ℕ) (rest : List Item) → IsRun goes_on (char o 10 ∷ []) rest
run_break o [] = tt
run_break o (y ∷ ys) = refl

unbroken_onto : (xs ys : List Item) → IsUnbroken xs → IsUnbroken ys → IsUnbroken (xs ++ ys)
unbroken_onto [] ys h g = g
unbroken_onto (x ∷ xs) ys h g = (h.0, unbroken_onto xs ys h.1 g)

pub unbroken_more : (line next : List Piece) (p : Piece) → next ≡ line ++ p ∷ [] → IsParted p → is_break_piece p ≡ false → IsUnbroken (items line)
    → IsUnbroken (items next)
unbroken_more line next p e h b u =
    subst IsUnbroken (sym (ap items e ∙ items_push line p)) (unbroken_onto (items line) (items_of p) u (unbroken_piece p h b))

pub whole_more : (line next : List Piece) (p : Piece) → next ≡ line ++ p ∷ [] → IsParted p → IsSoundPiece p → AreWhole line → AreWhole next
whole_more line next p e h s w =
    let one : AreWhole (p ∷ []) = record { sound = All-cons IsSoundPiece p [] s (All-nil IsSoundPiece); parted = (h, tt) } in
    subst AreWhole (sym e) (whole_append line (p ∷ []) w one)

pub joined_more : (line next : List Piece) (p : Piece) (all before after : List Item) → next ≡ line ++ p ∷ [] → before ≡ items_of p ++ after
    → all ≡ items line ++ before → all ≡ items next ++ after
joined_more line next p all before after e eb h =
    h ∙ ap (λ xs. items line ++ xs) eb ∙ sym (append_assoc (items line) (items_of p) after)
    ∙ ap (λ xs. xs ++ after) (sym (ap items e ∙ items_push line p))

pub cut_break : (line next : List Piece) (p : Piece) (all after : List Item) → next ≡ line ++ p ∷ [] → IsParted p → is_break_piece p ≡ true
    → IsUnbroken (items line) → all ≡ items next ++ after → full_lines all ≡ items next ∷ full_lines after
cut_break line next p all after e h b u j =
    let is : items next ≡ items line ++ char (call_of_origin p.origin) 10 ∷ [] =
    ap items e ∙ items_push line p ∙ ap (λ xs. items line ++ xs) (break_piece p h b) in
    let run : IsRun goes_on (items next) after =
    subst (λ (xs : List Item). IsRun goes_on xs after) (sym is)
    (run_onto (items line) (char (call_of_origin p.origin) 10 ∷ []) after u (run_break (call_of_origin p.origin) after)) in
    ap (λ xs. full_lines xs) j ∙ runs_cut goes_on (items next) after run

pub cut_end : (line : List Piece) (all : List Item) (rest : List Piece) → rest ≡ [] → 0 < length all → IsUnbroken (items line)
    → all ≡ items line ++ items rest → full_lines all ≡ items line ∷ full_lines (items rest)
cut_end line all rest e s u j =
    let is : all ≡ items line = j ∙ ap (λ ps. items line ++ items ps) e ∙ append-nil (items line) in
    let some : 0 < length (items line) = subst (λ (xs : List Item). 0 < length xs) is s in
    let run : IsRun goes_on (items line) (items rest) =
    subst (λ (ps : List Piece). IsRun goes_on (items line) (items ps)) (sym e) (run_end (items line) u some) in
    ap (λ xs. full_lines xs) j ∙ runs_cut goes_on (items line) (items rest) run

-- ---- what is left

pub some_left : (ps : List Piece) → All IsSoundPiece ps → 0 < length ps → 0 < length (items ps)
some_left [] h s = absurd (omega arith)
some_left (p ∷ ps) h s = omega (arith, length-append (items_of p) (items ps), sound_some p (All-head IsSoundPiece p ps h))

pub fewer_end : (rest : List Piece) (all : List Item) → rest ≡ [] → 0 < length all → length (items rest) < length all
fewer_end rest all e s = subst (λ (ps : List Piece). length (items ps) < length all) (sym e) s

pub others_sound : (first : Option Piece) (others : List Piece) (p : Piece) → first ≡ Some p → All IsSoundPiece (before first others) → All IsSoundPiece others
others_sound first others p e h =
    All-tail IsSoundPiece p others (subst (λ (f : Option Piece). All IsSoundPiece (before f others)) e h)
