-- Each line of a text alone begins with a character that begins no other block.
use Rattle.std.proofs.Common.{arith, ◌≡◌, ℕ, ◌<◌, ◌≤◌, ◌==◌, Bool, true, false, List, [], ◌∷◌, ◌++◌, length, map, refl, sym, ap, ◌∙◌, subst, append-nil, inl, inr, All}
use Rattle.std.specs.Prelude.{◌||◌, ◌&&◌, not, encode_utf8, Some, None}
use Rattle.std.specs.Str.{chars}
use Rattle.std.specs.Fmt.{digits}
use Rattle.std.proofs.lemmas.Bool.{cases_lt}
use Rattle.std.proofs.lemmas.Bool.Decides.{nat_tests}
use Rattle.std.proofs.lemmas.List.Elements.{All-head, All-tail}
use Rattle.std.proofs.lemmas.Str.{encode_ascii}
use Rattle.wt_names.proofs.Ascii.{IsWide, encode_wide, encode_some}
use Rattle.wt_guards.specs.Table.{line_start_hazard}
use Rattle.wt_guards.specs.Content.{ContentSign, letter, letters, nearest}
use Rattle.wt_guards.specs.Letters.{is_bracket, is_escaped, reference, written_by}
use Rattle.wt_guards.specs.Guards.{Setting, nowiki, nowiki_if, is_between_guard, is_start_guard, is_guarded, is_line_start, is_line_begun, is_empty_line, spelled_from, spelled}
use Rattle.wt_guards.proofs.Escapes.{is_escapable, escapable, each_escapable}
use Rattle.wt_typed_blocks.proofs.TextReads.{or_parts, not_bracket, bracket_escaped}

-- neither a sign that begins a block of another kind, nor a line break
abbrev pub is_free : ℕ → Bool
is_free b = not (line_start_hazard b) && not (b == 10)

-- a character that begins a line of a paragraph, in a table too
abbrev pub may_begin : ℕ → Bool
may_begin b = is_free b && not (is_bracket b)

-- Each line begins with such a character, so that none is empty. `start` tells whether a line begins here.
abbrev pub are_text_lines : Bool → List ℕ → Bool
are_text_lines start [] = not start
are_text_lines start (b ∷ bs) = (not start || may_begin b) && are_text_lines (b == 10) bs

lines_nowiki : (start : Bool) (rest : List ℕ) → are_text_lines false rest ≡ true → are_text_lines start (nowiki ++ rest) ≡ true
unfolding nowiki line_start_hazard
lines_nowiki true rest h = h
lines_nowiki false rest h = h

lines_reference : (start : Bool) (c : ℕ) (rest : List ℕ) → is_escapable c ≡ true → are_text_lines false rest ≡ true
    → are_text_lines start (reference c ++ rest) ≡ true
unfolding reference digits line_start_hazard
lines_reference true c rest e h = each_escapable (λ k. are_text_lines true (reference k ++ rest) ≡ true) h h h h h h h h h h h h h c e
lines_reference false c rest e h = each_escapable (λ k. are_text_lines false (reference k ++ rest) ≡ true) h h h h h h h h h h h h h c e

wide_begins : (b : ℕ) → 128 ≤ b → may_begin b ≡ true
unfolding line_start_hazard
wide_begins b h = grind (arith, nat_tests)

no_break : (b : ℕ) → 128 ≤ b → (b == 10) ≡ false
no_break b h = grind (arith, nat_tests)

lines_on : (bs rest : List ℕ) → All IsWide bs → are_text_lines false rest ≡ true → are_text_lines false (bs ++ rest) ≡ true
lines_on [] rest h r = r
lines_on (b ∷ bs) rest h r =
    ap (λ (t : Bool). are_text_lines t (bs ++ rest)) (no_break b (All-head IsWide b bs h)) ∙ lines_on bs rest (All-tail IsWide b bs h) r

pub both : (a b : Bool) → a ≡ true → b ≡ true → (a && b) ≡ true
both true b e f = f
both false b e f = e

or_last : (a b : Bool) → b ≡ true → (a || b) ≡ true
or_last true b e = refl
or_last false b e = e

lines_wide : (start : Bool) (bs rest : List ℕ) → All IsWide bs → 0 < length bs → are_text_lines false rest ≡ true → are_text_lines start (bs ++ rest) ≡ true
lines_wide start [] rest h lt r = absurd (omega (arith, lt))
lines_wide start (b ∷ bs) rest h lt r =
    let w = All-head IsWide b bs h in
    both (not start || may_begin b) (are_text_lines (b == 10) (bs ++ rest)) (or_last (not start) (may_begin b) (wide_begins b w))
    (ap (λ (t : Bool). are_text_lines t (bs ++ rest)) (no_break b w) ∙ lines_on bs rest (All-tail IsWide b bs h) r)

free : (start m : Bool) → (start ≡ true → m ≡ true) → (not start || m) ≡ true
free true m h = h refl
free false m h = refl

lines_plain : (start : Bool) (c : ℕ) (rest : List ℕ) → (start ≡ true → may_begin c ≡ true) → are_text_lines (c == 10) rest ≡ true
    → are_text_lines start (encode_utf8 c ++ rest) ≡ true
lines_plain start c rest h r = elim (cases_lt c 128) [
  | inl small ↦ subst (λ bs. are_text_lines start (bs ++ rest) ≡ true) (sym (encode_ascii c small))
      (both (not start || may_begin c) (are_text_lines (c == 10) rest) (free start (may_begin c) h) r)
  | inr wide ↦ lines_wide start (encode_utf8 c) rest (encode_wide c wide) (encode_some c)
      (subst (λ (t : Bool). are_text_lines t rest ≡ true) (no_break c wide) r)
]

-- what isn't guarded where a line begins
start_free : (l b e h : Bool) → ((l && ((e && true) || false)) || (b && h)) ≡ false → l ≡ true → b ≡ true → (e ≡ false) × (h ≡ false)
start_free true true true h g i j = cc
start_free true true false h g i j = (refl, g)
start_free true false e h g i j = cc
start_free false b e h g i j = cc

not_both : (a b : Bool) → a ≡ false → b ≡ false → (not a && not b) ≡ true
not_both false false e f = refl
not_both false true e f = cc
not_both true b e f = cc

within_first : (w x : Bool) → w ≡ false → (not w && x) ≡ false → x ≡ false
within_first false x e f = f
within_first true x e f = cc

pub unguarded_begins : (s : Setting) (before : List ContentSign) (c : ℕ) (after : List ContentSign) → s.within ≡ false → is_line_start (nearest before) ≡ true
    → is_line_begun before ≡ true → is_guarded s before (letter c ∷ after) ≡ false → is_free c ≡ true
unfolding is_guarded is_start_guard
unguarded_begins s before c after w l b g =
    let outer = (or_parts (is_between_guard (nearest before) (Some (letter c))) _ g).1 in
    let inner = within_first s.within _ w outer in
    let start = (or_parts _ _ inner).0 in
    let f = start_free (is_line_start (nearest before)) (is_line_begun before) (is_empty_line (letter c ∷ after)) (line_start_hazard c) start l b in
    not_both (line_start_hazard c) (c == 10) f.1 (or_parts (c == 10) _ f.0).0

lines_letter : (start : Bool) (s : Setting) (before : List ContentSign) (c : ℕ) (after : List ContentSign) (rest : List ℕ) (e : Bool)
    → is_escaped s.within s.place before c after ≡ e → (start ≡ true → is_free c ≡ true) → are_text_lines (c == 10) rest ≡ true
    → are_text_lines start (written_by e c ++ rest) ≡ true
lines_letter start s before c after rest true h f r =
    let e = escapable s.within s.place before c after h in
    lines_reference start c rest e (each_escapable (λ k. are_text_lines (k == 10) rest ≡ true → are_text_lines false rest ≡ true)
    (λ q. q) (λ q. q) (λ q. q) (λ q. q) (λ q. q) (λ q. q) (λ q. q) (λ q. q) (λ q. q) (λ q. q) (λ q. q) (λ q. q) (λ q. q) c e r)
lines_letter start s before c after rest false h f r =
    let b = not_bracket (is_bracket c) (is_escaped s.within s.place before c after) (bracket_escaped s.within s.place before c after) h in
    lines_plain start c rest (λ i. both (is_free c) (not (is_bracket c)) (f i) (ap not b)) r

-- a guard, or none and then a character that may begin the line
lines_guarded : (start g : Bool) (s : Setting) (before : List ContentSign) (c : ℕ) (after : List ContentSign) (rest : List ℕ)
    → (start ≡ true → g ≡ false → is_free c ≡ true) → are_text_lines (c == 10) rest ≡ true
    → are_text_lines start (nowiki_if g ++ (written_by (is_escaped s.within s.place before c after) c ++ rest)) ≡ true
lines_guarded start true s before c after rest f r =
    let e = is_escaped s.within s.place before c after in
    lines_nowiki start (written_by e c ++ rest) (lines_letter false s before c after rest e refl (λ i. cc) r)
lines_guarded start false s before c after rest f r =
    lines_letter start s before c after rest (is_escaped s.within s.place before c after) refl (λ i. f i refl) r

pub end_guarded : (s : Setting) (before : List ContentSign) → s.within ≡ false → is_line_start (nearest before) ≡ true → is_guarded s before [] ≡ true
unfolding is_guarded is_start_guard
end_guarded s before w l = rw (w, l) (or_last (is_between_guard (nearest before) None) true refl)

lines_end : (start g : Bool) → (start ≡ true → g ≡ true) → are_text_lines start (nowiki_if g) ≡ true
lines_end start true h = subst (λ bs. are_text_lines start bs ≡ true) (append-nil nowiki) (lines_nowiki start [] refl)
lines_end true false h = h refl
lines_end false false h = refl

lines_from : (start : Bool) (s : Setting) (before : List ContentSign) (cs : List ℕ) → s.within ≡ false → is_line_start (nearest before) ≡ start
    → is_line_begun before ≡ start → are_text_lines start (spelled_from s before (map letter cs)) ≡ true
lines_from start s before [] w l b = lines_end start (is_guarded s before []) (λ i. end_guarded s before w (l ∙ i))
lines_from start s before (c ∷ cs) w l b =
    let after = map letter cs in
    lines_guarded start (is_guarded s before (letter c ∷ after)) s before c after (spelled_from s (letter c ∷ before) after)
    (λ i g. unguarded_begins s before c after w (l ∙ i) (b ∙ i) g)
    (lines_from (c == 10) s (letter c ∷ before) cs w refl refl)

pub text_lines : (s : Setting) (text : List ℕ) → s.within ≡ false → are_text_lines true (spelled s (letters text)) ≡ true
text_lines s text w = lines_from true s [] (chars text) w refl refl
