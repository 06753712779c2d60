-- A call of a text with its parts, by where they stand.
use Rattle.std.proofs.Common.{◌≡◌, ℕ, zero, suc, ◌+◌, ◌<◌, ◌≤◌, Bool, true, false, cond, Option, Some, None, List, [], ◌∷◌, ◌++◌, take, drop, refl, sym, ap, ◌∙◌, subst, arith, append_assoc, append-nil}
use Rattle.std.specs.Prelude.{slice_get, replicate, nat_lt}
use Rattle.std.specs.List.{All}
use Rattle.std.proofs.lemmas.Bool.Decides.{nat_tests}
use Rattle.wt_span.specs.declared.form.Mode.{Mode}
use Rattle.wt_span.specs.declared.form.LexKind.{LexKind}
use Rattle.wt_span.specs.declared.form.LexKind.TheVariants as lex
use Rattle.wt_span.specs.Lexemes.{Word, words}
use Rattle.wt_span.specs.Braces.{Member, Members, lexeme, call, width, width_of_all, CallAt, PartAt, calls}
use Rattle.wt_lex.specs.SignWidths.{HasSignWidth}
use Rattle.wt_lex.proofs.SignWidths.{word_widths}
use Rattle.wt_braces.specs.PartMembers.{PartMembers, joined, rejoined, part_members, placed, width_of, name_width}
use Rattle.wt_braces.proofs.Rejoins.{parts_join}
use Rattle.wt_expand.specs.Expansion.{Reading, PartOutput, target_part, later_parts}
use Rattle.wt_transclusion.specs.declared.read.Braces.{Braces}
use Rattle.wt_transclusion.specs.Cursors.{starts}
use Rattle.wt_transclusion.specs.Marks.{Mark, opens, closes, of, marks_from, word_marks, words_marks}
use Rattle.wt_transclusion.specs.Parts.{part_given, parts_given}
use Rattle.wt_transclusion.specs.Reads.{braces_of}
use Rattle.wt_transclusion.specs.Steps.{IsStretchOf, given_from}
use Rattle.wt_transclusion.specs.Stretch.{calls_before, AllFull, BeginBehind}
use Rattle.wt_transclusion.proofs.PartLaws.{call_places}
use Rattle.wt_transclusion.proofs.CursorLaws.{stretch_within, text_len}
use Rattle.wt_transclusion.proofs.FunctionWords.{closing_there, opening_there}
use Rattle.wt_transclusion.proofs.StretchCuts.{call_at, stretch_front, stretch_back, stretch_call, stretch_inside}
use Rattle.wt_transclusion.proofs.StretchLaws.{full_back, width_append}
use Rattle.wt_template_stack.specs.Calls.{IsCut, next_place, ArePartsAt, HaveBars, IsBefore, IsCallOf, members_behind, first_end}

-- ---- a `=` has one byte

abbrev IsWide : Mark → Type 0
IsWide opens = Unit {0}
IsWide closes = Unit {0}
IsWide (of kind n j) = HasSignWidth (kind, n)

abbrev AllWide : List Mark → Type 0
AllWide [] = Unit {0}
AllWide (x ∷ xs) = IsWide x × AllWide xs

wide_append : (xs ys : List Mark) → AllWide xs → AllWide ys → AllWide (xs ++ ys)
wide_append [] ys f g = g
wide_append (x ∷ xs) ys f g = (f.0, wide_append xs ys f.1 g)

wide_from : (kind : LexKind) (n j k : ℕ) → HasSignWidth (kind, n) → AllWide (marks_from kind n j k)
wide_from kind n j zero h = tt
wide_from kind n j (suc k) h = (h, wide_from kind n (suc j) k h)

wide_opens : (n : ℕ) → AllWide (replicate n opens)
wide_opens zero = tt
wide_opens (suc n) = (tt, wide_opens n)

wide_closes : (n : ℕ) → AllWide (replicate n closes)
wide_closes zero = tt
wide_closes (suc n) = (tt, wide_closes n)

wide_word : (kind : LexKind) (n : ℕ) → HasSignWidth (kind, n) → AllWide (word_marks kind n)
wide_word lex.Chars n h = wide_from lex.Chars n 0 n h
wide_word lex.CommentLine n h = wide_from lex.CommentLine n 0 n h
wide_word lex.Comment n h = wide_from lex.Comment n 0 n h
wide_word lex.Raw n h = wide_from lex.Raw n 0 n h
wide_word lex.Include n h = wide_from lex.Include n 0 n h
wide_word lex.Hidden n h = wide_from lex.Hidden n 0 n h
wide_word (lex.Entity c) n h = wide_from (lex.Entity c) n 0 n h
wide_word lex.Opens n h = wide_opens n
wide_word lex.Closes n h = wide_closes n
wide_word lex.LinkOpen n h = wide_from lex.LinkOpen n 0 n h
wide_word lex.LinkClose n h = wide_from lex.LinkClose n 0 n h
wide_word lex.Pipe n h = wide_from lex.Pipe n 0 n h
wide_word lex.Equals n h = wide_from lex.Equals n 0 n h

wide_words : (ws : List Word) → All HasSignWidth ws → AllWide (words_marks ws)
wide_words [] h = tt
wide_words ((kind, n) ∷ ws) h =
    wide_append (word_marks kind n) (words_marks ws) (wide_word kind n (h 0 (kind, n) (omega arith)))
    (wide_words ws (λ k d l. h (suc k) d (omega (arith, l))))

wide_drop : (k : ℕ) (xs : List Mark) → AllWide xs → AllWide (drop k xs)
wide_drop zero [] h = h
wide_drop zero (x ∷ xs) h = h
wide_drop (suc k) [] h = h
wide_drop (suc k) (x ∷ xs) h = wide_drop k xs h.1

wide_take : (k : ℕ) (xs : List Mark) → AllWide xs → AllWide (take k xs)
wide_take zero [] h = tt
wide_take zero (x ∷ xs) h = tt
wide_take (suc k) [] h = tt
wide_take (suc k) (x ∷ xs) h = (h.0, wide_take k xs h.1)

equals_one : (m : Mode) (t : List ℕ) (p e n : ℕ) (ys : List Member) → IsStretchOf m t p e (lexeme (lex.Equals, n) ∷ ys) → n ≡ 1
equals_one m t p e zero ys s = absurd (let z : 1 ≤ 0 = s.full.0 in omega (arith, z))
equals_one m t p e (suc n) ys s =
    let w = words_marks (words m t) in
    (subst AllWide s.bytes (wide_take (suc n + width_of ys) (drop p w) (wide_drop p w (wide_words (words m t) (word_widths m t))))).0

-- ---- a stretch without members

at_or_behind : (a b : ℕ) → nat_lt a b ≡ false → b ≤ a
at_or_behind a b e = grind (arith, nat_tests)

not_before : (e : ℕ) (cs : List CallAt) → BeginBehind e (drop (calls_before e cs) cs)
not_before e [] = tt
not_before e (c ∷ cs) = by_test (nat_lt c.from e) refl (not_before e cs)
  where
    by_test : (b : Bool) → nat_lt c.from e ≡ b → BeginBehind e (drop (calls_before e cs) cs)
        → BeginBehind e (drop (cond b (1 + calls_before e cs) 0) (c ∷ cs))
    by_test true is on =
        let z : suc (calls_before e cs) ≡ 1 + calls_before e cs = omega arith in
        subst (λ k. BeginBehind e (drop k (c ∷ cs))) z on
    by_test false is on = at_or_behind c.from e is

take_nothing : {A : Type 0} → (xs : List A) → take 0 xs ≡ []
take_nothing [] = refl
take_nothing (x ∷ xs) = refl

pub empty_stretch : (m : Mode) (t : List ℕ) (e : ℕ) → IsStretchOf m t e e []
empty_stretch m t e =
    let cs = calls 0 (words m t) in
    record {
      full = tt;
      width = omega arith;
      bytes = take_nothing (drop e (words_marks (words m t)));
      calls = record { parent = None; after = drop (calls_before e cs) cs; is = refl; behind = not_before e cs };
    }

-- ---- parts that stand in a stretch

back_at : (m : Mode) (t : List ℕ) (at e q : ℕ) (xs ys : List Member) → IsStretchOf m t at e (xs ++ ys) → at + width_of xs ≡ q → IsStretchOf m t q e ys
back_at m t at e q xs ys s z = subst (λ k. IsStretchOf m t k e ys) z (stretch_back _ _ at e xs ys s)

one_more : (xs : List Member) (x : Member) (ys : List Member) → xs ++ x ∷ ys ≡ (xs ++ x ∷ []) ++ ys
one_more xs x ys = sym (append_assoc xs (x ∷ []) ys)

width_more : (xs : List Member) (x : Member) → width_of (xs ++ x ∷ []) ≡ width_of xs + width x
width_more xs x = let e = width_append xs (x ∷ []) in omega (arith, e)

cut_stands : (m : Mode) (t : List ℕ) (at e : ℕ) (name : Option (List Member × ℕ)) (value : List Member) → IsStretchOf m t at e (joined name value)
    → IsCut m t at name value
cut_stands m t at e None value s = tt
cut_stands m t at e (Some (xs, n)) value s =
    let sign = lexeme (lex.Equals, n) in
    let q = at + width_of xs + n in
    let w : at + width_of (xs ++ sign ∷ []) ≡ q = let z = width_more xs sign in omega (arith, z) in
    let behind = back_at m t at e q (xs ++ sign ∷ []) value (subst (IsStretchOf m t at e) (one_more xs sign value) s) w in (
      equals_one m t (at + width_of xs) e n value (stretch_back _ _ at e xs (sign ∷ value) s),
      stretch_front _ _ at e xs (sign ∷ value) s,
      subst (λ k. IsStretchOf m t q k value) (sym behind.width) behind,
    )

pub parts_stand : (m : Mode) (t : List ℕ) (at e most : ℕ) (ps : List PartMembers) → e < most → IsStretchOf m t at e (rejoined ps) → ArePartsAt m t most at ps
parts_stand m t at e most [] l s = tt
parts_stand m t at e most (p ∷ []) l s =
    let xs = joined p.name p.value in (
      record {
        all = subst (λ k. IsStretchOf m t at k xs) (sym s.width) s;
        cut = cut_stands m t at e p.name p.value s;
        ends = let z = s.width in omega (arith, z, l);
      },
      tt,
    )
parts_stand m t at e most (p ∷ q ∷ ps) l s =
    let xs = joined p.name p.value in
    let bar = lexeme (lex.Pipe, p.bar) in
    let rest = rejoined (q ∷ ps) in
    let front = stretch_front _ _ at e xs (bar ∷ rest) s in
    let w : at + width_of (xs ++ bar ∷ []) ≡ next_place at p = let z = width_more xs bar in omega (arith, z) in
    let behind = back_at m t at e (next_place at p) (xs ++ bar ∷ []) rest (subst (IsStretchOf m t at e) (one_more xs bar rest) s) w in (
      record {
        all = front;
        cut = cut_stands m t at (at + width_of xs) p.name p.value front;
        ends = let z = s.width in let y = width_append xs (bar ∷ rest) in omega (arith, z, y, l);
      },
      parts_stand m t (next_place at p) e most (q ∷ ps) l behind,
    )

-- ---- the first part and the second

-- the first part, which gives the target
pub record First (r : Reading) (t : List ℕ) (most at : ℕ) (s : Bool) (ps : List PartMembers) (part : PartAt) : Type 0 where
  pub left : List Member
  pub from_is : part.from ≡ at
  pub to_is : part.to ≡ first_end at ps
  pub within : first_end at ps < most
  pub stretch : IsStretchOf r.mode t at (first_end at ps) left
  pub gives : target_part (parts_given r s t at ps) ≡ given_from r s t at left

pub some_is : {A : Type 0} → (x y : A) → Some x ≡ Some y → x ≡ y
some_is x y e = cc

pub joined_width : (at : ℕ) (name : Option (List Member × ℕ)) (value : List Member)
    → at + (name_width name + width_of value) ≡ at + width_of (joined name value)
joined_width at None value = omega arith
joined_width at (Some (xs, n)) value = let e = width_append xs (lexeme (lex.Equals, n) ∷ value) in omega (arith, e)

all_given : (r : Reading) (s : Bool) (t : List ℕ) (at : ℕ) (name : Option (List Member × ℕ)) (value : List Member)
    → (part_given r s t at name value).all ≡ given_from r s t at (joined name value)
all_given r s t at None value = refl
all_given r s t at (Some x) value = refl

pub first_of : (r : Reading) (t : List ℕ) (most at : ℕ) (s : Bool) (ps : List PartMembers) (part : PartAt) → slice_get (placed at ps) 0 ≡ Some part
    → ArePartsAt r.mode t most at ps → First r t most at s ps part
first_of r t most at s [] part e h = absurd (let z : None ≡ Some part = e in cc)
first_of r t most at s (p ∷ ps) part e h =
    let is = some_is _ part e in
    record {
      left = joined p.name p.value;
      from_is = ap (λ x. x.from) (sym is);
      to_is = ap (λ x. x.to) (sym is) ∙ joined_width at p.name p.value;
      within = h.0.ends;
      stretch = h.0.all;
      gives = all_given r s t at p.name p.value;
    }

-- the second part, the default of an argument
pub record Second (r : Reading) (t : List ℕ) (most at : ℕ) (s : Bool) (ps : List PartMembers) (part : PartAt) : Type 0 where
  pub left : List Member
  pub first : PartOutput
  pub others : List PartOutput
  pub later_is : later_parts (parts_given r s t at ps) ≡ first ∷ others
  pub behind : first_end at ps < part.from
  pub within : part.to < most
  pub stretch : IsStretchOf r.mode t part.from part.to left
  pub gives : first.all ≡ given_from r (starts t part.from) t part.from left

pub second_of : (r : Reading) (t : List ℕ) (most at : ℕ) (s : Bool) (ps : List PartMembers) (part : PartAt) → slice_get (placed at ps) 1 ≡ Some part
    → ArePartsAt r.mode t most at ps → HaveBars ps → Second r t most at s ps part
second_of r t most at s [] part e h bars = absurd (let z : None ≡ Some part = e in cc)
second_of r t most at s (p ∷ []) part e h bars = absurd (let z : None ≡ Some part = e in cc)
second_of r t most at s (p ∷ q ∷ ps) part e h bars =
    let is = some_is _ part e in
    let w = joined_width at p.name p.value in
    let from : next_place at p ≡ part.from = ap (λ k. k + p.bar) (sym w) ∙ ap (λ x. x.from) is in
    let to : next_place at p + width_of (joined q.name q.value) ≡ part.to =
    ap (λ k. k + width_of (joined q.name q.value)) (ap (λ k. k + p.bar) (sym w))
    ∙ sym (joined_width (at + (name_width p.name + width_of p.value) + p.bar) q.name q.value) ∙ ap (λ x. x.to) is in
    record {
      left = joined q.name q.value;
      first = part_given r (starts t (next_place at p)) t (next_place at p) q.name q.value;
      others = parts_given r (starts t (next_place (next_place at p) q)) t (next_place (next_place at p) q) ps;
      later_is = refl;
      behind = let z = from in let one = bars.0 in omega (arith, z, one);
      within = let z = to in let y = h.1.0.ends in omega (arith, z, y);
      stretch = subst (λ k. IsStretchOf r.mode t k part.to (joined q.name q.value)) from
          (subst (λ k. IsStretchOf r.mode t (next_place at p) k (joined q.name q.value)) to h.1.0.all);
      gives = all_given r (starts t (next_place at p)) t (next_place at p) q.name q.value
          ∙ ap (λ k. given_from r (starts t k) t k (joined q.name q.value)) from;
    }

pub no_second : (r : Reading) (t : List ℕ) (at : ℕ) (s : Bool) (ps : List PartMembers) → slice_get (placed at ps) 1 ≡ None
    → later_parts (parts_given r s t at ps) ≡ []
no_second r t at s [] e = refl
no_second r t at s (p ∷ []) e = refl
no_second r t at s (p ∷ q ∷ ps) e = absurd (let z : Some _ ≡ None = e in cc)

-- ---- bars

bars_wide : (ps : List PartMembers) → AllFull (rejoined ps) → HaveBars ps
bars_wide [] f = tt
bars_wide (p ∷ []) f = tt
bars_wide (p ∷ q ∷ ps) f =
    let back = full_back (joined p.name p.value) (lexeme (lex.Pipe, p.bar) ∷ rejoined (q ∷ ps)) f in
    (back.0, bars_wide (q ∷ ps) back.1)

pub call_bars : (m : Mode) (t : List ℕ) (b : Braces) → (c : IsCallOf m t b) → HaveBars (part_members 0 c.inside)
call_bars m t b c = bars_wide (part_members 0 c.inside) (subst AllFull (sym (parts_join 0 c.inside)) c.stretch.full)

pub later_bars : (p : PartMembers) (ps : List PartMembers) → HaveBars (p ∷ ps) → HaveBars ps
later_bars p [] h = tt
later_bars p (q ∷ ps) h = h.1

-- a part ends before the next one begins
pub ends_before : (at : ℕ) (p : PartMembers) (ps : List PartMembers) → HaveBars (p ∷ ps)
    → IsBefore (at + width_of (joined p.name p.value)) (next_place at p) ps
ends_before at p [] h = tt
ends_before at p (q ∷ ps) h = let one = h.0 in omega (arith, one)

-- and so does what comes before its end
pub earlier : (p q at : ℕ) (ps : List PartMembers) → p ≤ q → IsBefore q at ps → IsBefore p at ps
earlier p q at [] l h = tt
earlier p q at (x ∷ ps) l h = omega (arith, l, h)

-- ---- behind the first part

pub behind_stands : (m : Mode) (t : List ℕ) (at e : ℕ) (ps : List PartMembers) → IsStretchOf m t at e (rejoined ps)
    → IsStretchOf m t (first_end at ps) e (members_behind ps)
behind_stands m t at e [] s = s
behind_stands m t at e (p ∷ []) s =
    let xs = joined p.name p.value in
    stretch_back _ _ at e xs [] (subst (IsStretchOf m t at e) (sym (append-nil xs)) s)
behind_stands m t at e (p ∷ q ∷ ps) s = stretch_back _ _ at e (joined p.name p.value) (lexeme (lex.Pipe, p.bar) ∷ rejoined (q ∷ ps)) s

-- a `|` gives the same at the start of a line
pub behind_same : (r : Reading) (t : List ℕ) (a b : Bool) (q : ℕ) (ps : List PartMembers)
    → given_from r a t q (members_behind ps) ≡ given_from r b t q (members_behind ps)
behind_same r t a b q [] = refl
behind_same r t a b q (p ∷ []) = refl
behind_same r t a b q (p ∷ x ∷ ps) = refl

-- ---- a call

abbrev pub call_is : (m : Mode) (t : List ℕ) (b : Braces) (p e k : ℕ) (ms : Members) (ys : List Member)
    → slice_get (calls 0 (words m t)) (calls_before p (calls 0 (words m t))) ≡ Some (braces_of b) → IsStretchOf m t p e (call k ms ∷ ys) → IsCallOf m t b
call_is m t b p e k ms ys f s =
    let c = stretch_call _ _ p e k ms ys s in
    let same = some_is (braces_of b) (call_at p k c.0 ms) (sym f ∙ c.1) in
    let inside = stretch_inside _ _ p e k ms ys s in
    let end : p + (k + width_of_all ms + k) ≡ b.at.end = sym (ap (λ x. x.to) same) in
    record {
      at = p;
      braces = k;
      inside = ms;
      start_is = ap (λ x. x.from) same;
      end_is = ap (λ x. x.to) same;
      kind_is = ap (λ x. x.argument) same;
      parts_are = ap (λ x. x.parts) same ∙ call_places (p + k) ms;
      two = s.full.0.0;
      opening = opening_there m t p e k ms ys s;
      closing = closing_there m t p e k ms ys s;
      fits = let z = s.width in let y = stretch_within _ _ p e (call k ms ∷ ys) s (omega (arith, z, s.full.0.0)) in let x = text_len m t in
          omega (arith, z, y, x, end);
      stretch = inside;
      parts_stand = parts_stand m t (p + k) (p + k + width_of_all ms) b.at.end (part_members 0 ms) (omega (arith, end, s.full.0.0))
          (subst (IsStretchOf m t (p + k) (p + k + width_of_all ms)) (sym (parts_join 0 ms)) inside);
    }
