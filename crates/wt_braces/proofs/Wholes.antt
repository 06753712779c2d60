-- All lexemes read: the calls of the definition.
use Rattle.std.proofs.Common.{◌≡◌, ℕ, ◌+◌, ◌<◌, ◌≤◌, ◌^◌, Bool, true, false, Option, Some, None, List, [], ◌∷◌, ◌++◌, length, drop, map, get_or, reverse, nat_le, nat_lt, refl, sym, ap, ◌∙◌, subst, arith}
use Rattle.std.specs.Prelude.{if◌then◌else◌, Result, Ok, Err}
use Rattle.std.proofs.lemmas.List.{drop_more, length-map}
use Rattle.wt_span.specs.declared.list.List.{List as Listed}
use Rattle.wt_span.specs.Lexemes.{Word}
use Rattle.wt_span.specs.Braces.{Member, Members, members, CallAt, PartSign, calls, calls_of_all, call_count_of_all, reduced, reduced_onto, with_word, open_left}
use Rattle.wt_lex.specs.declared.lexeme.Lexeme.{Lexeme}
use Rattle.wt_lex.specs.Places.{word_of}
use Rattle.wt_braces.specs.declared.call.Call.{Call}
use Rattle.wt_braces.specs.declared.call.BraceRefusal.{BraceRefusal}
use Rattle.wt_braces.specs.declared.call.BraceRefusal.TheVariants as refusal
use Rattle.wt_braces.specs.declared.matching.Closed.{Closed}
use Rattle.wt_braces.specs.Views.{ClosedAt, closed_at}
use Rattle.wt_braces.specs.Nested.{Nested, ordered, AreFew, OrderedAnswer}
use Rattle.wt_braces.specs.Matched.{closed_of, closed_of_all, Matched, with_level, with_run, with_calls, links_before, end_of, matched, Stands}
use Rattle.wt_braces.specs.Deep.{deep_of_all}
use Rattle.wt_braces.specs.Found.{first_place, AreAdjacent, too_deep, AnswersCalls}
use Rattle.wt_braces.specs.Leading.{IsRead}
use Rattle.wt_braces.specs.Reading.{Reading, AllRead}
use Rattle.wt_braces.proofs.Shapes.{Shape, plain, closing, opening, shape}
use Rattle.wt_braces.proofs.Takings.{level_close, level_open, level_plain}
use Rattle.wt_braces.proofs.Widths.{end_is, closed_in, closed_members}
use Rattle.wt_braces.proofs.Orders.{closed_count_all, in_order}
use Rattle.wt_braces.proofs.Sizes.{AreWide, wide_reduced, wide_text, light_all, few_closed}
use Rattle.wt_braces.proofs.Depths.{too_deep_is}

-- ---- lexeme by lexeme

pub reads_first : (xs : List Lexeme) (m : Matched) → AreAdjacent xs
    → m ≡ record { runs = []; signs = []; links = []; closed = [] } → Reading (first_place xs) (reduced_onto [] (map word_of xs)) m xs
reads_first xs m h e = record { place = first_place xs; before = []; stands = record { read = e; ends = refl }; follow = h; small = omega arith; same = refl }

reads_more : (at : ℕ) (goal : List Member) (m new : Matched) (x : Lexeme) (rest : List Lexeme) → Reading at goal m (x ∷ rest)
    → ((from : ℕ) (before : List Member) → Stands from before m x.at.start → Stands from (with_word (word_of x) before) new x.at.end)
    → x.at.end < 2 ^ 32 → Reading at goal new rest
reads_more at goal m new x rest h read small =
    let P : ℕ → Type 0 = λ p. Stands at h.before m p in
    record {
      place = x.at.end;
      before = with_word (word_of x) h.before;
      stands =
          read at h.before (subst P (sym h.follow.0) h.stands);
      follow = h.follow.1;
      small = omega (arith, small);
      same = h.same;
    }

next : (xs : List Lexeme) (i : ℕ) (x : Lexeme) → i < length xs → x ≡ get_or xs i x → drop i xs ≡ x ∷ drop (i + 1) xs
next xs i x lt is = drop_more xs i x lt ∙ ap (λ y. y ∷ drop (i + 1) xs) (sym is)

pub reads_next : (at : ℕ) (goal : List Member) (m new : Matched) (xs : List Lexeme) (i : ℕ) (x : Lexeme) → i < length xs
    → x ≡ get_or xs i x → Reading at goal m (drop i xs)
    → ((from : ℕ) (before : List Member) → Stands from before m x.at.start → Stands from
    (with_word (word_of x) before) new x.at.end) → x.at.end < 2 ^ 32 → Reading at goal new (drop (i + 1) xs)
reads_next at goal m new xs i x lt is h read small = reads_more at goal m new x (drop (i + 1) xs) (subst (Reading at goal m) (next xs i x lt is) h) read small

pub is_read : (at : ℕ) (goal : List Member) (m : Matched) (xs : List Lexeme) (i : ℕ) (x : Lexeme) → i < length xs
    → x ≡ get_or xs i x → Reading at goal m (drop i xs) → IsRead m x.at.start
is_read at goal m xs i x lt is h =
    let f : Reading at goal m (x ∷ drop (i + 1) xs) = subst (Reading at goal m) (next xs i x lt is) h in
    let P : ℕ → Type 0 = λ p. Stands at f.before m p in
    record { at = at; before = f.before; stands = subst P (sym f.follow.0) f.stands }

pub reads_all : (at : ℕ) (goal : List Member) (m : Matched) (xs : List Lexeme) → xs ≡ [] → Reading at goal m xs → AllRead at goal m
reads_all at goal m xs e h =
    let f : Reading at goal m [] = subst (Reading at goal m) e h in
    let P : List Member → Type 0 = λ b. Stands at b m f.place in
    record { place = f.place; stands = subst P f.same f.stands; small = f.small }

-- ---- the calls in the order of their last bytes

if_closed : (t : Bool) (m : Matched) (ss : List PartSign) (ls : List ℕ)
    → (if t then record { runs = m.runs; signs = ss; links = ls; closed = m.closed } else m).closed ≡ m.closed
if_closed true m ss ls = refl
if_closed false m ss ls = refl

level_closed : (at : ℕ) (x : Member) (m : Matched) → Shape x → (with_level at x m).closed ≡ m.closed
level_closed at x m (closing s) = ap (λ y. y.closed) (level_close at x m s.close) ∙ if_closed (nat_lt (links_before m.runs) (length m.links)) m _ _
level_closed at x m (opening s) = ap (λ y. y.closed) (level_open at x m s.no_close s.open_link)
level_closed at x m (plain s) = ap (λ y. y.closed) (level_plain at x m s.no_close s.no_open)

run_closed : (at n : ℕ) (m : Matched) → (with_run at n m).closed ≡ m.closed
run_closed at n m = by_test (nat_le 2 n)
  where
    by_test : (t : Bool) → (if t then record {
      runs =
          record { at = at; left = n; signs = length m.signs; links = length m.links; calls = length m.closed } ∷ m.runs;
      signs =
          m.signs;
      links = m.links;
      closed = m.closed;
    } else m).closed ≡ m.closed
    by_test true = refl
    by_test false = refl

closed_read : (at : ℕ) (before : List Member) → (matched at before).closed ≡ closed_in at 0 before
closed_read at [] = refl
closed_read at (x ∷ before) =
    let p = end_of at before in
    let m = matched at before in
    let before_x : (with_level p x m).closed ≡ closed_in at 0 before = level_closed p x m (shape x) ∙ closed_read at before in
    let z : length (closed_in at 0 before) ≡ 0 + length (closed_in at 0 before) = omega arith in
    run_closed p (open_left (Some x)) (with_calls p x (with_level p x m))
    ∙ ap (λ cs. cs ++ closed_of p (length cs) x) before_x ∙ ap (λ n. closed_in at 0 before ++ closed_of p n x) z

-- ---- the answer

text_of : List Word → Members
text_of ws = members (reverse (reduced_onto [] ws))

wide_words : (ws : List Word) → AreWide (text_of ws)
unfolding text_of
wide_words ws = wide_text (reduced_onto [] ws) (wide_reduced [] ws tt)

calls_are : (at : ℕ) (ws : List Word) → calls at ws ≡ calls_of_all at None 0 (text_of ws)
unfolding calls reduced text_of
calls_are at ws = refl

closed_are : (at : ℕ) (ws : List Word) (m : Matched) (closed : List Closed) → AllRead at (reduced_onto [] ws) m
    → map closed_at closed ≡ m.closed → map closed_at closed ≡ closed_of_all at 0 (text_of ws)
unfolding text_of
closed_are at ws m closed h e = e ∙ ap (λ y. y.closed) h.stands.read ∙ closed_read at (reduced_onto [] ws) ∙ closed_members at 0 (reduced_onto [] ws)

small_count : (at : ℕ) (ws : List Word) (m : Matched) → AllRead at (reduced_onto [] ws) m → call_count_of_all (text_of ws) ≤ 2 ^ 30
unfolding text_of
small_count at ws m h = omega (arith, light_all (text_of ws) (wide_words ws), end_is at (reduced_onto [] ws), h.stands.ends, h.small)

pub few_found : (at : ℕ) (ws : List Word) (m : Matched) (closed : List Closed) → AllRead at (reduced_onto [] ws) m
    → map closed_at closed ≡ m.closed → AreFew (reverse (map closed_at closed))
few_found at ws m closed h e =
    let P : List ClosedAt → Type 0 = λ cs. AreFew (reverse cs) in subst P (sym (closed_are at ws m closed h e))
    (few_closed at (text_of ws) (small_count at ws m h))

pub number_found : (at : ℕ) (ws : List Word) (m : Matched) (closed : List Closed) → AllRead at (reduced_onto [] ws) m
    → map closed_at closed ≡ m.closed → length closed ≤ 2 ^ 30
number_found at ws m closed h e =
    let n : length closed ≡ call_count_of_all (text_of ws) = sym (length-map closed closed_at)
    ∙ ap length (closed_are at ws m closed h e) ∙ closed_count_all at 0 (text_of ws) in
    omega (arith, n, small_count at ws m h)

answer : (cs : List CallAt) (deep : Option ℕ) (r : Result (Listed Call) BraceRefusal) → too_deep cs ≡ deep
    → OrderedAnswer (record { begun = []; written = cs; deep = deep }) r → AnswersCalls cs r
answer cs deep (Ok found) e h = (h.0, e ∙ h.1)
answer cs deep (Err (refusal.BracesTooDeep place)) e h = e ∙ h
answer cs deep (Err refusal.NoMemory) e h = tt

pub calls_found : (at : ℕ) (ws : List Word) (m : Matched) (closed : List Closed) (r : Result (Listed Call) BraceRefusal)
    → AllRead at (reduced_onto [] ws) m → map closed_at closed ≡ m.closed
    → OrderedAnswer (ordered (reverse (map closed_at closed)) (record { begun = []; written = []; deep = None })) r → AnswersCalls (calls at ws) r
calls_found at ws m closed r h e a =
    let ms = text_of ws in
    let P : Nested → Type 0 = λ s. OrderedAnswer s r in
    let Q : List CallAt → Type 0 = λ cs. AnswersCalls cs r in
    let is = ap (λ cs. ordered (reverse cs) (record { begun = []; written = []; deep = None })) (closed_are at ws m closed h e) ∙ in_order at ms in
    subst Q (sym (calls_are at ws)) (answer (calls_of_all at None 0 ms) (deep_of_all at 0 ms) r (too_deep_is at ms (wide_words ws)) (subst P is a))
