-- The calls of a page, and those of the same page with other texts, are the same but for where they are.
use Rattle.std.proofs.Common.{arith, ◌≡◌, ◌⊎◌, ◌≤◌, inl, inr, ℕ, suc, ◌+◌, ◌-◌, Option, Some, None, List, [], ◌∷◌, ◌++◌, length, map, refl, sym, ap, ap₂, ◌∙◌, subst}
use Rattle.std.proofs.lemmas.Bool.{cases_lt}
use Rattle.wt_span.specs.Origins.{OuterCall, Span}
use Rattle.wt_expand.specs.Work.{Pages}
use Rattle.wt_expand.specs.PageCalls.{expanded_page}
use Rattle.wt_part_laws.specs.Expanded.{moved_span, moved_place, moved_call}
use Rattle.wt_text_edit_laws.specs.BlockSpots.{BlockSpot, SameRound, AreContents}
use Rattle.wt_text_edit_laws.specs.TextBlocks.{source_of}
use Rattle.wt_called_edit_laws.specs.CalledBlocks.{CallNothing}
use Rattle.wt_called_edit_laws.specs.Parts.{called_outers}
use Rattle.wt_called_edit_laws.proofs.Parts.NoCallsCalled.{calm_outers}
use Rattle.wt_part_laws.specs.MovedCalls.{IsMoved, AreMoved}

-- ---- a call that is moved twice, and one that isn't moved

sum : (a b n : ℕ) → a + (b + n) ≡ (a + b) + n
sum a b n = omega arith

nothing : (n : ℕ) → n ≡ 0 + n
nothing n = omega arith

spans_twice : (a b : ℕ) (ps : List Span) → map (moved_span a) (map (moved_span b) ps) ≡ map (moved_span (a + b)) ps
spans_twice a b [] = refl
spans_twice a b (p ∷ ps) = ap₂ (λ (q : Span) (qs : List Span). q ∷ qs) (ap₂ (λ (i j : ℕ). (i, j)) (sum a b p.0) (sum a b p.1)) (spans_twice a b ps)

place_twice : (a b : ℕ) (o : Option ℕ) → moved_place a (moved_place b o) ≡ moved_place (a + b) o
place_twice a b None = refl
place_twice a b (Some at) = ap (λ (i : ℕ). Some i) (sum a b at)

places_twice : (a b : ℕ) (os : List (Option ℕ)) → map (moved_place a) (map (moved_place b) os) ≡ map (moved_place (a + b)) os
places_twice a b [] = refl
places_twice a b (o ∷ os) = ap₂ (λ (x : Option ℕ) (xs : List (Option ℕ)). x ∷ xs) (place_twice a b o) (places_twice a b os)

-- by its places
abbrev placed_call : OuterCall → ℕ → List Span → List (Option ℕ) → OuterCall
placed_call c i ps os = record { start = i; source = c.source; argument = c.argument; parts = ps; equals = os; href = c.href }

pub moved_twice : (a b : ℕ) (c : OuterCall) → moved_call a (moved_call b c) ≡ moved_call (a + b) c
moved_twice a b c =
    ap (λ (i : ℕ). placed_call c i (map (moved_span a) (map (moved_span b) c.parts)) (map (moved_place a) (map (moved_place b) c.equals))) (sum a b c.start)
    ∙ ap₂ (λ (ps : List Span) (os : List (Option ℕ)). placed_call c ((a + b) + c.start) ps os) (spans_twice a b c.parts) (places_twice a b c.equals)

spans_still : (ps : List Span) → ps ≡ map (moved_span 0) ps
spans_still [] = refl
spans_still (p ∷ ps) = ap₂ (λ (q : Span) (qs : List Span). q ∷ qs) (ap₂ (λ (i j : ℕ). (i, j)) (nothing p.0) (nothing p.1)) (spans_still ps)

place_still : (o : Option ℕ) → o ≡ moved_place 0 o
place_still None = refl
place_still (Some at) = ap (λ (i : ℕ). Some i) (nothing at)

places_still : (os : List (Option ℕ)) → os ≡ map (moved_place 0) os
places_still [] = refl
places_still (o ∷ os) = ap₂ (λ (x : Option ℕ) (xs : List (Option ℕ)). x ∷ xs) (place_still o) (places_still os)

pub moved_still : (c : OuterCall) → c ≡ moved_call 0 c
moved_still c =
    ap (λ (i : ℕ). placed_call c i c.parts c.equals) (nothing c.start)
    ∙ ap₂ (λ (ps : List Span) (os : List (Option ℕ)). placed_call c (0 + c.start) ps os) (spans_still c.parts) (places_still c.equals)

-- ---- lists of calls

pub same_calls : (cs : List OuterCall) → AreMoved cs cs
same_calls [] = tt
same_calls (c ∷ cs) = (record { call = c; first = 0; second = 0; was = moved_still c; now = moved_still c }, same_calls cs)

further_calls : (a b : ℕ) (cs ds : List OuterCall) → AreMoved cs ds → AreMoved (map (moved_call a) cs) (map (moved_call b) ds)
further_calls a b [] [] m = tt
further_calls a b [] (d ∷ ds) m = absurd m
further_calls a b (c ∷ cs) [] m = absurd m
further_calls a b (c ∷ cs) (d ∷ ds) m =
    let o : IsMoved c d = m.0 in (
      record {
        call = o.call;
        first = a + o.first;
        second = b + o.second;
        was = ap (moved_call a) o.was ∙ moved_twice a o.first o.call;
        now = ap (moved_call b) o.now ∙ moved_twice b o.second o.call;
      },
      further_calls a b cs ds m.1,
    )

pub both_calls : (cs ds us vs : List OuterCall) → AreMoved cs ds → AreMoved us vs → AreMoved (cs ++ us) (ds ++ vs)
both_calls [] [] us vs m n = n
both_calls [] (d ∷ ds) us vs m n = absurd m
both_calls (c ∷ cs) [] us vs m n = absurd m
both_calls (c ∷ cs) (d ∷ ds) us vs m n = (m.0, both_calls cs ds us vs m.1 n)

-- ---- so many bytes earlier

span_back : ℕ → Span → Span
span_back d s = (s.0 - d, s.1 - d)

place_back : ℕ → Option ℕ → Option ℕ
place_back d None = None
place_back d (Some at) = Some (at - d)

back : (d n : ℕ) → (d + n) - d ≡ n
back d n = omega arith

spans_back : (d : ℕ) (ps : List Span) → map (span_back d) (map (moved_span d) ps) ≡ ps
unfolding span_back
spans_back d [] = refl
spans_back d (p ∷ ps) = ap₂ (λ (q : Span) (qs : List Span). q ∷ qs) (ap₂ (λ (i j : ℕ). (i, j)) (back d p.0) (back d p.1)) (spans_back d ps)

places_back : (d : ℕ) (os : List (Option ℕ)) → map (place_back d) (map (moved_place d) os) ≡ os
unfolding place_back
places_back d [] = refl
places_back d (None ∷ os) = ap (λ (xs : List (Option ℕ)). None ∷ xs) (places_back d os)
places_back d (Some at ∷ os) = ap₂ (λ (i : ℕ) (xs : List (Option ℕ)). Some i ∷ xs) (back d at) (places_back d os)

call_back : ℕ → OuterCall → OuterCall
call_back d c = placed_call c (c.start - d) (map (span_back d) c.parts) (map (place_back d) c.equals)

moved_back : (d : ℕ) (c : OuterCall) → call_back d (moved_call d c) ≡ c
unfolding call_back
moved_back d c =
    ap (λ (i : ℕ). placed_call c i (map (span_back d) (map (moved_span d) c.parts)) (map (place_back d) (map (moved_place d) c.equals))) (back d c.start)
    ∙ ap₂ (λ (ps : List Span) (os : List (Option ℕ)). placed_call c c.start ps os) (spans_back d c.parts) (places_back d c.equals)

-- one call at two places is another one at the second of them
further_on : (a b : ℕ) (x y : OuterCall) → a ≤ b → moved_call a x ≡ moved_call b y → x ≡ moved_call (b - a) y
further_on a b x y le e =
    let z : a + (b - a) ≡ b = omega (arith, le) in
    sym (moved_back a x) ∙ ap (call_back a) (e ∙ ap (λ (n : ℕ). moved_call n y) (sym z) ∙ sym (moved_twice a (b - a) y)) ∙ moved_back a (moved_call (b - a) y)

same_moved : (c d e : OuterCall) → IsMoved c d → IsMoved d e → IsMoved c e
same_moved c d e m n = by (cases_le m.second n.first)
  where
    same : moved_call m.second m.call ≡ moved_call n.first n.call
    same = sym m.now ∙ n.was

    by : (m.second ≤ n.first) ⊎ (n.first ≤ m.second) → IsMoved c e
    by (inl le) = record {
      call = n.call;
      first = m.first + (n.first - m.second);
      second = n.second;
      was = m.was ∙ ap (moved_call m.first) (further_on m.second n.first m.call n.call le same) ∙ moved_twice m.first (n.first - m.second) n.call;
      now = n.now;
    }
    by (inr le) = record {
      call = m.call;
      first = m.first;
      second = n.second + (m.second - n.first);
      was = m.was;
      now = n.now ∙ ap (moved_call n.second) (further_on n.first m.second n.call m.call le (sym same)) ∙ moved_twice n.second (m.second - n.first) m.call;
    }

    cases_le : (i j : ℕ) → (i ≤ j) ⊎ (j ≤ i)
    cases_le i j = elim (cases_lt i j) [
      | inl lt ↦ inl (omega (arith, lt))
      | inr le ↦ inr le
    ]

pub calls_after : (cs ds es : List OuterCall) → AreMoved cs ds → AreMoved ds es → AreMoved cs es
calls_after [] [] es m n = n
calls_after [] (d ∷ ds) es m n = absurd m
calls_after (c ∷ cs) [] es m n = absurd m
calls_after (c ∷ cs) (d ∷ ds) [] m n = absurd n
calls_after (c ∷ cs) (d ∷ ds) (e ∷ es) m n = (same_moved c d e m.0 n.0, calls_after cs ds es m.1 n.1)

pub moved_count : (cs ds : List OuterCall) → AreMoved cs ds → length ds ≡ length cs
moved_count [] [] m = refl
moved_count [] (d ∷ ds) m = absurd m
moved_count (c ∷ cs) [] m = absurd m
moved_count (c ∷ cs) (d ∷ ds) m = ap suc (moved_count cs ds m.1)

-- the second ones so many bytes later
pub later_calls : (d : ℕ) (cs ds : List OuterCall) → AreMoved cs ds → AreMoved cs (map (moved_call d) ds)
later_calls d [] [] m = tt
later_calls d [] (x ∷ ds) m = absurd m
later_calls d (c ∷ cs) [] m = absurd m
later_calls d (c ∷ cs) (x ∷ ds) m =
    let o : IsMoved c x = m.0 in (
      record { call = o.call; first = o.first; second = d + o.second; was = o.was; now = ap (moved_call d) o.now ∙ moved_twice d o.second o.call },
      later_calls d cs ds m.1,
    )

-- ---- those of the page

own_calls : (cs ds : List OuterCall) → cs ≡ [] → ds ≡ [] → AreMoved cs ds
own_calls cs ds e f = subst (λ (os : List OuterCall). AreMoved os ds) (sym e) (subst (λ (os : List OuterCall). AreMoved [] os) (sym f) tt)

-- of each block
abbrev pub OwnMoved : Pages → List BlockSpot → List BlockSpot → Type 0
OwnMoved pages [] rs = Unit {0}
OwnMoved pages (s ∷ ss) [] = Unit {0}
OwnMoved pages (s ∷ ss) (r ∷ rs) =
    AreMoved (expanded_page pages (source_of s.block s.text)).outer (expanded_page pages (source_of r.block r.text)).outer × OwnMoved pages ss rs

pub all_moved : (pages : Pages) (ss rs : List BlockSpot) (behind : List ℕ) → SameRound ss rs → OwnMoved pages ss rs
    → AreMoved (called_outers pages ss behind) (called_outers pages rs behind)
all_moved pages [] [] behind e o = same_calls (expanded_page pages behind).outer
all_moved pages [] (r ∷ rs) behind e o = absurd e
all_moved pages (s ∷ ss) [] behind e o = absurd e
all_moved pages (s ∷ ss) (r ∷ rs) behind e o =
    let was : List OuterCall = (expanded_page pages s.before).outer in
    let now : List OuterCall = (expanded_page pages r.before).outer in
    let own_old : List OuterCall = (expanded_page pages (source_of s.block s.text)).outer in
    let own_new : List OuterCall = (expanded_page pages (source_of r.block r.text)).outer in
    let old : List OuterCall = called_outers pages ss behind in
    let new : List OuterCall = called_outers pages rs behind in
    let i : ℕ = length (source_of s.block s.text) in
    let j : ℕ = length (source_of r.block r.text) in
    both_calls was now (map (moved_call (length s.before)) (own_old ++ map (moved_call i) old)) (map (moved_call (length r.before)) (own_new ++ map (moved_call j) new))
    (subst (λ bs. AreMoved was (expanded_page pages bs).outer) (sym e.0) (same_calls was))
    (further_calls (length s.before) (length r.before) (own_old ++ map (moved_call i) old) (own_new ++ map (moved_call j) new)
    (both_calls own_old own_new (map (moved_call i) old) (map (moved_call j) new) o.0 (further_calls i j old new (all_moved pages ss rs behind e.2 o.1))))

own_moved : (pages : Pages) (ss rs : List BlockSpot) → AreContents ss → CallNothing ss → AreContents rs → CallNothing rs → OwnMoved pages ss rs
own_moved pages [] rs b c d f = tt
own_moved pages (s ∷ ss) [] b c d f = tt
own_moved pages (s ∷ ss) (r ∷ rs) b c d f = (
  own_calls (expanded_page pages (source_of s.block s.text)).outer (expanded_page pages (source_of r.block r.text)).outer (calm_outers pages s.block s.text b.0 c.0)
      (calm_outers pages r.block r.text d.0 f.0),
  own_moved pages ss rs b.1 c.1 d.1 f.1,
)

pub outers_moved : (pages : Pages) (ss rs : List BlockSpot) (behind : List ℕ) → SameRound ss rs → AreContents ss → CallNothing ss → AreContents rs → CallNothing rs
    → AreMoved (called_outers pages ss behind) (called_outers pages rs behind)
outers_moved pages ss rs behind e b c d f = all_moved pages ss rs behind e (own_moved pages ss rs b c d f)
