-- Chunks are cut at each run, and tell the items before it.
use Rattle.std.proofs.Common.{◌≡◌, ℕ, ◌<◌, ◌≤◌, Bool, true, false, List, [], ◌∷◌, ◌++◌, length, map, refl, sym, ap, ◌∙◌, arith, append-nil, append_assoc, subst}
use Rattle.std.specs.Prelude.{◌&&◌, ◌||◌, nat_le}
use Rattle.std.proofs.lemmas.Bool.Decides.{nat_tests}
use Rattle.wt_span.specs.Items.{Item}
use Rattle.wt_span.specs.Runs.{runs, IsRun, AreRuns}
use Rattle.wt_span.proofs.RunLaws.{runs_cut, runs_are, runs_only}
use Rattle.wt_quotes.specs.declared.chunk.Chunk.{Chunk}
use Rattle.wt_quotes.specs.declared.chunk.Chunk.TheVariants as chunk
use Rattle.wt_context.specs.Segments.{Segment, segment_items}
use Rattle.wt_context.specs.Chunks.{last_letter, letter_before, both_quotes, begins_with_quote, is_run, other_chunk, chunks_since, chunks}
use Rattle.wt_context.specs.RunCuts.{ends_with_quote, AreQuotes, IsRunBetween, has_run, IsTold}
use Rattle.wt_context.proofs.Quoting.{and_both}

-- ---- runs of segments behind segments that don't go on with them

no_join : (u v : Segment) → u.quote ≡ false → both_quotes u v ≡ false
no_join u v e = rw e refl

run_further : (r others vs : List Segment) → IsRun both_quotes r others → ends_with_quote (r ++ others) ≡ false → IsRun both_quotes r (others ++ vs)
run_further [] others vs h e = absurd h
run_further (u ∷ []) [] [] h e = tt
run_further (u ∷ []) [] (v ∷ vs) h e = no_join u v e
run_further (u ∷ []) (w ∷ others) vs h e = h
run_further (u ∷ w ∷ r) others vs h e = (h.0, run_further (w ∷ r) others vs h.1 e)

rest_ends : (r others : List Segment) → ends_with_quote (r ++ others) ≡ false → ends_with_quote others ≡ false
rest_ends [] others e = e
rest_ends (u ∷ []) [] e = refl
rest_ends (u ∷ []) (v ∷ others) e = e
rest_ends (u ∷ w ∷ r) others e = rest_ends (w ∷ r) others e

runs_both : (rs ss : List (List Segment)) (us vs : List Segment) → ends_with_quote us ≡ false → AreRuns both_quotes rs us → AreRuns both_quotes ss vs
    → AreRuns both_quotes (rs ++ ss) (us ++ vs)
runs_both [] ss us vs e h g = subst (AreRuns both_quotes ss) (sym (ap (λ ws. ws ++ vs) h)) g
runs_both (r ∷ rs) ss us vs e h g =
    let end : ends_with_quote (r ++ h.0) ≡ false = sym (ap ends_with_quote h.1) ∙ e in (
      h.0 ++ vs,
      ap (λ ws. ws ++ vs) h.1 ∙ append_assoc r h.0 vs,
      run_further r h.0 vs h.2 end,
      runs_both rs ss h.0 vs (rest_ends r h.0 end) h.3 g,
    )

runs_apart : (us vs : List Segment) → ends_with_quote us ≡ false → runs both_quotes (us ++ vs) ≡ runs both_quotes us ++ runs both_quotes vs
runs_apart us vs e =
    sym (runs_only both_quotes (runs both_quotes us ++ runs both_quotes vs) (us ++ vs)
    (runs_both (runs both_quotes us) (runs both_quotes vs) us vs e (runs_are both_quotes us) (runs_are both_quotes vs)))

-- ---- a run itself

quotes_run : (run vs : List Segment) → AreQuotes run → 0 < length run → begins_with_quote vs ≡ false → IsRun both_quotes run vs
quotes_run [] vs q l e = absurd (omega arith)
quotes_run (u ∷ []) [] q l e = tt
quotes_run (u ∷ []) (v ∷ vs) q l e = rw (q.0, e) refl
quotes_run (u ∷ w ∷ run) vs q l e = (and_both u.quote w.quote q.0 q.1.0, quotes_run (w ∷ run) vs q.1 (omega arith) e)

two_quotes : (run : List Segment) → AreQuotes run → 2 ≤ length run → is_run run ≡ true
two_quotes [] q l = absurd (omega arith)
two_quotes (u ∷ run) q l = let n : nat_le 2 (length (u ∷ run)) ≡ true = grind (arith, nat_tests) in rw (q.0, n) refl

-- ---- chunks

since_run : (xs : List Item) (run : List Segment) (ss : List (List Segment)) → is_run run ≡ true
    → chunks_since xs (run ∷ ss) ≡ chunk.Run (length run) ∷ chunks_since [] ss
since_run xs run ss e = rw e refl

since_by : (xs : List Item) (r run : List Segment) (rs ss : List (List Segment)) (v : Bool) → is_run r ≡ v
    → ((ys : List Item) → chunks_since ys (rs ++ run ∷ ss) ≡ chunks_since ys rs ++ chunk.Run (length run) ∷ chunks_since [] ss)
    → chunks_since xs (r ∷ (rs ++ run ∷ ss)) ≡ chunks_since xs (r ∷ rs) ++ chunk.Run (length run) ∷ chunks_since [] ss
since_by xs r run rs ss true e h = rw e (ap (λ cs. chunk.Run (length r) ∷ cs) (h []))
since_by xs r run rs ss false e h = rw e (ap (λ cs. other_chunk (length r) (xs ++ segment_items r) ∷ cs) (h (xs ++ segment_items r)))

since_both : (xs : List Item) (run : List Segment) (rs ss : List (List Segment)) → is_run run ≡ true
    → chunks_since xs (rs ++ run ∷ ss) ≡ chunks_since xs rs ++ chunk.Run (length run) ∷ chunks_since [] ss
since_both xs run [] ss e = since_run xs run ss e
since_both xs run (r ∷ rs) ss e = since_by xs r run rs ss (is_run r) refl (λ ys. since_both ys run rs ss e)

pub cut_at_run : (us run vs : List Segment) → IsRunBetween us run vs → chunks (us ++ (run ++ vs)) ≡ chunks us ++ chunk.Run (length run) ∷ chunks vs
unfolding chunks
cut_at_run us run vs h =
    ap (chunks_since [])
    (runs_apart us (run ++ vs) h.before
    ∙ ap (λ rs. runs both_quotes us ++ rs) (runs_cut both_quotes run vs (quotes_run run vs h.quotes (omega (arith, h.some)) h.behind)))
    ∙ since_both [] run (runs both_quotes us) (runs both_quotes vs) (two_quotes run h.quotes h.some)

-- ---- no run

or_left : (a b : Bool) → (a || b) ≡ false → a ≡ false
or_left true b e = cc
or_left false b e = refl

or_right : (a b : Bool) → (a || b) ≡ false → b ≡ false
or_right true b e = cc
or_right false b e = e

runs_single : (us : List Segment) → has_run us ≡ false → runs both_quotes us ≡ map (λ u. u ∷ []) us
runs_single [] e = refl
runs_single (u ∷ []) e = refl
runs_single (u ∷ v ∷ us) e =
    runs_cut both_quotes (u ∷ []) (v ∷ us) (or_left (both_quotes u v) (has_run (v ∷ us)) e)
    ∙ ap (λ rs. (u ∷ []) ∷ rs) (runs_single (v ∷ us) (or_right (both_quotes u v) (has_run (v ∷ us)) e))

no_run : (u : Segment) → is_run (u ∷ []) ≡ false
no_run u = by u.quote
  where
    by : (a : Bool) → (a && nat_le 2 1) ≡ false
    by true = refl
    by false = refl

since_single : (xs : List Item) (u : Segment) (rs : List (List Segment))
    → chunks_since xs ((u ∷ []) ∷ rs) ≡ other_chunk 1 (xs ++ u.items) ∷ chunks_since (xs ++ u.items) rs
since_single xs u rs = let z = no_run u in rw (z, append-nil u.items) refl

-- the last chunk of segments that are no runs, behind such items
abbrev IsToldBehind : List Item → List Segment → Type 0
IsToldBehind xs us = (cs : List Chunk) × (n : ℕ)
    × (chunks_since xs (map (λ u. u ∷ []) us) ≡ cs ++ chunk.Text n (last_letter (xs ++ segment_items us)) (letter_before (xs ++ segment_items us)) ∷ [])

told_behind : (xs : List Item) (us : List Segment) → 0 < length us → IsToldBehind xs us
told_behind xs [] l = absurd (omega arith)
told_behind xs (u ∷ []) l =
    ([], 1, since_single xs u [] ∙ ap (λ ys. other_chunk 1 (xs ++ ys) ∷ []) (sym (append-nil u.items)))
told_behind xs (u ∷ v ∷ us) l =
    let t = told_behind (xs ++ u.items) (v ∷ us) (omega arith) in
    let a = append_assoc xs u.items (segment_items (v ∷ us)) in (
      other_chunk 1 (xs ++ u.items) ∷ t.0,
      t.1,
      since_single xs u (map (λ w. w ∷ []) (v ∷ us))
          ∙ ap (λ cs. other_chunk 1 (xs ++ u.items) ∷ cs) (t.2 ∙ ap (λ ys. t.0 ++ chunk.Text t.1 (last_letter ys) (letter_before ys) ∷ []) a),
    )

pub items_before_run : (us : List Segment) → 0 < length us → has_run us ≡ false → IsTold us
unfolding chunks
items_before_run us l e = let t = told_behind [] us l in (t.0, t.1, ap (chunks_since []) (runs_single us e) ∙ t.2)
