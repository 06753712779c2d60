-- The chunks of segments: as they are carried, and as they are defined.
use Rattle.std.proofs.Common.{◌≡◌, ℕ, suc, ◌+◌, ◌<◌, ◌≤◌, Bool, true, false, Some, None, List, [], ◌∷◌, ◌++◌, length, reverse, refl, sym, ap, ◌∙◌, arith, append_assoc, append-nil, length-append}
use Rattle.std.specs.Prelude.{◌&&◌, not, nat_le, slice_get, if◌then◌else◌}
use Rattle.std.specs.List.{flat_map, list_all, AllByRecursion}
use Rattle.std.proofs.lemmas.Bool.Decides.{nat_tests}
use Rattle.std.proofs.lemmas.List.{reverse-append}
use Rattle.std.proofs.lemmas.List.Elements.{filter-append}
use Rattle.wt_span.specs.Items.{Item, char, whole, is_mark}
use Rattle.wt_span.specs.Runs.{runs, IsRun, AreRuns}
use Rattle.wt_span.proofs.RunLaws.{runs_cut, runs_alone, runs_are, runs_joined}
use Rattle.wt_quotes.specs.declared.chunk.Chunk.{Chunk}
use Rattle.wt_quotes.specs.declared.chunk.Chunk.TheVariants as chunk
use Rattle.wt_quotes.specs.Runs.{bytes_of, is_run as is_run_chunk, are_apart}
use Rattle.wt_context.specs.declared.seen.Seen.{Seen}
use Rattle.wt_context.specs.Segments.{Segment, is_quote, segment_items}
use Rattle.wt_context.specs.Seen.{nothing_seen, seen_letter, after_item, after_items}
use Rattle.wt_context.specs.Chunks.{visible, letter, last_letter, letter_before, both_quotes, begins_with_quote, is_run, other_chunk, chunks_since, chunks}
use Rattle.wt_context.specs.Chunking.{other, flushed, chunks_after}
use Rattle.wt_context.proofs.Quoting.{and_left, and_right, and_both, all_both}

-- ---- what was seen

abbrev pub seen_of : List Item → Seen
seen_of xs = record { last = last_letter xs; before = letter_before xs }

one_by : (xs : List Item) (x : Item) (v : Bool) → is_mark x ≡ v → visible (xs ++ x ∷ []) ≡ visible xs ++ (if v then [] else x ∷ [])
one_by xs x true e = filter-append (λ y. not (is_mark y)) xs (x ∷ []) ∙ ap (λ ys. visible xs ++ ys) (rw e refl)
one_by xs x false e = filter-append (λ y. not (is_mark y)) xs (x ∷ []) ∙ ap (λ ys. visible xs ++ ys) (rw e refl)

abbrev by_list : List Item → Seen
by_list ys = record { last = letter (slice_get (reverse ys) 0); before = letter (slice_get (reverse ys) 1) }

abbrev by_reverse : List Item → Seen
by_reverse zs = record { last = letter (slice_get zs 0); before = letter (slice_get zs 1) }

last_is : (ys : List Item) (y : Item) → by_list (ys ++ y ∷ []) ≡ by_reverse (y ∷ reverse ys)
last_is ys y = ap by_reverse (reverse-append ys (y ∷ []))

one_more_by : (xs : List Item) (x : Item) (v : Bool) → is_mark x ≡ v → after_item (seen_of xs) x ≡ seen_of (xs ++ x ∷ [])
one_more_by xs x true e = rw e (sym (ap by_list (one_by xs x true e ∙ append-nil (visible xs))))
one_more_by xs x false e = rw e (sym (ap by_list (one_by xs x false e) ∙ last_is (visible xs) x))

pub seen_more : (xs ys : List Item) → after_items (seen_of xs) ys ≡ seen_of (xs ++ ys)
seen_more xs [] = ap seen_of (sym (append-nil xs))
seen_more xs (y ∷ ys) = ap (λ s. after_items s ys) (one_more_by xs y (is_mark y) refl) ∙ seen_more (xs ++ y ∷ []) ys ∙ ap seen_of (append_assoc xs (y ∷ []) ys)

-- ---- segments that are apostrophes

-- one that is told to be an apostrophe is one
abbrev pub IsProper : Segment → Type 0
IsProper u = u.quote ≡ true → (x : Item) × (u.items ≡ x ∷ []) × (is_quote x ≡ true)

abbrev pub AreProper : List Segment → Type 0
AreProper us = AllByRecursion IsProper us

abbrev pub are_open : List Segment → Bool
are_open us = list_all (λ u. u.quote) us

open_run : (qs : List Segment) → 0 < length qs → are_open qs ≡ true → IsRun both_quotes qs []
open_run [] s e = absurd (omega arith)
open_run (u ∷ []) s e = tt
open_run (u ∷ v ∷ us) s e =
    let t = and_right u.quote (are_open (v ∷ us)) e in
    (and_both u.quote v.quote (and_left u.quote (are_open (v ∷ us)) e) (and_left v.quote (are_open us) t), open_run (v ∷ us) (omega arith) t)

open_runs : (qs : List Segment) → 0 < length qs → are_open qs ≡ true → runs both_quotes qs ≡ qs ∷ []
open_runs qs s e = ap (runs both_quotes) (sym (append-nil qs)) ∙ runs_cut both_quotes qs [] (open_run qs s e)

no_right : (a b : Bool) → b ≡ false → (a && b) ≡ false
no_right true b e = e
no_right false b e = refl

other_runs : (qs us : List Segment) (u : Segment) → u.quote ≡ false → runs both_quotes (qs ++ u ∷ us) ≡ runs both_quotes qs ++ (u ∷ []) ∷ runs both_quotes us
other_runs qs us u e = runs_alone both_quotes u qs us (λ x. no_right x.quote u.quote e) (λ y. rw e refl)

-- a single apostrophe, as an item
quote_seen : (s : Seen) (x : Item) → is_quote x ≡ true → after_items s (x ∷ []) ≡ seen_letter s (Some 39)
quote_seen s (char o b) e = let i : b ≡ 39 = grind (arith, nat_tests) in ap (λ c. seen_letter s (Some c)) i
quote_seen s (whole f o bs) e = cc

two_or_more : (n : ℕ) → nat_le 2 (suc (suc n)) ≡ true
two_or_more n = grind (arith, nat_tests)

-- apostrophes before other runs, whose chunks hang on what was seen alone
flush_open : (xs : List Item) (qs : List Segment) (gs : List (List Segment)) (next : Seen → List Chunk) → are_open qs ≡ true → AreProper qs
    → ((ys : List Item) → chunks_since ys gs ≡ next (seen_of ys)) → chunks_since xs (runs both_quotes qs ++ gs) ≡ flushed (seen_of xs) (length qs) next
flush_open xs [] gs next e p h = h xs
flush_open xs (q ∷ []) gs next e p h =
    let o = and_left q.quote true e in
    let y = p.0 o in
    let one : segment_items (q ∷ []) ≡ y.0 ∷ [] = append-nil q.items ∙ y.1 in
    let z : seen_of (xs ++ segment_items (q ∷ [])) ≡ seen_letter (seen_of xs) (Some 39) = ap (λ zs. seen_of (xs ++ zs)) one ∙ sym (seen_more xs (y.0 ∷ []))
    ∙ quote_seen (seen_of xs) y.0 y.2 in
    let r : is_run (q ∷ []) ≡ false = rw o refl in
    rw r (ap (λ cs. other (seen_of (xs ++ segment_items (q ∷ []))) ∷ cs) (h (xs ++ segment_items (q ∷ []))) ∙ ap (λ t. other t ∷ next t) z)
flush_open xs (q ∷ r ∷ qs) gs next e p h =
    let o = and_left q.quote (are_open (r ∷ qs)) e in
    let two = two_or_more (length qs) in
    let run : is_run (q ∷ r ∷ qs) ≡ true = and_both q.quote (nat_le 2 (length (q ∷ r ∷ qs))) o two in
    ap (λ rs. chunks_since xs (rs ++ gs)) (open_runs (q ∷ r ∷ qs) (omega arith) e)
    ∙ rw (run, two) (ap (λ cs. chunk.Run (length (q ∷ r ∷ qs)) ∷ cs) (h []))

-- what follows segments of which all are read by what was seen
abbrev AreRead : List Segment → Type 0
AreRead us = (ys : List Item) (ps : List Segment) → are_open ps ≡ true → AreProper ps
    → chunks_since ys (runs both_quotes (ps ++ us)) ≡ chunks_after (seen_of ys) (length ps) us

pub proper_both : (ps qs : List Segment) → AreProper ps → AreProper qs → AreProper (ps ++ qs)
proper_both [] qs a b = b
proper_both (p ∷ ps) qs a b = (a.0, proper_both ps qs a.1 b)

all_one : (ps : List Segment) (u : Segment) → are_open ps ≡ true → u.quote ≡ true → are_open (ps ++ u ∷ []) ≡ true
all_one ps u e f = all_both (λ v. v.quote) ps (u ∷ []) e (and_both u.quote true f refl)

quote_step : (s : Seen) (n : ℕ) (u : Segment) (us : List Segment) → u.quote ≡ true → chunks_after s (suc n) us ≡ chunks_after s n (u ∷ us)
quote_step s n u us e = rw e refl

other_step : (s : Seen) (n : ℕ) (u : Segment) (us : List Segment) → u.quote ≡ false
    → flushed s n (λ t. other (after_items t u.items) ∷ chunks_after (after_items t u.items) 0 us) ≡ chunks_after s n (u ∷ us)
other_step s n u us e = rw e refl

no_left : (a b : Bool) → a ≡ false → (a && b) ≡ false
no_left true b e = cc
no_left false b e = refl

since_other : (ys : List Item) (u : Segment) (gs : List (List Segment)) → u.quote ≡ false
    → chunks_since ys ((u ∷ []) ∷ gs) ≡ other (seen_of (ys ++ segment_items (u ∷ []))) ∷ chunks_since (ys ++ segment_items (u ∷ [])) gs
since_other ys u gs e = let r : is_run (u ∷ []) ≡ false = no_left u.quote (nat_le 2 (length (u ∷ []))) e in rw r refl

read_by : (xs : List Item) (qs us : List Segment) (u : Segment) (v : Bool) → u.quote ≡ v → are_open qs ≡ true → AreProper qs → IsProper u → AreRead us
    → chunks_since xs (runs both_quotes (qs ++ u ∷ us)) ≡ chunks_after (seen_of xs) (length qs) (u ∷ us)
read_by xs qs us u true q e p h rest =
    let n : length (qs ++ u ∷ []) ≡ suc (length qs) = omega (arith, length-append qs (u ∷ [])) in
    ap (λ ws. chunks_since xs (runs both_quotes ws)) (sym (append_assoc qs (u ∷ []) us))
    ∙ rest xs (qs ++ u ∷ []) (all_one qs u e q) (proper_both qs (u ∷ []) p (h, tt))
    ∙ ap (λ k. chunks_after (seen_of xs) k us) n ∙ quote_step (seen_of xs) (length qs) u us q
read_by xs qs us u false q e p h rest =
    let next : Seen → List Chunk = λ t. other (after_items t u.items) ∷ chunks_after (after_items t u.items) 0 us in
    let one : (ys : List Item) → ys ++ segment_items (u ∷ []) ≡ ys ++ u.items = λ ys. ap (λ zs. ys ++ zs) (append-nil u.items) in
    ap (chunks_since xs) (other_runs qs us u q)
    ∙ flush_open xs qs ((u ∷ []) ∷ runs both_quotes us) next e p
    (λ ys. since_other ys u (runs both_quotes us) q
    ∙ (ap (λ cs. other (seen_of (ys ++ segment_items (u ∷ []))) ∷ cs) (rest (ys ++ segment_items (u ∷ [])) [] refl tt)
    ∙ ap (λ t. other t ∷ chunks_after t 0 us) (ap seen_of (one ys) ∙ sym (seen_more ys u.items))))
    ∙ other_step (seen_of xs) (length qs) u us q

pub read_all : (us : List Segment) → AreProper us → AreRead us
read_all [] h ys ps e p = ap (λ ws. chunks_since ys (runs both_quotes ws)) (append-nil ps) ∙ ap (chunks_since ys) (sym (append-nil (runs both_quotes ps)))
    ∙ flush_open ys ps [] (λ t. []) e p (λ zs. refl)
read_all (u ∷ us) h ys ps e p = read_by ys ps us u u.quote refl e p h.0 (read_all us h.1)

pub chunks_are : (us : List Segment) → AreProper us → chunks us ≡ chunks_after nothing_seen 0 us
unfolding chunks
chunks_are us h = read_all us h [] [] refl tt

-- ---- their bytes and their number

abbrev all_of : List (List Segment) → List Segment
all_of gs = flat_map (λ g. g) gs

bytes_by : (xs : List Item) (us : List Segment) (rest : List (List Segment)) (v : Bool) → is_run us ≡ v
    → ((ys : List Item) → bytes_of (chunks_since ys rest) ≡ length (all_of rest))
    → bytes_of (chunks_since xs (us ∷ rest)) ≡ length us + length (all_of rest)
bytes_by xs us rest true e h = rw e (ap (λ n. length us + n) (h []))
bytes_by xs us rest false e h = rw e (ap (λ n. length us + n) (h (xs ++ segment_items us)))

bytes_since : (xs : List Item) (gs : List (List Segment)) → bytes_of (chunks_since xs gs) ≡ length (all_of gs)
bytes_since xs [] = refl
bytes_since xs (us ∷ rest) = bytes_by xs us rest (is_run us) refl (λ ys. bytes_since ys rest) ∙ sym (length-append us (all_of rest))

pub chunk_bytes_are : (us : List Segment) → bytes_of (chunks us) ≡ length us
unfolding chunks
chunk_bytes_are us = bytes_since [] (runs both_quotes us) ∙ ap length (runs_joined both_quotes us)

count_by : (xs : List Item) (us : List Segment) (rest : List (List Segment)) (v : Bool) → is_run us ≡ v
    → ((ys : List Item) → length (chunks_since ys rest) ≡ length rest) → length (chunks_since xs (us ∷ rest)) ≡ suc (length rest)
count_by xs us rest true e h = rw e (ap suc (h []))
count_by xs us rest false e h = rw e (ap suc (h (xs ++ segment_items us)))

count_since : (xs : List Item) (gs : List (List Segment)) → length (chunks_since xs gs) ≡ length gs
count_since xs [] = refl
count_since xs (us ∷ rest) = count_by xs us rest (is_run us) refl (λ ys. count_since ys rest)

few_runs : (gs : List (List Segment)) (us : List Segment) → AreRuns both_quotes gs us → length gs ≤ length us
few_runs [] us h = omega arith
few_runs ([] ∷ gs) us h = absurd h.2
few_runs ((u ∷ r) ∷ gs) us h = let n = ap length h.1 in omega (arith, n, length-append r h.0, few_runs gs h.0 h.3)

pub few_chunks : (us : List Segment) → length (chunks us) ≤ length us
unfolding chunks
few_chunks us = let n = count_since [] (runs both_quotes us) in omega (arith, n, few_runs (runs both_quotes us) us (runs_are both_quotes us))

-- ---- no two runs are neighbours

last_by : (a b : Bool) → a ≡ true → (a && b) ≡ false → b ≡ false
last_by true b e h = h
last_by false b e h = cc

last_quote : (r : List Segment) (y : Segment) (others : List Segment) → begins_with_quote r ≡ true → IsRun both_quotes r (y ∷ others) → y.quote ≡ false
last_quote [] y others e h = cc
last_quote (x ∷ []) y others e h = last_by x.quote y.quote e h
last_quote (x ∷ z ∷ zs) y others e h = last_quote (z ∷ zs) y others (and_right x.quote z.quote h.0) h.1

no_quote_after : (r others : List Segment) → begins_with_quote r ≡ true → IsRun both_quotes r others → begins_with_quote others ≡ false
no_quote_after r [] e h = refl
no_quote_after r (y ∷ others) e h = last_quote r y others e h

not_run : (a q : Bool) → (a ≡ true → q ≡ false) → q ≡ true → a ≡ false
not_run true q h e = let f = h refl in let g = sym e ∙ f in cc
not_run false q h e = refl

apart_both : (a b c : Bool) → (a && b) ≡ false → c ≡ true → (not (a && b) && c) ≡ true
apart_both a b c e f = rw (e, f) refl

apart_by : (c : Chunk) (xs : List Item) (u : Segment) (r : List Segment) (rest : List (List Segment)) (v : Bool) → is_run (u ∷ r) ≡ v
    → (is_run_chunk c ≡ true → u.quote ≡ false)
    → ((d : Chunk) (ys : List Item) → (is_run_chunk d ≡ true → v ≡ true) → are_apart (d ∷ chunks_since ys rest) ≡ true)
    → are_apart (c ∷ chunks_since xs ((u ∷ r) ∷ rest)) ≡ true
apart_by c xs u r rest true e h next =
    let n : is_run_chunk c ≡ false = not_run (is_run_chunk c) u.quote h (and_left u.quote (nat_le 2 (length (u ∷ r))) e) in
    rw (e, n) (next (chunk.Run (length (u ∷ r))) [] (λ k. refl))
apart_by c xs u r rest false e h next =
    let ys = xs ++ segment_items (u ∷ r) in
    let d = other_chunk (length (u ∷ r)) ys in
    rw e (apart_both (is_run_chunk c) false (are_apart (d ∷ chunks_since ys rest)) (no_right (is_run_chunk c) false refl) (next d ys (λ k. k)))

apart_after : (c : Chunk) (xs : List Item) (gs : List (List Segment)) (us : List Segment) → AreRuns both_quotes gs us
    → (is_run_chunk c ≡ true → begins_with_quote us ≡ false) → are_apart (c ∷ chunks_since xs gs) ≡ true
apart_after c xs [] us h f = refl
apart_after c xs ([] ∷ gs) us h f = absurd h.2
apart_after c xs ((u ∷ r) ∷ gs) us h f =
    apart_by c xs u r gs (is_run (u ∷ r)) refl (λ e. ap begins_with_quote (sym h.1) ∙ f e)
    (λ d ys k. apart_after d ys gs h.0 h.3 (λ e. no_quote_after (u ∷ r) h.0 (and_left u.quote (nat_le 2 (length (u ∷ r))) (k e)) h.2))

tail_apart : (c : Chunk) (cs : List Chunk) → are_apart (c ∷ cs) ≡ true → are_apart cs ≡ true
tail_apart c [] e = refl
tail_apart c (d ∷ cs) e = and_right (not (is_run_chunk c && is_run_chunk d)) (are_apart (d ∷ cs)) e

pub chunks_apart : (us : List Segment) → are_apart (chunks us) ≡ true
unfolding chunks
chunks_apart us = tail_apart (chunk.Text 0 None None) (chunks_since [] (runs both_quotes us))
    (apart_after (chunk.Text 0 None None) [] (runs both_quotes us) us (runs_are both_quotes us) (λ e. cc))
