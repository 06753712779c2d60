-- Parameters that are read one after another, and put into a map.
use Rattle.std.proofs.Common.{◌≡◌, ℕ, zero, suc, ◌+◌, ◌<◌, ◌≤◌, Option, None, Some, List, [], ◌∷◌, length, map, drop, get_or, refl, sym, ap, ◌∙◌, arith}
use Rattle.std.specs.Prelude.{fold, string_bytes, String}
use Rattle.std.specs.BTreeMap.{BTreeMap, insert_entry}
use Rattle.std.specs.Cmp.Lexicographic.{slice_cmp}
use Rattle.std.specs.Ordering.{nat_cmp, match_ordering}
use Rattle.std.specs.declared.alloc.Global.{Global}
use Rattle.std.specs.declared.cmp.Ordering.{Ordering}
use Rattle.std.specs.declared.cmp.Ordering.TheVariants.{Less, Equal, Greater}
use Rattle.std.proofs.lemmas.List.{drop_more, get_or-map, length-map}
use Rattle.wt_span.specs.declared.range.Range.{Range}
use Rattle.wt_span.specs.Origins.{Span, OuterCall, span_of}
use Rattle.wt_call_data.specs.CallData.{Param, param_by, next_number, params_from, put_param, params_of}
use Rattle.wt_call_data.specs.CallParts.{entries_of}

-- the parameters from one part on
abbrev pub params_at : OuterCall → ℕ → ℕ → List Param
params_at c n i = params_from c n (drop i c.parts) (drop i c.equals)

pub params_step : (c : OuterCall) (n i : ℕ) (ps : List Range) (es : List (Option ℕ)) (p : Range) (e : Option ℕ) → c.parts ≡ map span_of ps → c.equals ≡ es
    → i < length ps → i < length es → p ≡ get_or ps i p → e ≡ get_or es i None
    → params_at c n i ≡ param_by c n (span_of p) e ∷ params_at c (next_number n e) (i + 1)
params_step c n i ps es p e q r l m a b =
    let one : drop i c.parts ≡ span_of p ∷ drop (i + 1) c.parts =
    ap (drop i) q
    ∙ drop_more (map span_of ps) i (span_of p) (omega (arith, l, length-map ps span_of))
    ∙ ap (λ (x : Span). x ∷ drop (i + 1) (map span_of ps)) (get_or-map span_of ps i p (span_of p) l ∙ ap span_of (sym a))
    ∙ ap (λ (xs : List Span). span_of p ∷ drop (i + 1) xs) (sym q) in
    let two : drop i c.equals ≡ e ∷ drop (i + 1) c.equals =
    ap (drop i) r ∙ drop_more es i None m ∙ ap (λ (x : Option ℕ). x ∷ drop (i + 1) es) (sym b) ∙ ap (λ (xs : List (Option ℕ)). e ∷ drop (i + 1) xs) (sym r) in
    ap (λ (xs : List Span). params_from c n xs (drop i c.equals)) one
    ∙ ap (params_from c n (span_of p ∷ drop (i + 1) c.parts)) two

pub next_few : (n : ℕ) (e : Option ℕ) → next_number n e ≤ n + 1
next_few n None = omega arith
next_few n (Some place) = omega arith

pub params_goes_on : (c : OuterCall) (n next i : ℕ) (e : Option ℕ) (p : Range) (m k : BTreeMap (String Global) (List ℕ)) (x : Param)
    → params_at c n i ≡ param_by c n (span_of p) e ∷ params_at c (next_number n e) (i + 1) → x ≡ param_by c n (span_of p) e
    → entries_of k ≡ put_param (entries_of m) x → next ≡ next_number n e → fold put_param (entries_of m) (params_at c n i) ≡ params_of c
    → fold put_param (entries_of k) (params_at c next (i + 1)) ≡ params_of c
params_goes_on c n next i e p m k x s q r t h =
    ap (λ (es : List Param). fold put_param es (params_at c next (i + 1))) (r ∙ ap (put_param (entries_of m)) q)
    ∙ ap (λ (j : ℕ). fold put_param (put_param (entries_of m) (param_by c n (span_of p) e)) (params_at c j (i + 1))) t
    ∙ ap (fold put_param (entries_of m)) (sym s)
    ∙ h

past : (i : ℕ) (xs : List Span) → length xs ≤ i → drop i xs ≡ []
past zero [] l = refl
past zero (x ∷ xs) l = absurd (omega (arith, l))
past (suc i) [] l = refl
past (suc i) (x ∷ xs) l = past i xs (omega (arith, l))

pub params_end : (c : OuterCall) (n i : ℕ) (ps : List Range) → c.parts ≡ map span_of ps → length ps ≤ i → params_at c n i ≡ []
params_end c n i ps q e =
    ap (λ (xs : List Span). params_from c n xs (drop i c.equals)) (past i c.parts (omega (arith, e, ap length q, length-map ps span_of)))

-- ---- maps

-- an entry put into a map whose names are strings
abbrev by_names : String Global → String Global → Ordering
by_names x y = slice_cmp nat_cmp (string_bytes x) (string_bytes y)

abbrev bytes_of_all : List (String Global × List ℕ) → List Param
bytes_of_all m = map (λ e. (string_bytes e.0, e.1)) m

insert_bytes : (m : List (String Global × List ℕ)) (k : String Global) (v : List ℕ)
    → bytes_of_all (insert_entry by_names m k v) ≡ insert_entry (slice_cmp nat_cmp) (bytes_of_all m) (string_bytes k) v
insert_bytes [] k v = refl
insert_bytes (e ∷ m) k v = by (slice_cmp nat_cmp (string_bytes k) (string_bytes e.0)) (insert_bytes m k v)
  where
    by : (r : Ordering) → bytes_of_all (insert_entry by_names m k v) ≡ insert_entry (slice_cmp nat_cmp) (bytes_of_all m) (string_bytes k) v
        → bytes_of_all (match_ordering r ((k, v) ∷ e ∷ m) ((e.0, v) ∷ m) (e ∷ insert_entry by_names m k v))
        ≡ match_ordering r ((string_bytes k, v) ∷ (string_bytes e.0, e.1) ∷ bytes_of_all m) ((string_bytes e.0, v) ∷ bytes_of_all m)
        ((string_bytes e.0, e.1) ∷ insert_entry (slice_cmp nat_cmp) (bytes_of_all m) (string_bytes k) v)
    by Less i = refl
    by Equal i = refl
    by Greater i = ap (λ es. (string_bytes e.0, e.1) ∷ es) i

pub put_bytes : (m n : BTreeMap (String Global) (List ℕ)) (k : String Global) (v : List ℕ)
    → n.entries ≡ insert_entry (λ x y. slice_cmp nat_cmp (string_bytes x) (string_bytes y)) m.entries k v
    → entries_of n ≡ put_param (entries_of m) (string_bytes k, v)
put_bytes m n k v e = ap (map (λ x. (string_bytes x.0, x.1))) e ∙ insert_bytes m.entries k v
