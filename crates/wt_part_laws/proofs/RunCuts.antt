-- Siblings are cut apart where the cut between them is free: a clean node with free cuts before and behind it is in no group.
use Rattle.std.proofs.Common.{◌≡◌, Bool, true, false, List, [], ◌∷◌, ◌++◌, map, refl, sym, ap, ◌∙◌, cond}
use Rattle.std.specs.Prelude.{not}
use Rattle.wt_span.specs.Origins.{OuterCall}
use Rattle.wt_span.specs.Runs.{put, runs}
use Rattle.wt_annotated.specs.GroupData.{group_data}
use Rattle.wt_annotated.specs.Walked.{Near, near_tied, near_group, near_run, near_runs}

-- the cut before them is free
abbrev pub FreeBefore : List Near → Type 0
FreeBefore [] = Unit {0}
FreeBefore (c ∷ cs) = c.free ≡ true

put_free : (c d : Near) (ds : List Near) (rs : List (List Near)) → d.free ≡ true → put near_tied c ((d ∷ ds) ∷ rs) ≡ (c ∷ []) ∷ (d ∷ ds) ∷ rs
put_free c d ds rs e = ap (λ v. cond (not v) ((c ∷ d ∷ ds) ∷ rs) ((c ∷ []) ∷ (d ∷ ds) ∷ rs)) e

by_test : (c d e : Near) (es : List Near) (rs : List (List Near)) (v : Bool) → d.free ≡ true
    → put near_tied c (cond v ((d ∷ e ∷ es) ∷ rs) ((d ∷ []) ∷ (e ∷ es) ∷ rs)) ≡ (c ∷ []) ∷ cond v ((d ∷ e ∷ es) ∷ rs) ((d ∷ []) ∷ (e ∷ es) ∷ rs)
by_test c d e es rs true f = put_free c d (e ∷ es) rs f
by_test c d e es rs false f = put_free c d [] ((e ∷ es) ∷ rs) f

put_before : (c d : Near) (rs : List (List Near)) → d.free ≡ true → put near_tied c (put near_tied d rs) ≡ (c ∷ []) ∷ put near_tied d rs
put_before c d [] f = put_free c d [] [] f
put_before c d ([] ∷ rs) f = put_free c d [] rs f
put_before c d ((e ∷ es) ∷ rs) f = by_test c d e es rs (near_tied d e) f

one_before : (c : Near) (ds : List Near) → FreeBefore ds → put near_tied c (runs near_tied ds) ≡ (c ∷ []) ∷ runs near_tied ds
one_before c [] f = refl
one_before c (d ∷ ds) f = put_before c d (runs near_tied ds) f

put_onto : (c : Near) (r : List Near) (rs ss : List (List Near)) → put near_tied c ((r ∷ rs) ++ ss) ≡ put near_tied c (r ∷ rs) ++ ss
put_onto c [] rs ss = refl
put_onto c (d ∷ ds) rs ss = by_case (near_tied c d)
  where
    by_case : (v : Bool) → cond v ((c ∷ d ∷ ds) ∷ (rs ++ ss)) ((c ∷ []) ∷ (d ∷ ds) ∷ (rs ++ ss)) ≡ cond v ((c ∷ d ∷ ds) ∷ rs) ((c ∷ []) ∷ (d ∷ ds) ∷ rs) ++ ss
    by_case true = refl
    by_case false = refl

-- there is a first run
abbrev IsSome : List (List Near) → Type 0
IsSome rs = (r : List Near) × (ss : List (List Near)) × (rs ≡ r ∷ ss)

put_some : (c : Near) (rs : List (List Near)) → IsSome (put near_tied c rs)
put_some c [] = (c ∷ [], [], refl)
put_some c ([] ∷ rs) = (c ∷ [], rs, refl)
put_some c ((d ∷ ds) ∷ rs) = by_case (near_tied c d)
  where
    by_case : (v : Bool) → IsSome (cond v ((c ∷ d ∷ ds) ∷ rs) ((c ∷ []) ∷ (d ∷ ds) ∷ rs))
    by_case true = (c ∷ d ∷ ds, rs, refl)
    by_case false = (c ∷ [], (d ∷ ds) ∷ rs, refl)

onto_some : (c : Near) (rs ss : List (List Near)) → IsSome rs → put near_tied c (rs ++ ss) ≡ put near_tied c rs ++ ss
onto_some c rs ss h =
    ap (λ qs. put near_tied c (qs ++ ss)) h.2 ∙ put_onto c h.0 h.1 ss ∙ ap (λ qs. put near_tied c qs ++ ss) (sym h.2)

runs_apart : (cs ds : List Near) → FreeBefore ds → runs near_tied (cs ++ ds) ≡ runs near_tied cs ++ runs near_tied ds
runs_apart [] ds f = refl
runs_apart (c ∷ []) ds f = one_before c ds f
runs_apart (c ∷ d ∷ cs) ds f =
    ap (put near_tied c) (runs_apart (d ∷ cs) ds f) ∙ onto_some c (runs near_tied (d ∷ cs)) (runs near_tied ds) (put_some d (runs near_tied cs))

map_onto : {A B : Type 0} (f : A → B) (xs ys : List A) → map f (xs ++ ys) ≡ map f xs ++ map f ys
map_onto f [] ys = refl
map_onto f (x ∷ xs) ys = ap (λ zs. f x ∷ zs) (map_onto f xs ys)

pub near_apart : (calls : List OuterCall) (cs ds : List Near) → FreeBefore ds
    → near_runs calls (group_data calls) (cs ++ ds) ≡ near_runs calls (group_data calls) cs ++ near_runs calls (group_data calls) ds
near_apart calls cs ds f =
    ap (map (near_run calls (group_data calls))) (runs_apart cs ds f) ∙ map_onto (near_run calls (group_data calls)) (runs near_tied cs) (runs near_tied ds)

pub near_alone : (calls : List OuterCall) (c : Near) (ds : List Near) → c.clean ≡ true → FreeBefore ds
    → near_runs calls (group_data calls) (c ∷ ds) ≡ c.whole ∷ near_runs calls (group_data calls) ds
near_alone calls c ds e f =
    ap (map (near_run calls (group_data calls))) (one_before c ds f)
    ∙ ap (λ v. cond v c.whole (near_group calls (group_data calls) (c ∷ [])) ∷ near_runs calls (group_data calls) ds) e
