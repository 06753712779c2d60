-- Rows before others that they don't join: their blocks are before the others' blocks.
use Rattle.std.proofs.Common.{◌≡◌, Bool, false, List, [], ◌∷◌, ◌++◌, refl, sym, ap, ◌∙◌, subst, append-nil, append_assoc, arith, inl, inr}
use Rattle.std.specs.List.{AllByRecursion, flat_map}
use Rattle.std.proofs.lemmas.Grind.{flat_map-append}
use Rattle.wt_span.specs.Runs.{runs, IsRun, AreRuns}
use Rattle.wt_span.proofs.RunLaws.{runs_are, runs_only}
use Rattle.wt_lines.specs.declared.kind.LineKind.{LineKind}
use Rattle.wt_lines.specs.declared.kind.LineKind.TheVariants as line
use Rattle.wt_tables.specs.Parts.{joined, units, unit_kind}
use Rattle.wt_page.specs.Rows.{Row, kind_of}
use Rattle.wt_page.specs.Stretches.{Stretch}
use Rattle.wt_page.specs.Tables.{Reading}
use Rattle.wt_page.specs.Body.{one_block, same_block, run_stretches, blocks_by}
use Rattle.wt_part_laws.specs.Units.{IsUnit, AreUnits}
use Rattle.wt_part_laws.specs.Rounds.{EndOtherwise}
use Rattle.wt_part_laws.proofs.Falling.{IsPart, unit_is_part}
use Rattle.wt_part_laws.proofs.UnitCuts.{units_only}

-- ---- runs

-- the last doesn't join the first of the others
abbrev pub Apart : {A : Type 0} → (A → A → Bool) → List A → List A → Type 0
Apart joins [] ys = Unit {0}
Apart joins (x ∷ []) ys = IsRun joins (x ∷ []) ys
Apart joins (x ∷ z ∷ zs) ys = Apart joins (z ∷ zs) ys

run_alone : {A : Type 0} (joins : A → A → Bool) (l ys : List A) → IsRun joins l [] → Apart joins l ys → IsRun joins l ys
run_alone joins [] ys r e = absurd r
run_alone joins (x ∷ []) ys r e = e
run_alone joins (x ∷ z ∷ zs) ys r e = (r.0, run_alone joins (z ∷ zs) ys r.1 e)

run_more : {A : Type 0} (joins : A → A → Bool) (l : List A) (x : A) (others ys : List A) → IsRun joins l (x ∷ others)
    → IsRun joins l (x ∷ others ++ ys)
run_more joins [] x others ys r = absurd r
run_more joins (z ∷ []) x others ys r = r
run_more joins (z ∷ w ∷ l) x others ys r = (r.0, run_more joins (w ∷ l) x others ys r.1)

run_over : {A : Type 0} (joins : A → A → Bool) (l others ys : List A) → IsRun joins l others → Apart joins (l ++ others) ys
    → IsRun joins l (others ++ ys)
run_over joins l [] ys r e = run_alone joins l ys r (subst (λ zs. Apart joins zs ys) (append-nil l) e)
run_over joins l (x ∷ others) ys r e = run_more joins l x others ys r

last_apart : {A : Type 0} (joins : A → A → Bool) (l : List A) (x : A) (others ys : List A) → Apart joins (l ++ x ∷ others) ys
    → Apart joins (x ∷ others) ys
last_apart joins [] x others ys e = e
last_apart joins (z ∷ []) x others ys e = e
last_apart joins (z ∷ w ∷ l) x others ys e = last_apart joins (w ∷ l) x others ys e

rest_apart : {A : Type 0} (joins : A → A → Bool) (l others ys : List A) → Apart joins (l ++ others) ys → Apart joins others ys
rest_apart joins l [] ys e = tt
rest_apart joins l (x ∷ others) ys e = last_apart joins l x others ys e

both_runs : {A : Type 0} (joins : A → A → Bool) (rs : List (List A)) (xs ys : List A) → AreRuns joins rs xs → Apart joins xs ys
    → AreRuns joins (rs ++ runs joins ys) (xs ++ ys)
both_runs joins [] xs ys r e = subst (λ zs. AreRuns joins (runs joins ys) (zs ++ ys)) (sym r) (runs_are joins ys)
both_runs joins (l ∷ rs) xs ys r e =
    let w : Apart joins (l ++ r.0) ys = subst (λ zs. Apart joins zs ys) r.1 e in
    (r.0 ++ ys, ap (λ zs. zs ++ ys) r.1 ∙ append_assoc l r.0 ys, run_over joins l r.0 ys r.2 w, both_runs joins rs r.0 ys r.3 (rest_apart joins l r.0 ys w))

pub runs_apart : {A : Type 0} (joins : A → A → Bool) (xs ys : List A) → Apart joins xs ys → runs joins (xs ++ ys) ≡ runs joins xs ++ runs joins ys
runs_apart joins xs ys e = sym (runs_only joins (runs joins xs ++ runs joins ys) (xs ++ ys) (both_runs joins (runs joins xs) xs ys (runs_are joins xs) e))

-- none joins the first of the others
pub all_apart : {A : Type 0} (joins : A → A → Bool) (xs : List A) (y : A) (ys : List A) → ((x : A) → joins x y ≡ false) → Apart joins xs (y ∷ ys)
all_apart joins [] y ys f = tt
all_apart joins (x ∷ []) y ys f = f x
all_apart joins (x ∷ z ∷ zs) y ys f = all_apart joins (z ∷ zs) y ys f

-- ---- units

each_unit : (us vs : List (List Row)) → AllByRecursion IsUnit us → AllByRecursion IsUnit vs → AllByRecursion IsUnit (us ++ vs)
each_unit [] vs h g = g
each_unit (u ∷ us) vs (h, hs) g = (h, each_unit us vs hs g)

pub units_join : (us vs : List (List Row)) (rs ss : List Row) → AreUnits us rs → AreUnits vs ss → AreUnits (us ++ vs) (rs ++ ss)
units_join us vs rs ss h g = record {
  join = flat_map-append (λ (u : List Row). u) us vs ∙ ap (λ xs. xs ++ joined vs) h.join ∙ ap (λ xs. rs ++ xs) g.join;
  each = each_unit us vs h.each g.each;
}

pub units_beside : (rs ss : List Row) → AreUnits (units kind_of rs) rs → AreUnits (units kind_of ss) ss
    → units kind_of (rs ++ ss) ≡ units kind_of rs ++ units kind_of ss
units_beside rs ss h g = sym (units_only (units kind_of rs ++ units kind_of ss) (rs ++ ss) (units_join (units kind_of rs) (units kind_of ss) rs ss h g))

-- ---- their blocks

pub blocks_beside : (read : Reading) (rs ss : List Row) → units kind_of (rs ++ ss) ≡ units kind_of rs ++ units kind_of ss
    → Apart same_block (units kind_of rs) (units kind_of ss) → blocks_by read (rs ++ ss) ≡ blocks_by read rs ++ blocks_by read ss
blocks_beside read rs ss h e =
    let F : List (List Row) → List Stretch = run_stretches read in
    ap (λ us. flat_map F (runs same_block us)) h
    ∙ ap (λ us. flat_map F us) (runs_apart same_block (units kind_of rs) (units kind_of ss) e)
    ∙ flat_map-append F (runs same_block (units kind_of rs)) (runs same_block (units kind_of ss))

-- ---- beside text

no_text_behind : (k : LineKind) → (k ≡ line.Text → ⊥) → one_block k line.Text ≡ false
no_text_behind line.Blank e = refl
no_text_behind line.TableOpen e = refl
no_text_behind line.TableEnd e = refl
no_text_behind line.Caption e = refl
no_text_behind line.Row e = refl
no_text_behind line.Cell e = refl
no_text_behind line.Header e = refl
no_text_behind line.Heading e = refl
no_text_behind line.Rule e = refl
no_text_behind line.List e = refl
no_text_behind line.Pre e = refl
no_text_behind line.Text e = absurd (e refl)

no_text_before : (k : LineKind) → (k ≡ line.Text → ⊥) → one_block line.Text k ≡ false
no_text_before line.Blank e = refl
no_text_before line.TableOpen e = refl
no_text_before line.TableEnd e = refl
no_text_before line.Caption e = refl
no_text_before line.Row e = refl
no_text_before line.Cell e = refl
no_text_before line.Header e = refl
no_text_before line.Heading e = refl
no_text_before line.Rule e = refl
no_text_before line.List e = refl
no_text_before line.Pre e = refl
no_text_before line.Text e = absurd (e refl)

-- a unit whose last row isn't text is a table, or this row
part_kind : (u : List Row) → IsPart u → EndOtherwise line.Text u → unit_kind kind_of u ≡ line.Text → ⊥
part_kind [] h e = absurd h
part_kind (r ∷ rs) (inl (o, f)) e = λ t. let z : line.TableOpen ≡ line.Text = sym o ∙ t in absurd (cc)
part_kind (r ∷ []) (inr (o, z)) e = e
part_kind (r ∷ s ∷ rs) (inr (o, z)) e = absurd cc

ends_rest : (k : LineKind) (us : List Row) (r : Row) (rs : List Row) → EndOtherwise k (us ++ r ∷ rs) → EndOtherwise k (r ∷ rs)
ends_rest k [] r rs e = e
ends_rest k (u ∷ []) r rs e = e
ends_rest k (u ∷ v ∷ us) r rs e = ends_rest k (v ∷ us) r rs e

unit_ends : (k : LineKind) (us u rs : List Row) → IsUnit u → EndOtherwise k (us ++ (u ++ rs)) → EndOtherwise k (u ++ rs)
unit_ends k us [] rs h e = absurd (omega (arith, h.holds_rows))
unit_ends k us (r ∷ u) rs h e = ends_rest k us r (u ++ rs) e

pub text_behind : (us : List (List Row)) (v : List Row) (vs : List (List Row)) → AllByRecursion IsUnit us → EndOtherwise line.Text (joined us)
    → unit_kind kind_of v ≡ line.Text → Apart same_block us (v ∷ vs)
text_behind [] v vs h e t = tt
text_behind (u ∷ []) v vs h e t =
    ap (one_block (unit_kind kind_of u)) t
    ∙ no_text_behind (unit_kind kind_of u) (part_kind u (unit_is_part u h.0) (subst (EndOtherwise line.Text) (append-nil u) e))
text_behind (u ∷ w ∷ us) v vs h e t = text_behind (w ∷ us) v vs h.1 (unit_ends line.Text u w (joined us) h.1.0 e) t

pub text_before : (k : LineKind) → (k ≡ line.Text → ⊥) → one_block line.Text k ≡ false
text_before k e = no_text_before k e
