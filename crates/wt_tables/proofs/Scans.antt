-- Steps of the scans over the numbers of signs.
use Rattle.std.proofs.Common.{◌≡◌, ◌<◌, ◌≤◌, ℕ, zero, suc, ◌+◌, ◌==◌, Bool, true, false, List, [], ◌∷◌, length, drop, get_or, refl, sym, ap, ◌∙◌, arith}
use Rattle.std.specs.Prelude.{◌||◌, codes, if◌then◌else◌}
use Rattle.std.proofs.lemmas.List.{drop_more, drop_all}
use Rattle.wt_span.specs.Bytes.{begins}
use Rattle.wt_tables.specs.declared.scan.Splits.{Splits}
use Rattle.wt_tables.specs.Cells.{splits, has_link, single_at}
use Rattle.wt_tables.specs.Views.{first_len, begins_single}
use Rattle.wt_tables.proofs.Singles.{single_from, single_is}

pub first_begins : (by : Splits) (n : ℕ) (ss : List ℕ) → n ≤ length ss → n + first_len by 0 (drop n ss) ≡ first_len by n ss
first_begins by zero ss l = omega arith
first_begins by (suc n) [] l = absurd (omega arith)
first_begins by (suc n) (s ∷ ss) l = omega (arith, first_begins by n ss (omega arith))

goes_by : (t : Bool) (n : ℕ) → t ≡ false → (if t then 0 else suc n) ≡ suc n
goes_by t n e = rw e refl

stops_by : (t : Bool) (n : ℕ) → t ≡ true → (if t then 0 else suc n) ≡ 0
stops_by t n e = rw e refl

pub first_goes : (by : Splits) (i : ℕ) (ss : List ℕ) (all : ℕ) → i < length ss → splits by (drop i ss) ≡ false
    → i + first_len by 0 (drop i ss) ≡ all → i + 1 + first_len by 0 (drop (i + 1) ss) ≡ all
first_goes by i ss all l e h =
    let here = drop_more ss i 0 l in
    let s : first_len by 0 (drop i ss) ≡ suc (first_len by 0 (drop (i + 1) ss)) = ap (first_len by 0) here ∙ goes_by _ _ (ap (splits by) (sym here) ∙ e) in
    omega (arith, s, h)

pub first_stops : (by : Splits) (i : ℕ) (ss : List ℕ) (all : ℕ) → i < length ss → splits by (drop i ss) ≡ true
    → i + first_len by 0 (drop i ss) ≡ all → i ≡ all
first_stops by i ss all l e h =
    let here = drop_more ss i 0 l in
    let s : first_len by 0 (drop i ss) ≡ 0 = ap (first_len by 0) here ∙ stops_by _ _ (ap (splits by) (sym here) ∙ e) in
    omega (arith, s, h)

pub link_stops : (i : ℕ) (ss : List ℕ) (all : Bool) → i < length ss → begins (codes "[[") (drop i ss) ≡ true
    → has_link (drop i ss) ≡ all → true ≡ all
link_stops i ss all l e h =
    let here = drop_more ss i 0 l in
    sym (ap has_link here ∙ ap (λ (t : Bool). t || has_link (drop (i + 1) ss)) (ap (begins (codes "[[")) (sym here) ∙ e)) ∙ h

pub link_goes : (i : ℕ) (ss : List ℕ) (all : Bool) → i < length ss → begins (codes "[[") (drop i ss) ≡ false
    → has_link (drop i ss) ≡ all → has_link (drop (i + 1) ss) ≡ all
link_goes i ss all l e h =
    let here = drop_more ss i 0 l in
    sym (ap has_link here ∙ ap (λ (t : Bool). t || has_link (drop (i + 1) ss)) (ap (begins (codes "[[")) (sym here) ∙ e)) ∙ h

pub single_here : (bar : Bool) (i : ℕ) (ss : List ℕ) → i < length ss → begins_single bar (drop i ss) ≡ true
    → i + single_from bar (drop i ss) ≡ single_from false ss → i ≡ single_at ss
single_here bar i ss l e h =
    let here = drop_more ss i 0 l in
    let s : single_from bar (drop i ss) ≡ 0 = ap (single_from bar) here ∙ stops_by _ _ (ap (begins_single bar) (sym here) ∙ e) in
    let t : i ≡ single_from false ss = omega (arith, s, h) in
    t ∙ sym (single_is ss)

pub single_goes : (bar next : Bool) (i s : ℕ) (ss : List ℕ) → i < length ss → s ≡ get_or ss i 0 → next ≡ (s == 124)
    → begins_single bar (drop i ss) ≡ false → i + single_from bar (drop i ss) ≡ single_from false ss
    → i + 1 + single_from next (drop (i + 1) ss) ≡ single_from false ss
single_goes bar next i s ss l is f e h =
    let here = drop_more ss i 0 l in
    let g : (get_or ss i 0 == 124) ≡ next = ap (λ (b : ℕ). b == 124) (sym is) ∙ sym f in
    let t : single_from bar (drop i ss) ≡ suc (single_from next (drop (i + 1) ss)) =
    ap (single_from bar) here ∙ goes_by _ _ (ap (begins_single bar) (sym here) ∙ e) ∙ ap (λ (b : Bool). suc (single_from b (drop (i + 1) ss))) g in
    omega (arith, t, h)

pub single_all : (bar : Bool) (i : ℕ) (ss : List ℕ) → length ss ≤ i → i ≤ length ss
    → i + single_from bar (drop i ss) ≡ single_from false ss → length ss ≡ single_at ss
single_all bar i ss l m h =
    let s : single_from bar (drop i ss) ≡ 0 = ap (single_from bar) (drop_all i ss l) in
    let t : length ss ≡ single_from false ss = omega (arith, s, h) in
    t ∙ sym (single_is ss)
