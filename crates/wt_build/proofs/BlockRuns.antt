-- The first block of rows.
use Rattle.std.proofs.Common.{◌≡◌, ℕ, suc, ◌+◌, Bool, true, false, List, [], ◌∷◌, ◌++◌, length, take, drop, map, get_or, ◌<◌, refl, sym, ap, ◌∙◌, subst, cond, arith, append-nil}
use Rattle.std.specs.Prelude.{◌||◌, All}
use Rattle.std.specs.List.{flat_map, prefix_len}
use Rattle.std.proofs.Math.Numerals.{one-add}
use Rattle.std.proofs.lemmas.List.{take-map, drop-map}
use Rattle.std.proofs.lemmas.List.Elements.{All-nil, All-cons}
use Rattle.wt_span.specs.declared.form.Piece.{Piece}
use Rattle.wt_span.specs.Runs.{runs, IsRun}
use Rattle.wt_span.proofs.RunLaws.{runs_cut}
use Rattle.wt_lines.specs.declared.kind.LineKind.{LineKind}
use Rattle.wt_lines.specs.declared.kind.LineKind.TheVariants as line
use Rattle.wt_blocks.specs.Paragraphs.{is_text}
use Rattle.wt_tables.specs.Extents.{is_open, inner_len}
use Rattle.wt_tables.specs.Parts.{joined, taken_len, units, unit_kind}
use Rattle.wt_rows.specs.declared.row.RowAt.{RowAt}
use Rattle.wt_page.specs.Rows.{Row, kind_of}
use Rattle.wt_page.specs.Tables.{Reading}
use Rattle.wt_page.specs.Body.{is_list_line, is_pre_line, one_block, same_block, run_stretches, blocks_by}
use Rattle.wt_rows.specs.Views.{row_view, rows_view}
use Rattle.wt_rows.specs.Units.{kind_at, unit_len}
use Rattle.wt_build.specs.Blocks.{joined_len, run_of, IsBlockLen, is_lone, AreOneBlock}
use Rattle.wt_rows.proofs.FirstUnits.{units_more, unit_one}

or_none : (b : Bool) → (b || false) ≡ true → b ≡ true
or_none true e = refl
or_none false e = absurd cc

-- ---- kinds

text_only : (j : LineKind) → is_text j ≡ true → j ≡ line.Text
text_only line.Blank e = absurd cc
text_only line.TableOpen e = absurd cc
text_only line.TableEnd e = absurd cc
text_only line.Caption e = absurd cc
text_only line.Row e = absurd cc
text_only line.Cell e = absurd cc
text_only line.Header e = absurd cc
text_only line.Heading e = absurd cc
text_only line.Rule e = absurd cc
text_only line.List e = absurd cc
text_only line.Pre e = absurd cc
text_only line.Text e = refl

pre_only : (j : LineKind) → is_pre_line j ≡ true → j ≡ line.Pre
pre_only line.Blank e = absurd cc
pre_only line.TableOpen e = absurd cc
pre_only line.TableEnd e = absurd cc
pre_only line.Caption e = absurd cc
pre_only line.Row e = absurd cc
pre_only line.Cell e = absurd cc
pre_only line.Header e = absurd cc
pre_only line.Heading e = absurd cc
pre_only line.Rule e = absurd cc
pre_only line.List e = absurd cc
pre_only line.Pre e = refl
pre_only line.Text e = absurd cc

list_only : (j : LineKind) → is_list_line j ≡ true → j ≡ line.List
list_only line.Blank e = absurd cc
list_only line.TableOpen e = absurd cc
list_only line.TableEnd e = absurd cc
list_only line.Caption e = absurd cc
list_only line.Row e = absurd cc
list_only line.Cell e = absurd cc
list_only line.Header e = absurd cc
list_only line.Heading e = absurd cc
list_only line.Rule e = absurd cc
list_only line.List e = refl
list_only line.Pre e = absurd cc
list_only line.Text e = absurd cc

pub same_kind : (k j : LineKind) → one_block k j ≡ true → j ≡ k
same_kind line.Blank j e = absurd cc
same_kind line.TableOpen j e = absurd cc
same_kind line.TableEnd j e = absurd cc
same_kind line.Caption j e = absurd cc
same_kind line.Row j e = absurd cc
same_kind line.Cell j e = absurd cc
same_kind line.Header j e = absurd cc
same_kind line.Heading j e = absurd cc
same_kind line.Rule j e = absurd cc
same_kind line.List j e = list_only j e
same_kind line.Pre j e = pre_only j (or_none (is_pre_line j) e)
same_kind line.Text j e = text_only j (or_none (is_text j) e)

open_is : (k : LineKind) → is_open k ≡ true → k ≡ line.TableOpen
open_is line.Blank e = absurd cc
open_is line.TableOpen e = refl
open_is line.TableEnd e = absurd cc
open_is line.Caption e = absurd cc
open_is line.Row e = absurd cc
open_is line.Cell e = absurd cc
open_is line.Header e = absurd cc
open_is line.Heading e = absurd cc
open_is line.Rule e = absurd cc
open_is line.List e = absurd cc
open_is line.Pre e = absurd cc
open_is line.Text e = absurd cc

-- ---- runs of units

abbrev one : Row → List Row
one r = r ∷ []

joined_ones : (rs : List Row) → joined (map one rs) ≡ rs
joined_ones [] = refl
joined_ones (r ∷ rs) = ap (λ qs. r ∷ qs) (joined_ones rs)

abbrev more_len : LineKind → List Row → ℕ
more_len k rs = prefix_len (λ s. one_block k s.kind) rs

-- these rows are units, of which each joins the next, and the others don't
record Joined (r : Row) (rs : List Row) (n : ℕ) : Type 0 where
  cut : units kind_of (r ∷ rs) ≡ map one (r ∷ take n rs) ++ units kind_of (drop n rs)
  run : IsRun same_block (map one (r ∷ take n rs)) (units kind_of (drop n rs))

stops : (r s : Row) (rs : List Row) → one_block r.kind s.kind ≡ false → IsRun same_block (one r ∷ []) (units kind_of (s ∷ rs))
stops r s rs h = subst (λ (us : List (List Row)). IsRun same_block (one r ∷ []) us) (sym (units_more s rs)) h

joined_by : (v : Bool) (r s : Row) (rs : List Row) → is_open r.kind ≡ false → one_block r.kind s.kind ≡ v
    → (v ≡ true → Joined s rs (more_len r.kind rs)) → Joined r (s ∷ rs) (cond v (1 + more_len r.kind rs) 0)
joined_by true r s rs h e go =
    let j = go refl in
    let n = more_len r.kind rs in
    subst (λ (m : ℕ). Joined r (s ∷ rs) m) (sym (one-add n))
    (record { cut = unit_one r (s ∷ rs) h ∙ ap (λ us. one r ∷ us) j.cut; run = (e, j.run) })
joined_by false r s rs h e go = record { cut = unit_one r (s ∷ rs) h; run = stops r s rs e }

are_joined : (r : Row) (rs : List Row) → is_open r.kind ≡ false → Joined r rs (more_len r.kind rs)
are_joined r [] h = record { cut = unit_one r [] h; run = tt }
are_joined r (s ∷ rs) h =
    joined_by (one_block r.kind s.kind) r s rs h refl (λ e.
    let same = same_kind r.kind s.kind e in
    subst (λ (k : LineKind). Joined s rs (more_len k rs)) same (are_joined s rs (ap is_open same ∙ h)))

first_ones : (read : Reading) (r : Row) (rs : List Row) → is_open r.kind ≡ false
    → blocks_by read (r ∷ rs) ≡ run_of read (r ∷ take (more_len r.kind rs) rs) ++ blocks_by read (drop (more_len r.kind rs) rs)
first_ones read r rs h =
    let n = more_len r.kind rs in
    let j = are_joined r rs h in
    let own = r ∷ take n rs in
    ap (λ us. flat_map (run_stretches read) (runs same_block us)) j.cut
    ∙ ap (flat_map (run_stretches read)) (runs_cut same_block (map one own) (units kind_of (drop n rs)) j.run)
    ∙ ap (λ qs. run_of read qs ++ blocks_by read (drop n rs)) (joined_ones own)

-- ---- a table

open_stops : (k j : LineKind) → is_open k ≡ true → one_block k j ≡ false
open_stops k j h = let e = open_is k h in ap (λ i. one_block i j) e

lone_run : (r : Row) (rs : List Row) (us : List (List Row)) → is_open r.kind ≡ true → IsRun same_block ((r ∷ rs) ∷ []) us
lone_run r rs [] h = tt
lone_run r rs (v ∷ us) h = open_stops r.kind (unit_kind kind_of v) h

first_table : (read : Reading) (r : Row) (rs : List Row) (n : ℕ) → is_open r.kind ≡ true → n ≡ taken_len r.kind (inner_len (map kind_of rs))
    → blocks_by read (r ∷ rs) ≡ run_of read (r ∷ take n rs) ++ blocks_by read (drop n rs)
first_table read r rs n h e =
    let own = r ∷ take n rs in
    ap (λ us. flat_map (run_stretches read) (runs same_block us))
    (units_more r rs ∙ ap (λ m. (r ∷ take m rs) ∷ units kind_of (drop m rs)) (sym e))
    ∙ ap (flat_map (run_stretches read)) (runs_cut same_block (own ∷ []) (units kind_of (drop n rs)) (lone_run r (take n rs) (units kind_of (drop n rs)) h))
    ∙ ap (λ qs. run_of read qs ++ blocks_by read (drop n rs)) (append-nil own)

-- ---- rows in code

kinds_viewed : (ps : List Piece) (rs : List RowAt) → map kind_of (rows_view ps rs) ≡ map kind_at rs
kinds_viewed ps [] = refl
kinds_viewed ps (r ∷ rs) = ap (λ ks. r.kind ∷ ks) (kinds_viewed ps rs)

joined_viewed : (ps : List Piece) (k : LineKind) (rs : List RowAt) → more_len k (rows_view ps rs) ≡ joined_len k rs
joined_viewed ps k [] = refl
joined_viewed ps k (r ∷ rs) = ap (λ n. cond (one_block k r.kind) (1 + n) 0) (joined_viewed ps k rs)

cut_viewed : (read : Reading) (ps : List Piece) (r : RowAt) (rs : List RowAt) (n : ℕ)
    → run_of read (row_view ps r ∷ take n (rows_view ps rs)) ++ blocks_by read (drop n (rows_view ps rs))
    ≡ run_of read (rows_view ps (take (suc n) (r ∷ rs))) ++ blocks_by read (rows_view ps (drop (suc n) (r ∷ rs)))
cut_viewed read ps r rs n =
    ap (λ vs. run_of read (row_view ps r ∷ vs) ++ blocks_by read (drop n (rows_view ps rs))) (take-map (row_view ps) n rs)
    ∙ ap (λ vs. run_of read (row_view ps r ∷ rows_view ps (take n rs)) ++ blocks_by read vs) (drop-map (row_view ps) n rs)

pub lone_len : (r : RowAt) (rs : List RowAt) (n : ℕ) → is_open r.kind ≡ false → n ≡ joined_len r.kind rs → IsBlockLen (r ∷ rs) (suc n)
lone_len r rs n h e read ps =
    first_ones read (row_view ps r) (rows_view ps rs) h
    ∙ ap (λ k. run_of read (row_view ps r ∷ take k (rows_view ps rs)) ++ blocks_by read (drop k (rows_view ps rs))) (joined_viewed ps r.kind rs ∙ sym e)
    ∙ cut_viewed read ps r rs n

pub table_len : (r : RowAt) (rs : List RowAt) (n : ℕ) → is_open r.kind ≡ true → n ≡ taken_len r.kind (inner_len (map kind_at rs)) → IsBlockLen (r ∷ rs) (suc n)
table_len r rs n h e read ps =
    first_table read (row_view ps r) (rows_view ps rs) n h (e ∙ ap (λ ks. taken_len r.kind (inner_len ks)) (sym (kinds_viewed ps rs)))
    ∙ cut_viewed read ps r rs n

-- ---- rows of one block

same_by : (v : Bool) (k : LineKind) (s : RowAt) (rs : List RowAt) (n : ℕ) → one_block k s.kind ≡ v → All (λ (q : RowAt). q.kind ≡ k) (take n rs)
    → All (λ (q : RowAt). q.kind ≡ k) (take (cond v (1 + n) 0) (s ∷ rs))
same_by true k s rs n e h =
    subst (λ (m : ℕ). All (λ (q : RowAt). q.kind ≡ k) (take m (s ∷ rs))) (sym (one-add n))
    (All-cons (λ (q : RowAt). q.kind ≡ k) s (take n rs) (same_kind k s.kind e) h)
same_by false k s rs n e h = All-nil (λ (q : RowAt). q.kind ≡ k)

all_same : (k : LineKind) (rs : List RowAt) → All (λ (q : RowAt). q.kind ≡ k) (take (joined_len k rs) rs)
all_same k [] = All-nil (λ (q : RowAt). q.kind ≡ k)
all_same k (s ∷ rs) = same_by (one_block k s.kind) k s rs (joined_len k rs) refl (all_same k rs)

lone_stops : (k : LineKind) → is_lone k ≡ true → (j : LineKind) → one_block k j ≡ false
lone_stops line.Blank h j = refl
lone_stops line.TableOpen h j = absurd cc
lone_stops line.TableEnd h j = absurd cc
lone_stops line.Caption h j = absurd cc
lone_stops line.Row h j = absurd cc
lone_stops line.Cell h j = absurd cc
lone_stops line.Header h j = absurd cc
lone_stops line.Heading h j = refl
lone_stops line.Rule h j = refl
lone_stops line.List h j = absurd cc
lone_stops line.Pre h j = absurd cc
lone_stops line.Text h j = absurd cc

none_joined : (k : LineKind) → is_lone k ≡ true → (rs : List RowAt) → joined_len k rs ≡ 0
none_joined k h [] = refl
none_joined k h (s ∷ rs) = let e = lone_stops k h s.kind in rw e refl

pub lone_block : (r : RowAt) (rs : List RowAt) (n : ℕ) → n ≡ joined_len r.kind rs → AreOneBlock r.kind (take (suc n) (r ∷ rs))
lone_block r rs n e =
    let all : All (λ (q : RowAt). q.kind ≡ r.kind) (r ∷ take n rs) = All-cons (λ (q : RowAt). q.kind ≡ r.kind) r (take n rs) refl
    (subst (λ (m : ℕ). All (λ (q : RowAt). q.kind ≡ r.kind) (take m rs)) (sym e) (all_same r.kind rs)) in
    record {
      some = omega arith;
      kind = refl;
      lone = λ h. ap (λ m. length (r ∷ take m rs)) (e ∙ none_joined r.kind h rs);
      pre = λ h. subst (λ (k : LineKind). All (λ (q : RowAt). q.kind ≡ k) (r ∷ take n rs)) h all;
      lists = λ h. subst (λ (k : LineKind). All (λ (q : RowAt). q.kind ≡ k) (r ∷ take n rs)) h all;
    }

pub table_block : (r : RowAt) (rs : List RowAt) (n : ℕ) → r.kind ≡ line.TableOpen → AreOneBlock r.kind (take (suc n) (r ∷ rs))
table_block r rs n e =
    record {
      some = omega arith;
      kind = refl;
      lone = λ h. let f : is_lone line.TableOpen ≡ true = ap is_lone (sym e) ∙ h in absurd cc;
      pre = λ h. let f : line.TableOpen ≡ line.Pre = sym e ∙ h in absurd cc;
      lists = λ h. let f : line.TableOpen ≡ line.List = sym e ∙ h in absurd cc;
    }

pub record IsBlock (rs : List RowAt) (n : ℕ) : Type 0 where
  pub cut : IsBlockLen rs n
  pub block : AreOneBlock (unit_kind kind_at rs) (take n rs)

pub table_first : (rs : List RowAt) (r : RowAt) (n : ℕ) → 0 < length rs → r ≡ get_or rs 0 r → is_open r.kind ≡ true
    → n ≡ unit_len (map kind_at rs) → IsBlock rs n
table_first [] r n s e h z = absurd (omega arith)
table_first (q ∷ qs) r n s e h z =
    let m = taken_len q.kind (inner_len (map kind_at qs)) in
    let o : is_open q.kind ≡ true = ap (λ (t : RowAt). is_open t.kind) (sym e) ∙ h in
    subst (IsBlock (q ∷ qs)) (sym z) (record { cut = table_len q qs m o refl; block = table_block q qs m (open_is q.kind o) })

pub lone_first : (rs rest : List RowAt) (r : RowAt) (n : ℕ) → 0 < length rs → r ≡ get_or rs 0 r → is_open r.kind ≡ false → rest ≡ drop 1 rs
    → n ≡ joined_len r.kind rest → IsBlock rs (1 + n)
lone_first [] rest r n s e h er z = absurd (omega arith)
lone_first (q ∷ qs) rest r n s e h er z =
    let o : is_open q.kind ≡ false = ap (λ (t : RowAt). is_open t.kind) (sym e) ∙ h in
    let m : n ≡ joined_len q.kind qs = z ∙ ap (λ (t : RowAt). joined_len t.kind rest) e ∙ ap (joined_len q.kind) er in
    subst (IsBlock (q ∷ qs)) (sym (one-add n)) (record { cut = lone_len q qs n o m; block = lone_block q qs n m })
