-- The rows of a page are blocks by cases.
use Rattle.std.proofs.Common.{◌≡◌, ◌≤◌, ℕ, zero, suc, ◌-◌, Bool, true, false, Option, Some, List, [], ◌∷◌, ◌++◌, length, drop, replicate, refl, sym, ap, ◌∙◌, subst, cond, inl, inr, arith, length-append}
use Rattle.std.specs.Prelude.{not, ◌&&◌, ◌==◌, map, reverse, codes, if◌then◌else◌}
use Rattle.std.specs.Option.{unwrap_or}
use Rattle.std.specs.List.{list_all, flat_map}
use Rattle.wt_tree.specs.declared.kind.Kind.TheVariants as kind
use Rattle.wt_span.specs.Bytes.{begins}
use Rattle.wt_span.specs.Items.{Item, sign}
use Rattle.wt_span.proofs.RunLaws.{runs_are, runs_only}
use Rattle.wt_lines.specs.declared.kind.LineKind.{LineKind}
use Rattle.wt_lines.specs.declared.kind.LineKind.TheVariants as line
use Rattle.wt_lines.specs.Kinds.{first_of, past, is_idle, is_mark_sign, text_rows, line_kind, kind_of_signs}
use Rattle.wt_lines.specs.Lines.{content, full_lines, goes_on}
use Rattle.wt_tables.specs.Extents.{is_open, behind}
use Rattle.wt_inline.specs.ItemTree.{plain, ItemTree, inner, forest}
use Rattle.wt_inline.specs.Parts.{children}
use Rattle.wt_inline.proofs.HeldLaws.{are_children, only_children}
use Rattle.wt_page.specs.Lines.{kind_at}
use Rattle.wt_page.specs.Rows.{Row, idle_len, marks_len, dashes, behind_sign, is_unseen, sign_row, whole_row, line_rows, unwritten_end, rows_from, rows}
use Rattle.wt_page.specs.Stretches.{stretches_parts}
use Rattle.wt_page.specs.Body.{within, blocks, meaning}
use Rattle.wt_part_laws.specs.Blocks.{Block, blank, table as table_block, heading, rule, lists, preformatted, paragraph, BeginOtherwise, AreBlocks, block_parts, IsMeaningByCases}
use Rattle.wt_part_laws.specs.Units.{Level}
use Rattle.wt_part_laws.proofs.Falling.{IsOther, sort, Falls, part_is_unit}
use Rattle.wt_part_laws.proofs.UnitCuts.{cut, inside_of, level_rest, rows_level}
use Rattle.wt_part_laws.proofs.BlockCases.{read_by_cases}

-- ---- outside of tables stands no line of which tables are made

abbrev pub is_inner : LineKind → Bool
is_inner line.Blank = false
is_inner line.TableOpen = false
is_inner line.TableEnd = true
is_inner line.Caption = true
is_inner line.Row = true
is_inner line.Cell = true
is_inner line.Header = true
is_inner line.Heading = false
is_inner line.Rule = false
is_inner line.List = false
is_inner line.Pre = false
is_inner line.Text = false

not_inner : (b c : Bool) → (not b && c) ≡ true → b ≡ false
not_inner true c h = absurd cc
not_inner false c h = refl

others : (b c : Bool) → (not b && c) ≡ true → c ≡ true
others true c h = absurd cc
others false c h = h

first_by : (b : Bool) (k : LineKind) (o : Option LineKind) → is_inner k ≡ false → is_inner (unwrap_or o line.Text) ≡ false
    → is_inner (unwrap_or (if b then Some k else o) line.Text) ≡ false
first_by true k o h n = h
first_by false k o h n = n

first_outer : (table : List (Bool × LineKind)) → list_all (λ r. not (is_inner r.1)) table ≡ true → is_inner (unwrap_or (first_of table) line.Text) ≡ false
first_outer [] h = refl
first_outer ((b, k) ∷ table) h = first_by b k (first_of table) (not_inner (is_inner k) _ h) (first_outer table (others (is_inner k) _ h))

outer_kind : (l : List Item) → is_inner (line_kind 0 l) ≡ false
unfolding kind_of_signs
outer_kind l =
    let s = past is_idle (map sign l) in
    let f = past is_mark_sign (map sign l) in
    let b = past is_idle (reverse (map sign l)) in
    first_outer ((length s == 0, line.Blank) ∷ (begins (codes "{|") s, line.TableOpen) ∷ text_rows f b) refl

-- so many tables are open at the first row
abbrev pub Own : ℕ → List Row → Type 0
Own d [] = Unit {0}
Own zero (r ∷ rs) = (is_inner r.kind ≡ false) × Own (behind zero r.kind) rs
Own (suc d) (r ∷ rs) = Own (behind (suc d) r.kind) rs

own_put : (d : ℕ) (r : Row) (rs : List Row) → (d ≡ 0 → is_inner r.kind ≡ false) → Own (behind d r.kind) rs → Own d (r ∷ rs)
own_put zero r rs e h = (e refl, h)
own_put (suc d) r rs e h = h

signs_own : (unseen : Bool) (n : ℕ) (k : LineKind) (r s t : Row) (rs : List Row) → r.kind ≡ k → s.kind ≡ k → t.kind ≡ line.Text
    → (n ≡ 0 → is_inner k ≡ false) → Own (behind n k) rs → Own n (cond unseen (r ∷ []) (s ∷ t ∷ []) ++ rs)
signs_own true n k r s t rs a b c h g = own_put n r rs (λ z. ap is_inner a ∙ h z) (subst (λ (x : LineKind). Own (behind n x) rs) (sym a) g)
signs_own false n k r s t rs a b c h g =
    own_put n s (t ∷ rs) (λ z. ap is_inner b ∙ h z) (subst (λ (x : LineKind). Own (behind n x) (t ∷ rs)) (sym b)
    (own_put (behind n k) t rs (λ z. ap is_inner c) (subst (λ (x : LineKind). Own (behind (behind n k) x) rs) (sym c) g)))

line_own : (k : LineKind) (n : ℕ) (l : List Item) (rs : List Row) → (n ≡ 0 → is_inner k ≡ false) → Own (behind n k) rs → Own n (line_rows k l ++ rs)
line_own line.Blank n l rs h g = own_put n (record { kind = line.Blank; lead = []; items = l; ending = [] }) rs h g
line_own line.TableOpen n l rs h g = own_put n (whole_row line.TableOpen (idle_len l) l) rs h g
line_own line.TableEnd n l rs h g =
    let m = idle_len l in
    let rest = behind_sign m 2 l in
    signs_own (is_unseen rest) n line.TableEnd (sign_row line.TableEnd m 2 l rest) (sign_row line.TableEnd m 2 l [])
    (whole_row line.Text (marks_len rest) rest) rs refl refl refl h g
line_own line.Caption n l rs h g = own_put n (whole_row line.Caption (idle_len l) l) rs h g
line_own line.Row n l rs h g = own_put n (whole_row line.Row (idle_len l) l) rs h g
line_own line.Cell n l rs h g = own_put n (whole_row line.Cell (idle_len l) l) rs h g
line_own line.Header n l rs h g = own_put n (whole_row line.Header (idle_len l) l) rs h g
line_own line.Heading n l rs h g = own_put n (whole_row line.Heading (marks_len l) l) rs h g
line_own line.Rule n l rs h g =
    let m = marks_len l in
    let d = dashes (drop m l) in
    let rest = behind_sign m d l in
    signs_own (is_unseen rest) n line.Rule (sign_row line.Rule m d l rest) (sign_row line.Rule m d l [])
    (whole_row line.Text (marks_len rest) rest) rs refl refl refl h g
line_own line.List n l rs h g = own_put n (whole_row line.List (marks_len l) l) rs h g
line_own line.Pre n l rs h g = own_put n (whole_row line.Pre (marks_len l) l) rs h g
line_own line.Text n l rs h g = own_put n (whole_row line.Text (marks_len l) l) rs h g

ends_own : (n : ℕ) → Own n (replicate n unwritten_end)
ends_own zero = tt
ends_own (suc n) =
    let m : suc n - 1 ≡ n = omega arith in subst (λ (x : ℕ). Own x (replicate n unwritten_end)) (sym m) (ends_own n)

kind_outer : (n : ℕ) (l : List Item) → n ≡ 0 → is_inner (kind_at n l) ≡ false
kind_outer n l z = ap (λ (m : ℕ). is_inner (kind_at m l)) z ∙ outer_kind (content l)

pub rows_own : (n : ℕ) (ls : List (List Item)) → Own n (rows_from n ls)
rows_own n [] = ends_own n
rows_own n (l ∷ ls) =
    line_own (kind_at n l) n l (rows_from (behind n (kind_at n l)) ls) (kind_outer n l) (rows_own (behind n (kind_at n l)) ls)

own_behind : (d : ℕ) (front back : List Row) → Falls d front → Own d (front ++ back) → Own 0 back
own_behind zero [] back f h = h
own_behind zero (r ∷ rs) back f h = absurd f
own_behind (suc d) [] back f h = absurd f
own_behind (suc d) (r ∷ rs) back f h = own_behind (behind (suc d) r.kind) rs back f h

-- ---- a row more before blocks

pub record Blocked (rs : List Row) : Type 0 where
  pub its_blocks : List Block
  pub are : AreBlocks its_blocks rs

put_list : (r : Row) (rs : List Row) (bs : List Block) → r.kind ≡ line.List → AreBlocks bs rs → Blocked (r ∷ rs)
put_list r rs [] e z = record { its_blocks = lists r [] ∷ []; are = ([], ap (λ (ss : List Row). r ∷ ss) z, ((e, tt), tt), refl) }
put_list r rs (blank s ∷ bs) e (os, z, a, h) =
    let no : s.kind ≡ line.List → ⊥ = λ f. let w : line.Blank ≡ line.List = sym (a) ∙ f in absurd cc in
    record { its_blocks = lists r [] ∷ blank s ∷ bs; are = (rs, refl, ((e, tt), subst (BeginOtherwise line.List) (sym z) no), (os, z, a, h)) }
put_list r rs (table_block s ss last ∷ bs) e (os, z, a, h) =
    let no : s.kind ≡ line.List → ⊥ = λ f. let w : line.TableOpen ≡ line.List = sym (a.0) ∙ f in absurd cc in
    record { its_blocks = lists r [] ∷ table_block s ss last ∷ bs; are = (rs, refl, ((e, tt), subst (BeginOtherwise line.List) (sym z) no), (os, z, a, h)) }
put_list r rs (heading s ∷ bs) e (os, z, a, h) =
    let no : s.kind ≡ line.List → ⊥ = λ f. let w : line.Heading ≡ line.List = sym (a) ∙ f in absurd cc in
    record { its_blocks = lists r [] ∷ heading s ∷ bs; are = (rs, refl, ((e, tt), subst (BeginOtherwise line.List) (sym z) no), (os, z, a, h)) }
put_list r rs (rule s ∷ bs) e (os, z, a, h) =
    let no : s.kind ≡ line.List → ⊥ = λ f. let w : line.Rule ≡ line.List = sym (a) ∙ f in absurd cc in
    record { its_blocks = lists r [] ∷ rule s ∷ bs; are = (rs, refl, ((e, tt), subst (BeginOtherwise line.List) (sym z) no), (os, z, a, h)) }
put_list r rs (lists s ss ∷ bs) e (os, z, (a, b), h) = record { its_blocks = lists r (s ∷ ss) ∷ bs; are = (os, ap (λ (ts : List Row). r ∷ ts) z, ((e, a), b), h) }
put_list r rs (preformatted s ss ∷ bs) e (os, z, a, h) =
    let no : s.kind ≡ line.List → ⊥ = λ f. let w : line.Pre ≡ line.List = sym (a.0.0) ∙ f in absurd cc in
    record { its_blocks = lists r [] ∷ preformatted s ss ∷ bs; are = (rs, refl, ((e, tt), subst (BeginOtherwise line.List) (sym z) no), (os, z, a, h)) }
put_list r rs (paragraph s ss ∷ bs) e (os, z, a, h) =
    let no : s.kind ≡ line.List → ⊥ = λ f. let w : line.Text ≡ line.List = sym (a.0.0) ∙ f in absurd cc in
    record { its_blocks = lists r [] ∷ paragraph s ss ∷ bs; are = (rs, refl, ((e, tt), subst (BeginOtherwise line.List) (sym z) no), (os, z, a, h)) }

put_pre : (r : Row) (rs : List Row) (bs : List Block) → r.kind ≡ line.Pre → AreBlocks bs rs → Blocked (r ∷ rs)
put_pre r rs [] e z = record { its_blocks = preformatted r [] ∷ []; are = ([], ap (λ (ss : List Row). r ∷ ss) z, ((e, tt), tt), refl) }
put_pre r rs (blank s ∷ bs) e (os, z, a, h) =
    let no : s.kind ≡ line.Pre → ⊥ = λ f. let w : line.Blank ≡ line.Pre = sym (a) ∙ f in absurd cc in
    record { its_blocks = preformatted r [] ∷ blank s ∷ bs; are = (rs, refl, ((e, tt), subst (BeginOtherwise line.Pre) (sym z) no), (os, z, a, h)) }
put_pre r rs (table_block s ss last ∷ bs) e (os, z, a, h) =
    let no : s.kind ≡ line.Pre → ⊥ = λ f. let w : line.TableOpen ≡ line.Pre = sym (a.0) ∙ f in absurd cc in
    record { its_blocks = preformatted r [] ∷ table_block s ss last ∷ bs; are = (rs, refl, ((e, tt), subst (BeginOtherwise line.Pre) (sym z) no), (os, z, a, h)) }
put_pre r rs (heading s ∷ bs) e (os, z, a, h) =
    let no : s.kind ≡ line.Pre → ⊥ = λ f. let w : line.Heading ≡ line.Pre = sym (a) ∙ f in absurd cc in
    record { its_blocks = preformatted r [] ∷ heading s ∷ bs; are = (rs, refl, ((e, tt), subst (BeginOtherwise line.Pre) (sym z) no), (os, z, a, h)) }
put_pre r rs (rule s ∷ bs) e (os, z, a, h) =
    let no : s.kind ≡ line.Pre → ⊥ = λ f. let w : line.Rule ≡ line.Pre = sym (a) ∙ f in absurd cc in
    record { its_blocks = preformatted r [] ∷ rule s ∷ bs; are = (rs, refl, ((e, tt), subst (BeginOtherwise line.Pre) (sym z) no), (os, z, a, h)) }
put_pre r rs (lists s ss ∷ bs) e (os, z, a, h) =
    let no : s.kind ≡ line.Pre → ⊥ = λ f. let w : line.List ≡ line.Pre = sym (a.0.0) ∙ f in absurd cc in
    record { its_blocks = preformatted r [] ∷ lists s ss ∷ bs; are = (rs, refl, ((e, tt), subst (BeginOtherwise line.Pre) (sym z) no), (os, z, a, h)) }
put_pre r rs (preformatted s ss ∷ bs) e (os, z, (a, b), h) = record { its_blocks = preformatted r (s ∷ ss) ∷ bs; are = (os, ap (λ (ts : List Row). r ∷ ts) z, ((e, a), b), h) }
put_pre r rs (paragraph s ss ∷ bs) e (os, z, a, h) =
    let no : s.kind ≡ line.Pre → ⊥ = λ f. let w : line.Text ≡ line.Pre = sym (a.0.0) ∙ f in absurd cc in
    record { its_blocks = preformatted r [] ∷ paragraph s ss ∷ bs; are = (rs, refl, ((e, tt), subst (BeginOtherwise line.Pre) (sym z) no), (os, z, a, h)) }

put_text : (r : Row) (rs : List Row) (bs : List Block) → r.kind ≡ line.Text → AreBlocks bs rs → Blocked (r ∷ rs)
put_text r rs [] e z = record { its_blocks = paragraph r [] ∷ []; are = ([], ap (λ (ss : List Row). r ∷ ss) z, ((e, tt), tt), refl) }
put_text r rs (blank s ∷ bs) e (os, z, a, h) =
    let no : s.kind ≡ line.Text → ⊥ = λ f. let w : line.Blank ≡ line.Text = sym (a) ∙ f in absurd cc in
    record { its_blocks = paragraph r [] ∷ blank s ∷ bs; are = (rs, refl, ((e, tt), subst (BeginOtherwise line.Text) (sym z) no), (os, z, a, h)) }
put_text r rs (table_block s ss last ∷ bs) e (os, z, a, h) =
    let no : s.kind ≡ line.Text → ⊥ = λ f. let w : line.TableOpen ≡ line.Text = sym (a.0) ∙ f in absurd cc in
    record { its_blocks = paragraph r [] ∷ table_block s ss last ∷ bs; are = (rs, refl, ((e, tt), subst (BeginOtherwise line.Text) (sym z) no), (os, z, a, h)) }
put_text r rs (heading s ∷ bs) e (os, z, a, h) =
    let no : s.kind ≡ line.Text → ⊥ = λ f. let w : line.Heading ≡ line.Text = sym (a) ∙ f in absurd cc in
    record { its_blocks = paragraph r [] ∷ heading s ∷ bs; are = (rs, refl, ((e, tt), subst (BeginOtherwise line.Text) (sym z) no), (os, z, a, h)) }
put_text r rs (rule s ∷ bs) e (os, z, a, h) =
    let no : s.kind ≡ line.Text → ⊥ = λ f. let w : line.Rule ≡ line.Text = sym (a) ∙ f in absurd cc in
    record { its_blocks = paragraph r [] ∷ rule s ∷ bs; are = (rs, refl, ((e, tt), subst (BeginOtherwise line.Text) (sym z) no), (os, z, a, h)) }
put_text r rs (lists s ss ∷ bs) e (os, z, a, h) =
    let no : s.kind ≡ line.Text → ⊥ = λ f. let w : line.List ≡ line.Text = sym (a.0.0) ∙ f in absurd cc in
    record { its_blocks = paragraph r [] ∷ lists s ss ∷ bs; are = (rs, refl, ((e, tt), subst (BeginOtherwise line.Text) (sym z) no), (os, z, a, h)) }
put_text r rs (preformatted s ss ∷ bs) e (os, z, a, h) =
    let no : s.kind ≡ line.Text → ⊥ = λ f. let w : line.Pre ≡ line.Text = sym (a.0.0) ∙ f in absurd cc in
    record { its_blocks = paragraph r [] ∷ preformatted s ss ∷ bs; are = (rs, refl, ((e, tt), subst (BeginOtherwise line.Text) (sym z) no), (os, z, a, h)) }
put_text r rs (paragraph s ss ∷ bs) e (os, z, (a, b), h) = record { its_blocks = paragraph r (s ∷ ss) ∷ bs; are = (os, ap (λ (ts : List Row). r ∷ ts) z, ((e, a), b), h) }

pub put_table : (r : Row) (front back : List Row) → r.kind ≡ line.TableOpen → Falls 1 front → Blocked back → Blocked (r ∷ (front ++ back))
put_table r front back e f more =
    let i = inside_of 0 front f in
    record {
      its_blocks = table_block r i.inside i.last ∷ more.its_blocks;
      are = (
        back,
        ap (λ (ss : List Row). r ∷ (ss ++ back)) i.is,
        (e, part_is_unit (r ∷ (i.inside ++ i.last ∷ [])) (inl (e, subst (Falls 1) i.is f))),
        more.are,
      );
    }

-- a row of another kind
pub put_row : (k : LineKind) (r : Row) (rs : List Row) → r.kind ≡ k → is_inner k ≡ false → (k ≡ line.TableOpen → ⊥) → Blocked rs → Blocked (r ∷ rs)
put_row line.Blank r rs e n o more = record { its_blocks = blank r ∷ more.its_blocks; are = (rs, refl, e, more.are) }
put_row line.TableOpen r rs e n o more = absurd (o refl)
put_row line.TableEnd r rs e n o more = absurd cc
put_row line.Caption r rs e n o more = absurd cc
put_row line.Row r rs e n o more = absurd cc
put_row line.Cell r rs e n o more = absurd cc
put_row line.Header r rs e n o more = absurd cc
put_row line.Heading r rs e n o more = record { its_blocks = heading r ∷ more.its_blocks; are = (rs, refl, e, more.are) }
put_row line.Rule r rs e n o more = record { its_blocks = rule r ∷ more.its_blocks; are = (rs, refl, e, more.are) }
put_row line.List r rs e n o more = put_list r rs more.its_blocks e more.are
put_row line.Pre r rs e n o more = put_pre r rs more.its_blocks e more.are
put_row line.Text r rs e n o more = put_text r rs more.its_blocks e more.are

-- ---- rows of a page

pub no_open : (k : LineKind) → IsOther k → k ≡ line.TableOpen → ⊥
no_open k o e =
    let t : is_open k ≡ true = ap is_open e in
    let f : is_open k ≡ false = o.opens in absurd cc

blocked : (m : ℕ) (rs : List Row) → length rs ≤ m → Level 0 rs → Own 0 rs → Blocked rs
blocked m [] l h o = record { its_blocks = []; are = refl }
blocked zero (r ∷ rs) l h o = absurd (omega (arith, l))
blocked (suc m) (r ∷ rs) l h o =
    elim (sort r.kind) [
      | inl e ↦ let c = cut 0 rs (subst (λ (n : ℕ). Level n rs) (ap (behind 0) e) (level_rest 0 r rs h)) in
          let own : Own 1 (c.front ++ c.back) = subst (Own 1) c.is (subst (λ (n : ℕ). Own n rs) (ap (behind 0) e) o.1) in
          let more = blocked m c.back (omega (arith, l, ap length c.is, length-append c.front c.back)) c.level
          (own_behind 1 c.front c.back c.falls own) in
          subst (λ (ss : List Row). Blocked (r ∷ ss)) (sym c.is) (put_table r c.front c.back e c.falls more)
      | inr (inl e) ↦ let no : is_inner r.kind ≡ true = ap is_inner e in
          let outer : is_inner r.kind ≡ false = o.0 in absurd cc
      | inr (inr t) ↦ put_row r.kind r rs refl o.0 (no_open r.kind t)
          (blocked m rs (omega (arith, l)) (subst (λ (n : ℕ). Level n rs) (t.stays 0) (level_rest 0 r rs h))
          (subst (λ (n : ℕ). Own n rs) (t.stays 0) o.1))
    ]

pub page_blocked : (ls : List (List Item)) → Blocked (rows_from 0 ls)
page_blocked ls = blocked (length (rows_from 0 ls)) (rows_from 0 ls) (omega arith) (rows_level 0 ls) (rows_own 0 ls)

-- ---- the meaning

pub meaning_are : (xs : List Item) → IsMeaningByCases (meaning xs) xs
unfolding meaning blocks rows
meaning_are xs =
    let b = page_blocked (full_lines xs) in
    let same = read_by_cases (within 15) b.its_blocks (rows_from 0 (full_lines xs)) b.are in
    record {
      its_lines = full_lines xs;
      its_blocks = b.its_blocks;
      its_children = children (stretches_parts (flat_map (block_parts (within 15)) b.its_blocks));
      are_lines = runs_are goes_on xs;
      are_blocks = b.are;
      are_children = are_children (stretches_parts (flat_map (block_parts (within 15)) b.its_blocks));
      is_body = ap (λ ss. inner (plain kind.Body) [] (forest (children (stretches_parts ss))) []) same;
    }

pub meaning_only : (t : ItemTree) (xs : List Item) → IsMeaningByCases t xs → t ≡ meaning xs
unfolding meaning blocks rows
meaning_only t xs m =
    let ls : m.its_lines ≡ full_lines xs = runs_only goes_on m.its_lines xs m.are_lines in
    let same = read_by_cases (within 15) m.its_blocks (rows_from 0 m.its_lines) m.are_blocks in
    m.is_body ∙ ap (λ ts. inner (plain kind.Body) [] (forest ts) [])
    (only_children m.its_children (stretches_parts (flat_map (block_parts (within 15)) m.its_blocks)) m.are_children
    ∙ ap (λ ss. children (stretches_parts ss)) (sym same)
    ∙ ap (λ ns. children (stretches_parts (within 16 (rows_from 0 ns)))) ls)
