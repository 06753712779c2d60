-- What is found in the body of a page: whatever holds of each run of rows of text that is in the body, in a cell or in a caption, and of each row
-- of a heading there, holds of each paragraph and heading.
use Rattle.std.proofs.Common.{arith, ◌≡◌, ◌⊎◌, inl, inr, ℕ, zero, suc, ◌+◌, true, false, List, [], ◌∷◌, ◌++◌, refl, sym, ap, ◌∙◌, subst, append-nil, append_assoc}
use Rattle.std.specs.List.{flat_map}
use Rattle.wt_span.specs.Items.{Item}
use Rattle.wt_lines.specs.declared.kind.LineKind.{LineKind}
use Rattle.wt_lines.specs.declared.kind.LineKind.TheVariants as line
use Rattle.wt_lines.specs.declared.kind.TheConstants.{MOST_TABLES}
use Rattle.wt_tables.specs.Extents.{is_open}
use Rattle.wt_tables.specs.Parts.{TableOf, table_lines, table_of}
use Rattle.wt_inline.specs.Inside.{opened_all}
use Rattle.wt_inline.specs.ItemTree.{ItemTree, forest, tree_items}
use Rattle.wt_inline.specs.Parts.{children}
use Rattle.wt_page.specs.Headings.{heading as heading_tree}
use Rattle.wt_page.specs.Rows.{Row, kind_of, row_items, all_items, first_lead, last_ending, rows_from}
use Rattle.wt_page.specs.Stretches.{Stretch, gap, stretches_parts, tree_block}
use Rattle.wt_page.specs.Tables.{Reading, gaps}
use Rattle.wt_page.specs.Texts.{with_separators, para, pre as pre_tree, rule as rule_leaf}
use Rattle.wt_page.specs.Body.{blocks_by, within, blocks, body_parts}
use Rattle.wt_page.proofs.Held.{kept, kept_tree}
use Rattle.wt_page.proofs.HeldTexts.{of_around, of_para, of_pre, of_row, of_heading, of_rule}
use Rattle.wt_tables.proofs.PartLines.{table_joined}
use Rattle.wt_part_laws.specs.Blocks.{Block, blank, table, heading, rule, lists, preformatted, paragraph, block_rows, AllAre, BeginOtherwise, IsBlock, AreBlocks, block_parts}
use Rattle.wt_part_laws.specs.Rounds.{EndOtherwise}
use Rattle.wt_part_laws.specs.Slots.{AllTrue}
use Rattle.wt_part_laws.specs.Units.{Level}
use Rattle.wt_part_laws.proofs.BlockCases.{read_by_cases}
use Rattle.wt_part_laws.proofs.Falling.{IsPart, unit_is_part}
use Rattle.wt_part_laws.proofs.PageBlocks.{page_blocked}
use Rattle.wt_part_laws.proofs.UnitCuts.{inside_of}
use Rattle.wt_called_edit_laws.specs.AnyBlocks.{open_after}
use Rattle.wt_called_edit_laws.proofs.AllTold.Found.{size, tree_size, size_both, FoundIn, FoundAll, children_found, FoundParts, parts_to, stretches_join}
use Rattle.wt_called_edit_laws.proofs.AllTold.FoundTables.{width, width_both, gap_first, gaps_found, IsAmong, ReadsFound, end_behind, table_found}
use Rattle.wt_called_edit_laws.proofs.AllTold.Opens.{open_both, block_open}
use Rattle.wt_called_edit_laws.proofs.AllTold.OtherNodes.{opened_size, bare_found, around_bare, lists_found, pre_other, rule_other}
use Rattle.wt_called_edit_laws.proofs.AllTold.TableParts.{table_is}

-- ---- what is asked of rows

-- It holds of each paragraph that rows of text among these are, and of each heading, with the byte at which it begins.
pub record HoldsOfRows (P : ℕ → ItemTree → Type 0) (all : List Row) : Type 0 where
  pub texts : (pre : List Row) (r : Row) (rs post : List Row) → IsAmong all pre (r ∷ rs) post → AllAre line.Text (r ∷ rs) → P (width pre + size r.lead) (para (r ∷ rs))
  pub headings : (pre : List Row) (r : Row) (post : List Row) → all ≡ pre ++ (r ∷ post) → AllTrue (open_after [] pre) → r.kind ≡ line.Heading
      → P (width pre + size r.lead) (heading_tree r.items)

-- ---- kinds of rows beside them

end_join : (k : LineKind) (xs : List Row) (r : Row) (rs : List Row) → EndOtherwise k (r ∷ rs) → EndOtherwise k (xs ++ r ∷ rs)
end_join k [] r rs h = h
end_join k (x ∷ []) r rs h = h
end_join k (x ∷ y ∷ xs) r rs h = end_join k (y ∷ xs) r rs h

all_end : (j : LineKind) (r : Row) (rs : List Row) → (j ≡ line.Text → ⊥) → AllAre j (r ∷ rs) → EndOtherwise line.Text (r ∷ rs)
all_end j r [] nay h = λ e. nay (sym h.0 ∙ e)
all_end j r (s ∷ rs) nay h = all_end j s rs nay h.1

first_row : Row → List Row → Row
first_row r [] = r
first_row r (s ∷ rs) = s

other_rows : List Row → List Row
other_rows [] = []
other_rows (r ∷ rs) = rs

-- the last row, and those before it
last_same : (xs ys : List Row) (a b : Row) → xs ++ a ∷ [] ≡ ys ++ b ∷ [] → (xs ≡ ys) × (a ≡ b)
unfolding first_row other_rows
last_same [] [] a b e = (refl, ap (first_row a) e)
last_same [] (y ∷ []) a b e = let z : [] ≡ b ∷ [] = ap other_rows e in absurd (cc)
last_same [] (y ∷ z ∷ ys) a b e = let n : [] ≡ z ∷ (ys ++ b ∷ []) = ap other_rows e in absurd (cc)
last_same (x ∷ []) [] a b e = let z : a ∷ [] ≡ [] = ap other_rows e in absurd (cc)
last_same (x ∷ w ∷ xs) [] a b e = let n : w ∷ (xs ++ a ∷ []) ≡ [] = ap other_rows e in absurd (cc)
last_same (x ∷ xs) (y ∷ ys) a b e =
    let first : x ≡ y = ap (first_row x) e in
    let rest = last_same xs ys a b (ap other_rows e) in
    (ap (λ (r : Row). r ∷ xs) first ∙ ap (λ (rs : List Row). y ∷ rs) rest.0, rest.1)

-- ---- a table by its rows

record TableRows (r : Row) (rs : List Row) (last : Row) : Type 0 where
  level : Level 0 rs
  ends : last.kind ≡ line.TableEnd

table_rows : (r : Row) (rs : List Row) (last : Row) → r.kind ≡ line.TableOpen → IsPart (r ∷ (rs ++ last ∷ [])) → TableRows r rs last
table_rows r rs last o (inr (other, z)) =
    let t : is_open r.kind ≡ true = ap is_open o in
    let f : is_open r.kind ≡ false = other.opens in absurd (cc)
table_rows r rs last o (inl (e, f)) =
    let i = inside_of 0 (rs ++ last ∷ []) f in
    let same = last_same rs i.inside last i.last i.is in
    record { level = subst (Level 0) (sym same.0) i.level; ends = ap (λ (s : Row). s.kind) same.1 ∙ i.ends }

-- ---- one block

around_found : (P : ℕ → ItemTree → Type 0) (at : ℕ) (t : ItemTree) (rs : List Row) (xs : List Item) → FoundIn P (at + size (first_lead rs)) t
    → kept (with_separators t rs) ≡ opened_all xs → FoundParts P at (stretches_parts (with_separators t rs)) (at + size xs)
around_found P at t rs xs h e =
    let lead : List Item = first_lead rs in
    let last : List Item = last_ending rs in
    let all : size (opened_all lead ++ (kept_tree t ++ opened_all last)) ≡ size (opened_all xs) = ap size (sym (of_around t rs) ∙ e) in
    let a : ℕ = at + size lead in
    let end : ℕ = at + size xs in
    let z : (a + tree_size t) + size last ≡ end =
    omega (
      arith,
      all,
      size_both (opened_all lead) (kept_tree t ++ opened_all last),
      size_both (kept_tree t) (opened_all last),
      opened_size lead,
      opened_size (tree_items t),
      opened_size last,
      opened_size xs,
    ) in
    gap_first P at a end lead (tree_block t ∷ gap last ∷ []) refl (h, gap_first P (a + tree_size t) end end last [] z refl)

one_width : (r : Row) → size (row_items r) ≡ width (r ∷ [])
one_width r = omega (arith, size_both (row_items r) [])

heading_in : (P : ℕ → ItemTree → Type 0) (at : ℕ) (xs : List Item) → P at (heading_tree xs) → FoundIn P at (heading_tree xs)
unfolding heading_tree
heading_in P at xs h = h

para_in : (P : ℕ → ItemTree → Type 0) (at : ℕ) (rs : List Row) → P at (para rs) → FoundIn P at (para rs)
unfolding para
para_in P at rs h = h

-- before it is no text, or it begins with none
abbrev BeginsApart : List Row → List Row → Type 0
BeginsApart pre rs = EndOtherwise line.Text pre ⊎ BeginOtherwise line.Text rs

text_before : (pre : List Row) (r : Row) (rs : List Row) → r.kind ≡ line.Text → BeginsApart pre (r ∷ rs) → EndOtherwise line.Text pre
text_before pre r rs e (inl h) = h
text_before pre r rs e (inr nay) = absurd (nay e)

both_apart : (others post : List Row) → BeginOtherwise line.Text others → BeginOtherwise line.Text post → BeginOtherwise line.Text (others ++ post)
both_apart [] post h g = g
both_apart (r ∷ rs) post h g = h

block_found : (P : ℕ → ItemTree → Type 0) (all : List Row) (read : Reading) → HoldsOfRows P all → ReadsFound P all read → (b : Block) (others pre post : List Row)
    → IsBlock b others → all ≡ pre ++ (block_rows b ++ (others ++ post)) → AllTrue (open_after [] pre) → BeginsApart pre (block_rows b ++ others)
    → BeginOtherwise line.Text post → FoundParts P (width pre) (stretches_parts (block_parts read b)) (width pre + width (block_rows b))
block_found P all read p f (blank r) others pre post h is c a o =
    let z : width pre + size (row_items r) ≡ width pre + width (r ∷ []) = omega (arith, one_width r) in
    gap_first P (width pre) (width pre + width (r ∷ [])) (width pre + width (r ∷ [])) (row_items r) [] z refl
block_found P all read p f (table r rs last) others pre post h is c a o =
    let t : TableOf Row = table_of kind_of r rs in
    let lines : table_lines t ≡ r ∷ rs = table_joined kind_of r rs in
    let parts : TableRows r rs last = table_rows r rs last h.0 (unit_is_part (r ∷ (rs ++ last ∷ [])) h.1) in
    let more : List Row = others ++ post in
    let own : List Row = r ∷ (rs ++ last ∷ []) in
    let all_is : all ≡ pre ++ (table_lines t ++ (last ∷ more)) =
    is ∙ ap (λ (xs : List Row). pre ++ xs) (append_assoc (r ∷ rs) (last ∷ []) more ∙ ap (λ (xs : List Row). xs ++ (last ∷ more)) (sym lines)) in
    let nay : last.kind ≡ line.Text → ⊥ = λ e. let z : line.TableEnd ≡ line.Text = sym parts.ends ∙ e in absurd (cc) in
    let z : width (pre ++ table_lines t) + width (last ∷ []) ≡ width pre + width own =
    omega (arith, width_both pre (table_lines t), ap width lines, width_both (r ∷ rs) (last ∷ [])) in
    parts_to P (width pre) (width (pre ++ table_lines t) + width (last ∷ [])) (width pre + width own) (stretches_parts (block_parts read (table r rs last))) z
    (table_found P all read f r t last pre more (table_is r rs parts.level) h.0 nay c all_is)
block_found P all read p f (heading r) others pre post h is c a o =
    let at : ℕ = width pre in
    let z : at + size (row_items r) ≡ at + width (r ∷ []) = omega (arith, one_width r) in
    parts_to P at (at + size (row_items r)) (at + width (r ∷ [])) (stretches_parts (with_separators (heading_tree r.items) (r ∷ []))) z
    (around_found P at (heading_tree r.items) (r ∷ []) (row_items r) (heading_in P (at + size r.lead) r.items (p.headings pre r (others ++ post) is c h))
    (of_row (heading_tree r.items) r (of_heading r.items)))
block_found P all read p f (rule r) others pre post h is c a o =
    let at : ℕ = width pre in
    let t : ItemTree = rule_leaf r.items in
    let z : at + size (row_items r) ≡ at + width (r ∷ []) = omega (arith, one_width r) in
    parts_to P at (at + size (row_items r)) (at + width (r ∷ [])) (stretches_parts (with_separators t (r ∷ []))) z
    (bare_found P at (with_separators t (r ∷ [])) (row_items r) (around_bare r.lead r.ending t (rule_other r.items)) (of_row t r (of_rule r.items)))
block_found P all read p f (lists r rs) others pre post h is c a o = lists_found P (width pre) (r ∷ rs)
block_found P all read p f (preformatted r rs) others pre post h is c a o =
    bare_found P (width pre) (with_separators (pre_tree (r ∷ rs)) (r ∷ rs)) (all_items (r ∷ rs))
    (around_bare r.lead (last_ending (r ∷ rs)) (pre_tree (r ∷ rs)) (pre_other (r ∷ rs))) (of_pre (r ∷ rs))
block_found P all read p f (paragraph r rs) others pre post h is c a o =
    let among : IsAmong all pre (r ∷ rs) (others ++ post) = record {
      is = is;
      in_cells = c;
      before = text_before pre r (rs ++ others) h.0.0 a;
      behind = both_apart others post h.1 o;
    } in
    around_found P (width pre) (para (r ∷ rs)) (r ∷ rs) (all_items (r ∷ rs))
    (para_in P (width pre + size r.lead) (r ∷ rs) (p.texts pre r rs (others ++ post) among h.0)) (of_para (r ∷ rs))

-- ---- all blocks of rows

table_end : (pre : List Row) (r : Row) (rs : List Row) (last : Row) → last.kind ≡ line.TableEnd → EndOtherwise line.Text (pre ++ (r ∷ (rs ++ last ∷ [])))
table_end pre r rs last e =
    subst (EndOtherwise line.Text) (append_assoc pre (r ∷ rs) (last ∷ []))
    (end_behind line.Text (pre ++ (r ∷ rs)) last (λ z. let n : line.TableEnd ≡ line.Text = sym e ∙ z in absurd (cc)))

one_end : (pre : List Row) (r : Row) (k : LineKind) → (k ≡ line.Text → ⊥) → r.kind ≡ k → EndOtherwise line.Text (pre ++ r ∷ [])
one_end pre r k nay e = end_behind line.Text pre r (λ z. nay (sym e ∙ z))

behind_apart : (pre : List Row) (b : Block) (others : List Row) → IsBlock b others → BeginsApart (pre ++ block_rows b) others
behind_apart pre (blank r) others h = inl (one_end pre r line.Blank (λ z. absurd (cc)) h)
behind_apart pre (table r rs last) others h =
    inl (table_end pre r rs last (table_rows r rs last h.0 (unit_is_part (r ∷ (rs ++ last ∷ [])) h.1)).ends)
behind_apart pre (heading r) others h = inl (one_end pre r line.Heading (λ z. absurd (cc)) h)
behind_apart pre (rule r) others h = inl (one_end pre r line.Rule (λ z. absurd (cc)) h)
behind_apart pre (lists r rs) others h = inl (end_join line.Text pre r rs (all_end line.List r rs (λ z. absurd (cc)) h.0))
behind_apart pre (preformatted r rs) others h = inl (end_join line.Text pre r rs (all_end line.Pre r rs (λ z. absurd (cc)) h.0))
behind_apart pre (paragraph r rs) others h = inr h.1

all_found : (P : ℕ → ItemTree → Type 0) (all : List Row) (read : Reading) → HoldsOfRows P all → ReadsFound P all read → (us : List Block) (pre rs post : List Row)
    → AreBlocks us rs → all ≡ pre ++ (rs ++ post) → AllTrue (open_after [] pre) → BeginsApart pre rs → BeginOtherwise line.Text post
    → FoundParts P (width pre) (stretches_parts (flat_map (block_parts read) us)) (width pre + width rs)
all_found P all read p f [] pre rs post h is c a o = let z : width rs ≡ 0 = ap width h in omega (arith, z)
all_found P all read p f (b ∷ us) pre rs post h is c a o =
    let own : List Row = block_rows b in
    let others : List Row = h.0 in
    let next : List Row = pre ++ own in
    let all_is : all ≡ pre ++ (own ++ (others ++ post)) = is ∙ ap (λ (xs : List Row). pre ++ (xs ++ post)) h.1 ∙ ap (λ (xs : List Row). pre ++ xs) (append_assoc own others post) in
    let one = block_found P all read p f b others pre post h.2 all_is c (subst (BeginsApart pre) h.1 a) o in
    let cells : AllTrue (open_after [] next) = subst AllTrue (sym (open_both [] pre own ∙ block_open (open_after [] pre) b others h.2)) c in
    let z : width next + width others ≡ width pre + width rs = omega (arith, width_both pre own, ap width h.1, width_both own others) in
    stretches_join P (width pre) (width next) (width pre + width rs) (block_parts read b) (flat_map (block_parts read) us)
    (parts_to P (width pre) (width pre + width own) (width next) (stretches_parts (block_parts read b)) (sym (width_both pre own)) one)
    (parts_to P (width next) (width next + width others) (width pre + width rs) (stretches_parts (flat_map (block_parts read) us)) z
    (all_found P all read p f us next others post h.3 (all_is ∙ sym (append_assoc pre own (others ++ post))) cells (behind_apart pre b others h.2) o))

by_found : (P : ℕ → ItemTree → Type 0) (all : List Row) (read : Reading) → HoldsOfRows P all → ReadsFound P all read → ReadsFound P all (blocks_by read)
by_found P all read p f pre rs post us h g =
    subst (λ (ss : List Stretch). FoundParts P (width pre) (stretches_parts ss) (width pre + width rs)) (sym (read_by_cases read us rs h))
    (all_found P all read p f us pre rs post h g.is g.in_cells (inl g.before) g.behind)

within_found : (P : ℕ → ItemTree → Type 0) (all : List Row) → HoldsOfRows P all → (n : ℕ) → ReadsFound P all (within n)
within_found P all p zero = by_found P all gaps p (λ pre rs post us h g. gaps_found P (width pre) rs)
within_found P all p (suc n) = by_found P all (within n) p (within_found P all p n)

-- ---- the body

pub body_found : (P : ℕ → ItemTree → Type 0) (ls : List (List Item)) → HoldsOfRows P (rows_from 0 ls)
    → FoundAll P 0 (forest (children (body_parts (rows_from 0 ls)))) (width (rows_from 0 ls))
unfolding blocks
body_found P ls p =
    let all : List Row = rows_from 0 ls in
    let b = page_blocked ls in
    let z : 0 + width all ≡ width all = omega arith in
    children_found P 0 (width all) (stretches_parts (within MOST_TABLES all))
    (parts_to P 0 (0 + width all) (width all) (stretches_parts (within MOST_TABLES all)) z
    (within_found P all p MOST_TABLES [] all [] b.its_blocks b.are (record { is = sym (append-nil all); in_cells = tt; before = tt; behind = tt })))
