-- Rows that are blocks by cases are read as what these make.
use Rattle.std.proofs.Common.{◌≡◌, true, false, List, [], ◌∷◌, ◌++◌, refl, sym, ap, ◌∙◌, subst, inr, append-nil}
use Rattle.std.specs.Prelude.{map}
use Rattle.std.specs.List.{flat_map}
use Rattle.wt_span.specs.Runs.{runs, IsRun}
use Rattle.wt_span.proofs.RunLaws.{runs_cut}
use Rattle.wt_lines.specs.declared.kind.LineKind.{LineKind}
use Rattle.wt_lines.specs.declared.kind.LineKind.TheVariants as line
use Rattle.wt_tables.specs.Extents.{inner_len}
use Rattle.wt_tables.specs.Parts.{joined, taken_len, put_first, units_from, units, unit_kind, table_of}
use Rattle.wt_page.specs.Rows.{Row, kind_of}
use Rattle.wt_page.specs.Tables.{Reading, table, table_by, last_of, without_last}
use Rattle.wt_page.specs.Body.{one_block, same_block, block_stretches, run_stretches, blocks_by}
use Rattle.wt_part_laws.specs.Blocks.{Block, blank, table as table_block, heading, rule, lists, preformatted, paragraph, block_rows, AllAre, BeginOtherwise, IsBlock, AreBlocks, block_parts}
use Rattle.wt_part_laws.proofs.Falling.{IsOther, unit_is_part}
use Rattle.wt_part_laws.proofs.UnitCuts.{first_unit}

-- ---- units of blocks

abbrev alone : Row → List Row
alone r = r ∷ []

abbrev pub units_of : Block → List (List Row)
units_of (blank r) = alone r ∷ []
units_of (table_block r rs last) = (r ∷ (rs ++ last ∷ [])) ∷ []
units_of (heading r) = alone r ∷ []
units_of (rule r) = alone r ∷ []
units_of (lists r rs) = map alone (r ∷ rs)
units_of (preformatted r rs) = map alone (r ∷ rs)
units_of (paragraph r rs) = map alone (r ∷ rs)

blanks : IsOther line.Blank
blanks = record { opens = refl; ends = refl; alone = λ n. refl; stays = λ n. refl; further = λ ks d. refl; no_end = λ e. absurd cc }

headings : IsOther line.Heading
headings = record { opens = refl; ends = refl; alone = λ n. refl; stays = λ n. refl; further = λ ks d. refl; no_end = λ e. absurd cc }

rules : IsOther line.Rule
rules = record { opens = refl; ends = refl; alone = λ n. refl; stays = λ n. refl; further = λ ks d. refl; no_end = λ e. absurd cc }

list_rows : IsOther line.List
list_rows = record { opens = refl; ends = refl; alone = λ n. refl; stays = λ n. refl; further = λ ks d. refl; no_end = λ e. absurd cc }

pre_rows : IsOther line.Pre
pre_rows = record { opens = refl; ends = refl; alone = λ n. refl; stays = λ n. refl; further = λ ks d. refl; no_end = λ e. absurd cc }

texts : IsOther line.Text
texts = record { opens = refl; ends = refl; alone = λ n. refl; stays = λ n. refl; further = λ ks d. refl; no_end = λ e. absurd cc }

single : (k : LineKind) (r : Row) (others : List Row) → IsOther k → r.kind ≡ k → units kind_of (r ∷ others) ≡ alone r ∷ units kind_of others
single k r others o e = first_unit (alone r) others (inr (subst IsOther (sym e) o, refl))

singles : (k : LineKind) (rs others : List Row) → IsOther k → AllAre k rs → units kind_of (rs ++ others) ≡ map alone rs ++ units kind_of others
singles k [] others o h = refl
singles k (r ∷ rs) others o (e, h) = single k r (rs ++ others) o e ∙ ap (λ us. alone r ∷ us) (singles k rs others o h)

pub block_units : (b : Block) (others : List Row) → IsBlock b others → units kind_of (block_rows b ++ others) ≡ units_of b ++ units kind_of others
block_units (blank r) others h = single line.Blank r others blanks h
block_units (table_block r rs last) others (e, u) = first_unit (r ∷ (rs ++ last ∷ [])) others (unit_is_part _ u)
block_units (heading r) others h = single line.Heading r others headings h
block_units (rule r) others h = single line.Rule r others rules h
block_units (lists r rs) others (h, b) = singles line.List (r ∷ rs) others list_rows h
block_units (preformatted r rs) others (h, b) = singles line.Pre (r ∷ rs) others pre_rows h
block_units (paragraph r rs) others (h, b) = singles line.Text (r ∷ rs) others texts h

-- ---- they are a run

put_run : (u : List Row) (r : Row) (vs : List (List Row)) → one_block (unit_kind kind_of u) r.kind ≡ false → IsRun same_block (u ∷ []) (put_first r vs)
put_run u r [] e = e
put_run u r (v ∷ vs) e = e

-- by the first of the others
abbrev pub Apart : LineKind → List Row → Type 0
Apart k [] = Unit {0}
Apart k (r ∷ rs) = one_block k r.kind ≡ false

ends_run : (k : LineKind) (u : List Row) (others : List Row) → unit_kind kind_of u ≡ k → Apart k others → IsRun same_block (u ∷ []) (units kind_of others)
ends_run k u [] e a = tt
ends_run k u (r ∷ rs) e a =
    put_run u r (units_from kind_of (taken_len r.kind (inner_len (map kind_of rs))) rs) (ap (λ (j : LineKind). one_block j r.kind) e ∙ a)

-- a kind that joins no other
abbrev JoinsNone : LineKind → Type 0
JoinsNone k = (j : LineKind) → one_block k j ≡ false

apart_all : (k : LineKind) (others : List Row) → JoinsNone k → Apart k others
apart_all k [] h = tt
apart_all k (r ∷ rs) h = h r.kind

-- a kind that joins itself alone
abbrev JoinsItself : LineKind → Type 0
JoinsItself k = (one_block k k ≡ true) × ((j : LineKind) → (j ≡ k → ⊥) → one_block k j ≡ false)

apart_other : (k : LineKind) (others : List Row) → JoinsItself k → BeginOtherwise k others → Apart k others
apart_other k [] h b = tt
apart_other k (r ∷ rs) h b = h.1 r.kind b

run_of : (k : LineKind) (r : Row) (rs others : List Row) → JoinsItself k → AllAre k (r ∷ rs) → BeginOtherwise k others
    → IsRun same_block (map alone (r ∷ rs)) (units kind_of others)
run_of k r [] others j (e, h) b = ends_run k (alone r) others e (apart_other k others j b)
run_of k r (s ∷ rs) others j (e, (f, h)) b =
    (ap (λ (i : LineKind). one_block i s.kind) e ∙ ap (one_block k) f ∙ j.0, run_of k s rs others j (f, h) b)

blank_joins : JoinsNone line.Blank
blank_joins line.Blank = refl
blank_joins line.TableOpen = refl
blank_joins line.TableEnd = refl
blank_joins line.Caption = refl
blank_joins line.Row = refl
blank_joins line.Cell = refl
blank_joins line.Header = refl
blank_joins line.Heading = refl
blank_joins line.Rule = refl
blank_joins line.List = refl
blank_joins line.Pre = refl
blank_joins line.Text = refl

table_joins : JoinsNone line.TableOpen
table_joins line.Blank = refl
table_joins line.TableOpen = refl
table_joins line.TableEnd = refl
table_joins line.Caption = refl
table_joins line.Row = refl
table_joins line.Cell = refl
table_joins line.Header = refl
table_joins line.Heading = refl
table_joins line.Rule = refl
table_joins line.List = refl
table_joins line.Pre = refl
table_joins line.Text = refl

heading_joins : JoinsNone line.Heading
heading_joins line.Blank = refl
heading_joins line.TableOpen = refl
heading_joins line.TableEnd = refl
heading_joins line.Caption = refl
heading_joins line.Row = refl
heading_joins line.Cell = refl
heading_joins line.Header = refl
heading_joins line.Heading = refl
heading_joins line.Rule = refl
heading_joins line.List = refl
heading_joins line.Pre = refl
heading_joins line.Text = refl

rule_joins : JoinsNone line.Rule
rule_joins line.Blank = refl
rule_joins line.TableOpen = refl
rule_joins line.TableEnd = refl
rule_joins line.Caption = refl
rule_joins line.Row = refl
rule_joins line.Cell = refl
rule_joins line.Header = refl
rule_joins line.Heading = refl
rule_joins line.Rule = refl
rule_joins line.List = refl
rule_joins line.Pre = refl
rule_joins line.Text = refl

list_joins_none : (j : LineKind) → (j ≡ line.List → ⊥) → one_block line.List j ≡ false
list_joins_none line.Blank h = refl
list_joins_none line.TableOpen h = refl
list_joins_none line.TableEnd h = refl
list_joins_none line.Caption h = refl
list_joins_none line.Row h = refl
list_joins_none line.Cell h = refl
list_joins_none line.Header h = refl
list_joins_none line.Heading h = refl
list_joins_none line.Rule h = refl
list_joins_none line.List h = absurd (h refl)
list_joins_none line.Pre h = refl
list_joins_none line.Text h = refl

list_joins : JoinsItself line.List
list_joins = (refl, list_joins_none)

pre_joins_none : (j : LineKind) → (j ≡ line.Pre → ⊥) → one_block line.Pre j ≡ false
pre_joins_none line.Blank h = refl
pre_joins_none line.TableOpen h = refl
pre_joins_none line.TableEnd h = refl
pre_joins_none line.Caption h = refl
pre_joins_none line.Row h = refl
pre_joins_none line.Cell h = refl
pre_joins_none line.Header h = refl
pre_joins_none line.Heading h = refl
pre_joins_none line.Rule h = refl
pre_joins_none line.List h = refl
pre_joins_none line.Pre h = absurd (h refl)
pre_joins_none line.Text h = refl

pre_joins : JoinsItself line.Pre
pre_joins = (refl, pre_joins_none)

text_joins_none : (j : LineKind) → (j ≡ line.Text → ⊥) → one_block line.Text j ≡ false
text_joins_none line.Blank h = refl
text_joins_none line.TableOpen h = refl
text_joins_none line.TableEnd h = refl
text_joins_none line.Caption h = refl
text_joins_none line.Row h = refl
text_joins_none line.Cell h = refl
text_joins_none line.Header h = refl
text_joins_none line.Heading h = refl
text_joins_none line.Rule h = refl
text_joins_none line.List h = refl
text_joins_none line.Pre h = refl
text_joins_none line.Text h = absurd (h refl)

text_joins : JoinsItself line.Text
text_joins = (refl, text_joins_none)

pub block_run : (b : Block) (others : List Row) → IsBlock b others → IsRun same_block (units_of b) (units kind_of others)
block_run (blank r) others h = ends_run line.Blank (alone r) others h (apart_all line.Blank others blank_joins)
block_run (table_block r rs last) others (e, u) = ends_run line.TableOpen (r ∷ (rs ++ last ∷ [])) others e (apart_all line.TableOpen others table_joins)
block_run (heading r) others h = ends_run line.Heading (alone r) others h (apart_all line.Heading others heading_joins)
block_run (rule r) others h = ends_run line.Rule (alone r) others h (apart_all line.Rule others rule_joins)
block_run (lists r rs) others (h, b) = run_of line.List r rs others list_joins h b
block_run (preformatted r rs) others (h, b) = run_of line.Pre r rs others pre_joins h b
block_run (paragraph r rs) others (h, b) = run_of line.Text r rs others text_joins h b

-- ---- what they make

alone_joined : (rs : List Row) → joined (map alone rs) ≡ rs
alone_joined [] = refl
alone_joined (r ∷ rs) = ap (λ (ss : List Row). r ∷ ss) (alone_joined rs)

pub joined_is : (b : Block) → joined (units_of b) ≡ block_rows b
joined_is (blank r) = refl
joined_is (table_block r rs last) = append-nil (r ∷ (rs ++ last ∷ []))
joined_is (heading r) = refl
joined_is (rule r) = refl
joined_is (lists r rs) = alone_joined (r ∷ rs)
joined_is (preformatted r rs) = alone_joined (r ∷ rs)
joined_is (paragraph r rs) = alone_joined (r ∷ rs)

before_last : (s : Row) (rs : List Row) (last : Row) → without_last s (rs ++ last ∷ []) ≡ s ∷ rs
before_last s [] last = refl
before_last s (r ∷ rs) last = ap (λ (ss : List Row). s ∷ ss) (before_last r rs last)

is_last : (s : Row) (rs : List Row) (last : Row) → last_of s (rs ++ last ∷ []) ≡ last
is_last s [] last = refl
is_last s (r ∷ rs) last = is_last r rs last

table_is : (read : Reading) (r : Row) (rs : List Row) (last : Row) → table read (r ∷ (rs ++ last ∷ [])) ≡ table_by read (table_of kind_of r rs) last
table_is read r [] last = refl
table_is read r (s ∷ rs) last =
    ap (λ (ss : List Row). table_by read (table_of kind_of r ss) (last_of s (rs ++ last ∷ []))) (before_last s rs last)
    ∙ ap (λ (t : Row). table_by read (table_of kind_of r (s ∷ rs)) t) (is_last s rs last)

made : (read : Reading) (b : Block) (others : List Row) → IsBlock b others → block_stretches read (unit_kind kind_of (block_rows b)) (block_rows b) ≡ block_parts read b
made read (blank r) others h = ap (λ (k : LineKind). block_stretches read k (r ∷ [])) h
made read (table_block r rs last) others (e, u) =
    ap (λ (k : LineKind). block_stretches read k (r ∷ (rs ++ last ∷ []))) e ∙ table_is read r rs last
made read (heading r) others h = ap (λ (k : LineKind). block_stretches read k (r ∷ [])) h
made read (rule r) others h = ap (λ (k : LineKind). block_stretches read k (r ∷ [])) h
made read (lists r rs) others (h, b) = ap (λ (k : LineKind). block_stretches read k (r ∷ rs)) h.0
made read (preformatted r rs) others (h, b) = ap (λ (k : LineKind). block_stretches read k (r ∷ rs)) h.0
made read (paragraph r rs) others (h, b) = ap (λ (k : LineKind). block_stretches read k (r ∷ rs)) h.0

block_made : (read : Reading) (b : Block) (others : List Row) → IsBlock b others → run_stretches read (units_of b) ≡ block_parts read b
block_made read b others h = ap (λ (rs : List Row). block_stretches read (unit_kind kind_of rs) rs) (joined_is b) ∙ made read b others h

-- ---- all blocks

pub read_by_cases : (read : Reading) (bs : List Block) (rs : List Row) → AreBlocks bs rs → blocks_by read rs ≡ flat_map (block_parts read) bs
read_by_cases read [] rs z = ap (blocks_by read) z
read_by_cases read (b ∷ bs) rs (others, z, h, are) =
    ap (blocks_by read) z
    ∙ ap (λ us. flat_map (run_stretches read) (runs same_block us)) (block_units b others h)
    ∙ ap (λ us. flat_map (run_stretches read) us) (runs_cut same_block (units_of b) (units kind_of others) (block_run b others h))
    ∙ ap (λ ss. ss ++ blocks_by read others) (block_made read b others h)
    ∙ ap (λ ss. block_parts read b ++ ss) (read_by_cases read bs others are)
