-- A block among those that rows are cut into: the rows before it open as many tables as they end, and before a paragraph they end with no text.
use Rattle.std.proofs.Common.{arith, ◌≡◌, ◌+◌, false, List, [], ◌∷◌, ◌++◌, refl, sym, ap, ◌∙◌, subst, append_assoc, append-nil}
use Rattle.wt_lines.specs.declared.kind.LineKind.{LineKind}
use Rattle.wt_lines.specs.declared.kind.LineKind.TheVariants as line
use Rattle.wt_blocks.specs.Paragraphs.{is_text}
use Rattle.wt_tables.specs.Extents.{is_open, is_end}
use Rattle.wt_page.specs.Rows.{Row}
use Rattle.wt_part_laws.specs.Blocks.{Block, blank, table, heading, rule, lists, preformatted, paragraph, block_rows, AllAre, BeginOtherwise, IsBlock, AreBlocks}
use Rattle.wt_part_laws.specs.Counts.{opened, ended}
use Rattle.wt_part_laws.proofs.Counting.{one, opened_put, ended_put, opened_onto, ended_onto}
use Rattle.wt_part_laws.proofs.UnitCuts.{holds_units}
use Rattle.wt_text_edit_laws.specs.BodyParagraphs.{rows_of}
use Rattle.wt_text_edit_laws.specs.ParagraphBetween.{EndApart}

-- ---- tables of a block

record IsEven (rs : List Row) : Type 0 where
  same : opened rs ≡ ended rs

one_even : (k : LineKind) (r : Row) → is_open k ≡ false → is_end k ≡ false → r.kind ≡ k → IsEven (r ∷ [])
one_even k r o e is = record {
  same =
      let p : one (is_open r.kind) ≡ 0 = ap (λ (j : LineKind). one (is_open j)) is ∙ ap one o in
      let q : one (is_end r.kind) ≡ 0 = ap (λ (j : LineKind). one (is_end j)) is ∙ ap one e in
      omega (arith, p, q, opened_put r [], ended_put r []);
}

all_even : (k : LineKind) (rs : List Row) → is_open k ≡ false → is_end k ≡ false → AllAre k rs → IsEven rs
all_even k [] o e a = record { same = refl }
all_even k (r ∷ rs) o e a =
    let p : one (is_open r.kind) ≡ 0 = ap (λ (j : LineKind). one (is_open j)) a.0 ∙ ap one o in
    let q : one (is_end r.kind) ≡ 0 = ap (λ (j : LineKind). one (is_end j)) a.0 ∙ ap one e in
    let more = all_even k rs o e a.1 in
    let rest : opened rs ≡ ended rs = more.same in
    record { same = omega (arith, p, q, rest, opened_put r rs, ended_put r rs) }

block_even : (b : Block) (others : List Row) → IsBlock b others → IsEven (block_rows b)
block_even (blank r) others h = one_even line.Blank r refl refl h
block_even (table r rs last) others h = record { same = h.1.balances }
block_even (heading r) others h = one_even line.Heading r refl refl h
block_even (rule r) others h = one_even line.Rule r refl refl h
block_even (lists r rs) others h = all_even line.List (r ∷ rs) refl refl h.0
block_even (preformatted r rs) others h = all_even line.Pre (r ∷ rs) refl refl h.0
block_even (paragraph r rs) others h = all_even line.Text (r ∷ rs) refl refl h.0

-- ---- what a block ends with

last_joined : (r : Row) (rs ss : List Row) → EndApart (r ∷ rs) → EndApart ss → EndApart ((r ∷ rs) ++ ss)
last_joined r [] [] h g = h
last_joined r [] (s ∷ ss) h g = g
last_joined r (q ∷ rs) ss h g = last_joined q rs ss h g

last_behind : (rs : List Row) (last : Row) → is_text last.kind ≡ false → EndApart (rs ++ last ∷ [])
last_behind [] last e = e
last_behind (r ∷ []) last e = e
last_behind (r ∷ q ∷ rs) last e = last_behind (q ∷ rs) last e

all_apart : (k : LineKind) (r : Row) (rs : List Row) → is_text k ≡ false → AllAre k (r ∷ rs) → EndApart (r ∷ rs)
all_apart k r [] e a = ap is_text a.0 ∙ e
all_apart k r (q ∷ rs) e a = all_apart k q rs e a.1

-- a block before text ends with no text: a paragraph goes as far as it can
block_apart : (b : Block) (x : Row) (others : List Row) → IsBlock b (x ∷ others) → x.kind ≡ line.Text → EndApart (block_rows b)
block_apart (blank r) x others h k = ap is_text h
block_apart (table r rs last) x others h k =
    let m = holds_units r (rs ++ last ∷ []) h.0 h.1 in
    subst (λ (ss : List Row). EndApart (r ∷ ss)) (sym m.are_rows) (last_behind (r ∷ m.inside) m.last (ap is_text m.ends))
block_apart (heading r) x others h k = ap is_text h
block_apart (rule r) x others h k = ap is_text h
block_apart (lists r rs) x others h k = all_apart line.List r rs refl h.0
block_apart (preformatted r rs) x others h k = all_apart line.Pre r rs refl h.0
block_apart (paragraph r rs) x others h k = absurd (h.1 k)

some_first : (b : Block) → (r : Row) × (rs : List Row) × (block_rows b ≡ r ∷ rs)
some_first (blank r) = (r, [], refl)
some_first (table r rs last) = (r, rs ++ last ∷ [], refl)
some_first (heading r) = (r, [], refl)
some_first (rule r) = (r, [], refl)
some_first (lists r rs) = (r, rs, refl)
some_first (preformatted r rs) = (r, rs, refl)
some_first (paragraph r rs) = (r, rs, refl)

-- ---- the cut at a paragraph

pub record BlockAt (bs : List Block) (r : Row) (rs : List Row) (all : List Row) : Type 0 where
  pub others : List Row
  pub is : all ≡ rows_of bs ++ ((r ∷ rs) ++ others)
  pub texts : AllAre line.Text (r ∷ rs)
  pub stops : BeginOtherwise line.Text others
  pub even : opened (rows_of bs) ≡ ended (rows_of bs)
  pub apart : EndApart (rows_of bs)

-- the first of the rows from a block on, where a paragraph comes at some place behind it
joined_apart : (b : Block) (bs : List Block) (r : Row) (rs tail others : List Row) → IsBlock b others → others ≡ rows_of bs ++ ((r ∷ rs) ++ tail)
    → AllAre line.Text (r ∷ rs) → EndApart (rows_of bs) → EndApart (block_rows b ++ rows_of bs)
joined_apart b [] r rs tail others h e a g =
    let first : IsBlock b (r ∷ (rs ++ tail)) = subst (λ (xs : List Row). IsBlock b xs) e h in
    subst EndApart (sym (append-nil (block_rows b))) (block_apart b r (rs ++ tail) first a.0)
joined_apart b (c ∷ bs) r rs tail others h e a g =
    let s = some_first b in
    let t = some_first c in
    let ends : List Row = rows_of bs in
    let next : EndApart ((t.0 ∷ t.1) ++ ends) = subst (λ (xs : List Row). EndApart (xs ++ ends)) t.2 g in
    subst (λ (xs : List Row). EndApart (xs ++ (block_rows c ++ ends))) (sym s.2)
    (subst (λ (xs : List Row). EndApart ((s.0 ∷ s.1) ++ (xs ++ ends))) (sym t.2) (behind s.0 s.1 (t.0) (t.1 ++ ends) next))
  where
    behind : (p : Row) (ps : List Row) (q : Row) (qs : List Row) → EndApart (q ∷ qs) → EndApart ((p ∷ ps) ++ q ∷ qs)
    behind p [] q qs n = n
    behind p (x ∷ ps) q qs n = behind x ps q qs n

pub block_at : (bs : List Block) (r : Row) (rs : List Row) (cs : List Block) (all : List Row) → AreBlocks (bs ++ paragraph r rs ∷ cs) all → BlockAt bs r rs all
block_at [] r rs cs all h =
    record { others = h.0; is = h.1; texts = h.2.0; stops = h.2.1; even = refl; apart = tt }
block_at (b ∷ bs) r rs cs all h =
    let m = block_at bs r rs cs h.0 h.3 in
    let own = block_even b h.0 h.2 in
    let same : opened (block_rows b) ≡ ended (block_rows b) = own.same in
    let rest : opened (rows_of bs) ≡ ended (rows_of bs) = m.even in
    record {
      others = m.others;
      is = h.1 ∙ ap (λ (xs : List Row). block_rows b ++ xs) m.is ∙ sym (append_assoc (block_rows b) (rows_of bs) ((r ∷ rs) ++ m.others));
      texts = m.texts;
      stops = m.stops;
      even = omega (arith, same, rest, opened_onto (block_rows b) (rows_of bs), ended_onto (block_rows b) (rows_of bs));
      apart = joined_apart b bs r rs m.others h.0 h.2 m.is m.texts m.apart;
    }
