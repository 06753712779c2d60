-- Blocks that hold calls, told by the lines of an expanded page: the bytes at which they begin, and the paths that lead there.
use Rattle.std.proofs.Common.{arith, ◌≡◌, ◌<◌, ◌≤◌, ◌⊎◌, inl, inr, ℕ, zero, suc, ◌+◌, Bool, None, Option, List, [], ◌∷◌, ◌++◌, length, map, refl, sym, ap, ap₂, ◌∙◌, subst, append_assoc, length-append}
use Rattle.wt_span.specs.Items.{Item}
use Rattle.wt_span.specs.Origins.{OuterCall}
use Rattle.wt_span.specs.Runs.{AreRuns}
use Rattle.wt_span.proofs.RunLaws.{runs_are}
use Rattle.wt_tree.specs.Tree.{Label, Tree, tree, Trees}
use Rattle.wt_annotated.specs.Seams.{last_of, text_from}
use Rattle.wt_annotated.proofs.Seams.{last_append, text_append_from}
use Rattle.wt_checks.specs.Kept.{children}
use Rattle.wt_expand.specs.PageCalls.{expanded_page}
use Rattle.wt_expand.specs.Work.{Pages}
use Rattle.wt_expand.proofs.PiecePlaces.{behind_page}
use Rattle.wt_lines.specs.Lines.{content, goes_on}
use Rattle.wt_page.specs.Lines.{ending}
use Rattle.wt_page.proofs.Ends.{content_ending}
use Rattle.wt_page_round_trip.proofs.OpenedPages.{AreOnes}
use Rattle.wt_tables.specs.Parts.{joined}
use Rattle.wt_part_laws.specs.Frames.{content as content_part}
use Rattle.wt_text_edit_laws.specs.BlockSpots.{BlockSpot, spots_source}
use Rattle.wt_text_edit_laws.specs.ParagraphParts.{break}
use Rattle.wt_text_edit_laws.specs.TextBlocks.{TextBlock, source_of}
use Rattle.wt_called_edit_laws.specs.AllTold.{starts_in, IsOneOf}
use Rattle.wt_called_edit_laws.specs.AnyBlocks.{open_after}
use Rattle.wt_called_edit_laws.specs.CalledBlocks.{counted}
use Rattle.wt_called_edit_laws.specs.CalledTexts.{spots_tree}
use Rattle.wt_called_edit_laws.specs.CallingBlocks.{IsContentIn, AreContentsInFolder}
use Rattle.wt_called_edit_laws.specs.CallingContents.{TakesContentsIn}
use Rattle.wt_called_edit_laws.specs.CallingEdits.{IsCallingPage}
use Rattle.wt_called_edit_laws.specs.CallingGroups.{block_with_groups, CallingNodesStay}
use Rattle.wt_called_edit_laws.specs.Groups.{called_tree}
use Rattle.wt_called_edit_laws.specs.LinedAmong.{spots_on, spots_of_lines, end_of_lines}
use Rattle.wt_called_edit_laws.specs.LinedCalling.{BeginsAlone, IsOwnFront, IsLedFront, AreCallingHere, AreCallingAfter, AreCallingLined, IsLinedCalling}
use Rattle.wt_called_edit_laws.specs.PartTexts.{HaveOwnSources}
use Rattle.wt_called_edit_laws.specs.PathsTo.{paths_to}
use Rattle.wt_called_edit_laws.specs.PlacedLines.{LinedBlock, all_lines, lead_of, front_rows}
use Rattle.wt_called_edit_laws.specs.RowBlocks.{StandsOnRows}
use Rattle.wt_called_edit_laws.specs.SettledAt.{AllSettled}
use Rattle.wt_called_edit_laws.specs.ToldTogether.{IsAmongNumbers}
use Rattle.wt_called_edit_laws.proofs.Among.BlockAt.{read_some, own_same}
use Rattle.wt_called_edit_laws.proofs.Among.CallingLines.{calling_whole, calling_editable}
use Rattle.wt_called_edit_laws.proofs.Among.OwnItems.{from_page}
use Rattle.wt_called_edit_laws.proofs.Among.OwnSeams.{own_last, text_size}
use Rattle.wt_called_edit_laws.proofs.CallingGroups.{edited_self, calling_nodes}
use Rattle.wt_called_edit_laws.proofs.CallingTaken.{contents_taken, taken_paths, blocks_settle}
use Rattle.wt_called_edit_laws.proofs.Cells.PlacedLines.{own_items, Round, round, lines_joined}
use Rattle.wt_called_edit_laws.proofs.EditableBlocks.{editable_calling}
use Rattle.wt_called_edit_laws.proofs.PathsSend.{NoneEmpty, paths_full}
use Rattle.wt_called_edit_laws.proofs.SettledEdits.{HaveKinds, have_kinds, settled_moved}
use Rattle.wt_called_edit_laws.proofs.SpotSources.{blocks_have}
use Rattle.wt_called_edit_laws.proofs.AllTold.CallingStarts.{calling_starts, settled_in}
use Rattle.wt_called_edit_laws.proofs.AllTold.ChosenLines.{byte_at, byte_of}
use Rattle.wt_called_edit_laws.proofs.AllTold.EachBlocks.{EachBlockIn}
use Rattle.wt_called_edit_laws.proofs.AllTold.Found.{size, size_both}
use Rattle.wt_called_edit_laws.proofs.AllTold.LineKinds.{Lines}
use Rattle.wt_called_edit_laws.proofs.AllTold.PlaceStarts.{spot_starts, starts_from, AllHaveBytes, AllClear, clear_paths, LeadsThere, leads, leads_later}
use Rattle.wt_called_edit_laws.proofs.AllTold.RowBlocks.{page_stands}
use Rattle.wt_called_edit_laws.proofs.AllTold.Starts.{BlockIn, same_paths}

-- ---- where they begin among the items

abbrev pub block_starts : ℕ → List LinedBlock → List ℕ
block_starts at [] = []
block_starts at (b ∷ bs) =
    (at + size (joined b.before) + size (lead_of b)) ∷ block_starts (at + size (joined b.before) + size (joined ((lead_of b ++ b.first) ∷ b.more))) bs

-- nothing is before them, or a line break of the page's own
abbrev pub Seam : List Item → List Item → List LinedBlock → Type 0
Seam fr es [] = Unit {0}
Seam fr es (b ∷ bs) = ((fr ≡ []) × (es ≡ [])) ⊎ (es ≡ break ∷ [])

own_first : (calls : List OuterCall) (o : Option ℕ) (xs : List Item) → text_from calls o (break ∷ xs) ≡ text_from calls None (break ∷ xs)
own_first calls o xs =
    ap (λ (bs : List ℕ). bs ++ text_from calls None xs) (behind_page calls o break refl ∙ sym (behind_page calls None break refl))

pub seam_bytes : (calls : List OuterCall) (fr es xs : List Item) → ((fr ≡ []) × (es ≡ [])) ⊎ (es ≡ break ∷ [])
    → text_from calls None (fr ++ (es ++ xs)) ≡ text_from calls None fr ++ text_from calls None (es ++ xs)
seam_bytes calls fr es xs (inl e) =
    let P : List Item → Type 0 = λ zs. text_from calls None (zs ++ (es ++ xs)) ≡ text_from calls None zs ++ text_from calls None (es ++ xs) in
    subst P (sym e.0) refl
seam_bytes calls fr es xs (inr e) =
    let P : List Item → Type 0 = λ zs. text_from calls None (fr ++ (zs ++ xs)) ≡ text_from calls None fr ++ text_from calls None (zs ++ xs) in
    subst P (sym e)
    (text_append_from calls None fr (break ∷ xs) ∙ ap (λ (bs : List ℕ). text_from calls None fr ++ bs) (own_first calls (last_of None fr) xs))

pub seam_text : (calls : List OuterCall) (fr es xs : List Item) → ((fr ≡ []) × (es ≡ [])) ⊎ (es ≡ break ∷ [])
    → length (text_from calls None (fr ++ (es ++ xs))) ≡ length (text_from calls None fr) + length (text_from calls None (es ++ xs))
seam_text calls fr es xs s = ap length (seam_bytes calls fr es xs s) ∙ length-append (text_from calls None fr) (text_from calls None (es ++ xs))

-- behind items that end with one of the page's own, or before one, the same bytes are on the page
pub own_behind : (calls : List OuterCall) (fs xs : List Item) → (last_of None fs ≡ None) ⊎ BeginsAlone xs
    → text_from calls (last_of None fs) xs ≡ text_from calls None xs
own_behind calls fs xs (inl e) = ap (λ (o : Option ℕ). text_from calls o xs) e
own_behind calls fs [] (inr h) = absurd h
own_behind calls fs (x ∷ xs) (inr h) = own_same calls (last_of None fs) (x ∷ xs) (inr (x, xs, refl, h))

pub seam_last : (fr es : List Item) → ((fr ≡ []) × (es ≡ [])) ⊎ (es ≡ break ∷ []) → last_of None (fr ++ es) ≡ None
seam_last fr es (inl e) = ap₂ (λ (xs ys : List Item). last_of None (xs ++ ys)) e.0 e.1
seam_last fr es (inr e) = ap (λ (ys : List Item). last_of None (fr ++ ys)) e ∙ last_append None fr (break ∷ [])

some_lines : (before : Lines) (l : List Item) (rest : Lines) → (m : List Item) × (ms : Lines) × (before ++ l ∷ rest ≡ m ∷ ms)
some_lines [] l rest = (l, rest, refl)
some_lines (b ∷ before) l rest = (b, before ++ l ∷ rest, refl)

abbrev pub AreFirst : List LinedBlock → Type 0
AreFirst [] = Unit {0}
AreFirst (b ∷ bs) = (1 ≤ length b.first) × AreFirst bs

pub next_seam : (b : LinedBlock) (bs : List LinedBlock) (behind : Lines) (fr : List Item) → Round b (all_lines bs behind) → Seam fr (ending (own_items b)) bs
next_seam b [] behind fr r = tt
next_seam b (c ∷ bs) behind fr r =
    let s = some_lines c.before (lead_of c ++ c.first) (c.more ++ all_lines bs behind) in inr (r.ends s.0 s.1 s.2)

begun : (calls : List OuterCall) (front : List Item) (b : LinedBlock) → last_of None front ≡ None → (es : List Item) → IsOwnFront b ⊎ IsLedFront calls es b
    → (last_of None (front ++ (joined b.before ++ lead_of b)) ≡ None) ⊎ BeginsAlone (content (own_items b))
begun calls front b e es (inr h) = inr h.first
begun calls front b e es (inl h) =
    let line : List Item = joined b.before ++ lead_of b in
    inl
    (last_append None front line ∙ ap (λ (o : Option ℕ). last_of o line) e ∙ last_append None (joined b.before) (lead_of b)
    ∙ ap (λ (o : Option ℕ). last_of o (lead_of b)) h.before ∙ own_last (lead_of b) (from_page (lead_of b) h.marks))

starts_behind : (pages : Pages) (page : List ℕ) (all front fr es : List Item) (at : ℕ) (bs : List LinedBlock) (behind : Lines) (xs : List Item) → front ≡ fr ++ es
    → at ≡ length (text_from (expanded_page pages page).outer None fr) → Seam fr es bs → AreCallingHere (expanded_page pages page).outer es bs → AreFirst bs
    → AreRuns goes_on (all_lines bs behind) xs → all ≡ front ++ joined (all_lines bs behind) → AreOnes all
    → map (byte_at (expanded_page pages page).outer all) (block_starts (size front) bs) ≡ spot_starts at (spots_on (expanded_page pages page).outer es bs)
starts_behind pages page all front fr es at [] behind xs f z s h some runs e ones = refl
starts_behind pages page all front fr es at (b ∷ bs) behind xs f z s h some runs e ones =
    let calls : List OuterCall = (expanded_page pages page).outer in
    let own : List Item = own_items b in
    let line : List Item = joined b.before ++ lead_of b in
    let tail : Lines = all_lines bs behind in
    let here : List Item = front ++ line in
    let r : Round b tail = round b tail xs some.0 runs h.0.breaks in
    let whole : all ≡ here ++ (own ++ joined tail) =
    e ∙ ap (λ (zs : List Item). front ++ zs) (lines_joined b tail) ∙ sym (append_assoc front line (own ++ joined tail)) in
    let line_size : size line ≡ size (joined b.before) + size (lead_of b) = size_both (joined b.before) (lead_of b) in
    let here_size : size here ≡ size front + size line = size_both front line in
    let first : size front + size (joined b.before) + size (lead_of b) ≡ size here = omega (arith, line_size, here_size) in
    let parts : here ≡ fr ++ (es ++ line) = ap (λ (zs : List Item). zs ++ line) f ∙ append_assoc fr es line in
    let spot : List ℕ = text_from calls None ((es ++ joined b.before) ++ lead_of b) in
    let same_spot : text_from calls None (es ++ line) ≡ spot = ap (text_from calls None) (sym (append_assoc es (joined b.before) (lead_of b))) in
    let text_is : length (text_from calls None here) ≡ at + length spot =
    omega (arith, ap (λ (zs : List Item). length (text_from calls None zs)) parts, seam_text calls fr es line s, z, ap length same_spot) in
    let first_byte : byte_at calls all (size front + size (joined b.before) + size (lead_of b)) ≡ at + length spot =
    ap (byte_at calls all) first ∙ byte_of calls here (own ++ joined tail) all whole ones ∙ text_is in
    let mine : List Item = content own in
    let last : text_from calls (last_of None here) mine ≡ text_from calls None mine =
    own_behind calls here mine (begun calls front b (ap (last_of None) f ∙ seam_last fr es s) es h.0.front) in
    let next : List Item = here ++ mine in
    let source : length (text_from calls None mine) ≡ length (source_of b.block b.text) = ap length h.0.source in
    let past : length (text_from calls None next) ≡ (at + length spot) + length (source_of b.block b.text) =
    omega (arith, text_size calls None here mine, ap length last, source, text_is) in
    let front_is : here ++ own ≡ next ++ ending own =
    ap (λ (zs : List Item). here ++ zs) (sym (content_ending own)) ∙ sym (append_assoc here mine (ending own)) in
    let own_lines : joined ((lead_of b ++ b.first) ∷ b.more) ≡ lead_of b ++ own = append_assoc (lead_of b) b.first (joined b.more) in
    let later : size front + size (joined b.before) + size (joined ((lead_of b ++ b.first) ∷ b.more)) ≡ size (here ++ own) =
    omega (arith, ap size own_lines, size_both (lead_of b) own, size_both here own, line_size, here_size) in
    let rest =
    starts_behind pages page all (here ++ own) next (ending own) ((at + length spot) + length (source_of b.block b.text)) bs behind
    (joined tail) front_is (sym past) (next_seam b bs behind next r) h.1 some.1 r.tail_runs (whole ∙ sym (append_assoc here own (joined tail))) ones in
    ap₂ (λ (n : ℕ) (ns : List ℕ). n ∷ ns) first_byte (ap (λ (n : ℕ). map (byte_at calls all) (block_starts n bs)) later ∙ rest)

first_after : (last : TextBlock) (open_tables : List Bool) (bs : List LinedBlock) (behind : Lines) → AreCallingAfter last open_tables bs behind → AreFirst bs
first_after last open_tables [] behind h = tt
first_after last open_tables (b ∷ bs) behind h = (h.1.some, first_after b.block (open_after open_tables (front_rows (length open_tables) b)) bs behind h.2)

pub all_first : (bs : List LinedBlock) (behind : Lines) → AreCallingLined bs behind → AreFirst bs
all_first [] behind h = absurd h
all_first (b ∷ bs) behind h = (h.0.some, first_after b.block (open_after [] (front_rows 0 b)) bs behind h.1)

-- ---- the paths lead there

have_bytes : (pages : Pages) (ss : List BlockSpot) → AreContentsInFolder pages ss → AllHaveBytes ss
have_bytes pages [] h = tt
have_bytes pages (s ∷ ss) h = let c : IsContentIn pages s.block s.text = h.0 in (read_some s.block s.text c.read, have_bytes pages ss h.1)

leads_settled : (b : ℕ → Tree) (ss : List BlockSpot) (ps : List (List ℕ)) (l : Label) (ts : Trees) (at : ℕ) → AllSettled b (counted ss) ps (tree l ts) → HaveKinds b ss
    → HaveOwnSources b ss → AllHaveBytes ss → NoneEmpty ps → AllClear ps ts → IsAmongNumbers at (starts_from 0 ts ps) → LeadsThere at ts ps
leads_settled b [] [] l ts at s k o w n c h = absurd h
leads_settled b [] (p ∷ ps) l ts at s k o w n c h = absurd s
leads_settled b (x ∷ ss) [] l ts at s k o w n c h = absurd h
leads_settled b (x ∷ ss) ([] ∷ ps) l ts at s k o w n c h = absurd n
leads_settled b (x ∷ ss) ((i ∷ is) ∷ ps) l ts at s k o w n c (inl z) =
    leads i is (inl refl) (settled_in (b zero) x.block i is ts s.0 c.0 k.0 (subst (λ (bs : List ℕ). 0 < length bs) (sym o.0) w.0)) (sym z)
leads_settled b (x ∷ ss) ((i ∷ is) ∷ ps) l ts at s k o w n c (inr h) =
    leads_later at ts (i ∷ is) ps
    (leads_settled (λ m. b (suc m)) ss ps l ts at (settled_moved b (counted ss) ps (tree l ts) s.1) k.1 o.1 w.1 n c.1 h)

same_of : (ps : List (List ℕ)) (i : ℕ) (is : List ℕ) (us : Trees) (Q : Tree → Type 0) (at : ℕ) → EachBlockIn Q us → BlockIn i is us → starts_in 0 i is us ≡ at
    → LeadsThere at us ps → IsOneOf (i ∷ is) ps
same_of ps i is us Q at each b z (leads j js o c e) =
    subst (λ (p : List ℕ). IsOneOf p ps) (sym (same_paths Q 0 i is j js us each b c (z ∙ sym e))) o

one_of : (t : Tree) (b : ℕ → Tree) (ss : List BlockSpot) (ps : List (List ℕ)) (Q : Tree → Type 0) (i : ℕ) (is : List ℕ) → AllSettled b (counted ss) ps t → HaveKinds b ss
    → HaveOwnSources b ss → AllHaveBytes ss → NoneEmpty ps → AllClear ps (children t) → EachBlockIn Q (children t) → BlockIn i is (children t)
    → IsAmongNumbers (starts_in 0 i is (children t)) (starts_from 0 (children t) ps) → IsOneOf (i ∷ is) ps
one_of (tree l ts) b ss ps Q i is s k o w n c each mine h =
    same_of ps i is ts Q (starts_in 0 i is ts) each mine refl (leads_settled b ss ps l ts (starts_in 0 i is ts) s k o w n c h)

-- ---- the page

-- its blocks are taken, and each node that begins at a byte at which one of these does is at one of the paths
pub record TakenAt (pages : Pages) (page : List ℕ) (bs : List LinedBlock) (behind : Lines) : Type 0 where
  pub taken : TakesContentsIn pages (spots_of_lines pages page bs) (end_of_lines pages page bs behind)
  pub there : (i : ℕ) (is : List ℕ) → BlockIn i is (children (called_tree pages page))
      → IsAmongNumbers (starts_in 0 i is (children (called_tree pages page))) (spot_starts 0 (spots_of_lines pages page bs)) → IsOneOf (i ∷ is) taken.paths

pub taken_at : (pages : Pages) (page : List ℕ) (bs : List LinedBlock) (behind : Lines) → IsLinedCalling pages page bs behind → TakenAt pages page bs behind
taken_at pages page bs behind h =
    let ss : List BlockSpot = spots_of_lines pages page bs in
    let end : List ℕ = end_of_lines pages page bs behind in
    let calling : IsCallingPage pages ss end = editable_calling pages ss end (calling_editable pages page bs behind h) in
    let f : CallingNodesStay pages ss end = calling_nodes pages ss end calling.outside in
    let same : spots_source ss end ≡ page = calling_whole pages page bs behind h in
    let u : Tree = called_tree pages page in
    let v : Tree = spots_tree pages ss end in
    let tree_is : u ≡ v = ap (called_tree pages) (sym same) in
    let blocks : ℕ → Tree = block_with_groups pages ss end in
    let each : EachBlockIn (StandsOnRows pages page) (children u) = page_stands pages page h.utf8 h.unrefused in
    record {
      taken = contents_taken pages ss end calling;
      there = λ i is mine among.
          let at_v : IsAmongNumbers (starts_in 0 i is (children v)) (starts_from 0 (children v) (paths_to f.nodes)) =
          subst (IsAmongNumbers (starts_in 0 i is (children v))) (sym (calling_starts pages ss end f calling))
          (subst (λ (x : Tree). IsAmongNumbers (starts_in 0 i is (children x)) (spot_starts 0 ss)) tree_is among) in
          subst (IsOneOf (i ∷ is)) (sym (taken_paths pages ss end calling))
          (one_of v blocks ss (paths_to f.nodes) (StandsOnRows pages page) i is (blocks_settle pages ss end f calling)
          (have_kinds (expanded_page pages (spots_source ss end)).outer pages 0 ss) (blocks_have pages ss end calling.outside calling.unrefused)
          (have_bytes pages ss h.contents) (paths_full f.nodes)
          (clear_paths f.nodes content_part blocks (children v) f.holders (f.stay ss (edited_self pages ss) calling.outside.hold))
          (subst (λ (x : Tree). EachBlockIn (StandsOnRows pages page) (children x)) tree_is each)
          (subst (λ (x : Tree). BlockIn i is (children x)) tree_is mine) at_v);
    }

-- where they begin in bytes, by the items
pub calling_bytes : (pages : Pages) (page : List ℕ) (bs : List LinedBlock) (behind : Lines) → IsLinedCalling pages page bs behind
    → (expanded_page pages page).items ≡ joined (all_lines bs behind) → AreOnes (expanded_page pages page).items
    → map (byte_at (expanded_page pages page).outer (expanded_page pages page).items) (block_starts 0 bs) ≡ spot_starts 0 (spots_of_lines pages page bs)
calling_bytes pages page bs behind h e ones =
    let items : List Item = (expanded_page pages page).items in
    let runs : AreRuns goes_on (all_lines bs behind) items = subst (λ (ks : Lines). AreRuns goes_on ks items) h.are (runs_are goes_on items) in
    starts_behind pages page items [] [] [] 0 bs behind items refl refl (page_seam bs) h.here (all_first bs behind h.lined) runs e ones
  where
    page_seam : (cs : List LinedBlock) → Seam [] [] cs
    page_seam [] = tt
    page_seam (c ∷ cs) = inl (refl, refl)
