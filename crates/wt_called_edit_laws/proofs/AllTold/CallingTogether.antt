-- Any number of paragraphs and headings of a page's tree, with calls in them or without, are on lines of the expanded page, one behind the other, and may be
-- edited at their paths.
use Rattle.std.proofs.Common.{arith, ◌≡◌, ◌≤◌, ◌⊎◌, inl, inr, ℕ, ◌+◌, Bool, false, None, Option, List, [], ◌∷◌, ◌++◌, length, map, refl, sym, ap, ◌∙◌, subst, append_assoc}
use Rattle.std.specs.List.{AllByRecursion}
use Rattle.std.specs.Str.{IsUtf8}
use Rattle.wt_span.specs.Items.{Item}
use Rattle.wt_span.specs.Origins.{OuterCall, Span}
use Rattle.wt_span.specs.Runs.{AreRuns}
use Rattle.wt_span.proofs.RunLaws.{runs_are}
use Rattle.wt_tree.specs.Tree.{Tree, Trees}
use Rattle.wt_annotated.specs.Seams.{last_of, text_from}
use Rattle.wt_annotated.proofs.Seams.{last_append}
use Rattle.wt_checks.specs.Kept.{children}
use Rattle.wt_expand.specs.PageCalls.{expanded_page}
use Rattle.wt_expand.specs.Work.{Pages}
use Rattle.wt_lines.specs.Lines.{content, full_lines, goes_on}
use Rattle.wt_page.specs.Lines.{ending}
use Rattle.wt_tables.specs.Parts.{joined}
use Rattle.wt_commands.specs.Answers.{refusal_of_page}
use Rattle.wt_text_edit_laws.specs.TextBlocks.{TextBlock, a_paragraph, a_heading, source_of}
use Rattle.wt_called_edit_laws.specs.AllTold.{starts_in, IsOneOf}
use Rattle.wt_called_edit_laws.specs.AnyBlocks.{open_after}
use Rattle.wt_called_edit_laws.specs.CallingBlocks.{AreContentsInFolder}
use Rattle.wt_called_edit_laws.specs.CallingTogether.{IsEditableAt, EachEditable, TakeThere}
use Rattle.wt_called_edit_laws.specs.CallingTold.{as_block}
use Rattle.wt_called_edit_laws.specs.Covered.{HasFreeByte, HaveFreeBytes}
use Rattle.wt_called_edit_laws.specs.EditableBlocks.{AreEditableContents}
use Rattle.wt_called_edit_laws.specs.EditableNodes.{IsEditable}
use Rattle.wt_called_edit_laws.specs.Groups.{called_tree}
use Rattle.wt_called_edit_laws.specs.LinedAmong.{spots_on, AreOfPage, AreBeside}
use Rattle.wt_text_edit_laws.specs.SignParts.{IsLedTo}
use Rattle.wt_text_edit_laws.proofs.Blocks.SignedParts.{led_rest}
use Rattle.wt_called_edit_laws.proofs.Among.CallingLines.{front_so}
use Rattle.wt_called_edit_laws.specs.LinedCalling.{BeginsAlone, AreCallingHere, AreApartFrom, IsLinedCalling}
use Rattle.wt_called_edit_laws.specs.PlacedLines.{LinedBlock, lead_of, all_lines}
use Rattle.wt_called_edit_laws.specs.SignLines.{IsApartFrom}
use Rattle.wt_called_edit_laws.specs.ToldLines.{Told, a_paragraph_of, a_heading_on, lined, AreToldAfter, rows_before}
use Rattle.wt_called_edit_laws.specs.ToldTogether.{AreSome, own_lines, start_of, told_starts, IsAmongNumbers}
use Rattle.wt_called_edit_laws.proofs.Among.OwnItems.{from_page}
use Rattle.wt_called_edit_laws.proofs.Among.OwnSeams.{own_last, text_size}
use Rattle.wt_called_edit_laws.proofs.Cells.PlacedLines.{own_items, Round, round}
use Rattle.wt_called_edit_laws.proofs.AllTold.BlockBytes.{block_byte}
use Rattle.wt_called_edit_laws.proofs.AllTold.CallingBytes.{Seam, seam_text, seam_bytes, own_behind, next_seam, AreFirst, TakenAt, taken_at, calling_bytes}
use Rattle.wt_called_edit_laws.proofs.AllTold.ChosenLines.{byte_at, byte_of, among_mapped, last_suffix, lines_of_own, rest_is}
use Rattle.wt_called_edit_laws.proofs.AllTold.Complete.{block_in}
use Rattle.wt_called_edit_laws.proofs.AllTold.EndSigns.{page_signs}
use Rattle.wt_called_edit_laws.proofs.AllTold.Found.{size}
use Rattle.wt_called_edit_laws.proofs.AllTold.KnownLines.{IsKnownHere, KnownTold, KnownNode, known_node}
use Rattle.wt_called_edit_laws.proofs.AllTold.LineKinds.{Lines}
use Rattle.wt_called_edit_laws.proofs.AllTold.NodeLines.{IsOfKind, cut_among, among_decided, IsIn, meets_among, NodeLines, line_count}
use Rattle.wt_called_edit_laws.proofs.AllTold.OneNode.{front_same, page_ones, page_joined}
use Rattle.wt_called_edit_laws.proofs.AllTold.OnTold.{AreOnTold, lined_on, starts_on}
use Rattle.wt_called_edit_laws.proofs.AllTold.OnLines.{IsThere, line_front, line_more, line_size, line_whole, node_byte}
use Rattle.wt_called_edit_laws.proofs.AllTold.OwnBytes.{any_content, any_editable}
use Rattle.wt_called_edit_laws.proofs.AllTold.OwnLines.{cancel_left}
use Rattle.wt_called_edit_laws.proofs.AllTold.RowBlocks.{body_none, below}
use Rattle.wt_called_edit_laws.proofs.AllTold.Scans.{behind_lines, behind_joined, ToldFrom}
use Rattle.wt_called_edit_laws.proofs.AllTold.Scanned.{Scan, scan, AllMeet, without_before}
use Rattle.wt_called_edit_laws.proofs.AllTold.Together.{are_told}

-- ---- the lines that are found are those of a block

abbrev tolds : {pages : Pages} {page : List ℕ} → List (KnownTold pages page) → List Told
tolds [] = []
tolds (x ∷ xs) = x.told ∷ tolds xs

-- as long fronts of the same items are the same
record AreSameItems (here ms own fs ns os : List Item) : Type 0 where
  before : here ≡ fs
  marks : ms ≡ ns
  lines : own ≡ os

same_items : (all here ms own rest fs ns os more : List Item) → all ≡ (here ++ ms) ++ (own ++ rest) → all ≡ (fs ++ ns) ++ (os ++ more) → length here ≡ length fs
    → length ms ≡ length ns → length own ≡ length os → AreSameItems here ms own fs ns os
same_items all here ms own rest fs ns os more e f m n l =
    let both : here ++ (ms ++ (own ++ rest)) ≡ fs ++ (ns ++ (os ++ more)) =
    sym (append_assoc here ms (own ++ rest)) ∙ sym e ∙ f ∙ append_assoc fs ns (os ++ more) in
    let one : here ≡ fs = front_same here (ms ++ (own ++ rest)) fs (ns ++ (os ++ more)) both m in
    let later : ms ++ (own ++ rest) ≡ ns ++ (os ++ more) =
    cancel_left fs (ms ++ (own ++ rest)) (ns ++ (os ++ more)) (ap (λ (zs : List Item). zs ++ (ms ++ (own ++ rest))) (sym one) ∙ both) in
    let two : ms ≡ ns = front_same ms (own ++ rest) ns (os ++ more) later n in
    let last : own ++ rest ≡ os ++ more =
    cancel_left ns (own ++ rest) (os ++ more) (ap (λ (zs : List Item). zs ++ (own ++ rest)) (sym two) ∙ later) in
    record { before = one; marks = two; lines = front_same own rest os more last l }

of_both : (i j k : TextBlock) → IsOfKind i j → IsOfKind j k → IsOfKind i k
of_both a_paragraph a_paragraph k e f = f
of_both a_paragraph (a_heading s) k e f = absurd e
of_both (a_heading s) a_paragraph k e f = absurd e
of_both (a_heading s) (a_heading z) a_paragraph e f = absurd f
of_both (a_heading s) (a_heading z) (a_heading y) e f = tt

-- a block behind these items, of which all is known that is asked
record FoundHere (pages : Pages) (page : List ℕ) (front : List Item) (t : Told) : Type 0 where
  unsigned : (lined t).sign ≡ []
  block : TextBlock
  text : List ℕ
  kind : IsOfKind (lined t).block block
  known : IsKnownHere pages page front (lead_of (lined t)) (own_items (lined t)) block text

no_items : (xs : List Item) → length xs ≡ 0 → xs ≡ []
no_items [] e = refl
no_items (x ∷ xs) e = absurd (omega (arith, e))

found_among : (pages : Pages) (page : List ℕ) (ks : List (KnownTold pages page)) (front : List Item) (t : Told) (tail : List Item)
    → (expanded_page pages page).items ≡ (front ++ lead_of (lined t)) ++ (own_items (lined t) ++ tail) → cut_among (tolds ks) front t → FoundHere pages page front t
found_among pages page [] front t tail e h = absurd h
found_among pages page (x ∷ xs) front t tail e (inr h) = found_among pages page xs front t tail e h
found_among pages page (x ∷ xs) front t tail e (inl c) =
    let b : LinedBlock = lined t in
    let o : LinedBlock = lined x.told in
    let whole : (expanded_page pages page).items ≡ (joined o.before ++ lead_of o) ++ (own_items o ++ joined x.rest) = line_whole pages page o x.rest x.are in
    let s : AreSameItems front (lead_of b) (own_items b) (joined o.before) (lead_of o) (own_items o) =
    same_items (expanded_page pages page).items front (lead_of b) (own_items b) tail (joined o.before) (lead_of o) (own_items o) (joined x.rest) e whole c.before c.marks c.own in
    record {
      unsigned = no_items b.sign c.unsigned;
      block = x.block;
      text = x.text;
      kind = of_both b.block o.block x.block c.kind x.kind;
      known = subst (λ (zs : List Item). IsKnownHere pages page zs (lead_of b) (own_items b) x.block x.text) (sym s.before)
          (subst (λ (zs : List Item). IsKnownHere pages page (joined o.before) zs (own_items b) x.block x.text) (sym s.marks)
          (subst (λ (zs : List Item). IsKnownHere pages page (joined o.before) (lead_of o) zs x.block x.text) (sym s.lines) x.known));
    }

found_so : (pages : Pages) (page : List ℕ) (ks : List (KnownTold pages page)) (front : List Item) (t : Told) (tail : List Item)
    → (expanded_page pages page).items ≡ (front ++ lead_of (lined t)) ++ (own_items (lined t) ++ tail) → cut_among (tolds ks) front (without_before t)
    → FoundHere pages page front t
found_so pages page ks front (a_paragraph_of b s m f r) tail e h =
    let c : FoundHere pages page front (a_paragraph_of [] s m f r) = found_among pages page ks front (a_paragraph_of [] s m f r) tail e h in
    record { unsigned = c.unsigned; block = c.block; text = c.text; kind = c.kind; known = c.known }
found_so pages page ks front (a_heading_on b m l) tail e h =
    let c : FoundHere pages page front (a_heading_on [] m l) = found_among pages page ks front (a_heading_on [] m l) tail e h in
    record { unsigned = c.unsigned; block = c.block; text = c.text; kind = c.kind; known = c.known }

-- ---- all that are found

abbrev Begun : List OuterCall → List Item → List Item → List Item → TextBlock → List ℕ → Type 0
Begun calls front ms cs k q = ((last_of None front ≡ None) × AreOfPage ms) ⊎ (BeginsAlone cs × IsLedTo (text_from calls None (front ++ ms)) k q)

ends_or : (calls : List OuterCall) (front ms cs : List Item) (k : TextBlock) (q : List ℕ) → Begun calls front ms cs k q → (last_of None (front ++ ms) ≡ None) ⊎ BeginsAlone cs
ends_or calls front ms cs k q (inl h) = inl (last_append None front ms ∙ ap (λ (o : Option ℕ). last_of o ms) h.0 ∙ own_last ms (from_page ms h.1))
ends_or calls front ms cs k q (inr h) = inr h.0

-- behind what is left of the line before
begun_here : (calls : List OuterCall) (here front j ms cs : List Item) (k : TextBlock) (q ps spot : List ℕ) → here ≡ front ++ j
    → text_from calls None (here ++ ms) ≡ ps ++ spot → Begun calls here ms cs k q
    → ((last_of None j ≡ None) × AreOfPage ms) ⊎ (BeginsAlone cs × IsLedTo spot k q)
begun_here calls here front j ms cs k q ps spot is e (inl h) = inl (last_suffix front j (ap (last_of None) (sym is) ∙ h.0), h.1)
begun_here calls here front j ms cs k q ps spot is e (inr h) = inr (h.0, led_rest ps spot k q (subst (λ (bs : List ℕ). IsLedTo bs k q) e h.1))

-- blocks on these lines, where what is left of the line before is this, and so many bytes are before
record AreJoined (pages : Pages) (page : List ℕ) (at : ℕ) (es : List Item) (ts : List Told) : Type 0 where
  bs : List LinedBlock
  on : AreOnTold ts bs
  here : AreCallingHere (expanded_page pages page).outer es bs
  editable : AllByRecursion (λ (b : LinedBlock). IsEditable pages b.block b.text) bs
  apart : AreApartFrom (expanded_page pages page).outer (expanded_page pages page).text_calls at es bs
  free : HaveFreeBytes at (spots_on (expanded_page pages page).outer es bs) (called_tree pages page)

joined_from : (pages : Pages) (page : List ℕ) (ks : List (KnownTold pages page)) (front fr es : List Item) (at : ℕ) (ts : List Told) (behind : Lines) (xs : List Item)
    → front ≡ fr ++ es → at ≡ length (text_from (expanded_page pages page).outer None fr) → Seam fr es (map lined ts) → AllMeet (cut_among (tolds ks)) front ts
    → AreFirst (map lined ts) → AreRuns goes_on (all_lines (map lined ts) behind) xs
    → (expanded_page pages page).items ≡ front ++ joined (all_lines (map lined ts) behind) → AreJoined pages page at es ts
joined_from pages page ks front fr es at [] behind xs f z s h some runs e =
    record { bs = []; on = tt; here = tt; editable = tt; apart = tt; free = tt }
joined_from pages page ks front fr es at (t ∷ ts) behind xs f z s h some runs e =
    let calls : List OuterCall = (expanded_page pages page).outer in
    let spans : List Span = (expanded_page pages page).text_calls in
    let c : LinedBlock = lined t in
    let j : List Item = joined c.before in
    let own : List Item = own_items c in
    let cs : List Item = content own in
    let tail : Lines = all_lines (map lined ts) behind in
    let here : List Item = behind_lines front c.before in
    let here_is : here ≡ front ++ j = behind_joined front c.before in
    let parts = rest_is (expanded_page pages page).items front t tail e in
    let w : FoundHere pages page here t = found_so pages page ks here t (joined tail) parts.0 h.0 in
    let r : Round c tail = round c tail xs some.0 runs w.known.breaks in
    let to_here : here ≡ fr ++ (es ++ j) = here_is ∙ ap (λ (zs : List Item). zs ++ j) f ∙ append_assoc fr es j in
    let to_block : here ++ lead_of c ≡ fr ++ (es ++ (j ++ lead_of c)) =
    ap (λ (zs : List Item). zs ++ lead_of c) to_here ∙ append_assoc fr (es ++ j) (lead_of c) ∙ ap (λ (zs : List Item). fr ++ zs) (append_assoc es j (lead_of c)) in
    let spot : List ℕ = text_from calls None ((es ++ j) ++ lead_of c) in
    let same_spot : text_from calls None (es ++ (j ++ lead_of c)) ≡ spot = ap (text_from calls None) (sym (append_assoc es j (lead_of c))) in
    let line_at : length (text_from calls None here) ≡ at + length (text_from calls None (es ++ j)) =
    omega (arith, ap (λ (zs : List Item). length (text_from calls None zs)) to_here, seam_text calls fr es j s, z) in
    let block_at : length (text_from calls None (here ++ lead_of c)) ≡ at + length spot =
    omega (arith, ap (λ (zs : List Item). length (text_from calls None zs)) to_block, seam_text calls fr es (j ++ lead_of c) s, z, ap length same_spot) in
    let size_is : ℕ = length (source_of w.block w.text) in
    let end : ℕ = (at + length spot) + size_is in
    let last : text_from calls (last_of None (here ++ lead_of c)) cs ≡ text_from calls None cs =
    own_behind calls (here ++ lead_of c) cs (ends_or calls here (lead_of c) cs w.block w.text w.known.begun) in
    let next : List Item = (here ++ lead_of c) ++ cs in
    let past : end ≡ length (text_from calls None next) =
    omega (arith, text_size calls None (here ++ lead_of c) cs, ap length last, ap length w.known.source, block_at) in
    let front_is : behind_lines here (own_lines t) ≡ next ++ ending own =
    behind_joined here (own_lines t) ∙ ap (λ (zs : List Item). here ++ zs) (lines_of_own t) ∙ sym (append_assoc here (lead_of c ++ cs) (ending own))
    ∙ ap (λ (zs : List Item). zs ++ ending own) (sym (append_assoc here (lead_of c) cs)) in
    let rest : AreJoined pages page end (ending own) ts =
    joined_from pages page ks (behind_lines here (own_lines t)) next (ending own) end ts behind (joined tail) front_is past (next_seam c (map lined ts) behind next r) h.1
    some.1 r.tail_runs parts.1 in
    record {
      bs = as_block c.before c.sign c.marks c.first c.more w.block w.text ∷ rest.bs;
      on = (record { is = refl; kind = w.kind }, rest.on);
      here = (
        record {
          front = front_so calls es (as_block c.before c.sign c.marks c.first c.more w.block w.text)
              (subst (λ (zs : List Item). IsApartFrom zs w.text) (sym w.unsigned) tt)
              (begun_here calls here front j (lead_of c) cs w.block w.text (text_from calls None fr) spot here_is
              (ap (text_from calls None) to_block ∙ seam_bytes calls fr es (j ++ lead_of c) s ∙ ap (λ (bs : List ℕ). text_from calls None fr ++ bs) same_spot)
              w.known.begun);
          breaks = w.known.breaks;
          source = w.known.source;
        },
        rest.here,
      );
      editable = (w.known.content_is, rest.editable);
      apart = (
        subst (λ (n : ℕ). AreBeside n end spans) line_at
            (subst (λ (n : ℕ). AreBeside (length (text_from calls None here)) (n + size_is) spans) block_at w.known.apart),
        rest.apart,
      );
      free = (subst (λ (n : ℕ). HasFreeByte (called_tree pages page) n (n + size_is)) block_at w.known.free, rest.free);
    }

-- ---- their contents

all_contents : (pages : Pages) (calls : List OuterCall) (es : List Item) (bs : List LinedBlock) → AllByRecursion (λ (b : LinedBlock). IsEditable pages b.block b.text) bs
    → AreContentsInFolder pages (spots_on calls es bs) × AreEditableContents pages (spots_on calls es bs)
all_contents pages calls es [] h = (tt, tt)
all_contents pages calls es (b ∷ bs) h =
    let r = all_contents pages calls (ending (joined (b.first ∷ b.more))) bs h.1 in
    ((any_content pages b.block b.text h.0, r.0), (any_editable pages b.block b.text h.0, r.1))

lines_same : (ts : List Told) (bs : List LinedBlock) (behind : Lines) → AreOnTold ts bs → all_lines (map lined ts) behind ≡ all_lines bs behind
lines_same [] [] behind o = refl
lines_same [] (b ∷ bs) behind o = absurd o
lines_same (t ∷ ts) [] behind o = absurd o
lines_same (t ∷ ts) (b ∷ bs) behind o =
    ap (λ (ls : Lines). (lined t).before ++ (((lead_of (lined t) ++ (lined t).first) ∷ (lined t).more) ++ ls)) (lines_same ts bs behind o.1)
    ∙ ap (λ (c : LinedBlock). c.before ++ (((lead_of c ++ c.first) ∷ c.more) ++ all_lines bs behind)) (sym o.0.is)

-- ---- each line has a first item

told_after : (last : TextBlock) (open_tables : List Bool) (ts : List Told) (behind : Lines) → AreToldAfter last open_tables ts behind → AreFirst (map lined ts)
told_after last open_tables [] behind h = tt
told_after last open_tables (t ∷ ts) behind h = (h.1.some, told_after (lined t).block (open_after open_tables (rows_before open_tables t)) ts behind h.2)

told_first : (ts : List Told) (behind : Lines) → ToldFrom [] ts behind → AreFirst (map lined ts)
told_first [] behind h = tt
told_first (t ∷ ts) behind h = (h.0.some, told_after (lined t).block (open_after [] (rows_before [] t)) ts behind h.1)

-- ---- each node is there

abbrev page_byte : Pages → List ℕ → ℕ → ℕ
page_byte pages page n = byte_at (expanded_page pages page).outer (expanded_page pages page).items n

abbrev ScanFor : (pages : Pages) (page : List ℕ) → List Told → Type 0
ScanFor pages page os = Scan (cut_among os) [] [] false (full_lines (expanded_page pages page).items)

-- a node at this path whose lines are known, and found where they are meant
record FoundNode (pages : Pages) (page : List ℕ) (p : List ℕ) : Type 0 where
  line : KnownTold pages page
  first : ℕ
  others : List ℕ
  path : p ≡ first ∷ others
  node : Tree
  there : IsThere pages page first others node
  found : (os : List Told) (sc : ScanFor pages page os) → IsIn line.told os
      → IsAmongNumbers (starts_in 0 first others (children (called_tree pages page))) (map (page_byte pages page) (told_starts 0 sc.ts))

found_node : (pages : Pages) (page p : List ℕ) (t : Tree) → IsUtf8 page → refusal_of_page pages page ≡ None → IsEditableAt pages page p t → FoundNode pages page p
found_node pages page [] t u r h = absurd (body_none pages page t u r h.reached h.block)
found_node pages page (i ∷ is) t u r h =
    let k : KnownNode pages page t = known_node pages page i is t u r h in
    let n : NodeLines pages page t = k.lines in
    let b : LinedBlock = lined n.told in
    let calls : List OuterCall = (expanded_page pages page).outer in
    let items : List Item = (expanded_page pages page).items in
    let w : IsThere pages page i is t = record {
      utf8 = u;
      unrefused = r;
      there = below i is (called_tree pages page) t h.reached;
      block = h.block;
      byte = block_byte pages page (i ∷ is) t u r h.reached h.block;
    } in
    let at : size n.stands.before ≡ size (joined b.before) + size (lead_of b) = line_count pages page t n ∙ line_size b in
    let count : start_of 0 n.told ≡ size (line_front b) = omega (arith, line_size b) in
    let byte : page_byte pages page (start_of 0 n.told) ≡ starts_in 0 i is (children (called_tree pages page)) =
    ap (page_byte pages page) count ∙ byte_of calls (line_front b) (line_more b n.rest) items (line_whole pages page b n.rest n.are) (page_ones pages page u r)
    ∙ sym (node_byte pages page i is t w n.stands b n.rest n.are at) in
    record {
      line = k.line;
      first = i;
      others = is;
      path = refl;
      node = t;
      there = w;
      found = λ os sc m.
          subst (λ (x : ℕ). IsAmongNumbers x (map (page_byte pages page) (told_starts 0 sc.ts))) byte
          (among_mapped (page_byte pages page) (start_of 0 n.told) (told_starts 0 sc.ts)
          (n.found os sc (meets_among n.told os n.unsigned (subst (λ (o : Told). IsIn o os) k.is m))));
    }

-- all of them
abbrev FoundNodes : Pages → List ℕ → List (List ℕ) → Type 0
FoundNodes pages page ps = AllByRecursion (FoundNode pages page) ps

found_nodes : (pages : Pages) (page : List ℕ) (ps : List (List ℕ)) → IsUtf8 page → refusal_of_page pages page ≡ None → EachEditable pages page ps
    → FoundNodes pages page ps
found_nodes pages page [] u r h = tt
found_nodes pages page (p ∷ ps) u r h = (found_node pages page p h.0.0 u r h.0.1, found_nodes pages page ps u r h.1)

abbrev node_lines_of : (pages : Pages) (page : List ℕ) (ps : List (List ℕ)) → FoundNodes pages page ps → List (KnownTold pages page)
node_lines_of pages page [] h = []
node_lines_of pages page (p ∷ ps) h = h.0.line ∷ node_lines_of pages page ps h.1

-- each path is one of those at which the blocks may be edited
each_there : (pages : Pages) (page : List ℕ) (ps : List (List ℕ)) (h : FoundNodes pages page ps) (os : List Told) (sc : ScanFor pages page os) (bs : List LinedBlock)
    → ((o : Told) → IsIn o (tolds (node_lines_of pages page ps h)) → IsIn o os) → AreOnTold sc.ts bs → IsLinedCalling pages page bs sc.behind
    → (a : TakenAt pages page bs sc.behind) → AllByRecursion (λ (p : List ℕ). IsOneOf p a.taken.paths) ps
each_there pages page [] h os sc bs w o l a = tt
each_there pages page (p ∷ ps) h os sc bs w o l a = (
  subst (λ (q : List ℕ). IsOneOf q a.taken.paths) (sym f.path)
      (a.there f.first f.others (block_in f.first f.others us f.node f.there.there f.there.block f.there.byte)
      (subst (IsAmongNumbers (starts_in 0 f.first f.others us))
      (ap (map (page_byte pages page)) (starts_on 0 sc.ts bs o)
      ∙ calling_bytes pages page bs sc.behind l (page_joined pages page (all_lines bs sc.behind) l.are) (page_ones pages page l.utf8 l.unrefused))
      (f.found os sc (w f.line.told (inl refl))))),
  each_there pages page ps h.1 os sc bs (λ x m. w x (inr m)) o l a,
)
  where
    us : Trees
    us = children (called_tree pages page)

    f : FoundNode pages page p
    f = h.0

some_lines : (f : ℕ → ℕ) (n : ℕ) (ts : List Told) → IsAmongNumbers n (map f (told_starts 0 ts)) → AreSome ts
some_lines f n [] h = absurd h
some_lines f n (t ∷ ts) h = tt

some_found : (pages : Pages) (page : List ℕ) (ps : List (List ℕ)) (h : FoundNodes pages page ps) → 1 ≤ length ps
    → (sc : ScanFor pages page (tolds (node_lines_of pages page ps h))) → AreSome sc.ts
some_found pages page [] h some sc = absurd (omega (arith, some))
some_found pages page (p ∷ ps) h some sc =
    let f : FoundNode pages page p = h.0 in
    some_lines (page_byte pages page) (starts_in 0 f.first f.others (children (called_tree pages page))) sc.ts
    (f.found (f.line.told ∷ tolds (node_lines_of pages page ps h.1)) sc (inl refl))

page_seam : (ts : List Told) → Seam [] [] (map lined ts)
page_seam [] = tt
page_seam (t ∷ ts) = inl (refl, refl)

pub lines_together : (pages : Pages) (page : List ℕ) (ps : List (List ℕ)) → IsUtf8 page → refusal_of_page pages page ≡ None → 1 ≤ length ps
    → EachEditable pages page ps → TakeThere pages page ps
lines_together pages page ps u r some each =
    let items : List Item = (expanded_page pages page).items in
    let calls : List OuterCall = (expanded_page pages page).outer in
    let ls : Lines = full_lines items in
    let h : FoundNodes pages page ps = found_nodes pages page ps u r each in
    let ks : List (KnownTold pages page) = node_lines_of pages page ps h in
    let os : List Told = tolds ks in
    let sc : ScanFor pages page os = scan (cut_among os) (among_decided os) (length ls) [] [] false ls (omega arith) (page_signs pages page u r) in
    let runs : AreRuns goes_on (all_lines (map lined sc.ts) sc.behind) items = subst (λ (zs : Lines). AreRuns goes_on zs items) sc.are (runs_are goes_on items) in
    let j : AreJoined pages page 0 [] sc.ts =
    joined_from pages page ks [] [] [] 0 sc.ts sc.behind items refl refl (page_seam sc.ts) sc.asked (told_first sc.ts sc.behind sc.told) runs
    (page_joined pages page (all_lines (map lined sc.ts) sc.behind) sc.are) in
    let c = all_contents pages calls [] j.bs j.editable in
    let l : IsLinedCalling pages page j.bs sc.behind = record {
      utf8 = u;
      are = sc.are ∙ lines_same sc.ts j.bs sc.behind j.on;
      lined = lined_on sc.ts j.bs sc.behind j.on (are_told sc.ts sc.behind (some_found pages page ps h some sc) sc.told);
      here = j.here;
      contents = c.0;
      editable = c.1;
      apart = j.apart;
      unrefused = r;
      free = j.free;
    } in
    let a : TakenAt pages page j.bs sc.behind = taken_at pages page j.bs sc.behind l in
    record {
      bs = j.bs;
      behind = sc.behind;
      lined = l;
      taken = a.taken;
      there = each_there pages page ps h os sc j.bs (λ o m. m) j.on l a;
    }
