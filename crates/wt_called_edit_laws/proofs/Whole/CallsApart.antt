-- Calls between which are texts aren't side by side: so what they give may meet.
use Rattle.std.proofs.Common.{arith, ◌≡◌, ◌⊎◌, inl, inr, ℕ, ◌+◌, ◌<◌, ◌≤◌, ◌==◌, Bool, true, false, Option, None, Some, List, [], ◌∷◌, length, refl, sym, ap, ap₂, ◌∙◌, subst, append-nil}
use Rattle.std.specs.Prelude.{if◌then◌else◌}
use Rattle.std.proofs.lemmas.Bool.Decides.{nat_tests}
use Rattle.wt_tree.specs.declared.kind.Kind.TheVariants as kind
use Rattle.wt_tree.specs.Kinds.{is_leaf}
use Rattle.wt_tree.specs.Source.{flat}
use Rattle.wt_tree.specs.Tree.{Tree, Trees, more, label}
use Rattle.wt_span.specs.Items.{Item, sources}
use Rattle.wt_span.specs.Origins.{OuterCall}
use Rattle.wt_guards.specs.declared.role.Stretch.{Stretch}
use Rattle.wt_guards.specs.Content.{Thing}
use Rattle.wt_guards.specs.Guards.{end_of, start_of, is_reached}
use Rattle.wt_inline.specs.ItemTree.{plain, ItemTree}
use Rattle.wt_inline.specs.Parts.{Part, children}
use Rattle.wt_context.specs.Line.{line_parts}
use Rattle.wt_checks.specs.Kept.{children as nodes_in}
use Rattle.wt_annotated.specs.CutTexts.{cut_texts, all_cut_texts}
use Rattle.wt_annotated.specs.Numbering.{next_after, count}
use Rattle.wt_annotated.specs.Seams.{text_from}
use Rattle.wt_expand.specs.PageCalls.{expanded_page}
use Rattle.wt_expand.specs.Work.{Pages}
use Rattle.wt_original.specs.Kept.{KeptNode, kept_of, kept_with, kept_nodes, items, visible, found_at, found_from, found_in}
use Rattle.wt_original.specs.Numbers.{counts_up}
use Rattle.wt_link_spelling.specs.Spelling.{children_of}
use Rattle.wt_part_laws.specs.CallPieces.{CallPiece, pieces_in_page}
use Rattle.wt_part_laws.specs.Expanded.{part_items, calls_in}
use Rattle.wt_part_laws.specs.HeldCalls.{block_in}
use Rattle.wt_part_laws.proofs.CallPieces.{as_pieces}
use Rattle.wt_part_laws.proofs.HeldBlocks.{given_block_is}
use Rattle.wt_text_edit_laws.specs.Contents.{content_parts_of}
use Rattle.wt_text_edit_laws.specs.TextBlocks.{a_paragraph}
use Rattle.wt_text_edit_laws.proofs.Blocks.Untangled.{flat_same}
use Rattle.wt_beside_laws.specs.StyledBlocks.{all_numbers, things_with, thing_of}
use Rattle.wt_beside_laws.proofs.OwnSigns.{Every, every_right, every_left, Finds, own_found}
use Rattle.wt_called_edit_laws.specs.CalledContents.{tree_round}
use Rattle.wt_called_edit_laws.specs.CalledEdits.{page_things}
use Rattle.wt_called_edit_laws.specs.PageThings.{MeetThere, MeetLater, AllMeetLater}
use Rattle.wt_called_edit_laws.specs.PartTexts.{AreSourcesAt}
use Rattle.wt_called_edit_laws.specs.PiecedParagraphs.{AreTextsOrCalls, gap, AreCallsApart, IsTextAndCalls}
use Rattle.wt_called_edit_laws.specs.Settled.{settled, all_settled}
use Rattle.wt_called_edit_laws.proofs.Beside.Counts.{block_bare, settled_counts}
use Rattle.wt_called_edit_laws.proofs.PartTexts.{part_text}
use Rattle.wt_called_edit_laws.proofs.SettledNodes.{settled_gone}
use Rattle.wt_called_edit_laws.proofs.Whole.Blocks.{nodes_are}
use Rattle.wt_called_edit_laws.proofs.Whole.Contents.{has_call}
use Rattle.wt_called_edit_laws.proofs.Whole.Pieced.{paragraph_round}
use Rattle.wt_called_edit_laws.proofs.Whole.TextAndCalls.{a_group, text_tree, group_tree, some_calls, nodes_from, rest_of, as_text, as_group, later, not_zero, text_things, found_first, same_nodes, block_finds}

-- ---- where things begin

-- at this place, or later
abbrev pub StartsFrom : ℕ → List Thing → Type 0
StartsFrom x [] = Unit {0}
StartsFrom x (t ∷ ts) = ((s : Stretch) × (t.place ≡ Some s) × (x ≤ s.start)) × StartsFrom x ts

from_less : (x y : ℕ) (ts : List Thing) → y ≤ x → StartsFrom x ts → StartsFrom y ts
from_less x y [] le h = tt
from_less x y (t ∷ ts) le h =
    let z = h.0 in
    let s : Stretch = z.0 in
    let w : x ≤ s.start = z.2 in ((s, z.1, omega (arith, le, w)), from_less x y ts le h.1)

not_reached : (e s : ℕ) → e < s → (s == e) ≡ false
not_reached e s h = grind (arith, nat_tests)

nowhere : (pages : Pages) (t n : Thing) (s z : Stretch) → t.place ≡ Some s → n.place ≡ Some z → s.end < z.start → MeetThere pages t n
nowhere pages t n s z e f lt =
    λ i j a g.
    let no : is_reached (end_of t.place) (start_of n.place) ≡ false =
    ap₂ (λ (u v : Option Stretch). is_reached (end_of u) (start_of v)) e f ∙ not_reached s.end z.start lt in
    let bad : false ≡ true = sym no ∙ a in absurd (cc)

later_apart : (pages : Pages) (t : Thing) (s : Stretch) (ts : List Thing) (x : ℕ) → t.place ≡ Some s → s.end < x → StartsFrom x ts → MeetLater pages t ts
later_apart pages t s [] x e lt h = tt
later_apart pages t s (n ∷ ts) x e lt h =
    let q = h.0 in
    let z : Stretch = q.0 in
    let w : x ≤ z.start = q.2 in (nowhere pages t n s z e q.1 (omega (arith, lt, w)), later_apart pages t s ts x e lt h.1)

-- ---- how long a text is

settled_source : (n at : ℕ) (t : Tree) → flat (settled n at t) ≡ flat t
settled_source n at t = sym (flat_same (settled n at t)) ∙ ap flat (settled_gone n at t) ∙ flat_same t

text_flat : (calls : List OuterCall) (xs : List Item) → flat (text_tree calls xs) ≡ text_from calls None xs
text_flat calls xs = ap (text_from calls None) (append-nil xs)

no_sources : (calls : List OuterCall) (i : ℕ) (cs : List OuterCall) → cs ≡ [] → AreSourcesAt calls i cs
no_sources calls i cs e = subst (AreSourcesAt calls i) (sym e) tt

text_long : (pages : Pages) (calls : List OuterCall) (i m a : ℕ) (b : List ℕ) → (expanded_page pages b).outer ≡ []
    → length (flat (settled m a (text_tree calls (part_items pages i b)))) ≡ length b
text_long pages calls i m a b e =
    ap length
    (settled_source m a (text_tree calls (part_items pages i b)) ∙ text_flat calls (part_items pages i b)
    ∙ part_text pages calls i b (no_sources calls i (expanded_page pages b).outer e))

gap_text : (pages : Pages) (b : List ℕ) (bs : List (List ℕ)) → (expanded_page pages b).outer ≡ [] → gap pages (b ∷ bs) ≡ length b
gap_text pages b bs e = ap (λ (cs : List OuterCall). if length cs == 0 then length b else 0) e

gap_call : (pages : Pages) (b : List ℕ) (bs : List (List ℕ)) → 0 < calls_in pages b → gap pages (b ∷ bs) ≡ 0
gap_call pages b bs h = ap (λ (v : Bool). if v then length b else 0) (some_calls (calls_in pages b) h)

gap_behind : (c g : ℕ) → 0 < c → (c ≡ 0) ⊎ (0 < g) → 0 < g
gap_behind c g h (inl e) = absurd (omega (arith, h, e))
gap_behind c g h (inr lt) = lt

-- ---- all of them

abbrev pub AreApartFrom : Pages → ℕ → List Thing → Type 0
AreApartFrom pages x ts = StartsFrom x ts × AllMeetLater pages ts

group_apart : (pages : Pages) (calls : List OuterCall) (block : Tree) (i m a at from x y : ℕ) (ts : List ItemTree) (us : Trees) → 0 < m → 0 < y → x ≤ at
    → (Every (Finds block) (found_in (at + length (flat (settled m a (group_tree calls i ts)))) (from + length (visible (items (settled m a (group_tree calls i ts))))) (all_settled (m + count (group_tree calls i ts)) (a + length (flat (group_tree calls i ts))) us))
    → AreApartFrom pages ((at + length (flat (settled m a (group_tree calls i ts)))) + y) (things_with (kept_nodes block) (all_numbers (all_settled (m + count (group_tree calls i ts)) (a + length (flat (group_tree calls i ts))) us))))
    → Every (Finds block) (found_in at from (all_settled m a (more (group_tree calls i ts) us)))
    → AreApartFrom pages x (things_with (kept_nodes block) (all_numbers (all_settled m a (more (group_tree calls i ts) us))))
group_apart pages calls block i m a at from x y ts us n wide lead f e =
    let g : Tree = settled m a (group_tree calls i ts) in
    let rest : Trees = all_settled (m + count (group_tree calls i ts)) (a + length (flat (group_tree calls i ts))) us in
    let k : KeptNode = found_at at from g in
    let found : kept_with m (kept_nodes block) ≡ Some (kept_of block k) =
    own_found (Finds block) at from (label g) (children_of g) (not_zero m n) (every_left (Finds block) (found_from at from g) _ e) in
    let r = f (every_right (Finds block) (found_from at from g) _ e) in
    let s : Stretch = record { start = at; end = at + length (flat g) } in
    let others : List Thing = things_with (kept_nodes block) (all_numbers rest) in
    let size : ℕ = length (flat g) in
    let le : x ≤ (at + size) + y = omega (arith, lead) in
    let lt : at + size < (at + size) + y = omega (arith, wide) in
    subst (AreApartFrom pages x) (sym (found_first block m (all_numbers rest) (kept_of block k) found)) (
      ((s, refl, lead), from_less ((at + size) + y) x others le r.0),
      (later_apart pages (thing_of (kept_of block k)) s others ((at + size) + y) refl lt r.0, r.1),
    )

pub apart_from : (pages : Pages) (calls : List OuterCall) (block : Tree) (i m a at from : ℕ) (bs : List (List ℕ)) → 0 < m → AreTextsOrCalls pages bs
    → AreCallsApart pages bs → Every (Finds block) (found_in at from (nodes_from pages calls i m a bs))
    → AreApartFrom pages (at + gap pages bs) (things_with (kept_nodes block) (all_numbers (nodes_from pages calls i m a bs)))
apart_from pages calls block i m a at from [] n h c e = (tt, tt)
apart_from pages calls block i m a at from (b ∷ bs) n h c e =
    let us : Trees = rest_of pages calls i b bs in
    let x : ℕ = at + gap pages (b ∷ bs) in
    let P : Trees → Type 0 = λ (vs : Trees). Every (Finds block) (found_in at from (all_settled m a vs))
    → AreApartFrom pages x (things_with (kept_nodes block) (all_numbers (all_settled m a vs))) in
    elim h.0 [
      | inl z ↦
          let xs : List Item = part_items pages i b in
          let t : Tree = text_tree calls xs in
          let size : ℕ = length (flat (settled m a t)) in
          let long : size ≡ length b = text_long pages calls i m a b z in
          let first : gap pages (b ∷ bs) ≡ length b = gap_text pages b bs z in
          let le : x ≤ (at + size) + gap pages bs = omega (arith, long, first) in
          as_text P pages calls i b bs z
          (text_things calls block m a at from xs us (AreApartFrom pages x)
          (λ w.
          let y = apart_from pages calls block (i + calls_in pages b) (m + count t) (a + length (flat t)) (at + size) (from + length (visible (items (settled m a t)))) bs
          (later m (count t) n) h.1 c.1 w in
          (from_less ((at + size) + gap pages bs) x _ le y.0, y.1))) e
      | inr w ↦
          let ts : List ItemTree = children (line_parts (part_items pages i b)) in
          let g : Tree = group_tree calls i ts in
          let some : 0 < calls_in pages b = has_call pages i a_group b (w.gives a_group) in
          let none : gap pages (b ∷ bs) ≡ 0 = gap_call pages b bs some in
          as_group P pages calls i b bs w
          (group_apart pages calls block i m a at from x (gap pages bs) ts us n (gap_behind (calls_in pages b) (gap pages bs) some c.0) (omega (arith, none))
          (λ v. apart_from pages calls block (i + calls_in pages b) (m + count g) (a + length (flat g)) (at + length (flat (settled m a g)))
          (from + length (visible (items (settled m a g)))) bs (later m (count g) n) h.1 c.1 v)) e
    ]

pub apart_meet : (pages : Pages) (q : List ℕ) (block : Tree) (n at i : ℕ) (calls : List OuterCall) → 0 < n
    → block ≡ settled n at (cut_texts (block_in calls (tree_round a_paragraph (part_items pages i q)))) → (h : IsTextAndCalls pages q) → AreCallsApart pages h.pieces
    → AllMeetLater pages (page_things block)
apart_meet pages q block n at i calls some is h c =
    let bs : List (List ℕ) = h.pieces in
    let ps : List Part = content_parts_of a_paragraph (part_items pages i q) in
    let m : ℕ = next_after kind.Para n in
    let a : ℕ = at + length (sources []) in
    let v : Tree = cut_texts (block_in calls (tree_round a_paragraph (part_items pages i q))) in
    let round = paragraph_round ps (as_pieces ps (h.texts i)) (h.some i) in
    let nodes : children_of block ≡ nodes_from pages calls i m a bs =
    ap children_of is ∙ same_nodes (settled n at v)
    ∙ ap (λ (u : Tree). nodes_in (settled n at (cut_texts u))) (given_block_is calls (plain kind.Para) [] ps [] round)
    ∙ nodes_are calls n at (plain kind.Para) [] ps [] refl refl
    ∙ ap (λ (us : List CallPiece). all_settled m a (all_cut_texts (pieces_in_page calls us))) (h.nodes i) in
    let more_than : 0 < m = omega (arith, some) in
    let counts : counts_up n (kept_nodes block) ≡ true =
    subst (λ (t : Tree). counts_up n (kept_nodes t) ≡ true) (sym is) (settled_counts n at v some (block_bare calls (tree_round a_paragraph (part_items pages i q)))) in
    let leaf : is_leaf (label block).kind ≡ false = ap (λ (t : Tree). is_leaf (label t).kind) is in
    let x : ℕ = 0 + length (label block).opening in
    let finds : Every (Finds block) (found_in x x (nodes_from pages calls i m a bs)) =
    subst (λ (us : Trees). Every (Finds block) (found_in x x us)) nodes (block_finds block n some counts leaf) in
    let there = apart_from pages calls block i m a x x bs more_than h.each c finds in
    subst (λ (us : Trees). AllMeetLater pages (things_with (kept_nodes block) (all_numbers us))) (sym nodes) there.1
