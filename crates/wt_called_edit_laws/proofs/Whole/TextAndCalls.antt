-- A paragraph of texts and calls: its nodes in the page's tree are these texts, and a group for each call.
use Rattle.std.proofs.Common.{arith, ◌≡◌, ◌≢◌, inl, inr, ℕ, ◌+◌, ◌<◌, ◌==◌, Bool, true, false, Option, None, Some, List, [], ◌∷◌, ◌++◌, length, refl, sym, ap, ◌∙◌, subst}
use Rattle.std.specs.Prelude.{slice_get}
use Rattle.std.proofs.lemmas.Bool.Decides.{nat_tests}
use Rattle.wt_tree.specs.declared.kind.Kind.TheVariants as kind
use Rattle.wt_tree.specs.Kinds.{is_leaf}
use Rattle.wt_tree.specs.Source.{flat}
use Rattle.wt_tree.specs.Tree.{Tree, tree, Trees, more, label}
use Rattle.wt_span.specs.Items.{Item, sources}
use Rattle.wt_span.specs.Origins.{OuterCall}
use Rattle.wt_span.specs.Cuts.{source_of_call}
use Rattle.wt_guards.specs.declared.role.Role.{Role}
use Rattle.wt_guards.specs.declared.role.Role.TheVariants.{Group}
use Rattle.wt_guards.specs.declared.role.Stretch.{Stretch}
use Rattle.wt_guards.specs.declared.role.Transclusion.{Transclusion}
use Rattle.wt_guards.specs.Content.{Thing, ends_line, is_group}
use Rattle.wt_guards.specs.Guards.{end_of, start_of, is_reached}
use Rattle.wt_inline.specs.declared.loose.Loose.TheVariants.{Text}
use Rattle.wt_inline.specs.ItemTree.{plain, ItemTree, forest}
use Rattle.wt_inline.specs.Parts.{Part, loose_leaf, children}
use Rattle.wt_context.specs.Line.{line_parts}
use Rattle.wt_checks.specs.Kept.{children as nodes_in}
use Rattle.wt_annotated.specs.CutTexts.{cut_texts, all_cut_texts}
use Rattle.wt_annotated.specs.Labels.{label_at}
use Rattle.wt_annotated.specs.Numbering.{next_after, count}
use Rattle.wt_expand.specs.PageCalls.{expanded_page}
use Rattle.wt_expand.specs.Work.{Pages}
use Rattle.wt_original.specs.Kept.{Kept, KeptNode, transclusion, kept_of, kept_with, kept_nodes, items, visible, found_at, found_from, found_in}
use Rattle.wt_original.specs.Numbers.{counts_up}
use Rattle.wt_link_spelling.specs.Spelling.{children_of}
use Rattle.wt_part_laws.specs.CallPieces.{CallPiece, own, given, group_of_call, node_in, pieces_in_page}
use Rattle.wt_part_laws.proofs.CallPieces.{as_pieces}
use Rattle.wt_part_laws.specs.Expanded.{part_items, calls_in}
use Rattle.wt_part_laws.specs.HeldCalls.{block_in}
use Rattle.wt_part_laws.proofs.HeldBlocks.{given_block_is}
use Rattle.wt_text_edit_laws.specs.Contents.{content_parts_of}
use Rattle.wt_text_edit_laws.specs.TextBlocks.{a_paragraph}
use Rattle.wt_beside_laws.specs.Called.{IsOfFolder}
use Rattle.wt_beside_laws.specs.OwnSigns.{HaveOwn}
use Rattle.wt_beside_laws.specs.Shown.{parts_shown_at}
use Rattle.wt_beside_laws.specs.StyledBlocks.{all_numbers, things_with, found_thing, thing_of}
use Rattle.wt_beside_laws.proofs.Groups.CalledShown.{group_parts_show}
use Rattle.wt_beside_laws.proofs.OwnSigns.{Every, every_left, every_right, Finds, all_found, own_found, inside_found, held_if}
use Rattle.wt_called_edit_laws.specs.CalledContents.{tree_round}
use Rattle.wt_called_edit_laws.specs.CalledEdits.{page_things, AreChildrenBeside, IsChildBeside, IsBesideCalls}
use Rattle.wt_called_edit_laws.specs.PageThings.{IsPageThing, MeetThere, MeetLater, AllMeetLater, ArePageThings, thing_sources}
use Rattle.wt_called_edit_laws.specs.PiecedParagraphs.{IsInPieces, IsGroupCall, AreTextsOrCalls, group_piece, piece_of, all_pieces, IsTextAndCalls}
use Rattle.wt_called_edit_laws.specs.Settled.{settled, all_settled}
use Rattle.wt_called_edit_laws.specs.WrittenAnew.{StayButForOthers}
use Rattle.wt_called_edit_laws.specs.PartTexts.{AreSourcesAt}
use Rattle.wt_called_edit_laws.proofs.Beside.Counts.{block_bare, settled_counts}
use Rattle.wt_called_edit_laws.proofs.Whole.Blocks.{nodes_are}
use Rattle.wt_called_edit_laws.proofs.Whole.Contents.{has_call, group_source}
use Rattle.wt_called_edit_laws.proofs.Whole.PartsIn.{simple_parts}
use Rattle.wt_called_edit_laws.proofs.Whole.SourcesAt.{sources_split, sources_before}
use Rattle.wt_called_edit_laws.proofs.Whole.Pieced.{paragraph_round, as_written}
use Rattle.wt_called_edit_laws.proofs.Written.NewContents.{calls_of}

-- ---- the node of a piece

-- a group, whatever it shows
pub a_group : Transclusion
a_group = record {
  slashes = false;
  is_invisible = false;
  is_blank = false;
  opens_with_apostrophe = false;
  closes_with_apostrophe = false;
  began_line = false;
  ended_line = false;
  ended_content = false;
  between_equals = false;
}

abbrev pub text_tree : List OuterCall → List Item → Tree
text_tree calls xs = cut_texts (node_in calls (loose_leaf Text xs))

abbrev pub group_tree : List OuterCall → ℕ → List ItemTree → Tree
group_tree calls i ts = group_of_call calls i (forest ts)

piece_text : (pages : Pages) (i : ℕ) (b : List ℕ) → (expanded_page pages b).outer ≡ []
    → piece_of (calls_in pages b == 0) i (part_items pages i b) ≡ own (loose_leaf Text (part_items pages i b)) ∷ []
piece_text pages i b e = ap (λ (cs : List OuterCall). piece_of (length cs == 0) i (part_items pages i b)) e

pub some_calls : (n : ℕ) → 0 < n → (n == 0) ≡ false
some_calls n h = grind (arith, nat_tests)

piece_group : (pages : Pages) (i : ℕ) (b : List ℕ) (w : IsGroupCall pages b) (t : ItemTree) (ts : List ItemTree)
    → children (line_parts (part_items pages i b)) ≡ t ∷ ts → piece_of (calls_in pages b == 0) i (part_items pages i b) ≡ given i t ts ∷ []
piece_group pages i b w t ts e =
    ap (λ (v : Bool). piece_of v i (part_items pages i b)) (some_calls (calls_in pages b) (has_call pages i a_group b (w.gives a_group)))
    ∙ ap (group_piece i) e

-- ---- the nodes of all pieces

abbrev pub nodes_from : Pages → List OuterCall → ℕ → ℕ → ℕ → List (List ℕ) → Trees
nodes_from pages calls i m a bs = all_settled m a (all_cut_texts (pieces_in_page calls (all_pieces pages i bs)))

-- what is said of a text and of a group, before the rest
abbrev pub rest_of : Pages → List OuterCall → ℕ → List ℕ → List (List ℕ) → Trees
rest_of pages calls i b bs = all_cut_texts (pieces_in_page calls (all_pieces pages (i + calls_in pages b) bs))

pub as_text : (P : Trees → Type 0) (pages : Pages) (calls : List OuterCall) (i : ℕ) (b : List ℕ) (bs : List (List ℕ)) → (expanded_page pages b).outer ≡ []
    → P (more (text_tree calls (part_items pages i b)) (rest_of pages calls i b bs)) → P (all_cut_texts (pieces_in_page calls (all_pieces pages i (b ∷ bs))))
as_text P pages calls i b bs e h =
    subst (λ (ps : List CallPiece). P (all_cut_texts (pieces_in_page calls (ps ++ all_pieces pages (i + calls_in pages b) bs)))) (sym (piece_text pages i b e)) h

pub as_group : (P : Trees → Type 0) (pages : Pages) (calls : List OuterCall) (i : ℕ) (b : List ℕ) (bs : List (List ℕ)) → IsGroupCall pages b
    → P (more (group_tree calls i (children (line_parts (part_items pages i b)))) (rest_of pages calls i b bs))
    → P (all_cut_texts (pieces_in_page calls (all_pieces pages i (b ∷ bs))))
as_group P pages calls i b bs w h =
    let n = w.nodes i in
    subst (λ (ps : List CallPiece). P (all_cut_texts (pieces_in_page calls (ps ++ all_pieces pages (i + calls_in pages b) bs)))) (sym (piece_group pages i b w n.0 n.1 n.2))
    (subst (λ (ts : List ItemTree). P (more (group_tree calls i ts) (rest_of pages calls i b bs))) n.2 h)

pub later : (m n : ℕ) → 0 < m → 0 < m + n
later m n h = omega (arith, h)

pub not_zero : (m : ℕ) → 0 < m → m ≢ 0
not_zero m h = λ e. absurd (omega (arith, h, e))

text_own : (calls : List OuterCall) (m a : ℕ) (xs : List Item) (us : Trees) → HaveOwn (all_settled (m + count (text_tree calls xs)) (a + length (flat (text_tree calls xs))) us)
    → HaveOwn (all_settled m a (more (text_tree calls xs) us))
unfolding label_at
text_own calls m a xs us h = (tt, h)

group_own : (calls : List OuterCall) (i m a : ℕ) (ts : List ItemTree) (us : Trees) → 0 < m
    → HaveOwn (all_settled (m + count (group_tree calls i ts)) (a + length (flat (group_tree calls i ts))) us)
    → HaveOwn (all_settled m a (more (group_tree calls i ts) us))
group_own calls i m a ts us n h = (not_zero m n, h)

pub nodes_own : (pages : Pages) (calls : List OuterCall) (i m a : ℕ) (bs : List (List ℕ)) → 0 < m → AreTextsOrCalls pages bs → HaveOwn (nodes_from pages calls i m a bs)
nodes_own pages calls i m a [] n h = tt
nodes_own pages calls i m a (b ∷ bs) n h =
    let us : Trees = rest_of pages calls i b bs in
    elim h.0 [
      | inl e ↦
          let xs : List Item = part_items pages i b in
          as_text (λ (vs : Trees). HaveOwn (all_settled m a vs)) pages calls i b bs e
          (text_own calls m a xs us
          (nodes_own pages calls (i + calls_in pages b) (m + count (text_tree calls xs)) (a + length (flat (text_tree calls xs))) bs (later m (count (text_tree calls xs)) n) h.1))
      | inr w ↦
          let ts : List ItemTree = children (line_parts (part_items pages i b)) in
          let g : Tree = group_tree calls i ts in
          as_group (λ (vs : Trees). HaveOwn (all_settled m a vs)) pages calls i b bs w
          (group_own calls i m a ts us n (nodes_own pages calls (i + calls_in pages b) (m + count g) (a + length (flat g)) bs (later m (count g) n) h.1))
    ]

-- ---- what they show

text_child : (pages : Pages) (calls : List OuterCall) (m a : ℕ) (xs : List Item) → IsChildBeside pages (settled m a (text_tree calls xs))
unfolding label_at
text_child pages calls m a xs = record { inline = refl; shows = λ f. absurd f }

group_child : (pages : Pages) (calls : List OuterCall) (i m a : ℕ) (b : List ℕ) → IsGroupCall pages b → source_of_call (slice_get calls i) ≡ b
    → IsChildBeside pages (settled m a (group_tree calls i (children (line_parts (part_items pages i b)))))
group_child pages calls i m a b w e = record {
  inline = refl;
  shows = λ f j rest.
      ap (λ (q : List ℕ). parts_shown_at 0 [] (line_parts (part_items pages j q)) rest) e
      ∙ w.alike j i rest
      ∙ sym (group_parts_show calls a_group i (part_items pages i b) rest (w.gives a_group i));
}

-- the calls of the pieces
first_source : (pages : Pages) (calls : List OuterCall) (i : ℕ) (b : List ℕ) → IsGroupCall pages b → AreSourcesAt calls i (expanded_page pages b).outer
    → source_of_call (slice_get calls i) ≡ b
first_source pages calls i b w s =
    let one = group_source pages a_group b (w.gives a_group) in
    let r = subst (AreSourcesAt calls i) one.is s in r.0 ∙ one.of_source

pub nodes_show : (pages : Pages) (calls : List OuterCall) (i m a : ℕ) (bs : List (List ℕ)) → AreTextsOrCalls pages bs → AreSourcesAt calls i (calls_of pages bs)
    → AreChildrenBeside pages (nodes_from pages calls i m a bs)
nodes_show pages calls i m a [] h s = tt
nodes_show pages calls i m a (b ∷ bs) h s =
    let us : Trees = rest_of pages calls i b bs in
    let r = sources_split calls i (expanded_page pages b).outer (calls_of pages bs) s in
    elim h.0 [
      | inl e ↦
          let xs : List Item = part_items pages i b in
          as_text (λ (vs : Trees). AreChildrenBeside pages (all_settled m a vs)) pages calls i b bs e
          (text_child pages calls m a xs, nodes_show pages calls (i + calls_in pages b) (m + count (text_tree calls xs)) (a + length (flat (text_tree calls xs))) bs h.1 r.1)
      | inr w ↦
          let g : Tree = group_tree calls i (children (line_parts (part_items pages i b))) in
          as_group (λ (vs : Trees). AreChildrenBeside pages (all_settled m a vs)) pages calls i b bs w (
            group_child pages calls i m a b w (first_source pages calls i b w r.0),
            nodes_show pages calls (i + calls_in pages b) (m + count g) (a + length (flat g)) bs h.1 r.1,
          )
    ]

-- ---- as things

pub record IsCallThing (pages : Pages) (t : Thing) : Type 0 where
  pub group : Transclusion
  pub role : t.role ≡ Group group
  pub call : IsGroupCall pages t.source

abbrev pub AreCallThings : Pages → List Thing → Type 0
AreCallThings pages [] = Unit {0}
AreCallThings pages (t ∷ ts) = IsCallThing pages t × AreCallThings pages ts

-- some of the pieces are these, in their order, and no other one calls
abbrev pub ThingsOf : Pages → List (List ℕ) → List Thing → Type 0
ThingsOf pages bs ts = StayButForOthers pages bs (thing_sources ts) × AreCallThings pages ts

stay_past : (pages : Pages) (b : List ℕ) (bs ds : List (List ℕ)) → (expanded_page pages b).outer ≡ [] → StayButForOthers pages bs ds → StayButForOthers pages (b ∷ bs) ds
stay_past pages b bs [] e h = (e, h)
stay_past pages b bs (d ∷ ds) e h = inr (e, h)

pub text_things : (calls : List OuterCall) (block : Tree) (m a at from : ℕ) (xs : List Item) (us : Trees) (X : List Thing → Type 0)
    → (Every (Finds block) (found_in (at + length (flat (settled m a (text_tree calls xs)))) (from + length (visible (items (settled m a (text_tree calls xs))))) (all_settled (m + count (text_tree calls xs)) (a + length (flat (text_tree calls xs))) us))
    → X (things_with (kept_nodes block) (all_numbers (all_settled (m + count (text_tree calls xs)) (a + length (flat (text_tree calls xs))) us))))
    → Every (Finds block) (found_in at from (all_settled m a (more (text_tree calls xs) us)))
    → X (things_with (kept_nodes block) (all_numbers (all_settled m a (more (text_tree calls xs) us))))
unfolding label_at
text_things calls block m a at from xs us X f e =
    f (every_right (Finds block) (found_from at from (settled m a (text_tree calls xs))) _ e)

pub found_first : (block : Tree) (m : ℕ) (ns : List ℕ) (k : Kept) → kept_with m (kept_nodes block) ≡ Some k
    → things_with (kept_nodes block) (m ∷ ns) ≡ thing_of k ∷ things_with (kept_nodes block) ns
found_first block m ns k e = ap (λ (o : Option Kept). found_thing o ++ things_with (kept_nodes block) ns) e

group_things : (pages : Pages) (calls : List OuterCall) (block : Tree) (i m a at from : ℕ) (ts : List ItemTree) (us : Trees) (b : List ℕ) (bs : List (List ℕ)) → 0 < m
    → IsGroupCall pages b → source_of_call (slice_get calls i) ≡ b
    → (Every (Finds block) (found_in (at + length (flat (settled m a (group_tree calls i ts)))) (from + length (visible (items (settled m a (group_tree calls i ts))))) (all_settled (m + count (group_tree calls i ts)) (a + length (flat (group_tree calls i ts))) us))
    → ThingsOf pages bs (things_with (kept_nodes block) (all_numbers (all_settled (m + count (group_tree calls i ts)) (a + length (flat (group_tree calls i ts))) us))))
    → Every (Finds block) (found_in at from (all_settled m a (more (group_tree calls i ts) us)))
    → ThingsOf pages (b ∷ bs) (things_with (kept_nodes block) (all_numbers (all_settled m a (more (group_tree calls i ts) us))))
group_things pages calls block i m a at from ts us b bs n w is f e =
    let g : Tree = settled m a (group_tree calls i ts) in
    let rest : Trees = all_settled (m + count (group_tree calls i ts)) (a + length (flat (group_tree calls i ts))) us in
    let k : KeptNode = found_at at from g in
    let found : kept_with m (kept_nodes block) ≡ Some (kept_of block k) =
    own_found (Finds block) at from (label g) (children_of g) (not_zero m n) (every_left (Finds block) (found_from at from g) _ e) in
    let r = f (every_right (Finds block) (found_from at from g) _ e) in
    subst (ThingsOf pages (b ∷ bs)) (sym (found_first block m (all_numbers rest) (kept_of block k) found)) (
      inl (sym is, r.0),
      (record { group = transclusion block k.extent g; role = refl; call = subst (IsGroupCall pages) (sym is) w }, r.1),
    )

pub nodes_things : (pages : Pages) (calls : List OuterCall) (block : Tree) (i m a at from : ℕ) (bs : List (List ℕ)) → 0 < m → AreTextsOrCalls pages bs
    → AreSourcesAt calls i (calls_of pages bs) → Every (Finds block) (found_in at from (nodes_from pages calls i m a bs))
    → ThingsOf pages bs (things_with (kept_nodes block) (all_numbers (nodes_from pages calls i m a bs)))
nodes_things pages calls block i m a at from [] n h s e = (tt, tt)
nodes_things pages calls block i m a at from (b ∷ bs) n h s e =
    let us : Trees = rest_of pages calls i b bs in
    let r = sources_split calls i (expanded_page pages b).outer (calls_of pages bs) s in
    let P : Trees → Type 0 = λ (vs : Trees). Every (Finds block) (found_in at from (all_settled m a vs))
    → ThingsOf pages (b ∷ bs) (things_with (kept_nodes block) (all_numbers (all_settled m a vs))) in
    elim h.0 [
      | inl z ↦
          let xs : List Item = part_items pages i b in
          as_text P pages calls i b bs z
          (text_things calls block m a at from xs us (ThingsOf pages (b ∷ bs))
          (λ x.
          let y = nodes_things pages calls block (i + calls_in pages b) (m + count (text_tree calls xs)) (a + length (flat (text_tree calls xs)))
          (at + length (flat (settled m a (text_tree calls xs)))) (from + length (visible (items (settled m a (text_tree calls xs))))) bs (later m (count (text_tree calls xs)) n) h.1 r.1 x in
          (stay_past pages b bs _ z y.0, y.1))) e
      | inr w ↦
          let ts : List ItemTree = children (line_parts (part_items pages i b)) in
          let g : Tree = group_tree calls i ts in
          as_group P pages calls i b bs w
          (group_things pages calls block i m a at from ts us b bs n w (first_source pages calls i b w r.0)
          (λ x. nodes_things pages calls block (i + calls_in pages b) (m + count g) (a + length (flat g)) (at + length (flat (settled m a g)))
          (from + length (visible (items (settled m a g)))) bs (later m (count g) n) h.1 r.1 x)) e
    ]

-- ---- they are such as texts are typed beside

call_thing : (pages : Pages) (t : Thing) → IsCallThing pages t → IsPageThing pages t
call_thing pages t h =
    let c = h.call in
    let line : ends_line t.role ≡ false = ap ends_line h.role in
    record {
      folder = subst (λ (r : Role). IsOfFolder r pages t) (sym h.role) (c.gives h.group);
      read = record { source = inr (c.call, line); begins = c.begins; ends = c.ends };
      part = c.part;
      sealed = c.sealed;
      shut = (c.shut, λ e. let no : true ≡ false = sym (ap is_group h.role) ∙ e in absurd (cc));
      utf8 = c.utf8;
    }

pub call_things : (pages : Pages) (ts : List Thing) → AreCallThings pages ts → AllMeetLater pages ts → ArePageThings pages ts
call_things pages [] h m = tt
call_things pages (t ∷ ts) h m = (call_thing pages t h.0, m.0, call_things pages ts h.1 m.1)

-- ---- it is in pieces, of which the calls are its nodes

abbrev ArePlaceless : List Thing → Type 0
ArePlaceless [] = Unit {0}
ArePlaceless (t ∷ ts) = (t.place ≡ None) × ArePlaceless ts

pub record SomeThings (pages : Pages) (bs : List (List ℕ)) : Type 0 where
  pub nodes : List Thing
  pub are : ThingsOf pages bs nodes
  pub placeless : ArePlaceless nodes

pub some_things : (pages : Pages) (bs : List (List ℕ)) → AreTextsOrCalls pages bs → SomeThings pages bs
some_things pages [] h = record { nodes = []; are = (tt, tt); placeless = tt }
some_things pages (b ∷ bs) h =
    let r = some_things pages bs h.1 in
    elim h.0 [
      | inl z ↦ record { nodes = r.nodes; are = (stay_past pages b bs (thing_sources r.nodes) z r.are.0, r.are.1); placeless = r.placeless }
      | inr w ↦ record {
        nodes = record { role = Group a_group; source = b; place = None } ∷ r.nodes;
        are = (inl (refl, r.are.0), (record { group = a_group; role = refl; call = w }, r.are.1));
        placeless = (refl, r.placeless);
      }
    ]

-- none of these is beside another one in the page
meet_none : (pages : Pages) (t : Thing) (ts : List Thing) → t.place ≡ None → MeetLater pages t ts
meet_none pages t [] e = tt
meet_none pages t (n ∷ ts) e = (nowhere, meet_none pages t ts e)
  where
    nowhere : MeetThere pages t n
    nowhere = λ i j a f. let no : false ≡ true = sym (ap (λ (s : Option Stretch). is_reached (end_of s) (start_of n.place)) e) ∙ a in absurd (cc)

pub all_meet_none : (pages : Pages) (ts : List Thing) → ArePlaceless ts → AllMeetLater pages ts
all_meet_none pages [] h = tt
all_meet_none pages (t ∷ ts) h = (meet_none pages t ts h.0, all_meet_none pages ts h.1)

pub pieced : (pages : Pages) (q : List ℕ) → IsTextAndCalls pages q → IsInPieces pages q
pieced pages q h =
    let some = some_things pages h.pieces h.each in
    record {
      pieces = h.pieces;
      is = h.is;
      parts = h.parts;
      nodes = some.nodes;
      things = call_things pages some.nodes some.are.1 (all_meet_none pages some.nodes some.placeless);
      among = some.are.0;
      read = h.read;
      lines = h.lines;
      texts = λ calls i a.
          simple_parts calls (part_items pages i q) (content_parts_of a_paragraph (part_items pages i q)) (h.texts i);
      groups = h.groups;
      shut = h.shut;
      some = h.some;
    }

-- ---- the block

pub same_nodes : (t : Tree) → children_of t ≡ nodes_in t
same_nodes (tree l ts) = refl

pub block_finds : (block : Tree) (n : ℕ) → 0 < n → counts_up n (kept_nodes block) ≡ true → is_leaf (label block).kind ≡ false
    → Every (Finds block) (found_in (0 + length (label block).opening) (0 + length (label block).opening) (children_of block))
block_finds (tree l ts) n some counts leaf = inside_found (Finds (tree l ts)) 0 0 l ts (held_if l.kind leaf) (all_found (tree l ts) n some counts)

pub texts_beside : (pages : Pages) (q : List ℕ) (block : Tree) (n at i : ℕ) (calls : List OuterCall) → 0 < n
    → block ≡ settled n at (cut_texts (block_in calls (tree_round a_paragraph (part_items pages i q)))) → AreSourcesAt calls i (expanded_page pages q).outer
    → IsTextAndCalls pages q → AllMeetLater pages (page_things block) → IsBesideCalls pages a_paragraph q block
unfolding pieced
texts_beside pages q block n at i calls some is sources_are h meets =
    let p : IsInPieces pages q = pieced pages q h in
    let bs : List (List ℕ) = h.pieces in
    let ps : List Part = content_parts_of a_paragraph (part_items pages i q) in
    let m : ℕ = next_after kind.Para n in
    let a : ℕ = at + length (sources []) in
    let v : Tree = cut_texts (block_in calls (tree_round a_paragraph (part_items pages i q))) in
    let w = as_written pages q p in
    let round = paragraph_round ps (as_pieces ps (h.texts i)) (h.some i) in
    let nodes : children_of block ≡ nodes_from pages calls i m a bs =
    ap children_of is ∙ same_nodes (settled n at v)
    ∙ ap (λ (u : Tree). nodes_in (settled n at (cut_texts u))) (given_block_is calls (plain kind.Para) [] ps [] round)
    ∙ nodes_are calls n at (plain kind.Para) [] ps [] refl refl
    ∙ ap (λ (us : List CallPiece). all_settled m a (all_cut_texts (pieces_in_page calls us))) (h.nodes i) in
    let calls_are : AreSourcesAt calls i (calls_of pages bs) = sources_before calls i (calls_of pages bs) (expanded_page pages q).outer w.calls_are sources_are in
    let more_than : 0 < m = omega (arith, some) in
    let counts : counts_up n (kept_nodes block) ≡ true =
    subst (λ (t : Tree). counts_up n (kept_nodes t) ≡ true) (sym is) (settled_counts n at v some (block_bare calls (tree_round a_paragraph (part_items pages i q)))) in
    let leaf : is_leaf (label block).kind ≡ false = ap (λ (t : Tree). is_leaf (label t).kind) is in
    let x : ℕ = 0 + length (label block).opening in
    let finds : Every (Finds block) (found_in x x (nodes_from pages calls i m a bs)) =
    subst (λ (us : Trees). Every (Finds block) (found_in x x us)) nodes (block_finds block n some counts leaf) in
    let things = nodes_things pages calls block i m a x x bs more_than h.each calls_are finds in
    let there : ThingsOf pages bs (page_things block) =
    subst (λ (us : Trees). ThingsOf pages bs (things_with (kept_nodes block) (all_numbers us))) (sym nodes) things in
    record {
      pieces = bs;
      is = h.is;
      parts = h.parts;
      own = subst HaveOwn (sym nodes) (nodes_own pages calls i m a bs more_than h.each);
      children = subst (AreChildrenBeside pages) (sym nodes) (nodes_show pages calls i m a bs h.each calls_are);
      things = call_things pages (page_things block) there.1 meets;
      among = there.0;
      round = tt;
    }
