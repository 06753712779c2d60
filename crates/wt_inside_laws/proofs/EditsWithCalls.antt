-- A text edit of paragraphs and headings, with calls in them or without, is done, and is local.
use Rattle.std.proofs.Common.{arith, ◌≡◌, ◌⊎◌, ℕ, ◌≤◌, Option, Some, None, List, [], ◌∷◌, length, sym, ap, subst, inl, inr}
use Rattle.std.specs.List.{AllByRecursion}
use Rattle.std.specs.Str.{IsUtf8}
use Rattle.wt_span.specs.declared.limits.TheConstants.{HTML_BYTES, PAGE_BYTES}
use Rattle.wt_span.specs.Items.{Item}
use Rattle.wt_tree.specs.Tiling.{is_group}
use Rattle.wt_tree.specs.Tree.{Tree, label}
use Rattle.wt_expand.specs.PageCalls.{expanded_page}
use Rattle.wt_expand.specs.Work.{Pages}
use Rattle.wt_page_round_trip.specs.PageTree.{page_tree}
use Rattle.wt_slices.specs.BodySlices.{slices}
use Rattle.wt_slices.specs.Changes.{Pair, marked}
use Rattle.wt_splice.specs.Splice.{spliced}
use Rattle.wt_visible.specs.SameNodes.{same_node}
use Rattle.wt_commands.specs.Answers.{refusal_of_page, done, remarked_of, edit_of, edit_to}
use Rattle.wt_commands.specs.UnmarkedEdits.{DoneByEdit}
use Rattle.wt_typed_blocks.specs.Edited.{Edits}
use Rattle.wt_text_edit_laws.specs.TextBlocks.{TextBlock, a_paragraph, a_heading}
use Rattle.wt_called_edit_laws.specs.AllTold.{IsOneOf as IsAnyOf}
use Rattle.wt_called_edit_laws.specs.CallingContents.{TakesContentsIn}
use Rattle.wt_called_edit_laws.specs.CallingTogether.{EachEditable, TakeThere}
use Rattle.wt_called_edit_laws.specs.CallingTold.{IsExceptedCalling}
use Rattle.wt_called_edit_laws.specs.EditableNodes.{IsEditable}
use Rattle.wt_called_edit_laws.specs.Groups.{called_tree}
use Rattle.wt_called_edit_laws.specs.LinedAmong.{spots_of_lines, end_of_lines}
use Rattle.wt_called_edit_laws.specs.LinedCalling.{IsLinedCalling}
use Rattle.wt_called_edit_laws.specs.PlacedLines.{LinedBlock}
use Rattle.wt_called_edit_laws.proofs.AllTold.CallingTogether.{lines_together}
use Rattle.wt_called_edit_laws.proofs.Headings.Pieced.{pieced_heading, pieced_heading_holds}
use Rattle.wt_called_edit_laws.proofs.Headings.TextAndCalls.{heading_pieced}
use Rattle.wt_called_edit_laws.proofs.PageBody.{page_body}
use Rattle.wt_called_edit_laws.proofs.Whole.Pieced.{pieced_content, pieced_holds}
use Rattle.wt_called_edit_laws.proofs.Whole.TextAndCalls.{pieced}
use Rattle.wt_inside_laws.specs.AsSent.{edits_of, paths_of, node_at, AreSomeOf}
use Rattle.wt_inside_laws.specs.BesideEdits.{IsBesideBlock, IsBesideEdit}
use Rattle.wt_inside_laws.specs.EditsWithCalls.{AreInTheirPieces, AreTextsAndCalls, IsCallingOn, MayHoldCalls, IsMarkedEdit, IsMarkedDifference}
use Rattle.wt_inside_laws.specs.LocalTextEdits.{IsLocalTextEdit}
use Rattle.wt_inside_laws.specs.NodeBlocks.{IsNodeBlock}
use Rattle.wt_inside_laws.specs.TextEdits.{IsRetyped, IsTextEdit}
use Rattle.wt_inside_laws.specs.ToldEdits.{IsOrdinaryOn, IsOrdinaryEdit, IsOrdinaryDifference}
use Rattle.wt_inside_laws.specs.TypedApart.{IsTypedApart}
use Rattle.wt_inside_laws.specs.TypedBeside.{IsTypedIn}
use Rattle.wt_inside_laws.proofs.BesideEdits.{calling_edit_done}
use Rattle.wt_inside_laws.proofs.HtmlEdits.{edit_is}
use Rattle.wt_inside_laws.proofs.NodeBlocks.{nodes_take_texts}
use Rattle.wt_inside_laws.proofs.LocalTextEdits.{nothing_local, ordinary_local, calling_local}
use Rattle.wt_inside_laws.proofs.NothingMarked.{nothing_done, nothing_spliced}
use Rattle.wt_inside_laws.proofs.OrdinaryEdits.{nodes_at, olds, one_same, block_kind, OrdinarySent, read_as_sent, difference_as_sent, by_marked, ordinary_done, done_without_marks, difference_written}
use Rattle.wt_inside_laws.proofs.OrdinaryBeside.{block_told, ordinary_calling}
use Rattle.wt_inside_laws.proofs.Reached.{Reaches, edits_reach}
use Rattle.wt_inside_laws.proofs.ToldEdits.{first_same, rest_same}
use Rattle.wt_inside_laws.proofs.TypedApart.{ordinary_apart}
use Rattle.wt_inside_laws.proofs.TypedBeside.{calling_typed_apart}

-- ---- a marked block is at its path

-- it is none of the excepted, and its content may be edited with its calls
record IsHeld (pages : Pages) (page : List ℕ) (p : Pair) : Type 0 where
  unexcepted : IsExceptedCalling pages page p.old → ⊥
  calling : IsCallingOn pages page p

held : (pages : Pages) (page : List ℕ) (q : List ℕ) (m : Pair) → IsUtf8 page → refusal_of_page pages page ≡ None → Reaches (called_tree pages page) q
    → node_at q (called_tree pages page) ≡ Some m.old → IsRetyped same_node (expanded_page pages page) page m → MayHoldCalls pages page m → IsHeld pages page m
held pages page q m utf8 unrefused w e r h = record {
  unexcepted = h.unexcepted;
  calling = elim h.held [
    | inl o ↦ ordinary_calling pages page m (block_told pages page q m utf8 unrefused w e r o) o
    | inr c ↦ c
  ];
}

all_held : (pages : Pages) (page : List ℕ) → IsUtf8 page → refusal_of_page pages page ≡ None → (qs : List (List ℕ)) (ms : List Pair)
    → AllByRecursion (Reaches (called_tree pages page)) qs → nodes_at (called_tree pages page) qs ≡ olds ms
    → AllByRecursion (IsRetyped same_node (expanded_page pages page) page) ms → AllByRecursion (MayHoldCalls pages page) ms
    → AllByRecursion (IsHeld pages page) ms
all_held pages page utf8 unrefused [] [] w e r h = tt
all_held pages page utf8 unrefused [] (m ∷ ms) w e r h = absurd (let no = ap length e in omega (arith, no))
all_held pages page utf8 unrefused (q ∷ qs) [] w e r h = tt
all_held pages page utf8 unrefused (q ∷ qs) (m ∷ ms) w e r h =
    let t : Tree = called_tree pages page in (
      held pages page q m utf8 unrefused w.0 (first_same (node_at q t) (Some m.old) (nodes_at t qs) (olds ms) e) r.0 h.0,
      all_held pages page utf8 unrefused qs ms w.1 (rest_same (node_at q t) (Some m.old) (nodes_at t qs) (olds ms) e) r.1 h.1,
    )

all_beside : (pages : Pages) (page : List ℕ) (ms : List Pair) → AllByRecursion (IsRetyped same_node (expanded_page pages page) page) ms
    → AllByRecursion (IsHeld pages page) ms → AllByRecursion (IsBesideBlock pages page) ms
all_beside pages page [] r h = tt
all_beside pages page (m ∷ ms) r h = let first : IsHeld pages page m = h.0 in (by first.calling.beside, all_beside pages page ms r.1 h.1)
  where
    by : IsNodeBlock pages m.old ⊎ IsBesideBlock pages page m → IsBesideBlock pages page m
    by (inl n) = nodes_take_texts pages page m r.0 n
    by (inr b) = b

-- and may be edited there
each_editable : (pages : Pages) (page : List ℕ) (qs : List (List ℕ)) (ms : List Pair) → AllByRecursion (Reaches (called_tree pages page)) qs
    → nodes_at (called_tree pages page) qs ≡ olds ms → AllByRecursion (IsRetyped same_node (expanded_page pages page) page) ms
    → AllByRecursion (IsHeld pages page) ms → EachEditable pages page qs
each_editable pages page [] ms w e r h = tt
each_editable pages page (q ∷ qs) [] w e r h = absurd (let no = ap length e in omega (arith, no))
each_editable pages page (q ∷ qs) (m ∷ ms) w e r h =
    let t : Tree = called_tree pages page in
    let first : IsHeld pages page m = h.0 in (
      (
        m.old,
        record {
          reached = w.0 m.old (first_same (node_at q t) (Some m.old) (nodes_at t qs) (olds ms) e);
          block = block_kind (label m.old).kind r.0.block;
          untangled = r.0.untangled;
          unexcepted = first.unexcepted;
          editable = first.calling.editable;
        },
      ),
      each_editable pages page qs ms w.1 (rest_same (node_at q t) (Some m.old) (nodes_at t qs) (olds ms) e) r.1 h.1,
    )

-- as many paths as blocks
some_paths : (t : Tree) (qs : List (List ℕ)) (ms : List Pair) → nodes_at t qs ≡ olds ms → 1 ≤ length ms → 1 ≤ length qs
some_paths t [] [] e le = le
some_paths t [] (m ∷ ms) e le = absurd (let no = ap length e in omega (arith, no))
some_paths t (q ∷ qs) ms e le = omega arith

among_paths : (all ps : List (List ℕ)) → AllByRecursion (λ p. IsAnyOf p all) ps → AreSomeOf ps all
among_paths all [] h = tt
among_paths all (p ∷ ps) h = (one_same p all h.0, among_paths all ps h.1)

-- ---- which contents are editable

-- blocks in pieces are editable, those of texts and calls alone among them
pub pieces_editable : (pages : Pages) (k : TextBlock) (q : List ℕ) → AreInTheirPieces pages k q → IsEditable pages k q
pieces_editable pages a_paragraph q x = inr (pieced_content pages q x, pieced_holds pages q x)
pieces_editable pages (a_heading s) q x = inr (pieced_heading pages s q x, pieced_heading_holds pages s q x)

pub calls_editable : (pages : Pages) (k : TextBlock) (q : List ℕ) → AreTextsAndCalls pages k q → IsEditable pages k q
calls_editable pages a_paragraph q x = let p = pieced pages q x in inr (pieced_content pages q p, pieced_holds pages q p)
calls_editable pages (a_heading s) q x = let p = heading_pieced pages s q x in inr (pieced_heading pages s q p, pieced_heading_holds pages s q p)

-- ---- the edit

-- It is a text edit of blocks that may hold calls and that the lines of the expanded page tell.
record CallsTold (pages : Pages) (page : List ℕ) (new : Tree) : Type 0 where
  bs : List LinedBlock
  rest : List (List Item)
  lined : IsLinedCalling pages page bs rest
  taken : TakesContentsIn pages (spots_of_lines pages page bs) (end_of_lines pages page bs rest)
  edit : IsBesideEdit pages page taken.paths new

-- what is known of one in which some blocks may hold calls
record IsCallsRead (pages : Pages) (page : List ℕ) (new : Tree) : Type 0 where
  utf8 : IsUtf8 page
  short : length page ≤ PAGE_BYTES
  unrefused : refusal_of_page pages page ≡ None
  edit : IsTextEdit same_node (expanded_page pages page) page (page_tree pages page) new
  blocks : AllByRecursion (MayHoldCalls pages page) (marked (page_tree pages page) new)
  sent : OrdinarySent pages page new

calls_read : (pages : Pages) (page input : List ℕ) (new : Tree) (u : Option ℕ) → IsMarkedEdit pages page input new u
    → AllByRecursion (MayHoldCalls pages page) (marked (page_tree pages page) new) → IsCallsRead pages page new
calls_read pages page input new u h c = record {
  utf8 = h.utf8;
  short = h.short;
  unrefused = h.unrefused;
  edit = h.edit;
  blocks = c;
  sent = read_as_sent pages page input new u h.utf8 h.short h.unrefused h.sent h.edit;
}

difference_read : (pages : Pages) (page input : List ℕ) (new : Tree) (u : Option ℕ) → IsMarkedDifference pages page input new u
    → AllByRecursion (MayHoldCalls pages page) (marked (page_tree pages page) (remarked_of pages page new)) → IsCallsRead pages page (remarked_of pages page new)
difference_read pages page input new u h c = record {
  utf8 = h.utf8;
  short = h.short;
  unrefused = h.unrefused;
  edit = h.edit;
  blocks = c;
  sent = difference_as_sent pages page input new u h.utf8 h.short h.unrefused h.sent h.edit;
}

calls_told : (pages : Pages) (page : List ℕ) (new : Tree) → IsCallsRead pages page new → 1 ≤ length (marked (page_tree pages page) new) → CallsTold pages page new
calls_told pages page new h some =
    let t : Tree = called_tree pages page in
    let ms : List Pair = marked (page_tree pages page) new in
    let es : Edits = edits_of t new in
    let ps : List (List ℕ) = paths_of es in
    let e : OrdinarySent pages page new = h.sent in
    let body = page_body pages page h.utf8 h.unrefused in
    let reach : AllByRecursion (Reaches t) ps = edits_reach t es (ap is_group body.kind) e.sent.old e.sent.outside in
    let all : AllByRecursion (IsHeld pages page) ms = all_held pages page h.utf8 h.unrefused ps ms reach e.sent.at h.edit.blocks h.blocks in
    let there : TakeThere pages page ps =
    lines_together pages page ps h.utf8 h.unrefused (some_paths t ps ms e.sent.at some) (each_editable pages page ps ms reach e.sent.at h.edit.blocks all) in
    record {
      bs = there.bs;
      rest = there.behind;
      lined = there.lined;
      taken = there.taken;
      edit = record {
        short = h.short;
        edit = h.edit;
        read = e.read;
        blocks = e.blocks;
        beside = all_beside pages page ms h.edit.blocks all;
        among = among_paths there.taken.paths ps there.there;
      };
    }

done_of : (pages : Pages) (page : List ℕ) (new : Tree) → IsCallsRead pages page new
    → edit_to pages page new ≡ done (spliced page (slices same_node (page_tree pages page) new))
done_of pages page new h =
    by_marked (marked (page_tree pages page) new)
    (λ none. nothing_spliced pages page new (nothing_done pages page new h.utf8 h.short h.unrefused h.sent.sent none))
    (λ some. let o : CallsTold pages page new = calls_told pages page new h some in calling_edit_done pages page o.bs o.rest new o.lined o.taken o.edit)

local_of : (pages : Pages) (page : List ℕ) (new : Tree) → IsCallsRead pages page new → IsLocalTextEdit pages page new
local_of pages page new h =
    by_marked (marked (page_tree pages page) new)
    (λ none. nothing_local pages page new h.utf8 h.short h.unrefused h.sent.sent none)
    (λ some. let o : CallsTold pages page new = calls_told pages page new h some in calling_local pages page o.bs o.rest new o.lined o.taken o.edit)

typed_of : (pages : Pages) (page : List ℕ) (new : Tree) → IsCallsRead pages page new → AllByRecursion (IsTypedIn pages) (marked (page_tree pages page) new)
typed_of pages page new h =
    by_marked (marked (page_tree pages page) new) (λ none. subst (AllByRecursion (IsTypedIn pages)) (sym none) tt)
    (λ some. let o : CallsTold pages page new = calls_told pages page new h some in calling_typed_apart pages page o.bs o.rest new o.lined o.taken o.edit)

-- ---- with marks

-- where each marked block is ordinary
as_ordinary : (pages : Pages) (page input : List ℕ) (new : Tree) (u : Option ℕ) → IsMarkedEdit pages page input new u
    → AllByRecursion (IsOrdinaryOn pages page) (marked (page_tree pages page) new) → IsOrdinaryEdit pages page input new u
as_ordinary pages page input new u h o = record {
  utf8 = h.utf8;
  short = h.short;
  unrefused = h.unrefused;
  sent = h.sent;
  edit = h.edit;
  blocks = o;
}

pub marked_done : (pages : Pages) (page input : List ℕ) (new : Tree) (u : Option ℕ) → IsMarkedEdit pages page input new u
    → edit_to pages page new ≡ done (spliced page (slices same_node (page_tree pages page) new))
marked_done pages page input new u h = elim h.blocks [
  | inl o ↦ ordinary_done pages page input new u (as_ordinary pages page input new u h o)
  | inr c ↦ done_of pages page new (calls_read pages page input new u h c)
]

pub marked_written : (pages : Pages) (page input : List ℕ) (new : Tree) (u : Option ℕ) → IsMarkedEdit pages page input new u → length input ≤ HTML_BYTES
    → edit_of pages (Some page) input ≡ done (spliced page (slices same_node (page_tree pages page) new))
marked_written pages page input new u h le =
    edit_is pages page (spliced page (slices same_node (page_tree pages page) new)) input new u h.utf8 h.short le h.sent
    (marked_done pages page input new u h)

pub marked_local : (pages : Pages) (page input : List ℕ) (new : Tree) (u : Option ℕ) → IsMarkedEdit pages page input new u → IsLocalTextEdit pages page new
marked_local pages page input new u h = elim h.blocks [
  | inl o ↦ ordinary_local pages page input new u (as_ordinary pages page input new u h o)
  | inr c ↦ local_of pages page new (calls_read pages page input new u h c)
]

-- blocks that call nothing are among those that may
all_typed : (pages : Pages) (ms : List Pair) → AllByRecursion IsTypedApart ms → AllByRecursion (IsTypedIn pages) ms
all_typed pages [] h = tt
all_typed pages (m ∷ ms) h = (inl h.0, all_typed pages ms h.1)

pub marked_typed : (pages : Pages) (page input : List ℕ) (new : Tree) (u : Option ℕ) → IsMarkedEdit pages page input new u
    → AllByRecursion (IsTypedIn pages) (marked (page_tree pages page) new)
marked_typed pages page input new u h = elim h.blocks [
  | inl o ↦
      all_typed pages (marked (page_tree pages page) new) (ordinary_apart pages page input new u (as_ordinary pages page input new u h o))
  | inr c ↦ typed_of pages page new (calls_read pages page input new u h c)
]

-- ---- without marks

ordinary_difference : (pages : Pages) (page input : List ℕ) (new : Tree) (u : Option ℕ) → IsMarkedDifference pages page input new u
    → AllByRecursion (IsOrdinaryOn pages page) (marked (page_tree pages page) (remarked_of pages page new)) → IsOrdinaryDifference pages page input new u
ordinary_difference pages page input new u h o = record {
  utf8 = h.utf8;
  short = h.short;
  unrefused = h.unrefused;
  sent = h.sent;
  edit = h.edit;
  blocks = o;
}

pub marked_difference : (pages : Pages) (page input : List ℕ) (new : Tree) (u : Option ℕ) (stands : Option (List ℕ))
    → IsMarkedDifference pages page input new u → stands ≡ Some page → length input ≤ HTML_BYTES → DoneByEdit pages stands input
marked_difference pages page input new u stands h found le = elim h.blocks [
  | inl o ↦ difference_written pages page input new u stands (ordinary_difference pages page input new u h o) found le
  | inr c ↦
      done_without_marks pages page input new u stands (spliced page (slices same_node (page_tree pages page) (remarked_of pages page new))) h.utf8 h.short
      h.sent (done_of pages page (remarked_of pages page new) (difference_read pages page input new u h c)) found le
]
