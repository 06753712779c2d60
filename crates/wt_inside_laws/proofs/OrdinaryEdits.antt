-- A text edit of ordinary blocks is done, of any page that isn't refused.
use Rattle.std.proofs.Common.{arith, ◌≡◌, ◌⊎◌, ℕ, ◌≤◌, true, Option, Some, None, List, [], ◌∷◌, length, map, refl, sym, ap, subst, inl, inr}
use Rattle.std.specs.List.{AllByRecursion}
use Rattle.wt_span.specs.Items.{Item}
use Rattle.std.specs.Str.{IsUtf8}
use Rattle.wt_span.specs.declared.limits.TheConstants.{HTML_BYTES, PAGE_BYTES}
use Rattle.wt_tree.specs.declared.kind.Kind.{Kind}
use Rattle.wt_tree.specs.declared.kind.Kind.TheVariants as kind
use Rattle.wt_tree.specs.EditShapes.{edit_shape}
use Rattle.wt_tree.specs.Tiling.{is_group}
use Rattle.wt_tree.specs.Tree.{Tree, label}
use Rattle.wt_expand.specs.PageCalls.{expanded_page}
use Rattle.wt_expand.specs.Work.{Pages}
use Rattle.wt_link_spelling.specs.Spelling.{children_of}
use Rattle.wt_page_round_trip.specs.PageTree.{page_tree}
use Rattle.wt_schema.specs.Read.{page as as_page, read}
use Rattle.wt_page_round_trip.proofs.OneBody.{read_is_one_body}
use Rattle.wt_checks.specs.PutBack.{IsOneBody}
use Rattle.wt_utf8.proofs.PlaceLaws.{no_place}
use Rattle.wt_slices.specs.BodySlices.{slices}
use Rattle.wt_slices.specs.Changes.{Pair, marked}
use Rattle.wt_splice.specs.Splice.{spliced}
use Rattle.wt_visible.specs.SameNodes.{same_node}
use Rattle.wt_commands.specs.Answers.{refusal_of_page, done, remarked_of, edit_of, edit_to}
use Rattle.wt_commands.specs.UnmarkedEdits.{EditIsDone, DoneByEdit}
use Rattle.wt_commands.proofs.PageLaws.{page_text}
use Rattle.wt_typed_blocks.specs.Edited.{Edits}
use Rattle.wt_called_edit_laws.specs.AllTold.{AllBlocksTold, IsExcepted, IsOneOf as IsAnyOf}
use Rattle.wt_called_edit_laws.specs.ContentsTaken.{TakesContents}
use Rattle.wt_called_edit_laws.specs.Groups.{called_tree}
use Rattle.wt_called_edit_laws.specs.LinedAmong.{spots_of_lines, end_of_lines, IsLinedAmong}
use Rattle.wt_called_edit_laws.specs.PlacedLines.{LinedBlock}
use Rattle.wt_called_edit_laws.specs.RowBlocks.{IsTextBlock}
use Rattle.wt_called_edit_laws.specs.ToldLines.{Told, lined}
use Rattle.wt_called_edit_laws.specs.ToldTogether.{AreSome}
use Rattle.wt_called_edit_laws.proofs.AllTold.Complete.{all_blocks}
use Rattle.wt_called_edit_laws.proofs.Among.ToldAmong.{told_among}
use Rattle.wt_called_edit_laws.proofs.PageBody.{page_body}
use Rattle.wt_inside_laws.specs.AsSent.{edits_of, paths_of, node_at, IsOneOf, AreSomeOf, IsReadFor, IsSentOn}
use Rattle.wt_inside_laws.specs.RetypedPieces.{AreRead, AreUtf8}
use Rattle.wt_inside_laws.specs.TextEdits.{takes_text, IsRetyped, IsTextEdit}
use Rattle.wt_inside_laws.specs.ToldEdits.{IsReadBlock, IsOrdinary, IsOrdinaryOn, IsToldEdit, IsOrdinaryEdit, IsOrdinaryDifference}
use Rattle.wt_inside_laws.proofs.HtmlEdits.{edit_is}
use Rattle.wt_inside_laws.proofs.NothingMarked.{nothing_done, nothing_spliced}
use Rattle.wt_inside_laws.proofs.PageAlike.{text_edit_sent}
use Rattle.wt_inside_laws.proofs.Reached.{Reaches, edits_reach}
use Rattle.wt_inside_laws.proofs.ReadRecuts.{ReadTree}
use Rattle.wt_inside_laws.proofs.ReadSent.{tree_for, tree_blocks, tree_read}
use Rattle.wt_inside_laws.proofs.Remarked.{remarked_read, remarked_body}
use Rattle.wt_inside_laws.proofs.ToldEdits.{first_same, rest_same, lined_edit_done}

-- ---- paths

pub one_same : (p : List ℕ) (qs : List (List ℕ)) → IsAnyOf p qs → IsOneOf p qs
one_same p [] h = absurd h
one_same p (q ∷ qs) (inl e) = inl e
one_same p (q ∷ qs) (inr h) = inr (one_same p qs h)

-- ---- a marked block is told

pub block_kind : (k : Kind) → takes_text (edit_shape k).form ≡ true → IsTextBlock k
block_kind kind.Para e = inl refl
block_kind (kind.Heading n) e = inr (n, refl)
block_kind kind.Rule e = absurd (cc)
block_kind k e = absurd (cc)

only_one : (ts : List Told) (x y : AreSome ts) → x ≡ y
only_one [] x y = absurd x
only_one (t ∷ ts) x y = refl

pub record IsTold (pages : Pages) (page : List ℕ) (a : AllBlocksTold pages page) (q : List ℕ) : Type 0 where
  pub some : AreSome a.ts
  pub one : IsOneOf q (a.told some).taken.paths

told_of : (pages : Pages) (page : List ℕ) (a : AllBlocksTold pages page) (q : List ℕ) (t : Tree) → (IsExcepted pages page t → ⊥)
    → ((s : AreSome a.ts) × IsAnyOf q (a.told s).taken.paths) ⊎ IsExcepted pages page t → IsTold pages page a q
told_of pages page a q t n (inl h) = record { some = h.0; one = one_same q (a.told h.0).taken.paths h.1 }
told_of pages page a q t n (inr h) = absurd (n h)

pub marked_told : (pages : Pages) (page : List ℕ) (a : AllBlocksTold pages page) (q : List ℕ) (m : Pair) → Reaches (called_tree pages page) q
    → node_at q (called_tree pages page) ≡ Some m.old → IsRetyped same_node (expanded_page pages page) page m → IsOrdinaryOn pages page m
    → IsTold pages page a q
marked_told pages page a q m w e r o =
    told_of pages page a q m.old o.told (a.complete q m.old (w m.old e) (block_kind (label m.old).kind r.block) o.ungrouped r.untangled r.closed)

abbrev pub nodes_at : Tree → List (List ℕ) → List (Option Tree)
nodes_at t qs = map (λ q. node_at q t) qs

abbrev pub olds : List Pair → List (Option Tree)
olds ms = map (λ m. Some m.old) ms

-- one of them is
some_told : (pages : Pages) (page : List ℕ) (a : AllBlocksTold pages page) (qs : List (List ℕ)) (ms : List Pair)
    → AllByRecursion (Reaches (called_tree pages page)) qs → nodes_at (called_tree pages page) qs ≡ olds ms
    → AllByRecursion (IsRetyped same_node (expanded_page pages page) page) ms → AllByRecursion (IsOrdinaryOn pages page) ms → 1 ≤ length ms → AreSome a.ts
some_told pages page a qs [] w e r o le = absurd (omega (arith, le))
some_told pages page a [] (m ∷ ms) w e r o le = absurd (let no = ap length e in omega (arith, no))
some_told pages page a (q ∷ qs) (m ∷ ms) w e r o le =
    let t : Tree = called_tree pages page in
    let told : IsTold pages page a q = marked_told pages page a q m w.0 (first_same (node_at q t) (Some m.old) (nodes_at t qs) (olds ms) e) r.0 o.0 in
    told.some

all_told : (pages : Pages) (page : List ℕ) (a : AllBlocksTold pages page) (s : AreSome a.ts) (qs : List (List ℕ)) (ms : List Pair)
    → AllByRecursion (Reaches (called_tree pages page)) qs → nodes_at (called_tree pages page) qs ≡ olds ms
    → AllByRecursion (IsRetyped same_node (expanded_page pages page) page) ms → AllByRecursion (IsOrdinaryOn pages page) ms
    → AreSomeOf qs (a.told s).taken.paths
all_told pages page a s [] ms w e r o = tt
all_told pages page a s (q ∷ qs) [] w e r o = absurd (let no = ap length e in omega (arith, no))
all_told pages page a s (q ∷ qs) (m ∷ ms) w e r o =
    let t : Tree = called_tree pages page in
    let told : IsTold pages page a q = marked_told pages page a q m w.0 (first_same (node_at q t) (Some m.old) (nodes_at t qs) (olds ms) e) r.0 o.0 in (
      subst (λ (x : AreSome a.ts). IsOneOf q (a.told x).taken.paths) (only_one a.ts told.some s) told.one,
      all_told pages page a s qs ms w.1 (rest_same (node_at q t) (Some m.old) (nodes_at t qs) (olds ms) e) r.1 o.1,
    )

-- ---- the edit

all_read : (ps : List Pair) → AllByRecursion (λ p. AreRead (children_of p.new) × AreUtf8 (children_of p.new)) ps
    → AllByRecursion (λ p. AreRead (children_of p.new)) ps × AllByRecursion IsReadBlock ps
all_read [] h = (tt, tt)
all_read (p ∷ ps) h = let r = all_read ps h.1 in ((h.0.0, r.0), (record { read = h.0.0; utf8 = h.0.1 }, r.1))

all_ordinary : (pages : Pages) (page : List ℕ) (ps : List Pair) → AllByRecursion (IsOrdinaryOn pages page) ps → AllByRecursion IsOrdinary ps
all_ordinary pages page [] h = tt
all_ordinary pages page (p ∷ ps) h = (h.0.ordinary, all_ordinary pages page ps h.1)

-- It is a text edit of blocks that the lines of the expanded page tell.
pub record OrdinaryTold (pages : Pages) (page : List ℕ) (new : Tree) : Type 0 where
  pub bs : List LinedBlock
  pub rest : List (List Item)
  pub lined : IsLinedAmong pages page bs rest
  pub taken : TakesContents pages (spots_of_lines pages page bs) (end_of_lines pages page bs rest)
  pub edit : IsToldEdit pages page taken.paths new

-- as it is read
pub record OrdinarySent (pages : Pages) (page : List ℕ) (new : Tree) : Type 0 where
  pub read : IsReadFor (page_tree pages page) new
  pub blocks : AllByRecursion IsReadBlock (marked (page_tree pages page) new)
  pub sent : IsSentOn pages page new (edits_of (called_tree pages page) new)

-- of a tree that is as what is read
pub tree_as_sent : (pages : Pages) (page : List ℕ) (new : Tree) → IsUtf8 page → length page ≤ PAGE_BYTES → refusal_of_page pages page ≡ None
    → IsOneBody new → ReadTree new → IsTextEdit same_node (expanded_page pages page) page (page_tree pages page) new → OrdinarySent pages page new
tree_as_sent pages page new utf8 short unrefused one sent edit =
    let for_page : IsReadFor (page_tree pages page) new = tree_for pages page new utf8 short unrefused one sent edit.checks in
    let blocks =
    all_read (marked (page_tree pages page) new)
    (tree_blocks same_node (expanded_page pages page) page pages page new utf8 short unrefused one sent edit.checks edit.blocks) in
    record { read = for_page; blocks = blocks.1; sent = text_edit_sent pages page new utf8 short unrefused edit for_page blocks.0 }

pub read_as_sent : (pages : Pages) (page input : List ℕ) (new : Tree) (u : Option ℕ) → IsUtf8 page → length page ≤ PAGE_BYTES
    → refusal_of_page pages page ≡ None → read input ≡ as_page new u
    → IsTextEdit same_node (expanded_page pages page) page (page_tree pages page) new → OrdinarySent pages page new
read_as_sent pages page input new u utf8 short unrefused sent edit =
    tree_as_sent pages page new utf8 short unrefused (read_is_one_body input new u sent) (tree_read input new u sent) edit

-- and with the marks of its difference from the page in the place of its own
pub difference_as_sent : (pages : Pages) (page input : List ℕ) (new : Tree) (u : Option ℕ) → IsUtf8 page → length page ≤ PAGE_BYTES
    → refusal_of_page pages page ≡ None → read input ≡ as_page new u
    → IsTextEdit same_node (expanded_page pages page) page (page_tree pages page) (remarked_of pages page new) → OrdinarySent pages page (remarked_of pages page new)
difference_as_sent pages page input new u utf8 short unrefused sent edit =
    tree_as_sent pages page (remarked_of pages page new) utf8 short unrefused (remarked_body (page_tree pages page) new (read_is_one_body input new u sent))
    (remarked_read (page_tree pages page) new (tree_read input new u sent)) edit

-- ---- what is known of a text edit of ordinary blocks

pub record IsOrdinaryRead (pages : Pages) (page : List ℕ) (new : Tree) : Type 0 where
  pub utf8 : IsUtf8 page
  pub short : length page ≤ PAGE_BYTES
  pub unrefused : refusal_of_page pages page ≡ None
  pub edit : IsTextEdit same_node (expanded_page pages page) page (page_tree pages page) new
  pub blocks : AllByRecursion (IsOrdinaryOn pages page) (marked (page_tree pages page) new)
  pub sent : OrdinarySent pages page new

pub ordinary_read : (pages : Pages) (page input : List ℕ) (new : Tree) (u : Option ℕ) → IsOrdinaryEdit pages page input new u → IsOrdinaryRead pages page new
ordinary_read pages page input new u h = record {
  utf8 = h.utf8;
  short = h.short;
  unrefused = h.unrefused;
  edit = h.edit;
  blocks = h.blocks;
  sent = read_as_sent pages page input new u h.utf8 h.short h.unrefused h.sent h.edit;
}

pub difference_read : (pages : Pages) (page input : List ℕ) (new : Tree) (u : Option ℕ) → IsOrdinaryDifference pages page input new u
    → IsOrdinaryRead pages page (remarked_of pages page new)
difference_read pages page input new u h = record {
  utf8 = h.utf8;
  short = h.short;
  unrefused = h.unrefused;
  edit = h.edit;
  blocks = h.blocks;
  sent = difference_as_sent pages page input new u h.utf8 h.short h.unrefused h.sent h.edit;
}

pub ordinary_sent : (pages : Pages) (page input : List ℕ) (new : Tree) (u : Option ℕ) → IsOrdinaryEdit pages page input new u → OrdinarySent pages page new
ordinary_sent pages page input new u h = let r : IsOrdinaryRead pages page new = ordinary_read pages page input new u h in r.sent

-- ---- the edit

pub told_by : (pages : Pages) (page : List ℕ) (new : Tree) → IsOrdinaryRead pages page new → 1 ≤ length (marked (page_tree pages page) new) → OrdinaryTold pages page new
told_by pages page new h some =
    let a : AllBlocksTold pages page = all_blocks pages page h.utf8 h.unrefused in
    let t : Tree = called_tree pages page in
    let ms : List Pair = marked (page_tree pages page) new in
    let es : Edits = edits_of t new in
    let e : OrdinarySent pages page new = h.sent in
    let body = page_body pages page h.utf8 h.unrefused in
    let reach : AllByRecursion (Reaches t) (paths_of es) = edits_reach t es (ap is_group body.kind) e.sent.old e.sent.outside in
    let s : AreSome a.ts = some_told pages page a (paths_of es) ms reach e.sent.at h.edit.blocks h.blocks some in
    record {
      bs = map lined a.ts;
      rest = a.behind;
      lined = told_among pages page a.ts a.behind (a.told s).told;
      taken = (a.told s).taken;
      edit = record {
        short = h.short;
        edit = h.edit;
        read = e.read;
        blocks = e.blocks;
        ordinary = all_ordinary pages page ms h.blocks;
        among = all_told pages page a s (paths_of es) ms reach e.sent.at h.edit.blocks h.blocks;
      };
    }

pub ordinary_told : (pages : Pages) (page input : List ℕ) (new : Tree) (u : Option ℕ) → IsOrdinaryEdit pages page input new u
    → 1 ≤ length (marked (page_tree pages page) new) → OrdinaryTold pages page new
ordinary_told pages page input new u h some = told_by pages page new (ordinary_read pages page input new u h) some

-- where something is marked, and where nothing is
pub by_marked : {A : Type 0} (ps : List Pair) → (ps ≡ [] → A) → (1 ≤ length ps → A) → A
by_marked [] f g = f refl
by_marked (p ∷ ps) f g = g (omega arith)

done_of : (pages : Pages) (page : List ℕ) (new : Tree) → IsOrdinaryRead pages page new
    → edit_to pages page new ≡ done (spliced page (slices same_node (page_tree pages page) new))
done_of pages page new h =
    by_marked (marked (page_tree pages page) new)
    (λ none. nothing_spliced pages page new (nothing_done pages page new h.utf8 h.short h.unrefused h.sent.sent none))
    (λ some. let o : OrdinaryTold pages page new = told_by pages page new h some in lined_edit_done pages page o.bs o.rest new o.lined o.taken o.edit)

pub ordinary_done : (pages : Pages) (page input : List ℕ) (new : Tree) (u : Option ℕ) → IsOrdinaryEdit pages page input new u
    → edit_to pages page new ≡ done (spliced page (slices same_node (page_tree pages page) new))
ordinary_done pages page input new u h = done_of pages page new (ordinary_read pages page input new u h)

pub ordinary_written : (pages : Pages) (page input : List ℕ) (new : Tree) (u : Option ℕ) → IsOrdinaryEdit pages page input new u → length input ≤ HTML_BYTES
    → edit_of pages (Some page) input ≡ done (spliced page (slices same_node (page_tree pages page) new))
ordinary_written pages page input new u h le =
    edit_is pages page (spliced page (slices same_node (page_tree pages page) new)) input new u h.utf8 h.short le h.sent (ordinary_done pages page input new u h)

-- ---- without marks

pub difference_done : (pages : Pages) (page input : List ℕ) (new : Tree) (u : Option ℕ) → IsOrdinaryDifference pages page input new u
    → edit_to pages page (remarked_of pages page new)
    ≡ done (spliced page (slices same_node (page_tree pages page) (remarked_of pages page new)))
difference_done pages page input new u h = done_of pages page (remarked_of pages page new) (difference_read pages page input new u h)

pub done_without_marks : (pages : Pages) (page input : List ℕ) (new : Tree) (u : Option ℕ) (stands : Option (List ℕ)) (made : List ℕ) → IsUtf8 page
    → length page ≤ PAGE_BYTES → read input ≡ as_page new u → edit_to pages page (remarked_of pages page new) ≡ done made → stands ≡ Some page
    → length input ≤ HTML_BYTES → DoneByEdit pages stands input
done_without_marks pages page input new u stands made utf8 short is e found le =
    let answered : EditIsDone pages page (as_page new u) = (made, e) in
    record {
      page = page;
      found = found;
      text = page_text page short (no_place page utf8);
      within = le;
      done = subst (EditIsDone pages page) (sym is) answered;
    }

pub difference_written : (pages : Pages) (page input : List ℕ) (new : Tree) (u : Option ℕ) (stands : Option (List ℕ)) → IsOrdinaryDifference pages page input new u
    → stands ≡ Some page → length input ≤ HTML_BYTES → DoneByEdit pages stands input
difference_written pages page input new u stands h found le =
    done_without_marks pages page input new u stands (spliced page (slices same_node (page_tree pages page) (remarked_of pages page new))) h.utf8 h.short h.sent
    (difference_done pages page input new u h) found le
