-- Whatever contents are chosen for the blocks of a page, there is an edit that comes from the page's HTML.
use Rattle.std.proofs.Common.{◌≡◌, ◌≢◌, ℕ, zero, suc, ◌<◌, Bool, true, false, Option, Some, None, List, [], ◌∷◌, map, refl, sym, ap, ap₂, ◌∙◌, subst, arith, option_map}
use Rattle.std.specs.Prelude.{◌||◌}
use Rattle.std.specs.List.{AllByRecursion}
use Rattle.wt_tree.specs.declared.kind.Kind.{Kind}
use Rattle.wt_tree.specs.declared.kind.Kind.TheVariants as kind
use Rattle.wt_tree.specs.declared.kind.Mark.TheVariants as mark
use Rattle.wt_tree.specs.declared.row.Writing.{Writing}
use Rattle.wt_tree.specs.declared.row.Writing.TheVariants.{AsText, AsVoid, RoundCharacter, RoundChildren, AsSection, Unwritten}
use Rattle.wt_tree.specs.Kinds.{writing}
use Rattle.wt_tree.specs.Plain.{Plain, text as characters, element as face_of, Plains, ended, along}
use Rattle.wt_tree.specs.Tiling.{is_group, ids, ids_of_all}
use Rattle.wt_tree.specs.Tree.{Label, Tree, tree, Trees, none, more}
use Rattle.wt_schema.specs.GroupNodes.{elements_for, group_nodes, inner_node, inner_nodes, is_ended}
use Rattle.wt_schema.specs.Written.{label_read, unranged, unranged_all, PlainIn, PlainsIn, TopsIn, IsWrittenGroup, is_childless, NodeIsWritten, WrittenIn, AllWrittenIn}
use Rattle.wt_schema.proofs.Bare.{others_read}
use Rattle.wt_schema.proofs.Faces.{held_somewhere}
use Rattle.wt_schema.proofs.Rows.{held}
use Rattle.wt_checks.specs.Elements.{signs_in}
use Rattle.wt_checks.specs.PutBack.{has_frame, have_frame}
use Rattle.wt_checks.proofs.Lookups.{each_join}
use Rattle.wt_commands.proofs.ReadGroups.{group_read, inners_unmarked, no_frame}
use Rattle.wt_commands.proofs.UnchangedTree.{text_kind, no_group, group_no_body, group_held}
use Rattle.wt_difference.specs.Unedited.{GroupOr}
use Rattle.wt_page_round_trip.proofs.Sectioned.{IsWrittenBody}
use Rattle.wt_typed_blocks.specs.Sent.{IsSentAsIs, GroupIsSent, StandsAsIs, AllStandAsIs, Block, kind_of}
use Rattle.wt_typed_blocks.specs.Edited.{Pieces, Edited, stays, edited, round, Edits, no_edits, more_edits, page_node, page_nodes, IsEdited, AreEdited, IsOutside, AreOutside}
use Rattle.wt_text_edit_laws.specs.BlockSpots.{BlockSpot}
use Rattle.wt_called_edit_laws.specs.AnyBlocks.{first_paths, other_paths, EndHere}
use Rattle.wt_called_edit_laws.specs.ChosenContents.{Choice, pieces_of}
use Rattle.wt_called_edit_laws.specs.EditsAt.{edited_at, edited_among, edited_by, EditsOnly, AllEditOnly, FitsSpot, AreFitting, IsContentEdit}
use Rattle.wt_program.specs.SentHtml.{own_pieces, AreApart, ArePiecesRead, IsRead, AreRead, IfRead, AreChosenRead}

-- ---- what is read of a node of the page's HTML stands as it is

sent_as_is : (l : Label) → l.mark ≡ mark.Nothing → IsSentAsIs l (label_read l)
sent_as_is l e = record { kind = refl; id = refl; attrs = refl; mw = refl; shown = λ h. refl; unmarked = e }

mutual
  inner_zero : (p : Plain) → AllByRecursion (λ n. n ≡ 0) (ids (inner_node p))
  inner_zero (characters bs) = (refl, tt)
  inner_zero (face_of f qs) = (refl, inners_zero qs)

  inners_zero : (ps : Plains) → AllByRecursion (λ n. n ≡ 0) (ids_of_all (inner_nodes ps))
  inners_zero ended = tt
  inners_zero (along p ps) = each_join (λ n. n ≡ 0) (ids (inner_node p)) (ids_of_all (inner_nodes ps)) (inner_zero p) (inners_zero ps)

mutual
  inner_unframed : (p : Plain) (k : ℕ) (parent : Kind) → PlainIn k parent p → has_frame (inner_node p) ≡ false
  inner_unframed (characters bs) k parent h = refl
  inner_unframed (face_of f qs) k parent h =
      ap₂ (λ x y. x || y) (no_frame f.kind (held parent f.kind h.0 h.1.1.element)) (inners_unframed qs (suc k) f.kind h.1.3.1)

  inners_unframed : (ps : Plains) (k : ℕ) (parent : Kind) → PlainsIn k parent ps → have_frame (inner_nodes ps) ≡ false
  inners_unframed ended k parent h = refl
  inners_unframed (along p ps) k parent h = ap₂ (λ x y. x || y) (inner_unframed p k parent h.0) (inners_unframed ps k parent h.2)

tops_unframed : (ps : Plains) (k : ℕ) (parent : Kind) → TopsIn k parent ps → have_frame (inner_nodes ps) ≡ false
tops_unframed ended k parent h = refl
tops_unframed (along (characters bs) ps) k parent h = absurd h.0
tops_unframed (along (face_of f qs) ps) k parent h =
    ap₂ (λ x y. x || y)
    (ap₂ (λ x y. x || y) (no_frame f.kind (held_somewhere parent f.kind (is_ended qs) h.0.0 h.0.1.1.element)) (inners_unframed qs (suc k) f.kind h.0.1.3.1))
    (tops_unframed ps k parent h.1)

above_zero : (n : ℕ) → 0 < n → n ≢ 0
above_zero n h = λ e. absurd (omega (arith, h, e))

group_stands : (l : Label) (ts : Trees) (k : ℕ) (parent : Kind) → IsWrittenGroup k parent l ts → StandsAsIs (tree l ts) (unranged (tree l ts))
group_stands l ts k parent h =
    let g : is_group l.kind ≡ true = (group_no_body l.kind h.label.kind).0 in
    let sent : GroupIsSent l ts (group_nodes ts) = record {
      numbered = above_zero l.id h.label.number.0;
      elements = ap signs_in (sym (group_read ts k parent h.elements));
      unnumbered = inners_zero (elements_for ts);
      unmarked = inners_unmarked (elements_for ts);
      unframed = tops_unframed (elements_for ts) k parent h.elements;
    } in
    subst (StandsAsIs (tree l ts)) (sym (group_held l ts g))
    (sent_as_is l h.label.mark, subst (λ (b : Bool). GroupOr b (GroupIsSent l ts (group_nodes ts)) (AllStandAsIs ts (group_nodes ts))) (sym g) sent)

other_stands : (l : Label) (ts : Trees) → is_group l.kind ≡ false → l.mark ≡ mark.Nothing → AllStandAsIs ts (unranged_all ts)
    → StandsAsIs (tree l ts) (unranged (tree l ts))
other_stands l ts g e h =
    subst (StandsAsIs (tree l ts)) (sym (others_read l ts g))
    (sent_as_is l e, subst (λ (b : Bool). GroupOr b (GroupIsSent l ts (unranged_all ts)) (AllStandAsIs ts (unranged_all ts))) (sym g) h)

childless_stand : (ts : Trees) → is_childless ts ≡ true → AllStandAsIs ts (unranged_all ts)
childless_stand none e = tt
childless_stand (more t ts) e = absurd (cc e)

node_stands : (w : Writing) (l : Label) (ts : Trees) (k : ℕ) (parent : Kind) (Cut Inside : Type 0) → writing l.kind ≡ w
    → NodeIsWritten w k parent l (is_childless ts) (Cut × Inside) (IsWrittenGroup k parent l ts) → (Inside → AllStandAsIs ts (unranged_all ts))
    → StandsAsIs (tree l ts) (unranged (tree l ts))
node_stands AsText l ts k parent Cut Inside e h f = other_stands l ts (text_kind l.kind e).0 h.0.mark (childless_stand ts h.1)
node_stands AsVoid l ts k parent Cut Inside e h f = other_stands l ts (no_group l.kind (held parent l.kind h.1 h.2.element)) h.2.mark (f h.4.1)
node_stands RoundCharacter l ts k parent Cut Inside e h f = other_stands l ts (no_group l.kind (held parent l.kind h.1 h.2.element)) h.2.mark (f h.4.1)
node_stands RoundChildren l ts k parent Cut Inside e h f = other_stands l ts (no_group l.kind (held parent l.kind h.1 h.2.element)) h.2.mark (f h.4.1)
node_stands (AsSection n) l ts k parent Cut Inside e h f = absurd h
node_stands Unwritten l ts k parent Cut Inside e h f = group_stands l ts k parent h

mutual
  tree_stands : (t : Tree) (k : ℕ) (parent : Kind) → WrittenIn k parent t → StandsAsIs t (unranged t)
  tree_stands (tree l ts) k parent h = node_stands (writing l.kind) l ts k parent _ (AllWrittenIn (suc k) l.kind ts) refl h (λ w. trees_stand ts (suc k) l.kind w)

  trees_stand : (ts : Trees) (k : ℕ) (parent : Kind) → AllWrittenIn k parent ts → AllStandAsIs ts (unranged_all ts)
  trees_stand none k parent h = tt
  trees_stand (more t ts) k parent h = (tree_stands t k parent h.0, trees_stand ts k parent h.2)

-- ---- an edit as it comes from the page's HTML

abbrev mutual
  html_edit : Edited → Edited
  html_edit (stays t u) = stays t (unranged t)
  html_edit (edited k l m ps) = edited k l (label_read (record l { kind = kind_of k })) ps
  html_edit (round l m es) = round l (label_read l) (html_edits es)

  pub html_edits : Edits → Edits
  html_edits no_edits = no_edits
  html_edits (more_edits e es) = more_edits (html_edit e) (html_edits es)

mutual
  page_same : (e : Edited) → page_node (html_edit e) ≡ page_node e
  page_same (stays t u) = refl
  page_same (edited k l m ps) = refl
  page_same (round l m es) = ap (tree l) (pages_same es)

  pages_same : (es : Edits) → page_nodes (html_edits es) ≡ page_nodes es
  pages_same no_edits = refl
  pages_same (more_edits e es) = ap₂ more (page_same e) (pages_same es)

-- at each path it sends what the other one does
mutual
  at_same : (p : List ℕ) (e : Edited) → edited_at p (html_edit e) ≡ option_map html_edit (edited_at p e)
  at_same p (stays t u) = refl
  at_same [] (edited k l m ps) = refl
  at_same (i ∷ is) (edited k l m ps) = refl
  at_same [] (round l m es) = refl
  at_same (i ∷ is) (round l m es) = among_same i is es

  among_same : (i : ℕ) (is : List ℕ) (es : Edits) → edited_among i is (html_edits es) ≡ option_map html_edit (edited_among i is es)
  among_same i is no_edits = refl
  among_same zero is (more_edits e es) = at_same is e
  among_same (suc i) is (more_edits e es) = among_same i is es

by_same : (es : Edits) (p : List ℕ) → edited_by (html_edits es) p ≡ option_map html_edit (edited_by es p)
by_same es [] = refl
by_same es (i ∷ is) = among_same i is es

pieces_same : (o : Option Edited) → pieces_of (option_map html_edit o) ≡ pieces_of o
pieces_same None = refl
pieces_same (Some (stays t u)) = refl
pieces_same (Some (edited k l m ps)) = refl
pieces_same (Some (round l m es)) = refl

all_pieces_same : (es : Edits) (paths : List (List ℕ)) → map (λ p. pieces_of (edited_by (html_edits es) p)) paths ≡ map (λ p. pieces_of (edited_by es p)) paths
all_pieces_same es [] = refl
all_pieces_same es (p ∷ ps) =
    ap₂ (λ (x : Option Pieces) (xs : List (Option Pieces)). x ∷ xs) (ap pieces_of (by_same es p) ∙ pieces_same (edited_by es p)) (all_pieces_same es ps)

-- ---- it is sent so, and edits the same

none_edited : (es : Edits) → is_childless (page_nodes es) ≡ true → AreEdited (html_edits es)
none_edited no_edits e = tt
none_edited (more_edits d ds) e = absurd (cc e)

round_edited : (w : Writing) (l : Label) (es : Edits) (k : ℕ) (parent : Kind) (Cut Inside : Type 0) → is_group l.kind ≡ false
    → NodeIsWritten w k parent l (is_childless (page_nodes es)) (Cut × Inside) (IsWrittenGroup k parent l (page_nodes es)) → (Inside → AreEdited (html_edits es))
    → IsSentAsIs l (label_read l) × AreEdited (html_edits es)
round_edited AsText l es k parent Cut Inside g h f = (sent_as_is l h.0.mark, none_edited es h.1)
round_edited AsVoid l es k parent Cut Inside g h f = (sent_as_is l h.2.mark, f h.4.1)
round_edited RoundCharacter l es k parent Cut Inside g h f = (sent_as_is l h.2.mark, f h.4.1)
round_edited RoundChildren l es k parent Cut Inside g h f = (sent_as_is l h.2.mark, f h.4.1)
round_edited (AsSection n) l es k parent Cut Inside g h f = absurd h
round_edited Unwritten l es k parent Cut Inside g h f = absurd (let x : is_group l.kind ≡ true = ap is_group h.label.kind in cc)

mutual
  one_edited : (e : Edited) (k : ℕ) (parent : Kind) → WrittenIn k parent (page_node e) → IsOutside e → IsEdited e → IsEdited (html_edit e)
  one_edited (stays t u) k parent w o h = tree_stands t k parent w
  one_edited (edited j l m ps) k parent w o h = h
  one_edited (round l m es) k parent w o h =
      round_edited (writing l.kind) l es k parent _ (AllWrittenIn (suc k) l.kind (page_nodes es)) o.0 w (λ i. all_edited es (suc k) l.kind i o.1 h.1)

  all_edited : (es : Edits) (k : ℕ) (parent : Kind) → AllWrittenIn k parent (page_nodes es) → AreOutside es → AreEdited es → AreEdited (html_edits es)
  all_edited no_edits k parent w o h = tt
  all_edited (more_edits e es) k parent w o h = (one_edited e k parent w.0 o.0 h.0, all_edited es k parent w.2 o.1 h.1)

mutual
  one_only : (e : Edited) (ps : List (List ℕ)) → EditsOnly ps e → EditsOnly ps (html_edit e)
  one_only (stays t u) ps h = tt
  one_only (edited k l m qs) ps h = h
  one_only (round l m es) ps h = (h.0, all_only es ps h.1)

  all_only : (es : Edits) (ps : List (List ℕ)) → AllEditOnly ps es → AllEditOnly ps (html_edits es)
  all_only no_edits ps h = tt
  all_only (more_edits e es) ps h = (one_only e (first_paths ps) h.0, all_only es (other_paths ps) h.1)

spot_fits : (s : BlockSpot) (o : Option Edited) → FitsSpot s o → FitsSpot s (option_map html_edit o)
spot_fits s None h = tt
spot_fits s (Some (stays t u)) h = absurd h
spot_fits s (Some (edited k l m ps)) h = h
spot_fits s (Some (round l m es)) h = absurd h

all_fit : (ss : List BlockSpot) (es : Edits) (ps : List (List ℕ)) → AreFitting ss (map (edited_by es) ps) → AreFitting ss (map (edited_by (html_edits es)) ps)
all_fit [] es [] h = tt
all_fit [] es (p ∷ ps) h = absurd h
all_fit (s ∷ ss) es [] h = absurd h
all_fit (s ∷ ss) es (p ∷ ps) h = (subst (FitsSpot s) (sym (by_same es p)) (spot_fits s (edited_by es p) h.0), all_fit ss es ps h.1)

pub html_is_edit : (t : Tree) (ss : List BlockSpot) (paths : List (List ℕ)) (es : Edits) → IsWrittenBody t → AreOutside es → IsContentEdit t ss paths es
    → IsContentEdit t ss paths (html_edits es)
html_is_edit (tree l ts) ss paths es w o e = record {
  old = pages_same es ∙ e.old;
  sent = all_edited es 8 kind.Body (subst (AllWrittenIn 8 kind.Body) (sym e.old) w.2) o e.sent;
  edits = all_only es paths e.edits;
  fit = all_fit ss es paths e.fit;
}

-- ---- it comes from the page's HTML, where the chosen contents do

abbrev mutual
  HasRead : Edited → Type 0
  HasRead (stays t u) = Unit {0}
  HasRead (edited k l m ps) = AreApart (own_pieces ps) × ArePiecesRead ps
  HasRead (round l m es) = HaveRead es

  HaveRead : Edits → Type 0
  HaveRead no_edits = Unit {0}
  HaveRead (more_edits e es) = HasRead e × HaveRead es

mutual
  one_read : (e : Edited) → IsOutside e → HasRead e → IsRead (html_edit e)
  one_read (stays t u) o h = refl
  one_read (edited k l m ps) o h = (refl, h.0, h.1)
  one_read (round l m es) o h = (refl, o.0, all_read es o.1 h)

  all_read : (es : Edits) → AreOutside es → HaveRead es → AreRead (html_edits es)
  all_read no_edits o h = tt
  all_read (more_edits e es) o h = (one_read e o.0 h.0, all_read es o.1 h.1)

abbrev ReadAt : (List ℕ → Option Edited) → List (List ℕ) → Type 0
ReadAt f ps = AllByRecursion (λ p. IfRead (pieces_of (f p))) ps

first_read : (e : Edited) (es : Edits) (ps : List (List ℕ)) → ReadAt (edited_by (more_edits e es)) ps → ReadAt (λ p. edited_at p e) (first_paths ps)
first_read e es [] h = tt
first_read e es ([] ∷ ps) h = first_read e es ps h.1
first_read e es ((zero ∷ is) ∷ ps) h = (h.0, first_read e es ps h.1)
first_read e es ((suc i ∷ is) ∷ ps) h = first_read e es ps h.1

other_read : (e : Edited) (es : Edits) (ps : List (List ℕ)) → ReadAt (edited_by (more_edits e es)) ps → ReadAt (edited_by es) (other_paths ps)
other_read e es [] h = tt
other_read e es ([] ∷ ps) h = other_read e es ps h.1
other_read e es ((zero ∷ is) ∷ ps) h = other_read e es ps h.1
other_read e es ((suc i ∷ is) ∷ ps) h = (h.0, other_read e es ps h.1)

round_read : (l m : Label) (es : Edits) (ps : List (List ℕ)) → ReadAt (λ p. edited_at p (round l m es)) ps → ReadAt (edited_by es) ps
round_read l m es [] h = tt
round_read l m es ([] ∷ ps) h = (tt, round_read l m es ps h.1)
round_read l m es ((i ∷ is) ∷ ps) h = (h.0, round_read l m es ps h.1)

here_read : (k : Block) (l m : Label) (qs : Pieces) (ps : List (List ℕ)) → EndHere ps → ReadAt (λ p. edited_at p (edited k l m qs)) ps
    → AreApart (own_pieces qs) × ArePiecesRead qs
here_read k l m qs [] e h = absurd e
here_read k l m qs ([] ∷ ps) e h = h.0
here_read k l m qs ((i ∷ is) ∷ ps) e h = here_read k l m qs ps e h.1

mutual
  one_has : (e : Edited) (ps : List (List ℕ)) → EditsOnly ps e → ReadAt (λ p. edited_at p e) ps → HasRead e
  one_has (stays t u) ps h r = tt
  one_has (edited k l m qs) ps h r = here_read k l m qs ps h r
  one_has (round l m es) ps h r = all_have es ps h.1 (round_read l m es ps r)

  all_have : (es : Edits) (ps : List (List ℕ)) → AllEditOnly ps es → ReadAt (edited_by es) ps → HaveRead es
  all_have no_edits ps h r = tt
  all_have (more_edits e es) ps h r = (one_has e (first_paths ps) h.0 (first_read e es ps r), all_have es (other_paths ps) h.1 (other_read e es ps r))

-- by what is chosen
chosen_read : (es : Edits) (at : Choice) (ps : List (List ℕ)) → map (λ p. pieces_of (edited_by es p)) ps ≡ map at ps → AreChosenRead at ps → ReadAt (edited_by es) ps
chosen_read es at [] e h = tt
chosen_read es at (p ∷ ps) e h =
    let first : pieces_of (edited_by es p) ≡ at p = cc in
    let rest : map (λ q. pieces_of (edited_by es q)) ps ≡ map at ps = cc in
    (subst IfRead (sym first) h.0, chosen_read es at ps rest h.1)

pub html_is_read : (es : Edits) (at : Choice) (ps : List (List ℕ)) → AreOutside es → AllEditOnly ps es → map (λ p. pieces_of (edited_by es p)) ps ≡ map at ps
    → AreChosenRead at ps → AreRead (html_edits es)
html_is_read es at ps o only e h = all_read es o (all_have es ps only (chosen_read es at ps e h))

pub html_sends : (es : Edits) (at : Choice) (ps : List (List ℕ)) → map (λ p. pieces_of (edited_by es p)) ps ≡ map at ps
    → map (λ p. pieces_of (edited_by (html_edits es) p)) ps ≡ map at ps
html_sends es at ps e = all_pieces_same es ps ∙ e
