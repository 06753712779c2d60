-- Contents that are edited at the paths of places, and nowhere else, are sent for the blocks at the places, and all else stays.
use Rattle.std.proofs.Common.{◌≡◌, ℕ, zero, Option, None, List, [], ◌∷◌, ◌++◌, refl, sym, ap, ◌∙◌, subst}
use Rattle.wt_tree.specs.Tree.{Label, Tree, tree}
use Rattle.wt_part_laws.specs.Placeless.{placeless_label, placeless, all_placeless}
use Rattle.wt_typed_blocks.specs.Edited.{Edited, stays, edited, round, Edits, no_edits, more_edits, page_node, page_nodes}
use Rattle.wt_called_edit_laws.specs.AnyBlocks.{first_paths, other_paths, EndHere}
use Rattle.wt_called_edit_laws.specs.EditsAt.{edited_at, edited_by, EditsOnly, AllEditOnly}
use Rattle.wt_called_edit_laws.proofs.Cells.Equal.{same_first, same_rest}
use Rattle.wt_called_edit_laws.proofs.Cells.Nodes.{same_inside}
use Rattle.wt_part_laws.specs.TreeFrames.{spot, kept, holder, TreeFrames, no_nodes, more_nodes, all_filled, spots}
use Rattle.wt_called_edit_laws.specs.PathsTo.{past_one, all_past, all_inside, paths_to, AreEditedThere, PathsSend}
use Rattle.wt_called_edit_laws.specs.Sends.{BlockSent, NoneEdited, Sends, AllSend}

-- ---- none is empty

abbrev pub NoneEmpty : List (List ℕ) → Type 0
NoneEmpty [] = Unit {0}
NoneEmpty ([] ∷ ps) = ⊥
NoneEmpty ((i ∷ is) ∷ ps) = NoneEmpty ps

pub past_full : (ps : List (List ℕ)) → NoneEmpty ps → NoneEmpty (all_past ps)
past_full [] h = tt
past_full ([] ∷ ps) h = absurd h
past_full ((i ∷ is) ∷ ps) h = past_full ps h

inside_full : (ps qs : List (List ℕ)) → NoneEmpty qs → NoneEmpty (all_inside ps ++ qs)
inside_full [] qs h = h
inside_full (p ∷ ps) qs h = inside_full ps qs h

pub paths_full : (fs : TreeFrames) → NoneEmpty (paths_to fs)
paths_full no_nodes = tt
paths_full (more_nodes (spot n) fs) = past_full (paths_to fs) (paths_full fs)
paths_full (more_nodes (kept t) fs) = past_full (paths_to fs) (paths_full fs)
paths_full (more_nodes (holder l gs) fs) = inside_full (paths_to gs) (all_past (paths_to fs)) (past_full (paths_to fs) (paths_full fs))

-- ---- those through the first node, and through the others

first_past : (ps : List (List ℕ)) → first_paths (all_past ps) ≡ []
first_past [] = refl
first_past ([] ∷ ps) = first_past ps
first_past ((i ∷ is) ∷ ps) = first_past ps

other_past : (ps : List (List ℕ)) → NoneEmpty ps → other_paths (all_past ps) ≡ ps
other_past [] h = refl
other_past ([] ∷ ps) h = absurd h
other_past ((i ∷ is) ∷ ps) h = ap (λ (qs : List (List ℕ)). (i ∷ is) ∷ qs) (other_past ps h)

first_inside : (ps qs : List (List ℕ)) → first_paths (all_inside ps ++ all_past qs) ≡ ps
first_inside [] qs = first_past qs
first_inside (p ∷ ps) qs = ap (λ (rs : List (List ℕ)). p ∷ rs) (first_inside ps qs)

other_inside : (ps qs : List (List ℕ)) → NoneEmpty qs → other_paths (all_inside ps ++ all_past qs) ≡ qs
other_inside [] qs h = other_past qs h
other_inside (p ∷ ps) qs h = other_inside ps qs h

none_ends : (ps : List (List ℕ)) → NoneEmpty ps → EndHere ps → ⊥
none_ends [] h e = e
none_ends ([] ∷ ps) h e = h
none_ends ((i ∷ is) ∷ ps) h e = none_ends ps h e

-- ---- the texts there

by_past : (p : List ℕ) (s : Edited) (ss : Edits) → edited_by (more_edits s ss) (past_one p) ≡ edited_by ss p
by_past [] s ss = refl
by_past (i ∷ is) s ss = refl

there_past : (o : ℕ → Option Edited) (s : Edited) (ss : Edits) (ns : List ℕ) (ps : List (List ℕ)) → AreEditedThere o (more_edits s ss) ns (all_past ps)
    → AreEditedThere o ss ns ps
there_past o s ss [] ps h = tt
there_past o s ss (n ∷ ns) [] h = absurd h
there_past o s ss (n ∷ ns) (p ∷ ps) h = (h.0 ∙ by_past p s ss, there_past o s ss ns ps h.1)

by_inside : (p : List ℕ) (l m : Label) (rs ss : Edits) → edited_by (more_edits (round l m rs) ss) (zero ∷ p) ≡ edited_by rs p
by_inside [] l m rs ss = refl
by_inside (i ∷ is) l m rs ss = refl

-- those of the first places, and of the others, where there are as many paths as places
abbrev AsMany : List ℕ → List (List ℕ) → Type 0
AsMany [] [] = Unit {0}
AsMany [] (p ∷ ps) = ⊥
AsMany (n ∷ ns) [] = ⊥
AsMany (n ∷ ns) (p ∷ ps) = AsMany ns ps

past_many : (ns : List ℕ) (ps : List (List ℕ)) → AsMany ns ps → AsMany ns (all_past ps)
past_many [] [] h = tt
past_many [] (p ∷ ps) h = absurd h
past_many (n ∷ ns) [] h = absurd h
past_many (n ∷ ns) (p ∷ ps) h = past_many ns ps h

both_many : (ms ns : List ℕ) (ps qs : List (List ℕ)) → AsMany ms ps → AsMany ns qs → AsMany (ms ++ ns) (all_inside ps ++ qs)
both_many [] ns [] qs h g = g
both_many [] ns (p ∷ ps) qs h g = absurd h
both_many (m ∷ ms) ns [] qs h g = absurd h
both_many (m ∷ ms) ns (p ∷ ps) qs h g = both_many ms ns ps qs h g

paths_many : (fs : TreeFrames) → AsMany (spots fs) (paths_to fs)
paths_many no_nodes = tt
paths_many (more_nodes (spot n) fs) = past_many (spots fs) (paths_to fs) (paths_many fs)
paths_many (more_nodes (kept t) fs) = past_many (spots fs) (paths_to fs) (paths_many fs)
paths_many (more_nodes (holder l gs) fs) =
    both_many (spots gs) (spots fs) (paths_to gs) (all_past (paths_to fs)) (paths_many gs) (past_many (spots fs) (paths_to fs) (paths_many fs))

there_both : (o : ℕ → Option Edited) (es : Edits) (ms ns : List ℕ) (ps qs : List (List ℕ)) → AsMany ms ps → AreEditedThere o es (ms ++ ns) (all_inside ps ++ qs)
    → AreEditedThere o es ms (all_inside ps) × AreEditedThere o es ns qs
there_both o es [] ns [] qs m h = (tt, h)
there_both o es [] ns (p ∷ ps) qs m h = absurd m
there_both o es (n ∷ ms) ns [] qs m h = absurd m
there_both o es (n ∷ ms) ns (p ∷ ps) qs m h = let r = there_both o es ms ns ps qs m h.1 in ((h.0, r.0), r.1)

there_inside : (o : ℕ → Option Edited) (l m : Label) (rs ss : Edits) (ns : List ℕ) (ps : List (List ℕ))
    → AreEditedThere o (more_edits (round l m rs) ss) ns (all_inside ps) → AreEditedThere o rs ns ps
there_inside o l m rs ss [] ps h = tt
there_inside o l m rs ss (n ∷ ns) [] h = absurd h
there_inside o l m rs ss (n ∷ ns) (p ∷ ps) h = (h.0 ∙ by_inside p l m rs ss, there_inside o l m rs ss ns ps h.1)

none_there : (o : ℕ → Option Edited) (t u : Tree) (ss : Edits) (ns : List ℕ) (ps : List (List ℕ))
    → AreEditedThere o (more_edits (stays t u) ss) ns (all_inside ps) → NoneEdited o ns
none_there o t u ss [] ps h = tt
none_there o t u ss (n ∷ ns) [] h = absurd h
none_there o t u ss (n ∷ ns) (p ∷ ps) h = (h.0, none_there o t u ss ns ps h.1)

-- ---- what is sent

stays_so : (s : Edited) → EditsOnly [] s → BlockSent None s
stays_so (stays t u) h = tt
stays_so (edited k l m ps) h = h
stays_so (round l m ss) h = h.0

block_so : (s : Edited) (v : Option Edited) → EditsOnly ([] ∷ []) s → v ≡ edited_at [] s → BlockSent v s
block_so (stays t u) v h e = subst (λ (x : Option Edited). BlockSent x (stays t u)) (sym e) tt
block_so (edited k l m ps) v h e = subst (λ (y : Option Edited). BlockSent y (edited k l m ps)) (sym e) refl
block_so (round l m ss) v h e = absurd h.0

mutual
  one_so : (l : Label) (fs : TreeFrames) (o : ℕ → Option Edited) (b : ℕ → Tree) (s : Edited) (ss : Edits) → placeless (page_node s) ≡ tree l (all_filled b fs)
      → EditsOnly (paths_to fs) s → AreEditedThere o (more_edits s ss) (spots fs) (all_inside (paths_to fs)) → Sends o (holder l fs) s
  one_so l fs o b (stays t u) ss e h a = none_there o t u ss (spots fs) (paths_to fs) a
  one_so l fs o b (edited k m n ps) ss e h a = none_ends (paths_to fs) (paths_full fs) h
  one_so l fs o b (round m n rs) ss e h a =
      all_so fs o b rs (same_inside (placeless_label m) l (all_placeless (page_nodes rs)) (all_filled b fs) e) h.1
      (there_inside o m n rs ss (spots fs) (paths_to fs) a)

  all_so : (fs : TreeFrames) (o : ℕ → Option Edited) (b : ℕ → Tree) (es : Edits) → all_placeless (page_nodes es) ≡ all_filled b fs
      → AllEditOnly (paths_to fs) es → AreEditedThere o es (spots fs) (paths_to fs) → AllSend o fs es
  all_so no_nodes o b no_edits e h a = tt
  all_so no_nodes o b (more_edits s ss) e h a = cc
  all_so (more_nodes f fs) o b no_edits e h a = cc
  all_so (more_nodes (spot n) fs) o b (more_edits s ss) e h a =
      let qs : List (List ℕ) = paths_to fs in (
        block_so s (o n) (subst (λ (ps : List (List ℕ)). EditsOnly ([] ∷ ps) s) (first_past qs) h.0) a.0,
        all_so fs o b ss (same_rest (placeless (page_node s)) (b n) (all_placeless (page_nodes ss)) (all_filled b fs) e)
            (subst (λ (ps : List (List ℕ)). AllEditOnly ps ss) (other_past qs (paths_full fs)) h.1) (there_past o s ss (spots fs) qs a.1),
      )
  all_so (more_nodes (kept t) fs) o b (more_edits s ss) e h a =
      let qs : List (List ℕ) = paths_to fs in (
        stays_so s (subst (λ (ps : List (List ℕ)). EditsOnly ps s) (first_past qs) h.0),
        all_so fs o b ss (same_rest (placeless (page_node s)) t (all_placeless (page_nodes ss)) (all_filled b fs) e)
            (subst (λ (ps : List (List ℕ)). AllEditOnly ps ss) (other_past qs (paths_full fs)) h.1) (there_past o s ss (spots fs) qs a),
      )
  all_so (more_nodes (holder l gs) fs) o b (more_edits s ss) e h a =
      let ps : List (List ℕ) = paths_to gs in
      let qs : List (List ℕ) = paths_to fs in
      let r = there_both o (more_edits s ss) (spots gs) (spots fs) ps (all_past qs) (paths_many gs) a in (
        one_so l gs o b s ss (same_first (placeless (page_node s)) (tree l (all_filled b gs)) (all_placeless (page_nodes ss)) (all_filled b fs) e)
            (subst (λ (rs : List (List ℕ)). EditsOnly rs s) (first_inside ps qs) h.0) r.0,
        all_so fs o b ss (same_rest (placeless (page_node s)) (tree l (all_filled b gs)) (all_placeless (page_nodes ss)) (all_filled b fs) e)
            (subst (λ (rs : List (List ℕ)). AllEditOnly rs ss) (other_inside ps qs (paths_full fs)) h.1) (there_past o s ss (spots fs) qs r.1),
      )

pub paths_send : (fs : TreeFrames) (o : ℕ → Option Edited) (b : ℕ → Tree) (es : Edits) → PathsSend fs o b es
paths_send fs o b es e h a = all_so fs o b es e h a
