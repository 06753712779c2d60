-- An edit of contents of blocks that sends all else as it stands passes the checks.
use Rattle.std.proofs.Common.{◌≡◌, ℕ, Bool, true, false, List, [], ◌∷◌, ◌++◌, refl, sym, ap, ◌∙◌, subst, inl, inr}
use Rattle.std.specs.Prelude.{◌==◌, ◌&&◌, ◌||◌, not, if◌then◌else◌, Option, Some, None, MatchOption}
use Rattle.std.specs.List.{AllByRecursion}
use Rattle.wt_tree.specs.declared.kind.Kind.{Kind}
use Rattle.wt_tree.specs.declared.kind.Kind.TheVariants as kind
use Rattle.wt_tree.specs.declared.kind.Mark.{Mark}
use Rattle.wt_tree.specs.declared.kind.Mark.TheVariants as marks
use Rattle.wt_tree.specs.declared.kind.Showing.TheVariants.{Characters}
use Rattle.wt_tree.specs.Kinds.{showing, writing}
use Rattle.wt_tree.specs.Tiling.{is_group, InPreorder}
use Rattle.wt_tree.specs.Tree.{Label, Tree, tree, Trees, none, more, label}
use Rattle.wt_checks.specs.Checked.{checked}
use Rattle.wt_checks.specs.Groups.{is_marked, has_mark, have_mark}
use Rattle.wt_checks.specs.Kept.{IsSublist, kept_under, InOrder, GroupAsItWas, HoldsTheSame, NodeAsItWas, GroupKept, NodeKept, MarkKept, Kept}
use Rattle.wt_checks.specs.Marks.{editing, allows}
use Rattle.wt_checks.specs.Places.{Place, placed, all_placed, places, number, kind_at, is_kept, is_body, is_content, Page, page_of, parent_below}
use Rattle.wt_checks.specs.PutBack.{is_frame, has_frame, have_frame}
use Rattle.wt_checks.specs.Unmarked.{Entry, text as entry_text, child as entry_child, is_compared, entry_by, entry, entries, own_character}
use Rattle.wt_checks.proofs.Found.{Itself, each_itself, found_root}
use Rattle.wt_checks.proofs.Frames.{no_frame, bare_root}
use Rattle.wt_checks.proofs.InOrder.{not_zero_kept}
use Rattle.wt_checks.proofs.Lookups.{each_split, each_join}
use Rattle.wt_checks.proofs.Repeated.{or_false}
use Rattle.wt_checks.proofs.WhatIsKept.{increasing, unrefused}
use Rattle.wt_typed_blocks.specs.Sent.{IsSentAsIs, GroupIsSent, StandsAsIs, AllStandAsIs, Block, paragraph, heading, kind_of}
use Rattle.wt_typed_blocks.specs.Edited.{Pieces, no_pieces, gone, written, kept, around, new_style, as_new, page_pieces, text_node, sent_pieces, PiecesStay, Edited, stays, edited, round, Edits, no_edits, more_edits, page_node, page_nodes, sent_node, sent_nodes, IsEdited, AreEdited, IsOutside, AreOutside, page_body, sent_body}
use Rattle.wt_typed_blocks.proofs.SentFrames.{pieces_markless}
use Rattle.wt_typed_blocks.proofs.SentGroups.{in_group, style_ungrouped, placed_appended, no_mark, all_new, new_under, new_groups, new_nodes}

-- ---- numbers in their order

pub more_sublist : (xs us vs : List ℕ) → IsSublist xs vs → IsSublist xs (us ++ vs)
more_sublist [] us vs h = tt
more_sublist (x ∷ xs) [] vs h = h
more_sublist (x ∷ xs) (u ∷ us) vs h = inr (more_sublist (x ∷ xs) us vs h)

both_sublists : (xs ys us vs : List ℕ) → IsSublist xs us → IsSublist ys vs → IsSublist (xs ++ ys) (us ++ vs)
both_sublists [] ys us vs h k = more_sublist ys us vs k
both_sublists (x ∷ xs) ys [] vs h k = absurd h
both_sublists (x ∷ xs) ys (u ∷ us) vs (inl h) k = inl (h.0, both_sublists xs ys us vs h.1 k)
both_sublists (x ∷ xs) ys (u ∷ us) vs (inr h) k = inr (both_sublists (x ∷ xs) ys us vs h k)

join_by : (b : Bool) (m : ℕ) (ms all ns : List ℕ) → all ≡ ms ++ ns → (if b then m ∷ all else all) ≡ (if b then m ∷ ms else ms) ++ ns
join_by true m ms all ns e = ap (λ ks. m ∷ ks) e
join_by false m ms all ns e = e

pub under_join : (n : ℕ) (ps qs : List Place) → kept_under n (ps ++ qs) ≡ kept_under n ps ++ kept_under n qs
under_join n [] qs = refl
under_join n (p ∷ ps) qs = join_by (is_kept p && p.parent == n) (number p) (kept_under n ps) (kept_under n (ps ++ qs)) (kept_under n qs) (under_join n ps qs)

pub both_joined : (n : ℕ) (ps qs rs zs : List Place) → IsSublist (kept_under n ps) (kept_under n rs) → IsSublist (kept_under n qs) (kept_under n zs)
    → IsSublist (kept_under n (ps ++ qs)) (kept_under n (rs ++ zs))
both_joined n ps qs rs zs h k =
    subst (λ (xs : List ℕ). IsSublist xs (kept_under n (rs ++ zs))) (sym (under_join n ps qs))
    (subst (λ (xs : List ℕ). IsSublist (kept_under n ps ++ kept_under n qs) xs) (sym (under_join n rs zs))
    (both_sublists (kept_under n ps) (kept_under n qs) (kept_under n rs) (kept_under n zs) h k))

both_under : (b : Bool) (i : ℕ) (xs ys : List ℕ) → IsSublist xs ys → IsSublist (if b then i ∷ xs else xs) (if b then i ∷ ys else ys)
both_under true i xs ys h = inl (refl, h)
both_under false i xs ys h = h

-- of nodes of which none has a number none is there
none_sublist : (xs ys : List ℕ) → xs ≡ [] → IsSublist xs ys
none_sublist xs ys e = subst (λ (zs : List ℕ). IsSublist zs ys) (sym e) tt

-- a node that is sent as it is, but for what it holds
holder_under : (n m : ℕ) (v w : Bool) (l k : Label) (ts us : Trees) → IsSentAsIs l k
    → IsSublist (kept_under n (all_placed (parent_below m l.id) (w || is_content k.mark) us)) (kept_under n (all_placed (parent_below m l.id) (v || is_content l.mark) ts))
    → IsSublist (kept_under n (placed m w (tree k us))) (kept_under n (placed m v (tree l ts)))
holder_under n m v w l k ts us h some =
    let c : Bool = w || is_content k.mark in
    let d : Bool = v || is_content l.mark in
    let ys : List ℕ = kept_under n (all_placed (parent_below m l.id) d ts) in
    let P : ℕ → Type 0 = λ i. IsSublist
    (if not (i == 0) && m == n then i ∷ kept_under n (all_placed (parent_below m i) c us) else kept_under n (all_placed (parent_below m i) c us))
    (if not (l.id == 0) && m == n then l.id ∷ ys else ys) in
    subst P (sym h.id) (both_under (not (l.id == 0) && m == n) l.id (kept_under n (all_placed (parent_below m l.id) c us)) ys some)

mutual
  pub some_under : (n m : ℕ) (v w : Bool) (t u : Tree) → StandsAsIs t u → IsSublist (kept_under n (placed m w u)) (kept_under n (placed m v t))
  some_under n m v w (tree l ts) (tree k us) h =
      let c : Bool = w || is_content k.mark in
      let d : Bool = v || is_content l.mark in
      let ys : List ℕ = kept_under n (all_placed (parent_below m l.id) d ts) in
      holder_under n m v w l k ts us h.0
      (in_group (is_group l.kind) h.1
      (λ e g. none_sublist (kept_under n (all_placed (parent_below m l.id) c us)) ys
      (new_under n (all_placed (parent_below m l.id) c us) (all_new (parent_below m l.id) c us g.unnumbered g.unframed)))
      (λ e a. all_some_under n (parent_below m l.id) d c ts us a))

  all_some_under : (n m : ℕ) (v w : Bool) (ts us : Trees) → AllStandAsIs ts us → IsSublist (kept_under n (all_placed m w us)) (kept_under n (all_placed m v ts))
  all_some_under n m v w none none h = tt
  all_some_under n m v w none (more u us) h = absurd h
  all_some_under n m v w (more t ts) none h = absurd h
  all_some_under n m v w (more t ts) (more u us) h =
      both_joined n (placed m w u) (all_placed m w us) (placed m v t) (all_placed m v ts) (some_under n m v w t u h.0) (all_some_under n m v w ts us h.1)

-- of a content: a text has no number, and what isn't sent is missing
text_under : (n m : ℕ) (w : Bool) (x : Label) (text : List ℕ) (us : Trees)
    → kept_under n (all_placed m w (text_node x text us)) ≡ kept_under n (all_placed m w us)
text_under n m w x [] us = refl
text_under n m w x (b ∷ bs) us = refl

pieces_under : (n m : ℕ) (v w : Bool) (ps : Pieces) → PiecesStay ps
    → IsSublist (kept_under n (all_placed m w (sent_pieces ps))) (kept_under n (all_placed m v (page_pieces ps)))
pieces_under n m v w no_pieces h = tt
pieces_under n m v w (gone t ps) h =
    let own : List ℕ = kept_under n (all_placed m w (sent_pieces ps)) in
    let others : List ℕ = kept_under n (all_placed m v (page_pieces ps)) in
    subst (λ (xs : List ℕ). IsSublist own xs) (sym (under_join n (placed m v t) (all_placed m v (page_pieces ps))))
    (more_sublist own (kept_under n (placed m v t)) others (pieces_under n m v w ps h))
pieces_under n m v w (written x text ps) h =
    subst (λ (xs : List ℕ). IsSublist xs (kept_under n (all_placed m v (page_pieces ps)))) (sym (text_under n m w x text (sent_pieces ps)))
    (pieces_under n m v w ps h)
pieces_under n m v w (kept t u ps) h =
    both_joined n (placed m w u) (all_placed m w (sent_pieces ps)) (placed m v t) (all_placed m v (page_pieces ps)) (some_under n m v w t u h.0)
    (pieces_under n m v w ps h.1)
pieces_under n m v w (around l k is ps) h =
    let c : Bool = w || is_content k.mark in
    let d : Bool = v || is_content l.mark in
    both_joined n (placed m w (tree k (sent_pieces is))) (all_placed m w (sent_pieces ps)) (placed m v (tree l (page_pieces is))) (all_placed m v (page_pieces ps))
    (holder_under n m v w l k (page_pieces is) (sent_pieces is) h.1 (pieces_under n (parent_below m l.id) d c is h.2)) (pieces_under n m v w ps h.3)
pieces_under n m v w (new_style k is ps) h =
    let new : List Place = placed m w (tree (as_new k) (sent_pieces is)) in
    let ts : List Place = all_placed m v (page_pieces is) in
    let us : List Place = all_placed m v (page_pieces ps) in
    subst (λ (ys : List Place). IsSublist (kept_under n (new ++ all_placed m w (sent_pieces ps))) (kept_under n ys))
    (sym (placed_appended m v (page_pieces is) (page_pieces ps)))
    (both_joined n new (all_placed m w (sent_pieces ps)) ts us (pieces_under n m v (w || false) is h.1) (pieces_under n m v w ps h.2))

mutual
  child_under : (n m : ℕ) (v w : Bool) (s : Edited) → IsEdited s → IsSublist (kept_under n (placed m w (sent_node s))) (kept_under n (placed m v (page_node s)))
  child_under n m v w (stays t u) h = some_under n m v w t u h
  child_under n m v w (edited k l p ps) h =
      both_under (not (l.id == 0) && m == n) l.id (kept_under n (all_placed (parent_below m l.id) (w || true) (sent_pieces ps)))
      (kept_under n (all_placed (parent_below m l.id) (v || is_content l.mark) (page_pieces ps)))
      (pieces_under n (parent_below m l.id) (v || is_content l.mark) (w || true) ps h.1)
  child_under n m v w (round l k ss) h =
      holder_under n m v w l k (page_nodes ss) (sent_nodes ss) h.0
      (children_under n (parent_below m l.id) (v || is_content l.mark) (w || is_content k.mark) ss h.1)

  children_under : (n m : ℕ) (v w : Bool) (ss : Edits) → AreEdited ss
      → IsSublist (kept_under n (all_placed m w (sent_nodes ss))) (kept_under n (all_placed m v (page_nodes ss)))
  children_under n m v w no_edits h = tt
  children_under n m v w (more_edits s ss) h =
      both_joined n (placed m w (sent_node s)) (all_placed m w (sent_nodes ss)) (placed m v (page_node s)) (all_placed m v (page_nodes ss))
      (child_under n m v w s h.0) (children_under n m v w ss h.1)

ordered : (l b : Label) (ss : Edits) → AreEdited ss → InOrder (places (page_body l ss)) (places (sent_body l b ss))
ordered l b ss h = λ n. children_under n 0 (is_content l.mark) false ss h

-- ---- nodes as they were

own_same : (k : Kind) (s z : List ℕ) → (showing k ≡ Characters → z ≡ s) → own_character (writing k) s ≡ own_character (writing k) z
own_same kind.Entity s z f = sym (f refl)
own_same k s z f = refl

one_entry : (k : Kind) (l m : Label) (es fs : List Entry) → m.id ≡ l.id → (showing k ≡ Characters → m.shown ≡ l.shown) → es ≡ fs
    → (if is_compared (showing k) then entry_by (writing k) l ∷ es else es) ≡ (if is_compared (showing k) then entry_by (writing k) m ∷ fs else fs)
one_entry kind.Text l m es fs i f e = ap (λ (z : List ℕ). entry_text z ∷ es) (sym (f refl)) ∙ ap (λ (zs : List Entry). entry_text m.shown ∷ zs) e
one_entry kind.Sep l m es fs i f e = e
one_entry kind.Comment l m es fs i f e = e
one_entry kind.Include l m es fs i f e = e
one_entry kind.Skip l m es fs i f e = e
one_entry kind.Empty l m es fs i f e = e
one_entry k l m es fs i f e = ap (λ (z : ℕ). entry_child z ∷ es) (sym i) ∙ ap (λ (zs : List Entry). entry_child m.id ∷ zs) e

label_entry : (l m : Label) (es fs : List Entry) → IsSentAsIs l m → es ≡ fs
    → (if is_compared (showing l.kind) then entry l ∷ es else es) ≡ (if is_compared (showing m.kind) then entry m ∷ fs else fs)
label_entry l m es fs h e =
    one_entry l.kind l m es fs h.id h.shown e
    ∙ ap (λ (k : Kind). if is_compared (showing k) then entry_by (writing k) m ∷ fs else fs) (sym h.kind)

entry_same : (t u : Tree) (es fs : List Entry) → StandsAsIs t u → es ≡ fs
    → (if is_compared (showing (label t).kind) then entry (label t) ∷ es else es) ≡ (if is_compared (showing (label u).kind) then entry (label u) ∷ fs else fs)
entry_same (tree l ts) (tree m us) es fs h e = label_entry l m es fs h.0 e

entries_same : (ts us : Trees) → AllStandAsIs ts us → entries ts ≡ entries us
entries_same none none h = refl
entries_same none (more u us) h = absurd h
entries_same (more t ts) none h = absurd h
entries_same (more t ts) (more u us) h = entry_same t u (entries ts) (entries us) h.0 (entries_same ts us h.1)

as_it_was : (l m : Label) (ts us : Trees) → IsSentAsIs l m → entries ts ≡ entries us → have_frame ts ≡ false → NodeAsItWas (tree l ts) (tree m us)
as_it_was l m ts us s e f =
    let holds : HoldsTheSame (tree l ts) (tree m us) = record {
      character = own_same l.kind l.shown m.shown s.shown ∙ ap (λ (k : Kind). own_character (writing k) m.shown) (sym s.kind);
      held = ap entries (bare_root (tree l ts) f) ∙ e;
    } in
    record { kind = sym s.kind; attrs = sym s.attrs; mw = inr (sym s.mw); holds = inr holds }

pub kept_by : (page : Page) (p q : Place) → page (number p) ≡ Some q → NodeAsItWas q.node p.node → NodeKept page p
kept_by page p q e h = λ a b. subst (λ (o : Option Place). MatchOption o (Unit {0}) (λ r. is_group (kind_at r) ≡ false → NodeAsItWas r.node p.node)) (sym e) (λ g. h)

kept_of : (a b : Bool) → (a || b) ≡ true → b ≡ false → a ≡ true
kept_of true b e f = refl
kept_of false b e f = absurd (cc)

-- a node that stands is found by its number
found_sent : (page : Page) (i : ℕ) (v : Bool) (l m : Label) (ts : Trees) → IsSentAsIs l m → Itself page (record { node = tree l ts; parent = i; in_content = v })
    → not (m.id == 0) ≡ true → page m.id ≡ Some (record { node = tree l ts; parent = i; in_content = v })
found_sent page i v l m ts s it k = ap page s.id ∙ it (ap (λ (n : ℕ). not (n == 0)) (sym s.id) ∙ k)

kept_sent : (l m : Label) → IsSentAsIs l m → is_frame l.kind ≡ false → (not (m.id == 0) || is_body m.kind) ≡ true → not (m.id == 0) ≡ true
kept_sent l m s f a = kept_of (not (m.id == 0)) (is_body m.kind) a (ap is_body s.kind ∙ (no_frame l.kind f).0)

node_kept : (page : Page) (i j : ℕ) (v w : Bool) (l m : Label) (ts us : Trees) → IsSentAsIs l m → entries ts ≡ entries us → is_frame l.kind ≡ false
    → have_frame ts ≡ false → Itself page (record { node = tree l ts; parent = i; in_content = v })
    → NodeKept page (record { node = tree m us; parent = j; in_content = w })
node_kept page i j v w l m ts us s h f d it = λ a b.
    kept_by page (record { node = tree m us; parent = j; in_content = w }) (record { node = tree l ts; parent = i; in_content = v })
    (found_sent page i v l m ts s it (kept_sent l m s f a)) (as_it_was l m ts us s h d) a b

-- a group is asked otherwise
group_no_node : (page : Page) (i j : ℕ) (v w : Bool) (l m : Label) (ts us : Trees) → IsSentAsIs l m → is_group l.kind ≡ true → is_frame l.kind ≡ false
    → Itself page (record { node = tree l ts; parent = i; in_content = v }) → NodeKept page (record { node = tree m us; parent = j; in_content = w })
group_no_node page i j v w l m ts us s e f it = λ a b.
    subst (λ (o : Option Place). MatchOption o (Unit {0}) (λ r. is_group (kind_at r) ≡ false → NodeAsItWas r.node (tree m us)))
    (sym (found_sent page i v l m ts s it (kept_sent l m s f a))) (λ x. let d : is_group l.kind ≡ false = x in absurd (cc))

mutual
  pub nodes_kept : (page : Page) (i j : ℕ) (v w : Bool) (t u : Tree) → StandsAsIs t u → has_frame t ≡ false → AllByRecursion (Itself page) (placed i v t)
      → AllByRecursion (NodeKept page) (placed j w u)
  nodes_kept page i j v w (tree l ts) (tree m us) h f it =
      let d = or_false (is_frame l.kind) (have_frame ts) f in
      let c : Bool = w || is_content m.mark in
      in_group (is_group l.kind) h.1
      (λ e g. (
        group_no_node page i j v w l m ts us h.0 e d.0 it.0,
        new_nodes page (all_placed (parent_below j m.id) c us) (all_new (parent_below j m.id) c us g.unnumbered g.unframed),
      ))
      (λ e a. (
        node_kept page i j v w l m ts us h.0 (entries_same ts us a) d.0 d.1 it.0,
        all_nodes_kept page (parent_below i l.id) (parent_below j m.id) (v || is_content l.mark) c ts us a d.1 it.1,
      ))

  all_nodes_kept : (page : Page) (i j : ℕ) (v w : Bool) (ts us : Trees) → AllStandAsIs ts us → have_frame ts ≡ false
      → AllByRecursion (Itself page) (all_placed i v ts) → AllByRecursion (NodeKept page) (all_placed j w us)
  all_nodes_kept page i j v w none none h f it = tt
  all_nodes_kept page i j v w none (more u us) h f it = absurd h
  all_nodes_kept page i j v w (more t ts) none h f it = absurd h
  all_nodes_kept page i j v w (more t ts) (more u us) h f it =
      let d = or_false (has_frame t) (have_frame ts) f in
      let s = each_split (Itself page) (placed i v t) (all_placed i v ts) it in
      each_join (NodeKept page) (placed j w u) (all_placed j w us) (nodes_kept page i j v w t u h.0 d.0 s.0) (all_nodes_kept page i j v w ts us h.1 d.1 s.1)

-- of what is in a content that is edited nothing is asked
mutual
  free_inside : (page : Page) (j : ℕ) (u : Tree) → AllByRecursion (NodeKept page) (placed j true u)
  free_inside page j (tree m us) = (λ a b. absurd (cc), all_free_inside page (parent_below j m.id) us)

  all_free_inside : (page : Page) (j : ℕ) (us : Trees) → AllByRecursion (NodeKept page) (all_placed j true us)
  all_free_inside page j none = tt
  all_free_inside page j (more u us) = each_join (NodeKept page) (placed j true u) (all_placed j true us) (free_inside page j u) (all_free_inside page j us)

or_true : (b : Bool) → (b || true) ≡ true
or_true true = refl
or_true false = refl

mutual
  child_entry : (s : Edited) (es fs : List Entry) → IsEdited s → es ≡ fs
      → (if is_compared (showing (label (page_node s)).kind) then entry (label (page_node s)) ∷ es else es)
      ≡ (if is_compared (showing (label (sent_node s)).kind) then entry (label (sent_node s)) ∷ fs else fs)
  child_entry (stays t u) es fs h e = entry_same t u es fs h e
  child_entry (edited paragraph l m ps) es fs h e = ap (λ (zs : List Entry). entry_child l.id ∷ zs) e
  child_entry (edited (heading n) l m ps) es fs h e = ap (λ (zs : List Entry). entry_child l.id ∷ zs) e
  child_entry (round l m ss) es fs h e = label_entry l m es fs h.0 e

  child_entries : (ss : Edits) → AreEdited ss → entries (page_nodes ss) ≡ entries (sent_nodes ss)
  child_entries no_edits h = refl
  child_entries (more_edits s ss) h = child_entry s (entries (page_nodes ss)) (entries (sent_nodes ss)) h.0 (child_entries ss h.1)

mutual
  child_kept : (page : Page) (i j : ℕ) (v w : Bool) (s : Edited) → IsEdited s → has_frame (page_node s) ≡ false → AllByRecursion (Itself page) (placed i v (page_node s))
      → AllByRecursion (NodeKept page) (placed j w (sent_node s))
  child_kept page i j v w (stays t u) h f it = nodes_kept page i j v w t u h f it
  child_kept page i j v w (edited k l m ps) h f it =
      let old : Tree = page_node (edited k l m ps) in
      let new : Tree = sent_node (edited k l m ps) in
      let was : NodeAsItWas old new = record { kind = refl; attrs = refl; mw = inr refl; holds = inl refl } in (
        kept_by page (record { node = new; parent = j; in_content = w }) (record { node = old; parent = i; in_content = v }) (it.0 (not_zero_kept l.id h.0)) was,
        subst (λ (b : Bool). AllByRecursion (NodeKept page) (all_placed (parent_below j l.id) b (sent_pieces ps))) (sym (or_true w))
            (all_free_inside page (parent_below j l.id) (sent_pieces ps)),
      )
  child_kept page i j v w (round l m ss) h f it =
      let d = or_false (is_frame l.kind) (have_frame (page_nodes ss)) f in (
        node_kept page i j v w l m (page_nodes ss) (sent_nodes ss) h.0 (child_entries ss h.1) d.0 d.1 it.0,
        children_kept page (parent_below i l.id) (parent_below j m.id) (v || is_content l.mark) (w || is_content m.mark) ss h.1 d.1 it.1,
      )

  children_kept : (page : Page) (i j : ℕ) (v w : Bool) (ss : Edits) → AreEdited ss → have_frame (page_nodes ss) ≡ false
      → AllByRecursion (Itself page) (all_placed i v (page_nodes ss)) → AllByRecursion (NodeKept page) (all_placed j w (sent_nodes ss))
  children_kept page i j v w no_edits h f it = tt
  children_kept page i j v w (more_edits s ss) h f it =
      let d = or_false (has_frame (page_node s)) (have_frame (page_nodes ss)) f in
      let p = each_split (Itself page) (placed i v (page_node s)) (all_placed i v (page_nodes ss)) it in
      each_join (NodeKept page) (placed j w (sent_node s)) (all_placed j w (sent_nodes ss)) (child_kept page i j v w s h.0 d.0 p.0)
      (children_kept page i j v w ss h.1 d.1 p.1)

-- what is found by its number in the page
pub found : (l : Label) (ss : Edits) → InPreorder (page_body l ss)
    → AllByRecursion (Itself (page_of (page_body l ss))) (all_placed 0 (is_content l.mark) (page_nodes ss))
found l ss pre = (each_itself (places (page_body l ss)) (increasing (page_body l ss) refl pre)).1

nodes_stand : (l b : Label) (ss : Edits) → InPreorder (page_body l ss) → have_frame (page_nodes ss) ≡ false → AreEdited ss
    → AllByRecursion (NodeKept (page_of (page_body l ss))) (places (sent_body l b ss))
nodes_stand l b ss pre f h =
    let t : Tree = page_body l ss in
    let u : Tree = sent_body l b ss in
    let holds : HoldsTheSame t u = record { character = refl; held = ap entries (bare_root t f) ∙ child_entries ss h } in
    let was : NodeAsItWas t u = record { kind = refl; attrs = refl; mw = inr refl; holds = inr holds } in (
      kept_by (page_of t) (record { node = u; parent = 0; in_content = false }) (record { node = t; parent = 0; in_content = false }) (found_root t refl) was,
      children_kept (page_of t) 0 0 (is_content l.mark) false ss h f (found l ss pre),
    )

-- ---- groups as they were

group_by : (page : Page) (p q : Place) → (is_kept p ≡ true → page (number p) ≡ Some q) → (is_group (kind_at q) ≡ true → GroupAsItWas false q.node p.node)
    → GroupKept false page p
group_by page p q f h = λ k.
    subst (λ (o : Option Place). MatchOption o (Unit {0}) (λ r. is_group (kind_at r) ≡ true → GroupAsItWas false r.node p.node)) (sym (f k)) h

no_group_by : (page : Page) (p q : Place) → (is_kept p ≡ true → page (number p) ≡ Some q) → is_group (kind_at q) ≡ false → GroupKept false page p
no_group_by page p q f e = group_by page p q f (λ x. absurd (cc))

group_was : (l m : Label) (ts us : Trees) → IsSentAsIs l m → is_group l.kind ≡ true → GroupIsSent l ts us → GroupAsItWas false (tree l ts) (tree m us)
group_was l m ts us s e g = record {
  unmarked = ap (λ (c : Mark). is_marked c || have_mark us) s.unmarked ∙ g.unmarked;
  group = ap is_group s.kind ∙ e;
  attrs = sym s.attrs;
  elements = g.elements;
  mw = inr (sym s.mw);
}

mutual
  pub groups_kept : (page : Page) (i j : ℕ) (v w : Bool) (t u : Tree) → StandsAsIs t u → AllByRecursion (Itself page) (placed i v t)
      → AllByRecursion (GroupKept false page) (placed j w u)
  groups_kept page i j v w (tree l ts) (tree m us) h it =
      let old : Place = record { node = tree l ts; parent = i; in_content = v } in
      let new : Place = record { node = tree m us; parent = j; in_content = w } in
      let c : Bool = w || is_content m.mark in
      in_group (is_group l.kind) h.1
      (λ e g. (
        group_by page new old (found_sent page i v l m ts h.0 it.0) (λ x. group_was l m ts us h.0 e g),
        new_groups page (all_placed (parent_below j m.id) c us) (all_new (parent_below j m.id) c us g.unnumbered g.unframed),
      ))
      (λ e a. (
        no_group_by page new old (found_sent page i v l m ts h.0 it.0) e,
        all_groups_kept page (parent_below i l.id) (parent_below j m.id) (v || is_content l.mark) c ts us a it.1,
      ))

  all_groups_kept : (page : Page) (i j : ℕ) (v w : Bool) (ts us : Trees) → AllStandAsIs ts us → AllByRecursion (Itself page) (all_placed i v ts)
      → AllByRecursion (GroupKept false page) (all_placed j w us)
  all_groups_kept page i j v w none none h it = tt
  all_groups_kept page i j v w none (more u us) h it = absurd h
  all_groups_kept page i j v w (more t ts) none h it = absurd h
  all_groups_kept page i j v w (more t ts) (more u us) h it =
      let s = each_split (Itself page) (placed i v t) (all_placed i v ts) it in
      each_join (GroupKept false page) (placed j w u) (all_placed j w us) (groups_kept page i j v w t u h.0 s.0) (all_groups_kept page i j v w ts us h.1 s.1)

text_ungrouped : (page : Page) (j : ℕ) (w : Bool) (x : Label) (text : List ℕ) (us : Trees) → AllByRecursion (GroupKept false page) (all_placed j w us)
    → AllByRecursion (GroupKept false page) (all_placed j w (text_node x text us))
text_ungrouped page j w x [] us h = h
text_ungrouped page j w x (c ∷ cs) us h = (λ k. absurd (cc), h)

pieces_groups : (page : Page) (i j : ℕ) (v w : Bool) (ps : Pieces) → PiecesStay ps → AllByRecursion (Itself page) (all_placed i v (page_pieces ps))
    → AllByRecursion (GroupKept false page) (all_placed j w (sent_pieces ps))
pieces_groups page i j v w no_pieces h it = tt
pieces_groups page i j v w (gone t ps) h it =
    let s = each_split (Itself page) (placed i v t) (all_placed i v (page_pieces ps)) it in pieces_groups page i j v w ps h s.1
pieces_groups page i j v w (written x text ps) h it = text_ungrouped page j w x text (sent_pieces ps) (pieces_groups page i j v w ps h it)
pieces_groups page i j v w (kept t u ps) h it =
    let s = each_split (Itself page) (placed i v t) (all_placed i v (page_pieces ps)) it in
    each_join (GroupKept false page) (placed j w u) (all_placed j w (sent_pieces ps)) (groups_kept page i j v w t u h.0 s.0)
    (pieces_groups page i j v w ps h.1 s.1)
pieces_groups page i j v w (around l m is ps) h it =
    let old : Tree = tree l (page_pieces is) in
    let new : Tree = tree m (sent_pieces is) in
    let s = each_split (Itself page) (placed i v old) (all_placed i v (page_pieces ps)) it in
    each_join (GroupKept false page) (placed j w new) (all_placed j w (sent_pieces ps)) (
      no_group_by page (record { node = new; parent = j; in_content = w }) (record { node = old; parent = i; in_content = v })
          (found_sent page i v l m (page_pieces is) h.1 s.0.0) (style_ungrouped l.kind h.0),
      pieces_groups page (parent_below i l.id) (parent_below j m.id) (v || is_content l.mark) (w || is_content m.mark) is h.2 s.0.1,
    )
    (pieces_groups page i j v w ps h.3 s.1)
pieces_groups page i j v w (new_style m is ps) h it =
    let s = each_split (Itself page) (all_placed i v (page_pieces is)) (all_placed i v (page_pieces ps))
    (subst (AllByRecursion (Itself page)) (placed_appended i v (page_pieces is) (page_pieces ps)) it) in
    each_join (GroupKept false page) (placed j w (tree (as_new m) (sent_pieces is))) (all_placed j w (sent_pieces ps))
    ((λ k. absurd (cc)), pieces_groups page i j v (w || false) is h.1 s.0) (pieces_groups page i j v w ps h.2 s.1)

block_ungrouped : (k : Block) → is_group (kind_of k) ≡ false
block_ungrouped paragraph = refl
block_ungrouped (heading n) = refl

mutual
  child_groups : (page : Page) (i j : ℕ) (v w : Bool) (s : Edited) → IsEdited s → IsOutside s → AllByRecursion (Itself page) (placed i v (page_node s))
      → AllByRecursion (GroupKept false page) (placed j w (sent_node s))
  child_groups page i j v w (stays t u) h o it = groups_kept page i j v w t u h it
  child_groups page i j v w (edited k l m ps) h o it =
      let old : Tree = page_node (edited k l m ps) in
      let new : Tree = sent_node (edited k l m ps) in (
        no_group_by page (record { node = new; parent = j; in_content = w }) (record { node = old; parent = i; in_content = v }) it.0 (block_ungrouped k),
        pieces_groups page (parent_below i l.id) (parent_below j l.id) (v || is_content l.mark) (w || true) ps h.1 it.1,
      )
  child_groups page i j v w (round l m ss) h o it = (
    no_group_by page (record { node = tree m (sent_nodes ss); parent = j; in_content = w }) (record { node = tree l (page_nodes ss); parent = i; in_content = v })
        (found_sent page i v l m (page_nodes ss) h.0 it.0) o.0,
    children_groups page (parent_below i l.id) (parent_below j m.id) (v || is_content l.mark) (w || is_content m.mark) ss h.1 o.1 it.1,
  )

  children_groups : (page : Page) (i j : ℕ) (v w : Bool) (ss : Edits) → AreEdited ss → AreOutside ss → AllByRecursion (Itself page) (all_placed i v (page_nodes ss))
      → AllByRecursion (GroupKept false page) (all_placed j w (sent_nodes ss))
  children_groups page i j v w no_edits h o it = tt
  children_groups page i j v w (more_edits s ss) h o it =
      let p = each_split (Itself page) (placed i v (page_node s)) (all_placed i v (page_nodes ss)) it in
      each_join (GroupKept false page) (placed j w (sent_node s)) (all_placed j w (sent_nodes ss)) (child_groups page i j v w s h.0 o.0 p.0)
      (children_groups page i j v w ss h.1 o.1 p.1)

groups_stand : (l b : Label) (ss : Edits) → InPreorder (page_body l ss) → AreEdited ss → AreOutside ss
    → AllByRecursion (GroupKept false (page_of (page_body l ss))) (places (sent_body l b ss))
groups_stand l b ss pre h o = (λ k. absurd (cc), children_groups (page_of (page_body l ss)) 0 0 (is_content l.mark) false ss h o (found l ss pre))

-- ---- marks

mutual
  pub marks_none : (page : Page) (j : ℕ) (w : Bool) (u : Tree) → has_mark u ≡ false → AllByRecursion (MarkKept page) (placed j w u)
  marks_none page j w (tree m us) h =
      let d = or_false (is_marked m.mark) (have_mark us) h in (
        λ e. let n : is_marked m.mark ≡ false = d.0 in absurd (cc),
        all_marks_none page (parent_below j m.id) (w || is_content m.mark) us d.1,
      )

  all_marks_none : (page : Page) (j : ℕ) (w : Bool) (us : Trees) → have_mark us ≡ false → AllByRecursion (MarkKept page) (all_placed j w us)
  all_marks_none page j w none h = tt
  all_marks_none page j w (more u us) h =
      let d = or_false (has_mark u) (have_mark us) h in
      each_join (MarkKept page) (placed j w u) (all_placed j w us) (marks_none page j w u d.0) (all_marks_none page j w us d.1)

allowed_in : (k : Block) (o : Option Place) → allows (editing (kind_of k)) marks.Content o ≡ true
allowed_in paragraph o = refl
allowed_in (heading n) o = refl

mutual
  child_marked : (page : Page) (j : ℕ) (s : Edited) → IsEdited s → AllByRecursion (MarkKept page) (placed j false (sent_node s))
  child_marked page j (stays t u) h = marks_none page j false u (no_mark t u h)
  child_marked page j (edited k l m ps) h = (
    λ e. record {
      outside = refl;
      old = ap (λ (b : Bool). b || is_body (kind_of k)) (not_zero_kept l.id h.0);
      allowed = allowed_in k (page l.id);
    },
    all_marks_none page (parent_below j l.id) true (sent_pieces ps) (pieces_markless ps h.1),
  )
  child_marked page j (round l m ss) h = (
    λ e. let n : is_marked m.mark ≡ false = ap is_marked h.0.unmarked in absurd (cc),
    subst (λ (c : Mark). AllByRecursion (MarkKept page) (all_placed (parent_below j m.id) (is_content c) (sent_nodes ss))) (sym h.0.unmarked)
        (children_marked page (parent_below j m.id) ss h.1),
  )

  children_marked : (page : Page) (j : ℕ) (ss : Edits) → AreEdited ss → AllByRecursion (MarkKept page) (all_placed j false (sent_nodes ss))
  children_marked page j no_edits h = tt
  children_marked page j (more_edits s ss) h =
      each_join (MarkKept page) (placed j false (sent_node s)) (all_placed j false (sent_nodes ss)) (child_marked page j s h.0) (children_marked page j ss h.1)

-- ---- all of it

pub passes : (l b : Label) (ss : Edits) → InPreorder (page_body l ss) → have_frame (page_nodes ss) ≡ false → AreEdited ss → AreOutside ss
    → checked false (page_body l ss) (sent_body l b ss) ≡ None
passes l b ss pre f h o =
    let t : Tree = page_body l ss in
    let u : Tree = sent_body l b ss in
    let all : Kept false t u = record {
      order = ordered l b ss h;
      groups = groups_stand l b ss pre h o;
      nodes = nodes_stand l b ss pre f h;
      marks = (λ e. absurd (cc), children_marked (page_of t) 0 ss h);
    } in
    unrefused false t u refl pre all
