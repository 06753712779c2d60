-- The edit of the nodes that are matched: its page is the page, and it is at its own paths.
use Rattle.std.proofs.Common.{arith, ◌≡◌, ℕ, zero, suc, Bool, true, false, List, [], ◌∷◌, ◌++◌, map, refl, sym, ap, ap₂, ◌∙◌, inl, inr}
use Rattle.std.specs.Prelude.{◌||◌, Option, Some, None}
use Rattle.std.specs.List.{AllByRecursion}
use Rattle.std.proofs.lemmas.List.{map-append}
use Rattle.wt_tree.specs.declared.kind.Kind.{Kind}
use Rattle.wt_tree.specs.declared.kind.Kind.TheVariants as kind
use Rattle.wt_tree.specs.declared.kind.Mark.{Mark}
use Rattle.wt_tree.specs.declared.kind.Mark.TheVariants as marks
use Rattle.wt_tree.specs.EditShapes.{edit_shape}
use Rattle.wt_tree.specs.Kinds.{showing, writing}
use Rattle.wt_tree.specs.Tiling.{is_group}
use Rattle.wt_tree.specs.Tree.{Label, Tree, tree, Trees, none, more, label}
use Rattle.wt_link_spelling.specs.Spelling.{children_of}
use Rattle.wt_checks.specs.Places.{Page}
use Rattle.wt_checks.specs.Tokens.{is_text}
use Rattle.wt_checks.specs.Unmarked.{is_compared}
use Rattle.wt_checks.proofs.Lookups.{each_split}
use Rattle.wt_slices.specs.Changes.{Pair}
use Rattle.wt_typed_blocks.specs.Sent.{kind_of}
use Rattle.wt_typed_blocks.specs.Edited.{Edited, stays, edited, round, Edits, no_edits, more_edits, page_node, page_nodes, IsEdited, AreEdited, IsOutside, AreOutside}
use Rattle.wt_called_edit_laws.specs.AnyBlocks.{first_paths, other_paths, EndHere, GoOn}
use Rattle.wt_called_edit_laws.specs.EditsAt.{edited_at, edited_by, EditsOnly, AllEditOnly}
use Rattle.wt_called_edit_laws.specs.SentAsIs.{HasNumberedGroups, HaveNumberedGroups}
use Rattle.wt_called_edit_laws.proofs.Cells.SentAsIs.{stands_as_sent}
use Rattle.wt_inside_laws.specs.TextEdits.{takes_text}
use Rattle.wt_inside_laws.specs.AsSent.{seen, block_by, edit_for, holds_edit, hold_edits, round_if, edit_by, unless_whole, first_edit, edit_of, edits_among, past_first, paths_in, paths_of, node_at, node_among, IsOneOf, AreSomeOf, IsAlike}
use Rattle.wt_inside_laws.proofs.Groups.{inner_numbered}
use Rattle.wt_inside_laws.proofs.MatchedNodes.{FirstMatches, Matches, AllMatch, by_text, by_group, by_mark}

-- ---- the page

block_kind : (k : Kind) → takes_text (edit_shape k).form ≡ true → kind_of (block_by (edit_shape k).form) ≡ k
block_kind kind.Para e = refl
block_kind (kind.Heading n) e = refl
block_kind kind.Rule e = absurd (cc)
block_kind k e = absurd (cc)

round_page : (b : Bool) (l : Label) (ts : Trees) (es : Edits) → page_nodes es ≡ ts → page_node (round_if b (tree l ts) es) ≡ tree l ts
round_page true l ts es e = ap (tree l) e
round_page false l ts es e = refl

-- the edit of a marked block is of that block
pub edit_page : (same : Tree → Tree → Bool) (page : Page) (p : Pair) → IsAlike same page p → page_node (edit_for p) ≡ tree (label p.old) (children_of p.old)
edit_page same page p h =
    ap₂ (λ k ts. tree (record (label p.old) { kind = k }) ts) (block_kind (label p.old).kind h.block) h.are

first_page : (b : Bool) (t : Tree) (ts : Trees) (here : Tree → Edited) (after : List Tree → Edits) (P : Tree → Type 0) (Q : List Tree → Type 0) (us : List Tree)
    → FirstMatches b P Q us → ((u : Tree) → P u → page_node (here u) ≡ t) → ((vs : List Tree) → Q vs → page_nodes (after vs) ≡ ts)
    → page_nodes (first_edit b t here after us) ≡ more t ts
first_page false t ts here after P Q us h f g = ap (more t) (g us h)
first_page true t ts here after P Q [] h f g = absurd h
first_page true t ts here after P Q (u ∷ us) h f g = ap₂ more (f u h.0) (g us h.1)

mutual
  one_page : (same : Tree → Tree → Bool) (page : Page) (t u : Tree) → Matches same page t u → page_node (edit_of t u) ≡ t
  one_page same page (tree l ts) u h =
      let p : Pair = record { old = tree l ts; new = u } in
      let es : Edits = edits_among ts (seen (children_of u)) in
      by_text (λ b. page_node (unless_whole b (tree l ts) (unless_whole (is_group l.kind) (tree l ts) (edit_by (label u).mark p es))) ≡ tree l ts)
      (is_text (writing l.kind)) h (λ x. refl)
      (λ x. by_group (λ b. page_node (unless_whole b (tree l ts) (edit_by (label u).mark p es)) ≡ tree l ts) (is_group l.kind) x.1 (λ g s. refl)
      (λ g n. by_mark (λ c. page_node (edit_by c p es) ≡ tree l ts) (label u).mark n
      (λ o. round_page (hold_edits es) l ts es (pages_are same page ts (seen (children_of u)) o.inside))
      (λ m. edit_page same page p m.alike)))

  pub pages_are : (same : Tree → Tree → Bool) (page : Page) (ts : Trees) (us : List Tree) → AllMatch same page ts us → page_nodes (edits_among ts us) ≡ ts
  pages_are same page none [] h = refl
  pages_are same page none (u ∷ us) h = refl
  pages_are same page (more t ts) us h =
      first_page (is_compared (showing (label t).kind)) t ts (λ u. edit_of t u) (λ vs. edits_among ts vs) (λ u. Matches same page t u)
      (λ vs. AllMatch same page ts vs) us h (λ u m. one_page same page t u m) (λ vs m. pages_are same page ts vs m)

-- ---- what stays

round_edited : (b : Bool) (l : Label) (ts : Trees) (es : Edits) → HasNumberedGroups (tree l ts) → AreEdited es → IsEdited (round_if b (tree l ts) es)
round_edited true l ts es g h = (record { kind = refl; id = refl; attrs = refl; mw = refl; shown = λ e. refl; unmarked = refl }, h)
round_edited false l ts es g h = stands_as_sent (tree l ts) g

first_edited : (b : Bool) (t : Tree) (here : Tree → Edited) (after : List Tree → Edits) (P : Tree → Type 0) (Q : List Tree → Type 0) (us : List Tree)
    → HasNumberedGroups t → FirstMatches b P Q us → ((u : Tree) → P u → IsEdited (here u)) → ((vs : List Tree) → Q vs → AreEdited (after vs))
    → AreEdited (first_edit b t here after us)
first_edited false t here after P Q us n h f g = (stands_as_sent t n, g us h)
first_edited true t here after P Q [] n h f g = absurd h
first_edited true t here after P Q (u ∷ us) n h f g = (f u h.0, g us h.1)

mutual
  one_edited : (same : Tree → Tree → Bool) (page : Page) (t u : Tree) → HasNumberedGroups t → Matches same page t u → IsEdited (edit_of t u)
  one_edited same page (tree l ts) u g h =
      let p : Pair = record { old = tree l ts; new = u } in
      let es : Edits = edits_among ts (seen (children_of u)) in
      by_text (λ b. IsEdited (unless_whole b (tree l ts) (unless_whole (is_group l.kind) (tree l ts) (edit_by (label u).mark p es))))
      (is_text (writing l.kind)) h (λ x. stands_as_sent (tree l ts) g)
      (λ x. by_group (λ b. IsEdited (unless_whole b (tree l ts) (edit_by (label u).mark p es))) (is_group l.kind) x.1
      (λ e s. stands_as_sent (tree l ts) g)
      (λ e n. by_mark (λ c. IsEdited (edit_by c p es)) (label u).mark n
      (λ o. round_edited (hold_edits es) l ts es g (all_edited same page ts (seen (children_of u)) (inner_numbered l ts g e) o.inside))
      (λ m. (x.0.numbered, m.alike.stay))))

  pub all_edited : (same : Tree → Tree → Bool) (page : Page) (ts : Trees) (us : List Tree) → HaveNumberedGroups ts → AllMatch same page ts us
      → AreEdited (edits_among ts us)
  all_edited same page none us g h = tt
  all_edited same page (more t ts) us g h =
      first_edited (is_compared (showing (label t).kind)) t (λ u. edit_of t u) (λ vs. edits_among ts vs) (λ u. Matches same page t u)
      (λ vs. AllMatch same page ts vs) us g.0 h (λ u m. one_edited same page t u g.0 m) (λ vs m. all_edited same page ts vs g.1 m)

-- ---- none is edited in a group

round_outside : (b : Bool) (l : Label) (ts : Trees) (es : Edits) → is_group l.kind ≡ false → AreOutside es → IsOutside (round_if b (tree l ts) es)
round_outside true l ts es g h = (g, h)
round_outside false l ts es g h = tt

first_outside : (b : Bool) (t : Tree) (here : Tree → Edited) (after : List Tree → Edits) (P : Tree → Type 0) (Q : List Tree → Type 0) (us : List Tree)
    → FirstMatches b P Q us → ((u : Tree) → P u → IsOutside (here u)) → ((vs : List Tree) → Q vs → AreOutside (after vs))
    → AreOutside (first_edit b t here after us)
first_outside false t here after P Q us h f g = (tt, g us h)
first_outside true t here after P Q [] h f g = absurd h
first_outside true t here after P Q (u ∷ us) h f g = (f u h.0, g us h.1)

mutual
  one_outside : (same : Tree → Tree → Bool) (page : Page) (t u : Tree) → Matches same page t u → IsOutside (edit_of t u)
  one_outside same page (tree l ts) u h =
      let p : Pair = record { old = tree l ts; new = u } in
      let es : Edits = edits_among ts (seen (children_of u)) in
      by_text (λ b. IsOutside (unless_whole b (tree l ts) (unless_whole (is_group l.kind) (tree l ts) (edit_by (label u).mark p es))))
      (is_text (writing l.kind)) h (λ x. tt)
      (λ x. by_group (λ b. IsOutside (unless_whole b (tree l ts) (edit_by (label u).mark p es))) (is_group l.kind) x.1 (λ e s. tt)
      (λ e n. by_mark (λ c. IsOutside (edit_by c p es)) (label u).mark n
      (λ o. round_outside (hold_edits es) l ts es e (all_outside same page ts (seen (children_of u)) o.inside)) (λ m. tt)))

  pub all_outside : (same : Tree → Tree → Bool) (page : Page) (ts : Trees) (us : List Tree) → AllMatch same page ts us → AreOutside (edits_among ts us)
  all_outside same page none us h = tt
  all_outside same page (more t ts) us h =
      first_outside (is_compared (showing (label t).kind)) t (λ u. edit_of t u) (λ vs. edits_among ts vs) (λ u. Matches same page t u)
      (λ vs. AllMatch same page ts vs) us h (λ u m. one_outside same page t u m) (λ vs m. all_outside same page ts vs m)

-- ---- the contents that are edited, in preorder

abbrev mutual
  pub edits_in : Edited → List Edited
  edits_in (stays t u) = []
  edits_in (edited k l m ps) = edited k l m ps ∷ []
  edits_in (round l m es) = all_edits_in es

  pub all_edits_in : Edits → List Edited
  all_edits_in no_edits = []
  all_edits_in (more_edits e es) = edits_in e ++ all_edits_in es

or_false : (a b : Bool) → (a || b) ≡ false → (a ≡ false) × (b ≡ false)
or_false true b e = absurd (cc)
or_false false b e = (refl, e)

mutual
  none_in : (e : Edited) → holds_edit e ≡ false → edits_in e ≡ []
  none_in (stays t u) h = refl
  none_in (edited k l m ps) h = absurd (cc)
  none_in (round l m es) h = none_held es h

  pub none_held : (es : Edits) → hold_edits es ≡ false → all_edits_in es ≡ []
  none_held no_edits h = refl
  none_held (more_edits e es) h =
      let d = or_false (holds_edit e) (hold_edits es) h in ap₂ (λ xs ys. xs ++ ys) (none_in e d.0) (none_held es d.1)

pub round_edits : (b : Bool) (l : Label) (ts : Trees) (es : Edits) → hold_edits es ≡ b → edits_in (round_if b (tree l ts) es) ≡ all_edits_in es
round_edits true l ts es e = refl
round_edits false l ts es e = sym (none_held es e)

-- ---- found by their paths

-- what is found among two nodes' paths
first_found : {A : Type 0} (f g h : List ℕ → A) (ps qs : List (List ℕ)) → ((p : List ℕ) → f (zero ∷ p) ≡ g p) → ((p : List ℕ) → f (past_first p) ≡ h p)
    → map f (map (λ p. zero ∷ p) ps ++ map past_first qs) ≡ map g ps ++ map h qs
first_found f g h [] [] a b = refl
first_found f g h [] (q ∷ qs) a b = ap₂ (λ x xs. x ∷ xs) (b q) (first_found f g h [] qs a b)
first_found f g h (p ∷ ps) qs a b = ap₂ (λ x xs. x ∷ xs) (a p) (first_found f g h ps qs a b)

alike_map : {A : Type 0} (f g : List ℕ → A) (ps : List (List ℕ)) → ((p : List ℕ) → f p ≡ g p) → map f ps ≡ map g ps
alike_map f g [] h = refl
alike_map f g (p ∷ ps) h = ap₂ (λ x xs. x ∷ xs) (h p) (alike_map f g ps h)

past_edits : (e : Edited) (es : Edits) (p : List ℕ) → edited_by (more_edits e es) (past_first p) ≡ edited_by es p
past_edits e es [] = refl
past_edits e es (i ∷ is) = refl

round_at : (l m : Label) (es : Edits) (p : List ℕ) → edited_at p (round l m es) ≡ edited_by es p
round_at l m es [] = refl
round_at l m es (i ∷ is) = refl

mutual
  found_in : (e : Edited) → map (λ p. edited_at p e) (paths_in e) ≡ map (λ d. Some d) (edits_in e)
  found_in (stays t u) = refl
  found_in (edited k l m ps) = refl
  found_in (round l m es) =
      alike_map (λ p. edited_at p (round l m es)) (edited_by es) (paths_of es) (round_at l m es) ∙ found_by_paths es

  pub found_by_paths : (es : Edits) → map (edited_by es) (paths_of es) ≡ map (λ d. Some d) (all_edits_in es)
  found_by_paths no_edits = refl
  found_by_paths (more_edits e es) =
      first_found (edited_by (more_edits e es)) (λ p. edited_at p e) (edited_by es) (paths_in e) (paths_of es) (λ p. refl) (past_edits e es)
      ∙ ap₂ (λ xs ys. xs ++ ys) (found_in e) (found_by_paths es) ∙ sym (map-append (λ (d : Edited). Some d) (edits_in e) (all_edits_in es))

-- and so are the page's nodes
abbrev found_node : Trees → List ℕ → Option Tree
found_node ts [] = None
found_node ts (i ∷ is) = node_among i is ts

past_nodes : (t : Tree) (ts : Trees) (p : List ℕ) → found_node (more t ts) (past_first p) ≡ found_node ts p
past_nodes t ts [] = refl
past_nodes t ts (i ∷ is) = refl

-- each path to an edit goes on
abbrev IsLong : List ℕ → Type 0
IsLong [] = ⊥
IsLong (i ∷ is) = Unit {0}

all_long : (ps qs : List (List ℕ)) → AllByRecursion IsLong qs → AllByRecursion IsLong (map (λ p. zero ∷ p) ps ++ map past_first qs)
all_long [] [] h = tt
all_long [] ([] ∷ qs) h = absurd h.0
all_long [] ((i ∷ is) ∷ qs) h = (tt, all_long [] qs h.1)
all_long (p ∷ ps) qs h = (tt, all_long ps qs h)

are_long : (es : Edits) → AllByRecursion IsLong (paths_of es)
are_long no_edits = tt
are_long (more_edits e es) = all_long (paths_in e) (paths_of es) (are_long es)

node_in : (l : Label) (ts : Trees) (ps : List (List ℕ)) → AllByRecursion IsLong ps → map (λ p. node_at p (tree l ts)) ps ≡ map (found_node ts) ps
node_in l ts [] h = refl
node_in l ts ([] ∷ ps) h = absurd h.0
node_in l ts ((i ∷ is) ∷ ps) h = ap (λ xs. node_among i is ts ∷ xs) (node_in l ts ps h.1)

mutual
  node_found : (e : Edited) → map (λ p. node_at p (page_node e)) (paths_in e) ≡ map (λ d. Some (page_node d)) (edits_in e)
  node_found (stays t u) = refl
  node_found (edited k l m ps) = refl
  node_found (round l m es) = node_in l (page_nodes es) (paths_of es) (are_long es) ∙ nodes_found_among es

  nodes_found_among : (es : Edits) → map (found_node (page_nodes es)) (paths_of es) ≡ map (λ d. Some (page_node d)) (all_edits_in es)
  nodes_found_among no_edits = refl
  nodes_found_among (more_edits e es) =
      first_found (found_node (page_nodes (more_edits e es))) (λ p. node_at p (page_node e)) (found_node (page_nodes es)) (paths_in e) (paths_of es) (λ p. refl)
      (past_nodes (page_node e) (page_nodes es))
      ∙ ap₂ (λ xs ys. xs ++ ys) (node_found e) (nodes_found_among es) ∙ sym (map-append (λ (d : Edited). Some (page_node d)) (edits_in e) (all_edits_in es))

pub nodes_found : (l : Label) (es : Edits) → map (λ p. node_at p (tree l (page_nodes es))) (paths_of es) ≡ map (λ d. Some (page_node d)) (all_edits_in es)
nodes_found l es = node_in l (page_nodes es) (paths_of es) (are_long es) ∙ nodes_found_among es

-- ---- and at no other paths

-- a node is sent with what it holds only where a content is edited in it
abbrev mutual
  pub HoldsOne : Edited → Type 0
  HoldsOne (stays t u) = Unit {0}
  HoldsOne (edited k l m ps) = Unit {0}
  HoldsOne (round l m es) = (hold_edits es ≡ true) × AllHoldOne es

  pub AllHoldOne : Edits → Type 0
  AllHoldOne no_edits = Unit {0}
  AllHoldOne (more_edits e es) = HoldsOne e × AllHoldOne es

round_holds : (b : Bool) (t : Tree) (es : Edits) → hold_edits es ≡ b → AllHoldOne es → HoldsOne (round_if b t es)
round_holds true t es e h = (e, h)
round_holds false t es e h = tt

mark_holds : (c : Mark) (p : Pair) (es : Edits) → AllHoldOne es → HoldsOne (edit_by c p es)
mark_holds marks.Nothing p es h = round_holds (hold_edits es) p.old es refl h
mark_holds marks.Content p es h = tt
mark_holds marks.Children p es h = round_holds (hold_edits es) p.old es refl h
mark_holds marks.Other p es h = round_holds (hold_edits es) p.old es refl h

whole_holds : (b : Bool) (t : Tree) (e : Edited) → HoldsOne e → HoldsOne (unless_whole b t e)
whole_holds true t e h = tt
whole_holds false t e h = h

first_holds : (b : Bool) (t : Tree) (here : Tree → Edited) (after : List Tree → Edits) (us : List Tree) → ((u : Tree) → HoldsOne (here u))
    → ((vs : List Tree) → AllHoldOne (after vs)) → AllHoldOne (first_edit b t here after us)
first_holds false t here after us f g = (tt, g us)
first_holds true t here after [] f g = (tt, g [])
first_holds true t here after (u ∷ us) f g = (f u, g us)

mutual
  one_holds : (t u : Tree) → HoldsOne (edit_of t u)
  one_holds (tree l ts) u =
      let p : Pair = record { old = tree l ts; new = u } in
      let es : Edits = edits_among ts (seen (children_of u)) in
      whole_holds (is_text (writing l.kind)) (tree l ts) (unless_whole (is_group l.kind) (tree l ts) (edit_by (label u).mark p es))
      (whole_holds (is_group l.kind) (tree l ts) (edit_by (label u).mark p es) (mark_holds (label u).mark p es (all_hold_one ts (seen (children_of u)))))

  pub all_hold_one : (ts : Trees) (us : List Tree) → AllHoldOne (edits_among ts us)
  all_hold_one none us = tt
  all_hold_one (more t ts) us =
      first_holds (is_compared (showing (label t).kind)) t (λ u. edit_of t u) (λ vs. edits_among ts vs) us (λ u. one_holds t u) (λ vs. all_hold_one ts vs)

-- ---- paths that are some of others

unequal : {A : Type 0} (x y : ℕ) (xs ys : List ℕ) → x ∷ xs ≡ y ∷ ys → (x ≡ y → ⊥) → A
unequal x y xs ys e n = let d : x ≡ y = cc in absurd (n d)

first_step : (p : List ℕ) (ps : List (List ℕ)) → IsOneOf (zero ∷ p) ps → IsOneOf p (first_paths ps)
first_step p [] h = absurd h
first_step p ([] ∷ ps) (inl e) = absurd (cc)
first_step p ([] ∷ ps) (inr h) = first_step p ps h
first_step p ((zero ∷ is) ∷ ps) (inl e) = let d : p ≡ is = cc in inl d
first_step p ((zero ∷ is) ∷ ps) (inr h) = inr (first_step p ps h)
first_step p ((suc i ∷ is) ∷ ps) (inl e) = unequal zero (suc i) p is e (λ d. omega (arith, d))
first_step p ((suc i ∷ is) ∷ ps) (inr h) = first_step p ps h

less_one : (i j : ℕ) (is js : List ℕ) → suc j ∷ js ≡ suc i ∷ is → j ∷ js ≡ i ∷ is
less_one i j is js e =
    let a : suc j ≡ suc i = cc in
    let b : js ≡ is = cc in
    let c : j ≡ i = omega (arith, a) in
    ap₂ (λ x xs. x ∷ xs) c b

other_step : (p : List ℕ) (ps : List (List ℕ)) → IsLong p → IsOneOf (past_first p) ps → IsOneOf p (other_paths ps)
other_step [] ps n h = absurd n
other_step (j ∷ js) [] n h = absurd h
other_step (j ∷ js) ([] ∷ ps) n (inl e) = absurd (cc)
other_step (j ∷ js) ([] ∷ ps) n (inr h) = other_step (j ∷ js) ps n h
other_step (j ∷ js) ((zero ∷ is) ∷ ps) n (inl e) = unequal (suc j) zero js is e (λ d. omega (arith, d))
other_step (j ∷ js) ((zero ∷ is) ∷ ps) n (inr h) = other_step (j ∷ js) ps n h
other_step (j ∷ js) ((suc i ∷ is) ∷ ps) n (inl e) = inl (less_one i j is js e)
other_step (j ∷ js) ((suc i ∷ is) ∷ ps) n (inr h) = inr (other_step (j ∷ js) ps n h)

ends_here : (ps : List (List ℕ)) → IsOneOf [] ps → EndHere ps
ends_here [] h = absurd h
ends_here ([] ∷ ps) h = tt
ends_here ((i ∷ is) ∷ ps) (inl e) = absurd (cc)
ends_here ((i ∷ is) ∷ ps) (inr h) = ends_here ps h

goes_on : (p : List ℕ) (ps : List (List ℕ)) → IsLong p → IsOneOf p ps → GoOn ps
goes_on p [] n h = absurd h
goes_on [] ([] ∷ ps) n h = absurd n
goes_on (j ∷ js) ([] ∷ ps) n (inl e) = absurd (cc)
goes_on (j ∷ js) ([] ∷ ps) n (inr h) = goes_on (j ∷ js) ps n h
goes_on p ((i ∷ is) ∷ ps) n h = tt

-- what is said of each path to an edit is said of one
each_of_map : {A B : Type 0} (P : B → Type 0) (f : A → B) (xs : List A) → AllByRecursion P (map f xs) → AllByRecursion (λ x. P (f x)) xs
each_of_map P f [] h = tt
each_of_map P f (x ∷ xs) h = (h.0, each_of_map P f xs h.1)

either_so : {A : Type 0} (b c : Bool) → (b || c) ≡ true → (b ≡ true → A) → (c ≡ true → A) → A
either_so true c e f g = f refl
either_so false c e f g = g e

mutual
  some_in : (P : List ℕ → Type 0) (G : Type 0) (e : Edited) → ((p : List ℕ) → P p → G) → holds_edit e ≡ true → AllByRecursion P (paths_in e) → G
  some_in P G (stays t u) f e h = absurd (cc)
  some_in P G (edited k l m ps) f e h = f [] h.0
  some_in P G (round l m es) f e h = some_of P G es f e h

  some_of : (P : List ℕ → Type 0) (G : Type 0) (es : Edits) → ((p : List ℕ) → P p → G) → hold_edits es ≡ true → AllByRecursion P (paths_of es) → G
  some_of P G no_edits f e h = absurd (cc)
  some_of P G (more_edits d es) f e h =
      let s = each_split P (map (λ p. zero ∷ p) (paths_in d)) (map past_first (paths_of es)) h in
      either_so (holds_edit d) (hold_edits es) e
      (λ x. some_in (λ p. P (zero ∷ p)) G d (λ p. f (zero ∷ p)) x (each_of_map P (λ p. zero ∷ p) (paths_in d) s.0))
      (λ x. some_of (λ p. P (past_first p)) G es (λ p. f (past_first p)) x (each_of_map P past_first (paths_of es) s.1))

both_all : {A : Type 0} (P Q : A → Type 0) (xs : List A) → AllByRecursion P xs → AllByRecursion Q xs → AllByRecursion (λ x. P x × Q x) xs
both_all P Q [] h k = tt
both_all P Q (x ∷ xs) h k = ((h.0, k.0), both_all P Q xs h.1 k.1)

each_weaker : {A : Type 0} (P Q : A → Type 0) (xs : List A) → ((x : A) → P x → Q x) → AllByRecursion P xs → AllByRecursion Q xs
each_weaker P Q [] f h = tt
each_weaker P Q (x ∷ xs) f h = (f x h.0, each_weaker P Q xs f h.1)

mutual
  only_in : (ps : List (List ℕ)) (e : Edited) → HoldsOne e → AreSomeOf (paths_in e) ps → EditsOnly ps e
  only_in ps (stays t u) n h = tt
  only_in ps (edited k l m qs) n h = ends_here ps h.0
  only_in ps (round l m es) n h = (
    some_of (λ p. IsLong p × IsOneOf p ps) (GoOn ps) es (λ p x. goes_on p ps x.0 x.1) n.0 (both_all IsLong (λ p. IsOneOf p ps) (paths_of es) (are_long es) h),
    only_there ps es n.1 h,
  )

  pub only_there : (ps : List (List ℕ)) (es : Edits) → AllHoldOne es → AreSomeOf (paths_of es) ps → AllEditOnly ps es
  only_there ps no_edits n h = tt
  only_there ps (more_edits e es) n h =
      let s = each_split (λ p. IsOneOf p ps) (map (λ p. zero ∷ p) (paths_in e)) (map past_first (paths_of es)) h in (
        only_in (first_paths ps) e n.0
            (each_weaker (λ p. IsOneOf (zero ∷ p) ps) (λ p. IsOneOf p (first_paths ps)) (paths_in e) (λ p x. first_step p ps x)
            (each_of_map (λ p. IsOneOf p ps) (λ p. zero ∷ p) (paths_in e) s.0)),
        only_there (other_paths ps) es n.1
            (each_weaker (λ p. IsLong p × IsOneOf (past_first p) ps) (λ p. IsOneOf p (other_paths ps)) (paths_of es) (λ p x. other_step p ps x.0 x.1)
            (both_all IsLong (λ p. IsOneOf (past_first p) ps) (paths_of es) (are_long es)
            (each_of_map (λ p. IsOneOf p ps) past_first (paths_of es) s.1))),
      )
