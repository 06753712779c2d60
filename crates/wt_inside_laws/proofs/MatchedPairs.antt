-- Where nodes are matched, the marked ones are those that are edited, in their order, and what is written for them is the same.
use Rattle.std.proofs.Common.{◌≡◌, ℕ, Bool, true, false, List, [], ◌∷◌, ◌++◌, map, refl, sym, ap, ap₂, ◌∙◌}
use Rattle.std.specs.Prelude.{◌||◌, ◌&&◌, if◌then◌else◌, Option, Some, None, option_map}
use Rattle.std.specs.List.{AllByRecursion, flat_map}
use Rattle.std.proofs.lemmas.Grind.{flat_map-append}
use Rattle.std.proofs.lemmas.List.{map-append}
use Rattle.wt_span.specs.Origins.{Expanded}
use Rattle.wt_tree.specs.declared.kind.Mark.{Mark}
use Rattle.wt_tree.specs.declared.kind.Mark.TheVariants as marks
use Rattle.wt_tree.specs.declared.edit_shape.Place.{Place as Surround}
use Rattle.wt_tree.specs.Kinds.{showing, writing}
use Rattle.wt_tree.specs.Tiling.{is_group}
use Rattle.wt_tree.specs.Tree.{Label, Tree, tree, Trees, none, more, label}
use Rattle.wt_original.specs.Page.{page_of as block_page}
use Rattle.wt_guards.specs.Content.{ContentSign}
use Rattle.wt_guards.specs.Guards.{spelled}
use Rattle.wt_link_spelling.specs.Spelling.{children_of, inline_spelling}
use Rattle.wt_checks.specs.Groups.{has_mark, have_mark}
use Rattle.wt_checks.specs.Marks.{is_children}
use Rattle.wt_checks.specs.Places.{Place, placed, all_placed, places, Page, is_content, parent_below, page_of}
use Rattle.wt_checks.specs.Tokens.{is_text}
use Rattle.wt_checks.specs.Unmarked.{is_compared}
use Rattle.wt_checks.proofs.Found.{found_has}
use Rattle.wt_checks.proofs.Lookups.{each_split, each_join}
use Rattle.wt_checks.proofs.Repeated.{or_false}
use Rattle.wt_content.specs.Children.{bad_children}
use Rattle.wt_content.specs.Content.{outermost, all_faults, held, first_why, bad_content}
use Rattle.wt_slices.specs.BodySlices.{list_at, child_slices, all_child_slices}
use Rattle.wt_slices.specs.Changes.{Pair, pair_with, is_edited, pair_at, place_in, change_with, inside_of, insides, all_insides}
use Rattle.wt_selser.specs.declared.refusal.EditRefusal.TheVariants as refusal
use Rattle.wt_selser.specs.Edits.{first_with, first_of, bad_pair, is_tangled, tangled_pair, refused_pairs}
use Rattle.wt_splice.specs.Splice.{Change}
use Rattle.wt_typed_blocks.specs.Edited.{Edited, stays, edited, round, Edits, no_edits, more_edits, page_node, sent_node}
use Rattle.wt_typed_blocks.proofs.EditedSlices.{Same, pairs_in, pairs_of, change_of, changes_of, no_pairs, no_insides}
use Rattle.wt_inside_laws.specs.AsSent.{seen, edit_for, hold_edits, holds_edit, round_if, edit_by, unless_whole, first_edit, edit_of, edits_among, IsAlike}
use Rattle.wt_inside_laws.proofs.MatchedEdits.{edit_page, edits_in, all_edits_in, round_edits}
use Rattle.wt_inside_laws.proofs.MatchedNodes.{IsSameText, IsHidden, AreHidden, FirstMatches, Matches, AllMatch, by_text, by_group, by_mark}

-- ---- marked nodes

abbrev pub pairs_below : Page → ℕ → Bool → Trees → List Pair
pairs_below page j w us = flat_map (pair_at page) (all_placed j w us)

abbrev seen_pairs : Page → ℕ → Bool → List Tree → List Pair
seen_pairs page j w us = flat_map (λ u. flat_map (pair_at page) (placed j w u)) us

hidden_pairs : (page : Page) (j : ℕ) (w : Bool) (u : Tree) → IsHidden u → flat_map (pair_at page) (placed j w u) ≡ []
hidden_pairs page j w (tree m us) h =
    ap₂ (λ c vs. (if is_edited c then pair_with (page m.id) (tree m us) else []) ++ flat_map (pair_at page) (all_placed (parent_below j m.id) (w || is_content m.mark) vs))
    h.unmarked h.bare

pairs_seen : (page : Page) (j : ℕ) (w : Bool) (us : Trees) → AreHidden us → pairs_below page j w us ≡ seen_pairs page j w (seen us)
pairs_seen page j w none h = refl
pairs_seen page j w (more u us) h =
    flat_map-append (pair_at page) (placed j w u) (all_placed j w us)
    ∙ by_seen (is_compared (showing (label u).kind)) refl (pairs_seen page j w us h.1)
  where
    by_seen : (b : Bool) → is_compared (showing (label u).kind) ≡ b → pairs_below page j w us ≡ seen_pairs page j w (seen us)
        → flat_map (pair_at page) (placed j w u) ++ pairs_below page j w us ≡ seen_pairs page j w (if b then u ∷ seen us else seen us)
    by_seen true e r = ap (λ ps. flat_map (pair_at page) (placed j w u) ++ ps) r
    by_seen false e r = ap (λ ps. ps ++ pairs_below page j w us) (hidden_pairs page j w u (h.0 e)) ∙ r

first_pairs : (page : Page) (j : ℕ) (w b : Bool) (t : Tree) (here : Tree → Edited) (after : List Tree → Edits) (P : Tree → Type 0) (Q : List Tree → Type 0)
    (us : List Tree) → FirstMatches b P Q us → ((u : Tree) → P u → map edit_for (flat_map (pair_at page) (placed j w u)) ≡ edits_in (here u))
    → ((vs : List Tree) → Q vs → map edit_for (seen_pairs page j w vs) ≡ all_edits_in (after vs))
    → map edit_for (seen_pairs page j w us) ≡ all_edits_in (first_edit b t here after us)
first_pairs page j w false t here after P Q us h f g = g us h
first_pairs page j w true t here after P Q [] h f g = absurd h
first_pairs page j w true t here after P Q (u ∷ us) h f g =
    map-append edit_for (flat_map (pair_at page) (placed j w u)) (seen_pairs page j w us) ∙ ap₂ (λ xs ys. xs ++ ys) (f u h.0) (g us h.1)

-- by what is sent for a node
pairs_of_text : (page : Page) (j : ℕ) (w : Bool) (l : Label) (u : Tree) → IsSameText l (label u) (children_of u) → flat_map (pair_at page) (placed j w u) ≡ []
pairs_of_text page j w l (tree m us) h =
    ap₂ (λ c vs. (if is_edited c then pair_with (page m.id) (tree m us) else []) ++ flat_map (pair_at page) (all_placed (parent_below j m.id) (w || is_content m.mark) vs))
    h.unmarked h.bare

-- what comes of its mark and of what it holds
abbrev pairs_by : Page → ℕ → Bool → Tree → Mark → List Pair
pairs_by page j w u c =
    (if is_edited c then pair_with (page (label u).id) u else []) ++ pairs_below page (parent_below j (label u).id) (w || is_content (label u).mark) (children_of u)

pairs_split : (page : Page) (j : ℕ) (w : Bool) (u : Tree) → flat_map (pair_at page) (placed j w u) ≡ pairs_by page j w u (label u).mark
pairs_split page j w (tree m us) = refl

all_no_pairs : (page : Page) (j : ℕ) (w : Bool) (us : Trees) → have_mark us ≡ false → pairs_below page j w us ≡ []
all_no_pairs page j w none h = refl
all_no_pairs page j w (more u us) h =
    let d = or_false (has_mark u) (have_mark us) h in
    flat_map-append (pair_at page) (placed j w u) (all_placed j w us)
    ∙ ap₂ (λ ps qs. ps ++ qs) (no_pairs page j w u d.0) (all_no_pairs page j w us d.1)

mutual
  one_pair : (same : Same) (page : Page) (j : ℕ) (w : Bool) (t u : Tree) → Matches same page t u
      → map edit_for (flat_map (pair_at page) (placed j w u)) ≡ edits_in (edit_of t u)
  one_pair same page j w (tree l ts) u h =
      let p : Pair = record { old = tree l ts; new = u } in
      let es : Edits = edits_among ts (seen (children_of u)) in
      let i : ℕ = parent_below j (label u).id in
      let v : Bool = w || is_content (label u).mark in
      by_text (λ b. map edit_for (flat_map (pair_at page) (placed j w u))
      ≡ edits_in (unless_whole b (tree l ts) (unless_whole (is_group l.kind) (tree l ts) (edit_by (label u).mark p es))))
      (is_text (writing l.kind)) h (λ x. ap (map edit_for) (pairs_of_text page j w l u x))
      (λ x. by_group (λ b. map edit_for (flat_map (pair_at page) (placed j w u)) ≡ edits_in (unless_whole b (tree l ts) (edit_by (label u).mark p es)))
      (is_group l.kind) x.1 (λ g s. ap (map edit_for) (no_pairs page j w u s.markless))
      (λ g n. ap (map edit_for) (pairs_split page j w u)
      ∙ by_mark (λ c. map edit_for (pairs_by page j w u c) ≡ edits_in (edit_by c p es)) (label u).mark n
      (λ o. ap (map edit_for) (pairs_seen page i v (children_of u) o.hidden) ∙ pairs_are same page i v ts (seen (children_of u)) o.inside
      ∙ sym (round_edits (hold_edits es) l ts es refl))
      (λ m. ap₂ (λ o qs. map edit_for (pair_with o u ++ qs)) m.there (all_no_pairs page i v (children_of u) m.markless))))

  pub pairs_are : (same : Same) (page : Page) (j : ℕ) (w : Bool) (ts : Trees) (us : List Tree) → AllMatch same page ts us
      → map edit_for (seen_pairs page j w us) ≡ all_edits_in (edits_among ts us)
  pairs_are same page j w none [] h = refl
  pairs_are same page j w none (u ∷ us) h = absurd h
  pairs_are same page j w (more t ts) us h =
      first_pairs page j w (is_compared (showing (label t).kind)) t (λ u. edit_of t u) (λ vs. edits_among ts vs) (λ u. Matches same page t u)
      (λ vs. AllMatch same page ts vs) us h (λ u m. one_pair same page j w t u m) (λ vs m. pairs_are same page j w ts vs m)

pub all_pairs_are : (same : Same) (page : Page) (j : ℕ) (w : Bool) (ts us : Trees) → AreHidden us → AllMatch same page ts (seen us)
    → map edit_for (pairs_below page j w us) ≡ all_edits_in (edits_among ts (seen us))
all_pairs_are same page j w ts us h m = ap (map edit_for) (pairs_seen page j w us h) ∙ pairs_are same page j w ts (seen us) m

-- ---- slices

hidden_insides : (same : Same) (page : Page) (u : Tree) → IsHidden u → insides same page u ≡ []
hidden_insides same page (tree m us) h =
    ap₂ (λ c vs. if is_content c then inside_of same (page m.id) (tree m us) else all_insides same page vs) h.unmarked h.bare

abbrev seen_insides : Same → Page → List Tree → List Change
seen_insides same page us = flat_map (insides same page) us

insides_seen : (same : Same) (page : Page) (us : Trees) → AreHidden us → all_insides same page us ≡ seen_insides same page (seen us)
insides_seen same page none h = refl
insides_seen same page (more u us) h = by_seen (is_compared (showing (label u).kind)) refl (insides_seen same page us h.1)
  where
    by_seen : (b : Bool) → is_compared (showing (label u).kind) ≡ b → all_insides same page us ≡ seen_insides same page (seen us)
        → insides same page u ++ all_insides same page us ≡ seen_insides same page (if b then u ∷ seen us else seen us)
    by_seen true e r = ap (λ cs. insides same page u ++ cs) r
    by_seen false e r = ap (λ cs. cs ++ all_insides same page us) (hidden_insides same page u (h.0 e)) ∙ r

first_insides : (same : Same) (page : Page) (b : Bool) (t : Tree) (here : Tree → Edited) (after : List Tree → Edits) (P : Tree → Type 0) (Q : List Tree → Type 0)
    (us : List Tree) → FirstMatches b P Q us → ((u : Tree) → P u → insides same page u ≡ change_of same (here u))
    → ((vs : List Tree) → Q vs → seen_insides same page vs ≡ changes_of same (after vs))
    → seen_insides same page us ≡ changes_of same (first_edit b t here after us)
first_insides same page false t here after P Q us h f g = g us h
first_insides same page true t here after P Q [] h f g = absurd h
first_insides same page true t here after P Q (u ∷ us) h f g = ap₂ (λ xs ys. xs ++ ys) (f u h.0) (g us h.1)

insides_of_text : (same : Same) (page : Page) (l : Label) (u : Tree) → IsSameText l (label u) (children_of u) → insides same page u ≡ []
insides_of_text same page l (tree m us) h =
    ap₂ (λ c vs. if is_content c then inside_of same (page m.id) (tree m us) else all_insides same page vs) h.unmarked h.bare

abbrev insides_by : Same → Page → Tree → Mark → List Change
insides_by same page u c = if is_content c then inside_of same (page (label u).id) u else all_insides same page (children_of u)

insides_split : (same : Same) (page : Page) (u : Tree) → insides same page u ≡ insides_by same page u (label u).mark
insides_split same page (tree m us) = refl

mutual
  none_changed : (same : Same) (e : Edited) → holds_edit e ≡ false → change_of same e ≡ []
  none_changed same (stays t u) h = refl
  none_changed same (edited k l m ps) h = absurd (cc)
  none_changed same (round l m es) h = nothing_changed same es h

  pub nothing_changed : (same : Same) (es : Edits) → hold_edits es ≡ false → changes_of same es ≡ []
  nothing_changed same no_edits h = refl
  nothing_changed same (more_edits e es) h =
      let d = or_false (holds_edit e) (hold_edits es) h in ap₂ (λ xs ys. xs ++ ys) (none_changed same e d.0) (nothing_changed same es d.1)

round_changes : (same : Same) (b : Bool) (l : Label) (ts : Trees) (es : Edits) → hold_edits es ≡ b → change_of same (round_if b (tree l ts) es) ≡ changes_of same es
round_changes same true l ts es e = refl
round_changes same false l ts es e = sym (nothing_changed same es e)

own_tree : (t : Tree) → t ≡ tree (label t) (children_of t)
own_tree (tree l ts) = refl

-- the block that is edited is the page's
pub same_old : (same : Same) (page : Page) (p : Pair) → IsAlike same page p → page_node (edit_for p) ≡ p.old
same_old same page p h = edit_page same page p h ∙ sym (own_tree p.old)

-- what is sent in the block is written as its pieces are
written_alike : (same : Same) (page : Page) (p : Pair) (pl : Surround) → IsAlike same page p
    → inline_spelling same p.old p.new pl ≡ inline_spelling same p.old (sent_node (edit_for p)) pl
unfolding inline_spelling
written_alike same page p pl h =
    ap (λ (ss : List ContentSign). spelled (record { within = false; place = pl; source = (block_page same p.old).source }) ss) (h.written pl)

change_alike : (same : Same) (page : Page) (p : Pair) → IsAlike same page p
    → change_with (label p.old).ranges (inline_spelling same p.old p.new (place_in (label p.old).kind)) ≡ change_of same (edit_for p)
change_alike same page p h =
    ap (change_with (label p.old).ranges) (written_alike same page p (place_in (label p.old).kind) h)
    ∙ ap (λ (t : Tree). change_with (label p.old).ranges (inline_spelling same t (sent_node (edit_for p)) (place_in (label t).kind)))
    (sym (same_old same page p h))

mutual
  one_inside : (same : Same) (page : Page) (t u : Tree) → Matches same page t u → insides same page u ≡ change_of same (edit_of t u)
  one_inside same page (tree l ts) u h =
      let p : Pair = record { old = tree l ts; new = u } in
      let es : Edits = edits_among ts (seen (children_of u)) in
      by_text (λ b. insides same page u ≡ change_of same (unless_whole b (tree l ts) (unless_whole (is_group l.kind) (tree l ts) (edit_by (label u).mark p es))))
      (is_text (writing l.kind)) h (λ x. insides_of_text same page l u x)
      (λ x. by_group (λ b. insides same page u ≡ change_of same (unless_whole b (tree l ts) (edit_by (label u).mark p es))) (is_group l.kind) x.1
      (λ g s. no_insides same page u s.markless)
      (λ g n. insides_split same page u
      ∙ by_mark (λ c. insides_by same page u c ≡ change_of same (edit_by c p es)) (label u).mark n
      (λ o. insides_seen same page (children_of u) o.hidden ∙ insides_are same page ts (seen (children_of u)) o.inside
      ∙ sym (round_changes same (hold_edits es) l ts es refl))
      (λ m. ap (λ (o : Option Place). inside_of same o u) m.there ∙ change_alike same page p m.alike)))

  insides_are : (same : Same) (page : Page) (ts : Trees) (us : List Tree) → AllMatch same page ts us
      → seen_insides same page us ≡ changes_of same (edits_among ts us)
  insides_are same page none [] h = refl
  insides_are same page none (u ∷ us) h = absurd h
  insides_are same page (more t ts) us h =
      first_insides same page (is_compared (showing (label t).kind)) t (λ u. edit_of t u) (λ vs. edits_among ts vs) (λ u. Matches same page t u)
      (λ vs. AllMatch same page ts vs) us h (λ u m. one_inside same page t u m) (λ vs m. insides_are same page ts vs m)

-- where no list's items come or go
child_insides : (same : Same) (page : Page) (u : Tree) → is_children (label u).mark ≡ false → child_slices same page u ≡ insides same page u
child_insides same page (tree m us) e = ap (λ (b : Bool). if b then list_at same page (page m.id) us else insides same page (tree m us)) e

children_insides : (same : Same) (page : Page) (j : ℕ) (w : Bool) (us : Trees)
    → AllByRecursion (λ p. is_children (label p.node).mark ≡ false) (all_placed j w us) → all_child_slices same page us ≡ all_insides same page us
children_insides same page j w none h = refl
children_insides same page j w (more (tree m vs) us) h =
    let s = each_split (λ p. is_children (label p.node).mark ≡ false) (placed j w (tree m vs)) (all_placed j w us) h in
    ap₂ (λ xs ys. xs ++ ys) (child_insides same page (tree m vs) s.0.0) (children_insides same page j w us s.1)

pub slices_are : (same : Same) (page : Page) (j : ℕ) (w : Bool) (ts us : Trees)
    → AllByRecursion (λ p. is_children (label p.node).mark ≡ false) (all_placed j w us) → AreHidden us → AllMatch same page ts (seen us)
    → all_child_slices same page us ≡ changes_of same (edits_among ts (seen us))
slices_are same page j w ts us c h m =
    children_insides same page j w us c ∙ insides_seen same page us h ∙ insides_are same page ts (seen us) m

-- ---- refusals

-- a marked block, and what is known of it
pub record IsMarkedBlock (same : Same) (page : Page) (p : Pair) : Type 0 where
  pub content : is_content (label p.new).mark ≡ true
  pub id : (label p.new).id ≡ (label p.old).id
  pub alike : IsAlike same page p

abbrev pub as_pair : Edited → Pair
as_pair e = record { old = page_node e; new = sent_node e }

-- the pairs of an edit
pairs_joined : (f : Edited → Pair) (xs ys : List Edited) → map f xs ++ map f ys ≡ map f (xs ++ ys)
pairs_joined f xs ys = sym (map-append f xs ys)

mutual
  pair_listed : (e : Edited) → pairs_in e ≡ map as_pair (edits_in e)
  pair_listed (stays t u) = refl
  pair_listed (edited k l m ps) = refl
  pair_listed (round l m es) = pairs_listed es

  pub pairs_listed : (es : Edits) → pairs_of es ≡ map as_pair (all_edits_in es)
  pairs_listed no_edits = refl
  pairs_listed (more_edits e es) =
      ap₂ (λ xs ys. xs ++ ys) (pair_listed e) (pairs_listed es) ∙ pairs_joined as_pair (edits_in e) (all_edits_in es)

not_children : (m : Mark) → is_content m ≡ true → is_children m ≡ false
not_children marks.Nothing e = refl
not_children marks.Content e = refl
not_children marks.Children e = absurd (cc)
not_children marks.Other e = refl

held_is : (t : Tree) → held t ≡ children_of t
held_is (tree l ts) = refl

bad_alike : (same : Same) (page : Page) (p : Pair) → IsAlike same page p → bad_content same p.old p.new ≡ bad_content same p.old (sent_node (edit_for p))
unfolding bad_content
bad_alike same page p h =
    ap (λ (us : Trees). first_why (all_faults (block_page same p.old) (outermost p.old) us)) (held_is p.new) ∙ ap first_why h.refused

bad_pair_alike : (same : Same) (page : Page) (p : Pair) → IsMarkedBlock same page p → bad_pair same p ≡ bad_pair same (as_pair (edit_for p))
bad_pair_alike same page p h =
    ap (λ (b : Bool). option_map (refusal.BadContent (label p.new).id) (if b then bad_children same p.new else bad_content same p.old p.new))
    (not_children (label p.new).mark h.content)
    ∙ ap₂ (λ n o. option_map (refusal.BadContent n) o) h.id (bad_alike same page p h.alike)
    ∙ ap (λ (t : Tree). option_map (refusal.BadContent (label p.old).id) (bad_content same t (sent_node (edit_for p)))) (sym (same_old same page p h.alike))

tangled_alike : (same : Same) (page : Page) (items : Expanded) (bytes : List ℕ) (p : Pair) → IsMarkedBlock same page p
    → tangled_pair items bytes p ≡ tangled_pair items bytes (as_pair (edit_for p))
tangled_alike same page items bytes p h =
    ap₂ (λ b n. if b && is_tangled items bytes p.old then Some (refusal.Tangled n) else None) h.content h.id
    ∙ ap (λ (t : Tree). if is_tangled items bytes t then Some (refusal.Tangled (label p.old).id) else None) (sym (same_old same page p h.alike))

first_alike : {B : Type 0} (same : Same) (page : Page) (f : Pair → Option B) (ps : List Pair) → ((p : Pair) → IsMarkedBlock same page p → f p ≡ f (as_pair (edit_for p)))
    → AllByRecursion (IsMarkedBlock same page) ps → first_of f ps ≡ first_of f (map as_pair (map edit_for ps))
first_alike same page f [] h a = refl
first_alike same page f (p ∷ ps) h a = ap₂ (λ x y. first_with x y) (h p a.0) (first_alike same page f ps h a.1)

pub refused_alike : (same : Same) (page : Page) (items : Expanded) (bytes : List ℕ) (ps : List Pair) → AllByRecursion (IsMarkedBlock same page) ps
    → refused_pairs same items bytes ps ≡ refused_pairs same items bytes (map as_pair (map edit_for ps))
refused_alike same page items bytes ps h =
    ap₂ (λ x y. first_with x y) (first_alike same page (bad_pair same) ps (λ p a. bad_pair_alike same page p a) h)
    (first_alike same page (tangled_pair items bytes) ps (λ p a. tangled_alike same page items bytes p a) h)

-- each marked node is one with the page's number
each_unit : (ps : List Place) → AllByRecursion (λ p. Unit {0}) ps
each_unit [] = tt
each_unit (p ∷ ps) = (tt, each_unit ps)

pair_marked : (same : Same) (t : Tree) (o : Option Place) (u : Tree) → page_of t (label u).id ≡ o → is_content (label u).mark ≡ true
    → AllByRecursion (IsAlike same (page_of t)) (pair_with o u) → AllByRecursion (IsMarkedBlock same (page_of t)) (pair_with o u)
pair_marked same t None u e c h = tt
pair_marked same t (Some q) u e c h = (
  record { content = c; id = sym (found_has (λ r. Unit {0}) (label u).id q (places t) (each_unit (places t)) e).1; alike = h.0 },
  tt,
)

content_only : (m : Mark) → is_edited m ≡ true → is_children m ≡ false → is_content m ≡ true
content_only marks.Nothing e c = absurd (cc)
content_only marks.Content e c = refl
content_only marks.Children e c = absurd (cc)
content_only marks.Other e c = absurd (cc)

pair_here : (same : Same) (t u : Tree) (b : Bool) → is_edited (label u).mark ≡ b → is_children (label u).mark ≡ false
    → AllByRecursion (IsAlike same (page_of t)) (if b then pair_with (page_of t (label u).id) u else [])
    → AllByRecursion (IsMarkedBlock same (page_of t)) (if b then pair_with (page_of t (label u).id) u else [])
pair_here same t u true e c h = pair_marked same t (page_of t (label u).id) u refl (content_only (label u).mark e c) h
pair_here same t u false e c h = tt

pub all_marked : (same : Same) (t : Tree) (ps : List Place) → AllByRecursion (λ p. is_children (label p.node).mark ≡ false) ps
    → AllByRecursion (IsAlike same (page_of t)) (flat_map (pair_at (page_of t)) ps) → AllByRecursion (IsMarkedBlock same (page_of t)) (flat_map (pair_at (page_of t)) ps)
all_marked same t [] c h = tt
all_marked same t (p ∷ ps) c h =
    let s = each_split (IsAlike same (page_of t)) (pair_at (page_of t) p) (flat_map (pair_at (page_of t)) ps) h in
    each_join (IsMarkedBlock same (page_of t)) (pair_at (page_of t) p) (flat_map (pair_at (page_of t)) ps)
    (pair_here same t p.node (is_edited (label p.node).mark) refl c.0 s.0) (all_marked same t ps c.1 s.1)
