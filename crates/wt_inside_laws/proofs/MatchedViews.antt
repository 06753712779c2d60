-- Where nodes are matched, what is sent shows what the edit of these nodes does.
use Rattle.std.proofs.Common.{◌≡◌, ℕ, Bool, true, false, List, [], ◌∷◌, refl, sym, ap, ◌∙◌}
use Rattle.std.specs.Prelude.{if◌then◌else◌, Option}
use Rattle.wt_names.proofs.Cuts.{differs}
use Rattle.wt_tree.specs.declared.kind.AttrName.{AttrName}
use Rattle.wt_tree.specs.declared.kind.Kind.{Kind}
use Rattle.wt_tree.specs.declared.kind.Kind.TheVariants as kind
use Rattle.wt_tree.specs.declared.kind.Showing.{Showing}
use Rattle.wt_tree.specs.declared.kind.Showing.TheVariants.{Characters, Inside, Nothing, Element}
use Rattle.wt_tree.specs.declared.node.DataMw.{DataMw}
use Rattle.wt_tree.specs.EditShapes.{edit_shape}
use Rattle.wt_tree.specs.Kinds.{showing, writing}
use Rattle.wt_tree.specs.Plain.{Face, face, Plains, ended, along, element, text_before, shown_before, plain_before, plains_before}
use Rattle.wt_tree.specs.Tiling.{is_group}
use Rattle.wt_tree.specs.Tree.{Label, Tree, tree, Trees, none, more, label}
use Rattle.wt_link_spelling.specs.Spelling.{children_of}
use Rattle.wt_checks.specs.Places.{Place, Page}
use Rattle.wt_checks.specs.Tokens.{is_text}
use Rattle.wt_checks.specs.Unmarked.{is_compared}
use Rattle.wt_checks.proofs.Repeated.{or_false}
use Rattle.wt_slices.specs.Changes.{Pair}
use Rattle.wt_visible.specs.Restored.{held_there, held_by, restored, all_restored}
use Rattle.wt_typed_blocks.specs.Sent.{kind_of}
use Rattle.wt_typed_blocks.specs.Edited.{pieces_before, Edited, stays, edited, round, Edits, no_edits, more_edits, page_node, page_nodes, edited_before, edits_before}
use Rattle.wt_typed_blocks.proofs.EditedShows.{shown_same}
use Rattle.wt_inside_laws.specs.TextEdits.{takes_text}
use Rattle.wt_inside_laws.specs.AsSent.{seen, block_by, edit_for, pieces_for, hold_edits, holds_edit, round_if, edit_by, unless_whole, first_edit, edit_of, edits_among, IsAlike}
use Rattle.wt_inside_laws.proofs.Groups.{group_plain}
use Rattle.wt_inside_laws.proofs.MatchedEdits.{pages_are}
use Rattle.wt_inside_laws.proofs.MatchedNodes.{IsLike, IsSameText, IsSameGroup, FirstMatches, Matches, AllMatch, by_text, by_group, by_mark}

-- ---- those that are compared

abbrev seen_before : Page → List Tree → Plains → Plains
seen_before page [] rest = rest
seen_before page (u ∷ us) rest = plain_before (restored page u) (seen_before page us rest)

shows_nothing : (s : Showing) (l : Label) (f : Plains → Plains) (rest : Plains) → is_compared s ≡ false → shown_before s l f rest ≡ rest
shows_nothing Nothing l f rest e = refl
shows_nothing Characters l f rest e = absurd (cc)
shows_nothing Inside l f rest e = absurd (cc)
shows_nothing Element l f rest e = absurd (cc)

hidden_shows : (page : Page) (u : Tree) (rest : Plains) → is_compared (showing (label u).kind) ≡ false → plain_before (restored page u) rest ≡ rest
hidden_shows page (tree m us) rest e =
    shows_nothing (showing m.kind) m (λ ps. plains_before (held_by page (is_group m.kind) m.id us (all_restored page us)) ps) rest e

seen_shows : (page : Page) (us : Trees) (rest : Plains) → plains_before (all_restored page us) rest ≡ seen_before page (seen us) rest
seen_shows page none rest = refl
seen_shows page (more u us) rest = by_seen (is_compared (showing (label u).kind)) refl (seen_shows page us rest)
  where
    by_seen : (b : Bool) → is_compared (showing (label u).kind) ≡ b → plains_before (all_restored page us) rest ≡ seen_before page (seen us) rest
        → plain_before (restored page u) (plains_before (all_restored page us) rest) ≡ seen_before page (if b then u ∷ seen us else seen us) rest
    by_seen true e r = ap (plain_before (restored page u)) r
    by_seen false e r = hidden_shows page u (plains_before (all_restored page us) rest) e ∙ r

-- ---- where nothing is edited, the page's nodes are shown

mutual
  page_shows : (e : Edited) (rest : Plains) → holds_edit e ≡ false → edited_before e rest ≡ plain_before (page_node e) rest
  page_shows (stays t u) rest h = refl
  page_shows (edited k l m ps) rest h = absurd (cc)
  page_shows (round l m es) rest h =
      shown_same (showing l.kind) l l (λ ps. edits_before es ps) (λ ps. plains_before (page_nodes es) ps) rest (λ e. refl) refl (λ ps. pages_show es ps h)

  pub pages_show : (es : Edits) (rest : Plains) → hold_edits es ≡ false → edits_before es rest ≡ plains_before (page_nodes es) rest
  pages_show no_edits rest h = refl
  pages_show (more_edits e es) rest h =
      let d = or_false (holds_edit e) (hold_edits es) h in
      ap (edited_before e) (pages_show es rest d.1) ∙ page_shows e (plains_before (page_nodes es) rest) d.0

round_shows : (b : Bool) (l : Label) (ts : Trees) (es : Edits) (rest : Plains) → hold_edits es ≡ b → page_nodes es ≡ ts
    → shown_before (showing l.kind) l (λ ps. edits_before es ps) rest ≡ edited_before (round_if b (tree l ts) es) rest
round_shows true l ts es rest e p = refl
round_shows false l ts es rest e p =
    shown_same (showing l.kind) l l (λ ps. edits_before es ps) (λ ps. plains_before ts ps) rest (λ x. refl) refl
    (λ ps. pages_show es ps e ∙ ap (λ us. plains_before us ps) p)

-- ---- all nodes

face_alike : (l m : Label) → IsLike l m → face m ≡ face l
face_alike l m s =
    let F : Kind → List (AttrName × List ℕ) → Option DataMw → Face = λ k xs d. record { kind = k; attrs = xs; mw = d } in
    ap (λ (k : Kind). F k m.attrs m.mw) s.kind ∙ ap (λ (xs : List (AttrName × List ℕ)). F l.kind xs m.mw) s.attrs ∙ ap (λ (d : Option DataMw). F l.kind l.attrs d) s.mw

-- a node that is no group, with what is in it
open_shows : (page : Page) (l : Label) (u : Tree) (f : Plains → Plains) (rest : Plains) → is_group l.kind ≡ false → IsLike l (label u)
    → (showing l.kind ≡ Characters → (label u).shown ≡ l.shown) → ((ps : Plains) → plains_before (all_restored page (children_of u)) ps ≡ f ps)
    → plain_before (restored page u) rest ≡ shown_before (showing l.kind) l f rest
open_shows page l (tree m us) f rest g h s e =
    ap (λ (b : Bool). plain_before (tree m (held_by page b m.id us (all_restored page us))) rest) (ap is_group h.kind ∙ g)
    ∙ ap (λ (k : Kind). shown_before (showing k) m (λ ps. plains_before (all_restored page us) ps) rest) h.kind
    ∙ shown_same (showing l.kind) l m (λ ps. plains_before (all_restored page us) ps) f rest s (face_alike l m h) e

-- a group shows what the page's does
group_shows : (page : Page) (l : Label) (ts : Trees) (u : Tree) (rest : Plains) → is_group l.kind ≡ true → IsLike l (label u) → IsSameGroup page (tree l ts) u
    → plain_before (restored page u) rest ≡ plain_before (tree l ts) rest
group_shows page l ts (tree m us) rest g h s =
    ap (λ (b : Bool). plain_before (tree m (held_by page b m.id us (all_restored page us))) rest) (ap is_group h.kind ∙ g)
    ∙ ap (λ (b : Bool). plain_before (tree m (if b then us else held_there (page m.id) us)) rest) (differs m.id 0 (λ e. h.numbered (sym h.id ∙ e)))
    ∙ ap (λ (o : Option Place). plain_before (tree m (held_there o us)) rest) s.there
    ∙ group_plain m (tree l ts) rest (ap is_group h.kind ∙ g) g

text_shows : (page : Page) (l : Label) (ts : Trees) (u : Tree) (rest : Plains) → IsSameText l (label u) (children_of u)
    → plain_before (restored page u) rest ≡ plain_before (tree l ts) rest
text_shows page l ts (tree m us) rest h =
    ap (λ (k : Kind). shown_before (showing k) m (λ ps. plains_before (held_by page (is_group m.kind) m.id us (all_restored page us)) ps) rest) h.there
    ∙ ap (λ (bs : List ℕ). text_before bs rest) h.shown
    ∙ sym (ap (λ (k : Kind). shown_before (showing k) l (λ ps. plains_before ts ps) rest) h.here)

-- a marked block shows its pieces
block_shown : (k : Kind) → takes_text (edit_shape k).form ≡ true → showing k ≡ Element
block_shown kind.Para e = refl
block_shown (kind.Heading n) e = refl
block_shown k e = absurd (cc)

block_kind : (k : Kind) → takes_text (edit_shape k).form ≡ true → kind_of (block_by (edit_shape k).form) ≡ k
block_kind kind.Para e = refl
block_kind (kind.Heading n) e = refl
block_kind kind.Rule e = absurd (cc)
block_kind k e = absurd (cc)

no_characters : (s : Showing) → s ≡ Element → s ≡ Characters → ⊥
no_characters Element e c = absurd (cc)
no_characters s e c = absurd (cc)

marked_shows : (same : Tree → Tree → Bool) (page : Page) (l : Label) (ts : Trees) (u : Tree) (rest : Plains) → is_group l.kind ≡ false → IsLike l (label u)
    → IsAlike same page (record { old = tree l ts; new = u })
    → plain_before (restored page u) rest ≡ edited_before (edit_for (record { old = tree l ts; new = u })) rest
marked_shows same page l ts u rest g h a =
    let p : Pair = record { old = tree l ts; new = u } in
    open_shows page l u (λ qs. pieces_before (pieces_for p) qs) rest g h (λ c. absurd (no_characters (showing l.kind) (block_shown l.kind a.block) c)) a.shows
    ∙ ap (λ (s : Showing). shown_before s l (λ qs. pieces_before (pieces_for p) qs) rest) (block_shown l.kind a.block)
    ∙ ap (λ (k : Kind). along (element (face (record l { kind = k })) (pieces_before (pieces_for p) ended)) rest) (sym (block_kind l.kind a.block))

first_shows : (page : Page) (b : Bool) (t : Tree) (here : Tree → Edited) (after : List Tree → Edits) (P : Tree → Type 0) (Q : List Tree → Type 0)
    (us : List Tree) (rest : Plains) → is_compared (showing (label t).kind) ≡ b → FirstMatches b P Q us
    → ((u : Tree) (ps : Plains) → P u → plain_before (restored page u) ps ≡ edited_before (here u) ps)
    → ((vs : List Tree) → Q vs → seen_before page vs rest ≡ edits_before (after vs) rest)
    → seen_before page us rest ≡ edits_before (first_edit b t here after us) rest
first_shows page false (tree l ts) here after P Q us rest e h f g =
    g us h ∙ sym (shows_nothing (showing l.kind) l (λ ps. plains_before ts ps) (edits_before (after us) rest) e)
first_shows page true t here after P Q [] rest e h f g = absurd h
first_shows page true t here after P Q (u ∷ us) rest e h f g =
    ap (plain_before (restored page u)) (g us h.1) ∙ f u (edits_before (after us) rest) h.0

mutual
  one_shows : (same : Tree → Tree → Bool) (page : Page) (t u : Tree) (rest : Plains) → Matches same page t u
      → plain_before (restored page u) rest ≡ edited_before (edit_of t u) rest
  one_shows same page (tree l ts) u rest h =
      let p : Pair = record { old = tree l ts; new = u } in
      let es : Edits = edits_among ts (seen (children_of u)) in
      by_text (λ b. plain_before (restored page u) rest
      ≡ edited_before (unless_whole b (tree l ts) (unless_whole (is_group l.kind) (tree l ts) (edit_by (label u).mark p es))) rest) (is_text (writing l.kind)) h
      (λ x. text_shows page l ts u rest x)
      (λ x. by_group (λ b. plain_before (restored page u) rest ≡ edited_before (unless_whole b (tree l ts) (edit_by (label u).mark p es)) rest) (is_group l.kind) x.1
      (λ g s. group_shows page l ts u rest g x.0 s)
      (λ g n. by_mark (λ c. plain_before (restored page u) rest ≡ edited_before (edit_by c p es) rest) (label u).mark n
      (λ o. open_shows page l u (λ ps. edits_before es ps) rest g x.0 o.shown
      (λ ps. seen_shows page (children_of u) ps ∙ views_are same page ts (seen (children_of u)) ps o.inside)
      ∙ round_shows (hold_edits es) l ts es rest refl (pages_are same page ts (seen (children_of u)) o.inside))
      (λ m. marked_shows same page l ts u rest g x.0 m.alike)))

  views_are : (same : Tree → Tree → Bool) (page : Page) (ts : Trees) (us : List Tree) (rest : Plains) → AllMatch same page ts us
      → seen_before page us rest ≡ edits_before (edits_among ts us) rest
  views_are same page none [] rest h = refl
  views_are same page none (u ∷ us) rest h = absurd h
  views_are same page (more t ts) us rest h =
      first_shows page (is_compared (showing (label t).kind)) t (λ u. edit_of t u) (λ vs. edits_among ts vs) (λ u. Matches same page t u)
      (λ vs. AllMatch same page ts vs) us rest refl h (λ u ps m. one_shows same page t u ps m) (λ vs m. views_are same page ts vs rest m)

pub all_shown : (same : Tree → Tree → Bool) (page : Page) (ts us : Trees) (rest : Plains) → AllMatch same page ts (seen us)
    → plains_before (all_restored page us) rest ≡ edits_before (edits_among ts (seen us)) rest
all_shown same page ts us rest h = seen_shows page us rest ∙ views_are same page ts (seen us) rest h
