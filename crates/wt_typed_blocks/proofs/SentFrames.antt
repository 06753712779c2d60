-- What is sent as it stands holds no frame where the page's node holds none, and neither does a content; and no mark is in a content.
use Rattle.std.proofs.Common.{◌≡◌, ℕ, Bool, false, List, [], ◌∷◌, refl, ap, ◌∙◌}
use Rattle.std.specs.Prelude.{◌||◌}
use Rattle.wt_tree.specs.declared.kind.Kind.{Kind}
use Rattle.wt_tree.specs.declared.kind.Mark.{Mark}
use Rattle.wt_tree.specs.Tiling.{is_group}
use Rattle.wt_tree.specs.Tree.{Label, Tree, tree, Trees, none, more}
use Rattle.wt_recut.specs.Recutting.{appended}
use Rattle.wt_checks.specs.Groups.{is_marked, have_mark}
use Rattle.wt_checks.specs.PutBack.{is_frame, has_frame, have_frame}
use Rattle.wt_checks.proofs.Repeated.{or_false}
use Rattle.wt_typed_blocks.specs.Sent.{StandsAsIs, AllStandAsIs}
use Rattle.wt_typed_blocks.specs.Edited.{Pieces, no_pieces, gone, written, kept, around, new_style, page_pieces, text_node, sent_pieces, PiecesStay}
use Rattle.wt_typed_blocks.proofs.SentGroups.{in_group, of_style, no_mark}

mutual
  pub no_frame_sent : (t u : Tree) → StandsAsIs t u → has_frame t ≡ false → has_frame u ≡ false
  no_frame_sent (tree l ts) (tree m us) h f =
      let d = or_false (is_frame l.kind) (have_frame ts) f in
      ap (λ (k : Kind). is_frame k || have_frame us) h.0.kind ∙ ap (λ (b : Bool). b || have_frame us) d.0
      ∙ in_group (is_group l.kind) h.1 (λ e g. g.unframed) (λ e a. none_frame_sent ts us a d.1)

  none_frame_sent : (ts us : Trees) → AllStandAsIs ts us → have_frame ts ≡ false → have_frame us ≡ false
  none_frame_sent none none h f = refl
  none_frame_sent none (more u us) h f = absurd h
  none_frame_sent (more t ts) none h f = absurd h
  none_frame_sent (more t ts) (more u us) h f =
      let d = or_false (has_frame t) (have_frame ts) f in
      ap (λ (b : Bool). b || have_frame us) (no_frame_sent t u h.0 d.0) ∙ none_frame_sent ts us h.1 d.1

text_frameless : (x : Label) (text : List ℕ) (us : Trees) → have_frame us ≡ false → have_frame (text_node x text us) ≡ false
text_frameless x [] us f = f
text_frameless x (c ∷ cs) us f = f

apart_frames : (ts us : Trees) → have_frame (appended ts us) ≡ false → (have_frame ts ≡ false) × (have_frame us ≡ false)
apart_frames none us f = (refl, f)
apart_frames (more t ts) us f =
    let d = or_false (has_frame t) (have_frame (appended ts us)) f in
    let r = apart_frames ts us d.1 in
    (ap (λ (b : Bool). b || have_frame ts) d.0 ∙ r.0, r.1)

pub pieces_frameless : (ps : Pieces) → PiecesStay ps → have_frame (page_pieces ps) ≡ false → have_frame (sent_pieces ps) ≡ false
pieces_frameless no_pieces h f = refl
pieces_frameless (gone t ps) h f = pieces_frameless ps h (or_false (has_frame t) (have_frame (page_pieces ps)) f).1
pieces_frameless (written x text ps) h f = text_frameless x text (sent_pieces ps) (pieces_frameless ps h f)
pieces_frameless (kept t u ps) h f =
    let d = or_false (has_frame t) (have_frame (page_pieces ps)) f in
    ap (λ (b : Bool). b || have_frame (sent_pieces ps)) (no_frame_sent t u h.0 d.0) ∙ pieces_frameless ps h.1 d.1
pieces_frameless (around l m is ps) h f =
    let d = or_false (has_frame (tree l (page_pieces is))) (have_frame (page_pieces ps)) f in
    let own = or_false (is_frame l.kind) (have_frame (page_pieces is)) d.0 in
    ap (λ (k : Kind). (is_frame k || have_frame (sent_pieces is)) || have_frame (sent_pieces ps)) h.1.kind
    ∙ ap (λ (b : Bool). (b || have_frame (sent_pieces is)) || have_frame (sent_pieces ps)) own.0
    ∙ ap (λ (b : Bool). b || have_frame (sent_pieces ps)) (pieces_frameless is h.2 own.1)
    ∙ pieces_frameless ps h.3 d.1
pieces_frameless (new_style m is ps) h f =
    let r = apart_frames (page_pieces is) (page_pieces ps) f in
    ap (λ (b : Bool). (b || have_frame (sent_pieces is)) || have_frame (sent_pieces ps)) (of_style (λ k. is_frame k ≡ false) m.kind h.0 refl refl)
    ∙ ap (λ (b : Bool). b || have_frame (sent_pieces ps)) (pieces_frameless is h.1 r.0)
    ∙ pieces_frameless ps h.2 r.1

text_markless : (x : Label) (text : List ℕ) (us : Trees) → have_mark us ≡ false → have_mark (text_node x text us) ≡ false
text_markless x [] us f = f
text_markless x (c ∷ cs) us f = f

pub pieces_markless : (ps : Pieces) → PiecesStay ps → have_mark (sent_pieces ps) ≡ false
pieces_markless no_pieces h = refl
pieces_markless (gone t ps) h = pieces_markless ps h
pieces_markless (written x text ps) h = text_markless x text (sent_pieces ps) (pieces_markless ps h)
pieces_markless (kept t u ps) h = ap (λ (b : Bool). b || have_mark (sent_pieces ps)) (no_mark t u h.0) ∙ pieces_markless ps h.1
pieces_markless (around l m is ps) h =
    ap (λ (c : Mark). (is_marked c || have_mark (sent_pieces is)) || have_mark (sent_pieces ps)) h.1.unmarked
    ∙ ap (λ (b : Bool). b || have_mark (sent_pieces ps)) (pieces_markless is h.2)
    ∙ pieces_markless ps h.3
pieces_markless (new_style m is ps) h = ap (λ (b : Bool). b || have_mark (sent_pieces ps)) (pieces_markless is h.1) ∙ pieces_markless ps h.2
