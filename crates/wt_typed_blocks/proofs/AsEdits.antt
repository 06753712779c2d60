-- An edit that types texts is one of contents: what each of these blocks held is gone, and the text is sent in its place.
use Rattle.std.proofs.Common.{◌≡◌, ℕ, ◌+◌, Bool, false, List, [], ◌∷◌, ◌++◌, length, refl, sym, ap, ◌∙◌, subst, append-nil}
use Rattle.std.specs.Prelude.{if◌then◌else◌, Some, None}
use Rattle.std.specs.Str.{chars}
use Rattle.wt_span.specs.Origins.{Expanded}
use Rattle.wt_tree.specs.declared.kind.Kind.TheVariants as kind
use Rattle.wt_tree.specs.declared.kind.Mark.TheVariants as marks
use Rattle.wt_tree.specs.Kinds.{showing}
use Rattle.wt_tree.specs.Plain.{Plains, ended, along, element, face, text_before}
use Rattle.wt_tree.specs.Tree.{Label, Tree, tree, Trees, none, more}
use Rattle.wt_guards.specs.Content.{letters}
use Rattle.wt_guards.specs.Guards.{spelled}
use Rattle.wt_original.specs.Kept.{kept_with}
use Rattle.wt_content.specs.Content.{bad_content, has_break, first_why, break_fault}
use Rattle.wt_content.specs.declared.reason.ContentWhy.TheVariants as why
use Rattle.wt_difference.specs.Difference.{same_inside}
use Rattle.wt_link_spelling.specs.Spelling.{inline_spelling}
use Rattle.wt_selser.specs.Edits.{is_tangled}
use Rattle.wt_typed_blocks.specs.Sent.{Block, paragraph, heading, kind_of, text_in, Sent, stands, typed, holds, Sents, none_sent, more_sent, old_child, new_child, old_children, new_children, IsSent, AreSent, IsOutsideGroups, AreOutsideGroups, old_body, new_body, shows_before, show_before}
use Rattle.wt_typed_blocks.specs.Typed.{place_of, block_source, new_source, new_sources, Takes, TakesText, TakeTexts, old_source, StandsAt, StandAt, IsUntangled, AreUntangled}
use Rattle.wt_typed_blocks.specs.Unmarked.{free_child, free_children, free_body, HoldInBlocks, IsToldApart, AreToldApart}
use Rattle.wt_typed_blocks.specs.Edited.{Pieces, no_pieces, gone, written, page_pieces, sent_pieces, PiecesStay, pieces_before, Edited, stays, edited, round, Edits, no_edits, more_edits, page_node, page_nodes, sent_node, sent_nodes, IsEdited, AreEdited, IsOutside, AreOutside, page_body, sent_body, edited_before, edits_before}
use Rattle.wt_typed_blocks.specs.EditedPage.{edited_source, edited_sources, IsTaken, AreTaken, page_source, LiesAt, LieAt, IsApart, AreApart}
use Rattle.wt_typed_blocks.specs.EditedUnmarked.{bare_node, bare_nodes, bare_body, AreRoundInBlocks, AreInline, IsTold, AreTold}
use Rattle.wt_typed_blocks.proofs.EditedShows.{shown_same}

-- ---- what is sent

-- a text in place of these nodes
abbrev pub replaced : Trees → Label → List ℕ → Pieces
replaced none x text = written x text no_pieces
replaced (more t ts) x text = gone t (replaced ts x text)

abbrev mutual
  pub as_edited : Sent → Edited
  as_edited (stands t u) = stays t u
  as_edited (typed k l ts m x text) = edited k l m (replaced ts x text)
  as_edited (holds l m ss) = round l m (as_edits ss)

  pub as_edits : Sents → Edits
  as_edits none_sent = no_edits
  as_edits (more_sent s ss) = more_edits (as_edited s) (as_edits ss)

page_replaced : (ts : Trees) (x : Label) (text : List ℕ) → page_pieces (replaced ts x text) ≡ ts
page_replaced none x text = refl
page_replaced (more t ts) x text = ap (more t) (page_replaced ts x text)

sent_replaced : (ts : Trees) (x : Label) (text : List ℕ) → sent_pieces (replaced ts x text) ≡ text_in x text
sent_replaced none x [] = refl
sent_replaced none x (b ∷ bs) = refl
sent_replaced (more t ts) x text = sent_replaced ts x text

replaced_stay : (ts : Trees) (x : Label) (text : List ℕ) → PiecesStay (replaced ts x text)
replaced_stay none x text = tt
replaced_stay (more t ts) x text = replaced_stay ts x text

replaced_inline : (ts : Trees) (x : Label) (text : List ℕ) → AreInline (replaced ts x text)
replaced_inline none x text = tt
replaced_inline (more t ts) x text = replaced_inline ts x text

replaced_before : (ts : Trees) (x : Label) (text : List ℕ) (rest : Plains) → pieces_before (replaced ts x text) rest ≡ text_before text rest
replaced_before none x text rest = refl
replaced_before (more t ts) x text rest = replaced_before ts x text rest

-- ---- the nodes

abbrev block_node : Block → Label → Trees → Tree
block_node k l ts = tree (record l { kind = kind_of k }) ts

abbrev pub marked_node : Block → Label → Label → Trees → Tree
marked_node k l m us = tree (record m { kind = kind_of k; id = l.id; attrs = l.attrs; mark = marks.Content; mw = l.mw }) us

abbrev bare_block : Block → Label → Label → Trees → Tree
bare_block k l m us = tree (record m { kind = kind_of k; id = l.id; attrs = l.attrs; mw = l.mw }) us

mutual
  pub page_is : (s : Sent) → page_node (as_edited s) ≡ old_child s
  page_is (stands t u) = refl
  page_is (typed k l ts m x text) = ap (block_node k l) (page_replaced ts x text)
  page_is (holds l m ss) = ap (tree l) (pages_are ss)

  pub pages_are : (ss : Sents) → page_nodes (as_edits ss) ≡ old_children ss
  pages_are none_sent = refl
  pages_are (more_sent s ss) = ap (λ t. more t (page_nodes (as_edits ss))) (page_is s) ∙ ap (more (old_child s)) (pages_are ss)

mutual
  sent_is : (s : Sent) → sent_node (as_edited s) ≡ new_child s
  sent_is (stands t u) = refl
  sent_is (typed k l ts m x text) = ap (marked_node k l m) (sent_replaced ts x text)
  sent_is (holds l m ss) = ap (tree m) (sents_are ss)

  sents_are : (ss : Sents) → sent_nodes (as_edits ss) ≡ new_children ss
  sents_are none_sent = refl
  sents_are (more_sent s ss) = ap (λ t. more t (sent_nodes (as_edits ss))) (sent_is s) ∙ ap (more (new_child s)) (sents_are ss)

mutual
  pub bare_is : (s : Sent) → bare_node (as_edited s) ≡ free_child s
  bare_is (stands t u) = refl
  bare_is (typed k l ts m x text) = ap (bare_block k l m) (sent_replaced ts x text)
  bare_is (holds l m ss) = ap (tree m) (bares_are ss)

  bares_are : (ss : Sents) → bare_nodes (as_edits ss) ≡ free_children ss
  bares_are none_sent = refl
  bares_are (more_sent s ss) = ap (λ t. more t (bare_nodes (as_edits ss))) (bare_is s) ∙ ap (more (free_child s)) (bares_are ss)

pub page_body_is : (l : Label) (ss : Sents) → page_body l (as_edits ss) ≡ old_body l ss
page_body_is l ss = ap (λ ts. tree (record l { kind = kind.Body; id = 0 }) ts) (pages_are ss)

pub sent_body_is : (l b : Label) (ss : Sents) → sent_body l b (as_edits ss) ≡ new_body l b ss
sent_body_is l b ss =
    ap (λ ts. tree (record b { kind = kind.Body; id = 0; attrs = l.attrs; mark = marks.Nothing; mw = l.mw }) ts) (sents_are ss)

pub bare_body_is : (l b : Label) (ss : Sents) → bare_body l b (as_edits ss) ≡ free_body l b ss
bare_body_is l b ss = ap (λ ts. tree (record b { kind = kind.Body; id = 0; attrs = l.attrs; mw = l.mw }) ts) (bares_are ss)

-- ---- they are sent so

mutual
  one_edited : (s : Sent) → IsSent s → IsEdited (as_edited s)
  one_edited (stands t u) h = h
  one_edited (typed k l ts m x text) h = (h, replaced_stay ts x text)
  one_edited (holds l m ss) h = (h.0, are_edited ss h.1)

  pub are_edited : (ss : Sents) → AreSent ss → AreEdited (as_edits ss)
  are_edited none_sent h = tt
  are_edited (more_sent s ss) h = (one_edited s h.0, are_edited ss h.1)

mutual
  one_outside : (s : Sent) → IsOutsideGroups s → IsOutside (as_edited s)
  one_outside (stands t u) h = tt
  one_outside (typed k l ts m x text) h = tt
  one_outside (holds l m ss) h = (h.0, all_outside ss h.1)

  pub all_outside : (ss : Sents) → AreOutsideGroups ss → AreOutside (as_edits ss)
  all_outside none_sent h = tt
  all_outside (more_sent s ss) h = (one_outside s h.0, all_outside ss h.1)

-- ---- what they show

abbrev block_shown : Block → Label → Plains → Plains → Plains
block_shown k l qs rest = along (element (face (record l { kind = kind_of k })) qs) rest

mutual
  one_shows : (s : Sent) (rest : Plains) → edited_before (as_edited s) rest ≡ shows_before s rest
  one_shows (stands t u) rest = refl
  one_shows (typed k l ts m x text) rest = ap (λ (qs : Plains). block_shown k l qs rest) (replaced_before ts x text ended)
  one_shows (holds l m ss) rest =
      shown_same (showing l.kind) l l (λ ps. edits_before (as_edits ss) ps) (λ ps. show_before ss ps) rest (λ c. refl) refl (all_shown ss)

  pub all_shown : (ss : Sents) (rest : Plains) → edits_before (as_edits ss) rest ≡ show_before ss rest
  all_shown none_sent rest = refl
  all_shown (more_sent s ss) rest = ap (λ (qs : Plains). edited_before (as_edited s) qs) (all_shown ss rest) ∙ one_shows s (show_before ss rest)

-- ---- what is written

abbrev Same : Type 0
Same = Tree → Tree → Bool

pub typed_is : (same : Same) (k : Block) (l : Label) (ts : Trees) (m x : Label) (text : List ℕ)
    → inline_spelling same (old_child (typed k l ts m x text)) (new_child (typed k l ts m x text)) (place_of k)
    ≡ spelled (record { within = false; place = place_of k; source = block_source l ts }) (letters text)
unfolding inline_spelling kept_with chars
typed_is same paragraph l ts m x [] = refl
typed_is same paragraph l ts m x (c ∷ cs) =
    ap (spelled (record { within = false; place = place_of paragraph; source = block_source l ts })) (append-nil (letters (c ∷ cs)))
typed_is same (heading n) l ts m x [] = refl
typed_is same (heading n) l ts m x (c ∷ cs) =
    ap (spelled (record { within = false; place = place_of (heading n); source = block_source l ts })) (append-nil (letters (c ∷ cs)))

mutual
  source_is : (same : Same) (s : Sent) → edited_source same (as_edited s) ≡ new_source s
  source_is same (stands t u) = refl
  source_is same (typed k l ts m x text) =
      let s : Sent = typed k l ts m x text in
      let by : Tree → Tree → List ℕ = λ t u. l.opening ++ inline_spelling same t u (place_of k) ++ l.closing in
      ap (λ t. by t (sent_node (as_edited s))) (page_is s) ∙ ap (by (old_child s)) (sent_is s)
      ∙ ap (λ (bs : List ℕ). l.opening ++ bs ++ l.closing) (typed_is same k l ts m x text)
  source_is same (holds l m ss) = ap (λ (bs : List ℕ). l.opening ++ bs ++ l.closing) (sources_are same ss)

  pub sources_are : (same : Same) (ss : Sents) → edited_sources same (as_edits ss) ≡ new_sources ss
  sources_are same none_sent = refl
  sources_are same (more_sent s ss) =
      ap (λ (bs : List ℕ). bs ++ edited_sources same (as_edits ss)) (source_is same s) ∙ ap (λ (bs : List ℕ). new_source s ++ bs) (sources_are same ss)

-- ---- nothing is wrong in it

one_line : (text : List ℕ) → has_break text ≡ false → first_why ((break_fault false text ++ []) ++ []) ≡ None
one_line text e = ap (λ (b : Bool). first_why (((if b then why.LineBreak ∷ [] else []) ++ []) ++ [])) e

pub good : (same : Same) (k : Block) (l : Label) (ts : Trees) (m x : Label) (text : List ℕ) → Takes k text
    → bad_content same (old_child (typed k l ts m x text)) (new_child (typed k l ts m x text)) ≡ None
unfolding bad_content kept_with
good same paragraph l ts m x [] h = refl
good same paragraph l ts m x (c ∷ cs) h = refl
good same (heading n) l ts m x [] h = refl
good same (heading n) l ts m x (c ∷ cs) h = one_line (c ∷ cs) h

mutual
  one_taken : (same : Same) (s : Sent) → TakesText s → IsTaken same (as_edited s)
  one_taken same (stands t u) h = tt
  one_taken same (typed k l ts m x text) h =
      let s : Sent = typed k l ts m x text in
      ap (λ t. bad_content same t (sent_node (as_edited s))) (page_is s) ∙ ap (bad_content same (old_child s)) (sent_is s) ∙ good same k l ts m x text h
  one_taken same (holds l m ss) h = are_taken same ss h

  pub are_taken : (same : Same) (ss : Sents) → TakeTexts ss → AreTaken same (as_edits ss)
  are_taken same none_sent h = tt
  are_taken same (more_sent s ss) h = (one_taken same s h.0, are_taken same ss h.1)

-- ---- where they are

page_source_is : (s : Sent) → page_source (as_edited s) ≡ old_source s
page_source_is (stands t u) = refl
page_source_is (typed k l ts m x text) = ap (block_source l) (page_replaced ts x text)
page_source_is (holds l m ss) = ap (block_source l) (pages_are ss)

abbrev SaysWhere : Label → ℕ → Trees → Type 0
SaysWhere l at ts = l.ranges ≡ Some (record { start = at; end = at + length (block_source l ts); open_w = length l.opening; close_w = length l.closing })

mutual
  one_lies : (at : ℕ) (s : Sent) → StandsAt at s → LiesAt at (as_edited s)
  one_lies at (stands t u) h = tt
  one_lies at (typed k l ts m x text) h = subst (SaysWhere l at) (sym (page_replaced ts x text)) h
  one_lies at (holds l m ss) h = (h.0, all_lie (at + length l.opening) ss h.1)

  pub all_lie : (at : ℕ) (ss : Sents) → StandAt at ss → LieAt at (as_edits ss)
  all_lie at none_sent h = tt
  all_lie at (more_sent s ss) h = (
    one_lies at s h.0,
    subst (λ (bs : List ℕ). LieAt (at + length bs) (as_edits ss)) (sym (page_source_is s)) (all_lie (at + length (old_source s)) ss h.1),
  )

mutual
  one_apart : (items : Expanded) (page : List ℕ) (s : Sent) → IsUntangled items page s → IsApart items page (as_edited s)
  one_apart items page (stands t u) h = tt
  one_apart items page (typed k l ts m x text) h = ap (is_tangled items page) (page_is (typed k l ts m x text)) ∙ h
  one_apart items page (holds l m ss) h = all_apart items page ss h

  pub all_apart : (items : Expanded) (page : List ℕ) (ss : Sents) → AreUntangled items page ss → AreApart items page (as_edits ss)
  all_apart items page none_sent h = tt
  all_apart items page (more_sent s ss) h = (one_apart items page s h.0, all_apart items page ss h.1)

-- ---- what the difference finds

blocks_round : (ss : Sents) → HoldInBlocks ss → AreRoundInBlocks (as_edits ss)
blocks_round none_sent h = tt
blocks_round (more_sent (stands t u) ss) h = blocks_round ss h
blocks_round (more_sent (typed k l ts m x text) ss) h = blocks_round ss h
blocks_round (more_sent (holds l m rs) ss) h = (h.0, blocks_round ss h.1)

mutual
  one_told : (s : Sent) → IsToldApart s → IsTold (as_edited s)
  one_told (stands t u) h = h
  one_told (typed k l ts m x text) h =
      let s : Sent = typed k l ts m x text in (
        ap (λ t. same_inside t (bare_node (as_edited s))) (page_is s) ∙ ap (same_inside (old_child s)) (bare_is s) ∙ h,
        replaced_inline ts x text,
      )
  one_told (holds l m ss) h = (
    record { own = h.0.own; numbered = h.0.numbered; part = h.0.part; behind_text = λ e. blocks_round ss (h.0.behind_text e) },
    all_told ss h.1,
  )

  pub all_told : (ss : Sents) → AreToldApart ss → AreTold (as_edits ss)
  all_told none_sent h = tt
  all_told (more_sent s ss) h = (one_told s h.0, all_told ss h.1)
