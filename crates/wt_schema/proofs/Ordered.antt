-- Where texts may not stand there is none but separators, and what is inline stands before blocks.
use Rattle.std.proofs.Common.{◌≡◌, ℕ, suc, Bool, true, false, List, [], ◌∷◌, refl, sym, ap, ap₂, ◌∙◌, inl, inr, ◌⊎◌, ◌+◌}
use Rattle.std.specs.Prelude.{not, ◌||◌, ◌&&◌, if◌then◌else◌}
use Rattle.wt_tree.specs.declared.kind.Kind.{Kind}
use Rattle.wt_tree.specs.declared.kind.Kind.TheVariants as kind
use Rattle.wt_tree.specs.Kinds.{shape, is_class, is_anywhere, admits, is_block, is_inline, may_follow, may_hold, texts_of_kind, writing}
use Rattle.wt_tree.specs.Plain.{text as characters, element as face_of, Plains, ended, along}
use Rattle.wt_tree.specs.Tree.{Label, Tree, tree, Trees, none as no_trees, more as one_more}
use Rattle.wt_tree.specs.Tiling.{is_group}
use Rattle.wt_recut.specs.Recut.{is_white, is_blank, is_as_text, shows_block, any_shows_block}
use Rattle.wt_tree.specs.declared.row.Placement.{Placement}
use Rattle.wt_tree.specs.declared.row.Placement.TheVariants.{Block, List as ListClass, Inline, Character}
use Rattle.wt_tree.specs.declared.row.Holding.{Holding}
use Rattle.wt_tree.specs.declared.row.Holding.TheVariants as holding
use Rattle.wt_tree.specs.declared.row.Texts.{Texts}
use Rattle.wt_tree.specs.declared.row.Texts.TheVariants.{Separators, Page, Bordered, OwnCharacter}
use Rattle.wt_tree.specs.declared.row.Writing.{Writing}
use Rattle.wt_tree.specs.declared.row.Writing.TheVariants.{AsText, AsVoid, RoundCharacter, RoundChildren, AsSection, Unwritten}
use Rattle.wt_schema.specs.Html.{groups}
use Rattle.wt_html_grammar.specs.Markup.{Markups, text, node, empty, more}
use Rattle.wt_html_grammar.proofs.Steps.{if_false}
use Rattle.wt_html_grammar.proofs.Reading.{and_true}
use Rattle.wt_schema.specs.Rows.{holds_text}
use Rattle.wt_schema.specs.Groups.{is_span}
use Rattle.std.proofs.lemmas.List.Folds.{list_all-append}
use Rattle.wt_schema.specs.Fit.{are_blank, text_fits}
use Rattle.wt_schema.specs.GroupNodes.{elements_for, inner_nodes, is_ended, is_empty_span, all_follow}
use Rattle.wt_schema.specs.Written.{goes_behind, are_ordered, IsCutIn, IsWrittenGroup, TopsIn, is_childless, NodeIsWritten, WrittenIn, AllWrittenIn}
use Rattle.wt_schema.proofs.Faces.{or_held}
use Rattle.wt_schema.proofs.Tags.{text_before}
use Rattle.wt_schema.proofs.GroupItems.{group_markups, top_told}
use Rattle.wt_schema.proofs.Elements.{is_written, not_group, Inside, marked_up, markup_before, markups_of}
use Rattle.wt_schema.proofs.GroupFits.{group_blank}
use Rattle.wt_schema.proofs.Merged.{is_bordered}

-- ---- separators where no text may stand

and_left : (a b : Bool) → (a && b) ≡ true → a ≡ true
and_left true b e = refl
and_left false b e = absurd (cc e)

and_right : (a b : Bool) → (a && b) ≡ true → b ≡ true
and_right true b e = e
and_right false b e = absurd (cc e)

blank_text : (own : List ℕ) (ms : Markups) → is_blank own ≡ true → are_blank ms ≡ true → are_blank (text_before own ms) ≡ true
blank_text [] ms e f = f
blank_text (b ∷ bs) empty e f = and_true _ _ e refl
blank_text (b ∷ bs) (more (text cs) ms) e f =
    and_true _ _ (list_all-append is_white (b ∷ bs) cs ∙ and_true _ _ e (and_left (is_blank cs) (are_blank ms) f)) (and_right (is_blank cs) (are_blank ms) f)
blank_text (b ∷ bs) (more (node name ps c) ms) e f = and_true _ _ e f

blank_by : (w : Writing) (k : ℕ) (parent : Kind) (l : Label) (childless : Bool) (H G : Type 0) (inside group rest : Markups) → holds_text parent ≡ false
    → NodeIsWritten w k parent l childless H G → are_blank rest ≡ true → are_blank group ≡ true → are_blank (marked_up w l inside group rest) ≡ true
blank_by AsText k parent l childless H G inside group rest e h f g = blank_text l.own rest (sym (if_false (holds_text parent) _ _ e) ∙ h.0.stands) f
blank_by AsVoid k parent l childless H G inside group rest e h f g = f
blank_by RoundCharacter k parent l childless H G inside group rest e h f g = f
blank_by RoundChildren k parent l childless H G inside group rest e h f g = f
blank_by (AsSection n) k parent l childless H G inside group rest e h f g = f
blank_by Unwritten k parent l childless H G inside group rest e h f g = g

pub blank_before : (t : Tree) (k : ℕ) (parent : Kind) (i : ℕ) (rest : Markups) → holds_text parent ≡ false → WrittenIn k parent t
    → are_blank rest ≡ true → are_blank (markup_before i t rest) ≡ true
blank_before (tree l ts) k parent i rest e h f =
    blank_by (writing l.kind) k parent l (is_childless ts) (Inside k l.kind ts) (IsWrittenGroup k parent l ts) (markups_of i ts)
    (group_markups true (suc i) l (elements_for ts) rest) rest e h f (group_blank (elements_for ts) true (suc i) l rest f)

all_blank : (ts : Trees) (k : ℕ) (parent : Kind) (i : ℕ) → holds_text parent ≡ false → AllWrittenIn k parent ts → are_blank (markups_of i ts) ≡ true
all_blank no_trees k parent i e h = refl
all_blank (one_more t ts) k parent i e h =
    blank_before t k parent i (markups_of (i + groups t) ts) e h.0 (all_blank ts k parent (i + groups t) e h.2)

pub texts_fit : (ts : Trees) (k : ℕ) (parent : Kind) (i : ℕ) → AllWrittenIn k parent ts → text_fits parent (markups_of i ts) ≡ true
texts_fit ts k parent i h = by_test (holds_text parent) refl
  where
    by_test : (b : Bool) → holds_text parent ≡ b → (b || are_blank (markups_of i ts)) ≡ true
    by_test true e = refl
    by_test false e = all_blank ts k parent i e h

-- ---- the order of children

-- of the classes that one kind holds either none is inline or none is a block, but for items, cells and captions
blocks_alone : (c : Placement) → (is_anywhere c || admits holding.Blocks c) ≡ true → (is_class c Inline || is_class c Character) ≡ false
blocks_alone Inline e = cc
blocks_alone Character e = cc
blocks_alone c e = refl

abbrev holds_blocks : Holding → Bool
holds_blocks holding.NoElements = false
holds_blocks holding.Blocks = true
holds_blocks holding.Inlines = false
holds_blocks holding.Entities = false
holds_blocks holding.Items = false
holds_blocks holding.Terms = false
holds_blocks holding.TableParts = false
holds_blocks holding.TableRows = false
holds_blocks holding.Cells = false
holds_blocks holding.InlinesThenLists = true
holds_blocks holding.InlinesThenBlocks = true

no_block : (h : Holding) (c : Placement) → holds_blocks h ≡ false → (is_anywhere c || admits h c) ≡ true → (is_class c Block || is_class c ListClass) ≡ false
no_block holding.NoElements Block m e = cc
no_block holding.Inlines Block m e = cc
no_block holding.Entities Block m e = cc
no_block holding.Items Block m e = cc
no_block holding.Terms Block m e = cc
no_block holding.TableParts Block m e = cc
no_block holding.TableRows Block m e = cc
no_block holding.Cells Block m e = cc
no_block holding.NoElements ListClass m e = cc
no_block holding.Inlines ListClass m e = cc
no_block holding.Entities ListClass m e = cc
no_block holding.Items ListClass m e = cc
no_block holding.Terms ListClass m e = cc
no_block holding.TableParts ListClass m e = cc
no_block holding.TableRows ListClass m e = cc
no_block holding.Cells ListClass m e = cc
no_block holding.Blocks c m e = cc
no_block holding.InlinesThenLists c m e = cc
no_block holding.InlinesThenBlocks c m e = cc
no_block h c m e = refl

-- texts and separators are neither
pub text_class : (k : Kind) → is_as_text (writing k) ≡ true → (is_inline k ≡ false) × (is_block k ≡ false)
text_class kind.Sep e = (refl, refl)
text_class kind.Text e = (refl, refl)
text_class k e = absurd cc

-- an item, a cell or a caption alone holds both
unmixed : (k : Kind) → is_bordered (texts_of_kind k) ≡ false → ((shape k).holding ≡ holding.Blocks) ⊎ (holds_blocks (shape k).holding ≡ false)
unmixed kind.Body e = inl refl
unmixed (kind.Section n) e = inl refl
unmixed kind.Li e = absurd cc
unmixed kind.Dt e = absurd cc
unmixed kind.Dd e = absurd cc
unmixed kind.Caption e = absurd cc
unmixed kind.Td e = absurd cc
unmixed kind.Th e = absurd cc
unmixed k e = inr refl

-- a group stands among blocks alone, or among none
pub not_and : (b c : Bool) → c ≡ false → not (b && c) ≡ true
not_and true c e = ap not e
not_and false c e = refl

among_blocks : (parent k : Kind) → (shape parent).holding ≡ holding.Blocks → may_hold parent k ≡ true → is_inline k ≡ false
among_blocks parent k b h = blocks_alone (shape k).class (ap (λ x. is_anywhere (shape k).class || admits x (shape k).class) (sym b) ∙ h)

top_follows : (parent k : Kind) (e behind : Bool) → (shape parent).holding ≡ holding.Blocks → (may_hold parent k || e) ≡ true
    → (may_follow behind k || e) ≡ true
top_follows parent k e behind b h = by_test (may_hold parent k) refl h
  where
    or_true : (x : Bool) → (x || true) ≡ true
    or_true true = refl
    or_true false = refl

    by_test : (t : Bool) → may_hold parent k ≡ t → (t || e) ≡ true → (may_follow behind k || e) ≡ true
    by_test true u h = ap (λ x. x || e) (not_and behind (is_inline k) (among_blocks parent k b u))
    by_test false u h = ap (λ x. may_follow behind k || x) h ∙ or_true (may_follow behind k)

tops_follow : (es : Plains) (k : ℕ) (parent : Kind) (behind : Bool) → (shape parent).holding ≡ holding.Blocks → TopsIn k parent es → all_follow behind es ≡ true
tops_follow ended k parent behind b h = refl
tops_follow (along (characters bs) ps) k parent behind b h = absurd h.0
tops_follow (along (face_of f qs) ps) k parent behind b h =
    and_true _ _ (top_follows parent f.kind (is_empty_span f qs) behind b h.0.0) (tops_follow ps k parent (behind || is_block f.kind) b h.1)

span_block : (k : Kind) → is_span k ≡ true → is_block k ≡ false
span_block (kind.Tag t) e = refl
span_block k e = absurd cc

top_no_block : (parent k : Kind) (e : Bool) → holds_blocks (shape parent).holding ≡ false → (may_hold parent k || (is_span k && e)) ≡ true → is_block k ≡ false
top_no_block parent k e b h = by_test (may_hold parent k) refl
  where
    by_test : (t : Bool) → may_hold parent k ≡ t → is_block k ≡ false
    by_test true u = no_block (shape parent).holding (shape k).class b u
    by_test false u = span_block k (or_held (may_hold parent k) (is_span k) e h u)

no_block_among : (es : Plains) (k : ℕ) (parent : Kind) → holds_blocks (shape parent).holding ≡ false → TopsIn k parent es
    → (all_follow false es ≡ true) × (any_shows_block (inner_nodes es) ≡ false)
no_block_among ended k parent b h = (refl, refl)
no_block_among (along (characters bs) ps) k parent b h = absurd h.0
no_block_among (along (face_of f qs) ps) k parent b h =
    let r = no_block_among ps k parent b h.1 in
    let e : is_block f.kind ≡ false = top_no_block parent f.kind (is_ended qs) b h.0.0 in
    let t = top_told parent f qs k h.0 in (
      ap (λ x. all_follow x ps) e ∙ r.0,
      ap₂ (λ x y. x || y) (if_false (is_group f.kind) _ _ t.other ∙ e) r.1,
    )

-- a node that is no group
pub shows_is : (l : Label) (ts : Trees) → is_group l.kind ≡ false → shows_block (tree l ts) ≡ is_block l.kind
shows_is l ts e = if_false (is_group l.kind) _ _ e

pub goes_is : (behind : Bool) (l : Label) (ts : Trees) → is_group l.kind ≡ false → goes_behind behind (tree l ts) ≡ may_follow behind l.kind
goes_is behind l ts e = if_false (is_group l.kind) _ _ e

-- and one that is
pub group_goes : (behind : Bool) (l : Label) (ts : Trees) → l.kind ≡ kind.Group → goes_behind behind (tree l ts) ≡ all_follow behind (elements_for ts)
group_goes behind l ts e = ap (λ j. if is_group j then all_follow behind (elements_for ts) else may_follow behind l.kind) e

pub group_shows : (l : Label) (ts : Trees) → l.kind ≡ kind.Group → shows_block (tree l ts) ≡ any_shows_block ts
group_shows l ts e = ap (λ j. if is_group j then any_shows_block ts else is_block l.kind) e

goes_by : (w : Writing) (k : ℕ) (parent : Kind) (l : Label) (childless : Bool) (H : Type 0) (ts : Trees) (behind : Bool) → writing l.kind ≡ w
    → (shape parent).holding ≡ holding.Blocks → NodeIsWritten w k parent l childless H (IsWrittenGroup k parent l ts)
    → goes_behind behind (tree l ts) ≡ true
goes_by AsText k parent l childless H ts behind e b h =
    goes_is behind l ts (not_group l.kind (ap is_written e)) ∙ not_and behind (is_inline l.kind) (text_class l.kind (ap is_as_text e)).0
goes_by AsVoid k parent l childless H ts behind e b h =
    goes_is behind l ts (not_group l.kind (ap is_written e)) ∙ not_and behind (is_inline l.kind) (among_blocks parent l.kind b h.1)
goes_by RoundCharacter k parent l childless H ts behind e b h =
    goes_is behind l ts (not_group l.kind (ap is_written e)) ∙ not_and behind (is_inline l.kind) (among_blocks parent l.kind b h.1)
goes_by RoundChildren k parent l childless H ts behind e b h =
    goes_is behind l ts (not_group l.kind (ap is_written e)) ∙ not_and behind (is_inline l.kind) (among_blocks parent l.kind b h.1)
goes_by (AsSection n) k parent l childless H ts behind e b h = absurd h
goes_by Unwritten k parent l childless H ts behind e b h =
    group_goes behind l ts h.label.kind ∙ tops_follow (elements_for ts) k parent behind b h.elements

none_by : (w : Writing) (k : ℕ) (parent : Kind) (l : Label) (childless : Bool) (H : Type 0) (ts : Trees) → writing l.kind ≡ w
    → holds_blocks (shape parent).holding ≡ false → NodeIsWritten w k parent l childless H (IsWrittenGroup k parent l ts)
    → (goes_behind false (tree l ts) ≡ true) × (shows_block (tree l ts) ≡ false)
none_by AsText k parent l childless H ts e b h =
    let g = not_group l.kind (ap is_written e) in (goes_is false l ts g, shows_is l ts g ∙ (text_class l.kind (ap is_as_text e)).1)
none_by AsVoid k parent l childless H ts e b h =
    let g = not_group l.kind (ap is_written e) in (goes_is false l ts g, shows_is l ts g ∙ no_block (shape parent).holding (shape l.kind).class b h.1)
none_by RoundCharacter k parent l childless H ts e b h =
    let g = not_group l.kind (ap is_written e) in (goes_is false l ts g, shows_is l ts g ∙ no_block (shape parent).holding (shape l.kind).class b h.1)
none_by RoundChildren k parent l childless H ts e b h =
    let g = not_group l.kind (ap is_written e) in (goes_is false l ts g, shows_is l ts g ∙ no_block (shape parent).holding (shape l.kind).class b h.1)
none_by (AsSection n) k parent l childless H ts e b h = absurd h
none_by Unwritten k parent l childless H ts e b h =
    let r = no_block_among (elements_for ts) k parent b h.elements in
    (group_goes false l ts h.label.kind ∙ r.0, group_shows l ts h.label.kind ∙ sym h.blocks ∙ r.1)

pub goes : (t : Tree) (k : ℕ) (parent : Kind) (behind : Bool) → (shape parent).holding ≡ holding.Blocks → WrittenIn k parent t → goes_behind behind t ≡ true
goes (tree l ts) k parent behind b h = goes_by (writing l.kind) k parent l (is_childless ts) (Inside k l.kind ts) ts behind refl b h

none_block : (t : Tree) (k : ℕ) (parent : Kind) → holds_blocks (shape parent).holding ≡ false → WrittenIn k parent t
    → (goes_behind false t ≡ true) × (shows_block t ≡ false)
none_block (tree l ts) k parent b h = none_by (writing l.kind) k parent l (is_childless ts) (Inside k l.kind ts) ts refl b h

blocks_ordered : (ts : Trees) (k : ℕ) (parent : Kind) (behind : Bool) → (shape parent).holding ≡ holding.Blocks
    → AllWrittenIn k parent ts → are_ordered behind ts ≡ true
blocks_ordered no_trees k parent behind b h = refl
blocks_ordered (one_more t ts) k parent behind b h =
    and_true _ _ (goes t k parent behind b h.0) (blocks_ordered ts k parent (behind || shows_block t) b h.2)

others_ordered : (ts : Trees) (k : ℕ) (parent : Kind) → holds_blocks (shape parent).holding ≡ false → AllWrittenIn k parent ts → are_ordered false ts ≡ true
others_ordered no_trees k parent b h = refl
others_ordered (one_more t ts) k parent b h =
    let r = none_block t k parent b h.0 in and_true _ _ r.0 (ap (λ x. are_ordered x ts) r.1 ∙ others_ordered ts k parent b h.2)

plain_ordered : (ts : Trees) (k : ℕ) (parent : Kind) → is_bordered (texts_of_kind parent) ≡ false → AllWrittenIn k parent ts → are_ordered false ts ≡ true
plain_ordered ts k parent e h = by_holding (unmixed parent e)
  where
    by_holding : ((shape parent).holding ≡ holding.Blocks) ⊎ (holds_blocks (shape parent).holding ≡ false) → are_ordered false ts ≡ true
    by_holding (inl b) = blocks_ordered ts k parent false b h
    by_holding (inr b) = others_ordered ts k parent b h

pub ordered_in : (x : Texts) (k : ℕ) (parent : Kind) (ts : Trees) → texts_of_kind parent ≡ x → IsCutIn x ts
    → AllWrittenIn k parent ts → are_ordered false ts ≡ true
ordered_in Separators k parent ts e c h = plain_ordered ts k parent (ap is_bordered e) h
ordered_in Page k parent ts e c h = plain_ordered ts k parent (ap is_bordered e) h
ordered_in Bordered k parent ts e c h = c.1
ordered_in OwnCharacter k parent ts e c h = plain_ordered ts k parent (ap is_bordered e) h
