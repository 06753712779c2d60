-- Texts that stand beside each other are read as one, and cut again at their border.
use Rattle.std.proofs.Common.{◌≡◌, ℕ, Bool, true, false, None, List, [], ◌∷◌, refl, sym, ap, ap₂, ◌∙◌, append-nil, append_assoc, ◌++◌}
use Rattle.std.specs.Prelude.{◌&&◌, if◌then◌else◌}
use Rattle.std.proofs.lemmas.Bool.{true≢false}
use Rattle.wt_tree.specs.declared.kind.Kind.{Kind}
use Rattle.wt_tree.specs.Kinds.{texts_of_kind, writing}
use Rattle.wt_tree.specs.Tree.{Label, Tree, tree, Trees, none as no_trees, more as one_more, label}
use Rattle.wt_tree.specs.Leaves.{leaf_label, sep_leaf}
use Rattle.wt_recut.specs.Recut.{is_as_text, is_text, text_onto, onto, joined_texts, cut_from, recut}
use Rattle.wt_recut.specs.Cutting.{begins_with_text}
use Rattle.wt_tree.specs.declared.row.Texts.{Texts}
use Rattle.wt_tree.specs.declared.row.Texts.TheVariants.{Separators, Page, Bordered, OwnCharacter}
use Rattle.wt_tree.specs.declared.row.Writing.{Writing}
use Rattle.wt_tree.specs.declared.row.Writing.TheVariants.{AsText, AsVoid, RoundCharacter, RoundChildren, AsSection, Unwritten}
use Rattle.wt_html_grammar.proofs.Steps.{if_true, if_false}
use Rattle.wt_schema.specs.Fit.{held_as}
use Rattle.wt_schema.specs.Written.{ranges_read, label_read, unranged, unranged_all, shown_of, leaf_kind, HasLeafKind, IsTextIn, joins, IsCutIn, IsWrittenGroup, is_childless, NodeIsWritten, WrittenIn, AllWrittenIn}
use Rattle.wt_schema.proofs.Bare.{SameBlocks, AllSame, others_read, recut_same}
use Rattle.wt_schema.proofs.Elements.{is_written, not_group, Inside}
use Rattle.wt_schema.proofs.Steps.{leaf_as_text, leaf_of, leaf_text}

-- a text before others, which is read as one with a text that follows
abbrev pub merged_text : Kind → List ℕ → Trees → Trees
merged_text parent own no_trees = one_more (leaf_of parent own) no_trees
merged_text parent own (one_more t ts) = if is_text t then one_more (leaf_of parent (own ++ (label t).own)) ts else
    one_more (leaf_of parent own) (one_more t ts)

abbrev pub merged : Kind → Trees → Trees
merged parent no_trees = no_trees
merged parent (one_more t ts) = if is_text t then merged_text parent (label t).own (merged parent ts) else one_more t (merged parent ts)

pub merged_twice : (parent : Kind) (bs cs : List ℕ) (ts : Trees) → merged_text parent bs (merged_text parent cs ts) ≡ merged_text parent (bs ++ cs) ts
merged_twice parent bs cs no_trees = if_true (is_text (leaf_of parent cs)) _ _ (leaf_text parent cs)
merged_twice parent bs cs (one_more t ts) = by_test (is_text t)
  where
    by_test : (x : Bool)
        → merged_text parent bs (if x then one_more (leaf_of parent (cs ++ (label t).own)) ts else one_more (leaf_of parent cs) (one_more t ts))
        ≡ (if x then one_more (leaf_of parent ((bs ++ cs) ++ (label t).own)) ts else one_more (leaf_of parent (bs ++ cs)) (one_more t ts))
    by_test true =
        if_true (is_text (leaf_of parent (cs ++ (label t).own))) _ _ (leaf_text parent (cs ++ (label t).own))
        ∙ ap (λ x. one_more (leaf_of parent x) ts) (sym (append_assoc bs cs (label t).own))
    by_test false = if_true (is_text (leaf_of parent cs)) _ _ (leaf_text parent cs)

unranged_text : (t : Tree) → is_text (unranged t) ≡ is_text t
unranged_text (tree l ts) = refl

unranged_own : (t : Tree) → (label (unranged t)).own ≡ (label t).own
unranged_own (tree l ts) = refl

pub no_children : (ts : Trees) → is_childless ts ≡ true → unranged_all ts ≡ no_trees
no_children no_trees h = refl
no_children (one_more t ts) h = absurd cc

-- ---- children, as they are cut

abbrev pub is_bordered : Texts → Bool
is_bordered Separators = false
is_bordered Page = false
is_bordered Bordered = true
is_bordered OwnCharacter = false

-- where a text and a separator don't stand beside each other, each is read as it is
pub text_label : (parent : Kind) (l : Label) → l.kind ≡ leaf_kind parent → IsTextIn parent l
    → leaf_label (leaf_kind parent) None l.own (shown_of (leaf_kind parent) l.own) ≡ label_read l
text_label parent l e h =
    let w : writing l.kind ≡ AsText = ap writing e ∙ leaf_as_text parent in
    rw (w, h.shown, e, h.id, h.opening, h.closing, h.attrs, h.origin, h.mark, h.mw)

pub plain_kind : (x : Texts) (j k : Kind) → is_bordered x ≡ false → HasLeafKind x j k → k ≡ j
plain_kind Separators j k e h = h
plain_kind Page j k e h = h
plain_kind Bordered j k e h = absurd (cc e)
plain_kind OwnCharacter j k e h = h

plain_joins : (x : Texts) (b : Bool) → is_bordered x ≡ false → joins x b ≡ b
plain_joins Separators b e = refl
plain_joins Page b e = refl
plain_joins Bordered b e = absurd (cc e)
plain_joins OwnCharacter b e = refl

merged_alone : (parent : Kind) (own : List ℕ) (ts : Trees) → begins_with_text ts ≡ false
    → merged_text parent own (unranged_all ts) ≡ one_more (leaf_of parent own) (unranged_all ts)
merged_alone parent own no_trees e = refl
merged_alone parent own (one_more t ts) e = if_false (is_text (unranged t)) _ _ (unranged_text t ∙ e)

alone_by : (w : Writing) (k : ℕ) (parent : Kind) (l : Label) (us ts : Trees) (H G : Type 0) → writing l.kind ≡ w
    → is_bordered (texts_of_kind parent) ≡ false → NodeIsWritten w k parent l (is_childless us) H G
    → (is_as_text w && begins_with_text ts) ≡ false
    → (if is_as_text w then merged_text parent l.own (unranged_all ts) else one_more (unranged (tree l us)) (unranged_all ts))
    ≡ one_more (unranged (tree l us)) (unranged_all ts)
alone_by AsText k parent l us ts H G e b h a =
    merged_alone parent l.own ts a
    ∙ ap₂ (λ x y. one_more (tree x y) (unranged_all ts))
    (text_label parent l (plain_kind (texts_of_kind parent) (leaf_kind parent) l.kind b h.0.kind) h.0) (sym (no_children us h.1))
    ∙ ap (λ t. one_more t (unranged_all ts)) (sym (others_read l us (not_group l.kind (ap is_written e))))
alone_by AsVoid k parent l us ts H G e b h a = refl
alone_by RoundCharacter k parent l us ts H G e b h a = refl
alone_by RoundChildren k parent l us ts H G e b h a = refl
alone_by (AsSection n) k parent l us ts H G e b h a = refl
alone_by Unwritten k parent l us ts H G e b h a = refl

alone_read : (k : ℕ) (parent : Kind) (t : Tree) (ts : Trees) → is_bordered (texts_of_kind parent) ≡ false → WrittenIn k parent t
    → (is_text t && begins_with_text ts) ≡ false
    → (if is_text t then merged_text parent (label (unranged t)).own (unranged_all ts) else
    one_more (unranged t) (unranged_all ts)) ≡ one_more (unranged t) (unranged_all ts)
alone_read k parent (tree l us) ts b h a =
    alone_by (writing l.kind) k parent l us ts (Inside k l.kind us) (IsWrittenGroup k parent l us) refl b h a

plain_read : (ts : Trees) (k : ℕ) (parent : Kind) → is_bordered (texts_of_kind parent) ≡ false → AllWrittenIn k parent ts
    → merged parent (unranged_all ts) ≡ unranged_all ts
plain_read no_trees k parent b h = refl
plain_read (one_more t ts) k parent b h =
    ap (λ x. if x then merged_text parent (label (unranged t)).own (merged parent (unranged_all ts)) else
    one_more (unranged t) (merged parent (unranged_all ts))) (unranged_text t)
    ∙ ap (λ us. if is_text t then merged_text parent (label (unranged t)).own us else one_more (unranged t) us) (plain_read ts k parent b h.2)
    ∙ alone_read k parent t ts b h.0 (sym (plain_joins (texts_of_kind parent) (is_text t && begins_with_text ts) b) ∙ h.1)

-- texts and separators have no ranges
abbrev AllUnranged : Trees → Type 0
AllUnranged no_trees = Unit {0}
AllUnranged (one_more t ts) = (is_text t ≡ true → (label t).ranges ≡ None) × AllUnranged ts

one_unranged : (t : Tree) → is_text (unranged t) ≡ true → (label (unranged t)).ranges ≡ None
one_unranged (tree l us) e = by_writing (writing l.kind) e
  where
    by_writing : (w : Writing) → is_as_text w ≡ true → ranges_read w l.ranges ≡ None
    by_writing AsText e = refl
    by_writing AsVoid e = absurd (cc e)
    by_writing RoundCharacter e = absurd (cc e)
    by_writing RoundChildren e = absurd (cc e)
    by_writing (AsSection n) e = absurd (cc e)
    by_writing Unwritten e = absurd (cc e)

merged_unranged : (parent : Kind) (own : List ℕ) (ts : Trees) → AllUnranged ts → AllUnranged (merged_text parent own ts)
merged_unranged parent own no_trees h = ((λ e. refl), tt)
merged_unranged parent own (one_more t ts) h = by_test (is_text t)
  where
    by_test : (x : Bool) → AllUnranged (if x then one_more (leaf_of parent (own ++ (label t).own)) ts else one_more (leaf_of parent own) (one_more t ts))
    by_test true = ((λ e. refl), h.1)
    by_test false = ((λ e. refl), h)

onto_twice : (bs cs : List ℕ) (ts : Trees) → text_onto None bs (text_onto None cs ts) ≡ text_onto None (bs ++ cs) ts
onto_twice [] cs ts = refl
onto_twice (b ∷ bs) [] ts = ap (λ (xs : List ℕ). text_onto None (b ∷ xs) ts) (sym (append-nil bs))
onto_twice (b ∷ bs) (c ∷ cs) no_trees = refl
onto_twice (b ∷ bs) (c ∷ cs) (one_more t ts) = by_test (is_text t)
  where
    by_test : (x : Bool)
        → text_onto None (b ∷ bs) (if x then one_more (sep_leaf None ((c ∷ cs) ++ (label t).own)) ts else one_more (sep_leaf None (c ∷ cs)) (one_more t ts))
        ≡ (if x then one_more (sep_leaf None (((b ∷ bs) ++ (c ∷ cs)) ++ (label t).own)) ts else one_more (sep_leaf None ((b ∷ bs) ++ (c ∷ cs))) (one_more t ts))
    by_test true = ap (λ x. one_more (sep_leaf None x) ts) (sym (append_assoc (b ∷ bs) (c ∷ cs) (label t).own))
    by_test false = refl

-- where they do, what is read joins to the same texts
merged_onto : (parent : Kind) (own : List ℕ) (ts : Trees) → AllUnranged ts → joined_texts (merged_text parent own ts) ≡ text_onto None own (joined_texts ts)
merged_onto parent own no_trees h = if_true (is_text (leaf_of parent own)) _ _ (leaf_text parent own)
merged_onto parent own (one_more t ts) h = by_test (is_text t) refl
  where
    by_test : (x : Bool) → is_text t ≡ x
        → joined_texts (if x then one_more (leaf_of parent (own ++ (label t).own)) ts else
        one_more (leaf_of parent own) (one_more t ts)) ≡ text_onto None own (onto t (joined_texts ts))
    by_test true e =
        if_true (is_text (leaf_of parent (own ++ (label t).own))) _ _ (leaf_text parent (own ++ (label t).own))
        ∙ sym (onto_twice own (label t).own (joined_texts ts))
        ∙ ap (text_onto None own) (ap (λ r. text_onto r (label t).own (joined_texts ts)) (sym (h.0 e)) ∙ sym (if_true (is_text t) _ _ e))
    by_test false e = if_true (is_text (leaf_of parent own)) _ _ (leaf_text parent own)

merged_joins : (parent : Kind) (ts : Trees) → AllUnranged ts → (joined_texts (merged parent ts) ≡ joined_texts ts) × AllUnranged (merged parent ts)
merged_joins parent no_trees h = (refl, tt)
merged_joins parent (one_more t ts) h = by_test (is_text t) refl (merged_joins parent ts h.1)
  where
    by_test : (x : Bool) → is_text t ≡ x → (joined_texts (merged parent ts) ≡ joined_texts ts) × AllUnranged (merged parent ts)
        → (joined_texts (if x then merged_text parent (label t).own (merged parent ts) else one_more t (merged parent ts)) ≡ onto t (joined_texts ts))
        × AllUnranged (if x then merged_text parent (label t).own (merged parent ts) else one_more t (merged parent ts))
    by_test true e rest = (
      merged_onto parent (label t).own (merged parent ts) rest.1 ∙ ap (text_onto None (label t).own) rest.0
          ∙ ap (λ r. text_onto r (label t).own (joined_texts ts)) (sym (h.0 e)) ∙ sym (if_true (is_text t) _ _ e),
      merged_unranged parent (label t).own (merged parent ts) rest.1,
    )
    by_test false e rest = (ap (onto t) rest.0, (h.0, rest.1))

all_unranged : (ts : Trees) → AllUnranged (unranged_all ts)
all_unranged no_trees = tt
all_unranged (one_more t ts) = (one_unranged t, all_unranged ts)

-- a group that is written shows a block where one of its elements is one
blocks_by : (w : Writing) (k : ℕ) (parent : Kind) (l : Label) (childless : Bool) (H : Type 0) (ts : Trees) → writing l.kind ≡ w
    → NodeIsWritten w k parent l childless H (IsWrittenGroup k parent l ts) → SameBlocks (tree l ts)
blocks_by AsText k parent l childless H ts e h g = absurd (true≢false (sym g ∙ not_group l.kind (ap is_written e)))
blocks_by AsVoid k parent l childless H ts e h g = absurd (true≢false (sym g ∙ not_group l.kind (ap is_written e)))
blocks_by RoundCharacter k parent l childless H ts e h g = absurd (true≢false (sym g ∙ not_group l.kind (ap is_written e)))
blocks_by RoundChildren k parent l childless H ts e h g = absurd (true≢false (sym g ∙ not_group l.kind (ap is_written e)))
blocks_by (AsSection n) k parent l childless H ts e h g = absurd h
blocks_by Unwritten k parent l childless H ts e h g = h.blocks

same_blocks : (t : Tree) (k : ℕ) (parent : Kind) → WrittenIn k parent t → SameBlocks t
same_blocks (tree l ts) k parent h = blocks_by (writing l.kind) k parent l (is_childless ts) (Inside k l.kind ts) ts refl h

all_same : (ts : Trees) (k : ℕ) (parent : Kind) → AllWrittenIn k parent ts → AllSame ts
all_same no_trees k parent h = tt
all_same (one_more t ts) k parent h = (same_blocks t k parent h.0, all_same ts k parent h.2)

bordered_read : (parent : Kind) (ts : Trees) → AllSame ts → recut ts ≡ ts → recut (merged parent (unranged_all ts)) ≡ unranged_all ts
bordered_read parent ts a h = ap (cut_from false) (merged_joins parent (unranged_all ts) (all_unranged ts)).0 ∙ sym (recut_same ts a) ∙ ap unranged_all h

-- what an element holds, by the texts of its kind
pub held_read : (x : Texts) (k : ℕ) (parent : Kind) (ts : Trees) → texts_of_kind parent ≡ x → IsCutIn x ts → AllWrittenIn k parent ts
    → held_as x (merged parent (unranged_all ts)) ≡ unranged_all ts
held_read Separators k parent ts e c h = plain_read ts k parent (ap is_bordered e) h
held_read Page k parent ts e c h = plain_read ts k parent (ap is_bordered e) h
held_read Bordered k parent ts e c h = bordered_read parent ts (all_same ts k parent h) c.0
held_read OwnCharacter k parent ts e c h = plain_read ts k parent (ap is_bordered e) h
