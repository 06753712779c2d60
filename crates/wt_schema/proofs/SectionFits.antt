-- What stands for the body or for a section fits, with each section as a node of its own; opened, it is what the
-- tree without its sections stands for.
use Rattle.std.proofs.Common.{◌≡◌, ℕ, suc, ◌+◌, ◌<◌, ◌^◌, Bool, true, false, None, List, [], ◌∷◌, refl, sym, ap, ap₂, ◌∙◌, arith, codes}
use Rattle.std.specs.Prelude.{Ok, ◌||◌, ◌&&◌, if◌then◌else◌}
use Rattle.std.specs.Option.{option_or}
use Rattle.wt_tree.specs.declared.kind.Kind.{Kind}
use Rattle.wt_tree.specs.declared.kind.Kind.TheVariants as kind
use Rattle.wt_tree.specs.declared.row.Holding.TheVariants as holding
use Rattle.wt_tree.specs.declared.row.Writing.{Writing}
use Rattle.wt_tree.specs.declared.row.Writing.TheVariants.{AsText, AsVoid, RoundCharacter, RoundChildren, AsSection, Unwritten}
use Rattle.wt_tree.specs.Kinds.{shape, writing, is_section, is_anywhere, admits, may_hold, texts_of_kind}
use Rattle.wt_tree.specs.Opened.{opened_before, all_opened_before, opened}
use Rattle.wt_recut.specs.Recut.{is_as_text, is_text, shows_block}
use Rattle.wt_recut.specs.Cutting.{begins_with_text}
use Rattle.wt_tree.specs.Tiling.{is_group}
use Rattle.wt_tree.specs.Tree.{Label, Tree, tree, Trees, none as no_trees, more as one_more}
use Rattle.wt_schema.specs.Html.{groups, groups_of_all}
use Rattle.wt_html_grammar.specs.Markup.{Markups, text, more}
use Rattle.wt_html_grammar.proofs.Reading.{and_true}
use Rattle.wt_schema.specs.declared.standing.Standing.TheVariants as stands
use Rattle.wt_schema.specs.Rows.{holds_text, shows_text}
use Rattle.wt_schema.specs.Data.{is_empty, no_data}
use Rattle.wt_schema.specs.Groups.{is_span, is_none, single}
use Rattle.wt_schema.specs.Fit.{label_for, are_blank, elements, fit_nodes}
use Rattle.wt_schema.specs.Unsourced.{unsourced_nodes}
use Rattle.wt_schema.specs.Sections.{all_bared}
use Rattle.wt_schema.specs.GroupNodes.{elements_for, group_nodes}
use Rattle.wt_schema.specs.Written.{unranged, unranged_all, leaf_kind, IsWrittenGroup, is_childless, NodeIsWritten, WrittenIn, PartIn, PartsIn}
use Rattle.wt_schema.proofs.Bare.{others_read}
use Rattle.wt_schema.proofs.Tags.{text_before}
use Rattle.wt_schema.proofs.GroupItems.{group_markups}
use Rattle.wt_schema.proofs.Elements.{is_written, not_group, Inside, inside_number, markup_before, markups_of}
use Rattle.wt_schema.proofs.Steps.{spot, node_step, leaf_of, Fresh, ungathered, gathered_again}
use Rattle.wt_schema.proofs.Merged.{is_bordered, text_label, plain_kind, no_children}
use Rattle.wt_schema.proofs.Ordered.{not_and, goes}
use Rattle.wt_schema.proofs.Fits.{text_alone, text_facts, text_markup, other_fit, items_fit, item_sourced}
use Rattle.wt_schema.proofs.SectionItems.{is_as_section, by_part, section_number}
use Rattle.wt_schema.proofs.SectionBared.{node_bared, bare_section, section_bared, parts_blank, parts_fresh, before_parts}

-- ---- what is read

abbrev pub section_label : Label
section_label = label_for (kind.Section 0) [] no_data []

abbrev mutual
  pub part_read : Tree → Tree
  part_read (tree l ts) = if is_as_section (writing l.kind) then tree section_label (parts_read ts) else unranged (tree l ts)

  pub parts_read : Trees → Trees
  parts_read no_trees = no_trees
  parts_read (one_more t ts) = one_more (part_read t) (parts_read ts)

section_read : (n : ℕ) (l : Label) (ts : Trees) → writing l.kind ≡ AsSection n → part_read (tree l ts) ≡ tree section_label (parts_read ts)
section_read n l ts e = ap (λ w. if is_as_section w then tree section_label (parts_read ts) else unranged (tree l ts)) e

no_section_node : (w : Writing) (k : ℕ) (parent : Kind) (l : Label) (childless : Bool) (H G : Type 0) → NodeIsWritten w k parent l childless H G
    → is_as_section w ≡ false
no_section_node AsText k parent l childless H G h = refl
no_section_node AsVoid k parent l childless H G h = refl
no_section_node RoundCharacter k parent l childless H G h = refl
no_section_node RoundChildren k parent l childless H G h = refl
no_section_node (AsSection n) k parent l childless H G h = absurd h
no_section_node Unwritten k parent l childless H G h = refl

node_read : (l : Label) (ts : Trees) (k : ℕ) (parent : Kind) → WrittenIn k parent (tree l ts) → part_read (tree l ts) ≡ unranged (tree l ts)
node_read l ts k parent h =
    ap (λ b. if b then tree section_label (parts_read ts) else unranged (tree l ts))
    (no_section_node (writing l.kind) k parent l (is_childless ts) (Inside k l.kind ts) (IsWrittenGroup k parent l ts) h)

-- ---- a kind that holds blocks, as the body does

pub record HoldsBlocks (parent : Kind) : Type 0 where
  pub shows : shows_text parent ≡ false
  pub blank : holds_text parent ≡ false
  pub bordered : is_bordered (texts_of_kind parent) ≡ false
  pub holding : (shape parent).holding ≡ holding.Blocks

pub body_holds : HoldsBlocks kind.Body
body_holds = record { shows = refl; blank = refl; bordered = refl; holding = refl }

section_holds : HoldsBlocks (kind.Section 0)
section_holds = record { shows = refl; blank = refl; bordered = refl; holding = refl }

holds_sections : (parent : Kind) → HoldsBlocks parent → may_hold parent (kind.Section 0) ≡ true
holds_sections parent p = ap (λ h. is_anywhere (shape (kind.Section 0)).class || admits h (shape (kind.Section 0)).class) p.holding

-- ---- a text

text_by : (w : Writing) (k : ℕ) (parent : Kind) (l : Label) (us : Trees) (H G : Type 0) → writing l.kind ≡ w → is_as_text w ≡ true
    → is_bordered (texts_of_kind parent) ≡ false → NodeIsWritten w k parent l (is_childless us) H G → leaf_of parent l.own ≡ unranged (tree l us)
text_by AsText k parent l us H G e a b h =
    ap₂ tree (text_label parent l (plain_kind (texts_of_kind parent) (leaf_kind parent) l.kind b h.0.kind) h.0) (sym (no_children us h.1))
    ∙ sym (others_read l us (not_group l.kind (ap is_written e)))
text_by AsVoid k parent l us H G e a b h = absurd (cc a)
text_by RoundCharacter k parent l us H G e a b h = absurd (cc a)
text_by RoundChildren k parent l us H G e a b h = absurd (cc a)
text_by (AsSection n) k parent l us H G e a b h = absurd (cc a)
text_by Unwritten k parent l us H G e a b h = absurd (cc a)

-- ---- a node, before what follows it

node_fit : (x : Bool) (k : ℕ) (parent : Kind) (b : Bool) (l : Label) (us vs : Trees) (rest : Markups) (i n : ℕ) → is_as_text (writing l.kind) ≡ x
    → HoldsBlocks parent → WrittenIn k parent (tree l us) → i + groups (tree l us) < 2 ^ 64 → Fresh rest
    → (is_as_text (writing l.kind) ≡ true → is_empty l.own ≡ false → text_before l.own rest ≡ more (text l.own) rest)
    → ((c : Bool) (m : ℕ) → fit_nodes m (spot parent false c None) rest ≡ Ok (ungathered vs))
    → fit_nodes n (spot parent false b None) (markup_before i (tree l us) rest) ≡ Ok (ungathered (one_more (unranged (tree l us)) vs))
node_fit true k parent b l us vs rest i n a p h small x f g =
    ap (fit_nodes n (spot parent false b None))
    (text_markup (writing l.kind) l (markups_of i us) (group_markups true (suc i) l (elements_for us) rest) rest a
    ∙ f a (text_facts (writing l.kind) k parent l (is_childless us) (Inside k l.kind us) (IsWrittenGroup k parent l us) a h))
    ∙ text_alone n parent b l.own rest vs p.shows (g b)
    ∙ ap (λ t. Ok (ungathered (one_more t vs)))
    (text_by (writing l.kind) k parent l us (Inside k l.kind us) (IsWrittenGroup k parent l us) refl a p.bordered h)
node_fit false k parent b l us vs rest i n a p h small x f g =
    other_fit k parent b l us vs rest i a h (goes (tree l us) k parent b p.holding h) small x
    (λ e s w c m. items_fit us (suc k) l.kind false i s w (inside_number i l us small e) c m)
    (λ m. g (b || shows_block (tree l us)) m) n

-- ---- a section, before what follows it

or_same : (b : Bool) → (b || false) ≡ b
or_same true = refl
or_same false = refl

section_fit : (parent : Kind) (b : Bool) (m rest : Markups) (us vs : Trees) (n : ℕ) → HoldsBlocks parent → are_blank m ≡ true
    → ((n : ℕ) → fit_nodes n (spot (kind.Section 0) false false None) m ≡ Ok (ungathered us))
    → ((n : ℕ) → fit_nodes n (spot parent false b None) rest ≡ Ok (ungathered vs))
    → fit_nodes n (spot parent false b None) (more (bare_section m) rest) ≡ Ok (ungathered (one_more (tree section_label us) vs))
section_fit parent b m rest us vs n p e f g =
    node_step n (spot parent false b None) stands.Alone (kind.Section 0) (codes "section") [] no_data m rest (ungathered us) (ungathered vs)
    refl refl (ap (λ x. x || (false && (is_span (kind.Section 0) && is_none m))) (and_true _ _ (holds_sections parent p) (not_and b false refl)))
    refl e (f (suc n)) (λ k. ap (λ x. fit_nodes k (spot parent false x None) rest) (or_same b) ∙ g k)
    ∙ ap (λ ts. Ok (single (tree section_label ts) ∷ ungathered vs)) (gathered_again us)

-- ---- all that stands there

mutual
  part_fit : (t : Tree) (k : ℕ) (parent : Kind) (b : Bool) (vs : Trees) (rest : Markups) (i n : ℕ) → HoldsBlocks parent → PartIn k parent t
      → i + groups t < 2 ^ 64 → Fresh (all_bared rest)
      → (is_text t ≡ true → (own : List ℕ) → is_empty own ≡ false → text_before own (all_bared rest) ≡ more (text own) (all_bared rest))
      → ((c : Bool) (m : ℕ) → fit_nodes m (spot parent false c None) (all_bared rest) ≡ Ok (ungathered vs))
      → fit_nodes n (spot parent false b None) (all_bared (markup_before i t rest)) ≡ Ok (ungathered (one_more (part_read t) vs))
  part_fit (tree l us) k parent b vs rest i n p h small x f g =
      by_part (fit_nodes n (spot parent false b None) (all_bared (markup_before i (tree l us) rest)) ≡ Ok (ungathered (one_more (part_read (tree l us)) vs)))
      (writing l.kind) k (PartsIn (suc k) (kind.Section 0) us) (WrittenIn k parent (tree l us)) h
      (λ w. ap (fit_nodes n (spot parent false b None)) (node_bared (tree l us) k parent i rest w)
      ∙ node_fit (is_as_text (writing l.kind)) k parent b l us vs (all_bared rest) i n refl p w small x (λ a s. f a l.own s) g
      ∙ ap (λ t. Ok (ungathered (one_more t vs))) (sym (node_read l us k parent w)))
      (λ j e d s q. ap (fit_nodes n (spot parent false b None)) (section_bared j l us i rest e)
      ∙ section_fit parent b (all_bared (markups_of i us)) (all_bared rest) (parts_read us) vs n p
      (parts_blank us (suc k) (kind.Section 0) i section_holds.blank q)
      (λ m. parts_fit us (suc k) (kind.Section 0) false i m section_holds q (section_number i l us j small e)) (g b)
      ∙ ap (λ t. Ok (ungathered (one_more t vs))) (sym (section_read j l us e)))

  pub parts_fit : (ts : Trees) (k : ℕ) (parent : Kind) (b : Bool) (i n : ℕ) → HoldsBlocks parent → PartsIn k parent ts → i + groups_of_all ts < 2 ^ 64
      → fit_nodes n (spot parent false b None) (all_bared (markups_of i ts)) ≡ Ok (ungathered (parts_read ts))
  parts_fit no_trees k parent b i n p h small = refl
  parts_fit (one_more t ts) k parent b i n p h small =
      let j : ℕ = i + groups t in
      let behind : j + groups_of_all ts < 2 ^ 64 = omega (arith, small) in
      part_fit t k parent b (parts_read ts) (markups_of j ts) i n p h.0 (omega (arith, small)) (parts_fresh ts k parent j h.2 behind)
      (λ a own s. before_parts ts k parent j own h.2 (sym (ap (λ x. x && begins_with_text ts) a) ∙ h.1) s)
      (λ c m. parts_fit ts k parent c j m p h.2 behind)

-- ---- opened

-- a section is one by how it is written
by_writing : (k : Kind) → is_as_section (writing k) ≡ is_section k
by_writing (kind.Section n) = refl
by_writing k = refl

opened_by : (x : Bool) (l : Label) (ts us rest : Trees) → is_section l.kind ≡ x → all_opened_before us (unranged_all rest) ≡ unranged_all (all_opened_before ts rest)
    → opened_before (if x then tree section_label us else unranged (tree l ts)) (unranged_all rest)
    ≡ unranged_all (if x then all_opened_before ts rest else one_more (tree l ts) rest)
opened_by true l ts us rest e f = f
opened_by false l ts us rest e f =
    ap (λ y. if y then all_opened_before (if is_group l.kind then group_nodes ts else unranged_all ts) (unranged_all rest)
    else one_more (unranged (tree l ts)) (unranged_all rest)) e

mutual
  part_opened : (t : Tree) (rest : Trees) → opened_before (part_read t) (unranged_all rest) ≡ unranged_all (opened_before t rest)
  part_opened (tree l ts) rest =
      ap (λ x. opened_before (if x then tree section_label (parts_read ts) else unranged (tree l ts)) (unranged_all rest)) (by_writing l.kind)
      ∙ opened_by (is_section l.kind) l ts (parts_read ts) rest refl (all_parts_opened ts rest)

  all_parts_opened : (ts rest : Trees) → all_opened_before (parts_read ts) (unranged_all rest) ≡ unranged_all (all_opened_before ts rest)
  all_parts_opened no_trees rest = refl
  all_parts_opened (one_more t ts) rest = ap (opened_before (part_read t)) (all_parts_opened ts rest) ∙ part_opened t (all_opened_before ts rest)

pub parts_opened : (ts : Trees) → opened (parts_read ts) ≡ unranged_all (opened ts)
parts_opened ts = all_parts_opened ts no_trees

-- ---- sources

section_sourced : (m rest : Markups) (n : ℕ) → unsourced_nodes (suc n) None m ≡ None → ((n : ℕ) → unsourced_nodes n None rest ≡ None)
    → unsourced_nodes n None (more (bare_section m) rest) ≡ None
section_sourced m rest n e g = ap₂ option_or e (g (n + elements (bare_section m)))

mutual
  part_sourced : (t : Tree) (k : ℕ) (parent : Kind) (rest : Markups) (i n : ℕ) → PartIn k parent t → i + groups t < 2 ^ 64 → Fresh (all_bared rest)
      → ((n : ℕ) → unsourced_nodes n None (all_bared rest) ≡ None) → unsourced_nodes n None (all_bared (markup_before i t rest)) ≡ None
  part_sourced (tree l ts) k parent rest i n h small x g =
      by_part (unsourced_nodes n None (all_bared (markup_before i (tree l ts) rest)) ≡ None) (writing l.kind) k (PartsIn (suc k) (kind.Section 0) ts)
      (WrittenIn k parent (tree l ts)) h
      (λ w. ap (unsourced_nodes n None) (node_bared (tree l ts) k parent i rest w) ∙ item_sourced (tree l ts) k parent (all_bared rest) i n w small x g)
      (λ j e d s q. ap (unsourced_nodes n None) (section_bared j l ts i rest e)
      ∙ section_sourced (all_bared (markups_of i ts)) (all_bared rest) n
      (parts_sourced ts (suc k) (kind.Section 0) i (suc n) q (section_number i l ts j small e)) g)

  pub parts_sourced : (ts : Trees) (k : ℕ) (parent : Kind) (i n : ℕ) → PartsIn k parent ts → i + groups_of_all ts < 2 ^ 64
      → unsourced_nodes n None (all_bared (markups_of i ts)) ≡ None
  parts_sourced no_trees k parent i n h small = refl
  parts_sourced (one_more t ts) k parent i n h small =
      let j : ℕ = i + groups t in
      let behind : j + groups_of_all ts < 2 ^ 64 = omega (arith, small) in
      part_sourced t k parent (markups_of j ts) i n h.0 (omega (arith, small)) (parts_fresh ts k parent j h.2 behind)
      (λ n. parts_sourced ts k parent j n h.2 behind)
