-- A flat page: its tree, its paragraph, and what refuses it.
use Rattle.std.proofs.Common.{arith, ◌≡◌, ◌≢◌, ℕ, false, Option, Some, None, List, [], ◌∷◌, ◌++◌, refl, sym, ap, ap₂, ◌∙◌, subst, append-nil, Bool}
use Rattle.std.specs.Prelude.{◌||◌, take, length}
use Rattle.std.specs.Str.{IsUtf8}
use Rattle.wt_span.specs.Items.{Item, sources}
use Rattle.wt_devices.specs.Device.{Pages}
use Rattle.wt_tree.specs.declared.kind.Kind.{Kind}
use Rattle.wt_tree.specs.declared.kind.Kind.TheVariants as kind
use Rattle.wt_tree.specs.declared.kind.Ranges.{Ranges}
use Rattle.wt_tree.specs.Source.{flat, flat_of_all}
use Rattle.wt_tree.specs.Tiling.{HasNoGroup, NoneIsGroup}
use Rattle.wt_tree.specs.Tree.{Label, Tree, tree, Trees, label}
use Rattle.wt_checks.specs.PutBack.{have_frame}
use Rattle.wt_link_spelling.specs.Spelling.{children_of}
use Rattle.wt_expand.specs.PageCalls.{expanded_page}
use Rattle.wt_expand.specs.PageItems.{page_items}
use Rattle.wt_expand.specs.Work.{first_refusal}
use Rattle.wt_expand.specs.Expansion.{page_work}
use Rattle.wt_expand.proofs.PageLaws.{page_sources}
use Rattle.wt_inline.specs.ItemTree.{ItemTree, forest, tree_items, held_by_all}
use Rattle.wt_inline.specs.Parts.{Part, children}
use Rattle.wt_page.specs.Body.{meaning}
use Rattle.wt_page.proofs.HeldBody.{sources_meaning}
use Rattle.wt_annotated.specs.Annotated.{annotated, all_unplaced}
use Rattle.wt_annotated.specs.GroupData.{group_data}
use Rattle.wt_annotated.specs.Labels.{label_at}
use Rattle.wt_annotated.specs.WithoutCalls.{IsPlain}
use Rattle.wt_annotated.proofs.NoGroups.{only_plain}
use Rattle.wt_part_laws.specs.Standing.{standing, AreOrdinary}
use Rattle.wt_typed_blocks.specs.Sent.{paragraph}
use Rattle.wt_text_edit_laws.specs.LonePages.{of_items}
use Rattle.wt_text_edit_laws.specs.ParagraphBetween.{body_with}
use Rattle.wt_text_edit_laws.specs.Parts.{part_tree}
use Rattle.wt_text_edit_laws.proofs.Between.NoCalls.{calm_expanded, calm_unrefused}
use Rattle.wt_text_edit_laws.proofs.Blocks.BlocksUngrouped.{blocks_ungrouped}
use Rattle.wt_text_edit_laws.proofs.Blocks.KeptBlocks.{blocks_source, held_source, blocks_flat}
use Rattle.wt_text_edit_laws.proofs.Blocks.PageKinds.{page_ordinary}
use Rattle.wt_text_edit_laws.proofs.Paragraphs.PartTrees.{plain_tree}
use Rattle.wt_text_edit_laws.proofs.Prose.ProseTrees.{blocks_of}
use Rattle.wt_text_edit_laws.proofs.Texts.LoneTrees.{sized}
use Rattle.wt_isolation.specs.OpenTags.{before, ends_open, any_ends_open}
use Rattle.wt_isolation.specs.TextCalls.{touches_text_call}
use Rattle.wt_selser.specs.Edits.{is_tangled}
use Rattle.wt_selser.proofs.NoGroups.{untangled}
use Rattle.wt_text_edit_laws.proofs.Blocks.Unframed.{blocks_unframed}
use Rattle.wt_text_edit_laws.specs.ParagraphParts.{para_with, joined_parts}
use Rattle.wt_beside_laws.specs.OwnSigns.{IsFlatBlock}
use Rattle.wt_beside_laws.specs.PageBlocks.{IsBlockOfLines, AreSoIn}
use Rattle.wt_beside_laws.proofs.BlockSigns.{flat_block, block_shut}
use Rattle.wt_beside_laws.proofs.FlatLines.{lines_meaning}
use Rattle.wt_beside_laws.specs.FlatPages.{lines_of, paragraph_of, block_of, IsFlatPage}
use Rattle.wt_part_laws.proofs.Sources.{standing_source}
use Rattle.wt_lines.proofs.LineLaws.{lines_are as lines_join}
use Rattle.wt_text_edit_laws.proofs.Blocks.Contents.{block_source}
use Rattle.wt_text_edit_laws.specs.TextBlocks.{a_paragraph}
use Rattle.wt_beside_laws.specs.Content.{AreKept}
use Rattle.wt_beside_laws.specs.PageSigns.{signs_of_lines}
use Rattle.wt_beside_laws.specs.Stood.{things}
use Rattle.wt_beside_laws.proofs.Marks.Within.{marks_within, lines_source, lines_bytes}

-- ---- pages of one paragraph

-- by its tree, whatever it is
pub record IsOneBlock (q : List ℕ) (t : ItemTree) : Type 0 where
  pub utf8 : IsUtf8 q
  pub expanded : (pages : Pages) → expanded_page pages q ≡ of_items (page_items q)
  pub unrefused : (pages : Pages) → first_refusal pages q (page_work pages q) ≡ None
  pub means : meaning (page_items q) ≡ body_with (t ∷ [])
  pub plain : IsPlain (body_with (t ∷ []))

abbrev pub body_label : ItemTree → Label
body_label t = sized kind.Body 0 (held_by_all (forest (t ∷ [])) ++ []) [] []

pub one_tree : (q : List ℕ) (t : ItemTree) → IsOneBlock q t → part_tree q ≡ tree (body_label t) (blocks_of 1 [] (t ∷ []))
one_tree q t h = ap (annotated [] (group_data [])) h.means ∙ plain_tree (t ∷ []) h.plain

pub one_source : (q : List ℕ) (t : ItemTree) → IsOneBlock q t → blocks_source (t ∷ []) ≡ q
one_source q t h =
    sym (held_source (t ∷ []))
    ∙ ap sources (sym (append-nil (held_by_all (forest (t ∷ [])))))
    ∙ ap (λ m. sources (tree_items m)) (sym h.means)
    ∙ sources_meaning (page_items q)
    ∙ page_sources q

no_pages : Pages
no_pages = λ title. None

one_ordinary : (q : List ℕ) (t : ItemTree) → IsOneBlock q t → AreOrdinary (all_unplaced (forest (t ∷ [])))
one_ordinary q t h = page_ordinary no_pages q (t ∷ []) h.utf8 (h.unrefused no_pages) (h.expanded no_pages) h.means

pub one_ungrouped : (q : List ℕ) (t : ItemTree) → IsOneBlock q t → NoneIsGroup (blocks_of 1 [] (t ∷ []))
one_ungrouped q t h = blocks_ungrouped 1 [] (t ∷ []) (one_ordinary q t h)

pub one_unframed : (q : List ℕ) (t : ItemTree) → IsOneBlock q t → have_frame (blocks_of 1 [] (t ∷ [])) ≡ false
one_unframed q t h = blocks_unframed 1 [] (t ∷ []) (one_ordinary q t h)

pub one_flat : (q : List ℕ) (t : ItemTree) → IsOneBlock q t → flat_of_all (blocks_of 1 [] (t ∷ [])) ≡ q
one_flat q t h = blocks_flat 1 [] (t ∷ []) ∙ one_source q t h

-- ---- a flat page

pub flat_page : (q : List ℕ) → IsFlatPage q → IsOneBlock q (paragraph_of q)
flat_page q h =
    let means : meaning (page_items q) ≡ body_with (paragraph_of q ∷ []) = lines_meaning q h.text in
    record {
      utf8 = h.utf8;
      expanded = λ pages. calm_expanded pages q h.calls_nothing;
      unrefused = λ pages. calm_unrefused pages q h.calls_nothing;
      means = means;
      plain = only_plain [] (group_data []) (forest (paragraph_of q ∷ []))
          (subst (λ t. HasNoGroup (annotated [] (group_data []) t)) means h.ungrouped);
    }

-- ---- its paragraph

abbrev pub para_label : List Part → Label
para_label ps = sized kind.Para 1 (held_by_all (forest (children ps)) ++ []) [] []

pub label_is : (ps : List Part) → label (standing 1 [] (para_with ps)) ≡ para_label ps
unfolding label_at
label_is ps = refl

-- with children that are these
block_by : (b : Tree) (ts : Trees) → (label b).kind ≡ kind.Para → ts ≡ children_of b → tree (record (label b) { kind = kind.Para }) ts ≡ b
block_by (tree l cs) ts e is = ap (λ (k : Kind). tree (record l { kind = k }) ts) (sym e) ∙ ap (tree l) is

pub kind_is : (q : List ℕ) → (label (block_of q)).kind ≡ kind.Para
kind_is q = ap (λ (l : Label). l.kind) (label_is (joined_parts (lines_of q)))

pub block_is : (q : List ℕ) (ts : Trees) → ts ≡ children_of (block_of q) → tree (record (label (block_of q)) { kind = kind.Para }) ts ≡ block_of q
block_is q ts is = block_by (block_of q) ts (kind_is q) is

pub numbered : (q : List ℕ) → (label (block_of q)).id ≢ 0
numbered q = subst (λ (l : Label). l.id ≢ 0) (sym (label_is (joined_parts (lines_of q)))) (omega arith)

its_bytes : (q : List ℕ) → flat (block_of q) ≡ (label (block_of q)).opening ++ (lines_source (lines_of q) ++ [])
its_bytes q =
    standing_source 1 [] (paragraph_of q) ∙ block_source a_paragraph q
    ∙ sym (page_sources q) ∙ sym (lines_bytes (lines_of q) (page_items q) (lines_join (page_items q)))
    ∙ sym (append-nil (lines_source (lines_of q)))
    ∙ ap (λ (bs : List ℕ). bs ++ (lines_source (lines_of q) ++ [])) (sym (ap (λ (l : Label). l.opening) (label_is (joined_parts (lines_of q)))))

its_marks : (q : List ℕ) → IsFlatPage q → AreSoIn (block_of q) (things (signs_of_lines (length (label (block_of q)).opening) (lines_of q)))
its_marks q h =
    let none : length (label (block_of q)).opening ≡ 0 = ap (λ (l : Label). length l.opening) (label_is (joined_parts (lines_of q))) in
    marks_within (lines_of q) (block_of q) [] (its_bytes q) h.flat
    (subst (λ (n : ℕ). AreKept (signs_of_lines n (lines_of q))) (sym none) h.kept)

pub of_lines : (q : List ℕ) → IsFlatPage q → IsBlockOfLines (lines_of q) (block_of q)
of_lines q h = record {
  number = 1;
  before = [];
  form = paragraph;
  opening = [];
  closing = [];
  some = omega arith;
  is = refl;
  ungrouped = (one_ungrouped q (paragraph_of q) (flat_page q h)).0;
  marks = its_marks q h;
}

pub is_flat : (q : List ℕ) → IsFlatPage q → IsFlatBlock (block_of q)
is_flat q h = flat_block (lines_of q) (block_of q) h.flat h.unstyled (of_lines q h)

-- ---- it isn't tangled

no_text_call : (r : Option Ranges) → touches_text_call [] r ≡ false
no_text_call None = refl
no_text_call (Some r) = refl

untangled_by : (xs : List Item) (q : List ℕ) (t : Tree) → NoneIsGroup (children_of t) → ends_open (before q (label t).ranges) ≡ false
    → any_ends_open (children_of t) ≡ false → is_tangled (of_items xs) q t ≡ false
untangled_by xs q (tree l ts) g f o = untangled (of_items xs) q l ts g (no_text_call l.ranges) (ap₂ (λ (a b : Bool). a || b) f o)

nothing_before : (q : List ℕ) → ends_open (take 0 q) ≡ false
nothing_before [] = refl
nothing_before (b ∷ q) = refl

begins_page : (q : List ℕ) (l : Label) (ps : List Part) → l ≡ para_label ps → ends_open (before q l.ranges) ≡ false
begins_page q l ps is = ap (λ (k : Label). ends_open (before q k.ranges)) is ∙ nothing_before q

none_inside : (t : Tree) → HasNoGroup t → NoneIsGroup (children_of t)
none_inside (tree l ts) h = h.1

pub old_untangled : (q : List ℕ) → IsFlatPage q → is_tangled (of_items (page_items q)) q (block_of q) ≡ false
old_untangled q h =
    untangled_by (page_items q) q (block_of q) (none_inside (block_of q) (one_ungrouped q (paragraph_of q) (flat_page q h)).0)
    (begins_page q (label (block_of q)) (joined_parts (lines_of q)) (label_is (joined_parts (lines_of q))))
    (block_shut (lines_of q) (block_of q) 0 h.flat h.unstyled (of_lines q h) h.shut)
