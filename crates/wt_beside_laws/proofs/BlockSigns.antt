-- A block of the page by its lines has the nodes of these lines, and what is sent for it is a content that is read sign by sign.
use Rattle.std.proofs.Common.{arith, ◌≡◌, ℕ, ◌+◌, ◌<◌, Bool, false, List, [], ◌++◌, length, refl, sym, ap, ◌∙◌, subst}
use Rattle.wt_span.specs.Items.{Item}
use Rattle.wt_tree.specs.Kinds.{is_leaf}
use Rattle.wt_tree.specs.Tiling.{HasNoGroup, NoneIsGroup}
use Rattle.wt_tree.specs.Tree.{Tree, tree, Trees, label}
use Rattle.wt_tree.specs.declared.edit_shape.Place.{Place}
use Rattle.wt_guards.specs.Content.{ContentSign}
use Rattle.wt_guards.specs.Guards.{Setting}
use Rattle.wt_isolation.specs.OpenTags.{any_ends_open}
use Rattle.wt_inline.specs.ItemTree.{plain, ItemTree, inner, forest}
use Rattle.wt_inline.specs.Parts.{Part, children}
use Rattle.wt_annotated.specs.Labels.{label_at}
use Rattle.wt_link_spelling.specs.Spelling.{signs_of_all, children_of}
use Rattle.wt_part_laws.specs.Standing.{standing}
use Rattle.wt_original.specs.Kept.{KeptNode, found_from, found_in}
use Rattle.wt_original.specs.Page.{page_of, TellsSame}
use Rattle.wt_typed_blocks.specs.Sent.{Block, paragraph, heading, kind_of}
use Rattle.wt_beside_laws.specs.Led.{AreMarksLed}
use Rattle.wt_beside_laws.specs.Content.{AreKept}
use Rattle.wt_beside_laws.specs.Flat.{IsFlatContent}
use Rattle.wt_beside_laws.specs.Lines.{AreCharacters}
use Rattle.wt_beside_laws.specs.Nodes.{AllStayOpen}
use Rattle.wt_beside_laws.specs.OwnSigns.{own_signs, HaveOwn, IsFlatBlock}
use Rattle.wt_beside_laws.specs.PageBlocks.{AreUnstyled, AreShut, ShowSources, AreSoIn, IsBlockOfLines}
use Rattle.wt_text_edit_laws.specs.ParagraphParts.{joined_parts}
use Rattle.wt_beside_laws.specs.PageSigns.{signs_of_lines, AreFlatLines}
use Rattle.wt_beside_laws.specs.SentNodes.{AreSent, numbers}
use Rattle.wt_beside_laws.specs.Stood.{things}
use Rattle.wt_beside_laws.proofs.BlockNumbers.{block_counts}
use Rattle.wt_beside_laws.proofs.FlatContents.{flat_content}
use Rattle.wt_beside_laws.proofs.LineThings.{lines_have}
use Rattle.wt_beside_laws.proofs.OwnSigns.{Every, Finds, all_found, inside_found, held_if, own_content, own_sent}
use Rattle.wt_beside_laws.proofs.PartThings.{nodes_of, own_things, have_own, show_sources, ShutThings, shut_things, none_open, are_shut}
use Rattle.wt_beside_laws.proofs.SentNodes.{same_nodes}

-- ---- the block

abbrev pub block_by : Block → List Item → List Part → List Item → ItemTree
block_by k opening ps closing = inner (plain (kind_of k)) opening (forest (children ps)) closing

pub its_children : (k : Block) (n : ℕ) (before opening closing : List Item) (ps : List Part)
    → children_of (standing n before (block_by k opening ps closing)) ≡ nodes_of (n + 1) (before ++ opening) (forest (children ps))
unfolding label_at
its_children paragraph n before opening closing ps = refl
its_children (heading i) n before opening closing ps = refl

pub no_leaf : (k : Block) (n : ℕ) (before opening closing : List Item) (ps : List Part)
    → is_leaf (label (standing n before (block_by k opening ps closing))).kind ≡ false
unfolding label_at
no_leaf paragraph n before opening closing ps = refl
no_leaf (heading i) n before opening closing ps = refl

none_in : (t : Tree) → HasNoGroup t → NoneIsGroup (children_of t)
none_in (tree l ts) h = h.1

-- with these nodes, wherever they are
flat_by : (k : Block) (n : ℕ) (before opening closing : List Item) (ls : List (List Item)) → 0 < n
    → HasNoGroup (standing n before (block_by k opening (joined_parts ls) closing)) → AreUnstyled ls → AreFlatLines ls
    → IsFlatBlock (standing n before (block_by k opening (joined_parts ls) closing))
flat_by k n before opening closing ls some g u f =
    let ps : List Part = joined_parts ls in
    let block : Tree = standing n before (block_by k opening ps closing) in
    let own : HaveOwn (nodes_of (n + 1) (before ++ opening) (forest (children ps))) =
    have_own ps 0 (n + 1) (before ++ opening) (things (signs_of_lines 0 ls)) (omega arith) (lines_have 0 ls u f) in
    record {
      first = n;
      some = some;
      counts = block_counts n before (block_by k opening ps closing) some g;
      no_leaf = no_leaf k n before opening closing ps;
      ungrouped = none_in block g;
      own = subst HaveOwn (sym (its_children k n before opening closing ps)) own;
    }

pub flat_block : (ls : List (List Item)) (block : Tree) → AreFlatLines ls → AreUnstyled ls → IsBlockOfLines ls block → IsFlatBlock block
flat_block ls block f u b =
    subst IsFlatBlock (sym b.is) (flat_by b.form b.number b.before b.opening b.closing ls b.some (subst HasNoGroup b.is b.ungrouped) u f)

-- ---- its nodes

nodes_by : (k : Block) (block : Tree) (n at : ℕ) (before opening closing : List Item) (ls : List (List Item)) → AreUnstyled ls → AreFlatLines ls
    → AreSoIn block (things (signs_of_lines at ls))
    → things (own_signs block at at (children_of (standing n before (block_by k opening (joined_parts ls) closing)))) ≡ things (signs_of_lines at ls)
nodes_by k block n at before opening closing ls u f so =
    let ps : List Part = joined_parts ls in
    ap (λ (ts : Trees). things (own_signs block at at ts)) (its_children k n before opening closing ps)
    ∙ own_things ps block at at (n + 1) (before ++ opening) (things (signs_of_lines at ls)) (lines_have at ls u f) so

pub block_nodes : (ls : List (List Item)) (block : Tree) → AreFlatLines ls → AreUnstyled ls → IsBlockOfLines ls block
    → things (own_signs block (length (label block).opening) (length (label block).opening) (children_of block))
    ≡ things (signs_of_lines (length (label block).opening) ls)
block_nodes ls block f u b =
    let at : ℕ = length (label block).opening in
    ap (λ (t : Tree). things (own_signs block at at (children_of t))) b.is ∙ nodes_by b.form block b.number at b.before b.opening b.closing ls u f b.marks

-- ---- what is sent

pub sent_content : (same : Tree → Tree → Bool) (s : Setting) (pl : Place) (ls : List (List Item)) (block : Tree) (news : Trees) → TellsSame same → s.within ≡ false
    → AreFlatLines ls → AreUnstyled ls → IsBlockOfLines ls block → AreKept (signs_of_lines (length (label block).opening) ls)
    → AreSent (page_of same block) news → numbers news ≡ numbers (children_of block) → AreCharacters (signs_of_all (page_of same block) pl news)
    → AreMarksLed s.place (signs_of_all (page_of same block) pl news) → AllStayOpen s [] (signs_of_all (page_of same block) pl news)
    → IsFlatContent s (signs_of_all (page_of same block) pl news)
sent_content same s pl ls block news tells within f u b kept sent counted characters led unclosed =
    let flat : IsFlatBlock block = flat_block ls block f u b in
    let nodes : things (signs_of_all (page_of same block) pl news) ≡ things (signs_of_lines (length (label block).opening) ls) =
    same_nodes (page_of same block) pl (children_of block) news (own_sent same block tells flat) sent counted
    ∙ ap things (own_content same block pl tells flat) ∙ block_nodes ls block f u b in
    flat_content s ls (length (label block).opening) (signs_of_all (page_of same block) pl news) within f kept characters led nodes unclosed

-- ---- what its nodes show

pub inside : (P : KeptNode → Type 0) (t : Tree) → is_leaf (label t).kind ≡ false → Every P (found_from 0 0 t)
    → Every P (found_in (0 + length (label t).opening) (0 + length (label t).opening) (children_of t))
inside P (tree l ts) e f = inside_found P 0 0 l ts (held_if l.kind e) f

shows_by : (k : Block) (same : Tree → Tree → Bool) (n : ℕ) (before opening closing : List Item) (ls : List (List Item)) → 0 < n
    → HasNoGroup (standing n before (block_by k opening (joined_parts ls) closing)) → AreUnstyled ls → AreFlatLines ls
    → ShowSources (page_of same (standing n before (block_by k opening (joined_parts ls) closing))) (children_of (standing n before (block_by k opening (joined_parts ls) closing)))
shows_by k same n before opening closing ls some g u f =
    let ps : List Part = joined_parts ls in
    let block : Tree = standing n before (block_by k opening ps closing) in
    let at : ℕ = 0 + length (label block).opening in
    let e : children_of block ≡ nodes_of (n + 1) (before ++ opening) (forest (children ps)) = its_children k n before opening closing ps in
    let found : Every (Finds block) (found_in at at (children_of block)) =
    inside (Finds block) block (no_leaf k n before opening closing ps) (all_found block n some (block_counts n before (block_by k opening ps closing) some g)) in
    subst (ShowSources (page_of same block)) (sym e)
    (show_sources ps same block at at (n + 1) (before ++ opening) (things (signs_of_lines at ls)) (omega arith) (lines_have at ls u f)
    (subst (λ (ts : Trees). Every (Finds block) (found_in at at ts)) e found))

pub block_shows : (same : Tree → Tree → Bool) (ls : List (List Item)) (block : Tree) → AreFlatLines ls → AreUnstyled ls → IsBlockOfLines ls block
    → ShowSources (page_of same block) (children_of block)
block_shows same ls block f u b =
    subst (λ (t : Tree). ShowSources (page_of same t) (children_of t)) (sym b.is)
    (shows_by b.form same b.number b.before b.opening b.closing ls b.some (subst HasNoGroup b.is b.ungrouped) u f)

-- ---- and none ends in an open tag

pub shut_by : (k : Block) (n at : ℕ) (before opening closing : List Item) (ls : List (List Item)) → AreUnstyled ls → AreFlatLines ls → AreShut (signs_of_lines at ls)
    → any_ends_open (children_of (standing n before (block_by k opening (joined_parts ls) closing))) ≡ false
shut_by k n at before opening closing ls u f s =
    ap any_ends_open (its_children k n before opening closing (joined_parts ls))
    ∙ none_open (joined_parts ls) at (n + 1) (before ++ opening) (things (signs_of_lines at ls)) (lines_have at ls u f) (shut_things (signs_of_lines at ls) s)

pub block_shut : (ls : List (List Item)) (block : Tree) (at : ℕ) → AreFlatLines ls → AreUnstyled ls → IsBlockOfLines ls block → AreShut (signs_of_lines at ls)
    → any_ends_open (children_of block) ≡ false
block_shut ls block at f u b s =
    ap (λ (t : Tree). any_ends_open (children_of t)) b.is ∙ shut_by b.form b.number at b.before b.opening b.closing ls u f s

-- a content of these nodes
pub same_shut : (olds news : List ContentSign) → things news ≡ things olds → AreShut olds → AreShut news
same_shut olds news e h = are_shut news (subst ShutThings (sym e) (shut_things olds h))
