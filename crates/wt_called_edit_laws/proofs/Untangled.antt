-- A block among calls isn't tangled: no call that is text touches it, no tag is open before it or in it, and no group in it is faulty.
use Rattle.std.proofs.Common.{arith, ◌≡◌, ℕ, suc, ◌+◌, Bool, true, false, Some, List, [], ◌∷◌, ◌++◌, length, take, refl, sym, ap, ap₂, ◌∙◌, subst, append_assoc, length-append}
use Rattle.std.specs.Prelude.{◌||◌}
use Rattle.std.proofs.Math.Seq.{take-append_seam}
use Rattle.wt_span.specs.Origins.{Expanded}
use Rattle.wt_tree.specs.declared.kind.Ranges.{Ranges}
use Rattle.wt_tree.specs.Tree.{Tree, tree, label}
use Rattle.wt_expand.specs.PageCalls.{expanded_page}
use Rattle.wt_expand.specs.Work.{Pages}
use Rattle.wt_isolation.specs.OpenTags.{ends_open, any_ends_open, before}
use Rattle.wt_isolation.specs.TextCalls.{touches_text_call}
use Rattle.wt_checks.specs.Kept.{children}
use Rattle.wt_selser.specs.Edits.{is_tangled}
use Rattle.wt_selser.specs.GroupFaults.{has_faulty_group}
use Rattle.wt_text_edit_laws.specs.BlockSpots.{BlockSpot, spots_source, AreContents, AreReadSpots}
use Rattle.wt_part_laws.specs.Placeless.{placeless}
use Rattle.wt_part_laws.specs.Standing.{standing}
use Rattle.wt_text_edit_laws.specs.TextBlocks.{source_of, block_tree}
use Rattle.wt_text_edit_laws.proofs.Blocks.BlocksAgain.{AreClear, clear_between, clear_start}
use Rattle.wt_called_edit_laws.specs.CalledBlocks.{AreAmongCalls, tree_by}
use Rattle.wt_called_edit_laws.specs.Nodes.{block_at}
use Rattle.wt_called_edit_laws.specs.Parts.{AreCalled}
use Rattle.wt_called_edit_laws.proofs.Cells.CalledFrames.{among_contents}
use Rattle.wt_called_edit_laws.specs.FreeBlocks.{AreFreeFrom}
use Rattle.wt_called_edit_laws.specs.Settled.{settled}
use Rattle.wt_called_edit_laws.specs.Untangled.{AreUntangledFrom, IsWhole, AreWhole}
use Rattle.wt_called_edit_laws.proofs.FreeBlocks.{blocks_free}
use Rattle.wt_called_edit_laws.proofs.SettledNodes.{settled_gone, placeless_twice}

-- ---- a block

none_of : (a b c d : Bool) → a ≡ false → b ≡ false → c ≡ false → d ≡ false → (a || ((b || c) || d)) ≡ false
none_of false false false false e f g h = refl
none_of true b c d e f g h = cc
none_of false true c d e f g h = cc
none_of false false true d e f g h = cc
none_of false false false true e f g h = cc

block_untangled : (items : Expanded) (page front : List ℕ) (r : Ranges) (t : Tree) → (any_ends_open (children t) ≡ false) × (has_faulty_group items (children t) ≡ false)
    → touches_text_call items.text_calls (Some r) ≡ false → take r.start page ≡ front → ends_open front ≡ false → (label t).ranges ≡ Some r
    → is_tangled items page t ≡ false
block_untangled items page front r (tree l ts) own free is clear at =
    none_of (touches_text_call items.text_calls l.ranges) (ends_open (before page l.ranges)) (any_ends_open ts) (has_faulty_group items ts)
    (ap (touches_text_call items.text_calls) at ∙ free)
    (ap (λ o. ends_open (before page o)) at ∙ ap ends_open is ∙ clear)
    own.0 own.1

-- ---- no tag is open before a block

further_clear : (front : List ℕ) (ss : List BlockSpot) (behind : List ℕ) → AreReadSpots ss behind → AreClear front ss
further_clear front [] behind h = tt
further_clear front (s ∷ ss) behind h =
    (clear_between front s.before s.block s.text h.0.led h.1, further_clear ((front ++ s.before) ++ source_of s.block s.text) ss behind h.2)

pub called_clear : (pages : Pages) (ss : List BlockSpot) (behind : List ℕ) → AreCalled pages ss behind → AreClear [] ss
called_clear pages [] behind h = absurd h
called_clear pages (s ∷ ss) behind h = (clear_start s.before s.block s.text h.0.led, further_clear (s.before ++ source_of s.block s.text) ss behind h.1)

-- ---- the blocks of a page

pub untangled_from : (items : Expanded) (page front : List ℕ) (b : ℕ → Tree) (ss : List BlockSpot) (behind : List ℕ) (at : ℕ) → page ≡ front ++ spots_source ss behind → at ≡ length front
    → AreFreeFrom items.text_calls at ss → AreClear front ss → AreWhole items b at ss → AreUntangledFrom items page b at ss
untangled_from items page front b [] behind at e i f c w = tt
untangled_from items page front b (s ∷ ss) behind at e i f c w =
    let line : List ℕ = source_of s.block s.text in
    let rest : List ℕ = spots_source ss behind in
    let all : List ℕ = front ++ s.before in
    let is : page ≡ all ++ (line ++ rest) = e ∙ sym (append_assoc front s.before (line ++ rest)) in
    let size : at + length s.before ≡ length all = let z = length-append front s.before in omega (arith, i, z) in
    let first : take (at + length s.before) page ≡ all = ap₂ (λ (n : ℕ) (bs : List ℕ). take n bs) size is ∙ take-append_seam all (line ++ rest) in
    let end : (at + length s.before) + length line ≡ length (all ++ line) = let z = length-append all line in omega (arith, size, z) in (
      λ t n first_w last_w same ranges.
          block_untangled items page all (record { start = at + length s.before; end = (at + length s.before) + length line; open_w = first_w; close_w = last_w }) t
          (subst (IsWhole items) (sym same) (w.0 n)) (f.0 first_w last_w) first c.0 ranges,
      untangled_from items page (all ++ line) (λ n. b (suc n)) ss behind ((at + length s.before) + length line) (is ∙ sym (append_assoc all line rest)) end f.1 c.1 w.1,
    )

contents_whole : (items : Expanded) (at : ℕ) (ss : List BlockSpot) → AreContents ss → AreWhole items (block_at (tree_by ss)) at ss
contents_whole items at [] c = tt
contents_whole items at (s ∷ ss) c =
    let own = c.0 in
    let start : ℕ = at + length s.before in
    let u : Tree = standing 0 [] (block_tree s.block s.text) in (
      λ n. own.untangled items (settled n start (placeless u)) (settled_gone n start (placeless u) ∙ placeless_twice u),
      contents_whole items (start + length (source_of s.block s.text)) ss c.1,
    )

pub blocks_untangled : (pages : Pages) (ss : List BlockSpot) (behind : List ℕ) → AreAmongCalls pages ss behind
    → AreUntangledFrom (expanded_page pages (spots_source ss behind)) (spots_source ss behind) (block_at (tree_by ss)) 0 ss
blocks_untangled pages ss behind h =
    untangled_from (expanded_page pages (spots_source ss behind)) (spots_source ss behind) [] (block_at (tree_by ss)) ss behind 0 refl refl (blocks_free pages ss behind h)
    (called_clear pages ss behind h.called)
    (contents_whole (expanded_page pages (spots_source ss behind)) 0 ss (among_contents pages ss behind h))
