-- Worked case: the paragraph `{{t}} is`, where `Template:T` is a word, is texts and calls alone; so texts may be typed beside its call.
use Rattle.std.proofs.Common.{◌≡◌, List, ℕ, refl, sym, subst, inl}
use Rattle.wt_tree.specs.Source.{flat}
use Rattle.wt_slices.specs.Changes.{Pair}
use Rattle.wt_beside_laws.proofs.Groups.Cases.{a_word}
use Rattle.wt_called_edit_laws.specs.PiecedParagraphs.{IsTextAndCalls}
use Rattle.wt_called_edit_laws.proofs.Beside.FirstCases.{text_and_calls, calls_apart, block, block_source}
use Rattle.wt_inside_laws.specs.BesideEdits.{IsBesideBlock}
use Rattle.wt_inside_laws.specs.TextAndCallBlocks.{DoCallsMeet, IsTextAndCallBlock}
use Rattle.wt_inside_laws.proofs.TextAndCallBlocks.{takes_texts, paragraph_takes}

is_such : IsTextAndCallBlock a_word block
is_such =
    let h : (g : IsTextAndCalls a_word (flat block)) × DoCallsMeet a_word block g.pieces =
    subst (λ (x : List ℕ). (g : IsTextAndCalls a_word x) × DoCallsMeet a_word block g.pieces) (sym block_source) (text_and_calls, inl calls_apart) in
    paragraph_takes a_word block refl h.0 h.1

-- whatever page it is in
pub takes : (page : List ℕ) (p : Pair) → p.old ≡ block → IsBesideBlock a_word page p
takes page p e = takes_texts a_word page p (subst (IsTextAndCallBlock a_word) (sym e) is_such)
